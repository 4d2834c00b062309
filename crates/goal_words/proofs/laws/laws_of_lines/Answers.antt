-- Each law is a lemma.
use Rattle.goal_words.proofs.LawLemmas.{options_move, options_join}
use Rattle.goal_words.proofs.laws.laws_of_lines.Goals as goal

pub returns-clause-options_move : goal.returns-clause-options_move
returns-clause-options_move c = λ first before after g h whole setting group. options_move first before after g h whole setting group

pub returns-clause-options_join : goal.returns-clause-options_join
returns-clause-options_join c = λ first option value before after whole setting. options_join first option value before after whole setting
