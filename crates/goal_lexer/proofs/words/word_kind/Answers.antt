use Rattle.std.proofs.Common.{◌≡◌, ℕ, length, sym, ap, ◌∙◌}
use Rattle.goal_lexer.specs.Words.{kind_among, reserved_words}
use Rattle.goal_lexer.specs.Reserved.{words_of_length}
use Rattle.goal_lexer.proofs.ReservedWords.{kind_among_length}
use Rattle.goal_lexer.proofs.words.word_kind.Goals as goal

pub returns-in-8 : goal.returns-in-8
returns-in-8 c =
    let word = c.args.word.now in
    let eight : length word ≡ 8 = c.in-8.is in
    c.kind_of_eight.ensures
    ∙ ap (λ (n : ℕ). kind_among (words_of_length n reserved_words) word) (sym eight)
    ∙ kind_among_length reserved_words word
