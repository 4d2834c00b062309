use Rattle.goal_print.proofs.RoundTrip.{reads_canonical}
use Rattle.goal_print.proofs.laws.laws_of_canonical_texts.Goals as goal

pub returns : goal.returns
returns c = record { read_back = reads_canonical }
