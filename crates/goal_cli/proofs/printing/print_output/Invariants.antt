use Rattle.std.proofs.Common.{◌≡◌, ℕ, List, ◌++◌, length}
use Rattle.goal_base.specs.Device.{SinkLater, Grows}
use Rattle.goal_cli.specs.Pages.{text_of}
use Rattle.goal_cli.proofs.printing.print_output.Given as goal

-- what is written, followed by what is not yet written, is the whole text
abbrev pub invariant-pages : goal.invariant-pages
invariant-pages g l =
    let old = g.W.Sink.state l.initial.out in
    let now = g.W.Sink.state l.out in
    record {
      grown : (printed : List ℕ) × Grows old now printed × (printed ++ text_of l.output ≡ text_of l.initial.output);
      count : now.count ≡ old.count;
      later : SinkLater old now;
    }

abbrev pub decreases-pages : goal.decreases-pages
decreases-pages g l = length (text_of l.output)
