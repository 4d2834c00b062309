use Rattle.std.proofs.Common.{ℕ, ◌≡◌, List, ◌++◌, ap, ◌∙◌, append-nil}
use Rattle.goal_parser.specs.Reads.{reads}
use Rattle.goal_print.specs.Canonical.{canonical}
use Rattle.goal_cli.specs.Pages.{text_of}
use Rattle.goal_cli.proofs.output.show.Goals as goal

pub returns-clause-text : goal.returns-clause-text
returns-clause-text c =
    let shown : text_of c.new-3.result ≡ canonical c.args.sched.now =
    c.new-3.ensures.text
    ∙ rw (c.new.ensures, c.new-2.ensures.items) (ap (λ (l : List ℕ). c.in_ok-head.head.items ++ l) (append-nil _) ∙ c.in_ok-head.ensures.canonical) in
    record { shown = shown; read_back = ap reads shown ∙ c.in_ok-head.ensures.read_back }
