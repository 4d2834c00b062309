-- The canonical text of small schedules.
use Rattle.std.proofs.Common.{◌≡◌, refl, [], ◌∷◌, Some, None}
use Rattle.std.specs.Prelude.{codes}
use Rattle.std.specs.Fmt.{digits}
use Rattle.goal_graph.specs.declared.plan.Kind.TheVariants.{Calc, Send, Recv}
use Rattle.goal_graph.specs.declared.plan.When.TheVariants.{AfterEnd, AfterStart}
use Rattle.goal_graph.specs.declared.plan.Note.TheVariants.{Moves, Adds}
use Rattle.goal_print.specs.Canonical.{op_lines, blocks, canonical}

two_ranks : canonical (
    record { ops = record { kind = Send 10 1 0; cpu = 0; nic = 0 } ∷ []; deps = []; notes = [] }
    ∷ record { ops = record { kind = Recv 10 (Some 0) (Some 0); cpu = 0; nic = 0 } ∷ []; deps = []; notes = [] } ∷ []
    ) ≡ codes "num_ranks 2\nrank 0 {\nl1: send 10b to 1 tag 0 cpu 0 nic 0\n}\nrank 1 {\nl1: recv 10b from 0 tag 0 cpu 0 nic 0\n}\n"
unfolding digits op_lines blocks canonical
two_ranks = refl

all_forms : canonical (
    record { ops = []; deps = []; notes = [] }
    ∷ record {
      ops = record { kind = Calc 7; cpu = 12; nic = 0 } ∷ record { kind = Recv 10 None None; cpu = 0; nic = 3 } ∷ [];
      deps = record { later = 1; earlier = 0; when = AfterEnd } ∷ record { later = 1; earlier = 0; when = AfterStart } ∷ [];
      notes = Adds 0 4 5 ∷ Moves 1 0 2 ∷ [];
    } ∷ []
    ) ≡ codes "num_ranks 2\nrank 1 {\nl1: calc 7 cpu 12\nl2: recv 10b from any tag any cpu 0 nic 3\nl2 requires l1\nl2 irequires l1\nl1 adds 4 to 5\nl2 moves 0 to 2\n}\n"
unfolding digits op_lines blocks canonical
all_forms = refl
