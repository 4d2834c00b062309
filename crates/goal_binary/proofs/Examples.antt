-- The files of two ranks, of which one sends ten bytes to the other.
use Rattle.std.proofs.Common.{◌≡◌, [], ◌∷◌, refl, Some}
use Rattle.goal_graph.specs.declared.plan.Kind.TheVariants.{Calc, Send, Recv}
use Rattle.goal_graph.specs.Schedule.{Plan}
use Rattle.goal_binary.specs.declared.layout.Layout.TheVariants.{Packed}
use Rattle.goal_binary.specs.File.{groups, fixed_op, packed_op, written, file, old, header, spelled_rank, spelled_count, spelled_counts, spelled_op}

abbrev pub sender : Plan
sender = record { ops = record { kind = Send 10 1 0; cpu = 0; nic = 0 } ∷ []; deps = []; notes = [] }

abbrev pub receiver : Plan
receiver = record { ops = record { kind = Recv 10 (Some 0) (Some 0); cpu = 0; nic = 0 } ∷ []; deps = []; notes = [] }

pub file_of_a_message : file (sender ∷ receiver ∷ []) ≡
    137 ∷ 71 ∷ 79 ∷ 65 ∷ 76 ∷ 13 ∷ 10 ∷ 26 ∷ 2 ∷ 0 ∷ 0 ∷ 0 ∷ 2
    ∷ 1 ∷ 0 ∷ 0 ∷ 1 ∷ 1 ∷ 0 ∷ 10
    ∷ 1 ∷ 0 ∷ 0 ∷ 2 ∷ 0 ∷ 0 ∷ 10 ∷ []
unfolding written header spelled_rank spelled_counts spelled_count spelled_op packed_op groups
file_of_a_message = refl

-- a calc on cpu 3, whose file ends so
abbrev pub on_cpu_3 : Plan
on_cpu_3 = record { ops = record { kind = Calc 300; cpu = 3; nic = 0 } ∷ []; deps = []; notes = [] }

pub record_of_a_calc : spelled_rank Packed on_cpu_3 ≡ 1 ∷ 0 ∷ 0 ∷ 16 ∷ 3 ∷ 172 ∷ 2 ∷ []
unfolding spelled_rank spelled_counts spelled_count spelled_op packed_op groups
record_of_a_calc = refl

pub old_file_of_a_message : old (sender ∷ receiver ∷ []) ≡
    137 ∷ 71 ∷ 79 ∷ 65 ∷ 76 ∷ 13 ∷ 10 ∷ 26 ∷ 1 ∷ 0 ∷ 0 ∷ 0 ∷ 2 ∷ 0 ∷ 0 ∷ 0
    ∷ 1 ∷ 0 ∷ 0 ∷ 0 ∷ 0 ∷ 0 ∷ 0 ∷ 0 ∷ 0 ∷ 0 ∷ 0 ∷ 0
    ∷ 1 ∷ 0 ∷ 0 ∷ 0 ∷ 1 ∷ 0 ∷ 0 ∷ 0 ∷ 0 ∷ 0 ∷ 0 ∷ 0 ∷ 0 ∷ 0 ∷ 0 ∷ 0 ∷ 10 ∷ 0 ∷ 0 ∷ 0 ∷ 0 ∷ 0 ∷ 0 ∷ 0
    ∷ 1 ∷ 0 ∷ 0 ∷ 0 ∷ 0 ∷ 0 ∷ 0 ∷ 0 ∷ 0 ∷ 0 ∷ 0 ∷ 0
    ∷ 2 ∷ 0 ∷ 0 ∷ 0 ∷ 0 ∷ 0 ∷ 0 ∷ 0 ∷ 0 ∷ 0 ∷ 0 ∷ 0 ∷ 0 ∷ 0 ∷ 0 ∷ 0 ∷ 10 ∷ 0 ∷ 0 ∷ 0 ∷ 0 ∷ 0 ∷ 0 ∷ 0 ∷ []
unfolding written header spelled_rank spelled_counts spelled_count spelled_op fixed_op
old_file_of_a_message = refl
