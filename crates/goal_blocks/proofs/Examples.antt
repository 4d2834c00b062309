-- The schedules of small sizes, with messages of 8 bytes, as they are worked by hand from the rounds.
use Rattle.std.specs.Prelude.{ℕ, ◌≡◌, refl, true, false, [], ◌∷◌, ◌++◌, map, Some}
use Rattle.std.specs.Int.Count.{count_leading_zeros, count_trailing_zeros}
use Rattle.std.specs.List.{range_with_len}
use Rattle.goal_graph.specs.declared.plan.Kind.TheVariants.{Calc, Send, Recv}
use Rattle.goal_graph.specs.declared.plan.Op.{Op}
use Rattle.goal_graph.specs.declared.plan.Dep.{Dep}
use Rattle.goal_graph.specs.declared.plan.When.TheVariants.{AfterEnd}
use Rattle.goal_graph.specs.declared.plan.Note.TheVariants.{Moves, Adds}
use Rattle.goal_limits.specs.declared.collective.Collective.TheVariants.{Bcast, Barrier, Allgather, Allreduce, Alltoall, Reduce, Gather, Scatter, ReduceScatter, Scan}
use Rattle.goal_blocks.specs.Collectives.{initial, single, of_each, is_value, has_one, wanted}
use Rattle.goal_blocks.specs.Entries.{plan_by, made_by}
use Rattle.goal_blocks.specs.Positions.{ahead, back, flipped, digits, low, rounds, parent, share}
use Rattle.goal_blocks.specs.Generated.{made}
use Rattle.goal_blocks.specs.Made.{bcast_in, bcast_count, barrier_in, allreduce_in, allgather_in, alltoall_in}
use Rattle.goal_blocks.specs.MadeRooted.{reduce_in, gather_in, scatter_in, reduce_scatter_in, scan_in, scan_count}

abbrev send : ℕ → ℕ → Op
send to tag = record { kind = Send 8 to tag; cpu = 0; nic = 0 }

abbrev recv : ℕ → ℕ → Op
recv from tag = record { kind = Recv 8 (Some from) (Some tag); cpu = 0; nic = 0 }

abbrev calc : Op
calc = record { kind = Calc 0; cpu = 0; nic = 0 }

abbrev after : ℕ → ℕ → Dep
after later earlier = record { later = later; earlier = earlier; when = AfterEnd }

bcast_of_five : made (Bcast 0) 5 8 ≡
    record { ops = send 1 0 ∷ send 2 1 ∷ send 4 2 ∷ []; deps = []; notes = Moves 0 0 0 ∷ Moves 1 0 0 ∷ Moves 2 0 0 ∷ [] }
    ∷ record { ops = recv 0 0 ∷ send 3 1 ∷ []; deps = after 1 0 ∷ []; notes = Moves 0 0 0 ∷ Moves 1 0 0 ∷ [] }
    ∷ record { ops = recv 0 1 ∷ []; deps = []; notes = Moves 0 0 0 ∷ [] }
    ∷ record { ops = recv 1 1 ∷ []; deps = []; notes = Moves 0 0 0 ∷ [] }
    ∷ record { ops = recv 0 2 ∷ []; deps = []; notes = Moves 0 0 0 ∷ [] }
    ∷ []
unfolding digits count_leading_zeros ahead back plan_by made_by bcast_in bcast_count made
bcast_of_five = refl

bcast_from_three : made (Bcast 3) 5 8 ≡
    record { ops = recv 3 1 ∷ []; deps = []; notes = Moves 0 0 0 ∷ [] }
    ∷ record { ops = recv 4 1 ∷ []; deps = []; notes = Moves 0 0 0 ∷ [] }
    ∷ record { ops = recv 3 2 ∷ []; deps = []; notes = Moves 0 0 0 ∷ [] }
    ∷ record { ops = send 4 0 ∷ send 0 1 ∷ send 2 2 ∷ []; deps = []; notes = Moves 0 0 0 ∷ Moves 1 0 0 ∷ Moves 2 0 0 ∷ [] }
    ∷ record { ops = recv 3 0 ∷ send 1 1 ∷ []; deps = after 1 0 ∷ []; notes = Moves 0 0 0 ∷ Moves 1 0 0 ∷ [] }
    ∷ []
unfolding digits count_leading_zeros ahead back plan_by made_by bcast_in bcast_count made
bcast_from_three = refl

barrier_of_three : made Barrier 3 8 ≡
    record { ops = send 1 0 ∷ recv 2 0 ∷ calc ∷ send 2 1 ∷ recv 1 1 ∷ calc ∷ []; deps = after 2 0 ∷ after 2 1 ∷ after 3 2 ∷ after 5 3 ∷ after 5 4 ∷ []; notes = Moves 0 0 0 ∷ Moves 1 1 1 ∷ Adds 2 1 0 ∷ Moves 3 0 0 ∷ Moves 4 2 2 ∷ Adds 5 2 0 ∷ [] }
    ∷ record { ops = send 2 0 ∷ recv 0 0 ∷ calc ∷ send 0 1 ∷ recv 2 1 ∷ calc ∷ []; deps = after 2 0 ∷ after 2 1 ∷ after 3 2 ∷ after 5 3 ∷ after 5 4 ∷ []; notes = Moves 0 0 0 ∷ Moves 1 1 1 ∷ Adds 2 1 0 ∷ Moves 3 0 0 ∷ Moves 4 2 2 ∷ Adds 5 2 0 ∷ [] }
    ∷ record { ops = send 0 0 ∷ recv 1 0 ∷ calc ∷ send 1 1 ∷ recv 0 1 ∷ calc ∷ []; deps = after 2 0 ∷ after 2 1 ∷ after 3 2 ∷ after 5 3 ∷ after 5 4 ∷ []; notes = Moves 0 0 0 ∷ Moves 1 1 1 ∷ Adds 2 1 0 ∷ Moves 3 0 0 ∷ Moves 4 2 2 ∷ Adds 5 2 0 ∷ [] }
    ∷ []
unfolding digits count_leading_zeros ahead back plan_by made_by barrier_in made
barrier_of_three = refl

allgather_of_three : made Allgather 3 8 ≡
    record { ops = send 1 0 ∷ recv 2 0 ∷ send 1 1 ∷ recv 2 1 ∷ []; deps = after 2 1 ∷ []; notes = Moves 0 0 0 ∷ Moves 1 2 2 ∷ Moves 2 2 2 ∷ Moves 3 1 1 ∷ [] }
    ∷ record { ops = send 2 0 ∷ recv 0 0 ∷ send 2 1 ∷ recv 0 1 ∷ []; deps = after 2 1 ∷ []; notes = Moves 0 1 1 ∷ Moves 1 0 0 ∷ Moves 2 0 0 ∷ Moves 3 2 2 ∷ [] }
    ∷ record { ops = send 0 0 ∷ recv 1 0 ∷ send 0 1 ∷ recv 1 1 ∷ []; deps = after 2 1 ∷ []; notes = Moves 0 2 2 ∷ Moves 1 1 1 ∷ Moves 2 1 1 ∷ Moves 3 0 0 ∷ [] }
    ∷ []
unfolding ahead back plan_by made_by allgather_in made
allgather_of_three = refl

allreduce_of_four : made Allreduce 4 8 ≡
    record { ops = send 1 0 ∷ recv 1 0 ∷ calc ∷ send 2 1 ∷ recv 2 1 ∷ calc ∷ []; deps = after 2 0 ∷ after 2 1 ∷ after 3 2 ∷ after 5 3 ∷ after 5 4 ∷ []; notes = Moves 0 0 0 ∷ Moves 1 1 1 ∷ Adds 2 1 0 ∷ Moves 3 0 0 ∷ Moves 4 2 2 ∷ Adds 5 2 0 ∷ [] }
    ∷ record { ops = send 0 0 ∷ recv 0 0 ∷ calc ∷ send 3 1 ∷ recv 3 1 ∷ calc ∷ []; deps = after 2 0 ∷ after 2 1 ∷ after 3 2 ∷ after 5 3 ∷ after 5 4 ∷ []; notes = Moves 0 0 0 ∷ Moves 1 1 1 ∷ Adds 2 1 0 ∷ Moves 3 0 0 ∷ Moves 4 2 2 ∷ Adds 5 2 0 ∷ [] }
    ∷ record { ops = send 3 0 ∷ recv 3 0 ∷ calc ∷ send 0 1 ∷ recv 0 1 ∷ calc ∷ []; deps = after 2 0 ∷ after 2 1 ∷ after 3 2 ∷ after 5 3 ∷ after 5 4 ∷ []; notes = Moves 0 0 0 ∷ Moves 1 1 1 ∷ Adds 2 1 0 ∷ Moves 3 0 0 ∷ Moves 4 2 2 ∷ Adds 5 2 0 ∷ [] }
    ∷ record { ops = send 2 0 ∷ recv 2 0 ∷ calc ∷ send 1 1 ∷ recv 1 1 ∷ calc ∷ []; deps = after 2 0 ∷ after 2 1 ∷ after 3 2 ∷ after 5 3 ∷ after 5 4 ∷ []; notes = Moves 0 0 0 ∷ Moves 1 1 1 ∷ Adds 2 1 0 ∷ Moves 3 0 0 ∷ Moves 4 2 2 ∷ Adds 5 2 0 ∷ [] }
    ∷ []
unfolding digits count_leading_zeros flipped plan_by made_by allreduce_in made
allreduce_of_four = refl

alltoall_of_three : made Alltoall 3 8 ≡
    record { ops = calc ∷ send 1 1 ∷ recv 2 1 ∷ send 2 2 ∷ recv 1 2 ∷ []; deps = []; notes = Adds 0 0 3 ∷ Moves 1 1 1 ∷ Moves 2 5 5 ∷ Moves 3 2 2 ∷ Moves 4 4 4 ∷ [] }
    ∷ record { ops = calc ∷ send 2 1 ∷ recv 0 1 ∷ send 0 2 ∷ recv 2 2 ∷ []; deps = []; notes = Adds 0 1 4 ∷ Moves 1 2 2 ∷ Moves 2 3 3 ∷ Moves 3 0 0 ∷ Moves 4 5 5 ∷ [] }
    ∷ record { ops = calc ∷ send 0 1 ∷ recv 1 1 ∷ send 1 2 ∷ recv 0 2 ∷ []; deps = []; notes = Adds 0 2 5 ∷ Moves 1 0 0 ∷ Moves 2 4 4 ∷ Moves 3 1 1 ∷ Moves 4 3 3 ∷ [] }
    ∷ []
unfolding ahead back plan_by made_by alltoall_in made
alltoall_of_three = refl

reduce_of_five : made (Reduce 0) 5 8 ≡
    record { ops = recv 1 0 ∷ calc ∷ recv 2 1 ∷ calc ∷ recv 4 2 ∷ calc ∷ []; deps = after 1 0 ∷ after 3 2 ∷ after 3 1 ∷ after 5 4 ∷ after 5 3 ∷ []; notes = Moves 0 1 1 ∷ Adds 1 1 0 ∷ Moves 2 2 2 ∷ Adds 3 2 0 ∷ Moves 4 3 3 ∷ Adds 5 3 0 ∷ [] }
    ∷ record { ops = send 0 0 ∷ []; deps = []; notes = Moves 0 0 0 ∷ [] }
    ∷ record { ops = recv 3 0 ∷ calc ∷ send 0 1 ∷ []; deps = after 1 0 ∷ after 2 1 ∷ []; notes = Moves 0 1 1 ∷ Adds 1 1 0 ∷ Moves 2 0 0 ∷ [] }
    ∷ record { ops = send 2 0 ∷ []; deps = []; notes = Moves 0 0 0 ∷ [] }
    ∷ record { ops = send 0 2 ∷ []; deps = []; notes = Moves 0 0 0 ∷ [] }
    ∷ []
unfolding digits count_leading_zeros low count_trailing_zeros rounds parent ahead back plan_by made_by reduce_in made
reduce_of_five = refl

reduce_to_two : made (Reduce 2) 6 8 ≡
    record { ops = recv 1 0 ∷ calc ∷ send 2 2 ∷ []; deps = after 1 0 ∷ after 2 1 ∷ []; notes = Moves 0 1 1 ∷ Adds 1 1 0 ∷ Moves 2 0 0 ∷ [] }
    ∷ record { ops = send 0 0 ∷ []; deps = []; notes = Moves 0 0 0 ∷ [] }
    ∷ record { ops = recv 3 0 ∷ calc ∷ recv 4 1 ∷ calc ∷ recv 0 2 ∷ calc ∷ []; deps = after 1 0 ∷ after 3 2 ∷ after 3 1 ∷ after 5 4 ∷ after 5 3 ∷ []; notes = Moves 0 1 1 ∷ Adds 1 1 0 ∷ Moves 2 2 2 ∷ Adds 3 2 0 ∷ Moves 4 3 3 ∷ Adds 5 3 0 ∷ [] }
    ∷ record { ops = send 2 0 ∷ []; deps = []; notes = Moves 0 0 0 ∷ [] }
    ∷ record { ops = recv 5 0 ∷ calc ∷ send 2 1 ∷ []; deps = after 1 0 ∷ after 2 1 ∷ []; notes = Moves 0 1 1 ∷ Adds 1 1 0 ∷ Moves 2 0 0 ∷ [] }
    ∷ record { ops = send 4 0 ∷ []; deps = []; notes = Moves 0 0 0 ∷ [] }
    ∷ []
unfolding digits count_leading_zeros low count_trailing_zeros rounds parent ahead back plan_by made_by reduce_in made
reduce_to_two = refl

gather_of_four : made (Gather 1) 4 8 ≡
    record { ops = send 3 0 ∷ []; deps = []; notes = Moves 0 0 0 ∷ [] }
    ∷ record { ops = recv 2 0 ∷ recv 3 1 ∷ []; deps = []; notes = Moves 0 2 2 ∷ Moves 1 3 3 ∷ Moves 1 0 0 ∷ [] }
    ∷ record { ops = send 1 0 ∷ []; deps = []; notes = Moves 0 2 2 ∷ [] }
    ∷ record { ops = recv 0 0 ∷ send 1 1 ∷ []; deps = after 1 0 ∷ []; notes = Moves 0 0 0 ∷ Moves 1 3 3 ∷ Moves 1 0 0 ∷ [] }
    ∷ []
unfolding digits count_leading_zeros low count_trailing_zeros rounds parent share ahead back plan_by made_by gather_in made
gather_of_four = refl

gather_to_five : made (Gather 5) 7 8 ≡
    record { ops = recv 1 0 ∷ send 5 1 ∷ []; deps = after 1 0 ∷ []; notes = Moves 0 1 1 ∷ Moves 1 0 1 ∷ [] }
    ∷ record { ops = send 0 0 ∷ []; deps = []; notes = Moves 0 1 1 ∷ [] }
    ∷ record { ops = recv 3 0 ∷ recv 4 1 ∷ send 5 2 ∷ []; deps = after 2 0 ∷ after 2 1 ∷ []; notes = Moves 0 3 3 ∷ Moves 1 4 4 ∷ Moves 2 2 4 ∷ [] }
    ∷ record { ops = send 2 0 ∷ []; deps = []; notes = Moves 0 3 3 ∷ [] }
    ∷ record { ops = send 2 1 ∷ []; deps = []; notes = Moves 0 4 4 ∷ [] }
    ∷ record { ops = recv 6 0 ∷ recv 0 1 ∷ recv 2 2 ∷ []; deps = []; notes = Moves 0 6 6 ∷ Moves 1 0 1 ∷ Moves 2 2 4 ∷ [] }
    ∷ record { ops = send 5 0 ∷ []; deps = []; notes = Moves 0 6 6 ∷ [] }
    ∷ []
unfolding digits count_leading_zeros low count_trailing_zeros rounds parent share ahead back plan_by made_by gather_in made
gather_to_five = refl

scatter_from_five : made (Scatter 5) 7 8 ≡
    record { ops = recv 5 1 ∷ send 1 0 ∷ []; deps = after 1 0 ∷ []; notes = Moves 0 0 1 ∷ Moves 1 1 1 ∷ [] }
    ∷ record { ops = recv 0 0 ∷ []; deps = []; notes = Moves 0 1 1 ∷ [] }
    ∷ record { ops = recv 5 2 ∷ send 4 1 ∷ send 3 0 ∷ []; deps = after 1 0 ∷ after 2 0 ∷ []; notes = Moves 0 2 4 ∷ Moves 1 4 4 ∷ Moves 2 3 3 ∷ [] }
    ∷ record { ops = recv 2 0 ∷ []; deps = []; notes = Moves 0 3 3 ∷ [] }
    ∷ record { ops = recv 2 1 ∷ []; deps = []; notes = Moves 0 4 4 ∷ [] }
    ∷ record { ops = send 2 2 ∷ send 0 1 ∷ send 6 0 ∷ []; deps = []; notes = Moves 0 2 4 ∷ Moves 1 0 1 ∷ Moves 2 6 6 ∷ [] }
    ∷ record { ops = recv 5 0 ∷ []; deps = []; notes = Moves 0 6 6 ∷ [] }
    ∷ []
unfolding digits count_leading_zeros low count_trailing_zeros rounds parent share ahead back plan_by made_by scatter_in made
scatter_from_five = refl

reduce_scatter_of_three : made ReduceScatter 3 8 ≡
    record { ops = send 1 0 ∷ recv 2 0 ∷ calc ∷ send 1 1 ∷ recv 2 1 ∷ calc ∷ []; deps = after 2 1 ∷ after 3 2 ∷ after 5 4 ∷ []; notes = Moves 0 2 2 ∷ Moves 1 4 4 ∷ Adds 2 4 1 ∷ Moves 3 1 1 ∷ Moves 4 3 3 ∷ Adds 5 3 0 ∷ [] }
    ∷ record { ops = send 2 0 ∷ recv 0 0 ∷ calc ∷ send 2 1 ∷ recv 0 1 ∷ calc ∷ []; deps = after 2 1 ∷ after 3 2 ∷ after 5 4 ∷ []; notes = Moves 0 0 0 ∷ Moves 1 5 5 ∷ Adds 2 5 2 ∷ Moves 3 2 2 ∷ Moves 4 4 4 ∷ Adds 5 4 1 ∷ [] }
    ∷ record { ops = send 0 0 ∷ recv 1 0 ∷ calc ∷ send 0 1 ∷ recv 1 1 ∷ calc ∷ []; deps = after 2 1 ∷ after 3 2 ∷ after 5 4 ∷ []; notes = Moves 0 1 1 ∷ Moves 1 3 3 ∷ Adds 2 3 0 ∷ Moves 3 0 0 ∷ Moves 4 5 5 ∷ Adds 5 5 2 ∷ [] }
    ∷ []
unfolding ahead back plan_by made_by reduce_scatter_in made
reduce_scatter_of_three = refl

scan_of_three : made Scan 3 8 ≡
    record { ops = send 1 0 ∷ []; deps = []; notes = Moves 0 0 0 ∷ [] }
    ∷ record { ops = recv 0 0 ∷ calc ∷ send 2 0 ∷ []; deps = after 1 0 ∷ after 2 1 ∷ []; notes = Moves 0 1 1 ∷ Adds 1 1 0 ∷ Moves 2 0 0 ∷ [] }
    ∷ record { ops = recv 1 0 ∷ calc ∷ []; deps = after 1 0 ∷ []; notes = Moves 0 1 1 ∷ Adds 1 1 0 ∷ [] }
    ∷ []
unfolding plan_by made_by scan_in scan_count made
scan_of_three = refl

alltoall_of_one : made Alltoall 1 8 ≡
    record { ops = calc ∷ []; deps = []; notes = Adds 0 0 1 ∷ [] }
    ∷ []
unfolding ahead back plan_by made_by alltoall_in made
alltoall_of_one = refl

scan_of_one : made Scan 1 8 ≡
    record { ops = []; deps = []; notes = [] }
    ∷ []
unfolding plan_by made_by scan_in scan_count made
scan_of_one = refl

gather_of_one : made (Gather 0) 1 8 ≡
    record { ops = []; deps = []; notes = [] }
    ∷ []
unfolding digits count_leading_zeros low count_trailing_zeros rounds parent share ahead back plan_by made_by gather_in made
gather_of_one = refl

-- what slots hold at the start, and must hold at the end

scatter_start : map (initial (Scatter 1) 2 1) (range_with_len 0 3) ≡ single 1 0 ∷ single 1 1 ∷ [] ∷ []
unfolding initial
scatter_start = refl

scatter_elsewhere : map (initial (Scatter 1) 2 0) (range_with_len 0 3) ≡ [] ∷ [] ∷ [] ∷ []
unfolding initial
scatter_elsewhere = refl

alltoall_end : map (λ k. wanted Alltoall 2 1 k (single 0 1)) (range_with_len 0 5) ≡ true ∷ true ∷ true ∷ false ∷ true ∷ []
unfolding wanted is_value
alltoall_end = refl

scan_end : wanted Scan 3 1 0 (single 0 0 ++ single 1 0) ≡ true
unfolding wanted of_each is_value
scan_end = refl

scan_not_all : wanted Scan 3 2 0 (single 0 0 ++ single 1 0) ≡ false
unfolding wanted of_each is_value
scan_not_all = refl

barrier_end : wanted Barrier 2 0 0 (single 0 0 ++ single 0 0 ++ single 1 0) ≡ true
unfolding wanted of_each has_one
barrier_end = refl

root_is_no_rank : map (λ r. wanted (Gather 4) 2 r 0 (single 0 0)) (range_with_len 0 2) ≡ false ∷ true ∷ []
unfolding wanted is_value
root_is_no_rank = refl
