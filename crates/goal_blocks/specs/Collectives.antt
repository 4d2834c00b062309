-- The ten collectives: what the slots of each rank hold at the start, and what they must hold at the end. A slot
-- without a rule is empty at the start, and may hold anything at the end.
use Rattle.std.specs.Prelude.{ℕ, ◌+◌, ◌-◌, ◌==◌, ◌&&◌, Bool, true, false, nat_lt, nat_le, [], ◌∷◌, map, if◌then◌else◌}
use Rattle.std.specs.List.{range_with_len, list_all}
use Rattle.goal_limits.specs.declared.collective.Collective.{Collective}
use Rattle.goal_limits.specs.declared.collective.Collective.TheVariants.{Bcast, Barrier, Allgather, Allreduce, Alltoall, Reduce, Gather, Scatter, ReduceScatter, Scan}
use Rattle.goal_blocks.specs.Values.{Contribution, Value, Store}

-- the value of one contribution
abbrev pub single : ℕ → ℕ → Value
single rank item = record { rank = rank; item = item } ∷ []

-- item number `item` of each of the first n ranks, once each
unfoldable pub of_each : ℕ → ℕ → Value
of_each n item = map (λ (q : ℕ). record { rank = q; item = item }) (range_with_len 0 n)

-- what slot k of rank r holds at the start, if there are `ranks` ranks
abbrev pub initial_at : Collective → ℕ → ℕ → ℕ → Value
initial_at (Bcast root) ranks r k = if (r == root) && (k == 0) then single root 0 else []
initial_at Barrier ranks r k = if k == 0 then single r 0 else []
initial_at Allgather ranks r k = if k == r then single r 0 else []
initial_at Allreduce ranks r k = if k == 0 then single r 0 else []
initial_at Alltoall ranks r k = if nat_lt k ranks then single r k else []
initial_at (Reduce root) ranks r k = if k == 0 then single r 0 else []
initial_at (Gather root) ranks r k = if k == r then single r 0 else []
initial_at (Scatter root) ranks r k = if (r == root) && nat_lt k ranks then single root k else []
initial_at ReduceScatter ranks r k = if nat_lt k ranks then single r k else []
initial_at Scan ranks r k = if k == 0 then single r 0 else []

-- the slots of all ranks at the start
unfoldable pub initial : Collective → ℕ → Store
initial what ranks r k = if nat_lt r ranks then initial_at what ranks r k else []

abbrev pub is_one : Contribution → Contribution → Bool
is_one c d = (c.rank == d.rank) && (c.item == d.item)

-- the values have the same contributions, equally often
unfoldable pub is_value : Value → Value → Bool
is_value [] [] = true
is_value (c ∷ v) (d ∷ w) = is_one c d && is_value v w
is_value _ _ = false

-- the value has the contribution at least once
unfoldable pub has_one : Value → Contribution → Bool
has_one [] c = false
has_one (d ∷ v) c = if is_one c d then true else has_one v c

-- a root that does not exist makes the condition impossible to meet
abbrev pub wanted_of_root : ℕ → ℕ → ℕ → ℕ → Value → Value → Bool
wanted_of_root root ranks r k wish v =
    if nat_lt root ranks then (if r == root then is_value v wish else true) else (if (r == 0) && (k == 0) then is_value v (single root 0) else true)

-- v is a value that slot k of rank r may hold at the end, if there are `ranks` ranks
abbrev pub wanted_at : Collective → ℕ → ℕ → ℕ → Value → Bool
wanted_at (Bcast root) ranks r k v = if k == 0 then is_value v (single root 0) else true
wanted_at Barrier ranks r k v = if k == 0 then list_all (has_one v) (of_each ranks 0) else true
wanted_at Allgather ranks r k v = if nat_lt k ranks then is_value v (single k 0) else true
wanted_at Allreduce ranks r k v = if k == 0 then is_value v (of_each ranks 0) else true
wanted_at Alltoall ranks r k v =
    if nat_le ranks k && nat_lt k (ranks + ranks) then is_value v (single (k - ranks) r) else true
wanted_at (Reduce root) ranks r k v =
    if k == 0 then wanted_of_root root ranks r k (of_each ranks 0) v else true
wanted_at (Gather root) ranks r k v =
    if nat_lt k ranks then wanted_of_root root ranks r k (single k 0) v else true
wanted_at (Scatter root) ranks r k v = if k == r then is_value v (single root r) else true
wanted_at ReduceScatter ranks r k v = if k == r then is_value v (of_each ranks r) else true
wanted_at Scan ranks r k v = if k == 0 then is_value v (of_each (r + 1) 0) else true

-- the condition on the slots of all ranks at the end
unfoldable pub wanted : Collective → ℕ → ℕ → ℕ → Value → Bool
wanted what ranks r k v = if nat_lt r ranks then wanted_at what ranks r k v else true
