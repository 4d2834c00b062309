-- A schedule on other ranks: the ranks are permuted, and all peers with them.
use Rattle.std.specs.Prelude.{ℕ, ◌+◌, ◌-◌, ◌≡◌, ◌<◌, ◌≤◌, ◌↔◌, Bool, true, nat_lt, List, [], ◌∷◌, length, map, slice_get, unwrap_or, if◌then◌else◌}
use Rattle.std.specs.List.{range_with_len}
use Rattle.std.specs.Option.{option_map}
use Rattle.goal_graph.specs.declared.action.OpId.{OpId}
use Rattle.goal_graph.specs.declared.action.Class.{Class}
use Rattle.goal_graph.specs.declared.plan.Op.{Op}
use Rattle.goal_graph.specs.declared.plan.Kind.{Kind}
use Rattle.goal_graph.specs.declared.plan.Kind.TheVariants.{Calc, Send, Recv}
use Rattle.goal_graph.specs.Schedule.{Plan, op_at, needs}
use Rattle.goal_graph.specs.Action.{Act}
use Rattle.goal_graph.specs.Allowed.{allowed}
use Rattle.goal_graph.specs.Interleaving.{IsInterleaving, IsCompleteInterleaving}
use Rattle.goal_limits.specs.declared.collective.Collective.{Collective}
use Rattle.goal_limits.specs.declared.collective.Collective.TheVariants.{Bcast, Allgather, Alltoall, Reduce, Gather, Scatter, ReduceScatter, Scan}
use Rattle.goal_blocks.specs.Slots.{slots, adds}
use Rattle.goal_blocks.specs.Walk.{IsWalk}
use Rattle.goal_blocks.specs.Values.{Contribution, Value, Store, insert_one, value}
use Rattle.goal_blocks.specs.Collectives.{wanted}
use Rattle.goal_blocks.specs.Certification.{IsLight, IsCertified}
use Rattle.goal_blocks.specs.Right.{IsRightEverywhere, IsRightFor}
use Rattle.goal_blocks.specs.Renamed.{renamed}

-- a permutation of these ranks and its inverse; no other number changes
pub record IsPermutation (ranks : ℕ) (to back : ℕ → ℕ) : Type 0 where
  pub back_to : (r : ℕ) → back (to r) ≡ r
  pub to_back : (r : ℕ) → to (back r) ≡ r
  pub within : (r : ℕ) → r < ranks → to r < ranks
  pub others : (r : ℕ) → ranks ≤ r → to r ≡ r

module _ (to : ℕ → ℕ) where
  -- an operation and an action, on the permuted rank
  abbrev pub placed_op : OpId → OpId
  placed_op x = record { rank = to x.rank; op = x.op }

  abbrev pub placed_act : Act → Act
  placed_act a = record { class = a.class; op = placed_op a.op }

  -- the kind of an operation, with its peer permuted
  abbrev pub placed_kind : Kind → Kind
  placed_kind (Calc nanos) = Calc nanos
  placed_kind (Send bytes target tag) = Send bytes (to target) tag
  placed_kind (Recv room source tag) = Recv room (option_map to source) tag

  abbrev pub placed_of : Op → Op
  placed_of o = record { kind = placed_kind o.kind; cpu = o.cpu; nic = o.nic }

  abbrev pub placed_plan : Plan → Plan
  placed_plan p = record { ops = map placed_of p.ops; deps = p.deps; notes = p.notes }

  -- The other schedule is this one on the permuted ranks.
  pub record IsPlaced (plans other : List Plan) : Type 0 where
    pub ranks : length other ≡ length plans
    pub ops : (x : OpId) → op_at other (placed_op x) ≡ option_map placed_of (op_at plans x)
    pub needs : (x : OpId) → needs other (placed_op x) ≡ needs plans x
    pub moves : (x : OpId) → slots other (placed_op x) ≡ slots plans x
    pub adds : (x : OpId) → adds other (placed_op x) ≡ adds plans x

-- the plan of a rank
abbrev pub plan_at : List Plan → ℕ → Plan
plan_at plans rank = unwrap_or (slice_get plans rank) (record { ops = []; deps = []; notes = [] })

-- the schedule on the permuted ranks: rank r has the plan of the rank that is mapped to it
unfoldable pub placed : (ℕ → ℕ) → (ℕ → ℕ) → List Plan → List Plan
placed to back plans =
    map (λ (r : ℕ). placed_plan to (plan_at plans (back r))) (range_with_len 0 (length plans))

-- a value with its contributions replaced, and sorted again
unfoldable pub relabelled : (Contribution → Contribution) → Value → Value
relabelled label [] = []
relabelled label (c ∷ v) = insert_one (label c) (relabelled label v)

-- The laws hold for all schedules. The function `laws_of_placed_schedules` ensures each of them.

abbrev pub PlacedIsPlaced : Type 0
PlacedIsPlaced = (to back : ℕ → ℕ) (plans : List Plan) → IsPermutation (length plans) to back → IsPlaced to plans (placed to back plans)

-- after the permuted actions, the permuted schedule allows the permuted actions, with the permuted sends eager
abbrev pub PlacedIsAllowedAlike : Type 0
PlacedIsAllowedAlike = (to back : ℕ → ℕ) (plans other : List Plan) (eager : OpId → Bool) (h : List Act) (class : Class) (x : OpId)
    → IsPermutation (length plans) to back
    → IsPlaced to plans other
    → allowed other eager (map (placed_act to) h) class (placed_op to x) ≡ allowed plans (λ (y : OpId). eager (placed_op to y)) h class x

-- the permuted interleavings are its interleavings, and the permuted complete ones its complete ones
abbrev pub PlacedInterleavesAlike : Type 0
PlacedInterleavesAlike = (to back : ℕ → ℕ) (plans other : List Plan) (eager : OpId → Bool) (h : List Act)
    → IsPermutation (length plans) to back
    → IsPlaced to plans other
    → (IsInterleaving other eager (map (placed_act to) h) ↔ IsInterleaving plans (λ (y : OpId). eager (placed_op to y)) h) × (IsCompleteInterleaving other eager (map (placed_act to) h) ↔ IsCompleteInterleaving plans (λ (y : OpId). eager (placed_op to y)) h)

-- from a start with relabelled contributions, the permuted rank holds what the rank holds, relabelled
abbrev pub PlacedHoldsAlike : Type 0
PlacedHoldsAlike = (to back : ℕ → ℕ) (plans other : List Plan) (label : Contribution → Contribution) (eager : OpId → Bool) (first start : Store) (h : List Act)
    → IsPermutation (length plans) to back
    → IsPlaced to plans other
    → ((rank slot : ℕ) → start (to rank) slot ≡ relabelled label (first rank slot))
    → (rank slot : ℕ)
    → value other eager start (map (placed_act to) h) (to rank) slot ≡ relabelled label (value plans (λ (y : OpId). eager (placed_op to y)) first h rank slot)

-- the permuted schedule's condition at the end asks no more than that of the schedule
abbrev pub AsksNoMore : (ℕ → ℕ) → (Contribution → Contribution) → ℕ → (ℕ → ℕ → Value → Bool) → (ℕ → ℕ → Value → Bool) → Type 0
AsksNoMore to label ranks wanted wish =
    (rank slot : ℕ) (v : Value) → rank < ranks → wanted rank slot v ≡ true → wish (to rank) slot (relabelled label v) ≡ true

-- a schedule that is right everywhere is right everywhere on other ranks
abbrev pub PlacedIsRight : Type 0
PlacedIsRight = (to back : ℕ → ℕ) (plans other : List Plan) (label : Contribution → Contribution) (first start : Store) (wanted wish : ℕ → ℕ → Value → Bool)
    → IsPermutation (length plans) to back
    → IsPlaced to plans other
    → ((rank slot : ℕ) → start (to rank) slot ≡ relabelled label (first rank slot))
    → AsksNoMore to label (length plans) wanted wish
    → IsRightEverywhere plans first wanted
    → IsRightEverywhere other start wish

-- A certified schedule is certified on other ranks, if few enough contributions are held along the walk there. The walk
-- takes ranks in order, so there it takes the actions in another order.
abbrev pub PlacedIsCertified : Type 0
PlacedIsCertified = (to back : ℕ → ℕ) (plans : List Plan) (label : Contribution → Contribution) (first start : Store) (wanted wish : ℕ → ℕ → Value → Bool)
    → IsPermutation (length plans) to back
    → ((rank slot : ℕ) → start (to rank) slot ≡ relabelled label (first rank slot))
    → AsksNoMore to label (length plans) wanted wish
    → ((w : List Act) → IsWalk (placed to back plans) w → IsLight (placed to back plans) start w)
    → IsCertified plans first wanted
    → IsCertified (placed to back plans) start wish

-- Collectives on other ranks: the root is permuted too, and so are slots and items that belong to ranks.

abbrev pub moved_along : (ℕ → ℕ) → Collective → Collective
moved_along to (Bcast root) = Bcast (to root)
moved_along to (Reduce root) = Reduce (to root)
moved_along to (Gather root) = Gather (to root)
moved_along to (Scatter root) = Scatter (to root)
moved_along to what = what

-- the meaning of a scan depends on the order of the ranks, so it allows no permutation; a root must be a rank
abbrev pub CanBePlaced : Collective → ℕ → Type 0
CanBePlaced (Bcast root) ranks = root < ranks
CanBePlaced (Reduce root) ranks = root < ranks
CanBePlaced (Gather root) ranks = root < ranks
CanBePlaced (Scatter root) ranks = root < ranks
CanBePlaced Scan ranks = ⊥
CanBePlaced _ ranks = Unit {0}

-- slots that a collective assigns to ranks are permuted with them
abbrev pub placed_slot : (ℕ → ℕ) → Collective → ℕ → ℕ → ℕ
placed_slot to Allgather ranks slot = to slot
placed_slot to (Gather root) ranks slot = to slot
placed_slot to (Scatter root) ranks slot = to slot
placed_slot to ReduceScatter ranks slot = to slot
placed_slot to Alltoall ranks slot =
    if nat_lt slot ranks then to slot else ranks + to (slot - ranks)
placed_slot to _ ranks slot = slot

-- the schedule of a collective on the permuted ranks
abbrev pub placed_for : Collective → (ℕ → ℕ) → (ℕ → ℕ) → List Plan → List Plan
placed_for what to back plans =
    placed to back (renamed (λ rank slot. placed_slot to what (length plans) slot) plans)

-- a schedule that does the collective everywhere does it on other ranks, with the root permuted too
abbrev pub PlacedCollectiveIsRight : Type 0
PlacedCollectiveIsRight = (what : Collective) (to back : ℕ → ℕ) (plans : List Plan)
    → IsPermutation (length plans) to back
    → CanBePlaced what (length plans)
    → IsRightFor what plans
    → IsRightFor (moved_along to what) (placed_for what to back plans)
