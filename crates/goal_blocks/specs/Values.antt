-- The values of slots after a list of actions, which is newest first.
use Rattle.std.specs.Prelude.{ℕ, ◌==◌, ◌&&◌, ◌||◌, nat_lt, Bool, List, [], ◌∷◌, map, Option, Some, None, if◌then◌else◌}
use Rattle.goal_graph.specs.declared.action.OpId.{OpId}
use Rattle.goal_graph.specs.declared.action.Class.{Class}
use Rattle.goal_graph.specs.declared.action.Class.TheVariants.{Serve, Data, Begin}
use Rattle.goal_graph.specs.declared.plan.Kind.{Kind}
use Rattle.goal_graph.specs.declared.plan.Kind.TheVariants.{Calc, Send, Recv}
use Rattle.goal_graph.specs.Schedule.{Plan, kind_at}
use Rattle.goal_graph.specs.Action.{Act, same_op}
use Rattle.goal_graph.specs.Matching.{pairs, partner}
pub use Rattle.goal_blocks.specs.declared.contribution.Contribution.{Contribution}
use Rattle.goal_blocks.specs.Slots.{Adding, slots, adds}

-- sorted contributions, each as often as it was combined
abbrev pub Value : Type 0
Value = List Contribution

-- for each rank, the value of each slot
abbrev pub Store : Type 0
Store = ℕ → ℕ → Value

abbrev pub is_lower : Contribution → Contribution → Bool
is_lower c d = nat_lt c.rank d.rank || ((c.rank == d.rank) && nat_lt c.item d.item)

unfoldable pub insert_one : Contribution → Value → Value
insert_one c [] = c ∷ []
insert_one c (d ∷ ds) = if is_lower c d then c ∷ d ∷ ds else d ∷ insert_one c ds

-- the contributions of both values; one in both occurs twice
unfoldable pub merge : Value → Value → Value
merge [] w = w
merge (c ∷ v) w = insert_one c (merge v w)

unfoldable pub set_slot : ℕ → ℕ → Value → Store → Store
set_slot rank slot v store r k = if (r == rank) && (k == slot) then v else store r k

-- the slots are set to the values, in order; if a slot occurs twice, the later value stays
unfoldable pub write : ℕ → List ℕ → List Value → Store → Store
write rank [] vs store = store
write rank (k ∷ ks) [] store = store
write rank (k ∷ ks) (v ∷ vs) store = write rank ks vs (set_slot rank k v store)

unfoldable pub add_all : ℕ → List Adding → Store → Store
add_all rank [] store = store
add_all rank (a ∷ more) store =
    add_all rank more (set_slot rank a.to (merge (store rank a.to) (store rank a.from)) store)

-- the values of all slots, and what each send has read
pub record Held : Type 0 where
  pub store : Store
  pub payload : OpId → List Value

abbrev pub payload_from : Held → Option OpId → List Value
payload_from held None = []
payload_from held (Some m) = held.payload m

module _ (plans : List Plan) where
  -- the send m reads its slots
  unfoldable pub read : OpId → Held → Held
  read m held = record {
    store = held.store;
    payload = λ n. if same_op n m then map (held.store m.rank) (slots plans m) else held.payload n;
  }

  -- the effect of an action of x, an operation of that kind; `with` is its partner in the pairs before it
  abbrev pub change : (OpId → Bool) → Option OpId → Class → OpId → Option Kind → Held → Held
  -- a calc adds at its Begin
  change eager with Begin x (Some (Calc nanos)) held = record { store = add_all x.rank (adds plans x) held.store; payload = held.payload }
  -- a send reads at its last action
  change eager with Begin x (Some (Send bytes to tag)) held = if eager x then read x held else held
  change eager with Data x (Some (Send bytes to tag)) held = read x held
  -- a receive writes at its Serve
  change eager with Serve x (Some (Recv room from tag)) held = record { store = write x.rank (slots plans x) (payload_from held with) held.store; payload = held.payload }
  change eager with _ x _ held = held

  -- what is held after a list of actions, if the slots hold `first` at the start
  unfoldable pub held_after : (OpId → Bool) → Store → List Act → Held
  held_after eager first [] = record { store = first; payload = λ m. [] }
  held_after eager first (a ∷ h) =
      change eager (partner (pairs plans h) a.op) a.class a.op (kind_at plans a.op) (held_after eager first h)

  -- the value of a slot of a rank after a list of actions
  abbrev pub value : (OpId → Bool) → Store → List Act → ℕ → ℕ → Value
  value eager first h rank slot = (held_after eager first h).store rank slot
