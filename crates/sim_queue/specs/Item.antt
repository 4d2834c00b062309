-- A key with its slot, also as two numbers: its time, and the tail of the key and the slot as the digits of one number.
use Rattle.std.specs.Prelude.{◌≡◌, ℕ, ◌+◌, ◌*◌, ◌/◌, ◌%◌}
use Rattle.std.proofs.Common.{ap, ◌∙◌}
use Rattle.std.proofs.lemmas.Nat.{div-add-mod'}
use Rattle.sim_queue.specs.declared.heap_item.TheConstants.{MAX_SLOTS}
use Rattle.goal_graph.specs.declared.action.Timed.{Timed}
use Rattle.sim_order.specs.Compact.{timed_of, tail_of, tail_of_parts, IsTail}

-- the event at another time
abbrev pub at_time : ℕ → Timed → Timed
at_time time k = record { time = time; class = k.class; op = k.op }

-- a key with its slot
pub record Item (K : Type 0) : Type 0 where
  pub key : K
  pub slot : ℕ

-- the tail of an item: one number, whose digits are the tail of the key and the slot
abbrev pub item_tail : Item Timed → ℕ
item_tail x = tail_of x.key.class x.key.op * MAX_SLOTS + x.slot

-- the item of a time and a tail
abbrev pub item_from : ℕ → ℕ → Item Timed
item_from time tail = record { key = timed_of time (tail / MAX_SLOTS); slot = tail % MAX_SLOTS }

-- the number is the tail of an item
abbrev pub IsItemTail : ℕ → Type 0
IsItemTail tail = IsTail (tail / MAX_SLOTS)

-- a tail comes from its key and slot
pub item_tail_parts : (tail : ℕ) → IsItemTail tail → item_tail (item_from 0 tail) ≡ tail
item_tail_parts tail h =
    ap (λ n. n * MAX_SLOTS + tail % MAX_SLOTS) (tail_of_parts (tail / MAX_SLOTS) h) ∙ div-add-mod' tail MAX_SLOTS
