-- How many contributions are held: those in all slots, and those in payloads under way.
use Rattle.std.specs.Prelude.{ℕ, zero, suc, ◌+◌, ◌&&◌, Bool, false, not, List, length, take, Option, Some, None, if◌then◌else◌, ◌^◌}
use Rattle.std.specs.List.{sum_by}
use Rattle.goal_graph.specs.declared.action.OpId.{OpId}
use Rattle.goal_graph.specs.declared.action.Class.TheVariants.{Serve, Data}
use Rattle.goal_graph.specs.Schedule.{Plan, operations}
use Rattle.goal_graph.specs.Action.{Act, happened}
use Rattle.goal_graph.specs.Matching.{pairs, partner}
use Rattle.goal_blocks.specs.Slots.{adds}
use Rattle.goal_blocks.specs.Values.{Value, Store, Held, add_all}

unfoldable pub sum_below : ℕ → (ℕ → ℕ) → ℕ
sum_below zero f = 0
sum_below (suc n) f = sum_below n f + f n

-- in the slots of that many ranks; a slot has a number below 2^32
unfoldable pub stored : ℕ → Store → ℕ
stored ranks store = sum_below ranks (λ r. sum_below (2 ^ 32) (λ k. length (store r k)))

abbrev pub has_received : List Act → Option OpId → Bool
has_received h None = false
has_received h (Some x) = happened Serve x h

module _ (plans : List Plan) where
  -- the send m, which is not eager, has read its payload, and its receive has not taken it
  abbrev pub is_under_way : List Act → OpId → Bool
  is_under_way h m = happened Data m h && not (has_received h (partner (pairs plans h) m))

  -- in the payloads under way
  unfoldable pub carried : List Act → Held → ℕ
  carried h held =
      sum_by (λ m. if is_under_way h m then sum_by (λ (v : Value). length v) (held.payload m) else 0) (operations plans)

  -- in slots and payloads
  unfoldable pub weight : List Act → Held → ℕ
  weight h held = stored (length plans) held.store + carried h held

  -- the same after the first n notes of the calc x
  unfoldable pub weight_within : List Act → Held → OpId → ℕ → ℕ
  weight_within h held x n =
      stored (length plans) (add_all x.rank (take n (adds plans x)) held.store) + carried h held
