-- The least of a group, after slots of other groups were changed.
use Rattle.std.proofs.Common.{◌≡◌, ℕ, false, Option, Some, None, slice_get, nat_lt, refl, sym, ap, ◌∙◌, arith, le-ltb}
use Rattle.std.proofs.lemmas.Option.{none-some}
use Rattle.goal_graph.specs.declared.action.Timed.{Timed}
use Rattle.sim_order.specs.Events.{event_before}
use Rattle.sim_queue.specs.Map.{key_at}
use Rattle.sim_queue.specs.Groups.{Grouped, IsEmptyGroup, IsLeastOf}
use Rattle.sim_stations.specs.Stations.{at_time}
use Rattle.sim_stations.specs.Rows.{IsHead}

-- events of one time compare as at any other time
pub same_time_orders_alike : (time : ℕ) (x y : Timed) → event_before (at_time time x) (at_time time y) ≡ event_before (at_time 0 x) (at_time 0 y)
same_time_orders_alike time x y = let same : nat_lt time time ≡ false = le-ltb time time (omega arith) in rw same refl

pub at_own_time_is_itself : (k : Timed) (time : ℕ) → k.time ≡ time → at_time time k ≡ k
at_own_time_is_itself k time e i = record { time = sym e i; class = k.class; op = k.op }

module _ (waiting new : Grouped Timed) (groups : new.groups ≡ waiting.groups) (group : ℕ) (same : (slot : ℕ) → slice_get waiting.groups slot ≡ Some group → key_at new.keys slot ≡ key_at waiting.keys slot) where
  member_before_change : (slot : ℕ) → slice_get new.groups slot ≡ Some group → slice_get waiting.groups slot ≡ Some group
  member_before_change slot e = ap (λ gs. slice_get gs slot) (sym groups) ∙ e

  least_stays : (key : Timed) → IsLeastOf event_before waiting group key → IsLeastOf event_before new group key
  least_stays key least = record {
    slot = least.slot;
    member = ap (λ gs. slice_get gs least.slot) groups ∙ least.member;
    has = same least.slot least.member ∙ least.has;
    least = λ one k e has. least.least one k (member_before_change one e) (sym (same one (member_before_change one e)) ∙ has);
  }

  pub head_stays : (time : ℕ) (head : Option Timed) → IsHead waiting group time head → IsHead new group time head
  head_stays time None empty = λ slot e. same slot (member_before_change slot e) ∙ empty slot (member_before_change slot e)
  head_stays time (Some k) h = (least_stays (at_time 0 k) h.0, h.1)

-- an empty group has no head
pub empty_group_has_no_head : (rows : Grouped Timed) (group time : ℕ) (head : Option Timed) → IsHead rows group time head → IsEmptyGroup rows group → head ≡ None
empty_group_has_no_head rows group time None h empty = refl
empty_group_has_no_head rows group time (Some k) h empty = absurd (none-some (at_time 0 k) (sym (empty h.0.slot h.0.member) ∙ h.0.has))
