-- Events at later times.
use Rattle.std.proofs.Common.{◌≡◌, ◌≤◌, ℕ, max, Bool, true, false, nat_lt, List, Some, slice_get, slice_index, if◌then◌else◌, refl, sym, ap, ◌∙◌, arith, le-ltb}
use Rattle.std.proofs.lemmas.Option.{get_or_from_slice_get}
use Rattle.goal_graph.specs.declared.action.Timed.{Timed}
use Rattle.goal_graph.specs.Action.{place}
use Rattle.sim_order.specs.Order.{lexical}
use Rattle.sim_order.specs.Events.{event_before}
use Rattle.sim_order.specs.EventLaws.{event_laws}
use Rattle.sim_queue.proofs.ForCallers.{not_before_transitive}
use Rattle.sim_resources.specs.declared.pair.Pair.{Pair}
use Rattle.sim_stations.specs.Stations.{holds_cpu, at_time, both_free, earliest, when_free, pair_at}
use Rattle.sim_stations.proofs.Heads.{at_own_time_is_itself}

-- an event is not before itself at an earlier time
pub later_not_before : (t : ℕ) (k : Timed) → k.time ≤ t → event_before (at_time t k) k ≡ false
later_not_before t k l =
    let time : nat_lt t k.time ≡ false = le-ltb t k.time l in
    let class : nat_lt (place k.class) (place k.class) ≡ false = le-ltb (place k.class) (place k.class) (omega arith) in
    let rank : nat_lt k.op.rank k.op.rank ≡ false = le-ltb k.op.rank k.op.rank (omega arith) in
    let number : nat_lt k.op.op k.op.op ≡ false = le-ltb k.op.op k.op.op (omega arith) in
    ap (λ b. lexical b (nat_lt k.time t) (lexical (nat_lt (place k.class) (place k.class)) (nat_lt (place k.class) (place k.class)) (lexical (nat_lt k.op.rank k.op.rank) (nat_lt k.op.rank k.op.rank) (nat_lt k.op.op k.op.op)))) time ∙ ap (λ b. lexical false (nat_lt k.time t) (lexical b b (lexical (nat_lt k.op.rank k.op.rank) (nat_lt k.op.rank k.op.rank) (nat_lt k.op.op k.op.op)))) class ∙ ap (λ b. lexical false (nat_lt k.time t) (lexical false false (lexical b b (nat_lt k.op.op k.op.op)))) rank ∙ ap (λ b. lexical false (nat_lt k.time t) (lexical false false (lexical false false b))) number ∙ go (nat_lt k.time t)
  where
    go : (b : Bool) → lexical false b (lexical false false (lexical false false false)) ≡ false
    go true = refl
    go false = refl

-- an event not before another is not before it at a later time either
pub not_before_at_later_time : (t : ℕ) (k x : Timed) → k.time ≤ t → event_before k x ≡ false → event_before (at_time t k) x ≡ false
not_before_at_later_time t k x l e = not_before_transitive event_before event_laws (at_time t k) k x (later_not_before t k l) e

module _ (free : List ℕ) (p : Pair) where
  pub earliest_waits : (k : Timed) → holds_cpu k.class ≡ true → earliest free p k ≡ max k.time (both_free free p)
  earliest_waits k e = ap (λ b. if b then max k.time (both_free free p) else k.time) e

  pub earliest_at_once : (k : Timed) → holds_cpu k.class ≡ false → earliest free p k ≡ k.time
  earliest_at_once k e = ap (λ b. if b then max k.time (both_free free p) else k.time) e

  pub not_earlier : (k : Timed) → k.time ≤ earliest free p k
  not_earlier k = go (holds_cpu k.class) refl
    where
      go : (b : Bool) → holds_cpu k.class ≡ b → k.time ≤ earliest free p k
      go true e = rw (earliest_waits k e) (omega arith)
      go false e = rw (earliest_at_once k e) (omega arith)

  -- a waiting event's own time does not matter if its resources are free later
  pub own_time_forgotten_if_free_later : (k : Timed) → holds_cpu k.class ≡ true → k.time ≤ both_free free p → when_free free p (at_time 0 k) ≡ when_free free p k
  own_time_forgotten_if_free_later k w l =
      let left : earliest free p (at_time 0 k) ≡ max 0 (both_free free p) = earliest_waits (at_time 0 k) w in
      let same : max 0 (both_free free p) ≡ max k.time (both_free free p) = omega (arith, l) in
      ap (λ t. at_time t k) (left ∙ same ∙ sym (earliest_waits k w))

  pub when_free_from_time_zero : (k : Timed) → holds_cpu k.class ≡ true → when_free free p (at_time 0 k) ≡ at_time (both_free free p) k
  when_free_from_time_zero k w =
      let same : max 0 (both_free free p) ≡ both_free free p = omega arith in
      ap (λ t. at_time t k) (earliest_waits (at_time 0 k) w ∙ same)

  -- an event keeps its time if its resources are free by then
  pub due_event_keeps_its_time : (k : Timed) → holds_cpu k.class ≡ true → both_free free p ≤ k.time → when_free free p k ≡ k
  due_event_keeps_its_time k w l =
      let same : max k.time (both_free free p) ≡ k.time = omega (arith, l) in
      at_own_time_is_itself k (earliest free p k) (sym (earliest_waits k w ∙ same))

-- raising an event to an earlier free time first makes no difference
pub when_free_absorbs_earlier_when_free : (free now : List ℕ) (p : Pair) → both_free free p ≤ both_free now p → (k : Timed) → when_free now p k ≡ when_free now p (when_free free p k)
when_free_absorbs_earlier_when_free free now p l k = go (holds_cpu k.class) refl
  where
    go : (b : Bool) → holds_cpu k.class ≡ b → when_free now p k ≡ when_free now p (when_free free p k)
    go true e =
        let right : earliest now p (when_free free p k) ≡ max (earliest free p k) (both_free now p) = earliest_waits now p (when_free free p k) e in
        let was : earliest free p k ≡ max k.time (both_free free p) = earliest_waits free p k e in
        let same : max k.time (both_free now p) ≡ max (max k.time (both_free free p)) (both_free now p) = omega (arith, l) in
        ap (λ t. at_time t k) (earliest_waits now p k e ∙ same ∙ sym (ap (λ t. max t (both_free now p)) was) ∙ sym right)
    go false e =
        let right : earliest now p (when_free free p k) ≡ earliest free p k = earliest_at_once now p (when_free free p k) e in
        ap (λ t. at_time t k) (earliest_at_once now p k e ∙ sym (earliest_at_once free p k e) ∙ sym right)

-- the resources of a slot are those of its station
pub pair_of_station : (pairs : List Pair) (groups : List ℕ) (slot station : ℕ) → slice_get groups slot ≡ Some station → pair_at pairs (slice_index groups slot) ≡ pair_at pairs station
pair_of_station pairs groups slot station e = ap (pair_at pairs) (get_or_from_slice_get groups slot station 0 e)
