use Rattle.std.proofs.Common.{◌≡◌, ◌<◌, ◌++◌, ℕ, List, Option, Some, None, length, take, drop, IfSome, IsNone, sym, ap, ◌∙◌, subst, arith}
use Rattle.std.specs.Option.{option_map}
use Rattle.goal_graph.specs.declared.action.Timed.{Timed}
use Rattle.goal_graph.specs.Schedule.{operations}
use Rattle.sim_order.specs.Events.{event_before}
use Rattle.sim_queue.specs.Map.{IsEmptyMap, IsLeast}
use Rattle.sim_queue.specs.Groups.{Grouped}
use Rattle.sim_queue.proofs.ForCallers.{part_written_back}
use Rattle.sim_stations.specs.Stations.{Stationed, pair_of, AreTimesOf, AreOfSlots, cost_of_waiting}
use Rattle.sim_stations.specs.Moves.{HaveReturned, HaveMoved}
use Rattle.sim_stations.specs.Kept.{IsKept, IsFound}
use Rattle.sim_stations.proofs.Changed.{seen_length_is_slot_count}
use Rattle.sim_stations.proofs.station_queue.StationQueue.least.Goals as goal

found_slot_of_least : (ahead : List (Option Timed)) (waiting : Grouped Timed) (r : Option (ℕ × Timed)) → IfSome r (λ x. IsFound ahead waiting (Some x.0)) → IsFound ahead waiting (option_map (λ (x : ℕ × Timed). x.0) r)
found_slot_of_least ahead waiting None h = tt
found_slot_of_least ahead waiting (Some x) h = h

found_is_slot_of_least : (r : Option (ℕ × Timed)) (found : Option ℕ) → found ≡ option_map (λ (x : ℕ × Timed). x.0) r → IfSome r (λ x. found ≡ Some x.0)
found_is_slot_of_least None found e = tt
found_is_slot_of_least (Some x) found e = e

pub settle-least-requires-clause-kept : goal.settle-least-requires-clause-kept
settle-least-requires-clause-kept g c =
    let q = c.self.inside in
    subst (IsKept q.ahead q.waiting q.rows) (sym c.deref_mut.ensures.value) c.self.invariant.0

pub settle-least-requires-clause-of_slots : goal.settle-least-requires-clause-of_slots
settle-least-requires-clause-of_slots g c =
    subst (λ (s : Stationed). AreOfSlots (operations c.args.sched.now) s.keys) (sym c.self.view_is) c.requires.of_slots

pub settle-least-requires-clause-times : goal.settle-least-requires-clause-times
settle-least-requires-clause-times g c = λ slot l.
    let q = c.self.inside in
    let size = seen_length_is_slot_count q.ahead q.waiting q.rows q.stands.items c.self.invariant.0 in
    let times = subst (λ (s : Stationed). (i : ℕ) → i < length s.keys → AreTimesOf c.args.times.now s.free (pair_of s i)) (sym c.self.view_is) c.requires.times in
    times slot (omega (arith, l, size))

pub invariant_of-self : goal.invariant_of-self
invariant_of-self g c =
    let q = c.self.inside in
    let same : take q.stands.len (c.settle-least.new.stands ++ drop (length c.settle-least.new.stands) q.stands.items) ≡ c.settle-least.new.stands = part_written_back q.stands.len c.settle-least.new.stands (drop (length c.settle-least.new.stands) q.stands.items) (omega (arith, c.settle-least.auto.stands, ap length c.deref_mut.ensures.value, q.stands.ok.0)) in
    let e = c.settle-least.ensures in
    (subst (IsKept c.settle-least.new.ahead c.settle-least.new.waiting c.settle-least.new.rows) (sym same) e.kept, subst (IsFound c.settle-least.new.ahead c.settle-least.new.waiting) (sym c.slot_of-self-inside.ensures) (found_slot_of_least c.settle-least.new.ahead c.settle-least.new.waiting c.settle-least.result e.found))

pub returns-clause-none : goal.returns-clause-none
returns-clause-none g c =
    subst (λ (s : Stationed). (IsNone c.settle-least.result → IsEmptyMap s.keys) × (IsEmptyMap s.keys → IsNone c.settle-least.result)) c.self.view_is c.settle-least.ensures.none

pub returns-clause-least : goal.returns-clause-least
returns-clause-least g c =
    subst (λ (s : Stationed). IfSome c.settle-least.result (λ r. IsLeast event_before s.keys r.0 r.1)) c.self.view_is c.settle-least.ensures.least

pub returns-clause-found : goal.returns-clause-found
returns-clause-found g c = found_is_slot_of_least c.settle-least.result c.slot_of-self-inside.result c.slot_of-self-inside.ensures

pub returns-clause-keys : goal.returns-clause-keys
returns-clause-keys g c = c.settle-least.ensures.seen ∙ ap (λ (s : Stationed). s.keys) c.self.view_is

pub returns-clause-stations : goal.returns-clause-stations
returns-clause-stations g c = c.settle-least.ensures.groups ∙ ap (λ (s : Stationed). s.stations) c.self.view_is

pub returns-clause-pairs : goal.returns-clause-pairs
returns-clause-pairs g c = c.settle-least.ensures.pairs ∙ ap (λ (s : Stationed). s.pairs) c.self.view_is

pub returns-clause-free : goal.returns-clause-free
returns-clause-free g c = c.settle-least.ensures.free ∙ ap (λ (s : Stationed). s.free) c.self.view_is

pub returns-clause-counted : goal.returns-clause-counted
returns-clause-counted g c =
    λ k l.
    let q = c.self.inside in
    let same : take q.stands.len (c.settle-least.new.stands ++ drop (length c.settle-least.new.stands) q.stands.items) ≡ c.settle-least.new.stands = part_written_back q.stands.len c.settle-least.new.stands (drop (length c.settle-least.new.stands) q.stands.items) (omega (arith, c.settle-least.auto.stands, ap length c.deref_mut.ensures.value, q.stands.ok.0)) in
    let size = seen_length_is_slot_count q.ahead q.waiting q.rows q.stands.items c.self.invariant.0 in
    let spent = c.settle-least.ensures.counted k (omega (arith, l, size, ap (λ (s : Stationed). length s.keys) c.self.view_is)) in
    let now = ap (cost_of_waiting k) same in
    let old = ap (cost_of_waiting k) c.deref_mut.ensures.value ∙ ap (λ (s : Stationed). cost_of_waiting k s.stands) c.self.view_is in
    omega (arith, spent, now, old)

pub returns-clause-moved : goal.returns-clause-moved
returns-clause-moved g c =
    λ holds returns have.
    let was = subst (λ (s : Stationed). HaveReturned s.pairs s.turned s.free holds returns) (sym c.self.view_is) have in
    subst (λ (s : Stationed). HaveMoved s.pairs s.free holds s.turned c.settle-least.new.rows.turned returns c.args.moves.now c.settle-least.new.moves) c.self.view_is (c.settle-least.ensures.moved holds returns was)
