use Rattle.std.proofs.Common.{◌≡◌, Option, Some, None, length, set, false, sym, ap, ◌∙◌, subst, arith}
use Rattle.goal_graph.specs.declared.action.Timed.{Timed}
use Rattle.sim_queue.specs.Map.{key_at}
use Rattle.sim_stations.specs.declared.key_place.KeyPlace.TheVariants.{Nowhere}
use Rattle.sim_stations.specs.Stations.{Stationed, holds_cpu, cost_of_waiting}
use Rattle.sim_stations.specs.Kept.{IsFound, seen_of}
use Rattle.std.specs.Prelude.{IfSome}
use Rattle.sim_stations.proofs.Changed.{seen_length_is_slot_count, found_within, found_ahead, at_once_key_does_not_wait, ahead_no_more_after_departure, cost_falls, taken_kept, taken_seen}
use Rattle.sim_stations.proofs.station_queue.StationQueue.take.Goals as goal

existing_key_is_at_once : (o : Option Timed) → IfSome o (λ k. holds_cpu k.class ≡ false) → (k : Timed) → o ≡ Some k → holds_cpu k.class ≡ false
existing_key_is_at_once o h k e = subst (λ x. IfSome x (λ k. holds_cpu k.class ≡ false)) e h

pub take-requires : goal.take-requires
take-requires g c =
    let q = c.self.inside in
    let found = subst (IsFound q.ahead q.waiting) (ap (λ (s : Stationed). s.found) c.self.view_is ∙ c.requires.found) c.self.invariant.1 in
    let at_once : (k : Timed) → key_at (seen_of q.ahead q.waiting q.rows) c.args.slot ≡ Some k → holds_cpu k.class ≡ false = λ k e. existing_key_is_at_once (key_at c.args.self.now.keys c.args.slot) c.requires.at_once k (sym (ap (λ (s : Stationed). key_at s.keys c.args.slot) c.self.view_is) ∙ e) in
    let sole = found_ahead q.ahead q.waiting q.rows q.stands.items c.self.invariant.0 c.args.slot found (at_once_key_does_not_wait q.ahead q.waiting q.rows q.stands.items c.self.invariant.0 c.args.slot at_once) in
    sole

pub invariant_of-self : goal.invariant_of-self
invariant_of-self g c =
    let q = c.self.inside in
    let found = subst (IsFound q.ahead q.waiting) (ap (λ (s : Stationed). s.found) c.self.view_is ∙ c.requires.found) c.self.invariant.1 in
    let at_once : (k : Timed) → key_at (seen_of q.ahead q.waiting q.rows) c.args.slot ≡ Some k → holds_cpu k.class ≡ false = λ k e. existing_key_is_at_once (key_at c.args.self.now.keys c.args.slot) c.requires.at_once k (sym (ap (λ (s : Stationed). key_at s.keys c.args.slot) c.self.view_is) ∙ e) in
    let sole = found_ahead q.ahead q.waiting q.rows q.stands.items c.self.invariant.0 c.args.slot found (at_once_key_does_not_wait q.ahead q.waiting q.rows q.stands.items c.self.invariant.0 c.args.slot at_once) in
    (taken_kept q.ahead q.waiting q.rows q.stands.items c.self.invariant.0 c.args.slot sole c.take.new.self c.take.ensures.taken, tt)

pub returns-clause-keys : goal.returns-clause-keys
returns-clause-keys g c =
    let q = c.self.inside in
    let found = subst (IsFound q.ahead q.waiting) (ap (λ (s : Stationed). s.found) c.self.view_is ∙ c.requires.found) c.self.invariant.1 in
    let at_once : (k : Timed) → key_at (seen_of q.ahead q.waiting q.rows) c.args.slot ≡ Some k → holds_cpu k.class ≡ false = λ k e. existing_key_is_at_once (key_at c.args.self.now.keys c.args.slot) c.requires.at_once k (sym (ap (λ (s : Stationed). key_at s.keys c.args.slot) c.self.view_is) ∙ e) in
    let sole = found_ahead q.ahead q.waiting q.rows q.stands.items c.self.invariant.0 c.args.slot found (at_once_key_does_not_wait q.ahead q.waiting q.rows q.stands.items c.self.invariant.0 c.args.slot at_once) in
    taken_seen q.ahead q.waiting q.rows q.stands.items c.self.invariant.0 c.args.slot sole c.take.new.self c.take.ensures.taken ∙ ap (λ (s : Stationed). set s.keys c.args.slot None) c.self.view_is

pub returns-clause-counted : goal.returns-clause-counted
returns-clause-counted g c =
    λ k l.
    let q = c.self.inside in
    let found = subst (IsFound q.ahead q.waiting) (ap (λ (s : Stationed). s.found) c.self.view_is ∙ c.requires.found) c.self.invariant.1 in
    let within = found_within q.ahead q.waiting q.rows q.stands.items c.self.invariant.0 c.args.slot found in
    let fewer = cost_falls k (set q.stands.items c.args.slot Nowhere) q.stands.items (ahead_no_more_after_departure q.ahead q.waiting q.rows q.stands.items c.self.invariant.0 c.args.slot within) in
    let stands = ap (λ (s : Stationed). cost_of_waiting k s.stands) c.self.view_is in
    let spent = c.take.ensures.counted k (omega (arith, l, seen_length_is_slot_count q.ahead q.waiting q.rows q.stands.items c.self.invariant.0, ap (λ (s : Stationed). length s.keys) c.self.view_is, c.self.invariant.0.mapped.each)) in
    omega (arith, fewer, stands, spent)
