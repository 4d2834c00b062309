use Rattle.std.proofs.Common.{length, set, slice_index, sym, ap, ◌∙◌, subst, arith}
use Rattle.std.specs.Option.{option_map}
use Rattle.sim_queue.specs.Map.{key_at}
use Rattle.sim_stations.specs.declared.key_place.KeyPlace.TheVariants.{Nowhere}
use Rattle.sim_stations.specs.Stations.{Stationed, when_free, pair_at, pair_of, held, held_by, IsLaterBy, AreKnown, cost_of_waiting}
use Rattle.sim_stations.specs.Kept.{IsFound, IsDeparted}
use Rattle.sim_stations.specs.Moves.{HaveReturned, held_once_more}
use Rattle.sim_stations.proofs.Moves.{have_returned_after_hold}
use Rattle.sim_stations.proofs.Changed.{seen_length_is_slot_count, found_within, ahead_no_more_after_departure, cost_falls}
use Rattle.sim_stations.proofs.station_queue.StationQueue.act.Goals as goal

pub depart-requires-clause-found : goal.depart-requires-clause-found
depart-requires-clause-found g c =
    let q = c.self.inside in
    subst (IsFound q.ahead q.waiting) (ap (λ (s : Stationed). s.found) c.self.view_is ∙ c.requires.found) c.self.invariant.1

pub depart-requires-clause-slot_in : goal.depart-requires-clause-slot_in
depart-requires-clause-slot_in g c =
    let q = c.self.inside in
    let found = subst (IsFound q.ahead q.waiting) (ap (λ (s : Stationed). s.found) c.self.view_is ∙ c.requires.found) c.self.invariant.1 in
    found_within q.ahead q.waiting q.rows q.stands.items c.self.invariant.0 c.args.slot found

pub depart-requires-clause-known : goal.depart-requires-clause-known
depart-requires-clause-known g c =
    subst (λ (s : Stationed). AreKnown c.args.times.now (pair_of s c.args.slot)) (sym c.self.view_is) c.requires.known

pub depart-requires-clause-later : goal.depart-requires-clause-later
depart-requires-clause-later g c =
    subst (λ (s : Stationed). IsLaterBy s.free (pair_of s c.args.slot) c.args.times.now) (sym c.self.view_is) c.requires.later

pub index_mut-requires : goal.index_mut-requires
index_mut-requires g c =
    let q = c.self.inside in
    let found = subst (IsFound q.ahead q.waiting) (ap (λ (s : Stationed). s.found) c.self.view_is ∙ c.requires.found) c.self.invariant.1 in
    omega (arith, found_within q.ahead q.waiting q.rows q.stands.items c.self.invariant.0 c.args.slot found, c.self.invariant.0.stood.each)

pub invariant_of-self : goal.invariant_of-self
invariant_of-self g c =
    let q = c.self.inside in
    let pair = pair_at q.rows.pairs (slice_index q.waiting.groups c.args.slot) in
    let cpu = slice_index c.args.times.now pair.cpu in
    let side = slice_index c.args.times.now pair.side in
    let d = subst (λ st. IsDeparted q.ahead q.waiting q.rows st c.args.slot cpu side c.depart.new.ahead c.depart.new.waiting c.depart.new.rows) c.deref.ensures.value c.depart.ensures.departed in
    (d.kept, tt)

pub returns-clause-each : goal.returns-clause-each
returns-clause-each g c =
    let q = c.self.inside in
    let pair = pair_at q.rows.pairs (slice_index q.waiting.groups c.args.slot) in
    let cpu = slice_index c.args.times.now pair.cpu in
    let side = slice_index c.args.times.now pair.side in
    let d = subst (λ st. IsDeparted q.ahead q.waiting q.rows st c.args.slot cpu side c.depart.new.ahead c.depart.new.waiting c.depart.new.rows) c.deref.ensures.value c.depart.ensures.departed in
    d.each ∙ ap (λ (s : Stationed). length s.keys) c.self.view_is

pub returns-clause-gone : goal.returns-clause-gone
returns-clause-gone g c =
    let q = c.self.inside in
    let pair = pair_at q.rows.pairs (slice_index q.waiting.groups c.args.slot) in
    let cpu = slice_index c.args.times.now pair.cpu in
    let side = slice_index c.args.times.now pair.side in
    let d = subst (λ st. IsDeparted q.ahead q.waiting q.rows st c.args.slot cpu side c.depart.new.ahead c.depart.new.waiting c.depart.new.rows) c.deref.ensures.value c.depart.ensures.departed in
    d.gone

pub returns-clause-raised : goal.returns-clause-raised
returns-clause-raised g c =
    let q = c.self.inside in
    let pair = pair_at q.rows.pairs (slice_index q.waiting.groups c.args.slot) in
    let cpu = slice_index c.args.times.now pair.cpu in
    let side = slice_index c.args.times.now pair.side in
    let d = subst (λ st. IsDeparted q.ahead q.waiting q.rows st c.args.slot cpu side c.depart.new.ahead c.depart.new.waiting c.depart.new.rows) c.deref.ensures.value c.depart.ensures.departed in
    λ other n.
    d.raised other n ∙ ap (λ (s : Stationed). option_map (when_free c.depart.new.rows.free (pair_of s other)) (key_at s.keys other)) c.self.view_is

pub returns-clause-stations : goal.returns-clause-stations
returns-clause-stations g c =
    let q = c.self.inside in
    let pair = pair_at q.rows.pairs (slice_index q.waiting.groups c.args.slot) in
    let cpu = slice_index c.args.times.now pair.cpu in
    let side = slice_index c.args.times.now pair.side in
    let d = subst (λ st. IsDeparted q.ahead q.waiting q.rows st c.args.slot cpu side c.depart.new.ahead c.depart.new.waiting c.depart.new.rows) c.deref.ensures.value c.depart.ensures.departed in
    d.groups ∙ ap (λ (s : Stationed). s.stations) c.self.view_is

pub returns-clause-free : goal.returns-clause-free
returns-clause-free g c =
    let q = c.self.inside in
    let pair = pair_at q.rows.pairs (slice_index q.waiting.groups c.args.slot) in
    let cpu = slice_index c.args.times.now pair.cpu in
    let side = slice_index c.args.times.now pair.side in
    let d = subst (λ st. IsDeparted q.ahead q.waiting q.rows st c.args.slot cpu side c.depart.new.ahead c.depart.new.waiting c.depart.new.rows) c.deref.ensures.value c.depart.ensures.departed in
    d.free ∙ ap (λ (s : Stationed). held_by s.free (pair_of s c.args.slot) c.args.times.now) c.self.view_is

pub returns-clause-counted : goal.returns-clause-counted
returns-clause-counted g c =
    λ k l.
    let q = c.self.inside in
    let found = subst (IsFound q.ahead q.waiting) (ap (λ (s : Stationed). s.found) c.self.view_is ∙ c.requires.found) c.self.invariant.1 in
    let within = found_within q.ahead q.waiting q.rows q.stands.items c.self.invariant.0 c.args.slot found in
    let fewer = cost_falls k (set q.stands.items c.args.slot Nowhere) q.stands.items (ahead_no_more_after_departure q.ahead q.waiting q.rows q.stands.items c.self.invariant.0 c.args.slot within) in
    let stands = ap (λ (s : Stationed). cost_of_waiting k s.stands) c.self.view_is in
    let spent = c.depart.ensures.counted k (omega (arith, l, seen_length_is_slot_count q.ahead q.waiting q.rows q.stands.items c.self.invariant.0, ap (λ (s : Stationed). length s.keys) c.self.view_is)) in
    omega (arith, fewer, stands, spent)

pub returns-clause-returned : goal.returns-clause-returned
returns-clause-returned g c =
    let q = c.self.inside in
    let pair = pair_at q.rows.pairs (slice_index q.waiting.groups c.args.slot) in
    let cpu = slice_index c.args.times.now pair.cpu in
    let side = slice_index c.args.times.now pair.side in
    let d = subst (λ st. IsDeparted q.ahead q.waiting q.rows st c.args.slot cpu side c.depart.new.ahead c.depart.new.waiting c.depart.new.rows) c.deref.ensures.value c.depart.ensures.departed in
    λ holds returns have.
    let was = subst (λ (s : Stationed). HaveReturned s.pairs s.turned s.free holds returns) (sym c.self.view_is) have in
    let later = subst (λ (s : Stationed). IsLaterBy s.free (pair_of s c.args.slot) c.args.times.now) (sym c.self.view_is) c.requires.later in
    let now = have_returned_after_hold q.rows.pairs q.rows.turned q.rows.free holds returns was pair cpu side later in
    let at_pairs = subst (λ ps. HaveReturned ps q.rows.turned (held q.rows.free pair cpu side) (held_once_more holds pair) returns) (sym d.pairs) now in
    let at_turned = subst (λ bs. HaveReturned c.depart.new.rows.pairs bs (held q.rows.free pair cpu side) (held_once_more holds pair) returns) (sym d.turned) at_pairs in
    let at_free = subst (λ fs. HaveReturned c.depart.new.rows.pairs c.depart.new.rows.turned fs (held_once_more holds pair) returns) (sym d.free) at_turned in
    subst (λ (s : Stationed). HaveReturned c.depart.new.rows.pairs c.depart.new.rows.turned c.depart.new.rows.free (held_once_more holds (pair_of s c.args.slot)) returns) c.self.view_is at_free
