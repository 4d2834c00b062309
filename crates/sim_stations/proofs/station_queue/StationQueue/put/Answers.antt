use Rattle.std.proofs.Common.{◌≡◌, ◌≤◌, ◌<◌, ◌+◌, ◌*◌, ◌^◌, Some, None, length, set, slice_index, sym, ap, ◌∙◌, subst, arith}
use Rattle.sim_queue.specs.Map.{key_at}
use Rattle.sim_queue.proofs.ForCallers.{pow_next_is_double}
use Rattle.sim_stations.specs.declared.key_place.KeyPlace.TheVariants.{Ahead, Waiting}
use Rattle.sim_stations.specs.Stations.{Stationed, when_free, pair_of, AreTimesOf, count_ahead, cost_of_waiting}
use Rattle.sim_stations.specs.Kept.{seen_of}
use Rattle.std.proofs.lemmas.Option.{slice_get-get_or}
use Rattle.sim_stations.proofs.Settling.{successor_times}
use Rattle.sim_stations.proofs.Changed.{seen_length_is_slot_count, not_ahead_if_no_seen_key, not_waiting_if_no_seen_key, put_kept, put_seen, put_more, wait_same, wait_kept, wait_seen}
use Rattle.sim_stations.proofs.station_queue.StationQueue.put.Goals as goal

pub may_wait-requires-clause-slot_in : goal.may_wait-requires-clause-slot_in
may_wait-requires-clause-slot_in g c =
    let q = c.self.inside in
    let size = seen_length_is_slot_count q.ahead q.waiting q.rows q.stands.items c.self.invariant.0 in
    omega (arith, c.requires.slot_in, ap (λ (s : Stationed). length s.keys) c.self.view_is, size, c.self.invariant.0.mapped.grouped)

pub may_wait-requires-clause-within : goal.may_wait-requires-clause-within
may_wait-requires-clause-within g c =
    let q = c.self.inside in
    let size = seen_length_is_slot_count q.ahead q.waiting q.rows q.stands.items c.self.invariant.0 in
    let listed : c.args.slot < length q.waiting.groups = omega (arith, c.requires.slot_in, ap (λ (s : Stationed). length s.keys) c.self.view_is, size, c.self.invariant.0.mapped.grouped) in
    c.self.invariant.0.mapped.within c.args.slot (slice_index q.waiting.groups c.args.slot) (slice_get-get_or q.waiting.groups c.args.slot 0 listed)

pub may_wait-requires-clause-times : goal.may_wait-requires-clause-times
may_wait-requires-clause-times g c =
    subst (λ (s : Stationed). AreTimesOf c.args.times.now s.free (pair_of s c.args.slot)) (sym c.self.view_is) c.requires.times

pub join-requires-clause-slot_in : goal.join-requires-clause-slot_in
join-requires-clause-slot_in g c =
    let q = c.self.inside in
    let size = seen_length_is_slot_count q.ahead q.waiting q.rows q.stands.items c.self.invariant.0 in
    let within : c.args.slot < length q.waiting.keys = omega (arith, c.requires.slot_in, ap (λ (s : Stationed). length s.keys) c.self.view_is, size) in
    let idle : key_at (seen_of q.ahead q.waiting q.rows) c.args.slot ≡ None = ap (λ (s : Stationed). key_at s.keys c.args.slot) c.self.view_is ∙ c.requires.free in
    within

pub join-requires-clause-free : goal.join-requires-clause-free
join-requires-clause-free g c =
    let q = c.self.inside in
    let size = seen_length_is_slot_count q.ahead q.waiting q.rows q.stands.items c.self.invariant.0 in
    let within : c.args.slot < length q.waiting.keys = omega (arith, c.requires.slot_in, ap (λ (s : Stationed). length s.keys) c.self.view_is, size) in
    let idle : key_at (seen_of q.ahead q.waiting q.rows) c.args.slot ≡ None = ap (λ (s : Stationed). key_at s.keys c.args.slot) c.self.view_is ∙ c.requires.free in
    not_waiting_if_no_seen_key q.ahead q.waiting q.rows q.stands.items c.self.invariant.0 c.args.slot idle

pub join-requires-clause-times : goal.join-requires-clause-times
join-requires-clause-times g c =
    subst (λ (s : Stationed). AreTimesOf c.args.times.now s.free (pair_of s c.args.slot)) (sym c.self.view_is) c.requires.times

pub index_mut-requires : goal.index_mut-requires
index_mut-requires g c =
    let q = c.self.inside in
    let size = seen_length_is_slot_count q.ahead q.waiting q.rows q.stands.items c.self.invariant.0 in
    let within : c.args.slot < length q.waiting.keys = omega (arith, c.requires.slot_in, ap (λ (s : Stationed). length s.keys) c.self.view_is, size) in
    let idle : key_at (seen_of q.ahead q.waiting q.rows) c.args.slot ≡ None = ap (λ (s : Stationed). key_at s.keys c.args.slot) c.self.view_is ∙ c.requires.free in
    omega (arith, within, c.self.invariant.0.stood.each)

pub invariant_of-self : goal.invariant_of-self
invariant_of-self g c =
    let q = c.self.inside in
    let size = seen_length_is_slot_count q.ahead q.waiting q.rows q.stands.items c.self.invariant.0 in
    let within : c.args.slot < length q.waiting.keys = omega (arith, c.requires.slot_in, ap (λ (s : Stationed). length s.keys) c.self.view_is, size) in
    let idle : key_at (seen_of q.ahead q.waiting q.rows) c.args.slot ≡ None = ap (λ (s : Stationed). key_at s.keys c.args.slot) c.self.view_is ∙ c.requires.free in
    let waits = c.may_wait.ensures.waits c.if-may_wait.true in
    let late = c.may_wait.ensures.late c.if-may_wait.true in
    (wait_kept q.ahead q.waiting q.rows q.stands.items c.self.invariant.0 c.args.slot within idle c.args.key waits late c.join.new.waiting c.join.ensures.put c.join.new.rows c.join.ensures.shown c.join.ensures.keyed c.join.ensures.pairs c.join.ensures.turned c.join.ensures.free, tt)

pub put-requires-clause-slot_in : goal.put-requires-clause-slot_in
put-requires-clause-slot_in g c =
    let q = c.self.inside in
    let size = seen_length_is_slot_count q.ahead q.waiting q.rows q.stands.items c.self.invariant.0 in
    let within : c.args.slot < length q.waiting.keys = omega (arith, c.requires.slot_in, ap (λ (s : Stationed). length s.keys) c.self.view_is, size) in
    let idle : key_at (seen_of q.ahead q.waiting q.rows) c.args.slot ≡ None = ap (λ (s : Stationed). key_at s.keys c.args.slot) c.self.view_is ∙ c.requires.free in
    omega (arith, within, c.self.invariant.0.mapped.each)

pub put-requires-clause-free : goal.put-requires-clause-free
put-requires-clause-free g c =
    let q = c.self.inside in
    let size = seen_length_is_slot_count q.ahead q.waiting q.rows q.stands.items c.self.invariant.0 in
    let within : c.args.slot < length q.waiting.keys = omega (arith, c.requires.slot_in, ap (λ (s : Stationed). length s.keys) c.self.view_is, size) in
    let idle : key_at (seen_of q.ahead q.waiting q.rows) c.args.slot ≡ None = ap (λ (s : Stationed). key_at s.keys c.args.slot) c.self.view_is ∙ c.requires.free in
    not_ahead_if_no_seen_key q.ahead q.waiting q.rows q.stands.items c.self.invariant.0 c.args.slot idle

pub index_mut-requires-else-may_wait : goal.index_mut-requires-else-may_wait
index_mut-requires-else-may_wait g c =
    let q = c.self.inside in
    let size = seen_length_is_slot_count q.ahead q.waiting q.rows q.stands.items c.self.invariant.0 in
    let within : c.args.slot < length q.waiting.keys = omega (arith, c.requires.slot_in, ap (λ (s : Stationed). length s.keys) c.self.view_is, size) in
    let idle : key_at (seen_of q.ahead q.waiting q.rows) c.args.slot ≡ None = ap (λ (s : Stationed). key_at s.keys c.args.slot) c.self.view_is ∙ c.requires.free in
    omega (arith, within, c.self.invariant.0.stood.each)

pub invariant_of-self-else-may_wait : goal.invariant_of-self-else-may_wait
invariant_of-self-else-may_wait g c =
    let q = c.self.inside in
    let size = seen_length_is_slot_count q.ahead q.waiting q.rows q.stands.items c.self.invariant.0 in
    let within : c.args.slot < length q.waiting.keys = omega (arith, c.requires.slot_in, ap (λ (s : Stationed). length s.keys) c.self.view_is, size) in
    let idle : key_at (seen_of q.ahead q.waiting q.rows) c.args.slot ≡ None = ap (λ (s : Stationed). key_at s.keys c.args.slot) c.self.view_is ∙ c.requires.free in
    (put_kept q.ahead q.waiting q.rows q.stands.items c.self.invariant.0 c.args.slot within idle c.args.key c.put.new.self c.put.ensures.put, tt)

pub returns-then-may_wait-clause-put : goal.returns-then-may_wait-clause-put
returns-then-may_wait-clause-put g c =
    let q = c.self.inside in
    let size = seen_length_is_slot_count q.ahead q.waiting q.rows q.stands.items c.self.invariant.0 in
    let within : c.args.slot < length q.waiting.keys = omega (arith, c.requires.slot_in, ap (λ (s : Stationed). length s.keys) c.self.view_is, size) in
    let idle : key_at (seen_of q.ahead q.waiting q.rows) c.args.slot ≡ None = ap (λ (s : Stationed). key_at s.keys c.args.slot) c.self.view_is ∙ c.requires.free in
    let waits = c.may_wait.ensures.waits c.if-may_wait.true in
    let late = c.may_wait.ensures.late c.if-may_wait.true in
    wait_seen q.ahead q.waiting q.rows q.stands.items c.self.invariant.0 c.args.slot within idle c.args.key waits late c.join.new.waiting c.join.ensures.put c.join.new.rows c.join.ensures.shown c.join.ensures.keyed c.join.ensures.pairs c.join.ensures.turned c.join.ensures.free ∙ ap (λ (s : Stationed). set s.keys c.args.slot (Some (when_free s.free (pair_of s c.args.slot) c.args.key))) c.self.view_is

pub returns-then-may_wait-clause-counted : goal.returns-then-may_wait-clause-counted
returns-then-may_wait-clause-counted g c =
    λ k l.
    let q = c.self.inside in
    let size = seen_length_is_slot_count q.ahead q.waiting q.rows q.stands.items c.self.invariant.0 in
    let within : c.args.slot < length q.waiting.keys = omega (arith, c.requires.slot_in, ap (λ (s : Stationed). length s.keys) c.self.view_is, size) in
    let idle : key_at (seen_of q.ahead q.waiting q.rows) c.args.slot ≡ None = ap (λ (s : Stationed). key_at s.keys c.args.slot) c.self.view_is ∙ c.requires.free in
    let few : length q.waiting.keys ≤ 2 ^ k = omega (arith, l, size, ap (λ (s : Stationed). length s.keys) c.self.view_is) in
    let double = pow_next_is_double k in
    let spent = c.join.ensures.counted k few (omega (arith, few, c.self.invariant.0.few_stations)) (omega (arith, few, c.self.invariant.0.few_resources, double)) in
    let same : cost_of_waiting k (set q.stands.items c.args.slot Waiting) ≡ cost_of_waiting k q.stands.items = ap (λ n. n * (8 * k + 12)) (wait_same q.ahead q.waiting q.rows q.stands.items c.self.invariant.0 c.args.slot within idle c.args.key) in
    let stands = ap (λ (s : Stationed). cost_of_waiting k s.stands) c.self.view_is in
    omega (arith, spent, same, stands, c.may_wait.ensures.counted)

pub returns-else-may_wait-clause-put : goal.returns-else-may_wait-clause-put
returns-else-may_wait-clause-put g c =
    let q = c.self.inside in
    let size = seen_length_is_slot_count q.ahead q.waiting q.rows q.stands.items c.self.invariant.0 in
    let within : c.args.slot < length q.waiting.keys = omega (arith, c.requires.slot_in, ap (λ (s : Stationed). length s.keys) c.self.view_is, size) in
    let idle : key_at (seen_of q.ahead q.waiting q.rows) c.args.slot ≡ None = ap (λ (s : Stationed). key_at s.keys c.args.slot) c.self.view_is ∙ c.requires.free in
    put_seen q.ahead q.waiting q.rows q.stands.items c.self.invariant.0 c.args.slot within idle c.args.key c.put.new.self c.put.ensures.put ∙ ap (λ (s : Stationed). set s.keys c.args.slot (Some (when_free s.free (pair_of s c.args.slot) c.args.key))) c.self.view_is

pub returns-else-may_wait-clause-counted : goal.returns-else-may_wait-clause-counted
returns-else-may_wait-clause-counted g c =
    λ k l.
    let q = c.self.inside in
    let size = seen_length_is_slot_count q.ahead q.waiting q.rows q.stands.items c.self.invariant.0 in
    let within : c.args.slot < length q.waiting.keys = omega (arith, c.requires.slot_in, ap (λ (s : Stationed). length s.keys) c.self.view_is, size) in
    let idle : key_at (seen_of q.ahead q.waiting q.rows) c.args.slot ≡ None = ap (λ (s : Stationed). key_at s.keys c.args.slot) c.self.view_is ∙ c.requires.free in
    let few : length q.waiting.keys ≤ 2 ^ k = omega (arith, l, size, ap (λ (s : Stationed). length s.keys) c.self.view_is) in
    let spent = c.put.ensures.counted k (omega (arith, few, c.self.invariant.0.mapped.each)) in
    let more : cost_of_waiting k (set q.stands.items c.args.slot Ahead) ≡ cost_of_waiting k q.stands.items + (8 * k + 12) = ap (λ n. n * (8 * k + 12)) (put_more q.ahead q.waiting q.rows q.stands.items c.self.invariant.0 c.args.slot within idle c.args.key) ∙ successor_times (count_ahead q.stands.items) (8 * k + 12) in
    let stands = ap (λ (s : Stationed). cost_of_waiting k s.stands) c.self.view_is in
    omega (arith, spent, more, stands, c.may_wait.ensures.counted)
