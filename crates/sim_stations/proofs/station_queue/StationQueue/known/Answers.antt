use Rattle.std.proofs.Common.{◌≡◌, ◌≤◌, ℕ, suc, List, [], ◌∷◌, length, Option, Some, None, is_some, cond, slice_index_or, ap, subst, arith}
use Rattle.std.specs.List.{sum_by, count_by}
use Rattle.std.specs.Option.{option_map}
use Rattle.std.proofs.lemmas.List.Sums.{sum_by-cons}
use Rattle.goal_graph.specs.declared.action.Timed.{Timed}
use Rattle.sim_queue.specs.Map.{either, key_at}
use Rattle.sim_resources.specs.declared.pair.Pair.{Pair}
use Rattle.sim_stations.specs.declared.key_place.KeyPlace.{KeyPlace}
use Rattle.sim_stations.specs.declared.key_place.KeyPlace.TheVariants.{Nowhere}
use Rattle.sim_stations.specs.Stations.{Stationed, when_free, pair_at, one_ahead, count_ahead}
use Rattle.sim_stations.specs.Kept.{seen_keys, stand_of}
use Rattle.sim_stations.proofs.station_queue.StationQueue.known.Goals as goal

-- a slot that is ahead has a key
ahead_slot_has_seen_key : (f : Timed → Timed) (s : KeyPlace) (a w : Option Timed) → s ≡ stand_of a w → one_ahead s ≤ cond (is_some (option_map f (either a w))) 1 0
ahead_slot_has_seen_key f s (Some k) w e = omega (arith, ap one_ahead e)
ahead_slot_has_seen_key f s None (Some k) e = omega (arith, ap one_ahead e)
ahead_slot_has_seen_key f s None None e = omega (arith, ap one_ahead e)

ahead_no_more_than_seen_keys : (free : List ℕ) (pairs : List Pair) (ahead waiting : List (Option Timed)) (groups : List ℕ) (stands : List KeyPlace) → length ahead ≡ length waiting → length groups ≡ length waiting → length stands ≡ length waiting → ((slot : ℕ) → slice_index_or stands slot Nowhere ≡ stand_of (key_at ahead slot) (key_at waiting slot)) → sum_by one_ahead stands ≤ count_by is_some (seen_keys free pairs ahead waiting groups)
unfolding seen_keys
ahead_no_more_than_seen_keys free pairs ahead waiting groups [] d e f tells = omega arith
ahead_no_more_than_seen_keys free pairs (a ∷ ahead) (w ∷ waiting) (g ∷ groups) (s ∷ stands) d e f tells =
    let rest = ahead_no_more_than_seen_keys free pairs ahead waiting groups stands (omega (arith, d)) (omega (arith, e)) (omega (arith, f)) (λ i. tells (suc i)) in
    let here = ahead_slot_has_seen_key (when_free free (pair_at pairs g)) s a w (tells 0) in
    omega (arith, rest, here, sum_by-cons one_ahead s stands, sum_by-cons (λ (k : Option Timed). cond (is_some k) 1 0) (option_map (when_free free (pair_at pairs g)) (either a w)) (seen_keys free pairs ahead waiting groups))
ahead_no_more_than_seen_keys free pairs ahead [] groups (s ∷ stands) d e f tells = absurd (omega (arith, f))
ahead_no_more_than_seen_keys free pairs [] (w ∷ waiting) groups (s ∷ stands) d e f tells = absurd (omega (arith, d))
ahead_no_more_than_seen_keys free pairs (a ∷ ahead) (w ∷ waiting) [] (s ∷ stands) d e f tells = absurd (omega (arith, e))

pub returns : goal.returns
returns c =
    let q = c.self.inside in
    let kept = c.self.invariant.0 in
    subst (λ (s : Stationed). count_ahead s.stands ≤ count_by is_some s.keys) c.self.view_is (ahead_no_more_than_seen_keys q.rows.free q.rows.pairs q.ahead q.waiting.keys q.waiting.groups q.stands.items kept.mapped.each kept.mapped.grouped kept.stood.each kept.stood.tells)
