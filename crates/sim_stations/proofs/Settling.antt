-- Slots begin to wait and stations switch, until the least key is tried first.
use Rattle.std.proofs.Common.{◌≡◌, ◌<◌, ◌≤◌, ◌+◌, ◌*◌, ◌^◌, ℕ, zero, suc, Bool, true, false, not, nat_lt, List, [], ◌∷◌, length, set, slice_get, slice_index, Option, Some, refl, sym, ap, ◌∙◌, subst, arith, add-one, le-ltb}
use Rattle.std.proofs.Math.Nat.{suc-mul}
use Rattle.std.proofs.lemmas.Bool.{lt-ltb}
use Rattle.std.proofs.lemmas.List.{length-set}
use Rattle.std.proofs.lemmas.Option.{same_Some, slice_get_within, slice_get-get_or}
use Rattle.goal_graph.specs.declared.action.Timed.{Timed}
use Rattle.sim_queue.specs.Groups.{Grouped}
use Rattle.sim_queue.proofs.ForCallers.{pow_next_is_double}
use Rattle.sim_resources.specs.declared.pair.Pair.{Pair}
use Rattle.sim_stations.specs.declared.key_place.KeyPlace.{KeyPlace}
use Rattle.sim_stations.specs.Stations.{pair_at, AreTimesOf, count_ahead, cost_of_waiting, cost_of_moves}
use Rattle.sim_stations.specs.Moves.{one_if, HaveReturned, HaveMoved}
use Rattle.sim_stations.specs.Rows.{Rowed, side_of, turned_at}
use Rattle.sim_stations.specs.Kept.{seen_of, AreShown, IsKept, is_late, count_late}
use Rattle.sim_stations.proofs.Moves.{moved_by_one_switch, unmoved, have_moved_transitive}
use Rattle.sim_stations.proofs.Joined.{kept_with_new_slots_and_rows}

pub successor_times : (n m : ℕ) → (n + 1) * m ≡ n * m + m
successor_times n m = ap (λ x. x * m) (add-one n) ∙ suc-mul n m

-- what has changed since the beginning
pub record IsSettling (ahead : List (Option Timed)) (waiting : Grouped Timed) (rows : Rowed) (stands : List KeyPlace) (steps moves : ℕ) (new_ahead : List (Option Timed)) (new_waiting : Grouped Timed) (new_rows : Rowed) (new_stands : List KeyPlace) (now moves_now : ℕ) : Type 0 where
  pub kept : IsKept new_ahead new_waiting new_rows new_stands
  pub seen : seen_of new_ahead new_waiting new_rows ≡ seen_of ahead waiting rows
  pub groups : new_waiting.groups ≡ waiting.groups
  pub long : length new_waiting.keys ≡ length waiting.keys
  pub pairs : new_rows.pairs ≡ rows.pairs
  pub free : new_rows.free ≡ rows.free
  pub counted :
      (k : ℕ) → length waiting.keys ≤ 2 ^ k
      → now + cost_of_waiting k new_stands + cost_of_moves k moves ≤ steps + cost_of_waiting k stands + cost_of_moves k moves_now
  pub moved :
      (holds returns : List ℕ) → HaveReturned rows.pairs rows.turned rows.free holds returns
      → HaveMoved rows.pairs rows.free holds rows.turned new_rows.turned returns moves moves_now

pub settling : (ahead : List (Option Timed)) (waiting : Grouped Timed) (rows : Rowed) (stands : List KeyPlace) (steps moves : ℕ) → IsKept ahead waiting rows stands → IsSettling ahead waiting rows stands steps moves ahead waiting rows stands steps moves
settling ahead waiting rows stands steps moves kept = record {
  kept = kept;
  seen = refl;
  groups = refl;
  long = refl;
  pairs = refl;
  free = refl;
  counted = λ k l. omega arith;
  moved = λ holds returns have. unmoved rows.pairs rows.free holds rows.turned returns have moves;
}

-- the station that switches is no longer late, and no other changes
greater_is_not_less : (m n : ℕ) → m < n → nat_lt n m ≡ false
greater_is_not_less m n l = le-ltb n m (omega (arith, l))

late_station_not_late_after_switch : (free : List ℕ) (p : Pair) (b : Bool) → slice_index free (side_of p b) < slice_index free (side_of p (not b)) → one_if (is_late free p (not b)) + 1 ≡ one_if (is_late free p b)
late_station_not_late_after_switch free p false l =
    ap (λ x. one_if x + 1) (greater_is_not_less (slice_index free p.cpu) (slice_index free p.side) l) ∙ sym (ap one_if (lt-ltb (slice_index free p.cpu) (slice_index free p.side) l))
late_station_not_late_after_switch free p true l =
    ap (λ x. one_if x + 1) (greater_is_not_less (slice_index free p.side) (slice_index free p.cpu) l) ∙ sym (ap one_if (lt-ltb (slice_index free p.side) (slice_index free p.cpu) l))

pub one_fewer_late_after_switch : (free : List ℕ) (pairs : List Pair) (turned : List Bool) (s : ℕ) (p : Pair) → slice_get pairs s ≡ Some p → length turned ≡ length pairs → slice_index free (side_of p (turned_at turned s)) < slice_index free (side_of p (not (turned_at turned s))) → count_late free pairs (set turned s (not (turned_at turned s))) + 1 ≡ count_late free pairs turned
one_fewer_late_after_switch free [] turned s p e l h = absurd (omega (arith, slice_get_within [] s p e))
one_fewer_late_after_switch free (q ∷ pairs) [] s p e l h = absurd (omega (arith, l))
one_fewer_late_after_switch free (q ∷ pairs) (b ∷ turned) zero p e l h =
    let same : p ≡ q = same_Some p q (sym e) in
    let one : one_if (is_late free q (not b)) + 1 ≡ one_if (is_late free q b) = subst (λ x. one_if (is_late free x (not b)) + 1 ≡ one_if (is_late free x b)) same (late_station_not_late_after_switch free p b h) in
    omega (arith, one)
one_fewer_late_after_switch free (q ∷ pairs) (b ∷ turned) (suc s) p e l h =
    let rest = one_fewer_late_after_switch free pairs turned s p e (omega (arith, l)) h in omega (arith, rest)

module _ (ahead : List (Option Timed)) (waiting : Grouped Timed) (rows : Rowed) (stands : List KeyPlace) (steps moves : ℕ) (mid_ahead : List (Option Timed)) (mid_waiting : Grouped Timed) (mid_rows : Rowed) (mid_stands : List KeyPlace) (then moves_then : ℕ) (so_far : IsSettling ahead waiting rows stands steps moves mid_ahead mid_waiting mid_rows mid_stands then moves_then) where
  -- the times are still those at which the resources of the slots are free
  pub times_known_in_loop : (times : List ℕ) → ((slot : ℕ) → slot < length waiting.keys → AreTimesOf times rows.free (pair_at rows.pairs (slice_index waiting.groups slot))) → (slot : ℕ) → slot < length mid_waiting.keys → AreTimesOf times mid_rows.free (pair_at mid_rows.pairs (slice_index mid_waiting.groups slot))
  times_known_in_loop times known slot within =
      let then_known = known slot (omega (arith, within, so_far.long)) in
      let at_groups = subst (λ gs. AreTimesOf times rows.free (pair_at rows.pairs (slice_index gs slot))) (sym so_far.groups) then_known in
      let at_pairs = subst (λ ps. AreTimesOf times rows.free (pair_at ps (slice_index mid_waiting.groups slot))) (sym so_far.pairs) at_groups in
      subst (λ fs. AreTimesOf times fs (pair_at mid_rows.pairs (slice_index mid_waiting.groups slot))) (sym so_far.free) at_pairs

  -- a slot has begun to wait
  module _ (new_ahead : List (Option Timed)) (new_waiting : Grouped Timed) (new_rows : Rowed) (new_stands : List KeyPlace) (looked now : ℕ) (kept : IsKept new_ahead new_waiting new_rows new_stands) (seen : seen_of new_ahead new_waiting new_rows ≡ seen_of mid_ahead mid_waiting mid_rows) (groups : new_waiting.groups ≡ mid_waiting.groups) (pairs : new_rows.pairs ≡ mid_rows.pairs) (turned : new_rows.turned ≡ mid_rows.turned) (free : new_rows.free ≡ mid_rows.free) (fewer : count_ahead new_stands + 1 ≡ count_ahead mid_stands) (look : looked ≤ then + 3) (counted : (k : ℕ) → length mid_waiting.keys ≤ 2 ^ k → now ≤ looked + (8 * k + 9)) where
    pub waited : IsSettling ahead waiting rows stands steps moves new_ahead new_waiting new_rows new_stands now moves_then
    waited = record {
      kept = kept;
      seen = seen ∙ so_far.seen;
      groups = groups ∙ so_far.groups;
      long = sym kept.mapped.grouped ∙ ap length groups ∙ so_far.kept.mapped.grouped ∙ so_far.long;
      pairs = pairs ∙ so_far.pairs;
      free = free ∙ so_far.free;
      counted = λ k l. all k l;
      moved = λ holds returns have. subst (λ bs. HaveMoved rows.pairs rows.free holds rows.turned bs returns moves moves_then) (sym turned) (so_far.moved holds returns have);
    }
      where
        all : (k : ℕ) → length waiting.keys ≤ 2 ^ k → now + cost_of_waiting k new_stands + cost_of_moves k moves ≤ steps + cost_of_waiting k stands + cost_of_moves k moves_then
        all k l =
            let was = so_far.counted k l in
            let step = counted k (omega (arith, l, so_far.long)) in
            let one : cost_of_waiting k mid_stands ≡ cost_of_waiting k new_stands + (8 * k + 12) = ap (λ n. n * (8 * k + 12)) (sym fewer) ∙ successor_times (count_ahead new_stands) (8 * k + 12) in
            omega (arith, was, step, one, look)

    pub waited_less : count_ahead new_stands + count_late new_rows.free new_rows.pairs new_rows.turned < count_ahead mid_stands + count_late mid_rows.free mid_rows.pairs mid_rows.turned
    waited_less =
        let late : count_late new_rows.free new_rows.pairs new_rows.turned ≡ count_late mid_rows.free mid_rows.pairs mid_rows.turned = ap (λ f. count_late f new_rows.pairs new_rows.turned) free ∙ ap (λ p. count_late mid_rows.free p new_rows.turned) pairs ∙ ap (count_late mid_rows.free mid_rows.pairs) turned in
        omega (arith, fewer, late)

  -- a station has switched
  module _ (station : ℕ) (exists : station < length mid_rows.pairs) (late : slice_index mid_rows.free (side_of (pair_at mid_rows.pairs station) (turned_at mid_rows.turned station)) < slice_index mid_rows.free (side_of (pair_at mid_rows.pairs station) (not (turned_at mid_rows.turned station)))) (new_rows : Rowed) (is_new : new_rows ≡ record { keys = mid_rows.keys; pairs = mid_rows.pairs; turned = set mid_rows.turned station (not (turned_at mid_rows.turned station)); free = mid_rows.free }) (looked now moves_now : ℕ) (look : looked ≤ then + 3) (counted : (k : ℕ) → 2 * length mid_rows.pairs ≤ 2 ^ k → length mid_rows.free ≤ 2 ^ k → now ≤ looked + (8 * k + 4)) (ticked : moves_now ≡ moves_then + 1) where
    abbrev over : List Bool
    over = set mid_rows.turned station (not (turned_at mid_rows.turned station))

    pair : slice_get mid_rows.pairs station ≡ Some (pair_at mid_rows.pairs station)
    pair = slice_get-get_or mid_rows.pairs station (record { cpu = 0; side = 0 }) exists

    pub turned_kept : IsKept mid_ahead mid_waiting new_rows mid_stands
    turned_kept = kept_with_new_slots_and_rows mid_ahead mid_waiting mid_rows mid_stands mid_ahead mid_waiting new_rows mid_stands so_far.kept refl so_far.kept.mapped (subst (λ (r : Rowed). AreShown mid_waiting r.keys (length r.pairs)) (sym is_new) so_far.kept.shown) (subst (λ (r : Rowed). length r.keys ≡ length r.pairs) (sym is_new) so_far.kept.keyed) so_far.kept.stood (ap (λ (r : Rowed). r.pairs) is_new) (ap (λ (r : Rowed). length r.turned) is_new ∙ length-set mid_rows.turned station (not (turned_at mid_rows.turned station))) (ap (λ (r : Rowed). length r.free) is_new)

    pub went_over : IsSettling ahead waiting rows stands steps moves mid_ahead mid_waiting new_rows mid_stands now moves_now
    went_over = record {
      kept = turned_kept;
      seen = ap (λ (r : Rowed). seen_of mid_ahead mid_waiting r) is_new ∙ so_far.seen;
      groups = so_far.groups;
      long = so_far.long;
      pairs = ap (λ (r : Rowed). r.pairs) is_new ∙ so_far.pairs;
      free = ap (λ (r : Rowed). r.free) is_new ∙ so_far.free;
      counted = λ k l. all k l;
      moved = λ holds returns have. moved_now holds returns have;
    }
      where
        all : (k : ℕ) → length waiting.keys ≤ 2 ^ k → now + cost_of_waiting k mid_stands + cost_of_moves k moves ≤ steps + cost_of_waiting k stands + cost_of_moves k moves_now
        all k l =
            let was = so_far.counted k l in
            let double : 2 ^ (k + 1) ≡ 2 * 2 ^ k = pow_next_is_double k in
            let step = counted (k + 1) (omega (arith, l, so_far.long, so_far.kept.few_stations, double)) (omega (arith, l, so_far.long, so_far.kept.few_resources, double)) in
            let one : cost_of_moves k moves_now ≡ cost_of_moves k moves_then + (8 * k + 15) = ap (λ n. n * (8 * k + 15)) ticked ∙ successor_times moves_then (8 * k + 15) in
            omega (arith, was, step, one, look)

        moved_now : (holds returns : List ℕ) → HaveReturned rows.pairs rows.turned rows.free holds returns → HaveMoved rows.pairs rows.free holds rows.turned new_rows.turned returns moves moves_now
        moved_now holds returns have =
            let m = so_far.moved holds returns have in
            let at : slice_get rows.pairs station ≡ Some (pair_at mid_rows.pairs station) = ap (λ ps. slice_get ps station) (sym so_far.pairs) ∙ pair in
            let late_then = subst (λ f. slice_index f (side_of (pair_at mid_rows.pairs station) (turned_at mid_rows.turned station)) < slice_index f (side_of (pair_at mid_rows.pairs station) (not (turned_at mid_rows.turned station)))) so_far.free late in
            let k = moved_by_one_switch rows.pairs rows.free holds mid_rows.turned m.now m.have station (pair_at mid_rows.pairs station) at late_then moves_then in
            let all = have_moved_transitive rows.pairs rows.free holds rows.turned mid_rows.turned over returns moves moves_then (moves_then + 1) m k in
            subst (HaveMoved rows.pairs rows.free holds rows.turned new_rows.turned returns moves) (sym ticked) (subst (λ bs. HaveMoved rows.pairs rows.free holds rows.turned bs returns moves (moves_then + 1)) (sym (ap (λ (r : Rowed). r.turned) is_new)) all)

    pub over_less : count_ahead mid_stands + count_late new_rows.free new_rows.pairs new_rows.turned < count_ahead mid_stands + count_late mid_rows.free mid_rows.pairs mid_rows.turned
    over_less =
        let now_is : count_late new_rows.free new_rows.pairs new_rows.turned ≡ count_late mid_rows.free mid_rows.pairs over = ap (λ (r : Rowed). count_late r.free r.pairs r.turned) is_new in
        let less = one_fewer_late_after_switch mid_rows.free mid_rows.pairs mid_rows.turned station (pair_at mid_rows.pairs station) pair so_far.kept.placed late in
        omega (arith, now_is, less)
