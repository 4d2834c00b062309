-- How often stations switch resources.
use Rattle.std.proofs.Common.{◌≡◌, ◌≢◌, ◌⊎◌, ◌+◌, ◌*◌, ◌<◌, ◌≤◌, ℕ, zero, suc, min, Bool, true, false, not, List, [], ◌∷◌, length, set, slice_get, slice_index, slice_index_or, Some, refl, sym, ap, ◌∙◌, subst, arith, inl, inr}
use Rattle.std.proofs.lemmas.Bool.{cases_eq}
use Rattle.std.proofs.lemmas.List.{get_or-set_same, get_or-set_other, length-set}
use Rattle.std.proofs.lemmas.List.Sums.{sum_by-cons}
use Rattle.std.proofs.lemmas.Option.{same_Some, slice_get_within}
use Rattle.sim_resources.specs.declared.pair.Pair.{Pair}
use Rattle.sim_stations.specs.Stations.{held, IsLater}
use Rattle.sim_stations.specs.Moves.{one_if, HasReturned, HaveReturned, HaveMoved, changes, held_once_more, most_changes, ChangesAreFew}
use Rattle.sim_stations.specs.Rows.{side_of, turned_at}

-- the switches of a station are bounded by the holds of its resources
station_changes_within_holds : (free holds : List ℕ) (p : Pair) (b : Bool) (n : ℕ) → HasReturned free holds p b n → 2 * n + one_if b ≤ 1 + 2 * min (slice_index holds p.cpu) (slice_index holds p.side)
station_changes_within_holds free holds p false n r = omega (arith, r.to_cpu, r.to_side)
station_changes_within_holds free holds p true n r = omega (arith, r.to_cpu, r.to_side)

changes_within_most_changes : (free holds : List ℕ) (pairs : List Pair) (turned : List Bool) (returns : List ℕ) → length turned ≡ length pairs → length returns ≡ length pairs → ((s : ℕ) (p : Pair) → slice_get pairs s ≡ Some p → HasReturned free holds p (slice_index_or turned s false) (slice_index returns s)) → changes turned returns ≤ most_changes holds pairs
changes_within_most_changes free holds [] [] [] l m each = omega arith
changes_within_most_changes free holds (p ∷ pairs) (b ∷ turned) (n ∷ returns) l m each =
    let here = station_changes_within_holds free holds p b n (each 0 p refl) in
    let rest = changes_within_most_changes free holds pairs turned returns (omega (arith, l)) (omega (arith, m)) (λ s q e. each (suc s) q e) in
    let sum = sum_by-cons (λ (q : Pair). 1 + 2 * min (slice_index holds q.cpu) (slice_index holds q.side)) p pairs in
    omega (arith, here, rest, sum)
changes_within_most_changes free holds [] (b ∷ turned) returns l m each = absurd (omega (arith, l))
changes_within_most_changes free holds [] [] (n ∷ returns) l m each = absurd (omega (arith, m))
changes_within_most_changes free holds (p ∷ pairs) [] returns l m each = absurd (omega (arith, l))
changes_within_most_changes free holds (p ∷ pairs) (b ∷ turned) [] l m each = absurd (omega (arith, m))

pub few_changes : ChangesAreFew
few_changes pairs turned free holds returns have = changes_within_most_changes free holds pairs turned returns have.both have.each have.station

-- one station switches
pub changes_set : (turned : List Bool) (returns : List ℕ) (s : ℕ) (b : Bool) (n : ℕ) → length turned ≡ length returns → s < length turned → changes (set turned s b) (set returns s n) + (2 * slice_index returns s + one_if (turned_at turned s)) ≡ changes turned returns + (2 * n + one_if b)
changes_set [] returns s b n l h = absurd (omega (arith, h))
changes_set (c ∷ turned) [] s b n l h = absurd (omega (arith, l))
changes_set (c ∷ turned) (m ∷ returns) zero b n l h = omega arith
changes_set (c ∷ turned) (m ∷ returns) (suc s) b n l h =
    let rest = changes_set turned returns s b n (omega (arith, l)) (omega (arith, h)) in omega (arith, rest)

abbrev return_count_after_switch : Bool → ℕ → ℕ
return_count_after_switch false n = n
return_count_after_switch true n = n + 1

next_change : (b : Bool) (n : ℕ) → 2 * return_count_after_switch b n + one_if (not b) ≡ 2 * n + one_if b + 1
next_change false n = omega arith
next_change true n = omega arith

module _ (free holds : List ℕ) (p : Pair) where
  -- a station switches only to a resource that is free later
  returned_after_switch : (b : Bool) (n : ℕ) → HasReturned free holds p b n → slice_index free (side_of p b) < slice_index free (side_of p (not b)) → HasReturned free holds p (not b) (return_count_after_switch b n)
  returned_after_switch false n r late = record {
    to_cpu = r.to_cpu;
    to_side = r.may_go refl late;
    may_go = λ e l. absurd (cc);
    may_return = λ e l. absurd (omega (arith, l, late));
  }
  returned_after_switch true n r late = record {
    to_cpu = r.may_return refl late;
    to_side = omega (arith, r.to_side);
    may_go = λ e l. absurd (omega (arith, l, late));
    may_return = λ e l. absurd (cc);
  }

module _ (pairs : List Pair) (free holds : List ℕ) where
  pub moved_by_one_switch : (turned : List Bool) (returns : List ℕ) → HaveReturned pairs turned free holds returns → (s : ℕ) (p : Pair) → slice_get pairs s ≡ Some p → slice_index free (side_of p (turned_at turned s)) < slice_index free (side_of p (not (turned_at turned s))) → (moves : ℕ) → HaveMoved pairs free holds turned (set turned s (not (turned_at turned s))) returns moves (moves + 1)
  moved_by_one_switch turned returns have s p at late moves = record {
    now = now;
    have = record {
      each = length-set returns s (return_count_after_switch b n) ∙ have.each;
      both = length-set turned s (not b) ∙ have.both;
      resources = have.resources;
      exist = have.exist;
      station = λ t q e. go t q e (cases_eq t s);
    };
    counted = omega (arith, changes_set turned returns s (not b) (return_count_after_switch b n) (have.both ∙ sym have.each) within, next_change b n);
  }
    where
      b : Bool
      b = turned_at turned s

      n : ℕ
      n = slice_index returns s

      now : List ℕ
      now = set returns s (return_count_after_switch b n)

      within : s < length turned
      within = omega (arith, slice_get_within pairs s p at, have.both)

      go : (t : ℕ) (q : Pair) → slice_get pairs t ≡ Some q → (t ≡ s) ⊎ (t ≢ s) → HasReturned free holds q (slice_index_or (set turned s (not b)) t false) (slice_index now t)
      go t q e (inl same) =
          let is : p ≡ q = same_Some p q (sym at ∙ ap (slice_get pairs) (sym same) ∙ e) in
          let turned_now : slice_index_or (set turned s (not b)) t false ≡ not b = ap (λ x. slice_index_or (set turned s (not b)) x false) same ∙ get_or-set_same turned s (not b) false within in
          let now_is : slice_index now t ≡ return_count_after_switch b n = ap (slice_index now) same ∙ get_or-set_same returns s (return_count_after_switch b n) 0 (omega (arith, within, have.both, have.each)) in
          let turn : HasReturned free holds q (not b) (return_count_after_switch b n) = subst (λ x. HasReturned free holds x (not b) (return_count_after_switch b n)) is (returned_after_switch free holds p b n (have.station s p at) late) in
          subst (λ x. HasReturned free holds q x (slice_index now t)) (sym turned_now) (subst (HasReturned free holds q (not b)) (sym now_is) turn)
      go t q e (inr d) =
          let turned_now : slice_index_or (set turned s (not b)) t false ≡ slice_index_or turned t false = get_or-set_other turned s t (not b) false d in
          let now_is : slice_index now t ≡ slice_index returns t = get_or-set_other returns s t (return_count_after_switch b n) 0 d in
          subst (λ x. HasReturned free holds q x (slice_index now t)) (sym turned_now) (subst (HasReturned free holds q (slice_index_or turned t false)) (sym now_is) (have.station t q e))

  -- before any switch, and another switch after others
  pub unmoved : (turned : List Bool) (returns : List ℕ) → HaveReturned pairs turned free holds returns → (moves : ℕ) → HaveMoved pairs free holds turned turned returns moves moves
  unmoved turned returns have moves = record { now = returns; have = have; counted = refl }

  pub have_moved_transitive : (old mid new : List Bool) (returns : List ℕ) (before then after : ℕ) → (m : HaveMoved pairs free holds old mid returns before then) → HaveMoved pairs free holds mid new m.now then after → HaveMoved pairs free holds old new returns before after
  have_moved_transitive old mid new returns before then after m k = record { now = k.now; have = k.have; counted = omega (arith, m.counted, k.counted) }

-- what a hold changes
module _ (free holds : List ℕ) (p : Pair) (cpu side : ℕ) (later : IsLater free p cpu side) (same : length holds ≡ length free) where
  abbrev pub now : List ℕ
  now = held free p cpu side

  abbrev pub more : List ℕ
  more = held_once_more holds p

  pub record IsTouched (r : ℕ) : Type 0 where
    pub not_earlier : slice_index free r ≤ slice_index now r
    pub not_fewer : slice_index holds r ≤ slice_index more r
    pub either_way : (slice_index now r ≡ slice_index free r) ⊎ (slice_index holds r + 1 ≤ slice_index more r)

  pub hold_effect_on_resource : (r : ℕ) → r < length free → IsTouched r
  hold_effect_on_resource r l = go (cases_eq r p.side) (cases_eq r p.cpu)
    where
      go : (r ≡ p.side) ⊎ (r ≢ p.side) → (r ≡ p.cpu) ⊎ (r ≢ p.cpu) → IsTouched r
      go (inl e) b =
          let now_is : slice_index now r ≡ side = ap (slice_index now) e ∙ get_or-set_same (set free p.cpu cpu) p.side side 0 (omega (arith, l, e, length-set free p.cpu cpu)) in
          let more_is : slice_index more r ≡ slice_index holds p.side + 1 = ap (slice_index more) e ∙ get_or-set_same (set holds p.cpu (slice_index holds p.cpu + 1)) p.side (slice_index holds p.side + 1) 0 (omega (arith, l, e, same, length-set holds p.cpu (slice_index holds p.cpu + 1))) in
          let holds_is : slice_index holds r ≡ slice_index holds p.side = ap (slice_index holds) e in
          record { not_earlier = omega (arith, now_is, up b); not_fewer = omega (arith, more_is, holds_is); either_way = inr (omega (arith, more_is, holds_is)) }
        where
          up : (r ≡ p.cpu) ⊎ (r ≢ p.cpu) → slice_index free r ≤ side
          up (inl f) =
              let at : slice_index (set free p.cpu cpu) p.side ≡ cpu = ap (slice_index (set free p.cpu cpu)) (sym e ∙ f) ∙ get_or-set_same free p.cpu cpu 0 (omega (arith, l, f)) in
              omega (arith, later.side_later, at, later.cpu_later, ap (slice_index free) f)
          up (inr d) =
              let at : slice_index (set free p.cpu cpu) p.side ≡ slice_index free p.side = get_or-set_other free p.cpu p.side cpu 0 (λ f. d (e ∙ f)) in
              omega (arith, later.side_later, at, ap (slice_index free) e)
      go (inr d) (inl e) =
          let now_is : slice_index now r ≡ cpu = get_or-set_other (set free p.cpu cpu) p.side r side 0 d ∙ ap (slice_index (set free p.cpu cpu)) e ∙ get_or-set_same free p.cpu cpu 0 (omega (arith, l, e)) in
          let more_is : slice_index more r ≡ slice_index holds p.cpu + 1 = get_or-set_other (set holds p.cpu (slice_index holds p.cpu + 1)) p.side r (slice_index holds p.side + 1) 0 d ∙ ap (slice_index (set holds p.cpu (slice_index holds p.cpu + 1))) e ∙ get_or-set_same holds p.cpu (slice_index holds p.cpu + 1) 0 (omega (arith, l, e, same)) in
          let holds_is : slice_index holds r ≡ slice_index holds p.cpu = ap (slice_index holds) e in
          record { not_earlier = omega (arith, now_is, later.cpu_later, ap (slice_index free) e); not_fewer = omega (arith, more_is, holds_is); either_way = inr (omega (arith, more_is, holds_is)) }
      go (inr d) (inr f) =
          let now_is : slice_index now r ≡ slice_index free r = get_or-set_other (set free p.cpu cpu) p.side r side 0 d ∙ get_or-set_other free p.cpu r cpu 0 f in
          let more_is : slice_index more r ≡ slice_index holds r = get_or-set_other (set holds p.cpu (slice_index holds p.cpu + 1)) p.side r (slice_index holds p.side + 1) 0 d ∙ get_or-set_other holds p.cpu r (slice_index holds p.cpu + 1) 0 f in
          record { not_earlier = omega (arith, now_is); not_fewer = omega (arith, more_is); either_way = inl now_is }

  returned_after_hold : (q : Pair) (b : Bool) (n : ℕ) → q.cpu < length free → q.side < length free → HasReturned free holds q b n → HasReturned now more q b n
  returned_after_hold q b n l m r = record {
    to_cpu = omega (arith, r.to_cpu, (hold_effect_on_resource q.cpu l).not_fewer);
    to_side = omega (arith, r.to_side, (hold_effect_on_resource q.side m).not_fewer);
    may_go = λ e h. go e h (hold_effect_on_resource q.side m).either_way;
    may_return = λ e h. back e h (hold_effect_on_resource q.cpu l).either_way;
  }
    where
      go : b ≡ false → slice_index now q.cpu < slice_index now q.side → (slice_index now q.side ≡ slice_index free q.side) ⊎ (slice_index holds q.side + 1 ≤ slice_index more q.side) → n + 1 ≤ slice_index more q.side
      go e h (inl f) =
          let was = r.may_go e (omega (arith, h, f, (hold_effect_on_resource q.cpu l).not_earlier)) in
          omega (arith, was, (hold_effect_on_resource q.side m).not_fewer)
      go e h (inr f) = omega (arith, f, r.to_side)

      back : b ≡ true → slice_index now q.side < slice_index now q.cpu → (slice_index now q.cpu ≡ slice_index free q.cpu) ⊎ (slice_index holds q.cpu + 1 ≤ slice_index more q.cpu) → n + 1 ≤ slice_index more q.cpu
      back e h (inl f) =
          let was = r.may_return e (omega (arith, h, f, (hold_effect_on_resource q.side m).not_earlier)) in
          omega (arith, was, (hold_effect_on_resource q.cpu l).not_fewer)
      back e h (inr f) = omega (arith, f, r.to_cpu)

-- holding the resources of a pair leaves the places unchanged
pub have_returned_after_hold : (pairs : List Pair) (turned : List Bool) (free holds returns : List ℕ) → HaveReturned pairs turned free holds returns → (p : Pair) (cpu side : ℕ) → IsLater free p cpu side → HaveReturned pairs turned (held free p cpu side) (held_once_more holds p) returns
have_returned_after_hold pairs turned free holds returns have p cpu side later = record {
  each = have.each;
  both = have.both;
  resources = length-set (set holds p.cpu (slice_index holds p.cpu + 1)) p.side (slice_index holds p.side + 1) ∙ length-set holds p.cpu (slice_index holds p.cpu + 1) ∙ have.resources ∙ sym long;
  exist = λ s q e. let was = have.exist s q e in (omega (arith, was.0, long), omega (arith, was.1, long));
  station = λ s q e. let was = have.exist s q e in returned_after_hold free holds p cpu side later have.resources q (slice_index_or turned s false) (slice_index returns s) was.0 was.1 (have.station s q e);
}
  where
    long : length (held free p cpu side) ≡ length free
    long = length-set (set free p.cpu cpu) p.side side ∙ length-set free p.cpu cpu
