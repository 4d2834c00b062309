-- Stations have their numbers at places of their own.
use Rattle.std.proofs.Common.{◌≡◌, ◌≢◌, ◌⊎◌, ◌<◌, ◌≤◌, ◌==◌, ◌&&◌, ◌++◌, ℕ, Bool, true, List, [], ◌∷◌, length, Option, Some, None, slice_get, append-nil, eq-eqb, refl, sym, ap, ap₂, ◌∙◌, subst, arith, inl, inr}
use Rattle.std.specs.Option.{IfNone}
use Rattle.std.proofs.lemmas.Bool.{and_parts, cases_eq, eqb-true}
use Rattle.std.proofs.lemmas.Option.{same_Some, slice_get_within}
use Rattle.goal_graph.proofs.ForCallers.{same_choice_true, get_last}
use Rattle.sim_resources.proofs.Lists.{get_after_append, appended_or_earlier}
use Rattle.sim_resources.specs.declared.station.Station.{Station}
use Rattle.sim_resources.specs.declared.station.Latest.{Latest}
use Rattle.sim_resources.specs.Numbering.{cpu_place, side_place, place, IsOneSide, IsPlain, IsNotAfter, IsNew, IsTold, ArePlaced, HasNumber}
use Rattle.sim_resources.specs.Stations.{same_station, side_by, side_alone, same_choice}

pub same_station_true : (p q : Station) → same_station p q ≡ true → p ≡ q
same_station_true p q e =
    let outer = and_parts (p.rank == q.rank) (same_choice p.cpu q.cpu && (same_choice p.sends q.sends && same_choice p.receives q.receives)) e in
    let middle = and_parts (same_choice p.cpu q.cpu) (same_choice p.sends q.sends && same_choice p.receives q.receives) outer.1 in
    let inner = and_parts (same_choice p.sends q.sends) (same_choice p.receives q.receives) middle.1 in
    let rank = eqb-true p.rank q.rank outer.0 in
    let cpu = same_choice_true p.cpu q.cpu middle.0 in
    let sends = same_choice_true p.sends q.sends inner.0 in
    let receives = same_choice_true p.receives q.receives inner.1 in
    λ i. record { rank = rank i; cpu = cpu i; sends = sends i; receives = receives i }

pub same_station_from : (p q : Station) → p ≡ q → same_station p q ≡ true
same_station_from p q e = sym (ap (λ (t : Station). same_station t q) (sym e)) ∙ itself q
  where
    choice : (a : Option ℕ) → same_choice a a ≡ true
    choice None = refl
    choice (Some n) = eq-eqb n n refl

    both : (a b : Bool) → a ≡ true → b ≡ true → (a && b) ≡ true
    both a b e f = ap₂ (λ (u v : Bool). u && v) e f

    itself : (t : Station) → same_station t t ≡ true
    itself t =
        both (t.rank == t.rank) _ (eq-eqb t.rank t.rank refl) (both (same_choice t.cpu t.cpu) _ (choice t.cpu) (both (same_choice t.sends t.sends) (same_choice t.receives t.receives) (choice t.sends) (choice t.receives)))

-- the rank and the place of a plain station determine it
side_place_is_bounded : (s r : Option ℕ) → IsOneSide s r → side_place s r < 513
side_place_is_bounded None None h = omega arith
side_place_is_bounded None (Some n) h = omega (arith, h)
side_place_is_bounded (Some n) None h = omega (arith, h)
side_place_is_bounded (Some m) (Some n) h = absurd h

cpu_place_decides_cpu : (a b : Option ℕ) → cpu_place a ≡ cpu_place b → a ≡ b
cpu_place_decides_cpu None None e = refl
cpu_place_decides_cpu None (Some n) e = absurd (omega (arith, e))
cpu_place_decides_cpu (Some m) None e = absurd (omega (arith, e))
cpu_place_decides_cpu (Some m) (Some n) e = let same : m ≡ n = omega (arith, e) in ap Some same

side_place_decides_sides : (s r t u : Option ℕ) → IsOneSide s r → IsOneSide t u → side_place s r ≡ side_place t u → (s ≡ t) × (r ≡ u)
side_place_decides_sides (Some m) (Some n) t u h i e = absurd h
side_place_decides_sides None None None None h i e = (refl, refl)
side_place_decides_sides None None None (Some n) h i e = absurd (omega (arith, e))
side_place_decides_sides None None (Some n) None h i e = absurd (omega (arith, e))
side_place_decides_sides None None (Some m) (Some n) h i e = absurd i
side_place_decides_sides None (Some m) None None h i e = absurd (omega (arith, e))
side_place_decides_sides None (Some m) None (Some n) h i e = let same : m ≡ n = omega (arith, e) in (refl, ap Some same)
side_place_decides_sides None (Some m) (Some n) None h i e = absurd (omega (arith, e, i))
side_place_decides_sides None (Some l) (Some m) (Some n) h i e = absurd i
side_place_decides_sides (Some m) None None None h i e = absurd (omega (arith, e))
side_place_decides_sides (Some m) None None (Some n) h i e = absurd (omega (arith, e, h))
side_place_decides_sides (Some m) None (Some n) None h i e = let same : m ≡ n = omega (arith, e) in (ap Some same, refl)
side_place_decides_sides (Some l) None (Some m) (Some n) h i e = absurd i

rank_and_place_decide_station : (s t : Station) → IsPlain s → IsPlain t → s.rank ≡ t.rank → place s ≡ place t → s ≡ t
rank_and_place_decide_station s t p q rank e =
    let low = side_place_is_bounded s.sends s.receives p.side in
    let low_too = side_place_is_bounded t.sends t.receives q.side in
    let high : cpu_place s.cpu ≡ cpu_place t.cpu = omega (arith, e, low, low_too) in
    let side : side_place s.sends s.receives ≡ side_place t.sends t.receives = omega (arith, e, high) in
    let cpu = cpu_place_decides_cpu s.cpu t.cpu high in
    let sides = side_place_decides_sides s.sends s.receives t.sends t.receives p.side q.side side in
    λ i. record { rank = rank i; cpu = cpu i; sends = sides.0 i; receives = sides.1 i }

-- before any is seen
pub none_placed_at_start : (latest : ℕ → Option Latest) → ((n : ℕ) → latest n ≡ None) → ArePlaced [] latest
none_placed_at_start latest none = record {
  plain = λ i s e. absurd (nothing i s e);
  told = λ n l e. absurd (cc (none n, e));
  placed = λ i s e n. absurd (nothing i s e);
  once = λ i j s e f. absurd (nothing i s e);
}
  where
    nothing : (i : ℕ) (s : Station) → slice_get [] i ≡ Some s → ⊥
    nothing i s e = omega (arith, slice_get_within [] i s e)

module _ (seen : List Station) (latest : ℕ → Option Latest) (placed : ArePlaced seen latest) where
  module _ (rank at : ℕ) (station : Station) (same_rank : station.rank ≡ rank) (same_place : place station ≡ at) where
    -- a plain station has the number that is noted at its place for its rank
    pub latest_gives_number_of_station : (number : ℕ) → IsPlain station → latest at ≡ Some (record { rank = rank; number = number }) → slice_get seen number ≡ Some station
    latest_gives_number_of_station number plain e =
        let told = placed.told at (record { rank = rank; number = number }) e in
        told.is ∙ ap Some (rank_and_place_decide_station told.station station (placed.plain number told.station told.is) plain (told.rank ∙ sym same_rank) (told.at ∙ sym same_place))

    -- and is new where it tells none
    pub no_latest_is_new_station : IsNotAfter seen station.rank → ((number : ℕ) → latest at ≢ Some (record { rank = rank; number = number })) → IsNew seen station
    no_latest_is_new_station by_rank none i e =
        none i (ap latest (sym same_place) ∙ placed.placed i station e by_rank ∙ (λ k. Some (record { rank = same_rank k; number = i })))

  module _ (station : Station) (plain : IsPlain station) (by_rank : IsNotAfter seen station.rank) (new : IsNew seen station) where
    abbrev own : Latest
    own = record { rank = station.rank; number = length seen }

    -- one more, whose place has its number
    placed_after_append : (more : ℕ → Option Latest) → more (place station) ≡ Some own → ((n : ℕ) → n ≢ place station → more n ≡ latest n) → ArePlaced (seen ++ station ∷ []) more
    placed_after_append more at_own others = record {
      plain = λ i s e. elim (appended_or_earlier seen station i s e) [ inl was ↦ placed.plain i s was | inr last ↦ subst IsPlain (sym last.1) plain ];
      told = λ n l e. told n l e (cases_eq n (place station));
      placed = λ i s e last. elim (appended_or_earlier seen station i s e) [ inl was ↦ kept i s was last | inr one ↦ here i s one ];
      once = λ i j s e f. once i j s (appended_or_earlier seen station i s e) (appended_or_earlier seen station j s f);
    }
      where
        told : (n : ℕ) (l : Latest) → more n ≡ Some l → (n ≡ place station) ⊎ (n ≢ place station) → IsTold (seen ++ station ∷ []) n l
        told n l e (inl same) =
            let is : own ≡ l = same_Some own l (sym at_own ∙ ap more (sym same) ∙ e) in
            subst (IsTold (seen ++ station ∷ []) n) is (record { station = station; is = get_last seen station; rank = refl; at = sym same })
        told n l e (inr apart) =
            let was = placed.told n l (sym (others n apart) ∙ e) in
            record { station = was.station; is = get_after_append seen (station ∷ []) l.number was.station was.is; rank = was.rank; at = was.at }

        here : (i : ℕ) (s : Station) → (i ≡ length seen) × (s ≡ station) → more (place s) ≡ Some (record { rank = s.rank; number = i })
        here i s one =
            ap (λ (t : Station). more (place t)) one.1 ∙ at_own ∙ (λ k. Some (record { rank = (sym one.1 k).rank; number = sym one.0 k }))

        kept : (i : ℕ) (s : Station) → slice_get seen i ≡ Some s → IsNotAfter (seen ++ station ∷ []) s.rank → more (place s) ≡ Some (record { rank = s.rank; number = i })
        kept i s was last =
            let new_last : station.rank ≤ s.rank = last (length seen) station (get_last seen station) in
            let rank : s.rank ≡ station.rank = omega (arith, new_last, by_rank i s was) in
            let apart : place s ≢ place station = λ e. new i (was ∙ ap Some (rank_and_place_decide_station s station (placed.plain i s was) plain rank e)) in
            others (place s) apart ∙ placed.placed i s was (λ j u e. last j u (get_after_append seen (station ∷ []) j u e))

        once : (i j : ℕ) (s : Station) → (slice_get seen i ≡ Some s) ⊎ ((i ≡ length seen) × (s ≡ station)) → (slice_get seen j ≡ Some s) ⊎ ((j ≡ length seen) × (s ≡ station)) → i ≡ j
        once i j s (inl e) (inl f) = placed.once i j s e f
        once i j s (inl e) (inr f) = absurd (new i (e ∙ ap Some f.1))
        once i j s (inr e) (inl f) = absurd (new j (f ∙ ap Some e.1))
        once i j s (inr e) (inr f) = e.0 ∙ sym f.0

    -- the same, by the place and the number that are written
    pub placed_after_write : (at number : ℕ) → at ≡ place station → number ≡ length seen → (more : ℕ → Option Latest) → more at ≡ Some (record { rank = station.rank; number = number }) → ((n : ℕ) → n ≢ at → more n ≡ latest n) → ArePlaced (seen ++ station ∷ []) more
    placed_after_write at number is next more set others =
        placed_after_append more (ap more (sym is) ∙ set ∙ ap (λ (m : ℕ). Some (record { rank = station.rank; number = m })) next) (λ n apart. others n (λ e. apart (e ∙ is)))

-- if P implies Q, then `IfNone r P` implies `IfNone r Q`
pub if_none_map : {X P Q : Type 0} (r : Option X) → (P → Q) → IfNone r P → IfNone r Q
if_none_map None f h = f h
if_none_map (Some x) f h = h

pub plain_side : (s : Station) → IsPlain s → IsPlain (side_alone s)
plain_side s p = go s.sends s.receives p.side
  where
    go : (a b : Option ℕ) → IsOneSide a b → IsPlain (side_by s a b)
    go None None h = p
    go (Some n) None h = record { cpu = tt; side = h }
    go None (Some n) h = record { cpu = tt; side = h }
    go (Some m) (Some n) h = absurd h

-- an appended station has the length of the list before as its number
pub appended_station_has_number : (seen : List Station) (station : Station) → HasNumber seen (seen ++ station ∷ []) station (length seen)
appended_station_has_number seen station = record {
  more = station ∷ [];
  grown = refl;
  by_one = omega arith;
  is = get_last seen station;
  of_it = λ i s e. elim (appended_or_earlier [] station i s e) [ inl none ↦ absurd (omega (arith, slice_get_within [] i s none)) | inr new ↦ new.1 ];
}

pub seen_station_has_number : (seen : List Station) (station : Station) (number : ℕ) → slice_get seen number ≡ Some station → HasNumber seen seen station number
seen_station_has_number seen station number at = record {
  more = [];
  grown = sym (append-nil seen);
  by_one = omega arith;
  is = at;
  of_it = λ i s e. absurd (omega (arith, slice_get_within [] i s e));
}
