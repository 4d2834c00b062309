-- Stations and their resources are numbered one after the other.
use Rattle.std.proofs.Common.{◌≡◌, ◌⊎◌, ◌+◌, ◌<◌, ◌≤◌, ◌++◌, ℕ, suc, Bool, true, false, All, List, [], ◌∷◌, length, get_or, take, append-nil, if◌then◌else◌, Option, Some, None, slice_get, slice_index, refl, sym, ap, ap₂, ◌∙◌, subst, arith, inl, inr}
use Rattle.std.specs.List.{list_any}
use Rattle.std.proofs.lemmas.Bool.{both_ways, cases_lt, or_cases}
use Rattle.std.proofs.lemmas.List.{length-append, get_or_append_left, take_all}
use Rattle.std.proofs.lemmas.List.Folds.{list_any_at}
use Rattle.std.proofs.lemmas.List.Sums.{fold_more, fold-append}
use Rattle.std.proofs.lemmas.List.Elements.{All-push}
use Rattle.std.proofs.lemmas.Option.{same_Some, slice_get-get_or, slice_get_within, get_or_from_slice_get}
use Rattle.goal_graph.specs.declared.action.OpId.{OpId}
use Rattle.goal_graph.specs.declared.plan.Kind.{Kind}
use Rattle.goal_graph.specs.declared.plan.Kind.TheVariants.{Calc, Send, Recv}
use Rattle.goal_graph.specs.declared.plan.Op.{Op}
use Rattle.goal_graph.specs.Schedule.{Plan, op_at, operations}
use Rattle.goal_graph.specs.Order.{IsBefore}
use Rattle.goal_graph.proofs.ForCallers.{get_last, operations_in_order}
use Rattle.sim_resources.proofs.Lists.{get_after_append, appended_or_earlier}
use Rattle.sim_resources.specs.declared.pair.Pair.{Pair}
use Rattle.sim_resources.specs.Numbering.{DoExist}
use Rattle.sim_resources.specs.declared.station.Station.{Station}
use Rattle.sim_resources.specs.Numbering.{IsNotAfter, AreOnce, HasNumber, HasPair, IsNumbering, AreStationed}
use Rattle.sim_resources.specs.Stations.{station_by, station_of, station_as, same_station, with_station, stations_among, resources_among, cpu_alone, side_by, side_alone}
use Rattle.sim_resources.proofs.Placing.{same_station_true, same_station_from}

-- an appended element has the length of the list as its index
appended_is_at_length : {X : Type 0} (xs : List X) (t : X) (more : List X) → slice_get (xs ++ t ∷ more) (length xs) ≡ Some t
appended_is_at_length [] t more = refl
appended_is_at_length (y ∷ xs) t more = appended_is_at_length xs t more

-- after a station is numbered, each station was listed before or is that station
earlier_or_numbered_station : (before after : List Station) (station : Station) (number : ℕ) → HasNumber before after station number → (i : ℕ) (s : Station) → slice_get after i ≡ Some s → (slice_get before i ≡ Some s) ⊎ (s ≡ station)
earlier_or_numbered_station before after station number has i s e = go has.more has.by_one (subst (λ (xs : List Station). slice_get xs i ≡ Some s) has.grown e) has.of_it
  where
    go : (more : List Station) → length more ≤ 1 → slice_get (before ++ more) i ≡ Some s → ((j : ℕ) (t : Station) → slice_get more j ≡ Some t → t ≡ station) → (slice_get before i ≡ Some s) ⊎ (s ≡ station)
    go [] one f of_it = inl (subst (λ (xs : List Station). slice_get xs i ≡ Some s) (append-nil before) f)
    go (t ∷ []) one f of_it = elim (appended_or_earlier before t i s f) [ inl was ↦ inl was | inr new ↦ inr (new.1 ∙ of_it 0 t refl) ]
    go (t ∷ u ∷ more) one f of_it = absurd (omega (arith, one))

pub numbering_keeps_stations : (before after : List Station) (station : Station) (number : ℕ) → HasNumber before after station number → (i : ℕ) (s : Station) → slice_get before i ≡ Some s → slice_get after i ≡ Some s
numbering_keeps_stations before after station number has i s e =
    subst (λ (xs : List Station). slice_get xs i ≡ Some s) (sym has.grown) (get_after_append before has.more i s e)

numbering_adds_one_at_most : (before after : List Station) (station : Station) (number : ℕ) → HasNumber before after station number → (length after ≤ length before + 1) × (length before ≤ length after)
numbering_adds_one_at_most before after station number has =
    let size = ap length has.grown ∙ length-append before has.more in
    (omega (arith, size, has.by_one), omega (arith, size))

-- a station and its parts are of one rank
side_rank : (s : Station) (a b : Option ℕ) → (side_by s a b).rank ≡ s.rank
side_rank s None None = refl
side_rank s (Some n) b = refl
side_rank s None (Some n) = refl

pub station_rank : (x : OpId) (o : Op) → (station_of x o).rank ≡ x.rank
station_rank x o = go o.kind
  where
    go : (k : Kind) → (station_by x o k).rank ≡ x.rank
    go (Calc n) = refl
    go (Send n t u) = refl
    go (Recv n t u) = refl

not_after_with_station : (before after : List Station) (station : Station) (number rank : ℕ) → HasNumber before after station number → IsNotAfter before rank → station.rank ≤ rank → IsNotAfter after rank
not_after_with_station before after station number rank has was l j s e =
    elim (earlier_or_numbered_station before after station number has j s e) [ inl old ↦ was j s old | inr new ↦ omega (arith, l, ap (λ (t : Station). t.rank) new) ]

-- `list_any` holds exactly if an element passes the test
list_any_has_witness : (test : Station → Bool) (xs : List Station) → list_any test xs ≡ true → (i : ℕ) × (x : Station) × (slice_get xs i ≡ Some x) × (test x ≡ true)
list_any_has_witness test [] e = absurd (both_ways false refl e)
list_any_has_witness test (x ∷ xs) e = elim (or_cases (test x) (list_any test xs) e) [
  | inl own ↦ (0, x, refl, own)
  | inr later ↦ (let rest = list_any_has_witness test xs later in (suc rest.0, rest.1, rest.2, rest.3))
]

pub list_any_from_witness : (test : Station → Bool) (xs : List Station) (i : ℕ) (x : Station) → slice_get xs i ≡ Some x → test x ≡ true → list_any test xs ≡ true
list_any_from_witness test xs i x at e =
    list_any_at test xs i x (slice_get_within xs i x at) (ap test (get_or_from_slice_get xs i x x at) ∙ e)

-- numbering a station gives the list `with_station`
numbered_is_with_station : (before after : List Station) (station : Station) (number : ℕ) → HasNumber before after station number → AreOnce after → after ≡ with_station before station
numbered_is_with_station before after station number has once = go has.more has.by_one has.grown has.of_it (list_any (same_station station) before) refl
  where
    -- with it or without it
    either : Bool → List Station
    either b = if b then before else before ++ station ∷ []

    go : (more : List Station) → length more ≤ 1 → after ≡ before ++ more → ((j : ℕ) (t : Station) → slice_get more j ≡ Some t → t ≡ station) → (b : Bool) → list_any (same_station station) before ≡ b → after ≡ either (list_any (same_station station) before)
    go [] one grown of_it true e = grown ∙ append-nil before ∙ sym (ap either e)
    go [] one grown of_it false e =
        let there : slice_get before number ≡ Some station = subst (λ (xs : List Station). slice_get xs number ≡ Some station) (grown ∙ append-nil before) has.is in
        absurd (both_ways _ e (list_any_from_witness (same_station station) before number station there (same_station_from station station refl)))
    go (t ∷ []) one grown of_it false e = grown ∙ ap (λ (u : Station). before ++ u ∷ []) (of_it 0 t refl) ∙ sym (ap either e)
    go (t ∷ []) one grown of_it true e =
        let found = list_any_has_witness (same_station station) before e in
        let same : station ≡ found.1 = same_station_true station found.1 found.3 in
        let old : slice_get after found.0 ≡ Some station = ap (λ (xs : List Station). slice_get xs found.0) grown ∙ get_after_append before (t ∷ []) found.0 found.1 found.2 ∙ ap Some (sym same) in
        let new : slice_get after (length before) ≡ Some station = ap (λ (xs : List Station). slice_get xs (length before)) grown ∙ appended_is_at_length before t [] ∙ ap Some (of_it 0 t refl) in
        absurd (omega (arith, once found.0 (length before) station old new, slice_get_within before found.0 found.1 found.2))
    go (t ∷ u ∷ more) one grown of_it b e = absurd (omega (arith, one))

module _ (stations resources : List Station) (pairs : List Pair) (is : IsNumbering stations resources pairs) (after : List Station) (station : Station) (number : ℕ) (has : HasNumber stations after station number) (once : AreOnce after) where
  -- it is a new one
  pub numbered_new : number ≡ length pairs → (more : List Station) (p : Pair) → HasPair resources more station p → AreOnce more → IsNumbering after more (pairs ++ p ∷ [])
  numbered_new new more p pair more_once = record {
    each = omega (arith, length-append pairs (p ∷ []), is.each, sizes.0, there, new);
    few = omega (arith, is.few, (numbering_adds_one_at_most _ _ _ _ pair.cpu).0, (numbering_adds_one_at_most _ _ _ _ pair.side).0, is.each, there, new);
    once = once;
    resources_once = more_once;
    listed = resources_listed;
    cpus = λ n s q at there. elim (appended_or_earlier pairs p n q there) [
      | inl was ↦ numbering_keeps_stations _ _ _ _ pair.side q.cpu _ (numbering_keeps_stations _ _ _ _ pair.cpu q.cpu _ (is.cpus n s q (old n s q at was) was))
      | inr one ↦ subst (λ (t : Pair). slice_get more t.cpu ≡ Some (cpu_alone s)) (sym one.1) (subst (λ (t : Station). slice_get more p.cpu ≡ Some (cpu_alone t)) (newest n s at one.0) (numbering_keeps_stations _ _ _ _ pair.side p.cpu _ pair.cpu.is))
    ];
    sides = λ n s q at there. elim (appended_or_earlier pairs p n q there) [
      | inl was ↦ numbering_keeps_stations _ _ _ _ pair.side q.side _ (numbering_keeps_stations _ _ _ _ pair.cpu q.side _ (is.sides n s q (old n s q at was) was))
      | inr one ↦ subst (λ (t : Pair). slice_get more t.side ≡ Some (side_alone s)) (sym one.1) (subst (λ (t : Station). slice_get more p.side ≡ Some (side_alone t)) (newest n s at one.0) pair.side.is)
    ];
    of_stations = λ rank last.
        let own : station.rank ≤ rank = last number station has.is in
        let before : IsNotAfter resources rank = is.of_stations rank (λ j s e. last j s (numbering_keeps_stations _ _ _ _ has j s e)) in
        let between : IsNotAfter pair.between rank = not_after_with_station _ _ _ _ rank pair.cpu before own in
        not_after_with_station _ _ _ _ rank pair.side between (omega (arith, own, side_rank station station.sends station.receives));
  }
    where
      sizes : (length after ≤ length stations + 1) × (length stations ≤ length after)
      sizes = numbering_adds_one_at_most stations after station number has

      there : number < length after
      there = slice_get_within after number station has.is

      old : (n : ℕ) (s : Station) (q : Pair) → slice_get after n ≡ Some s → slice_get pairs n ≡ Some q → slice_get stations n ≡ Some s
      old n s q at was = elim (earlier_or_numbered_station stations after station number has n s at) [
        | inl e ↦ e
        | inr same ↦ (let one : n ≡ number = once n number station (at ∙ ap Some same) has.is in absurd (omega (arith, one, new, slice_get_within pairs n q was)))
      ]

      -- the stations with it are the stations and it
      appended : after ≡ stations ++ station ∷ []
      appended = go has.more has.by_one has.grown has.of_it
        where
          go : (added : List Station) → length added ≤ 1 → after ≡ stations ++ added → ((j : ℕ) (t : Station) → slice_get added j ≡ Some t → t ≡ station) → after ≡ stations ++ station ∷ []
          go [] one grown of_it = absurd (omega (arith, there, new, is.each, ap length (grown ∙ append-nil stations)))
          go (t ∷ []) one grown of_it = grown ∙ ap (λ (u : Station). stations ++ u ∷ []) (of_it 0 t refl)
          go (t ∷ u ∷ added) one grown of_it = absurd (omega (arith, one))

      -- the resources with those of it
      resources_listed : more ≡ resources_among after
      resources_listed =
          let between_once : AreOnce pair.between = λ i j s e f. more_once i j s (numbering_keeps_stations _ _ _ _ pair.side i s e) (numbering_keeps_stations _ _ _ _ pair.side j s f) in
          numbered_is_with_station pair.between more (side_alone station) p.side pair.side more_once
          ∙ ap (λ (rs : List Station). with_station rs (side_alone station)) (numbered_is_with_station resources pair.between (cpu_alone station) p.cpu pair.cpu between_once)
          ∙ ap (λ (rs : List Station). with_station (with_station rs (cpu_alone station)) (side_alone station)) is.listed
          ∙ sym (fold-append with_resources [] stations (station ∷ []))
          ∙ ap resources_among (sym appended)
        where
          with_resources : List Station → Station → List Station
          with_resources rs s = with_station (with_station rs (cpu_alone s)) (side_alone s)

      newest : (n : ℕ) (s : Station) → slice_get after n ≡ Some s → n ≡ length pairs → station ≡ s
      newest n s at e = same_Some station s (sym has.is ∙ ap (slice_get after) (new ∙ sym e) ∙ at)

module _ (plans : List Plan) where
  -- the first operations have their stations
  pub record AreNumberedTo (n : ℕ) (stations resources : List Station) (pairs : List Pair) (numbers : List ℕ) : Type 0 where
    pub numbering : IsNumbering stations resources pairs
    pub listed : stations ≡ stations_among plans (take n (operations plans))
    pub count : length numbers ≡ n
    pub few : length stations ≤ n
    pub each : (i : ℕ) (x : OpId) (o : Op) → i < n → slice_get (operations plans) i ≡ Some x → op_at plans x ≡ Some o → slice_get stations (slice_index numbers i) ≡ Some (station_of x o)
    pub within : All (λ number. number < length stations) numbers
    pub by_rank : (i : ℕ) (x : OpId) → n ≤ i → slice_get (operations plans) i ≡ Some x → IsNotAfter stations x.rank

  -- operations come by rank
  operations_by_rank : (m n : ℕ) (x y : OpId) → m < n → slice_get (operations plans) m ≡ Some x → slice_get (operations plans) n ≡ Some y → x.rank ≤ y.rank
  operations_by_rank m n x y l e f = go (subst (λ (a : OpId). IsBefore a y) (get_or_from_slice_get (operations plans) m x x e) (subst (λ (b : OpId). IsBefore (get_or (operations plans) m x) b) (get_or_from_slice_get (operations plans) n y x f) (operations_in_order plans m n x l (slice_get_within (operations plans) n y f))))
    where
      go : IsBefore x y → x.rank ≤ y.rank
      go (inl less) = omega (arith, less)
      go (inr same) = omega (arith, same.0)

  module _ (n : ℕ) (stations resources : List Station) (pairs : List Pair) (numbers : List ℕ) (so_far : AreNumberedTo n stations resources pairs numbers) (x : OpId) (o : Op) (at : slice_get (operations plans) n ≡ Some x) (is : op_at plans x ≡ Some o) where
    -- another operation has its number
    pub next_operation_numbered : (after more : List Station) (pairs_after : List Pair) (number : ℕ) → IsNumbering after more pairs_after → HasNumber stations after (station_of x o) number → AreNumberedTo (n + 1) after more pairs_after (numbers ++ number ∷ [])
    next_operation_numbered after more pairs_after number numbering has = record {
      numbering = numbering;
      listed = listed;
      count = omega (arith, length-append numbers (number ∷ []), so_far.count);
      few = omega (arith, so_far.few, sizes.0);
      each = λ i y p l e f. each i y p e f (cases_lt i n) l;
      within = All-push (λ m. m < length after) numbers number (λ k d h. omega (arith, so_far.within k d h, sizes.1)) (slice_get_within after number (station_of x o) has.is);
      by_rank = λ i y l e. not_after_with_station stations after (station_of x o) number y.rank has (so_far.by_rank i y (omega (arith, l)) e) (omega (arith, operations_by_rank n i x y (omega (arith, l)) at e, station_rank x o));
    }
      where
        sizes : (length after ≤ length stations + 1) × (length stations ≤ length after)
        sizes = numbering_adds_one_at_most stations after (station_of x o) number has

        -- with the station of another operation
        with_one : List Station → OpId → List Station
        with_one before y = with_station before (station_as y (op_at plans y))

        listed : after ≡ stations_among plans (take (n + 1) (operations plans))
        listed =
            numbered_is_with_station stations after (station_of x o) number has numbering.once
            ∙ ap₂ with_station so_far.listed (sym (ap (station_as x) is))
            ∙ ap (with_one (stations_among plans (take n (operations plans)))) (sym (get_or_from_slice_get (operations plans) n x x at))
            ∙ sym (fold_more with_one [] (operations plans) n x (slice_get_within (operations plans) n x at))

        each : (i : ℕ) (y : OpId) (p : Op) → slice_get (operations plans) i ≡ Some y → op_at plans y ≡ Some p → (i < n) ⊎ (n ≤ i) → i < n + 1 → slice_get after (slice_index (numbers ++ number ∷ []) i) ≡ Some (station_of y p)
        each i y p e f (inl less) l =
            let same : slice_index (numbers ++ number ∷ []) i ≡ slice_index numbers i = get_or_append_left numbers (number ∷ []) 0 i (omega (arith, less, so_far.count)) in
            ap (slice_get after) same ∙ numbering_keeps_stations stations after (station_of x o) number has (slice_index numbers i) (station_of y p) (so_far.each i y p less e f)
        each i y p e f (inr no_less) l =
            let here : i ≡ n = omega (arith, l, no_less) in
            let same_op : x ≡ y = same_Some x y (sym at ∙ ap (slice_get (operations plans)) (sym here) ∙ e) in
            let same_o : o ≡ p = same_Some o p (sym is ∙ ap (op_at plans) same_op ∙ f) in
            let last : slice_index (numbers ++ number ∷ []) i ≡ number = ap (slice_index (numbers ++ number ∷ [])) (here ∙ sym so_far.count) ∙ get_or_from_slice_get (numbers ++ number ∷ []) (length numbers) number 0 (get_last numbers number) in
            ap (slice_get after) last ∙ has.is ∙ (λ i. Some (station_of (same_op i) (same_o i)))

  -- the resources of all stations exist
  pub numbered_resources_exist : (stations resources : List Station) (pairs : List Pair) → IsNumbering stations resources pairs → DoExist pairs (length resources)
  numbered_resources_exist stations resources pairs is s p at =
      let few : s < length stations = omega (arith, slice_get_within pairs s p at, is.each) in
      let station : Station = get_or stations s no_station in
      let here : slice_get stations s ≡ Some (get_or stations s no_station) = slice_get-get_or stations s no_station few in
      (slice_get_within resources p.cpu _ (is.cpus s (get_or stations s no_station) p here at), slice_get_within resources p.side _ (is.sides s (get_or stations s no_station) p here at))
    where
      no_station : Station
      no_station = record { rank = 0; cpu = None; sends = None; receives = None }

  pub all_operations_stationed : (n : ℕ) (stations resources : List Station) (pairs : List Pair) (numbers : List ℕ) → AreNumberedTo n stations resources pairs numbers → n ≡ length (operations plans) → AreStationed plans numbers pairs
  all_operations_stationed n stations resources pairs numbers to all = record {
    stations = stations;
    resources = resources;
    numbering = to.numbering;
    listed = to.listed ∙ ap (stations_among plans) (take_all n (operations plans) (omega (arith, all)));
    each = to.count ∙ all;
    are = λ i x o e f. to.each i x o (omega (arith, all, slice_get_within (operations plans) i x e)) e f;
  }
