-- How often the stations of a queue have changed their places, as keys are put, found and taken out.
use Rattle.std.proofs.Common.{◌≡◌, ◌≢◌, ◌⊎◌, ◌<◌, ◌≤◌, ◌+◌, ◌*◌, ◌++◌, ◌&&◌, ◌||◌, ℕ, suc, min, Bool, true, false, cond, List, [], ◌∷◌, length, set, Option, Some, None, replicate, slice_get, slice_index, if◌then◌else◌, refl, sym, ap, ap₂, ◌∙◌, subst, arith, inl, inr}
use Rattle.std.specs.List.{fold, list_any, sum_by}
use Rattle.std.proofs.lemmas.Bool.{cases_Bool, cases_eq, cases_lt}
use Rattle.std.proofs.lemmas.List.{length-set, get_or-set_same, get_or-set_other, get_or_past, get_or-replicate, length-replicate}
use Rattle.std.proofs.lemmas.List.Sums.{sum_by-cons}
use Rattle.std.proofs.lemmas.Option.{same_Some, slice_get_within, get_or_from_slice_get}
use Rattle.goal_graph.specs.declared.action.OpId.{OpId}
use Rattle.goal_graph.specs.declared.action.Timed.{Timed}
use Rattle.goal_graph.specs.declared.plan.Op.{Op}
use Rattle.goal_graph.specs.Schedule.{Plan, operations, op_at}
use Rattle.sim_params.specs.Costs.{CostModel}
use Rattle.sim_resources.proofs.ForCallers.{appended_or_earlier, same_station_true, same_station_from}
use Rattle.sim_resources.specs.declared.pair.Pair.{Pair}
use Rattle.sim_stations.specs.Stations.{Stationed, holds_cpu, pair_at, pair_of}
use Rattle.sim_stations.specs.Moves.{HaveReturned, HaveMoved, changes, held_once_more}
use Rattle.sim_stations.proofs.ForCallers.{few_changes}
use Rattle.sim_resources.specs.declared.station.Station.{Station}
use Rattle.sim_resources.specs.Numbering.{AreStationed}
use Rattle.sim_events.specs.Cost.{station_of, station_as, cpu_alone, side_alone, same_station, with_station, stations_among, holds_as, times_held, most_moves}
use Rattle.sim_events.specs.Changes.{AreAtPlaces, AreHeld, HaveChanged, HaveChangedOn}
use Rattle.sim_events.specs.Queue.{IsOfSchedule, IsSettledBy}
use Rattle.sim_events.proofs.FreeAfter.{needs}
use Rattle.sim_events.proofs.Held.{number, number_has_needed_resource, pair_of_op_exists}
use Rattle.sim_events.proofs.Queue.{listed_op_exists}

-- where no station has changed its place
pub same_places_reflexive : (queue : Stationed) → AreAtPlaces queue queue
same_places_reflexive queue = record { stations = refl; pairs = refl; turned = refl; free = refl }

pub same_places_transitive : (old mid new : Stationed) → AreAtPlaces old mid → AreAtPlaces mid new → AreAtPlaces old new
same_places_transitive old mid new p q = record {
  stations = q.stations ∙ p.stations;
  pairs = q.pairs ∙ p.pairs;
  turned = q.turned ∙ p.turned;
  free = q.free ∙ p.free;
}

-- the same of equal places
returned_in_equal_parts : (pairs pairs' : List Pair) (turned turned' : List Bool) (free free' holds returns : List ℕ) → pairs' ≡ pairs → turned' ≡ turned → free' ≡ free → HaveReturned pairs turned free holds returns → HaveReturned pairs' turned' free' holds returns
returned_in_equal_parts pairs pairs' turned turned' free free' holds returns p t f have =
    subst (λ ps. HaveReturned ps turned' free' holds returns) (sym p) (subst (λ bs. HaveReturned pairs bs free' holds returns) (sym t) (subst (λ fs. HaveReturned pairs turned fs holds returns) (sym f) have))

held_in_equal_parts : (plans : List Plan) (h : List Timed) (old new : Stationed) (holds : List ℕ) → new.stations ≡ old.stations → new.pairs ≡ old.pairs → AreHeld plans h old holds → AreHeld plans h new holds
held_in_equal_parts plans h old new holds stations pairs held = record {
  cpus = λ i x o at is. (λ j. slice_index holds (pair_at (pairs j) (slice_index (stations j) i)).cpu) ∙ held.cpus i x o at is;
  sides = λ i x o at is. (λ j. slice_index holds (pair_at (pairs j) (slice_index (stations j) i)).side) ∙ held.sides i x o at is;
}

module _ (plans : List Plan) (h : List Timed) (old new : Stationed) (all : ℕ) (changed : HaveChanged plans h old all) where
  pub changed_at_same_places : AreAtPlaces old new → HaveChanged plans h new all
  changed_at_same_places p = record {
    holds = changed.holds;
    returns = changed.returns;
    held = held_in_equal_parts plans h old new changed.holds p.stations p.pairs changed.held;
    returned = returned_in_equal_parts old.pairs new.pairs old.turned new.turned old.free new.free changed.holds changed.returns p.pairs p.turned p.free changed.returned;
    counted = changed.counted ∙ ap (λ bs. changes bs changed.returns) (sym p.turned);
  }

  -- as the least key is found
  pub changed_as_least_is_found : (before after : ℕ) → new.stations ≡ old.stations → new.pairs ≡ old.pairs → new.free ≡ old.free → ((holds returns : List ℕ) → HaveReturned old.pairs old.turned old.free holds returns → HaveMoved old.pairs old.free holds old.turned new.turned returns before after) → HaveChangedOn plans h new all before after
  changed_as_least_is_found before after stations pairs free moved = record {
    now = changes new.turned m.now;
    changed = record {
      holds = changed.holds;
      returns = m.now;
      held = held_in_equal_parts plans h old new changed.holds stations pairs changed.held;
      returned = returned_in_equal_parts old.pairs new.pairs new.turned new.turned old.free new.free changed.holds m.now pairs refl free m.have;
      counted = refl;
    };
    counted = omega (arith, m.counted, changed.counted);
  }
    where
      m : HaveMoved old.pairs old.free changed.holds old.turned new.turned changed.returns before after
      m = moved changed.holds changed.returns changed.returned

-- what an action holds
unequal_is_not_same_station : (s r : Station) → (r ≡ s → ⊥) → same_station s r ≡ false
unequal_is_not_same_station s r d = elim (cases_Bool (same_station s r)) [ inl t ↦ absurd (d (sym (same_station_true s r t))) | inr f ↦ f ]

module _ (plans : List Plan) (h : List Timed) (a : Timed) where
  times_held_after_action : (r : Station) → times_held plans (a ∷ h) r ≡ cond (holds_as r a (op_at plans a.op)) 1 0 + times_held plans h r
  times_held_after_action r = sum_by-cons (λ (b : Timed). cond (holds_as r b (op_at plans b.op)) 1 0) a h

  times_held_by_answer : (r : Station) (b : Bool) → holds_as r a (op_at plans a.op) ≡ b → times_held plans (a ∷ h) r ≡ cond b 1 0 + times_held plans h r
  times_held_by_answer r b e = times_held_after_action r ∙ ap (λ (c : Bool). cond c 1 0 + times_held plans h r) e

  -- an action that holds no cpu holds no resource
  action_without_cpu_holds_nothing : holds_cpu a.class ≡ false → (r : Station) (o : Option Op) → holds_as r a o ≡ false
  action_without_cpu_holds_nothing w r None = refl
  action_without_cpu_holds_nothing w r (Some o) =
      ap (λ (b : Bool). b && (same_station (cpu_alone (station_of a.op o)) r || same_station (side_alone (station_of a.op o)) r)) w

  module _ (p : Op) (is_p : op_at plans a.op ≡ Some p) where
    action_holds_cpu : holds_cpu a.class ≡ true → (r : Station) → r ≡ cpu_alone (station_of a.op p) → holds_as r a (op_at plans a.op) ≡ true
    action_holds_cpu w r e =
        ap (holds_as r a) is_p
        ∙ ap₂ (λ (b c : Bool). b && (c || same_station (side_alone (station_of a.op p)) r)) w (same_station_from (cpu_alone (station_of a.op p)) r (sym e))

    or_true : (b : Bool) → (b || true) ≡ true
    or_true true = refl
    or_true false = refl

    action_holds_side : holds_cpu a.class ≡ true → (r : Station) → r ≡ side_alone (station_of a.op p) → holds_as r a (op_at plans a.op) ≡ true
    action_holds_side w r e =
        ap (holds_as r a) is_p
        ∙ ap₂ (λ (b c : Bool). b && (same_station (cpu_alone (station_of a.op p)) r || c)) w (same_station_from (side_alone (station_of a.op p)) r (sym e))
        ∙ or_true (same_station (cpu_alone (station_of a.op p)) r)

    and_false : (b : Bool) → (b && false) ≡ false
    and_false true = refl
    and_false false = refl

    holds_no_other_resource : (r : Station) → (r ≡ cpu_alone (station_of a.op p) → ⊥) → (r ≡ side_alone (station_of a.op p) → ⊥) → holds_as r a (op_at plans a.op) ≡ false
    holds_no_other_resource r c s =
        ap (holds_as r a) is_p
        ∙ ap₂ (λ (b d : Bool). holds_cpu a.class && (b || d)) (unequal_is_not_same_station (cpu_alone (station_of a.op p)) r c) (unequal_is_not_same_station (side_alone (station_of a.op p)) r s)
        ∙ and_false (holds_cpu a.class)

module _ (plans : List Plan) (costs : CostModel) (h : List Timed) (a : Timed) (queue : Stationed) (q : IsOfSchedule plans costs h queue) (slot : ℕ) (here : slice_get (operations plans) slot ≡ Some a.op) where
  -- what was known of one of the two resources
  held_by_number : (holds : List ℕ) → AreHeld plans h queue holds → (i : ℕ) (x : OpId) (o : Op) → slice_get (operations plans) i ≡ Some x → op_at plans x ≡ Some o → (b : Bool) → slice_index holds (number b (pair_of queue i)) ≡ times_held plans h (needs b (station_of x o))
  held_by_number holds held i x o at is false = held.cpus i x o at is
  held_by_number holds held i x o at is true = held.sides i x o at is

  module _ (p : Op) (is_p : op_at plans a.op ≡ Some p) (w : holds_cpu a.class ≡ true) (holds : List ℕ) (resources : length holds ≡ length queue.free) (held : AreHeld plans h queue holds) where
    held_number_after_action : (i : ℕ) (x : OpId) (o : Op) → slice_get (operations plans) i ≡ Some x → op_at plans x ≡ Some o → (b : Bool) → slice_index (held_once_more holds (pair_of queue slot)) (number b (pair_of queue i)) ≡ times_held plans (a ∷ h) (needs b (station_of x o))
    held_number_after_action i x o at is b = go (cases_eq n (pair_of queue slot).side) (cases_eq n (pair_of queue slot).cpu)
      where
        n : ℕ
        n = number b (pair_of queue i)

        r : Station
        r = needs b (station_of x o)

        exist : ((pair_of queue slot).cpu < length queue.free) × ((pair_of queue slot).side < length queue.free)
        exist = q.exist (slice_index queue.stations slot) (pair_of queue slot) (pair_of_op_exists plans costs queue.stations queue.pairs q.stationed slot a.op p here is_p)

        theirs : slice_get q.stationed.resources n ≡ Some r
        theirs = number_has_needed_resource plans costs queue.stations queue.pairs q.stationed i x o at is b

        at_side : slice_get q.stationed.resources (pair_of queue slot).side ≡ Some (side_alone (station_of a.op p))
        at_side = number_has_needed_resource plans costs queue.stations queue.pairs q.stationed slot a.op p here is_p true

        at_cpu : slice_get q.stationed.resources (pair_of queue slot).cpu ≡ Some (cpu_alone (station_of a.op p))
        at_cpu = number_has_needed_resource plans costs queue.stations queue.pairs q.stationed slot a.op p here is_p false

        cpu_more : ℕ
        cpu_more = slice_index holds (pair_of queue slot).cpu + 1

        side_more : ℕ
        side_more = slice_index holds (pair_of queue slot).side + 1

        was : slice_index holds n ≡ times_held plans h r
        was = held_by_number holds held i x o at is b

        go : (n ≡ (pair_of queue slot).side) ⊎ (n ≢ (pair_of queue slot).side) → (n ≡ (pair_of queue slot).cpu) ⊎ (n ≢ (pair_of queue slot).cpu) → slice_index (held_once_more holds (pair_of queue slot)) n ≡ times_held plans (a ∷ h) r
        go (inl e) other =
            let one : r ≡ side_alone (station_of a.op p) = same_Some _ _ (sym theirs ∙ ap (slice_get q.stationed.resources) e ∙ at_side) in
            let more = times_held_by_answer plans h a r true (action_holds_side plans h a p is_p w r one) in
            let now : slice_index (held_once_more holds (pair_of queue slot)) n ≡ side_more = ap (slice_index (held_once_more holds (pair_of queue slot))) e ∙ get_or-set_same (set_once) (pair_of queue slot).side side_more 0 (omega (arith, exist.1, resources, length-set holds (pair_of queue slot).cpu cpu_more)) in
            omega (arith, now, more, was, ap (slice_index holds) e)
          where
            set_once : List ℕ
            set_once = set holds (pair_of queue slot).cpu cpu_more
        go (inr d) (inl e) =
            let one : r ≡ cpu_alone (station_of a.op p) = same_Some _ _ (sym theirs ∙ ap (slice_get q.stationed.resources) e ∙ at_cpu) in
            let more = times_held_by_answer plans h a r true (action_holds_cpu plans h a p is_p w r one) in
            let now : slice_index (held_once_more holds (pair_of queue slot)) n ≡ cpu_more = get_or-set_other (set holds (pair_of queue slot).cpu cpu_more) (pair_of queue slot).side n side_more 0 d ∙ ap (slice_index (set holds (pair_of queue slot).cpu cpu_more)) e ∙ get_or-set_same holds (pair_of queue slot).cpu cpu_more 0 (omega (arith, exist.0, resources)) in
            omega (arith, now, more, was, ap (slice_index holds) e)
        go (inr d) (inr f) =
            let no_cpu : r ≡ cpu_alone (station_of a.op p) → ⊥ = λ same. f (q.stationed.numbering.resources_once n (pair_of queue slot).cpu r theirs (at_cpu ∙ ap Some (sym same))) in
            let no_side : r ≡ side_alone (station_of a.op p) → ⊥ = λ same. d (q.stationed.numbering.resources_once n (pair_of queue slot).side r theirs (at_side ∙ ap Some (sym same))) in
            let more = times_held_by_answer plans h a r false (holds_no_other_resource plans h a p is_p r no_cpu no_side) in
            let now : slice_index (held_once_more holds (pair_of queue slot)) n ≡ slice_index holds n = get_or-set_other (set holds (pair_of queue slot).cpu cpu_more) (pair_of queue slot).side n side_more 0 d ∙ get_or-set_other holds (pair_of queue slot).cpu n cpu_more 0 f in
            omega (arith, now, more, was)

    held_after_action : AreHeld plans (a ∷ h) queue (held_once_more holds (pair_of queue slot))
    held_after_action = record {
      cpus = λ i x o at is. held_number_after_action i x o at is false;
      sides = λ i x o at is. held_number_after_action i x o at is true;
    }

  -- an action that holds no cpu leaves the counts of holds unchanged
  held_kept_by_action_without_cpu : holds_cpu a.class ≡ false → (holds : List ℕ) → AreHeld plans h queue holds → AreHeld plans (a ∷ h) queue holds
  held_kept_by_action_without_cpu w holds held = record {
    cpus = λ i x o at is. omega (arith, held.cpus i x o at is, times_held_by_answer plans h a (cpu_alone (station_of x o)) false (action_without_cpu_holds_nothing plans h a w (cpu_alone (station_of x o)) (op_at plans a.op)));
    sides = λ i x o at is. omega (arith, held.sides i x o at is, times_held_by_answer plans h a (side_alone (station_of x o)) false (action_without_cpu_holds_nothing plans h a w (side_alone (station_of x o)) (op_at plans a.op)));
  }

  -- as an action has happened
  pub changed_after_action : (c s : ℕ) (new : Stationed) → IsSettledBy c s slot a queue new → (all : ℕ) → HaveChanged plans h queue all → HaveChanged plans (a ∷ h) new all
  changed_after_action c s new settled all changed = elim (cases_Bool (holds_cpu a.class)) [ inl w ↦ holding w | inr w ↦ at_once w ]
    where
      counted : all ≡ changes new.turned changed.returns
      counted = changed.counted ∙ ap (λ bs. changes bs changed.returns) (sym settled.turned)

      holding : holds_cpu a.class ≡ true → HaveChanged plans (a ∷ h) new all
      holding w =
          let o = listed_op_exists plans costs slot a.op here in
          record {
            holds = held_once_more changed.holds (pair_of queue slot);
            returns = changed.returns;
            held = held_in_equal_parts plans (a ∷ h) queue new (held_once_more changed.holds (pair_of queue slot)) settled.stations settled.pairs (held_after_action o.0 o.1 w changed.holds changed.returned.resources changed.held);
            returned = settled.returned w changed.holds changed.returns changed.returned;
            counted = counted;
          }

      at_once : holds_cpu a.class ≡ false → HaveChanged plans (a ∷ h) new all
      at_once w = record {
        holds = changed.holds;
        returns = changed.returns;
        held = held_in_equal_parts plans (a ∷ h) queue new changed.holds settled.stations settled.pairs (held_kept_by_action_without_cpu w changed.holds changed.held);
        returned = returned_in_equal_parts queue.pairs new.pairs queue.turned new.turned queue.free new.free changed.holds changed.returns settled.pairs settled.turned (settled.same_free w) changed.returned;
        counted = counted;
      }

-- before anything has happened
pub changed_at_start : (plans : List Plan) (queue : Stationed) (resources stations : ℕ) → HaveReturned queue.pairs queue.turned queue.free (replicate resources 0) (replicate stations 0) → (all : ℕ) × HaveChanged plans [] queue all
changed_at_start plans queue resources stations returned = (
  changes queue.turned (replicate stations 0),
  record {
    holds = replicate resources 0;
    returns = replicate stations 0;
    held = record { cpus = λ i x o at is. zero_at resources (pair_of queue i).cpu; sides = λ i x o at is. zero_at resources (pair_of queue i).side };
    returned = returned;
    counted = refl;
  },
)
  where
    zero_at : (n k : ℕ) → slice_index (replicate n 0) k ≡ 0
    zero_at n k = elim (cases_lt k n) [ inl l ↦ get_or-replicate n k 0 0 l | inr l ↦ get_or_past (replicate n 0) k 0 (omega (arith, l, length-replicate {A = ℕ} n 0)) ]

-- the stations of operations are theirs
station_earlier_or_added : (stations : List Station) (s t : Station) (n : ℕ) → slice_get (with_station stations s) n ≡ Some t → (slice_get stations n ≡ Some t) ⊎ (t ≡ s)
station_earlier_or_added stations s t n e = go (list_any (same_station s) stations) e
  where
    go : (b : Bool) → slice_get (if b then stations else stations ++ s ∷ []) n ≡ Some t → (slice_get stations n ≡ Some t) ⊎ (t ≡ s)
    go true e = inl e
    go false e = elim (appended_or_earlier stations s n t e) [ inl was ↦ inl was | inr new ↦ inr (new.1) ]

module _ (plans : List Plan) where
  pub record IsOfOne (ops : List OpId) (t : Station) : Type 0 where
    pub slot : ℕ
    pub op : OpId
    pub at : slice_get ops slot ≡ Some op
    pub is : t ≡ station_as op (op_at plans op)

  abbrev pub with_station_of_op : List Station → OpId → List Station
  with_station_of_op stations x = with_station stations (station_as x (op_at plans x))

  folded_station_is_of_op : (ops : List OpId) (stations : List Station) (t : Station) (n : ℕ) → slice_get (fold with_station_of_op stations ops) n ≡ Some t → ((m : ℕ) × (slice_get stations m ≡ Some t)) ⊎ IsOfOne ops t
  folded_station_is_of_op [] stations t n e = inl (n, e)
  folded_station_is_of_op (x ∷ ops) stations t n e = elim (folded_station_is_of_op ops (with_station_of_op stations x) t n e) [
    | inl was ↦ first was.0 (station_earlier_or_added stations (station_as x (op_at plans x)) t was.0 was.1)
    | inr one ↦ inr (record { slot = suc one.slot; op = one.op; at = one.at; is = one.is })
  ]
    where
      first : (m : ℕ) → (slice_get stations m ≡ Some t) ⊎ (t ≡ station_as x (op_at plans x)) → ((m : ℕ) × (slice_get stations m ≡ Some t)) ⊎ IsOfOne (x ∷ ops) t
      first m (inl was) = inl (m, was)
      first m (inr own) = inr (record { slot = 0; op = x; at = refl; is = own })

  pub listed_station_is_of_op : (ops : List OpId) (t : Station) (n : ℕ) → slice_get (stations_among plans ops) n ≡ Some t → IsOfOne ops t
  listed_station_is_of_op ops t n e = elim (folded_station_is_of_op ops [] t n e) [ inl none ↦ absurd (omega (arith, slice_get_within [] none.0 t none.1)) | inr one ↦ one ]

-- sums over lists whose elements count alike
sums_alike : {X Y : Type 0} (f : X → ℕ) (g : Y → ℕ) (xs : List X) (ys : List Y) → length xs ≡ length ys → ((n : ℕ) (x : X) (y : Y) → slice_get xs n ≡ Some x → slice_get ys n ≡ Some y → f x ≡ g y) → sum_by f xs ≡ sum_by g ys
sums_alike f g [] [] l each = refl
sums_alike f g (x ∷ xs) (y ∷ ys) l each =
    let rest = sums_alike f g xs ys (omega (arith, l)) (λ n u v d e. each (suc n) u v d e) in
    omega (arith, rest, each 0 x y refl refl, sum_by-cons f x xs, sum_by-cons g y ys)
sums_alike f g [] (y ∷ ys) l each = absurd (omega (arith, l))
sums_alike f g (x ∷ xs) [] l each = absurd (omega (arith, l))

-- stations have changed their places no more often than what has happened allows
module _ (plans : List Plan) (costs : CostModel) (h : List Timed) (queue : Stationed) (st : AreStationed plans queue.stations queue.pairs) where
  pub changes_at_most_moves : (all : ℕ) → HaveChanged plans h queue all → all ≤ most_moves plans h
  changes_at_most_moves all changed =
      let few = few_changes queue.pairs queue.turned queue.free changed.holds changed.returns changed.returned in
      let alike = sums_alike of_pair of_station queue.pairs (stations_among plans (operations plans)) (st.numbering.each ∙ ap length st.listed) each in
      omega (arith, few, alike, changed.counted)
    where
      of_pair : Pair → ℕ
      of_pair p = 1 + 2 * min (slice_index changed.holds p.cpu) (slice_index changed.holds p.side)

      of_station : Station → ℕ
      of_station s = 1 + 2 * min (times_held plans h (cpu_alone s)) (times_held plans h (side_alone s))

      each : (n : ℕ) (p : Pair) (s : Station) → slice_get queue.pairs n ≡ Some p → slice_get (stations_among plans (operations plans)) n ≡ Some s → of_pair p ≡ of_station s
      each n p s at_p at_s =
          let one = listed_station_is_of_op plans (operations plans) s n at_s in
          let o = listed_op_exists plans costs one.slot one.op one.at in
          let own : s ≡ station_of one.op o.0 = one.is ∙ ap (station_as one.op) o.1 in
          let there : slice_get st.stations n ≡ Some (station_of one.op o.0) = ap (λ xs. slice_get xs n) st.listed ∙ at_s ∙ ap Some own in
          let same : slice_index queue.stations one.slot ≡ n = st.numbering.once _ n (station_of one.op o.0) (st.are one.slot one.op o.0 one.at o.1) there in
          let pair : pair_of queue one.slot ≡ p = ap (pair_at queue.pairs) same ∙ get_or_from_slice_get queue.pairs n p (record { cpu = 0; side = 0 }) at_p in
          let cpus : slice_index changed.holds p.cpu ≡ times_held plans h (cpu_alone s) = ap (λ (u : Pair). slice_index changed.holds u.cpu) (sym pair) ∙ changed.held.cpus one.slot one.op o.0 one.at o.1 ∙ ap (λ (t : Station). times_held plans h (cpu_alone t)) (sym own) in
          let sides : slice_index changed.holds p.side ≡ times_held plans h (side_alone s) = ap (λ (u : Pair). slice_index changed.holds u.side) (sym pair) ∙ changed.held.sides one.slot one.op o.0 one.at o.1 ∙ ap (λ (t : Station). times_held plans h (side_alone t)) (sym own) in
          ap₂ (λ (m k : ℕ). 1 + 2 * min m k) cpus sides
