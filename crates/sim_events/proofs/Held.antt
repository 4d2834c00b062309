-- The free times that a queue knows stay right as actions hold resources.
use Rattle.std.proofs.Common.{◌≡◌, ◌≢◌, ◌⊎◌, ◌<◌, ◌≤◌, ℕ, Bool, true, false, List, ◌∷◌, length, Some, get_or, slice_get, slice_index, slice_set, sym, ap, subst, ◌∙◌, arith, inl, inr}
use Rattle.std.proofs.lemmas.Bool.{cases_eq}
use Rattle.std.proofs.lemmas.List.{length-set, get_or-set_same, get_or-set_other}
use Rattle.std.proofs.lemmas.Option.{same_Some, slice_get-get_or, slice_get_within, get_or_from_slice_get}
use Rattle.goal_graph.specs.declared.action.OpId.{OpId}
use Rattle.goal_graph.specs.declared.action.Timed.{Timed}
use Rattle.goal_graph.specs.declared.plan.Op.{Op}
use Rattle.goal_graph.specs.Schedule.{Plan, operations, op_at}
use Rattle.goal_graph.proofs.ForCallers.{listed_op}
use Rattle.sim_params.specs.Costs.{CostModel}
use Rattle.sim_params.specs.Times.{cpu, Possible}
use Rattle.sim_resources.specs.declared.pair.Pair.{Pair}
use Rattle.sim_resources.specs.ByNumber.{HasTimes}
use Rattle.sim_stations.specs.Stations.{Stationed, holds_cpu, pair_at, pair_of, held, held_by, IsLater, IsLaterBy, AreKnown, AreTimesOf}
use Rattle.sim_state.specs.Free.{side, AreFreeByNumber}
use Rattle.sim_state.proofs.ForCallers.{cpu_kept_if_not_held}
use Rattle.sim_resources.specs.Numbering.{AreStationed}
use Rattle.sim_events.specs.Cost.{station_of, cpu_alone, side_alone}
use Rattle.sim_events.specs.Queue.{AreFree, IsOfSchedule}
use Rattle.sim_events.proofs.FreeAfter.{needs, free_at, same_need_free_alike, side_by_kind, cpu_grows, side_grows, free_stays, side_kept_by_action_without_cpu}

-- the number of one of the two resources of a pair
abbrev pub number : Bool → Pair → ℕ
number false p = p.cpu
number true p = p.side

module _ (plans : List Plan) (costs : CostModel) where
  -- the resource of an operation is the one of its number
  pub number_has_needed_resource : (numbers : List ℕ) (pairs : List Pair) (st : AreStationed plans numbers pairs) (i : ℕ) (x : OpId) (o : Op) → slice_get (operations plans) i ≡ Some x → op_at plans x ≡ Some o → (b : Bool) → slice_get st.resources (number b (pair_at pairs (slice_index numbers i))) ≡ Some (needs b (station_of x o))
  number_has_needed_resource numbers pairs st i x o at is b =
      let here = st.are i x o at is in
      let few : slice_index numbers i < length pairs = omega (arith, st.numbering.each, slice_get_within st.stations (slice_index numbers i) (station_of x o) here) in
      let pair : slice_get pairs (slice_index numbers i) ≡ Some (pair_at pairs (slice_index numbers i)) = slice_get-get_or pairs (slice_index numbers i) (record { cpu = 0; side = 0 }) few in
      go b here pair
    where
      go : (b : Bool) → slice_get st.stations (slice_index numbers i) ≡ Some (station_of x o) → slice_get pairs (slice_index numbers i) ≡ Some (pair_at pairs (slice_index numbers i)) → slice_get st.resources (number b (pair_at pairs (slice_index numbers i))) ≡ Some (needs b (station_of x o))
      go false here pair = st.numbering.cpus (slice_index numbers i) (station_of x o) _ here pair
      go true here pair = st.numbering.sides (slice_index numbers i) (station_of x o) _ here pair

  -- the pair of an operation is one of those that there are
  pub pair_of_op_exists : (numbers : List ℕ) (pairs : List Pair) (st : AreStationed plans numbers pairs) (i : ℕ) (x : OpId) (o : Op) → slice_get (operations plans) i ≡ Some x → op_at plans x ≡ Some o → slice_get pairs (slice_index numbers i) ≡ Some (pair_at pairs (slice_index numbers i))
  pair_of_op_exists numbers pairs st i x o at is =
      slice_get-get_or pairs (slice_index numbers i) (record { cpu = 0; side = 0 }) (omega (arith, st.numbering.each, slice_get_within st.stations (slice_index numbers i) (station_of x o) (st.are i x o at is)))

  -- what a queue knows of one of the two resources of an operation
  pub free_by_number : (h : List Timed) (queue : Stationed) → AreFree plans costs h queue → (i : ℕ) (x : OpId) (o : Op) → slice_get (operations plans) i ≡ Some x → op_at plans x ≡ Some o → (b : Bool) → slice_index queue.free (number b (pair_of queue i)) ≡ free_at plans costs h b x o.kind
  free_by_number h queue free i x o at is false = free.cpus i x at
  free_by_number h queue free i x o at is true = free.sides i x at ∙ side_by_kind plans costs h x o is

  module _ (h : List Timed) (a : Timed) (possible : Possible plans costs h a) (queue : Stationed) (q : IsOfSchedule plans costs h queue) (slot : ℕ) (here : slice_get (operations plans) slot ≡ Some a.op) (p : Op) (is_p : op_at plans a.op ≡ Some p) where
    -- no free time falls
    pub held_times_are_later : (c s : ℕ) → c ≡ cpu plans costs (a ∷ h) a.op → s ≡ side plans costs (a ∷ h) a.op → IsLater queue.free (pair_of queue slot) c s
    held_times_are_later c s ce se = record {
      cpu_later = omega (arith, ce, q.free.cpus slot a.op here, cpu_grows plans costs a h a.op);
      side_later = go (cases_eq (pair_of queue slot).side (pair_of queue slot).cpu);
    }
      where
        exist : ((pair_of queue slot).cpu < length queue.free) × ((pair_of queue slot).side < length queue.free)
        exist = q.exist (slice_index queue.stations slot) (pair_of queue slot) (pair_of_op_exists queue.stations queue.pairs q.stationed slot a.op p here is_p)

        same : (pair_of queue slot).side ≡ (pair_of queue slot).cpu → side plans costs (a ∷ h) a.op ≡ cpu plans costs (a ∷ h) a.op
        same e =
            let at_side = number_has_needed_resource queue.stations queue.pairs q.stationed slot a.op p here is_p true in
            let at_cpu = number_has_needed_resource queue.stations queue.pairs q.stationed slot a.op p here is_p false in
            let one : needs true (station_of a.op p) ≡ needs false (station_of a.op p) = same_Some _ _ (sym at_side ∙ ap (slice_get q.stationed.resources) e ∙ at_cpu) in
            side_by_kind plans costs (a ∷ h) a.op p is_p ∙ same_need_free_alike plans costs (a ∷ h) a.op a.op p p is_p is_p true false one

        go : ((pair_of queue slot).side ≡ (pair_of queue slot).cpu) ⊎ ((pair_of queue slot).side ≢ (pair_of queue slot).cpu) → slice_index (slice_set queue.free (pair_of queue slot).cpu c) (pair_of queue slot).side ≤ s
        go (inl e) = omega (arith, ap (slice_index (slice_set queue.free (pair_of queue slot).cpu c)) e, get_or-set_same queue.free (pair_of queue slot).cpu c 0 exist.0, ce, se, same e)
        go (inr d) = omega (arith, get_or-set_other queue.free (pair_of queue slot).cpu (pair_of queue slot).side c 0 d, q.free.sides slot a.op here, se, side_grows plans costs a h a.op)

    module _ (c s : ℕ) (ce : c ≡ cpu plans costs (a ∷ h) a.op) (se : s ≡ side plans costs (a ∷ h) a.op) where
      number_free_after_hold : (i : ℕ) (x : OpId) (o : Op) → slice_get (operations plans) i ≡ Some x → op_at plans x ≡ Some o → (b : Bool) → slice_index (held queue.free (pair_of queue slot) c s) (number b (pair_of queue i)) ≡ free_at plans costs (a ∷ h) b x o.kind
      number_free_after_hold i x o at is b = go (cases_eq n (pair_of queue slot).side) (cases_eq n (pair_of queue slot).cpu)
        where
          n : ℕ
          n = number b (pair_of queue i)

          exist : ((pair_of queue slot).cpu < length queue.free) × ((pair_of queue slot).side < length queue.free)
          exist = q.exist (slice_index queue.stations slot) (pair_of queue slot) (pair_of_op_exists queue.stations queue.pairs q.stationed slot a.op p here is_p)

          theirs : slice_get q.stationed.resources n ≡ Some (needs b (station_of x o))
          theirs = number_has_needed_resource queue.stations queue.pairs q.stationed i x o at is b

          at_side : slice_get q.stationed.resources (pair_of queue slot).side ≡ Some (side_alone (station_of a.op p))
          at_side = number_has_needed_resource queue.stations queue.pairs q.stationed slot a.op p here is_p true

          at_cpu : slice_get q.stationed.resources (pair_of queue slot).cpu ≡ Some (cpu_alone (station_of a.op p))
          at_cpu = number_has_needed_resource queue.stations queue.pairs q.stationed slot a.op p here is_p false

          set_once : List ℕ
          set_once = slice_set queue.free (pair_of queue slot).cpu c

          go : (n ≡ (pair_of queue slot).side) ⊎ (n ≢ (pair_of queue slot).side) → (n ≡ (pair_of queue slot).cpu) ⊎ (n ≢ (pair_of queue slot).cpu) → slice_index (slice_set (slice_set queue.free (pair_of queue slot).cpu c) (pair_of queue slot).side s) n ≡ free_at plans costs (a ∷ h) b x o.kind
          go (inl e) other =
              let one : needs b (station_of x o) ≡ needs true (station_of a.op p) = same_Some _ _ (sym theirs ∙ ap (slice_get q.stationed.resources) e ∙ at_side) in
              let fits : (pair_of queue slot).side < length (slice_set queue.free (pair_of queue slot).cpu c) = omega (arith, exist.1, length-set queue.free (pair_of queue slot).cpu c) in
              ap (slice_index (slice_set (slice_set queue.free (pair_of queue slot).cpu c) (pair_of queue slot).side s)) e ∙ get_or-set_same (slice_set queue.free (pair_of queue slot).cpu c) (pair_of queue slot).side s 0 fits ∙ se ∙ side_by_kind plans costs (a ∷ h) a.op p is_p ∙ sym (same_need_free_alike plans costs (a ∷ h) x a.op o p is is_p b true one)
          go (inr d) (inl e) =
              let one : needs b (station_of x o) ≡ needs false (station_of a.op p) = same_Some _ _ (sym theirs ∙ ap (slice_get q.stationed.resources) e ∙ at_cpu) in
              get_or-set_other (slice_set queue.free (pair_of queue slot).cpu c) (pair_of queue slot).side n s 0 d ∙ ap (slice_index (slice_set queue.free (pair_of queue slot).cpu c)) e ∙ get_or-set_same queue.free (pair_of queue slot).cpu c 0 exist.0 ∙ ce ∙ sym (same_need_free_alike plans costs (a ∷ h) x a.op o p is is_p b false one)
          go (inr d) (inr f) =
              let no_cpu : needs b (station_of x o) ≡ cpu_alone (station_of a.op p) → ⊥ = λ same. f (q.stationed.numbering.resources_once n (pair_of queue slot).cpu _ theirs (at_cpu ∙ ap Some (sym same))) in
              let no_side : needs b (station_of x o) ≡ side_alone (station_of a.op p) → ⊥ = λ same. d (q.stationed.numbering.resources_once n (pair_of queue slot).side _ theirs (at_side ∙ ap Some (sym same))) in
              get_or-set_other (slice_set queue.free (pair_of queue slot).cpu c) (pair_of queue slot).side n s 0 d ∙ get_or-set_other queue.free (pair_of queue slot).cpu n c 0 f ∙ free_by_number h queue q.free i x o at is b ∙ sym (free_stays plans costs a h possible x o p is is_p b no_cpu no_side)

      -- so they are right after an action that holds what it needs
      pub free_times_after_hold : (new : Stationed) → new.stations ≡ queue.stations → new.pairs ≡ queue.pairs → new.free ≡ held queue.free (pair_of queue slot) c s → AreFree plans costs (a ∷ h) new
      free_times_after_hold new stations pairs free = record {
        cpus = λ i x at. (λ j. slice_index (free j) (pair_at (pairs j) (slice_index (stations j) i)).cpu) ∙ number_free_after_hold i x (op i x at).0 at (op i x at).1 false;
        sides = λ i x at. (λ j. slice_index (free j) (pair_at (pairs j) (slice_index (stations j) i)).side) ∙ number_free_after_hold i x (op i x at).0 at (op i x at).1 true ∙ sym (side_by_kind plans costs (a ∷ h) x (op i x at).0 (op i x at).1);
      }
        where
          op : (i : ℕ) (x : OpId) → slice_get (operations plans) i ≡ Some x → (o : Op) × (op_at plans x ≡ Some o)
          op i x at =
              let a = listed_op plans x (i, slice_get_within (operations plans) i x at, get_or_from_slice_get (operations plans) i x x at) in (a.op, a.is)

  -- the queue keeps its free times after an action that holds no cpu
  pub free_kept_by_action_without_cpu : (h : List Timed) (a : Timed) (queue new : Stationed) → holds_cpu a.class ≡ false → AreFree plans costs h queue → new.stations ≡ queue.stations → new.pairs ≡ queue.pairs → new.free ≡ queue.free → AreFree plans costs (a ∷ h) new
  free_kept_by_action_without_cpu h a queue new w free stations pairs same = record {
    cpus = λ i x at. (λ j. slice_index (same j) (pair_at (pairs j) (slice_index (stations j) i)).cpu) ∙ free.cpus i x at ∙ cpu_kept_if_not_held plans costs h a w x;
    sides = λ i x at. (λ j. slice_index (same j) (pair_at (pairs j) (slice_index (stations j) i)).side) ∙ free.sides i x at ∙ sym (side_kept_by_action_without_cpu plans costs a h x w);
  }

  -- the times that a queue borrows are those that it knows
  pub borrowed_times_are_known : (h : List Timed) (queue : Stationed) → IsOfSchedule plans costs h queue → (times : List ℕ) → AreFreeByNumber plans costs h queue.stations queue.pairs times → (slot : ℕ) → slot < length queue.keys → AreTimesOf times queue.free (pair_of queue slot)
  borrowed_times_are_known h queue q times free slot within =
      let x = get_or (operations plans) slot (record { rank = 0; op = 0 }) in
      let at : slice_get (operations plans) slot ≡ Some x = slice_get-get_or (operations plans) slot (record { rank = 0; op = 0 }) (omega (arith, within, q.each)) in
      let now = free slot x at in
      record {
        cpu_time = now.cpu_time ∙ ap Some (sym (q.free.cpus slot x at));
        side_time = now.side_time ∙ ap Some (sym (q.free.sides slot x at));
      }

-- the times of a pair, read from a list that has them
module _ (times : List ℕ) (p : Pair) (c s : ℕ) (has : HasTimes times p c s) where
  cpu_read : slice_index times p.cpu ≡ c
  cpu_read = get_or_from_slice_get times p.cpu c 0 has.cpu_time

  side_read : slice_index times p.side ≡ s
  side_read = get_or_from_slice_get times p.side s 0 has.side_time

  pub both_times_known : AreKnown times p
  both_times_known = record { has_cpu = slice_get_within times p.cpu c has.cpu_time; has_side = slice_get_within times p.side s has.side_time }

  pub later_by_times : (free : List ℕ) → IsLater free p c s → IsLaterBy free p times
  later_by_times free later = subst (λ (b : ℕ). IsLater free p (slice_index times p.cpu) b) (sym side_read) (subst (λ (a : ℕ). IsLater free p a s) (sym cpu_read) later)

  pub held_by_times : (free : List ℕ) → held_by free p times ≡ held free p c s
  held_by_times free = λ i. held free p (cpu_read i) (side_read i)
