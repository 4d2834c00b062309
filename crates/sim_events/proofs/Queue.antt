-- The queue of an engine over one action, and as operations get their keys.
use Rattle.std.proofs.Common.{◌≡◌, ◌≢◌, ◌⊎◌, ◌<◌, ◌≤◌, ℕ, max, Bool, true, false, List, [], ◌∷◌, length, get_or, set, Option, Some, None, is_some, slice_get, slice_index, slice_set, if◌then◌else◌, Contains, replicate, refl, sym, ap, ap₂, ◌∙◌, subst, arith, inl, inr}
use Rattle.std.specs.Option.{option_map}
use Rattle.std.proofs.lemmas.Bool.{both_ways, cases_eq, cases_lt}
use Rattle.std.proofs.lemmas.List.{length-set, get_or-set_same, get_or-set_other, set-get_or, get_or_past, get_or-replicate, length-replicate}
use Rattle.std.proofs.lemmas.Option.{same_Some, slice_get-get_or, slice_get_within, get_or_from_slice_get}
use Rattle.goal_graph.specs.declared.action.OpId.{OpId}
use Rattle.goal_graph.specs.declared.action.Timed.{Timed}
use Rattle.goal_graph.specs.declared.action.Class.{Class}
use Rattle.goal_graph.specs.declared.action.Class.TheVariants.{Arrive, Serve, Begin}
use Rattle.goal_graph.specs.declared.plan.Kind.{Kind}
use Rattle.goal_graph.specs.declared.plan.Kind.TheVariants.{Calc, Send, Recv}
use Rattle.goal_graph.specs.declared.plan.Op.{Op}
use Rattle.goal_graph.specs.Schedule.{Plan, operations, op_at, kind_at}
use Rattle.goal_graph.specs.Action.{plain, plain_act}
use Rattle.goal_graph.specs.Allowed.{allowed}
use Rattle.goal_graph.specs.Fault.{IsOp}
use Rattle.goal_graph.specs.Interleaving.{IsInterleaving}
use Rattle.goal_graph.proofs.ForCallers.{same_or_different_op, allowed_arrive, allowed_listed, allowed_stays, one_allowed, operations_at_two_places_differ, find_class, allowed_serve, listed_op, kind_from_op}
use Rattle.sim_params.specs.Costs.{CostModel, is_eager}
use Rattle.sim_params.specs.Times.{time, cpu, tx, rx, Possible}
use Rattle.sim_params.specs.Run.{IsNext, IsRun, IsFinished}
use Rattle.sim_params.specs.Laws.{HasBound}
use Rattle.sim_params.proofs.ForCallers.{run_interleaving, least_is_next}
use Rattle.sim_order.specs.Events.{event_before}
use Rattle.sim_queue.specs.Map.{key_at, IsEmptyMap, IsLeast}
use Rattle.sim_stations.specs.Stations.{Stationed, holds_cpu, pair_at, pair_of, held, when_free, both_free, at_time, DoExist, AreOfSlots}
use Rattle.sim_resources.specs.declared.pair.Pair.{Pair}
use Rattle.sim_stations.specs.declared.key_place.KeyPlace.TheVariants.{Nowhere}
use Rattle.sim_state.specs.Enabled.{IsIdle, IsEnabledActionOf}
use Rattle.sim_state.specs.Free.{free, side, side_of}
use Rattle.sim_state.proofs.ForCallers.{newest_is_not_act_of_other_op, newest_action_has_happened, listed_exists, is_some_false_means_none}
use Rattle.sim_resources.specs.Numbering.{AreStationed}
use Rattle.sim_events.specs.Queue.{AreFree, IsOfSchedule, IsQueueBut, IsQueue, HasPossibleKeys, IsRefreshed, IsDueAfter}
use Rattle.sim_events.proofs.Awaited.{IsConcerned, newly_allowed}
use Rattle.sim_events.proofs.Done.{serve_or_not, served_is_done, begun_calc_is_done, arrived_is_done, received_is_done}
use Rattle.sim_state.specs.Tasks.{IsLast}
use Rattle.sim_events.proofs.Keys.{less_is_event_before}
use Rattle.sim_events.proofs.Stays.{time_after, free_before_possible}
use Rattle.sim_events.proofs.FreeAfter.{free_is_later_of_both}
use Rattle.sim_events.proofs.Held.{free_times_after_hold, free_kept_by_action_without_cpu}

-- the time of a key once room is free at f
abbrev pub time_then : ℕ → Timed → ℕ
time_then f k = if holds_cpu k.class then max k.time f else k.time

module _ (plans : List Plan) (costs : CostModel) where
  -- what is listed is an operation of some kind
  pub listed_op_exists : (i : ℕ) (x : OpId) → slice_get (operations plans) i ≡ Some x → (o : Op) × (op_at plans x ≡ Some o)
  listed_op_exists i x at =
      let a = listed_op plans x (i, slice_get_within (operations plans) i x at, get_or_from_slice_get (operations plans) i x x at) in (a.op, a.is)

  -- both resources of an operation are free, as a queue knows it
  pub both_free_is_free_time : (h : List Timed) (queue : Stationed) → AreFree plans costs h queue → (i : ℕ) (x : OpId) → slice_get (operations plans) i ≡ Some x → both_free queue.free (pair_of queue i) ≡ free plans costs h x
  both_free_is_free_time h queue known i x at =
      let o = listed_op_exists i x at in
      ap₂ max (known.cpus i x at) (known.sides i x at) ∙ sym (free_is_later_of_both plans costs h x (o.0.kind, kind_from_op plans x o.0 o.0.kind o.1 refl))

  -- one more action
  module _ (h : List Timed) (a : Timed) (run : IsRun plans costs h) (possible : Possible plans costs h a) where
    interleaving : IsInterleaving plans (is_eager plans costs) (plain (a ∷ h))
    unfolding plain
    interleaving = (run_interleaving plans costs h run, possible.allowed)

    newly_allowed_is_concerned : (c : Class) (x : OpId) → allowed plans (is_eager plans costs) (plain (a ∷ h)) c x ≡ true → (allowed plans (is_eager plans costs) (plain h) c x ≡ true) ⊎ IsConcerned plans (plain (a ∷ h)) (plain_act a) x
    unfolding plain
    newly_allowed_is_concerned c x e = newly_allowed plans (is_eager plans costs) (plain_act a) (plain h) interleaving c x e

    other_stays_allowed : (c : Class) (x : OpId) → ¬ (x ≡ a.op) → allowed plans (is_eager plans costs) (plain h) c x ≡ true → allowed plans (is_eager plans costs) (plain (a ∷ h)) c x ≡ true
    unfolding plain
    other_stays_allowed c x d e =
        elim (same_or_different_op a.op x) [ inl s ↦ absurd (d (sym s)) | inr o ↦ allowed_stays plans (is_eager plans costs) (plain_act a) (plain h) c x (newest_is_not_act_of_other_op plans costs h a c x o) e ]

    -- its operation is done, where it is the last of that
    last_action_ends_own_op : (c : Class) (x : OpId) → x ≡ a.op → allowed plans (is_eager plans costs) (plain (a ∷ h)) c x ≡ true → IsLast plans costs a → ⊥
    last_action_ends_own_op c x e t last = go last (subst (λ (y : OpId). allowed plans (is_eager plans costs) (plain (a ∷ h)) c y ≡ true) e t)
      where
        -- it was allowed as an action of its class, and has happened now
        was : (d : Class) → a.class ≡ d → allowed plans (is_eager plans costs) (plain h) d a.op ≡ true
        was d is = subst (λ (k : Class). allowed plans (is_eager plans costs) (plain h) k a.op ≡ true) is possible.allowed

        go : IsLast plans costs a → allowed plans (is_eager plans costs) (plain (a ∷ h)) c a.op ≡ true → ⊥
        go (inl (is, calc)) may =
            begun_calc_is_done plans (is_eager plans costs) (plain (a ∷ h)) a.op calc (newest_action_has_happened plans costs h a Begin is) c may
        go (inr (inl (is, whole))) may =
            arrived_is_done plans (is_eager plans costs) (plain (a ∷ h)) a.op interleaving (allowed_arrive plans (is_eager plans costs) (plain h) a.op (was Arrive is)).0 whole (newest_action_has_happened plans costs h a Arrive is) c may
        go (inr (inr is)) may =
            received_is_done plans (is_eager plans costs) (plain (a ∷ h)) a.op interleaving (allowed_serve plans (is_eager plans costs) (plain h) a.op (was Serve is)).0 (newest_action_has_happened plans costs h a Serve is) c may

    -- what it concerns is due, but a send whose message is taken, which is done
    concerned_is_due : (c : Class) (x : OpId) → allowed plans (is_eager plans costs) (plain (a ∷ h)) c x ≡ true → IsConcerned plans (plain (a ∷ h)) (plain_act a) x → IsDueAfter plans costs (a ∷ h) a x
    concerned_is_due c x t (inl e) = inl ((λ last. last_action_ends_own_op c x e t last), e)
    concerned_is_due c x t (inr (inr w)) = inr (inr w)
    concerned_is_due c x t (inr (inl p)) = elim (serve_or_not a.class) [ inl e ↦ absurd (taken e) | inr n ↦ inr (inl (n, p)) ]
      where
        taken : a.class ≡ Serve → ⊥
        taken e =
            let serves : allowed plans (is_eager plans costs) (plain h) Serve a.op ≡ true = subst (λ (d : Class). allowed plans (is_eager plans costs) (plain h) d a.op ≡ true) e possible.allowed in
            served_is_done plans (is_eager plans costs) (plain (a ∷ h)) a.op x interleaving (allowed_serve plans (is_eager plans costs) (plain h) a.op serves).0 (newest_action_has_happened plans costs h a Serve e) p c t

    -- an idle operation stays so, or it is due
    idle_stays : (x : OpId) → IsIdle plans costs h x → IsIdle plans costs (a ∷ h) x ⊎ IsDueAfter plans costs (a ∷ h) a x
    idle_stays x idle = go (find_class (λ c. allowed plans (is_eager plans costs) (plain (a ∷ h)) c x))
      where
        go : ((c : Class) × (allowed plans (is_eager plans costs) (plain (a ∷ h)) c x ≡ true)) ⊎ ((c : Class) → allowed plans (is_eager plans costs) (plain (a ∷ h)) c x ≡ false) → IsIdle plans costs (a ∷ h) x ⊎ IsDueAfter plans costs (a ∷ h) a x
        go (inr none) = inl none
        go (inl (c, t)) = elim (newly_allowed_is_concerned c x t) [ inl was ↦ absurd (both_ways _ (idle c) was) | inr new ↦ inr (concerned_is_due c x t new) ]

    -- its operation is idle, or it is due
    own_is_idle_or_due : (x : OpId) → x ≡ a.op → IsIdle plans costs (a ∷ h) x ⊎ IsDueAfter plans costs (a ∷ h) a x
    own_is_idle_or_due x e = go (find_class (λ c. allowed plans (is_eager plans costs) (plain (a ∷ h)) c x))
      where
        go : ((c : Class) × (allowed plans (is_eager plans costs) (plain (a ∷ h)) c x ≡ true)) ⊎ ((c : Class) → allowed plans (is_eager plans costs) (plain (a ∷ h)) c x ≡ false) → IsIdle plans costs (a ∷ h) x ⊎ IsDueAfter plans costs (a ∷ h) a x
        go (inr none) = inl none
        go (inl (c, t)) = inr (concerned_is_due c x t (inl e))

    -- the possible action of another operation, once it knows when room is free
    possible_once_room_is_free : (x : OpId) (k : Timed) (f : ℕ) → ¬ (x ≡ a.op) → k.op ≡ x → Possible plans costs h k → f ≡ free plans costs (a ∷ h) x → Possible plans costs (a ∷ h) (at_time (time_then f k) k)
    possible_once_room_is_free x k f d op p e = record {
      allowed = other_stays_allowed k.class k.op (λ s. d (sym op ∙ s)) p.allowed;
      time = ap₂ (λ (n m : ℕ). if holds_cpu k.class then max n m else n) p.time (e ∙ ap (free plans costs (a ∷ h)) (sym op)) ∙ sym (time_after plans costs a h run k.class k.op p.allowed);
    }

    -- The key of a slot is gone, and the others are those that they were, once they know when room is free.
    pub record IsSettled (old new : Stationed) (slot : ℕ) : Type 0 where
      pub of_it : IsOfSchedule plans costs (a ∷ h) new
      pub gone : key_at new.keys slot ≡ None
      pub others :
          (i : ℕ) (x : OpId)
          → i ≢ slot → slice_get (operations plans) i ≡ Some x
          → key_at new.keys i ≡ option_map (λ (k : Timed). at_time (time_then (free plans costs (a ∷ h) x) k) k) (key_at old.keys i)

    -- so after an action, whose own key was taken out, those are due that it concerns
    pub queue_after : (old new : Stationed) (slot : ℕ) → IsQueue plans costs h old → slice_get (operations plans) slot ≡ Some a.op → IsSettled old new slot → IsQueueBut plans costs (a ∷ h) (IsDueAfter plans costs (a ∷ h) a) new
    queue_after old new slot q here settled = record {
      of_it = settled.of_it;
      possible = λ i x e at has. is_possible i x e at has (cases_eq i slot);
      idle = λ i x at none. is_idle i x at none (cases_eq i slot);
    }
      where
        raised : (i : ℕ) (x : OpId) (e : Timed) (was : Option Timed) → i ≢ slot → slice_get (operations plans) i ≡ Some x → key_at old.keys i ≡ was → option_map (λ (k : Timed). at_time (time_then (free plans costs (a ∷ h) x) k) k) was ≡ Some e → (e.op ≡ x) × Possible plans costs (a ∷ h) e
        raised i x e None d at was is = absurd (cc)
        raised i x e (Some k) d at was is =
            let own = q.possible i x k at was in
            let same : at_time (time_then (free plans costs (a ∷ h) x) k) k ≡ e = same_Some _ e is in
            subst (λ (b : Timed). (b.op ≡ x) × Possible plans costs (a ∷ h) b) same (own.0, possible_once_room_is_free x k (free plans costs (a ∷ h) x) (operations_at_two_places_differ plans i slot x a.op at here d) own.0 own.1 refl)

        is_possible : (i : ℕ) (x : OpId) (e : Timed) → slice_get (operations plans) i ≡ Some x → key_at new.keys i ≡ Some e → (i ≡ slot) ⊎ (i ≢ slot) → (e.op ≡ x) × Possible plans costs (a ∷ h) e
        is_possible i x e at has (inl s) =
            let none : key_at new.keys i ≡ None = ap (key_at new.keys) s ∙ settled.gone in absurd (cc)
        is_possible i x e at has (inr d) = raised i x e (key_at old.keys i) d at refl (sym (settled.others i x d at) ∙ has)

        idle_then : (i : ℕ) (x : OpId) (was : Option Timed) → slice_get (operations plans) i ≡ Some x → key_at old.keys i ≡ was → option_map (λ (k : Timed). at_time (time_then (free plans costs (a ∷ h) x) k) k) was ≡ None → IsIdle plans costs (a ∷ h) x ⊎ IsDueAfter plans costs (a ∷ h) a x
        idle_then i x (Some k) at was is = absurd (cc)
        idle_then i x None at was is = elim (q.idle i x at was) [ inl idle ↦ idle_stays x idle | inr never ↦ absurd never ]

        is_idle : (i : ℕ) (x : OpId) → slice_get (operations plans) i ≡ Some x → key_at new.keys i ≡ None → (i ≡ slot) ⊎ (i ≢ slot) → IsIdle plans costs (a ∷ h) x ⊎ IsDueAfter plans costs (a ∷ h) a x
        is_idle i x at none (inl s) = own_is_idle_or_due x (same_Some x a.op (sym at ∙ ap (slice_get (operations plans)) s ∙ here))
        is_idle i x at none (inr d) = idle_then i x (key_at old.keys i) at refl (sym (settled.others i x d at) ∙ none)

    -- if it waited for nothing, the others are unchanged
    pub settled_at_once : (old new : Stationed) (slot : ℕ) → IsQueue plans costs h old → slice_get (operations plans) slot ≡ Some a.op → holds_cpu a.class ≡ false → new.keys ≡ slice_set old.keys slot None → new.stations ≡ old.stations → new.pairs ≡ old.pairs → new.free ≡ old.free → IsSettled old new slot
    settled_at_once old new slot q here w keys stations pairs same = record {
      of_it = record {
        each = ap length keys ∙ length-set old.keys slot None ∙ q.of_it.each;
        stationed = numbered;
        exist = subst (λ (n : ℕ). DoExist new.pairs n) (ap length (sym same)) (subst (λ (ps : List Pair). DoExist ps (length old.free)) (sym pairs) q.of_it.exist);
        free = known;
      };
      gone = now slot ∙ get_or-set_same old.keys slot None None (omega (arith, q.of_it.each, slice_get_within (operations plans) slot a.op here));
      others = λ i x d at. now i ∙ get_or-set_other old.keys slot i None None d ∙ kept i x at (key_at old.keys i) refl;
    }
      where
        now : (i : ℕ) → key_at new.keys i ≡ key_at (set old.keys slot None) i
        now i = ap (λ ks. key_at ks i) keys

        numbered : AreStationed plans new.stations new.pairs
        numbered = subst (λ (ps : List Pair). AreStationed plans new.stations ps) (sym pairs) (subst (λ (ns : List ℕ). AreStationed plans ns old.pairs) (sym stations) q.of_it.stationed)

        known : AreFree plans costs (a ∷ h) new
        known = free_kept_by_action_without_cpu plans costs h a old new w q.of_it.free stations pairs same

        unmoved : (i : ℕ) (x : OpId) → slice_get (operations plans) i ≡ Some x → free plans costs (a ∷ h) x ≡ free plans costs h x
        unmoved i x at =
            sym (both_free_is_free_time (a ∷ h) new known i x at) ∙ (λ j. both_free (same j) (pair_at (pairs j) (slice_index (stations j) i))) ∙ both_free_is_free_time h old q.of_it.free i x at

        kept : (i : ℕ) (x : OpId) → slice_get (operations plans) i ≡ Some x → (was : Option Timed) → key_at old.keys i ≡ was → was ≡ option_map (λ (k : Timed). at_time (time_then (free plans costs (a ∷ h) x) k) k) was
        kept i x at None was = refl
        kept i x at (Some k) was =
            let own = q.possible i x k at was in
            ap Some (λ j. record { time = go (holds_cpu k.class) (λ w2. free_before_possible plans costs h k.class k.op w2 own.1.allowed) own.1.time (unmoved i x at) (ap (free plans costs h) own.0) j; class = k.class; op = k.op })
          where
            go : (r : Bool) → (r ≡ true → free plans costs h k.op ≤ time plans costs h k.class k.op) → k.time ≡ time plans costs h k.class k.op → free plans costs (a ∷ h) x ≡ free plans costs h x → free plans costs h k.op ≡ free plans costs h x → k.time ≡ (if r then max k.time (free plans costs (a ∷ h) x) else k.time)
            go true first at_time stays_free op = omega (arith, first refl, at_time, stays_free, op)
            go false first at_time stays_free op = refl

    -- where it held a cpu the others were raised
    pub settled_held : (old new : Stationed) (slot : ℕ) (c s : ℕ) → IsQueue plans costs h old → slice_get (operations plans) slot ≡ Some a.op → c ≡ cpu plans costs (a ∷ h) a.op → s ≡ side plans costs (a ∷ h) a.op → length new.keys ≡ length old.keys → key_at new.keys slot ≡ None → ((other : ℕ) → other ≢ slot → key_at new.keys other ≡ option_map (when_free new.free (pair_of old other)) (key_at old.keys other)) → new.stations ≡ old.stations → new.pairs ≡ old.pairs → new.free ≡ held old.free (pair_of old slot) c s → IsSettled old new slot
    settled_held old new slot c s q here ce se each gone raised stations pairs same = record {
      of_it = record {
        each = each ∙ q.of_it.each;
        stationed = subst (λ (ps : List Pair). AreStationed plans new.stations ps) (sym pairs) (subst (λ (ns : List ℕ). AreStationed plans ns old.pairs) (sym stations) q.of_it.stationed);
        exist = subst (λ (n : ℕ). DoExist new.pairs n) (sym longer) (subst (λ (ps : List Pair). DoExist ps (length old.free)) (sym pairs) q.of_it.exist);
        free = known;
      };
      gone = gone;
      others = λ i x d at. raised i d ∙ ap (λ (f : ℕ). option_map (λ (k : Timed). at_time (time_then f k) k) (key_at old.keys i)) (both i x at);
    }
      where
        longer : length new.free ≡ length old.free
        longer = ap length same ∙ length-set (slice_set old.free (pair_of old slot).cpu c) (pair_of old slot).side s ∙ length-set old.free (pair_of old slot).cpu c

        o : (o : Op) × (op_at plans a.op ≡ Some o)
        o = listed_op_exists slot a.op here

        known : AreFree plans costs (a ∷ h) new
        known = free_times_after_hold plans costs h a possible old q.of_it slot here o.0 o.1 c s ce se new stations pairs same

        both : (i : ℕ) (x : OpId) → slice_get (operations plans) i ≡ Some x → both_free new.free (pair_of old i) ≡ free plans costs (a ∷ h) x
        both i x at =
            (λ j. both_free new.free (pair_at (sym pairs j) (slice_index (sym stations j) i))) ∙ both_free_is_free_time (a ∷ h) new known i x at

  module _ (h : List Timed) where
    -- where an operation has got its key it is no longer due
    pub refreshed_is_no_longer_due : (Due Later : OpId → Type 0) (old new : Stationed) (x : OpId) → IsQueueBut plans costs h Due old → IsRefreshed plans costs h x old new → ((y : OpId) → IsOp plans y → Due y → ¬ (y ≡ x) → Later y) → IsQueueBut plans costs h Later new
    refreshed_is_no_longer_due Due Later old new x q r still = record {
      of_it = record {
        each = ap length r.put ∙ length-set old.keys r.slot r.key ∙ q.of_it.each;
        stationed = subst (λ (ps : List Pair). AreStationed plans new.stations ps) (sym r.pairs) (subst (λ (ns : List ℕ). AreStationed plans ns old.pairs) (sym r.stations) q.of_it.stationed);
        exist = subst (λ (n : ℕ). DoExist new.pairs n) (ap length (sym r.free)) (subst (λ (ps : List Pair). DoExist ps (length old.free)) (sym r.pairs) q.of_it.exist);
        free = record {
          cpus = λ i y at. (λ j. slice_index (r.free j) (pair_at (r.pairs j) (slice_index (r.stations j) i)).cpu) ∙ q.of_it.free.cpus i y at;
          sides = λ i y at. (λ j. slice_index (r.free j) (pair_at (r.pairs j) (slice_index (r.stations j) i)).side) ∙ q.of_it.free.sides i y at;
        };
      };
      possible = λ i y e at has. possible i y e at (sym (now i) ∙ has) (cases_eq i r.slot);
      idle = λ i y at none. idle i y at (sym (now i) ∙ none) (cases_eq i r.slot);
    }
      where
        now : (i : ℕ) → key_at new.keys i ≡ key_at (set old.keys r.slot r.key) i
        now i = ap (λ ks. key_at ks i) r.put

        within : r.slot < length old.keys
        within = omega (arith, q.of_it.each, slice_get_within (operations plans) r.slot x r.is_slot)

        here : (i : ℕ) (y : OpId) → slice_get (operations plans) i ≡ Some y → i ≡ r.slot → IsEnabledActionOf plans costs h y (key_at (set old.keys r.slot r.key) i)
        here i y at s =
            let same : x ≡ y = same_Some x y (sym r.is_slot ∙ ap (slice_get (operations plans)) (sym s) ∙ at) in
            let is : key_at (set old.keys r.slot r.key) i ≡ r.key = ap (key_at (set old.keys r.slot r.key)) s ∙ get_or-set_same old.keys r.slot r.key None within in
            subst (λ (k : Option Timed). IsEnabledActionOf plans costs h y k) (sym is) (subst (λ (z : OpId). IsEnabledActionOf plans costs h z r.key) same r.enabled)

        possible : (i : ℕ) (y : OpId) (e : Timed) → slice_get (operations plans) i ≡ Some y → key_at (set old.keys r.slot r.key) i ≡ Some e → (i ≡ r.slot) ⊎ (i ≢ r.slot) → (e.op ≡ y) × Possible plans costs h e
        possible i y e at has (inl s) = subst (λ (k : Option Timed). IsEnabledActionOf plans costs h y k) has (here i y at s)
        possible i y e at has (inr d) = q.possible i y e at (sym (get_or-set_other old.keys r.slot i r.key None d) ∙ has)

        idle : (i : ℕ) (y : OpId) → slice_get (operations plans) i ≡ Some y → key_at (set old.keys r.slot r.key) i ≡ None → (i ≡ r.slot) ⊎ (i ≢ r.slot) → IsIdle plans costs h y ⊎ Later y
        idle i y at none (inl s) = inl (subst (λ (k : Option Timed). IsEnabledActionOf plans costs h y k) none (here i y at s))
        idle i y at none (inr d) =
            elim (q.idle i y at (sym (get_or-set_other old.keys r.slot i r.key None d) ∙ none)) [ inl is ↦ inl is | inr due ↦ inr (still y (listed_exists plans i y at) due (operations_at_two_places_differ plans i r.slot y x at r.is_slot d)) ]

    -- fewer are due
    pub fewer_due : (Due Later : OpId → Type 0) (queue : Stationed) → IsQueueBut plans costs h Due queue → ((y : OpId) → IsOp plans y → Due y → Later y) → IsQueueBut plans costs h Later queue
    fewer_due Due Later queue q still = record {
      of_it = q.of_it;
      possible = q.possible;
      idle = λ i y at none. elim (q.idle i y at none) [ inl is ↦ inl is | inr due ↦ inr (still y (listed_exists plans i y at) due) ];
    }

    -- all may be due: each key that there is is possible
    pub possible_keys : (Due : OpId → Type 0) (queue : Stationed) → IsQueueBut plans costs h Due queue → HasPossibleKeys plans costs h queue
    possible_keys Due queue q = fewer_due Due (λ y. Unit {0}) queue q (λ y is due. tt)

    -- where all are due an empty queue will do
    pub empty_queue_with_all_due : (Due : OpId → Type 0) (queue : Stationed) → IsOfSchedule plans costs h queue → IsEmptyMap queue.keys → ((y : OpId) → IsOp plans y → Due y) → IsQueueBut plans costs h Due queue
    empty_queue_with_all_due Due queue of_it empty every = record {
      of_it = of_it;
      possible = λ i y k at has. let none : key_at queue.keys i ≡ None = empty i in absurd (cc);
      idle = λ i y at none. inr (every y (listed_exists plans i y at));
    }

    -- a key of the queue is possible, and is in the slot of its operation
    pub record IsFound (keys : List (Option Timed)) (slot : ℕ) (e : Timed) : Type 0 where
      pub within : slot < length keys
      pub is_slot : slice_get (operations plans) slot ≡ Some e.op
      pub possible : Possible plans costs h e

    pub key_found : (Due : OpId → Type 0) (queue : Stationed) (slot : ℕ) (e : Timed) → IsQueueBut plans costs h Due queue → key_at queue.keys slot ≡ Some e → IsFound queue.keys slot e
    key_found Due queue slot e q has = go (cases_lt slot (length queue.keys))
      where
        go : (slot < length queue.keys) ⊎ (length queue.keys ≤ slot) → IsFound queue.keys slot e
        go (inr l) = let none : key_at queue.keys slot ≡ None = get_or_past queue.keys slot None l in absurd (cc)
        go (inl l) =
            let x = get_or (operations plans) slot e.op in
            let at : slice_get (operations plans) slot ≡ Some (get_or (operations plans) slot e.op) = slice_get-get_or (operations plans) slot e.op (omega (arith, l, q.of_it.each)) in
            let own = q.possible slot (get_or (operations plans) slot e.op) e at has in
            record { within = l; is_slot = at ∙ ap Some (sym own.0); possible = own.1 }

    module _ (run : IsRun plans costs h) (queue : Stationed) (q : IsQueue plans costs h queue) where
      abbrev InQueue : Timed → Type 0
      InQueue e = (slot : ℕ) × (key_at queue.keys slot ≡ Some e)

      -- each possible action is in the queue
      possible_has_bound_in_queue : (b : Timed) → Possible plans costs h b → HasBound InQueue b
      possible_has_bound_in_queue b p = go (key_at queue.keys slot) refl
        where
          listed : Contains (operations plans) b.op
          listed = allowed_listed plans (is_eager plans costs) (plain h) b.class b.op p.allowed

          slot : ℕ
          slot = listed.0

          at : slice_get (operations plans) slot ≡ Some b.op
          at = slice_get-get_or (operations plans) slot b.op listed.1 ∙ ap Some listed.2

          go : (k : Option Timed) → key_at queue.keys slot ≡ k → HasBound InQueue b
          go None none =
              elim (q.idle slot b.op at none) [ inl idle ↦ absurd (both_ways _ (idle b.class) p.allowed) | inr never ↦ absurd never ]
          go (Some e) has =
              let own = q.possible slot b.op e at has in
              let class : e.class ≡ b.class = one_allowed plans (is_eager plans costs) (plain h) e.class b.class b.op (run_interleaving plans costs h run) (subst (λ (x : OpId). allowed plans (is_eager plans costs) (plain h) e.class x ≡ true) own.0 own.1.allowed) p.allowed in
              let times : time plans costs h e.class e.op ≡ time plans costs h b.class b.op = λ i. time plans costs h (class i) (own.0 i) in
              record {
                entry = e;
                queued = (slot, has);
                class = class;
                op = own.0;
                time = omega (arith, own.1.time, times, p.time);
              }

      -- an empty queue: nothing is possible
      pub empty_queue_is_finished : IsEmptyMap queue.keys → IsFinished plans costs h
      empty_queue_is_finished empty b p =
          let e = possible_has_bound_in_queue b p in
          let none : key_at queue.keys e.queued.0 ≡ None = empty e.queued.0 in
          let some : key_at queue.keys e.queued.0 ≡ Some e.entry = e.queued.1 in
          absurd (cc)

      -- the least key is next
      pub least_key_is_next : (slot : ℕ) (e : Timed) → IsLeast event_before queue.keys slot e → IsNext plans costs h e
      least_key_is_next slot e least =
          least_is_next plans costs InQueue h e possible_has_bound_in_queue (λ k queued l. both_ways _ (least.least queued.0 k queued.1) (less_is_event_before k e l)) (key_found (λ x. ⊥) queue slot e q least.has).possible

    -- where nothing is possible the queue is empty
    pub finished_queue_is_empty : (queue : Stationed) → IsQueue plans costs h queue → IsFinished plans costs h → IsEmptyMap queue.keys
    finished_queue_is_empty queue q none slot = go (key_at queue.keys slot) refl
      where
        go : (k : Option Timed) → key_at queue.keys slot ≡ k → k ≡ None
        go None e = refl
        go (Some k) e = absurd (none k (key_found (λ x. ⊥) queue slot k q e).possible)

    -- each key is of the operation of its slot
    pub keys_are_of_their_slots : (Due : OpId → Type 0) (queue : Stationed) (known : List Plan) → IsQueueBut plans costs h Due queue → known ≡ plans → AreOfSlots (operations known) queue.keys
    keys_are_of_their_slots Due queue known q same slot k has =
        ap (λ (ps : List Plan). slice_get (operations ps) slot) same ∙ (key_found Due queue slot k q has).is_slot

    -- where keys, stations and free times are the same it is the same queue
    pub same_queue : (Due : OpId → Type 0) (old new : Stationed) → IsQueueBut plans costs h Due old → new.keys ≡ old.keys → new.stations ≡ old.stations → new.pairs ≡ old.pairs → new.free ≡ old.free → IsQueueBut plans costs h Due new
    same_queue Due old new q keys stations pairs free = record {
      of_it = record {
        each = ap length keys ∙ q.of_it.each;
        stationed = subst (λ (ps : List Pair). AreStationed plans new.stations ps) (sym pairs) (subst (λ (ns : List ℕ). AreStationed plans ns old.pairs) (sym stations) q.of_it.stationed);
        exist = subst (λ (n : ℕ). DoExist new.pairs n) (ap length (sym free)) (subst (λ (ps : List Pair). DoExist ps (length old.free)) (sym pairs) q.of_it.exist);
        free = record {
          cpus = λ i y at. (λ j. slice_index (free j) (pair_at (pairs j) (slice_index (stations j) i)).cpu) ∙ q.of_it.free.cpus i y at;
          sides = λ i y at. (λ j. slice_index (free j) (pair_at (pairs j) (slice_index (stations j) i)).side) ∙ q.of_it.free.sides i y at;
        };
      };
      possible = λ i x e at has. q.possible i x e at (sym (ap (λ ks. key_at ks i) keys) ∙ has);
      idle = λ i x at none. q.idle i x at (sym (ap (λ ks. key_at ks i) keys) ∙ none);
    }

    -- an operation that had no key has got that of its possible action
    pub put_enabled : (x : OpId) (known : List Plan) (slot : ℕ) (enabled : Option Timed) (a k : Timed) (old new : Stationed) → HasPossibleKeys plans costs h old → known ≡ plans → slice_get (operations known) slot ≡ Some x → IsEnabledActionOf plans costs h x enabled → enabled ≡ Some a → k ≡ a → new.keys ≡ slice_set old.keys slot (Some (when_free old.free (pair_of old slot) k)) → new.stations ≡ old.stations → new.pairs ≡ old.pairs → new.turned ≡ old.turned → new.free ≡ old.free → IsRefreshed plans costs h x old new
    put_enabled x known slot enabled a k old new q same at is e key put stations pairs turned free_same = record {
      slot = slot;
      is_slot = at_slot;
      key = Some a;
      enabled = own;
      put = put ∙ ap (λ (b : Timed). slice_set old.keys slot (Some b)) ((λ i. when_free old.free (pair_of old slot) (key i)) ∙ exact);
      stations = stations;
      pairs = pairs;
      turned = turned;
      free = free_same;
    }
      where
        at_slot : slice_get (operations plans) slot ≡ Some x
        at_slot = ap (λ (ps : List Plan). slice_get (operations ps) slot) (sym same) ∙ at

        own : (a.op ≡ x) × Possible plans costs h a
        own = subst (IsEnabledActionOf plans costs h x) e is

        go : (r : Bool) (f : ℕ) → (r ≡ true → free plans costs h a.op ≤ time plans costs h a.class a.op) → f ≡ free plans costs h a.op → a.time ≡ time plans costs h a.class a.op → (if r then max a.time f else a.time) ≡ a.time
        go true f first same_free at_time = omega (arith, first refl, same_free, at_time)
        go false f first same_free at_time = refl

        exact : when_free old.free (pair_of old slot) a ≡ a
        exact =
            let known_free : both_free old.free (pair_of old slot) ≡ free plans costs h a.op = both_free_is_free_time h old q.of_it.free slot x at_slot ∙ ap (free plans costs h) (sym own.0) in
            λ j. record { time = go (holds_cpu a.class) _ (λ w. free_before_possible plans costs h a.class a.op w own.1.allowed) known_free own.1.time j; class = a.class; op = a.op }

    -- an operation that has its key is unchanged
    same_key : (x : OpId) (known : List Plan) (slot : ℕ) (queue : Stationed) → known ≡ plans → slice_get (operations known) slot ≡ Some x → IsEnabledActionOf plans costs h x (key_at queue.keys slot) → IsRefreshed plans costs h x queue queue
    same_key x known slot queue same at enabled = record {
      slot = slot;
      is_slot = ap (λ (ps : List Plan). slice_get (operations ps) slot) (sym same) ∙ at;
      key = key_at queue.keys slot;
      enabled = enabled;
      put = sym (set-get_or queue.keys slot None);
      stations = refl;
      pairs = refl;
      turned = refl;
      free = refl;
    }

    pub key_kept : (x : OpId) (known : List Plan) (slot : ℕ) (queue : Stationed) → HasPossibleKeys plans costs h queue → known ≡ plans → slice_get (operations known) slot ≡ Some x → is_some (key_at queue.keys slot) ≡ true → IsRefreshed plans costs h x queue queue
    key_kept x known slot queue q same at some = go (key_at queue.keys slot) refl
      where
        go : (k : Option Timed) → key_at queue.keys slot ≡ k → IsRefreshed plans costs h x queue queue
        go None none = absurd (both_ways _ (ap is_some none) some)
        go (Some e) has =
            same_key x known slot queue same at (subst (IsEnabledActionOf plans costs h x) (sym has) (q.possible slot x e (ap (λ (ps : List Plan). slice_get (operations ps) slot) (sym same) ∙ at) has))

    -- what is idle has none
    pub idle_kept : (x : OpId) (known : List Plan) (slot : ℕ) (enabled : Option Timed) (queue : Stationed) → known ≡ plans → slice_get (operations known) slot ≡ Some x → IsEnabledActionOf plans costs h x enabled → enabled ≡ None → is_some (key_at queue.keys slot) ≡ false → IsRefreshed plans costs h x queue queue
    idle_kept x known slot enabled queue same at is e none =
        same_key x known slot queue same at (subst (IsEnabledActionOf plans costs h x) (e ∙ sym (is_some_false_means_none (key_at queue.keys slot) none)) is)

  cpu_free_at_start : (x : OpId) → 0 ≡ cpu plans costs [] x
  unfolding cpu
  cpu_free_at_start x = refl

  side_free_at_start : (x : OpId) (k : Option Kind) → 0 ≡ side_of plans costs [] x k
  unfolding cpu tx rx
  side_free_at_start x None = refl
  side_free_at_start x (Some (Calc n)) = refl
  side_free_at_start x (Some (Send n t u)) = refl
  side_free_at_start x (Some (Recv n t u)) = refl

  -- a new queue is one of its schedule, before anything has happened
  pub new_queue : (numbers : List ℕ) (pairs : List Pair) (resources : ℕ) (queue : Stationed) → AreStationed plans numbers pairs → DoExist pairs resources → queue ≡ record { keys = replicate (length numbers) None; stations = numbers; stands = replicate (length numbers) Nowhere; pairs = pairs; turned = replicate (length pairs) false; free = replicate resources 0; found = None } → IsOfSchedule plans costs [] queue
  new_queue numbers pairs resources queue stationed exist is = subst (IsOfSchedule plans costs []) (sym is) (record {
    each = length-replicate (length numbers) None ∙ stationed.each;
    stationed = stationed;
    exist = subst (λ (n : ℕ). DoExist pairs n) (sym (length-replicate {A = ℕ} resources 0)) exist;
    free = record {
      cpus = λ slot x at. zero_at resources (pair_at pairs (slice_index numbers slot)).cpu ∙ cpu_free_at_start x;
      sides = λ slot x at. zero_at resources (pair_at pairs (slice_index numbers slot)).side ∙ side_free_at_start x (kind_at plans x);
    };
  })
    where
      zero_at : (n k : ℕ) → slice_index (replicate n 0) k ≡ 0
      zero_at n k = elim (cases_lt k n) [ inl l ↦ get_or-replicate n k 0 0 l | inr l ↦ get_or_past (replicate n 0) k 0 (omega (arith, l, length-replicate {A = ℕ} n 0)) ]
