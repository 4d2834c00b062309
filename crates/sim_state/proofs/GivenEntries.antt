-- The entries of the operations, while those that wait for an action's operation are given its moments one after another.
use Rattle.std.proofs.Common.{◌≡◌, ◌≢◌, ◌&&◌, ◌+◌, ◌-◌, ◌<◌, ◌≤◌, ℕ, Bool, true, false, max, List, [], ◌∷◌, ◌++◌, count_by, Option, Some, None, if◌then◌else◌, inl, inr, refl, sym, ap, ap₂, ◌∙◌, arith}
use Rattle.std.specs.Option.{option_map}
use Rattle.std.proofs.lemmas.Bool.{and_left, and_right, cases_Bool, cond-true, cond-false}
use Rattle.goal_graph.specs.declared.action.OpId.{OpId}
use Rattle.goal_graph.specs.declared.action.Timed.{Timed}
use Rattle.goal_graph.specs.declared.action.Class.TheVariants.{Arrive}
use Rattle.goal_graph.specs.declared.plan.Need.{Need}
use Rattle.goal_graph.specs.declared.plan.When.{When}
use Rattle.goal_graph.specs.declared.plan.When.TheVariants.{AfterEnd, AfterStart}
use Rattle.goal_graph.specs.Schedule.{Plan, kind_at, needed}
use Rattle.goal_graph.specs.Concerned.{waiting_on}
use Rattle.goal_graph.specs.Action.{same_op, plain}
use Rattle.goal_graph.specs.Allowed.{first_class, has_started}
use Rattle.goal_graph.proofs.ForCallers.{with_entry_same, same_or_different_op, count-cons, entry_written, with_entry_other, same_op_itself, same_op_swapped}
use Rattle.sim_params.specs.Costs.{CostModel}
use Rattle.sim_params.specs.Times.{greatest, met_at, Possible}
use Rattle.sim_params.specs.Run.{IsRun}
use Rattle.sim_params.specs.Budget.{budget}
use Rattle.sim_params.proofs.ForCallers.{run_is_each_possible, within_budget}
use Rattle.sim_state.specs.declared.entry.OpState.{OpState}
use Rattle.sim_state.specs.declared.entry.Times.{Times}
use Rattle.sim_state.specs.Awaited.{unmet, last_given, awaited_known}
use Rattle.sim_state.specs.Given.{given_times, with_given, moment_in}
use Rattle.sim_state.specs.Represents.{times_known, link_known, entry_known, entry_then}
use Rattle.sim_state.proofs.After.{happened_kept_by_other_action, none_unmet, newest_is_not_act_of_other_op}
use Rattle.sim_state.proofs.GivenCounts.{counted_those, given_to, greatest_none, greatest_push, greatest_uncounted, last_those, names, one_if}
use Rattle.sim_state.proofs.GivenMoments.{is_given, started_was_ready, there_now}

-- a moment that may not be there is at least another, or the greater of two others
abbrev raised : ℕ → Option ℕ → Option ℕ
raised n o = option_map (λ (last : ℕ). max last n) o

raised_none : (o : Option ℕ) (n : ℕ) → n ≡ 0 → raised n o ≡ o
raised_none None n e = refl
raised_none (Some m) n e = let same : max m n ≡ m = omega arith in ap Some same

raised_twice : (o : Option ℕ) (m n k : ℕ) → k ≡ max m n → raised n (raised m o) ≡ raised k o
raised_twice None m n k e = refl
raised_twice (Some l) m n k e = let same : max (max l m) n ≡ max l k = omega arith in ap Some same

given_none : (t : Times) (n : ℕ) → n ≡ 0 → given_times n t ≡ t
given_none t n e = ap (λ (o : Option ℕ). record t { awaited = o }) (raised_none t.awaited n e)

given_twice : (t : Times) (m n k : ℕ) → k ≡ max m n → given_times n (given_times m t) ≡ given_times k t
given_twice t m n k e = ap (λ (o : Option ℕ). record t { awaited = o }) (raised_twice t.awaited m n k e)

module _ (plans : List Plan) (costs : CostModel) (h : List Timed) (a : Timed) where
  -- how many moments y waits for, before those entries are given theirs
  abbrev pub unmet_left : List Need → OpId → ℕ
  unmet_left ns y = unmet plans costs (a ∷ h) y + count_by (names plans costs h a y) ns

  -- the last moment of those entries that y is given
  abbrev pub given_last : List Need → OpId → ℕ
  given_last ns y = greatest (given_to plans costs h a y) ns

  -- this entry, which gets a moment this late, and how many it waits for then
  abbrev given_entry : ℕ → ℕ → OpState → OpState
  given_entry n left e = record e { times = given_times n e.times; link = record e.link { unmet = left } }

  -- the entry of y, after the first of those entries are given theirs, and before the rest are
  abbrev pub entry_so_far : List Need → List Need → OpId → OpState
  entry_so_far done rest y =
      given_entry (given_last done y) (unmet_left rest y) (entry_then plans costs h a y)

  -- what another operation awaits, before it is given its moments: what is known since, where it had started, and else what it did
  abbrev pub awaited_then : OpId → Option ℕ
  awaited_then x = if has_started plans x (plain h) then awaited_known plans costs (a ∷ h) x else awaited_known plans costs h x

  -- what is known of x since, except for what it awaits and how many moments it waits for
  abbrev entry_with : OpId → Option ℕ → ℕ → OpState
  entry_with x o n =
      record (entry_known plans costs (a ∷ h) x) { times = record (times_known plans costs (a ∷ h) x) { awaited = o }; link = record (link_known plans costs (a ∷ h) x) { unmet = n } }

  -- the entry of the action's operation before those moments are given, and that of another
  abbrev own_then : OpId → OpState
  own_then x = entry_with x (awaited_known plans costs (a ∷ h) x) (unmet plans costs h x)

  abbrev other_then : OpId → OpState
  other_then x = entry_with x (awaited_then x) (unmet plans costs h x)

  entry_then_of_own_op : (y : OpId) → y ≡ a.op → entry_then plans costs h a y ≡ own_then y
  entry_then_of_own_op y e = with_entry_same a.op (own_then a.op) other_then y e ∙ ap own_then (sym e)

  entry_then_of_other_op : (y : OpId) → same_op y a.op ≡ false → entry_then plans costs h a y ≡ other_then y
  entry_then_of_other_op y d = with_entry_other a.op (own_then a.op) other_then y d

  -- before that it waits for as many as before the action
  unmet_then : (y : OpId) → (entry_then plans costs h a y).link.unmet ≡ unmet plans costs h y
  unmet_then y =
      elim (same_or_different_op y a.op) [ inl e ↦ ap (λ (d : OpState). d.link.unmet) (entry_then_of_own_op y e) | inr d ↦ ap (λ (d : OpState). d.link.unmet) (entry_then_of_other_op y d) ]

  -- the moment of the action's operation
  known_moment : (w : When) → moment_in (times_known plans costs (a ∷ h) a.op) w ≡ (if there_now plans costs h a w a.op then Some (met_at plans costs (a ∷ h) w a.op) else None)
  known_moment AfterEnd = refl
  known_moment AfterStart = refl

  pub moment_there : (w : When) (m : ℕ) → moment_in (times_known plans costs (a ∷ h) a.op) w ≡ Some m → (there_now plans costs h a w a.op ≡ true) × (m ≡ met_at plans costs (a ∷ h) w a.op)
  moment_there w m e = go (there_now plans costs h a w a.op) (sym (known_moment w) ∙ e)
    where
      go : (b : Bool) → (if b then Some (met_at plans costs (a ∷ h) w a.op) else None) ≡ Some m → (b ≡ true) × (m ≡ met_at plans costs (a ∷ h) w a.op)
      go true e = (refl, cc)
      go false e = absurd (cc)

  pub moment_absent : (w : When) → ((m : ℕ) → moment_in (times_known plans costs (a ∷ h) a.op) w ≡ Some m → ⊥) → there_now plans costs h a w a.op ≡ false
  moment_absent w none = go (there_now plans costs h a w a.op) (known_moment w)
    where
      go : (b : Bool) → moment_in (times_known plans costs (a ∷ h) a.op) w ≡ (if b then Some (met_at plans costs (a ∷ h) w a.op) else None) → b ≡ false
      go true e = absurd (none _ e)
      go false e = refl

  -- one more entry, which is given no moment
  module _ (d : Need) (none : is_given plans costs h a d.when ≡ false) where
    names_no_one : (y : OpId) → names plans costs h a y d ≡ false
    names_no_one y = and_right _ _ none

    unmet_passed : (rest : List Need) (y : OpId) → unmet_left (d ∷ rest) y ≡ unmet_left rest y
    unmet_passed rest y =
        let one : one_if (names plans costs h a y d) ≡ 0 = ap one_if (names_no_one y) in
        omega (arith, count-cons (names plans costs h a y) d rest, one)

    last_passed : (done : List Need) (y : OpId) → given_last (done ++ (d ∷ [])) y ≡ given_last done y
    last_passed done y =
        let one : given_to plans costs h a y d ≡ 0 = cond-false _ _ _ (names_no_one y) in
        omega (arith, greatest_push (given_to plans costs h a y) done d, one)

    pub entry_passed : (done rest : List Need) (y : OpId) → entry_so_far (done ++ (d ∷ [])) rest y ≡ entry_so_far done (d ∷ rest) y
    entry_passed done rest y =
        ap₂ (λ (n left : ℕ). given_entry n left (entry_then plans costs h a y)) (last_passed done y) (sym (unmet_passed rest y))

  -- one more entry, which is given its moment
  module _ (d : Need) (given : is_given plans costs h a d.when ≡ true) where
    abbrev later : OpId
    later = needed a.op d

    names_it : names plans costs h a later d ≡ true
    names_it = ap₂ (λ (b c : Bool). b && c) (same_op_itself later) given

    names_no_other : (y : OpId) → same_op later y ≡ false → names plans costs h a y d ≡ false
    names_no_other y e = and_left _ _ e

    counts_it : (rest : List Need) → unmet_left (d ∷ rest) later ≡ unmet_left rest later + 1
    counts_it rest =
        let one : one_if (names plans costs h a later d) ≡ 1 = ap one_if names_it in
        omega (arith, count-cons (names plans costs h a later) d rest, one)

    counts_no_other : (x : OpId) → same_op later x ≡ false → (rest : List Need) → unmet_left (d ∷ rest) x ≡ unmet_left rest x
    counts_no_other x e rest =
        let one : one_if (names plans costs h a x d) ≡ 0 = ap one_if (names_no_other x e) in
        omega (arith, count-cons (names plans costs h a x) d rest, one)

    pub some_left : (rest : List Need) → 0 < unmet_left (d ∷ rest) later
    some_left rest = omega (arith, counts_it rest)

    pub entry_given : (m : ℕ) → m ≡ met_at plans costs (a ∷ h) d.when a.op → (done rest : List Need) (y : OpId) → with_given later m (entry_so_far done (d ∷ rest)) y ≡ entry_so_far (done ++ (d ∷ [])) rest y
    entry_given m is done rest y = entry_written later _ (entry_so_far done (d ∷ rest)) (entry_so_far (done ++ (d ∷ [])) rest) here others y
      where
        moment : given_to plans costs h a later d ≡ m
        moment = cond-true _ _ _ names_it ∙ sym is

        times : given_times (given_last (done ++ (d ∷ [])) later) (entry_then plans costs h a later).times ≡ given_times m (given_times (given_last done later) (entry_then plans costs h a later).times)
        times =
            sym (given_twice (entry_then plans costs h a later).times (given_last done later) m (given_last (done ++ (d ∷ [])) later) (omega (arith, greatest_push (given_to plans costs h a later) done d, moment)))

        left : unmet_left rest later ≡ unmet_left (d ∷ rest) later - 1
        left = omega (arith, counts_it rest)

        here : entry_so_far (done ++ (d ∷ [])) rest later ≡ record (entry_so_far done (d ∷ rest) later) { times = given_times m (entry_so_far done (d ∷ rest) later).times; link = record (entry_so_far done (d ∷ rest) later).link { unmet = (entry_so_far done (d ∷ rest) later).link.unmet - 1 } }
        here =
            ap₂ (λ (t : Times) (n : ℕ). record (entry_then plans costs h a later) { times = t; link = record (entry_then plans costs h a later).link { unmet = n } }) times left

        others : (x : OpId) → same_op later x ≡ false → entry_so_far (done ++ (d ∷ [])) rest x ≡ entry_so_far done (d ∷ rest) x
        others x e =
            let one : given_to plans costs h a x d ≡ 0 = cond-false _ _ _ (names_no_other x e) in
            let last : given_last (done ++ (d ∷ [])) x ≡ given_last done x = omega (arith, greatest_push (given_to plans costs h a x) done d, one) in
            ap₂ (λ (n left : ℕ). given_entry n left (entry_then plans costs h a x)) last (sym (counts_no_other x e rest))

  module _ (run : IsRun plans costs h) (p : Possible plans costs h a) where
    -- the moment is within the budget
    pub moment_fits : (w : When) → there_now plans costs h a w a.op ≡ true → met_at plans costs (a ∷ h) w a.op ≤ budget plans costs
    moment_fits AfterEnd t = (within_budget plans costs (a ∷ h) (run_is_each_possible plans costs h run, p)).ends a.op t
    moment_fits AfterStart t = (within_budget plans costs (a ∷ h) (run_is_each_possible plans costs h run, p)).starts a.op

    module _ (ws : List Need) (whom : a.class ≢ Arrive → ws ≡ waiting_on plans a.op) (y : OpId) where
      -- before the first entry
      pub entry_first : entry_then plans costs h a y ≡ entry_so_far [] ws y
      entry_first =
          let times = sym (given_none (entry_then plans costs h a y).times (given_last [] y) (greatest_none (given_to plans costs h a y))) in
          let left = unmet_then y ∙ counted_those plans costs h a run p y ws whom in
          ap₂ (λ (t : Times) (n : ℕ). record (entry_then plans costs h a y) { times = t; link = record (entry_then plans costs h a y).link { unmet = n } }) times left

      -- what has started is given none
      started_given_none : has_started plans y (plain (a ∷ h)) ≡ true → given_last ws y ≡ 0
      started_given_none t =
          let none : unmet plans costs h y ≡ 0 = none_unmet plans costs h y (started_was_ready plans costs h a run p y t) in
          greatest_uncounted (names plans costs h a y) (λ (d : Need). met_at plans costs (a ∷ h) d.when a.op) ws (omega (arith, none, counted_those plans costs h a run p y ws whom))

      -- what its entry awaits, of the action's operation, and of another
      own_awaited : raised (given_last ws y) (awaited_known plans costs (a ∷ h) y) ≡ awaited_known plans costs (a ∷ h) y
      own_awaited =
          elim (cases_Bool (has_started plans y (plain (a ∷ h)))) [ inl t ↦ raised_none _ _ (started_given_none t) | inr f ↦ unstarted f ]
        where
          unstarted : has_started plans y (plain (a ∷ h)) ≡ false → raised (given_last ws y) (awaited_known plans costs (a ∷ h) y) ≡ awaited_known plans costs (a ∷ h) y
          unstarted f =
              let is : awaited_known plans costs (a ∷ h) y ≡ Some (last_given plans costs (a ∷ h) y) = cond-false _ _ _ f in
              let same : max (last_given plans costs (a ∷ h) y) (given_last ws y) ≡ last_given plans costs (a ∷ h) y = omega (arith, last_those plans costs h a run p y ws whom) in
              ap (raised (given_last ws y)) is ∙ ap Some same ∙ sym is

      other_awaited : same_op a.op y ≡ false → raised (given_last ws y) (awaited_then y) ≡ awaited_known plans costs (a ∷ h) y
      other_awaited d =
          elim (cases_Bool (has_started plans y (plain h))) [ inl t ↦ ap (raised (given_last ws y)) (cond-true _ _ _ t) ∙ raised_none _ _ (started_given_none (as_before ∙ t)) | inr f ↦ ap (raised (given_last ws y)) (cond-false _ _ _ f ∙ cond-false _ _ _ f) ∙ ap Some (sym (last_those plans costs h a run p y ws whom)) ∙ sym (cond-false _ _ _ (as_before ∙ f)) ]
        where
          as_before : has_started plans y (plain (a ∷ h)) ≡ has_started plans y (plain h)
          as_before =
              happened_kept_by_other_action plans costs h a (first_class (kind_at plans y)) y (newest_is_not_act_of_other_op plans costs h a (first_class (kind_at plans y)) y d)

      -- after the last entry
      pub entry_last : entry_so_far ws [] y ≡ entry_known plans costs (a ∷ h) y
      entry_last = elim (same_or_different_op y a.op) [ inl e ↦ own e | inr d ↦ other d ]
        where
          given : OpState → OpState
          given = given_entry (given_last ws y) (unmet_left [] y)

          left : unmet_left [] y ≡ unmet plans costs (a ∷ h) y
          left = omega arith

          own : y ≡ a.op → entry_so_far ws [] y ≡ entry_known plans costs (a ∷ h) y
          own e = ap given (entry_then_of_own_op y e) ∙ ap₂ (entry_with y) own_awaited left

          other : same_op y a.op ≡ false → entry_so_far ws [] y ≡ entry_known plans costs (a ∷ h) y
          other d =
              ap given (entry_then_of_other_op y d) ∙ ap₂ (entry_with y) (other_awaited (same_op_swapped y a.op d)) left
