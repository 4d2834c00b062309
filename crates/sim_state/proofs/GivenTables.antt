-- How the tables of all operations change as one entry of the waiting list is given its time.
use Rattle.std.proofs.Common.{◌≡◌, ◌≢◌, ◌+◌, ◌<◌, ℕ, Bool, true, false, List, [], ◌∷◌, map, count_by, length, get_or, take, drop, inl, inr, sym, ap, ◌∙◌, arith}
use Rattle.std.proofs.lemmas.List.{drop_more, take_more}
use Rattle.std.proofs.lemmas.List.Sums.{count_by_more_no, count_by_more_yes}
use Rattle.goal_graph.specs.declared.action.OpId.{OpId}
use Rattle.goal_graph.specs.declared.action.Timed.{Timed}
use Rattle.goal_graph.specs.declared.action.Class.{Class}
use Rattle.goal_graph.specs.declared.action.Class.TheVariants.{Arrive}
use Rattle.goal_graph.specs.declared.plan.Need.{Need}
use Rattle.goal_graph.specs.Schedule.{Plan, needed, operations}
use Rattle.goal_graph.specs.Concerned.{waiting_on}
use Rattle.sim_params.specs.Costs.{CostModel}
use Rattle.sim_params.specs.Times.{met_at, Possible}
use Rattle.sim_params.specs.Run.{IsRun}
use Rattle.sim_state.specs.declared.entry.OpState.{OpState}
use Rattle.sim_state.specs.Awaited.{gives, given_by}
use Rattle.sim_state.specs.Given.{with_given, IsWaiting}
use Rattle.sim_state.specs.Represents.{entry_known, entry_then}
use Rattle.sim_state.proofs.GivenCounts.{cases_arrive, count_zero}
use Rattle.sim_state.proofs.GivenEntries.{entry_first, entry_given, entry_last, entry_passed, entry_so_far, some_left}
use Rattle.sim_state.proofs.GivenMoments.{gives_none, is_given}

-- an action of that class may give an entry its moment
abbrev pub may_give : Class → Need → Bool
may_give c d = gives c d.when

module _ (plans : List Plan) (costs : CostModel) (h : List Timed) (a : Timed) where
  abbrev entries_so_far : List Need → List Need → List OpState
  entries_so_far done rest = map (entry_so_far plans costs h a done rest) (operations plans)

  module _ (ws : List Need) (k : ℕ) (nothing : Need) (within : k < length ws) where
    abbrev next : Need
    next = get_or ws k nothing

    -- how many moments may be given
    pub passed_counted : (m n : ℕ) → gives a.class next.when ≡ false → m ≡ n + count_by (may_give a.class) (take k ws) → m ≡ n + count_by (may_give a.class) (take (k + 1) ws)
    passed_counted m n e l = omega (arith, l, count_by_more_no (may_give a.class) ws k nothing within e)

    pub given_counted : (m n l : ℕ) → gives a.class next.when ≡ true → m ≡ n + count_by (may_give a.class) (take k ws) → l ≡ m + 1 → l ≡ n + count_by (may_give a.class) (take (k + 1) ws)
    given_counted m n l e f g = omega (arith, f, g, count_by_more_yes (may_give a.class) ws k nothing within e)

    -- an entry that is given none
    pub passed_entries : (es : List OpState) → is_given plans costs h a next.when ≡ false → es ≡ entries_so_far (take k ws) (drop k ws) → es ≡ entries_so_far (take (k + 1) ws) (drop (k + 1) ws)
    passed_entries es none table =
        table ∙ ap (entries_so_far (take k ws)) (drop_more ws k nothing within) ∙ sym (λ i. map (λ (y : OpId). entry_passed plans costs h a next none (take k ws) (drop (k + 1) ws) y i) (operations plans)) ∙ sym (ap (λ (done : List Need). entries_so_far done (drop (k + 1) ws)) (take_more ws k nothing within))

    -- an entry that is given its moment
    module _ (given : is_given plans costs h a next.when ≡ true) (es : List OpState) (table : es ≡ entries_so_far (take k ws) (drop k ws)) where
      abbrev later : OpId
      later = needed a.op next

      abbrev before : OpId → OpState
      before = entry_so_far plans costs h a (take k ws) (next ∷ drop (k + 1) ws)

      pub entries_before : es ≡ map before (operations plans)
      entries_before = table ∙ ap (entries_so_far (take k ws)) (drop_more ws k nothing within)

      pub still_waiting : IsWaiting plans es later
      still_waiting = (before, entries_before, some_left plans costs h a next given (drop (k + 1) ws))

      pub given_entries : (new : List OpState) (m : ℕ) → m ≡ met_at plans costs (a ∷ h) next.when a.op → ((f : OpId → OpState) → es ≡ map f (operations plans) → new ≡ map (with_given later m f) (operations plans)) → new ≡ entries_so_far (take (k + 1) ws) (drop (k + 1) ws)
      given_entries new m is written =
          written before entries_before ∙ (λ j. map (λ (y : OpId). entry_given plans costs h a next given m is (take k ws) (drop (k + 1) ws) y j) (operations plans)) ∙ sym (ap (λ (done : List Need). entries_so_far done (drop (k + 1) ws)) (take_more ws k nothing within))

  -- how many may be given in all
  module _ (ws : List Need) (whom : a.class ≢ Arrive → ws ≡ waiting_on plans a.op) where
    pub given_in_all : count_by (may_give a.class) ws ≡ given_by plans a
    given_in_all =
        elim (cases_arrive a.class) [ inl e ↦ omega (arith, count_zero (may_give a.class) ws (λ d. gives_none a.class d.when e), count_zero (may_give a.class) (waiting_on plans a.op) (λ d. gives_none a.class d.when e)) | inr d ↦ omega (arith, ap (count_by (may_give a.class)) (whom d)) ]

    module _ (run : IsRun plans costs h) (p : Possible plans costs h a) where
      -- before the first
      pub first_entries : (es : List OpState) → es ≡ map (entry_then plans costs h a) (operations plans) → es ≡ entries_so_far [] ws
      first_entries es table =
          table ∙ (λ i. map (λ (y : OpId). entry_first plans costs h a run p ws whom y i) (operations plans))

      -- after the last
      pub last_entries : (es : List OpState) → es ≡ entries_so_far ws [] → es ≡ map (entry_known plans costs (a ∷ h)) (operations plans)
      last_entries es table =
          table ∙ (λ i. map (λ (y : OpId). entry_last plans costs h a run p ws whom y i) (operations plans))
