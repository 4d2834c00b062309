-- A run without its times is an interleaving, and what is possible stays so.
use Rattle.std.proofs.Common.{suc, ◌+◌, ◌*◌, ◌<◌, length, ap, arith, ◌≤◌, ◌≡◌, true, false, List, [], ◌∷◌, refl, sym, subst}
use Rattle.std.proofs.lemmas.Bool.{false_from_ne_true}
use Rattle.goal_graph.specs.declared.action.OpId.{OpId}
use Rattle.goal_graph.specs.declared.action.Timed.{Timed}
use Rattle.goal_graph.specs.declared.action.Class.{Class}
use Rattle.goal_graph.specs.Schedule.{Plan, operations}
use Rattle.goal_graph.specs.Action.{is_act, plain, plain_act}
use Rattle.goal_graph.specs.Allowed.{allowed}
use Rattle.goal_graph.specs.Interleaving.{IsInterleaving, IsCompleteInterleaving}
use Rattle.goal_graph.specs.Laws.{left}
use Rattle.goal_graph.proofs.ForCallers.{happened_and_left, left_falls, is_act_class, is_act_op, allowed_stays}
use Rattle.sim_params.specs.Costs.{CostModel, is_eager}
use Rattle.sim_params.specs.Times.{time, Possible}
use Rattle.sim_params.specs.Run.{IsRun, IsCompleteRun}
use Rattle.sim_params.specs.Laws.{at_its_time}
use Rattle.sim_params.proofs.Grow.{time_grows}

module _ (plans : List Plan) (costs : CostModel) where
  -- what is allowed is possible at its time
  pub possible_at : (h : List Timed) (c : Class) (x : OpId) → allowed plans (is_eager plans costs) (plain h) c x ≡ true → Possible plans costs h (at_its_time plans costs h c x)
  possible_at h c x e = record { allowed = e; time = refl }

  -- another action leaves a possible action possible, and its time does not fall
  pub possible_stays : (h : List Timed) (a b : Timed) → Possible plans costs h b → ¬ ((a.class ≡ b.class) × (a.op ≡ b.op)) → Possible plans costs (a ∷ h) (at_its_time plans costs (a ∷ h) b.class b.op) × (b.time ≤ time plans costs (a ∷ h) b.class b.op)
  unfolding plain
  possible_stays h a b p other =
      let e : is_act b.class b.op (plain_act a) ≡ false = false_from_ne_true _ (λ t. other (is_act_class b.class b.op (plain_act a) t, is_act_op b.class b.op (plain_act a) t)) in
      (possible_at (a ∷ h) b.class b.op (allowed_stays plans (is_eager plans costs) (plain_act a) (plain h) b.class b.op e p.allowed), subst (λ n. n ≤ time plans costs (a ∷ h) b.class b.op) (sym p.time) (time_grows plans costs a h b.class b.op))

  -- each action was possible after those before it
  abbrev pub EachPossible : List Timed → Type 0
  EachPossible [] = Unit {0}
  EachPossible (a ∷ h) = EachPossible h × Possible plans costs h a

  pub run_is_each_possible : (h : List Timed) → IsRun plans costs h → EachPossible h
  run_is_each_possible [] r = tt
  run_is_each_possible (a ∷ h) r = (run_is_each_possible h r.0, r.1.possible)

  pub each_possible_is_interleaving : (h : List Timed) → EachPossible h → IsInterleaving plans (is_eager plans costs) (plain h)
  unfolding plain
  each_possible_is_interleaving [] r = tt
  each_possible_is_interleaving (a ∷ h) r = (each_possible_is_interleaving h r.0, r.1.allowed)

  pub run_interleaving : (h : List Timed) → IsRun plans costs h → IsInterleaving plans (is_eager plans costs) (plain h)
  run_interleaving h r = each_possible_is_interleaving h (run_is_each_possible h r)

  pub complete_interleaving : (h : List Timed) → IsCompleteRun plans costs h → IsCompleteInterleaving plans (is_eager plans costs) (plain h)
  complete_interleaving h r = record {
    each = run_interleaving h r.run;
    none_left = λ a. false_from_ne_true _ (λ t. r.finished (at_its_time plans costs h a.class a.op) (possible_at h a.class a.op t));
  }

  pub length-plain : (h : List Timed) → length (plain h) ≡ length h
  unfolding plain
  length-plain [] = refl
  length-plain (a ∷ h) = ap suc (length-plain h)

  -- actions that happened and actions that are left are at most three per operation
  pub run_length : (h : List Timed) → IsRun plans costs h → length h + left plans (plain h) ≤ 3 * length (operations plans)
  run_length h r =
      omega (arith, length-plain h, happened_and_left plans (is_eager plans costs) (plain h) (run_interleaving h r))

  -- so there is room for another possible action
  pub possible_room : (h : List Timed) (a : Timed) → IsRun plans costs h → Possible plans costs h a → length h < 3 * length (operations plans)
  possible_room h a r p =
      omega (arith, run_length h r, left_falls plans (is_eager plans costs) (plain_act a) (plain h) p.allowed)
