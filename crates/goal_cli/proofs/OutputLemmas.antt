-- The output is a function of the schedule and the parameters.
use Rattle.std.proofs.Common.{◌≡◌, ℕ, ◌<◌, List, length, Option, Some, None, inl, inr, sym, ap, ◌∙◌, subst}
use Rattle.std.specs.declared.result.Result.TheVariants.{Ok}
use Rattle.goal_graph.specs.Schedule.{Plan}
use Rattle.sim_params.specs.Costs.{Numbers, CostModel, log_gops}
use Rattle.sim_classes.specs.Machine.{MachineModel, numbers_of, costs_of}
use Rattle.sim_classes.specs.Form as form
use Rattle.sim_classes.specs.Laws.{ReadIsWhole, AlikeIsLogGops}
use Rattle.goal_limits.specs.declared.collective.Collective.{Collective}
use Rattle.goal_blocks.specs.Laws.{FaultExcludesCertified, OneFirstFault}
use Rattle.goal_words.specs.declared.request.View.{View}
use Rattle.goal_words.specs.declared.request.View.TheVariants as view
use Rattle.goal_words.specs.declared.request.RunView.{RunView}
use Rattle.goal_words.specs.Words.{Command, Sim, Nodes, Compile, Pricing, ByNumbers, ByMachine, Unpriced}
use Rattle.goal_views.proofs.ForCallers.{shown_run_is_unique}
use Rattle.goal_cli.specs.Verdict.{faulty_text, IsVerdictOn}
use Rattle.goal_input.specs.Input.{IsReadAs}
use Rattle.goal_cli.specs.declared.answer.Ending.{Ending}
use Rattle.goal_cli.specs.Output.{Input, IsCosted, IsRunShown, IsShownAs, ending_if, IsOutput}
use Rattle.goal_cli.specs.Laws.{IsSameMachine, SaysSame}
use Rattle.goal_input.proofs.ForCallers.{same_schedule}
use Rattle.goal_cli.proofs.RefusalLemmas.{one_machine, same_source}

-- the costs of two texts with the same machine
same_costing : (p : Pricing) (text again : List ℕ) (sched : List Plan) (k j : Option CostModel) → SaysSame p text again
    → IsCosted p text sched k → IsCosted p again sched j → k ≡ j
same_costing (ByNumbers numbers) text again sched k j same a b = a ∙ sym b
same_costing (ByMachine name) text again sched k j same a b =
    a.2 ∙ ap (λ (m : MachineModel). Some (costs_of m)) (one_machine text _ _ a.1.said (same ∙ b.1.said)) ∙ sym b.2
same_costing Unpriced text again sched k j same a b = a ∙ sym b

-- a schedule has one verdict
module _ (excludes : FaultExcludesCertified) (single : OneFirstFault) where
  one_verdict : (what : Collective) (sched : List Plan) (one other : List ℕ) (e d : Ending) → IsVerdictOn what sched one e
      → IsVerdictOn what sched other d → (one ≡ other) × (e ≡ d)
  one_verdict what sched one other e d (inl a) (inl b) = (a.1 ∙ sym b.1, a.2 ∙ sym b.2)
  one_verdict what sched one other e d (inl a) (inr b) = absurd (excludes sched _ _ b.0 b.1.has a.0)
  one_verdict what sched one other e d (inr a) (inl b) = absurd (excludes sched _ _ a.0 a.1.has b.0)
  one_verdict what sched one other e d (inr a) (inr b) =
      let same = single sched _ _ a.0 b.0 a.1 b.1 in
      (a.2 ∙ ap faulty_text same ∙ sym b.2, a.3 ∙ sym b.3)

  one_run : (how : RunView) (costs : CostModel) (sched : List Plan) (one other : List ℕ) (e d : Ending) → IsRunShown how costs sched one e
      → IsRunShown how costs sched other d → (one ≡ other) × (e ≡ d)
  one_run how costs sched one other e d a b =
      let same = shown_run_is_unique how costs sched one other a.stuck b.stuck a.run b.run in
      (same.0, a.ends ∙ ap ending_if same.1 ∙ sym b.ends)

  -- a view shows one text
  one_view : (v : View) (costs : Option CostModel) (sched : List Plan) (one other : List ℕ) (e d : Ending) → IsShownAs v costs sched one e
      → IsShownAs v costs sched other d → (one ≡ other) × (e ≡ d)
  one_view (view.Run how) None sched one other e d a b = absurd a
  one_view (view.Run how) (Some k) sched one other e d a b = one_run how k sched one other e d a b
  one_view view.Text costs sched one other e d a b = (a.0.shown ∙ sym b.0.shown, a.1 ∙ sym b.1)
  one_view (view.File name) costs sched one other e d a b = (a.0.compiled ∙ sym b.0.compiled, a.1 ∙ sym b.1)
  one_view (view.Verdict what) costs sched one other e d a b = one_verdict what sched one other e d a b

  pub same_output : (c : Command) (input again : Input) (sched : List Plan) (one other : List ℕ) (e d : Ending) → IsReadAs input.schedule sched
      → IsReadAs again.schedule sched → IsSameMachine c input again → IsOutput c input one e → IsOutput c again other d
      → (one ≡ other) × (e ≡ d)
  same_output c input again sched one other e d r s machine a b =
      let plans = same_source c.source input.schedule again.schedule sched a.sched b.sched r s a.has.from b.has.from in
      let costed = subst (λ (ps : List Plan). IsCosted c.costs input.machine ps a.has.costs) plans a.has.costed in
      let costs = same_costing c.costs input.machine again.machine b.sched a.has.costs b.has.costs machine costed b.has.costed in
      one_view c.view b.has.costs b.sched one other e d
      (subst (λ (k : Option CostModel). IsShownAs c.view k b.sched one e) costs (subst (λ (ps : List Plan). IsShownAs c.view a.has.costs ps one e) plans a.shown))
      b.shown

-- the compiled file of a schedule means the schedule
pub compiled_again : (name out : List ℕ) (input : Input) (output : List ℕ) (e : Ending) (sched : List Plan) → IsReadAs input.schedule sched
    → IsOutput (Compile name out) input output e → IsReadAs output sched
compiled_again name out input output e sched read is =
    subst (λ (ps : List Plan). IsReadAs output ps) (same_schedule input.schedule is.sched sched is.has.from read) is.shown.0.again

-- on a machine whose classes have equal numbers, the output is that of `sim`
module _ (whole : ReadIsWhole) (alike : AlikeIsLogGops) where
  costs_of_text_with_equal_classes : (text : List ℕ) (k m : MachineModel) (p : Numbers) → form.machine text ≡ Ok k → form.machine text ≡ Ok m
      → ((class : ℕ) → class < length m.classes → numbers_of m class ≡ p) → costs_of k ≡ log_gops p
  costs_of_text_with_equal_classes text k m p a b same =
      ap costs_of (one_machine text k m a b) ∙ alike m p (whole text m b) same

  pub nodes_output_is_sim_output : (name text : List ℕ) (input : Input) (m : MachineModel) (p : Numbers) (output : List ℕ) (e : Ending)
      → form.machine input.machine ≡ Ok m → ((class : ℕ) → class < length m.classes → numbers_of m class ≡ p)
      → IsOutput (Nodes name text) input output e → IsOutput (Sim name p) input output e
  nodes_output_is_sim_output name text input m p output e said same a =
      let costs = costs_of_text_with_equal_classes input.machine a.has.costed.0 m p a.has.costed.1.said said same in
      record {
        sched = a.sched;
        has = record {
          from = a.has.from;
          costs = a.has.costs;
          costed = a.has.costed.2 ∙ ap (λ (k : CostModel). Some k) costs;
          fits = a.has.fits;
        };
        shown = a.shown;
      }
