-- Runs of certified schedules are right, and the schedules that `gen` prints are right, and certified.
use Rattle.std.proofs.Common.{ℕ, ◌≤◌, ◌≡◌, List, length, sym, subst}
use Rattle.goal_limits.specs.declared.limits.TheConstants.{MAX_BYTES}
use Rattle.goal_graph.specs.declared.action.Timed.{Timed}
use Rattle.goal_graph.specs.Schedule.{Plan}
use Rattle.goal_graph.specs.Action.{plain}
use Rattle.goal_limits.specs.declared.collective.Collective.{Collective}
use Rattle.goal_blocks.specs.Collectives.{initial, wanted}
use Rattle.goal_blocks.specs.Right.{IsRight, IsRightFor, IsCertifiedByProof}
use Rattle.goal_blocks.specs.Certified.{IsCertifiedFor}
use Rattle.goal_blocks.proofs.ForCallers.{certified_right, made_certified, made_right_at_any_weight}
use Rattle.sim_params.specs.Costs.{CostModel, is_eager}
use Rattle.sim_params.specs.Run.{IsCompleteRun}
use Rattle.sim_params.proofs.ForCallers.{complete_interleaving}
use Rattle.goal_parser.specs.Reads as text
use Rattle.goal_print.specs.Canonical.{canonical}
use Rattle.goal_words.specs.Words.{Gen}
use Rattle.goal_cli.specs.declared.answer.Ending.{Ending}
use Rattle.goal_cli.specs.Output.{Input, IsOutput}

pub runs_are_right : (what : Collective) (plans : List Plan) (costs : CostModel) (history : List Timed) → IsCertifiedFor what plans → IsCompleteRun plans costs history → IsRight plans (initial what (length plans)) (wanted what (length plans)) (is_eager plans costs) (plain history)
runs_are_right what plans costs history certified complete =
    certified_right plans (initial what (length plans)) (wanted what (length plans)) certified (is_eager plans costs) (plain history) (complete_interleaving plans costs history complete)

pub generated_certified : (what : Collective) (ranks bytes : ℕ) (input : Input) (output : List ℕ) (e : Ending) → bytes ≤ MAX_BYTES → IsOutput (Gen what ranks bytes) input output e → (sched : List Plan) × (output ≡ canonical sched) × (text.reads output ≡ text.plans sched) × IsRightFor what sched × (IsCertifiedByProof what ranks → IsCertifiedFor what sched)
generated_certified what ranks bytes input output e small is =
    let from = is.has.from in (
      is.sched,
      is.shown.0.shown,
      is.shown.0.read_back,
      subst (λ (ps : List Plan). IsRightFor what ps) (sym from.made) (made_right_at_any_weight what ranks bytes from.possible small),
      λ proved. subst (λ (ps : List Plan). IsCertifiedFor what ps) (sym from.made) (made_certified what ranks bytes from.possible small proved),
    )
