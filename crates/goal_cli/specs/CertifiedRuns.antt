-- What certification says about simulated runs, and about generated schedules.
use Rattle.std.specs.Prelude.{ℕ, ◌≡◌, ◌≤◌, List, length}
use Rattle.goal_limits.specs.Limits.{size_limit}
use Rattle.goal_graph.specs.declared.action.Timed.{Timed}
use Rattle.goal_graph.specs.Schedule.{Plan}
use Rattle.goal_graph.specs.Action.{plain}
use Rattle.goal_limits.specs.declared.collective.Collective.{Collective}
use Rattle.goal_blocks.specs.Collectives.{initial, wanted}
use Rattle.goal_blocks.specs.Right.{IsRight, IsRightFor, IsCertifiedByProof}
use Rattle.goal_blocks.specs.Certified.{IsCertifiedFor}
use Rattle.sim_params.specs.Costs.{CostModel, is_eager}
use Rattle.sim_params.specs.Run.{IsCompleteRun}
use Rattle.goal_parser.specs.Reads as text
use Rattle.goal_print.specs.Canonical.{canonical}
use Rattle.goal_words.specs.Words.{Gen}
use Rattle.goal_cli.specs.declared.answer.Ending.{Ending}
use Rattle.goal_cli.specs.Output.{Input, IsOutput}

-- The laws. The function `laws_of_certified_runs` ensures each of them.

-- the complete run of a certified schedule, with any costs and so with any sends eager, ends in the pairs of its
-- channels, and leaves what the collective wants
abbrev pub CertifiedRunsAreRight : Type 0
CertifiedRunsAreRight = (what : Collective) (plans : List Plan) (costs : CostModel) (history : List Timed) → IsCertifiedFor what plans → IsCompleteRun plans costs history → IsRight plans (initial what (length plans)) (wanted what (length plans)) (is_eager plans costs) (plain history)

-- `gen` prints the text of a schedule that is right everywhere, and certified for the numbers of ranks for which that
-- is proved; reading the text gives that schedule back
abbrev pub GeneratedAreCertified : Type 0
GeneratedAreCertified = (what : Collective) (ranks bytes : ℕ) (input : Input) (output : List ℕ) (e : Ending) → bytes ≤ size_limit → IsOutput (Gen what ranks bytes) input output e → (sched : List Plan) × (output ≡ canonical sched) × (text.reads output ≡ text.plans sched) × IsRightFor what sched × (IsCertifiedByProof what ranks → IsCertifiedFor what sched)
