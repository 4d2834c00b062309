use Rattle.std.proofs.Common.{◌≤◌, length, arith}
use Rattle.goal_limits.specs.declared.limits.TheConstants.{MAX_INPUT}
use Rattle.goal_binary.specs.declared.layout.Layout.TheVariants.{Packed}
use Rattle.goal_binary.specs.File.{file}
use Rattle.goal_binary.specs.Laws.{IsSchedule}
use Rattle.goal_input.proofs.ForCallers.{file_reads_as_plans, file_bytes_read_as_plans}
use Rattle.goal_cli.proofs.output.compile.Goals as goal

pub returns-clause-again : goal.returns-clause-again
returns-clause-again c =
    let known = c.plans-plans.ensures in
    let files = c.laws_of_files.ensures in
    let plans = c.args.sched.now in
    let schedule : IsSchedule plans = record { accepted = known.accepted; widths = known.widths } in
    let short : length (file plans) ≤ MAX_INPUT = omega (arith, files.no_longer plans (files.schedules_have_files plans schedule), (files.within_input plans known.counts).1) in
    file_bytes_read_as_plans c.encode.result plans c.encode.ensures.file (file_reads_as_plans plans known.accepted short (files.read_again Packed plans schedule))
