use Rattle.std.proofs.Common.{arith, ◌≡◌, ◌++◌, take}
use Rattle.std.proofs.lemmas.Grind.{common_steps}
use Rattle.sim_timeline.specs.Timeline.{operation_line}
use Rattle.sim_timeline.proofs.TimelineLemmas.{operation_line_is_line_of}
use Rattle.sim_timeline.proofs.lines.put_operation.Goals as goal

pub returns-clause-text : goal.returns-clause-text
returns-clause-text g c =
    let engine = c.args.engine.now in
    let times = c.record-times.result in
    let line = operation_line_is_line_of engine.plans (g.C.Costs.model engine.costs) engine.history c.args.id c.op.result.now (rw c.sched.ensures at c.op.ensures.op) in
    let text : take c.put_word.result c.put_word.new.line ≡ take c.args.at c.args.line.now ++ operation_line c.args.id c.op.result.now.kind times.start times.end times.partner = grind (arith, common_steps) in
    rw (c.record-times.ensures.start, c.record-times.ensures.end, c.record-times.ensures.partner, line) at text
