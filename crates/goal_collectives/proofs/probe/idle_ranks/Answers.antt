use Rattle.std.proofs.Common.{◌≡◌, refl}
use Rattle.goal_graph.specs.Schedule.{Plan}
use Rattle.goal_collectives.specs.Probe.{idle, idle_ranks}
use Rattle.goal_collectives.proofs.ProbePlans.{pushed_idle}
use Rattle.goal_collectives.proofs.probe.idle_ranks.Goals as goal

pub loop-rank-init : goal.loop-rank-init
unfolding idle_ranks
loop-rank-init c = c.new-plans.ensures.items

pub loop-rank-preserved : goal.loop-rank-preserved
loop-rank-preserved c =
    let p : Plan = record { ops = c.in_ok-ops.ops.items; deps = c.in_ok-deps.deps.items; notes = c.new-notes.result.items } in
    let none : p ≡ idle = rw (c.in_ok-ops.ensures.items, c.in_ok-deps.ensures.items, c.new-notes.ensures.items) refl in
    pushed_idle c.loop-rank._rank p c.loop-rank.plans.items c.push.new.self.items c.loop-rank.invariant none c.in_ok-push.ensures.items
