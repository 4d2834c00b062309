use Rattle.std.proofs.Common.{◌≤◌, ◌∙◌, length, ap, ap₂, arith, refl}
use Rattle.std.proofs.lemmas.List.{map_push, take_more}
use Rattle.goal_limits.specs.declared.limits.TheConstants.{MAX_DEPS}
use Rattle.goal_graph.specs.declared.action.OpId.{OpId}
use Rattle.goal_graph.specs.Schedule.{needs}
use Rattle.goal_graph.proofs.ForCallers.{few_needs}
use Rattle.sim_state.specs.Tables.{fresh_entry}
use Rattle.sim_state.proofs.Empty.{nothing_known}
use Rattle.sim_state.proofs.entry.first_entries.Goals as goal

pub overflow_cast-unmet : goal.overflow_cast-unmet
overflow_cast-unmet g c =
    let few : (x : OpId) → length (needs c.args.sched.now x) ≤ MAX_DEPS = λ x. few_needs c.args.sched.now x c.plans-plans.ensures.counts in
    omega (arith, few, ap length c.needs.ensures.needs)

pub loop-id-preserved : goal.loop-id-preserved
loop-id-preserved g c = record {
  told = rw (c.push_reserved.ensures.items, c.loop-id.invariant.told, c.first.ensures ∙ ap₂ fresh_entry c.work_of.ensures (ap length c.needs.ensures.needs) ∙ nothing_known _ _ _, take_more c.operations-id-items.result.now c.loop-id.id-index (record { rank = 0; op = 0 }) (omega arith), map_push) refl;
  count = omega (arith, c.push_reserved.ensures.len, c.loop-id.invariant.count);
  room = omega (arith, c.push_reserved.ensures.capacity, c.loop-id.invariant.room);
}
