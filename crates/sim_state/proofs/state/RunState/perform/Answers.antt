use Rattle.std.proofs.Common.{◌≡◌, ◌≢◌, ◌++◌, All, drop, length, take, sym, ap, subst, ◌∙◌}
use Rattle.goal_graph.specs.declared.action.Class.TheVariants.{Arrive}
use Rattle.goal_graph.specs.declared.plan.Need.{Need}
use Rattle.goal_graph.specs.Schedule.{needed}
use Rattle.goal_graph.specs.Concerned.{waiting_on}
use Rattle.goal_graph.specs.Fault.{IsOp}
use Rattle.sim_state.specs.Engine.{RunSoFar}
use Rattle.sim_state.specs.Represents.{entry_known}
use Rattle.sim_state.proofs.Performed.{next_in_equal_view, written_back, each_entry, room_left, change_moments, performed, is_op, time_fits}
use Rattle.sim_state.proofs.state.RunState.perform.Goals as goal

pub change_of-change-requires : goal.change_of-change-requires
change_of-change-requires g c =
    let m = c.self.invariant in
    record {
      run = m.run;
      within = m.within;
      known = c.deref.ensures.value ∙ m.known;
      told = m.posts_and_arrivals;
      free = m.free;
      next = next_in_equal_view g.C.Costs.model _ _ c.args.action c.self.view_is c.requires.next;
    }

pub write_change-requires : goal.write_change-requires
write_change-requires g c =
    let next = next_in_equal_view g.C.Costs.model _ _ c.args.action c.self.view_is c.requires.next in
    record {
      exists = is_op _ _ _ _ _ _ _ c.self.invariant c.args.action next;
      other = c.change_of-change.ensures.change.exists;
      fits = time_fits _ _ _ _ _ _ _ c.self.invariant c.args.action next;
      each = each_entry _ _ _ _ _ _ _ c.self.invariant _ c.deref_mut.ensures.value;
    }

pub give-requires : goal.give-requires
give-requires g c =
    let next = next_in_equal_view g.C.Costs.model _ _ c.args.action c.self.view_is c.requires.next in
    let m = c.self.invariant in
    record {
      run = m.run;
      within = m.within;
      next = next;
      times = change_moments _ _ _ _ _ _ _ m c.args.action next c.change_of-change.result c.change_of-change.ensures.change;
      whom = subst (λ (v : RunSoFar _). c.args.action.class ≢ Arrive → c.args.waiting.now ≡ waiting_on v.plans c.args.action.op) (sym c.self.view_is) c.requires.whom;
      exist = subst (λ (v : RunSoFar _). c.args.action.class ≢ Arrive → All (λ (need : Need). IsOp v.plans (needed c.args.action.op need)) c.args.waiting.now) (sym c.self.view_is) c.requires.exist;
      entries = c.deref_mut-2.ensures.value ∙ written_back _ _ _ _ c.write_change.auto.entries c.deref_mut.ensures.value c.self.inside.entries.ok.0 ∙ c.write_change.ensures (entry_known c.self.inside.sched.now (g.C.Costs.model c.self.inside.costs) (g.H.History.actions c.self.inside.history)) (c.deref_mut.ensures.value ∙ m.known) ∙ c.change_of-change.ensures.change.known;
    }

pub push-requires : goal.push-requires
push-requires g c =
    record { room = room_left _ _ _ _ _ _ _ c.self.invariant c.args.action (next_in_equal_view g.C.Costs.model _ _ c.args.action c.self.view_is c.requires.next) }

pub invariant_of-self : goal.invariant_of-self
invariant_of-self g c =
    let next = next_in_equal_view g.C.Costs.model _ _ c.args.action c.self.view_is c.requires.next in
    let count = c.self.inside.entries.len in
    let items = c.self.inside.entries.items in
    let changed = c.write_change.new.entries in
    let first : take count (changed ++ drop (length changed) items) ≡ changed = written_back count changed _ items c.write_change.auto.entries c.deref_mut.ensures.value c.self.inside.entries.ok.0 in
    let table : take count (c.give.new.entries ++ drop (length c.give.new.entries) (take count (changed ++ drop (length changed) items))) ≡ c.give.new.entries = written_back count c.give.new.entries _ _ c.give.auto.entries c.deref_mut-2.ensures.value (c.self.inside.entries.ok.0 ∙ sym (ap length (first) ∙ c.write_change.auto.entries ∙ ap length c.deref_mut.ensures.value)) in
    performed _ _ _ _ _ _ _ c.self.invariant c.args.action next _ c.push.ensures.pushed _ (table ∙ c.give.ensures.entries) _ c.change_of-change.ensures.told _ c.change_of-change.ensures.free _ c.push.ensures.roomy
