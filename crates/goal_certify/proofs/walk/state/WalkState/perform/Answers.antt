use Rattle.std.proofs.Common.{◌∙◌}
use Rattle.goal_certify.specs.WalkSoFar.{act_of, acts, entry_known}
use Rattle.goal_certify.proofs.Places.{allowed_exists}
use Rattle.goal_certify.proofs.Performed.{may_at, entry_is, posts, arrives, fresh, partner_exists, represents_after_performed}
use Rattle.goal_certify.proofs.walk.state.WalkState.perform.Goals as goal

pub entry-entry-requires : goal.entry-entry-requires
entry-entry-requires c = allowed_exists _ _ c.args.action.class c.args.action.op c.requires

pub meet-partner-requires-clause-receive : goal.meet-partner-requires-clause-receive
meet-partner-requires-clause-receive c =
    let may = may_at _ _ c.args.action.class c.args.action.op c.self.view_is c.requires in
    posts _ _ _ _ c.self.invariant (act_of c.args.action) may

pub meet-partner-requires-clause-send : goal.meet-partner-requires-clause-send
meet-partner-requires-clause-send c =
    let may = may_at _ _ c.args.action.class c.args.action.op c.self.view_is c.requires in
    arrives _ _ _ _ c.self.invariant (act_of c.args.action) may

pub meet-partner-requires-clause-fresh : goal.meet-partner-requires-clause-fresh
meet-partner-requires-clause-fresh c =
    let may = may_at _ _ c.args.action.class c.args.action.op c.self.view_is c.requires in
    fresh _ _ _ _ c.self.invariant (act_of c.args.action) may

pub write_met-requires-clause-exists : goal.write_met-requires-clause-exists
write_met-requires-clause-exists c =
    let may = may_at _ _ c.args.action.class c.args.action.op c.self.view_is c.requires in
    allowed_exists _ _ c.args.action.class c.args.action.op may

pub write_met-requires-clause-other : goal.write_met-requires-clause-other
write_met-requires-clause-other c =
    let may = may_at _ _ c.args.action.class c.args.action.op c.self.view_is c.requires in
    partner_exists _ _ _ _ c.self.invariant (act_of c.args.action) may c.meet-partner.result c.meet-partner.ensures.met

pub invariant_of-self : goal.invariant_of-self
invariant_of-self c =
    let plans = c.self.inside.sched.now in
    let h = acts c.self.inside.history.items in
    let a = c.args.action in
    let m = c.self.invariant in
    let may = may_at _ _ a.class a.op c.self.view_is c.requires in
    let was = entry_is _ _ a.op c.entry-entry.result c.self.view_is c.entry-entry.ensures in
    let told = c.write_met.ensures (entry_known plans h) (c.deref_mut.ensures.value ∙ m.known) in
    represents_after_performed plans c.self.inside.history.items c.self.inside.entries.items c.self.inside.matcher m a may c.push.new.self.items c.deref_mut.result.now c.write_met.new.entries c.meet-partner.new.matcher c.self.inside.entries.len c.meet-partner.result c.entry-entry.result c.with_class-done.result was c.with_class-done.ensures c.push.ensures c.self.inside.entries.ok.0 c.deref_mut.ensures.value c.write_met.auto.entries c.meet-partner.ensures.met c.meet-partner.ensures.plans c.meet-partner.ensures.actions told
