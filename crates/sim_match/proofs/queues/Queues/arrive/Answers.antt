use Rattle.std.proofs.Common.{refl, sym, ◌∙◌}
use Rattle.sim_match.specs.Matcher.{actions_of}
use Rattle.sim_match.proofs.Ops.{arrival_suits}
use Rattle.sim_match.proofs.Kept.{actions_of-arrival}
use Rattle.sim_match.specs.declared.capacities.Side.TheVariants.{Sends}
use Rattle.sim_match.specs.Queues.{come}
use Rattle.sim_match.proofs.Queued.{send_without_list_comes, still_to_come}
use Rattle.sim_match.proofs.queues.Queues.arrive.Goals as goal

pub returns-in-None-clause-kept : goal.returns-in-None-clause-kept
returns-in-None-clause-kept g c =
    let own = sym (c.list_of_send.ensures c.requires.kept) ∙ c.in-None.is in
    let nowhere = send_without_list_comes c.args.sched.now c.requires.kept.keys c.requires.kept.named c.requires.kept.listed (actions_of c.args.sched.now c.args.self.now.events.items) c.requires.kept.actions c.args.self.now.queues.items c.args.self.now.next.items c.requires.kept.queues c.args.send c.requires.send own in
    record {
      keys = c.requires.kept.keys;
      listed = c.requires.kept.listed;
      few = c.requires.kept.few;
      named = c.requires.kept.named;
      actions = rw (c.push.ensures, actions_of-arrival _ _ c.args.send c.requires.send) (c.requires.kept.actions, record { class = refl; suited = arrival_suits _ c.args.send c.requires.send; fresh = c.requires.fresh });
      queues = rw (c.push.ensures, actions_of-arrival _ _ c.args.send c.requires.send) nowhere.0;
      to_come = rw (c.push.ensures, actions_of-arrival _ _ c.args.send c.requires.send) (still_to_come c.args.sched.now c.requires.kept.keys c.requires.kept.named c.requires.kept.listed (actions_of c.args.sched.now c.args.self.now.events.items) c.requires.kept.actions c.args.self.now.queues.items c.args.self.now.next.items c.requires.kept.queues (come Sends c.args.send) c.requires.kept.to_come);
    }

pub returns-in-None-clause-taken : goal.returns-in-None-clause-taken
returns-in-None-clause-taken g c =
    let own = sym (c.list_of_send.ensures c.requires.kept) ∙ c.in-None.is in
    let nowhere = send_without_list_comes c.args.sched.now c.requires.kept.keys c.requires.kept.named c.requires.kept.listed (actions_of c.args.sched.now c.args.self.now.events.items) c.requires.kept.actions c.args.self.now.queues.items c.args.self.now.next.items c.requires.kept.queues c.args.send c.requires.send own in
    nowhere.1
