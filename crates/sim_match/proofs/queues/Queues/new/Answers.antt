use Rattle.std.proofs.Common.{◌∙◌, length, rules, arith, refl, ap, subst}
use Rattle.std.proofs.lemmas.List.{length-map}
use Rattle.goal_graph.specs.Schedule.{operations}
use Rattle.goal_graph.specs.declared.action.OpId.{OpId}
use Rattle.sim_match.specs.Patterns.{own_list}
use Rattle.sim_match.specs.ListNumbers.{coded, AreSought}
use Rattle.sim_match.proofs.Queued.{queues_before_any_action, to_come_before_any_action}
use Rattle.sim_match.proofs.queues.Queues.new.Goals as goal

pub returns-clause-kept : goal.returns-clause-kept
returns-clause-kept c =
    let n = c.requires.numbered in
    let queues = rw n.count at (c.in_ok-queues.ensures.items_if_clones_equal (search rules)) in
    record {
      keys = n.keys;
      listed = n.listed;
      few = n.few;
      named = subst (AreSought c.args.sched.now n.keys) c.requires.named n.sought;
      actions = rw c.new.ensures tt;
      queues = rw c.new.ensures (queues_before_any_action c.args.sched.now n.keys _ _ _ refl queues (λ some. let long = ap length (n.own some) ∙ length-map (operations c.args.sched.now) (λ (x : OpId). coded (own_list c.args.sched.now n.keys x)) in omega (arith, long)));
      to_come = rw c.new.ensures (to_come_before_any_action c.args.sched.now n.keys _ n.own);
    }
