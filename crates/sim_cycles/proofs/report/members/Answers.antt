use Rattle.std.proofs.Common.{◌∙◌}
use Rattle.sim_cycles.proofs.ReportLemmas.{members_begin, members_more, members_all, members_complete_at_first}
use Rattle.sim_cycles.proofs.report.members.Goals as goal
use Rattle.sim_cycles.proofs.report.members.Goals.{else-round-test, then-round-test+then-at-first}

pub round-init : goal.round-init
round-init c =
    let target = c.requires.targets.each c.args.first c.requires.first in record {
      inside = target.inside;
      rest = members_begin c.args.list.now c.args.first _ _ _ c.push.new.self.items c.requires.first target c.new-ops.ensures.items c.in_ok-push.ensures.items;
    }

pub round-preserved : goal.round-preserved
round-preserved c =
    let target = c.requires.targets.each c.round.at c.round.invariant.inside in record {
      inside = target.inside;
      rest = members_more c.args.list.now c.args.first c.round.at _ c.round.counter _ c.round.ops.items c.push-in-round.new.self.items _ c.requires.order c.requires.first c.round.invariant.inside c.round-test.true c.if-at-first.false target c.in_ok-push-2.ensures.items c.round.invariant.rest;
    }

pub returns : goal.returns
returns c =
    c.from.ensures ∙ elim c.round-test.branch [
      | else-round-test w ↦
          members_all c.args.list.now c.args.first c.round.at c.round.counter c.round.ops.items _ w.round-test.false c.round.invariant.rest
      | then-round-test+then-at-first w ↦
          members_complete_at_first c.args.list.now c.args.first c.round.at c.round.counter c.round.ops.items _ w.round-test.true w.if-at-first.true c.round.invariant.rest
    ]
