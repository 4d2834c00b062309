use Rattle.std.proofs.Common.{set, sym, ap, ◌∙◌, arith}
use Rattle.std.proofs.lemmas.List.{length-set}
use Rattle.goal_collectives.specs.Probe.{at_rank, with_work, with_receive}
use Rattle.goal_collectives.proofs.ProbePlans.{at_rank_by_set}
use Rattle.goal_collectives.proofs.probe.add_round.Goals as goal

pub returns : goal.returns
returns c =
    let i = c.args.number in
    let x = c.args.round in
    let ps = c.args.plans.now in
    let size = length-set ps x.from c.add_work.new.plan in
    at_rank_by_set x.to (with_receive i x) (set ps x.from c.add_work.new.plan) c.index-plans-round-2.result c.add_receive.new.plan (omega arith) c.index-plans-round-2.is
    (c.in_ok-add_receive.ensures ∙ ap (with_receive i x) (sym c.index-plans-round-2.is))
    ∙ ap (at_rank x.to (with_receive i x))
    (at_rank_by_set x.from (with_work i x) ps c.index-plans-round.result c.add_work.new.plan (omega arith) c.index-plans-round.is
    (c.in_ok-add_work.ensures ∙ ap (with_work i x) (sym c.index-plans-round.is)))
