use Rattle.std.proofs.Common.{sym, ap, ◌∙◌}
use Rattle.std.proofs.lemmas.Bool.{eq-eqb, ne_eqb}
use Rattle.sim_cycles.proofs.ReportLemmas.{heads_inside, own_head_is_head_in_list, knot_made, knots_more, knots_skip, knots_all}
use Rattle.sim_cycles.proofs.report.knots.Goals as goal
use Rattle.sim_cycles.proofs.report.knots.Goals.{then-index-at+in_ok-members+in_ok-push, else-index-at}

pub counts-requires-clause-inside : goal.counts-requires-clause-inside
counts-requires-clause-inside c =
    let heads = rw c.deref.ensures.value at c.in_ok-heads.ensures in
    rw c.deref-2.ensures.value (heads_inside c.args.list.now c.in_ok-targets.targets.items c.in_ok-heads.heads.items c.requires.order c.in_ok-targets.ensures heads)

pub loop-at-preserved : goal.loop-at-preserved
loop-at-preserved c =
    let list = c.args.list.now in
    let ts = c.in_ok-targets.targets.items in
    let hs = c.in_ok-heads.heads.items in
    let heads = rw c.deref.ensures.value at c.in_ok-heads.ensures in
    let counts = rw c.deref-2.ensures.value at c.in_ok-counts.ensures in
    let test = own_head_is_head_in_list list ts hs c.requires.order c.in_ok-targets.ensures heads c.loop-at.at c.index.result.now c.loop-at-test.true c.index.ensures in
    elim c.if-index-at.branch [
      | then-index-at+in_ok-members+in_ok-push w ↦
          let head = sym test ∙ eq-eqb c.index.result.now c.loop-at.at w.if-index-at.true in
          rw w.found-is (knots_more list c.loop-at.at _ c.loop-at.found.items _ c.loop-at-test.true c.loop-at.invariant head (knot_made list ts hs c.requires.order c.in_ok-targets.ensures heads c.in_ok-counts.counts.items c.loop-at.at _ _ _ _ counts c.loop-at-test.true head w.is_alone.ensures w.in_ok-members.ensures w.index-then-index-at.ensures) w.in_ok-push.ensures.items)
      | else-index-at w ↦
          knots_skip list c.loop-at.at c.loop-at.found.items _ c.loop-at-test.true c.loop-at.invariant (sym test ∙ ne_eqb c.index.result.now c.loop-at.at w.if-index-at.false) (ap (λ v. v.items) w.found-is)
    ]

pub returns : goal.returns
returns c = knots_all c.args.list.now c.loop-at.at c.loop-at.found.items c.loop-at-test.false c.loop-at.invariant
