use Rattle.std.proofs.Common.{◌≡◌, length, subst, arith}
use Rattle.sim_cycles.specs.Places.{AreSettled}
use Rattle.sim_cycles.proofs.Marks.{way_inside, settled_more}
use Rattle.sim_cycles.proofs.heads.mark_all.Goals as goal

pub settle-requires : goal.settle-requires
settle-requires c =
    rw c.deref.ensures.value (way_inside c.args.targets.now c.walk.new.marks c.loop-start.start c.walk.new.way.items c.requires.closed c.loop-start-test.true c.in_ok-head.ensures.marks)

pub loop-start-preserved : goal.loop-start-preserved
loop-start-preserved c =
    let set = rw c.deref.ensures.value at c.settle.ensures.set in
    let kept = rw c.deref.ensures.value at c.settle.ensures.kept in
    settled_more c.args.targets.now c.loop-start.marks c.walk.new.marks c.settle.new.marks c.loop-start.start c.in_ok-head.head c.walk.new.way.items c.requires.closed c.loop-start-test.true c.loop-start.invariant c.in_ok-head.ensures.marks c.in_ok-head.ensures.stay c.in_ok-head.ensures.seen c.in_ok-head.ensures.head c.settle.auto.marks set kept

pub returns : goal.returns
returns c =
    let e : c.loop-start.start ≡ length c.args.targets.now = omega (arith, c.loop-start-test.false, c.loop-start.auto.start-end) in
    subst (AreSettled c.args.targets.now c.loop-start.marks) e c.loop-start.invariant
