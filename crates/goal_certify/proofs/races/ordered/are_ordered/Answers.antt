use Rattle.std.proofs.Common.{◌≡◌, false, All, take, subst, arith}
use Rattle.std.proofs.lemmas.List.{take_all}
use Rattle.std.proofs.lemmas.List.Elements.{All-more, Contains-get_or}
use Rattle.goal_certify.specs.declared.races.touches.Touch.{Touch}
use Rattle.goal_certify.specs.Races.{IsOrdered}
use Rattle.goal_certify.proofs.races.ordered.are_ordered.Goals as goal

abbrev none : Touch
none = record { op = 0; slot = 0; writes = false }

pub is_ordered-requires-clause-touchers : goal.is_ordered-requires-clause-touchers
is_ordered-requires-clause-touchers c =
    c.requires.touchers.room _ (Contains-get_or c.args.touches.now c.loop-touch.touch-index none (omega arith))

pub is_ordered-requires-clause-writers : goal.is_ordered-requires-clause-writers
is_ordered-requires-clause-writers c =
    c.requires.writers.room _ (Contains-get_or c.args.touches.now c.loop-touch.touch-index none (omega arith))

pub loop-touch-preserved : goal.loop-touch-preserved
loop-touch-preserved c =
    All-more (IsOrdered c.args.before.now c.args.touchers.now c.args.writers.now) c.args.touches.now c.loop-touch.touch-index none (omega arith) c.loop-touch.invariant (c.is_ordered.ensures c.if-not-is_ordered.false)

pub returns : goal.returns
returns c is =
    let all : take c.loop-touch.touch-index c.args.touches.now ≡ c.args.touches.now = take_all c.loop-touch.touch-index c.args.touches.now (omega arith) in
    subst (All (IsOrdered c.args.before.now c.args.touchers.now c.args.writers.now)) all c.loop-touch.invariant
