use Rattle.std.proofs.Common.{arith}
use Rattle.goal_certify.proofs.Turns.{turns_none, sound_none}
use Rattle.goal_certify.proofs.walk.turns.Turns.new.Goals as goal

pub invariant_of-result : goal.invariant_of-result
invariant_of-result c =
    sound_none c.in_ok-words.words.items c.in_ok-heads.heads.items c.args.count _ _ (c.in_ok-words.ensures.items_if_clones_equal (λ y e. e)) (c.in_ok-heads.ensures.items_if_clones_equal (λ y e. e)) (omega arith) (omega arith) (omega (arith, c.ranges.count)) (omega (arith, c.ranges.count)) (omega (arith, c.ranges.count))

pub returns : goal.returns
returns c = turns_none c.in_ok-words.words.items c.args.count _ (c.in_ok-words.ensures.items_if_clones_equal (λ y e. e))
