use Rattle.goal_certify.proofs.Cursors.{cursors_start}
use Rattle.goal_certify.proofs.walk.cursor.at_first.Goals as goal

pub returns : goal.returns
returns c =
    λ eager h. cursors_start c.args.sched.now eager h _ c.in_ok-cursors.cursors.items c.count.ensures.count (c.in_ok-cursors.ensures.items_if_clones_equal (λ y h. h))
