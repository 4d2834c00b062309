-- Each law is a lemma.
use Rattle.goal_blocks.proofs.Joined.{joined_holds}
use Rattle.goal_blocks.proofs.SegmentsAtOnce.{segments_at_once}
use Rattle.goal_blocks.proofs.laws.laws_of_joined_starts.Goals as goal

pub returns-clause-joined_holds_both : goal.returns-clause-joined_holds_both
returns-clause-joined_holds_both c = λ plans eager first more h rank slot. joined_holds plans eager first more h rank slot

pub returns-clause-segments_at_once : goal.returns-clause-segments_at_once
returns-clause-segments_at_once c = λ what width count plans eager h each apart done block low. segments_at_once what width count plans eager h each apart done block low
