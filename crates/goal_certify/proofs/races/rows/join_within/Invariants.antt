use Rattle.goal_certify.proofs.Rows.{IsJoined}
use Rattle.goal_certify.proofs.races.rows.join_within.Given as goal

-- the first words are joined
abbrev pub invariant-loop-place : goal.invariant-loop-place
invariant-loop-place l = IsJoined l.initial.rows l.rows l.row l.initial.rows l.other l.place
