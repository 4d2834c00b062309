use Rattle.goal_certify.proofs.Rows.{IsCleared}
use Rattle.goal_certify.proofs.races.rows.clear_words.Given as goal

-- the first words are 0
abbrev pub invariant-loop-place : goal.invariant-loop-place
invariant-loop-place l = IsCleared l.initial.rows l.rows l.row l.place
