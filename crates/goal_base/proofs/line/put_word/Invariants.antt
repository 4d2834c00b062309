use Rattle.std.proofs.Common.{◌≡◌, ◌+◌, ◌++◌, take}
use Rattle.goal_base.proofs.line.put_word.Given as goal

-- the word's bytes so far follow what the line held before `at`
abbrev pub invariant-loop-place : goal.invariant-loop-place
invariant-loop-place l = take (l.at + l.place) l.line ≡ take l.at l.initial.line ++ take l.place l.word
