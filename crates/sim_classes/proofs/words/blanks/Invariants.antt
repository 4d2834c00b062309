use Rattle.std.proofs.Common.{◌≡◌, ◌≤◌, ◌+◌, ◌-◌, length, drop}
use Rattle.std.specs.List.{prefix_len}
use Rattle.sim_classes.specs.Form.{is_blank}
use Rattle.sim_classes.proofs.words.blanks.Given as goal

-- the blanks counted so far, followed by those at the front of the rest, are all blanks at the front
abbrev pub invariant-loop-len : goal.invariant-loop-len
invariant-loop-len l = (l.len ≤ length l.bytes) × (prefix_len is_blank l.bytes ≡ l.len + prefix_len is_blank (drop l.len l.bytes))

abbrev pub decreases-loop-len : goal.decreases-loop-len
decreases-loop-len l = length l.bytes - l.len
