use Rattle.std.proofs.Common.{ap, length, arith}
use Rattle.goal_blocks.proofs.Wishes.{different_is_not_value}
use Rattle.goal_blocks.proofs.wanted.is_single.Goals as goal

pub returns-in_default-2 : goal.returns-in_default-2
returns-in_default-2 c =
    different_is_not_value _ _ (λ e. let lengths = ap length e in omega (arith, lengths, c.in_default.len_at_least))
