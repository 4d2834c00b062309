use Rattle.std.proofs.Common.{ℕ, ◌+◌, ◌*◌, ◌%◌, ap, ◌∙◌}
use Rattle.std.proofs.Math.Nat.{mod-add-mod, mul_comm}
use Rattle.goal_collectives.specs.Probe.{next_state}
use Rattle.goal_collectives.proofs.draws.Draws.draw.Goals as goal

pub returns-clause-state : goal.returns-clause-state
unfolding next_state
returns-clause-state c =
    let x = c.args.self.now.state in
    mod-add-mod (x * 6364136223846793005) 18446744073709551616 1442695040888963407
    ∙ ap (λ (k : ℕ). (k + 1442695040888963407) % 18446744073709551616) (mul_comm x 6364136223846793005)
