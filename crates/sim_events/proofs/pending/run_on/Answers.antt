use Rattle.std.proofs.Common.{◌*◌, ◌+◌, ◌≤◌, ap, arith}
use Rattle.std.proofs.Math.Nat.{mul-le-mul_right}
use Rattle.sim_events.specs.Cost.{most_moves}
use Rattle.sim_events.proofs.Costs.{waiting_costs_at_most_spent}
use Rattle.sim_events.proofs.pending.run_on.Goals as goal

pub returns-clause-counted : goal.returns-clause-counted
returns-clause-counted g c =
    λ k few.
    let queue = c.args.queue.now in
    let moves : c.run.new.moves * (8 * k + 15) ≤ (c.new-moves.result + most_moves c.run.new.state.plans c.run.new.state.history) * (8 * k + 15) = mul-le-mul_right (8 * k + 15) c.run.ensures.moved in
    omega (arith, c.run.ensures.counted k few, waiting_costs_at_most_spent k queue c.known.ensures, moves, ap (λ n. n * (8 * k + 15)) c.new-moves.ensures)
