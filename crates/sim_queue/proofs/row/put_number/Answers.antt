use Rattle.std.proofs.Common.{◌≤◌, length, arith}
use Rattle.sim_queue.proofs.row.put_number.Goals as goal

pub returns-clause-counted : goal.returns-clause-counted
returns-clause-counted g c =
    let few : length c.args.queue.now ≤ 16 = omega (arith, c.requires.twelve) in
    let counted = c.put.ensures.counted 4 few in
    omega (arith, counted)
