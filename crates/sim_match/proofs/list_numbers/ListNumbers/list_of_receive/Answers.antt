use Rattle.std.proofs.Common.{Some, ℕ, arith, sym, ap, ◌∙◌}
use Rattle.sim_match.specs.ListNumbers.{coded}
use Rattle.sim_match.proofs.Numbering.{own_of_receive}
use Rattle.sim_match.proofs.list_numbers.ListNumbers.list_of_receive.Goals as goal
use Rattle.goal_graph.proofs.ForCallers.{op_of_kind}

pub own-requires-clause-op : goal.own-requires-clause-op
own-requires-clause-op c = op_of_kind _ c.args.recv _ c.requires.receive.kind

pub own-requires-clause-some : goal.own-requires-clause-some
own-requires-clause-some c =
    let n = c.requires.numbered in
    let within = (n.listed c.args.recv c.requires.receive).within in
    omega (arith, within, n.count)

pub returns-clause-list : goal.returns-clause-list
returns-clause-list c = λ n.
    let its = n.listed c.args.recv c.requires.receive in
    let number = c.own.ensures n ∙ ap coded (own_of_receive _ _ c.args.recv c.requires.receive ∙ its.is) in
    its.is ∙ ap (λ (n : ℕ). Some n) (sym number)

pub returns-clause-within : goal.returns-clause-within
returns-clause-within c =
    let n = c.requires.numbered in
    let its = n.listed c.args.recv c.requires.receive in
    let number = c.own.ensures n ∙ ap coded (own_of_receive _ _ c.args.recv c.requires.receive ∙ its.is) in
    omega (arith, number, its.within, n.count)
