-- The operation stands at its place.
use Rattle.std.proofs.Common.{arith}
use Rattle.goal_graph.proofs.Plain.{plain-counts}
use Rattle.goal_graph.proofs.Places.{IsOp-located, operations-at}
use Rattle.goal_graph.proofs.tables.Tables.index.Goals as goal

pub index_in-requires-clause-small : goal.index_in-requires-clause-small
index_in-requires-clause-small c = rw c.deref.ensures.value (omega (arith, (plain-counts c.self.inside.plans.items c.self.invariant.plain).ops))

pub returns : goal.returns
returns c =
    rw (c.index_in.ensures, c.deref.ensures.value, ← c.self.view_is)
    (operations-at c.self.inside.plans.items c.args.id (IsOp-located c.self.inside.plans.items c.args.id (rw c.self.view_is c.requires)))
