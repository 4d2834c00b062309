-- The row at the place of the operation.
use Rattle.std.proofs.Common.{◌∙◌, sym, arith}
use Rattle.std.proofs.lemmas.Option.{same_Some}
use Rattle.goal_graph.specs.declared.rows.Listing.TheVariants.{Needs}
use Rattle.goal_graph.proofs.Plain.{plain-counts}
use Rattle.goal_graph.proofs.Places.{row_of, row-needs}
use Rattle.goal_graph.proofs.tables.Tables.needs.Goals as goal

pub index_in-requires-clause-small : goal.index_in-requires-clause-small
index_in-requires-clause-small c = rw c.deref.ensures.value (omega (arith, (plain-counts c.self.inside.plans.items c.self.invariant.plain).ops))

pub row-requires : goal.row-requires
row-requires c =
    (row_of Needs c.self.inside.plans.items c.args.id _ _ (rw c.self.view_is c.requires) c.self.invariant.needs_are (rw c.deref.ensures.value at c.index_in.ensures)).inside

pub returns : goal.returns
returns c =
    let row = row_of Needs c.self.inside.plans.items c.args.id _ _ (rw c.self.view_is c.requires) c.self.invariant.needs_are (rw c.deref.ensures.value at c.index_in.ensures) in
    rw (← c.self.view_is) (same_Some _ _ (sym c.row.ensures ∙ row.found) ∙ row-needs c.self.inside.plans.items c.args.id)
