-- What the plans' counts and dependencies need.
use Rattle.std.proofs.Common.{arith}
use Rattle.goal_graph.specs.declared.rows.Listing.TheVariants.{Needs, WaitingOn}
use Rattle.goal_graph.proofs.Plain.{plain-counts, plain-owner}
use Rattle.goal_graph.proofs.tables.Tables.of.Goals as goal

pub starts_of-requires : goal.starts_of-requires
starts_of-requires c = rw c.deref.ensures.value (omega (arith, (plain-counts c.args.plans.items c.requires).ops))

pub of-requires-clause-owned : goal.of-requires-clause-owned
of-requires-clause-owned c = rw c.deref-2.ensures.value (plain-owner c.args.plans.items c.requires Needs)

pub of-requires-clause-counts : goal.of-requires-clause-counts
of-requires-clause-counts c = rw c.deref-2.ensures.value (plain-counts c.args.plans.items c.requires)

pub of-requires-2-clause-owned : goal.of-requires-2-clause-owned
of-requires-2-clause-owned c = rw c.deref-3.ensures.value (plain-owner c.args.plans.items c.requires WaitingOn)

pub of-requires-2-clause-counts : goal.of-requires-2-clause-counts
of-requires-2-clause-counts c = rw c.deref-3.ensures.value (plain-counts c.args.plans.items c.requires)
