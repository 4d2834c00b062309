use Rattle.std.proofs.Common.{arith}
use Rattle.goal_blocks.proofs.SlotRows.{rank_within_table, added_inside, added_ordered, added_within, row_adds}
use Rattle.goal_blocks.proofs.slot_table.SlotTable.adds_of.Goals as goal

pub index-of_rank-requires : goal.index-of_rank-requires
index-of_rank-requires c =
    let within = rank_within_table c.self.inside.sched.now c.args.self.now c.self.inside.ranks.items c.self.view_is c.self.invariant c.args.id c.requires in
    omega (arith, within, c.self.inside.ranks.ok.0)

pub between-requires-clause-inside : goal.between-requires-clause-inside
between-requires-clause-inside c =
    rw c.deref-2.ensures.value (added_inside c.self.inside.sched.now c.args.self.now c.self.inside.ranks.items c.self.view_is c.self.invariant c.args.id c.requires c.index-of_rank.result.now c.index-of_rank.ensures)

pub between-requires-clause-ordered : goal.between-requires-clause-ordered
between-requires-clause-ordered c =
    rw c.deref-2.ensures.value (added_ordered c.self.inside.sched.now c.args.self.now c.self.inside.ranks.items c.self.view_is c.self.invariant c.args.id c.requires c.index-of_rank.result.now c.index-of_rank.ensures)

pub between-requires-clause-within : goal.between-requires-clause-within
between-requires-clause-within c =
    rw (c.deref.ensures.value, c.deref-2.ensures.value) (added_within c.self.inside.sched.now c.args.self.now c.self.inside.ranks.items c.self.view_is c.self.invariant c.args.id c.requires c.index-of_rank.result.now c.index-of_rank.ensures)

pub returns : goal.returns
returns c =
    rw (c.between.ensures, c.deref.ensures.value, c.deref-2.ensures.value) (row_adds c.self.inside.sched.now c.args.self.now c.self.inside.ranks.items c.self.view_is c.self.invariant c.args.id c.requires c.index-of_rank.result.now c.index-of_rank.ensures)
