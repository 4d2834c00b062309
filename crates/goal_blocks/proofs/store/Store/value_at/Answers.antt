use Rattle.std.proofs.Common.{◌∙◌}
use Rattle.goal_blocks.proofs.StoreFacts.{value_there, first_there, read_contribution, sorted_there, sorted_at_equal_value}
use Rattle.goal_blocks.proofs.store.Store.value_at.Goals as goal

pub returns-in-Some-clause-value : goal.returns-in-Some-clause-value
returns-in-Some-clause-value c =
    c.as_slice.ensures.value ∙ value_there c.self.inside.what c.self.inside.ranks c.self.inside.written c.args.self.now c.self.view_is c.args.rank c.args.slot c.in-Some.value.now c.in-Some.ensures.value

pub returns-in-Some-clause-sorted : goal.returns-in-Some-clause-sorted
returns-in-Some-clause-sorted c =
    sorted_at_equal_value _ _ (returns-in-Some-clause-value c) (sorted_there c.self.inside.what c.self.inside.ranks c.self.inside.written c.args.self.now c.self.view_is c.args.rank c.args.slot c.self.inside.held c.self.invariant)

pub returns-in-None-clause-value : goal.returns-in-None-clause-value
returns-in-None-clause-value c =
    read_contribution c.args.first.now _ c.as_slice-in-None.ensures ∙ first_there c.self.inside.what c.self.inside.ranks c.self.inside.written c.args.self.now c.self.view_is c.args.rank c.args.slot c.args.first.now c.in-None.ensures.value c.requires
