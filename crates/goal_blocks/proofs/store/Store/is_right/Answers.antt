use Rattle.std.proofs.Common.{ap, ◌∙◌}
use Rattle.goal_blocks.specs.Values.{Value}
use Rattle.goal_blocks.specs.Collectives.{wanted}
use Rattle.goal_blocks.specs.Stored.{Kept, values}
use Rattle.goal_blocks.proofs.store.Store.is_right.Goals as goal

pub returns : goal.returns
returns c =
    c.is_wanted.ensures ∙ ap (λ (v : Value). wanted c.args.what c.self.inside.ranks c.args.rank c.args.slot v) c.value_at.ensures.value
    ∙ ap (λ (t : Kept). wanted c.args.what t.ranks c.args.rank c.args.slot (values c.args.self.now c.args.rank c.args.slot)) c.self.view_is
