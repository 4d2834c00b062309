use Rattle.std.proofs.Common.{◌∙◌, List, sym, subst}
use Rattle.goal_graph.specs.Fault.{IsAccepted}
use Rattle.goal_graph.specs.Schedule.{Plan}
use Rattle.goal_blocks.specs.Certified.{IsCertifiedFor}
use Rattle.goal_blocks.specs.Right.{IsRightFor}
use Rattle.goal_blocks.proofs.MadeAccepted.{made_accepted}
use Rattle.goal_blocks.proofs.MadeCertified.{made_certified, made_right_at_any_weight}
use Rattle.goal_blocks.proofs.making.schedule_by.Goals as goal

pub build_accepted-requires : goal.build_accepted-requires
build_accepted-requires g c =
    subst (λ (plans : List Plan). IsAccepted plans) (sym (c.in_ok-plans.ensures ∙ c.requires.told)) (made_accepted c.args.what c.args.ranks c.args.bytes c.requires.possible c.requires.size)

pub returns-in-Ok-clause-made : goal.returns-in-Ok-clause-made
returns-in-Ok-clause-made g c = c.in-Ok.ensures ∙ c.in_ok-plans.ensures ∙ c.requires.told

pub returns-in-Ok-clause-certified : goal.returns-in-Ok-clause-certified
returns-in-Ok-clause-certified g c =
    λ proved. subst (λ (plans : List Plan). IsCertifiedFor c.args.what plans) (sym (c.in-Ok.ensures ∙ c.in_ok-plans.ensures ∙ c.requires.told)) (made_certified c.args.what c.args.ranks c.args.bytes c.requires.possible c.requires.size proved)

pub returns-in-Ok-clause-right : goal.returns-in-Ok-clause-right
returns-in-Ok-clause-right g c =
    subst (λ (plans : List Plan). IsRightFor c.args.what plans) (sym (c.in-Ok.ensures ∙ c.in_ok-plans.ensures ∙ c.requires.told)) (made_right_at_any_weight c.args.what c.args.ranks c.args.bytes c.requires.possible c.requires.size)
