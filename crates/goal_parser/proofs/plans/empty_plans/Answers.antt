use Rattle.std.proofs.Common.{ap, ◌∙◌, ◌≡◌, ◌∷◌, ◌++◌, [], List}
use Rattle.std.proofs.lemmas.List.{replicate_more}
use Rattle.goal_graph.specs.Schedule.{Plan}
use Rattle.goal_graph.specs.declared.plan.Op.{Op}
use Rattle.goal_graph.specs.declared.plan.Dep.{Dep}
use Rattle.goal_graph.specs.declared.plan.Note.{Note}
use Rattle.goal_parser.specs.Plans.{empty_plan}
use Rattle.goal_parser.proofs.plans.empty_plans.Goals as goal

plan_of_empty_lists : (ops : List Op) (deps : List Dep) (notes : List Note) → ops ≡ [] → deps ≡ [] → notes ≡ [] → ◌≡◌ {A = Plan} (record { ops = ops; deps = deps; notes = notes }) empty_plan
plan_of_empty_lists ops deps notes p q r = λ i. record { ops = p i; deps = q i; notes = r i }

pub loop-i-preserved : goal.loop-i-preserved
loop-i-preserved c =
    c.in_ok-push.ensures.items
    ∙ ap (λ (p : Plan). c.loop-i.plans.items ++ p ∷ []) (plan_of_empty_lists c.new.result.items c.new-in-loop-i.result.items c.new-in-loop-i-2.result.items c.new.ensures.items c.new-in-loop-i.ensures.items c.new-in-loop-i-2.ensures.items)
    ∙ ap (λ (l : List Plan). l ++ empty_plan ∷ []) c.loop-i.invariant
    ∙ replicate_more c.loop-i.i empty_plan
