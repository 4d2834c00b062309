use Rattle.std.proofs.Common.{ℕ, ◌≡◌, Option, Some, sym, ap, ◌∙◌, subst}
use Rattle.std.specs.Option.{IfSome}
use Rattle.goal_graph.specs.declared.plan.Kind.{Kind}
use Rattle.sim_match.specs.Patterns.{own_pattern, number, list_number}
use Rattle.sim_match.proofs.list_numbers.Trails.own_list.Goals as goal
use Rattle.goal_graph.proofs.ForCallers.{kind_of_found_op}

pub returns-in-Calc : goal.returns-in-Calc
returns-in-Calc c =
    ap (λ (k : Option Kind). list_number c.args.patterns.now (own_pattern c.args.id k)) (sym (kind_of_found_op _ c.args.id _ c.op.ensures.op ∙ ap (λ (k : Kind). Some k) c.in-Calc.is))

pub returns-in-Some : goal.returns-in-Some
returns-in-Some c =
    let place = subst (λ o. IfSome o (λ (place : ℕ). number c.args.patterns.now c.new-pattern.result ≡ Some place)) c.in-Some.is c.next.ensures in
    sym place ∙ ap (number c.args.patterns.now) c.new-pattern.ensures ∙ ap (λ (k : Option Kind). list_number c.args.patterns.now (own_pattern c.args.id k)) (sym (kind_of_found_op _ c.args.id _ c.op.ensures.op ∙ ap (λ (k : Kind). Some k) c.in-Recv.is))

pub returns-in-None : goal.returns-in-None
returns-in-None c =
    c.find_by_source.ensures ∙ ap (number c.args.patterns.now) c.new-pattern.ensures ∙ ap (λ (k : Option Kind). list_number c.args.patterns.now (own_pattern c.args.id k)) (sym (kind_of_found_op _ c.args.id _ c.op.ensures.op ∙ ap (λ (k : Kind). Some k) c.in-Recv.is))

pub returns-then-to-len : goal.returns-then-to-len
returns-then-to-len c =
    c.find.ensures ∙ ap (number c.args.patterns.now) c.new-pattern-in-Send.ensures ∙ ap (λ (k : Option Kind). list_number c.args.patterns.now (own_pattern c.args.id k)) (sym (kind_of_found_op _ c.args.id _ c.op.ensures.op ∙ ap (λ (k : Kind). Some k) c.in-Send.is))

pub returns-else-to-len : goal.returns-else-to-len
returns-else-to-len c =
    c.number.ensures ∙ ap (number c.args.patterns.now) c.new-pattern-in-Send.ensures ∙ ap (λ (k : Option Kind). list_number c.args.patterns.now (own_pattern c.args.id k)) (sym (kind_of_found_op _ c.args.id _ c.op.ensures.op ∙ ap (λ (k : Kind). Some k) c.in-Send.is))
