use Rattle.std.proofs.Common.{ℕ, inl, inr, Some, true, false, get_or, sym, ap, ◌∙◌, ◌≡◌}
use Rattle.goal_graph.specs.declared.plan.Kind.{Kind}
use Rattle.sim_match.specs.Patterns.{number, wild_number, is_wild}
use Rattle.sim_match.proofs.PatternLemmas.{wild_itself}
use Rattle.sim_match.proofs.Taken.{no_number_if_slot_not_taken}
use Rattle.sim_match.proofs.list_numbers.wild_list.Goals as goal
use Rattle.goal_graph.proofs.ForCallers.{kind_of_found_op}

pub returns-then-taken-slot : goal.returns-then-taken-slot
returns-then-taken-slot c =
    c.number.ensures ∙ ap (number c.args.patterns.now) c.pattern-pattern.ensures ∙ ap (wild_number c.args.patterns.now c.args.wild c.args.id) (sym (kind_of_found_op _ c.args.id _ c.op.ensures.op ∙ ap (λ (k : Kind). Some k) c.in-Send.is))

pub returns-else-taken-slot : goal.returns-else-taken-slot
returns-else-taken-slot c =
    let is = c.pattern-pattern.ensures in
    let wild : is_wild c.args.wild c.pattern-pattern.result ≡ true = ap (is_wild c.args.wild) is ∙ wild_itself c.args.wild c.args.id.rank c.in-Send.to c.in-Send.tag in
    let free = no_number_if_slot_not_taken c.args.wild c.args.patterns.now c.args.taken.now c.pattern-pattern.result c.requires.taken wild (ap (λ (n : ℕ). get_or c.args.taken.now n false) (sym c.slot.ensures.slot) ∙ c.if-taken-slot.false) in
    free ∙ ap (number c.args.patterns.now) is ∙ ap (wild_number c.args.patterns.now c.args.wild c.args.id) (sym (kind_of_found_op _ c.args.id _ c.op.ensures.op ∙ ap (λ (k : Kind). Some k) c.in-Send.is))

pub returns-in-Recv : goal.returns-in-Recv
returns-in-Recv c = elim c.in-Recv.is [
  | inl (room, from, tag, is) ↦ ap (wild_number c.args.patterns.now c.args.wild c.args.id) (sym (kind_of_found_op _ c.args.id _ c.op.ensures.op ∙ ap (λ (k : Kind). Some k) is))
  | inr (nanos, is) ↦ ap (wild_number c.args.patterns.now c.args.wild c.args.id) (sym (kind_of_found_op _ c.args.id _ c.op.ensures.op ∙ ap (λ (k : Kind). Some k) is))
]
