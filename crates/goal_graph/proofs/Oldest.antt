-- The oldest of a list, read oldest first, is the first.
use Rattle.std.proofs.Common.{◌≡◌, Bool, true, false, cond, List, [], ◌∷◌, Option, Some, None, find, reverse, refl, ap, ap₂, sym, ◌∙◌, if◌then◌else◌}
use Rattle.std.specs.Option.{option_map, option_or}
use Rattle.std.proofs.lemmas.List.Folds.{find-append}
use mathlib.Core.List.{reverse-cons}
use Rattle.goal_graph.specs.Action.{Act, oldest}

op_of_option_or : (o n : Option Act) → option_map (λ (a : Act). a.op) (option_or o n) ≡ option_or (option_map (λ (a : Act). a.op) o) (option_map (λ (a : Act). a.op) n)
op_of_option_or None n = refl
op_of_option_or (Some a) n = refl

op_of_cond : (b : Bool) (a : Act) → option_map (λ (a : Act). a.op) (cond b (Some a) None) ≡ (if b then Some a.op else None)
op_of_cond true a = refl
op_of_cond false a = refl

pub oldest_is_first_in_reverse : (test : Act → Bool) (h : List Act) → oldest test h ≡ option_map (λ (a : Act). a.op) (find test (reverse h))
unfolding oldest
oldest_is_first_in_reverse test [] = refl
oldest_is_first_in_reverse test (a ∷ h) =
    let newest = sym (op_of_cond (test a) a) in
    let whole = ap (λ (l : List Act). option_map (λ (a : Act). a.op) (find test l)) (reverse-cons a h) in
    let parts = ap (option_map (λ (a : Act). a.op)) (find-append test (reverse h) (a ∷ [])) in
    ap₂ option_or (oldest_is_first_in_reverse test h) newest ∙ sym (op_of_option_or (find test (reverse h)) (find test (a ∷ []))) ∙ sym parts ∙ sym whole
