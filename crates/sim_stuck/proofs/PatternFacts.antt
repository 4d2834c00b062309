-- The receives that fit a message, by its patterns.
use Rattle.std.proofs.Common.{ℕ, ◌≡◌, ◌==◌, ◌&&◌, ◌||◌, Bool, true, false, Option, Some, None, cond, refl, sym, ap, ap₂, ◌∙◌}
use Rattle.std.specs.Ordering.{is_eq}
use Rattle.goal_graph.specs.Matching.{accepts}
use Rattle.sim_match.specs.declared.pattern.Pattern.{Pattern}
use Rattle.sim_match.specs.Patterns.{pattern_cmp, same_pattern}
use Rattle.sim_match.proofs.ForCallers.{pattern_cmp_is_eq}
use Rattle.goal_graph.proofs.ForCallers.{eqb-swapped}
use Rattle.goal_graph.specs.Choices.{same_choice}

abbrev pub exact_of : ℕ → ℕ → ℕ → Pattern
exact_of source to tag = record { rank = to; from = Some source; tag = Some tag }

abbrev pub any_tag_of : ℕ → ℕ → Pattern
any_tag_of source to = record { rank = to; from = Some source; tag = None }

abbrev pub any_source_of : ℕ → ℕ → Pattern
any_source_of to tag = record { rank = to; from = None; tag = Some tag }

abbrev pub any_of : ℕ → Pattern
any_of to = record { rank = to; from = None; tag = None }

-- a pattern accepts a message exactly if it is one of the message's four
pub accepts_iff_one_of_four_patterns : (q : Pattern) (source to with_tag : ℕ) → ((to == q.rank) && accepts q.from source && accepts q.tag with_tag) ≡ ((same_pattern q (exact_of source to with_tag) || same_pattern q (any_tag_of source to)) || (same_pattern q (any_source_of to with_tag) || same_pattern q (any_of to)))
accepts_iff_one_of_four_patterns q source to with_tag =
    ap (λ (s : Bool). s && accepts q.from source && accepts q.tag with_tag) (eqb-swapped to q.rank) ∙ go (q.rank == to) q.from q.tag
  where
    none_none : (s : Bool) → (s && true && true) ≡ (((s && (false && false)) || (s && (false && true))) || ((s && (true && false)) || (s && (true && true))))
    none_none true = refl
    none_none false = refl

    none_some : (s u : Bool) → (s && true && u) ≡ (((s && (false && u)) || (s && (false && false))) || ((s && (true && u)) || (s && (true && false))))
    none_some true true = refl
    none_some true false = refl
    none_some false u = refl

    some_none : (s t : Bool) → (s && t && true) ≡ (((s && (t && false)) || (s && (t && true))) || ((s && (false && false)) || (s && (false && true))))
    some_none true true = refl
    some_none true false = refl
    some_none false t = refl

    some_some : (s t u : Bool) → (s && t && u) ≡ (((s && (t && u)) || (s && (t && false))) || ((s && (false && u)) || (s && (false && false))))
    some_some true true true = refl
    some_some true true false = refl
    some_some true false u = refl
    some_some false t u = refl

    go : (s : Bool) (from tag : Option ℕ) → (s && accepts from source && accepts tag with_tag) ≡ (((s && (same_choice from (Some source) && same_choice tag (Some with_tag))) || (s && (same_choice from (Some source) && same_choice tag None))) || ((s && (same_choice from None && same_choice tag (Some with_tag))) || (s && (same_choice from None && same_choice tag None))))
    go s None None = none_none s
    go s None (Some g) = none_some s (g == with_tag)
    go s (Some f) None = some_none s (f == source)
    go s (Some f) (Some g) = some_some s (f == source) (g == with_tag)

choice_swapped : (a b : Option ℕ) → same_choice a b ≡ same_choice b a
choice_swapped None None = refl
choice_swapped None (Some n) = refl
choice_swapped (Some k) None = refl
choice_swapped (Some k) (Some n) = eqb-swapped k n

pattern_cmp_equal_iff_same : (p q : Pattern) → is_eq (pattern_cmp p q) ≡ same_pattern q p
pattern_cmp_equal_iff_same p q =
    pattern_cmp_is_eq p q ∙ ap₂ (λ (s t : Bool). s && t) (eqb-swapped p.rank q.rank) (ap₂ (λ (s t : Bool). s && t) (choice_swapped p.from q.from) (choice_swapped p.tag q.tag))

nested_conds_are_one_or : {X : Type 0} (a b c d : Bool) (x y : X) → cond d x (cond c x (cond b x (cond a x y))) ≡ cond ((a || b) || (c || d)) x y
nested_conds_are_one_or a b c true x y = ap (λ (t : Bool). cond t x y) (sym (last a b c))
  where
    last : (a b c : Bool) → ((a || b) || (c || true)) ≡ true
    last true b c = refl
    last false true c = refl
    last false false true = refl
    last false false false = refl
nested_conds_are_one_or a b true false x y = ap (λ (t : Bool). cond t x y) (sym (third a b))
  where
    third : (a b : Bool) → ((a || b) || true) ≡ true
    third true b = refl
    third false true = refl
    third false false = refl
nested_conds_are_one_or true true false false x y = refl
nested_conds_are_one_or true false false false x y = refl
nested_conds_are_one_or false true false false x y = refl
nested_conds_are_one_or false false false false x y = refl

-- what is put at each of a message's four patterns is at the patterns that accept the message
pub put_at_four_patterns_where_accepted : (q : Pattern) (source to with_tag : ℕ) {X : Type 0} (x y : X) → cond (is_eq (pattern_cmp (any_of to) q)) x (cond (is_eq (pattern_cmp (any_source_of to with_tag) q)) x (cond (is_eq (pattern_cmp (any_tag_of source to) q)) x (cond (is_eq (pattern_cmp (exact_of source to with_tag) q)) x y))) ≡ cond ((to == q.rank) && accepts q.from source && accepts q.tag with_tag) x y
put_at_four_patterns_where_accepted q source to with_tag x y =
    nested_conds_are_one_or (is_eq (pattern_cmp (exact_of source to with_tag) q)) (is_eq (pattern_cmp (any_tag_of source to) q)) (is_eq (pattern_cmp (any_source_of to with_tag) q)) (is_eq (pattern_cmp (any_of to) q)) x y
    ∙ ap (λ (t : Bool). cond t x y) (ap₂ (λ (s t : Bool). s || t) (ap₂ (λ (s t : Bool). s || t) (pattern_cmp_equal_iff_same (exact_of source to with_tag) q) (pattern_cmp_equal_iff_same (any_tag_of source to) q)) (ap₂ (λ (s t : Bool). s || t) (pattern_cmp_equal_iff_same (any_source_of to with_tag) q) (pattern_cmp_equal_iff_same (any_of to) q)) ∙ sym (accepts_iff_one_of_four_patterns q source to with_tag))
