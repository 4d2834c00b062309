-- The blocks of a canonical text, rank by rank.
use Rattle.std.proofs.Common.{◌≡◌, ℕ, ◌+◌, ◌<◌, ◌≤◌, List, [], ◌∷◌, ◌++◌, length, get_or, drop, sym, ap, ◌∙◌, append_assoc, append-nil, arith, refl}
use Rattle.std.proofs.lemmas.List.{at_drop_more, at_drop_all, length-append}
use Rattle.goal_graph.specs.declared.plan.Op.{Op}
use Rattle.goal_graph.specs.Schedule.{Plan}
use Rattle.goal_print.specs.Canonical.{block, unless_empty, blocks}

-- another rank
pub block_of_next_rank : (i : ℕ) (ps : List Plan) (p : Plan) (out all : List ℕ) → i < length ps → p ≡ get_or ps i p
    → out ++ blocks i (drop i ps) ≡ all
    → (out ++ unless_empty p.ops (block i p)) ++ blocks (i + 1) (drop (i + 1) ps) ≡ all
unfolding blocks
block_of_next_rank i ps p out all within this is =
    let left = blocks (i + 1) (drop (i + 1) ps) in
    append_assoc out (unless_empty p.ops (block i p)) left
    ∙ ap (λ (l : List ℕ). out ++ l)
    (ap (λ (q : Plan). unless_empty q.ops (block i q) ++ left) this ∙ sym (at_drop_more (blocks i) ps i p within))
    ∙ is

blocks_of_no_plans : (i : ℕ) → blocks i [] ≡ []
unfolding blocks
blocks_of_no_plans i = refl

-- after the last rank the whole text is printed
pub all_blocks_printed : (i : ℕ) (ps : List Plan) (out all : List ℕ) → length ps ≤ i → out ++ blocks i (drop i ps) ≡ all → out ≡ all
all_blocks_printed i ps out all over is =
    sym (append-nil out) ∙ ap (λ (l : List ℕ). out ++ l) (sym (at_drop_all (blocks i) ps i over ∙ blocks_of_no_plans i)) ∙ is

-- a text with operations has bytes: another rank
pub text_stays_nonempty : (os : List Op) (out text : List ℕ) (operations : ℕ) → 0 < length text → (0 < operations → 0 < length out)
    → 0 < operations + length os → 0 < length (out ++ unless_empty os text)
text_stays_nonempty [] out text operations long before some =
    let old = before (omega (arith, some)) in
    omega (arith, old, length-append out [])
text_stays_nonempty (o ∷ os) out text operations long before some = omega (arith, long, length-append out text)

-- a block has bytes
pub block_is_nonempty : (i : ℕ) (p : Plan) → 0 < length (block i p)
block_is_nonempty i p = omega arith
