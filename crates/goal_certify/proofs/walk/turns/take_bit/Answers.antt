use Rattle.std.proofs.Common.{ℕ, ◌≡◌, ◌/◌, ◌%◌, ◌*◌, ◌^◌, false, get_or, set, sym, subst, ◌∙◌, w64}
use Rattle.std.specs.Prelude.{bit_and}
use Rattle.std.specs.Int.{bit_not}
use Rattle.std.proofs.lemmas.List.{get_or_default}
use Rattle.goal_certify.specs.Turns.{is_on}
use Rattle.goal_certify.proofs.Turns.{off_taken, others_taken}
use Rattle.goal_certify.proofs.walk.turns.take_bit.Goals as goal

pub returns-clause-off : goal.returns-clause-off
returns-clause-off c =
    let i : ℕ = c.args.at / 64 in
    let word : c.index_mut.result.now ≡ get_or c.args.words.now.items i 0 = c.index_mut.ensures.value ∙ get_or_default c.args.words.now.items i _ 0 c.requires in
    subst (λ (w : ℕ). is_on (set c.args.words.now.items i (bit_and w (bit_not w64 (1 * 2 ^ (c.args.at % 64) % 2 ^ 64)))) c.args.at ≡ false) (sym word) (off_taken c.args.words.now.items c.args.at c.requires)

pub returns-clause-others : goal.returns-clause-others
returns-clause-others c k apart =
    let i : ℕ = c.args.at / 64 in
    let word : c.index_mut.result.now ≡ get_or c.args.words.now.items i 0 = c.index_mut.ensures.value ∙ get_or_default c.args.words.now.items i _ 0 c.requires in
    subst (λ (w : ℕ). is_on (set c.args.words.now.items i (bit_and w (bit_not w64 (1 * 2 ^ (c.args.at % 64) % 2 ^ 64)))) k ≡ is_on c.args.words.now.items k) (sym word) (others_taken c.args.words.now.items c.args.at c.requires k apart)
