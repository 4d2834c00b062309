use Rattle.std.proofs.Common.{ℕ, ◌≡◌, ◌/◌, ◌%◌, ◌*◌, ◌^◌, true, get_or, set, sym, subst, ◌∙◌}
use Rattle.std.specs.Prelude.{bit_or}
use Rattle.std.proofs.lemmas.List.{get_or_default}
use Rattle.goal_certify.specs.Turns.{is_on}
use Rattle.goal_certify.proofs.Turns.{on_put, others_put}
use Rattle.goal_certify.proofs.walk.turns.put_bit.Goals as goal

pub returns-clause-on : goal.returns-clause-on
returns-clause-on c =
    let i : ℕ = c.args.at / 64 in
    let word : c.index_mut.result.now ≡ get_or c.args.words.now.items i 0 = c.index_mut.ensures.value ∙ get_or_default c.args.words.now.items i _ 0 c.requires in
    subst (λ (w : ℕ). is_on (set c.args.words.now.items i (bit_or w (1 * 2 ^ (c.args.at % 64) % 2 ^ 64))) c.args.at ≡ true) (sym word) (on_put c.args.words.now.items c.args.at c.requires)

pub returns-clause-others : goal.returns-clause-others
returns-clause-others c k apart =
    let i : ℕ = c.args.at / 64 in
    let word : c.index_mut.result.now ≡ get_or c.args.words.now.items i 0 = c.index_mut.ensures.value ∙ get_or_default c.args.words.now.items i _ 0 c.requires in
    subst (λ (w : ℕ). is_on (set c.args.words.now.items i (bit_or w (1 * 2 ^ (c.args.at % 64) % 2 ^ 64))) k ≡ is_on c.args.words.now.items k) (sym word) (others_put c.args.words.now.items c.args.at c.requires k apart)
