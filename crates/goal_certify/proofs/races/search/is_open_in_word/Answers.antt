use Rattle.std.proofs.Common.{ℕ, ◌≡◌, ◌+◌, ◌*◌, ◌/◌, ◌%◌, ◌^◌, ◌<◌, ◌≤◌, get_or, sym, ap, subst, arith, w64}
use Rattle.std.specs.Prelude.{bit_and}
use Rattle.std.specs.Int.{bit_at, bit_not, trailing_zeros}
use Rattle.std.proofs.lemmas.Nat.{trailing_le}
use Rattle.std.proofs.lemmas.Nat.{and_le_l}
use Rattle.goal_certify.proofs.OpenPairs.{none_open}
use Rattle.goal_certify.proofs.Rows.{covered_if_bit_clear_same_row, below_lowest}
use Rattle.goal_certify.proofs.races.search.is_open_in_word.Goals as goal

pub loop-first-init : goal.loop-first-init
loop-first-init c x low high both =
    let at : ℕ = 32 * c.args.second + c.args.place in
    let word : ℕ = bit_and (get_or c.args.shared.now at 0) (bit_not w64 (get_or c.args.before.now at 0)) in
    let few : trailing_zeros w64 word ≤ 64 = trailing_le 64 word in
    let below : x < 64 * c.args.place + trailing_zeros w64 word = high in
    let here : x / 64 ≡ c.args.place = omega (arith, few, below, low) in
    let same : 32 * c.args.second + x / 64 ≡ at = ap (λ p. 32 * c.args.second + p) here in
    let fits : word < 2 ^ 64 = omega (arith, and_le_l (get_or c.args.shared.now at 0) (bit_not w64 (get_or c.args.before.now at 0)), c.type_inv.shared at) in
    let none : bit_at word (x % 64) ≡ 0 = below_lowest word (x % 64) fits (omega (arith, few, below, low)) in
    none_open c.args.before.now c.args.shared.now x c.args.second (omega (arith, here)) (omega arith) c.requires.mutual (λ there alone. covered_if_bit_clear_same_row c.args.shared.now c.args.before.now c.args.second x (omega (arith, here)) (omega (arith, c.type_inv.before (32 * c.args.second + x / 64))) (subst (λ (j : ℕ). bit_at (bit_and (get_or c.args.shared.now j 0) (bit_not w64 (get_or c.args.before.now j 0))) (x % 64) ≡ 0) (sym same) none) there alone) both
