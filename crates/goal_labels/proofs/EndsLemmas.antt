-- Labels of 4 to 8 bytes are equal if their first four and last four bytes are.
use Rattle.std.proofs.Common.{◌≡◌, ℕ, ◌+◌, ◌-◌, ◌≤◌, true, false, List, ◌++◌, length, take, drop, bytes_eq, sym, ap, ◌∙◌, arith, length-drop, take-append-drop}
use Rattle.std.specs.Bool.{one_answer}
use Rattle.std.proofs.lemmas.Slice.Eq.{bytes_eq-Decides}
use Rattle.std.proofs.lemmas.List.{take_rest, take_all, take-take}

-- the last four bytes, as code takes them
abbrev last_four : List ℕ → ℕ → List ℕ
last_four xs far = take 4 (take (length xs - far) (drop far xs))

-- these are all bytes after the first ones
last_four_is_rest : (xs : List ℕ) (far : ℕ) → far + 4 ≡ length xs → last_four xs far ≡ drop far xs
last_four_is_rest xs far long =
    let count = length-drop far xs in
    ap (take 4) (take_rest xs far) ∙ take_all 4 (drop far xs) (omega (arith, count, long))

-- lists that agree in their first 4 bytes and from `far` ≤ 4 on are equal
whole_by_ends : (xs ys : List ℕ) (far : ℕ) → far ≤ 4 → take 4 xs ≡ take 4 ys → drop far xs ≡ drop far ys → xs ≡ ys
whole_by_ends xs ys far few front back =
    sym (take-append-drop far xs)
    ∙ ap (λ (l : List ℕ). l ++ drop far xs) (sym (take-take far 4 xs few) ∙ ap (take far) front ∙ take-take far 4 ys few)
    ∙ ap (λ (l : List ℕ). take far ys ++ l) back
    ∙ take-append-drop far ys

-- if the last four bytes are equal, the first four decide equality
pub first_four_decide_equality : (xs ys : List ℕ) (far : ℕ) → far + 4 ≡ length xs → far + 4 ≡ length ys → far ≤ 4 →
    bytes_eq (last_four xs far) (last_four ys far) ≡ true → bytes_eq (take 4 xs) (take 4 ys) ≡ bytes_eq xs ys
first_four_decide_equality xs ys far one other few alike =
    let back : drop far xs ≡ drop far ys =
    sym (last_four_is_rest xs far one) ∙ (bytes_eq-Decides (last_four xs far) (last_four ys far)).0 alike ∙ last_four_is_rest ys far other in
    one_answer {P = xs ≡ ys} (bytes_eq (take 4 xs) (take 4 ys)) (bytes_eq xs ys) (
      λ told. whole_by_ends xs ys far few ((bytes_eq-Decides (take 4 xs) (take 4 ys)).0 told) back,
      λ same. (bytes_eq-Decides (take 4 xs) (take 4 ys)).1 (ap (take 4) same),
    ) (bytes_eq-Decides xs ys)

-- if they differ, the labels differ
pub last_four_decide_difference : (xs ys : List ℕ) (far : ℕ) → bytes_eq (last_four xs far) (last_four ys far) ≡ false → false ≡ bytes_eq xs ys
last_four_decide_difference xs ys far other =
    one_answer {P = xs ≡ ys} false (bytes_eq xs ys) (
      λ told. absurd cc,
      λ same. sym other ∙ (bytes_eq-Decides (last_four xs far) (last_four ys far)).1 (ap (λ (l : List ℕ). last_four l far) same),
    ) (bytes_eq-Decides xs ys)
