-- Text that is written piece by piece.
use Rattle.std.proofs.Common.{◌≡◌, ℕ, false, eqb, List, [], ◌∷◌, ◌++◌, ◌+◌, ◌<◌, length, take, drop, refl, sym, ap, ◌∙◌, subst, append_assoc, append-nil, take-append-drop, length-append, arith}
use Rattle.std.proofs.Math.Seq.{take-append_seam}
use Rattle.std.proofs.lemmas.List.{drop-drop}
use Rattle.goal_base.specs.Device.{SinkState, Grows}
use Rattle.goal_cli.specs.Answer.{GrowsByPart}

-- nothing was written
pub grows_none : (a : SinkState) → Grows a a []
grows_none a = record { told = λ t. sym (append-nil a.bytes) }

-- some of the bytes that are made go to a page
pub page_appended : (page xs rest : List ℕ) (done count : ℕ)
    → page ++ (drop done xs ++ rest) ≡ (page ++ take count (drop done xs)) ++ (drop (done + count) xs ++ rest)
page_appended page xs rest done count =
    ap (λ (l : List ℕ). page ++ (l ++ rest))
    (sym (take-append-drop count (drop done xs)) ∙ ap (λ (l : List ℕ). take count (drop done xs) ++ l) (drop-drop count done xs))
    ∙ simp append_assoc

-- a number that is not 0
pub not_zero : (n : ℕ) → false ≡ eqb n 0 → n ≡ 0 → ⊥
not_zero n test none = let h : false ≡ eqb 0 0 = rw none at test in cc

-- what follows some bytes is shorter than both
pub rest_is_shorter : (all made rest : List ℕ) → all ≡ made ++ rest → (length made ≡ 0 → ⊥) → length rest < length all
rest_is_shorter all [] rest is some = absurd (some refl)
rest_is_shorter all (x ∷ made) rest is some = rw is (omega (arith, length-append (x ∷ made) rest))

-- a text, and then another
pub grows_by_append : (a b c : SinkState) (xs ys : List ℕ) → Grows a b xs → b.tells ≡ a.tells → Grows b c ys → Grows a c (xs ++ ys)
grows_by_append a b c xs ys first same more = record {
  told = λ t. more.told (same ∙ t) ∙ ap (λ (l : List ℕ). l ++ ys) (first.told t) ∙ append_assoc a.bytes xs ys;
}

-- bytes that were written are a prefix of these bytes with others appended
pub grows_by_part_of_append : (a b : SinkState) (xs ys : List ℕ) → Grows a b xs → GrowsByPart a b (xs ++ ys)
grows_by_part_of_append a b xs ys all = (length xs, subst (Grows a b) (sym (take-append_seam xs ys)) all)

-- a part of the first text is a part of both
pub part_of_first_is_part_of_append : (a b : SinkState) (xs ys : List ℕ) → GrowsByPart a b xs → GrowsByPart a b (xs ++ ys)
part_of_first_is_part_of_append a b xs ys part =
    let n = part.0 in
    subst (GrowsByPart a b) (sym (append_assoc (take n xs) (drop n xs) ys) ∙ ap (λ (l : List ℕ). l ++ ys) (take-append-drop n xs))
    (grows_by_part_of_append a b (take n xs) (drop n xs ++ ys) part.1)

-- a text, and then a part of another
pub part_then : (a b c : SinkState) (xs ys : List ℕ) → Grows a b xs → b.tells ≡ a.tells → GrowsByPart b c ys → GrowsByPart a c (xs ++ ys)
part_then a b c xs ys first same part =
    let n = part.0 in
    subst (GrowsByPart a c) (append_assoc xs (take n ys) (drop n ys) ∙ ap (λ (l : List ℕ). xs ++ l) (take-append-drop n ys))
    (grows_by_part_of_append a c (xs ++ take n ys) (drop n ys) (grows_by_append a b c xs (take n ys) first same part.1))
