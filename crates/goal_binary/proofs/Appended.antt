-- What is appended to bytes: items in a loop, or a few pieces.
use Rattle.std.proofs.Common.{◌≡◌, ◌+◌, ◌<◌, ℕ, List, ◌++◌, length, take, get_or, sym, ap, ◌∙◌, append_assoc}
use Rattle.std.specs.List.{flat_map}
use Rattle.std.proofs.lemmas.List.{flat_map_more, take_more}

-- another item
pub spelled_items_with_next : {X : Type 0} (spelled : X → List ℕ) (before out new : List ℕ) (xs : List X) (i : ℕ) (x : X) → i < length xs → out ≡ before ++ flat_map spelled (take i xs) → new ≡ out ++ spelled (get_or xs i x) → new ≡ before ++ flat_map spelled (take (i + 1) xs)
spelled_items_with_next spelled before out new xs i x l so_far now =
    now ∙ ap (λ bytes. bytes ++ spelled (get_or xs i x)) so_far ∙ flat_map_more spelled before (take i xs) (get_or xs i x) ∙ ap (λ ys. before ++ flat_map spelled ys) (sym (take_more xs i x l))

-- four pieces, one after another
pub append_of_four_pieces : (before a b c d w x y z : List ℕ) → w ≡ before ++ a → x ≡ w ++ b → y ≡ x ++ c → z ≡ y ++ d → z ≡ before ++ (a ++ b ++ c ++ d)
append_of_four_pieces before a b c d w x y z first second third fourth =
    fourth ∙ ap (λ bytes. bytes ++ d) (third ∙ ap (λ bytes. bytes ++ c) (second ∙ ap (λ bytes. bytes ++ b) first)) ∙ simp append_assoc
