-- Reading items one after another, as a loop does.
use Rattle.std.proofs.Common.{◌≡◌, ℕ, suc, ◌-◌, ◌+◌, ◌≤◌, ◌<◌, List, [], ◌∷◌, ◌++◌, Ok, Err, refl, sym, ap, ◌∙◌, append_assoc, arith}
use Rattle.std.proofs.lemmas.List.{append-nil}
use Rattle.goal_binary.specs.declared.fault.FileFault.{FileFault}
use Rattle.goal_binary.specs.Fields.{Read, ◌>>=◌}
use Rattle.goal_binary.specs.Reading.{list_at}

-- what was read before, and what remains to be read
abbrev pub with_front : {A : Type 0} → List A → Read (List A) → Read (List A)
with_front front read = read >>= λ x. Ok (front ++ x.0, x.1)

front_takes_next_item : {A : Type 0} (front : List A) (x : A) (read : Read (List A)) → with_front front (read >>= λ xs. Ok (x ∷ xs.0, xs.1)) ≡ with_front (front ++ x ∷ []) read
front_takes_next_item front x (Ok xs) = ap (λ ys. Ok (ys, xs.1)) (simp append_assoc)
front_takes_next_item front x (Err f) = refl

module _ {A : Type 0} (item_at : ℕ → Read A) where
  pub list_read_continues_after_item : (front : List A) (count i at : ℕ) (x : A) (after : ℕ) (total : Read (List A)) → i < count → item_at at ≡ Ok (x, after)
      → with_front front (list_at item_at (count - i) at) ≡ total → with_front (front ++ x ∷ []) (list_at item_at (count - (i + 1)) after) ≡ total
  unfolding list_at
  list_read_continues_after_item front count i at x after total lt h so_far =
      let k : count - i ≡ suc (count - (i + 1)) = omega arith in
      let one : with_front front (list_at item_at (count - i) at) ≡ with_front (front ++ x ∷ []) (list_at item_at (count - (i + 1)) after) = rw (k, h) (front_takes_next_item front x (list_at item_at (count - (i + 1)) after)) in
      sym one ∙ so_far

  pub list_read_fails_with_item : (f : FileFault) (front : List A) (count i at : ℕ) (total : Read (List A)) → i < count → item_at at ≡ Err f
      → with_front front (list_at item_at (count - i) at) ≡ total → total ≡ Err f
  unfolding list_at
  list_read_fails_with_item f front count i at total lt h so_far =
      let k : count - i ≡ suc (count - (i + 1)) = omega arith in
      let one : with_front front (list_at item_at (count - i) at) ≡ Err f = rw (k, h) refl in
      sym so_far ∙ one

  pub is_done : (front : List A) (count i at : ℕ) (total : Read (List A)) → count ≤ i → with_front front (list_at item_at (count - i) at) ≡ total → total ≡ Ok (front, at)
  unfolding list_at
  is_done front count i at total le so_far =
      let k : count - i ≡ 0 = omega arith in
      let one : with_front front (list_at item_at (count - i) at) ≡ Ok (front, at) = rw k (ap (λ xs. Ok (xs, at)) (append-nil front)) in
      sym so_far ∙ one
