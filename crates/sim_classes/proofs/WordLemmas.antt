-- The words of a text, one after another.
use Rattle.std.proofs.Common.{ℕ, Bool, true, false, List, [], ◌∷◌, ◌≡◌, ◌≢◌, ◌+◌, ◌<◌, length, cond, not, refl, sym, ap, ◌∙◌, take, drop, filter, arith, suc, add-one, ◌-◌, subst}
use Rattle.std.proofs.lemmas.List.{take_all, length-drop, nil_from_length}
use Rattle.std.proofs.lemmas.Bool.{lt-ltb}
use Rattle.std.proofs.lemmas.List.Folds.{length-prefix_len}
use Rattle.std.specs.Prelude.{nat_lt}
use Rattle.std.specs.List.{slice_split, onto_first, prefix_len}
use Rattle.sim_classes.specs.Form.{is_blank, words}

one_plus : (n : ℕ) → 1 + n ≡ suc n
one_plus n = omega arith ∙ add-one n

-- a part that is a word
abbrev is_nonempty_part : List ℕ → Bool
is_nonempty_part w = nat_lt 0 (length w)

-- the parts after the first one, by what follows it
rest_of : List ℕ → List (List ℕ)
rest_of [] = []
rest_of (c ∷ cs) = slice_split is_blank cs

abbrev no_blank : ℕ → Bool
no_blank b = not (is_blank b)

-- the length of the first part
abbrev first_len : List ℕ → ℕ
first_len xs = prefix_len no_blank xs

split_is_first_and_rest : (xs : List ℕ) → slice_split is_blank xs ≡ take (first_len xs) xs ∷ rest_of (drop (first_len xs) xs)
unfolding rest_of
split_is_first_and_rest [] = refl
split_is_first_and_rest (x ∷ xs) = go (is_blank x) (split_is_first_and_rest xs)
  where
    go : (b : Bool) → slice_split is_blank xs ≡ take (first_len xs) xs ∷ rest_of (drop (first_len xs) xs) → cond b ([] ∷ slice_split is_blank xs) (onto_first x (slice_split is_blank xs)) ≡ take (cond (not b) (1 + first_len xs) 0) (x ∷ xs) ∷ rest_of (drop (cond (not b) (1 + first_len xs) 0) (x ∷ xs))
    go true e = refl
    go false e = rw (one_plus (first_len xs)) (ap (onto_first x) e)

rest_words : (xs : List ℕ) → filter is_nonempty_part (rest_of (drop (first_len xs) xs)) ≡ filter is_nonempty_part (slice_split is_blank (drop (first_len xs) xs))
unfolding rest_of
rest_words [] = refl
rest_words (x ∷ xs) = go (is_blank x) refl (rest_words xs)
  where
    go : (b : Bool) → is_blank x ≡ b → filter is_nonempty_part (rest_of (drop (first_len xs) xs)) ≡ filter is_nonempty_part (slice_split is_blank (drop (first_len xs) xs)) → filter is_nonempty_part (rest_of (drop (cond (not b) (1 + first_len xs) 0) (x ∷ xs))) ≡ filter is_nonempty_part (slice_split is_blank (drop (cond (not b) (1 + first_len xs) 0) (x ∷ xs)))
    go true e h = rw e refl
    go false e h = rw (one_plus (first_len xs)) h

-- blanks at the front are no part of a word
pub words_after_blanks : (xs : List ℕ) → words xs ≡ words (drop (prefix_len is_blank xs) xs)
unfolding words
words_after_blanks [] = refl
words_after_blanks (x ∷ xs) = skip_by x xs (is_blank x) refl (words_after_blanks xs)
  where
    skip_by : (x : ℕ) (xs : List ℕ) (b : Bool) → is_blank x ≡ b → filter is_nonempty_part (slice_split is_blank xs) ≡ filter is_nonempty_part (slice_split is_blank (drop (prefix_len is_blank xs) xs)) → filter is_nonempty_part (cond b ([] ∷ slice_split is_blank xs) (onto_first x (slice_split is_blank xs))) ≡ filter is_nonempty_part (slice_split is_blank (drop (cond b (1 + prefix_len is_blank xs) 0) (x ∷ xs)))
    skip_by x xs true e h = rw (one_plus (prefix_len is_blank xs)) h
    skip_by x xs false e h = rw e refl

pub no_words : words [] ≡ []
unfolding words
no_words = refl

-- what follows the blanks at the front is not a blank
pub word_after_blanks_is_nonempty : (xs : List ℕ) → 0 < length (drop (prefix_len is_blank xs) xs) → 0 < first_len (drop (prefix_len is_blank xs) xs)
word_after_blanks_is_nonempty [] some = omega (arith, some)
word_after_blanks_is_nonempty (x ∷ xs) some = go (is_blank x) refl some (word_after_blanks_is_nonempty xs)
  where
    go : (b : Bool) → is_blank x ≡ b → 0 < length (drop (cond b (1 + prefix_len is_blank xs) 0) (x ∷ xs)) → (0 < length (drop (prefix_len is_blank xs) xs) → 0 < first_len (drop (prefix_len is_blank xs) xs)) → 0 < first_len (drop (cond b (1 + prefix_len is_blank xs) 0) (x ∷ xs))
    go true e some h = rw (one_plus (prefix_len is_blank xs)) (h (rw (one_plus (prefix_len is_blank xs)) at some))
    go false e some h = rw e (omega arith)

-- a part that is not empty is the first word
pub first_word : (xs : List ℕ) → 0 < first_len xs → words xs ≡ take (first_len xs) xs ∷ words (drop (first_len xs) xs)
unfolding words
first_word xs some =
    ap (filter is_nonempty_part) (split_is_first_and_rest xs) ∙ kept (take (first_len xs) xs) (rest_of (drop (first_len xs) xs)) (lt-ltb 0 _ (omega (arith, length-prefix_len no_blank xs, some))) ∙ ap (λ (ws : List (List ℕ)). take (first_len xs) xs ∷ ws) (rest_words xs)
  where
    kept : (w : List ℕ) (ws : List (List ℕ)) → is_nonempty_part w ≡ true → filter is_nonempty_part (w ∷ ws) ≡ w ∷ filter is_nonempty_part ws
    kept w ws e = rw e refl

module _ (xs : List ℕ) (n : ℕ) (front : n ≡ prefix_len is_blank xs) where
  -- the rest after the blanks, as a part of a slice
  abbrev tail : List ℕ
  tail = take (length xs - n) (drop n xs)

  tail_is_after_blanks : tail ≡ drop (prefix_len is_blank xs) xs
  tail_is_after_blanks = take_all (length xs - n) (drop n xs) (omega (arith, length-drop n xs)) ∙ ap (λ (k : ℕ). drop k xs) front

  pub no_words_in_empty_tail : length tail ≡ 0 → words xs ≡ []
  no_words_in_empty_tail none = words_after_blanks xs ∙ ap words (sym tail_is_after_blanks ∙ nil_from_length _ none) ∙ no_words

  pub next_word_of_tail : (k : ℕ) → k ≡ first_len tail → 0 < length tail → words xs ≡ take k tail ∷ words (drop k tail)
  next_word_of_tail k is some =
      words_after_blanks xs ∙ ap words (sym tail_is_after_blanks)
      ∙ first_word tail (subst (λ (ys : List ℕ). 0 < first_len ys) (sym tail_is_after_blanks) (word_after_blanks_is_nonempty xs (omega (arith, ap length tail_is_after_blanks, some))))
      ∙ ap (λ (j : ℕ). take j tail ∷ words (drop j tail)) (sym is)

pub not_zero_is_positive : (n : ℕ) → n ≢ 0 → 0 < n
not_zero_is_positive n h = omega (arith, h)
