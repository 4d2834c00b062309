-- Numbers of labels.
use Rattle.std.proofs.Common.{◌≡◌, ℕ, Bool, true, false, cond, List, [], Option, Some, None, refl, sym, ap, ◌∙◌, bytes_eq, if◌then◌else◌, nat_cmp, nat_eq}
use Rattle.std.specs.Option.{option_or}
use Rattle.std.specs.Map.{lookup}
use Rattle.std.specs.BTreeMap.{is_at}
use Rattle.std.specs.Cmp.Lexicographic.{pointwise, slice_cmp}
use Rattle.std.proofs.lemmas.Map.Text.{is_eq-slice_cmp}
use Rattle.std.proofs.lemmas.Slice.Eq.{bytes_eq-Decides}
use Rattle.goal_labels.specs.declared.numbers.LabelNumbers.{LabelNumbers}
use Rattle.goal_labels.specs.Numbers.{hashed_at, ordered_at, number_of}

-- a table without labels
pub empty_table_numbers_none : (numbers : LabelNumbers) → numbers.hashed.entries ≡ [] → numbers.ordered.entries ≡ [] → (label : List ℕ) → number_of numbers label ≡ None
unfolding number_of
empty_table_numbers_none numbers hashed ordered label =
    ap (λ es. option_or (lookup (pointwise nat_eq label) es) (ordered_at numbers label)) hashed
    ∙ ap (lookup (is_at (slice_cmp nat_cmp label))) ordered

-- what a lookup found by the hash
pub hashed_number : (numbers : LabelNumbers) (key label : List ℕ) → key ≡ label → (n : ℕ) → Some n ≡ hashed_at numbers key → Some n ≡ number_of numbers label
unfolding number_of
hashed_number numbers key label same n is = ap (λ (o : Option ℕ). option_or o (ordered_at numbers label)) (is ∙ ap (hashed_at numbers) same)

-- what a lookup in the ordered map found, if none was found by the hash
pub ordered_number : (numbers : LabelNumbers) (one key label : List ℕ) → one ≡ label → key ≡ label → None ≡ hashed_at numbers one
    → (o : Option ℕ) → o ≡ ordered_at numbers key → o ≡ number_of numbers label
unfolding number_of
ordered_number numbers one key label first second none o is =
    is ∙ ap (ordered_at numbers) second ∙ ap (λ (h : Option ℕ). option_or h (ordered_at numbers label)) (none ∙ ap (hashed_at numbers) first)

-- a label gets a number
module _ (old new : LabelNumbers) (key label : List ℕ) (n : ℕ) (same : key ≡ label) where
  -- the label gets its number in the hash table
  pub number_after_hashed_insert : new.ordered ≡ old.ordered → ((q : List ℕ) → hashed_at new q ≡ cond (bytes_eq key q) (Some n) (hashed_at old q))
      → (q : List ℕ) → number_of new q ≡ (if bytes_eq label q then Some n else number_of old q)
  unfolding number_of
  number_after_hashed_insert kept gives q =
      ap (λ (h : Option ℕ). option_or h (ordered_at new q)) (gives q ∙ ap (λ (k : List ℕ). cond (bytes_eq k q) (Some n) (hashed_at old q)) same)
      ∙ ap (λ m. option_or (cond (bytes_eq label q) (Some n) (hashed_at old q)) (ordered_at (record { hashed = old.hashed; ordered = m }) q)) kept
      ∙ by (bytes_eq label q)
    where
      by : (b : Bool) → option_or (cond b (Some n) (hashed_at old q)) (ordered_at old q) ≡ (if b then Some n else option_or (hashed_at old q) (ordered_at old q))
      by true = refl
      by false = refl

  -- the label gets its number in the ordered map
  pub number_after_ordered_insert : new.hashed ≡ old.hashed → number_of old label ≡ None
      → ((q : List ℕ) → ordered_at new q ≡ cond (is_at (slice_cmp nat_cmp key) q) (Some n) (ordered_at old q))
      → (q : List ℕ) → number_of new q ≡ (if bytes_eq label q then Some n else number_of old q)
  unfolding number_of
  number_after_ordered_insert kept absent gives q =
      ap (option_or (hashed_at new q)) (gives q ∙ ap (λ (c : Bool). cond c (Some n) (ordered_at old q)) (is_eq-slice_cmp key q ∙ ap (λ (k : List ℕ). bytes_eq k q) same))
      ∙ ap (λ m. option_or (hashed_at (record { hashed = m; ordered = old.ordered }) q) (cond (bytes_eq label q) (Some n) (ordered_at old q))) kept
      ∙ by (bytes_eq label q) refl
    where
      unhashed : (o : Option ℕ) → hashed_at old label ≡ o → option_or o (ordered_at old label) ≡ None → o ≡ None
      unhashed None told none = refl
      unhashed (Some i) told none = none

      by : (b : Bool) → bytes_eq label q ≡ b
          → option_or (hashed_at old q) (cond b (Some n) (ordered_at old q)) ≡ (if b then Some n else option_or (hashed_at old q) (ordered_at old q))
      by true told =
          ap (λ (h : Option ℕ). option_or h (Some n))
          (sym (ap (hashed_at old) ((bytes_eq-Decides label q).0 told)) ∙ unhashed (hashed_at old label) refl absent)
      by false told = refl
