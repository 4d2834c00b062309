-- The labels of a block are those of its operations.
use Rattle.std.proofs.Common.{◌≡◌, ◌≢◌, ℕ, ◌+◌, ◌^◌, ◌<◌, ◌≤◌, Bool, true, false, List, [], ◌∷◌, ◌++◌, Option, Some, None, if◌then◌else◌, bytes_eq, nat_eq, decimal, refl, ap, subst, ◌∙◌, arith}
use Rattle.std.specs.Option.{option_or}
use Rattle.std.proofs.lemmas.Fmt.{decimal_injective}
use Rattle.std.proofs.lemmas.Bool.Decides.{nat_tests}
use Rattle.std.proofs.lemmas.Slice.Eq.{bytes_eq-Decides}
use Rattle.goal_parser.specs.declared.head.Mention.{Mention}
use Rattle.goal_parser.specs.Items.{Definition, defined_as, first_outside}
use Rattle.goal_print.specs.Canonical.{label}
use Rattle.goal_parser.proofs.ForCallers.{defined_as-append}

label_injective : (i j : ℕ) → i < 2 ^ 32 → j < 2 ^ 32 → label i ≡ label j → i ≡ j
label_injective i j i_fits j_fits same =
    let numbers : decimal (i + 1) ≡ decimal (j + 1) = cc in
    let is : i + 1 ≡ j + 1 = decimal_injective (i + 1) (j + 1) (omega arith) (omega arith) numbers in
    omega arith

label_same : (i : ℕ) → bytes_eq (label i) (label i) ≡ true
label_same i = (bytes_eq-Decides (label i) (label i)).1 refl

label_other : (i j : ℕ) → i < 2 ^ 32 → j < 2 ^ 32 → i ≢ j → bytes_eq (label i) (label j) ≡ false
label_other i j i_fits j_fits other = by (bytes_eq (label i) (label j)) refl
  where
    by : (b : Bool) → bytes_eq (label i) (label j) ≡ b → bytes_eq (label i) (label j) ≡ false
    by true is = absurd (other (label_injective i j i_fits j_fits ((bytes_eq-Decides (label i) (label j)).0 is)))
    by false is = is

-- the first n labels are defined, each with its number, and no others
pub record Knows (ds : List Definition) (n : ℕ) : Type 0 where
  pub there : (i : ℕ) → i < n → defined_as ds (label i) ≡ Some i
  pub new : (i : ℕ) → n ≤ i → i < 2 ^ 32 → defined_as ds (label i) ≡ None

pub knows_no_labels : Knows [] 0
unfolding defined_as
knows_no_labels = record { there = λ i below. absurd (omega arith); new = λ i above fits. refl }

pub knows_with_next_label : (ds : List Definition) (n : ℕ) → n < 2 ^ 32 → Knows ds n → Knows (ds ++ record { label = label n; op = n } ∷ []) (n + 1)
knows_with_next_label ds n fits knows = record {
  there = λ i below. defined_as-append ds (record { label = label n; op = n }) (label i) ∙ there_now i below (nat_eq i n) refl;
  new = λ i above i_fits.
      defined_as-append ds (record { label = label n; op = n }) (label i)
      ∙ ap (λ (o : Option ℕ). option_or o (if bytes_eq (label i) (label n) then Some n else None)) (knows.new i (omega arith) i_fits)
      ∙ ap (λ (b : Bool). if b then Some n else None) (label_other i n i_fits fits (λ e. omega arith));
}
  where
    old : (i : ℕ) → i < n → option_or (defined_as ds (label i)) (if bytes_eq (label i) (label n) then Some n else None) ≡ Some i
    old i below = ap (λ (o : Option ℕ). option_or o (if bytes_eq (label i) (label n) then Some n else None)) (knows.there i below)

    newest : option_or (defined_as ds (label n)) (if bytes_eq (label n) (label n) then Some n else None) ≡ Some n
    newest =
        ap (λ (o : Option ℕ). option_or o (if bytes_eq (label n) (label n) then Some n else None)) (knows.new n (omega arith) fits)
        ∙ ap (λ (b : Bool). if b then Some n else None) (label_same n)

    there_now : (i : ℕ) → i < n + 1 → (b : Bool) → nat_eq i n ≡ b → option_or (defined_as ds (label i)) (if bytes_eq (label i) (label n) then Some n else None) ≡ Some i
    there_now i below true is = let e : n ≡ i = grind (arith, nat_tests) in subst (λ (j : ℕ). option_or (defined_as ds (label j)) (if bytes_eq (label j) (label n) then Some n else None) ≡ Some j) e newest
    there_now i below false is = old i (grind (arith, nat_tests))

-- another use of a label that passes a test

pub no_outside_label_after_append : (test : List ℕ → Bool) (us : List Mention) (u : Mention) → first_outside test us ≡ None → test u.label ≡ true → first_outside test (us ++ u ∷ []) ≡ None
unfolding first_outside
no_outside_label_after_append test [] u none passes = ap (λ (b : Bool). if b then None else Some u.at) passes
no_outside_label_after_append test (f ∷ us) u none passes = by (test f.label) none (λ h. no_outside_label_after_append test us u h passes)
  where
    by : (b : Bool) → (if b then first_outside test us else Some f.at) ≡ None → (first_outside test us ≡ None → first_outside test (us ++ u ∷ []) ≡ None)
        → (if b then first_outside test (us ++ u ∷ []) else Some f.at) ≡ None
    by true h rest = rest h
    by false h rest = cc

pub no_outside_label_in_empty : (test : List ℕ → Bool) → first_outside test [] ≡ None
unfolding first_outside
no_outside_label_in_empty test = refl
