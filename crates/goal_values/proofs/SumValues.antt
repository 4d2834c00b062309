-- The meaning of the sums so far, and of another one.
use Rattle.std.proofs.Common.{ℕ, zero, suc, ◌≡◌, ◌-◌, ◌+◌, ◌<◌, ◌≤◌, List, [], ◌∷◌, ◌++◌, length, get_or, Some, slice_get, refl, sym, ap, ap₂, ◌∙◌, subst, inl, inr, arith, length-append}
use Rattle.std.proofs.lemmas.Bool.{cases_lt}
use Rattle.std.proofs.lemmas.Option.{slice_get_within, slice_get_read, get_or_from_slice_get}
use Rattle.std.proofs.Math.ListN.{get_or-append}
use Rattle.std.proofs.Math.Seq.{get_or-append_seam, get_or-append_right}
use Rattle.std.proofs.lemmas.List.{get_or_past}
use Rattle.goal_blocks.specs.Values.{Value, merge}
use Rattle.goal_blocks.specs.Stored.{IsSorted}
use Rattle.goal_blocks.proofs.ForCallers.{length_merge, sorted_merge}
use Rattle.goal_values.specs.declared.sums.Term.{Term}
use Rattle.goal_values.specs.declared.sums.Term.TheVariants.{Nothing, One, Made}
use Rattle.goal_values.specs.declared.sums.Sum.{Sum}
use Rattle.goal_values.specs.Sums.{meaning, IsBelow}
use Rattle.goal_values.specs.Parts.{values_of_sums, IsSum, AreSums}

-- both parts of a sum together
abbrev pub sum_in : List Value → Sum → Value
sum_in known s = merge (meaning known s.left) (meaning known s.right)

-- another sum gives another value
pub values_of_one_more : (known : List Value) (sums : List Sum) (s : Sum) → values_of_sums known (sums ++ s ∷ []) ≡ values_of_sums known sums ++ sum_in (values_of_sums known sums) s ∷ []
unfolding values_of_sums
values_of_one_more known [] s = refl
values_of_one_more known (t ∷ sums) s = values_of_one_more (known ++ sum_in known t ∷ []) sums s

-- later values do not change the meaning of a term that refers to an earlier one
pub meaning_stays : (known more : List Value) (t : Term) → IsBelow (length known) t → meaning (known ++ more) t ≡ meaning known t
meaning_stays known more Nothing below = refl
meaning_stays known more (One c) below = refl
meaning_stays known more (Made i) below = get_or-append known more [] i below

pub is_below_larger_bound : (n m : ℕ) (t : Term) → n ≤ m → IsBelow n t → IsBelow m t
is_below_larger_bound n m Nothing few below = tt
is_below_larger_bound n m (One c) few below = tt
is_below_larger_bound n m (Made i) few below = omega (arith, below)

pub meaning_sorted : (sums : List Value) (t : Term) → ((i : ℕ) → IsSorted (get_or sums i [])) → IsSorted (meaning sums t)
meaning_sorted sums Nothing sorted = tt
meaning_sorted sums (One c) sorted = (tt, tt)
meaning_sorted sums (Made i) sorted = sorted i

pub are_sums_of_empty : AreSums []
unfolding values_of_sums
are_sums_of_empty = record {
  each = λ i s at. absurd (omega (arith, slice_get_within {A = Sum} [] i s at));
  sorted = λ i. subst IsSorted (sym (get_or_past [] i [] (omega arith))) tt;
  many = refl;
}

module _ (sums : List Sum) (are : AreSums sums) (s : Sum) where
  abbrev values : List Value
  values = values_of_sums [] sums

  abbrev values_with_sum : List Value
  values_with_sum = values ++ sum_in values s ∷ []

  -- an existing sum is unchanged
  earlier_sum_stays : (i : ℕ) (t : Sum) → slice_get sums i ≡ Some t → IsSum values_with_sum i t
  earlier_sum_stays i t at =
      let is = are.each i t at in
      let inside : i < length values = omega (arith, slice_get_within sums i t at, are.many) in
      let left : meaning values_with_sum t.left ≡ meaning values t.left = meaning_stays values _ t.left (is_below_larger_bound i (length values) t.left (omega arith) is.left) in
      let right : meaning values_with_sum t.right ≡ meaning values t.right = meaning_stays values _ t.right (is_below_larger_bound i (length values) t.right (omega arith) is.right) in
      let here : get_or values_with_sum i [] ≡ get_or values i [] = get_or-append values (sum_in values s ∷ []) [] i inside in
      record {
        left = is.left;
        right = is.right;
        value = here ∙ is.value ∙ ap₂ merge (sym left) (sym right);
        some_left = omega (arith, is.some_left, ap length left);
        some_right = omega (arith, is.some_right, ap length right);
        size = is.size ∙ sym (ap length here);
      }

  module _ (left : IsBelow (length values) s.left) (right : IsBelow (length values) s.right) (some_left : 0 < length (meaning values s.left)) (some_right : 0 < length (meaning values s.right)) (size : s.size ≡ length (meaning values s.left) + length (meaning values s.right)) where
    new : IsSum values_with_sum (length values) s
    new =
        let here : get_or values_with_sum (length values) [] ≡ sum_in values s = get_or-append_seam values (sum_in values s) [] [] in
        let e : meaning values_with_sum s.left ≡ meaning values s.left = meaning_stays values _ s.left left in
        let f : meaning values_with_sum s.right ≡ meaning values s.right = meaning_stays values _ s.right right in
        record {
          left = left;
          right = right;
          value = here ∙ ap₂ merge (sym e) (sym f);
          some_left = omega (arith, some_left, ap length e);
          some_right = omega (arith, some_right, ap length f);
          size = omega (arith, size, ap length here, length_merge (meaning values s.left) (meaning values s.right));
        }

    each_after : (i : ℕ) (t : Sum) → slice_get (sums ++ s ∷ []) i ≡ Some t → IsSum values_with_sum i t
    each_after i t at =
        let inside : i < length (sums ++ s ∷ []) = slice_get_within (sums ++ s ∷ []) i t at in
        let here : get_or (sums ++ s ∷ []) i t ≡ t = get_or_from_slice_get (sums ++ s ∷ []) i t t at in
        elim (cases_lt i (length sums)) [
          | inl before ↦
              earlier_sum_stays i t (slice_get_read sums (length sums) i t refl before (sym here ∙ get_or-append sums (s ∷ []) t i before))
          | inr past ↦
              let last : i ≡ length sums = omega (arith, inside, past, length-append sums (s ∷ [])) in
              let same : s ≡ t = sym (get_or-append_seam sums s [] t) ∙ ap (λ (k : ℕ). get_or (sums ++ s ∷ []) k t) (sym last) ∙ here in
              let place : length values ≡ i = omega (arith, last, are.many) in
              subst (λ (u : Sum). IsSum values_with_sum i u) same (subst (λ (k : ℕ). IsSum values_with_sum k s) place new)
        ]

    sorted_after : (i : ℕ) → IsSorted (get_or values_with_sum i [])
    sorted_after i =
        elim (cases_lt i (length values)) [
          | inl inside ↦ subst IsSorted (sym (get_or-append values (sum_in values s ∷ []) [] i inside)) (are.sorted i)
          | inr past ↦ subst IsSorted (sym (get_or-append_right values (sum_in values s ∷ []) i [] past)) (one (i - length values))
        ]
      where
        one : (j : ℕ) → IsSorted (get_or (sum_in values s ∷ []) j [])
        one zero = sorted_merge (meaning values s.left) (meaning values s.right) (meaning_sorted values s.right are.sorted)
        one (suc j) = subst IsSorted (sym (get_or_past [] j [] (omega arith))) tt

    pub sums_more : AreSums (sums ++ s ∷ [])
    sums_more = record {
      each = λ i t at. subst (λ (vs : List Value). IsSum vs i t) (sym (values_of_one_more [] sums s)) (each_after i t at);
      sorted = λ i. subst (λ (vs : List Value). IsSorted (get_or vs i [])) (sym (values_of_one_more [] sums s)) (sorted_after i);
      many = omega (arith, ap length (values_of_one_more [] sums s), length-append values (sum_in values s ∷ []), length-append sums (s ∷ []), are.many);
    }

-- a sum that is read says how many contributions its value has
pub size_of_value : (sums : List Sum) → AreSums sums → (values : List Value) → values_of_sums [] sums ≡ values → (i : ℕ) (s : Sum) → s ≡ get_or sums i s → i < length values → s.size ≡ length (get_or values i [])
size_of_value sums are values is i s read inside =
    let few : i < length sums = omega (arith, inside, are.many, ap length is) in
    (are.each i s (slice_get_read sums (length sums) i s refl few read)).size ∙ ap (λ (vs : List Value). length (get_or vs i [])) is

pub empty_of_length_zero : (v : Value) → length v ≡ 0 → v ≡ []
empty_of_length_zero [] e = refl
empty_of_length_zero (c ∷ v) e = absurd (omega (arith, e))

-- a sum is appended to those of some values
module _ (sums : List Sum) (are : AreSums sums) (known : List Value) (is : values_of_sums [] sums ≡ known) (s : Sum) (more : List Sum) (put : more ≡ sums ++ s ∷ []) where
  pub sums_put : IsBelow (length known) s.left → IsBelow (length known) s.right → 0 < length (meaning known s.left) → 0 < length (meaning known s.right) → s.size ≡ length (meaning known s.left) + length (meaning known s.right) → AreSums more
  sums_put left right some_left some_right size =
      let P : List Value → Type 0 = λ vs. IsBelow (length vs) s.left × IsBelow (length vs) s.right × (0 < length (meaning vs s.left)) × (0 < length (meaning vs s.right)) × (s.size ≡ length (meaning vs s.left) + length (meaning vs s.right)) in
      let all : P (values_of_sums [] sums) = subst P (sym is) (left, right, some_left, some_right, size) in
      subst AreSums (sym put) (sums_more sums are s all.0 all.1 all.2 all.3 all.4)

  pub values_with_put_sum : values_of_sums [] more ≡ known ++ sum_in known s ∷ []
  values_with_put_sum =
      ap (values_of_sums []) put ∙ values_of_one_more [] sums s ∙ ap (λ (vs : List Value). vs ++ sum_in vs s ∷ []) is

  pub put_value : (i : ℕ) → i ≡ length sums → (get_or (values_of_sums [] more) i [] ≡ sum_in known s) × (i < length (values_of_sums [] more))
  put_value i last =
      let place : i ≡ length known = omega (arith, last, are.many, ap length is) in
      (ap₂ (λ (vs : List Value) (k : ℕ). get_or vs k []) values_with_put_sum place ∙ get_or-append_seam known (sum_in known s) [] [], omega (arith, place, ap length values_with_put_sum, length-append known (sum_in known s ∷ [])))

pub values_of_sums_are_sorted : (sums : List Sum) → AreSums sums → (known : List Value) → values_of_sums [] sums ≡ known → (i : ℕ) → IsSorted (get_or known i [])
values_of_sums_are_sorted sums are known is i = subst (λ (vs : List Value). IsSorted (get_or vs i [])) is (are.sorted i)
