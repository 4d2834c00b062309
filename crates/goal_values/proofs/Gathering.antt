-- A value is listed part by part: each part is a contribution, or two parts.
use Rattle.std.proofs.Common.{Bool, true, false, if◌then◌else◌, ℕ, ◌≡◌, ◌+◌, ◌*◌, ◌-◌, ◌<◌, List, [], ◌∷◌, ◌++◌, length, get_or, All, sym, ap, ◌∙◌, subst, arith}
use Rattle.std.proofs.Common.{length-append}
use Rattle.std.proofs.Math.ListN.{get_or-append}
use Rattle.std.proofs.Math.Seq.{get_or-append_seam}
use Rattle.std.specs.List.{sum_by}
use Rattle.std.proofs.lemmas.Option.{slice_get-get_or}
use Rattle.std.proofs.lemmas.List.Sums.{sum_by-append, sum_by-cons}
use Rattle.std.proofs.lemmas.List.Elements.{All-append, All-cons, All-nil}
use Rattle.goal_blocks.specs.declared.contribution.Contribution.{Contribution}
use Rattle.goal_blocks.specs.Values.{Value, is_lower, merge, insert_one}
use Rattle.goal_blocks.proofs.ForCallers.{length_merge}
use Rattle.goal_values.specs.declared.sums.Term.{Term}
use Rattle.goal_values.specs.declared.sums.Term.TheVariants.{Nothing, Made}
use Rattle.goal_values.specs.declared.sums.Sum.{Sum}
use Rattle.goal_values.specs.Sums.{meaning, IsBelow}
use Rattle.goal_values.specs.Parts.{values_of_sums, IsSum, AreSums}
use Rattle.goal_values.proofs.SumValues.{is_below_larger_bound}

-- how much remains to be done for a part: it falls when the part is opened
abbrev pub weight : List Value → Term → ℕ
weight sums t = 2 * length (meaning sums t) - 1 + (1 - length (meaning sums t))

-- what is read if there is no sum
abbrev default_sum : Sum
default_sum = record { left = Nothing; right = Nothing; size = 0 }

-- the left part of a sum
abbrev pub left_of : List Sum → ℕ → Term
left_of sums n = (get_or sums n default_sum).left

-- the sum of f over the contributions of the left parts of these sums
abbrev pub shares : List Sum → (Contribution → ℕ) → List ℕ → ℕ
shares sums f numbers = sum_by (λ n. sum_by f (meaning (values_of_sums [] sums) (left_of sums n))) numbers

-- how much remains to be done for these left parts
abbrev pub weights : List Sum → List ℕ → ℕ
weights sums numbers = sum_by (λ n. weight (values_of_sums [] sums) (left_of sums n)) numbers

-- another contribution
pub sum_by_append_one : (f : Contribution → ℕ) (v : Value) (c : Contribution) → sum_by f (v ++ c ∷ []) ≡ sum_by f v + sum_by f (c ∷ [])
sum_by_append_one f v c = sum_by-append f v (c ∷ [])

insert_sum : (f : Contribution → ℕ) (c : Contribution) (v : Value) → sum_by f (insert_one c v) ≡ f c + sum_by f v
unfolding insert_one
insert_sum f c [] = sum_by-cons f c []
insert_sum f c (d ∷ v) = go (is_lower c d) (insert_sum f c v)
  where
    go : (b : Bool) → sum_by f (insert_one c v) ≡ f c + sum_by f v → sum_by f (if b then c ∷ d ∷ v else d ∷ insert_one c v) ≡ f c + sum_by f (d ∷ v)
    go true rest = sum_by-cons f c (d ∷ v)
    go false rest = omega (arith, sum_by-cons f d (insert_one c v), rest, sum_by-cons f d v)

-- a sum has each contribution as often as its two parts together
pub merge_sum : (f : Contribution → ℕ) (v w : Value) → sum_by f (merge v w) ≡ sum_by f v + sum_by f w
unfolding merge
merge_sum f [] w = omega arith
merge_sum f (c ∷ v) w =
    omega (arith, insert_sum f c (merge v w), merge_sum f v w, sum_by-cons f c v)

-- a sum is opened: its number is kept, and its right part is next
module _ (sums : List Sum) (are : AreSums sums) (i : ℕ) (inside : i < length (values_of_sums [] sums)) where
  abbrev known : List Value
  known = values_of_sums [] sums

  abbrev s : Sum
  s = get_or sums i default_sum

  sum_at_number_is_sum : IsSum known i s
  sum_at_number_is_sum = are.each i s (slice_get-get_or sums i default_sum (omega (arith, inside, are.many)))

  pub left_below : IsBelow (length known) s.left
  left_below = is_below_larger_bound i (length known) s.left (omega (arith, inside)) sum_at_number_is_sum.left

  pub right_below : IsBelow (length known) s.right
  right_below = is_below_larger_bound i (length known) s.right (omega (arith, inside)) sum_at_number_is_sum.right

  -- the value of a sum has each contribution as often as the values of its two parts together
  pub opened_parts : (f : Contribution → ℕ) (part : Term) → part ≡ Made i → sum_by f (meaning known part) ≡ sum_by f (meaning known s.left) + sum_by f (meaning known s.right)
  opened_parts f part e =
      ap (λ t. sum_by f (meaning known t)) e ∙ ap (sum_by f) sum_at_number_is_sum.value ∙ merge_sum f (meaning known s.left) (meaning known s.right)

  pub opened_shares : (f : Contribution → ℕ) (numbers new : List ℕ) (part : Term) → part ≡ Made i → new ≡ numbers ++ i ∷ [] → shares sums f new + sum_by f (meaning known s.right) ≡ shares sums f numbers + sum_by f (meaning known part)
  opened_shares f numbers new part e g =
      let h : ℕ → ℕ = λ n. sum_by f (meaning known (left_of sums n)) in
      omega (arith, ap (shares sums f) g, sum_by-append h numbers (i ∷ []), sum_by-cons h i [], opened_parts f part e)

  -- if its right part is listed at once, its left part is next
  pub left_weight : (part : Term) → part ≡ Made i → weight known s.left < weight known part
  left_weight part e =
      omega (arith, sum_at_number_is_sum.some_left, sum_at_number_is_sum.some_right, ap length sum_at_number_is_sum.value, length_merge (meaning known s.left) (meaning known s.right), ap (weight known) e)

  pub opened_weight : (numbers new : List ℕ) (part : Term) → part ≡ Made i → new ≡ numbers ++ i ∷ [] → weights sums new + weight known s.right < weights sums numbers + weight known part
  opened_weight numbers new part e g =
      let h : ℕ → ℕ = λ n. weight known (left_of sums n) in
      omega (arith, ap (weights sums) g, sum_by-append h numbers (i ∷ []), sum_by-cons h i [], sum_at_number_is_sum.some_left, sum_at_number_is_sum.some_right, ap length sum_at_number_is_sum.value, length_merge (meaning known s.left) (meaning known s.right), ap (weight known) e)

  pub opened_numbers : (numbers new : List ℕ) → new ≡ numbers ++ i ∷ [] → All (λ n. n < length known) numbers → All (λ n. n < length known) new
  opened_numbers numbers new g all =
      let P : ℕ → Type 0 = λ n. n < length known in
      subst (All P) (sym g) (All-append P numbers (i ∷ []) all (All-cons P i [] inside (All-nil P)))

-- the last number is taken
module _ (sums : List Sum) (i : ℕ) (numbers rest : List ℕ) (g : numbers ≡ rest ++ i ∷ []) where
  pub taken_shares : (f : Contribution → ℕ) → shares sums f numbers ≡ shares sums f rest + sum_by f (meaning (values_of_sums [] sums) (left_of sums i))
  taken_shares f =
      let h : ℕ → ℕ = λ n. sum_by f (meaning (values_of_sums [] sums) (left_of sums n)) in
      omega (arith, ap (shares sums f) g, sum_by-append h rest (i ∷ []), sum_by-cons h i [])

  pub taken_last : (P : ℕ → Type 0) → All P numbers → P i
  taken_last P all =
      let whole = subst (All P) g all in
      subst P (get_or-append_seam rest i [] i) (whole (length rest) i (omega (arith, length-append rest (i ∷ []))))

  pub taken_front : (P : ℕ → Type 0) → All P numbers → All P rest
  taken_front P all k d inside =
      let whole = subst (All P) g all in
      subst P (get_or-append rest (i ∷ []) d k inside) (whole k d (omega (arith, inside, length-append rest (i ∷ []))))
