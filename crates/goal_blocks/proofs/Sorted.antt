-- Sorted values, and the results of `merge` and `insert_one` on them.
use Rattle.std.proofs.Common.{ℕ, ◌≡◌, ◌==◌, ◌&&◌, ◌||◌, nat_lt, Bool, true, false, [], ◌∷◌, if◌then◌else◌, refl, sym, ap, ◌∙◌, arith, suc, ◌+◌, ◌<◌, ◌≤◌, ◌⊎◌, inl, inr, ◌++◌, ◌-◌, length, take, drop, length-drop, get_or, zero-add, add-one, drop-cons, append_assoc, append-nil, subst}
use Rattle.std.proofs.lemmas.List.{drop_all, take_all}
use Rattle.std.specs.List.{AllByRecursion}
use Rattle.std.proofs.lemmas.Bool.{true≢false}
use Rattle.std.proofs.lemmas.Bool.Decides.{nat_tests}
use Rattle.goal_blocks.specs.Values.{Contribution, Value, is_lower, insert_one, merge}
use Rattle.goal_blocks.specs.Stored.{ComesFirst, IsSorted}

abbrev is_lower_pair : ℕ → ℕ → ℕ → ℕ → Bool
is_lower_pair a b c d = nat_lt a c || ((a == c) && nat_lt b d)

lower_not : (a b c d : ℕ) → is_lower_pair a b c d ≡ true → is_lower_pair c d a b ≡ false
lower_not a b c d h = grind (arith, nat_tests)

pair_lower_than_not_lower : (a b c d e f : ℕ) → is_lower_pair a b c d ≡ true → is_lower_pair e f c d ≡ false → is_lower_pair a b e f ≡ true
pair_lower_than_not_lower a b c d e f h g = grind (arith, nat_tests)

pair_not_lower_transitive : (a b c d e f : ℕ) → is_lower_pair c d a b ≡ false → is_lower_pair e f c d ≡ false → is_lower_pair e f a b ≡ false
pair_not_lower_transitive a b c d e f h g = grind (arith, nat_tests)

pair_firsts_equal : (a b c d : ℕ) → is_lower_pair a b c d ≡ false → is_lower_pair c d a b ≡ false → a ≡ c
pair_firsts_equal a b c d h g = grind (arith, nat_tests)

pair_seconds_equal : (a b c d : ℕ) → is_lower_pair a b c d ≡ false → is_lower_pair c d a b ≡ false → b ≡ d
pair_seconds_equal a b c d h g = grind (arith, nat_tests)

pub not_after : (c d : Contribution) → is_lower c d ≡ true → is_lower d c ≡ false
not_after c d h = lower_not c.rank c.item d.rank d.item h

-- if d is lower than c and x is not, then d is lower than x
pub lower_than_not_lower : (c d x : Contribution) → is_lower d c ≡ true → is_lower x c ≡ false → is_lower d x ≡ true
lower_than_not_lower c d x h g = pair_lower_than_not_lower d.rank d.item c.rank c.item x.rank x.item h g

pub not_lower_transitive : (c d x : Contribution) → is_lower d c ≡ false → is_lower x d ≡ false → is_lower x c ≡ false
not_lower_transitive c d x h g = pair_not_lower_transitive c.rank c.item d.rank d.item x.rank x.item h g

pub not_lower_is_equal : (c d : Contribution) → is_lower c d ≡ false → is_lower d c ≡ false → c ≡ d
not_lower_is_equal c d h g =
    let ranks = pair_firsts_equal c.rank c.item d.rank d.item h g in
    let items = pair_seconds_equal c.rank c.item d.rank d.item h g in
    λ i. record { rank = ranks i; item = items i }

pub all_by_recursion_weaker : {P Q : Contribution → Type 0} → ((x : Contribution) → P x → Q x) → (v : Value) → AllByRecursion P v → AllByRecursion Q v
all_by_recursion_weaker f [] h = tt
all_by_recursion_weaker f (x ∷ v) h = (f x h.0, all_by_recursion_weaker f v h.1)

-- a contribution that comes first is inserted at the front
pub insert_first : (c : Contribution) (v : Value) → ComesFirst c v → insert_one c v ≡ c ∷ v
unfolding insert_one
insert_first c [] h = refl
insert_first c (d ∷ v) h = go (is_lower c d) refl (insert_first c v h.1)
  where
    go : (b : Bool) → is_lower c d ≡ b → insert_one c v ≡ c ∷ v → (if b then c ∷ d ∷ v else d ∷ insert_one c v) ≡ c ∷ d ∷ v
    go true e rest = refl
    go false e rest =
        let same = not_lower_is_equal c d e h.0 in
        (λ i. d ∷ rest i) ∙ (λ i. sym same i ∷ same i ∷ v)

first_of_insert : (c x : Contribution) (v : Value) → is_lower x c ≡ false → ComesFirst c v → ComesFirst c (insert_one x v)
unfolding insert_one
first_of_insert c x [] p h = (p, tt)
first_of_insert c x (d ∷ v) p h = go (is_lower x d) (first_of_insert c x v p h.1)
  where
    go : (b : Bool) → ComesFirst c (insert_one x v) → ComesFirst c (if b then x ∷ d ∷ v else d ∷ insert_one x v)
    go true rest = (p, h)
    go false rest = (h.0, rest)

first_of_merge : (c : Contribution) (v w : Value) → ComesFirst c v → ComesFirst c w → ComesFirst c (merge v w)
unfolding merge
first_of_merge c [] w h g = g
first_of_merge c (x ∷ v) w h g = first_of_insert c x (merge v w) h.0 (first_of_merge c v w h.1 g)

-- merging takes the first contribution of the left value, if it comes before all others
pub merge_left : (c : Contribution) (v w : Value) → ComesFirst c v → ComesFirst c w → merge (c ∷ v) w ≡ c ∷ merge v w
unfolding merge
merge_left c v w h g = insert_first c (merge v w) (first_of_merge c v w h g)

insert_after_lower : (c d : Contribution) (v : Value) → is_lower d c ≡ true → insert_one c (d ∷ v) ≡ d ∷ insert_one c v
unfolding insert_one
insert_after_lower c d v h = go (is_lower c d) (not_after d c h)
  where
    go : (b : Bool) → b ≡ false → (if b then c ∷ d ∷ v else d ∷ insert_one c v) ≡ d ∷ insert_one c v
    go true e = absurd (true≢false e)
    go false e = refl

-- merging takes the first contribution of the right value, if it is lower than all of the left
pub merge_right : (d : Contribution) (v w : Value) → AllByRecursion (λ c. is_lower d c ≡ true) v → merge v (d ∷ w) ≡ d ∷ merge v w
unfolding merge
merge_right d [] w h = refl
merge_right d (c ∷ v) w h = ap (insert_one c) (merge_right d v w h.1) ∙ insert_after_lower c d (merge v w) h.0

pub merge_none : (v : Value) → IsSorted v → merge v [] ≡ v
unfolding merge
merge_none [] s = refl
merge_none (c ∷ v) s = ap (insert_one c) (merge_none v s.1) ∙ insert_first c v s.0

sorted_insert : (c : Contribution) (v : Value) → IsSorted v → IsSorted (insert_one c v)
unfolding insert_one
sorted_insert c [] s = (tt, tt)
sorted_insert c (d ∷ v) s = go (is_lower c d) refl (sorted_insert c v s.1)
  where
    go : (b : Bool) → is_lower c d ≡ b → IsSorted (insert_one c v) → IsSorted (if b then c ∷ d ∷ v else d ∷ insert_one c v)
    go true e rest =
        ((not_after c d e, all_by_recursion_weaker (λ x h. not_lower_transitive c d x (not_after c d e) h) v s.0), s)
    go false e rest = (first_of_insert d c v e s.0, rest)

pub sorted_merge : (v w : Value) → IsSorted w → IsSorted (merge v w)
unfolding merge
sorted_merge [] w s = s
sorted_merge (c ∷ v) w s = sorted_insert c (merge v w) (sorted_merge v w s)

-- the head of the right value is taken
pub merge_takes_right_head : (c d : Contribution) (v w : Value) → IsSorted (c ∷ v) → is_lower d c ≡ true → merge (c ∷ v) (d ∷ w) ≡ d ∷ merge (c ∷ v) w
merge_takes_right_head c d v w s h = merge_right d (c ∷ v) w (h, all_by_recursion_weaker (λ x g. lower_than_not_lower c d x h g) v s.0)

-- the head of the left value is taken
pub merge_takes_left_head : (c d : Contribution) (v w : Value) → IsSorted (c ∷ v) → IsSorted (d ∷ w) → is_lower d c ≡ false → merge (c ∷ v) (d ∷ w) ≡ c ∷ merge v (d ∷ w)
merge_takes_left_head c d v w s t h = merge_left c v (d ∷ w) s.0 (h, all_by_recursion_weaker (λ x g. not_lower_transitive c d x h g) w t.0)

pub length_insert : (c : Contribution) (v : Value) → length (insert_one c v) ≡ suc (length v)
unfolding insert_one
length_insert c [] = refl
length_insert c (d ∷ v) = go (is_lower c d) (length_insert c v)
  where
    go : (b : Bool) → length (insert_one c v) ≡ suc (length v) → length (if b then c ∷ d ∷ v else d ∷ insert_one c v) ≡ suc (length (d ∷ v))
    go true rest = refl
    go false rest = ap suc rest

pub length_merge : (v w : Value) → length (merge v w) ≡ length v + length w
unfolding merge
length_merge [] w = sym (zero-add (length w))
length_merge (c ∷ v) w =
    let more = length_insert c (merge v w) in
    let rest = length_merge v w in
    omega (arith, more, rest)

-- the value from a place on
abbrev default_contribution : Contribution
default_contribution = record { rank = 0; item = 0 }

drop_is_get_and_rest : (v : Value) (i : ℕ) → i < length v → drop i v ≡ get_or v i default_contribution ∷ drop (i + 1) v
drop_is_get_and_rest v i l = rw (add-one, drop-cons v i default_contribution) refl

pub sorted_more : (v : Value) (i : ℕ) → i < length v → IsSorted (drop i v) → IsSorted (drop (i + 1) v)
sorted_more v i l s =
    let both : IsSorted (get_or v i default_contribution ∷ drop (i + 1) v) = subst IsSorted (drop_is_get_and_rest v i l) s in
    both.1

module _ (sum more a b : Value) (i j : ℕ) (l : i < length a) (m : j < length b) (s : IsSorted (drop i a)) (t : IsSorted (drop j b)) where
  pub merge_step_takes_right : is_lower (get_or b j default_contribution) (get_or a i default_contribution) ≡ true → more ≡ sum ++ get_or b j default_contribution ∷ [] → more ++ merge (drop i a) (drop (j + 1) b) ≡ sum ++ merge (drop i a) (drop j b)
  merge_step_takes_right low e =
      let left : IsSorted (get_or a i default_contribution ∷ drop (i + 1) a) = subst IsSorted (drop_is_get_and_rest a i l) s in
      let step = merge_takes_right_head (get_or a i default_contribution) (get_or b j default_contribution) (drop (i + 1) a) (drop (j + 1) b) left low in
      ap (λ (x : Value). x ++ merge (drop i a) (drop (j + 1) b)) e ∙ append_assoc sum (get_or b j default_contribution ∷ []) (merge (drop i a) (drop (j + 1) b))
      ∙ ap (λ (x : Value). sum ++ get_or b j default_contribution ∷ merge x (drop (j + 1) b)) (drop_is_get_and_rest a i l) ∙ ap (λ (x : Value). sum ++ x) (sym step)
      ∙ ap (λ (x : Value). sum ++ merge x (get_or b j default_contribution ∷ drop (j + 1) b)) (sym (drop_is_get_and_rest a i l)) ∙ ap (λ (x : Value). sum ++ merge (drop i a) x) (sym (drop_is_get_and_rest b j m))

  pub merge_step_takes_left : is_lower (get_or b j default_contribution) (get_or a i default_contribution) ≡ false → more ≡ sum ++ get_or a i default_contribution ∷ [] → more ++ merge (drop (i + 1) a) (drop j b) ≡ sum ++ merge (drop i a) (drop j b)
  merge_step_takes_left low e =
      let left : IsSorted (get_or a i default_contribution ∷ drop (i + 1) a) = subst IsSorted (drop_is_get_and_rest a i l) s in
      let right : IsSorted (get_or b j default_contribution ∷ drop (j + 1) b) = subst IsSorted (drop_is_get_and_rest b j m) t in
      let step = merge_takes_left_head (get_or a i default_contribution) (get_or b j default_contribution) (drop (i + 1) a) (drop (j + 1) b) left right low in
      ap (λ (x : Value). x ++ merge (drop (i + 1) a) (drop j b)) e ∙ append_assoc sum (get_or a i default_contribution ∷ []) (merge (drop (i + 1) a) (drop j b))
      ∙ ap (λ (x : Value). sum ++ get_or a i default_contribution ∷ merge (drop (i + 1) a) x) (drop_is_get_and_rest b j m) ∙ ap (λ (x : Value). sum ++ x) (sym step)
      ∙ ap (λ (x : Value). sum ++ merge x (get_or b j default_contribution ∷ drop (j + 1) b)) (sym (drop_is_get_and_rest a i l)) ∙ ap (λ (x : Value). sum ++ merge (drop i a) x) (sym (drop_is_get_and_rest b j m))

pub merge_first_none : (v : Value) → merge [] v ≡ v
unfolding merge
merge_first_none v = refl

-- when one value is used up, appending the rest of both completes the sum
pub merge_with_one_used_up : (sum a b : Value) (i j : ℕ) → IsSorted (drop i a) → (length a ≤ i) ⊎ (length b ≤ j) → (sum ++ drop i a) ++ drop j b ≡ sum ++ merge (drop i a) (drop j b)
merge_with_one_used_up sum a b i j s (inl l) =
    let none_left : drop i a ≡ [] = drop_all i a l in
    append_assoc sum (drop i a) (drop j b) ∙ ap (λ (x : Value). sum ++ (x ++ drop j b)) none_left ∙ ap (λ (x : Value). sum ++ x) (sym (merge_first_none (drop j b))) ∙ ap (λ (x : Value). sum ++ merge x (drop j b)) (sym none_left)
merge_with_one_used_up sum a b i j s (inr l) =
    let none_left : drop j b ≡ [] = drop_all j b l in
    ap (λ (x : Value). (sum ++ drop i a) ++ x) none_left ∙ append-nil (sum ++ drop i a) ∙ ap (λ (x : Value). sum ++ x) (sym (merge_none (drop i a) s)) ∙ ap (λ (x : Value). sum ++ merge (drop i a) x) (sym none_left)

pub take_of_whole_rest : (v : Value) (i : ℕ) → take (length v - i) (drop i v) ≡ drop i v
take_of_whole_rest v i = take_all (length v - i) (drop i v) (let rest = length-drop i v in omega (arith, rest))
