-- The number of keys of a map: at least the number of its items, and at most that of the group's slots, if no other has
-- one.
use Rattle.std.proofs.Common.{◌≡◌, ◌≢◌, ◌⊎◌, ◌==◌, ◌<◌, ◌≤◌, ◌+◌, ℕ, suc, Bool, true, false, List, [], ◌∷◌, length, set, take, get_or, slice_get, slice_index, Option, Some, None, cond, count_by, is_some, refl, sym, ap, ◌∙◌, arith, inl, inr}
use Rattle.std.proofs.lemmas.Bool.{cases_eq, eq-eqb, ne_eqb}
use Rattle.std.proofs.lemmas.List.{get_or-set_same, get_or-set_other, length-set}
use Rattle.std.proofs.lemmas.List.Sums.{sum_by-cons, sum_by-set, count_by_more_yes, count_by_more_no}
use Rattle.std.proofs.lemmas.Option.{same_Some}
use Rattle.goal_graph.specs.declared.action.Timed.{Timed}
use Rattle.sim_queue.specs.Item.{Item}
use Rattle.sim_queue.specs.Map.{key_at}
use Rattle.sim_queue.specs.TopHeap.{placed, AreApart}
use Rattle.sim_queue.proofs.ForCallers.{length-placed}
use Rattle.sim_stations.specs.AtSlots.{members, AreCounts}
use Rattle.sim_stations.proofs.ItemParts.{no_key_without_item}

-- what another number adds to a count: 1 if it passes the test, otherwise 0
abbrev one_if : Bool → ℕ
one_if passes = cond passes 1 0

module _ {K : Type 0} where
  -- a slot without a key gets one
  pub key_count_after_put : (keys : List (Option K)) (slot : ℕ) (k : K) → slot < length keys → key_at keys slot ≡ None → count_by is_some (set keys slot (Some k)) ≡ count_by is_some keys + 1
  key_count_after_put keys slot k within free =
      let changed = sum_by-set (λ o. one_if (is_some o)) keys slot (Some k) None within in
      let none : cond (is_some (get_or keys slot None)) 1 0 ≡ 0 = ap (λ o. one_if (is_some o)) free in
      omega (arith, changed, none)

  -- only slots of a group have a key
  abbrev pub AreOnlyOf : List ℕ → ℕ → List (Option K) → Type 0
  AreOnlyOf groups group keys = (slot : ℕ) (k : K) → key_at keys slot ≡ Some k → slice_get groups slot ≡ Some group

  key_counts_one_member : (group number : ℕ) (o : Option K) → ((k : K) → o ≡ Some k → Some number ≡ Some group) → one_if (is_some o) ≤ one_if (number == group)
  key_counts_one_member group number None only = omega arith
  key_counts_one_member group number (Some k) only =
      let same = eq-eqb number group (same_Some number group (only k refl)) in
      rw same (omega arith)

  key_outside_group_not_counted : (group : ℕ) (o : Option K) → ((k : K) → o ≡ Some k → None ≡ Some group) → one_if (is_some o) ≡ 0
  key_outside_group_not_counted group None only = refl
  key_outside_group_not_counted group (Some k) only = let none = only k refl in absurd (cc)

  pub keys_within : (group : ℕ) (keys : List (Option K)) (groups : List ℕ) → AreOnlyOf groups group keys → count_by is_some keys ≤ members group groups
  keys_within group [] groups only = omega arith
  keys_within group (o ∷ keys) [] only =
      let rest = keys_within group keys [] (λ slot k e. only (suc slot) k e) in
      let none = key_outside_group_not_counted group o (λ k e. only 0 k e) in
      omega (arith, rest, none, sum_by-cons (λ x. one_if (is_some x)) o keys)
  keys_within group (o ∷ keys) (number ∷ groups) only =
      let rest = keys_within group keys groups (λ slot k e. only (suc slot) k e) in
      let first = key_counts_one_member group number o (λ k e. only 0 k e) in
      omega (arith, rest, first, sum_by-cons (λ x. one_if (is_some x)) o keys, sum_by-cons (λ n. one_if (n == group)) number groups)

  -- a slot of the group without a key
  pub fewer_keys_than_members : (group : ℕ) (keys : List (Option K)) (groups : List ℕ) → AreOnlyOf groups group keys → (slot : ℕ) → slot < length keys → slice_get groups slot ≡ Some group → key_at keys slot ≡ None → (k : K) → count_by is_some keys < members group groups
  fewer_keys_than_members group keys groups only slot within member free k =
      omega (arith, key_count_after_put keys slot k within free, keys_within group (set keys slot (Some k)) groups (λ other l e. all other l e (cases_eq other slot)))
    where
      all : (other : ℕ) (l : K) → key_at (set keys slot (Some k)) other ≡ Some l → (other ≡ slot) ⊎ (other ≢ slot) → slice_get groups other ≡ Some group
      all other l e (inl s) = ap (slice_get groups) s ∙ member
      all other l e (inr n) = only other l (sym (get_or-set_other keys slot other (Some k) None n) ∙ e)

-- there are at most as many items as keys
pub items_no_more_than_keys : (slots : ℕ) (items : List (Item Timed)) → AreApart slots items → length items ≤ count_by is_some (placed slots items)
unfolding placed
items_no_more_than_keys slots [] are = omega arith
items_no_more_than_keys slots (x ∷ items) are =
    let rest : AreApart slots items = record {
      within = λ place y e. are.within (suc place) y e;
      apart = λ one other y z e f s. omega (arith, are.apart (suc one) (suc other) y z e f s);
    } in
    let free = no_key_without_item slots x.slot items (λ place y e s. omega (arith, are.apart (suc place) 0 y x e refl s)) in
    let more = key_count_after_put (placed slots items) x.slot x.key (omega (arith, are.within 0 x refl, length-placed slots items)) free in
    omega (arith, more, items_no_more_than_keys slots items rest)

-- another number is counted
module _ (numbers counts : List ℕ) (index : ℕ) (within : index < length numbers) (counted : AreCounts (take index numbers) counts) where
  abbrev pub number : ℕ
  number = get_or numbers index 0

  module _ (exists : number < length counts) where
    abbrev pub counts_with_next : List ℕ
    counts_with_next = set counts number (slice_index counts number + 1)

    pub counted_with_next : AreCounts (take (index + 1) numbers) counts_with_next
    counted_with_next group h = go (cases_eq group number)
      where
        in_counts : group < length counts
        in_counts = omega (arith, h, length-set counts number (slice_index counts number + 1))

        go : (group ≡ number) ⊎ (group ≢ number) → slice_index counts_with_next group ≡ members group (take (index + 1) numbers)
        go (inl s) =
            let is : (number == group) ≡ true = eq-eqb number group (sym s) in
            ap (slice_index counts_with_next) s ∙ get_or-set_same counts number (slice_index counts number + 1) 0 exists
            ∙ ap (λ n. n + 1) (ap (slice_index counts) (sym s) ∙ counted group in_counts)
            ∙ sym (count_by_more_yes (λ n. n == group) numbers index 0 within is)
        go (inr n) =
            let not : (number == group) ≡ false = ne_eqb number group (λ e. n (sym e)) in
            get_or-set_other counts number group (slice_index counts number + 1) 0 n ∙ counted group in_counts ∙ sym (count_by_more_no (λ n. n == group) numbers index 0 within not)
