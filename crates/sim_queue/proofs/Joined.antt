-- What each slot has in one of two maps, one of which is changed.
use Rattle.std.proofs.Common.{◌≡◌, ℕ, zero, suc, List, [], ◌∷◌, length, replicate, slice_set, Option, Some, None, refl, ap, arith}
use Rattle.sim_queue.specs.Map.{either, key_at}
use Rattle.sim_queue.specs.RunHeap.{joined}

module _ {K : Type 0} where
  pub length-joined : (one other : List (Option K)) → length one ≡ length other → length (joined one other) ≡ length other
  unfolding joined
  length-joined [] [] e = refl
  length-joined (a ∷ one) (b ∷ other) e = ap suc (length-joined one other (omega (arith, e)))
  length-joined [] (b ∷ other) e = absurd (omega (arith, e))
  length-joined (a ∷ one) [] e = absurd (omega (arith, e))

  pub joined_at : (one other : List (Option K)) → length one ≡ length other → (slot : ℕ) → key_at (joined one other) slot ≡ either (key_at one slot) (key_at other slot)
  unfolding joined
  joined_at [] [] e slot = refl
  joined_at (a ∷ one) (b ∷ other) e zero = refl
  joined_at (a ∷ one) (b ∷ other) e (suc slot) = joined_at one other (omega (arith, e)) slot
  joined_at [] (b ∷ other) e slot = absurd (omega (arith, e))
  joined_at (a ∷ one) [] e slot = absurd (omega (arith, e))

  -- the first map is empty
  pub joined_with_empty_first : (other : List (Option K)) → joined (replicate (length other) None) other ≡ other
  unfolding joined
  joined_with_empty_first [] = refl
  joined_with_empty_first (b ∷ other) = ap (λ ks. b ∷ ks) (joined_with_empty_first other)

  -- a slot gets a key in the first map
  pub joined_after_put_in_first : (one other : List (Option K)) → length one ≡ length other → (slot : ℕ) (k : K) → joined (slice_set one slot (Some k)) other ≡ slice_set (joined one other) slot (Some k)
  unfolding joined
  joined_after_put_in_first [] [] e slot k = refl
  joined_after_put_in_first (a ∷ one) (b ∷ other) e zero k = refl
  joined_after_put_in_first (a ∷ one) (b ∷ other) e (suc slot) k = ap (λ ks. either a b ∷ ks) (joined_after_put_in_first one other (omega (arith, e)) slot k)
  joined_after_put_in_first [] (b ∷ other) e slot k = absurd (omega (arith, e))
  joined_after_put_in_first (a ∷ one) [] e slot k = absurd (omega (arith, e))

  -- a slot without a key in the second loses its key in the first
  pub joined_after_drop_in_first : (one other : List (Option K)) → length one ≡ length other → (slot : ℕ) → key_at other slot ≡ None → joined (slice_set one slot None) other ≡ slice_set (joined one other) slot None
  unfolding joined
  joined_after_drop_in_first [] [] e slot none = refl
  joined_after_drop_in_first (a ∷ one) (b ∷ other) e zero none = ap (λ o. o ∷ joined one other) none
  joined_after_drop_in_first (a ∷ one) (b ∷ other) e (suc slot) none = ap (λ ks. either a b ∷ ks) (joined_after_drop_in_first one other (omega (arith, e)) slot none)
  joined_after_drop_in_first [] (b ∷ other) e slot none = absurd (omega (arith, e))
  joined_after_drop_in_first (a ∷ one) [] e slot none = absurd (omega (arith, e))

  -- what a slot without a key in the first has in the second is changed
  pub joined_after_set_in_second : (one other : List (Option K)) → length one ≡ length other → (slot : ℕ) (value : Option K) → key_at one slot ≡ None → joined one (slice_set other slot value) ≡ slice_set (joined one other) slot value
  unfolding joined
  joined_after_set_in_second [] [] e slot value none = refl
  joined_after_set_in_second (a ∷ one) (b ∷ other) e zero value none = ap (λ o. either o value ∷ joined one other) none
  joined_after_set_in_second (a ∷ one) (b ∷ other) e (suc slot) value none = ap (λ ks. either a b ∷ ks) (joined_after_set_in_second one other (omega (arith, e)) slot value none)
  joined_after_set_in_second [] (b ∷ other) e slot value none = absurd (omega (arith, e))
  joined_after_set_in_second (a ∷ one) [] e slot value none = absurd (omega (arith, e))
