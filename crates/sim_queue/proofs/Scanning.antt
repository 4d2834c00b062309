-- The best of the slots so far, one slot more, and all.
use Rattle.std.proofs.Common.{◌≡◌, ℕ, ◌≤◌, ◌↔◌, Bool, List, length, Option, Some, None, IsNone, IfSome, refl, subst, arith, inl, inr}
use Rattle.std.proofs.lemmas.List.{get_or_past}
use Rattle.std.proofs.lemmas.Bool.{cases_order}
use Rattle.sim_order.specs.Order.{IsOrder}
use Rattle.sim_queue.specs.Map.{key_at, IsEmptyMap, IsLeast}
use Rattle.sim_queue.specs.Scan.{IsBestBelow}

module _ {K : Type 0} (before : K → K → Bool) (laws : IsOrder before) (keys : List (Option K)) where
  -- after the end no slot has a key
  pub no_key_past_end : (slot : ℕ) → length keys ≤ slot → key_at keys slot ≡ None
  no_key_past_end slot h = get_or_past keys slot None h

  pub nothing_below_end_is_empty : IsBestBelow before keys (length keys) None → IsEmptyMap keys
  nothing_below_end_is_empty h slot = elim (cases_order slot (length keys)) [ inl e ↦ no_key_past_end slot (omega (arith, e)) | inr (inl p) ↦ h slot p | inr (inr p) ↦ no_key_past_end slot (omega (arith, p)) ]

  pub best_below_end_is_least : (r : ℕ × K) → IsBestBelow before keys (length keys) (Some r) → IsLeast before keys r.0 r.1
  best_below_end_is_least r h = record {
    has = h.has;
    least = λ other k e. elim (cases_order other (length keys)) [ inl f ↦ let g : key_at keys other ≡ None = no_key_past_end other (omega (arith, f)) in absurd (cc) | inr (inl p) ↦ h.least other k p e | inr (inr p) ↦ let g : key_at keys other ≡ None = no_key_past_end other (omega (arith, p)) in absurd (cc) ];
  }

  pub none_where_empty : (best : Option (ℕ × K)) → IsBestBelow before keys (length keys) best → IsNone best ↔ IsEmptyMap keys
  none_where_empty None h = (λ _. nothing_below_end_is_empty h, λ _. refl)
  none_where_empty (Some r) h = (λ n. absurd (cc), λ empty. let g : key_at keys r.0 ≡ None = empty r.0 in let has : key_at keys r.0 ≡ Some r.1 = h.has in absurd (cc))

  pub least_where_some : (best : Option (ℕ × K)) → IsBestBelow before keys (length keys) best → IfSome best (λ r. IsLeast before keys r.0 r.1)
  least_where_some None h = tt
  least_where_some (Some r) h = best_below_end_is_least r h

-- the scan has reached the end of the same list
pub scan_at_end : {K : Type 0} (before : K → K → Bool) (keys scanned_keys : List (Option K)) (n : ℕ) (best : Option (ℕ × K)) → scanned_keys ≡ keys → n ≡ length scanned_keys → IsBestBelow before scanned_keys n best → IsBestBelow before keys (length keys) best
scan_at_end before keys scanned_keys n best e f h =
    subst (λ xs. IsBestBelow before xs (length xs) best) e (subst (λ i. IsBestBelow before scanned_keys i best) f h)
