-- The least key, found slot by slot.
use Rattle.std.specs.Prelude.{◌≡◌, ℕ, ◌<◌, Bool, false, List, Option, Some, None, MatchOption, if◌then◌else◌}
use Rattle.sim_queue.specs.Map.{key_at}

module _ {K : Type 0} (before : K → K → Bool) where
  -- the lesser of the best slot so far and another; the best so far if neither is less
  abbrev pub lesser : Option (ℕ × K) → ℕ → K → ℕ × K
  lesser (Some best) slot key = if before key best.1 then (slot, key) else best
  lesser None slot key = (slot, key)

  -- among the slots below n, this one has the key and no key is before it
  pub record IsLeastBelow (keys : List (Option K)) (n : ℕ) (slot : ℕ) (key : K) : Type 0 where
    pub has : key_at keys slot ≡ Some key
    pub least : (other : ℕ) (k : K) → other < n → key_at keys other ≡ Some k → before k key ≡ false

  -- the best of the slots below n, or None if none of them has a key
  abbrev pub IsBestBelow : List (Option K) → ℕ → Option (ℕ × K) → Type 0
  IsBestBelow keys n best =
      MatchOption best ((slot : ℕ) → slot < n → key_at keys slot ≡ None) (λ r. IsLeastBelow keys n r.0 r.1)
