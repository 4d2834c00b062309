-- Maps from slots to keys: the list of what each slot has, from slot 0 on, a key or None.
use Rattle.std.specs.Prelude.{◌≡◌, ◌⊎◌, ℕ, Bool, true, false, List, Option, Some, None, replicate, slice_index_or}

module _ {K : Type 0} where
  -- the key that a slot has in one of two maps, the first one preferred
  abbrev pub either : Option K → Option K → Option K
  either (Some k) other = Some k
  either None other = other

  -- the key of a slot, if it has one
  abbrev pub key_at : List (Option K) → ℕ → Option K
  key_at keys slot = slice_index_or keys slot None

  -- `count` slots without a key
  abbrev pub no_keys : ℕ → List (Option K)
  no_keys count = replicate count None

  -- no slot has a key
  abbrev pub IsEmptyMap : List (Option K) → Type 0
  IsEmptyMap keys = (slot : ℕ) → key_at keys slot ≡ None

  -- the slot has this key, and no key of the map is before it
  pub record IsLeast (before : K → K → Bool) (keys : List (Option K)) (slot : ℕ) (key : K) : Type 0 where
    pub has : key_at keys slot ≡ Some key
    pub least : (other : ℕ) (k : K) → key_at keys other ≡ Some k → before k key ≡ false

  -- the slot has a key that is before the key of every other slot
  pub record IsSoleLeast (before : K → K → Bool) (keys : List (Option K)) (slot : ℕ) : Type 0 where
    pub key : K
    pub has : key_at keys slot ≡ Some key
    pub first : (other : ℕ) (k : K) → key_at keys other ≡ Some k → (other ≡ slot) ⊎ (before key k ≡ true)
