-- Twelve slots, each with a key.
use Rattle.std.specs.Prelude.{ℕ, List, [], ◌∷◌, Option, Some}
use Rattle.sim_order.specs.declared.order.Counted.{Counted}

-- the key that is this number
abbrev pub keyed : ℕ → Option (Counted ℕ)
keyed number = Some (record { 0 = number })

-- the keys of the slots 0 to 11
abbrev pub twelve_keys : List (Option (Counted ℕ))
twelve_keys =
    keyed 1 ∷ keyed 10 ∷ keyed 2 ∷ keyed 11 ∷ keyed 12 ∷ keyed 3 ∷ keyed 21 ∷ keyed 13 ∷ keyed 14 ∷ keyed 15 ∷ keyed 16 ∷ keyed 5 ∷ []
