-- Values given by their origin: nothing, one contribution, or a sum made before.
use Rattle.std.specs.Prelude.{ℕ, ◌≡◌, ◌<◌, List, [], ◌∷◌, ◌++◌, slice_index_or}
use Rattle.goal_blocks.specs.Values.{Value}
use Rattle.goal_values.specs.declared.sums.Term.{Term}
use Rattle.goal_values.specs.declared.sums.Term.TheVariants.{Nothing, One, Made}

-- the value of a term, if the sums have these values
abbrev pub meaning : List Value → Term → Value
meaning sums Nothing = []
meaning sums (One c) = c ∷ []
meaning sums (Made i) = slice_index_or sums i []

-- a term refers only to the first n sums
abbrev pub IsBelow : ℕ → Term → Type 0
IsBelow n Nothing = Unit {0}
IsBelow n (One c) = Unit {0}
IsBelow n (Made i) = i < n

-- the sums are unchanged, and others may be appended
abbrev pub HasGrown : List Value → List Value → Type 0
HasGrown old new = (more : List Value) × (new ≡ old ++ more)
