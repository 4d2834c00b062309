-- The state of a reader of words.
use Rattle.std.specs.Prelude.{ℕ, List}

-- the remaining words, and the number of the first of them
pub record Left : Type 0 where
  pub place : ℕ
  pub words : List (List ℕ)
