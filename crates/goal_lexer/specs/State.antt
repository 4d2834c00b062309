-- The state of a lexer.
use Rattle.std.specs.Prelude.{ℕ, Bool}
use Rattle.goal_lexer.specs.declared.mode.Mode.{Mode}

-- what is open or the fault, the number of bytes taken, and whether a run that was just returned ends there
pub record LexState : Type 0 where
  pub mode : Mode
  pub place : ℕ
  pub ends_run : Bool
