-- Conditions on what is open.
use Rattle.std.specs.Prelude.{⊤}
use Rattle.goal_lexer.specs.declared.mode.Mode.{Mode}
use Rattle.goal_lexer.specs.declared.mode.Mode.TheVariants.{Between, Run, Slash, LineComment, BlockComment, Failed}

-- no fault was met
abbrev pub IsSound : Mode → Type 0
IsSound (Failed at) = ⊥
IsSound Between = ⊤
IsSound (Run start bytes form) = ⊤
IsSound (Slash start) = ⊤
IsSound (LineComment start) = ⊤
IsSound (BlockComment start closes) = ⊤

-- a run is open
abbrev pub IsRun : Mode → Type 0
IsRun (Run start bytes form) = ⊤
IsRun Between = ⊥
IsRun (Slash start) = ⊥
IsRun (LineComment start) = ⊥
IsRun (BlockComment start closes) = ⊥
IsRun (Failed at) = ⊥
