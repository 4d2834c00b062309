-- Words that several printed texts share. Numbers are decimal.
use Rattle.std.specs.Prelude.{ℕ, List, ◌++◌, Option, Some, None, codes, decimal}

-- the end of a line
abbrev pub line_feed : List ℕ
line_feed = codes "\n"

-- two numbers with a blank between them, such as the rank and the number of an operation
abbrev pub pair_text : ℕ → ℕ → List ℕ
pair_text first second = decimal first ++ codes " " ++ decimal second

-- a time in nanoseconds, or a dash where it is absent
abbrev pub time_text : Option ℕ → List ℕ
time_text None = codes "-"
time_text (Some nanos) = decimal nanos
