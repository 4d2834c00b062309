-- Files in a map from names to bytes.
use Rattle.std.specs.Prelude.{ℕ, List, map, Vec, String}
use Rattle.std.specs.Global.{Global}
use Rattle.std.specs.String.{string_bytes}
use Rattle.std.specs.FinMap.{from_entries}
use Rattle.goal_base.specs.Device.{Files}

-- the files of a list of names with their bytes
unfoldable pub files_of : List (String Global × Vec ℕ Global) → Files
files_of entries = from_entries (map (λ (e : String Global × Vec ℕ Global). (string_bytes e.0, e.1.items)) entries)
