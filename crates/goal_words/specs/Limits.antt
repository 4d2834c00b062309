-- The greatest root that a line may name. The constant of the code is this number: `laws_of_lines` says so.
use Rattle.std.specs.Prelude.{ℕ}

abbrev pub root_limit : ℕ
root_limit = 65535
