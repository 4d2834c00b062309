-- Blanks, from which counters are made.
use Rattle.std.specs.Prelude.{ℕ, ◌≡◌, ◌<◌}
use Rattle.std.specs.declared.sync.ledger.Blank.{Blank}

-- a counter can be made from this blank: it is one of the ledger that has this name and these parts
pub record IsBlankOf (name parts : ℕ) (blank : Blank) : Type 0 where
  pub same_name : blank.name ≡ name
  pub same_parts : blank.parts ≡ parts
  pub some : 0 < blank.parts
