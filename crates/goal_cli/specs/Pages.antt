-- An output that is made page by page.
use Rattle.std.specs.Prelude.{ℕ, ◌≡◌, ◌++◌, List, [], drop}
use Rattle.goal_cli.specs.declared.pages.Output.{Output}
use Rattle.goal_cli.specs.declared.pages.Pages.{Pages}
use Rattle.goal_cli.specs.declared.pages.Pages.TheVariants as pages
use Rattle.goal_cli.specs.Answer.{Target, ToOut, ToFile}

-- the text of the pages that are not yet made
abbrev pub left_of : Pages → List ℕ
left_of pages.None = []
left_of (pages.Run lines) = lines
left_of (pages.RunOn lines) = lines
left_of (pages.Blocks blocks) = blocks

-- the text that is made and not yet written; the text that is not yet made
abbrev pub made_of : Output → List ℕ
made_of o = drop o.done o.piece.items

abbrev pub behind : Output → List ℕ
behind o = left_of o.pages ++ o.tail.items

-- the text of an output that is not yet written
abbrev pub text_of : Output → List ℕ
text_of o = made_of o ++ behind o

-- an output to a file is made whole
abbrev pub Suits : Target → Output → Type 0
Suits ToOut o = Unit {0}
Suits (ToFile name) o = text_of o ≡ made_of o
