-- The entries of match lists that no probe has passed.
use Rattle.std.specs.Prelude.{ℕ, ◌-◌, List, length}
use Rattle.std.specs.List.{sum_by}
use Rattle.sim_match.specs.MatchLists.{MatchList}

-- the entries of a list from its head on, which no probe has passed
abbrev pub unseen_of : MatchList → ℕ
unseen_of w = length w.entries - w.head

-- the sum over all these lists
abbrev pub unseen : List MatchList → ℕ
unseen lists = sum_by unseen_of lists
