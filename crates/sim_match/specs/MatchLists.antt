-- Marks of operations, entries of posts and arrivals, and match lists.
use Rattle.std.specs.Prelude.{ℕ, ◌≡◌, ◌≤◌, ◌||◌, not, Bool, true, false, List, [], ◌∷◌, ◌++◌, length, take, find, All, Option, Some, None, nat_lt, if◌then◌else◌, slice_get}
use Rattle.goal_graph.specs.declared.action.OpId.{OpId}
use Rattle.goal_graph.specs.declared.action.Class.{Class}
use Rattle.goal_graph.specs.Schedule.{Plan, operations}
use Rattle.goal_graph.specs.Fault.{IsOp}
use Rattle.goal_graph.specs.Action.{Act, is_of, same_op}
use Rattle.sim_match.specs.declared.match_list.MatchEntry.{MatchEntry}

-- a match list: its entries, oldest first, of which those before `head` are skipped, and its room for entries
pub record MatchList : Type 0 where
  pub entries : List MatchEntry
  pub head : ℕ
  pub room : ℕ

-- the list with another entry, or with its head at another place
abbrev pub pushed : MatchList → MatchEntry → MatchList
pushed w entry = record { entries = w.entries ++ entry ∷ []; head = w.head; room = w.room }

abbrev pub skipped_to : MatchList → ℕ → MatchList
skipped_to w n = record { entries = w.entries; head = n; room = w.room }

-- the mark of x, given the marks of these operations
abbrev pub is_marked : List OpId → List Bool → OpId → Bool
is_marked [] marks x = false
is_marked (y ∷ ys) [] x = false
is_marked (y ∷ ys) (b ∷ bs) x = if same_op y x then b else is_marked ys bs x

-- x is now marked too, and nothing else changed
abbrev pub IsMarked : List OpId → OpId → List Bool → List Bool → Type 0
IsMarked ops x old new = (y : OpId) → is_marked ops new y ≡ (is_marked ops old y || same_op x y)

-- the earlier of two entries
abbrev pub earlier : Option MatchEntry → Option MatchEntry → Option MatchEntry
earlier None f = f
earlier (Some e) None = Some e
earlier (Some e) (Some f) = if nat_lt f.at e.at then Some f else Some e

-- the entries of the actions of a class, oldest first
unfoldable pub entries_of : Class → List Act → List MatchEntry
entries_of class [] = []
entries_of class (a ∷ h) =
    entries_of class h ++ (if is_of class a then record { op = a.op; at = length h } ∷ [] else [])

-- a match list of existing operations, each with a mark; those before the head are marked
pub record IsReady (plans : List Plan) (marks : List Bool) (match_list : MatchList) : Type 0 where
  pub exist : All (λ (e : MatchEntry). IsOp plans e.op) match_list.entries
  pub long : length (operations plans) ≤ length marks
  pub within : match_list.head ≤ length match_list.entries
  pub skipped : All (λ (e : MatchEntry). is_marked (operations plans) marks e.op ≡ true) (take match_list.head match_list.entries)

-- The first entry that is not marked is found. The head moves to it, or to the end if there is none, so that each entry
-- is skipped only once.
pub record IsFirst (marked : OpId → Bool) (old new : MatchList) (first : Option MatchEntry) : Type 0 where
  pub found : first ≡ find (λ (e : MatchEntry). not (marked e.op)) old.entries
  pub entries : new.entries ≡ old.entries
  pub room : new.room ≡ old.room
  pub within : new.head ≤ length old.entries
  pub at_head : slice_get old.entries new.head ≡ first
  pub skipped : All (λ (e : MatchEntry). marked e.op ≡ true) (take new.head old.entries)
