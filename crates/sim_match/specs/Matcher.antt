-- What a matcher keeps of posts and arrivals.
use Rattle.std.specs.Prelude.{ℕ, ◌≡◌, ◌<◌, ◌≤◌, ◌+◌, ◌*◌, ◌^◌, ◌&&◌, ◌||◌, not, Bool, true, false, List, [], ◌∷◌, ◌++◌, length, reverse, map, filter, find, take, Option, Some, None, is_none, All, slice_get, count_by, if◌then◌else◌}
use Rattle.std.specs.Option.{MatchOption}
use Rattle.std.specs.List.{list_any}
use Rattle.goal_graph.specs.declared.action.OpId.{OpId}
use Rattle.goal_graph.specs.declared.action.Class.{Class}
use Rattle.goal_graph.specs.declared.action.Class.TheVariants.{Arrive, Post}
use Rattle.goal_graph.specs.declared.plan.Kind.{Kind}
use Rattle.goal_graph.specs.declared.plan.Kind.TheVariants.{Calc, Send, Recv}
use Rattle.goal_graph.specs.Schedule.{Plan, kind_at, operations}
use Rattle.goal_graph.specs.Fault.{IsAccepted}
use Rattle.goal_graph.specs.Action.{Act, is_of, same_op, happened}
use Rattle.goal_graph.specs.Matching.{is_paired, new_pair, pairs}
use Rattle.goal_graph.specs.Laws.{has_class}
use Rattle.sim_match.specs.declared.match_table.MatchTable.{MatchTable}
use Rattle.sim_match.specs.declared.pattern.Pattern.{Pattern}
use Rattle.sim_match.specs.declared.match_list.MatchEntry.{MatchEntry}
use Rattle.sim_match.specs.PostsAndArrivals.{is_post_or_arrival}
use Rattle.sim_match.specs.Patterns.{same_number, list_of, in_list, for_list, AreListed}
use Rattle.sim_match.specs.ListNumbers.{AreNumbered}
use Rattle.sim_match.specs.MatchLists.{MatchList, is_marked, entries_of}
use Rattle.sim_match.specs.Looks.{unseen}

-- the class of the first action that matching sees: a send arrives, a receive is posted
abbrev pub class_of_kind : Option Kind → Class
class_of_kind (Some (Calc nanos)) = Post
class_of_kind (Some (Send bytes to tag)) = Arrive
class_of_kind (Some (Recv room from tag)) = Post
class_of_kind None = Post

-- the arrival of a send, or the post of a receive
abbrev pub event_of : List Plan → OpId → Act
event_of plans x = record { class = class_of_kind (kind_at plans x); op = x }

-- the posts and arrivals, newest first, of these sends and receives, which are oldest first
abbrev pub actions_of : List Plan → List OpId → List Act
actions_of plans events = reverse (map (event_of plans) events)

-- a is the post of a receive or the arrival of a send that has not happened in h
pub record IsNew (plans : List Plan) (h : List Act) (a : Act) : Type 0 where
  pub class : is_post_or_arrival a ≡ true
  pub suited : has_class (kind_at plans a.op) a.class ≡ true
  pub fresh : happened a.class a.op h ≡ false

-- each action is the post of a receive or the arrival of a send, and happens once
abbrev pub ArePostsAndArrivals : List Plan → List Act → Type 0
ArePostsAndArrivals plans [] = Unit {0}
ArePostsAndArrivals plans (a ∷ h) = ArePostsAndArrivals plans h × IsNew plans h a

-- x and its partner, if any, are now marked too, and nothing else changed
abbrev pub ArePaired : List OpId → OpId → Option MatchEntry → List Bool → List Bool → Type 0
ArePaired ops x met old new =
    (y : OpId) → MatchOption met (is_marked ops new y ≡ is_marked ops old y) (λ (e : MatchEntry). is_marked ops new y ≡ ((is_marked ops old y || same_op x y) || same_op e.op y))

-- the lists of a pattern: its receives, and the sends that they fit
pub record PatternLists : Type 0 where
  pub receives : MatchList
  pub sends : MatchList

abbrev pub side_by_side : List MatchList → List MatchList → List PatternLists
side_by_side [] ss = []
side_by_side (r ∷ rs) [] = []
side_by_side (r ∷ rs) (s ∷ ss) = record { receives = r; sends = s } ∷ side_by_side rs ss

-- the arrivals that paired their send with no receive, oldest first
unfoldable pub unmet_of : List Plan → List Act → List MatchEntry
unmet_of plans [] = []
unmet_of plans (a ∷ h) =
    unmet_of plans h ++ (if is_of Arrive a && is_none (new_pair plans (pairs plans h) h a.class a.op) then record { op = a.op; at = length h } ∷ [] else [])

-- the lists that a send joins: all of its lists if it met no receive, and otherwise none
abbrev pub stands_in : Option MatchEntry → List (Option ℕ) → List (Option ℕ)
stands_in None numbers = numbers
stands_in (Some e) numbers = []

-- the number of sends that join lists
abbrev pub stood : Option MatchEntry → ℕ
stood None = 1
stood (Some e) = 0

-- a match list has these entries, skips only paired ones, and has room for `count` entries
pub record IsMatchList (es : List MatchEntry) (paired : OpId → Bool) (count : ℕ) (match_list : MatchList) : Type 0 where
  pub entries : match_list.entries ≡ es
  pub within : match_list.head ≤ length es
  pub skipped : All (λ (e : MatchEntry). paired e.op ≡ true) (take match_list.head es)
  pub room : count ≤ match_list.room

module _ (plans : List Plan) (keys : List Pattern) where
  -- the posted receives of a list; the sends for it that have arrived and met no receive then
  abbrev pub receives_of : List Act → ℕ → List MatchEntry
  receives_of h list = filter (λ (e : MatchEntry). in_list plans keys list e.op) (entries_of Post h)

  abbrev pub sends_of : List Act → ℕ → List MatchEntry
  sends_of h list = filter (λ (e : MatchEntry). for_list plans keys list e.op) (unmet_of plans h)

  -- the match lists of a pattern have these receives and sends, and room for all its receives and all sends for it
  pub record AreLists (paired : OpId → Bool) (list : ℕ) (posted arrived : List MatchEntry) (w : PatternLists) : Type 0 where
    pub receives : IsMatchList posted paired (count_by (in_list plans keys list) (operations plans)) w.receives
    pub sends : IsMatchList arrived paired (count_by (for_list plans keys list) (operations plans)) w.sends

  -- the state after h: each pattern has its lists, and paired operations are marked
  pub record Mirrors (lists : List PatternLists) (marks : List Bool) (h : List Act) : Type 0 where
    pub accepted : IsAccepted plans
    pub actions : ArePostsAndArrivals plans h
    pub listed : AreListed plans keys
    pub one_each : length lists ≡ length keys
    pub each : (list : ℕ) (w : PatternLists) → slice_get lists list ≡ Some w → AreLists (is_paired (pairs plans h)) list (receives_of h list) (sends_of h list) w
    pub marked : (x : OpId) → is_marked (operations plans) marks x ≡ is_paired (pairs plans h) x
    pub all_marks : length (operations plans) ≤ length marks

  -- After h the send m is also the last entry of the lists `stood`, and the lists `looked` were probed: it met the
  -- first waiting receive of these.
  pub record IsJoined (h : List Act) (m : OpId) (stood looked : List (Option ℕ)) (lists : List PatternLists) (met : Option MatchEntry) : Type 0 where
    pub one_each : length lists ≡ length keys
    pub each : (list : ℕ) (w : PatternLists)
        → slice_get lists list ≡ Some w
        → AreLists (is_paired (pairs plans h)) list (receives_of h list) (sends_of h list ++ (if list_any (same_number (Some list)) stood then record { op = m; at = length h } ∷ [] else [])) w
    pub found : met ≡ find (λ (e : MatchEntry). not (is_paired (pairs plans h) e.op) && list_any (same_number (list_of plans keys e.op)) looked) (entries_of Post h)

-- the invariant of a match table
pub record IsKept (plans : List Plan) (table : MatchTable) : Type 0 where
  pub few : length (operations plans) < 2 ^ 32
  pub as_many : length table.receives ≡ length table.sends
  pub numbered : AreNumbered plans table.numbers
  pub mirrors : Mirrors plans numbered.keys (side_by_side table.receives table.sends) table.marks.items (actions_of plans table.events.items)
  pub count : table.count ≡ length table.events.items
  pub standing : table.standing ≡ length (unmet_of plans (actions_of plans table.events.items))
  -- a probe is already counted for each entry that no probe has passed, at most eight per event
  pub covered : unseen table.receives + unseen table.sends ≤ table.credit
  pub bounded : table.credit ≤ 8 * length table.events.items
