-- Queues of waiting operations, one per pattern, if each pattern names a source and a tag.
use Rattle.std.specs.Prelude.{ℕ, ◌≡◌, ◌≢◌, ◌<◌, ◌≤◌, ◌-◌, ◌^◌, ◌&&◌, not, Bool, true, false, List, [], ◌∷◌, length, filter, Option, Some, None, slice_get}
use Rattle.goal_graph.specs.declared.action.OpId.{OpId}
use Rattle.goal_graph.specs.declared.action.Class.{Class}
use Rattle.goal_graph.specs.declared.action.Class.TheVariants.{Arrive, Post}
use Rattle.goal_graph.specs.Schedule.{Plan, kind_at, operations}
use Rattle.goal_graph.specs.Action.{Act, happened}
use Rattle.goal_graph.specs.Laws.{has_class}
use Rattle.goal_graph.specs.Matching.{is_paired, pairs}
use Rattle.sim_match.specs.declared.capacities.Side.{Side}
use Rattle.sim_match.specs.declared.capacities.Side.TheVariants.{Receives, Sends}
use Rattle.sim_match.specs.declared.pattern.Pattern.{Pattern}
use Rattle.sim_match.specs.declared.queues.Queue.{Queue}
use Rattle.sim_match.specs.declared.queues.Queues.{Queues}
use Rattle.sim_match.specs.PostsAndArrivals.{send_for, receive_for}
use Rattle.sim_match.specs.Waiting.{ops_of}
use Rattle.sim_match.specs.Patterns.{same_number, own_list, AreListed}
use Rattle.sim_match.specs.ListNumbers.{coded, AreNamed}
use Rattle.sim_match.specs.Matcher.{ArePostsAndArrivals, actions_of}

-- receives are posted, sends arrive
abbrev pub class_of_side : Side → Class
class_of_side Receives = Post
class_of_side Sends = Arrive

abbrev pub come : Side → OpId → Act
come side x = record { class = class_of_side side; op = x }

-- what an operation of that side takes when it comes after h
abbrev pub taken_by : Side → List Plan → List Act → OpId → Option OpId
taken_by Receives plans h x = send_for plans h x
taken_by Sends plans h x = receive_for plans h x

-- operations of that side wait
abbrev pub waits_as : Option Side → Side → Bool
waits_as None side = false
waits_as (Some Receives) Receives = true
waits_as (Some Receives) Sends = false
waits_as (Some Sends) Receives = false
waits_as (Some Sends) Sends = true

-- the entry at a place, which is not the last, links to the place of the next one
pub record IsLink (ops : List OpId) (next : List ℕ) (place last behind : ℕ) (y : OpId) : Type 0 where
  pub apart : place ≢ last
  pub links : slice_get next place ≡ Some behind
  pub is : slice_get ops behind ≡ Some y

-- these operations follow that place, up to the last
abbrev pub AreLinked : List OpId → List ℕ → ℕ → ℕ → List OpId → Type 0
AreLinked ops next place last [] = place ≡ last
AreLinked ops next place last (y ∷ ys) =
    (behind : ℕ) × IsLink ops next place last behind y × AreLinked ops next behind last ys

-- the operations of a queue that is not empty, oldest first
abbrev pub AreInLine : List OpId → List ℕ → Queue → List OpId → Type 0
AreInLine ops next queue [] = ⊥
AreInLine ops next queue (x ∷ xs) =
    (queue.first ≡ x) × (place : ℕ) × (slice_get ops place ≡ Some x) × AreLinked ops next place queue.last xs

-- these operations are in the queue if their side waits, and otherwise there are none
abbrev pub AreQueued : List OpId → List ℕ → Queue → Bool → List OpId → Type 0
AreQueued ops next queue true xs = AreInLine ops next queue xs
AreQueued ops next queue false xs = xs ≡ []

-- the rest of a queue after its first was removed
abbrev pub AreLeft : List OpId → List ℕ → Queue → Queue → List OpId → Type 0
AreLeft ops next old new [] = new.waits ≡ None
AreLeft ops next old new (y ∷ ys) = (new.waits ≡ old.waits) × AreInLine ops next new (y ∷ ys)

module _ (plans : List Plan) (keys : List Pattern) where
  -- an operation of a pattern that is not paired
  abbrev pub is_waiting : List Act → ℕ → OpId → Bool
  is_waiting h list x = not (is_paired (pairs plans h) x) && same_number (own_list plans keys x) (Some list)

  -- the waiting operations of a pattern among the posts or arrivals
  abbrev pub waiting : List Act → Class → ℕ → List OpId
  waiting h class list = filter (is_waiting h list) (ops_of class h)

  -- the queue of each pattern has the operations that wait after h, all of one side
  pub record AreQueues (queues : List Queue) (next : List ℕ) (h : List Act) : Type 0 where
    pub one_each : length queues ≡ length keys
    pub links : 0 < length keys → length (operations plans) ≤ length next
    pub each : (list : ℕ) (queue : Queue) → slice_get queues list ≡ Some queue → (side : Side) → AreQueued (operations plans) next queue (waits_as queue.waits side) (waiting h (class_of_side side) list)

  -- for each operation that has not come in h, the number of its list is kept at its place, if there is a pattern
  pub record AreToCome (next : List ℕ) (h : List Act) : Type 0 where
    pub each :
        0 < length keys → (side : Side) (x : OpId) (place : ℕ)
        → slice_get (operations plans) place ≡ Some x → has_class (kind_at plans x) (class_of_side side) ≡ true → happened (class_of_side side) x h ≡ false → slice_get next place ≡ Some (coded (own_list plans keys x))

-- the invariant of queues
pub record AreKept (plans : List Plan) (kept : Queues) : Type 0 where
  pub keys : List Pattern
  pub listed : AreListed plans keys
  pub few : length keys < 2 ^ 32 - 1
  pub named : AreNamed keys
  pub actions : ArePostsAndArrivals plans (actions_of plans kept.events.items)
  pub queues : AreQueues plans keys kept.queues.items kept.next.items (actions_of plans kept.events.items)
  pub to_come : AreToCome plans keys kept.next.items (actions_of plans kept.events.items)
