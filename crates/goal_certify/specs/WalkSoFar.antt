-- The actions of a walk so far, and what a walker keeps of them.
use Rattle.std.specs.Prelude.{◌≡◌, Bool, true, List, ◌∷◌, ◌++◌, filter, map, reverse, Option, Some, None, if◌then◌else◌}
use Rattle.goal_graph.specs.declared.action.OpId.{OpId}
use Rattle.goal_graph.specs.declared.action.Class.{Class}
use Rattle.goal_graph.specs.declared.action.Class.TheVariants.{Arrive, Serve, Data, Post, Begin}
use Rattle.goal_graph.specs.Schedule.{Plan, operations}
use Rattle.goal_graph.specs.Action.{Act, happened}
pub use Rattle.goal_graph.specs.Entries.{with_entry}
use Rattle.goal_graph.specs.Matching.{pairs, partner}
use Rattle.goal_graph.specs.Fault.{IsAccepted}
use Rattle.goal_graph.specs.Interleaving.{IsInterleaving}
use Rattle.goal_blocks.specs.Walk.{no_send}
use Rattle.sim_match.specs.PostsAndArrivals.{PostsAndArrivals, is_post_or_arrival, is_post_or_arrival_class, send_for, receive_for}
use Rattle.goal_certify.specs.declared.walk.action.PlainAction.{PlainAction}
use Rattle.goal_certify.specs.declared.walk.entry.OpProgress.{OpProgress}

-- the plans of the schedule, and the actions so far, the newest first
pub record WalkSoFar : Type 0 where
  pub plans : List Plan
  pub history : List Act

abbrev pub act_of : PlainAction → Act
act_of a = record { class = a.class; op = a.op }

-- after another action
abbrev pub with_action : WalkSoFar → PlainAction → WalkSoFar
with_action w a = record { plans = w.plans; history = act_of a ∷ w.history }

-- the later list of actions is the other with newer actions before it, or itself
abbrev pub IsLater : List Act → List Act → Type 0
IsLater h later = (more : List Act) × (later ≡ more ++ h)

-- actions that are kept with the oldest first
abbrev pub acts : List PlainAction → List Act
acts items = map act_of (reverse items)

-- whether the action of this class has happened, by what is kept of its operation
abbrev pub is_done : OpProgress → Class → Bool
is_done e Arrive = e.arrived
is_done e Serve = e.served
is_done e Data = e.sent
is_done e Post = e.posted
is_done e Begin = e.begun

-- this action has happened too
abbrev pub with_class : Class → OpProgress → OpProgress
with_class Arrive e = record e { arrived = true }
with_class Serve e = record e { served = true }
with_class Data e = record e { sent = true }
with_class Post e = record e { posted = true }
with_class Begin e = record e { begun = true }

-- the entry of y says that it is paired with m, and the others are those of f
abbrev pub with_pairing : OpId → OpId → (OpId → OpProgress) → OpId → OpProgress
with_pairing y m f = with_entry y (record (f y) { paired = Some m }) f

-- if y has a partner, the entries of the two say that they are paired
abbrev pub with_partner : OpId → Option OpId → (OpId → OpProgress) → OpId → OpProgress
with_partner y None f = f
with_partner y (Some m) f = with_pairing m y (with_pairing y m f)

-- the operation that the rule of matching pairs with x if the action of this class of x is next
abbrev pub met : List Plan → List Act → Class → OpId → Option OpId
met plans h Arrive x = receive_for plans h x
met plans h Serve x = None
met plans h Data x = None
met plans h Post x = send_for plans h x
met plans h Begin x = None

-- the posts and arrivals if an action of this class of x is next
abbrev pub more_met : List Act → Class → OpId → List Act
more_met h class x = if is_post_or_arrival_class class then record { class = class; op = x } ∷ h else h

module _ (plans : List Plan) (h : List Act) where
  -- what is kept of x
  abbrev pub entry_known : OpId → OpProgress
  entry_known x = record {
    arrived = happened Arrive x h;
    served = happened Serve x h;
    sent = happened Data x h;
    posted = happened Post x h;
    begun = happened Begin x h;
    paired = partner (pairs plans h) x;
  }

  -- there is an entry for each operation, in their order
  pub record Represents (entries : List OpProgress) (matcher : PostsAndArrivals) : Type 0 where
    pub accepted : IsAccepted plans
    pub allowed_each : IsInterleaving plans no_send h
    pub known : entries ≡ map entry_known (operations plans)
    pub same_plans : matcher.plans ≡ plans
    pub events : matcher.actions ≡ filter is_post_or_arrival h
