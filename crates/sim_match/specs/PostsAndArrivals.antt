-- What contracts know of a matcher: the posts of receives and the arrivals of sends so far.
use Rattle.std.specs.Prelude.{◌≡◌, Bool, true, false, List, ◌∷◌, Option}
use Rattle.std.specs.Option.{option_map}
use Rattle.goal_graph.specs.declared.action.OpId.{OpId}
use Rattle.goal_graph.specs.declared.action.Class.{Class}
use Rattle.goal_graph.specs.declared.action.Class.TheVariants.{Arrive, Serve, Data, Post, Begin}
use Rattle.goal_graph.specs.Schedule.{Plan}
use Rattle.goal_graph.specs.Action.{Act, happened}
use Rattle.goal_graph.specs.Matching.{Pair, fits, pairs, is_paired, new_pair}

-- the plans of the schedule, and the posts and arrivals so far, newest first
pub record PostsAndArrivals : Type 0 where
  pub plans : List Plan
  pub actions : List Act

-- the same after the post of x; after the arrival of m
abbrev pub with_post : PostsAndArrivals → OpId → PostsAndArrivals
with_post s x = record s { actions = record { class = Post; op = x } ∷ s.actions }

abbrev pub with_arrival : PostsAndArrivals → OpId → PostsAndArrivals
with_arrival s m = record s { actions = record { class = Arrive; op = m } ∷ s.actions }

-- posts and arrivals are the actions on which matching depends
abbrev pub is_post_or_arrival_class : Class → Bool
is_post_or_arrival_class Arrive = true
is_post_or_arrival_class Serve = false
is_post_or_arrival_class Data = false
is_post_or_arrival_class Post = true
is_post_or_arrival_class Begin = false

abbrev pub is_post_or_arrival : Act → Bool
is_post_or_arrival a = is_post_or_arrival_class a.class

-- the send that the rule of matching pairs with x, if x is posted after h
abbrev pub send_for : List Plan → List Act → OpId → Option OpId
send_for plans h x = option_map (λ (p : Pair). p.send) (new_pair plans (pairs plans h) h Post x)

-- the receive that the rule of matching pairs with m, if m arrives after h
abbrev pub receive_for : List Plan → List Act → OpId → Option OpId
receive_for plans h m = option_map (λ (p : Pair). p.recv) (new_pair plans (pairs plans h) h Arrive m)

-- each arrived send that x fits is paired
abbrev pub NoSendFits : List Plan → List Act → OpId → Type 0
NoSendFits plans h x =
    (m : OpId) → happened Arrive m h ≡ true → fits plans x m ≡ true → is_paired (pairs plans h) m ≡ true

-- each posted receive that fits m is paired
abbrev pub NoReceiveFits : List Plan → List Act → OpId → Type 0
NoReceiveFits plans h m =
    (x : OpId) → happened Post x h ≡ true → fits plans x m ≡ true → is_paired (pairs plans h) x ≡ true
