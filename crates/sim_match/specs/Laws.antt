-- The laws of posts and arrivals in words.
use Rattle.std.specs.Prelude.{◌≡◌, true, List, filter}
use Rattle.goal_graph.specs.declared.action.OpId.{OpId}
use Rattle.goal_graph.specs.declared.action.Class.{Class}
use Rattle.goal_graph.specs.Schedule.{Plan}
use Rattle.goal_graph.specs.Action.{Act, happened}
use Rattle.goal_graph.specs.Matching.{pairs, new_pair}
use Rattle.sim_match.specs.PostsAndArrivals.{is_post_or_arrival, is_post_or_arrival_class}

-- The laws hold for all schedules. The function `laws_of_posts_and_arrivals` ensures each of them.

-- pairs depend only on posts and arrivals
abbrev pub SamePairs : Type 0
SamePairs = (plans : List Plan) (h : List Act) → pairs plans (filter is_post_or_arrival h) ≡ pairs plans h

-- so does the pair that another action makes
abbrev pub SameNewPair : Type 0
SameNewPair = (plans : List Plan) (h : List Act) (class : Class) (x : OpId)
    → new_pair plans (pairs plans (filter is_post_or_arrival h)) (filter is_post_or_arrival h) class x ≡ new_pair plans (pairs plans h) h class x

-- a post or an arrival has happened if it is among the posts and arrivals
abbrev pub SameHappened : Type 0
SameHappened = (class : Class) (x : OpId) (h : List Act) → is_post_or_arrival_class class ≡ true → happened class x (filter is_post_or_arrival h) ≡ happened class x h
