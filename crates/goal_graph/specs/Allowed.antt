-- Which actions may happen next, whatever the times: the timed run and all interleavings share these rules. `eager`
-- tests whether a send is eager; any other is a rendezvous send, which transfers its data after a request.
use Rattle.std.specs.Prelude.{◌&&◌, ◌||◌, Bool, false, not, List, Option, Some, None, if◌then◌else◌}
use Rattle.std.specs.List.{list_all}
use Rattle.goal_graph.specs.declared.action.OpId.{OpId}
use Rattle.goal_graph.specs.declared.action.Class.{Class}
use Rattle.goal_graph.specs.declared.action.Class.TheVariants.{Arrive, Serve, Data, Post, Begin}
use Rattle.goal_graph.specs.declared.plan.Kind.{Kind}
use Rattle.goal_graph.specs.declared.plan.Kind.TheVariants.{Calc, Send, Recv}
use Rattle.goal_graph.specs.declared.plan.Need.{Need}
use Rattle.goal_graph.specs.declared.plan.When.{When}
use Rattle.goal_graph.specs.declared.plan.When.TheVariants.{AfterEnd, AfterStart}
use Rattle.goal_graph.specs.Schedule.{Plan, kind_at, needs, needed}
use Rattle.goal_graph.specs.Action.{Act, happened}
use Rattle.goal_graph.specs.Matching.{pairs, partner, is_paired}

-- the class of the action that starts an operation
abbrev pub first_class : Option Kind → Class
first_class (Some (Recv room from tag)) = Post
first_class (Some (Send bytes to tag)) = Begin
first_class (Some (Calc nanos)) = Begin
first_class None = Begin

-- the class of the action that ends an operation
abbrev pub last_class : Bool → Option Kind → Class
last_class eager (Some (Recv room from tag)) = Serve
last_class eager (Some (Send bytes to tag)) = if eager then Begin else Data
last_class eager (Some (Calc nanos)) = Begin
last_class eager None = Begin

module _ (plans : List Plan) where
  abbrev pub has_started : OpId → List Act → Bool
  has_started x = happened (first_class (kind_at plans x)) x

  module _ (eager : OpId → Bool) where
    abbrev pub has_ended : OpId → List Act → Bool
    has_ended x = happened (last_class (eager x) (kind_at plans x)) x

    -- the start or end of y that a dependency waits for has happened
    abbrev pub is_met : List Act → When → OpId → Bool
    is_met h AfterEnd y = has_ended y h
    is_met h AfterStart y = has_started y h

    -- all that x needs has happened
    unfoldable pub is_ready : List Act → OpId → Bool
    is_ready h x = list_all (λ (d : Need). is_met h d.when (needed x d)) (needs plans x)

    -- the message of the partner is there: the partner is eager, or has transferred its data
    abbrev pub is_served : List Act → Option OpId → Bool
    is_served h None = false
    is_served h (Some m) = eager m || happened Data m h

    abbrev pub may : List Act → Class → OpId → Option Kind → Bool
    -- a calc or a send begins once it is ready
    may h Begin x (Some (Calc nanos)) = is_ready h x
    may h Begin x (Some (Send bytes to tag)) = is_ready h x
    -- a receive is posted once it is ready
    may h Post x (Some (Recv room from tag)) = is_ready h x
    -- a message, or its request, arrives once the send has begun
    may h Arrive x (Some (Send bytes to tag)) = happened Begin x h
    -- a rendezvous send transfers its data once it is paired
    may h Data x (Some (Send bytes to tag)) = not (eager x) && is_paired (pairs plans h) x
    -- a receive takes its message once it is paired and its partner's message is there
    may h Serve x (Some (Recv room from tag)) = is_served h (partner (pairs plans h) x)
    may h _ x _ = false

    -- the action is allowed after h: it has not happened, and its rule above holds
    unfoldable pub allowed : List Act → Class → OpId → Bool
    allowed h class x = not (happened class x h) && may h class x (kind_at plans x)
