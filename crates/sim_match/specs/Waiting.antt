-- The operations of posts and arrivals.
use Rattle.std.specs.Prelude.{Bool, true, false, List, [], ◌∷◌, ◌++◌, Option, Some, None, if◌then◌else◌}
use Rattle.goal_graph.specs.declared.action.OpId.{OpId}
use Rattle.goal_graph.specs.declared.action.Class.{Class}
use Rattle.goal_graph.specs.declared.plan.Kind.{Kind}
use Rattle.goal_graph.specs.declared.plan.Kind.TheVariants.{Calc, Send, Recv}
use Rattle.goal_graph.specs.Schedule.{Plan, kind_at}
use Rattle.goal_graph.specs.Action.{Act, is_of}

-- the operations of the actions of a class, oldest first
unfoldable pub ops_of : Class → List Act → List OpId
ops_of class [] = []
ops_of class (a ∷ h) = ops_of class h ++ (if is_of class a then a.op ∷ [] else [])

abbrev pub is_message_kind : Option Kind → Bool
is_message_kind (Some (Calc nanos)) = false
is_message_kind (Some (Send bytes to tag)) = true
is_message_kind (Some (Recv room from tag)) = true
is_message_kind None = false

-- a send or a receive
abbrev pub is_message : List Plan → OpId → Bool
is_message plans x = is_message_kind (kind_at plans x)
