-- How a list of actions is stored as numbers, for a struct that has it in contracts only.
use Rattle.std.specs.Prelude.{◌≡◌, ℕ, List, refl}
use Rattle.std.specs.Coded.{Coded, code_by, coded×, coded_ℕ, coded_list}
use mathlib.Core.Path.{ap}
use Rattle.goal_graph.specs.declared.action.Timed.{Timed}
use Rattle.goal_graph.specs.declared.action.Class.{Class}
use Rattle.goal_graph.specs.declared.action.Class.TheVariants.{Arrive, Serve, Data, Post, Begin}
use Rattle.goal_graph.specs.Action.{place}
use Rattle.sim_order.specs.Compact.{class_at}

pub class_at-place : (c : Class) → class_at (place c) ≡ c
class_at-place Arrive = refl
class_at-place Serve = refl
class_at-place Data = refl
class_at-place Post = refl
class_at-place Begin = refl

abbrev Numbers : Type 0
Numbers = ℕ × (ℕ × (ℕ × ℕ))

abbrev numbers_of : Timed → Numbers
numbers_of a = (a.time, (place a.class, (a.op.rank, a.op.op)))

abbrev action_of : Numbers → Timed
action_of n = record { time = n.0; class = class_at n.1.0; op = record { rank = n.1.1.0; op = n.1.1.1 } }

pub action_of-numbers_of : (a : Timed) → action_of (numbers_of a) ≡ a
action_of-numbers_of a = ap (λ (c : Class). record { time = a.time; class = c; op = a.op }) (class_at-place a.class)

abbrev pub actions_code : Coded (List Timed)
actions_code = coded_list (code_by Numbers (coded× coded_ℕ (coded× coded_ℕ (coded× coded_ℕ coded_ℕ))) numbers_of action_of action_of-numbers_of)
