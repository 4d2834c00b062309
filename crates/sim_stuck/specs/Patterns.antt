-- The first operation of a list for each pattern of a receive.
use Rattle.std.specs.Prelude.{◌≡◌, Bool, false, cond, List, Option, Some, None, find}
use Rattle.std.specs.Ordering.{is_eq, is_lt}
use Rattle.std.specs.BTreeMap.{get}
use Rattle.goal_graph.specs.declared.action.OpId.{OpId}
use Rattle.goal_graph.specs.declared.plan.Kind.{Kind}
use Rattle.goal_graph.specs.declared.plan.Kind.TheVariants.{Calc, Send, Recv}
use Rattle.goal_graph.specs.Schedule.{Plan, kind_at}
use Rattle.goal_graph.specs.Keys.{op_cmp}
use Rattle.goal_graph.specs.Matching.{fits_kinds}
use Rattle.sim_match.specs.declared.pattern.Pattern.{Pattern}
use Rattle.sim_match.specs.Patterns.{pattern_cmp}
use Rattle.sim_stuck.specs.declared.partner.Firsts.{Firsts}

-- m, of this kind, is a send that a receive of the pattern q takes
abbrev pub is_for : Pattern → OpId → Option Kind → Bool
is_for q m kind =
    fits_kinds (record { rank = q.rank; op = 0 }) (Some (Recv 0 q.from q.tag)) m kind

-- x, of this kind, is a receive of the pattern q
abbrev pub is_by : Pattern → OpId → Option Kind → Bool
is_by q x (Some (Calc nanos)) = false
is_by q x (Some (Send bytes to tag)) = false
is_by q x (Some (Recv room from tag)) =
    is_eq (pattern_cmp (record { rank = x.rank; from = from; tag = tag }) q)
is_by q x None = false

-- the lesser of two operations; `None` if there is neither
abbrev pub least : Option OpId → Option OpId → Option OpId
least None b = b
least (Some x) None = Some x
least (Some x) (Some y) = cond (is_lt (op_cmp y x)) (Some y) (Some x)

-- the first send and the first receive of each pattern
pub record AreFirsts (plans : List Plan) (ids : List OpId) (firsts : Firsts) : Type 0 where
  pub sends : (q : Pattern) → get pattern_cmp firsts.sends q ≡ find (λ (y : OpId). is_for q y (kind_at plans y)) ids
  pub receives : (q : Pattern) → get pattern_cmp firsts.receives q ≡ find (λ (y : OpId). is_by q y (kind_at plans y)) ids
