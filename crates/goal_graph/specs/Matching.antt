-- Which receive takes which message. Times play no part.
use Rattle.std.specs.Prelude.{ℕ, ◌==◌, ◌&&◌, Bool, true, false, not, List, [], ◌∷◌, Option, Some, None, is_some, if◌then◌else◌}
use Rattle.std.specs.Option.{option_map, option_or}
use Rattle.goal_graph.specs.declared.action.OpId.{OpId}
use Rattle.goal_graph.specs.declared.action.Class.{Class}
use Rattle.goal_graph.specs.declared.action.Class.TheVariants.{Arrive, Serve, Data, Post, Begin}
use Rattle.goal_graph.specs.declared.plan.Kind.{Kind}
use Rattle.goal_graph.specs.declared.plan.Kind.TheVariants.{Send, Recv}
use Rattle.goal_graph.specs.Schedule.{Plan, kind_at}
use Rattle.goal_graph.specs.Action.{Act, is_of, same_op, oldest}

-- a wildcard or the same number
abbrev pub accepts : Option ℕ → ℕ → Bool
accepts None n = true
accepts (Some k) n = k == n

-- a receive x fits a send m: the send goes to the receive's rank, and the receive's source and tag accept the send's
-- rank and tag
abbrev pub fits_kinds : OpId → Option Kind → OpId → Option Kind → Bool
fits_kinds x (Some (Recv room from tag)) m (Some (Send bytes to with_tag)) =
    (to == x.rank) && accepts from m.rank && accepts tag with_tag
fits_kinds x _ m _ = false

-- a send and the receive that takes it
pub record Pair : Type 0 where
  pub send : OpId
  pub recv : OpId

-- the partner of x in this pair
abbrev pub other_in : Pair → OpId → Option OpId
other_in p x = if same_op p.send x then Some p.recv else (if same_op p.recv x then Some p.send else None)

-- the partner of x; pairs are listed newest first
unfoldable pub partner : List Pair → OpId → Option OpId
partner [] x = None
partner (p ∷ ps) x = option_or (partner ps x) (other_in p x)

abbrev pub is_paired : List Pair → OpId → Bool
is_paired ps x = is_some (partner ps x)

abbrev pub add_pair : List Pair → Option Pair → List Pair
add_pair ps None = ps
add_pair ps (Some p) = p ∷ ps

abbrev pub pair_of : OpId → OpId → Pair
pair_of m x = record { send = m; recv = x }

module _ (plans : List Plan) where
  unfoldable pub fits : OpId → OpId → Bool
  fits x m = fits_kinds x (kind_at plans x) m (kind_at plans m)

  -- a posted, unpaired receive that fits m
  abbrev pub is_open_receive : List Pair → OpId → Act → Bool
  is_open_receive ps m a = is_of Post a && not (is_paired ps a.op) && fits a.op m

  -- an arrived, unpaired send that x fits
  abbrev pub is_open_send : List Pair → OpId → Act → Bool
  is_open_send ps x a = is_of Arrive a && not (is_paired ps a.op) && fits x a.op

  -- An Arrive pairs its send with the oldest posted, unpaired receive that fits. A Post pairs its receive with the
  -- oldest arrived, unpaired send that fits. No other action makes a pair.
  abbrev pub new_pair : List Pair → List Act → Class → OpId → Option Pair
  new_pair ps h Arrive m = option_map (λ x. pair_of m x) (oldest (is_open_receive ps m) h)
  new_pair ps h Post x = option_map (λ m. pair_of m x) (oldest (is_open_send ps x) h)
  new_pair ps h Serve x = None
  new_pair ps h Data x = None
  new_pair ps h Begin x = None

  -- the pairs that a list of actions makes, newest first
  unfoldable pub pairs : List Act → List Pair
  pairs [] = []
  pairs (a ∷ h) = add_pair (pairs h) (new_pair (pairs h) h a.class a.op)
