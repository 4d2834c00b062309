-- Who is paired, after one more pair.
use Rattle.std.proofs.Common.{◌≡◌, ◌||◌, Bool, true, false, if◌then◌else◌, List, ◌∷◌, Option, Some, None, is_some, refl, ap}
use Rattle.std.specs.Option.{option_or}
use Rattle.goal_graph.specs.declared.action.OpId.{OpId}
use Rattle.goal_graph.specs.Schedule.{Plan}
use Rattle.goal_graph.specs.Action.{Act, same_op}
use Rattle.goal_graph.specs.Matching.{Pair, partner, is_paired, new_pair, add_pair, pairs}

-- x is one of the two
abbrev pub in_pair : Pair → OpId → Bool
in_pair p x = same_op p.send x || same_op p.recv x

pub paired_with_new_pair : (p : Pair) (ps : List Pair) (x : OpId) → is_paired (p ∷ ps) x ≡ (is_paired ps x || in_pair p x)
unfolding partner
paired_with_new_pair p ps x = go (partner ps x) (same_op p.send x) (same_op p.recv x)
  where
    go : (o : Option OpId) (s r : Bool) → is_some (option_or o (if s then Some p.recv else (if r then Some p.send else None))) ≡ (is_some o || (s || r))
    go (Some y) s r = refl
    go None true r = refl
    go None false true = refl
    go None false false = refl

pub pairs_with_new_pair : (plans : List Plan) (a : Act) (h : List Act) (p : Pair) → new_pair plans (pairs plans h) h a.class a.op ≡ Some p → pairs plans (a ∷ h) ≡ p ∷ pairs plans h
unfolding pairs
pairs_with_new_pair plans a h p e = ap (λ (o : Option Pair). add_pair (pairs plans h) o) e
