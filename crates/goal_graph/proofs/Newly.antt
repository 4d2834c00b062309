-- Partners exist, and what of a list is left.
use Rattle.std.proofs.Common.{◌≡◌, ◌+◌, ◌<◌, ◌≤◌, ℕ, zero, suc, List, [], ◌∷◌, Contains, length, drop, get_or, Some, inl, inr, sym, subst, arith}
use Rattle.std.proofs.lemmas.List.{drop_more, drop_all}
use Rattle.goal_graph.specs.declared.action.OpId.{OpId}
use Rattle.goal_graph.specs.Schedule.{Plan}
use Rattle.goal_graph.specs.Action.{Act}
use Rattle.goal_graph.specs.Matching.{pairs, partner}
use Rattle.goal_graph.specs.Fault.{IsOp}
use Rattle.goal_graph.proofs.Rules.{fits_receive, fits_send}
use Rattle.goal_graph.proofs.Partners.{partners_met}
use Rattle.goal_graph.proofs.OfKind.{receive_is_op, send_is_op}

-- a partner is an operation of the schedule
pub partner_exists : (plans : List Plan) (h : List Act) (x y : OpId) → partner (pairs plans h) x ≡ Some y → IsOp plans y
partner_exists plans h x y e =
    elim (partners_met plans h x y e) [ inl met ↦ receive_is_op plans y (fits_receive plans y x met.fit) | inr met ↦ send_is_op plans y (fits_send plans x y met.fit) ]

-- the part of a list that is not yet read
pub unread_after_next : {X : Type 0} (xs : List X) (k : ℕ) (d y : X) → k < length xs → Contains (drop k xs) y → ¬ (y ≡ get_or xs k d) → Contains (drop (k + 1) xs) y
unread_after_next xs k d y l left differ = go (subst (λ ds. Contains ds y) (drop_more xs k d l) left)
  where
    go : Contains (get_or xs k d ∷ drop (k + 1) xs) y → Contains (drop (k + 1) xs) y
    go (zero, b, e) = absurd (differ (sym e))
    go (suc i, b, e) = (i, omega (arith, b), e)

pub nothing_after_end : {X : Type 0} (xs : List X) (k : ℕ) (y : X) → length xs ≤ k → Contains (drop k xs) y → ⊥
nothing_after_end xs k y l left =
    let none : Contains [] y = subst (λ ds. Contains ds y) (drop_all k xs l) left in
    omega (arith, none.1)
