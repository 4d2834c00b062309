-- The share of an operation by its kind, and bounds on shares.
use Rattle.std.proofs.Common.{◌≡◌, ℕ, ◌+◌, ◌^◌, ◌<◌, ◌≤◌, true, false, nat_le, List, length, get_or, Option, Some, None, refl, ap, subst, inl, inr, arith, leb-true}
use Rattle.std.specs.List.{sum_by}
use Rattle.std.specs.Option.{option_map}
use Rattle.std.proofs.lemmas.Bool.{and_parts, cases_Bool}
use Rattle.std.proofs.lemmas.List.Sums.{sum_by-le}
use Rattle.goal_graph.specs.declared.action.OpId.{OpId}
use Rattle.goal_graph.specs.declared.plan.Op.{Op}
use Rattle.goal_graph.specs.declared.plan.Kind.{Kind}
use Rattle.goal_graph.specs.declared.plan.Kind.TheVariants.{Calc, Send, Recv}
use Rattle.goal_graph.specs.Schedule.{Plan, op_at, kind_at}
use Rattle.goal_graph.specs.Fault.{value_fits, IsAccepted}
use Rattle.sim_params.specs.Costs.{CostModel, is_eager}
use Rattle.sim_params.specs.Bounded.{IsBounded}
use Rattle.sim_params.specs.Budget.{share, message_share, request_share}
use Rattle.sim_params.proofs.Accepted.{value_within}
use Rattle.goal_graph.proofs.ForCallers.{kind_from_op}

-- a message's size and a calc's duration are within their limits
pub send_bytes_within_limit : (o : Op) (bytes to tag : ℕ) → value_fits o.kind o.nic ≡ true → o.kind ≡ Send bytes to tag → bytes < 2 ^ 40
send_bytes_within_limit o bytes to tag fits k =
    let within : nat_le bytes 1099511627775 ≡ true = subst (λ (k : Kind). value_fits k o.nic ≡ true) k fits in
    omega (arith, leb-true bytes 1099511627775 within)

pub calc_nanos_within_limit : (o : Op) (nanos : ℕ) → value_fits o.kind o.nic ≡ true → o.kind ≡ Calc nanos → nanos < 2 ^ 48
calc_nanos_within_limit o nanos fits k =
    let within = subst (λ (k : Kind). value_fits k o.nic ≡ true) k fits in
    omega (arith, leb-true nanos 281474976710655 (and_parts (nat_le nanos 281474976710655) _ within).0)

module _ (plans : List Plan) (costs : CostModel) (x : OpId) where
  pub share_calc : (nanos : ℕ) → kind_at plans x ≡ Some (Calc nanos) → share plans costs x ≡ nanos
  unfolding share
  share_calc nanos e = rw e refl

  pub share_recv : (room : ℕ) (from tag : Option ℕ) → kind_at plans x ≡ Some (Recv room from tag) → share plans costs x ≡ 0
  unfolding share
  share_recv room from tag e = rw e refl

  pub share_none : kind_at plans x ≡ None → share plans costs x ≡ 0
  unfolding share
  share_none e = rw e refl

  pub share_eager : (bytes to tag : ℕ) → kind_at plans x ≡ Some (Send bytes to tag) → costs.eager x.rank to bytes ≡ true → share plans costs x ≡ message_share costs x.rank to bytes
  unfolding share is_eager
  share_eager bytes to tag e eager = simp (e, eager) (omega arith)

  pub share_rendezvous : (bytes to tag : ℕ) → kind_at plans x ≡ Some (Send bytes to tag) → costs.eager x.rank to bytes ≡ false → share plans costs x ≡ message_share costs x.rank to bytes + request_share costs x.rank to
  unfolding share is_eager
  share_rendezvous bytes to tag e eager = simp (e, eager)

-- no share is over 2^66
module _ (plans : List Plan) (costs : CostModel) (accepted : IsAccepted plans) (bounded : IsBounded costs) where
  send_bound : (x : OpId) (bytes to tag : ℕ) → kind_at plans x ≡ Some (Send bytes to tag) → bytes < 2 ^ 40 → share plans costs x ≤ 2 ^ 66
  send_bound x bytes to tag e few =
      elim (cases_Bool (costs.eager x.rank to bytes)) [ inl t ↦ omega (arith, share_eager plans costs x bytes to tag e t, bounded.over x.rank to bytes few, bounded.gap x.rank to bytes few, bounded.flight x.rank to bytes few) | inr f ↦ omega (arith, share_rendezvous plans costs x bytes to tag e f, bounded.over x.rank to bytes few, bounded.gap x.rank to bytes few, bounded.flight x.rank to bytes few, bounded.over x.rank to 1 (omega arith), bounded.gap x.rank to 1 (omega arith), bounded.flight x.rank to 1 (omega arith), bounded.latency x.rank to) ]

  share_of_kind_bound : (x : OpId) (o : Op) → op_at plans x ≡ Some o → (k : Kind) → o.kind ≡ k → share plans costs x ≤ 2 ^ 66
  share_of_kind_bound x o e (Calc nanos) f =
      omega (arith, share_calc plans costs x nanos (kind_from_op plans x o _ e f), calc_nanos_within_limit o nanos (value_within plans accepted x o e) f)
  share_of_kind_bound x o e (Send bytes to tag) f =
      send_bound x bytes to tag (kind_from_op plans x o _ e f) (send_bytes_within_limit o bytes to tag (value_within plans accepted x o e) f)
  share_of_kind_bound x o e (Recv room from tag) f = omega (arith, share_recv plans costs x room from tag (kind_from_op plans x o _ e f))

  pub share_bound : (x : OpId) → share plans costs x ≤ 2 ^ 66
  unfolding kind_at
  share_bound x = go (op_at plans x) refl
    where
      go : (o : Option Op) → op_at plans x ≡ o → share plans costs x ≤ 2 ^ 66
      go None e = omega (arith, share_none plans costs x (ap (option_map (λ (o : Op). o.kind)) e))
      go (Some o) e = share_of_kind_bound x o e o.kind refl

  pub shares_bound : (xs : List OpId) → length xs ≤ 2 ^ 20 → sum_by (share plans costs) xs ≤ 2 ^ 86
  shares_bound xs few =
      omega (arith, sum_by-le (share plans costs) (2 ^ 66) xs (λ k d h. share_bound (get_or xs k d)), few)
