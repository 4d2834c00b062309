-- How long the last action of an operation holds its cpu, and its wait as the code computes it.
use Rattle.std.proofs.Common.{◌≡◌, ℕ, ◌-◌, Bool, true, false, List, Option, Some, None, if◌then◌else◌, refl, sym, ap, ◌∙◌, subst, arith}
use Rattle.std.proofs.lemmas.Option.{same_Some}
use Rattle.goal_graph.specs.declared.action.OpId.{OpId}
use Rattle.goal_graph.specs.declared.action.Timed.{Timed}
use Rattle.goal_graph.specs.declared.plan.Op.{Op}
use Rattle.goal_graph.specs.declared.plan.Kind.{Kind}
use Rattle.goal_graph.specs.declared.plan.Kind.TheVariants.{Calc, Send, Recv}
use Rattle.goal_graph.specs.Schedule.{Plan, op_at, kind_at}
use Rattle.goal_graph.specs.Action.{plain}
use Rattle.goal_graph.specs.Allowed.{last_class, is_ready}
use Rattle.goal_graph.proofs.ForCallers.{ended_started, started_ready, kind_from_op}
use Rattle.sim_params.specs.Costs.{CostModel, over, cost_of, is_eager}
use Rattle.sim_params.specs.Times.{cpu_hold, at_partner, mate, end, ready}
use Rattle.sim_params.specs.Run.{IsRun}
use Rattle.sim_params.proofs.ForCallers.{run_interleaving}
use Rattle.sim_events.specs.Engine.{end_known}
use Rattle.sim_events.specs.Enabled.{ready_known}
use Rattle.sim_waits.specs.Waits.{ended, wait}
use Rattle.sim_waits.specs.WaitKeys.{wait_told}

-- the kind of an operation that was read
pub kind_read : (plans read : List Plan) (x : OpId) (o : Op) (k : Kind) → read ≡ plans → op_at read x ≡ Some o → o.kind ≡ k → kind_at plans x ≡ Some k
kind_read plans read x o k same found is =
    kind_from_op plans x o k (subst (λ (ps : List Plan). op_at ps x ≡ Some o) same found) is

-- a cost at an operation of this kind
pub cost_at : (f : ℕ → ℕ → ℕ → ℕ) (rank : ℕ) (o : Option Kind) (k : Kind) → o ≡ Some k → cost_of f rank (Some k) ≡ cost_of f rank o
cost_at f rank o k e = ap (cost_of f rank) (sym e)

module _ (plans : List Plan) (costs : CostModel) (h : List Timed) (x : OpId) where
  -- how long the last action of x holds its cpu, if it has this kind
  abbrev pub hold_of : Option Kind → ℕ
  hold_of k = cpu_hold plans costs h (last_class (is_eager plans costs x) k) x k

  pub hold_calc : (nanos : ℕ) → kind_at plans x ≡ Some (Calc nanos) → nanos ≡ hold_of (kind_at plans x)
  hold_calc nanos k = ap hold_of (sym k)

  pub hold_send : (bytes to tag : ℕ) → kind_at plans x ≡ Some (Send bytes to tag) → over plans costs x ≡ hold_of (kind_at plans x)
  hold_send bytes to tag k = go (is_eager plans costs x) refl ∙ ap hold_of (sym k)
    where
      go : (b : Bool) → is_eager plans costs x ≡ b → over plans costs x ≡ cpu_hold plans costs h (last_class b (Some (Send bytes to tag))) x (Some (Send bytes to tag))
      go true e = sym (rw e refl)
      go false e = refl

  pub hold_recv : (room : ℕ) (from tag : Option ℕ) (m : Option OpId) → kind_at plans x ≡ Some (Recv room from tag) → m ≡ mate plans costs h x → at_partner (over plans costs) m ≡ hold_of (kind_at plans x)
  hold_recv room from tag m k e = ap (at_partner (over plans costs)) e ∙ ap hold_of (sym k)

  -- the end of an operation, once it has one
  pub known_end_is_end : (n : ℕ) → Some n ≡ end_known plans costs h x → (ended plans costs h x ≡ true) × (n ≡ end plans costs h x)
  known_end_is_end n = go (ended plans costs h x) refl
    where
      go : (b : Bool) → ended plans costs h x ≡ b → Some n ≡ (if b then Some (end plans costs h x) else None) → (ended plans costs h x ≡ true) × (n ≡ end plans costs h x)
      go true s e = (s, same_Some n (end plans costs h x) e)
      go false s e = absurd (cc)

  ended_ready : IsRun plans costs h → ended plans costs h x ≡ true → is_ready plans (is_eager plans costs) (plain h) x ≡ true
  ended_ready run e =
      let walk = run_interleaving plans costs h run in
      started_ready plans (is_eager plans costs) (plain h) x walk (ended_started plans (is_eager plans costs) (plain h) x walk e)

  -- what has ended was ready
  pub ended_was_ready : (n : ℕ) → IsRun plans costs h → Some n ≡ end_known plans costs h x → None ≡ ready_known plans costs h x → None ≡ wait_told plans costs h x
  ended_was_ready n run e r = go (is_ready plans (is_eager plans costs) (plain h) x) (ended_ready run (known_end_is_end n e).0) r
    where
      go : (b : Bool) → b ≡ true → ◌≡◌ {A = Option ℕ} None (if b then Some (ready plans costs h x) else None) → None ≡ wait_told plans costs h x
      go true s f = absurd (cc)
      go false s f = absurd (cc)

  known_ready_is_ready : (m : ℕ) → Some m ≡ ready_known plans costs h x → m ≡ ready plans costs h x
  known_ready_is_ready m = go (is_ready plans (is_eager plans costs) (plain h) x)
    where
      go : (b : Bool) → Some m ≡ (if b then Some (ready plans costs h x) else None) → m ≡ ready plans costs h x
      go true e = same_Some m (ready plans costs h x) e
      go false e = absurd (cc)

  pub computed_wait_is_wait : (n held m w : ℕ) → Some n ≡ end_known plans costs h x → held ≡ hold_of (kind_at plans x) → Some m ≡ ready_known plans costs h x → w ≡ (n - held) - m → Some w ≡ wait_told plans costs h x
  unfolding wait
  computed_wait_is_wait n held m w e s r t =
      let last : w ≡ wait plans costs h x = omega (arith, (known_end_is_end n e).1, s, known_ready_is_ready m r, t) in
      ap Some last ∙ ap (λ (b : Bool). if b then Some (wait plans costs h x) else None) (sym (known_end_is_end n e).0)
