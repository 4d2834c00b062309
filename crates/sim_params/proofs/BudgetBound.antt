-- Every time of a run is within the budget: each action raises the reach by at most its part of a share.
use Rattle.std.proofs.Common.{ℕ, ◌+◌, ◌≤◌, ◌≡◌, max, Bool, true, false, not, List, [], ◌∷◌, Option, Some, None, if◌then◌else◌, Contains, sum_by, refl, sym, ap, ◌∙◌, subst, arith, le_refl, zero-le}
use Rattle.std.proofs.lemmas.Bool.{both_ways, and_parts, not-true}
use Rattle.std.proofs.lemmas.List.Sums.{sum_by-le-sum_by}
use Rattle.goal_graph.specs.declared.action.OpId.{OpId}
use Rattle.goal_graph.specs.declared.action.Timed.{Timed}
use Rattle.goal_graph.specs.declared.action.Class.{Class}
use Rattle.goal_graph.specs.declared.action.Class.TheVariants.{Arrive, Serve, Data, Post, Begin}
use Rattle.goal_graph.specs.declared.plan.Kind.{Kind}
use Rattle.goal_graph.specs.declared.plan.Kind.TheVariants.{Calc, Send, Recv}
use Rattle.goal_graph.specs.Schedule.{Plan, kind_at, operations, IsSend, IsReceive}
use Rattle.goal_graph.specs.Action.{happened, plain, plain_act}
use Rattle.goal_graph.specs.Matching.{pairs, is_paired}
use Rattle.goal_graph.specs.Allowed.{is_served, may, allowed}
use Rattle.goal_graph.proofs.ForCallers.{happened_stays, allowed_may, allowed_fresh, allowed_serve, fits_send, partner_of_receive, partners_mutual, kind_listed, allowed_listed, sum_falls}
use Rattle.sim_params.specs.Costs.{CostModel, over, over_one, gap, gap_one, flight, latency, is_eager}
use Rattle.sim_params.specs.Times.{at_partner, mate, cpu_hold, tx_hold, rx_hold, Possible}
use Rattle.sim_params.specs.Budget.{message_share, request_share, share_of, share, budget}
use Rattle.sim_params.specs.Laws.{hold, reach, part_of, part, payer, IsWithin}
use Rattle.sim_params.proofs.Fixed.{newest_happened}
use Rattle.sim_params.proofs.Grow.{mate_stays}
use Rattle.sim_params.proofs.Interleavings.{EachPossible, each_possible_is_interleaving}
use Rattle.sim_params.proofs.Reach.{lag, newest_within_reach, time_reach, within_reach, within_later}

-- a part that is paid, or is not
abbrev paid_part : Bool → ℕ → ℕ
paid_part b n = if b then n else 0

paid_part_le : (b : Bool) (n : ℕ) → paid_part b n ≤ n
paid_part_le true n = le_refl n
paid_part_le false n = zero-le

paid_grows : (b c : Bool) (n : ℕ) → (b ≡ true → c ≡ true) → paid_part b n ≤ paid_part c n
paid_grows false c n stays = zero-le
paid_grows true c n stays = subst (λ c. n ≤ paid_part c n) (sym (stays refl)) (le_refl n)

newly_paid_adds : (b c : Bool) (n : ℕ) → b ≡ false → c ≡ true → paid_part b n + n ≤ paid_part c n
newly_paid_adds b c n p q = subst (λ b. paid_part b n + n ≤ paid_part c n) (sym p) (subst (λ c. 0 + n ≤ paid_part c n) (sym q) (omega arith))

module _ (plans : List Plan) (costs : CostModel) where
  -- the parts add up to the share
  pub parts_make_share : (x : OpId) → part plans costs Begin x + part plans costs Arrive x + part plans costs Data x + part plans costs Serve x ≡ share plans costs x
  unfolding part share is_eager
  parts_make_share x = go (kind_at plans x) refl
    where
      go : (k : Option Kind) → kind_at plans x ≡ k → part_of plans costs Begin x k + part_of plans costs Arrive x k + part_of plans costs Data x k + part_of plans costs Serve x k ≡ share_of costs x.rank k
      go (Some (Calc nanos)) e = omega arith
      go (Some (Recv room from tag)) e = refl
      go None e = refl
      go (Some (Send bytes to tag)) e =
          rw e (elim (costs.eager x.rank to bytes) as (λ b. (if b then costs.over x.rank to bytes + costs.gap x.rank to bytes else costs.over x.rank to 1 + costs.gap x.rank to 1) + (if b then costs.flight x.rank to bytes else costs.flight x.rank to 1) + (if b then 0 else costs.latency x.rank to + costs.over x.rank to bytes + costs.gap x.rank to bytes) + ((if b then 0 else costs.flight x.rank to bytes) + costs.over x.rank to bytes + costs.gap x.rank to bytes) ≡ message_share costs x.rank to bytes + (if b then 0 else request_share costs x.rank to)) [ true ↦ omega arith | false ↦ omega arith ])

  -- a receive that has its message, with its send
  abbrev partner_is_served : List Timed → Option OpId → Bool
  partner_is_served h None = false
  partner_is_served h (Some r) = happened Serve r (plain h)

  -- what an operation has paid of its share
  spent : List Timed → OpId → ℕ
  spent h x =
      paid_part (happened Begin x (plain h)) (part plans costs Begin x) + paid_part (happened Arrive x (plain h)) (part plans costs Arrive x) + paid_part (happened Data x (plain h)) (part plans costs Data x) + paid_part (partner_is_served h (mate plans costs h x)) (part plans costs Serve x)

  spent_share : (h : List Timed) (x : OpId) → spent h x ≤ share plans costs x
  unfolding spent
  spent_share h x =
      omega (arith, parts_make_share x, paid_part_le (happened Begin x (plain h)) (part plans costs Begin x), paid_part_le (happened Arrive x (plain h)) (part plans costs Arrive x), paid_part_le (happened Data x (plain h)) (part plans costs Data x), paid_part_le (partner_is_served h (mate plans costs h x)) (part plans costs Serve x))

  happened_kept : (a : Timed) (h : List Timed) (c : Class) (x : OpId) → happened c x (plain h) ≡ true → happened c x (plain (a ∷ h)) ≡ true
  unfolding plain
  happened_kept a h c x e = happened_stays c x (plain_act a) (plain h) e

  partner_stays_served : (a : Timed) (h : List Timed) (x : OpId) → partner_is_served h (mate plans costs h x) ≡ true → partner_is_served (a ∷ h) (mate plans costs (a ∷ h) x) ≡ true
  partner_stays_served a h x e = go (mate plans costs h x) refl e
    where
      go : (o : Option OpId) → mate plans costs h x ≡ o → partner_is_served h o ≡ true → partner_is_served (a ∷ h) (mate plans costs (a ∷ h) x) ≡ true
      go None p t = absurd (both_ways false refl t)
      go (Some r) p t = subst (λ o. partner_is_served (a ∷ h) o ≡ true) (sym (mate_stays plans costs a h x r p)) (happened_kept a h Serve r t)

  part_grows : (a : Timed) (h : List Timed) (c : Class) (x : OpId) → paid_part (happened c x (plain h)) (part plans costs c x) ≤ paid_part (happened c x (plain (a ∷ h))) (part plans costs c x)
  part_grows a h c x = paid_grows _ _ (part plans costs c x) (happened_kept a h c x)

  senders_part_grows : (a : Timed) (h : List Timed) (x : OpId) → paid_part (partner_is_served h (mate plans costs h x)) (part plans costs Serve x) ≤ paid_part (partner_is_served (a ∷ h) (mate plans costs (a ∷ h) x)) (part plans costs Serve x)
  senders_part_grows a h x = paid_grows _ _ (part plans costs Serve x) (partner_stays_served a h x)

  spent_grows : (a : Timed) (h : List Timed) (x : OpId) → spent h x ≤ spent (a ∷ h) x
  unfolding spent
  spent_grows a h x = omega (arith, part_grows a h Begin x, part_grows a h Arrive x, part_grows a h Data x, senders_part_grows a h x)

  part_rises : (a : Timed) (h : List Timed) (c : Class) (x : OpId) → happened c x (plain h) ≡ false → happened c x (plain (a ∷ h)) ≡ true → paid_part (happened c x (plain h)) (part plans costs c x) + part plans costs c x ≤ paid_part (happened c x (plain (a ∷ h))) (part plans costs c x)
  part_rises a h c x p q = newly_paid_adds _ _ (part plans costs c x) p q

  -- an operation pays for its actions, and a send for the Serve of its receive
  action_adds_own_part : (a : Timed) (h : List Timed) (c : Class) (x : OpId) → ¬ (c ≡ Serve) → happened c x (plain h) ≡ false → happened c x (plain (a ∷ h)) ≡ true → spent h x + part plans costs c x ≤ spent (a ∷ h) x
  unfolding spent part
  action_adds_own_part a h Begin x other p q =
      omega (arith, part_rises a h Begin x p q, part_grows a h Arrive x, part_grows a h Data x, senders_part_grows a h x)
  action_adds_own_part a h Arrive x other p q =
      omega (arith, part_grows a h Begin x, part_rises a h Arrive x p q, part_grows a h Data x, senders_part_grows a h x)
  action_adds_own_part a h Data x other p q =
      omega (arith, part_grows a h Begin x, part_grows a h Arrive x, part_rises a h Data x p q, senders_part_grows a h x)
  action_adds_own_part a h Post x other p q = omega (arith, spent_grows a h x)
  action_adds_own_part a h Serve x other p q = absurd (other refl)

  serve_adds_senders_part : (a : Timed) (h : List Timed) (x m : OpId) → mate plans costs h m ≡ Some x → happened Serve x (plain h) ≡ false → happened Serve x (plain (a ∷ h)) ≡ true → spent h m + part plans costs Serve m ≤ spent (a ∷ h) m
  unfolding spent
  serve_adds_senders_part a h x m e p q =
      let before : partner_is_served h (mate plans costs h m) ≡ false = subst (λ o. partner_is_served h o ≡ false) (sym e) p in
      let after : partner_is_served (a ∷ h) (mate plans costs (a ∷ h) m) ≡ true = subst (λ o. partner_is_served (a ∷ h) o ≡ true) (sym (mate_stays plans costs a h m x e)) q in
      omega (arith, part_grows a h Begin m, part_grows a h Arrive m, part_grows a h Data m, newly_paid_adds (partner_is_served h (mate plans costs h m)) (partner_is_served (a ∷ h) (mate plans costs (a ∷ h) m)) (part plans costs Serve m) before after)

  -- a receive that may be served has a send as partner, whose partner it is
  pub record IsServedBy (h : List Timed) (x m : OpId) : Type 0 where
    pub sender : mate plans costs h x ≡ Some m
    pub back : mate plans costs h m ≡ Some x
    pub send : IsSend plans m

  pub served_has_sender : (h : List Timed) (x : OpId) → EachPossible plans costs h → allowed plans (is_eager plans costs) (plain h) Serve x ≡ true → (m : OpId) × IsServedBy h x m
  served_has_sender h x each e = go (mate plans costs h x) refl facts.1
    where
      facts : IsReceive plans x × (is_served plans (is_eager plans costs) (plain h) (mate plans costs h x) ≡ true)
      facts = allowed_serve plans (is_eager plans costs) (plain h) x e

      go : (o : Option OpId) → mate plans costs h x ≡ o → is_served plans (is_eager plans costs) (plain h) o ≡ true → (m : OpId) × IsServedBy h x m
      go None p t = absurd (both_ways false refl t)
      go (Some m) p t = (
        m,
        record {
          sender = p;
          back = partners_mutual plans (is_eager plans costs) (plain h) x m (each_possible_is_interleaving plans costs h each) p;
          send = fits_send plans x m (partner_of_receive plans (plain h) x m facts.0 p).fit;
        },
      )

  -- which operation pays for an action, and that it pays
  record IsPaidBy (h : List Timed) (a : Timed) (y : OpId) : Type 0 where
    payer : payer plans costs h a.class a.op ≡ Some y
    listed : Contains (operations plans) y
    pays : spent h y + part plans costs a.class y ≤ spent (a ∷ h) y

  action_has_payer : (h : List Timed) (a : Timed) → EachPossible plans costs h → Possible plans costs h a → (y : OpId) × IsPaidBy h a y
  action_has_payer h a each p = go a.class refl
    where
      fresh : happened a.class a.op (plain h) ≡ false
      fresh = allowed_fresh plans (is_eager plans costs) (plain h) a.class a.op p.allowed

      own : ¬ (a.class ≡ Serve) → payer plans costs h a.class a.op ≡ Some a.op → (y : OpId) × IsPaidBy h a y
      own other e = (
        a.op,
        record {
          payer = e;
          listed = allowed_listed plans (is_eager plans costs) (plain h) a.class a.op p.allowed;
          pays = action_adds_own_part a h a.class a.op other fresh (newest_happened plans costs a h a.class a.op refl refl);
        },
      )

      at : (c : Class) → a.class ≡ c → (λ (d : Class). payer plans costs h d a.op) a.class ≡ (λ (d : Class). payer plans costs h d a.op) c
      at c e = ap (λ (d : Class). payer plans costs h d a.op) e

      served : a.class ≡ Serve → (y : OpId) × IsPaidBy h a y
      served e =
          let s = served_has_sender h a.op each (subst (λ (c : Class). allowed plans (is_eager plans costs) (plain h) c a.op ≡ true) e p.allowed) in (
            s.0,
            record {
              payer = at Serve e ∙ s.1.sender;
              listed = kind_listed plans s.0 (Send s.1.send.bytes s.1.send.to s.1.send.tag) s.1.send.kind;
              pays = subst (λ (c : Class). spent h s.0 + part plans costs c s.0 ≤ spent (a ∷ h) s.0) (sym e) (serve_adds_senders_part a h a.op s.0 s.1.back (subst (λ (c : Class). happened c a.op (plain h) ≡ false) e fresh) (subst (λ (c : Class). happened c a.op (plain (a ∷ h)) ≡ true) e (newest_happened plans costs a h a.class a.op refl refl)));
            },
          )

      go : (c : Class) → a.class ≡ c → (y : OpId) × IsPaidBy h a y
      go Serve e = served e
      go Begin e = own (λ f. let g = sym e ∙ f in cc) (at Begin e)
      go Arrive e = own (λ f. let g = sym e ∙ f in cc) (at Arrive e)
      go Data e = own (λ f. let g = sym e ∙ f in cc) (at Data e)
      go Post e = own (λ f. let g = sym e ∙ f in cc) (at Post e)

  -- the wait and the hold of an action are at most its part of the payer's share
  serve_lag_and_hold_within_part : (h : List Timed) (x m : OpId) → IsServedBy h x m → at_partner (λ m. if is_eager plans costs m then 0 else flight plans costs m) (mate plans costs h x) + max (at_partner (over plans costs) (mate plans costs h x)) (max 0 (at_partner (gap plans costs) (mate plans costs h x))) ≤ at_partner (part plans costs Serve) (mate plans costs h x)
  unfolding part
  serve_lag_and_hold_within_part h x m s =
      subst (λ o. at_partner (λ m. if is_eager plans costs m then 0 else flight plans costs m) o + max (at_partner (over plans costs) o) (max 0 (at_partner (gap plans costs) o)) ≤ at_partner (part plans costs Serve) o) (sym s.sender) (omega (arith, ap (part_of plans costs Serve m) s.send.kind))

  own_lag_and_hold_within_part : (h : List Timed) (c : Class) (x : OpId) (k : Option Kind) → kind_at plans x ≡ k → ¬ (c ≡ Serve) → may plans (is_eager plans costs) (plain h) c x k ≡ true → lag plans costs h c x k + max (cpu_hold plans costs h c x k) (max (tx_hold plans costs c x k) (rx_hold plans costs h c x k)) ≤ part_of plans costs c x k
  own_lag_and_hold_within_part h Begin x (Some (Calc nanos)) e other m = omega arith
  own_lag_and_hold_within_part h Begin x (Some (Send bytes to tag)) e other m =
      elim (is_eager plans costs x) as (λ b. 0 + max (if b then over plans costs x else over_one plans costs x) (max (if b then gap plans costs x else gap_one plans costs x) 0) ≤ (if b then over plans costs x + gap plans costs x else over_one plans costs x + gap_one plans costs x)) [ true ↦ omega arith | false ↦ omega arith ]
  own_lag_and_hold_within_part h Post x (Some (Recv room from tag)) e other m = omega arith
  own_lag_and_hold_within_part h Arrive x (Some (Send bytes to tag)) e other m = omega arith
  own_lag_and_hold_within_part h Data x (Some (Send bytes to tag)) e other m =
      let large : is_eager plans costs x ≡ false = not-true (is_eager plans costs x) (and_parts (not (is_eager plans costs x)) (is_paired (pairs plans (plain h)) x) m).0 in
      subst (λ b. latency plans costs x + max (over plans costs x) (max (gap plans costs x) 0) ≤ (if b then 0 else latency plans costs x + over plans costs x + gap plans costs x)) (sym large) (omega arith)
  own_lag_and_hold_within_part h Serve x (Some (Recv room from tag)) e other m = absurd (other refl)
  own_lag_and_hold_within_part h _ x _ e other m = absurd (both_ways false refl m)

  lag_and_hold_within_part : (h : List Timed) (c : Class) (x : OpId) → EachPossible plans costs h → allowed plans (is_eager plans costs) (plain h) c x ≡ true → lag plans costs h c x (kind_at plans x) + max (cpu_hold plans costs h c x (kind_at plans x)) (max (tx_hold plans costs c x (kind_at plans x)) (rx_hold plans costs h c x (kind_at plans x))) ≤ at_partner (part plans costs c) (payer plans costs h c x)
  unfolding part
  lag_and_hold_within_part h Serve x each e = serve (kind_at plans x) (allowed_may plans (is_eager plans costs) (plain h) Serve x e)
    where
      serve : (k : Option Kind) → may plans (is_eager plans costs) (plain h) Serve x k ≡ true → lag plans costs h Serve x k + max (cpu_hold plans costs h Serve x k) (max (tx_hold plans costs Serve x k) (rx_hold plans costs h Serve x k)) ≤ at_partner (part plans costs Serve) (mate plans costs h x)
      serve (Some (Recv room from tag)) m = let s = served_has_sender h x each e in serve_lag_and_hold_within_part h x s.0 s.1
      serve (Some (Send bytes to tag)) m = absurd (both_ways false refl m)
      serve (Some (Calc nanos)) m = absurd (both_ways false refl m)
      serve None m = absurd (both_ways false refl m)
  lag_and_hold_within_part h Begin x each e = own_lag_and_hold_within_part h Begin x (kind_at plans x) refl (λ f. cc) (allowed_may plans (is_eager plans costs) (plain h) Begin x e)
  lag_and_hold_within_part h Arrive x each e = own_lag_and_hold_within_part h Arrive x (kind_at plans x) refl (λ f. cc) (allowed_may plans (is_eager plans costs) (plain h) Arrive x e)
  lag_and_hold_within_part h Data x each e = own_lag_and_hold_within_part h Data x (kind_at plans x) refl (λ f. cc) (allowed_may plans (is_eager plans costs) (plain h) Data x e)
  lag_and_hold_within_part h Post x each e = own_lag_and_hold_within_part h Post x (kind_at plans x) refl (λ f. cc) (allowed_may plans (is_eager plans costs) (plain h) Post x e)

  -- the wait and the hold of a possible action
  time_and_hold_within_part : (h : List Timed) (a : Timed) → EachPossible plans costs h → Possible plans costs h a → a.time + hold plans costs h a ≤ reach plans costs h + at_partner (part plans costs a.class) (payer plans costs h a.class a.op)
  time_and_hold_within_part h a each p = omega (arith, time_reach plans costs h a each p, lag_and_hold_within_part h a.class a.op each p.allowed)

  -- an action raises the reach by at most its part of the payer's share
  pub reach_rises : (h : List Timed) (a : Timed) → EachPossible plans costs h → Possible plans costs h a → reach plans costs (a ∷ h) ≤ reach plans costs h + at_partner (part plans costs a.class) (payer plans costs h a.class a.op)
  unfolding reach
  reach_rises h a each p = omega (arith, time_and_hold_within_part h a each p)

  spent_rises : (h : List Timed) (a : Timed) → EachPossible plans costs h → Possible plans costs h a → sum_by (spent h) (operations plans) + at_partner (part plans costs a.class) (payer plans costs h a.class a.op) ≤ sum_by (spent (a ∷ h)) (operations plans)
  spent_rises h a each p =
      let y = action_has_payer h a each p in
      subst (λ o. sum_by (spent h) (operations plans) + at_partner (part plans costs a.class) o ≤ sum_by (spent (a ∷ h)) (operations plans)) (sym y.1.payer) (sum_falls (spent (a ∷ h)) (spent h) (part plans costs a.class y.0) (operations plans) y.0 y.1.listed (spent_grows a h) y.1.pays)

  reach_within_spent : (h : List Timed) → EachPossible plans costs h → reach plans costs h ≤ sum_by (spent h) (operations plans)
  unfolding reach
  reach_within_spent [] each = zero-le
  reach_within_spent (a ∷ h) each =
      omega (arith, reach_within_spent h each.0, reach_rises h a each.0 each.1, spent_rises h a each.0 each.1)

  -- the reach is within the budget
  pub reach_within_budget : (h : List Timed) → EachPossible plans costs h → reach plans costs h ≤ budget plans costs
  unfolding budget
  reach_within_budget h each =
      omega (arith, reach_within_spent h each, sum_by-le-sum_by (spent h) (share plans costs) (operations plans) (spent_share h))

  -- a possible action releases what it holds within the budget
  pub possible_within_budget : (h : List Timed) (a : Timed) → EachPossible plans costs h → Possible plans costs h a → a.time + hold plans costs h a ≤ budget plans costs
  possible_within_budget h a each p = omega (arith, reach_within_budget (a ∷ h) (each, p), newest_within_reach plans costs a h)

  pub within_budget : (h : List Timed) → EachPossible plans costs h → IsWithin plans costs h (budget plans costs)
  within_budget h each =
      within_later plans costs h (reach plans costs h) (budget plans costs) (reach_within_budget h each) (within_reach plans costs h each)
