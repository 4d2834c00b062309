-- What has happened and what is paired, stated as membership in a list.
use Rattle.std.proofs.Common.{⊎_elim, zero, suc, ◌≡◌, ◌↔◌, ◌⊎◌, inl, inr, Bool, true, false, List, [], ◌∷◌, Some, Contains, ap, arith}
use Rattle.std.proofs.lemmas.Bool.{both_ways}
use Rattle.std.proofs.lemmas.List.Sums.{AllPass-from_list_all}
use Rattle.std.proofs.lemmas.List.Elements.{All-contains}
use Rattle.goal_graph.specs.declared.action.OpId.{OpId}
use Rattle.goal_graph.specs.declared.action.Class.{Class}
use Rattle.goal_graph.specs.declared.plan.Need.{Need}
use Rattle.goal_graph.specs.Schedule.{Plan, needs, needed}
use Rattle.goal_graph.specs.Action.{Act, happened}
use Rattle.goal_graph.specs.Matching.{Pair, pair_of, partner, pairs}
use Rattle.goal_graph.specs.Allowed.{is_met, is_ready}
use Rattle.goal_graph.specs.Interleaving.{IsInterleaving}
use Rattle.goal_graph.proofs.Lists.{contains_first, contains_more, failing_item_of_list_all}
use Rattle.goal_graph.proofs.Actions.{act_of, is_act_true, is_act_from, happened_none, happened_cases, happened_stays, happened_new}
use Rattle.goal_graph.proofs.Partners.{IsListed, partner_listed, pair_of_send_unique, pair_of_receive_unique}

pub happened_member : (c : Class) (x : OpId) (h : List Act) → happened c x h ≡ true → Contains h (act_of c x)
happened_member c x [] e = absurd (both_ways _ (happened_none c x) e)
happened_member c x (a ∷ h) e =
    ⊎_elim (λ was. contains_more a h (act_of c x) (happened_member c x h was)) (λ now. contains_first a h (act_of c x) (is_act_true c x a now)) (happened_cases c x a h e)

pub member_happened : (c : Class) (x : OpId) (h : List Act) → Contains h (act_of c x) → happened c x h ≡ true
member_happened c x [] (k, b, e) = absurd (omega (arith, b))
member_happened c x (a ∷ h) (zero, b, e) =
    happened_new c x a h (is_act_from c x a (ap (λ (a : Act). a.class) e) (ap (λ (a : Act). a.op) e))
member_happened c x (a ∷ h) (suc k, b, e) =
    happened_stays c x a h (member_happened c x h (k, omega (arith, b), e))

-- after another action, that action and all earlier ones have happened
pub happened_one_more : (c : Class) (x : OpId) (a : Act) (h : List Act) → (happened c x (a ∷ h) ≡ true) ↔ ((happened c x h ≡ true) ⊎ (a ≡ act_of c x))
happened_one_more c x a h =
    (λ e. ⊎_elim (λ was. inl was) (λ now. inr (is_act_true c x a now)) (happened_cases c x a h e), λ e. ⊎_elim (λ was. happened_stays c x a h was) (λ now. happened_new c x a h (is_act_from c x a (ap (λ (a : Act). a.class) now) (ap (λ (a : Act). a.op) now))) e)

pub listed_member : (p : Pair) (ps : List Pair) → IsListed p ps → Contains ps p
listed_member p [] l = absurd l
listed_member p (q ∷ ps) (inl e) = contains_first q ps p e
listed_member p (q ∷ ps) (inr l) = contains_more q ps p (listed_member p ps l)

pub member_listed : (p : Pair) (ps : List Pair) → Contains ps p → IsListed p ps
member_listed p [] (k, b, e) = absurd (omega (arith, b))
member_listed p (q ∷ ps) (zero, b, e) = inl e
member_listed p (q ∷ ps) (suc k, b, e) = inr (member_listed p ps (k, omega (arith, b), e))

-- partners are in a pair
pub partner_member : (ps : List Pair) (x y : OpId) → partner ps x ≡ Some y → Contains ps (pair_of x y) ⊎ Contains ps (pair_of y x)
partner_member ps x y e =
    ⊎_elim (λ l. inl (listed_member (pair_of x y) ps l)) (λ l. inr (listed_member (pair_of y x) ps l)) (partner_listed ps x y e)

module _ (plans : List Plan) (eager : OpId → Bool) where
  -- each need of a ready operation is met
  pub ready_need : (h : List Act) (x : OpId) (d : Need) → is_ready plans eager h x ≡ true → Contains (needs plans x) d → is_met plans eager h d.when (needed x d) ≡ true
  unfolding is_ready
  ready_need h x d r c =
      All-contains (λ (d : Need). is_met plans eager h d.when (needed x d) ≡ true) (needs plans x) d (AllPass-from_list_all (λ (d : Need). is_met plans eager h d.when (needed x d)) (needs plans x) r) c

  -- where an operation is not ready, one of its needs is not met
  pub unready_need : (h : List Act) (x : OpId) → is_ready plans eager h x ≡ false → (d : Need) × Contains (needs plans x) d × (is_met plans eager h d.when (needed x d) ≡ false)
  unfolding is_ready
  unready_need h x r = failing_item_of_list_all (λ (d : Need). is_met plans eager h d.when (needed x d)) (needs plans x) r

  -- two pairs that share the send or the receive are the same
  pub pair_of_member_unique : (h : List Act) (p q : Pair) → IsInterleaving plans eager h → Contains (pairs plans h) p → Contains (pairs plans h) q → ((p.send ≡ q.send) ⊎ (p.recv ≡ q.recv)) → p ≡ q
  pair_of_member_unique h p q i l k (inl e) =
      pair_of_send_unique plans eager h p q i (member_listed p (pairs plans h) l) (member_listed q (pairs plans h) k) e
  pair_of_member_unique h p q i l k (inr e) =
      pair_of_receive_unique plans eager h p q i (member_listed p (pairs plans h) l) (member_listed q (pairs plans h) k) e
