-- What was so when an action was allowed, and stays so, is so ever after.
use Rattle.std.proofs.Common.{◌≡◌, Bool, true, List, [], ◌∷◌, inl, inr, subst}
use Rattle.std.proofs.lemmas.Bool.{both_ways}
use Rattle.goal_graph.specs.declared.action.OpId.{OpId}
use Rattle.goal_graph.specs.declared.action.Class.{Class}
use Rattle.goal_graph.specs.declared.action.Class.TheVariants.{Arrive, Serve, Data, Post, Begin}
use Rattle.goal_graph.specs.Schedule.{Plan, IsSend, IsReceive}
use Rattle.goal_graph.specs.Action.{Act, is_act, happened}
use Rattle.goal_graph.specs.Matching.{partner, is_paired, pairs}
use Rattle.goal_graph.specs.Allowed.{is_ready, is_served, allowed}
use Rattle.goal_graph.specs.Interleaving.{IsInterleaving}
use Rattle.goal_graph.proofs.Actions.{happened_none, happened_cases, happened_stays, is_act_class, is_act_op}
use Rattle.goal_graph.proofs.Persist.{paired_stays, ready_stays, served_stays}
use Rattle.goal_graph.proofs.Rules.{allowed_arrive, allowed_data, allowed_serve, allowed_post, allowed_begin}

module _ (plans : List Plan) (eager : OpId → Bool) where
  -- the newest action was allowed before it happened
  pub newest_allowed : (c : Class) (x : OpId) (a : Act) (h : List Act) → IsInterleaving plans eager (a ∷ h) → is_act c x a ≡ true → allowed plans eager h c x ≡ true
  newest_allowed c x a h i e =
      subst (λ (y : OpId). allowed plans eager h c y ≡ true) (is_act_op c x a e) (subst (λ (d : Class). allowed plans eager h d a.op ≡ true) (is_act_class c x a e) i.1)

  pub holds_after_allowed_action : (c : Class) (x : OpId) (P : List Act → Type 0) → ((a : Act) (h : List Act) → P h → P (a ∷ h)) → ((h : List Act) → IsInterleaving plans eager h → allowed plans eager h c x ≡ true → P h) → (h : List Act) → IsInterleaving plans eager h → happened c x h ≡ true → P h
  holds_after_allowed_action c x P stays at [] i e = absurd (both_ways _ (happened_none c x) e)
  holds_after_allowed_action c x P stays at (a ∷ h) i e =
      elim (happened_cases c x a h e) [ inl was ↦ stays a h (holds_after_allowed_action c x P stays at h i.0 was) | inr now ↦ stays a h (at h i.0 (newest_allowed c x a h i now)) ]

  pub arrived_begun : (h : List Act) (m : OpId) → IsInterleaving plans eager h → happened Arrive m h ≡ true → happened Begin m h ≡ true
  arrived_begun h m =
      holds_after_allowed_action Arrive m (λ h. happened Begin m h ≡ true) (λ a h p. happened_stays Begin m a h p) (λ h i e. (allowed_arrive plans eager h m e).1) h

  pub data_only_of_send : (h : List Act) (m : OpId) → IsInterleaving plans eager h → happened Data m h ≡ true → IsSend plans m
  data_only_of_send h m =
      holds_after_allowed_action Data m (λ h. IsSend plans m) (λ a h p. p) (λ h i e. (allowed_data plans eager h m e).0) h

  pub data_paired : (h : List Act) (m : OpId) → IsInterleaving plans eager h → happened Data m h ≡ true → is_paired (pairs plans h) m ≡ true
  data_paired h m =
      holds_after_allowed_action Data m (λ h. is_paired (pairs plans h) m ≡ true) (λ a h p. paired_stays plans a h m p) (λ h i e. (allowed_data plans eager h m e).2) h

  pub served_receive : (h : List Act) (x : OpId) → IsInterleaving plans eager h → happened Serve x h ≡ true → IsReceive plans x
  served_receive h x =
      holds_after_allowed_action Serve x (λ h. IsReceive plans x) (λ a h p. p) (λ h i e. (allowed_serve plans eager h x e).0) h

  -- a receive that has its message is paired, and its message was there
  pub served_message : (h : List Act) (x : OpId) → IsInterleaving plans eager h → happened Serve x h ≡ true → is_served plans eager h (partner (pairs plans h) x) ≡ true
  served_message h x =
      holds_after_allowed_action Serve x (λ h. is_served plans eager h (partner (pairs plans h) x) ≡ true) (λ a h p. served_stays plans eager a h x p) (λ h i e. (allowed_serve plans eager h x e).1) h

  pub posted_ready : (h : List Act) (x : OpId) → IsInterleaving plans eager h → happened Post x h ≡ true → is_ready plans eager h x ≡ true
  posted_ready h x =
      holds_after_allowed_action Post x (λ h. is_ready plans eager h x ≡ true) (λ a h p. ready_stays plans eager a h x p) (λ h i e. (allowed_post plans eager h x e).1) h

  pub begun_ready : (h : List Act) (x : OpId) → IsInterleaving plans eager h → happened Begin x h ≡ true → is_ready plans eager h x ≡ true
  begun_ready h x =
      holds_after_allowed_action Begin x (λ h. is_ready plans eager h x ≡ true) (λ a h p. ready_stays plans eager a h x p) (λ h i e. (allowed_begin plans eager h x e).1) h
