-- Only at the sends of a schedule does it matter what is eager.
use Rattle.std.proofs.Common.{◌≡◌, ◌↔◌, ◌&&◌, Bool, not, List, [], ◌∷◌, Option, Some, None, refl, ap, sym, ◌∙◌}
use Rattle.std.specs.List.{list_all}
use Rattle.goal_graph.specs.declared.action.OpId.{OpId}
use Rattle.goal_graph.specs.declared.action.Class.{Class}
use Rattle.goal_graph.specs.declared.action.Class.TheVariants.{Arrive, Serve, Data, Post, Begin}
use Rattle.goal_graph.specs.declared.plan.Kind.{Kind}
use Rattle.goal_graph.specs.declared.plan.Kind.TheVariants.{Calc, Send, Recv}
use Rattle.goal_graph.specs.declared.plan.Need.{Need}
use Rattle.goal_graph.specs.declared.plan.When.{When}
use Rattle.goal_graph.specs.declared.plan.When.TheVariants.{AfterEnd, AfterStart}
use Rattle.goal_graph.specs.Schedule.{Plan, kind_at, needs, needed, IsSend}
use Rattle.goal_graph.specs.Action.{Act, happened}
use Rattle.goal_graph.specs.Matching.{pairs, partner}
use Rattle.goal_graph.specs.Allowed.{last_class, is_met, is_ready, is_served, may, allowed}
use Rattle.goal_graph.specs.Interleaving.{IsInterleaving}
use Rattle.goal_graph.proofs.Partners.{partner_is_send}

module _ (plans : List Plan) (eager other : OpId → Bool) (agree : (m : OpId) → IsSend plans m → eager m ≡ other m) where
  same_last : (x : OpId) (k : Option Kind) → kind_at plans x ≡ k → last_class (eager x) k ≡ last_class (other x) k
  same_last x (Some (Recv room from tag)) e = refl
  same_last x (Some (Send bytes to tag)) e =
      rw (agree x (record { bytes = bytes; to = to; tag = tag; kind = e })) refl
  same_last x (Some (Calc nanos)) e = refl
  same_last x None e = refl

  same_met : (h : List Act) (s : When) (y : OpId) → is_met plans eager h s y ≡ is_met plans other h s y
  same_met h AfterEnd y = ap (λ (c : Class). happened c y h) (same_last y (kind_at plans y) refl)
  same_met h AfterStart y = refl

  same_needs : (h : List Act) (x : OpId) (ds : List Need) → list_all (λ (d : Need). is_met plans eager h d.when (needed x d)) ds ≡ list_all (λ (d : Need). is_met plans other h d.when (needed x d)) ds
  same_needs h x [] = refl
  same_needs h x (d ∷ ds) = rw (same_met h d.when (needed x d), same_needs h x ds) refl

  same_ready : (h : List Act) (x : OpId) → is_ready plans eager h x ≡ is_ready plans other h x
  unfolding is_ready
  same_ready h x = same_needs h x (needs plans x)

  -- the partner of a receive is a send
  same_served : (h : List Act) (p : Option OpId) → ((m : OpId) → p ≡ Some m → IsSend plans m) → is_served plans eager h p ≡ is_served plans other h p
  same_served h None sends = refl
  same_served h (Some m) sends = rw (agree m (sends m refl)) refl

  same_may : (h : List Act) (c : Class) (x : OpId) (k : Option Kind) → kind_at plans x ≡ k → may plans eager h c x k ≡ may plans other h c x k
  same_may h Begin x (Some (Calc nanos)) e = same_ready h x
  same_may h Begin x (Some (Send bytes to tag)) e = same_ready h x
  same_may h Begin x (Some (Recv room from tag)) e = refl
  same_may h Begin x None e = refl
  same_may h Post x (Some (Calc nanos)) e = refl
  same_may h Post x (Some (Send bytes to tag)) e = refl
  same_may h Post x (Some (Recv room from tag)) e = same_ready h x
  same_may h Post x None e = refl
  same_may h Arrive x (Some (Calc nanos)) e = refl
  same_may h Arrive x (Some (Send bytes to tag)) e = refl
  same_may h Arrive x (Some (Recv room from tag)) e = refl
  same_may h Arrive x None e = refl
  same_may h Data x (Some (Calc nanos)) e = refl
  same_may h Data x (Some (Send bytes to tag)) e =
      rw (agree x (record { bytes = bytes; to = to; tag = tag; kind = e })) refl
  same_may h Data x (Some (Recv room from tag)) e = refl
  same_may h Data x None e = refl
  same_may h Serve x (Some (Calc nanos)) e = refl
  same_may h Serve x (Some (Send bytes to tag)) e = refl
  same_may h Serve x (Some (Recv room from tag)) e =
      same_served h (partner (pairs plans h) x) (λ m p. partner_is_send plans h x m (record { room = room; from = from; tag = tag; kind = e }) p)
  same_may h Serve x None e = refl

  same_allowed : (h : List Act) (c : Class) (x : OpId) → allowed plans eager h c x ≡ allowed plans other h c x
  unfolding allowed
  same_allowed h c x = ap (λ (b : Bool). not (happened c x h) && b) (same_may h c x (kind_at plans x) refl)

  pub same_interleavings : (h : List Act) → IsInterleaving plans eager h ↔ IsInterleaving plans other h
  same_interleavings [] = (λ i. i, λ i. i)
  same_interleavings (a ∷ h) =
      let before = same_interleavings h in
      let now = same_allowed h a.class a.op in
      (λ i. (before.0 i.0, sym now ∙ i.1), λ i. (before.1 i.0, now ∙ i.1))
