-- Which action of one operation may happen, class by class.
use Rattle.std.proofs.Common.{⊎_elim, ◌≡◌, ◌&&◌, Bool, true, false, not, List, Option, Some, None, inl, inr, refl, sym, ap, ◌∙◌, subst}
use Rattle.std.proofs.lemmas.Bool.{cases_Bool, both_ways, and_right, false_from_ne_true}
use Rattle.goal_graph.specs.declared.action.OpId.{OpId}
use Rattle.goal_graph.specs.declared.action.Class.{Class}
use Rattle.goal_graph.specs.declared.action.Class.TheVariants.{Arrive, Serve, Data, Post, Begin}
use Rattle.goal_graph.specs.declared.plan.Kind.{Kind}
use Rattle.goal_graph.specs.declared.plan.Kind.TheVariants.{Calc, Send, Recv}
use Rattle.goal_graph.specs.Schedule.{Plan, kind_at, IsSend, IsReceive}
use Rattle.goal_graph.specs.Action.{Act, happened}
use Rattle.goal_graph.specs.Matching.{pairs, partner, is_paired}
use Rattle.goal_graph.specs.declared.plan.When.{When}
use Rattle.goal_graph.specs.declared.plan.When.TheVariants.{AfterEnd, AfterStart}
use Rattle.goal_graph.specs.Allowed.{first_class, is_met, is_ready, is_served, may, allowed}
use Rattle.goal_certify.specs.WalkSoFar.{is_done, entry_known}
use Rattle.goal_graph.specs.Laws.{IsCalc}
use Rattle.goal_graph.proofs.ForCallers.{not_send_receive, not_receive_calc, not_send_calc, allowed_arrive, allowed_data, allowed_serve, allowed_post, allowed_begin}
use Rattle.goal_blocks.specs.Walk.{no_send}
use Rattle.goal_graph.specs.Fault.{IsOp}
use Rattle.goal_graph.proofs.ForCallers.{kind_from_op}
use Rattle.goal_certify.proofs.Places.{op_at_is_some}
use Rattle.goal_certify.specs.WalkQueue.{may_act, class_at, IsIdle}

-- the value of a conjunction whose first part is known
pub and_is_second_if_first_true : (m a b : Bool) → m ≡ (a && b) → a ≡ true → b ≡ m
and_is_second_if_first_true m a b e t = sym (e ∙ ap (λ (c : Bool). c && b) t)

pub and_is_first_if_first_false : (m a b : Bool) → m ≡ (a && b) → a ≡ false → a ≡ m
and_is_first_if_first_false m a b e f = f ∙ sym (e ∙ ap (λ (c : Bool). c && b) f)

module _ (plans : List Plan) (h : List Act) (x : OpId) where
  -- where no action of that class may happen, and no other class may either
  idle_if_only_class_may_not_act : (c : Class) → ((d : Class) → may_act plans h d x ≡ true → d ≡ c) → may_act plans h c x ≡ false → IsIdle plans h x
  idle_if_only_class_may_not_act c only f d =
      false_from_ne_true _ (λ t. both_ways _ f (subst (λ (k : Class). may_act plans h k x ≡ true) (only d t) t))

  not_true : (c : Class) → may_act plans h c x ≡ false → may_act plans h c x ≡ true → ⊥
  not_true c f t = both_ways _ f t

  pub calc_idle : IsCalc plans x → may_act plans h Begin x ≡ false → IsIdle plans h x
  calc_idle k = idle_if_only_class_may_not_act Begin only
    where
      only : (c : Class) → may_act plans h c x ≡ true → c ≡ Begin
      only Begin e = refl
      only Arrive e = absurd (not_send_calc plans x (allowed_arrive plans no_send h x e).0 k)
      only Data e = absurd (not_send_calc plans x (allowed_data plans no_send h x e).0 k)
      only Post e = absurd (not_receive_calc plans x (allowed_post plans no_send h x e).0 k)
      only Serve e = absurd (not_receive_calc plans x (allowed_serve plans no_send h x e).0 k)

  pub send_idle : IsSend plans x → may_act plans h Begin x ≡ false → may_act plans h Arrive x ≡ false → may_act plans h Data x ≡ false → IsIdle plans h x
  send_idle k b a = idle_if_only_class_may_not_act Data only
    where
      only : (c : Class) → may_act plans h c x ≡ true → c ≡ Data
      only Begin e = absurd (not_true Begin b e)
      only Arrive e = absurd (not_true Arrive a e)
      only Data e = refl
      only Post e = absurd (not_send_receive plans x k (allowed_post plans no_send h x e).0)
      only Serve e = absurd (not_send_receive plans x k (allowed_serve plans no_send h x e).0)

  pub receive_idle : IsReceive plans x → may_act plans h Post x ≡ false → may_act plans h Serve x ≡ false → IsIdle plans h x
  receive_idle k p = idle_if_only_class_may_not_act Serve only
    where
      only : (c : Class) → may_act plans h c x ≡ true → c ≡ Serve
      only Begin e = absurd (elim (allowed_begin plans no_send h x e).0 [ inl calc ↦ not_receive_calc plans x k calc | inr send ↦ not_send_receive plans x send k ])
      only Arrive e = absurd (not_send_receive plans x (allowed_arrive plans no_send h x e).0 k)
      only Data e = absurd (not_send_receive plans x (allowed_data plans no_send h x e).0 k)
      only Post e = absurd (not_true Post p e)
      only Serve e = refl

  -- where an action may happen, and none of the others
  abbrev MayAct : Type 0
  MayAct = (c : Class) × (may_act plans h c x ≡ true)

  may_act_if_idle_otherwise : (c : Class) → (may_act plans h c x ≡ false → IsIdle plans h x) → MayAct → may_act plans h c x ≡ true
  may_act_if_idle_otherwise c idle some =
      ⊎_elim (λ yes. yes) (λ no. absurd (both_ways _ (idle no some.0) some.1)) (cases_Bool (may_act plans h c x))

  pub calc_begins : IsCalc plans x → MayAct → may_act plans h Begin x ≡ true
  calc_begins k = may_act_if_idle_otherwise Begin (calc_idle k)

  pub send_begins : IsSend plans x → may_act plans h Arrive x ≡ false → may_act plans h Data x ≡ false → MayAct → may_act plans h Begin x ≡ true
  send_begins k a d = may_act_if_idle_otherwise Begin (λ b. send_idle k b a d)

  pub receive_posts : IsReceive plans x → may_act plans h Serve x ≡ false → MayAct → may_act plans h Post x ≡ true
  receive_posts k s = may_act_if_idle_otherwise Post (λ p. receive_idle k p s)

  -- what may happen, by the kind
  of_kind : (c : Class) (k : Kind) → kind_at plans x ≡ Some k → may_act plans h c x ≡ (not (happened c x h) && may plans no_send h c x (Some k))
  unfolding allowed
  of_kind c k e = ap (λ (o : Option Kind). not (happened c x h) && may plans no_send h c x o) e

  first_may : (k : Kind) → may plans no_send h (first_class (Some k)) x (Some k) ≡ is_ready plans no_send h x
  first_may (Calc nanos) = refl
  first_may (Send bytes to tag) = refl
  first_may (Recv room from tag) = refl

  -- the first action, once the operation is ready
  pub may_start_iff_fresh_and_ready : (k : Kind) (c : Class) → kind_at plans x ≡ Some k → c ≡ first_class (Some k) → may_act plans h c x ≡ (not (happened c x h) && is_ready plans no_send h x)
  may_start_iff_fresh_and_ready k c e f =
      of_kind c k e ∙ ap (λ (d : Class). not (happened c x h) && may plans no_send h d x (Some k)) f ∙ ap (λ (b : Bool). not (happened c x h) && b) (first_may k)

  pub may_arrive_iff_fresh_and_begun : IsSend plans x → may_act plans h Arrive x ≡ (not (happened Arrive x h) && happened Begin x h)
  may_arrive_iff_fresh_and_begun k = of_kind Arrive (Send k.bytes k.to k.tag) k.kind

  pub may_transfer_iff_fresh_and_paired : IsSend plans x → may_act plans h Data x ≡ (not (happened Data x h) && is_paired (pairs plans h) x)
  may_transfer_iff_fresh_and_paired k = of_kind Data (Send k.bytes k.to k.tag) k.kind

  pub unpaired_may_not_serve : IsReceive plans x → partner (pairs plans h) x ≡ None → may_act plans h Serve x ≡ false
  unpaired_may_not_serve k e =
      of_kind Serve (Recv k.room k.from k.tag) k.kind ∙ ap (λ (o : Option OpId). not (happened Serve x h) && is_served plans no_send h o) e ∙ and_right (not (happened Serve x h)) false refl

  pub may_serve_iff_fresh_and_transferred : IsReceive plans x → (m : OpId) → partner (pairs plans h) x ≡ Some m → may_act plans h Serve x ≡ (not (happened Serve x h) && happened Data m h)
  may_serve_iff_fresh_and_transferred k m e =
      of_kind Serve (Recv k.room k.from k.tag) k.kind ∙ ap (λ (o : Option OpId). not (happened Serve x h) && is_served plans no_send h o) e

  -- the table has what has happened
  pub done_known : (c : Class) → is_done (entry_known plans h x) c ≡ happened c x h
  done_known Arrive = refl
  done_known Serve = refl
  done_known Data = refl
  done_known Post = refl
  done_known Begin = refl

  -- the start or end that a dependency waits for
  pub happened_iff_met : (k : Kind) (w : When) (c : Class) → kind_at plans x ≡ Some k → c ≡ class_at w (Some k) → happened c x h ≡ is_met plans no_send h w x
  happened_iff_met k AfterEnd c e l =
      ap (λ (d : Class). happened d x h) l ∙ ap (λ (o : Option Kind). happened (class_at AfterEnd o) x h) (sym e)
  happened_iff_met k AfterStart c e l =
      ap (λ (d : Class). happened d x h) l ∙ ap (λ (o : Option Kind). happened (class_at AfterStart o) x h) (sym e)

  pub first_action_may_act_iff_fresh_and_ready : (c : Class) → IsOp plans x → c ≡ first_class (kind_at plans x) → may_act plans h c x ≡ (not (happened c x h) && is_ready plans no_send h x)
  first_action_may_act_iff_fresh_and_ready c is first =
      let o = op_at_is_some plans x is in
      let kind = kind_from_op plans x o.0 o.0.kind o.1 refl in
      may_start_iff_fresh_and_ready o.0.kind c kind (first ∙ ap first_class kind)
