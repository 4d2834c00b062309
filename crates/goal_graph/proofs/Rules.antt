-- What each allowed action requires of its operation.
use Rattle.std.proofs.Common.{◌≡◌, Bool, true, false, not, ◌⊎◌, inl, inr, List, Option, Some, refl, sym, ◌∙◌}
use Rattle.std.proofs.lemmas.Bool.{and_parts, and_from, both_ways, not-true, not_from_false}
use Rattle.goal_graph.specs.declared.action.OpId.{OpId}
use Rattle.goal_graph.specs.declared.action.Class.{Class}
use Rattle.goal_graph.specs.declared.action.Class.TheVariants.{Arrive, Serve, Data, Post, Begin}
use Rattle.goal_graph.specs.declared.plan.Kind.{Kind}
use Rattle.goal_graph.specs.declared.plan.Kind.TheVariants.{Calc, Send, Recv}
use Rattle.goal_graph.specs.Schedule.{Plan, kind_at, IsSend, IsReceive}
use Rattle.goal_graph.specs.Action.{Act, happened}
use Rattle.goal_graph.specs.Matching.{partner, is_paired, pairs, fits, fits_kinds}
use Rattle.goal_graph.specs.Allowed.{is_ready, is_served, may, allowed}
use Rattle.goal_graph.specs.Laws.{IsCalc}

module _ (plans : List Plan) where
  pub not_send_receive : (x : OpId) → IsSend plans x → IsReceive plans x → ⊥
  not_send_receive x s r = clash (sym s.kind ∙ r.kind)
    where
      clash : ◌≡◌ {A = Option Kind} (Some (Send s.bytes s.to s.tag)) (Some (Recv r.room r.from r.tag)) → ⊥
      clash e = cc e

  pub not_send_calc : (x : OpId) → IsSend plans x → IsCalc plans x → ⊥
  not_send_calc x s r = clash (sym s.kind ∙ r.kind)
    where
      clash : ◌≡◌ {A = Option Kind} (Some (Send s.bytes s.to s.tag)) (Some (Calc r.nanos)) → ⊥
      clash e = cc e

  pub not_receive_calc : (x : OpId) → IsReceive plans x → IsCalc plans x → ⊥
  not_receive_calc x s r = clash (sym s.kind ∙ r.kind)
    where
      clash : ◌≡◌ {A = Option Kind} (Some (Recv s.room s.from s.tag)) (Some (Calc r.nanos)) → ⊥
      clash e = cc e

  pub fits_receive_and_send : (x m : OpId) → fits plans x m ≡ true → IsReceive plans x × IsSend plans m
  unfolding fits
  fits_receive_and_send x m e = go (kind_at plans x) refl (kind_at plans m) refl e
    where
      go : (k : Option Kind) → kind_at plans x ≡ k → (l : Option Kind) → kind_at plans m ≡ l → fits_kinds x k m l ≡ true → IsReceive plans x × IsSend plans m
      go (Some (Recv room from tag)) p (Some (Send bytes to with_tag)) q f =
          (record { room = room; from = from; tag = tag; kind = p }, record { bytes = bytes; to = to; tag = with_tag; kind = q })
      go _ p _ q f = absurd (both_ways false refl f)

  pub fits_receive : (x m : OpId) → fits plans x m ≡ true → IsReceive plans x
  fits_receive x m e = (fits_receive_and_send x m e).0

  pub fits_send : (x m : OpId) → fits plans x m ≡ true → IsSend plans m
  fits_send x m e = (fits_receive_and_send x m e).1

  module _ (eager : OpId → Bool) where
    pub allowed_fresh : (h : List Act) (c : Class) (x : OpId) → allowed plans eager h c x ≡ true → happened c x h ≡ false
    unfolding allowed
    allowed_fresh h c x e = not-true _ (and_parts _ _ e).0

    pub allowed_may : (h : List Act) (c : Class) (x : OpId) → allowed plans eager h c x ≡ true → may plans eager h c x (kind_at plans x) ≡ true
    unfolding allowed
    allowed_may h c x e = (and_parts _ _ e).1

    pub allowed_from : (h : List Act) (c : Class) (x : OpId) → happened c x h ≡ false → may plans eager h c x (kind_at plans x) ≡ true → allowed plans eager h c x ≡ true
    unfolding allowed
    allowed_from h c x e f = and_from _ _ (not_from_false _ e) f

    pub allowed_arrive : (h : List Act) (m : OpId) → allowed plans eager h Arrive m ≡ true → IsSend plans m × (happened Begin m h ≡ true)
    allowed_arrive h m e = go (kind_at plans m) refl (allowed_may h Arrive m e)
      where
        go : (k : Option Kind) → kind_at plans m ≡ k → may plans eager h Arrive m k ≡ true → IsSend plans m × (happened Begin m h ≡ true)
        go (Some (Send bytes to tag)) p f = (record { bytes = bytes; to = to; tag = tag; kind = p }, f)
        go _ p f = absurd (both_ways false refl f)

    pub allowed_data : (h : List Act) (m : OpId) → allowed plans eager h Data m ≡ true → IsSend plans m × (eager m ≡ false) × (is_paired (pairs plans h) m ≡ true)
    allowed_data h m e = go (kind_at plans m) refl (allowed_may h Data m e)
      where
        go : (k : Option Kind) → kind_at plans m ≡ k → may plans eager h Data m k ≡ true → IsSend plans m × (eager m ≡ false) × (is_paired (pairs plans h) m ≡ true)
        go (Some (Send bytes to tag)) p f =
            let parts = and_parts (not (eager m)) (is_paired (pairs plans h) m) f in
            (record { bytes = bytes; to = to; tag = tag; kind = p }, not-true (eager m) parts.0, parts.1)
        go _ p f = absurd (both_ways false refl f)

    pub allowed_serve : (h : List Act) (x : OpId) → allowed plans eager h Serve x ≡ true → IsReceive plans x × (is_served plans eager h (partner (pairs plans h) x) ≡ true)
    allowed_serve h x e = go (kind_at plans x) refl (allowed_may h Serve x e)
      where
        go : (k : Option Kind) → kind_at plans x ≡ k → may plans eager h Serve x k ≡ true → IsReceive plans x × (is_served plans eager h (partner (pairs plans h) x) ≡ true)
        go (Some (Recv room from tag)) p f = (record { room = room; from = from; tag = tag; kind = p }, f)
        go _ p f = absurd (both_ways false refl f)

    pub allowed_post : (h : List Act) (x : OpId) → allowed plans eager h Post x ≡ true → IsReceive plans x × (is_ready plans eager h x ≡ true)
    allowed_post h x e = go (kind_at plans x) refl (allowed_may h Post x e)
      where
        go : (k : Option Kind) → kind_at plans x ≡ k → may plans eager h Post x k ≡ true → IsReceive plans x × (is_ready plans eager h x ≡ true)
        go (Some (Recv room from tag)) p f = (record { room = room; from = from; tag = tag; kind = p }, f)
        go _ p f = absurd (both_ways false refl f)

    pub allowed_begin : (h : List Act) (x : OpId) → allowed plans eager h Begin x ≡ true → (IsCalc plans x ⊎ IsSend plans x) × (is_ready plans eager h x ≡ true)
    allowed_begin h x e = go (kind_at plans x) refl (allowed_may h Begin x e)
      where
        go : (k : Option Kind) → kind_at plans x ≡ k → may plans eager h Begin x k ≡ true → (IsCalc plans x ⊎ IsSend plans x) × (is_ready plans eager h x ≡ true)
        go (Some (Calc nanos)) p f = (inl (record { nanos = nanos; kind = p }), f)
        go (Some (Send bytes to tag)) p f = (inr (record { bytes = bytes; to = to; tag = tag; kind = p }), f)
        go _ p f = absurd (both_ways false refl f)
