-- The stages of one operation: their order, and which actions are its start and its end.
use Rattle.std.proofs.Common.{◌≡◌, Bool, true, false, inl, inr, List, Option, Some, None, refl, ap, sym, ◌∙◌, is_some}
use Rattle.std.proofs.lemmas.Bool.{cases_Bool}
use Rattle.goal_graph.specs.declared.action.OpId.{OpId}
use Rattle.goal_graph.specs.declared.action.Class.{Class}
use Rattle.goal_graph.specs.declared.action.Class.TheVariants.{Arrive, Serve, Data, Post, Begin}
use Rattle.goal_graph.specs.declared.plan.Kind.{Kind}
use Rattle.goal_graph.specs.declared.plan.Kind.TheVariants.{Calc, Send, Recv}
use Rattle.goal_graph.specs.Schedule.{Plan, kind_at, IsSend, IsReceive}
use Rattle.goal_graph.specs.Action.{Act, happened}
use Rattle.goal_graph.specs.Matching.{partner, is_paired, pairs}
use Rattle.goal_graph.specs.Allowed.{first_class, last_class, has_started, has_ended, is_ready, is_served}
use Rattle.goal_graph.specs.Interleaving.{IsInterleaving}
use Rattle.goal_graph.specs.Laws.{IsCalc}
use Rattle.goal_graph.proofs.Persist.{value_of_is_some}
use Rattle.goal_graph.proofs.Ever.{begun_ready, posted_ready, arrived_begun, data_only_of_send, data_paired, served_receive, served_message}
use Rattle.goal_graph.proofs.Partners.{partner_of_send, partner_of_receive}

-- the kind of an operation
pub data KindOf (plans : List Plan) (x : OpId) : Type 0 where
  absent : kind_at plans x ≡ None → KindOf plans x
  calc : IsCalc plans x → KindOf plans x
  send : IsSend plans x → KindOf plans x
  receive : IsReceive plans x → KindOf plans x

pub kind_cases : (plans : List Plan) (x : OpId) → KindOf plans x
kind_cases plans x = go (kind_at plans x) refl
  where
    go : (k : Option Kind) → kind_at plans x ≡ k → KindOf plans x
    go None e = absent e
    go (Some (Calc nanos)) e = calc (record { nanos = nanos; kind = e })
    go (Some (Send bytes to tag)) e = send (record { bytes = bytes; to = to; tag = tag; kind = e })
    go (Some (Recv room from tag)) e = receive (record { room = room; from = from; tag = tag; kind = e })

module _ (plans : List Plan) where
  -- the first and the last class of each kind
  pub first_of_absent : (x : OpId) → kind_at plans x ≡ None → first_class (kind_at plans x) ≡ Begin
  first_of_absent x e = ap first_class e

  pub first_of_calc : (x : OpId) → IsCalc plans x → first_class (kind_at plans x) ≡ Begin
  first_of_calc x k = ap first_class k.kind

  pub first_of_send : (m : OpId) → IsSend plans m → first_class (kind_at plans m) ≡ Begin
  first_of_send m k = ap first_class k.kind

  pub first_of_receive : (x : OpId) → IsReceive plans x → first_class (kind_at plans x) ≡ Post
  first_of_receive x k = ap first_class k.kind

  pub started_calc : (h : List Act) (x : OpId) → IsCalc plans x → has_started plans x h ≡ happened Begin x h
  started_calc h x k = ap (λ (c : Class). happened c x h) (first_of_calc x k)

  pub started_send : (h : List Act) (m : OpId) → IsSend plans m → has_started plans m h ≡ happened Begin m h
  started_send h m k = ap (λ (c : Class). happened c m h) (first_of_send m k)

  pub started_receive : (h : List Act) (x : OpId) → IsReceive plans x → has_started plans x h ≡ happened Post x h
  started_receive h x k = ap (λ (c : Class). happened c x h) (first_of_receive x k)

  module _ (eager : OpId → Bool) where
    pub last_of_absent : (x : OpId) → kind_at plans x ≡ None → last_class (eager x) (kind_at plans x) ≡ Begin
    last_of_absent x e = ap (last_class (eager x)) e

    pub last_of_calc : (x : OpId) → IsCalc plans x → last_class (eager x) (kind_at plans x) ≡ Begin
    last_of_calc x k = ap (last_class (eager x)) k.kind

    pub last_of_eager : (m : OpId) → IsSend plans m → eager m ≡ true → last_class (eager m) (kind_at plans m) ≡ Begin
    last_of_eager m k e =
        ap (last_class (eager m)) k.kind ∙ ap (λ (b : Bool). last_class b (Some (Send k.bytes k.to k.tag))) e

    pub last_of_rendezvous : (m : OpId) → IsSend plans m → eager m ≡ false → last_class (eager m) (kind_at plans m) ≡ Data
    last_of_rendezvous m k e =
        ap (last_class (eager m)) k.kind ∙ ap (λ (b : Bool). last_class b (Some (Send k.bytes k.to k.tag))) e

    pub last_of_receive : (x : OpId) → IsReceive plans x → last_class (eager x) (kind_at plans x) ≡ Serve
    last_of_receive x k = ap (last_class (eager x)) k.kind

    pub ended_calc : (h : List Act) (x : OpId) → IsCalc plans x → has_ended plans eager x h ≡ happened Begin x h
    ended_calc h x k = ap (λ (c : Class). happened c x h) (last_of_calc x k)

    pub ended_eager : (h : List Act) (m : OpId) → IsSend plans m → eager m ≡ true → has_ended plans eager m h ≡ happened Begin m h
    ended_eager h m k e = ap (λ (c : Class). happened c m h) (last_of_eager m k e)

    pub ended_rendezvous : (h : List Act) (m : OpId) → IsSend plans m → eager m ≡ false → has_ended plans eager m h ≡ happened Data m h
    ended_rendezvous h m k e = ap (λ (c : Class). happened c m h) (last_of_rendezvous m k e)

    pub ended_receive : (h : List Act) (x : OpId) → IsReceive plans x → has_ended plans eager x h ≡ happened Serve x h
    ended_receive h x k = ap (λ (c : Class). happened c x h) (last_of_receive x k)

    -- a send that has transferred its data has arrived before, and has begun
    pub data_arrived : (h : List Act) (m : OpId) → IsInterleaving plans eager h → happened Data m h ≡ true → happened Arrive m h ≡ true
    data_arrived h m i e =
        let with = value_of_is_some (partner (pairs plans h) m) (data_paired plans eager h m i e) in
        (partner_of_send plans h m with.0 (data_only_of_send plans eager h m i e) with.1).arrived

    pub data_begun : (h : List Act) (m : OpId) → IsInterleaving plans eager h → happened Data m h ≡ true → happened Begin m h ≡ true
    data_begun h m i e = arrived_begun plans eager h m i (data_arrived h m i e)

    served_paired_at : (h : List Act) (o : Option OpId) → is_served plans eager h o ≡ true → is_some o ≡ true
    served_paired_at h None s = s
    served_paired_at h (Some m) s = refl

    -- a receive whose message is there is paired
    pub served_paired : (h : List Act) (x : OpId) → is_served plans eager h (partner (pairs plans h) x) ≡ true → is_paired (pairs plans h) x ≡ true
    served_paired h x s = served_paired_at h (partner (pairs plans h) x) s

    -- a receive that has its message is paired, and was posted before
    pub serve_paired : (h : List Act) (x : OpId) → IsInterleaving plans eager h → happened Serve x h ≡ true → is_paired (pairs plans h) x ≡ true
    serve_paired h x i e = served_paired h x (served_message plans eager h x i e)

    pub serve_posted : (h : List Act) (x : OpId) → IsInterleaving plans eager h → happened Serve x h ≡ true → happened Post x h ≡ true
    serve_posted h x i e =
        let with = value_of_is_some (partner (pairs plans h) x) (serve_paired h x i e) in
        (partner_of_receive plans h x with.0 (served_receive plans eager h x i e) with.1).posted

    -- what has ended has started
    pub ended_started : (h : List Act) (x : OpId) → IsInterleaving plans eager h → has_ended plans eager x h ≡ true → has_started plans x h ≡ true
    ended_started h x i e = go (kind_cases plans x)
      where
        go : KindOf plans x → has_started plans x h ≡ true
        go (absent k) =
            ap (λ (c : Class). happened c x h) (first_of_absent x k) ∙ sym (ap (λ (c : Class). happened c x h) (last_of_absent x k)) ∙ e
        go (calc k) = started_calc h x k ∙ sym (ended_calc h x k) ∙ e
        go (receive k) =
            started_receive h x k ∙ serve_posted h x i (sym (ended_receive h x k) ∙ e)
        go (send k) =
            elim (cases_Bool (eager x)) [ inl t ↦ started_send h x k ∙ sym (ended_eager h x k t) ∙ e | inr f ↦ started_send h x k ∙ data_begun h x i (sym (ended_rendezvous h x k f) ∙ e) ]

    -- what has started was ready
    pub started_ready : (h : List Act) (x : OpId) → IsInterleaving plans eager h → has_started plans x h ≡ true → is_ready plans eager h x ≡ true
    started_ready h x i e = go (kind_cases plans x)
      where
        go : KindOf plans x → is_ready plans eager h x ≡ true
        go (absent k) =
            begun_ready plans eager h x i (sym (ap (λ (c : Class). happened c x h) (first_of_absent x k)) ∙ e)
        go (calc k) = begun_ready plans eager h x i (sym (started_calc h x k) ∙ e)
        go (send k) = begun_ready plans eager h x i (sym (started_send h x k) ∙ e)
        go (receive k) = posted_ready plans eager h x i (sym (started_receive h x k) ∙ e)
