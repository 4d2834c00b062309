-- What is held after an interleaving is what the ends of its operations do, in their order. Lists are newest first.
use Rattle.std.proofs.Common.{⊎_elim, ℕ, ◌≡◌, ◌==◌, ◌⊎◌, inl, inr, Bool, true, false, List, [], ◌∷◌, Option, Some, None, if◌then◌else◌, refl, sym, ap, ◌∙◌, subst}
use Rattle.std.proofs.lemmas.Bool.{both_ways, cases_Bool, or_cases, eqb-true}
use Rattle.std.proofs.Common.{eq-eqb}
use Rattle.goal_graph.specs.declared.action.OpId.{OpId}
use Rattle.goal_graph.specs.declared.action.Class.{Class}
use Rattle.goal_graph.specs.declared.action.Class.TheVariants.{Arrive, Serve, Data, Post, Begin}
use Rattle.goal_graph.specs.declared.plan.Kind.{Kind}
use Rattle.goal_graph.specs.declared.plan.Kind.TheVariants.{Calc, Send, Recv}
use Rattle.goal_graph.specs.Schedule.{Plan, kind_at, IsSend, IsReceive}
use Rattle.goal_graph.specs.Action.{Act, place, happened}
use Rattle.goal_graph.specs.Matching.{pairs, partner}
use Rattle.goal_graph.specs.Allowed.{last_class, has_ended, is_served, allowed}
use Rattle.goal_graph.specs.Interleaving.{IsInterleaving}
use Rattle.goal_graph.specs.Fault.{IsOp}
use Rattle.goal_graph.proofs.ForCallers.{place_injective, is_act_class, is_act_op, is_act_from, happened_none, happened_cases, happened_stays, happened_new, allowed_fresh, allowed_serve, allowed_data, allowed_listed, listed_places, ended_started, arrived_begun, partner_of_receive, partner_is_send, partners_mutual, last_of_eager, last_of_rendezvous, last_of_receive}
use Rattle.goal_blocks.specs.Channels.{AreOfOneChannel}
use Rattle.goal_blocks.specs.Race.{EndsBefore}
use Rattle.goal_blocks.specs.Values.{Store, Held, read, change, held_after, payload_from, write}
use Rattle.goal_blocks.specs.Matched.{IsMatched}
use Rattle.goal_blocks.specs.Slots.{slots}
use Rattle.goal_blocks.specs.Walk.{no_send}
use Rattle.goal_blocks.proofs.Channels.{fits_channel}
use Rattle.goal_blocks.proofs.Matched.{ends_in_its_pairs}
use Rattle.goal_blocks.proofs.Race.{always_ends_first}
use Rattle.goal_blocks.proofs.Orders.{Mem, IsOnce, Keeps, run}
use Rattle.goal_blocks.proofs.Effects.{effect, ended}

-- the send whose message an operation takes: the partner of a receive, and none for other operations
abbrev sender_in : Option Kind → Option OpId → Option OpId
sender_in (Some (Recv room from tag)) with = with
sender_in (Some (Send bytes to tag)) with = None
sender_in (Some (Calc nanos)) with = None
sender_in None with = None

mem_if : {A : Type 0} (x y : A) (ys : List A) (b : Bool) → Mem x ys → Mem x (if b then y ∷ ys else ys)
mem_if x y ys true m = inr m
mem_if x y ys false m = m

module _ (plans : List Plan) where
  abbrev pub start : Store → Held
  start first = record { store = first; payload = λ m. [] }

  module _ (eager : OpId → Bool) where
    -- the action is the end of its operation
    abbrev is_end : Act → Bool
    is_end a = place a.class == place (last_class (eager a.op) (kind_at plans a.op))

    -- the operations in the order of their ends
    abbrev pub ends : List Act → List OpId
    ends [] = []
    ends (a ∷ h) = if is_end a then a.op ∷ ends h else ends h

    pub ended_listed : (h : List Act) (x : OpId) → has_ended plans eager x h ≡ true → Mem x (ends h)
    ended_listed [] x e = absurd (both_ways _ (happened_none _ x) e)
    ended_listed (a ∷ h) x e =
        ⊎_elim (λ was. mem_if x a.op (ends h) (is_end a) (ended_listed h x was)) (λ now. newest (is_act_class _ x a now) (is_act_op _ x a now)) (happened_cases _ x a h e)
      where
        newest : a.class ≡ last_class (eager x) (kind_at plans x) → a.op ≡ x → Mem x (ends (a ∷ h))
        newest c o =
            let is : is_end a ≡ true = eq-eqb _ _ (ap place c ∙ ap (λ (y : OpId). place (last_class (eager y) (kind_at plans y))) (sym o)) in
            subst (λ (b : Bool). Mem x (if b then a.op ∷ ends h else ends h)) (sym is) (inl o)

    pub listed_ended : (h : List Act) (x : OpId) → Mem x (ends h) → has_ended plans eager x h ≡ true
    listed_ended [] x m = absurd m
    listed_ended (a ∷ h) x m = go (listed_ended h x) (is_end a) refl m
      where
        go : (Mem x (ends h) → has_ended plans eager x h ≡ true) → (b : Bool) → is_end a ≡ b → Mem x (if b then a.op ∷ ends h else ends h) → has_ended plans eager x (a ∷ h) ≡ true
        go before true e (inl o) =
            happened_new _ x a h (is_act_from _ x a (place_injective _ _ (eqb-true _ _ e) ∙ ap (λ (y : OpId). last_class (eager y) (kind_at plans y)) o) o)
        go before true e (inr n) = happened_stays _ x a h (before n)
        go before false e n = happened_stays _ x a h (before n)

    pub listed_op : (h : List Act) (x : OpId) → IsInterleaving plans eager h → Mem x (ends h) → IsOp plans x
    listed_op [] x i m = absurd m
    listed_op (a ∷ h) x i m = go (listed_op h x i.0) (is_end a) m
      where
        go : (Mem x (ends h) → IsOp plans x) → (b : Bool) → Mem x (if b then a.op ∷ ends h else ends h) → IsOp plans x
        go before true (inl o) =
            subst (λ (y : OpId). IsOp plans y) o ((listed_places plans a.op).0 (allowed_listed plans eager h a.class a.op i.1))
        go before true (inr n) = before n
        go before false n = before n

    pub ends_once : (h : List Act) → IsInterleaving plans eager h → IsOnce (ends h)
    ends_once [] i = tt
    ends_once (a ∷ h) i = go (ends_once h i.0) (is_end a) refl
      where
        go : IsOnce (ends h) → (b : Bool) → is_end a ≡ b → IsOnce (if b then a.op ∷ ends h else ends h)
        go before true e =
            (before, λ m. both_ways _ (allowed_fresh plans eager h a.class a.op i.1) (subst (λ (c : Class). happened c a.op h ≡ true) (sym (place_injective _ _ (eqb-true _ _ e))) (listed_ended h a.op m)))
        go before false e = before

  module _ (matched : IsMatched plans) where
    abbrev walk : List Act
    walk = matched.no_stall.walk

    -- the send whose message a receive takes, in the walk and everywhere
    abbrev pub sender : OpId → Option OpId
    sender x = sender_in (kind_at plans x) (partner (pairs plans walk) x)

    sender_of_receive : (x : OpId) → IsReceive plans x → sender x ≡ partner (pairs plans walk) x
    sender_of_receive x r = ap (λ (k : Option Kind). sender_in k (partner (pairs plans walk) x)) r.kind

    -- it is the send of its channel
    pub sender_of_channel : (m x : OpId) → AreOfOneChannel plans m x → sender x ≡ Some m
    sender_of_channel m x one =
        let there = ((ends_in_its_pairs plans no_send walk matched matched.no_stall.is_walk.complete).pairs m x).1 one in
        sender_of_receive x one.is_receive ∙ partners_mutual plans no_send walk m x matched.no_stall.is_walk.complete.each there.0

    -- x ends before y in every interleaving
    abbrev pub Before : OpId → OpId → Type 0
    Before x y = (x ≡ y → ⊥) × (EndsBefore plans x y ⊎ (sender y ≡ Some x))

    module _ (eager : OpId → Bool) where
      -- a receive has one partner, whatever comes first
      partner_known : (h : List Act) (x m : OpId) → IsInterleaving plans eager h → IsReceive plans x → partner (pairs plans h) x ≡ Some m → sender x ≡ Some m
      partner_known h x m i r p =
          sender_of_channel m x (fits_channel plans x m matched.no_wildcard (partner_of_receive plans h x m r p).fit)

      -- where a receive takes its message, the send has ended
      sender_ended : (h : List Act) (x : OpId) → IsInterleaving plans eager h → allowed plans eager h Serve x ≡ true → (m : OpId) × (partner (pairs plans h) x ≡ Some m) × (sender x ≡ Some m) × (has_ended plans eager m h ≡ true)
      sender_ended h x i e =
          let may = allowed_serve plans eager h x e in
          go may.0 (partner (pairs plans h) x) refl may.1
        where
          go : IsReceive plans x → (o : Option OpId) → partner (pairs plans h) x ≡ o → is_served plans eager h o ≡ true → (m : OpId) × (partner (pairs plans h) x ≡ Some m) × (sender x ≡ Some m) × (has_ended plans eager m h ≡ true)
          go r None p s = absurd (both_ways false refl s)
          go r (Some m) p s = (m, p, partner_known h x m i r p, ended_at (cases_Bool (eager m)))
            where
              is_send : IsSend plans m
              is_send = partner_is_send plans h x m r p

              ended_at : ((eager m ≡ true) ⊎ (eager m ≡ false)) → has_ended plans eager m h ≡ true
              ended_at (inl t) =
                  subst (λ (c : Class). happened c m h ≡ true) (sym (last_of_eager plans eager m is_send t)) (arrived_begun plans eager h m i (partner_of_receive plans h x m r p).arrived)
              ended_at (inr f) =
                  subst (λ (c : Class). happened c m h ≡ true) (sym (last_of_rendezvous plans eager m is_send f)) (⊎_elim (λ t. absurd (both_ways _ f t)) (λ d. d) (or_cases (eager m) (happened Data m h) s))

      has_sender : (x m : OpId) → sender x ≡ Some m → IsReceive plans x
      has_sender x m e = go (kind_at plans x) refl e
        where
          go : (k : Option Kind) → kind_at plans x ≡ k → sender_in k (partner (pairs plans walk) x) ≡ Some m → IsReceive plans x
          go None p f = absurd (cc f)
          go (Some (Calc nanos)) p f = absurd (cc f)
          go (Some (Send bytes to tag)) p f = absurd (cc f)
          go (Some (Recv room from tag)) p f = record { room = room; from = from; tag = tag; kind = p }

      -- what comes before an operation has ended where that one ends
      before_ended : (a : Act) (h : List Act) → IsInterleaving plans eager (a ∷ h) → is_end eager a ≡ true → (x : OpId) → Before x a.op → Mem x (ends eager h)
      before_ended a h i e x b = ⊎_elim by_need by_message b.1
        where
          class : a.class ≡ last_class (eager a.op) (kind_at plans a.op)
          class = place_injective _ _ (eqb-true _ _ e)

          by_need : EndsBefore plans x a.op → Mem x (ends eager h)
          by_need p =
              let started = ended_started plans eager (a ∷ h) a.op i (happened_new _ a.op a h (is_act_from _ a.op a class refl)) in
              ⊎_elim (λ was. ended_listed eager h x was) (λ now. absurd (b.0 (sym (is_act_op _ x a now)))) (happened_cases _ x a h (always_ends_first plans x a.op p eager (a ∷ h) i started))

          by_message : sender a.op ≡ Some x → Mem x (ends eager h)
          by_message s =
              let serve = class ∙ last_of_receive plans eager a.op (has_sender a.op x s) in
              let found = sender_ended h a.op i.0 (subst (λ (c : Class). allowed plans eager h c a.op ≡ true) serve i.1) in
              let same : ◌≡◌ {A = OpId} found.0 x = cc (s, found.2) in
              subst (λ (m : OpId). Mem m (ends eager h)) same (ended_listed eager h found.0 found.3)

      pub ends_keep : (h : List Act) → IsInterleaving plans eager h → Keeps Before (ends eager h)
      ends_keep [] i = tt
      ends_keep (a ∷ h) i = go (ends_keep h i.0) (is_end eager a) refl
        where
          go : Keeps Before (ends eager h) → (b : Bool) → is_end eager a ≡ b → Keeps Before (if b then a.op ∷ ends eager h else ends eager h)
          go before true e = (before, λ x b. before_ended a h i e x b)
          go before false e = before

      -- an action changes what the end of its operation changes, where it is that end, and else nothing
      change_is : (a : Act) (h : List Act) → IsInterleaving plans eager (a ∷ h) → (s : Held) → change plans eager (partner (pairs plans h) a.op) a.class a.op (kind_at plans a.op) s ≡ (if is_end eager a then effect plans sender a.op (kind_at plans a.op) s else s)
      change_is a h i s = go a.class refl (kind_at plans a.op) refl
        where
          begin : (b : Bool) → (if b then read plans a.op s else s) ≡ (if place Begin == place (if b then Begin else Data) then read plans a.op s else s)
          begin true = refl
          begin false = refl

          data_of : a.class ≡ Data → (b : Bool) → eager a.op ≡ b → read plans a.op s ≡ (if place Data == place (if b then Begin else Data) then read plans a.op s else s)
          data_of p true e =
              absurd (both_ways _ (allowed_data plans eager h a.op (subst (λ (c : Class). allowed plans eager h c a.op ≡ true) p i.1)).1 e)
          data_of p false e = refl

          other : (n : ℕ) → (n == 4) ≡ false → (n == 2) ≡ false → (b : Bool) → s ≡ (if n == place (if b then Begin else Data) then read plans a.op s else s)
          other n e f true = ap (λ (t : Bool). if t then read plans a.op s else s) (sym e)
          other n e f false = ap (λ (t : Bool). if t then read plans a.op s else s) (sym f)

          serve : a.class ≡ Serve → ◌≡◌ {A = Held} (record { store = write a.op.rank (slots plans a.op) (payload_from s (partner (pairs plans h) a.op)) s.store; payload = s.payload }) (record { store = write a.op.rank (slots plans a.op) (payload_from s (sender a.op)) s.store; payload = s.payload })
          serve p =
              let found = sender_ended h a.op i.0 (subst (λ (c : Class). allowed plans eager h c a.op ≡ true) p i.1) in
              let same : partner (pairs plans h) a.op ≡ sender a.op = found.1 ∙ sym found.2 in
              λ k. record { store = write a.op.rank (slots plans a.op) (payload_from s (same k)) s.store; payload = s.payload }

          go : (c : Class) → a.class ≡ c → (k : Option Kind) → kind_at plans a.op ≡ k → change plans eager (partner (pairs plans h) a.op) c a.op k s ≡ (if place c == place (last_class (eager a.op) k) then effect plans sender a.op k s else s)
          go Begin p (Some (Send bytes to tag)) q = begin (eager a.op)
          go Data p (Some (Send bytes to tag)) q = data_of p (eager a.op) refl
          go Serve p (Some (Recv room from tag)) q = serve p
          go Arrive p (Some (Send bytes to tag)) q = other 0 refl refl (eager a.op)
          go Serve p (Some (Send bytes to tag)) q = other 1 refl refl (eager a.op)
          go Post p (Some (Send bytes to tag)) q = other 3 refl refl (eager a.op)
          go Arrive p (Some (Recv room from tag)) q = refl
          go Data p (Some (Recv room from tag)) q = refl
          go Post p (Some (Recv room from tag)) q = refl
          go Begin p (Some (Recv room from tag)) q = refl
          go Arrive p (Some (Calc nanos)) q = refl
          go Serve p (Some (Calc nanos)) q = refl
          go Data p (Some (Calc nanos)) q = refl
          go Post p (Some (Calc nanos)) q = refl
          go Begin p (Some (Calc nanos)) q = refl
          go Arrive p None q = refl
          go Serve p None q = refl
          go Data p None q = refl
          go Post p None q = refl
          go Begin p None q = refl

      run_if : (first : Store) (b : Bool) (x : OpId) (xs : List OpId) → (if b then ended plans sender x (run (ended plans sender) (start first) xs) else run (ended plans sender) (start first) xs) ≡ run (ended plans sender) (start first) (if b then x ∷ xs else xs)
      run_if first true x xs = refl
      run_if first false x xs = refl

      pub held_by_ends : (first : Store) (h : List Act) → IsInterleaving plans eager h → held_after plans eager first h ≡ run (ended plans sender) (start first) (ends eager h)
      unfolding held_after
      held_by_ends first [] i = refl
      held_by_ends first (a ∷ h) i =
          ap (λ (s : Held). change plans eager (partner (pairs plans h) a.op) a.class a.op (kind_at plans a.op) s) (held_by_ends first h i.0) ∙ (change_is a h i (run (ended plans sender) (start first) (ends eager h)) ∙ run_if first (is_end eager a) a.op (ends eager h))
