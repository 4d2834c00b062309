-- Values that are told operation by operation: what each finds in the slots that it reads, and what it leaves in those that
-- it writes. Where these fit together they are the values in every interleaving. Lists are newest first.
use Rattle.std.proofs.Common.{⊎_elim, ℕ, ◌≡◌, ◌⊎◌, inl, inr, List, [], ◌∷◌, map, Option, Some, None, refl, sym, ap, ◌∙◌, subst}
use Rattle.std.proofs.lemmas.Bool.{cases_eq}
use Rattle.goal_graph.specs.declared.action.OpId.{OpId}
use Rattle.goal_graph.specs.declared.plan.Kind.{Kind}
use Rattle.goal_graph.specs.declared.plan.Kind.TheVariants.{Calc, Send, Recv}
use Rattle.goal_graph.specs.Schedule.{Plan, kind_at, IsSend, IsReceive}
use Rattle.goal_graph.specs.Laws.{IsCalc}
use Rattle.goal_graph.proofs.ForCallers.{same_or_different_op, same_op_false, same_op_itself, not_send_receive, not_receive_calc}
use Rattle.goal_blocks.specs.Channels.{AreOfOneChannel}
use Rattle.goal_blocks.specs.Slots.{slots, adds, written, written_in, touched, touched_in}
use Rattle.goal_blocks.specs.Values.{Value, Store, Held, payload_from, write, add_all, read}
use Rattle.goal_blocks.specs.Matched.{IsMatched}
use Rattle.goal_blocks.proofs.Orders.{Mem, IsOnce, Keeps, run}
use Rattle.goal_blocks.proofs.Effects.{cases_mem, effect, ended, store_keeps, payload_keeps, map_same}
use Rattle.goal_blocks.proofs.Ends.{start, sender, sender_of_channel, Before}

module _ (plans : List Plan) (matched : IsMatched plans) (first : Store) where
  -- z is an operation of the rank r, and writes its slot k
  abbrev pub Writes : OpId → ℕ → ℕ → Type 0
  Writes z r k = (z.rank ≡ r) × Mem k (written plans z)

  abbrev pub state : List OpId → Held
  state xs = run (ended plans (sender plans matched)) (start plans first) xs

  module _ (finds leaves : OpId → ℕ → Value) where
    -- the first value, or what the last operation that writes it before x leaves
    abbrev pub Source : OpId → ℕ → Type 0
    Source x k =
        ((first x.rank k ≡ finds x k) × ((z : OpId) → Writes z x.rank k → (z ≡ x) ⊎ Before plans matched x z))
        ⊎ ((y : OpId) × Writes y x.rank k × Before plans matched y x × (leaves y k ≡ finds x k) × ((z : OpId) → Writes z x.rank k → ((z ≡ x) ⊎ (z ≡ y)) ⊎ (Before plans matched z y ⊎ Before plans matched x z)))

    pub record IsFlow : Type 0 where
      pub source : (x : OpId) (k : ℕ) → (IsReceive plans x → ⊥) → Mem k (touched plans x) → Source x k
      pub moves : (m x : OpId) → AreOfOneChannel plans m x → (s : Store) (k : ℕ) → Mem k (written plans x) → write x.rank (slots plans x) (map (finds m) (slots plans m)) s x.rank k ≡ leaves x k
      pub sums : (x : OpId) → IsCalc plans x → (s : Store) → ((j : ℕ) → Mem j (touched plans x) → s x.rank j ≡ finds x j) → (k : ℕ) → Mem k (written plans x) → add_all x.rank (adds plans x) s x.rank k ≡ leaves x k

    -- y is the last of these that writes a slot
    abbrev pub IsLast : List OpId → OpId → ℕ → Type 0
    IsLast xs y k = (z : OpId) → Mem z xs → Writes z y.rank k → (z ≡ y) ⊎ Before plans matched z y

    -- the values after these operations
    pub record Flows (xs : List OpId) : Type 0 where
      -- a send has read what it finds
      pub payloads : (m : OpId) → Mem m xs → IsSend plans m → (state xs).payload m ≡ map (finds m) (slots plans m)
      -- a payload is empty, or that of one of these sends
      pub some_payload : (m : OpId) → ((state xs).payload m ≡ []) ⊎ (Mem m xs × IsSend plans m)
      -- a slot that none of these writes has its first value
      pub unwritten : (r k : ℕ) → ((z : OpId) → Mem z xs → Writes z r k → ⊥) → (state xs).store r k ≡ first r k
      -- a slot holds what the last of these that writes it leaves
      pub left : (y : OpId) (k : ℕ) → Mem y xs → Mem k (written plans y) → IsLast xs y k → (state xs).store y.rank k ≡ leaves y k
      -- each value is that at first, or left by one of these
      pub some_value : (r k : ℕ) → ((state xs).store r k ≡ first r k) ⊎ ((y : OpId) × Mem y xs × Writes y r k × ((state xs).store r k ≡ leaves y k))

    module _ (w : OpId) (ws : List OpId) (keeps : Keeps (Before plans matched) (w ∷ ws)) (once : IsOnce (w ∷ ws)) (flows : Flows ws) where
      -- what comes before an older operation is older still
      not_newest : (xs : List OpId) → Keeps (Before plans matched) xs → (y z : OpId) → Mem y xs → Before plans matched z y → Mem z xs
      not_newest [] k y z m b = absurd m
      not_newest (x ∷ xs) k y z (inl e) b =
          inr (k.1 z (subst (λ (u : OpId). Before plans matched z u) (sym e) b))
      not_newest (x ∷ xs) k y z (inr m) b = inr (not_newest xs k.0 y z m b)

      not_after : (z : OpId) → Mem z ws → Before plans matched w z → ⊥
      not_after z m b = once.1 (not_newest ws keeps.0 z w m b)

      found : (k : ℕ) → Source w k → (state ws).store w.rank k ≡ finds w k
      found k (inl (e, after)) =
          flows.unwritten w.rank k (λ z m writes. ⊎_elim (λ same. once.1 (subst (λ (u : OpId). Mem u ws) same m)) (λ b. not_after z m b) (after z writes)) ∙ e
      found k (inr (y, writes, before, e, others)) =
          subst (λ (r : ℕ). (state ws).store r k ≡ finds w k) writes.0 (flows.left y k (keeps.1 y before) writes.1 last ∙ e)
        where
          last : IsLast ws y k
          last z m z_writes =
              ⊎_elim (λ s. ⊎_elim (λ same. absurd (once.1 (subst (λ (u : OpId). Mem u ws) same m))) (λ same. inl same) s) (λ s. ⊎_elim (λ b. inr b) (λ b. absurd (not_after z m b)) s) (others z (z_writes.0 ∙ writes.0, z_writes.1))

      after : Held
      after = ended plans (sender plans matched) w (state ws)

      -- what w leaves in a slot that it writes
      wrote : (k : ℕ) → IsFlow → Mem k (written plans w) → (state (w ∷ ws)).store w.rank k ≡ leaves w k
      unfolding written
      wrote k flow m = go (kind_at plans w) refl m
        where
          from_send : (t : OpId) → AreOfOneChannel plans t w → write w.rank (slots plans w) (payload_from (state ws) (sender plans matched w)) (state ws).store w.rank k ≡ leaves w k
          from_send t one =
              let is = sender_of_channel plans matched t w one in
              let older = keeps.1 t (λ e. not_send_receive plans t one.is_send (subst (λ (u : OpId). IsReceive plans u) (sym e) one.is_receive), inr is) in
              ap (λ (o : Option OpId). write w.rank (slots plans w) (payload_from (state ws) o) (state ws).store w.rank k) is ∙ ap (λ (vs : List Value). write w.rank (slots plans w) vs (state ws).store w.rank k) (flows.payloads t older one.is_send) ∙ flow.moves t w one (state ws).store k m

          go : (o : Option Kind) → kind_at plans w ≡ o → Mem k (written_in o (slots plans w) (adds plans w)) → (effect plans (sender plans matched) w o (state ws)).store w.rank k ≡ leaves w k
          go None e n = absurd n
          go (Some (Send bytes to tag)) e n = absurd n
          go (Some (Calc nanos)) e n =
              flow.sums w (record { nanos = nanos; kind = e }) (state ws).store (λ j t. found j (flow.source w j (λ r. not_receive_calc plans w r (record { nanos = nanos; kind = e })) t)) k m
          go (Some (Recv room from tag)) e n =
              let paired = matched.no_unpaired.receives w (record { room = room; from = from; tag = tag; kind = e }) in
              from_send paired.0 paired.1

      -- the payload of w, where w is a send
      read_now : IsFlow → IsSend plans w → (state (w ∷ ws)).payload w ≡ map (finds w) (slots plans w)
      unfolding read touched
      read_now flow k = go (kind_at plans w) refl k.kind
        where
          go : (o : Option Kind) → kind_at plans w ≡ o → o ≡ Some (Send k.bytes k.to k.tag) → (effect plans (sender plans matched) w o (state ws)).payload w ≡ map (finds w) (slots plans w)
          go None e f = absurd (cc f)
          go (Some (Calc nanos)) e f = absurd (cc f)
          go (Some (Recv room from tag)) e f = absurd (cc f)
          go (Some (Send bytes to tag)) e f =
              rw (same_op_itself w) (map_same ((state ws).store w.rank) (finds w) (slots plans w) (λ j m. found j (flow.source w j (λ r. not_send_receive plans w k r) (subst (λ (o : Option Kind). Mem j (touched_in o (slots plans w) (adds plans w))) (sym e) m))))

      -- a payload changes where w is a send, and its own alone
      other_payload : (m : OpId) → ((state (w ∷ ws)).payload m ≡ (state ws).payload m) ⊎ ((w ≡ m) × IsSend plans m)
      unfolding read
      other_payload m =
          ⊎_elim (λ e. go e (kind_at plans w) refl) (λ f. inl (payload_keeps plans (sender plans matched) w (state ws) m (λ e. same_op_false w m f e))) (same_or_different_op w m)
        where
          go : w ≡ m → (o : Option Kind) → kind_at plans w ≡ o → ((effect plans (sender plans matched) w o (state ws)).payload m ≡ (state ws).payload m) ⊎ ((w ≡ m) × IsSend plans m)
          go e None f = inl refl
          go e (Some (Calc nanos)) f = inl refl
          go e (Some (Recv room from tag)) f = inl refl
          go e (Some (Send bytes to tag)) f =
              inr (e, subst (λ (u : OpId). IsSend plans u) e (record { bytes = bytes; to = to; tag = tag; kind = f }))

      more_flows : IsFlow → Flows (w ∷ ws)
      more_flows flow = record {
        payloads = payloads;
        some_payload = λ m. ⊎_elim (λ same. ⊎_elim (λ e. inl (same ∙ e)) (λ is. inr (inr is.0, is.1)) (flows.some_payload m)) (λ is. inr (inl is.0, is.1)) (other_payload m);
        unwritten = λ r k none. store_keeps plans (sender plans matched) w (state ws) r k (λ e m. none w (inl refl) (sym e, m)) ∙ flows.unwritten r k (λ z m. none z (inr m));
        left = left;
        some_value = λ r k. ⊎_elim (λ e. ⊎_elim (λ m. inr (w, inl refl, (sym e, m), subst (λ (q : ℕ). (state (w ∷ ws)).store q k ≡ leaves w k) (sym e) (wrote k flow m))) (λ n. as_before r k (λ p m. n m)) (cases_mem k (written plans w))) (λ n. as_before r k (λ p m. n p)) (cases_eq r w.rank);
      }
        where
          payloads : (m : OpId) → Mem m (w ∷ ws) → IsSend plans m → (state (w ∷ ws)).payload m ≡ map (finds m) (slots plans m)
          payloads m (inl e) k =
              subst (λ (u : OpId). (state (w ∷ ws)).payload u ≡ map (finds u) (slots plans u)) e (read_now flow (subst (λ (u : OpId). IsSend plans u) (sym e) k))
          payloads m (inr n) k =
              payload_keeps plans (sender plans matched) w (state ws) m (λ e. once.1 (subst (λ (u : OpId). Mem u ws) (sym e) n)) ∙ flows.payloads m n k

          left : (y : OpId) (k : ℕ) → Mem y (w ∷ ws) → Mem k (written plans y) → IsLast (w ∷ ws) y k → (state (w ∷ ws)).store y.rank k ≡ leaves y k
          left y k (inl e) m last =
              subst (λ (u : OpId). (state (w ∷ ws)).store u.rank k ≡ leaves u k) e (wrote k flow (subst (λ (u : OpId). Mem k (written plans u)) (sym e) m))
          left y k (inr n) m last =
              store_keeps plans (sender plans matched) w (state ws) y.rank k (λ e v. ⊎_elim (λ same. once.1 (subst (λ (u : OpId). Mem u ws) (sym same) n)) (λ b. once.1 (not_newest ws keeps.0 y w n b)) (last w (inl refl) (sym e, v))) ∙ flows.left y k n m (λ z o. last z (inr o))

          as_before : (r k : ℕ) → (r ≡ w.rank → Mem k (written plans w) → ⊥) → ((state (w ∷ ws)).store r k ≡ first r k) ⊎ ((y : OpId) × Mem y (w ∷ ws) × Writes y r k × ((state (w ∷ ws)).store r k ≡ leaves y k))
          as_before r k none =
              let same = store_keeps plans (sender plans matched) w (state ws) r k none in
              ⊎_elim (λ e. inl (same ∙ e)) (λ was. inr (was.0, inr was.1, was.2, same ∙ was.3)) (flows.some_value r k)

    pub all_flows : IsFlow → (xs : List OpId) → Keeps (Before plans matched) xs → IsOnce xs → Flows xs
    all_flows flow [] keeps once = record {
      payloads = λ m n. absurd n;
      some_payload = λ m. inl refl;
      unwritten = λ r k none. refl;
      left = λ y k n. absurd n;
      some_value = λ r k. inl refl;
    }
    all_flows flow (w ∷ ws) keeps once = more_flows w ws keeps once (all_flows flow ws keeps.0 once.0) flow
