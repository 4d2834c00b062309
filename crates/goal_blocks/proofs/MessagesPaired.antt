-- Where messages are told one by one, each send has exactly one receive of its channel, and each receive one send.
use Rattle.std.proofs.Common.{◌≡◌, ◌⊎◌, ℕ, true, List, Option, Some, is_some, inl, inr, refl, sym, ap, ◌∙◌, subst}
use Rattle.std.proofs.lemmas.Option.{same_Some}
use Rattle.goal_graph.specs.declared.action.OpId.{OpId}
use Rattle.goal_graph.specs.declared.plan.Kind.TheVariants.{Calc, Send, Recv}
use Rattle.goal_graph.specs.Schedule.{Plan, kind_at, IsSend, IsReceive}
use Rattle.goal_blocks.specs.Channels.{Channel, channel, AreOfOneChannel}
use Rattle.goal_blocks.specs.Entries.{Entry, made_by}
use Rattle.goal_blocks.specs.Messages.{AreMessages, AreChannelsPaired}
use Rattle.goal_blocks.proofs.EntryFacts.{kind_there, kind_only}

module _ (ranks : ℕ) (count : ℕ → ℕ) (e : ℕ → ℕ → Entry) (M : Type 0) (bytes : ℕ) (send recv : M → OpId) (tag : M → ℕ) (told : AreMessages ranks count e M bytes send recv tag) where
  abbrev plans : List Plan
  plans = made_by ranks count e

  abbrev channel_of_message : M → Channel
  channel_of_message m = record { source = (send m).rank; target = (recv m).rank; tag = tag m }

  kind_of_send : (m : M) → kind_at plans (send m) ≡ Some (Send bytes (recv m).rank (tag m))
  kind_of_send m = kind_there ranks count e (send m).rank (send m).op (told.send_there m).0 (told.send_there m).1 ∙ ap Some (told.sent m)

  kind_of_recv : (m : M) → kind_at plans (recv m) ≡ Some (Recv bytes (Some (send m).rank) (Some (tag m)))
  kind_of_recv m = kind_there ranks count e (recv m).rank (recv m).op (told.recv_there m).0 (told.recv_there m).1 ∙ ap Some (told.received m)

  is_send : (m : M) → IsSend plans (send m)
  is_send m = record { bytes = bytes; to = (recv m).rank; tag = tag m; kind = kind_of_send m }

  is_recv : (m : M) → IsReceive plans (recv m)
  is_recv m = record { room = bytes; from = Some (send m).rank; tag = Some (tag m); kind = kind_of_recv m }

  line_of_send : (m : M) → channel plans (send m) ≡ Some (channel_of_message m)
  unfolding channel
  line_of_send m = rw (kind_of_send m) refl

  line_of_recv : (m : M) → channel plans (recv m) ≡ Some (channel_of_message m)
  unfolding channel
  line_of_recv m = rw (kind_of_recv m) refl

  pub one_channel : (m : M) → AreOfOneChannel plans (send m) (recv m)
  one_channel m = record { is_send = is_send m; is_receive = is_recv m; shared = channel_of_message m; of_send = line_of_send m; of_receive = line_of_recv m }

  -- each send is the send of some message, and each receive the receive of one
  pub message_of_send : (x : OpId) → IsSend plans x → (m : M) × (send m ≡ x)
  message_of_send x is =
      let there = kind_only ranks count e x _ is.kind in
      go (told.cases x there.in_rank there.inside) there.is
    where
      go : ((nanos : ℕ) × ((e x.rank x.op).kind ≡ Calc nanos)) ⊎ (((m : M) × (send m ≡ x)) ⊎ ((m : M) × (recv m ≡ x))) → (e x.rank x.op).kind ≡ Send is.bytes is.to is.tag → (m : M) × (send m ≡ x)
      go (inl calc) k = absurd (cc (sym calc.1 ∙ k))
      go (inr (inl m)) k = m
      go (inr (inr m)) k = absurd (cc (sym (told.received m.0) ∙ subst (λ (y : OpId). (e y.rank y.op).kind ≡ Send is.bytes is.to is.tag) (sym m.1) k))

  pub message_of_recv : (x : OpId) → IsReceive plans x → (m : M) × (recv m ≡ x)
  message_of_recv x is =
      let there = kind_only ranks count e x _ is.kind in
      go (told.cases x there.in_rank there.inside) there.is
    where
      go : ((nanos : ℕ) × ((e x.rank x.op).kind ≡ Calc nanos)) ⊎ (((m : M) × (send m ≡ x)) ⊎ ((m : M) × (recv m ≡ x))) → (e x.rank x.op).kind ≡ Recv is.room is.from is.tag → (m : M) × (recv m ≡ x)
      go (inl calc) k = absurd (cc (sym calc.1 ∙ k))
      go (inr (inr m)) k = m
      go (inr (inl m)) k = absurd (cc (sym (told.sent m.0) ∙ subst (λ (y : OpId). (e y.rank y.op).kind ≡ Recv is.room is.from is.tag) (sym m.1) k))

  one_message : (m n : M) (c : Channel) → Some (channel_of_message m) ≡ Some c → Some (channel_of_message n) ≡ Some c → (send m ≡ send n) × (recv m ≡ recv n)
  one_message m n c p q =
      let same = same_Some (channel_of_message m) (channel_of_message n) (p ∙ sym q) in
      told.apart m n (ap (λ (l : Channel). l.source) same) (ap (λ (l : Channel). l.target) same) (ap (λ (l : Channel). l.tag) same)

  line_at_send : (x : OpId) (c : Channel) (m : M) → send m ≡ x → channel plans x ≡ Some c → Some (channel_of_message m) ≡ Some c
  line_at_send x c m is at = sym (line_of_send m) ∙ ap (λ (y : OpId). channel plans y) is ∙ at

  line_at_recv : (x : OpId) (c : Channel) (m : M) → recv m ≡ x → channel plans x ≡ Some c → Some (channel_of_message m) ≡ Some c
  line_at_recv x c m is at = sym (line_of_recv m) ∙ ap (λ (y : OpId). channel plans y) is ∙ at

  pub messages_paired : AreChannelsPaired plans
  messages_paired = record {
    no_wildcard = λ x room from t k. named x room from t k (message_of_recv x (record { room = room; from = from; tag = t; kind = k }));
    no_double_channel = record {
      sends = λ x y c sx sy cx cy.
          let m = message_of_send x sx in
          let n = message_of_send y sy in
          sym m.1 ∙ (one_message m.0 n.0 c (line_at_send x c m.0 m.1 cx) (line_at_send y c n.0 n.1 cy)).0 ∙ n.1;
      receives = λ x y c rx ry cx cy.
          let m = message_of_recv x rx in
          let n = message_of_recv y ry in
          sym m.1 ∙ (one_message m.0 n.0 c (line_at_recv x c m.0 m.1 cx) (line_at_recv y c n.0 n.1 cy)).1 ∙ n.1;
    };
    no_unpaired = record {
      sends = λ x s. let m = message_of_send x s in (recv m.0, subst (λ (y : OpId). AreOfOneChannel plans y (recv m.0)) m.1 (one_channel m.0));
      receives = λ x r. let m = message_of_recv x r in (send m.0, subst (λ (y : OpId). AreOfOneChannel plans (send m.0) y) m.1 (one_channel m.0));
    };
  }
    where
      named : (x : OpId) (room : ℕ) (from t : Option ℕ) → kind_at plans x ≡ Some (Recv room from t) → (m : M) × (recv m ≡ x) → (is_some from ≡ true) × (is_some t ≡ true)
      named x room from t k m =
          let same : Recv room from t ≡ Recv bytes (Some (send m.0).rank) (Some (tag m.0)) = same_Some _ _ (sym k ∙ ap (λ (y : OpId). kind_at plans y) (sym m.1) ∙ kind_of_recv m.0) in
          (cc, cc)
