-- Without wildcards, a send and a receive fit if and only if they have the same channel.
use Rattle.std.proofs.Common.{ℕ, ◌≡◌, ◌==◌, ◌&&◌, true, false, List, Option, Some, None, refl, sym, ap, ◌∙◌, eq-eqb}
use Rattle.std.proofs.lemmas.Bool.{and_parts, and_from, both_ways, eqb-true}
use Rattle.goal_graph.specs.declared.action.OpId.{OpId}
use Rattle.goal_graph.specs.declared.plan.Kind.{Kind}
use Rattle.goal_graph.specs.declared.plan.Kind.TheVariants.{Send, Recv}
use Rattle.goal_graph.specs.Schedule.{Plan, kind_at}
use Rattle.goal_graph.specs.Matching.{fits, fits_kinds}
use Rattle.goal_graph.specs.Laws.{IsApart}
use Rattle.goal_blocks.specs.Channels.{Channel, channel_in, channel, AreOfOneChannel, HasNoWildcard, HasNoDoubleChannel}

same_channel : (a b c d e f : ℕ) → a ≡ b → c ≡ d → e ≡ f → ◌≡◌ {A = Option Channel} (Some (record { source = a; target = c; tag = e })) (Some (record { source = b; target = d; tag = f }))
same_channel a b c d e f p q r = λ i. Some (record { source = p i; target = q i; tag = r i })

module _ (plans : List Plan) where
  -- a receive without wildcards that fits m is of its channel
  pub fits_channel : (x m : OpId) → HasNoWildcard plans → fits plans x m ≡ true → AreOfOneChannel plans m x
  unfolding fits channel
  fits_channel x m known e = go (kind_at plans x) refl (kind_at plans m) refl e
    where
      go : (k : Option Kind) → kind_at plans x ≡ k → (l : Option Kind) → kind_at plans m ≡ l → fits_kinds x k m l ≡ true → AreOfOneChannel plans m x
      go (Some (Recv room None tag)) p l q f = absurd (both_ways false refl (known x room None tag p).0)
      go (Some (Recv room (Some from) None)) p l q f = absurd (both_ways false refl (known x room (Some from) None p).1)
      go (Some (Recv room (Some from) (Some tag))) p (Some (Send bytes to with_tag)) q f =
          let parts = and_parts ((to == x.rank) && (from == m.rank)) (tag == with_tag) f in
          let ranks = and_parts (to == x.rank) (from == m.rank) parts.0 in
          record {
            is_send = record { bytes = bytes; to = to; tag = with_tag; kind = q };
            is_receive = record { room = room; from = Some from; tag = Some tag; kind = p };
            shared = record { source = m.rank; target = to; tag = with_tag };
            of_send = ap (channel_in m) q;
            of_receive = ap (channel_in x) p ∙ same_channel from m.rank x.rank to tag with_tag (eqb-true from m.rank ranks.1) (sym (eqb-true to x.rank ranks.0)) (eqb-true tag with_tag parts.1);
          }
      go _ p _ q f = absurd (both_ways false refl f)

  -- a send and a receive of one channel fit
  pub channel_fits : (x m : OpId) → AreOfOneChannel plans m x → fits plans x m ≡ true
  unfolding fits channel
  channel_fits x m one = go (kind_at plans x) one.is_receive.from one.is_receive.tag one.is_receive.kind (kind_at plans m) one.is_send.kind (ap (channel_in x) (sym one.is_receive.kind) ∙ one.of_receive) (ap (channel_in m) (sym one.is_send.kind) ∙ one.of_send)
    where
      go : (k : Option Kind) (from tag : Option ℕ) → k ≡ Some (Recv one.is_receive.room from tag) → (l : Option Kind) → l ≡ Some (Send one.is_send.bytes one.is_send.to one.is_send.tag) → channel_in x (Some (Recv one.is_receive.room from tag)) ≡ Some one.shared → channel_in m (Some (Send one.is_send.bytes one.is_send.to one.is_send.tag)) ≡ Some one.shared → fits_kinds x k m l ≡ true
      go k None tag p l q f g = absurd (cc f)
      go k (Some from) None p l q f g = absurd (cc f)
      go k (Some from) (Some tag) p l q f g =
          let same : ◌≡◌ {A = Channel} (record { source = m.rank; target = one.is_send.to; tag = one.is_send.tag }) (record { source = from; target = x.rank; tag = tag }) = cc (g, f) in
          rw p (rw q (and_from _ _ (and_from _ _ (eq-eqb one.is_send.to x.rank (ap (λ (c : Channel). c.target) same)) (eq-eqb from m.rank (sym (ap (λ (c : Channel). c.source) same)))) (eq-eqb tag one.is_send.tag (sym (ap (λ (c : Channel). c.tag) same)))))

  pub channels_apart : HasNoWildcard plans → HasNoDoubleChannel plans → IsApart plans
  channels_apart known single = record {
    one_receive = λ m x y f g. let left = fits_channel x m known f in let right = fits_channel y m known g in single.receives x y left.shared left.is_receive right.is_receive left.of_receive (right.of_receive ∙ sym right.of_send ∙ left.of_send);
    one_send = λ x m n f g. let left = fits_channel x m known f in let right = fits_channel x n known g in single.sends m n left.shared left.is_send right.is_send left.of_send (right.of_send ∙ sym right.of_receive ∙ left.of_receive);
  }
