-- What stands at the ends of channels.
use Rattle.std.proofs.Common.{⊎_elim, ℕ, ◌≡◌, ◌⊎◌, inl, inr, Bool, true, false, not, List, Contains, Option, Some, None, refl, sym, ap, ◌∙◌}
use Rattle.std.proofs.lemmas.Bool.{both_ways, cases_Bool}
use Rattle.std.proofs.lemmas.Option.{none-some, same_Some}
use Rattle.goal_graph.specs.declared.action.OpId.{OpId}
use Rattle.goal_graph.specs.declared.plan.Kind.{Kind}
use Rattle.goal_graph.specs.declared.plan.Kind.TheVariants.{Calc, Send, Recv}
use Rattle.goal_graph.specs.declared.plan.Op.{Op}
use Rattle.goal_graph.specs.Schedule.{Plan, op_at, kind_at, IsSend, IsReceive}
use Rattle.goal_graph.specs.Fault.{IsOp}
use Rattle.goal_graph.proofs.ForCallers.{kind_from_op, not_send_receive, send_is_op, receive_is_op}
use Rattle.std.proofs.lemmas.List.Elements.{All-contains}
use Rattle.goal_graph.specs.Order.{IsBefore}
use Rattle.goal_blocks.specs.Channels.{Channel, channel_in, channel, AreOfOneChannel, HasNoWildcard, HasNoDoubleChannel}
use Rattle.goal_blocks.specs.Faults.{IsLeast, op_key, AreDouble, IsUnpaired}
use Rattle.goal_certify.specs.declared.ends.End.{End}
use Rattle.goal_certify.specs.declared.ends.OpAtEnd.{OpAtEnd}
use Rattle.goal_certify.proofs.InOrder.{before_from_less, other_before}
use Rattle.goal_certify.specs.Ends.{end_in, end_of, other_end, AreEndsOf, IsFirstAt}

-- the channel of an end, and its ends
abbrev pub channel_at : End → Channel
channel_at e = record { source = e.source; target = e.target; tag = e.tag }

abbrev pub end_at : Channel → Bool → End
end_at c side = record { source = c.source; target = c.target; tag = c.tag; is_send = side }

-- the operation at an end: its channel and its kind
pub record StandsAt (plans : List Plan) (x : OpId) (e : End) : Type 0 where
  pub of_channel : channel plans x ≡ Some (channel_at e)
  pub send : e.is_send ≡ true → IsSend plans x
  pub receive : e.is_send ≡ false → IsReceive plans x

module _ (plans : List Plan) where
  pub stands_at : (x : OpId) (e : End) → end_of plans x ≡ Some e → StandsAt plans x e
  unfolding end_of channel
  stands_at x e at = go (kind_at plans x) refl at
    where
      go : (k : Option Kind) → kind_at plans x ≡ k → end_in x k ≡ Some e → StandsAt plans x e
      go (Some (Send bytes to tag)) p f =
          let same = same_Some (record { source = x.rank; target = to; tag = tag; is_send = true }) e f in
          record {
            of_channel = ap (channel_in x) p ∙ ap (λ (d : End). Some (channel_at d)) same;
            send = λ s. record { bytes = bytes; to = to; tag = tag; kind = p };
            receive = λ s. absurd (both_ways e.is_send s (sym (ap (λ (d : End). d.is_send) same)));
          }
      go (Some (Recv room (Some from) (Some tag))) p f =
          let same = same_Some (record { source = from; target = x.rank; tag = tag; is_send = false }) e f in
          record {
            of_channel = ap (channel_in x) p ∙ ap (λ (d : End). Some (channel_at d)) same;
            send = λ s. absurd (both_ways e.is_send (sym (ap (λ (d : End). d.is_send) same)) s);
            receive = λ s. record { room = room; from = Some from; tag = Some tag; kind = p };
          }
      go (Some (Recv room (Some from) None)) p f = absurd (none-some e f)
      go (Some (Recv room None tag)) p f = absurd (none-some e f)
      go (Some (Calc nanos)) p f = absurd (none-some e f)
      go None p f = absurd (none-some e f)

  pub send_stands : (m : OpId) (c : Channel) → IsSend plans m → channel plans m ≡ Some c → end_of plans m ≡ Some (end_at c true)
  unfolding end_of channel
  send_stands m c s e =
      let same = same_Some (record { source = m.rank; target = s.to; tag = s.tag }) c (sym (ap (channel_in m) s.kind) ∙ e) in
      ap (end_in m) s.kind ∙ ap (λ (d : Channel). Some (end_at d true)) same

  pub receive_stands : (x : OpId) (c : Channel) → IsReceive plans x → channel plans x ≡ Some c → end_of plans x ≡ Some (end_at c false)
  unfolding end_of channel
  receive_stands x c r e = go r.from r.tag r.kind
    where
      go : (from tag : Option ℕ) → kind_at plans x ≡ Some (Recv r.room from tag) → end_in x (kind_at plans x) ≡ Some (end_at c false)
      go None tag p = absurd (none-some c (sym (ap (channel_in x) p) ∙ e))
      go (Some from) None p = absurd (none-some c (sym (ap (channel_in x) p) ∙ e))
      go (Some from) (Some tag) p =
          let same = same_Some (record { source = from; target = x.rank; tag = tag }) c (sym (ap (channel_in x) p) ∙ e) in
          ap (end_in x) p ∙ ap (λ (d : Channel). Some (end_at d false)) same

  -- two operations at one end are double
  pub record ShareEnd (y x : OpId) : Type 0 where
    pub shared : End
    pub first_at : end_of plans y ≡ Some shared
    pub second_at : end_of plans x ≡ Some shared

  pub double_ends : (y x : OpId) → AreDouble plans y x → ShareEnd y x
  double_ends y x d = go d.alike
    where
      go : (IsSend plans y × IsSend plans x) ⊎ (IsReceive plans y × IsReceive plans x) → ShareEnd y x
      go (inl (s, t)) = record { shared = end_at d.shared true; first_at = send_stands y d.shared s d.of_first; second_at = send_stands x d.shared t d.of_second }
      go (inr (s, t)) = record { shared = end_at d.shared false; first_at = receive_stands y d.shared s d.of_first; second_at = receive_stands x d.shared t d.of_second }

  pub ends_double : (y x : OpId) (e : End) → IsBefore y x → end_of plans y ≡ Some e → end_of plans x ≡ Some e → AreDouble plans y x
  ends_double y x e before p q =
      let at_y = stands_at y e p in
      let at_x = stands_at x e q in
      record {
        in_order = before;
        alike = ⊎_elim (λ s. inl (at_y.send s, at_x.send s)) (λ s. inr (at_y.receive s, at_x.receive s)) (cases_Bool e.is_send);
        shared = channel_at e;
        of_first = at_y.of_channel;
        of_second = at_x.of_channel;
      }

  -- two operations at the two ends of one channel
  pub record AreAtEnds (m x : OpId) : Type 0 where
    pub end : End
    pub is_send : end.is_send ≡ true
    pub send_at : end_of plans m ≡ Some end
    pub receive_at : end_of plans x ≡ Some (other_end end)

  pub at_ends_if_of_one_channel : (m x : OpId) → AreOfOneChannel plans m x → AreAtEnds m x
  at_ends_if_of_one_channel m x one = record { end = end_at one.shared true; is_send = refl; send_at = send_stands m one.shared one.is_send one.of_send; receive_at = receive_stands x one.shared one.is_receive one.of_receive }

  pub of_one_channel_if_at_ends : (m x : OpId) (e : End) → e.is_send ≡ true → end_of plans m ≡ Some e → end_of plans x ≡ Some (other_end e) → AreOfOneChannel plans m x
  of_one_channel_if_at_ends m x e s p q =
      let at_m = stands_at m e p in
      let at_x = stands_at x (other_end e) q in
      record {
        is_send = at_m.send s;
        is_receive = at_x.receive (ap not s);
        shared = channel_at e;
        of_send = at_m.of_channel;
        of_receive = at_x.of_channel;
      }

  -- without wildcards, every receive has an end, as every send does
  pub receive_end : HasNoWildcard plans → (x : OpId) → IsReceive plans x → end_of plans x ≡ None → ⊥
  unfolding end_of
  receive_end known x r none = go r.from r.tag r.kind
    where
      go : (from tag : Option ℕ) → kind_at plans x ≡ Some (Recv r.room from tag) → ⊥
      go None tag p = both_ways false refl (known x r.room None tag p).0
      go (Some from) None p = both_ways false refl (known x r.room (Some from) None p).1
      go (Some from) (Some tag) p = none-some _ (sym none ∙ ap (end_in x) p)

  pub send_end : (m : OpId) → IsSend plans m → end_of plans m ≡ None → ⊥
  unfolding end_of
  send_end m s none = none-some _ (sym none ∙ ap (end_in m) s.kind)

  -- an operation with an end exists
  pub end_exists : (x : OpId) (e : End) → end_of plans x ≡ Some e → IsOp plans x
  end_exists x e at =
      let s = stands_at x e at in
      ⊎_elim (λ b. send_is_op plans x (s.send b)) (λ b. receive_is_op plans x (s.receive b)) (cases_Bool e.is_send)

  -- the end of an operation that is read
  pub end_read : (x : OpId) (o : Op) (r : Option End) → op_at plans x ≡ Some o → r ≡ end_in x (Some o.kind) → end_of plans x ≡ r
  unfolding end_of
  end_read x o r e f = ap (end_in x) (kind_from_op plans x o o.kind e refl) ∙ sym f

-- the other end of the other end
pub other_twice : (e : End) → other_end (other_end e) ≡ e
other_twice e = λ i. record e { is_send = twice e.is_send i }
  where
    twice : (b : Bool) → not (not b) ≡ b
    twice true = refl
    twice false = refl

-- an operation is not unpaired if another has the other end of its channel
pub paired_ends : (plans : List Plan) (x z : OpId) (e : End) → end_of plans x ≡ Some e → end_of plans z ≡ Some (other_end e) → IsUnpaired plans x → ⊥
paired_ends plans x z e at other un = go (cases_Bool e.is_send) un
  where
    s : StandsAt plans x e
    s = stands_at plans x e at

    go : (e.is_send ≡ true) ⊎ (e.is_send ≡ false) → IsUnpaired plans x → ⊥
    go (inl b) (inl un) = un.1 z (of_one_channel_if_at_ends plans x z e b at other)
    go (inl b) (inr un) = not_send_receive plans x (s.send b) un.0
    go (inr b) (inl un) = not_send_receive plans x un.0 (s.receive b)
    go (inr b) (inr un) = un.1 z (of_one_channel_if_at_ends plans z x (other_end e) (ap not b) other (at ∙ ap (λ (d : End). Some d) (sym (other_twice e))))

module _ (plans : List Plan) (entries : List OpAtEnd) (are : AreEndsOf plans entries) where
  pub first_stands : (x : OpId) (e : End) → IsFirstAt entries e x → end_of plans x ≡ Some e
  first_stands x e first =
      All-contains (λ (a : OpAtEnd). end_of plans a.op ≡ Some a.end) entries (record { end = e; op = x }) are.right first.listed

  -- an operation that shares the end of x is among the entries of that end
  double_shares_end : (y x : OpId) (e : End) → end_of plans x ≡ Some e → AreDouble plans y x → Contains entries (record { end = e; op = y })
  double_shares_end y x e at d =
      let s = double_ends plans y x d in
      are.listed y e (s.first_at ∙ sym s.second_at ∙ at)

  pub double_least : (first x : OpId) (e : End) → end_of plans x ≡ Some e → IsFirstAt entries e first → (first ≡ x → ⊥) → IsLeast op_key (λ (y : OpId). AreDouble plans y x) first
  double_least first x e at is differ = record {
    holds = ends_double plans first x e (other_before first x differ (λ b. is.none_before x b (are.listed x e at))) (first_stands first e is) at;
    none_less = λ y less d. is.none_before y (before_from_less y first less) (double_shares_end y x e at d);
  }

  pub double_none : (x : OpId) (e : End) → end_of plans x ≡ Some e → IsFirstAt entries e x → (y : OpId) → AreDouble plans y x → ⊥
  double_none x e at is y d = is.none_before y d.in_order (double_shares_end y x e at d)

  pub double_nowhere : (x : OpId) (e : End) → end_of plans x ≡ Some e → ((z : OpId) → Contains entries (record { end = e; op = z }) → ⊥) → (y : OpId) → AreDouble plans y x → ⊥
  double_nowhere x e at none y d = none x (are.listed x e at)

  pub double_no_end : (x : OpId) → end_of plans x ≡ None → (y : OpId) → AreDouble plans y x → ⊥
  double_no_end x none y d =
      let s = double_ends plans y x d in
      none-some s.shared (sym none ∙ s.second_at)

  -- the other operation of a channel is among the entries of the other end
  send_has_receive_end : (m x : OpId) (e : End) → end_of plans m ≡ Some e → AreOfOneChannel plans m x → (e.is_send ≡ true) × Contains entries (record { end = other_end e; op = x })
  send_has_receive_end m x e at one =
      let a = at_ends_if_of_one_channel plans m x one in
      let same : a.end ≡ e = same_Some a.end e (sym a.send_at ∙ at) in
      (sym (ap (λ (d : End). d.is_send) same) ∙ a.is_send, are.listed x (other_end e) (a.receive_at ∙ ap (λ (d : End). Some (other_end d)) same))

  receive_has_send_end : (m x : OpId) (e : End) → end_of plans x ≡ Some e → AreOfOneChannel plans m x → Contains entries (record { end = other_end e; op = m })
  receive_has_send_end m x e at one =
      let a = at_ends_if_of_one_channel plans m x one in
      let same : other_end a.end ≡ e = same_Some (other_end a.end) e (sym a.receive_at ∙ at) in
      are.listed m (other_end e) (a.send_at ∙ ap (λ (d : End). Some d) (sym (other_twice a.end) ∙ ap other_end same))

  pub unpaired_if_none_at_other_end : (x : OpId) (e : End) → end_of plans x ≡ Some e → ((z : OpId) → Contains entries (record { end = other_end e; op = z }) → ⊥) → IsUnpaired plans x
  unpaired_if_none_at_other_end x e at none =
      let s = stands_at plans x e at in
      ⊎_elim (λ b. inl (s.send b, λ y one. none y (send_has_receive_end x y e at one).1)) (λ b. inr (s.receive b, λ m one. none m (receive_has_send_end m x e at one))) (cases_Bool e.is_send)

  pub not_unpaired_if_first_at_other_end : (x z : OpId) (e : End) → end_of plans x ≡ Some e → IsFirstAt entries (other_end e) z → IsUnpaired plans x → ⊥
  not_unpaired_if_first_at_other_end x z e at first = paired_ends plans x z e at (first_stands z (other_end e) first)

  pub no_end_paired : HasNoWildcard plans → (x : OpId) → end_of plans x ≡ None → IsUnpaired plans x → ⊥
  no_end_paired known x none (inl un) = send_end plans x un.0 none
  no_end_paired known x none (inr un) = receive_end plans known x un.0 none

  pub receive_found : (m x : OpId) (e : End) → end_of plans m ≡ Some e → e.is_send ≡ true → IsFirstAt entries (other_end e) x → AreOfOneChannel plans m x
  receive_found m x e at b first = of_one_channel_if_at_ends plans m x e b at (first_stands x (other_end e) first)

  pub receive_nowhere : (m : OpId) (e : End) → end_of plans m ≡ Some e → ((z : OpId) → Contains entries (record { end = other_end e; op = z }) → ⊥) → (x : OpId) → AreOfOneChannel plans m x → ⊥
  receive_nowhere m e at none x one = none x (send_has_receive_end m x e at one).1

  pub receive_itself : (m : OpId) (e : End) → end_of plans m ≡ Some e → e.is_send ≡ false → (x : OpId) → AreOfOneChannel plans m x → ⊥
  receive_itself m e at b x one = both_ways e.is_send b (send_has_receive_end m x e at one).0

  pub receive_no_end : (m : OpId) → end_of plans m ≡ None → (x : OpId) → AreOfOneChannel plans m x → ⊥
  receive_no_end m none x one = send_end plans m one.is_send none

-- the receive of a channel is the only one
pub receive_of_channel_is_unique : (plans : List Plan) → HasNoDoubleChannel plans → (m x y : OpId) → AreOfOneChannel plans m x → AreOfOneChannel plans m y → y ≡ x
receive_of_channel_is_unique plans single m x y one other =
    single.receives y x one.shared other.is_receive one.is_receive (other.of_receive ∙ sym other.of_send ∙ one.of_send) one.of_receive
