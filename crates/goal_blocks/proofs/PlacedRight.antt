-- A schedule that is right is right on other ranks.
use Rattle.std.proofs.Common.{ℕ, ◌<◌, ◌≡◌, Bool, true, List, length, map, Option, Some, None, is_some, refl, sym, ap, ◌∙◌, subst}
use Rattle.std.specs.Option.{option_map}
use Rattle.goal_graph.specs.declared.action.OpId.{OpId}
use Rattle.goal_graph.specs.declared.plan.Op.{Op}
use Rattle.goal_graph.specs.declared.plan.Kind.{Kind}
use Rattle.goal_graph.specs.declared.plan.Kind.TheVariants.{Calc, Send, Recv}
use Rattle.goal_graph.specs.Schedule.{Plan, op_at, kind_at, IsSend, IsReceive}
use Rattle.goal_graph.specs.Action.{Act}
use Rattle.goal_graph.specs.Matching.{pairs, partner}
use Rattle.goal_graph.specs.Allowed.{has_ended}
use Rattle.goal_graph.specs.Fault.{IsOp}
use Rattle.goal_graph.specs.Interleaving.{IsCompleteInterleaving}
use Rattle.goal_blocks.specs.Channels.{Channel, channel_in, channel, AreOfOneChannel}
use Rattle.goal_blocks.specs.Walk.{AllEnd}
use Rattle.goal_blocks.specs.Right.{EndsInItsPairs, IsRightEverywhere}
use Rattle.goal_blocks.specs.Values.{Contribution, Value, Store, value}
use Rattle.goal_blocks.specs.Certification.{HoldsWanted}
use Rattle.goal_blocks.specs.Placed.{IsPermutation, IsPlaced, placed_op, placed_act, placed_kind, placed_of, relabelled, AsksNoMore}
use Rattle.goal_blocks.proofs.PlacedAlike.{kind_placed, mate_placed, ended_placed, all_into}
use Rattle.goal_blocks.proofs.PlacedValues.{held_placed}
use Rattle.goal_blocks.proofs.PlacedPlans.{inverse_permutation, placed_op_after_back, acts_back, placed_back}

module _ (ranks : ℕ) (to back : ℕ → ℕ) (perm : IsPermutation ranks to back) (plans other : List Plan) (is : IsPlaced to plans other) where
  abbrev pub kinds : (x : OpId) → kind_at other (placed_op to x) ≡ option_map (placed_kind to) (kind_at plans x)
  kinds x = kind_placed ranks to back perm plans other is.ops x

  pub send_placed : (m : OpId) → IsSend plans m → IsSend other (placed_op to m)
  send_placed m s = record {
    bytes = s.bytes;
    to = to s.to;
    tag = s.tag;
    kind = kinds m ∙ ap (option_map (placed_kind to)) s.kind;
  }

  pub receive_placed : (x : OpId) → IsReceive plans x → IsReceive other (placed_op to x)
  receive_placed x r = record {
    room = r.room;
    from = option_map to r.from;
    tag = r.tag;
    kind = kinds x ∙ ap (option_map (placed_kind to)) r.kind;
  }

  abbrev pub placed_channel : Channel → Channel
  placed_channel c = record { source = to c.source; target = to c.target; tag = c.tag }

  pub channel_placed : (x : OpId) → channel other (placed_op to x) ≡ option_map placed_channel (channel plans x)
  unfolding channel
  channel_placed x = ap (channel_in (placed_op to x)) (kinds x) ∙ go (kind_at plans x)
    where
      go : (k : Option Kind) → channel_in (placed_op to x) (option_map (placed_kind to) k) ≡ option_map placed_channel (channel_in x k)
      go None = refl
      go (Some (Calc nanos)) = refl
      go (Some (Send bytes target tag)) = refl
      go (Some (Recv room None tag)) = refl
      go (Some (Recv room (Some source) None)) = refl
      go (Some (Recv room (Some source) (Some tag))) = refl

  pub one_channel_placed : (m x : OpId) → AreOfOneChannel plans m x → AreOfOneChannel other (placed_op to m) (placed_op to x)
  one_channel_placed m x one = record {
    is_send = send_placed m one.is_send;
    is_receive = receive_placed x one.is_receive;
    shared = placed_channel one.shared;
    of_send = channel_placed m ∙ ap (option_map placed_channel) one.of_send;
    of_receive = channel_placed x ∙ ap (option_map placed_channel) one.of_receive;
  }

  pub op_placed : (x : OpId) → IsOp plans x → IsOp other (placed_op to x)
  op_placed x there = ap is_some (is.ops x) ∙ (go (op_at plans x) ∙ there)
    where
      go : (o : Option Op) → is_some (option_map (placed_of to) o) ≡ is_some o
      go None = refl
      go (Some p) = refl

module _ (ranks : ℕ) (to back : ℕ → ℕ) (perm : IsPermutation ranks to back) (plans other : List Plan) (is : IsPlaced to plans other) (eager : OpId → Bool) (h : List Act) where
  abbrev eager_on_original_ranks : OpId → Bool
  eager_on_original_ranks x = eager (placed_op to x)

  abbrev perm_back : IsPermutation ranks back to
  perm_back = inverse_permutation ranks to back perm

  abbrev original_is_placed_back : IsPlaced back other plans
  original_is_placed_back = placed_back ranks to back perm plans other is

  -- the same actions on the original ranks
  abbrev pub before : List Act
  before = map (placed_act back) h

  pub complete_on_original_ranks : IsCompleteInterleaving other eager h → IsCompleteInterleaving plans eager_on_original_ranks before
  complete_on_original_ranks done =
      all_into ranks to back perm plans other is.ops eager is.needs before (subst (λ (l : List Act). IsCompleteInterleaving other eager l) (sym (acts_back ranks to back perm h)) done)

  all_end_placed : AllEnd plans eager_on_original_ranks before → AllEnd other eager h
  all_end_placed all y there =
      subst (λ (x : OpId). has_ended other eager x h ≡ true) (placed_op_after_back ranks to back perm y) (subst (λ (l : List Act). has_ended other eager (placed_op to (placed_op back y)) l ≡ true) (acts_back ranks to back perm h) (ended_placed ranks to back perm plans other is.ops eager (placed_op back y) before ∙ all (placed_op back y) (op_placed ranks back to perm_back other plans original_is_placed_back y there)))

  pub ends_placed : EndsInItsPairs plans eager_on_original_ranks before → EndsInItsPairs other eager h
  ends_placed ends = record { all_end = all_end_placed ends.all_end; pairs = λ m y. (joined m y, paired m y) }
    where
      joined : (m y : OpId) → (partner (pairs other h) m ≡ Some y) × IsSend other m → AreOfOneChannel other m y
      joined m y p =
          let mate : partner (pairs plans before) (placed_op back m) ≡ Some (placed_op back y) = mate_placed ranks back to perm_back other plans original_is_placed_back.ops h m ∙ ap (option_map (placed_op back)) p.0 in
          let one = (ends.pairs (placed_op back m) (placed_op back y)).0 (mate, send_placed ranks back to perm_back other plans original_is_placed_back m p.1) in
          subst (λ (z : OpId). AreOfOneChannel other m z) (placed_op_after_back ranks to back perm y) (subst (λ (z : OpId). AreOfOneChannel other z (placed_op to (placed_op back y))) (placed_op_after_back ranks to back perm m) (one_channel_placed ranks to back perm plans other is (placed_op back m) (placed_op back y) one))

      paired : (m y : OpId) → AreOfOneChannel other m y → (partner (pairs other h) m ≡ Some y) × IsSend other m
      paired m y one =
          let p = (ends.pairs (placed_op back m) (placed_op back y)).1 (one_channel_placed ranks back to perm_back other plans original_is_placed_back m y one) in
          let mate : partner (pairs other (map (placed_act to) before)) (placed_op to (placed_op back m)) ≡ Some (placed_op to (placed_op back y)) = mate_placed ranks to back perm plans other is.ops before (placed_op back m) ∙ ap (option_map (placed_op to)) p.0 in
          ((λ i. partner (pairs other (sym (acts_back ranks to back perm h) i)) (sym (placed_op_after_back ranks to back perm m) i)) ∙ mate ∙ ap (λ (z : OpId). Some z) (placed_op_after_back ranks to back perm y), one.is_send)

  module _ (label : Contribution → Contribution) (first start : Store) (starts : (rank slot : ℕ) → start (to rank) slot ≡ relabelled label (first rank slot)) where
    pub value_placed : (rank slot : ℕ) → value other eager start h (to rank) slot ≡ relabelled label (value plans eager_on_original_ranks first before rank slot)
    value_placed rank slot =
        ap (λ (l : List Act). value other eager start l (to rank) slot) (sym (acts_back ranks to back perm h)) ∙ (held_placed label ranks to back perm plans other is eager first start starts before).stores rank slot

    pub wanted_placed : (wanted wish : ℕ → ℕ → Value → Bool) → AsksNoMore to label (length plans) wanted wish → HoldsWanted plans wanted (value plans eager_on_original_ranks first before) → ranks ≡ length plans → HoldsWanted other wish (value other eager start h)
    wanted_placed wanted wish asks holds size rank slot low =
        let inside : back rank < length plans = subst (λ (n : ℕ). back rank < n) size (perm_back.within rank (subst (λ (n : ℕ). rank < n) (is.ranks ∙ sym size) low)) in
        let right = asks (back rank) slot (value plans eager_on_original_ranks first before (back rank) slot) inside (holds (back rank) slot inside) in
        let there = subst (λ (v : Value). wish (to (back rank)) slot v ≡ true) (sym (value_placed (back rank) slot)) right in
        subst (λ (r : ℕ). wish r slot (value other eager start h r slot) ≡ true) (perm.to_back rank) there

pub placed_right : (to back : ℕ → ℕ) (plans other : List Plan) (label : Contribution → Contribution) (first start : Store) (wanted wish : ℕ → ℕ → Value → Bool)
    → IsPermutation (length plans) to back
    → IsPlaced to plans other
    → ((rank slot : ℕ) → start (to rank) slot ≡ relabelled label (first rank slot))
    → AsksNoMore to label (length plans) wanted wish
    → IsRightEverywhere plans first wanted
    → IsRightEverywhere other start wish
placed_right to back plans other label first start wanted wish perm is starts asks right eager h done =
    let there = right (eager_on_original_ranks (length plans) to back perm plans other is eager h) (before (length plans) to back perm plans other is eager h) (complete_on_original_ranks (length plans) to back perm plans other is eager h done) in
    record {
      ends = ends_placed (length plans) to back perm plans other is eager h there.ends;
      wanted_held = wanted_placed (length plans) to back perm plans other is eager h label first start starts wanted wish asks there.wanted_held refl;
    }
