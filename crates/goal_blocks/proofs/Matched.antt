-- A matched schedule ends in its pairs, in each complete interleaving and for each choice of eager sends.
use Rattle.std.proofs.Common.{◌≡◌, Bool, true, false, List, Option, Some, None, refl, sym, ap, ◌∙◌, is_some}
use Rattle.std.specs.Option.{option_map}
use Rattle.std.proofs.lemmas.Bool.{both_ways}
use Rattle.goal_graph.specs.declared.action.OpId.{OpId}
use Rattle.goal_graph.specs.declared.plan.Kind.{Kind}
use Rattle.goal_graph.specs.declared.plan.Op.{Op}
use Rattle.goal_graph.specs.Schedule.{Plan, op_at, kind_at}
use Rattle.goal_graph.specs.Action.{Act}
use Rattle.goal_graph.specs.Interleaving.{IsCompleteInterleaving}
use Rattle.goal_graph.specs.Fault.{IsOp}
use Rattle.goal_graph.specs.Laws.{HaveMet, IsApart}
use Rattle.goal_graph.proofs.ForCallers.{started_send, started_receive, ended_started, begun_send_arrived, partners_iff_met, completes_alike, op_of_kind}
use Rattle.goal_blocks.specs.Channels.{AreOfOneChannel}
use Rattle.goal_blocks.specs.Walk.{no_send, AllEnd}
use Rattle.goal_blocks.specs.Matched.{IsMatched}
use Rattle.goal_blocks.specs.Right.{EndsInItsPairs}
use Rattle.goal_blocks.proofs.Channels.{fits_channel, channel_fits, channels_apart}

module _ (plans : List Plan) where
  -- an operation has a kind
  pub op_has_kind : (x : OpId) → IsOp plans x → (k : Kind) × (kind_at plans x ≡ Some k)
  unfolding kind_at
  op_has_kind x is_op = go (op_at plans x) refl is_op
    where
      go : (o : Option Op) → op_at plans x ≡ o → is_some o ≡ true → (k : Kind) × (option_map (λ (o : Op). o.kind) (op_at plans x) ≡ Some k)
      go None e s = absurd (both_ways false refl s)
      go (Some o) e s = (o.kind, ap (option_map (λ (o : Op). o.kind)) e)

  module _ (eager : OpId → Bool) (h : List Act) (matched : IsMatched plans) (done : IsCompleteInterleaving plans eager h) where
    apart : IsApart plans
    apart = channels_apart plans matched.no_wildcard matched.no_double_channel

    ends : AllEnd plans eager h
    ends x is_op =
        let walk = matched.no_stall.is_walk.complete.each in
        (completes_alike plans apart eager no_send (λ m e. absurd (both_ways false refl e)) h done matched.no_stall.walk x walk).1 (matched.no_stall.all_end x is_op)

    -- the send and the receive of one channel have met
    channel_met : (m x : OpId) → AreOfOneChannel plans m x → HaveMet plans h m x
    channel_met m x one =
        let begun = sym (started_send plans h m one.is_send) ∙ ended_started plans eager h m done.each (ends m (op_of_kind plans m _ one.is_send.kind)) in
        record {
          arrived = begun_send_arrived plans eager h done m one.is_send begun;
          posted = sym (started_receive plans h x one.is_receive) ∙ ended_started plans eager h x done.each (ends x (op_of_kind plans x _ one.is_receive.kind));
          fit = channel_fits plans x m one;
        }

    pub ends_in_its_pairs : EndsInItsPairs plans eager h
    ends_in_its_pairs = record {
      all_end = ends;
      pairs = λ m x. let iff = partners_iff_met plans apart eager h m x done.each in (λ p. fits_channel plans x m matched.no_wildcard (iff.0 p).fit, λ one. iff.1 (channel_met m x one));
    }
