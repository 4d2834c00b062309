use Rattle.std.proofs.Common.{◌≡◌, List, Option, None, false, true, inl, inr, length, ap, ◌∙◌}
use Rattle.std.proofs.Math.ListN.{length-set}
use Rattle.std.proofs.lemmas.Bool.{both_ways}
use Rattle.std.proofs.lemmas.List.{get_or-set_same}
use Rattle.goal_graph.specs.declared.action.Timed.{Timed}
use Rattle.sim_queue.specs.Map.{key_at}
use Rattle.sim_queue.proofs.ForCallers.{key_within}
use Rattle.sim_stations.specs.Stations.{holds_cpu, pair_of}
use Rattle.sim_events.proofs.Held.{both_times_known, later_by_times, held_by_times}
use Rattle.sim_events.proofs.follow.settle.Goals as goal

pub returns-in-Arrive-clause-settled : goal.returns-in-Arrive-clause-settled
returns-in-Arrive-clause-settled g c =
    let at_once : holds_cpu c.args.action.class ≡ false = elim c.in-Arrive.is [ inl arrive ↦ ap holds_cpu arrive | inr post ↦ ap holds_cpu post ] in
    let keys = c.args.queue.now.keys in
    record {
      each = ap length c.take.ensures.keys ∙ length-set keys c.args.slot None;
      gone = ap (λ (ks : List (Option Timed)). key_at ks c.args.slot) c.take.ensures.keys ∙ get_or-set_same keys c.args.slot None None (key_within keys c.args.slot c.args.action c.requires.key);
      stations = c.take.ensures.stations;
      pairs = c.take.ensures.pairs;
      turned = c.take.ensures.turned;
      raised = λ waits. absurd (both_ways _ at_once waits);
      free = λ waits. absurd (both_ways _ at_once waits);
      same = λ no. c.take.ensures.keys;
      same_free = λ no. c.take.ensures.free;
      returned = λ waits. absurd (both_ways _ at_once waits);
    }

pub act-requires : goal.act-requires
act-requires g c =
    let waits : holds_cpu c.args.action.class ≡ true = elim c.in-Begin.is [ inl is ↦ ap holds_cpu is | inr other ↦ elim other [ inl is ↦ ap holds_cpu is | inr is ↦ ap holds_cpu is ] ] in
    let queue = c.args.queue.now in
    let times = c.free_times.ensures queue.stations queue.pairs c.requires.stationed c.args.slot c.args.action.op c.requires.slot in
    record {
      known = both_times_known _ (pair_of queue c.args.slot) _ _ times;
      found = c.requires.found;
      later = later_by_times _ (pair_of queue c.args.slot) _ _ times queue.free (c.requires.later waits);
    }

pub returns-in-Begin-clause-settled : goal.returns-in-Begin-clause-settled
returns-in-Begin-clause-settled g c =
    let waits : holds_cpu c.args.action.class ≡ true = elim c.in-Begin.is [ inl is ↦ ap holds_cpu is | inr other ↦ elim other [ inl is ↦ ap holds_cpu is | inr is ↦ ap holds_cpu is ] ] in
    let queue = c.args.queue.now in
    let times = c.free_times.ensures queue.stations queue.pairs c.requires.stationed c.args.slot c.args.action.op c.requires.slot in
    record {
      each = c.act.ensures.each;
      gone = c.act.ensures.gone;
      stations = c.act.ensures.stations;
      pairs = c.act.ensures.pairs;
      turned = c.act.ensures.turned;
      raised = λ w. c.act.ensures.raised;
      free = λ w. c.act.ensures.free ∙ held_by_times _ (pair_of queue c.args.slot) _ _ times queue.free;
      same = λ no. absurd (both_ways _ no waits);
      same_free = λ no. absurd (both_ways _ no waits);
      returned = λ w. c.act.ensures.returned;
    }
