use Rattle.std.proofs.Common.{◌<◌, length, inl, inr, arith, sym, ◌∙◌, eq-eqb}
use Rattle.std.proofs.lemmas.Bool.{both_ways, cases_lt}
use Rattle.std.proofs.lemmas.Option.{get_or_from_slice_get}
use Rattle.sim_match.specs.declared.capacities.Side.TheVariants.{Sends}
use Rattle.sim_match.proofs.Ops.{arrival_suits}
use Rattle.sim_match.proofs.Numbering.{own_list_is_codable}
use Rattle.sim_match.proofs.queues.Queues.list_of_send.Goals as goal
use Rattle.goal_graph.proofs.ForCallers.{op_of_kind}

pub index-requires : goal.index-requires
index-requires c = op_of_kind _ c.args.send _ c.requires.send.kind

pub returns : goal.returns
returns c = λ kept.
    let ok = c.args.self.now.queues.ok.0 in
    let some : 0 < length kept.keys = elim (cases_lt 0 (length kept.keys)) [
      | inl less ↦ less
      | inr none ↦ absurd (both_ways _ (sym c.if-is_empty.ensures) (eq-eqb _ 0 (omega (arith, none, ok, kept.queues.one_each))))
    ] in
    let at = kept.to_come.each some Sends c.args.send c.index.result c.index.ensures.index (arrival_suits _ c.args.send c.requires.send) c.requires.fresh in
    c.decoded.ensures _ (c.index-2.ensures ∙ get_or_from_slice_get _ c.index.result _ _ at) (own_list_is_codable _ kept.keys c.args.send kept.few)
