use Rattle.std.proofs.Common.{Some, ℕ, arith, sym, ap, ◌∙◌}
use Rattle.std.proofs.lemmas.Option.{get_or_from_slice_get, slice_get_within}
use Rattle.sim_match.specs.ListNumbers.{coded}
use Rattle.sim_match.specs.declared.capacities.Side.TheVariants.{Receives}
use Rattle.sim_match.proofs.Ops.{post_suits}
use Rattle.sim_match.proofs.Numbering.{own_of_receive}
use Rattle.sim_match.proofs.queues.Queues.post.Goals as goal
use Rattle.goal_graph.proofs.ForCallers.{op_of_kind}

pub index-requires : goal.index-requires
index-requires g c = op_of_kind _ c.args.recv _ c.requires.receive.kind

pub index-requires-2 : goal.index-requires-2
index-requires-2 g c =
    let kept = c.requires.kept in
    let its = kept.listed c.args.recv c.requires.receive in
    let at = kept.to_come.each (omega (arith, its.within)) Receives c.args.recv c.index.result c.index.ensures.index (post_suits _ c.args.recv c.requires.receive) c.requires.fresh in
    let within = slice_get_within _ c.index.result _ at in
    omega (arith, within, c.args.self.now.next.ok.0)

pub come-requires-clause-own : goal.come-requires-clause-own
come-requires-clause-own g c = λ kept.
    let its = kept.listed c.args.recv c.requires.receive in
    let at = kept.to_come.each (omega (arith, its.within)) Receives c.args.recv c.index.result c.index.ensures.index (post_suits _ c.args.recv c.requires.receive) c.requires.fresh in
    let own = own_of_receive _ kept.keys c.args.recv c.requires.receive ∙ its.is in
    let read = c.index-2.ensures ∙ get_or_from_slice_get _ c.index.result _ _ at ∙ ap coded own in
    own ∙ ap (λ (n : ℕ). Some n) (sym read)
