use Rattle.std.proofs.Common.{◌∙◌, map, Some, ap}
use Rattle.goal_graph.specs.Schedule.{operations}
use Rattle.goal_graph.proofs.ForCallers.{length-put, put_in_table}
use Rattle.goal_certify.specs.declared.walk.entry.OpProgress.{OpProgress}
use Rattle.goal_certify.specs.WalkSoFar.{with_entry, with_pairing}
use Rattle.goal_certify.proofs.walk.entry.pair.Goals as goal

pub entry_of_mut-requires-2-clause-each : goal.entry_of_mut-requires-2-clause-each
entry_of_mut-requires-2-clause-each c =
    length-put (operations c.args.sched.now) c.args.id _ c.args.entries.now ∙ c.requires.each

pub returns : goal.returns
returns c f table =
    let ops = operations c.args.sched.now in
    let first = put_in_table ops c.args.id _ f c.args.entries.now table ∙ ap (λ (e : OpProgress). map (with_entry c.args.id (record e { paired = Some c.args.with }) f) ops) (c.entry_of_mut.ensures.entry f table) in
    put_in_table ops c.args.with _ (with_pairing c.args.id c.args.with f) _ first
    ∙ ap (λ (e : OpProgress). map (with_entry c.args.with (record e { paired = Some c.args.id }) (with_pairing c.args.id c.args.with f)) ops) (c.entry_of_mut-2.ensures.entry (with_pairing c.args.id c.args.with f) first)
