use Rattle.std.proofs.Common.{◌∙◌, map, ap, sym, Option}
use Rattle.goal_graph.specs.declared.action.OpId.{OpId}
use Rattle.goal_graph.specs.Schedule.{operations}
use Rattle.goal_graph.proofs.ForCallers.{length-put, put_in_table}
use Rattle.goal_certify.specs.WalkSoFar.{with_entry, with_partner}
use Rattle.goal_certify.proofs.walk.entry.write_met.Goals as goal

pub pair-requires-clause-each : goal.pair-requires-clause-each
pair-requires-clause-each c =
    length-put (operations c.args.sched.now) c.args.id c.args.entry c.args.entries.now ∙ c.requires.each

pub returns-in_default : goal.returns-in_default
returns-in_default c f table =
    put_in_table (operations c.args.sched.now) c.args.id c.args.entry f c.args.entries.now table ∙ ap (λ (p : Option OpId). map (with_partner c.args.id p (with_entry c.args.id c.args.entry f)) (operations c.args.sched.now)) (sym c.in_default.is)

pub returns : goal.returns
returns c f table =
    let written = put_in_table (operations c.args.sched.now) c.args.id c.args.entry f c.args.entries.now table in
    c.pair.ensures (with_entry c.args.id c.args.entry f) written ∙ ap (λ (p : Option OpId). map (with_partner c.args.id p (with_entry c.args.id c.args.entry f)) (operations c.args.sched.now)) (sym c.in-Some.is)
