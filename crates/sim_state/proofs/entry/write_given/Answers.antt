use Rattle.std.proofs.Common.{◌∙◌, ◌-◌, List, ap, arith, get_or, slice_set}
use Rattle.goal_graph.specs.Schedule.{operations}
use Rattle.goal_graph.proofs.ForCallers.{get_or_mapped}
use Rattle.sim_state.specs.declared.entry.OpState.{OpState}
use Rattle.sim_state.specs.declared.entry.Times.{Times}
use Rattle.sim_state.specs.Given.{given_times}
use Rattle.sim_state.specs.Links.{Linked}
use Rattle.sim_state.proofs.EntryTable.{entry_changed}
use Rattle.sim_state.proofs.entry.write_given.Goals as goal

pub with_one_met-kept-requires : goal.with_one_met-kept-requires
with_one_met-kept-requires c =
    let waits = c.requires.waits in
    let is = ap (λ (es : List OpState). (get_or es c.index.result c.index-entries-index.result).link.unmet) waits.1 ∙ ap (λ (e : OpState). e.link.unmet) (get_or_mapped waits.0 (operations c.args.sched.now) c.index.result c.args.id c.index-entries-index.result c.index.ensures.index) in
    omega (arith, is, waits.2)

pub returns : goal.returns
returns c f table =
    (λ i. set_at (c.with_given-kept.ensures i) (c.with_one_met-kept.ensures i))
    ∙ entry_changed c.args.sched.now c.index.result c.args.id c.args.entries.now f (λ (e : OpState). record e { times = given_times c.args.moment e.times; link = record e.link { unmet = e.link.unmet - 1 } }) c.index-entries-index.result table c.index.ensures.index
  where
    set_at : Times → Linked → List OpState
    set_at t l =
        let e = get_or c.args.entries.now c.index.result c.index-entries-index.result in
        slice_set c.args.entries.now c.index.result (record e { times = t; link = l })
