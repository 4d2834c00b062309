use Rattle.sim_state.specs.declared.entry.OpState.{OpState}
use Rattle.sim_state.proofs.EntryTable.{entry_changed}
use Rattle.sim_state.proofs.entry.write_times.Goals as goal

pub returns : goal.returns
returns c f table =
    entry_changed c.args.sched.now c.index.result c.args.id c.args.entries.now f (λ (e : OpState). record e { times = c.args.times }) _ table c.index.ensures.index
