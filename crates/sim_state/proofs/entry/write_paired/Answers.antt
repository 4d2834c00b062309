use Rattle.std.proofs.Common.{◌∙◌, List, Some, arith, get_or, slice_set}
use Rattle.sim_state.specs.declared.entry.OpState.{OpState}
use Rattle.sim_state.specs.declared.entry.Times.{Times}
use Rattle.sim_state.specs.Links.{Linked}
use Rattle.sim_state.proofs.EntryTable.{entry_changed}
use Rattle.sim_state.proofs.Places.{rank_exists}
use Rattle.sim_state.proofs.entry.write_paired.Goals as goal

pub paired-kept-requires : goal.paired-kept-requires
paired-kept-requires c =
    omega (arith, rank_exists c.args.sched.now c.args.with c.requires.other, c.plans-plans.ensures.counts.ranks)

pub returns : goal.returns
returns c f table =
    (λ i. set_at (c.with_awaited-kept.ensures i) (c.paired-kept.ensures i))
    ∙ entry_changed c.args.sched.now c.index.result c.args.id c.args.entries.now f (λ (e : OpState). record e { times = record e.times { awaited = Some c.args.at }; link = record { unmet = 0; partner = Some c.args.with } }) c.index-entries-index.result table c.index.ensures.index
  where
    set_at : Times → Linked → List OpState
    set_at t l =
        let e = get_or c.args.entries.now c.index.result c.index-entries-index.result in
        slice_set c.args.entries.now c.index.result (record e { times = t; link = l })
