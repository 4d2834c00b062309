use Rattle.std.proofs.Common.{refl, sym, arith}
use Rattle.goal_graph.specs.Entries.{IsEntryOf}
use Rattle.goal_graph.proofs.Written.{put_as_set, entry_in_table, slice_get_at}
use Rattle.goal_graph.proofs.entry.entry_of_mut.Goals as goal

pub returns : goal.returns
returns g c =
    let here : IsEntryOf c.args.sched.now c.args.entries.now c.args.id c.index-entries-place.result = record { slot = c.index-place.result; is_slot = c.index-place.ensures.index; is_entry = slice_get_at c.args.entries.now c.index-place.result c.index-entries-place.result (omega (arith, c.index-place.ensures.below, c.requires.each)) c.index-entries-place.is } in (
      (refl, λ w. sym (put_as_set c.args.sched.now c.index-place.result c.args.id w c.args.entries.now c.index-place.ensures.index)),
      record { writes_back = tt; place = here; entry = λ f table. entry_in_table c.args.sched.now c.args.entries.now c.args.id _ f here table },
    )
