use Rattle.std.proofs.Common.{refl, ◌∙◌}
use Rattle.std.proofs.lemmas.Option.{slice_get_read}
use Rattle.sim_classes.proofs.RowLemmas.{entry_is_found}
use Rattle.sim_classes.proofs.pair_classes.PairClasses.class_at.Goals as goal

pub returns-in-Some : goal.returns-in-Some
returns-in-Some c =
    let same = c.deref.ensures.value ∙ c.self.view_is in
    let at = slice_get_read c.deref.result.now _ c.args.place c.in-Some.entry.now refl c.in-Some.ensures.lookup.3.0 c.in-Some.ensures.lookup.1 in
    entry_is_found c.args.self.now (rw c.self.view_is at c.self.invariant.sorted) c.args.key c.args.place c.in-Some.entry.now (rw same at at) c.if-entry-key.true
