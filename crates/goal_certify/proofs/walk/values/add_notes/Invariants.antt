use Rattle.goal_blocks.specs.Slots.{adds}
use Rattle.goal_values.specs.Kept.{values}
use Rattle.goal_values.specs.Sums.{HasGrown}
use Rattle.goal_certify.proofs.SlotFacts.{NotesAdded}
use Rattle.goal_certify.proofs.walk.values.add_notes.Given as goal

-- the notes so far are added, and after each of them few enough contributions were held
abbrev pub invariant-loop-adding : goal.invariant-loop-adding
invariant-loop-adding l = record {
  added : NotesAdded l.calc.rank (adds l.table l.calc) l.others (values l.fn.store.kept) (values l.store.kept) l.fn.store.kept.ranks l.store.kept.ranks l.adding-index;
  grown : HasGrown l.fn.store.sums l.store.sums;
}
