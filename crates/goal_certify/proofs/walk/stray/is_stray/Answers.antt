-- A slot that is not in the segment's own block is before it or after it.
use Rattle.std.proofs.Common.{◌-◌, ◌+◌, ◌*◌, ◌<◌, ◌≤◌, ◌⊎◌, inl, inr, sym, ◌∙◌, arith}
use Rattle.std.proofs.lemmas.Bool.{ltb-false}
use Rattle.goal_values.specs.Kept.{values}
use Rattle.goal_certify.proofs.Apart.{nonempty_iff_not_keeps_out}
use Rattle.goal_certify.proofs.walk.stray.is_stray.Goals.{then-slot-from, else-slot-from}
use Rattle.goal_certify.proofs.walk.stray.is_stray.Goals as goal

outside : (c : goal.After-size_at) → (c.args.slot < c.args.segment.block * c.args.segment.width) ⊎ (c.args.segment.block * c.args.segment.width + c.args.segment.width ≤ c.args.slot)
outside c = elim c.if-slot-from.branch [
  | then-slot-from w ↦ inr (let past = ltb-false (c.args.slot - c.args.segment.block * c.args.segment.width) c.args.segment.width (sym w.is_own-is ∙ c.if-not-is_own.true) in omega (arith, past, w.if-slot-from))
  | else-slot-from w ↦ inl (omega (arith, w.if-slot-from))
]

pub returns-then-not-is_own : goal.returns-then-not-is_own
returns-then-not-is_own c =
    nonempty_iff_not_keeps_out c.args.segment.width c.args.count c.args.segment.block c.args.rank c.args.slot c.size_at.result (values c.args.store.now.kept c.args.rank c.args.slot) c.size_at.ensures.size c.requires.inside (outside c)
