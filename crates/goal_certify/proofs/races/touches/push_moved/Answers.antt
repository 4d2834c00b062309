use Rattle.std.proofs.Common.{ℕ, ◌≡◌, ◌+◌, ◌-◌, ◌++◌, ⊎_elim, inl, inr, refl, ap, ◌∙◌, arith}
use Rattle.goal_blocks.specs.Slots.{slots_from}
use Rattle.goal_certify.specs.Touches.{moved}
use Rattle.goal_certify.proofs.Touches.{moved_none, moved_more}
use Rattle.goal_certify.proofs.races.touches.push_moved.Goals as goal

pub loop-slot-init : goal.loop-slot-init
loop-slot-init c = record { touches = moved_none c.args.op c.args.writes c.args.lo c.args.touches.now.items; within = inr refl }

pub loop-slot-preserved : goal.loop-slot-preserved
loop-slot-preserved c = record {
  touches = c.in_ok-push.ensures.items ∙ moved_more c.args.touches.now.items c.loop-slot.touches.items c.args.op c.args.writes c.args.lo c.loop-slot.slot (omega arith) c.loop-slot.invariant.touches;
  within = inl (omega arith);
}

pub returns : goal.returns
returns c =
    let i = c.loop-slot.invariant in
    let same : c.loop-slot.slot - c.args.lo ≡ c.args.hi + 1 - c.args.lo = ⊎_elim (λ a. omega arith) (λ b. omega arith) i.within in
    i.touches ∙ ap (λ (n : ℕ). c.args.touches.now.items ++ moved c.args.op c.args.writes (slots_from c.args.lo n)) same
