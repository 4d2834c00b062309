use Rattle.std.proofs.Common.{ℕ, ◌+◌, false, Option, take, subst, sym, arith}
use Rattle.std.proofs.lemmas.List.Elements.{Contains-get_or}
use Rattle.goal_certify.specs.Races.{IsLeastSlot}
use Rattle.goal_certify.proofs.LeastSlot.{least_none, least_more, least_all}
use Rattle.goal_certify.proofs.races.search.least_slot.Goals as goal

pub least_with-least-requires-clause-touchers : goal.least_with-least-requires-clause-touchers
least_with-least-requires-clause-touchers c =
    c.requires.touchers.room _ (Contains-get_or c.args.touches.now c.loop-touch.touch-index (record { op = 0; slot = 0; writes = false }) (omega arith))

pub least_with-least-requires-clause-writers : goal.least_with-least-requires-clause-writers
least_with-least-requires-clause-writers c =
    c.requires.writers.room _ (Contains-get_or c.args.touches.now c.loop-touch.touch-index (record { op = 0; slot = 0; writes = false }) (omega arith))

pub loop-touch-init : goal.loop-touch-init
loop-touch-init c = least_none c.args.touchers.now c.args.writers.now c.args.touches.now c.args.pair

pub loop-touch-preserved : goal.loop-touch-preserved
loop-touch-preserved c =
    let i = c.loop-touch.touch-index in
    let P : Option ℕ → Type 0 = λ least. IsLeastSlot c.args.touchers.now c.args.writers.now (take (i + 1) c.args.touches.now) c.args.pair least in
    subst P (sym c.least_with-least.ensures) (least_more c.args.touchers.now c.args.writers.now c.args.touches.now c.args.pair i (record { op = 0; slot = 0; writes = false }) (omega arith) c.loop-touch.least c.loop-touch.invariant)

pub returns : goal.returns
returns c = least_all c.args.touchers.now c.args.writers.now c.args.touches.now c.args.pair c.loop-touch.touch-index c.loop-touch.least (omega arith) c.loop-touch.invariant
