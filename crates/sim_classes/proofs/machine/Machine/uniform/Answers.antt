use Rattle.std.proofs.Common.{◌<◌, length, sym, ap, ◌∙◌, arith}
use Rattle.sim_params.specs.Numbers.{numbers}
use Rattle.sim_classes.proofs.Alike.{alike_same, not_alike, numbers_at, negation_true, negation_false, next_alike, mapped_length}
use Rattle.sim_classes.proofs.machine.Machine.uniform.Goals as goal

pub returns-then-ne-clause-differ : goal.returns-then-ne-clause-differ
returns-then-ne-clause-differ c =
    let items = c.args.self.now.classes.items in
    let some : 0 < length items = omega (arith, mapped_length items, c.args.self.now.whole.inside) in
    let low : c.loop-params.params-index < length items = rw c.deref-params-items.ensures.value at c.loop-params-test.true in
    let here = rw c.deref-params-items.ensures.value at c.params-item.is in
    let other = not_alike (numbers c.params-item.result) (numbers c.index.result.now) (negation_true _ (sym c.ne.ensures ∙ c.if-ne.true)) in (
      c.loop-params.params-index,
      0,
      omega (arith, mapped_length items, low),
      omega (arith, mapped_length items, some),
      λ e. other (ap numbers here ∙ sym (numbers_at items c.loop-params.params-index c.params-item.result low) ∙ e ∙ numbers_at items 0 c.index.result.now some ∙ ap numbers (sym c.index.ensures)),
    )

pub loop-params-preserved : goal.loop-params-preserved
loop-params-preserved c =
    let items = c.args.self.now.classes.items in
    let low : c.loop-params.params-index < length items = rw c.deref-params-items.ensures.value at c.loop-params-test.true in
    let here = rw c.deref-params-items.ensures.value at c.params-item.is in
    let one = alike_same (numbers c.params-item.result) (numbers c.index.result.now) (negation_false _ (sym c.ne.ensures ∙ c.if-ne.false)) in
    next_alike items c.loop-params.params-index c.index.result.now (numbers c.index.result.now) c.loop-params.invariant
    (sym (numbers_at items c.loop-params.params-index c.index.result.now low) ∙ numbers_at items c.loop-params.params-index c.params-item.result low ∙ ap numbers (sym here) ∙ one)

pub returns-clause-same : goal.returns-clause-same
returns-clause-same c =
    let items = c.args.self.now.classes.items in
    λ class low.
    let fits : class < length items = omega (arith, mapped_length items, low) in
    let done = rw c.deref-params-items.ensures.value at c.loop-params-test.false in
    numbers_at items class c.index.result.now fits ∙ c.loop-params.invariant class (omega (arith, fits, done))
