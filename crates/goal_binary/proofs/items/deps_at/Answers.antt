use Rattle.std.proofs.Common.{◌≡◌, ℕ, ◌+◌, ◌∷◌, [], ◌++◌, sym, ap, ◌∙◌, length-append}
use Rattle.std.proofs.lemmas.Result.{err_from_is_err_and}
use Rattle.goal_binary.specs.Reading.{dep_at, list_at}
use Rattle.goal_binary.proofs.Loop.{list_read_continues_after_item, list_read_fails_with_item, is_done}
use Rattle.goal_binary.proofs.items.deps_at.Goals as goal

pub returns-in_err-dep-clause-deps : goal.returns-in_err-dep-clause-deps
returns-in_err-dep-clause-deps c =
    let item_at = dep_at c.args.bytes.now c.args.layout in
    let p = err_from_is_err_and c.from_residual-in_err-dep.result c.from_residual-in_err-dep.ensures.1 in
    rw (p.1, p.2) (λ memory. list_read_fails_with_item item_at c.in_err-dep.field-0.0 c.loop.deps.items c.args.count c.loop.counter c.loop.place (list_at item_at c.args.count c.args.at) c.loop-test.true (sym c.in_err-dep.ensures) c.loop.invariant.so_far)

pub loop-preserved : goal.loop-preserved
loop-preserved c =
    let item_at = dep_at c.args.bytes.now c.args.layout in
    let pushed : c.push.new.self.items ≡ c.loop.deps.items ++ c.in_ok-dep.dep ∷ [] = c.in_ok-push.ensures.items in
    rw pushed (record {
      so_far = list_read_continues_after_item item_at c.loop.deps.items c.args.count c.loop.counter c.loop.place c.in_ok-dep.dep c.in_ok-dep.after (list_at item_at c.args.count c.args.at) c.loop-test.true (sym c.in_ok-dep.ensures) c.loop.invariant.so_far;
      count = length-append c.loop.deps.items (c.in_ok-dep.dep ∷ []) ∙ ap (λ (n : ℕ). n + 1) c.loop.invariant.count;
    })

pub returns-clause-deps : goal.returns-clause-deps
returns-clause-deps c =
    let item_at = dep_at c.args.bytes.now c.args.layout in
    is_done item_at c.loop.deps.items c.args.count c.loop.counter c.loop.place (list_at item_at c.args.count c.args.at) c.loop-test.false c.loop.invariant.so_far
