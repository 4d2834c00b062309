use Rattle.std.proofs.Common.{rules, sym, ◌∙◌, arith}
use Rattle.std.proofs.lemmas.List.Sorted.{answers_always}
use Rattle.sim_classes.proofs.RowLemmas.{pair_class_in_row}
use Rattle.sim_classes.proofs.pair_classes.PairClasses.search.Goals as goal

pub returns-in-Ok : goal.returns-in-Ok
returns-in-Ok c =
    let same = c.deref.ensures.value ∙ c.self.view_is in
    let by_key = c.binary_search_by_key.ensures.position (λ entry. entry.0) (answers_always _ _ _ (λ f a r g called. search rules)) in
    let is = pair_class_in_row c.args.self.now (rw c.self.view_is at c.self.invariant.sorted) c.args.a c.args.b (omega arith) c.row-start.result.0 c.row-start.result.1 c.row-start.ensures c.binary_search_by_key.result (rw same at c.binary_search_by_key.ensures.bound) (rw (same, c.pair_key.ensures) at by_key) in
    rw same (sym (rw c.in-Ok.is at is))

pub returns-in-Err : goal.returns-in-Err
returns-in-Err c =
    let same = c.deref.ensures.value ∙ c.self.view_is in
    let by_key = c.binary_search_by_key.ensures.position (λ entry. entry.0) (answers_always _ _ _ (λ f a r g called. search rules)) in
    let is = pair_class_in_row c.args.self.now (rw c.self.view_is at c.self.invariant.sorted) c.args.a c.args.b (omega arith) c.row-start.result.0 c.row-start.result.1 c.row-start.ensures c.binary_search_by_key.result (rw same at c.binary_search_by_key.ensures.bound) (rw (same, c.pair_key.ensures) at by_key) in
    sym (rw c.in-Err.is at is)
