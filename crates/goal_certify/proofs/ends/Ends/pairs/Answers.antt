use Rattle.std.proofs.Common.{List, length, ap, subst, arith}
use Rattle.std.specs.List.Sorted.{IsSorted}
use Rattle.goal_certify.specs.declared.ends.OpAtEnd.{OpAtEnd}
use Rattle.goal_certify.specs.Ends.{entry_cmp}
use Rattle.goal_certify.proofs.Pairs.{alternating_are_paired}
use Rattle.goal_certify.proofs.ends.Ends.pairs.Goals as goal

pub returns-then-do_alternate : goal.returns-then-do_alternate
returns-then-do_alternate c =
    let sorted = subst (λ (xs : List OpAtEnd). IsSorted entry_cmp xs) c.self.view_is c.self.invariant in
    let long = ap length c.self.view_is in
    alternating_are_paired c.args.self.now sorted (c.do_rise.ensures c.if-do_rise.true) _ (omega (arith, long, c.len-pairs.ensures, c.len.ensures, c.if-len-eq0.true, c.self.inside.sorted.ok.0)) (c.do_alternate.ensures c.if-do_alternate.true)
