use Rattle.std.proofs.Common.{length, refl, arith, ap, sym, ◌∙◌}
use Rattle.std.specs.Option.{is_some}
use Rattle.std.proofs.lemmas.Option.{slice_get_read}
use Rattle.sim_match.proofs.InTurn.{has_list_number_if_kept}
use Rattle.sim_match.proofs.list_order.ListOrder.give.Goals as goal

pub returns-else-number-clause-has : goal.returns-else-number-clause-has
returns-else-number-clause-has c = λ p its.
    let numbers = c.args.self.now.numbers in
    let below = rw c.in-Some.is at c.requires.within in
    let at = slice_get_read numbers.items (length numbers.items) c.in-Some.place c.index-number.result.now refl (omega (arith, below, c.requires.given.one_each)) c.index-number.ensures in
    has_list_number_if_kept c.args.patterns.now c.args.self.now c.requires.given c.in-Some.place c.index-number.result.now at c.if-number.false p (its ∙ c.in-Some.is) ∙ sym (ap is_some c.in-Some.is)
