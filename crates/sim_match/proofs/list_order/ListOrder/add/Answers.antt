use Rattle.std.proofs.Common.{refl}
use Rattle.sim_match.proofs.InTurn.{given_with_new_number, number_of_new_pattern}
use Rattle.sim_match.proofs.list_order.ListOrder.add.Goals as goal

pub returns-clause-given : goal.returns-clause-given
returns-clause-given c =
    given_with_new_number c.args.patterns.now c.args.self.now c.requires.given c.args.place c.at.result.now c.at.ensures c.requires.few c.requires.none _ c.push.ensures refl refl

pub returns-clause-number : goal.returns-clause-number
returns-clause-number c =
    number_of_new_pattern c.args.patterns.now c.args.self.now c.requires.given c.args.place c.at.result.now c.at.ensures c.requires.few c.requires.none c.push.new.self.items c.push.ensures
