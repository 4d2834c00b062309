use Rattle.std.proofs.Common.{arith}
use Rattle.sim_match.proofs.InTurn.{listed_by_given_numbers}
use Rattle.sim_match.proofs.list_numbers.ListNumbers.in_turn.Goals as goal

pub returns : goal.returns
returns c =
    let order = c.numbers_in_turn.new.order in
    let own = c.in_ok-own.ensures in
    record {
      keys = order.keys.items;
      listed = listed_by_given_numbers c.args.sched.now c.args.patterns.now order.keys.items own.each c.requires;
      few = omega (arith, own.few, own.given.count);
      own = λ some. own.numbers;
      count = own.given.count;
      sought = c.in_ok-others.ensures;
    }
