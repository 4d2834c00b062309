use Rattle.std.proofs.Common.{◌<◌, ◌^◌, get_or, refl, arith}
use Rattle.goal_certify.proofs.Turns.{lowest_near, lowest_on, none_lower}
use Rattle.goal_certify.proofs.walk.turns.lowest.Goals as goal

pub returns : goal.returns
returns c =
    let fits : get_or c.args.words.now c.args.word 0 < 2 ^ 64 = omega (arith, c.type_inv.words c.args.word) in
    record {
      on = lowest_on c.args.words.now c.args.word c.requires.some fits _ refl;
      of_word = omega (arith, lowest_near c.args.words.now c.args.word c.requires.some fits);
      lowest = none_lower c.args.words.now c.args.word c.requires.some fits;
    }
