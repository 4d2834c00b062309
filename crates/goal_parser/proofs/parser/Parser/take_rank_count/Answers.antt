use Rattle.std.proofs.Common.{refl}
use Rattle.goal_parser.proofs.KindLaws.{takes_ranks}
use Rattle.goal_parser.proofs.parser.Parser.take_rank_count.Goals as goal

pub returns : goal.returns
returns c = takes_ranks c.args.self.now c.args.token c.args.next c.args.value c.requires.next c.requires.number
    c.requires.within _ c.requires.here refl refl refl refl refl refl c.in_ok-self.ensures
