use Rattle.std.proofs.Common.{refl}
use Rattle.goal_parser.proofs.KindLaws.{refuses_rank, faultless_rank_is_new, takes_rank}
use Rattle.goal_parser.proofs.parser.Parser.take_rank.Goals as goal

pub returns-in-Some-clause-fault : goal.returns-in-Some-clause-fault
returns-in-Some-clause-fault c = λ memory. refuses_rank c.args.self.now c.args.token c.args.next c.args.value c.requires.next c.requires.number c.in-Some.fault
    c.requires.within c.in-Some.ensures

pub take-requires : goal.take-requires
take-requires c = record { new = faultless_rank_is_new c.args.self.now c.args.token c.args.next c.args.value c.requires.next c.requires.number c.requires.here c.in_default.ensures }

pub returns-clause-ok : goal.returns-clause-ok
returns-clause-ok c = takes_rank c.args.self.now c.args.token c.args.next c.args.value c.requires.next c.requires.number
    c.requires.within _ c.requires.here c.in_default.ensures refl c.in_ok-take.ensures.count c.in_ok-take.ensures.present c.in_ok-take.ensures.blocks refl refl refl refl refl
