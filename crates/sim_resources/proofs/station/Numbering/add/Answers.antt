use Rattle.std.proofs.Common.{List, subst, sym, ◌∙◌}
use Rattle.sim_resources.specs.declared.pair.Pair.{Pair}
use Rattle.sim_resources.specs.Numbering.{IsNumbering}
use Rattle.sim_resources.proofs.Numbering.{numbered_new}
use Rattle.sim_resources.proofs.station.Numbering.add.Goals as goal

pub pair_of-requires-clause-by_rank : goal.pair_of-requires-clause-by_rank
pair_of-requires-clause-by_rank c = c.requires.numbered.of_stations c.args.station.rank c.requires.by_rank

pub returns-clause-numbered : goal.returns-clause-numbered
returns-clause-numbered c =
    subst (λ (ps : List Pair). IsNumbering c.add.new.self c.pair_of.new.resources ps) (sym c.in_ok-push.ensures.items) (numbered_new _ _ _ c.requires.numbered c.add.new.self c.args.station c.in_ok-number.number c.in_ok-number.ensures.number c.in_ok-number.ensures.once (c.in_ok-number.ensures.next ∙ sym c.requires.numbered.each) c.pair_of.new.resources c.in_ok-pair.pair c.in_ok-pair.ensures.pair c.in_ok-pair.ensures.once)
