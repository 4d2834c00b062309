use Rattle.std.proofs.Common.{refl}
use Rattle.goal_collectives.specs.Probe.{round_from}
use Rattle.goal_collectives.proofs.draws.Draws.round.Goals as goal

pub returns-clause-round : goal.returns-clause-round
unfolding round_from
returns-clause-round c =
    rw (
      c.draw-from.ensures.drawn,
      c.draw-to.ensures.drawn,
      c.draw-nanos.ensures.drawn,
      c.draw-bytes.ensures.drawn,
      c.draw-bytes.ensures.state,
      c.draw-nanos.ensures.state,
      c.draw-to.ensures.state,
      c.draw-from.ensures.state,
    ) refl
