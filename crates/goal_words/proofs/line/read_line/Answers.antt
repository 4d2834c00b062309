use Rattle.std.proofs.Common.{codes, refl}
use Rattle.goal_words.proofs.KeyLemmas.{bytes_eq_of_different}
use Rattle.goal_words.proofs.line.read_line.Goals as goal

pub returns-in_default-clause-bad : goal.returns-in_default-clause-bad
returns-in_default-clause-bad c =
    let w = c.args.first.now in
    λ _. rw (
      bytes_eq_of_different w (codes "sim") c.in_default.not-sim,
      bytes_eq_of_different w (codes "waits") c.in_default.not-waits,
      bytes_eq_of_different w (codes "knots") c.in_default.not-knots,
      bytes_eq_of_different w (codes "nodes") c.in_default.not-nodes,
      bytes_eq_of_different w (codes "compile") c.in_default.not-compile,
      bytes_eq_of_different w (codes "show") c.in_default.not-show,
      bytes_eq_of_different w (codes "gen") c.in_default.not-gen,
      bytes_eq_of_different w (codes "certify") c.in_default.not-certify,
      bytes_eq_of_different w (codes "probe") c.in_default.not-probe,
    ) refl

pub returns-in-sim-clause-line : goal.returns-in-sim-clause-line
returns-in-sim-clause-line c = rw c.in-sim.is c.read_sim.ensures.line

pub returns-in-sim-clause-bad : goal.returns-in-sim-clause-bad
returns-in-sim-clause-bad c = rw c.in-sim.is c.read_sim.ensures.bad

pub returns-in-waits-clause-line : goal.returns-in-waits-clause-line
returns-in-waits-clause-line c = rw c.in-waits.is c.read_waits.ensures.line

pub returns-in-waits-clause-bad : goal.returns-in-waits-clause-bad
returns-in-waits-clause-bad c = rw c.in-waits.is c.read_waits.ensures.bad

pub returns-in-knots-clause-line : goal.returns-in-knots-clause-line
returns-in-knots-clause-line c = rw c.in-knots.is c.read_knots.ensures.line

pub returns-in-knots-clause-bad : goal.returns-in-knots-clause-bad
returns-in-knots-clause-bad c = rw c.in-knots.is c.read_knots.ensures.bad

pub returns-in-nodes-clause-line : goal.returns-in-nodes-clause-line
returns-in-nodes-clause-line c = rw c.in-nodes.is c.read_nodes.ensures.line

pub returns-in-nodes-clause-bad : goal.returns-in-nodes-clause-bad
returns-in-nodes-clause-bad c = rw c.in-nodes.is c.read_nodes.ensures.bad

pub returns-in-compile-clause-line : goal.returns-in-compile-clause-line
returns-in-compile-clause-line c = rw c.in-compile.is c.read_compile.ensures.line

pub returns-in-compile-clause-bad : goal.returns-in-compile-clause-bad
returns-in-compile-clause-bad c = rw c.in-compile.is c.read_compile.ensures.bad

pub returns-in-show-clause-line : goal.returns-in-show-clause-line
returns-in-show-clause-line c = rw c.in-show.is c.read_show.ensures.line

pub returns-in-show-clause-bad : goal.returns-in-show-clause-bad
returns-in-show-clause-bad c = rw c.in-show.is c.read_show.ensures.bad

pub returns-in-certify-clause-line : goal.returns-in-certify-clause-line
returns-in-certify-clause-line c = rw c.in-certify.is c.read_certify.ensures.line

pub returns-in-certify-clause-bad : goal.returns-in-certify-clause-bad
returns-in-certify-clause-bad c = rw c.in-certify.is c.read_certify.ensures.bad
