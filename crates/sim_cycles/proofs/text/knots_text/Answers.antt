use Rattle.std.proofs.Common.{ap, ◌∙◌}
use Rattle.std.specs.List.{flat_map}
use Rattle.std.proofs.lemmas.List.{take_all}
use Rattle.sim_cycles.specs.KnotsText.{knot_line, knots_text}
use Rattle.sim_cycles.proofs.text.knots_text.Goals as goal

pub returns : goal.returns
unfolding knots_text
returns c =
    c.into_bytes.ensures ∙ c.loop-knot.invariant ∙ ap (flat_map knot_line) (take_all c.loop-knot.knot-index c.args.list.now c.loop-knot-test.false)
