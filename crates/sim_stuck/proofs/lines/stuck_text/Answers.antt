use Rattle.std.proofs.Common.{ap, ◌∙◌}
use Rattle.std.specs.List.{flat_map}
use Rattle.std.proofs.lemmas.List.{take_all}
use Rattle.sim_stuck.specs.StuckText.{stuck_line, stuck_text}
use Rattle.sim_stuck.proofs.lines.stuck_text.Goals as goal

pub returns : goal.returns
unfolding stuck_text
returns c =
    c.into_bytes.ensures ∙ c.loop-stuck.invariant ∙ ap (flat_map stuck_line) (take_all c.loop-stuck.stuck-index c.args.list.now c.loop-stuck-test.false)
