use Rattle.std.proofs.Common.{◌≡◌, ◌≤◌, ◌++◌, length, take}
use Rattle.std.specs.List.{flat_map}
use Rattle.sim_timeline.specs.Timeline.{line_of}
use Rattle.sim_timeline.proofs.pages.put_lines.Given as goal

-- the lines of the operations so far
abbrev pub invariant-loop-id : goal.invariant-loop-id
invariant-loop-id g l =
    record {
      text : l.out ++ take l.end l.lines ≡ l.initial.out ++ flat_map (line_of l.engine.plans (g.C.Costs.model l.engine.costs) l.engine.history) (take l.id-index l.ids);
      within : l.end ≤ length l.lines;
    }
