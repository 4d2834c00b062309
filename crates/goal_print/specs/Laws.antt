-- The law that relates a schedule and its canonical text.
use Rattle.std.specs.Prelude.{◌≡◌, List}
use Rattle.goal_graph.specs.Schedule.{Plan}
use Rattle.goal_graph.specs.Fault.{IsAccepted}
use Rattle.goal_graph.specs.Limits.{AreCountsWithin}
use Rattle.goal_graph.specs.Widths.{AreInWidth}
use Rattle.goal_parser.specs.Reads.{reads, plans}
use Rattle.goal_print.specs.Canonical.{canonical}

-- reading the canonical text of an accepted schedule gives the schedule back
abbrev pub ReadBack : Type 0
ReadBack = (ps : List Plan) → IsAccepted ps → AreCountsWithin ps → AreInWidth ps → reads (canonical ps) ≡ plans ps
