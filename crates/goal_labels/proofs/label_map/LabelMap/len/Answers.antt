use Rattle.std.proofs.Common.{arith, ap, length}
use Rattle.goal_labels.proofs.HeldLemmas.{length-entries_of}
use Rattle.goal_labels.proofs.label_map.LabelMap.len.Goals as goal

pub returns : goal.returns
returns c = omega (arith, c.len.ensures, c.self.inside.entries.ok.0, length-entries_of c.self.inside.bytes.items c.self.inside.entries.items, ap length c.self.view_is)
