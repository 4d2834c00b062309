use Rattle.std.proofs.Common.{length, ◌+◌, arith, refl}
use Rattle.std.proofs.lemmas.Option.{slice_get_read}
use Rattle.sim_classes.proofs.RowLemmas.{row_between, row_of_all}
use Rattle.sim_classes.proofs.pair_classes.PairClasses.row.Goals as goal

pub returns-then-node-len : goal.returns-then-node-len
returns-then-node-len c =
    let starts = c.self.inside.starts.items in
    let first = slice_get_read starts (length starts) c.args.node _ refl (omega (arith, c.if-node-len.true, c.len.ensures, c.self.inside.starts.ok.0)) c.index.ensures in
    let second = slice_get_read starts (length starts) (c.args.node + 1) _ refl (omega (arith, c.if-node-len.true, c.len.ensures, c.self.inside.starts.ok.0)) c.index-then-node-len.ensures in
    rw c.self.view_is at (row_between c.self.inside.entries.items c.args.node _ _ (c.self.invariant.rows _ _ first) (c.self.invariant.rows _ _ second))

pub returns-else-node-len : goal.returns-else-node-len
returns-else-node-len c =
    rw c.self.view_is at (row_of_all c.self.inside.entries.items c.args.node c.len-else-node-len.result (omega (arith, c.len-else-node-len.ensures, c.self.inside.entries.ok.0)))
