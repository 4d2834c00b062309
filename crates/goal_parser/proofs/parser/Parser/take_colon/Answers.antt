use Rattle.std.proofs.Common.{refl, ◌≡◌, length, rules, arith}
use Rattle.goal_parser.specs.Items.{defined_of, used_of}
use Rattle.goal_parser.proofs.KindLaws.{takes_colon, refuses_colon, on_ok_of_both, if_err_map}
use Rattle.goal_parser.proofs.parser.Parser.take_colon.Goals as goal

pub returns-clause-ok : goal.returns-clause-ok
returns-clause-ok c =
    let count : c.in-Ok.op ≡ length c.args.self.now.block.ops.items = first_of (search (rules), omega (arith, c.args.self.now.block.ops.ok.0), grind (arith, c.args.self.now.block.ops.ok.0)) in
    on_ok_of_both c.define.result _ _ _ c.define.ensures.ok c.define.ensures.ok
    (λ names again. takes_colon c.args.self.now _ c.args.token.now c.in_ok-next.next c.in-Ok.op c.in_ok-next.ensures.ok c.requires.colon count refl refl refl refl refl refl refl names)

pub returns-clause-fault : goal.returns-clause-fault
returns-clause-fault c = if_err_map c.define.result _ _ c.define.ensures.fault
    (λ fault told memory. refuses_colon c.args.self.now c.args.token.now c.in_ok-next.next fault c.in_ok-next.ensures.ok c.requires.colon
    (λ before taken. told memory (defined_of before) (used_of before) taken.names.labels))
