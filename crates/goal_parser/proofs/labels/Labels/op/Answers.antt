use Rattle.std.proofs.Common.{sym, ap, ◌∙◌, unwrap_or}
use Rattle.goal_parser.proofs.NameLaws.{op_found, op_past}
use Rattle.goal_parser.proofs.labels.Labels.op.Goals as goal

pub returns-in-Some-op : goal.returns-in-Some-op
returns-in-Some-op c =
    let found = c.in-Some.ensures.some in
    sym (op_found c.args.self.now.slots c.args.slot found.0 c.in-Some.slot found.1 found.2 ∙ ap (λ o. unwrap_or o 0) c.in-Some-op.is)

pub returns-in-None-op : goal.returns-in-None-op
returns-in-None-op c =
    let found = c.in-Some.ensures.some in
    sym (op_found c.args.self.now.slots c.args.slot found.0 c.in-Some.slot found.1 found.2 ∙ ap (λ o. unwrap_or o 0) c.in-None-op.is)

pub returns-in-None : goal.returns-in-None
returns-in-None c = sym (op_past c.args.self.now.slots c.args.slot c.in-None.ensures.none)
