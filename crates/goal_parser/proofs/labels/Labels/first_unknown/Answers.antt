use Rattle.std.proofs.Common.{rules, arith}
use Rattle.goal_parser.proofs.SlotLaws.{empty_front_is_defined, longer_front_is_defined, first_unknown_after_defined_front, no_unknown_if_all_defined}
use Rattle.goal_parser.proofs.labels.Labels.first_unknown.Goals as goal
use Rattle.goal_parser.proofs.labels.Labels.first_unknown.Goals.{in-Some+else-is_none, in_default}

pub returns-then-is_none : goal.returns-then-is_none
returns-then-is_none c =
    let found = c.in-Some.ensures.some in
    first_unknown_after_defined_front c.args.self.now.slots c.loop-i.i found.0 c.in-Some.slot c.loop-i.invariant found.1 found.2 (search (rules))

pub loop-i-init : goal.loop-i-init
loop-i-init c = empty_front_is_defined c.args.self.now.slots

pub loop-i-preserved : goal.loop-i-preserved
loop-i-preserved c =
    elim c.match-get.branch [
      | in-Some+else-is_none w ↦
          let found = w.in-Some.ensures.some in
          longer_front_is_defined c.args.self.now.slots c.loop-i.i found.0 w.in-Some.slot c.loop-i.invariant found.1 found.2 (search (rules))
      | in_default w ↦ absurd (search (rules))
    ]

pub returns : goal.returns
returns c = no_unknown_if_all_defined c.args.self.now.slots c.loop-i.i c.loop-i.invariant (omega arith)
