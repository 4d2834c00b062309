use Rattle.std.proofs.Common.{◌-◌, ◌/◌, ◌++◌, ap, ◌∙◌, append_assoc, arith}
use Rattle.std.proofs.lemmas.Result.{on_ok_weaker}
use Rattle.goal_binary.specs.File.{groups}
use Rattle.goal_binary.proofs.Groups.{groups-more}
use Rattle.goal_binary.proofs.encoding.+put_groups.Goals as goal

pub returns : goal.returns
returns t c =
    let left = c.args.left in
    let number = c.args.number in
    let some = c.if-left-eq0.false in
    let high = c.if-number-lt128.false in
    let pushed = c.in_ok-push-2.ensures.items in
    on_ok_weaker c.put_groups.result (λ more. more ∙ ap (λ items. items ++ groups (left - 1) (number / 128)) pushed
    ∙ append_assoc c.args.out.now.items _ (groups (left - 1) (number / 128))
    ∙ ap (λ text. c.args.out.now.items ++ text) (groups-more left number (omega (arith, some)) (omega (arith, high)))) c.put_groups.ensures
