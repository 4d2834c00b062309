use Rattle.std.proofs.Common.{◌∙◌, sym, arith, ◌-◌, length}
use Rattle.goal_labels.proofs.EndsLemmas.{first_four_decide_equality, last_four_decide_difference}
use Rattle.goal_labels.proofs.label_map.are_same.Goals as goal
use Rattle.goal_labels.proofs.label_map.are_same.Goals.{then-begin_alike, else-begin_alike}

pub returns-then-count-le8 : goal.returns-then-count-le8
returns-then-count-le8 c =
    let xs = c.args.one.now in
    let ys = c.args.other.now in
    let far = length xs - 4 in
    elim c.if-begin_alike.branch [
      | then-begin_alike w ↦ w.result-is ∙ w.begin_alike-then-begin_alike.ensures
          ∙ first_four_decide_equality xs ys far (omega (arith, c.if-count-ge4.true)) (omega (arith, c.if-count-ge4.true, c.requires)) (omega (arith, c.if-count-le8.true))
          (sym c.begin_alike.ensures ∙ w.if-begin_alike.true)
      | else-begin_alike w ↦ w.result-is ∙ w.if-begin_alike.false ∙ last_four_decide_difference xs ys far (sym c.begin_alike.ensures ∙ w.if-begin_alike.false)
    ]
