use Rattle.std.proofs.Common.{arith}
use Rattle.goal_rooted.proofs.RootedCases.{rounds_within, at_most_one_parent}
use Rattle.goal_rooted.proofs.formula.RootedRequestFormula.count.Goals as goal

pub overflow_mul-result : goal.overflow_mul-result
overflow_mul-result c =
    let s = c.args.self.now in
    let few = rounds_within s.what s.ranks c.back-place.result s.few_ranks in
    omega (arith, few, c.children.ensures)

pub overflow_add-result : goal.overflow_add-result
overflow_add-result c =
    let s = c.args.self.now in
    let few = rounds_within s.what s.ranks c.back-place.result s.few_ranks in
    let up = at_most_one_parent c.back-place.result in
    omega (arith, few, up, c.children.ensures, c.upward.ensures)

pub overflow_add-result-in-Gather : goal.overflow_add-result-in-Gather
overflow_add-result-in-Gather c =
    let s = c.args.self.now in
    let few = rounds_within s.what s.ranks c.back-place-in-Gather.result s.few_ranks in
    let up = at_most_one_parent c.back-place-in-Gather.result in
    omega (arith, few, up, c.children-in-Gather.ensures, c.upward-in-Gather.ensures)

pub overflow_add-result-in-Scatter : goal.overflow_add-result-in-Scatter
overflow_add-result-in-Scatter c =
    let s = c.args.self.now in
    let few = rounds_within s.what s.ranks c.back-place-in-Scatter.result s.few_ranks in
    let up = at_most_one_parent c.back-place-in-Scatter.result in
    omega (arith, few, up, c.children-in-Scatter.ensures, c.upward-in-Scatter.ensures)
