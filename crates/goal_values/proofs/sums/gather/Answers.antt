use Rattle.std.proofs.Common.{◌<◌, [], length, ap, subst, arith}
use Rattle.std.specs.List.{sum_by}
use Rattle.goal_values.specs.declared.sums.Term.{Term}
use Rattle.goal_values.specs.Sums.{meaning, IsBelow}
use Rattle.goal_values.specs.Parts.{values_of_sums}
use Rattle.goal_values.proofs.Gathering.{sum_by_append_one, left_below, left_weight, opened_parts, right_below, opened_shares, opened_weight, opened_numbers, taken_shares, taken_last, taken_front}
use Rattle.goal_values.proofs.sums.gather.Goals as goal

pub parts-smaller-in-Made : goal.parts-smaller-in-Made
parts-smaller-in-Made c =
    let inside = subst (IsBelow (length (values_of_sums [] c.args.sums.now))) c.in-Made.is c.parts.invariant.below in
    opened_weight c.args.sums.now c.requires.sums c.in-Made.number inside c.parts.opened.items _ _ c.in-Made.is c.in_ok-push-in-Made-2.ensures.items

pub parts-preserved-in-Made : goal.parts-preserved-in-Made
parts-preserved-in-Made c =
    let sums = c.args.sums.now in
    let i = c.in-Made.number in
    let inside = subst (IsBelow (length (values_of_sums [] sums))) c.in-Made.is c.parts.invariant.below in
    record {
      numbers = opened_numbers sums c.requires.sums i inside c.parts.opened.items _ c.in_ok-push-in-Made-2.ensures.items c.parts.invariant.numbers;
      below = right_below sums c.requires.sums i inside;
      same = λ f.
          omega (arith, opened_shares sums c.requires.sums i inside f c.parts.opened.items _ _ c.in-Made.is c.in_ok-push-in-Made-2.ensures.items, c.parts.invariant.same f);
    }

pub parts-preserved-in-One : goal.parts-preserved-in-One
parts-preserved-in-One c =
    let sums = c.args.sums.now in
    let i = c.in-Some-pop.number in
    let g = c.in-Some-pop.ensures.items in
    let inside = taken_last sums i c.parts.opened.items _ g (λ n. n < length (values_of_sums [] sums)) c.parts.invariant.numbers in
    record {
      numbers = taken_front sums i c.parts.opened.items _ g (λ n. n < length (values_of_sums [] sums)) c.parts.invariant.numbers;
      below = left_below sums c.requires.sums i inside;
      same = λ f.
          omega (arith, taken_shares sums i c.parts.opened.items _ g f, ap (sum_by f) c.in_ok-push-in-One.ensures.items, sum_by_append_one f c.parts.list.items c.in-One.contribution, ap (λ (t : Term). sum_by f (meaning (values_of_sums [] sums) t)) c.in-One.is, c.parts.invariant.same f);
    }

pub parts-preserved : goal.parts-preserved
parts-preserved c =
    let sums = c.args.sums.now in
    let i = c.in-Some-pop-2.number in
    let g = c.in-Some-pop-2.ensures.items in
    let inside = taken_last sums i c.parts.opened.items _ g (λ n. n < length (values_of_sums [] sums)) c.parts.invariant.numbers in
    record {
      numbers = taken_front sums i c.parts.opened.items _ g (λ n. n < length (values_of_sums [] sums)) c.parts.invariant.numbers;
      below = left_below sums c.requires.sums i inside;
      same = λ f.
          omega (arith, taken_shares sums i c.parts.opened.items _ g f, ap (λ (t : Term). sum_by f (meaning (values_of_sums [] sums) t)) c.in-Nothing.is, c.parts.invariant.same f);
    }

-- its right part is listed at once
pub parts-smaller-in-Some : goal.parts-smaller-in-Some
parts-smaller-in-Some c =
    let sums = c.args.sums.now in
    let inside = subst (IsBelow (length (values_of_sums [] sums))) c.in-Made.is c.parts.invariant.below in
    omega (arith, left_weight sums c.requires.sums c.in-Made.number inside c.parts.part c.in-Made.is)

pub parts-preserved-in-Some : goal.parts-preserved-in-Some
parts-preserved-in-Some c =
    let sums = c.args.sums.now in
    let i = c.in-Made.number in
    let inside = subst (IsBelow (length (values_of_sums [] sums))) c.in-Made.is c.parts.invariant.below in
    record {
      numbers = c.parts.invariant.numbers;
      below = left_below sums c.requires.sums i inside;
      same = λ f.
          omega (arith, opened_parts sums c.requires.sums i inside f c.parts.part c.in-Made.is, ap (sum_by f) c.in_ok-push-in-Made.ensures.items, sum_by_append_one f c.parts.list.items c.in-Some.contribution, ap (λ (t : Term). sum_by f (meaning (values_of_sums [] sums) t)) c.in-Some.ensures, c.parts.invariant.same f);
    }
