-- The stray slots come after the faults of each segment by itself.
use Rattle.std.proofs.Common.{inr, List, length, ap, arith}
use Rattle.goal_graph.specs.Schedule.{Plan}
use Rattle.goal_certify.specs.declared.at_once.AtOnceFault.TheVariants.{Stray}
use Rattle.goal_certify.specs.AtOnce.{named}
use Rattle.goal_certify.proofs.AtOnceAnswers.{right_at_once, more_apart, that_told, none_found}
use Rattle.goal_certify.proofs.at_once.certify_at_once.Goals as goal

pub returns-in-Ok-Some-clause-faults : goal.returns-in-Ok-Some-clause-faults
returns-in-Ok-Some-clause-faults c =
    let laws = c.laws_of_faults.ensures in
    let plans = c.args.sched.now in
    let ranks = ap (λ (ps : List Plan). named c.args.what (length ps)) c.plans.ensures.plans in
    that_told c.args.what c.args.width c.args.count plans laws.fault_excludes_certified laws.faultless_is_certified laws.one_first_fault c.known.ensures.accepted (Stray c.loop-block.block c.in-Ok-Some.rank c.in-Ok-Some.slot) (inr (
      omega (arith, c.if-width-named_slots.false, c.named_slots.ensures.named, ranks),
      record {
        each = c.in-Ok.ensures.certified;
        segment = c.loop-block-test.true;
        least = rw c.in-Ok-Some.field-0-is at c.in-Ok-Some.ensures.some;
        apart_before = c.loop-block.invariant;
      },
    ))

pub loop-block-preserved : goal.loop-block-preserved
loop-block-preserved c =
    more_apart c.args.what c.args.width c.args.count c.args.sched.now c.loop-block.block c.loop-block.invariant (rw c.in-Ok-None.field-0-is at c.in-Ok-None.ensures.none)

pub returns-clause-certified : goal.returns-clause-certified
returns-clause-certified c = record {
  wide = let ranks = ap (λ (ps : List Plan). named c.args.what (length ps)) c.plans.ensures.plans in omega (arith, c.if-width-named_slots.false, c.named_slots.ensures.named, ranks);
  each = c.in-Ok.ensures.certified;
  apart = λ block low. c.loop-block.invariant block (omega (arith, low, c.loop-block-test.false));
}

pub returns-clause-right : goal.returns-clause-right
returns-clause-right c =
    right_at_once c.laws_of_joined_starts.ensures.segments_at_once c.args.what c.args.width c.args.count c.args.sched.now c.in-Ok.ensures.certified (λ block low. c.loop-block.invariant block (omega (arith, low, c.loop-block-test.false)))

pub returns-clause-faults : goal.returns-clause-faults
returns-clause-faults c =
    let laws = c.laws_of_faults.ensures in
    none_found c.args.what c.args.width c.args.count c.args.sched.now laws.fault_excludes_certified laws.faultless_is_certified laws.one_first_fault c.known.ensures.accepted (returns-clause-certified c)
