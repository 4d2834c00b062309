use Rattle.std.proofs.Common.{◌∙◌, List, length, ap, sym, arith}
use Rattle.std.proofs.lemmas.Bool.{eqb-true}
use Rattle.goal_graph.specs.declared.plan.Need.{Need}
use Rattle.goal_graph.specs.declared.plan.When.TheVariants.{AfterEnd}
use Rattle.goal_graph.specs.Schedule.{Plan, needs}
use Rattle.goal_certify.proofs.Cursors.{unmet_unready, cursor_ready}
use Rattle.goal_graph.proofs.ForCallers.{few_needs}
use Rattle.goal_certify.proofs.walk.ready.is_ready.Goals as goal

abbrev none : Need
none = record { op = 0; when = AfterEnd }

pub is_met-requires : goal.is_met-requires
is_met-requires g c = c.needs-needs.ensures.exist c.loop-at.at none c.loop-at-test.true

pub overflow_cast-cursor : goal.overflow_cast-cursor
overflow_cast-cursor g c =
    omega (arith, c.loop-at-test.true, few_needs c.sched.result.now c.args.id c.plans-plans.ensures.counts, ap length (c.needs-needs.ensures.needs ∙ ap (λ (ps : List Plan). needs ps c.args.id) (sym c.sched.ensures)))

pub overflow_cast-cursor-2 : goal.overflow_cast-cursor-2
overflow_cast-cursor-2 g c =
    omega (arith, few_needs c.sched.result.now c.args.id c.plans-plans.ensures.counts, ap length (c.needs-needs.ensures.needs ∙ ap (λ (ps : List Plan). needs ps c.args.id) (sym c.sched.ensures)))

pub returns-then-is_empty-clause-ready : goal.returns-then-is_empty-clause-ready
returns-then-is_empty-clause-ready g c =
    sym (cursor_ready _ _ _ c.args.id c.needs-needs.result.now c.needs-needs.ensures.needs _ c.requires.cursor (omega (arith, eqb-true (length c.needs-needs.result.now) 0 (sym c.is_empty.ensures ∙ c.if-is_empty.true))))

pub returns-then-not-is_met-clause-ready : goal.returns-then-not-is_met-clause-ready
returns-then-not-is_met-clause-ready g c =
    sym (unmet_unready _ _ _ c.args.id c.needs-needs.result.now c.needs-needs.ensures.needs c.loop-at.at none c.loop-at-test.true (sym c.is_met.ensures ∙ c.if-not-is_met.true))

pub returns-clause-ready : goal.returns-clause-ready
returns-clause-ready g c =
    sym (cursor_ready _ _ _ c.args.id c.needs-needs.result.now c.needs-needs.ensures.needs (record { at = c.loop-at.at }) c.loop-at.invariant.0 c.loop-at-test.false)
