use Rattle.std.proofs.Common.{◌≡◌, List, Some, get_or, length, slice_get, sym, ap, ◌∙◌, arith}
use Rattle.std.proofs.lemmas.Option.{slice_get-get_or}
use Rattle.goal_graph.specs.declared.action.OpId.{OpId}
use Rattle.goal_graph.specs.Schedule.{Plan, operations}
use Rattle.goal_certify.proofs.Stalls.{end_more, all_free, stalled}
use Rattle.goal_certify.proofs.walk.stalls.check_ends.Goals as goal

abbrev none : OpId
none = record { rank = 0; op = 0 }

-- the operation that is read, in the list of the plans of the walker
slice_get_of_equal_plans : (items : List OpId) (plans known : List Plan) (k : _) → items ≡ operations known → plans ≡ known → slice_get items k ≡ Some (get_or items k none) → slice_get (operations plans) k ≡ Some (get_or items k none)
slice_get_of_equal_plans items plans known k are same at =
    sym (ap (λ (xs : List OpId). slice_get xs k) (are ∙ ap (λ (ps : List Plan). operations ps) (sym same))) ∙ at

pub returns-then-not-has_ended-clause-fault : goal.returns-then-not-has_ended-clause-fault
returns-then-not-has_ended-clause-fault c =
    let w = c.args.walker.now in
    let items = c.operations-id-items.result.now in
    let k = c.loop-id.id-index in
    let at = slice_get_of_equal_plans items w.plans c.sched.result.now k c.operations-id-items.ensures.all (sym c.sched.ensures) (slice_get-get_or items k none c.loop-id-test.true) in
    stalled w.plans w.history c.requires k (get_or items k none) c.loop-id.invariant at (sym c.has_ended.ensures ∙ c.if-not-has_ended.true)

pub loop-id-preserved : goal.loop-id-preserved
loop-id-preserved c =
    let w = c.args.walker.now in
    let items = c.operations-id-items.result.now in
    let k = c.loop-id.id-index in
    let at = slice_get_of_equal_plans items w.plans c.sched.result.now k c.operations-id-items.ensures.all (sym c.sched.ensures) (slice_get-get_or items k none c.loop-id-test.true) in
    end_more w.plans w.history k (get_or items k none) c.loop-id.invariant at (sym c.has_ended.ensures ∙ c.if-not-has_ended.false)

pub returns-clause-free : goal.returns-clause-free
returns-clause-free c =
    let w = c.args.walker.now in
    let count = ap length c.operations-id-items.ensures.all ∙ ap (λ (ps : List Plan). length (operations ps)) c.sched.ensures in
    all_free w.plans w.history c.requires c.loop-id.id-index c.loop-id.invariant (omega (arith, count, c.loop-id-test.false))
