-- The stalls of the walk come before what its values say.
use Rattle.std.proofs.Common.{ℕ, Bool, Result, Ok, Err, inl, inr, ◌≡◌, ◌∙◌, length, List, OnOk, IfErr, sym, subst, arith}
use Rattle.std.proofs.lemmas.Result.{err_from_is_err_and}
use Rattle.goal_graph.specs.Schedule.{Plan}
use Rattle.goal_blocks.specs.Segments.{initial_in, wanted_in}
use Rattle.goal_blocks.specs.Certification.{HasEqualLengths}
use Rattle.goal_blocks.specs.declared.cert_fault.CertFault.{CertFault}
use Rattle.goal_blocks.specs.declared.cert_fault.CertFault.TheVariants.{TooLarge, Wildcard, DoubleChannel, Unpaired, Lengths, Race, Stalls, Weight, Wrong, NoMemory}
use Rattle.goal_blocks.specs.Values.{Value, Store}
use Rattle.goal_certify.specs.Stages.{IsFree, IsStopped, IsFreeIn, IsStoppedIn, SpeaksOfValues, NoneStalls}
use Rattle.goal_certify.proofs.Deciding.{fault_from_if_stopped, fault_from_with_later_end, none_on_ok_with_earlier_start, fault_on_err_with_earlier_start}
use Rattle.goal_certify.proofs.walk.outcome.check_walk.Goals as goal

stopped_as : (known plans : List Plan) (fault : CertFault) → known ≡ plans → IsStopped known 6 7 fault → IsStopped plans 6 7 fault
stopped_as known plans fault same = subst (λ (ps : List Plan). IsStopped ps 6 7 fault) same

pub check_values-found-requires-clause-lengths : goal.check_values-found-requires-clause-lengths
check_values-found-requires-clause-lengths c = subst HasEqualLengths (sym c.in-Ok.ensures.plans) c.requires.lengths

pub returns-in_err-check_stalls-clause-fault : goal.returns-in_err-check_stalls-clause-fault
returns-in_err-check_stalls-clause-fault c =
    let plans = c.args.sched.now in
    let same : c.check_stalls.new.walker.plans ≡ plans = c.check_stalls.ensures.plans ∙ c.check_values-found.ensures.plans ∙ c.in-Ok.ensures.plans in
    let p = err_from_is_err_and c.from_residual.result c.from_residual.ensures.1 in
    let stopped = stopped_as _ plans _ same c.in_err-check_stalls.ensures.fault in
    rw (p.1, p.2) (fault_from_with_later_end plans (initial_in c.args.what c.args.segment.width c.args.segment.block (length plans)) (wanted_in c.args.what c.args.segment.width c.args.segment.block (length plans)) 6 7 9 _ (omega arith) (fault_from_if_stopped plans (initial_in c.args.what c.args.segment.width c.args.segment.block (length plans)) (wanted_in c.args.what c.args.segment.width c.args.segment.block (length plans)) 6 7 _ stopped))

free_as : (known plans : List Plan) → known ≡ plans → IsFree known 6 7 → IsFree plans 6 7
free_as known plans same = subst (λ (ps : List Plan). IsFree ps 6 7) same

pub returns-clause-free : goal.returns-clause-free
returns-clause-free c =
    let plans = c.args.sched.now in
    let segment = c.args.segment in
    let first = initial_in c.args.what segment.width segment.block (length plans) in
    let wish = wanted_in c.args.what segment.width segment.block (length plans) in
    let same : c.check_stalls.new.walker.plans ≡ plans = c.check_stalls.ensures.plans ∙ c.check_values-found.ensures.plans ∙ c.in-Ok.ensures.plans in
    let stalls = free_as _ plans same c.in_ok-check_stalls.ensures.free in
    let found = subst (λ (ps : List Plan). OnOk c.check_values-found.result (IsFreeIn c.args.what segment ps 7 9)) c.in-Ok.ensures.plans c.check_values-found.ensures.free in
    none_on_ok_with_earlier_start plans first wish c.check_values-found.result 6 7 9 (stalls first wish) found

pub returns-clause-fault : goal.returns-clause-fault
returns-clause-fault c =
    let plans = c.args.sched.now in
    let segment = c.args.segment in
    let first = initial_in c.args.what segment.width segment.block (length plans) in
    let wish = wanted_in c.args.what segment.width segment.block (length plans) in
    let same : c.check_stalls.new.walker.plans ≡ plans = c.check_stalls.ensures.plans ∙ c.check_values-found.ensures.plans ∙ c.in-Ok.ensures.plans in
    let stalls = free_as _ plans same c.in_ok-check_stalls.ensures.free in
    let found = subst (λ (ps : List Plan). IfErr c.check_values-found.result (IsStoppedIn c.args.what segment ps 7 9)) c.in-Ok.ensures.plans c.check_values-found.ensures.fault in
    fault_on_err_with_earlier_start plans first wish c.check_values-found.result 6 7 9 (omega arith) (stalls first wish) found

none_stall : (plans : List Plan) → IsFree plans 6 7 → (first : Store) (wish : ℕ → ℕ → Value → Bool) → NoneStalls plans
none_stall plans free first wish op least = free first wish (Stalls op) (omega arith) (omega arith) least

each_err : {T : Type 0} {P : CertFault → Type 0} (r : Result T CertFault) → ((fault : CertFault) → P fault) → IfErr r P
each_err (Ok x) f = tt
each_err (Err fault) f = f fault

-- a fault of the search for stalls says nothing of values
no_values : (plans : List Plan) (fault : CertFault) → IsStopped plans 6 7 fault → (first : Store) (wish : ℕ → ℕ → Value → Bool) → SpeaksOfValues fault → ⊥
no_values plans (Weight total) (inl e) first wish speaks = cc
no_values plans (Weight total) (inr is) first wish speaks = absurd (omega (arith, (is first wish).under))
no_values plans (Wrong rank slot) (inl e) first wish speaks = cc
no_values plans (Wrong rank slot) (inr is) first wish speaks = absurd (omega (arith, (is first wish).under))
no_values plans (TooLarge r) stopped first wish speaks = speaks
no_values plans (Wildcard op) stopped first wish speaks = speaks
no_values plans (DoubleChannel y x) stopped first wish speaks = speaks
no_values plans (Unpaired op) stopped first wish speaks = speaks
no_values plans (Lengths m x) stopped first wish speaks = speaks
no_values plans (Race r lower higher slot) stopped first wish speaks = speaks
no_values plans (Stalls op) stopped first wish speaks = speaks
no_values plans NoMemory stopped first wish speaks = speaks

pub returns-in_err-check_stalls-clause-stalls_first : goal.returns-in_err-check_stalls-clause-stalls_first
returns-in_err-check_stalls-clause-stalls_first c =
    let plans = c.args.sched.now in
    let same : c.check_stalls.new.walker.plans ≡ plans = c.check_stalls.ensures.plans ∙ c.check_values-found.ensures.plans ∙ c.in-Ok.ensures.plans in
    let p = err_from_is_err_and c.from_residual.result c.from_residual.ensures.1 in
    let stopped = stopped_as _ plans _ same c.in_err-check_stalls.ensures.fault in
    rw (p.1, p.2) (λ speaks. absurd (no_values plans _ stopped (initial_in c.args.what c.args.segment.width c.args.segment.block (length plans)) (wanted_in c.args.what c.args.segment.width c.args.segment.block (length plans)) speaks))

pub returns-clause-stalls_first : goal.returns-clause-stalls_first
returns-clause-stalls_first c =
    let plans = c.args.sched.now in
    let same : c.check_stalls.new.walker.plans ≡ plans = c.check_stalls.ensures.plans ∙ c.check_values-found.ensures.plans ∙ c.in-Ok.ensures.plans in
    let none = none_stall plans (free_as _ plans same c.in_ok-check_stalls.ensures.free) (initial_in c.args.what c.args.segment.width c.args.segment.block (length plans)) (wanted_in c.args.what c.args.segment.width c.args.segment.block (length plans)) in
    each_err c.check_values-found.result (λ fault speaks. none)
