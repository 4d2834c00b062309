-- At the start the slots hold what the collective has, and nothing is under way.
use Rattle.std.proofs.Common.{ℕ, ◌^◌, ◌≤◌, ◌≡◌, ◌⊎◌, inr, Bool, List, length, replicate, None, sym, ap, ◌∙◌, subst}
use Rattle.goal_limits.specs.Limits.{weight_limit}
use Rattle.goal_graph.specs.Schedule.{Plan, operations}
use Rattle.goal_blocks.specs.declared.cert_fault.CertFault.TheVariants.{NoMemory}
use Rattle.goal_blocks.specs.Collectives.{initial}
use Rattle.goal_blocks.specs.Segments.{initial_in}
use Rattle.goal_blocks.specs.Values.{Value}
use Rattle.goal_blocks.specs.Walk.{IsWalk}
use Rattle.goal_blocks.specs.Weight.{stored}
use Rattle.goal_blocks.proofs.ForCallers.{stored_exchanged}
use Rattle.goal_certify.specs.Carried.{values_of_parcels, IsCarrying}
use Rattle.goal_certify.specs.Stages.{IsFirstOf}
use Rattle.goal_certify.proofs.Started.{holding_at_start, left_at_end, started_heavy, no_memory_or_first_fault_if_over}
use Rattle.goal_certify.proofs.walk.outcome.final_values.Goals as goal

pub returns-then-held-gt-MAX_WEIGHT-clause-fault : goal.returns-then-held-gt-MAX_WEIGHT-clause-fault
returns-then-held-gt-MAX_WEIGHT-clause-fault c =
    let plans = c.args.walker.now.plans in
    let read = c.plans.ensures.plans ∙ c.sched-sched.ensures in
    let size = c.initial_size-held.ensures ∙ ap (λ (ps : List Plan). stored (length ps) (initial c.args.what (length ps))) read ∙ sym (stored_exchanged c.args.segment.width c.args.segment.block c.args.what (length plans) c.requires.fits) in
    inr (λ wanted. started_heavy plans (initial_in c.args.what c.args.segment.width c.args.segment.block (length plans)) wanted c.initial_size-held.result size c.if-held-gt-MAX_WEIGHT.true)

pub carry-requires-clause-held : goal.carry-requires-clause-held
carry-requires-clause-held c =
    let plans = c.args.walker.now.plans in
    let what = c.args.what in
    let first = initial_in what c.args.segment.width c.args.segment.block (length plans) in
    let read = c.plans.ensures.plans ∙ c.sched-sched.ensures in
    let size = c.initial_size-held.ensures ∙ ap (λ (ps : List Plan). stored (length ps) (initial what (length ps))) read ∙ sym (stored_exchanged c.args.segment.width c.args.segment.block what (length plans) c.requires.fits) in
    let values = c.new-store.ensures.values ∙ ap (λ (ps : List Plan). initial_in what c.args.segment.width c.args.segment.block (length ps)) read in
    let ranks = c.new-store.ensures.ranks ∙ ap (λ (ps : List Plan). length ps) read in
    let count = c.count.ensures.count ∙ ap (λ (ps : List Plan). length (operations ps)) c.sched-sched.ensures in
    let none = c.in_ok-parcels.ensures ∙ ap (λ (n : ℕ). replicate n None) count in
    let light = subst (λ (n : ℕ). n ≤ weight_limit) size c.if-held-gt-MAX_WEIGHT.false in
    (first, holding_at_start plans first c.new-store.result c.in_ok-parcels.parcels.items values ranks none light c.args.walker.now.history c.requires.start)

pub returns-in-Err-clause-fault : goal.returns-in-Err-clause-fault
returns-in-Err-clause-fault c =
    let plans = c.args.walker.now.plans in
    let what = c.args.what in
    let first = initial_in what c.args.segment.width c.args.segment.block (length plans) in
    let read = c.plans.ensures.plans ∙ c.sched-sched.ensures in
    let size = c.initial_size-held.ensures ∙ ap (λ (ps : List Plan). stored (length ps) (initial what (length ps))) read ∙ sym (stored_exchanged c.args.segment.width c.args.segment.block what (length plans) c.requires.fits) in
    let values = c.new-store.ensures.values ∙ ap (λ (ps : List Plan). initial_in what c.args.segment.width c.args.segment.block (length ps)) read in
    let ranks = c.new-store.ensures.ranks ∙ ap (λ (ps : List Plan). length ps) read in
    let count = c.count.ensures.count ∙ ap (λ (ps : List Plan). length (operations ps)) c.sched-sched.ensures in
    let none = c.in_ok-parcels.ensures ∙ ap (λ (n : ℕ). replicate n None) count in
    let light = subst (λ (n : ℕ). n ≤ weight_limit) size c.if-held-gt-MAX_WEIGHT.false in
    let held = holding_at_start plans first c.new-store.result c.in_ok-parcels.parcels.items values ranks none light c.args.walker.now.history c.requires.start in
    let w = c.carry.new.walker in
    let stopped = no_memory_or_first_fault_if_over w.plans first w.history c.in-Err.fault c.known.ensures.each c.known.ensures.first (c.in-Err.ensures.over first held) in
    subst (λ (ps : List Plan). (c.in-Err.fault ≡ NoMemory) ⊎ ((wanted : ℕ → ℕ → Value → Bool) → IsFirstOf ps first wanted 7 9 c.in-Err.fault)) c.carry.ensures.plans stopped

pub returns-clause-left : goal.returns-clause-left
returns-clause-left c =
    let plans = c.args.walker.now.plans in
    let what = c.args.what in
    let first = initial_in what c.args.segment.width c.args.segment.block (length plans) in
    let read = c.plans.ensures.plans ∙ c.sched-sched.ensures in
    let size = c.initial_size-held.ensures ∙ ap (λ (ps : List Plan). stored (length ps) (initial what (length ps))) read ∙ sym (stored_exchanged c.args.segment.width c.args.segment.block what (length plans) c.requires.fits) in
    let values = c.new-store.ensures.values ∙ ap (λ (ps : List Plan). initial_in what c.args.segment.width c.args.segment.block (length ps)) read in
    let ranks = c.new-store.ensures.ranks ∙ ap (λ (ps : List Plan). length ps) read in
    let count = c.count.ensures.count ∙ ap (λ (ps : List Plan). length (operations ps)) c.sched-sched.ensures in
    let none = c.in_ok-parcels.ensures ∙ ap (λ (n : ℕ). replicate n None) count in
    let light = subst (λ (n : ℕ). n ≤ weight_limit) size c.if-held-gt-MAX_WEIGHT.false in
    let held = holding_at_start plans first c.new-store.result c.in_ok-parcels.parcels.items values ranks none light c.args.walker.now.history c.requires.start in
    let w = c.carry.new.walker in
    let store = c.carry.new.held.store in
    let told = values_of_parcels store.sums c.carry.new.held.parcels.items in
    let holding = c.in-Ok-carry.ensures.held first held in
    let walk = subst (λ (ps : List Plan). IsWalk ps w.history) c.carry.ensures.plans c.in-Ok-carry.ensures.walk in
    let kept = subst (λ (ps : List Plan). IsCarrying ps first w.history store.kept told c.carry.new.held.carried) c.carry.ensures.plans holding.carrying in
    left_at_end plans first w.history store.kept told c.carry.new.held.carried walk kept
