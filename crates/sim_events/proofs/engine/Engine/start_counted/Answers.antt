use Rattle.std.proofs.Common.{◌≡◌, ◌<◌, ◌^◌, ℕ, Result, Ok, Err, IfErr, IsErrAnd, sym, subst}
use Rattle.sim_state.specs.declared.fault.EngineFault.{EngineFault}
use Rattle.sim_state.specs.declared.fault.EngineFault.TheVariants.{NoMemory}
use Rattle.sim_state.specs.Engine.{IsEngineFault}
use Rattle.sim_events.proofs.engine.Engine.start_counted.Goals as goal

-- memory ran out, and the budget fits
no_memory : {T : Type 0} (total : ℕ) → total < 2 ^ 63 → (r : Result T EngineFault) → IsErrAnd r (λ fault. fault ≡ NoMemory) → IfErr r (IsEngineFault total)
no_memory total fits (Ok x) e = absurd e
no_memory total fits (Err fault) e = subst (IsEngineFault total) (sym e) fits

pub returns-in_err-pending-clause-fault : goal.returns-in_err-pending-clause-fault
returns-in_err-pending-clause-fault g c =
    no_memory _ c.in_ok-state.ensures.fits c.from_residual-in_err-pending.result c.from_residual-in_err-pending.ensures.1
