use Rattle.sim_resources.proofs.ForCallers.{holds_add_up}
use Rattle.sim_eager.proofs.sending.transfer.Goals as goal

pub returns-clause-holds : goal.returns-clause-holds
returns-clause-holds g c =
    rw (← c.spans-spans.ensures.gap) (holds_add_up.tx.adds _ _ _ _ _ c.hold_cpu.ensures c.hold_tx.ensures)
