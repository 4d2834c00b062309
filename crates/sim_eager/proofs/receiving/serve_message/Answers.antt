use Rattle.sim_resources.proofs.ForCallers.{holds_add_up}
use Rattle.sim_eager.proofs.Messages.{message_fits}
use Rattle.sim_eager.proofs.receiving.serve_message.Goals as goal

pub spans-spans-requires : goal.spans-spans-requires
spans-spans-requires g c =
    message_fits _ _ _ _ c.requires.message c.laws_of_schedules.ensures.values_are_within c.known.ensures.accepted

pub returns-clause-holds : goal.returns-clause-holds
returns-clause-holds g c =
    rw (c.requires.message.kind, ← c.spans-spans.ensures.gap) (holds_add_up.rx.adds _ _ _ _ _ c.hold_cpu.ensures c.hold_rx.ensures)
