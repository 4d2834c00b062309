use Rattle.std.proofs.Common.{◌≡◌, true, List, drop, inl, inr, sym, ap, ◌∙◌, subst}
use Rattle.goal_graph.specs.declared.action.Class.{Class}
use Rattle.goal_graph.specs.Schedule.{Plan, op_at, IsSend, IsReceive}
use Rattle.goal_graph.specs.Fault.{IsOp}
use Rattle.goal_graph.specs.Laws.{IsCalc}
use Rattle.goal_graph.specs.Allowed.{allowed}
use Rattle.goal_graph.proofs.ForCallers.{kind_from_op, allowed_begin, not_receive_calc, not_send_receive}
use Rattle.goal_blocks.specs.Walk.{no_send}
use Rattle.goal_blocks.specs.Slots.{adds}
use Rattle.goal_blocks.specs.Values.{add_all}
use Rattle.goal_values.specs.Kept.{values}
use Rattle.goal_certify.specs.WalkSoFar.{act_of}
use Rattle.goal_certify.proofs.Holding.{holding_grown}
use Rattle.goal_certify.specs.Carried.{values_of_parcels, AddsOver, AddsWithin}
use Rattle.goal_certify.proofs.Applied.{on_ok_combined, err_map, over_map, split_history_is_interleaving, op_of_newest_exists, light_before, begun_calc, begun_over, begun_send}
use Rattle.goal_certify.proofs.walk.values.begin.Goals as goal

pub op-requires : goal.op-requires
op-requires c =
    subst (λ (ps : List Plan). IsOp ps c.args.action.op) (sym c.sched.ensures) (op_of_newest_exists _ _ (act_of c.args.action) c.requires.taken.newest c.known.ensures.each)

pub add_notes-requires-clause-light : goal.add_notes-requires-clause-light
add_notes-requires-clause-light c =
    light_before _ _ (act_of c.args.action) c.requires.taken.newest c.known.ensures.each c.requires.taken.held.0 c.args.held.now.store.kept (values_of_parcels c.args.held.now.store.sums c.args.held.now.parcels.items) c.args.held.now.carried c.requires.taken.held.1.carrying

pub unreachable-requires : goal.unreachable-requires
unreachable-requires c =
    let plans = c.args.walker.now.plans in
    let x = c.args.action.op in
    let is = sym (ap (λ (ps : List Plan). op_at ps x) c.sched.ensures) ∙ c.op.ensures.op in
    let receive : IsReceive plans x = record { room = c.in-Recv.bytes; from = c.in-Recv.from; tag = c.in-Recv.tag; kind = kind_from_op plans x c.op.result.now _ is c.in-Recv.is } in
    let inter = split_history_is_interleaving _ _ (act_of c.args.action) c.requires.taken.newest c.known.ensures.each in
    let begins = allowed_begin plans no_send (drop 1 c.args.walker.now.history) x (subst (λ (k : Class). allowed plans no_send (drop 1 c.args.walker.now.history) k x ≡ true) c.requires.class inter.1) in
    elim begins.0 [ inl calc ↦ not_receive_calc plans x receive calc | inr sends ↦ not_send_receive plans x sends receive ]

pub returns-in-Calc-clause-follows : goal.returns-in-Calc-clause-follows
returns-in-Calc-clause-follows c =
    let plans = c.args.walker.now.plans in
    let x = c.args.action.op in
    let s = c.args.held.now.store in
    let is = sym (ap (λ (ps : List Plan). op_at ps x) c.sched.ensures) ∙ c.op.ensures.op in
    let calc : IsCalc plans x = record { nanos = c.in-Calc.nanos; kind = kind_from_op plans x c.op.result.now _ is c.in-Calc.is } in
    on_ok_combined _ _ _ c.add_notes.result (λ p q first so_far. holding_grown plans first c.args.walker.now.history c.args.held.now.parcels.items s c.add_notes.new.store (drop 1 c.args.walker.now.history) c.args.held.now.carried c.args.held.now.carried so_far c.add_notes.ensures.grown (begun_calc plans c.args.walker.now.history (act_of c.args.action) c.requires.taken.newest c.known.ensures.each first s.kept (values_of_parcels s.sums c.args.held.now.parcels.items) c.args.held.now.carried so_far.carrying c.requires.class calc c.add_notes.new.store.kept (p ∙ ap (λ (ps : List Plan). add_all x.rank (adds ps x) (values s.kept)) c.requires.taken.table_is) c.add_notes.ensures.ranks (subst (λ (ps : List Plan). AddsWithin s.kept.ranks x.rank (adds ps x) (values s.kept) c.args.held.now.carried) c.requires.taken.table_is q))) c.add_notes.ensures.added c.add_notes.ensures.within

pub returns-in-Calc-clause-over : goal.returns-in-Calc-clause-over
returns-in-Calc-clause-over c =
    let plans = c.args.walker.now.plans in
    let x = c.args.action.op in
    let s = c.args.held.now.store in
    let is = sym (ap (λ (ps : List Plan). op_at ps x) c.sched.ensures) ∙ c.op.ensures.op in
    let calc : IsCalc plans x = record { nanos = c.in-Calc.nanos; kind = kind_from_op plans x c.op.result.now _ is c.in-Calc.is } in
    err_map _ _ c.add_notes.result (λ fault over first so_far. over_map _ _ fault (λ total o. begun_over plans c.args.walker.now.history (act_of c.args.action) c.requires.taken.newest c.known.ensures.each first s.kept (values_of_parcels s.sums c.args.held.now.parcels.items) c.args.held.now.carried so_far.carrying calc total (subst (λ (ps : List Plan). AddsOver s.kept.ranks x.rank (adds ps x) (values s.kept) c.args.held.now.carried total) c.requires.taken.table_is o)) over) c.add_notes.ensures.over

pub returns-in-Send-clause-follows : goal.returns-in-Send-clause-follows
returns-in-Send-clause-follows c =
    let plans = c.args.walker.now.plans in
    let x = c.args.action.op in
    let s = c.args.held.now.store in
    let is = sym (ap (λ (ps : List Plan). op_at ps x) c.sched.ensures) ∙ c.op.ensures.op in
    let sends : IsSend plans x = record { bytes = c.in-Send.bytes; to = c.in-Send.to; tag = c.in-Send.tag; kind = kind_from_op plans x c.op.result.now _ is c.in-Send.is } in
    λ first so_far. record {
      carrying = begun_send plans c.args.walker.now.history (act_of c.args.action) c.requires.taken.newest c.known.ensures.each first s.kept (values_of_parcels s.sums c.args.held.now.parcels.items) c.args.held.now.carried so_far.carrying c.requires.class sends;
      known = so_far.known;
    }
