use Rattle.std.proofs.Common.{◌≡◌, ◌+◌, ◌^◌, ◌≤◌, List, map, drop, Some, slice_get, refl, ap, ◌∙◌, sym, subst}
use Rattle.goal_limits.specs.Limits.{weight_limit}
use Rattle.goal_graph.specs.Schedule.{operations}
use Rattle.goal_blocks.specs.Slots.{slots}
use Rattle.goal_blocks.specs.Weight.{stored}
use Rattle.goal_blocks.specs.Faults.{IsTooHeavy}
use Rattle.goal_values.specs.Kept.{values}
use Rattle.goal_certify.specs.Carried.{size_of, values_of_parcel, values_of_parcels, parcel_of}
use Rattle.goal_certify.proofs.Holding.{holding_set}
use Rattle.goal_graph.specs.Schedule.{Plan}
use Rattle.goal_graph.specs.Fault.{IsOp}
use Rattle.goal_certify.specs.WalkSoFar.{act_of}
use Rattle.goal_certify.proofs.Applied.{over_map, op_of_newest_exists, slot_there, light_before, sent, sent_over}
use Rattle.goal_certify.proofs.walk.values.send.Goals as goal

pub hand_over-requires-clause-exists : goal.hand_over-requires-clause-exists
hand_over-requires-clause-exists c =
    subst (λ (ps : List Plan). IsOp ps c.args.action.op) (sym c.requires.taken.table_is) (op_of_newest_exists _ _ (act_of c.args.action) c.requires.taken.newest c.known.ensures.each)

pub hand_over-requires-clause-light : goal.hand_over-requires-clause-light
hand_over-requires-clause-light c =
    light_before _ _ (act_of c.args.action) c.requires.taken.newest c.known.ensures.each c.requires.taken.held.0 c.args.held.now.store.kept (values_of_parcels c.args.held.now.store.sums c.args.held.now.parcels.items) c.args.held.now.carried c.requires.taken.held.1.carrying

pub index-place-requires : goal.index-place-requires
index-place-requires c =
    subst (λ (ps : List Plan). IsOp ps c.args.action.op) (sym c.sched.ensures) (op_of_newest_exists _ _ (act_of c.args.action) c.requires.taken.newest c.known.ensures.each)

pub returns-clause-follows : goal.returns-clause-follows
returns-clause-follows c =
    let plans = c.args.walker.now.plans in
    let x = c.args.action.op in
    let s = c.args.held.now.store in
    let j = c.index-place.result in
    let at = ap (λ (ps : List Plan). slice_get (operations ps) j) (sym c.sched.ensures) ∙ c.index-place.ensures.index in
    let is = c.in-Ok.ensures.parcel ∙ ap (λ (ps : List Plan). parcel_of (map (values s.kept x.rank) (slots ps x))) c.requires.taken.table_is in
    let few = subst (λ (ps : List Plan). stored s.kept.ranks (values s.kept) + c.args.held.now.carried + size_of (map (values s.kept x.rank) (slots ps x)) ≤ weight_limit) c.requires.taken.table_is c.in-Ok.ensures.within in
    λ first so_far. holding_set plans first c.args.walker.now.history c.args.held.now.parcels.items s s (drop 1 c.args.walker.now.history) c.args.held.now.carried _ j (Some c.in-Ok.parcel) _ c.put_in.ensures so_far refl c.in-Ok.ensures.payload (sent plans c.args.walker.now.history (act_of c.args.action) c.requires.taken.newest c.known.ensures.each first s.kept (values_of_parcels s.sums c.args.held.now.parcels.items) c.args.held.now.carried so_far.carrying c.requires.class j at (values_of_parcel s.sums c.in-Ok.parcel) _ _ is refl refl few)

pub returns-in-Err-clause-over : goal.returns-in-Err-clause-over
returns-in-Err-clause-over c =
    let plans = c.args.walker.now.plans in
    let hist = c.args.walker.now.history in
    let a = act_of c.args.action in
    let x = c.args.action.op in
    let s = c.args.held.now.store in
    let slot = slot_there plans hist a c.requires.taken.newest c.known.ensures.each in
    λ first so_far. over_map _ _ c.in-Err.fault (λ total o. sent_over plans hist a c.requires.taken.newest c.known.ensures.each first s.kept (values_of_parcels s.sums c.args.held.now.parcels.items) c.args.held.now.carried so_far.carrying c.requires.class slot.0 slot.1 total (subst (λ (ps : List Plan). (stored s.kept.ranks (values s.kept) + c.args.held.now.carried + size_of (map (values s.kept x.rank) (slots ps x)) ≡ total) × IsTooHeavy total) c.requires.taken.table_is o)) c.in-Err.ensures.over
