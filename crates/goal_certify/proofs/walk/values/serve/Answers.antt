use Rattle.std.proofs.Common.{None, ◌<◌, refl, drop, List, slice_get, length, sym, ap, ◌∙◌, subst, arith}
use Rattle.goal_graph.specs.Schedule.{Plan, operations}
use Rattle.goal_graph.specs.Fault.{IsOp}
use Rattle.goal_blocks.specs.Slots.{slots}
use Rattle.goal_blocks.specs.Values.{write}
use Rattle.goal_values.specs.Kept.{values}
use Rattle.goal_certify.proofs.Places.{rank_below}
use Rattle.goal_certify.proofs.SlotFacts.{slots_low}
use Rattle.goal_certify.specs.WalkSoFar.{act_of}
use Rattle.std.proofs.Math.ListN.{length-map}
use Rattle.goal_values.specs.Sums.{meaning}
use Rattle.goal_values.specs.Summed.{payload_values}
use Rattle.goal_certify.specs.Carried.{ParcelValues, values_of_parcel, values_of_parcels}
use Rattle.goal_certify.proofs.Holding.{parcel_values_at, parcel_known_at, parcel_with_values, holding_set}
use Rattle.goal_certify.proofs.Applied.{there_within, op_of_newest_exists, light_before, partner_then, pair_from, as_many, parcel_is, parcel_known, size_within, size_told, received}
use Rattle.goal_certify.proofs.walk.values.serve.Goals as goal
use Rattle.goal_graph.proofs.ForCallers.{partner_exists}

pub partner-requires : goal.partner-requires
partner-requires c =
    op_of_newest_exists _ _ (act_of c.args.action) c.requires.taken.newest c.known.ensures.each

pub unreachable-requires : goal.unreachable-requires
unreachable-requires c =
    c.in_default.not-Some _ (c.partner.ensures ∙ partner_then _ _ (act_of c.args.action) c.requires.taken.newest c.known.ensures.each c.requires.class)

pub index-place-requires : goal.index-place-requires
index-place-requires c =
    subst (λ (ps : List Plan). IsOp ps c.in-Some.send) (sym c.sched.ensures) (partner_exists c.args.walker.now.plans c.args.walker.now.history c.args.action.op c.in-Some.send (sym c.partner.ensures ∙ c.in-Some.is))

pub unreachable-requires-in_default-take_out : goal.unreachable-requires-in_default-take_out
unreachable-requires-in_default-take_out c =
    let plans = c.args.walker.now.plans in
    let hist = c.args.walker.now.history in
    let a = act_of c.args.action in
    let s = c.args.held.now.store in
    let told = values_of_parcels s.sums c.args.held.now.parcels.items in
    let j = c.index-place.result in
    let pair = pair_from plans hist a c.requires.taken.newest c.known.ensures.each c.requires.class c.in-Some.send (sym c.partner.ensures ∙ c.in-Some.is) in
    let at = ap (λ (ps : List Plan). slice_get (operations ps) j) (sym c.sched.ensures) ∙ c.index-place.ensures.index in
    let first = c.requires.taken.held.0 in
    let so_far = c.requires.taken.held.1 in
    let inside = there_within plans hist a c.requires.taken.newest c.known.ensures.each first s.kept told c.args.held.now.carried so_far.carrying j c.in-Some.send at in
    let one = parcel_with_values s.sums c.args.held.now.parcels.items j inside _ (parcel_is plans hist a c.requires.taken.newest c.known.ensures.each c.requires.class c.in-Some.send pair first s.kept told c.args.held.now.carried so_far.carrying j at) in
    c.in_default-take_out.not-Some _ (c.take_out.ensures.taken ∙ one.1)

pub take-requires-clause-exists : goal.take-requires-clause-exists
take-requires-clause-exists c =
    subst (λ (ps : List Plan). IsOp ps c.args.action.op) (sym c.requires.taken.table_is) (op_of_newest_exists _ _ (act_of c.args.action) c.requires.taken.newest c.known.ensures.each)

pub overflow_sub-held : goal.overflow_sub-held
overflow_sub-held c =
    let plans = c.args.walker.now.plans in
    let hist = c.args.walker.now.history in
    let a = act_of c.args.action in
    let s = c.args.held.now.store in
    let told = values_of_parcels s.sums c.args.held.now.parcels.items in
    let j = c.index-place.result in
    let pair = pair_from plans hist a c.requires.taken.newest c.known.ensures.each c.requires.class c.in-Some.send (sym c.partner.ensures ∙ c.in-Some.is) in
    let at = ap (λ (ps : List Plan). slice_get (operations ps) j) (sym c.sched.ensures) ∙ c.index-place.ensures.index in
    let first = c.requires.taken.held.0 in
    let so_far = c.requires.taken.held.1 in
    let inside = there_within plans hist a c.requires.taken.newest c.known.ensures.each first s.kept told c.args.held.now.carried so_far.carrying j c.in-Some.send at in
    let raw = sym c.take_out.ensures.taken ∙ c.in-Some-take_out.is in
    let e = parcel_values_at s.sums c.args.held.now.parcels.items j inside c.in-Some-take_out.parcel raw in
    size_within plans hist a c.requires.taken.newest c.known.ensures.each c.requires.class c.in-Some.send pair first s.kept told c.args.held.now.carried so_far.carrying j at (values_of_parcel s.sums c.in-Some-take_out.parcel) e

pub take-requires-clause-payload : goal.take-requires-clause-payload
take-requires-clause-payload c =
    let plans = c.args.walker.now.plans in
    let hist = c.args.walker.now.history in
    let a = act_of c.args.action in
    let s = c.args.held.now.store in
    let told = values_of_parcels s.sums c.args.held.now.parcels.items in
    let j = c.index-place.result in
    let pair = pair_from plans hist a c.requires.taken.newest c.known.ensures.each c.requires.class c.in-Some.send (sym c.partner.ensures ∙ c.in-Some.is) in
    let at = ap (λ (ps : List Plan). slice_get (operations ps) j) (sym c.sched.ensures) ∙ c.index-place.ensures.index in
    let first = c.requires.taken.held.0 in
    let so_far = c.requires.taken.held.1 in
    let inside = there_within plans hist a c.requires.taken.newest c.known.ensures.each first s.kept told c.args.held.now.carried so_far.carrying j c.in-Some.send at in
    let raw = sym c.take_out.ensures.taken ∙ c.in-Some-take_out.is in
    parcel_known_at s.sums c.args.held.now.parcels.items j inside so_far.known c.in-Some-take_out.parcel raw

pub take-requires-clause-lengths : goal.take-requires-clause-lengths
take-requires-clause-lengths c =
    let plans = c.args.walker.now.plans in
    let hist = c.args.walker.now.history in
    let a = act_of c.args.action in
    let s = c.args.held.now.store in
    let told = values_of_parcels s.sums c.args.held.now.parcels.items in
    let j = c.index-place.result in
    let pair = pair_from plans hist a c.requires.taken.newest c.known.ensures.each c.requires.class c.in-Some.send (sym c.partner.ensures ∙ c.in-Some.is) in
    let at = ap (λ (ps : List Plan). slice_get (operations ps) j) (sym c.sched.ensures) ∙ c.index-place.ensures.index in
    let first = c.requires.taken.held.0 in
    let so_far = c.requires.taken.held.1 in
    let inside = there_within plans hist a c.requires.taken.newest c.known.ensures.each first s.kept told c.args.held.now.carried so_far.carrying j c.in-Some.send at in
    let raw = sym c.take_out.ensures.taken ∙ c.in-Some-take_out.is in
    let e = parcel_values_at s.sums c.args.held.now.parcels.items j inside c.in-Some-take_out.parcel raw in
    let known = parcel_known plans hist a c.requires.taken.newest c.known.ensures.each c.requires.class c.in-Some.send pair first s.kept told c.args.held.now.carried so_far.carrying j at (values_of_parcel s.sums c.in-Some-take_out.parcel) e in
    ap (λ (ps : List Plan). length (slots ps c.args.action.op)) c.requires.taken.table_is ∙ as_many plans hist a c.requires.taken.newest c.known.ensures.each c.requires.class c.in-Some.send pair c.requires.ends.channels c.requires.ends.lengths first ∙ sym (ap (λ (q : ParcelValues). length q.payload) known) ∙ length-map c.in-Some-take_out.parcel.payload.terms.items (meaning s.sums)

pub take-requires-clause-light : goal.take-requires-clause-light
take-requires-clause-light c =
    let plans = c.args.walker.now.plans in
    let hist = c.args.walker.now.history in
    let a = act_of c.args.action in
    let s = c.args.held.now.store in
    let told = values_of_parcels s.sums c.args.held.now.parcels.items in
    let j = c.index-place.result in
    let pair = pair_from plans hist a c.requires.taken.newest c.known.ensures.each c.requires.class c.in-Some.send (sym c.partner.ensures ∙ c.in-Some.is) in
    let at = ap (λ (ps : List Plan). slice_get (operations ps) j) (sym c.sched.ensures) ∙ c.index-place.ensures.index in
    let first = c.requires.taken.held.0 in
    let so_far = c.requires.taken.held.1 in
    let inside = there_within plans hist a c.requires.taken.newest c.known.ensures.each first s.kept told c.args.held.now.carried so_far.carrying j c.in-Some.send at in
    let raw = sym c.take_out.ensures.taken ∙ c.in-Some-take_out.is in
    let e = parcel_values_at s.sums c.args.held.now.parcels.items j inside c.in-Some-take_out.parcel raw in
    omega (arith, size_within plans hist a c.requires.taken.newest c.known.ensures.each c.requires.class c.in-Some.send pair first s.kept told c.args.held.now.carried so_far.carrying j at (values_of_parcel s.sums c.in-Some-take_out.parcel) e, size_told plans hist a c.requires.taken.newest c.known.ensures.each c.requires.class c.in-Some.send pair first s.kept told c.args.held.now.carried so_far.carrying j at (values_of_parcel s.sums c.in-Some-take_out.parcel) e, light_before plans hist a c.requires.taken.newest c.known.ensures.each first s.kept told c.args.held.now.carried so_far.carrying)

pub returns-in-Ok-clause-follows : goal.returns-in-Ok-clause-follows
returns-in-Ok-clause-follows c = λ first so_far.
    let plans = c.args.walker.now.plans in
    let hist = c.args.walker.now.history in
    let a = act_of c.args.action in
    let s = c.args.held.now.store in
    let told = values_of_parcels s.sums c.args.held.now.parcels.items in
    let j = c.index-place.result in
    let pair = pair_from plans hist a c.requires.taken.newest c.known.ensures.each c.requires.class c.in-Some.send (sym c.partner.ensures ∙ c.in-Some.is) in
    let at = ap (λ (ps : List Plan). slice_get (operations ps) j) (sym c.sched.ensures) ∙ c.index-place.ensures.index in
    let x = c.args.action.op in
    let inside = there_within plans hist a c.requires.taken.newest c.known.ensures.each first s.kept told c.args.held.now.carried so_far.carrying j c.in-Some.send at in
    let raw = sym c.take_out.ensures.taken ∙ c.in-Some-take_out.is in
    let e = parcel_values_at s.sums c.args.held.now.parcels.items j inside c.in-Some-take_out.parcel raw in
    let there = op_of_newest_exists plans hist a c.requires.taken.newest c.known.ensures.each in
    let below : x.rank < s.kept.ranks = omega (arith, rank_below plans x there, so_far.carrying.ranks) in
    let put = c.in-Ok.ensures.written ∙ ap (λ (ps : List Plan). write x.rank (slots ps x) (payload_values s.sums c.in-Some-take_out.parcel.payload) (values s.kept)) c.requires.taken.table_is in
    holding_set plans first hist c.args.held.now.parcels.items s c.take.new.store (drop 1 hist) c.args.held.now.carried _ j None _ c.take_out.ensures.after so_far c.take.ensures.sums tt (received plans hist a c.requires.taken.newest c.known.ensures.each c.requires.class c.in-Some.send pair first s.kept told c.args.held.now.carried so_far.carrying j at (values_of_parcel s.sums c.in-Some-take_out.parcel) e c.take.new.store.kept _ _ below (slots_low plans c.requires.taken.small x there) put c.take.ensures.ranks refl refl)
