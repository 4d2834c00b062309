use Rattle.std.proofs.Common.{◌≡◌, ◌∷◌, [], ◌++◌, ◌+◌, List, length, length-append, sym, subst, arith}
use Rattle.sim_resources.specs.declared.station.Station.{Station}
use Rattle.sim_resources.specs.Numbering.{latest_at, IsNotAfter, IsNew, ArePlaced, HasNumber}
use Rattle.sim_resources.proofs.Placing.{placed_after_write, appended_station_has_number}
use Rattle.sim_resources.proofs.station.Stations.add.Goals as goal

-- the stations and the places that are left
placed_after_add : (c : goal.After-self-1) → ArePlaced c.push.new.self.items (latest_at c.set.new.self)
placed_after_add c =
    let seen = c.self.inside.seen.items in
    let by_rank = subst (λ (xs : List Station). IsNotAfter xs c.args.station.rank) (sym c.self.view_is) c.requires.by_rank in
    let new = subst (λ (xs : List Station). IsNew xs c.args.station) (sym c.self.view_is) c.requires.new in
    let more = placed_after_write seen (latest_at c.self.inside.places) c.self.invariant.0 c.args.station c.requires.plain by_rank new c.args.at c.self.inside.count c.requires.place c.self.invariant.1 (latest_at c.set.new.self) c.in_ok-set.ensures.set c.in_ok-set.ensures.others in
    subst (λ (xs : List Station). ArePlaced xs (latest_at c.set.new.self)) (sym c.push.ensures) more

pub invariant_of-self-2 : goal.invariant_of-self-2
invariant_of-self-2 c =
    let seen = c.self.inside.seen.items in
    let size : length (seen ++ c.args.station ∷ []) ≡ length seen + 1 = length-append seen (c.args.station ∷ []) in
    (placed_after_add c, subst (λ (xs : List Station). c.self.inside.count + 1 ≡ length xs) (sym c.push.ensures) (omega (arith, size, c.self.invariant.1)))

pub returns-clause-number : goal.returns-clause-number
returns-clause-number c =
    let seen = c.self.inside.seen.items in
    subst (λ (xs : List Station). HasNumber xs c.push.new.self.items c.args.station c.self.inside.count) c.self.view_is (subst (λ (xs : List Station). HasNumber seen xs c.args.station c.self.inside.count) (sym c.push.ensures) (subst (HasNumber seen (seen ++ c.args.station ∷ []) c.args.station) (sym c.self.invariant.1) (appended_station_has_number seen c.args.station)))

pub returns-clause-once : goal.returns-clause-once
returns-clause-once c = (placed_after_add c).once
