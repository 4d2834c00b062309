use Rattle.std.proofs.Common.{◌≡◌, List, Some, slice_get, sym, subst, ◌∙◌}
use Rattle.std.specs.Option.{IfSome, IfNone}
use Rattle.std.proofs.lemmas.Option.{IfSome_then}
use Rattle.sim_resources.specs.declared.station.Station.{Station}
use Rattle.sim_resources.specs.Numbering.{place, latest_at, IsPlain, IsNotAfter, IsNew}
use Rattle.sim_resources.proofs.Placing.{latest_gives_number_of_station, no_latest_is_new_station, if_none_map}
use Rattle.sim_resources.proofs.station.Stations.find.Goals as goal

pub returns-clause-some : goal.returns-clause-some
returns-clause-some c =
    let latest = latest_at c.self.inside.places in
    subst (λ (seen : List Station). IfSome c.given.result (λ number. (s : Station) → IsPlain s → s.rank ≡ c.args.rank → place s ≡ c.args.at → slice_get seen number ≡ Some s)) c.self.view_is
    (IfSome_then c.given.result c.given.ensures.some (λ number is s plain rank at. latest_gives_number_of_station c.self.inside.seen.items latest c.self.invariant.0 c.args.rank c.args.at s rank at number plain (sym c.get.ensures ∙ is)))

pub returns-clause-none : goal.returns-clause-none
returns-clause-none c =
    let latest = latest_at c.self.inside.places in
    subst (λ (seen : List Station). IfNone c.given.result ((s : Station) → IsNotAfter seen s.rank → s.rank ≡ c.args.rank → place s ≡ c.args.at → IsNew seen s)) c.self.view_is
    (if_none_map c.given.result (λ none s last rank at. no_latest_is_new_station c.self.inside.seen.items latest c.self.invariant.0 c.args.rank c.args.at s rank at last (λ number e. none number (c.get.ensures ∙ e))) c.given.ensures.none)
