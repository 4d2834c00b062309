use Rattle.std.proofs.Common.{ℕ, ◌≡◌, List, Some, slice_get, sym, subst}
use Rattle.goal_graph.specs.declared.action.OpId.{OpId}
use Rattle.goal_graph.specs.Schedule.{operations}
use Rattle.sim_resources.specs.declared.pair.Pair.{Pair}
use Rattle.sim_resources.specs.FreeTimes.{Holds}
use Rattle.sim_resources.specs.Numbering.{AreStationed}
use Rattle.sim_resources.specs.ByNumber.{AreTimesByNumber}
use Rattle.sim_resources.proofs.ByNumber.{times_by_any_number}
use Rattle.sim_resources.proofs.resources.Resources.free_times.Goals as goal

pub returns : goal.returns
returns c =
    let free = c.self.inside.free.items in
    let s = c.self.inside.stations in
    let n = c.self.invariant.0 in
    subst (λ (ts : List ℕ). (numbers : List ℕ) (pairs : List Pair) → AreStationed c.args.self.now.plans numbers pairs → AreTimesByNumber c.args.self.now numbers pairs ts) (sym c.deref.ensures.value)
    (subst (λ (r : Holds). (numbers : List ℕ) (pairs : List Pair) → AreStationed r.plans numbers pairs → AreTimesByNumber r numbers pairs free) c.self.view_is
    (λ numbers pairs a slot x at. times_by_any_number _ s n free c.self.invariant.1 slot x at numbers pairs a))
