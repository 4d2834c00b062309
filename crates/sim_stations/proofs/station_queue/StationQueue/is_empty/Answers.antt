use Rattle.std.proofs.Common.{◌≡◌, Bool, true, false, not, List, Option, Some, None, is_some, IsTrue, IfSome, refl, subst}
use Rattle.goal_graph.specs.declared.action.Timed.{Timed}
use Rattle.sim_queue.specs.Map.{IsEmptyMap}
use Rattle.sim_queue.specs.Groups.{Grouped}
use Rattle.sim_stations.specs.declared.key_place.KeyPlace.{KeyPlace}
use Rattle.sim_stations.specs.declared.station_queue.Look.{Look}
use Rattle.sim_stations.specs.Stations.{Stationed}
use Rattle.sim_stations.specs.Rows.{Rowed}
use Rattle.sim_stations.specs.Kept.{IsKept, IsFirstOfAll, seen_of}
use Rattle.sim_stations.proofs.Least.{not_empty, seen_empty_if_both_empty}
use Rattle.sim_stations.proofs.station_queue.StationQueue.is_empty.Goals as goal

-- whether there is a first key
true_iff_no_key_seen : (ahead : List (Option Timed)) (waiting : Grouped Timed) (rows : Rowed) (stands : List KeyPlace) → IsKept ahead waiting rows stands → (r : Option Look) → (is_some r ≡ false → IsEmptyMap ahead × IsEmptyMap rows.keys) → IfSome r (λ f. IsFirstOfAll ahead rows f.key f.is_ahead) → (b : Bool) → is_some r ≡ not b → (IsTrue b → IsEmptyMap (seen_of ahead waiting rows)) × (IsEmptyMap (seen_of ahead waiting rows) → IsTrue b)
true_iff_no_key_seen ahead waiting rows stands kept None none first true e = (λ t. let both = none refl in seen_empty_if_both_empty ahead waiting rows stands kept both.0 both.1, λ empty. refl)
true_iff_no_key_seen ahead waiting rows stands kept None none first false e = absurd (cc)
true_iff_no_key_seen ahead waiting rows stands kept (Some f) none first true e = absurd (cc)
true_iff_no_key_seen ahead waiting rows stands kept (Some f) none first false e = (λ t. absurd (cc), λ empty. absurd (not_empty ahead waiting rows stands kept f.key f.is_ahead first empty))

pub returns-clause-empty : goal.returns-clause-empty
returns-clause-empty g c =
    let q = c.self.inside in
    let t = true_iff_no_key_seen q.ahead q.waiting q.rows q.stands.items c.self.invariant.0 c.first.result c.first.ensures.none.0 c.first.ensures.first c.is_none.result c.is_none.ensures in
    subst (λ (s : Stationed). (IsTrue c.is_none.result → IsEmptyMap s.keys) × (IsEmptyMap s.keys → IsTrue c.is_none.result)) c.self.view_is t
