use Rattle.std.proofs.Common.{◌≡◌, ℕ, List, Result, Ok, Err, IfOk, None, replicate, false, length, [], sym, subst}
use Rattle.sim_params.specs.Costs.{CostModel}
use Rattle.sim_resources.specs.declared.pair.Pair.{Pair}
use Rattle.sim_stations.specs.declared.key_place.KeyPlace.TheVariants.{Nowhere}
use Rattle.sim_resources.specs.Numbering.{DoExist, AreStationed}
use Rattle.sim_events.specs.Queue.{IsOfSchedule}
use Rattle.sim_stations.specs.Moves.{HaveReturned}
use Rattle.sim_events.specs.Changes.{HaveChanged}
use Rattle.sim_events.proofs.Changes.{changed_at_start}
use Rattle.sim_events.proofs.Queue.{new_queue}
use Rattle.sim_events.proofs.pending.queue_of.Goals as goal

-- what holds of a value that was made for another reason
if_ok_implied : {T E : Type 0} (P Q : T → Type 0) (r : Result T E) → IfOk r P → ((q : T) → P q → Q q) → IfOk r Q
if_ok_implied P Q (Ok q) p to = to q p
if_ok_implied P Q (Err e) p to = p

pub returns-clause-of_it : goal.returns-clause-of_it
returns-clause-of_it g c =
    let plans = c.args.state.now.plans in
    let stations = c.stations-stations.result.now in
    let numbered = c.stations-stations.ensures in
    let stationed = subst (λ (ps : List Pair). AreStationed plans c.deref.result.now ps) (sym c.deref-2.ensures.value) (subst (λ (ns : List ℕ). AreStationed plans ns stations.pairs.items) (sym c.deref.ensures.value) numbered.stationed) in
    let exist = subst (λ (ps : List Pair). DoExist ps stations.resources) (sym c.deref-2.ensures.value) numbered.exist in
    if_ok_implied (λ q. q ≡ record { keys = replicate (length c.deref.result.now) None; stations = c.deref.result.now; stands = replicate (length c.deref.result.now) Nowhere; pairs = c.deref-2.result.now; turned = replicate (length c.deref-2.result.now) false; free = replicate stations.resources 0; found = None }) (λ q. (costs : CostModel) → IsOfSchedule plans costs [] q) c.new.result c.new.ensures.queue (λ q is costs. new_queue plans costs c.deref.result.now c.deref-2.result.now stations.resources q stationed exist is)

pub returns-clause-changed : goal.returns-clause-changed
returns-clause-changed g c =
    if_ok_implied (λ q. HaveReturned q.pairs q.turned q.free (replicate c.stations-stations.result.now.resources 0) (replicate (length c.deref-2.result.now) 0)) (λ q. (all : ℕ) × HaveChanged c.args.state.now.plans [] q all) c.new.result c.new.ensures.returned (λ q returned. changed_at_start c.args.state.now.plans q c.stations-stations.result.now.resources (length c.deref-2.result.now) returned)
