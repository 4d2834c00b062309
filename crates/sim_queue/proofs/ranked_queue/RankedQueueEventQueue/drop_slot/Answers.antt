use Rattle.std.proofs.Common.{◌<◌, ◌≤◌, ◌^◌, All, None, length, set, sym, ap, ◌∙◌, subst, arith}
use Rattle.std.proofs.lemmas.List.{length-map}
use Rattle.sim_queue.specs.Groups.{heap_at}
use Rattle.sim_queue.specs.Ranked.{Ranked}
use Rattle.sim_queue.specs.Ranks.{IsTold}
use Rattle.sim_queue.proofs.ForCallers.{home_read, heap_read}
use Rattle.sim_queue.proofs.Ranking.{still_ranked, changed_ranked, size_within}
use Rattle.sim_queue.proofs.ranked_queue.RankedQueueEventQueue.drop_slot.Goals as goal

pub invariant_of-self : goal.invariant_of-self
invariant_of-self g c =
    let homes = c.self.inside.homes.items in
    let starts = c.self.inside.starts.items in
    let heaps = c.self.inside.heaps.items in
    let heads = c.self.inside.heads in
    let home = c.index-home.result.now in
    let housed = c.self.invariant.housed in
    let within : c.args.slot < length homes = omega (arith, c.if-slot-len.false, c.len.ensures, c.self.inside.homes.ok.0) in
    let at = home_read homes heaps housed c.args.slot home within c.index-home.ensures in
    let heap = heap_read homes heaps housed home.group c.index_mut.result.now (housed.group_in c.args.slot home at) c.index_mut.ensures.value in
    let told = subst (λ hs. IsTold g.K.EventOrder.before (heap_at hs home.group) heads c.tell.new.heads home.group) c.deref.ensures.value c.tell.ensures.told in
    still_ranked g.K.EventOrder.before homes starts heaps heads c.self.invariant c.args.slot home at None c.index_mut.result.now c.drop_slot.new.self heap c.drop_slot.ensures.dropped c.tell.new.heads told

pub returns-clause-dropped : goal.returns-clause-dropped
returns-clause-dropped g c =
    let homes = c.self.inside.homes.items in
    let starts = c.self.inside.starts.items in
    let heaps = c.self.inside.heaps.items in
    let heads = c.self.inside.heads in
    let home = c.index-home.result.now in
    let housed = c.self.invariant.housed in
    let within : c.args.slot < length homes = omega (arith, c.if-slot-len.false, c.len.ensures, c.self.inside.homes.ok.0) in
    let at = home_read homes heaps housed c.args.slot home within c.index-home.ensures in
    let heap = heap_read homes heaps housed home.group c.index_mut.result.now (housed.group_in c.args.slot home at) c.index_mut.ensures.value in
    changed_ranked g.K.EventOrder.before homes starts heaps heads c.self.invariant c.args.slot home at None c.index_mut.result.now c.drop_slot.new.self heap c.drop_slot.ensures.dropped ∙ ap (λ (q : Ranked _). record { keys = set q.keys c.args.slot None; sizes = q.sizes }) c.self.view_is

pub returns-clause-counted : goal.returns-clause-counted
returns-clause-counted g c =
    λ k j sizes ranks.
    let homes = c.self.inside.homes.items in
    let starts = c.self.inside.starts.items in
    let heaps = c.self.inside.heaps.items in
    let heads = c.self.inside.heads in
    let home = c.index-home.result.now in
    let housed = c.self.invariant.housed in
    let within : c.args.slot < length homes = omega (arith, c.if-slot-len.false, c.len.ensures, c.self.inside.homes.ok.0) in
    let at = home_read homes heaps housed c.args.slot home within c.index-home.ensures in
    let heap = heap_read homes heaps housed home.group c.index_mut.result.now (housed.group_in c.args.slot home at) c.index_mut.ensures.value in
    let all = subst (λ (q : Ranked _). All (λ size. size ≤ 2 ^ k) q.sizes) (sym c.self.view_is) sizes in
    let few : length c.index_mut.result.now ≤ 2 ^ k = rw heap (size_within heaps home.group (2 ^ k) (housed.group_in c.args.slot home at) all) in
    let many : length heads ≤ 2 ^ j = omega (arith, ranks, c.self.invariant.each, ap (λ (q : Ranked _). length q.sizes) c.self.view_is, length-map heaps (λ h. length h)) in
    omega (arith, c.drop_slot.ensures.counted k few, c.tell.ensures.counted j many)
