use Rattle.std.proofs.Common.{◌≡◌, ◌≤◌, ◌++◌, ℕ, All, List, Option, length, map, take, ap, sym, ◌∙◌, subst, arith}
use Rattle.std.proofs.lemmas.List.{take-append-le, take_all}
use Rattle.goal_graph.specs.declared.action.Timed.{Timed}
use Rattle.sim_queue.specs.Groups.{IsHoused, grouped}
use Rattle.sim_queue.specs.Map.{no_keys}
use Rattle.sim_queue.proofs.ForCallers.{empty_housed, empty_grouped, homes_length}
use Rattle.sim_stations.proofs.slot_groups.SlotGroups.new.Goals as goal

heaps_read_have_no_keys : (len : ℕ) (counts rest read : List ℕ) (heaps : List (List (Option Timed))) → heaps ≡ map (no_keys {K = Timed}) read → read ≡ take len (counts ++ rest) → len ≡ length counts → heaps ≡ map (no_keys {K = Timed}) counts
heaps_read_have_no_keys len counts rest read heaps e f l =
    e ∙ ap (map (no_keys {K = Timed})) (f ∙ take-append-le len counts rest (omega (arith, l)) ∙ take_all len counts (omega (arith, l)))

pub invariant_of-result : goal.invariant_of-result
invariant_of-result c =
    let heaps = heaps_read_have_no_keys _ c.homes.new.counts _ _ _ c.in_ok-heaps.ensures c.deref.ensures.value (omega arith) in
    let each = homes_length c.args.numbers.now c.in_ok-homes.homes.items c.homes.new.counts c.in_ok-homes.ensures.homes in
    let sized = subst (λ n. All (λ count. count ≤ n) c.homes.new.counts) (sym each) c.in_ok-homes.ensures.few in
    subst (IsHoused c.in_ok-homes.homes.items) (sym heaps) (empty_housed c.args.numbers.now c.in_ok-homes.homes.items c.homes.new.counts c.in_ok-homes.ensures.homes (omega (arith, each, c.requires.few)) sized)

pub returns : goal.returns
returns c =
    let heaps = heaps_read_have_no_keys _ c.homes.new.counts _ _ _ c.in_ok-heaps.ensures c.deref.ensures.value (omega arith) in
    ap (grouped c.in_ok-homes.homes.items) heaps ∙ empty_grouped c.args.numbers.now c.in_ok-homes.homes.items c.homes.new.counts c.in_ok-homes.ensures.homes
