use Rattle.std.proofs.Common.{ℕ, ◌+◌, ◌^◌, ◌≤◌, inl, List, IsSome, Contains, refl, ◌∙◌, length, sym, subst}
use Rattle.std.specs.List.{sum_by}
use Rattle.goal_limits.specs.Limits.{weight_limit}
use Rattle.goal_blocks.specs.Values.{Value}
use Rattle.goal_blocks.specs.Stored.{written_at}
use Rattle.goal_blocks.specs.Weight.{stored}
use Rattle.goal_blocks.proofs.Writes.{taken_slots_with_next, taken_slots_are_all}
use Rattle.goal_blocks.proofs.store.Store.write.Goals as goal

pub loop-slot-init : goal.loop-slot-init
loop-slot-init c = record {
  same = refl;
  ranks = refl;
  set = λ k there. inl (subst (λ (ks : List ℕ). Contains ks k) (sym c.iter-left.ensures) there);
}

pub loop-slot-preserved : goal.loop-slot-preserved
loop-slot-preserved c =
    let inv = c.loop-slot.invariant in
    let made = c.in_ok-make_room.ensures in
    record {
      same = made.same ∙ inv.same;
      ranks = made.ranks ∙ inv.ranks;
      set = taken_slots_with_next (λ k. IsSome (written_at c.loop-slot.self (c.args.rank, k))) (λ k. IsSome (written_at c.make_room.new.self (c.args.rank, k))) c.args.slots.now c.loop-slot.left c.next.new.self c.in-Some.slot c.in-Some.ensures made.still made.is_set inv.set;
    }

pub fill-requires-clause-set : goal.fill-requires-clause-set
fill-requires-clause-set c =
    let P : ℕ → Type 0 = λ k. IsSome (written_at c.loop-slot.self (c.args.rank, k)) in
    taken_slots_are_all P P c.args.slots.now c.loop-slot.left c.in_default.ensures.0 c.loop-slot.invariant.set

pub fill-requires-clause-light : goal.fill-requires-clause-light
fill-requires-clause-light c =
    subst (λ (n : ℕ). n ≤ weight_limit) (sym (λ i. stored (c.loop-slot.invariant.ranks i) (c.loop-slot.invariant.same i) + sum_by (λ (v : Value). length v) (c.payload.view_is i))) c.requires.light
