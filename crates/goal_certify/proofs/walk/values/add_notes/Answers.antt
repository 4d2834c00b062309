use Rattle.std.proofs.Common.{◌+◌, ◌^◌, ◌<◌, ◌≤◌, ℕ, List, inr, length, get_or, refl, ap, ◌∙◌, subst, arith}
use Rattle.goal_limits.specs.Limits.{weight_limit}
use Rattle.goal_blocks.specs.declared.slots.Adding.{Adding}
use Rattle.goal_blocks.specs.Values.{merge, set_slot}
use Rattle.goal_values.specs.Kept.{values}
use Rattle.goal_values.proofs.ForCallers.{has_grown_reflexive, has_grown_transitive}
use Rattle.goal_certify.proofs.Places.{rank_below}
use Rattle.goal_certify.proofs.SlotFacts.{adds_low, notes_added_at_start, added_next, added_over}
use Rattle.goal_certify.proofs.walk.values.add_notes.Goals as goal

abbrev none : Adding
none = record { from = 0; to = 0 }

pub loop-adding-init : goal.loop-adding-init
loop-adding-init c = record {
  added = notes_added_at_start _ _ _ _ _ c.requires.light;
  grown = has_grown_reflexive c.args.store.now.sums;
}

pub size_at-requires : goal.size_at-requires
size_at-requires c =
    omega (arith, rank_below c.args.table.now c.args.calc c.requires.exists, c.requires.ranks, c.loop-adding.invariant.added.same)

pub returns-then-total-gt-MAX_WEIGHT-clause-over : goal.returns-then-total-gt-MAX_WEIGHT-clause-over
returns-then-total-gt-MAX_WEIGHT-clause-over c =
    let items = c.adds_of-adding-items.ensures in
    let k = c.loop-adding.adding-index in
    let rank = c.args.calc.rank in
    let now = values c.loop-adding.store.kept in
    let inside = subst (λ (xs : List Adding). k < length xs) items c.loop-adding-test.true in
    let below : rank < c.args.store.now.kept.ranks = omega (arith, rank_below c.args.table.now c.args.calc c.requires.exists, c.requires.ranks) in
    let size = c.size_at.ensures.size ∙ ap (λ (xs : List Adding). length (now rank (get_or xs k none).from)) items in
    let heavy : weight_limit < c.held.result + c.args.others + c.size_at.result = omega (arith, c.if-total-gt-MAX_WEIGHT.true) in
    inr (c.held.result + c.args.others + c.size_at.result, refl, added_over _ _ _ _ now _ _ k c.loop-adding.invariant.added none inside below (adds_low c.args.table.now c.requires.small c.args.calc c.requires.exists) c.size_at.result _ size (ap (λ (n : ℕ). n + c.args.others + c.size_at.result) c.held.ensures) heavy)

pub add-requires-clause-rank : goal.add-requires-clause-rank
add-requires-clause-rank c =
    omega (arith, rank_below c.args.table.now c.args.calc c.requires.exists, c.requires.ranks, c.loop-adding.invariant.added.same)

pub loop-adding-preserved : goal.loop-adding-preserved
loop-adding-preserved c =
    let items = c.adds_of-adding-items.ensures in
    let k = c.loop-adding.adding-index in
    let rank = c.args.calc.rank in
    let now = values c.loop-adding.store.kept in
    let inside = subst (λ (xs : List Adding). k < length xs) items c.loop-adding-test.true in
    let below : rank < c.args.store.now.kept.ranks = omega (arith, rank_below c.args.table.now c.args.calc c.requires.exists, c.requires.ranks) in
    let size = c.size_at.ensures.size ∙ ap (λ (xs : List Adding). length (now rank (get_or xs k none).from)) items in
    let few : c.held.result + c.args.others + c.size_at.result ≤ weight_limit = omega (arith, c.if-total-gt-MAX_WEIGHT.false) in
    let put = c.in-Ok.ensures.added ∙ ap (λ (xs : List Adding). set_slot rank (get_or xs k none).to (merge (now rank (get_or xs k none).to) (now rank (get_or xs k none).from)) now) items in
    record {
      added = added_next _ _ _ _ now _ _ k c.loop-adding.invariant.added none inside below (adds_low c.args.table.now c.requires.small c.args.calc c.requires.exists) c.size_at.result _ size (ap (λ (n : ℕ). n + c.args.others + c.size_at.result) c.held.ensures) few (values c.add.new.self.kept) c.add.new.self.kept.ranks put c.add.ensures.ranks;
      grown = has_grown_transitive c.args.store.now.sums c.loop-adding.store.sums c.add.new.self.sums c.loop-adding.invariant.grown c.add.ensures.grown;
    }
