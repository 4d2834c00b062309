use Rattle.std.proofs.Common.{ℕ, ◌<◌, ◌≡◌, refl, ◌^◌, [], ◌∷◌, List, length, IsSome, is_some, true≢false, ap, sym, ◌∙◌, arith, Vec, Global}
use Rattle.std.specs.Vec.Iter.{into_iter_items}
use Rattle.std.proofs.lemmas.List.Elements.{All-rest, All-head, All-same}
use Rattle.goal_blocks.specs.Values.{Contribution}
use Rattle.goal_blocks.specs.Stored.{values, written_at, lists_of, IsSorted}
use Rattle.goal_blocks.proofs.Writes.{write_first, write_none, weight_within_limit_after_write}
use Rattle.goal_blocks.proofs.store.Store.fill.Goals as goal

pub loop-value-preserved : goal.loop-value-preserved
loop-value-preserved c =
    let inv = c.loop-value.invariant in
    let rest = c.in-Some.ensures.steps.0 in
    let many = ap length rest in
    let lists = ap (λ (vs : List (Vec Contribution Global)). lists_of vs) rest in
    let slot = c.in-Some-next.slot in
    let first : c.loop-value.left ≡ slot ∷ c.next-in-loop-value.new.self = c.in-Some-next.ensures in
    let low : slot < 2 ^ 32 = omega arith in (
      tt,
      tt,
      omega (arith, many, inv.2, ap length first),
      write_first c.args.rank slot c.loop-value.left c.next-in-loop-value.new.self c.in-Some.value.items (lists_of (into_iter_items c.next.new.self)) _ (values c.loop-value.self) (values c.put.new.self) first lists c.in-Ok.ensures.set ∙ inv.3,
      All-rest IsSorted c.in-Some.value.items (lists_of (into_iter_items c.next.new.self)) _ lists inv.4,
      c.in-Ok.ensures.ranks ∙ inv.5,
      All-rest (λ k. IsSome (written_at c.args.self.now (c.args.rank, k))) slot c.next-in-loop-value.new.self c.loop-value.left first inv.6,
      (λ k some. c.in-Ok.ensures.still k (inv.7 k some)),
      weight_within_limit_after_write c.loop-value.self.ranks c.put.new.self.ranks c.args.rank slot c.in-Some.value.items (lists_of (into_iter_items c.next.new.self)) _ (values c.loop-value.self) (values c.put.new.self) lists c.in-Ok.ensures.set c.in-Ok.ensures.ranks (omega (arith, inv.5, c.requires.rank)) low inv.8,
      omega (arith, c.in-Some.ensures.steps.1, many, inv.9),
    )

pub returns-clause-written : goal.returns-clause-written
returns-clause-written c =
    let inv = c.loop-value.invariant in
    let none : length c.loop-value.left ≡ 0 = omega (arith, c.in-None.ensures.steps.0, inv.9, inv.2) in
    sym (write_none c.args.rank c.loop-value.left _ (values c.loop-value.self) (no_items c.loop-value.left none)) ∙ inv.3
  where
    no_items : (ks : List ℕ) → length ks ≡ 0 → ks ≡ []
    no_items [] e = refl
    no_items (k ∷ ks) e = absurd (omega (arith, e))

pub unreachable-requires : goal.unreachable-requires
unreachable-requires c =
    let inv = c.loop-value.invariant in
    let slot = c.in-Some-next.slot in
    let first : c.loop-value.left ≡ slot ∷ c.next-in-loop-value.new.self = c.in-Some-next.ensures in
    let set = inv.7 slot (All-head (λ k. IsSome (written_at c.args.self.now (c.args.rank, k))) slot c.next-in-loop-value.new.self (All-same (λ k. IsSome (written_at c.args.self.now (c.args.rank, k))) _ _ (sym first) inv.6)) in
    true≢false (sym set ∙ ap is_some c.in-Err.ensures.absent)

pub unreachable-requires-in-None-next : goal.unreachable-requires-in-None-next
unreachable-requires-in-None-next c =
    omega (arith, ap length c.in-None-next.ensures.0, ap length c.in-Some.ensures.steps.0, c.loop-value.invariant.2)
