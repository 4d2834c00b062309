use Rattle.std.proofs.Common.{ℕ, List, ◌≡◌, ◌<◌, ◌^◌, ◌+◌, [], ◌∷◌, length, map, drop, get_or, refl, ap, sym, ◌∙◌, arith}
use Rattle.std.specs.List.{sum_by}
use Rattle.goal_blocks.specs.SlotRanges.{slots_in}
use Rattle.goal_blocks.specs.Values.{Value, Store, write, set_slot}
use Rattle.goal_values.specs.Kept.{values}
use Rattle.goal_blocks.proofs.ForCallers.{write_first, write_none, weight_within_limit_after_write}
use Rattle.goal_values.specs.declared.sums.Term.{Term}
use Rattle.goal_values.specs.declared.sums.Term.TheVariants.{Nothing}
use Rattle.goal_values.specs.Sums.{meaning}
use Rattle.goal_values.proofs.Writing.{next_value, next_size, set_elsewhere}
use Rattle.goal_values.proofs.values.SlotValues.write.Goals as goal

pub loop-term-init : goal.loop-term-init
loop-term-init c =
    let sums = c.args.self.now.sums in
    let terms = ap (λ (ts : List Term). map (meaning sums) ts) c.as_slice-terms.ensures.value in
    record {
      sums = refl;
      ranks = refl;
      many = omega (arith, ap length c.new-slots.ensures, c.requires.lengths, ap length c.as_slice-terms.ensures.value);
      left = ap (λ (ks : List ℕ). write c.args.rank ks (map (meaning sums) c.as_slice-terms.result.now) (values c.args.self.now.kept)) c.new-slots.ensures;
      light = omega (arith, c.requires.light, ap (λ vs. sum_by (λ (v : Value). length v) vs) terms);
      others = λ r k apart. refl;
    }

pub unreachable-requires : goal.unreachable-requires
unreachable-requires c = omega (arith, c.loop-term-test.true, c.loop-term.invariant.many, ap length c.in-None.ensures.0)

pub put-requires-clause-room : goal.put-requires-clause-room
put-requires-clause-room c =
    omega (arith, c.loop-term.invariant.light, next_size c.args.self.now.sums c.as_slice-terms.result.now c.loop-term.term-index c.loop-term-test.true, ap (λ (sums : List Value). length (meaning sums (get_or c.as_slice-terms.result.now c.loop-term.term-index Nothing))) c.loop-term.invariant.sums)

pub loop-term-preserved : goal.loop-term-preserved
loop-term-preserved c =
    let terms = c.as_slice-terms.result.now in
    let at = c.loop-term.term-index in
    let sums = c.args.self.now.sums in
    let inv = c.loop-term.invariant in
    let slot = c.in-Some.slot in
    let value : Value = meaning sums (get_or terms at Nothing) in
    let others : List Value = drop (at + 1) (map (meaning sums) terms) in
    let first : c.loop-term.slots ≡ slot ∷ c.next.new.self = c.in-Some.ensures in
    let low : slot < 2 ^ 32 = omega arith in
    let next = next_value sums terms at c.loop-term-test.true in
    let set = c.in_ok-put-in-Some.ensures.set ∙ ap (λ (ss : List Value). set_slot c.args.rank slot (meaning ss (get_or terms at Nothing)) (values c.loop-term.self.kept)) inv.sums in
    record {
      sums = c.in_ok-put-in-Some.ensures.sums ∙ inv.sums;
      ranks = c.in_ok-put-in-Some.ensures.ranks ∙ inv.ranks;
      many = omega (arith, inv.many, ap length first);
      left = write_first c.args.rank slot c.loop-term.slots c.next.new.self value others (drop at (map (meaning sums) terms)) (values c.loop-term.self.kept) (values c.put.new.self.kept) first next set ∙ inv.left;
      light = weight_within_limit_after_write c.loop-term.self.kept.ranks c.put.new.self.kept.ranks c.args.rank slot value others (drop at (map (meaning sums) terms)) (values c.loop-term.self.kept) (values c.put.new.self.kept) next set c.in_ok-put-in-Some.ensures.ranks (omega (arith, inv.ranks, c.requires.rank)) low inv.light;
      others = λ r k apart.
          ap (λ (s : Store). s r k) set ∙ set_elsewhere c.args.rank _ _ (values c.loop-term.self.kept) r k apart ∙ inv.others r k apart;
    }

pub returns-clause-written : goal.returns-clause-written
returns-clause-written c =
    let terms = c.as_slice-terms.result.now in
    let sums = c.args.self.now.sums in
    let none : length c.loop-term.slots ≡ 0 = omega (arith, c.loop-term-test.false, c.loop-term.invariant.many) in
    sym (write_none c.args.rank c.loop-term.slots _ (values c.loop-term.self.kept) (no_items c.loop-term.slots none)) ∙ c.loop-term.invariant.left
    ∙ ap (λ (ts : List Term). write c.args.rank (slots_in c.args.ranges.now) (map (meaning sums) ts) (values c.args.self.now.kept)) c.as_slice-terms.ensures.value
  where
    no_items : (ks : List ℕ) → length ks ≡ 0 → ks ≡ []
    no_items [] e = refl
    no_items (k ∷ ks) e = absurd (omega (arith, e))
