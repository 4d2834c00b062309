use Rattle.std.proofs.Common.{ℕ, ◌≡◌, ⊎_elim, sym, ap, ◌∙◌, true≢false, arith}
use Rattle.std.proofs.lemmas.Bool.{cases_lt}
use Rattle.goal_certify.specs.Races.{is_open}
use Rattle.goal_certify.proofs.OpenPairs.{none_skipped}
use Rattle.goal_certify.proofs.races.search.next_open.Goals as goal
use Rattle.goal_certify.proofs.races.search.next_open.Goals.{else-next-count-via-then-next-count+else-is_open, else-next-count-via-else-next-count}

pub loop-second-preserved : goal.loop-second-preserved
loop-second-preserved c = record {
  above = omega (arith, c.loop-second.invariant.above, c.skip-next.ensures.above);
  none = λ y low high within both.
      ⊎_elim (λ passed. none_skipped c.args.before.now c.args.shared.now c.args.first c.loop-second.second c.skip-next.result c.args.count c.loop-second.invariant.none c.skip-next.ensures.none y low passed within both) (λ here. let same : y ≡ c.skip-next.result = omega (arith, here, high) in elim c.else-next-count.branch [
        | else-next-count-via-then-next-count+else-is_open w ↦ true≢false (sym both ∙ ap (λ (z : ℕ). is_open c.args.before.now c.args.shared.now c.args.first z) same ∙ sym w.is_open.ensures ∙ w.if-is_open.false)
        | else-next-count-via-else-next-count w ↦ omega (arith, same, within)
      ]) (cases_lt y c.skip-next.result);
}

pub returns-then-is_open : goal.returns-then-is_open
returns-then-is_open c =
    (omega (arith, c.loop-second.invariant.above, c.skip-next.ensures.above), omega arith, sym c.is_open.ensures ∙ c.if-is_open.true, λ y low high both. none_skipped c.args.before.now c.args.shared.now c.args.first c.loop-second.second c.skip-next.result c.args.count c.loop-second.invariant.none c.skip-next.ensures.none y low high (omega arith) both)
