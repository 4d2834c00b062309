use Rattle.std.proofs.Common.{ℕ, ◌≡◌, ◌==◌, get_or, ap, sym, ◌∙◌, arith, ⊎_elim, eq-eqb, refl}
use Rattle.std.proofs.lemmas.Bool.{cases_eq, false_from_ne_true, eqb-true}
use Rattle.goal_blocks.specs.Values.{Contribution}
use Rattle.goal_blocks.proofs.Wishes.{item_of, found_up_to_next_rank, next_is_later, has_each, lacks_one, has_not_one_if_at_no_place, place_of}
use Rattle.goal_blocks.proofs.wanted.has_of_each.Goals as goal
use Rattle.goal_blocks.proofs.wanted.has_of_each.Goals.{then-next-count+then-one-next+then-one-eq0, else-next-count, else-next-count-via-then-next-count+then-one-next+else-one-eq0, else-next-count-via-then-next-count+else-one-next, else-next-count-via-else-next-count}

pub loop-one-preserved : goal.loop-one-preserved
loop-one-preserved c =
    let inv = c.loop-one.invariant in
    let one : Contribution = get_or c.args.value.now c.loop-one.one-index (item_of 0 0) in
    elim c.if-next-count.branch [
      | then-next-count+then-one-next+then-one-eq0 w ↦ rw w.next-is (
        omega (arith, w.if-next-count.true),
        found_up_to_next_rank c.args.value.now c.loop-one.next c.loop-one.one-index one (omega (arith, c.loop-one-test.true)) refl w.if-one-next.true w.if-one-eq0.true inv.1,
        (λ few k b e. next_is_later c.args.value.now k c.loop-one.one-index c.loop-one.next (item_of 0 0) c.requires (omega (arith, b)) (omega (arith, c.loop-one-test.true)) (place_of one c.loop-one.next w.if-one-next.true w.if-one-eq0.true) e),
      )
      | else-next-count w ↦ rw w.next-is (
        inv.0,
        inv.1,
        (λ few k b e. ⊎_elim (λ last.
            let here : one ≡ item_of c.loop-one.next 0 = ap (λ (n : ℕ). get_or c.args.value.now n (item_of 0 0)) (sym last) ∙ e in
            let rank = ap (λ (x : Contribution). x.rank) here in
            let item = ap (λ (x : Contribution). x.item) here in
            elim w.else-next-count.branch [
              | else-next-count-via-then-next-count+then-one-next+else-one-eq0 v ↦ omega (arith, item, v.if-one-eq0.false)
              | else-next-count-via-then-next-count+else-one-next v ↦ omega (arith, rank, v.if-one-next.false)
              | else-next-count-via-else-next-count v ↦ omega (arith, few, v.if-next-count.false)
            ]) (λ ne. inv.2 few k (omega (arith, b, ne)) e) (cases_eq k c.loop-one.one-index)),
      )
    ]

pub returns : goal.returns
returns c =
    let inv = c.loop-one.invariant in
    ⊎_elim (λ e. eq-eqb c.loop-one.next c.args.count e ∙ has_each c.args.value.now c.args.count (λ q l. inv.1 q (omega (arith, l, e))))
    (λ ne. false_from_ne_true (c.loop-one.next == c.args.count) (λ t. ne (eqb-true c.loop-one.next c.args.count t))
    ∙ lacks_one c.args.value.now c.args.count c.loop-one.next (omega (arith, ne, inv.0)) (has_not_one_if_at_no_place c.args.value.now (item_of c.loop-one.next 0) (item_of 0 0) (λ k l e. inv.2 (omega (arith, ne, inv.0)) k (omega (arith, l, c.loop-one-test.false)) e)))
    (cases_eq c.loop-one.next c.args.count)
