use Rattle.std.proofs.Common.{ℕ, ◌+◌, ◌-◌, Option, Some, Ok, refl, sym, ap, ◌∙◌, arith}
use Rattle.std.proofs.lemmas.Result.{err_from_is_err_and}
use Rattle.goal_binary.proofs.Packed.{read_of}
use Rattle.goal_binary.proofs.FromLast.{byte_before_is_high, groups_from_byte_before, last_group, no_groups_left, missing_last_group_fails}
use Rattle.goal_binary.proofs.fields.groups_at.Goals as goal
use Rattle.goal_binary.proofs.fields.groups_at.Goals.{then-more-left, else-more-left+in_ok-last}

pub returns-in_err-last : goal.returns-in_err-last
returns-in_err-last c =
    let more = c.groups_before_last-more in
    let f = c.in_err-last.field-0.0 in
    let gone = sym c.in_err-last.ensures in
    let p = err_from_is_err_and c.from_residual.result c.from_residual.ensures.1 in
    rw (missing_last_group_fails c.args.bytes.now c.args.left more.result c.args.at f (omega arith) more.ensures.each gone, p.1, p.2) refl

pub loop-place-init : goal.loop-place-init
loop-place-init c =
    let bytes = c.args.bytes.now in
    let more = c.groups_before_last-more in
    let last_at = c.args.at + more.result in
    let left = c.args.left - (last_at - c.args.at) in
    record {
      from = omega arith;
      to = omega arith;
      so_far = elim c.if-more-left.branch [
        | then-more-left w ↦ no_groups_left bytes left last_at (omega arith) ∙ ap (λ (p : Option ℕ × ℕ). Ok p) (sym w.groups-is)
        | else-more-left+in_ok-last w ↦
            let read = sym w.in_ok-last.ensures in
            let last : ℕ × ℕ = (w.in_ok-last.last, w.in_ok-last.after) in
            last_group bytes left last_at last (omega arith) (more.ensures.ends (omega arith)) read
            ∙ ap (λ (n : ℕ). Ok (read_of (Some n) w.in_ok-last.after)) (sym w.from.ensures)
            ∙ ap (λ (p : Option ℕ × ℕ). Ok p) (sym w.groups-is)
      ];
    }

pub overflow_sub-bytes : goal.overflow_sub-bytes
overflow_sub-bytes c =
    let more = c.groups_before_last-more in
    let i = c.loop-place.invariant in
    byte_before_is_high c.args.bytes.now more.result c.args.at c.loop-place.place more.ensures.each c.loop-place-test.true i.to

pub loop-place-preserved : goal.loop-place-preserved
loop-place-preserved c =
    let bytes = c.args.bytes.now in
    let at = c.args.at in
    let place = c.loop-place.place in
    let more = c.groups_before_last-more in
    let i = c.loop-place.invariant in
    let some = c.loop-place-test.true in
    let high = byte_before_is_high bytes more.result at place more.ensures.each some i.to in
    let after = c.if-more-left.groups.1 in
    record {
      from = omega arith;
      to = omega arith;
      so_far = rw c.below-groups.ensures
          (groups_from_byte_before bytes c.args.left at place c.loop-place.groups after some (omega arith) high i.so_far);
    }
