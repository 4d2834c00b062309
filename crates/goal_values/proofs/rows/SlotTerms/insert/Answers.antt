use Rattle.std.proofs.Common.{ℕ, ◌<◌, List, length, ap, sym, subst, arith}
use Rattle.std.proofs.lemmas.List.{length-map}
use Rattle.goal_values.specs.declared.sums.Term.{Term}
use Rattle.goal_values.specs.Rows.{HasSameSlots}
use Rattle.goal_values.proofs.SlotRows.{has_set, has_same, set_if_ok, same_if_err}
use Rattle.goal_values.proofs.rows.SlotTerms.insert.Goals as goal

pub returns-clause-set : goal.returns-clause-set
returns-clause-set c =
    let maps = c.self.inside.of_ranks.items in
    let same = subst (HasSameSlots c.args.self.now) (sym c.self.view_is) c.in_ok-make_room.ensures.same in
    let within : c.args.rank < length maps = omega (arith, c.in_ok-make_room.ensures.room, ap (λ (rows : List (List (ℕ × Term))). length rows) c.self.view_is, length-map maps (λ row. row.entries)) in
    set_if_ok _ _ _ _ _ _ c.insert_in.result c.insert_in.ensures.set (has_set _ maps c.args.rank c.index_mut.result.now c.insert_in.new.row same within c.index_mut.ensures.value c.args.slot c.args.term)

pub returns-clause-unchanged : goal.returns-clause-unchanged
returns-clause-unchanged c =
    let maps = c.self.inside.of_ranks.items in
    let same = subst (HasSameSlots c.args.self.now) (sym c.self.view_is) c.in_ok-make_room.ensures.same in
    let within : c.args.rank < length maps = omega (arith, c.in_ok-make_room.ensures.room, ap (λ (rows : List (List (ℕ × Term))). length rows) c.self.view_is, length-map maps (λ row. row.entries)) in
    same_if_err _ _ _ c.insert_in.result c.insert_in.ensures.unchanged (has_same _ maps c.args.rank c.index_mut.result.now c.insert_in.new.row same within c.index_mut.ensures.value)
