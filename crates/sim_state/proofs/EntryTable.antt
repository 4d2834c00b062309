-- The table of entries, after one of them is changed.
use Rattle.std.proofs.Common.{◌≡◌, ℕ, List, map, get_or, slice_get, slice_set, Some, ap, ◌∙◌}
use Rattle.goal_graph.specs.declared.action.OpId.{OpId}
use Rattle.goal_graph.specs.Schedule.{Plan, operations}
use Rattle.goal_graph.proofs.ForCallers.{get_or_mapped, written_entry}
use Rattle.sim_state.specs.declared.entry.OpState.{OpState}
use Rattle.sim_state.specs.Tables.{with_entry}

pub entry_changed : (plans : List Plan) (i : ℕ) (x : OpId) (entries : List OpState) (f : OpId → OpState) (change : OpState → OpState) (d : OpState) → entries ≡ map f (operations plans) → slice_get (operations plans) i ≡ Some x → slice_set entries i (change (get_or entries i d)) ≡ map (with_entry x (change (f x)) f) (operations plans)
entry_changed plans i x entries f change d table is =
    ap (λ (es : List OpState). slice_set es i (change (get_or es i d))) table ∙ ap (λ (e : OpState). slice_set (map f (operations plans)) i (change e)) (get_or_mapped f (operations plans) i x d is) ∙ written_entry plans i x (change (f x)) f is
