-- Cursors advance as needs are met, and stay valid as more happens.
use Rattle.std.proofs.Common.{◌≡◌, ℕ, ◌<◌, ◌≤◌, Bool, true, false, ◌&&◌, List, [], ◌∷◌, length, take, get_or, replicate, slice_get, Some, inl, inr, refl, sym, ap, ap₂, ◌∙◌, subst, arith}
use Rattle.std.specs.List.{list_all}
use Rattle.std.proofs.lemmas.List.Folds.{list_all_at}
use Rattle.std.proofs.lemmas.List.{take_all, length-replicate, get_or-replicate}
use Rattle.std.proofs.lemmas.Option.{slice_get_within, get_or_from_slice_get}
use Rattle.goal_graph.specs.declared.action.OpId.{OpId}
use Rattle.goal_graph.specs.declared.plan.Need.{Need}
use Rattle.goal_graph.specs.declared.plan.When.{When}
use Rattle.goal_graph.specs.declared.plan.When.TheVariants.{AfterEnd, AfterStart}
use Rattle.goal_graph.specs.Schedule.{Plan, needs, needed, operations}
use Rattle.goal_graph.specs.Action.{Act}
use Rattle.goal_graph.specs.Allowed.{is_met, is_ready}
use Rattle.goal_graph.proofs.ForCallers.{and_left, and_right, started_stays, ended_stays, length-put, put_at}
use Rattle.goal_certify.specs.declared.walk.cursor.Cursor.{Cursor}
use Rattle.goal_certify.specs.Cursors.{is_there, IsCursorOf, AreCursors}
use Rattle.goal_graph.specs.Entries.{IsEntryOf, put_entry}

abbrev pub start : Cursor
start = record { at = 0 }

module _ (plans : List Plan) (eager : OpId → Bool) (h : List Act) (x : OpId) where
  -- before the first need
  pub cursor_start : IsCursorOf plans eager h x start
  cursor_start = record { within = omega arith; met = refl }

  module _ (items : List Need) (are : items ≡ needs plans x) where
    -- a need that is not met
    pub unmet_unready : (k : ℕ) (d : Need) → k < length items → is_there plans eager h x (get_or items k d) ≡ false → is_ready plans eager h x ≡ false
    unfolding is_ready
    unmet_unready k d l absent =
        subst (λ ds. list_all (is_there plans eager h x) ds ≡ false) are (list_all_at (is_there plans eager h x) items k d l absent)

    -- after all needs
    pub cursor_ready : (c : Cursor) → IsCursorOf plans eager h x c → length items ≤ c.at → is_ready plans eager h x ≡ true
    unfolding is_ready
    cursor_ready c cur l =
        let all : take c.at (needs plans x) ≡ needs plans x = take_all c.at (needs plans x) (omega (arith, l, ap length are)) in
        sym (ap (list_all (is_there plans eager h x)) all) ∙ cur.met

  -- the cursors after one of them has advanced
  pub cursors_put : (read : List Plan) (cursors : List Cursor) (c : Cursor) → AreCursors plans eager h cursors → read ≡ plans → IsCursorOf plans eager h x c → AreCursors plans eager h (put_entry (operations read) x c cursors)
  cursors_put read cursors c cur same new =
      subst (λ (ps : List Plan). AreCursors plans eager h (put_entry (operations ps) x c cursors)) (sym same) (record {
        each = length-put (operations plans) x c cursors ∙ cur.each;
        are = λ slot y d at here. elim (put_at (operations plans) x c cursors slot y d at here) [ inl p ↦ subst (λ (z : OpId). IsCursorOf plans eager h z d) (sym p.0) (subst (λ (k : Cursor). IsCursorOf plans eager h x k) (sym p.1) new) | inr was ↦ cur.are slot y d at was ];
      })

  -- the cursor at the operation's index
  pub cursor_read : (read : List Plan) (cursors : List Cursor) (c : Cursor) → AreCursors plans eager h cursors → read ≡ plans → IsEntryOf read cursors x c → IsCursorOf plans eager h x c
  cursor_read read cursors c cur same entry =
      cur.are entry.slot x c (ap (λ (ps : List Plan). slice_get (operations ps) entry.slot) (sym same) ∙ entry.is_slot) entry.is_entry

-- before any need has been tested
pub cursors_start : (plans : List Plan) (eager : OpId → Bool) (h : List Act) (n : ℕ) (cursors : List Cursor) → n ≡ length (operations plans) → cursors ≡ replicate n start → AreCursors plans eager h cursors
cursors_start plans eager h n cursors count made = record {
  each = ap length made ∙ length-replicate n start ∙ count;
  are = λ slot x c at here. subst (λ (d : Cursor). IsCursorOf plans eager h x d) (is slot c here) (cursor_start plans eager h x);
}
  where
    is : (slot : ℕ) (c : Cursor) → slice_get cursors slot ≡ Some c → start ≡ c
    is slot c here =
        let there : slice_get (replicate n start) slot ≡ Some c = ap (λ (cs : List Cursor). slice_get cs slot) (sym made) ∙ here in
        let within : slot < n = omega (arith, slice_get_within (replicate n start) slot c there, length-replicate n start) in
        sym (get_or-replicate n slot start start within) ∙ get_or_from_slice_get (replicate n start) slot c start there

module _ (plans : List Plan) (eager : OpId → Bool) (a : Act) (h : List Act) where
  -- a start or end that has happened stays
  met_kept : (w : When) (y : OpId) → is_met plans eager h w y ≡ true → is_met plans eager (a ∷ h) w y ≡ true
  met_kept AfterEnd y e = ended_stays plans eager a h y e
  met_kept AfterStart y e = started_stays plans a h y e

  all_kept : (x : OpId) (ds : List Need) → list_all (is_there plans eager h x) ds ≡ true → list_all (is_there plans eager (a ∷ h) x) ds ≡ true
  all_kept x [] e = refl
  all_kept x (d ∷ ds) e =
      ap₂ (λ (s t : Bool). s && t) (met_kept d.when (needed x d) (and_left _ _ e)) (all_kept x ds (and_right _ _ e))

  pub cursors_kept : (cursors : List Cursor) → AreCursors plans eager h cursors → AreCursors plans eager (a ∷ h) cursors
  cursors_kept cursors cur = record {
    each = cur.each;
    are = λ slot x c at here. let was = cur.are slot x c at here in record { within = was.within; met = all_kept x (take c.at (needs plans x)) was.met };
  }
