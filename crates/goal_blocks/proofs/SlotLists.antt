-- Lists of slots, note by note.
use Rattle.std.proofs.Common.{ℕ, ◌+◌, ◌-◌, ◌<◌, ◌≤◌, ◌≡◌, ◌≢◌, ◌⊎◌, inl, inr, true, eq-eqb, List, [], ◌∷◌, ◌++◌, length, take, get_or, flat_map, Option, Some, None, slice_get, refl, sym, ap, ◌∙◌, subst, arith, append-nil, is_some, unwrap_or}
use Rattle.std.specs.Option.{option_map, option_and_then}
use Rattle.std.proofs.lemmas.Bool.{cases_lt, true≢false, ne_eqb}
use Rattle.std.proofs.lemmas.Option.{slice_get_within, slice_get-get_or}
use Rattle.std.proofs.lemmas.List.{take_more, get_or_append_left, get_or-append-add}
use Rattle.std.proofs.lemmas.List.Concat.{flat_map-cons}
use Rattle.std.proofs.lemmas.Grind.{flat_map-append}
use Rattle.goal_graph.specs.declared.action.OpId.{OpId}
use Rattle.goal_graph.specs.declared.plan.Note.{Note}
use Rattle.goal_graph.specs.declared.plan.Note.TheVariants.{Moves}
use Rattle.goal_graph.specs.Schedule.{Plan, op_at}
use Rattle.goal_graph.specs.Fault.{IsOp}
use Rattle.goal_blocks.specs.Slots.{slots_from, notes_at, moved_by, added_by, slots, adds}

pub slots_none : (lo : ℕ) → slots_from lo 0 ≡ []
unfolding slots_from
slots_none lo = refl

-- taking the next note
pub flat_map_of_next_note : {A : Type 0} (f : Note → List A) (notes : List Note) (i : ℕ) (d : Note) → i < length notes → flat_map f (take (i + 1) notes) ≡ flat_map f (take i notes) ++ f (get_or notes i d)
flat_map_of_next_note f notes i d l =
    ap (flat_map f) (take_more notes i d l) ∙ flat_map-append f (take i notes) (get_or notes i d ∷ []) ∙ ap (λ xs. flat_map f (take i notes) ++ xs) (flat_map-cons f (get_or notes i d) [] ∙ append-nil (f (get_or notes i d)))

-- if P holds for all elements and for x, it holds for all after x is appended
pub each_holds_after_append : {X : Type 0} (P : X → Type 0) (xs : List X) (x : X) (n : ℕ) (d : X) → length xs ≡ n → ((k : ℕ) → k < n → P (get_or xs k d)) → P x → (k : ℕ) → k < n + 1 → P (get_or (xs ++ x ∷ []) k d)
each_holds_after_append P xs x n d long each last k h = go (cases_lt k n)
  where
    go : (k < n) ⊎ (n ≤ k) → P (get_or (xs ++ x ∷ []) k d)
    go (inl l) = subst P (sym (get_or_append_left xs (x ∷ []) d k (omega (arith, l, long)))) (each k l)
    go (inr l) =
        let at : k ≡ length xs + 0 = omega (arith, h, l, long) in
        subst P (sym (ap (λ j. get_or (xs ++ x ∷ []) j d) at ∙ get_or-append-add xs (x ∷ []) 0 d)) last

-- the same for a note that is known
module _ {A : Type 0} (f : Note → List A) (notes : List Note) (i : ℕ) (d n : Note) (inside : i < length notes) (is : get_or notes i d ≡ n) where
  pub known_note_appends_items : flat_map f (take (i + 1) notes) ≡ flat_map f (take i notes) ++ f n
  known_note_appends_items = flat_map_of_next_note f notes i d inside ∙ ap (λ m. flat_map f (take i notes) ++ f m) is

  pub known_note_appends_nothing : f n ≡ [] → flat_map f (take (i + 1) notes) ≡ flat_map f (take i notes)
  known_note_appends_nothing none =
      known_note_appends_items ∙ ap (λ xs. flat_map f (take i notes) ++ xs) none ∙ append-nil (flat_map f (take i notes))

-- the operation of the note, or another
pub own_moves : (of op lo hi : ℕ) → of ≡ op → moved_by op (Moves of lo hi) ≡ slots_from lo (hi + 1 - lo)
own_moves of op lo hi same = rw (eq-eqb of op same) refl

pub other_moves : (of op lo hi : ℕ) → of ≢ op → moved_by op (Moves of lo hi) ≡ []
other_moves of op lo hi other = rw (ne_eqb of op other) refl

module _ (plans : List Plan) (x : OpId) (is : IsOp plans x) where
  pub rank_below : x.rank < length plans
  unfolding op_at
  rank_below = go (slice_get plans x.rank) refl is
    where
      go : (o : Option Plan) → slice_get plans x.rank ≡ o → is_some (option_and_then (λ (p : Plan). slice_get p.ops x.op) o) ≡ true → x.rank < length plans
      go None e some = absurd (true≢false (sym some))
      go (Some p) e some = slice_get_within plans x.rank p e

  pub op_below : (d : Plan) → x.op < length (get_or plans x.rank d).ops
  unfolding op_at
  op_below d =
      let there = slice_get-get_or plans x.rank d rank_below in
      go (slice_get (get_or plans x.rank d).ops x.op) refl (subst (λ (o : Option Plan). is_some (option_and_then (λ (p : Plan). slice_get p.ops x.op) o) ≡ true) there is)
    where
      go : (o : _) → slice_get (get_or plans x.rank d).ops x.op ≡ o → is_some o ≡ true → x.op < length (get_or plans x.rank d).ops
      go None e some = absurd (true≢false (sym some))
      go (Some p) e some = slice_get_within (get_or plans x.rank d).ops x.op p e

  pub notes_at_existing_rank : (d : Plan) → notes_at plans x.rank ≡ (get_or plans x.rank d).notes
  unfolding notes_at
  notes_at_existing_rank d = ap (λ (o : Option Plan). unwrap_or (option_map (λ (p : Plan). p.notes) o) []) (slice_get-get_or plans x.rank d rank_below)

  pub slots_of_existing_op : (d : Plan) → slots plans x ≡ flat_map (moved_by x.op) (get_or plans x.rank d).notes
  unfolding slots
  slots_of_existing_op d = ap (flat_map (moved_by x.op)) (notes_at_existing_rank d)

  pub adds_of_existing_op : (d : Plan) → adds plans x ≡ flat_map (added_by x.op) (get_or plans x.rank d).notes
  unfolding adds
  adds_of_existing_op d = ap (flat_map (added_by x.op)) (notes_at_existing_rank d)
