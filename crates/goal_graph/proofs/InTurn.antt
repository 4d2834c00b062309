-- A list built newest first, and the same list read oldest first: what holds of each item and those before it.
use Rattle.std.proofs.Common.{ℕ, zero, suc, ◌<◌, ◌≡◌, List, [], ◌∷◌, ◌++◌, length, take, reverse, slice_get, Some, inl, inr, refl, sym, ap, ◌∙◌, subst, arith, length-append}
use Rattle.std.proofs.lemmas.Bool.{cases_order}
use Rattle.std.proofs.lemmas.List.{take-append-le, reverse-reverse}
use Rattle.std.proofs.lemmas.Option.{slice_get_within, same_Some}
use Rattle.std.proofs.Math.Seq.{take-append_seam}
use mathlib.Core.List.{reverse-cons}
use Rattle.goal_graph.proofs.Lists.{get_last}

slice_get_kept : {A : Type 0} (xs : List A) (y : A) (k : ℕ) → k < length xs → slice_get (xs ++ y ∷ []) k ≡ slice_get xs k
slice_get_kept [] y k lt = absurd (omega arith)
slice_get_kept (x ∷ xs) y zero lt = refl
slice_get_kept (x ∷ xs) y (suc k) lt = slice_get_kept xs y k (omega arith)

-- `Next h a`: a may follow h, which is newest first
module _ {A : Type 0} (Next : List A → A → Type 0) where
  -- in a list, oldest first, each item may follow those before it
  abbrev pub InTurn : List A → Type 0
  InTurn trace = (k : ℕ) (a : A) → slice_get trace k ≡ Some a → Next (reverse (take k trace)) a

  -- another item at the end
  in_turn_more : (t : List A) (a : A) → InTurn t → Next (reverse t) a → InTurn (t ++ a ∷ [])
  in_turn_more t a each next k b e =
      elim (cases_order k (length t)) [ inl s ↦ at_end s | inr (inl lt) ↦ before lt | inr (inr gt) ↦ past gt ]
    where
      before : k < length t → Next (reverse (take k (t ++ a ∷ []))) b
      before lt =
          subst (λ l. Next (reverse l) b) (sym (take-append-le k t (a ∷ []) (omega arith))) (each k b (sym (slice_get_kept t a k lt) ∙ e))

      at_end : k ≡ length t → Next (reverse (take k (t ++ a ∷ []))) b
      at_end s =
          let same : a ≡ b = same_Some a b (sym (get_last t a) ∙ ap (slice_get (t ++ a ∷ [])) (sym s) ∙ e) in
          let front : take k (t ++ a ∷ []) ≡ t = ap (λ n. take n (t ++ a ∷ [])) s ∙ take-append_seam t (a ∷ []) in
          subst (λ l. Next (reverse l) b) (sym front) (subst (λ c. Next (reverse t) c) same next)

      past : length t < k → Next (reverse (take k (t ++ a ∷ []))) b
      past gt = absurd (omega (arith, slice_get_within (t ++ a ∷ []) k b e, length-append t (a ∷ [])))

  in_turn_less : (t : List A) (a : A) → InTurn (t ++ a ∷ []) → InTurn t × Next (reverse t) a
  in_turn_less t a each = (front, last)
    where
      front : InTurn t
      front k b e =
          let lt : k < length t = slice_get_within t k b e in
          subst (λ l. Next (reverse l) b) (take-append-le k t (a ∷ []) (omega arith)) (each k b (slice_get_kept t a k lt ∙ e))

      last : Next (reverse t) a
      last =
          subst (λ l. Next (reverse l) a) (take-append_seam t (a ∷ [])) (each (length t) a (get_last t a))

  -- `Run h`: each item of h may follow those before it
  module _ (Run : List A → Type 0) (none : Run []) (more : (a : A) (h : List A) → Run h → Next h a → Run (a ∷ h)) (parts : (a : A) (h : List A) → Run (a ∷ h) → Run h × Next h a) where
    pub run_in_turn : (h : List A) → Run h → InTurn (reverse h)
    run_in_turn [] r = λ k b e. absurd (cc e)
    run_in_turn (a ∷ h) r =
        let both = parts a h r in
        subst InTurn (sym (reverse-cons a h)) (in_turn_more (reverse h) a (run_in_turn h both.0) (subst (λ l. Next l a) (sym (reverse-reverse h)) both.1))

    pub in_turn_run : (h : List A) → InTurn (reverse h) → Run h
    in_turn_run [] each = none
    in_turn_run (a ∷ h) each =
        let both = in_turn_less (reverse h) a (subst InTurn (reverse-cons a h) each) in
        more a h (in_turn_run h both.0) (subst (λ l. Next l a) (reverse-reverse h) both.1)
