-- A user is free at the time of its number; setting a later time there acts like adding a hold.
use Rattle.std.proofs.Common.{ℕ, zero, suc, ◌<◌, ◌≤◌, ◌≡◌, ◌≢◌, inl, inr, max, true, false, List, [], ◌∷◌, Contains, length, replicate, map, Some, slice_get, slice_set, get_or, refl, ap, sym, ◌∙◌, arith, if◌then◌else◌}
use Rattle.std.proofs.lemmas.Bool.{both_ways, cases_Bool}
use Rattle.std.proofs.lemmas.List.{get_or-set_same, get_or-set_other, get_or-replicate}
use Rattle.std.proofs.lemmas.Option.{slice_get-get_or, slice_get_within, get_or_from_slice_get}
use Rattle.goal_graph.specs.declared.action.OpId.{OpId}
use Rattle.goal_graph.specs.declared.plan.Op.{Op}
use Rattle.goal_graph.specs.Schedule.{Plan}
use Rattle.goal_graph.proofs.ForCallers.{contains_first, contains_more, same_tables}
use Rattle.sim_resources.specs.FreeTimes.{Hold, shares, free_at, hold}
use Rattle.sim_resources.specs.Held.{IsPlaced, held}
use Rattle.sim_resources.proofs.Shares.{shares_symmetric, shares_transitive}

abbrev pub raised : List ℕ → ℕ → ℕ → ℕ → List ℕ
raised times s t until = slice_set times s (max t until)

-- a later time of another number changes no time
pub other_number_keeps_held : (users : List OpId) (number : OpId → ℕ) (times : List ℕ) (n t : ℕ) → ((x : OpId) → Contains users x → number x ≢ n) → held users number (slice_set times n t) ≡ held users number times
other_number_keeps_held users number times n t other =
    same_tables (λ (x : OpId). hold x (get_or (slice_set times n t) (number x) 0)) (λ (x : OpId). hold x (get_or times (number x) 0)) users
    (λ i x e. ap (hold x) (get_or-set_other times n (number x) t 0 (other x (i, slice_get_within users i x e, get_or_from_slice_get users i x x e))))

module _ (place : Op → ℕ) (plans : List Plan) where
  pub free_at-empty : (x : OpId) → free_at place plans [] x ≡ 0
  unfolding free_at
  free_at-empty x = refl

  -- an operation that shares a resource with x is free no later than x
  sharer_not_free_later : (hs : List Hold) (x y : OpId) → shares place plans y x ≡ true → free_at place plans hs y ≤ free_at place plans hs x
  unfolding free_at
  sharer_not_free_later [] x y e = omega arith
  sharer_not_free_later (h ∷ hs) x y e =
      let rest = sharer_not_free_later hs x y e in
      elim (cases_Bool (shares place plans y h.op)) [
        | inl shared ↦ rw (shared, shares_transitive place plans y x h.op e shared) (omega (arith, rest))
        | inr other ↦ rw other (omega (arith, rest))
      ]

  sharers_free_alike : (hs : List Hold) (x y : OpId) → shares place plans y x ≡ true → free_at place plans hs y ≡ free_at place plans hs x
  sharers_free_alike hs x y e =
      omega (arith, sharer_not_free_later hs x y e, sharer_not_free_later hs y x (shares_symmetric place plans y x e))

  module _ (users : List OpId) (number : OpId → ℕ) (count : ℕ) (p : IsPlaced place plans users number count) where
    module _ (times : List ℕ) where
      abbrev pub time : OpId → ℕ
      time x = get_or times (number x) 0

      abbrev pub holder : OpId → Hold
      holder x = hold x (time x)

      free_at_most_time_of_number : (xs : List OpId) → ((y : OpId) → Contains xs y → Contains users y) → (x : OpId) → Contains users x → free_at place plans (map holder xs) x ≤ time x
      unfolding free_at
      free_at_most_time_of_number [] within x c = omega arith
      free_at_most_time_of_number (y ∷ xs) within x c =
          let rest = free_at_most_time_of_number xs (λ z d. within z (contains_more y xs z d)) x c in
          elim (cases_Bool (shares place plans x y)) [
            | inl shared ↦
                let same : time x ≡ time y = ap (λ (s : ℕ). get_or times s 0) (p.alike x y c (within y (contains_first y xs y refl)) shared) in
                rw shared (omega (arith, rest, same))
            | inr other ↦ rw other (omega (arith, rest))
          ]

      time_of_number_at_most_free : (xs : List OpId) (x : OpId) → shares place plans x x ≡ true → Contains xs x → time x ≤ free_at place plans (map holder xs) x
      unfolding free_at
      time_of_number_at_most_free [] x itself c = absurd (omega (arith, c.1))
      time_of_number_at_most_free (y ∷ xs) x itself (zero, b, e) =
          let shared : shares place plans x y ≡ true = ap (shares place plans x) e ∙ itself in
          rw shared (omega (arith, ap time e))
      time_of_number_at_most_free (y ∷ xs) x itself (suc k, b, e) =
          let rest = time_of_number_at_most_free xs x itself (k, omega (arith, b), e) in
          omega (arith, rest)

      -- a user is free at the time of its number
      pub free_at_time_of_number : (x : OpId) → Contains users x → free_at place plans (held users number times) x ≡ get_or times (number x) 0
      free_at_time_of_number x c =
          let below : free_at place plans (held users number times) x ≤ get_or times (number x) 0 = free_at_most_time_of_number users (λ y d. d) x c in
          let above : get_or times (number x) 0 ≤ free_at place plans (held users number times) x = time_of_number_at_most_free users x (p.apart x x c c refl) c in
          omega (arith, below, above)

      pub read_time_is_free_time : (x : OpId) → Contains users x → length times ≡ count → (r : ℕ) → ((t : ℕ) → slice_get times (number x) ≡ Some t → r ≡ t) → r ≡ free_at place plans (held users number times) x
      read_time_is_free_time x c whole r says =
          says (get_or times (number x) 0) (slice_get-get_or times (number x) 0 (omega (arith, p.within x c, whole))) ∙ sym (free_at_time_of_number x c)

      zero_times_never_held : (xs : List OpId) → ((y : OpId) → Contains xs y → time y ≡ 0) → (x : OpId) → free_at place plans (map holder xs) x ≡ 0
      unfolding free_at
      zero_times_never_held [] none x = refl
      zero_times_never_held (y ∷ xs) none x =
          let rest = zero_times_never_held xs (λ z d. none z (contains_more y xs z d)) x in
          let this = none y (contains_first y xs y refl) in
          elim (cases_Bool (shares place plans x y)) [
            | inl shared ↦ rw shared (omega (arith, rest, this))
            | inr other ↦ rw other (omega (arith, rest))
          ]

    -- if all times are 0, each free time is 0
    pub free_at-unheld : (times : List ℕ) → times ≡ replicate count 0 → (x : OpId) → free_at place plans (held users number times) x ≡ 0
    free_at-unheld times none x =
        zero_times_never_held times users (λ y c. ap (λ (ts : List ℕ). get_or ts (number y) 0) none ∙ get_or-replicate count (number y) 0 0 (p.within y c)) x

    -- setting a later time at one number acts like adding a hold
    module _ (times : List ℕ) (whole : length times ≡ count) (x : OpId) (c : Contains users x) (until : ℕ) where
      abbrev pub was : ℕ
      was = get_or times (number x) 0

      abbrev pub after : List ℕ
      after = raised times (number x) was until

      within : number x < length times
      within = omega (arith, p.within x c, whole)

      pub raised_list_is_after : (times' : List ℕ) → ((t : ℕ) → slice_get times (number x) ≡ Some t → times' ≡ raised times (number x) t until) → times' ≡ after
      raised_list_is_after times' says = says was (slice_get-get_or times (number x) 0 within)

      free_with_hold : (y : OpId) → free_at place plans (hold x until ∷ held users number times) y ≡ max (free_at place plans (held users number times) y) (if shares place plans y x then until else 0)
      unfolding free_at
      free_with_hold y = refl

      -- it changes no time of what does not share with x
      unshared_times_stay : (xs : List OpId) → ((z : OpId) → Contains xs z → Contains users z) → (y : OpId) → shares place plans y x ≡ false → free_at place plans (map (holder after) xs) y ≡ free_at place plans (map (holder times) xs) y
      unfolding free_at
      unshared_times_stay [] in_users y apart = refl
      unshared_times_stay (z ∷ xs) in_users y apart =
          let rest = unshared_times_stay xs (λ u d. in_users u (contains_more z xs u d)) y apart in
          elim (cases_Bool (shares place plans y z)) [
            | inl shared ↦
                let other : number z ≢ number x = λ e. both_ways _ apart (shares_transitive place plans z y x (shares_symmetric place plans y z shared) (p.apart z x (in_users z (contains_first z xs z refl)) c e)) in
                let same : get_or after (number z) 0 ≡ get_or times (number z) 0 = get_or-set_other times (number x) (number z) (max was until) 0 other in
                rw shared (omega (arith, rest, same))
            | inr other ↦ rw other (omega (arith, rest))
          ]

      pub raised_frees_as_hold : (y : OpId) → free_at place plans (held users number after) y ≡ free_at place plans (hold x until ∷ held users number times) y
      raised_frees_as_hold y =
          elim (cases_Bool (shares place plans y x)) [
            | inl shared ↦
                let now = sharers_free_alike (held users number after) x y shared ∙ free_at_time_of_number after x c ∙ get_or-set_same times (number x) (max was until) 0 within in
                let before = sharers_free_alike (held users number times) x y shared ∙ free_at_time_of_number times x c in
                now ∙ sym (free_with_hold y ∙ rw shared (omega (arith, before)))
            | inr other ↦
                let now = unshared_times_stay users (λ z d. d) y other in
                now ∙ sym (free_with_hold y ∙ rw other (omega arith))
          ]
