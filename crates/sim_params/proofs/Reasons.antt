-- What the reason of a stuck operation says: a named operation is itself stuck, and if an operation is alone, each one
-- that fits it is paired with another.
use Rattle.std.proofs.Common.{◌≡◌, ◌≢◌, ◌⊎◌, ◌&&◌, Bool, true, false, not, cond, List, [], ◌∷◌, Option, Some, None, All, Contains, find, inl, inr, ⊎_elim, refl, subst}
use Rattle.std.specs.List.{list_all}
use Rattle.std.proofs.lemmas.Bool.{both_ways, and_parts, and_cases, and_from, or_cases, not-true, not-false}
use Rattle.std.proofs.lemmas.List.Elements.{All-nil, All-cons, All-contains}
use Rattle.std.proofs.lemmas.Option.{same_Some}
use Rattle.goal_graph.specs.declared.action.OpId.{OpId}
use Rattle.goal_graph.specs.declared.action.Why.TheVariants as why
use Rattle.goal_graph.specs.declared.plan.Kind.TheVariants.{Send, Recv}
use Rattle.goal_graph.specs.declared.plan.Need.{Need}
use Rattle.goal_graph.specs.Schedule.{Plan, needs, needed, operations}
use Rattle.goal_graph.specs.Action.{Act}
use Rattle.goal_graph.specs.Matching.{fits}
use Rattle.goal_graph.specs.Allowed.{has_started, is_met, is_ready}
use Rattle.goal_graph.specs.Interleaving.{IsInterleaving, IsCompleteInterleaving}
use Rattle.goal_graph.specs.Laws.{IsCalc, IsTaken}
use Rattle.goal_graph.proofs.ForCallers.{contains_first, contains_more, fits_send, fits_receive, kind_listed, unstarted_unended, unmet_unended, ready_calc_ended, fitting_taken}
use Rattle.sim_params.specs.Stuck.{first_unmet, are_fit, first_absent, partner_or_alone, reason_by, reason}
use Rattle.sim_params.specs.Laws.{IsStuck}
use Rattle.sim_params.specs.Laws.{IsUnmet, IsAbsent}

found_or_later : {A : Type 0} (b : Bool) (y x : A) (r : Option A) → cond b (Some y) r ≡ Some x → ((b ≡ true) × (y ≡ x)) ⊎ (r ≡ Some x)
found_or_later true y x r e = inl (refl, same_Some y x e)
found_or_later false y x r e = inr e

not_at_head : {A : Type 0} (b : Bool) (y : A) (r : Option A) → cond b (Some y) r ≡ None → (b ≡ false) × (r ≡ None)
not_at_head true y r e = absurd (cc e)
not_at_head false y r e = (refl, e)

-- what `find` finds passes, and is in the list
find_passes : {A : Type 0} (p : A → Bool) (xs : List A) (x : A) → find p xs ≡ Some x → p x ≡ true
find_passes p [] x e = absurd (cc e)
find_passes p (y ∷ ys) x e =
    ⊎_elim (λ f. subst (λ z. p z ≡ true) f.1 f.0) (λ f. find_passes p ys x f) (found_or_later (p y) y x (find p ys) e)

find_listed : {A : Type 0} (p : A → Bool) (xs : List A) (x : A) → find p xs ≡ Some x → Contains xs x
find_listed p [] x e = absurd (cc e)
find_listed p (y ∷ ys) x e =
    ⊎_elim (λ f. contains_first y ys x f.1) (λ f. contains_more y ys x (find_listed p ys x f)) (found_or_later (p y) y x (find p ys) e)

find_none : {A : Type 0} (p : A → Bool) (xs : List A) → find p xs ≡ None → All (λ x. p x ≡ false) xs
find_none p [] e = All-nil (λ x. p x ≡ false)
find_none p (y ∷ ys) e =
    let f = not_at_head (p y) y (find p ys) e in All-cons (λ x. p x ≡ false) y ys f.0 (find_none p ys f.1)

all_from_find : {A : Type 0} (p : A → Bool) (xs : List A) → find (λ x. not (p x)) xs ≡ None → list_all p xs ≡ true
all_from_find p [] e = refl
all_from_find p (y ∷ ys) e =
    let f = not_at_head (not (p y)) y (find (λ x. not (p x)) ys) e in
    and_from (p y) (list_all p ys) (not-false (p y) f.0) (all_from_find p ys f.1)

module _ (plans : List Plan) (eager : OpId → Bool) where
  first_unmet_is_unmet : (h : List Act) (x : OpId) (d : Need) → first_unmet plans eager h x ≡ Some d → IsUnmet plans eager h x (needed x d)
  unfolding first_unmet
  first_unmet_is_unmet h x d e = record {
    need = d;
    listed = find_listed (λ (d : Need). not (is_met plans eager h d.when (needed x d))) (needs plans x) d e;
    names = refl;
    unmet = not-true (is_met plans eager h d.when (needed x d)) (find_passes (λ (d : Need). not (is_met plans eager h d.when (needed x d))) (needs plans x) d e);
  }

  first_absent_is_absent : (h : List Act) (x y : OpId) → first_absent plans eager h x ≡ Some y → IsAbsent plans eager h x y
  unfolding first_absent
  first_absent_is_absent h x y e =
      let t = and_parts (are_fit plans eager x y) (not (has_started plans y h)) (find_passes (λ (y : OpId). are_fit plans eager x y && not (has_started plans y h)) (operations plans) y e) in
      record {
        listed = find_listed (λ (y : OpId). are_fit plans eager x y && not (has_started plans y h)) (operations plans) y e;
        fit = t.0;
        unstarted = not-true (has_started plans y h) t.1;
      }

  -- if no need is unmet, the operation is ready
  ready_without_unmet : (h : List Act) (x : OpId) → first_unmet plans eager h x ≡ None → is_ready plans eager h x ≡ true
  unfolding first_unmet is_ready
  ready_without_unmet h x e = all_from_find (λ (d : Need). is_met plans eager h d.when (needed x d)) (needs plans x) e

  -- if none is absent, each operation that fits has started
  started_without_absent : (h : List Act) (x y : OpId) → first_absent plans eager h x ≡ None → Contains (operations plans) y → are_fit plans eager x y ≡ true → has_started plans y h ≡ true
  unfolding first_absent
  started_without_absent h x y e listed fit =
      let none = All-contains (λ (y : OpId). (are_fit plans eager x y && not (has_started plans y h)) ≡ false) (operations plans) y (find_none (λ (y : OpId). are_fit plans eager x y && not (has_started plans y h)) (operations plans) e) listed in
      elim (and_cases (are_fit plans eager x y) (not (has_started plans y h)) none) [ inl f ↦ absurd (both_ways _ f fit) | inr f ↦ not-false (has_started plans y h) f ]

  -- what each reason says
  pub op_is_unmet : (h : List Act) (x y : OpId) → reason plans eager h x ≡ why.Op y → IsUnmet plans eager h x y
  unfolding reason
  op_is_unmet h x y e = go (first_unmet plans eager h x) refl e
    where
      no_op : (o : Option OpId) → partner_or_alone plans eager o ≡ why.Op y → ⊥
      no_op None e = cc e
      no_op (Some z) e = cc e

      go : (o : Option Need) → first_unmet plans eager h x ≡ o → reason_by plans eager h x o ≡ why.Op y → IsUnmet plans eager h x y
      go None p e = absurd (no_op (first_absent plans eager h x) e)
      go (Some d) p e = let same : needed x d ≡ y = cc e in subst (λ z. IsUnmet plans eager h x z) same (first_unmet_is_unmet h x d p)

  pub partner_is_absent : (h : List Act) (x y : OpId) → reason plans eager h x ≡ why.Partner y → IsAbsent plans eager h x y
  unfolding reason
  partner_is_absent h x y e = go (first_unmet plans eager h x) e
    where
      of_partner : (o : Option OpId) → first_absent plans eager h x ≡ o → partner_or_alone plans eager o ≡ why.Partner y → IsAbsent plans eager h x y
      of_partner None p e = absurd (cc e)
      of_partner (Some z) p e = let same : z ≡ y = cc e in subst (λ z. IsAbsent plans eager h x z) same (first_absent_is_absent h x z p)

      go : (o : Option Need) → reason_by plans eager h x o ≡ why.Partner y → IsAbsent plans eager h x y
      go None e = of_partner (first_absent plans eager h x) refl e
      go (Some d) e = absurd (cc e)

  pub alone_has_no_unmet_or_absent : (h : List Act) (x : OpId) → reason plans eager h x ≡ why.Alone → (first_unmet plans eager h x ≡ None) × (first_absent plans eager h x ≡ None)
  unfolding reason
  alone_has_no_unmet_or_absent h x e = go (first_unmet plans eager h x) refl e
    where
      of_partner : (o : Option OpId) → partner_or_alone plans eager o ≡ why.Alone → o ≡ None
      of_partner None e = refl
      of_partner (Some z) e = absurd (cc e)

      go : (o : Option Need) → first_unmet plans eager h x ≡ o → reason_by plans eager h x o ≡ why.Alone → (first_unmet plans eager h x ≡ None) × (first_absent plans eager h x ≡ None)
      go None p e = (p, of_partner (first_absent plans eager h x) e)
      go (Some d) p e = absurd (cc e)

  -- an operation that a reason names is stuck itself
  pub op_is_stuck : (h : List Act) (x y : OpId) → IsInterleaving plans eager h → reason plans eager h x ≡ why.Op y → IsStuck plans eager h y
  op_is_stuck h x y i e = let u = op_is_unmet h x y e in unmet_unended plans eager h u.need.when y i u.unmet

  pub partner_is_stuck : (h : List Act) (x y : OpId) → IsInterleaving plans eager h → reason plans eager h x ≡ why.Partner y → IsStuck plans eager h y
  partner_is_stuck h x y i e = unstarted_unended plans eager h y i (partner_is_absent h x y e).unstarted

  module _ (h : List Act) (c : IsCompleteInterleaving plans eager h) where
    -- an operation that fits is one of the schedule
    fit_listed : (x y : OpId) → (fits plans x y ≡ true) ⊎ (fits plans y x ≡ true) → Contains (operations plans) y
    fit_listed x y (inl f) = let s = fits_send plans x y f in kind_listed plans y (Send s.bytes s.to s.tag) s.kind
    fit_listed x y (inr f) = let r = fits_receive plans y x f in kind_listed plans y (Recv r.room r.from r.tag) r.kind

    -- if an operation is alone, each that fits it has started, and is paired with another
    pub partners_of_alone_taken : (x y : OpId) → IsStuck plans eager h x → reason plans eager h x ≡ why.Alone → are_fit plans eager x y ≡ true → (has_started plans y h ≡ true) × IsTaken plans h y x
    partners_of_alone_taken x y stuck e fit = (started, go (fitting_taken plans eager h c x y (ready_without_unmet h x facts.0) stuck fits_one))
      where
        facts : (first_unmet plans eager h x ≡ None) × (first_absent plans eager h x ≡ None)
        facts = alone_has_no_unmet_or_absent h x e

        fits_one : (fits plans x y ≡ true) ⊎ (fits plans y x ≡ true)
        fits_one = or_cases (fits plans x y) (fits plans y x) fit

        started : has_started plans y h ≡ true
        started = started_without_absent h x y facts.1 (fit_listed x y fits_one) fit

        go : (has_started plans y h ≡ false) ⊎ IsTaken plans h y x → IsTaken plans h y x
        go (inl f) = absurd (both_ways _ f started)
        go (inr t) = t

    -- a stuck calc has an unmet need
    pub calc_is_not_alone : (x : OpId) → IsCalc plans x → IsStuck plans eager h x → reason plans eager h x ≢ why.Alone
    calc_is_not_alone x k stuck e =
        both_ways _ stuck (ready_calc_ended plans eager h c x k (ready_without_unmet h x (alone_has_no_unmet_or_absent h x e).0))
