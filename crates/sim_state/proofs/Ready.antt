-- When an operation is ready, need by need, and by how many of its moments are not there.
use Rattle.std.proofs.Common.{◌≡◌, ℕ, ◌+◌, ◌<◌, ◌≤◌, max, Bool, true, false, not, cond, count_by, ◌&&◌, List, [], ◌∷◌, length, drop, get_or, Option, Some, None, if◌then◌else◌, refl, sym, ap, ap₂, ◌∙◌, subst, arith}
use Rattle.std.specs.List.{list_all}
use Rattle.std.proofs.lemmas.Bool.{cond-true, cond-false, and_from, and_parts, false_from_ne_true, true_from_ne_false}
use Rattle.std.proofs.lemmas.Option.{same_Some}
use Rattle.std.proofs.lemmas.List.{drop_more, drop_all}
use Rattle.goal_graph.specs.declared.action.OpId.{OpId}
use Rattle.goal_graph.specs.declared.action.Timed.{Timed}
use Rattle.goal_graph.specs.declared.plan.Need.{Need}
use Rattle.goal_graph.specs.declared.plan.When.{When}
use Rattle.goal_graph.specs.declared.plan.When.TheVariants.{AfterEnd, AfterStart}
use Rattle.goal_graph.specs.Schedule.{Plan, needs, needed}
use Rattle.goal_graph.specs.Action.{plain}
use Rattle.goal_graph.specs.Allowed.{is_met, is_ready, has_started}
use Rattle.goal_graph.proofs.ForCallers.{count-cons}
use Rattle.sim_params.specs.Costs.{CostModel, is_eager}
use Rattle.sim_params.specs.Times.{greatest, met_at, ready}
use Rattle.sim_state.specs.Awaited as awaited
use Rattle.sim_state.specs.Awaited.{unmet, awaited_known}
use Rattle.sim_state.specs.Enabled.{moment_known, ready_known}

module _ (plans : List Plan) (costs : CostModel) (h : List Timed) (x : OpId) where
  -- the moment of a need, whether it is known, and both
  abbrev pub is_there : Need → Bool
  is_there = awaited.is_there plans costs h x

  abbrev pub there_at : Need → ℕ
  there_at d = met_at plans costs h d.when (needed x d)

  -- the greatest of n and the moments of the needs, once these are there
  unfoldable pub ready_from : ℕ → List Need → Option ℕ
  ready_from n ds = if list_all is_there ds then Some (max n (greatest there_at ds)) else None

  pub ready_start : ready_from 0 (needs plans x) ≡ ready_known plans costs h x
  unfolding ready_from is_ready ready
  ready_start = ap (λ n. if list_all is_there (needs plans x) then Some n else None) (omega arith)

  pub ready_from_no_needs : (n : ℕ) → ready_from n [] ≡ Some n
  unfolding ready_from greatest
  ready_from_no_needs n = ap Some (omega arith)

  pub moment_known_by_presence : (d : Need) → moment_known plans costs h d.when (needed x d) ≡ (if is_there d then Some (there_at d) else None)
  moment_known_by_presence d = go d.when
    where
      go : (w : When) → moment_known plans costs h w (needed x d) ≡ (if is_met plans (is_eager plans costs) (plain h) w (needed x d) then Some (met_at plans costs h w (needed x d)) else None)
      go AfterEnd = refl
      go AfterStart = refl

  -- a need that is there
  pub ready_met : (n m : ℕ) (d : Need) (ds : List Need) → moment_known plans costs h d.when (needed x d) ≡ Some m → ready_from n (d ∷ ds) ≡ ready_from (max n m) ds
  unfolding ready_from greatest
  ready_met n m d ds e = go (is_there d) (sym (moment_known_by_presence d) ∙ e)
    where
      go : (b : Bool) → (if b then Some (there_at d) else None) ≡ Some m → (if b && list_all is_there ds then Some (max n (max (there_at d) (greatest there_at ds))) else None) ≡ (if list_all is_there ds then Some (max (max n m) (greatest there_at ds)) else None)
      go true f =
          let same = same_Some (there_at d) m f in
          ap (λ k. if list_all is_there ds then Some k else None) (omega arith)
      go false f = absurd (cc)

  -- a need that is not there
  pub ready_unmet : (n : ℕ) (d : Need) (ds : List Need) → moment_known plans costs h d.when (needed x d) ≡ None → ready_from n (d ∷ ds) ≡ None
  unfolding ready_from
  ready_unmet n d ds e = go (is_there d) (sym (moment_known_by_presence d) ∙ e)
    where
      go : (b : Bool) → (if b then Some (there_at d) else None) ≡ None → (if b && list_all is_there ds then Some (max n (greatest there_at (d ∷ ds))) else None) ≡ None
      go true f = absurd (cc)
      go false f = refl

  -- the needs that are read, one after another
  module _ (items : List Need) (are_needs : items ≡ needs plans x) (k : ℕ) (n : ℕ) (whole : Option ℕ) (so_far : ready_from n (drop k (needs plans x)) ≡ whole) where
    this_and_rest : (d : Need) → k < length items → drop k (needs plans x) ≡ get_or items k d ∷ drop (k + 1) (needs plans x)
    this_and_rest d l = subst (λ ds. drop k ds ≡ get_or items k d ∷ drop (k + 1) ds) are_needs (drop_more items k d l)

    pub read_met : (d : Need) (r : Option ℕ) (m : ℕ) → k < length items → r ≡ moment_known plans costs h (get_or items k d).when (needed x (get_or items k d)) → r ≡ Some m → ready_from (max n m) (drop (k + 1) (needs plans x)) ≡ whole
    read_met d r m l e f =
        sym (ap (ready_from n) (this_and_rest d l) ∙ ready_met n m (get_or items k d) (drop (k + 1) (needs plans x)) (sym e ∙ f)) ∙ so_far

    pub read_unmet : (d : Need) (r : Option ℕ) → k < length items → r ≡ moment_known plans costs h (get_or items k d).when (needed x (get_or items k d)) → r ≡ None → None ≡ whole
    read_unmet d r l e f =
        sym (ap (ready_from n) (this_and_rest d l) ∙ ready_unmet n (get_or items k d) (drop (k + 1) (needs plans x)) (sym e ∙ f)) ∙ so_far

    pub read_all : length items ≤ k → Some n ≡ whole
    read_all l =
        let none : drop k (needs plans x) ≡ [] = drop_all k (needs plans x) (subst (λ ds. length ds ≤ k) are_needs l) in
        sym (ap (ready_from n) none ∙ ready_from_no_needs n) ∙ so_far

-- if n of the moments that x needs are not known
module _ (plans : List Plan) (costs : CostModel) (h : List Timed) (x : OpId) (n : ℕ) (count : n ≡ unmet plans costs h x) where
  all_there_if_none_missing : (ds : List Need) → count_by (λ (d : Need). not (is_there plans costs h x d)) ds ≡ 0 → list_all (is_there plans costs h x) ds ≡ true
  all_there_if_none_missing [] e = refl
  all_there_if_none_missing (d ∷ ds) e =
      let counted = count-cons (λ (d : Need). not (is_there plans costs h x d)) d ds in
      let here : is_there plans costs h x d ≡ true = true_from_ne_false _ (λ f. let one = ap {B = ℕ} (λ (b : Bool). cond (not b) 1 0) f in absurd (omega (arith, e, one, counted))) in
      and_from _ _ here (all_there_if_none_missing ds (omega (arith, e, counted)))

  none_missing_if_all_there : (ds : List Need) → list_all (is_there plans costs h x) ds ≡ true → count_by (λ (d : Need). not (is_there plans costs h x d)) ds ≡ 0
  none_missing_if_all_there [] e = refl
  none_missing_if_all_there (d ∷ ds) e =
      let both = and_parts (is_there plans costs h x d) (list_all (is_there plans costs h x) ds) e in
      let here = ap {B = ℕ} (λ (b : Bool). cond (not b) 1 0) both.0 in
      let rest = none_missing_if_all_there ds both.1 in
      omega (arith, rest, here, count-cons (λ (d : Need). not (is_there plans costs h x d)) d ds)

  -- all that are there are all
  greatest_there_is_greatest_of_all : (ds : List Need) → list_all (is_there plans costs h x) ds ≡ true → greatest (λ (d : Need). if is_there plans costs h x d then there_at plans costs h x d else 0) ds ≡ greatest (there_at plans costs h x) ds
  unfolding greatest
  greatest_there_is_greatest_of_all [] e = refl
  greatest_there_is_greatest_of_all (d ∷ ds) e =
      let both = and_parts (is_there plans costs h x d) (list_all (is_there plans costs h x) ds) e in
      ap₂ max (cond-true _ _ _ both.0) (greatest_there_is_greatest_of_all ds both.1)

  pub still_unready : 0 < n → None ≡ ready_known plans costs h x
  unfolding is_ready
  still_unready more =
      sym (cond-false _ _ None (false_from_ne_true _ (λ t. let none = none_missing_if_all_there (needs plans x) t in absurd (omega (arith, more, count, none)))))

  -- before it starts, what it awaits is then the last of them
  pub now_ready : n ≤ 0 → (o : Option ℕ) → o ≡ awaited_known plans costs h x → has_started plans x (plain h) ≡ false → o ≡ ready_known plans costs h x
  unfolding is_ready ready
  now_ready none o last waits =
      let there = all_there_if_none_missing (needs plans x) (omega (arith, count, none)) in
      last ∙ cond-false _ _ _ waits ∙ ap Some (greatest_there_is_greatest_of_all (needs plans x) there) ∙ sym (cond-true _ _ None there)
