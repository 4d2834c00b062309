-- The summary of operations, one operation after another, and their lines, page by page.
use Rattle.std.proofs.Common.{◌≡◌, ℕ, zero, suc, ◌+◌, ◌<◌, max, Bool, true, false, not, List, [], ◌∷◌, ◌++◌, length, Option, Some, None, is_some, unwrap_or, cond, count_by, take, drop, refl, sym, ap, ◌∙◌, arith}
use Rattle.std.specs.List.{flat_map, All}
use Rattle.std.proofs.lemmas.List.{take-append-drop, drop-drop}
use Rattle.std.proofs.lemmas.List.Elements.{All-head}
use Rattle.std.proofs.lemmas.Grind.{flat_map-append}
use Rattle.std.proofs.lemmas.List.Sums.{fold-append}
use Rattle.goal_graph.specs.declared.action.OpId.{OpId}
use Rattle.goal_graph.specs.declared.action.Timed.{Timed}
use Rattle.goal_graph.specs.declared.plan.Op.{Op}
use Rattle.goal_graph.specs.declared.plan.Kind.{Kind}
use Rattle.goal_graph.specs.Schedule.{Plan, op_at, operations}
use Rattle.goal_graph.specs.Fault.{IsOp}
use Rattle.goal_graph.specs.Action.{plain}
use Rattle.goal_graph.specs.Matching.{pairs, partner}
use Rattle.goal_graph.specs.Allowed.{has_started, has_ended}
use Rattle.sim_params.specs.Costs.{CostModel, is_eager}
use Rattle.sim_params.specs.Times.{greatest, end, start}
use Rattle.sim_params.specs.Stuck.{lacks_end}
use Rattle.sim_events.specs.Engine.{start_known, end_known}
use Rattle.sim_timeline.specs.Timeline.{is_unmatched, end_or_zero, operation_line, summary_line, first_line, line_by, line_of}
use Rattle.sim_timeline.specs.Pages.{IsSummary, is_unmatched_send}
use Rattle.goal_graph.proofs.ForCallers.{kind_of_found_op}

-- the greatest value of a list after appending an element
pub greatest-append : {A : Type 0} (f : A → ℕ) (xs : List A) (x : A) → greatest f (xs ++ x ∷ []) ≡ max (greatest f xs) (f x)
unfolding greatest
greatest-append f [] x = omega arith
greatest-append f (y ∷ ys) x = rw (greatest-append f ys x) (omega arith)

count_by-append_one : {A : Type 0} (p : A → Bool) (xs : List A) (x : A) → count_by p (xs ++ x ∷ []) ≡ count_by p xs + cond (p x) 1 0
count_by-append_one p xs x = simp fold-append

missing_end_counts_one : (b : Bool) (n : ℕ) → ◌≡◌ {A = ℕ} (cond (is_some (cond b (Some n) None)) 0 1) (cond (not b) 1 0)
missing_end_counts_one true n = refl
missing_end_counts_one false n = refl

known_end_or_zero : (b : Bool) (n : ℕ) → unwrap_or (cond b (Some n) None) 0 ≡ cond b n 0
known_end_or_zero true n = refl
known_end_or_zero false n = refl

started : (b : Bool) (n : ℕ) → is_some (cond b (Some n) None) ≡ b
started true n = refl
started false n = refl

-- if two texts together are empty, the first is empty
empty_append_has_empty_first : {A : Type 0} (xs ys : List A) → xs ++ ys ≡ [] → xs ≡ []
empty_append_has_empty_first [] ys none = refl
empty_append_has_empty_first (x ∷ xs) ys none = absurd (cc)

module _ (plans : List Plan) (costs : CostModel) (h : List Timed) where
  unmatched_found : (x : OpId) (o : Op) → op_at plans x ≡ Some o
      → is_unmatched_send (Some o.kind) (start_known plans costs h x) (partner (pairs plans (plain h)) x) ≡ is_unmatched plans costs h x
  unmatched_found x o found =
      ap (λ (k : Option Kind). is_unmatched_send k (start_known plans costs h x) (partner (pairs plans (plain h)) x)) (sym (kind_of_found_op plans x o found))
      ∙ rw (started (has_started plans x (plain h)) (start plans costs h x)) refl

  -- the summary after appending an operation
  pub summary_more : (xs : List OpId) (x : OpId) (o : Op) (stuck unmatched finish : ℕ) → IsSummary plans costs h xs stuck unmatched finish
      → op_at plans x ≡ Some o
      → IsSummary plans costs h (xs ++ x ∷ [])
      (stuck + cond (is_some (end_known plans costs h x)) 0 1)
      (unmatched + cond (is_unmatched_send (Some o.kind) (start_known plans costs h x) (partner (pairs plans (plain h)) x)) 1 0)
      (max finish (unwrap_or (end_known plans costs h x) 0))
  summary_more xs x o stuck unmatched finish s found = record {
    stuck_is = rw (s.stuck_is, missing_end_counts_one (has_ended plans (is_eager plans costs) x (plain h)) (end plans costs h x)) (sym (count_by-append_one (lacks_end plans costs h) xs x));
    unmatched_is = rw (s.unmatched_is, unmatched_found x o found) (sym (count_by-append_one (is_unmatched plans costs h) xs x));
    finish_is = rw (s.finish_is, known_end_or_zero (has_ended plans (is_eager plans costs) x (plain h)) (end plans costs h x)) (sym (greatest-append (end_or_zero plans costs h) xs x));
  }

  -- the first line, by the summary of all operations
  pub summary_line_is_first_line : (stuck unmatched finish : ℕ) → IsSummary plans costs h (operations plans) stuck unmatched finish
      → summary_line (length plans) (length (operations plans)) stuck unmatched finish ≡ first_line plans costs h
  unfolding first_line
  summary_line_is_first_line stuck unmatched finish s = rw (s.stuck_is, s.unmatched_is, s.finish_is) refl

  -- the line of an operation that exists
  pub operation_line_is_line_of : (x : OpId) (o : Op) → op_at plans x ≡ Some o
      → operation_line x o.kind (start_known plans costs h x) (end_known plans costs h x) (partner (pairs plans (plain h)) x) ≡ line_of plans costs h x
  unfolding line_of
  operation_line_is_line_of x o found = ap (line_by plans costs h x) (sym (kind_of_found_op plans x o found))

  -- the line of an operation that exists is not empty
  line_not_empty : (x : OpId) (o : Option Op) → op_at plans x ≡ o → is_some o ≡ true → line_of plans costs h x ≡ [] → ⊥
  line_not_empty x None found there empty = cc
  line_not_empty x (Some o) found there empty = let line = operation_line_is_line_of x o found ∙ empty in cc

  -- if the lines of the first operations are empty, there are no operations
  pub no_line_left : (xs : List OpId) (count : ℕ) → (0 < length xs → 0 < count) → All (IsOp plans) xs
      → flat_map (line_of plans costs h) (take count xs) ≡ [] → flat_map (line_of plans costs h) xs ≡ []
  no_line_left [] count some exist empty = refl
  no_line_left (x ∷ xs) zero some exist empty = absurd (omega (arith, some (omega arith)))
  no_line_left (x ∷ xs) (suc count) some exist empty =
      absurd (line_not_empty x (op_at plans x) refl (All-head (IsOp plans) x xs exist)
      (empty_append_has_empty_first (line_of plans costs h x) (flat_map (line_of plans costs h) (take count xs)) empty))

-- a page, and what is left after it
pub page_and_rest : {X A : Type 0} (f : X → List A) (xs : List X) (done count : ℕ)
    → flat_map f (drop done xs) ≡ flat_map f (take count (drop done xs)) ++ flat_map f (drop (done + count) xs)
page_and_rest f xs done count =
    ap (flat_map f) (sym (take-append-drop count (drop done xs)))
    ∙ flat_map-append f (take count (drop done xs)) (drop count (drop done xs))
    ∙ ap (λ ys. flat_map f (take count (drop done xs)) ++ flat_map f ys) (drop-drop count done xs)
