-- Each action happens at most once, each operation has at most three, and how many are left.
use Rattle.std.proofs.Common.{ℕ, ◌+◌, ◌*◌, ◌≤◌, ◌≡◌, ◌⊎◌, inl, inr, not, Bool, true, false, List, [], ◌∷◌, length, Option, Some, None, Contains, count_by, refl, arith, sym, ◌∙◌, subst}
use Rattle.std.proofs.lemmas.Bool.{both_ways, cases_Bool, and_parts, and_from, and_right, not-true, not_from_true, not_from_false}
use Rattle.std.proofs.lemmas.List.Sums.{sum_by-le}
use Rattle.goal_graph.specs.declared.action.OpId.{OpId}
use Rattle.goal_graph.specs.declared.action.Class.{Class}
use Rattle.goal_graph.specs.declared.action.Class.TheVariants.{Arrive, Serve, Data, Post, Begin}
use Rattle.goal_graph.specs.declared.plan.Kind.{Kind}
use Rattle.goal_graph.specs.declared.plan.Kind.TheVariants.{Calc, Send, Recv}
use Rattle.goal_graph.specs.Schedule.{Plan, kind_at, operations}
use Rattle.goal_graph.specs.Action.{Act, same_op, is_act, happened}
use Rattle.goal_graph.specs.Allowed.{may, allowed}
use Rattle.goal_graph.specs.Interleaving.{IsInterleaving}
use Rattle.goal_graph.specs.Laws.{has_class, classes, is_left, left_of, left}
use Rattle.goal_graph.proofs.Actions.{same_op_true, happened_newest, not_happened_before_newest, newest_is_not_act}
use Rattle.goal_graph.proofs.Rules.{allowed_fresh, allowed_may}
use Rattle.goal_graph.proofs.Ever.{newest_allowed}
use Rattle.goal_graph.proofs.Exists.{allowed_listed}
use Rattle.goal_graph.proofs.Sums.{sum_falls, count_passing, count_failing, count_falls, count_le}

count_of_unhappened_is_zero : (c : Class) (x : OpId) (h : List Act) → happened c x h ≡ false → count_by (is_act c x) h ≡ 0
count_of_unhappened_is_zero c x [] e = refl
count_of_unhappened_is_zero c x (a ∷ h) e =
    count_failing (is_act c x) a h (newest_is_not_act c x a h e) ∙ count_of_unhappened_is_zero c x h (not_happened_before_newest c x a h e)

may_has_class : (plans : List Plan) (eager : OpId → Bool) (h : List Act) (c : Class) (x : OpId) (k : Option Kind) → may plans eager h c x k ≡ true → has_class k c ≡ true
may_has_class plans eager h Begin x (Some (Calc nanos)) e = refl
may_has_class plans eager h Begin x (Some (Send bytes to tag)) e = refl
may_has_class plans eager h Arrive x (Some (Send bytes to tag)) e = refl
may_has_class plans eager h Data x (Some (Send bytes to tag)) e = refl
may_has_class plans eager h Post x (Some (Recv room from tag)) e = refl
may_has_class plans eager h Serve x (Some (Recv room from tag)) e = refl
may_has_class plans eager h _ x _ e = absurd (both_ways false refl e)

class_listed : (c : Class) → Contains classes c
class_listed Arrive = (0, omega arith, refl)
class_listed Serve = (1, omega arith, refl)
class_listed Data = (2, omega arith, refl)
class_listed Post = (3, omega arith, refl)
class_listed Begin = (4, omega arith, refl)

at_most_three_classes : (k : Option Kind) → count_by (has_class k) classes ≤ 3
at_most_three_classes None = omega arith
at_most_three_classes (Some (Calc nanos)) = omega arith
at_most_three_classes (Some (Send bytes to tag)) = omega arith
at_most_three_classes (Some (Recv room from tag)) = omega arith

module _ (plans : List Plan) where
  left_before_action : (a : Act) (h : List Act) (x : OpId) (c : Class) → is_left plans (a ∷ h) x c ≡ true → is_left plans h x c ≡ true
  left_before_action a h x c e =
      let parts = and_parts (has_class (kind_at plans x) c) (not (happened c x (a ∷ h))) e in
      and_from _ _ parts.0 (not_from_false _ (not_happened_before_newest c x a h (not-true _ parts.1)))

  -- no count of what is left rises
  pub left_of_stays : (a : Act) (h : List Act) (x : OpId) → left_of plans (a ∷ h) x ≤ left_of plans h x
  unfolding left_of
  left_of_stays a h x = count_le (is_left plans h x) (is_left plans (a ∷ h) x) classes (left_before_action a h x)

  -- an operation has at most three actions
  pub left_of_at_most_three : (h : List Act) (x : OpId) → left_of plans h x ≤ 3
  unfolding left_of
  left_of_at_most_three h x =
      let more = count_le (has_class (kind_at plans x)) (is_left plans h x) classes (λ c e. (and_parts (has_class (kind_at plans x) c) (not (happened c x h)) e).0) in
      omega (arith, more, at_most_three_classes (kind_at plans x))

  left_three_each : (h : List Act) → left plans h ≤ length (operations plans) * 3
  unfolding left
  left_three_each h =
      sum_by-le (left_of plans h) 3 (operations plans) (λ k d b. left_of_at_most_three h _)

  -- at most three actions per operation are left
  pub left_bound : (h : List Act) → left plans h ≤ 3 * length (operations plans)
  left_bound h = omega (arith, left_three_each h)

  module _ (eager : OpId → Bool) where
    happens_once_after_action : (a : Act) (h : List Act) (c : Class) (x : OpId) → ((is_act c x a ≡ true) ⊎ (is_act c x a ≡ false)) → (is_act c x a ≡ true → happened c x h ≡ false) → count_by (is_act c x) h ≤ 1 → count_by (is_act c x) (a ∷ h) ≤ 1
    happens_once_after_action a h c x (inl now) fresh before =
        subst (λ (n : ℕ). n ≤ 1) (sym (count_passing (is_act c x) a h now)) (subst (λ (n : ℕ). 1 + n ≤ 1) (sym (count_of_unhappened_is_zero c x h (fresh now))) (omega arith))
    happens_once_after_action a h c x (inr other) fresh before =
        subst (λ (n : ℕ). n ≤ 1) (sym (count_failing (is_act c x) a h other)) before

    -- each class of action happens at most once per operation
    pub happens_once : (h : List Act) (c : Class) (x : OpId) → IsInterleaving plans eager h → count_by (is_act c x) h ≤ 1
    happens_once [] c x i = omega arith
    happens_once (a ∷ h) c x i =
        happens_once_after_action a h c x (cases_Bool (is_act c x a)) (λ e. allowed_fresh plans eager h c x (newest_allowed plans eager c x a h i e)) (happens_once h c x i.0)

    -- an allowed action leaves its operation one action fewer
    pub left_of_falls : (a : Act) (h : List Act) → allowed plans eager h a.class a.op ≡ true → left_of plans (a ∷ h) a.op + 1 ≤ left_of plans h a.op
    unfolding left_of
    left_of_falls a h e =
        count_falls (is_left plans h a.op) (is_left plans (a ∷ h) a.op) classes a.class (class_listed a.class) (left_before_action a h a.op) (and_right _ _ (not_from_true _ (happened_newest a h))) (and_from _ _ (may_has_class plans eager h a.class a.op (kind_at plans a.op) (allowed_may plans eager h a.class a.op e)) (not_from_false _ (allowed_fresh plans eager h a.class a.op e)))

    -- an allowed action leaves one action fewer in all
    pub left_falls : (a : Act) (h : List Act) → allowed plans eager h a.class a.op ≡ true → left plans (a ∷ h) + 1 ≤ left plans h
    unfolding left
    left_falls a h e =
        sum_falls (left_of plans h) (left_of plans (a ∷ h)) 1 (operations plans) a.op (allowed_listed plans eager h a.class a.op e) (left_of_stays a h) (left_of_falls a h e)

    -- how many have happened and how many are left
    pub happened_and_left : (h : List Act) → IsInterleaving plans eager h → length h + left plans h ≤ 3 * length (operations plans)
    happened_and_left [] i = omega (arith, left_bound [])
    happened_and_left (a ∷ h) i =
        let before = happened_and_left h i.0 in
        let falls = left_falls a h i.1 in
        omega (arith, before, falls)

    three_and_left_after_action : (a : Act) (h : List Act) (x : OpId) → ((same_op a.op x ≡ true) ⊎ (same_op a.op x ≡ false)) → allowed plans eager h a.class a.op ≡ true → count_by (λ (a : Act). same_op a.op x) h + left_of plans h x ≤ 3 → count_by (λ (a : Act). same_op a.op x) (a ∷ h) + left_of plans (a ∷ h) x ≤ 3
    three_and_left_after_action a h x (inl same) e before =
        let falls : left_of plans (a ∷ h) x + 1 ≤ left_of plans h x =
        subst (λ (y : OpId). left_of plans (a ∷ h) y + 1 ≤ left_of plans h y) (same_op_true a.op x same) (left_of_falls a h e) in
        subst (λ (n : ℕ). n + left_of plans (a ∷ h) x ≤ 3) (sym (count_passing (λ (a : Act). same_op a.op x) a h same)) (omega arith)
    three_and_left_after_action a h x (inr other) e before =
        let stays = left_of_stays a h x in
        subst (λ (n : ℕ). n + left_of plans (a ∷ h) x ≤ 3) (sym (count_failing (λ (a : Act). same_op a.op x) a h other)) (omega (arith, stays))

    op_happened_and_left : (h : List Act) (x : OpId) → IsInterleaving plans eager h → count_by (λ (a : Act). same_op a.op x) h + left_of plans h x ≤ 3
    op_happened_and_left [] x i = omega (arith, left_of_at_most_three [] x)
    op_happened_and_left (a ∷ h) x i =
        three_and_left_after_action a h x (cases_Bool (same_op a.op x)) i.1 (op_happened_and_left h x i.0)

    -- at most three actions of one operation
    pub at_most_three : (h : List Act) (x : OpId) → IsInterleaving plans eager h → count_by (λ (a : Act). same_op a.op x) h ≤ 3
    at_most_three h x i = omega (arith, op_happened_and_left h x i)
