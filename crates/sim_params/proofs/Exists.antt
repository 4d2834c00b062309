-- After each run an action is next, or nothing is possible; so a complete run exists.
use Rattle.std.proofs.Common.{ℕ, zero, suc, ◌+◌, ◌≤◌, ◌≡◌, ◌⊎◌, true, List, [], ◌∷◌, All, Contains, inl, inr, refl, sym, ap, ap₂, ◌∙◌, subst, arith}
use Rattle.std.proofs.lemmas.Bool.{both_ways}
use Rattle.std.proofs.lemmas.List.Elements.{All-nil, All-cons, All-weaker, All-contains}
use Rattle.goal_graph.specs.declared.action.OpId.{OpId}
use Rattle.goal_graph.specs.declared.action.Timed.{Timed}
use Rattle.goal_graph.specs.declared.action.Class.{Class}
use Rattle.goal_graph.specs.Schedule.{Plan, operations}
use Rattle.goal_graph.specs.Action.{plain, plain_act}
use Rattle.goal_graph.specs.Allowed.{allowed}
use Rattle.goal_graph.specs.Interleaving.{IsInterleaving}
use Rattle.goal_graph.specs.Laws.{left}
use Rattle.goal_graph.proofs.ForCallers.{find_class, allowed_listed, one_allowed, left_falls, less_irreflexive, less_transitive, key_cases, timed_from_parts}
use Rattle.sim_params.specs.Costs.{CostModel, is_eager}
use Rattle.sim_params.specs.Times.{time, Possible}
use Rattle.goal_graph.specs.Order.{IsLess, key}
use Rattle.sim_params.specs.Run.{IsNext, IsRun, IsFinished, IsCompleteRun}
use Rattle.sim_params.specs.Laws.{at_its_time}
use Rattle.sim_params.proofs.Interleavings.{possible_at, run_interleaving}

module _ (plans : List Plan) (costs : CostModel) where
  -- no possible action of x is less than a
  abbrev NoneBefore : List Timed → Timed → OpId → Type 0
  NoneBefore h a x = (b : Timed) → b.op ≡ x → Possible plans costs h b → ¬ (IsLess (key b) (key a))

  -- x has no possible action
  abbrev HasNone : List Timed → OpId → Type 0
  HasNone h x = (b : Timed) → b.op ≡ x → ¬ (Possible plans costs h b)

  -- the least possible action of these operations
  record IsLeastOf (h : List Timed) (xs : List OpId) (a : Timed) : Type 0 where
    possible : Possible plans costs h a
    least : All (NoneBefore h a) xs

  -- a possible action of x is the only one
  only_action_of_op : (h : List Timed) (c : Class) (x : OpId) → IsInterleaving plans (is_eager plans costs) (plain h) → allowed plans (is_eager plans costs) (plain h) c x ≡ true → NoneBefore h (at_its_time plans costs h c x) x
  only_action_of_op h c x i e b p q before =
      let class : b.class ≡ c = one_allowed plans (is_eager plans costs) (plain h) b.class c b.op i q.allowed (subst (λ y. allowed plans (is_eager plans costs) (plain h) c y ≡ true) (sym p) e) in
      let same : b ≡ at_its_time plans costs h c x = timed_from_parts b (at_its_time plans costs h c x) (q.time ∙ ap₂ (time plans costs h) class p) class (ap (λ (y : OpId). y.rank) p) (ap (λ (y : OpId). y.op) p) in
      less_irreflexive (key b) (subst (λ a. IsLess (key b) (key a)) (sym same) before)

  least_of_op : (h : List Timed) (x : OpId) → IsInterleaving plans (is_eager plans costs) (plain h) → ((a : Timed) × Possible plans costs h a × NoneBefore h a x) ⊎ HasNone h x
  least_of_op h x i =
      elim (find_class (λ c. allowed plans (is_eager plans costs) (plain h) c x)) [ inl t ↦ inl (at_its_time plans costs h t.0 x, possible_at plans costs h t.0 x t.1, only_action_of_op h t.0 x i t.1) | inr none ↦ inr (λ b p q. both_ways _ (none b.class) (subst (λ y. allowed plans (is_eager plans costs) (plain h) b.class y ≡ true) p q.allowed)) ]

  -- nothing is less than a lesser action either
  none_before_lesser : (h : List Timed) (a b : Timed) → (a ≡ b) ⊎ IsLess (key a) (key b) → (x : OpId) → NoneBefore h b x → NoneBefore h a x
  none_before_lesser h a b (inl e) x none c p q before = none c p q (subst (λ d. IsLess (key c) (key d)) e before)
  none_before_lesser h a b (inr lt) x none c p q before = none c p q (less_transitive (key c) (key a) (key b) before lt)

  none_before_of_absent : (h : List Timed) (a : Timed) (x : OpId) → HasNone h x → NoneBefore h a x
  none_before_of_absent h a x none b p q before = none b p q

  least_or_nothing_possible : (h : List Timed) (xs : List OpId) → IsInterleaving plans (is_eager plans costs) (plain h) → ((a : Timed) × IsLeastOf h xs a) ⊎ All (HasNone h) xs
  least_or_nothing_possible h [] i = inr (All-nil (HasNone h))
  least_or_nothing_possible h (x ∷ xs) i = go (least_of_op h x i) (least_or_nothing_possible h xs i)
    where
      go : ((a : Timed) × Possible plans costs h a × NoneBefore h a x) ⊎ HasNone h x → ((a : Timed) × IsLeastOf h xs a) ⊎ All (HasNone h) xs → ((a : Timed) × IsLeastOf h (x ∷ xs) a) ⊎ All (HasNone h) (x ∷ xs)
      go (inr none) (inr rest) = inr (All-cons (HasNone h) x xs none rest)
      go (inr none) (inl t) =
          inl (t.0, record { possible = t.1.possible; least = All-cons (NoneBefore h t.0) x xs (none_before_of_absent h t.0 x none) t.1.least })
      go (inl s) (inr rest) =
          inl (s.0, record { possible = s.1; least = All-cons (NoneBefore h s.0) x xs s.2 (All-weaker (HasNone h) (NoneBefore h s.0) (none_before_of_absent h s.0) xs rest) })
      go (inl s) (inl t) = pick (key_cases s.0 t.0)
        where
          first : (s.0 ≡ t.0) ⊎ IsLess (key s.0) (key t.0) → ((a : Timed) × IsLeastOf h (x ∷ xs) a) ⊎ All (HasNone h) (x ∷ xs)
          first le =
              inl (s.0, record { possible = s.1; least = All-cons (NoneBefore h s.0) x xs s.2 (All-weaker (NoneBefore h t.0) (NoneBefore h s.0) (none_before_lesser h s.0 t.0 le) xs t.1.least) })

          pick : (s.0 ≡ t.0) ⊎ (IsLess (key s.0) (key t.0) ⊎ IsLess (key t.0) (key s.0)) → ((a : Timed) × IsLeastOf h (x ∷ xs) a) ⊎ All (HasNone h) (x ∷ xs)
          pick (inl e) = first (inl e)
          pick (inr (inl lt)) = first (inr lt)
          pick (inr (inr gt)) =
              inl (t.0, record { possible = t.1.possible; least = All-cons (NoneBefore h t.0) x xs (none_before_lesser h t.0 s.0 (inr gt) x s.2) t.1.least })

  -- after a run an action is next, or nothing is possible
  pub next_or_finished : (h : List Timed) → IsRun plans costs h → ((a : Timed) × IsNext plans costs h a) ⊎ IsFinished plans costs h
  next_or_finished h r =
      elim (least_or_nothing_possible h (operations plans) (run_interleaving plans costs h r)) [ inl t ↦ inl (t.0, record { possible = t.1.possible; least = λ b q. All-contains (NoneBefore h t.0) (operations plans) b.op t.1.least (listed b q) b refl q }) | inr none ↦ inr (λ b q. All-contains (HasNone h) (operations plans) b.op none (listed b q) b refl q) ]
    where
      listed : (b : Timed) → Possible plans costs h b → Contains (operations plans) b.op
      listed b q = allowed_listed plans (is_eager plans costs) (plain h) b.class b.op q.allowed

  next_leaves_fewer : (a : Timed) (h : List Timed) → IsNext plans costs h a → left plans (plain (a ∷ h)) + 1 ≤ left plans (plain h)
  unfolding plain
  next_leaves_fewer a h n = left_falls plans (is_eager plans costs) (plain_act a) (plain h) n.possible.allowed

  -- a run extends to a complete one, in at most as many steps as actions are left
  run_extends_to_complete : (n : ℕ) (h : List Timed) → left plans (plain h) ≤ n → IsRun plans costs h → (k : List Timed) × IsCompleteRun plans costs k
  run_extends_to_complete zero h le r =
      elim (next_or_finished h r) [ inl t ↦ absurd (omega (arith, next_leaves_fewer t.0 h t.1)) | inr f ↦ (h, record { run = r; finished = f }) ]
  run_extends_to_complete (suc n) h le r =
      elim (next_or_finished h r) [ inl t ↦ run_extends_to_complete n (t.0 ∷ h) (omega (arith, next_leaves_fewer t.0 h t.1)) (r, t.1) | inr f ↦ (h, record { run = r; finished = f }) ]

  -- a complete run exists
  pub complete_run_exists : (k : List Timed) × IsCompleteRun plans costs k
  complete_run_exists = run_extends_to_complete (left plans (plain [])) [] (omega arith) tt
