-- There is at most one run of each length, and one complete run.
use Rattle.std.proofs.Common.{◌≤◌, ◌≡◌, ◌⊎◌, List, [], ◌∷◌, ◌++◌, length, inl, inr, refl, sym, ap, subst, arith}
use Rattle.std.proofs.lemmas.Bool.{cases_eq, cases_lt}
use Rattle.goal_graph.specs.declared.action.Timed.{Timed}
use Rattle.goal_graph.specs.Schedule.{Plan}
use Rattle.sim_params.specs.Costs.{CostModel}
use Rattle.sim_params.specs.Times.{Possible}
use Rattle.sim_params.specs.Run.{IsNext, IsRun, IsCompleteRun}
use Rattle.goal_graph.proofs.ForCallers.{least_unique}

module _ (plans : List Plan) (costs : CostModel) where
  -- at most one action is next
  pub next_unique : (h : List Timed) (a b : Timed) → IsNext plans costs h a → IsNext plans costs h b → a ≡ b
  next_unique h a b n m = least_unique a b (m.least a n.possible) (n.least b m.possible)

  -- two runs of the same length are the same
  pub run_of_length_unique : (h k : List Timed) → length h ≡ length k → IsRun plans costs h → IsRun plans costs k → h ≡ k
  run_of_length_unique [] [] e r s = refl
  run_of_length_unique [] (b ∷ k) e r s = absurd (omega arith)
  run_of_length_unique (a ∷ h) [] e r s = absurd (omega arith)
  run_of_length_unique (a ∷ h) (b ∷ k) e r s =
      let rest : h ≡ k = run_of_length_unique h k (omega arith) r.0 s.0 in
      let first : a ≡ b = next_unique h a b r.1 (subst (λ l. IsNext plans costs l b) (sym rest) s.1) in
      cc

  -- of two runs the longer begins with the shorter
  pub longer_run_extends : (h k : List Timed) → length h ≤ length k → IsRun plans costs h → IsRun plans costs k → (l : List Timed) × (k ≡ l ++ h)
  longer_run_extends h [] le r s = ([], run_of_length_unique [] h (omega arith) s r)
  longer_run_extends h (b ∷ k) le r s =
      elim (cases_eq (length h) (length (b ∷ k))) [ inl e ↦ ([], sym (run_of_length_unique h (b ∷ k) e r s)) | inr f ↦ (let rest = longer_run_extends h k (omega arith) r s.0 in (b ∷ rest.0, ap (λ t. b ∷ t) rest.1)) ]

  pub one_run_extends_other : (h k : List Timed) → IsRun plans costs h → IsRun plans costs k → ((l : List Timed) × (k ≡ l ++ h)) ⊎ ((l : List Timed) × (h ≡ l ++ k))
  one_run_extends_other h k r s =
      elim (cases_lt (length h) (length k)) [ inl lt ↦ inl (longer_run_extends h k (omega arith) r s) | inr le ↦ inr (longer_run_extends k h le s r) ]

  -- no run is longer than a complete one
  pub no_run_longer_than_complete : (h k : List Timed) → IsCompleteRun plans costs h → IsRun plans costs k → length k ≤ length h
  no_run_longer_than_complete h [] c s = omega arith
  no_run_longer_than_complete h (b ∷ k) c s =
      let le : length k ≤ length h = no_run_longer_than_complete h k c s.0 in
      elim (cases_eq (length k) (length h)) [ inl e ↦ absurd (c.finished b (subst (λ l. Possible plans costs l b) (run_of_length_unique k h e s.0 c.run) s.1.possible)) | inr f ↦ omega arith ]

  -- a complete run begins with every run
  pub complete_run_extends_run : (h k : List Timed) → IsRun plans costs h → IsCompleteRun plans costs k → (l : List Timed) × (k ≡ l ++ h)
  complete_run_extends_run h k r c = longer_run_extends h k (no_run_longer_than_complete k h c r) r c.run

  -- two complete runs are the same
  pub complete_run_unique : (h k : List Timed) → IsCompleteRun plans costs h → IsCompleteRun plans costs k → h ≡ k
  complete_run_unique h k c d =
      let le = no_run_longer_than_complete h k c d.run in
      let ge = no_run_longer_than_complete k h d c.run in
      run_of_length_unique h k (omega arith) c.run d.run
