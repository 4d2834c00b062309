-- Each interleaving goes on to a complete one, whatever is eager: with each allowed action less is left.
use Rattle.std.proofs.Common.{ℕ, zero, suc, ◌<◌, ⊎_elim, ◌≡◌, ◌⊎◌, inl, inr, Bool, true, false, List, [], ◌∷◌, ◌++◌, Contains, sym, subst, append_assoc, arith}
use Rattle.std.proofs.lemmas.Bool.{both_ways, cases_Bool}
use Rattle.goal_graph.specs.declared.action.OpId.{OpId}
use Rattle.goal_graph.specs.declared.action.Class.{Class}
use Rattle.goal_graph.specs.declared.action.Class.TheVariants.{Arrive, Serve, Data, Post, Begin}
use Rattle.goal_graph.specs.Schedule.{Plan, operations}
use Rattle.goal_graph.specs.Action.{Act}
use Rattle.goal_graph.specs.Allowed.{allowed}
use Rattle.goal_graph.specs.Interleaving.{IsInterleaving, IsCompleteInterleaving}
use Rattle.goal_graph.specs.Laws.{left}
use Rattle.goal_graph.proofs.ForCallers.{allowed_listed, left_falls}

module _ (plans : List Plan) (eager : OpId → Bool) where
  abbrev is_allowed_next : List Act → Class → OpId → Bool
  is_allowed_next h c x = allowed plans eager h c x

  -- an operation has an allowed action, or none
  pub allowed_class_or_none : (h : List Act) (x : OpId) → ((c : Class) × (is_allowed_next h c x ≡ true)) ⊎ ((c : Class) → is_allowed_next h c x ≡ false)
  allowed_class_or_none h x =
      go (cases_Bool (is_allowed_next h Arrive x)) (cases_Bool (is_allowed_next h Serve x)) (cases_Bool (is_allowed_next h Data x)) (cases_Bool (is_allowed_next h Post x)) (cases_Bool (is_allowed_next h Begin x))
    where
      none : is_allowed_next h Arrive x ≡ false → is_allowed_next h Serve x ≡ false → is_allowed_next h Data x ≡ false → is_allowed_next h Post x ≡ false → is_allowed_next h Begin x ≡ false → (c : Class) → is_allowed_next h c x ≡ false
      none p q r s t Arrive = p
      none p q r s t Serve = q
      none p q r s t Data = r
      none p q r s t Post = s
      none p q r s t Begin = t

      go : ((is_allowed_next h Arrive x ≡ true) ⊎ (is_allowed_next h Arrive x ≡ false)) → ((is_allowed_next h Serve x ≡ true) ⊎ (is_allowed_next h Serve x ≡ false)) → ((is_allowed_next h Data x ≡ true) ⊎ (is_allowed_next h Data x ≡ false)) → ((is_allowed_next h Post x ≡ true) ⊎ (is_allowed_next h Post x ≡ false)) → ((is_allowed_next h Begin x ≡ true) ⊎ (is_allowed_next h Begin x ≡ false)) → ((c : Class) × (is_allowed_next h c x ≡ true)) ⊎ ((c : Class) → is_allowed_next h c x ≡ false)
      go (inl p) q r s t = inl (Arrive, p)
      go (inr p) (inl q) r s t = inl (Serve, q)
      go (inr p) (inr q) (inl r) s t = inl (Data, r)
      go (inr p) (inr q) (inr r) (inl s) t = inl (Post, s)
      go (inr p) (inr q) (inr r) (inr s) (inl t) = inl (Begin, t)
      go (inr p) (inr q) (inr r) (inr s) (inr t) = inr (none p q r s t)

  -- one of these operations has an allowed action, or none of them has
  allowed_action_or_none : (h : List Act) (os : List OpId) → ((a : Act) × (is_allowed_next h a.class a.op ≡ true)) ⊎ ((y : OpId) → Contains os y → (d : Class) → is_allowed_next h d y ≡ false)
  allowed_action_or_none h [] = inr (λ y c d. absurd (omega (arith, c.1)))
  allowed_action_or_none h (x ∷ os) =
      ⊎_elim (λ found. inl (record { class = found.0; op = x }, found.1)) (λ none. ⊎_elim (λ found. inl found) (λ rest. inr (nowhere none rest)) (allowed_action_or_none h os)) (allowed_class_or_none h x)
    where
      nowhere : ((c : Class) → is_allowed_next h c x ≡ false) → ((y : OpId) → Contains os y → (d : Class) → is_allowed_next h d y ≡ false) → (y : OpId) → Contains (x ∷ os) y → (d : Class) → is_allowed_next h d y ≡ false
      nowhere none rest y (zero, b, e) d = subst (λ (z : OpId). is_allowed_next h d z ≡ false) e (none d)
      nowhere none rest y (suc k, b, e) d = rest y (k, omega (arith, b), e) d

  no_action_if_no_operation_has_one : (h : List Act) → ((y : OpId) → Contains (operations plans) y → (d : Class) → is_allowed_next h d y ≡ false) → (a : Act) → is_allowed_next h a.class a.op ≡ false
  no_action_if_no_operation_has_one h none a =
      ⊎_elim (λ p. absurd (both_ways _ (none a.op (allowed_listed plans eager h a.class a.op p) a.class) p)) (λ p. p) (cases_Bool (is_allowed_next h a.class a.op))

  -- with at most n actions left
  completes_within_actions_left : (n : ℕ) (h : List Act) → left plans h < n → IsInterleaving plans eager h → (more : List Act) × IsCompleteInterleaving plans eager (more ++ h)
  completes_within_actions_left zero h few run = absurd (omega (arith, few))
  completes_within_actions_left (suc n) h few run =
      ⊎_elim (λ found. let fewer = left_falls plans eager found.0 h found.1 in with found.0 (completes_within_actions_left n (found.0 ∷ h) (omega (arith, few, fewer)) (run, found.1))) (λ none. ([], record { each = run; none_left = no_action_if_no_operation_has_one h none })) (allowed_action_or_none h (operations plans))
    where
      with : (a : Act) → ((more : List Act) × IsCompleteInterleaving plans eager (more ++ (a ∷ h))) → (more : List Act) × IsCompleteInterleaving plans eager (more ++ h)
      with a rest =
          (rest.0 ++ (a ∷ []), subst (λ (l : List Act). IsCompleteInterleaving plans eager l) (sym (append_assoc rest.0 (a ∷ []) h)) rest.1)

  pub interleaving_can_be_completed : (h : List Act) → IsInterleaving plans eager h → (more : List Act) × IsCompleteInterleaving plans eager (more ++ h)
  interleaving_can_be_completed h run = completes_within_actions_left (suc (left plans h)) h (omega arith) run

  pub some_complete : (h : List Act) × IsCompleteInterleaving plans eager h
  some_complete = some (interleaving_can_be_completed [] tt)
    where
      some : ((more : List Act) × IsCompleteInterleaving plans eager (more ++ [])) → (h : List Act) × IsCompleteInterleaving plans eager h
      some rest = (rest.0 ++ [], rest.1)
