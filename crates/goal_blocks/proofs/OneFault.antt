-- A schedule has at most one first fault.
use Rattle.std.proofs.Common.{⊎_elim, ℕ, zero, suc, ◌≡◌, ◌⊎◌, inl, inr, Bool, List, [], ◌∷◌, length, Option, Some, None, refl, sym, ap, ◌∙◌, subst, arith}
use Rattle.std.proofs.lemmas.Bool.{cases_lt}
use Rattle.goal_graph.specs.declared.action.OpId.{OpId}
use Rattle.goal_graph.specs.declared.plan.Kind.{Kind}
use Rattle.goal_graph.specs.declared.plan.Kind.TheVariants.{Calc, Send, Recv}
use Rattle.goal_graph.specs.Schedule.{Plan, kind_at}
use Rattle.goal_graph.specs.Action.{Act}
use Rattle.goal_graph.specs.Order.{IsLess}
use Rattle.goal_blocks.specs.declared.cert_fault.CertFault.{CertFault}
use Rattle.goal_blocks.specs.declared.cert_fault.CertFault.TheVariants.{TooLarge, Wildcard, DoubleChannel, Unpaired, Lengths, Race, Stalls, Weight, Wrong, NoMemory}
use Rattle.goal_blocks.specs.Walk.{no_send}
use Rattle.goal_blocks.specs.Values.{Value, Store, Held, held_after}
use Rattle.goal_blocks.specs.Weight.{weight_within}
use Rattle.goal_blocks.specs.Faults.{IsLeast, rank_key, op_key, IsLarge, IsWildcard, AreDouble, IsUnpaired, HaveOtherLengths, race_key, IsRace, IsStalled, AddsTooMuch, IsFirstTooHeavy, slot_key, IsWrong, HasFault, fault_place, IsCertificationFault}
use Rattle.goal_blocks.proofs.Faults.{adds_not, heavy_not}
use Rattle.goal_blocks.proofs.SomeWalk.{some_walk}

-- of two keys of one length, one is less or they are equal
cases_key : (j k : List ℕ) → length j ≡ length k → IsLess j k ⊎ (IsLess k j ⊎ (j ≡ k))
cases_key [] [] e = inr (inr refl)
cases_key [] (n ∷ k) e = absurd (omega (arith, e))
cases_key (m ∷ j) [] e = absurd (omega (arith, e))
cases_key (m ∷ j) (n ∷ k) e =
    ⊎_elim (λ l. inl (inl l)) (λ g. ⊎_elim (λ l. inr (inl (inl l))) (λ h. let f : m ≡ n = omega (arith, g, h) in ⊎_elim (λ l. inl (inr (f, l))) (λ r. ⊎_elim (λ l. inr (inl (inr (sym f, l)))) (λ s. inr (inr (λ i. f i ∷ s i))) r) (cases_key j k (omega (arith, e)))) (cases_lt n m)) (cases_lt m n)

one_least : {A : Type 0} (n : ℕ) (key : A → List ℕ) → ((x : A) → length (key x) ≡ n) → (P : A → Type 0) → (x y : A) → IsLeast key P x → IsLeast key P y → key x ≡ key y
one_least n key long P x y l m =
    ⊎_elim (λ b. absurd (m.none_less x b l.holds)) (λ r. ⊎_elim (λ b. absurd (l.none_less y b m.holds)) (λ e. e) r) (cases_key (key x) (key y) (long x ∙ sym (long y)))

nth_number : ℕ → List ℕ → ℕ
nth_number n [] = 0
nth_number zero (m ∷ k) = m
nth_number (suc n) (m ∷ k) = nth_number n k

least_operation_is_unique : (P : OpId → Type 0) (x y : OpId) → IsLeast op_key P x → IsLeast op_key P y → x ≡ y
unfolding nth_number
least_operation_is_unique P x y l m =
    let e = one_least 2 op_key (λ x. refl) P x y l m in
    λ i. record { rank = nth_number 0 (e i); op = nth_number 1 (e i) }

module _ (plans : List Plan) (first : Store) where
  one_addition : (h : List Act) (held : Held) (x : OpId) (k : Option Kind) (m n : ℕ) → AddsTooMuch plans h held x k m → AddsTooMuch plans h held x k n → m ≡ n
  one_addition h held x (Some (Calc nanos)) m n (i, e, heavy, light) (j, f, over, less) =
      ⊎_elim (λ l. let few = less i l in absurd (omega (arith, few, e, heavy))) (λ g. ⊎_elim (λ l. let few = light j l in absurd (omega (arith, few, f, over))) (λ b. let s : i ≡ j = omega (arith, g, b) in sym e ∙ ap (λ (c : ℕ). weight_within plans h held x c) s ∙ f) (cases_lt j i)) (cases_lt i j)
  one_addition h held x (Some (Send bytes to tag)) m n p q = absurd p
  one_addition h held x (Some (Recv room from tag)) m n p q = absurd p
  one_addition h held x None m n p q = absurd p

  one_heavy : (h : List Act) (m n : ℕ) → IsFirstTooHeavy plans first h m → IsFirstTooHeavy plans first h n → m ≡ n
  one_heavy [] m n p q = sym p.0 ∙ q.0
  one_heavy (a ∷ h) m n (inl p) (inl q) = one_heavy h m n p q
  one_heavy (a ∷ h) m n (inl p) (inr (l, q)) = absurd (heavy_not plans first h m l p)
  one_heavy (a ∷ h) m n (inr (l, p)) (inl q) = absurd (heavy_not plans first h n l q)
  one_heavy (a ∷ h) m n (inr (l, inl p)) (inr (k, inl q)) =
      one_addition h (held_after plans no_send first h) a.op (kind_at plans a.op) m n p q
  one_heavy (a ∷ h) m n (inr (l, inl p)) (inr (k, inr (few, f, over))) =
      absurd (adds_not plans first h (held_after plans no_send first h) a.op (kind_at plans a.op) m few p)
  one_heavy (a ∷ h) m n (inr (l, inr (few, e, heavy))) (inr (k, inl q)) =
      absurd (adds_not plans first h (held_after plans no_send first h) a.op (kind_at plans a.op) n few q)
  one_heavy (a ∷ h) m n (inr (l, inr (few, e, heavy))) (inr (k, inr (less, f, over))) = sym e ∙ f

  module _ (wanted : ℕ → ℕ → Value → Bool) where
    same_fault : (f g : CertFault) → fault_place f ≡ fault_place g → HasFault plans first wanted f → HasFault plans first wanted g → f ≡ g
    unfolding nth_number
    same_fault (TooLarge r) (TooLarge q) e a b =
        let s = one_least 1 rank_key (λ n. refl) (IsLarge plans) r q a b in λ i. TooLarge (nth_number 0 (s i))
    same_fault (Wildcard x) (Wildcard y) e a b = ap (λ (z : OpId). Wildcard z) (least_operation_is_unique (IsWildcard plans) x y a b)
    same_fault (DoubleChannel y x) (DoubleChannel v u) e a b =
        let s = least_operation_is_unique (λ x. (y : OpId) × AreDouble plans y x) x u a.0 b.0 in
        let t = least_operation_is_unique (λ y. AreDouble plans y x) y v a.1 (subst (λ (z : OpId). IsLeast op_key (λ y. AreDouble plans y z) v) (sym s) b.1) in
        λ i. DoubleChannel (t i) (s i)
    same_fault (Unpaired x) (Unpaired y) e a b = ap (λ (z : OpId). Unpaired z) (least_operation_is_unique (IsUnpaired plans) x y a b)
    same_fault (Lengths m x) (Lengths n y) e a b =
        let s = least_operation_is_unique (λ m. (x : OpId) × HaveOtherLengths plans m x) m n a.0 b.0 in
        let t = least_operation_is_unique (λ x. HaveOtherLengths plans m x) x y a.1 (subst (λ (z : OpId). IsLeast op_key (λ x. HaveOtherLengths plans z x) y) (sym s) b.1) in
        λ i. Lengths (s i) (t i)
    same_fault (Race r j k s) (Race q l n t) e a b =
        let same = one_least 4 race_key (λ a. refl) (IsRace plans) (record { rank = r; first = j; second = k; slot = s }) (record { rank = q; first = l; second = n; slot = t }) a b in
        λ i. Race (nth_number 0 (same i)) (nth_number 1 (same i)) (nth_number 2 (same i)) (nth_number 3 (same i))
    same_fault (Stalls x) (Stalls y) e a b = ap (λ (z : OpId). Stalls z) (least_operation_is_unique (IsStalled plans) x y a b)
    same_fault (Weight m) (Weight n) e a b =
        let walk = some_walk plans in ap (λ (k : ℕ). Weight k) (one_heavy walk.0 m n (a walk.0 walk.1) (b walk.0 walk.1))
    same_fault (Wrong r s) (Wrong q t) e a b =
        let same = one_least 2 slot_key (λ a. refl) (IsWrong plans first wanted) (record { rank = r; slot = s }) (record { rank = q; slot = t }) a b in
        λ i. Wrong (nth_number 0 (same i)) (nth_number 1 (same i))
    same_fault NoMemory NoMemory e a b = absurd a
    same_fault _ _ e a b = absurd (omega (arith, e))

    pub one_fault : (f g : CertFault) → IsCertificationFault plans first wanted f → IsCertificationFault plans first wanted g → f ≡ g
    one_fault f g a b =
        ⊎_elim (λ l. absurd (b.none_before f l a.has)) (λ p. ⊎_elim (λ l. absurd (a.none_before g l b.has)) (λ q. same_fault f g (omega (arith, p, q)) a.has b.has) (cases_lt (fault_place g) (fault_place f))) (cases_lt (fault_place f) (fault_place g))
