-- Holds that leave everything free at the same times: transitivity and one more hold; and what a free time is.
use Rattle.std.proofs.Common.{ℕ, zero, suc, ◌≡◌, ◌≤◌, max, ◌⊎◌, inl, inr, true, List, [], ◌∷◌, Contains, refl, sym, ap, ◌∙◌, subst, arith, if◌then◌else◌}
use Rattle.std.proofs.lemmas.Bool.{cases_Bool, cases_lt}
use Rattle.goal_graph.specs.declared.action.OpId.{OpId}
use Rattle.goal_graph.specs.declared.plan.Op.{Op}
use Rattle.goal_graph.specs.Schedule.{Plan}
use Rattle.goal_graph.proofs.ForCallers.{contains_first, contains_more}
use Rattle.sim_resources.specs.FreeTimes.{Hold, Holds, shares, free_at, hold, hold_cpu, hold_tx, hold_rx, SameFreeTimes}
use Rattle.sim_resources.specs.Laws.{IsOn, HasLast, FreeTimesAreGreatest, OthersStay, HoldsAddUp}

-- equal free times stay equal if both get the same hold
free_at-more : (place : Op → ℕ) (plans plans' : List Plan) (hs hs' : List Hold) (h : Hold) (y : OpId) → plans ≡ plans' → free_at place plans hs y ≡ free_at place plans' hs' y → free_at place plans (h ∷ hs) y ≡ free_at place plans' (h ∷ hs') y
unfolding free_at
free_at-more place plans plans' hs hs' h y p e = λ i. max (e i) (if shares place (p i) y h.op then h.until else 0)

pub same_free_times_transitive : (r s t : Holds) → SameFreeTimes r s → SameFreeTimes s t → SameFreeTimes r t
same_free_times_transitive r s t a b = record {
  plans = a.plans ∙ b.plans;
  cpu = λ y. a.cpu y ∙ b.cpu y;
  tx = λ y. a.tx y ∙ b.tx y;
  rx = λ y. a.rx y ∙ b.rx y;
}

pub same_hold_cpu : (r s : Holds) (x : OpId) (until : ℕ) → SameFreeTimes r s → SameFreeTimes (hold_cpu r x until) (hold_cpu s x until)
same_hold_cpu r s x until a = record {
  plans = a.plans;
  cpu = λ y. free_at-more (λ (o : Op). o.cpu) r.plans s.plans r.cpu s.cpu (hold x until) y a.plans (a.cpu y);
  tx = a.tx;
  rx = a.rx;
}

pub same_hold_tx : (r s : Holds) (x : OpId) (until : ℕ) → SameFreeTimes r s → SameFreeTimes (hold_tx r x until) (hold_tx s x until)
same_hold_tx r s x until a = record {
  plans = a.plans;
  cpu = a.cpu;
  tx = λ y. free_at-more (λ (o : Op). o.nic) r.plans s.plans r.tx s.tx (hold x until) y a.plans (a.tx y);
  rx = a.rx;
}

pub same_hold_rx : (r s : Holds) (x : OpId) (until : ℕ) → SameFreeTimes r s → SameFreeTimes (hold_rx r x until) (hold_rx s x until)
same_hold_rx r s x until a = record {
  plans = a.plans;
  cpu = a.cpu;
  tx = a.tx;
  rx = λ y. free_at-more (λ (o : Op). o.nic) r.plans s.plans r.rx s.rx (hold x until) y a.plans (a.rx y);
}

pub holds_add_up : HoldsAddUp
holds_add_up = record {
  cpu = record { adds = λ now next all x until a b. same_free_times_transitive next (hold_cpu now x until) (hold_cpu all x until) b (same_hold_cpu now all x until a) };
  tx = record { adds = λ now next all x until a b. same_free_times_transitive next (hold_tx now x until) (hold_tx all x until) b (same_hold_tx now all x until a) };
  rx = record { adds = λ now next all x until a b. same_free_times_transitive next (hold_rx now x until) (hold_rx all x until) b (same_hold_rx now all x until a) };
}

pub others_stay : OthersStay
unfolding free_at
others_stay place plans holds h x other = rw other (omega arith)

module _ (place : Op → ℕ) (plans : List Plan) where
  contained_in_cons_cases : (h : Hold) (hs : List Hold) (g : Hold) → Contains (h ∷ hs) g → (h ≡ g) ⊎ Contains hs g
  contained_in_cons_cases h hs g (zero, b, e) = inl e
  contained_in_cons_cases h hs g (suc k, b, e) = inr (k, omega (arith, b), e)

  free_at-on : (h : Hold) (hs : List Hold) (x : OpId) → shares place plans x h.op ≡ true → free_at place plans (h ∷ hs) x ≡ max (free_at place plans hs x) h.until
  unfolding free_at
  free_at-on h hs x on = rw on refl

  hold_never_frees_earlier : (h : Hold) (hs : List Hold) (x : OpId) → free_at place plans hs x ≤ free_at place plans (h ∷ hs) x
  unfolding free_at
  hold_never_frees_earlier h hs x = omega arith

  holds_end_before_free : (hs : List Hold) (x : OpId) (g : Hold) → IsOn place plans hs x g → g.until ≤ free_at place plans hs x
  holds_end_before_free [] x g on = absurd (omega (arith, on.made.1))
  holds_end_before_free (h ∷ hs) x g on =
      elim (contained_in_cons_cases h hs g on.made) [
        | inl e ↦
            let shared : shares place plans x h.op ≡ true = subst (λ (f : Hold). shares place plans x f.op ≡ true) (sym e) on.shared in
            omega (arith, free_at-on h hs x shared, ap (λ (f : Hold). f.until) e)
        | inr made ↦
            let rest = holds_end_before_free hs x g (record { made = made; shared = on.shared }) in
            omega (arith, rest, hold_never_frees_earlier h hs x)
      ]

  equal_free_time_keeps_last : (h : Hold) (hs : List Hold) (x : OpId) → free_at place plans (h ∷ hs) x ≡ free_at place plans hs x → (free_at place plans hs x ≡ 0) ⊎ HasLast place plans hs x → (free_at place plans (h ∷ hs) x ≡ 0) ⊎ HasLast place plans (h ∷ hs) x
  equal_free_time_keeps_last h hs x same (inl zero_yet) = inl (same ∙ zero_yet)
  equal_free_time_keeps_last h hs x same (inr l) =
      inr (record {
        last = l.last;
        on = record { made = contains_more h hs l.last l.on.made; shared = l.on.shared };
        ends = l.ends ∙ sym same;
      })

  free_time_is_zero_or_last : (hs : List Hold) (x : OpId) → (free_at place plans hs x ≡ 0) ⊎ HasLast place plans hs x
  unfolding free_at
  free_time_is_zero_or_last [] x = inl refl
  free_time_is_zero_or_last (h ∷ hs) x =
      elim (cases_Bool (shares place plans x h.op)) [
        | inl shared ↦ elim (cases_lt (free_at place plans hs x) h.until) [
          | inl later ↦ inr (record {
            last = h;
            on = record { made = contains_first h hs h refl; shared = shared };
            ends = rw shared (omega arith);
          })
          | inr no_later ↦ equal_free_time_keeps_last h hs x (rw shared (omega arith)) (free_time_is_zero_or_last hs x)
        ]
        | inr other ↦ equal_free_time_keeps_last h hs x (others_stay place plans hs h x other) (free_time_is_zero_or_last hs x)
      ]

pub free_times_are_greatest : FreeTimesAreGreatest
free_times_are_greatest place plans holds x = record {
  bounds = holds_end_before_free place plans holds x;
  reached = free_time_is_zero_or_last place plans holds x;
}
