use Rattle.std.proofs.Common.{ℕ, ◌+◌, ◌<◌, ◌≡◌, ⊎_elim, List, [], ◌∷◌, ◌++◌, length, get_or, sym, ap, subst, arith}
use Rattle.std.proofs.lemmas.Bool.{cases_lt}
use Rattle.std.proofs.lemmas.List.{get_or_append_left, get_or_push, length_push}
use Rattle.sim_cycles.specs.Walks.{IsHeadOf}
use Rattle.sim_cycles.specs.Places.{target_at}
use Rattle.sim_cycles.proofs.heads.known.Goals as goal

each_with_appended_head : (P : ℕ → ℕ → Type 0) (hs new : List ℕ) (n h : ℕ) → length hs ≡ n → new ≡ hs ++ h ∷ [] → P n h → ((i : ℕ) → i < n → P i (get_or hs i 0)) → (i : ℕ) → i < n + 1 → P i (get_or new i 0)
each_with_appended_head P hs new n h long e here each i below =
    rw e (⊎_elim (λ less. subst (P i) (sym (get_or_append_left hs (h ∷ []) 0 i (omega arith))) (each i less)) (λ more. let same : i ≡ n = omega arith in rw same (subst (P n) (sym (get_or_push hs h 0 n long)) here)) (cases_lt i n))

pub loop-mark-preserved : goal.loop-mark-preserved
loop-mark-preserved c = record {
  long = omega (arith, ap length c.in_ok-push-in-Known.ensures.items, length_push c.loop-mark.heads.items c.in-Known.head, c.loop-mark.invariant.long);
  each = each_with_appended_head (λ i h. IsHeadOf (target_at c.args.targets.now) i h) _ _ _ _ c.loop-mark.invariant.long c.in_ok-push-in-Known.ensures.items (c.requires.known _ _ c.in-Known.is) c.loop-mark.invariant.each;
}
