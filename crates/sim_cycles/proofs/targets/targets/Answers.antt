use Rattle.std.proofs.Common.{ℕ, ◌+◌, ◌<◌, ◌≤◌, ◌≡◌, ⊎_elim, List, [], ◌∷◌, ◌++◌, length, sym, ap, ◌∙◌, subst, arith}
use Rattle.std.proofs.lemmas.Bool.{cases_lt}
use Rattle.std.proofs.lemmas.List.{get_or_append_left, get_or_push, length_push}
use Rattle.std.proofs.lemmas.List.Elements.{Contains-get_or}
use Rattle.goal_graph.specs.declared.action.Stuck.{Stuck}
use Rattle.sim_cycles.specs.Places.{IsTarget, target_at}
use Rattle.sim_cycles.proofs.PlacesLemmas.{target_named, target_alone}
use Rattle.sim_cycles.proofs.targets.targets.Goals as goal
use Rattle.sim_cycles.proofs.targets.targets.Goals.{in-Some, in-None}

each_with_appended_target : (list : List Stuck) (ts new : List ℕ) (n j : ℕ) → length ts ≡ n → new ≡ ts ++ j ∷ [] → IsTarget list n j → ((i : ℕ) → i < n → IsTarget list i (target_at ts i)) → (i : ℕ) → i < n + 1 → IsTarget list i (target_at new i)
each_with_appended_target list ts new n j long e here each i below =
    rw e (⊎_elim (λ less. subst (IsTarget list i) (sym (get_or_append_left ts (j ∷ []) 0 i (omega arith))) (each i less)) (λ (more : n ≤ i). let same : i ≡ n = omega (arith, more, below) in rw same (subst (IsTarget list n) (sym (get_or_push ts j 0 n long)) here)) (cases_lt i n))

pub place-target-requires-clause-listed : goal.place-target-requires-clause-listed
place-target-requires-clause-listed c =
    c.requires.listed _ _ (Contains-get_or _ _ _ c.loop-at-test.true) (sym c.named.ensures ∙ c.in-Some.is)

pub loop-at-preserved : goal.loop-at-preserved
loop-at-preserved c = record {
  long = omega (arith, ap length c.in_ok-push.ensures.items, length_push c.loop-at.targets.items c.match-named.target, c.loop-at.invariant.long);
  each = each_with_appended_target c.args.list.now _ _ _ _ c.loop-at.invariant.long c.in_ok-push.ensures.items (elim c.match-named.branch [ in-Some w ↦ rw w.target-is (target_named _ _ _ _ _ c.requires.order c.loop-at-test.true w.place-target.ensures.inside (sym c.named.ensures ∙ w.in-Some.is) w.place-target.ensures.there) | in-None w ↦ rw w.target-is (target_alone _ _ _ c.requires.order c.loop-at-test.true (sym c.named.ensures ∙ w.in-None.is)) ]) c.loop-at.invariant.each;
}

pub returns : goal.returns
returns c =
    let n : c.loop-at.at ≡ length c.args.list.now = omega (arith, c.loop-at-test.false, c.loop-at.auto.at-end) in record {
      long = c.loop-at.invariant.long ∙ n;
      each = λ i inside. c.loop-at.invariant.each i (omega (arith, n, inside));
    }
