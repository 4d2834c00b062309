use Rattle.std.proofs.Common.{◌≡◌, ◌⊎◌, ℕ, zero, suc, true, List, [], ◌∷◌, slice_set, Option, Some, None, refl, sym, subst, ap, ◌∙◌, inl, inr}
use Rattle.std.proofs.lemmas.Option.{same_Some}
use Rattle.goal_graph.specs.declared.action.Timed.{Timed}
use Rattle.goal_graph.specs.declared.action.Class.TheVariants.{Begin}
use Rattle.sim_order.specs.Events.{event_before}
use Rattle.sim_queue.specs.Map.{key_at, IsSoleLeast}
use Rattle.sim_tests.proofs.queue.first_and_second.Goals as goal

abbrev begin_at : ℕ → Timed
begin_at time = record { time = time; class = Begin; op = record { rank = 0; op = 0 } }

abbrev three_begin_keys : List (Option Timed)
three_begin_keys = Some (begin_at 4) ∷ Some (begin_at 2) ∷ Some (begin_at 3) ∷ []

first : (other : ℕ) (k : Timed) → key_at three_begin_keys other ≡ Some k → (other ≡ 1) ⊎ (event_before (begin_at 2) k ≡ true)
first zero k e = inr (subst (λ z. event_before (begin_at 2) z ≡ true) (same_Some (begin_at 4) k e) refl)
first (suc zero) k e = inl refl
first (suc (suc zero)) k e = inr (subst (λ z. event_before (begin_at 2) z ≡ true) (same_Some (begin_at 3) k e) refl)
first (suc (suc (suc other))) k e = absurd (cc)

sole : IsSoleLeast event_before three_begin_keys 1
sole = record { key = begin_at 2; has = refl; first = first }

pub take-requires : goal.take-requires
take-requires g c =
    let put : c.put.new.self ≡ Some (begin_at 4) ∷ None ∷ None ∷ [] = c.put.ensures.put ∙ ap (λ ks. slice_set ks 0 (Some c.begin.result)) c.requires.none ∙ ap (λ (k : Timed). Some k ∷ None ∷ None ∷ []) c.begin.ensures in
    let more : c.put-2.new.self ≡ Some (begin_at 4) ∷ Some (begin_at 2) ∷ None ∷ [] = c.put-2.ensures.put ∙ ap (λ ks. slice_set ks 1 (Some c.begin-2.result)) put ∙ ap (λ (k : Timed). Some (begin_at 4) ∷ Some k ∷ None ∷ []) c.begin-2.ensures in
    let all : c.put-3.new.self ≡ three_begin_keys = c.put-3.ensures.put ∙ ap (λ ks. slice_set ks 2 (Some c.begin-3.result)) more ∙ ap (λ (k : Timed). Some (begin_at 4) ∷ Some (begin_at 2) ∷ Some k ∷ []) c.begin-3.ensures in
    subst (λ ks. IsSoleLeast event_before ks 1) (sym all) sole
