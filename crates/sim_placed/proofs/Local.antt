-- What has happened to the operations of a rank, and when, depends on its own actions.
use Rattle.std.proofs.Common.{ℕ, ◌≤◌, ◌≡◌, ◌⊎◌, inl, inr, ⊎_elim, Bool, true, false, ◌||◌, List, [], ◌∷◌, All, refl, sym, ap, ◌∙◌, arith}
use Rattle.std.proofs.lemmas.Bool.{both_ways, cases_Bool, cases_eq, false_from_ne_true}
use Rattle.std.proofs.lemmas.List.Elements.{All-head, All-tail}
use Rattle.goal_graph.specs.declared.action.OpId.{OpId}
use Rattle.goal_graph.specs.declared.action.Timed.{Timed}
use Rattle.goal_graph.specs.declared.action.Class.{Class}
use Rattle.goal_graph.specs.Action.{is_act, happened, plain, plain_act}
use Rattle.goal_graph.proofs.ForCallers.{happened_stays, happened_cases, happened_none, happened_unless_newest, happened_new, is_act_op}
use Rattle.sim_params.specs.Times.{since}
use Rattle.sim_params.proofs.ForCallers.{since_kept, since_new}
use Rattle.sim_placed.proofs.Tails.{IsTail, whole, newer, on_rank, on_rank_of_own_action, on_rank_of_other_action, Below, Rises}

-- whether it has happened, and when
abbrev pub has_happened : Class → OpId → List Timed → Bool
has_happened c x h = happened c x (plain h)

abbrev pub time_happened : Class → OpId → List Timed → ℕ
time_happened c x h = since (happened c x) h

pub has_happened_nothing : (c : Class) (x : OpId) → has_happened c x [] ≡ true → ⊥
unfolding plain
has_happened_nothing c x e = both_ways _ (happened_none c x) e

pub has_happened_more : (c : Class) (x : OpId) (a : Timed) (h : List Timed) → has_happened c x h ≡ true → has_happened c x (a ∷ h) ≡ true
unfolding plain
has_happened_more c x a h e = happened_stays c x (plain_act a) (plain h) e

pub has_happened_cases : (c : Class) (x : OpId) (a : Timed) (h : List Timed) → has_happened c x (a ∷ h) ≡ true → (has_happened c x h ≡ true) ⊎ (is_act c x (plain_act a) ≡ true)
unfolding plain
has_happened_cases c x a h e = happened_cases c x (plain_act a) (plain h) e

pub has_happened_new : (c : Class) (x : OpId) (a : Timed) (h : List Timed) → is_act c x (plain_act a) ≡ true → has_happened c x (a ∷ h) ≡ true
unfolding plain
has_happened_new c x a h e = happened_new c x (plain_act a) (plain h) e

has_happened_other : (c : Class) (x : OpId) (a : Timed) (h : List Timed) → (a.op.rank ≡ x.rank → ⊥) → has_happened c x (a ∷ h) ≡ has_happened c x h
unfolding plain
has_happened_other c x a h ne =
    happened_unless_newest c x (plain_act a) (plain h) (false_from_ne_true _ (λ t. ne (ap (λ (y : OpId). y.rank) (is_act_op c x (plain_act a) t))))

has_happened_same : (c : Class) (x : OpId) (a : Timed) (h u : List Timed) → has_happened c x h ≡ has_happened c x u → has_happened c x (a ∷ h) ≡ has_happened c x (a ∷ u)
unfolding plain happened
has_happened_same c x a h u e = ap (λ (b : Bool). b || is_act c x (plain_act a)) e

pub has_happened_local : (c : Class) (x : OpId) (h : List Timed) → has_happened c x h ≡ has_happened c x (on_rank x.rank h)
has_happened_local c x [] = refl
has_happened_local c x (a ∷ h) = go (has_happened_local c x h) (cases_eq a.op.rank x.rank)
  where
    go : has_happened c x h ≡ has_happened c x (on_rank x.rank h) → (a.op.rank ≡ x.rank) ⊎ (a.op.rank ≡ x.rank → ⊥) → has_happened c x (a ∷ h) ≡ has_happened c x (on_rank x.rank (a ∷ h))
    go rest (inl e) = has_happened_same c x a h (on_rank x.rank h) rest ∙ ap (has_happened c x) (sym (on_rank_of_own_action x.rank a h e))
    go rest (inr ne) = has_happened_other c x a h ne ∙ (rest ∙ ap (has_happened c x) (sym (on_rank_of_other_action x.rank a h ne)))

pub has_happened_tail : (c : Class) (x : OpId) (u v : List Timed) → IsTail u v → has_happened c x u ≡ true → has_happened c x v ≡ true
has_happened_tail c x u v whole e = e
has_happened_tail c x u (b ∷ v) (newer t) e = has_happened_more c x b v (has_happened_tail c x u v t e)

pub has_happened_below : (c : Class) (x : OpId) (p q : List Timed) → Below p q → has_happened c x p ≡ true → has_happened c x q ≡ true
has_happened_below c x p q below e =
    has_happened_local c x q ∙ has_happened_tail c x (on_rank x.rank p) (on_rank x.rank q) (below x.rank) (sym (has_happened_local c x p) ∙ e)

time_happened_tail : (c : Class) (x : OpId) (u v : List Timed) → IsTail u v → has_happened c x u ≡ true → time_happened c x v ≡ time_happened c x u
time_happened_tail c x u v whole e = refl
time_happened_tail c x u (b ∷ v) (newer t) e = since_kept (happened c x) b v (has_happened_tail c x u v t e) ∙ time_happened_tail c x u v t e

pub time_happened_local : (c : Class) (x : OpId) (h : List Timed) → has_happened c x h ≡ true → time_happened c x h ≡ time_happened c x (on_rank x.rank h)
time_happened_local c x [] e = refl
time_happened_local c x (a ∷ h) e = go (time_happened_local c x h) (cases_Bool (has_happened c x h))
  where
    old : (time_happened c x h ≡ time_happened c x (on_rank x.rank h)) → has_happened c x h ≡ true → (a.op.rank ≡ x.rank) ⊎ (a.op.rank ≡ x.rank → ⊥) → time_happened c x (a ∷ h) ≡ time_happened c x (on_rank x.rank (a ∷ h))
    old rest t (inl is) =
        since_kept (happened c x) a h t ∙ (rest ∙ (sym (since_kept (happened c x) a (on_rank x.rank h) (sym (has_happened_local c x h) ∙ t)) ∙ ap (time_happened c x) (sym (on_rank_of_own_action x.rank a h is))))
    old rest t (inr ne) =
        since_kept (happened c x) a h t ∙ (rest ∙ ap (time_happened c x) (sym (on_rank_of_other_action x.rank a h ne)))

    new : has_happened c x h ≡ false → (has_happened c x h ≡ true) ⊎ (is_act c x (plain_act a) ≡ true) → time_happened c x (a ∷ h) ≡ time_happened c x (on_rank x.rank (a ∷ h))
    new f (inl t) = absurd (both_ways _ f t)
    new f (inr t) =
        since_new (happened c x) a h f e ∙ (sym (since_new (happened c x) a (on_rank x.rank h) (sym (has_happened_local c x h) ∙ f) (has_happened_new c x a (on_rank x.rank h) t)) ∙ ap (time_happened c x) (sym (on_rank_of_own_action x.rank a h (ap (λ (y : OpId). y.rank) (is_act_op c x (plain_act a) t)))))

    go : (has_happened c x h ≡ true → time_happened c x h ≡ time_happened c x (on_rank x.rank h)) → (has_happened c x h ≡ true) ⊎ (has_happened c x h ≡ false) → time_happened c x (a ∷ h) ≡ time_happened c x (on_rank x.rank (a ∷ h))
    go rest (inl t) = old (rest t) t (cases_eq a.op.rank x.rank)
    go rest (inr f) = new f (has_happened_cases c x a h e)

-- what has happened in the older part has the same time in the whole
pub time_happened_below : (c : Class) (x : OpId) (p q : List Timed) → Below p q → has_happened c x p ≡ true → time_happened c x q ≡ time_happened c x p
time_happened_below c x p q below e =
    time_happened_local c x q (has_happened_below c x p q below e) ∙ (time_happened_tail c x (on_rank x.rank p) (on_rank x.rank q) (below x.rank) (sym (has_happened_local c x p) ∙ e) ∙ sym (time_happened_local c x p e))

-- in two histories with the same actions of a rank, the same has happened to it
pub has_happened_alike : (c : Class) (x : OpId) (p q : List Timed) → on_rank x.rank p ≡ on_rank x.rank q → has_happened c x p ≡ has_happened c x q
has_happened_alike c x p q e = has_happened_local c x p ∙ (ap (has_happened c x) e ∙ sym (has_happened_local c x q))

pub time_happened_alike : (c : Class) (x : OpId) (p q : List Timed) → on_rank x.rank p ≡ on_rank x.rank q → has_happened c x p ≡ true → time_happened c x p ≡ time_happened c x q
time_happened_alike c x p q e t =
    time_happened_local c x p t ∙ (ap (time_happened c x) e ∙ sym (time_happened_local c x q (sym (has_happened_alike c x p q e) ∙ t)))

-- it is the time of one of the actions
pub time_happened_at_most : (c : Class) (x : OpId) (h : List Timed) (n : ℕ) → All (λ (b : Timed). b.time ≤ n) h → has_happened c x h ≡ true → time_happened c x h ≤ n
time_happened_at_most c x [] n all e = absurd (has_happened_nothing c x e)
time_happened_at_most c x (a ∷ h) n all e =
    ⊎_elim (λ t. let rest = time_happened_at_most c x h n (All-tail (λ (b : Timed). b.time ≤ n) a h all) t in let kept = since_kept (happened c x) a h t in omega (arith, rest, kept)) (λ f. let new = since_new (happened c x) a h f e in let head = All-head (λ (b : Timed). b.time ≤ n) a h all in omega (arith, new, head)) (cases_Bool (has_happened c x h))

all_tail : (P : Timed → Type 0) (u v : List Timed) → IsTail u v → All P v → All P u
all_tail P u v whole all = all
all_tail P u (d ∷ v) (newer t) all = all_tail P u v t (All-tail P d v all)

-- what happened in v after u is not before the newest of u
pub time_happened_at_least : (c : Class) (x : OpId) (a : Timed) (p v : List Timed) → IsTail (a ∷ p) v → Rises v → has_happened c x v ≡ true → has_happened c x p ≡ false → a.time ≤ time_happened c x v
time_happened_at_least c x a p v whole rises e f = let new = since_new (happened c x) a p f e in omega (arith, new)
time_happened_at_least c x a p (b ∷ v) (newer t) rises e f =
    ⊎_elim (λ old. let rest = time_happened_at_least c x a p v t rises.0 old f in let kept = since_kept (happened c x) b v old in omega (arith, rest, kept)) (λ young. let new = since_new (happened c x) b v young e in let le = All-head (λ (d : Timed). d.time ≤ b.time) a p (all_tail (λ (d : Timed). d.time ≤ b.time) (a ∷ p) v t rises.1) in omega (arith, new, le)) (cases_Bool (has_happened c x v))
