-- When two operations or actions are equal, and what has happened after another action.
use Rattle.std.proofs.Common.{◌≡◌, ℕ, zero, suc, Bool, true, false, ◌⊎◌, inl, inr, List, [], ◌∷◌, refl, sym, ap, ◌∙◌, subst}
use Rattle.std.proofs.lemmas.Bool.{and_parts, and_from, or_cases, or_left, or_right, eqb-true, cases_Bool, both_ways, false_from_ne_true}
use Rattle.std.proofs.Common.{eq-eqb}
use Rattle.goal_graph.specs.declared.action.OpId.{OpId}
use Rattle.goal_graph.specs.declared.action.Class.{Class}
use Rattle.goal_graph.specs.declared.action.Class.TheVariants.{Arrive, Serve, Data, Post, Begin}
use Rattle.goal_graph.specs.Action.{Act, place, same_op, is_act, happened}

-- the action of that class and operation
abbrev pub act_of : Class → OpId → Act
act_of class x = record { class = class; op = x }

pub same_op_true : (x y : OpId) → same_op x y ≡ true → x ≡ y
same_op_true x y h =
    let parts = and_parts _ _ h in
    let rank = eqb-true x.rank y.rank parts.0 in
    let op = eqb-true x.op y.op parts.1 in
    λ i. record { rank = rank i; op = op i }

pub same_op_itself : (x : OpId) → same_op x x ≡ true
same_op_itself x = and_from _ _ (eq-eqb x.rank x.rank refl) (eq-eqb x.op x.op refl)

pub same_op_from : (x y : OpId) → x ≡ y → same_op x y ≡ true
same_op_from x y e = subst (λ (z : OpId). same_op x z ≡ true) e (same_op_itself x)

pub same_op_swapped : (x y : OpId) → same_op x y ≡ false → same_op y x ≡ false
same_op_swapped x y d =
    false_from_ne_true _ (λ t. both_ways _ d (same_op_from x y (sym (same_op_true y x t))))

pub same_op_false : (x y : OpId) → same_op x y ≡ false → x ≡ y → ⊥
same_op_false x y h e = both_ways _ h (same_op_from x y e)

pub same_or_different_op : (x y : OpId) → (x ≡ y) ⊎ (same_op x y ≡ false)
same_or_different_op x y =
    elim (cases_Bool (same_op x y)) [ inl h ↦ inl (same_op_true x y h) | inr h ↦ inr h ]

abbrev class_at : ℕ → Class
class_at zero = Arrive
class_at (suc zero) = Serve
class_at (suc (suc zero)) = Data
class_at (suc (suc (suc zero))) = Post
class_at _ = Begin

class_at-place : (c : Class) → class_at (place c) ≡ c
class_at-place Arrive = refl
class_at-place Serve = refl
class_at-place Data = refl
class_at-place Post = refl
class_at-place Begin = refl

pub place_injective : (c d : Class) → place c ≡ place d → c ≡ d
place_injective c d e = sym (class_at-place c) ∙ ap class_at e ∙ class_at-place d

-- a class that passes a test, or none
no_class_passes : (test : Class → Bool) → test Arrive ≡ false → test Serve ≡ false → test Data ≡ false → test Post ≡ false → test Begin ≡ false → (c : Class) → test c ≡ false
no_class_passes test a s d p b Arrive = a
no_class_passes test a s d p b Serve = s
no_class_passes test a s d p b Data = d
no_class_passes test a s d p b Post = p
no_class_passes test a s d p b Begin = b

pub find_class : (test : Class → Bool) → ((c : Class) × (test c ≡ true)) ⊎ ((c : Class) → test c ≡ false)
find_class test =
    elim (cases_Bool (test Arrive)) [ inl t ↦ inl (Arrive, t) | inr a ↦ elim (cases_Bool (test Serve)) [ inl t ↦ inl (Serve, t) | inr s ↦ elim (cases_Bool (test Data)) [ inl t ↦ inl (Data, t) | inr d ↦ elim (cases_Bool (test Post)) [ inl t ↦ inl (Post, t) | inr p ↦ elim (cases_Bool (test Begin)) [ inl t ↦ inl (Begin, t) | inr b ↦ inr (no_class_passes test a s d p b) ] ] ] ] ]

pub is_act_class : (c : Class) (x : OpId) (a : Act) → is_act c x a ≡ true → a.class ≡ c
is_act_class c x a h = place_injective a.class c (eqb-true (place a.class) (place c) (and_parts _ _ h).0)

pub is_act_op : (c : Class) (x : OpId) (a : Act) → is_act c x a ≡ true → a.op ≡ x
is_act_op c x a h = same_op_true a.op x (and_parts _ _ h).1

pub is_act_true : (c : Class) (x : OpId) (a : Act) → is_act c x a ≡ true → a ≡ act_of c x
is_act_true c x a h =
    let class = is_act_class c x a h in
    let op = is_act_op c x a h in
    λ i. record { class = class i; op = op i }

pub is_act_itself : (a : Act) → is_act a.class a.op a ≡ true
is_act_itself a = and_from _ _ (eq-eqb (place a.class) (place a.class) refl) (same_op_itself a.op)

pub is_act_from : (c : Class) (x : OpId) (a : Act) → a.class ≡ c → a.op ≡ x → is_act c x a ≡ true
is_act_from c x a e f =
    subst (λ (y : OpId). is_act c y a ≡ true) f (subst (λ (d : Class). is_act d a.op a ≡ true) e (is_act_itself a))

pub happened_stays : (c : Class) (x : OpId) (a : Act) (h : List Act) → happened c x h ≡ true → happened c x (a ∷ h) ≡ true
unfolding happened
happened_stays c x a h p = or_left _ _ p

pub happened_new : (c : Class) (x : OpId) (a : Act) (h : List Act) → is_act c x a ≡ true → happened c x (a ∷ h) ≡ true
unfolding happened
happened_new c x a h p = or_right _ _ p

pub happened_newest : (a : Act) (h : List Act) → happened a.class a.op (a ∷ h) ≡ true
happened_newest a h = happened_new a.class a.op a h (is_act_itself a)

pub happened_cases : (c : Class) (x : OpId) (a : Act) (h : List Act) → happened c x (a ∷ h) ≡ true → (happened c x h ≡ true) ⊎ (is_act c x a ≡ true)
unfolding happened
happened_cases c x a h p = or_cases _ _ p

pub happened_none : (c : Class) (x : OpId) → happened c x [] ≡ false
unfolding happened
happened_none c x = refl

-- an action that had not happened and is not the newest has still not happened
pub not_happened_after_other_action : (c : Class) (x : OpId) (a : Act) (h : List Act) → happened c x h ≡ false → is_act c x a ≡ false → happened c x (a ∷ h) ≡ false
not_happened_after_other_action c x a h p q =
    false_from_ne_true _ (λ t. elim (happened_cases c x a h t) [ inl r ↦ both_ways _ p r | inr r ↦ both_ways _ q r ])

-- what has not happened after a newer action has not happened before it
pub not_happened_before_newest : (c : Class) (x : OpId) (a : Act) (h : List Act) → happened c x (a ∷ h) ≡ false → happened c x h ≡ false
not_happened_before_newest c x a h p = false_from_ne_true _ (λ t. both_ways _ p (happened_stays c x a h t))

pub newest_is_not_act : (c : Class) (x : OpId) (a : Act) (h : List Act) → happened c x (a ∷ h) ≡ false → is_act c x a ≡ false
newest_is_not_act c x a h p = false_from_ne_true _ (λ t. both_ways _ p (happened_new c x a h t))

-- other actions do not change whether it has happened
pub happened_unless_newest : (c : Class) (x : OpId) (a : Act) (h : List Act) → is_act c x a ≡ false → happened c x (a ∷ h) ≡ happened c x h
happened_unless_newest c x a h q =
    elim (cases_Bool (happened c x h)) [ inl t ↦ happened_stays c x a h t ∙ sym t | inr f ↦ not_happened_after_other_action c x a h f q ∙ sym f ]
