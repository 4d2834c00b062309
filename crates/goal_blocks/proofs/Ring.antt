-- Going ahead in a ring and going back undo each other.
use Rattle.std.proofs.Common.{ℕ, ◌+◌, ◌-◌, ◌<◌, ◌≤◌, ◌≡◌, ◌⊎◌, inl, inr, ⊎_elim, Bool, true, false, nat_lt, if◌then◌else◌, refl, sym, ap, ◌∙◌, arith, ltb-true}
use Rattle.std.proofs.lemmas.Bool.{both_ways, cases_lt, lt-ltb}
use Rattle.goal_blocks.specs.Positions.{ahead, back}

-- which branch an `if` takes
if_less_cases : (a b x y : ℕ) → ((a < b) × ((if nat_lt a b then x else y) ≡ x)) ⊎ ((b ≤ a) × ((if nat_lt a b then x else y) ≡ y))
if_less_cases a b x y = go (nat_lt a b) refl
  where
    go : (t : Bool) → nat_lt a b ≡ t → ((a < b) × ((if t then x else y) ≡ x)) ⊎ ((b ≤ a) × ((if t then x else y) ≡ y))
    go true e = inl (ltb-true a b e, refl)
    go false e = inr (⊎_elim (λ p. absurd (both_ways _ e (lt-ltb a b p))) (λ p. p) (cases_lt a b), refl)

pub ahead_cases : (ranks v s : ℕ) → ((v + s < ranks) × (ahead ranks v s ≡ v + s)) ⊎ ((ranks ≤ v + s) × (ahead ranks v s ≡ v + s - ranks))
unfolding ahead
ahead_cases ranks v s = if_less_cases (v + s) ranks (v + s) (v + s - ranks)

pub back_cases : (ranks r s : ℕ) → ((r < s) × (back ranks r s ≡ r + ranks - s)) ⊎ ((s ≤ r) × (back ranks r s ≡ r - s))
unfolding back
back_cases ranks r s = if_less_cases r s (r + ranks - s) (r - s)

pub back_ahead : (ranks r s : ℕ) → r < ranks → s ≤ ranks → back ranks (ahead ranks r s) s ≡ r
back_ahead ranks r s p q = go (ahead_cases ranks r s) (back_cases ranks (ahead ranks r s) s)
  where
    go : ((r + s < ranks) × (ahead ranks r s ≡ r + s)) ⊎ ((ranks ≤ r + s) × (ahead ranks r s ≡ r + s - ranks)) → ((ahead ranks r s < s) × (back ranks (ahead ranks r s) s ≡ ahead ranks r s + ranks - s)) ⊎ ((s ≤ ahead ranks r s) × (back ranks (ahead ranks r s) s ≡ ahead ranks r s - s)) → back ranks (ahead ranks r s) s ≡ r
    go (inl (a, e)) (inl (b, f)) = omega (arith, p, q, a, e, b, f)
    go (inl (a, e)) (inr (b, f)) = omega (arith, p, q, a, e, b, f)
    go (inr (a, e)) (inl (b, f)) = omega (arith, p, q, a, e, b, f)
    go (inr (a, e)) (inr (b, f)) = omega (arith, p, q, a, e, b, f)

pub ahead_back : (ranks r s : ℕ) → r < ranks → s ≤ ranks → ahead ranks (back ranks r s) s ≡ r
ahead_back ranks r s p q = go (back_cases ranks r s) (ahead_cases ranks (back ranks r s) s)
  where
    go : ((r < s) × (back ranks r s ≡ r + ranks - s)) ⊎ ((s ≤ r) × (back ranks r s ≡ r - s)) → ((back ranks r s + s < ranks) × (ahead ranks (back ranks r s) s ≡ back ranks r s + s)) ⊎ ((ranks ≤ back ranks r s + s) × (ahead ranks (back ranks r s) s ≡ back ranks r s + s - ranks)) → ahead ranks (back ranks r s) s ≡ r
    go (inl (a, e)) (inl (b, f)) = omega (arith, p, q, a, e, b, f)
    go (inl (a, e)) (inr (b, f)) = omega (arith, p, q, a, e, b, f)
    go (inr (a, e)) (inl (b, f)) = omega (arith, p, q, a, e, b, f)
    go (inr (a, e)) (inr (b, f)) = omega (arith, p, q, a, e, b, f)

-- two ranks are equal if going back c places from each leads to the same rank
pub back_cancels : (ranks k r c : ℕ) → k < ranks → r < ranks → c ≤ ranks → back ranks k c ≡ back ranks r c → k ≡ r
back_cancels ranks k r c p q s e =
    sym (ahead_back ranks k c p s) ∙ ap (λ (v : ℕ). ahead ranks v c) e ∙ ahead_back ranks r c q s

-- the root has the virtual rank 0, and no other rank has
pub root_has_virtual_rank_zero : (ranks root : ℕ) → back ranks root root ≡ 0
root_has_virtual_rank_zero ranks root =
    ⊎_elim (λ p. absurd (let lt = p.0 in omega (arith, lt))) (λ p. let e = p.1 in omega (arith, e)) (back_cases ranks root root)

pub virtual_rank_zero_is_root : (ranks r root : ℕ) → r < ranks → root < ranks → back ranks r root ≡ 0 → r ≡ root
virtual_rank_zero_is_root ranks r root p z e = back_cancels ranks r root root p z (omega (arith, z)) (e ∙ sym (root_has_virtual_rank_zero ranks root))
