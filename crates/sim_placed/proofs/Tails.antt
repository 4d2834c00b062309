-- Histories of which one is the older part of another, rank by rank.
use Rattle.std.proofs.Common.{ℕ, ◌≤◌, ◌≡◌, ◌==◌, ◌⊎◌, inl, inr, ⊎_elim, Bool, true, false, List, [], ◌∷◌, length, All, if◌then◌else◌, refl, sym, ap, ◌∙◌, subst, arith, eq-eqb}
use Rattle.std.proofs.lemmas.Bool.{cases_eq, cases_lt, ne_eqb}
use Rattle.goal_graph.specs.declared.action.Timed.{Timed}

-- v is u with newer actions before it, or u itself
pub data IsTail : List Timed → List Timed → Type 0 where
  whole : {u : List Timed} → IsTail u u
  newer : {b : Timed} {u v : List Timed} → IsTail u v → IsTail u (b ∷ v)

pub empty_tail : (v : List Timed) → IsTail [] v
empty_tail [] = whole
empty_tail (b ∷ v) = newer (empty_tail v)

pub tail_length : (u v : List Timed) → IsTail u v → length u ≤ length v
tail_length u v whole = omega arith
tail_length u (b ∷ v) (newer t) = let le = tail_length u v t in omega (arith, le)

pub tail_of_same_length : (u v : List Timed) → IsTail u v → length v ≤ length u → u ≡ v
tail_of_same_length u v whole le = refl
tail_of_same_length u (b ∷ v) (newer t) le = let less = tail_length u v t in absurd (omega (arith, less, le))

pub tail_of_tail : (u v w : List Timed) → IsTail u v → IsTail v w → IsTail u w
tail_of_tail u v w t whole = t
tail_of_tail u v (b ∷ w) t (newer s) = newer (tail_of_tail u v w t s)

-- of two tails of one list the shorter one is a tail of the other
pub shorter_tail : (u v w : List Timed) → IsTail u w → IsTail v w → length u ≤ length v → IsTail u v
shorter_tail u v w t whole le = t
shorter_tail u v (b ∷ w) whole (newer s) le = let less = tail_length v w s in absurd (omega (arith, less, le))
shorter_tail u v (b ∷ w) (newer t) (newer s) le = shorter_tail u v w t s le

-- the actions of the operations of a rank
abbrev pub on_rank : ℕ → List Timed → List Timed
on_rank r [] = []
on_rank r (a ∷ h) = if a.op.rank == r then a ∷ on_rank r h else on_rank r h

pub on_rank_of_own_action : (r : ℕ) (a : Timed) (h : List Timed) → a.op.rank ≡ r → on_rank r (a ∷ h) ≡ a ∷ on_rank r h
on_rank_of_own_action r a h e = ap (λ (b : Bool). if b then a ∷ on_rank r h else on_rank r h) (eq-eqb a.op.rank r e)

pub on_rank_of_other_action : (r : ℕ) (a : Timed) (h : List Timed) → (a.op.rank ≡ r → ⊥) → on_rank r (a ∷ h) ≡ on_rank r h
on_rank_of_other_action r a h ne = ap (λ (b : Bool). if b then a ∷ on_rank r h else on_rank r h) (ne_eqb a.op.rank r ne)

pub rank_tail : (r : ℕ) (u v : List Timed) → IsTail u v → IsTail (on_rank r u) (on_rank r v)
rank_tail r u v whole = whole
rank_tail r u (b ∷ v) (newer t) = go (rank_tail r u v t) (b.op.rank == r)
  where
    go : IsTail (on_rank r u) (on_rank r v) → (x : Bool) → IsTail (on_rank r u) (if x then b ∷ on_rank r v else on_rank r v)
    go s true = newer s
    go s false = s

-- in each rank it is an older part
abbrev pub Below : List Timed → List Timed → Type 0
Below p q = (r : ℕ) → IsTail (on_rank r p) (on_rank r q)

pub tail_below : (u v : List Timed) → IsTail u v → Below u v
tail_below u v t r = rank_tail r u v t

pub below_transitive : (p q s : List Timed) → Below p q → Below q s → Below p s
below_transitive p q s a b r = tail_of_tail (on_rank r p) (on_rank r q) (on_rank r s) (a r) (b r)

-- the action of the rank r in h that is next after its actions s
abbrev pub Next : ℕ → List Timed → List Timed → Type 0
Next r s h = (a : Timed) × (p : List Timed) × IsTail (a ∷ p) h × (a.op.rank ≡ r) × (on_rank r p ≡ s)

pub next_of_rank : (r : ℕ) (s h : List Timed) → IsTail s (on_rank r h) → (s ≡ on_rank r h) ⊎ Next r s h
next_of_rank r s [] t = inl (tail_of_same_length s [] t (omega arith))
next_of_rank r s (b ∷ h) t = ⊎_elim (here (next_of_rank r s h)) (there (next_of_rank r s h)) (cases_eq b.op.rank r)
  where
    first : (IsTail s (on_rank r h) → (s ≡ on_rank r h) ⊎ Next r s h) → b.op.rank ≡ r → {w : List Timed} → w ≡ b ∷ on_rank r h → IsTail s w → (s ≡ w) ⊎ Next r s (b ∷ h)
    first rest is {w} e tail =
        ⊎_elim (λ longer. inl (tail_of_same_length s w tail (let size = ap length e in omega (arith, size, longer)))) (λ shorter. ⊎_elim (λ f. inr (b, h, whole, is, sym f)) (λ n. inr (n.0, n.1, newer n.2, n.3, n.4)) (rest (shorter_tail s (on_rank r h) w tail (subst (λ (l : List Timed). IsTail (on_rank r h) l) (sym e) (newer whole)) shorter))) (cases_lt (length (on_rank r h)) (length s))

    here : (IsTail s (on_rank r h) → (s ≡ on_rank r h) ⊎ Next r s h) → b.op.rank ≡ r → (s ≡ on_rank r (b ∷ h)) ⊎ Next r s (b ∷ h)
    here rest is = first rest is (on_rank_of_own_action r b h is) t

    there : (IsTail s (on_rank r h) → (s ≡ on_rank r h) ⊎ Next r s h) → (b.op.rank ≡ r → ⊥) → (s ≡ on_rank r (b ∷ h)) ⊎ Next r s (b ∷ h)
    there rest ne =
        ⊎_elim (λ e. inl (e ∙ sym (on_rank_of_other_action r b h ne))) (λ n. inr (n.0, n.1, newer n.2, n.3, n.4)) (rest (subst (λ (l : List Timed). IsTail s l) (on_rank_of_other_action r b h ne) t))

-- f is the oldest action of h that is not in q, and all older ones are in q
abbrev pub Frontier : List Timed → List Timed → Type 0
Frontier h q = (f : Timed) × (p : List Timed) × IsTail (f ∷ p) h × Below p q × (on_rank f.op.rank p ≡ on_rank f.op.rank q)

pub find_frontier : (h q : List Timed) → Below q h → (u : List Timed) → IsTail u h → Below u q ⊎ Frontier h q
find_frontier h q below [] t = inl (λ r. empty_tail (on_rank r q))
find_frontier h q below (a ∷ u) t =
    ⊎_elim (λ under. step under) (λ found. inr found) (find_frontier h q below u (tail_of_tail u (a ∷ u) h (newer whole) t))
  where
    r : ℕ
    r = a.op.rank

    step : Below u q → Below (a ∷ u) q ⊎ Frontier h q
    step under =
        ⊎_elim (λ less. inr (a, u, t, under, tail_of_same_length (on_rank r u) (on_rank r q) (under r) (let size = ap length (on_rank_of_own_action r a u refl) in omega (arith, less, size)))) (λ le. inl (more le)) (cases_lt (length (on_rank r q)) (length (on_rank r (a ∷ u))))
      where
        more : length (on_rank r (a ∷ u)) ≤ length (on_rank r q) → Below (a ∷ u) q
        more le s =
            ⊎_elim (λ e. subst (λ (k : ℕ). IsTail (on_rank k (a ∷ u)) (on_rank k q)) e (shorter_tail (on_rank r (a ∷ u)) (on_rank r q) (on_rank r h) (rank_tail r (a ∷ u) h t) (below r) le)) (λ ne. subst (λ (l : List Timed). IsTail l (on_rank s q)) (sym (on_rank_of_other_action s a u ne)) (under s)) (cases_eq r s)

-- two histories of which each is below the other have the same actions in each rank
pub below_each_other_same_on_rank : (p q : List Timed) → Below p q → Below q p → (r : ℕ) → on_rank r p ≡ on_rank r q
below_each_other_same_on_rank p q a b r = tail_of_same_length (on_rank r p) (on_rank r q) (a r) (tail_length (on_rank r q) (on_rank r p) (b r))

-- times do not fall
abbrev pub Rises : List Timed → Type 0
Rises [] = Unit {0}
Rises (a ∷ h) = Rises h × All (λ (b : Timed). b.time ≤ a.time) h

pub rises_tail : (u v : List Timed) → IsTail u v → Rises v → Rises u
rises_tail u v whole rises = rises
rises_tail u (b ∷ v) (newer t) rises = rises_tail u v t rises.0
