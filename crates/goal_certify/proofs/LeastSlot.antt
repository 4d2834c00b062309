-- The least slot at which two operations meet, touch by touch.
use Rattle.std.proofs.Common.{⊎_elim, ℕ, ◌+◌, ◌≡◌, ◌<◌, ◌≤◌, ◌==◌, ◌&&◌, Bool, true, false, List, length, get_or, take, Option, Some, None, if◌then◌else◌, nat_lt, refl, sym, ◌∙◌, subst, arith, true≢false, eq-eqb}
use Rattle.std.proofs.lemmas.List.{take_all}
use Rattle.std.proofs.lemmas.Bool.{cases_lt, and_parts, eqb-true, ltb-true, lt-ltb}
use Rattle.goal_certify.specs.declared.races.search.OpPair.{OpPair}
use Rattle.goal_certify.specs.declared.races.touches.Touch.{Touch}
use Rattle.goal_certify.specs.Table.{meets}
use Rattle.goal_certify.specs.Races.{IsLeastSlot, lesser, least_with}
use Rattle.goal_certify.proofs.Table.{next_element, first_elements, last_element}

module _ (touchers writers : List ℕ) (touches : List Touch) (p : OpPair) where
  -- a touch of the first operation that meets the second one
  abbrev Counts : Touch → Type 0
  Counts t = (t.op ≡ p.first) × (meets touchers writers t p.second ≡ true)

  pub least_none : IsLeastSlot touchers writers (take 0 touches) p None
  least_none t c o m = omega (arith, c.1)

  module _ (i : ℕ) (e : Touch) (inside : i < length touches) where
    abbrev u : Touch
    u = get_or touches i e

    skipped : (Counts u → ⊥) → (least : Option ℕ) → IsLeastSlot touchers writers (take i touches) p least → IsLeastSlot touchers writers (take (i + 1) touches) p least
    skipped other None h =
        λ t c o m. ⊎_elim (λ before. h t before o m) (λ f. other (subst Counts (sym f) (o, m))) (next_element touches i e t inside c)
    skipped other (Some s) h =
        ((h.0.0, first_elements touches i e h.0.0 inside h.0.1, h.0.2, h.0.3, h.0.4), λ t c o m. ⊎_elim (λ before. h.1 t before o m) (λ f. absurd (other (subst Counts (sym f) (o, m)))) (next_element touches i e t inside c))

    taken : Counts u → (least : Option ℕ) → IsLeastSlot touchers writers (take i touches) p least → IsLeastSlot touchers writers (take (i + 1) touches) p (Some (lesser least u.slot))
    taken both None h =
        ((u, last_element touches i e inside, both.0, refl, both.1), λ t c o m. ⊎_elim (λ before. absurd (h t before o m)) (λ f. subst (λ (v : Touch). u.slot ≤ v.slot) f (omega arith)) (next_element touches i e t inside c))
    taken both (Some s) h = test (nat_lt s u.slot) refl
      where
        test : (b : Bool) → nat_lt s u.slot ≡ b → IsLeastSlot touchers writers (take (i + 1) touches) p (Some (if b then s else u.slot))
        test true lower =
            let below : s < u.slot = ltb-true s u.slot lower in
            ((h.0.0, first_elements touches i e h.0.0 inside h.0.1, h.0.2, h.0.3, h.0.4), λ t c o m. ⊎_elim (λ before. h.1 t before o m) (λ f. subst (λ (v : Touch). s ≤ v.slot) f (omega (arith, below))) (next_element touches i e t inside c))
        test false higher =
            let above : u.slot ≤ s = ⊎_elim (λ below. absurd (true≢false (sym (lt-ltb s u.slot below) ∙ higher))) (λ le. le) (cases_lt s u.slot) in
            ((u, last_element touches i e inside, both.0, refl, both.1), λ t c o m. ⊎_elim (λ before. omega (arith, above, h.1 t before o m)) (λ f. subst (λ (v : Touch). u.slot ≤ v.slot) f (omega arith)) (next_element touches i e t inside c))

    pub least_more : (least : Option ℕ) → IsLeastSlot touchers writers (take i touches) p least → IsLeastSlot touchers writers (take (i + 1) touches) p (least_with touchers writers p least (get_or touches i e))
    least_more least h = go ((u.op == p.first) && meets touchers writers u p.second) refl
      where
        go : (b : Bool) → ((u.op == p.first) && meets touchers writers u p.second) ≡ b → IsLeastSlot touchers writers (take (i + 1) touches) p (if b then Some (lesser least u.slot) else least)
        go true h2 =
            let parts = and_parts (u.op == p.first) (meets touchers writers u p.second) h2 in
            taken (eqb-true u.op p.first parts.0, parts.1) least h
        go false h2 =
            skipped (λ n. true≢false (sym (conjoined (u.op == p.first) (meets touchers writers u p.second) (eq-eqb u.op p.first n.0) n.1) ∙ h2)) least h
          where
            conjoined : (a b : Bool) → a ≡ true → b ≡ true → (a && b) ≡ true
            conjoined a b e f = rw (e, f) refl

pub least_all : (touchers writers : List ℕ) (touches : List Touch) (p : OpPair) (i : ℕ) (least : Option ℕ) → length touches ≤ i → IsLeastSlot touchers writers (take i touches) p least → IsLeastSlot touchers writers touches p least
least_all touchers writers touches p i least all h =
    subst (λ (ts : List Touch). IsLeastSlot touchers writers ts p least) (take_all i touches all) h
