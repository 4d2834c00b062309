-- A number, the magic number and the version that are read have been written so.
use Rattle.std.proofs.Common.{◌≡◌, ℕ, zero, suc, ◌+◌, ◌≤◌, leb, ltb, ◌&&◌, List, ◌++◌, Option, Some, None, Ok, refl, sym, ap, subst, ◌∙◌}
use Rattle.goal_limits.specs.declared.limits.TheConstants.{MAX_RANKS}
use Rattle.goal_binary.specs.declared.layout.TheConstants.{MAGIC}
use Rattle.goal_binary.specs.declared.layout.Layout.{Layout}
use Rattle.goal_binary.specs.declared.layout.Layout.TheVariants.{Fixed, Packed}
use Rattle.goal_binary.specs.Layouts.{version_of, layout_of}
use Rattle.goal_binary.specs.File.{spelled_u32, spelled_count}
use Rattle.goal_binary.specs.Fields.{allow, named, u32_at, packed_at, packed_up_to, number_at, count_at, magic_at, layout_at, opening_at, rank_count_at}
use Rattle.goal_binary.proofs.Steps.{IsBytes, bind_ok, allow_ok, ok_injective, Takes, Takes-then}
use Rattle.goal_binary.proofs.FieldsTaken.{u32_taken, magic_taken, up_to_ok}
use Rattle.goal_binary.proofs.Packed.{packed_taken}

-- the layout of a version has that version
pub version_of_named_layout : (n : ℕ) (l : Layout) → layout_of n ≡ Some l → version_of l ≡ n
version_of_named_layout zero l e = absurd cc
version_of_named_layout (suc zero) Fixed e = refl
version_of_named_layout (suc zero) Packed e = absurd cc
version_of_named_layout (suc (suc zero)) Fixed e = absurd cc
version_of_named_layout (suc (suc zero)) Packed e = refl
version_of_named_layout (suc (suc (suc n))) l e = absurd cc

abbrev layout_pair : Layout → ℕ → Layout × ℕ
layout_pair l at = (l, at)

module _ (bytes : List ℕ) where
  pub packed_up_to_ok : (most at : ℕ) (x : ℕ × ℕ) → packed_up_to bytes most at ≡ Ok x → (packed_at bytes at ≡ Ok x) × (x.0 ≤ most)
  unfolding packed_up_to
  packed_up_to_ok most at x e = up_to_ok bytes (packed_at bytes at) most at x e

  pub count_ok : (l : Layout) (limit before at : ℕ) (x : ℕ × ℕ) → count_at bytes l limit before at ≡ Ok x → number_at bytes l at ≡ Ok x
  unfolding count_at
  count_ok l limit before at x e =
      let a = bind_ok (number_at bytes l at) (λ n. allow (leb (before + n.0) limit) at n) x e in
      a.1 ∙ ap Ok (allow_ok (leb (before + a.0.0) limit) at a.0 x a.2).1

  module _ (fits : IsBytes bytes) where
    pub number_taken : (l : Layout) (at : ℕ) (x : ℕ × ℕ) → number_at bytes l at ≡ Ok x → Takes bytes at (spelled_count l x.0) x.1
    unfolding number_at spelled_count
    number_taken Fixed at x e = u32_taken bytes fits at x e
    number_taken Packed at x e = packed_taken bytes fits at x e

    pub rank_count_taken : (l : Layout) (at : ℕ) (x : ℕ × ℕ) → rank_count_at bytes l at ≡ Ok x → Takes bytes at (spelled_count l x.0) x.1
    unfolding rank_count_at
    rank_count_taken l at x e =
        let a = bind_ok (number_at bytes l at) (λ n. allow (leb n.0 MAX_RANKS && ltb 0 n.0) at n) x e in
        number_taken l at x (a.1 ∙ ap Ok (allow_ok (leb a.0.0 MAX_RANKS && ltb 0 a.0.0) at a.0 x a.2).1)

    layout_taken : (at : ℕ) (x : Layout × ℕ) → layout_at bytes at ≡ Ok x → Takes bytes at (spelled_u32 (version_of x.0)) x.1
    unfolding layout_at
    layout_taken at x e =
        let a = bind_ok (u32_at bytes at) (λ n. named n.0 (layout_of n.0) n.1) x e in
        go a.0 (layout_of a.0.0) refl a.2 (u32_taken bytes fits at a.0 a.1)
      where
        go : (n : ℕ × ℕ) (o : Option Layout) → layout_of n.0 ≡ o → named n.0 o n.1 ≡ Ok x → Takes bytes at (spelled_u32 n.0) n.1 → Takes bytes at (spelled_u32 (version_of x.0)) x.1
        go n None is e t = absurd cc
        go n (Some l) is e t =
            subst (λ (y : Layout × ℕ). Takes bytes at (spelled_u32 (version_of y.0)) y.1) (ok_injective (layout_pair l n.1) x e)
            (subst (λ (v : ℕ). Takes bytes at (spelled_u32 v) n.1) (sym (version_of_named_layout n.0 l is)) t)

    pub opening_taken : (x : Layout × ℕ) → opening_at bytes ≡ Ok x → Takes bytes 0 (MAGIC ++ spelled_u32 (version_of x.0)) x.1
    unfolding opening_at
    opening_taken x e =
        let a = bind_ok (magic_at bytes) (λ m. layout_at bytes m) x e in
        Takes-then bytes 0 MAGIC a.0 (spelled_u32 (version_of x.0)) x.1 (magic_taken bytes a.0 a.1) (layout_taken a.0 x a.2)
