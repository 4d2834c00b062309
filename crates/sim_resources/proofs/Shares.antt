-- Sharing a cpu or a NIC is symmetric and transitive.
use Rattle.std.proofs.Common.{ℕ, ◌≡◌, ◌==◌, ◌&&◌, true, List, Option, Some, None, refl, sym, ◌∙◌, eq-eqb}
use Rattle.std.proofs.lemmas.Bool.{both_ways, and_parts, and_from, eqb-true}
use Rattle.goal_graph.specs.declared.action.OpId.{OpId}
use Rattle.goal_graph.specs.declared.plan.Op.{Op}
use Rattle.goal_graph.specs.Schedule.{Plan, op_at}
use Rattle.sim_resources.specs.FreeTimes.{shares_place, shares}

module _ (place : Op → ℕ) (plans : List Plan) where
  -- two operations of one rank whose numbers are equal
  pub record Share (x y : OpId) : Type 0 where
    pub one : Op
    pub other : Op
    pub one_is : op_at plans x ≡ Some one
    pub other_is : op_at plans y ≡ Some other
    pub rank : x.rank ≡ y.rank
    pub number : place one ≡ place other

  pub shares_gives_share : (x y : OpId) → shares place plans x y ≡ true → Share x y
  shares_gives_share x y e = go (op_at plans x) refl (op_at plans y) refl e
    where
      go : (a : Option Op) → op_at plans x ≡ a → (b : Option Op) → op_at plans y ≡ b → shares_place place x a y b ≡ true → Share x y
      go None p b q e = absurd (both_ways _ refl e)
      go (Some o) p None q e = absurd (both_ways _ refl e)
      go (Some o) p (Some u) q e =
          let parts = and_parts _ _ e in
          record {
            one = o;
            other = u;
            one_is = p;
            other_is = q;
            rank = eqb-true x.rank y.rank parts.0;
            number = eqb-true (place o) (place u) parts.1;
          }

  -- for operations that exist
  pub shares-is : (x y : OpId) (o u : Op) → op_at plans x ≡ Some o → op_at plans y ≡ Some u → shares place plans x y ≡ ((x.rank == y.rank) && (place o == place u))
  shares-is x y o u p q = rw (p, q) refl

  pub shares_symmetric : (x y : OpId) → shares place plans x y ≡ true → shares place plans y x ≡ true
  shares_symmetric x y e =
      let s = shares_gives_share x y e in
      shares-is y x s.other s.one s.other_is s.one_is ∙ and_from _ _ (eq-eqb y.rank x.rank (sym s.rank)) (eq-eqb (place s.other) (place s.one) (sym s.number))

  -- of two operations that share, each shares with the same others
  pub shares_alike : (x y z : OpId) → shares place plans x y ≡ true → shares place plans z x ≡ shares place plans z y
  shares_alike x y z e = go (op_at plans z) refl
    where
      s : Share x y
      s = shares_gives_share x y e

      go : (a : Option Op) → op_at plans z ≡ a → shares place plans z x ≡ shares place plans z y
      go None p = rw p refl
      go (Some o) p =
          shares-is z x o s.one p s.one_is ∙ (λ i. (z.rank == s.rank i) && (place o == s.number i)) ∙ sym (shares-is z y o s.other p s.other_is)

  -- operations that share with the same operation share with each other
  pub shares_transitive : (x y z : OpId) → shares place plans x y ≡ true → shares place plans x z ≡ true → shares place plans y z ≡ true
  shares_transitive x y z first second = sym (shares_alike x z y second) ∙ shares_symmetric x y first
