-- The laws of the orders of keys.
use Rattle.std.specs.Prelude.{◌≡◌, Bool, true, false, nat_lt, refl}
use Rattle.std.proofs.Common.{arith, ltb-true, lt-ltb, le-ltb, ltb-false, subst, sym}
use Rattle.goal_graph.specs.declared.action.Class.{Class}
use Rattle.goal_graph.specs.declared.action.Class.TheVariants.{Arrive, Serve, Data, Post, Begin}
use Rattle.goal_graph.specs.Action.{place}
use Rattle.sim_order.specs.declared.key.Lex.{Lex}
use Rattle.sim_order.specs.declared.key.Flip.{Flip}
use Rattle.sim_order.specs.declared.order.Counted.{Counted}
use Rattle.sim_order.specs.Order.{IsOrder, lexical}
use Rattle.sim_order.specs.Events.{class_less}

pub number_laws : IsOrder nat_lt
number_laws = record {
  irreflexive = λ x. le-ltb x x (omega arith);
  transitive = λ x y z p q. lt-ltb x z (omega (arith, ltb-true x y p, ltb-true y z q));
  total = λ x y p q. omega (arith, ltb-false x y p, ltb-false y x q);
}

same_place_same : (a b : Class) → place a ≡ place b → a ≡ b
same_place_same Arrive Arrive e = refl
same_place_same Serve Serve e = refl
same_place_same Data Data e = refl
same_place_same Post Post e = refl
same_place_same Begin Begin e = refl
same_place_same Arrive Serve e = absurd (omega (arith, e))
same_place_same Arrive Data e = absurd (omega (arith, e))
same_place_same Arrive Post e = absurd (omega (arith, e))
same_place_same Arrive Begin e = absurd (omega (arith, e))
same_place_same Serve Arrive e = absurd (omega (arith, e))
same_place_same Serve Data e = absurd (omega (arith, e))
same_place_same Serve Post e = absurd (omega (arith, e))
same_place_same Serve Begin e = absurd (omega (arith, e))
same_place_same Data Arrive e = absurd (omega (arith, e))
same_place_same Data Serve e = absurd (omega (arith, e))
same_place_same Data Post e = absurd (omega (arith, e))
same_place_same Data Begin e = absurd (omega (arith, e))
same_place_same Post Arrive e = absurd (omega (arith, e))
same_place_same Post Serve e = absurd (omega (arith, e))
same_place_same Post Data e = absurd (omega (arith, e))
same_place_same Post Begin e = absurd (omega (arith, e))
same_place_same Begin Arrive e = absurd (omega (arith, e))
same_place_same Begin Serve e = absurd (omega (arith, e))
same_place_same Begin Data e = absurd (omega (arith, e))
same_place_same Begin Post e = absurd (omega (arith, e))

-- an order of the places of values is an order of the values, where values of one place are the same
pub laws_through : {K M : Type 0} (place_of : K → M) (less : M → M → Bool)
    → ((x y : K) → place_of x ≡ place_of y → x ≡ y)
    → IsOrder less
    → IsOrder (λ x y. less (place_of x) (place_of y))
laws_through place_of less same laws = record {
  irreflexive = λ x. laws.irreflexive (place_of x);
  transitive = λ x y z. laws.transitive (place_of x) (place_of y) (place_of z);
  total = λ x y p q. same x y (laws.total (place_of x) (place_of y) p q);
}

pub class_laws : IsOrder class_less
class_laws = laws_through place nat_lt same_place_same number_laws

-- what two parts tell, where each part is in an order
module _ {A B : Type 0} (less_a : A → A → Bool) (less_b : B → B → Bool) (laws_a : IsOrder less_a) (laws_b : IsOrder less_b) where
  abbrev pair_less : Lex A B → Lex A B → Bool
  pair_less x y = lexical (less_a x.first y.first) (less_a y.first x.first) (less_b x.rest y.rest)

  irreflexive_pair : (x : Lex A B) → pair_less x x ≡ false
  irreflexive_pair x = rw (laws_a.irreflexive x.first, laws_b.irreflexive x.rest) refl

  -- neither is less than the other: they are the same
  total_pair : (x y : Lex A B) → pair_less x y ≡ false → pair_less y x ≡ false → x ≡ y
  total_pair x y = go (less_a x.first y.first) (less_a y.first x.first) refl refl
    where
      go : (p q : Bool)
          → less_a x.first y.first ≡ p
          → less_a y.first x.first ≡ q
          → lexical p q (less_b x.rest y.rest) ≡ false
          → lexical q p (less_b y.rest x.rest) ≡ false
          → x ≡ y
      go true q e f g h = absurd (cc)
      go false true e f g h = absurd (cc)
      go false false e f g h =
          let first : x.first ≡ y.first = laws_a.total x.first y.first e f in
          let rest : x.rest ≡ y.rest = laws_b.total x.rest y.rest g h in
          λ i. record { first = first i; rest = rest i }

  transitive_pair : (x y z : Lex A B) → pair_less x y ≡ true → pair_less y z ≡ true → pair_less x z ≡ true
  transitive_pair x y z = go (less_a x.first y.first) (less_a y.first x.first) (less_a y.first z.first) (less_a z.first y.first) refl refl refl refl
    where
      less_first : (c : Bool) → less_a x.first z.first ≡ true → lexical (less_a x.first z.first) c (less_b x.rest z.rest) ≡ true
      less_first c e = rw e refl

      go : (p q r s : Bool)
          → less_a x.first y.first ≡ p
          → less_a y.first x.first ≡ q
          → less_a y.first z.first ≡ r
          → less_a z.first y.first ≡ s
          → lexical p q (less_b x.rest y.rest) ≡ true
          → lexical r s (less_b y.rest z.rest) ≡ true
          → pair_less x z ≡ true
      go true q true s e f g h u v = less_first (less_a z.first x.first) (laws_a.transitive x.first y.first z.first e g)
      go true q false true e f g h u v = absurd (cc)
      go true q false false e f g h u v =
          let same : y.first ≡ z.first = laws_a.total y.first z.first g h in
          less_first (less_a z.first x.first) (subst (λ k. less_a x.first k ≡ true) same e)
      go false true r s e f g h u v = absurd (cc)
      go false false true s e f g h u v =
          let same : x.first ≡ y.first = laws_a.total x.first y.first e f in
          less_first (less_a z.first x.first) (subst (λ k. less_a k z.first ≡ true) (sym same) g)
      go false false false true e f g h u v = absurd (cc)
      go false false false false e f g h u v =
          let same : x.first ≡ y.first = laws_a.total x.first y.first e f in
          let same_too : y.first ≡ z.first = laws_a.total y.first z.first g h in
          let rest : less_b x.rest z.rest ≡ true = laws_b.transitive x.rest y.rest z.rest u v in
          let one : less_a x.first z.first ≡ false = rw (same, same_too) (laws_a.irreflexive z.first) in
          let other : less_a z.first x.first ≡ false = rw (same, same_too) (laws_a.irreflexive z.first) in
          rw (one, other) rest

  pub lex_laws : IsOrder (λ (x y : Lex A B). lexical (less_a x.first y.first) (less_a y.first x.first) (less_b x.rest y.rest))
  lex_laws = record { irreflexive = irreflexive_pair; transitive = transitive_pair; total = total_pair }

-- a key, and a key whose comparisons count, or that is turned round
module _ {K : Type 0} (less : K → K → Bool) (laws : IsOrder less) where
  pub flip_laws : IsOrder (λ (x y : Flip K). less y.0 x.0)
  flip_laws = record {
    irreflexive = λ x. laws.irreflexive x.0;
    transitive = λ x y z p q. laws.transitive z.0 y.0 x.0 q p;
    total = λ x y p q. let same : x.0 ≡ y.0 = laws.total x.0 y.0 q p in λ i. record { 0 = same i };
  }

  pub counted_laws : IsOrder (λ (x y : Counted K). less x.0 y.0)
  counted_laws = record {
    irreflexive = λ x. laws.irreflexive x.0;
    transitive = λ x y z. laws.transitive x.0 y.0 z.0;
    total = λ x y p q. let same : x.0 ≡ y.0 = laws.total x.0 y.0 p q in λ i. record { 0 = same i };
  }
