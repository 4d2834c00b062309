-- Of two different values one is less.
use Rattle.std.proofs.Common.{◌≡◌, ◌≢◌, ◌⊎◌, Bool, true, false, inl, inr, refl}
use Rattle.sim_order.specs.Order.{IsOrder}

pub one_is_less : {K : Type 0} (less : K → K → Bool) → IsOrder less → (x y : K) → x ≢ y → (less x y ≡ true) ⊎ (less y x ≡ true)
one_is_less less laws x y different = go (less x y) (less y x) refl refl
  where
    go : (p q : Bool) → less x y ≡ p → less y x ≡ q → (less x y ≡ true) ⊎ (less y x ≡ true)
    go true q e f = inl e
    go false true e f = inr f
    go false false e f = absurd (different (laws.total x y e f))
