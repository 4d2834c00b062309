-- Items are in the order of their times and tails, as one number.
use Rattle.std.proofs.Common.{◌≡◌, ℕ, ◌+◌, ◌*◌, ◌/◌, ◌%◌, ◌^◌, ◌<◌, Bool, true, false, nat_lt, refl, inl, inr, sym, ap, ◌∙◌, arith, lt-ltb}
use Rattle.std.proofs.lemmas.Bool.{cases_lt, cases_order, le-ltb}
use Rattle.std.proofs.lemmas.Nat.{mul-add-lt}
use Rattle.goal_limits.specs.declared.limits.TheConstants.{MAX_RANKS, MAX_OPS}
use Rattle.goal_graph.specs.Action.{place}
use Rattle.sim_order.specs.Compact.{timed_of, class_at, IsTail, place_of_class_at}
use Rattle.sim_order.specs.Events.{event_before}
use Rattle.sim_order.specs.Order.{lexical}

-- numbers are in the order of their digits
order_by_digits : (m a b t u x y : ℕ) → t < m → u < m → x ≡ a * m + t → y ≡ b * m + u → nat_lt x y ≡ lexical (nat_lt a b) (nat_lt b a) (nat_lt t u)
order_by_digits m a b t u x y small short x_is y_is = elim (cases_order a b) [
  | inl same ↦ (let rows = ap (λ n. n * m) same in
      elim (cases_lt t u) [
        | inl below ↦ rw (le-ltb a b (omega (arith, same)), le-ltb b a (omega (arith, same)), lt-ltb x y (omega (arith, rows, x_is, y_is, below)), lt-ltb t u below) refl
        | inr above ↦ rw (le-ltb a b (omega (arith, same)), le-ltb b a (omega (arith, same)), le-ltb x y (omega (arith, rows, x_is, y_is, above)), le-ltb t u above) refl
      ])
  | inr rest ↦ elim rest [
    | inl below ↦ rw (lt-ltb a b below, lt-ltb x y (omega (arith, mul-add-lt a m t b below small, x_is, y_is))) refl
    | inr above ↦ rw (le-ltb a b (omega (arith, above)), lt-ltb b a above, le-ltb x y (omega (arith, mul-add-lt b m u a above short, x_is, y_is))) refl
  ]
]

lexical_associative : (p q r s w : Bool) → lexical (lexical p q r) (lexical q p s) w ≡ lexical p q (lexical r s w)
lexical_associative true q r s w = refl
lexical_associative false true r s w = refl
lexical_associative false false r s w = refl

pub wide_before : (a b t u : ℕ) → a < 2 ^ 64 → b < 2 ^ 64 → IsTail t → IsTail u → nat_lt (a * 2 ^ 64 % 2 ^ 128 + t) (b * 2 ^ 64 % 2 ^ 128 + u) ≡ event_before (timed_of a t) (timed_of b u)
wide_before a b t u a_fits b_fits t_is u_is =
    order_by_digits (2 ^ 64) a b t u (a * 2 ^ 64 % 2 ^ 128 + t) (b * 2 ^ 64 % 2 ^ 128 + u) (omega (arith, t_is)) (omega (arith, u_is)) (omega (arith, a_fits)) (omega (arith, b_fits))
    ∙ ap (lexical (nat_lt a b) (nat_lt b a))
    (order_by_digits MAX_OPS (t / MAX_OPS) (u / MAX_OPS) (t % MAX_OPS) (u % MAX_OPS) t u (omega arith) (omega arith) (omega arith) (omega arith)
    ∙ (λ i. lexical (ranks t u i) (ranks u t i) (nat_lt (t % MAX_OPS) (u % MAX_OPS)))
    ∙ lexical_associative (nat_lt (t / MAX_OPS / MAX_RANKS) (u / MAX_OPS / MAX_RANKS)) (nat_lt (u / MAX_OPS / MAX_RANKS) (t / MAX_OPS / MAX_RANKS)) (nat_lt (t / MAX_OPS % MAX_RANKS) (u / MAX_OPS % MAX_RANKS)) (nat_lt (u / MAX_OPS % MAX_RANKS) (t / MAX_OPS % MAX_RANKS)) (nat_lt (t % MAX_OPS) (u % MAX_OPS))
    ∙ (λ i. lexical (nat_lt (place_is t t_is i) (place_is u u_is i)) (nat_lt (place_is u u_is i) (place_is t t_is i)) (lexical (nat_lt (t / MAX_OPS % MAX_RANKS) (u / MAX_OPS % MAX_RANKS)) (nat_lt (u / MAX_OPS % MAX_RANKS) (t / MAX_OPS % MAX_RANKS)) (nat_lt (t % MAX_OPS) (u % MAX_OPS)))))
  where
    ranks : (n k : ℕ) → nat_lt (n / MAX_OPS) (k / MAX_OPS) ≡ lexical (nat_lt (n / MAX_OPS / MAX_RANKS) (k / MAX_OPS / MAX_RANKS)) (nat_lt (k / MAX_OPS / MAX_RANKS) (n / MAX_OPS / MAX_RANKS)) (nat_lt (n / MAX_OPS % MAX_RANKS) (k / MAX_OPS % MAX_RANKS))
    ranks n k =
        order_by_digits MAX_RANKS (n / MAX_OPS / MAX_RANKS) (k / MAX_OPS / MAX_RANKS) (n / MAX_OPS % MAX_RANKS) (k / MAX_OPS % MAX_RANKS) (n / MAX_OPS) (k / MAX_OPS) (omega arith) (omega arith) (omega arith) (omega arith)

    place_is : (n : ℕ) → IsTail n → n / MAX_OPS / MAX_RANKS ≡ place (class_at (n / MAX_OPS / MAX_RANKS))
    place_is n h = sym (place_of_class_at (n / MAX_OPS / MAX_RANKS) h)
