-- The order of events is that of the keys of actions.
use Rattle.std.proofs.Common.{◌≡◌, ℕ, ◌==◌, ◌&&◌, ◌||◌, Bool, true, false, nat_lt, inl, inr, refl, ap, ◌∙◌, arith, lt-ltb, eq-eqb}
use Rattle.std.proofs.lemmas.Bool.{cases_order, le-ltb, ne_eqb}
use Rattle.goal_graph.specs.declared.action.Timed.{Timed}
use Rattle.goal_graph.specs.Action.{place}
use Rattle.goal_graph.specs.Order.{key}
use Rattle.goal_graph.specs.Keys.{less}
use Rattle.sim_order.specs.Order.{lexical}
use Rattle.sim_order.specs.Events.{event_before}

lexical_of_number_and_rest : (m n : ℕ) (rest : Bool) → lexical (nat_lt m n) (nat_lt n m) rest ≡ (nat_lt m n || ((m == n) && rest))
lexical_of_number_and_rest m n rest = elim (cases_order m n) [
  | inl same ↦ rw (le-ltb m n (omega (arith, same)), le-ltb n m (omega (arith, same)), eq-eqb m n same) refl
  | inr rest ↦ elim rest [
    | inl below ↦ rw (lt-ltb m n below) refl
    | inr above ↦ rw (le-ltb m n (omega (arith, above)), lt-ltb n m above, ne_eqb m n (λ same. omega (arith, above, same))) refl
  ]
]

less_without_rest : (m n : ℕ) → nat_lt m n ≡ (nat_lt m n || ((m == n) && false))
less_without_rest m n = go (nat_lt m n) (m == n)
  where
    go : (a b : Bool) → a ≡ (a || (b && false))
    go true b = refl
    go false true = refl
    go false false = refl

pub event_by_key : (a b : Timed) → event_before a b ≡ less (key a) (key b)
unfolding less
event_by_key a b =
    lexical_of_number_and_rest a.time b.time _
    ∙ ap (λ (r : Bool). nat_lt a.time b.time || ((a.time == b.time) && r)) (lexical_of_number_and_rest (place a.class) (place b.class) _
    ∙ ap (λ (r : Bool). nat_lt (place a.class) (place b.class) || ((place a.class == place b.class) && r)) (lexical_of_number_and_rest a.op.rank b.op.rank _
    ∙ ap (λ (r : Bool). nat_lt a.op.rank b.op.rank || ((a.op.rank == b.op.rank) && r)) (less_without_rest a.op.op b.op.op)))
