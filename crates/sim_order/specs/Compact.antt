-- The key of an event as two numbers: its time, and its class, rank and number as the digits of one number.
use Rattle.std.specs.Prelude.{◌≡◌, ℕ, ◌+◌, ◌*◌, ◌/◌, ◌%◌, ◌<◌, ◌==◌, if◌then◌else◌, zero, suc, refl}
use Rattle.std.proofs.Common.{ap, ◌∙◌, arith}
use Rattle.std.proofs.lemmas.Nat.{div-add-mod'}
use Rattle.goal_limits.specs.declared.limits.TheConstants.{MAX_RANKS, MAX_OPS}
use Rattle.goal_graph.specs.declared.action.Class.{Class}
use Rattle.goal_graph.specs.declared.action.Class.TheVariants.{Arrive, Serve, Data, Post, Begin}
use Rattle.goal_graph.specs.declared.action.OpId.{OpId}
use Rattle.goal_graph.specs.declared.action.Timed.{Timed}
use Rattle.goal_graph.specs.Action.{place}

-- the class at a place in the order of classes
abbrev pub class_at : ℕ → Class
class_at n = if n == 0 then Arrive else (if n == 1 then Serve else (if n == 2 then Data else (if n == 3 then Post else Begin)))

-- the tail of a class and an operation: one number, whose digits are the place of the class, the rank and the number
abbrev pub tail_of : Class → OpId → ℕ
tail_of class op = (place class * MAX_RANKS + op.rank) * MAX_OPS + op.op

-- the event of a time and a tail
abbrev pub timed_of : ℕ → ℕ → Timed
timed_of time tail = record {
  time = time;
  class = class_at (tail / MAX_OPS / MAX_RANKS);
  op = record { rank = tail / MAX_OPS % MAX_RANKS; op = tail % MAX_OPS };
}

-- a class has that place
abbrev pub IsTail : ℕ → Type 0
IsTail tail = tail / MAX_OPS / MAX_RANKS < 5

pub place_of_class_at : (n : ℕ) → n < 5 → place (class_at n) ≡ n
place_of_class_at zero h = refl
place_of_class_at (suc zero) h = refl
place_of_class_at (suc (suc zero)) h = refl
place_of_class_at (suc (suc (suc zero))) h = refl
place_of_class_at (suc (suc (suc (suc zero)))) h = refl
place_of_class_at (suc (suc (suc (suc (suc n))))) h = absurd (omega (arith, h))

-- a tail comes from its class and operation
pub tail_of_parts : (tail : ℕ) → IsTail tail → tail_of (timed_of 0 tail).class (timed_of 0 tail).op ≡ tail
tail_of_parts tail h =
    ap (λ n. (n * MAX_RANKS + tail / MAX_OPS % MAX_RANKS) * MAX_OPS + tail % MAX_OPS) (place_of_class_at (tail / MAX_OPS / MAX_RANKS) h)
    ∙ (ap (λ n. n * MAX_OPS + tail % MAX_OPS) (div-add-mod' (tail / MAX_OPS) MAX_RANKS) ∙ div-add-mod' tail MAX_OPS)
