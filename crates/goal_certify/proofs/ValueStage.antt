-- What the walk with its values says of the last two kinds of faults.
use Rattle.std.proofs.Common.{⊎_elim, ℕ, ◌<◌, ◌≡◌, inl, Bool, true, false, List, [], ◌∷◌, length, sym, subst, arith}
use Rattle.std.proofs.lemmas.Bool.{both_ways}
use Rattle.goal_graph.specs.Schedule.{Plan}
use Rattle.goal_graph.specs.Action.{Act}
use Rattle.goal_graph.specs.Interleaving.{IsInterleaving}
use Rattle.goal_graph.specs.Order.{IsLess}
use Rattle.goal_blocks.specs.declared.cert_fault.CertFault.TheVariants.{TooLarge, Wildcard, DoubleChannel, Unpaired, Lengths, Race, Stalls, Weight, Wrong, NoMemory}
use Rattle.goal_blocks.specs.Walk.{no_send, TakesFirst, IsWalk}
use Rattle.goal_blocks.specs.Values.{Value, Store, value}
use Rattle.goal_blocks.specs.Certification.{IsLight, HoldsWanted}
use Rattle.goal_blocks.specs.Faults.{IsLeast, SlotAt, slot_key, IsWrong, IsFirstTooHeavy}
use Rattle.goal_blocks.proofs.ForCallers.{IsTail, whole, newer, one_is_tail_of_other, complete_tail, one_walk, heavy_not}
use Rattle.goal_certify.specs.Stages.{HasNone, IsFirstOf}

module _ (plans : List Plan) (first : Store) (wanted : ℕ → ℕ → Value → Bool) where
  heavy_tail : (h w : List Act) → IsTail h w → (total : ℕ) → IsFirstTooHeavy plans first h total → IsFirstTooHeavy plans first w total
  heavy_tail h w whole total heavy = heavy
  heavy_tail h (b ∷ w) (newer t) total heavy = inl (heavy_tail h w t total heavy)

  -- the walk so far has reached a point at which too much is held
  pub weight_first : (h : List Act) (total : ℕ) → IsInterleaving plans no_send h → TakesFirst plans h → IsFirstTooHeavy plans first h total → IsFirstOf plans first wanted 7 9 (Weight total)
  weight_first h total run takes heavy =
      record { has = in_walk; not_under = omega arith; under = omega arith; none_before = λ other from under has. omega (arith, from, under) }
    where
      in_walk : (w : List Act) → IsWalk plans w → IsFirstTooHeavy plans first w total
      in_walk w is =
          ⊎_elim (λ t. heavy_tail h w t total heavy) (λ t. subst (λ (v : List Act). IsFirstTooHeavy plans first v total) (sym (complete_tail plans w h is.complete run t)) heavy) (one_is_tail_of_other plans h w run takes is.complete.each is.in_order)

  module _ (w : List Act) (is_walk : IsWalk plans w) (light : IsLight plans first w) where
    none_heavy : HasNone plans first wanted 7 8
    none_heavy (TooLarge rank) from under has = omega (arith, from)
    none_heavy (Wildcard op) from under has = omega (arith, from)
    none_heavy (DoubleChannel y x) from under has = omega (arith, from)
    none_heavy (Unpaired op) from under has = omega (arith, from)
    none_heavy (Lengths m x) from under has = omega (arith, from)
    none_heavy (Race rank lower higher slot) from under has = omega (arith, from)
    none_heavy (Stalls op) from under has = omega (arith, from)
    none_heavy (Weight total) from under has = heavy_not plans first w total light (has w is_walk)
    none_heavy (Wrong rank slot) from under has = omega (arith, under)
    none_heavy NoMemory from under has = omega (arith, under)

    -- nothing is too heavy, and each slot holds what is wanted of it
    pub values_none : HoldsWanted plans wanted (value plans no_send first w) → HasNone plans first wanted 7 9
    values_none right (TooLarge rank) from under has = omega (arith, from)
    values_none right (Wildcard op) from under has = omega (arith, from)
    values_none right (DoubleChannel y x) from under has = omega (arith, from)
    values_none right (Unpaired op) from under has = omega (arith, from)
    values_none right (Lengths m x) from under has = omega (arith, from)
    values_none right (Race rank lower higher slot) from under has = omega (arith, from)
    values_none right (Stalls op) from under has = omega (arith, from)
    values_none right (Weight total) from under has = heavy_not plans first w total light (has w is_walk)
    values_none right (Wrong rank slot) from under has = both_ways _ (has.holds.1 w is_walk) (right rank slot has.holds.0)
    values_none right NoMemory from under has = omega (arith, under)

    -- nothing is too heavy, and a slot does not hold what is wanted of it, as each lesser one does
    pub wrong_first : (rank slot : ℕ) → rank < length plans → wanted rank slot (value plans no_send first w rank slot) ≡ false → ((other : SlotAt) → IsLess (slot_key other) (rank ∷ slot ∷ []) → other.rank < length plans → wanted other.rank other.slot (value plans no_send first w other.rank other.slot) ≡ true) → IsFirstOf plans first wanted 7 9 (Wrong rank slot)
    wrong_first rank slot inside wrong lesser =
        record { has = least; not_under = omega arith; under = omega arith; none_before = none_heavy }
      where
        least : IsLeast slot_key (IsWrong plans first wanted) (record { rank = rank; slot = slot })
        least = record {
          holds = (inside, λ v is. subst (λ (u : List Act). wanted rank slot (value plans no_send first u rank slot) ≡ false) (one_walk plans w v is_walk is) wrong);
          none_less = λ other less q. both_ways _ (q.1 w is_walk) (lesser other less q.0);
        }
