-- Schedules in rounds of more than 2,048 ranks are not certified: at the end of the walk each rank holds all that it gained, and all that
-- it heard, together one less than twice 2^n contributions after n rounds.
use Rattle.std.proofs.Common.{⊎_elim, ℕ, zero, suc, ◌+◌, ◌-◌, ◌*◌, ◌^◌, ◌<◌, ◌≤◌, ◌≡◌, ◌⊎◌, nat_le, inl, inr, Bool, true, List, [], ◌∷◌, length, ap, subst, arith}
use Rattle.std.proofs.Math.Pow.{pow_mono}
use Rattle.std.proofs.lemmas.Bool.{le-leb, leb-true, cases_lt}
use Rattle.goal_limits.specs.Limits.{certified_rank_limit, weight_limit, rank_limit}
use Rattle.goal_graph.specs.Schedule.{Plan}
use Rattle.goal_graph.specs.Action.{Act}
use Rattle.goal_blocks.specs.Values.{Value, Store, held_after}
use Rattle.goal_blocks.specs.Weight.{sum_below, stored, weight}
use Rattle.goal_blocks.specs.Walk.{no_send, IsWalk}
use Rattle.goal_blocks.specs.Certification.{IsLight, IsCertified}
use Rattle.goal_blocks.specs.Collectives.{single}
use Rattle.goal_blocks.specs.Entries.{Entry, made_by}
use Rattle.goal_blocks.specs.Positions.{digits}
use Rattle.goal_blocks.proofs.Orders.{Mem}
use Rattle.goal_blocks.proofs.EntryFacts.{length_plans}
use Rattle.goal_blocks.proofs.RingAndTree.{below_power_of_digits, digits_few}
use Rattle.goal_blocks.proofs.Trees.{sum_below_le}
use Rattle.goal_blocks.proofs.Doubling.{doubling, doubling_zero, doubling_early, doubling_late, doubling_least}
use Rattle.goal_blocks.proofs.Rounds.{rounds_count, rounds_entry, gained, length-gained, rounds_finds, rounds_leaves, rounds_level, Turn, turn_send, turn_recv, receive_writes, rounds_writes_cases, leaves_other, rounds_blueprint}
use Rattle.goal_blocks.proofs.Blueprint.{writes, Final, final_values}

-- after the actions of a light schedule, the weight is within the limit
held_weight_within_limit : (plans : List Plan) (first : Store) (h : List Act) → IsLight plans first h → weight plans h (held_after plans no_send first h) ≤ weight_limit
held_weight_within_limit plans first [] light = light
held_weight_within_limit plans first (a ∷ h) light = light.2

-- n numbers that are each at least c
sum_below_many : (n c : ℕ) (f : ℕ → ℕ) → ((k : ℕ) → k < n → c ≤ f k) → n * c ≤ sum_below n f
unfolding sum_below
sum_below_many zero c f each = omega arith
sum_below_many (suc n) c f each =
    let rest = sum_below_many n c f (λ k l. each k (omega (arith, l))) in
    let here = each n (omega arith) in
    grind (arith, rest, here)

-- with more than 2,048 ranks there are 12 rounds or more, and no more than 16
pub many_rounds : (ranks : ℕ) → certified_rank_limit < ranks → ranks ≤ rank_limit → (12 ≤ digits (ranks - 1)) × (digits (ranks - 1) ≤ 16)
many_rounds ranks many few =
    (⊎_elim (λ less. absurd (let high = below_power_of_digits (ranks - 1) 11 (omega (arith, few)) (omega (arith, less)) in omega (arith, high, many))) (λ more. more) (cases_lt (digits (ranks - 1)) 12), digits_few (ranks - 1) 16 (omega (arith, few)) (omega (arith, many, few)))

module _ (ranks n bytes : ℕ) (to from : ℕ → ℕ → ℕ) (to_rank : (r k : ℕ) → r < ranks → k < n → to r k < ranks) (from_rank : (r k : ℕ) → r < ranks → k < n → from r k < ranks) (there_and_back : (r k : ℕ) → r < ranks → k < n → from (to r k) k ≡ r) (back_and_there : (r k : ℕ) → r < ranks → k < n → to (from r k) k ≡ r) (first : Store) (first_is : (r : ℕ) → r < ranks → first r 0 ≡ single r 0) where
  abbrev count : ℕ → ℕ
  count r = rounds_count ranks n bytes to from to_rank from_rank there_and_back back_and_there r

  abbrev entry : ℕ → ℕ → Entry
  entry r i = rounds_entry ranks n bytes to from to_rank from_rank there_and_back back_and_there r i

  abbrev finds : ℕ → ℕ → ℕ → Value
  finds r i k = rounds_finds ranks n bytes to from to_rank from_rank there_and_back back_and_there r i k

  abbrev leaves : ℕ → ℕ → ℕ → Value
  leaves r i k = rounds_leaves ranks n bytes to from to_rank from_rank there_and_back back_and_there r i k

  abbrev plans : List Plan
  plans = made_by ranks count entry

  -- a slot has no fewer contributions than what is gained or heard
  at_least : ℕ → ℕ → Value → Bool
  at_least r k v = nat_le (doubling n k) (length v)

  gained_value_is_enough : (r : ℕ) → r < ranks → at_least r 0 (gained ranks n bytes to from to_rank from_rank there_and_back back_and_there n r) ≡ true
  unfolding at_least
  gained_value_is_enough r inside =
      let size = length-gained ranks n bytes to from to_rank from_rank there_and_back back_and_there n r in
      let most = doubling_zero n in
      le-leb (doubling n 0) (length (gained ranks n bytes to from to_rank from_rank there_and_back back_and_there n r)) (omega (arith, size, most))

  -- what a round receives stays in its slot
  received_slot_value_is_final : (r s : ℕ) → r < ranks → Final ranks count entry first at_least finds leaves r (suc s)
  unfolding at_least
  received_slot_value_is_final r s inside =
      ⊎_elim (λ l. inr (inr (3 * s + 1, omega (arith, l), written, λ j m w. inl (writer j (rounds_writes_cases ranks n bytes to from to_rank from_rank there_and_back back_and_there r j (suc s) w)), enough l))) (λ g. inl (λ v. let none = doubling_late n s g in le-leb (doubling n (suc s)) (length v) (omega (arith, none)))) (cases_lt s n)
    where
      written : Mem (suc s) (writes (entry r (3 * s + 1)))
      written =
          let e : s + 1 ≡ suc s = omega arith in
          subst (λ (k : ℕ). Mem k (writes (entry r (3 * s + 1)))) e (receive_writes ranks n bytes to from to_rank from_rank there_and_back back_and_there r s)

      writer : (j : ℕ) → ((k : ℕ) × (j ≡ 3 * k + 1) × (k + 1 ≡ suc s)) ⊎ ((k : ℕ) × (j ≡ 3 * k + 2) × (◌≡◌ {A = ℕ} 0 (suc s))) → j ≡ 3 * s + 1
      writer j (inl (k, e, f)) = omega (arith, e, f)
      writer j (inr (k, e, f)) = absurd (omega (arith, f))

      enough : s < n → nat_le (doubling n (suc s)) (length (leaves r (3 * s + 1) (suc s))) ≡ true
      enough l =
          let is = ap length (leaves_other ranks n bytes to from to_rank from_rank there_and_back back_and_there r (3 * s + 1) s (suc s) (omega arith) (omega arith)) in
          let size = length-gained ranks n bytes to from to_rank from_rank there_and_back back_and_there s (from r s) in
          let most = doubling_early n s l in
          le-leb (doubling n (suc s)) (length (leaves r (3 * s + 1) (suc s))) (omega (arith, is, size, most))

  held_at_end : (w : List Act) → IsWalk plans w → (r k : ℕ) → r < ranks → doubling n k ≤ length ((held_after plans no_send first w).store r k)
  unfolding at_least
  held_at_end w is r k inside =
      let size = length_plans ranks count entry in
      leb-true (doubling n k) (length ((held_after plans no_send first w).store r k)) (final_values ranks count entry first at_least finds leaves (Turn ranks n bytes to from to_rank from_rank there_and_back back_and_there) bytes (λ t. turn_send ranks n bytes to from to_rank from_rank there_and_back back_and_there t) (λ t. turn_recv ranks n bytes to from to_rank from_rank there_and_back back_and_there t) (λ t. t.round) (λ r i. rounds_level ranks n bytes to from to_rank from_rank there_and_back back_and_there r i) (rounds_blueprint ranks n bytes to from to_rank from_rank there_and_back back_and_there first at_least first_is gained_value_is_enough received_slot_value_is_final) w is r k (omega (arith, inside, size)))

  module _ (many : certified_rank_limit < ranks) (few : ranks ≤ rank_limit) (rounds : (12 ≤ n) × (n ≤ 16)) where
    stored_many : (w : List Act) → IsWalk plans w → weight_limit < stored ranks (held_after plans no_send first w).store
    unfolding stored
    stored_many w is =
        let all = sum_below_many ranks 8191 (λ r. sum_below (2 ^ 32) (λ k. length ((held_after plans no_send first w).store r k))) (λ r l. in_rank r l) in
        omega (arith, all, many)
      where
        in_rank : (r : ℕ) → r < ranks → 8191 ≤ sum_below (2 ^ 32) (λ k. length ((held_after plans no_send first w).store r k))
        in_rank r l =
            let power : 2 ^ 12 ≤ 2 ^ n = pow_mono rounds.0 in
            let most = rounds.1 in
            let least = doubling_least n (2 ^ 32) (omega (arith, most)) in
            let each = sum_below_le (doubling n) (λ k. length ((held_after plans no_send first w).store r k)) (2 ^ 32) (λ k m. held_at_end w is r k l) in
            omega (arith, power, least, each)

    pub rounds_too_heavy : (wanted : ℕ → ℕ → Value → Bool) → IsCertified plans first wanted → ⊥
    unfolding weight
    rounds_too_heavy wanted c =
        let w = c.matched.no_stall.walk in
        let now = held_weight_within_limit plans first w c.light in
        let much = stored_many w c.matched.no_stall.is_walk in
        let size = ap (λ (m : ℕ). stored m (held_after plans no_send first w).store) (length_plans ranks count entry) in
        omega (arith, now, much, size)
