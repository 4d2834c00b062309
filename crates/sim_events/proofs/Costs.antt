-- The cost of keys that are put and removed.
use Rattle.std.proofs.Common.{◌≡◌, ◌≢◌, ◌⊎◌, ℕ, ◌+◌, ◌*◌, ◌^◌, ◌<◌, ◌≤◌, zero, suc, cond, List, [], ◌∷◌, length, Option, Some, None, is_some, slice_set, refl, sym, ap, ◌∙◌, subst, inl, inr, arith}
use Rattle.std.specs.List.{sum_by, count_by, range_with_len}
use Rattle.std.proofs.Math.Nat.{mul-le-mul_right}
use Rattle.std.proofs.lemmas.Bool.{cases_eq}
use Rattle.std.proofs.lemmas.List.{get_or-set_same, get_or-set_other}
use Rattle.std.proofs.lemmas.List.Sums.{sum_by-cons, count_by-le-length}
use Rattle.goal_graph.specs.declared.action.Timed.{Timed}
use Rattle.sim_queue.specs.Map.{key_at, IsEmptyMap}
use Rattle.sim_stations.specs.Stations.{Stationed, count_ahead, cost_of_waiting}
use Rattle.sim_events.specs.Comparisons.{cost_of_key, spent}

-- a sum does not fall where no term does
sum_monotone : (f g : ℕ → ℕ) (a n : ℕ) → ((i : ℕ) → a ≤ i → f i ≤ g i) → sum_by f (range_with_len a n) ≤ sum_by g (range_with_len a n)
sum_monotone f g a zero each = omega arith
sum_monotone f g a (suc n) each =
    let rest = sum_monotone f g (a + 1) n (λ i l. each i (omega (arith, l))) in
    omega (arith, rest, each a (omega arith), sum_by-cons f a (range_with_len (a + 1) n), sum_by-cons g a (range_with_len (a + 1) n))

-- and where one is moved, it moves with it
sum_moved : (f g : ℕ → ℕ) (slot x y a n : ℕ) → a ≤ slot → slot < a + n → ((i : ℕ) → i ≢ slot → f i ≤ g i) → x + f slot ≤ g slot + y → x + sum_by f (range_with_len a n) ≤ sum_by g (range_with_len a n) + y
sum_moved f g slot x y a zero l m others here = absurd (omega (arith, l, m))
sum_moved f g slot x y a (suc n) l m others here =
    go (cases_eq a slot) (λ d. sum_moved f g slot x y (a + 1) n (omega (arith, l, d)) (omega (arith, m)) others here)
  where
    go : (a ≡ slot) ⊎ (a ≢ slot) → ((a ≢ slot) → x + sum_by f (range_with_len (a + 1) n) ≤ sum_by g (range_with_len (a + 1) n) + y) → x + sum_by f (range_with_len a (suc n)) ≤ sum_by g (range_with_len a (suc n)) + y
    go (inl e) later =
        let first : x + f a ≤ g a + y = subst (λ s. x + f s ≤ g s + y) (sym e) here in
        let rest = sum_monotone f g (a + 1) n (λ i above. others i (λ s. absurd (omega (arith, s, e, above)))) in
        omega (arith, rest, first, sum_by-cons f a (range_with_len (a + 1) n), sum_by-cons g a (range_with_len (a + 1) n))
    go (inr d) later =
        omega (arith, later d, others a d, sum_by-cons f a (range_with_len (a + 1) n), sum_by-cons g a (range_with_len (a + 1) n))

sum_of_zeros : (f : ℕ → ℕ) (a n : ℕ) → ((i : ℕ) → f i ≡ 0) → sum_by f (range_with_len a n) ≡ 0
sum_of_zeros f a zero each = refl
sum_of_zeros f a (suc n) each =
    let rest = sum_of_zeros f (a + 1) n each in omega (arith, rest, each a, sum_by-cons f a (range_with_len (a + 1) n))

-- what a slot's key has cost
abbrev cost : ℕ → Stationed → ℕ → ℕ
cost k queue i = cost_of_key k (key_at queue.keys i)

-- what one slot has is changed
spent_moved : (k : ℕ) (old new : Stationed) (slot x y : ℕ) → length new.keys ≡ length old.keys → slot < length old.keys → ((i : ℕ) → i ≢ slot → cost k old i ≤ cost k new i) → x + cost k old slot ≤ cost k new slot + y → x + spent k old ≤ spent k new + y
spent_moved k old new slot x y each within others here =
    let moved = sum_moved (cost k old) (cost k new) slot x y 0 (length old.keys) (omega arith) (omega (arith, within)) others here in
    omega (arith, moved, ap (λ n. sum_by (cost k new) (range_with_len 0 n)) each)

-- what is compared is paid by the keys that are there then
abbrev pub IsPaid : Stationed → ℕ → Stationed → ℕ → Type 0
IsPaid old before new after =
    (k : ℕ) → length old.keys ≤ 2 ^ k → after + cost_of_waiting k new.stands + spent k old ≤ before + cost_of_waiting k old.stands + spent k new

-- where no key is there nothing has been spent
pub spent_none : (k : ℕ) (queue : Stationed) → IsEmptyMap queue.keys → spent k queue ≡ 0
spent_none k queue empty = sum_of_zeros (cost k queue) 0 (length queue.keys) (λ i. ap (cost_of_key k) (empty i))

-- keys that are there, or not, have cost the same
cost_by_presence_of_key : (k : ℕ) (a b : Option Timed) → is_some a ≡ is_some b → cost_of_key k a ≡ cost_of_key k b
cost_by_presence_of_key k None None e = refl
cost_by_presence_of_key k (Some x) (Some y) e = refl
cost_by_presence_of_key k None (Some y) e = absurd (cc)
cost_by_presence_of_key k (Some x) None e = absurd (cc)

module _ (k : ℕ) (old new : Stationed) (slot : ℕ) (each : length new.keys ≡ length old.keys) (within : slot < length old.keys) where
  other_costs_do_not_rise : ((i : ℕ) → i ≢ slot → is_some (key_at new.keys i) ≡ is_some (key_at old.keys i)) → (i : ℕ) → i ≢ slot → cost k old i ≤ cost k new i
  other_costs_do_not_rise there i d = omega (arith, cost_by_presence_of_key k (key_at new.keys i) (key_at old.keys i) (there i d))

  -- a key is put
  pub spent_put : (e : Timed) → new.keys ≡ slice_set old.keys slot (Some e) → key_at old.keys slot ≡ None → 10 * k + 16 + spent k old ≤ spent k new
  spent_put e put free =
      let here : key_at new.keys slot ≡ Some e = ap (λ ks. key_at ks slot) put ∙ get_or-set_same old.keys slot (Some e) None within in
      let there = λ (i : ℕ) (d : i ≢ slot). ap is_some (ap (λ ks. key_at ks i) put ∙ get_or-set_other old.keys slot i (Some e) None d) in
      omega (arith, spent_moved k old new slot (10 * k + 16) 0 each within (other_costs_do_not_rise there) (omega (arith, ap (cost_of_key k) free, ap (cost_of_key k) here)))

  -- a key is taken out, and the others stay where they are
  pub spent_after_key_removed : ((i : ℕ) → i ≢ slot → is_some (key_at new.keys i) ≡ is_some (key_at old.keys i)) → (e : Timed) → key_at old.keys slot ≡ Some e → spent k old ≤ spent k new + (10 * k + 16)
  spent_after_key_removed there e has =
      omega (arith, spent_moved k old new slot 0 (10 * k + 16) each within (other_costs_do_not_rise there) (omega (arith, ap (cost_of_key k) has)))

-- the same keys have cost the same
pub spent_same : (k : ℕ) (old new : Stationed) → new.keys ≡ old.keys → spent k new ≡ spent k old
spent_same k old new e =
    ap (λ ks. sum_by (λ i. cost_of_key k (key_at ks i)) (range_with_len 0 (length ks))) e

-- the cost of the keys is determined by how many there are
cost_of_key_by_presence : (k : ℕ) (a : Option Timed) → cost_of_key k a ≡ cond (is_some a) 1 0 * (10 * k + 16)
cost_of_key_by_presence k None = omega arith
cost_of_key_by_presence k (Some e) = omega arith

sum_of_costs_of_keys : (k : ℕ) (keys : List (Option Timed)) (paid : ℕ → ℕ) (a : ℕ) → ((i : ℕ) → paid (a + i) ≡ cost_of_key k (key_at keys i)) → sum_by paid (range_with_len a (length keys)) ≡ count_by is_some keys * (10 * k + 16)
sum_of_costs_of_keys k [] paid a each = omega arith
sum_of_costs_of_keys k (x ∷ keys) paid a each =
    let rest = sum_of_costs_of_keys k keys paid (a + 1) (λ i. ap paid (shift i) ∙ each (suc i)) in
    let more = sum_by-cons (λ (y : Option Timed). cond (is_some y) 1 0) x keys in
    omega (arith, rest, sum_by-cons paid a (range_with_len (a + 1) (length keys)), ap paid first, each 0, cost_of_key_by_presence k x, ap (λ n. n * (10 * k + 16)) more)
  where
    shift : (i : ℕ) → a + 1 + i ≡ a + suc i
    shift i = omega arith

    first : a + 0 ≡ a
    first = omega arith

pub spent_by_count_of_keys : (k : ℕ) (queue : Stationed) → spent k queue ≡ count_by is_some queue.keys * (10 * k + 16)
spent_by_count_of_keys k queue = sum_of_costs_of_keys k queue.keys (cost k queue) 0 (λ i. ap (cost k queue) (zero_more i))
  where
    zero_more : (i : ℕ) → 0 + i ≡ i
    zero_more i = omega arith

-- all keys together
pub spent_by_all_slots : (k : ℕ) (queue : Stationed) → spent k queue ≤ length queue.keys * (10 * k + 16)
spent_by_all_slots k queue =
    omega (arith, spent_by_count_of_keys k queue, mul-le-mul_right {m = count_by is_some queue.keys} {n = length queue.keys} (10 * k + 16) (count_by-le-length is_some queue.keys))

-- keys that have not begun to wait have cost more than it will cost that they do
pub waiting_costs_at_most_spent : (k : ℕ) (queue : Stationed) → count_ahead queue.stands ≤ count_by is_some queue.keys → cost_of_waiting k queue.stands ≤ spent k queue
waiting_costs_at_most_spent k queue few =
    let wait = mul-le-mul_right {m = count_ahead queue.stands} {n = count_by is_some queue.keys} (8 * k + 12) few in
    omega (arith, wait, spent_by_count_of_keys k queue)
