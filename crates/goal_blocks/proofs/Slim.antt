-- Entries that fit, with bounds of what each requires and of its notes, and what follows for all together.
use Rattle.std.proofs.Common.{ℕ, ◌+◌, ◌*◌, ◌<◌, ◌≤◌, List, [], ◌∷◌, length, All, refl, arith}
use Rattle.std.proofs.Math.Nat.{mul-le-mul_right, le_trans}
use Rattle.std.specs.List.{range_with_len, sum_by}
use Rattle.std.proofs.lemmas.Bool.{le-leb}
use Rattle.std.proofs.lemmas.Bool.Decides.{nat_tests}
use Rattle.std.proofs.lemmas.List.Elements.{All-nil, All-cons}
use Rattle.goal_limits.specs.declared.limits.TheConstants.{MAX_RANKS, MAX_OPS, MAX_DEPS, MAX_NOTES, MAX_BYTES}
use Rattle.goal_blocks.specs.Entries.{Entry, Span, slot, sending, receiving, summing}
use Rattle.goal_blocks.specs.Fitting.{IsFitting, AreFitting}
use Rattle.goal_blocks.proofs.Totals.{needs_few, notes_few}

-- number i may be this entry, which requires at most d operations and has at most m notes
pub record IsSlim (ranks i d m : ℕ) (e : Entry) : Type 0 where
  pub fits : IsFitting ranks i e
  pub needs : length e.needs ≤ d
  pub notes : length e.moves + length e.adds ≤ m

pub All_one : {X : Type 0} (P : X → Type 0) (x : X) → P x → All P (x ∷ [])
All_one P x a = All-cons P x [] a (All-nil P)

pub All_two : {X : Type 0} (P : X → Type 0) (x y : X) → P x → P y → All P (x ∷ y ∷ [])
All_two P x y a b = All-cons P x (y ∷ []) a (All_one P y b)

-- spans in order
abbrev pub AreInOrder : List Span → Type 0
AreInOrder spans = All (λ (s : Span). s.lo ≤ s.hi) spans

pub slot_in_order : (k : ℕ) → AreInOrder (slot k)
slot_in_order k = All_one (λ (s : Span). s.lo ≤ s.hi) (record { lo = k; hi = k }) (omega arith)

module _ (ranks i bytes : ℕ) (small : bytes ≤ MAX_BYTES) (d m : ℕ) where
  pub sending_slim : (to tag : ℕ) (needs : List ℕ) (moves : List Span) → to < ranks → All (λ (k : ℕ). k < i) needs → length needs ≤ d → AreInOrder moves → length moves ≤ m → IsSlim ranks i d m (sending bytes to tag needs moves)
  sending_slim to tag needs moves peer lower few ordered short = record {
    fits = record {
      value = le-leb bytes MAX_BYTES small;
      peer = grind (arith, nat_tests);
      lower = lower;
      moves = λ k s l. (refl, ordered k s l);
      adds = λ k a l. absurd (omega arith);
    };
    needs = few;
    notes = omega arith;
  }

  pub receiving_slim : (from tag : ℕ) (moves : List Span) → from < ranks → AreInOrder moves → length moves ≤ m → IsSlim ranks i d m (receiving bytes from tag moves)
  receiving_slim from tag moves peer ordered short = record {
    fits = record {
      value = le-leb bytes MAX_BYTES small;
      peer = grind (arith, nat_tests);
      lower = λ k n l. absurd (omega arith);
      moves = λ k s l. (refl, ordered k s l);
      adds = λ k a l. absurd (omega arith);
    };
    needs = omega arith;
    notes = omega arith;
  }

pub summing_slim : (ranks i d m : ℕ) (needs : List ℕ) (from to : ℕ) → All (λ (k : ℕ). k < i) needs → length needs ≤ d → 1 ≤ m → IsSlim ranks i d m (summing needs from to)
summing_slim ranks i d m needs from to lower few some = record {
  fits = record {
    value = refl;
    peer = refl;
    lower = lower;
    moves = λ k s l. absurd (omega arith);
    adds = λ k a l. refl;
  };
  needs = few;
  notes = omega arith;
}

-- entries that are each slim, and not too many, fit
module _ (ranks : ℕ) (count : ℕ → ℕ) (e : ℕ → ℕ → Entry) (d m total : ℕ) where
  pub slim_fitting : 0 < ranks → ranks ≤ MAX_RANKS → ((r i : ℕ) → r < ranks → i < count r → IsSlim ranks i d m (e r i)) → sum_by count (range_with_len 0 ranks) ≤ total → total ≤ MAX_OPS → total * d ≤ MAX_DEPS → total * m ≤ MAX_NOTES → AreFitting ranks count e
  slim_fitting some few each sum ops deps notes =
      let a = needs_few ranks count e d (λ r i in_rank inside. (each r i in_rank inside).needs) in
      let b = notes_few ranks count e m (λ r i in_rank inside. (each r i in_rank inside).notes) in
      let times_d = mul-le-mul_right d sum in
      let times_m = mul-le-mul_right m sum in
      record {
        some_rank = some;
        few_ranks = few;
        few_ops = le_trans sum ops;
        few_needs = le_trans a (le_trans times_d deps);
        few_notes = le_trans b (le_trans times_m notes);
        each = λ r i in_rank inside. (each r i in_rank inside).fits;
      }
