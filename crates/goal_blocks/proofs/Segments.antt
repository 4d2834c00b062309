-- Blocks of slots exchanged, and segments of a collective that are right in one run.
use Rattle.std.proofs.Common.{ℕ, ◌+◌, ◌*◌, ◌^◌, ◌<◌, ◌≤◌, ◌≡◌, ◌↔◌, Bool, true, List, length, sym, subst, arith}
use Rattle.goal_graph.specs.declared.action.OpId.{OpId}
use Rattle.goal_graph.specs.Schedule.{Plan}
use Rattle.goal_graph.specs.Action.{Act}
use Rattle.goal_graph.specs.Interleaving.{IsCompleteInterleaving}
use Rattle.goal_limits.specs.declared.collective.Collective.{Collective}
use Rattle.goal_blocks.specs.Values.{value}
use Rattle.goal_blocks.specs.Collectives.{initial, wanted}
use Rattle.goal_blocks.specs.Right.{EndsInItsPairs, IsRightEverywhere}
use Rattle.goal_blocks.specs.Certification.{IsSmall, IsCertified}
use Rattle.goal_blocks.specs.Certified.{IsCertifiedFor}
use Rattle.goal_blocks.specs.Laws.{IsRenamed, KeepsSlots}
use Rattle.goal_blocks.specs.Segments.{exchanges, exchanged, initial_in, wanted_in, IsCertifiedIn, HoldsSegment, AreAllRight}
use Rattle.goal_blocks.proofs.Right.{certified_right}
use Rattle.goal_blocks.proofs.Exchange.{exchange_of_slot_in_block, exchange_below, exchanges_undone}
use Rattle.goal_blocks.proofs.RenamedNotes.{renamed_is}
use Rattle.goal_blocks.proofs.RenamedRight.{right_under_renaming}
use Rattle.goal_blocks.proofs.RenamedCertified.{renamed_certified}

pub exchanged_certified : (what : Collective) (width block : ℕ) (plans : List Plan) → block * width + width ≤ 65536 → IsSmall plans → IsCertifiedFor what (exchanged width block plans) ↔ IsCertifiedIn what width block plans
exchanged_certified what width block plans fits small =
    subst (λ (n : ℕ). IsCertified (exchanged width block plans) (initial what n) (wanted what n) ↔ IsCertifiedIn what width block plans) (sym (renamed_is (exchanges width block) plans).ranks) (renamed_certified (exchanges width block) (exchanges width block) plans (initial what (length plans)) (wanted what (length plans)) (exchanges_undone width block) low low small)
  where
    low : KeepsSlots (exchanges width block)
    low = record {
      low = λ rank slot small_slot. let kept = exchange_below width block 65536 fits slot (omega (arith, small_slot)) in omega (arith, kept);
      all = λ rank slot some_slot. exchange_below width block (2 ^ 32) (omega (arith, fits)) slot some_slot;
    }

-- right everywhere, in the block
abbrev IsRightIn : Collective → ℕ → ℕ → List Plan → Type 0
IsRightIn what width block plans =
    IsRightEverywhere plans (initial_in what width block (length plans)) (wanted_in what width block (length plans))

exchanged_right : (what : Collective) (width block : ℕ) (plans : List Plan) → IsCertifiedFor what (exchanged width block plans) → IsRightIn what width block plans
exchanged_right what width block plans certified =
    right_under_renaming (exchanges width block) (exchanges width block) plans (exchanged width block plans) (exchanges_undone width block) is (initial what (length plans)) (wanted what (length plans)) (subst (λ (n : ℕ). IsRightEverywhere (exchanged width block plans) (initial what n) (wanted what n)) is.ranks right)
  where
    is : IsRenamed (exchanges width block) plans (exchanged width block plans)
    is = renamed_is (exchanges width block) plans

    right : IsRightEverywhere (exchanged width block plans) (initial what (length (exchanged width block plans))) (wanted what (length (exchanged width block plans)))
    right =
        certified_right (exchanged width block plans) (initial what (length (exchanged width block plans))) (wanted what (length (exchanged width block plans))) certified

module _ (what : Collective) (width : ℕ) (plans : List Plan) (eager : OpId → Bool) (h : List Act) (done : IsCompleteInterleaving plans eager h) where
  right_block_holds_segment : (block : ℕ) → IsRightIn what width block plans → HoldsSegment what width block plans (value plans eager (initial_in what width block (length plans)) h)
  right_block_holds_segment block right rank slot low inside =
      subst (λ (k : ℕ). wanted what (length plans) rank k (value plans eager (initial_in what width block (length plans)) h rank (block * width + slot)) ≡ true) (exchange_of_slot_in_block width block slot inside) ((right eager h done).wanted_held rank (block * width + slot) low)

  pub block_holds : (block : ℕ) → IsCertifiedFor what (exchanged width block plans) → EndsInItsPairs plans eager h × HoldsSegment what width block plans (value plans eager (initial_in what width block (length plans)) h)
  block_holds block certified =
      let right = exchanged_right what width block plans certified in
      ((right eager h done).ends, right_block_holds_segment block right)

pub slot_holds : (what : Collective) (k : ℕ) (plans : List Plan) (eager : OpId → Bool) (h : List Act) → IsCertifiedFor what (exchanged 1 k plans) → IsCompleteInterleaving plans eager h
    → EndsInItsPairs plans eager h × ((rank : ℕ) → rank < length plans → wanted what (length plans) rank 0 (value plans eager (initial_in what 1 k (length plans)) h rank k) ≡ true)
slot_holds what k plans eager h certified done =
    let both = block_holds what 1 plans eager h done k certified in
    (both.0, λ rank low. subst (λ (slot : ℕ). wanted what (length plans) rank 0 (value plans eager (initial_in what 1 k (length plans)) h rank slot) ≡ true) (omega arith) (both.1 rank 0 low (omega arith)))

pub segments_right : (what : Collective) (width count : ℕ) (plans : List Plan) → ((block : ℕ) → block < count → IsCertifiedFor what (exchanged width block plans)) → AreAllRight what width count plans
segments_right what width count plans each eager h done block l = block_holds what width plans eager h done block (each block l)

pub blocks_right : (what : Collective) (width count : ℕ) (plans : List Plan) → ((block : ℕ) → block < count → IsCertifiedIn what width block plans) → AreAllRight what width count plans
blocks_right what width count plans each eager h done block l =
    let right = certified_right plans (initial_in what width block (length plans)) (wanted_in what width block (length plans)) (each block l) in
    ((right eager h done).ends, right_block_holds_segment what width plans eager h done block right)
