-- The answers of certification in segments.
use Rattle.std.proofs.Common.{ℕ, suc, ◌+◌, ◌*◌, ◌^◌, ◌<◌, ◌≤◌, ◌≡◌, ◌⊎◌, inl, inr, ⊎_elim, Bool, List, length, sym, subst, arith, suc-mul}
use Rattle.std.proofs.lemmas.Bool.{cases_lt, cases_eq}
use Rattle.std.proofs.Math.Nat.{mul-le-mul_right}
use Rattle.goal_graph.specs.Schedule.{Plan}
use Rattle.goal_graph.specs.Fault.{IsAccepted}
use Rattle.goal_blocks.specs.declared.cert_fault.CertFault.{CertFault}
use Rattle.goal_blocks.specs.declared.cert_fault.CertFault.TheVariants.{NoMemory}
use Rattle.goal_limits.specs.declared.collective.Collective.{Collective}
use Rattle.goal_blocks.specs.Values.{Value, Store}
use Rattle.goal_blocks.specs.Faults.{IsCertificationFault}
use Rattle.goal_blocks.specs.Laws.{FaultExcludesCertified, FaultlessIsCertified, OneFirstFault}
use Rattle.goal_blocks.specs.Segments.{initial_in, wanted_in, IsCertifiedIn}
use Rattle.goal_blocks.proofs.ForCallers.{certified_right}
use Rattle.goal_certify.specs.declared.segments.SegmentFault.{SegmentFault}
use Rattle.goal_certify.specs.Stages.{HasNone, IsFree, IsStopped}
use Rattle.goal_certify.specs.Segments.{IsSegmentFault}
use Rattle.goal_certify.proofs.StageLemmas.{none_joined}
use Rattle.goal_certify.proofs.Deciding.{certified, is_fault, IsFaultFrom, fault_from_if_stopped, fault_from_with_later_end, fault_from_with_earlier_start}

-- the slots of the block of that number
pub block_fits : (width count block : ℕ) → count * width ≤ 2 ^ 32 → block < count → block * width + width ≤ 2 ^ 32
block_fits width count block fits low =
    let more : suc block * width ≤ count * width = mul-le-mul_right width low in
    let is = suc-mul block width in
    omega (arith, more, is, fits)

module _ (what : Collective) (width : ℕ) (plans : List Plan) where
  -- what is at the start of the block, and what is to be at its end
  abbrev start : ℕ → Store
  start block = initial_in what width block (length plans)

  abbrev wish : ℕ → ℕ → ℕ → Value → Bool
  wish block = wanted_in what width block (length plans)

  module _ (excludes : FaultExcludesCertified) (faultless : FaultlessIsCertified) (one : OneFirstFault) (accepted : IsAccepted plans) where
    pub block_certified : (block : ℕ) → IsFree plans 0 6 → HasNone plans (start block) (wish block) 6 9 → IsCertifiedIn what width block plans
    block_certified block free none =
        certified plans (start block) (wish block) faultless excludes one (λ ps first wanted c. certified_right ps first wanted c) accepted (none_joined plans (start block) (wish block) 0 6 9 (free (start block) (wish block)) none)

    pub more_certified : (block : ℕ) → ((k : ℕ) → k < block → IsCertifiedIn what width k plans) → IsCertifiedIn what width block plans → (k : ℕ) → k < block + 1 → IsCertifiedIn what width k plans
    more_certified block before this k low =
        ⊎_elim (λ e. subst (λ (b : ℕ). IsCertifiedIn what width b plans) (sym e) this) (λ ne. before k (omega (arith, low, ne))) (cases_eq k block)

    module _ (count : ℕ) where
      -- of the block and its fault
      abbrev pub IsSegmentFaultOrNoMemory : SegmentFault → Type 0
      IsSegmentFaultOrNoMemory told = (told.fault ≡ NoMemory) ⊎ IsSegmentFault what width count plans told

      pub segment_fault_from_block_fault : (block : ℕ) (fault : CertFault) → block < count → ((k : ℕ) → k < block → IsCertifiedIn what width k plans) → IsFaultFrom plans (start block) (wish block) 0 9 fault → IsSegmentFaultOrNoMemory (record { block = block; fault = fault })
      segment_fault_from_block_fault block fault low before (inl e) = inl e
      segment_fault_from_block_fault block fault low before (inr is) =
          inr (record { block = low; fault = is_fault plans (start block) (wish block) faultless excludes one (λ ps first wanted c. certified_right ps first wanted c) accepted fault is; certified_before = before })

      pub first_segment_fault_if_stopped : (fault : CertFault) → 0 < count → IsStopped plans 0 6 fault → IsSegmentFaultOrNoMemory (record { block = 0; fault = fault })
      first_segment_fault_if_stopped fault some stopped =
          segment_fault_from_block_fault 0 fault some (λ k low. absurd (omega (arith, low))) (fault_from_with_later_end plans (start 0) (wish 0) 0 6 9 fault (omega arith) (fault_from_if_stopped plans (start 0) (wish 0) 0 6 fault stopped))

      pub segment_fault_from_late_stages : (block : ℕ) (fault : CertFault) → block < count → ((k : ℕ) → k < block → IsCertifiedIn what width k plans) → IsFree plans 0 6 → IsFaultFrom plans (start block) (wish block) 6 9 fault → IsSegmentFaultOrNoMemory (record { block = block; fault = fault })
      segment_fault_from_late_stages block fault low before free told =
          segment_fault_from_block_fault block fault low before (fault_from_with_earlier_start plans (start block) (wish block) 0 6 9 fault (omega arith) (free (start block) (wish block)) told)

      pub excluded : (found : SegmentFault) → IsSegmentFault what width count plans found → IsCertifiedIn what width found.block plans → ⊥
      excluded found is good =
          excludes plans (start found.block) (wish found.block) found.fault is.fault.has good

      pub none_told : (told : SegmentFault) → IsSegmentFaultOrNoMemory told → ((block : ℕ) → block < count → IsCertifiedIn what width block plans) → told.fault ≡ NoMemory
      none_told told (inl e) all = e
      none_told told (inr is) all = absurd (excluded told is (all told.block is.block))

      -- there is at most one
      pub one_found : (told found : SegmentFault) → IsSegmentFault what width count plans told → IsSegmentFault what width count plans found → told ≡ found
      one_found told found is other =
          ⊎_elim (λ less. absurd (excluded told is (other.certified_before told.block less))) (λ le. ⊎_elim (λ less. absurd (excluded found other (is.certified_before found.block less))) (λ more. here (omega (arith, le, more))) (cases_lt found.block told.block)) (cases_lt told.block found.block)
        where
          here : told.block ≡ found.block → told ≡ found
          here e =
              let same = one plans (start found.block) (wish found.block) told.fault found.fault (subst (λ (b : ℕ). IsCertificationFault plans (start b) (wish b) told.fault) e is.fault) other.fault in
              λ i. record { block = e i; fault = same i }

      pub that_told : (told : SegmentFault) → IsSegmentFaultOrNoMemory told → (found : SegmentFault) → IsSegmentFault what width count plans found → (told ≡ found) ⊎ (told.fault ≡ NoMemory)
      that_told told (inl e) found is = inr e
      that_told told (inr here) found is = inl (one_found told found here is)
