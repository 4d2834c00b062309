-- The answers of certification of all segments at once.
use Rattle.std.proofs.Common.{ℕ, ◌+◌, ◌*◌, ◌<◌, ◌≤◌, ◌≡◌, ◌⊎◌, inl, inr, ⊎_elim, List, length, refl, sym, ap, subst, arith}
use Rattle.std.proofs.lemmas.Bool.{cases_lt, cases_eq}
use Rattle.goal_graph.specs.Schedule.{Plan}
use Rattle.goal_graph.specs.Fault.{IsAccepted}
use Rattle.goal_blocks.specs.declared.cert_fault.CertFault.{CertFault}
use Rattle.goal_blocks.specs.declared.cert_fault.CertFault.TheVariants.{Wrong}
use Rattle.goal_limits.specs.declared.collective.Collective.{Collective}
use Rattle.goal_blocks.specs.Laws.{FaultExcludesCertified, FaultlessIsCertified, OneFirstFault}
use Rattle.goal_blocks.specs.Segments.{initial_in, IsCertifiedIn}
use Rattle.goal_blocks.specs.Joined.{keeps_out, SegmentsAtOnce}
use Rattle.goal_certify.specs.declared.at_once.AtOnceFault.{AtOnceFault}
use Rattle.goal_certify.specs.declared.at_once.AtOnceFault.TheVariants.{Narrow, Segment, Stray}
use Rattle.goal_certify.specs.AtOnce.{IsCertifiedApart, IsFaultApart, AreCertifiedAtOnce, AreRightAtOnce, IsStray, IsAtOnceFault, IsOutOfMemory}
use Rattle.goal_certify.proofs.SegmentAnswers.{excluded, one_found}

-- segments that are certified in their blocks and keep out of the other blocks are right at once
pub right_at_once : SegmentsAtOnce → (what : Collective) (width count : ℕ) (plans : List Plan) → ((block : ℕ) → block < count → IsCertifiedIn what width block plans) → ((block : ℕ) → block < count → IsCertifiedApart what width count block plans) → AreRightAtOnce what width count plans
right_at_once law what width count plans each apart eager h done block low =
    let is = law what width count plans eager h each apart done block low in
    record { ends = is.0; wanted_held = is.1; own = is.2 }

module _ (what : Collective) (width count : ℕ) (plans : List Plan) where
  -- the segments up to the next one keep out of the blocks of others
  pub more_apart : (block : ℕ) → ((k : ℕ) → k < block → IsCertifiedApart what width count k plans) → IsCertifiedApart what width count block plans → (k : ℕ) → k < block + 1 → IsCertifiedApart what width count k plans
  more_apart block before this k low =
      ⊎_elim (λ e. subst (λ (b : ℕ). IsCertifiedApart what width count b plans) (sym e) this) (λ ne. before k (omega (arith, low, ne))) (cases_eq k block)

  abbrev pub IsAtOnceFaultOrNoMemory : AtOnceFault → Type 0
  IsAtOnceFaultOrNoMemory told = IsOutOfMemory told ⊎ IsAtOnceFault what width count plans told

  module _ (excludes : FaultExcludesCertified) (faultless : FaultlessIsCertified) (one : OneFirstFault) (accepted : IsAccepted plans) where
    not_apart : (from : ℕ) (fault : CertFault) → IsFaultApart what width count from plans fault → IsCertifiedApart what width count from plans → ⊥
    not_apart from fault is good =
        excludes plans (initial_in what width from (length plans)) (keeps_out width count from) fault is.has good

    -- where all is certified at once there is no fault
    pub none_found : AreCertifiedAtOnce what width count plans → (found : AtOnceFault) → IsAtOnceFault what width count plans found → ⊥
    none_found all Narrow is = omega (arith, is, all.wide)
    none_found all (Segment found) is =
        excluded what width plans excludes faultless one accepted count found is.1 (all.each found.block is.1.block)
    none_found all (Stray from rank slot) is =
        not_apart from (Wrong rank slot) is.1.least (all.apart from is.1.segment)

    -- a stray slot by its fault
    abbrev stray_of : ℕ → CertFault → AtOnceFault
    stray_of from (Wrong rank slot) = Stray from rank slot
    stray_of from _ = Narrow

    one_stray : (from rank slot from' rank' slot' : ℕ) → IsStray what width count plans from rank slot → IsStray what width count plans from' rank' slot' → ◌≡◌ {A = AtOnceFault} (Stray from rank slot) (Stray from' rank' slot')
    one_stray from rank slot from' rank' slot' is other =
        ⊎_elim (λ less. absurd (not_apart from (Wrong rank slot) is.least (other.apart_before from less))) (λ le. ⊎_elim (λ less. absurd (not_apart from' (Wrong rank' slot') other.least (is.apart_before from' less))) (λ more. here (omega (arith, le, more))) (cases_lt from' from)) (cases_lt from from')
      where
        here : from ≡ from' → ◌≡◌ {A = AtOnceFault} (Stray from rank slot) (Stray from' rank' slot')
        here e =
            let same = one plans (initial_in what width from' (length plans)) (keeps_out width count from') (Wrong rank slot) (Wrong rank' slot') (subst (λ (b : ℕ). IsFaultApart what width count b plans (Wrong rank slot)) e is.least) other.least in
            λ i. stray_of (e i) (same i)

    -- there is at most one
    one_fault : (told found : AtOnceFault) → IsAtOnceFault what width count plans told → IsAtOnceFault what width count plans found → told ≡ found
    one_fault Narrow Narrow is other = refl
    one_fault Narrow (Segment f) is other = absurd (omega (arith, is, other.0))
    one_fault Narrow (Stray from rank slot) is other = absurd (omega (arith, is, other.0))
    one_fault (Segment s) Narrow is other = absurd (omega (arith, is.0, other))
    one_fault (Segment s) (Segment f) is other =
        ap Segment (one_found what width plans excludes faultless one accepted count s f is.1 other.1)
    one_fault (Segment s) (Stray from rank slot) is other =
        absurd (excluded what width plans excludes faultless one accepted count s is.1 (other.1.each s.block is.1.block))
    one_fault (Stray from rank slot) Narrow is other = absurd (omega (arith, is.0, other))
    one_fault (Stray from rank slot) (Segment f) is other =
        absurd (excluded what width plans excludes faultless one accepted count f other.1 (is.1.each f.block other.1.block))
    one_fault (Stray from rank slot) (Stray from' rank' slot') is other =
        one_stray from rank slot from' rank' slot' is.1 other.1

    pub that_told : (told : AtOnceFault) → IsAtOnceFaultOrNoMemory told → (found : AtOnceFault) → IsAtOnceFault what width count plans found → (told ≡ found) ⊎ IsOutOfMemory told
    that_told told (inl e) found is = inr e
    that_told told (inr here) found is = inl (one_fault told found here is)
