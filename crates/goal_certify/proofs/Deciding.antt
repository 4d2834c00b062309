-- The answers of all stages make that of certification.
use Rattle.std.proofs.Common.{ℕ, ◌≤◌, ◌≡◌, ◌⊎◌, inl, inr, Bool, List, Result, Ok, Err, OnOk, IfErr, IsOkUnless, IsErrOf, ap, arith}
use Rattle.goal_graph.specs.Schedule.{Plan}
use Rattle.goal_graph.specs.Fault.{IsAccepted}
use Rattle.goal_blocks.specs.declared.cert_fault.CertFault.{CertFault}
use Rattle.goal_blocks.specs.declared.cert_fault.CertFault.TheVariants.{TooLarge, Wildcard, DoubleChannel, Unpaired, Lengths, Race, Stalls, Weight, Wrong, NoMemory}
use Rattle.goal_blocks.specs.Values.{Value, Store}
use Rattle.goal_blocks.specs.Certification.{IsCertified}
use Rattle.goal_blocks.specs.Laws.{CertifiedIsRightEverywhere, FaultExcludesCertified, FaultlessIsCertified, OneFirstFault}
use Rattle.goal_blocks.specs.Right.{IsRightEverywhere}
use Rattle.goal_blocks.specs.Faults.{HasFault, IsCertificationFault}
use Rattle.goal_certify.specs.Stages.{HasNone, IsFirstOf, IsStopped}
use Rattle.goal_certify.proofs.StageLemmas.{none_joined, first_fault_with_earlier_start, first_fault_with_later_end}

module _ (plans : List Plan) (first : Store) (wanted : ℕ → ℕ → Value → Bool) where
  -- the answer of a stage whose kinds of faults may speak of values
  abbrev pub IsFaultFrom : ℕ → ℕ → CertFault → Type 0
  IsFaultFrom from end fault = (fault ≡ NoMemory) ⊎ IsFirstOf plans first wanted from end fault

  pub fault_from_if_stopped : (from end : ℕ) (fault : CertFault) → IsStopped plans from end fault → IsFaultFrom from end fault
  fault_from_if_stopped from end fault (inl e) = inl e
  fault_from_if_stopped from end fault (inr is) = inr (is first wanted)

  pub fault_from_with_earlier_start : (a b c : ℕ) (fault : CertFault) → a ≤ b → HasNone plans first wanted a b → IsFaultFrom b c fault → IsFaultFrom a c fault
  fault_from_with_earlier_start a b c fault le none (inl e) = inl e
  fault_from_with_earlier_start a b c fault le none (inr is) = inr (first_fault_with_earlier_start plans first wanted a b c fault le none is)

  pub fault_from_with_later_end : (a b c : ℕ) (fault : CertFault) → b ≤ c → IsFaultFrom a b fault → IsFaultFrom a c fault
  fault_from_with_later_end a b c fault le (inl e) = inl e
  fault_from_with_later_end a b c fault le (inr is) = inr (first_fault_with_later_end plans first wanted a b c fault le is)

  pub none_on_ok_with_earlier_start : {T : Type 0} (r : Result T CertFault) (a b c : ℕ) → HasNone plans first wanted a b → OnOk r (HasNone plans first wanted b c) → OnOk r (HasNone plans first wanted a c)
  none_on_ok_with_earlier_start (Ok x) a b c lower upper = none_joined plans first wanted a b c lower upper
  none_on_ok_with_earlier_start (Err fault) a b c lower upper = tt

  pub fault_on_err_with_earlier_start : {T : Type 0} (r : Result T CertFault) (a b c : ℕ) → a ≤ b → HasNone plans first wanted a b → IfErr r (IsFaultFrom b c) → IfErr r (IsFaultFrom a c)
  fault_on_err_with_earlier_start (Ok x) a b c le none told = tt
  fault_on_err_with_earlier_start (Err fault) a b c le none told = fault_from_with_earlier_start a b c fault le none told

  -- no fault at all
  no_fault : HasNone plans first wanted 0 9 → (fault : CertFault) → HasFault plans first wanted fault → ⊥
  no_fault none (TooLarge rank) has = none (TooLarge rank) (omega arith) (omega arith) has
  no_fault none (Wildcard op) has = none (Wildcard op) (omega arith) (omega arith) has
  no_fault none (DoubleChannel y x) has = none (DoubleChannel y x) (omega arith) (omega arith) has
  no_fault none (Unpaired op) has = none (Unpaired op) (omega arith) (omega arith) has
  no_fault none (Lengths m x) has = none (Lengths m x) (omega arith) (omega arith) has
  no_fault none (Race rank lower higher slot) has = none (Race rank lower higher slot) (omega arith) (omega arith) has
  no_fault none (Stalls op) has = none (Stalls op) (omega arith) (omega arith) has
  no_fault none (Weight total) has = none (Weight total) (omega arith) (omega arith) has
  no_fault none (Wrong rank slot) has = none (Wrong rank slot) (omega arith) (omega arith) has
  no_fault none NoMemory has = has

  module _ (faultless : FaultlessIsCertified) (excludes : FaultExcludesCertified) (one : OneFirstFault) (right : CertifiedIsRightEverywhere) (accepted : IsAccepted plans) where
    pub certified : HasNone plans first wanted 0 9 → IsCertified plans first wanted
    certified none = faultless plans first wanted accepted (λ fault is. no_fault none fault is.has)

    pub is_fault : (fault : CertFault) → IsFirstOf plans first wanted 0 9 fault → IsCertificationFault plans first wanted fault
    is_fault fault is = record { has = is.has; none_before = λ other less has. is.none_before other (omega arith) less has }

    pub certified_answer : {T : Type 0} (r : Result T CertFault) → OnOk r (HasNone plans first wanted 0 9) → OnOk r (IsCertified plans first wanted)
    certified_answer (Ok x) none = certified none
    certified_answer (Err fault) none = tt

    pub right_answer : {T : Type 0} (r : Result T CertFault) → OnOk r (HasNone plans first wanted 0 9) → OnOk r (IsRightEverywhere plans first wanted)
    right_answer (Ok x) none = right plans first wanted (certified none)
    right_answer (Err fault) none = tt

    pub fault_answer : {T : Type 0} (r : Result T CertFault) → IfErr r (IsFaultFrom 0 9) → IfErr r (λ fault. (fault ≡ NoMemory) ⊎ IsCertificationFault plans first wanted fault)
    fault_answer (Ok x) told = tt
    fault_answer (Err fault) (inl e) = inl e
    fault_answer (Err fault) (inr is) = inr (is_fault fault is)

    pub accepts_answer : {T : Type 0} (r : Result T CertFault) → IfErr r (IsFaultFrom 0 9) → IsCertified plans first wanted → IsOkUnless r NoMemory
    accepts_answer (Ok x) told is = tt
    accepts_answer (Err fault) (inl e) is = e
    accepts_answer (Err fault) (inr is) good = absurd (excludes plans first wanted fault is.has good)

    pub faults_answer : {T : Type 0} (r : Result T CertFault) → OnOk r (HasNone plans first wanted 0 9) → IfErr r (IsFaultFrom 0 9) → (fault : CertFault) → IsCertificationFault plans first wanted fault → IsErrOf r fault ⊎ IsErrOf r NoMemory
    faults_answer (Ok x) none told fault is = absurd (no_fault none fault is.has)
    faults_answer (Err other) none (inl e) fault is = inr (ap Err e)
    faults_answer (Err other) none (inr found) fault is =
        inl (ap Err (one plans first wanted other fault (is_fault other found) is))
