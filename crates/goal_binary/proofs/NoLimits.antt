-- A file whose plans are no schedule is still within the limits of counts and values.
use Rattle.std.proofs.Common.{◌≡◌, ◌≢◌, ℕ, List, Result, Ok, Err, refl, subst}
use Rattle.std.specs.Prelude.{IfErr}
use Rattle.goal_graph.specs.Schedule.{Plan}
use Rattle.goal_graph.specs.Limits.{AreWithinLimits}
use Rattle.goal_graph.proofs.ForCallers.{no_limit_rule}
use Rattle.goal_binary.specs.declared.fault.FileFault.{FileFault}
use Rattle.goal_binary.specs.declared.fault.FileFault.TheVariants as fault
use Rattle.goal_binary.specs.Fitting.{HaveFile}
use Rattle.goal_binary.specs.Meaning.{meaning, IsFaultOf, IsFileFault}
use Rattle.goal_binary.specs.Returned.{IsLimitFault}
use Rattle.goal_binary.specs.Laws.{IsTrueOf}
use Rattle.goal_binary.proofs.Steps.{IsBytes}
use Rattle.goal_binary.proofs.Faults.{within_limits, faults_are_true}

keep_limits : (plans : List Plan) → HaveFile plans → AreWithinLimits plans
keep_limits plans fits = record { counts = fits.counts; values = λ k d below n e within. ((fits.ranks k d below).ops n e within).value }

module _ (bytes : List ℕ) (fits : IsBytes bytes) where
  file_fault_is_no_limit_fault : (f : FileFault) → IsFileFault bytes f → IsLimitFault f → ⊥
  file_fault_is_no_limit_fault f told limit = go (meaning bytes) refl f told limit
    where
      of_bytes : (f : FileFault) → IsTrueOf bytes f → IsLimitFault f → ⊥
      of_bytes (fault.Plan rule) true_so limit = true_so
      of_bytes (fault.Short at) true_so limit = limit
      of_bytes fault.Magic true_so limit = limit
      of_bytes (fault.Version found) true_so limit = limit
      of_bytes (fault.Field at) true_so limit = limit
      of_bytes (fault.Extra at) true_so limit = limit
      of_bytes fault.NoMemory true_so limit = limit

      go : (r : Result (List Plan) FileFault) → meaning bytes ≡ r → (f : FileFault) → IsFaultOf r f → IsLimitFault f → ⊥
      go (Err first) means f same limit = of_bytes f (subst (IsTrueOf bytes) same (faults_are_true bytes fits first means)) limit
      go (Ok plans) means (fault.Plan rule) told limit = no_limit_rule plans (keep_limits plans (within_limits bytes fits plans means)) rule told limit
      go (Ok plans) means (fault.Short at) told limit = told
      go (Ok plans) means fault.Magic told limit = told
      go (Ok plans) means (fault.Version found) told limit = told
      go (Ok plans) means (fault.Field at) told limit = told
      go (Ok plans) means (fault.Extra at) told limit = told
      go (Ok plans) means fault.NoMemory told limit = told

  pub reading_gives_no_limit_fault : (r : Result (List Plan) FileFault) → IfErr r (λ f. f ≢ fault.NoMemory → IsFileFault bytes f) → IfErr r (λ f. IsLimitFault f → ⊥)
  reading_gives_no_limit_fault (Ok plans) told = tt
  reading_gives_no_limit_fault (Err f) told = λ limit. file_fault_is_no_limit_fault f (told (λ same. subst IsLimitFault same limit)) limit
