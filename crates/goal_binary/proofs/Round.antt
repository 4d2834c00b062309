-- A file that is decoded is the file of the schedule, and the file of a schedule is decoded as the schedule.
use Rattle.std.proofs.Common.{◌≡◌, ◌≢◌, ◌⊎◌, ℕ, List, Result, Ok, Err, refl, sym, ap, subst, ◌∙◌, inl, inr}
use Rattle.std.specs.Prelude.{IfOk, IfErr, IsOkUnless}
use Rattle.goal_graph.specs.Schedule.{Plan}
use Rattle.goal_graph.specs.Fault.{IsAccepted}
use Rattle.goal_graph.specs.Widths.{AreInWidth}
use Rattle.goal_graph.proofs.ForCallers.{IsAccepted-no_fault}
use Rattle.goal_binary.specs.declared.fault.FileFault.{FileFault}
use Rattle.goal_binary.specs.declared.fault.FileFault.TheVariants as fault
use Rattle.goal_binary.specs.declared.layout.Layout.{Layout}
use Rattle.goal_binary.specs.declared.layout.Layout.TheVariants.{Fixed, Packed}
use Rattle.goal_binary.specs.File.{written, file, old}
use Rattle.goal_binary.specs.Meaning.{meaning, IsFaultOf, IsFileFault}
use Rattle.goal_binary.proofs.Steps.{IsBytes, ok_injective}
use Rattle.goal_binary.proofs.RanksTaken.{meaningful_bytes_are_written}
use Rattle.goal_binary.proofs.RanksAgain.{meaning_of_written_schedule}

written_is_new_or_old_file : (bytes : List ℕ) (plans : List Plan) (l : Layout) → bytes ≡ written l plans → (bytes ≡ file plans) ⊎ (bytes ≡ old plans)
written_is_new_or_old_file bytes plans Packed is = inl is
written_is_new_or_old_file bytes plans Fixed is = inr is

pub meaningful_bytes_are_new_or_old : (bytes : List ℕ) → IsBytes bytes → (plans : List Plan) → meaning bytes ≡ Ok plans → (bytes ≡ file plans) ⊎ (bytes ≡ old plans)
meaningful_bytes_are_new_or_old bytes fits plans said = let w = meaningful_bytes_are_written bytes fits plans said in written_is_new_or_old_file bytes plans w.layout w.is

pub read_bytes_are_new_or_old : (bytes : List ℕ) (r : Result (List Plan) FileFault) → IsBytes bytes → IfOk r (λ plans. meaning bytes ≡ Ok plans) → IfOk r (λ plans. (bytes ≡ file plans) ⊎ (bytes ≡ old plans))
read_bytes_are_new_or_old bytes (Ok plans) fits said = meaningful_bytes_are_new_or_old bytes fits plans said
read_bytes_are_new_or_old bytes (Err f) fits said = tt

-- for accepted plans the only error is out of memory
accepted_plans_fail_only_by_memory : (plans : List Plan) (f : FileFault) → IsAccepted plans → (f ≢ fault.NoMemory → IsFaultOf (Ok plans) f) → f ≡ fault.NoMemory
accepted_plans_fail_only_by_memory plans fault.NoMemory accepted told = refl
accepted_plans_fail_only_by_memory plans (fault.Plan f) accepted told = absurd (IsAccepted-no_fault plans f accepted (told (λ e. absurd cc)))
accepted_plans_fail_only_by_memory plans fault.Magic accepted told = absurd (told (λ e. absurd cc))
accepted_plans_fail_only_by_memory plans (fault.Short at) accepted told = absurd (told (λ e. absurd cc))
accepted_plans_fail_only_by_memory plans (fault.Version found) accepted told = absurd (told (λ e. absurd cc))
accepted_plans_fail_only_by_memory plans (fault.Field at) accepted told = absurd (told (λ e. absurd cc))
accepted_plans_fail_only_by_memory plans (fault.Extra at) accepted told = absurd (told (λ e. absurd cc))

pub file_reads_back_as_its_plans : (bytes : List ℕ) (r : Result (List Plan) FileFault) → IfOk r (λ plans. meaning bytes ≡ Ok plans) → IfErr r (λ f. f ≢ fault.NoMemory → IsFileFault bytes f)
    → (plans : List Plan) → IsAccepted plans → AreInWidth plans → (bytes ≡ file plans) ⊎ (bytes ≡ old plans) → IfOk r (λ found. found ≡ plans) × IsOkUnless r fault.NoMemory
file_reads_back_as_its_plans bytes r said told plans accepted widths one = go r said told (means one)
  where
    go : (r : Result (List Plan) FileFault) → IfOk r (λ plans. meaning bytes ≡ Ok plans) → IfErr r (λ f. f ≢ fault.NoMemory → IsFileFault bytes f) → meaning bytes ≡ Ok plans → IfOk r (λ found. found ≡ plans) × IsOkUnless r fault.NoMemory
    go (Ok found) said told means = (ok_injective found plans (sym said ∙ means), tt)
    go (Err f) said told means = (tt, accepted_plans_fail_only_by_memory plans f accepted (λ other. subst (λ m. IsFaultOf m f) means (told other)))

    means : (bytes ≡ file plans) ⊎ (bytes ≡ old plans) → meaning bytes ≡ Ok plans
    means (inl same) = ap meaning same ∙ meaning_of_written_schedule Packed plans accepted widths
    means (inr same) = ap meaning same ∙ meaning_of_written_schedule Fixed plans accepted widths
