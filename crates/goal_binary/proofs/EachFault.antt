-- Each fault of bytes is returned, unless memory runs out.
use Rattle.std.proofs.Common.{◌≡◌, ◌≢◌, ◌⊎◌, inl, inr, List, ℕ, Result, Ok, Err, IfOk, IfErr, IsErrOf, sym, ap, subst, ◌∙◌, refl}
use Rattle.goal_graph.specs.Schedule.{Plan}
use Rattle.goal_graph.specs.Fault.{IsAccepted}
use Rattle.goal_graph.proofs.ForCallers.{IsAccepted-no_fault, IsFault-unique}
use Rattle.goal_binary.specs.declared.fault.FileFault.{FileFault}
use Rattle.goal_binary.specs.declared.fault.FileFault.TheVariants as fault
use Rattle.goal_binary.specs.Meaning.{meaning, IsFaultOf, IsFileFault}

-- bytes have at most one fault, and none if they mean a schedule
one_fault : (r : Result (List Plan) FileFault) (f g : FileFault) → IsFaultOf r f → IsFaultOf r g → f ≡ g
one_fault (Err first) f g is other = sym is ∙ other
one_fault (Ok plans) (fault.Plan f) (fault.Plan g) is other = ap fault.Plan (IsFault-unique plans f g is other)
one_fault (Ok plans) (fault.Plan f) _ is other = absurd other
one_fault (Ok plans) _ g is other = absurd is

accepted_plans_have_no_file_fault : (plans : List Plan) (f : FileFault) → IsAccepted plans → IsFaultOf (Ok plans) f → ⊥
accepted_plans_have_no_file_fault plans (fault.Plan f) accepted is = IsAccepted-no_fault plans f accepted is
accepted_plans_have_no_file_fault plans _ accepted is = is

no_memory_or_other_fault : (f : FileFault) → (f ≡ fault.NoMemory) ⊎ (f ≢ fault.NoMemory)
no_memory_or_other_fault fault.NoMemory = inl refl
no_memory_or_other_fault (fault.Short at) = inr (λ e. cc)
no_memory_or_other_fault fault.Magic = inr (λ e. cc)
no_memory_or_other_fault (fault.Version found) = inr (λ e. cc)
no_memory_or_other_fault (fault.Field at) = inr (λ e. cc)
no_memory_or_other_fault (fault.Extra at) = inr (λ e. cc)
no_memory_or_other_fault (fault.Plan rule) = inr (λ e. cc)

pub each_file_fault_is_reported : (bytes : List ℕ) (r : Result (List Plan) FileFault) → IfOk r (λ plans. meaning bytes ≡ Ok plans) → IfOk r (λ plans. IsAccepted plans)
    → IfErr r (λ f. f ≢ fault.NoMemory → IsFileFault bytes f) → (f : FileFault) → IsFileFault bytes f → IsErrOf r f ⊎ IsErrOf r fault.NoMemory
each_file_fault_is_reported bytes (Ok plans) means accepted told f is = absurd (accepted_plans_have_no_file_fault plans f accepted (subst (λ (m : Result (List Plan) FileFault). IsFaultOf m f) means is))
each_file_fault_is_reported bytes (Err g) means accepted told f is = either (no_memory_or_other_fault g)
  where
    either : (g ≡ fault.NoMemory) ⊎ (g ≢ fault.NoMemory) → (IsErrOf {T = List Plan} (Err g) f) ⊎ (IsErrOf {T = List Plan} (Err g) fault.NoMemory)
    either (inl e) = inr (ap Err e)
    either (inr other) = inl (ap Err (one_fault (meaning bytes) g f (told other) is))
