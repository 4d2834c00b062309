-- An input has at most one fault, and none if it means a schedule.
use Rattle.std.proofs.Common.{◌≡◌, ◌≢◌, ℕ, List, refl, ap, arith}
use Rattle.goal_graph.specs.Schedule.{Plan}
use Rattle.goal_input.specs.declared.input_fault.InputFault.{InputFault}
use Rattle.goal_input.specs.declared.input_fault.InputFault.TheVariants as input_fault
use Rattle.goal_input.specs.Input.{IsReadAs}
use Rattle.goal_input.specs.InputFaults.{IsFaultIn}
use Rattle.goal_input.proofs.InputLemmas.{same_text_fault, same_file_fault, not_both, no_text_fault, no_file_fault, not_too_long}

pub same_fault : (input : List ℕ) (f g : InputFault) → f ≢ input_fault.NoMemory → g ≢ input_fault.NoMemory → IsFaultIn input f → IsFaultIn input g → f ≡ g
same_fault input input_fault.Fault g k l a b = absurd a
same_fault input input_fault.NoMemory g k l a b = absurd (k refl)
same_fault input f input_fault.Fault k l a b = absurd b
same_fault input f input_fault.NoMemory k l a b = absurd (l refl)
same_fault input input_fault.TooLong input_fault.TooLong k l a b = refl
same_fault input input_fault.TooLong (input_fault.Text g) k l a b = let short = b.short in absurd (omega arith)
same_fault input input_fault.TooLong (input_fault.File g) k l a b = let short = b.short in absurd (omega arith)
same_fault input (input_fault.Text f) input_fault.TooLong k l a b = let short = a.short in absurd (omega arith)
same_fault input (input_fault.Text f) (input_fault.Text g) k l a b = ap input_fault.Text (same_text_fault input f g a b)
same_fault input (input_fault.Text f) (input_fault.File g) k l a b = absurd (not_both input f g a b)
same_fault input (input_fault.File f) input_fault.TooLong k l a b = let short = a.short in absurd (omega arith)
same_fault input (input_fault.File f) (input_fault.Text g) k l a b = absurd (not_both input g f b a)
same_fault input (input_fault.File f) (input_fault.File g) k l a b = ap input_fault.File (same_file_fault input f g a b)

pub no_fault : (input : List ℕ) (p : List Plan) (f : InputFault) → f ≢ input_fault.NoMemory → IsReadAs input p → IsFaultIn input f → ⊥
no_fault input p input_fault.Fault k read a = a
no_fault input p input_fault.TooLong k read a = not_too_long input p a read
no_fault input p (input_fault.Text f) k read a = no_text_fault input p f a read
no_fault input p (input_fault.File f) k read a = no_file_fault input p f a read
no_fault input p input_fault.NoMemory k read a = k refl
