-- A compiled file as an input.
use Rattle.std.proofs.Common.{◌≡◌, ◌≤◌, ℕ, true, List, length, refl, Result, IfOk, Vec, Global}
use Rattle.std.specs.declared.result.Result.TheVariants.{Ok, Err}
use Rattle.goal_limits.specs.declared.memory.NoMemory.{NoMemory}
use Rattle.goal_limits.specs.declared.limits.TheConstants.{MAX_INPUT}
use Rattle.goal_graph.specs.Schedule.{Plan}
use Rattle.goal_graph.specs.Fault.{IsAccepted}
use Rattle.goal_binary.specs.File.{file, written, header}
use Rattle.goal_binary.specs.Meaning.{meaning}
use Rattle.goal_input.specs.Input.{is_compiled, IsReadAs}

-- a file begins with the first byte of the magic number
begins_compiled : (plans : List Plan) → is_compiled (file plans) ≡ true
unfolding written header
begins_compiled plans = refl

-- the file of a schedule means the schedule
pub file_reads_as_plans : (plans : List Plan) → IsAccepted plans → length (file plans) ≤ MAX_INPUT → meaning (file plans) ≡ Ok plans
    → IsReadAs (file plans) plans
file_reads_as_plans plans accepted short means = record {
  short = short;
  says = rw (begins_compiled plans) means;
  accepted = accepted;
}

-- so do bytes equal to that file
pub file_bytes_read_as_plans : (r : Result (Vec ℕ Global) NoMemory) (plans : List Plan) → IfOk r (λ bytes. bytes.items ≡ file plans)
    → IsReadAs (file plans) plans → IfOk r (λ bytes. IsReadAs bytes.items plans)
file_bytes_read_as_plans (Ok bytes) plans is again = rw is again
file_bytes_read_as_plans (Err e) plans is again = tt
