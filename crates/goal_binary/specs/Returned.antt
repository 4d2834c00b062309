-- The results of the functions that read a compiled file.
use Rattle.std.specs.Prelude.{◌≡◌, ◌≢◌, Result, Ok, Err}
use Rattle.goal_graph.specs.declared.fault.PlanFault.{PlanFault}
use Rattle.goal_graph.specs.Limits.{IsLimitRule}
use Rattle.goal_binary.specs.declared.fault.FileFault.{FileFault}
use Rattle.goal_graph.specs.declared.fault.PlanFault.TheVariants as plan
use Rattle.goal_binary.specs.declared.fault.FileFault.TheVariants as fault

-- the fault is a count or a value over its limit
abbrev pub IsLimitFault : FileFault → Type 0
IsLimitFault (fault.Plan rule) = IsLimitRule rule
IsLimitFault _ = ⊥

-- the fault of plans, as a fault of the file
abbrev pub fault_of_plans : PlanFault → FileFault
fault_of_plans plan.NoMemory = fault.NoMemory
fault_of_plans f = fault.Plan f

-- the result of a function, seen by `view`, is what reading gives, unless memory ran out
abbrev pub Fails : {Y : Type 0} → FileFault → Result Y FileFault → Type 0
Fails found read = found ≢ fault.NoMemory → read ≡ Err found

abbrev pub Gives : {X Y : Type 0} → (X → Y) → Result X FileFault → Result Y FileFault → Type 0
Gives view (Ok x) read = read ≡ Ok (view x)
Gives view (Err found) read = Fails found read
