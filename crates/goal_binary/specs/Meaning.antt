-- The meaning of bytes: the plans of all ranks, or the first fault.
use Rattle.std.specs.Prelude.{◌≡◌, ℕ, List, length, Result, Ok, Err, nat_lt, if◌then◌else◌}
use Rattle.goal_graph.specs.Schedule.{Plan}
use Rattle.goal_graph.specs.Fault.{IsFault}
use Rattle.goal_binary.specs.declared.fault.FileFault.{FileFault}
use Rattle.goal_binary.specs.declared.fault.FileFault.TheVariants as fault
use Rattle.goal_binary.specs.Fields.{Read, ◌>>=◌, opening_at}
use Rattle.goal_binary.specs.Reading.{records_at}

-- the magic number and the version, followed by the records in the layout of that version
unfoldable pub plans_at : List ℕ → Read (List Plan)
plans_at bytes = do
  layout ← opening_at bytes
  records_at bytes layout.0 layout.1

-- the same, and nothing follows
unfoldable pub meaning : List ℕ → Result (List Plan) FileFault
meaning bytes = do
  plans ← plans_at bytes
  if nat_lt plans.1 (length bytes) then Err (fault.Extra plans.1) else Ok plans.0

-- the fault is that of the bytes: that of a field, or if there is none, one of the plans
abbrev pub IsFaultOfPlans : List Plan → FileFault → Type 0
IsFaultOfPlans plans (fault.Plan f) = IsFault plans f
IsFaultOfPlans plans _ = ⊥

abbrev pub IsFaultOf : Result (List Plan) FileFault → FileFault → Type 0
IsFaultOf (Err first) found = first ≡ found
IsFaultOf (Ok plans) found = IsFaultOfPlans plans found

abbrev pub IsFileFault : List ℕ → FileFault → Type 0
IsFileFault bytes found = IsFaultOf (meaning bytes) found
