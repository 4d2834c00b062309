-- The verdict on a schedule: it is certified for a collective, or this is its first fault.
use Rattle.std.specs.Prelude.{ℕ, ◌≡◌, ◌⊎◌, List, [], ◌++◌, length, codes, decimal}
use Rattle.goal_base.specs.Text.{line_feed, pair_text}
use Rattle.goal_graph.specs.declared.action.OpId.{OpId}
use Rattle.goal_graph.specs.Schedule.{Plan}
use Rattle.goal_limits.specs.declared.collective.Collective.{Collective}
use Rattle.goal_limits.specs.declared.collective.Collective.TheVariants.{Bcast, Barrier, Allgather, Allreduce, Alltoall, Reduce, Gather, Scatter, ReduceScatter, Scan}
use Rattle.goal_blocks.specs.declared.cert_fault.CertFault.{CertFault}
use Rattle.goal_blocks.specs.declared.cert_fault.CertFault.TheVariants as fault
use Rattle.goal_blocks.specs.Certified.{IsCertifiedFor}
use Rattle.goal_certify.specs.Certifying.{IsFaultFor}
use Rattle.goal_cli.specs.declared.answer.Ending.{Ending}
use Rattle.goal_cli.specs.declared.answer.Ending.TheVariants as ending

-- the kind of a collective, as on a command line
abbrev pub kind_text : Collective → List ℕ
kind_text (Bcast root) = codes "bcast"
kind_text Barrier = codes "barrier"
kind_text Allgather = codes "allgather"
kind_text Allreduce = codes "allreduce"
kind_text Alltoall = codes "alltoall"
kind_text (Reduce root) = codes "reduce"
kind_text (Gather root) = codes "gather"
kind_text (Scatter root) = codes "scatter"
kind_text ReduceScatter = codes "reduce_scatter"
kind_text Scan = codes "scan"

-- an operation; two of them; a slot
abbrev pub op_text : OpId → List ℕ
op_text x = pair_text x.rank x.op

abbrev pub ops_text : OpId → OpId → List ℕ
ops_text x y = op_text x ++ codes " and " ++ op_text y

abbrev pub slot_text : ℕ → List ℕ
slot_text slot = codes " slot " ++ decimal slot

-- the words of a fault; NoMemory has none
abbrev pub fault_text : CertFault → List ℕ
fault_text (fault.TooLarge rank) = codes "too large " ++ decimal rank
fault_text (fault.Wildcard x) = codes "wildcard " ++ op_text x
fault_text (fault.DoubleChannel x y) = codes "double channel " ++ ops_text x y
fault_text (fault.Unpaired x) = codes "unpaired " ++ op_text x
fault_text (fault.Lengths x y) = codes "lengths " ++ ops_text x y
fault_text (fault.Race rank first second slot) =
    codes "race " ++ (ops_text (record { rank = rank; op = first }) (record { rank = rank; op = second }) ++ slot_text slot)
fault_text (fault.Stalls x) = codes "stalls " ++ op_text x
fault_text (fault.Weight total) = codes "weight " ++ decimal total
fault_text (fault.Wrong rank slot) = codes "wrong " ++ (decimal rank ++ slot_text slot)
fault_text fault.NoMemory = []

-- the two verdicts, as text
abbrev pub certified_text : Collective → ℕ → List ℕ
certified_text what ranks = codes "certified " ++ kind_text what ++ codes " ranks " ++ decimal ranks ++ line_feed

abbrev pub faulty_text : CertFault → List ℕ
faulty_text fault = codes "not certified: " ++ fault_text fault ++ line_feed

-- the verdict on a schedule, and the ending
abbrev pub IsVerdictOn : Collective → List Plan → List ℕ → Ending → Type 0
IsVerdictOn what sched output e =
    (IsCertifiedFor what sched × (output ≡ certified_text what (length sched)) × (e ≡ ending.Done))
    ⊎ ((fault : CertFault) × IsFaultFor what sched fault × (output ≡ faulty_text fault) × (e ≡ ending.NotCertified))
