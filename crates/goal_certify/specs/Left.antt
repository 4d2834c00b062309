-- What the walk leaves in the slots from the start of a segment.
use Rattle.std.specs.Prelude.{ℕ, ◌≡◌, ◌⊎◌, Bool, List, length}
use Rattle.goal_graph.specs.Schedule.{Plan}
use Rattle.goal_graph.specs.Action.{Act}
use Rattle.goal_blocks.specs.declared.cert_fault.CertFault.{CertFault}
use Rattle.goal_blocks.specs.declared.cert_fault.CertFault.TheVariants.{NoMemory}
use Rattle.goal_limits.specs.declared.collective.Collective.{Collective}
use Rattle.goal_blocks.specs.declared.segment.Segment.{Segment}
use Rattle.goal_blocks.specs.Walk.{no_send, IsWalk}
use Rattle.goal_blocks.specs.Values.{Value, Store, value}
use Rattle.goal_blocks.specs.Certification.{IsLight}
use Rattle.goal_blocks.specs.Segments.{initial_in}
use Rattle.goal_values.specs.Kept.{Kept, values}
use Rattle.goal_certify.specs.Stages.{IsFirstOf}

-- the walk leaves these values, and too many contributions were never held
pub record IsLeft (plans : List Plan) (first : Store) (s : Kept) : Type 0 where
  pub walk : List Act
  pub is_walk : IsWalk plans walk
  pub values_are : values s ≡ value plans no_send first walk
  pub ranks : s.ranks ≡ length plans
  pub light : IsLight plans first walk

abbrev pub IsLeftIn : Collective → Segment → List Plan → Kept → Type 0
IsLeftIn what segment plans s = IsLeft plans (initial_in what segment.width segment.block (length plans)) s

-- memory ran out, or this is the first point at which too many are held, whatever is wanted at the end
abbrev pub IsTooMuchIn : Collective → Segment → List Plan → CertFault → Type 0
IsTooMuchIn what segment plans fault = (fault ≡ NoMemory) ⊎ ((wanted : ℕ → ℕ → Value → Bool) → IsFirstOf plans (initial_in what segment.width segment.block (length plans)) wanted 7 9 fault)
