-- The numbers of a schedule fit their places in the text.
use Rattle.std.proofs.Common.{◌≡◌, ℕ, ◌^◌, ◌<◌, ◌≤◌, [], length, Option, Some, None}
use Rattle.std.specs.Prelude.{⊤}
use Rattle.std.specs.List.{AllByRecursion}
use Rattle.goal_limits.specs.declared.limits.TheConstants.{MAX_OPS, MAX_BYTES, MAX_NANOS}
use Rattle.goal_graph.specs.declared.plan.Op.{Op}
use Rattle.goal_graph.specs.declared.plan.Kind.{Kind}
use Rattle.goal_graph.specs.declared.plan.Kind.TheVariants.{Calc, Send, Recv}
use Rattle.goal_graph.specs.declared.plan.Dep.{Dep}
use Rattle.goal_graph.specs.declared.plan.Note.{Note}
use Rattle.goal_graph.specs.declared.plan.Note.TheVariants.{Moves, Adds}
use Rattle.goal_graph.specs.Schedule.{Plan}
use Rattle.goal_parser.specs.Plans.{empty_plan}

-- a source or a tag
abbrev pub WildFits : Option ℕ → Type 0
WildFits None = ⊤
WildFits (Some n) = n < 2 ^ 32

-- the kind of an operation on this NIC
abbrev pub KindFits : Kind → ℕ → Type 0
KindFits (Calc nanos) nic = (nanos ≤ MAX_NANOS) × (nic ≡ 0)
KindFits (Send bytes to tag) nic = (bytes ≤ MAX_BYTES) × (to < 2 ^ 32) × (tag < 2 ^ 32) × (nic ≤ 255)
KindFits (Recv bytes from tag) nic = (bytes ≤ MAX_BYTES) × WildFits from × WildFits tag × (nic ≤ 255)

pub record OpFits (o : Op) : Type 0 where
  pub kind : KindFits o.kind o.nic
  pub cpu : o.cpu ≤ 255

-- a dependency and a note of a rank with `ops` operations
abbrev pub DepFits : ℕ → Dep → Type 0
DepFits ops d = (d.later < ops) × (d.earlier < ops)

abbrev pub NoteFits : ℕ → Note → Type 0
NoteFits ops (Moves op lo hi) = (op < ops) × (lo < 2 ^ 32) × (hi < 2 ^ 32)
NoteFits ops (Adds op from to) = (op < ops) × (from < 2 ^ 32) × (to < 2 ^ 32)

-- the plan of a rank; one without operations is empty
pub record PlanFits (p : Plan) : Type 0 where
  pub few : length p.ops ≤ MAX_OPS
  pub ops : AllByRecursion OpFits p.ops
  pub deps : AllByRecursion (DepFits (length p.ops)) p.deps
  pub notes : AllByRecursion (NoteFits (length p.ops)) p.notes
  pub nothing : p.ops ≡ [] → p ≡ empty_plan
