-- Numbers that fit the types of the code.
use Rattle.std.specs.Prelude.{◌^◌, ◌<◌, All, List}
use Rattle.std.specs.Option.{ForSome}
use Rattle.goal_graph.specs.declared.plan.Op.{Op}
use Rattle.goal_graph.specs.declared.plan.Kind.{Kind}
use Rattle.goal_graph.specs.declared.plan.Kind.TheVariants.{Calc, Send, Recv}
use Rattle.goal_graph.specs.declared.plan.Note.{Note}
use Rattle.goal_graph.specs.declared.plan.Note.TheVariants.{Moves, Adds}
use Rattle.goal_graph.specs.Schedule.{Plan}

-- the numbers of an operation's kind
abbrev pub IsKindInWidth : Kind → Type 0
IsKindInWidth (Calc nanos) = nanos < 2 ^ 64
IsKindInWidth (Send bytes to tag) = (bytes < 2 ^ 64) × (to < 2 ^ 32) × (tag < 2 ^ 32)
IsKindInWidth (Recv bytes from tag) = (bytes < 2 ^ 64) × ForSome from (λ n. n < 2 ^ 32) × ForSome tag (λ n. n < 2 ^ 32)

pub record IsOpInWidth (o : Op) : Type 0 where
  pub kind : IsKindInWidth o.kind
  pub cpu : o.cpu < 2 ^ 8
  pub nic : o.nic < 2 ^ 8

-- the numbers of a note
abbrev pub IsNoteInWidth : Note → Type 0
IsNoteInWidth (Moves op lo hi) = (op < 2 ^ 32) × (lo < 2 ^ 32) × (hi < 2 ^ 32)
IsNoteInWidth (Adds op from to) = (op < 2 ^ 32) × (from < 2 ^ 32) × (to < 2 ^ 32)

-- the numbers of all operations and notes of a rank
pub record IsPlanInWidth (p : Plan) : Type 0 where
  pub ops : All IsOpInWidth p.ops
  pub notes : All IsNoteInWidth p.notes

-- the numbers of all ranks
pub record AreInWidth (plans : List Plan) : Type 0 where
  pub ranks : All IsPlanInWidth plans
