-- What each answer of `goal` says about the call, and what `err` gets.
use Rattle.std.specs.Prelude.{ℕ, ◌+◌, ◌≡◌, ◌⊎◌, Bool, true, false, List, [], ◌++◌, take, Option, Some, None, IsSomeAnd, IfSome, codes}
use Rattle.goal_base.specs.Text.{line_feed}
use Rattle.goal_limits.specs.Limits.{input_limit}
use Rattle.goal_base.specs.Device.{HostState, SinkState, Rose, Held, KeepsFiles, KeepsReading, SameRest, ReadsAtMost, SameReadCounts, Holds, HoldsPart, Grows, ReadFaulted, IsTooLong}
use Rattle.goal_graph.specs.Schedule.{Plan}
use Rattle.sim_params.specs.Costs.{CostModel}
use Rattle.goal_input.specs.Input.{ForFile, IfFile}
use Rattle.goal_words.specs.declared.request.View.{View}
use Rattle.goal_words.specs.declared.request.View.TheVariants as view
use Rattle.goal_words.specs.Words.{Command}
use Rattle.goal_views.specs.Views.{IsPrintedRun}
use Rattle.goal_cli.specs.declared.answer.Answer.{Answer}
use Rattle.goal_cli.specs.declared.answer.Answer.TheVariants as answer
use Rattle.goal_cli.specs.declared.answer.Ending.{Ending}
use Rattle.goal_cli.specs.declared.answer.Ending.TheVariants as ending
use Rattle.goal_cli.specs.declared.answer.Status.{Status}
use Rattle.goal_cli.specs.declared.answer.Status.TheVariants as status
use Rattle.goal_cli.specs.Output.{input_of, machine_of, Input, input_with, ending_if, IsOutput, MayEnd, IsRefused}
use Rattle.goal_cli.specs.Refusal.{refused_line}
use Rattle.goal_cli.specs.World.{Devices, World, without_err}

-- the name of the command's input; None if the words are no command, or one without an input
abbrev pub input_in : Option Command → Option (List ℕ)
input_in None = None
input_in (Some c) = input_of c

-- the name of its machine, likewise
abbrev pub machine_in : Option Command → Option (List ℕ)
machine_in None = None
machine_in (Some c) = machine_of c

-- P holds of the bytes of that file, which exists if the contents of the host are known; without a name, of no bytes
abbrev pub ForNamed : HostState → Option (List ℕ) → (List ℕ → Type 0) → Type 0
ForNamed host None P = P []
ForNamed host (Some name) P = ForFile host name P

abbrev pub IfNamed : HostState → Option (List ℕ) → (List ℕ → Type 0) → Type 0
IfNamed host None P = P []
IfNamed host (Some name) P = IfFile host name P

-- the same for all that a command reads
abbrev pub ForRead : HostState → Command → (Input → Type 0) → Type 0
ForRead host c P =
    ForNamed host (input_of c) (λ schedule. ForNamed host (machine_of c) (λ machine. P (input_with schedule machine)))

abbrev pub IfRead : HostState → Command → (Input → Type 0) → Type 0
IfRead host c P =
    IfNamed host (input_of c) (λ schedule. IfNamed host (machine_of c) (λ machine. P (input_with schedule machine)))

abbrev pub IfInput : Option Command → HostState → (Command → Input → Type 0) → Type 0
IfInput command host P = IfSome command (λ c. IfRead host c (P c))

-- a count of reading rose for one of the files of a command
abbrev pub ReadsFaulted : HostState → HostState → Command → Type 0
ReadsFaulted old new c = IsSomeAnd (input_of c) (ReadFaulted old new) ⊎ IsSomeAnd (machine_of c) (ReadFaulted old new)

-- Where the contents of the host are known, the file was read to its end, or has more bytes than an input may have.
-- Without a name there is no condition.
abbrev pub IsReadOut : HostState → HostState → Option (List ℕ) → Type 0
IsReadOut old new None = Unit {0}
IsReadOut old new (Some name) = old.tells ≡ true → (new.rest ≡ []) ⊎ IsTooLong old name

-- a prefix of these bytes was appended to the sink
abbrev pub GrowsByPart : SinkState → SinkState → List ℕ → Type 0
GrowsByPart old new bytes = (n : ℕ) × Grows old new (take n bytes)

-- the count of reading faults did not rise, and is not where it stops
abbrev pub ReadsHeld : HostState → HostState → Type 0
ReadsHeld old new = Held old.stops old.read_count new.read_count

-- the status after an output was written whole
abbrev pub status_at : Ending → Status
status_at ending.Done = status.Done
status_at ending.Stuck = status.Stuck
status_at ending.NotCertified = status.NotCertified

-- where a command writes: to `out`, or to the file of that name
pub data Target : Type 0 where
  ToOut : Target
  ToFile : List ℕ → Target

abbrev pub goes_to : View → Target
goes_to (view.Run how) = ToOut
goes_to view.Text = ToOut
goes_to (view.File name) = ToFile name
goes_to (view.Verdict what) = ToOut

abbrev pub target_of : Command → Target
target_of c = goes_to c.view

-- `old` and `new` are the devices before and after the call.
module _ (old new : Devices) where
  -- these bytes were written whole
  abbrev pub Gets : Target → List ℕ → Type 0
  Gets ToOut bytes = Grows old.out new.out bytes
  Gets (ToFile name) bytes = Holds old.host new.host name bytes

  -- none of them was written, or a prefix
  abbrev pub GetsPart : Target → List ℕ → Type 0
  GetsPart ToOut bytes = GrowsByPart old.out new.out bytes
  GetsPart (ToFile name) bytes = HoldsPart old.host new.host name bytes

  -- the other device, to which the command does not write, is unchanged
  abbrev pub Elsewhere : Target → Type 0
  Elsewhere ToOut = KeepsFiles old.host new.host
  Elsewhere (ToFile name) = new.out ≡ old.out

  -- the count of writing faults rose; or it did not rise, and is not where it stops
  abbrev pub WritesRose : Target → Type 0
  WritesRose ToOut = Rose old.out.stops old.out.count new.out.count
  WritesRose (ToFile name) = Rose old.host.stops old.host.write_count new.host.write_count

  abbrev pub WritesHeld : Target → Type 0
  WritesHeld ToOut = Held old.out.stops old.out.count new.out.count
  WritesHeld (ToFile name) = Held old.host.stops old.host.write_count new.host.write_count

  -- the count is unchanged, and no file is left open for writing
  abbrev pub WritesSame : Target → Type 0
  WritesSame ToOut = new.out.count ≡ old.out.count
  WritesSame (ToFile name) = (new.host.write_count ≡ old.host.write_count) × (new.host.writing ≡ false)

  -- if the command reads a file, the count of reading faults did not rise
  abbrev pub InputHeld : Command → Type 0
  InputHeld c =
      IfSome (input_of c) (λ name. ReadsHeld old.host new.host) × IfSome (machine_of c) (λ name. ReadsHeld old.host new.host)

  -- the command's output for this input was written, whole or in part
  abbrev pub GetsOutput : Ending → Command → Input → Type 0
  GetsOutput e c input = (output : List ℕ) × IsOutput c input output e × Gets (target_of c) output

  abbrev pub GetsPartOfOutput : Command → Input → Type 0
  GetsPartOfOutput c input = (output : List ℕ) × ((e : Ending) × IsOutput c input output e) × GetsPart (target_of c) output

  -- the command's output for this input was written whole, with its status, or the answer is NoMemory
  abbrev pub AnswersWhole : Status → Command → Input → Type 0
  AnswersWhole result c input =
      ((e : Ending) × (result ≡ status_at e) × GetsOutput e c input) ⊎ (result ≡ status.NoMemory)

  -- nothing was written
  pub record IsUntouched : Type 0 where
    pub files : KeepsFiles old.host new.host
    pub sink : new.out ≡ old.out

  -- the facts after an output was written whole
  pub record IsWritten (e : Ending) (c : Command) : Type 0 where
    pub output : ForRead old.host c (GetsOutput e c)
    pub ends : MayEnd c e
    pub reads : SameReadCounts old.host new.host
    pub writes : WritesSame (target_of c)
    pub elsewhere : Elsewhere (target_of c)

  -- the facts after it was cut off
  pub record IsCutOff (c : Command) : Type 0 where
    pub output : ForRead old.host c (GetsPartOfOutput c)
    pub reads : SameReadCounts old.host new.host
    pub elsewhere : Elsewhere (target_of c)

  -- The table of causes: what holds if a command leads to an answer. A command with a machine reads it to its end
  -- before it refuses anything, even if its other file is too long.
  abbrev pub IsCauseOf : Command → Answer → Type 0
  IsCauseOf c (answer.Written e) = IsWritten e c
  IsCauseOf c answer.BadLine = ⊥
  IsCauseOf c (answer.Refused r) =
      ForRead old.host c (λ input. IsRefused c input r) × SameReadCounts old.host new.host × IsUntouched
      × IsReadOut old.host new.host (machine_of c)
  IsCauseOf c answer.ReadFault = ReadsFaulted old.host new.host c × IsUntouched
  IsCauseOf c answer.WriteFault = IsCutOff c × WritesRose (target_of c)
  IsCauseOf c answer.NoMemory = IsUntouched ⊎ IsCutOff c

  -- the same for words that are no command
  abbrev pub IsCauseOfNone : Answer → Type 0
  IsCauseOfNone answer.BadLine = SameReadCounts old.host new.host × IsUntouched
  IsCauseOfNone answer.NoMemory = SameReadCounts old.host new.host × IsUntouched
  IsCauseOfNone _ = ⊥

  abbrev pub IsCause : Option Command → Answer → Type 0
  IsCause None a = IsCauseOfNone a
  IsCause (Some c) a = IsCauseOf c a

-- the lines that the answers write to `err`; none if an output was written whole
abbrev pub line_for : Answer → List ℕ
line_for (answer.Written e) = []
line_for answer.BadLine = codes "goal: the words are not a command line of goal" ++ line_feed
line_for (answer.Refused r) = refused_line r
line_for answer.ReadFault = codes "goal: reading failed" ++ line_feed
line_for answer.WriteFault = codes "goal: writing failed" ++ line_feed
line_for answer.NoMemory = codes "goal: out of memory" ++ line_feed

abbrev pub status_of : Answer → Status
status_of (answer.Written e) = status_at e
status_of answer.BadLine = status.BadLine
status_of (answer.Refused r) = status.Refused
status_of answer.ReadFault = status.ReadFault
status_of answer.WriteFault = status.WriteFault
status_of answer.NoMemory = status.NoMemory

-- the result is this status and P holds, or the result is NoMemory
abbrev pub AnswersWith : Status → Status → Type 0 → Type 0
AnswersWith result s P = ((result ≡ s) × P) ⊎ (result ≡ status.NoMemory)

-- `out` got the printed run of the schedule, and the status is Stuck if an operation has no end in it, and Done
-- otherwise; or the result is NoMemory
abbrev pub PrintsRun : Status → SinkState → SinkState → CostModel → List Plan → Type 0
PrintsRun result out out' costs sched =
    ((output : List ℕ) × ((stuck : Bool) × IsPrintedRun costs sched output stuck × (result ≡ status_at (ending_if stuck))) × Grows out out' output)
    ⊎ (result ≡ status.NoMemory)

-- The sink got the line or a prefix of it, and the whole line if its count of faults did not rise.
pub record Says (old new : SinkState) (line : List ℕ) : Type 0 where
  pub prefix : GrowsByPart old new line
  pub whole : Held old.stops old.count new.count → Grows old new line

-- the sink got the line of the answer; none if an output was written whole
abbrev pub SaysAnswer : SinkState → SinkState → Answer → Type 0
SaysAnswer old new (answer.Written e) = new ≡ old
SaysAnswer old new a = Says old new (line_for a)

-- memory ran out during the line: the sink got a prefix of it, and counted no fault
abbrev pub IsCutShort : SinkState → SinkState → List ℕ → Type 0
IsCutShort old new line = GrowsByPart old new line × (new.count ≡ old.count)

-- The status is that of the answer, and the sink got its line; a fault that the sink counts cuts the line off, and
-- never changes the status. Or the sink itself ran out of memory during the line, and counted no fault.
abbrev pub IsAnswered : SinkState → SinkState → Answer → Status → Type 0
IsAnswered old new a s = ((s ≡ status_of a) × SaysAnswer old new a) ⊎ ((s ≡ status.NoMemory) × IsCutShort old new (line_for a))

-- There is an answer whose cause holds, and the status and what `err` got are those of that answer.
pub record Answered (command : Option Command) (old new : World) (result : Status) : Type 0 where
  pub answer : Answer
  pub cause : IsCause (without_err old) (without_err new) command answer
  pub told : IsAnswered old.err new.err answer result

-- At most 2^27+1 bytes of a file that a command reads are taken. The host has one open input, which is unchanged or is
-- the rest of the file opened last. So if a machine was opened, this does not say how much of the schedule's file was
-- read before; `read_schedule` says it of its own call. Without a file, the open input and the counts of reading are
-- unchanged.
abbrev pub IsTakenWithinLimitOf : Option (List ℕ) → Option (List ℕ) → HostState → HostState → Type 0
IsTakenWithinLimitOf None None old new = KeepsReading old new
IsTakenWithinLimitOf None (Some name) old new = SameRest old new ⊎ ReadsAtMost old new name (input_limit + 1)
IsTakenWithinLimitOf (Some name) machine old new =
    SameRest old new ⊎ ReadsAtMost old new name (input_limit + 1) ⊎ IsSomeAnd machine (λ other. ReadsAtMost old new other (input_limit + 1))

abbrev pub IsTakenWithinLimit : Option Command → HostState → HostState → Type 0
IsTakenWithinLimit command old new = IsTakenWithinLimitOf (input_in command) (machine_in command) old new
