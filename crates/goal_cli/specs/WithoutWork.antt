-- What holds if a command has nothing to work on, while its files are read; and while an answer is written to `err`.
use Rattle.std.specs.Prelude.{ℕ, ◌+◌, ◌≡◌, ◌≤◌, ◌⊎◌, true, List, [], length, Option, Some, None, IsSomeAnd}
use Rattle.goal_limits.specs.Limits.{input_limit}
use Rattle.goal_base.specs.Device.{HostState, SinkState, SameReadCounts, KeepsReading, SameRest, ReadsAtMost, ReadFaulted, IsTooLong, file_of, Later, SinkLater}
use Rattle.goal_words.specs.Words.{Command}
use Rattle.goal_cli.specs.declared.answer.Answer.{Answer}
use Rattle.goal_cli.specs.declared.answer.Answer.TheVariants as answer
use Rattle.goal_cli.specs.declared.answer.Refusal.TheVariants as refusal
use Rattle.goal_cli.specs.Output.{input_of, machine_of, input_with, IsRefused, Input, IsFrom}
use Rattle.goal_cli.specs.declared.answer.Status.{Status}
use Rattle.goal_cli.specs.Answer.{ForNamed, ForRead, ReadsFaulted, IsReadOut, IsAnswered}
use Rattle.goal_graph.specs.Schedule.{Plan}
use Rattle.goal_cli.specs.World.{Devices}

-- why there is no schedule, for any machine that is not too long; it may always be out of memory
abbrev pub HasNoSchedule : HostState → HostState → Command → Answer → Type 0
HasNoSchedule old new c answer.ReadFault = IsSomeAnd (input_of c) (ReadFaulted old new)
HasNoSchedule old new c (answer.Refused r) =
    ForNamed old (input_of c) (λ schedule. (machine : List ℕ) → length machine ≤ input_limit → IsRefused c (input_with schedule machine) r)
    × SameReadCounts old new
HasNoSchedule old new c answer.NoMemory = Unit {0}
HasNoSchedule old new c _ = ⊥

-- why the file of that name was not read whole
abbrev pub IsNotReadWhole : HostState → HostState → Option (List ℕ) → Answer → Type 0
IsNotReadWhole old new o answer.ReadFault = IsSomeAnd o (ReadFaulted old new)
IsNotReadWhole old new o (answer.Refused r) = (r ≡ refusal.TooLong) × IsSomeAnd o (IsTooLong old) × SameReadCounts old new
IsNotReadWhole old new o answer.NoMemory = Unit {0}
IsNotReadWhole old new o _ = ⊥

-- why there is nothing to work on
abbrev pub HasNoWork : HostState → HostState → Command → Answer → Type 0
HasNoWork old new c answer.ReadFault = ReadsFaulted old new c
HasNoWork old new c (answer.Refused r) = ForRead old c (λ input. IsRefused c input r) × SameReadCounts old new × IsReadOut old new (machine_of c)
HasNoWork old new c answer.NoMemory = Unit {0}
HasNoWork old new c _ = ⊥

-- the bytes are those of the file of that name, and none if there is no name
abbrev pub AreBytesOfFile : HostState → Option (List ℕ) → List ℕ → Type 0
AreBytesOfFile host None bytes = bytes ≡ []
AreBytesOfFile host (Some name) bytes = host.tells ≡ true → file_of host name ≡ Some bytes

-- at most 2^27+1 bytes of the file of that name were read; without a name nothing was read
abbrev pub IsTakenWithinLimitFrom : HostState → HostState → Option (List ℕ) → Type 0
IsTakenWithinLimitFrom old new None = KeepsReading old new
IsTakenWithinLimitFrom old new (Some name) = SameRest old new ⊎ ReadsAtMost old new name (input_limit + 1)

-- the answer was written to `err`, or NoMemory, if there was none for the words of a refusal
abbrev pub IsAnsweredOrNoMemory : SinkState → SinkState → Answer → Status → Type 0
IsAnsweredOrNoMemory old new (answer.Refused r) s = IsAnswered old new (answer.Refused r) s ⊎ IsAnswered old new answer.NoMemory s
IsAnsweredOrNoMemory old new a s = IsAnswered old new a s

-- the schedule that a command works on, and the text of its machine
abbrev pub IsGathered : Command → List Plan → List ℕ → Input → Type 0
IsGathered c sched machine input = IsFrom c.source input.schedule sched × (input.machine ≡ machine)

-- no call changes the kinds of the devices, and no count falls
pub record DevicesLater (old new : Devices) : Type 0 where
  pub host : Later old.host new.host
  pub out : SinkLater old.out new.out
