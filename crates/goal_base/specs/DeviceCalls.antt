-- What each call does to a host or a sink, and what reading or writing a whole file does.
use Rattle.std.specs.Prelude.{◌≡◌, ℕ, Bool, true, List, [], ◌++◌, Option, Some, None, Result, Ok, Err}
use Rattle.std.specs.FinMap.{get, insert}
use Rattle.goal_base.specs.declared.device.IoFault.{IoFault}
use Rattle.goal_base.specs.declared.device.OpenFault.{OpenFault}
use Rattle.goal_base.specs.declared.read.ReadAll.{ReadAll}
use Rattle.goal_base.specs.declared.write.WriteStop.{WriteStop}
use Rattle.goal_base.specs.Device.{Files, HostState, SinkState, Rose, Later, SinkLater, SameReadCounts, KeepsReading, KeepsFiles, IsAbsent}
use Rattle.goal_base.specs.declared.device.IoFault.TheVariants as io
use Rattle.goal_base.specs.declared.device.OpenFault.TheVariants as opening
use Rattle.goal_base.specs.declared.read.ReadAll.TheVariants as reading

-- the count of faults after a call: it rose for Failed, and is unchanged otherwise
abbrev pub Counts : {A : Type 0} → Result A IoFault → Bool → ℕ → ℕ → Type 0
Counts (Ok a) stops before after = after ≡ before
Counts (Err io.Failed) stops before after = Rose stops before after
Counts (Err io.NoMemory) stops before after = after ≡ before

-- A call of `create`, `write` or `finish`. It leaves the input and the counts of reading unchanged.
pub record CallsWrite {A : Type 0} (result : Result A IoFault) (old new : HostState) : Type 0 where
  pub count : Counts result old.stops old.write_count new.write_count
  pub kept : KeepsReading old new
  pub later : Later old new

-- A call of `read`. It changes no file and no output.
pub record CallsRead {A : Type 0} (result : Result A IoFault) (old new : HostState) : Type 0 where
  pub count : Counts result old.stops old.read_count new.read_count
  pub absent_count : new.absent_count ≡ old.absent_count
  pub kept : KeepsFiles old new
  pub later : Later old new

-- a write's result, with the fault that cut it off as its error
abbrev pub stop_reason : {A : Type 0} → Result A WriteStop → Result A IoFault
stop_reason (Ok a) = Ok a
stop_reason (Err stop) = Err stop.why

-- A call of a sink.
pub record CallsSink {A : Type 0} (result : Result A IoFault) (old new : SinkState) : Type 0 where
  pub count : Counts result old.stops old.count new.count
  pub later : SinkLater old new

-- the counts of reading after `open`: the read count rose for Failed; the absent count rose for Absent, and no file has
-- that name; both are unchanged otherwise
abbrev pub CountsOpen : {A : Type 0} → Result A OpenFault → HostState → HostState → List ℕ → Type 0
CountsOpen (Ok a) old new name = SameReadCounts old new
CountsOpen (Err opening.Absent) old new name =
    Rose old.stops old.absent_count new.absent_count × (new.read_count ≡ old.read_count) × IsAbsent old name
CountsOpen (Err opening.Failed) old new name =
    Rose old.stops old.read_count new.read_count × (new.absent_count ≡ old.absent_count)
CountsOpen (Err opening.NoMemory) old new name = SameReadCounts old new

-- A call of `open`. It changes no file and no output.
pub record CallsOpen {A : Type 0} (result : Result A OpenFault) (old new : HostState) (name : List ℕ) : Type 0 where
  pub counts : CountsOpen result old new name
  pub kept : KeepsFiles old new
  pub later : Later old new

-- the file of that name is empty, and is the open output
pub record Creates (old new : HostState) (name : List ℕ) : Type 0 where
  pub files : old.tells ≡ true → new.files ≡ insert old.files name []
  pub output : old.tells ≡ true → new.output ≡ Some name

-- the files after appending bytes to the file of that name, if it exists
abbrev pub grown : Option (List ℕ) → Files → List ℕ → List ℕ → Files
grown None files name bytes = files
grown (Some old) files name bytes = insert files name (old ++ bytes)

-- the files after appending bytes to the output, if one is open
abbrev pub appended_to : Option (List ℕ) → Files → List ℕ → Files
appended_to None files bytes = files
appended_to (Some name) files bytes = grown (get files name) files name bytes

-- the bytes were appended to the output, which stays the output
pub record Writes (old new : HostState) (bytes : List ℕ) : Type 0 where
  pub files : old.tells ≡ true → new.files ≡ appended_to old.output old.files bytes
  pub output : old.tells ≡ true → new.output ≡ old.output

-- the sink's bytes are unchanged
pub record SameBytes (old new : SinkState) : Type 0 where
  pub told : old.tells ≡ true → new.bytes ≡ old.bytes

-- The bytes were read from the rest of the input.
pub record Takes (old new : HostState) (bytes : List ℕ) : Type 0 where
  pub told : old.tells ≡ true → old.rest ≡ bytes ++ new.rest

-- the counts of reading after a whole file was read: for Fault as `faulted` says, and unchanged otherwise
abbrev pub CountsReading : {A : Type 0} → Result A ReadAll → HostState → HostState → Type 0 → Type 0
CountsReading (Ok a) old new faulted = SameReadCounts old new
CountsReading (Err reading.Fault) old new faulted = faulted
CountsReading (Err reading.TooLong) old new faulted = SameReadCounts old new
CountsReading (Err reading.NoMemory) old new faulted = SameReadCounts old new

-- A file was read, or the read was refused. No file and no output changes.
pub record ReadsFile {A : Type 0} (result : Result A ReadAll) (old new : HostState) (faulted : Type 0) : Type 0 where
  pub counts : CountsReading result old new faulted
  pub kept : KeepsFiles old new
  pub later : Later old new
