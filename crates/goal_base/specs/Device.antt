-- What a program knows of its surroundings: a host with files, and sinks that take bytes.
use Rattle.std.specs.Prelude.{◌≡◌, ◌⊎◌, ℕ, ◌+◌, ◌-◌, ◌^◌, ◌<◌, ◌≤◌, min, Bool, true, false, List, ◌++◌, length, take, Option, Some, None, is_some}
use Rattle.std.specs.Ordering.{nat_cmp}
use Rattle.std.specs.Cmp.Lexicographic.{slice_cmp}
use Rattle.std.specs.FinMap.{FinMap, get, insert}
use Rattle.goal_limits.specs.Limits.{input_limit}

-- files: a map from the bytes of a name to the bytes of its file
abbrev pub Files : Type 0
Files = FinMap (slice_cmp nat_cmp) (List ℕ)

-- What contracts know of a host. `tells`: its contents are known, which are `files`, `rest` (the unread part of the
-- input) and `output` (the name of the open output). `reading`, `writing`: an input, an output is open.
-- `stops`: its three counts stop at 2^64-1.
pub record HostState : Type 0 where
  pub tells : Bool
  pub files : Files
  pub rest : List ℕ
  pub output : Option (List ℕ)
  pub reading : Bool
  pub writing : Bool
  -- failed calls of `open` and `read`
  pub read_count : ℕ
  -- calls of `open` with a name that no file has
  pub absent_count : ℕ
  -- failed calls of `create`, `write` and `finish`
  pub write_count : ℕ
  pub stops : Bool

-- What contracts know of a sink. `tells`: its `bytes` are known. `stops`: its count of failed writes stops at 2^64-1.
pub record SinkState : Type 0 where
  pub tells : Bool
  pub bytes : List ℕ
  pub count : ℕ
  pub stops : Bool

-- the least later count that shows a rise: one more, or at most 2^64-1 if the count stops there
abbrev pub risen_from : Bool → ℕ → ℕ
risen_from true before = min (before + 1) (2 ^ 64 - 1)
risen_from false before = before + 1

-- the count rose, or is at 2^64-1 and stops there
abbrev pub Rose : Bool → ℕ → ℕ → Type 0
Rose stops before after = risen_from stops before ≤ after

-- the count did not rise, and is not where it stops
abbrev pub Held : Bool → ℕ → ℕ → Type 0
Held stops before after = after < risen_from stops before

-- where the contents are known, the output has a name exactly while one is open
abbrev pub IsJoined : HostState → Type 0
IsJoined host = host.tells ≡ true → host.writing ≡ is_some host.output

-- What every call keeps: whether the contents are known, and whether counts stop. No count falls. The output has a name
-- while one is open, if that was so before.
pub record Later (old new : HostState) : Type 0 where
  pub tells : new.tells ≡ old.tells
  pub stops : new.stops ≡ old.stops
  pub read_count : old.read_count ≤ new.read_count
  pub absent_count : old.absent_count ≤ new.absent_count
  pub write_count : old.write_count ≤ new.write_count
  pub joined : IsJoined old → IsJoined new

-- the same for a sink
pub record SinkLater (old new : SinkState) : Type 0 where
  pub tells : new.tells ≡ old.tells
  pub stops : new.stops ≡ old.stops
  pub count : old.count ≤ new.count

-- the read count and the absent count are unchanged
pub record SameReadCounts (old new : HostState) : Type 0 where
  pub read_count : new.read_count ≡ old.read_count
  pub absent_count : new.absent_count ≡ old.absent_count

-- the files and the name of the output are unchanged
pub record SameFiles (old new : HostState) : Type 0 where
  pub files : old.tells ≡ true → new.files ≡ old.files
  pub output : old.tells ≡ true → new.output ≡ old.output

-- the rest of the input is unchanged
pub record SameRest (old new : HostState) : Type 0 where
  pub told : old.tells ≡ true → new.rest ≡ old.rest

-- the input and the counts of reading are unchanged
pub record KeepsReading (old new : HostState) : Type 0 where
  pub rest : SameRest old new
  pub reading : new.reading ≡ old.reading
  pub counts : SameReadCounts old new

-- the files, the output and the count of writing are unchanged
pub record KeepsFiles (old new : HostState) : Type 0 where
  pub files : SameFiles old new
  pub writing : new.writing ≡ old.writing
  pub write_count : new.write_count ≡ old.write_count

-- the bytes of a file, or None where no file has that name
abbrev pub file_of : HostState → List ℕ → Option (List ℕ)
file_of host name = get host.files name

-- where the contents are known, no file has that name
abbrev pub IsAbsent : HostState → List ℕ → Type 0
IsAbsent host name = host.tells ≡ true → file_of host name ≡ None

-- the read count rose, or the absent count rose and no file has that name
abbrev pub ReadFaulted : HostState → HostState → List ℕ → Type 0
ReadFaulted old new name =
    Rose old.stops old.read_count new.read_count ⊎ (Rose old.stops old.absent_count new.absent_count × IsAbsent old name)

-- the file of that name holds these bytes, and every other file is unchanged
pub record Holds (old new : HostState) (name bytes : List ℕ) : Type 0 where
  pub told : old.tells ≡ true → new.files ≡ insert old.files name bytes

-- the files are unchanged, or the named file holds a prefix of these bytes and every other file is unchanged
abbrev pub HoldsPart : HostState → HostState → List ℕ → List ℕ → Type 0
HoldsPart old new name bytes = SameFiles old new ⊎ ((n : ℕ) × (n ≤ length bytes) × Holds old new name (take n bytes))

-- the bytes were appended to the sink
pub record Grows (old new : SinkState) (bytes : List ℕ) : Type 0 where
  pub told : old.tells ≡ true → new.bytes ≡ old.bytes ++ bytes

-- The file was opened and at most `most` of its bytes were read; `rest` is what follows them.
pub record ReadsAtMost (old new : HostState) (name : List ℕ) (most : ℕ) : Type 0 where
  pub taken : List ℕ
  pub no_more : length taken ≤ most
  pub told : old.tells ≡ true → file_of old name ≡ Some (taken ++ new.rest)

-- where the contents are known, the file exists and is longer than an input may be
pub record IsTooLong (host : HostState) (name : List ℕ) : Type 0 where
  pub told : host.tells ≡ true → (text : List ℕ) × (file_of host name ≡ Some text) × (input_limit < length text)
