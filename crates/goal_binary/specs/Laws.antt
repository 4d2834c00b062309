-- The laws that relate a schedule and its files.
use Rattle.std.specs.Prelude.{◌≡◌, ◌≢◌, ◌<◌, ◌≤◌, ◌+◌, ◌^◌, ◌⊎◌, ℕ, List, ◌∷◌, ◌++◌, length, take, drop, Ok, Err, All, None, ◌*◌}
use Rattle.goal_limits.specs.Limits.{input_limit}
use Rattle.goal_graph.specs.Schedule.{Plan}
use Rattle.goal_graph.specs.Fault.{IsAccepted, op_count, dep_count, note_count}
use Rattle.goal_graph.specs.Limits.{AreCountsWithin}
use Rattle.goal_graph.specs.Widths.{AreInWidth}
use Rattle.goal_binary.specs.declared.fault.FileFault.{FileFault}
use Rattle.goal_binary.specs.declared.fault.FileFault.TheVariants.{Short, Magic, Version, Field, Extra}
use Rattle.goal_binary.specs.Layouts.{magic_bytes}
use Rattle.goal_binary.specs.declared.layout.Layout.{Layout}
use Rattle.goal_binary.specs.declared.layout.Layout.TheVariants.{Fixed, Packed}
use Rattle.goal_binary.specs.Layouts.{layout_of}
use Rattle.goal_binary.specs.Fitting.{HaveFile}
use Rattle.goal_binary.specs.File.{spelled_u32, packed, written, file, old}
use Rattle.goal_binary.specs.Meaning.{meaning}

-- no packed number is a prefix of another
abbrev pub PackedApart : Type 0
PackedApart = (m n : ℕ) (xs ys : List ℕ) → m < 2 ^ 64 → n < 2 ^ 64 → packed m ++ xs ≡ packed n ++ ys → (m ≡ n) × (xs ≡ ys)

-- the number of bytes of the old file
abbrev pub old_length : List Plan → ℕ
old_length plans = 16 + 12 * length plans + 24 * op_count plans + 12 * dep_count plans + 16 * note_count plans

-- the old file has this number of bytes
abbrev pub LengthIsTold : Type 0
LengthIsTold = (plans : List Plan) → length (old plans) ≡ old_length plans

-- plans whose counts are within the limits have an old file of at most 93,061,136 bytes, short enough for an input
abbrev pub WithinInput : Type 0
WithinInput = (plans : List Plan) → AreCountsWithin plans → (length (old plans) ≤ 93061136) × (length (old plans) ≤ input_limit)

-- the file of plans that have one is at most as long as the old one
abbrev pub NoLonger : Type 0
NoLonger = (plans : List Plan) → HaveFile plans → length (file plans) ≤ length (old plans)

-- bytes that mean plans are the file of these plans in one of the layouts, so no schedule has a third file
abbrev pub TwoFiles : Type 0
TwoFiles = (bytes : List ℕ) (plans : List Plan) → All (λ b. b < 256) bytes → meaning bytes ≡ Ok plans → (bytes ≡ file plans) ⊎ (bytes ≡ old plans)

-- a list of plans is a schedule, and its numbers fit their types
pub record IsSchedule (plans : List Plan) : Type 0 where
  pub accepted : IsAccepted plans
  pub widths : AreInWidth plans

-- a file that is cut is short where it ends
abbrev pub CutIsShort : Type 0
CutIsShort = (layout : Layout) (plans : List Plan) (n : ℕ) → IsSchedule plans → n < length (written layout plans) → meaning (take n (written layout plans)) ≡ Err (Short n)

-- of bytes behind a file the first is extra
abbrev pub MoreIsExtra : Type 0
MoreIsExtra = (layout : Layout) (plans : List Plan) (b : ℕ) (more : List ℕ) → IsSchedule plans
    → meaning (written layout plans ++ b ∷ more) ≡ Err (Extra (length (written layout plans)))

-- plans that bytes mean have a file
abbrev pub WithinLimits : Type 0
WithinLimits = (bytes : List ℕ) (plans : List Plan) → All (λ b. b < 256) bytes → meaning bytes ≡ Ok plans → HaveFile plans

-- the file of plans that have one means these plans, in each layout; and every schedule has one
abbrev pub PlansAgain : Type 0
PlansAgain = (layout : Layout) (plans : List Plan) → HaveFile plans → meaning (written layout plans) ≡ Ok plans

abbrev pub SchedulesHaveFiles : Type 0
SchedulesHaveFiles = (plans : List Plan) → IsSchedule plans → HaveFile plans

-- so each file of a schedule means the schedule
abbrev pub ReadAgain : Type 0
ReadAgain = (layout : Layout) (plans : List Plan) → IsSchedule plans → meaning (written layout plans) ≡ Ok plans

-- these bytes are the beginning of a file in this layout, of plans that may break other rules
pub record BeginAFile (layout : Layout) (front : List ℕ) : Type 0 where
  pub plans : List Plan
  pub more : List ℕ
  pub have_file : HaveFile plans
  pub is : front ++ more ≡ written layout plans

-- the possible lengths of a field: one, four or eight bytes, or for packed numbers one to ten
abbrev pub IsWidth : Layout → ℕ → Type 0
IsWidth Fixed n = (n ≡ 1) ⊎ (n ≡ 4) ⊎ (n ≡ 8)
IsWidth Packed n = (0 < n) × (n ≤ 10)

-- the bytes end inside the field at this place, and the whole fields before it begin a file
pub record EndInField (bytes : List ℕ) (n : ℕ) : Type 0 where
  pub length_is : n ≡ length bytes
  pub layout : Layout
  pub at : ℕ
  pub width : ℕ
  pub is_width : IsWidth layout width
  pub begins : at ≤ n
  pub is_cut : n < at + width
  pub before : BeginAFile layout (take at bytes)

-- The whole field at this place has a value that no file of the version has there: the bytes before it, with the magic
-- number and the version, begin a file, and with the field they begin none.
pub record IsFirstBadField (bytes : List ℕ) (at : ℕ) : Type 0 where
  pub layout : Layout
  pub behind : 12 ≤ at
  pub width : ℕ
  pub is_width : IsWidth layout width
  pub whole : at + width ≤ length bytes
  pub before : BeginAFile layout (take at bytes)
  pub none : BeginAFile layout (take (at + width) bytes) → ⊥

-- the first eight bytes are not the magic number
pub record IsOtherMagic (bytes : List ℕ) : Type 0 where
  pub whole : 8 ≤ length bytes
  pub other : take 8 bytes ≢ magic_bytes

-- the magic number is followed by another version
pub record IsOtherVersion (bytes : List ℕ) (found : ℕ) : Type 0 where
  pub magic : take 8 bytes ≡ magic_bytes
  pub whole : 12 ≤ length bytes
  pub is : take 4 (drop 8 bytes) ≡ spelled_u32 found
  pub other : layout_of found ≡ None

-- the bytes before this place are a whole file
pub record IsBehindFile (bytes : List ℕ) (at : ℕ) : Type 0 where
  pub inside : at < length bytes
  pub plans : List Plan
  pub have_file : HaveFile plans
  pub layout : Layout
  pub is : take at bytes ≡ written layout plans

-- what each fault says of the bytes
abbrev pub IsTrueOf : List ℕ → FileFault → Type 0
IsTrueOf bytes (Short n) = EndInField bytes n
IsTrueOf bytes Magic = IsOtherMagic bytes
IsTrueOf bytes (Version found) = IsOtherVersion bytes found
IsTrueOf bytes (Field at) = IsFirstBadField bytes at
IsTrueOf bytes (Extra at) = IsBehindFile bytes at
IsTrueOf bytes _ = ⊥

abbrev pub FaultsAreTrue : Type 0
FaultsAreTrue = (bytes : List ℕ) (fault : FileFault) → All (λ b. b < 256) bytes → meaning bytes ≡ Err fault → IsTrueOf bytes fault

-- the fault is about a whole field
abbrev pub IsOfField : FileFault → Type 0
IsOfField Magic = Unit {0}
IsOfField (Version found) = Unit {0}
IsOfField (Field at) = Unit {0}
IsOfField _ = ⊥

-- no file begins with bytes in which a whole field is at fault
abbrev pub NoFileBegins : Type 0
NoFileBegins = (layout : Layout) (bytes more : List ℕ) (fault : FileFault) (plans : List Plan) → IsSchedule plans → meaning bytes ≡ Err fault → IsOfField fault
    → bytes ++ more ≢ written layout plans
