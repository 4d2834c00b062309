-- Reading a field of a file: its value and the place after it, or the first fault.
use Rattle.std.specs.Prelude.{ℕ, zero, suc, ◌+◌, ◌-◌, ◌*◌, ◌^◌, ◌&&◌, Bool, List, length, take, drop, Option, Some, None, Result, Ok, Err, nat_lt, nat_le, slice_get, if◌then◌else◌}
use Rattle.std.specs.Int.{Width, w32, w64, byte_len, from_le_bytes}
use Rattle.std.specs.Str.{bytes_eq}
use Rattle.goal_limits.specs.Limits.{rank_limit}
use Rattle.goal_binary.specs.Layouts.{magic_bytes}
use Rattle.goal_binary.specs.declared.layout.Layout.{Layout}
use Rattle.goal_binary.specs.declared.layout.Layout.TheVariants.{Fixed, Packed}
use Rattle.goal_binary.specs.Layouts.{layout_of}
use Rattle.goal_binary.specs.declared.fault.FileFault.{FileFault}
use Rattle.goal_binary.specs.declared.fault.FileFault.TheVariants.{Short, Magic, Version, Field}

-- a value and the place after it, or the first fault
abbrev pub Read : Type 0 → Type 0
Read A = Result (A × ℕ) FileFault

-- one reading after another, until there is a fault
infixl 10 ◌>>=◌
abbrev pub ◌>>=◌ : {A B : Type 0} → Result A FileFault → (A → Result B FileFault) → Result B FileFault
(Ok x) >>= f = f x
(Err fault) >>= f = Err fault

-- the value of the field at this place is one that a file can have there
abbrev pub allow : {A : Type 0} → Bool → ℕ → A → Result A FileFault
allow test at x = if test then Ok x else Err (Field at)

-- a group and those above it; wrong if these are 0, since fewer bytes would do, or if the number exceeds 64 bits
abbrev pub below : ℕ → Option ℕ → Option ℕ
below group None = None
below group (Some others) = if nat_lt 0 others && nat_lt others (2 ^ 57) then Some (group + 128 * others) else None

-- the number of a whole field, if its groups are a valid number
abbrev pub given : ℕ → Option ℕ → ℕ → Read ℕ
given at None after = Err (Field at)
given at (Some n) after = Ok (n, after)

-- the layout of the version, if there is one
abbrev pub named : ℕ → Option Layout → ℕ → Read Layout
named version None after = Err (Version version)
named version (Some layout) after = Ok (layout, after)

module _ (bytes : List ℕ) where
  -- one byte
  abbrev pub byte_or_short : ℕ → Option ℕ → Read ℕ
  byte_or_short at None = Err (Short (length bytes))
  byte_or_short at (Some b) = Ok (b, at + 1)

  unfoldable pub byte_at : ℕ → Read ℕ
  byte_at at = byte_or_short at (slice_get bytes at)

  -- a number of four or eight bytes, lowest byte first
  abbrev pub word_at : Width → ℕ → Read ℕ
  word_at w at =
      if nat_lt (length bytes - at) (byte_len w) then Err (Short (length bytes))
      else Ok (from_le_bytes w (take (byte_len w) (drop at bytes)), at + byte_len w)

  unfoldable pub u32_at : ℕ → Read ℕ
  u32_at at = word_at w32 at

  unfoldable pub u64_at : ℕ → Read ℕ
  u64_at at = word_at w64 at

  -- The groups of a packed number, at most `left`: the field ends with the first below 128, or the last of these.
  unfoldable pub groups_at : ℕ → ℕ → Read (Option ℕ)
  groups_at zero at = Ok (None, at)
  groups_at (suc left) at = do
    group ← byte_at at
    if nat_lt group.0 128 then Ok (Some group.0, group.1) else (groups_at left group.1 >>= λ others. Ok (below (group.0 - 128) others.0, others.1))

  -- a packed number
  unfoldable pub packed_at : ℕ → Read ℕ
  packed_at at = do
    number ← groups_at 10 at
    given at number.0 number.1

  -- a number that is at most `most`
  unfoldable pub byte_up_to : ℕ → ℕ → Read ℕ
  byte_up_to most at = do
    n ← byte_at at
    allow (nat_le n.0 most) at n

  unfoldable pub u32_up_to : ℕ → ℕ → Read ℕ
  u32_up_to most at = do
    n ← u32_at at
    allow (nat_le n.0 most) at n

  unfoldable pub u64_up_to : ℕ → ℕ → Read ℕ
  u64_up_to most at = do
    n ← u64_at at
    allow (nat_le n.0 most) at n

  unfoldable pub packed_up_to : ℕ → ℕ → Read ℕ
  packed_up_to most at = do
    n ← packed_at at
    allow (nat_le n.0 most) at n

  -- a byte that is not 0
  unfoldable pub some_byte_at : ℕ → Read ℕ
  some_byte_at at = do
    n ← byte_at at
    allow (nat_lt 0 n.0) at n

  -- a number in a layout
  unfoldable pub number_at : Layout → ℕ → Read ℕ
  number_at Fixed at = u32_at at
  number_at Packed at = packed_at at

  -- a count that, added to the counts before it, is at most the limit
  unfoldable pub count_at : Layout → ℕ → ℕ → ℕ → Read ℕ
  count_at layout limit before at = do
    n ← number_at layout at
    allow (nat_le (before + n.0) limit) at n

  -- the magic number at the front; the place after it
  unfoldable pub magic_at : Result ℕ FileFault
  magic_at =
      if nat_lt (length bytes) 8 then Err (Short (length bytes))
      else (if bytes_eq magic_bytes (take 8 bytes) then Ok 8 else Err Magic)

  -- the layout of the version
  unfoldable pub layout_at : ℕ → Read Layout
  layout_at at = do
    n ← u32_at at
    named n.0 (layout_of n.0) n.1

  -- the magic number and the version
  unfoldable pub opening_at : Read Layout
  opening_at = do
    magic ← magic_at
    layout_at magic

  -- the number of ranks: at least one
  unfoldable pub rank_count_at : Layout → ℕ → Read ℕ
  rank_count_at layout at = do
    n ← number_at layout at
    allow (nat_le n.0 rank_limit && nat_lt 0 n.0) at n
