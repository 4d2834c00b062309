-- The compiled files of a schedule, one in each layout: a header, followed by a record for each rank.
use Rattle.std.specs.Prelude.{ℕ, zero, suc, ◌+◌, ◌*◌, ◌/◌, ◌%◌, ◌==◌, List, [], ◌∷◌, ◌++◌, length, Option, Some, None, unwrap_or, nat_lt, if◌then◌else◌}
use Rattle.std.specs.List.{flat_map}
use Rattle.std.specs.Int.{w32, w64, to_le_bytes}
use Rattle.goal_graph.specs.declared.plan.Op.{Op}
use Rattle.goal_graph.specs.declared.plan.Kind.{Kind}
use Rattle.goal_graph.specs.declared.plan.Kind.TheVariants.{Calc, Send, Recv}
use Rattle.goal_graph.specs.declared.plan.Dep.{Dep}
use Rattle.goal_graph.specs.declared.plan.When.{When}
use Rattle.goal_graph.specs.declared.plan.When.TheVariants.{AfterEnd, AfterStart}
use Rattle.goal_graph.specs.declared.plan.Note.{Note}
use Rattle.goal_graph.specs.declared.plan.Note.TheVariants.{Moves, Adds}
use Rattle.goal_graph.specs.Schedule.{Plan}
use Rattle.goal_binary.specs.Layouts.{magic_bytes}
use Rattle.goal_binary.specs.declared.layout.Layout.{Layout}
use Rattle.goal_binary.specs.declared.layout.Layout.TheVariants.{Fixed, Packed}
use Rattle.goal_binary.specs.Layouts.{version_of}

-- a number in four or in eight bytes, lowest byte first
abbrev pub spelled_u32 : ℕ → List ℕ
spelled_u32 n = to_le_bytes w32 n

abbrev pub spelled_u64 : ℕ → List ℕ
spelled_u64 n = to_le_bytes w64 n

-- a number in at most `left` groups of seven bits, a byte each, lowest group first; all but the last have 128 added
unfoldable pub groups : ℕ → ℕ → List ℕ
groups zero n = []
groups (suc left) n = if nat_lt n 128 then n ∷ [] else ((128 + n % 128) ∷ groups left (n / 128))

-- a packed number: a number of 64 bits has at most ten groups
abbrev pub packed : ℕ → List ℕ
packed n = groups 10 n

-- the code of a kind
abbrev pub kind_code : Kind → ℕ
kind_code (Calc nanos) = 0
kind_code (Send bytes to tag) = 1
kind_code (Recv bytes from tag) = 2

-- the flags of an operation: 1 for a receive from any source, plus 2 for a receive with any tag
abbrev pub any_flag : ℕ → Option ℕ → ℕ
any_flag flag None = flag
any_flag flag (Some n) = 0

abbrev pub flags_of : Kind → ℕ
flags_of (Calc nanos) = 0
flags_of (Send bytes to tag) = 0
flags_of (Recv bytes from tag) = any_flag 1 from + any_flag 2 tag

-- the target or source, the tag, and the nanoseconds or bytes
abbrev pub peer_in : Kind → Option ℕ
peer_in (Calc nanos) = None
peer_in (Send bytes to tag) = Some to
peer_in (Recv bytes from tag) = from

abbrev pub tag_in : Kind → Option ℕ
tag_in (Calc nanos) = None
tag_in (Send bytes to tag) = Some tag
tag_in (Recv bytes from tag) = tag

abbrev pub size_of : Kind → ℕ
size_of (Calc nanos) = nanos
size_of (Send bytes to tag) = bytes
size_of (Recv bytes from tag) = bytes

-- version 1: a missing number is 0
abbrev pub peer_of : Kind → ℕ
peer_of k = unwrap_or (peer_in k) 0

abbrev pub tag_of : Kind → ℕ
tag_of k = unwrap_or (tag_in k) 0

-- the 24 bytes of an operation: kind, flags, cpu, nic, peer, tag, a zero, size
abbrev pub op_bytes : (kind flags cpu nic peer tag size : ℕ) → List ℕ
op_bytes kind flags cpu nic peer tag size =
    (kind ∷ flags ∷ cpu ∷ nic ∷ []) ++ spelled_u32 peer ++ spelled_u32 tag ++ spelled_u32 0 ++ spelled_u64 size

unfoldable pub fixed_op : Op → List ℕ
fixed_op o = op_bytes (kind_code o.kind) (flags_of o.kind) o.cpu o.nic (peer_of o.kind) (tag_of o.kind) (size_of o.kind)

-- the code of the start or end that a dependency waits for
abbrev pub when_code : When → ℕ
when_code AfterEnd = 0
when_code AfterStart = 1

-- the 12 bytes of a dependency: later, earlier, when
unfoldable pub fixed_dep : Dep → List ℕ
fixed_dep d = spelled_u32 d.later ++ spelled_u32 d.earlier ++ spelled_u32 (when_code d.when)

-- the 16 bytes of a note: kind, operation, and two slots, which are lo and hi or from and to
abbrev pub note_bytes : (kind op first second : ℕ) → List ℕ
note_bytes kind op first second = spelled_u32 kind ++ spelled_u32 op ++ spelled_u32 first ++ spelled_u32 second

abbrev pub note_fields : Note → List ℕ
note_fields (Moves op lo hi) = note_bytes 0 op lo hi
note_fields (Adds op from to) = note_bytes 1 op from to

unfoldable pub fixed_note : Note → List ℕ
fixed_note n = note_fields n

-- version 2: a number that is 0 or missing has no byte
abbrev pub byte_unless_zero : ℕ → List ℕ
byte_unless_zero n = if n == 0 then [] else n ∷ []

abbrev pub flag_unless_zero : ℕ → ℕ → ℕ
flag_unless_zero flag n = if n == 0 then 0 else flag

abbrev pub packed_if_some : Option ℕ → List ℕ
packed_if_some None = []
packed_if_some (Some n) = packed n

-- the head of an operation: its kind, 4 for any source, 8 for any tag, 16 if its cpu is not 0, 32 if its nic is not 0
abbrev pub head_code : Op → ℕ
head_code o = kind_code o.kind + 4 * flags_of o.kind + flag_unless_zero 16 o.cpu + flag_unless_zero 32 o.nic

-- an operation: head, cpu if not 0, nic if not 0, peer, tag, size
unfoldable pub packed_op : Op → List ℕ
packed_op o =
    (head_code o ∷ []) ++ byte_unless_zero o.cpu ++ byte_unless_zero o.nic ++ packed_if_some (peer_in o.kind)
    ++ packed_if_some (tag_in o.kind) ++ packed (size_of o.kind)

-- a dependency: later, and twice earlier plus the code of its start or end
unfoldable pub packed_dep : Dep → List ℕ
packed_dep d = packed d.later ++ packed (2 * d.earlier + when_code d.when)

-- a note: kind, operation, and two slots
abbrev pub packed_note_bytes : (kind op first second : ℕ) → List ℕ
packed_note_bytes kind op first second = (kind ∷ []) ++ packed op ++ packed first ++ packed second

abbrev pub packed_note_fields : Note → List ℕ
packed_note_fields (Moves op lo hi) = packed_note_bytes 0 op lo hi
packed_note_fields (Adds op from to) = packed_note_bytes 1 op from to

unfoldable pub packed_note : Note → List ℕ
packed_note n = packed_note_fields n

-- a count, an operation, a dependency and a note, in a layout
unfoldable pub spelled_count : Layout → ℕ → List ℕ
spelled_count Fixed n = spelled_u32 n
spelled_count Packed n = packed n

unfoldable pub spelled_op : Layout → Op → List ℕ
spelled_op Fixed o = fixed_op o
spelled_op Packed o = packed_op o

unfoldable pub spelled_dep : Layout → Dep → List ℕ
spelled_dep Fixed d = fixed_dep d
spelled_dep Packed d = packed_dep d

unfoldable pub spelled_note : Layout → Note → List ℕ
spelled_note Fixed n = fixed_note n
spelled_note Packed n = packed_note n

-- the record of a rank: its numbers of operations, dependencies and notes, followed by these
unfoldable pub spelled_counts : Layout → Plan → List ℕ
spelled_counts l p = spelled_count l (length p.ops) ++ spelled_count l (length p.deps) ++ spelled_count l (length p.notes)

unfoldable pub spelled_rank : Layout → Plan → List ℕ
spelled_rank l p =
    spelled_counts l p ++ flat_map (spelled_op l) p.ops ++ flat_map (spelled_dep l) p.deps ++ flat_map (spelled_note l) p.notes

-- the magic number, the version, and the number of ranks
unfoldable pub header : Layout → List Plan → List ℕ
header l plans = magic_bytes ++ spelled_u32 (version_of l) ++ spelled_count l (length plans)

-- the whole file in a layout
unfoldable pub written : Layout → List Plan → List ℕ
written l plans = header l plans ++ flat_map (spelled_rank l) plans

-- the file of a schedule, of version 2, and its old file, of version 1
abbrev pub file : List Plan → List ℕ
file plans = written Packed plans

abbrev pub old : List Plan → List ℕ
old plans = written Fixed plans
