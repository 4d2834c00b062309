-- Reading operations, dependencies, notes and whole ranks, field by field.
use Rattle.std.specs.Prelude.{ℕ, zero, suc, ◌/◌, ◌%◌, ◌==◌, ◌&&◌, ◌||◌, not, Bool, true, false, List, [], ◌∷◌, ◌++◌, Option, Some, None, Ok, nat_lt, nat_le, if◌then◌else◌}
use Rattle.goal_limits.specs.Limits.{op_limit, dep_limit, note_limit, size_limit, calc_limit}
use Rattle.goal_graph.specs.declared.plan.Op.{Op}
use Rattle.goal_graph.specs.declared.plan.Kind.{Kind}
use Rattle.goal_graph.specs.declared.plan.Kind.TheVariants.{Calc, Send, Recv}
use Rattle.goal_graph.specs.declared.plan.Dep.{Dep}
use Rattle.goal_graph.specs.declared.plan.When.{When}
use Rattle.goal_graph.specs.declared.plan.When.TheVariants.{AfterEnd, AfterStart}
use Rattle.goal_graph.specs.declared.plan.Note.{Note}
use Rattle.goal_graph.specs.declared.plan.Note.TheVariants.{Moves, Adds}
use Rattle.goal_graph.specs.Schedule.{Plan}
use Rattle.goal_graph.specs.Fault.{op_count, dep_count, note_count}
use Rattle.goal_binary.specs.declared.form.OpForm.{OpForm}
use Rattle.goal_binary.specs.declared.form.OpForm.TheVariants as form
use Rattle.goal_binary.specs.declared.layout.Layout.{Layout}
use Rattle.goal_binary.specs.declared.layout.Layout.TheVariants.{Fixed, Packed}
use Rattle.goal_binary.specs.declared.form.Head.{Head}
use Rattle.goal_binary.specs.Fields.{Read, ◌>>=◌, allow, byte_at, u32_at, byte_up_to, u32_up_to, u64_up_to, packed_up_to, some_byte_at, count_at, rank_count_at}

-- the greatest flags of an operation of this kind
abbrev pub most_flags : ℕ → ℕ
most_flags zero = 0
most_flags (suc zero) = 0
most_flags (suc (suc k)) = 3

-- the form of a kind with its flags
abbrev pub form_of : ℕ → ℕ → OpForm
form_of zero flags = form.Calc
form_of (suc zero) flags = form.Send
form_of (suc (suc k)) flags = form.Recv (flags % 2 == 1) (nat_le 2 flags)

-- a valid head in version 2: below 64, with a valid kind and flags of this kind; a calc has no nic
abbrev pub is_head : ℕ → Bool
is_head head = nat_lt head 64 && nat_le (head % 4) 2 && nat_le (head / 4 % 4) (most_flags (head % 4)) && (nat_lt head 32 || nat_lt 0 (head % 4))

abbrev pub head_of : ℕ → Head
head_of head = record { form = form_of (head % 4) (head / 4 % 4); has_cpu = head / 16 % 2 == 1; has_nic = nat_le 32 head }

-- an operation of this form has a peer; it has a tag
abbrev pub has_peer : OpForm → Bool
has_peer form.Calc = false
has_peer form.Send = true
has_peer (form.Recv any_source any_tag) = not any_source

abbrev pub has_tag : OpForm → Bool
has_tag form.Calc = false
has_tag form.Send = true
has_tag (form.Recv any_source any_tag) = not any_tag

-- the greatest nic, peer, tag and size of an operation of this form; a field without use is 0
abbrev pub used_unless : Bool → ℕ
used_unless any = if any then 0 else 4294967295

abbrev pub most_nic : OpForm → ℕ
most_nic form.Calc = 0
most_nic form.Send = 255
most_nic (form.Recv any_source any_tag) = 255

abbrev pub most_peer : OpForm → ℕ
most_peer form.Calc = 0
most_peer form.Send = 4294967295
most_peer (form.Recv any_source any_tag) = used_unless any_source

abbrev pub most_tag : OpForm → ℕ
most_tag form.Calc = 0
most_tag form.Send = 4294967295
most_tag (form.Recv any_source any_tag) = used_unless any_tag

abbrev pub most_size : OpForm → ℕ
most_size form.Calc = calc_limit
most_size form.Send = size_limit
most_size (form.Recv any_source any_tag) = size_limit

-- the kind of an operation of this form
abbrev pub unless_any : Bool → ℕ → Option ℕ
unless_any any n = if any then None else Some n

abbrev pub kind_of : OpForm → (peer tag size : ℕ) → Kind
kind_of form.Calc peer tag size = Calc size
kind_of form.Send peer tag size = Send size peer tag
kind_of (form.Recv any_source any_tag) peer tag size = Recv size (unless_any any_source peer) (unless_any any_tag tag)

-- the start or end with this code, and the note with this code
abbrev pub when_of : ℕ → When
when_of zero = AfterEnd
when_of (suc k) = AfterStart

abbrev pub note_of : (kind op first second : ℕ) → Note
note_of zero op first second = Moves op first second
note_of (suc k) op first second = Adds op first second

-- a number that is read if it is there, and is 0 otherwise
abbrev pub number_if : Bool → Read ℕ → ℕ → Read ℕ
number_if there read at = if there then read else Ok (0, at)

-- n items, one after another
unfoldable pub list_at : {A : Type 0} → (ℕ → Read A) → ℕ → ℕ → Read (List A)
list_at item_at zero at = Ok ([], at)
list_at item_at (suc n) at = do
  first ← item_at at
  others ← list_at item_at n first.1
  Ok (first.0 ∷ others.0, others.1)

module _ (bytes : List ℕ) where
  -- the kind and the flags of an operation
  unfoldable pub form_at : ℕ → Read OpForm
  form_at at = do
    kind ← byte_up_to bytes 2 at
    flags ← byte_up_to bytes (most_flags kind.0) kind.1
    Ok (form_of kind.0 flags.0, flags.1)

  -- an operation in version 1
  unfoldable pub fixed_op_at : ℕ → Read Op
  fixed_op_at at = do
    form ← form_at at
    cpu ← byte_at bytes form.1
    nic ← byte_up_to bytes (most_nic form.0) cpu.1
    peer ← u32_up_to bytes (most_peer form.0) nic.1
    tag ← u32_up_to bytes (most_tag form.0) peer.1
    unused ← u32_up_to bytes 0 tag.1
    size ← u64_up_to bytes (most_size form.0) unused.1
    Ok (record { kind = kind_of form.0 peer.0 tag.0 size.0; cpu = cpu.0; nic = nic.0 }, size.1)

  -- a dependency in version 1
  unfoldable pub fixed_dep_at : ℕ → Read Dep
  fixed_dep_at at = do
    later ← u32_at bytes at
    earlier ← u32_at bytes later.1
    when ← u32_up_to bytes 1 earlier.1
    Ok (record { later = later.0; earlier = earlier.0; when = when_of when.0 }, when.1)

  -- a note in version 1
  unfoldable pub fixed_note_at : ℕ → Read Note
  fixed_note_at at = do
    kind ← u32_up_to bytes 1 at
    op ← u32_at bytes kind.1
    first ← u32_at bytes op.1
    second ← u32_at bytes first.1
    Ok (note_of kind.0 op.0 first.0 second.0, second.1)

  -- an operation in version 2
  unfoldable pub head_byte_at : ℕ → Read ℕ
  head_byte_at at = do
    head ← byte_at bytes at
    allow (is_head head.0) at head

  unfoldable pub head_at : ℕ → Read Head
  head_at at = do
    head ← head_byte_at at
    Ok (head_of head.0, head.1)

  unfoldable pub some_byte_if : Bool → ℕ → Read ℕ
  some_byte_if there at = number_if there (some_byte_at bytes at) at

  unfoldable pub packed_u32_at : ℕ → Read ℕ
  packed_u32_at at = packed_up_to bytes 4294967295 at

  unfoldable pub packed_u32_if : Bool → ℕ → Read ℕ
  packed_u32_if there at = number_if there (packed_u32_at at) at

  unfoldable pub packed_op_at : ℕ → Read Op
  packed_op_at at = do
    head ← head_at at
    cpu ← some_byte_if head.0.has_cpu head.1
    nic ← some_byte_if head.0.has_nic cpu.1
    peer ← packed_u32_if (has_peer head.0.form) nic.1
    tag ← packed_u32_if (has_tag head.0.form) peer.1
    size ← packed_up_to bytes (most_size head.0.form) tag.1
    Ok (record { kind = kind_of head.0.form peer.0 tag.0 size.0; cpu = cpu.0; nic = nic.0 }, size.1)

  -- a dependency in version 2
  unfoldable pub packed_dep_at : ℕ → Read Dep
  packed_dep_at at = do
    later ← packed_u32_at at
    earlier ← packed_up_to bytes 8589934591 later.1
    Ok (record { later = later.0; earlier = earlier.0 / 2; when = when_of (earlier.0 % 2) }, earlier.1)

  -- a note in version 2
  unfoldable pub packed_note_at : ℕ → Read Note
  packed_note_at at = do
    kind ← byte_up_to bytes 1 at
    op ← packed_u32_at kind.1
    first ← packed_u32_at op.1
    second ← packed_u32_at first.1
    Ok (note_of kind.0 op.0 first.0 second.0, second.1)

  -- an operation, a dependency and a note in a layout
  unfoldable pub op_at : Layout → ℕ → Read Op
  op_at Fixed at = fixed_op_at at
  op_at Packed at = packed_op_at at

  unfoldable pub dep_at : Layout → ℕ → Read Dep
  dep_at Fixed at = fixed_dep_at at
  dep_at Packed at = packed_dep_at at

  unfoldable pub note_at : Layout → ℕ → Read Note
  note_at Fixed at = fixed_note_at at
  note_at Packed at = packed_note_at at

  -- the record of a rank; the ranks before it have these numbers of operations, dependencies and notes
  unfoldable pub rank_at : Layout → (ops deps notes : ℕ) → ℕ → Read Plan
  rank_at layout ops deps notes at = do
    op_number ← count_at bytes layout op_limit ops at
    dep_number ← count_at bytes layout dep_limit deps op_number.1
    note_number ← count_at bytes layout note_limit notes dep_number.1
    op_list ← list_at (op_at layout) op_number.0 note_number.1
    dep_list ← list_at (dep_at layout) dep_number.0 op_list.1
    note_list ← list_at (note_at layout) note_number.0 dep_list.1
    Ok (record { ops = op_list.0; deps = dep_list.0; notes = note_list.0 }, note_list.1)

  -- the plans before, and n more
  unfoldable pub ranks_at : Layout → ℕ → List Plan → ℕ → Read (List Plan)
  ranks_at layout zero before at = Ok (before, at)
  ranks_at layout (suc n) before at = do
    plan ← rank_at layout (op_count before) (dep_count before) (note_count before) at
    ranks_at layout n (before ++ plan.0 ∷ []) plan.1

  -- the number of ranks, followed by a record for each
  unfoldable pub records_at : Layout → ℕ → Read (List Plan)
  records_at layout at = do
    ranks ← rank_count_at bytes layout at
    ranks_at layout ranks.0 [] ranks.1
