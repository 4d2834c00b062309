-- Operations, dependencies and notes are read by readers, in both layouts.
use Rattle.std.proofs.Common.{ℕ, ◌/◌, ◌%◌, ◌≤◌, Bool, true, false, refl}
use Rattle.goal_graph.specs.declared.plan.Op.{Op}
use Rattle.goal_graph.specs.declared.plan.Dep.{Dep}
use Rattle.goal_binary.specs.declared.form.OpForm.{OpForm}
use Rattle.goal_binary.specs.declared.layout.Layout.{Layout}
use Rattle.goal_binary.specs.declared.layout.Layout.TheVariants.{Fixed, Packed}
use Rattle.goal_binary.specs.Fields.{byte_up_to, some_byte_at}
use Rattle.goal_binary.specs.Reading.{most_flags, form_of, most_nic, most_peer, most_tag, most_size, has_peer, has_tag, kind_of, when_of, note_of, is_head, head_of, form_at, fixed_op_at, fixed_dep_at, fixed_note_at, head_byte_at, head_at, some_byte_if, packed_u32_at, packed_u32_if, packed_op_at, packed_dep_at, packed_note_at, op_at, dep_at, note_at}
use Rattle.goal_binary.proofs.Readers.{Reads, then, give, then_reads, give_reads, reads_as, reads_weaker}
use Rattle.goal_binary.proofs.FieldsRead.{byte_reads, u32_reads, byte_up_to_reads, u32_up_to_reads, u64_up_to_reads, some_byte_reads, byte_tested_reads}
use Rattle.goal_binary.proofs.NumbersRead.{packed_up_to_reads}

-- whatever is read
abbrev pub anything : {A : Type 0} → A → Type 0
anything x = Unit {0}

form_reads : Reads Fixed anything form_at
unfolding form_at then give
form_reads =
    reads_as _ form_at (λ bytes at. refl)
    (then_reads {P = λ bytes at. byte_up_to bytes 2 at} {Q = λ kind. then (λ bytes at. byte_up_to bytes (most_flags kind) at) (λ flags. give (form_of kind flags))} (byte_up_to_reads Fixed 2)
    (λ kind _. then_reads {P = λ bytes at. byte_up_to bytes (most_flags kind) at} {Q = λ flags. give (form_of kind flags)} (byte_up_to_reads Fixed (most_flags kind))
    (λ flags _. give_reads (form_of kind flags) tt)))

unfoldable pub made_op : OpForm → (peer tag size cpu nic : ℕ) → Op
made_op form peer tag size cpu nic = record { kind = kind_of form peer tag size; cpu = cpu; nic = nic }

fixed_op_reads : Reads Fixed anything fixed_op_at
unfolding fixed_op_at then give made_op
fixed_op_reads =
    reads_as _ fixed_op_at (λ bytes at. refl)
    (then_reads form_reads (λ form _.
    then_reads (byte_reads Fixed) (λ cpu _.
    then_reads (byte_up_to_reads Fixed (most_nic form)) (λ nic _.
    then_reads (u32_up_to_reads (most_peer form)) (λ peer _.
    then_reads (u32_up_to_reads (most_tag form)) (λ tag _.
    then_reads (u32_up_to_reads 0) (λ unused _.
    then_reads (u64_up_to_reads (most_size form)) (λ size _.
    give_reads (made_op form peer tag size cpu nic) tt))))))))

abbrev pub made_dep : (later earlier when : ℕ) → Dep
made_dep later earlier when = record { later = later; earlier = earlier; when = when_of when }

fixed_dep_reads : Reads Fixed anything fixed_dep_at
unfolding fixed_dep_at then give
fixed_dep_reads =
    reads_as _ fixed_dep_at (λ bytes at. refl)
    (then_reads u32_reads (λ later _.
    then_reads u32_reads (λ earlier _.
    then_reads (u32_up_to_reads 1) (λ when _.
    give_reads (made_dep later earlier when) tt))))

fixed_note_reads : Reads Fixed anything fixed_note_at
unfolding fixed_note_at then give
fixed_note_reads =
    reads_as _ fixed_note_at (λ bytes at. refl)
    (then_reads (u32_up_to_reads 1) (λ kind _.
    then_reads u32_reads (λ op _.
    then_reads u32_reads (λ first _.
    then_reads u32_reads (λ second _.
    give_reads (note_of kind op first second) tt)))))

-- the readers of the packed layout (version 2)
head_reads : Reads Packed anything head_at
unfolding head_at head_byte_at then give
head_reads =
    reads_as _ head_at (λ bytes at. refl)
    (then_reads (byte_tested_reads Packed is_head refl) (λ head _.
    give_reads (head_of head) tt))

some_byte_if_reads : (there : Bool) → Reads Packed anything (λ bytes at. some_byte_if bytes there at)
unfolding some_byte_if give
some_byte_if_reads true = reads_as some_byte_at (λ bytes at. some_byte_if bytes true at) (λ bytes at. refl) (some_byte_reads Packed)
some_byte_if_reads false = reads_as (give 0) (λ bytes at. some_byte_if bytes false at) (λ bytes at. refl) (give_reads 0 tt)

packed_u32_reads : Reads Packed anything packed_u32_at
unfolding packed_u32_at
packed_u32_reads = reads_weaker (λ n. n ≤ 4294967295) anything packed_u32_at (λ n below. tt) (packed_up_to_reads 4294967295)

packed_u32_if_reads : (there : Bool) → Reads Packed anything (λ bytes at. packed_u32_if bytes there at)
unfolding packed_u32_if give
packed_u32_if_reads true = reads_as packed_u32_at (λ bytes at. packed_u32_if bytes true at) (λ bytes at. refl) packed_u32_reads
packed_u32_if_reads false = reads_as (give 0) (λ bytes at. packed_u32_if bytes false at) (λ bytes at. refl) (give_reads 0 tt)

packed_op_reads : Reads Packed anything packed_op_at
unfolding packed_op_at then give made_op
packed_op_reads =
    reads_as _ packed_op_at (λ bytes at. refl)
    (then_reads head_reads (λ head _.
    then_reads (some_byte_if_reads head.has_cpu) (λ cpu _.
    then_reads (some_byte_if_reads head.has_nic) (λ nic _.
    then_reads (packed_u32_if_reads (has_peer head.form)) (λ peer _.
    then_reads (packed_u32_if_reads (has_tag head.form)) (λ tag _.
    then_reads (packed_up_to_reads (most_size head.form)) (λ size _.
    give_reads (made_op head.form peer tag size cpu nic) tt)))))))

abbrev pub halved_dep : (later number : ℕ) → Dep
halved_dep later number = record { later = later; earlier = number / 2; when = when_of (number % 2) }

packed_dep_reads : Reads Packed anything packed_dep_at
unfolding packed_dep_at then give
packed_dep_reads =
    reads_as _ packed_dep_at (λ bytes at. refl)
    (then_reads packed_u32_reads (λ later _.
    then_reads (packed_up_to_reads 8589934591) (λ number _.
    give_reads (halved_dep later number) tt)))

packed_note_reads : Reads Packed anything packed_note_at
unfolding packed_note_at then give
packed_note_reads =
    reads_as _ packed_note_at (λ bytes at. refl)
    (then_reads (byte_up_to_reads Packed 1) (λ kind _.
    then_reads packed_u32_reads (λ op _.
    then_reads packed_u32_reads (λ first _.
    then_reads packed_u32_reads (λ second _.
    give_reads (note_of kind op first second) tt)))))

-- in each layout
pub op_reads : (l : Layout) → Reads l anything (λ bytes at. op_at bytes l at)
unfolding op_at
op_reads Fixed = reads_as fixed_op_at (λ bytes at. op_at bytes Fixed at) (λ bytes at. refl) fixed_op_reads
op_reads Packed = reads_as packed_op_at (λ bytes at. op_at bytes Packed at) (λ bytes at. refl) packed_op_reads

pub dep_reads : (l : Layout) → Reads l anything (λ bytes at. dep_at bytes l at)
unfolding dep_at
dep_reads Fixed = reads_as fixed_dep_at (λ bytes at. dep_at bytes Fixed at) (λ bytes at. refl) fixed_dep_reads
dep_reads Packed = reads_as packed_dep_at (λ bytes at. dep_at bytes Packed at) (λ bytes at. refl) packed_dep_reads

pub note_reads : (l : Layout) → Reads l anything (λ bytes at. note_at bytes l at)
unfolding note_at
note_reads Fixed = reads_as fixed_note_at (λ bytes at. note_at bytes Fixed at) (λ bytes at. refl) fixed_note_reads
note_reads Packed = reads_as packed_note_at (λ bytes at. note_at bytes Packed at) (λ bytes at. refl) packed_note_reads
