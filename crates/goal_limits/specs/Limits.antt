-- The limits of a schedule, its parts, its input and its parameters, and of what is certified. Each constant of the
-- code is the number here: `laws_of_limits` ensures it.
use Rattle.std.specs.Prelude.{ℕ, ◌^◌}

-- the most ranks of a schedule
abbrev pub rank_limit : ℕ
rank_limit = 65536

-- the most operations of a schedule, all ranks together: 2^20
abbrev pub op_limit : ℕ
op_limit = 1048576

-- the most dependencies of a schedule, all ranks together: 2^22
abbrev pub dep_limit : ℕ
dep_limit = 4194304

-- the most notes of a schedule, all ranks together: 2^20
abbrev pub note_limit : ℕ
note_limit = 1048576

-- the most rounds of a probe
abbrev pub round_limit : ℕ
round_limit = 300000

-- the most bytes of an input: 2^27
abbrev pub input_limit : ℕ
input_limit = 134217728

-- the most bytes of a label, a word, a number or a size of a text
abbrev pub run_limit : ℕ
run_limit = 64

-- the largest size of a message and of a receive, in bytes: 2^40-1
abbrev pub size_limit : ℕ
size_limit = 1099511627775

-- the longest calculation, in nanoseconds: 2^48-1
abbrev pub calc_limit : ℕ
calc_limit = 281474976710655

-- the largest latency, overhead and gap of a message, in nanoseconds, and the largest size that may be sent eagerly, in
-- bytes: 2^40-1
abbrev pub param_limit : ℕ
param_limit = 1099511627775

-- the largest gap and overhead for each byte, in nanoseconds: 2^20-1
abbrev pub per_byte_limit : ℕ
per_byte_limit = 1048575

-- the most operations of a rank in a certified schedule: 2^11
abbrev pub certified_op_limit : ℕ
certified_op_limit = 2048

-- the highest slot that a note of a certified schedule names: 2^16-1
abbrev pub slot_limit : ℕ
slot_limit = 65535

-- the most slots that all notes of a certified schedule move
abbrev pub moved_limit : ℕ
moved_limit = 2 ^ 24

-- the most contributions that are held at once during certification
abbrev pub weight_limit : ℕ
weight_limit = 2 ^ 24

-- The most ranks of a generated barrier or allreduce that is certified: with more, the contributions at the end of its
-- walk exceed `weight_limit`. A scan exists for as many ranks (`most_ranks`), which is another number.
abbrev pub certified_rank_limit : ℕ
certified_rank_limit = 2048
