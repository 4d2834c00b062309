-- The defaults of the parameters, and the limit of the picoseconds per byte. The constants of the code are these
-- numbers: `laws_of_defaults` says so.
use Rattle.std.specs.Prelude.{ℕ}

-- the latency L, in nanoseconds
abbrev pub default_latency : ℕ
default_latency = 2500

-- the overhead o, in nanoseconds
abbrev pub default_overhead : ℕ
default_overhead = 1500

-- the gap g, in nanoseconds
abbrev pub default_gap : ℕ
default_gap = 1000

-- the gap per byte G, in nanoseconds per byte
abbrev pub default_gap_per_byte : ℕ
default_gap_per_byte = 6

-- the overhead per byte O, in nanoseconds per byte
abbrev pub default_overhead_per_byte : ℕ
default_overhead_per_byte = 0

-- the greatest eager size S, in bytes
abbrev pub default_sync : ℕ
default_sync = 65535

-- the limit of Gp and Op, the picoseconds per byte that are added to G and O
abbrev pub picos_limit : ℕ
picos_limit = 999
