-- What contracts know of the files and streams of the system: what is open, and the counts, which stop at 2^64-1.
use Rattle.std.specs.Prelude.{ℕ, Bool, true, false, [], None}
use Rattle.std.specs.FinMap.{empty}
use Rattle.goal_base.specs.Device.{HostState, SinkState}

-- a host whose contents are not known
abbrev pub untold_host : Bool → Bool → ℕ → ℕ → ℕ → HostState
untold_host reading writing reads absent writes = record {
  tells = false;
  files = empty;
  rest = [];
  output = None;
  reading = reading;
  writing = writing;
  read_count = reads;
  absent_count = absent;
  write_count = writes;
  stops = true;
}

-- a sink whose bytes are not known
abbrev pub untold_sink : ℕ → SinkState
untold_sink faults = record { tells = false; bytes = []; count = faults; stops = true }
