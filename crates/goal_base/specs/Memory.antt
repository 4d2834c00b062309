-- Devices in memory, and their state after each call.
use Rattle.std.specs.Prelude.{◌≡◌, ℕ, ◌^◌, ◌<◌, Bool, true, false, List, [], ◌++◌, drop, Option, Some, None, refl}
use Rattle.std.specs.Coded.{Coded, code_by, coded×, coded_ℕ, coded_bool, coded_list, coded_option}
use Rattle.std.specs.FinMap.{insert, empty, code}
use Rattle.goal_base.specs.Calls.{CallPlan, next_call}
use Rattle.goal_base.specs.Device.{HostState, SinkState, Files, risen_from}
use Rattle.goal_base.specs.DeviceCalls.{appended_to}

-- A host in memory: its state, the most bytes that a read or a write moves, and the calls that fail.
pub record MemHostState : Type 0 where
  pub state : HostState
  pub most : ℕ
  pub calls : CallPlan

-- values of these types are equal where their parts are
abbrev files_code : Coded Files
files_code = code (coded_list coded_ℕ) (coded_list coded_ℕ)

abbrev Parts : Type 0
Parts = Bool × (Files × (List ℕ × (Option (List ℕ) × (Bool × (Bool × (ℕ × (ℕ × (ℕ × Bool))))))))

abbrev state_code : Coded HostState
state_code = code_by Parts
    (coded× coded_bool (coded× files_code (coded× (coded_list coded_ℕ) (coded× (coded_option (coded_list coded_ℕ))
    (coded× coded_bool (coded× coded_bool (coded× coded_ℕ (coded× coded_ℕ (coded× coded_ℕ coded_bool)))))))))
    (λ s. (s.tells, (s.files, (s.rest, (s.output, (s.reading, (s.writing, (s.read_count, (s.absent_count, (s.write_count, s.stops))))))))))
    (λ p. record {
      tells = p.0;
      files = p.1.0;
      rest = p.1.1.0;
      output = p.1.1.1.0;
      reading = p.1.1.1.1.0;
      writing = p.1.1.1.1.1.0;
      read_count = p.1.1.1.1.1.1.0;
      absent_count = p.1.1.1.1.1.1.1.0;
      write_count = p.1.1.1.1.1.1.1.1.0;
      stops = p.1.1.1.1.1.1.1.1.1;
    })
    (λ _. refl)

abbrev pub host_code : Coded MemHostState
host_code = code_by (HostState × (ℕ × (List ℕ × ℕ))) (coded× state_code (coded× coded_ℕ (coded× (coded_list coded_ℕ) coded_ℕ)))
    (λ h. (h.state, (h.most, (h.calls.fails, h.calls.made))))
    (λ p. record { state = p.0; most = p.1.0; calls = record { fails = p.1.1.0; made = p.1.1.1 } })
    (λ _. refl)

-- it moves at least one byte per call, its contents are known, and its counts fit 64 bits and stop at 2^64-1
pub record IsMemHost (host : MemHostState) : Type 0 where
  pub most : 0 < host.most
  pub tells : host.state.tells ≡ true
  pub stops : host.state.stops ≡ true
  pub read_count : host.state.read_count < 2 ^ 64
  pub absent_count : host.state.absent_count < 2 ^ 64
  pub write_count : host.state.write_count < 2 ^ 64

-- a new host: it has no files, nothing is open, and no call was made
abbrev pub new_host : ℕ → List ℕ → MemHostState
new_host most fails = record {
  state = record {
    tells = true;
    files = empty;
    rest = [];
    output = None;
    reading = false;
    writing = false;
    read_count = 0;
    absent_count = 0;
    write_count = 0;
    stops = true;
  };
  most = most;
  calls = record { fails = fails; made = 0 };
}

-- the host after another call, with this state
abbrev pub after_call : MemHostState → HostState → MemHostState
after_call host state = record host { state = state; calls = next_call host.calls }

-- the state after a failed call of `open` or `read`
abbrev pub with_read_fault : HostState → HostState
with_read_fault s = record s { read_count = risen_from true s.read_count }

-- the state after `open` with a name that no file has
abbrev pub with_absent_name : HostState → HostState
with_absent_name s = record s { absent_count = risen_from true s.absent_count }

-- the state after a failed call of `create`, `write` or `finish`
abbrev pub with_write_fault : HostState → HostState
with_write_fault s = record s { write_count = risen_from true s.write_count }

-- the state after opening a file with these bytes as the input
abbrev pub with_input : HostState → List ℕ → HostState
with_input s bytes = record s { rest = bytes; reading = true }

-- the state after reading n bytes of the input
abbrev pub with_taken : HostState → ℕ → HostState
with_taken s n = record s { rest = drop n s.rest }

-- the state after creating an empty file of that name and opening it as the output
abbrev pub with_created : HostState → List ℕ → HostState
with_created s name = record s { files = insert s.files name []; output = Some name; writing = true }

-- the state after appending these bytes to the output
abbrev pub with_appended : HostState → List ℕ → HostState
with_appended s bytes = record s { files = appended_to s.output s.files bytes }

-- the state after closing the output
abbrev pub with_no_output : HostState → HostState
with_no_output s = record s { output = None; writing = false }

-- the host after adding this file
abbrev pub with_file : MemHostState → List ℕ → List ℕ → MemHostState
with_file host name bytes = record host { state = record host.state { files = insert host.state.files name bytes } }

-- A sink in memory: its state, the most bytes that a write moves, and the calls that fail.
pub record MemSinkState : Type 0 where
  pub state : SinkState
  pub most : ℕ
  pub calls : CallPlan

-- it moves at least one byte per call, its bytes are known, and its count does not stop
pub record IsMemSink (sink : MemSinkState) : Type 0 where
  pub most : 0 < sink.most
  pub tells : sink.state.tells ≡ true
  pub stops : sink.state.stops ≡ false

-- a new sink: it has no bytes, and no call was made
abbrev pub new_sink : ℕ → List ℕ → MemSinkState
new_sink most fails = record {
  state = record { tells = true; bytes = []; count = 0; stops = false };
  most = most;
  calls = record { fails = fails; made = 0 };
}

-- the sink after another call, with this state
abbrev pub after_sink_call : MemSinkState → SinkState → MemSinkState
after_sink_call sink state = record sink { state = state; calls = next_call sink.calls }

-- the state after a failed write
abbrev pub with_fault : SinkState → SinkState
with_fault s = record s { count = risen_from false s.count }

-- the state after appending these bytes
abbrev pub with_bytes : SinkState → List ℕ → SinkState
with_bytes s bytes = record s { bytes = s.bytes ++ bytes }
