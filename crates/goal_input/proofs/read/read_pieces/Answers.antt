use Rattle.std.proofs.Common.{◌≡◌, ◌≤◌, ◌++◌, take, length, arith, rules, length-append, length-take}
use Rattle.std.proofs.lemmas.List.{take-append-le}
use Rattle.goal_base.proofs.ForCallers.{takes_joined_bytes, takes_if_rest_unchanged, rest_too_long_if_taken_too_long, later_is_transitive, keeps_files_is_transitive, same_read_counts_is_transitive, rose_after_same_read_counts}
use Rattle.goal_input.proofs.IntakeLemmas.{counts_at_end}
use Rattle.goal_input.proofs.read.read_pieces.Goals as goal

pub returns-then-count-eq0-clause-taken : goal.returns-then-count-eq0-clause-taken
returns-then-count-eq0-clause-taken g c =
    let was = c.pieces.invariant.has in
    let more = take c.in-Ok.count c.read.new.buf in (
      was.input ++ more,
      omega (arith, length-append was.input more, length-take c.in-Ok.count c.read.new.buf),
      takes_joined_bytes _ _ _ _ _ was.takes c.pieces.invariant.later.tells c.in-Ok.ensures.taken,
    )

pub returns-in_err-intake-clause-taken : goal.returns-in_err-intake-clause-taken
returns-in_err-intake-clause-taken g c =
    let was = c.pieces.invariant.has in
    let more = take c.in-Ok.count c.read.new.buf in (
      was.input ++ more,
      omega (arith, length-append was.input more, length-take c.in-Ok.count c.read.new.buf, length-take c.min-room.result c.pieces.buffer, c.read.auto.buf, c.in-Ok.ensures.bound, c.min-room.ensures),
      takes_joined_bytes _ _ _ _ _ was.takes c.pieces.invariant.later.tells c.in-Ok.ensures.taken,
    )

pub pieces-preserved : goal.pieces-preserved
pieces-preserved g c =
    let old = g.H.Host.state c.args.host.now in
    let was = g.H.Host.state c.pieces.host in
    let now = g.H.Host.state c.read.new.self in
    let has = c.pieces.invariant.has in
    let more = take c.in-Ok.count c.read.new.buf in
    let bound : c.in-Ok.count ≤ length c.read.new.buf = c.in-Ok.ensures.bound in
    let counted : length more ≡ c.in-Ok.count = omega (arith, length-take c.in-Ok.count c.read.new.buf) in
    record {
      within = omega (arith, length-take c.min-room.result c.pieces.buffer, c.read.auto.buf, c.in-Ok.ensures.bound, c.min-room.ensures);
      buffer = search rules;
      has = record {
        input = has.input ++ more;
        counted = omega (arith, length-append has.input more, has.counted);
        stands = rw take-append-le at (c.in_ok-intake.ensures has.input has.stands);
        takes = takes_joined_bytes _ _ _ _ _ has.takes c.pieces.invariant.later.tells c.in-Ok.ensures.taken;
      };
      counts = same_read_counts_is_transitive old was now c.pieces.invariant.counts record { read_count = c.in-Ok.ensures.call.count; absent_count = c.read.ensures.call.absent_count };
      reading = c.read.ensures.reading;
      kept = keeps_files_is_transitive old was now c.pieces.invariant.later c.pieces.invariant.kept c.read.ensures.call.kept;
      later = later_is_transitive old was now c.pieces.invariant.later c.read.ensures.call.later;
    }

pub returns-in-Err-Failed-clause-call : goal.returns-in-Err-Failed-clause-call
returns-in-Err-Failed-clause-call g c =
    let old = g.H.Host.state c.args.host.now in
    let was = g.H.Host.state c.pieces.host in
    let now = g.H.Host.state c.read.new.self in
    record {
      counts = rose_after_same_read_counts old was now c.pieces.invariant.later c.pieces.invariant.counts (search rules);
      kept = keeps_files_is_transitive old was now c.pieces.invariant.later c.pieces.invariant.kept c.read.ensures.call.kept;
      later = later_is_transitive old was now c.pieces.invariant.later c.read.ensures.call.later;
    }

pub returns-in-Err-NoMemory-clause-call : goal.returns-in-Err-NoMemory-clause-call
returns-in-Err-NoMemory-clause-call g c =
    let old = g.H.Host.state c.args.host.now in
    let was = g.H.Host.state c.pieces.host in
    let now = g.H.Host.state c.read.new.self in
    record {
      counts = same_read_counts_is_transitive old was now c.pieces.invariant.counts record { read_count = search rules; absent_count = c.read.ensures.call.absent_count };
      kept = keeps_files_is_transitive old was now c.pieces.invariant.later c.pieces.invariant.kept c.read.ensures.call.kept;
      later = later_is_transitive old was now c.pieces.invariant.later c.read.ensures.call.later;
    }

pub returns-then-count-eq0-clause-call : goal.returns-then-count-eq0-clause-call
returns-then-count-eq0-clause-call g c =
    let old = g.H.Host.state c.args.host.now in
    let was = g.H.Host.state c.pieces.host in
    let now = g.H.Host.state c.read.new.self in
    record {
      counts = counts_at_end c.finish.result old now _ c.pieces.intake c.pieces.invariant.has.input
          (same_read_counts_is_transitive old was now c.pieces.invariant.counts record { read_count = c.in-Ok.ensures.call.count; absent_count = c.read.ensures.call.absent_count })
          c.finish.ensures.input_fault (omega (arith, c.pieces.invariant.has.counted)) c.pieces.invariant.has.stands;
      kept = keeps_files_is_transitive old was now c.pieces.invariant.later c.pieces.invariant.kept c.read.ensures.call.kept;
      later = later_is_transitive old was now c.pieces.invariant.later c.read.ensures.call.later;
    }

pub returns-in-Err-Failed-clause-taken : goal.returns-in-Err-Failed-clause-taken
returns-in-Err-Failed-clause-taken g c =
    let has = c.pieces.invariant.has in
    (has.input, omega (arith, has.counted), takes_if_rest_unchanged _ _ _ _ has.takes c.pieces.invariant.later.tells (search rules))

pub returns-in-Err-NoMemory-clause-taken : goal.returns-in-Err-NoMemory-clause-taken
returns-in-Err-NoMemory-clause-taken g c =
    let has = c.pieces.invariant.has in
    (has.input, omega (arith, has.counted), takes_if_rest_unchanged _ _ _ _ has.takes c.pieces.invariant.later.tells (search rules))

pub returns-clause-input_fault : goal.returns-clause-input_fault
returns-clause-input_fault g c =
    let has = c.pieces.invariant.has in
    rest_too_long_if_taken_too_long (g.H.Host.state c.args.host.now) (g.H.Host.state c.pieces.host) has.input has.takes (omega (arith, has.counted))

pub returns-clause-call : goal.returns-clause-call
returns-clause-call g c =
    record { counts = c.pieces.invariant.counts; kept = c.pieces.invariant.kept; later = c.pieces.invariant.later }

pub returns-clause-taken : goal.returns-clause-taken
returns-clause-taken g c =
    let has = c.pieces.invariant.has in
    (has.input, omega (arith, has.counted), has.takes)
