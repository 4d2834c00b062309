use Rattle.std.proofs.Common.{◌++◌, take, rules, arith, length-append, length-take}
use Rattle.goal_base.proofs.ForCallers.{takes_joined_bytes, takes_if_rest_unchanged, rest_too_long_if_taken_too_long, later_is_transitive, keeps_files_is_transitive, same_read_counts_is_transitive, rose_after_same_read_counts}
use Rattle.goal_base.proofs.read.read_rest.Goals as goal

pub returns-in_err-extend_from_slice-clause-taken : goal.returns-in_err-extend_from_slice-clause-taken
returns-in_err-extend_from_slice-clause-taken g c =
    let more = take c.in-Ok.count c.read.new.buf in (
      c.pieces.bytes.items ++ more,
      omega (arith, length-append c.pieces.bytes.items more, length-take c.in-Ok.count c.read.new.buf, length-take c.min-room.result c.pieces.buffer, c.read.auto.buf, c.in-Ok.ensures.bound, c.pieces.bytes.ok.0, c.len-in-pieces.ensures, c.min-room.ensures),
      takes_joined_bytes _ _ _ _ _ c.pieces.invariant.taken c.pieces.invariant.later.tells c.in-Ok.ensures.taken,
    )

pub returns-in-Err-Failed-clause-call : goal.returns-in-Err-Failed-clause-call
returns-in-Err-Failed-clause-call g c =
    let old = g.H.Host.state c.args.host.now in
    let was = g.H.Host.state c.pieces.host in
    let now = g.H.Host.state c.read.new.self in
    record {
      counts = rose_after_same_read_counts old was now c.pieces.invariant.later c.pieces.invariant.counts (search rules);
      kept = keeps_files_is_transitive old was now c.pieces.invariant.later c.pieces.invariant.kept c.read.ensures.call.kept;
      later = later_is_transitive old was now c.pieces.invariant.later c.read.ensures.call.later;
    }

pub returns-in-Err-NoMemory-clause-call : goal.returns-in-Err-NoMemory-clause-call
returns-in-Err-NoMemory-clause-call g c =
    let old = g.H.Host.state c.args.host.now in
    let was = g.H.Host.state c.pieces.host in
    let now = g.H.Host.state c.read.new.self in
    record {
      counts = search (rules, c.pieces.invariant.counts);
      kept = keeps_files_is_transitive old was now c.pieces.invariant.later c.pieces.invariant.kept c.read.ensures.call.kept;
      later = later_is_transitive old was now c.pieces.invariant.later c.read.ensures.call.later;
    }

pub returns-then-count-eq0-clause-call : goal.returns-then-count-eq0-clause-call
returns-then-count-eq0-clause-call g c =
    let old = g.H.Host.state c.args.host.now in
    let was = g.H.Host.state c.pieces.host in
    let now = g.H.Host.state c.read.new.self in
    record {
      counts = same_read_counts_is_transitive old was now c.pieces.invariant.counts record { read_count = c.in-Ok.ensures.call.count; absent_count = c.read.ensures.call.absent_count };
      kept = keeps_files_is_transitive old was now c.pieces.invariant.later c.pieces.invariant.kept c.read.ensures.call.kept;
      later = later_is_transitive old was now c.pieces.invariant.later c.read.ensures.call.later;
    }

pub returns-in-Err-Failed-clause-taken : goal.returns-in-Err-Failed-clause-taken
returns-in-Err-Failed-clause-taken g c =
    let kept = c.pieces.invariant in
    (c.pieces.bytes.items, kept.within, takes_if_rest_unchanged _ _ _ _ kept.taken kept.later.tells (search rules))

pub returns-in-Err-NoMemory-clause-taken : goal.returns-in-Err-NoMemory-clause-taken
returns-in-Err-NoMemory-clause-taken g c =
    let kept = c.pieces.invariant in
    (c.pieces.bytes.items, kept.within, takes_if_rest_unchanged _ _ _ _ kept.taken kept.later.tells (search rules))

pub returns-clause-too_long : goal.returns-clause-too_long
returns-clause-too_long g c =
    λ long. rest_too_long_if_taken_too_long (g.H.Host.state c.args.host.now) (g.H.Host.state c.pieces.host) c.pieces.bytes.items c.pieces.invariant.taken (search (rules, arith))

pub returns-clause-call : goal.returns-clause-call
returns-clause-call g c =
    record { counts = c.pieces.invariant.counts; kept = c.pieces.invariant.kept; later = c.pieces.invariant.later }

pub returns-clause-taken : goal.returns-clause-taken
returns-clause-taken g c = (c.pieces.bytes.items, c.pieces.invariant.within, c.pieces.invariant.taken)
