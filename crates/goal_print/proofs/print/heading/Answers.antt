use Rattle.std.proofs.Common.{refl}
use Rattle.goal_print.specs.Canonical.{canonical}
use Rattle.goal_print.proofs.RoundTrip.{reads_canonical}
use Rattle.goal_print.proofs.print.heading.Goals as goal

pub returns-clause-canonical : goal.returns-clause-canonical
unfolding canonical
returns-clause-canonical c = rw (c.into_bytes.ensures, c.in_ok-put_heading.ensures, c.new-out.ensures, c.plans-plans.ensures.plans) refl

pub returns-clause-read_back : goal.returns-clause-read_back
returns-clause-read_back c =
    let known = c.plans-plans.ensures in
    reads_canonical c.args.sched.now known.accepted known.counts known.widths
