use Rattle.std.proofs.Common.{refl, inl, inr, rules}
use Rattle.goal_words.specs.Requests.{requested}
use Rattle.goal_cli.specs.World.{devices}
use Rattle.goal_cli.specs.Pages.{text_of}
use Rattle.goal_cli.proofs.AnswerLemmas.{refused_of, written_from, cut_off_from, rose_from}
use Rattle.goal_cli.proofs.command.write_output.Goals as goal

pub returns-in-Err-Refused-clause-cause : goal.returns-in-Err-Refused-clause-cause
returns-in-Err-Refused-clause-cause g c =
    λ first later kept counts read got. rw c.in-Err-Refused.refusal-is (
      refused_of first (requested c.args.request.now) c.args.work.now.sched c.args.work.now.machine.items c.in-Err-Refused.field-0
          c.in-Err-Refused.refusal (search rules) got (rw c.deref.ensures.value at c.in-Err-Refused.ensures.stop),
      counts,
      record { files = kept; sink = refl },
      read,
    )

pub returns-in-Ok-written-clause-cause : goal.returns-in-Ok-written-clause-cause
returns-in-Ok-written-clause-cause g c =
    λ first later kept counts read got.
    written_from first (g.H.Host.state c.args.host.now) (g.W.Sink.state c.args.out.now)
    (devices (g.H.Host.state c.put-written.new.host) (g.W.Sink.state c.put-written.new.out)) kept later (requested c.args.request.now)
    c.args.work.now.sched c.args.work.now.machine.items (text_of c.in-Ok.output) c.in-Ok.output.ending got counts
    (rw c.deref.ensures.value at c.in-Ok.ensures.output) c.in-Ok.ensures.ends c.in-Ok-written.ensures.whole.0
    c.in-Ok-written.ensures.whole.1 c.put-written.ensures.kept.counts c.put-written.ensures.elsewhere

pub returns-in-Err-Failed-clause-cause : goal.returns-in-Err-Failed-clause-cause
returns-in-Err-Failed-clause-cause g c =
    λ first later kept counts read got.
    let before = g.H.Host.state c.args.host.now in
    let new = devices (g.H.Host.state c.put-written.new.host) (g.W.Sink.state c.put-written.new.out) in (
      cut_off_from first before (g.W.Sink.state c.args.out.now) new kept later (requested c.args.request.now)
          c.args.work.now.sched c.args.work.now.machine.items (text_of c.in-Ok.output) c.in-Ok.output.ending got counts
          (rw c.deref.ensures.value at c.in-Ok.ensures.output) (search rules) c.put-written.ensures.kept.counts
          c.put-written.ensures.elsewhere,
      rose_from first before (g.W.Sink.state c.args.out.now) new kept later _ (search rules),
    )

pub returns-in-Err-NoMemory-written-clause-cause : goal.returns-in-Err-NoMemory-written-clause-cause
returns-in-Err-NoMemory-written-clause-cause g c =
    λ first later kept counts read got.
    inr (cut_off_from first (g.H.Host.state c.args.host.now) (g.W.Sink.state c.args.out.now)
    (devices (g.H.Host.state c.put-written.new.host) (g.W.Sink.state c.put-written.new.out)) kept later (requested c.args.request.now)
    c.args.work.now.sched c.args.work.now.machine.items (text_of c.in-Ok.output) c.in-Ok.output.ending got counts
    (rw c.deref.ensures.value at c.in-Ok.ensures.output) (search rules) c.put-written.ensures.kept.counts
    c.put-written.ensures.elsewhere)

pub returns-in-Err-NoMemory-clause-cause : goal.returns-in-Err-NoMemory-clause-cause
returns-in-Err-NoMemory-clause-cause g c = λ first later kept counts read got. inl (record { files = kept; sink = refl })
