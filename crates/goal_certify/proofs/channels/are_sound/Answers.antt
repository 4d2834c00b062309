-- The two of each pair have as many slots.
use Rattle.std.proofs.Common.{◌+◌, ◌*◌, false, sym, ◌∙◌, arith}
use Rattle.goal_certify.specs.declared.ends.OpAtEnd.{OpAtEnd}
use Rattle.goal_certify.proofs.Pairs.{alike_with_next_pair, end_has_op, paired_free}
use Rattle.goal_certify.proofs.Passes.{count_read}
use Rattle.goal_certify.proofs.channels.are_sound.Goals as goal

abbrev none : OpAtEnd
none = record { end = record { source = 0; target = 0; tag = 0; is_send = false }; op = record { rank = 0; op = 0 } }

pub index-requires : goal.index-requires
index-requires c =
    end_has_op c.args.sched.now c.args.ends.now c.requires.ends _ (2 * c.loop-number.number) none (c.pair.ensures.receive none) (omega (arith, c.in-Some.ensures.all, c.loop-number-test.true))

pub index-requires-in-loop-number : goal.index-requires-in-loop-number
index-requires-in-loop-number c =
    end_has_op c.args.sched.now c.args.ends.now c.requires.ends _ (2 * c.loop-number.number + 1) none (c.pair.ensures.send none) (omega (arith, c.in-Some.ensures.all, c.loop-number-test.true))

pub loop-number-preserved : goal.loop-number-preserved
loop-number-preserved c =
    let received = count_read _ _ _ _ c.requires.counts c.index.ensures.index in
    let sent = count_read _ _ _ _ c.requires.counts c.index-in-loop-number.ensures.index in
    alike_with_next_pair c.args.sched.now c.args.ends.now c.loop-number.number _ _ c.loop-number.invariant c.pair.ensures.receive c.pair.ensures.send (sym received ∙ c.if-counts-index.false ∙ sent)

pub returns : goal.returns
returns c = λ t.
    paired_free c.args.sched.now c.args.ends.now c.requires.ends c.in-Some.pairs c.in-Some.ensures c.requires.no_wildcard (λ k d l. c.loop-number.invariant k d (omega (arith, l, c.loop-number-test.false)))
