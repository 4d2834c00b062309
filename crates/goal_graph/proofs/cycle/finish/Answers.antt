-- Each operation of the row misses one need fewer.
use Rattle.std.proofs.Common.{get_or, sym, ◌∙◌, arith}
use Rattle.std.proofs.lemmas.List.{get_or_default, get_or_append_left, length_push, take_all}
use Rattle.std.proofs.lemmas.Bool.{true≢false}
use Rattle.goal_graph.proofs.Searching.{no_need, entry-in_rank, entry-positive, entry-waits, entry-ready, entry-sum, IsSearch-finish}
use Rattle.goal_graph.proofs.Places.{no_plan, IsOp-below}
use Rattle.goal_graph.proofs.cycle.finish.Goals as goal
use Rattle.goal_graph.proofs.cycle.finish.Goals.{then-take_off+in_ok-push, else-take_off}

pub waiting_on-waiting-items-requires : goal.waiting_on-waiting-items-requires
waiting_on-waiting-items-requires c =
    let read = c.index-op.ensures ∙ get_or_default c.args.order.now.items c.args.done _ 0 c.requires.next in
    IsOp-below c.args.tables.now _ c.requires.rank (omega (arith, read, c.requires.search.in_rank c.args.done c.requires.next, c.requires.covers no_plan))

pub take_off-requires-clause-in_rank : goal.take_off-requires-clause-in_rank
take_off-requires-clause-in_rank c =
    let i = c.loop-waiting.invariant in
    entry-in_rank c.args.tables.now c.requires.plain c.args.rank c.requires.rank _ _ c.args.done _ _ _ i.search (λ p. c.loop-waiting.auto.missing ∙ c.requires.covers p) i.next i.here c.waiting_on-waiting-items.ensures c.loop-waiting-test.true

pub take_off-requires-clause-some : goal.take_off-requires-clause-some
take_off-requires-clause-some c =
    let i = c.loop-waiting.invariant in
    entry-positive c.args.tables.now c.requires.plain c.args.rank c.requires.rank _ _ c.args.done _ _ _ i.search (λ p. c.loop-waiting.auto.missing ∙ c.requires.covers p) i.next i.here c.waiting_on-waiting-items.ensures c.loop-waiting-test.true

pub loop-waiting-preserved : goal.loop-waiting-preserved
loop-waiting-preserved c =
    let i = c.loop-waiting.invariant in
    let total = entry-sum c.args.tables.now c.requires.plain c.args.rank c.requires.rank _ _ c.args.done _ _ _ i.search (λ p. c.loop-waiting.auto.missing ∙ c.requires.covers p) i.next i.here c.waiting_on-waiting-items.ensures c.loop-waiting-test.true in
    elim c.if-take_off.branch [
      | then-take_off+in_ok-push w ↦
          let ready = entry-ready c.args.tables.now c.requires.plain c.args.rank c.requires.rank _ _ c.args.done _ _ _ i.search (λ p. c.loop-waiting.auto.missing ∙ c.requires.covers p) i.next i.here c.waiting_on-waiting-items.ensures c.loop-waiting-test.true in
          let longer = length_push c.loop-waiting.order.items (get_or c.waiting_on-waiting-items.result.now c.loop-waiting.waiting-index no_need).op in
          record {
            search = rw (c.take_off.ensures.less, w.order-is, w.in_ok-push.ensures.items) (ready (c.take_off.ensures.none.0 w.if-take_off.true));
            next = rw (w.order-is, w.in_ok-push.ensures.items) (omega (arith, longer, i.next));
            here = rw (w.order-is, w.in_ok-push.ensures.items) (get_or_append_left c.loop-waiting.order.items _ 0 c.args.done i.next ∙ i.here);
            shrinks = rw (c.take_off.ensures.less, w.order-is, w.in_ok-push.ensures.items) (omega (arith, longer, total, i.shrinks));
          }
      | else-take_off w ↦
          let waits = entry-waits c.args.tables.now c.requires.plain c.args.rank c.requires.rank _ _ c.args.done _ _ _ i.search (λ p. c.loop-waiting.auto.missing ∙ c.requires.covers p) i.next i.here c.waiting_on-waiting-items.ensures c.loop-waiting-test.true in
          record {
            search = rw (c.take_off.ensures.less, w.order-is) (waits (λ none. true≢false (sym (c.take_off.ensures.none.1 none) ∙ w.if-take_off.false)));
            next = rw w.order-is i.next;
            here = rw w.order-is i.here;
            shrinks = rw (c.take_off.ensures.less, w.order-is) (omega (arith, total, i.shrinks));
          }
    ]

pub returns-clause-search : goal.returns-clause-search
returns-clause-search c =
    let i = c.loop-waiting.invariant in
    let s = rw (take_all c.loop-waiting.waiting-index c.waiting_on-waiting-items.result.now c.loop-waiting-test.false) at i.search in
    IsSearch-finish c.args.tables.now c.args.rank _ _ c.args.done _ s i.next (rw i.here c.waiting_on-waiting-items.ensures)
