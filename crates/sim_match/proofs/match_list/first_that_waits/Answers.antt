use Rattle.std.proofs.Common.{ℕ, ◌<◌, ◌≡◌, true, None, length, arith, sym, ◌∙◌, subst}
use Rattle.std.proofs.lemmas.List.{get_or_default}
use Rattle.std.proofs.lemmas.List.Elements.{All-more}
use Rattle.goal_graph.specs.Schedule.{operations}
use Rattle.sim_match.specs.declared.match_list.MatchEntry.{MatchEntry}
use Rattle.sim_match.specs.MatchLists.{is_marked, IsFirst}
use Rattle.sim_match.proofs.MatchListLemmas.{first_unmarked_found, no_unmarked_left}
use Rattle.sim_match.proofs.match_list.first_that_waits.Goals as goal

pub loop-at-init : goal.loop-at-init
loop-at-init c = record {
  skipped = (c.requires.ready 0).skipped;
  counted = c.requires.counted;
  looks = omega arith;
  less = omega arith;
}

pub is_marked-requires-clause-op : goal.is_marked-requires-clause-op
is_marked-requires-clause-op c = (c.requires.ready 0).exist c.loop-at.at _ (omega arith)

pub is_marked-requires-clause-long : goal.is_marked-requires-clause-long
is_marked-requires-clause-long c = (c.requires.ready 0).long

pub is_marked-requires-clause-counted : goal.is_marked-requires-clause-counted
is_marked-requires-clause-counted c =
    let inside : c.loop-at.at < length c.args.entries.now = omega arith in
    omega (arith, inside, c.loop-at.invariant.counted)

pub returns-then-not-is_marked-clause-looks : goal.returns-then-not-is_marked-clause-looks
returns-then-not-is_marked-clause-looks c = omega (arith, c.is_marked.ensures.looks, c.loop-at.invariant.looks)

pub returns-then-not-is_marked-clause-less : goal.returns-then-not-is_marked-clause-less
returns-then-not-is_marked-clause-less c = omega (arith, c.is_marked.ensures.looks, c.loop-at.invariant.less)

pub returns-then-not-is_marked-clause-first : goal.returns-then-not-is_marked-clause-first
returns-then-not-is_marked-clause-first c = λ room.
    let inside : c.loop-at.at < length c.args.entries.now = omega arith in
    first_unmarked_found (is_marked (operations c.args.sched.now) c.args.marks.now) c.args.entries.now c.loop-at.at c.args.head room c.loop-at.invariant.skipped _ inside (get_or_default c.args.entries.now c.loop-at.at _ _ inside) (sym c.is_marked.ensures.tells ∙ c.if-not-is_marked.true)

pub loop-at-preserved : goal.loop-at-preserved
loop-at-preserved c =
    let inside : c.loop-at.at < length c.args.entries.now = omega arith in
    record {
      skipped = All-more (λ (e : MatchEntry). is_marked (operations c.args.sched.now) c.args.marks.now e.op ≡ true) c.args.entries.now c.loop-at.at _ inside c.loop-at.invariant.skipped (sym c.is_marked.ensures.tells ∙ c.if-not-is_marked.false);
      counted = omega (arith, c.is_marked.ensures.looks, c.loop-at.invariant.counted);
      looks = omega (arith, c.is_marked.ensures.looks, c.loop-at.invariant.looks);
      less = omega (arith, c.is_marked.ensures.looks, c.loop-at.invariant.less);
    }

pub returns-clause-first : goal.returns-clause-first
returns-clause-first c = λ room.
    let low = c.loop-at.auto.at-end (omega (arith, (c.requires.ready 0).within)) in
    let at_end : c.loop-at.at ≡ length c.args.entries.now = omega (arith, c.loop-at-test.false, low) in
    subst (λ (n : ℕ). IsFirst (is_marked (operations c.args.sched.now) c.args.marks.now) (record { entries = c.args.entries.now; head = c.args.head; room = room }) (record { entries = c.args.entries.now; head = n; room = room }) None) at_end (no_unmarked_left (is_marked (operations c.args.sched.now) c.args.marks.now) c.args.entries.now c.loop-at.at c.args.head room c.loop-at.invariant.skipped at_end)

pub returns-clause-looks : goal.returns-clause-looks
returns-clause-looks c =
    let low = c.loop-at.auto.at-end (omega (arith, (c.requires.ready 0).within)) in
    omega (arith, c.loop-at-test.false, low, c.loop-at.invariant.looks)

pub returns-clause-less : goal.returns-clause-less
returns-clause-less c = c.loop-at.invariant.less
