use Rattle.std.proofs.Common.{ℕ, ◌≡◌, List, length, refl, sym, ap, ◌∙◌, subst, arith}
use Rattle.sim_cycles.specs.Walks.{after}
use Rattle.sim_cycles.specs.Places.{target_at, is_unseen, AreMarks}
use Rattle.sim_cycles.specs.declared.heads.Mark.TheVariants.{OnWay}
use Rattle.sim_cycles.proofs.Walks.{after_zero}
use Rattle.sim_cycles.proofs.Marks.{marks_begin, marks_pushed, known_head, ring_head, start_seen, next_place_of_way, seen_marks_stay_after_set}
use Rattle.sim_cycles.proofs.heads.walk.Goals as goal

pub loop-marks-init : goal.loop-marks-init
loop-marks-init c =
    let ts = c.args.targets.now in
    let start = c.args.start in record {
      marks = subst (AreMarks ts c.args.marks.now start) (sym c.requires.blank) (marks_begin ts c.args.marks.now start c.requires.settled);
      there = sym (after_zero (target_at ts) start) ∙ ap (λ (w : List ℕ). after (target_at ts) (length w) start) (sym c.requires.blank);
      inside = c.requires.start;
      stay = λ i h. h;
    }

pub returns-in-Known-clause-head : goal.returns-in-Known-clause-head
returns-in-Known-clause-head c =
    known_head c.args.targets.now c.loop-marks.marks c.args.start c.loop-marks.at c.in-Known.head c.loop-marks.way.items c.loop-marks.invariant.marks c.loop-marks.invariant.there c.in-Known.is

pub returns-in-Known-clause-seen : goal.returns-in-Known-clause-seen
returns-in-Known-clause-seen c =
    start_seen c.args.targets.now c.loop-marks.marks c.args.start c.loop-marks.at c.loop-marks.way.items c.loop-marks.invariant.marks c.loop-marks.invariant.there (ap is_unseen c.in-Known.is)

pub least-requires : goal.least-requires
least-requires c =
    omega (arith, (c.loop-marks.invariant.marks.on_way _ _ c.in-OnWay.is).0, ap length c.deref.ensures.value)

pub returns-in-OnWay-clause-head : goal.returns-in-OnWay-clause-head
returns-in-OnWay-clause-head c =
    let among = rw c.deref.ensures.value at c.least.ensures.among in
    let least = rw c.deref.ensures.value at c.least.ensures.least in
    ring_head c.args.targets.now c.loop-marks.marks c.args.start c.loop-marks.at c.in-OnWay.first c.least.result c.loop-marks.way.items c.loop-marks.invariant.marks c.loop-marks.invariant.there c.in-OnWay.is among least

pub returns-in-OnWay-clause-seen : goal.returns-in-OnWay-clause-seen
returns-in-OnWay-clause-seen c =
    start_seen c.args.targets.now c.loop-marks.marks c.args.start c.loop-marks.at c.loop-marks.way.items c.loop-marks.invariant.marks c.loop-marks.invariant.there (ap is_unseen c.in-OnWay.is)

pub loop-marks-preserved : goal.loop-marks-preserved
loop-marks-preserved c =
    let ts = c.args.targets.now in
    let i = c.loop-marks.invariant in
    let n : c.len.result ≡ length c.loop-marks.way.items = omega (arith, c.len.ensures, c.loop-marks.way.ok.0) in record {
      marks = marks_pushed ts c.loop-marks.marks c.args.start c.loop-marks.at c.len.result c.loop-marks.way.items c.push.new.self.items i.marks i.there i.inside c.in-Unseen.is n c.in_ok-push-in-Unseen.ensures.items;
      there = next_place_of_way ts c.args.start c.loop-marks.at c.loop-marks.way.items c.push.new.self.items i.there c.in_ok-push-in-Unseen.ensures.items;
      inside = c.requires.closed c.loop-marks.at i.inside;
      stay = λ j h. seen_marks_stay_after_set c.loop-marks.marks c.loop-marks.at (OnWay c.len.result) refl j (i.stay j h);
    }
