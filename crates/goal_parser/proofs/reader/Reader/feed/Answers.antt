use Rattle.std.proofs.Common.{◌≡◌, ◌∙◌, sym, ap, subst, arith, ℕ, ◌+◌, List, ◌++◌, take, length, length-drop}
use Rattle.std.proofs.lemmas.List.{take_all, take_rest}
use Rattle.goal_parser.specs.declared.reader.Reader.{Reader}
use Rattle.goal_parser.specs.FaultInText.{fault_in_text}
use Rattle.goal_parser.specs.Reader.{StandsFor}
use Rattle.goal_parser.proofs.AheadLaws.{stands_after_both_takes, no_run_in_rest_of_piece, fault_in_rest_is_fault_of_piece}
use Rattle.goal_parser.proofs.reader.Reader.feed.Goals as goal

pub loop-at-preserved-in-Ok-step : goal.loop-at-preserved-in-Ok-step
loop-at-preserved-in-Ok-step c =
    let piece = c.args.piece.now in
    let at = c.loop-at.at in
    let n = c.in-Ok-step.taken in
    let old = c.take_ahead.new.self in
    let same : old ≡ c.loop-at.self = c.in-Ok-eq0.ensures.ahead.none (omega arith) in
    let done = c.in-Ok-step.ensures in
    let rest = length-drop at piece in
    let long = ap length (take_rest piece at) in
    let inv = c.loop-at.invariant in
    let there : old.place ≡ c.args.self.now.place + at = ap (λ (r : Reader). r.place) same ∙ inv.place in
    record {
      within = omega (arith, done.taken, long, rest);
      place = omega (arith, done.place, there);
      same = done.same;
      apart = λ ends. no_run_in_rest_of_piece piece at n (done.apart ends);
      left = λ ends. omega (arith, done.left ends, long, rest);
      stands = stands_after_both_takes c.args.self.now old c.step.new.self piece at n
          (λ text stood. subst (λ (r : Reader). StandsFor r (text ++ take at piece)) (sym same) (inv.stands text stood)) done.stands;
    }

pub loop-at-preserved : goal.loop-at-preserved
loop-at-preserved c =
    let piece = c.args.piece.now in
    let at = c.loop-at.at in
    let n = c.in-Ok.taken in
    let done = c.in-Ok.ensures.ahead in
    let rest = length-drop at piece in
    let long = ap length (take_rest piece at) in
    let inv = c.loop-at.invariant in
    record {
      within = omega (arith, done.taken, long, rest);
      place = omega (arith, done.place, inv.place);
      same = done.same;
      apart = λ ends. no_run_in_rest_of_piece piece at n (done.apart ends);
      left = λ ends. omega (arith, done.left (omega arith) ends, long, rest);
      stands = stands_after_both_takes c.args.self.now c.loop-at.self c.take_ahead.new.self piece at n inv.stands done.stands;
    }

pub returns-in-Err-step-clause-fault : goal.returns-in-Err-step-clause-fault
returns-in-Err-step-clause-fault c memory text more stood =
    let piece = c.args.piece.now in
    let at = c.loop-at.at in
    let same : c.take_ahead.new.self ≡ c.loop-at.self = c.in-Ok-eq0.ensures.ahead.none (omega arith) in
    fault_in_rest_is_fault_of_piece piece text more at (fault_in_text c.in-Err-step.fault)
    (c.in-Err-step.ensures.fault memory (text ++ take at piece) more
    (subst (λ (r : Reader). StandsFor r (text ++ take at piece)) (sym same) (c.loop-at.invariant.stands text stood)))

pub returns-in-Err-clause-fault : goal.returns-in-Err-clause-fault
returns-in-Err-clause-fault c memory text more stood =
    let piece = c.args.piece.now in
    let at = c.loop-at.at in
    fault_in_rest_is_fault_of_piece piece text more at (fault_in_text c.in-Err.fault)
    (c.in-Err.ensures.fault memory (text ++ take at piece) more (c.loop-at.invariant.stands text stood))

pub returns-clause-stands : goal.returns-clause-stands
returns-clause-stands c = λ text stood.
    let piece = c.args.piece.now in
    let at = c.loop-at.at in
    subst (λ (l : List ℕ). StandsFor c.loop-at.self (text ++ l)) (take_all at piece (omega arith)) (c.loop-at.invariant.stands text stood)
