use Rattle.std.proofs.Common.{List, ◌≡◌, ◌++◌, ◌∷◌, [], ◌+◌, ◌-◌, map, length, ap, sym, ◌∙◌, arith}
use Rattle.std.proofs.lemmas.Result.{err_from_is_err_and}
use Rattle.std.proofs.lemmas.List.{map-append, length-append}
use Rattle.sim_params.specs.Costs.{Numbers}
use Rattle.sim_params.specs.Numbers.{numbers}
use Rattle.sim_classes.specs.Form.{Form, read_by_form, classes_part}
use Rattle.sim_classes.proofs.Parts.{more_classes, no_classes}
use Rattle.sim_classes.proofs.reading.read_classes.Goals as goal

pub returns-in_err-fixed-clause-fault : goal.returns-in_err-fixed-clause-fault
returns-in_err-fixed-clause-fault c =
    let p = err_from_is_err_and c.from_residual.result c.from_residual.ensures.1 in
    let step = ap (λ (f : Form). read_by_form f c.loop.words.place c.loop.words.words) (more_classes c.args.count c.loop.counter (map numbers c.loop.classes.items) c.loop-test.true) in
    rw (p.1, p.2) (λ pair_classes. c.loop.invariant.0 ∙ step ∙ c.in_err-fixed.ensures.fault _)

pub returns-in_err-read_class-clause-fault : goal.returns-in_err-read_class-clause-fault
returns-in_err-read_class-clause-fault c =
    let p = err_from_is_err_and c.from_residual-in_err-read_class.result c.from_residual-in_err-read_class.ensures.1 in
    let step = ap (λ (f : Form). read_by_form f c.loop.words.place c.loop.words.words) (more_classes c.args.count c.loop.counter (map numbers c.loop.classes.items) c.loop-test.true) in
    rw (p.1, p.2) (λ pair_classes. c.loop.invariant.0 ∙ step ∙ c.in_ok-fixed.ensures.next _ ∙ c.in_err-read_class.ensures.fault (λ n. classes_part (c.args.count - (c.loop.counter + 1)) (map numbers c.loop.classes.items ++ n ∷ [])))

pub loop-preserved : goal.loop-preserved
loop-preserved c =
    let step = ap (λ (f : Form). read_by_form f c.loop.words.place c.loop.words.words) (more_classes c.args.count c.loop.counter (map numbers c.loop.classes.items) c.loop-test.true) in
    let items : map numbers c.push.new.self.items ≡ map numbers c.loop.classes.items ++ numbers c.in_ok-read_class.field-0 ∷ [] = ap (map numbers) c.in_ok-push.ensures.items ∙ map-append numbers c.loop.classes.items (c.in_ok-read_class.field-0 ∷ []) in (
      c.loop.invariant.0 ∙ step ∙ c.in_ok-fixed.ensures.next _ ∙ c.in_ok-read_class.ensures.next (λ n. classes_part (c.args.count - (c.loop.counter + 1)) (map numbers c.loop.classes.items ++ n ∷ []))
          ∙ ap (λ (cs : List Numbers). read_by_form (classes_part (c.args.count - (c.loop.counter + 1)) cs) c.read_class.new.words.place c.read_class.new.words.words) (sym items),
      ap length c.in_ok-push.ensures.items ∙ length-append _ _ ∙ ap (λ k. k + 1) c.loop.invariant.1,
      omega (arith, c.loop-test.true),
    )

pub returns-clause-next : goal.returns-clause-next
returns-clause-next c =
    c.loop.invariant.0 ∙ ap (λ (f : Form). read_by_form f c.loop.words.place c.loop.words.words) (no_classes c.args.count c.loop.counter (map numbers c.loop.classes.items) (omega (arith, c.loop.invariant.2, c.loop-test.false)))
