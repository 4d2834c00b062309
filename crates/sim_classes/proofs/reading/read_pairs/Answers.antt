use Rattle.std.proofs.Common.{ℕ, List, Option, ◌+◌, ◌-◌, refl, ap, sym, ◌∙◌, arith}
use Rattle.std.proofs.lemmas.Result.{err_from_is_err_and}
use Rattle.sim_params.specs.Costs.{Numbers}
use Rattle.sim_classes.specs.Machine.{machine_with}
use Rattle.sim_classes.specs.Parts.{pair_class_by}
use Rattle.sim_classes.specs.Form.{Form, Value, End, read_by_form, triples, with_pair_class, new_target, class_number}
use Rattle.sim_classes.proofs.Parts.{more_pairs, no_pairs}
use Rattle.sim_classes.proofs.FormRead.{end_of_words_gives_machine}
use Rattle.sim_classes.proofs.Keys.{pair_class_after, pair_class_within}
use Rattle.sim_classes.proofs.reading.read_pairs.Goals as goal

-- what follows the numbers of two nodes, and of the first
abbrev form_after_pair_class : ℕ → ℕ → List Numbers → ℕ → ℕ → List ℕ → (ℕ → ℕ → Option ℕ) → ℕ → ℕ → ℕ → Form
form_after_pair_class n i numbers inside usual nodes pair_classes a b class = triples (n - (i + 1)) (machine_with numbers inside usual nodes (with_pair_class pair_classes a b class))

abbrev form_after_first_node : ℕ → ℕ → List Numbers → ℕ → ℕ → List ℕ → (ℕ → ℕ → Option ℕ) → ℕ → Form
form_after_first_node n i numbers inside usual nodes pair_classes a = Value (new_target (machine_with numbers inside usual nodes pair_classes) a) (λ b. Value (class_number numbers) (form_after_pair_class n i numbers inside usual nodes pair_classes a b))

pub returns-in_err-from-clause-fault : goal.returns-in_err-from-clause-fault
returns-in_err-from-clause-fault c =
    let p = err_from_is_err_and c.from_residual.result c.from_residual.ensures.1 in
    rw (p.1, p.2)
    (λ pair_classes numbers inside usual nodes few.
    c.loop.invariant.0 numbers inside usual nodes few
    ∙ ap (λ (f : Form). read_by_form f c.loop.words.place c.loop.words.words) (more_pairs c.args.count c.loop.counter (machine_with numbers inside usual nodes (pair_class_by c.loop.pair_classes.entries)) c.loop-test.true)
    ∙ c.in_err-from.ensures.fault (form_after_first_node c.args.count c.loop.counter numbers inside usual nodes (pair_class_by c.loop.pair_classes.entries)))

pub returns-in_err-to-clause-fault : goal.returns-in_err-to-clause-fault
returns-in_err-to-clause-fault c =
    let p = err_from_is_err_and c.from_residual-in_err-to.result c.from_residual-in_err-to.ensures.1 in
    rw (p.1, p.2)
    (λ pair_classes numbers inside usual nodes few.
    c.loop.invariant.0 numbers inside usual nodes few
    ∙ ap (λ (f : Form). read_by_form f c.loop.words.place c.loop.words.words) (more_pairs c.args.count c.loop.counter (machine_with numbers inside usual nodes (pair_class_by c.loop.pair_classes.entries)) c.loop-test.true)
    ∙ c.in_ok-from.ensures.next (form_after_first_node c.args.count c.loop.counter numbers inside usual nodes (pair_class_by c.loop.pair_classes.entries))
    ∙ c.in_err-to.ensures.fault (machine_with numbers inside usual nodes (pair_class_by c.loop.pair_classes.entries)) (λ b. Value (class_number numbers) (form_after_pair_class c.args.count c.loop.counter numbers inside usual nodes (pair_class_by c.loop.pair_classes.entries) c.in_ok-from.field-0 b)) refl)

pub returns-in_err-class-clause-fault : goal.returns-in_err-class-clause-fault
returns-in_err-class-clause-fault c =
    let p = err_from_is_err_and c.from_residual-in_err-class.result c.from_residual-in_err-class.ensures.1 in
    rw (p.1, p.2)
    (λ pair_classes numbers inside usual nodes few.
    c.loop.invariant.0 numbers inside usual nodes few
    ∙ ap (λ (f : Form). read_by_form f c.loop.words.place c.loop.words.words) (more_pairs c.args.count c.loop.counter (machine_with numbers inside usual nodes (pair_class_by c.loop.pair_classes.entries)) c.loop-test.true)
    ∙ c.in_ok-from.ensures.next (form_after_first_node c.args.count c.loop.counter numbers inside usual nodes (pair_class_by c.loop.pair_classes.entries))
    ∙ c.in_ok-to.ensures.next (machine_with numbers inside usual nodes (pair_class_by c.loop.pair_classes.entries)) (λ b. Value (class_number numbers) (form_after_pair_class c.args.count c.loop.counter numbers inside usual nodes (pair_class_by c.loop.pair_classes.entries) c.in_ok-from.field-0 b)) refl
    ∙ c.in_err-class.ensures.fault numbers (form_after_pair_class c.args.count c.loop.counter numbers inside usual nodes (pair_class_by c.loop.pair_classes.entries) c.in_ok-from.field-0 c.in_ok-to.to) few)

pub overflow_cast-class : goal.overflow_cast-class
overflow_cast-class c = omega (arith, c.in_ok-class.ensures.within, c.requires)

pub loop-preserved : goal.loop-preserved
loop-preserved c =
    let after = pair_class_after c.loop.pair_classes c.insert.new.self c.in_ok-from.field-0 c.in_ok-to.to c.pair_key.result c.in_ok-class.field-0 c.pair_key.ensures (omega (arith, c.in_ok-to.ensures.within)) c.in_ok-insert.ensures.updates.0 in (
      λ numbers inside usual nodes few.
          c.loop.invariant.0 numbers inside usual nodes few
          ∙ ap (λ (f : Form). read_by_form f c.loop.words.place c.loop.words.words) (more_pairs c.args.count c.loop.counter (machine_with numbers inside usual nodes (pair_class_by c.loop.pair_classes.entries)) c.loop-test.true)
          ∙ c.in_ok-from.ensures.next (form_after_first_node c.args.count c.loop.counter numbers inside usual nodes (pair_class_by c.loop.pair_classes.entries))
          ∙ c.in_ok-to.ensures.next (machine_with numbers inside usual nodes (pair_class_by c.loop.pair_classes.entries)) (λ b. Value (class_number numbers) (form_after_pair_class c.args.count c.loop.counter numbers inside usual nodes (pair_class_by c.loop.pair_classes.entries) c.in_ok-from.field-0 b)) refl
          ∙ c.in_ok-class.ensures.next numbers (form_after_pair_class c.args.count c.loop.counter numbers inside usual nodes (pair_class_by c.loop.pair_classes.entries) c.in_ok-from.field-0 c.in_ok-to.to) few
          ∙ ap (λ (t : ℕ → ℕ → Option ℕ). read_by_form (triples (c.args.count - (c.loop.counter + 1)) (machine_with numbers inside usual nodes t)) c.class_number.new.self.place c.class_number.new.self.words) (λ i x y. sym (after x y) i),
      pair_class_within c.loop.pair_classes c.insert.new.self c.in_ok-from.field-0 c.in_ok-to.to c.in_ok-class.field-0 c.args.classes after c.in_ok-class.ensures.within c.loop.invariant.1,
      omega (arith, c.loop-test.true),
    )

pub returns-in_err-end-clause-fault : goal.returns-in_err-end-clause-fault
returns-in_err-end-clause-fault c =
    let p = err_from_is_err_and c.from_residual-in_err-end.result c.from_residual-in_err-end.ensures.1 in
    rw (p.1, p.2)
    (λ pair_classes numbers inside usual nodes few.
    c.loop.invariant.0 numbers inside usual nodes few
    ∙ ap (λ (f : Form). read_by_form f c.loop.words.place c.loop.words.words) (no_pairs c.args.count c.loop.counter (machine_with numbers inside usual nodes (pair_class_by c.loop.pair_classes.entries)) (omega (arith, c.loop.invariant.2, c.loop-test.false)))
    ∙ c.in_err-end.ensures.fault (machine_with numbers inside usual nodes (pair_class_by c.loop.pair_classes.entries)))

pub returns-clause-next : goal.returns-clause-next
returns-clause-next c =
    λ numbers inside usual nodes few.
    let m = machine_with numbers inside usual nodes (pair_class_by c.loop.pair_classes.entries) in
    c.loop.invariant.0 numbers inside usual nodes few
    ∙ ap (λ (f : Form). read_by_form f c.loop.words.place c.loop.words.words) (no_pairs c.args.count c.loop.counter m (omega (arith, c.loop.invariant.2, c.loop-test.false)))
    ∙ ap (read_by_form (End m) c.loop.words.place) c.in_ok-end.ensures.next ∙ end_of_words_gives_machine m c.loop.words.place
