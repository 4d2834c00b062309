use Rattle.std.proofs.Common.{ℕ, List, ◌++◌, ◌∷◌, [], ◌+◌, ◌-◌, length, ap, sym, ◌∙◌, arith}
use Rattle.std.proofs.lemmas.List.{length-append}
use Rattle.std.proofs.lemmas.Result.{err_from_is_err_and}
use Rattle.sim_classes.specs.Form.{Form, read_by_form, nodes_part}
use Rattle.sim_classes.proofs.Parts.{more_nodes, no_nodes}
use Rattle.sim_classes.proofs.reading.read_nodes.Goals as goal

pub returns-in_err-number_from-clause-fault : goal.returns-in_err-number_from-clause-fault
returns-in_err-number_from-clause-fault c =
    let p = err_from_is_err_and c.from_residual.result c.from_residual.ensures.1 in
    rw (p.1, p.2)
    (λ pair_classes classes inside usual.
    c.loop.invariant.0 classes inside usual
    ∙ ap (λ (f : Form). read_by_form f c.loop.words.place c.loop.words.words) (more_nodes c.args.count c.loop.counter classes inside usual c.loop.nodes.items c.loop-test.true)
    ∙ c.in_err-number_from.ensures.fault (λ node. nodes_part (c.args.count - (c.loop.counter + 1)) classes inside usual (c.loop.nodes.items ++ node ∷ [])))

pub loop-preserved : goal.loop-preserved
loop-preserved c = (
  λ classes inside usual.
      c.loop.invariant.0 classes inside usual
      ∙ ap (λ (f : Form). read_by_form f c.loop.words.place c.loop.words.words) (more_nodes c.args.count c.loop.counter classes inside usual c.loop.nodes.items c.loop-test.true)
      ∙ c.in_ok-number_from.ensures.next (λ node. nodes_part (c.args.count - (c.loop.counter + 1)) classes inside usual (c.loop.nodes.items ++ node ∷ []))
      ∙ ap (λ (ns : List ℕ). read_by_form (nodes_part (c.args.count - (c.loop.counter + 1)) classes inside usual ns) c.number_from.new.self.place c.number_from.new.self.words) (sym c.in_ok-push.ensures.items),
  ap length c.in_ok-push.ensures.items ∙ length-append _ _ ∙ ap (λ k. k + 1) c.loop.invariant.1,
  omega (arith, c.loop-test.true),
)

pub returns-clause-next : goal.returns-clause-next
returns-clause-next c =
    λ classes inside usual.
    c.loop.invariant.0 classes inside usual
    ∙ ap (λ (f : Form). read_by_form f c.loop.words.place c.loop.words.words) (no_nodes c.args.count c.loop.counter classes inside usual c.loop.nodes.items (omega (arith, c.loop.invariant.2, c.loop-test.false)))
