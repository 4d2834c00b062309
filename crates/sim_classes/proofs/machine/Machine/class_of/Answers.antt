use Rattle.std.proofs.Common.{ℕ, Option, ◌==◌, slice_get, refl, sym, ap, ap₂, ◌∙◌}
use Rattle.std.proofs.lemmas.Option.{slice_get_read, slice_get_past}
use Rattle.std.proofs.lemmas.Bool.{ltb-false}
use Rattle.sim_classes.specs.Machine.{class_of, class_by}
use Rattle.sim_classes.specs.MachineModels.{machine_model}
use Rattle.sim_classes.proofs.machine.Machine.class_of.Goals as goal

pub returns-in-Some-get-clause-class : goal.returns-in-Some-get-clause-class
unfolding class_of
returns-in-Some-get-clause-class c =
    let first = sym (slice_get_read c.deref.result.now _ c.args.from c.in-Some.a.now refl c.in-Some.ensures.lookup.3.0 c.in-Some.ensures.lookup.1) in
    let second = sym (slice_get_read c.deref-in-Some.result.now _ c.args.to c.in-Some-get.b.now refl c.in-Some-get.ensures.lookup.3.0 c.in-Some-get.ensures.lookup.1) in
    c.class_between.ensures.class ∙ ap₂ (λ (a b : Option ℕ). class_by (machine_model c.args.self.now) a b (c.args.from == c.args.to)) (rw c.deref.ensures.value at first) (rw c.deref-in-Some.ensures.value at second)

pub returns-in-None-get-clause-class : goal.returns-in-None-get-clause-class
unfolding class_of
returns-in-None-get-clause-class c =
    let first = sym (slice_get_read c.deref.result.now _ c.args.from c.in-Some.a.now refl c.in-Some.ensures.lookup.3.0 c.in-Some.ensures.lookup.1) in
    let second = sym (slice_get_past c.deref-in-Some.result.now c.args.to (ltb-false c.args.to _ (sym c.in-None-get.ensures.lookup.0))) in
    c.class_apart.ensures.class ∙ ap₂ (λ (a b : Option ℕ). class_by (machine_model c.args.self.now) a b (c.args.from == c.args.to)) (rw c.deref.ensures.value at first) (rw c.deref-in-Some.ensures.value at second)

pub returns-in-None-clause-class : goal.returns-in-None-clause-class
unfolding class_of
returns-in-None-clause-class c =
    let first = sym (slice_get_past c.deref.result.now c.args.from (ltb-false c.args.from _ (sym c.in-None.ensures.lookup.0))) in
    c.class_apart-in-None.ensures.class ∙ ap (λ (a : Option ℕ). class_by (machine_model c.args.self.now) a (slice_get c.args.self.now.nodes.items c.args.to) (c.args.from == c.args.to)) (rw c.deref.ensures.value at first)
