use Rattle.std.proofs.Common.{◌≡◌, map, length, ◌∙◌, arith}
use Rattle.std.proofs.lemmas.Result.{err_from_is_err_and}
use Rattle.std.proofs.lemmas.List.{length-map}
use Rattle.sim_params.specs.Numbers.{numbers}
use Rattle.sim_classes.proofs.reading.read_places.Goals as goal

pub returns-in_err-inside-clause-fault : goal.returns-in_err-inside-clause-fault
returns-in_err-inside-clause-fault c =
    let few : length (map numbers c.args.classes.items) ≡ c.len-count.result = omega (arith, length-map c.args.classes.items numbers) in
    let p = err_from_is_err_and c.from_residual.result c.from_residual.ensures.1 in
    rw (p.1, p.2) (λ pair_classes. c.in_err-inside.ensures.fault (map numbers c.args.classes.items) few)

pub returns-in_err-nodes-clause-fault : goal.returns-in_err-nodes-clause-fault
returns-in_err-nodes-clause-fault c =
    let few : length (map numbers c.args.classes.items) ≡ c.len-count.result = omega (arith, length-map c.args.classes.items numbers) in
    let p = err_from_is_err_and c.from_residual-in_err-nodes.result c.from_residual-in_err-nodes.ensures.1 in
    rw (p.1, p.2)
    (λ pair_classes.
    c.in_ok-inside.ensures.next (map numbers c.args.classes.items) few
    ∙ c.in_err-nodes.ensures.fault pair_classes (map numbers c.args.classes.items) c.in_ok-inside.inside c.in_ok-inside.usual)

pub returns-in_err-pair_classes-clause-fault : goal.returns-in_err-pair_classes-clause-fault
returns-in_err-pair_classes-clause-fault c =
    let few : length (map numbers c.args.classes.items) ≡ c.len-count.result = omega (arith, length-map c.args.classes.items numbers) in
    let p = err_from_is_err_and c.from_residual-in_err-pair_classes.result c.from_residual-in_err-pair_classes.ensures.1 in
    rw (p.1, p.2)
    (λ pair_classes.
    c.in_ok-inside.ensures.next (map numbers c.args.classes.items) few
    ∙ c.in_ok-nodes.ensures.next (map numbers c.args.classes.items) c.in_ok-inside.inside c.in_ok-inside.usual
    ∙ c.in_err-pair_classes.ensures.fault pair_classes (map numbers c.args.classes.items) c.in_ok-inside.inside c.in_ok-inside.usual c.in_ok-nodes.nodes.items few)

pub invariant_of-result : goal.invariant_of-result
invariant_of-result c =
    let few : length (map numbers c.args.classes.items) ≡ c.len-count.result = omega (arith, length-map c.args.classes.items numbers) in
    record {
      few = c.in_ok-nodes.ensures.few;
      whole = record {
        inside = omega (arith, few, c.in_ok-inside.ensures.within.0);
        usual = omega (arith, few, c.in_ok-inside.ensures.within.1);
        pair_classes = λ a b class e. omega (arith, few, c.in_ok-pair_classes.ensures.within a b class e);
      };
    }

pub returns-clause-next : goal.returns-clause-next
returns-clause-next c =
    let few : length (map numbers c.args.classes.items) ≡ c.len-count.result = omega (arith, length-map c.args.classes.items numbers) in
    c.in_ok-inside.ensures.next (map numbers c.args.classes.items) few
    ∙ c.in_ok-nodes.ensures.next (map numbers c.args.classes.items) c.in_ok-inside.inside c.in_ok-inside.usual
    ∙ c.in_ok-pair_classes.ensures.next (map numbers c.args.classes.items) c.in_ok-inside.inside c.in_ok-inside.usual c.in_ok-nodes.nodes.items few
