use Rattle.std.proofs.Common.{◌∷◌, [], ◌++◌, map, take, get_or, ap, sym, ◌∙◌, arith}
use Rattle.std.proofs.lemmas.List.{take_more, take_all, map-append}
use Rattle.sim_queue.specs.Map.{no_keys}
use Rattle.sim_queue.proofs.ranked_queue.heaps.Goals as goal

pub ranks-preserved : goal.ranks-preserved
ranks-preserved g c =
    let size = get_or c.args.sizes.now c.ranks.size-index 0 in
    c.in_ok-push.ensures.items ∙ ap (λ hs. hs ++ c.in_ok-new.field-0 ∷ []) c.ranks.invariant ∙ ap (λ h. map no_keys (take c.ranks.size-index c.args.sizes.now) ++ h ∷ []) c.in_ok-new.ensures ∙ sym (map-append no_keys (take c.ranks.size-index c.args.sizes.now) (size ∷ [])) ∙ ap (map no_keys) (sym (take_more c.args.sizes.now c.ranks.size-index 0 c.ranks-test.true))

pub returns : goal.returns
returns g c =
    c.ranks.invariant ∙ ap (map no_keys) (take_all c.ranks.size-index c.args.sizes.now (omega (arith, c.ranks-test.false)))
