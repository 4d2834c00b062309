use Rattle.std.proofs.Common.{[], ◌∷◌, None, Option, ℕ, sym, ap, ◌∙◌, subst}
use Rattle.sim_match.specs.declared.pattern.Wild.TheVariants.{AnyTag, AnySource, Any}
use Rattle.sim_match.specs.ListNumbers.{AreSought}
use Rattle.sim_match.proofs.Numbering.{lists_of_send, lists_where_named, wild_of_send, wild_within}
use Rattle.sim_match.proofs.list_numbers.ListNumbers.lists_of_send.Goals as goal
use Rattle.goal_graph.proofs.ForCallers.{op_of_kind}

pub own_list-own-requires-clause-op : goal.own_list-own-requires-clause-op
own_list-own-requires-clause-op c = op_of_kind _ c.args.send _ c.requires.send.kind

pub index-place-requires : goal.index-place-requires
index-place-requires c = op_of_kind _ c.args.send _ c.requires.send.kind

pub wild_at-requires : goal.wild_at-requires
wild_at-requires c =
    let n = c.requires.numbered in
    let all = subst (AreSought _ n.keys) c.in-Some.is n.sought in
    wild_within _ n.keys c.args.send c.requires.send AnyTag _ c.index-place.result all.any_tag c.index-place.ensures.index

pub wild_at-requires-in-Some : goal.wild_at-requires-in-Some
wild_at-requires-in-Some c =
    let n = c.requires.numbered in
    let all = subst (AreSought _ n.keys) c.in-Some.is n.sought in
    wild_within _ n.keys c.args.send c.requires.send AnySource _ c.index-place.result all.any_source c.index-place.ensures.index

pub wild_at-requires-in-Some-2 : goal.wild_at-requires-in-Some-2
wild_at-requires-in-Some-2 c =
    let n = c.requires.numbered in
    let all = subst (AreSought _ n.keys) c.in-Some.is n.sought in
    wild_within _ n.keys c.args.send c.requires.send Any _ c.index-place.result all.any c.index-place.ensures.index

pub returns-in-None : goal.returns-in-None
returns-in-None c = λ n.
    let own = c.own_list-own.ensures n in
    let named = subst (AreSought _ n.keys) c.in-None.is n.sought in
    ap (λ (o : Option ℕ). o ∷ None ∷ None ∷ None ∷ []) own ∙ sym (lists_where_named _ _ c.args.send c.requires.send named)

pub returns-in-Some : goal.returns-in-Some
returns-in-Some c = λ n.
    let plans = c.args.sched.now in
    let own = c.own_list-own.ensures n in
    let all = subst (AreSought plans n.keys) c.in-Some.is n.sought in
    let at = c.index-place.ensures.index in
    let any_tag = wild_of_send plans n.keys c.args.send c.requires.send AnyTag _ c.index-place.result c.wild_at.result n.few all.any_tag at c.wild_at.ensures in
    let any_source = wild_of_send plans n.keys c.args.send c.requires.send AnySource _ c.index-place.result c.wild_at-in-Some.result n.few all.any_source at c.wild_at-in-Some.ensures in
    let any = wild_of_send plans n.keys c.args.send c.requires.send Any _ c.index-place.result c.wild_at-in-Some-2.result n.few all.any at c.wild_at-in-Some-2.ensures in
    (λ i. own i ∷ any_tag i ∷ any_source i ∷ any i ∷ []) ∙ sym (lists_of_send plans n.keys c.args.send c.requires.send)
