use Rattle.std.proofs.Common.{ℕ, List, sym, ap, ◌∙◌, subst, Option, ◌∷◌, ◌++◌, [], refl}
use Rattle.goal_parser.specs.declared.head.Mention.{Mention}
use Rattle.goal_parser.specs.declared.names.Names.{Names}
use Rattle.goal_parser.specs.declared.sentence.State.TheVariants as state
use Rattle.goal_parser.specs.Items.{dep_ended, dep_uses}
use Rattle.goal_parser.specs.Slots.{Keeps, NamesHold}
use Rattle.goal_parser.proofs.NameLaws.{NamesHold-dep}
use Rattle.goal_parser.proofs.names.Names.end_dep.Goals as goal

pub returns-in_ok-append-in-Some : goal.returns-in_ok-append-in-Some
returns-in_ok-append-in-Some c = λ ds us deps notes holds.
    let old = c.args.self.now in
    let new : Names = record { labels = c.mention-in-Some.new.self; deps = c.append.new.list; notes = old.notes } in
    let s = c.in-Some.subject in
    let u : Mention = record { label = c.args.label.now; at = c.args.at } in
    let verb = c.args.head.now.verb in
    let first = c.in_ok-later-in-Some.ensures in
    let second = c.in_ok-earlier-in-Some.ensures in
    let s_at = c.as_bytes.ensures.bytes in
    subst (λ (sub : Option Mention). NamesHold new ds (dep_uses state.Label sub u us) (dep_ended state.Label sub verb u.label deps) notes) (sym c.in-Some.is)
    (NamesHold-dep old new c.mention.new.self ds us deps notes s u verb c.in_ok-later-in-Some.later c.in_ok-earlier-in-Some.earlier
    first.grows second.grows
    (subst (λ (z : List ℕ). Keeps new.labels.slots ds ((us ++ record { label = z; at = s.at } ∷ []) ++ u ∷ []))
    s_at (second.kept ds _ (first.kept ds us holds.labels)))
    (record { within = first.within; named = first.label ∙ s_at }) (record { within = second.within; named = second.label })
    (c.in_ok-append-in-Some.ensures ∙ ap (λ w. old.deps.items ++ record { later = c.in_ok-later-in-Some.later; earlier = c.in_ok-earlier-in-Some.earlier; when = w } ∷ []) c.when_of.ensures) refl holds)
