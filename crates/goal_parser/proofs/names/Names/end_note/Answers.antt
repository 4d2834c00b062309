use Rattle.std.proofs.Common.{ℕ, List, sym, ap, ◌∙◌, subst, Option, ◌∷◌, ◌++◌, [], refl}
use Rattle.goal_parser.specs.declared.head.Mention.{Mention}
use Rattle.goal_parser.specs.declared.names.Names.{Names}
use Rattle.goal_parser.specs.declared.sentence.State.{State}
use Rattle.goal_parser.specs.declared.sentence.State.TheVariants as state
use Rattle.goal_parser.specs.Items.{note_ended, note_uses}
use Rattle.goal_parser.specs.Slots.{Keeps, NamesHold}
use Rattle.goal_parser.proofs.NameLaws.{NamesHold-note}
use Rattle.goal_parser.proofs.names.Names.end_note.Goals as goal

pub returns-in_ok-append-in-Note3-Some : goal.returns-in_ok-append-in-Note3-Some
returns-in_ok-append-in-Note3-Some c = λ ds us deps notes holds.
    let old = c.args.self.now in
    let head = c.args.head.now in
    let new : Names = record { labels = c.mention.new.self; deps = old.deps; notes = c.append.new.list } in
    let s = c.in-Note3-Some.subject in
    let is = c.as_bytes.ensures.bytes in
    let done = c.in_ok-op-in-Note3-Some.ensures in
    subst (λ (st : State). NamesHold new ds (note_uses st head.subject us) deps (note_ended st head.subject head.verb head.low c.args.second notes)) (sym c.in-Note3-Some.is-0)
    (subst (λ (sub : Option Mention). NamesHold new ds (note_uses state.Note3 sub us) deps (note_ended state.Note3 sub head.verb head.low c.args.second notes)) (sym c.in-Note3-Some.is-1)
    (NamesHold-note old new ds us deps notes s head.verb c.in_ok-op-in-Note3-Some.op head.low c.args.second
    done.grows (subst (λ (label : List ℕ). Keeps new.labels.slots ds (us ++ record { label = label; at = s.at } ∷ [])) is (done.kept ds us holds.labels))
    (record { within = done.within; named = done.label ∙ is })
    refl (c.in_ok-append-in-Note3-Some.ensures ∙ ap (λ n. old.notes.items ++ n ∷ []) c.note_as.ensures) holds))
