use Rattle.std.proofs.Common.{◌≡◌, ◌++◌, ◌∷◌, [], None, Some, Option, sym, subst, refl, bytes_eq}
use Rattle.std.specs.Map.{lookup}
use Rattle.goal_labels.specs.declared.label_map.LabelInfo.{LabelInfo}
use Rattle.goal_parser.specs.declared.head.Mention.{Mention}
use Rattle.goal_parser.specs.Slots.{Entries, Keeps, Grows}
use Rattle.goal_parser.proofs.SlotLaws.{Keeps-again, Keeps-used, Grows-put, Grows-same, lookup_after_put, label_of_entry}
use Rattle.goal_parser.proofs.labels.Labels.place.Goals as goal

pub returns-clause-kept : goal.returns-clause-kept
returns-clause-kept c = λ ds us keeps.
    let es = c.args.self.now.slots in
    let fs = c.number.new.self in
    let this : Mention = record { label = c.args.label.now; at = c.args.at } in
    let by : (o : Option LabelInfo) → lookup (bytes_eq c.args.label.now) es ≡ o → Keeps fs ds (us ++ this ∷ []) = λ o is. elim o as (λ x. lookup (bytes_eq c.args.label.now) es ≡ x → Keeps fs ds (us ++ this ∷ [])) [
      | Some slot ↦ λ there. subst (λ (gs : Entries). Keeps gs ds (us ++ this ∷ [])) (sym (c.in_ok-slot.ensures.old slot there)) (Keeps-again es ds us this slot there keeps)
      | None ↦ λ none. Keeps-used es fs ds us this none (c.in_ok-slot.ensures.new none) (lookup_after_put es fs c.args.label.now (record { op = None; at = c.args.at }) (c.in_ok-slot.ensures.new none)) keeps
    ] is in
    by (lookup (bytes_eq c.args.label.now) es) refl

pub returns-clause-grows : goal.returns-clause-grows
returns-clause-grows c =
    let es = c.args.self.now.slots in
    let fs = c.number.new.self in
    let by : (o : Option LabelInfo) → lookup (bytes_eq c.args.label.now) es ≡ o → Grows es fs = λ o is. elim o as (λ x. lookup (bytes_eq c.args.label.now) es ≡ x → Grows es fs) [
      | Some slot ↦ λ there. subst (Grows es) (sym (c.in_ok-slot.ensures.old slot there)) (Grows-same es)
      | None ↦ λ none. Grows-put es fs c.args.label.now (record { op = None; at = c.args.at }) (c.in_ok-slot.ensures.new none)
    ] is in
    by (lookup (bytes_eq c.args.label.now) es) refl

pub returns-clause-within : goal.returns-clause-within
returns-clause-within c = (label_of_entry c.number.new.self c.in_ok-slot.slot c.args.label.now c.in_ok-slot.ensures.number.0 c.in_ok-slot.ensures.number.1).0

pub returns-clause-label : goal.returns-clause-label
returns-clause-label c = (label_of_entry c.number.new.self c.in_ok-slot.slot c.args.label.now c.in_ok-slot.ensures.number.0 c.in_ok-slot.ensures.number.1).1
