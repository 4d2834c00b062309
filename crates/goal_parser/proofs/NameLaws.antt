-- Dependencies and notes by slots, and by the labels of these slots.
use Rattle.std.proofs.Common.{◌≡◌, ℕ, ◌<◌, ◌≤◌, true, false, List, [], ◌∷◌, ◌++◌, Some, length, slice_get, map, refl, sym, ap, subst, ◌∙◌, arith, bytes_eq, unwrap_or, if◌then◌else◌, nat_lt, rules, tests}
use Rattle.std.specs.List.{AllZip}
use Rattle.std.specs.Map.{lookup}
use Rattle.goal_graph.specs.declared.plan.Dep.{Dep}
use Rattle.goal_graph.specs.declared.plan.Note.{Note}
use Rattle.goal_labels.specs.declared.label_map.LabelInfo.{LabelInfo}
use Rattle.goal_parser.specs.declared.labels.Labels.{Labels}
use Rattle.goal_parser.specs.declared.head.Mention.{Mention}
use Rattle.goal_parser.specs.declared.head.Verb.{Verb}
use Rattle.goal_parser.specs.declared.head.Verb.TheVariants as verb
use Rattle.goal_parser.specs.declared.names.Names.{Names}
use Rattle.goal_parser.specs.Items.{Definition, NamedDep, NamedNote, op_number, when_of, dep_by, note_by, note_as}
use Rattle.goal_parser.specs.Slots.{Entries, op_in, op_by, op_at, dep_at, note_at, label_at, IsSlot, IsDep, IsNote, Keeps, Grows, NamesHold}
use Rattle.goal_parser.proofs.SlotLaws.{label_of_entry}

pub AllZip-more : {A B : Type 0} (R : A → B → Type 0) (xs : List A) (ys : List B) (x : A) (y : B) → AllZip R xs ys → R x y → AllZip R (xs ++ x ∷ []) (ys ++ y ∷ [])
AllZip-more R [] [] x y all one = (one, tt)
AllZip-more R [] (b ∷ ys) x y all one = absurd all
AllZip-more R (a ∷ xs) [] x y all one = absurd all
AllZip-more R (a ∷ xs) (b ∷ ys) x y all one = (all.0, AllZip-more R xs ys x y all.1 one)

pub AllZip-weaker : {A B : Type 0} (R S : A → B → Type 0) → ((x : A) (y : B) → R x y → S x y) → (xs : List A) (ys : List B) → AllZip R xs ys → AllZip S xs ys
AllZip-weaker R S h [] [] all = tt
AllZip-weaker R S h [] (b ∷ ys) all = absurd all
AllZip-weaker R S h (a ∷ xs) [] all = absurd all
AllZip-weaker R S h (a ∷ xs) (b ∷ ys) all = (h a b all.0, AllZip-weaker R S h xs ys all.1)

pub AllZip-maps : {A B C : Type 0} (R : A → B → Type 0) (f : A → C) (g : B → C) → ((x : A) (y : B) → R x y → f x ≡ g y) → (xs : List A) (ys : List B) → AllZip R xs ys → map f xs ≡ map g ys
AllZip-maps R f g h [] [] all = refl
AllZip-maps R f g h [] (b ∷ ys) all = absurd all
AllZip-maps R f g h (a ∷ xs) [] all = absurd all
AllZip-maps R f g h (a ∷ xs) (b ∷ ys) all = λ i. h a b all.0 i ∷ AllZip-maps R f g h xs ys all.1 i

-- slots stay

pub IsSlot-grows : (es fs : Entries) (slot : ℕ) (label : List ℕ) → Grows es fs → IsSlot es slot label → IsSlot fs slot label
IsSlot-grows es fs slot label grows is = record { within = omega (arith, grows.more, is.within); named = grows.labels slot is.within ∙ is.named }

IsDep-grows : (es fs : Entries) → Grows es fs → (d : Dep) (n : NamedDep) → IsDep es d n → IsDep fs d n
IsDep-grows es fs grows d n is = record { later = IsSlot-grows es fs d.later n.later grows is.later; earlier = IsSlot-grows es fs d.earlier n.earlier grows is.earlier; when = is.when }

IsNote-grows : (es fs : Entries) → Grows es fs → (d : Note) (n : NamedNote) → IsNote es d n → IsNote fs d n
IsNote-grows es fs grows d n is = record { slot = is.slot; subject = IsSlot-grows es fs is.slot n.subject grows is.subject; is = is.is }

-- the labels change, and the slots stay
pub NamesHold-labels : (names : Names) (labels : Labels) (ds es : List Definition) (us vs : List Mention) (deps : List NamedDep) (notes : List NamedNote)
    → Grows names.labels.slots labels.slots → Keeps labels.slots es vs → NamesHold names ds us deps notes → NamesHold (record names { labels = labels }) es vs deps notes
NamesHold-labels names labels ds es us vs deps notes grows keeps holds = record {
  labels = keeps;
  deps = AllZip-weaker (IsDep names.labels.slots) (IsDep labels.slots) (IsDep-grows names.labels.slots labels.slots grows) names.deps.items deps holds.deps;
  notes = AllZip-weaker (IsNote names.labels.slots) (IsNote labels.slots) (IsNote-grows names.labels.slots labels.slots grows) names.notes.items notes holds.notes;
}

-- another dependency
pub NamesHold-dep : (old new : Names) (between : Labels) (ds : List Definition) (us : List Mention) (deps : List NamedDep) (notes : List NamedNote) (s u : Mention) (v : Verb) (later earlier : ℕ)
    → Grows old.labels.slots between.slots → Grows between.slots new.labels.slots
    → Keeps new.labels.slots ds ((us ++ s ∷ []) ++ u ∷ [])
    → IsSlot between.slots later s.label → IsSlot new.labels.slots earlier u.label
    → new.deps.items ≡ old.deps.items ++ record { later = later; earlier = earlier; when = when_of v } ∷ [] → new.notes.items ≡ old.notes.items
    → NamesHold old ds us deps notes → NamesHold new ds ((us ++ s ∷ []) ++ u ∷ []) (deps ++ record { later = s.label; earlier = u.label; when = when_of v } ∷ []) notes
NamesHold-dep old new between ds us deps notes s u v later earlier g1 g2 keeps first second pushed same holds =
    let es = old.labels.slots in
    let ms = between.slots in
    let fs = new.labels.slots in
    record {
      labels = keeps;
      deps = subst (λ l. AllZip (IsDep fs) l (deps ++ record { later = s.label; earlier = u.label; when = when_of v } ∷ [])) (sym pushed)
          (AllZip-more (IsDep fs) old.deps.items deps (record { later = later; earlier = earlier; when = when_of v }) (record { later = s.label; earlier = u.label; when = when_of v })
          (AllZip-weaker (IsDep ms) (IsDep fs) (IsDep-grows ms fs g2) old.deps.items deps (AllZip-weaker (IsDep es) (IsDep ms) (IsDep-grows es ms g1) old.deps.items deps holds.deps))
          (record { later = IsSlot-grows ms fs later s.label g2 first; earlier = second; when = refl }));
      notes = subst (λ l. AllZip (IsNote fs) l notes) (sym same)
          (AllZip-weaker (IsNote ms) (IsNote fs) (IsNote-grows ms fs g2) old.notes.items notes (AllZip-weaker (IsNote es) (IsNote ms) (IsNote-grows es ms g1) old.notes.items notes holds.notes));
    }

-- another note
pub NamesHold-note : (old new : Names) (ds : List Definition) (us : List Mention) (deps : List NamedDep) (notes : List NamedNote) (s : Mention) (v : Verb) (slot first second : ℕ)
    → Grows old.labels.slots new.labels.slots → Keeps new.labels.slots ds (us ++ s ∷ []) → IsSlot new.labels.slots slot s.label
    → new.deps.items ≡ old.deps.items → new.notes.items ≡ old.notes.items ++ note_as v slot first second ∷ []
    → NamesHold old ds us deps notes → NamesHold new ds (us ++ s ∷ []) deps (notes ++ record { subject = s.label; verb = v; first = first; second = second } ∷ [])
NamesHold-note old new ds us deps notes s v slot first second grows keeps is same pushed holds =
    let es = old.labels.slots in
    let fs = new.labels.slots in
    record {
      labels = keeps;
      deps = subst (λ l. AllZip (IsDep fs) l deps) (sym same) (AllZip-weaker (IsDep es) (IsDep fs) (IsDep-grows es fs grows) old.deps.items deps holds.deps);
      notes = subst (λ l. AllZip (IsNote fs) l (notes ++ record { subject = s.label; verb = v; first = first; second = second } ∷ [])) (sym pushed)
          (AllZip-more (IsNote fs) old.notes.items notes (note_as v slot first second) (record { subject = s.label; verb = v; first = first; second = second })
          (AllZip-weaker (IsNote es) (IsNote fs) (IsNote-grows es fs grows) old.notes.items notes holds.notes)
          (record { slot = slot; subject = is; is = refl }));
    }

-- numbers of operations

pub op_found : (es : Entries) (slot : ℕ) (k : List ℕ) (s : LabelInfo) → slice_get es slot ≡ Some (k, s) → lookup (bytes_eq k) es ≡ Some s → op_at es slot ≡ unwrap_or s.op 0
unfolding op_at op_by
op_found es slot k s at found =
    let e = label_of_entry es slot k s at in
    let within : slot < length es = e.0 in
    let inside : nat_lt slot (length es) ≡ true = search (rules, tests) in
    ap (λ b. if b then unwrap_or (op_in (lookup (bytes_eq (label_at es slot)) es)) 0 else 0) inside
    ∙ ap (λ l. unwrap_or (op_in (lookup (bytes_eq l) es)) 0) e.1
    ∙ ap (λ o. unwrap_or (op_in o) 0) found

pub op_past : (es : Entries) (slot : ℕ) → length es ≤ slot → op_at es slot ≡ 0
unfolding op_at
op_past es slot past =
    let outside : nat_lt slot (length es) ≡ false = search (rules, tests) in
    ap (λ b. if b then unwrap_or (op_by es (label_at es slot)) 0 else 0) outside

op_of_label : (es : Entries) (ds : List Definition) (us : List Mention) (slot : ℕ) (label : List ℕ) → Keeps es ds us → IsSlot es slot label → op_at es slot ≡ op_number ds label
unfolding op_at
op_of_label es ds us slot label keeps is =
    let within : slot < length es = is.within in
    let inside : nat_lt slot (length es) ≡ true = search (rules, tests) in
    ap (λ b. if b then unwrap_or (op_by es (label_at es slot)) 0 else 0) inside
    ∙ ap (λ l. unwrap_or (op_by es l) 0) is.named
    ∙ ap (λ o. unwrap_or o 0) (keeps.numbers label)

dep_of_labels : (es : Entries) (ds : List Definition) (us : List Mention) → Keeps es ds us → (d : Dep) (n : NamedDep) → IsDep es d n → dep_at es d ≡ dep_by ds n
dep_of_labels es ds us keeps d n is =
    let later = op_of_label es ds us d.later n.later keeps is.later in
    let earlier = op_of_label es ds us d.earlier n.earlier keeps is.earlier in
    let when = is.when in
    λ i. record { later = later i; earlier = earlier i; when = when i }

note_as-at : (es : Entries) (v : Verb) (slot first second : ℕ) → note_at es (note_as v slot first second) ≡ note_as v (op_at es slot) first second
note_as-at es verb.Requires slot first second = refl
note_as-at es verb.Irequires slot first second = refl
note_as-at es verb.Moves slot first second = refl
note_as-at es verb.Adds slot first second = refl

note_of_labels : (es : Entries) (ds : List Definition) (us : List Mention) → Keeps es ds us → (d : Note) (n : NamedNote) → IsNote es d n → note_at es d ≡ note_by ds n
note_of_labels es ds us keeps d n is =
    ap (note_at es) is.is ∙ note_as-at es n.verb is.slot n.first n.second
    ∙ ap (λ op. note_as n.verb op n.first n.second) (op_of_label es ds us is.slot n.subject keeps is.subject)

pub deps_of_labels : (es : Entries) (ds : List Definition) (us : List Mention) (deps : List Dep) (named : List NamedDep) → Keeps es ds us → AllZip (IsDep es) deps named → map (dep_at es) deps ≡ map (dep_by ds) named
deps_of_labels es ds us deps named keeps all = AllZip-maps (IsDep es) (dep_at es) (dep_by ds) (dep_of_labels es ds us keeps) deps named all

pub notes_of_labels : (es : Entries) (ds : List Definition) (us : List Mention) (notes : List Note) (named : List NamedNote) → Keeps es ds us → AllZip (IsNote es) notes named → map (note_at es) notes ≡ map (note_by ds) named
notes_of_labels es ds us notes named keeps all = AllZip-maps (IsNote es) (note_at es) (note_by ds) (note_of_labels es ds us keeps) notes named all
