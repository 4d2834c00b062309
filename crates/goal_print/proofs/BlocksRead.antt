-- A block, read by its operations, its dependencies and its notes.
use Rattle.std.proofs.Common.{◌≡◌, ℕ, ◌+◌, ◌^◌, ◌<◌, ◌≤◌, true, false, List, [], ◌∷◌, ◌++◌, length, map, Option, None, unwrap_or, is_some, refl, sym, ap, subst, ◌∙◌, arith, append_assoc, length-append}
use Rattle.std.specs.List.{AllByRecursion}
use Rattle.std.proofs.lemmas.List.{append-nil, map-append}
use Rattle.goal_lexer.specs.declared.tokens.TokenKind.{TokenKind}
use Rattle.goal_lexer.specs.declared.tokens.TokenKind.TheVariants as token
use Rattle.goal_limits.specs.declared.limits.TheConstants.{MAX_OPS, MAX_DEPS, MAX_NOTES}
use Rattle.goal_graph.specs.declared.plan.Op.{Op}
use Rattle.goal_graph.specs.declared.plan.Kind.{Kind}
use Rattle.goal_graph.specs.declared.plan.Kind.TheVariants.{Calc, Send, Recv}
use Rattle.goal_graph.specs.declared.plan.Dep.{Dep}
use Rattle.goal_graph.specs.declared.plan.Note.{Note}
use Rattle.goal_graph.specs.declared.plan.Note.TheVariants.{Moves, Adds}
use Rattle.goal_graph.specs.Schedule.{Plan}
use Rattle.goal_parser.specs.declared.sentence.State.{State}
use Rattle.goal_parser.specs.declared.sentence.State.TheVariants as state
use Rattle.goal_parser.specs.declared.draft.Draft.{Draft}
use Rattle.goal_parser.specs.declared.counts.Counts.{Counts}
use Rattle.goal_parser.specs.declared.head.Verb.{Verb}
use Rattle.goal_parser.specs.declared.head.Verb.TheVariants as verb
use Rattle.goal_parser.specs.Actions.{op_of}
use Rattle.goal_parser.specs.Items.{ended_ops, ends_action, is_defined, op_number, dep_by, note_by, note_as, first_unknown}
use Rattle.goal_print.specs.Canonical.{label}
use Rattle.goal_print.proofs.Fits.{KindFits, OpFits, DepFits, NoteFits}
use Rattle.goal_print.proofs.TextKinds.{op_kinds, ops_kinds, deps_kinds, note_kinds, notes_kinds}
use Rattle.goal_print.proofs.Seen.{Seen, ops_now, Good, BeginsItem}
use Rattle.goal_print.proofs.ItemsRead.{after_op, calc_draft, send_draft, recv_draft, calc_read, send_read, recv_read, after_dep, after_note, dep_read, moves_read, adds_read}
use Rattle.goal_print.proofs.LabelLaws.{Knows, knows_with_next_label, no_outside_label_after_append, no_outside_label_in_empty}

-- what a block leaves unchanged before its end
pub record Frame : Type 0 where
  pub ranks : ℕ
  pub blocks : List ℕ
  pub rank : ℕ
  pub plans : List Plan

abbrev pub frame_of : Seen → Frame
frame_of s = record { ranks = s.ranks; blocks = s.blocks; rank = s.rank; plans = s.plans }

-- there is room for more operations, dependencies and notes
pub record IsRoom (counts : Counts) (ops deps notes : ℕ) : Type 0 where
  pub ops_fit : counts.ops + ops ≤ MAX_OPS
  pub deps_fit : counts.deps + deps ≤ MAX_DEPS
  pub notes_fit : counts.notes + notes ≤ MAX_NOTES

-- these operations are read so far, and no dependency or note
pub record InOps (s : Seen) (frame : Frame) (os : List Op) (ops deps notes : ℕ) : Type 0 where
  pub begins : BeginsItem s.state
  pub ops_are : ops_now s ≡ os
  pub knows : Knows s.defined (length os)
  pub no_deps : s.deps ≡ []
  pub no_notes : s.notes ≡ []
  pub no_uses : s.used ≡ []
  pub frame_is : frame_of s ≡ frame
  pub room : IsRoom s.counts ops deps notes

-- another operation
module _ (s : Seen) (frame : Frame) (os : List Op) (n ops deps notes : ℕ) (long : length os ≡ n) (few : n < 2 ^ 32)
    (h : InOps s frame os (ops + 1) deps notes) (kinds : List TokenKind) (plans : List Plan) where
  new_label : is_defined s.defined (label n) ≡ false
  new_label = ap is_some (h.knows.new n (omega arith) few)

  room_for_next_op : s.counts.ops < MAX_OPS
  room_for_next_op = let fit = h.room.ops_fit in omega arith

  op_ended_by_next_word : (at : ℕ) (st : State) (draft : Draft) (o : Op) → BeginsItem st → ended_ops st token.Close (op_of draft) (ops_now s) ≡ ops_now s ++ op_of draft ∷ []
      → op_of draft ≡ o → InOps (after_op s (label n) at st draft) frame (os ++ o ∷ []) ops deps notes
  op_ended_by_next_word at st draft o begins ends is = record {
    begins = begins;
    ops_are = ends ∙ ap (λ (l : List Op). l ++ op_of draft ∷ []) h.ops_are ∙ ap (λ (p : Op). os ++ p ∷ []) is;
    knows =
        let longer : length (os ++ o ∷ []) ≡ n + 1 = omega (arith, length-append os (o ∷ []), long) in
        let same : length (ops_now s) ≡ n = ap length h.ops_are ∙ long in
        subst (λ (m : ℕ). Knows (s.defined ++ record { label = label n; op = length (ops_now s) } ∷ []) m) (sym longer)
        (subst (λ (m : ℕ). Knows (s.defined ++ record { label = label n; op = m } ∷ []) (n + 1)) (sym same)
        (knows_with_next_label s.defined n few (subst (Knows s.defined) long h.knows)));
    no_deps = h.no_deps;
    no_notes = h.no_notes;
    no_uses = h.no_uses;
    frame_is = h.frame_is;
    room = let fit = h.room.ops_fit in record { ops_fit = omega arith; deps_fit = h.room.deps_fit; notes_fit = h.room.notes_fit };
  }

  op_read : (kind : Kind) (cpu nic : ℕ) → KindFits kind nic → cpu ≤ 255
      → ((t : Seen) → InOps t frame (os ++ record { kind = kind; cpu = cpu; nic = nic } ∷ []) ops deps notes → Good t kinds plans)
      → Good s (op_kinds n (record { kind = kind; cpu = cpu; nic = nic }) kinds) plans
  unfolding ends_action
  op_read (Calc nanos) cpu nic fits small good =
      calc_read s (label n) kinds plans h.begins new_label room_for_next_op nanos cpu nic fits.0 small (λ at.
      good (after_op s (label n) at state.Calc2 (calc_draft s.draft nanos cpu))
      (op_ended_by_next_word at state.Calc2 (calc_draft s.draft nanos cpu) (record { kind = Calc nanos; cpu = cpu; nic = nic }) tt refl
      (ap (λ (m : ℕ). record { kind = Calc nanos; cpu = cpu; nic = m }) (sym fits.1))))
  op_read (Send bytes to tag) cpu nic fits small good =
      send_read s (label n) kinds plans h.begins new_label room_for_next_op bytes to tag cpu nic fits.0 fits.1 fits.2 small fits.3 (λ at.
      good (after_op s (label n) at state.Send4 (send_draft bytes to tag cpu nic))
      (op_ended_by_next_word at state.Send4 (send_draft bytes to tag cpu nic) (record { kind = Send bytes to tag; cpu = cpu; nic = nic }) tt refl refl))
  op_read (Recv bytes from tag) cpu nic fits small good =
      recv_read s (label n) kinds plans h.begins new_label room_for_next_op bytes from tag cpu nic fits.0 fits.1 fits.2 small fits.3 (λ at.
      good (after_op s (label n) at state.Recv4 (recv_draft bytes from tag cpu nic))
      (op_ended_by_next_word at state.Recv4 (recv_draft bytes from tag cpu nic) (record { kind = Recv bytes from tag; cpu = cpu; nic = nic }) tt refl refl))

-- all operations of a rank
pub ops_read : (more : List Op) (s : Seen) (frame : Frame) (os : List Op) (n ops deps notes : ℕ) (kinds : List TokenKind) (plans : List Plan)
    → length os ≡ n → n + length more < 2 ^ 32 → AllByRecursion OpFits more → InOps s frame os (ops + length more) deps notes
    → ((t : Seen) → InOps t frame (os ++ more) ops deps notes → Good t kinds plans) → Good s (ops_kinds n more kinds) plans
ops_read [] s frame os n ops deps notes kinds plans long few fits h good =
    good s (subst (λ (l : List Op). InOps s frame l ops deps notes) (sym (append-nil os)) (subst (λ (m : ℕ). InOps s frame os m deps notes) (omega arith) h))
ops_read (o ∷ more) s frame os n ops deps notes kinds plans long few fits h good =
    let left : ops + length (o ∷ more) ≡ ops + length more + 1 = omega arith in
    op_read s frame os n (ops + length more) deps notes long (omega arith) (subst (λ (m : ℕ). InOps s frame os m deps notes) left h)
    (ops_kinds (n + 1) more kinds) plans o.kind o.cpu o.nic fits.0.kind fits.0.cpu
    (λ t h2. ops_read more t frame (os ++ o ∷ []) (n + 1) ops deps notes kinds plans (omega (arith, length-append os (o ∷ []), long)) (omega arith) fits.1 h2
    (λ u h3. good u (subst (λ (l : List Op). InOps u frame l ops deps notes) (append_assoc os (o ∷ []) more) h3)))

-- the operations and these dependencies and notes are read so far
pub record InItems (s : Seen) (frame : Frame) (os : List Op) (ds : List Dep) (ns : List Note) (ops deps notes : ℕ) : Type 0 where
  pub begins : BeginsItem s.state
  pub ops_are : ops_now s ≡ os
  pub knows : Knows s.defined (length os)
  pub deps_are : map (dep_by s.defined) s.deps ≡ ds
  pub notes_are : map (note_by s.defined) s.notes ≡ ns
  pub known : first_unknown s.defined s.used ≡ None
  pub frame_is : frame_of s ≡ frame
  pub room : IsRoom s.counts ops deps notes

pub items_begin : (s : Seen) (frame : Frame) (os : List Op) (ops deps notes : ℕ) → InOps s frame os ops deps notes → InItems s frame os [] [] ops deps notes
items_begin s frame os ops deps notes h = record {
  begins = h.begins;
  ops_are = h.ops_are;
  knows = h.knows;
  deps_are = ap (map (dep_by s.defined)) h.no_deps;
  notes_are = ap (map (note_by s.defined)) h.no_notes;
  known = ap (first_unknown s.defined) h.no_uses ∙ no_outside_label_in_empty (is_defined s.defined);
  frame_is = h.frame_is;
  room = h.room;
}

module _ (s : Seen) (frame : Frame) (os : List Op) (ds : List Dep) (ns : List Note) (ops deps notes : ℕ) (kinds : List TokenKind) (plans : List Plan) where
  label_known : Knows s.defined (length os) → (i : ℕ) → i < length os → is_defined s.defined (label i) ≡ true
  label_known knows i below = ap is_some (knows.there i below)

  label_number : Knows s.defined (length os) → (i : ℕ) → i < length os → op_number s.defined (label i) ≡ i
  label_number knows i below = ap (λ (o : Option ℕ). unwrap_or o 0) (knows.there i below)

  -- another dependency
  next_dep_read : (d : Dep) → DepFits (length os) d → InItems s frame os ds ns ops (deps + 1) notes
      → ((t : Seen) → InItems t frame os (ds ++ d ∷ []) ns ops deps notes → Good t kinds plans) → Good s (deps_kinds (d ∷ []) kinds) plans
  unfolding ends_action
  next_dep_read d fits h good =
      dep_read s kinds plans h.begins (label d.later) (label d.earlier) d.when (let fit = h.room.deps_fit in omega arith)
      (λ at there. good (after_dep s (label d.later) (label d.earlier) at there d.when) (record {
        begins = tt;
        ops_are = h.ops_are;
        knows = h.knows;
        deps_are =
            map-append (dep_by s.defined) s.deps (record { later = label d.later; earlier = label d.earlier; when = d.when } ∷ [])
            ∙ ap (λ (l : List Dep). l ++ dep_by s.defined (record { later = label d.later; earlier = label d.earlier; when = d.when }) ∷ []) h.deps_are
            ∙ ap (λ (i : ℕ). ds ++ record { later = i; earlier = op_number s.defined (label d.earlier); when = d.when } ∷ []) (label_number h.knows d.later fits.0)
            ∙ ap (λ (i : ℕ). ds ++ record { later = d.later; earlier = i; when = d.when } ∷ []) (label_number h.knows d.earlier fits.1);
        notes_are = h.notes_are;
        known =
            no_outside_label_after_append (is_defined s.defined) (s.used ++ record { label = label d.later; at = at } ∷ []) (record { label = label d.earlier; at = there })
            (no_outside_label_after_append (is_defined s.defined) s.used (record { label = label d.later; at = at }) h.known (label_known h.knows d.later fits.0))
            (label_known h.knows d.earlier fits.1);
        frame_is = h.frame_is;
        room = let fit = h.room.deps_fit in record { ops_fit = h.room.ops_fit; deps_fit = omega arith; notes_fit = h.room.notes_fit };
      }))

  -- another note
  after_note-items : (op : ℕ) (verb : Verb) (first second at : ℕ) → op < length os → InItems s frame os ds ns ops deps (notes + 1)
      → InItems (after_note s (label op) at verb first second) frame os ds (ns ++ note_as verb op first second ∷ []) ops deps notes
  unfolding ends_action
  after_note-items op verb first second at below h = record {
    begins = tt;
    ops_are = h.ops_are;
    knows = h.knows;
    deps_are = h.deps_are;
    notes_are =
        map-append (note_by s.defined) s.notes (record { subject = label op; verb = verb; first = first; second = second } ∷ [])
        ∙ ap (λ (l : List Note). l ++ note_as verb (op_number s.defined (label op)) first second ∷ []) h.notes_are
        ∙ ap (λ (i : ℕ). ns ++ note_as verb i first second ∷ []) (label_number h.knows op below);
    known = no_outside_label_after_append (is_defined s.defined) s.used (record { label = label op; at = at }) h.known (label_known h.knows op below);
    frame_is = h.frame_is;
    room = let fit = h.room.notes_fit in record { ops_fit = h.room.ops_fit; deps_fit = h.room.deps_fit; notes_fit = omega arith };
  }

  next_note_read : (n : Note) → NoteFits (length os) n → InItems s frame os ds ns ops deps (notes + 1)
      → ((t : Seen) → InItems t frame os ds (ns ++ n ∷ []) ops deps notes → Good t kinds plans) → Good s (note_kinds n kinds) plans
  next_note_read (Moves op lo hi) fits h good =
      moves_read s kinds plans h.begins (label op) lo hi (let fit = h.room.notes_fit in omega arith) fits.1 fits.2
      (λ at. good (after_note s (label op) at verb.Moves lo hi) (after_note-items op verb.Moves lo hi at fits.0 h))
  next_note_read (Adds op from to) fits h good =
      adds_read s kinds plans h.begins (label op) from to (let fit = h.room.notes_fit in omega arith) fits.1 fits.2
      (λ at. good (after_note s (label op) at verb.Adds from to) (after_note-items op verb.Adds from to at fits.0 h))

pub deps_read : (more : List Dep) (s : Seen) (frame : Frame) (os : List Op) (ds : List Dep) (ops deps notes : ℕ) (kinds : List TokenKind) (plans : List Plan)
    → AllByRecursion (DepFits (length os)) more → InItems s frame os ds [] ops (deps + length more) notes
    → ((t : Seen) → InItems t frame os (ds ++ more) [] ops deps notes → Good t kinds plans) → Good s (deps_kinds more kinds) plans
deps_read [] s frame os ds ops deps notes kinds plans fits h good =
    good s (subst (λ (l : List Dep). InItems s frame os l [] ops deps notes) (sym (append-nil ds)) (subst (λ (m : ℕ). InItems s frame os ds [] ops m notes) (omega arith) h))
deps_read (d ∷ more) s frame os ds ops deps notes kinds plans fits h good =
    let left : deps + length (d ∷ more) ≡ deps + length more + 1 = omega arith in
    next_dep_read s frame os ds [] ops (deps + length more) notes (deps_kinds more kinds) plans d fits.0
    (subst (λ (m : ℕ). InItems s frame os ds [] ops m notes) left h)
    (λ t h2. deps_read more t frame os (ds ++ d ∷ []) ops deps notes kinds plans fits.1 h2
    (λ u h3. good u (subst (λ (l : List Dep). InItems u frame os l [] ops deps notes) (append_assoc ds (d ∷ []) more) h3)))

pub notes_read : (more : List Note) (s : Seen) (frame : Frame) (os : List Op) (ds : List Dep) (ns : List Note) (ops deps notes : ℕ) (kinds : List TokenKind) (plans : List Plan)
    → AllByRecursion (NoteFits (length os)) more → InItems s frame os ds ns ops deps (notes + length more)
    → ((t : Seen) → InItems t frame os ds (ns ++ more) ops deps notes → Good t kinds plans) → Good s (notes_kinds more kinds) plans
notes_read [] s frame os ds ns ops deps notes kinds plans fits h good =
    good s (subst (λ (l : List Note). InItems s frame os ds l ops deps notes) (sym (append-nil ns)) (subst (λ (m : ℕ). InItems s frame os ds ns ops deps m) (omega arith) h))
notes_read (n ∷ more) s frame os ds ns ops deps notes kinds plans fits h good =
    let left : notes + length (n ∷ more) ≡ notes + length more + 1 = omega arith in
    next_note_read s frame os ds ns ops deps (notes + length more) (notes_kinds more kinds) plans n fits.0
    (subst (λ (m : ℕ). InItems s frame os ds ns ops deps m) left h)
    (λ t h2. notes_read more t frame os ds (ns ++ n ∷ []) ops deps notes kinds plans fits.1 h2
    (λ u h3. good u (subst (λ (l : List Note). InItems u frame os ds l ops deps notes) (append_assoc ns (n ∷ []) more) h3)))
