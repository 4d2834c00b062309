-- The items of a block that begin with a label: definitions, dependencies and notes.
use Rattle.std.specs.Prelude.{ℕ, Bool, true, false, List, [], ◌∷◌, ◌++◌, Option, Some, None, is_some, if◌then◌else◌, bytes_eq, length, unwrap_or}
use Rattle.goal_lexer.specs.declared.tokens.Token.{Token}
use Rattle.goal_lexer.specs.declared.tokens.TokenKind.{TokenKind}
use Rattle.goal_lexer.specs.declared.tokens.TokenKind.TheVariants as token
use Rattle.goal_graph.specs.declared.plan.Op.{Op}
use Rattle.goal_graph.specs.declared.plan.Dep.{Dep}
use Rattle.goal_graph.specs.declared.plan.When.{When}
use Rattle.goal_graph.specs.declared.plan.When.TheVariants.{AfterEnd, AfterStart}
use Rattle.goal_graph.specs.declared.plan.Note.{Note}
use Rattle.goal_graph.specs.declared.plan.Note.TheVariants.{Moves, Adds}
use Rattle.goal_parser.specs.declared.sentence.State.{State}
use Rattle.goal_parser.specs.declared.sentence.State.TheVariants as state
use Rattle.goal_parser.specs.declared.head.Mention.{Mention}
use Rattle.goal_parser.specs.declared.head.Verb.{Verb}
use Rattle.goal_parser.specs.declared.head.Verb.TheVariants as verb
use Rattle.goal_parser.specs.declared.head.ItemHead.{ItemHead}
use Rattle.goal_parser.specs.Sentence.{state_of}
use Rattle.goal_parser.specs.Actions.{draft_of, op_of}

-- a label begins an item, except after `requires` or `irequires`
abbrev pub label_head : State → Mention → ItemHead → ItemHead
label_head state.Label mention head = head
label_head _ mention head = record head { subject = Some mention }

-- the first slot of a note
abbrev pub low_head : State → ℕ → ItemHead → ItemHead
low_head state.Note1 n head = record head { low = n }
low_head _ n head = head

-- the verb of a dependency or a note
abbrev pub verb_head : TokenKind → ItemHead → ItemHead
verb_head token.Requires head = record head { verb = verb.Requires }
verb_head token.Irequires head = record head { verb = verb.Irequires }
verb_head token.Moves head = record head { verb = verb.Moves }
verb_head token.Adds head = record head { verb = verb.Adds }
verb_head _ head = head

unfoldable pub head_with : State → TokenKind → ℕ → ItemHead → ItemHead
head_with s (token.Label label) at head = label_head s (record { label = label; at = at }) head
head_with s (token.Number n) at head = low_head s n head
head_with s kind at head = verb_head kind head

-- The label that begins the newest item, the newest verb, and the newest first slot. The newest token comes first.
unfoldable pub head_of : List Token → ItemHead
head_of [] = record { subject = None; verb = verb.Requires; low = 0 }
head_of (t ∷ before) = head_with (state_of before) t.kind t.start (head_of before)

-- the token ends an action, since it cannot belong to it
abbrev pub begins_item : TokenKind → Bool
begins_item token.Close = true
begins_item (token.Label label) = true
begins_item token.Calc = true
begins_item token.Send = true
begins_item token.Recv = true
begins_item _ = false

unfoldable pub ends_action : State → TokenKind → Bool
ends_action state.Calc2 kind = begins_item kind
ends_action state.Send4 kind = begins_item kind
ends_action state.Recv4 kind = begins_item kind
ends_action _ kind = false

-- the operations, with that of an action that ends at this token
abbrev pub ended_ops : State → TokenKind → Op → List Op → List Op
ended_ops s kind op ops = if ends_action s kind then ops ++ op ∷ [] else ops

unfoldable pub ops_with : State → TokenKind → Op → List Op → List Op
ops_with s token.Close op ops = []
ops_with s kind op ops = ended_ops s kind op ops

-- the operations of the present block whose actions have ended
unfoldable pub ops_of : List Token → List Op
ops_of [] = []
ops_of (t ∷ before) = ops_with (state_of before) t.kind (op_of (draft_of before)) (ops_of before)

-- a label with the number of the operation that it precedes
pub record Definition : Type 0 where
  pub label : List ℕ
  pub op : ℕ

-- the number of a label's operation, if the label is defined
unfoldable pub defined_as : List Definition → List ℕ → Option ℕ
defined_as [] label = None
defined_as (d ∷ ds) label = if bytes_eq label d.label then Some d.op else defined_as ds label

abbrev pub is_defined : List Definition → List ℕ → Bool
is_defined ds label = is_some (defined_as ds label)

-- a colon defines the label before it
abbrev pub define : Option Mention → ℕ → List Definition → List Definition
define None op ds = ds
define (Some subject) op ds = ds ++ record { label = subject.label; op = op } ∷ []

unfoldable pub defined_with : TokenKind → Option Mention → ℕ → List Definition → List Definition
defined_with token.Close subject op ds = []
defined_with token.Colon subject op ds = define subject op ds
defined_with _ subject op ds = ds

-- the labels that the present block has defined
unfoldable pub defined_of : List Token → List Definition
defined_of [] = []
defined_of (t ∷ before) = defined_with t.kind (head_of before).subject (length (ops_of before)) (defined_of before)

-- a dependency, by its labels: `later` requires or irequires `earlier`
pub record NamedDep : Type 0 where
  pub later : List ℕ
  pub earlier : List ℕ
  pub when : When

-- a note, by its label
pub record NamedNote : Type 0 where
  pub subject : List ℕ
  pub verb : Verb
  pub first : ℕ
  pub second : ℕ

abbrev pub when_of : Verb → When
when_of verb.Requires = AfterEnd
when_of _ = AfterStart

-- a dependency ends with its second label
abbrev pub dep_ended : State → Option Mention → Verb → List ℕ → List NamedDep → List NamedDep
dep_ended state.Label (Some subject) verb earlier deps =
    deps ++ record { later = subject.label; earlier = earlier; when = when_of verb } ∷ []
dep_ended _ _ verb earlier deps = deps

unfoldable pub deps_with : State → TokenKind → ItemHead → List NamedDep → List NamedDep
deps_with s token.Close head deps = []
deps_with s (token.Label label) head deps = dep_ended s head.subject head.verb label deps
deps_with s _ head deps = deps

-- the dependencies of the present block
unfoldable pub deps_of : List Token → List NamedDep
deps_of [] = []
deps_of (t ∷ before) = deps_with (state_of before) t.kind (head_of before) (deps_of before)

-- a note ends with its second number
abbrev pub note_ended : State → Option Mention → Verb → ℕ → ℕ → List NamedNote → List NamedNote
note_ended state.Note3 (Some subject) verb low n notes =
    notes ++ record { subject = subject.label; verb = verb; first = low; second = n } ∷ []
note_ended _ _ verb low n notes = notes

unfoldable pub notes_with : State → TokenKind → ItemHead → List NamedNote → List NamedNote
notes_with s token.Close head notes = []
notes_with s (token.Number n) head notes = note_ended s head.subject head.verb head.low n notes
notes_with s _ head notes = notes

-- the notes of the present block
unfoldable pub notes_of : List Token → List NamedNote
notes_of [] = []
notes_of (t ∷ before) = notes_with (state_of before) t.kind (head_of before) (notes_of before)

-- a dependency uses both its labels, and a note uses its label
abbrev pub dep_uses : State → Option Mention → Mention → List Mention → List Mention
dep_uses state.Label (Some subject) earlier used = (used ++ subject ∷ []) ++ earlier ∷ []
dep_uses _ _ earlier used = used

abbrev pub note_uses : State → Option Mention → List Mention → List Mention
note_uses state.Note3 (Some subject) used = used ++ subject ∷ []
note_uses _ _ used = used

unfoldable pub used_with : State → TokenKind → ℕ → ItemHead → List Mention → List Mention
used_with s token.Close at head used = []
used_with s (token.Label label) at head used = dep_uses s head.subject (record { label = label; at = at }) used
used_with s (token.Number n) at head used = note_uses s head.subject used
used_with s _ at head used = used

-- the labels in dependencies and notes of the present block, in the order of the text
unfoldable pub used_of : List Token → List Mention
used_of [] = []
used_of (t ∷ before) = used_with (state_of before) t.kind t.start (head_of before) (used_of before)

-- the place of the first of these labels that does not pass the test
unfoldable pub first_outside : (List ℕ → Bool) → List Mention → Option ℕ
first_outside test [] = None
first_outside test (u ∷ us) = if test u.label then first_outside test us else Some u.at

-- the place of the first of these labels that is not defined
abbrev pub first_unknown : List Definition → List Mention → Option ℕ
first_unknown ds us = first_outside (is_defined ds) us

-- a dependency or a note, with operations instead of labels
abbrev pub op_number : List Definition → List ℕ → ℕ
op_number ds label = unwrap_or (defined_as ds label) 0

abbrev pub dep_by : List Definition → NamedDep → Dep
dep_by ds d = record { later = op_number ds d.later; earlier = op_number ds d.earlier; when = d.when }

abbrev pub note_as : Verb → ℕ → ℕ → ℕ → Note
note_as verb.Moves op first second = Moves op first second
note_as _ op first second = Adds op first second

abbrev pub note_by : List Definition → NamedNote → Note
note_by ds n = note_as n.verb (op_number ds n.subject) n.first n.second
