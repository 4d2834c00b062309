-- The tokens of a text with plans are sentences, and its plans are those of the sentences.
use Rattle.std.proofs.Common.{◌≡◌, ◌≢◌, ℕ, ◌+◌, ◌<◌, Bool, true, false, ◌||◌, List, [], ◌∷◌, ◌++◌, map, length, reverse, replicate, slice_set, nat_eq, nat_lt, bytes_eq, cond, not, add-zero, ◌≤◌, Option, Some, None, is_none, is_some, unwrap_or, refl, sym, ap, subst, ◌∙◌, arith, append_assoc, length-append}
use Rattle.std.specs.Prelude.{⊤, ◌==◌, if◌then◌else◌, slice_index_or}
use Rattle.std.specs.List.{AllByRecursion, All, flat_map, list_any, count_by}
use Rattle.std.specs.Option.{option_or, option_map}
use Rattle.std.proofs.lemmas.List.Elements.{All-append, All-from_recursion}
use Rattle.std.proofs.lemmas.List.Sums.{sum_by-append, sum_by-cons}
use Rattle.std.proofs.lemmas.Slice.Eq.{bytes_eq-Decides}
use Rattle.std.proofs.lemmas.Bool.{true≢false}
use Rattle.std.proofs.lemmas.Bool.Decides.{nat_tests}
use Rattle.std.proofs.lemmas.List.{append-nil, map-append, flat_map_more, length-replicate, get_or-replicate, length-set, get_or-set_same, get_or-set_other, reverse-append}
use Rattle.goal_lexer.specs.declared.tokens.Token.{Token}
use Rattle.goal_lexer.specs.declared.tokens.TokenKind.{TokenKind}
use Rattle.goal_lexer.specs.declared.tokens.TokenKind.TheVariants as token
use Rattle.goal_lexer.specs.Scan.{lexed}
use Rattle.goal_graph.specs.declared.plan.Op.{Op}
use Rattle.goal_graph.specs.declared.plan.When.TheVariants.{AfterEnd, AfterStart}
use Rattle.goal_graph.specs.Schedule.{Plan}
use Rattle.goal_parser.specs.declared.faults.TextFault.{TextFault}
use Rattle.goal_parser.specs.declared.sentence.State.{State}
use Rattle.goal_parser.specs.declared.sentence.State.TheVariants as state
use Rattle.goal_parser.specs.declared.draft.Action.{Action}
use Rattle.goal_parser.specs.declared.draft.Action.TheVariants as action
use Rattle.goal_parser.specs.declared.draft.OptionWord.{OptionWord}
use Rattle.goal_parser.specs.declared.draft.OptionWord.TheVariants as option
use Rattle.goal_parser.specs.declared.draft.Draft.{Draft}
use Rattle.goal_parser.specs.declared.head.ItemHead.{ItemHead}
use Rattle.goal_parser.specs.declared.head.Mention.{Mention}
use Rattle.goal_parser.specs.declared.head.Verb.{Verb}
use Rattle.goal_parser.specs.declared.head.Verb.TheVariants as verb
use Rattle.goal_parser.specs.Sentence.{entry, item_entry, state_of}
use Rattle.goal_parser.specs.Ranks.{blocks_with, rank_with, rank_of, blocks_of}
use Rattle.goal_parser.specs.Actions.{begun, option_with, draft_with, draft_of, op_of, has_option}
use Rattle.goal_parser.specs.Items.{Definition, NamedDep, NamedNote, ends_action, ended_ops, ops_with, ops_of, head_with, head_of, defined_with, defined_of, define, dep_ended, deps_with, deps_of, note_ended, notes_with, notes_of, dep_by, note_by}
use Rattle.goal_parser.specs.Plans.{empty_plan, plans_with, plans_of}
use Rattle.goal_parser.specs.Reads.{first_fault, last_fault, text_fault, text_plans, reading, reads, plans, faulty}
use Rattle.goal_parser.specs.declared.faults.TextFault.TheVariants.{Syntax, Rank, Repeat, UnknownLabel}
use Rattle.goal_parser.specs.declared.counts.Counts.{Counts}
use Rattle.goal_parser.specs.Ranks.{ranks_with, ranks_of}
use Rattle.goal_parser.specs.Counts.{counts_of}
use Rattle.goal_parser.specs.Items.{defined_as, is_defined, first_outside, first_unknown, dep_uses, note_uses, used_with, used_of}
use Rattle.goal_parser.specs.Faults.{fault_by, token_fault, syntax_fault, number_fault, rank_fault, rank_fault_of, fault_if, option_fault, defined_fault, label_fault, label_fault_of, count_fault, unknown_fault, unknown_fault_of}
use Rattle.goal_parser.proofs.ParserLaws.{first_is_none, second_is_none, no_fault_if_false, no_fault_unless_true, rank_passes}
use Rattle.goal_parser.proofs.LimitLaws.{state_after}
use Rattle.goal_parser.specs.Grammar.{Amount, plain, marked, Setting, tag, cpu, nic, Item, calc, send, recv, requires, irequires, moves, adds, Block, Written, number_or_any, amount_token, setting_tokens, label_tokens, item_tokens, block_tokens, text_tokens, amount, tag_of, cpu_of, nic_of, op_said, defined_before, defined_by, definitions, dep_said, note_said, plan_said, rank_said, AreSaid, used_by, is_tag, is_cpu, is_nic, AreGivenOnce, HasOptionsOnce, KeepsRules, AreRight, IsWritten, IsNewRank}

-- what is kept of the tokens so far, except for the newest action and the newest head
record Kept : Type 0 where
  ranks : ℕ
  used : List Mention
  blocks : List ℕ
  rank : ℕ
  ops : List Op
  defined : List Definition
  deps : List NamedDep
  notes : List NamedNote
  plans : List Plan

abbrev kept_of : List Token → Kept
kept_of before = record {
  ranks = ranks_of before;
  used = used_of before;
  blocks = blocks_of before;
  rank = rank_of before;
  ops = ops_of before;
  defined = defined_of before;
  deps = deps_of before;
  notes = notes_of before;
  plans = plans_of before;
}

abbrev plan_with : State → Draft → Kept → Plan
plan_with s draft kept = record {
  ops = ended_ops s token.Close (op_of draft) kept.ops;
  deps = map (dep_by kept.defined) kept.deps;
  notes = map (note_by kept.defined) kept.notes;
}

abbrev kept_with : State → TokenKind → ℕ → Draft → ItemHead → Kept → Kept
kept_with s k at draft head kept = record {
  ranks = ranks_with s k kept.ranks;
  used = used_with s k at head kept.used;
  blocks = blocks_with s k kept.blocks;
  rank = rank_with s k kept.rank;
  ops = ops_with s k (op_of draft) kept.ops;
  defined = defined_with k head.subject (length kept.ops) kept.defined;
  deps = deps_with s k head kept.deps;
  notes = notes_with s k head kept.notes;
  plans = plans_with s k kept.rank (plan_with s draft kept) kept.plans;
}

-- the dependency and the note of an item, by their labels
abbrev dep_named : Item → List NamedDep
dep_named (requires later earlier) = record { later = later; earlier = earlier; when = AfterEnd } ∷ []
dep_named (irequires later earlier) = record { later = later; earlier = earlier; when = AfterStart } ∷ []
dep_named _ = []

abbrev note_named : Item → List NamedNote
note_named (moves label first last) = record { subject = label; verb = verb.Moves; first = first; second = last } ∷ []
note_named (adds label from to) = record { subject = label; verb = verb.Adds; first = from; second = to } ∷ []
note_named _ = []

dep_by_labels : (ds : List Definition) (item : Item) → map (dep_by ds) (dep_named item) ≡ dep_said ds item
dep_by_labels ds (requires later earlier) = refl
dep_by_labels ds _ = refl

note_by_labels : (ds : List Definition) (item : Item) → map (note_by ds) (note_named item) ≡ note_said ds item
note_by_labels ds (moves label first last) = refl
note_by_labels ds _ = refl

module _ {A B : Type 0} (f : A → B) (g : Item → List A) (h : Item → List B) (same : (item : Item) → map f (g item) ≡ h item) where
  map_items : (items : List Item) → map f (flat_map g items) ≡ flat_map h items
  map_items [] = refl
  map_items (item ∷ items) =
      map-append f (g item) (flat_map g items) ∙ ap (λ (xs : List B). xs ++ map f (flat_map g items)) (same item) ∙ ap (λ (xs : List B). h item ++ xs) (map_items items)

flat_map_with_last : {A B : Type 0} (f : A → List B) (xs : List A) (x : A) → flat_map f xs ++ f x ≡ flat_map f (xs ++ x ∷ [])
flat_map_with_last f xs x = flat_map_more f [] xs x

definitions-push : (n : ℕ) (items : List Item) (item : Item) → definitions n (items ++ item ∷ []) ≡ definitions n items ++ defined_by item (n + length (flat_map op_said items))
definitions-push n [] item =
    let same : n ≡ n + 0 = omega arith in
    append-nil (defined_by item n) ∙ ap (defined_by item) same
definitions-push n (x ∷ xs) item =
    let next = n + length (op_said x) in
    let same : next + length (flat_map op_said xs) ≡ n + length (op_said x ++ flat_map op_said xs) = omega (arith, length-append (op_said x) (flat_map op_said xs)) in
    ap (λ (ds : List Definition). defined_by x n ++ ds) (definitions-push next xs item)
    ∙ ap (λ (m : ℕ). defined_by x n ++ (definitions next xs ++ defined_by item m)) same
    ∙ sym (append_assoc (defined_by x n) (definitions next xs) (defined_by item (n + length (op_said x ++ flat_map op_said xs))))

-- lists and counts with another element
All-push : {X : Type 0} (P : X → Type 0) (xs : List X) (x : X) → All P xs → P x → All P (xs ++ x ∷ [])
All-push P xs x all one = All-append P xs (x ∷ []) all (All-from_recursion P (x ∷ []) (one, tt))

count_cons_is_zero : {X : Type 0} (p : X → Bool) (x : X) (xs : List X) → p x ≡ false → count_by p xs ≡ 0 → count_by p (x ∷ xs) ≡ 0
count_cons_is_zero p x xs is none =
    let same : 0 + count_by p xs ≡ 0 = omega arith in
    sum_by-cons (λ y. cond (p y) 1 0) x xs ∙ ap (λ (t : Bool). cond t 1 0 + count_by p xs) is ∙ same

count_push_at_most_one : {X : Type 0} (p : X → Bool) (xs : List X) (x : X) → (p x ≡ true → count_by p xs ≡ 0) → count_by p xs ≤ 1 → count_by p (xs ++ x ∷ []) ≤ 1
count_push_at_most_one p xs x none few =
    let whole : count_by p (xs ++ x ∷ []) ≡ count_by p xs + cond (p x) 1 0 =
    sum_by-append (λ y. cond (p y) 1 0) xs (x ∷ []) ∙ ap (λ (n : ℕ). count_by p xs + n) (sum_by-cons (λ y. cond (p y) 1 0) x [] ∙ add-zero (cond (p x) 1 0)) in
    subst (λ (n : ℕ). n ≤ 1) (sym whole) (by (p x) refl)
  where
    by : (b : Bool) → p x ≡ b → count_by p xs + cond b 1 0 ≤ 1
    by true is = let e = none is in omega arith
    by false is = omega arith

abbrev pub labels_in : List Mention → List (List ℕ)
labels_in us = map (λ (u : Mention). u.label) us

abbrev is_label : List ℕ → Definition → Bool
is_label label d = bytes_eq label d.label

abbrev ranks_in : List Block → List ℕ
ranks_in bs = map (λ (b : Block). b.rank) bs

-- no part of a block is kept
record IsClear (kept : Kept) : Type 0 where
  ops : kept.ops ≡ []
  defined : kept.defined ≡ []
  used : kept.used ≡ []
  deps : kept.deps ≡ []
  notes : kept.notes ≡ []

-- the tokens are whole blocks, followed by this part of the next block
record IsOutsideBlock (kept : Kept) (ks part : List TokenKind) : Type 0 where
  written : Written
  spelled : ks ≡ text_tokens written ++ part
  right : AreRight written
  ranks : kept.ranks ≡ written.ranks
  said : AreSaid written kept.plans
  blocks : kept.blocks ≡ ranks_in written.blocks
  clear : IsClear kept

record Opened (kept : Kept) (ks : List TokenKind) : Type 0 where
  written : Written
  spelled : ks ≡ text_tokens written ++ token.Rank ∷ token.Number kept.rank ∷ []
  right : AreRight written
  ranks : kept.ranks ≡ written.ranks
  below : kept.rank < written.ranks
  said : AreSaid written kept.plans
  blocks : kept.blocks ≡ ranks_in written.blocks ++ kept.rank ∷ []
  new : list_any (nat_eq kept.rank) (ranks_in written.blocks) ≡ false
  clear : IsClear kept

-- the tokens are whole blocks, then an open block: items and this part of an item, which defines this label
record IsInsideBlock (kept : Kept) (ks part : List TokenKind) (label : Option (List ℕ)) : Type 0 where
  written : Written
  items : List Item
  spelled : ks ≡ text_tokens written ++ token.Rank ∷ token.Number kept.rank ∷ token.Open ∷ (flat_map item_tokens items ++ part)
  right : AreRight written
  ranks : kept.ranks ≡ written.ranks
  below : kept.rank < written.ranks
  said : AreSaid written kept.plans
  blocks : kept.blocks ≡ ranks_in written.blocks ++ kept.rank ∷ []
  new : list_any (nat_eq kept.rank) (ranks_in written.blocks) ≡ false
  ops : kept.ops ≡ flat_map op_said items
  defined : kept.defined ≡ definitions 0 items ++ defined_before label (length kept.ops)
  deps : kept.deps ≡ flat_map dep_named items
  notes : kept.notes ≡ flat_map note_named items
  used : labels_in kept.used ≡ flat_map used_by items
  once : (label : List ℕ) → count_by (is_label label) kept.defined ≤ 1
  options : All HasOptionsOnce items

module _ (kept : Kept) (ks part : List TokenKind) (label : Option (List ℕ)) (inside : IsInsideBlock kept ks part label) where
  -- another token of the item
  item_with_token : (k : TokenKind) (longer : List TokenKind) → part ++ k ∷ [] ≡ longer → IsInsideBlock kept (ks ++ k ∷ []) longer label
  item_with_token k longer same =
      let front = text_tokens inside.written in
      let items = flat_map item_tokens inside.items in
      let open_block = token.Rank ∷ token.Number kept.rank ∷ token.Open ∷ [] in
      record {
        written = inside.written;
        items = inside.items;
        spelled = ap (λ (xs : List TokenKind). xs ++ k ∷ []) inside.spelled
            ∙ append_assoc front (open_block ++ (items ++ part)) (k ∷ [])
            ∙ ap (λ (xs : List TokenKind). front ++ (open_block ++ xs)) (append_assoc items part (k ∷ []) ∙ ap (λ (xs : List TokenKind). items ++ xs) same);
        right = inside.right;
        ranks = inside.ranks;
        below = inside.below;
        said = inside.said;
        blocks = inside.blocks;
        new = inside.new;
        ops = inside.ops;
        defined = inside.defined;
        deps = inside.deps;
        notes = inside.notes;
        used = inside.used;
        once = inside.once;
        options = inside.options;
      }

  -- the item is complete
  item_is_complete : (item : Item) (ops : List Op) (deps : List NamedDep) (notes : List NamedNote) (used : List Mention) → part ≡ item_tokens item →
      ops ≡ kept.ops ++ op_said item → deps ≡ kept.deps ++ dep_named item → notes ≡ kept.notes ++ note_named item →
      ((n : ℕ) → defined_before label n ≡ defined_by item n) → labels_in used ≡ labels_in kept.used ++ used_by item → HasOptionsOnce item →
      IsInsideBlock (record { ranks = kept.ranks; used = used; blocks = kept.blocks; rank = kept.rank; ops = ops; defined = kept.defined; deps = deps; notes = notes; plans = kept.plans }) ks [] None
  item_is_complete item ops deps notes used whole same_ops same_deps same_notes same_label same_used once =
      let items = inside.items in
      let front = text_tokens inside.written in
      let open_block = token.Rank ∷ token.Number kept.rank ∷ token.Open ∷ [] in
      let at : length kept.ops ≡ 0 + length (flat_map op_said items) = omega (arith, ap length inside.ops) in
      record {
        written = inside.written;
        items = items ++ item ∷ [];
        spelled = inside.spelled
            ∙ ap (λ (xs : List TokenKind). front ++ (open_block ++ xs))
            (ap (λ (xs : List TokenKind). flat_map item_tokens items ++ xs) whole ∙ flat_map_with_last item_tokens items item ∙ sym (append-nil (flat_map item_tokens (items ++ item ∷ []))));
        right = inside.right;
        ranks = inside.ranks;
        below = inside.below;
        said = inside.said;
        blocks = inside.blocks;
        new = inside.new;
        ops = same_ops ∙ ap (λ (xs : List Op). xs ++ op_said item) inside.ops ∙ flat_map_with_last op_said items item;
        defined = inside.defined
            ∙ ap (λ (ds : List Definition). definitions 0 items ++ ds) (same_label (length kept.ops) ∙ ap (defined_by item) at)
            ∙ sym (definitions-push 0 items item) ∙ sym (append-nil (definitions 0 (items ++ item ∷ [])));
        deps = same_deps ∙ ap (λ (xs : List NamedDep). xs ++ dep_named item) inside.deps ∙ flat_map_with_last dep_named items item;
        notes = same_notes ∙ ap (λ (xs : List NamedNote). xs ++ note_named item) inside.notes ∙ flat_map_with_last note_named items item;
        used = same_used ∙ ap (λ (xs : List (List ℕ)). xs ++ used_by item) inside.used ∙ flat_map_with_last used_by items item;
        once = inside.once;
        options = All-push HasOptionsOnce items item inside.options once;
      }

-- an option's word, and the option with its number
abbrev option_token : OptionWord → TokenKind
option_token option.Tag = token.Tag
option_token option.Cpu = token.Cpu
option_token option.Nic = token.Nic

abbrev number_setting : OptionWord → ℕ → Setting
number_setting option.Tag n = tag (Some n)
number_setting option.Cpu n = cpu n
number_setting option.Nic n = nic n

abbrev is_setting_of_option : OptionWord → Setting → Bool
is_setting_of_option option.Tag s = is_tag s
is_setting_of_option option.Cpu s = is_cpu s
is_setting_of_option option.Nic s = is_nic s

abbrev is_option_given : OptionWord → List Setting → Bool
is_option_given o [] = false
is_option_given o (s ∷ ss) = is_setting_of_option o s || is_option_given o ss

-- what the tokens of an action have given
abbrev drafted : Action → ℕ → Option ℕ → List Setting → OptionWord → Draft
drafted a size peer ss o = record {
  action = a;
  size = size;
  peer = peer;
  tag = tag_of ss;
  cpu = cpu_of ss;
  nic = nic_of ss;
  has_tag = is_option_given option.Tag ss;
  has_cpu = is_option_given option.Cpu ss;
  has_nic = is_option_given option.Nic ss;
  option = o;
}

abbrev mark_option_given : OptionWord → Draft → Draft
mark_option_given option.Tag d = record d { has_tag = true; option = option.Tag }
mark_option_given option.Cpu d = record d { has_cpu = true; option = option.Cpu }
mark_option_given option.Nic d = record d { has_nic = true; option = option.Nic }

-- the label that an item begins with
abbrev IsSubject : ItemHead → List ℕ → Type 0
IsSubject head label = (at : ℕ) × (head.subject ≡ Some (record { label = label; at = at }))

abbrev verb_token : Verb → TokenKind
verb_token verb.Requires = token.Requires
verb_token verb.Irequires = token.Irequires
verb_token verb.Moves = token.Moves
verb_token verb.Adds = token.Adds

abbrev IsOrder : Verb → Type 0
IsOrder verb.Requires = ⊤
IsOrder verb.Irequires = ⊤
IsOrder _ = ⊥

abbrev IsNoteVerb : Verb → Type 0
IsNoteVerb verb.Moves = ⊤
IsNoteVerb verb.Adds = ⊤
IsNoteVerb _ = ⊥

abbrev cpu_settings : Option ℕ → List Setting
cpu_settings None = []
cpu_settings (Some n) = cpu n ∷ []

-- what the tokens so far are, if they end in this state
abbrev AreTokensUpTo : State → Kept → Draft → ItemHead → List TokenKind → Type 0
AreTokensUpTo state.Start kept draft head ks = (ks ≡ []) × IsClear kept × (kept.blocks ≡ [])
AreTokensUpTo state.Ranks kept draft head ks = (ks ≡ token.NumRanks ∷ []) × IsClear kept × (kept.blocks ≡ [])
AreTokensUpTo state.Top kept draft head ks = IsOutsideBlock kept ks []
AreTokensUpTo state.Block kept draft head ks = IsOutsideBlock kept ks (token.Rank ∷ [])
AreTokensUpTo state.Open kept draft head ks = Opened kept ks
AreTokensUpTo state.Item kept draft head ks = IsInsideBlock kept ks [] None
AreTokensUpTo state.Word kept draft head ks = (label : List ℕ) × IsSubject head label × IsInsideBlock kept ks (token.Label label ∷ []) None
AreTokensUpTo state.Label kept draft head ks =
    (label : List ℕ) × IsSubject head label × IsOrder head.verb × IsInsideBlock kept ks (token.Label label ∷ verb_token head.verb ∷ []) None
AreTokensUpTo state.Note1 kept draft head ks =
    (label : List ℕ) × IsSubject head label × IsNoteVerb head.verb × IsInsideBlock kept ks (token.Label label ∷ verb_token head.verb ∷ []) None
AreTokensUpTo state.Note2 kept draft head ks =
    (label : List ℕ) × IsSubject head label × IsNoteVerb head.verb × IsInsideBlock kept ks (token.Label label ∷ verb_token head.verb ∷ token.Number head.low ∷ []) None
AreTokensUpTo state.Note3 kept draft head ks =
    (label : List ℕ) × IsSubject head label × IsNoteVerb head.verb × IsInsideBlock kept ks (token.Label label ∷ verb_token head.verb ∷ token.Number head.low ∷ token.To ∷ []) None
AreTokensUpTo state.Action kept draft head ks = (label : List ℕ) × IsInsideBlock kept ks (token.Label label ∷ token.Colon ∷ []) (Some label)
AreTokensUpTo state.Calc1 kept draft head ks = (label : Option (List ℕ)) × (o : OptionWord) × IsInsideBlock kept ks (label_tokens label ++ token.Calc ∷ []) label × (draft ≡ begun action.Calc o)
AreTokensUpTo state.Calc2 kept draft head ks =
    (label : Option (List ℕ)) × (o : OptionWord) × (nanos : ℕ) × (c : Option ℕ)
    × IsInsideBlock kept ks (item_tokens (calc label nanos c)) label × (draft ≡ drafted action.Calc nanos None (cpu_settings c) o)
AreTokensUpTo state.Calc3 kept draft head ks =
    (label : Option (List ℕ)) × (o : OptionWord) × (nanos : ℕ)
    × IsInsideBlock kept ks (label_tokens label ++ token.Calc ∷ token.Number nanos ∷ token.Cpu ∷ []) label × (draft ≡ mark_option_given option.Cpu (drafted action.Calc nanos None [] o))
AreTokensUpTo state.Send1 kept draft head ks = (label : Option (List ℕ)) × (o : OptionWord) × IsInsideBlock kept ks (label_tokens label ++ token.Send ∷ []) label × (draft ≡ begun action.Send o)
AreTokensUpTo state.Send2 kept draft head ks =
    (label : Option (List ℕ)) × (o : OptionWord) × (size : Amount)
    × IsInsideBlock kept ks (label_tokens label ++ token.Send ∷ amount_token size ∷ []) label × (draft ≡ drafted action.Send (amount size) None [] o)
AreTokensUpTo state.Send3 kept draft head ks =
    (label : Option (List ℕ)) × (o : OptionWord) × (size : Amount)
    × IsInsideBlock kept ks (label_tokens label ++ token.Send ∷ amount_token size ∷ token.To ∷ []) label × (draft ≡ drafted action.Send (amount size) None [] o)
AreTokensUpTo state.Send4 kept draft head ks =
    (label : Option (List ℕ)) × (o : OptionWord) × (size : Amount) × (to : ℕ) × (ss : List Setting)
    × IsInsideBlock kept ks (item_tokens (send label size to ss)) label × (draft ≡ drafted action.Send (amount size) (Some to) ss o) × AreGivenOnce ss
AreTokensUpTo state.Send5 kept draft head ks =
    (label : Option (List ℕ)) × (o : OptionWord) × (size : Amount) × (to : ℕ) × (ss : List Setting) × (w : OptionWord)
    × IsInsideBlock kept ks (item_tokens (send label size to ss) ++ option_token w ∷ []) label × (is_option_given w ss ≡ false)
    × (draft ≡ mark_option_given w (drafted action.Send (amount size) (Some to) ss o)) × AreGivenOnce ss
AreTokensUpTo state.Recv1 kept draft head ks = (label : Option (List ℕ)) × (o : OptionWord) × IsInsideBlock kept ks (label_tokens label ++ token.Recv ∷ []) label × (draft ≡ begun action.Recv o)
AreTokensUpTo state.Recv2 kept draft head ks =
    (label : Option (List ℕ)) × (o : OptionWord) × (size : Amount)
    × IsInsideBlock kept ks (label_tokens label ++ token.Recv ∷ amount_token size ∷ []) label × (draft ≡ drafted action.Recv (amount size) None [] o)
AreTokensUpTo state.Recv3 kept draft head ks =
    (label : Option (List ℕ)) × (o : OptionWord) × (size : Amount)
    × IsInsideBlock kept ks (label_tokens label ++ token.Recv ∷ amount_token size ∷ token.From ∷ []) label × (draft ≡ drafted action.Recv (amount size) None [] o)
AreTokensUpTo state.Recv4 kept draft head ks =
    (label : Option (List ℕ)) × (o : OptionWord) × (size : Amount) × (from : Option ℕ) × (ss : List Setting)
    × IsInsideBlock kept ks (item_tokens (recv label size from ss)) label × (draft ≡ drafted action.Recv (amount size) from ss o) × AreGivenOnce ss
AreTokensUpTo state.Recv5 kept draft head ks =
    (label : Option (List ℕ)) × (o : OptionWord) × (size : Amount) × (from : Option ℕ) × (ss : List Setting)
    × IsInsideBlock kept ks (item_tokens (recv label size from ss) ++ token.Tag ∷ []) label × (is_option_given option.Tag ss ≡ false)
    × (draft ≡ mark_option_given option.Tag (drafted action.Recv (amount size) from ss o)) × AreGivenOnce ss
AreTokensUpTo state.Recv6 kept draft head ks =
    (label : Option (List ℕ)) × (o : OptionWord) × (size : Amount) × (from : Option ℕ) × (ss : List Setting) × (w : OptionWord)
    × IsInsideBlock kept ks (item_tokens (recv label size from ss) ++ option_token w ∷ []) label × (is_option_given w ss ≡ false)
    × (draft ≡ mark_option_given w (drafted action.Recv (amount size) from ss o)) × AreGivenOnce ss

-- the plan of a rank after another block
or_false_parts : (a b : Bool) → (a || b) ≡ false → (a ≡ false) × (b ≡ false)
or_false_parts false b none = (refl, none)
or_false_parts true b none = cc

rank_of_new : (bs : List Block) (b : Block) (rank : ℕ) → rank ≡ b.rank → list_any (nat_eq b.rank) (ranks_in bs) ≡ false → rank_said (bs ++ b ∷ []) rank ≡ plan_said b.items
rank_of_new [] b rank same new =
    let is : (rank == b.rank) ≡ true = grind (arith, nat_tests) in ap (λ (t : Bool). if t then plan_said b.items else empty_plan) is
rank_of_new (c ∷ bs) b rank same new =
    let parts = or_false_parts (nat_eq b.rank c.rank) (list_any (nat_eq b.rank) (ranks_in bs)) new in
    let other = parts.0 in
    let is : (rank == c.rank) ≡ false = grind (arith, nat_tests) in
    ap (λ (t : Bool). if t then plan_said c.items else rank_said (bs ++ b ∷ []) rank) is ∙ rank_of_new bs b rank same parts.1

rank_of_other : (bs : List Block) (b : Block) (rank : ℕ) → (rank == b.rank) ≡ false → rank_said (bs ++ b ∷ []) rank ≡ rank_said bs rank
rank_of_other [] b rank is = ap (λ (t : Bool). if t then plan_said b.items else empty_plan) is
rank_of_other (c ∷ bs) b rank is = ap (λ (p : Plan). if rank == c.rank then plan_said c.items else p) (rank_of_other bs b rank is)

said_with_block : (w : Written) (ps : List Plan) (b : Block) (plan : Plan) → AreSaid w ps → list_any (nat_eq b.rank) (ranks_in w.blocks) ≡ false → plan ≡ plan_said b.items →
    AreSaid (record { ranks = w.ranks; blocks = w.blocks ++ b ∷ [] }) (slice_set ps b.rank plan)
said_with_block w ps b plan said new same =
    record {
      ranks = length-set ps b.rank plan ∙ said.ranks;
      each = λ rank below. by rank below (rank == b.rank) refl;
    }
  where
    by : (rank : ℕ) → rank < w.ranks → (s : Bool) → (rank == b.rank) ≡ s → slice_index_or (slice_set ps b.rank plan) rank empty_plan ≡ rank_said (w.blocks ++ b ∷ []) rank
    by rank below true is =
        let here : rank ≡ b.rank = grind (arith, nat_tests) in
        let fits : b.rank < length ps = omega (arith, said.ranks) in
        ap (λ (r : ℕ). slice_index_or (slice_set ps b.rank plan) r empty_plan) here
        ∙ get_or-set_same ps b.rank plan empty_plan fits ∙ same ∙ sym (rank_of_new w.blocks b rank here new)
    by rank below false is =
        let there : rank ≢ b.rank = grind (arith, nat_tests) in
        get_or-set_other ps b.rank rank plan empty_plan there ∙ said.each rank below ∙ sym (rank_of_other w.blocks b rank is)

-- the rules still hold after another block
none_of_rank : (bs : List Block) (rank : ℕ) → list_any (nat_eq rank) (ranks_in bs) ≡ false → count_by (λ (b : Block). rank == b.rank) bs ≡ 0
none_of_rank [] rank new = refl
none_of_rank (b ∷ bs) rank new =
    let parts = or_false_parts (nat_eq rank b.rank) (list_any (nat_eq rank) (ranks_in bs)) new in
    count_cons_is_zero (λ (c : Block). rank == c.rank) b bs parts.0 (none_of_rank bs rank parts.1)

right_with_block : (w : Written) (b : Block) → AreRight w → b.rank < w.ranks → list_any (nat_eq b.rank) (ranks_in w.blocks) ≡ false → KeepsRules b →
    AreRight (record { ranks = w.ranks; blocks = w.blocks ++ b ∷ [] })
right_with_block w b right below new keeps =
    record {
      ranks = All-push (λ (c : Block). c.rank < w.ranks) w.blocks b right.ranks below;
      once = λ rank. count_push_at_most_one (λ (c : Block). rank == c.rank) w.blocks b
          (λ is. let same : b.rank ≡ rank = grind (arith, nat_tests) in none_of_rank w.blocks rank (subst (λ (r : ℕ). list_any (nat_eq r) (ranks_in w.blocks) ≡ false) same new))
          (right.once rank);
      blocks = All-push KeepsRules w.blocks b right.blocks keeps;
    }

-- the labels that are used pass the test
used_labels_pass : (test : List ℕ → Bool) (us : List Mention) → first_outside test us ≡ None → AllByRecursion (λ (l : List ℕ). test l ≡ true) (labels_in us)
unfolding first_outside
used_labels_pass test [] none = tt
used_labels_pass test (u ∷ us) none = by (test u.label) refl none (used_labels_pass test us)
  where
    by : (b : Bool) → test u.label ≡ b → (if b then first_outside test us else Some u.at) ≡ None →
        (first_outside test us ≡ None → AllByRecursion (λ (l : List ℕ). test l ≡ true) (labels_in us)) → (test u.label ≡ true) × AllByRecursion (λ (l : List ℕ). test l ≡ true) (labels_in us)
    by true is rest more = (is, more rest)
    by false is rest more = cc

mapped_none : (o : Option ℕ) → option_map UnknownLabel o ≡ None → o ≡ None
mapped_none None none = refl
mapped_none (Some at) none = cc

-- an item begins where no action is open, or a block ends
module _ (kept : Kept) (draft : Draft) (head : ItemHead) (ks : List TokenKind) (inside : IsInsideBlock kept ks [] None) where
  kept_plan_is_said : plan_with state.Item draft kept ≡ plan_said inside.items
  unfolding ends_action
  kept_plan_is_said =
      let items = inside.items in
      let labels : kept.defined ≡ definitions 0 items = inside.defined ∙ append-nil (definitions 0 items) in
      let deps : map (dep_by kept.defined) kept.deps ≡ flat_map (dep_said (definitions 0 items)) items =
      ap (λ (ds : List NamedDep). map (dep_by kept.defined) ds) inside.deps ∙ map_items (dep_by kept.defined) dep_named (dep_said kept.defined) (dep_by_labels kept.defined) items
      ∙ ap (λ (ds : List Definition). flat_map (dep_said ds) items) labels in
      let notes : map (note_by kept.defined) kept.notes ≡ flat_map (note_said (definitions 0 items)) items =
      ap (λ (ns : List NamedNote). map (note_by kept.defined) ns) inside.notes ∙ map_items (note_by kept.defined) note_named (note_said kept.defined) (note_by_labels kept.defined) items
      ∙ ap (λ (ds : List Definition). flat_map (note_said ds) items) labels in
      λ i. record { ops = inside.ops i; deps = deps i; notes = notes i }

  rules_kept : first_unknown kept.defined kept.used ≡ None → KeepsRules (record { rank = kept.rank; items = inside.items })
  rules_kept found =
      let items = inside.items in
      let labels : kept.defined ≡ definitions 0 items = inside.defined ∙ append-nil (definitions 0 items) in
      let pass = All-from_recursion (λ (l : List ℕ). is_defined kept.defined l ≡ true) (labels_in kept.used) (used_labels_pass (is_defined kept.defined) kept.used found) in
      record {
        once = λ label. subst (λ (ds : List Definition). count_by (is_label label) ds ≤ 1) labels (inside.once label);
        defined = subst (λ (ds : List Definition). All (λ (l : List ℕ). is_defined ds l ≡ true) (flat_map used_by items)) labels
            (subst (All (λ (l : List ℕ). is_defined kept.defined l ≡ true)) inside.used pass);
        options = inside.options;
      }

  block_is_closed : (at : ℕ) → first_unknown kept.defined kept.used ≡ None → IsOutsideBlock (kept_with state.Item token.Close at draft head kept) (ks ++ token.Close ∷ []) []
  unfolding ranks_with used_with blocks_with rank_with ops_with ends_action defined_with deps_with notes_with plans_with
  block_is_closed at found =
      let w = inside.written in
      let block : Block = record { rank = kept.rank; items = inside.items } in
      let front = text_tokens w in
      let items = flat_map item_tokens inside.items in
      let open_block = token.Rank ∷ token.Number kept.rank ∷ token.Open ∷ [] in
      record {
        written = record { ranks = w.ranks; blocks = w.blocks ++ block ∷ [] };
        spelled = ap (λ (xs : List TokenKind). xs ++ token.Close ∷ []) inside.spelled
            ∙ append_assoc front (open_block ++ (items ++ [])) (token.Close ∷ [])
            ∙ ap (λ (xs : List TokenKind). front ++ (open_block ++ (xs ++ token.Close ∷ []))) (append-nil items)
            ∙ ap (λ (xs : List TokenKind). token.NumRanks ∷ token.Number w.ranks ∷ xs) (flat_map_with_last block_tokens w.blocks block ∙ sym (append-nil (flat_map block_tokens (w.blocks ++ block ∷ []))));
        right = right_with_block w block inside.right inside.below inside.new (rules_kept found);
        ranks = inside.ranks;
        said = said_with_block w kept.plans block (plan_with state.Item draft kept) inside.said inside.new kept_plan_is_said;
        blocks = inside.blocks ∙ sym (map-append (λ (b : Block). b.rank) w.blocks (block ∷ []));
        clear = record { ops = refl; defined = refl; used = refl; deps = refl; notes = refl };
      }

  step_item : (k : TokenKind) (at : ℕ) → is_none (item_entry k) ≡ false → unknown_fault_of kept.defined kept.used k ≡ None →
      AreTokensUpTo (unwrap_or (item_entry k) state.Item) (kept_with state.Item k at draft head kept) (draft_with state.Item k draft) (head_with state.Item k at head) (ks ++ k ∷ [])
  unfolding ranks_with used_with blocks_with rank_with draft_with head_with ops_with ends_action defined_with deps_with notes_with plans_with
  step_item token.Close at known found = block_is_closed at (mapped_none (first_unknown kept.defined kept.used) found)
  step_item (token.Label label) at known found = (label, (at, refl), item_with_token kept ks [] None inside (token.Label label) (token.Label label ∷ []) refl)
  step_item token.Calc at known found = (None, draft.option, item_with_token kept ks [] None inside token.Calc (token.Calc ∷ []) refl, refl)
  step_item token.Send at known found = (None, draft.option, item_with_token kept ks [] None inside token.Send (token.Send ∷ []) refl, refl)
  step_item token.Recv at known found = (None, draft.option, item_with_token kept ks [] None inside token.Recv (token.Recv ∷ []) refl, refl)
  step_item _ at known found = absurd (true≢false known)

-- the same after an action, which is complete then
abbrev with_op : Draft → Kept → Kept
with_op draft kept = record {
  ranks = kept.ranks;
  used = kept.used;
  blocks = kept.blocks;
  rank = kept.rank;
  ops = kept.ops ++ op_of draft ∷ [];
  defined = kept.defined;
  deps = kept.deps;
  notes = kept.notes;
  plans = kept.plans;
}

module _ (kept : Kept) (draft : Draft) (head : ItemHead) (ks : List TokenKind) (inside : IsInsideBlock (with_op draft kept) ks [] None) where
  step_calc : (k : TokenKind) (at : ℕ) → is_none (item_entry k) ≡ false → unknown_fault_of kept.defined kept.used k ≡ None →
      AreTokensUpTo (unwrap_or (item_entry k) state.Calc2) (kept_with state.Calc2 k at draft head kept) (draft_with state.Calc2 k draft) (head_with state.Calc2 k at head) (ks ++ k ∷ [])
  unfolding ranks_with used_with blocks_with rank_with draft_with head_with ops_with ends_action defined_with deps_with notes_with plans_with
  step_calc token.Close at known found = step_item (with_op draft kept) draft head ks inside token.Close at refl found
  step_calc (token.Label label) at known found = step_item (with_op draft kept) draft head ks inside (token.Label label) at refl found
  step_calc token.Calc at known found = step_item (with_op draft kept) draft head ks inside token.Calc at refl found
  step_calc token.Send at known found = step_item (with_op draft kept) draft head ks inside token.Send at refl found
  step_calc token.Recv at known found = step_item (with_op draft kept) draft head ks inside token.Recv at refl found
  step_calc _ at known found = absurd (true≢false known)

  step_send : (k : TokenKind) (at : ℕ) → is_none (item_entry k) ≡ false → unknown_fault_of kept.defined kept.used k ≡ None →
      AreTokensUpTo (unwrap_or (item_entry k) state.Send4) (kept_with state.Send4 k at draft head kept) (draft_with state.Send4 k draft) (head_with state.Send4 k at head) (ks ++ k ∷ [])
  unfolding ranks_with used_with blocks_with rank_with draft_with head_with ops_with ends_action defined_with deps_with notes_with plans_with
  step_send token.Close at known found = step_item (with_op draft kept) draft head ks inside token.Close at refl found
  step_send (token.Label label) at known found = step_item (with_op draft kept) draft head ks inside (token.Label label) at refl found
  step_send token.Calc at known found = step_item (with_op draft kept) draft head ks inside token.Calc at refl found
  step_send token.Send at known found = step_item (with_op draft kept) draft head ks inside token.Send at refl found
  step_send token.Recv at known found = step_item (with_op draft kept) draft head ks inside token.Recv at refl found
  step_send _ at known found = absurd (true≢false known)

  step_recv : (k : TokenKind) (at : ℕ) → is_none (item_entry k) ≡ false → unknown_fault_of kept.defined kept.used k ≡ None →
      AreTokensUpTo (unwrap_or (item_entry k) state.Recv4) (kept_with state.Recv4 k at draft head kept) (draft_with state.Recv4 k draft) (head_with state.Recv4 k at head) (ks ++ k ∷ [])
  unfolding ranks_with used_with blocks_with rank_with draft_with head_with ops_with ends_action defined_with deps_with notes_with plans_with
  step_recv token.Close at known found = step_item (with_op draft kept) draft head ks inside token.Close at refl found
  step_recv (token.Label label) at known found = step_item (with_op draft kept) draft head ks inside (token.Label label) at refl found
  step_recv token.Calc at known found = step_item (with_op draft kept) draft head ks inside token.Calc at refl found
  step_recv token.Send at known found = step_item (with_op draft kept) draft head ks inside token.Send at refl found
  step_recv token.Recv at known found = step_item (with_op draft kept) draft head ks inside token.Recv at refl found
  step_recv _ at known found = absurd (true≢false known)

-- an option that the action has not given before
tag_of_appended_tag : (ss : List Setting) (n : Option ℕ) → is_option_given option.Tag ss ≡ false → tag_of (ss ++ tag n ∷ []) ≡ n
tag_of_appended_tag [] n new = refl
tag_of_appended_tag (tag m ∷ ss) n new = absurd (true≢false new)
tag_of_appended_tag (cpu m ∷ ss) n new = tag_of_appended_tag ss n new
tag_of_appended_tag (nic m ∷ ss) n new = tag_of_appended_tag ss n new

cpu_of_appended_cpu : (ss : List Setting) (n : ℕ) → is_option_given option.Cpu ss ≡ false → cpu_of (ss ++ cpu n ∷ []) ≡ n
cpu_of_appended_cpu [] n new = refl
cpu_of_appended_cpu (tag m ∷ ss) n new = cpu_of_appended_cpu ss n new
cpu_of_appended_cpu (cpu m ∷ ss) n new = absurd (true≢false new)
cpu_of_appended_cpu (nic m ∷ ss) n new = cpu_of_appended_cpu ss n new

nic_of_appended_nic : (ss : List Setting) (n : ℕ) → is_option_given option.Nic ss ≡ false → nic_of (ss ++ nic n ∷ []) ≡ n
nic_of_appended_nic [] n new = refl
nic_of_appended_nic (tag m ∷ ss) n new = nic_of_appended_nic ss n new
nic_of_appended_nic (cpu m ∷ ss) n new = nic_of_appended_nic ss n new
nic_of_appended_nic (nic m ∷ ss) n new = absurd (true≢false new)

-- the other options stay
tag_stays : (ss : List Setting) (x : Setting) → is_setting_of_option option.Tag x ≡ false → tag_of (ss ++ x ∷ []) ≡ tag_of ss
tag_stays [] (tag m) other = absurd (true≢false other)
tag_stays [] (cpu m) other = refl
tag_stays [] (nic m) other = refl
tag_stays (tag m ∷ ss) x other = refl
tag_stays (cpu m ∷ ss) x other = tag_stays ss x other
tag_stays (nic m ∷ ss) x other = tag_stays ss x other

cpu_stays : (ss : List Setting) (x : Setting) → is_setting_of_option option.Cpu x ≡ false → cpu_of (ss ++ x ∷ []) ≡ cpu_of ss
cpu_stays [] (tag m) other = refl
cpu_stays [] (cpu m) other = absurd (true≢false other)
cpu_stays [] (nic m) other = refl
cpu_stays (tag m ∷ ss) x other = cpu_stays ss x other
cpu_stays (cpu m ∷ ss) x other = refl
cpu_stays (nic m ∷ ss) x other = cpu_stays ss x other

nic_stays : (ss : List Setting) (x : Setting) → is_setting_of_option option.Nic x ≡ false → nic_of (ss ++ x ∷ []) ≡ nic_of ss
nic_stays [] (tag m) other = refl
nic_stays [] (cpu m) other = refl
nic_stays [] (nic m) other = absurd (true≢false other)
nic_stays (tag m ∷ ss) x other = nic_stays ss x other
nic_stays (cpu m ∷ ss) x other = nic_stays ss x other
nic_stays (nic m ∷ ss) x other = refl

gives_now : (w : OptionWord) (ss : List Setting) (x : Setting) → is_setting_of_option w x ≡ true → is_option_given w (ss ++ x ∷ []) ≡ true
gives_now w [] x is = ap (λ (b : Bool). b || false) is
gives_now w (s ∷ ss) x is = by (is_setting_of_option w s) (gives_now w ss x is)
  where
    by : (a : Bool) → is_option_given w (ss ++ x ∷ []) ≡ true → (a || is_option_given w (ss ++ x ∷ [])) ≡ true
    by true more = refl
    by false more = more

gives_stays : (w : OptionWord) (ss : List Setting) (x : Setting) → is_setting_of_option w x ≡ false → is_option_given w (ss ++ x ∷ []) ≡ is_option_given w ss
gives_stays w [] x other = ap (λ (b : Bool). b || false) other
gives_stays w (s ∷ ss) x other = ap (λ (b : Bool). is_setting_of_option w s || b) (gives_stays w ss x other)

module _ (a : Action) (size : ℕ) (peer : Option ℕ) (ss : List Setting) (o : OptionWord) where
  with_tag : (n : Option ℕ) → is_option_given option.Tag ss ≡ false →
      ◌≡◌ {A = Draft} (record (mark_option_given option.Tag (drafted a size peer ss o)) { tag = n }) (drafted a size peer (ss ++ tag n ∷ []) option.Tag)
  with_tag n new = λ i. record {
    action = a;
    size = size;
    peer = peer;
    tag = sym (tag_of_appended_tag ss n new) i;
    cpu = sym (cpu_stays ss (tag n) refl) i;
    nic = sym (nic_stays ss (tag n) refl) i;
    has_tag = sym (gives_now option.Tag ss (tag n) refl) i;
    has_cpu = sym (gives_stays option.Cpu ss (tag n) refl) i;
    has_nic = sym (gives_stays option.Nic ss (tag n) refl) i;
    option = option.Tag;
  }

  with_cpu : (n : ℕ) → is_option_given option.Cpu ss ≡ false →
      ◌≡◌ {A = Draft} (record (mark_option_given option.Cpu (drafted a size peer ss o)) { cpu = n }) (drafted a size peer (ss ++ cpu n ∷ []) option.Cpu)
  with_cpu n new = λ i. record {
    action = a;
    size = size;
    peer = peer;
    tag = sym (tag_stays ss (cpu n) refl) i;
    cpu = sym (cpu_of_appended_cpu ss n new) i;
    nic = sym (nic_stays ss (cpu n) refl) i;
    has_tag = sym (gives_stays option.Tag ss (cpu n) refl) i;
    has_cpu = sym (gives_now option.Cpu ss (cpu n) refl) i;
    has_nic = sym (gives_stays option.Nic ss (cpu n) refl) i;
    option = option.Cpu;
  }

  with_nic : (n : ℕ) → is_option_given option.Nic ss ≡ false →
      ◌≡◌ {A = Draft} (record (mark_option_given option.Nic (drafted a size peer ss o)) { nic = n }) (drafted a size peer (ss ++ nic n ∷ []) option.Nic)
  with_nic n new = λ i. record {
    action = a;
    size = size;
    peer = peer;
    tag = sym (tag_stays ss (nic n) refl) i;
    cpu = sym (cpu_stays ss (nic n) refl) i;
    nic = sym (nic_of_appended_nic ss n new) i;
    has_tag = sym (gives_stays option.Tag ss (nic n) refl) i;
    has_cpu = sym (gives_stays option.Cpu ss (nic n) refl) i;
    has_nic = sym (gives_now option.Nic ss (nic n) refl) i;
    option = option.Nic;
  }

  option_is_settled : (w : OptionWord) (n : ℕ) → is_option_given w ss ≡ false →
      option_with (mark_option_given w (drafted a size peer ss o)).option n (mark_option_given w (drafted a size peer ss o)) ≡ drafted a size peer (ss ++ number_setting w n ∷ []) w
  option_is_settled option.Tag n new = with_tag (Some n) new
  option_is_settled option.Cpu n new = with_cpu n new
  option_is_settled option.Nic n new = with_nic n new

-- each option once
no_options_are_given_once : AreGivenOnce []
no_options_are_given_once = record { tags = omega arith; cpus = omega arith; nics = omega arith }

gives_none : (w : OptionWord) (ss : List Setting) → is_option_given w ss ≡ false → count_by (is_setting_of_option w) ss ≡ 0
gives_none w [] new = refl
gives_none w (s ∷ ss) new =
    let parts = or_false_parts (is_setting_of_option w s) (is_option_given w ss) new in
    count_cons_is_zero (is_setting_of_option w) s ss parts.0 (gives_none w ss parts.1)

once_with_setting : (x : Setting) (ss : List Setting) → AreGivenOnce ss → (is_tag x ≡ true → count_by is_tag ss ≡ 0) → (is_cpu x ≡ true → count_by is_cpu ss ≡ 0) →
    (is_nic x ≡ true → count_by is_nic ss ≡ 0) → AreGivenOnce (ss ++ x ∷ [])
once_with_setting x ss given tags cpus nics = record {
  tags = count_push_at_most_one is_tag ss x tags given.tags;
  cpus = count_push_at_most_one is_cpu ss x cpus given.cpus;
  nics = count_push_at_most_one is_nic ss x nics given.nics;
}

given_tag : (n : Option ℕ) (ss : List Setting) → is_option_given option.Tag ss ≡ false → AreGivenOnce ss → AreGivenOnce (ss ++ tag n ∷ [])
given_tag n ss new given = once_with_setting (tag n) ss given (λ is. gives_none option.Tag ss new) (λ is. absurd (true≢false (sym is))) (λ is. absurd (true≢false (sym is)))

once_with_number : (w : OptionWord) (n : ℕ) (ss : List Setting) → is_option_given w ss ≡ false → AreGivenOnce ss → AreGivenOnce (ss ++ number_setting w n ∷ [])
once_with_number option.Tag n ss new given = given_tag (Some n) ss new given
once_with_number option.Cpu n ss new given =
    once_with_setting (cpu n) ss given (λ is. absurd (true≢false (sym is))) (λ is. gives_none option.Cpu ss new) (λ is. absurd (true≢false (sym is)))
once_with_number option.Nic n ss new given =
    once_with_setting (nic n) ss given (λ is. absurd (true≢false (sym is))) (λ is. absurd (true≢false (sym is))) (λ is. gives_none option.Nic ss new)

tokens_of_number_setting : (w : OptionWord) (n : ℕ) → option_token w ∷ token.Number n ∷ [] ≡ setting_tokens (number_setting w n)
tokens_of_number_setting option.Tag n = refl
tokens_of_number_setting option.Cpu n = refl
tokens_of_number_setting option.Nic n = refl

-- another option, of two tokens
settings_with_another : (front back : List TokenKind) (ss : List Setting) (x : Setting) (word value : TokenKind) → word ∷ value ∷ [] ≡ setting_tokens x →
    ((front ++ (back ++ flat_map setting_tokens ss)) ++ word ∷ []) ++ value ∷ [] ≡ front ++ (back ++ flat_map setting_tokens (ss ++ x ∷ []))
settings_with_another front back ss x word value same =
    append_assoc (front ++ (back ++ flat_map setting_tokens ss)) (word ∷ []) (value ∷ [])
    ∙ append_assoc front (back ++ flat_map setting_tokens ss) (word ∷ value ∷ [])
    ∙ ap (λ (xs : List TokenKind). front ++ xs)
    (append_assoc back (flat_map setting_tokens ss) (word ∷ value ∷ [])
    ∙ ap (λ (xs : List TokenKind). back ++ (flat_map setting_tokens ss ++ xs)) same
    ∙ ap (λ (xs : List TokenKind). back ++ xs) (flat_map_with_last setting_tokens ss x))

-- the operation of a calc
calc_op : (nanos : ℕ) (c : Option ℕ) (o : OptionWord) → op_of (drafted action.Calc nanos None (cpu_settings c) o) ∷ [] ≡ op_said (calc None nanos c)
calc_op nanos None o = refl
calc_op nanos (Some n) o = refl

-- an action is complete
module _ (kept : Kept) (draft : Draft) (ks : List TokenKind) (label : Option (List ℕ)) where
  action_is_complete : (item : Item) → IsInsideBlock kept ks (item_tokens item) label → op_of draft ∷ [] ≡ op_said item → [] ≡ dep_named item → [] ≡ note_named item →
      ((n : ℕ) → defined_before label n ≡ defined_by item n) → [] ≡ used_by item → HasOptionsOnce item → IsInsideBlock (with_op draft kept) ks [] None
  action_is_complete item inside same no_dep no_note same_label no_use once =
      item_is_complete kept ks (item_tokens item) label inside item (kept.ops ++ op_of draft ∷ []) kept.deps kept.notes kept.used refl
      (ap (λ (os : List Op). kept.ops ++ os) same)
      (sym (append-nil kept.deps) ∙ ap (λ (ds : List NamedDep). kept.deps ++ ds) no_dep)
      (sym (append-nil kept.notes) ∙ ap (λ (ns : List NamedNote). kept.notes ++ ns) no_note)
      same_label
      (sym (append-nil (labels_in kept.used)) ∙ ap (λ (ls : List (List ℕ)). labels_in kept.used ++ ls) no_use) once

-- a rank that is given by this token is below the number of ranks
abbrev IsBelow : State → ℕ → TokenKind → Type 0
IsBelow state.Block ranks (token.Number n) = n < ranks
IsBelow _ ranks _ = ⊤

-- the tests of ranks and labels that a token passes
record PassesRankAndLabelTests (s : State) (kept : Kept) (head : ItemHead) (k : TokenKind) : Type 0 where
  new : IsNewRank s kept.blocks k
  below : IsBelow s kept.ranks k
  fresh : label_fault_of kept.defined head.subject k ≡ None
  found : unknown_fault_of kept.defined kept.used k ≡ None

-- how a token that passes these tests extends the sentences before it
abbrev Steps : State → Type 0
Steps s = (k : TokenKind) (at : ℕ) (kept : Kept) (draft : Draft) (head : ItemHead) (ks : List TokenKind) →
    is_none (entry s k) ≡ false → has_option k draft ≡ false → PassesRankAndLabelTests s kept head k → AreTokensUpTo s kept draft head ks →
    AreTokensUpTo (state_after s k) (kept_with s k at draft head kept) (draft_with s k draft) (head_with s k at head) (ks ++ k ∷ [])

no_blocks_are_right : (n : ℕ) → AreRight (record { ranks = n; blocks = [] })
no_blocks_are_right n = record {
  ranks = All-from_recursion (λ (b : Block). b.rank < n) [] tt;
  once = λ rank. omega arith;
  blocks = All-from_recursion KeepsRules [] tt;
}

no_blocks_are_said : (n : ℕ) → AreSaid (record { ranks = n; blocks = [] }) (replicate n empty_plan)
no_blocks_are_said n = record { ranks = length-replicate n empty_plan; each = λ rank below. get_or-replicate n rank empty_plan empty_plan below }

step_start : Steps state.Start
unfolding entry ranks_with used_with blocks_with rank_with draft_with head_with ops_with ends_action defined_with deps_with notes_with plans_with
step_start token.NumRanks at kept draft head ks known once fits here = (ap (λ (xs : List TokenKind). xs ++ token.NumRanks ∷ []) here.0, here.1, here.2)
step_start _ at kept draft head ks known once fits here = absurd (true≢false known)

step_ranks : Steps state.Ranks
unfolding entry ranks_with used_with blocks_with rank_with draft_with head_with ops_with ends_action defined_with deps_with notes_with plans_with
step_ranks (token.Number n) at kept draft head ks known once fits here =
    record {
      written = record { ranks = n; blocks = [] };
      spelled = ap (λ (xs : List TokenKind). xs ++ token.Number n ∷ []) here.0;
      right = no_blocks_are_right n;
      ranks = refl;
      said = no_blocks_are_said n;
      blocks = here.2;
      clear = record { ops = here.1.ops; defined = here.1.defined; used = here.1.used; deps = here.1.deps; notes = here.1.notes };
    }
step_ranks _ at kept draft head ks known once fits here = absurd (true≢false known)

step_top : Steps state.Top
unfolding entry ranks_with used_with blocks_with rank_with draft_with head_with ops_with ends_action defined_with deps_with notes_with plans_with
step_top token.Rank at kept draft head ks known once fits here =
    record {
      written = here.written;
      spelled = ap (λ (xs : List TokenKind). xs ++ token.Rank ∷ []) here.spelled ∙ append_assoc (text_tokens here.written) [] (token.Rank ∷ []);
      right = here.right;
      ranks = here.ranks;
      said = here.said;
      blocks = here.blocks;
      clear = here.clear;
    }
step_top _ at kept draft head ks known once fits here = absurd (true≢false known)

step_block : Steps state.Block
unfolding entry ranks_with used_with blocks_with rank_with draft_with head_with ops_with ends_action defined_with deps_with notes_with plans_with
step_block (token.Number n) at kept draft head ks known once fits here =
    record {
      written = here.written;
      spelled = ap (λ (xs : List TokenKind). xs ++ token.Number n ∷ []) here.spelled ∙ append_assoc (text_tokens here.written) (token.Rank ∷ []) (token.Number n ∷ []);
      said = here.said;
      blocks = ap (λ (bs : List ℕ). bs ++ n ∷ []) here.blocks;
      new = subst (λ (bs : List ℕ). list_any (nat_eq n) bs ≡ false) here.blocks fits.new;
      right = here.right;
      ranks = here.ranks;
      below = subst (λ (r : ℕ). n < r) here.ranks fits.below;
      clear = record { ops = here.clear.ops; defined = here.clear.defined; used = here.clear.used; deps = here.clear.deps; notes = here.clear.notes };
    }
step_block _ at kept draft head ks known once fits here = absurd (true≢false known)

step_open : Steps state.Open
unfolding entry ranks_with used_with blocks_with rank_with draft_with head_with ops_with ends_action defined_with deps_with notes_with plans_with
step_open token.Open at kept draft head ks known once fits here =
    record {
      written = here.written;
      items = [];
      spelled = ap (λ (xs : List TokenKind). xs ++ token.Open ∷ []) here.spelled ∙ append_assoc (text_tokens here.written) (token.Rank ∷ token.Number kept.rank ∷ []) (token.Open ∷ []);
      right = here.right;
      ranks = here.ranks;
      below = here.below;
      said = here.said;
      blocks = here.blocks;
      new = here.new;
      ops = here.clear.ops;
      defined = here.clear.defined;
      deps = here.clear.deps;
      notes = here.clear.notes;
      used = ap labels_in here.clear.used;
      once = λ label. subst (λ (ds : List Definition). count_by (is_label label) ds ≤ 1) (sym here.clear.defined) (omega arith);
      options = All-from_recursion HasOptionsOnce [] tt;
    }
step_open _ at kept draft head ks known once fits here = absurd (true≢false known)

-- a label that is not defined yet
undefined_not_counted : (ds : List Definition) (label : List ℕ) → is_defined ds label ≡ false → count_by (is_label label) ds ≡ 0
unfolding defined_as
undefined_not_counted [] label new = refl
undefined_not_counted (d ∷ ds) label new = by (bytes_eq label d.label) refl new (undefined_not_counted ds label)
  where
    by : (b : Bool) → bytes_eq label d.label ≡ b → is_some (if b then Some d.op else defined_as ds label) ≡ false → (is_defined ds label ≡ false → count_by (is_label label) ds ≡ 0) →
        count_by (is_label label) (d ∷ ds) ≡ 0
    by true is none more = absurd (true≢false none)
    by false is none more = count_cons_is_zero (is_label label) d ds is (more none)

defined_once : (ds : List Definition) (label : List ℕ) (op : ℕ) → ((other : List ℕ) → count_by (is_label other) ds ≤ 1) → is_defined ds label ≡ false →
    (other : List ℕ) → count_by (is_label other) (ds ++ record { label = label; op = op } ∷ []) ≤ 1
defined_once ds label op once new other =
    count_push_at_most_one (is_label other) ds (record { label = label; op = op })
    (λ is. undefined_not_counted ds other (subst (λ (l : List ℕ). is_defined ds l ≡ false) (sym ((bytes_eq-Decides other label).0 is)) new))
    (once other)

module _ (label : List ℕ) (kept : Kept) (ks : List TokenKind) (inside : IsInsideBlock kept ks (token.Label label ∷ []) None) where
  -- a colon defines the label
  colon_defines : (subject : Option Mention) (at : ℕ) → subject ≡ Some (record { label = label; at = at }) → defined_fault kept.defined subject ≡ None →
      IsInsideBlock (record kept { defined = define subject (length kept.ops) kept.defined }) (ks ++ token.Colon ∷ []) (token.Label label ∷ token.Colon ∷ []) (Some label)
  colon_defines subject at is fresh =
      let stayed = item_with_token kept ks (token.Label label ∷ []) None inside token.Colon (token.Label label ∷ token.Colon ∷ []) refl in
      record {
        written = stayed.written;
        items = stayed.items;
        spelled = stayed.spelled;
        right = stayed.right;
        ranks = stayed.ranks;
        below = stayed.below;
        said = stayed.said;
        blocks = stayed.blocks;
        new = stayed.new;
        ops = stayed.ops;
        defined = ap (λ (s : Option Mention). define s (length kept.ops) kept.defined) is
            ∙ ap (λ (ds : List Definition). ds ++ record { label = label; op = length kept.ops } ∷ []) (stayed.defined ∙ append-nil (definitions 0 stayed.items));
        deps = stayed.deps;
        notes = stayed.notes;
        used = stayed.used;
        once = λ other. subst (λ (s : Option Mention). count_by (is_label other) (define s (length kept.ops) kept.defined) ≤ 1) (sym is)
            (defined_once kept.defined label (length kept.ops) stayed.once
            (no_fault_if_false (is_defined kept.defined label) (Repeat at) (subst (λ (s : Option Mention). defined_fault kept.defined s ≡ None) is fresh)) other);
        options = stayed.options;
      }

step_word : Steps state.Word
unfolding entry ranks_with used_with blocks_with rank_with draft_with head_with ops_with ends_action defined_with deps_with notes_with plans_with
step_word token.Colon at kept draft head ks known once fits here = (here.0, colon_defines here.0 kept ks here.2 head.subject here.1.0 here.1.1 fits.fresh)
step_word token.Requires at kept draft head ks known once fits here = (here.0, here.1, tt, item_with_token kept ks (token.Label here.0 ∷ []) None here.2 token.Requires (token.Label here.0 ∷ token.Requires ∷ []) refl)
step_word token.Irequires at kept draft head ks known once fits here = (here.0, here.1, tt, item_with_token kept ks (token.Label here.0 ∷ []) None here.2 token.Irequires (token.Label here.0 ∷ token.Irequires ∷ []) refl)
step_word token.Moves at kept draft head ks known once fits here = (here.0, here.1, tt, item_with_token kept ks (token.Label here.0 ∷ []) None here.2 token.Moves (token.Label here.0 ∷ token.Moves ∷ []) refl)
step_word token.Adds at kept draft head ks known once fits here = (here.0, here.1, tt, item_with_token kept ks (token.Label here.0 ∷ []) None here.2 token.Adds (token.Label here.0 ∷ token.Adds ∷ []) refl)
step_word _ at kept draft head ks known once fits here = absurd (true≢false known)

-- a dependency and a note are complete
module _ (kept : Kept) (ks : List TokenKind) (label : List ℕ) (subject : Option Mention) (at : ℕ) (is : subject ≡ Some (record { label = label; at = at })) where
  note_uses_one_label : labels_in (note_uses state.Note3 subject kept.used) ≡ labels_in kept.used ++ label ∷ []
  note_uses_one_label =
      ap (λ (s : Option Mention). labels_in (note_uses state.Note3 s kept.used)) is ∙ map-append (λ (u : Mention). u.label) kept.used (record { label = label; at = at } ∷ [])

  dep_uses_two_labels : (earlier : List ℕ) (place : ℕ) →
      labels_in (dep_uses state.Label subject (record { label = earlier; at = place }) kept.used) ≡ labels_in kept.used ++ label ∷ earlier ∷ []
  dep_uses_two_labels earlier place =
      ap (λ (s : Option Mention). labels_in (dep_uses state.Label s (record { label = earlier; at = place }) kept.used)) is
      ∙ map-append (λ (u : Mention). u.label) (kept.used ++ record { label = label; at = at } ∷ []) (record { label = earlier; at = place } ∷ [])
      ∙ ap (λ (ls : List (List ℕ)). ls ++ earlier ∷ []) (map-append (λ (u : Mention). u.label) kept.used (record { label = label; at = at } ∷ []))
      ∙ append_assoc (labels_in kept.used) (label ∷ []) (earlier ∷ [])

  dependency_is_complete : (earlier : List ℕ) (place : ℕ) (v : Verb) → IsOrder v → IsInsideBlock kept ks (token.Label label ∷ verb_token v ∷ token.Label earlier ∷ []) None →
      IsInsideBlock (record kept { used = dep_uses state.Label subject (record { label = earlier; at = place }) kept.used; deps = dep_ended state.Label subject v earlier kept.deps }) ks [] None
  dependency_is_complete earlier place verb.Requires order inside =
      item_is_complete kept ks (item_tokens (requires label earlier)) None inside (requires label earlier) kept.ops (dep_ended state.Label subject verb.Requires earlier kept.deps) kept.notes (dep_uses state.Label subject (record { label = earlier; at = place }) kept.used) refl
      (sym (append-nil kept.ops)) (ap (λ (s : Option Mention). dep_ended state.Label s verb.Requires earlier kept.deps) is) (sym (append-nil kept.notes)) (λ n. refl) (dep_uses_two_labels earlier place) tt
  dependency_is_complete earlier place verb.Irequires order inside =
      item_is_complete kept ks (item_tokens (irequires label earlier)) None inside (irequires label earlier) kept.ops (dep_ended state.Label subject verb.Irequires earlier kept.deps) kept.notes (dep_uses state.Label subject (record { label = earlier; at = place }) kept.used) refl
      (sym (append-nil kept.ops)) (ap (λ (s : Option Mention). dep_ended state.Label s verb.Irequires earlier kept.deps) is) (sym (append-nil kept.notes)) (λ n. refl) (dep_uses_two_labels earlier place) tt
  dependency_is_complete earlier place _ order inside = absurd order

  note_is_complete : (low n : ℕ) (v : Verb) → IsNoteVerb v → IsInsideBlock kept ks (token.Label label ∷ verb_token v ∷ token.Number low ∷ token.To ∷ token.Number n ∷ []) None →
      IsInsideBlock (record kept { used = note_uses state.Note3 subject kept.used; notes = note_ended state.Note3 subject v low n kept.notes }) ks [] None
  note_is_complete low n verb.Moves note inside =
      item_is_complete kept ks (item_tokens (moves label low n)) None inside (moves label low n) kept.ops kept.deps (note_ended state.Note3 subject verb.Moves low n kept.notes) (note_uses state.Note3 subject kept.used) refl
      (sym (append-nil kept.ops)) (sym (append-nil kept.deps)) (ap (λ (s : Option Mention). note_ended state.Note3 s verb.Moves low n kept.notes) is) (λ n. refl) note_uses_one_label tt
  note_is_complete low n verb.Adds note inside =
      item_is_complete kept ks (item_tokens (adds label low n)) None inside (adds label low n) kept.ops kept.deps (note_ended state.Note3 subject verb.Adds low n kept.notes) (note_uses state.Note3 subject kept.used) refl
      (sym (append-nil kept.ops)) (sym (append-nil kept.deps)) (ap (λ (s : Option Mention). note_ended state.Note3 s verb.Adds low n kept.notes) is) (λ n. refl) note_uses_one_label tt
  note_is_complete low n _ note inside = absurd note

step_label : Steps state.Label
unfolding entry ranks_with used_with blocks_with rank_with draft_with head_with ops_with ends_action defined_with deps_with notes_with plans_with
step_label (token.Label earlier) at kept draft head ks known once fits here =
    dependency_is_complete kept (ks ++ token.Label earlier ∷ []) here.0 head.subject here.1.0 here.1.1 earlier at head.verb here.2
    (item_with_token kept ks (token.Label here.0 ∷ verb_token head.verb ∷ []) None here.3 (token.Label earlier) (token.Label here.0 ∷ verb_token head.verb ∷ token.Label earlier ∷ []) refl)
step_label _ at kept draft head ks known once fits here = absurd (true≢false known)

step_note1 : Steps state.Note1
unfolding entry ranks_with used_with blocks_with rank_with draft_with head_with ops_with ends_action defined_with deps_with notes_with plans_with
step_note1 (token.Number n) at kept draft head ks known once fits here = (here.0, here.1, here.2, item_with_token kept ks (token.Label here.0 ∷ verb_token head.verb ∷ []) None here.3 (token.Number n) (token.Label here.0 ∷ verb_token head.verb ∷ token.Number n ∷ []) refl)
step_note1 _ at kept draft head ks known once fits here = absurd (true≢false known)

step_note2 : Steps state.Note2
unfolding entry ranks_with used_with blocks_with rank_with draft_with head_with ops_with ends_action defined_with deps_with notes_with plans_with
step_note2 token.To at kept draft head ks known once fits here = (here.0, here.1, here.2, item_with_token kept ks (token.Label here.0 ∷ verb_token head.verb ∷ token.Number head.low ∷ []) None here.3 token.To (token.Label here.0 ∷ verb_token head.verb ∷ token.Number head.low ∷ token.To ∷ []) refl)
step_note2 _ at kept draft head ks known once fits here = absurd (true≢false known)

step_note3 : Steps state.Note3
unfolding entry ranks_with used_with blocks_with rank_with draft_with head_with ops_with ends_action defined_with deps_with notes_with plans_with
step_note3 (token.Number n) at kept draft head ks known once fits here =
    note_is_complete kept (ks ++ token.Number n ∷ []) here.0 head.subject here.1.0 here.1.1 head.low n head.verb here.2
    (item_with_token kept ks (token.Label here.0 ∷ verb_token head.verb ∷ token.Number head.low ∷ token.To ∷ []) None here.3 (token.Number n) (token.Label here.0 ∷ verb_token head.verb ∷ token.Number head.low ∷ token.To ∷ token.Number n ∷ []) refl)
step_note3 _ at kept draft head ks known once fits here = absurd (true≢false known)

step_action : Steps state.Action
unfolding entry ranks_with used_with blocks_with rank_with draft_with head_with ops_with ends_action defined_with deps_with notes_with plans_with
step_action token.Calc at kept draft head ks known once fits here = (Some here.0, draft.option, item_with_token kept ks (token.Label here.0 ∷ token.Colon ∷ []) (Some here.0) here.1 token.Calc (token.Label here.0 ∷ token.Colon ∷ token.Calc ∷ []) refl, refl)
step_action token.Send at kept draft head ks known once fits here = (Some here.0, draft.option, item_with_token kept ks (token.Label here.0 ∷ token.Colon ∷ []) (Some here.0) here.1 token.Send (token.Label here.0 ∷ token.Colon ∷ token.Send ∷ []) refl, refl)
step_action token.Recv at kept draft head ks known once fits here = (Some here.0, draft.option, item_with_token kept ks (token.Label here.0 ∷ token.Colon ∷ []) (Some here.0) here.1 token.Recv (token.Label here.0 ∷ token.Colon ∷ token.Recv ∷ []) refl, refl)
step_action _ at kept draft head ks known once fits here = absurd (true≢false known)

step_calc1 : Steps state.Calc1
unfolding entry ranks_with used_with blocks_with rank_with draft_with head_with ops_with ends_action defined_with deps_with notes_with plans_with
step_calc1 (token.Number n) at kept draft head ks known once fits here = (here.0, here.1, n, None, item_with_token kept ks (label_tokens here.0 ++ token.Calc ∷ []) here.0 here.2 (token.Number n) (label_tokens here.0 ++ token.Calc ∷ token.Number n ∷ []) (append_assoc (label_tokens here.0) (token.Calc ∷ []) ((token.Number n) ∷ [])), ap (λ (d : Draft). record d { size = n }) here.3)
step_calc1 _ at kept draft head ks known once fits here = absurd (true≢false known)

step_calc2 : Steps state.Calc2
unfolding entry ranks_with used_with blocks_with rank_with draft_with head_with ops_with ends_action defined_with deps_with notes_with plans_with
step_calc2 token.Cpu at kept draft head ks known once fits here = by here.3 here.4 here.5
  where
    by : (c : Option ℕ) → IsInsideBlock kept ks (item_tokens (calc here.0 here.2 c)) here.0 → draft ≡ drafted action.Calc here.2 None (cpu_settings c) here.1 →
        AreTokensUpTo state.Calc3 kept (record draft { has_cpu = true; option = option.Cpu }) head (ks ++ token.Cpu ∷ [])
    by None inside is = (
      here.0,
      here.1,
      here.2,
      item_with_token kept ks (label_tokens here.0 ++ token.Calc ∷ token.Number here.2 ∷ []) here.0 inside token.Cpu (label_tokens here.0 ++ token.Calc ∷ token.Number here.2 ∷ token.Cpu ∷ [])
          (append_assoc (label_tokens here.0) (token.Calc ∷ token.Number here.2 ∷ []) (token.Cpu ∷ [])),
      ap (mark_option_given option.Cpu) is,
    )
    by (Some n) inside is = absurd (true≢false (sym (ap (λ (d : Draft). d.has_cpu) is) ∙ once))
step_calc2 k at kept draft head ks known once fits here =
    step_calc kept draft head ks
    (action_is_complete kept draft ks here.0 (calc here.0 here.2 here.3) here.4 (ap (λ (d : Draft). op_of d ∷ []) here.5 ∙ calc_op here.2 here.3 here.1) refl refl (λ n. refl) refl tt)
    k at known fits.found

step_calc3 : Steps state.Calc3
unfolding entry ranks_with used_with blocks_with rank_with draft_with head_with ops_with ends_action defined_with deps_with notes_with plans_with
step_calc3 (token.Number n) at kept draft head ks known once fits here = (here.0, option.Cpu, here.2, Some n, item_with_token kept ks (label_tokens here.0 ++ token.Calc ∷ token.Number here.2 ∷ token.Cpu ∷ []) here.0 here.3 (token.Number n) (label_tokens here.0 ++ token.Calc ∷ token.Number here.2 ∷ token.Cpu ∷ token.Number n ∷ []) (append_assoc (label_tokens here.0) (token.Calc ∷ token.Number here.2 ∷ token.Cpu ∷ []) ((token.Number n) ∷ [])), ap (λ (d : Draft). option_with d.option n d) here.4)
step_calc3 _ at kept draft head ks known once fits here = absurd (true≢false known)

step_send1 : Steps state.Send1
unfolding entry ranks_with used_with blocks_with rank_with draft_with head_with ops_with ends_action defined_with deps_with notes_with plans_with
step_send1 (token.Number n) at kept draft head ks known once fits here = (here.0, here.1, plain n, item_with_token kept ks (label_tokens here.0 ++ token.Send ∷ []) here.0 here.2 (token.Number n) (label_tokens here.0 ++ token.Send ∷ token.Number n ∷ []) (append_assoc (label_tokens here.0) (token.Send ∷ []) ((token.Number n) ∷ [])), ap (λ (d : Draft). record d { size = n }) here.3)
step_send1 (token.Size n) at kept draft head ks known once fits here = (here.0, here.1, marked n, item_with_token kept ks (label_tokens here.0 ++ token.Send ∷ []) here.0 here.2 (token.Size n) (label_tokens here.0 ++ token.Send ∷ token.Size n ∷ []) (append_assoc (label_tokens here.0) (token.Send ∷ []) ((token.Size n) ∷ [])), ap (λ (d : Draft). record d { size = n }) here.3)
step_send1 _ at kept draft head ks known once fits here = absurd (true≢false known)

step_send2 : Steps state.Send2
unfolding entry ranks_with used_with blocks_with rank_with draft_with head_with ops_with ends_action defined_with deps_with notes_with plans_with
step_send2 token.To at kept draft head ks known once fits here = (here.0, here.1, here.2, item_with_token kept ks (label_tokens here.0 ++ token.Send ∷ amount_token here.2 ∷ []) here.0 here.3 token.To (label_tokens here.0 ++ token.Send ∷ amount_token here.2 ∷ token.To ∷ []) (append_assoc (label_tokens here.0) (token.Send ∷ amount_token here.2 ∷ []) (token.To ∷ [])), here.4)
step_send2 _ at kept draft head ks known once fits here = absurd (true≢false known)

step_send3 : Steps state.Send3
unfolding entry ranks_with used_with blocks_with rank_with draft_with head_with ops_with ends_action defined_with deps_with notes_with plans_with
step_send3 (token.Number n) at kept draft head ks known once fits here = (here.0, here.1, here.2, n, [], item_with_token kept ks (label_tokens here.0 ++ token.Send ∷ amount_token here.2 ∷ token.To ∷ []) here.0 here.3 (token.Number n) (label_tokens here.0 ++ token.Send ∷ amount_token here.2 ∷ token.To ∷ token.Number n ∷ []) (append_assoc (label_tokens here.0) (token.Send ∷ amount_token here.2 ∷ token.To ∷ []) ((token.Number n) ∷ [])), ap (λ (d : Draft). record d { peer = Some n }) here.4, no_options_are_given_once)
step_send3 _ at kept draft head ks known once fits here = absurd (true≢false known)

step_send4 : Steps state.Send4
unfolding entry ranks_with used_with blocks_with rank_with draft_with head_with ops_with ends_action defined_with deps_with notes_with plans_with
step_send4 token.Tag at kept draft head ks known once fits here = (here.0, here.1, here.2, here.3, here.4, option.Tag, item_with_token kept ks (item_tokens (send here.0 here.2 here.3 here.4)) here.0 here.5 token.Tag (item_tokens (send here.0 here.2 here.3 here.4) ++ token.Tag ∷ []) refl, sym (ap (λ (d : Draft). d.has_tag) here.6) ∙ once, ap (mark_option_given option.Tag) here.6, here.7)
step_send4 token.Cpu at kept draft head ks known once fits here = (here.0, here.1, here.2, here.3, here.4, option.Cpu, item_with_token kept ks (item_tokens (send here.0 here.2 here.3 here.4)) here.0 here.5 token.Cpu (item_tokens (send here.0 here.2 here.3 here.4) ++ token.Cpu ∷ []) refl, sym (ap (λ (d : Draft). d.has_cpu) here.6) ∙ once, ap (mark_option_given option.Cpu) here.6, here.7)
step_send4 token.Nic at kept draft head ks known once fits here = (here.0, here.1, here.2, here.3, here.4, option.Nic, item_with_token kept ks (item_tokens (send here.0 here.2 here.3 here.4)) here.0 here.5 token.Nic (item_tokens (send here.0 here.2 here.3 here.4) ++ token.Nic ∷ []) refl, sym (ap (λ (d : Draft). d.has_nic) here.6) ∙ once, ap (mark_option_given option.Nic) here.6, here.7)
step_send4 k at kept draft head ks known once fits here =
    step_send kept draft head ks
    (action_is_complete kept draft ks here.0 (send here.0 here.2 here.3 here.4) here.5 (ap (λ (d : Draft). op_of d ∷ []) here.6) refl refl (λ n. refl) refl here.7)
    k at known fits.found

step_send5 : Steps state.Send5
unfolding entry ranks_with used_with blocks_with rank_with draft_with head_with ops_with ends_action defined_with deps_with notes_with plans_with
step_send5 (token.Number n) at kept draft head ks known once fits here = (
  here.0,
  here.5,
  here.2,
  here.3,
  here.4 ++ number_setting here.5 n ∷ [],
  item_with_token kept ks (item_tokens (send here.0 here.2 here.3 here.4) ++ option_token here.5 ∷ []) here.0 here.6 (token.Number n) (item_tokens (send here.0 here.2 here.3 (here.4 ++ number_setting here.5 n ∷ [])))
      (settings_with_another (label_tokens here.0) (token.Send ∷ amount_token here.2 ∷ token.To ∷ token.Number here.3 ∷ []) here.4 (number_setting here.5 n) (option_token here.5) (token.Number n) (tokens_of_number_setting here.5 n)),
  ap (λ (d : Draft). option_with d.option n d) here.8 ∙ option_is_settled action.Send (amount here.2) (Some here.3) here.4 here.1 here.5 n here.7,
  once_with_number here.5 n here.4 here.7 here.9,
)
step_send5 _ at kept draft head ks known once fits here = absurd (true≢false known)

step_recv1 : Steps state.Recv1
unfolding entry ranks_with used_with blocks_with rank_with draft_with head_with ops_with ends_action defined_with deps_with notes_with plans_with
step_recv1 (token.Number n) at kept draft head ks known once fits here = (here.0, here.1, plain n, item_with_token kept ks (label_tokens here.0 ++ token.Recv ∷ []) here.0 here.2 (token.Number n) (label_tokens here.0 ++ token.Recv ∷ token.Number n ∷ []) (append_assoc (label_tokens here.0) (token.Recv ∷ []) ((token.Number n) ∷ [])), ap (λ (d : Draft). record d { size = n }) here.3)
step_recv1 (token.Size n) at kept draft head ks known once fits here = (here.0, here.1, marked n, item_with_token kept ks (label_tokens here.0 ++ token.Recv ∷ []) here.0 here.2 (token.Size n) (label_tokens here.0 ++ token.Recv ∷ token.Size n ∷ []) (append_assoc (label_tokens here.0) (token.Recv ∷ []) ((token.Size n) ∷ [])), ap (λ (d : Draft). record d { size = n }) here.3)
step_recv1 _ at kept draft head ks known once fits here = absurd (true≢false known)

step_recv2 : Steps state.Recv2
unfolding entry ranks_with used_with blocks_with rank_with draft_with head_with ops_with ends_action defined_with deps_with notes_with plans_with
step_recv2 token.From at kept draft head ks known once fits here = (here.0, here.1, here.2, item_with_token kept ks (label_tokens here.0 ++ token.Recv ∷ amount_token here.2 ∷ []) here.0 here.3 token.From (label_tokens here.0 ++ token.Recv ∷ amount_token here.2 ∷ token.From ∷ []) (append_assoc (label_tokens here.0) (token.Recv ∷ amount_token here.2 ∷ []) (token.From ∷ [])), here.4)
step_recv2 _ at kept draft head ks known once fits here = absurd (true≢false known)

step_recv3 : Steps state.Recv3
unfolding entry ranks_with used_with blocks_with rank_with draft_with head_with ops_with ends_action defined_with deps_with notes_with plans_with
step_recv3 (token.Number n) at kept draft head ks known once fits here = (here.0, here.1, here.2, Some n, [], item_with_token kept ks (label_tokens here.0 ++ token.Recv ∷ amount_token here.2 ∷ token.From ∷ []) here.0 here.3 (token.Number n) (label_tokens here.0 ++ token.Recv ∷ amount_token here.2 ∷ token.From ∷ token.Number n ∷ []) (append_assoc (label_tokens here.0) (token.Recv ∷ amount_token here.2 ∷ token.From ∷ []) ((token.Number n) ∷ [])), ap (λ (d : Draft). record d { peer = Some n }) here.4, no_options_are_given_once)
step_recv3 token.Any at kept draft head ks known once fits here = (here.0, here.1, here.2, None, [], item_with_token kept ks (label_tokens here.0 ++ token.Recv ∷ amount_token here.2 ∷ token.From ∷ []) here.0 here.3 token.Any (label_tokens here.0 ++ token.Recv ∷ amount_token here.2 ∷ token.From ∷ token.Any ∷ []) (append_assoc (label_tokens here.0) (token.Recv ∷ amount_token here.2 ∷ token.From ∷ []) (token.Any ∷ [])), ap (λ (d : Draft). record d { peer = None }) here.4, no_options_are_given_once)
step_recv3 _ at kept draft head ks known once fits here = absurd (true≢false known)

step_recv4 : Steps state.Recv4
unfolding entry ranks_with used_with blocks_with rank_with draft_with head_with ops_with ends_action defined_with deps_with notes_with plans_with
step_recv4 token.Tag at kept draft head ks known once fits here = (here.0, here.1, here.2, here.3, here.4, item_with_token kept ks (item_tokens (recv here.0 here.2 here.3 here.4)) here.0 here.5 token.Tag (item_tokens (recv here.0 here.2 here.3 here.4) ++ token.Tag ∷ []) refl, sym (ap (λ (d : Draft). d.has_tag) here.6) ∙ once, ap (mark_option_given option.Tag) here.6, here.7)
step_recv4 token.Cpu at kept draft head ks known once fits here = (here.0, here.1, here.2, here.3, here.4, option.Cpu, item_with_token kept ks (item_tokens (recv here.0 here.2 here.3 here.4)) here.0 here.5 token.Cpu (item_tokens (recv here.0 here.2 here.3 here.4) ++ token.Cpu ∷ []) refl, sym (ap (λ (d : Draft). d.has_cpu) here.6) ∙ once, ap (mark_option_given option.Cpu) here.6, here.7)
step_recv4 token.Nic at kept draft head ks known once fits here = (here.0, here.1, here.2, here.3, here.4, option.Nic, item_with_token kept ks (item_tokens (recv here.0 here.2 here.3 here.4)) here.0 here.5 token.Nic (item_tokens (recv here.0 here.2 here.3 here.4) ++ token.Nic ∷ []) refl, sym (ap (λ (d : Draft). d.has_nic) here.6) ∙ once, ap (mark_option_given option.Nic) here.6, here.7)
step_recv4 k at kept draft head ks known once fits here =
    step_recv kept draft head ks
    (action_is_complete kept draft ks here.0 (recv here.0 here.2 here.3 here.4) here.5 (ap (λ (d : Draft). op_of d ∷ []) here.6) refl refl (λ n. refl) refl here.7)
    k at known fits.found

step_recv5 : Steps state.Recv5
unfolding entry ranks_with used_with blocks_with rank_with draft_with head_with ops_with ends_action defined_with deps_with notes_with plans_with
step_recv5 (token.Number n) at kept draft head ks known once fits here = (
  here.0,
  option.Tag,
  here.2,
  here.3,
  here.4 ++ number_setting option.Tag n ∷ [],
  item_with_token kept ks (item_tokens (recv here.0 here.2 here.3 here.4) ++ option_token option.Tag ∷ []) here.0 here.5 (token.Number n) (item_tokens (recv here.0 here.2 here.3 (here.4 ++ number_setting option.Tag n ∷ [])))
      (settings_with_another (label_tokens here.0) (token.Recv ∷ amount_token here.2 ∷ token.From ∷ number_or_any here.3 ∷ []) here.4 (number_setting option.Tag n) (option_token option.Tag) (token.Number n) (tokens_of_number_setting option.Tag n)),
  ap (λ (d : Draft). option_with d.option n d) here.7 ∙ option_is_settled action.Recv (amount here.2) here.3 here.4 here.1 option.Tag n here.6,
  once_with_number option.Tag n here.4 here.6 here.8,
)
step_recv5 token.Any at kept draft head ks known once fits here = (
  here.0,
  option.Tag,
  here.2,
  here.3,
  here.4 ++ tag None ∷ [],
  item_with_token kept ks (item_tokens (recv here.0 here.2 here.3 here.4) ++ token.Tag ∷ []) here.0 here.5 token.Any (item_tokens (recv here.0 here.2 here.3 (here.4 ++ tag None ∷ [])))
      (settings_with_another (label_tokens here.0) (token.Recv ∷ amount_token here.2 ∷ token.From ∷ number_or_any here.3 ∷ []) here.4 (tag None) token.Tag token.Any refl),
  ap (λ (d : Draft). record d { tag = None }) here.7 ∙ with_tag action.Recv (amount here.2) here.3 here.4 here.1 None here.6,
  given_tag None here.4 here.6 here.8,
)
step_recv5 _ at kept draft head ks known once fits here = absurd (true≢false known)

step_recv6 : Steps state.Recv6
unfolding entry ranks_with used_with blocks_with rank_with draft_with head_with ops_with ends_action defined_with deps_with notes_with plans_with
step_recv6 (token.Number n) at kept draft head ks known once fits here = (
  here.0,
  here.5,
  here.2,
  here.3,
  here.4 ++ number_setting here.5 n ∷ [],
  item_with_token kept ks (item_tokens (recv here.0 here.2 here.3 here.4) ++ option_token here.5 ∷ []) here.0 here.6 (token.Number n) (item_tokens (recv here.0 here.2 here.3 (here.4 ++ number_setting here.5 n ∷ [])))
      (settings_with_another (label_tokens here.0) (token.Recv ∷ amount_token here.2 ∷ token.From ∷ number_or_any here.3 ∷ []) here.4 (number_setting here.5 n) (option_token here.5) (token.Number n) (tokens_of_number_setting here.5 n)),
  ap (λ (d : Draft). option_with d.option n d) here.8 ∙ option_is_settled action.Recv (amount here.2) here.3 here.4 here.1 here.5 n here.7,
  once_with_number here.5 n here.4 here.7 here.9,
)
step_recv6 _ at kept draft head ks known once fits here = absurd (true≢false known)

passing_token_extends_text : (s : State) → Steps s
unfolding entry
passing_token_extends_text state.Start = step_start
passing_token_extends_text state.Ranks = step_ranks
passing_token_extends_text state.Top = step_top
passing_token_extends_text state.Block = step_block
passing_token_extends_text state.Open = step_open
passing_token_extends_text state.Item = λ k at kept draft head ks known once fits here. step_item kept draft head ks here k at known fits.found
passing_token_extends_text state.Word = step_word
passing_token_extends_text state.Label = step_label
passing_token_extends_text state.Note1 = step_note1
passing_token_extends_text state.Note2 = step_note2
passing_token_extends_text state.Note3 = step_note3
passing_token_extends_text state.Action = step_action
passing_token_extends_text state.Calc1 = step_calc1
passing_token_extends_text state.Calc2 = step_calc2
passing_token_extends_text state.Calc3 = step_calc3
passing_token_extends_text state.Send1 = step_send1
passing_token_extends_text state.Send2 = step_send2
passing_token_extends_text state.Send3 = step_send3
passing_token_extends_text state.Send4 = step_send4
passing_token_extends_text state.Send5 = step_send5
passing_token_extends_text state.Recv1 = step_recv1
passing_token_extends_text state.Recv2 = step_recv2
passing_token_extends_text state.Recv3 = step_recv3
passing_token_extends_text state.Recv4 = step_recv4
passing_token_extends_text state.Recv5 = step_recv5
passing_token_extends_text state.Recv6 = step_recv6

-- the tests that a token passes
record PassesGrammarTests (s : State) (draft : Draft) (ranks : ℕ) (blocks : List ℕ) (ds : List Definition) (subject : Option Mention) (us : List Mention) (k : TokenKind) : Type 0 where
  known : is_none (entry s k) ≡ false
  once : has_option k draft ≡ false
  new_rank : IsNewRank s blocks k
  below : IsBelow s ranks k
  fresh : label_fault_of ds subject k ≡ None
  found : unknown_fault_of ds us k ≡ None

below_passes : (s : State) (ranks : ℕ) (blocks : List ℕ) (k : TokenKind) (at : ℕ) → rank_fault_of s ranks blocks k at ≡ None → IsBelow s ranks k
below_passes state.Block ranks blocks (token.Number n) at h =
    let is = no_fault_unless_true (nat_lt n ranks) (Rank at) (first_is_none (fault_if (not (nat_lt n ranks)) (Rank at)) (fault_if (list_any (nat_eq n) blocks) (Repeat at)) h) in
    let below : n < ranks = grind (arith, nat_tests) in below
below_passes _ ranks blocks _ at h = tt

module _ (s : State) (draft : Draft) (ranks : ℕ) (blocks : List ℕ) (ds : List Definition) (subject : Option Mention) (counts : Counts) (us : List Mention) (t : Token) where
  faultless_token_passes : fault_by s draft ranks blocks ds subject counts us t ≡ None → PassesGrammarTests s draft ranks blocks ds subject us t.kind
  unfolding fault_by syntax_fault rank_fault option_fault label_fault unknown_fault
  faultless_token_passes h =
      let last = option_or (count_fault counts t) (unknown_fault ds us t) in
      let labels = option_or (label_fault ds subject t) last in
      let options = option_or (option_fault draft t) labels in
      let numbered = option_or (rank_fault s ranks blocks t) options in
      let sized = option_or (number_fault s draft.option t) numbered in
      let behind_syntax = second_is_none (syntax_fault s t) sized h in
      let behind_number = second_is_none (number_fault s draft.option t) numbered behind_syntax in
      let behind_rank = second_is_none (rank_fault s ranks blocks t) options behind_number in
      let behind_option = second_is_none (option_fault draft t) labels behind_rank in
      let rank_passed = first_is_none (rank_fault s ranks blocks t) options behind_number in
      record {
        known = no_fault_if_false (is_none (entry s t.kind)) (Syntax t.start) (first_is_none (syntax_fault s t) sized h);
        once = no_fault_if_false (has_option t.kind draft) (Repeat t.start) (first_is_none (option_fault draft t) labels behind_rank);
        new_rank = rank_passes s ranks blocks t rank_passed;
        below = below_passes s ranks blocks t.kind t.start rank_passed;
        fresh = first_is_none (label_fault ds subject t) last behind_option;
        found = second_is_none (count_fault counts t) (unknown_fault ds us t) (second_is_none (label_fault ds subject t) last behind_option);
      }

-- the sentences of tokens that fail no test
abbrev AtEnd : List Token → List TokenKind → Type 0
AtEnd before ks = AreTokensUpTo (state_of before) (kept_of before) (draft_of before) (head_of before) ks

sentences_with_token : (before : List Token) (t : Token) (ks : List TokenKind) → token_fault before t ≡ None → AtEnd before ks → AtEnd (t ∷ before) (ks ++ t.kind ∷ [])
unfolding token_fault state_of draft_of head_of ranks_of used_of blocks_of rank_of ops_of defined_of deps_of notes_of plans_of
sentences_with_token before t ks passed here =
    let passes = faultless_token_passes (state_of before) (draft_of before) (ranks_of before) (blocks_of before) (defined_of before) (head_of before).subject (counts_of before) (used_of before) t passed in
    let fits : PassesRankAndLabelTests (state_of before) (kept_of before) (head_of before) t.kind = record { new = passes.new_rank; below = passes.below; fresh = passes.fresh; found = passes.found } in
    passing_token_extends_text (state_of before) t.kind t.start (kept_of before) (draft_of before) (head_of before) ks passes.known passes.once fits here

sentences_with_tokens : (before tokens : List Token) (ks : List TokenKind) → first_fault before tokens ≡ None → AtEnd before ks →
    AtEnd (reverse tokens ++ before) (ks ++ map (λ (t : Token). t.kind) tokens)
unfolding first_fault
sentences_with_tokens before [] ks passed here = subst (AtEnd before) (sym (append-nil ks)) here
sentences_with_tokens before (t ∷ tokens) ks passed here =
    let kinds = map (λ (u : Token). u.kind) tokens in
    let first = sentences_with_token before t ks (first_is_none (token_fault before t) (first_fault (t ∷ before) tokens) passed) here in
    let rest = sentences_with_tokens (t ∷ before) tokens (ks ++ t.kind ∷ []) (second_is_none (token_fault before t) (first_fault (t ∷ before) tokens) passed) first in
    let turned : reverse (t ∷ tokens) ++ before ≡ reverse tokens ++ t ∷ before =
    ap (λ (l : List Token). l ++ before) (reverse-append (t ∷ []) tokens) ∙ append_assoc (reverse tokens) (t ∷ []) before in
    subst (λ (l : List Token). AtEnd l (ks ++ t.kind ∷ kinds)) (sym turned)
    (subst (AtEnd (reverse tokens ++ t ∷ before)) (append_assoc ks (t.kind ∷ []) kinds) rest)

at_start : AtEnd [] []
unfolding state_of used_of blocks_of ops_of defined_of deps_of notes_of
at_start = (refl, record { ops = refl; defined = refl; used = refl; deps = refl; notes = refl }, refl)

-- where the text may end
text_may_end : (o : Option ℕ) (s : State) (place : ℕ) (kept : Kept) (draft : Draft) (head : ItemHead) (ks : List TokenKind) → last_fault o s place ≡ None →
    AreTokensUpTo s kept draft head ks → IsOutsideBlock kept ks []
text_may_end None state.Top place kept draft head ks h here = here
text_may_end None _ place kept draft head ks h here = cc
text_may_end (Some at) s place kept draft head ks h here = cc

text_is_written : (text : List ℕ) → text_fault text ≡ None → IsWritten (lexed text).0 (text_plans text)
unfolding text_fault text_plans
text_is_written text passed =
    let tokens = (lexed text).0 in
    let kinds = map (λ (t : Token). t.kind) tokens in
    let before = reverse tokens in
    let last = last_fault (lexed text).1 (state_of before) (length text) in
    let here = subst (λ (l : List Token). AtEnd l kinds) (append-nil before) (sentences_with_tokens [] tokens [] (first_is_none (first_fault [] tokens) last passed) at_start) in
    let out = text_may_end (lexed text).1 (state_of before) (length text) (kept_of before) (draft_of before) (head_of before) kinds (second_is_none (first_fault [] tokens) last passed) here in
    record { written = out.written; right = out.right; spelled = out.spelled ∙ append-nil (text_tokens out.written); said = out.said }

reading_is_written : (tokens : List Token) (fault : Option TextFault) (said ps : List Plan) → (fault ≡ None → IsWritten tokens said) → reading fault said ≡ plans ps → IsWritten tokens ps
reading_is_written tokens None said ps h is = subst (IsWritten tokens) (same said ps is) (h refl)
  where
    same : (a b : List Plan) → plans a ≡ plans b → a ≡ b
    same a b e = cc
reading_is_written tokens (Some f) said ps h is = absurd (apart f ps is)
  where
    apart : (f : TextFault) (b : List Plan) → faulty f ≡ plans b → ⊥
    apart f b e = cc

pub plans_are_said : (text : List ℕ) (ps : List Plan) → reads text ≡ plans ps → IsWritten (lexed text).0 ps
unfolding reads
plans_are_said text ps is = reading_is_written (lexed text).0 (text_fault text) (text_plans text) ps (text_is_written text) is
