-- Sentences that obey the rules and the limits fail no test, at whatever places their tokens are.
use Rattle.std.proofs.Common.{◌≡◌, ℕ, ◌+◌, ◌^◌, ◌<◌, ◌≤◌, arith, Bool, true, false, cond, ◌||◌, eq-eqb, List, [], ◌∷◌, ◌++◌, length, reverse, Option, Some, None, nat_le, nat_eq, bytes_eq, is_some, unwrap_or, refl, sym, ap, subst, ◌∙◌, append_assoc, length-append}
use Rattle.std.specs.Prelude.{⊤, if◌then◌else◌, ◌==◌}
use Rattle.std.specs.Option.{option_or, option_map}
use Rattle.std.specs.List.{AllByRecursion, All, flat_map, list_any, count_by}
use Rattle.std.proofs.lemmas.List.{append-nil, map-append, reverse-append}
use Rattle.std.proofs.lemmas.List.Elements.{recursion_from_All}
use Rattle.std.proofs.lemmas.List.Sums.{sum_by-append, sum_by-cons}
use Rattle.std.proofs.lemmas.Slice.Eq.{bytes_eq-Decides}
use Rattle.goal_lexer.specs.declared.tokens.Token.{Token}
use Rattle.goal_lexer.specs.declared.tokens.TokenKind.{TokenKind}
use Rattle.goal_lexer.specs.declared.tokens.TokenKind.TheVariants as token
use Rattle.goal_limits.specs.declared.limits.TheConstants.{MAX_RANKS, MAX_OPS, MAX_DEPS, MAX_NOTES, MAX_BYTES, MAX_NANOS}
use Rattle.goal_graph.specs.declared.plan.Op.{Op}
use Rattle.goal_parser.specs.declared.faults.TextFault.TheVariants as fault
use Rattle.goal_parser.specs.declared.sentence.State.{State}
use Rattle.goal_parser.specs.declared.sentence.State.TheVariants as state
use Rattle.goal_parser.specs.declared.draft.Draft.{Draft}
use Rattle.goal_parser.specs.declared.draft.Action.{Action}
use Rattle.goal_parser.specs.declared.draft.Action.TheVariants as action
use Rattle.goal_parser.specs.declared.draft.OptionWord.TheVariants as option
use Rattle.goal_parser.specs.declared.head.ItemHead.{ItemHead}
use Rattle.goal_parser.specs.declared.head.Mention.{Mention}
use Rattle.goal_parser.specs.declared.head.Verb.{Verb}
use Rattle.goal_parser.specs.declared.head.Verb.TheVariants as verb
use Rattle.goal_parser.specs.Sentence.{state_of}
use Rattle.goal_parser.specs.Actions.{begun, draft_of}
use Rattle.goal_parser.specs.Ranks.{ranks_of, blocks_of, rank_of}
use Rattle.goal_parser.specs.Counts.{counts_of}
use Rattle.goal_parser.specs.Plans.{plans_of}
use Rattle.goal_parser.specs.Items.{Definition, when_of, is_defined, defined_as, first_outside, first_unknown, ends_action, head_of, ops_of, defined_of, deps_of, notes_of, used_of}
use Rattle.goal_parser.specs.Faults.{token_fault}
use Rattle.goal_parser.specs.Reads.{first_fault}
use Rattle.goal_parser.specs.Grammar.{plan_said, ops_in, deps_in, notes_in, Amount, plain, marked, Setting, tag, cpu, nic, Item, calc, send, recv, requires, irequires, moves, adds, Block, Written, number_or_any, amount_token, setting_tokens, label_tokens, cpu_tokens, item_tokens, block_tokens, text_tokens, amount, op_said, defined_before, defined_by, definitions, dep_said, note_said, used_by, is_tag, is_cpu, is_nic, AreGivenOnce, HasOptionsOnce, KeepsRules, AreRight, IsSettingWithin, IsOfSend, IsItemWithin, AreWithin}
use Rattle.goal_parser.proofs.GrammarLaws.{labels_in}
use Rattle.goal_parser.proofs.Seen.{Seen, seen_of, ops_now, step, fault_in, kinds_of, passes_if_false, passes_rank, limit_not_reached, passes_number, passes_upto, passes_u32, BeginsItem, at_word, at_close}

-- Tokens of these kinds fail no test, at whatever places, and the text may end after them.
pub data AreFaultlessFrom : Seen → List TokenKind → Type 0 where
  ends : {s : Seen} → s.state ≡ state.Top → AreFaultlessFrom s []
  next : {s : Seen} {kind : TokenKind} {kinds : List TokenKind}
      → ((start end : ℕ) → fault_in s (record { kind = kind; start = start; end = end }) ≡ None)
      → ((start end : ℕ) → AreFaultlessFrom (step (record { kind = kind; start = start; end = end }) s) kinds)
      → AreFaultlessFrom s (kind ∷ kinds)

passes_end_in_top_state : {s : Seen} → AreFaultlessFrom s [] → s.state ≡ state.Top
passes_end_in_top_state (ends here) = here

first_token_passes : {s : Seen} {kind : TokenKind} {kinds : List TokenKind} → AreFaultlessFrom s (kind ∷ kinds) → (start end : ℕ)
    → (fault_in s (record { kind = kind; start = start; end = end }) ≡ None) × AreFaultlessFrom (step (record { kind = kind; start = start; end = end }) s) kinds
first_token_passes (next passes more) start end = (passes start end, more start end)

-- so tokens of these kinds have no fault
pub passing_tokens : (before tokens : List Token) → AreFaultlessFrom (seen_of before) (kinds_of tokens)
    → (first_fault before tokens ≡ None) × (state_of (reverse tokens ++ before) ≡ state.Top)
unfolding step fault_in first_fault token_fault state_of draft_of ranks_of blocks_of rank_of head_of ops_of defined_of deps_of notes_of used_of counts_of plans_of
passing_tokens before [] good = (refl, passes_end_in_top_state good)
passing_tokens before (t ∷ tokens) good =
    let here = first_token_passes good t.start t.end in
    let rest = passing_tokens (t ∷ before) tokens here.1 in
    let turned : reverse (t ∷ tokens) ++ before ≡ reverse tokens ++ t ∷ before =
    ap (λ l. l ++ before) (reverse-append (t ∷ []) tokens) ∙ append_assoc (reverse tokens) (t ∷ []) before in (
      ap (λ o. option_or o (first_fault (t ∷ before) tokens)) here.0 ∙ rest.0,
      subst (λ (l : List Token). state_of l ≡ state.Top) (sym turned) rest.1,
    )

-- the label that an item begins with
label_passes : (s : Seen) (label : List ℕ) (kinds : List TokenKind) → BeginsItem s.state
    → ((at : ℕ) → AreFaultlessFrom (at_word s label at) kinds) → AreFaultlessFrom s (token.Label label ∷ kinds)
unfolding step fault_in
label_passes s label kinds begins good = by s.state begins good
  where
    by : (st : State) → BeginsItem st → ((at : ℕ) → AreFaultlessFrom (at_word (record s { state = st }) label at) kinds) → AreFaultlessFrom (record s { state = st }) (token.Label label ∷ kinds)
    by state.Item begins good = next (λ start end. refl) (λ start end. good start)
    by state.Calc2 begins good = next (λ start end. refl) (λ start end. good start)
    by state.Send4 begins good = next (λ start end. refl) (λ start end. good start)
    by state.Recv4 begins good = next (λ start end. refl) (λ start end. good start)
    by _ begins good = absurd begins

-- the word of an action, and the state after it
abbrev action_token : Action → TokenKind
action_token action.Calc = token.Calc
action_token action.Send = token.Send
action_token action.Recv = token.Recv

abbrev first_state : Action → State
first_state action.Calc = state.Calc1
first_state action.Send = state.Send1
first_state action.Recv = state.Recv1

-- what is given after the word of an action, with or without a label before it
abbrev begun_at : Seen → Option (List ℕ) → ItemHead → Action → Seen
begun_at s label head a = record s {
  state = first_state a;
  draft = begun a s.draft.option;
  ops = ops_now s;
  head = head;
  defined = s.defined ++ defined_before label (length (ops_now s));
  counts = record s.counts { ops = s.counts.ops + 1 };
}

abbrev IsNew : Seen → Option (List ℕ) → Type 0
IsNew s None = ⊤
IsNew s (Some label) = is_defined s.defined label ≡ false

word_passes : (a : Action) (s : Seen) (label : Option (List ℕ)) (kinds : List TokenKind) → BeginsItem s.state → IsNew s label → s.counts.ops < MAX_OPS
    → ((head : ItemHead) → AreFaultlessFrom (begun_at s label head a) kinds) → AreFaultlessFrom s (label_tokens label ++ action_token a ∷ kinds)
unfolding step fault_in
word_passes a s None kinds begins new few good =
    by a s.state begins (subst (λ (ds : List Definition). AreFaultlessFrom (record (begun_at s None s.head a) { defined = ds }) kinds) (append-nil s.defined) (good s.head))
  where
    by : (a : Action) (st : State) → BeginsItem st
        → AreFaultlessFrom (record (begun_at (record s { state = st }) None s.head a) { defined = s.defined }) kinds
        → AreFaultlessFrom (record s { state = st }) (action_token a ∷ kinds)
    by action.Calc state.Item begins good = next (λ x y. passes_if_false (nat_le MAX_OPS s.counts.ops) (fault.TooMany x) (limit_not_reached MAX_OPS s.counts.ops few)) (λ x y. good)
    by action.Calc state.Calc2 begins good = next (λ x y. passes_if_false (nat_le MAX_OPS s.counts.ops) (fault.TooMany x) (limit_not_reached MAX_OPS s.counts.ops few)) (λ x y. good)
    by action.Calc state.Send4 begins good = next (λ x y. passes_if_false (nat_le MAX_OPS s.counts.ops) (fault.TooMany x) (limit_not_reached MAX_OPS s.counts.ops few)) (λ x y. good)
    by action.Calc state.Recv4 begins good = next (λ x y. passes_if_false (nat_le MAX_OPS s.counts.ops) (fault.TooMany x) (limit_not_reached MAX_OPS s.counts.ops few)) (λ x y. good)
    by action.Calc _ begins good = absurd begins
    by action.Send state.Item begins good = next (λ x y. passes_if_false (nat_le MAX_OPS s.counts.ops) (fault.TooMany x) (limit_not_reached MAX_OPS s.counts.ops few)) (λ x y. good)
    by action.Send state.Calc2 begins good = next (λ x y. passes_if_false (nat_le MAX_OPS s.counts.ops) (fault.TooMany x) (limit_not_reached MAX_OPS s.counts.ops few)) (λ x y. good)
    by action.Send state.Send4 begins good = next (λ x y. passes_if_false (nat_le MAX_OPS s.counts.ops) (fault.TooMany x) (limit_not_reached MAX_OPS s.counts.ops few)) (λ x y. good)
    by action.Send state.Recv4 begins good = next (λ x y. passes_if_false (nat_le MAX_OPS s.counts.ops) (fault.TooMany x) (limit_not_reached MAX_OPS s.counts.ops few)) (λ x y. good)
    by action.Send _ begins good = absurd begins
    by action.Recv state.Item begins good = next (λ x y. passes_if_false (nat_le MAX_OPS s.counts.ops) (fault.TooMany x) (limit_not_reached MAX_OPS s.counts.ops few)) (λ x y. good)
    by action.Recv state.Calc2 begins good = next (λ x y. passes_if_false (nat_le MAX_OPS s.counts.ops) (fault.TooMany x) (limit_not_reached MAX_OPS s.counts.ops few)) (λ x y. good)
    by action.Recv state.Send4 begins good = next (λ x y. passes_if_false (nat_le MAX_OPS s.counts.ops) (fault.TooMany x) (limit_not_reached MAX_OPS s.counts.ops few)) (λ x y. good)
    by action.Recv state.Recv4 begins good = next (λ x y. passes_if_false (nat_le MAX_OPS s.counts.ops) (fault.TooMany x) (limit_not_reached MAX_OPS s.counts.ops few)) (λ x y. good)
    by action.Recv _ begins good = absurd begins
word_passes a s (Some label) kinds begins new few good =
    label_passes s label (token.Colon ∷ action_token a ∷ kinds) begins (λ at.
    next (λ x y. passes_if_false (is_defined s.defined label) (fault.Repeat at) new) (λ x y. behind a at (good (record s.head { subject = Some (record { label = label; at = at }) }))))
  where
    behind : (a : Action) (at : ℕ) → AreFaultlessFrom (begun_at s (Some label) (record s.head { subject = Some (record { label = label; at = at }) }) a) kinds
        → AreFaultlessFrom (record (at_word s label at) { state = state.Action; defined = s.defined ++ record { label = label; op = length (ops_now s) } ∷ [] }) (action_token a ∷ kinds)
    behind action.Calc at good = next (λ x y. passes_if_false (nat_le MAX_OPS s.counts.ops) (fault.TooMany x) (limit_not_reached MAX_OPS s.counts.ops few)) (λ x y. good)
    behind action.Send at good = next (λ x y. passes_if_false (nat_le MAX_OPS s.counts.ops) (fault.TooMany x) (limit_not_reached MAX_OPS s.counts.ops few)) (λ x y. good)
    behind action.Recv at good = next (λ x y. passes_if_false (nat_le MAX_OPS s.counts.ops) (fault.TooMany x) (limit_not_reached MAX_OPS s.counts.ops few)) (λ x y. good)

-- none of these options was given before, and none is given twice
abbrev Fresh : (tags cpus nics : Bool) → List Setting → Type 0
Fresh tags cpus nics [] = ⊤
Fresh tags cpus nics (tag n ∷ settings) = (tags ≡ false) × Fresh true cpus nics settings
Fresh tags cpus nics (cpu n ∷ settings) = (cpus ≡ false) × Fresh tags true nics settings
Fresh tags cpus nics (nic n ∷ settings) = (nics ≡ false) × Fresh tags cpus true settings

count-cons : {X : Type 0} (p : X → Bool) (x : X) (xs : List X) → count_by p (x ∷ xs) ≡ cond (p x) 1 0 + count_by p xs
count-cons p x xs = sum_by-cons (λ y. cond (p y) 1 0) x xs

fresh : (settings : List Setting) (tags cpus nics : Bool) → cond tags 1 0 + count_by is_tag settings ≤ 1 → cond cpus 1 0 + count_by is_cpu settings ≤ 1
    → cond nics 1 0 + count_by is_nic settings ≤ 1 → Fresh tags cpus nics settings
fresh [] tags cpus nics a b c = tt
fresh (tag n ∷ settings) true cpus nics a b c = absurd (omega (arith, count-cons is_tag (tag n) settings))
fresh (tag n ∷ settings) false cpus nics a b c =
    (refl, fresh settings true cpus nics (omega (arith, count-cons is_tag (tag n) settings)) (omega (arith, count-cons is_cpu (tag n) settings)) (omega (arith, count-cons is_nic (tag n) settings)))
fresh (cpu n ∷ settings) tags true nics a b c = absurd (omega (arith, count-cons is_cpu (cpu n) settings))
fresh (cpu n ∷ settings) tags false nics a b c =
    (refl, fresh settings tags true nics (omega (arith, count-cons is_tag (cpu n) settings)) (omega (arith, count-cons is_cpu (cpu n) settings)) (omega (arith, count-cons is_nic (cpu n) settings)))
fresh (nic n ∷ settings) tags cpus true a b c = absurd (omega (arith, count-cons is_nic (nic n) settings))
fresh (nic n ∷ settings) tags cpus false a b c =
    (refl, fresh settings tags cpus true (omega (arith, count-cons is_tag (nic n) settings)) (omega (arith, count-cons is_cpu (nic n) settings)) (omega (arith, count-cons is_nic (nic n) settings)))

once_fresh : (settings : List Setting) → AreGivenOnce settings → Fresh false false false settings
once_fresh settings once =
    let a = once.tags in
    let b = once.cpus in
    let c = once.nics in
    fresh settings false false false (omega arith) (omega arith) (omega arith)

-- the options of a send
send_settings : (settings : List Setting) (s : Seen) (kinds : List TokenKind) → AllByRecursion IsSettingWithin settings → AllByRecursion IsOfSend settings
    → Fresh s.draft.has_tag s.draft.has_cpu s.draft.has_nic settings
    → ((d : Draft) → AreFaultlessFrom (record s { state = state.Send4; draft = d }) kinds)
    → AreFaultlessFrom (record s { state = state.Send4 }) (flat_map setting_tokens settings ++ kinds)
unfolding step fault_in
send_settings [] s kinds within sends new good = good s.draft
send_settings (tag None ∷ settings) s kinds within sends new good = absurd (let h = sends.0 in cc)
send_settings (tag (Some n) ∷ settings) s kinds within sends new good =
    next (λ a b. passes_if_false s.draft.has_tag (fault.Repeat a) new.0) (λ a b.
    next (λ c d. passes_u32 n (fault.Number c) within.0) (λ c d.
    send_settings settings (record s { draft = record s.draft { has_tag = true; option = option.Tag; tag = Some n } }) kinds within.1 sends.1 new.1 good))
send_settings (cpu n ∷ settings) s kinds within sends new good =
    next (λ a b. passes_if_false s.draft.has_cpu (fault.Repeat a) new.0) (λ a b.
    next (λ c d. passes_upto n 255 (fault.Number c) within.0) (λ c d.
    send_settings settings (record s { draft = record s.draft { has_cpu = true; option = option.Cpu; cpu = n } }) kinds within.1 sends.1 new.1 good))
send_settings (nic n ∷ settings) s kinds within sends new good =
    next (λ a b. passes_if_false s.draft.has_nic (fault.Repeat a) new.0) (λ a b.
    next (λ c d. passes_upto n 255 (fault.Number c) within.0) (λ c d.
    send_settings settings (record s { draft = record s.draft { has_nic = true; option = option.Nic; nic = n } }) kinds within.1 sends.1 new.1 good))

-- those of a receive
recv_settings : (settings : List Setting) (s : Seen) (kinds : List TokenKind) → AllByRecursion IsSettingWithin settings
    → Fresh s.draft.has_tag s.draft.has_cpu s.draft.has_nic settings
    → ((d : Draft) → AreFaultlessFrom (record s { state = state.Recv4; draft = d }) kinds)
    → AreFaultlessFrom (record s { state = state.Recv4 }) (flat_map setting_tokens settings ++ kinds)
unfolding step fault_in
recv_settings [] s kinds within new good = good s.draft
recv_settings (tag None ∷ settings) s kinds within new good =
    next (λ a b. passes_if_false s.draft.has_tag (fault.Repeat a) new.0) (λ a b.
    next (λ c d. refl) (λ c d.
    recv_settings settings (record s { draft = record s.draft { has_tag = true; option = option.Tag; tag = None } }) kinds within.1 new.1 good))
recv_settings (tag (Some n) ∷ settings) s kinds within new good =
    next (λ a b. passes_if_false s.draft.has_tag (fault.Repeat a) new.0) (λ a b.
    next (λ c d. passes_u32 n (fault.Number c) within.0) (λ c d.
    recv_settings settings (record s { draft = record s.draft { has_tag = true; option = option.Tag; tag = Some n } }) kinds within.1 new.1 good))
recv_settings (cpu n ∷ settings) s kinds within new good =
    next (λ a b. passes_if_false s.draft.has_cpu (fault.Repeat a) new.0) (λ a b.
    next (λ c d. passes_upto n 255 (fault.Number c) within.0) (λ c d.
    recv_settings settings (record s { draft = record s.draft { has_cpu = true; option = option.Cpu; cpu = n } }) kinds within.1 new.1 good))
recv_settings (nic n ∷ settings) s kinds within new good =
    next (λ a b. passes_if_false s.draft.has_nic (fault.Repeat a) new.0) (λ a b.
    next (λ c d. passes_upto n 255 (fault.Number c) within.0) (λ c d.
    recv_settings settings (record s { draft = record s.draft { has_nic = true; option = option.Nic; nic = n } }) kinds within.1 new.1 good))

-- what is given after an item
record IsAfterItem (s t : Seen) (item : Item) : Type 0 where
  begins : BeginsItem t.state
  ranks : t.ranks ≡ s.ranks
  blocks : t.blocks ≡ s.blocks
  ops : length (ops_now t) ≡ length (ops_now s) + length (op_said item)
  defined : t.defined ≡ s.defined ++ defined_by item (length (ops_now s))
  used : labels_in t.used ≡ labels_in s.used ++ used_by item
  op_count : t.counts.ops ≡ s.counts.ops + length (op_said item)
  dep_count : t.counts.deps ≡ s.counts.deps + length (dep_said [] item)
  note_count : t.counts.notes ≡ s.counts.notes + length (note_said [] item)

-- the state after an action that may end here
abbrev IsEnd : State → Type 0
IsEnd state.Calc2 = ⊤
IsEnd state.Send4 = ⊤
IsEnd state.Recv4 = ⊤
IsEnd _ = ⊥

end_begins : (st : State) → IsEnd st → BeginsItem st
end_begins state.Calc2 e = tt
end_begins state.Send4 e = tt
end_begins state.Recv4 e = tt
end_begins _ e = absurd e

action_end_adds_one_op : (st : State) (s : Seen) (draft : Draft) → IsEnd st → length (ops_now (record s { state = st; draft = draft })) ≡ length s.ops + 1
unfolding ends_action
action_end_adds_one_op state.Calc2 s draft e = length-append s.ops _
action_end_adds_one_op state.Send4 s draft e = length-append s.ops _
action_end_adds_one_op state.Recv4 s draft e = length-append s.ops _
action_end_adds_one_op _ s draft e = absurd e

-- what is given after an action
module _ (s : Seen) (label : Option (List ℕ)) (head : ItemHead) (a : Action) (st : State) (draft : Draft) (end : IsEnd st) where
  abbrev seen_after_action : Seen
  seen_after_action = record (begun_at s label head a) { state = st; draft = draft }

  seen_after_action_is_after_item : (item : Item) → length (op_said item) ≡ 1 → ((n : ℕ) → defined_before label n ≡ defined_by item n) → used_by item ≡ []
      → length (dep_said [] item) ≡ 0 → length (note_said [] item) ≡ 0 → IsAfterItem s seen_after_action item
  seen_after_action_is_after_item item one defines uses deps notes = record {
    begins = end_begins st end;
    ranks = refl;
    blocks = refl;
    ops = omega (arith, action_end_adds_one_op st (begun_at s label head a) draft end, one);
    defined = ap (λ (ds : List Definition). s.defined ++ ds) (defines (length (ops_now s)));
    used = sym (append-nil (labels_in s.used)) ∙ ap (λ (ls : List (List ℕ)). labels_in s.used ++ ls) (sym uses);
    op_count = omega (arith, one);
    dep_count = omega (arith, deps);
    note_count = omega (arith, notes);
  }

-- what an item needs of what is given before it
record AllowsItem (s : Seen) (item : Item) : Type 0 where
  begins : BeginsItem s.state
  new : (label : List ℕ) → defined_by item (length (ops_now s)) ≡ record { label = label; op = length (ops_now s) } ∷ [] → is_defined s.defined label ≡ false
  ops : s.counts.ops + length (op_said item) ≤ MAX_OPS
  deps : s.counts.deps + length (dep_said [] item) ≤ MAX_DEPS
  notes : s.counts.notes + length (note_said [] item) ≤ MAX_NOTES

fitting_label_is_new : (s : Seen) (label : Option (List ℕ)) (n : ℕ) → ((l : List ℕ) → defined_before label n ≡ record { label = l; op = n } ∷ [] → is_defined s.defined l ≡ false) → IsNew s label
fitting_label_is_new s None n h = tt
fitting_label_is_new s (Some l) n h = h l refl

-- a calc
calc_passes : (label : Option (List ℕ)) (nanos : ℕ) (on : Option ℕ) (s : Seen) (kinds : List TokenKind) → AllowsItem s (calc label nanos on) → IsItemWithin (calc label nanos on)
    → ((t : Seen) → IsAfterItem s t (calc label nanos on) → AreFaultlessFrom t kinds) → AreFaultlessFrom s (item_tokens (calc label nanos on) ++ kinds)
unfolding step fault_in
calc_passes label nanos on s kinds fits within good =
    subst (AreFaultlessFrom s) (sym (append_assoc (label_tokens label) (token.Calc ∷ token.Number nanos ∷ cpu_tokens on) kinds))
    (word_passes action.Calc s label (token.Number nanos ∷ cpu_tokens on ++ kinds) fits.begins (fitting_label_is_new s label (length (ops_now s)) fits.new) (let few = fits.ops in omega arith) (λ head.
    next (λ a b. passes_upto nanos MAX_NANOS (fault.Number a) within.0) (λ a b. rest on within.1 head (λ t h. good t h))))
  where
    rest : (on : Option ℕ) → unwrap_or on 0 ≤ 255 → (head : ItemHead) → ((t : Seen) → IsAfterItem s t (calc label nanos on) → AreFaultlessFrom t kinds)
        → AreFaultlessFrom (record (begun_at s label head action.Calc) { state = state.Calc2; draft = record (begun action.Calc s.draft.option) { size = nanos } }) (cpu_tokens on ++ kinds)
    rest None few head good =
        good _ (seen_after_action_is_after_item s label head action.Calc state.Calc2 (record (begun action.Calc s.draft.option) { size = nanos }) tt (calc label nanos None) refl (λ n. refl) refl refl refl)
    rest (Some n) few head good =
        next (λ a b. refl) (λ a b.
        next (λ c d. passes_upto n 255 (fault.Number c) few) (λ c d.
        good _ (seen_after_action_is_after_item s label head action.Calc state.Calc2 (record (begun action.Calc s.draft.option) { size = nanos; has_cpu = true; option = option.Cpu; cpu = n }) tt (calc label nanos (Some n)) refl (λ n. refl) refl refl refl)))

-- a send
send_passes : (label : Option (List ℕ)) (size : Amount) (to : ℕ) (settings : List Setting) (s : Seen) (kinds : List TokenKind) → AllowsItem s (send label size to settings)
    → IsItemWithin (send label size to settings) → AreGivenOnce settings
    → ((t : Seen) → IsAfterItem s t (send label size to settings) → AreFaultlessFrom t kinds) → AreFaultlessFrom s (item_tokens (send label size to settings) ++ kinds)
unfolding step fault_in
send_passes label size to settings s kinds fits within once good =
    subst (AreFaultlessFrom s) (sym (append_assoc (label_tokens label) (token.Send ∷ amount_token size ∷ token.To ∷ token.Number to ∷ flat_map setting_tokens settings) kinds))
    (word_passes action.Send s label (amount_token size ∷ token.To ∷ token.Number to ∷ flat_map setting_tokens settings ++ kinds) fits.begins (fitting_label_is_new s label (length (ops_now s)) fits.new) (let few = fits.ops in omega arith) (λ head.
    sized size within.0 head))
  where
    rest : (n : ℕ) (head : ItemHead)
        → AreFaultlessFrom (record (begun_at s label head action.Send) { state = state.Send2; draft = record (begun action.Send s.draft.option) { size = n } }) (token.To ∷ token.Number to ∷ flat_map setting_tokens settings ++ kinds)
    rest n head =
        next (λ a b. refl) (λ a b.
        next (λ c d. passes_u32 to (fault.Number c) within.1) (λ c d.
        send_settings settings (record (begun_at s label head action.Send) { state = state.Send4; draft = record (begun action.Send s.draft.option) { size = n; peer = Some to } }) kinds
        (recursion_from_All IsSettingWithin settings within.2) (recursion_from_All IsOfSend settings within.3) (once_fresh settings once) (λ draft.
        good _ (seen_after_action_is_after_item s label head action.Send state.Send4 draft tt (send label size to settings) refl (λ n. refl) refl refl refl))))

    sized : (z : Amount) → amount z ≤ MAX_BYTES → (head : ItemHead)
        → AreFaultlessFrom (begun_at s label head action.Send) (amount_token z ∷ token.To ∷ token.Number to ∷ flat_map setting_tokens settings ++ kinds)
    sized (plain n) few head = next (λ a b. passes_upto n MAX_BYTES (fault.Number a) few) (λ a b. rest n head)
    sized (marked n) few head = next (λ a b. passes_upto n MAX_BYTES (fault.Number a) few) (λ a b. rest n head)

-- a receive
recv_passes : (label : Option (List ℕ)) (size : Amount) (from : Option ℕ) (settings : List Setting) (s : Seen) (kinds : List TokenKind) → AllowsItem s (recv label size from settings)
    → IsItemWithin (recv label size from settings) → AreGivenOnce settings
    → ((t : Seen) → IsAfterItem s t (recv label size from settings) → AreFaultlessFrom t kinds) → AreFaultlessFrom s (item_tokens (recv label size from settings) ++ kinds)
unfolding step fault_in
recv_passes label size from settings s kinds fits within once good =
    subst (AreFaultlessFrom s) (sym (append_assoc (label_tokens label) (token.Recv ∷ amount_token size ∷ token.From ∷ number_or_any from ∷ flat_map setting_tokens settings) kinds))
    (word_passes action.Recv s label (amount_token size ∷ token.From ∷ number_or_any from ∷ flat_map setting_tokens settings ++ kinds) fits.begins (fitting_label_is_new s label (length (ops_now s)) fits.new) (let few = fits.ops in omega arith) (λ head.
    sized size within.0 head))
  where
    behind : (n : ℕ) (source : Option ℕ) (head : ItemHead)
        → AreFaultlessFrom (record (begun_at s label head action.Recv) { state = state.Recv4; draft = record (begun action.Recv s.draft.option) { size = n; peer = source } }) (flat_map setting_tokens settings ++ kinds)
    behind n source head =
        recv_settings settings (record (begun_at s label head action.Recv) { state = state.Recv4; draft = record (begun action.Recv s.draft.option) { size = n; peer = source } }) kinds
        (recursion_from_All IsSettingWithin settings within.2) (once_fresh settings once) (λ draft.
        good _ (seen_after_action_is_after_item s label head action.Recv state.Recv4 draft tt (recv label size from settings) refl (λ n. refl) refl refl refl))

    rest : (n : ℕ) (source : Option ℕ) → unwrap_or source 0 < 2 ^ 32 → (head : ItemHead)
        → AreFaultlessFrom (record (begun_at s label head action.Recv) { state = state.Recv2; draft = record (begun action.Recv s.draft.option) { size = n } }) (token.From ∷ number_or_any source ∷ flat_map setting_tokens settings ++ kinds)
    rest n None few head = next (λ a b. refl) (λ a b. next (λ c d. refl) (λ c d. behind n None head))
    rest n (Some m) few head = next (λ a b. refl) (λ a b. next (λ c d. passes_u32 m (fault.Number c) few) (λ c d. behind n (Some m) head))

    sized : (z : Amount) → amount z ≤ MAX_BYTES → (head : ItemHead)
        → AreFaultlessFrom (begun_at s label head action.Recv) (amount_token z ∷ token.From ∷ number_or_any from ∷ flat_map setting_tokens settings ++ kinds)
    sized (plain n) few head = next (λ a b. passes_upto n MAX_BYTES (fault.Number a) few) (λ a b. rest n from within.1 head)
    sized (marked n) few head = next (λ a b. passes_upto n MAX_BYTES (fault.Number a) few) (λ a b. rest n from within.1 head)

-- a dependency and a note
labels_in_appended_mention : (us : List Mention) (u : Mention) → labels_in (us ++ u ∷ []) ≡ labels_in us ++ u.label ∷ []
labels_in_appended_mention us u = map-append (λ (v : Mention). v.label) us (u ∷ [])

labels_in_two_appended_mentions : (us : List Mention) (u v : Mention) → labels_in ((us ++ u ∷ []) ++ v ∷ []) ≡ labels_in us ++ u.label ∷ v.label ∷ []
labels_in_two_appended_mentions us u v =
    labels_in_appended_mention (us ++ u ∷ []) v ∙ ap (λ (ls : List (List ℕ)). ls ++ v.label ∷ []) (labels_in_appended_mention us u) ∙ append_assoc (labels_in us) (u.label ∷ []) (v.label ∷ [])

-- what is given after a dependency, and after a note
abbrev after_dep : Seen → List ℕ → List ℕ → ℕ → ℕ → Verb → Seen
after_dep s later earlier at there verb = record s {
  state = state.Item;
  ops = ops_now s;
  head = record s.head { subject = Some (record { label = later; at = at }); verb = verb };
  deps = s.deps ++ record { later = later; earlier = earlier; when = when_of verb } ∷ [];
  used = (s.used ++ record { label = later; at = at } ∷ []) ++ record { label = earlier; at = there } ∷ [];
  counts = record s.counts { deps = s.counts.deps + 1 };
}

abbrev after_note : Seen → List ℕ → ℕ → Verb → ℕ → ℕ → Seen
after_note s subject at verb first second = record s {
  state = state.Item;
  ops = ops_now s;
  head = record s.head { subject = Some (record { label = subject; at = at }); verb = verb; low = first };
  notes = s.notes ++ record { subject = subject; verb = verb; first = first; second = second } ∷ [];
  used = s.used ++ record { label = subject; at = at } ∷ [];
  counts = record s.counts { notes = s.counts.notes + 1 };
}

equals_plus_zero : (n : ℕ) → n ≡ n + 0
equals_plus_zero n = omega arith

after_dep_is_after_item : (s : Seen) (later earlier : List ℕ) (at there : ℕ) (verb : Verb) (item : Item) → op_said item ≡ [] → ((n : ℕ) → [] ≡ defined_by item n)
    → used_by item ≡ later ∷ earlier ∷ [] → length (dep_said [] item) ≡ 1 → length (note_said [] item) ≡ 0
    → IsAfterItem s (after_dep s later earlier at there verb) item
unfolding ends_action
after_dep_is_after_item s later earlier at there verb item ops defines uses deps notes = record {
  begins = tt;
  ranks = refl;
  blocks = refl;
  ops = equals_plus_zero (length (ops_now s)) ∙ ap (λ (l : List Op). length (ops_now s) + length l) (sym ops);
  defined = sym (append-nil s.defined) ∙ ap (λ (ds : List Definition). s.defined ++ ds) (defines (length (ops_now s)));
  used = labels_in_two_appended_mentions s.used (record { label = later; at = at }) (record { label = earlier; at = there }) ∙ ap (λ (ls : List (List ℕ)). labels_in s.used ++ ls) (sym uses);
  op_count = equals_plus_zero s.counts.ops ∙ ap (λ (l : List Op). s.counts.ops + length l) (sym ops);
  dep_count = ap (λ (n : ℕ). s.counts.deps + n) (sym deps);
  note_count = equals_plus_zero s.counts.notes ∙ ap (λ (n : ℕ). s.counts.notes + n) (sym notes);
}

after_note_is_after_item : (s : Seen) (label : List ℕ) (at : ℕ) (verb : Verb) (first second : ℕ) (item : Item) → op_said item ≡ [] → ((n : ℕ) → [] ≡ defined_by item n)
    → used_by item ≡ label ∷ [] → length (dep_said [] item) ≡ 0 → length (note_said [] item) ≡ 1
    → IsAfterItem s (after_note s label at verb first second) item
unfolding ends_action
after_note_is_after_item s label at verb first second item ops defines uses deps notes = record {
  begins = tt;
  ranks = refl;
  blocks = refl;
  ops = equals_plus_zero (length (ops_now s)) ∙ ap (λ (l : List Op). length (ops_now s) + length l) (sym ops);
  defined = sym (append-nil s.defined) ∙ ap (λ (ds : List Definition). s.defined ++ ds) (defines (length (ops_now s)));
  used = labels_in_appended_mention s.used (record { label = label; at = at }) ∙ ap (λ (ls : List (List ℕ)). labels_in s.used ++ ls) (sym uses);
  op_count = equals_plus_zero s.counts.ops ∙ ap (λ (l : List Op). s.counts.ops + length l) (sym ops);
  dep_count = equals_plus_zero s.counts.deps ∙ ap (λ (n : ℕ). s.counts.deps + n) (sym deps);
  note_count = ap (λ (n : ℕ). s.counts.notes + n) (sym notes);
}

requires_passes : (later earlier : List ℕ) (s : Seen) (kinds : List TokenKind) → BeginsItem s.state → s.counts.deps < MAX_DEPS
    → ((at there : ℕ) → AreFaultlessFrom (after_dep s later earlier at there verb.Requires) kinds) → AreFaultlessFrom s (token.Label later ∷ token.Requires ∷ token.Label earlier ∷ kinds)
unfolding step fault_in
requires_passes later earlier s kinds begins few good =
    label_passes s later (token.Requires ∷ token.Label earlier ∷ kinds) begins (λ at.
    next (λ a b. passes_if_false (nat_le MAX_DEPS s.counts.deps) (fault.TooMany a) (limit_not_reached MAX_DEPS s.counts.deps few)) (λ a b.
    next (λ c d. refl) (λ c d. good at c)))

irequires_passes : (later earlier : List ℕ) (s : Seen) (kinds : List TokenKind) → BeginsItem s.state → s.counts.deps < MAX_DEPS
    → ((at there : ℕ) → AreFaultlessFrom (after_dep s later earlier at there verb.Irequires) kinds) → AreFaultlessFrom s (token.Label later ∷ token.Irequires ∷ token.Label earlier ∷ kinds)
unfolding step fault_in
irequires_passes later earlier s kinds begins few good =
    label_passes s later (token.Irequires ∷ token.Label earlier ∷ kinds) begins (λ at.
    next (λ a b. passes_if_false (nat_le MAX_DEPS s.counts.deps) (fault.TooMany a) (limit_not_reached MAX_DEPS s.counts.deps few)) (λ a b.
    next (λ c d. refl) (λ c d. good at c)))

moves_passes : (label : List ℕ) (first last : ℕ) (s : Seen) (kinds : List TokenKind) → BeginsItem s.state → s.counts.notes < MAX_NOTES → first < 2 ^ 32 → last < 2 ^ 32
    → ((at : ℕ) → AreFaultlessFrom (after_note s label at verb.Moves first last) kinds) → AreFaultlessFrom s (token.Label label ∷ token.Moves ∷ token.Number first ∷ token.To ∷ token.Number last ∷ kinds)
unfolding step fault_in
moves_passes label first last s kinds begins few first_fits last_fits good =
    label_passes s label (token.Moves ∷ token.Number first ∷ token.To ∷ token.Number last ∷ kinds) begins (λ at.
    next (λ a b. passes_if_false (nat_le MAX_NOTES s.counts.notes) (fault.TooMany a) (limit_not_reached MAX_NOTES s.counts.notes few)) (λ a b.
    next (λ c d. passes_u32 first (fault.Number c) first_fits) (λ c d.
    next (λ e f. refl) (λ e f.
    next (λ g h. passes_u32 last (fault.Number g) last_fits) (λ g h. good at)))))

adds_passes : (label : List ℕ) (from to : ℕ) (s : Seen) (kinds : List TokenKind) → BeginsItem s.state → s.counts.notes < MAX_NOTES → from < 2 ^ 32 → to < 2 ^ 32
    → ((at : ℕ) → AreFaultlessFrom (after_note s label at verb.Adds from to) kinds) → AreFaultlessFrom s (token.Label label ∷ token.Adds ∷ token.Number from ∷ token.To ∷ token.Number to ∷ kinds)
unfolding step fault_in
adds_passes label from to s kinds begins few from_fits to_fits good =
    label_passes s label (token.Adds ∷ token.Number from ∷ token.To ∷ token.Number to ∷ kinds) begins (λ at.
    next (λ a b. passes_if_false (nat_le MAX_NOTES s.counts.notes) (fault.TooMany a) (limit_not_reached MAX_NOTES s.counts.notes few)) (λ a b.
    next (λ c d. passes_u32 from (fault.Number c) from_fits) (λ c d.
    next (λ e f. refl) (λ e f.
    next (λ g h. passes_u32 to (fault.Number g) to_fits) (λ g h. good at)))))

less_if_successor_fits : (n limit : ℕ) → n + 1 ≤ limit → n < limit
less_if_successor_fits n limit h = omega arith

item_passes : (item : Item) (s : Seen) (kinds : List TokenKind) → AllowsItem s item → IsItemWithin item → HasOptionsOnce item
    → ((t : Seen) → IsAfterItem s t item → AreFaultlessFrom t kinds) → AreFaultlessFrom s (item_tokens item ++ kinds)
item_passes (calc label nanos on) s kinds fits within once good = calc_passes label nanos on s kinds fits within good
item_passes (send label size to settings) s kinds fits within once good = send_passes label size to settings s kinds fits within once good
item_passes (recv label size from settings) s kinds fits within once good = recv_passes label size from settings s kinds fits within once good
item_passes (requires later earlier) s kinds fits within once good =
    requires_passes later earlier s kinds fits.begins (less_if_successor_fits s.counts.deps MAX_DEPS fits.deps) (λ at there.
    good (after_dep s later earlier at there verb.Requires) (after_dep_is_after_item s later earlier at there verb.Requires (requires later earlier) refl (λ n. refl) refl refl refl))
item_passes (irequires later earlier) s kinds fits within once good =
    irequires_passes later earlier s kinds fits.begins (less_if_successor_fits s.counts.deps MAX_DEPS fits.deps) (λ at there.
    good (after_dep s later earlier at there verb.Irequires) (after_dep_is_after_item s later earlier at there verb.Irequires (irequires later earlier) refl (λ n. refl) refl refl refl))
item_passes (moves label first last) s kinds fits within once good =
    moves_passes label first last s kinds fits.begins (less_if_successor_fits s.counts.notes MAX_NOTES fits.notes) within.0 within.1 (λ at.
    good (after_note s label at verb.Moves first last) (after_note_is_after_item s label at verb.Moves first last (moves label first last) refl (λ n. refl) refl refl refl))
item_passes (adds label from to) s kinds fits within once good =
    adds_passes label from to s kinds fits.begins (less_if_successor_fits s.counts.notes MAX_NOTES fits.notes) within.0 within.1 (λ at.
    good (after_note s label at verb.Adds from to) (after_note_is_after_item s label at verb.Adds from to (adds label from to) refl (λ n. refl) refl refl refl))

count-append : {X : Type 0} (p : X → Bool) (xs ys : List X) → count_by p (xs ++ ys) ≡ count_by p xs + count_by p ys
count-append p xs ys = sum_by-append (λ y. cond (p y) 1 0) xs ys

-- a label that is counted in none of these definitions is not defined
uncounted_label_is_undefined_in_cons : (b : Bool) (ds : List Definition) (label : List ℕ) (op : ℕ) → cond b 1 0 + count_by (λ (e : Definition). bytes_eq label e.label) ds ≡ 0
    → (count_by (λ (e : Definition). bytes_eq label e.label) ds ≡ 0 → is_defined ds label ≡ false) → is_some (if b then Some op else defined_as ds label) ≡ false
uncounted_label_is_undefined_in_cons true ds label op none rest = absurd (omega (arith, none))
uncounted_label_is_undefined_in_cons false ds label op none rest = rest (omega (arith, none))

uncounted_label_is_undefined : (ds : List Definition) (label : List ℕ) → count_by (λ (d : Definition). bytes_eq label d.label) ds ≡ 0 → is_defined ds label ≡ false
unfolding defined_as
uncounted_label_is_undefined [] label none = refl
uncounted_label_is_undefined (d ∷ ds) label none =
    uncounted_label_is_undefined_in_cons (bytes_eq label d.label) ds label d.op (sym (count-cons (λ (e : Definition). bytes_eq label e.label) d ds) ∙ none) (uncounted_label_is_undefined ds label)

-- how many operations, dependencies and notes items have together
abbrev op_total : List Item → ℕ
op_total items = length (flat_map op_said items)

abbrev dep_total : List Item → ℕ
dep_total items = length (flat_map (dep_said []) items)

abbrev note_total : List Item → ℕ
note_total items = length (flat_map (note_said []) items)

-- what items need of what is given before them
record FitAll (s : Seen) (items : List Item) : Type 0 where
  begins : BeginsItem s.state
  once : (label : List ℕ) → count_by (λ (d : Definition). bytes_eq label d.label) (s.defined ++ definitions (length (ops_now s)) items) ≤ 1
  ops : s.counts.ops + op_total items ≤ MAX_OPS
  deps : s.counts.deps + dep_total items ≤ MAX_DEPS
  notes : s.counts.notes + note_total items ≤ MAX_NOTES

-- what is given after items
record IsAfterItems (s t : Seen) (items : List Item) : Type 0 where
  begins : BeginsItem t.state
  ranks : t.ranks ≡ s.ranks
  blocks : t.blocks ≡ s.blocks
  defined : t.defined ≡ s.defined ++ definitions (length (ops_now s)) items
  used : labels_in t.used ≡ labels_in s.used ++ flat_map used_by items
  op_count : t.counts.ops ≡ s.counts.ops + op_total items
  dep_count : t.counts.deps ≡ s.counts.deps + dep_total items
  note_count : t.counts.notes ≡ s.counts.notes + note_total items

-- another item
module _ (item : Item) (items : List Item) (s : Seen) (fits : FitAll s (item ∷ items)) where
  abbrev behind_first : List Definition
  behind_first = definitions (length (ops_now s) + length (op_said item)) items

  first_item_defines_new_label : (label : List ℕ) → defined_by item (length (ops_now s)) ≡ record { label = label; op = length (ops_now s) } ∷ [] → is_defined s.defined label ≡ false
  first_item_defines_new_label label is =
      let test : Definition → Bool = λ d. bytes_eq label d.label in
      let whole : count_by (λ (d : Definition). bytes_eq label d.label) (s.defined ++ (defined_by item (length (ops_now s)) ++ behind_first)) ≡ count_by (λ (d : Definition). bytes_eq label d.label) s.defined + (count_by (λ (d : Definition). bytes_eq label d.label) (defined_by item (length (ops_now s))) + count_by (λ (d : Definition). bytes_eq label d.label) behind_first) =
      count-append test s.defined (defined_by item (length (ops_now s)) ++ behind_first) ∙ ap (λ (n : ℕ). count_by test s.defined + n) (count-append test (defined_by item (length (ops_now s))) behind_first) in
      let one : count_by (λ (d : Definition). bytes_eq label d.label) (defined_by item (length (ops_now s))) ≡ cond (bytes_eq label label) 1 0 + 0 =
      ap (count_by test) is ∙ count-cons test (record { label = label; op = length (ops_now s) }) [] in
      let same : ◌≡◌ {A = ℕ} (cond (bytes_eq label label) 1 0) 1 = ap (λ (b : Bool). cond b 1 0) ((bytes_eq-Decides label label).1 refl) in
      uncounted_label_is_undefined s.defined label (omega (arith, whole, one, same, fits.once label))

  first_fits : AllowsItem s item
  first_fits = record {
    begins = fits.begins;
    new = first_item_defines_new_label;
    ops = let few = fits.ops in omega (arith, length-append (op_said item) (flat_map op_said items));
    deps = let few = fits.deps in omega (arith, length-append (dep_said [] item) (flat_map (dep_said []) items));
    notes = let few = fits.notes in omega (arith, length-append (note_said [] item) (flat_map (note_said []) items));
  }

  module _ (t : Seen) (behind : IsAfterItem s t item) where
    definitions_on : t.defined ++ definitions (length (ops_now t)) items ≡ s.defined ++ (defined_by item (length (ops_now s)) ++ behind_first)
    definitions_on =
        ap (λ (ds : List Definition). ds ++ definitions (length (ops_now t)) items) behind.defined
        ∙ ap (λ (n : ℕ). (s.defined ++ defined_by item (length (ops_now s))) ++ definitions n items) behind.ops
        ∙ append_assoc s.defined (defined_by item (length (ops_now s))) behind_first

    rest_fits : FitAll t items
    rest_fits = record {
      begins = behind.begins;
      once = λ label. subst (λ (ds : List Definition). count_by (λ (d : Definition). bytes_eq label d.label) ds ≤ 1) (sym definitions_on) (fits.once label);
      ops = let few = fits.ops in let more = behind.op_count in omega (arith, length-append (op_said item) (flat_map op_said items));
      deps = let few = fits.deps in let more = behind.dep_count in omega (arith, length-append (dep_said [] item) (flat_map (dep_said []) items));
      notes = let few = fits.notes in let more = behind.note_count in omega (arith, length-append (note_said [] item) (flat_map (note_said []) items));
    }

    all_behind : (u : Seen) → IsAfterItems t u items → IsAfterItems s u (item ∷ items)
    all_behind u rest = record {
      begins = rest.begins;
      ranks = rest.ranks ∙ behind.ranks;
      blocks = rest.blocks ∙ behind.blocks;
      defined = rest.defined ∙ definitions_on;
      used = rest.used ∙ ap (λ (ls : List (List ℕ)). ls ++ flat_map used_by items) behind.used ∙ append_assoc (labels_in s.used) (used_by item) (flat_map used_by items);
      op_count = let more = behind.op_count in let last = rest.op_count in omega (arith, length-append (op_said item) (flat_map op_said items));
      dep_count = let more = behind.dep_count in let last = rest.dep_count in omega (arith, length-append (dep_said [] item) (flat_map (dep_said []) items));
      note_count = let more = behind.note_count in let last = rest.note_count in omega (arith, length-append (note_said [] item) (flat_map (note_said []) items));
    }

items_pass : (items : List Item) (s : Seen) (kinds : List TokenKind) → FitAll s items → AllByRecursion IsItemWithin items → AllByRecursion HasOptionsOnce items
    → ((t : Seen) → IsAfterItems s t items → AreFaultlessFrom t kinds) → AreFaultlessFrom s (flat_map item_tokens items ++ kinds)
items_pass [] s kinds fits within once good =
    good s (record {
      begins = fits.begins;
      ranks = refl;
      blocks = refl;
      defined = sym (append-nil s.defined);
      used = sym (append-nil (labels_in s.used));
      op_count = equals_plus_zero s.counts.ops;
      dep_count = equals_plus_zero s.counts.deps;
      note_count = equals_plus_zero s.counts.notes;
    })
items_pass (item ∷ items) s kinds fits within once good =
    subst (AreFaultlessFrom s) (sym (append_assoc (item_tokens item) (flat_map item_tokens items) kinds))
    (item_passes item s (flat_map item_tokens items ++ kinds) (first_fits item items s fits) within.0 once.0 (λ t behind.
    items_pass items t kinds (rest_fits item items s fits t behind) within.1 once.1 (λ u rest. good u (all_behind item items s fits t behind u rest))))

-- the end of a block
close_passes : (s : Seen) (kinds : List TokenKind) → BeginsItem s.state → first_unknown s.defined s.used ≡ None → AreFaultlessFrom (at_close s) kinds → AreFaultlessFrom s (token.Close ∷ kinds)
unfolding step fault_in
close_passes s kinds begins known good = by s.state begins good
  where
    by : (st : State) → BeginsItem st → AreFaultlessFrom (at_close (record s { state = st })) kinds → AreFaultlessFrom (record s { state = st }) (token.Close ∷ kinds)
    by state.Item begins good = next (λ start end. ap (option_map fault.UnknownLabel) known) (λ start end. good)
    by state.Calc2 begins good = next (λ start end. ap (option_map fault.UnknownLabel) known) (λ start end. good)
    by state.Send4 begins good = next (λ start end. ap (option_map fault.UnknownLabel) known) (λ start end. good)
    by state.Recv4 begins good = next (λ start end. ap (option_map fault.UnknownLabel) known) (λ start end. good)
    by _ begins good = absurd begins

no_label_outside_if_all_pass : (test : List ℕ → Bool) (us : List Mention) → AllByRecursion (λ (l : List ℕ). test l ≡ true) (labels_in us) → first_outside test us ≡ None
unfolding first_outside
no_label_outside_if_all_pass test [] all = refl
no_label_outside_if_all_pass test (u ∷ us) all = ap (λ (b : Bool). if b then first_outside test us else Some u.at) all.0 ∙ no_label_outside_if_all_pass test us all.1

-- no block is open
record IsTop (s : Seen) : Type 0 where
  top : s.state ≡ state.Top
  no_ops : s.ops ≡ []
  no_names : s.defined ≡ []
  no_uses : s.used ≡ []

-- the start of a block
abbrev at_open : Seen → ℕ → Seen
at_open s rank = record s { state = state.Item; blocks = s.blocks ++ rank ∷ []; rank = rank }

open_passes : (s : Seen) (rank : ℕ) (kinds : List TokenKind) → s.state ≡ state.Top → rank < s.ranks → rank < 2 ^ 32
    → list_any (nat_eq rank) s.blocks ≡ false → AreFaultlessFrom (at_open s rank) kinds
    → AreFaultlessFrom s (token.Rank ∷ token.Number rank ∷ token.Open ∷ kinds)
unfolding step fault_in
open_passes s rank kinds top below fits fresh good =
    subst (λ (st : State). AreFaultlessFrom (record s { state = st }) (token.Rank ∷ token.Number rank ∷ token.Open ∷ kinds)) (sym top) (
    next (λ a b. refl) (λ a b.
    next (λ a b. passes_rank rank s.ranks s.blocks a below fits fresh) (λ a b.
    next (λ a b. refl) (λ a b. good))))

-- what is given after a block
record IsAfterBlock (s t : Seen) (b : Block) : Type 0 where
  top : IsTop t
  ranks : t.ranks ≡ s.ranks
  blocks : t.blocks ≡ s.blocks ++ b.rank ∷ []
  op_count : t.counts.ops ≡ s.counts.ops + op_total b.items
  dep_count : t.counts.deps ≡ s.counts.deps + dep_total b.items
  note_count : t.counts.notes ≡ s.counts.notes + note_total b.items

module _ (s : Seen) (b : Block) (is_top : IsTop s) (rules : KeepsRules b)
    (ops : s.counts.ops + op_total b.items ≤ MAX_OPS) (deps : s.counts.deps + dep_total b.items ≤ MAX_DEPS) (notes : s.counts.notes + note_total b.items ≤ MAX_NOTES) where
  opened_ops : length (ops_now (at_open s b.rank)) ≡ 0
  unfolding ends_action
  opened_ops = ap length is_top.no_ops

  opened_names : s.defined ++ definitions (length (ops_now (at_open s b.rank))) b.items ≡ definitions 0 b.items
  opened_names =
      ap (λ (ds : List Definition). ds ++ definitions (length (ops_now (at_open s b.rank))) b.items) is_top.no_names
      ∙ ap (λ (n : ℕ). definitions n b.items) opened_ops

  opened_fits : FitAll (at_open s b.rank) b.items
  opened_fits = record {
    begins = tt;
    once = λ label. subst (λ (ds : List Definition). count_by (λ (d : Definition). bytes_eq label d.label) ds ≤ 1) (sym opened_names) (rules.once label);
    ops = ops;
    deps = deps;
    notes = notes;
  }

  block_known : (t : Seen) → IsAfterItems (at_open s b.rank) t b.items → first_unknown t.defined t.used ≡ None
  block_known t behind =
      let names : t.defined ≡ definitions 0 b.items = behind.defined ∙ opened_names in
      let uses : labels_in t.used ≡ flat_map used_by b.items = behind.used ∙ ap (λ (us : List Mention). labels_in us ++ flat_map used_by b.items) is_top.no_uses in
      no_label_outside_if_all_pass (is_defined t.defined) t.used
      (subst (λ (ls : List (List ℕ)). AllByRecursion (λ (l : List ℕ). is_defined t.defined l ≡ true) ls) (sym uses)
      (subst (λ (ds : List Definition). AllByRecursion (λ (l : List ℕ). is_defined ds l ≡ true) (flat_map used_by b.items)) (sym names)
      (recursion_from_All (λ (l : List ℕ). is_defined (definitions 0 b.items) l ≡ true) (flat_map used_by b.items) rules.defined)))

  block_passes : (kinds : List TokenKind) → b.rank < s.ranks → b.rank < 2 ^ 32 → list_any (nat_eq b.rank) s.blocks ≡ false → All IsItemWithin b.items
      → ((t : Seen) → IsAfterBlock s t b → AreFaultlessFrom t kinds) → AreFaultlessFrom s (block_tokens b ++ kinds)
  block_passes kinds below fits fresh within good =
      subst (λ (ks : List TokenKind). AreFaultlessFrom s (token.Rank ∷ token.Number b.rank ∷ token.Open ∷ ks)) (sym (append_assoc (flat_map item_tokens b.items) (token.Close ∷ []) kinds))
      (open_passes s b.rank (flat_map item_tokens b.items ++ token.Close ∷ kinds) is_top.top below fits fresh
      (items_pass b.items (at_open s b.rank) (token.Close ∷ kinds) opened_fits (recursion_from_All IsItemWithin b.items within) (recursion_from_All HasOptionsOnce b.items rules.options) (λ t behind.
      close_passes t kinds behind.begins (block_known t behind) (good (at_close t) (record {
        top = record { top = refl; no_ops = refl; no_names = refl; no_uses = refl };
        ranks = behind.ranks;
        blocks = behind.blocks;
        op_count = behind.op_count;
        dep_count = behind.dep_count;
        note_count = behind.note_count;
      })))))

-- the numbers of a block's dependencies and notes do not depend on how labels are defined
dep_length : (ds : List Definition) (items : List Item) → length (flat_map (dep_said ds) items) ≡ dep_total items
dep_length ds [] = refl
dep_length ds (item ∷ items) =
    omega (arith, length-append (dep_said ds item) (flat_map (dep_said ds) items), length-append (dep_said [] item) (flat_map (dep_said []) items), dep_length ds items, one item)
  where
    one : (item : Item) → length (dep_said ds item) ≡ length (dep_said [] item)
    one (requires later earlier) = refl
    one (irequires later earlier) = refl
    one _ = refl

note_length : (ds : List Definition) (items : List Item) → length (flat_map (note_said ds) items) ≡ note_total items
note_length ds [] = refl
note_length ds (item ∷ items) =
    omega (arith, length-append (note_said ds item) (flat_map (note_said ds) items), length-append (note_said [] item) (flat_map (note_said []) items), note_length ds items, one item)
  where
    one : (item : Item) → length (note_said ds item) ≡ length (note_said [] item)
    one (moves label first last) = refl
    one (adds label from to) = refl
    one _ = refl

-- a rank that is none of these
uncounted_rank_is_absent : (rank : ℕ) (rs : List ℕ) → count_by (λ (r : ℕ). rank == r) rs ≡ 0 → list_any (nat_eq rank) rs ≡ false
uncounted_rank_is_absent rank [] none = refl
uncounted_rank_is_absent rank (r ∷ rs) none =
    none_first (nat_eq rank r) (sym (count-cons (λ (q : ℕ). rank == q) r rs) ∙ none) (uncounted_rank_is_absent rank rs)
  where
    none_first : (b : Bool) → cond b 1 0 + count_by (λ (q : ℕ). rank == q) rs ≡ 0 → (count_by (λ (q : ℕ). rank == q) rs ≡ 0 → list_any (nat_eq rank) rs ≡ false) → b || list_any (nat_eq rank) rs ≡ false
    none_first true h rest = absurd (omega (arith, h))
    none_first false h rest = rest (omega (arith, h))

-- blocks, after those of the ranks that were given
record FitBlocks (s : Seen) (ranks : ℕ) (bs : List Block) : Type 0 where
  top : IsTop s
  ranks_are : s.ranks ≡ ranks
  few : ranks ≤ MAX_RANKS
  once : (rank : ℕ) → count_by (λ (r : ℕ). rank == r) s.blocks + count_by (λ (b : Block). rank == b.rank) bs ≤ 1
  ops : s.counts.ops + ops_in bs ≤ MAX_OPS
  deps : s.counts.deps + deps_in bs ≤ MAX_DEPS
  notes : s.counts.notes + notes_in bs ≤ MAX_NOTES

module _ (b : Block) (bs : List Block) where
  ops_in_cons : ops_in (b ∷ bs) ≡ op_total b.items + ops_in bs
  ops_in_cons = sum_by-cons (λ (c : Block). length (plan_said c.items).ops) b bs

  deps_in_cons : deps_in (b ∷ bs) ≡ dep_total b.items + deps_in bs
  deps_in_cons = sum_by-cons (λ (c : Block). length (plan_said c.items).deps) b bs ∙ ap (λ (n : ℕ). n + deps_in bs) (dep_length (definitions 0 b.items) b.items)

  notes_in_cons : notes_in (b ∷ bs) ≡ note_total b.items + notes_in bs
  notes_in_cons = sum_by-cons (λ (c : Block). length (plan_said c.items).notes) b bs ∙ ap (λ (n : ℕ). n + notes_in bs) (note_length (definitions 0 b.items) b.items)

  module _ (s : Seen) (ranks : ℕ) (fits : FitBlocks s ranks (b ∷ bs)) where
    rank_new : list_any (nat_eq b.rank) s.blocks ≡ false
    rank_new =
        let here = count-cons (λ (c : Block). b.rank == c.rank) b bs in
        let same : ◌≡◌ {A = ℕ} (cond (b.rank == b.rank) 1 0) 1 = ap (λ (x : Bool). cond x 1 0) (eq-eqb b.rank b.rank refl) in
        uncounted_rank_is_absent b.rank s.blocks (omega (arith, here, same, fits.once b.rank))

    blocks_behind : (t : Seen) → IsAfterBlock s t b → FitBlocks t ranks bs
    blocks_behind t behind = record {
      top = behind.top;
      ranks_are = behind.ranks ∙ fits.ranks_are;
      few = fits.few;
      once = λ rank.
          let now : count_by (λ (r : ℕ). rank == r) t.blocks ≡ count_by (λ (r : ℕ). rank == r) s.blocks + count_by (λ (r : ℕ). rank == r) (b.rank ∷ []) =
          ap (count_by (λ (r : ℕ). rank == r)) behind.blocks ∙ count-append (λ (r : ℕ). rank == r) s.blocks (b.rank ∷ []) in
          let one = count-cons (λ (r : ℕ). rank == r) b.rank [] in
          let here = count-cons (λ (c : Block). rank == c.rank) b bs in
          omega (arith, now, one, here, fits.once rank);
      ops = let most = fits.ops in let more = behind.op_count in omega (arith, ops_in_cons);
      deps = let most = fits.deps in let more = behind.dep_count in omega (arith, deps_in_cons);
      notes = let most = fits.notes in let more = behind.note_count in omega (arith, notes_in_cons);
    }

blocks_pass : (bs : List Block) (s : Seen) (ranks : ℕ) → FitBlocks s ranks bs → AllByRecursion (λ (b : Block). b.rank < ranks) bs → AllByRecursion KeepsRules bs
    → AllByRecursion (λ (b : Block). All IsItemWithin b.items) bs → AreFaultlessFrom s (flat_map block_tokens bs)
blocks_pass [] s ranks fits below rules within = ends fits.top.top
blocks_pass (b ∷ bs) s ranks fits below rules within =
    let low = below.0 in
    let few = fits.few in
    block_passes s b fits.top rules.0
    (let most = fits.ops in omega (arith, ops_in_cons b bs)) (let most = fits.deps in omega (arith, deps_in_cons b bs)) (let most = fits.notes in omega (arith, notes_in_cons b bs))
    (flat_map block_tokens bs) (omega (arith, low, fits.ranks_are)) (omega (arith, low, few)) (rank_new b bs s ranks fits) within.0 (λ t behind.
    blocks_pass bs t ranks (blocks_behind b bs s ranks fits t behind) below.1 rules.1 within.1)

-- the whole text
pub text_passes : (w : Written) → AreRight w → AreWithin w → AreFaultlessFrom (seen_of []) (text_tokens w)
unfolding step fault_in state_of draft_of ranks_of blocks_of rank_of head_of ops_of defined_of deps_of notes_of used_of counts_of plans_of
text_passes w right within =
    next (λ a b. refl) (λ a b.
    next (λ a b. passes_number 1 w.ranks MAX_RANKS (fault.Number a) within.some_rank within.ranks) (λ c d.
    let first : Seen = step (record { kind = token.NumRanks; start = a; end = b }) (seen_of []) in
    let second : Seen = step (record { kind = token.Number w.ranks; start = c; end = d }) first in
    blocks_pass w.blocks second w.ranks
    (record {
      top = record { top = refl; no_ops = refl; no_names = refl; no_uses = refl };
      ranks_are = refl;
      few = within.ranks;
      once = λ rank. let one = right.once rank in omega (arith, one);
      ops = let few = within.ops in omega arith;
      deps = let few = within.deps in omega arith;
      notes = let few = within.notes in omega arith;
    })
    (recursion_from_All (λ (b : Block). b.rank < w.ranks) w.blocks right.ranks) (recursion_from_All KeepsRules w.blocks right.blocks)
    (recursion_from_All (λ (b : Block). All IsItemWithin b.items) w.blocks within.items)))
