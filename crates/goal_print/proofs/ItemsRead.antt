-- The items of a block, read one by one.
use Rattle.std.proofs.Common.{◌≡◌, ℕ, ◌+◌, ◌^◌, ◌<◌, ◌≤◌, true, false, List, [], ◌∷◌, ◌++◌, length, Option, Some, None, nat_le, refl, sym, subst}
use Rattle.goal_lexer.specs.declared.tokens.TokenKind.{TokenKind}
use Rattle.goal_lexer.specs.declared.tokens.TokenKind.TheVariants as token
use Rattle.goal_limits.specs.declared.limits.TheConstants.{MAX_OPS, MAX_DEPS, MAX_NOTES, MAX_BYTES, MAX_NANOS}
use Rattle.goal_graph.specs.Schedule.{Plan}
use Rattle.goal_graph.specs.declared.plan.Kind.TheVariants.{Calc, Send, Recv}
use Rattle.goal_graph.specs.declared.plan.When.{When}
use Rattle.goal_graph.specs.declared.plan.When.TheVariants.{AfterEnd, AfterStart}
use Rattle.goal_parser.specs.declared.faults.TextFault.TheVariants as fault
use Rattle.goal_parser.specs.declared.sentence.State.{State}
use Rattle.goal_parser.specs.declared.sentence.State.TheVariants as state
use Rattle.goal_parser.specs.declared.draft.Draft.{Draft}
use Rattle.goal_parser.specs.declared.draft.Action.TheVariants as action
use Rattle.goal_parser.specs.declared.draft.OptionWord.{OptionWord}
use Rattle.goal_parser.specs.declared.draft.OptionWord.TheVariants as option
use Rattle.goal_parser.specs.declared.head.Verb.{Verb}
use Rattle.goal_parser.specs.declared.head.Verb.TheVariants as verb
use Rattle.goal_parser.specs.Actions.{begun}
use Rattle.goal_parser.specs.Items.{is_defined}
use Rattle.goal_print.proofs.Fits.{WildFits}
use Rattle.goal_print.proofs.TextKinds.{wild_kind, verb_kind, action_kinds}
use Rattle.goal_print.proofs.Seen.{Seen, ops_now, step, fault_in, Good, next, passes_upto, passes_u32, BeginsItem, label_read, passes_if_false, limit_not_reached}

-- the verb of a dependency
abbrev pub verb_of : When → Verb
verb_of AfterEnd = verb.Requires
verb_of AfterStart = verb.Irequires

-- the words after an operation
abbrev pub after_op : Seen → List ℕ → ℕ → State → Draft → Seen
after_op s label at st draft = record s {
  state = st;
  draft = draft;
  ops = ops_now s;
  head = record s.head { subject = Some (record { label = label; at = at }) };
  defined = s.defined ++ record { label = label; op = length (ops_now s) } ∷ [];
  counts = record s.counts { ops = s.counts.ops + 1 };
}

-- the drafts of complete actions
abbrev pub calc_draft : Draft → ℕ → ℕ → Draft
calc_draft old nanos cpu = record (begun action.Calc old.option) { size = nanos; cpu = cpu; has_cpu = true; option = option.Cpu }

abbrev pub send_draft : ℕ → ℕ → ℕ → ℕ → ℕ → Draft
send_draft bytes to tag cpu nic = record {
  action = action.Send;
  size = bytes;
  peer = Some to;
  tag = Some tag;
  cpu = cpu;
  nic = nic;
  has_tag = true;
  has_cpu = true;
  has_nic = true;
  option = option.Nic;
}

abbrev pub recv_draft : ℕ → Option ℕ → Option ℕ → ℕ → ℕ → Draft
recv_draft bytes from tag cpu nic = record {
  action = action.Recv;
  size = bytes;
  peer = from;
  tag = tag;
  cpu = cpu;
  nic = nic;
  has_tag = true;
  has_cpu = true;
  has_nic = true;
  option = option.Nic;
}

-- the source of a receive, and its tag

pub source_read : (s : Seen) (from : Option ℕ) (kinds : List TokenKind) (plans : List Plan) → s.state ≡ state.Recv3 → WildFits from
    → Good (record s { state = state.Recv4; draft = record s.draft { peer = from } }) kinds plans → Good s (wild_kind from ∷ kinds) plans
unfolding step fault_in
source_read s from kinds plans is fits good =
    subst (λ (st : State). Good (record s { state = st }) (wild_kind from ∷ kinds) plans) (sym is) (by from fits good)
  where
    by : (from : Option ℕ) → WildFits from → Good (record s { state = state.Recv4; draft = record s.draft { peer = from } }) kinds plans
        → Good (record s { state = state.Recv3 }) (wild_kind from ∷ kinds) plans
    by None fits good = next (λ a b. refl) (λ a b. good)
    by (Some n) fits good = next (λ a b. passes_u32 n (fault.Number a) fits) (λ a b. good)

pub tag_read : (s : Seen) (tag : Option ℕ) (kinds : List TokenKind) (plans : List Plan)
    → s.state ≡ state.Recv5 → s.draft.option ≡ option.Tag → WildFits tag
    → Good (record s { state = state.Recv4; draft = record s.draft { tag = tag } }) kinds plans → Good s (wild_kind tag ∷ kinds) plans
unfolding step fault_in
tag_read s tag kinds plans is word fits good =
    let at_tag : OptionWord → Seen = λ o. record s { state = state.Recv5; draft = record s.draft { option = o } } in
    let behind : OptionWord → Seen = λ o. record s { state = state.Recv4; draft = record s.draft { tag = tag; option = o } } in
    subst (λ (st : State). Good (record s { state = st }) (wild_kind tag ∷ kinds) plans) (sym is)
    (subst (λ (o : OptionWord). Good (at_tag o) (wild_kind tag ∷ kinds) plans) (sym word)
    (by tag fits (subst (λ (o : OptionWord). Good (behind o) kinds plans) word good)))
  where
    by : (tag : Option ℕ) → WildFits tag
        → Good (record s { state = state.Recv4; draft = record s.draft { tag = tag; option = option.Tag } }) kinds plans
        → Good (record s { state = state.Recv5; draft = record s.draft { option = option.Tag } }) (wild_kind tag ∷ kinds) plans
    by None fits good = next (λ a b. refl) (λ a b. good)
    by (Some n) fits good = next (λ a b. passes_u32 n (fault.Number a) fits) (λ a b. good)

-- an operation, if its label is new and there is room for it
module _ (s : Seen) (label : List ℕ) (kinds : List TokenKind) (plans : List Plan) (begins : BeginsItem s.state)
    (new : is_defined s.defined label ≡ false) (few : s.counts.ops < MAX_OPS) where
  pub calc_read : (nanos cpu nic : ℕ) → nanos ≤ MAX_NANOS → cpu ≤ 255
      → ((at : ℕ) → Good (after_op s label at state.Calc2 (calc_draft s.draft nanos cpu)) kinds plans)
      → Good s (token.Label label ∷ token.Colon ∷ action_kinds (Calc nanos) cpu nic kinds) plans
  unfolding step fault_in
  calc_read nanos cpu nic nanos_fit cpu_fits good =
      label_read s label (token.Colon ∷ action_kinds (Calc nanos) cpu nic kinds) plans begins (λ at.
      next (λ a b. passes_if_false (is_defined s.defined label) (fault.Repeat at) new) (λ a b.
      next (λ a b. passes_if_false (nat_le MAX_OPS s.counts.ops) (fault.TooMany a) (limit_not_reached MAX_OPS s.counts.ops few)) (λ a b.
      next (λ a b. passes_upto nanos MAX_NANOS (fault.Number a) nanos_fit) (λ a b.
      next (λ a b. refl) (λ a b.
      next (λ a b. passes_upto cpu 255 (fault.Number a) cpu_fits) (λ a b. good at))))))

  pub send_read : (bytes to tag cpu nic : ℕ) → bytes ≤ MAX_BYTES → to < 2 ^ 32 → tag < 2 ^ 32 → cpu ≤ 255 → nic ≤ 255
      → ((at : ℕ) → Good (after_op s label at state.Send4 (send_draft bytes to tag cpu nic)) kinds plans)
      → Good s (token.Label label ∷ token.Colon ∷ action_kinds (Send bytes to tag) cpu nic kinds) plans
  unfolding step fault_in
  send_read bytes to tag cpu nic bytes_fit to_fits tag_fits cpu_fits nic_fits good =
      label_read s label (token.Colon ∷ action_kinds (Send bytes to tag) cpu nic kinds) plans begins (λ at.
      next (λ a b. passes_if_false (is_defined s.defined label) (fault.Repeat at) new) (λ a b.
      next (λ a b. passes_if_false (nat_le MAX_OPS s.counts.ops) (fault.TooMany a) (limit_not_reached MAX_OPS s.counts.ops few)) (λ a b.
      next (λ a b. passes_upto bytes MAX_BYTES (fault.Number a) bytes_fit) (λ a b.
      next (λ a b. refl) (λ a b.
      next (λ a b. passes_u32 to (fault.Number a) to_fits) (λ a b.
      next (λ a b. refl) (λ a b.
      next (λ a b. passes_u32 tag (fault.Number a) tag_fits) (λ a b.
      next (λ a b. refl) (λ a b.
      next (λ a b. passes_upto cpu 255 (fault.Number a) cpu_fits) (λ a b.
      next (λ a b. refl) (λ a b.
      next (λ a b. passes_upto nic 255 (fault.Number a) nic_fits) (λ a b. good at))))))))))))

  pub recv_read : (bytes : ℕ) (from tag : Option ℕ) (cpu nic : ℕ) → bytes ≤ MAX_BYTES → WildFits from → WildFits tag → cpu ≤ 255 → nic ≤ 255
      → ((at : ℕ) → Good (after_op s label at state.Recv4 (recv_draft bytes from tag cpu nic)) kinds plans)
      → Good s (token.Label label ∷ token.Colon ∷ action_kinds (Recv bytes from tag) cpu nic kinds) plans
  unfolding step fault_in
  recv_read bytes from tag cpu nic bytes_fit from_fits tag_fits cpu_fits nic_fits good =
      let begun_draft : Draft = begun action.Recv s.draft.option in
      let tail : List TokenKind = token.Cpu ∷ token.Number cpu ∷ token.Nic ∷ token.Number nic ∷ kinds in
      label_read s label (token.Colon ∷ action_kinds (Recv bytes from tag) cpu nic kinds) plans begins (λ at.
      next (λ a b. passes_if_false (is_defined s.defined label) (fault.Repeat at) new) (λ a b.
      next (λ a b. passes_if_false (nat_le MAX_OPS s.counts.ops) (fault.TooMany a) (limit_not_reached MAX_OPS s.counts.ops few)) (λ a b.
      next (λ a b. passes_upto bytes MAX_BYTES (fault.Number a) bytes_fit) (λ a b.
      next (λ a b. refl) (λ a b.
      source_read (after_op s label at state.Recv3 (record begun_draft { size = bytes })) from (token.Tag ∷ wild_kind tag ∷ tail) plans refl from_fits (
      next (λ a b. refl) (λ a b.
      tag_read (after_op s label at state.Recv5 (record begun_draft { size = bytes; peer = from; has_tag = true; option = option.Tag })) tag tail plans refl refl tag_fits (
      next (λ a b. refl) (λ a b.
      next (λ a b. passes_upto cpu 255 (fault.Number a) cpu_fits) (λ a b.
      next (λ a b. refl) (λ a b.
      next (λ a b. passes_upto nic 255 (fault.Number a) nic_fits) (λ a b. good at))))))))))))

-- the words after a dependency
abbrev pub after_dep : Seen → List ℕ → List ℕ → ℕ → ℕ → When → Seen
after_dep s later earlier at there when = record s {
  state = state.Item;
  ops = ops_now s;
  head = record s.head { subject = Some (record { label = later; at = at }); verb = verb_of when };
  deps = s.deps ++ record { later = later; earlier = earlier; when = when } ∷ [];
  used = (s.used ++ record { label = later; at = at } ∷ []) ++ record { label = earlier; at = there } ∷ [];
  counts = record s.counts { deps = s.counts.deps + 1 };
}

-- the words after a note
abbrev pub after_note : Seen → List ℕ → ℕ → Verb → ℕ → ℕ → Seen
after_note s subject at verb first second = record s {
  state = state.Item;
  ops = ops_now s;
  head = record s.head { subject = Some (record { label = subject; at = at }); verb = verb; low = first };
  notes = s.notes ++ record { subject = subject; verb = verb; first = first; second = second } ∷ [];
  used = s.used ++ record { label = subject; at = at } ∷ [];
  counts = record s.counts { notes = s.counts.notes + 1 };
}

-- a dependency and a note, if there is room for them
module _ (s : Seen) (kinds : List TokenKind) (plans : List Plan) (begins : BeginsItem s.state) where
  pub dep_read : (later earlier : List ℕ) (when : When) → s.counts.deps < MAX_DEPS
      → ((at there : ℕ) → Good (after_dep s later earlier at there when) kinds plans)
      → Good s (token.Label later ∷ verb_kind when ∷ token.Label earlier ∷ kinds) plans
  unfolding step fault_in
  dep_read later earlier AfterEnd few good =
      label_read s later (token.Requires ∷ token.Label earlier ∷ kinds) plans begins (λ at.
      next (λ a b. passes_if_false (nat_le MAX_DEPS s.counts.deps) (fault.TooMany a) (limit_not_reached MAX_DEPS s.counts.deps few)) (λ a b.
      next (λ a b. refl) (λ a b. good at a)))
  dep_read later earlier AfterStart few good =
      label_read s later (token.Irequires ∷ token.Label earlier ∷ kinds) plans begins (λ at.
      next (λ a b. passes_if_false (nat_le MAX_DEPS s.counts.deps) (fault.TooMany a) (limit_not_reached MAX_DEPS s.counts.deps few)) (λ a b.
      next (λ a b. refl) (λ a b. good at a)))

  pub moves_read : (subject : List ℕ) (lo hi : ℕ) → s.counts.notes < MAX_NOTES → lo < 2 ^ 32 → hi < 2 ^ 32
      → ((at : ℕ) → Good (after_note s subject at verb.Moves lo hi) kinds plans)
      → Good s (token.Label subject ∷ token.Moves ∷ token.Number lo ∷ token.To ∷ token.Number hi ∷ kinds) plans
  unfolding step fault_in
  moves_read subject lo hi few lo_fits hi_fits good =
      label_read s subject (token.Moves ∷ token.Number lo ∷ token.To ∷ token.Number hi ∷ kinds) plans begins (λ at.
      next (λ a b. passes_if_false (nat_le MAX_NOTES s.counts.notes) (fault.TooMany a) (limit_not_reached MAX_NOTES s.counts.notes few)) (λ a b.
      next (λ a b. passes_u32 lo (fault.Number a) lo_fits) (λ a b.
      next (λ a b. refl) (λ a b.
      next (λ a b. passes_u32 hi (fault.Number a) hi_fits) (λ a b. good at)))))

  pub adds_read : (subject : List ℕ) (from to : ℕ) → s.counts.notes < MAX_NOTES → from < 2 ^ 32 → to < 2 ^ 32
      → ((at : ℕ) → Good (after_note s subject at verb.Adds from to) kinds plans)
      → Good s (token.Label subject ∷ token.Adds ∷ token.Number from ∷ token.To ∷ token.Number to ∷ kinds) plans
  unfolding step fault_in
  adds_read subject from to few from_fits to_fits good =
      label_read s subject (token.Adds ∷ token.Number from ∷ token.To ∷ token.Number to ∷ kinds) plans begins (λ at.
      next (λ a b. passes_if_false (nat_le MAX_NOTES s.counts.notes) (fault.TooMany a) (limit_not_reached MAX_NOTES s.counts.notes few)) (λ a b.
      next (λ a b. passes_u32 from (fault.Number a) from_fits) (λ a b.
      next (λ a b. refl) (λ a b.
      next (λ a b. passes_u32 to (fault.Number a) to_fits) (λ a b. good at)))))
