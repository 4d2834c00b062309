-- What a token gives and which tests it can fail, by its kind.
use Rattle.std.proofs.Common.{◌≡◌, ◌∙◌, ℕ, Bool, true, false, not, List, [], ◌∷◌, Option, Some, None, length, map, refl, sym, ap, subst, unwrap_or, slice_set, replicate, nat_eq, ◌++◌}
use Rattle.std.specs.List.{list_any}
use Rattle.std.specs.Option.{option_or, option_map}
use Rattle.std.specs.Prelude.{⊤, is_none, if◌then◌else◌, Result, Ok, Err, OnOk, IfErr}
use Rattle.goal_lexer.specs.declared.tokens.Token.{Token}
use Rattle.goal_lexer.specs.declared.tokens.TokenKind.{TokenKind}
use Rattle.goal_lexer.specs.declared.tokens.TokenKind.TheVariants as token
use Rattle.goal_graph.specs.declared.plan.Op.{Op}
use Rattle.goal_graph.specs.Schedule.{Plan}
use Rattle.goal_parser.specs.declared.faults.TextFault.{TextFault}
use Rattle.goal_parser.specs.declared.faults.TextFault.TheVariants.{Syntax, Number, Repeat, TooMany, UnknownLabel}
use Rattle.goal_parser.specs.declared.token_faults.TokenFault.{TokenFault}
use Rattle.goal_parser.specs.declared.token_faults.TokenFault.TheVariants as refused
use Rattle.goal_parser.specs.declared.sentence.State.{State}
use Rattle.goal_parser.specs.declared.sentence.State.TheVariants as state
use Rattle.goal_parser.specs.declared.counts.Counts.{Counts}
use Rattle.goal_parser.specs.declared.draft.Draft.{Draft}
use Rattle.goal_parser.specs.declared.draft.OptionWord.{OptionWord}
use Rattle.goal_parser.specs.declared.head.Mention.{Mention}
use Rattle.goal_parser.specs.declared.head.ItemHead.{ItemHead}
use Rattle.goal_parser.specs.declared.names.Names.{Names}
use Rattle.goal_parser.specs.declared.parser.Parser.{Parser}
use Rattle.goal_parser.specs.Sentence.{entry, state_of}
use Rattle.goal_parser.specs.Numbers.{number_within, is_within}
use Rattle.goal_parser.specs.Ranks.{ranks_with, rank_with, blocks_with, ranks_of, rank_of, blocks_of}
use Rattle.goal_parser.specs.Grammar.{IsNewRank}
use Rattle.goal_parser.specs.Counts.{counts_with, counts_of, is_too_many}
use Rattle.goal_parser.specs.Actions.{draft_with, draft_of, op_of, has_option}
use Rattle.goal_parser.specs.Items.{Definition, NamedDep, NamedNote, define, begins_item, ends_action, ended_ops, head_with, verb_head, low_head, ops_with, defined_with, used_with, deps_with, notes_with, note_uses, note_ended, dep_uses, dep_ended, dep_by, note_by, first_unknown, head_of, ops_of, defined_of, used_of, deps_of, notes_of}
use Rattle.goal_parser.specs.Plans.{empty_plan, plans_with, plans_of}
use Rattle.goal_parser.specs.Faults.{fault_if, fault_by, token_fault, syntax_fault, number_fault, rank_fault, rank_fault_of, numbered_rank_fault, option_fault, defined_fault, label_fault, count_fault, unknown_fault}
use Rattle.goal_parser.specs.FaultInText.{fault_in_text}
use Rattle.goal_parser.specs.Slots.{NamesHold}
use Rattle.goal_parser.specs.Taken.{KeepsHead, HasTaken, Takes, Refuses, IsAction, IsOption, IsVerb, IsPlain}
use Rattle.goal_parser.proofs.SlotLaws.{option_or-none}
use Rattle.goal_parser.proofs.ParserLaws.{fault_by_parser_is_token_fault, rank_passes, KeepsHead-next, defined_kept, used_kept, deps_kept, notes_kept}

-- The tests that follow the test of the sentence.

-- the first of them that a token fails
abbrev pub rest_fault : Parser → List Token → Token → Option TextFault
rest_fault p before t =
    option_or (number_fault p.state p.draft.option t)
    (option_or (rank_fault p.state p.ranks.count p.ranks.blocks.keys t)
    (option_or (option_fault p.draft t)
    (option_or (label_fault (defined_of before) p.head.subject t)
    (option_or (count_fault p.counts t)
    (unknown_fault (defined_of before) (used_of before) t)))))

module _ (p : Parser) (before : List Token) where
  abbrev at_kind : Token → TokenKind → Token
  at_kind t k = record { kind = k; start = t.start; end = t.end }

  pub rest_fault_of_number : (t : Token) (n : ℕ) → t.kind ≡ token.Number n
      → rest_fault p before t ≡ option_or (fault_if (not (number_within p.state p.draft.option n)) (Number t.start)) (numbered_rank_fault p.state p.ranks.count p.ranks.blocks.keys n t.start)
  unfolding number_fault option_fault label_fault count_fault unknown_fault is_within is_too_many rank_fault
  rest_fault_of_number t n is = subst (λ (k : TokenKind). rest_fault p before (at_kind t k)
      ≡ option_or (fault_if (not (number_within p.state p.draft.option n)) (Number t.start)) (numbered_rank_fault p.state p.ranks.count p.ranks.blocks.keys n t.start)) (sym is)
      (ap (option_or (fault_if (not (number_within p.state p.draft.option n)) (Number t.start)))
      (option_or-none (numbered_rank_fault p.state p.ranks.count p.ranks.blocks.keys n t.start)))

  pub rest_fault_of_size : (t : Token) (n : ℕ) → t.kind ≡ token.Size n → rest_fault p before t ≡ fault_if (not (number_within p.state p.draft.option n)) (Number t.start)
  unfolding number_fault option_fault label_fault count_fault unknown_fault is_within is_too_many rank_fault
  rest_fault_of_size t n is = subst (λ (k : TokenKind). rest_fault p before (at_kind t k)
      ≡ fault_if (not (number_within p.state p.draft.option n)) (Number t.start)) (sym is)
      (option_or-none (fault_if (not (number_within p.state p.draft.option n)) (Number t.start)))

  pub rest_fault_of_option : (t : Token) → IsOption t.kind → rest_fault p before t ≡ fault_if (has_option t.kind p.draft) (Repeat t.start)
  unfolding number_fault option_fault label_fault count_fault unknown_fault is_within is_too_many rank_fault
  rest_fault_of_option t is = by t.kind is
    where
      by : (k : TokenKind) → IsOption k → rest_fault p before (at_kind t k) ≡ fault_if (has_option k p.draft) (Repeat t.start)
      by token.Tag h = option_or-none (fault_if p.draft.has_tag (Repeat t.start))
      by token.Cpu h = option_or-none (fault_if p.draft.has_cpu (Repeat t.start))
      by token.Nic h = option_or-none (fault_if p.draft.has_nic (Repeat t.start))
      by _ h = absurd h

  pub rest_fault_of_action : (t : Token) → IsAction t.kind → rest_fault p before t ≡ fault_if (is_too_many t.kind p.counts) (TooMany t.start)
  unfolding number_fault option_fault label_fault count_fault unknown_fault is_within rank_fault
  rest_fault_of_action t is = by t.kind is
    where
      by : (k : TokenKind) → IsAction k → rest_fault p before (at_kind t k) ≡ fault_if (is_too_many k p.counts) (TooMany t.start)
      by token.Calc h = option_or-none (fault_if (is_too_many token.Calc p.counts) (TooMany t.start))
      by token.Send h = option_or-none (fault_if (is_too_many token.Send p.counts) (TooMany t.start))
      by token.Recv h = option_or-none (fault_if (is_too_many token.Recv p.counts) (TooMany t.start))
      by _ h = absurd h

  pub rest_fault_of_verb : (t : Token) → IsVerb t.kind → rest_fault p before t ≡ fault_if (is_too_many t.kind p.counts) (TooMany t.start)
  unfolding number_fault option_fault label_fault count_fault unknown_fault is_within rank_fault
  rest_fault_of_verb t is = by t.kind is
    where
      by : (k : TokenKind) → IsVerb k → rest_fault p before (at_kind t k) ≡ fault_if (is_too_many k p.counts) (TooMany t.start)
      by token.Requires h = option_or-none (fault_if (is_too_many token.Requires p.counts) (TooMany t.start))
      by token.Irequires h = option_or-none (fault_if (is_too_many token.Irequires p.counts) (TooMany t.start))
      by token.Moves h = option_or-none (fault_if (is_too_many token.Moves p.counts) (TooMany t.start))
      by token.Adds h = option_or-none (fault_if (is_too_many token.Adds p.counts) (TooMany t.start))
      by _ h = absurd h

  pub rest_fault_of_colon : (t : Token) → t.kind ≡ token.Colon → rest_fault p before t ≡ defined_fault (defined_of before) p.head.subject
  unfolding number_fault option_fault label_fault count_fault unknown_fault is_within is_too_many rank_fault
  rest_fault_of_colon t is = subst (λ (k : TokenKind). rest_fault p before (at_kind t k) ≡ defined_fault (defined_of before) p.head.subject) (sym is)
      (option_or-none (defined_fault (defined_of before) p.head.subject))

  pub rest_fault_of_close : (t : Token) → t.kind ≡ token.Close → rest_fault p before t ≡ option_map UnknownLabel (first_unknown (defined_of before) (used_of before))
  unfolding number_fault option_fault label_fault count_fault unknown_fault is_within is_too_many rank_fault
  rest_fault_of_close t is = subst (λ (k : TokenKind). rest_fault p before (at_kind t k) ≡ option_map UnknownLabel (first_unknown (defined_of before) (used_of before))) (sym is) refl

  pub rest_fault_of_label : (t : Token) (label : List ℕ) → t.kind ≡ token.Label label → rest_fault p before t ≡ None
  unfolding number_fault option_fault label_fault count_fault unknown_fault is_within is_too_many rank_fault
  rest_fault_of_label t label is = subst (λ (k : TokenKind). rest_fault p before (at_kind t k) ≡ None) (sym is) refl

  pub rest_fault_of_any : (t : Token) → t.kind ≡ token.Any → rest_fault p before t ≡ None
  unfolding number_fault option_fault label_fault count_fault unknown_fault is_within is_too_many rank_fault
  rest_fault_of_any t is = subst (λ (k : TokenKind). rest_fault p before (at_kind t k) ≡ None) (sym is) refl

  pub rest_fault_of_plain : (t : Token) → IsPlain t.kind → rest_fault p before t ≡ None
  unfolding number_fault option_fault label_fault count_fault unknown_fault is_within is_too_many rank_fault
  rest_fault_of_plain t is = by t.kind is
    where
      by : (k : TokenKind) → IsPlain k → rest_fault p before (at_kind t k) ≡ None
      by token.NumRanks h = refl
      by token.Rank h = refl
      by token.To h = refl
      by token.From h = refl
      by token.Open h = refl
      by _ h = absurd h

  entered_token_fails_only_rest_tests : (t : Token) (next : State) → entry p.state t.kind ≡ Some next
      → fault_by p.state p.draft p.ranks.count p.ranks.blocks.keys (defined_of before) p.head.subject p.counts (used_of before) t ≡ rest_fault p before t
  unfolding fault_by syntax_fault
  entered_token_fails_only_rest_tests t next enters = ap (λ (o : Option State). option_or (fault_if (is_none o) (Syntax t.start)) (rest_fault p before t)) enters

-- the first test that a token fails, where the sentence may go on with it
pub rest_fault_is_token_fault : (p : Parser) (before : List Token) (t : Token) (next : State) (fault : Option TextFault) → HasTaken p before → entry p.state t.kind ≡ Some next → rest_fault p before t ≡ fault
    → token_fault before t ≡ fault
rest_fault_is_token_fault p before t next fault taken enters rest = sym (fault_by_parser_is_token_fault p before t fault taken (sym (entered_token_fails_only_rest_tests p before t next enters ∙ rest)))

pub refuses_entry : (p : Parser) (t : Token) → entry p.state t.kind ≡ None → Refuses p t (refused.Syntax t.start)
unfolding fault_by syntax_fault
refuses_entry p t none = λ before taken. sym (fault_by_parser_is_token_fault p before t (Some (Syntax t.start)) taken
    (sym (ap (λ (o : Option State). option_or (fault_if (is_none o) (Syntax t.start)) (rest_fault p before t)) none)))

pub rest_fault_refuses : (p : Parser) (t : Token) (next : State) (fault : TokenFault) → entry p.state t.kind ≡ Some next
    → ((before : List Token) → HasTaken p before → rest_fault p before t ≡ Some (fault_in_text fault)) → Refuses p t fault
rest_fault_refuses p t next fault enters rest = λ before taken. rest_fault_is_token_fault p before t next (Some (fault_in_text fault)) taken enters (rest before taken)

-- What a token gives.

-- the names of a block after a token of this kind
abbrev pub NamesGive : Names → Names → State → TokenKind → ℕ → ItemHead → ℕ → Type 0
NamesGive old new s k at head op = (ds : List Definition) (us : List Mention) (deps : List NamedDep) (notes : List NamedNote) → NamesHold old ds us deps notes
    → NamesHold new (defined_with k head.subject op ds) (used_with s k at head us) (deps_with s k head deps) (notes_with s k head notes)

abbrev pub PlansGive : Parser → Parser → State → TokenKind → Type 0
PlansGive old new s k = (ds : List Definition) (us : List Mention) (deps : List NamedDep) (notes : List NamedNote) → NamesHold old.block.names ds us deps notes
    → new.plans.items ≡ plans_with s k old.ranks.present
    (record { ops = ended_ops s token.Close (op_of old.draft) old.block.ops.items; deps = map (dep_by ds) deps; notes = map (note_by ds) notes }) old.plans.items

-- the parser keeps what a token of this kind gives in this state
pub record Gives (old new : Parser) (s : State) (k : TokenKind) (at : ℕ) : Type 0 where
  pub state : new.state ≡ unwrap_or (entry s k) s
  pub ranks : new.ranks.count ≡ ranks_with s k old.ranks.count
  pub rank : new.ranks.present ≡ rank_with s k old.ranks.present
  pub blocks : new.ranks.blocks.keys ≡ blocks_with s k old.ranks.blocks.keys
  pub counts : new.counts ≡ counts_with k old.counts
  pub draft : new.draft ≡ draft_with s k old.draft
  pub head : new.head ≡ head_with s k at old.head
  pub ops : new.block.ops.items ≡ ops_with s k (op_of old.draft) old.block.ops.items
  pub names : NamesGive old.block.names new.block.names s k at old.head (length old.block.ops.items)
  pub plans : PlansGive old new s k

-- the state after a token
state_after_token : (s next : State) (k : TokenKind) → entry s k ≡ Some next → next ≡ unwrap_or (entry s k) s
state_after_token s next k enters = sym (ap (λ (o : Option State). unwrap_or o s) enters)

gives_keeps_taken : (old new : Parser) (t : Token) (next : State) → entry old.state t.kind ≡ Some next → Gives old new old.state t.kind t.start → (before : List Token) → HasTaken old before → HasTaken new (t ∷ before)
unfolding state_of ranks_of rank_of blocks_of counts_of draft_of head_of ops_of defined_of used_of deps_of notes_of plans_of
gives_keeps_taken old new t next enters gives before taken =
    let head = head_of before in
    let ds = defined_of before in
    let us = used_of before in
    let deps = deps_of before in
    let notes = notes_of before in
    record {
      state = gives.state ∙ (λ i. unwrap_or (entry (taken.state i) t.kind) (taken.state i));
      ranks = gives.ranks ∙ (λ i. ranks_with (taken.state i) t.kind (taken.ranks i));
      rank = gives.rank ∙ (λ i. rank_with (taken.state i) t.kind (taken.rank i));
      blocks = gives.blocks ∙ (λ i. blocks_with (taken.state i) t.kind (taken.blocks i));
      counts = gives.counts ∙ (λ i. counts_with t.kind (taken.counts i));
      draft = gives.draft ∙ (λ i. draft_with (taken.state i) t.kind (taken.draft i));
      head = subst (λ (z : State × ItemHead × State). KeepsHead z.0 z.1 (head_with z.2 t.kind t.start head))
          (λ i. (sym (gives.state ∙ sym (state_after_token old.state next t.kind enters)) i, sym gives.head i, taken.state i))
          (KeepsHead-next old.state next t.kind t.start old.head head enters taken.head);
      ops = gives.ops ∙ (λ i. ops_with (taken.state i) t.kind (op_of (taken.draft i)) (taken.ops i));
      names = subst (λ (z : State × List Op). NamesHold new.block.names (defined_with t.kind head.subject (length z.1) ds) (used_with z.0 t.kind t.start head us) (deps_with z.0 t.kind head deps) (notes_with z.0 t.kind head notes))
          (λ i. (taken.state i, taken.ops i))
          (subst (λ (z : List Definition × List Mention × List NamedDep × List NamedNote). NamesHold new.block.names z.0 z.1 z.2 z.3)
          (λ i. (
            defined_kept t.kind old.state next old.head head (length old.block.ops.items) ds enters taken.head i,
            used_kept t.kind old.state t.start old.head head us taken.head i,
            deps_kept t.kind old.state old.head head deps taken.head i,
            notes_kept t.kind old.state old.head head notes taken.head i,
          ))
          (gives.names ds us deps notes taken.names));
      plans = gives.plans ds us deps notes taken.names
          ∙ (λ i. plans_with (taken.state i) t.kind (taken.rank i) (record {
            ops = ended_ops (taken.state i) token.Close (op_of (taken.draft i)) (taken.ops i);
            deps = map (dep_by ds) deps;
            notes = map (note_by ds) notes;
          }) (taken.plans i));
    }

pub takes_if_rest_has_no_fault : (old new : Parser) (t : Token) (next : State) → entry old.state t.kind ≡ Some next
    → ((before : List Token) → HasTaken old before → rest_fault old before t ≡ None) → Gives old new old.state t.kind t.start → Takes old t new
takes_if_rest_has_no_fault old new t next enters rest gives = λ before taken. (rest_fault_is_token_fault old before t next None taken enters (rest before taken), gives_keeps_taken old new t next enters gives before taken)

-- What a token leaves unchanged.

abbrev IsNoNumber : TokenKind → Type 0
IsNoNumber (token.Number n) = ⊥
IsNoNumber _ = ⊤

abbrev IsNoName : TokenKind → Type 0
IsNoName (token.Number n) = ⊥
IsNoName (token.Label label) = ⊥
IsNoName token.Colon = ⊥
IsNoName token.Close = ⊥
IsNoName _ = ⊤

ranks_stay_without_number : (s : State) (k : TokenKind) (n : ℕ) → IsNoNumber k → n ≡ ranks_with s k n
unfolding ranks_with
ranks_stay_without_number state.Ranks (token.Number m) n absent = absurd absent
ranks_stay_without_number _ _ n absent = refl

rank_stays_without_number : (s : State) (k : TokenKind) (n : ℕ) → IsNoNumber k → n ≡ rank_with s k n
unfolding rank_with
rank_stays_without_number state.Block (token.Number m) n absent = absurd absent
rank_stays_without_number _ _ n absent = refl

blocks_stay_without_number : (s : State) (k : TokenKind) (ns : List ℕ) → IsNoNumber k → ns ≡ blocks_with s k ns
unfolding blocks_with
blocks_stay_without_number state.Block (token.Number m) ns absent = absurd absent
blocks_stay_without_number _ _ ns absent = refl

ends_no_action_within_item : (s : State) (k : TokenKind) → begins_item k ≡ false → ends_action s k ≡ false
unfolding ends_action
ends_no_action_within_item state.Calc2 k absent = absent
ends_no_action_within_item state.Send4 k absent = absent
ends_no_action_within_item state.Recv4 k absent = absent
ends_no_action_within_item _ k absent = refl

ops_stay_within_item : (s : State) (k : TokenKind) (op : Op) (ops : List Op) → begins_item k ≡ false → ops ≡ ops_with s k op ops
unfolding ops_with
ops_stay_within_item s token.Close op ops absent = cc
ops_stay_within_item s _ op ops absent = sym (ap (λ (b : Bool). if b then ops ++ op ∷ [] else ops) (ends_no_action_within_item s _ absent))

names_stay_without_name : (names : Names) (s : State) (k : TokenKind) (at : ℕ) (head : ItemHead) (op : ℕ) → IsNoName k → NamesGive names names s k at head op
unfolding defined_with used_with deps_with notes_with
names_stay_without_name names s (token.Number n) at head op absent = absurd absent
names_stay_without_name names s (token.Label label) at head op absent = absurd absent
names_stay_without_name names s token.Colon at head op absent = absurd absent
names_stay_without_name names s token.Close at head op absent = absurd absent
names_stay_without_name names s _ at head op absent = λ ds us deps notes holds. holds

plans_stay_without_name : (s : State) (k : TokenKind) (rank : ℕ) (plan : Plan) (plans : List Plan) → IsNoName k → plans ≡ plans_with s k rank plan plans
unfolding plans_with
plans_stay_without_name s (token.Number n) rank plan plans absent = absurd absent
plans_stay_without_name s token.Close rank plan plans absent = absurd absent
plans_stay_without_name s _ rank plan plans absent = refl

-- a token that begins no item, names nothing and has no number
gives_counts_draft_and_head : (old : Parser) (next : State) (counts : Counts) (draft : Draft) (head : ItemHead) (k : TokenKind) (at : ℕ) → entry old.state k ≡ Some next
    → IsNoNumber k → IsNoName k → begins_item k ≡ false → counts ≡ counts_with k old.counts → draft ≡ draft_with old.state k old.draft → head ≡ head_with old.state k at old.head
    → Gives old (record old { state = next; counts = counts; draft = draft; head = head }) old.state k at
gives_counts_draft_and_head old next counts draft head k at enters number name item counted drafted headed = record {
  state = state_after_token old.state next k enters;
  ranks = ranks_stay_without_number old.state k old.ranks.count number;
  rank = rank_stays_without_number old.state k old.ranks.present number;
  blocks = blocks_stay_without_number old.state k old.ranks.blocks.keys number;
  counts = counted;
  draft = drafted;
  head = headed;
  ops = ops_stay_within_item old.state k (op_of old.draft) old.block.ops.items item;
  names = names_stay_without_name old.block.names old.state k at old.head (length old.block.ops.items) name;
  plans = λ ds us deps notes holds. plans_stay_without_name old.state k old.ranks.present _ old.plans.items name;
}

-- an option's word
gives_option : (old : Parser) (next : State) (draft : Draft) (k : TokenKind) (at : ℕ) → entry old.state k ≡ Some next → IsOption k → draft ≡ draft_with old.state k old.draft
    → Gives old (record old { state = next; draft = draft }) old.state k at
unfolding counts_with head_with
gives_option old next draft token.Tag at enters is drafted = gives_counts_draft_and_head old next old.counts draft old.head token.Tag at enters tt tt refl refl drafted refl
gives_option old next draft token.Cpu at enters is drafted = gives_counts_draft_and_head old next old.counts draft old.head token.Cpu at enters tt tt refl refl drafted refl
gives_option old next draft token.Nic at enters is drafted = gives_counts_draft_and_head old next old.counts draft old.head token.Nic at enters tt tt refl refl drafted refl
gives_option old next draft _ at enters is drafted = absurd is

gives_any : (old : Parser) (next : State) (draft : Draft) (k : TokenKind) (at : ℕ) → k ≡ token.Any → entry old.state k ≡ Some next → draft ≡ draft_with old.state k old.draft
    → Gives old (record old { state = next; draft = draft }) old.state k at
unfolding counts_with head_with
gives_any old next draft k at is = subst (λ (k : TokenKind). entry old.state k ≡ Some next → draft ≡ draft_with old.state k old.draft → Gives old (record old { state = next; draft = draft }) old.state k at) (sym is)
    (λ enters drafted. gives_counts_draft_and_head old next old.counts draft old.head token.Any at enters tt tt refl refl drafted refl)

gives_size : (old : Parser) (next : State) (draft : Draft) (n : ℕ) (k : TokenKind) (at : ℕ) → k ≡ token.Size n → entry old.state k ≡ Some next → draft ≡ draft_with old.state k old.draft
    → Gives old (record old { state = next; draft = draft }) old.state k at
unfolding counts_with head_with
gives_size old next draft n k at is = subst (λ (k : TokenKind). entry old.state k ≡ Some next → draft ≡ draft_with old.state k old.draft → Gives old (record old { state = next; draft = draft }) old.state k at) (sym is)
    (λ enters drafted. gives_counts_draft_and_head old next old.counts draft old.head (token.Size n) at enters tt tt refl refl drafted refl)

gives_verb : (old : Parser) (next : State) (counts : Counts) (head : ItemHead) (k : TokenKind) (at : ℕ) → entry old.state k ≡ Some next → IsVerb k
    → counts ≡ counts_with k old.counts → head ≡ verb_head k old.head → Gives old (record old { state = next; counts = counts; head = head }) old.state k at
unfolding draft_with head_with
gives_verb old next counts head token.Requires at enters is counted headed = gives_counts_draft_and_head old next counts old.draft head token.Requires at enters tt tt refl counted refl headed
gives_verb old next counts head token.Irequires at enters is counted headed = gives_counts_draft_and_head old next counts old.draft head token.Irequires at enters tt tt refl counted refl headed
gives_verb old next counts head token.Moves at enters is counted headed = gives_counts_draft_and_head old next counts old.draft head token.Moves at enters tt tt refl counted refl headed
gives_verb old next counts head token.Adds at enters is counted headed = gives_counts_draft_and_head old next counts old.draft head token.Adds at enters tt tt refl counted refl headed
gives_verb old next counts head _ at enters is counted headed = absurd is

gives_plain : (old : Parser) (next : State) (k : TokenKind) (at : ℕ) → entry old.state k ≡ Some next → IsPlain k → Gives old (record old { state = next }) old.state k at
unfolding counts_with draft_with head_with
gives_plain old next token.NumRanks at enters is = gives_counts_draft_and_head old next old.counts old.draft old.head token.NumRanks at enters tt tt refl refl refl refl
gives_plain old next token.Rank at enters is = gives_counts_draft_and_head old next old.counts old.draft old.head token.Rank at enters tt tt refl refl refl refl
gives_plain old next token.To at enters is = gives_counts_draft_and_head old next old.counts old.draft old.head token.To at enters tt tt refl refl refl refl
gives_plain old next token.From at enters is = gives_counts_draft_and_head old next old.counts old.draft old.head token.From at enters tt tt refl refl refl refl
gives_plain old next token.Open at enters is = gives_counts_draft_and_head old next old.counts old.draft old.head token.Open at enters tt tt refl refl refl refl
gives_plain old next _ at enters is = absurd is

-- the word of an action
gives_action : (old new : Parser) (next : State) (k : TokenKind) (at : ℕ) → entry old.state k ≡ Some next → IsAction k
    → new.state ≡ next → new.ranks ≡ old.ranks → new.counts ≡ counts_with k old.counts → new.draft ≡ draft_with old.state k old.draft → new.head ≡ old.head
    → new.block.ops.items ≡ ended_ops old.state k (op_of old.draft) old.block.ops.items → new.block.names ≡ old.block.names → new.plans ≡ old.plans
    → Gives old new old.state k at
unfolding head_with ops_with
gives_action old new next k at enters is stated ranked counted drafted headed opened named planned = record {
  state = stated ∙ state_after_token old.state next k enters;
  ranks = (λ i. (ranked i).count) ∙ ranks_stay_without_number old.state k old.ranks.count (numberless k is);
  rank = (λ i. (ranked i).present) ∙ rank_stays_without_number old.state k old.ranks.present (numberless k is);
  blocks = (λ i. (ranked i).blocks.keys) ∙ blocks_stay_without_number old.state k old.ranks.blocks.keys (numberless k is);
  counts = counted;
  draft = drafted;
  head = headed ∙ head_same k is;
  ops = opened ∙ ops_same k is;
  names = subst (λ (names : Names). NamesGive old.block.names names old.state k at old.head (length old.block.ops.items)) (sym named)
      (names_stay_without_name old.block.names old.state k at old.head (length old.block.ops.items) (nameless k is));
  plans = λ ds us deps notes holds. (λ i. (planned i).items) ∙ plans_stay_without_name old.state k old.ranks.present _ old.plans.items (nameless k is);
}
  where
    numberless : (k : TokenKind) → IsAction k → IsNoNumber k
    numberless token.Calc is = tt
    numberless token.Send is = tt
    numberless token.Recv is = tt
    numberless _ is = absurd is

    nameless : (k : TokenKind) → IsAction k → IsNoName k
    nameless token.Calc is = tt
    nameless token.Send is = tt
    nameless token.Recv is = tt
    nameless _ is = absurd is

    head_same : (k : TokenKind) → IsAction k → old.head ≡ head_with old.state k at old.head
    head_same token.Calc is = refl
    head_same token.Send is = refl
    head_same token.Recv is = refl
    head_same _ is = absurd is

    ops_same : (k : TokenKind) → IsAction k → ended_ops old.state k (op_of old.draft) old.block.ops.items ≡ ops_with old.state k (op_of old.draft) old.block.ops.items
    ops_same token.Calc is = refl
    ops_same token.Send is = refl
    ops_same token.Recv is = refl
    ops_same _ is = absurd is

-- a number in an action
ranks_stay_outside_ranks : (s : State) (n m : ℕ) → (s ≡ state.Ranks → ⊥) → m ≡ ranks_with s (token.Number n) m
unfolding ranks_with
ranks_stay_outside_ranks state.Ranks n m other = absurd (other refl)
ranks_stay_outside_ranks _ n m other = refl

rank_stays_outside_block : (s : State) (n m : ℕ) → (s ≡ state.Block → ⊥) → m ≡ rank_with s (token.Number n) m
unfolding rank_with
rank_stays_outside_block state.Block n m other = absurd (other refl)
rank_stays_outside_block _ n m other = refl

blocks_stay_outside_block : (s : State) (n : ℕ) (ms : List ℕ) → (s ≡ state.Block → ⊥) → ms ≡ blocks_with s (token.Number n) ms
unfolding blocks_with
blocks_stay_outside_block state.Block n ms other = absurd (other refl)
blocks_stay_outside_block _ n ms other = refl

head_stays_outside_note1 : (s : State) (n at : ℕ) (head : ItemHead) → (s ≡ state.Note1 → ⊥) → head ≡ head_with s (token.Number n) at head
unfolding head_with
head_stays_outside_note1 state.Note1 n at head other = absurd (other refl)
head_stays_outside_note1 _ n at head other = refl

names_stay_outside_note3 : (names : Names) (s : State) (n at : ℕ) (head : ItemHead) (op : ℕ) → (s ≡ state.Note3 → ⊥) → NamesGive names names s (token.Number n) at head op
unfolding defined_with used_with deps_with notes_with
names_stay_outside_note3 names state.Note3 n at head op other = absurd (other refl)
names_stay_outside_note3 names _ n at head op other = λ ds us deps notes holds. holds

plans_stay_outside_ranks : (s : State) (n rank : ℕ) (plan : Plan) (plans : List Plan) → (s ≡ state.Ranks → ⊥) → plans ≡ plans_with s (token.Number n) rank plan plans
unfolding plans_with
plans_stay_outside_ranks state.Ranks n rank plan plans other = absurd (other refl)
plans_stay_outside_ranks _ n rank plan plans other = refl

gives_number : (old : Parser) (next : State) (draft : Draft) (n at : ℕ) → (old.state ≡ state.Ranks → ⊥) → (old.state ≡ state.Block → ⊥) → (old.state ≡ state.Note1 → ⊥) → (old.state ≡ state.Note3 → ⊥)
    → entry old.state (token.Number n) ≡ Some next → draft ≡ draft_with old.state (token.Number n) old.draft
    → Gives old (record old { state = next; draft = draft }) old.state (token.Number n) at
unfolding counts_with
gives_number old next draft n at no_ranks no_block no_low no_high enters drafted = record {
  state = state_after_token old.state next (token.Number n) enters;
  ranks = ranks_stay_outside_ranks old.state n old.ranks.count no_ranks;
  rank = rank_stays_outside_block old.state n old.ranks.present no_block;
  blocks = blocks_stay_outside_block old.state n old.ranks.blocks.keys no_block;
  counts = refl;
  draft = drafted;
  head = head_stays_outside_note1 old.state n at old.head no_low;
  ops = ops_stay_within_item old.state (token.Number n) (op_of old.draft) old.block.ops.items refl;
  names = names_stay_outside_note3 old.block.names old.state n at old.head (length old.block.ops.items) no_high;
  plans = λ ds us deps notes holds. plans_stay_outside_ranks old.state n old.ranks.present _ old.plans.items no_ranks;
}

-- a label that an item begins with
head_gets_label : (s : State) (label : List ℕ) (at : ℕ) (head : ItemHead) → (s ≡ state.Label → ⊥)
    → ◌≡◌ {A = ItemHead} (record head { subject = Some (record { label = label; at = at }) }) (head_with s (token.Label label) at head)
unfolding head_with
head_gets_label state.Label label at head other = absurd (other refl)
head_gets_label _ label at head other = refl

names_stay_outside_label : (names : Names) (s : State) (label : List ℕ) (at : ℕ) (head : ItemHead) (op : ℕ) → (s ≡ state.Label → ⊥) → NamesGive names names s (token.Label label) at head op
unfolding defined_with used_with deps_with notes_with
names_stay_outside_label names state.Label label at head op other = absurd (other refl)
names_stay_outside_label names _ label at head op other = λ ds us deps notes holds. holds

gives_label : (old new : Parser) (next : State) (label : List ℕ) (at : ℕ) → (old.state ≡ state.Label → ⊥) → entry old.state (token.Label label) ≡ Some next
    → new.state ≡ next → new.ranks ≡ old.ranks → new.counts ≡ old.counts → new.draft ≡ old.draft → new.head ≡ record old.head { subject = Some (record { label = label; at = at }) }
    → new.block.ops.items ≡ ended_ops old.state (token.Label label) (op_of old.draft) old.block.ops.items → new.block.names ≡ old.block.names → new.plans ≡ old.plans
    → Gives old new old.state (token.Label label) at
unfolding counts_with draft_with ops_with plans_with
gives_label old new next label at other enters stated ranked counted drafted headed opened named planned =
    let k = token.Label label in
    record {
      state = stated ∙ state_after_token old.state next k enters;
      ranks = (λ i. (ranked i).count) ∙ ranks_stay_without_number old.state k old.ranks.count tt;
      rank = (λ i. (ranked i).present) ∙ rank_stays_without_number old.state k old.ranks.present tt;
      blocks = (λ i. (ranked i).blocks.keys) ∙ blocks_stay_without_number old.state k old.ranks.blocks.keys tt;
      counts = counted;
      draft = drafted;
      head = headed ∙ head_gets_label old.state label at old.head other;
      ops = opened;
      names = subst (λ (names : Names). NamesGive old.block.names names old.state k at old.head (length old.block.ops.items)) (sym named)
          (names_stay_outside_label old.block.names old.state label at old.head (length old.block.ops.items) other);
      plans = λ ds us deps notes holds. λ i. (planned i).items;
    }

-- each token that begins an item ends an action as the sign that ends the block does
pub items_end_actions_alike : (s : State) (k : TokenKind) (op : Op) (ops : List Op) → begins_item k ≡ true → ended_ops s token.Close op ops ≡ ended_ops s k op ops
unfolding ends_action
items_end_actions_alike state.Calc2 k op ops is = rw is
items_end_actions_alike state.Send4 k op ops is = rw is
items_end_actions_alike state.Recv4 k op ops is = rw is
items_end_actions_alike _ k op ops is = refl

pub action_begins_item : (k : TokenKind) → IsAction k → begins_item k ≡ true
action_begins_item token.Calc is = refl
action_begins_item token.Send is = refl
action_begins_item token.Recv is = refl
action_begins_item _ is = absurd is

-- Tokens that are taken and refused.

pub takes_any : (old : Parser) (t : Token) (next : State) (draft : Draft) → entry old.state t.kind ≡ Some next → t.kind ≡ token.Any → draft ≡ draft_with old.state t.kind old.draft
    → Takes old t (record old { state = next; draft = draft })
takes_any old t next draft enters is drafted =
    takes_if_rest_has_no_fault old (record old { state = next; draft = draft }) t next enters (λ before taken. rest_fault_of_any old before t is) (gives_any old next draft t.kind t.start is enters drafted)

pub takes_plain : (old : Parser) (t : Token) (next : State) → entry old.state t.kind ≡ Some next → IsPlain t.kind → Takes old t (record old { state = next })
takes_plain old t next enters is = takes_if_rest_has_no_fault old (record old { state = next }) t next enters (λ before taken. rest_fault_of_plain old before t is) (gives_plain old next t.kind t.start enters is)

pub takes_option : (old : Parser) (t : Token) (next : State) (draft : Draft) → entry old.state t.kind ≡ Some next → IsOption t.kind → has_option t.kind old.draft ≡ false
    → draft ≡ draft_with old.state t.kind old.draft → Takes old t (record old { state = next; draft = draft })
takes_option old t next draft enters is new drafted =
    takes_if_rest_has_no_fault old (record old { state = next; draft = draft }) t next enters (λ before taken. rest_fault_of_option old before t is ∙ ap (λ (b : Bool). fault_if b (Repeat t.start)) new)
    (gives_option old next draft t.kind t.start enters is drafted)

pub refuses_option : (old : Parser) (t : Token) (next : State) → entry old.state t.kind ≡ Some next → IsOption t.kind → has_option t.kind old.draft ≡ true → Refuses old t (refused.Repeat t.start)
refuses_option old t next enters is again =
    rest_fault_refuses old t next (refused.Repeat t.start) enters (λ before taken. rest_fault_of_option old before t is ∙ ap (λ (b : Bool). fault_if b (Repeat t.start)) again)

pub takes_size : (old : Parser) (t : Token) (next : State) (draft : Draft) (n : ℕ) → entry old.state t.kind ≡ Some next → t.kind ≡ token.Size n → number_within old.state old.draft.option n ≡ true
    → draft ≡ draft_with old.state t.kind old.draft → Takes old t (record old { state = next; draft = draft })
takes_size old t next draft n enters is within drafted =
    takes_if_rest_has_no_fault old (record old { state = next; draft = draft }) t next enters (λ before taken. rest_fault_of_size old before t n is ∙ ap (λ (b : Bool). fault_if (not b) (Number t.start)) within)
    (gives_size old next draft n t.kind t.start is enters drafted)

pub refuses_size : (old : Parser) (t : Token) (next : State) (n : ℕ) → entry old.state t.kind ≡ Some next → t.kind ≡ token.Size n → number_within old.state old.draft.option n ≡ false → Refuses old t (refused.Number t.start)
refuses_size old t next n enters is beyond =
    rest_fault_refuses old t next (refused.Number t.start) enters (λ before taken. rest_fault_of_size old before t n is ∙ ap (λ (b : Bool). fault_if (not b) (Number t.start)) beyond)

pub takes_action : (old new : Parser) (t : Token) (next : State) → entry old.state t.kind ≡ Some next → IsAction t.kind → is_too_many t.kind old.counts ≡ false
    → new.state ≡ next → new.ranks ≡ old.ranks → new.counts ≡ counts_with t.kind old.counts → new.draft ≡ draft_with old.state t.kind old.draft → new.head ≡ old.head
    → new.block.ops.items ≡ ended_ops old.state t.kind (op_of old.draft) old.block.ops.items → new.block.names ≡ old.block.names → new.plans ≡ old.plans
    → Takes old t new
takes_action old new t next enters is few stated ranked counted drafted headed opened named planned =
    takes_if_rest_has_no_fault old new t next enters (λ before taken. rest_fault_of_action old before t is ∙ ap (λ (b : Bool). fault_if b (TooMany t.start)) few)
    (gives_action old new next t.kind t.start enters is stated ranked counted drafted headed opened named planned)

pub refuses_action : (old : Parser) (t : Token) (next : State) → entry old.state t.kind ≡ Some next → IsAction t.kind → is_too_many t.kind old.counts ≡ true → Refuses old t (refused.TooMany t.start)
refuses_action old t next enters is many =
    rest_fault_refuses old t next (refused.TooMany t.start) enters (λ before taken. rest_fault_of_action old before t is ∙ ap (λ (b : Bool). fault_if b (TooMany t.start)) many)

pub takes_verb : (old : Parser) (t : Token) (next : State) (counts : Counts) (head : ItemHead) → entry old.state t.kind ≡ Some next → IsVerb t.kind → is_too_many t.kind old.counts ≡ false
    → counts ≡ counts_with t.kind old.counts → head ≡ verb_head t.kind old.head → Takes old t (record old { state = next; counts = counts; head = head })
takes_verb old t next counts head enters is few counted headed =
    takes_if_rest_has_no_fault old (record old { state = next; counts = counts; head = head }) t next enters (λ before taken. rest_fault_of_verb old before t is ∙ ap (λ (b : Bool). fault_if b (TooMany t.start)) few)
    (gives_verb old next counts head t.kind t.start enters is counted headed)

pub refuses_verb : (old : Parser) (t : Token) (next : State) → entry old.state t.kind ≡ Some next → IsVerb t.kind → is_too_many t.kind old.counts ≡ true → Refuses old t (refused.TooMany t.start)
refuses_verb old t next enters is many =
    rest_fault_refuses old t next (refused.TooMany t.start) enters (λ before taken. rest_fault_of_verb old before t is ∙ ap (λ (b : Bool). fault_if b (TooMany t.start)) many)

pub refuses_colon : (old : Parser) (t : Token) (next : State) (fault : TokenFault) → entry old.state t.kind ≡ Some next → t.kind ≡ token.Colon
    → ((before : List Token) → HasTaken old before → defined_fault (defined_of before) old.head.subject ≡ Some (fault_in_text fault)) → Refuses old t fault
refuses_colon old t next fault enters is again = rest_fault_refuses old t next fault enters (λ before taken. rest_fault_of_colon old before t is ∙ again before taken)

pub takes_colon : (old new : Parser) (t : Token) (next : State) (op : ℕ) → entry old.state t.kind ≡ Some next → t.kind ≡ token.Colon → op ≡ length old.block.ops.items
    → new.state ≡ next → new.ranks ≡ old.ranks → new.counts ≡ old.counts → new.draft ≡ old.draft → new.head ≡ old.head → new.block.ops ≡ old.block.ops → new.plans ≡ old.plans
    → ((ds : List Definition) (us : List Mention) (deps : List NamedDep) (notes : List NamedNote) → NamesHold old.block.names ds us deps notes
    → (defined_fault ds old.head.subject ≡ None) × NamesHold new.block.names (define old.head.subject op ds) us deps notes)
    → Takes old t new
unfolding counts_with draft_with head_with defined_with used_with deps_with notes_with plans_with
takes_colon old new t next op enters is counted stated ranked same drafted headed opened planned names =
    takes_if_rest_has_no_fault old new t next enters
    (λ before taken. rest_fault_of_colon old before t is ∙ (names (defined_of before) (used_of before) (deps_of before) (notes_of before) taken.names).0)
    (subst (λ (k : TokenKind). entry old.state k ≡ Some next → Gives old new old.state k t.start) (sym is) (λ enters_here. record {
      state = stated ∙ state_after_token old.state next token.Colon enters_here;
      ranks = (λ i. (ranked i).count) ∙ ranks_stay_without_number old.state token.Colon old.ranks.count tt;
      rank = (λ i. (ranked i).present) ∙ rank_stays_without_number old.state token.Colon old.ranks.present tt;
      blocks = (λ i. (ranked i).blocks.keys) ∙ blocks_stay_without_number old.state token.Colon old.ranks.blocks.keys tt;
      counts = same;
      draft = drafted;
      head = headed;
      ops = (λ i. (opened i).items) ∙ ops_stay_within_item old.state token.Colon (op_of old.draft) old.block.ops.items refl;
      names = λ ds us deps notes holds. subst (λ (n : ℕ). NamesHold new.block.names (define old.head.subject n ds) us deps notes) counted (names ds us deps notes holds).1;
      plans = λ ds us deps notes holds. λ i. (planned i).items;
    }) enters)

pub refuses_close : (old : Parser) (t : Token) (next : State) (at : ℕ) → entry old.state t.kind ≡ Some next → t.kind ≡ token.Close
    → ((before : List Token) → HasTaken old before → first_unknown (defined_of before) (used_of before) ≡ Some at) → Refuses old t (refused.UnknownLabel at)
refuses_close old t next at enters is unknown =
    rest_fault_refuses old t next (refused.UnknownLabel at) enters (λ before taken. rest_fault_of_close old before t is ∙ ap (option_map UnknownLabel) (unknown before taken))

pub takes_close : (old new : Parser) (t : Token) (next : State) (plan : Plan) → entry old.state t.kind ≡ Some next → t.kind ≡ token.Close
    → ((before : List Token) → HasTaken old before → first_unknown (defined_of before) (used_of before) ≡ None)
    → new.state ≡ next → new.ranks ≡ old.ranks → new.counts ≡ old.counts → new.draft ≡ old.draft → new.head ≡ old.head
    → new.block.ops.items ≡ [] → NamesHold new.block.names [] [] [] []
    → ((ds : List Definition) (us : List Mention) (deps : List NamedDep) (notes : List NamedNote) → NamesHold old.block.names ds us deps notes
    → plan ≡ record { ops = ended_ops old.state token.Close (op_of old.draft) old.block.ops.items; deps = map (dep_by ds) deps; notes = map (note_by ds) notes })
    → new.plans.items ≡ slice_set old.plans.items old.ranks.present plan → Takes old t new
unfolding counts_with draft_with head_with ops_with defined_with used_with deps_with notes_with plans_with
takes_close old new t next plan enters is known stated ranked same drafted headed opened names planned put =
    takes_if_rest_has_no_fault old new t next enters (λ before taken. rest_fault_of_close old before t is ∙ ap (option_map UnknownLabel) (known before taken))
    (subst (λ (k : TokenKind). entry old.state k ≡ Some next → Gives old new old.state k t.start) (sym is) (λ enters_here. record {
      state = stated ∙ state_after_token old.state next token.Close enters_here;
      ranks = (λ i. (ranked i).count) ∙ ranks_stay_without_number old.state token.Close old.ranks.count tt;
      rank = (λ i. (ranked i).present) ∙ rank_stays_without_number old.state token.Close old.ranks.present tt;
      blocks = (λ i. (ranked i).blocks.keys) ∙ blocks_stay_without_number old.state token.Close old.ranks.blocks.keys tt;
      counts = same;
      draft = drafted;
      head = headed;
      ops = opened;
      names = λ ds us deps notes holds. names;
      plans = λ ds us deps notes holds. put ∙ ap (slice_set old.plans.items old.ranks.present) (planned ds us deps notes holds);
    }) enters)

-- a label after `requires` or `irequires`
pub takes_earlier : (old new : Parser) (t : Token) (next : State) (label : List ℕ) → entry old.state t.kind ≡ Some next → t.kind ≡ token.Label label → old.state ≡ state.Label
    → new.state ≡ next → new.ranks ≡ old.ranks → new.counts ≡ old.counts → new.draft ≡ old.draft → new.head ≡ old.head → new.block.ops ≡ old.block.ops → new.plans ≡ old.plans
    → ((ds : List Definition) (us : List Mention) (deps : List NamedDep) (notes : List NamedNote) → NamesHold old.block.names ds us deps notes
    → NamesHold new.block.names ds (dep_uses state.Label old.head.subject (record { label = label; at = t.start }) us) (dep_ended state.Label old.head.subject old.head.verb label deps) notes)
    → Takes old t new
unfolding ranks_with rank_with blocks_with counts_with draft_with head_with ops_with ends_action defined_with used_with deps_with notes_with plans_with
takes_earlier old new t next label enters is here stated ranked same drafted headed opened planned names =
    takes_if_rest_has_no_fault old new t next enters (λ before taken. rest_fault_of_label old before t label is)
    (subst (λ (z : State × TokenKind). entry z.0 z.1 ≡ Some next → Gives old new z.0 z.1 t.start) (λ i. (sym here i, sym is i)) (λ enters_here. record {
      state = stated ∙ state_after_token state.Label next (token.Label label) enters_here;
      ranks = λ i. (ranked i).count;
      rank = λ i. (ranked i).present;
      blocks = λ i. (ranked i).blocks.keys;
      counts = same;
      draft = drafted;
      head = headed;
      ops = λ i. (opened i).items;
      names = names;
      plans = λ ds us deps notes holds. λ i. (planned i).items;
    }) enters)

pub takes_label : (old new : Parser) (t : Token) (next : State) (label : List ℕ) → entry old.state t.kind ≡ Some next → t.kind ≡ token.Label label → (old.state ≡ state.Label → ⊥)
    → new.state ≡ next → new.ranks ≡ old.ranks → new.counts ≡ old.counts → new.draft ≡ old.draft → new.head ≡ record old.head { subject = Some (record { label = label; at = t.start }) }
    → new.block.ops.items ≡ ended_ops old.state t.kind (op_of old.draft) old.block.ops.items → new.block.names ≡ old.block.names → new.plans ≡ old.plans
    → Takes old t new
takes_label old new t next label enters is other stated ranked same drafted headed opened named planned =
    takes_if_rest_has_no_fault old new t next enters (λ before taken. rest_fault_of_label old before t label is)
    (subst (λ (k : TokenKind). entry old.state k ≡ Some next → new.block.ops.items ≡ ended_ops old.state k (op_of old.draft) old.block.ops.items → Gives old new old.state k t.start) (sym is)
    (λ enters_here opened_here. gives_label old new next label t.start other enters_here stated ranked same drafted headed opened_here named planned) enters opened)

-- Numbers.

module _ (old : Parser) (t : Token) (next : State) (n : ℕ) (enters : entry old.state t.kind ≡ Some next) (is : t.kind ≡ token.Number n) where
  pub refuses_number : number_within old.state old.draft.option n ≡ false → Refuses old t (refused.Number t.start)
  refuses_number beyond = rest_fault_refuses old t next (refused.Number t.start) enters (λ before taken. rest_fault_of_number old before t n is
      ∙ ap (λ (b : Bool). option_or (fault_if (not b) (Number t.start)) (numbered_rank_fault old.state old.ranks.count old.ranks.blocks.keys n t.start)) beyond)

  rank_fault_of_number : rank_fault old.state old.ranks.count old.ranks.blocks.keys t ≡ numbered_rank_fault old.state old.ranks.count old.ranks.blocks.keys n t.start
  unfolding rank_fault
  rank_fault_of_number = ap (λ (k : TokenKind). rank_fault_of old.state old.ranks.count old.ranks.blocks.keys k t.start) is

  number_within_fails_only_rank_test : number_within old.state old.draft.option n ≡ true → (before : List Token)
      → rest_fault old before t ≡ numbered_rank_fault old.state old.ranks.count old.ranks.blocks.keys n t.start
  number_within_fails_only_rank_test within before = rest_fault_of_number old before t n is
      ∙ ap (λ (b : Bool). option_or (fault_if (not b) (Number t.start)) (numbered_rank_fault old.state old.ranks.count old.ranks.blocks.keys n t.start)) within

  pub refuses_rank : (fault : TokenFault) → number_within old.state old.draft.option n ≡ true → Some (fault_in_text fault) ≡ rank_fault old.state old.ranks.count old.ranks.blocks.keys t → Refuses old t fault
  refuses_rank fault within ranked = rest_fault_refuses old t next fault enters (λ before taken. number_within_fails_only_rank_test within before ∙ sym (ranked ∙ rank_fault_of_number))

  pub faultless_rank_is_new : old.state ≡ state.Block → None ≡ rank_fault old.state old.ranks.count old.ranks.blocks.keys t → list_any (nat_eq n) old.ranks.blocks.keys ≡ false
  faultless_rank_is_new here passes = subst (λ (z : State × TokenKind). IsNewRank z.0 old.ranks.blocks.keys z.1) (λ i. (here i, is i))
      (rank_passes old.state old.ranks.count old.ranks.blocks.keys t (sym passes))

  -- where it is no rank
  module _ (within : number_within old.state old.draft.option n ≡ true) where
    no_rank_fault_outside_block : (s : State) → (s ≡ state.Block → ⊥) → numbered_rank_fault s old.ranks.count old.ranks.blocks.keys n t.start ≡ None
    no_rank_fault_outside_block state.Block other = absurd (other refl)
    no_rank_fault_outside_block _ other = refl

    takes_number_outside_block : (new : Parser) → (old.state ≡ state.Block → ⊥) → Gives old new old.state (token.Number n) t.start → Takes old t new
    takes_number_outside_block new other gives = takes_if_rest_has_no_fault old new t next enters (λ before taken. number_within_fails_only_rank_test within before ∙ no_rank_fault_outside_block old.state other)
        (subst (λ (k : TokenKind). Gives old new old.state k t.start) (sym is) gives)

    enters_number : entry old.state (token.Number n) ≡ Some next
    enters_number = subst (λ (k : TokenKind). entry old.state k ≡ Some next) is enters

    pub takes_number : (draft : Draft) → (old.state ≡ state.Ranks → ⊥) → (old.state ≡ state.Block → ⊥) → (old.state ≡ state.Note1 → ⊥) → (old.state ≡ state.Note3 → ⊥)
        → draft ≡ draft_with old.state t.kind old.draft → Takes old t (record old { state = next; draft = draft })
    takes_number draft no_ranks no_block no_low no_high drafted = takes_number_outside_block (record old { state = next; draft = draft }) no_block
        (gives_number old next draft n t.start no_ranks no_block no_low no_high enters_number (drafted ∙ ap (λ (k : TokenKind). draft_with old.state k old.draft) is))

    -- the number in a state that is known
    takes_number_in_known_state : (new : Parser) (s : State) → old.state ≡ s → (s ≡ state.Block → ⊥) → (entry s (token.Number n) ≡ Some next → Gives old new s (token.Number n) t.start) → Takes old t new
    takes_number_in_known_state new s here other gives = takes_number_outside_block new (λ block. other (sym here ∙ block))
        (subst (λ (s : State). entry s (token.Number n) ≡ Some next → Gives old new s (token.Number n) t.start) (sym here) gives enters_number)

    pub takes_ranks : (new : Parser) → old.state ≡ state.Ranks → new.state ≡ next → new.ranks ≡ record old.ranks { count = n } → new.counts ≡ old.counts → new.draft ≡ old.draft → new.head ≡ old.head
        → new.block ≡ old.block → new.plans.items ≡ replicate n empty_plan → Takes old t new
    unfolding ranks_with rank_with blocks_with counts_with draft_with head_with ops_with ends_action defined_with used_with deps_with notes_with plans_with
    takes_ranks new here stated ranked same drafted headed blocked planned = takes_number_in_known_state new state.Ranks here (λ e. cc) (λ enters_here. record {
      state = stated ∙ state_after_token state.Ranks next (token.Number n) enters_here;
      ranks = λ i. (ranked i).count;
      rank = λ i. (ranked i).present;
      blocks = λ i. (ranked i).blocks.keys;
      counts = same;
      draft = drafted;
      head = headed;
      ops = λ i. (blocked i).ops.items;
      names = λ ds us deps notes holds. subst (λ (names : Names). NamesHold names ds us deps notes) (λ i. (sym blocked i).names) holds;
      plans = λ ds us deps notes holds. planned;
    })

    pub takes_low : (new : Parser) → old.state ≡ state.Note1 → new.state ≡ next → new.ranks ≡ old.ranks → new.counts ≡ old.counts → new.draft ≡ old.draft → new.head ≡ low_head old.state n old.head
        → new.block ≡ old.block → new.plans ≡ old.plans → Takes old t new
    unfolding ranks_with rank_with blocks_with counts_with draft_with head_with ops_with ends_action defined_with used_with deps_with notes_with plans_with
    takes_low new here stated ranked same drafted headed blocked planned = takes_number_in_known_state new state.Note1 here (λ e. cc) (λ enters_here. record {
      state = stated ∙ state_after_token state.Note1 next (token.Number n) enters_here;
      ranks = λ i. (ranked i).count;
      rank = λ i. (ranked i).present;
      blocks = λ i. (ranked i).blocks.keys;
      counts = same;
      draft = drafted;
      head = headed ∙ ap (λ (s : State). low_head s n old.head) here;
      ops = λ i. (blocked i).ops.items;
      names = λ ds us deps notes holds. subst (λ (names : Names). NamesHold names ds us deps notes) (λ i. (sym blocked i).names) holds;
      plans = λ ds us deps notes holds. λ i. (planned i).items;
    })

    pub takes_high : (new : Parser) → old.state ≡ state.Note3 → new.state ≡ next → new.ranks ≡ old.ranks → new.counts ≡ old.counts → new.draft ≡ old.draft → new.head ≡ old.head
        → new.block.ops ≡ old.block.ops → new.plans ≡ old.plans
        → ((ds : List Definition) (us : List Mention) (deps : List NamedDep) (notes : List NamedNote) → NamesHold old.block.names ds us deps notes
        → NamesHold new.block.names ds (note_uses old.state old.head.subject us) deps (note_ended old.state old.head.subject old.head.verb old.head.low n notes))
        → Takes old t new
    unfolding ranks_with rank_with blocks_with counts_with draft_with head_with ops_with ends_action defined_with used_with deps_with notes_with plans_with
    takes_high new here stated ranked same drafted headed opened planned names = takes_number_in_known_state new state.Note3 here (λ e. cc) (λ enters_here. record {
      state = stated ∙ state_after_token state.Note3 next (token.Number n) enters_here;
      ranks = λ i. (ranked i).count;
      rank = λ i. (ranked i).present;
      blocks = λ i. (ranked i).blocks.keys;
      counts = same;
      draft = drafted;
      head = headed;
      ops = λ i. (opened i).items;
      names = λ ds us deps notes holds. subst (λ (s : State). NamesHold new.block.names ds (note_uses s old.head.subject us) deps (note_ended s old.head.subject old.head.verb old.head.low n notes)) here
          (names ds us deps notes holds);
      plans = λ ds us deps notes holds. λ i. (planned i).items;
    })

    pub takes_rank : (new : Parser) → old.state ≡ state.Block → None ≡ rank_fault old.state old.ranks.count old.ranks.blocks.keys t
        → new.state ≡ next → new.ranks.count ≡ old.ranks.count → new.ranks.present ≡ n → new.ranks.blocks.keys ≡ old.ranks.blocks.keys ++ n ∷ []
        → new.counts ≡ old.counts → new.draft ≡ old.draft → new.head ≡ old.head → new.block ≡ old.block → new.plans ≡ old.plans → Takes old t new
    unfolding ranks_with rank_with blocks_with counts_with draft_with head_with ops_with ends_action defined_with used_with deps_with notes_with plans_with
    takes_rank new here passes stated counted present blocks same drafted headed blocked planned =
        takes_if_rest_has_no_fault old new t next enters (λ before taken. number_within_fails_only_rank_test within before ∙ sym rank_fault_of_number ∙ sym passes)
        (subst (λ (z : State × TokenKind). entry z.0 z.1 ≡ Some next → Gives old new z.0 z.1 t.start) (λ i. (sym here i, sym is i)) (λ enters_here. record {
          state = stated ∙ state_after_token state.Block next (token.Number n) enters_here;
          ranks = counted;
          rank = present;
          blocks = blocks;
          counts = same;
          draft = drafted;
          head = headed;
          ops = λ i. (blocked i).ops.items;
          names = λ ds us deps notes holds. subst (λ (names : Names). NamesHold names ds us deps notes) (λ i. (sym blocked i).names) holds;
          plans = λ ds us deps notes holds. λ i. (planned i).items;
        }) enters)

-- Values that are within their limits or absent.

pub within_any : (s : State) (o : OptionWord) (k : TokenKind) → k ≡ token.Any → is_within s o k ≡ true
unfolding is_within
within_any s o k is = ap (λ (k : TokenKind). is_within s o k) is

pub within_option : (s : State) (o : OptionWord) (k : TokenKind) → IsOption k → is_within s o k ≡ true
unfolding is_within
within_option s o token.Tag is = refl
within_option s o token.Cpu is = refl
within_option s o token.Nic is = refl
within_option s o _ is = absurd is

pub within_action : (s : State) (o : OptionWord) (k : TokenKind) → IsAction k → is_within s o k ≡ true
unfolding is_within
within_action s o token.Calc is = refl
within_action s o token.Send is = refl
within_action s o token.Recv is = refl
within_action s o _ is = absurd is

pub within_size : (s : State) (o : OptionWord) (k : TokenKind) (n : ℕ) → k ≡ token.Size n → number_within s o n ≡ true → is_within s o k ≡ true
unfolding is_within
within_size s o k n is within = ap (λ (k : TokenKind). is_within s o k) is ∙ within

pub within_number : (s : State) (o : OptionWord) (k : TokenKind) (n : ℕ) → k ≡ token.Number n → number_within s o n ≡ true → is_within s o k ≡ true
unfolding is_within
within_number s o k n is within = ap (λ (k : TokenKind). is_within s o k) is ∙ within

-- Combining and weakening what is known of a call's result.

pub on_ok_of_both : {A E : Type 0} (r : Result A E) (P Q R : Type 0) → OnOk r P → OnOk r Q → (P → Q → R) → OnOk r R
on_ok_of_both (Ok x) P Q R p q both = both p q
on_ok_of_both (Err e) P Q R p q both = tt

pub if_err_map : {A E : Type 0} (r : Result A E) (P Q : E → Type 0) → IfErr r P → ((e : E) → P e → Q e) → IfErr r Q
if_err_map (Ok x) P Q p more = tt
if_err_map (Err e) P Q p more = more e p
