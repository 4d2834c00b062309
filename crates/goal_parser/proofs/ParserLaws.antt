-- What is true of a token that fails no test.
use Rattle.std.proofs.Common.{◌≡◌, ◌∙◌, ℕ, Bool, true, false, not, List, Option, Some, None, refl, ap, subst, nat_eq, nat_lt}
use Rattle.std.specs.Prelude.{⊤}
use Rattle.std.specs.List.{list_any}
use Rattle.std.specs.Option.{option_or}
use Rattle.goal_lexer.specs.declared.tokens.Token.{Token}
use Rattle.goal_lexer.specs.declared.tokens.TokenKind.{TokenKind}
use Rattle.goal_lexer.specs.declared.tokens.TokenKind.TheVariants as token
use Rattle.goal_parser.specs.declared.faults.TextFault.{TextFault}
use Rattle.goal_parser.specs.declared.faults.TextFault.TheVariants.{Number, Rank, Repeat, TooMany}
use Rattle.goal_parser.specs.declared.sentence.State.{State}
use Rattle.goal_parser.specs.declared.sentence.State.TheVariants as state
use Rattle.goal_parser.specs.declared.draft.OptionWord.{OptionWord}
use Rattle.goal_parser.specs.declared.counts.Counts.{Counts}
use Rattle.goal_parser.specs.declared.parser.Parser.{Parser}
use Rattle.goal_parser.specs.declared.draft.Draft.{Draft}
use Rattle.goal_parser.specs.declared.head.Mention.{Mention}
use Rattle.goal_parser.specs.declared.head.ItemHead.{ItemHead}
use Rattle.goal_parser.specs.Taken.{KeepsHead, HasTaken}
use Rattle.goal_parser.specs.Sentence.{entry}
use Rattle.goal_parser.specs.Items.{Definition, NamedDep, NamedNote, define, dep_uses, note_uses, dep_ended, note_ended, head_with, defined_with, used_with, deps_with, notes_with, head_of, defined_of, used_of}
use Rattle.goal_parser.specs.Numbers.{is_within}
use Rattle.goal_parser.specs.Counts.{is_too_many}
use Rattle.goal_parser.specs.Grammar.{IsNewRank}
use Rattle.goal_parser.specs.Faults.{fault_if, number_fault, rank_fault, rank_fault_of, count_fault, syntax_fault, label_fault, fault_by, token_fault}

pub first_is_none : {A : Type 0} (a b : Option A) → option_or a b ≡ None → a ≡ None
first_is_none None b h = refl
first_is_none (Some x) b h = cc

pub second_is_none : {A : Type 0} (a b : Option A) → option_or a b ≡ None → b ≡ None
second_is_none None b h = h
second_is_none (Some x) b h = cc

pub no_fault_if_false : (b : Bool) (f : TextFault) → fault_if b f ≡ None → b ≡ false
no_fault_if_false true f h = cc
no_fault_if_false false f h = refl

pub no_fault_unless_true : (b : Bool) (f : TextFault) → fault_if (not b) f ≡ None → b ≡ true
no_fault_unless_true true f h = refl
no_fault_unless_true false f h = cc

pub number_passes : (s : State) (option : OptionWord) (t : Token) → number_fault s option t ≡ None → is_within s option t.kind ≡ true
unfolding number_fault
number_passes s option t h = no_fault_unless_true (is_within s option t.kind) (Number t.start) h

pub count_passes : (counts : Counts) (t : Token) → count_fault counts t ≡ None → is_too_many t.kind counts ≡ false
unfolding count_fault
count_passes counts t h = no_fault_if_false (is_too_many t.kind counts) (TooMany t.start) h

new_rank : (s : State) (ranks : ℕ) (blocks : List ℕ) (k : TokenKind) (at : ℕ) → rank_fault_of s ranks blocks k at ≡ None → IsNewRank s blocks k
new_rank state.Block ranks blocks (token.Number n) at h =
    no_fault_if_false (list_any (nat_eq n) blocks) (Repeat at) (second_is_none (fault_if (not (nat_lt n ranks)) (Rank at)) (fault_if (list_any (nat_eq n) blocks) (Repeat at)) h)
new_rank _ ranks blocks _ at h = tt

pub rank_passes : (s : State) (ranks : ℕ) (blocks : List ℕ) (t : Token) → rank_fault s ranks blocks t ≡ None → IsNewRank s blocks t.kind
unfolding rank_fault
rank_passes s ranks blocks t h = new_rank s ranks blocks t.kind t.start h

-- What is kept of an item's label is enough for the tokens that may follow: a label that isn't kept is asked for only at a
-- colon, and the sentence can't go on there with one.

-- the state after a token still agrees with what the token gives
abbrev OnState : Option State → ItemHead → ItemHead → Type 0
OnState None kept given = ⊤
OnState (Some s) kept given = KeepsHead s kept given

keeps_entry : (k : TokenKind) (s : State) (at : ℕ) (kept given : ItemHead) → KeepsHead s kept given → OnState (entry s k) (head_with s k at kept) (head_with s k at given)
unfolding entry head_with
keeps_entry (token.Label label) state.Item at kept given keeps = refl
keeps_entry (token.Label label) state.Calc2 at kept given keeps = refl
keeps_entry (token.Label label) state.Send4 at kept given keeps = refl
keeps_entry (token.Label label) state.Recv4 at kept given keeps = refl
keeps_entry token.Requires state.Word at kept given keeps = (keeps, refl)
keeps_entry token.Irequires state.Word at kept given keeps = (keeps, refl)
keeps_entry token.Moves state.Word at kept given keeps = (keeps, refl)
keeps_entry token.Adds state.Word at kept given keeps = (keeps, refl)
keeps_entry (token.Number n) state.Note1 at kept given keeps = λ i. record { subject = keeps.0 i; verb = keeps.1 i; low = n }
keeps_entry token.To state.Note2 at kept given keeps = keeps
keeps_entry token.NumRanks state.Start at kept given keeps = tt
keeps_entry token.Rank state.Top at kept given keeps = tt
keeps_entry token.Open state.Open at kept given keeps = tt
keeps_entry token.Colon state.Word at kept given keeps = tt
keeps_entry token.Close state.Item at kept given keeps = tt
keeps_entry token.Calc state.Item at kept given keeps = tt
keeps_entry token.Send state.Item at kept given keeps = tt
keeps_entry token.Recv state.Item at kept given keeps = tt
keeps_entry (token.Size n) state.Send1 at kept given keeps = tt
keeps_entry token.Tag state.Send4 at kept given keeps = tt
keeps_entry token.Cpu state.Send4 at kept given keeps = tt
keeps_entry token.Nic state.Send4 at kept given keeps = tt
keeps_entry token.From state.Recv2 at kept given keeps = tt
keeps_entry token.Any state.Recv3 at kept given keeps = tt
keeps_entry _ _ at kept given keeps = tt

pub KeepsHead-next : (s next : State) (k : TokenKind) (at : ℕ) (kept given : ItemHead) → entry s k ≡ Some next → KeepsHead s kept given → KeepsHead next (head_with s k at kept) (head_with s k at given)
KeepsHead-next s next k at kept given enters keeps = subst (λ (o : Option State). OnState o (head_with s k at kept) (head_with s k at given)) enters (keeps_entry k s at kept given keeps)

-- a token gives the same names if only the kept label is known
pub defined_kept : (k : TokenKind) (s next : State) (kept given : ItemHead) (op : ℕ) (ds : List Definition) → entry s k ≡ Some next → KeepsHead s kept given
    → defined_with k kept.subject op ds ≡ defined_with k given.subject op ds
unfolding entry defined_with
defined_kept token.Colon state.Word next kept given op ds enters keeps = ap (λ (o : Option Mention). define o op ds) keeps
defined_kept token.Colon _ next kept given op ds enters keeps = cc
defined_kept _ s next kept given op ds enters keeps = refl

pub used_kept : (k : TokenKind) (s : State) (at : ℕ) (kept given : ItemHead) (us : List Mention) → KeepsHead s kept given → used_with s k at kept us ≡ used_with s k at given us
unfolding used_with
used_kept (token.Label label) state.Label at kept given us keeps = ap (λ (o : Option Mention). dep_uses state.Label o (record { label = label; at = at }) us) keeps.0
used_kept (token.Number n) state.Note3 at kept given us keeps = ap (λ (head : ItemHead). note_uses state.Note3 head.subject us) keeps
used_kept _ _ at kept given us keeps = refl

pub deps_kept : (k : TokenKind) (s : State) (kept given : ItemHead) (deps : List NamedDep) → KeepsHead s kept given → deps_with s k kept deps ≡ deps_with s k given deps
unfolding deps_with
deps_kept (token.Label label) state.Label kept given deps keeps = λ i. dep_ended state.Label (keeps.0 i) (keeps.1 i) label deps
deps_kept _ _ kept given deps keeps = refl

pub notes_kept : (k : TokenKind) (s : State) (kept given : ItemHead) (notes : List NamedNote) → KeepsHead s kept given → notes_with s k kept notes ≡ notes_with s k given notes
unfolding notes_with
notes_kept (token.Number n) state.Note3 kept given notes keeps = ap (λ (head : ItemHead). note_ended state.Note3 head.subject head.verb head.low n notes) keeps
notes_kept _ _ kept given notes keeps = refl

-- a token fails the same test first if only the kept label is known
fault_by_kept_head : (s : State) (draft : Draft) (ranks : ℕ) (blocks : List ℕ) (ds : List Definition) (kept given : ItemHead) (counts : Counts) (us : List Mention) (t : Token) → KeepsHead s kept given
    → fault_by s draft ranks blocks ds kept.subject counts us t ≡ fault_by s draft ranks blocks ds given.subject counts us t
unfolding fault_by syntax_fault entry label_fault
fault_by_kept_head s draft ranks blocks ds kept given counts us t keeps = by t.kind s keeps
  where
    by : (k : TokenKind) (s : State) → KeepsHead s kept given
        → fault_by s draft ranks blocks ds kept.subject counts us (record { kind = k; start = t.start; end = t.end }) ≡ fault_by s draft ranks blocks ds given.subject counts us (record { kind = k; start = t.start; end = t.end })
    by token.Colon state.Word keeps = ap (λ (o : Option Mention). fault_by state.Word draft ranks blocks ds o counts us (record { kind = token.Colon; start = t.start; end = t.end })) keeps
    by token.Colon _ keeps = refl
    by _ s keeps = refl

-- what a parser keeps decides the first test that a token fails
pub fault_by_parser_is_token_fault : (parser : Parser) (before : List Token) (t : Token) (fault : Option TextFault) → HasTaken parser before
    → fault ≡ fault_by parser.state parser.draft parser.ranks.count parser.ranks.blocks.keys (defined_of before) parser.head.subject parser.counts (used_of before) t
    → fault ≡ token_fault before t
unfolding token_fault
fault_by_parser_is_token_fault parser before t fault taken h =
    h ∙ fault_by_kept_head parser.state parser.draft parser.ranks.count parser.ranks.blocks.keys (defined_of before) parser.head (head_of before) parser.counts (used_of before) t taken.head
    ∙ (λ i. fault_by (taken.state i) (taken.draft i) (taken.ranks i) (taken.blocks i) (defined_of before) (head_of before).subject (taken.counts i) (used_of before) t)
