-- The state of a parser after the tokens that it has taken.
use Rattle.std.specs.Prelude.{◌≡◌, List, ◌∷◌, None, Some, ⊤, true}
use Rattle.goal_lexer.specs.declared.tokens.Token.{Token}
use Rattle.goal_lexer.specs.declared.tokens.TokenKind.{TokenKind}
use Rattle.goal_lexer.specs.declared.tokens.TokenKind.TheVariants as token
use Rattle.goal_parser.specs.declared.token_faults.TokenFault.{TokenFault}
use Rattle.goal_parser.specs.declared.parser.Parser.{Parser}
use Rattle.goal_parser.specs.declared.sentence.State.{State}
use Rattle.goal_parser.specs.declared.sentence.State.TheVariants as state
use Rattle.goal_parser.specs.declared.head.ItemHead.{ItemHead}
use Rattle.goal_parser.specs.Sentence.{state_of}
use Rattle.goal_parser.specs.Ranks.{ranks_of, rank_of, blocks_of}
use Rattle.goal_parser.specs.Counts.{counts_of}
use Rattle.goal_parser.specs.Actions.{draft_of}
use Rattle.goal_parser.specs.Items.{head_of, ops_of, defined_of, used_of, deps_of, notes_of}
use Rattle.goal_parser.specs.Plans.{plans_of}
use Rattle.goal_parser.specs.Faults.{token_fault}
use Rattle.goal_parser.specs.FaultInText.{fault_in_text}
use Rattle.goal_parser.specs.Slots.{NamesHold}
use Rattle.goal_parser.specs.declared.draft.OptionWord.{OptionWord}
use Rattle.goal_parser.specs.Numbers.{is_within}

-- What is kept of the newest item that begins with a label, while its tokens need it: the label, then its verb, then
-- its first slot.
abbrev pub KeepsHead : State → ItemHead → ItemHead → Type 0
KeepsHead state.Word kept given = kept.subject ≡ given.subject
KeepsHead state.Label kept given = (kept.subject ≡ given.subject) × (kept.verb ≡ given.verb)
KeepsHead state.Note1 kept given = (kept.subject ≡ given.subject) × (kept.verb ≡ given.verb)
KeepsHead state.Note2 kept given = kept ≡ given
KeepsHead state.Note3 kept given = kept ≡ given
KeepsHead _ kept given = ⊤

-- The parser has taken these tokens, of which the newest comes first, and its state is what they give.
pub record HasTaken (parser : Parser) (before : List Token) : Type 0 where
  pub state : parser.state ≡ state_of before
  pub ranks : parser.ranks.count ≡ ranks_of before
  pub rank : parser.ranks.present ≡ rank_of before
  pub blocks : parser.ranks.blocks.keys ≡ blocks_of before
  pub counts : parser.counts ≡ counts_of before
  pub draft : parser.draft ≡ draft_of before
  pub head : KeepsHead parser.state parser.head (head_of before)
  pub ops : parser.block.ops.items ≡ ops_of before
  pub names : NamesHold parser.block.names (defined_of before) (used_of before) (deps_of before) (notes_of before)
  pub plans : parser.plans.items ≡ plans_of before

-- the parser takes the token: it fails no test, and the state is updated by it
abbrev pub Takes : Parser → Token → Parser → Type 0
Takes old token new = (before : List Token) → HasTaken old before → (token_fault before token ≡ None) × HasTaken new (token ∷ before)

-- the parser refuses the token: this is the first test that it fails
abbrev pub Refuses : Parser → Token → TokenFault → Type 0
Refuses old token fault = (before : List Token) → HasTaken old before → token_fault before token ≡ Some (fault_in_text fault)

-- the word of an action
abbrev pub IsAction : TokenKind → Type 0
IsAction token.Calc = ⊤
IsAction token.Send = ⊤
IsAction token.Recv = ⊤
IsAction _ = ⊥

-- the word of an option
abbrev pub IsOption : TokenKind → Type 0
IsOption token.Tag = ⊤
IsOption token.Cpu = ⊤
IsOption token.Nic = ⊤
IsOption _ = ⊥

-- the word of a dependency or a note
abbrev pub IsVerb : TokenKind → Type 0
IsVerb token.Requires = ⊤
IsVerb token.Irequires = ⊤
IsVerb token.Moves = ⊤
IsVerb token.Adds = ⊤
IsVerb _ = ⊥

-- a word or a sign that only changes the grammar's state
abbrev pub IsPlain : TokenKind → Type 0
IsPlain token.NumRanks = ⊤
IsPlain token.Rank = ⊤
IsPlain token.To = ⊤
IsPlain token.From = ⊤
IsPlain token.Open = ⊤
IsPlain _ = ⊥

-- the number is within the limit of its place after some option word
abbrev pub IsWithin : State → TokenKind → Type 0
IsWithin s kind = (option : OptionWord) × (is_within s option kind ≡ true)
