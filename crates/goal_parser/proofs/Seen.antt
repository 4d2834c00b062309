-- What tokens give, all in one record, and the tests of a token by it.
use Rattle.std.proofs.Common.{◌≡◌, ℕ, ◌-◌, ◌^◌, ◌<◌, ◌≤◌, arith, Bool, true, false, not, List, [], length, map, Option, Some, None, unwrap_or, slice_set, nat_eq, nat_lt, nat_le, ◌&&◌, ap}
use Rattle.std.specs.Prelude.{⊤}
use Rattle.std.specs.Option.{option_or}
use Rattle.std.specs.List.{list_any}
use Rattle.std.proofs.lemmas.Bool.Decides.{nat_tests}
use Rattle.std.proofs.lemmas.Bool.{le-leb, and_from}
use Rattle.goal_lexer.specs.declared.tokens.Token.{Token}
use Rattle.goal_lexer.specs.declared.tokens.TokenKind.{TokenKind}
use Rattle.goal_lexer.specs.declared.tokens.TokenKind.TheVariants as token
use Rattle.goal_graph.specs.declared.plan.Op.{Op}
use Rattle.goal_graph.specs.Schedule.{Plan}
use Rattle.goal_parser.specs.declared.faults.TextFault.{TextFault}
use Rattle.goal_parser.specs.declared.faults.TextFault.TheVariants as fault
use Rattle.goal_parser.specs.declared.sentence.State.{State}
use Rattle.goal_parser.specs.declared.sentence.State.TheVariants as state
use Rattle.goal_parser.specs.declared.draft.Draft.{Draft}
use Rattle.goal_parser.specs.declared.counts.Counts.{Counts}
use Rattle.goal_parser.specs.declared.head.Mention.{Mention}
use Rattle.goal_parser.specs.declared.head.ItemHead.{ItemHead}
use Rattle.goal_parser.specs.Sentence.{entry, state_of}
use Rattle.goal_parser.specs.Ranks.{ranks_with, ranks_of, blocks_with, blocks_of, rank_with, rank_of}
use Rattle.goal_parser.specs.Actions.{draft_with, draft_of, op_of}
use Rattle.goal_parser.specs.Counts.{counts_with, counts_of, is_too_many}
use Rattle.goal_parser.specs.Items.{Definition, NamedDep, NamedNote, head_with, head_of, ended_ops, ops_with, ops_of, defined_with, defined_of, deps_with, deps_of, notes_with, notes_of, used_with, used_of, dep_by, note_by, ends_action}
use Rattle.goal_parser.specs.Plans.{plans_with, plans_of}
use Rattle.goal_parser.specs.Numbers.{is_within}
use Rattle.goal_parser.specs.Faults.{fault_if, fault_by, syntax_fault, number_fault, rank_fault, option_fault, label_fault, count_fault, unknown_fault}

-- the kinds of tokens
abbrev pub kinds_of : List Token → List TokenKind
kinds_of tokens = map (λ (t : Token). t.kind) tokens

-- all that tokens give
pub record Seen : Type 0 where
  pub state : State
  pub draft : Draft
  pub ranks : ℕ
  pub blocks : List ℕ
  pub rank : ℕ
  pub head : ItemHead
  pub ops : List Op
  pub defined : List Definition
  pub deps : List NamedDep
  pub notes : List NamedNote
  pub used : List Mention
  pub counts : Counts
  pub plans : List Plan

abbrev pub seen_of : List Token → Seen
seen_of before = record {
  state = state_of before;
  draft = draft_of before;
  ranks = ranks_of before;
  blocks = blocks_of before;
  rank = rank_of before;
  head = head_of before;
  ops = ops_of before;
  defined = defined_of before;
  deps = deps_of before;
  notes = notes_of before;
  used = used_of before;
  counts = counts_of before;
  plans = plans_of before;
}

-- the operations of the block, if it ended here
abbrev pub ops_now : Seen → List Op
ops_now s = ended_ops s.state token.Close (op_of s.draft) s.ops

-- the plan of the block, if it ended here
abbrev pub plan_now : Seen → Plan
plan_now s = record { ops = ops_now s; deps = map (dep_by s.defined) s.deps; notes = map (note_by s.defined) s.notes }

-- the same after another token
unfoldable pub step : Token → Seen → Seen
unfolding entry draft_with ranks_with blocks_with rank_with head_with ops_with ends_action defined_with deps_with notes_with used_with counts_with plans_with
step t s = record {
  state = unwrap_or (entry s.state t.kind) s.state;
  draft = draft_with s.state t.kind s.draft;
  ranks = ranks_with s.state t.kind s.ranks;
  blocks = blocks_with s.state t.kind s.blocks;
  rank = rank_with s.state t.kind s.rank;
  head = head_with s.state t.kind t.start s.head;
  ops = ops_with s.state t.kind (op_of s.draft) s.ops;
  defined = defined_with t.kind s.head.subject (length s.ops) s.defined;
  deps = deps_with s.state t.kind s.head s.deps;
  notes = notes_with s.state t.kind s.head s.notes;
  used = used_with s.state t.kind t.start s.head s.used;
  counts = counts_with t.kind s.counts;
  plans = plans_with s.state t.kind s.rank (plan_now s) s.plans;
}

-- the first test that a token fails
unfoldable pub fault_in : Seen → Token → Option TextFault
unfolding fault_by syntax_fault number_fault rank_fault option_fault label_fault count_fault unknown_fault is_within is_too_many entry
fault_in s t = fault_by s.state s.draft s.ranks s.blocks s.defined s.head.subject s.counts s.used t

-- tests that pass

pub passes_number : (low n high : ℕ) (f : TextFault) → low ≤ n → n ≤ high → option_or (fault_if (not (nat_le low n && nat_le n high)) f) None ≡ None
passes_number low n high f above below =
    ap (λ (b : Bool). option_or (fault_if (not b) f) None) (and_from (nat_le low n) (nat_le n high) (le-leb low n above) (le-leb n high below))

-- a number up to a limit, and one of 32 bits
pub passes_upto : (n high : ℕ) (f : TextFault) → n ≤ high → option_or (fault_if (not (nat_le 0 n && nat_le n high)) f) None ≡ None
passes_upto n high f below = passes_number 0 n high f (omega arith) below

pub passes_u32 : (n : ℕ) (f : TextFault) → n < 2 ^ 32 → option_or (fault_if (not (nat_le 0 n && nat_le n (2 ^ 32 - 1))) f) None ≡ None
passes_u32 n f below = passes_upto n (2 ^ 32 - 1) f (omega arith)

pub passes_if_false : (b : Bool) (f : TextFault) → b ≡ false → option_or (fault_if b f) None ≡ None
passes_if_false b f h = ap (λ (c : Bool). option_or (fault_if c f) None) h

-- there is room for one more
pub limit_not_reached : (limit n : ℕ) → n < limit → nat_le limit n ≡ false
limit_not_reached limit n h = grind (arith, nat_tests)

-- the number of a rank
pub passes_rank : (n ranks : ℕ) (blocks : List ℕ) (at : ℕ) → n < ranks → n < 2 ^ 32 → list_any (nat_eq n) blocks ≡ false
    → option_or (fault_if (not (nat_le 0 n && nat_le n (2 ^ 32 - 1))) (fault.Number at))
    (option_or (option_or (fault_if (not (nat_lt n ranks)) (fault.Rank at)) (fault_if (list_any (nat_eq n) blocks) (fault.Repeat at))) None) ≡ None
passes_rank n ranks blocks at below fits fresh =
    let within : nat_le 0 n && nat_le n (2 ^ 32 - 1) ≡ true = grind (arith, nat_tests) in
    let less : nat_lt n ranks ≡ true = grind (arith, nat_tests) in
    rw (within, less, fresh)

-- an item of a block may begin
abbrev pub BeginsItem : State → Type 0
BeginsItem state.Item = ⊤
BeginsItem state.Calc2 = ⊤
BeginsItem state.Send4 = ⊤
BeginsItem state.Recv4 = ⊤
BeginsItem _ = ⊥

-- the label that an item begins with
abbrev pub at_word : Seen → List ℕ → ℕ → Seen
at_word s label at = record s { state = state.Word; ops = ops_now s; head = record s.head { subject = Some (record { label = label; at = at }) } }

-- the state after the end of a block
abbrev pub at_close : Seen → Seen
at_close s = record s { state = state.Top; ops = []; defined = []; deps = []; notes = []; used = []; plans = slice_set s.plans s.rank (plan_now s) }
