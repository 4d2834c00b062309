-- The sentences of a text as they are written: their tokens and their meaning.
use Rattle.std.specs.Prelude.{◌≡◌, ℕ, ◌+◌, ◌<◌, ◌≤◌, ◌==◌, Bool, true, false, List, [], ◌∷◌, ◌++◌, Option, Some, None, length, map, unwrap_or, IsSome, slice_index_or, bytes_eq, if◌then◌else◌, All, ⊤, ◌^◌, nat_eq}
use Rattle.std.specs.List.{flat_map, count_by, sum_by, list_any}
use Rattle.goal_lexer.specs.declared.tokens.Token.{Token}
use Rattle.goal_lexer.specs.declared.tokens.TokenKind.{TokenKind}
use Rattle.goal_lexer.specs.declared.tokens.TokenKind.TheVariants as token
use Rattle.goal_limits.specs.Limits.{rank_limit, op_limit, dep_limit, note_limit, size_limit, calc_limit}
use Rattle.goal_graph.specs.declared.plan.Op.{Op}
use Rattle.goal_graph.specs.declared.plan.Kind.TheVariants as kind
use Rattle.goal_graph.specs.declared.plan.Dep.{Dep}
use Rattle.goal_graph.specs.declared.plan.When.TheVariants.{AfterEnd, AfterStart}
use Rattle.goal_graph.specs.declared.plan.Note.{Note}
use Rattle.goal_graph.specs.declared.plan.Note.TheVariants as note
use Rattle.goal_graph.specs.Schedule.{Plan}
use Rattle.goal_parser.specs.Items.{Definition, is_defined, op_number}
use Rattle.goal_parser.specs.Plans.{empty_plan}
use Rattle.goal_parser.specs.declared.sentence.State.{State}
use Rattle.goal_parser.specs.declared.sentence.State.TheVariants as state

-- a size: `10` or `10b`
pub data Amount : Type 0 where
  plain : ℕ → Amount
  marked : ℕ → Amount

-- an option of an action with its number; a tag may be `any`
pub data Setting : Type 0 where
  tag : Option ℕ → Setting
  cpu : ℕ → Setting
  nic : ℕ → Setting

-- An item of a block. A label and a colon may precede an action; `any` is None:
--   calc T cpu C · send S to R .. · recv S from R .. · X requires Y · X irequires Y · X moves A to B · X adds A to B
pub data Item : Type 0 where
  calc : Option (List ℕ) → ℕ → Option ℕ → Item
  send : Option (List ℕ) → Amount → ℕ → List Setting → Item
  recv : Option (List ℕ) → Amount → Option ℕ → List Setting → Item
  requires : List ℕ → List ℕ → Item
  irequires : List ℕ → List ℕ → Item
  moves : List ℕ → ℕ → ℕ → Item
  adds : List ℕ → ℕ → ℕ → Item

-- a rank and the items of its block
pub record Block : Type 0 where
  pub rank : ℕ
  pub items : List Item

-- a text: its number of ranks, followed by blocks
pub record Written : Type 0 where
  pub ranks : ℕ
  pub blocks : List Block

-- The tokens of sentences.

abbrev pub number_or_any : Option ℕ → TokenKind
number_or_any None = token.Any
number_or_any (Some n) = token.Number n

abbrev pub amount_token : Amount → TokenKind
amount_token (plain n) = token.Number n
amount_token (marked n) = token.Size n

abbrev pub setting_tokens : Setting → List TokenKind
setting_tokens (tag n) = token.Tag ∷ number_or_any n ∷ []
setting_tokens (cpu n) = token.Cpu ∷ token.Number n ∷ []
setting_tokens (nic n) = token.Nic ∷ token.Number n ∷ []

abbrev pub label_tokens : Option (List ℕ) → List TokenKind
label_tokens None = []
label_tokens (Some label) = token.Label label ∷ token.Colon ∷ []

abbrev pub cpu_tokens : Option ℕ → List TokenKind
cpu_tokens None = []
cpu_tokens (Some n) = token.Cpu ∷ token.Number n ∷ []

abbrev pub item_tokens : Item → List TokenKind
item_tokens (calc label nanos on) = label_tokens label ++ token.Calc ∷ token.Number nanos ∷ cpu_tokens on
item_tokens (send label size to settings) =
    label_tokens label ++ token.Send ∷ amount_token size ∷ token.To ∷ token.Number to ∷ flat_map setting_tokens settings
item_tokens (recv label size from settings) =
    label_tokens label ++ token.Recv ∷ amount_token size ∷ token.From ∷ number_or_any from ∷ flat_map setting_tokens settings
item_tokens (requires later earlier) = token.Label later ∷ token.Requires ∷ token.Label earlier ∷ []
item_tokens (irequires later earlier) = token.Label later ∷ token.Irequires ∷ token.Label earlier ∷ []
item_tokens (moves label first last) = token.Label label ∷ token.Moves ∷ token.Number first ∷ token.To ∷ token.Number last ∷ []
item_tokens (adds label from to) = token.Label label ∷ token.Adds ∷ token.Number from ∷ token.To ∷ token.Number to ∷ []

abbrev pub block_tokens : Block → List TokenKind
block_tokens b = token.Rank ∷ token.Number b.rank ∷ token.Open ∷ flat_map item_tokens b.items ++ token.Close ∷ []

abbrev pub text_tokens : Written → List TokenKind
text_tokens w = token.NumRanks ∷ token.Number w.ranks ∷ flat_map block_tokens w.blocks

-- The meaning of sentences.

abbrev pub amount : Amount → ℕ
amount (plain n) = n
amount (marked n) = n

-- the number of an option, or 0 if it is not given
abbrev pub tag_of : List Setting → Option ℕ
tag_of [] = Some 0
tag_of (tag n ∷ settings) = n
tag_of (cpu n ∷ settings) = tag_of settings
tag_of (nic n ∷ settings) = tag_of settings

abbrev pub cpu_of : List Setting → ℕ
cpu_of [] = 0
cpu_of (cpu n ∷ settings) = n
cpu_of (tag n ∷ settings) = cpu_of settings
cpu_of (nic n ∷ settings) = cpu_of settings

abbrev pub nic_of : List Setting → ℕ
nic_of [] = 0
nic_of (nic n ∷ settings) = n
nic_of (tag n ∷ settings) = nic_of settings
nic_of (cpu n ∷ settings) = nic_of settings

-- the operation of an item, if it is an action
abbrev pub op_said : Item → List Op
op_said (calc label nanos on) = record { kind = kind.Calc nanos; cpu = unwrap_or on 0; nic = 0 } ∷ []
op_said (send label size to settings) =
    record { kind = kind.Send (amount size) to (unwrap_or (tag_of settings) 0); cpu = cpu_of settings; nic = nic_of settings } ∷ []
op_said (recv label size from settings) =
    record { kind = kind.Recv (amount size) from (tag_of settings); cpu = cpu_of settings; nic = nic_of settings } ∷ []
op_said _ = []

-- the label of an action, if it has one, defines its operation
abbrev pub defined_before : Option (List ℕ) → ℕ → List Definition
defined_before None op = []
defined_before (Some label) op = record { label = label; op = op } ∷ []

abbrev pub defined_by : Item → ℕ → List Definition
defined_by (calc label nanos on) op = defined_before label op
defined_by (send label size to settings) op = defined_before label op
defined_by (recv label size from settings) op = defined_before label op
defined_by _ op = []

-- the labels that items define, after `op` operations of their block
abbrev pub definitions : ℕ → List Item → List Definition
definitions op [] = []
definitions op (item ∷ items) = defined_by item op ++ definitions (op + length (op_said item)) items

-- the dependency or the note of an item, if it is one, with labels defined as given
abbrev pub dep_said : List Definition → Item → List Dep
dep_said ds (requires later earlier) = record { later = op_number ds later; earlier = op_number ds earlier; when = AfterEnd } ∷ []
dep_said ds (irequires later earlier) = record { later = op_number ds later; earlier = op_number ds earlier; when = AfterStart } ∷ []
dep_said ds _ = []

abbrev pub note_said : List Definition → Item → List Note
note_said ds (moves label first last) = note.Moves (op_number ds label) first last ∷ []
note_said ds (adds label from to) = note.Adds (op_number ds label) from to ∷ []
note_said ds _ = []

-- the plan of a block: its operations, its dependencies and its notes, in the order of its items
abbrev pub plan_said : List Item → Plan
plan_said items = record {
  ops = flat_map op_said items;
  deps = flat_map (dep_said (definitions 0 items)) items;
  notes = flat_map (note_said (definitions 0 items)) items;
}

-- the plan of a rank: that of its block, or an empty one if it has none
abbrev pub rank_said : List Block → ℕ → Plan
rank_said [] rank = empty_plan
rank_said (b ∷ bs) rank = if rank == b.rank then plan_said b.items else rank_said bs rank

-- the plans of all ranks are those of the sentences
pub record AreSaid (w : Written) (ps : List Plan) : Type 0 where
  pub ranks : length ps ≡ w.ranks
  pub each : (rank : ℕ) → rank < w.ranks → slice_index_or ps rank empty_plan ≡ rank_said w.blocks rank

-- The rules of sentences.

-- the labels that a dependency or a note uses
abbrev pub used_by : Item → List (List ℕ)
used_by (requires later earlier) = later ∷ earlier ∷ []
used_by (irequires later earlier) = later ∷ earlier ∷ []
used_by (moves label first last) = label ∷ []
used_by (adds label from to) = label ∷ []
used_by _ = []

abbrev pub is_tag : Setting → Bool
is_tag (tag n) = true
is_tag _ = false

abbrev pub is_cpu : Setting → Bool
is_cpu (cpu n) = true
is_cpu _ = false

abbrev pub is_nic : Setting → Bool
is_nic (nic n) = true
is_nic _ = false

-- each option is given at most once
pub record AreGivenOnce (settings : List Setting) : Type 0 where
  pub tags : count_by is_tag settings ≤ 1
  pub cpus : count_by is_cpu settings ≤ 1
  pub nics : count_by is_nic settings ≤ 1

abbrev pub HasOptionsOnce : Item → Type 0
HasOptionsOnce (send label size to settings) = AreGivenOnce settings
HasOptionsOnce (recv label size from settings) = AreGivenOnce settings
HasOptionsOnce _ = ⊤

-- a block defines each label at most once and each label that it uses, and each action gives each option at most once
pub record KeepsRules (b : Block) : Type 0 where
  pub once : (label : List ℕ) → count_by (λ (d : Definition). bytes_eq label d.label) (definitions 0 b.items) ≤ 1
  pub defined : All (λ (label : List ℕ). is_defined (definitions 0 b.items) label ≡ true) (flat_map used_by b.items)
  pub options : All HasOptionsOnce b.items

-- the blocks belong to existing ranks, at most one to each, and obey the rules
pub record AreRight (w : Written) : Type 0 where
  pub ranks : All (λ (b : Block). b.rank < w.ranks) w.blocks
  pub once : (rank : ℕ) → count_by (λ (b : Block). rank == b.rank) w.blocks ≤ 1
  pub blocks : All KeepsRules w.blocks

-- The limits of sentences.

-- the number of an option is within its limit; `any` has no number
abbrev pub IsSettingWithin : Setting → Type 0
IsSettingWithin (tag n) = unwrap_or n 0 < 2 ^ 32
IsSettingWithin (cpu n) = n ≤ 255
IsSettingWithin (nic n) = n ≤ 255

-- the tag of a send is a number
abbrev pub IsOfSend : Setting → Type 0
IsOfSend (tag n) = IsSome n
IsOfSend _ = ⊤

abbrev pub IsItemWithin : Item → Type 0
IsItemWithin (calc label nanos on) = (nanos ≤ calc_limit) × (unwrap_or on 0 ≤ 255)
IsItemWithin (send label size to settings) = (amount size ≤ size_limit) × (to < 2 ^ 32) × All IsSettingWithin settings × All IsOfSend settings
IsItemWithin (recv label size from settings) = (amount size ≤ size_limit) × (unwrap_or from 0 < 2 ^ 32) × All IsSettingWithin settings
IsItemWithin (moves label first last) = (first < 2 ^ 32) × (last < 2 ^ 32)
IsItemWithin (adds label from to) = (from < 2 ^ 32) × (to < 2 ^ 32)
IsItemWithin _ = ⊤

-- the numbers of operations, dependencies and notes of all blocks together
abbrev pub ops_in : List Block → ℕ
ops_in bs = sum_by (λ (b : Block). length (plan_said b.items).ops) bs

abbrev pub deps_in : List Block → ℕ
deps_in bs = sum_by (λ (b : Block). length (plan_said b.items).deps) bs

abbrev pub notes_in : List Block → ℕ
notes_in bs = sum_by (λ (b : Block). length (plan_said b.items).notes) bs

-- the numbers of ranks, operations, dependencies and notes are within their limits, and so is each other number
pub record AreWithin (w : Written) : Type 0 where
  pub some_rank : 1 ≤ w.ranks
  pub ranks : w.ranks ≤ rank_limit
  pub ops : ops_in w.blocks ≤ op_limit
  pub deps : deps_in w.blocks ≤ dep_limit
  pub notes : notes_in w.blocks ≤ note_limit
  pub items : All (λ (b : Block). All IsItemWithin b.items) w.blocks

-- the tokens are those of sentences that obey the rules, and these are the plans of the sentences
pub record IsWritten (tokens : List Token) (ps : List Plan) : Type 0 where
  pub written : Written
  pub spelled : map (λ (t : Token). t.kind) tokens ≡ text_tokens written
  pub right : AreRight written
  pub said : AreSaid written ps

-- a rank that this token gives had no block before
abbrev pub IsNewRank : State → List ℕ → TokenKind → Type 0
IsNewRank state.Block blocks (token.Number n) = list_any (nat_eq n) blocks ≡ false
IsNewRank _ blocks _ = ⊤
