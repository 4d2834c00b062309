-- In a text without a fault, the counts and the values are within their limits.
use Rattle.std.proofs.Common.{◌≡◌, ℕ, ◌+◌, ◌*◌, ◌<◌, ◌≤◌, inl, inr, Bool, true, false, ◌&&◌, List, [], ◌∷◌, ◌++◌, length, reverse, replicate, slice_set, nat_le, Option, Some, None, is_none, unwrap_or, refl, sym, ap, subst, ◌∙◌, arith, append_assoc, length-append}
use Rattle.std.specs.Prelude.{⊤, ◌==◌, if◌then◌else◌, slice_index_or}
use Rattle.std.specs.List.{AllByRecursion, sum_by}
use Rattle.std.specs.Option.{option_or}
use Rattle.std.proofs.ByRecursion.{All-append, All-set, All-weaker}
use Rattle.std.proofs.lemmas.List.{length-map, length-set, length-replicate, set_past, reverse-append, append-nil}
use Rattle.std.proofs.lemmas.List.Elements.{All-from_recursion, recursion_from_All, All-replicate}
use Rattle.std.proofs.lemmas.List.Sums.{sum_by-set}
use Rattle.std.proofs.lemmas.List.Folds.{sum_by-replicate}
use Rattle.std.proofs.lemmas.Bool.{and_parts, and_from, leb-true, le-leb, leb-false, cases_lt, true≢false}
use Rattle.goal_lexer.specs.declared.tokens.Token.{Token}
use Rattle.goal_lexer.specs.declared.tokens.TokenKind.{TokenKind}
use Rattle.goal_lexer.specs.declared.tokens.TokenKind.TheVariants as token
use Rattle.goal_lexer.specs.Scan.{lexed}
use Rattle.goal_limits.specs.declared.limits.TheConstants.{MAX_RANKS, MAX_OPS, MAX_DEPS, MAX_NOTES, MAX_BYTES, MAX_NANOS}
use Rattle.goal_graph.specs.declared.plan.Op.{Op}
use Rattle.goal_graph.specs.Schedule.{Plan}
use Rattle.goal_graph.specs.Fault.{op_count, dep_count, note_count, value_fits}
use Rattle.goal_parser.specs.declared.faults.TextFault.{TextFault}
use Rattle.goal_parser.specs.declared.faults.TextFault.TheVariants.{Syntax}
use Rattle.goal_parser.specs.declared.sentence.State.{State}
use Rattle.goal_parser.specs.declared.sentence.State.TheVariants as state
use Rattle.goal_parser.specs.declared.draft.Action.{Action}
use Rattle.goal_parser.specs.declared.draft.Action.TheVariants as action
use Rattle.goal_parser.specs.declared.draft.OptionWord.{OptionWord}
use Rattle.goal_parser.specs.declared.draft.OptionWord.TheVariants as option
use Rattle.goal_parser.specs.declared.draft.Draft.{Draft}
use Rattle.goal_parser.specs.declared.counts.Counts.{Counts}
use Rattle.goal_parser.specs.declared.head.ItemHead.{ItemHead}
use Rattle.goal_parser.specs.declared.head.Mention.{Mention}
use Rattle.goal_parser.specs.Sentence.{entry, state_of}
use Rattle.goal_parser.specs.Numbers.{is_within}
use Rattle.goal_parser.specs.Ranks.{ranks_of, rank_of, blocks_of}
use Rattle.goal_parser.specs.Actions.{draft_with, draft_of, option_with, kind_of, op_of}
use Rattle.goal_parser.specs.Counts.{counts_with, counts_of, is_too_many}
use Rattle.goal_parser.specs.Items.{Definition, NamedDep, NamedNote, ends_action, ended_ops, ops_with, ops_of, head_of, defined_of, used_of, dep_ended, deps_with, deps_of, note_ended, notes_with, notes_of, dep_by, note_by}
use Rattle.goal_parser.specs.Plans.{empty_plan, block_plan, first_plans, plans_with, plans_of}
use Rattle.goal_parser.specs.Faults.{fault_by, token_fault, syntax_fault, number_fault, rank_fault, option_fault, label_fault, count_fault, unknown_fault}
use Rattle.goal_parser.specs.Reads.{first_fault, last_fault, text_fault, text_plans, reading, reads, plans, faulty}
use Rattle.goal_graph.specs.Limits.{HasValue, HaveValues, AreWithinLimits}
use Rattle.goal_parser.proofs.ParserLaws.{first_is_none, second_is_none, no_fault_if_false, number_passes, count_passes}

-- 1 if an operation, a dependency or a note has begun in this state and is not kept yet, else 0
abbrev unfinished_ops : State → ℕ
unfinished_ops state.Calc1 = 1
unfinished_ops state.Calc2 = 1
unfinished_ops state.Calc3 = 1
unfinished_ops state.Send1 = 1
unfinished_ops state.Send2 = 1
unfinished_ops state.Send3 = 1
unfinished_ops state.Send4 = 1
unfinished_ops state.Send5 = 1
unfinished_ops state.Recv1 = 1
unfinished_ops state.Recv2 = 1
unfinished_ops state.Recv3 = 1
unfinished_ops state.Recv4 = 1
unfinished_ops state.Recv5 = 1
unfinished_ops state.Recv6 = 1
unfinished_ops _ = 0

abbrev unfinished_deps : State → ℕ
unfinished_deps state.Label = 1
unfinished_deps _ = 0

abbrev unfinished_notes : State → ℕ
unfinished_notes state.Note1 = 1
unfinished_notes state.Note2 = 1
unfinished_notes state.Note3 = 1
unfinished_notes _ = 0

-- how many of each a token begins, and keeps
abbrev begun_ops : TokenKind → ℕ
begun_ops token.Calc = 1
begun_ops token.Send = 1
begun_ops token.Recv = 1
begun_ops _ = 0

abbrev begun_deps : TokenKind → ℕ
begun_deps token.Requires = 1
begun_deps token.Irequires = 1
begun_deps _ = 0

abbrev begun_notes : TokenKind → ℕ
begun_notes token.Moves = 1
begun_notes token.Adds = 1
begun_notes _ = 0

abbrev kept_ops : State → TokenKind → ℕ
kept_ops s k = if ends_action s k then 1 else 0

abbrev kept_deps : State → TokenKind → ℕ
kept_deps state.Label (token.Label label) = 1
kept_deps _ _ = 0

abbrev kept_notes : State → TokenKind → ℕ
kept_notes state.Note3 (token.Number n) = 1
kept_notes _ _ = 0

-- the state after the token
abbrev pub state_after : State → TokenKind → State
state_after s k = unwrap_or (entry s k) s

-- each operation, dependency or note had begun before it is kept
ops_begun : (s : State) (k : TokenKind) → nat_le (kept_ops s k + unfinished_ops (state_after s k)) (unfinished_ops s + begun_ops k) ≡ true
unfolding ends_action entry
ops_begun state.Start token.Calc = refl
ops_begun _ token.Calc = refl
ops_begun _ _ = refl

deps_begun : (s : State) (k : TokenKind) → nat_le (kept_deps s k + unfinished_deps (state_after s k)) (unfinished_deps s + begun_deps k) ≡ true
unfolding entry
deps_begun state.Start token.Calc = refl
deps_begun _ token.Calc = refl
deps_begun _ _ = refl

notes_begun : (s : State) (k : TokenKind) → nat_le (kept_notes s k + unfinished_notes (state_after s k)) (unfinished_notes s + begun_notes k) ≡ true
unfolding entry
notes_begun state.Start token.Calc = refl
notes_begun _ token.Calc = refl
notes_begun _ _ = refl

-- what has begun is counted
module _ (counts : Counts) where
  ops_counted : (k : TokenKind) → (counts_with k counts).ops ≡ counts.ops + begun_ops k
  unfolding counts_with
  ops_counted token.Calc = refl
  ops_counted token.Send = refl
  ops_counted token.Recv = refl
  ops_counted _ = omega arith

  deps_counted : (k : TokenKind) → (counts_with k counts).deps ≡ counts.deps + begun_deps k
  unfolding counts_with
  deps_counted token.Requires = refl
  deps_counted token.Irequires = refl
  deps_counted _ = omega arith

  notes_counted : (k : TokenKind) → (counts_with k counts).notes ≡ counts.notes + begun_notes k
  unfolding counts_with
  notes_counted token.Moves = refl
  notes_counted token.Adds = refl
  notes_counted _ = omega arith

-- the counts are within the limits
record AreFew (counts : Counts) : Type 0 where
  ops : counts.ops ≤ MAX_OPS
  deps : counts.deps ≤ MAX_DEPS
  notes : counts.notes ≤ MAX_NOTES

successor_fits_below_limit : (limit n : ℕ) → nat_le limit n ≡ false → n + 1 ≤ limit
successor_fits_below_limit limit n h = let below : n < limit = leb-false limit n h in omega arith

counts_stay_few : (k : TokenKind) (counts : Counts) → is_too_many k counts ≡ false → AreFew counts → AreFew (counts_with k counts)
unfolding counts_with is_too_many
counts_stay_few token.Calc counts h few = record { ops = successor_fits_below_limit MAX_OPS counts.ops h; deps = few.deps; notes = few.notes }
counts_stay_few token.Send counts h few = record { ops = successor_fits_below_limit MAX_OPS counts.ops h; deps = few.deps; notes = few.notes }
counts_stay_few token.Recv counts h few = record { ops = successor_fits_below_limit MAX_OPS counts.ops h; deps = few.deps; notes = few.notes }
counts_stay_few token.Requires counts h few = record { ops = few.ops; deps = successor_fits_below_limit MAX_DEPS counts.deps h; notes = few.notes }
counts_stay_few token.Irequires counts h few = record { ops = few.ops; deps = successor_fits_below_limit MAX_DEPS counts.deps h; notes = few.notes }
counts_stay_few token.Moves counts h few = record { ops = few.ops; deps = few.deps; notes = successor_fits_below_limit MAX_NOTES counts.notes h }
counts_stay_few token.Adds counts h few = record { ops = few.ops; deps = few.deps; notes = successor_fits_below_limit MAX_NOTES counts.notes h }
counts_stay_few _ counts h few = few

-- the end of a block moves what it has kept to the plan of its rank
abbrev count_if_closing : TokenKind → ℕ → ℕ
count_if_closing token.Close n = n
count_if_closing _ n = 0

module _ (f : Plan → ℕ) where
  sum_after_slice_set : (ps : List Plan) (rank : ℕ) (plan : Plan) → sum_by f (slice_set ps rank plan) ≤ sum_by f ps + f plan
  sum_after_slice_set ps rank plan = elim (cases_lt rank (length ps)) [
    | inl lt ↦ (let e : sum_by f (slice_set ps rank plan) + f (slice_index_or ps rank empty_plan) ≡ sum_by f ps + f plan = sum_by-set f ps rank plan empty_plan lt in omega arith)
    | inr ge ↦ subst (λ (l : List Plan). sum_by f l ≤ sum_by f ps + f plan) (sym (set_past ps rank plan ge)) (omega arith)
  ]

  first_sum : f empty_plan ≡ 0 → (s : State) (n : ℕ) (ps : List Plan) → sum_by f (first_plans s n ps) ≤ sum_by f ps
  first_sum none state.Ranks n ps =
      let e : sum_by f (replicate n empty_plan) ≡ n * 0 = sum_by-replicate f n empty_plan ∙ ap (λ m. n * m) none in omega arith
  first_sum none _ n ps = omega arith

  plans_sum : f empty_plan ≡ 0 → (s : State) (k : TokenKind) (rank : ℕ) (plan : Plan) (ps : List Plan) → sum_by f (plans_with s k rank plan ps) ≤ sum_by f ps + count_if_closing k (f plan)
  unfolding plans_with
  plans_sum none s token.Close rank plan ps = sum_after_slice_set ps rank plan
  plans_sum none s (token.Number n) rank plan ps = let h = first_sum none s n ps in omega arith
  plans_sum none s _ rank plan ps = omega arith

ended_length : (b : Bool) (op : Op) (ops : List Op) → length (if b then ops ++ op ∷ [] else ops) ≡ length ops + (if b then 1 else 0)
ended_length true op ops = length-append ops (op ∷ [])
ended_length false op ops = omega arith

ops_length : (s : State) (k : TokenKind) (op : Op) (ops : List Op) → length (ops_with s k op ops) + count_if_closing k (length (ended_ops s token.Close op ops)) ≡ length ops + kept_ops s k
unfolding ops_with
ops_length s token.Close op ops = let e = ended_length (ends_action s token.Close) op ops in omega arith
ops_length s k op ops = let e = ended_length (ends_action s k) op ops in omega arith

deps_length : (s : State) (k : TokenKind) (head : ItemHead) (deps : List NamedDep) → length (deps_with s k head deps) + count_if_closing k (length deps) ≤ length deps + kept_deps s k
unfolding deps_with
deps_length state.Label (token.Label label) head deps = by head.subject
  where
    by : (subject : Option Mention) → length (dep_ended state.Label subject head.verb label deps) + 0 ≤ length deps + 1
    by None = omega arith
    by (Some subject) = omega (arith, length-append {A = NamedDep})
deps_length _ token.Close head deps = omega arith
deps_length _ _ head deps = omega arith

notes_length : (s : State) (k : TokenKind) (head : ItemHead) (notes : List NamedNote) → length (notes_with s k head notes) + count_if_closing k (length notes) ≤ length notes + kept_notes s k
unfolding notes_with
notes_length state.Note3 (token.Number n) head notes = by head.subject
  where
    by : (subject : Option Mention) → length (note_ended state.Note3 subject head.verb head.low n notes) + 0 ≤ length notes + 1
    by None = omega arith
    by (Some subject) = omega (arith, length-append {A = NamedNote})
notes_length _ token.Close head notes = omega arith
notes_length _ _ head notes = omega arith

-- the number of ranks
abbrev RanksFit : State → List Plan → Type 0
RanksFit state.Start ps = ⊤
RanksFit state.Ranks ps = ⊤
RanksFit _ ps = (0 < length ps) × (length ps ≤ MAX_RANKS)

bounds_from_passed_tests : (low n high : ℕ) → (nat_le low n && nat_le n high) ≡ true → (low ≤ n) × (n ≤ high)
bounds_from_passed_tests low n high h = let parts = and_parts (nat_le low n) (nat_le n high) h in (leb-true low n parts.0, leb-true n high parts.1)

replicated_ranks_fit : (n : ℕ) → 1 ≤ n → n ≤ MAX_RANKS → (0 < length (replicate n empty_plan)) × (length (replicate n empty_plan) ≤ MAX_RANKS)
replicated_ranks_fit n some few = let e = length-replicate n empty_plan in (omega arith, omega arith)

set_fits : (ps : List Plan) (rank : ℕ) (plan : Plan) → (0 < length ps) × (length ps ≤ MAX_RANKS)
    → (0 < length (slice_set ps rank plan)) × (length (slice_set ps rank plan) ≤ MAX_RANKS)
set_fits ps rank plan h = subst (λ (n : ℕ). (0 < n) × (n ≤ MAX_RANKS)) (sym (length-set ps rank plan)) h

ranks_fit : (s : State) (k : TokenKind) (option : OptionWord) (rank : ℕ) (plan : Plan) (ps : List Plan) → is_within s option k ≡ true → RanksFit s ps → RanksFit (state_after s k) (plans_with s k rank plan ps)
unfolding entry is_within plans_with
ranks_fit state.Start token.NumRanks option rank plan ps w h = tt
ranks_fit state.Start _ option rank plan ps w h = tt
ranks_fit state.Ranks (token.Number n) option rank plan ps w h = let b = bounds_from_passed_tests 1 n MAX_RANKS w in replicated_ranks_fit n b.0 b.1
ranks_fit state.Ranks _ option rank plan ps w h = tt
ranks_fit _ token.Close option rank plan ps w h = set_fits ps rank plan h
ranks_fit _ _ option rank plan ps w h = h

-- the action of the newest operation, its size, and the NIC of a calc
abbrev CalcFits : Draft → Type 0
CalcFits d = (d.action ≡ action.Calc) × (d.nic ≡ 0) × (d.size ≤ MAX_NANOS)

abbrev SendFits : Draft → Type 0
SendFits d = (d.action ≡ action.Send) × (d.size ≤ MAX_BYTES)

abbrev RecvFits : Draft → Type 0
RecvFits d = (d.action ≡ action.Recv) × (d.size ≤ MAX_BYTES)

abbrev DraftFits : State → Draft → Type 0
DraftFits state.Calc1 d = (d.action ≡ action.Calc) × (d.nic ≡ 0)
DraftFits state.Calc2 d = CalcFits d
DraftFits state.Calc3 d = CalcFits d × (d.option ≡ option.Cpu)
DraftFits state.Send1 d = d.action ≡ action.Send
DraftFits state.Send2 d = SendFits d
DraftFits state.Send3 d = SendFits d
DraftFits state.Send4 d = SendFits d
DraftFits state.Send5 d = SendFits d
DraftFits state.Recv1 d = d.action ≡ action.Recv
DraftFits state.Recv2 d = RecvFits d
DraftFits state.Recv3 d = RecvFits d
DraftFits state.Recv4 d = RecvFits d
DraftFits state.Recv5 d = RecvFits d
DraftFits state.Recv6 d = RecvFits d
DraftFits _ d = ⊤

send_option : (o : OptionWord) (n : ℕ) (d : Draft) → SendFits d → SendFits (option_with o n d)
send_option option.Tag n d h = h
send_option option.Cpu n d h = h
send_option option.Nic n d h = h

recv_option : (o : OptionWord) (n : ℕ) (d : Draft) → RecvFits d → RecvFits (option_with o n d)
recv_option option.Tag n d h = h
recv_option option.Cpu n d h = h
recv_option option.Nic n d h = h

draft_fits : (s : State) (k : TokenKind) (d : Draft) → is_none (entry s k) ≡ false → is_within s d.option k ≡ true → DraftFits s d → DraftFits (state_after s k) (draft_with s k d)
unfolding entry is_within draft_with
draft_fits state.Item token.Calc d e w h = (refl, refl)
draft_fits state.Item token.Send d e w h = refl
draft_fits state.Item token.Recv d e w h = refl
draft_fits state.Item _ d e w h = tt
draft_fits state.Action token.Calc d e w h = (refl, refl)
draft_fits state.Action token.Send d e w h = refl
draft_fits state.Action token.Recv d e w h = refl
draft_fits state.Action _ d e w h = tt
draft_fits state.Calc1 (token.Number n) d e w h = (h.0, h.1, (bounds_from_passed_tests 0 n MAX_NANOS w).1)
draft_fits state.Calc1 _ d e w h = absurd (true≢false e)
draft_fits state.Calc2 token.Cpu d e w h = (h, refl)
draft_fits state.Calc2 token.Calc d e w h = (refl, refl)
draft_fits state.Calc2 token.Send d e w h = refl
draft_fits state.Calc2 token.Recv d e w h = refl
draft_fits state.Calc2 token.Close d e w h = tt
draft_fits state.Calc2 (token.Label label) d e w h = tt
draft_fits state.Calc2 _ d e w h = absurd (true≢false e)
draft_fits state.Calc3 (token.Number n) d e w h = subst (λ (o : OptionWord). CalcFits (option_with o n d)) (sym h.1) h.0
draft_fits state.Calc3 _ d e w h = absurd (true≢false e)
draft_fits state.Send1 (token.Number n) d e w h = (h, (bounds_from_passed_tests 0 n MAX_BYTES w).1)
draft_fits state.Send1 (token.Size n) d e w h = (h, (bounds_from_passed_tests 0 n MAX_BYTES w).1)
draft_fits state.Send1 _ d e w h = absurd (true≢false e)
draft_fits state.Send2 token.To d e w h = h
draft_fits state.Send2 _ d e w h = absurd (true≢false e)
draft_fits state.Send3 (token.Number n) d e w h = h
draft_fits state.Send3 _ d e w h = absurd (true≢false e)
draft_fits state.Send4 token.Calc d e w h = (refl, refl)
draft_fits state.Send4 token.Send d e w h = refl
draft_fits state.Send4 token.Recv d e w h = refl
draft_fits state.Send4 token.Close d e w h = tt
draft_fits state.Send4 (token.Label label) d e w h = tt
draft_fits state.Send4 token.Tag d e w h = h
draft_fits state.Send4 token.Cpu d e w h = h
draft_fits state.Send4 token.Nic d e w h = h
draft_fits state.Send4 _ d e w h = absurd (true≢false e)
draft_fits state.Send5 (token.Number n) d e w h = send_option d.option n d h
draft_fits state.Send5 _ d e w h = absurd (true≢false e)
draft_fits state.Recv1 (token.Number n) d e w h = (h, (bounds_from_passed_tests 0 n MAX_BYTES w).1)
draft_fits state.Recv1 (token.Size n) d e w h = (h, (bounds_from_passed_tests 0 n MAX_BYTES w).1)
draft_fits state.Recv1 _ d e w h = absurd (true≢false e)
draft_fits state.Recv2 token.From d e w h = h
draft_fits state.Recv2 _ d e w h = absurd (true≢false e)
draft_fits state.Recv3 (token.Number n) d e w h = h
draft_fits state.Recv3 token.Any d e w h = h
draft_fits state.Recv3 _ d e w h = absurd (true≢false e)
draft_fits state.Recv4 token.Calc d e w h = (refl, refl)
draft_fits state.Recv4 token.Send d e w h = refl
draft_fits state.Recv4 token.Recv d e w h = refl
draft_fits state.Recv4 token.Close d e w h = tt
draft_fits state.Recv4 (token.Label label) d e w h = tt
draft_fits state.Recv4 token.Tag d e w h = h
draft_fits state.Recv4 token.Cpu d e w h = h
draft_fits state.Recv4 token.Nic d e w h = h
draft_fits state.Recv4 _ d e w h = absurd (true≢false e)
draft_fits state.Recv5 (token.Number n) d e w h = recv_option d.option n d h
draft_fits state.Recv5 token.Any d e w h = h
draft_fits state.Recv5 _ d e w h = absurd (true≢false e)
draft_fits state.Recv6 (token.Number n) d e w h = recv_option d.option n d h
draft_fits state.Recv6 _ d e w h = absurd (true≢false e)
draft_fits _ token.NumRanks d e w h = tt
draft_fits _ _ d e w h = tt

-- the operation of an action that ends
ended_action_has_value : (s : State) (k : TokenKind) (d : Draft) → DraftFits s d → ends_action s k ≡ true → HasValue (op_of d)
unfolding ends_action
ended_action_has_value state.Calc2 k d h e =
    subst (λ (a : Action). value_fits (kind_of a d) d.nic ≡ true) (sym h.0)
    (and_from (nat_le d.size MAX_NANOS) (d.nic == 0) (le-leb d.size MAX_NANOS h.2) (subst (λ (n : ℕ). (n == 0) ≡ true) (sym h.1) refl))
ended_action_has_value state.Send4 k d h e = subst (λ (a : Action). value_fits (kind_of a d) d.nic ≡ true) (sym h.0) (le-leb d.size MAX_BYTES h.1)
ended_action_has_value state.Recv4 k d h e = subst (λ (a : Action). value_fits (kind_of a d) d.nic ≡ true) (sym h.0) (le-leb d.size MAX_BYTES h.1)
ended_action_has_value _ k d h e = absurd (true≢false (sym e))

all_have_value_if_op_appended : (b : Bool) (op : Op) (ops : List Op) → (b ≡ true → HasValue op) → AllByRecursion HasValue ops → AllByRecursion HasValue (if b then ops ++ op ∷ [] else ops)
all_have_value_if_op_appended true op ops v all = All-append HasValue ops (op ∷ []) all (v refl, tt)
all_have_value_if_op_appended false op ops v all = all

ops_with_token_have_values : (s : State) (k : TokenKind) (op : Op) (ops : List Op) → (ends_action s k ≡ true → HasValue op) → AllByRecursion HasValue ops → AllByRecursion HasValue (ops_with s k op ops)
unfolding ops_with
ops_with_token_have_values s token.Close op ops v all = tt
ops_with_token_have_values s k op ops v all = all_have_value_if_op_appended (ends_action s k) op ops v all

abbrev KeptValues : Plan → Type 0
KeptValues p = AllByRecursion HasValue p.ops

first_plans_have_values : (s : State) (n : ℕ) (ps : List Plan) → AllByRecursion KeptValues ps → AllByRecursion KeptValues (first_plans s n ps)
first_plans_have_values state.Ranks n ps all = recursion_from_All KeptValues (replicate n empty_plan) (All-replicate KeptValues n empty_plan tt)
first_plans_have_values _ n ps all = all

plans_with_token_have_values : (s : State) (k : TokenKind) (rank : ℕ) (plan : Plan) (ps : List Plan) → KeptValues plan → AllByRecursion KeptValues ps → AllByRecursion KeptValues (plans_with s k rank plan ps)
unfolding plans_with
plans_with_token_have_values s token.Close rank plan ps p all = All-set KeptValues ps rank plan p all
plans_with_token_have_values s (token.Number n) rank plan ps p all = first_plans_have_values s n ps all
plans_with_token_have_values s _ rank plan ps p all = all

-- what holds after tokens that fail no test
record KeepsLimits (before : List Token) : Type 0 where
  ops : op_count (plans_of before) + length (ops_of before) + unfinished_ops (state_of before) ≤ (counts_of before).ops
  deps : dep_count (plans_of before) + length (deps_of before) + unfinished_deps (state_of before) ≤ (counts_of before).deps
  notes : note_count (plans_of before) + length (notes_of before) + unfinished_notes (state_of before) ≤ (counts_of before).notes
  few : AreFew (counts_of before)
  ranks : RanksFit (state_of before) (plans_of before)
  draft : DraftFits (state_of before) (draft_of before)
  values : AllByRecursion HasValue (ops_of before)
  plans : AllByRecursion KeptValues (plans_of before)

keeps_before_all : KeepsLimits []
unfolding op_count dep_count note_count state_of draft_of ops_of deps_of notes_of counts_of plans_of
keeps_before_all = record {
  ops = omega arith;
  deps = omega arith;
  notes = omega arith;
  few = record { ops = omega arith; deps = omega arith; notes = omega arith };
  ranks = tt;
  draft = tt;
  values = tt;
  plans = tt;
}

-- the tests that a token passes
record PassesLimitTests (s : State) (o : OptionWord) (counts : Counts) (t : Token) : Type 0 where
  known : is_none (entry s t.kind) ≡ false
  within : is_within s o t.kind ≡ true
  few : is_too_many t.kind counts ≡ false

known_passes : (s : State) (t : Token) → syntax_fault s t ≡ None → is_none (entry s t.kind) ≡ false
unfolding syntax_fault
known_passes s t h = no_fault_if_false (is_none (entry s t.kind)) (Syntax t.start) h

faultless_token_passes_limits : (s : State) (draft : Draft) (ranks : ℕ) (blocks : List ℕ) (ds : List Definition) (subject : Option Mention) (counts : Counts) (us : List Mention) (t : Token)
    → fault_by s draft ranks blocks ds subject counts us t ≡ None → PassesLimitTests s draft.option counts t
unfolding fault_by
faultless_token_passes_limits s draft ranks blocks ds subject counts us t h =
    let last = option_or (count_fault counts t) (unknown_fault ds us t) in
    let labels = option_or (label_fault ds subject t) last in
    let options = option_or (option_fault draft t) labels in
    let numbered = option_or (rank_fault s ranks blocks t) options in
    let sized = option_or (number_fault s draft.option t) numbered in
    let behind_syntax = second_is_none (syntax_fault s t) sized h in
    let behind_number = second_is_none (number_fault s draft.option t) numbered behind_syntax in
    let behind_rank = second_is_none (rank_fault s ranks blocks t) options behind_number in
    let behind_option = second_is_none (option_fault draft t) labels behind_rank in
    let behind_label = second_is_none (label_fault ds subject t) last behind_option in
    record {
      known = known_passes s t (first_is_none (syntax_fault s t) sized h);
      within = number_passes s draft.option t (first_is_none (number_fault s draft.option t) numbered behind_syntax);
      few = count_passes counts t (first_is_none (count_fault counts t) (unknown_fault ds us t) behind_label);
    }

token_passes : (before : List Token) (t : Token) → token_fault before t ≡ None → PassesLimitTests (state_of before) (draft_of before).option (counts_of before) t
unfolding token_fault
token_passes before t h = faultless_token_passes_limits (state_of before) (draft_of before) (ranks_of before) (blocks_of before) (defined_of before) (head_of before).subject (counts_of before) (used_of before) t h

-- after another token: what is kept and what has begun is still within the count
sum_stays_within_count : (new old length_new length_old closed kept_one acting_new acting_old begun count count_new : ℕ)
    → new ≤ old + closed → length_new + closed ≤ length_old + kept_one → kept_one + acting_new ≤ acting_old + begun → count_new ≡ count + begun
    → old + length_old + acting_old ≤ count → new + length_new + acting_new ≤ count_new
sum_stays_within_count new old length_new length_old closed kept_one acting_new acting_old begun count count_new p l a c h = omega arith

same_le : (a b : ℕ) → a ≡ b → a ≤ b
same_le a b e = omega arith

module _ (before : List Token) (t : Token) (passes : PassesLimitTests (state_of before) (draft_of before).option (counts_of before) t) (keeps : KeepsLimits before) where
  ops_with_token : op_count (plans_of (t ∷ before)) + length (ops_of (t ∷ before)) + unfinished_ops (state_of (t ∷ before)) ≤ (counts_of (t ∷ before)).ops
  unfolding op_count plans_of ops_of state_of counts_of
  ops_with_token =
      let s = state_of before in let k = t.kind in let op = op_of (draft_of before) in let ops = ops_of before in
      sum_stays_within_count (op_count (plans_with s k (rank_of before) (block_plan before) (plans_of before))) (op_count (plans_of before)) (length (ops_with s k op ops)) (length ops) (count_if_closing k (length (ended_ops s token.Close op ops))) (kept_ops s k) (unfinished_ops (state_after s k)) (unfinished_ops s) (begun_ops k) (counts_of before).ops (counts_with k (counts_of before)).ops
      (plans_sum (λ (p : Plan). length p.ops) refl s k (rank_of before) (block_plan before) (plans_of before))
      (same_le (length (ops_with s k op ops) + count_if_closing k (length (ended_ops s token.Close op ops))) (length ops + kept_ops s k) (ops_length s k op ops))
      (leb-true (kept_ops s k + unfinished_ops (state_after s k)) (unfinished_ops s + begun_ops k) (ops_begun s k))
      (ops_counted (counts_of before) k)
      keeps.ops

  deps_with_token : dep_count (plans_of (t ∷ before)) + length (deps_of (t ∷ before)) + unfinished_deps (state_of (t ∷ before)) ≤ (counts_of (t ∷ before)).deps
  unfolding dep_count plans_of deps_of state_of counts_of
  deps_with_token =
      let s = state_of before in let k = t.kind in let deps = deps_of before in
      let plan = block_plan before in
      sum_stays_within_count (dep_count (plans_with s k (rank_of before) plan (plans_of before))) (dep_count (plans_of before)) (length (deps_with s k (head_of before) deps)) (length deps) (count_if_closing k (length deps)) (kept_deps s k) (unfinished_deps (state_after s k)) (unfinished_deps s) (begun_deps k) (counts_of before).deps (counts_with k (counts_of before)).deps
      (subst (λ (n : ℕ). dep_count (plans_with s k (rank_of before) plan (plans_of before)) ≤ dep_count (plans_of before) + count_if_closing k n) (length-map deps (dep_by (defined_of before)))
      (plans_sum (λ (p : Plan). length p.deps) refl s k (rank_of before) plan (plans_of before)))
      (deps_length s k (head_of before) deps)
      (leb-true (kept_deps s k + unfinished_deps (state_after s k)) (unfinished_deps s + begun_deps k) (deps_begun s k))
      (deps_counted (counts_of before) k)
      keeps.deps

  notes_with_token : note_count (plans_of (t ∷ before)) + length (notes_of (t ∷ before)) + unfinished_notes (state_of (t ∷ before)) ≤ (counts_of (t ∷ before)).notes
  unfolding note_count plans_of notes_of state_of counts_of
  notes_with_token =
      let s = state_of before in let k = t.kind in let notes = notes_of before in
      let plan = block_plan before in
      sum_stays_within_count (note_count (plans_with s k (rank_of before) plan (plans_of before))) (note_count (plans_of before)) (length (notes_with s k (head_of before) notes)) (length notes) (count_if_closing k (length notes)) (kept_notes s k) (unfinished_notes (state_after s k)) (unfinished_notes s) (begun_notes k) (counts_of before).notes (counts_with k (counts_of before)).notes
      (subst (λ (n : ℕ). note_count (plans_with s k (rank_of before) plan (plans_of before)) ≤ note_count (plans_of before) + count_if_closing k n) (length-map notes (note_by (defined_of before)))
      (plans_sum (λ (p : Plan). length p.notes) refl s k (rank_of before) plan (plans_of before)))
      (notes_length s k (head_of before) notes)
      (leb-true (kept_notes s k + unfinished_notes (state_after s k)) (unfinished_notes s + begun_notes k) (notes_begun s k))
      (notes_counted (counts_of before) k)
      keeps.notes

  keeps_with_token : KeepsLimits (t ∷ before)
  unfolding state_of draft_of ops_of counts_of plans_of
  keeps_with_token =
      let s = state_of before in let k = t.kind in let op = op_of (draft_of before) in
      let value = λ (j : TokenKind). ended_action_has_value s j (draft_of before) keeps.draft in
      record {
        ops = ops_with_token;
        deps = deps_with_token;
        notes = notes_with_token;
        few = counts_stay_few k (counts_of before) passes.few keeps.few;
        ranks = ranks_fit s k (draft_of before).option (rank_of before) (block_plan before) (plans_of before) passes.within keeps.ranks;
        draft = draft_fits s k (draft_of before) passes.known passes.within keeps.draft;
        values = ops_with_token_have_values s k op (ops_of before) (value k) keeps.values;
        plans = plans_with_token_have_values s k (rank_of before) (block_plan before) (plans_of before) (all_have_value_if_op_appended (ends_action s token.Close) op (ops_of before) (value token.Close) keeps.values) keeps.plans;
      }

-- all tokens of a text without a fault
keeps_all : (before tokens : List Token) → first_fault before tokens ≡ None → KeepsLimits before → KeepsLimits (reverse tokens ++ before)
unfolding first_fault
keeps_all before [] passed keeps = keeps
keeps_all before (t ∷ tokens) passed keeps =
    let here = token_passes before t (first_is_none (token_fault before t) (first_fault (t ∷ before) tokens) passed) in
    let rest = second_is_none (token_fault before t) (first_fault (t ∷ before) tokens) passed in
    let turned : reverse (t ∷ tokens) ++ before ≡ reverse tokens ++ t ∷ before =
    ap (λ l. l ++ before) (reverse-append (t ∷ []) tokens) ∙ append_assoc (reverse tokens) (t ∷ []) before in
    subst KeepsLimits (sym turned) (keeps_all (t ∷ before) tokens rest (keeps_with_token before t here keeps))

-- where the text may end
last_fits : (o : Option ℕ) (s : State) (place : ℕ) (ps : List Plan) → last_fault o s place ≡ None → RanksFit s ps → (0 < length ps) × (length ps ≤ MAX_RANKS)
last_fits None state.Top place ps h fits = fits
last_fits None _ place ps h fits = cc
last_fits (Some at) _ place ps h fits = cc

within_limits : (before : List Token) → KeepsLimits before → (0 < length (plans_of before)) × (length (plans_of before) ≤ MAX_RANKS) → AreWithinLimits (plans_of before)
within_limits before keeps fits =
    let k = keeps in let few = k.few in
    let ops = k.ops in let deps = k.deps in let notes = k.notes in
    let o = few.ops in let d = few.deps in let n = few.notes in
    record {
      counts = record { some_rank = fits.0; ranks = fits.1; ops = omega arith; deps = omega arith; notes = omega arith };
      values = All-from_recursion HaveValues (plans_of before) (All-weaker KeptValues HaveValues (λ p all. All-from_recursion HasValue p.ops all) (plans_of before) k.plans);
    }

text_within_limits : (text : List ℕ) → text_fault text ≡ None → AreWithinLimits (text_plans text)
unfolding text_fault text_plans
text_within_limits text passed =
    let tokens = (lexed text).0 in
    let last = last_fault (lexed text).1 (state_of (reverse tokens)) (length text) in
    let keeps = subst KeepsLimits (append-nil (reverse tokens)) (keeps_all [] tokens (first_is_none (first_fault [] tokens) last passed) keeps_before_all) in
    within_limits (reverse tokens) keeps (last_fits (lexed text).1 (state_of (reverse tokens)) (length text) (plans_of (reverse tokens)) (second_is_none (first_fault [] tokens) last passed) keeps.ranks)

reading_within_limits : (fault : Option TextFault) (said ps : List Plan) → (fault ≡ None → AreWithinLimits said) → reading fault said ≡ plans ps → AreWithinLimits ps
reading_within_limits None said ps h is = subst AreWithinLimits (same said ps is) (h refl)
  where
    same : (a b : List Plan) → plans a ≡ plans b → a ≡ b
    same a b e = cc
reading_within_limits (Some f) said ps h is = absurd (apart f ps is)
  where
    apart : (f : TextFault) (b : List Plan) → faulty f ≡ plans b → ⊥
    apart f b e = cc

pub plans_within_limits : (text : List ℕ) (ps : List Plan) → reads text ≡ plans ps → AreWithinLimits ps
unfolding reads
plans_within_limits text ps is = reading_within_limits (text_fault text) (text_plans text) ps (text_within_limits text) is
