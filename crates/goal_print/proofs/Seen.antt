-- Reading tokens by their kinds, wherever they are.
use Rattle.std.proofs.Common.{◌≡◌, ℕ, List, [], ◌∷◌, ◌++◌, reverse, None, refl, sym, ap, subst, ◌∙◌, append_assoc}
use Rattle.std.specs.Option.{option_or, option_map}
use Rattle.std.proofs.lemmas.List.{reverse-append}
use Rattle.goal_lexer.specs.declared.tokens.Token.{Token}
use Rattle.goal_lexer.specs.declared.tokens.TokenKind.{TokenKind}
use Rattle.goal_lexer.specs.declared.tokens.TokenKind.TheVariants as token
use Rattle.goal_graph.specs.Schedule.{Plan}
use Rattle.goal_parser.specs.declared.faults.TextFault.TheVariants as fault
use Rattle.goal_parser.specs.declared.sentence.State.{State}
use Rattle.goal_parser.specs.declared.sentence.State.TheVariants as state
use Rattle.goal_parser.specs.Sentence.{state_of}
use Rattle.goal_parser.specs.Ranks.{ranks_of, blocks_of, rank_of}
use Rattle.goal_parser.specs.Actions.{draft_of}
use Rattle.goal_parser.specs.Counts.{counts_of}
use Rattle.goal_parser.specs.Items.{head_of, ops_of, defined_of, deps_of, notes_of, used_of, first_unknown}
use Rattle.goal_parser.specs.Plans.{plans_of}
use Rattle.goal_parser.specs.Faults.{token_fault}
use Rattle.goal_parser.specs.Reads.{first_fault}
pub use Rattle.goal_parser.proofs.ForCallers.{Seen, seen_of, ops_now, plan_now, passes_number, passes_upto, passes_u32, passes_if_false, passes_rank, limit_not_reached, BeginsItem, at_word, at_close}
unfoldable pub use Rattle.goal_parser.proofs.ForCallers.{step, fault_in}
use Rattle.goal_parser.proofs.ForCallers.{kinds_of}

-- the text may end, and these are its plans
abbrev pub EndsWithPlans : Seen → List Plan → Type 0
EndsWithPlans s plans = (s.state ≡ state.Top) × (s.plans ≡ plans)

-- Tokens of these kinds, wherever they are, pass all tests, and the text may then end with these plans.
pub data Good : Seen → List TokenKind → List Plan → Type 0 where
  ends : {s : Seen} {plans : List Plan} → EndsWithPlans s plans → Good s [] plans
  next : {s : Seen} {kind : TokenKind} {kinds : List TokenKind} {plans : List Plan}
      → ((start end : ℕ) → fault_in s (record { kind = kind; start = start; end = end }) ≡ None)
      → ((start end : ℕ) → Good (step (record { kind = kind; start = start; end = end }) s) kinds plans)
      → Good s (kind ∷ kinds) plans

good_end : {s : Seen} {plans : List Plan} → Good s [] plans → EndsWithPlans s plans
good_end (ends here) = here

good_token : {s : Seen} {kind : TokenKind} {kinds : List TokenKind} {plans : List Plan} → Good s (kind ∷ kinds) plans → (start end : ℕ)
    → (fault_in s (record { kind = kind; start = start; end = end }) ≡ None)
    × Good (step (record { kind = kind; start = start; end = end }) s) kinds plans
good_token (next passes more) start end = (passes start end, more start end)

-- so tokens of these kinds have no fault
pub good_tokens : (before tokens : List Token) (plans : List Plan) → Good (seen_of before) (kinds_of tokens) plans
    → (first_fault before tokens ≡ None) × EndsWithPlans (seen_of (reverse tokens ++ before)) plans
unfolding step fault_in first_fault token_fault state_of draft_of ranks_of blocks_of rank_of head_of ops_of defined_of deps_of notes_of used_of counts_of plans_of
good_tokens before [] plans good = (refl, good_end good)
good_tokens before (t ∷ tokens) plans good =
    let here = good_token good t.start t.end in
    let rest = good_tokens (t ∷ before) tokens plans here.1 in
    let turned : reverse (t ∷ tokens) ++ before ≡ reverse tokens ++ t ∷ before =
    ap (λ l. l ++ before) (reverse-append (t ∷ []) tokens) ∙ append_assoc (reverse tokens) (t ∷ []) before in (
      ap (λ o. option_or o (first_fault (t ∷ before) tokens)) here.0 ∙ rest.0,
      subst (λ (l : List Token). EndsWithPlans (seen_of l) plans) (sym turned) rest.1,
    )

pub label_read : (s : Seen) (label : List ℕ) (kinds : List TokenKind) (plans : List Plan) → BeginsItem s.state
    → ((at : ℕ) → Good (at_word s label at) kinds plans) → Good s (token.Label label ∷ kinds) plans
unfolding step fault_in
label_read s label kinds plans begins good = by s.state begins good
  where
    by : (st : State) → BeginsItem st → ((at : ℕ) → Good (at_word (record s { state = st }) label at) kinds plans) → Good (record s { state = st }) (token.Label label ∷ kinds) plans
    by state.Item begins good = next (λ start end. refl) (λ start end. good start)
    by state.Calc2 begins good = next (λ start end. refl) (λ start end. good start)
    by state.Send4 begins good = next (λ start end. refl) (λ start end. good start)
    by state.Recv4 begins good = next (λ start end. refl) (λ start end. good start)
    by _ begins good = absurd begins

pub close_read : (s : Seen) (kinds : List TokenKind) (plans : List Plan) → BeginsItem s.state → first_unknown s.defined s.used ≡ None
    → Good (at_close s) kinds plans → Good s (token.Close ∷ kinds) plans
unfolding step fault_in
close_read s kinds plans begins known good = by s.state begins good
  where
    by : (st : State) → BeginsItem st → Good (at_close (record s { state = st })) kinds plans → Good (record s { state = st }) (token.Close ∷ kinds) plans
    by state.Item begins good = next (λ start end. ap (option_map fault.UnknownLabel) known) (λ start end. good)
    by state.Calc2 begins good = next (λ start end. ap (option_map fault.UnknownLabel) known) (λ start end. good)
    by state.Send4 begins good = next (λ start end. ap (option_map fault.UnknownLabel) known) (λ start end. good)
    by state.Recv4 begins good = next (λ start end. ap (option_map fault.UnknownLabel) known) (λ start end. good)
    by _ begins good = absurd begins
