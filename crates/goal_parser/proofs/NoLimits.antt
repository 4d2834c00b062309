-- If the plans of a text are no schedule, the broken rule is not a limit of a count or a value.
use Rattle.std.proofs.Common.{◌≡◌, ◌≢◌, ℕ, Bool, true, false, Option, Some, None, List, [], ◌∷◌, length, Result, Ok, Err, refl, sym, subst}
use Rattle.std.specs.List.{list_any}
use Rattle.std.specs.Option.{option_or, option_map}
use Rattle.std.specs.Prelude.{IfErr, ⊤, not, nat_lt, nat_eq, is_none, reverse}
use Rattle.goal_graph.specs.Schedule.{Plan}
use Rattle.goal_graph.specs.Limits.{AreWithinLimits}
use Rattle.goal_graph.proofs.ForCallers.{no_limit_rule}
use Rattle.goal_lexer.specs.declared.tokens.Token.{Token}
use Rattle.goal_lexer.specs.declared.tokens.TokenKind.{TokenKind}
use Rattle.goal_lexer.specs.declared.tokens.TokenKind.TheVariants as token
use Rattle.goal_lexer.specs.Scan.{lexed}
use Rattle.goal_parser.specs.declared.sentence.State.{State}
use Rattle.goal_parser.specs.declared.sentence.State.TheVariants as state
use Rattle.goal_parser.specs.declared.draft.Draft.{Draft}
use Rattle.goal_parser.specs.declared.counts.Counts.{Counts}
use Rattle.goal_parser.specs.declared.head.Mention.{Mention}
use Rattle.goal_parser.specs.Sentence.{entry, state_of}
use Rattle.goal_parser.specs.Numbers.{is_within}
use Rattle.goal_parser.specs.Ranks.{ranks_of, blocks_of}
use Rattle.goal_parser.specs.Actions.{draft_of, has_option}
use Rattle.goal_parser.specs.Counts.{counts_of, is_too_many}
use Rattle.goal_parser.specs.Items.{Definition, is_defined, first_unknown, head_of, defined_of, used_of}
use Rattle.goal_parser.specs.Faults.{fault_if, fault_by, token_fault, syntax_fault, number_fault, rank_fault as rank_text_fault, rank_fault_of, option_fault, label_fault, label_fault_of, count_fault as count_text_fault, unknown_fault, unknown_fault_of}
use Rattle.goal_parser.specs.declared.faults.TextFault.{TextFault}
use Rattle.goal_parser.specs.declared.faults.TextFault.TheVariants as fault
use Rattle.goal_parser.specs.Reads.{first_fault as first_text_fault, last_fault, text_fault, text_plans, reading, reads, plans, IsFaultOf}
use Rattle.goal_parser.specs.FaultInText.{IsLimitFault}
use Rattle.goal_parser.proofs.LimitLaws.{plans_within_limits}

-- the faults of tokens are no faults of plans
abbrev IsNoLimitFault : Option TextFault → Type 0
IsNoLimitFault None = ⊤
IsNoLimitFault (Some f) = IsLimitFault f → ⊥

option_or_no_limit : (a b : Option TextFault) → IsNoLimitFault a → IsNoLimitFault b → IsNoLimitFault (option_or a b)
option_or_no_limit None b p q = q
option_or_no_limit (Some f) b p q = p

fault_if_no_limit : (b : Bool) (f : TextFault) → (IsLimitFault f → ⊥) → IsNoLimitFault (fault_if b f)
fault_if_no_limit true f p = p
fault_if_no_limit false f p = tt

rank_fault_no_limit : (s : State) (ranks : ℕ) (blocks : List ℕ) (k : TokenKind) (at : ℕ) → IsNoLimitFault (rank_fault_of s ranks blocks k at)
rank_fault_no_limit state.Block ranks blocks (token.Number n) at =
    option_or_no_limit (fault_if (not (nat_lt n ranks)) (fault.Rank at)) (fault_if (list_any (nat_eq n) blocks) (fault.Repeat at))
    (fault_if_no_limit (not (nat_lt n ranks)) (fault.Rank at) (λ limit. limit))
    (fault_if_no_limit (list_any (nat_eq n) blocks) (fault.Repeat at) (λ limit. limit))
rank_fault_no_limit _ ranks blocks (token.Number n) at = tt
rank_fault_no_limit s ranks blocks _ at = tt

label_fault_no_limit : (ds : List Definition) (subject : Option Mention) (k : TokenKind) → IsNoLimitFault (label_fault_of ds subject k)
label_fault_no_limit ds None token.Colon = tt
label_fault_no_limit ds (Some subject) token.Colon = fault_if_no_limit (is_defined ds subject.label) (fault.Repeat subject.at) (λ limit. limit)
label_fault_no_limit ds subject _ = tt

unknown_fault_no_limit : (ds : List Definition) (us : List Mention) (k : TokenKind) → IsNoLimitFault (unknown_fault_of ds us k)
unknown_fault_no_limit ds us token.Close = by (first_unknown ds us)
  where
    by : (o : Option ℕ) → IsNoLimitFault (option_map fault.UnknownLabel o)
    by None = tt
    by (Some at) = λ limit. limit
unknown_fault_no_limit ds us _ = tt

fault_by_no_limit : (s : State) (draft : Draft) (ranks : ℕ) (blocks : List ℕ) (ds : List Definition) (subject : Option Mention) (counts : Counts) (us : List Mention) (t : Token)
    → IsNoLimitFault (fault_by s draft ranks blocks ds subject counts us t)
unfolding fault_by syntax_fault number_fault rank_text_fault option_fault label_fault count_text_fault unknown_fault
fault_by_no_limit s draft ranks blocks ds subject counts us t =
    let last = option_or (count_text_fault counts t) (unknown_fault ds us t) in
    let labels = option_or (label_fault ds subject t) last in
    let options = option_or (option_fault draft t) labels in
    let numbered = option_or (rank_text_fault s ranks blocks t) options in
    option_or_no_limit (syntax_fault s t) (option_or (number_fault s draft.option t) numbered) (fault_if_no_limit (is_none (entry s t.kind)) (fault.Syntax t.start) (λ limit. limit))
    (option_or_no_limit (number_fault s draft.option t) numbered (fault_if_no_limit (not (is_within s draft.option t.kind)) (fault.Number t.start) (λ limit. limit))
    (option_or_no_limit (rank_text_fault s ranks blocks t) options (rank_fault_no_limit s ranks blocks t.kind t.start)
    (option_or_no_limit (option_fault draft t) labels (fault_if_no_limit (has_option t.kind draft) (fault.Repeat t.start) (λ limit. limit))
    (option_or_no_limit (label_fault ds subject t) last (label_fault_no_limit ds subject t.kind)
    (option_or_no_limit (count_text_fault counts t) (unknown_fault ds us t) (fault_if_no_limit (is_too_many t.kind counts) (fault.TooMany t.start) (λ limit. limit))
    (unknown_fault_no_limit ds us t.kind))))))

first_fault_no_limit : (before tokens : List Token) → IsNoLimitFault (first_text_fault before tokens)
unfolding first_text_fault token_fault
first_fault_no_limit before [] = tt
first_fault_no_limit before (t ∷ tokens) =
    option_or_no_limit (token_fault before t) (first_text_fault (t ∷ before) tokens)
    (fault_by_no_limit (state_of before) (draft_of before) (ranks_of before) (blocks_of before) (defined_of before) (head_of before).subject (counts_of before) (used_of before) t)
    (first_fault_no_limit (t ∷ before) tokens)

last_fault_no_limit : (o : Option ℕ) (s : State) (place : ℕ) → IsNoLimitFault (last_fault o s place)
last_fault_no_limit None state.Top place = tt
last_fault_no_limit None _ place = λ limit. limit
last_fault_no_limit (Some at) s place = λ limit. limit

text_fault_no_limit : (text : List ℕ) → IsNoLimitFault (text_fault text)
unfolding text_fault
text_fault_no_limit text =
    option_or_no_limit (first_text_fault [] (lexed text).0) (last_fault (lexed text).1 (state_of (reverse (lexed text).0)) (length text))
    (first_fault_no_limit [] (lexed text).0) (last_fault_no_limit (lexed text).1 (state_of (reverse (lexed text).0)) (length text))

reading_breaks_no_limit : (told : Option TextFault) (said : List Plan) → IsNoLimitFault told → ((ps : List Plan) → reading told said ≡ plans ps → AreWithinLimits ps)
    → (f : TextFault) → IsFaultOf (reading told said) f → IsLimitFault f → ⊥
reading_breaks_no_limit (Some first) said own within f same limit = own (subst IsLimitFault (sym same) limit)
reading_breaks_no_limit None said own within (fault.Plan rule) told limit = no_limit_rule said (within said refl) rule told limit
reading_breaks_no_limit None said own within (fault.Lex at) told limit = told
reading_breaks_no_limit None said own within _ told limit = told

text_breaks_no_limit : (text : List ℕ) (f : TextFault) → IsFaultOf (reads text) f → IsLimitFault f → ⊥
unfolding reads
text_breaks_no_limit text = reading_breaks_no_limit (text_fault text) (text_plans text) (text_fault_no_limit text) (plans_within_limits text)

pub fault_is_no_limit : (text : List ℕ) (r : Result (List Plan) TextFault) → IfErr r (λ f. f ≢ fault.NoMemory → IsFaultOf (reads text) f) → IfErr r (λ f. IsLimitFault f → ⊥)
fault_is_no_limit text (Ok ps) told = tt
fault_is_no_limit text (Err f) told = λ limit. text_breaks_no_limit text f (told (λ same. subst IsLimitFault same limit)) limit
