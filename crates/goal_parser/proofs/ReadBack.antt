-- Sentences that obey the rules and the limits are read as their plans.
use Rattle.std.proofs.Common.{◌≡◌, ℕ, ◌<◌, List, [], length, reverse, Option, None, refl, sym, ap, subst, ◌∙◌, arith}
use Rattle.std.specs.Option.{option_or}
use Rattle.std.proofs.lemmas.List.{append-nil, ext_get_or}
use Rattle.goal_lexer.specs.declared.tokens.Token.{Token}
use Rattle.goal_lexer.specs.declared.tokens.TokenKind.{TokenKind}
use Rattle.goal_lexer.specs.Scan.{lexed}
use Rattle.goal_graph.specs.Schedule.{Plan}
use Rattle.goal_parser.specs.declared.faults.TextFault.{TextFault}
use Rattle.goal_parser.specs.declared.sentence.State.{State}
use Rattle.goal_parser.specs.declared.sentence.State.TheVariants as state
use Rattle.goal_parser.specs.Sentence.{state_of}
use Rattle.goal_parser.specs.Plans.{empty_plan}
use Rattle.goal_parser.specs.Reads.{last_fault, text_fault, text_plans, reads, plans}
use Rattle.goal_parser.specs.Grammar.{Written, text_tokens, AreSaid, AreRight, AreWithin, IsWritten}
use Rattle.goal_parser.proofs.Seen.{seen_of, kinds_of}
use Rattle.goal_parser.proofs.Passing.{AreFaultlessFrom, passing_tokens, text_passes}
use Rattle.goal_parser.proofs.ReaderLaws.{reads_plans}
use Rattle.goal_parser.proofs.GrammarLaws.{plans_are_said}
use Rattle.goal_parser.proofs.OneReading.{text_tokens_injective}

-- they have no fault
written_has_no_fault : (text : List ℕ) (w : Written) → (lexed text).1 ≡ None → kinds_of (lexed text).0 ≡ text_tokens w → AreRight w → AreWithin w → text_fault text ≡ None
unfolding text_fault
written_has_no_fault text w whole spelled right within =
    let tokens : List Token = (lexed text).0 in
    let passed = passing_tokens [] tokens (subst (λ (ks : List TokenKind). AreFaultlessFrom (seen_of []) ks) (sym spelled) (text_passes w right within)) in
    let top : state_of (reverse tokens) ≡ state.Top = subst (λ (l : List Token). state_of l ≡ state.Top) (append-nil (reverse tokens)) passed.1 in
    ap (λ (o : Option TextFault). option_or o (last_fault (lexed text).1 (state_of (reverse tokens)) (length text))) passed.0
    ∙ ap (λ (o : Option ℕ). last_fault o (state_of (reverse tokens)) (length text)) whole
    ∙ ap (λ (s : State). last_fault None s (length text)) top

-- the same sentences give the same plans
said_plans_unique : (w : Written) (ps qs : List Plan) → AreSaid w ps → AreSaid w qs → ps ≡ qs
said_plans_unique w ps qs one other =
    let long = one.ranks in
    let also = other.ranks in
    ext_get_or empty_plan ps qs (omega arith) (λ i below. let inside : i < w.ranks = omega arith in one.each i inside ∙ sym (other.each i inside))

pub read_as_written : (text : List ℕ) (w : Written) (ps : List Plan) → (lexed text).1 ≡ None → kinds_of (lexed text).0 ≡ text_tokens w → AreRight w → AreWithin w
    → AreSaid w ps → reads text ≡ plans ps
read_as_written text w ps whole spelled right within said =
    let read : reads text ≡ plans (text_plans text) = reads_plans text (text_plans text) (written_has_no_fault text w whole spelled right within) refl in
    let written : IsWritten (lexed text).0 (text_plans text) = plans_are_said text (text_plans text) read in
    let same : written.written ≡ w = text_tokens_injective written.written w (sym written.spelled ∙ spelled) in
    read ∙ ap plans (said_plans_unique w (text_plans text) ps (subst (λ (v : Written). AreSaid v (text_plans text)) same written.said) said)
