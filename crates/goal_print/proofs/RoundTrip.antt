-- Reading the canonical text of a schedule gives the schedule back. `Lexes` and `TextKinds` find the tokens of the
-- text, without their places. `Seen` says when tokens of given kinds pass all tests of the reader, wherever they are.
-- `ItemsRead` reads the items of a block, `BlocksRead` their lists, and `TextRead` all blocks.
use Rattle.std.proofs.Common.{◌≡◌, ℕ, List, [], length, reverse, Option, None, sym, ap, subst, ◌∙◌, arith}
use Rattle.std.specs.Option.{option_or}
use Rattle.std.proofs.lemmas.List.{append-nil}
use Rattle.goal_lexer.specs.declared.tokens.Token.{Token}
use Rattle.goal_lexer.specs.declared.tokens.TokenKind.{TokenKind}
use Rattle.goal_lexer.specs.Scan.{lexed}
use Rattle.goal_graph.specs.Schedule.{Plan}
use Rattle.goal_graph.specs.Fault.{IsAccepted}
use Rattle.goal_graph.specs.Limits.{AreCountsWithin}
use Rattle.goal_graph.specs.Widths.{AreInWidth}
use Rattle.goal_parser.specs.declared.faults.TextFault.{TextFault}
use Rattle.goal_parser.specs.declared.sentence.State.{State}
use Rattle.goal_parser.specs.Sentence.{state_of}
use Rattle.goal_parser.specs.Plans.{plans_of}
use Rattle.goal_parser.specs.Reads.{last_fault, text_fault, text_plans, reads, reading, plans}
use Rattle.goal_print.specs.Canonical.{canonical}
use Rattle.goal_print.proofs.Lexes.{Lexes, lexed_has_kinds}
use Rattle.goal_print.proofs.Seen.{seen_of, EndsWithPlans, Good, good_tokens}
use Rattle.goal_print.proofs.TextKinds.{canonical_kinds, lexes_canonical}
use Rattle.goal_print.proofs.TextRead.{canonical_read}
use Rattle.goal_print.proofs.Accepted.{plans_fit}

-- a text whose tokens pass all tests has these plans
reads_good : (text : List ℕ) (kinds : List TokenKind) (ps : List Plan) → Lexes text kinds → Good (seen_of []) kinds ps → reads text ≡ plans ps
unfolding reads text_fault text_plans
reads_good text kinds ps lexes good =
    let tokens : List Token = (lexed text).0 in
    let known = lexed_has_kinds text kinds lexes in
    let read = good_tokens [] tokens ps (subst (λ (ks : List TokenKind). Good (seen_of []) ks ps) (sym known.0) good) in
    let ends : EndsWithPlans (seen_of (reverse tokens)) ps = subst (λ (l : List Token). EndsWithPlans (seen_of l) ps) (append-nil (reverse tokens)) read.1 in
    ap (λ (o : Option TextFault). reading (option_or o (last_fault (lexed text).1 (state_of (reverse tokens)) (length text))) (plans_of (reverse tokens))) read.0
    ∙ ap (λ (o : Option ℕ). reading (last_fault o (state_of (reverse tokens)) (length text)) (plans_of (reverse tokens))) known.1
    ∙ ap (λ (s : State). reading (last_fault None s (length text)) (plans_of (reverse tokens))) ends.0
    ∙ ap plans ends.1

-- the canonical text of a schedule has its plans
pub reads_canonical : (ps : List Plan) → IsAccepted ps → AreCountsWithin ps → AreInWidth ps → reads (canonical ps) ≡ plans ps
reads_canonical ps accepted counts width =
    let fits = plans_fit ps accepted counts width in
    reads_good (canonical ps) (canonical_kinds ps) ps (lexes_canonical ps (let few = counts.ranks in omega arith) fits)
    (canonical_read ps counts.some_rank counts.ranks counts.ops counts.deps counts.notes fits)
