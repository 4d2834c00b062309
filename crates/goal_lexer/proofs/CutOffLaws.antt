-- The fault of a text that a lexer represents, if it ended here.
use Rattle.std.proofs.Common.{◌≡◌, ℕ, inl, inr, List, [], ◌++◌, length, Option, Some, refl, sym, ap, ◌∙◌}
use Rattle.std.proofs.lemmas.List.{append-nil}
use Rattle.goal_lexer.specs.declared.mode.Mode.{Mode}
use Rattle.goal_lexer.specs.declared.mode.Mode.TheVariants.{Between, Run, Slash, LineComment, BlockComment, Failed}
use Rattle.goal_lexer.specs.declared.tokens.Token.{Token}
use Rattle.goal_lexer.specs.Scan.{fault_at_end, lexed}
use Rattle.goal_lexer.specs.State.{LexState}
use Rattle.goal_lexer.specs.Stands.{Stands}
use Rattle.goal_lexer.specs.Pieces.{spelled}
use Rattle.goal_lexer.specs.Open.{IsOpen, IsTaken, IsCutOff}
use Rattle.goal_lexer.proofs.StandsLaws.{lexed_at_end}
use Rattle.goal_lexer.proofs.TakenLaws.{stands_is_taken}

pub fault_at_end_is_cut_off : (lexer : LexState) (text : List ℕ) (at : ℕ) → Stands lexer text → (lexed text).1 ≡ Some at → IsCutOff text at
fault_at_end_is_cut_off lexer text at stands fault =
    by lexer.mode taken.opened (sym (ap (λ (r : List Token × Option ℕ). r.1) (lexed_at_end lexer.mode lexer.place lexer.ends_run text stands)) ∙ fault)
  where
    taken : IsTaken lexer text
    taken = stands_is_taken lexer text stands

    whole : text ≡ spelled taken.pieces ++ taken.bytes
    whole = sym (append-nil text) ∙ (taken.cut [] (λ h. refl)).whole ∙ ap (λ (l : List ℕ). spelled taken.pieces ++ l) (append-nil taken.bytes)

    by : (mode : Mode) → IsOpen mode (length (spelled taken.pieces)) taken.bytes → fault_at_end mode ≡ Some at → IsCutOff text at
    by Between opened e = cc
    by (Run start kept form) opened e = cc
    by (Slash start) opened e =
        let same : start ≡ at = cc in
        record { front = spelled taken.pieces; bytes = taken.bytes; whole = whole; place = sym opened.0 ∙ same; cut = inl opened.1 }
    by (LineComment start) opened e = cc
    by (BlockComment start closes) opened e =
        let same : start ≡ at = cc in
        let in_it = opened.1 in
        record { front = spelled taken.pieces; bytes = taken.bytes; whole = whole; place = sym opened.0 ∙ same; cut = inr (in_it.0, in_it.1, in_it.2) }
    by (Failed at) opened e = absurd opened
