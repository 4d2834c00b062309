-- How a text that a lexer represents may continue.
use Rattle.std.proofs.Common.{◌≡◌, ℕ, Bool, true, false, List, [], ◌∷◌, ◌++◌, length, Option, None, refl, ap, ◌∙◌, arith, append_assoc}
use Rattle.std.proofs.lemmas.List.{append-nil}
use Rattle.goal_lexer.specs.declared.mode.Mode.{Mode}
use Rattle.goal_lexer.specs.declared.mode.Mode.TheVariants.{Between, Run, Slash, LineComment, BlockComment, Failed}
use Rattle.goal_lexer.specs.Bytes.{slash, star}
use Rattle.goal_lexer.specs.declared.tokens.Token.{Token}
use Rattle.goal_lexer.specs.Scan.{Scanned, scan, scanned, closing, ended, fault_at_end, lexed}
use Rattle.goal_lexer.specs.Sound.{IsSound}
use Rattle.goal_lexer.specs.State.{LexState}
use Rattle.goal_lexer.specs.Stands.{Stands, handed, so_far, begins_run}
use Rattle.goal_lexer.proofs.StandsLaws.{scanned-append, scanned_of_continued, lexed_at_end, no_fault_in_run}

-- bytes that close what is open
mode_can_be_closed : (mode : Mode) (place : ℕ) → IsSound mode → (more : List ℕ) × (fault_at_end (scan mode place more).0 ≡ None)
unfolding scan
mode_can_be_closed Between place sound = ([], refl)
mode_can_be_closed (Run start bytes form) place sound = ([], refl)
mode_can_be_closed (Slash start) place sound = (slash ∷ [], refl)
mode_can_be_closed (LineComment start) place sound = ([], refl)
mode_can_be_closed (BlockComment start true) place sound = (slash ∷ [], refl)
mode_can_be_closed (BlockComment start false) place sound = (star ∷ slash ∷ [], refl)
mode_can_be_closed (Failed at) place sound = absurd sound

-- the same for the parts of the lexer
text_goes_on_by_parts : (mode : Mode) (place : ℕ) (ends : Bool) (text : List ℕ) →
    Stands (record { mode = mode; place = place; ends_run = ends }) text →
    (more : List ℕ) × ((lexed (text ++ more)).1 ≡ None)
text_goes_on_by_parts mode place false text stands =
    let known = mode_can_be_closed mode (length text) stands.sound in (
      known.0,
      ap (λ (r : Scanned). fault_at_end r.0) (scanned-append text known.0)
          ∙ ap (λ (m : Mode). fault_at_end (scan m (length text) known.0).0) stands.open_there
          ∙ known.1,
    )
text_goes_on_by_parts mode place true text stands =
    ([], ap (λ (t : List ℕ). fault_at_end (scanned t).0) (append-nil text) ∙ (no_fault_in_run (scanned text).0 stands.run_there).1)

pub text_goes_on : (lexer : LexState) (text : List ℕ) → Stands lexer text → (more : List ℕ) × ((lexed (text ++ more)).1 ≡ None)
text_goes_on lexer text stands = text_goes_on_by_parts lexer.mode lexer.place lexer.ends_run text stands

-- the tokens returned are the first of the continued text, for the parts of the lexer
tokens_are_first_from : (mode : Mode) (place : ℕ) (ends : Bool) (text more : List ℕ) →
    Stands (record { mode = mode; place = place; ends_run = ends }) text → (ends ≡ true → begins_run more ≡ false) →
    (later : List Token) × ((lexed (text ++ more)).0 ≡ (so_far ends text).1 ++ later)
tokens_are_first_from mode place ends text [] stands apart = (
  closing place mode,
  ap (λ (t : List ℕ). (lexed t).0) (append-nil text)
      ∙ ap (λ (r : List Token × Option ℕ). r.0) (lexed_at_end mode place ends text stands),
)
tokens_are_first_from mode place ends text (c ∷ cs) stands apart =
    let end = length (text ++ c ∷ cs) in
    let rest = scan mode place (c ∷ cs) in (
      rest.1 ++ closing end rest.0,
      ap (λ (r : Scanned). (ended end r).1) (scanned_of_continued mode place ends text (c ∷ cs) stands apart (λ _. omega arith))
          ∙ append_assoc (so_far ends text).1 rest.1 (closing end rest.0),
    )

pub first_tokens : (lexer : LexState) (text more : List ℕ) → Stands lexer text →
    (lexer.ends_run ≡ true → begins_run more ≡ false) →
    (later : List Token) × ((lexed (text ++ more)).0 ≡ handed lexer text ++ later)
first_tokens lexer text more stands apart = tokens_are_first_from lexer.mode lexer.place lexer.ends_run text more stands apart
