-- The laws of texts and readers in words.
use Rattle.std.specs.Prelude.{◌≡◌, ℕ, ◌<◌, List, ◌∷◌, ◌++◌, Some, None, length, map, reverse, ⊤, ◌⊎◌}
use Rattle.goal_graph.specs.Schedule.{Plan}
use Rattle.goal_graph.specs.Limits.{AreWithinLimits}
use Rattle.goal_lexer.specs.declared.tokens.Token.{Token}
use Rattle.goal_lexer.specs.declared.tokens.TokenKind.{TokenKind}
use Rattle.goal_lexer.specs.declared.tokens.TokenKind.TheVariants as token
use Rattle.goal_lexer.specs.Scan.{lexed}
use Rattle.goal_lexer.specs.Open.{IsCutOff}
use Rattle.goal_parser.specs.declared.pieces.TextReader.{TextReader}
use Rattle.goal_parser.specs.Faults.{token_fault}
use Rattle.goal_parser.specs.TextRead.{HasRead}
use Rattle.goal_parser.specs.Grammar.{Written, text_tokens, AreSaid, AreRight, AreWithin, IsWritten}
use Rattle.goal_parser.specs.Reads.{reads, plans}

-- The laws hold for all texts. The function `laws_of_texts` ensures each of them.

-- the plans of a text are within the limits of counts and values
abbrev pub KeepLimits : Type 0
KeepLimits = (text : List ℕ) (ps : List Plan) → reads text ≡ plans ps → AreWithinLimits ps

-- the tokens of a text with plans are sentences that obey the rules, and its plans are those of the sentences
abbrev pub SayPlans : Type 0
SayPlans = (text : List ℕ) (ps : List Plan) → reads text ≡ plans ps → IsWritten (lexed text).0 ps

-- The converse: if no byte is at fault, and the tokens are those of sentences within the rules and the limits, however
-- they are written, then the text has the plans of the sentences.
abbrev pub ReadAsWritten : Type 0
ReadAsWritten = (text : List ℕ) (w : Written) (ps : List Plan)
    → (lexed text).1 ≡ None
    → map (λ (t : Token). t.kind) (lexed text).0 ≡ text_tokens w
    → AreRight w
    → AreWithin w
    → AreSaid w ps
    → reads text ≡ plans ps

-- tokens determine their sentences: there is only one reading
abbrev pub HaveOneReading : Type 0
HaveOneReading = (w v : Written) → text_tokens w ≡ text_tokens v → w ≡ v

-- The law of readers. The function `laws_of_readers` ensures it.

-- a brace or a colon
abbrev pub IsSign : TokenKind → Type 0
IsSign token.Open = ⊤
IsSign token.Close = ⊤
IsSign token.Colon = ⊤
IsSign _ = ⊥

-- No token that ends before the end of the text fails a test, and no brace or colon does. Only a run at the end of the
-- text is not tested. If the text ended here and had a lexical fault, it would be at a `/` as the last byte, or at an
-- unclosed block comment.
pub record PassesSoFar (text : List ℕ) : Type 0 where
  pub tokens : (before later : List Token) (t : Token) → (lexed text).0 ≡ before ++ t ∷ later → (t.end < length text) ⊎ IsSign t.kind
      → token_fault (reverse before) t ≡ None
  pub bytes : (at : ℕ) → (lexed text).1 ≡ Some at → IsCutOff text at

-- this holds of each text that a reader has read
abbrev pub ReadPassesSoFar : Type 0
ReadPassesSoFar = (r : TextReader) (text : List ℕ) → HasRead r text → PassesSoFar text
