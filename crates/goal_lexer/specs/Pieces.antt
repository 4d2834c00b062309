-- A text cut into pieces: tokens, blanks and comments, one after another.
use Rattle.std.specs.Prelude.{◌≡◌, ◌≢◌, ℕ, ◌+◌, ◌≤◌, Bool, true, false, ◌&&◌, ◌||◌, not, List, [], ◌∷◌, ◌++◌, length, Option, Some, None, IsSome, if◌then◌else◌, ◌==◌, ⊤}
use Rattle.goal_limits.specs.Limits.{run_limit}
use Rattle.goal_lexer.specs.declared.tokens.Token.{Token}
use Rattle.goal_lexer.specs.declared.tokens.TokenKind.{TokenKind}
use Rattle.goal_lexer.specs.declared.tokens.TokenKind.TheVariants.{Open, Close, Colon}
use Rattle.goal_lexer.specs.declared.mode.Form.{Form}
use Rattle.goal_lexer.specs.declared.mode.Form.TheVariants.{Word, Digits, Sized}
use Rattle.goal_lexer.specs.Bytes.{is_blank, begins_word, is_digit, is_run_byte, left_brace, right_brace, colon, slash, star, line_feed, size_mark}
use Rattle.goal_lexer.specs.Runs.{run_token}
use Rattle.goal_lexer.specs.Stands.{begins_run}

-- a piece of a text: a blank, a comment with its inside, a run, or a sign of one byte
pub data Piece : Type 0 where
  blank : ℕ → Piece
  line_comment : List ℕ → Piece
  block_comment : List ℕ → Piece
  run : Form → List ℕ → Piece
  sign : ℕ → Piece

-- the bytes of a piece
abbrev pub bytes_of : Piece → List ℕ
bytes_of (blank c) = c ∷ []
bytes_of (line_comment inside) = slash ∷ slash ∷ inside
bytes_of (block_comment inside) = slash ∷ star ∷ inside ++ star ∷ slash ∷ []
bytes_of (run form bytes) = bytes
bytes_of (sign c) = c ∷ []

-- each byte passes the test
abbrev pub Each : (ℕ → Bool) → List ℕ → Type 0
Each test [] = ⊤
Each test (c ∷ cs) = (test c ≡ true) × Each test cs

-- a letter or `_`, and then letters, digits and `_`
abbrev pub AreWord : List ℕ → Type 0
AreWord [] = ⊥
AreWord (c ∷ cs) = (begins_word c ≡ true) × Each is_run_byte cs

-- one or more digits
abbrev pub AreDigits : List ℕ → Type 0
AreDigits [] = ⊥
AreDigits (c ∷ cs) = (is_digit c ≡ true) × Each is_digit cs

-- the bytes have the form: a word, digits, or digits followed by one `b`
abbrev pub HasForm : Form → List ℕ → Type 0
HasForm Word bytes = AreWord bytes
HasForm Digits bytes = AreDigits bytes
HasForm Sized bytes = (digits : List ℕ) × (bytes ≡ digits ++ size_mark ∷ []) × AreDigits digits

-- the bytes contain a `*/`
abbrev pub has_close : List ℕ → Bool
has_close [] = false
has_close (c ∷ []) = false
has_close (c ∷ d ∷ cs) = (c == star && d == slash) || has_close (d ∷ cs)

-- the end of a line: a line feed or the end of the text
abbrev pub EndsLine : List ℕ → Type 0
EndsLine [] = ⊤
EndsLine (c ∷ cs) = c ≡ line_feed

-- the kind of a sign
abbrev pub sign_kind : ℕ → Option TokenKind
sign_kind c =
    if c == left_brace then Some Open
    else (if c == right_brace then Some Close
    else (if c == colon then Some Colon
    else None))

-- The piece obeys the rules, if these bytes follow it. A line comment has no line feed and reaches to one. A block
-- comment ends at its first `*/`. A run has at most 64 bytes and is the longest possible.
abbrev pub IsRight : Piece → List ℕ → Type 0
IsRight (blank c) after = is_blank c ≡ true
IsRight (line_comment inside) after = Each (λ c. not (c == line_feed)) inside × EndsLine after
IsRight (block_comment inside) after = has_close inside ≡ false
IsRight (run form bytes) after = HasForm form bytes × (length bytes ≤ run_limit) × (begins_run after ≡ false)
IsRight (sign c) after = IsSome (sign_kind c)

-- the bytes of the pieces, one after another
abbrev pub spelled : List Piece → List ℕ
spelled [] = []
spelled (piece ∷ pieces) = bytes_of piece ++ spelled pieces

-- each piece obeys the rules, if these bytes follow the last
abbrev pub AreRight : List Piece → List ℕ → Type 0
AreRight [] rest = ⊤
AreRight (piece ∷ pieces) rest = IsRight piece (spelled pieces ++ rest) × AreRight pieces rest

-- the text is these pieces, followed by the rest
pub record IsCutInto (text : List ℕ) (pieces : List Piece) (rest : List ℕ) : Type 0 where
  pub whole : text ≡ spelled pieces ++ rest
  pub right : AreRight pieces rest

-- the token of a sign at this place
abbrev pub sign_tokens : Option TokenKind → ℕ → List Token
sign_tokens None place = []
sign_tokens (Some kind) place = record { kind = kind; start = place; end = place + 1 } ∷ []

-- the token of a piece at this place, if it has one
abbrev pub piece_tokens : ℕ → Piece → List Token
piece_tokens place (blank c) = []
piece_tokens place (line_comment inside) = []
piece_tokens place (block_comment inside) = []
piece_tokens place (run form bytes) = run_token place bytes form (place + length bytes) ∷ []
piece_tokens place (sign c) = sign_tokens (sign_kind c) place

-- the tokens of pieces, of which the first begins at this place
abbrev pub tokens_of : ℕ → List Piece → List Token
tokens_of place [] = []
tokens_of place (piece ∷ pieces) = piece_tokens place piece ++ tokens_of (place + length (bytes_of piece)) pieces

-- no token, blank or comment begins at the start of the rest
abbrev pub NothingBegins : List ℕ → Type 0
NothingBegins rest = (piece : Piece) (after : List ℕ) → rest ≡ bytes_of piece ++ after → IsRight piece after → ⊥

-- the pieces reach the end of the text; or a fault, where something follows and nothing begins
abbrev pub EndsWith : Option ℕ → ℕ → List ℕ → Type 0
EndsWith None place rest = rest ≡ []
EndsWith (Some at) place rest = (at ≡ place) × (rest ≢ []) × NothingBegins rest

-- The text, which begins at place `start`, is pieces up to its end or fault, and these are its tokens.
pub record IsReading (start : ℕ) (text : List ℕ) (tokens : List Token) (fault : Option ℕ) : Type 0 where
  pub pieces : List Piece
  pub rest : List ℕ
  pub cut : IsCutInto text pieces rest
  pub tokens_are : tokens ≡ tokens_of start pieces
  pub end : EndsWith fault (start + length (spelled pieces)) rest
