-- The tokens of a text, by one pass over its bytes.
use Rattle.std.specs.Prelude.{ℕ, ◌+◌, false, ◌&&◌, List, [], ◌∷◌, ◌++◌, length, Option, Some, None, if◌then◌else◌, nat_lt, ◌==◌}
use Rattle.goal_limits.specs.Limits.{run_limit}
use Rattle.goal_lexer.specs.declared.tokens.Token.{Token}
use Rattle.goal_lexer.specs.declared.tokens.TokenKind.{TokenKind}
use Rattle.goal_lexer.specs.declared.tokens.TokenKind.TheVariants.{Open, Close, Colon}
use Rattle.goal_lexer.specs.declared.mode.Form.{Form}
use Rattle.goal_lexer.specs.declared.mode.Form.TheVariants.{Word, Digits, Sized}
use Rattle.goal_lexer.specs.declared.mode.Mode.{Mode}
use Rattle.goal_lexer.specs.declared.mode.Mode.TheVariants.{Between, Run, Slash, LineComment, BlockComment, Failed}
use Rattle.goal_lexer.specs.Bytes.{is_blank, begins_word, is_digit, is_run_byte, left_brace, right_brace, colon, slash, star, line_feed, size_mark}
use Rattle.goal_lexer.specs.Runs.{run_token}

-- what is open after some bytes, and the tokens that they ended
abbrev pub Scanned : Type 0
Scanned = Mode × List Token

-- the same, preceded by other tokens
abbrev pub after_tokens : List Token → Scanned → Scanned
after_tokens tokens scanned = (scanned.0, tokens ++ scanned.1)

-- the token of a byte that is a sign
abbrev pub sign : TokenKind → ℕ → Scanned
sign kind place = (Between, record { kind = kind; start = place; end = place + 1 } ∷ [])

-- what a byte at this place begins, while nothing is open
abbrev pub begun : ℕ → ℕ → Scanned
begun place c =
    if begins_word c then (Run place (c ∷ []) Word, [])
    else (if is_digit c then (Run place (c ∷ []) Digits, [])
    else (if is_blank c then (Between, [])
    else (if c == left_brace then sign Open place
    else (if c == right_brace then sign Close place
    else (if c == colon then sign Colon place
    else (if c == slash then (Slash place, [])
    else (Failed place, [])))))))

-- the form of a run extended by a run byte, if it has one: a word takes any run byte; digits take digits and then one
-- `b`; nothing may follow that `b`
abbrev pub form_with : Form → ℕ → Option Form
form_with Word c = Some Word
form_with Digits c = if is_digit c then Some Digits else (if c == size_mark then Some Sized else None)
form_with Sized c = None

-- a run of this form, or a fault at its first byte if it has no form or more than 64 bytes
abbrev pub run_or_fault : ℕ → List ℕ → Option Form → Mode
run_or_fault start bytes None = Failed start
run_or_fault start bytes (Some form) = if nat_lt run_limit (length bytes) then Failed start else Run start bytes form

-- the tokens that end at this place, if no run byte follows
abbrev pub closing : ℕ → Mode → List Token
closing place (Run start bytes form) = run_token start bytes form place ∷ []
closing place Between = []
closing place (Slash start) = []
closing place (LineComment start) = []
closing place (BlockComment start closes) = []
closing place (Failed at) = []

-- what is open after the byte at this place, and the token that it ended
abbrev pub next : Mode → ℕ → ℕ → Scanned
next Between place c = begun place c
next (Run start bytes form) place c =
    if is_run_byte c then (run_or_fault start (bytes ++ c ∷ []) (form_with form c), [])
    else after_tokens (closing place (Run start bytes form)) (begun place c)
next (Slash start) place c =
    if c == slash then (LineComment start, [])
    else (if c == star then (BlockComment start false, [])
    else (Failed start, []))
next (LineComment start) place c = if c == line_feed then (Between, []) else (LineComment start, [])
next (BlockComment start closes) place c =
    if closes && c == slash then (Between, []) else (BlockComment start (c == star), [])
next (Failed at) place c = (Failed at, [])

-- the same for a list of bytes, of which the first is at this place
unfoldable pub scan : Mode → ℕ → List ℕ → Scanned
scan mode place [] = (mode, [])
scan mode place (c ∷ cs) = after_tokens (next mode place c).1 (scan (next mode place c).0 (place + 1) cs)

-- the scan of a text from its beginning
abbrev pub scanned : List ℕ → Scanned
scanned text = scan Between 0 text

-- a run that is open ends at this place
abbrev pub after_run : Mode → Mode
after_run (Run start bytes form) = Between
after_run Between = Between
after_run (Slash start) = Slash start
after_run (LineComment start) = LineComment start
after_run (BlockComment start closes) = BlockComment start closes
after_run (Failed at) = Failed at

abbrev pub ended : ℕ → Scanned → Scanned
ended place scanned = (after_run scanned.0, scanned.1 ++ closing place scanned.0)

-- the place of the fault, if a text ends while this is open
abbrev pub fault_at_end : Mode → Option ℕ
fault_at_end Between = None
fault_at_end (Run start bytes form) = None
fault_at_end (Slash start) = Some start
fault_at_end (LineComment start) = None
fault_at_end (BlockComment start closes) = Some start
fault_at_end (Failed at) = Some at

-- the tokens of a text up to its fault, and the place of that fault, if any
abbrev pub lexed : List ℕ → List Token × Option ℕ
lexed text = ((ended (length text) (scanned text)).1, fault_at_end (scanned text).0)
