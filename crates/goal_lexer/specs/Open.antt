-- The text that a lexer has taken, as whole pieces followed by what is open.
use Rattle.std.specs.Prelude.{◌≡◌, ℕ, ◌≤◌, ◌⊎◌, Bool, true, false, not, List, [], ◌∷◌, ◌++◌, length, ◌==◌}
use Rattle.goal_limits.specs.Limits.{run_limit}
use Rattle.goal_lexer.specs.declared.mode.Form.{Form}
use Rattle.goal_lexer.specs.declared.mode.Mode.{Mode}
use Rattle.goal_lexer.specs.declared.mode.Mode.TheVariants.{Between, Run, Slash, LineComment, BlockComment, Failed}
use Rattle.goal_lexer.specs.Bytes.{slash, star, line_feed}
use Rattle.goal_lexer.specs.State.{LexState}
use Rattle.goal_lexer.specs.Stands.{begins_run}
use Rattle.goal_lexer.specs.Pieces.{Piece, run, Each, HasForm, has_close, spelled, IsCutInto}

-- the bytes end with a `*`
abbrev pub ends_in_star : List ℕ → Bool
ends_in_star [] = false
ends_in_star (c ∷ []) = c == star
ends_in_star (c ∷ d ∷ cs) = ends_in_star (d ∷ cs)

-- The bytes from this place on are what the mode keeps open: nothing; a run of at most 64 bytes, with its form; a `/`;
-- the beginning of a line comment; or that of a block comment without `*/`, which may end in `*`.
abbrev pub IsOpen : Mode → ℕ → List ℕ → Type 0
IsOpen Between place bytes = bytes ≡ []
IsOpen (Run start kept form) place bytes = (start ≡ place) × (kept ≡ bytes) × HasForm form bytes × (length bytes ≤ run_limit)
IsOpen (Slash start) place bytes = (start ≡ place) × (bytes ≡ slash ∷ [])
IsOpen (LineComment start) place bytes =
    (start ≡ place) × ((inside : List ℕ) × (bytes ≡ slash ∷ slash ∷ inside) × Each (λ c. not (c == line_feed)) inside)
IsOpen (BlockComment start closes) place bytes =
    (start ≡ place) × ((inside : List ℕ) × (bytes ≡ slash ∷ star ∷ inside) × (has_close inside ≡ false) × (ends_in_star inside ≡ closes))
IsOpen (Failed at) place bytes = ⊥

-- the last of the pieces is a run
abbrev pub EndInRun : List Piece → Type 0
EndInRun pieces = (before : List Piece) × (form : Form) × (bytes : List ℕ) × (pieces ≡ before ++ run form bytes ∷ [])

-- Whatever follows, the text is these pieces and then the open bytes. If a run was just returned, it is the last piece,
-- nothing is open, and what follows does not continue it.
pub record IsTaken (lexer : LexState) (text : List ℕ) : Type 0 where
  pub pieces : List Piece
  pub bytes : List ℕ
  pub cut : (more : List ℕ) → (lexer.ends_run ≡ true → begins_run more ≡ false) → IsCutInto (text ++ more) pieces (bytes ++ more)
  pub opened : IsOpen lexer.mode (length (spelled pieces)) bytes
  pub run_out : lexer.ends_run ≡ true → EndInRun pieces × (bytes ≡ [])
  pub place : length text ≡ lexer.place

-- The text ends with a `/`, or with an unclosed block comment, which begins at this place.
pub record IsCutOff (text : List ℕ) (at : ℕ) : Type 0 where
  pub front : List ℕ
  pub bytes : List ℕ
  pub whole : text ≡ front ++ bytes
  pub place : length front ≡ at
  pub cut : (bytes ≡ slash ∷ []) ⊎ ((inside : List ℕ) × (bytes ≡ slash ∷ star ∷ inside) × (has_close inside ≡ false))
