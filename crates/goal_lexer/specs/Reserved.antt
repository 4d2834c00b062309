-- How the code finds reserved words.
use Rattle.std.specs.Prelude.{ℕ, Bool, ◌||◌, ◌==◌, List, [], ◌∷◌, length, nat_eq, if◌then◌else◌}
use Rattle.goal_lexer.specs.declared.tokens.TokenKind.{TokenKind}

-- a reserved word ends with this byte
abbrev pub ends_reserved : ℕ → Bool
ends_reserved c =
    c == 99 || c == 100 || c == 103 || c == 107 || c == 109 || c == 111 || c == 115 || c == 117 || c == 118 || c == 121

-- the entries of the table whose words have n bytes
abbrev pub words_of_length : ℕ → List (List ℕ × TokenKind) → List (List ℕ × TokenKind)
words_of_length n [] = []
words_of_length n (entry ∷ entries) =
    if nat_eq n (length entry.0) then entry ∷ words_of_length n entries else words_of_length n entries
