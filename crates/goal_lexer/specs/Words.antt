-- The reserved words.
use Rattle.std.specs.Prelude.{ℕ, List, [], ◌∷◌, codes, bytes_eq, if◌then◌else◌}
use Rattle.goal_lexer.specs.declared.tokens.TokenKind.{TokenKind}
use Rattle.goal_lexer.specs.declared.tokens.TokenKind.TheVariants.{NumRanks, Rank, Calc, Send, Recv, To, From, Tag, Cpu, Nic, Any, Requires, Irequires, Moves, Adds, Label}

-- the reserved words and their tokens
abbrev pub reserved_words : List (List ℕ × TokenKind)
reserved_words =
    (codes "num_ranks", NumRanks) ∷ (codes "rank", Rank) ∷ (codes "calc", Calc) ∷ (codes "send", Send)
    ∷ (codes "recv", Recv) ∷ (codes "to", To) ∷ (codes "from", From) ∷ (codes "tag", Tag)
    ∷ (codes "cpu", Cpu) ∷ (codes "nic", Nic) ∷ (codes "any", Any) ∷ (codes "requires", Requires)
    ∷ (codes "irequires", Irequires) ∷ (codes "moves", Moves) ∷ (codes "adds", Adds) ∷ []

-- the token of the first entry that has this spelling, or otherwise a label
abbrev pub kind_among : List (List ℕ × TokenKind) → List ℕ → TokenKind
kind_among [] word = Label word
kind_among (entry ∷ entries) word = if bytes_eq word entry.0 then entry.1 else kind_among entries word

-- the token of a word
abbrev pub word_kind : List ℕ → TokenKind
word_kind word = kind_among reserved_words word
