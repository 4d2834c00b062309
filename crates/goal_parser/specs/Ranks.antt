-- The number of ranks, and the ranks of the blocks.
use Rattle.std.specs.Prelude.{ℕ, List, [], ◌∷◌, ◌++◌}
use Rattle.goal_lexer.specs.declared.tokens.Token.{Token}
use Rattle.goal_lexer.specs.declared.tokens.TokenKind.{TokenKind}
use Rattle.goal_lexer.specs.declared.tokens.TokenKind.TheVariants as token
use Rattle.goal_parser.specs.declared.sentence.State.{State}
use Rattle.goal_parser.specs.declared.sentence.State.TheVariants as state
use Rattle.goal_parser.specs.Sentence.{state_of}

-- the number after `num_ranks`
unfoldable pub ranks_with : State → TokenKind → ℕ → ℕ
ranks_with state.Ranks (token.Number n) ranks = n
ranks_with _ _ ranks = ranks

unfoldable pub ranks_of : List Token → ℕ
ranks_of [] = 0
ranks_of (t ∷ before) = ranks_with (state_of before) t.kind (ranks_of before)

-- the numbers after `rank`, in the order of the text
unfoldable pub blocks_with : State → TokenKind → List ℕ → List ℕ
blocks_with state.Block (token.Number n) blocks = blocks ++ n ∷ []
blocks_with _ _ blocks = blocks

unfoldable pub blocks_of : List Token → List ℕ
blocks_of [] = []
blocks_of (t ∷ before) = blocks_with (state_of before) t.kind (blocks_of before)

-- the number after the newest `rank`
unfoldable pub rank_with : State → TokenKind → ℕ → ℕ
rank_with state.Block (token.Number n) rank = n
rank_with _ _ rank = rank

unfoldable pub rank_of : List Token → ℕ
rank_of [] = 0
rank_of (t ∷ before) = rank_with (state_of before) t.kind (rank_of before)
