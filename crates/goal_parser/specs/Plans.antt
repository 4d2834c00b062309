-- The plans of a text.
use Rattle.std.specs.Prelude.{ℕ, List, [], ◌∷◌, map, replicate, slice_set}
use Rattle.goal_lexer.specs.declared.tokens.Token.{Token}
use Rattle.goal_lexer.specs.declared.tokens.TokenKind.{TokenKind}
use Rattle.goal_lexer.specs.declared.tokens.TokenKind.TheVariants as token
use Rattle.goal_graph.specs.Schedule.{Plan}
use Rattle.goal_parser.specs.declared.sentence.State.{State}
use Rattle.goal_parser.specs.declared.sentence.State.TheVariants as state
use Rattle.goal_parser.specs.Sentence.{state_of}
use Rattle.goal_parser.specs.Actions.{draft_of, op_of}
use Rattle.goal_parser.specs.Ranks.{rank_of}
use Rattle.goal_parser.specs.Items.{ended_ops, ops_of, defined_of, deps_of, notes_of, dep_by, note_by}

-- a rank without a block
abbrev pub empty_plan : Plan
empty_plan = record { ops = []; deps = []; notes = [] }

-- the plan of the block that ends after these tokens: its operations, dependencies and notes, in the order of the text
abbrev pub block_plan : List Token → Plan
block_plan before = record {
  ops = ended_ops (state_of before) token.Close (op_of (draft_of before)) (ops_of before);
  deps = map (dep_by (defined_of before)) (deps_of before);
  notes = map (note_by (defined_of before)) (notes_of before);
}

-- after `num_ranks` all ranks are empty
abbrev pub first_plans : State → ℕ → List Plan → List Plan
first_plans state.Ranks n plans = replicate n empty_plan
first_plans _ n plans = plans

unfoldable pub plans_with : State → TokenKind → ℕ → Plan → List Plan → List Plan
plans_with s (token.Number n) rank plan plans = first_plans s n plans
plans_with s token.Close rank plan plans = slice_set plans rank plan
plans_with s _ rank plan plans = plans

-- the plan of each rank: that of its block so far, or an empty one
unfoldable pub plans_of : List Token → List Plan
plans_of [] = []
plans_of (t ∷ before) = plans_with (state_of before) t.kind (rank_of before) (block_plan before) (plans_of before)
