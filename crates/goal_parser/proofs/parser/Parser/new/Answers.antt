use Rattle.std.proofs.Common.{refl}
use Rattle.goal_parser.specs.Sentence.{state_of}
use Rattle.goal_parser.specs.Ranks.{ranks_of, rank_of, blocks_of}
use Rattle.goal_parser.specs.Counts.{counts_of}
use Rattle.goal_parser.specs.Actions.{draft_of}
use Rattle.goal_parser.specs.Items.{head_of, ops_of, defined_of, used_of, deps_of, notes_of}
use Rattle.goal_parser.specs.Plans.{plans_of}
use Rattle.goal_parser.proofs.parser.Parser.new.Goals as goal

pub returns : goal.returns
unfolding state_of ranks_of rank_of blocks_of counts_of draft_of head_of ops_of defined_of used_of deps_of notes_of plans_of
returns c = record {
  state = refl;
  ranks = c.new.ensures.count;
  rank = c.new.ensures.present;
  blocks = c.new.ensures.blocks;
  counts = c.new-2.ensures;
  draft = c.new-3.ensures;
  head = tt;
  ops = c.new-5.ensures.ops;
  names = c.new-5.ensures.names;
  plans = c.new-6.ensures.items;
}
