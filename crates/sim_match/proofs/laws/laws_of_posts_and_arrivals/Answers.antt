use Rattle.sim_match.proofs.PostsAndArrivalsLemmas.{pairs_filtered, new_pair_filtered, happened_filtered}
use Rattle.sim_match.proofs.laws.laws_of_posts_and_arrivals.Goals as goal

pub returns-clause-same_pairs : goal.returns-clause-same_pairs
returns-clause-same_pairs c = pairs_filtered

pub returns-clause-same_new_pair : goal.returns-clause-same_new_pair
returns-clause-same_new_pair c = new_pair_filtered

pub returns-clause-same_happened : goal.returns-clause-same_happened
returns-clause-same_happened c = happened_filtered
