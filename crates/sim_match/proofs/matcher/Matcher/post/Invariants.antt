use Rattle.sim_match.proofs.matcher.Matcher.post.Given as goal

abbrev pub ghosts-post_once : goal.ghosts-post_once
ghosts-post_once a = record { name = a.blank.name; parts = a.blank.parts }
