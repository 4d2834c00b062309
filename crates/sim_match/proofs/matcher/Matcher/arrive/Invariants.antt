use Rattle.sim_match.proofs.matcher.Matcher.arrive.Given as goal

abbrev pub ghosts-arrive_once : goal.ghosts-arrive_once
ghosts-arrive_once a = record { name = a.blank.name; parts = a.blank.parts }
