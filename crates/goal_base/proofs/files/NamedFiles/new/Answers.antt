use Rattle.goal_base.proofs.FilesLemmas.{files_of-none}
use Rattle.goal_base.proofs.files.NamedFiles.new.Goals as goal

pub returns : goal.returns
returns c = files_of-none c.new.result c.new.ensures.empty
