use Rattle.std.proofs.Common.{◌≡◌, List, ℕ, subst}
use Rattle.std.specs.FinMap.{insert}
use Rattle.goal_base.specs.Device.{Files}
use Rattle.goal_base.specs.NamedFiles.{files_of}
use Rattle.goal_base.proofs.FilesLemmas.{files_of-set}
use Rattle.goal_base.proofs.files.NamedFiles.set.Goals as goal

pub returns-clause-ok : goal.returns-clause-ok
returns-clause-ok c =
    let step = files_of-set c.self.inside.by_name c.insert.new.self _ c.args.bytes c.in_ok-insert.ensures.updates in
    let named = subst (λ (l : List ℕ). files_of c.insert.new.self.entries ≡ insert (files_of c.self.inside.by_name.entries) l c.args.bytes.items) c.in_ok-key.ensures.ok step in
    subst (λ (f : Files). files_of c.insert.new.self.entries ≡ insert f c.args.name.now c.args.bytes.items) c.self.view_is named
