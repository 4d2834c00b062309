use Rattle.std.proofs.Common.{Some, ap, sym, ◌∙◌}
use Rattle.std.specs.FinMap.{get}
use Rattle.std.specs.Option.{option_map}
use Rattle.goal_base.specs.Device.{Files}
use Rattle.goal_base.proofs.FilesLemmas.{get-files_of, bytes_of}
use Rattle.goal_base.proofs.files.NamedFiles.get.Goals as goal

pub returns-in-Some : goal.returns-in-Some
returns-in-Some c =
    ap Some c.as_slice.ensures.value ∙ ap (option_map bytes_of) c.in-Some.ensures.value
    ∙ sym (get-files_of c.self.inside.by_name c.args.name.now) ∙ ap (λ (f : Files). get f c.args.name.now) c.self.view_is

pub returns-in-None : goal.returns-in-None
returns-in-None c =
    ap (option_map bytes_of) c.in-None.ensures.value
    ∙ sym (get-files_of c.self.inside.by_name c.args.name.now) ∙ ap (λ (f : Files). get f c.args.name.now) c.self.view_is
