use Rattle.std.proofs.Common.{rules, ◌≡◌, ap, sym, ◌∙◌, subst, None}
use Rattle.std.specs.FinMap.{get}
use Rattle.std.specs.Option.{option_map}
use Rattle.goal_base.specs.Device.{Files}
use Rattle.goal_base.specs.DeviceCalls.{grown}
use Rattle.goal_base.specs.NamedFiles.{files_of}
use Rattle.goal_base.proofs.FilesLemmas.{files_of-append, files_of-same, get-files_of, bytes_of, Map}
use Rattle.goal_base.proofs.files.NamedFiles.append.Goals as goal
use Rattle.goal_base.proofs.files.NamedFiles.append.Goals.{in-Some+in_ok-extend_from_slice-in-Some, in-None}

pub returns-in_err-extend_from_slice-in-Some-clause-err : goal.returns-in_err-extend_from_slice-in-Some-clause-err
returns-in_err-extend_from_slice-in-Some-clause-err c =
    let writes = c.get_mut.follows.holds c.extend_from_slice.new.self in
    let same = files_of-same c.self.inside.by_name (c.get_mut.follows.lender c.extend_from_slice.new.self) c.args.name.now c.in-Some.bytes.now c.extend_from_slice.new.self
    (sym c.in-Some.ensures.value) (writes.3 (search rules)) (c.in_err-extend_from_slice-in-Some.ensures.items) ∙ c.self.view_is in
    search rules

pub returns-clause-ok : goal.returns-clause-ok
returns-clause-ok c = elim c.match-get_mut.branch [
  | in-Some+in_ok-extend_from_slice-in-Some w ↦
      let writes = c.get_mut.follows.holds w.extend_from_slice.new.self in
      let step = files_of-append c.self.inside.by_name (c.get_mut.follows.lender w.extend_from_slice.new.self) c.args.name.now w.in-Some.bytes.now w.extend_from_slice.new.self c.args.piece.now
      (sym w.in-Some.ensures.value) (writes.3 (search rules)) w.in_ok-extend_from_slice-in-Some.ensures.items in
      let told = subst (λ (f : Files). files_of (c.get_mut.follows.lender w.extend_from_slice.new.self).entries ≡ grown (get f c.args.name.now) f c.args.name.now c.args.piece.now) c.self.view_is step in
      rw (w.result-is, w.self-inside-is) told
  | in-None w ↦
      let none : get c.args.self.now c.args.name.now ≡ None = ap (λ (f : Files). get f c.args.name.now) (sym c.self.view_is) ∙ get-files_of c.self.inside.by_name c.args.name.now
      ∙ ap (option_map bytes_of) (sym w.in-None.ensures.value) in
      rw (w.result-is, w.self-inside-is, none) (ap (λ (m : Map). files_of m.entries) c.get_mut.follows.holds-at-none ∙ c.self.view_is)
]
