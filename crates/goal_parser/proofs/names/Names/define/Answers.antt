use Rattle.std.proofs.Common.{◌≡◌, ℕ, List, sym, subst, None, Some, Option, ◌∷◌, ◌++◌, []}
use Rattle.goal_parser.specs.declared.head.Mention.{Mention}
use Rattle.goal_parser.specs.Items.{define}
use Rattle.goal_parser.specs.Slots.{Keeps, NamesHold}
use Rattle.goal_parser.specs.Faults.{defined_fault}
use Rattle.goal_parser.proofs.NameLaws.{NamesHold-labels}
use Rattle.goal_parser.proofs.KindLaws.{on_ok_of_both}
use Rattle.goal_parser.proofs.names.Names.define.Goals as goal

pub returns-in-Some-clause-ok : goal.returns-in-Some-clause-ok
returns-in-Some-clause-ok c = on_ok_of_both c.define.result _ _ _ c.define.ensures.ok c.define.ensures.grows (λ kept grows ds us deps notes holds.
    let subject = c.in-Some.subject in
    let done = subst (λ (label : List ℕ). (defined_fault ds (Some (record { label = label; at = subject.at })) ≡ None) × Keeps c.define.new.self.slots (ds ++ record { label = label; op = c.args.op } ∷ []) us)
    c.as_bytes.ensures.bytes (kept ds us holds.labels) in
    subst (λ (s : Option Mention). (defined_fault ds s ≡ None) × NamesHold (record c.args.self.now { labels = c.define.new.self }) (define s c.args.op ds) us deps notes) (sym c.in-Some.is) (
      done.0,
      NamesHold-labels c.args.self.now c.define.new.self ds (ds ++ record { label = subject.label; op = c.args.op } ∷ []) us us deps notes grows done.1 holds,
    ))
