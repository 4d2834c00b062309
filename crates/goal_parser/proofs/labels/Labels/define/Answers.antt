use Rattle.std.proofs.Common.{◌≡◌, ◌∙◌, sym, ap, Bool, false, true, Some, is_some, rules, ℕ, Option}
use Rattle.goal_parser.specs.Items.{is_defined}
use Rattle.goal_parser.specs.Faults.{fault_if}
use Rattle.goal_parser.specs.declared.faults.TextFault.TheVariants.{Repeat}
use Rattle.goal_parser.proofs.SlotLaws.{Keeps-defined, Grows-put, lookup_says_defined, lookup_after_put}
use Rattle.goal_parser.proofs.labels.Labels.define.Goals as goal

pub returns-in-None-clause-ok : goal.returns-in-None-clause-ok
returns-in-None-clause-ok c = λ ds us keeps.
    let es = c.args.self.now.slots in
    let label = c.args.label.now in
    let at = c.args.at in
    let before = c.in_ok-before.before in
    let fresh : is_defined ds label ≡ false = lookup_says_defined es ds us label before keeps (search (rules)) ∙ ap (λ (o : Option ℕ). is_some o) (sym c.op_in.ensures ∙ c.in-None.is) in (
      ap (λ (b : Bool). fault_if b (Repeat at)) fresh,
      Keeps-defined es c.insert.new.self ds us label c.args.op at c.in_ok-before.ensures.entries (lookup_after_put es c.insert.new.self label (record { op = Some c.args.op; at = at }) c.in_ok-before.ensures.entries) keeps fresh,
    )

pub returns-in-None-clause-grows : goal.returns-in-None-clause-grows
returns-in-None-clause-grows c =
    Grows-put c.args.self.now.slots c.insert.new.self c.args.label.now (record { op = Some c.args.op; at = c.args.at }) c.in_ok-before.ensures.entries

pub returns-in-Some-clause-fault : goal.returns-in-Some-clause-fault
returns-in-Some-clause-fault c = λ memory ds us keeps.
    let es = c.args.self.now.slots in
    let label = c.args.label.now in
    let defined : is_defined ds label ≡ true = lookup_says_defined es ds us label c.in_ok-before.before keeps (search (rules)) ∙ ap (λ (o : Option ℕ). is_some o) (sym c.op_in.ensures ∙ c.in-Some.is) in
    ap (λ (b : Bool). fault_if b (Repeat c.args.at)) defined
