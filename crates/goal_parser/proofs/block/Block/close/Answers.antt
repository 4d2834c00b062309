use Rattle.std.proofs.Common.{◌∙◌, ◌≡◌, map}
use Rattle.goal_lexer.specs.declared.tokens.TokenKind.TheVariants as token
use Rattle.goal_parser.specs.Actions.{op_of}
use Rattle.goal_parser.specs.Items.{ended_ops, dep_by, note_by}
use Rattle.goal_parser.proofs.NameLaws.{deps_of_labels, notes_of_labels}
use Rattle.goal_parser.proofs.block.Block.close.Goals as goal

pub returns-clause-plan : goal.returns-clause-plan
returns-clause-plan c = λ ds us deps notes holds.
    let names = c.args.self.now.names in
    let ops_are : c.end_action.new.ops.items ≡ ended_ops c.args.state token.Close (op_of c.args.draft.now) c.args.self.now.ops.items = c.in_ok-end_action.ensures in
    let deps_are : c.resolve.new.self.deps.items ≡ map (dep_by ds) deps = c.resolve.ensures.deps ∙ deps_of_labels names.labels.slots ds us names.deps.items deps holds.labels holds.deps in
    let notes_are : c.resolve.new.self.notes.items ≡ map (note_by ds) notes = c.resolve.ensures.notes ∙ notes_of_labels names.labels.slots ds us names.notes.items notes holds.labels holds.notes in
    rw (c.in_ok-ops.ensures.all, c.in_ok-deps.ensures.all, c.in_ok-notes.ensures.all)
    (λ i. record { ops = ops_are i; deps = deps_are i; notes = notes_are i })
