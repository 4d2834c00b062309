use Rattle.std.proofs.Common.{List, length, sym, ap, ◌∙◌}
use Rattle.goal_graph.specs.Schedule.{Plan, operations}
use Rattle.goal_blocks.specs.Walk.{no_send}
use Rattle.goal_certify.proofs.Cursors.{cursor_read, cursors_put}
use Rattle.goal_certify.proofs.walk.follow.choice_from.Goals as goal

pub entry_of_mut-cursor-requires-clause-each : goal.entry_of_mut-cursor-requires-clause-each
entry_of_mut-cursor-requires-clause-each c =
    c.requires.cursors.each ∙ ap (λ (ps : List Plan). length (operations ps)) (sym c.sched.ensures)

pub choice-requires-clause-cursor : goal.choice-requires-clause-cursor
choice-requires-clause-cursor c =
    cursor_read c.args.state.now.plans no_send c.args.state.now.history c.args.id c.sched.result.now c.args.cursors.now _ c.requires.cursors c.sched.ensures c.entry_of_mut-cursor.ensures.place

pub returns-clause-cursors : goal.returns-clause-cursors
returns-clause-cursors c =
    cursors_put c.args.state.now.plans no_send c.args.state.now.history c.args.id c.sched.result.now c.args.cursors.now _ c.requires.cursors c.sched.ensures c.choice.ensures.cursor
