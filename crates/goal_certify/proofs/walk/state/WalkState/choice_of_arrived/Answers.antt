use Rattle.std.proofs.Common.{sym, ◌∙◌}
use Rattle.goal_certify.proofs.Chosen.{newest_arrive_is_of_send, idle_arrived}
use Rattle.goal_certify.proofs.walk.state.WalkState.choice_of_arrived.Goals as goal

pub may_hand_over-requires : goal.may_hand_over-requires
may_hand_over-requires c = newest_arrive_is_of_send c.args.self.now.plans c.args.self.now.history c.args.send c.known.ensures.each c.requires.newest

pub returns : goal.returns
returns c =
    idle_arrived c.args.self.now.plans c.args.self.now.history c.args.send c.known.ensures.each c.requires.newest (sym c.may_hand_over.ensures ∙ c.if-may_hand_over.false)
