use Rattle.std.proofs.Common.{◌∷◌, drop, ap, ◌∙◌}
use Rattle.goal_graph.specs.declared.action.Class.{Class}
use Rattle.goal_certify.proofs.Chosen.{idle_handed_over, idle_posted, idle_served}
use Rattle.goal_certify.proofs.walk.state.WalkState.choice_after.Goals as goal

pub returns-in-Data : goal.returns-in-Data
returns-in-Data c =
    let h = c.args.self.now.history in
    let x = c.args.action.op in
    idle_handed_over c.args.self.now.plans h x c.known.ensures.each (c.requires.newest ∙ ap (λ (class : Class). record { class = class; op = x } ∷ drop 1 h) c.in-Data.is)

pub returns-in-Post : goal.returns-in-Post
returns-in-Post c =
    let h = c.args.self.now.history in
    let x = c.args.action.op in
    idle_posted c.args.self.now.plans h x c.known.ensures.each (c.requires.newest ∙ ap (λ (class : Class). record { class = class; op = x } ∷ drop 1 h) c.in-Post.is)

pub returns-in-Serve : goal.returns-in-Serve
returns-in-Serve c =
    let h = c.args.self.now.history in
    let x = c.args.action.op in
    idle_served c.args.self.now.plans h x c.known.ensures.each (c.requires.newest ∙ ap (λ (class : Class). record { class = class; op = x } ∷ drop 1 h) c.in-Serve.is)
