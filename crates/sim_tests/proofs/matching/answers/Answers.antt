-- An operation is posted or arrives for the first time.
use Rattle.std.proofs.Common.{◌≡◌, List, [], ap, ◌∙◌, false}
use Rattle.goal_graph.specs.declared.action.OpId.{OpId}
use Rattle.goal_graph.specs.declared.action.Class.TheVariants.{Arrive, Post}
use Rattle.goal_graph.specs.Schedule.{Plan}
use Rattle.goal_graph.specs.Action.{happened}
use Rattle.sim_match.specs.PostsAndArrivals.{PostsAndArrivals, with_post, with_arrival}
use Rattle.sim_tests.proofs.matching.answers.Goals as goal

module _ (plans : List Plan) where
  -- the posts and arrivals before each call
  abbrev before_a : PostsAndArrivals
  before_a = record { plans = plans; actions = [] }

  abbrev before_b : PostsAndArrivals
  before_b = with_post before_a (record { rank = 1; op = 0 })

  abbrev before_c : PostsAndArrivals
  before_c = with_post before_b (record { rank = 1; op = 1 })

  abbrev before_d : PostsAndArrivals
  before_d = with_arrival before_c (record { rank = 0; op = 0 })

  abbrev before_e : PostsAndArrivals
  before_e = with_arrival before_d (record { rank = 0; op = 3 })

  abbrev before_f : PostsAndArrivals
  before_f = with_arrival before_e (record { rank = 0; op = 2 })

  abbrev before_g : PostsAndArrivals
  before_g = with_arrival before_f (record { rank = 0; op = 1 })

  fresh_a : (m : PostsAndArrivals) → m ≡ before_a → happened Post (record { rank = 1; op = 0 }) m.actions ≡ false
  unfolding happened
  fresh_a m e = ap (λ (m : PostsAndArrivals). happened Post (record { rank = 1; op = 0 }) m.actions) e

  fresh_b : (m : PostsAndArrivals) → m ≡ before_b → happened Post (record { rank = 1; op = 1 }) m.actions ≡ false
  unfolding happened
  fresh_b m e = ap (λ (m : PostsAndArrivals). happened Post (record { rank = 1; op = 1 }) m.actions) e

  fresh_c : (m : PostsAndArrivals) → m ≡ before_c → happened Arrive (record { rank = 0; op = 0 }) m.actions ≡ false
  unfolding happened
  fresh_c m e = ap (λ (m : PostsAndArrivals). happened Arrive (record { rank = 0; op = 0 }) m.actions) e

  fresh_d : (m : PostsAndArrivals) → m ≡ before_d → happened Arrive (record { rank = 0; op = 3 }) m.actions ≡ false
  unfolding happened
  fresh_d m e = ap (λ (m : PostsAndArrivals). happened Arrive (record { rank = 0; op = 3 }) m.actions) e

  fresh_e : (m : PostsAndArrivals) → m ≡ before_e → happened Arrive (record { rank = 0; op = 2 }) m.actions ≡ false
  unfolding happened
  fresh_e m e = ap (λ (m : PostsAndArrivals). happened Arrive (record { rank = 0; op = 2 }) m.actions) e

  fresh_f : (m : PostsAndArrivals) → m ≡ before_f → happened Arrive (record { rank = 0; op = 1 }) m.actions ≡ false
  unfolding happened
  fresh_f m e = ap (λ (m : PostsAndArrivals). happened Arrive (record { rank = 0; op = 1 }) m.actions) e

  fresh_g : (m : PostsAndArrivals) → m ≡ before_g → happened Post (record { rank = 1; op = 2 }) m.actions ≡ false
  unfolding happened
  fresh_g m e = ap (λ (m : PostsAndArrivals). happened Post (record { rank = 1; op = 2 }) m.actions) e

-- another post, another arrival
posted : (x : OpId) (m n s : PostsAndArrivals) → n ≡ with_post m x → m ≡ s → n ≡ with_post s x
posted x m n s e f = e ∙ ap (λ (m : PostsAndArrivals). with_post m x) f

arrived : (x : OpId) (m n s : PostsAndArrivals) → n ≡ with_arrival m x → m ≡ s → n ≡ with_arrival s x
arrived x m n s e f = e ∙ ap (λ (m : PostsAndArrivals). with_arrival m x) f

pub post-a-requires-clause-fresh : goal.post-a-requires-clause-fresh
post-a-requires-clause-fresh c = fresh_a c.args.sched.now _ c.in_ok-matcher.ensures

pub post-b-requires-clause-fresh : goal.post-b-requires-clause-fresh
post-b-requires-clause-fresh c =
    let after_a = posted _ _ _ _ c.post-a.ensures.actions c.in_ok-matcher.ensures in
    fresh_b c.args.sched.now _ after_a

pub arrive-c-requires-clause-fresh : goal.arrive-c-requires-clause-fresh
arrive-c-requires-clause-fresh c =
    let after_a = posted _ _ _ _ c.post-a.ensures.actions c.in_ok-matcher.ensures in
    let after_b = posted _ _ _ _ c.post-b.ensures.actions after_a in
    fresh_c c.args.sched.now _ after_b

pub arrive-d-requires-clause-fresh : goal.arrive-d-requires-clause-fresh
arrive-d-requires-clause-fresh c =
    let after_a = posted _ _ _ _ c.post-a.ensures.actions c.in_ok-matcher.ensures in
    let after_b = posted _ _ _ _ c.post-b.ensures.actions after_a in
    let after_c = arrived _ _ _ _ c.arrive-c.ensures.actions after_b in
    fresh_d c.args.sched.now _ after_c

pub arrive-e-requires-clause-fresh : goal.arrive-e-requires-clause-fresh
arrive-e-requires-clause-fresh c =
    let after_a = posted _ _ _ _ c.post-a.ensures.actions c.in_ok-matcher.ensures in
    let after_b = posted _ _ _ _ c.post-b.ensures.actions after_a in
    let after_c = arrived _ _ _ _ c.arrive-c.ensures.actions after_b in
    let after_d = arrived _ _ _ _ c.arrive-d.ensures.actions after_c in
    fresh_e c.args.sched.now _ after_d

pub arrive-f-requires-clause-fresh : goal.arrive-f-requires-clause-fresh
arrive-f-requires-clause-fresh c =
    let after_a = posted _ _ _ _ c.post-a.ensures.actions c.in_ok-matcher.ensures in
    let after_b = posted _ _ _ _ c.post-b.ensures.actions after_a in
    let after_c = arrived _ _ _ _ c.arrive-c.ensures.actions after_b in
    let after_d = arrived _ _ _ _ c.arrive-d.ensures.actions after_c in
    let after_e = arrived _ _ _ _ c.arrive-e.ensures.actions after_d in
    fresh_f c.args.sched.now _ after_e

pub post-g-requires-clause-fresh : goal.post-g-requires-clause-fresh
post-g-requires-clause-fresh c =
    let after_a = posted _ _ _ _ c.post-a.ensures.actions c.in_ok-matcher.ensures in
    let after_b = posted _ _ _ _ c.post-b.ensures.actions after_a in
    let after_c = arrived _ _ _ _ c.arrive-c.ensures.actions after_b in
    let after_d = arrived _ _ _ _ c.arrive-d.ensures.actions after_c in
    let after_e = arrived _ _ _ _ c.arrive-e.ensures.actions after_d in
    let after_f = arrived _ _ _ _ c.arrive-f.ensures.actions after_e in
    fresh_g c.args.sched.now _ after_f
