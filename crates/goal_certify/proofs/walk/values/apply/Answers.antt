use Rattle.goal_certify.specs.WalkSoFar.{act_of}
use Rattle.goal_certify.specs.Carried.{values_of_parcels}
use Rattle.goal_certify.proofs.Applied.{carrying_unchanged_by_arrive, carrying_unchanged_by_post}
use Rattle.goal_certify.proofs.walk.values.apply.Goals as goal

pub returns-in-Arrive-clause-follows : goal.returns-in-Arrive-clause-follows
returns-in-Arrive-clause-follows c =
    λ first so_far. record { carrying = carrying_unchanged_by_arrive _ _ (act_of c.args.action) c.requires.taken.newest c.known.ensures.each first c.args.held.now.store.kept (values_of_parcels c.args.held.now.store.sums c.args.held.now.parcels.items) c.args.held.now.carried so_far.carrying c.in-Arrive.is; known = so_far.known }

pub returns-in-Post-clause-follows : goal.returns-in-Post-clause-follows
returns-in-Post-clause-follows c =
    λ first so_far. record { carrying = carrying_unchanged_by_post _ _ (act_of c.args.action) c.requires.taken.newest c.known.ensures.each first c.args.held.now.store.kept (values_of_parcels c.args.held.now.store.sums c.args.held.now.parcels.items) c.args.held.now.carried so_far.carrying c.in-Post.is; known = so_far.known }
