use Rattle.sim_stations.proofs.Joined.{joined_kept, joined_seen, one_fewer_ahead_after_join}
use Rattle.sim_stations.proofs.station_queue.begin_to_wait.Goals as goal

pub returns-clause-kept : goal.returns-clause-kept
returns-clause-kept g c =
    joined_kept c.args.ahead.now c.args.waiting.now c.args.rows.now c.args.stands.now c.requires.kept c.args.slot c.args.key c.requires.key c.requires.waits c.requires.late c.take.new.self c.join.new.waiting c.join.new.rows c.take.ensures.taken c.join.ensures.put c.join.ensures.shown c.join.ensures.keyed c.join.ensures.pairs c.join.ensures.turned c.join.ensures.free

pub returns-clause-seen : goal.returns-clause-seen
returns-clause-seen g c =
    joined_seen c.args.ahead.now c.args.waiting.now c.args.rows.now c.args.stands.now c.requires.kept c.args.slot c.args.key c.requires.key c.requires.waits c.requires.late c.take.new.self c.join.new.waiting c.join.new.rows c.take.ensures.taken c.join.ensures.put c.join.ensures.shown c.join.ensures.keyed c.join.ensures.pairs c.join.ensures.turned c.join.ensures.free

pub returns-clause-fewer : goal.returns-clause-fewer
returns-clause-fewer g c =
    one_fewer_ahead_after_join c.args.ahead.now c.args.waiting.now c.args.rows.now c.args.stands.now c.requires.kept c.args.slot c.args.key c.requires.key
