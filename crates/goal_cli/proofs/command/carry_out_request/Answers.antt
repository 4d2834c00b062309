use Rattle.goal_words.specs.Requests.{requested}
use Rattle.goal_cli.specs.Output.{input_of, machine_of}
use Rattle.goal_cli.proofs.AnswerLemmas.{taken_within_limit_then_keeps_reading}
use Rattle.goal_cli.proofs.command.carry_out_request.Goals as goal

pub returns-in-Ok-clause-cause : goal.returns-in-Ok-clause-cause
returns-in-Ok-clause-cause g c =
    c.write_output.ensures.cause (g.H.Host.state c.args.host.now) c.gather.ensures.later c.gather.ensures.kept c.in-Ok.ensures.counts
    c.in-Ok.ensures.read_out c.in-Ok.ensures.work

pub returns-in-Ok-clause-taken : goal.returns-in-Ok-clause-taken
returns-in-Ok-clause-taken g c =
    taken_within_limit_then_keeps_reading (input_of (requested c.args.request.now)) (machine_of (requested c.args.request.now)) (g.H.Host.state c.args.host.now)
    (g.H.Host.state c.gather.new.host) (g.H.Host.state c.write_output.new.host) c.gather.ensures.later c.gather.ensures.taken
    c.write_output.ensures.kept
