use Rattle.std.proofs.Common.{◌≡◌, ◌≤◌, ℕ, List, length, Option, Some, None, is_some, IsSomeAnd, inl, inr, refl, sym, ap, ◌∙◌, rules, subst}
use Rattle.std.specs.FinMap.{get}
use Rattle.goal_limits.specs.declared.limits.TheConstants.{MAX_INPUT}
use Rattle.goal_base.specs.Device.{HostState, Files, Later, KeepsFiles, SameReadCounts, ReadFaulted, IsTooLong}
use Rattle.goal_graph.specs.Schedule.{Plan}
use Rattle.goal_words.specs.Words.{Command}
use Rattle.goal_words.specs.Requests.{requested}
use Rattle.goal_cli.specs.declared.answer.Answer.{Answer}
use Rattle.goal_cli.specs.declared.answer.Answer.TheVariants as answer
use Rattle.goal_cli.specs.declared.answer.Refusal.{Refusal}
use Rattle.goal_cli.specs.declared.answer.Refusal.TheVariants as refusal
use Rattle.goal_cli.specs.Answer.{ForNamed, ForRead, IsReadOut}
use Rattle.goal_cli.specs.Output.{input_of, machine_of, input_with, IsFrom, IsRefused}
use Rattle.goal_cli.specs.WithoutWork.{HasNoSchedule, IsNotReadWhole, HasNoWork, AreBytesOfFile, IsGathered}
use Rattle.goal_base.proofs.ForCallers.{later_is_transitive, keeps_files_is_transitive, same_read_counts_is_transitive}
use Rattle.goal_cli.proofs.AnswerLemmas.{for_turned, for_named_from_file_bytes, no_work_when_schedule_refused, read_out_from, taken_within_limit_of_both, taken_within_limit_of_input_alone}
use Rattle.goal_cli.proofs.source.gather.Goals as goal

-- the bytes of both files
gathered_of : (a b : HostState) (c : Command) (sched : List Plan) (text : List ℕ) → Later a b → KeepsFiles a b
    → ForNamed a (input_of c) (λ schedule. IsFrom c.source schedule sched) → AreBytesOfFile b (machine_of c) text → ForRead a c (IsGathered c sched text)
gathered_of a b c sched text later kept made got =
    for_turned a (λ s. IsFrom c.source s sched) (λ s. ForNamed a (machine_of c) (λ m. IsFrom c.source s sched × (m ≡ text)))
    (λ s from. for_named_from_file_bytes a b text (λ m. IsFrom c.source s sched × (m ≡ text)) (machine_of c) later kept got (from, refl)) (input_of c) made

-- the count of a fault of reading, after another reading that left the counts unchanged
read_faulted_from_earlier_host : (a b d : HostState) (o : Option (List ℕ)) → Later a b → KeepsFiles a b → SameReadCounts a b → IsSomeAnd o (ReadFaulted b d)
    → IsSomeAnd o (ReadFaulted a d)
read_faulted_from_earlier_host a b d None later kept same faulted = faulted
read_faulted_from_earlier_host a b d (Some name) later kept same (inl rose) = inl (rw (later.stops, same.read_count) at rose)
read_faulted_from_earlier_host a b d (Some name) later kept same (inr absent) = inr (
  rw (later.stops, same.absent_count) at absent.0,
  λ t. ap (λ (f : Files). get f name) (sym (kept.files.files t)) ∙ absent.1 (later.tells ∙ t),
)

-- a machine that is too long
too_long_from_earlier_host : (a b : HostState) (o : Option (List ℕ)) → Later a b → KeepsFiles a b → IsSomeAnd o (IsTooLong b) → IsSomeAnd o (IsTooLong a)
too_long_from_earlier_host a b None later kept long = long
too_long_from_earlier_host a b (Some name) later kept long = record {
  told = λ t.
      let k = long.told (later.tells ∙ t) in
      (k.0, ap (λ (f : Files). get f name) (sym (kept.files.files t)) ∙ k.1, k.2);
}

-- a machine that is too long satisfies `IsReadOut`, and is refused
too_long_is_read_out : (a d : HostState) (o : Option (List ℕ)) → IsSomeAnd o (IsTooLong a) → IsReadOut a d o
too_long_is_read_out a d None long = tt
too_long_is_read_out a d (Some name) long = λ t. inr long

too_long_machine_is_refused : (a : HostState) (c : Command) (schedule : List ℕ) (o : Option (List ℕ)) → machine_of c ≡ o → IsSomeAnd o (IsTooLong a)
    → ForNamed a o (λ machine. IsRefused c (input_with schedule machine) refusal.TooLong)
too_long_machine_is_refused a c schedule None is long = absurd long
too_long_machine_is_refused a c schedule (Some name) is long = λ t. let k = long.told t in (k.0, k.1, inr (ap is_some is, k.2))

-- why the machine was not read whole, where the schedule was read
no_work_when_machine_not_read : (a b d : HostState) (c : Command) (Q : List ℕ → Type 0) (why : Answer) → Later a b → KeepsFiles a b → SameReadCounts a b
    → ForNamed a (input_of c) Q → IsNotReadWhole b d (machine_of c) why → HasNoWork a d c why
no_work_when_machine_not_read a b d c Q (answer.Written e) later kept same got untold = untold
no_work_when_machine_not_read a b d c Q answer.BadLine later kept same got untold = untold
no_work_when_machine_not_read a b d c Q (answer.Refused r) later kept same got untold =
    let long = too_long_from_earlier_host a b (machine_of c) later kept untold.1 in (
      subst (λ (r : Refusal). ForRead a c (λ input. IsRefused c input r)) (sym untold.0)
          (for_turned a Q (λ s. ForNamed a (machine_of c) (λ m. IsRefused c (input_with s m) refusal.TooLong))
          (λ s q. too_long_machine_is_refused a c s (machine_of c) refl long) (input_of c) got),
      same_read_counts_is_transitive a b d same untold.2,
      too_long_is_read_out a d (machine_of c) long,
    )
no_work_when_machine_not_read a b d c Q answer.ReadFault later kept same got untold = inr (read_faulted_from_earlier_host a b d (machine_of c) later kept same untold)
no_work_when_machine_not_read a b d c Q answer.WriteFault later kept same got untold = untold
no_work_when_machine_not_read a b d c Q answer.NoMemory later kept same got untold = tt

pub returns-in-Ok-take_machine-2-clause-idle : goal.returns-in-Ok-take_machine-2-clause-idle
returns-in-Ok-take_machine-2-clause-idle g c =
    let old = g.H.Host.state c.args.host.now in
    let read = g.H.Host.state c.schedule_of.new.host in
    let is : c.in-Err-Refused.field-0 ≡ answer.Refused c.in-Err-Refused.refusal = search rules in
    let unmade = subst (λ (a : Answer). HasNoSchedule old read (requested c.args.request.now) a) is c.in-Err-Refused.ensures.unmade in
    let got = c.in-Ok-take_machine-2.ensures in
    rw c.in-Err-Refused.refusal-is
    (no_work_when_schedule_refused old read (g.H.Host.state c.take_machine-in-Err-Refused.new.host) (requested c.args.request.now) c.in-Err-Refused.refusal
    c.in-Ok-take_machine-2._text.items c.schedule_of.ensures.later c.schedule_of.ensures.kept unmade got.got got.short got.read_out got.counts)

pub returns-in-Ok-take_machine-clause-work : goal.returns-in-Ok-take_machine-clause-work
returns-in-Ok-take_machine-clause-work g c =
    gathered_of (g.H.Host.state c.args.host.now) (g.H.Host.state c.schedule_of.new.host) (requested c.args.request.now) c.in-Ok.sched
    c.in-Ok-take_machine.machine.items c.schedule_of.ensures.later c.schedule_of.ensures.kept c.in-Ok.ensures.schedule
    c.in-Ok-take_machine.ensures.got

pub returns-in-Ok-take_machine-clause-kept : goal.returns-in-Ok-take_machine-clause-kept
returns-in-Ok-take_machine-clause-kept g c =
    keeps_files_is_transitive (g.H.Host.state c.args.host.now) (g.H.Host.state c.schedule_of.new.host) (g.H.Host.state c.take_machine.new.host) c.schedule_of.ensures.later
    c.schedule_of.ensures.kept c.take_machine.ensures.kept

pub returns-in-Ok-take_machine-clause-later : goal.returns-in-Ok-take_machine-clause-later
returns-in-Ok-take_machine-clause-later g c =
    later_is_transitive (g.H.Host.state c.args.host.now) (g.H.Host.state c.schedule_of.new.host) (g.H.Host.state c.take_machine.new.host) c.schedule_of.ensures.later
    c.take_machine.ensures.later

pub returns-in-Ok-take_machine-clause-taken : goal.returns-in-Ok-take_machine-clause-taken
returns-in-Ok-take_machine-clause-taken g c =
    taken_within_limit_of_both (input_of (requested c.args.request.now)) (machine_of (requested c.args.request.now)) (g.H.Host.state c.args.host.now) (g.H.Host.state c.schedule_of.new.host) (g.H.Host.state c.take_machine.new.host)
    c.schedule_of.ensures.later c.schedule_of.ensures.kept c.schedule_of.ensures.taken c.take_machine.ensures.taken

pub returns-in-Err-take_machine-clause-kept : goal.returns-in-Err-take_machine-clause-kept
returns-in-Err-take_machine-clause-kept g c =
    keeps_files_is_transitive (g.H.Host.state c.args.host.now) (g.H.Host.state c.schedule_of.new.host) (g.H.Host.state c.take_machine.new.host) c.schedule_of.ensures.later
    c.schedule_of.ensures.kept c.take_machine.ensures.kept

pub returns-in-Err-take_machine-clause-later : goal.returns-in-Err-take_machine-clause-later
returns-in-Err-take_machine-clause-later g c =
    later_is_transitive (g.H.Host.state c.args.host.now) (g.H.Host.state c.schedule_of.new.host) (g.H.Host.state c.take_machine.new.host) c.schedule_of.ensures.later
    c.take_machine.ensures.later

pub returns-in-Err-take_machine-clause-taken : goal.returns-in-Err-take_machine-clause-taken
returns-in-Err-take_machine-clause-taken g c =
    taken_within_limit_of_both (input_of (requested c.args.request.now)) (machine_of (requested c.args.request.now)) (g.H.Host.state c.args.host.now) (g.H.Host.state c.schedule_of.new.host) (g.H.Host.state c.take_machine.new.host)
    c.schedule_of.ensures.later c.schedule_of.ensures.kept c.schedule_of.ensures.taken c.take_machine.ensures.taken

pub returns-in-Ok-take_machine-2-clause-kept : goal.returns-in-Ok-take_machine-2-clause-kept
returns-in-Ok-take_machine-2-clause-kept g c =
    keeps_files_is_transitive (g.H.Host.state c.args.host.now) (g.H.Host.state c.schedule_of.new.host) (g.H.Host.state c.take_machine-in-Err-Refused.new.host) c.schedule_of.ensures.later
    c.schedule_of.ensures.kept c.take_machine-in-Err-Refused.ensures.kept

pub returns-in-Ok-take_machine-2-clause-later : goal.returns-in-Ok-take_machine-2-clause-later
returns-in-Ok-take_machine-2-clause-later g c =
    later_is_transitive (g.H.Host.state c.args.host.now) (g.H.Host.state c.schedule_of.new.host) (g.H.Host.state c.take_machine-in-Err-Refused.new.host) c.schedule_of.ensures.later
    c.take_machine-in-Err-Refused.ensures.later

pub returns-in-Ok-take_machine-2-clause-taken : goal.returns-in-Ok-take_machine-2-clause-taken
returns-in-Ok-take_machine-2-clause-taken g c =
    taken_within_limit_of_both (input_of (requested c.args.request.now)) (machine_of (requested c.args.request.now)) (g.H.Host.state c.args.host.now) (g.H.Host.state c.schedule_of.new.host) (g.H.Host.state c.take_machine-in-Err-Refused.new.host)
    c.schedule_of.ensures.later c.schedule_of.ensures.kept c.schedule_of.ensures.taken c.take_machine-in-Err-Refused.ensures.taken

pub returns-in-Err-take_machine-2-clause-kept : goal.returns-in-Err-take_machine-2-clause-kept
returns-in-Err-take_machine-2-clause-kept g c =
    keeps_files_is_transitive (g.H.Host.state c.args.host.now) (g.H.Host.state c.schedule_of.new.host) (g.H.Host.state c.take_machine-in-Err-Refused.new.host) c.schedule_of.ensures.later
    c.schedule_of.ensures.kept c.take_machine-in-Err-Refused.ensures.kept

pub returns-in-Err-take_machine-2-clause-later : goal.returns-in-Err-take_machine-2-clause-later
returns-in-Err-take_machine-2-clause-later g c =
    later_is_transitive (g.H.Host.state c.args.host.now) (g.H.Host.state c.schedule_of.new.host) (g.H.Host.state c.take_machine-in-Err-Refused.new.host) c.schedule_of.ensures.later
    c.take_machine-in-Err-Refused.ensures.later

pub returns-in-Err-take_machine-2-clause-taken : goal.returns-in-Err-take_machine-2-clause-taken
returns-in-Err-take_machine-2-clause-taken g c =
    taken_within_limit_of_both (input_of (requested c.args.request.now)) (machine_of (requested c.args.request.now)) (g.H.Host.state c.args.host.now) (g.H.Host.state c.schedule_of.new.host) (g.H.Host.state c.take_machine-in-Err-Refused.new.host)
    c.schedule_of.ensures.later c.schedule_of.ensures.kept c.schedule_of.ensures.taken c.take_machine-in-Err-Refused.ensures.taken

pub returns-in-Err-take_machine-clause-idle : goal.returns-in-Err-take_machine-clause-idle
returns-in-Err-take_machine-clause-idle g c =
    no_work_when_machine_not_read (g.H.Host.state c.args.host.now) (g.H.Host.state c.schedule_of.new.host) (g.H.Host.state c.take_machine.new.host)
    (requested c.args.request.now) (λ schedule. IsFrom c.args.request.now.source schedule c.in-Ok.sched) c.in-Err-take_machine.answer
    c.schedule_of.ensures.later c.schedule_of.ensures.kept c.in-Ok.ensures.counts c.in-Ok.ensures.schedule c.in-Err-take_machine.ensures.untold

pub returns-in-Err-take_machine-2-clause-idle : goal.returns-in-Err-take_machine-2-clause-idle
returns-in-Err-take_machine-2-clause-idle g c =
    let old = g.H.Host.state c.args.host.now in
    let read = g.H.Host.state c.schedule_of.new.host in
    let is : c.in-Err-Refused.field-0 ≡ answer.Refused c.in-Err-Refused.refusal = search rules in
    let unmade = subst (λ (a : Answer). HasNoSchedule old read (requested c.args.request.now) a) is c.in-Err-Refused.ensures.unmade in
    no_work_when_machine_not_read old read (g.H.Host.state c.take_machine-in-Err-Refused.new.host) (requested c.args.request.now)
    (λ schedule. (machine : List ℕ) → length machine ≤ MAX_INPUT → IsRefused (requested c.args.request.now) (input_with schedule machine) c.in-Err-Refused.refusal)
    c.in-Err-take_machine-2.answer c.schedule_of.ensures.later c.schedule_of.ensures.kept unmade.1 unmade.0
    c.in-Err-take_machine-2.ensures.untold

pub returns-in-Ok-take_machine-clause-read_out : goal.returns-in-Ok-take_machine-clause-read_out
returns-in-Ok-take_machine-clause-read_out g c =
    read_out_from (g.H.Host.state c.args.host.now) (g.H.Host.state c.schedule_of.new.host) (g.H.Host.state c.take_machine.new.host) (machine_of (requested c.args.request.now))
    c.schedule_of.ensures.later c.schedule_of.ensures.kept c.in-Ok-take_machine.ensures.read_out

pub returns-in-Ok-take_machine-clause-counts : goal.returns-in-Ok-take_machine-clause-counts
returns-in-Ok-take_machine-clause-counts g c =
    same_read_counts_is_transitive (g.H.Host.state c.args.host.now) (g.H.Host.state c.schedule_of.new.host) (g.H.Host.state c.take_machine.new.host) c.in-Ok.ensures.counts c.in-Ok-take_machine.ensures.counts

pub returns-in-Err-clause-taken : goal.returns-in-Err-clause-taken
returns-in-Err-clause-taken g c =
    taken_within_limit_of_input_alone (input_of (requested c.args.request.now)) (machine_of (requested c.args.request.now)) (g.H.Host.state c.args.host.now) (g.H.Host.state c.schedule_of.new.host) c.schedule_of.ensures.taken
