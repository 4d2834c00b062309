-- Consequences of the table of causes.
use Rattle.std.proofs.Common.{◌≡◌, ◌≢◌, ℕ, ◌+◌, ◌<◌, ◌≤◌, ◌⊎◌, true, false, List, [], length, Option, Some, None, IfSome, IsSomeAnd, inl, inr, refl, sym, ap, ◌∙◌, subst, arith}
use Rattle.std.proofs.Math.Seq.{take-length}
use Rattle.std.specs.FinMap.{get, insert}
use Rattle.goal_limits.specs.declared.limits.TheConstants.{MAX_INPUT}
use Rattle.goal_base.specs.Device.{HostState, SinkState, Files, Later, KeepsFiles, KeepsReading, SameFiles, SameRest, ReadsAtMost, Holds, HoldsPart, Held, Grows, file_of, ReadFaulted, SameReadCounts, IsTooLong}
use Rattle.goal_base.proofs.ForCallers.{keeps_files_is_transitive}
use Rattle.goal_graph.specs.Schedule.{Plan}
use Rattle.sim_params.specs.Costs.{Numbers, CostModel, log_gops}
use Rattle.sim_classes.specs.Machine.{MachineModel, costs_of}
use Rattle.goal_input.specs.Input.{IfFile}
use Rattle.goal_words.specs.declared.request.View.{View}
use Rattle.goal_words.specs.declared.request.View.TheVariants as view
use Rattle.goal_words.specs.declared.request.RunView.{RunView}
use Rattle.goal_words.specs.declared.request.RunView.TheVariants.{Printed}
use Rattle.goal_words.specs.Words.{Command, Sim, Nodes}
use Rattle.goal_cli.specs.declared.answer.Answer.{Answer}
use Rattle.goal_cli.specs.declared.answer.Answer.TheVariants as answer
use Rattle.goal_cli.specs.declared.answer.Ending.{Ending}
use Rattle.goal_cli.specs.declared.answer.Ending.TheVariants as ending
use Rattle.goal_cli.specs.declared.answer.Refusal.{Refusal}
use Rattle.goal_cli.specs.declared.output.Stop.{Stop}
use Rattle.goal_cli.specs.declared.output.Stop.TheVariants.{Refused}
use Rattle.goal_cli.specs.Stop.{IsStop}
use Rattle.goal_cli.specs.declared.answer.Status.{Status}
use Rattle.goal_cli.specs.declared.answer.Status.TheVariants as status
use Rattle.goal_cli.specs.Output.{Input, input_with, input_of, machine_of, IsRunShown, IsShownAs, IsOutput, EndsAs, MayEnd, IsRefused, HasRun, HasRunOn, HasOutput}
use Rattle.goal_cli.specs.Laws.{IsVerdict, IsCertify, ForInput, Answers, IsSilent, line_at}
use Rattle.goal_views.specs.Views.{IsPrintedRun}
use Rattle.goal_cli.specs.Refusal.{refused_line}
use Rattle.goal_cli.specs.Answer.{ForNamed, IfNamed, ForRead, IfRead, IfInput, ReadsFaulted, IsReadOut, GrowsByPart, ReadsHeld, Target, ToOut, ToFile, target_of, Gets, GetsPart, Elsewhere, WritesRose, WritesHeld, WritesSame, InputHeld, GetsOutput, GetsPartOfOutput, AnswersWhole, PrintsRun, IsUntouched, IsWritten, IsCutOff, IsCauseOf, IsCauseOfNone, IsCause, line_for, status_at, status_of, AnswersWith, input_in, machine_in, Says, IsCutShort, IsAnswered, IsTakenWithinLimitOf}
use Rattle.goal_cli.specs.WithoutWork.{HasNoSchedule, HasNoWork, AreBytesOfFile, IsTakenWithinLimitFrom, IsAnsweredOrNoMemory, IsGathered}
use Rattle.goal_cli.specs.World.{Devices, devices}
use Rattle.goal_input.proofs.ForCallers.{same_schedule}
use Rattle.goal_cli.proofs.RefusalLemmas.{same_refusal, no_refusal, one_machine}

-- a whole line is a prefix of itself
pub whole_line_is_part : (old new : SinkState) (bytes : List ℕ) → Grows old new bytes → GrowsByPart old new bytes
whole_line_is_part old new bytes all = (length bytes, rw (take-length bytes) all)

-- a whole line was written
pub whole_line_is_said : (old new : SinkState) (line : List ℕ) → Grows old new line → Says old new line
whole_line_is_said old new line all = record { prefix = whole_line_is_part old new line all; whole = λ _. all }

-- the same for an equal line
pub says_equal_line : (old new : SinkState) (s t : Status) (line wanted : List ℕ) → line ≡ wanted
    → ((s ≡ t) × Says old new line) ⊎ ((s ≡ status.NoMemory) × IsCutShort old new line)
    → ((s ≡ t) × Says old new wanted) ⊎ ((s ≡ status.NoMemory) × IsCutShort old new wanted)
says_equal_line old new s t line wanted is said =
    subst (λ (l : List ℕ). ((s ≡ t) × Says old new l) ⊎ ((s ≡ status.NoMemory) × IsCutShort old new l)) is said

-- a name has one file
same_file : (host : HostState) (name input other : List ℕ) → file_of host name ≡ Some input → file_of host name ≡ Some other → other ≡ input
same_file host name input other a b = cc

-- the bytes of the file of a name
module _ (host : HostState) (P : List ℕ → Type 0) where
  if_named_from_all : (o : Option (List ℕ)) → ((input : List ℕ) → P input) → IfNamed host o P
  if_named_from_all None p = p []
  if_named_from_all (Some name) p = λ tells input file. p input

  module _ (Q : List ℕ → Type 0) (turn : (input : List ℕ) → P input → Q input) where
    pub for_turned : (o : Option (List ℕ)) → ForNamed host o P → ForNamed host o Q
    for_turned None p = turn [] p
    for_turned (Some name) p = λ told. let k = p told in (k.0, k.1, turn k.0 k.2)

    if_for : (o : Option (List ℕ)) → ForNamed host o P → IfNamed host o Q
    if_for None p = turn [] p
    if_for (Some name) p =
        λ tells input file.
        let k = p tells in
        turn input (subst P (same_file host name input k.0 file k.1) k.2)

-- what a command reads
module _ (host : HostState) (c : Command) (P : Input → Type 0) where
  read_all : ((input : Input) → P input) → IfRead host c P
  read_all p =
      if_named_from_all host (λ s. IfNamed host (machine_of c) (λ m. P (input_with s m))) (input_of c)
      (λ s. if_named_from_all host (λ m. P (input_with s m)) (machine_of c) (λ m. p (input_with s m)))

  module _ (Q : Input → Type 0) (turn : (input : Input) → P input → Q input) where
    read_turned : ForRead host c P → ForRead host c Q
    read_turned p =
        for_turned host (λ s. ForNamed host (machine_of c) (λ m. P (input_with s m)))
        (λ s. ForNamed host (machine_of c) (λ m. Q (input_with s m)))
        (λ s q. for_turned host (λ m. P (input_with s m)) (λ m. Q (input_with s m)) (λ m r. turn (input_with s m) r) (machine_of c) q)
        (input_of c) p

    read_for : ForRead host c P → IfRead host c Q
    read_for p =
        if_for host (λ s. ForNamed host (machine_of c) (λ m. P (input_with s m)))
        (λ s. IfNamed host (machine_of c) (λ m. Q (input_with s m)))
        (λ s q. if_for host (λ m. P (input_with s m)) (λ m. Q (input_with s m)) (λ m r. turn (input_with s m) r) (machine_of c) q)
        (input_of c) p

-- a refusal of what was read
pub refused_of : (host : HostState) (c : Command) (sched : List Plan) (machine : List ℕ) (stop : Stop) (r : Refusal) → stop ≡ Refused r
    → ForRead host c (IsGathered c sched machine) → ((input : Input) → IsGathered c sched machine input → IsStop c input stop)
    → ForRead host c (λ input. IsRefused c input r)
refused_of host c sched machine stop r is got refused =
    read_turned host c (IsGathered c sched machine) (λ (i : Input). IsRefused c i r)
    (λ input from. subst (λ (s : Stop). IsStop c input s) is (refused input from)) got

-- if `IsReadOut` holds from a later host with the same files, it holds from the earlier one
pub read_out_from : (a b d : HostState) (o : Option (List ℕ)) → Later a b → KeepsFiles a b → IsReadOut b d o → IsReadOut a d o
read_out_from a b d None later kept out = tt
read_out_from a b d (Some name) later kept out = λ tells. by tells (out (later.tells ∙ tells))
  where
    by : a.tells ≡ true → (d.rest ≡ []) ⊎ IsTooLong b name → (d.rest ≡ []) ⊎ IsTooLong a name
    by tells (inl none) = inl none
    by tells (inr long) = inr (record {
      told = λ t.
          let k = long.told (later.tells ∙ t) in
          (k.0, ap (λ (f : Files). get f name) (sym (kept.files.files t)) ∙ k.1, k.2);
    })

-- what was read from a host whose files are those of another
pub for_named_from_file_bytes : (a b : HostState) (text : List ℕ) (Q : List ℕ → Type 0) (o : Option (List ℕ)) → Later a b → KeepsFiles a b → AreBytesOfFile b o text → Q text
    → ForNamed a o Q
for_named_from_file_bytes a b text Q None later kept got q = subst Q got q
for_named_from_file_bytes a b text Q (Some name) later kept got q =
    λ tells. (text, ap (λ (f : Files). get f name) (sym (kept.files.files tells)) ∙ got (later.tells ∙ tells), q)

-- a schedule is refused, after the machine was read
pub no_work_when_schedule_refused : (a b d : HostState) (c : Command) (r : Refusal) (text : List ℕ) → Later a b → KeepsFiles a b → HasNoSchedule a b c (answer.Refused r)
    → AreBytesOfFile b (machine_of c) text → length text ≤ MAX_INPUT → IsReadOut b d (machine_of c) → SameReadCounts b d → HasNoWork a d c (answer.Refused r)
no_work_when_schedule_refused a b d c r text later kept unmade got short out same = (
  for_turned a (λ s. (m : List ℕ) → length m ≤ MAX_INPUT → IsRefused c (input_with s m) r) (λ s. ForNamed a (machine_of c) (λ m. IsRefused c (input_with s m) r))
      (λ s refused. for_named_from_file_bytes a b text (λ m. IsRefused c (input_with s m) r) (machine_of c) later kept got (refused text short)) (input_of c) unmade.0,
  record {
    read_count = same.read_count ∙ unmade.1.read_count;
    absent_count = same.absent_count ∙ unmade.1.absent_count;
  },
  read_out_from a b d (machine_of c) later kept out,
)

-- how much of an input is read, if nothing else is read afterwards
reads_at_most_then_same_rest : (a b d : HostState) (name : List ℕ) → Later a b → ReadsAtMost a b name (MAX_INPUT + 1) → SameRest b d
    → ReadsAtMost a d name (MAX_INPUT + 1)
reads_at_most_then_same_rest a b d name later most kept = record {
  taken = most.taken;
  no_more = most.no_more;
  told = λ t. rw (kept.told (later.tells ∙ t)) (most.told t);
}

same_rest_transitive : (a b d : HostState) → Later a b → SameRest a b → SameRest b d → SameRest a d
same_rest_transitive a b d later same kept = record { told = λ t. kept.told (later.tells ∙ t) ∙ same.told t }

keeps_reading_transitive : (a b d : HostState) → Later a b → KeepsReading a b → KeepsReading b d → KeepsReading a d
keeps_reading_transitive a b d later taken kept = record {
  rest = same_rest_transitive a b d later taken.rest kept.rest;
  reading = kept.reading ∙ taken.reading;
  counts = record {
    read_count = kept.counts.read_count ∙ taken.counts.read_count;
    absent_count = kept.counts.absent_count ∙ taken.counts.absent_count;
  };
}

other_reads_at_most_then_same_rest : (a b d : HostState) (o : Option (List ℕ)) → Later a b → IsSomeAnd o (λ other. ReadsAtMost a b other (MAX_INPUT + 1)) → SameRest b d
    → IsSomeAnd o (λ other. ReadsAtMost a d other (MAX_INPUT + 1))
other_reads_at_most_then_same_rest a b d None later most kept = most
other_reads_at_most_then_same_rest a b d (Some name) later most kept = reads_at_most_then_same_rest a b d name later most kept

pub taken_within_limit_then_keeps_reading : (o m : Option (List ℕ)) (a b d : HostState) → Later a b → IsTakenWithinLimitOf o m a b → KeepsReading b d → IsTakenWithinLimitOf o m a d
taken_within_limit_then_keeps_reading None None a b d later taken kept = keeps_reading_transitive a b d later taken kept
taken_within_limit_then_keeps_reading None (Some name) a b d later (inl same) kept = inl (same_rest_transitive a b d later same kept.rest)
taken_within_limit_then_keeps_reading None (Some name) a b d later (inr most) kept = inr (reads_at_most_then_same_rest a b d name later most kept.rest)
taken_within_limit_then_keeps_reading (Some name) m a b d later (inl same) kept = inl (same_rest_transitive a b d later same kept.rest)
taken_within_limit_then_keeps_reading (Some name) m a b d later (inr (inl most)) kept = inr (inl (reads_at_most_then_same_rest a b d name later most kept.rest))
taken_within_limit_then_keeps_reading (Some name) m a b d later (inr (inr most)) kept = inr (inr (other_reads_at_most_then_same_rest a b d m later most kept.rest))

-- how much is read of an input, and then of a machine
reads_at_most_after_kept_files : (a b d : HostState) (name : List ℕ) → Later a b → KeepsFiles a b → ReadsAtMost b d name (MAX_INPUT + 1)
    → ReadsAtMost a d name (MAX_INPUT + 1)
reads_at_most_after_kept_files a b d name later kept most = record {
  taken = most.taken;
  no_more = most.no_more;
  told = λ t. ap (λ (f : Files). get f name) (sym (kept.files.files t)) ∙ most.told (later.tells ∙ t);
}

pub taken_within_limit_of_both : (o m : Option (List ℕ)) (a b d : HostState) → Later a b → KeepsFiles a b → IsTakenWithinLimitFrom a b o → IsTakenWithinLimitFrom b d m
    → IsTakenWithinLimitOf o m a d
taken_within_limit_of_both None None a b d later kept p q = keeps_reading_transitive a b d later p q
taken_within_limit_of_both None (Some m) a b d later kept p (inl q) = inl (same_rest_transitive a b d later p.rest q)
taken_within_limit_of_both None (Some m) a b d later kept p (inr q) = inr (reads_at_most_after_kept_files a b d m later kept q)
taken_within_limit_of_both (Some name) None a b d later kept (inl same) q = inl (same_rest_transitive a b d later same q.rest)
taken_within_limit_of_both (Some name) None a b d later kept (inr most) q = inr (inl (reads_at_most_then_same_rest a b d name later most q.rest))
taken_within_limit_of_both (Some name) (Some m) a b d later kept (inl same) (inl q) = inl (same_rest_transitive a b d later same q)
taken_within_limit_of_both (Some name) (Some m) a b d later kept (inr most) (inl q) = inr (inl (reads_at_most_then_same_rest a b d name later most q))
taken_within_limit_of_both (Some name) (Some m) a b d later kept p (inr q) = inr (inr (reads_at_most_after_kept_files a b d m later kept q))

-- where only the input was read
pub taken_within_limit_of_input_alone : (o m : Option (List ℕ)) (a b : HostState) → IsTakenWithinLimitFrom a b o → IsTakenWithinLimitOf o m a b
taken_within_limit_of_input_alone None None a b first = first
taken_within_limit_of_input_alone None (Some m) a b first = inl first.rest
taken_within_limit_of_input_alone (Some name) m a b (inl same) = inl same
taken_within_limit_of_input_alone (Some name) m a b (inr most) = inr (inl most)

-- what was written to a host whose files are those of another
module _ (a b d : HostState) (kept : KeepsFiles a b) (later : Later a b) where
  holds_from : (name bytes : List ℕ) → Holds b d name bytes → Holds a d name bytes
  holds_from name bytes held = record {
    told = λ t. held.told (later.tells ∙ t) ∙ ap (λ (f : Files). insert f name bytes) (kept.files.files t);
  }

  same_files_from_earlier : SameFiles b d → SameFiles a d
  same_files_from_earlier same = record {
    files = λ t. same.files (later.tells ∙ t) ∙ kept.files.files t;
    output = λ t. same.output (later.tells ∙ t) ∙ kept.files.output t;
  }

  holds_part_from : (name bytes : List ℕ) → HoldsPart b d name bytes → HoldsPart a d name bytes
  holds_part_from name bytes (inl same) = inl (same_files_from_earlier same)
  holds_part_from name bytes (inr part) = inr (part.0, part.1, holds_from name _ part.2)

-- the same for an output, a part of it, the device to which the command does not write, and the counts
module _ (a b : HostState) (out : SinkState) (new : Devices) (kept : KeepsFiles a b) (later : Later a b) where
  gets_from : (t : Target) (bytes : List ℕ) → Gets (devices b out) new t bytes → Gets (devices a out) new t bytes
  gets_from ToOut bytes got = got
  gets_from (ToFile name) bytes got = holds_from a b new.host kept later name bytes got

  gets_part_from_earlier : (t : Target) (bytes : List ℕ) → GetsPart (devices b out) new t bytes → GetsPart (devices a out) new t bytes
  gets_part_from_earlier ToOut bytes part = part
  gets_part_from_earlier (ToFile name) bytes part = holds_part_from a b new.host kept later name bytes part

  elsewhere_from : (t : Target) → Elsewhere (devices b out) new t → Elsewhere (devices a out) new t
  elsewhere_from ToOut same = keeps_files_is_transitive a b new.host later kept same
  elsewhere_from (ToFile name) same = same

  same_count_from : (t : Target) → WritesSame (devices b out) new t → WritesSame (devices a out) new t
  same_count_from ToOut same = same
  same_count_from (ToFile name) same = (same.0 ∙ kept.write_count, same.1)

  pub rose_from : (t : Target) → WritesRose (devices b out) new t → WritesRose (devices a out) new t
  rose_from ToOut rose = rose
  rose_from (ToFile name) rose = rw (later.stops, kept.write_count) at rose

  same_read_counts_from_earlier : SameReadCounts a b → SameReadCounts b new.host → SameReadCounts a new.host
  same_read_counts_from_earlier first then = record {
    read_count = then.read_count ∙ first.read_count;
    absent_count = then.absent_count ∙ first.absent_count;
  }

  -- the facts after an output was written whole, for a schedule that was read before
  pub written_from : (c : Command) (sched : List Plan) (machine output : List ℕ) (e : Ending) → ForRead a c (IsGathered c sched machine)
      → SameReadCounts a b → ((input : Input) → IsGathered c sched machine input → IsOutput c input output e) → MayEnd c e → Gets (devices b out) new (target_of c) output
      → WritesSame (devices b out) new (target_of c) → SameReadCounts b new.host → Elsewhere (devices b out) new (target_of c)
      → IsWritten (devices a out) new e c
  written_from c sched machine output e got counts is ends all same reads elsewhere = record {
    output =
        read_turned a c (IsGathered c sched machine) (GetsOutput (devices a out) new e c)
        (λ input from. (output, is input from, gets_from (target_of c) output all)) got;
    ends = ends;
    reads = same_read_counts_from_earlier counts reads;
    writes = same_count_from (target_of c) same;
    elsewhere = elsewhere_from (target_of c) elsewhere;
  }

  -- the facts after it was cut off
  pub cut_off_from : (c : Command) (sched : List Plan) (machine output : List ℕ) (e : Ending) → ForRead a c (IsGathered c sched machine)
      → SameReadCounts a b → ((input : Input) → IsGathered c sched machine input → IsOutput c input output e) → GetsPart (devices b out) new (target_of c) output → SameReadCounts b new.host
      → Elsewhere (devices b out) new (target_of c) → IsCutOff (devices a out) new c
  cut_off_from c sched machine output e got counts is part reads elsewhere = record {
    output =
        read_turned a c (IsGathered c sched machine) (GetsPartOfOutput (devices a out) new c)
        (λ input from. (output, (e, is input from), gets_part_from_earlier (target_of c) output part)) got;
    reads = same_read_counts_from_earlier counts reads;
    elsewhere = elsewhere_from (target_of c) elsewhere;
  }

module _ (old new : Devices) where
  -- bytes that were written whole are also written as a prefix
  gets_is_gets_part : (t : Target) (bytes : List ℕ) → Gets old new t bytes → GetsPart old new t bytes
  gets_is_gets_part ToOut bytes got = whole_line_is_part old.out new.out bytes got
  gets_is_gets_part (ToFile name) bytes got = inr (length bytes, omega arith, rw (take-length bytes) got)

  gets_output_is_gets_part : (e : Ending) (c : Command) (input : Input) → GetsOutput old new e c input → GetsPartOfOutput old new c input
  gets_output_is_gets_part e c input got = (got.0, (e, got.1), gets_is_gets_part (target_of c) got.0 got.2)

  cut_off : (e : Ending) (c : Command) → IsWritten old new e c → IsCutOff old new c
  cut_off e c w = record {
    output = read_turned old.host c (GetsOutput old new e c) (GetsPartOfOutput old new c) (gets_output_is_gets_part e c) w.output;
    reads = w.reads;
    elsewhere = w.elsewhere;
  }

  -- whatever the answer, nothing was written, or a prefix of the output
  no_memory_causes_of : (c : Command) (a : Answer) → IsCauseOf old new c a → IsCauseOf old new c answer.NoMemory
  no_memory_causes_of c (answer.Written e) cause = inr (cut_off e c cause)
  no_memory_causes_of c answer.BadLine cause = absurd cause
  no_memory_causes_of c (answer.Refused r) cause = inl cause.2
  no_memory_causes_of c answer.ReadFault cause = inl cause.1
  no_memory_causes_of c answer.WriteFault cause = inr cause.0
  no_memory_causes_of c answer.NoMemory cause = cause

  no_memory_causes_none : (a : Answer) → IsCauseOfNone old new a → IsCauseOfNone old new answer.NoMemory
  no_memory_causes_none answer.BadLine cause = cause
  no_memory_causes_none answer.NoMemory cause = cause
  no_memory_causes_none (answer.Written e) cause = absurd cause
  no_memory_causes_none (answer.Refused r) cause = absurd cause
  no_memory_causes_none answer.ReadFault cause = absurd cause
  no_memory_causes_none answer.WriteFault cause = absurd cause

  no_memory_causes : (command : Option Command) (a : Answer) → IsCause old new command a → IsCause old new command answer.NoMemory
  no_memory_causes None a cause = no_memory_causes_none a cause
  no_memory_causes (Some c) a cause = no_memory_causes_of c a cause

  no_memory_part : (c : Command) → IsCauseOf old new c answer.NoMemory
      → IsUntouched old new ⊎ ForRead old.host c (GetsPartOfOutput old new c)
  no_memory_part c (inl untouched) = inl untouched
  no_memory_part c (inr cut) = inr cut.output

  pub untouched_or_part_of_output : (command : Option Command) (a : Answer) → IsCause old new command a
      → IsUntouched old new ⊎ ForInput command old.host (GetsPartOfOutput old new)
  untouched_or_part_of_output None a cause = inl (no_memory_causes_none a cause).1
  untouched_or_part_of_output (Some c) a cause = no_memory_part c (no_memory_causes_of c a cause)

  elsewhere_untouched : (t : Target) → IsUntouched old new → Elsewhere old new t
  elsewhere_untouched ToOut u = u.files
  elsewhere_untouched (ToFile name) u = u.sink

  no_memory_elsewhere : (c : Command) → IsCauseOf old new c answer.NoMemory → Elsewhere old new (target_of c)
  no_memory_elsewhere c (inl untouched) = elsewhere_untouched (target_of c) untouched
  no_memory_elsewhere c (inr cut) = cut.elsewhere

  -- where the command does not write, all is unchanged
  pub kept_elsewhere : (command : Option Command) (a : Answer) → IsCause old new command a
      → IfSome command (λ c. Elsewhere old new (target_of c))
  kept_elsewhere None a cause = tt
  kept_elsewhere (Some c) a cause = no_memory_elsewhere c (no_memory_causes_of c a cause)

  -- if the status is NoMemory, a part of an answer's line was written: of its own line, or of the line of the answer
  -- that it replaced
  pub part_of_line_at_no_memory : (command : Option Command) (err err' : SinkState) (a : Answer) (s : Status) → IsCause old new command a
      → IsAnswered err err' a s → s ≡ status.NoMemory
      → (b : Answer) × IsCause old new command b × GrowsByPart err err' (line_for b)
  part_of_line_at_no_memory command err err' a s cause (inr (e, part)) none = (a, cause, part.0)
  part_of_line_at_no_memory command err err' (answer.Written ending.Done) s cause (inl (e, told)) none = cc
  part_of_line_at_no_memory command err err' (answer.Written ending.Stuck) s cause (inl (e, told)) none = cc
  part_of_line_at_no_memory command err err' (answer.Written ending.NotCertified) s cause (inl (e, told)) none = cc
  part_of_line_at_no_memory command err err' answer.BadLine s cause (inl (e, told)) none = cc
  part_of_line_at_no_memory command err err' (answer.Refused r) s cause (inl (e, told)) none = cc
  part_of_line_at_no_memory command err err' answer.ReadFault s cause (inl (e, told)) none = cc
  part_of_line_at_no_memory command err err' answer.WriteFault s cause (inl (e, told)) none = cc
  part_of_line_at_no_memory command err err' answer.NoMemory s cause (inl (e, told)) none = (answer.NoMemory, cause, told.prefix)

  -- if the sink counted a fault, the status is that of an answer, and a part of its line was written
  pub part_of_line_at_sink_fault : (command : Option Command) (err err' : SinkState) (a : Answer) (s : Status) → IsCause old new command a
      → IsAnswered err err' a s → err.count < err'.count
      → (b : Answer) × IsCause old new command b × (s ≡ status_of b) × GrowsByPart err err' (line_for b)
  part_of_line_at_sink_fault command err err' a s cause (inr (e, part)) risen = let same = part.1 in absurd (omega arith)
  part_of_line_at_sink_fault command err err' (answer.Written e) s cause (inl (is, told)) risen =
      let same = ap (λ (w : SinkState). w.count) told in absurd (omega arith)
  part_of_line_at_sink_fault command err err' answer.BadLine s cause (inl (is, told)) risen = (answer.BadLine, cause, is, told.prefix)
  part_of_line_at_sink_fault command err err' (answer.Refused r) s cause (inl (is, told)) risen = (answer.Refused r, cause, is, told.prefix)
  part_of_line_at_sink_fault command err err' answer.ReadFault s cause (inl (is, told)) risen = (answer.ReadFault, cause, is, told.prefix)
  part_of_line_at_sink_fault command err err' answer.WriteFault s cause (inl (is, told)) risen = (answer.WriteFault, cause, is, told.prefix)
  part_of_line_at_sink_fault command err err' answer.NoMemory s cause (inl (is, told)) risen = (answer.NoMemory, cause, is, told.prefix)

  -- the status and what `err` got are those of an answer whose cause holds
  pub answer_of_status_has_cause : (command : Option Command) (err err' : SinkState) (a : Answer) (s : Status) → IsCause old new command a
      → IsAnsweredOrNoMemory err err' a s → (b : Answer) × IsCause old new command b × IsAnswered err err' b s
  answer_of_status_has_cause command err err' (answer.Refused r) s cause (inl told) = (answer.Refused r, cause, told)
  answer_of_status_has_cause command err err' (answer.Refused r) s cause (inr told) = (answer.NoMemory, no_memory_causes command (answer.Refused r) cause, told)
  answer_of_status_has_cause command err err' (answer.Written e) s cause told = (answer.Written e, cause, told)
  answer_of_status_has_cause command err err' answer.BadLine s cause told = (answer.BadLine, cause, told)
  answer_of_status_has_cause command err err' answer.ReadFault s cause told = (answer.ReadFault, cause, told)
  answer_of_status_has_cause command err err' answer.WriteFault s cause told = (answer.WriteFault, cause, told)
  answer_of_status_has_cause command err err' answer.NoMemory s cause told = (answer.NoMemory, cause, told)

  -- a command with an output, whole or in part, is not refused
  not_refused : (c : Command) (input : Input) (r : Refusal) → IsRefused c input r → GetsPartOfOutput old new c input → ⊥
  not_refused c input r refused got =
      let made = got.1.1 in
      no_refusal c input made.sched r made.has refused

  no_read_fault_when_reads_held : (name input : List ℕ) → old.host.tells ≡ true → file_of old.host name ≡ Some input → ReadsHeld old.host new.host → ReadFaulted old.host new.host name → ⊥
  no_read_fault_when_reads_held name input told file held (inl rose) = omega arith
  no_read_fault_when_reads_held name input told file held (inr absent) = let none = absent.1 told in cc

  -- a fault of reading, if both files exist
  file_faulted : (P : List ℕ → Type 0) (o : Option (List ℕ)) → IsSomeAnd o (ReadFaulted old.host new.host)
      → ((input : List ℕ) → (ReadsHeld old.host new.host → ⊥) → P input) → IfNamed old.host o P
  file_faulted P None faulted f = absurd faulted
  file_faulted P (Some name) faulted f = λ tells input file. f input (λ held. no_read_fault_when_reads_held name input tells file held faulted)

  read_faulted : (c : Command) (P : Input → Type 0) → ReadsFaulted old.host new.host c
      → ((input : Input) → (ReadsHeld old.host new.host → ⊥) → P input) → IfRead old.host c P
  read_faulted c P (inl faulted) f =
      file_faulted (λ s. IfNamed old.host (machine_of c) (λ m. P (input_with s m))) (input_of c) faulted
      (λ s no. if_named_from_all old.host (λ m. P (input_with s m)) (machine_of c) (λ m. f (input_with s m) no))
  read_faulted c P (inr faulted) f =
      if_named_from_all old.host (λ s. IfNamed old.host (machine_of c) (λ m. P (input_with s m))) (input_of c)
      (λ s. file_faulted (λ m. P (input_with s m)) (machine_of c) faulted (λ m no. f (input_with s m) no))

  -- the count of faults of reading held, for the file of a name
  reads_held_for_faulted_name : (o : Option (List ℕ)) → IsSomeAnd o (ReadFaulted old.host new.host) → IfSome o (λ name. ReadsHeld old.host new.host)
      → ReadsHeld old.host new.host
  reads_held_for_faulted_name None faulted held = absurd faulted
  reads_held_for_faulted_name (Some name) faulted held = held

  reads_held_for_faulted_input : (c : Command) → ReadsFaulted old.host new.host c → InputHeld old new c → ReadsHeld old.host new.host
  reads_held_for_faulted_input c (inl faulted) held = reads_held_for_faulted_name (input_of c) faulted held.0
  reads_held_for_faulted_input c (inr faulted) held = reads_held_for_faulted_name (machine_of c) faulted held.1

  writes_held_not_risen : (t : Target) → WritesHeld old new t → WritesRose old new t → ⊥
  writes_held_not_risen ToOut held rose = omega arith
  writes_held_not_risen (ToFile name) held rose = omega arith

  -- a refused input gets the line of its refusal
  abbrev RefusedAs : Command → SinkState → SinkState → Status → Input → Type 0
  RefusedAs c err err' s input =
      (r : Refusal) → IsRefused c input r → InputHeld old new c → AnswersWith s status.Refused (Says err err' (refused_line r))

  refused_by : (c : Command) (err err' : SinkState) (a : Answer) (s : Status) → IsCauseOf old new c a → IsAnswered err err' a s
      → IfRead old.host c (RefusedAs c err err' s)
  refused_by c err err' a s cause (inr (e, part)) =
      read_all old.host c (RefusedAs c err err' s) (λ input r refused held. inr e)
  refused_by c err err' (answer.Written ends) s cause (inl (e, told)) =
      read_for old.host c (GetsOutput old new ends c) (RefusedAs c err err' s)
      (λ input got r refused held. absurd (not_refused c input r refused (gets_output_is_gets_part ends c input got)))
      cause.output
  refused_by c err err' answer.BadLine s cause (inl (e, told)) = absurd cause
  refused_by c err err' (answer.Refused q) s cause (inl (e, told)) =
      read_for old.host c (λ (i : Input). IsRefused c i q) (RefusedAs c err err' s)
      (λ input is r refused held. let same = same_refusal c input r q refused is in inl (e, rw same told))
      cause.0
  refused_by c err err' answer.ReadFault s cause (inl (e, told)) =
      read_faulted c (RefusedAs c err err' s) cause.0 (λ input no r refused held. absurd (no (reads_held_for_faulted_input c cause.0 held)))
  refused_by c err err' answer.WriteFault s cause (inl (e, told)) =
      read_for old.host c (GetsPartOfOutput old new c) (RefusedAs c err err' s)
      (λ input got r refused held. absurd (not_refused c input r refused got))
      cause.0.output
  refused_by c err err' answer.NoMemory s cause (inl (e, told)) =
      read_all old.host c (RefusedAs c err err' s) (λ input r refused held. inr e)

  pub refused_as : (command : Option Command) (err err' : SinkState) (a : Answer) (s : Status) → IsCause old new command a
      → IsAnswered err err' a s
      → IfInput command old.host
      (λ c input. (r : Refusal) → IsRefused c input r → InputHeld old new c → AnswersWith s status.Refused (Says err err' (refused_line r)))
  refused_as None err err' a s cause told = tt
  refused_as (Some c) err err' a s cause told = refused_by c err err' a s cause told

  -- the output for an input is written whole
  abbrev WrittenAs : Command → Status → Input → Type 0
  WrittenAs c s input =
      (sched : List Plan) → HasOutput c input sched → InputHeld old new c → WritesHeld old new (target_of c) → AnswersWhole old new s c input

  written_by : (c : Command) (err err' : SinkState) (a : Answer) (s : Status) → IsCauseOf old new c a → IsAnswered err err' a s
      → IfRead old.host c (WrittenAs c s)
  written_by c err err' a s cause (inr (e, part)) =
      read_all old.host c (WrittenAs c s) (λ input sched has reads writes. inr e)
  written_by c err err' (answer.Written ends) s cause (inl (e, told)) =
      read_for old.host c (GetsOutput old new ends c) (WrittenAs c s)
      (λ input got sched has reads writes. inl (ends, e, got)) cause.output
  written_by c err err' answer.BadLine s cause (inl (e, told)) = absurd cause
  written_by c err err' (answer.Refused q) s cause (inl (e, told)) =
      read_for old.host c (λ (i : Input). IsRefused c i q) (WrittenAs c s)
      (λ input is sched has reads writes. absurd (no_refusal c input sched q has is)) cause.0
  written_by c err err' answer.ReadFault s cause (inl (e, told)) =
      read_faulted c (WrittenAs c s) cause.0 (λ input no sched has reads writes. absurd (no (reads_held_for_faulted_input c cause.0 reads)))
  written_by c err err' answer.WriteFault s cause (inl (e, told)) =
      read_all old.host c (WrittenAs c s)
      (λ input sched has reads writes. absurd (writes_held_not_risen (target_of c) writes cause.1))
  written_by c err err' answer.NoMemory s cause (inl (e, told)) =
      read_all old.host c (WrittenAs c s) (λ input sched has reads writes. inr e)

  pub written_whole : (command : Option Command) (err err' : SinkState) (a : Answer) (s : Status) → IsCause old new command a
      → IsAnswered err err' a s
      → IfInput command old.host
      (λ c input. (sched : List Plan) → HasOutput c input sched → InputHeld old new c → WritesHeld old new (target_of c)
      → AnswersWhole old new s c input)
  written_whole None err err' a s cause told = tt
  written_whole (Some c) err err' a s cause told = written_by c err err' a s cause told

  -- a printed run with these costs, if the schedule and the costs are unique
  run_seen : (how : RunView) (costs : Option CostModel) (k : CostModel) (sched : List Plan) (output : List ℕ) (e : Ending) → costs ≡ Some k
      → IsShownAs (view.Run how) costs sched output e → IsRunShown how k sched output e
  run_seen how costs k sched output e is shown = subst (λ (o : Option CostModel). IsShownAs (view.Run how) o sched output e) is shown

  prints : (k : CostModel) (sched other : List Plan) (output : List ℕ) (e : Ending) (s : Status) → other ≡ sched → s ≡ status_at e
      → IsRunShown Printed k other output e → Grows old.out new.out output → PrintsRun s old.out new.out k sched
  prints k sched other output e s same is shown got =
      inl (
        output,
        (
          shown.stuck,
          subst (λ (ps : List Plan). IsPrintedRun k ps output shown.stuck) same shown.run,
          is ∙ ap status_at shown.ends,
        ),
        got,
      )

  -- the printed run of the input
  printed_run : (p : Numbers) (name : List ℕ) (input : Input) (sched : List Plan) (s : Status) → HasRun p input.schedule sched
      → AnswersWhole old new s (Sim name p) input → PrintsRun s old.out new.out (log_gops p) sched
  printed_run p name input sched s has (inr e) = inr e
  printed_run p name input sched s has (inl (ends, e, (output, made, got))) =
      prints (log_gops p) sched made.sched output ends s (same_schedule input.schedule made.sched sched made.has.from has.read) e
      (run_seen Printed made.has.costs (log_gops p) made.sched output ends made.has.costed made.shown) got

  pub run_printed : (command : Option Command) (err err' : SinkState) (a : Answer) (s : Status) → IsCause old new command a
      → IsAnswered err err' a s
      → (name : List ℕ) (p : Numbers) → command ≡ Some (Sim name p)
      → IfFile old.host name
      (λ input. (sched : List Plan) → HasRun p input sched → ReadsHeld old.host new.host → Held old.out.stops old.out.count new.out.count
      → PrintsRun s old.out new.out (log_gops p) sched)
  run_printed command err err' a s cause told name p is =
      λ tells input file sched has reads writes.
      let had : HasOutput (Sim name p) (input_with input []) sched = record {
        from = has.read;
        costs = Some (log_gops p);
        costed = refl;
        fits = has.fits;
      } in
      printed_run p name (input_with input []) sched s has
      (written_by (Sim name p) err err' a s (rw is at cause) told tells input file sched had (reads, tt) writes)

  -- the same on a machine
  printed_on : (name text : List ℕ) (m : MachineModel) (input : Input) (sched : List Plan) (s : Status) → HasRunOn m input.schedule input.machine sched
      → AnswersWhole old new s (Nodes name text) input → PrintsRun s old.out new.out (costs_of m) sched
  printed_on name text m input sched s has (inr e) = inr e
  printed_on name text m input sched s has (inl (ends, e, (output, made, got))) =
      let costed = made.has.costed in
      let costs = costed.2 ∙ ap (λ (k : MachineModel). Some (costs_of k)) (one_machine input.machine costed.0 m costed.1.said has.1.said) in
      prints (costs_of m) sched made.sched output ends s (same_schedule input.schedule made.sched sched made.has.from has.0.read) e
      (run_seen Printed made.has.costs (costs_of m) made.sched output ends costs made.shown) got

  pub run_printed_on : (command : Option Command) (err err' : SinkState) (a : Answer) (s : Status) → IsCause old new command a
      → IsAnswered err err' a s
      → (name machine : List ℕ) → command ≡ Some (Nodes name machine)
      → IfFile old.host name
      (λ schedule. IfFile old.host machine
      (λ text. (sched : List Plan) (m : MachineModel) → HasRunOn m schedule text sched → ReadsHeld old.host new.host
      → Held old.out.stops old.out.count new.out.count → PrintsRun s old.out new.out (costs_of m) sched))
  run_printed_on command err err' a s cause told name machine is =
      λ tells schedule file tells_too text other sched m has reads writes.
      let had : HasOutput (Nodes name machine) (input_with schedule text) sched = record {
        from = has.0.read;
        costs = Some (costs_of m);
        costed = (m, has.1, refl);
        fits = has.0.fits;
      } in
      printed_on name machine m (input_with schedule text) sched s has
      (written_by (Nodes name machine) err err' a s (rw is at cause) told tells schedule file tells_too text other sched had (reads, reads) writes)

  -- the counts of reading rose only at a fault of reading, and those of writing only at a fault of writing, or at
  -- NoMemory
  reads_kept_by : (c : Command) (a : Answer) → IsCauseOf old new c a
      → SameReadCounts old.host new.host ⊎ (a ≡ answer.ReadFault) ⊎ (a ≡ answer.NoMemory)
  reads_kept_by c (answer.Written e) cause = inl cause.reads
  reads_kept_by c answer.BadLine cause = absurd cause
  reads_kept_by c (answer.Refused r) cause = inl cause.1
  reads_kept_by c answer.ReadFault cause = inr (inl refl)
  reads_kept_by c answer.WriteFault cause = inl cause.0.reads
  reads_kept_by c answer.NoMemory cause = inr (inr refl)

  reads_kept : (command : Option Command) (a : Answer) → IsCause old new command a
      → SameReadCounts old.host new.host ⊎ (a ≡ answer.ReadFault) ⊎ (a ≡ answer.NoMemory)
  reads_kept None a cause = inl (no_memory_causes_none a cause).0
  reads_kept (Some c) a cause = reads_kept_by c a cause

  -- neither count of writing has changed
  record SameWriteCounts : Type 0 where
    sink : new.out.count ≡ old.out.count
    files : new.host.write_count ≡ old.host.write_count

  same_write_counts_when_untouched : IsUntouched old new → SameWriteCounts
  same_write_counts_when_untouched u = record { sink = ap (λ (s : SinkState). s.count) u.sink; files = u.files.write_count }

  same_write_counts_when_written : (t : Target) → WritesSame old new t → Elsewhere old new t → SameWriteCounts
  same_write_counts_when_written ToOut same elsewhere = record { sink = same; files = elsewhere.write_count }
  same_write_counts_when_written (ToFile name) same elsewhere = record { sink = ap (λ (s : SinkState). s.count) elsewhere; files = same.0 }

  writes_kept_by : (c : Command) (a : Answer) → IsCauseOf old new c a
      → SameWriteCounts ⊎ (a ≡ answer.WriteFault) ⊎ (a ≡ answer.NoMemory)
  writes_kept_by c (answer.Written e) cause = inl (same_write_counts_when_written (target_of c) cause.writes cause.elsewhere)
  writes_kept_by c answer.BadLine cause = absurd cause
  writes_kept_by c (answer.Refused r) cause = inl (same_write_counts_when_untouched cause.2)
  writes_kept_by c answer.ReadFault cause = inl (same_write_counts_when_untouched cause.1)
  writes_kept_by c answer.WriteFault cause = inr (inl refl)
  writes_kept_by c answer.NoMemory cause = inr (inr refl)

  writes_kept : (command : Option Command) (a : Answer) → IsCause old new command a
      → SameWriteCounts ⊎ (a ≡ answer.WriteFault) ⊎ (a ≡ answer.NoMemory)
  writes_kept None a cause = inl (same_write_counts_when_untouched (no_memory_causes_none a cause).1)
  writes_kept (Some c) a cause = writes_kept_by c a cause

  -- the status of an answer is its own, or NoMemory
  status_of_answer_or_no_memory : (err err' : SinkState) (a b : Answer) (s : Status) → IsAnswered err err' a s → (a ≡ b) ⊎ (a ≡ answer.NoMemory) → Answers s (status_of b)
  status_of_answer_or_no_memory err err' a b s (inr (e, part)) is = inr e
  status_of_answer_or_no_memory err err' a b s (inl (e, told)) (inl is) = inl (rw is at e)
  status_of_answer_or_no_memory err err' a b s (inl (e, told)) (inr is) = inr (rw is at e)

  unless_same_reads : (err err' : SinkState) (a : Answer) (s : Status) → IsAnswered err err' a s → (SameReadCounts old.host new.host → ⊥)
      → SameReadCounts old.host new.host ⊎ (a ≡ answer.ReadFault) ⊎ (a ≡ answer.NoMemory) → Answers s status.ReadFault
  unless_same_reads err err' a s told differs (inl same) = absurd (differs same)
  unless_same_reads err err' a s told differs (inr is) = status_of_answer_or_no_memory err err' a answer.ReadFault s told is

  pub reads_risen : (command : Option Command) (err err' : SinkState) (a : Answer) (s : Status) → IsCause old new command a
      → IsAnswered err err' a s → old.host.read_count < new.host.read_count → Answers s status.ReadFault
  reads_risen command err err' a s cause told risen =
      unless_same_reads err err' a s told (λ same. let h = same.read_count in omega arith) (reads_kept command a cause)

  pub absent_risen : (command : Option Command) (err err' : SinkState) (a : Answer) (s : Status) → IsCause old new command a
      → IsAnswered err err' a s → old.host.absent_count < new.host.absent_count → Answers s status.ReadFault
  absent_risen command err err' a s cause told risen =
      unless_same_reads err err' a s told (λ same. let h = same.absent_count in omega arith) (reads_kept command a cause)

  unless_same_writes : (err err' : SinkState) (a : Answer) (s : Status) → IsAnswered err err' a s → (SameWriteCounts → ⊥)
      → SameWriteCounts ⊎ (a ≡ answer.WriteFault) ⊎ (a ≡ answer.NoMemory) → Answers s status.WriteFault
  unless_same_writes err err' a s told differs (inl same) = absurd (differs same)
  unless_same_writes err err' a s told differs (inr is) = status_of_answer_or_no_memory err err' a answer.WriteFault s told is

  pub writes_risen : (command : Option Command) (err err' : SinkState) (a : Answer) (s : Status) → IsCause old new command a
      → IsAnswered err err' a s → old.out.count < new.out.count → Answers s status.WriteFault
  writes_risen command err err' a s cause told risen =
      unless_same_writes err err' a s told (λ same. let h = same.sink in omega arith) (writes_kept command a cause)

  pub files_risen : (command : Option Command) (err err' : SinkState) (a : Answer) (s : Status) → IsCause old new command a
      → IsAnswered err err' a s → old.host.write_count < new.host.write_count → Answers s status.WriteFault
  files_risen command err err' a s cause told risen =
      unless_same_writes err err' a s told (λ same. let h = same.files in omega arith) (writes_kept command a cause)

  -- a name that is absent is a fault of reading
  no_file : (P : List ℕ → Type 0) (o : Option (List ℕ)) (name : List ℕ) → o ≡ Some name → old.host.tells ≡ true
      → file_of old.host name ≡ None → ForNamed old.host o P → ⊥
  no_file P None name is tells none got = cc
  no_file P (Some n) name is tells none got = let k = (got tells).1 in cc

  -- if the input was read, so was the rest
  for_named_has_input : (P : List ℕ → Type 0) (o : Option (List ℕ)) → old.host.tells ≡ true → ForNamed old.host o P → (input : List ℕ) × P input
  for_named_has_input P None tells got = ([], got)
  for_named_has_input P (Some name) tells got = let k = got tells in (k.0, k.2)

  -- one of the names of a command
  abbrev IsNameOf : Command → List ℕ → Type 0
  IsNameOf c name = (input_of c ≡ Some name) ⊎ (machine_of c ≡ Some name)

  no_files : (c : Command) (P : Input → Type 0) (name : List ℕ) → IsNameOf c name → old.host.tells ≡ true
      → file_of old.host name ≡ None → ForRead old.host c P → ⊥
  no_files c P name (inl is) tells none got =
      no_file (λ s. ForNamed old.host (machine_of c) (λ m. P (input_with s m))) (input_of c) name is tells none got
  no_files c P name (inr is) tells none got =
      let k = for_named_has_input (λ s. ForNamed old.host (machine_of c) (λ m. P (input_with s m))) (input_of c) tells got in
      no_file (λ m. P (input_with k.0 m)) (machine_of c) name is tells none k.1

  absent_file_causes_read_fault : (c : Command) (name : List ℕ) (a : Answer) → IsNameOf c name → IsCauseOf old new c a → old.host.tells ≡ true
      → file_of old.host name ≡ None → (a ≡ answer.ReadFault) ⊎ (a ≡ answer.NoMemory)
  absent_file_causes_read_fault c name (answer.Written e) is cause tells none = absurd (no_files c (GetsOutput old new e c) name is tells none cause.output)
  absent_file_causes_read_fault c name answer.BadLine is cause tells none = absurd cause
  absent_file_causes_read_fault c name (answer.Refused r) is cause tells none = absurd (no_files c (λ (i : Input). IsRefused c i r) name is tells none cause.0)
  absent_file_causes_read_fault c name answer.ReadFault is cause tells none = inl refl
  absent_file_causes_read_fault c name answer.WriteFault is cause tells none = absurd (no_files c (GetsPartOfOutput old new c) name is tells none cause.0.output)
  absent_file_causes_read_fault c name answer.NoMemory is cause tells none = inr refl

  absent_file_answers_read_fault : (c : Command) (o : Option (List ℕ)) (err err' : SinkState) (a : Answer) (s : Status)
      → ((name : List ℕ) → o ≡ Some name → IsNameOf c name) → IsCauseOf old new c a → IsAnswered err err' a s
      → IfSome o (λ name. old.host.tells ≡ true → file_of old.host name ≡ None → Answers s status.ReadFault)
  absent_file_answers_read_fault c None err err' a s is cause told = tt
  absent_file_answers_read_fault c (Some name) err err' a s is cause told =
      λ tells none. status_of_answer_or_no_memory err err' a answer.ReadFault s told (absent_file_causes_read_fault c name a (is name refl) cause tells none)

  pub absent_named : (command : Option Command) (err err' : SinkState) (a : Answer) (s : Status) → IsCause old new command a
      → IsAnswered err err' a s
      → IfSome (input_in command) (λ name. old.host.tells ≡ true → file_of old.host name ≡ None → Answers s status.ReadFault)
  absent_named None err err' a s cause told = tt
  absent_named (Some c) err err' a s cause told = absent_file_answers_read_fault c (input_of c) err err' a s (λ name is. inl is) cause told

  pub absent_machine : (command : Option Command) (err err' : SinkState) (a : Answer) (s : Status) → IsCause old new command a
      → IsAnswered err err' a s
      → IfSome (machine_in command) (λ name. old.host.tells ≡ true → file_of old.host name ≡ None → Answers s status.ReadFault)
  absent_machine None err err' a s cause told = tt
  absent_machine (Some c) err err' a s cause told = absent_file_answers_read_fault c (machine_of c) err err' a s (λ name is. inr is) cause told

  -- the refusal that was written
  pub refused_status_has_refusal : (command : Option Command) (err err' : SinkState) (a : Answer) (s : Status) → IsCause old new command a
      → IsAnswered err err' a s → s ≡ status.Refused
      → (r : Refusal) × ForInput command old.host (λ c input. IsRefused c input r) × Says err err' (refused_line r)
  refused_status_has_refusal command err err' a s cause (inr (e, part)) is = cc
  refused_status_has_refusal command err err' (answer.Written ending.Done) s cause (inl (e, told)) is = cc
  refused_status_has_refusal command err err' (answer.Written ending.Stuck) s cause (inl (e, told)) is = cc
  refused_status_has_refusal command err err' (answer.Written ending.NotCertified) s cause (inl (e, told)) is = cc
  refused_status_has_refusal command err err' answer.BadLine s cause (inl (e, told)) is = cc
  refused_status_has_refusal None err err' (answer.Refused r) s cause (inl (e, told)) is = absurd cause
  refused_status_has_refusal (Some c) err err' (answer.Refused r) s cause (inl (e, told)) is = (r, cause.0, told)
  refused_status_has_refusal command err err' answer.ReadFault s cause (inl (e, told)) is = cc
  refused_status_has_refusal command err err' answer.WriteFault s cause (inl (e, told)) is = cc
  refused_status_has_refusal command err err' answer.NoMemory s cause (inl (e, told)) is = cc

  -- if the status is Refused, the machine was read to its end
  pub machine_read : (command : Option Command) (err err' : SinkState) (a : Answer) (s : Status) → IsCause old new command a
      → IsAnswered err err' a s → s ≡ status.Refused → IsReadOut old.host new.host (machine_in command)
  machine_read None err err' a s cause told is = tt
  machine_read (Some c) err err' a s cause (inr (e, part)) is = cc
  machine_read (Some c) err err' (answer.Written ending.Done) s cause (inl (e, told)) is = cc
  machine_read (Some c) err err' (answer.Written ending.Stuck) s cause (inl (e, told)) is = cc
  machine_read (Some c) err err' (answer.Written ending.NotCertified) s cause (inl (e, told)) is = cc
  machine_read (Some c) err err' answer.BadLine s cause (inl (e, told)) is = cc
  machine_read (Some c) err err' (answer.Refused r) s cause (inl (e, told)) is = cause.3
  machine_read (Some c) err err' answer.ReadFault s cause (inl (e, told)) is = cc
  machine_read (Some c) err err' answer.WriteFault s cause (inl (e, told)) is = cc
  machine_read (Some c) err err' answer.NoMemory s cause (inl (e, told)) is = cc

  -- writing failed after a part of the output
  pub write_fault_status_means_cut_off : (command : Option Command) (err err' : SinkState) (a : Answer) (s : Status) → IsCause old new command a
      → IsAnswered err err' a s → s ≡ status.WriteFault
      → IsSomeAnd command
      (λ c. WritesRose old new (target_of c) × ForRead old.host c (GetsPartOfOutput old new c))
  write_fault_status_means_cut_off command err err' a s cause (inr (e, part)) is = cc
  write_fault_status_means_cut_off command err err' (answer.Written ending.Done) s cause (inl (e, told)) is = cc
  write_fault_status_means_cut_off command err err' (answer.Written ending.Stuck) s cause (inl (e, told)) is = cc
  write_fault_status_means_cut_off command err err' (answer.Written ending.NotCertified) s cause (inl (e, told)) is = cc
  write_fault_status_means_cut_off command err err' answer.BadLine s cause (inl (e, told)) is = cc
  write_fault_status_means_cut_off command err err' (answer.Refused r) s cause (inl (e, told)) is = cc
  write_fault_status_means_cut_off command err err' answer.ReadFault s cause (inl (e, told)) is = cc
  write_fault_status_means_cut_off None err err' answer.WriteFault s cause (inl (e, told)) is = absurd cause
  write_fault_status_means_cut_off (Some c) err err' answer.WriteFault s cause (inl (e, told)) is = (cause.1, cause.0.output)
  write_fault_status_means_cut_off command err err' answer.NoMemory s cause (inl (e, told)) is = cc

  -- nothing was written
  silent_of_equal_status : (s t : Status) → s ≡ t → IsSilent s → IsSilent t
  silent_of_equal_status s t e silent = rw e at silent

  untouched_none : (a : Answer) → IsCauseOfNone old new a → IsUntouched old new
  untouched_none a cause = (no_memory_causes_none a cause).1

  not_silent : (t : Status) → (t ≢ status.BadLine) → (t ≢ status.ReadFault) → (t ≢ status.Refused) → IsSilent t → ⊥
  not_silent t b r f (inl e) = b e
  not_silent t b r f (inr (inl e)) = r e
  not_silent t b r f (inr (inr e)) = f e

  untouched_by : (c : Command) (a : Answer) → IsCauseOf old new c a → IsSilent (status_of a) → IsUntouched old new
  untouched_by c (answer.Written ending.Done) cause silent = absurd (not_silent status.Done (λ e. cc) (λ e. cc) (λ e. cc) silent)
  untouched_by c (answer.Written ending.Stuck) cause silent = absurd (not_silent status.Stuck (λ e. cc) (λ e. cc) (λ e. cc) silent)
  untouched_by c (answer.Written ending.NotCertified) cause silent = absurd (not_silent status.NotCertified (λ e. cc) (λ e. cc) (λ e. cc) silent)
  untouched_by c answer.BadLine cause silent = absurd cause
  untouched_by c (answer.Refused r) cause silent = cause.2
  untouched_by c answer.ReadFault cause silent = cause.1
  untouched_by c answer.WriteFault cause silent = absurd (not_silent status.WriteFault (λ e. cc) (λ e. cc) (λ e. cc) silent)
  untouched_by c answer.NoMemory cause silent = absurd (not_silent status.NoMemory (λ e. cc) (λ e. cc) (λ e. cc) silent)

  pub untouched : (command : Option Command) (err err' : SinkState) (a : Answer) (s : Status) → IsCause old new command a
      → IsAnswered err err' a s → IsSilent s → IsUntouched old new
  untouched None err err' a s cause told silent = untouched_none a cause
  untouched (Some c) err err' a s cause (inr (e, part)) silent =
      absurd (not_silent status.NoMemory (λ e. cc) (λ e. cc) (λ e. cc) (silent_of_equal_status s status.NoMemory e silent))
  untouched (Some c) err err' a s cause (inl (e, told)) silent = untouched_by c a cause (silent_of_equal_status s (status_of a) e silent)

  -- the words are no command line
  pub bad_line_status_has_no_command : (command : Option Command) (err err' : SinkState) (a : Answer) (s : Status) → IsCause old new command a
      → IsAnswered err err' a s → s ≡ status.BadLine → command ≡ None
  bad_line_status_has_no_command command err err' a s cause (inr (e, part)) is = cc
  bad_line_status_has_no_command command err err' (answer.Written ending.Done) s cause (inl (e, told)) is = cc
  bad_line_status_has_no_command command err err' (answer.Written ending.Stuck) s cause (inl (e, told)) is = cc
  bad_line_status_has_no_command command err err' (answer.Written ending.NotCertified) s cause (inl (e, told)) is = cc
  bad_line_status_has_no_command None err err' answer.BadLine s cause (inl (e, told)) is = refl
  bad_line_status_has_no_command (Some c) err err' answer.BadLine s cause (inl (e, told)) is = absurd cause
  bad_line_status_has_no_command command err err' (answer.Refused r) s cause (inl (e, told)) is = cc
  bad_line_status_has_no_command command err err' answer.ReadFault s cause (inl (e, told)) is = cc
  bad_line_status_has_no_command command err err' answer.WriteFault s cause (inl (e, told)) is = cc
  bad_line_status_has_no_command command err err' answer.NoMemory s cause (inl (e, told)) is = cc

  pub no_command_answers_bad_line : (err err' : SinkState) (a : Answer) (s : Status) → IsCauseOfNone old new a → IsAnswered err err' a s
      → Answers s status.BadLine
  no_command_answers_bad_line err err' a s cause (inr (e, part)) = inr e
  no_command_answers_bad_line err err' answer.BadLine s cause (inl (e, told)) = inl e
  no_command_answers_bad_line err err' answer.NoMemory s cause (inl (e, told)) = inr e
  no_command_answers_bad_line err err' (answer.Written ending.Done) s cause (inl (e, told)) = absurd cause
  no_command_answers_bad_line err err' (answer.Written ending.Stuck) s cause (inl (e, told)) = absurd cause
  no_command_answers_bad_line err err' (answer.Written ending.NotCertified) s cause (inl (e, told)) = absurd cause
  no_command_answers_bad_line err err' (answer.Refused r) s cause (inl (e, told)) = absurd cause
  no_command_answers_bad_line err err' answer.ReadFault s cause (inl (e, told)) = absurd cause
  no_command_answers_bad_line err err' answer.WriteFault s cause (inl (e, told)) = absurd cause

  -- the input was not read
  pub read_fault : (command : Option Command) (err err' : SinkState) (a : Answer) (s : Status) → IsCause old new command a
      → IsAnswered err err' a s → s ≡ status.ReadFault
      → IsSomeAnd command (ReadsFaulted old.host new.host)
  read_fault command err err' a s cause (inr (e, part)) is = cc
  read_fault command err err' (answer.Written ending.Done) s cause (inl (e, told)) is = cc
  read_fault command err err' (answer.Written ending.Stuck) s cause (inl (e, told)) is = cc
  read_fault command err err' (answer.Written ending.NotCertified) s cause (inl (e, told)) is = cc
  read_fault command err err' answer.BadLine s cause (inl (e, told)) is = cc
  read_fault command err err' (answer.Refused r) s cause (inl (e, told)) is = cc
  read_fault None err err' answer.ReadFault s cause (inl (e, told)) is = absurd cause
  read_fault (Some c) err err' answer.ReadFault s cause (inl (e, told)) is = cause.0
  read_fault command err err' answer.WriteFault s cause (inl (e, told)) is = cc
  read_fault command err err' answer.NoMemory s cause (inl (e, told)) is = cc

  -- the output was written whole
  pub done_status_means_written : (command : Option Command) (err err' : SinkState) (a : Answer) (s : Status) → IsCause old new command a
      → IsAnswered err err' a s → s ≡ status.Done
      → IsSomeAnd command (IsWritten old new ending.Done)
  done_status_means_written command err err' a s cause (inr (e, part)) is = cc
  done_status_means_written None err err' (answer.Written ending.Done) s cause (inl (e, told)) is = absurd cause
  done_status_means_written (Some c) err err' (answer.Written ending.Done) s cause (inl (e, told)) is = cause
  done_status_means_written command err err' (answer.Written ending.Stuck) s cause (inl (e, told)) is = cc
  done_status_means_written command err err' (answer.Written ending.NotCertified) s cause (inl (e, told)) is = cc
  done_status_means_written command err err' answer.BadLine s cause (inl (e, told)) is = cc
  done_status_means_written command err err' (answer.Refused r) s cause (inl (e, told)) is = cc
  done_status_means_written command err err' answer.ReadFault s cause (inl (e, told)) is = cc
  done_status_means_written command err err' answer.WriteFault s cause (inl (e, told)) is = cc
  done_status_means_written command err err' answer.NoMemory s cause (inl (e, told)) is = cc

  -- the output was written whole
  pub stuck_status_means_written : (command : Option Command) (err err' : SinkState) (a : Answer) (s : Status) → IsCause old new command a
      → IsAnswered err err' a s → s ≡ status.Stuck
      → IsSomeAnd command (IsWritten old new ending.Stuck)
  stuck_status_means_written command err err' a s cause (inr (e, part)) is = cc
  stuck_status_means_written command err err' (answer.Written ending.Done) s cause (inl (e, told)) is = cc
  stuck_status_means_written None err err' (answer.Written ending.Stuck) s cause (inl (e, told)) is = absurd cause
  stuck_status_means_written (Some c) err err' (answer.Written ending.Stuck) s cause (inl (e, told)) is = cause
  stuck_status_means_written command err err' (answer.Written ending.NotCertified) s cause (inl (e, told)) is = cc
  stuck_status_means_written command err err' answer.BadLine s cause (inl (e, told)) is = cc
  stuck_status_means_written command err err' (answer.Refused r) s cause (inl (e, told)) is = cc
  stuck_status_means_written command err err' answer.ReadFault s cause (inl (e, told)) is = cc
  stuck_status_means_written command err err' answer.WriteFault s cause (inl (e, told)) is = cc
  stuck_status_means_written command err err' answer.NoMemory s cause (inl (e, told)) is = cc

  -- the verdict was written whole
  pub not_certified_status_means_written : (command : Option Command) (err err' : SinkState) (a : Answer) (s : Status) → IsCause old new command a
      → IsAnswered err err' a s → s ≡ status.NotCertified
      → IsSomeAnd command (IsWritten old new ending.NotCertified)
  not_certified_status_means_written command err err' a s cause (inr (e, part)) is = cc
  not_certified_status_means_written command err err' (answer.Written ending.Done) s cause (inl (e, told)) is = cc
  not_certified_status_means_written None err err' (answer.Written ending.NotCertified) s cause (inl (e, told)) is = absurd cause
  not_certified_status_means_written (Some c) err err' (answer.Written ending.NotCertified) s cause (inl (e, told)) is = cause
  not_certified_status_means_written command err err' (answer.Written ending.Stuck) s cause (inl (e, told)) is = cc
  not_certified_status_means_written command err err' answer.BadLine s cause (inl (e, told)) is = cc
  not_certified_status_means_written command err err' (answer.Refused r) s cause (inl (e, told)) is = cc
  not_certified_status_means_written command err err' answer.ReadFault s cause (inl (e, told)) is = cc
  not_certified_status_means_written command err err' answer.WriteFault s cause (inl (e, told)) is = cc
  not_certified_status_means_written command err err' answer.NoMemory s cause (inl (e, told)) is = cc

  -- only a verdict ends with NotCertified
  not_certified_view_is_verdict : (v : View) → EndsAs v ending.NotCertified → IsVerdict v
  not_certified_view_is_verdict (view.Run how) (true, is) = cc
  not_certified_view_is_verdict (view.Run how) (false, is) = cc
  not_certified_view_is_verdict view.Text is = cc
  not_certified_view_is_verdict (view.File name) is = cc
  not_certified_view_is_verdict (view.Verdict what) is = tt

  written_not_certified_is_certify : (command : Option Command) → IsSomeAnd command (IsWritten old new ending.NotCertified) → IsSomeAnd command IsCertify
  written_not_certified_is_certify None w = w
  written_not_certified_is_certify (Some c) w = not_certified_view_is_verdict c.view w.ends

  pub only_certify : (command : Option Command) (err err' : SinkState) (a : Answer) (s : Status) → IsCause old new command a
      → IsAnswered err err' a s → s ≡ status.NotCertified
      → IsSomeAnd command IsCertify
  only_certify command err err' a s cause told is =
      written_not_certified_is_certify command (not_certified_status_means_written command err err' a s cause told is)

-- the line of a status was written
pub line_said : (err err' : SinkState) (a : Answer) (s : Status) → IsAnswered err err' a s
    → IfSome (line_at s) (λ line. Says err err' line)
line_said err err' a s (inr (e, part)) = rw e tt
line_said err err' (answer.Written ending.Done) s (inl (e, told)) = rw e tt
line_said err err' (answer.Written ending.Stuck) s (inl (e, told)) = rw e tt
line_said err err' (answer.Written ending.NotCertified) s (inl (e, told)) = rw e tt
line_said err err' answer.BadLine s (inl (e, told)) = rw e told
line_said err err' (answer.Refused r) s (inl (e, told)) = rw e tt
line_said err err' answer.ReadFault s (inl (e, told)) = rw e told
line_said err err' answer.WriteFault s (inl (e, told)) = rw e told
line_said err err' answer.NoMemory s (inl (e, told)) = rw e tt

-- nothing was written to `err`
pub nothing_said_when_output_written : (a : Answer) (s : Status) (err err' : SinkState) → IsAnswered err err' a s → (s ≡ status.Done) ⊎ (s ≡ status.Stuck) ⊎ (s ≡ status.NotCertified)
    → err' ≡ err
nothing_said_when_output_written a s err err' (inr (e, part)) (inl is) = cc
nothing_said_when_output_written a s err err' (inr (e, part)) (inr (inl is)) = cc
nothing_said_when_output_written a s err err' (inr (e, part)) (inr (inr is)) = cc
nothing_said_when_output_written (answer.Written e') s err err' (inl (e, told)) is = told
nothing_said_when_output_written answer.BadLine s err err' (inl (e, told)) (inl is) = cc
nothing_said_when_output_written answer.BadLine s err err' (inl (e, told)) (inr (inl is)) = cc
nothing_said_when_output_written answer.BadLine s err err' (inl (e, told)) (inr (inr is)) = cc
nothing_said_when_output_written (answer.Refused r) s err err' (inl (e, told)) (inl is) = cc
nothing_said_when_output_written (answer.Refused r) s err err' (inl (e, told)) (inr (inl is)) = cc
nothing_said_when_output_written (answer.Refused r) s err err' (inl (e, told)) (inr (inr is)) = cc
nothing_said_when_output_written answer.ReadFault s err err' (inl (e, told)) (inl is) = cc
nothing_said_when_output_written answer.ReadFault s err err' (inl (e, told)) (inr (inl is)) = cc
nothing_said_when_output_written answer.ReadFault s err err' (inl (e, told)) (inr (inr is)) = cc
nothing_said_when_output_written answer.WriteFault s err err' (inl (e, told)) (inl is) = cc
nothing_said_when_output_written answer.WriteFault s err err' (inl (e, told)) (inr (inl is)) = cc
nothing_said_when_output_written answer.WriteFault s err err' (inl (e, told)) (inr (inr is)) = cc
nothing_said_when_output_written answer.NoMemory s err err' (inl (e, told)) (inl is) = cc
nothing_said_when_output_written answer.NoMemory s err err' (inl (e, told)) (inr (inl is)) = cc
nothing_said_when_output_written answer.NoMemory s err err' (inl (e, told)) (inr (inr is)) = cc
