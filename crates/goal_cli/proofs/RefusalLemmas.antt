-- A command has at most one refusal for an input, and none if it has an output for it. Facts on sources and on costs
-- are shown separately.
use Rattle.std.proofs.Common.{◌≡◌, ◌≢◌, ℕ, ◌<◌, ◌≤◌, ◌^◌, ◌⊎◌, true, List, length, Option, Some, is_some, IfSome, Result, inl, inr, refl, sym, ap, ◌∙◌, subst, arith}
use Rattle.std.specs.declared.result.Result.TheVariants.{Ok, Err}
use Rattle.goal_limits.specs.declared.limits.TheConstants.{MAX_INPUT}
use Rattle.goal_parser.specs.declared.faults.TextFault.{TextFault}
use Rattle.goal_binary.specs.declared.fault.FileFault.{FileFault}
use Rattle.goal_graph.specs.Schedule.{Plan}
use Rattle.sim_params.specs.Costs.{CostModel}
use Rattle.sim_params.specs.Budget.{budget}
use Rattle.sim_classes.specs.Machine.{MachineModel, costs_of}
use Rattle.sim_classes.specs.Form as form
use Rattle.sim_classes.specs.declared.fault.MachineFault.{MachineFault}
use Rattle.goal_limits.specs.declared.collective.Collective.{Collective}
use Rattle.goal_limits.specs.MostRanks.{most_ranks}
use Rattle.goal_blocks.specs.Generated.{IsPossible}
use Rattle.goal_blocks.specs.declared.gen_fault.GenFault.{GenFault}
use Rattle.goal_blocks.specs.declared.gen_fault.GenFault.TheVariants as gen
use Rattle.goal_blocks.specs.GenFaults.{AreRanksWithin}
use Rattle.goal_words.specs.declared.request.Source.{Source}
use Rattle.goal_words.specs.declared.request.Source.TheVariants as source
use Rattle.goal_words.specs.Words.{Command, Pricing, ByNumbers, ByMachine, Unpriced}
use Rattle.goal_cli.specs.declared.answer.Refusal.{Refusal}
use Rattle.goal_cli.specs.declared.answer.Refusal.TheVariants.{TooLong, Text, File, Machine, MachineRanks, Generator, Budget}
use Rattle.goal_input.specs.Input.{IsReadAs}
use Rattle.goal_cli.specs.Output.{Input, named_by, machine_named, HasInput, HasMachine, IsFrom, IsMachineFor, IsCosted, HasOutput, IsOverBudget, IsNotMade, IsNotFrom, IsMachineFault, IsForOtherRanks, IsTooLong, IsRefused}
use Rattle.goal_input.proofs.ForCallers.{same_schedule, same_text_fault, same_file_fault, not_both, no_text_fault, no_file_fault}

-- a text has at most one machine
pub one_machine : (text : List ℕ) (k m : MachineModel) → form.machine text ≡ Ok k → form.machine text ≡ Ok m → k ≡ m
one_machine text k m a b = let e : ◌≡◌ {A = Result MachineModel MachineFault} (Ok k) (Ok m) = sym a ∙ b in cc

no_machine : (text : List ℕ) (m : MachineModel) (f : MachineFault) → form.machine text ≡ Ok m → form.machine text ≡ Err f → ⊥
no_machine text m f a b = let e : ◌≡◌ {A = Result MachineModel MachineFault} (Ok m) (Err f) = sym a ∙ b in cc

-- the number of ranks is not both within the limit and above it
too_many : (what : Collective) (ranks : ℕ) → (ranks ≡ 0) ⊎ (most_ranks what < ranks) → AreRanksWithin what ranks → ⊥
too_many what ranks (inl none) within = let h = within.some_rank in omega arith
too_many what ranks (inr many) within = let h = within.few_ranks in omega arith

-- a collective has no schedule for at most one reason
same_reason : (what : Collective) (ranks : ℕ) (f g : GenFault) → IsNotMade what ranks f → IsNotMade what ranks g → f ≡ g
same_reason what ranks gen.NoMemory g a b = absurd (a.told refl)
same_reason what ranks f gen.NoMemory a b = absurd (b.told refl)
same_reason what ranks (gen.Ranks l) (gen.Ranks m) a b = let left = a.first.0 in let right = b.first.0 in cc
same_reason what ranks (gen.Ranks l) gen.Root a b = absurd (too_many what ranks a.first.1 b.first.0)
same_reason what ranks (gen.Ranks l) gen.NotPowerOfTwo a b = absurd (too_many what ranks a.first.1 b.first.0)
same_reason what ranks gen.Root (gen.Ranks m) a b = absurd (too_many what ranks b.first.1 a.first.0)
same_reason what ranks gen.Root gen.Root a b = refl
same_reason what ranks gen.Root gen.NotPowerOfTwo a b = absurd (a.first.1 b.first.1)
same_reason what ranks gen.NotPowerOfTwo (gen.Ranks m) a b = absurd (too_many what ranks b.first.1 a.first.0)
same_reason what ranks gen.NotPowerOfTwo gen.Root a b = absurd (b.first.1 a.first.1)
same_reason what ranks gen.NotPowerOfTwo gen.NotPowerOfTwo a b = refl

-- a collective with a schedule has no reason for having none
no_reason : (what : Collective) (ranks : ℕ) (f : GenFault) → IsPossible what ranks → IsNotMade what ranks f → ⊥
no_reason what ranks (gen.Ranks l) a b = too_many what ranks b.first.1 (record { some_rank = a.some_rank; few_ranks = a.few_ranks })
no_reason what ranks gen.Root a b = b.first.1 a.root
no_reason what ranks gen.NotPowerOfTwo a b = b.first.2 a.power
no_reason what ranks gen.NoMemory a b = b.told refl

-- THE SOURCE: the schedule of a file is read from it
source_read : (from : Source) (text : List ℕ) (sched : List Plan) → IsFrom from text sched → is_some (named_by from) ≡ true → IsReadAs text sched
source_read (source.File name) text sched a has = a
source_read (source.Made what ranks bytes) text sched a has = cc
source_read (source.Drawn rounds seed) text sched a has = cc

-- it is unique
one_schedule : (from : Source) (text : List ℕ) (sched other : List Plan) → IsFrom from text sched → IsFrom from text other → sched ≡ other
one_schedule (source.File name) text sched other a b = same_schedule text sched other a b
one_schedule (source.Made what ranks bytes) text sched other a b = a.made ∙ sym b.made
one_schedule (source.Drawn rounds seed) text sched other a b = a ∙ sym b

-- it is the same for two texts that mean one schedule
pub same_source : (from : Source) (text again : List ℕ) (said sched other : List Plan) → IsReadAs text said → IsReadAs again said
    → IsFrom from text sched → IsFrom from again other → sched ≡ other
same_source (source.File name) text again said sched other r s a b = same_schedule text sched said a r ∙ sym (same_schedule again other said b s)
same_source (source.Made what ranks bytes) text again said sched other r s a b = a.made ∙ sym b.made
same_source (source.Drawn rounds seed) text again said sched other r s a b = a ∙ sym b

-- a source that has no schedule has no file
named_source_has_schedule : (from : Source) (f : GenFault) → IsNotFrom from f → is_some (named_by from) ≡ true → ⊥
named_source_has_schedule (source.File name) f a has = a
named_source_has_schedule (source.Made what ranks bytes) f a has = cc
named_source_has_schedule (source.Drawn rounds seed) f a has = a

no_source : (from : Source) (text : List ℕ) (sched : List Plan) (f : GenFault) → IsFrom from text sched → IsNotFrom from f → ⊥
no_source (source.File name) text sched f a b = b
no_source (source.Made what ranks bytes) text sched f a b = no_reason what ranks f a.possible b
no_source (source.Drawn rounds seed) text sched f a b = b

one_reason : (from : Source) (f g : GenFault) → IsNotFrom from f → IsNotFrom from g → f ≡ g
one_reason (source.File name) f g a b = absurd a
one_reason (source.Made what ranks bytes) f g a b = same_reason what ranks f g a b
one_reason (source.Drawn rounds seed) f g a b = absurd a

-- THE COSTS: a machine that is used fits the schedule
costs_machine : (p : Pricing) (text : List ℕ) (sched : List Plan) (costs : Option CostModel) → IsCosted p text sched costs
    → is_some (machine_named p) ≡ true → (m : MachineModel) × IsMachineFor text sched m
costs_machine (ByNumbers numbers) text sched costs a has = cc
costs_machine (ByMachine name) text sched costs a has = (a.0, a.1)
costs_machine Unpriced text sched costs a has = cc

-- they are unique
one_costing : (p : Pricing) (text : List ℕ) (sched : List Plan) (k j : Option CostModel) → IsCosted p text sched k → IsCosted p text sched j → k ≡ j
one_costing (ByNumbers numbers) text sched k j a b = a ∙ sym b
one_costing (ByMachine name) text sched k j a b =
    a.2 ∙ ap (λ (m : MachineModel). Some (costs_of m)) (one_machine text _ _ a.1.said b.1.said) ∙ sym b.2
one_costing Unpriced text sched k j a b = a ∙ sym b

-- the costs of two commands over budget, or of one and of an output
same_costs : (c : Command) (input : Input) (sched other : List Plan) (k j : Option CostModel) → IsFrom c.source input.schedule sched
    → IsFrom c.source input.schedule other → IsCosted c.costs input.machine sched k → IsCosted c.costs input.machine other j → k ≡ j
same_costs c input sched other k j a b p q =
    one_costing c.costs input.machine sched k j p
    (subst (λ (ps : List Plan). IsCosted c.costs input.machine ps j) (sym (one_schedule c.source input.schedule sched other a b)) q)

same_budget : (c : Command) (input : Input) (s t : ℕ) → IsOverBudget c input s → IsOverBudget c input t → s ≡ t
same_budget c input s t a b =
    let plans = one_schedule c.source input.schedule a.sched b.sched a.from b.from in
    let some : ◌≡◌ {A = Option CostModel} (Some a.costs) (Some b.costs) = same_costs c input a.sched b.sched (Some a.costs) (Some b.costs) a.from b.from a.costed b.costed in
    let costs : a.costs ≡ b.costs = cc in
    a.sum_is ∙ ap (λ (ps : List Plan). budget ps a.costs) plans ∙ ap (budget b.sched) costs ∙ sym b.sum_is

-- an output has a budget that fits
budget_is_below : (sched : List Plan) (k : CostModel) (costs : Option CostModel) → costs ≡ Some k → IfSome costs (λ j. budget sched j < 2 ^ 63) → budget sched k < 2 ^ 63
budget_is_below sched k costs is fits = rw is at fits

output_fits : (c : Command) (input : Input) (sched : List Plan) (s : ℕ) → HasOutput c input sched → IsOverBudget c input s → ⊥
output_fits c input sched s a b =
    let plans = one_schedule c.source input.schedule b.sched sched b.from a.from in
    let small = budget_is_below sched b.costs a.costs (same_costs c input sched b.sched a.costs (Some b.costs) a.from b.from a.costed b.costed) a.fits in
    let sum = b.sum_is ∙ ap (λ (ps : List Plan). budget ps b.costs) plans in
    let over = b.over in
    omega arith

-- files that are not too long
files_within_limit_not_too_long : (c : Command) (input : Input) → IsTooLong c input → (HasInput c → length input.schedule ≤ MAX_INPUT)
    → (HasMachine c → length input.machine ≤ MAX_INPUT) → ⊥
files_within_limit_not_too_long c input (inl long) first second = let h = first long.0 in let k = long.1 in omega arith
files_within_limit_not_too_long c input (inr long) first second = let h = second long.0 in let k = long.1 in omega arith

-- an input that is refused for another reason is not too long
refused_otherwise_not_too_long : (c : Command) (input : Input) (r : Refusal) → (r ≢ TooLong) → IsRefused c input r → IsTooLong c input → ⊥
refused_otherwise_not_too_long c input TooLong other a long = other refl
refused_otherwise_not_too_long c input (Text f) other a long = files_within_limit_not_too_long c input long (λ _. a.2.short) (λ _. a.1)
refused_otherwise_not_too_long c input (File f) other a long = files_within_limit_not_too_long c input long (λ _. a.2.short) (λ _. a.1)
refused_otherwise_not_too_long c input (Generator f) other a long = files_within_limit_not_too_long c input long (λ has. absurd (named_source_has_schedule c.source f a.1 has)) (λ _. a.0)
refused_otherwise_not_too_long c input (Machine f) other a long =
    files_within_limit_not_too_long c input long (λ has. (source_read c.source input.schedule a.1.sched a.1.from has).short) (λ _. a.1.short)
refused_otherwise_not_too_long c input (MachineRanks p) other a long =
    files_within_limit_not_too_long c input long (λ has. (source_read c.source input.schedule a.1.sched a.1.from has).short) (λ _. a.1.short)
refused_otherwise_not_too_long c input (Budget s) other a long =
    files_within_limit_not_too_long c input long (λ has. (source_read c.source input.schedule a.sched a.from has).short)
    (λ has. (costs_machine c.costs input.machine a.sched (Some a.costs) a.costed has).1.short)

-- a reason that comes after the schedule
abbrev IsLater : Refusal → Type 0
IsLater (Machine f) = Unit {0}
IsLater (MachineRanks p) = Unit {0}
IsLater (Budget s) = Unit {0}
IsLater TooLong = ⊥
IsLater (Text f) = ⊥
IsLater (File f) = ⊥
IsLater (Generator f) = ⊥

later_refusal_has_schedule : (c : Command) (input : Input) (r : Refusal) → IsLater r → IsRefused c input r → (sched : List Plan) × IsFrom c.source input.schedule sched
later_refusal_has_schedule c input (Machine f) later a = (a.1.sched, a.1.from)
later_refusal_has_schedule c input (MachineRanks p) later a = (a.1.sched, a.1.from)
later_refusal_has_schedule c input (Budget s) later a = (a.sched, a.from)
later_refusal_has_schedule c input TooLong later a = absurd later
later_refusal_has_schedule c input (Text f) later a = absurd later
later_refusal_has_schedule c input (File f) later a = absurd later
later_refusal_has_schedule c input (Generator f) later a = absurd later

text_fault_excludes_later_refusal : (c : Command) (input : Input) (f : TextFault) (r : Refusal) → IsLater r → IsRefused c input (Text f) → IsRefused c input r → ⊥
text_fault_excludes_later_refusal c input f r later a b =
    let k = later_refusal_has_schedule c input r later b in
    no_text_fault input.schedule k.0 f a.2 (source_read c.source input.schedule k.0 k.1 a.0)

file_fault_excludes_later_refusal : (c : Command) (input : Input) (f : FileFault) (r : Refusal) → IsLater r → IsRefused c input (File f) → IsRefused c input r → ⊥
file_fault_excludes_later_refusal c input f r later a b =
    let k = later_refusal_has_schedule c input r later b in
    no_file_fault input.schedule k.0 f a.2 (source_read c.source input.schedule k.0 k.1 a.0)

generator_fault_excludes_later_refusal : (c : Command) (input : Input) (f : GenFault) (r : Refusal) → IsLater r → IsRefused c input (Generator f) → IsRefused c input r → ⊥
generator_fault_excludes_later_refusal c input f r later a b =
    let k = later_refusal_has_schedule c input r later b in
    no_source c.source input.schedule k.0 f k.1 a.1

-- a budget on a machine has one that fits
fitting_machine_not_for_other_ranks : (c : Command) (input : Input) (sched : List Plan) (m : MachineModel) (p : ℕ) → IsFrom c.source input.schedule sched
    → IsMachineFor input.machine sched m → IsForOtherRanks c input p → ⊥
fitting_machine_not_for_other_ranks c input sched m p from a b =
    b.other (b.ranks_are ∙ ap (λ (k : MachineModel). length k.nodes) (one_machine input.machine _ _ b.said a.said) ∙ a.ranks ∙ ap length (one_schedule c.source input.schedule _ _ from b.from))

machine_fault_excludes_over_budget : (c : Command) (input : Input) (f : MachineFault) (s : ℕ) → IsRefused c input (Machine f) → IsOverBudget c input s → ⊥
machine_fault_excludes_over_budget c input f s a b =
    let k = costs_machine c.costs input.machine b.sched (Some b.costs) b.costed a.0 in
    no_machine input.machine k.0 f k.1.said a.1.first

other_ranks_exclude_over_budget : (c : Command) (input : Input) (p s : ℕ) → IsRefused c input (MachineRanks p) → IsOverBudget c input s → ⊥
other_ranks_exclude_over_budget c input p s a b =
    let k = costs_machine c.costs input.machine b.sched (Some b.costs) b.costed a.0 in
    fitting_machine_not_for_other_ranks c input b.sched k.0 p b.from k.1 a.1

same_fault : (c : Command) (input : Input) (f g : MachineFault) → IsMachineFault c input f → IsMachineFault c input g → f ≡ g
same_fault c input f g a b = let e : ◌≡◌ {A = Result MachineModel MachineFault} (Err f) (Err g) = sym a.first ∙ b.first in cc

same_ranks : (c : Command) (input : Input) (p q : ℕ) → IsForOtherRanks c input p → IsForOtherRanks c input q → p ≡ q
same_ranks c input p q a b =
    a.ranks_are ∙ ap (λ (k : MachineModel). length k.nodes) (one_machine input.machine _ _ a.said b.said) ∙ sym b.ranks_are

pub same_refusal : (c : Command) (input : Input) (r q : Refusal) → IsRefused c input r → IsRefused c input q → r ≡ q
same_refusal c input TooLong TooLong a b = refl
same_refusal c input TooLong (Text g) a b = absurd (refused_otherwise_not_too_long c input (Text g) (λ e. cc) b a)
same_refusal c input TooLong (File g) a b = absurd (refused_otherwise_not_too_long c input (File g) (λ e. cc) b a)
same_refusal c input TooLong (Machine g) a b = absurd (refused_otherwise_not_too_long c input (Machine g) (λ e. cc) b a)
same_refusal c input TooLong (MachineRanks q) a b = absurd (refused_otherwise_not_too_long c input (MachineRanks q) (λ e. cc) b a)
same_refusal c input TooLong (Generator g) a b = absurd (refused_otherwise_not_too_long c input (Generator g) (λ e. cc) b a)
same_refusal c input TooLong (Budget t) a b = absurd (refused_otherwise_not_too_long c input (Budget t) (λ e. cc) b a)
same_refusal c input (Text f) TooLong a b = absurd (refused_otherwise_not_too_long c input (Text f) (λ e. cc) a b)
same_refusal c input (Text f) (Text g) a b = let same = same_text_fault input.schedule f g a.2 b.2 in cc
same_refusal c input (Text f) (File g) a b = absurd (not_both input.schedule f g a.2 b.2)
same_refusal c input (Text f) (Machine g) a b = absurd (text_fault_excludes_later_refusal c input f (Machine g) tt a b)
same_refusal c input (Text f) (MachineRanks q) a b = absurd (text_fault_excludes_later_refusal c input f (MachineRanks q) tt a b)
same_refusal c input (Text f) (Generator g) a b = absurd (named_source_has_schedule c.source g b.1 a.0)
same_refusal c input (Text f) (Budget t) a b = absurd (text_fault_excludes_later_refusal c input f (Budget t) tt a b)
same_refusal c input (File f) TooLong a b = absurd (refused_otherwise_not_too_long c input (File f) (λ e. cc) a b)
same_refusal c input (File f) (Text g) a b = absurd (not_both input.schedule g f b.2 a.2)
same_refusal c input (File f) (File g) a b = let same = same_file_fault input.schedule f g a.2 b.2 in cc
same_refusal c input (File f) (Machine g) a b = absurd (file_fault_excludes_later_refusal c input f (Machine g) tt a b)
same_refusal c input (File f) (MachineRanks q) a b = absurd (file_fault_excludes_later_refusal c input f (MachineRanks q) tt a b)
same_refusal c input (File f) (Generator g) a b = absurd (named_source_has_schedule c.source g b.1 a.0)
same_refusal c input (File f) (Budget t) a b = absurd (file_fault_excludes_later_refusal c input f (Budget t) tt a b)
same_refusal c input (Machine f) TooLong a b = absurd (refused_otherwise_not_too_long c input (Machine f) (λ e. cc) a b)
same_refusal c input (Machine f) (Text g) a b = absurd (text_fault_excludes_later_refusal c input g (Machine f) tt b a)
same_refusal c input (Machine f) (File g) a b = absurd (file_fault_excludes_later_refusal c input g (Machine f) tt b a)
same_refusal c input (Machine f) (Machine g) a b = let same = same_fault c input f g a.1 b.1 in cc
same_refusal c input (Machine f) (MachineRanks q) a b = absurd (no_machine input.machine _ f b.1.said a.1.first)
same_refusal c input (Machine f) (Generator g) a b = absurd (generator_fault_excludes_later_refusal c input g (Machine f) tt b a)
same_refusal c input (Machine f) (Budget t) a b = absurd (machine_fault_excludes_over_budget c input f t a b)
same_refusal c input (MachineRanks p) TooLong a b = absurd (refused_otherwise_not_too_long c input (MachineRanks p) (λ e. cc) a b)
same_refusal c input (MachineRanks p) (Text g) a b = absurd (text_fault_excludes_later_refusal c input g (MachineRanks p) tt b a)
same_refusal c input (MachineRanks p) (File g) a b = absurd (file_fault_excludes_later_refusal c input g (MachineRanks p) tt b a)
same_refusal c input (MachineRanks p) (Machine g) a b = absurd (no_machine input.machine _ g a.1.said b.1.first)
same_refusal c input (MachineRanks p) (MachineRanks q) a b = let same = same_ranks c input p q a.1 b.1 in cc
same_refusal c input (MachineRanks p) (Generator g) a b = absurd (generator_fault_excludes_later_refusal c input g (MachineRanks p) tt b a)
same_refusal c input (MachineRanks p) (Budget t) a b = absurd (other_ranks_exclude_over_budget c input p t a b)
same_refusal c input (Generator f) TooLong a b = absurd (refused_otherwise_not_too_long c input (Generator f) (λ e. cc) a b)
same_refusal c input (Generator f) (Text g) a b = absurd (named_source_has_schedule c.source f a.1 b.0)
same_refusal c input (Generator f) (File g) a b = absurd (named_source_has_schedule c.source f a.1 b.0)
same_refusal c input (Generator f) (Machine g) a b = absurd (generator_fault_excludes_later_refusal c input f (Machine g) tt a b)
same_refusal c input (Generator f) (MachineRanks q) a b = absurd (generator_fault_excludes_later_refusal c input f (MachineRanks q) tt a b)
same_refusal c input (Generator f) (Generator g) a b = let same = one_reason c.source f g a.1 b.1 in cc
same_refusal c input (Generator f) (Budget t) a b = absurd (generator_fault_excludes_later_refusal c input f (Budget t) tt a b)
same_refusal c input (Budget s) TooLong a b = absurd (refused_otherwise_not_too_long c input (Budget s) (λ e. cc) a b)
same_refusal c input (Budget s) (Text g) a b = absurd (text_fault_excludes_later_refusal c input g (Budget s) tt b a)
same_refusal c input (Budget s) (File g) a b = absurd (file_fault_excludes_later_refusal c input g (Budget s) tt b a)
same_refusal c input (Budget s) (Machine g) a b = absurd (machine_fault_excludes_over_budget c input g s b a)
same_refusal c input (Budget s) (MachineRanks q) a b = absurd (other_ranks_exclude_over_budget c input q s b a)
same_refusal c input (Budget s) (Generator g) a b = absurd (generator_fault_excludes_later_refusal c input g (Budget s) tt b a)
same_refusal c input (Budget s) (Budget t) a b = let same = same_budget c input s t a b in cc

-- an input for which there is an output is not refused
pub no_refusal : (c : Command) (input : Input) (sched : List Plan) (r : Refusal) → HasOutput c input sched → IsRefused c input r → ⊥
no_refusal c input sched TooLong a b =
    files_within_limit_not_too_long c input b (λ has. (source_read c.source input.schedule sched a.from has).short)
    (λ has. (costs_machine c.costs input.machine sched a.costs a.costed has).1.short)
no_refusal c input sched (Text f) a b = no_text_fault input.schedule sched f b.2 (source_read c.source input.schedule sched a.from b.0)
no_refusal c input sched (File f) a b = no_file_fault input.schedule sched f b.2 (source_read c.source input.schedule sched a.from b.0)
no_refusal c input sched (Generator f) a b = no_source c.source input.schedule sched f a.from b.1
no_refusal c input sched (Machine f) a b =
    let k = costs_machine c.costs input.machine sched a.costs a.costed b.0 in
    no_machine input.machine k.0 f k.1.said b.1.first
no_refusal c input sched (MachineRanks p) a b =
    let k = costs_machine c.costs input.machine sched a.costs a.costed b.0 in
    fitting_machine_not_for_other_ranks c input sched k.0 p a.from k.1 b.1
no_refusal c input sched (Budget s) a b = output_fits c input sched s a b
