-- The laws for all schedules in words, and the notions that they use. Functions `laws_of_..` ensure each of them.
use Rattle.std.specs.Prelude.{◌≡◌, Bool, List, ◌++◌, ◌⊎◌, true, ℕ, ◌<◌, ◌≤◌, ◌^◌, ◌↔◌, length, map, ◌+◌, ◌*◌}
use Rattle.goal_limits.specs.Limits.{slot_limit}
use Rattle.goal_graph.specs.declared.action.OpId.{OpId}
use Rattle.goal_graph.specs.Schedule.{Plan, op_at, needs}
use Rattle.goal_graph.specs.Action.{Act}
use Rattle.goal_graph.specs.Interleaving.{IsInterleaving, IsCompleteInterleaving}
use Rattle.goal_blocks.specs.Walk.{IsWalk, no_send}
use Rattle.goal_graph.specs.Laws.{IsApart}
use Rattle.goal_blocks.specs.Channels.{HasNoWildcard, HasNoDoubleChannel}
use Rattle.goal_blocks.specs.Right.{EndsInItsPairs, IsRightEverywhere, IsRightFor, IsCertifiedByProof}
use Rattle.goal_blocks.specs.Matched.{IsMatched}
use Rattle.goal_graph.specs.Allowed.{has_started, has_ended, allowed}
use Rattle.goal_blocks.specs.Race.{EndsBefore, Conflict, HasNoRace}
use Rattle.goal_blocks.specs.Values.{Value, Store, held_after, value}
use Rattle.goal_blocks.specs.Certification.{IsCertified, IsSmall}
use Rattle.goal_graph.specs.Fault.{IsAccepted}
use Rattle.goal_blocks.specs.declared.cert_fault.CertFault.{CertFault}
use Rattle.goal_blocks.specs.Faults.{HasFault, IsCertificationFault}
use Rattle.goal_blocks.specs.Positions.{ahead, back}
use Rattle.goal_limits.specs.Limits.{size_limit}
use Rattle.goal_limits.specs.declared.collective.Collective.{Collective}
use Rattle.goal_blocks.specs.Generated.{made, IsPossible}
use Rattle.goal_limits.specs.declared.collective.Collective.TheVariants.{Bcast}
use Rattle.goal_blocks.specs.Certified.{IsCertifiedFor}
use Rattle.goal_graph.specs.declared.action.Class.{Class}
use Rattle.goal_blocks.specs.Slots.{slots, adds}
use Rattle.goal_blocks.specs.Renamed.{under, renamed_adding, renamed}
use Rattle.goal_blocks.specs.Collectives.{wanted}
use Rattle.goal_blocks.specs.Segments.{exchange, exchanged, initial_in, IsCertifiedIn, HoldsSegment, AreAllRight}

-- Walks.

-- a schedule has at most one walk
abbrev pub OneWalk : Type 0
OneWalk = (plans : List Plan) (v w : List Act) → IsWalk plans v → IsWalk plans w → v ≡ w

-- a schedule has a walk
abbrev pub SomeWalk : Type 0
SomeWalk = (plans : List Plan) → (w : List Act) × IsWalk plans w

-- every interleaving, whichever sends are eager, can be extended to a complete one
abbrev pub InterleavingGoesOn : Type 0
InterleavingGoesOn = (plans : List Plan) (eager : OpId → Bool) (h : List Act)
    → IsInterleaving plans eager h
    → (more : List Act) × IsCompleteInterleaving plans eager (more ++ h)

-- so there is a complete interleaving for each choice of eager sends
abbrev pub SomeCompleteInterleaving : Type 0
SomeCompleteInterleaving = (plans : List Plan) (eager : OpId → Bool) → (h : List Act) × IsCompleteInterleaving plans eager h

-- Matched schedules.

-- without wildcards and double channels, each send fits at most one receive, and each receive at most one send
abbrev pub ChannelsAreApart : Type 0
ChannelsAreApart = (plans : List Plan) → HasNoWildcard plans → HasNoDoubleChannel plans → IsApart plans

-- a matched schedule ends in its pairs in each complete interleaving, whichever sends are eager
abbrev pub MatchedEndsInItsPairs : Type 0
MatchedEndsInItsPairs = (plans : List Plan) (eager : OpId → Bool) (h : List Act) → IsMatched plans → IsCompleteInterleaving plans eager h → EndsInItsPairs plans eager h

-- Races.

-- in each interleaving, whichever sends are eager, x has ended if y has started
abbrev pub AlwaysEndsFirst : List Plan → OpId → OpId → Type 0
AlwaysEndsFirst plans x y =
    (eager : OpId → Bool) (h : List Act) → IsInterleaving plans eager h → has_started plans y h ≡ true → has_ended plans eager x h ≡ true

-- every interleaving keeps the order given by the dependencies
abbrev pub OrderIsKept : Type 0
OrderIsKept = (plans : List Plan) (x y : OpId) → EndsBefore plans x y → AlwaysEndsFirst plans x y

-- without a race, two conflicting operations have one order, the same in every interleaving
abbrev pub ConflictsComeInOneOrder : Type 0
ConflictsComeInOneOrder = (plans : List Plan) (x y : OpId) → HasNoRace plans → Conflict plans x y → AlwaysEndsFirst plans x y ⊎ AlwaysEndsFirst plans y x

-- Certified schedules.

-- a certified schedule ends in every complete interleaving, with the same pairs
abbrev pub CertifiedEndsEverywhere : Type 0
CertifiedEndsEverywhere =
    (plans : List Plan) (first : Store) (wanted : ℕ → ℕ → Value → Bool) (eager : OpId → Bool) (h : List Act)
    → IsCertified plans first wanted
    → IsCompleteInterleaving plans eager h
    → EndsInItsPairs plans eager h

-- in a certified schedule two conflicting operations have one order, the same in every interleaving
abbrev pub CertifiedConflictsInOneOrder : Type 0
CertifiedConflictsInOneOrder =
    (plans : List Plan) (first : Store) (wanted : ℕ → ℕ → Value → Bool) (x y : OpId)
    → IsCertified plans first wanted
    → Conflict plans x y
    → AlwaysEndsFirst plans x y ⊎ AlwaysEndsFirst plans y x

-- a matched schedule without a race leaves in each slot, and has read for each send, the same as in the walk
abbrev pub MatchedHoldsAsTheWalk : Type 0
MatchedHoldsAsTheWalk =
    (plans : List Plan) (first : Store) (eager : OpId → Bool) (h : List Act) (matched : IsMatched plans)
    → HasNoRace plans
    → IsCompleteInterleaving plans eager h
    → held_after plans eager first h ≡ held_after plans no_send first matched.no_stall.walk

-- a certified schedule is right everywhere
abbrev pub CertifiedIsRightEverywhere : Type 0
CertifiedIsRightEverywhere = (plans : List Plan) (first : Store) (wanted : ℕ → ℕ → Value → Bool) → IsCertified plans first wanted → IsRightEverywhere plans first wanted

-- Faults.

-- a schedule with a fault is not certified
abbrev pub FaultExcludesCertified : Type 0
FaultExcludesCertified = (plans : List Plan) (first : Store) (wanted : ℕ → ℕ → Value → Bool) (fault : CertFault) → HasFault plans first wanted fault → ¬ (IsCertified plans first wanted)

-- an accepted schedule without a first fault is certified
abbrev pub FaultlessIsCertified : Type 0
FaultlessIsCertified = (plans : List Plan) (first : Store) (wanted : ℕ → ℕ → Value → Bool)
    → IsAccepted plans
    → ((fault : CertFault) → ¬ (IsCertificationFault plans first wanted fault))
    → IsCertified plans first wanted

-- a schedule has at most one first fault
abbrev pub OneFirstFault : Type 0
OneFirstFault = (plans : List Plan) (first : Store) (wanted : ℕ → ℕ → Value → Bool) (fault other : CertFault)
    → IsCertificationFault plans first wanted fault
    → IsCertificationFault plans first wanted other
    → fault ≡ other

-- Positions.

-- both are ranks, and each undoes the other: going s ahead and then s back leads to r again
abbrev pub AheadAndBack : Type 0
AheadAndBack = (ranks r s : ℕ) → r < ranks → s ≤ ranks → (ahead ranks r s < ranks) × (back ranks r s < ranks) × (back ranks (ahead ranks r s) s ≡ r) × (ahead ranks (back ranks r s) s ≡ r)

-- The schedules of the ten collectives.

-- each is accepted
abbrev pub MadeIsAccepted : Type 0
MadeIsAccepted = (what : Collective) (ranks bytes : ℕ) → IsPossible what ranks → bytes ≤ size_limit → IsAccepted (made what ranks bytes)

-- the schedule for a broadcast of 8 bytes from rank 0 to rank 1 is certified
abbrev pub BcastOfTwoIsCertified : Type 0
BcastOfTwoIsCertified = IsCertifiedFor (Bcast 0) (made (Bcast 0) 2 8)

-- the generated schedules of these collectives are certified, for all ranks, roots and sizes within the limits
abbrev pub MadeIsCertified : Type 0
MadeIsCertified = (what : Collective) (ranks bytes : ℕ) → IsPossible what ranks → bytes ≤ size_limit → IsCertifiedByProof what ranks → IsCertifiedFor what (made what ranks bytes)

-- only these are certified: those of more ranks hold more than 2^24 contributions at the end of the walk
abbrev pub OnlyTheseAreCertified : Type 0
OnlyTheseAreCertified = (what : Collective) (ranks bytes : ℕ) → IsPossible what ranks → IsCertifiedFor what (made what ranks bytes) → IsCertifiedByProof what ranks

-- but all are right everywhere, even those that hold too much to be certified
abbrev pub MadeIsRight : Type 0
MadeIsRight = (what : Collective) (ranks bytes : ℕ) → IsPossible what ranks → bytes ≤ size_limit → IsRightFor what (made what ranks bytes)

-- Renamed slots.

-- each renaming undoes the other
pub record IsUndoneBy (name old : ℕ → ℕ → ℕ) : Type 0 where
  pub back : (rank slot : ℕ) → old rank (name rank slot) ≡ slot
  pub forth : (rank slot : ℕ) → name rank (old rank slot) ≡ slot

-- The other schedule has the same operations and needs, and moves and adds the renamed slots. How its notes are split
-- does not matter.
pub record IsRenamed (name : ℕ → ℕ → ℕ) (plans other : List Plan) : Type 0 where
  pub ranks : length other ≡ length plans
  pub ops : (x : OpId) → op_at other x ≡ op_at plans x
  pub needs : (x : OpId) → needs other x ≡ needs plans x
  pub moves : (x : OpId) → slots other x ≡ map (name x.rank) (slots plans x)
  pub adds : (x : OpId) → adds other x ≡ map (renamed_adding (name x.rank)) (adds plans x)

-- a schedule whose notes are renamed is a renamed schedule
abbrev pub RenamedIsRenamed : Type 0
RenamedIsRenamed = (name : ℕ → ℕ → ℕ) (plans : List Plan) → IsRenamed name plans (renamed name plans)

-- renamed back, the other schedule is the first again
abbrev pub RenamedBack : Type 0
RenamedBack = (name old : ℕ → ℕ → ℕ) (plans other : List Plan) → IsUndoneBy name old → IsRenamed name plans other → IsRenamed old other plans

-- both schedules allow the same actions, whichever sends are eager
abbrev pub RenamedIsAllowedAlike : Type 0
RenamedIsAllowedAlike = (name : ℕ → ℕ → ℕ) (plans other : List Plan) (eager : OpId → Bool) (h : List Act) (class : Class) (x : OpId)
    → IsRenamed name plans other
    → allowed other eager h class x ≡ allowed plans eager h class x

-- the interleavings are the same, and so are the complete ones
abbrev pub RenamedInterleavesAlike : Type 0
RenamedInterleavesAlike = (name : ℕ → ℕ → ℕ) (plans other : List Plan) (eager : OpId → Bool) (h : List Act)
    → IsRenamed name plans other
    → (IsInterleaving other eager h ↔ IsInterleaving plans eager h) × (IsCompleteInterleaving other eager h ↔ IsCompleteInterleaving plans eager h)

-- a slot's new name holds what the slot held, and sends have read the same
abbrev pub RenamedHoldsAlike : Type 0
RenamedHoldsAlike = (name old : ℕ → ℕ → ℕ) (plans other : List Plan) (eager : OpId → Bool) (first : Store) (h : List Act)
    → IsUndoneBy name old
    → IsRenamed name plans other
    → ((held_after other eager (under old first) h).store ≡ under old (held_after plans eager first h).store) × ((held_after other eager (under old first) h).payload ≡ (held_after plans eager first h).payload)

-- a renamed schedule is right if and only if the original is right, with start and end under the names
abbrev pub RenamedIsRight : Type 0
RenamedIsRight = (name old : ℕ → ℕ → ℕ) (plans other : List Plan) (first : Store) (wanted : ℕ → ℕ → Value → Bool)
    → IsUndoneBy name old
    → IsRenamed name plans other
    → IsRightEverywhere other first wanted ↔ IsRightEverywhere plans (under name first) (under name wanted)

-- slots up to 65,535 have new names up to 65,535, and those below 2^32 have new names below 2^32
pub record KeepsSlots (name : ℕ → ℕ → ℕ) : Type 0 where
  pub low : (rank slot : ℕ) → slot ≤ slot_limit → name rank slot ≤ slot_limit
  pub all : (rank slot : ℕ) → slot < 2 ^ 32 → name rank slot < 2 ^ 32

-- a renamed schedule is certified if and only if the original is certified, with start and end under the names
abbrev pub RenamedIsCertified : Type 0
RenamedIsCertified = (name old : ℕ → ℕ → ℕ) (plans : List Plan) (first : Store) (wanted : ℕ → ℕ → Value → Bool)
    → IsUndoneBy name old
    → KeepsSlots name
    → KeepsSlots old
    → IsSmall plans
    → IsCertified (renamed name plans) first wanted ↔ IsCertified plans (under name first) (under name wanted)

-- Segments.

-- the exchange undoes itself
abbrev pub ExchangeUndoesItself : Type 0
ExchangeUndoesItself =
    (width block slot : ℕ) → exchange width block (exchange width block slot) ≡ slot

-- a slot of the first block is exchanged with the one at its place in the other block
abbrev pub BlocksAreExchanged : Type 0
BlocksAreExchanged = (width block slot : ℕ) → slot < width → (exchange width block slot ≡ block * width + slot) × (exchange width block (block * width + slot) ≡ slot)

-- the first block is exchanged with itself
abbrev pub FirstBlockStays : Type 0
FirstBlockStays = (width slot : ℕ) → exchange width 0 slot ≡ slot

-- Certifying a schedule in a block is the same as certifying it with the two blocks exchanged.
abbrev pub ExchangedIsCertified : Type 0
ExchangedIsCertified = (what : Collective) (width block : ℕ) (plans : List Plan)
    → block * width + width ≤ slot_limit + 1
    → IsSmall plans
    → IsCertifiedFor what (exchanged width block plans) ↔ IsCertifiedIn what width block plans

-- If a schedule with slots 0 and k exchanged is certified, then in every complete interleaving of the original,
-- whichever sends are eager, each operation ends, the pairs are those of the channels, and slot k holds what the
-- collective wants in slot 0. At the start it holds what the collective has there.
abbrev pub SlotHoldsWanted : Type 0
SlotHoldsWanted = (what : Collective) (k : ℕ) (plans : List Plan) (eager : OpId → Bool) (h : List Act)
    → IsCertifiedFor what (exchanged 1 k plans)
    → IsCompleteInterleaving plans eager h
    → EndsInItsPairs plans eager h
    × ((rank : ℕ) → rank < length plans → wanted what (length plans) rank 0 (value plans eager (initial_in what 1 k (length plans)) h rank k) ≡ true)

-- the same for blocks
abbrev pub BlockHoldsWanted : Type 0
BlockHoldsWanted = (what : Collective) (width block : ℕ) (plans : List Plan) (eager : OpId → Bool) (h : List Act)
    → IsCertifiedFor what (exchanged width block plans)
    → IsCompleteInterleaving plans eager h
    → EndsInItsPairs plans eager h × HoldsSegment what width block plans (value plans eager (initial_in what width block (length plans)) h)

-- if the schedule is certified with each block exchanged, all segments are right in one run
abbrev pub SegmentsInOneRun : Type 0
SegmentsInOneRun = (what : Collective) (width count : ℕ) (plans : List Plan)
    → ((block : ℕ) → block < count → IsCertifiedFor what (exchanged width block plans))
    → AreAllRight what width count plans

-- if it is certified in each block, all segments are right in one run
abbrev pub BlocksInOneRun : Type 0
BlocksInOneRun = (what : Collective) (width count : ℕ) (plans : List Plan)
    → ((block : ℕ) → block < count → IsCertifiedIn what width block plans)
    → AreAllRight what width count plans
