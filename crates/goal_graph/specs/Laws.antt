-- The laws of interleavings in words, and the notions that they use.
use Rattle.std.specs.Prelude.{ℕ, ◌+◌, ◌*◌, ◌≡◌, ◌≢◌, ◌≤◌, ◌⊎◌, ◌↔◌, ◌&&◌, not, Bool, true, false, List, [], ◌∷◌, length, reverse, take, slice_get, find, Contains, AllPairs, Option, Some, is_some, count_by, sum_by}
use Rattle.std.specs.Option.{option_map}
use Rattle.goal_graph.specs.declared.action.OpId.{OpId}
use Rattle.goal_graph.specs.declared.action.Timed.{Timed}
use Rattle.goal_graph.specs.declared.plan.Op.{Op}
use Rattle.goal_graph.specs.declared.action.Class.{Class}
use Rattle.goal_graph.specs.declared.action.Class.TheVariants.{Arrive, Serve, Data, Post, Begin}
use Rattle.goal_graph.specs.declared.plan.Kind.{Kind}
use Rattle.goal_graph.specs.declared.plan.Kind.TheVariants.{Calc, Send, Recv}
use Rattle.goal_graph.specs.Schedule.{Plan, op_at, kind_at, operations, IsSend, IsReceive}
use Rattle.goal_graph.specs.Action.{Act, same_op, is_act, happened, oldest}
use Rattle.goal_graph.specs.Order.{IsBefore, IsLess, key}
use Rattle.goal_graph.specs.Keys.{less}
use Rattle.goal_graph.specs.Fault.{IsAccepted, value_fits, has_peer}
use Rattle.goal_graph.specs.Limits.{AreCountsWithin}
use Rattle.goal_graph.specs.Matching.{Pair, pair_of, fits, pairs, partner, is_paired}
use Rattle.goal_graph.specs.Allowed.{has_started, has_ended, is_ready, is_served, allowed}
use Rattle.goal_graph.specs.Interleaving.{IsInterleaving, IsCompleteInterleaving}

-- x is a calc
pub record IsCalc (plans : List Plan) (x : OpId) : Type 0 where
  pub nanos : ℕ
  pub kind : kind_at plans x ≡ Some (Calc nanos)

-- the send m and the receive x have met: m has arrived, x is posted, and they fit
pub record HaveMet (plans : List Plan) (h : List Act) (m x : OpId) : Type 0 where
  pub arrived : happened Arrive m h ≡ true
  pub posted : happened Post x h ≡ true
  pub fit : fits plans x m ≡ true

-- an operation of that kind has an action of that class
abbrev pub has_class : Option Kind → Class → Bool
has_class (Some (Calc nanos)) Begin = true
has_class (Some (Send bytes to tag)) Begin = true
has_class (Some (Send bytes to tag)) Arrive = true
has_class (Some (Send bytes to tag)) Data = true
has_class (Some (Recv room from tag)) Post = true
has_class (Some (Recv room from tag)) Serve = true
has_class _ _ = false

abbrev pub classes : List Class
classes = Arrive ∷ Serve ∷ Data ∷ Post ∷ Begin ∷ []

-- x has an action of that class, and it has not happened
abbrev pub is_left : List Plan → List Act → OpId → Class → Bool
is_left plans h x class = has_class (kind_at plans x) class && not (happened class x h)

-- the number of actions of x that have not happened
unfoldable pub left_of : List Plan → List Act → OpId → ℕ
left_of plans h x = count_by (is_left plans h x) classes

-- the number of actions of all operations that have not happened
unfoldable pub left : List Plan → List Act → ℕ
left plans h = sum_by (left_of plans h) (operations plans)

-- a rendezvous send that has arrived, and that no receive has taken
pub record IsWaitingSend (plans : List Plan) (eager : OpId → Bool) (h : List Act) (m : OpId) : Type 0 where
  pub is_send : IsSend plans m
  pub is_large : eager m ≡ false
  pub arrived : happened Arrive m h ≡ true
  pub unpaired : is_paired (pairs plans h) m ≡ false

-- a posted receive that has taken no send
pub record IsWaitingReceive (plans : List Plan) (h : List Act) (x : OpId) : Type 0 where
  pub is_receive : IsReceive plans x
  pub posted : happened Post x h ≡ true
  pub unpaired : is_paired (pairs plans h) x ≡ false

-- y is paired with an operation other than x
pub record IsTaken (plans : List Plan) (h : List Act) (y x : OpId) : Type 0 where
  pub taker : OpId
  pub pair : partner (pairs plans h) y ≡ Some taker
  pub other : taker ≢ x

-- The laws hold for all schedules, whichever sends are eager. Functions `laws_of_..` ensure each of them.

-- an action has happened exactly if it is in the list
abbrev pub HappenedIsListed : Type 0
HappenedIsListed = (class : Class) (x : OpId) (h : List Act) → (happened class x h ≡ true) ↔ Contains h (record { class = class; op = x })

-- after another action, those have happened that had before, and that action
abbrev pub HappenedCases : Type 0
HappenedCases = (class : Class) (x : OpId) (a : Act) (h : List Act)
    → (happened class x (a ∷ h) ≡ true) ↔ ((happened class x h ≡ true) ⊎ (a ≡ record { class = class; op = x }))

-- what has happened stays happened
abbrev pub HappenedStays : Type 0
HappenedStays = (class : Class) (x : OpId) (a : Act) (h : List Act) → happened class x h ≡ true → happened class x (a ∷ h) ≡ true

-- a partner stays the partner
abbrev pub PartnerStays : Type 0
PartnerStays = (plans : List Plan) (a : Act) (h : List Act) (x y : OpId) → partner (pairs plans h) x ≡ Some y → partner (pairs plans (a ∷ h)) x ≡ Some y

-- what is ready stays ready
abbrev pub ReadyStays : Type 0
ReadyStays = (plans : List Plan) (eager : OpId → Bool) (a : Act) (h : List Act) (x : OpId)
    → is_ready plans eager h x ≡ true
    → is_ready plans eager (a ∷ h) x ≡ true

-- a partner's message that is there stays there
abbrev pub MessageStays : Type 0
MessageStays = (plans : List Plan) (eager : OpId → Bool) (a : Act) (h : List Act) (x : OpId)
    → is_served plans eager h (partner (pairs plans h) x) ≡ true
    → is_served plans eager (a ∷ h) (partner (pairs plans (a ∷ h)) x) ≡ true

-- an allowed action stays allowed until it happens
abbrev pub AllowedStays : Type 0
AllowedStays = (plans : List Plan) (eager : OpId → Bool) (a : Act) (h : List Act) (class : Class) (x : OpId)
    → is_act class x a ≡ false
    → allowed plans eager h class x ≡ true
    → allowed plans eager (a ∷ h) class x ≡ true

-- the partner of x's partner is x
abbrev pub PartnersAreMutual : Type 0
PartnersAreMutual = (plans : List Plan) (eager : OpId → Bool) (h : List Act) (x y : OpId)
    → IsInterleaving plans eager h
    → partner (pairs plans h) x ≡ Some y
    → partner (pairs plans h) y ≡ Some x

-- of two partners one is a send that has arrived, the other a posted receive, and they fit
abbrev pub PartnersHaveMet : Type 0
PartnersHaveMet = (plans : List Plan) (h : List Act) (x y : OpId) → partner (pairs plans h) x ≡ Some y → HaveMet plans h x y ⊎ HaveMet plans h y x

-- only a receive and a send fit
abbrev pub FitsAreReceiveAndSend : Type 0
FitsAreReceiveAndSend = (plans : List Plan) (x m : OpId) → fits plans x m ≡ true → IsReceive plans x × IsSend plans m

-- the two of each pair are partners of each other
abbrev pub PairsArePartners : Type 0
PairsArePartners = (plans : List Plan) (eager : OpId → Bool) (h : List Act) (p : Pair)
    → IsInterleaving plans eager h
    → Contains (pairs plans h) p
    → (partner (pairs plans h) p.send ≡ Some p.recv) × (partner (pairs plans h) p.recv ≡ Some p.send)

-- partners are in a pair
abbrev pub PartnersArePaired : Type 0
PartnersArePaired = (plans : List Plan) (h : List Act) (x y : OpId)
    → partner (pairs plans h) x ≡ Some y
    → Contains (pairs plans h) (pair_of x y) ⊎ Contains (pairs plans h) (pair_of y x)

-- each operation is in at most one pair: two pairs that share the send or the receive are the same
abbrev pub OnePair : Type 0
OnePair = (plans : List Plan) (eager : OpId → Bool) (h : List Act) (p q : Pair)
    → IsInterleaving plans eager h
    → Contains (pairs plans h) p
    → Contains (pairs plans h) q
    → ((p.send ≡ q.send) ⊎ (p.recv ≡ q.recv))
    → p ≡ q

-- a message arrives after its send has begun
abbrev pub ArrivesAfterBegin : Type 0
ArrivesAfterBegin = (plans : List Plan) (eager : OpId → Bool) (h : List Act) (m : OpId)
    → IsInterleaving plans eager h
    → happened Arrive m h ≡ true
    → happened Begin m h ≡ true

-- a send transfers its data after it is paired, and so after it has arrived
abbrev pub DataAfterPairing : Type 0
DataAfterPairing = (plans : List Plan) (eager : OpId → Bool) (h : List Act) (m : OpId)
    → IsInterleaving plans eager h
    → happened Data m h ≡ true
    → (is_paired (pairs plans h) m ≡ true) × (happened Arrive m h ≡ true)

-- a receive takes its message after it is posted and paired, and once the message is there
abbrev pub ServesAfterPost : Type 0
ServesAfterPost = (plans : List Plan) (eager : OpId → Bool) (h : List Act) (x : OpId)
    → IsInterleaving plans eager h
    → happened Serve x h ≡ true
    → (happened Post x h ≡ true) × (is_served plans eager h (partner (pairs plans h) x) ≡ true)

-- what has ended has started
abbrev pub EndsAfterStart : Type 0
EndsAfterStart = (plans : List Plan) (eager : OpId → Bool) (h : List Act) (x : OpId)
    → IsInterleaving plans eager h
    → has_ended plans eager x h ≡ true
    → has_started plans x h ≡ true

-- what has started was ready
abbrev pub StartsWhenReady : Type 0
StartsWhenReady = (plans : List Plan) (eager : OpId → Bool) (h : List Act) (x : OpId)
    → IsInterleaving plans eager h
    → has_started plans x h ≡ true
    → is_ready plans eager h x ≡ true

-- each action happens at most once
abbrev pub HappensOnce : Type 0
HappensOnce = (plans : List Plan) (eager : OpId → Bool) (h : List Act) (class : Class) (x : OpId)
    → IsInterleaving plans eager h
    → count_by (is_act class x) h ≤ 1

-- at most three actions of an operation happen
abbrev pub AtMostThree : Type 0
AtMostThree = (plans : List Plan) (eager : OpId → Bool) (h : List Act) (x : OpId) → IsInterleaving plans eager h → count_by (λ (a : Act). same_op a.op x) h ≤ 3

-- actions that have happened and actions that are left number together at most three per operation
abbrev pub AtMostThreeEach : Type 0
AtMostThreeEach = (plans : List Plan) (eager : OpId → Bool) (h : List Act)
    → IsInterleaving plans eager h
    → length h + left plans h ≤ 3 * length (operations plans)

-- each allowed action reduces the number of those left
abbrev pub LeftFalls : Type 0
LeftFalls = (plans : List Plan) (eager : OpId → Bool) (a : Act) (h : List Act)
    → allowed plans eager h a.class a.op ≡ true
    → left plans (a ∷ h) + 1 ≤ left plans h

-- at any time, at most one action of an operation is allowed
abbrev pub OneAllowed : Type 0
OneAllowed = (plans : List Plan) (eager : OpId → Bool) (h : List Act) (class other : Class) (x : OpId)
    → IsInterleaving plans eager h
    → allowed plans eager h class x ≡ true
    → allowed plans eager h other x ≡ true
    → class ≡ other

-- an arrived send and a posted receive that fit never both wait
abbrev pub NeverBothWait : Type 0
NeverBothWait = (plans : List Plan) (h : List Act) (m x : OpId)
    → HaveMet plans h m x
    → (is_paired (pairs plans h) m ≡ true) ⊎ (is_paired (pairs plans h) x ≡ true)

-- an allowed action belongs to an operation of the schedule
abbrev pub AllowedIsListed : Type 0
AllowedIsListed = (plans : List Plan) (eager : OpId → Bool) (h : List Act) (class : Class) (x : OpId)
    → allowed plans eager h class x ≡ true
    → Contains (operations plans) x

-- `operations` lists exactly the places that have an operation
abbrev pub OperationsAreListed : Type 0
OperationsAreListed = (plans : List Plan) (x : OpId) → Contains (operations plans) x ↔ (is_some (op_at plans x) ≡ true)

-- the operations are listed by rank and number, each once
abbrev pub OperationsInOrder : Type 0
OperationsInOrder = (plans : List Plan) → AllPairs IsBefore (operations plans) × AllPairs (λ (x y : OpId). x ≢ y) (operations plans)

-- the oldest action that passes is the first to pass in the list read oldest first
abbrev pub ReadOldestFirst : Type 0
ReadOldestFirst = (test : Act → Bool) (h : List Act) → oldest test h ≡ option_map (λ (a : Act). a.op) (find test (reverse h))

-- in this list, oldest first, each action is allowed after those before it
abbrev pub EachIsAllowed : List Plan → (OpId → Bool) → List Act → Type 0
EachIsAllowed plans eager trace =
    (k : ℕ) (a : Act) → slice_get trace k ≡ Some a → allowed plans eager (reverse (take k trace)) a.class a.op ≡ true

-- read oldest first, each action of an interleaving is allowed after those before it
abbrev pub InterleavingOldestFirst : Type 0
InterleavingOldestFirst = (plans : List Plan) (eager : OpId → Bool) (h : List Act) → IsInterleaving plans eager h ↔ EachIsAllowed plans eager (reverse h)

-- after a complete interleaving, every paired operation has ended
abbrev pub PairedHasEnded : Type 0
PairedHasEnded = (plans : List Plan) (eager : OpId → Bool) (h : List Act) (x : OpId)
    → IsCompleteInterleaving plans eager h
    → is_paired (pairs plans h) x ≡ true
    → has_ended plans eager x h ≡ true

-- after a complete interleaving, an operation that is ready and has not ended is a rendezvous send or a receive that
-- waits for a partner
abbrev pub ReadyWaits : Type 0
ReadyWaits = (plans : List Plan) (eager : OpId → Bool) (h : List Act) (x : OpId)
    → IsCompleteInterleaving plans eager h
    → Contains (operations plans) x
    → is_ready plans eager h x ≡ true
    → has_ended plans eager x h ≡ false
    → IsWaitingSend plans eager h x ⊎ IsWaitingReceive plans h x

-- after it, each operation that fits such an operation has not started, or is paired with another
abbrev pub FittingIsTaken : Type 0
FittingIsTaken = (plans : List Plan) (eager : OpId → Bool) (h : List Act) (x y : OpId)
    → IsCompleteInterleaving plans eager h
    → is_ready plans eager h x ≡ true
    → has_ended plans eager x h ≡ false
    → ((fits plans x y ≡ true) ⊎ (fits plans y x ≡ true))
    → (has_started plans y h ≡ false) ⊎ IsTaken plans h y x

-- each send fits at most one receive, and each receive at most one send
pub record IsApart (plans : List Plan) : Type 0 where
  pub one_receive : (m x y : OpId) → fits plans x m ≡ true → fits plans y m ≡ true → x ≡ y
  pub one_send : (x m n : OpId) → fits plans x m ≡ true → fits plans x n ≡ true → m ≡ n

-- then a send and a receive are partners exactly if they have met
abbrev pub ApartArePartners : Type 0
ApartArePartners = (plans : List Plan) (eager : OpId → Bool) (h : List Act) (m x : OpId)
    → IsApart plans
    → IsInterleaving plans eager h
    → ((partner (pairs plans h) m ≡ Some x) × IsSend plans m) ↔ HaveMet plans h m x

-- then what starts or ends in one interleaving does so in each complete one with as many eager sends or more
abbrev pub ApartCompletesAlike : Type 0
ApartCompletesAlike = (plans : List Plan) (eager fewer : OpId → Bool) (h w : List Act)
    → IsApart plans
    → IsCompleteInterleaving plans eager h
    → IsInterleaving plans fewer w
    → ((m : OpId) → fewer m ≡ true → eager m ≡ true)
    → (x : OpId)
    → (has_started plans x w ≡ true → has_started plans x h ≡ true) × (has_ended plans fewer x w ≡ true → has_ended plans eager x h ≡ true)

-- The laws of orders.

-- no operation is before itself
abbrev pub OperationNotBeforeItself : Type 0
OperationNotBeforeItself = (x : OpId) → ¬ (IsBefore x x)

-- an operation before a second, which is before a third, is before the third
abbrev pub OperationsBeforeIsTransitive : Type 0
OperationsBeforeIsTransitive = (x y z : OpId) → IsBefore x y → IsBefore y z → IsBefore x z

-- two different operations are in order one way or the other
abbrev pub OneOperationIsBefore : Type 0
OneOperationIsBefore = (x y : OpId) → IsBefore x y ⊎ (IsBefore y x ⊎ (x ≡ y))

-- no key is less than itself
abbrev pub NotLessThanItself : Type 0
NotLessThanItself = (k : List ℕ) → ¬ (IsLess k k)

-- a key less than a second, which is less than a third, is less than the third
abbrev pub LessIsTransitive : Type 0
LessIsTransitive = (j k l : List ℕ) → IsLess j k → IsLess k l → IsLess j l

-- of two different actions one has the lesser key
abbrev pub OneIsLess : Type 0
OneIsLess = (a b : Timed) → (a ≡ b) ⊎ (IsLess (key a) (key b) ⊎ IsLess (key b) (key a))

-- a key determines its action
abbrev pub KeyTellsAction : Type 0
KeyTellsAction = (a b : Timed) → key a ≡ key b → a ≡ b

-- the test `less` decides the order
abbrev pub LessIsTested : Type 0
LessIsTested = (j k : List ℕ) → (less j k ≡ true) ↔ IsLess j k

-- The laws of accepted schedules.

-- the ranks, operations, dependencies and notes are within their limits
abbrev pub CountsAreWithin : Type 0
CountsAreWithin = (plans : List Plan) → IsAccepted plans → AreCountsWithin plans

-- the size or duration of each operation is within its limit, and its target or source is a rank
abbrev pub ValuesAreWithin : Type 0
ValuesAreWithin = (plans : List Plan) (x : OpId) (o : Op)
    → IsAccepted plans
    → op_at plans x ≡ Some o
    → (value_fits o.kind o.nic ≡ true) × (has_peer (length plans) o.kind ≡ true)

-- The law of eager sends.

-- tests of what is eager that agree on the sends of a schedule have the same interleavings
abbrev pub EagerSendsAlone : Type 0
EagerSendsAlone = (plans : List Plan) (eager other : OpId → Bool) (h : List Act)
    → ((m : OpId) → IsSend plans m → eager m ≡ other m)
    → IsInterleaving plans eager h ↔ IsInterleaving plans other h
