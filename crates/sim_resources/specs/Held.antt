-- The cpus and the sides of NICs as contracts see them: one hold of each operation, until the time at which what it
-- uses is free.
use Rattle.std.specs.Prelude.{ℕ, suc, ◌≡◌, ◌<◌, Bool, true, false, List, [], ◌∷◌, Contains, Option, Some, None, filter, map, get_or, slice_index, slice_index_or, if◌then◌else◌}
use Rattle.goal_graph.specs.declared.action.OpId.{OpId}
use Rattle.goal_graph.specs.declared.plan.Kind.{Kind}
use Rattle.goal_graph.specs.declared.plan.Kind.TheVariants.{Calc, Send, Recv}
use Rattle.goal_graph.specs.declared.plan.Op.{Op}
use Rattle.goal_graph.specs.Schedule.{Plan, op_at, operations}
use Rattle.goal_graph.specs.Action.{same_op}
use Rattle.sim_resources.specs.declared.pair.Pair.{Pair}
use Rattle.sim_resources.specs.declared.station.StationNumbers.{StationNumbers}
use Rattle.sim_resources.specs.FreeTimes.{shares, Hold, hold}

-- the index of x in a list of operations that contains it
unfoldable pub place_among : List OpId → OpId → ℕ
place_among [] x = 0
place_among (y ∷ ys) x = if same_op y x then 0 else suc (place_among ys x)

-- the numbers of the two resources of x
abbrev pub pair_of : List Plan → StationNumbers → OpId → Pair
pair_of plans s x =
    slice_index_or s.pairs.items (slice_index s.numbers.items (place_among (operations plans) x)) (record { cpu = 0; side = 0 })

abbrev pub cpu_number : List Plan → StationNumbers → OpId → ℕ
cpu_number plans s x = (pair_of plans s x).cpu

abbrev pub side_number : List Plan → StationNumbers → OpId → ℕ
side_number plans s x = (pair_of plans s x).side

-- whether an operation sends, and whether it receives
abbrev pub kind_sends : Kind → Bool
kind_sends (Calc nanos) = false
kind_sends (Send bytes to tag) = true
kind_sends (Recv room from tag) = false

abbrev pub kind_receives : Kind → Bool
kind_receives (Calc nanos) = false
kind_receives (Send bytes to tag) = false
kind_receives (Recv room from tag) = true

abbrev pub sends : Option Op → Bool
sends None = false
sends (Some o) = kind_sends o.kind

abbrev pub receives : Option Op → Bool
receives None = false
receives (Some o) = kind_receives o.kind

-- the sends, and the receives, of a schedule
abbrev pub senders : List Plan → List OpId
senders plans = filter (λ x. sends (op_at plans x)) (operations plans)

abbrev pub receivers : List Plan → List OpId
receivers plans = filter (λ x. receives (op_at plans x)) (operations plans)

-- a hold of each user, until the time of the number that it has
abbrev pub held : List OpId → (OpId → ℕ) → List ℕ → List Hold
held users number free = map (λ (x : OpId). hold x (get_or free (number x) 0)) users

-- Each user has one of `count` numbers, and two users have the same exactly if they share.
pub record IsPlaced (place : Op → ℕ) (plans : List Plan) (users : List OpId) (number : OpId → ℕ) (count : ℕ) : Type 0 where
  pub within : (x : OpId) → Contains users x → number x < count
  pub alike : (x y : OpId) → Contains users x → Contains users y → shares place plans x y ≡ true → number x ≡ number y
  pub apart : (x y : OpId) → Contains users x → Contains users y → number x ≡ number y → shares place plans x y ≡ true
