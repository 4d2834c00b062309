-- The schedule of a probe: rounds of random calcs and messages among its ranks.
use Rattle.std.specs.Prelude.{ℕ, zero, suc, ◌+◌, ◌*◌, ◌-◌, ◌/◌, ◌%◌, ◌^◌, ◌==◌, List, [], ◌∷◌, ◌++◌, length, Option, Some, None, if◌then◌else◌}
use Rattle.goal_graph.specs.declared.plan.Kind.{Kind}
use Rattle.goal_graph.specs.declared.plan.Kind.TheVariants.{Calc, Send, Recv}
use Rattle.goal_graph.specs.declared.plan.Op.{Op}
use Rattle.goal_graph.specs.declared.plan.Dep.{Dep}
use Rattle.goal_graph.specs.declared.plan.When.TheVariants.{AfterEnd}
use Rattle.goal_graph.specs.Schedule.{Plan}
use Rattle.goal_collectives.specs.declared.draws.Round.{Round}

-- the number of ranks of a probe
abbrev pub probe_ranks : ℕ
probe_ranks = 64

-- the state after a draw, by a linear congruence modulo 2^64
unfoldable pub next_state : ℕ → ℕ
next_state x = (6364136223846793005 * x + 1442695040888963407) % 2 ^ 64

-- the number drawn, from the state after the draw
abbrev pub drawn : ℕ → ℕ
drawn x = x / 2 ^ 33

-- the round of four draws that leave these states: the rank of its calc and send, the rank of its receive, the
-- nanoseconds and the bytes
abbrev pub round_by : ℕ → ℕ → ℕ → ℕ → Round
round_by w x y z = record { from = drawn w % probe_ranks; to = drawn x % probe_ranks; nanos = drawn y % 10000; bytes = drawn z % 100000 }

-- the round drawn from a state
unfoldable pub round_from : ℕ → Round
round_from x =
    round_by (next_state x) (next_state (next_state x)) (next_state (next_state (next_state x))) (next_state (next_state (next_state (next_state x))))

-- the state before round i, counted from 0
unfoldable pub state_before : ℕ → ℕ → ℕ
state_before seed zero = seed
state_before seed (suc i) = next_state (next_state (next_state (next_state (state_before seed i))))

-- an operation of round i
abbrev pub op_in : ℕ → Kind → Op
op_in i kind = record { kind = kind; cpu = i % 4; nic = 0 }

-- the operation `later` needs the end of the operation `earlier`
abbrev pub requires_end : ℕ → ℕ → Dep
requires_end later earlier = record { later = later; earlier = earlier; when = AfterEnd }

-- a calc needs the last of the n operations that its rank had before, if any
abbrev pub after_last : ℕ → List Dep
after_last n = if n == 0 then [] else requires_end n (n - 1) ∷ []

-- the source of the receive of round i: any in every eighth round
abbrev pub source_in : ℕ → Round → Option ℕ
source_in i x = if i % 8 == 7 then None else Some x.from

-- a rank with the calc and the send of round i added; the send needs the calc
unfoldable pub with_work : ℕ → Round → Plan → Plan
with_work i x p = record {
  ops = p.ops ++ (op_in i (Calc x.nanos) ∷ op_in i (Send x.bytes x.to i) ∷ []);
  deps = p.deps ++ (after_last (length p.ops) ++ requires_end (length p.ops + 1) (length p.ops) ∷ []);
  notes = p.notes;
}

-- a rank with the receive of round i added
unfoldable pub with_receive : ℕ → Round → Plan → Plan
with_receive i x p = record {
  ops = p.ops ++ op_in i (Recv x.bytes (source_in i x) (Some i)) ∷ [];
  deps = p.deps;
  notes = p.notes;
}

-- the plans with that of one rank changed
unfoldable pub at_rank : ℕ → (Plan → Plan) → List Plan → List Plan
at_rank r f [] = []
at_rank zero f (p ∷ ps) = f p ∷ ps
at_rank (suc r) f (p ∷ ps) = p ∷ at_rank r f ps

-- the plans with round i added
abbrev pub with_round : ℕ → Round → List Plan → List Plan
with_round i x plans = at_rank x.to (with_receive i x) (at_rank x.from (with_work i x) plans)

abbrev pub idle : Plan
idle = record { ops = []; deps = []; notes = [] }

-- n ranks without operations
unfoldable pub idle_ranks : ℕ → List Plan
idle_ranks zero = []
idle_ranks (suc n) = idle ∷ idle_ranks n

-- the schedule of this number of rounds, drawn from a seed
unfoldable pub probed : ℕ → ℕ → List Plan
probed zero seed = idle_ranks probe_ranks
probed (suc i) seed = with_round i (round_from (state_before seed i)) (probed i seed)
