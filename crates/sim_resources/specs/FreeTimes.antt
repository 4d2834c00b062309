-- Until when the cpus and the NICs of the ranks are held, in nanoseconds.
use Rattle.std.specs.Prelude.{ℕ, ◌≡◌, max, Bool, List, [], ◌∷◌, if◌then◌else◌}
use Rattle.goal_graph.specs.declared.action.OpId.{OpId}
use Rattle.goal_graph.specs.declared.plan.Op.{Op}
use Rattle.goal_graph.specs.Schedule.{Plan, op_at}
pub use Rattle.goal_graph.specs.Schedule.{same_place as shares_place}

-- what the operation `op` uses, its cpu or one side of its NIC, is held until this time
pub record Hold : Type 0 where
  pub op : OpId
  pub until : ℕ

-- whether two operations are of one rank and use the same cpu, or the same NIC
abbrev pub shares : (Op → ℕ) → List Plan → OpId → OpId → Bool
shares place plans x y = shares_place place x (op_at plans x) y (op_at plans y)

-- when what x uses is free: the greatest `until` of the holds on it; 0 without any
unfoldable pub free_at : (Op → ℕ) → List Plan → List Hold → OpId → ℕ
free_at place plans [] x = 0
free_at place plans (h ∷ hs) x =
    max (free_at place plans hs x)
    (if shares_place place x (op_at plans x) h.op (op_at plans h.op) then h.until else 0)

-- the holds of cpus, of the sending sides of NICs and of their receiving sides, the newest first
pub record Holds : Type 0 where
  pub plans : List Plan
  pub cpu : List Hold
  pub tx : List Hold
  pub rx : List Hold

-- when the cpu that x uses is free; the same for the sending and the receiving side of its NIC
abbrev pub cpu_free : Holds → OpId → ℕ
cpu_free r x = free_at (λ (o : Op). o.cpu) r.plans r.cpu x

abbrev pub tx_free : Holds → OpId → ℕ
tx_free r x = free_at (λ (o : Op). o.nic) r.plans r.tx x

abbrev pub rx_free : Holds → OpId → ℕ
rx_free r x = free_at (λ (o : Op). o.nic) r.plans r.rx x

-- adds a hold of what x uses
abbrev pub hold : OpId → ℕ → Hold
hold x until = record { op = x; until = until }

abbrev pub hold_cpu : Holds → OpId → ℕ → Holds
hold_cpu r x until = record r { cpu = hold x until ∷ r.cpu }

abbrev pub hold_tx : Holds → OpId → ℕ → Holds
hold_tx r x until = record r { tx = hold x until ∷ r.tx }

abbrev pub hold_rx : Holds → OpId → ℕ → Holds
hold_rx r x until = record r { rx = hold x until ∷ r.rx }

-- no holds
abbrev pub unheld : List Plan → Holds
unheld plans = record { plans = plans; cpu = []; tx = []; rx = [] }

-- The same schedule, and each cpu and each side of a NIC is free at the same time. `Resources` keeps one time for each
-- of them. Its value in contracts has a hold of each operation until the time of what it uses. It does not have the
-- holds that were made, but everything is free at the same times.
pub record SameFreeTimes (r s : Holds) : Type 0 where
  pub plans : r.plans ≡ s.plans
  pub cpu : (x : OpId) → cpu_free r x ≡ cpu_free s x
  pub tx : (x : OpId) → tx_free r x ≡ tx_free s x
  pub rx : (x : OpId) → rx_free r x ≡ rx_free s x
