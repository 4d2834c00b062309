-- Small schedules whose computed runs have the starts, ends and matches that were worked out by hand.
use Rattle.std.specs.Prelude.{ℕ, zero, suc, ◌≡◌, List, [], ◌∷◌, Option, Some, None, if◌then◌else◌, map, refl}
use Rattle.std.specs.List.{flat_map}
use Rattle.goal_graph.specs.declared.action.OpId.{OpId}
use Rattle.goal_graph.specs.declared.action.Timed.{Timed}
use Rattle.goal_graph.specs.declared.action.Why.{Why}
use Rattle.goal_graph.specs.declared.action.Why.TheVariants as why
use Rattle.goal_graph.specs.declared.action.Class.{Class}
use Rattle.goal_graph.specs.declared.action.Class.TheVariants.{Arrive, Serve, Data, Post, Begin}
use Rattle.goal_graph.specs.declared.plan.Kind.{Kind}
use Rattle.goal_graph.specs.declared.plan.Kind.TheVariants.{Calc, Send, Recv}
use Rattle.goal_graph.specs.declared.plan.Dep.{Dep}
use Rattle.goal_graph.specs.declared.plan.When.TheVariants.{AfterEnd, AfterStart}
use Rattle.goal_graph.specs.Schedule.{Plan, op_at, kind_at, deps_at, needs, places_of_rank, places_from, operations}
use Rattle.goal_graph.specs.Action.{happened, oldest, plain}
use Rattle.goal_graph.specs.Matching.{fits, pairs, partner}
use Rattle.goal_graph.specs.Allowed.{has_started, has_ended, is_ready, allowed}
use Rattle.sim_params.specs.Costs.{CostModel, Numbers, least_up_to, rounded_up, log_gops, is_eager}
use Rattle.sim_params.specs.Times.{since, greatest, cpu, tx, rx, start, end, ready, time}
use Rattle.goal_graph.specs.Order.{key}
use Rattle.goal_graph.specs.Keys.{less}
use Rattle.sim_params.specs.Stuck.{first_unmet, first_absent, reason}
use Rattle.sim_params.specs.Budget.{share, budget}

-- the default parameters
abbrev usual : Numbers
usual = record { latency = 2500; overhead = 1500; gap = 1000; gap_per_byte = 6; gap_picos = 0; overhead_per_byte = 0; overhead_picos = 0; sync = 65535 }

abbrev usual_costs : CostModel
usual_costs = log_gops usual

abbrev lesser : Timed → Option Timed → Option Timed
lesser a None = Some a
lesser a (Some b) = if less (key b) (key a) then Some b else Some a

unfoldable least : List Timed → Option Timed
least [] = None
least (a ∷ rest) = lesser a (least rest)

abbrev continue_or_stop : (Timed → List Timed) → List Timed → Option Timed → List Timed
continue_or_stop go h None = h
continue_or_stop go h (Some a) = go a

module _ (plans : List Plan) (costs : CostModel) where
  abbrev candidate : List Timed → OpId → Class → List Timed
  candidate h x class =
      if allowed plans (is_eager plans costs) (plain h) class x
      then record { time = time plans costs h class x; class = class; op = x } ∷ []
      else []

  abbrev candidates : List Timed → List Timed
  candidates h =
      flat_map (λ (x : OpId). flat_map (candidate h x) (Arrive ∷ Serve ∷ Data ∷ Post ∷ Begin ∷ [])) (operations plans)

  -- the run of at most n steps from a history
  unfoldable run_of : ℕ → List Timed → List Timed
  run_of zero h = h
  run_of (suc n) h = continue_or_stop (λ a. run_of n (a ∷ h)) h (least (candidates h))

  -- start, end and partner of an operation
  abbrev outcome_of : List Timed → OpId → (Option ℕ × Option ℕ × Option OpId)
  outcome_of h x =
      (if has_started plans x (plain h) then Some (start plans costs h x) else None, if has_ended plans (is_eager plans costs) x (plain h) then Some (end plans costs h x) else None, partner (pairs plans (plain h)) x)

  -- start, end and partner of each operation after the run
  abbrev outcome : List (Option ℕ × Option ℕ × Option OpId)
  outcome = map (outcome_of (run_of 20 [])) (operations plans)

abbrev at : ℕ → ℕ → OpId
at rank op = record { rank = rank; op = op }

abbrev plan : List Kind → Plan
plan kinds = record { ops = map (λ k. record { kind = k; cpu = 0; nic = 0 }) kinds; deps = []; notes = [] }

abbrev ordered : List Kind → List Dep → Plan
ordered kinds deps = record { ops = map (λ k. record { kind = k; cpu = 0; nic = 0 }) kinds; deps = deps; notes = [] }

-- a calc on a busy cpu waits
two_calcs : outcome (plan (Calc 100 ∷ Calc 100 ∷ []) ∷ []) usual_costs ≡ (Some 0, Some 100, None) ∷ (Some 100, Some 200, None) ∷ []
unfolding less least run_of op_at kind_at deps_at needs places_of_rank places_from happened oldest plain partner fits pairs is_ready allowed is_eager since greatest cpu tx rx ready time rounded_up least_up_to
two_calcs = refl

-- one message of `bytes` bytes
abbrev one_message : ℕ → List Plan
one_message bytes = plan (Send bytes 1 0 ∷ []) ∷ plan (Recv bytes (Some 0) (Some 0) ∷ []) ∷ []

abbrev ends_at : ℕ → ℕ → List (Option ℕ × Option ℕ × Option OpId)
ends_at m n = (Some 0, Some m, Some (at 1 0)) ∷ (Some 0, Some n, Some (at 0 0)) ∷ []

ten_bytes : outcome (one_message 10) usual_costs ≡ ends_at 1500 5554
unfolding less least run_of op_at kind_at deps_at needs places_of_rank places_from happened oldest plain partner fits pairs is_ready allowed is_eager since greatest cpu tx rx ready time rounded_up least_up_to
ten_bytes = refl

no_bytes : outcome (one_message 0) usual_costs ≡ ends_at 1500 5500
unfolding less least run_of op_at kind_at deps_at needs places_of_rank places_from happened oldest plain partner fits pairs is_ready allowed is_eager since greatest cpu tx rx ready time rounded_up least_up_to
no_bytes = refl

largest_eager : outcome (one_message 65535) usual_costs ≡ ends_at 1500 398704
unfolding less least run_of op_at kind_at deps_at needs places_of_rank places_from happened oldest plain partner fits pairs is_ready allowed is_eager since greatest cpu tx rx ready time rounded_up least_up_to
largest_eager = refl

-- Half a nanosecond per byte: the nine bytes after the first cost 4.5 ns, rounded up to 5.
abbrev half_gap : CostModel
half_gap = log_gops (record usual { gap_per_byte = 0; gap_picos = 500 })

half_gap_ends : outcome (one_message 10) half_gap ≡ ends_at 1500 5505
unfolding less least run_of op_at kind_at deps_at needs places_of_rank places_from happened oldest plain partner fits pairs is_ready allowed is_eager since greatest cpu tx rx ready time rounded_up least_up_to
half_gap_ends = refl

abbrev half_overhead : CostModel
half_overhead = log_gops (record usual { gap_per_byte = 0; overhead_picos = 500 })

half_overhead_ends : outcome (one_message 10) half_overhead ≡ ends_at 1505 5510
unfolding less least run_of op_at kind_at deps_at needs places_of_rank places_from happened oldest plain partner fits pairs is_ready allowed is_eager since greatest cpu tx rx ready time rounded_up least_up_to
half_overhead_ends = refl

-- One picosecond per byte: the 1000 bytes after the first cost 1 ns, and 1001 cost 2 ns.
abbrev finest_gap : CostModel
finest_gap = log_gops (record usual { gap_per_byte = 0; gap_picos = 1 })

finest_gap_ends : outcome (one_message 1001) finest_gap ≡ ends_at 1500 5501
unfolding less least run_of op_at kind_at deps_at needs places_of_rank places_from happened oldest plain partner fits pairs is_ready allowed is_eager since greatest cpu tx rx ready time rounded_up least_up_to
finest_gap_ends = refl

finest_gap_ends_later : outcome (one_message 1002) finest_gap ≡ ends_at 1500 5502
unfolding less least run_of op_at kind_at deps_at needs places_of_rank places_from happened oldest plain partner fits pairs is_ready allowed is_eager since greatest cpu tx rx ready time rounded_up least_up_to
finest_gap_ends_later = refl

-- one byte over the threshold S needs a handshake
smallest_rendezvous : outcome (one_message 65536) usual_costs ≡ ends_at 8000 405210
unfolding less least run_of op_at kind_at deps_at needs places_of_rank places_from happened oldest plain partner fits pairs is_ready allowed is_eager since greatest cpu tx rx ready time rounded_up least_up_to
smallest_rendezvous = refl

abbrev acts : List Timed → List (ℕ × Class × OpId)
acts h = map (λ (a : Timed). (a.time, a.class, a.op)) h

handshake : acts (run_of (one_message 65536) usual_costs 20 []) ≡ (403710, Serve, at 1 0) ∷ (6500, Data, at 0 0) ∷ (4000, Arrive, at 0 0) ∷ (0, Begin, at 0 0) ∷ (0, Post, at 1 0) ∷ []
unfolding less least run_of op_at kind_at deps_at needs places_of_rank places_from happened oldest plain partner fits pairs is_ready allowed is_eager since greatest cpu tx rx ready time rounded_up least_up_to
handshake = refl

-- the NIC is the bottleneck: a second send waits for the gap of the first
abbrev small_overhead : CostModel
small_overhead = log_gops (record usual { overhead = 100 })

two_sends : outcome (plan (Send 1 1 0 ∷ Send 1 1 0 ∷ []) ∷ plan (Recv 1 (Some 0) (Some 0) ∷ Recv 1 (Some 0) (Some 0) ∷ []) ∷ []) small_overhead ≡ (Some 0, Some 100, Some (at 1 0)) ∷ (Some 1000, Some 1100, Some (at 1 1)) ∷ (Some 0, Some 2700, Some (at 0 0)) ∷ (Some 0, Some 3700, Some (at 0 1)) ∷ []
unfolding less least run_of op_at kind_at deps_at needs places_of_rank places_from happened oldest plain partner fits pairs is_ready allowed is_eager since greatest cpu tx rx ready time rounded_up least_up_to
two_sends = refl

-- two messages arrive at 4000, and that of the lesser rank is matched first
equal_arrivals : outcome (plan (Recv 1 None (Some 0) ∷ Recv 1 None (Some 0) ∷ []) ∷ plan (Send 1 0 0 ∷ []) ∷ plan (Send 1 0 0 ∷ []) ∷ []) usual_costs ≡ (Some 0, Some 5500, Some (at 1 0)) ∷ (Some 0, Some 7000, Some (at 2 0)) ∷ (Some 0, Some 1500, Some (at 0 0)) ∷ (Some 0, Some 1500, Some (at 0 1)) ∷ []
unfolding less least run_of op_at kind_at deps_at needs places_of_rank places_from happened oldest plain partner fits pairs is_ready allowed is_eager since greatest cpu tx rx ready time rounded_up least_up_to
equal_arrivals = refl

-- of two receives that fit, a wildcard that was posted first takes the message
abbrev wildcard_first : List Plan
wildcard_first = plan (Send 10 1 7 ∷ []) ∷ plan (Recv 10 None None ∷ Recv 10 (Some 0) (Some 7) ∷ []) ∷ []

wildcard_takes : outcome wildcard_first usual_costs ≡ (Some 0, Some 1500, Some (at 1 0)) ∷ (Some 0, Some 5554, Some (at 0 0)) ∷ (Some 0, None, None) ∷ []
unfolding less least run_of op_at kind_at deps_at needs places_of_rank places_from happened oldest plain partner fits pairs is_ready allowed is_eager since greatest cpu tx rx ready time rounded_up least_up_to
wildcard_takes = refl

second_is_alone : reason wildcard_first (is_eager wildcard_first usual_costs) (plain (run_of wildcard_first usual_costs 20 [])) (at 1 1) ≡ why.Alone
unfolding less least run_of op_at kind_at deps_at needs places_of_rank places_from happened oldest plain partner fits pairs is_ready allowed is_eager since greatest cpu tx rx ready time first_unmet first_absent reason rounded_up least_up_to
second_is_alone = refl

-- Two ranks first send to each other by rendezvous, then receive. Both sends are stuck: each waits for the receive of the
-- other rank, which needs the send of its rank.
abbrev exchange : ℕ → ℕ → Plan
exchange bytes other =
    ordered (Send bytes other 0 ∷ Recv bytes (Some other) (Some 0) ∷ []) (record { later = 1; earlier = 0; when = AfterEnd } ∷ [])

abbrev face_to_face : ℕ → List Plan
face_to_face bytes = exchange bytes 1 ∷ exchange bytes 0 ∷ []

face_to_face_stuck : outcome (face_to_face 100000) usual_costs ≡ (Some 0, None, None) ∷ (None, None, None) ∷ (Some 0, None, None) ∷ (None, None, None) ∷ []
unfolding less least run_of op_at kind_at deps_at needs places_of_rank places_from happened oldest plain partner fits pairs is_ready allowed is_eager since greatest cpu tx rx ready time rounded_up least_up_to
face_to_face_stuck = refl

abbrev reasons : List Plan → List Why
reasons plans = map (reason plans (is_eager plans usual_costs) (plain (run_of plans usual_costs 20 []))) (operations plans)

face_to_face_reasons : reasons (face_to_face 100000) ≡ why.Partner (at 1 1) ∷ why.Op (at 0 0) ∷ why.Partner (at 0 1) ∷ why.Op (at 1 0) ∷ []
unfolding less least run_of op_at kind_at deps_at needs places_of_rank places_from happened oldest plain partner fits pairs is_ready allowed is_eager since greatest cpu tx rx ready time first_unmet first_absent reason rounded_up least_up_to
face_to_face_reasons = refl

-- eager sends in the same schedule complete
face_to_face_eager : outcome (face_to_face 10) usual_costs ≡ (Some 0, Some 1500, Some (at 1 1)) ∷ (Some 1500, Some 5554, Some (at 1 0)) ∷ (Some 0, Some 1500, Some (at 0 1)) ∷ (Some 1500, Some 5554, Some (at 0 0)) ∷ []
unfolding less least run_of op_at kind_at deps_at needs places_of_rank places_from happened oldest plain partner fits pairs is_ready allowed is_eager since greatest cpu tx rx ready time rounded_up least_up_to
face_to_face_eager = refl

-- `irequires` and `requires` differ: l2 may start with l1, l3 only after it
abbrev two_words : List Plan
two_words =
    record {
      ops = record { kind = Calc 100; cpu = 0; nic = 0 } ∷ record { kind = Calc 50; cpu = 1; nic = 0 } ∷ record { kind = Calc 10; cpu = 0; nic = 0 } ∷ [];
      deps = record { later = 1; earlier = 0; when = AfterStart } ∷ record { later = 2; earlier = 0; when = AfterEnd } ∷ [];
      notes = [];
    } ∷ []

two_words_run : outcome two_words usual_costs ≡ (Some 0, Some 100, None) ∷ (Some 0, Some 50, None) ∷ (Some 100, Some 110, None) ∷ []
unfolding less least run_of op_at kind_at deps_at needs places_of_rank places_from happened oldest plain partner fits pairs is_ready allowed is_eager since greatest cpu tx rx ready time rounded_up least_up_to
two_words_run = refl

-- the time budget of one message of the largest size at the largest costs per byte
abbrev largest_costs : CostModel
largest_costs = log_gops (record usual { gap_per_byte = 1048575; overhead_per_byte = 1048575 })

largest_budget : budget (one_message 1099511627775) largest_costs ≡ 5764602025465628250
unfolding budget share op_at kind_at places_of_rank places_from is_eager rounded_up least_up_to
largest_budget = refl

largest_message : outcome (one_message 1099511627775) largest_costs ≡ ends_at 1152920405093130050 2305840810186256100
unfolding less least run_of op_at kind_at deps_at needs places_of_rank places_from happened oldest plain partner fits pairs is_ready allowed is_eager since greatest cpu tx rx ready time rounded_up least_up_to
largest_message = refl
