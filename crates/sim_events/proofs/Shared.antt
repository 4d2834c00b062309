-- How often stations change their places where all operations of a rank use one cpu, or all its messages one NIC.
use Rattle.std.proofs.Common.{◌≡◌, ◌⊎◌, ◌≤◌, ◌+◌, ◌*◌, ◌==◌, ◌&&◌, ◌++◌, ℕ, suc, min, Bool, true, false, cond, List, [], ◌∷◌, length, Option, Some, None, slice_get, if◌then◌else◌, eq-eqb, refl, sym, ap, ◌∙◌, subst, arith, inl, inr}
use Rattle.std.specs.List.{fold, list_any, sum_by, count_by}
use Rattle.std.proofs.Math.Nat.{mul-le-mul_right}
use Rattle.std.proofs.lemmas.Bool.{and_parts, and_from, both_ways, cases_Bool, eqb-true, or_cases}
use Rattle.std.proofs.lemmas.List.{length-append}
use Rattle.std.proofs.lemmas.List.Sums.{sum_by-cons}
use Rattle.std.proofs.lemmas.Option.{same_Some, slice_get_within, get_or_from_slice_get}
use Rattle.goal_graph.specs.declared.action.OpId.{OpId}
use Rattle.goal_graph.specs.declared.action.Timed.{Timed}
use Rattle.goal_graph.specs.declared.plan.Kind.{Kind}
use Rattle.goal_graph.specs.declared.plan.Kind.TheVariants.{Calc, Send, Recv}
use Rattle.goal_graph.specs.declared.plan.Op.{Op}
use Rattle.goal_graph.specs.Fault.{is_calc}
use Rattle.goal_graph.specs.Schedule.{Plan, operations, op_at}
use Rattle.goal_graph.proofs.ForCallers.{listed_op}
use Rattle.sim_params.specs.Costs.{CostModel}
use Rattle.sim_params.specs.Run.{IsRun}
use Rattle.sim_params.proofs.ForCallers.{run_length}
use Rattle.sim_resources.proofs.ForCallers.{appended_or_earlier, list_any_from_witness, same_station_true, same_station_from}
use Rattle.sim_stations.specs.Stations.{holds_cpu}
use Rattle.sim_resources.specs.declared.station.Station.{Station}
use Rattle.sim_resources.specs.Numbering.{AreOnce}
use Rattle.sim_events.specs.Cost.{station_by, station_of, station_as, cpu_alone, side_by, side_alone, same_station, with_station, stations_among, holds_as, times_held, most_moves, cost_of_start, cost_of_run}
use Rattle.sim_events.specs.Laws.{HasOneCpu, HasOneNic, IsOneWide, MovesAreFew, RunsAreCheap}
use Rattle.sim_events.proofs.Changes.{listed_station_is_of_op, with_station_of_op}

-- each station is listed once
with_station_stays_once : (stations : List Station) (s : Station) → AreOnce stations → AreOnce (with_station stations s)
with_station_stays_once stations s once i j t = go (list_any (same_station s) stations) refl
  where
    go : (b : Bool) → list_any (same_station s) stations ≡ b → slice_get (if b then stations else stations ++ s ∷ []) i ≡ Some t → slice_get (if b then stations else stations ++ s ∷ []) j ≡ Some t → i ≡ j
    go true e at_i at_j = once i j t at_i at_j
    go false e at_i at_j = both (appended_or_earlier stations s i t at_i) (appended_or_earlier stations s j t at_j)
      where
        new : (n : ℕ) → slice_get stations n ≡ Some t → t ≡ s → ⊥
        new n at own = both_ways _ e (list_any_from_witness (same_station s) stations n t at (same_station_from s t (sym own)))

        both : (slice_get stations i ≡ Some t) ⊎ ((i ≡ length stations) × (t ≡ s)) → (slice_get stations j ≡ Some t) ⊎ ((j ≡ length stations) × (t ≡ s)) → i ≡ j
        both (inl f) (inl g) = once i j t f g
        both (inl f) (inr g) = absurd (new i f g.1)
        both (inr f) (inl g) = absurd (new j g f.1)
        both (inr f) (inr g) = f.0 ∙ sym g.0

module _ (plans : List Plan) where
  folded_stations_are_once : (ops : List OpId) (stations : List Station) → AreOnce stations → AreOnce (fold (with_station_of_op plans) stations ops)
  folded_stations_are_once [] stations once = once
  folded_stations_are_once (x ∷ ops) stations once = folded_stations_are_once ops (with_station_of_op plans stations x) (with_station_stays_once stations (station_as x (op_at plans x)) once)

  with_station_adds_at_most_one : (stations : List Station) (s : Station) → length (with_station stations s) ≤ length stations + 1
  with_station_adds_at_most_one stations s = go (list_any (same_station s) stations)
    where
      go : (b : Bool) → length (if b then stations else stations ++ s ∷ []) ≤ length stations + 1
      go true = omega arith
      go false = omega (arith, length-append stations (s ∷ []))

  fold_adds_one_per_op_at_most : (ops : List OpId) (stations : List Station) → length (fold (with_station_of_op plans) stations ops) ≤ length stations + length ops
  fold_adds_one_per_op_at_most [] stations = omega arith
  fold_adds_one_per_op_at_most (x ∷ ops) stations = omega (arith, fold_adds_one_per_op_at_most ops (with_station_of_op plans stations x), with_station_adds_at_most_one stations (station_as x (op_at plans x)))

  stations_once : AreOnce (stations_among plans (operations plans))
  stations_once = folded_stations_are_once (operations plans) [] (λ i j s e f. absurd (omega (arith, slice_get_within [] i s e)))

-- how many pass a test
abbrev one : Bool → ℕ
one b = cond b 1 0

count_of_one_and_rest : (test : Station → Bool) (x : Station) (xs : List Station) → count_by test (x ∷ xs) ≡ one (test x) + count_by test xs
count_of_one_and_rest test x xs = sum_by-cons (λ (s : Station). cond (test s) 1 0) x xs

none_pass_counts_zero : (test : Station → Bool) (xs : List Station) → ((i : ℕ) (s : Station) → slice_get xs i ≡ Some s → test s ≡ false) → count_by test xs ≡ 0
none_pass_counts_zero test [] none = refl
none_pass_counts_zero test (x ∷ xs) none =
    omega (arith, count_of_one_and_rest test x xs, ap one (none 0 x refl), none_pass_counts_zero test xs (λ i s e. none (suc i) s e))

-- a test that no two of them pass
one_passes_counts_one_at_most : (test : Station → Bool) (xs : List Station) → AreOnce xs → ((i j : ℕ) (s t : Station) → slice_get xs i ≡ Some s → slice_get xs j ≡ Some t → test s ≡ true → test t ≡ true → s ≡ t) → count_by test xs ≤ 1
one_passes_counts_one_at_most test [] once same = omega arith
one_passes_counts_one_at_most test (x ∷ xs) once same =
    go (cases_Bool (test x)) (one_passes_counts_one_at_most test xs (λ i j s e f. rest i j s e f) (λ i j s t e f. same (suc i) (suc j) s t e f))
  where
    rest : (i j : ℕ) (s : Station) → slice_get xs i ≡ Some s → slice_get xs j ≡ Some s → i ≡ j
    rest i j s e f = let both = once (suc i) (suc j) s e f in omega (arith, both)

    go : (test x ≡ true) ⊎ (test x ≡ false) → count_by test xs ≤ 1 → count_by test (x ∷ xs) ≤ 1
    go (inl t) few = omega (arith, count_of_one_and_rest test x xs, ap one t, none_pass_counts_zero test xs others)
      where
        others : (i : ℕ) (s : Station) → slice_get xs i ≡ Some s → test s ≡ false
        others i s e = elim (cases_Bool (test s)) [
          | inl u ↦ (let first : x ≡ s = same 0 (suc i) x s refl e t u in absurd (omega (arith, once 0 (suc i) s (ap Some first) e)))
          | inr f ↦ f
        ]
    go (inr f) few = omega (arith, count_of_one_and_rest test x xs, ap one f, few)

-- 0 for the station of a calc, 1 for that of a send, 2 for that of a receive
abbrev side_by_number : Option ℕ → Option ℕ → ℕ
side_by_number None None = 0
side_by_number (Some n) r = 1
side_by_number None (Some n) = 2

abbrev side_number : Station → ℕ
side_number s = side_by_number s.sends s.receives

side_number_is_0_1_or_2 : (m r : Option ℕ) → (side_by_number m r ≡ 0) ⊎ ((side_by_number m r ≡ 1) ⊎ (side_by_number m r ≡ 2))
side_number_is_0_1_or_2 None None = inl refl
side_number_is_0_1_or_2 (Some n) r = inr (inl refl)
side_number_is_0_1_or_2 None (Some n) = inr (inr refl)

-- what passes a test, and has this side
abbrev of_side : ℕ → (Station → Bool) → Station → Bool
of_side n test s = test s && (side_number s == n)

of_side_from : (n : ℕ) (test : Station → Bool) (s : Station) → test s ≡ true → side_number s ≡ n → of_side n test s ≡ true
of_side_from n test s t e = and_from (test s) (side_number s == n) t (eq-eqb (side_number s) n e)

-- at most three stations pass a test that no two of one side pass
count_at_most_by_sides : (test : Station → Bool) (xs : List Station) → count_by test xs ≤ count_by (of_side 0 test) xs + (count_by (of_side 1 test) xs + count_by (of_side 2 test) xs)
count_at_most_by_sides test [] = omega arith
count_at_most_by_sides test (x ∷ xs) =
    omega (arith, here (cases_Bool (test x)), count_at_most_by_sides test xs, count_of_one_and_rest test x xs, count_of_one_and_rest (of_side 0 test) x xs, count_of_one_and_rest (of_side 1 test) x xs, count_of_one_and_rest (of_side 2 test) x xs)
  where
    by : test x ≡ true → (side_number x ≡ 0) ⊎ ((side_number x ≡ 1) ⊎ (side_number x ≡ 2)) → 1 ≤ one (of_side 0 test x) + (one (of_side 1 test x) + one (of_side 2 test x))
    by t (inl s) = omega (arith, ap one (of_side_from 0 test x t s))
    by t (inr (inl s)) = omega (arith, ap one (of_side_from 1 test x t s))
    by t (inr (inr s)) = omega (arith, ap one (of_side_from 2 test x t s))

    here : (test x ≡ true) ⊎ (test x ≡ false) → one (test x) ≤ one (of_side 0 test x) + (one (of_side 1 test x) + one (of_side 2 test x))
    here (inl t) = omega (arith, ap one t, by t (side_number_is_0_1_or_2 x.sends x.receives))
    here (inr f) = omega (arith, ap one f)

-- the stations of a rank that are for the cpu and NIC of an operation
abbrev calc_at : ℕ → Op → Station
calc_at rank p = record { rank = rank; cpu = Some p.cpu; sends = None; receives = None }

abbrev send_at : ℕ → Op → Station
send_at rank p = record { rank = rank; cpu = Some p.cpu; sends = Some p.nic; receives = None }

abbrev recv_at : ℕ → Op → Station
recv_at rank p = record { rank = rank; cpu = Some p.cpu; sends = None; receives = Some p.nic }

abbrev IsOneOf : ℕ → Op → Station → Type 0
IsOneOf rank p s = (s ≡ calc_at rank p) ⊎ ((s ≡ send_at rank p) ⊎ (s ≡ recv_at rank p))

-- two stations of one rank and cpu that differ by their side at most
same_cpu_same_calc_station : (x y : OpId) (o p : Op) → x.rank ≡ y.rank → o.cpu ≡ p.cpu → calc_at x.rank o ≡ calc_at y.rank p
same_cpu_same_calc_station x y o p r c = λ j. record { rank = r j; cpu = Some (c j); sends = None; receives = None }

same_cpu_and_nic_same_send_station : (x y : OpId) (o p : Op) → x.rank ≡ y.rank → o.cpu ≡ p.cpu → o.nic ≡ p.nic → send_at x.rank o ≡ send_at y.rank p
same_cpu_and_nic_same_send_station x y o p r c n = λ j. record { rank = r j; cpu = Some (c j); sends = Some (n j); receives = None }

same_cpu_and_nic_same_recv_station : (x y : OpId) (o p : Op) → x.rank ≡ y.rank → o.cpu ≡ p.cpu → o.nic ≡ p.nic → recv_at x.rank o ≡ recv_at y.rank p
same_cpu_and_nic_same_recv_station x y o p r c n = λ j. record { rank = r j; cpu = Some (c j); sends = None; receives = Some (n j) }

cpu_alone_is_calc_at : (y : OpId) (p : Op) (k : Kind) → cpu_alone (station_by y p k) ≡ calc_at y.rank p
cpu_alone_is_calc_at y p (Calc n) = refl
cpu_alone_is_calc_at y p (Send n t u) = refl
cpu_alone_is_calc_at y p (Recv n t u) = refl

side_rank : (s : Station) → (side_alone s).rank ≡ s.rank
side_rank s = go s.sends s.receives
  where
    go : (m r : Option ℕ) → (side_by s m r).rank ≡ s.rank
    go None None = refl
    go (Some n) r = refl
    go None (Some n) = refl

-- Two operations, of which an action of a third one holds what is charged for their stations.
module _ (plans : List Plan) (x y : OpId) (o p : Op) (is_o : op_at plans x ≡ Some o) (is_p : op_at plans y ≡ Some p) where
  -- their sides are one, where there is one cpu
  module _ (cpus : HasOneCpu plans y.rank) where
    same_rank_same_cpu : x.rank ≡ y.rank → o.cpu ≡ p.cpu
    same_rank_same_cpu r = cpus x y o p r refl is_o is_p

    by_cpu : (k : Kind) → side_alone (station_by x o k) ≡ calc_at y.rank p → IsOneOf y.rank p (station_by x o k)
    by_cpu (Calc n) e = let r = ap (λ (s : Station). s.rank) e in inl (same_cpu_same_calc_station x y o p r (same_rank_same_cpu r))
    by_cpu (Send n t u) e = let f = ap (λ (s : Station). s.cpu) e in absurd (cc)
    by_cpu (Recv n t u) e = let f = ap (λ (s : Station). s.cpu) e in absurd (cc)

    by_side : (k l : Kind) → side_alone (station_by x o k) ≡ side_alone (station_by y p l) → IsOneOf y.rank p (station_by x o k)
    by_side k (Calc n) e = by_cpu k e
    by_side (Calc m) (Send n t u) e = let r = ap (λ (s : Station). s.rank) e in inl (same_cpu_same_calc_station x y o p r (same_rank_same_cpu r))
    by_side (Calc m) (Recv n t u) e = let r = ap (λ (s : Station). s.rank) e in inl (same_cpu_same_calc_station x y o p r (same_rank_same_cpu r))
    by_side (Send m v w) (Send n t u) e =
        let r = ap (λ (s : Station). s.rank) e in
        inr (inl (same_cpu_and_nic_same_send_station x y o p r (same_rank_same_cpu r) (same_Some o.nic p.nic (ap (λ (s : Station). s.sends) e))))
    by_side (Send m v w) (Recv n t u) e = let f = ap (λ (s : Station). s.sends) e in absurd (cc)
    by_side (Recv m v w) (Send n t u) e = let f = ap (λ (s : Station). s.sends) e in absurd (cc)
    by_side (Recv m v w) (Recv n t u) e =
        let r = ap (λ (s : Station). s.rank) e in
        inr (inr (same_cpu_and_nic_same_recv_station x y o p r (same_rank_same_cpu r) (same_Some o.nic p.nic (ap (λ (s : Station). s.receives) e))))

  -- their cpus are one
  side_that_is_cpu_is_own_cpu : (l : Kind) → calc_at x.rank o ≡ side_alone (station_by y p l) → calc_at x.rank o ≡ calc_at y.rank p
  side_that_is_cpu_is_own_cpu (Calc n) e = e
  side_that_is_cpu_is_own_cpu (Send n t u) e = let f = ap (λ (s : Station). s.cpu) e in absurd (cc)
  side_that_is_cpu_is_own_cpu (Recv n t u) e = let f = ap (λ (s : Station). s.cpu) e in absurd (cc)

  -- then they have one station where their sides are of one kind, and messages use one NIC
  module _ (rank : ℕ) (at_x : x.rank ≡ rank) (at_y : y.rank ≡ rank) (nics : HasOneNic plans rank) (c : o.cpu ≡ p.cpu) where
    r : x.rank ≡ y.rank
    r = at_x ∙ sym at_y

    messages_use_one_nic : is_calc o.kind ≡ false → is_calc p.kind ≡ false → o.nic ≡ p.nic
    messages_use_one_nic = nics x y o p at_x at_y is_o is_p

    same_side_same_station : (k l : Kind) → o.kind ≡ k → p.kind ≡ l → side_number (station_by x o k) ≡ side_number (station_by y p l) → station_by x o k ≡ station_by y p l
    same_side_same_station (Calc m) (Calc n) e f same = same_cpu_same_calc_station x y o p r c
    same_side_same_station (Send m v w) (Send n t u) e f same = same_cpu_and_nic_same_send_station x y o p r c (messages_use_one_nic (ap is_calc e) (ap is_calc f))
    same_side_same_station (Recv m v w) (Recv n t u) e f same = same_cpu_and_nic_same_recv_station x y o p r c (messages_use_one_nic (ap is_calc e) (ap is_calc f))
    same_side_same_station (Calc m) (Send n t u) e f same = absurd (omega (arith, same))
    same_side_same_station (Calc m) (Recv n t u) e f same = absurd (omega (arith, same))
    same_side_same_station (Send m v w) (Calc n) e f same = absurd (omega (arith, same))
    same_side_same_station (Send m v w) (Recv n t u) e f same = absurd (omega (arith, same))
    same_side_same_station (Recv m v w) (Calc n) e f same = absurd (omega (arith, same))
    same_side_same_station (Recv m v w) (Send n t u) e f same = absurd (omega (arith, same))

-- of three stations those of one side are one
same_side_is_same_of_three : (rank : ℕ) (p : Op) (s t : Station) → IsOneOf rank p s → IsOneOf rank p t → side_number s ≡ side_number t → s ≡ t
same_side_is_same_of_three rank p s t a b same = go a b
  where
    number : (u : Station) (n : ℕ) (v : Station) → u ≡ v → side_number v ≡ n → side_number u ≡ n
    number u n v e f = ap side_number e ∙ f

    go : IsOneOf rank p s → IsOneOf rank p t → s ≡ t
    go (inl e) (inl f) = e ∙ sym f
    go (inr (inl e)) (inr (inl f)) = e ∙ sym f
    go (inr (inr e)) (inr (inr f)) = e ∙ sym f
    go (inl e) (inr (inl f)) = absurd (omega (arith, same, number s 0 (calc_at rank p) e refl, number t 1 (send_at rank p) f refl))
    go (inl e) (inr (inr f)) = absurd (omega (arith, same, number s 0 (calc_at rank p) e refl, number t 2 (recv_at rank p) f refl))
    go (inr (inl e)) (inl f) = absurd (omega (arith, same, number s 1 (send_at rank p) e refl, number t 0 (calc_at rank p) f refl))
    go (inr (inl e)) (inr (inr f)) = absurd (omega (arith, same, number s 1 (send_at rank p) e refl, number t 2 (recv_at rank p) f refl))
    go (inr (inr e)) (inl f) = absurd (omega (arith, same, number s 2 (recv_at rank p) e refl, number t 0 (calc_at rank p) f refl))
    go (inr (inr e)) (inr (inl f)) = absurd (omega (arith, same, number s 2 (recv_at rank p) e refl, number t 1 (send_at rank p) f refl))

-- what a station is charged with: its side where its rank has one cpu, or its cpu
abbrev charged_by : {P Q : Type 0} → P ⊎ Q → Station → Station
charged_by (inl cpus) s = side_alone s
charged_by (inr nics) s = cpu_alone s

charged_rank : {P Q : Type 0} (w : P ⊎ Q) (s : Station) → (charged_by w s).rank ≡ s.rank
charged_rank (inl cpus) s = side_rank s
charged_rank (inr nics) s = refl

station_has_rank_of_op : (x : OpId) (o : Op) → (station_of x o).rank ≡ x.rank
station_has_rank_of_op x o = go o.kind
  where
    go : (k : Kind) → (station_by x o k).rank ≡ x.rank
    go (Calc n) = refl
    go (Send n t u) = refl
    go (Recv n t u) = refl

-- the operation that has a station
record IsStationOf (plans : List Plan) (s : Station) : Type 0 where
  op : OpId
  about : Op
  there : op_at plans op ≡ Some about
  is : s ≡ station_of op about

module _ (plans : List Plan) (wide : IsOneWide plans) where
  abbrev charged : Station → Station
  charged s = charged_by (wide s.rank) s

  lesser_times_at_most_charged : (h : List Timed) (s : Station) → min (times_held plans h (cpu_alone s)) (times_held plans h (side_alone s)) ≤ times_held plans h (charged s)
  lesser_times_at_most_charged h s = go (wide s.rank)
    where
      go : (w : HasOneCpu plans s.rank ⊎ HasOneNic plans s.rank) → min (times_held plans h (cpu_alone s)) (times_held plans h (side_alone s)) ≤ times_held plans h (charged_by w s)
      go (inl cpus) = omega arith
      go (inr nics) = omega arith

  -- an action is charged to one station of each side
  module _ (a : Timed) (p : Op) (is_p : op_at plans a.op ≡ Some p) where
    held_is_cpu_or_side : (r : Station) → holds_as r a (Some p) ≡ true → (cpu_alone (station_of a.op p) ≡ r) ⊎ (side_alone (station_of a.op p) ≡ r)
    held_is_cpu_or_side r t = elim (or_cases (same_station (cpu_alone (station_of a.op p)) r) (same_station (side_alone (station_of a.op p)) r) (and_parts (holds_cpu a.class) _ t).1) [
      | inl c ↦ inl (same_station_true (cpu_alone (station_of a.op p)) r c)
      | inr s ↦ inr (same_station_true (side_alone (station_of a.op p)) r s)
    ]

    held_is_on_rank_of_action : (r : Station) → (cpu_alone (station_of a.op p) ≡ r) ⊎ (side_alone (station_of a.op p) ≡ r) → r.rank ≡ a.op.rank
    held_is_on_rank_of_action r (inl e) = sym (ap (λ (s : Station). s.rank) e) ∙ station_has_rank_of_op a.op p
    held_is_on_rank_of_action r (inr e) = sym (ap (λ (s : Station). s.rank) e) ∙ side_rank (station_of a.op p) ∙ station_has_rank_of_op a.op p

    -- on the rank of the action
    charged_is_on_rank_of_action : (s : Station) → holds_as (charged s) a (Some p) ≡ true → s.rank ≡ a.op.rank
    charged_is_on_rank_of_action s t = sym (charged_rank (wide s.rank) s) ∙ held_is_on_rank_of_action (charged s) (held_is_cpu_or_side (charged s) t)

    charged_by_width_of_rank : (s : Station) → holds_as (charged s) a (Some p) ≡ true → holds_as (charged_by (wide a.op.rank) s) a (Some p) ≡ true
    charged_by_width_of_rank s t = subst (λ (n : ℕ). holds_as (charged_by (wide n) s) a (Some p) ≡ true) (charged_is_on_rank_of_action s t) t

    module _ (x : OpId) (o : Op) (is_o : op_at plans x ≡ Some o) where
      -- by its side
      by_its_side : HasOneCpu plans a.op.rank → (cpu_alone (station_of a.op p) ≡ side_alone (station_of x o)) ⊎ (side_alone (station_of a.op p) ≡ side_alone (station_of x o)) → IsOneOf a.op.rank p (station_of x o)
      by_its_side cpus (inl e) = by_cpu plans x a.op o p is_o is_p cpus o.kind (sym e ∙ cpu_alone_is_calc_at a.op p p.kind)
      by_its_side cpus (inr e) = by_side plans x a.op o p is_o is_p cpus o.kind p.kind (sym e)

      -- by its cpu
      by_its_cpu : (cpu_alone (station_of a.op p) ≡ cpu_alone (station_of x o)) ⊎ (side_alone (station_of a.op p) ≡ cpu_alone (station_of x o)) → calc_at x.rank o ≡ calc_at a.op.rank p
      by_its_cpu (inl e) = sym (cpu_alone_is_calc_at x o o.kind) ∙ sym e ∙ cpu_alone_is_calc_at a.op p p.kind
      by_its_cpu (inr e) = side_that_is_cpu_is_own_cpu plans x a.op o p is_o is_p p.kind (sym (cpu_alone_is_calc_at x o o.kind) ∙ sym e)

    -- two stations of one side that the action is charged to are one
    module _ (x y : OpId) (o q : Op) (is_o : op_at plans x ≡ Some o) (is_q : op_at plans y ≡ Some q) where
      charged_ops_have_same_station : (w : HasOneCpu plans a.op.rank ⊎ HasOneNic plans a.op.rank) → holds_as (charged_by w (station_of x o)) a (Some p) ≡ true → holds_as (charged_by w (station_of y q)) a (Some p) ≡ true → side_number (station_of x o) ≡ side_number (station_of y q) → station_of x o ≡ station_of y q
      charged_ops_have_same_station (inl cpus) e f same =
          same_side_is_same_of_three a.op.rank p (station_of x o) (station_of y q) (by_its_side x o is_o cpus (held_is_cpu_or_side (side_alone (station_of x o)) e)) (by_its_side y q is_q cpus (held_is_cpu_or_side (side_alone (station_of y q)) f)) same
      charged_ops_have_same_station (inr nics) e f same =
          let at_x = by_its_cpu x o is_o (held_is_cpu_or_side (cpu_alone (station_of x o)) e) in
          let at_y = by_its_cpu y q is_q (held_is_cpu_or_side (cpu_alone (station_of y q)) f) in
          let cpus : Some o.cpu ≡ Some q.cpu = ap (λ (s : Station). s.cpu) at_x ∙ sym (ap (λ (s : Station). s.cpu) at_y) in
          same_side_same_station plans x y o q is_o is_q a.op.rank (ap (λ (s : Station). s.rank) at_x) (ap (λ (s : Station). s.rank) at_y) nics (same_Some o.cpu q.cpu cpus) o.kind q.kind refl refl same

    charged_of_one_side_is_same : (s t : Station) → IsStationOf plans s → IsStationOf plans t → holds_as (charged s) a (Some p) ≡ true → holds_as (charged t) a (Some p) ≡ true → side_number s ≡ side_number t → s ≡ t
    charged_of_one_side_is_same s t u v e f same = u.is ∙ charged_ops_have_same_station u.op v.op u.about v.about u.there v.there (wide a.op.rank) first second sides ∙ sym v.is
      where
        first : holds_as (charged_by (wide a.op.rank) (station_of u.op u.about)) a (Some p) ≡ true
        first = subst (λ (z : Station). holds_as (charged_by (wide a.op.rank) z) a (Some p) ≡ true) u.is (charged_by_width_of_rank s e)

        second : holds_as (charged_by (wide a.op.rank) (station_of v.op v.about)) a (Some p) ≡ true
        second = subst (λ (z : Station). holds_as (charged_by (wide a.op.rank) z) a (Some p) ≡ true) v.is (charged_by_width_of_rank t f)

        sides : side_number (station_of u.op u.about) ≡ side_number (station_of v.op v.about)
        sides = sym (ap side_number u.is) ∙ same ∙ ap side_number v.is

module _ (plans : List Plan) (wide : IsOneWide plans) where
  -- what is listed is the station of an operation
  listed_station_has_op : (i : ℕ) (s : Station) → slice_get (stations_among plans (operations plans)) i ≡ Some s → IsStationOf plans s
  listed_station_has_op i s at =
      let one = listed_station_is_of_op plans (operations plans) s i at in
      let listed = listed_op plans one.op (one.slot, slice_get_within (operations plans) one.slot one.op one.at, get_or_from_slice_get (operations plans) one.slot one.op one.op one.at) in
      record { op = one.op; about = listed.op; there = listed.is; is = one.is ∙ ap (station_as one.op) listed.is }

  -- what an action of an operation holds is charged to a station
  abbrev is_charged : Timed → Op → Station → Bool
  is_charged a p s = holds_as (charged plans wide s) a (Some p)

  charged_once_per_side : (a : Timed) (p : Op) → op_at plans a.op ≡ Some p → (n : ℕ) → count_by (of_side n (is_charged a p)) (stations_among plans (operations plans)) ≤ 1
  charged_once_per_side a p is n =
      one_passes_counts_one_at_most (of_side n (is_charged a p)) (stations_among plans (operations plans)) (stations_once plans) same
    where
      same : (i j : ℕ) (s t : Station) → slice_get (stations_among plans (operations plans)) i ≡ Some s → slice_get (stations_among plans (operations plans)) j ≡ Some t → of_side n (is_charged a p) s ≡ true → of_side n (is_charged a p) t ≡ true → s ≡ t
      same i j s t at_s at_t e f =
          let u = and_parts (is_charged a p s) (side_number s == n) e in
          let v = and_parts (is_charged a p t) (side_number t == n) f in
          charged_of_one_side_is_same plans wide a p is s t (listed_station_has_op i s at_s) (listed_station_has_op j t at_t) u.0 v.0 (eqb-true (side_number s) n u.1 ∙ sym (eqb-true (side_number t) n v.1))

  charges_three_stations_at_most : (a : Timed) → count_by (λ s. holds_as (charged plans wide s) a (op_at plans a.op)) (stations_among plans (operations plans)) ≤ 3
  charges_three_stations_at_most a = go (op_at plans a.op) refl
    where
      go : (q : Option Op) → op_at plans a.op ≡ q → count_by (λ s. holds_as (charged plans wide s) a q) (stations_among plans (operations plans)) ≤ 3
      go None is = omega (arith, none_pass_counts_zero (λ s. false) (stations_among plans (operations plans)) (λ i s e. refl))
      go (Some p) is =
          omega (arith, count_at_most_by_sides (is_charged a p) (stations_among plans (operations plans)), charged_once_per_side a p is 0, charged_once_per_side a p is 1, charged_once_per_side a p is 2)

  -- what an action adds to all of them
  charge_after_action : (a : Timed) (h : List Timed) (xs : List Station) → sum_by (λ s. times_held plans (a ∷ h) (charged plans wide s)) xs ≡ count_by (λ s. holds_as (charged plans wide s) a (op_at plans a.op)) xs + sum_by (λ s. times_held plans h (charged plans wide s)) xs
  charge_after_action a h [] = refl
  charge_after_action a h (x ∷ xs) =
      omega (arith, charge_after_action a h xs, sum_by-cons (λ s. times_held plans (a ∷ h) (charged plans wide s)) x xs, sum_by-cons (λ s. times_held plans h (charged plans wide s)) x xs, count_of_one_and_rest (λ s. holds_as (charged plans wide s) a (op_at plans a.op)) x xs, sum_by-cons (λ (b : Timed). cond (holds_as (charged plans wide x) b (op_at plans b.op)) 1 0) a h)

  no_action_charges_nothing : (xs : List Station) → sum_by (λ s. times_held plans [] (charged plans wide s)) xs ≡ 0
  no_action_charges_nothing [] = refl
  no_action_charges_nothing (x ∷ xs) = omega (arith, no_action_charges_nothing xs, sum_by-cons (λ s. times_held plans [] (charged plans wide s)) x xs)

  charges_at_most_three_per_action : (h : List Timed) → sum_by (λ s. times_held plans h (charged plans wide s)) (stations_among plans (operations plans)) ≤ 3 * length h
  charges_at_most_three_per_action [] = omega (arith, no_action_charges_nothing (stations_among plans (operations plans)))
  charges_at_most_three_per_action (a ∷ h) =
      omega (arith, charges_at_most_three_per_action h, charge_after_action a h (stations_among plans (operations plans)), charges_three_stations_at_most a)

  moves_at_most_twice_charged : (h : List Timed) (xs : List Station) → sum_by (λ s. 1 + 2 * min (times_held plans h (cpu_alone s)) (times_held plans h (side_alone s))) xs ≤ length xs + 2 * sum_by (λ s. times_held plans h (charged plans wide s)) xs
  moves_at_most_twice_charged h [] = omega arith
  moves_at_most_twice_charged h (x ∷ xs) =
      omega (arith, moves_at_most_twice_charged h xs, lesser_times_at_most_charged plans wide h x, sum_by-cons (λ s. 1 + 2 * min (times_held plans h (cpu_alone s)) (times_held plans h (side_alone s))) x xs, sum_by-cons (λ s. times_held plans h (charged plans wide s)) x xs)

  most_moves_is_linear_in_actions : (h : List Timed) → most_moves plans h ≤ length (operations plans) + 6 * length h
  most_moves_is_linear_in_actions h =
      omega (arith, moves_at_most_twice_charged h (stations_among plans (operations plans)), charges_at_most_three_per_action h, fold_adds_one_per_op_at_most plans (operations plans) [])

  run_cost_is_linear_in_operations : (costs : CostModel) (h : List Timed) (k : ℕ) → IsRun plans costs h → cost_of_start k plans + cost_of_run k plans h ≤ length (operations plans) * (216 * k + 388) + 3
  run_cost_is_linear_in_operations costs h k run =
      let moves : most_moves plans h * (8 * k + 15) ≤ (length (operations plans) + 6 * length h) * (8 * k + 15) = mul-le-mul_right (8 * k + 15) (most_moves_is_linear_in_actions h) in
      let few : length h ≤ 3 * length (operations plans) = omega (arith, run_length plans costs h run) in
      let actions : length h * (66 * k + 119) ≤ 3 * length (operations plans) * (66 * k + 119) = mul-le-mul_right (66 * k + 119) few in
      omega (arith, moves, actions)

pub moves_are_few : MovesAreFew
moves_are_few plans h wide = most_moves_is_linear_in_actions plans wide h

pub runs_are_cheap : RunsAreCheap
runs_are_cheap plans costs h k wide run = run_cost_is_linear_in_operations plans wide costs h k run
