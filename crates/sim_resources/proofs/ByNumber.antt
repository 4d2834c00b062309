-- Two numberings of one schedule give each operation the same two numbers, and a list of times has theirs.
use Rattle.std.proofs.Common.{ℕ, ◌≡◌, ◌<◌, List, Option, Some, None, length, slice_get, slice_index, get_or, refl, sym, ap, ◌∙◌, subst, arith}
use Rattle.std.proofs.lemmas.Option.{same_Some, slice_get_within, slice_get-get_or, get_or_from_slice_get}
use Rattle.goal_graph.specs.declared.action.OpId.{OpId}
use Rattle.goal_graph.specs.declared.plan.Kind.{Kind}
use Rattle.goal_graph.specs.declared.plan.Kind.TheVariants.{Calc, Send, Recv}
use Rattle.goal_graph.specs.declared.plan.Op.{Op}
use Rattle.goal_graph.specs.Schedule.{Plan, op_at, operations, IsSend, IsReceive}
use Rattle.goal_graph.specs.Fault.{IsOp}
use Rattle.goal_graph.proofs.ForCallers.{value_of_is_some, kind_from_op, listed_places}
use Rattle.sim_resources.specs.declared.pair.Pair.{Pair}
use Rattle.sim_resources.specs.declared.station.Station.{Station}
use Rattle.sim_resources.specs.declared.station.StationNumbers.{StationNumbers}
use Rattle.sim_resources.specs.FreeTimes.{Holds, cpu_free}
use Rattle.sim_resources.specs.Stations.{station_by, station_of, cpu_alone, side_alone, resources_among}
use Rattle.sim_resources.specs.Numbering.{AreNumbered, AreStationed}
use Rattle.sim_resources.specs.Held.{place_among, pair_of, cpu_number, side_number}
use Rattle.sim_resources.specs.ByNumber.{side_free_of, side_free, HasTimes, pair_in, AreTimesByNumber}
use Rattle.sim_resources.proofs.Placed.{index_is_place_among}
use Rattle.sim_resources.proofs.HoldLemmas.{seen, cpu_within, tx_within, rx_within, read_time_is_cpu_free, read_time_is_tx_free, read_time_is_rx_free}

-- an operation that only calculates has its cpu twice
calc_side_is_cpu : (x : OpId) (o : Op) (k : Kind) (n : ℕ) → o.kind ≡ k → k ≡ Calc n → side_alone (station_of x o) ≡ cpu_alone (station_of x o)
calc_side_is_cpu x o (Calc m) n e f = ap (λ (k : Kind). side_alone (station_by x o k)) e ∙ sym (ap (λ (k : Kind). cpu_alone (station_by x o k)) e)
calc_side_is_cpu x o (Send m t u) n e f = absurd (cc f)
calc_side_is_cpu x o (Recv m t u) n e f = absurd (cc f)

module _ (plans : List Plan) (slot : ℕ) (x : OpId) (o : Op) (at : slice_get (operations plans) slot ≡ Some x) (is : op_at plans x ≡ Some o) where
  module _ (numbers : List ℕ) (pairs : List Pair) (a : AreStationed plans numbers pairs) where
    pub has_station : slice_get a.stations (slice_index numbers slot) ≡ Some (station_of x o)
    has_station = a.are slot x o at is

    pub has_pair : slice_get pairs (slice_index numbers slot) ≡ Some (pair_in numbers pairs slot)
    has_pair =
        slice_get-get_or pairs (slice_index numbers slot) (record { cpu = 0; side = 0 })
        (omega (arith, slice_get_within a.stations (slice_index numbers slot) (station_of x o) has_station, a.numbering.each))

    pub has_cpu : slice_get a.resources (pair_in numbers pairs slot).cpu ≡ Some (cpu_alone (station_of x o))
    has_cpu = a.numbering.cpus (slice_index numbers slot) (station_of x o) (pair_in numbers pairs slot) has_station has_pair

    pub has_side : slice_get a.resources (pair_in numbers pairs slot).side ≡ Some (side_alone (station_of x o))
    has_side = a.numbering.sides (slice_index numbers slot) (station_of x o) (pair_in numbers pairs slot) has_station has_pair

    pub calc_has_one_number : (n : ℕ) → o.kind ≡ Calc n → (pair_in numbers pairs slot).side ≡ (pair_in numbers pairs slot).cpu
    calc_has_one_number n e =
        a.numbering.resources_once (pair_in numbers pairs slot).side (pair_in numbers pairs slot).cpu (cpu_alone (station_of x o)) (has_side ∙ ap Some (calc_side_is_cpu x o (Calc n) n e refl)) has_cpu

  module _ (numbers : List ℕ) (pairs : List Pair) (a : AreStationed plans numbers pairs) (others : List ℕ) (other_pairs : List Pair) (b : AreStationed plans others other_pairs) where
    same_resources : b.resources ≡ a.resources
    same_resources = b.numbering.listed ∙ ap resources_among (b.listed ∙ sym a.listed) ∙ sym a.numbering.listed

    pub same_cpu_number : (pair_in numbers pairs slot).cpu ≡ (pair_in others other_pairs slot).cpu
    same_cpu_number =
        a.numbering.resources_once (pair_in numbers pairs slot).cpu (pair_in others other_pairs slot).cpu (cpu_alone (station_of x o)) (has_cpu numbers pairs a)
        (ap (λ (rs : List Station). slice_get rs (pair_in others other_pairs slot).cpu) (sym same_resources) ∙ has_cpu others other_pairs b)

    pub same_side_number : (pair_in numbers pairs slot).side ≡ (pair_in others other_pairs slot).side
    same_side_number =
        a.numbering.resources_once (pair_in numbers pairs slot).side (pair_in others other_pairs slot).side (side_alone (station_of x o)) (has_side numbers pairs a)
        (ap (λ (rs : List Station). slice_get rs (pair_in others other_pairs slot).side) (sym same_resources) ∙ has_side others other_pairs b)

module _ (plans : List Plan) (s : StationNumbers) (n : AreNumbered plans s) (free : List ℕ) (whole : length free ≡ s.resources) (slot : ℕ) (x : OpId) (at : slice_get (operations plans) slot ≡ Some x) where
  -- what a contract sees
  abbrev r : Holds
  r = seen plans s n free

  own_pair : pair_of plans s x ≡ pair_in s.numbers.items s.pairs.items slot
  own_pair = ap (pair_in s.numbers.items s.pairs.items) (index_is_place_among plans slot x at)

  is_op : IsOp plans x
  is_op = (listed_places plans x).0 (slot, slice_get_within (operations plans) slot x at, get_or_from_slice_get (operations plans) slot x x at)

  -- the time that is at a number
  at_number : (number t : ℕ) → number < length free → get_or free number 0 ≡ t → slice_get free number ≡ Some t
  at_number number t within e = slice_get-get_or free number 0 within ∙ ap Some e

  read_at : (number : ℕ) (t : ℕ) → slice_get free number ≡ Some t → get_or free number 0 ≡ t
  read_at number t e = get_or_from_slice_get free number t 0 e

  cpu_at_number : slice_get free (cpu_number plans s x) ≡ Some (cpu_free r x)
  cpu_at_number =
      at_number (cpu_number plans s x) (cpu_free r x) (cpu_within plans s n free whole r refl x is_op)
      (read_time_is_cpu_free plans s n free whole r refl x (get_or free (cpu_number plans s x) 0) is_op (read_at (cpu_number plans s x)))

  side_at_number : (o : Op) → op_at plans x ≡ Some o → (k : Kind) → o.kind ≡ k → slice_get free (side_number plans s x) ≡ Some (side_free r x)
  side_at_number o is (Calc nanos) e =
      let one : side_number plans s x ≡ cpu_number plans s x =
      ap (λ (p : Pair). p.side) own_pair ∙ calc_has_one_number plans slot x o at is s.numbers.items s.pairs.items n.stationed nanos e ∙ sym (ap (λ (p : Pair). p.cpu) own_pair) in
      ap (slice_get free) one ∙ cpu_at_number ∙ ap Some (sym (ap (side_free_of r x) (kind_from_op plans x o (Calc nanos) is e)))
  side_at_number o is (Send bytes to tag) e =
      let kind = kind_from_op plans x o (Send bytes to tag) is e in
      let send : IsSend plans x = record { bytes = bytes; to = to; tag = tag; kind = kind } in
      at_number (side_number plans s x) (side_free r x) (tx_within plans s n free whole r refl x send)
      (read_time_is_tx_free plans s n free whole r refl x (get_or free (side_number plans s x) 0) send (read_at (side_number plans s x)) ∙ sym (ap (side_free_of r x) kind))
  side_at_number o is (Recv room from tag) e =
      let kind = kind_from_op plans x o (Recv room from tag) is e in
      let receive : IsReceive plans x = record { room = room; from = from; tag = tag; kind = kind } in
      at_number (side_number plans s x) (side_free r x) (rx_within plans s n free whole r refl x receive)
      (read_time_is_rx_free plans s n free whole r refl x (get_or free (side_number plans s x) 0) receive (read_at (side_number plans s x)) ∙ sym (ap (side_free_of r x) kind))

  pub times_by_any_number : (numbers : List ℕ) (pairs : List Pair) → AreStationed plans numbers pairs → HasTimes free (pair_in numbers pairs slot) (cpu_free r x) (side_free r x)
  times_by_any_number numbers pairs a =
      let o = value_of_is_some (op_at plans x) is_op in
      record {
        cpu_time =
            ap (slice_get free) (same_cpu_number plans slot x o.0 at o.1 numbers pairs a s.numbers.items s.pairs.items n.stationed ∙ sym (ap (λ (p : Pair). p.cpu) own_pair))
            ∙ cpu_at_number;
        side_time =
            ap (slice_get free) (same_side_number plans slot x o.0 at o.1 numbers pairs a s.numbers.items s.pairs.items n.stationed ∙ sym (ap (λ (p : Pair). p.side) own_pair))
            ∙ side_at_number o.0 o.1 o.0.kind refl;
      }
