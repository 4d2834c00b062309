-- The cpus and the sides of NICs have numbers: two operations have the same exactly if they share.
use Rattle.std.proofs.Common.{ℕ, zero, suc, ◌≡◌, ◌≢◌, ◌<◌, inl, inr, Bool, true, false, List, [], ◌∷◌, Contains, length, Some, None, slice_get, slice_index, get_or, filter, refl, sym, ap, ◌∙◌, arith, eq-eqb}
use Rattle.std.proofs.lemmas.Bool.{both_ways, and_from}
use Rattle.std.proofs.lemmas.Option.{same_Some, slice_get_within, slice_get-get_or, slice_get_read, get_or_from_slice_get}
use Rattle.goal_graph.specs.declared.action.OpId.{OpId}
use Rattle.goal_graph.specs.declared.plan.Kind.{Kind}
use Rattle.goal_graph.specs.declared.plan.Kind.TheVariants.{Calc, Send, Recv}
use Rattle.goal_graph.specs.declared.plan.Op.{Op}
use Rattle.goal_graph.specs.Schedule.{Plan, op_at, operations}
use Rattle.goal_graph.specs.Fault.{IsOp}
use Rattle.goal_graph.proofs.ForCallers.{same_or_different_op, value_of_is_some, contains_first, contains_more, is_some_from, listed_places, operation_has_one_place, same_op_from}
use Rattle.sim_resources.specs.declared.pair.Pair.{Pair}
use Rattle.sim_resources.specs.declared.station.Station.{Station}
use Rattle.sim_resources.specs.declared.station.StationNumbers.{StationNumbers}
use Rattle.sim_resources.specs.Stations.{station_by, station_of, cpu_alone, side_alone}
use Rattle.sim_resources.specs.Numbering.{AreNumbered}
use Rattle.sim_resources.specs.Held.{place_among, pair_of, cpu_number, side_number, kind_sends, kind_receives, sends, receives, senders, receivers, IsPlaced}
use Rattle.sim_resources.proofs.Shares.{shares_gives_share, shares-is}

-- an operation is at its index
listed_is_at_its_place : (xs : List OpId) (i : ℕ) (x : OpId) → slice_get xs i ≡ Some x → slice_get xs (place_among xs x) ≡ Some x
unfolding place_among
listed_is_at_its_place [] i x e = absurd (cc e)
listed_is_at_its_place (y ∷ ys) zero x e = rw (same_op_from y x (same_Some y x e)) e
listed_is_at_its_place (y ∷ ys) (suc i) x e =
    elim (same_or_different_op y x) [
      | inl same ↦ rw (same_op_from y x same) (ap Some same)
      | inr other ↦ rw other (listed_is_at_its_place ys i x e)
    ]

pub index_is_place_among : (plans : List Plan) (i : ℕ) (x : OpId) → slice_get (operations plans) i ≡ Some x → place_among (operations plans) x ≡ i
index_is_place_among plans i x e = operation_has_one_place plans _ i x (listed_is_at_its_place (operations plans) i x e) e

-- the index of each operation
pub op_is_at_its_place : (plans : List Plan) (x : OpId) → IsOp plans x → slice_get (operations plans) (place_among (operations plans) x) ≡ Some x
op_is_at_its_place plans x is_op =
    let c = (listed_places plans x).1 is_op in
    listed_is_at_its_place (operations plans) c.0 x (slice_get-get_or (operations plans) c.0 x c.1 ∙ ap Some c.2)

-- a filtered list has exactly the elements that pass
pub filtered_is_listed_and_passes : (test : OpId → Bool) (xs : List OpId) (x : OpId) → Contains (filter test xs) x → Contains xs x × (test x ≡ true)
filtered_is_listed_and_passes test [] x c = absurd (omega (arith, c.1))
filtered_is_listed_and_passes test (y ∷ ys) x c = go (test y) refl (filtered_is_listed_and_passes test ys x)
  where
    more : Contains ys x × (test x ≡ true) → Contains (y ∷ ys) x × (test x ≡ true)
    more r = (contains_more y ys x r.0, r.1)

    go : (b : Bool) → test y ≡ b → (Contains (filter test ys) x → Contains ys x × (test x ≡ true)) → Contains (y ∷ ys) x × (test x ≡ true)
    go false e rest = more (rest (rw e at c))
    go true e rest = first (rw e at c)
      where
        first : Contains (y ∷ filter test ys) x → Contains (y ∷ ys) x × (test x ≡ true)
        first (zero, b, f) = (contains_first y ys x f, ap test (sym f) ∙ e)
        first (suc k, b, f) = more (rest (k, omega (arith, b), f))

pub passing_is_in_filtered : (test : OpId → Bool) (xs : List OpId) (x : OpId) → Contains xs x → test x ≡ true → Contains (filter test xs) x
passing_is_in_filtered test [] x c e = absurd (omega (arith, c.1))
passing_is_in_filtered test (y ∷ ys) x (zero, b, f) e = rw (ap test f ∙ e) (contains_first y (filter test ys) x f)
passing_is_in_filtered test (y ∷ ys) x (suc k, b, f) e = go (test y) refl (passing_is_in_filtered test ys x (k, omega (arith, b), f) e)
  where
    go : (b : Bool) → test y ≡ b → Contains (filter test ys) x → Contains (filter test (y ∷ ys)) x
    go false p rest = rw p rest
    go true p rest = rw p (contains_more y (filter test ys) x rest)

-- the cpu, the sending side and the receiving side that an operation may use
abbrev pub cpu_at : OpId → Op → Station
cpu_at x o = record { rank = x.rank; cpu = Some o.cpu; sends = None; receives = None }

abbrev pub tx_at : OpId → Op → Station
tx_at x o = record { rank = x.rank; cpu = None; sends = Some o.nic; receives = None }

abbrev pub rx_at : OpId → Op → Station
rx_at x o = record { rank = x.rank; cpu = None; sends = None; receives = Some o.nic }

cpu_alone_is_cpu_at : (x : OpId) (o : Op) → cpu_alone (station_of x o) ≡ cpu_at x o
cpu_alone_is_cpu_at x o = go o.kind
  where
    go : (k : Kind) → cpu_alone (station_by x o k) ≡ cpu_at x o
    go (Calc n) = refl
    go (Send n t u) = refl
    go (Recv n t u) = refl

side_of_send_is_tx_at : (x : OpId) (o : Op) → kind_sends o.kind ≡ true → side_alone (station_of x o) ≡ tx_at x o
side_of_send_is_tx_at x o = go o.kind
  where
    go : (k : Kind) → kind_sends k ≡ true → side_alone (station_by x o k) ≡ tx_at x o
    go (Calc n) e = absurd (both_ways false refl e)
    go (Send n t u) e = refl
    go (Recv n t u) e = absurd (both_ways false refl e)

side_of_receive_is_rx_at : (x : OpId) (o : Op) → kind_receives o.kind ≡ true → side_alone (station_of x o) ≡ rx_at x o
side_of_receive_is_rx_at x o = go o.kind
  where
    go : (k : Kind) → kind_receives k ≡ true → side_alone (station_by x o k) ≡ rx_at x o
    go (Calc n) e = absurd (both_ways false refl e)
    go (Send n t u) e = absurd (both_ways false refl e)
    go (Recv n t u) e = refl

module _ (plans : List Plan) (s : StationNumbers) (n : AreNumbered plans s) where
  -- an operation that uses the resource of this number
  pub record Uses (of : OpId → Op → Station) (number : OpId → ℕ) (x : OpId) : Type 0 where
    pub op : Op
    pub op_is : op_at plans x ≡ Some op
    pub there : slice_get n.stationed.resources (number x) ≡ Some (of x op)
    pub within : number x < s.resources

  -- the number of an operation's station
  abbrev pub station : OpId → ℕ
  station x = slice_index s.numbers.items (place_among (operations plans) x)

  number_has_station_of : (x : OpId) (o : Op) → op_at plans x ≡ Some o → slice_get n.stationed.stations (station x) ≡ Some (station_of x o)
  number_has_station_of x o is =
      n.stationed.are (place_among (operations plans) x) x o (op_is_at_its_place plans x (is_some_from (op_at plans x) o is)) is

  number_has_pair_of : (x : OpId) (o : Op) → op_at plans x ≡ Some o → slice_get s.pairs.items (station x) ≡ Some (pair_of plans s x)
  number_has_pair_of x o is =
      slice_get-get_or s.pairs.items (station x) (record { cpu = 0; side = 0 })
      (omega (arith, slice_get_within n.stationed.stations (station x) (station_of x o) (number_has_station_of x o is), n.stationed.numbering.each))

  uses_cpu : (x : OpId) (o : Op) → op_at plans x ≡ Some o → Uses cpu_at (cpu_number plans s) x
  uses_cpu x o is = record {
    op = o;
    op_is = is;
    there = n.stationed.numbering.cpus (station x) (station_of x o) (pair_of plans s x) (number_has_station_of x o is) (number_has_pair_of x o is) ∙ ap Some (cpu_alone_is_cpu_at x o);
    within = (n.exist (station x) (pair_of plans s x) (number_has_pair_of x o is)).0;
  }

  uses_side : (of : OpId → Op → Station) (x : OpId) (o : Op) → op_at plans x ≡ Some o → side_alone (station_of x o) ≡ of x o → Uses of (side_number plans s) x
  uses_side of x o is side = record {
    op = o;
    op_is = is;
    there = n.stationed.numbering.sides (station x) (station_of x o) (pair_of plans s x) (number_has_station_of x o is) (number_has_pair_of x o is) ∙ ap Some side;
    within = (n.exist (station x) (pair_of plans s x) (number_has_pair_of x o is)).1;
  }

  pub operations_use_cpus : (x : OpId) → Contains (operations plans) x → Uses cpu_at (cpu_number plans s) x
  operations_use_cpus x c = let o = value_of_is_some (op_at plans x) ((listed_places plans x).0 c) in uses_cpu x o.0 o.1

  pub senders_use_tx_sides : (x : OpId) → Contains (senders plans) x → Uses tx_at (side_number plans s) x
  senders_use_tx_sides x c =
      let f = filtered_is_listed_and_passes (λ y. sends (op_at plans y)) (operations plans) x c in
      let o = value_of_is_some (op_at plans x) ((listed_places plans x).0 f.0) in
      uses_side tx_at x o.0 o.1 (side_of_send_is_tx_at x o.0 (ap sends (sym o.1) ∙ f.1))

  pub receivers_use_rx_sides : (x : OpId) → Contains (receivers plans) x → Uses rx_at (side_number plans s) x
  receivers_use_rx_sides x c =
      let f = filtered_is_listed_and_passes (λ y. receives (op_at plans y)) (operations plans) x c in
      let o = value_of_is_some (op_at plans x) ((listed_places plans x).0 f.0) in
      uses_side rx_at x o.0 o.1 (side_of_receive_is_rx_at x o.0 (ap receives (sym o.1) ∙ f.1))

  -- resources of one number are one
  pub same_number_same_resource : (of of' : OpId → Op → Station) (number number' : OpId → ℕ) (x y : OpId) (u : Uses of number x) (v : Uses of' number' y) → number x ≡ number' y → of x u.op ≡ of' y v.op
  same_number_same_resource of of' number number' x y u v same =
      same_Some (of x u.op) (of' y v.op) (sym u.there ∙ ap (slice_get n.stationed.resources) same ∙ v.there)

  -- users of one sort have the same number exactly if they share
  module _ (place : Op → ℕ) (users : List OpId) (of : OpId → Op → Station) (number : OpId → ℕ)
      (uses : (x : OpId) → Contains users x → Uses of number x)
      (one : (x y : OpId) (o u : Op) → x.rank ≡ y.rank → place o ≡ place u → of x o ≡ of y u)
      (parts : (x y : OpId) (o u : Op) → of x o ≡ of y u → (x.rank ≡ y.rank) × (place o ≡ place u)) where
    placed_by : IsPlaced place plans users number s.resources
    placed_by = record {
      within = λ x c. (uses x c).within;
      alike = λ x y c d e.
          let a = uses x c in
          let b = uses y d in
          let shared = shares_gives_share place plans x y e in
          let first = same_Some a.op shared.one (sym a.op_is ∙ shared.one_is) in
          let other = same_Some b.op shared.other (sym b.op_is ∙ shared.other_is) in
          let same : of x a.op ≡ of y b.op = one x y a.op b.op shared.rank (ap place first ∙ shared.number ∙ sym (ap place other)) in
          n.stationed.numbering.resources_once (number x) (number y) (of y b.op) (a.there ∙ ap Some same) b.there;
      apart = λ x y c d e.
          let a = uses x c in
          let b = uses y d in
          let both = parts x y a.op b.op (same_number_same_resource of of number number x y a b e) in
          shares-is place plans x y a.op b.op a.op_is b.op_is
          ∙ and_from _ _ (eq-eqb x.rank y.rank both.0) (eq-eqb (place a.op) (place b.op) both.1);
    }

  pub cpus_placed : IsPlaced (λ (o : Op). o.cpu) plans (operations plans) (cpu_number plans s) s.resources
  cpus_placed =
      placed_by (λ (o : Op). o.cpu) (operations plans) cpu_at (cpu_number plans s) operations_use_cpus
      (λ x y o u rank place. λ i. record { rank = rank i; cpu = Some (place i); sends = None; receives = None })
      (λ x y o u e. (ap (λ (t : Station). t.rank) e, same_Some o.cpu u.cpu (ap (λ (t : Station). t.cpu) e)))

  pub txs_placed : IsPlaced (λ (o : Op). o.nic) plans (senders plans) (side_number plans s) s.resources
  txs_placed =
      placed_by (λ (o : Op). o.nic) (senders plans) tx_at (side_number plans s) senders_use_tx_sides
      (λ x y o u rank place. λ i. record { rank = rank i; cpu = None; sends = Some (place i); receives = None })
      (λ x y o u e. (ap (λ (t : Station). t.rank) e, same_Some o.nic u.nic (ap (λ (t : Station). t.sends) e)))

  pub rxs_placed : IsPlaced (λ (o : Op). o.nic) plans (receivers plans) (side_number plans s) s.resources
  rxs_placed =
      placed_by (λ (o : Op). o.nic) (receivers plans) rx_at (side_number plans s) receivers_use_rx_sides
      (λ x y o u rank place. λ i. record { rank = rank i; cpu = None; sends = None; receives = Some (place i) })
      (λ x y o u e. (ap (λ (t : Station). t.rank) e, same_Some o.nic u.nic (ap (λ (t : Station). t.receives) e)))

  -- no cpu has the number of a side, and no sending side that of a receiving one
  pub cpu_not_tx : (x y : OpId) → Contains (operations plans) x → Contains (senders plans) y → cpu_number plans s x ≢ side_number plans s y
  cpu_not_tx x y c d e =
      absurd (cc (ap (λ (t : Station). t.cpu) (same_number_same_resource cpu_at tx_at (cpu_number plans s) (side_number plans s) x y (operations_use_cpus x c) (senders_use_tx_sides y d) e)))

  pub cpu_not_rx : (x y : OpId) → Contains (operations plans) x → Contains (receivers plans) y → cpu_number plans s x ≢ side_number plans s y
  cpu_not_rx x y c d e =
      absurd (cc (ap (λ (t : Station). t.cpu) (same_number_same_resource cpu_at rx_at (cpu_number plans s) (side_number plans s) x y (operations_use_cpus x c) (receivers_use_rx_sides y d) e)))

  pub tx_not_rx : (x y : OpId) → Contains (senders plans) x → Contains (receivers plans) y → side_number plans s x ≢ side_number plans s y
  tx_not_rx x y c d e =
      absurd (cc (ap (λ (t : Station). t.sends) (same_number_same_resource tx_at rx_at (side_number plans s) (side_number plans s) x y (senders_use_tx_sides x c) (receivers_use_rx_sides y d) e)))

  -- the pair that is read at the number that is read
  pub read_pair_is_pair_of : (x : OpId) (i number : ℕ) (pair : Pair) → slice_get (operations plans) i ≡ Some x → i < length (operations plans) → number ≡ get_or s.numbers.items i number → pair ≡ get_or s.pairs.items number pair → pair ≡ pair_of plans s x
  read_pair_is_pair_of x i number pair at below number_is pair_read =
      let first : slice_get s.numbers.items i ≡ Some number = slice_get_read s.numbers.items (length s.numbers.items) i number refl (omega (arith, below, n.each)) number_is in
      let same : station x ≡ number = ap (slice_index s.numbers.items) (index_is_place_among plans i x at) ∙ get_or_from_slice_get s.numbers.items i number 0 first in
      let o = value_of_is_some (op_at plans x) ((listed_places plans x).0 (i, below, get_or_from_slice_get (operations plans) i x x at)) in
      let there : slice_get s.pairs.items number ≡ Some (pair_of plans s x) = ap (slice_get s.pairs.items) (sym same) ∙ number_has_pair_of x o.0 o.1 in
      pair_read ∙ get_or_from_slice_get s.pairs.items number (pair_of plans s x) pair there
