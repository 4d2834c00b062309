-- The times of a renamed history are those of the history.
use Rattle.std.proofs.Common.{ℕ, ◌+◌, ◌≡◌, ◌↔◌, ◌==◌, ◌&&◌, max, Bool, List, [], ◌∷◌, map, Option, Some, None, if◌then◌else◌, refl, sym, ap, ◌∙◌, subst}
use Rattle.std.specs.Option.{option_map}
use Rattle.goal_graph.specs.declared.action.OpId.{OpId}
use Rattle.goal_graph.specs.declared.action.Timed.{Timed}
use Rattle.goal_graph.specs.declared.action.Class.{Class}
use Rattle.goal_graph.specs.declared.action.Class.TheVariants.{Arrive, Serve, Data, Post, Begin}
use Rattle.goal_graph.specs.declared.plan.Op.{Op}
use Rattle.goal_graph.specs.declared.plan.Kind.{Kind}
use Rattle.goal_graph.specs.declared.plan.Kind.TheVariants.{Calc, Send, Recv}
use Rattle.goal_graph.specs.declared.plan.Need.{Need}
use Rattle.goal_graph.specs.declared.plan.When.{When}
use Rattle.goal_graph.specs.declared.plan.When.TheVariants.{AfterEnd, AfterStart}
use Rattle.goal_graph.specs.Schedule.{Plan, op_at, kind_at, needed, same_place}
use Rattle.goal_graph.specs.Action.{Act, happened, plain, holds_cpu}
use Rattle.goal_graph.specs.Matching.{pairs, partner, is_paired}
use Rattle.goal_graph.specs.Allowed.{last_class, has_started, has_ended, allowed}
use Rattle.goal_graph.specs.Order.{IsLess, key}
use Rattle.goal_blocks.specs.Placed.{IsPermutation, IsPlaced, placed_op, placed_act, placed_kind, placed_of}
use Rattle.goal_blocks.proofs.ForCallers.{happened_placed, kind_placed, mate_placed, paired_placed, started_placed, ended_placed, last_of_placed, allowed_placed, placed_op_after_back, renaming_keeps_rank_equality}
use Rattle.sim_params.specs.Costs.{CostModel, cost_of, request_of, latency_of, eager_of, over, gap, flight, latency, is_eager}
use Rattle.sim_params.specs.Times.{since, greatest, at_partner, holds_tx, holds_rx, mate, cpu_hold, tx_hold, rx_hold, cpu, tx, rx, start, end, met_at, ready, paired_at, there_at, time_of, time, Possible}
use Rattle.sim_params.specs.Run.{IsNext, IsRun, IsCompleteRun}
use Rattle.sim_placed.specs.PlacedRuns.{placed_timed, AreAlike, HasSameTimes, IsNextBy, IsRunBy, IsCompleteRunBy}

plain_placed : (to : ℕ → ℕ) (h : List Timed) → plain (map (placed_timed to) h) ≡ map (placed_act to) (plain h)
unfolding plain
plain_placed to [] = refl
plain_placed to (a ∷ h) =
    ap (λ (l : List Act). record { class = a.class; op = placed_op to a.op } ∷ l) (plain_placed to h)

since_placed : (to : ℕ → ℕ) (test tried : List Act → Bool) → ((l : List Act) → tried (map (placed_act to) l) ≡ test l) → (h : List Timed) → since tried (map (placed_timed to) h) ≡ since test h
unfolding since
since_placed to test tried same [] = refl
since_placed to test tried same (a ∷ h) =
    λ i. if at h i then since_placed to test tried same h i else (if at (a ∷ h) i then a.time else 0)
  where
    at : (l : List Timed) → tried (plain (map (placed_timed to) l)) ≡ test (plain l)
    at l = ap tried (plain_placed to l) ∙ same (plain l)

module _ (ranks : ℕ) (to back : ℕ → ℕ) (perm : IsPermutation ranks to back) (plans other : List Plan) (placed : IsPlaced to plans other) (costs there : CostModel) (alike : AreAlike to costs there) where
  abbrev acts : List Timed → List Timed
  acts h = map (placed_timed to) h

  kind_of_placed_op : (x : OpId) → kind_at other (placed_op to x) ≡ option_map (placed_kind to) (kind_at plans x)
  kind_of_placed_op x = kind_placed ranks to back perm plans other placed.ops x

  -- what messages cost
  cost_placed : (f g : ℕ → ℕ → ℕ → ℕ) → ((from target bytes : ℕ) → g (to from) (to target) bytes ≡ f from target bytes) → (m : OpId) → cost_of g (to m.rank) (kind_at other (placed_op to m)) ≡ cost_of f m.rank (kind_at plans m)
  cost_placed f g same m = ap (cost_of g (to m.rank)) (kind_of_placed_op m) ∙ go (kind_at plans m)
    where
      go : (k : Option Kind) → cost_of g (to m.rank) (option_map (placed_kind to) k) ≡ cost_of f m.rank k
      go None = refl
      go (Some (Calc nanos)) = refl
      go (Some (Send bytes target tag)) = same m.rank target bytes
      go (Some (Recv room source tag)) = refl

  request_placed : (f g : ℕ → ℕ → ℕ → ℕ) → ((from target bytes : ℕ) → g (to from) (to target) bytes ≡ f from target bytes) → (m : OpId) → request_of g (to m.rank) (kind_at other (placed_op to m)) ≡ request_of f m.rank (kind_at plans m)
  request_placed f g same m = ap (request_of g (to m.rank)) (kind_of_placed_op m) ∙ go (kind_at plans m)
    where
      go : (k : Option Kind) → request_of g (to m.rank) (option_map (placed_kind to) k) ≡ request_of f m.rank k
      go None = refl
      go (Some (Calc nanos)) = refl
      go (Some (Send bytes target tag)) = same m.rank target 1
      go (Some (Recv room source tag)) = refl

  latency_placed : (m : OpId) → latency other there (placed_op to m) ≡ latency plans costs m
  latency_placed m = ap (latency_of there.latency (to m.rank)) (kind_of_placed_op m) ∙ go (kind_at plans m)
    where
      go : (k : Option Kind) → latency_of there.latency (to m.rank) (option_map (placed_kind to) k) ≡ latency_of costs.latency m.rank k
      go None = refl
      go (Some (Calc nanos)) = refl
      go (Some (Send bytes target tag)) = alike.latency m.rank target
      go (Some (Recv room source tag)) = refl

  pub eager_placed : (m : OpId) → is_eager other there (placed_op to m) ≡ is_eager plans costs m
  unfolding is_eager
  eager_placed m = ap (eager_of there.eager (to m.rank)) (kind_of_placed_op m) ∙ go (kind_at plans m)
    where
      go : (k : Option Kind) → eager_of there.eager (to m.rank) (option_map (placed_kind to) k) ≡ eager_of costs.eager m.rank k
      go None = refl
      go (Some (Calc nanos)) = refl
      go (Some (Send bytes target tag)) = alike.eager m.rank target bytes
      go (Some (Recv room source tag)) = refl

  over_placed : (m : OpId) → over other there (placed_op to m) ≡ over plans costs m
  over_placed m = cost_placed costs.over there.over alike.over m

  gap_placed : (m : OpId) → gap other there (placed_op to m) ≡ gap plans costs m
  gap_placed m = cost_placed costs.gap there.gap alike.gap m

  flight_placed : (m : OpId) → flight other there (placed_op to m) ≡ flight plans costs m
  flight_placed m = cost_placed costs.flight there.flight alike.flight m

  -- a send is eager if it is so on the ranks renamed back
  eager_of_placed_is_eager : (λ (y : OpId). is_eager other there (placed_op to y)) ≡ is_eager plans costs
  eager_of_placed_is_eager = λ i y. eager_placed y i

  pub allowed_alike : (h : List Timed) (class : Class) (x : OpId) → allowed other (is_eager other there) (plain (acts h)) class (placed_op to x) ≡ allowed plans (is_eager plans costs) (plain h) class x
  allowed_alike h class x =
      ap (λ (l : List Act). allowed other (is_eager other there) l class (placed_op to x)) (plain_placed to h)
      ∙ (allowed_placed ranks to back perm plans other placed.ops (is_eager other there) placed.needs (plain h) class x ∙ ap (λ (e : OpId → Bool). allowed plans e (plain h) class x) eager_of_placed_is_eager)

  mate_alike : (h : List Timed) (x : OpId) → mate other there (acts h) (placed_op to x) ≡ option_map (placed_op to) (mate plans costs h x)
  mate_alike h x =
      ap (λ (l : List Act). partner (pairs other l) (placed_op to x)) (plain_placed to h) ∙ mate_placed ranks to back perm plans other placed.ops (plain h) x

  at_partner_placed : (f g : OpId → ℕ) → ((m : OpId) → g (placed_op to m) ≡ f m) → (o : Option OpId) → at_partner g (option_map (placed_op to) o) ≡ at_partner f o
  at_partner_placed f g same None = refl
  at_partner_placed f g same (Some m) = same m

  -- holds
  cpu_hold_placed : (h : List Timed) (class : Class) (x : OpId) (k : Option Kind) → cpu_hold other there (acts h) class (placed_op to x) (option_map (placed_kind to) k) ≡ cpu_hold plans costs h class x k
  cpu_hold_placed h Begin x (Some (Calc nanos)) = refl
  cpu_hold_placed h Begin x (Some (Send bytes target tag)) =
      λ i. if eager_placed x i then over_placed x i else request_placed costs.over there.over alike.over x i
  cpu_hold_placed h Begin x (Some (Recv room source tag)) = refl
  cpu_hold_placed h Begin x None = refl
  cpu_hold_placed h Data x (Some (Send bytes target tag)) = over_placed x
  cpu_hold_placed h Data x (Some (Calc nanos)) = refl
  cpu_hold_placed h Data x (Some (Recv room source tag)) = refl
  cpu_hold_placed h Data x None = refl
  cpu_hold_placed h Serve x (Some (Recv room source tag)) =
      ap (at_partner (over other there)) (mate_alike h x) ∙ at_partner_placed (over plans costs) (over other there) over_placed (mate plans costs h x)
  cpu_hold_placed h Serve x (Some (Calc nanos)) = refl
  cpu_hold_placed h Serve x (Some (Send bytes target tag)) = refl
  cpu_hold_placed h Serve x None = refl
  cpu_hold_placed h Arrive x k = refl
  cpu_hold_placed h Post x k = refl

  tx_hold_placed : (class : Class) (x : OpId) (k : Option Kind) → tx_hold other there class (placed_op to x) (option_map (placed_kind to) k) ≡ tx_hold plans costs class x k
  tx_hold_placed Begin x (Some (Send bytes target tag)) =
      λ i. if eager_placed x i then gap_placed x i else request_placed costs.gap there.gap alike.gap x i
  tx_hold_placed Begin x (Some (Calc nanos)) = refl
  tx_hold_placed Begin x (Some (Recv room source tag)) = refl
  tx_hold_placed Begin x None = refl
  tx_hold_placed Data x (Some (Send bytes target tag)) = gap_placed x
  tx_hold_placed Data x (Some (Calc nanos)) = refl
  tx_hold_placed Data x (Some (Recv room source tag)) = refl
  tx_hold_placed Data x None = refl
  tx_hold_placed Serve x k = refl
  tx_hold_placed Arrive x k = refl
  tx_hold_placed Post x k = refl

  rx_hold_placed : (h : List Timed) (class : Class) (x : OpId) (k : Option Kind) → rx_hold other there (acts h) class (placed_op to x) (option_map (placed_kind to) k) ≡ rx_hold plans costs h class x k
  rx_hold_placed h Serve x (Some (Recv room source tag)) =
      ap (at_partner (gap other there)) (mate_alike h x) ∙ at_partner_placed (gap plans costs) (gap other there) gap_placed (mate plans costs h x)
  rx_hold_placed h Serve x (Some (Calc nanos)) = refl
  rx_hold_placed h Serve x (Some (Send bytes target tag)) = refl
  rx_hold_placed h Serve x None = refl
  rx_hold_placed h Begin x k = refl
  rx_hold_placed h Data x k = refl
  rx_hold_placed h Arrive x k = refl
  rx_hold_placed h Post x k = refl

  holds_tx_placed : (class : Class) (k : Option Kind) → holds_tx class (option_map (placed_kind to) k) ≡ holds_tx class k
  holds_tx_placed Begin (Some (Send bytes target tag)) = refl
  holds_tx_placed Begin (Some (Calc nanos)) = refl
  holds_tx_placed Begin (Some (Recv room source tag)) = refl
  holds_tx_placed Begin None = refl
  holds_tx_placed Data (Some (Send bytes target tag)) = refl
  holds_tx_placed Data (Some (Calc nanos)) = refl
  holds_tx_placed Data (Some (Recv room source tag)) = refl
  holds_tx_placed Data None = refl
  holds_tx_placed Serve k = refl
  holds_tx_placed Arrive k = refl
  holds_tx_placed Post k = refl

  -- operations at one place
  place_of : (f : Op → ℕ) → ((o : Op) → f (placed_of to o) ≡ f o) → (x : OpId) (o : Option Op) (y : OpId) (p : Option Op) → same_place f (placed_op to x) (option_map (placed_of to) o) (placed_op to y) (option_map (placed_of to) p) ≡ same_place f x o y p
  place_of f same x (Some o) y (Some p) =
      λ i. renaming_keeps_rank_equality ranks to back perm x.rank y.rank i && (same o i == same p i)
  place_of f same x None y p = refl
  place_of f same x (Some o) y None = refl

  pub place_placed : (f : Op → ℕ) → ((o : Op) → f (placed_of to o) ≡ f o) → (x y : OpId) → same_place f (placed_op to x) (op_at other (placed_op to x)) (placed_op to y) (op_at other (placed_op to y)) ≡ same_place f x (op_at plans x) y (op_at plans y)
  place_placed f same x y =
      (λ i. same_place f (placed_op to x) (placed.ops x i) (placed_op to y) (placed.ops y i)) ∙ place_of f same x (op_at plans x) y (op_at plans y)

  cpu_placed : (h : List Timed) (x : OpId) → cpu other there (acts h) (placed_op to x) ≡ cpu plans costs h x
  unfolding cpu
  cpu_placed [] x = refl
  cpu_placed (a ∷ h) x =
      λ i. max (cpu_placed h x i) (if holds_cpu a.class && place_placed (λ (o : Op). o.cpu) (λ o. refl) x a.op i then a.time + hold i else 0)
    where
      hold : cpu_hold other there (acts h) a.class (placed_op to a.op) (kind_at other (placed_op to a.op)) ≡ cpu_hold plans costs h a.class a.op (kind_at plans a.op)
      hold =
          ap (cpu_hold other there (acts h) a.class (placed_op to a.op)) (kind_of_placed_op a.op) ∙ cpu_hold_placed h a.class a.op (kind_at plans a.op)

  tx_placed : (h : List Timed) (x : OpId) → tx other there (acts h) (placed_op to x) ≡ tx plans costs h x
  unfolding tx
  tx_placed [] x = refl
  tx_placed (a ∷ h) x =
      λ i. max (tx_placed h x i) (if holds i && place_placed (λ (o : Op). o.nic) (λ o. refl) x a.op i then a.time + hold i else 0)
    where
      holds : holds_tx a.class (kind_at other (placed_op to a.op)) ≡ holds_tx a.class (kind_at plans a.op)
      holds = ap (holds_tx a.class) (kind_of_placed_op a.op) ∙ holds_tx_placed a.class (kind_at plans a.op)

      hold : tx_hold other there a.class (placed_op to a.op) (kind_at other (placed_op to a.op)) ≡ tx_hold plans costs a.class a.op (kind_at plans a.op)
      hold =
          ap (tx_hold other there a.class (placed_op to a.op)) (kind_of_placed_op a.op) ∙ tx_hold_placed a.class a.op (kind_at plans a.op)

  rx_placed : (h : List Timed) (x : OpId) → rx other there (acts h) (placed_op to x) ≡ rx plans costs h x
  unfolding rx
  rx_placed [] x = refl
  rx_placed (a ∷ h) x =
      λ i. max (rx_placed h x i) (if holds_rx a.class && place_placed (λ (o : Op). o.nic) (λ o. refl) x a.op i then a.time + hold i else 0)
    where
      hold : rx_hold other there (acts h) a.class (placed_op to a.op) (kind_at other (placed_op to a.op)) ≡ rx_hold plans costs h a.class a.op (kind_at plans a.op)
      hold =
          ap (rx_hold other there (acts h) a.class (placed_op to a.op)) (kind_of_placed_op a.op) ∙ rx_hold_placed h a.class a.op (kind_at plans a.op)

  pub start_placed : (h : List Timed) (x : OpId) → start other there (acts h) (placed_op to x) ≡ start plans costs h x
  start_placed h x =
      since_placed to (has_started plans x) (has_started other (placed_op to x)) (λ l. started_placed ranks to back perm plans other placed.ops x l) h

  since_ended_placed : (h : List Timed) (x : OpId) → since (has_ended other (is_eager other there) (placed_op to x)) (acts h) ≡ since (has_ended plans (is_eager plans costs) x) h
  since_ended_placed h x =
      since_placed to (has_ended plans (is_eager plans costs) x) (has_ended other (is_eager other there) (placed_op to x)) (λ l. ended_placed ranks to back perm plans other placed.ops (is_eager other there) x l ∙ ap (λ (e : OpId → Bool). has_ended plans e x l) eager_of_placed_is_eager) h

  pub end_placed : (h : List Timed) (x : OpId) → end other there (acts h) (placed_op to x) ≡ end plans costs h x
  end_placed h x = λ i. since_ended_placed h x i + hold i
    where
      last : last_class (is_eager other there (placed_op to x)) (kind_at other (placed_op to x)) ≡ last_class (is_eager plans costs x) (kind_at plans x)
      last =
          last_of_placed ranks to back perm plans other placed.ops (is_eager other there (placed_op to x)) x ∙ ap (λ (b : Bool). last_class b (kind_at plans x)) (eager_placed x)

      hold : cpu_hold other there (acts h) (last_class (is_eager other there (placed_op to x)) (kind_at other (placed_op to x))) (placed_op to x) (kind_at other (placed_op to x)) ≡ cpu_hold plans costs h (last_class (is_eager plans costs x) (kind_at plans x)) x (kind_at plans x)
      hold =
          ap (λ (c : Class). cpu_hold other there (acts h) c (placed_op to x) (kind_at other (placed_op to x))) last
          ∙ (ap (cpu_hold other there (acts h) (last_class (is_eager plans costs x) (kind_at plans x)) (placed_op to x)) (kind_of_placed_op x) ∙ cpu_hold_placed h (last_class (is_eager plans costs x) (kind_at plans x)) x (kind_at plans x))

  met_placed : (h : List Timed) (when : When) (y : OpId) → met_at other there (acts h) when (placed_op to y) ≡ met_at plans costs h when y
  met_placed h AfterEnd y = end_placed h y
  met_placed h AfterStart y = start_placed h y

  ready_placed : (h : List Timed) (x : OpId) → ready other there (acts h) (placed_op to x) ≡ ready plans costs h x
  unfolding ready
  ready_placed h x =
      λ i. greatest (λ (d : Need). met_placed h d.when (needed x d) i) (placed.needs x i)

  paired_at_placed : (h : List Timed) (x : OpId) → paired_at other there (acts h) (placed_op to x) ≡ paired_at plans costs h x
  paired_at_placed h x =
      since_placed to (λ l. is_paired (pairs plans l) x) (λ l. is_paired (pairs other l) (placed_op to x)) (λ l. paired_placed ranks to back perm plans other placed.ops l x) h

  there_placed : (h : List Timed) (x : OpId) (o : Option OpId) → there_at other there (acts h) (placed_op to x) (option_map (placed_op to) o) ≡ there_at plans costs h x o
  there_placed h x None = refl
  there_placed h x (Some m) =
      λ i. if eager_placed m i then paired_at_placed h x i else since_placed to (happened Data m) (happened Data (placed_op to m)) (λ l. happened_placed ranks to back perm Data m l) h i + flight_placed m i

  time_of_placed : (h : List Timed) (class : Class) (x : OpId) (k : Option Kind) → time_of other there (acts h) class (placed_op to x) (option_map (placed_kind to) k) ≡ time_of plans costs h class x k
  time_of_placed h Begin x (Some (Calc nanos)) = λ i. max (ready_placed h x i) (cpu_placed h x i)
  time_of_placed h Begin x (Some (Send bytes target tag)) =
      λ i. max (ready_placed h x i) (max (cpu_placed h x i) (tx_placed h x i))
  time_of_placed h Begin x (Some (Recv room source tag)) = refl
  time_of_placed h Begin x None = refl
  time_of_placed h Post x (Some (Recv room source tag)) = ready_placed h x
  time_of_placed h Post x (Some (Calc nanos)) = refl
  time_of_placed h Post x (Some (Send bytes target tag)) = refl
  time_of_placed h Post x None = refl
  time_of_placed h Arrive x (Some (Send bytes target tag)) =
      λ i. start_placed h x i + (if eager_placed x i then flight_placed x i else request_placed costs.flight there.flight alike.flight x i)
  time_of_placed h Arrive x (Some (Calc nanos)) = refl
  time_of_placed h Arrive x (Some (Recv room source tag)) = refl
  time_of_placed h Arrive x None = refl
  time_of_placed h Data x (Some (Send bytes target tag)) =
      λ i. max (paired_at_placed h x i + latency_placed x i) (max (cpu_placed h x i) (tx_placed h x i))
  time_of_placed h Data x (Some (Calc nanos)) = refl
  time_of_placed h Data x (Some (Recv room source tag)) = refl
  time_of_placed h Data x None = refl
  time_of_placed h Serve x (Some (Recv room source tag)) =
      λ i. max ((ap (there_at other there (acts h) (placed_op to x)) (mate_alike h x) ∙ there_placed h x (mate plans costs h x)) i) (max (cpu_placed h x i) (rx_placed h x i))
  time_of_placed h Serve x (Some (Calc nanos)) = refl
  time_of_placed h Serve x (Some (Send bytes target tag)) = refl
  time_of_placed h Serve x None = refl

  pub time_placed : (h : List Timed) (class : Class) (x : OpId) → time other there (acts h) class (placed_op to x) ≡ time plans costs h class x
  unfolding time
  time_placed h class x =
      ap (time_of other there (acts h) class (placed_op to x)) (kind_of_placed_op x) ∙ time_of_placed h class x (kind_at plans x)

  pub same_times : (h : List Timed) → HasSameTimes to plans other costs there h
  same_times h = record { times = time_placed h; starts = start_placed h; ends = end_placed h }

  -- runs
  pub possible_from : (h : List Timed) (a : Timed) → Possible plans costs h a → Possible other there (acts h) (placed_timed to a)
  possible_from h a p = record {
    allowed = allowed_alike h a.class a.op ∙ p.allowed;
    time = p.time ∙ sym (time_placed h a.class a.op);
  }

  pub possible_into : (h : List Timed) (a : Timed) → Possible other there (acts h) (placed_timed to a) → Possible plans costs h a
  possible_into h a p = record {
    allowed = sym (allowed_alike h a.class a.op) ∙ p.allowed;
    time = p.time ∙ time_placed h a.class a.op;
  }

  -- an action of the other schedule, renamed back
  abbrev timed_back : Timed → Timed
  timed_back b = record { time = b.time; class = b.class; op = placed_op back b.op }

  placed_timed_of_timed_back : (b : Timed) → placed_timed to (timed_back b) ≡ b
  placed_timed_of_timed_back b =
      λ i. record { time = b.time; class = b.class; op = placed_op_after_back ranks to back perm b.op i }

  possible_back : (h : List Timed) (b : Timed) → Possible other there (acts h) b → Possible plans costs h (timed_back b)
  possible_back h b p =
      possible_into h (timed_back b) (subst (λ (a : Timed). Possible other there (acts h) a) (sym (placed_timed_of_timed_back b)) p)

  next_from : (h : List Timed) (a : Timed) → IsNextBy to plans costs h a → IsNext other there (acts h) (placed_timed to a)
  next_from h a next = record {
    possible = possible_from h a next.possible;
    least = λ b p less. next.least (timed_back b) (possible_back h b p) (subst (λ (c : Timed). IsLess (key c) (key (placed_timed to a))) (sym (placed_timed_of_timed_back b)) less);
  }

  next_into : (h : List Timed) (a : Timed) → IsNext other there (acts h) (placed_timed to a) → IsNextBy to plans costs h a
  next_into h a next = record {
    possible = possible_into h a next.possible;
    least = λ b p less. next.least (placed_timed to b) (possible_from h b p) less;
  }

  run_from : (h : List Timed) → IsRunBy to plans costs h → IsRun other there (acts h)
  run_from [] run = tt
  run_from (a ∷ h) run = (run_from h run.0, next_from h a run.1)

  run_into : (h : List Timed) → IsRun other there (acts h) → IsRunBy to plans costs h
  run_into [] run = tt
  run_into (a ∷ h) run = (run_into h run.0, next_into h a run.1)

  pub runs_alike : (h : List Timed) → IsCompleteRun other there (acts h) ↔ IsCompleteRunBy to plans costs h
  runs_alike h =
      (λ (c : IsCompleteRun other there (acts h)). record { run = run_into h c.run; finished = λ a p. c.finished (placed_timed to a) (possible_from h a p) }, λ (c : IsCompleteRunBy to plans costs h). record { run = run_from h c.run; finished = λ b p. c.finished (timed_back b) (possible_back h b p) })
