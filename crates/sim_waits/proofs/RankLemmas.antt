-- The contents of the line of a rank, one operation after another, and the lines of ranks, one after another.
use Rattle.std.proofs.Common.{◌≡◌, ℕ, ◌+◌, ◌*◌, ◌^◌, ◌<◌, ◌≤◌, Bool, true, false, cond, List, [], ◌∷◌, ◌++◌, length, drop, Option, Some, None, is_some, unwrap_or, if◌then◌else◌, count_by, sum_by, get_or, refl, sym, ap, ◌∙◌, arith}
use Rattle.std.proofs.lemmas.Option.{slice_get-get_or}
use Rattle.std.proofs.lemmas.List.{at_drop_more, at_drop_all}
use Rattle.std.proofs.lemmas.List.Sums.{sum_by-cons}
use Rattle.goal_graph.specs.declared.action.OpId.{OpId}
use Rattle.goal_graph.specs.declared.action.Timed.{Timed}
use Rattle.goal_graph.specs.declared.plan.Op.{Op}
use Rattle.goal_graph.specs.Schedule.{Plan, ops_at, places_of_rank}
use Rattle.goal_graph.proofs.ForCallers.{count-cons, ops_at_some, places_of_rank-more}
use Rattle.sim_params.specs.Costs.{CostModel}
use Rattle.sim_waits.specs.Waits.{ended, wait, wait_or_zero}
use Rattle.sim_waits.specs.WaitsText.{line_of_rank, rank_lines}
use Rattle.sim_waits.specs.WaitKeys.{wait_told, places_at}

module _ (plans : List Plan) (costs : CostModel) (h : List Timed) where
  counted_if_ended : (x : OpId) → ◌≡◌ {A = ℕ} (if is_some (wait_told plans costs h x) then 1 else 0) (cond (ended plans costs h x) 1 0)
  counted_if_ended x = go (ended plans costs h x)
    where
      go : (b : Bool) → ◌≡◌ {A = ℕ} (if is_some (if b then Some (wait plans costs h x) else None) then 1 else 0) (cond b 1 0)
      go true = refl
      go false = refl

  wait_told_or_zero : (x : OpId) → unwrap_or (wait_told plans costs h x) 0 ≡ wait_or_zero plans costs h x
  wait_told_or_zero x = go (ended plans costs h x)
    where
      go : (b : Bool) → unwrap_or (if b then Some (wait plans costs h x) else None) 0 ≡ (if b then wait plans costs h x else 0)
      go true = refl
      go false = refl

  module _ (rank : ℕ) where
    -- `count` and `total` are of the operations of the rank before number `op`, and the rest adds its own
    pub record IsSummed (op count total : ℕ) : Type 0 where
      pub counted : count + count_by (ended plans costs h) (places_of_rank rank op (drop op (ops_at plans rank))) ≡ count_by (ended plans costs h) (places_at plans rank)
      pub summed : total + sum_by (wait_or_zero plans costs h) (places_of_rank rank op (drop op (ops_at plans rank))) ≡ sum_by (wait_or_zero plans costs h) (places_at plans rank)
      pub few : count ≤ op
      pub small : total ≤ op * 2 ^ 64

    pub summed_before_all : IsSummed 0 0 0
    unfolding places_at
    summed_before_all = record { counted = omega arith; summed = omega arith; few = omega arith; small = omega arith }

    pub summed_with_next_op : (op count total : ℕ) (w : Option ℕ) (count' total' : ℕ) → IsSummed op count total → op < length (ops_at plans rank)
        → w ≡ wait_told plans costs h (record { rank = rank; op = op })
        → count' ≡ count + (if is_some w then 1 else 0) → total' ≡ total + unwrap_or w 0 → total' ≤ total + 2 ^ 64
        → IsSummed (op + 1) count' total'
    summed_with_next_op op count total w count' total' s l e c t b =
        let x : OpId = record { rank = rank; op = op } in
        let rest = places_of_rank rank (op + 1) (drop (op + 1) (ops_at plans rank)) in
        let more = places_of_rank-more rank op (ops_at plans rank) l in
        let one : ◌≡◌ {A = ℕ} (if is_some w then 1 else 0) (cond (ended plans costs h x) 1 0) = ap {B = ℕ} (λ (v : Option ℕ). if is_some v then 1 else 0) e ∙ counted_if_ended x in
        let waited : unwrap_or w 0 ≡ wait_or_zero plans costs h x = ap (λ (v : Option ℕ). unwrap_or v 0) e ∙ wait_told_or_zero x in
        let counts = ap (count_by (ended plans costs h)) more ∙ count-cons (ended plans costs h) x rest in
        let sums = ap (sum_by (wait_or_zero plans costs h)) more ∙ sum_by-cons (wait_or_zero plans costs h) x rest in
        record {
          counted = omega (arith, s.counted, one, counts, c);
          summed = omega (arith, s.summed, waited, sums, t);
          few = at_most_one w count op count' s.few c;
          small = omega (arith, s.small, b);
        }
      where
        at_most_one : (w : Option ℕ) (n i m : ℕ) → n ≤ i → m ≡ n + (if is_some w then 1 else 0) → m ≤ i + 1
        at_most_one None n i m h e = omega (arith, h, e)
        at_most_one (Some k) n i m h e = omega (arith, h, e)

    no_places_past_end : (op : ℕ) (ops : List Op) → length ops ≤ op → places_of_rank rank op (drop op ops) ≡ []
    unfolding places_of_rank
    no_places_past_end op ops l = at_drop_all (places_of_rank rank op) ops op l

    pub summed_after_all : (op count total : ℕ) → IsSummed op count total → length (ops_at plans rank) ≤ op → (count ≡ count_by (ended plans costs h) (places_at plans rank)) × (total ≡ sum_by (wait_or_zero plans costs h) (places_at plans rank))
    summed_after_all op count total s l =
        let end = no_places_past_end op (ops_at plans rank) l in
        let none = ap (count_by (ended plans costs h)) end in
        let zero = ap (sum_by (wait_or_zero plans costs h)) end in
        (omega (arith, s.counted, none), omega (arith, s.summed, zero))

  -- the lines of ranks from one on
  pub lines_with_next_rank : (rank : ℕ) → rank < length plans → rank_lines plans costs h rank (drop rank plans) ≡ line_of_rank plans costs h rank (places_at plans rank) ++ rank_lines plans costs h (rank + 1) (drop (rank + 1) plans)
  unfolding rank_lines places_at
  lines_with_next_rank rank l = go plans l
    where
      go : (ps : List Plan) → rank < length ps → rank_lines plans costs h rank (drop rank ps) ≡ line_of_rank plans costs h rank (places_at ps rank) ++ rank_lines plans costs h (rank + 1) (drop (rank + 1) ps)
      go [] l = absurd (omega arith)
      go (p ∷ ps) l =
          let all = p ∷ ps in
          let here = slice_get-get_or all rank p l in
          at_drop_more (rank_lines plans costs h rank) all rank p l ∙ ap (λ (os : List Op). line_of_rank plans costs h rank (places_of_rank rank 0 os) ++ rank_lines plans costs h (rank + 1) (drop (rank + 1) all)) (sym (ops_at_some all rank (get_or all rank p) here))

  pub no_lines_past_end : (rank : ℕ) → length plans ≤ rank → rank_lines plans costs h rank (drop rank plans) ≡ []
  unfolding rank_lines
  no_lines_past_end rank l = at_drop_all (rank_lines plans costs h rank) plans rank l
