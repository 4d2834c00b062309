-- The targets, heads and counts that the code computes.
use Rattle.std.proofs.Common.{ℕ, suc, ◌+◌, ◌-◌, ◌<◌, ◌≤◌, ◌≡◌, ◌⊎◌, inl, inr, Bool, true, false, ◌==◌, List, [], ◌∷◌, ◌++◌, length, map, filter, take, get_or, set, count_by, is_none, sym, ap, ap₂, ◌∙◌, arith}
use Rattle.std.specs.List.{before_first}
use Rattle.std.proofs.lemmas.Bool.{cases_eq, cond-true, cond-false, eq-eqb, ne_eqb, false_from_ne_true}
use Rattle.std.proofs.lemmas.List.{append-nil, append_assoc, get_or-set_same, get_or-set_other, get_or_default, map_push, take_all}
use Rattle.std.proofs.lemmas.List.Elements.{filter_more}
use Rattle.std.proofs.lemmas.List.Sums.{count_by_more_yes, count_by_more_no}
use Rattle.goal_graph.specs.declared.action.OpId.{OpId}
use Rattle.goal_graph.specs.declared.action.Stuck.{Stuck}
use Rattle.goal_graph.specs.Action.{same_op}
use Rattle.goal_graph.proofs.ForCallers.{same_op_true, same_op_from}
use Rattle.sim_cycles.specs.declared.knot.Knot.{Knot}
use Rattle.sim_cycles.specs.Knots.{named, stuck_ops, next, step, way, comes_to, is_head, members, behind, knot_at, knots}
use Rattle.sim_cycles.specs.Laws.{IsInOrder}
use Rattle.sim_cycles.specs.Walks.{IsHeadOf}
use Rattle.sim_cycles.specs.Places.{op_at, IsTarget, target_at, AreTargets, AreHeads, AreCounts}
use Rattle.sim_cycles.proofs.Walks.{head_below}
use Rattle.sim_cycles.proofs.PlacesLemmas.{none_op, long_ops, op_at_is_op_of_entry, one_place, next_at, closed}
use Rattle.sim_cycles.proofs.KnotLemmas.{before_first-stop, before_first-go, head_test, comes_test, count_alike}

-- another head is counted
pub counted_one_more : (heads counts : List ℕ) (at r : ℕ) → at < length heads → length counts ≡ length heads → get_or heads at 0 < length heads → ((i : ℕ) → i < length heads → get_or counts i 0 ≡ count_by (λ (h : ℕ). h == i) (take at heads)) → r ≡ get_or counts (get_or heads at 0) 0 → (i : ℕ) → i < length heads → get_or (set counts (get_or heads at 0) (r + 1)) i 0 ≡ count_by (λ (h : ℕ). h == i) (take (at + 1) heads)
counted_one_more heads counts at r inside long below each is i hi = go (cases_eq i (get_or heads at 0))
  where
    go : ((i ≡ get_or heads at 0) ⊎ (i ≡ get_or heads at 0 → ⊥)) → get_or (set counts (get_or heads at 0) (r + 1)) i 0 ≡ count_by (λ (h : ℕ). h == i) (take (at + 1) heads)
    go (inl e) =
        ap (λ j. get_or (set counts (get_or heads at 0) (r + 1)) j 0) e ∙ get_or-set_same counts (get_or heads at 0) (r + 1) 0 (omega (arith, long, below)) ∙ ap (λ n. n + 1) (is ∙ ap (λ j. get_or counts j 0) (sym e) ∙ each i hi) ∙ sym (count_by_more_yes (λ (h : ℕ). h == i) heads at 0 inside (eq-eqb (get_or heads at 0) i (sym e)))
    go (inr other) =
        get_or-set_other counts (get_or heads at 0) i (r + 1) 0 other ∙ each i hi ∙ sym (count_by_more_no (λ (h : ℕ). h == i) heads at 0 inside (ne_eqb (get_or heads at 0) i (λ e. other (sym e))))

-- the members that follow, up to the one at `first`
abbrev pub following : List Stuck → ℕ → ℕ → ℕ → List OpId
following list first n at = before_first (λ (y : OpId). same_op y (op_at list first)) (way list n (op_at list at))

pub members_begin : (list : List Stuck) (first j : ℕ) (d : Stuck) (none ops : List OpId) → first < length list → IsTarget list first j → none ≡ [] → ops ≡ none ++ (get_or list first d).op ∷ [] → ops ++ following list first (length list - 0) j ≡ members list (op_at list first)
unfolding members
members_begin list first j d none ops inside target blank is =
    let n : length list - 0 ≡ length list = omega arith in
    let one : ops ≡ op_at list first ∷ [] = is ∙ ap₂ (λ (xs : List OpId) (x : OpId). xs ++ x ∷ []) blank (sym (op_at_is_op_of_entry list first d inside)) in
    ap (λ (xs : List OpId). xs ++ following list first (length list - 0) j) one ∙ ap (λ k. op_at list first ∷ following list first k j) n ∙ ap (λ (y : OpId). op_at list first ∷ before_first (λ (z : OpId). same_op z (op_at list first)) (way list (length list) y)) (sym target.names)

pub members_more : (list : List Stuck) (first at j i : ℕ) (d : Stuck) (ops new all : List OpId) → IsInOrder list → first < length list → at < length list → i < length list → (at ≡ first → ⊥) → IsTarget list at j → new ≡ ops ++ (get_or list at d).op ∷ [] → ops ++ following list first (length list - i) at ≡ all → new ++ following list first (length list - (i + 1)) j ≡ all
unfolding way
members_more list first at j i d ops new all order hf ha hi apart target is rest =
    let n : length list - i ≡ suc (length list - (i + 1)) = omega (arith, hi) in
    let other : same_op (op_at list at) (op_at list first) ≡ false = false_from_ne_true _ (λ t. apart (one_place list order at first ha hf (same_op_true _ _ t))) in
    let m = following list first (length list - (i + 1)) j in
    let on : following list first (suc (length list - (i + 1))) at ≡ op_at list at ∷ m = before_first-go (λ (y : OpId). same_op y (op_at list first)) (op_at list at) (way list (length list - (i + 1)) (step list (op_at list at))) other ∙ ap (λ (y : OpId). op_at list at ∷ before_first (λ (z : OpId). same_op z (op_at list first)) (way list (length list - (i + 1)) y)) target.names in
    ap (λ (xs : List OpId). xs ++ m) (is ∙ ap (λ (x : OpId). ops ++ x ∷ []) (sym (op_at_is_op_of_entry list at d ha))) ∙ append_assoc ops (op_at list at ∷ []) m ∙ ap (λ (xs : List OpId). ops ++ xs) (sym on) ∙ ap (λ k. ops ++ following list first k at) (sym n) ∙ rest

pub members_all : (list : List Stuck) (first at i : ℕ) (ops all : List OpId) → length list ≤ i → ops ++ following list first (length list - i) at ≡ all → ops ≡ all
unfolding way
members_all list first at i ops all past rest =
    let n : length list - i ≡ 0 = omega (arith, past) in
    sym (ap (λ k. ops ++ following list first k at) n ∙ append-nil ops) ∙ rest

pub members_complete_at_first : (list : List Stuck) (first at i : ℕ) (ops all : List OpId) → i < length list → at ≡ first → ops ++ following list first (length list - i) at ≡ all → ops ≡ all
unfolding way
members_complete_at_first list first at i ops all inside same rest =
    let n : length list - i ≡ suc (length list - (i + 1)) = omega (arith, inside) in
    let stop : following list first (suc (length list - (i + 1))) at ≡ [] = before_first-stop (λ (y : OpId). same_op y (op_at list first)) (op_at list at) (way list (length list - (i + 1)) (step list (op_at list at))) (same_op_from _ _ (ap (op_at list) same)) in
    sym (ap (λ k. ops ++ following list first k at) n ∙ ap (λ (xs : List OpId). ops ++ xs) stop ∙ append-nil ops) ∙ rest

-- another operation: it is the least of a knot, or it is not
pub knots_more : (list : List Stuck) (at : ℕ) (k : Knot) (found new : List Knot) → at < length list → found ≡ map (knot_at list) (filter (is_head list) (take at (stuck_ops list))) → is_head list (op_at list at) ≡ true → k ≡ knot_at list (op_at list at) → new ≡ found ++ k ∷ [] → new ≡ map (knot_at list) (filter (is_head list) (take (at + 1) (stuck_ops list)))
knots_more list at k found new inside e head is more =
    let heads = filter (is_head list) (take at (stuck_ops list)) in
    let x = op_at list at in
    let one : filter (is_head list) (take (at + 1) (stuck_ops list)) ≡ heads ++ x ∷ [] = filter_more (is_head list) (stuck_ops list) at none_op (omega (arith, inside, long_ops list)) ∙ ap (λ (ys : List OpId). heads ++ ys) (cond-true (is_head list x) (x ∷ []) [] head) in
    more ∙ ap₂ (λ (ks : List Knot) (j : Knot). ks ++ j ∷ []) e is ∙ sym (map_push (knot_at list) heads x) ∙ ap (map (knot_at list)) (sym one)

pub knots_skip : (list : List Stuck) (at : ℕ) (found new : List Knot) → at < length list → found ≡ map (knot_at list) (filter (is_head list) (take at (stuck_ops list))) → is_head list (op_at list at) ≡ false → new ≡ found → new ≡ map (knot_at list) (filter (is_head list) (take (at + 1) (stuck_ops list)))
knots_skip list at found new inside e head same =
    let heads = filter (is_head list) (take at (stuck_ops list)) in
    let x = op_at list at in
    let none : filter (is_head list) (take (at + 1) (stuck_ops list)) ≡ heads = filter_more (is_head list) (stuck_ops list) at none_op (omega (arith, inside, long_ops list)) ∙ ap (λ (ys : List OpId). heads ++ ys) (cond-false (is_head list x) (x ∷ []) [] head) ∙ append-nil heads in
    same ∙ e ∙ ap (map (knot_at list)) (sym none)

pub knots_all : (list : List Stuck) (at : ℕ) (found : List Knot) → length list ≤ at → found ≡ map (knot_at list) (filter (is_head list) (take at (stuck_ops list))) → found ≡ knots list
unfolding knots
knots_all list at found past e =
    e ∙ ap (λ (xs : List OpId). map (knot_at list) (filter (is_head list) xs)) (take_all at (stuck_ops list) (omega (arith, past, long_ops list)))

module _ (list : List Stuck) (ts hs : List ℕ) (order : IsInOrder list) (targets : AreTargets list ts) (heads : AreHeads ts hs) where
  each_head : (i : ℕ) → i < length list → IsHeadOf (target_at ts) i (get_or hs i 0)
  each_head i inside = heads.each i (omega (arith, inside, targets.long))

  pub heads_inside : (i : ℕ) → i < length hs → get_or hs i 0 < length hs
  heads_inside i inside =
      let n : length hs ≡ length list = heads.long ∙ targets.long in
      let hi : i < length list = omega (arith, inside, n) in
      omega (arith, n, head_below (target_at ts) (length list) (closed list (target_at ts) targets.each) i (get_or hs i 0) hi (each_head i hi))

  -- a place that is its own head
  pub own_head_is_head_in_list : (at h : ℕ) → at < length list → h ≡ get_or hs at h → (h == at) ≡ is_head list (op_at list at)
  own_head_is_head_in_list at h inside e =
      let same : h ≡ get_or hs at 0 = e ∙ get_or_default hs at h 0 (omega (arith, inside, targets.long, heads.long)) in
      ap (λ k. k == at) same ∙ head_test list (target_at ts) targets.each order at (get_or hs at 0) inside (each_head at inside)

  -- the knot that is made
  pub knot_made : (cs : List ℕ) (at b : ℕ) (d : Stuck) (lone : Bool) (ms : List OpId) → AreCounts hs cs → at < length list → is_head list (op_at list at) ≡ true → lone ≡ is_none (named (get_or list at d).why) → ms ≡ members list (op_at list at) → b ≡ get_or cs at b → (let k : Knot = record { lone = lone; members = ms; behind = b } in k ≡ knot_at list (op_at list at))
  unfolding behind
  knot_made cs at b d lone ms counts inside head alone is e =
      let n : length hs ≡ length list = heads.long ∙ targets.long in
      let here : at < length hs = omega (arith, inside, n) in
      let lone_is : lone ≡ is_none (next list (op_at list at)) = alone ∙ ap is_none (sym (next_at list at d order inside)) in
      let behind_is : b ≡ behind list (op_at list at) = e ∙ get_or_default cs at b 0 (omega (arith, here, counts.long)) ∙ counts.each at here ∙ count_alike (λ (h : ℕ). h == at) (λ (y : OpId). comes_to list y (op_at list at)) 0 none_op hs (stuck_ops list) (n ∙ sym (long_ops list)) (λ j hj. let hl : j < length list = omega (arith, hj, n) in comes_test list (target_at ts) targets.each order j at (get_or hs j 0) hl inside head (each_head j hl)) in
      λ i. record { lone = lone_is i; members = is i; behind = behind_is i }
