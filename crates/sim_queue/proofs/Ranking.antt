-- A heap for each rank and a heap of ranks: the places of operations, a changed key, and the least of all.
use Rattle.std.proofs.Common.{◌≡◌, ◌≢◌, ◌⊎◌, ◌+◌, ◌-◌, ◌<◌, ◌≤◌, ◌^◌, ℕ, zero, suc, All, Bool, false, List, [], ◌∷◌, ◌++◌, length, map, set, take, sum, get_or, slice_get, slice_index, replicate, Option, Some, None, refl, sym, ap, ◌∙◌, subst, arith, inl, inr, length-append}
use Rattle.std.proofs.lemmas.Bool.{cases_eq, cases_lt}
use Rattle.std.proofs.lemmas.List.{get_or-set_same, get_or-set_other, length-set, length-map, get_or-map, get_or_past, get_or_append_left, get_or-append-add, get_or_push, length-replicate, map-append, take_more}
use Rattle.std.proofs.lemmas.List.Elements.{All-get_or, All-from_get_or}
use Rattle.std.proofs.lemmas.List.Sums.{sum_by-cons, sum-map, get_or-le-sum_by}
use Rattle.std.specs.Option.{option_map}
use Rattle.std.proofs.lemmas.Option.{slice_get-get_or, slice_get_within, get_or_from_slice_get, slice_get-map, same_Some, none-some}
use Rattle.goal_graph.specs.declared.action.OpId.{OpId}
use Rattle.goal_graph.specs.declared.plan.Op.{Op}
use Rattle.goal_graph.specs.Schedule.{Plan, ops_at, places_of_rank, places_from, operations}
use Rattle.goal_graph.specs.Fault.{op_count}
use Rattle.goal_graph.specs.Limits.{AreCountsWithin}
use Rattle.goal_graph.proofs.ForCallers.{ops_at_some, length-places_of_rank}
use Rattle.sim_order.specs.Order.{IsOrder}
use Rattle.sim_queue.specs.declared.home.PlaceInGroup.{PlaceInGroup}
use Rattle.sim_queue.specs.Map.{key_at, IsEmptyMap, IsLeast, no_keys}
use Rattle.sim_queue.specs.Groups.{Grouped, AreHomes, heap_at, key_of_home, group_of_home}
use Rattle.sim_queue.specs.Ranked.{size_of}
use Rattle.sim_queue.specs.Ranks.{home_of, ranked, IsHeadOf, IsTold, IsRanked}
use Rattle.sim_queue.proofs.ForCallers.{not_before_transitive}
use Rattle.sim_queue.proofs.ForCallers.{key_at_home, grouped_after_change, housed_after_change}
use Rattle.sim_queue.proofs.ForCallers.{key_at_no_keys}
use Rattle.sim_queue.proofs.ForCallers.{no_key_at_any_place, empty_housed, empty_grouped}

abbrev op_at_rank_and_place : ℕ → ℕ → OpId
op_at_rank_and_place rank op = record { rank = rank; op = op }

place_of_rank_parts : (rank first : ℕ) (ops : List Op) (i : ℕ) (x : OpId) → slice_get (places_of_rank rank first ops) i ≡ Some x → (x.rank ≡ rank) × (x.op ≡ first + i) × (i < length ops)
unfolding places_of_rank
place_of_rank_parts rank first [] i x e = absurd (cc)
place_of_rank_parts rank first (o ∷ os) zero x e =
    let same : op_at_rank_and_place rank first ≡ x = same_Some (op_at_rank_and_place rank first) x e in
    (sym (ap (λ (y : OpId). y.rank) same), omega (arith, ap (λ (y : OpId). y.op) same), omega arith)
place_of_rank_parts rank first (o ∷ os) (suc i) x e =
    let rest = place_of_rank_parts rank (first + 1) os i x e in
    (rest.0, omega (arith, rest.1), omega (arith, rest.2))

-- the operation of a slot, if the ranks are numbered from the first on
pub record IsPlaced (plans : List Plan) (first slot : ℕ) (x : OpId) : Type 0 where
  pub rank : ℕ
  pub rank_in : rank < length plans
  pub is_rank : x.rank ≡ first + rank
  pub op_in : x.op < slice_index (map size_of plans) rank
  pub at : slot ≡ sum (take rank (map size_of plans)) + x.op

placed_with_another_rank : (first : ℕ) (p : Plan) (plans : List Plan) (slot : ℕ) (x : OpId) → ((m : ℕ) → slice_get (places_from (first + 1) plans) m ≡ Some x → IsPlaced plans (first + 1) m x) → slice_get (places_of_rank first 0 p.ops ++ places_from (first + 1) plans) slot ≡ Some x → IsPlaced (p ∷ plans) first slot x
placed_with_another_rank first p plans slot x rest e = go (cases_lt slot (length here))
  where
    here : List OpId
    here = places_of_rank first 0 p.ops

    there : List OpId
    there = places_from (first + 1) plans

    read : get_or (here ++ there) slot x ≡ x
    read = get_or_from_slice_get (here ++ there) slot x x e

    size : length here ≡ length p.ops
    size = length-places_of_rank first 0 p.ops

    go : (slot < length here) ⊎ (length here ≤ slot) → IsPlaced (p ∷ plans) first slot x
    go (inl l) =
        let r = place_of_rank_parts first 0 p.ops slot x (slice_get-get_or here slot x l ∙ ap Some (sym (get_or_append_left here there x slot l) ∙ read)) in
        record {
          rank = 0;
          rank_in = omega arith;
          is_rank = omega (arith, r.0);
          op_in = omega (arith, r.1, r.2);
          at = omega (arith, r.1);
        }
    go (inr l) =
        let m : ℕ = slot - length here in
        let whole : length here + m ≡ slot = omega (arith, l) in
        let m_in : m < length there = omega (arith, l, slice_get_within (here ++ there) slot x e, length-append here there) in
        let r = rest m (slice_get-get_or there m x m_in ∙ ap Some (sym (get_or-append-add here there m x) ∙ ap (λ i. get_or (here ++ there) i x) whole ∙ read)) in
        record {
          rank = suc r.rank;
          rank_in = omega (arith, r.rank_in);
          is_rank = omega (arith, r.is_rank);
          op_in = r.op_in;
          at = omega (arith, r.at, whole, size, sum_by-cons (λ n. n) (length p.ops) (take r.rank (map size_of plans)));
        }

places_from_is_placed : (first : ℕ) (plans : List Plan) (slot : ℕ) (x : OpId) → slice_get (places_from first plans) slot ≡ Some x → IsPlaced plans first slot x
unfolding places_from
places_from_is_placed first [] slot x e = absurd (cc)
places_from_is_placed first (p ∷ plans) slot x e =
    placed_with_another_rank first p plans slot x (λ m f. places_from_is_placed (first + 1) plans m x f) e

length-places : (first : ℕ) (plans : List Plan) → length (places_from first plans) ≡ sum (map size_of plans)
unfolding places_from
length-places first [] = refl
length-places first (p ∷ plans) =
    omega (arith, length-append (places_of_rank first 0 p.ops) (places_from (first + 1) plans), length-places_of_rank first 0 p.ops, length-places (first + 1) plans, sum_by-cons (λ n. n) (length p.ops) (map size_of plans))

-- this number of operations fits
pub sum_of_sizes_fits : (plans : List Plan) → AreCountsWithin plans → sum (map size_of plans) < 2 ^ 32
unfolding op_count
sum_of_sizes_fits plans counts = omega (arith, sum-map size_of plans, counts.ops)

no_plan : Plan
no_plan = record { ops = []; deps = []; notes = [] }

-- the size of another rank
pub sizes_with_next_rank : (plans : List Plan) (rank count : ℕ) (sizes new : List ℕ) → rank < length plans → sizes ≡ map size_of (take rank plans) → count ≡ length (ops_at plans rank) → new ≡ sizes ++ count ∷ [] → new ≡ map size_of (take (rank + 1) plans)
sizes_with_next_rank plans rank count sizes new l so_far is e =
    let p : Plan = get_or plans rank no_plan in
    let size : count ≡ size_of p = is ∙ ap length (ops_at_some plans rank p (slice_get-get_or plans rank no_plan l)) in
    e ∙ ap (λ ns. ns ++ count ∷ []) so_far ∙ ap (λ n. map size_of (take rank plans) ++ n ∷ []) size ∙ sym (map-append size_of (take rank plans) (p ∷ [])) ∙ ap (map size_of) (sym (take_more plans rank no_plan l))

-- the start of another rank
pub starts_with_next_rank : (sizes starts new : List ℕ) (i next : ℕ) → length starts ≡ i → next ≡ sum (take i sizes) → ((rank : ℕ) → rank < i → slice_index starts rank ≡ sum (take rank sizes)) → new ≡ starts ++ next ∷ [] → (rank : ℕ) → rank < i + 1 → slice_index new rank ≡ sum (take rank sizes)
starts_with_next_rank sizes starts new i next each is old e rank l =
    ap (λ xs. slice_index xs rank) e ∙ go (cases_lt rank i)
  where
    go : (rank < i) ⊎ (i ≤ rank) → slice_index (starts ++ next ∷ []) rank ≡ sum (take rank sizes)
    go (inl b) = get_or_append_left starts (next ∷ []) 0 rank (omega (arith, b, each)) ∙ old rank b
    go (inr b) =
        let same : i ≡ rank = omega (arith, l, b) in
        get_or_push starts next 0 rank (omega (arith, same, each)) ∙ is ∙ ap (λ k. sum (take k sizes)) same

-- homes of all operations, and a queue in which none has a key
module _ (plans : List Plan) (homes : List PlaceInGroup) (are : homes ≡ map home_of (operations plans)) where
  homes_length_is_sum_of_sizes : length homes ≡ sum (map size_of plans)
  homes_length_is_sum_of_sizes = omega (arith, ap length are, length-map (operations plans) home_of, length-places 0 plans)

  pub homes_fit : sum (map size_of plans) < 2 ^ 32 → length homes < 2 ^ 32
  homes_fit few = omega (arith, few, homes_length_is_sum_of_sizes)

  -- a rank has at most as many operations as there are
  rank_sizes_within_homes : All (λ size. size ≤ length homes) (map size_of plans)
  rank_sizes_within_homes = All-from_get_or (λ size. size ≤ length homes) (map size_of plans) 0 each
    where
      each : (rank : ℕ) → rank < length (map size_of plans) → slice_index (map size_of plans) rank ≤ length homes
      each rank l = omega (arith, get_or-le-sum_by (λ n. n) (map size_of plans) rank 0 l, homes_length_is_sum_of_sizes)

  home_of_placed : (slot : ℕ) (home : PlaceInGroup) → slice_get homes slot ≡ Some home → IsPlaced plans 0 slot (op_at_rank_and_place home.group home.place)
  home_of_placed slot home e = go (slice_get (operations plans) slot) refl
    where
      at : slice_get (map home_of (operations plans)) slot ≡ Some home
      at = sym (ap (λ hs. slice_get hs slot) are) ∙ e

      go : (o : Option OpId) → slice_get (operations plans) slot ≡ o → IsPlaced plans 0 slot (op_at_rank_and_place home.group home.place)
      go None f =
          let none : slice_get (map home_of (operations plans)) slot ≡ None = slice_get-map home_of (operations plans) slot ∙ ap (option_map home_of) f in
          absurd (cc)
      go (Some x) f =
          let same : home_of x ≡ home = same_Some (home_of x) home (sym (slice_get-map home_of (operations plans) slot ∙ ap (option_map home_of) f) ∙ at) in
          subst (λ (h : PlaceInGroup). IsPlaced plans 0 slot (op_at_rank_and_place h.group h.place)) same (places_from_is_placed 0 plans slot x f)

  slot_by_rank_and_place : (slot : ℕ) (home : PlaceInGroup) → slice_get homes slot ≡ Some home → slot ≡ sum (take home.group (map size_of plans)) + home.place
  slot_by_rank_and_place slot home e =
      let p = home_of_placed slot home e in
      let rank : p.rank ≡ home.group = omega (arith, p.is_rank) in
      subst (λ g. slot ≡ sum (take g (map size_of plans)) + home.place) rank p.at

  homes_of_ops_are_homes : AreHomes (map group_of_home homes) homes (map size_of plans)
  homes_of_ops_are_homes = record {
    groups = refl;
    group_in =
        λ slot home e.
        let p = home_of_placed slot home e in
        omega (arith, p.rank_in, p.is_rank, length-map plans size_of);
    place_in =
        λ slot home e.
        let p = home_of_placed slot home e in
        let rank : p.rank ≡ home.group = omega (arith, p.is_rank) in
        subst (λ g. home.place < slice_index (map size_of plans) g) rank p.op_in;
    apart = λ slot other home e f. slot_by_rank_and_place slot home e ∙ sym (slot_by_rank_and_place other home f);
  }

  module _ {K : Type 0} (before : K → K → Bool) (few : length homes < 2 ^ 32) (starts : List ℕ) (each : length starts ≡ length (map size_of plans)) (sums : (rank : ℕ) → rank < length (map size_of plans) → slice_index starts rank ≡ sum (take rank (map size_of plans))) where
    abbrev heaps_without_keys : List (List (Option K))
    heaps_without_keys = map (no_keys {K = K}) (map size_of plans)

    abbrev no_heads : List (Option K)
    no_heads = replicate (length (map size_of plans)) None

    heaps_per_rank : length heaps_without_keys ≡ length (map size_of plans)
    heaps_per_rank = length-map (map size_of plans) (no_keys {K = K})

    no_keys_ranked : IsRanked before homes starts heaps_without_keys no_heads
    no_keys_ranked = record {
      housed = empty_housed (map group_of_home homes) homes (map size_of plans) homes_of_ops_are_homes few rank_sizes_within_homes;
      started = each ∙ sym heaps_per_rank;
      each = length-replicate {A = Option K} (length (map size_of plans)) None ∙ sym heaps_per_rank;
      found =
          λ slot home e.
          let start = sums home.group (homes_of_ops_are_homes.group_in slot home e) in
          omega (arith, slot_by_rank_and_place slot home e, start);
      headed =
          λ rank l.
          subst (IsHeadOf before (heap_at heaps_without_keys rank)) (sym (key_at_no_keys {K = K} (length (map size_of plans)) rank)) (λ p. no_key_at_any_place (map group_of_home homes) homes (map size_of plans) homes_of_ops_are_homes rank p);
    }

    pub new_queue_ranked : (heaps : List (List (Option K))) (heads : List (Option K)) → heaps ≡ heaps_without_keys → heads ≡ no_heads → IsRanked before homes starts heaps heads
    new_queue_ranked heaps heads a b =
        subst (λ hs. IsRanked before homes starts hs heads) (sym a) (subst (IsRanked before homes starts heaps_without_keys) (sym b) no_keys_ranked)

  empty_sizes : (K : Type 0) (counts : List ℕ) → map (λ (h : List (Option K)). length h) (map (no_keys {K = K}) counts) ≡ counts
  empty_sizes K [] = refl
  empty_sizes K (count ∷ counts) = rw (length-replicate {A = Option K} count None) (ap (λ ns. count ∷ ns) (empty_sizes K counts))

  pub new_queue_has_no_keys : {K : Type 0} (heaps : List (List (Option K))) → heaps ≡ map (no_keys {K = K}) (map size_of plans) → ranked homes heaps ≡ record { keys = replicate (length (operations plans)) None; sizes = map size_of plans }
  new_queue_has_no_keys {K = K} heaps a = ap (ranked homes) a ∙ none
    where
      keys : map (key_of_home (map (no_keys {K = K}) (map size_of plans))) homes ≡ replicate (length (operations plans)) None
      keys =
          ap (λ (q : Grouped K). q.keys) (empty_grouped {K = K} (map group_of_home homes) homes (map size_of plans) homes_of_ops_are_homes) ∙ ap (λ n. replicate n None) (length-map homes group_of_home ∙ ap length are ∙ length-map (operations plans) home_of)

      none : ranked homes (map (no_keys {K = K}) (map size_of plans)) ≡ record { keys = replicate (length (operations plans)) None; sizes = map size_of plans }
      none i = record { keys = keys i; sizes = empty_sizes K (map size_of plans) i }

module _ {K : Type 0} where
  -- a heap is replaced by one of its length
  sizes_unchanged_by_new_heap : (heaps : List (List (Option K))) (rank : ℕ) (new : List (Option K)) → length new ≡ length (heap_at heaps rank) → map (λ (h : List (Option K)). length h) (set heaps rank new) ≡ map (λ (h : List (Option K)). length h) heaps
  sizes_unchanged_by_new_heap [] rank new e = refl
  sizes_unchanged_by_new_heap (heap ∷ heaps) zero new e = ap (λ n. n ∷ map (λ (h : List (Option K)). length h) heaps) e
  sizes_unchanged_by_new_heap (heap ∷ heaps) (suc rank) new e = ap (λ ns. length heap ∷ ns) (sizes_unchanged_by_new_heap heaps rank new e)

  -- the number of slots of a rank
  pub size_within : (heaps : List (List (Option K))) (rank most : ℕ) → rank < length heaps → All (λ size. size ≤ most) (map (λ (h : List (Option K)). length h) heaps) → length (heap_at heaps rank) ≤ most
  size_within heaps rank most l all =
      let at = get_or-map (λ (h : List (Option K)). length h) heaps rank [] 0 l in
      omega (arith, at, All-get_or (λ size. size ≤ most) (map (λ (h : List (Option K)). length h) heaps) rank 0 (rw (length-map heaps (λ (h : List (Option K)). length h)) l) all)

  module _ (before : K → K → Bool) (homes : List PlaceInGroup) (starts : List ℕ) (heaps : List (List (Option K))) (heads : List (Option K)) (is : IsRanked before homes starts heaps heads) where
    -- the key of one slot is changed, and the head of its rank updated
    module _ (slot : ℕ) (home : PlaceInGroup) (at : slice_get homes slot ≡ Some home) (value : Option K) (heap new : List (Option K)) (is_heap : heap ≡ heap_at heaps home.group) (is_new : new ≡ set heap home.place value) where
      abbrev heaps_after_change : List (List (Option K))
      heaps_after_change = set heaps home.group new

      rank_in : home.group < length heaps
      rank_in = is.housed.group_in slot home at

      pub still_ranked : (new_heads : List (Option K)) → IsTold before (heap_at heaps_after_change home.group) heads new_heads home.group → IsRanked before homes starts heaps_after_change new_heads
      still_ranked new_heads told = record {
        housed = housed_after_change homes heaps is.housed slot home at value heap new is_heap is_new;
        started = is.started ∙ sym (length-set heaps home.group new);
        each = ap length told.put ∙ length-set heads home.group told.head ∙ is.each ∙ sym (length-set heaps home.group new);
        found = is.found;
        headed = λ rank l. go rank l (cases_eq rank home.group);
      }
        where
          here : key_at new_heads home.group ≡ told.head
          here =
              ap (λ hs. key_at hs home.group) told.put ∙ get_or-set_same heads home.group told.head None (omega (arith, rank_in, is.each))

          go : (rank : ℕ) → rank < length heaps_after_change → (rank ≡ home.group) ⊎ (rank ≢ home.group) → IsHeadOf before (heap_at heaps_after_change rank) (key_at new_heads rank)
          go rank l (inl e) =
              subst (λ r. IsHeadOf before (heap_at heaps_after_change r) (key_at new_heads r)) (sym e) (subst (IsHeadOf before (heap_at heaps_after_change home.group)) (sym here) told.is_head)
          go rank l (inr n) =
              let there : key_at new_heads rank ≡ key_at heads rank = ap (λ hs. key_at hs rank) told.put ∙ get_or-set_other heads home.group rank told.head None n in
              let same : heap_at heaps_after_change rank ≡ heap_at heaps rank = get_or-set_other heaps home.group rank new [] n in
              let was = is.headed rank (omega (arith, l, length-set heaps home.group new)) in
              subst (λ h. IsHeadOf before h (key_at new_heads rank)) (sym same) (subst (IsHeadOf before (heap_at heaps rank)) (sym there) was)

      pub changed_ranked : ranked homes heaps_after_change ≡ record { keys = set (ranked homes heaps).keys slot value; sizes = (ranked homes heaps).sizes }
      changed_ranked i = record { keys = keys i; sizes = sizes i }
        where
          keys : map (key_of_home heaps_after_change) homes ≡ set (map (key_of_home heaps) homes) slot value
          keys = ap (λ (q : Grouped K). q.keys) (grouped_after_change homes heaps is.housed slot home at value heap new is_heap is_new)

          sizes : map (λ (h : List (Option K)). length h) heaps_after_change ≡ map (λ (h : List (Option K)). length h) heaps
          sizes =
              sizes_unchanged_by_new_heap heaps home.group new (ap length is_new ∙ length-set heap home.place value ∙ ap length is_heap)

    -- a slot with a key has a home, and its rank has a head
    record HasHead (k : K) : Type 0 where
      rank : ℕ
      place : ℕ
      head : K
      at : key_at (heap_at heaps rank) place ≡ Some k
      head_is : key_at heads rank ≡ Some head
      least : before k head ≡ false

    has_head : (slot : ℕ) (k : K) → key_at (ranked homes heaps).keys slot ≡ Some k → HasHead k
    has_head slot k e = go (cases_lt slot (length homes))
      where
        told : (home : PlaceInGroup) → slice_get homes slot ≡ Some home → (head : Option K) → key_at heads home.group ≡ head → IsHeadOf before (heap_at heaps home.group) head → HasHead k
        told home at None f empty =
            absurd (none-some k (sym (empty home.place) ∙ sym (key_at_home homes heaps is.housed slot home at) ∙ e))
        told home at (Some head) f least =
            let there = sym (key_at_home homes heaps is.housed slot home at) ∙ e in
            record { rank = home.group; place = home.place; head = head; at = there; head_is = f; least = least.1.least home.place k there }

        go : (slot < length homes) ⊎ (length homes ≤ slot) → HasHead k
        go (inl l) =
            let home : PlaceInGroup = get_or homes slot (record { group = 0; place = 0 }) in
            let at : slice_get homes slot ≡ Some home = slice_get-get_or homes slot (record { group = 0; place = 0 }) l in
            told home at (key_at heads home.group) refl (is.headed home.group (is.housed.group_in slot home at))
        go (inr l) =
            let past : key_at (ranked homes heaps).keys slot ≡ None = get_or_past (ranked homes heaps).keys slot None (omega (arith, l, length-map homes (key_of_home heaps))) in
            absurd (none-some k (sym past ∙ e))

    pub empty_ranked : IsEmptyMap heads → IsEmptyMap (ranked homes heaps).keys
    empty_ranked none slot = go (key_at (ranked homes heaps).keys slot) refl
      where
        go : (o : Option K) → key_at (ranked homes heaps).keys slot ≡ o → o ≡ None
        go None e = refl
        go (Some k) e = let h = has_head slot k e in absurd (none-some h.head (sym (none h.rank) ∙ h.head_is))

    module _ (laws : IsOrder before) (rank : ℕ) (head : K) (least : IsLeast before heads rank head) where
      pub top_rank_within : rank < length heaps
      top_rank_within = go (cases_lt rank (length heads))
        where
          go : (rank < length heads) ⊎ (length heads ≤ rank) → rank < length heaps
          go (inl l) = omega (arith, l, is.each)
          go (inr l) = absurd (none-some head (sym (get_or_past heads rank None l) ∙ least.has))

      heap_top_of_rank : (place : ℕ) × IsLeast before (heap_at heaps rank) place head
      heap_top_of_rank = subst (IsHeadOf before (heap_at heaps rank)) least.has (is.headed rank top_rank_within)

      module _ (place : ℕ) (key : K) (least_here : IsLeast before (heap_at heaps rank) place key) where
        slot_at : (slot : ℕ) × (slice_get homes slot ≡ Some (record { group = rank; place = place }))
        slot_at = is.housed.inhabited rank place key least_here.has

        pub top_slot_within : slice_index starts rank + place < length homes
        top_slot_within =
            omega (arith, is.found slot_at.0 (record { group = rank; place = place }) slot_at.1, slice_get_within homes slot_at.0 (record { group = rank; place = place }) slot_at.1)

        pub least_of_all : IsLeast before (ranked homes heaps).keys (slice_index starts rank + place) key
        least_of_all =
            subst (λ s. IsLeast before (ranked homes heaps).keys s key) (is.found slot_at.0 (record { group = rank; place = place }) slot_at.1) (record {
              has = key_at_home homes heaps is.housed slot_at.0 (record { group = rank; place = place }) slot_at.1 ∙ least_here.has;
              least =
                  λ other k e.
                  let h = has_head other k e in
                  not_before_transitive before laws k h.head key h.least (not_before_transitive before laws h.head head key (least.least h.rank h.head h.head_is) (least_here.least heap_top_of_rank.0 head heap_top_of_rank.1.has));
            })

        pub not_empty_ranked : IsEmptyMap (ranked homes heaps).keys → ⊥
        not_empty_ranked empty = none-some key (sym (empty (slice_index starts rank + place)) ∙ least_of_all.has)
