-- Segments that begin all at once, and that keep out of one another's blocks.
use Rattle.std.proofs.Common.{ℕ, zero, suc, ◌+◌, ◌*◌, ◌<◌, ◌≤◌, ◌≡◌, ◌==◌, ◌&&◌, ⊎_elim, not, nat_lt, nat_le, Bool, true, false, List, [], ◌∷◌, length, map, Option, Some, None, if◌then◌else◌, refl, sym, ap, ◌∙◌, subst, arith, suc-mul}
use Rattle.std.proofs.lemmas.Bool.{lt-ltb, le-ltb, lt-leb, cases_lt, cases_eq}
use Rattle.std.proofs.Math.Nat.{mul-le-mul_right}
use Rattle.goal_graph.specs.declared.action.OpId.{OpId}
use Rattle.goal_graph.specs.declared.action.Class.{Class}
use Rattle.goal_graph.specs.declared.action.Class.TheVariants.{Arrive, Serve, Data, Post, Begin}
use Rattle.goal_graph.specs.declared.plan.Kind.{Kind}
use Rattle.goal_graph.specs.declared.plan.Kind.TheVariants.{Calc, Send, Recv}
use Rattle.goal_graph.specs.Schedule.{Plan, kind_at}
use Rattle.goal_graph.specs.Action.{Act, same_op}
use Rattle.goal_graph.specs.Matching.{pairs, partner}
use Rattle.goal_graph.specs.Interleaving.{IsCompleteInterleaving}
use Rattle.goal_limits.specs.declared.collective.Collective.{Collective}
use Rattle.goal_blocks.specs.Slots.{Adding, slots, adds}
use Rattle.goal_blocks.specs.Values.{Value, Store, Held, merge, set_slot, write, add_all, payload_from, read, change, held_after, value}
use Rattle.goal_blocks.specs.Stored.{IsSorted}
use Rattle.goal_blocks.specs.Collectives.{wanted, is_value}
use Rattle.goal_blocks.specs.Right.{EndsInItsPairs}
use Rattle.goal_blocks.specs.Certification.{IsCertified}
use Rattle.goal_blocks.specs.Segments.{exchange, initial_in, IsCertifiedIn, HoldsSegment}
use Rattle.goal_blocks.specs.Joined.{joined, all_starts, is_elsewhere, keeps_out}
use Rattle.goal_blocks.proofs.Sorted.{merge_first_none, merge_none, sorted_merge, length_merge}
use Rattle.goal_blocks.proofs.Starts.{initial_sorted}
use Rattle.goal_blocks.proofs.Wishes.{value_equal}
use Rattle.goal_blocks.proofs.Right.{certified_right}
use Rattle.goal_blocks.proofs.Segments.{blocks_right}
use Rattle.goal_blocks.proofs.Joined.{joined_holds}

-- values stay sorted
abbrev AllSorted : List Value → Type 0
AllSorted [] = Unit {0}
AllSorted (v ∷ vs) = IsSorted v × AllSorted vs

abbrev IsSortedStore : Store → Type 0
IsSortedStore store = (r k : ℕ) → IsSorted (store r k)

set_sorted : (rank slot : ℕ) (v : Value) (store : Store) → IsSorted v → IsSortedStore store → IsSortedStore (set_slot rank slot v store)
unfolding set_slot
set_sorted rank slot v store s each r k = go ((r == rank) && (k == slot))
  where
    go : (b : Bool) → IsSorted (if b then v else store r k)
    go true = s
    go false = each r k

write_sorted : (rank : ℕ) (ks : List ℕ) (vs : List Value) (store : Store) → AllSorted vs → IsSortedStore store → IsSortedStore (write rank ks vs store)
unfolding write
write_sorted rank [] vs store s each = each
write_sorted rank (k ∷ ks) [] store s each = each
write_sorted rank (k ∷ ks) (v ∷ vs) store s each =
    write_sorted rank ks vs (set_slot rank k v store) s.1 (set_sorted rank k v store s.0 each)

add_sorted : (rank : ℕ) (added : List Adding) (store : Store) → IsSortedStore store → IsSortedStore (add_all rank added store)
unfolding add_all
add_sorted rank [] store each = each
add_sorted rank (a ∷ more) store each =
    add_sorted rank more (set_slot rank a.to (merge (store rank a.to) (store rank a.from)) store) (set_sorted rank a.to (merge (store rank a.to) (store rank a.from)) store (sorted_merge (store rank a.to) (store rank a.from) (each rank a.from)) each)

reads_sorted : (rank : ℕ) (ks : List ℕ) (store : Store) → IsSortedStore store → AllSorted (map (store rank) ks)
reads_sorted rank [] store each = tt
reads_sorted rank (k ∷ ks) store each = (each rank k, reads_sorted rank ks store each)

record IsSortedHeld (held : Held) : Type 0 where
  stores : IsSortedStore held.store
  payloads : (m : OpId) → AllSorted (held.payload m)

module _ (plans : List Plan) (eager : OpId → Bool) where
  read_sorted : (m : OpId) (held : Held) → IsSortedHeld held → IsSortedHeld (read plans m held)
  unfolding read
  read_sorted m held s = record { stores = s.stores; payloads = λ n. payload n (same_op n m) }
    where
      payload : (n : OpId) (b : Bool) → AllSorted (if b then map (held.store m.rank) (slots plans m) else held.payload n)
      payload n true = reads_sorted m.rank (slots plans m) held.store s.stores
      payload n false = s.payloads n

  payload_from_sorted : (o : Option OpId) (held : Held) → IsSortedHeld held → AllSorted (payload_from held o)
  payload_from_sorted None held s = tt
  payload_from_sorted (Some m) held s = s.payloads m

  change_sorted : (with : Option OpId) (class : Class) (x : OpId) (kind : Option Kind) (held : Held) → IsSortedHeld held → IsSortedHeld (change plans eager with class x kind held)
  change_sorted with Begin x (Some (Calc nanos)) held s = record {
    stores = add_sorted x.rank (adds plans x) held.store s.stores;
    payloads = s.payloads;
  }
  change_sorted with Begin x (Some (Send bytes to tag)) held s = go (eager x)
    where
      go : (b : Bool) → IsSortedHeld (if b then read plans x held else held)
      go true = read_sorted x held s
      go false = s
  change_sorted with Begin x (Some (Recv room from tag)) held s = s
  change_sorted with Begin x None held s = s
  change_sorted with Data x (Some (Send bytes to tag)) held s = read_sorted x held s
  change_sorted with Data x (Some (Calc nanos)) held s = s
  change_sorted with Data x (Some (Recv room from tag)) held s = s
  change_sorted with Data x None held s = s
  change_sorted with Serve x (Some (Recv room from tag)) held s = record {
    stores = write_sorted x.rank (slots plans x) (payload_from held with) held.store (payload_from_sorted with held s) s.stores;
    payloads = s.payloads;
  }
  change_sorted with Serve x (Some (Calc nanos)) held s = s
  change_sorted with Serve x (Some (Send bytes to tag)) held s = s
  change_sorted with Serve x None held s = s
  change_sorted with Arrive x kind held s = s
  change_sorted with Post x kind held s = s

  held_sorted : (first : Store) → IsSortedStore first → (h : List Act) → IsSortedHeld (held_after plans eager first h)
  unfolding held_after
  held_sorted first s [] = record { stores = s; payloads = λ m. tt }
  held_sorted first s (a ∷ h) =
      change_sorted (partner (pairs plans h) a.op) a.class a.op (kind_at plans a.op) (held_after plans eager first h) (held_sorted first s h)

-- a schedule that starts with empty slots leaves them empty
abbrev empty_store : Store
empty_store rank slot = []

value_of_length_zero_is_empty : (v : Value) → length v ≡ 0 → v ≡ []
value_of_length_zero_is_empty [] e = refl
value_of_length_zero_is_empty (c ∷ v) e = absurd (omega (arith, e))

joined_nothing : empty_store ≡ joined empty_store empty_store
unfolding merge
joined_nothing = refl

empty_store_stays_empty : (plans : List Plan) (eager : OpId → Bool) (h : List Act) (rank slot : ℕ) → value plans eager empty_store h rank slot ≡ []
empty_store_stays_empty plans eager h rank slot =
    let twice : value plans eager empty_store h rank slot ≡ merge (value plans eager empty_store h rank slot) (value plans eager empty_store h rank slot) = ap (λ (s : Store). value plans eager s h rank slot) joined_nothing ∙ joined_holds plans eager empty_store empty_store h rank slot in
    let size = length_merge (value plans eager empty_store h rank slot) (value plans eager empty_store h rank slot) in
    let long = ap length twice in
    value_of_length_zero_is_empty (value plans eager empty_store h rank slot) (omega (arith, size, long))

-- different blocks share no slot
block_order : (width i j : ℕ) → i < j → i * width + width ≤ j * width
block_order width i j less =
    let le : suc i * width ≤ j * width = mul-le-mul_right width less in
    let is = suc-mul i width in
    omega (arith, le, is)

slot_of_other_block_is_elsewhere : (width count i j slot : ℕ) → j < count → slot < width → (i ≡ j → ⊥) → is_elsewhere width count i (j * width + slot) ≡ true
slot_of_other_block_is_elsewhere width count i j slot low inside ne = ⊎_elim before (λ le. after (omega (arith, le, ne))) (cases_lt i j)
  where
    within : nat_lt (j * width + slot) (count * width) ≡ true
    within =
        lt-ltb (j * width + slot) (count * width) (let le = block_order width j count low in omega (arith, le, inside))

    before : i < j → is_elsewhere width count i (j * width + slot) ≡ true
    before less =
        let le = block_order width i j less in
        (λ k. within k && not (nat_le (i * width) (j * width + slot) && le-ltb (j * width + slot) (i * width + width) (omega (arith, le)) k)) ∙ go (nat_le (i * width) (j * width + slot))
      where
        go : (b : Bool) → (true && not (b && false)) ≡ true
        go true = refl
        go false = refl

    after : j < i → is_elsewhere width count i (j * width + slot) ≡ true
    after less =
        let le = block_order width j i less in
        λ k. within k && not (lt-leb (i * width) (j * width + slot) (omega (arith, le, inside)) k && nat_lt (j * width + slot) (i * width + width))

module _ (what : Collective) (width count : ℕ) (plans : List Plan) (eager : OpId → Bool) (h : List Act) (each : (block : ℕ) → block < count → IsCertifiedIn what width block plans) (apart : (block : ℕ) → block < count → IsCertified plans (initial_in what width block (length plans)) (keeps_out width count block)) (done : IsCompleteInterleaving plans eager h) where
  -- the values that one segment leaves alone, and that the first n leave at once
  abbrev value_of_one_segment : ℕ → ℕ → ℕ → Value
  value_of_one_segment block = value plans eager (initial_in what width block (length plans)) h

  abbrev value_of_first_segments : ℕ → ℕ → ℕ → Value
  value_of_first_segments n = value plans eager (all_starts what width n (length plans)) h

  -- a segment leaves nothing in the block of another
  segment_leaves_other_blocks_empty : (i j rank slot : ℕ) → i < count → j < count → rank < length plans → slot < width → (i ≡ j → ⊥) → value_of_one_segment i rank (j * width + slot) ≡ []
  segment_leaves_other_blocks_empty i j rank slot low_i low_j inside within ne =
      let holds = (certified_right plans (initial_in what width i (length plans)) (keeps_out width count i) (apart i low_i) eager h done).wanted_held rank (j * width + slot) inside in
      value_equal (value_of_one_segment i rank (j * width + slot)) [] (sym (ap (λ (b : Bool). if b then is_value (value_of_one_segment i rank (j * width + slot)) [] else true) (slot_of_other_block_is_elsewhere width count i j slot low_j within ne)) ∙ holds)

  alone_sorted : (i rank slot : ℕ) → IsSorted (value_of_one_segment i rank slot)
  alone_sorted i rank slot =
      (held_sorted plans eager (initial_in what width i (length plans)) (λ r k. initial_sorted what (length plans) r (exchange width i k)) h).stores rank slot

  more_starts : (n : ℕ) → all_starts what width (suc n) (length plans) ≡ joined (all_starts what width n (length plans)) (initial_in what width n (length plans))
  unfolding all_starts
  more_starts n = refl

  no_starts : all_starts what width 0 (length plans) ≡ empty_store
  unfolding all_starts
  no_starts = refl

  at_once_merges_next_segment : (n rank slot : ℕ) → value_of_first_segments (suc n) rank slot ≡ merge (value_of_first_segments n rank slot) (value_of_one_segment n rank slot)
  at_once_merges_next_segment n rank slot =
      ap (λ (s : Store). value plans eager s h rank slot) (more_starts n) ∙ joined_holds plans eager (all_starts what width n (length plans)) (initial_in what width n (length plans)) h rank slot

  -- the first n segments leave later blocks empty; an earlier block has what its own segment leaves
  later_empty : (n : ℕ) → n ≤ count → (j rank slot : ℕ) → n ≤ j → j < count → rank < length plans → slot < width → value_of_first_segments n rank (j * width + slot) ≡ []
  later_empty zero le j rank slot later low inside within =
      ap (λ (s : Store). value plans eager s h rank (j * width + slot)) no_starts ∙ empty_store_stays_empty plans eager h rank (j * width + slot)
  later_empty (suc n) le j rank slot later low inside within =
      at_once_merges_next_segment n rank (j * width + slot) ∙ ((λ i. merge (later_empty n (omega (arith, le)) j rank slot (omega (arith, later)) low inside within i) (segment_leaves_other_blocks_empty n j rank slot (omega (arith, le)) low inside within (λ e. omega (arith, e, later)) i)) ∙ merge_first_none [])

  earlier_block_has_own_segment : (n : ℕ) → n ≤ count → (j rank slot : ℕ) → j < n → rank < length plans → slot < width → value_of_first_segments n rank (j * width + slot) ≡ value_of_one_segment j rank (j * width + slot)
  earlier_block_has_own_segment zero le j rank slot low inside within = absurd (omega (arith, low))
  earlier_block_has_own_segment (suc n) le j rank slot low inside within =
      at_once_merges_next_segment n rank (j * width + slot) ∙ ⊎_elim (here (λ e. later_empty n (omega (arith, le)) j rank slot (omega (arith, e)) (omega (arith, low, le)) inside within)) (before (λ less. earlier_block_has_own_segment n (omega (arith, le)) j rank slot less inside within)) (cases_eq j n)
    where
      here : (j ≡ n → value_of_first_segments n rank (j * width + slot) ≡ []) → j ≡ n → merge (value_of_first_segments n rank (j * width + slot)) (value_of_one_segment n rank (j * width + slot)) ≡ value_of_one_segment j rank (j * width + slot)
      here rest e =
          (λ i. merge (rest e i) (value_of_one_segment (sym e i) rank (j * width + slot))) ∙ merge_first_none (value_of_one_segment j rank (j * width + slot))

      before : (j < n → value_of_first_segments n rank (j * width + slot) ≡ value_of_one_segment j rank (j * width + slot)) → (j ≡ n → ⊥) → merge (value_of_first_segments n rank (j * width + slot)) (value_of_one_segment n rank (j * width + slot)) ≡ value_of_one_segment j rank (j * width + slot)
      before rest ne =
          (λ i. merge (rest (omega (arith, low, ne)) i) (segment_leaves_other_blocks_empty n j rank slot (omega (arith, le)) (omega (arith, low, le)) inside within (λ e. ne (sym e)) i)) ∙ merge_none (value_of_one_segment j rank (j * width + slot)) (alone_sorted j rank (j * width + slot))

  pub segments_at_once : (block : ℕ) → block < count → EndsInItsPairs plans eager h × HoldsSegment what width block plans (value plans eager (all_starts what width count (length plans)) h) × ((rank slot : ℕ) → rank < length plans → slot < width → value plans eager (all_starts what width count (length plans)) h rank (block * width + slot) ≡ value plans eager (initial_in what width block (length plans)) h rank (block * width + slot))
  segments_at_once block low =
      let right = blocks_right what width count plans each eager h done block low in
      (right.0, (λ rank slot inside within. subst (λ (v : Value). wanted what (length plans) rank slot v ≡ true) (sym (earlier_block_has_own_segment count (omega arith) block rank slot low inside within)) (right.1 rank slot inside within)), λ rank slot inside within. earlier_block_has_own_segment count (omega arith) block rank slot low inside within)
