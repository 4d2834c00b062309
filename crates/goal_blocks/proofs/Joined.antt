-- Starting from two joined stores, a schedule holds the join of what it holds from each store alone.
use Rattle.std.proofs.Common.{ℕ, ◌≡◌, ◌==◌, ◌&&◌, Bool, true, false, List, [], ◌∷◌, length, map, Option, Some, None, if◌then◌else◌, refl, sym, ap, ◌∙◌, subst, arith}
use Rattle.std.proofs.lemmas.List.{length-map}
use Rattle.goal_graph.specs.declared.action.OpId.{OpId}
use Rattle.goal_graph.specs.declared.action.Class.{Class}
use Rattle.goal_graph.specs.declared.action.Class.TheVariants.{Arrive, Serve, Data, Post, Begin}
use Rattle.goal_graph.specs.declared.plan.Kind.{Kind}
use Rattle.goal_graph.specs.declared.plan.Kind.TheVariants.{Calc, Send, Recv}
use Rattle.goal_graph.specs.Schedule.{Plan, kind_at}
use Rattle.goal_graph.specs.Action.{Act, same_op}
use Rattle.goal_graph.specs.Matching.{pairs, partner}
use Rattle.goal_blocks.specs.Slots.{Adding, slots, adds}
use Rattle.goal_blocks.specs.Values.{Contribution, Value, Store, Held, insert_one, merge, set_slot, write, add_all, payload_from, read, change, held_after}
use Rattle.goal_blocks.specs.Joined.{joined}
use Rattle.goal_blocks.proofs.Gathered.{insert_swap, merge_insert}

-- merging values is associative, and operands may be swapped
merge_with_inserted_right : (c : Contribution) (v w : Value) → merge v (insert_one c w) ≡ insert_one c (merge v w)
unfolding merge
merge_with_inserted_right c [] w = refl
merge_with_inserted_right c (d ∷ v) w = ap (insert_one d) (merge_with_inserted_right c v w) ∙ insert_swap d c (merge v w)

merge_is_associative : (u v w : Value) → merge (merge u v) w ≡ merge u (merge v w)
unfolding merge
merge_is_associative [] v w = refl
merge_is_associative (c ∷ u) v w = merge_insert c (merge u v) w ∙ ap (insert_one c) (merge_is_associative u v w)

merge_swap : (u v w : Value) → merge u (merge v w) ≡ merge v (merge u w)
unfolding merge
merge_swap [] v w = refl
merge_swap (c ∷ u) v w = ap (insert_one c) (merge_swap u v w) ∙ sym (merge_with_inserted_right c v (merge u w))

merge_middle_operands_swap : (a b c d : Value) → merge (merge a b) (merge c d) ≡ merge (merge a c) (merge b d)
merge_middle_operands_swap a b c d =
    merge_is_associative a b (merge c d) ∙ (ap (merge a) (merge_swap b c d) ∙ sym (merge_is_associative a c (merge b d)))

merge_pairwise : List Value → List Value → List Value
merge_pairwise [] ws = []
merge_pairwise (v ∷ vs) [] = []
merge_pairwise (v ∷ vs) (w ∷ ws) = merge v w ∷ merge_pairwise vs ws

-- stores
abbrev IsJoin : Store → Store → Store → Type 0
IsJoin both first more = (r k : ℕ) → both r k ≡ merge (first r k) (more r k)

set_joined : (rank slot : ℕ) (u v w : Value) (both first more : Store) → u ≡ merge v w → IsJoin both first more → IsJoin (set_slot rank slot u both) (set_slot rank slot v first) (set_slot rank slot w more)
unfolding set_slot
set_joined rank slot u v w both first more e is r k = go ((r == rank) && (k == slot))
  where
    go : (b : Bool) → (if b then u else both r k) ≡ merge (if b then v else first r k) (if b then w else more r k)
    go true = e
    go false = is r k

write_joined : (rank : ℕ) (ks : List ℕ) (vs ws : List Value) (both first more : Store) → length vs ≡ length ws → IsJoin both first more → IsJoin (write rank ks (merge_pairwise vs ws) both) (write rank ks vs first) (write rank ks ws more)
unfolding write merge_pairwise
write_joined rank [] vs ws both first more e is = is
write_joined rank (k ∷ ks) [] [] both first more e is = is
write_joined rank (k ∷ ks) [] (w ∷ ws) both first more e is = absurd (omega (arith, e))
write_joined rank (k ∷ ks) (v ∷ vs) [] both first more e is = absurd (omega (arith, e))
write_joined rank (k ∷ ks) (v ∷ vs) (w ∷ ws) both first more e is =
    write_joined rank ks vs ws (set_slot rank k (merge v w) both) (set_slot rank k v first) (set_slot rank k w more) (omega (arith, e)) (set_joined rank k (merge v w) v w both first more refl is)

add_joined : (rank : ℕ) (added : List Adding) (both first more : Store) → IsJoin both first more → IsJoin (add_all rank added both) (add_all rank added first) (add_all rank added more)
unfolding add_all
add_joined rank [] both first more is = is
add_joined rank (a ∷ rest) both first more is =
    add_joined rank rest (set_slot rank a.to (merge (both rank a.to) (both rank a.from)) both) (set_slot rank a.to (merge (first rank a.to) (first rank a.from)) first) (set_slot rank a.to (merge (more rank a.to) (more rank a.from)) more) (set_joined rank a.to (merge (both rank a.to) (both rank a.from)) (merge (first rank a.to) (first rank a.from)) (merge (more rank a.to) (more rank a.from)) both first more sum is)
  where
    sum : merge (both rank a.to) (both rank a.from) ≡ merge (merge (first rank a.to) (first rank a.from)) (merge (more rank a.to) (more rank a.from))
    sum =
        (λ i. merge (is rank a.to i) (is rank a.from i)) ∙ merge_middle_operands_swap (first rank a.to) (more rank a.to) (first rank a.from) (more rank a.from)

reads_joined : (rank : ℕ) (ks : List ℕ) (both first more : Store) → IsJoin both first more → map (both rank) ks ≡ merge_pairwise (map (first rank) ks) (map (more rank) ks)
unfolding merge_pairwise
reads_joined rank [] both first more is = refl
reads_joined rank (k ∷ ks) both first more is =
    λ i. is rank k i ∷ reads_joined rank ks both first more is i

-- what is held
record IsHeldBoth (both first more : Held) : Type 0 where
  stores : IsJoin both.store first.store more.store
  payloads : (m : OpId) → both.payload m ≡ merge_pairwise (first.payload m) (more.payload m)
  lengths : (m : OpId) → length (first.payload m) ≡ length (more.payload m)

module _ (plans : List Plan) where
  read_joined : (m : OpId) (both first more : Held) → IsHeldBoth both first more → IsHeldBoth (read plans m both) (read plans m first) (read plans m more)
  unfolding read
  read_joined m both first more is = record {
    stores = is.stores;
    payloads = λ n. payload n (same_op n m);
    lengths = λ n. size n (same_op n m);
  }
    where
      payload : (n : OpId) (b : Bool) → (if b then map (both.store m.rank) (slots plans m) else both.payload n) ≡ merge_pairwise (if b then map (first.store m.rank) (slots plans m) else first.payload n) (if b then map (more.store m.rank) (slots plans m) else more.payload n)
      payload n true =
          reads_joined m.rank (slots plans m) both.store first.store more.store is.stores
      payload n false = is.payloads n

      size : (n : OpId) (b : Bool) → length (if b then map (first.store m.rank) (slots plans m) else first.payload n) ≡ length (if b then map (more.store m.rank) (slots plans m) else more.payload n)
      size n true =
          length-map (slots plans m) (first.store m.rank) ∙ sym (length-map (slots plans m) (more.store m.rank))
      size n false = is.lengths n

  taken_joined : (rank : ℕ) (ks : List ℕ) (o : Option OpId) (both first more : Held) → IsHeldBoth both first more → IsJoin (write rank ks (payload_from both o) both.store) (write rank ks (payload_from first o) first.store) (write rank ks (payload_from more o) more.store)
  unfolding merge_pairwise
  taken_joined rank ks None both first more is =
      write_joined rank ks [] [] both.store first.store more.store refl is.stores
  taken_joined rank ks (Some m) both first more is =
      subst (λ (vs : List Value). IsJoin (write rank ks vs both.store) (write rank ks (first.payload m) first.store) (write rank ks (more.payload m) more.store)) (sym (is.payloads m)) (write_joined rank ks (first.payload m) (more.payload m) both.store first.store more.store (is.lengths m) is.stores)

  change_joined : (eager : OpId → Bool) (with : Option OpId) (class : Class) (x : OpId) (kind : Option Kind) (both first more : Held) → IsHeldBoth both first more → IsHeldBoth (change plans eager with class x kind both) (change plans eager with class x kind first) (change plans eager with class x kind more)
  change_joined eager with Begin x (Some (Calc nanos)) both first more is = record {
    stores = add_joined x.rank (adds plans x) both.store first.store more.store is.stores;
    payloads = is.payloads;
    lengths = is.lengths;
  }
  change_joined eager with Begin x (Some (Send bytes to tag)) both first more is = go (eager x)
    where
      go : (b : Bool) → IsHeldBoth (if b then read plans x both else both) (if b then read plans x first else first) (if b then read plans x more else more)
      go true = read_joined x both first more is
      go false = is
  change_joined eager with Begin x (Some (Recv room from tag)) both first more is = is
  change_joined eager with Begin x None both first more is = is
  change_joined eager with Data x (Some (Send bytes to tag)) both first more is =
      read_joined x both first more is
  change_joined eager with Data x (Some (Calc nanos)) both first more is = is
  change_joined eager with Data x (Some (Recv room from tag)) both first more is = is
  change_joined eager with Data x None both first more is = is
  change_joined eager with Serve x (Some (Recv room from tag)) both first more is = record {
    stores = taken_joined x.rank (slots plans x) with both first more is;
    payloads = is.payloads;
    lengths = is.lengths;
  }
  change_joined eager with Serve x (Some (Calc nanos)) both first more is = is
  change_joined eager with Serve x (Some (Send bytes to tag)) both first more is = is
  change_joined eager with Serve x None both first more is = is
  change_joined eager with Arrive x kind both first more is = is
  change_joined eager with Post x kind both first more is = is

  held_joined : (eager : OpId → Bool) (first more : Store) (h : List Act) → IsHeldBoth (held_after plans eager (joined first more) h) (held_after plans eager first h) (held_after plans eager more h)
  unfolding held_after merge_pairwise
  held_joined eager first more [] = record { stores = λ r k. refl; payloads = λ m. refl; lengths = λ m. refl }
  held_joined eager first more (a ∷ h) =
      change_joined eager (partner (pairs plans h) a.op) a.class a.op (kind_at plans a.op) (held_after plans eager (joined first more) h) (held_after plans eager first h) (held_after plans eager more h) (held_joined eager first more h)

  pub joined_holds : (eager : OpId → Bool) (first more : Store) (h : List Act) (rank slot : ℕ) → (held_after plans eager (joined first more) h).store rank slot ≡ merge ((held_after plans eager first h).store rank slot) ((held_after plans eager more h).store rank slot)
  joined_holds eager first more h rank slot = (held_joined eager first more h).stores rank slot
