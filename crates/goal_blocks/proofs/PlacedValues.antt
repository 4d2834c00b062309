-- On other ranks the slots hold what they held, with its contributions relabelled.
use Rattle.std.proofs.Common.{ℕ, ◌≡◌, ◌==◌, ◌&&◌, Bool, true, false, List, [], ◌∷◌, map, Option, Some, None, if◌then◌else◌, refl, sym, ap, ◌∙◌, subst}
use Rattle.std.specs.Option.{option_map}
use Rattle.goal_graph.specs.declared.action.OpId.{OpId}
use Rattle.goal_graph.specs.declared.action.Class.{Class}
use Rattle.goal_graph.specs.declared.action.Class.TheVariants.{Arrive, Serve, Data, Post, Begin}
use Rattle.goal_graph.specs.declared.plan.Kind.{Kind}
use Rattle.goal_graph.specs.declared.plan.Kind.TheVariants.{Calc, Send, Recv}
use Rattle.goal_graph.specs.Schedule.{Plan, kind_at}
use Rattle.goal_graph.specs.Action.{Act, same_op}
use Rattle.goal_graph.specs.Matching.{pairs, partner}
use Rattle.goal_blocks.specs.Slots.{Adding, slots, adds}
use Rattle.goal_blocks.specs.Values.{Contribution, Value, Store, Held, is_lower, insert_one, merge, set_slot, write, add_all, payload_from, read, change, held_after}
use Rattle.goal_blocks.specs.Placed.{IsPermutation, IsPlaced, placed_op, placed_act, placed_kind, relabelled}
use Rattle.goal_blocks.proofs.Gathered.{insert_swap, merge_insert}
use Rattle.goal_blocks.proofs.PlacedAlike.{renaming_keeps_rank_equality, same_place_op, kind_placed, mate_placed}

module _ (label : Contribution → Contribution) where
  relabelled_insert : (c : Contribution) (v : Value) → relabelled label (insert_one c v) ≡ insert_one (label c) (relabelled label v)
  unfolding relabelled insert_one
  relabelled_insert c [] = refl
  relabelled_insert c (d ∷ ds) = go (relabelled_insert c ds) (is_lower c d)
    where
      go : relabelled label (insert_one c ds) ≡ insert_one (label c) (relabelled label ds) → (b : Bool) → relabelled label (if b then c ∷ d ∷ ds else d ∷ insert_one c ds) ≡ insert_one (label c) (insert_one (label d) (relabelled label ds))
      go rest true = refl
      go rest false =
          ap (insert_one (label d)) rest ∙ insert_swap (label d) (label c) (relabelled label ds)

  pub relabelled_merge : (v w : Value) → relabelled label (merge v w) ≡ merge (relabelled label v) (relabelled label w)
  unfolding relabelled merge
  relabelled_merge [] w = refl
  relabelled_merge (c ∷ v) w =
      relabelled_insert c (merge v w) ∙ (ap (insert_one (label c)) (relabelled_merge v w) ∙ sym (merge_insert (label c) (relabelled label v) (relabelled label w)))

  module _ (ranks : ℕ) (to back : ℕ → ℕ) (perm : IsPermutation ranks to back) where
    -- a store on the renamed ranks holds the relabelled values
    abbrev pub IsStoreOf : Store → Store → Type 0
    IsStoreOf store other =
        (rank slot : ℕ) → other (to rank) slot ≡ relabelled label (store rank slot)

    set_placed : (rank slot : ℕ) (v w : Value) (store other : Store) → w ≡ relabelled label v → IsStoreOf store other → IsStoreOf (set_slot rank slot v store) (set_slot (to rank) slot w other)
    unfolding set_slot
    set_placed rank slot v w store other same is r k =
        (λ i. if renaming_keeps_rank_equality ranks to back perm r rank i && (k == slot) then same i else is r k i) ∙ go ((r == rank) && (k == slot))
      where
        go : (b : Bool) → (if b then relabelled label v else relabelled label (store r k)) ≡ relabelled label (if b then v else store r k)
        go true = refl
        go false = refl

    write_placed : (rank : ℕ) (ks : List ℕ) (vs : List Value) (store other : Store) → IsStoreOf store other → IsStoreOf (write rank ks vs store) (write (to rank) ks (map (relabelled label) vs) other)
    unfolding write
    write_placed rank [] vs store other is = is
    write_placed rank (k ∷ ks) [] store other is = is
    write_placed rank (k ∷ ks) (v ∷ vs) store other is =
        write_placed rank ks vs (set_slot rank k v store) (set_slot (to rank) k (relabelled label v) other) (set_placed rank k v (relabelled label v) store other refl is)

    add_placed : (rank : ℕ) (added : List Adding) (store other : Store) → IsStoreOf store other → IsStoreOf (add_all rank added store) (add_all (to rank) added other)
    unfolding add_all
    add_placed rank [] store other is = is
    add_placed rank (a ∷ more) store other is =
        add_placed rank more (set_slot rank a.to (merge (store rank a.to) (store rank a.from)) store) (set_slot (to rank) a.to (merge (other (to rank) a.to) (other (to rank) a.from)) other) (set_placed rank a.to (merge (store rank a.to) (store rank a.from)) (merge (other (to rank) a.to) (other (to rank) a.from)) store other sum is)
      where
        sum : merge (other (to rank) a.to) (other (to rank) a.from) ≡ relabelled label (merge (store rank a.to) (store rank a.from))
        sum =
            (λ i. merge (is rank a.to i) (is rank a.from i)) ∙ sym (relabelled_merge (store rank a.to) (store rank a.from))

    -- so do what sends have read
    pub record IsHeldOf (held other : Held) : Type 0 where
      pub stores : IsStoreOf held.store other.store
      pub payloads : (m : OpId) → other.payload (placed_op to m) ≡ map (relabelled label) (held.payload m)

    reads_placed : (rank : ℕ) (ks : List ℕ) (store other : Store) → IsStoreOf store other → map (other (to rank)) ks ≡ map (relabelled label) (map (store rank) ks)
    reads_placed rank [] store other is = refl
    reads_placed rank (k ∷ ks) store other is =
        λ i. is rank k i ∷ reads_placed rank ks store other is i

    module _ (plans other : List Plan) (placed : IsPlaced to plans other) where
      read_placed : (m : OpId) (held there : Held) → IsHeldOf held there → IsHeldOf (read plans m held) (read other (placed_op to m) there)
      unfolding read
      read_placed m held there is = record {
        stores = is.stores;
        payloads = λ n. (λ i. if same_place_op ranks to back perm n m i then payload i else is.payloads n i) ∙ go (same_op n m) n;
      }
        where
          payload : map (there.store (to m.rank)) (slots other (placed_op to m)) ≡ map (relabelled label) (map (held.store m.rank) (slots plans m))
          payload =
              ap (map (there.store (to m.rank))) (placed.moves m) ∙ reads_placed m.rank (slots plans m) held.store there.store is.stores

          go : (b : Bool) (n : OpId) → (if b then map (relabelled label) (map (held.store m.rank) (slots plans m)) else map (relabelled label) (held.payload n)) ≡ map (relabelled label) (if b then map (held.store m.rank) (slots plans m) else held.payload n)
          go true n = refl
          go false n = refl

      from_placed : (o : Option OpId) (held there : Held) → IsHeldOf held there → payload_from there (option_map (placed_op to) o) ≡ map (relabelled label) (payload_from held o)
      from_placed None held there is = refl
      from_placed (Some m) held there is = is.payloads m

      module _ (eager : OpId → Bool) where
        abbrev alike : OpId → Bool
        alike x = eager (placed_op to x)

        change_placed : (with : Option OpId) (class : Class) (x : OpId) (kind : Option Kind) (held there : Held) → IsHeldOf held there
            → IsHeldOf (change plans alike with class x kind held) (change other eager (option_map (placed_op to) with) class (placed_op to x) (option_map (placed_kind to) kind) there)
        change_placed with Begin x (Some (Calc nanos)) held there is = record {
          stores = λ rank slot. ap (λ (added : List Adding). add_all (to x.rank) added there.store (to rank) slot) (placed.adds x) ∙ add_placed x.rank (adds plans x) held.store there.store is.stores rank slot;
          payloads = is.payloads;
        }
        change_placed with Begin x (Some (Send bytes target tag)) held there is = go (eager (placed_op to x))
          where
            go : (b : Bool) → IsHeldOf (if b then read plans x held else held) (if b then read other (placed_op to x) there else there)
            go true = read_placed x held there is
            go false = is
        change_placed with Begin x (Some (Recv room source tag)) held there is = is
        change_placed with Begin x None held there is = is
        change_placed with Data x (Some (Send bytes target tag)) held there is =
            read_placed x held there is
        change_placed with Data x (Some (Calc nanos)) held there is = is
        change_placed with Data x (Some (Recv room source tag)) held there is = is
        change_placed with Data x None held there is = is
        change_placed with Serve x (Some (Recv room source tag)) held there is = record {
          stores = λ rank slot. (λ i. write (to x.rank) (placed.moves x i) (from_placed with held there is i) there.store (to rank) slot) ∙ write_placed x.rank (slots plans x) (payload_from held with) held.store there.store is.stores rank slot;
          payloads = is.payloads;
        }
        change_placed with Serve x (Some (Calc nanos)) held there is = is
        change_placed with Serve x (Some (Send bytes target tag)) held there is = is
        change_placed with Serve x None held there is = is
        change_placed with Arrive x kind held there is = is
        change_placed with Post x kind held there is = is

        pub held_placed : (first start : Store) → IsStoreOf first start → (h : List Act) → IsHeldOf (held_after plans alike first h) (held_after other eager start (map (placed_act to) h))
        unfolding held_after
        held_placed first start is [] = record { stores = is; payloads = λ m. refl }
        held_placed first start is (a ∷ h) =
            now (held_placed first start is h) (mate_placed ranks to back perm plans other placed.ops h a.op) (kind_placed ranks to back perm plans other placed.ops a.op)
          where
            now : {o : Option OpId} {k : Option Kind} → IsHeldOf (held_after plans alike first h) (held_after other eager start (map (placed_act to) h)) → o ≡ option_map (placed_op to) (partner (pairs plans h) a.op) → k ≡ option_map (placed_kind to) (kind_at plans a.op) → IsHeldOf (change plans alike (partner (pairs plans h) a.op) a.class a.op (kind_at plans a.op) (held_after plans alike first h)) (change other eager o a.class (placed_op to a.op) k (held_after other eager start (map (placed_act to) h)))
            now {o} {k} rest e f =
                subst (λ (p : Option OpId). IsHeldOf (change plans alike (partner (pairs plans h) a.op) a.class a.op (kind_at plans a.op) (held_after plans alike first h)) (change other eager p a.class (placed_op to a.op) k (held_after other eager start (map (placed_act to) h)))) (sym e) (subst (λ (l : Option Kind). IsHeldOf (change plans alike (partner (pairs plans h) a.op) a.class a.op (kind_at plans a.op) (held_after plans alike first h)) (change other eager (option_map (placed_op to) (partner (pairs plans h) a.op)) a.class (placed_op to a.op) l (held_after other eager start (map (placed_act to) h)))) (sym f) (change_placed (partner (pairs plans h) a.op) a.class a.op (kind_at plans a.op) (held_after plans alike first h) (held_after other eager start (map (placed_act to) h)) rest))
