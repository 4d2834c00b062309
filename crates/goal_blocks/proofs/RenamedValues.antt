-- What slots hold under new names is what they held, action by action.
use Rattle.std.proofs.Common.{ℕ, ◌≡◌, ◌==◌, ◌&&◌, Bool, true, false, List, [], ◌∷◌, map, Option, Some, None, if◌then◌else◌, refl, sym, ap, ◌∙◌, eq-eqb}
use Rattle.std.proofs.lemmas.Bool.{eqb-true, true≢false}
use Rattle.goal_graph.specs.declared.action.OpId.{OpId}
use Rattle.goal_graph.specs.declared.action.Class.{Class}
use Rattle.goal_graph.specs.declared.action.Class.TheVariants.{Serve, Data, Begin}
use Rattle.goal_graph.specs.declared.plan.Kind.{Kind}
use Rattle.goal_graph.specs.declared.plan.Kind.TheVariants.{Calc, Send, Recv}
use Rattle.goal_graph.specs.Schedule.{Plan, kind_at}
use Rattle.goal_graph.specs.Action.{Act, same_op}
use Rattle.goal_graph.specs.Matching.{Pair, pairs, partner}
use Rattle.goal_blocks.specs.Slots.{Adding, slots, adds}
use Rattle.goal_blocks.specs.Values.{Value, Store, Held, merge, set_slot, write, add_all, payload_from, read, change, held_after}
use Rattle.goal_blocks.specs.Renamed.{under, renamed_adding}
use Rattle.goal_blocks.specs.Laws.{IsUndoneBy, IsRenamed}
use Rattle.goal_blocks.proofs.AllowedAlike.{kind_alike, pairs_alike}

module _ (name old : ℕ → ℕ → ℕ) (undone : IsUndoneBy name old) where
  -- k is the new name of `slot` exactly if the old name of k is `slot`
  renamed_slot_test : (rank slot k : ℕ) → (k == name rank slot) ≡ (old rank k == slot)
  renamed_slot_test rank slot k = go (k == name rank slot) (old rank k == slot) refl refl
    where
      go : (a b : Bool) → (k == name rank slot) ≡ a → (old rank k == slot) ≡ b → a ≡ b
      go true true e f = refl
      go false false e f = refl
      go true false e f =
          let is : old rank k ≡ slot = ap (old rank) (eqb-true k (name rank slot) e) ∙ undone.back rank slot in
          absurd (true≢false (sym (eq-eqb (old rank k) slot is) ∙ f))
      go false true e f =
          let is : k ≡ name rank slot = sym (undone.forth rank k) ∙ ap (name rank) (eqb-true (old rank k) slot f) in
          absurd (true≢false (sym (eq-eqb k (name rank slot) is) ∙ e))

  set_under : (rank slot : ℕ) (v : Value) (store : Store) → set_slot rank (name rank slot) v (under old store) ≡ under old (set_slot rank slot v store)
  unfolding set_slot
  set_under rank slot v store = λ i r k. at r k i
    where
      at : (r k : ℕ) → (if (r == rank) && (k == name rank slot) then v else store r (old r k)) ≡ (if (r == rank) && (old r k == slot) then v else store r (old r k))
      at r k = go (r == rank) refl
        where
          go : (b : Bool) → (r == rank) ≡ b → (if b && (k == name rank slot) then v else store r (old r k)) ≡ (if b && (old r k == slot) then v else store r (old r k))
          go false e = refl
          go true e =
              let same : (k == name rank slot) ≡ (old r k == slot) = renamed_slot_test rank slot k ∙ ap (λ (q : ℕ). old q k == slot) (sym (eqb-true r rank e)) in
              ap (λ (b : Bool). if b then v else store r (old r k)) same

  write_under : (rank : ℕ) (ks : List ℕ) (vs : List Value) (store : Store) → write rank (map (name rank) ks) vs (under old store) ≡ under old (write rank ks vs store)
  unfolding write
  write_under rank [] vs store = refl
  write_under rank (k ∷ ks) [] store = refl
  write_under rank (k ∷ ks) (v ∷ vs) store =
      ap (λ (s : Store). write rank (map (name rank) ks) vs s) (set_under rank k v store) ∙ write_under rank ks vs (set_slot rank k v store)

  pub add_under : (rank : ℕ) (added : List Adding) (store : Store) → add_all rank (map (renamed_adding (name rank)) added) (under old store) ≡ under old (add_all rank added store)
  unfolding add_all
  add_under rank [] store = refl
  add_under rank (a ∷ more) store =
      ap (λ (s : Store). add_all rank (map (renamed_adding (name rank)) more) s) (sum ∙ set_under rank a.to (merge (store rank a.to) (store rank a.from)) store) ∙ add_under rank more (set_slot rank a.to (merge (store rank a.to) (store rank a.from)) store)
    where
      sum : set_slot rank (name rank a.to) (merge (store rank (old rank (name rank a.to))) (store rank (old rank (name rank a.from)))) (under old store) ≡ set_slot rank (name rank a.to) (merge (store rank a.to) (store rank a.from)) (under old store)
      sum =
          λ i. set_slot rank (name rank a.to) (merge (store rank (undone.back rank a.to i)) (store rank (undone.back rank a.from i))) (under old store)

  -- what is held, with the slots renamed
  abbrev pub renamed_held : Held → Held
  renamed_held held = record { store = under old held.store; payload = held.payload }

  reads_same : (rank : ℕ) (ks : List ℕ) (store : Store) → map (under old store rank) (map (name rank) ks) ≡ map (store rank) ks
  reads_same rank [] store = refl
  reads_same rank (k ∷ ks) store =
      λ i. store rank (undone.back rank k i) ∷ reads_same rank ks store i

  module _ (plans other : List Plan) (is : IsRenamed name plans other) where
    read_under : (m : OpId) (held : Held) → read other m (renamed_held held) ≡ renamed_held (read plans m held)
    unfolding read
    read_under m held =
        λ i. record { store = under old held.store; payload = λ n. if same_op n m then payload i else held.payload n }
      where
        payload : map (under old held.store m.rank) (slots other m) ≡ map (held.store m.rank) (slots plans m)
        payload =
            ap (map (under old held.store m.rank)) (is.moves m) ∙ reads_same m.rank (slots plans m) held.store

    change_under : (eager : OpId → Bool) (with : Option OpId) (class : Class) (x : OpId) (kind : Option Kind) (held : Held)
        → change other eager with class x kind (renamed_held held) ≡ renamed_held (change plans eager with class x kind held)
    change_under eager with Begin x (Some (Calc nanos)) held =
        let same : add_all x.rank (adds other x) (under old held.store) ≡ under old (add_all x.rank (adds plans x) held.store) = ap (λ (added : List Adding). add_all x.rank added (under old held.store)) (is.adds x) ∙ add_under x.rank (adds plans x) held.store in
        λ i. record { store = same i; payload = held.payload }
    change_under eager with Begin x (Some (Send bytes to tag)) held = go (eager x)
      where
        go : (b : Bool) → (if b then read other x (renamed_held held) else renamed_held held) ≡ renamed_held (if b then read plans x held else held)
        go true = read_under x held
        go false = refl
    change_under eager with Data x (Some (Send bytes to tag)) held = read_under x held
    change_under eager with Serve x (Some (Recv room from tag)) held =
        let same : write x.rank (slots other x) (payload_from (renamed_held held) with) (under old held.store) ≡ under old (write x.rank (slots plans x) (payload_from held with) held.store) = go with in
        λ i. record { store = same i; payload = held.payload }
      where
        go : (o : Option OpId) → write x.rank (slots other x) (payload_from (renamed_held held) o) (under old held.store) ≡ under old (write x.rank (slots plans x) (payload_from held o) held.store)
        go None =
            ap (λ (ks : List ℕ). write x.rank ks [] (under old held.store)) (is.moves x) ∙ write_under x.rank (slots plans x) [] held.store
        go (Some m) =
            ap (λ (ks : List ℕ). write x.rank ks (held.payload m) (under old held.store)) (is.moves x) ∙ write_under x.rank (slots plans x) (held.payload m) held.store
    change_under eager with _ x _ held = refl

    pub held_under : (eager : OpId → Bool) (first : Store) (h : List Act) → held_after other eager (under old first) h ≡ renamed_held (held_after plans eager first h)
    unfolding held_after
    held_under eager first [] = refl
    held_under eager first (a ∷ h) =
        ap (λ (ps : List Pair). change other eager (partner ps a.op) a.class a.op (kind_at other a.op) (held_after other eager (under old first) h)) (pairs_alike plans other is.ops h)
        ∙ ap (λ (k : Option Kind). change other eager (partner (pairs plans h) a.op) a.class a.op k (held_after other eager (under old first) h)) (kind_alike plans other is.ops a.op)
        ∙ ap (change other eager (partner (pairs plans h) a.op) a.class a.op (kind_at plans a.op)) (held_under eager first h)
        ∙ change_under eager (partner (pairs plans h) a.op) a.class a.op (kind_at plans a.op) (held_after plans eager first h)

    -- from the start that the names tell
    pub held_named : (eager : OpId → Bool) (first : Store) (h : List Act) → held_after other eager first h ≡ renamed_held (held_after plans eager (under name first) h)
    held_named eager first h =
        ap (λ (s : Store). held_after other eager s h) twice ∙ held_under eager (under name first) h
      where
        twice : first ≡ under old (under name first)
        twice = λ i r k. first r (sym (undone.forth r k) i)
