-- What the end of an operation does to stores and payloads, and that two operations that touch no slot of each
-- other's, neither of which takes the other's message, may end in either order.
use Rattle.std.proofs.Common.{⊎_elim, ℕ, zero, suc, ◌≡◌, ◌==◌, ◌&&◌, ◌⊎◌, inl, inr, Bool, true, false, List, [], ◌∷◌, map, flat_map, Contains, Option, Some, None, if◌then◌else◌, refl, sym, ap, ◌∙◌, subst, arith}
use Rattle.std.proofs.Common.{eq-eqb}
use Rattle.std.proofs.lemmas.Bool.{and_parts, cases_eq, eqb-true}
use Rattle.goal_graph.specs.declared.action.OpId.{OpId}
use Rattle.goal_graph.specs.declared.plan.Kind.{Kind}
use Rattle.goal_graph.specs.declared.plan.Kind.TheVariants.{Calc, Send, Recv}
use Rattle.goal_graph.specs.Schedule.{Plan, kind_at}
use Rattle.goal_graph.specs.Action.{same_op}
use Rattle.goal_graph.proofs.ForCallers.{contains_first, contains_more, same_op_true, same_op_false, same_or_different_op}
use Rattle.goal_blocks.specs.Slots.{Adding, slots, adds, written_in, touched_in, written, touched}
use Rattle.goal_blocks.specs.Values.{Value, Store, Held, payload_from, merge, set_slot, write, add_all, read}
use Rattle.goal_blocks.proofs.Orders.{Mem}

pub mem_contains : {A : Type 0} (x : A) (xs : List A) → Mem x xs → Contains xs x
mem_contains x [] m = absurd m
mem_contains x (y ∷ ys) (inl e) = contains_first y ys x e
mem_contains x (y ∷ ys) (inr m) = contains_more y ys x (mem_contains x ys m)

pub contains_mem : {A : Type 0} (x : A) (xs : List A) → Contains xs x → Mem x xs
contains_mem x [] (k, b, e) = absurd (omega (arith, b))
contains_mem x (y ∷ ys) (zero, b, e) = inl e
contains_mem x (y ∷ ys) (suc k, b, e) = inr (contains_mem x ys (k, omega (arith, b), e))

pub cases_mem : (k : ℕ) (ks : List ℕ) → Mem k ks ⊎ (Mem k ks → ⊥)
cases_mem k [] = inr (λ m. m)
cases_mem k (j ∷ ks) =
    ⊎_elim (λ e. inl (inl e)) (λ n. ⊎_elim (λ m. inl (inr m)) (λ none. inr (λ m. ⊎_elim n none m)) (cases_mem k ks)) (cases_eq j k)

-- two lists of slots have a common slot or are disjoint
pub cases_shared : (ks js : List ℕ) → ((k : ℕ) × Mem k ks × Mem k js) ⊎ ((k : ℕ) → Mem k ks → Mem k js → ⊥)
cases_shared [] js = inr (λ k m n. m)
cases_shared (k ∷ ks) js =
    ⊎_elim (λ m. inl (k, inl refl, m)) (λ n. ⊎_elim (λ s. inl (s.0, inr s.1, s.2)) (λ none. inr (λ j m l. ⊎_elim (λ e. n (subst (λ (i : ℕ). Mem i js) (sym e) l)) (λ o. none j o l) m)) (cases_shared ks js)) (cases_mem k js)

pub map_same : (f g : ℕ → Value) (ks : List ℕ) → ((k : ℕ) → Mem k ks → f k ≡ g k) → map f ks ≡ map g ks
map_same f g [] each = refl
map_same f g (k ∷ ks) each =
    let first = each k (inl refl) in
    let rest = map_same f g ks (λ j m. each j (inr m)) in
    λ i. first i ∷ rest i

pub set_slot_keeps_other_slots : (rank slot : ℕ) (v : Value) (s : Store) (r k : ℕ) → (r ≡ rank → slot ≡ k → ⊥) → set_slot rank slot v s r k ≡ s r k
unfolding set_slot
set_slot_keeps_other_slots rank slot v s r k apart = go ((r == rank) && (k == slot)) refl
  where
    go : (t : Bool) → ((r == rank) && (k == slot)) ≡ t → (if t then v else s r k) ≡ s r k
    go true e =
        let parts = and_parts (r == rank) (k == slot) e in
        absurd (apart (eqb-true r rank parts.0) (sym (eqb-true k slot parts.1)))
    go false e = refl

set_slot_alike : (rank slot : ℕ) (v w : Value) (s t : Store) (r k : ℕ) → v ≡ w → s r k ≡ t r k → set_slot rank slot v s r k ≡ set_slot rank slot w t r k
unfolding set_slot
set_slot_alike rank slot v w s t r k e f = go ((r == rank) && (k == slot))
  where
    go : (b : Bool) → (if b then v else s r k) ≡ (if b then w else t r k)
    go true = e
    go false = f

-- a slot that is set holds the value
pub set_slot_holds_value : (rank slot : ℕ) (v : Value) (s : Store) → set_slot rank slot v s rank slot ≡ v
unfolding set_slot
set_slot_holds_value rank slot v s = rw (eq-eqb rank rank refl, eq-eqb slot slot refl) refl

pub write_keeps_other_slots : (rank : ℕ) (ks : List ℕ) (vs : List Value) (s : Store) (r k : ℕ) → (r ≡ rank → Mem k ks → ⊥) → write rank ks vs s r k ≡ s r k
unfolding write
write_keeps_other_slots rank [] vs s r k apart = refl
write_keeps_other_slots rank (j ∷ ks) [] s r k apart = refl
write_keeps_other_slots rank (j ∷ ks) (v ∷ vs) s r k apart =
    write_keeps_other_slots rank ks vs (set_slot rank j v s) r k (λ e m. apart e (inr m)) ∙ set_slot_keeps_other_slots rank j v s r k (λ e m. apart e (inl m))

write_keeps_equality : (rank : ℕ) (ks : List ℕ) (vs : List Value) (s t : Store) (r k : ℕ) → s r k ≡ t r k → write rank ks vs s r k ≡ write rank ks vs t r k
unfolding write
write_keeps_equality rank [] vs s t r k e = e
write_keeps_equality rank (j ∷ ks) [] s t r k e = e
write_keeps_equality rank (j ∷ ks) (v ∷ vs) s t r k e =
    write_keeps_equality rank ks vs (set_slot rank j v s) (set_slot rank j v t) r k (set_slot_alike rank j v v s t r k refl e)

-- slots that are written by one rule hold what it gives
pub write_map : (rank : ℕ) (ks : List ℕ) (f : ℕ → Value) (s : Store) (k : ℕ) → Mem k ks → write rank ks (map f ks) s rank k ≡ f k
unfolding write
write_map rank [] f s k m = absurd m
write_map rank (j ∷ ks) f s k m =
    ⊎_elim (λ n. write_map rank ks f (set_slot rank j (f j) s) k n) (λ none. write_keeps_other_slots rank ks (map f ks) (set_slot rank j (f j) s) rank k (λ e n. none n) ∙ first (⊎_elim (λ e. e) (λ n. absurd (none n)) m)) (cases_mem k ks)
  where
    first : j ≡ k → set_slot rank j (f j) s rank k ≡ f k
    first e = subst (λ (l : ℕ). set_slot rank j (f j) s rank l ≡ f l) e (set_slot_holds_value rank j (f j) s)

abbrev targets : List Adding → List ℕ
targets more = map (λ (a : Adding). a.to) more

abbrev sides : List Adding → List ℕ
sides more = flat_map (λ (a : Adding). a.from ∷ a.to ∷ []) more

targets_sides : (more : List Adding) (k : ℕ) → Mem k (targets more) → Mem k (sides more)
targets_sides [] k m = m
targets_sides (a ∷ more) k m = ⊎_elim (λ e. inr (inl e)) (λ n. inr (inr (targets_sides more k n))) m

add_all_keeps_other_slots : (rank : ℕ) (more : List Adding) (s : Store) (r k : ℕ) → (r ≡ rank → Mem k (targets more) → ⊥) → add_all rank more s r k ≡ s r k
unfolding add_all
add_all_keeps_other_slots rank [] s r k apart = refl
add_all_keeps_other_slots rank (a ∷ more) s r k apart =
    add_all_keeps_other_slots rank more (set_slot rank a.to (merge (s rank a.to) (s rank a.from)) s) r k (λ e m. apart e (inr m)) ∙ set_slot_keeps_other_slots rank a.to (merge (s rank a.to) (s rank a.from)) s r k (λ e m. apart e (inl m))

add_all_keeps_equality : (rank : ℕ) (more : List Adding) (s t : Store) (r k : ℕ) → ((j : ℕ) → Mem j (sides more) → s rank j ≡ t rank j) → s r k ≡ t r k → add_all rank more s r k ≡ add_all rank more t r k
unfolding add_all
add_all_keeps_equality rank [] s t r k each e = e
add_all_keeps_equality rank (a ∷ more) s t r k each e =
    add_all_keeps_equality rank more (set_slot rank a.to (merge (s rank a.to) (s rank a.from)) s) (set_slot rank a.to (merge (t rank a.to) (t rank a.from)) t) r k (λ j m. set_slot_alike rank a.to _ _ s t rank j sums (each j (inr (inr m)))) (set_slot_alike rank a.to _ _ s t r k sums e)
  where
    sums : merge (s rank a.to) (s rank a.from) ≡ merge (t rank a.to) (t rank a.from)
    sums = let one = each a.to (inr (inl refl)) in let other = each a.from (inl refl) in λ i. merge (one i) (other i)

module _ (plans : List Plan) where
  pub written_touched : (x : OpId) (k : ℕ) → Mem k (written plans x) → Mem k (touched plans x)
  unfolding written touched
  written_touched x k m = go (kind_at plans x) m
    where
      go : (kind : Option Kind) → Mem k (written_in kind (slots plans x) (adds plans x)) → Mem k (touched_in kind (slots plans x) (adds plans x))
      go None n = absurd n
      go (Some (Calc nanos)) n = targets_sides (adds plans x) k n
      go (Some (Send bytes to tag)) n = absurd n
      go (Some (Recv room from tag)) n = n

  module _ (sender : OpId → Option OpId) where
    -- what the end of x, an operation of that kind, does
    abbrev pub effect : OpId → Option Kind → Held → Held
    effect x (Some (Calc nanos)) held = record { store = add_all x.rank (adds plans x) held.store; payload = held.payload }
    effect x (Some (Send bytes to tag)) held = read plans x held
    effect x (Some (Recv room from tag)) held = record { store = write x.rank (slots plans x) (payload_from held (sender x)) held.store; payload = held.payload }
    effect x None held = held

    abbrev pub ended : OpId → Held → Held
    ended x held = effect x (kind_at plans x) held

    pub store_keeps : (x : OpId) (s : Held) (r k : ℕ) → (r ≡ x.rank → Mem k (written plans x) → ⊥) → (ended x s).store r k ≡ s.store r k
    unfolding written read
    store_keeps x s r k apart = go (kind_at plans x) apart
      where
        go : (kind : Option Kind) → (r ≡ x.rank → Mem k (written_in kind (slots plans x) (adds plans x)) → ⊥) → (effect x kind s).store r k ≡ s.store r k
        go None n = refl
        go (Some (Calc nanos)) n = add_all_keeps_other_slots x.rank (adds plans x) s.store r k n
        go (Some (Send bytes to tag)) n = refl
        go (Some (Recv room from tag)) n =
            write_keeps_other_slots x.rank (slots plans x) (payload_from s (sender x)) s.store r k n

    -- the stores agree on the slots that x touches
    abbrev AgreeFor : OpId → Held → Held → Type 0
    AgreeFor x s t = (j : ℕ) → Mem j (touched plans x) → s.store x.rank j ≡ t.store x.rank j

    store_same : (x : OpId) (s t : Held) (r k : ℕ) → AgreeFor x s t → payload_from s (sender x) ≡ payload_from t (sender x) → s.store r k ≡ t.store r k → (ended x s).store r k ≡ (ended x t).store r k
    unfolding touched read
    store_same x s t r k each payload e = go (kind_at plans x) each
      where
        go : (kind : Option Kind) → ((j : ℕ) → Mem j (touched_in kind (slots plans x) (adds plans x)) → s.store x.rank j ≡ t.store x.rank j) → (effect x kind s).store r k ≡ (effect x kind t).store r k
        go None n = e
        go (Some (Calc nanos)) n = add_all_keeps_equality x.rank (adds plans x) s.store t.store r k n e
        go (Some (Send bytes to tag)) n = e
        go (Some (Recv room from tag)) n =
            write_keeps_equality x.rank (slots plans x) (payload_from s (sender x)) s.store t.store r k e ∙ ap (λ (vs : List Value). write x.rank (slots plans x) vs t.store r k) payload

    pub payload_keeps : (x : OpId) (s : Held) (n : OpId) → (x ≡ n → ⊥) → (ended x s).payload n ≡ s.payload n
    unfolding read
    payload_keeps x s n differ = go (kind_at plans x)
      where
        at : (b : Bool) → same_op n x ≡ b → (if b then map (s.store x.rank) (slots plans x) else s.payload n) ≡ s.payload n
        at true e = absurd (differ (sym (same_op_true n x e)))
        at false e = refl

        go : (kind : Option Kind) → (effect x kind s).payload n ≡ s.payload n
        go None = refl
        go (Some (Calc nanos)) = refl
        go (Some (Send bytes to tag)) = at (same_op n x) refl
        go (Some (Recv room from tag)) = refl

    payload_same : (x : OpId) (s t : Held) (n : OpId) → AgreeFor x s t → s.payload n ≡ t.payload n → (ended x s).payload n ≡ (ended x t).payload n
    unfolding touched read
    payload_same x s t n each e = go (kind_at plans x) each
      where
        at : map (s.store x.rank) (slots plans x) ≡ map (t.store x.rank) (slots plans x) → (b : Bool) → (if b then map (s.store x.rank) (slots plans x) else s.payload n) ≡ (if b then map (t.store x.rank) (slots plans x) else t.payload n)
        at same true = same
        at same false = e

        go : (kind : Option Kind) → ((j : ℕ) → Mem j (touched_in kind (slots plans x) (adds plans x)) → s.store x.rank j ≡ t.store x.rank j) → (effect x kind s).payload n ≡ (effect x kind t).payload n
        go None f = e
        go (Some (Calc nanos)) f = e
        go (Some (Send bytes to tag)) f =
            at (map_same (s.store x.rank) (t.store x.rank) (slots plans x) f) (same_op n x)
        go (Some (Recv room from tag)) f = e

    -- x writes no slot that y touches
    abbrev pub IsClear : OpId → OpId → Type 0
    IsClear x y = (k : ℕ) → y.rank ≡ x.rank → Mem k (touched plans y) → Mem k (written plans x) → ⊥

    module _ (x y : OpId) (s : Held) (differ : x ≡ y → ⊥) (clear_x : IsClear x y) (clear_y : IsClear y x) (not_of_y : sender x ≡ Some y → ⊥) (not_of_x : sender y ≡ Some x → ⊥) where
      agree_x : AgreeFor x (ended y s) s
      agree_x j m = store_keeps y s x.rank j (λ e w. clear_y j e m w)

      agree_y : AgreeFor y (ended x s) s
      agree_y j m = store_keeps x s y.rank j (λ e w. clear_x j e m w)

      message : (z : OpId) (o : Option OpId) → (o ≡ Some z → ⊥) → payload_from (ended z s) o ≡ payload_from s o
      message z None other = refl
      message z (Some m) other = payload_keeps z s m (λ e. other (ap (λ (w : OpId). Some w) (sym e)))

      stores : (r k : ℕ) → (ended x (ended y s)).store r k ≡ (ended y (ended x s)).store r k
      stores r k = ⊎_elim (λ e. ⊎_elim (λ m. at_x e m) (λ n. elsewhere (λ p m. n m)) (cases_mem k (written plans x))) (λ n. elsewhere (λ p m. n p)) (cases_eq r x.rank)
        where
          at_x : r ≡ x.rank → Mem k (written plans x) → (ended x (ended y s)).store r k ≡ (ended y (ended x s)).store r k
          at_x e m =
              let free : (t : Held) → (ended y t).store r k ≡ t.store r k = λ t. store_keeps y t r k (λ p w. clear_y k (sym e ∙ p) (written_touched x k m) w) in
              store_same x (ended y s) s r k agree_x (message y (sender x) not_of_y) (free s) ∙ sym (free (ended x s))

          elsewhere : (r ≡ x.rank → Mem k (written plans x) → ⊥) → (ended x (ended y s)).store r k ≡ (ended y (ended x s)).store r k
          elsewhere none =
              store_keeps x (ended y s) r k none ∙ sym (store_same y (ended x s) s r k agree_y (message x (sender y) not_of_x) (store_keeps x s r k none))

      payloads : (n : OpId) → (ended x (ended y s)).payload n ≡ (ended y (ended x s)).payload n
      payloads n =
          ⊎_elim (λ e. at_x e) (λ f. elsewhere (λ e. same_op_false x n f e)) (same_or_different_op x n)
        where
          at_x : x ≡ n → (ended x (ended y s)).payload n ≡ (ended y (ended x s)).payload n
          at_x e =
              let free : (t : Held) → (ended y t).payload n ≡ t.payload n = λ t. payload_keeps y t n (λ f. differ (e ∙ sym f)) in
              payload_same x (ended y s) s n agree_x (free s) ∙ sym (free (ended x s))

          elsewhere : (x ≡ n → ⊥) → (ended x (ended y s)).payload n ≡ (ended y (ended x s)).payload n
          elsewhere none =
              payload_keeps x (ended y s) n none ∙ sym (payload_same y (ended x s) s n agree_y (payload_keeps x s n none))

      pub swapped : ended x (ended y s) ≡ ended y (ended x s)
      swapped = λ i. record { store = λ r k. stores r k i; payload = λ n. payloads n i }
