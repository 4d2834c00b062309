-- Where no operation adds, and each slot has at most one contribution at the start, each value has at most one after all actions; so
-- at most the contributions of the start are held, plus one for each slot that a move names.
use Rattle.std.proofs.Common.{⊎_elim, ℕ, ◌+◌, ◌≤◌, ◌≡◌, ◌==◌, ◌&&◌, ◌⊎◌, inl, inr, Bool, true, false, List, [], ◌∷◌, map, flat_map, length, All, slice_index_or, Option, Some, None, if◌then◌else◌, refl, sym, ap, ◌∙◌, subst, arith, ◌++◌}
use Rattle.std.specs.List.{sum_by}
use Rattle.std.proofs.lemmas.Bool.{cases_eq}
use Rattle.std.proofs.lemmas.List.{length-map, length-append}
use Rattle.std.proofs.lemmas.List.Concat.{flat_map-cons}
use Rattle.std.proofs.lemmas.List.Elements.{All-nil, All-head, All-tail, All-map}
use Rattle.std.proofs.lemmas.List.Sums.{sum_by-cons}
use Rattle.goal_graph.specs.declared.action.OpId.{OpId}
use Rattle.goal_graph.specs.declared.action.Class.{Class}
use Rattle.goal_graph.specs.declared.action.Class.TheVariants.{Arrive, Serve, Data, Post, Begin}
use Rattle.goal_graph.specs.declared.plan.Kind.{Kind}
use Rattle.goal_graph.specs.declared.plan.Kind.TheVariants.{Calc, Send, Recv}
use Rattle.goal_graph.specs.Schedule.{Plan, kind_at, operations}
use Rattle.goal_graph.specs.Action.{Act, same_op}
use Rattle.goal_graph.specs.Matching.{pairs, partner}
use Rattle.goal_graph.proofs.ForCallers.{kind_listed, same_op_true}
use Rattle.goal_blocks.specs.Slots.{Adding, notes_at, slots, adds, written, written_in}
use Rattle.goal_blocks.specs.Values.{Value, Store, Held, payload_from, set_slot, write, add_all, read, change, held_after}
use Rattle.goal_blocks.specs.Weight.{stored, is_under_way, carried, weight}
use Rattle.goal_blocks.specs.HeldFew.{AddsNothing, IsSingle, HoldsSingles, held_and_read, moved_slots}
use Rattle.goal_blocks.proofs.Orders.{Mem}
use Rattle.goal_blocks.proofs.Effects.{cases_mem, contains_mem, write_keeps_other_slots}
use Rattle.goal_blocks.proofs.Blueprint.{mem_map}
use Rattle.goal_blocks.proofs.Totals.{sum_by_le}
use Rattle.goal_blocks.proofs.MovedSlots.{Place, total_places, sum_of_pointwise_sums, moves_of_all}

abbrev AreSingle : Store → Type 0
AreSingle s = (r k : ℕ) → IsSingle (s r k)

set_single : (rank slot : ℕ) (v : Value) (s : Store) → IsSingle v → AreSingle s → AreSingle (set_slot rank slot v s)
unfolding set_slot
set_single rank slot v s few all r k = go ((r == rank) && (k == slot))
  where
    go : (b : Bool) → length (if b then v else s r k) ≤ 1
    go true = few
    go false = all r k

write_single : (rank : ℕ) (ks : List ℕ) (vs : List Value) (s : Store) → All IsSingle vs → AreSingle s → AreSingle (write rank ks vs s)
unfolding write
write_single rank [] vs s few all = all
write_single rank (k ∷ ks) [] s few all = all
write_single rank (k ∷ ks) (v ∷ vs) s few all =
    write_single rank ks vs (set_slot rank k v s) (All-tail IsSingle v vs few) (set_single rank k v s (All-head IsSingle v vs few) all)

map_single : (f : ℕ → Value) (ks : List ℕ) → ((k : ℕ) → IsSingle (f k)) → All IsSingle (map f ks)
map_single f ks each = All-map IsSingle f ks (λ k d l. each (slice_index_or ks k d))

-- values of at most one contribution each have together at most as many contributions as values
singles_few : (vs : List Value) → All IsSingle vs → sum_by (λ (v : Value). length v) vs ≤ length vs
singles_few [] all = omega arith
singles_few (v ∷ vs) all =
    let here = All-head IsSingle v vs all in
    let rest = singles_few vs (All-tail IsSingle v vs all) in
    rw (sum_by-cons (λ (v : Value). length v) v vs) (omega (arith, here, rest))

module _ (plans : List Plan) (first : Store) (eager : OpId → Bool) (nothing : AddsNothing plans) (single : AreSingle first) where
  -- what holds after all actions: each value has at most one contribution, is the first or was written, and what was read
  -- is what a send reads
  pub record Fate (s : Held) : Type 0 where
    singles : HoldsSingles s
    origin : (r k : ℕ) → (s.store r k ≡ first r k) ⊎ ((x : OpId) × (x.rank ≡ r) × Mem k (written plans x))
    lengths : (m : OpId) → length (written plans m) + length (s.payload m) ≤ length (slots plans m)

  written_few : (m : OpId) → length (written plans m) ≤ length (slots plans m)
  unfolding written
  written_few m = go (kind_at plans m)
    where
      go : (k : Option Kind) → length (written_in k (slots plans m) (adds plans m)) ≤ length (slots plans m)
      go None = omega arith
      go (Some (Send bytes to tag)) = omega arith
      go (Some (Recv room from tag)) = omega arith
      go (Some (Calc nanos)) = rw (nothing m) (omega arith)

  fate_at_start : Fate (held_after plans eager first [])
  unfolding held_after
  fate_at_start = record {
    singles = record { slots = single; payloads = λ m. All-nil IsSingle };
    origin = λ r k. inl refl;
    lengths = λ m. let few = written_few m in omega (arith, few);
  }

  -- the send m reads its slots
  read_fate : (m : OpId) (s : Held) → written plans m ≡ [] → Fate s → Fate (read plans m s)
  unfolding read
  read_fate m s none f = record {
    singles = record { slots = f.singles.slots; payloads = λ n. all n (same_op n m) };
    origin = f.origin;
    lengths = λ n. few n (same_op n m) refl;
  }
    where
      all : (n : OpId) (b : Bool) → All IsSingle (if b then map (s.store m.rank) (slots plans m) else s.payload n)
      all n true = map_single (s.store m.rank) (slots plans m) (λ k. f.singles.slots m.rank k)
      all n false = f.singles.payloads n

      few : (n : OpId) (b : Bool) → same_op n m ≡ b → length (written plans n) + length (if b then map (s.store m.rank) (slots plans m) else s.payload n) ≤ length (slots plans n)
      few n false e = f.lengths n
      few n true e =
          let size = length-map (slots plans m) (s.store m.rank) in
          subst (λ (o : OpId). length (written plans o) + length (map (s.store m.rank) (slots plans m)) ≤ length (slots plans o)) (sym (same_op_true n m e)) (rw none (omega (arith, size)))

  -- the receive x writes its slots
  write_fate : (x : OpId) (vs : List Value) (s : Held) → written plans x ≡ slots plans x → All IsSingle vs → Fate s → Fate (record { store = write x.rank (slots plans x) vs s.store; payload = s.payload })
  write_fate x vs s all few f = record {
    singles = record { slots = write_single x.rank (slots plans x) vs s.store few f.singles.slots; payloads = f.singles.payloads };
    origin = λ r k. ⊎_elim (λ e. ⊎_elim (λ m. inr (x, sym e, subst (λ (ks : List ℕ). Mem k ks) (sym all) m)) (λ n. kept r k (λ p m. n m)) (cases_mem k (slots plans x))) (λ n. kept r k (λ p m. n p)) (cases_eq r x.rank);
    lengths = f.lengths;
  }
    where
      kept : (r k : ℕ) → (r ≡ x.rank → Mem k (slots plans x) → ⊥) → (write x.rank (slots plans x) vs s.store r k ≡ first r k) ⊎ ((y : OpId) × (y.rank ≡ r) × Mem k (written plans y))
      kept r k apart =
          let same = write_keeps_other_slots x.rank (slots plans x) vs s.store r k apart in
          ⊎_elim (λ e. inl (same ∙ e)) (λ w. inr w) (f.origin r k)

  payload_single : (s : Held) (o : Option OpId) → Fate s → All IsSingle (payload_from s o)
  payload_single s None f = All-nil IsSingle
  payload_single s (Some m) f = f.singles.payloads m

  step_fate : (o : Option OpId) (c : Class) (x : OpId) (s : Held) → Fate s → Fate (change plans eager o c x (kind_at plans x) s)
  unfolding written add_all
  step_fate o c x s f = go c (kind_at plans x) refl
    where
      of_send : (k : Option Kind) (bytes to tag : ℕ) → kind_at plans x ≡ Some (Send bytes to tag) → written plans x ≡ []
      of_send k bytes to tag e = ap (λ (k : Option Kind). written_in k (slots plans x) (adds plans x)) e

      begun : (b : Bool) → written plans x ≡ [] → Fate (if b then read plans x s else s)
      begun true none = read_fate x s none f
      begun false none = f

      go : (c : Class) (k : Option Kind) → kind_at plans x ≡ k → Fate (change plans eager o c x k s)
      go Begin (Some (Calc nanos)) e = subst (λ (more : List Adding). Fate (record { store = add_all x.rank more s.store; payload = s.payload })) (sym (nothing x)) f
      go Begin (Some (Send bytes to tag)) e = begun (eager x) (of_send None bytes to tag e)
      go Data (Some (Send bytes to tag)) e = read_fate x s (of_send None bytes to tag e) f
      go Serve (Some (Recv room from tag)) e =
          write_fate x (payload_from s o) s (ap (λ (k : Option Kind). written_in k (slots plans x) (adds plans x)) e) (payload_single s o f) f
      go Begin (Some (Recv room from tag)) e = f
      go Begin None e = f
      go Data (Some (Calc nanos)) e = f
      go Data (Some (Recv room from tag)) e = f
      go Data None e = f
      go Serve (Some (Calc nanos)) e = f
      go Serve (Some (Send bytes to tag)) e = f
      go Serve None e = f
      go Arrive (Some (Calc nanos)) e = f
      go Arrive (Some (Send bytes to tag)) e = f
      go Arrive (Some (Recv room from tag)) e = f
      go Arrive None e = f
      go Post (Some (Calc nanos)) e = f
      go Post (Some (Send bytes to tag)) e = f
      go Post (Some (Recv room from tag)) e = f
      go Post None e = f

  fate : (h : List Act) → Fate (held_after plans eager first h)
  unfolding held_after
  fate [] = fate_at_start
  fate (a ∷ h) = step_fate (partner (pairs plans h) a.op) a.class a.op (held_after plans eager first h) (fate h)

module _ (plans : List Plan) (first : Store) (eager : OpId → Bool) (nothing : AddsNothing plans) (single : (r k : ℕ) → IsSingle (first r k)) where
  -- the slots that operations write
  abbrev place_of : OpId → ℕ → Place
  place_of x k = record { rank = x.rank; slot = k }

  abbrev places_of : OpId → List Place
  places_of x = map (λ (k : ℕ). place_of x k) (written plans x)

  -- whatever writes a slot is a listed operation
  writer_is_listed : (x : OpId) (k : ℕ) → Mem k (written plans x) → Mem x (operations plans)
  unfolding written
  writer_is_listed x k m = go (kind_at plans x) refl m
    where
      go : (o : Option Kind) → kind_at plans x ≡ o → Mem k (written_in o (slots plans x) (adds plans x)) → Mem x (operations plans)
      go None e n = absurd n
      go (Some kind) e n = contains_mem x (operations plans) (kind_listed plans x kind e)

  mem_left : (p : Place) (ps qs : List Place) → Mem p ps → Mem p (ps ++ qs)
  mem_left p [] qs m = absurd m
  mem_left p (q ∷ ps) qs (inl e) = inl e
  mem_left p (q ∷ ps) qs (inr m) = inr (mem_left p ps qs m)

  mem_right : (p : Place) (ps qs : List Place) → Mem p qs → Mem p (ps ++ qs)
  mem_right p [] qs m = m
  mem_right p (q ∷ ps) qs m = inr (mem_right p ps qs m)

  written_place : (xs : List OpId) (x : OpId) (k : ℕ) → Mem x xs → Mem k (written plans x) → Mem (record { rank = x.rank; slot = k }) (flat_map places_of xs)
  written_place [] x k m w = absurd m
  written_place (y ∷ ys) x k (inl e) w =
      subst (λ (ps : List Place). Mem (record { rank = x.rank; slot = k }) ps) (sym (flat_map-cons places_of y ys)) (mem_left _ (places_of y) (flat_map places_of ys) (subst (λ (z : OpId). Mem (record { rank = x.rank; slot = k }) (places_of z)) (sym e) (mem_map (λ (k : ℕ). place_of x k) k (written plans x) w)))
  written_place (y ∷ ys) x k (inr m) w =
      subst (λ (ps : List Place). Mem (record { rank = x.rank; slot = k }) ps) (sym (flat_map-cons places_of y ys)) (mem_right _ (places_of y) (flat_map places_of ys) (written_place ys x k m w))

  length_places : (xs : List OpId) → length (flat_map places_of xs) ≡ sum_by (λ x. length (written plans x)) xs
  length_places [] = refl
  length_places (x ∷ xs) =
      let here = length-map (written plans x) (λ (k : ℕ). place_of x k) in
      let rest = length_places xs in
      let cons = sum_by-cons (λ x. length (written plans x)) x xs in
      let both = ap length (flat_map-cons places_of x xs) ∙ length-append (places_of x) (flat_map places_of xs) in
      omega (arith, here, rest, cons, both)

  module _ (s : Held) (f : Fate plans first eager nothing single s) where
    slots_few : (r k : ℕ) → (length (s.store r k) ≤ length (first r k)) ⊎ ((length (s.store r k) ≤ length (first r k) + 1) × Mem (record { rank = r; slot = k }) (flat_map places_of (operations plans)))
    slots_few r k = ⊎_elim (λ e. let same = ap length e in inl (omega (arith, same))) (λ w. let one = f.singles.slots r k in inr (omega (arith, one), subst (λ (q : ℕ). Mem (record { rank = q; slot = k }) (flat_map places_of (operations plans))) w.1 (written_place (operations plans) w.0 k (writer_is_listed w.0 k w.2) w.2))) (f.origin r k)

    stored_few : stored (length plans) s.store ≤ stored (length plans) first + sum_by (λ x. length (written plans x)) (operations plans)
    unfolding stored
    stored_few =
        let total = total_places (length plans) (flat_map places_of (operations plans)) (λ r k. length (s.store r k)) (λ r k. length (first r k)) slots_few in
        let size = length_places (operations plans) in
        omega (arith, total, size)

    read_few : sum_by (λ m. sum_by (λ (v : Value). length v) (s.payload m)) (operations plans) + sum_by (λ x. length (written plans x)) (operations plans) ≤ sum_by (λ x. length (slots plans x)) (operations plans)
    read_few =
        let both = sum_of_pointwise_sums (λ m. sum_by (λ (v : Value). length v) (s.payload m)) (λ x. length (written plans x)) (operations plans) in
        let le = sum_by_le (λ m. sum_by (λ (v : Value). length v) (s.payload m) + length (written plans m)) (λ x. length (slots plans x)) (operations plans) (λ k d l. each (slice_index_or (operations plans) k d)) in
        omega (arith, both, le)
      where
        each : (m : OpId) → sum_by (λ (v : Value). length v) (s.payload m) + length (written plans m) ≤ length (slots plans m)
        each m =
            let few = singles_few (s.payload m) (f.singles.payloads m) in
            let lengths = f.lengths m in
            omega (arith, few, lengths)

    pub all_few : held_and_read plans s ≤ stored (length plans) first + moved_slots plans
    unfolding held_and_read moved_slots
    all_few =
        let a = stored_few in
        let b = read_few in
        let c = moves_of_all plans 0 plans (λ r. ap (λ (n : ℕ). notes_at plans n) (let e : 0 + r ≡ r = omega arith in e)) in
        omega (arith, a, b, c)

    carried_read : (h : List Act) → carried plans h s ≤ sum_by (λ m. sum_by (λ (v : Value). length v) (s.payload m)) (operations plans)
    unfolding carried
    carried_read h =
        sum_by_le (λ m. if is_under_way plans h m then sum_by (λ (v : Value). length v) (s.payload m) else 0) (λ m. sum_by (λ (v : Value). length v) (s.payload m)) (operations plans) (λ k d l. each (slice_index_or (operations plans) k d) (is_under_way plans h (slice_index_or (operations plans) k d)))
      where
        each : (m : OpId) (b : Bool) → (if b then sum_by (λ (v : Value). length v) (s.payload m) else 0) ≤ sum_by (λ (v : Value). length v) (s.payload m)
        each m true = omega arith
        each m false = omega arith

    weight_read : (h : List Act) → weight plans h s ≤ held_and_read plans s
    unfolding weight held_and_read
    weight_read h = let few = carried_read h in omega (arith, few)

pub values_stay_single : (plans : List Plan) (first : Store) (eager : OpId → Bool) (h : List Act) → AddsNothing plans → ((rank slot : ℕ) → IsSingle (first rank slot)) → HoldsSingles (held_after plans eager first h)
values_stay_single plans first eager h nothing single = (fate plans first eager nothing single h).singles

pub held_stays_few : (plans : List Plan) (first : Store) (eager : OpId → Bool) (h : List Act) → AddsNothing plans → ((rank slot : ℕ) → IsSingle (first rank slot)) → (held_and_read plans (held_after plans eager first h) ≤ stored (length plans) first + moved_slots plans) × (weight plans h (held_after plans eager first h) ≤ stored (length plans) first + moved_slots plans)
held_stays_few plans first eager h nothing single =
    let f = fate plans first eager nothing single h in
    let all = all_few plans first eager nothing single (held_after plans eager first h) f in
    let less = weight_read plans first eager nothing single (held_after plans eager first h) f h in
    (all, omega (arith, all, less))
