-- The slots of small schedules are low and few, and what is held after a note, a write or a read.
use Rattle.std.proofs.Common.{◌≡◌, ◌==◌, ◌+◌, ◌-◌, ◌*◌, ◌^◌, ◌<◌, ◌≤◌, ◌⊎◌, inl, inr, ℕ, zero, suc, Bool, true, false, if◌then◌else◌, List, [], ◌∷◌, ◌++◌, All, length, map, take, get_or, refl, sym, ap, ◌∙◌, subst, arith}
use Rattle.std.specs.Prelude.{flat_map}
use Rattle.std.specs.List.{sum_by}
use Rattle.std.proofs.lemmas.Bool.{cases_lt}
use Rattle.std.proofs.lemmas.List.{take_more}
use Rattle.std.proofs.lemmas.List.Concat.{length-flat_map}
use Rattle.std.proofs.lemmas.List.Elements.{All-append}
use Rattle.std.proofs.lemmas.List.Sums.{sum_by-cons, get_or-le-sum_by}
use Rattle.goal_limits.specs.Limits.{slot_limit, moved_limit, weight_limit}
use Rattle.goal_graph.specs.declared.action.OpId.{OpId}
use Rattle.goal_graph.specs.declared.plan.Note.{Note}
use Rattle.goal_graph.specs.declared.plan.Note.TheVariants.{Moves, Adds}
use Rattle.goal_graph.specs.Schedule.{Plan}
use Rattle.goal_graph.specs.Fault.{IsOp}
use Rattle.goal_blocks.specs.declared.slots.Adding.{Adding}
use Rattle.goal_blocks.specs.Slots.{slots_from, moved_by, added_by, slots, adds}
use Rattle.goal_blocks.specs.Values.{Value, Store, merge, set_slot, write, add_all}
use Rattle.goal_blocks.specs.Weight.{stored}
use Rattle.goal_blocks.specs.Certification.{NamesLowSlots, moved_count, IsSmall}
use Rattle.goal_blocks.proofs.ForCallers.{length_merge, length_of_slots_from, slot_length_at_most_stored, stored_set}
use Rattle.goal_certify.specs.Carried.{size_of, AddsOver}
use Rattle.goal_certify.proofs.Places.{rank_below, notes_there}
use Rattle.goal_graph.proofs.ForCallers.{all_of_empty, all_of_single}

abbrev pub IsLow : ℕ → Type 0
IsLow k = k ≤ slot_limit

abbrev pub AddsLow : Adding → Type 0
AddsLow a = (a.from ≤ slot_limit) × (a.to ≤ slot_limit)

all_flat : {A B : Type 0} (P : B → Type 0) (f : A → List B) (Q : A → Type 0) → ((a : A) → Q a → All P (f a)) → (xs : List A) → All Q xs → All P (flat_map f xs)
all_flat P f Q each [] all = all_of_empty P
all_flat P f Q each (x ∷ xs) all =
    All-append P (f x) (flat_map f xs) (each x (all 0 x (omega arith))) (all_flat P f Q each xs (λ k d l. all (suc k) d (omega (arith, l))))

slots_from_are_low : (lo n : ℕ) → lo + n ≤ slot_limit + 1 → All IsLow (slots_from lo n)
unfolding slots_from
slots_from_are_low lo zero l = all_of_empty IsLow
slots_from_are_low lo (suc n) l = All-append IsLow (lo ∷ []) (slots_from (lo + 1) n) (all_of_single IsLow lo (omega (arith, l))) (slots_from_are_low (lo + 1) n (omega (arith, l)))

none_from : (lo : ℕ) → All IsLow (slots_from lo 0)
unfolding slots_from
none_from lo = all_of_empty IsLow

slots_from_low_if_empty_or_inside : (lo n : ℕ) → (n ≡ 0) ⊎ (lo + n ≤ slot_limit + 1) → All IsLow (slots_from lo n)
slots_from_low_if_empty_or_inside lo n (inl e) = subst (λ (m : ℕ). All IsLow (slots_from lo m)) (sym e) (none_from lo)
slots_from_low_if_empty_or_inside lo n (inr l) = slots_from_are_low lo n l

slot_range_is_empty_or_inside : (lo hi : ℕ) → hi ≤ slot_limit → (hi + 1 - lo ≡ 0) ⊎ (lo + (hi + 1 - lo) ≤ slot_limit + 1)
slot_range_is_empty_or_inside lo hi l = elim (cases_lt hi lo) [ inl less ↦ inl (omega (arith, less)) | inr le ↦ inr (omega (arith, le, l)) ]

moved_low : (op : ℕ) (n : Note) → NamesLowSlots n → All IsLow (moved_by op n)
moved_low op (Moves of lo hi) low = go (of == op)
  where
    go : (b : Bool) → All IsLow (if b then slots_from lo (hi + 1 - lo) else [])
    go true = slots_from_low_if_empty_or_inside lo (hi + 1 - lo) (slot_range_is_empty_or_inside lo hi low.1)
    go false = all_of_empty IsLow
moved_low op (Adds of from to) low = all_of_empty IsLow

added_low : (op : ℕ) (n : Note) → NamesLowSlots n → All AddsLow (added_by op n)
added_low op (Moves of lo hi) low = all_of_empty AddsLow
added_low op (Adds of from to) low = go (of == op)
  where
    go : (b : Bool) → All AddsLow (if b then record { from = from; to = to } ∷ [] else [])
    go true = all_of_single AddsLow (record { from = from; to = to }) low
    go false = all_of_empty AddsLow

moved_length_at_most_count : (op : ℕ) (n : Note) → length (moved_by op n) ≤ moved_count n
moved_length_at_most_count op (Moves of lo hi) = go (of == op)
  where
    go : (b : Bool) → length (if b then slots_from lo (hi + 1 - lo) else []) ≤ hi + 1 - lo
    go true = omega (arith, length_of_slots_from lo (hi + 1 - lo))
    go false = omega arith
moved_length_at_most_count op (Adds of from to) = omega arith

moved_lengths_at_most_sum : (op : ℕ) (ns : List Note) → length (flat_map (moved_by op) ns) ≤ sum_by moved_count ns
moved_lengths_at_most_sum op ns = omega (arith, length-flat_map (moved_by op) ns, go ns)
  where
    go : (ns : List Note) → sum_by (λ n. length (moved_by op n)) ns ≤ sum_by moved_count ns
    go [] = omega arith
    go (n ∷ ns) =
        omega (arith, sum_by-cons (λ n. length (moved_by op n)) n ns, sum_by-cons moved_count n ns, moved_length_at_most_count op n, go ns)

module _ (plans : List Plan) (small : IsSmall plans) (x : OpId) (is : IsOp plans x) where
  abbrev no_plan : Plan
  no_plan = record { ops = []; deps = []; notes = [] }

  abbrev own : Plan
  own = get_or plans x.rank no_plan

  low_notes : All NamesLowSlots own.notes
  low_notes = small.slots x.rank no_plan (rank_below plans x is)

  pub slots_low : All IsLow (slots plans x)
  unfolding slots
  slots_low =
      subst (λ (ns : List Note). All IsLow (flat_map (moved_by x.op) ns)) (sym (notes_there plans x is no_plan)) (all_flat IsLow (moved_by x.op) NamesLowSlots (moved_low x.op) own.notes low_notes)

  pub adds_low : All AddsLow (adds plans x)
  unfolding adds
  adds_low =
      subst (λ (ns : List Note). All AddsLow (flat_map (added_by x.op) ns)) (sym (notes_there plans x is no_plan)) (all_flat AddsLow (added_by x.op) NamesLowSlots (added_low x.op) own.notes low_notes)

  pub slots_few : length (slots plans x) ≤ moved_limit
  unfolding slots
  slots_few =
      omega (arith, ap (λ (ns : List Note). length (flat_map (moved_by x.op) ns)) (notes_there plans x is no_plan), moved_lengths_at_most_sum x.op own.notes, get_or-le-sum_by (λ (p : Plan). sum_by moved_count p.notes) plans x.rank no_plan (rank_below plans x is), small.moves)

-- writing values adds at most their size to what is held
pub stored_write : (ranks rank : ℕ) (ks : List ℕ) (vs : List Value) (s : Store) → rank < ranks → All IsLow ks → stored ranks (write rank ks vs s) ≤ stored ranks s + size_of vs
unfolding write
stored_write ranks rank [] vs s low all = omega arith
stored_write ranks rank (k ∷ ks) [] s low all = omega arith
stored_write ranks rank (k ∷ ks) (v ∷ vs) s low all =
    let k_low : k ≤ slot_limit = all 0 k (omega arith) in
    let rest : stored ranks (write rank ks vs (set_slot rank k v s)) ≤ stored ranks (set_slot rank k v s) + size_of vs = stored_write ranks rank ks vs (set_slot rank k v s) low (λ i d l. all (suc i) d (omega (arith, l))) in
    omega (arith, rest, stored_set ranks rank k v s low (omega (arith, k_low)), sum_by-cons (λ (w : Value). length w) v vs)

-- what is read has as many contributions as its slots
pub size_read : (f : ℕ → Value) (ks : List ℕ) → size_of (map f ks) ≡ sum_by (λ k. length (f k)) ks
size_read f [] = refl
size_read f (k ∷ ks) =
    omega (arith, sum_by-cons (λ (w : Value). length w) (f k) (map f ks), sum_by-cons (λ k. length (f k)) k ks, size_read f ks)

pub read_bound : (ranks rank : ℕ) (s : Store) (ks : List ℕ) → rank < ranks → All IsLow ks → stored ranks s ≤ weight_limit → sum_by (λ k. length (s rank k)) ks ≤ length ks * weight_limit
read_bound ranks rank s [] low all light = omega arith
read_bound ranks rank s (k ∷ ks) low all light =
    let k_low : k ≤ slot_limit = all 0 k (omega arith) in
    let most = slot_length_at_most_stored ranks rank k s low (omega (arith, k_low)) in
    let rest = read_bound ranks rank s ks low (λ i d l. all (suc i) d (omega (arith, l))) light in
    omega (arith, most, rest, light, sum_by-cons (λ k. length (s rank k)) k ks)

-- an operation reads at most 2^48 contributions from the slots of its rank
pub read_light : (plans : List Plan) → IsSmall plans → (x : OpId) → IsOp plans x → (ranks : ℕ) (s : Store) → ranks ≡ length plans → stored ranks s ≤ weight_limit → (ks : List ℕ) (vs : List Value) → ks ≡ slots plans x → vs ≡ map (s x.rank) ks → size_of vs ≤ 2 ^ 48
read_light plans small x is ranks s same light ks vs e f =
    let low : All IsLow ks = subst (All IsLow) (sym e) (slots_low plans small x is) in
    let most = read_bound ranks x.rank s ks (omega (arith, rank_below plans x is, same)) low light in
    omega (arith, most, ap length e, slots_few plans small x is, ap size_of f, size_read (s x.rank) ks)

-- another note
add_last : (rank : ℕ) (added : List Adding) (a : Adding) (s : Store) → add_all rank (added ++ a ∷ []) s ≡ set_slot rank a.to (merge (add_all rank added s rank a.to) (add_all rank added s rank a.from)) (add_all rank added s)
unfolding add_all
add_last rank [] a s = refl
add_last rank (b ∷ added) a s = add_last rank added a (set_slot rank b.to (merge (s rank b.to) (s rank b.from)) s)

pub add_all_takes_next_adding : (rank : ℕ) (added : List Adding) (i : ℕ) (d : Adding) (s : Store) → i < length added → add_all rank (take (i + 1) added) s ≡ set_slot rank (get_or added i d).to (merge (add_all rank (take i added) s rank (get_or added i d).to) (add_all rank (take i added) s rank (get_or added i d).from)) (add_all rank (take i added) s)
add_all_takes_next_adding rank added i d s l =
    ap (λ (items : List Adding). add_all rank items s) (take_more added i d l) ∙ add_last rank (take i added) (get_or added i d) s

pub stored_after_next_adding : (ranks rank : ℕ) (added : List Adding) (i : ℕ) (d : Adding) (s : Store) → rank < ranks → i < length added → (get_or added i d).to ≤ slot_limit → stored ranks (add_all rank (take (i + 1) added) s) ≡ stored ranks (add_all rank (take i added) s) + length (add_all rank (take i added) s rank (get_or added i d).from)
stored_after_next_adding ranks rank added i d s low l to_low =
    let a = get_or added i d in
    let t = add_all rank (take i added) s in
    let set = stored_set ranks rank a.to (merge (t rank a.to) (t rank a.from)) t low (omega (arith, to_low)) in
    omega (arith, set, length_merge (t rank a.to) (t rank a.from), ap (stored ranks) (add_all_takes_next_adding rank added i d s l))

-- the notes before the place are added, and after each of them few enough contributions were held
pub record NotesAdded (rank : ℕ) (added : List Adding) (others : ℕ) (first now : Store) (ranks ranks_now i : ℕ) : Type 0 where
  pub same : ranks_now ≡ ranks
  pub stores : now ≡ add_all rank (take i added) first
  pub within : (n : ℕ) → n ≤ i → stored ranks (add_all rank (take n added) first) + others ≤ weight_limit

pub notes_added_at_start : (rank : ℕ) (added : List Adding) (others : ℕ) (first : Store) (ranks : ℕ) → stored ranks first + others ≤ weight_limit → NotesAdded rank added others first first ranks ranks 0
unfolding add_all
notes_added_at_start rank added others first ranks light = record {
  same = refl;
  stores = refl;
  within = λ n l. let e : 0 ≡ n = omega (arith, l) in subst (λ (k : ℕ). stored ranks (add_all rank (take k added) first) + others ≤ weight_limit) e light;
}

module _ (rank : ℕ) (added : List Adding) (others : ℕ) (first now : Store) (ranks ranks_now i : ℕ) (so_far : NotesAdded rank added others first now ranks ranks_now i) where
  module _ (d : Adding) (inside : i < length added) (below : rank < ranks) (low : All AddsLow added) (size total : ℕ) (size_is : size ≡ length (now rank (get_or added i d).from)) (total_is : total ≡ stored ranks_now now + others + size) where
    next_total : stored ranks (add_all rank (take (i + 1) added) first) + others ≡ total
    next_total =
        let more = stored_after_next_adding ranks rank added i d first below inside (low i d inside).1 in
        omega (arith, more, ap (stored ranks) so_far.stores, ap (λ (n : ℕ). stored n now) so_far.same, size_is, ap (λ (s : Store). length (s rank (get_or added i d).from)) so_far.stores, total_is)

    pub added_next : total ≤ weight_limit → (after : Store) (ranks_after : ℕ) → after ≡ set_slot rank (get_or added i d).to (merge (now rank (get_or added i d).to) (now rank (get_or added i d).from)) now → ranks_after ≡ ranks_now → NotesAdded rank added others first after ranks ranks_after (i + 1)
    added_next few after ranks_after e same = record {
      same = same ∙ so_far.same;
      stores = e ∙ ap (λ (s : Store). set_slot rank (get_or added i d).to (merge (s rank (get_or added i d).to) (s rank (get_or added i d).from)) s) so_far.stores ∙ sym (add_all_takes_next_adding rank added i d first inside);
      within = λ n l. elim (cases_lt i n) [ inl past ↦ (let e : i + 1 ≡ n = omega (arith, l, past) in let most : stored ranks (add_all rank (take (i + 1) added) first) + others ≤ weight_limit = omega (arith, next_total, few) in subst (λ (k : ℕ). stored ranks (add_all rank (take k added) first) + others ≤ weight_limit) e most) | inr le ↦ so_far.within n le ];
    }

    pub added_over : weight_limit < total → AddsOver ranks rank added first others total
    added_over heavy = (i + 1, next_total, heavy, λ k l. so_far.within k (omega (arith, l)))
