-- The steps of a loop that writes values into slots.
use Rattle.std.proofs.Common.{ℕ, ◌≡◌, ◌+◌, ◌<◌, ◌≤◌, ◌^◌, List, [], ◌∷◌, ◌++◌, map, append-nil, append_assoc, length, length-append, Result, Ok, Err, OnOk, ◌⊎◌, inl, inr, ⊎_elim, All, Contains, ap, sym, ◌∙◌, subst, arith, Vec, Global}
use Rattle.std.specs.List.{sum_by}
use Rattle.std.proofs.lemmas.List.{map-append}
use Rattle.std.proofs.lemmas.List.Elements.{All-weaker, All-contains_itself, Contains-push_cases, Contains-append_cases}
use Rattle.std.proofs.lemmas.List.Sums.{sum_by-cons}
use Rattle.goal_limits.specs.Limits.{weight_limit}
use Rattle.goal_blocks.specs.Values.{Contribution, Value, Store, write, set_slot}
use Rattle.goal_blocks.specs.Weight.{stored}
use Rattle.goal_blocks.specs.Stored.{lists_of}
use Rattle.goal_blocks.proofs.SlotSums.{stored_set}

-- writing the first remaining value to the first remaining slot
pub write_first : (rank slot : ℕ) (slots left : List ℕ) (v : Value) (vs all : List Value) (s t : Store) → slots ≡ slot ∷ left → all ≡ v ∷ vs → t ≡ set_slot rank slot v s → write rank left vs t ≡ write rank slots all s
unfolding write
write_first rank slot slots left v vs all s t first e set =
    ap (write rank left vs) set ∙ ap (λ (ks : List ℕ). write rank ks (v ∷ vs) s) (sym first) ∙ ap (λ (ws : List Value). write rank slots ws s) (sym e)

-- no slot remains
pub write_none : (rank : ℕ) (slots : List ℕ) (vs : List Value) (s : Store) → slots ≡ [] → write rank slots vs s ≡ s
unfolding write
write_none rank slots vs s none = ap (λ (ks : List ℕ). write rank ks vs s) none

-- Slots are read one by one: the values read so far, given by `g`, then those of the slots that remain.
module _ {A : Type 0} (g : A → Value) (f : ℕ → Value) (all : List Value) where
  pub read_values_with_next_slot : (read more : List A) (x : A) (slots left : List ℕ) (slot : ℕ) → more ≡ read ++ x ∷ [] → g x ≡ f slot → slots ≡ slot ∷ left → map g read ++ map f slots ≡ all → map g more ++ map f left ≡ all
  read_values_with_next_slot read more x slots left slot pushed same first e =
      ap (λ (xs : List A). map g xs ++ map f left) pushed ∙ ap (λ (vs : List Value). vs ++ map f left) (map-append g read (x ∷ []))
      ∙ append_assoc (map g read) (g x ∷ []) (map f left) ∙ ap (λ (v : Value). map g read ++ (v ∷ map f left)) same
      ∙ sym (ap (λ (ks : List ℕ). map g read ++ map f ks) first) ∙ e

  pub read_all : (read : List A) (left : List ℕ) → left ≡ [] → map g read ++ map f left ≡ all → map g read ≡ all
  read_all read left none e =
      sym (append-nil (map g read)) ∙ sym (ap (λ (ks : List ℕ). map g read ++ map f ks) none) ∙ e

-- P holds for the slots taken so far, Q also for the next one
module _ (P Q : ℕ → Type 0) (all : List ℕ) where
  none_in : (k : ℕ) → Contains [] k → ⊥
  none_in k c = omega (arith, c.1)

  pub taken_slots_with_next : (slots left : List ℕ) (slot : ℕ) → slots ≡ slot ∷ left → ((k : ℕ) → P k → Q k) → Q slot → ((k : ℕ) → Contains all k → Contains slots k ⊎ P k) → (k : ℕ) → Contains all k → Contains left k ⊎ Q k
  taken_slots_with_next slots left slot first still here before k c =
      ⊎_elim (λ there. cases (subst (λ (ks : List ℕ). Contains ks k) first there)) (λ p. inr (still k p)) (before k c)
    where
      same : Contains (slot ∷ []) k → slot ≡ k
      same one = ⊎_elim (λ n. absurd (none_in k n)) (λ e. e) (Contains-push_cases [] slot k one)

      cases : Contains (slot ∷ left) k → Contains left k ⊎ Q k
      cases there = ⊎_elim (λ one. inr (subst Q (same one) here)) (λ rest. inl rest) (Contains-append_cases (slot ∷ []) left k there)

  pub taken_slots_are_all : (slots : List ℕ) → slots ≡ [] → ((k : ℕ) → Contains all k → Contains slots k ⊎ P k) → All P all
  taken_slots_are_all slots none before =
      All-weaker (Contains all) P (λ k c. ⊎_elim (λ there. absurd (none_in k (subst (λ (ks : List ℕ). Contains ks k) none there))) (λ p. p) (before k c)) all (All-contains_itself all)

pub weight_within_limit_after_write : (ranks more rank slot : ℕ) (v : Value) (vs all : List Value) (s t : Store) → all ≡ v ∷ vs → t ≡ set_slot rank slot v s → more ≡ ranks → rank < ranks → slot < 2 ^ 32 → stored ranks s + sum_by (λ (w : Value). length w) all ≤ weight_limit → stored more t + sum_by (λ (w : Value). length w) vs ≤ weight_limit
weight_within_limit_after_write ranks more rank slot v vs all s t e set same low small light =
    let sum : sum_by (λ (w : Value). length w) all ≡ length v + sum_by (λ (w : Value). length w) vs = ap (sum_by (λ (w : Value). length w)) e ∙ sum_by-cons (λ (w : Value). length w) v vs in
    let now : stored more t ≡ stored ranks (set_slot rank slot v s) = ap (stored more) set ∙ ap (λ (n : ℕ). stored n (set_slot rank slot v s)) same in
    let changed = stored_set ranks rank slot v s low small in
    omega (arith, sum, now, changed, light)

-- the only value of a list is written
write_of_only_value : (rank slot : ℕ) (list rest : List (Vec Contribution Global)) (v : Vec Contribution Global) (s t : Store) → list ≡ rest ++ v ∷ [] → length list ≡ 1 → t ≡ set_slot rank slot v.items s → t ≡ write rank (slot ∷ []) (lists_of list) s
unfolding write
write_of_only_value rank slot list [] v s t e one set =
    set ∙ sym (ap (λ (vs : List (Vec Contribution Global)). write rank (slot ∷ []) (lists_of vs) s) e)
write_of_only_value rank slot list (w ∷ rest) v s t e one set =
    absurd (omega (arith, one, ap length e, length-append (w ∷ rest) (v ∷ [])))

pub ok_write_of_only_value : {E : Type 0} (r : Result (Unit {0}) E) (rank slot : ℕ) (list rest : List (Vec Contribution Global)) (v : Vec Contribution Global) (s t : Store) → list ≡ rest ++ v ∷ [] → length list ≡ 1 → OnOk r (t ≡ set_slot rank slot v.items s) → OnOk r (t ≡ write rank (slot ∷ []) (lists_of list) s)
ok_write_of_only_value (Ok x) rank slot list rest v s t e one set = write_of_only_value rank slot list rest v s t e one set
ok_write_of_only_value (Err x) rank slot list rest v s t e one set = tt
