-- The first fault among items that are tried one after another.
use Rattle.std.proofs.Common.{◌≡◌, ℕ, ◌+◌, ◌<◌, ◌≤◌, List, length, get_or, drop, Option, Some, None, refl, sym, ◌∙◌}
use Rattle.std.specs.Option.{option_or}
use Rattle.std.proofs.lemmas.List.{drop_more, drop_all}
use Rattle.goal_graph.specs.declared.fault.PlanFault.{PlanFault}
use Rattle.goal_graph.specs.Schedule.{Plan}
use Rattle.goal_graph.specs.Fault.{op_fault, dep_fault, note_fault, first_fault, rank_fault}

-- no item before n has a fault
abbrev pub NoneBefore : {A : Type 0} → (ℕ → A → Option PlanFault) → List A → ℕ → Type 0
NoneBefore fault xs n = first_fault fault n (drop n xs) ≡ first_fault fault 0 xs

first_fault-at : {A : Type 0} (fault : ℕ → A → Option PlanFault) (xs : List A) (n : ℕ) (d : A) → n < length xs → first_fault fault n (drop n xs) ≡ option_or (fault n (get_or xs n d)) (first_fault fault (n + 1) (drop (n + 1) xs))
unfolding first_fault
first_fault-at fault xs n d inside = rw (drop_more xs n d inside) refl

pub first_fault-found : {A : Type 0} (fault : ℕ → A → Option PlanFault) (xs : List A) (n : ℕ) (d : A) (f : PlanFault) → n < length xs → NoneBefore fault xs n → Some f ≡ fault n (get_or xs n d) → Some f ≡ first_fault fault 0 xs
first_fault-found fault xs n d f inside before found =
    let step = rw (← found) at (first_fault-at fault xs n d inside) in
    sym step ∙ before

pub first_fault-more : {A : Type 0} (fault : ℕ → A → Option PlanFault) (xs : List A) (n : ℕ) (d : A) → n < length xs → NoneBefore fault xs n → None ≡ fault n (get_or xs n d) → NoneBefore fault xs (n + 1)
first_fault-more fault xs n d inside before none =
    let step = rw (← none) at (first_fault-at fault xs n d inside) in
    sym step ∙ before

pub first_fault-end : {A : Type 0} (fault : ℕ → A → Option PlanFault) (xs : List A) (n : ℕ) → length xs ≤ n → NoneBefore fault xs n → None ≡ first_fault fault 0 xs
unfolding first_fault
first_fault-end fault xs n beyond before = rw (drop_all n xs beyond) at before

-- the parts of a rank's fault
module _ (ranks rank : ℕ) (p : Plan) where
  pub rank_fault-op : (f : PlanFault) → Some f ≡ first_fault (op_fault ranks rank) 0 p.ops → Some f ≡ rank_fault ranks rank p
  unfolding rank_fault
  rank_fault-op f found = rw (← found) refl

  pub rank_fault-dep : (f : PlanFault) → None ≡ first_fault (op_fault ranks rank) 0 p.ops → Some f ≡ first_fault (dep_fault (length p.ops) rank) 0 p.deps → Some f ≡ rank_fault ranks rank p
  unfolding rank_fault
  rank_fault-dep f ops found = rw (← ops, ← found) refl

  pub rank_fault-note : None ≡ first_fault (op_fault ranks rank) 0 p.ops → None ≡ first_fault (dep_fault (length p.ops) rank) 0 p.deps → first_fault (note_fault p.ops rank) 0 p.notes ≡ rank_fault ranks rank p
  unfolding rank_fault
  rank_fault-note ops deps = rw (← ops, ← deps) refl
