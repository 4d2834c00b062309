-- A plan that is given by entries, one operation after another; the plans of ranks, one rank after another.
use Rattle.std.proofs.Common.{◌≡◌, ℕ, ◌+◌, List, [], ◌∷◌, ◌++◌, map, refl, sym, ap, ◌∙◌, append_assoc, zero-add}
use Rattle.std.specs.List.{flat_map, range_with_len}
use Rattle.std.proofs.lemmas.List.{append-nil}
use Rattle.std.proofs.lemmas.List.Concat.{flat_map-cons}
use Rattle.std.proofs.lemmas.List.FromFn.{map-range_with_len_more}
use Rattle.std.proofs.lemmas.Grind.{flat_map-append}
use Rattle.goal_graph.specs.declared.plan.Op.{Op}
use Rattle.goal_graph.specs.declared.plan.Dep.{Dep}
use Rattle.goal_graph.specs.declared.plan.Note.{Note}
use Rattle.goal_graph.specs.Schedule.{Plan}
use Rattle.goal_blocks.specs.declared.steps.Step.{Step}
use Rattle.goal_blocks.specs.Steps.{entry_of}
use Rattle.goal_blocks.specs.Entries.{Entry, op_of, deps_of, notes_of, plan_by, made_by}

-- a range extended by one number
pub map_of_next_range : {X : Type 0} (f : ℕ → X) (n : ℕ) → map f (range_with_len 0 (n + 1)) ≡ map f (range_with_len 0 n) ++ f n ∷ []
map_of_next_range f n = map-range_with_len_more f 0 n n (zero-add n)

map_itself : {X : Type 0} (xs : List X) → map (λ x. x) xs ≡ xs
map_itself [] = refl
map_itself (x ∷ xs) = ap (λ ys. x ∷ ys) (map_itself xs)

pub range_of_next_length : (n : ℕ) → range_with_len 0 (n + 1) ≡ range_with_len 0 n ++ n ∷ []
range_of_next_length n =
    sym (map_itself (range_with_len 0 (n + 1)))
    ∙ map_of_next_range (λ x. x) n
    ∙ ap (λ xs. xs ++ n ∷ []) (map_itself (range_with_len 0 n))

pub flat_map_of_next_range : {X : Type 0} (f : ℕ → List X) (n : ℕ) → flat_map f (range_with_len 0 (n + 1)) ≡ flat_map f (range_with_len 0 n) ++ f n
flat_map_of_next_range f n =
    ap (λ xs. flat_map f xs) (range_of_next_length n)
    ∙ flat_map-append f (range_with_len 0 n) (n ∷ [])
    ∙ ap (λ ys. flat_map f (range_with_len 0 n) ++ ys) (flat_map-cons f n [] ∙ append-nil (f n))

-- another operation
module _ (e : ℕ → Entry) (n : ℕ) where
  pub ops_of_next_entry : (plan_by (n + 1) e).ops ≡ (plan_by n e).ops ++ op_of (e n) ∷ []
  unfolding plan_by
  ops_of_next_entry = map_of_next_range (λ (i : ℕ). op_of (e i)) n

  pub deps_of_next_entry : (plan_by (n + 1) e).deps ≡ (plan_by n e).deps ++ deps_of n (e n)
  unfolding plan_by
  deps_of_next_entry = flat_map_of_next_range (λ (i : ℕ). deps_of i (e i)) n

  pub notes_of_next_entry : (plan_by (n + 1) e).notes ≡ (plan_by n e).notes ++ notes_of n (e n)
  unfolding plan_by
  notes_of_next_entry = flat_map_of_next_range (λ (i : ℕ). notes_of i (e i)) n

-- what a step adds to each list
module _ (e : ℕ → Entry) (n : ℕ) (s : Step) (step : entry_of s ≡ e n) where
  pub next_ops : (old new : List Op) → old ≡ (plan_by n e).ops → new ≡ old ++ record { kind = s.kind; cpu = 0; nic = 0 } ∷ [] → new ≡ (plan_by (n + 1) e).ops
  next_ops old new so_far pushed =
      pushed
      ∙ ap (λ (os : List Op). os ++ op_of (entry_of s) ∷ []) so_far
      ∙ ap (λ (x : Entry). (plan_by n e).ops ++ op_of x ∷ []) step
      ∙ sym (ops_of_next_entry e n)

  pub next_deps : (old new : List Dep) → old ≡ (plan_by n e).deps → new ≡ old ++ deps_of n (entry_of s) → new ≡ (plan_by (n + 1) e).deps
  next_deps old new so_far pushed =
      pushed
      ∙ ap (λ (ds : List Dep). ds ++ deps_of n (entry_of s)) so_far
      ∙ ap (λ (x : Entry). (plan_by n e).deps ++ deps_of n x) step
      ∙ sym (deps_of_next_entry e n)

  pub next_notes : (old new : List Note) → old ≡ (plan_by n e).notes → new ≡ old ++ notes_of n (entry_of s) → new ≡ (plan_by (n + 1) e).notes
  next_notes old new so_far pushed =
      pushed
      ∙ ap (λ (ns : List Note). ns ++ notes_of n (entry_of s)) so_far
      ∙ ap (λ (x : Entry). (plan_by n e).notes ++ notes_of n x) step
      ∙ sym (notes_of_next_entry e n)

pub plan_by_of_equal_parts : (e : ℕ → Entry) (n m : ℕ) (p : Plan) → n ≡ m → p.ops ≡ (plan_by n e).ops → p.deps ≡ (plan_by n e).deps → p.notes ≡ (plan_by n e).notes → p ≡ plan_by m e
plan_by_of_equal_parts e n m p end ops deps notes =
    ap (λ (os : List Op). record { ops = os; deps = p.deps; notes = p.notes }) ops
    ∙ ap (λ (ds : List Dep). record { ops = (plan_by n e).ops; deps = ds; notes = p.notes }) deps
    ∙ ap (λ (ns : List Note). record { ops = (plan_by n e).ops; deps = (plan_by n e).deps; notes = ns }) notes
    ∙ ap (λ (k : ℕ). plan_by k e) end

pub no_ops_yet : (e : ℕ → Entry) → [] ≡ (plan_by 0 e).ops
unfolding plan_by
no_ops_yet e = refl

pub no_deps_yet : (e : ℕ → Entry) → [] ≡ (plan_by 0 e).deps
unfolding plan_by
no_deps_yet e = refl

pub no_notes_yet : (e : ℕ → Entry) → [] ≡ (plan_by 0 e).notes
unfolding plan_by
no_notes_yet e = refl

pub no_rank_yet : (count : ℕ → ℕ) (e : ℕ → ℕ → Entry) → made_by 0 count e ≡ []
unfolding made_by
no_rank_yet count e = refl

pub made_by_next_rank : (count : ℕ → ℕ) (e : ℕ → ℕ → Entry) (n : ℕ) → made_by (n + 1) count e ≡ made_by n count e ++ plan_by (count n) (e n) ∷ []
unfolding made_by
made_by_next_rank count e n = map_of_next_range (λ (r : ℕ). plan_by (count r) (e r)) n

-- another item after the first ones
pub next_item : {X : Type 0} (f : ℕ → X) (n : ℕ) (first old new : List X) → old ≡ first ++ map f (range_with_len 0 n) → new ≡ old ++ f n ∷ [] → new ≡ first ++ map f (range_with_len 0 (n + 1))
next_item f n first old new so_far pushed =
    pushed
    ∙ ap (λ xs. xs ++ f n ∷ []) so_far
    ∙ append_assoc first (map f (range_with_len 0 n)) (f n ∷ [])
    ∙ ap (λ xs. first ++ xs) (sym (map_of_next_range f n))

pub next_rank : (count : ℕ → ℕ) (e : ℕ → ℕ → Entry) (n : ℕ) (p : Plan) (old new : List Plan) → old ≡ made_by n count e → p ≡ plan_by (count n) (e n) → new ≡ old ++ p ∷ [] → new ≡ made_by (n + 1) count e
next_rank count e n p old new so_far plan pushed =
    pushed
    ∙ ap (λ (ps : List Plan). ps ++ p ∷ []) so_far
    ∙ ap (λ (q : Plan). made_by n count e ++ q ∷ []) plan
    ∙ sym (made_by_next_rank count e n)

pub made_by_of_equal_count : (count : ℕ → ℕ) (e : ℕ → ℕ → Entry) (n m : ℕ) (plans : List Plan) → n ≡ m → plans ≡ made_by n count e → plans ≡ made_by m count e
made_by_of_equal_count count e n m plans end so_far = so_far ∙ ap (λ (k : ℕ). made_by k count e) end
