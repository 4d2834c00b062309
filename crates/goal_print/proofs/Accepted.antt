-- The plans of a schedule can be printed.
use Rattle.std.proofs.Common.{◌≡◌, ℕ, ◌+◌, ◌^◌, ◌<◌, ◌≤◌, ◌==◌, nat_le, nat_lt, Bool, true, false, List, [], ◌∷◌, length, Option, Some, None, if◌then◌else◌, slice_get, refl, ap, subst, ◌∙◌, arith}
use Rattle.std.specs.List.{AllByRecursion}
use Rattle.std.specs.Option.{ForSome}
use Rattle.std.proofs.lemmas.List.Sums.{sum_by-cons}
use Rattle.std.proofs.lemmas.List.Elements.{recursion_from_All}
use Rattle.std.proofs.lemmas.Option.{slice_get_within}
use Rattle.std.proofs.lemmas.Bool.{and_parts}
use Rattle.std.proofs.lemmas.Bool.Decides.{nat_tests}
use Rattle.goal_limits.specs.declared.limits.TheConstants.{MAX_OPS, MAX_BYTES, MAX_NANOS}
use Rattle.goal_graph.specs.declared.fault.PlanFault.{PlanFault}
use Rattle.goal_graph.specs.declared.fault.PlanFault.TheVariants.{Value, Peer, DepRange, NoteMisfit}
use Rattle.goal_graph.specs.declared.plan.Op.{Op}
use Rattle.goal_graph.specs.declared.plan.Kind.{Kind}
use Rattle.goal_graph.specs.declared.plan.Kind.TheVariants.{Calc, Send, Recv}
use Rattle.goal_graph.specs.declared.plan.Dep.{Dep}
use Rattle.goal_graph.specs.declared.plan.Note.{Note}
use Rattle.goal_graph.specs.declared.plan.Note.TheVariants.{Moves, Adds}
use Rattle.goal_graph.specs.Schedule.{Plan}
use Rattle.goal_graph.specs.Fault.{IsAccepted, op_count, value_fits, has_peer, dep_in_range, note_fits, can_move, can_add, op_fault, dep_fault, note_fault, first_fault, rank_fault, count_fault, plain_fault}
use Rattle.goal_graph.specs.Limits.{AreCountsWithin}
use Rattle.goal_graph.specs.Widths.{IsKindInWidth, IsOpInWidth, IsNoteInWidth, IsPlanInWidth, AreInWidth}
use Rattle.goal_graph.proofs.ForCallers.{option_or-none, no_fault_test_passed}
use Rattle.goal_parser.specs.Plans.{empty_plan}
use Rattle.goal_print.proofs.Lexes.{nat_le_true}
use Rattle.goal_print.proofs.Fits.{WildFits, KindFits, OpFits, DepFits, NoteFits, PlanFits}

-- what holds of each item without a fault
all_without_fault : {A : Type 0} (fault : ℕ → A → Option PlanFault) (P : A → Type 0) → ((k : ℕ) (x : A) → fault k x ≡ None → P x)
    → (n : ℕ) (xs : List A) → first_fault fault n xs ≡ None → AllByRecursion P xs
unfolding first_fault
all_without_fault fault P holds n [] none = tt
all_without_fault fault P holds n (x ∷ xs) none =
    let parts = option_or-none (fault n x) (first_fault fault (n + 1) xs) none in
    (holds n x parts.0, all_without_fault fault P holds (n + 1) xs parts.1)

all_by_two_laws : {A : Type 0} (P Q R : A → Type 0) → ((x : A) → P x → Q x → R x) → (xs : List A) → AllByRecursion P xs → AllByRecursion Q xs → AllByRecursion R xs
all_by_two_laws P Q R joined [] ps qs = tt
all_by_two_laws P Q R joined (x ∷ xs) ps qs = (joined x ps.0 qs.0, all_by_two_laws P Q R joined xs ps.1 qs.1)

first_test_passed : (a b : Bool) (first second : PlanFault) → (if a then (if b then None else Some second) else Some first) ≡ None → a ≡ true
first_test_passed true b first second h = refl
first_test_passed false b first second h = cc

nat_lt_true : (m n : ℕ) → nat_lt m n ≡ true → m < n
nat_lt_true m n h = grind (arith, nat_tests)

-- an operation

wild_fits : (o : Option ℕ) → ForSome o (λ n. n < 2 ^ 32) → WildFits o
wild_fits None h = tt
wild_fits (Some n) h = h n refl

kind_fits : (kind : Kind) (nic : ℕ) → value_fits kind nic ≡ true → IsKindInWidth kind → nic < 2 ^ 8 → KindFits kind nic
kind_fits (Calc nanos) nic value width small = let parts = and_parts (nat_le nanos MAX_NANOS) (nic == 0) value in (nat_le_true nanos MAX_NANOS parts.0, zero_nic parts.1)
  where
    zero_nic : (nic == 0) ≡ true → nic ≡ 0
    zero_nic h = grind (arith, nat_tests)
kind_fits (Send bytes to tag) nic value width small = (nat_le_true bytes MAX_BYTES value, width.1, width.2, omega arith)
kind_fits (Recv bytes from tag) nic value width small = (nat_le_true bytes MAX_BYTES value, wild_fits from width.1, wild_fits tag width.2, omega arith)

op_fits : (o : Op) → value_fits o.kind o.nic ≡ true → IsOpInWidth o → OpFits o
op_fits o value width = record { kind = kind_fits o.kind o.nic value width.kind width.nic; cpu = let small = width.cpu in omega arith }

-- a dependency and a note

dep_fits : (ops : ℕ) (d : Dep) → dep_in_range ops d ≡ true → DepFits ops d
dep_fits ops d h = let parts = and_parts (nat_lt d.later ops) (nat_lt d.earlier ops) h in (nat_lt_true d.later ops parts.0, nat_lt_true d.earlier ops parts.1)

note_fits_text : (os : List Op) (n : Note) → note_fits os n ≡ true → IsNoteInWidth n → NoteFits (length os) n
note_fits_text os (Moves op lo hi) h width =
    let parts = and_parts (can_move (slice_get os op)) (nat_le lo hi) h in
    (can_move_within (slice_get os op) refl parts.0, width.1, width.2)
  where
    can_move_within : (o : Option Op) → slice_get os op ≡ o → can_move o ≡ true → op < length os
    can_move_within None is h = cc
    can_move_within (Some o) is h = slice_get_within os op o is
note_fits_text os (Adds op from to) h width = (can_add_within (slice_get os op) refl h, width.1, width.2)
  where
    can_add_within : (o : Option Op) → slice_get os op ≡ o → can_add o ≡ true → op < length os
    can_add_within None is h = cc
    can_add_within (Some o) is h = slice_get_within os op o is

-- a rank without operations is empty

no_deps : (ds : List Dep) → AllByRecursion (DepFits 0) ds → ds ≡ []
no_deps [] all = refl
no_deps (d ∷ ds) all = absurd (let below = all.0.0 in omega arith)

no_notes : (ns : List Note) → AllByRecursion (NoteFits 0) ns → ns ≡ []
no_notes [] all = refl
no_notes (Moves op lo hi ∷ ns) all = absurd (let below = all.0.0 in omega arith)
no_notes (Adds op from to ∷ ns) all = absurd (let below = all.0.0 in omega arith)

empty_without_ops : (p : Plan) → AllByRecursion (DepFits (length p.ops)) p.deps → AllByRecursion (NoteFits (length p.ops)) p.notes → p.ops ≡ [] → p ≡ empty_plan
empty_without_ops p deps notes none =
    let zero_ops : length p.ops ≡ 0 = ap length none in
    let deps_none : p.deps ≡ [] = no_deps p.deps (subst (λ (n : ℕ). AllByRecursion (DepFits n) p.deps) zero_ops deps) in
    let notes_none : p.notes ≡ [] = no_notes p.notes (subst (λ (n : ℕ). AllByRecursion (NoteFits n) p.notes) zero_ops notes) in
    ap (λ (l : List Op). record { ops = l; deps = p.deps; notes = p.notes }) none
    ∙ ap (λ (l : List Dep). record { ops = []; deps = l; notes = p.notes }) deps_none
    ∙ ap (λ (l : List Note). record { ops = []; deps = []; notes = l }) notes_none

-- a plan

plan_fits : (ranks rank : ℕ) (p : Plan) → rank_fault ranks rank p ≡ None → IsPlanInWidth p → length p.ops ≤ MAX_OPS → PlanFits p
unfolding rank_fault
plan_fits ranks rank p none width few =
    let first = option_or-none (first_fault (op_fault ranks rank) 0 p.ops) _ none in
    let second = option_or-none (first_fault (dep_fault (length p.ops) rank) 0 p.deps) _ first.1 in
    let deps = all_without_fault (dep_fault (length p.ops) rank) (DepFits (length p.ops)) (λ k d h. dep_fits (length p.ops) d (no_fault_test_passed (dep_in_range (length p.ops) d) (DepRange rank k) h)) 0 p.deps second.0 in
    let notes =
    all_by_two_laws (λ n. note_fits p.ops n ≡ true) IsNoteInWidth (NoteFits (length p.ops)) (note_fits_text p.ops) p.notes
    (all_without_fault (note_fault p.ops rank) (λ n. note_fits p.ops n ≡ true) (λ k n h. no_fault_test_passed (note_fits p.ops n) (NoteMisfit rank k) h) 0 p.notes second.1)
    (recursion_from_All IsNoteInWidth p.notes width.notes) in
    record {
      few = few;
      ops =
          all_by_two_laws (λ o. value_fits o.kind o.nic ≡ true) IsOpInWidth OpFits op_fits p.ops
          (all_without_fault (op_fault ranks rank) (λ o. value_fits o.kind o.nic ≡ true) (λ k o h. first_test_passed (value_fits o.kind o.nic) (has_peer ranks o.kind) (Value rank k) (Peer rank k) h) 0 p.ops first.0)
          (recursion_from_All IsOpInWidth p.ops width.ops);
      deps = deps;
      notes = notes;
      nothing = empty_without_ops p deps notes;
    }

-- all plans

each_plan_has_few_ops : (limit : ℕ) (plans : List Plan) → op_count plans ≤ limit → AllByRecursion (λ (p : Plan). length p.ops ≤ limit) plans
unfolding op_count
each_plan_has_few_ops limit [] few = tt
each_plan_has_few_ops limit (p ∷ ps) few =
    let sum = sum_by-cons (λ (q : Plan). length q.ops) p ps in
    (omega (arith, sum), each_plan_has_few_ops limit ps (omega (arith, sum)))

pub plans_fit : (plans : List Plan) → IsAccepted plans → AreCountsWithin plans → AreInWidth plans → AllByRecursion PlanFits plans
unfolding plain_fault
plans_fit plans accepted counts width =
    let faultless = (option_or-none (count_fault plans) (first_fault (rank_fault (length plans)) 0 plans) accepted.plain).1 in
    let parts = all_by_two_laws (λ p. IsPlanInWidth p) (λ p. length p.ops ≤ MAX_OPS) (λ p. IsPlanInWidth p × (length p.ops ≤ MAX_OPS)) (λ p w f. (w, f)) plans
    (recursion_from_All IsPlanInWidth plans width.ranks) (each_plan_has_few_ops MAX_OPS plans counts.ops) in
    all_by_two_laws (λ p. (rank : ℕ) × (rank_fault (length plans) rank p ≡ None)) (λ p. IsPlanInWidth p × (length p.ops ≤ MAX_OPS)) PlanFits
    (λ p h w. plan_fits (length plans) h.0 p h.1 w.0 w.1) plans
    (all_without_fault (rank_fault (length plans)) (λ p. (rank : ℕ) × (rank_fault (length plans) rank p ≡ None)) (λ k p h. (k, h)) 0 plans faultless)
    parts
