-- Properties of the plans of a probe, and that they are accepted.
use Rattle.std.proofs.Common.{◌≡◌, ℕ, zero, suc, ◌+◌, ◌*◌, ◌-◌, ◌<◌, ◌≤◌, ◌%◌, ◌^◌, ◌&&◌, eqb, leb, Bool, true, false, List, [], ◌∷◌, ◌++◌, length, get_or, Some, None, All, refl, add-one, set, take, drop, subst, ap, sym, ◌∙◌, arith, if◌then◌else◌}
use Rattle.std.specs.List.{sum_by}
use Rattle.std.proofs.lemmas.Bool.{eqb-false, le-leb, lt-ltb}
use Rattle.std.proofs.lemmas.Bool.Decides.{nat_tests}
use Rattle.std.proofs.lemmas.List.{length-append, drop_all, take_all, append-nil}
use Rattle.std.proofs.lemmas.List.Elements.{All-append, All-head, All-tail}
use Rattle.std.proofs.lemmas.List.Sums.{sum_by-cons}
use Rattle.goal_limits.specs.declared.limits.TheConstants.{MAX_OPS, MAX_DEPS, MAX_NOTES, MAX_BYTES, MAX_NANOS, MAX_ROUNDS}
use Rattle.goal_graph.specs.declared.plan.Kind.TheVariants.{Calc, Send, Recv}
use Rattle.goal_graph.specs.declared.plan.Op.{Op}
use Rattle.goal_graph.specs.declared.plan.Dep.{Dep}
use Rattle.goal_graph.specs.Schedule.{Plan}
use Rattle.goal_graph.specs.Fault.{value_fits, has_peer, is_rank, dep_in_range, op_fault, dep_fault, first_fault, rank_fault, count_fault, count_over, op_count, dep_count, note_count, plain_fault, IsAccepted}
use Rattle.goal_graph.proofs.ForCallers.{all_of_empty, dep_in_range-parts, count_within_limit}
use Rattle.goal_blocks.proofs.ForCallers.{first_fault-of_none, lower_have_depths}
use Rattle.goal_collectives.specs.declared.draws.Round.{Round}
use Rattle.goal_collectives.specs.Probe.{probe_ranks, next_state, drawn, round_from, state_before, op_in, requires_end, after_last, source_in, with_work, with_receive, at_rank, with_round, idle, idle_ranks, probed}

-- another item at the front
all_cons : {X : Type 0} (P : X → Type 0) (x : X) (xs : List X) → P x → All P xs → All P (x ∷ xs)
all_cons P x xs h t zero d l = h
all_cons P x xs h t (suc k) d l = t k d (omega arith)

-- the numbers of a round
pub record IsSmall (x : Round) : Type 0 where
  pub from : x.from < probe_ranks
  pub to : x.to < probe_ranks
  pub nanos : x.nanos < 10000
  pub bytes : x.bytes < 100000

pub small_round : (x : ℕ) → IsSmall (round_from x)
unfolding round_from
small_round x = record { from = omega arith; to = omega arith; nanos = omega arith; bytes = omega arith }

abbrev OpFits : Op → Type 0
OpFits o = (value_fits o.kind o.nic ≡ true) × (has_peer probe_ranks o.kind ≡ true)

abbrev DepFits : ℕ → Dep → Type 0
DepFits n d = (dep_in_range n d ≡ true) × (d.earlier < d.later)

-- a plan that breaks no rule
record IsSound (p : Plan) : Type 0 where
  ops : All OpFits p.ops
  deps : All (DepFits (length p.ops)) p.deps
  notes : p.notes ≡ []

in_range : (n : ℕ) (d : Dep) → d.later < n → d.earlier < n → dep_in_range n d ≡ true
in_range n d l e = rw (lt-ltb d.later n l, lt-ltb d.earlier n e) refl

deps_fit_more_ops : (n m : ℕ) (ds : List Dep) → n ≤ m → All (DepFits n) ds → All (DepFits m) ds
deps_fit_more_ops n m ds le a k d l =
    let h = a k d l in
    let p = dep_in_range-parts n (get_or ds k d) h.0 in
    (in_range m (get_or ds k d) (omega (arith, p.0)) (omega (arith, p.1)), h.1)

new_dep_fits : (n m earlier later : ℕ) → later < m → earlier < later → DepFits m (requires_end later earlier)
new_dep_fits n m earlier later l e = (in_range m (requires_end later earlier) l (omega arith), e)

dep_on_last_fits : (n m : ℕ) → n < m → All (DepFits m) (after_last n)
dep_on_last_fits n m l = by (eqb n 0) refl
  where
    by : (b : Bool) → eqb n 0 ≡ b → All (DepFits m) (if b then [] else requires_end n (n - 1) ∷ [])
    by true none = all_of_empty (DepFits m)
    by false some =
        all_cons (DepFits m) (requires_end n (n - 1)) [] (new_dep_fits n m (n - 1) n l (omega (arith, eqb-false n 0 some))) (all_of_empty (DepFits m))

work_sound : (i : ℕ) (x : Round) (p : Plan) → IsSmall x → IsSound p → IsSound (with_work i x p)
unfolding with_work
work_sound i x p small sound = record {
  ops =
      All-append OpFits p.ops (op_in i (Calc x.nanos) ∷ op_in i (Send x.bytes x.to i) ∷ []) sound.ops
      (all_cons OpFits (op_in i (Calc x.nanos)) (op_in i (Send x.bytes x.to i) ∷ []) (calc_value, refl)
      (all_cons OpFits (op_in i (Send x.bytes x.to i)) [] (le-leb x.bytes MAX_BYTES (omega (arith, small.bytes)), lt-ltb x.to probe_ranks small.to) (all_of_empty OpFits)));
  deps =
      All-append (DepFits total) p.deps (after_last (length p.ops) ++ requires_end (length p.ops + 1) (length p.ops) ∷ []) (deps_fit_more_ops (length p.ops) total p.deps (omega (arith, size)) sound.deps)
      (All-append (DepFits total) (after_last (length p.ops)) (requires_end (length p.ops + 1) (length p.ops) ∷ []) (dep_on_last_fits (length p.ops) total (omega (arith, size)))
      (all_cons (DepFits total) (requires_end (length p.ops + 1) (length p.ops)) [] (new_dep_fits 0 total (length p.ops) (length p.ops + 1) (omega (arith, size)) (omega arith)) (all_of_empty (DepFits total))));
  notes = sound.notes;
}
  where
    total : ℕ
    total = length (p.ops ++ (op_in i (Calc x.nanos) ∷ op_in i (Send x.bytes x.to i) ∷ []))

    size : length (p.ops ++ (op_in i (Calc x.nanos) ∷ op_in i (Send x.bytes x.to i) ∷ [])) ≡ length p.ops + 2
    size = length-append p.ops (op_in i (Calc x.nanos) ∷ op_in i (Send x.bytes x.to i) ∷ [])

    calc_value : (leb x.nanos MAX_NANOS && eqb 0 0) ≡ true
    calc_value = rw (le-leb x.nanos MAX_NANOS (omega (arith, small.nanos))) refl

receive_sound : (i : ℕ) (x : Round) (p : Plan) → IsSmall x → IsSound p → IsSound (with_receive i x p)
unfolding with_receive
receive_sound i x p small sound = record {
  ops =
      All-append OpFits p.ops (op_in i (Recv x.bytes (source_in i x) (Some i)) ∷ []) sound.ops
      (all_cons OpFits (op_in i (Recv x.bytes (source_in i x) (Some i))) [] (le-leb x.bytes MAX_BYTES (omega (arith, small.bytes)), source (eqb (i % 8) 7)) (all_of_empty OpFits));
  deps = deps_fit_more_ops (length p.ops) (length (p.ops ++ op_in i (Recv x.bytes (source_in i x) (Some i)) ∷ [])) p.deps (omega (arith, size)) sound.deps;
  notes = sound.notes;
}
  where
    size : length (p.ops ++ op_in i (Recv x.bytes (source_in i x) (Some i)) ∷ []) ≡ length p.ops + 1
    size = length-append p.ops (op_in i (Recv x.bytes (source_in i x) (Some i)) ∷ [])

    source : (b : Bool) → is_rank probe_ranks (if b then None else Some x.from) ≡ true
    source true = refl
    source false = lt-ltb x.from probe_ranks small.from

-- properties of plans of which one is changed
all_at_rank : (P Q : Plan → Type 0) (r : ℕ) (f : Plan → Plan) (ps : List Plan) → ((p : Plan) → P p → Q p) → ((p : Plan) → P p → Q (f p)) → All P ps → All Q (at_rank r f ps)
unfolding at_rank
all_at_rank P Q r f [] stays changes h = all_of_empty Q
all_at_rank P Q zero f (p ∷ ps) stays changes h =
    all_cons Q (f p) ps (changes p (All-head P p ps h)) (λ k d l. stays (get_or ps k d) (All-tail P p ps h k d l))
all_at_rank P Q (suc r) f (p ∷ ps) stays changes h =
    all_cons Q p (at_rank r f ps) (stays p (All-head P p ps h)) (all_at_rank P Q r f ps stays changes (All-tail P p ps h))

pub length_at_rank : (r : ℕ) (f : Plan → Plan) (ps : List Plan) → length (at_rank r f ps) ≡ length ps
unfolding at_rank
length_at_rank r f [] = refl
length_at_rank zero f (p ∷ ps) = refl
length_at_rank (suc r) f (p ∷ ps) = ap suc (length_at_rank r f ps)

sum_at_rank : (m : Plan → ℕ) (c r : ℕ) (f : Plan → Plan) (ps : List Plan) → ((p : Plan) → m (f p) ≤ m p + c) → sum_by m (at_rank r f ps) ≤ sum_by m ps + c
unfolding at_rank
sum_at_rank m c r f [] grows = omega arith
sum_at_rank m c zero f (p ∷ ps) grows = omega (arith, grows p, sum_by-cons m p ps, sum_by-cons m (f p) ps)
sum_at_rank m c (suc r) f (p ∷ ps) grows =
    omega (arith, sum_at_rank m c r f ps grows, sum_by-cons m p ps, sum_by-cons m p (at_rank r f ps))

-- the plans of a probe
pub probed_ranks : (n seed : ℕ) → length (probed n seed) ≡ probe_ranks
unfolding probed idle_ranks
probed_ranks zero seed = refl
probed_ranks (suc n) seed =
    let x = round_from (state_before seed n) in
    length_at_rank x.to (with_receive n x) (at_rank x.from (with_work n x) (probed n seed)) ∙ (length_at_rank x.from (with_work n x) (probed n seed) ∙ probed_ranks n seed)

idle_sound : IsSound idle
idle_sound = record { ops = all_of_empty OpFits; deps = all_of_empty (DepFits 0); notes = refl }

all_of_idle_ranks : (P : Plan → Type 0) (n : ℕ) → P idle → All P (idle_ranks n)
unfolding idle_ranks
all_of_idle_ranks P zero h = all_of_empty P
all_of_idle_ranks P (suc n) h = all_cons P idle (idle_ranks n) h (all_of_idle_ranks P n h)

probed_sound : (n seed : ℕ) → All IsSound (probed n seed)
unfolding probed
probed_sound zero seed = all_of_idle_ranks IsSound probe_ranks idle_sound
probed_sound (suc n) seed =
    let x = round_from (state_before seed n) in
    let small = small_round (state_before seed n) in
    all_at_rank IsSound IsSound x.to (with_receive n x) (at_rank x.from (with_work n x) (probed n seed)) (λ p h. h) (λ p h. receive_sound n x p small h)
    (all_at_rank IsSound IsSound x.from (with_work n x) (probed n seed) (λ p h. h) (λ p h. work_sound n x p small h) (probed_sound n seed))

ops_after_work : (i : ℕ) (x : Round) (p : Plan) → length (with_work i x p).ops ≡ length p.ops + 2
unfolding with_work
ops_after_work i x p = length-append p.ops (op_in i (Calc x.nanos) ∷ op_in i (Send x.bytes x.to i) ∷ [])

ops_after_receive : (i : ℕ) (x : Round) (p : Plan) → length (with_receive i x p).ops ≡ length p.ops + 1
unfolding with_receive
ops_after_receive i x p = length-append p.ops (op_in i (Recv x.bytes (source_in i x) (Some i)) ∷ [])

at_most_one_dep_on_last : (n : ℕ) → length (after_last n) ≤ 1
at_most_one_dep_on_last n = by (eqb n 0)
  where
    by : (b : Bool) → length (if b then [] else requires_end n (n - 1) ∷ []) ≤ 1
    by true = omega arith
    by false = omega arith

deps_after_work : (i : ℕ) (x : Round) (p : Plan) → length (with_work i x p).deps ≤ length p.deps + 2
unfolding with_work
deps_after_work i x p =
    let n = length p.ops in
    omega (arith, length-append p.deps (after_last n ++ requires_end (n + 1) n ∷ []), length-append (after_last n) (requires_end (n + 1) n ∷ []), at_most_one_dep_on_last n)

-- each rank has few operations
pub probed_few : (n seed : ℕ) → All (λ (p : Plan). length p.ops ≤ 3 * n) (probed n seed)
unfolding probed
probed_few zero seed = all_of_idle_ranks (λ (p : Plan). length p.ops ≤ 0) probe_ranks (omega arith)
probed_few (suc n) seed =
    let x = round_from (state_before seed n) in
    all_at_rank (λ (p : Plan). length p.ops ≤ 3 * n + 2) (λ (p : Plan). length p.ops ≤ 3 * suc n) x.to (with_receive n x) (at_rank x.from (with_work n x) (probed n seed))
    (λ p h. omega arith) (λ p h. omega (arith, ops_after_receive n x p, h))
    (all_at_rank (λ (p : Plan). length p.ops ≤ 3 * n) (λ (p : Plan). length p.ops ≤ 3 * n + 2) x.from (with_work n x) (probed n seed) (λ p h. omega arith) (λ p h. omega (arith, ops_after_work n x p, h)) (probed_few n seed))

idle_sum : (m : Plan → ℕ) (n : ℕ) → m idle ≡ 0 → sum_by m (idle_ranks n) ≡ 0
unfolding idle_ranks
idle_sum m zero none = refl
idle_sum m (suc n) none = omega (arith, none, idle_sum m n none, sum_by-cons m idle (idle_ranks n))

-- how much a round adds to a sum over the plans
round_sum : (m : Plan → ℕ) (a b i : ℕ) (x : Round) (ps : List Plan) → ((p : Plan) → m (with_work i x p) ≤ m p + a) → ((p : Plan) → m (with_receive i x p) ≤ m p + b)
    → sum_by m (with_round i x ps) ≤ sum_by m ps + a + b
round_sum m a b i x ps work receive =
    omega (arith, sum_at_rank m b x.to (with_receive i x) (at_rank x.from (with_work i x) ps) receive, sum_at_rank m a x.from (with_work i x) ps work)

probed_ops : (n seed : ℕ) → op_count (probed n seed) ≤ 3 * n
unfolding probed op_count
probed_ops zero seed = omega (arith, idle_sum (λ (p : Plan). length p.ops) probe_ranks refl)
probed_ops (suc n) seed =
    let x = round_from (state_before seed n) in
    omega (arith, probed_ops n seed, round_sum (λ (p : Plan). length p.ops) 2 1 n x (probed n seed) (λ p. omega (arith, ops_after_work n x p)) (λ p. omega (arith, ops_after_receive n x p)))

deps_after_receive : (i : ℕ) (x : Round) (p : Plan) → length (with_receive i x p).deps ≤ length p.deps + 0
unfolding with_receive
deps_after_receive i x p = omega arith

notes_after_work : (i : ℕ) (x : Round) (p : Plan) → length (with_work i x p).notes ≤ length p.notes + 0
unfolding with_work
notes_after_work i x p = omega arith

notes_after_receive : (i : ℕ) (x : Round) (p : Plan) → length (with_receive i x p).notes ≤ length p.notes + 0
unfolding with_receive
notes_after_receive i x p = omega arith

probed_deps : (n seed : ℕ) → dep_count (probed n seed) ≤ 2 * n
unfolding probed dep_count
probed_deps zero seed = omega (arith, idle_sum (λ (p : Plan). length p.deps) probe_ranks refl)
probed_deps (suc n) seed =
    let x = round_from (state_before seed n) in
    omega (arith, probed_deps n seed, round_sum (λ (p : Plan). length p.deps) 2 0 n x (probed n seed) (deps_after_work n x) (deps_after_receive n x))

probed_notes : (n seed : ℕ) → note_count (probed n seed) ≤ 0
unfolding probed note_count
probed_notes zero seed = omega (arith, idle_sum (λ (p : Plan). length p.notes) probe_ranks refl)
probed_notes (suc n) seed =
    let x = round_from (state_before seed n) in
    omega (arith, probed_notes n seed, round_sum (λ (p : Plan). length p.notes) 0 0 n x (probed n seed) (notes_after_work n x) (notes_after_receive n x))

rank_sound : (n : ℕ) (p : Plan) → IsSound p → rank_fault probe_ranks n p ≡ None
unfolding rank_fault first_fault
rank_sound n p sound =
    rw (
      first_fault-of_none OpFits (op_fault probe_ranks n) (λ k o h. rw (h.0, h.1) refl) 0 p.ops sound.ops,
      first_fault-of_none (DepFits (length p.ops)) (dep_fault (length p.ops) n) (λ k d h. rw h.0 refl) 0 p.deps sound.deps,
      sound.notes,
    ) refl

probed_plain : (n seed : ℕ) → n ≤ MAX_ROUNDS → plain_fault (probed n seed) ≡ None
unfolding plain_fault count_fault
probed_plain n seed few =
    rw (
      probed_ranks n seed,
      count_within_limit MAX_OPS (op_count (probed n seed)) (omega (arith, probed_ops n seed)),
      count_within_limit MAX_DEPS (dep_count (probed n seed)) (omega (arith, probed_deps n seed)),
      count_within_limit MAX_NOTES (note_count (probed n seed)) (omega (arith, probed_notes n seed)),
    )
    (first_fault-of_none IsSound (rank_fault probe_ranks) (λ k p h. rank_sound k p h) 0 (probed n seed) (probed_sound n seed))

pub probed_accepted : (n seed : ℕ) → n ≤ MAX_ROUNDS → IsAccepted (probed n seed)
probed_accepted n seed few = record {
  plain = probed_plain n seed few;
  depths =
      λ x is_op.
      lower_have_depths (probed n seed) (λ k p l. (λ j d inside. ((probed_sound n seed k p l).deps j d inside).1)) x;
}

-- another idle rank at the end
pub idle_ranks_with_another : (n : ℕ) → idle_ranks n ++ idle ∷ [] ≡ idle_ranks (suc n)
unfolding idle_ranks
idle_ranks_with_another zero = refl
idle_ranks_with_another (suc n) = ap (λ ps. idle ∷ ps) (idle_ranks_with_another n)

pub idle_ranks_are_probed : (seed : ℕ) → idle_ranks probe_ranks ≡ probed 0 seed
unfolding probed
idle_ranks_are_probed seed = refl

pub probed_with_another_round : (n seed : ℕ) (x : Round) (ps qs : List Plan) → ps ≡ probed n seed → x ≡ round_from (state_before seed n) → qs ≡ with_round n x ps → qs ≡ probed (suc n) seed
unfolding probed
probed_with_another_round n seed x ps qs so_far drawn added = rw (added, so_far, drawn) refl

pub state_after_round : (n seed : ℕ) → next_state (next_state (next_state (next_state (state_before seed n)))) ≡ state_before seed (suc n)
unfolding state_before
state_after_round n seed = refl

pub state_before_first : (seed : ℕ) → seed ≡ state_before seed 0
unfolding state_before
state_before_first seed = refl

pub probed_ops_fit : (n seed : ℕ) → n ≤ MAX_ROUNDS → All (λ (p : Plan). length p.ops < 2 ^ 31) (probed n seed)
probed_ops_fit n seed few k p l = omega (arith, probed_few n seed k p l)

pub pushed_idle : (n : ℕ) (p : Plan) (old new : List Plan) → old ≡ idle_ranks n → p ≡ idle → new ≡ old ++ p ∷ [] → new ≡ idle_ranks (n + 1)
pushed_idle n p old new so_far none pushed = rw (pushed, so_far, none, add-one) (idle_ranks_with_another n)

-- replacing a plan in the list changes the plan of that rank
pub at_rank_by_set : (r : ℕ) (f : Plan → Plan) (ps : List Plan) (old new : Plan) → r < length ps → old ≡ get_or ps r old → new ≡ f old → set ps r new ≡ at_rank r f ps
unfolding at_rank
at_rank_by_set r f [] old new inside here changed = absurd (omega arith)
at_rank_by_set zero f (p ∷ ps) old new inside here changed = rw (changed, here) refl
at_rank_by_set (suc r) f (p ∷ ps) old new inside here changed = ap (λ qs. p ∷ qs) (at_rank_by_set r f ps old new (omega arith) here changed)

pub round_is_small : (s : ℕ) (x : Round) → x ≡ round_from s → IsSmall x
round_is_small s x e = subst IsSmall (sym e) (small_round s)

pub probed_ops_fit_in : (n seed : ℕ) (ps : List Plan) → n ≤ MAX_ROUNDS → ps ≡ probed n seed → All (λ (p : Plan). length p.ops < 2 ^ 31) ps
probed_ops_fit_in n seed ps few e = rw e (probed_ops_fit n seed few)

pub round_ranks : (i : ℕ) (x : Round) (ps : List Plan) → length (with_round i x ps) ≡ length ps
round_ranks i x ps =
    length_at_rank x.to (with_receive i x) (at_rank x.from (with_work i x) ps) ∙ length_at_rank x.from (with_work i x) ps
