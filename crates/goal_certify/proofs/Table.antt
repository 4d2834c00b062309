-- Rows by slots and by operations, touch by touch.
use Rattle.std.proofs.Common.{⊎_elim, ℕ, ◌+◌, ◌*◌, ◌≡◌, ◌≢◌, ◌<◌, ◌≤◌, ◌⊎◌, Bool, true, List, [], ◌∷◌, length, get_or, take, drop, replicate, All, Contains, sym, ap, ◌∙◌, subst, arith, true≢false}
use Rattle.std.proofs.lemmas.Bool.{cases_eq}
use Rattle.std.proofs.lemmas.List.{take_more, take_all, take-append-drop, get_or_default}
use Rattle.std.proofs.lemmas.List.Elements.{Contains-push, Contains-append_left, Contains-push_cases, All-contains}
use Rattle.goal_limits.specs.Limits.{certified_op_limit}
use Rattle.goal_certify.specs.declared.races.touches.Touch.{Touch}
use Rattle.goal_certify.specs.Rows.{has}
use Rattle.goal_certify.specs.Table.{is_marked, AreEmpty, AreMarked, meets, AreShared}
use Rattle.goal_certify.proofs.Rows.{has_zeros}

-- an element of the first i + 1 is one of the first i, or the next one
pub next_element : {X : Type 0} (xs : List X) (i : ℕ) (e x : X) → i < length xs → Contains (take (i + 1) xs) x → Contains (take i xs) x ⊎ (get_or xs i e ≡ x)
next_element {X} xs i e x inside c =
    Contains-push_cases (take i xs) (get_or xs i e) x (subst (λ (ys : List X). Contains ys x) (take_more xs i e inside) c)

pub first_elements : {X : Type 0} (xs : List X) (i : ℕ) (e x : X) → i < length xs → Contains (take i xs) x → Contains (take (i + 1) xs) x
first_elements {X} xs i e x inside c =
    subst (λ (ys : List X). Contains ys x) (sym (take_more xs i e inside)) (Contains-append_left (take i xs) (get_or xs i e ∷ []) x c)

pub last_element : {X : Type 0} (xs : List X) (i : ℕ) (e : X) → i < length xs → Contains (take (i + 1) xs) (get_or xs i e)
last_element {X} xs i e inside =
    subst (λ (ys : List X). Contains ys (get_or xs i e)) (sym (take_more xs i e inside)) (Contains-push (take i xs) (get_or xs i e))

pub marked_none : (only_writes : Bool) (touches : List Touch) (rows : List ℕ) → AreEmpty rows → AreMarked only_writes (take 0 touches) rows
marked_none only_writes touches rows empty = record {
  has_all = λ t c m. absurd (omega (arith, c.1));
  no_more = λ s k few h. absurd (empty s k few h);
  room = λ t c. absurd (omega (arith, c.1));
}

in_whole : {X : Type 0} (xs : List X) (i : ℕ) (x : X) → Contains (take i xs) x → Contains xs x
in_whole {X} xs i x c =
    subst (λ (ys : List X). Contains ys x) (take-append-drop i xs) (Contains-append_left (take i xs) (drop i xs) x c)

-- another touch is marked
pub marked_more : (only_writes : Bool) (touches : List Touch) (i : ℕ) (e : Touch) (old new : List ℕ) → i < length touches → AreMarked only_writes (take i touches) old → 32 * (get_or touches i e).slot + 32 ≤ length new → length old ≤ length new → (is_marked only_writes (get_or touches i e) ≡ true → has new (get_or touches i e).slot (get_or touches i e).op ≡ true) → (All (λ (t : Touch). t.op < certified_op_limit) touches) → ((r k : ℕ) → k < certified_op_limit → has old r k ≡ true → has new r k ≡ true) → ((r k : ℕ) → k < certified_op_limit → has new r k ≡ true → (has old r k ≡ true) ⊎ ((is_marked only_writes (get_or touches i e) ≡ true) × (r ≡ (get_or touches i e).slot) × (k ≡ (get_or touches i e).op))) → AreMarked only_writes (take (i + 1) touches) new
marked_more only_writes touches i e old new inside before room grown adds few_ops keeps no_more = record {
  has_all = λ t c m.
      ⊎_elim (λ o. keeps t.slot t.op (All-contains (λ (t : Touch). t.op < certified_op_limit) touches t few_ops (in_whole touches i t o)) (before.has_all t o m)) (λ f. subst (λ (u : Touch). is_marked only_writes u ≡ true → has new u.slot u.op ≡ true) f adds m) (next_element touches i e t inside c);
  no_more = λ s k few h.
      ⊎_elim (λ o. let m = before.no_more s k few o in (m.0, first_elements touches i e m.0 inside m.1, m.2, m.3, m.4)) (λ n. (get_or touches i e, last_element touches i e inside, n.0, sym n.1, sym n.2)) (no_more s k few h);
  room = λ t c.
      ⊎_elim (λ o. omega (arith, before.room t o)) (λ f. subst (λ (u : Touch). 32 * u.slot + 32 ≤ length new) f room) (next_element touches i e t inside c);
}

-- after the last one
pub marked_all : (only_writes : Bool) (touches : List Touch) (i : ℕ) (rows : List ℕ) → length touches ≤ i → AreMarked only_writes (take i touches) rows → AreMarked only_writes touches rows
marked_all only_writes touches i rows all m =
    subst (λ (ts : List Touch). AreMarked only_writes ts rows) (take_all i touches all) m

-- what is left to wipe
abbrev pub LeftFrom : List Touch → ℕ → List ℕ → Type 0
LeftFrom touches i rows = (s k : ℕ) → k < certified_op_limit → has rows s k ≡ true → (j : ℕ) × (i ≤ j) × (j < length touches) × ((e : Touch) → (get_or touches j e).slot ≡ s) × ((e : Touch) → (get_or touches j e).op ≡ k)

pub left_first : (only_writes : Bool) (touches : List Touch) (rows : List ℕ) → AreMarked only_writes touches rows → LeftFrom touches 0 rows
left_first only_writes touches rows m s k few h =
    let f = m.no_more s k few h in
    let found : (e : Touch) → get_or touches f.1.0 e ≡ f.0 = λ e. get_or_default touches f.1.0 e f.0 f.1.1 ∙ f.1.2 in
    (f.1.0, omega arith, f.1.1, λ e. ap (λ (t : Touch). t.slot) (found e) ∙ f.3, λ e. ap (λ (t : Touch). t.op) (found e) ∙ f.4)

pub left_next : (touches : List Touch) (i : ℕ) (e : Touch) (old new : List ℕ) → LeftFrom touches i old → ((r k : ℕ) → k < certified_op_limit → has new r k ≡ true → (has old r k ≡ true) × (r ≡ (get_or touches i e).slot → k ≢ (get_or touches i e).op)) → LeftFrom touches (i + 1) new
left_next touches i e old new left less s k few h =
    let l = less s k few h in
    let f = left s k few l.0 in
    ⊎_elim (λ same. absurd (l.1 (sym (subst (λ (j : ℕ). (get_or touches j e).slot ≡ s) same (f.3 e))) (sym (subst (λ (j : ℕ). (get_or touches j e).op ≡ k) same (f.4 e))))) (λ other. (f.0, omega (arith, f.1, other), f.2, f.3, f.4)) (cases_eq f.0 i)

pub left_none : (touches : List Touch) (i : ℕ) (rows : List ℕ) → length touches ≤ i → LeftFrom touches i rows → AreEmpty rows
left_none touches i rows all left r k few h = let f = left r k few h in absurd (omega (arith, f.1, f.2))

pub shared_none : (touchers writers : List ℕ) (touches : List Touch) (rows : List ℕ) → AreEmpty rows → AreShared touchers writers (take 0 touches) rows
shared_none touchers writers touches rows empty = record {
  has_all = λ t c k few m. absurd (omega (arith, c.1));
  no_more = λ r k few h. absurd (empty r k few h);
}

pub shared_more : (touchers writers : List ℕ) (touches : List Touch) (i : ℕ) (e : Touch) (old new : List ℕ) → i < length touches → AreShared touchers writers (take i touches) old → ((k : ℕ) → k < certified_op_limit → meets touchers writers (get_or touches i e) k ≡ true → has new (get_or touches i e).op k ≡ true) → ((r k : ℕ) → k < certified_op_limit → has old r k ≡ true → has new r k ≡ true) → ((r k : ℕ) → k < certified_op_limit → has new r k ≡ true → (has old r k ≡ true) ⊎ ((r ≡ (get_or touches i e).op) × (meets touchers writers (get_or touches i e) k ≡ true))) → AreShared touchers writers (take (i + 1) touches) new
shared_more touchers writers touches i e old new inside before adds keeps no_more = record {
  has_all = λ t c k few m.
      ⊎_elim (λ o. keeps t.op k few (before.has_all t o k few m)) (λ f. subst (λ (u : Touch). meets touchers writers u k ≡ true → has new u.op k ≡ true) f (adds k few) m) (next_element touches i e t inside c);
  no_more = λ r k few h.
      ⊎_elim (λ o. let m = before.no_more r k few o in (m.0, first_elements touches i e m.0 inside m.1, m.2, m.3)) (λ n. (get_or touches i e, last_element touches i e inside, sym n.0, n.1)) (no_more r k few h);
}

pub shared_all : (touchers writers : List ℕ) (touches : List Touch) (i : ℕ) (rows : List ℕ) → length touches ≤ i → AreShared touchers writers (take i touches) rows → AreShared touchers writers touches rows
shared_all touchers writers touches i rows all m =
    subst (λ (ts : List Touch). AreShared touchers writers ts rows) (take_all i touches all) m

pub empty_zeros : (rows : List ℕ) (n : ℕ) → rows ≡ replicate n 0 → AreEmpty rows
empty_zeros rows n e r k few h =
    true≢false (sym h ∙ ap (λ (ws : List ℕ). has ws r k) e ∙ has_zeros n r k)

pub shared_same : (touchers writers : List ℕ) (touches : List Touch) (rows others : List ℕ) → rows ≡ others → AreShared touchers writers touches others → AreShared touchers writers touches rows
shared_same touchers writers touches rows others e s =
    subst (λ (rs : List ℕ). AreShared touchers writers touches rs) (sym e) s
