-- The laws of knots.
use Rattle.std.proofs.Common.{ℕ, zero, suc, ◌<◌, ◌≤◌, ◌≡◌, ◌⊎◌, inl, inr, ⊎_elim, Bool, true, false, ◌&&◌, List, [], ◌∷◌, ◌++◌, length, map, filter, take, drop, get_or, count_by, sum_by, Contains, Option, Some, None, is_none, unwrap_or, refl, sym, ap, ◌∙◌, subst, arith}
use Rattle.std.specs.List.{before_first, list_any, position_or_len}
use Rattle.std.proofs.lemmas.Bool.{cases_Bool, cases_lt, both_ways, cond-true, cond-false, or_cases, and_from, and_parts}
use Rattle.std.proofs.lemmas.Option.{slice_get_within, get_or_from_slice_get}
use Rattle.std.proofs.lemmas.List.{get_or-take, get_or_default, length-take}
use Rattle.std.proofs.lemmas.List.Elements.{Contains-append_cases}
use Rattle.goal_graph.specs.declared.action.OpId.{OpId}
use Rattle.goal_graph.specs.declared.action.Stuck.{Stuck}
use Rattle.goal_graph.specs.Action.{same_op}
use Rattle.goal_graph.proofs.ForCallers.{same_op_true, same_op_from, contains_first, contains_more, contains_source, contains_mapped, same_tables}
use Rattle.sim_cycles.specs.declared.knot.Knot.{Knot}
use Rattle.sim_cycles.specs.Knots.{named, stuck_ops, next, step, way, comes_to, is_head, members, behind, knot_at, knots}
use Rattle.sim_cycles.specs.Laws.{IsInOrder, NamesListed, follow, LeadsInto, HasKnot, OneKnotEach, BehindAddUp, RingsAreClosed, LoneAreAlone, NoneLeftOut}
use Rattle.sim_cycles.specs.Walks.{after, Leads, ComesBack, IsHeadOf}
use Rattle.sim_cycles.specs.Places.{op_at, IsTarget}
use Rattle.sim_cycles.proofs.Walks.{leads_back, leads_transitive, head_from, one_head, has_head, head_below, head_of_round, after_below, after_first}
use Rattle.sim_cycles.proofs.PlacesLemmas.{Tracks, none_op, none_stuck, long_ops, place_of, op_listed, one_place, target_named, target_alone, closed, follow_at, follow_next, follow_zero, follow_first, leads_at, head_from_test, head_true, comes_from, comes_true}
use Rattle.sim_cycles.proofs.Counting.{sum_map, count_both_ways, count_filter, count_one, sum_ones}
use Rattle.sim_cycles.proofs.KnotLemmas.{before_first-stop, before_first-go}

-- members of lists
contains_filter : {X : Type 0} (p : X → Bool) (xs : List X) (x : X) → Contains (filter p xs) x → Contains xs x × (p x ≡ true)
contains_filter p [] x (k, inside, e) = absurd (omega (arith, inside))
contains_filter {X} p (z ∷ xs) x c = go (cases_Bool (p z)) (contains_filter p xs x)
  where
    on : (e : p z ≡ true) → Contains (z ∷ filter p xs) x → (Contains (filter p xs) x → Contains xs x × (p x ≡ true)) → Contains (z ∷ xs) x × (p x ≡ true)
    on e (zero, inside, same) rest = (contains_first z xs x same, ap p (sym same) ∙ e)
    on e (suc k, inside, same) rest = let r = rest (k, omega (arith, inside), same) in (contains_more z xs x r.0, r.1)

    go : (p z ≡ true) ⊎ (p z ≡ false) → (Contains (filter p xs) x → Contains xs x × (p x ≡ true)) → Contains (z ∷ xs) x × (p x ≡ true)
    go (inl e) rest = on e (let P : List X → Type 0 = λ ys. Contains ys x in subst P (cond-true (p z) (z ∷ filter p xs) (filter p xs) e) c) rest
    go (inr e) rest = let r = rest (let P : List X → Type 0 = λ ys. Contains ys x in subst P (cond-false (p z) (z ∷ filter p xs) (filter p xs) e) c) in (contains_more z xs x r.0, r.1)

filter_contains : {X : Type 0} (p : X → Bool) (xs : List X) (x : X) → Contains xs x → p x ≡ true → Contains (filter p xs) x
filter_contains p [] x (k, inside, e) passes = absurd (omega (arith, inside))
filter_contains {X} p (z ∷ xs) x (zero, inside, e) passes =
    let P : List X → Type 0 = λ ys. Contains ys x in subst P (sym (cond-true (p z) (z ∷ filter p xs) (filter p xs) (ap p e ∙ passes))) (contains_first z (filter p xs) x e)
filter_contains {X} p (z ∷ xs) x (suc k, inside, e) passes = go (cases_Bool (p z)) (filter_contains p xs x (k, omega (arith, inside), e) passes)
  where
    go : (p z ≡ true) ⊎ (p z ≡ false) → Contains (filter p xs) x → Contains (filter p (z ∷ xs)) x
    go (inl t) rest = let P : List X → Type 0 = λ ys. Contains ys x in subst P (sym (cond-true (p z) (z ∷ filter p xs) (filter p xs) t)) (contains_more z (filter p xs) x rest)
    go (inr f) rest = let P : List X → Type 0 = λ ys. Contains ys x in subst P (sym (cond-false (p z) (z ∷ filter p xs) (filter p xs) f)) rest

contains_take : {X : Type 0} (n : ℕ) (xs : List X) (x : X) → Contains (take n xs) x → Contains xs x
contains_take n xs x (k, inside, e) =
    let l : length (take n xs) ≤ length xs = length_take_le n xs in
    (k, omega (arith, inside, l), sym (taken n xs k x inside) ∙ e)
  where
    length_take_le : {X : Type 0} (n : ℕ) (xs : List X) → length (take n xs) ≤ length xs
    length_take_le n xs = omega (arith, length-take n xs)

    taken : {X : Type 0} (n : ℕ) (xs : List X) (k : ℕ) (d : X) → k < length (take n xs) → get_or (take n xs) k d ≡ get_or xs k d
    taken n xs k d inside = get_or-take n xs k d (omega (arith, inside, length-take n xs))

-- the targets of a list of stuck operations
module _ (list : List Stuck) (order : IsInOrder list) (listed : NamesListed list) where
  target_exists : (i : ℕ) → i < length list → (j : ℕ) × IsTarget list i j
  target_exists i inside = go (named (get_or list i none_stuck).why) refl
    where
      go : (o : Option OpId) → named (get_or list i none_stuck).why ≡ o → (j : ℕ) × IsTarget list i j
      go (Some y) e =
          let p = place_of list y (listed (get_or list i none_stuck) y (i, inside, get_or_default list i (get_or list i none_stuck) none_stuck inside) e) in
          (p.0, target_named list i p.0 none_stuck y order inside p.1 e p.2)
      go None e = (i, target_alone list i none_stuck order inside e)

  pub targets_exist : (t : ℕ → ℕ) × Tracks list t
  targets_exist = (λ i. go i (cases_lt i (length list)), λ i inside. on i inside (cases_lt i (length list)))
    where
      go : (i : ℕ) → (i < length list) ⊎ (length list ≤ i) → ℕ
      go i (inl inside) = (target_exists i inside).0
      go i (inr past) = 0

      on : (i : ℕ) → i < length list → (c : (i < length list) ⊎ (length list ≤ i)) → IsTarget list i (go i c)
      on i inside (inl h) = (target_exists i h).1
      on i inside (inr past) = absurd (omega (arith, inside, past))

module _ (list : List Stuck) where
  -- a member is on the way from the first
  way_member_is_followed : (m : ℕ) (x y : OpId) → Contains (way list m x) y → (k : ℕ) × (follow list k x ≡ y)
  unfolding way follow
  way_member_is_followed zero x y (k, inside, e) = absurd (omega (arith, inside))
  way_member_is_followed (suc m) x y (zero, inside, e) = (zero, e)
  way_member_is_followed (suc m) x y (suc k, inside, e) = let r = way_member_is_followed m (step list x) y (k, omega (arith, inside), e) in (suc r.0, r.1)

  pub member_follows : (x y : OpId) → Contains (members list x) y → (k : ℕ) × (follow list k x ≡ y)
  unfolding members
  member_follows x y (zero, inside, e) = (zero, follow_zero list x ∙ e)
  member_follows x y (suc k, inside, e) =
      let p = λ (z : OpId). same_op z x in
      let w = way list (length list) (step list x) in
      let c : Contains (before_first p w) y = (k, omega (arith, inside), e) in
      let r = way_member_is_followed (length list) (step list x) y (contains_take (position_or_len p w) w y c) in
      (suc r.0, follow_first list r.0 x ∙ r.1)

  first_member : (x : OpId) → Contains (members list x) x
  unfolding members
  first_member x = contains_first x (before_first (λ (z : OpId). same_op z x) (way list (length list) (step list x))) x refl

  -- Where the way from y comes to x, the operations up to there are those that follow z, and then x.
  steps_of_way_end_at_reached_op : (x : OpId) (m : ℕ) (z : OpId) → list_any (λ (w : OpId). same_op w x) (way list m (step list z)) ≡ true → map (step list) (z ∷ before_first (λ (w : OpId). same_op w x) (way list m (step list z))) ≡ before_first (λ (w : OpId). same_op w x) (way list m (step list z)) ++ x ∷ []
  unfolding way
  steps_of_way_end_at_reached_op x zero z e = absurd (cc)
  steps_of_way_end_at_reached_op x (suc m) z e = go (cases_Bool (same_op (step list z) x)) (steps_of_way_end_at_reached_op x m (step list z))
    where
      p : OpId → Bool
      p = λ (w : OpId). same_op w x

      y : OpId
      y = step list z

      rest : List OpId
      rest = way list m (step list y)

      go : (same_op y x ≡ true) ⊎ (same_op y x ≡ false) → (list_any p rest ≡ true → map (step list) (y ∷ before_first p rest) ≡ before_first p rest ++ x ∷ []) → map (step list) (z ∷ before_first p (y ∷ rest)) ≡ before_first p (y ∷ rest) ++ x ∷ []
      go (inl here) later =
          let b : before_first p (y ∷ rest) ≡ [] = before_first-stop p y rest here in
          ap (λ (ys : List OpId). map (step list) (z ∷ ys)) b ∙ ap (λ (w : OpId). w ∷ []) (same_op_true y x here) ∙ ap (λ (ys : List OpId). ys ++ x ∷ []) (sym b)
      go (inr on) later =
          let b : before_first p (y ∷ rest) ≡ y ∷ before_first p rest = before_first-go p y rest on in
          let any : list_any p rest ≡ true = ⊎_elim (λ t. absurd (both_ways _ on t)) (λ r. r) (or_cases (same_op y x) (list_any p rest) e) in
          ap (λ (ys : List OpId). map (step list) (z ∷ ys)) b ∙ ap (λ (ys : List OpId). y ∷ ys) (later any) ∙ ap (λ (ys : List OpId). ys ++ x ∷ []) (sym b)

  -- the members of a ring, one step on
  pub ring_steps : (x : OpId) → is_head list x ≡ true → map (step list) (members list x) ≡ drop 1 (members list x) ++ take 1 (members list x)
  unfolding members is_head comes_to
  ring_steps x head = steps_of_way_end_at_reached_op x (length list) x (and_first _ _ head)
    where
      and_first : (a b : Bool) → (a && b) ≡ true → a ≡ true
      and_first true b e = refl
      and_first false b e = e

  -- a step from a member leads to a member
  member_next : (x y : OpId) → is_head list x ≡ true → Contains (members list x) y → Contains (members list x) (step list y)
  unfolding members
  member_next x y head c =
      let ys = before_first (λ (z : OpId). same_op z x) (way list (length list) (step list x)) in
      let m : Contains (ys ++ x ∷ []) (step list y) = let P : List OpId → Type 0 = λ zs. Contains zs (step list y) in subst P (ring_steps x head) (contains_mapped (step list) (members list x) y c) in
      ⊎_elim (λ later. contains_more x ys (step list y) later) (λ (k, inside, e). contains_first x ys (step list y) (only k inside e)) (Contains-append_cases ys (x ∷ []) (step list y) m)
    where
      only : (k : ℕ) → k < 1 → get_or (x ∷ []) k (step list y) ≡ step list y → x ≡ step list y
      only zero inside e = e
      only (suc k) inside e = absurd (omega (arith, inside))

  pub member_after : (x : OpId) (k : ℕ) → is_head list x ≡ true → Contains (members list x) (follow list k x)
  member_after x zero head = let P : OpId → Type 0 = λ y. Contains (members list x) y in subst P (sym (follow_zero list x)) (first_member x)
  member_after x (suc k) head =
      let P : OpId → Type 0 = λ y. Contains (members list x) y in
      subst P (sym (follow_first list k x ∙ follow_next list k x)) (member_next x (follow list k x) head (member_after x k head))

  -- a listed knot has a least member
  pub knot_head : (k : Knot) → Contains (knots list) k → (x : OpId) × Contains (stuck_ops list) x × (is_head list x ≡ true) × (knot_at list x ≡ k)
  unfolding knots
  knot_head k c =
      let r = contains_source (knot_at list) (filter (is_head list) (stuck_ops list)) k c in
      let f = contains_filter (is_head list) (stuck_ops list) r.0 r.1 in
      (r.0, f.0, f.1, r.2)

  pub head_listed : (x : OpId) → Contains (stuck_ops list) x → is_head list x ≡ true → Contains (knots list) (knot_at list x)
  unfolding knots
  head_listed x c head = contains_mapped (knot_at list) (filter (is_head list) (stuck_ops list)) x (filter_contains (is_head list) (stuck_ops list) x c head)

pub one_knot_each : OneKnotEach
one_knot_each list x order listed c = go (targets_exist list order listed) (place_of list x c)
  where
    go : (t : ℕ → ℕ) × Tracks list t → ((i : ℕ) × (i < length list) × (op_at list i ≡ x)) → (k : Knot) × HasKnot list x k
    go (t, tracks) (i, inside, at) =
        let h = has_head t (length list) (closed list t tracks) i inside in
        let below = head_below t (length list) (closed list t tracks) i h.0 inside h.1 in
        let y = op_at list h.0 in
        let head = head_true list t tracks order h.0 below h.1.back h.1.least in (
          knot_at list y,
          record {
            listed = head_listed list y (op_listed list h.0 below) head;
            leads = record { steps = h.1.comes.steps; member = (let P : OpId → Type 0 = λ z. Contains (members list y) z in subst P (sym (ap (follow list h.1.comes.steps) (sym at) ∙ follow_at list t tracks h.1.comes.steps i inside ∙ ap (op_at list) h.1.comes.there)) (first_member list y)) };
            alone = λ j cj leads. other t tracks i inside at h.0 h.1 j (knot_head list j cj) leads;
          },
        )
      where
        other : (t : ℕ → ℕ) (tracks : Tracks list t) (i : ℕ) → i < length list → op_at list i ≡ x → (h : ℕ) → IsHeadOf t i h → (j : Knot) → ((z : OpId) × Contains (stuck_ops list) z × (is_head list z ≡ true) × (knot_at list z ≡ j)) → LeadsInto list x j → j ≡ knot_at list (op_at list h)
        other t tracks i inside at h a j (z, cz, head, is) leads =
            let p = place_of list z cz in
            let y = follow list leads.steps x in
            let m : Contains (members list z) y = (let P : Knot → Type 0 = λ k. Contains k.members y in subst P (sym is) leads.member) in
            let r = member_follows list z y m in
            let g = head_from_test list t tracks order p.0 p.1 (ap (is_head list) p.2 ∙ head) in
            let b : ℕ = after t leads.steps i in
            let same : follow list r.0 (op_at list p.0) ≡ op_at list b = ap (follow list r.0) p.2 ∙ r.1 ∙ ap (follow list leads.steps) (sym at) ∙ follow_at list t tracks leads.steps i inside in
            let l : Leads t p.0 b = leads_at list t tracks order r.0 p.0 b p.1 (after_below t (length list) (closed list t tracks) leads.steps i inside) same in
            let there : IsHeadOf t i p.0 = head_from t i p.0 p.0 (leads_transitive t i b p.0 (record { steps = leads.steps; there = refl }) (leads_back t p.0 b g.back l)) g in
            sym is ∙ ap (knot_at list) (sym p.2 ∙ ap (op_at list) (one_head t i p.0 h there a))

is_none_means : (o : Option OpId) → is_none o ≡ true → o ≡ None
is_none_means None e = refl
is_none_means (Some x) e = absurd (cc)

-- an operation that is alone is the only member of its knot
alone_members : (list : List Stuck) (x : OpId) → next list x ≡ None → members list x ≡ x ∷ []
unfolding members way
alone_members list x none = ap (λ (ys : List OpId). x ∷ ys) (go (length list))
  where
    stays : step list x ≡ x
    stays = ap (λ (o : Option OpId). unwrap_or o x) none

    go : (n : ℕ) → before_first (λ (y : OpId). same_op y x) (way list n (step list x)) ≡ []
    go zero = refl
    go (suc n) = before_first-stop (λ (y : OpId). same_op y x) (step list x) (way list n (step list (step list x))) (same_op_from (step list x) x stays)

pub lone_are_alone : LoneAreAlone
lone_are_alone list k c lone = go (knot_head list k c)
  where
    go : ((x : OpId) × Contains (stuck_ops list) x × (is_head list x ≡ true) × (knot_at list x ≡ k)) → (x : OpId) × (k.members ≡ x ∷ []) × (next list x ≡ None)
    go (x, cx, head, is) =
        let none : next list x ≡ None = is_none_means (next list x) (ap (λ (j : Knot). j.lone) is ∙ lone) in
        (x, ap (λ (j : Knot). j.members) (sym is) ∙ alone_members list x none, none)

-- following an operation that is alone stays there
follow_stays_at_fixed_point : (list : List Stuck) (y : OpId) → step list y ≡ y → (m : ℕ) → follow list m y ≡ y
unfolding follow
follow_stays_at_fixed_point list y e zero = refl
follow_stays_at_fixed_point list y e (suc m) = ap (follow list m) e ∙ follow_stays_at_fixed_point list y e m

map_twice : {X Y Z : Type 0} (f : Y → Z) (g : X → Y) (xs : List X) → map f (map g xs) ≡ map (λ (x : X). f (g x)) xs
map_twice f g [] = refl
map_twice {X} {Y} {Z} f g (x ∷ xs) = ap (λ (zs : List Z). f (g x) ∷ zs) (map_twice f g xs)

abbrev some_op : OpId → Option OpId
some_op x = Some x

-- no member of a ring is alone
ring_member_names_its_step : (list : List Stuck) (x y : OpId) → IsInOrder list → NamesListed list → Contains (stuck_ops list) x → is_head list x ≡ true → is_none (next list x) ≡ false → Contains (members list x) y → next list y ≡ Some (step list y)
ring_member_names_its_step list x y order listed cx head ring c = go (next list y) refl (targets_exist list order listed) (place_of list x cx) (member_follows list x y c)
  where
    clash : next list y ≡ None → (t : ℕ → ℕ) → Tracks list t → (i : ℕ) → i < length list → op_at list i ≡ x → (k : ℕ) → follow list k x ≡ y → ⊥
    clash none t tracks i inside at k e =
        let g = head_from_test list t tracks order i inside (ap (is_head list) at ∙ head) in
        let b : ℕ = after t k i in
        let there : op_at list b ≡ y = sym (follow_at list t tracks k i inside) ∙ ap (follow list k) at ∙ e in
        let below : b < length list = after_below t (length list) (closed list t tracks) k i inside in
        let l = leads_back t i b g.back (record { steps = k; there = refl }) in
        let stays : step list y ≡ y = ap (λ (o : Option OpId). unwrap_or o y) none in
        let same : y ≡ x = sym (follow_stays_at_fixed_point list y stays l.steps) ∙ ap (follow list l.steps) (sym there) ∙ follow_at list t tracks l.steps b below ∙ ap (op_at list) l.there ∙ at in
        both_ways _ ring (ap (λ (z : OpId). is_none (next list z)) (sym same) ∙ ap is_none none)

    go : (o : Option OpId) → next list y ≡ o → (t : ℕ → ℕ) × Tracks list t → ((i : ℕ) × (i < length list) × (op_at list i ≡ x)) → ((k : ℕ) × (follow list k x ≡ y)) → next list y ≡ Some (step list y)
    go (Some z) e f p m = e ∙ ap some_op (sym (ap (λ (o : Option OpId). unwrap_or o y) e))
    go None e (t, tracks) (i, inside, at) (k, m) = absurd (clash e t tracks i inside at k m)

pub rings_are_closed : RingsAreClosed
rings_are_closed list k order listed c ring = go (knot_head list k c)
  where
    go : ((x : OpId) × Contains (stuck_ops list) x × (is_head list x ≡ true) × (knot_at list x ≡ k)) → map (next list) k.members ≡ map Some (drop 1 k.members ++ take 1 k.members)
    go (x, cx, head, is) =
        let P : Knot → Type 0 = λ j. map (next list) j.members ≡ map Some (drop 1 j.members ++ take 1 j.members) in
        let m = members list x in
        subst P is (same_tables (next list) (λ (y : OpId). Some (step list y)) m (λ i y e. ring_member_names_its_step list x y order listed cx head (ap (λ (j : Knot). j.lone) is ∙ ring) (i, slice_get_within m i y e, get_or_from_slice_get m i y y e)) ∙ sym (map_twice Some (step list) m) ∙ ap (map Some) (ring_steps list x head))

pub none_left_out : NoneLeftOut
none_left_out list x n order listed c back = go (targets_exist list order listed) (place_of list x c)
  where
    go : (t : ℕ → ℕ) × Tracks list t → ((i : ℕ) × (i < length list) × (op_at list i ≡ x)) → (k : Knot) × Contains (knots list) k × Contains k.members x
    go (t, tracks) (i, inside, at) =
        let l = leads_at list t tracks order (suc n) i i inside inside (ap (follow list (suc n)) at ∙ back ∙ sym at) in
        let round : ComesBack t i = record { steps = n; there = sym (after_first t n i) ∙ one_place list order (after t (suc n) i) i (after_below t (length list) (closed list t tracks) (suc n) i inside) inside (sym (follow_at list t tracks (suc n) i inside) ∙ ap (follow list (suc n)) at ∙ back ∙ sym at) } in
        let h = head_of_round t i round in
        let below = head_below t (length list) (closed list t tracks) i h.0 inside h.1 in
        let y = op_at list h.0 in
        let head = head_true list t tracks order h.0 below h.1.back h.1.least in
        let l = leads_back t i h.0 round h.1.comes in
        let there : follow list l.steps y ≡ x = follow_at list t tracks l.steps h.0 below ∙ ap (op_at list) l.there ∙ at in
        (knot_at list y, head_listed list y (op_listed list h.0 below) head, (let P : OpId → Type 0 = λ z. Contains (members list y) z in subst P there (member_after list y l.steps head)))

-- each operation comes to the least member of one knot
one_head_each : (list : List Stuck) → IsInOrder list → (t : ℕ → ℕ) → Tracks list t → (j : ℕ) → j < length list → count_by (λ (x : OpId). comes_to list (op_at list j) x) (filter (is_head list) (stuck_ops list)) ≡ 1
one_head_each list order t tracks j inside = go (has_head t (length list) (closed list t tracks) j inside)
  where
    both : OpId → Bool
    both x = is_head list x && comes_to list (op_at list j) x

    go : (h : ℕ) × IsHeadOf t j h → count_by (λ (x : OpId). comes_to list (op_at list j) x) (filter (is_head list) (stuck_ops list)) ≡ 1
    go (h, a) =
        let below = head_below t (length list) (closed list t tracks) j h inside a in
        count_filter (comes_to list (op_at list j)) (is_head list) (stuck_ops list) ∙ count_one (λ (x : OpId). is_head list x && comes_to list (op_at list j) x) none_op (stuck_ops list) h (omega (arith, below, long_ops list)) (and_from _ _ (head_true list t tracks order h below a.back a.least) (comes_true list t tracks order j h inside a.comes)) (λ i less e. let hi : i < length list = omega (arith, less, long_ops list) in let parts = and_parts _ _ e in one_head t j i h (head_from t j i i (comes_from list t tracks order j i inside hi parts.1) (head_from_test list t tracks order i hi parts.0)) a)

pub behind_add_up : BehindAddUp
unfolding knots behind
behind_add_up list order listed = go (targets_exist list order listed)
  where
    go : (t : ℕ → ℕ) × Tracks list t → sum_by (λ (k : Knot). k.behind) (knots list) ≡ length list
    go (t, tracks) =
        sum_map (λ (k : Knot). k.behind) (knot_at list) (filter (is_head list) (stuck_ops list)) ∙ count_both_ways (comes_to list) (filter (is_head list) (stuck_ops list)) (stuck_ops list) ∙ sum_ones (λ (y : OpId). count_by (comes_to list y) (filter (is_head list) (stuck_ops list))) none_op (stuck_ops list) (λ j inside. one_head_each list order t tracks j (omega (arith, inside, long_ops list))) ∙ long_ops list
