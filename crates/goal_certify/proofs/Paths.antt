-- The path from an operation to the next one whose row is made: each needs the one after it.
use Rattle.std.proofs.Common.{ℕ, Bool, ◌+◌, ◌-◌, ◌≡◌, ◌≢◌, ◌<◌, ◌≤◌, ◌++◌, true, false, cond, inl, inr, List, [], ◌∷◌, length, get_or, set, Contains, refl, sym, ap, ◌∙◌, subst, arith, true≢false, length-append, get_or-set_other}
use Rattle.std.specs.List.{sum_by}
use Rattle.std.proofs.lemmas.Bool.{cases_eq, cases_lt}
use Rattle.std.proofs.lemmas.List.{get_or_append_left, get_or_push}
use Rattle.std.proofs.lemmas.List.Sums.{sum_by-set}
use Rattle.std.proofs.lemmas.List.Elements.{All-contains}
use Rattle.goal_limits.specs.Limits.{certified_op_limit}
use Rattle.goal_graph.specs.declared.action.OpId.{OpId}
use Rattle.goal_graph.specs.declared.plan.Need.{Need}
use Rattle.goal_graph.specs.Schedule.{Plan, ops_at, needs, needed}
use Rattle.goal_graph.specs.Fault.{IsOp, IsAccepted, is_below}
use Rattle.goal_graph.proofs.ForCallers.{needs-exist}
use Rattle.goal_blocks.specs.Race.{EndsBefore}
use Rattle.goal_certify.specs.Rows.{has}
use Rattle.goal_graph.specs.Search.{op_id}
use Rattle.goal_certify.specs.Before.{AreRows, HasNeedsDone, IsMissing}
use Rattle.goal_certify.proofs.Before.{depth_bound_is_positive, needed_depth}

-- how many operations are not done
abbrev pub undone : List Bool → ℕ
undone done = sum_by (λ b. cond b 0 1) done

pub undone_falls : (done : List Bool) (op : ℕ) → op < length done → get_or done op false ≡ false → undone (set done op true) + 1 ≡ undone done
undone_falls done op inside left_out =
    let f : Bool → ℕ = λ b. cond b 0 1 in
    let s : undone (set done op true) + f (get_or done op false) ≡ undone done + 0 = sum_by-set f done op true false inside in
    let one : f (get_or done op false) ≡ 1 = ap f left_out in
    omega (arith, s, one)

module _ (plans : List Plan) (rank : ℕ) where
  -- the path's operations are not done; each needs the one after it, and so has a greater depth
  pub record IsPath (done : List Bool) (path : List ℕ) : Type 0 where
    pub exist : (i : ℕ) → i < length path → IsOp plans (op_id rank (get_or path i 0))
    pub deep : (i : ℕ) → i < length path → is_below plans (length (ops_at plans rank) - i) (op_id rank (get_or path i 0)) ≡ true
    pub needed : (i : ℕ) → i + 1 < length path → (d : Need) × Contains (needs plans (op_id rank (get_or path i 0))) d × (d.op ≡ get_or path (i + 1) 0)
    pub left_out : (i : ℕ) → i < length path → get_or done (get_or path i 0) false ≡ false

  pub path_at_most_op_count : (done : List Bool) (path : List ℕ) → IsPath done path → length path ≤ length (ops_at plans rank)
  path_at_most_op_count done path p =
      elim (cases_lt 0 (length path)) [
        | inl some ↦
            let last = p.deep (length path - 1) (omega (arith, some)) in
            omega (arith, some, depth_bound_is_positive plans _ _ last)
        | inr none ↦ omega (arith, none)
      ]

  pub path_begins : (done : List Bool) (op : ℕ) → IsOp plans (op_id rank op) → is_below plans (length (ops_at plans rank)) (op_id rank op) ≡ true → get_or done op false ≡ false → IsPath done (op ∷ [])
  path_begins done op exists deep left_out = record {
    exist = λ i l. let here : i ≡ 0 = omega (arith, l) in rw here exists;
    deep = λ i l.
        let here : i ≡ 0 = omega (arith, l) in
        let all : length (ops_at plans rank) - 0 ≡ length (ops_at plans rank) = omega arith in
        rw (here, all) deep;
    needed = λ i l. absurd (omega (arith, l));
    left_out = λ i l. let here : i ≡ 0 = omega (arith, l) in rw here left_out;
  }

  module _ (done : List Bool) (front : List ℕ) (op : ℕ) (p : IsPath done (front ++ op ∷ [])) where
    abbrev path : List ℕ
    path = front ++ op ∷ []

    long : length path ≡ length front + 1
    long = length-append front (op ∷ [])

    last : get_or path (length front) 0 ≡ op
    last = get_or_push front op 0 (length front) refl

    pub last_exists : IsOp plans (op_id rank op)
    last_exists = subst (λ (k : ℕ). IsOp plans (op_id rank k)) last (p.exist (length front) (omega (arith, long)))

    pub last_left_out : get_or done op false ≡ false
    last_left_out = subst (λ (k : ℕ). get_or done k false ≡ false) last (p.left_out (length front) (omega (arith, long)))

    -- the path is extended by an operation that its last one needs
    pub path_longer : IsAccepted plans → (next : ℕ) → IsMissing plans done (op_id rank op) next → IsPath done (path ++ next ∷ [])
    path_longer accepted next m = record {
      exist = λ i l. elim (cases_lt i (length path)) [
        | inl before ↦ rw (left i before) (p.exist i before)
        | inr after ↦ rw (at_end i l after) (subst (λ (k : ℕ). IsOp plans (op_id rank k)) m.same there)
      ];
      deep = λ i l. elim (cases_lt i (length path)) [
        | inl before ↦ rw (left i before) (p.deep i before)
        | inr after ↦ rw (at_end i l after) (
            let e : length (ops_at plans rank) - i ≡ length (ops_at plans rank) - length front - 1 = omega (arith, after, l, long, length-append path (next ∷ [])) in
            rw e (subst (λ (k : ℕ). is_below plans (length (ops_at plans rank) - length front - 1) (op_id rank k) ≡ true) m.same lower))
      ];
      needed = λ i l. elim (cases_lt (i + 1) (length path)) [
        | inl before ↦ rw (left i (omega (arith, before)), left (i + 1) before) (p.needed i before)
        | inr after ↦
            let here : i ≡ length front = omega (arith, after, l, long, length-append path (next ∷ [])) in
            rw (left i (omega (arith, here, long)), at_end (i + 1) l after, here, last) (m.need, m.needed, m.same)
      ];
      left_out = λ i l. elim (cases_lt i (length path)) [
        | inl before ↦ rw (left i before) (p.left_out i before)
        | inr after ↦ rw (at_end i l after) m.missing
      ];
    }
      where
        left : (i : ℕ) → i < length path → get_or (path ++ next ∷ []) i 0 ≡ get_or path i 0
        left i before = get_or_append_left path (next ∷ []) 0 i before

        at_end : (i : ℕ) → i < length (path ++ next ∷ []) → length path ≤ i → get_or (path ++ next ∷ []) i 0 ≡ next
        at_end i l after = get_or_push path next 0 i (omega (arith, l, after, length-append path (next ∷ [])))

        there : IsOp plans (op_id rank m.need.op)
        there = All-contains (λ (d : Need). IsOp plans (needed (op_id rank op) d)) (needs plans (op_id rank op)) m.need (needs-exist plans (op_id rank op) accepted.plain last_exists) m.needed

        own : is_below plans (length (ops_at plans rank) - length front) (op_id rank op) ≡ true
        own = subst (λ (k : ℕ). is_below plans (length (ops_at plans rank) - length front) (op_id rank k) ≡ true) last (p.deep (length front) (omega (arith, long)))

        lower : is_below plans (length (ops_at plans rank) - length front - 1) (op_id rank m.need.op) ≡ true
        lower = All-contains (λ (d : Need). is_below plans (length (ops_at plans rank) - length front - 1) (needed (op_id rank op) d) ≡ true) (needs plans (op_id rank op)) m.need (needed_depth plans _ (op_id rank op) own) m.needed

    -- its last one is done: no other one of the path is the same, since what it needs is not done
    pub path_shorter : HasNeedsDone plans done (op_id rank op) → IsPath (set done op true) front
    path_shorter all = record {
      exist = λ i l. subst (λ (k : ℕ). IsOp plans (op_id rank k)) (left i l) (p.exist i (omega (arith, long, l)));
      deep = λ i l. subst (λ (k : ℕ). is_below plans (length (ops_at plans rank) - i) (op_id rank k) ≡ true) (left i l) (p.deep i (omega (arith, long, l)));
      needed = λ i l.
          let n = p.needed i (omega (arith, long, l)) in
          (n.0, subst (λ (k : ℕ). Contains (needs plans (op_id rank k)) n.0) (left i (omega (arith, l))) n.1, n.2 ∙ left (i + 1) l);
      left_out = λ i l. get_or-set_other done op (get_or front i 0) true false (apart i l) ∙ subst (λ (k : ℕ). get_or done k false ≡ false) (left i l) (p.left_out i (omega (arith, long, l)));
    }
      where
        left : (i : ℕ) → i < length front → get_or path i 0 ≡ get_or front i 0
        left i l = get_or_append_left front (op ∷ []) 0 i l

        apart : (i : ℕ) → i < length front → get_or front i 0 ≢ op
        apart i l same =
            let n = p.needed i (omega (arith, long, l)) in
            let here : Contains (needs plans (op_id rank op)) n.0 = subst (λ (k : ℕ). Contains (needs plans (op_id rank k)) n.0) (left i l ∙ same) n.1 in
            let is_done : get_or done n.0.op false ≡ true = All-contains (λ (d : Need). get_or done d.op false ≡ true) (needs plans (op_id rank op)) n.0 all here in
            let is_open : get_or done n.0.op false ≡ false = subst (λ (k : ℕ). get_or done k false ≡ false) (sym n.2) (p.left_out (i + 1) (omega (arith, long, l))) in
            true≢false (sym is_done ∙ is_open)

-- the row of x is done too
pub rows_marked : (plans : List Plan) (x : OpId) (rows : List ℕ) (done : List Bool) → AreRows plans x.rank rows (λ k. get_or done k false ≡ true) → ((k : ℕ) → k < certified_op_limit → EndsBefore plans (op_id x.rank k) x → has rows x.op k ≡ true) → AreRows plans x.rank rows (λ k. get_or (set done x.op true) k false ≡ true)
rows_marked plans x rows done r row = record {
  low = r.low;
  sound = r.sound;
  complete = λ op k few h b.
      elim (cases_eq op x.op) [
        | inl same ↦ rw same (row k few (subst (λ (n : ℕ). EndsBefore plans (op_id x.rank k) (op_id x.rank n)) same b))
        | inr apart ↦ r.complete op k few (sym (get_or-set_other done x.op op true false apart) ∙ h) b
      ];
}
