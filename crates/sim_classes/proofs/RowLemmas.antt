-- The rows of a table of pairs of nodes, and the result of a search in one.
use Rattle.std.proofs.Common.{ℕ, ◌<◌, ◌≤◌, ◌+◌, ◌-◌, ◌≡◌, nat_lt, true, false, inl, inr, [], ◌∷◌, ◌++◌, List, length, get_or, take, drop, slice_get, Option, Some, None, Result, Ok, Err, arith, refl, sym, ap, ap₂, ◌∙◌, subst, eq-eqb}
use Rattle.std.specs.BTreeMap.{is_at}
use Rattle.std.specs.Map.{keys_of, lookup}
use Rattle.std.specs.List.Sorted.{IsStrictlySortedBy, IsSortedBy, IsBinarySearchResult, IsSearchInRange, IsPartitionPoint, IsNonDecreasingBy}
use Rattle.std.specs.Result.{MatchResult}
use Rattle.std.specs.Ordering.{is_eq, is_lt, nat_cmp, ordering_reverse}
use Rattle.std.proofs.lemmas.Bool.{both_ways, cases_lt, eqb-true, lt-ltb, ltb-true, ltb-false}
use Rattle.std.proofs.lemmas.Option.{slice_get-get_or, get_or_from_slice_get, slice_get_within}
use Rattle.std.proofs.lemmas.List.{length-append, get_or_append_left, get_or_push, get_or-take, get_or-drop, get_or-map, length-map, length-drop, length-take-le}
use Rattle.std.proofs.lemmas.Cmp.{nat_cmp_total, eq_by_cmp_equiv}
use Rattle.std.proofs.lemmas.List.Sorted.{searchable_from_sorted}
use Rattle.std.proofs.lemmas.Map.Entries.{lookup_from_place, place_from_lookup}
use Rattle.std.proofs.lemmas.Map.Keys.{Less-from_sorted, IsDistinct-from_sorted, non_decreasing_from_sorted}
use Rattle.goal_graph.proofs.ForCallers.{nat_cmp_is_eq}
use Rattle.sim_classes.specs.Parts.{pair_key, pair_class_by}
use Rattle.sim_classes.specs.Rows.{node_of, IsStart, AreStarts, IsRow}

-- the class that entries give for a node in range is the value at the key
pair_class_at : (es : List (ℕ × ℕ)) (a b : ℕ) → b < 4294967296 → pair_class_by es a b ≡ lookup (is_at (nat_cmp (pair_key a b))) es
pair_class_at es a b low = rw (lt-ltb b 4294967296 low) refl

-- the key of a pair belongs to its first node
node_of_key : (a b : ℕ) → b < 4294967296 → node_of (pair_key a b) ≡ a
node_of_key a b low = omega (arith, low)

same_number : (m n : ℕ) → is_eq (nat_cmp m n) ≡ true → m ≡ n
same_number m n e = eqb-true m n (sym (nat_cmp_is_eq m n) ∙ e)

module _ (es : List (ℕ × ℕ)) (sorted : IsStrictlySortedBy nat_cmp (keys_of es)) where
  key_at : (k : ℕ) (e : ℕ × ℕ) → k < length es → get_or (keys_of es) k 0 ≡ (get_or es k e).0
  key_at k e b = get_or-map (λ (x : ℕ × ℕ). x.0) es k e 0 b

  keys_length : length (keys_of es) ≡ length es
  keys_length = length-map es (λ (x : ℕ × ℕ). x.0)

  -- an entry is the value at its key
  pub entry_is_found : (key i : ℕ) (e : ℕ × ℕ) → slice_get es i ≡ Some e → e.0 ≡ key → lookup (is_at (nat_cmp key)) es ≡ Some e.1
  entry_is_found key i e at same = subst (λ (k : ℕ). lookup (is_at (nat_cmp k)) es ≡ Some e.1) same (lookup_from_place (eq_by_cmp_equiv nat_cmp_total) es i e.0 e.1 (IsDistinct-from_sorted nat_cmp (keys_of es) sorted) at)

  -- nodes are in ascending order
  pub nodes_rise : (n : ℕ) → IsNonDecreasingBy (λ (e : ℕ × ℕ). node_of e.0) es
  nodes_rise n i j d l b =
      let rise = non_decreasing_from_sorted (keys_of es) sorted i j 0 l (omega (arith, b, keys_length)) in
      omega (arith, rise, key_at i d (omega arith), key_at j d b)

  module _ (key start end : ℕ) (row : IsRow es (node_of key) start end) where
    abbrev part : List (ℕ × ℕ)
    part = take (end - start) (drop start es)

    part_length : length part ≡ end - start
    part_length =
        let rest = length-drop start es in
        length-take-le (end - start) (drop start es) (omega (arith, rest, row.order, row.within))

    part_at : (i : ℕ) (d : ℕ × ℕ) → i < length part → get_or part i d ≡ get_or es (start + i) d
    part_at i d b = get_or-take (end - start) (drop start es) i d (omega (arith, b, part_length)) ∙ get_or-drop start es i d

    part_rises : IsSortedBy (λ (x y : ℕ × ℕ). is_lt (nat_cmp x.0 y.0)) part
    part_rises k d l b =
        let inside : start + (k + 1) < length es = omega (arith, b, part_length, row.order, row.within) in
        let next = ap (λ (e : ℕ × ℕ). e.0) (part_at (k + 1) d b) ∙ sym (key_at (start + (k + 1)) d inside) in
        let here = ap (λ (e : ℕ × ℕ). e.0) (part_at k d (omega (arith, b))) ∙ sym (key_at (start + k) d (omega (arith, inside))) in
        let less = Less-from_sorted nat_cmp (keys_of es) (start + k) (start + (k + 1)) 0 sorted (omega arith) (omega (arith, inside, keys_length)) in
        ap₂ (λ (x y : ℕ). is_lt (nat_cmp x y)) next here ∙ ap is_lt (nat_cmp_total.antisymm (get_or (keys_of es) (start + (k + 1)) 0) (get_or (keys_of es) (start + k) 0) ∙ ap ordering_reverse less)

    -- what a binary search found in the row is the value at the key
    found : (r : Result ℕ ℕ) → IsSearchInRange r (length part) → IsBinarySearchResult (λ (e : ℕ × ℕ). nat_cmp e.0 key) part r
        → MatchResult r (λ i. lookup (is_at (nat_cmp key)) es ≡ Some (get_or part i (0, 0)).1) (λ i. lookup (is_at (nat_cmp key)) es ≡ None)
    found (Ok i) inside equal =
        let here = part_at i (0, 0) inside in
        let same = same_number (get_or part i (0, 0)).0 key (ap is_eq (equal (0, 0))) in
        let within : start + i < length es = omega (arith, inside, part_length, row.order, row.within) in
        entry_is_found key (start + i) (get_or part i (0, 0)) (slice_get-get_or es (start + i) (0, 0) within ∙ ap (λ (e : ℕ × ℕ). Some e) (sym here)) same
    found (Err i) inside split = go (lookup (is_at (nat_cmp key)) es) refl
      where
        nowhere : (k : ℕ) (e : ℕ × ℕ) → slice_get es k ≡ Some e → e.0 ≡ key → ⊥
        nowhere k e at same =
            let parts = split (searchable_from_sorted nat_cmp_total (λ (x : ℕ × ℕ). x.0) part key part_rises) in
            let there = row.between k e at (ap node_of same) in
            let place : start + (k - start) ≡ k = omega (arith, there.0) in
            let within : k - start < length part = omega (arith, there.0, there.1, part_length) in
            let is : get_or part (k - start) e ≡ e = part_at (k - start) e within ∙ ap (λ (n : ℕ). get_or es n e) place ∙ get_or_from_slice_get es k e e at in
            let equal : is_eq (nat_cmp (get_or part (k - start) e).0 key) ≡ true = nat_cmp_is_eq (get_or part (k - start) e).0 key ∙ eq-eqb (get_or part (k - start) e).0 key (ap (λ (x : ℕ × ℕ). x.0) is ∙ same) in
            elim (cases_lt (k - start) i) [
              | inl less ↦ both_ways _ (ap is_eq (parts.0 (k - start) e (omega arith) less)) equal
              | inr no_less ↦ both_ways _ (ap is_eq (parts.1 (k - start) e no_less within)) equal
            ]

        go : (o : Option ℕ) → lookup (is_at (nat_cmp key)) es ≡ o → lookup (is_at (nat_cmp key)) es ≡ None
        go None e = e
        go (Some class) e =
            let at = place_from_lookup (is_at (nat_cmp key)) es class e in
            absurd (nowhere at.0 (at.1, class) at.2 (sym (same_number key at.1 at.3)))

-- a binary search in the row of a node gives the class of the pair of this node and another
pub pair_class_in_row : (es : List (ℕ × ℕ)) → IsStrictlySortedBy nat_cmp (keys_of es) → (a b : ℕ) → b < 4294967296 → (start end : ℕ) → IsRow es a start end
    → (r : Result ℕ ℕ) → IsSearchInRange r (length (take (end - start) (drop start es))) → IsBinarySearchResult (λ (e : ℕ × ℕ). nat_cmp e.0 (pair_key a b)) (take (end - start) (drop start es)) r
    → MatchResult r (λ i. pair_class_by es a b ≡ Some (get_or (take (end - start) (drop start es)) i (0, 0)).1) (λ i. pair_class_by es a b ≡ None)
pair_class_in_row es sorted a b low start end row r inside is =
    subst (λ (o : Option ℕ). MatchResult r (λ i. o ≡ Some (get_or (take (end - start) (drop start es)) i (0, 0)).1) (λ i. o ≡ None)) (sym (pair_class_at es a b low))
    (found es sorted (pair_key a b) start end (subst (λ (n : ℕ). IsRow es n start end) (sym (node_of_key a b low)) row) r inside is)

-- the entries from a node start at the partition point of the entries with lesser nodes
pub start_at : (es : List (ℕ × ℕ)) (node start : ℕ) → start ≤ length es → IsPartitionPoint (λ (e : ℕ × ℕ). nat_lt (node_of e.0) node ≡ true) (λ (e : ℕ × ℕ). nat_lt (node_of e.0) node ≡ false) es start → IsStart es node start
start_at es node start within point = record {
  within = within;
  lower = λ k e at l. ltb-true (node_of e.0) node (subst (λ (x : ℕ × ℕ). nat_lt (node_of x.0) node ≡ true) (get_or_from_slice_get es k e e at) (point.0 k e (omega arith) l));
  rest = λ k e at l. ltb-false (node_of e.0) node (subst (λ (x : ℕ × ℕ). nat_lt (node_of x.0) node ≡ false) (get_or_from_slice_get es k e e at) (point.1 k e l (slice_get_within es k e at)));
}

-- the row between two starts
pub row_between : (es : List (ℕ × ℕ)) (node start end : ℕ) → IsStart es node start → IsStart es (node + 1) end → IsRow es node start end
row_between es node start end s e = record {
  order = elim (cases_lt end start) [
    | inr h ↦ h
    | inl l ↦
        let at = slice_get-get_or es end (0, 0) (omega (arith, l, s.within)) in
        let low = s.lower end _ at l in
        let high = e.rest end _ at (omega arith) in
        absurd (omega (arith, low, high))
  ];
  within = e.within;
  between = λ k x at same. (
    elim (cases_lt k start) [
      | inl l ↦ let low = s.lower k x at l in absurd (omega (arith, low, same))
      | inr h ↦ h
    ],
    elim (cases_lt k end) [
      | inl l ↦ l
      | inr h ↦ let high = e.rest k x at h in absurd (omega (arith, high, same))
    ],
  );
}

-- the row of all entries
pub row_of_all : (es : List (ℕ × ℕ)) (node end : ℕ) → end ≡ length es → IsRow es node 0 end
row_of_all es node end all = record {
  order = omega arith;
  within = omega (arith, all);
  between = λ k e at same. (omega arith, omega (arith, all, slice_get_within es k e at));
}

-- another start
pub row_starts_with_next_start : (es : List (ℕ × ℕ)) (starts : List ℕ) (start : ℕ) → AreStarts es starts → IsStart es (length starts) start → AreStarts es (starts ++ start ∷ [])
row_starts_with_next_start es starts start before new node s e =
    elim (cases_lt node (length starts)) [
      | inl l ↦ before node s (slice_get-get_or starts node s l ∙ ap (λ (n : ℕ). Some n) (sym (get_or_append_left starts (start ∷ []) s node l) ∙ get_or_from_slice_get (starts ++ start ∷ []) node s s e))
      | inr h ↦
          let inside = slice_get_within (starts ++ start ∷ []) node s e in
          let long = length-append starts (start ∷ []) in
          let same : length starts ≡ node = omega (arith, h, inside, long) in
          let is : start ≡ s = sym (get_or_push starts start s node same) ∙ get_or_from_slice_get (starts ++ start ∷ []) node s s e in
          subst (λ (n : ℕ). IsStart es node n) is (subst (λ (r : ℕ). IsStart es r start) same new)
    ]
