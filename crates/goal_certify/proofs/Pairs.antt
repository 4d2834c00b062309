-- Where the ends stand in pairs, no operation is looked for: there are no faults of channels but lengths that differ, and
-- those show pair by pair.
use Rattle.std.proofs.Common.{⊎_elim, ℕ, ◌+◌, ◌*◌, ◌/◌, ◌%◌, ◌<◌, ◌≡◌, ◌⊎◌, inl, inr, false, List, length, get_or, Contains, Option, Some, None, refl, sym, ap, ◌∙◌, subst, arith}
use Rattle.std.specs.Ordering.{is_lt}
use Rattle.std.specs.List.Sorted.{IsSorted}
use Rattle.std.proofs.lemmas.Bool.{both_ways, cases_eq, cases_lt}
use Rattle.std.proofs.lemmas.List.{get_or_default}
use Rattle.std.proofs.lemmas.List.Elements.{All-contains, Contains-get_or}
use Rattle.std.proofs.lemmas.List.Sorted.{sorted_far, ranks_by}
use Rattle.goal_graph.specs.declared.action.OpId.{OpId}
use Rattle.goal_graph.specs.Schedule.{Plan}
use Rattle.goal_graph.specs.Order.{IsBefore}
use Rattle.goal_graph.specs.Fault.{IsOp}
use Rattle.goal_blocks.specs.Channels.{HasNoWildcard}
use Rattle.goal_blocks.specs.Slots.{slots}
use Rattle.goal_blocks.specs.Faults.{AreDouble, IsUnpaired, HaveOtherLengths}
use Rattle.goal_certify.specs.declared.ends.End.{End}
use Rattle.goal_certify.specs.declared.ends.OpAtEnd.{OpAtEnd}
use Rattle.goal_certify.specs.Ends.{end_of, end_cmp, entry_cmp, other_end, DoRise, DoAlternate, ArePaired, AreEndsOf}
use Rattle.goal_certify.specs.Stages.{IsFree}
use Rattle.goal_certify.proofs.EndLemmas.{AreAtEnds, end_exists, double_ends, at_ends_if_of_one_channel, paired_ends, no_end_paired, other_twice}
use Rattle.goal_certify.proofs.EndSearch.{end_total, sorted_ends}
use Rattle.goal_certify.proofs.InOrder.{not_before_itself}
use Rattle.goal_certify.proofs.StageLemmas.{free_double, free_unpaired, free_lengths, free_joined}

-- an entry of an end
abbrev entry : End → OpId → OpAtEnd
entry e x = record { end = e; op = x }

module _ (entries : List OpAtEnd) (sorted : IsSorted entry_cmp entries) (rise : DoRise entries) where
  ends_are_apart : (i j : ℕ) (d : OpAtEnd) → i < j → j < length entries → (get_or entries i d).end ≡ (get_or entries j d).end → ⊥
  ends_are_apart i j d l inside same =
      let far = sorted_far (λ (a b : OpAtEnd). is_lt (end_cmp a.end b.end)) (ranks_by end_total (λ (a : OpAtEnd). a.end)) entries (sorted_ends entries sorted) (i + 1) j d (omega (arith, l)) inside in
      both_ways (is_lt (end_cmp (get_or entries i d).end (get_or entries (i + 1) d).end)) (subst (λ (e : End). is_lt (end_cmp e (get_or entries (i + 1) d).end) ≡ false) (sym same) far) (rise i d (omega (arith, l, inside)))

  -- at each end there is one operation
  op_at_end_is_unique : (e : End) (x y : OpId) → Contains entries (entry e x) → Contains entries (entry e y) → x ≡ y
  op_at_end_is_unique e x y (i, i_in, at_i) (j, j_in, at_j) =
      ⊎_elim (λ same. ap (λ (a : OpAtEnd). a.op) (sym at_i ∙ ap (λ (k : ℕ). get_or entries k (entry e x)) same ∙ there)) (λ differ. ⊎_elim (λ l. absurd (ends_are_apart i j (entry e x) l j_in alike)) (λ g. absurd (ends_are_apart j i (entry e x) (omega (arith, g, differ)) i_in (sym alike))) (cases_lt i j)) (cases_eq i j)
    where
      there : get_or entries j (entry e x) ≡ entry e y
      there = get_or_default entries j (entry e x) (entry e y) j_in ∙ at_j

      alike : (get_or entries i (entry e x)).end ≡ (get_or entries j (entry e x)).end
      alike = ap (λ (a : OpAtEnd). a.end) at_i ∙ sym (ap (λ (a : OpAtEnd). a.end) there)

  pub alternating_are_paired : (pairs : ℕ) → length entries ≡ 2 * pairs → DoAlternate entries pairs → ArePaired entries pairs
  alternating_are_paired pairs all are = record { all = all; alternate = are; single = op_at_end_is_unique }

-- the two operations of each of the first pairs have the same number of slots
abbrev pub AreAlike : List Plan → List OpAtEnd → ℕ → Type 0
AreAlike plans entries n = (k : ℕ) (d : OpAtEnd) → k < n → length (slots plans (get_or entries (2 * k) d).op) ≡ length (slots plans (get_or entries (2 * k + 1) d).op)

module _ (plans : List Plan) (entries : List OpAtEnd) where
  pub alike_with_next_pair : (n : ℕ) (x y : OpId) → AreAlike plans entries n → ((d : OpAtEnd) → x ≡ (get_or entries (2 * n) d).op) → ((d : OpAtEnd) → y ≡ (get_or entries (2 * n + 1) d).op) → length (slots plans x) ≡ length (slots plans y) → AreAlike plans entries (n + 1)
  alike_with_next_pair n x y so_far at_x at_y same k d l =
      ⊎_elim (λ less. so_far k d less) (λ g. let e : k ≡ n = omega (arith, l, g) in ap (λ (i : ℕ). length (slots plans (get_or entries (2 * i) d).op)) e ∙ ap (λ (z : OpId). length (slots plans z)) (sym (at_x d)) ∙ same ∙ ap (λ (z : OpId). length (slots plans z)) (at_y d) ∙ ap (λ (i : ℕ). length (slots plans (get_or entries (2 * i + 1) d).op)) (sym e)) (cases_lt k n)

  -- an operation at an end exists
  pub end_has_op : AreEndsOf plans entries → (x : OpId) (j : ℕ) (d : OpAtEnd) → x ≡ (get_or entries j d).op → j < length entries → IsOp plans x
  end_has_op are x j d at l =
      let a = get_or entries j d in
      subst (IsOp plans) (sym at) (end_exists plans a.op a.end (All-contains (λ (b : OpAtEnd). end_of plans b.op ≡ Some b.end) entries a are.right (Contains-get_or entries j d l)))

-- a place is even or odd
even_or_odd : (i : ℕ) → (i ≡ 2 * (i / 2)) ⊎ (i ≡ 2 * (i / 2) + 1)
even_or_odd i = ⊎_elim (λ e. inl (omega (arith, e))) (λ d. inr (omega (arith, d))) (cases_eq (i % 2) 0)

module _ (plans : List Plan) (entries : List OpAtEnd) (are : AreEndsOf plans entries) (pairs : ℕ) (p : ArePaired entries pairs) where
  no_double : (y x : OpId) → AreDouble plans y x → ⊥
  no_double y x d =
      let s = double_ends plans y x d in
      let same : x ≡ y = p.single s.shared x y (are.listed x s.shared s.second_at) (are.listed y s.shared s.first_at) in
      not_before_itself y (subst (λ (z : OpId). IsBefore y z) same d.in_order)

  -- the other end of its channel has an operation, too
  other_end_exists : (e : End) (x : OpId) → Contains entries (entry e x) → (z : OpId) × (end_of plans z ≡ Some (other_end e))
  other_end_exists e x (i, inside, at) = ⊎_elim before after (even_or_odd i)
    where
      k : ℕ
      k = i / 2

      d : OpAtEnd
      d = entry e x

      few : k < pairs
      few = omega (arith, inside, p.all)

      stands : (j : ℕ) → j < length entries → end_of plans (get_or entries j d).op ≡ Some (get_or entries j d).end
      stands j l = All-contains (λ (a : OpAtEnd). end_of plans a.op ≡ Some a.end) entries (get_or entries j d) are.right (Contains-get_or entries j d l)

      before : i ≡ 2 * k → (z : OpId) × (end_of plans z ≡ Some (other_end e))
      before s =
          let here : (get_or entries (2 * k) d).end ≡ e = ap (λ (j : ℕ). (get_or entries j d).end) (sym s) ∙ ap (λ (a : OpAtEnd). a.end) at in
          ((get_or entries (2 * k + 1) d).op, stands (2 * k + 1) (omega (arith, few, p.all)) ∙ ap Some (p.alternate.same k d few ∙ ap other_end here))

      after : i ≡ 2 * k + 1 → (z : OpId) × (end_of plans z ≡ Some (other_end e))
      after s =
          let here : (get_or entries (2 * k + 1) d).end ≡ e = ap (λ (j : ℕ). (get_or entries j d).end) (sym s) ∙ ap (λ (a : OpAtEnd). a.end) at in
          ((get_or entries (2 * k) d).op, stands (2 * k) (omega (arith, few, p.all)) ∙ ap Some (sym (other_twice (get_or entries (2 * k) d).end) ∙ ap other_end (sym (p.alternate.same k d few) ∙ here)))

  no_unpaired : HasNoWildcard plans → (x : OpId) → IsUnpaired plans x → ⊥
  no_unpaired known x un = go (end_of plans x) refl
    where
      go : (r : Option End) → end_of plans x ≡ r → ⊥
      go None at = no_end_paired plans entries are known x at un
      go (Some e) at =
          let z = other_end_exists e x (are.listed x e at) in
          paired_ends plans x z.0 e at z.1 un

  no_other_lengths : AreAlike plans entries pairs → (m x : OpId) → HaveOtherLengths plans m x → ⊥
  no_other_lengths alike m x h = go (are.listed m a.end a.send_at)
    where
      a : AreAtEnds plans m x
      a = at_ends_if_of_one_channel plans m x h.one

      go : Contains entries (entry a.end m) → ⊥
      go (i, inside, at) = ⊎_elim even odd (even_or_odd i)
        where
          k : ℕ
          k = i / 2

          d : OpAtEnd
          d = entry a.end m

          few : k < pairs
          few = omega (arith, inside, p.all)

          even : i ≡ 2 * k → ⊥
          even s =
              both_ways a.end.is_send (ap (λ (b : OpAtEnd). b.end.is_send) (sym at ∙ ap (λ (j : ℕ). get_or entries j d) s) ∙ p.alternate.receives k d few) a.is_send

          odd : i ≡ 2 * k + 1 → ⊥
          odd s =
              let here : get_or entries (2 * k + 1) d ≡ entry a.end m = ap (λ (j : ℕ). get_or entries j d) (sym s) ∙ at in
              let b = get_or entries (2 * k) d in
              let there : b.end ≡ other_end a.end = sym (other_twice b.end) ∙ ap other_end (sym (p.alternate.same k d few) ∙ ap (λ (c : OpAtEnd). c.end) here) in
              let listed : Contains entries (entry (other_end a.end) b.op) = subst (λ (e : End). Contains entries (entry e b.op)) there (Contains-get_or entries (2 * k) d (omega (arith, few, p.all))) in
              let same : b.op ≡ x = p.single (other_end a.end) b.op x listed (are.listed x (other_end a.end) a.receive_at) in
              h.differ (sym (ap (λ (c : OpAtEnd). length (slots plans c.op)) here) ∙ sym (alike k d few) ∙ ap (λ (y : OpId). length (slots plans y)) same)

  pub paired_free : HasNoWildcard plans → AreAlike plans entries pairs → IsFree plans 2 5
  paired_free known alike =
      free_joined plans 2 3 5 (free_double plans no_double) (free_joined plans 3 4 5 (free_unpaired plans (no_unpaired known)) (free_lengths plans (no_other_lengths alike)))
