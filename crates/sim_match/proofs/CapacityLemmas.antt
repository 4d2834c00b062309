-- The capacity of each list, after one more operation, and after one more list of a send.
use Rattle.std.proofs.Common.{ℕ, zero, suc, ◌+◌, ◌<◌, ◌^◌, ◌≡◌, ◌||◌, Bool, true, false, cond, if◌then◌else◌, inl, inr, List, [], ◌∷◌, length, Option, Some, None, take, get_or, slice_get, slice_set, count_by, refl, arith, sym, ap, ◌∙◌, subst, eq-eqb}
use Rattle.std.specs.List.{list_any}
use Rattle.std.proofs.Math.Bool.{or-false}
use Rattle.std.proofs.lemmas.Bool.{cases_eq, ne_eqb}
use Rattle.std.proofs.lemmas.Option.{slice_get_read}
use Rattle.std.proofs.lemmas.List.{length-set, length-take}
use Rattle.std.proofs.lemmas.List.Sums.{sum_by_more, count_by-le-length}
use Rattle.std.proofs.lemmas.List.Folds.{list_any_more}
use Rattle.goal_graph.specs.declared.action.OpId.{OpId}
use Rattle.goal_graph.specs.declared.plan.Op.{Op}
use Rattle.goal_graph.specs.declared.plan.Kind.{Kind}
use Rattle.goal_graph.specs.declared.plan.Kind.TheVariants.{Calc, Send, Recv}
use Rattle.goal_graph.specs.Schedule.{Plan, op_at, kind_at}
use Rattle.sim_match.specs.declared.pattern.Pattern.{Pattern}
use Rattle.sim_match.specs.declared.capacities.Capacity.{Capacity}
use Rattle.sim_match.specs.Patterns.{same_number, pattern_of, list_number, numbers_for, list_of, lists_for, in_list, for_list}
use Rattle.sim_match.specs.Capacities.{AreOnce, AreWithin, IsCounted, AreCounted, IsCapacity, AreCapacities}
use Rattle.sim_match.proofs.Written.{slice_get_written, slice_get_elsewhere}
use Rattle.goal_graph.proofs.ForCallers.{kind_of_found_op}

abbrev one_if : Bool → ℕ
one_if b = cond b 1 0

plus_one_if_false : (n : ℕ) → n ≡ n + cond false 1 0
plus_one_if_false n = omega arith

-- a send is counted in the first k of its lists
pub counted_for_no_numbers : (capacities : List Capacity) → AreCounted [] capacities capacities
counted_for_no_numbers capacities = record {
  one_each = refl;
  each = λ l capacity e. record { before = capacity; was = e; receives = refl; sends = plus_one_if_false capacity.sends };
}

module _ (numbers : List (Option ℕ)) (old now : List Capacity) (k : ℕ) (d : Option ℕ) (inside : k < length numbers) (c : AreCounted (take k numbers) old now) where
  list_any_next_number : (test : Option ℕ → Bool) → list_any test (take (k + 1) numbers) ≡ (list_any test (take k numbers) || test (get_or numbers k d))
  list_any_next_number test = list_any_more test numbers k d inside

  unlisted_stays_counted : (l : ℕ) (capacity : Capacity) → same_number (Some l) (get_or numbers k d) ≡ false → IsCounted (take k numbers) old l capacity → IsCounted (take (k + 1) numbers) old l capacity
  unlisted_stays_counted l capacity other is = record {
    before = is.before;
    was = is.was;
    receives = is.receives;
    sends = is.sends ∙ ap (λ (b : Bool). is.before.sends + (if b then 1 else 0)) (sym (list_any_next_number (same_number (Some l)) ∙ ap (λ (b : Bool). list_any (same_number (Some l)) (take k numbers) || b) other ∙ or-false (list_any (same_number (Some l)) (take k numbers))));
  }

  -- number k is `None`: it counts the send in no list
  pub counted_unchanged_by_no_number : get_or numbers k d ≡ None → AreCounted (take (k + 1) numbers) old now
  counted_unchanged_by_no_number absent = record {
    one_each = c.one_each;
    each = λ l capacity e. unlisted_stays_counted l capacity (ap (same_number (Some l)) absent) (c.each l capacity e);
  }

  -- a list
  module _ (i : ℕ) (is : get_or numbers k d ≡ Some i) (once : AreOnce numbers) (within : AreWithin numbers (length old)) where
    number_at_k : slice_get numbers k ≡ Some (Some i)
    number_at_k = slice_get_read numbers (length numbers) k (Some i) refl inside (sym (get_or_from numbers k d (Some i) inside is))
      where
        get_or_from : (xs : List (Option ℕ)) (k : ℕ) (d o : Option ℕ) → k < length xs → get_or xs k d ≡ o → get_or xs k o ≡ o
        get_or_from [] k d o b e = absurd (omega arith)
        get_or_from (z ∷ zs) zero d o b e = e
        get_or_from (z ∷ zs) (suc k) d o b e = get_or_from zs k d o (omega arith) e

    pub count_within : i < length now
    count_within = let low = within k i number_at_k in omega (arith, low, c.one_each)

    module _ (capacity : Capacity) (read : capacity ≡ get_or now i capacity) where
      is_counted_before : IsCounted (take k numbers) old i capacity
      is_counted_before = c.each i capacity (slice_get_read now (length now) i capacity refl count_within read)

      not_counted_before : one_if (list_any (same_number (Some i)) (take k numbers)) ≡ 0
      not_counted_before = ap one_if (once k i number_at_k)

      pub count_fits : ((l : ℕ) (r : Capacity) → slice_get old l ≡ Some r → r.sends + 1 < 2 ^ 32) → capacity.sends + 1 < 2 ^ 32
      count_fits small =
          let fits = small i (is_counted_before).before (is_counted_before).was in
          omega (arith, (is_counted_before).sends, not_counted_before, fits)

      pub counted_with : AreCounted (take (k + 1) numbers) old (slice_set now i (record capacity { sends = capacity.sends + 1 }))
      counted_with = record {
        one_each = length-set now i (record capacity { sends = capacity.sends + 1 }) ∙ c.one_each;
        each = λ l u e. elim (cases_eq l i) [
          | inl same ↦ subst (λ (n : ℕ). IsCounted (take (k + 1) numbers) old n u) (sym same) (subst (IsCounted (take (k + 1) numbers) old i) (slice_get_written now i (record capacity { sends = capacity.sends + 1 }) u (subst (λ (n : ℕ). slice_get (slice_set now i (record capacity { sends = capacity.sends + 1 })) n ≡ Some u) same e)) here)
          | inr n ↦ unlisted_stays_counted l u (ap (same_number (Some l)) is ∙ ne_eqb l i n) (c.each l u (sym (slice_get_elsewhere now i l (record capacity { sends = capacity.sends + 1 }) n) ∙ e))
        ];
      }
        where
          one : one_if (list_any (same_number (Some i)) (take (k + 1) numbers)) ≡ 1
          one = ap one_if (list_any_next_number (same_number (Some i)) ∙ ap (λ (b : Bool). b || same_number (Some i) (get_or numbers k d)) (once k i number_at_k) ∙ ap (same_number (Some i)) is ∙ eq-eqb i i refl)

          here : IsCounted (take (k + 1) numbers) old i (record capacity { sends = capacity.sends + 1 })
          here = record {
            before = (is_counted_before).before;
            was = (is_counted_before).was;
            receives = (is_counted_before).receives;
            sends = omega (arith, (is_counted_before).sends, not_counted_before, one);
          }

-- the capacities after `it`, the operation o that is read at a place
module _ (plans : List Plan) (keys : List Pattern) (ops : List OpId) (i : ℕ) (d : OpId) (inside : i < length ops) (capacities : List Capacity) (before : AreCapacities plans keys (take i ops) capacities) (o : Op) (is : op_at plans (get_or ops i d) ≡ Some o) where
  abbrev op_read : OpId
  op_read = get_or ops i d

  kind_of_read_op : (k : Kind) → o.kind ≡ k → kind_at plans op_read ≡ Some k
  kind_of_read_op k e = kind_of_found_op plans op_read o is ∙ ap (λ (k : Kind). Some k) e

  capacity_after_op : (list : ℕ) (old new : Capacity) → IsCapacity plans keys (take i ops) list old → (r s : Bool) → in_list plans keys list op_read ≡ r → for_list plans keys list op_read ≡ s → new.receives ≡ old.receives + cond r 1 0 → new.sends ≡ old.sends + cond s 1 0 → IsCapacity plans keys (take (i + 1) ops) list new
  capacity_after_op list old new was r s er es receives sends = record {
    receives = receives ∙ ap (λ (n : ℕ). n + cond r 1 0) was.receives ∙ sym (counts (in_list plans keys list) r er);
    sends = sends ∙ ap (λ (n : ℕ). n + cond s 1 0) was.sends ∙ sym (counts (for_list plans keys list) s es);
  }
    where
      counts : (test : OpId → Bool) (b : Bool) → test op_read ≡ b → count_by test (take (i + 1) ops) ≡ count_by test (take i ops) + cond b 1 0
      counts test b e =
          sum_by_more (λ (x : OpId). cond (test x) 1 0) ops i d inside ∙ ap (λ (b : Bool). count_by test (take i ops) + cond b 1 0) e

  count_with_next_fits : (test : OpId → Bool) → length ops < 2 ^ 32 → count_by test (take i ops) + 1 < 2 ^ 32
  count_with_next_fits test short =
      let less = count_by-le-length test (take i ops) in
      let part = length-take i ops in
      omega (arith, less, part)

  -- a receive, of a list
  module _ (bytes : ℕ) (from tag : Option ℕ) (e : o.kind ≡ Recv bytes from tag) (list : ℕ) (has : list_of plans keys (get_or ops i d) ≡ Some list) (within : list < length keys) where
    pub receive_within : list < length capacities
    receive_within = omega (arith, within, before.one_each)

    in_own_list : in_list plans keys list op_read ≡ true
    unfolding in_list
    in_own_list = ap (λ (o : Option ℕ). same_number o (Some list)) has ∙ eq-eqb list list refl

    in_no_other_list : (l : ℕ) → (l ≡ list → ⊥) → in_list plans keys l op_read ≡ false
    unfolding in_list
    in_no_other_list l n = ap (λ (o : Option ℕ). same_number o (Some l)) has ∙ ne_eqb list l (λ f. n (sym f))

    receive_for_no_list : (l : ℕ) → for_list plans keys l op_read ≡ false
    unfolding for_list
    receive_for_no_list l = ap (λ (k : Option Kind). list_any (same_number (Some l)) (numbers_for keys op_read k)) (kind_of_read_op (Recv bytes from tag) e)

    module _ (capacity : Capacity) (read : capacity ≡ get_or capacities list capacity) where
      capacity_before : IsCapacity plans keys (take i ops) list capacity
      capacity_before = before.each list capacity (slice_get_read capacities (length capacities) list capacity refl receive_within read)

      pub receives_fit : length ops < 2 ^ 32 → capacity.receives + 1 < 2 ^ 32
      receives_fit short =
          let fits = count_with_next_fits (in_list plans keys list) short in
          omega (arith, fits, (capacity_before).receives)

      pub capacities_after_receive : AreCapacities plans keys (take (i + 1) ops) (slice_set capacities list (record capacity { receives = capacity.receives + 1 }))
      capacities_after_receive = record {
        one_each = length-set capacities list (record capacity { receives = capacity.receives + 1 }) ∙ before.one_each;
        each = λ l u f. elim (cases_eq l list) [
          | inl same ↦ subst (λ (n : ℕ). IsCapacity plans keys (take (i + 1) ops) n u) (sym same) (subst (IsCapacity plans keys (take (i + 1) ops) list) (slice_get_written capacities list (record capacity { receives = capacity.receives + 1 }) u (subst (λ (n : ℕ). slice_get (slice_set capacities list (record capacity { receives = capacity.receives + 1 })) n ≡ Some u) same f)) (capacity_after_op list capacity (record capacity { receives = capacity.receives + 1 }) capacity_before true false in_own_list (receive_for_no_list list) refl (plus_one_if_false capacity.sends)))
          | inr n ↦ capacity_after_op l u u (before.each l u (sym (slice_get_elsewhere capacities list l (record capacity { receives = capacity.receives + 1 }) n) ∙ f)) false false (in_no_other_list l n) (receive_for_no_list l) (plus_one_if_false u.receives) (plus_one_if_false u.sends)
        ];
      }

  -- a send
  module _ (bytes to tag : ℕ) (e : o.kind ≡ Send bytes to tag) where
    send_in_no_list : (l : ℕ) → in_list plans keys l op_read ≡ false
    unfolding in_list
    send_in_no_list l = ap (λ (k : Option Kind). same_number (list_number keys (pattern_of op_read k)) (Some l)) (kind_of_read_op (Send bytes to tag) e)

    pub its_lists : lists_for plans keys (get_or ops i d) ≡ numbers_for keys (get_or ops i d) (Some (Send bytes to tag))
    its_lists = ap (numbers_for keys op_read) (kind_of_read_op (Send bytes to tag) e)

    send_for_list : (l : ℕ) → for_list plans keys l op_read ≡ list_any (same_number (Some l)) (numbers_for keys op_read (Some (Send bytes to tag)))
    unfolding for_list
    send_for_list l = ap (list_any (same_number (Some l))) its_lists

    pub sends_fit : length ops < 2 ^ 32 → (l : ℕ) (capacity : Capacity) → slice_get capacities l ≡ Some capacity → capacity.sends + 1 < 2 ^ 32
    sends_fit short l capacity at =
        let fits = count_with_next_fits (for_list plans keys l) short in
        omega (arith, fits, (before.each l capacity at).sends)

    pub capacities_after_send : (new : List Capacity) → AreCounted (numbers_for keys (get_or ops i d) (Some (Send bytes to tag))) capacities new → AreCapacities plans keys (take (i + 1) ops) new
    capacities_after_send new c = record {
      one_each = c.one_each ∙ before.one_each;
      each = λ l u f. let was = c.each l u f in capacity_after_op l was.before u (before.each l was.before was.was) false (list_any (same_number (Some l)) (numbers_for keys op_read (Some (Send bytes to tag)))) (send_in_no_list l) (send_for_list l) (was.receives ∙ plus_one_if_false was.before.receives) was.sends;
    }

  -- a calc
  module _ (nanos : ℕ) (e : o.kind ≡ Calc nanos) where
    calc_in_no_list : (l : ℕ) → in_list plans keys l op_read ≡ false
    unfolding in_list
    calc_in_no_list l = ap (λ (k : Option Kind). same_number (list_number keys (pattern_of op_read k)) (Some l)) (kind_of_read_op (Calc nanos) e)

    calc_for_no_list : (l : ℕ) → for_list plans keys l op_read ≡ false
    unfolding for_list
    calc_for_no_list l = ap (λ (k : Option Kind). list_any (same_number (Some l)) (numbers_for keys op_read k)) (kind_of_read_op (Calc nanos) e)

    pub capacities_after_calc : AreCapacities plans keys (take (i + 1) ops) capacities
    capacities_after_calc = record {
      one_each = before.one_each;
      each = λ l u f. capacity_after_op l u u (before.each l u f) false false (calc_in_no_list l) (calc_for_no_list l) (plus_one_if_false u.receives) (plus_one_if_false u.sends);
    }
