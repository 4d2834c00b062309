-- A schedule that does a collective everywhere also does it on other ranks, with the root moved along.
use Rattle.std.proofs.Common.{ℕ, zero, suc, ◌+◌, ◌-◌, ◌<◌, ◌≤◌, ◌==◌, ◌&&◌, ◌≡◌, ⊎_elim, Bool, true, false, nat_lt, nat_le, List, [], ◌∷◌, length, map, if◌then◌else◌, refl, sym, ap, ◌∙◌, subst, arith, zero-add}
use Rattle.std.specs.List.{range_with_len, list_all}
use Rattle.std.proofs.lemmas.Bool.{lt-ltb, le-ltb, le-leb, lt-leb, ltb-true, leb-true, both_ways, cases_lt, cases_Bool}
use Rattle.goal_graph.specs.Schedule.{Plan}
use Rattle.goal_limits.specs.declared.collective.Collective.{Collective}
use Rattle.goal_limits.specs.declared.collective.Collective.TheVariants.{Bcast, Barrier, Allgather, Allreduce, Alltoall, Reduce, Gather, Scatter, ReduceScatter, Scan}
use Rattle.goal_blocks.specs.Values.{Contribution, Value, insert_one}
use Rattle.goal_blocks.specs.Collectives.{single, of_each, initial_at, initial, is_one, is_value, has_one, wanted_at, wanted}
use Rattle.goal_blocks.specs.Right.{IsRightEverywhere, IsRightFor}
use Rattle.goal_blocks.specs.Renamed.{under, renamed}
use Rattle.goal_blocks.specs.Laws.{IsUndoneBy, IsRenamed}
use Rattle.goal_blocks.specs.Placed.{IsPermutation, IsPlaced, placed, relabelled, moved_along, CanBePlaced, placed_slot, placed_for}
use Rattle.goal_blocks.proofs.BarrierCertified.{has_one_inserted, has_one_kept_by_insert, has_one_of_empty}
use Rattle.goal_blocks.proofs.Wishes.{is_one_means_equal, is_one_reflexive, value_equal, is_value_reflexive, each_item_passes, one_item_fails}
use Rattle.goal_blocks.proofs.Picked.{picked, insert_picked, picked_none, picked_all}
use Rattle.goal_blocks.proofs.RenamedNotes.{renamed_is, renamed_back}
use Rattle.goal_blocks.proofs.RenamedRight.{right_under_renaming}
use Rattle.goal_blocks.proofs.PlacedAlike.{renaming_keeps_rank_equality}
use Rattle.goal_blocks.proofs.PlacedPlans.{inverse_permutation, placed_plans_are_placed}
use Rattle.goal_blocks.proofs.PlacedRight.{placed_right}

-- where items belong to ranks, the item of the permuted rank
abbrev pub placed_item : (ℕ → ℕ) → Collective → ℕ → ℕ
placed_item to Alltoall item = to item
placed_item to (Scatter root) item = to item
placed_item to ReduceScatter item = to item
placed_item to _ item = item

abbrev pub label_for : (ℕ → ℕ) → Collective → Contribution → Contribution
label_for to what c = record { rank = to c.rank; item = placed_item to what c.item }

has_rest : (v : Value) (c d : Contribution) → is_one c d ≡ false → has_one (d ∷ v) c ≡ true → has_one v c ≡ true
unfolding has_one
has_rest v c d e has = sym (ap (λ (b : Bool). if b then true else has_one v c) e) ∙ has

has_placed : (label : Contribution → Contribution) (v : Value) (c : Contribution) → has_one v c ≡ true → has_one (relabelled label v) (label c) ≡ true
unfolding relabelled
has_placed label [] c has = absurd (both_ways _ (has_one_of_empty c) has)
has_placed label (d ∷ v) c has = go (λ h. has_placed label v c h) (is_one c d) refl
  where
    go : (has_one v c ≡ true → has_one (relabelled label v) (label c) ≡ true) → (b : Bool) → is_one c d ≡ b → has_one (insert_one (label d) (relabelled label v)) (label c) ≡ true
    go rest true e =
        has_one_inserted (label d) (label c) (relabelled label v) (ap (λ (x : Contribution). is_one (label c) (label x)) (sym (is_one_means_equal c d e)) ∙ is_one_reflexive (label c))
    go rest false e =
        has_one_kept_by_insert (label d) (label c) (relabelled label v) (rest (has_rest v c d e has))

module _ (n : ℕ) (to back : ℕ → ℕ) (perm : IsPermutation n to back) where
  abbrev perm_back : IsPermutation n back to
  perm_back = inverse_permutation n to back perm

  -- a number is a rank where the renamed one is
  renamed_is_rank : (r : ℕ) → nat_lt (to r) n ≡ nat_lt r n
  renamed_is_rank r =
      ⊎_elim (λ low. lt-ltb (to r) n (perm.within r low) ∙ sym (lt-ltb r n low)) (λ high. let same = perm.others r high in ap (λ (k : ℕ). nat_lt k n) same) (cases_lt r n)

  -- k is the renamed rank r if and only if renaming k back gives r
  renamed_equals_if_back_equals : (k r : ℕ) → (k == to r) ≡ (back k == r)
  renamed_equals_if_back_equals k r =
      ap (λ (q : ℕ). q == to r) (sym (perm.to_back k)) ∙ renaming_keeps_rank_equality n to back perm (back k) r

  -- of each rank the same item, relabelled
  module _ (label : Contribution → Contribution) (i j : ℕ) (labels : (q : ℕ) → label (record { rank = q; item = i }) ≡ record { rank = to q; item = j }) where
    abbrev from_on : ℕ → ℕ → Bool
    from_on a k = nat_le a (back k) && nat_lt (back k) n

    some_placed : (a m : ℕ) → a + m ≡ n → relabelled label (map (λ (q : ℕ). record { rank = q; item = i }) (range_with_len a m)) ≡ picked (from_on a) j 0 n
    unfolding relabelled
    some_placed a zero e = sym (picked_none (from_on a) j 0 n (λ k. none k))
      where
        none : (k : ℕ) → from_on a k ≡ false
        none k = go (nat_le a (back k)) (nat_lt (back k) n) refl refl
          where
            go : (s t : Bool) → nat_le a (back k) ≡ s → nat_lt (back k) n ≡ t → (s && t) ≡ false
            go true true f g =
                let le = leb-true a (back k) f in
                let less = ltb-true (back k) n g in
                absurd (omega (arith, e, le, less))
            go true false f g = refl
            go false t f g = refl
    some_placed a (suc m) e =
        (λ x. insert_one (labels a x) (some_placed (a + 1) m (omega (arith, e)) x)) ∙ insert_picked (from_on (a + 1)) (from_on a) (to a) j 0 n (omega arith) (let l = perm.within a (omega (arith, e)) in omega (arith, l)) left taken same
      where
        left : from_on (a + 1) (to a) ≡ false
        left =
            ap (λ (q : ℕ). nat_le (a + 1) q && nat_lt q n) (perm.back_to a) ∙ ap (λ (b : Bool). b && nat_lt a n) (lt-leb (a + 1) a (omega arith))

        taken : from_on a (to a) ≡ true
        taken =
            ap (λ (q : ℕ). nat_le a q && nat_lt q n) (perm.back_to a) ∙ (λ x. le-leb a a (omega arith) x && lt-ltb a n (omega (arith, e)) x)

        same : (k : ℕ) → (k ≡ to a → ⊥) → from_on (a + 1) k ≡ from_on a k
        same k ne =
            ap (λ (b : Bool). b && nat_lt (back k) n) (⊎_elim (λ less. lt-leb (a + 1) (back k) (omega (arith, less)) ∙ sym (lt-leb a (back k) less)) (λ le. le-leb (a + 1) (back k) (omega (arith, le, apart)) ∙ sym (le-leb a (back k) le)) (cases_lt (back k) a))
          where
            apart : back k ≡ a → ⊥
            apart f = ne (sym (perm.to_back k) ∙ ap to f)

    pub each_placed : relabelled label (of_each n i) ≡ of_each n j
    unfolding of_each
    each_placed =
        some_placed 0 n (zero-add n) ∙ picked_all (from_on 0) j 0 n (λ k low high. (λ x. le-leb 0 (back k) (omega arith) x && lt-ltb (back k) n (perm_back.within k (omega (arith, high))) x))

  -- slots
  slot_back : (what : Collective) (k : ℕ) → placed_slot back what n (placed_slot to what n k) ≡ k
  slot_back (Bcast root) k = refl
  slot_back Barrier k = refl
  slot_back Allgather k = perm.back_to k
  slot_back Allreduce k = refl
  slot_back Alltoall k = ⊎_elim first second (cases_lt k n)
    where
      first : k < n → placed_slot back Alltoall n (placed_slot to Alltoall n k) ≡ k
      first low =
          ap (placed_slot back Alltoall n) (ap (λ (b : Bool). if b then to k else n + to (k - n)) (lt-ltb k n low))
          ∙ (ap (λ (b : Bool). if b then back (to k) else n + back (to k - n)) (lt-ltb (to k) n (perm.within k low)) ∙ perm.back_to k)

      second : n ≤ k → placed_slot back Alltoall n (placed_slot to Alltoall n k) ≡ k
      second high =
          let place : n + to (k - n) - n ≡ to (k - n) = omega arith in
          let end : n + (k - n) ≡ k = omega (arith, high) in
          ap (placed_slot back Alltoall n) (ap (λ (b : Bool). if b then to k else n + to (k - n)) (le-ltb k n high))
          ∙ (ap (λ (b : Bool). if b then back (n + to (k - n)) else n + back (n + to (k - n) - n)) (le-ltb (n + to (k - n)) n (omega arith)) ∙ (ap (λ (q : ℕ). n + back q) place ∙ (ap (λ (q : ℕ). n + q) (perm.back_to (k - n)) ∙ end)))
  slot_back (Reduce root) k = refl
  slot_back (Gather root) k = perm.back_to k
  slot_back (Scatter root) k = perm.back_to k
  slot_back ReduceScatter k = perm.back_to k
  slot_back Scan k = refl

  if_placed : (label : Contribution → Contribution) (v w : Value) → relabelled label v ≡ w → (b : Bool) → (if b then w else []) ≡ relabelled label (if b then v else [])
  unfolding relabelled
  if_placed label v w e true = sym e
  if_placed label v w e false = refl

  one_placed : (label : Contribution → Contribution) (r i : ℕ) (c : Contribution) → label (record { rank = r; item = i }) ≡ c → relabelled label (single r i) ≡ c ∷ []
  unfolding relabelled insert_one
  one_placed label r i c e = ap (λ (d : Contribution). d ∷ []) e

  -- the start on other ranks
  initial_at_placed : (what : Collective) → CanBePlaced what n → (r k : ℕ) → initial_at (moved_along to what) n (to r) k ≡ relabelled (label_for to what) (initial_at what n r (placed_slot back what n k))
  initial_at_placed (Bcast root) can r k =
      (λ i. if renaming_keeps_rank_equality n to back perm r root i && (k == 0) then single (to root) 0 else []) ∙ if_placed (label_for to (Bcast root)) (single root 0) (single (to root) 0) (one_placed (label_for to (Bcast root)) root 0 (record { rank = to root; item = 0 }) refl) ((r == root) && (k == 0))
  initial_at_placed Barrier can r k =
      if_placed (label_for to Barrier) (single r 0) (single (to r) 0) (one_placed (label_for to Barrier) r 0 (record { rank = to r; item = 0 }) refl) (k == 0)
  initial_at_placed Allgather can r k =
      (λ i. if renamed_equals_if_back_equals k r i then single (to r) 0 else []) ∙ if_placed (label_for to Allgather) (single r 0) (single (to r) 0) (one_placed (label_for to Allgather) r 0 (record { rank = to r; item = 0 }) refl) (back k == r)
  initial_at_placed Allreduce can r k =
      if_placed (label_for to Allreduce) (single r 0) (single (to r) 0) (one_placed (label_for to Allreduce) r 0 (record { rank = to r; item = 0 }) refl) (k == 0)
  initial_at_placed Alltoall can r k = ⊎_elim first second (cases_lt k n)
    where
      first : k < n → initial_at Alltoall n (to r) k ≡ relabelled (label_for to Alltoall) (initial_at Alltoall n r (placed_slot back Alltoall n k))
      first low =
          let there : placed_slot back Alltoall n k ≡ back k = ap (λ (b : Bool). if b then back k else n + back (k - n)) (lt-ltb k n low) in
          ap (λ (b : Bool). if b then single (to r) k else []) (lt-ltb k n low)
          ∙ (sym (one_placed (label_for to Alltoall) r (back k) (record { rank = to r; item = k }) (λ i. record { rank = to r; item = perm.to_back k i }))
          ∙ (ap (λ (b : Bool). relabelled (label_for to Alltoall) (if b then single r (back k) else [])) (sym (lt-ltb (back k) n (perm_back.within k low))) ∙ ap (λ (q : ℕ). relabelled (label_for to Alltoall) (initial_at Alltoall n r q)) (sym there)))

      second : n ≤ k → initial_at Alltoall n (to r) k ≡ relabelled (label_for to Alltoall) (initial_at Alltoall n r (placed_slot back Alltoall n k))
      second high =
          let there : placed_slot back Alltoall n k ≡ n + back (k - n) = ap (λ (b : Bool). if b then back k else n + back (k - n)) (le-ltb k n high) in
          ap (λ (b : Bool). if b then single (to r) k else []) (le-ltb k n high)
          ∙ (if_placed (label_for to Alltoall) (single r (n + back (k - n))) (relabelled (label_for to Alltoall) (single r (n + back (k - n)))) refl false
          ∙ (ap (λ (b : Bool). relabelled (label_for to Alltoall) (if b then single r (n + back (k - n)) else [])) (sym (le-ltb (n + back (k - n)) n (omega arith))) ∙ ap (λ (q : ℕ). relabelled (label_for to Alltoall) (initial_at Alltoall n r q)) (sym there)))
  initial_at_placed (Reduce root) can r k =
      if_placed (label_for to (Reduce root)) (single r 0) (single (to r) 0) (one_placed (label_for to (Reduce root)) r 0 (record { rank = to r; item = 0 }) refl) (k == 0)
  initial_at_placed (Gather root) can r k =
      (λ i. if renamed_equals_if_back_equals k r i then single (to r) 0 else []) ∙ if_placed (label_for to (Gather root)) (single r 0) (single (to r) 0) (one_placed (label_for to (Gather root)) r 0 (record { rank = to r; item = 0 }) refl) (back k == r)
  initial_at_placed (Scatter root) can r k =
      (λ i. if renaming_keeps_rank_equality n to back perm r root i && sym (rank_back k) i then single (to root) k else []) ∙ if_placed (label_for to (Scatter root)) (single root (back k)) (single (to root) k) (one_placed (label_for to (Scatter root)) root (back k) (record { rank = to root; item = k }) (λ i. record { rank = to root; item = perm.to_back k i })) ((r == root) && nat_lt (back k) n)
    where
      rank_back : (q : ℕ) → nat_lt (back q) n ≡ nat_lt q n
      rank_back q = sym (renamed_is_rank (back q)) ∙ ap (λ (p : ℕ). nat_lt p n) (perm.to_back q)
  initial_at_placed ReduceScatter can r k =
      (λ i. if sym (rank_back k) i then single (to r) k else []) ∙ if_placed (label_for to ReduceScatter) (single r (back k)) (single (to r) k) (one_placed (label_for to ReduceScatter) r (back k) (record { rank = to r; item = k }) (λ i. record { rank = to r; item = perm.to_back k i })) (nat_lt (back k) n)
    where
      rank_back : (q : ℕ) → nat_lt (back q) n ≡ nat_lt q n
      rank_back q = sym (renamed_is_rank (back q)) ∙ ap (λ (p : ℕ). nat_lt p n) (perm.to_back q)
  initial_at_placed Scan can r k = absurd can

  initial_placed : (what : Collective) → CanBePlaced what n → (r k : ℕ) → initial (moved_along to what) n (to r) k ≡ relabelled (label_for to what) (initial what n r (placed_slot back what n k))
  unfolding initial
  initial_placed what can r k =
      (λ i. if renamed_is_rank r i then initial_at (moved_along to what) n (to r) k else []) ∙ if_placed (label_for to what) (initial_at what n r (placed_slot back what n k)) (initial_at (moved_along to what) n (to r) k) (sym (initial_at_placed what can r k)) (nat_lt r n)

  -- what is wanted of a value, and of it relabelled
  module _ (label : Contribution → Contribution) where
    is_placed : (v w x : Value) → relabelled label w ≡ x → is_value v w ≡ true → is_value (relabelled label v) x ≡ true
    is_placed v w x e is =
        ap (λ (u : Value). is_value (relabelled label u) x) (value_equal v w is) ∙ (ap (λ (u : Value). is_value u x) e ∙ is_value_reflexive x)

    -- where it is asked for
    when_asked : (b : Bool) (asked told : Bool) → (asked ≡ true → told ≡ true) → (if b then asked else true) ≡ true → (if b then told else true) ≡ true
    when_asked true asked told so is = so is
    when_asked false asked told so is = refl

    all_placed : (v : Value) → ((q : ℕ) → label (record { rank = q; item = 0 }) ≡ record { rank = to q; item = 0 }) → list_all (has_one v) (of_each n 0) ≡ true → list_all (has_one (relabelled label v)) (of_each n 0) ≡ true
    unfolding of_each
    all_placed v labels all = each_item_passes (has_one (relabelled label v)) 0 n each
      where
        each : (q : ℕ) → q < 0 + n → has_one (relabelled label v) (record { rank = q; item = 0 }) ≡ true
        each q low =
            let there : back q < n = perm_back.within q (omega (arith, low)) in
            let had : has_one v (record { rank = back q; item = 0 }) ≡ true = ⊎_elim (λ e. e) (λ e. absurd (both_ways _ (one_item_fails (has_one v) 0 n (back q) (omega arith) (omega (arith, there)) e) all)) (cases_Bool (has_one v (record { rank = back q; item = 0 }))) in
            ap (has_one (relabelled label v)) (sym (labels (back q) ∙ λ i. record { rank = perm.to_back q i; item = 0 })) ∙ has_placed label v (record { rank = back q; item = 0 }) had

  rank_back : (q : ℕ) → nat_lt (back q) n ≡ nat_lt q n
  rank_back q = sym (renamed_is_rank (back q)) ∙ ap (λ (p : ℕ). nat_lt p n) (perm.to_back q)

  -- an implication between two conditions carries over when equal tests guard them
  implication_under_equal_tests : (a b asked told : Bool) → a ≡ b → (asked ≡ true → told ≡ true) → (if a then asked else true) ≡ true → (if b then told else true) ≡ true
  implication_under_equal_tests a b asked told e so is =
      ap (λ (c : Bool). if c then told else true) (sym e) ∙ when_asked (λ (c : Contribution). c) a asked told so is

  -- at a root that is a rank
  condition_at_valid_root : (root r : ℕ) (k : Bool) (u v : Bool) → root < n → (if nat_lt root n then (if r == root then u else true) else (if (r == 0) && k then v else true)) ≡ (if r == root then u else true)
  condition_at_valid_root root r k u v inside =
      ap (λ (b : Bool). if b then (if r == root then u else true) else (if (r == 0) && k then v else true)) (lt-ltb root n inside)

  wanted_at_placed : (what : Collective) → CanBePlaced what n → (r k : ℕ) (v : Value) → wanted_at what n r (placed_slot back what n k) v ≡ true → wanted_at (moved_along to what) n (to r) k (relabelled (label_for to what) v) ≡ true
  wanted_at_placed (Bcast root) can r k v is =
      implication_under_equal_tests (k == 0) (k == 0) (is_value v (single root 0)) (is_value (relabelled (label_for to (Bcast root)) v) (single (to root) 0)) refl (is_placed (label_for to (Bcast root)) v (single root 0) (single (to root) 0) (one_placed (label_for to (Bcast root)) root 0 (record { rank = to root; item = 0 }) refl)) is
  wanted_at_placed Barrier can r k v is =
      implication_under_equal_tests (k == 0) (k == 0) (list_all (has_one v) (of_each n 0)) (list_all (has_one (relabelled (label_for to Barrier) v)) (of_each n 0)) refl (all_placed (label_for to Barrier) v (λ q. refl)) is
  wanted_at_placed Allgather can r k v is =
      implication_under_equal_tests (nat_lt (back k) n) (nat_lt k n) (is_value v (single (back k) 0)) (is_value (relabelled (label_for to Allgather) v) (single k 0)) (rank_back k) (is_placed (label_for to Allgather) v (single (back k) 0) (single k 0) (one_placed (label_for to Allgather) (back k) 0 (record { rank = k; item = 0 }) (λ i. record { rank = perm.to_back k i; item = 0 }))) is
  wanted_at_placed Allreduce can r k v is =
      implication_under_equal_tests (k == 0) (k == 0) (is_value v (of_each n 0)) (is_value (relabelled (label_for to Allreduce) v) (of_each n 0)) refl (is_placed (label_for to Allreduce) v (of_each n 0) (of_each n 0) (each_placed (label_for to Allreduce) 0 0 (λ q. refl))) is
  wanted_at_placed Alltoall can r k v is = ⊎_elim first second (cases_lt k n)
    where
      label : Contribution → Contribution
      label = label_for to Alltoall

      first : k < n → wanted_at Alltoall n (to r) k (relabelled (label_for to Alltoall) v) ≡ true
      first low =
          ap (λ (b : Bool). if b && nat_lt k (n + n) then is_value (relabelled (label_for to Alltoall) v) (single (k - n) (to r)) else true) (lt-leb n k low)

      second : n ≤ k → wanted_at Alltoall n (to r) k (relabelled (label_for to Alltoall) v) ≡ true
      second high =
          implication_under_equal_tests (nat_le n (n + back (k - n)) && nat_lt (n + back (k - n)) (n + n)) (nat_le n k && nat_lt k (n + n)) (is_value v (single (n + back (k - n) - n) r)) (is_value (relabelled (label_for to Alltoall) v) (single (k - n) (to r))) tests (is_placed (label_for to Alltoall) v (single (n + back (k - n) - n) r) (single (k - n) (to r)) (one_placed (label_for to Alltoall) (n + back (k - n) - n) r (record { rank = k - n; item = to r }) (λ i. record { rank = name i; item = to r }))) (ap (λ (q : ℕ). wanted_at Alltoall n r q v) (sym there) ∙ is)
        where
          there : placed_slot back Alltoall n k ≡ n + back (k - n)
          there =
              ap (λ (b : Bool). if b then back k else n + back (k - n)) (le-ltb k n high)

          place : n + back (k - n) - n ≡ back (k - n)
          place = omega arith

          name : to (n + back (k - n) - n) ≡ k - n
          name = ap to place ∙ perm.to_back (k - n)

          both : (q : ℕ) → nat_lt (n + q) (n + n) ≡ nat_lt q n
          both q =
              ⊎_elim (λ low. lt-ltb (n + q) (n + n) (omega (arith, low)) ∙ sym (lt-ltb q n low)) (λ over. le-ltb (n + q) (n + n) (omega (arith, over)) ∙ sym (le-ltb q n over)) (cases_lt q n)

          end : n + (k - n) ≡ k
          end = omega (arith, high)

          tests : (nat_le n (n + back (k - n)) && nat_lt (n + back (k - n)) (n + n)) ≡ (nat_le n k && nat_lt k (n + n))
          tests =
              (λ i. le-leb n (n + back (k - n)) (omega arith) i && (both (back (k - n)) ∙ (rank_back (k - n) ∙ (sym (both (k - n)) ∙ ap (λ (q : ℕ). nat_lt q (n + n)) end))) i) ∙ (λ i. sym (le-leb n k high) i && nat_lt k (n + n))
  wanted_at_placed (Reduce root) can r k v is =
      implication_under_equal_tests (k == 0) (k == 0) (if nat_lt root n then (if r == root then is_value v (of_each n 0) else true) else (if (r == 0) && (k == 0) then is_value v (single root 0) else true)) (if nat_lt (to root) n then (if to r == to root then is_value (relabelled (label_for to (Reduce root)) v) (of_each n 0) else true) else (if (to r == 0) && (k == 0) then is_value (relabelled (label_for to (Reduce root)) v) (single (to root) 0) else true)) refl inner is
    where
      inner : (if nat_lt root n then (if r == root then is_value v (of_each n 0) else true) else (if (r == 0) && (k == 0) then is_value v (single root 0) else true)) ≡ true → (if nat_lt (to root) n then (if to r == to root then is_value (relabelled (label_for to (Reduce root)) v) (of_each n 0) else true) else (if (to r == 0) && (k == 0) then is_value (relabelled (label_for to (Reduce root)) v) (single (to root) 0) else true)) ≡ true
      inner asked =
          condition_at_valid_root (to root) (to r) (k == 0) (is_value (relabelled (label_for to (Reduce root)) v) (of_each n 0)) (is_value (relabelled (label_for to (Reduce root)) v) (single (to root) 0)) (perm.within root can)
          ∙ implication_under_equal_tests (r == root) (to r == to root) (is_value v (of_each n 0)) (is_value (relabelled (label_for to (Reduce root)) v) (of_each n 0)) (sym (renaming_keeps_rank_equality n to back perm r root)) (is_placed (label_for to (Reduce root)) v (of_each n 0) (of_each n 0) (each_placed (label_for to (Reduce root)) 0 0 (λ q. refl))) (sym (condition_at_valid_root root r (k == 0) (is_value v (of_each n 0)) (is_value v (single root 0)) can) ∙ asked)
  wanted_at_placed (Gather root) can r k v is =
      implication_under_equal_tests (nat_lt (back k) n) (nat_lt k n) (if nat_lt root n then (if r == root then is_value v (single (back k) 0) else true) else (if (r == 0) && (back k == 0) then is_value v (single root 0) else true)) (if nat_lt (to root) n then (if to r == to root then is_value (relabelled (label_for to (Gather root)) v) (single k 0) else true) else (if (to r == 0) && (k == 0) then is_value (relabelled (label_for to (Gather root)) v) (single (to root) 0) else true)) (rank_back k) inner is
    where
      inner : (if nat_lt root n then (if r == root then is_value v (single (back k) 0) else true) else (if (r == 0) && (back k == 0) then is_value v (single root 0) else true)) ≡ true → (if nat_lt (to root) n then (if to r == to root then is_value (relabelled (label_for to (Gather root)) v) (single k 0) else true) else (if (to r == 0) && (k == 0) then is_value (relabelled (label_for to (Gather root)) v) (single (to root) 0) else true)) ≡ true
      inner asked =
          condition_at_valid_root (to root) (to r) (k == 0) (is_value (relabelled (label_for to (Gather root)) v) (single k 0)) (is_value (relabelled (label_for to (Gather root)) v) (single (to root) 0)) (perm.within root can)
          ∙ implication_under_equal_tests (r == root) (to r == to root) (is_value v (single (back k) 0)) (is_value (relabelled (label_for to (Gather root)) v) (single k 0)) (sym (renaming_keeps_rank_equality n to back perm r root)) (is_placed (label_for to (Gather root)) v (single (back k) 0) (single k 0) (one_placed (label_for to (Gather root)) (back k) 0 (record { rank = k; item = 0 }) (λ i. record { rank = perm.to_back k i; item = 0 }))) (sym (condition_at_valid_root root r (back k == 0) (is_value v (single (back k) 0)) (is_value v (single root 0)) can) ∙ asked)
  wanted_at_placed (Scatter root) can r k v is =
      implication_under_equal_tests (back k == r) (k == to r) (is_value v (single root r)) (is_value (relabelled (label_for to (Scatter root)) v) (single (to root) (to r))) (sym (renamed_equals_if_back_equals k r)) (is_placed (label_for to (Scatter root)) v (single root r) (single (to root) (to r)) (one_placed (label_for to (Scatter root)) root r (record { rank = to root; item = to r }) refl)) is
  wanted_at_placed ReduceScatter can r k v is =
      implication_under_equal_tests (back k == r) (k == to r) (is_value v (of_each n r)) (is_value (relabelled (label_for to ReduceScatter) v) (of_each n (to r))) (sym (renamed_equals_if_back_equals k r)) (is_placed (label_for to ReduceScatter) v (of_each n r) (of_each n (to r)) (each_placed (label_for to ReduceScatter) r (to r) (λ q. refl))) is
  wanted_at_placed Scan can r k v is = absurd can

  wanted_values_placed : (what : Collective) → CanBePlaced what n → (r k : ℕ) (v : Value) → wanted what n r (placed_slot back what n k) v ≡ true → wanted (moved_along to what) n (to r) k (relabelled (label_for to what) v) ≡ true
  unfolding wanted
  wanted_values_placed what can r k v is =
      implication_under_equal_tests (nat_lt r n) (nat_lt (to r) n) (wanted_at what n r (placed_slot back what n k) v) (wanted_at (moved_along to what) n (to r) k (relabelled (label_for to what) v)) (sym (renamed_is_rank r)) (wanted_at_placed what can r k v) is

module _ (what : Collective) (to back : ℕ → ℕ) (plans : List Plan) (perm : IsPermutation (length plans) to back) where
  -- the names of the slots, and the schedule with these
  abbrev name : ℕ → ℕ → ℕ
  name rank slot = placed_slot to what (length plans) slot

  abbrev old_slot_number : ℕ → ℕ → ℕ
  old_slot_number rank slot = placed_slot back what (length plans) slot

  abbrev plans_with_new_slots : List Plan
  plans_with_new_slots = renamed name plans

  new_slots_are_renamed : IsRenamed name plans plans_with_new_slots
  new_slots_are_renamed = renamed_is name plans

  exchange_is_undone : IsUndoneBy name old_slot_number
  exchange_is_undone = record {
    back = λ rank slot. slot_back (length plans) to back perm what slot;
    forth = λ rank slot. slot_back (length plans) back to (inverse_permutation (length plans) to back perm) what slot;
  }

  -- right with the slots renamed
  new_slots_are_right : IsRightFor what plans → IsRightEverywhere plans_with_new_slots (under old_slot_number (initial what (length plans))) (under old_slot_number (wanted what (length plans)))
  new_slots_are_right right =
      right_under_renaming old_slot_number name plans_with_new_slots plans (record { back = exchange_is_undone.forth; forth = exchange_is_undone.back }) (renamed_back name old_slot_number plans plans_with_new_slots exchange_is_undone new_slots_are_renamed) (initial what (length plans)) (wanted what (length plans)) right

  permutation_with_new_slots : IsPermutation (length plans_with_new_slots) to back
  permutation_with_new_slots = subst (λ (n : ℕ). IsPermutation n to back) (sym new_slots_are_renamed.ranks) perm

  placed_with_new_slots : IsPlaced to plans_with_new_slots (placed to back plans_with_new_slots)
  placed_with_new_slots = placed_plans_are_placed to back plans_with_new_slots permutation_with_new_slots

  pub placed_for_right : CanBePlaced what (length plans) → IsRightFor what plans → IsRightFor (moved_along to what) (placed_for what to back plans)
  placed_for_right can right =
      subst (λ (n : ℕ). IsRightEverywhere (placed to back plans_with_new_slots) (initial (moved_along to what) n) (wanted (moved_along to what) n)) (sym (placed_with_new_slots.ranks ∙ new_slots_are_renamed.ranks)) (placed_right to back plans_with_new_slots (placed to back plans_with_new_slots) (label_for to what) (under old_slot_number (initial what (length plans))) (initial (moved_along to what) (length plans)) (under old_slot_number (wanted what (length plans))) (wanted (moved_along to what) (length plans)) permutation_with_new_slots placed_with_new_slots (λ r k. initial_placed (length plans) to back perm what can r k) (λ r k v low is. wanted_values_placed (length plans) to back perm what can r k v is) (new_slots_are_right right))
