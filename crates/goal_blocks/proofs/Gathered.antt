-- The contributions of some virtual ranks that follow one another, in the order of ranks: what a rank of a tree has gathered.
use Rattle.std.proofs.Common.{⊎_elim, ℕ, zero, suc, ◌+◌, ◌-◌, ◌^◌, ◌<◌, ◌≤◌, ◌≡◌, Bool, true, false, [], ◌∷◌, length, min, if◌then◌else◌, refl, sym, ap, ◌∙◌, arith}
use Rattle.std.proofs.Math.Nat.{pow-suc}
use Rattle.std.proofs.lemmas.Bool.{true≢false}
use Rattle.goal_blocks.specs.Values.{Contribution, Value, is_lower, insert_one, merge}
use Rattle.goal_blocks.specs.Collectives.{single, of_each}
use Rattle.goal_blocks.specs.Positions.{ahead}
use Rattle.goal_blocks.proofs.Ring.{ahead_cases}
use Rattle.goal_blocks.proofs.Runs.{run, insert_before, merge_after, run_is_mapped_range}
use Rattle.goal_blocks.proofs.Sorted.{not_after, lower_than_not_lower, not_lower_is_equal, length_insert}

-- in which order two contributions are put into a value does not matter

insert_one_before_head : (c d : Contribution) (v : Value) → is_lower c d ≡ true → insert_one c (d ∷ v) ≡ c ∷ d ∷ v
unfolding insert_one
insert_one_before_head c d v l = ap (λ (b : Bool). if b then c ∷ d ∷ v else d ∷ insert_one c v) l

insert_one_after_head : (c d : Contribution) (v : Value) → is_lower c d ≡ false → insert_one c (d ∷ v) ≡ d ∷ insert_one c v
unfolding insert_one
insert_one_after_head c d v l = ap (λ (b : Bool). if b then c ∷ d ∷ v else d ∷ insert_one c v) l

insert_none : (c : Contribution) → insert_one c [] ≡ c ∷ []
unfolding insert_one
insert_none c = refl

swap_lower : (c d : Contribution) → is_lower c d ≡ true → (v : Value) → insert_one c (insert_one d v) ≡ insert_one d (insert_one c v)
swap_lower c d l [] =
    ap (insert_one c) (insert_none d) ∙ insert_one_before_head c d [] l ∙ ap (λ (v : Value). c ∷ v) (sym (insert_none d)) ∙ sym (insert_one_after_head d c [] (not_after c d l)) ∙ ap (insert_one d) (sym (insert_none c))
swap_lower c d l (x ∷ v) = go (is_lower c x) (is_lower d x) refl refl (swap_lower c d l v)
  where
    go : (a b : Bool) → is_lower c x ≡ a → is_lower d x ≡ b → insert_one c (insert_one d v) ≡ insert_one d (insert_one c v) → insert_one c (insert_one d (x ∷ v)) ≡ insert_one d (insert_one c (x ∷ v))
    go true true e f rest =
        ap (insert_one c) (insert_one_before_head d x v f) ∙ insert_one_before_head c d (x ∷ v) l ∙ ap (λ (w : Value). c ∷ w) (sym (insert_one_before_head d x v f)) ∙ sym (insert_one_after_head d c (x ∷ v) (not_after c d l)) ∙ ap (insert_one d) (sym (insert_one_before_head c x v e))
    go true false e f rest =
        ap (insert_one c) (insert_one_after_head d x v f) ∙ insert_one_before_head c x (insert_one d v) e ∙ ap (λ (w : Value). c ∷ w) (sym (insert_one_after_head d x v f)) ∙ sym (insert_one_after_head d c (x ∷ v) (not_after c d l)) ∙ ap (insert_one d) (sym (insert_one_before_head c x v e))
    go false true e f rest = absurd (true≢false (sym (lower_than_not_lower d c x l (not_after d x f)) ∙ e))
    go false false e f rest =
        ap (insert_one c) (insert_one_after_head d x v f) ∙ insert_one_after_head c x (insert_one d v) e ∙ ap (λ (w : Value). x ∷ w) rest ∙ sym (insert_one_after_head d x (insert_one c v) f) ∙ ap (insert_one d) (sym (insert_one_after_head c x v e))

pub insert_swap : (c d : Contribution) (v : Value) → insert_one c (insert_one d v) ≡ insert_one d (insert_one c v)
insert_swap c d v = go (is_lower c d) (is_lower d c) refl refl
  where
    go : (a b : Bool) → is_lower c d ≡ a → is_lower d c ≡ b → insert_one c (insert_one d v) ≡ insert_one d (insert_one c v)
    go true b e f = swap_lower c d e v
    go false true e f = sym (swap_lower d c f v)
    go false false e f = let same = not_lower_is_equal c d e f in λ i. insert_one (same i) (insert_one (sym same i) v)

pub merge_insert : (c : Contribution) (v w : Value) → merge (insert_one c v) w ≡ insert_one c (merge v w)
unfolding insert_one merge
merge_insert c [] w = refl
merge_insert c (d ∷ v) w = go (is_lower c d) (merge_insert c v w)
  where
    go : (b : Bool) → merge (insert_one c v) w ≡ insert_one c (merge v w) → merge (if b then c ∷ d ∷ v else d ∷ insert_one c v) w ≡ insert_one c (insert_one d (merge v w))
    go true rest = refl
    go false rest = ap (insert_one d) rest ∙ insert_swap d c (merge v w)

module _ (ranks root : ℕ) where
  -- the first item of the rank of the virtual rank v
  abbrev item_of : ℕ → Contribution
  item_of v = record { rank = ahead ranks v root; item = 0 }

  -- those of s virtual ranks, from v on
  unfoldable pub gathered : ℕ → ℕ → Value
  gathered v zero = []
  gathered v (suc s) = insert_one (item_of v) (gathered (v + 1) s)

  pub length-gathered : (v s : ℕ) → length (gathered v s) ≡ s
  unfolding gathered
  length-gathered v zero = refl
  length-gathered v (suc s) =
      let more = length_insert (item_of v) (gathered (v + 1) s) in
      let rest = length-gathered (v + 1) s in
      omega (arith, more, rest)

  pub gathered_one : (v : ℕ) → gathered v 1 ≡ single (ahead ranks v root) 0
  unfolding gathered
  gathered_one v = insert_none (item_of v)

  -- merging the contributions of two adjacent runs of virtual ranks gives those of the joined run
  pub gathered_of_adjacent_runs : (v s t : ℕ) → merge (gathered v s) (gathered (v + s) t) ≡ gathered v (s + t)
  unfolding gathered merge
  gathered_of_adjacent_runs v zero t =
      let e : v + 0 ≡ v = omega arith in
      let f : 0 + t ≡ t = omega arith in
      λ i. gathered (e i) (sym f i)
  gathered_of_adjacent_runs v (suc s) t =
      let e : v + suc s ≡ v + 1 + s = omega arith in
      let f : suc s + t ≡ suc (s + t) = omega arith in
      ap (λ (n : ℕ). merge (insert_one (item_of v) (gathered (v + 1) s)) (gathered n t)) e ∙ merge_insert (item_of v) (gathered (v + 1) s) (gathered (v + 1 + s) t) ∙ ap (insert_one (item_of v)) (gathered_of_adjacent_runs (v + 1) s t) ∙ ap (gathered v) (sym f)

  -- a run of virtual ranks, wholly before or wholly after the wrap to rank 0, is a run of ranks
  gathered_before_wrap : (v s : ℕ) → v + s + root ≤ ranks → gathered v s ≡ run (v + root) s
  unfolding gathered run
  gathered_before_wrap v zero l = refl
  gathered_before_wrap v (suc s) l =
      let next : v + 1 + root ≡ v + root + 1 = omega arith in
      let here : ahead ranks v root ≡ v + root = ⊎_elim (λ p. p.1) (λ p. let past = p.0 in absurd (omega (arith, past, l))) (ahead_cases ranks v root) in
      (λ i. insert_one (record { rank = here i; item = 0 }) (gathered_before_wrap (v + 1) s (omega (arith, l)) i)) ∙ ap (λ (a : ℕ). insert_one (record { rank = v + root; item = 0 }) (run a s)) next ∙ insert_before (v + root) (v + root + 1) s (omega arith)

  gathered_after_wrap : (v s : ℕ) → ranks ≤ v + root → gathered v s ≡ run (v + root - ranks) s
  unfolding gathered run
  gathered_after_wrap v zero g = refl
  gathered_after_wrap v (suc s) g =
      let next : v + 1 + root - ranks ≡ v + root - ranks + 1 = omega (arith, g) in
      let here : ahead ranks v root ≡ v + root - ranks = ⊎_elim (λ p. let near = p.0 in absurd (omega (arith, near, g))) (λ p. p.1) (ahead_cases ranks v root) in
      (λ i. insert_one (record { rank = here i; item = 0 }) (gathered_after_wrap (v + 1) s (omega (arith, g)) i)) ∙ ap (λ (a : ℕ). insert_one (record { rank = v + root - ranks; item = 0 }) (run a s)) next ∙ insert_before (v + root - ranks) (v + root - ranks + 1) s (omega arith)

  -- those of all virtual ranks are those of all ranks
  pub gathered_all : root < ranks → gathered 0 ranks ≡ of_each ranks 0
  unfolding of_each
  gathered_all rooted =
      let whole : ranks ≡ ranks - root + root = omega (arith, rooted) in
      let whole' : root + (ranks - root) ≡ ranks = omega (arith, rooted) in
      let low : gathered 0 (ranks - root) ≡ run (0 + root) (ranks - root) = gathered_before_wrap 0 (ranks - root) (omega (arith, rooted)) in
      let start : 0 + (ranks - root) + root - ranks ≡ 0 = omega (arith, rooted) in
      let high : gathered (0 + (ranks - root)) root ≡ run 0 root = gathered_after_wrap (0 + (ranks - root)) root (omega (arith, rooted)) ∙ ap (λ (a : ℕ). run a root) start in
      ap (gathered 0) whole ∙ sym (gathered_of_adjacent_runs 0 (ranks - root) root) ∙ (λ i. merge (low i) (high i)) ∙ merge_after 0 root (ranks - root) ∙ ap (run 0) whole' ∙ run_is_mapped_range 0 ranks

  -- the contributions of the virtual ranks from v to below v + 2^j, as far as there are such ranks
  abbrev pub block : ℕ → ℕ → Value
  block j v = gathered v (min (2 ^ j) (ranks - v))

  pub block_first : (v : ℕ) → v < ranks → block 0 v ≡ single (ahead ranks v root) 0
  block_first v l =
      let one : min (2 ^ 0) (ranks - v) ≡ 1 = omega (arith, l) in
      ap (gathered v) one ∙ gathered_one v

  -- after merging the block of the child of the next round it has the next larger block
  pub block_of_next_round : (j v : ℕ) → v + 2 ^ j < ranks → merge (block j v) (block j (v + 2 ^ j)) ≡ block (suc j) v
  block_of_next_round j v l =
      let whole : min (2 ^ j) (ranks - v) ≡ 2 ^ j = omega (arith, l) in
      let twice = pow-suc 2 j in
      let size : 2 ^ j + min (2 ^ j) (ranks - (v + 2 ^ j)) ≡ min (2 ^ suc j) (ranks - v) = omega (arith, l, twice) in
      ap (λ (n : ℕ). merge (gathered v n) (block j (v + 2 ^ j))) whole ∙ gathered_of_adjacent_runs v (2 ^ j) (min (2 ^ j) (ranks - (v + 2 ^ j))) ∙ ap (gathered v) size

  -- if no virtual rank is left beyond the block, later rounds do not change it
  pub blocks_past_ranks_are_equal : (j k v : ℕ) → ranks ≤ v + 2 ^ j → ranks ≤ v + 2 ^ k → block j v ≡ block k v
  blocks_past_ranks_are_equal j k v g h =
      let same : min (2 ^ j) (ranks - v) ≡ min (2 ^ k) (ranks - v) = omega (arith, g, h) in ap (gathered v) same

  pub block_all : (j : ℕ) → root < ranks → ranks ≤ 2 ^ j → block j 0 ≡ of_each ranks 0
  block_all j rooted g =
      let size : min (2 ^ j) (ranks - 0) ≡ ranks = omega (arith, g) in ap (gathered 0) size ∙ gathered_all rooted

  pub length-block : (j v : ℕ) → length (block j v) ≤ 2 ^ j
  length-block j v =
      let size = length-gathered v (min (2 ^ j) (ranks - v)) in
      omega (arith, size)
