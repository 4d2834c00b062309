-- Collectives along the binomial tree whose messages have the slots of blocks, each with one contribution: they are small, and
-- what is held is bounded.
use Rattle.std.proofs.Common.{Bool, refl, ℕ, suc, ◌+◌, ◌^◌, ◌<◌, ◌≤◌, ◌≡◌, List, [], ◌∷◌, map, length, All, ◌∙◌, arith}
use Rattle.std.specs.List.{sum_by}
use Rattle.std.proofs.Math.Nat.{pow-suc}
use Rattle.std.proofs.Math.Pow.{pow_mono}
use Rattle.std.proofs.lemmas.List.Sums.{sum_by-cons}
use Rattle.std.proofs.lemmas.Nat.{pow_pos}
use Rattle.goal_limits.specs.Limits.{rank_limit}
use Rattle.goal_graph.specs.declared.action.OpId.{OpId}
use Rattle.goal_graph.specs.declared.plan.Kind.{Kind}
use Rattle.goal_blocks.specs.Values.{Value, Store}
use Rattle.goal_blocks.specs.Certification.{NamesLowSlots, IsSmall}
use Rattle.goal_blocks.specs.Entries.{Entry, notes_of, made_by}
use Rattle.goal_blocks.specs.Positions.{back, low, rounds, share}
use Rattle.goal_blocks.proofs.Orders.{Mem}
use Rattle.goal_blocks.proofs.RingAndTree.{back_below}
use Rattle.goal_blocks.proofs.Trees.{child_below}
use Rattle.goal_blocks.proofs.Tree.{rounds_low}
use Rattle.goal_blocks.proofs.TreeSizes.{block_size, block_cap, block_load, cap_of_block, blocks_held, blocks_moved}
use Rattle.goal_blocks.proofs.Shares.{IsInShare, share_length, share_low, moved_notes, moving_low}
use Rattle.goal_blocks.proofs.Sizes.{entries_moved}
use Rattle.goal_blocks.proofs.Blueprint.{slots_moved_by, writes, IsBounded}

-- values of one contribution
lengths_of_one : (f : ℕ → Value) → ((k : ℕ) → length (f k) ≡ 1) → (ks : List ℕ) → sum_by (λ (v : Value). length v) (map f ks) ≡ length ks
lengths_of_one f one [] = refl
lengths_of_one f one (k ∷ ks) =
    let here = one k in
    let rest = lengths_of_one f one ks in
    sum_by-cons (λ (v : Value). length v) (f k) (map f ks) ∙ omega (arith, here, rest)

module _ (ranks : ℕ) (few : ranks ≤ rank_limit) (root : ℕ) (rooted : root < ranks) where
  -- an entry of v moves at most as many slots as its block has, and low ones
  pub record IsMoving (v n : ℕ) (x : Entry) : Type 0 where
    pub few_moved : length (slots_moved_by x) ≤ block_size ranks v
    pub low_slots : All NamesLowSlots (notes_of n x)

  module _ (v n : ℕ) (kind : Kind) (needs : List ℕ) (inside : v < ranks) where
    pub own_block : IsMoving v n (record { kind = kind; needs = needs; moves = share ranks root v (2 ^ low v); adds = [] })
    unfolding block_size
    own_block =
        let is = share_length ranks root v (2 ^ low v) rooted inside (pow_pos (low v)) in
        record {
          few_moved = omega (arith, is);
          low_slots = moving_low n (share ranks root v (2 ^ low v)) (share_low ranks root v (2 ^ low v) rooted inside (pow_pos (low v)) few);
        }

    pub child_block : (j : ℕ) → j < rounds ranks v → IsMoving v n (record { kind = kind; needs = needs; moves = share ranks root (v + 2 ^ j) (2 ^ j); adds = [] })
    unfolding block_size
    child_block j lt =
        let child = child_below ranks few v j inside lt in
        let is = share_length ranks root (v + 2 ^ j) (2 ^ j) rooted child (pow_pos j) in
        let most = rounds_low ranks few v in
        let more : 2 ^ suc j ≤ 2 ^ low v = pow_mono (omega (arith, lt, most)) in
        let up = pow-suc 2 j in
        record {
          few_moved = omega (arith, is, more, up);
          low_slots = moving_low n (share ranks root (v + 2 ^ j) (2 ^ j)) (share_low ranks root (v + 2 ^ j) (2 ^ j) rooted child (pow_pos j) few);
        }

  -- the number of operations of each virtual rank, and their entries
  module _ (count : ℕ → ℕ) (most : (v : ℕ) → count v ≤ 17) (e : ℕ → ℕ → Entry) (moving : (v i n : ℕ) → v < ranks → i < count v → IsMoving v n (e v i)) where
    pub blocks_small : IsSmall (made_by ranks (λ r. count (back ranks r root)) (λ r i. e (back ranks r root) i))
    blocks_small =
        entries_moved ranks (λ r. count (back ranks r root)) (λ r i. e (back ranks r root) i) (block_load ranks few root rooted) (λ r l. let some = most (back ranks r root) in omega (arith, some)) (λ r i l m. (moving (back ranks r root) i i (back_below ranks r root l) m).low_slots) (λ r i l m. let is = moved_notes i (e (back ranks r root) i) in let moves = (moving (back ranks r root) i i (back_below ranks r root l) m).few_moved in omega (arith, is, moves)) (let loads = blocks_moved ranks few root rooted (λ r. count (back ranks r root)) (λ r. most (back ranks r root)) in omega (arith, loads))

    -- each slot has its own value of one contribution wherever it is touched, and the slots of the block alone are written
    pub blocks_bounded : (first : Store) (wanted : ℕ → ℕ → Value → Bool) (f : ℕ → Value) (M : Type 0) (send : M → OpId) → ((k : ℕ) → length (f k) ≡ 1) → ((r k : ℕ) → length (first r k) ≤ block_cap ranks few root rooted r k) → ((v i k : ℕ) → v < ranks → i < count v → Mem k (writes (e v i)) → IsInShare ranks root v (2 ^ low v) k) → ((m : M) → ((send m).rank < ranks) × ((send m).op < count (back ranks (send m).rank root))) → IsBounded ranks (λ r. count (back ranks r root)) (λ r i. e (back ranks r root) i) first wanted (λ r i k. f k) (λ r i k. f k) M send (block_cap ranks few root rooted) (block_load ranks few root rooted)
    blocks_bounded first wanted f M send one first_cap written there = record {
      first_cap = first_cap;
      leaves_cap = λ r i k at w. let is = written (back ranks r root) i k (back_below ranks r root at.0) at.1 w in let full = cap_of_block ranks few root rooted r k is.slot is.from is.before in let size = one k in omega (arith, full, size);
      finds_load = λ m. let moves = (moving (back ranks (send m).rank root) (send m).op 0 (back_below ranks (send m).rank root (there m).0) (there m).1).few_moved in let is = lengths_of_one f one (slots_moved_by (e (back ranks (send m).rank root) (send m).op)) in omega (arith, is, moves);
      total = (let stores = blocks_held ranks few root rooted in let loads = blocks_moved ranks few root rooted (λ r. count (back ranks r root)) (λ r. most (back ranks r root)) in omega (arith, stores, loads));
    }
