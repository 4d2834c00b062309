-- The messages of collectives along the binomial tree: one for each virtual rank above 0, between it and its parent. The end
-- at the child and the end at the parent are told by the virtual rank, and by the virtual rank and the round.
use Rattle.std.proofs.Common.{◌≡◌, ◌⊎◌, ℕ, ◌+◌, ◌-◌, ◌^◌, ◌<◌, ◌≤◌, Some, inl, inr, ⊎_elim, sym, ap, ◌∙◌, arith}
use Rattle.std.proofs.lemmas.Nat.{pow_pos}
use Rattle.goal_limits.specs.Limits.{rank_limit}
use Rattle.goal_graph.specs.declared.action.OpId.{OpId}
use Rattle.goal_graph.specs.declared.plan.Kind.TheVariants.{Calc, Send, Recv}
use Rattle.goal_blocks.specs.Entries.{Entry}
use Rattle.goal_blocks.specs.Positions.{ahead, back, low, rounds, parent}
use Rattle.goal_blocks.specs.Messages.{AreMessages}
use Rattle.goal_blocks.proofs.MadePaired.{at, at_of_equal_numbers}
use Rattle.goal_blocks.proofs.Ring.{back_ahead, ahead_back}
use Rattle.goal_blocks.proofs.RingAndTree.{ahead_below, back_below}
use Rattle.goal_blocks.proofs.Trees.{child_below}
use Rattle.goal_blocks.proofs.Tree.{IsParent, parent_without_low_digit, child_low}

-- a virtual rank with a parent
pub record TreeEdge (ranks : ℕ) : Type 0 where
  pub child : ℕ
  pub some : 0 < child
  pub inside : child < ranks

module _ (ranks root bytes : ℕ) (rooted : root < ranks) (few : ranks ≤ rank_limit) where
  abbrev pub above : TreeEdge ranks → ℕ
  above m = m.child - 2 ^ low m.child

  pub above_is_parent : (m : TreeEdge ranks) → IsParent ranks m.child (above m)
  above_is_parent m = parent_without_low_digit ranks few m.child m.some m.inside

  pub above_inside : (m : TreeEdge ranks) → above m < ranks
  above_inside m = let inside = m.inside in omega (arith, inside)

  -- v is the virtual rank of its rank
  pub back_from_ahead_is_virtual_rank : (v : ℕ) → v < ranks → back ranks (ahead ranks v root) root ≡ v
  back_from_ahead_is_virtual_rank v inside = back_ahead ranks v root inside (omega (arith, rooted))

  -- so many operations of each virtual rank, and their entries; the number of the one that is its end of the message between
  -- it and its parent, and of the one that is its end of that between it and its child of a round
  module _ (count : ℕ → ℕ) (e : ℕ → ℕ → Entry) (up : ℕ → ℕ) (down : ℕ → ℕ → ℕ) where
    abbrev pub child_end : TreeEdge ranks → OpId
    child_end m = at (ahead ranks m.child root) (up m.child)

    abbrev pub parent_end : TreeEdge ranks → OpId
    parent_end m = at (ahead ranks (above m) root) (down (above m) (low m.child))

    -- those operations are there, and the others are calcs
    pub record AreTreeEnds : Type 0 where
      pub up_there : (v : ℕ) → 0 < v → v < ranks → up v < count v
      pub down_there : (v j : ℕ) → v < ranks → j < rounds ranks v → down v j < count v
      pub each : (v i : ℕ) → v < ranks → i < count v → ((nanos : ℕ) × ((e v i).kind ≡ Calc nanos)) ⊎ (((0 < v) × (up v ≡ i)) ⊎ ((j : ℕ) × (j < rounds ranks v) × (down v j ≡ i)))

    module _ (ends : AreTreeEnds) where
      child_there : (m : TreeEdge ranks) → ((child_end m).rank < ranks) × ((child_end m).op < count (back ranks (child_end m).rank root))
      child_there m =
          (ahead_below ranks m.child root m.inside (omega (arith, rooted)), rw (back_from_ahead_is_virtual_rank m.child m.inside) (ends.up_there m.child m.some m.inside))

      parent_there : (m : TreeEdge ranks) → ((parent_end m).rank < ranks) × ((parent_end m).op < count (back ranks (parent_end m).rank root))
      parent_there m =
          (ahead_below ranks (above m) root (above_inside m) (omega (arith, rooted)), rw (back_from_ahead_is_virtual_rank (above m) (above_inside m)) (ends.down_there (above m) (low m.child) (above_inside m) (above_is_parent m).round))

      cases : (x : OpId) → x.rank < ranks → x.op < count (back ranks x.rank root) → ((nanos : ℕ) × ((e (back ranks x.rank root) x.op).kind ≡ Calc nanos)) ⊎ (((m : TreeEdge ranks) × (child_end m ≡ x)) ⊎ ((m : TreeEdge ranks) × (parent_end m ≡ x)))
      cases x in_rank inside =
          ⊎_elim (λ c. inl c) (λ c. inr (⊎_elim (λ u. inl (record { child = (back ranks x.rank root); some = u.0; inside = low_rank }, at_of_equal_numbers (ahead ranks (back ranks x.rank root) root) (up (back ranks x.rank root)) x.rank x.op home u.1)) (λ d. inr (of_child d.0 d.1 d.2)) c)) (ends.each (back ranks x.rank root) x.op low_rank inside)
        where
          low_rank : (back ranks x.rank root) < ranks
          low_rank = back_below ranks x.rank root in_rank

          home : ahead ranks (back ranks x.rank root) root ≡ x.rank
          home = ahead_back ranks x.rank root in_rank (omega (arith, rooted))

          of_child : (j : ℕ) → j < rounds ranks (back ranks x.rank root) → down (back ranks x.rank root) j ≡ x.op → (m : TreeEdge ranks) × (parent_end m ≡ x)
          of_child j lt number =
              let lowest = child_low ranks few (back ranks x.rank root) j lt in
              let back_to : (back ranks x.rank root) + 2 ^ j - 2 ^ low ((back ranks x.rank root) + 2 ^ j) ≡ (back ranks x.rank root) = ap (λ (n : ℕ). (back ranks x.rank root) + 2 ^ j - 2 ^ n) lowest ∙ omega arith in (
                record { child = (back ranks x.rank root) + 2 ^ j; some = omega (arith, pow_pos j); inside = child_below ranks few (back ranks x.rank root) j low_rank lt },
                at_of_equal_numbers (ahead ranks ((back ranks x.rank root) + 2 ^ j - 2 ^ low ((back ranks x.rank root) + 2 ^ j)) root) (down ((back ranks x.rank root) + 2 ^ j - 2 ^ low ((back ranks x.rank root) + 2 ^ j)) (low ((back ranks x.rank root) + 2 ^ j))) x.rank x.op (ap (λ (w : ℕ). ahead ranks w root) back_to ∙ home) ((λ i. down (back_to i) (lowest i)) ∙ number),
              )

      -- the child's rank tells the message
      same_child : (m n : TreeEdge ranks) → (child_end m).rank ≡ (child_end n).rank → m.child ≡ n.child
      same_child m n same =
          sym (back_from_ahead_is_virtual_rank m.child m.inside) ∙ ap (λ (r : ℕ). back ranks r root) same ∙ back_from_ahead_is_virtual_rank n.child n.inside

      same_child_end : (m n : TreeEdge ranks) → m.child ≡ n.child → child_end m ≡ child_end n
      same_child_end m n same = ap (λ (c : ℕ). at (ahead ranks c root) (up c)) same

      same_parent_end : (m n : TreeEdge ranks) → m.child ≡ n.child → parent_end m ≡ parent_end n
      same_parent_end m n same =
          ap (λ (c : ℕ). at (ahead ranks (c - 2 ^ low c) root) (down (c - 2 ^ low c) (low c))) same

      -- up the tree: each child sends to its parent
      pub up_messages : ((v : ℕ) → 0 < v → v < ranks → (e v (up v)).kind ≡ Send bytes (parent ranks root v) (low v)) → ((v j : ℕ) → v < ranks → j < rounds ranks v → (e v (down v j)).kind ≡ Recv bytes (Some (ahead ranks (v + 2 ^ j) root)) (Some j)) → AreMessages ranks (λ r. count (back ranks r root)) (λ r i. e (back ranks r root) i) (TreeEdge ranks) bytes child_end parent_end (λ m. low m.child)
      unfolding parent
      up_messages sends takes = record {
        send_there = child_there;
        recv_there = parent_there;
        sent = λ m. rw (back_from_ahead_is_virtual_rank m.child m.inside) (sends m.child m.some m.inside);
        received = λ m. rw (back_from_ahead_is_virtual_rank (above m) (above_inside m)) (takes (above m) (low m.child) (above_inside m) (above_is_parent m).round ∙ ap (λ (c : ℕ). Recv bytes (Some (ahead ranks c root)) (Some (low m.child))) (above_is_parent m).child);
        cases = cases;
        apart = λ m n source target tag. let same = same_child m n source in (same_child_end m n same, same_parent_end m n same);
      }

      -- down the tree: each parent sends to its child
      pub down_messages : ((v : ℕ) → 0 < v → v < ranks → (e v (up v)).kind ≡ Recv bytes (Some (parent ranks root v)) (Some (low v))) → ((v j : ℕ) → v < ranks → j < rounds ranks v → (e v (down v j)).kind ≡ Send bytes (ahead ranks (v + 2 ^ j) root) j) → AreMessages ranks (λ r. count (back ranks r root)) (λ r i. e (back ranks r root) i) (TreeEdge ranks) bytes parent_end child_end (λ m. low m.child)
      unfolding parent
      down_messages takes sends = record {
        send_there = parent_there;
        recv_there = child_there;
        sent = λ m. rw (back_from_ahead_is_virtual_rank (above m) (above_inside m)) (sends (above m) (low m.child) (above_inside m) (above_is_parent m).round ∙ ap (λ (c : ℕ). Send bytes (ahead ranks c root) (low m.child)) (above_is_parent m).child);
        received = λ m. rw (back_from_ahead_is_virtual_rank m.child m.inside) (takes m.child m.some m.inside);
        cases = λ x in_rank inside. ⊎_elim (λ c. inl c) (λ c. inr (⊎_elim (λ a. inr a) (λ a. inl a) c)) (cases x in_rank inside);
        apart = λ m n source target tag. let same = same_child m n target in (same_parent_end m n same, same_child_end m n same);
      }
