-- The messages of the broadcast.
use Rattle.std.proofs.Common.{◌≡◌, ◌⊎◌, ℕ, zero, suc, ◌+◌, ◌-◌, ◌^◌, ◌<◌, ◌≤◌, Some, inl, inr, refl, sym, ap, ◌∙◌, subst, arith}
use Rattle.std.proofs.Math.Nat.{pow-suc}
use Rattle.std.proofs.lemmas.Bool.{cases_lt}
use Rattle.std.proofs.lemmas.Nat.{pow_pos}
use Rattle.goal_limits.specs.Limits.{rank_limit}
use Rattle.goal_graph.specs.declared.action.OpId.{OpId}
use Rattle.goal_graph.specs.declared.plan.Kind.TheVariants.{Send, Recv}
use Rattle.goal_limits.specs.declared.collective.Collective.TheVariants.{Bcast}
use Rattle.goal_blocks.specs.Positions.{ahead, back, digits}
use Rattle.goal_blocks.specs.Made.{bcast_in, bcast_count}
use Rattle.goal_blocks.specs.Generated.{made}
use Rattle.goal_blocks.specs.Messages.{AreMessages, AreChannelsPaired}
use Rattle.goal_blocks.proofs.MadePaired.{at, at_of_equal_numbers}
use Rattle.goal_blocks.proofs.MessagesPaired.{messages_paired}
use Rattle.goal_blocks.proofs.Ring.{back_ahead, ahead_back}
use Rattle.goal_blocks.proofs.RingAndTree.{ahead_below, back_below, power_below_digits_at_most, below_power_of_digits, digits_few, digits_some}

-- if v < 2^j, then the highest binary digit of v + 2^j is that of 2^j
top_digit : (v j : ℕ) → v + 2 ^ j < 2 ^ 32 → v < 2 ^ j → digits (v + 2 ^ j) ≡ suc j
top_digit v j small lt = go (cases_lt j (digits (v + 2 ^ j)))
  where
    few : digits (v + 2 ^ j) ≤ suc j
    few = let e = pow-suc 2 j in digits_few (v + 2 ^ j) (suc j) small (omega (arith, e))

    go : (j < digits (v + 2 ^ j)) ⊎ (digits (v + 2 ^ j) ≤ j) → digits (v + 2 ^ j) ≡ suc j
    go (inl above) = omega (arith, few)
    go (inr below) = absurd (omega (arith, below_power_of_digits (v + 2 ^ j) j small below))

-- the number of the send of a round
pub send_number_of_round : ℕ → ℕ → ℕ
send_number_of_round zero j = j
send_number_of_round (suc w) j = suc (j - digits (suc w))

module _ (ranks root bytes : ℕ) (rooted : root < ranks) (few : ranks ≤ rank_limit) where
  -- in each round, each virtual rank below 2^round sends to the one that is 2^round above
  pub record TreeHop : Type 0 where
    pub from : ℕ
    pub round : ℕ
    pub early : digits from ≤ round
    pub below : from + 2 ^ round < ranks

  abbrev pub tree_send : TreeHop → OpId
  tree_send h = at (ahead ranks h.from root) (send_number_of_round h.from h.round)

  abbrev pub tree_recv : TreeHop → OpId
  tree_recv h = at (ahead ranks (h.from + 2 ^ h.round) root) 0

  back_from_root_undoes_ahead : (v : ℕ) → v < ranks → back ranks (ahead ranks v root) root ≡ v
  back_from_root_undoes_ahead v inside = back_ahead ranks v root inside (omega arith)

  sent_in_round : (v j : ℕ) → v < ranks → digits v ≤ j → (bcast_in ranks root bytes v (send_number_of_round v j)).kind ≡ Send bytes (ahead ranks (v + 2 ^ j) root) j
  unfolding bcast_in send_number_of_round
  sent_in_round zero j inside early = refl
  sent_in_round (suc w) j inside early =
      let e : digits (suc w) + (j - digits (suc w)) ≡ j = omega arith in
      rw e refl

  number_below : (v j : ℕ) → digits v ≤ j → v + 2 ^ j < ranks → send_number_of_round v j < bcast_count ranks v
  unfolding send_number_of_round bcast_count
  number_below zero j early below = in_time (cases_lt j (digits (ranks - 1)))
    where
      in_time : (j < digits (ranks - 1)) ⊎ (digits (ranks - 1) ≤ j) → j < digits (ranks - 1)
      in_time (inl lt) = lt
      in_time (inr le) = absurd (omega (arith, below_power_of_digits (ranks - 1) j (omega arith) le))
  number_below (suc w) j early below = in_time (cases_lt j (digits (ranks - 1 - suc w)))
    where
      in_time : (j < digits (ranks - 1 - suc w)) ⊎ (digits (ranks - 1 - suc w) ≤ j) → suc (j - digits (suc w)) < suc (digits (ranks - 1 - suc w) - digits (suc w))
      in_time (inl lt) = omega arith
      in_time (inr le) = absurd (omega (arith, below_power_of_digits (ranks - 1 - suc w) j (omega arith) le))

  received_first : (u v j : ℕ) → u ≡ v + 2 ^ j → u < ranks → v < 2 ^ j → (bcast_in ranks root bytes u 0).kind ≡ Recv bytes (Some (ahead ranks v root)) (Some j)
  unfolding bcast_in
  received_first zero v j e inside lt = absurd (omega (arith, pow_pos j))
  received_first (suc w) v j e inside lt =
      let top : digits (suc w) ≡ suc j = ap digits e ∙ top_digit v j (omega arith) lt in
      let round : suc j - 1 ≡ j = omega arith in
      let back_to : suc w - 2 ^ j ≡ v = omega (arith, e) in
      rw (top, round, back_to) refl

  nonroot_has_operations : (v : ℕ) → 0 < v → 0 < bcast_count ranks v
  unfolding bcast_count
  nonroot_has_operations zero h = absurd (omega arith)
  nonroot_has_operations (suc w) h = omega arith

  tree_cases : (x : OpId) → x.rank < ranks → (v i : ℕ) → back ranks x.rank root ≡ v → x.op ≡ i → i < bcast_count ranks v → ((h : TreeHop) × (tree_send h ≡ x)) ⊎ ((h : TreeHop) × (tree_recv h ≡ x))
  unfolding bcast_count send_number_of_round
  tree_cases x in_rank zero i p q lt =
      let here = ap (λ (v : ℕ). ahead ranks v root) (sym p) ∙ ahead_back ranks x.rank root in_rank (omega arith) in
      inl (record { from = 0; round = i; early = omega (arith, digits_few 0 0 (omega arith) (omega arith)); below = omega (arith, power_below_digits_at_most (ranks - 1) i (omega arith) lt) }, at_of_equal_numbers (ahead ranks 0 root) i x.rank x.op here (sym q))
  tree_cases x in_rank (suc w) zero p q lt =
      let inside : suc w < ranks = subst (λ (v : ℕ). v < ranks) p (back_below ranks x.rank root in_rank) in
      let here = ap (λ (v : ℕ). ahead ranks v root) (sym p) ∙ ahead_back ranks x.rank root in_rank (omega arith) in
      let some = digits_some (suc w) (omega arith) (omega arith) in
      let d = digits (suc w) - 1 in
      let low : 2 ^ d ≤ suc w = power_below_digits_at_most (suc w) d (omega arith) (omega arith) in
      let whole : suc d ≡ digits (suc w) = omega arith in
      let high : suc w < 2 ^ suc d = subst (λ (n : ℕ). suc w < 2 ^ n) (sym whole) (below_power_of_digits (suc w) (digits (suc w)) (omega arith) (omega arith)) in
      let twice = pow-suc 2 d in
      let early : digits (suc w - 2 ^ d) ≤ d = digits_few (suc w - 2 ^ d) d (omega arith) (omega (arith, twice, high)) in
      let sum : suc w - 2 ^ d + 2 ^ d ≡ suc w = omega (arith, low) in
      inr (record { from = suc w - 2 ^ d; round = d; early = early; below = omega (arith, sum, inside) }, at_of_equal_numbers (ahead ranks (suc w - 2 ^ d + 2 ^ d) root) 0 x.rank x.op (ap (λ (v : ℕ). ahead ranks v root) sum ∙ here) (sym q))
  tree_cases x in_rank (suc w) (suc k) p q lt =
      let inside : suc w < ranks = subst (λ (v : ℕ). v < ranks) p (back_below ranks x.rank root in_rank) in
      let here = ap (λ (v : ℕ). ahead ranks v root) (sym p) ∙ ahead_back ranks x.rank root in_rank (omega arith) in
      let low = power_below_digits_at_most (ranks - 1 - suc w) (digits (suc w) + k) (omega arith) (omega arith) in
      inl (record { from = suc w; round = digits (suc w) + k; early = omega arith; below = omega (arith, low, pow_pos (digits (suc w) + k)) }, at_of_equal_numbers (ahead ranks (suc w) root) (suc (digits (suc w) + k - digits (suc w))) x.rank x.op here (omega (arith, q)))

  -- the sender of a hop is a virtual rank below `ranks` and below 2^round
  hop_sender_is_rank : (h : TreeHop) → h.from < ranks
  hop_sender_is_rank h = let below = h.below in omega arith

  hop_sender_below_power_of_round : (h : TreeHop) → h.from < 2 ^ h.round
  hop_sender_below_power_of_round h = let below = h.below in below_power_of_digits h.from h.round (omega arith) h.early

  hop_of_sender_and_round_is_unique : (h k : TreeHop) → ahead ranks h.from root ≡ ahead ranks k.from root → h.round ≡ k.round → (tree_send h ≡ tree_send k) × (tree_recv h ≡ tree_recv k)
  hop_of_sender_and_round_is_unique h k source tag =
      let same : h.from ≡ k.from = sym (back_from_root_undoes_ahead h.from (hop_sender_is_rank h)) ∙ ap (λ (r : ℕ). back ranks r root) source ∙ back_from_root_undoes_ahead k.from (hop_sender_is_rank k) in (
        at_of_equal_numbers (ahead ranks h.from root) (send_number_of_round h.from h.round) (ahead ranks k.from root) (send_number_of_round k.from k.round) source (ap (λ (v : ℕ). send_number_of_round v h.round) same ∙ ap (λ (j : ℕ). send_number_of_round k.from j) tag),
        at_of_equal_numbers (ahead ranks (h.from + 2 ^ h.round) root) 0 (ahead ranks (k.from + 2 ^ k.round) root) 0 (ap (λ (v : ℕ). ahead ranks (v + 2 ^ h.round) root) same ∙ ap (λ (j : ℕ). ahead ranks (k.from + 2 ^ j) root) tag) refl,
      )

  pub tree_messages : AreMessages ranks (λ r. bcast_count ranks (back ranks r root)) (λ r i. bcast_in ranks root bytes (back ranks r root) i) TreeHop bytes tree_send tree_recv (λ h. h.round)
  tree_messages = record {
    send_there = λ h. (ahead_below ranks h.from root (hop_sender_is_rank h) (omega arith), rw (back_from_root_undoes_ahead h.from (hop_sender_is_rank h)) (number_below h.from h.round h.early h.below));
    recv_there = λ h. (ahead_below ranks (h.from + 2 ^ h.round) root h.below (omega arith), rw (back_from_root_undoes_ahead (h.from + 2 ^ h.round) h.below) (nonroot_has_operations (h.from + 2 ^ h.round) (omega (arith, pow_pos h.round))));
    sent = λ h. rw (back_from_root_undoes_ahead h.from (hop_sender_is_rank h)) (sent_in_round h.from h.round (hop_sender_is_rank h) h.early);
    received = λ h. rw (back_from_root_undoes_ahead (h.from + 2 ^ h.round) h.below) (received_first (h.from + 2 ^ h.round) h.from h.round refl h.below (hop_sender_below_power_of_round h));
    cases = λ x in_rank inside. inr (tree_cases x in_rank (back ranks x.rank root) x.op refl refl inside);
    apart = λ h k source target tag. hop_of_sender_and_round_is_unique h k source tag;
  }

  pub bcast_paired : AreChannelsPaired (made (Bcast root) ranks bytes)
  unfolding made
  bcast_paired = messages_paired ranks (λ r. bcast_count ranks (back ranks r root)) (λ r i. bcast_in ranks root bytes (back ranks r root) i) TreeHop bytes tree_send tree_recv (λ h. h.round) tree_messages
