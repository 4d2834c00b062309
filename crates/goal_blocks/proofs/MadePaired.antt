-- The messages of the allgather and the scan.
use Rattle.std.proofs.Common.{◌≡◌, ◌⊎◌, ℕ, zero, suc, ◌+◌, ◌-◌, ◌*◌, ◌/◌, ◌%◌, ◌<◌, ltb, Bool, true, false, Some, inl, inr, refl, ap, ◌∙◌, arith, add-one}
use Rattle.std.specs.Prelude.{if◌then◌else◌}
use Rattle.std.proofs.lemmas.Bool.Decides.{nat_tests}
use Rattle.goal_graph.specs.declared.action.OpId.{OpId}
use Rattle.goal_graph.specs.declared.plan.Kind.TheVariants.{Calc, Send, Recv}
use Rattle.goal_limits.specs.declared.collective.Collective.TheVariants.{Allgather, Scan}
use Rattle.goal_blocks.specs.Positions.{ahead, back, upward}
use Rattle.goal_blocks.specs.Made.{allgather_in}
use Rattle.goal_blocks.specs.MadeRooted.{scan_in, scan_count}
use Rattle.goal_blocks.specs.Generated.{made}
use Rattle.goal_blocks.specs.Messages.{AreMessages, AreChannelsPaired}
use Rattle.goal_blocks.proofs.MessagesPaired.{messages_paired}
use Rattle.goal_blocks.proofs.Ring.{back_ahead, ahead_back}
use Rattle.goal_blocks.proofs.RingAndTree.{ahead_below, back_below, upward_some}

abbrev pub at : ℕ → ℕ → OpId
at rank op = record { rank = rank; op = op }

pub at_of_equal_numbers : (a b c d : ℕ) → a ≡ c → b ≡ d → at a b ≡ at c d
at_of_equal_numbers a b c d p q = ap (λ (n : ℕ). at n b) p ∙ ap (λ (n : ℕ). at c n) q

-- the allgather: in each step but the last, each rank sends to the next one
module _ (ranks bytes : ℕ) where
  pub record RingHop : Type 0 where
    pub from : ℕ
    pub step : ℕ
    pub inside : from < ranks
    pub few : step < ranks - 1

  abbrev pub ring_send : RingHop → OpId
  ring_send h = at h.from (2 * h.step)

  abbrev pub ring_recv : RingHop → OpId
  ring_recv h = at (ahead ranks h.from 1) (2 * h.step + 1)

  ring_even : (r s i : ℕ) → i ≡ 2 * s → (allgather_in ranks bytes r i).kind ≡ Send bytes (ahead ranks r 1) s
  unfolding allgather_in
  ring_even r s i e =
      let half : i / 2 ≡ s = omega arith in
      let even : i % 2 ≡ 0 = omega arith in
      rw (even, half) refl

  ring_odd : (r s i : ℕ) → i ≡ 2 * s + 1 → (allgather_in ranks bytes r i).kind ≡ Recv bytes (Some (back ranks r 1)) (Some s)
  unfolding allgather_in
  ring_odd r s i e =
      let half : i / 2 ≡ s = omega arith in
      let odd : i % 2 ≡ 1 = omega arith in
      rw (odd, half) refl

  ring_cases : (x : OpId) → x.rank < ranks → x.op < 2 * (ranks - 1) → (d : ℕ) → x.op % 2 ≡ d → ((nanos : ℕ) × ((allgather_in ranks bytes x.rank x.op).kind ≡ Calc nanos)) ⊎ (((h : RingHop) × (ring_send h ≡ x)) ⊎ ((h : RingHop) × (ring_recv h ≡ x)))
  ring_cases x in_rank inside zero even =
      inr (inl (record { from = x.rank; step = x.op / 2; inside = in_rank; few = omega arith }, at_of_equal_numbers x.rank (2 * (x.op / 2)) x.rank x.op refl (omega arith)))
  ring_cases x in_rank inside (suc d) odd =
      inr (inr (record { from = back ranks x.rank 1; step = x.op / 2; inside = back_below ranks x.rank 1 in_rank; few = omega arith }, at_of_equal_numbers (ahead ranks (back ranks x.rank 1) 1) (2 * (x.op / 2) + 1) x.rank x.op (ahead_back ranks x.rank 1 in_rank (omega arith)) (omega arith)))

  pub ring_messages : AreMessages ranks (λ r. 2 * (ranks - 1)) (λ r i. allgather_in ranks bytes r i) RingHop bytes ring_send ring_recv (λ h. h.step)
  ring_messages = record {
    send_there = λ h. let few = h.few in (h.inside, omega arith);
    recv_there = λ h. let few = h.few in (ahead_below ranks h.from 1 h.inside (omega arith), omega arith);
    sent = λ h. ring_even h.from h.step (2 * h.step) refl;
    received = λ h. let few = h.few in ring_odd (ahead ranks h.from 1) h.step (2 * h.step + 1) refl ∙ ap (λ (r : ℕ). Recv bytes (Some r) (Some h.step)) (back_ahead ranks h.from 1 h.inside (omega arith));
    cases = λ x in_rank inside. ring_cases x in_rank inside (x.op % 2) refl;
    apart = λ h k source target tag. (
      at_of_equal_numbers h.from (2 * h.step) k.from (2 * k.step) source (ap (λ (s : ℕ). 2 * s) tag),
      at_of_equal_numbers (ahead ranks h.from 1) (2 * h.step + 1) (ahead ranks k.from 1) (2 * k.step + 1) target (ap (λ (s : ℕ). 2 * s + 1) tag),
    );
  }

  pub allgather_paired : AreChannelsPaired (made Allgather ranks bytes)
  unfolding made
  allgather_paired = messages_paired ranks (λ r. 2 * (ranks - 1)) (λ r i. allgather_in ranks bytes r i) RingHop bytes ring_send ring_recv (λ h. h.step) ring_messages

-- the scan: each rank but the last sends to the next one
module _ (ranks bytes : ℕ) where
  pub record LineHop : Type 0 where
    pub from : ℕ
    pub below : from + 1 < ranks

  abbrev pub line_send : LineHop → OpId
  line_send h = at h.from (2 * upward h.from)

  abbrev pub line_recv : LineHop → OpId
  line_recv h = at (h.from + 1) 0

  one_send_below_ranks : (n : ℕ) → n < ranks → ◌≡◌ {A = ℕ} (if ltb n ranks then 1 else 0) 1
  one_send_below_ranks n h =
      let t : ltb n ranks ≡ true = grind (arith, nat_tests) in
      rw t refl

  only_send_has_index_zero : (n b : ℕ) → b < (if ltb n ranks then 1 else 0) → (n < ranks) × (b ≡ 0)
  only_send_has_index_zero n b h = go (ltb n ranks) refl h
    where
      go : (t : Bool) → ltb n ranks ≡ t → b < (if t then 1 else 0) → (n < ranks) × (b ≡ 0)
      go true e lt = (grind (arith, nat_tests), omega arith)
      go false e lt = absurd (omega arith)

  line_send_there : (h : LineHop) → 2 * upward h.from < scan_count ranks h.from
  unfolding scan_count
  line_send_there h = let one = one_send_below_ranks (h.from + 1) h.below in omega (arith, one)

  line_recv_there : (h : LineHop) → 0 < scan_count ranks (h.from + 1)
  unfolding scan_count
  line_recv_there h = let one = upward_some (h.from + 1) (omega arith) in omega (arith, one)

  line_sent : (r : ℕ) → (scan_in bytes r (2 * upward r)).kind ≡ Send bytes (r + 1) 0
  unfolding scan_in
  line_sent zero = refl
  line_sent (suc w) =
      let two : 2 * upward (suc w) ≡ 2 = omega (arith, upward_some (suc w) (omega arith)) in
      rw two refl

  line_received : (r : ℕ) → (scan_in bytes (r + 1) 0).kind ≡ Recv bytes (Some r) (Some 0)
  unfolding scan_in
  line_received r = rw (add-one r) refl

  line_cases : (x : OpId) → x.rank < ranks → x.op < scan_count ranks x.rank → (r i : ℕ) → x.rank ≡ r → x.op ≡ i → ((nanos : ℕ) × ((scan_in bytes r i).kind ≡ Calc nanos)) ⊎ (((h : LineHop) × (line_send h ≡ at r i)) ⊎ ((h : LineHop) × (line_recv h ≡ at r i)))
  unfolding scan_in scan_count
  line_cases x in_rank inside zero i p q =
      let op : x.op < 2 * upward 0 + (if ltb (0 + 1) ranks then 1 else 0) = rw p at inside in
      let last = only_send_has_index_zero (0 + 1) i (omega (arith, q, op)) in
      inr (inl (record { from = 0; below = last.0 }, at_of_equal_numbers 0 (2 * upward 0) 0 i refl (omega (arith, last.1))))
  line_cases x in_rank inside (suc w) zero p q =
      inr (inr (record { from = w; below = omega arith }, at_of_equal_numbers (w + 1) 0 (suc w) 0 (add-one w) refl))
  line_cases x in_rank inside (suc w) (suc zero) p q = inl (0, refl)
  line_cases x in_rank inside (suc w) (suc (suc b)) p q =
      let one = upward_some (suc w) (omega arith) in
      let op : x.op < 2 * upward (suc w) + (if ltb (suc w + 1) ranks then 1 else 0) = rw p at inside in
      let last = only_send_has_index_zero (suc w + 1) b (omega (arith, q, op, one)) in
      inr (inl (record { from = suc w; below = last.0 }, at_of_equal_numbers (suc w) (2 * upward (suc w)) (suc w) (suc (suc b)) refl (omega (arith, last.1, one))))

  pub line_messages : AreMessages ranks (λ r. scan_count ranks r) (λ r i. scan_in bytes r i) LineHop bytes line_send line_recv (λ h. 0)
  line_messages = record {
    send_there = λ h. let below = h.below in (omega arith, line_send_there h);
    recv_there = λ h. let below = h.below in (omega arith, line_recv_there h);
    sent = λ h. line_sent h.from;
    received = λ h. line_received h.from;
    cases = λ x in_rank inside. line_cases x in_rank inside x.rank x.op refl refl;
    apart = λ h k source target tag. (
      at_of_equal_numbers h.from (2 * upward h.from) k.from (2 * upward k.from) source (ap (λ (r : ℕ). 2 * upward r) source),
      at_of_equal_numbers (h.from + 1) 0 (k.from + 1) 0 target refl,
    );
  }

  pub scan_paired : AreChannelsPaired (made Scan ranks bytes)
  unfolding made
  scan_paired = messages_paired ranks (λ r. scan_count ranks r) (λ r i. scan_in bytes r i) LineHop bytes line_send line_recv (λ h. 0) line_messages
