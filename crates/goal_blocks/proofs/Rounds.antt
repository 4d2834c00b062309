-- Schedules in rounds: in each round a rank sends what slot 0 has, and adds to it what it hears. Where the two ends of a message
-- know each other they are certified, if what is gained in the end is wanted.
use Rattle.std.proofs.Common.{⊎_elim, ℕ, zero, suc, ◌+◌, ◌*◌, ◌/◌, ◌%◌, ◌^◌, ◌<◌, ◌≤◌, ◌≡◌, ◌==◌, ◌⊎◌, inl, inr, Bool, true, List, [], ◌∷◌, map, length, All, Option, Some, if◌then◌else◌, refl, sym, ap, ◌∙◌, subst, arith, flat_map, ◌-◌}
use Rattle.std.specs.List.{range_with_len, sum_by}
use Rattle.std.proofs.Math.Nat.{pow-suc, pow-le-pow_right}
use Rattle.std.proofs.lemmas.Bool.{ne_eqb, cases_lt, cases_eq}
use Rattle.std.proofs.lemmas.List.Sums.{sum_by-cons, sum_by-append}
use Rattle.std.proofs.lemmas.Nat.{pow_pos}
use Rattle.goal_limits.specs.Limits.{slot_limit, weight_limit}
use Rattle.goal_graph.specs.declared.action.OpId.{OpId}
use Rattle.goal_graph.specs.declared.plan.Kind.TheVariants.{Calc, Recv}
use Rattle.goal_graph.specs.declared.plan.Note.TheVariants.{Moves, Adds}
use Rattle.goal_blocks.specs.Slots.{Adding}
use Rattle.goal_blocks.specs.Values.{Value, Store, merge}
use Rattle.goal_blocks.specs.Weight.{sum_below}
use Rattle.goal_blocks.specs.Certification.{NamesLowSlots, moved_count, IsSmall, IsCertified}
use Rattle.goal_blocks.specs.Right.{IsRightEverywhere}
use Rattle.goal_blocks.specs.Collectives.{single}
use Rattle.goal_blocks.specs.Entries.{Entry, slot, sending, receiving, summing, notes_of, made_by}
use Rattle.goal_blocks.specs.Made.{before_round, round_in}
use Rattle.goal_blocks.specs.Messages.{AreMessages}
use Rattle.goal_blocks.proofs.Orders.{Mem}
use Rattle.goal_blocks.proofs.EntryFacts.{slots_of_span}
use Rattle.goal_blocks.proofs.MadePaired.{at, at_of_equal_numbers}
use Rattle.goal_blocks.proofs.AllgatherCertified.{slots_of_single_slot}
use Rattle.goal_blocks.proofs.PlanBy.{range_of_next_length}
use Rattle.goal_blocks.proofs.Doubling.{doubling, doubling_zero, doubling_early, doubling_high}
use Rattle.goal_blocks.proofs.Slim.{All_one}
use Rattle.goal_blocks.proofs.Sizes.{sum_below_few, entries_small}
use Rattle.goal_blocks.proofs.Totals.{sum_range_few}
use Rattle.goal_blocks.proofs.Blueprint.{slots_moved_by, touches, writes, Precedes, now, after, IsThere, Origin, Final, IsBlueprint, IsBounded, blueprint_right, blueprint_certified}
use Rattle.goal_blocks.proofs.Sorted.{length_merge}

pub pow_le : (a b : ℕ) → a ≤ b → 2 ^ a ≤ 2 ^ b
pow_le a b l = pow-le-pow_right {n = 2} (omega arith) l

-- the three operations of a round
pub cases_triple : (i : ℕ) → ((k : ℕ) × (i ≡ 3 * k)) ⊎ (((k : ℕ) × (i ≡ 3 * k + 1)) ⊎ ((k : ℕ) × (i ≡ 3 * k + 2)))
cases_triple i =
    ⊎_elim (λ e. inl (i / 3, omega (arith, e))) (λ d. ⊎_elim (λ e. inr (inl (i / 3, omega (arith, e)))) (λ f. inr (inr (i / 3, omega (arith, d, f)))) (cases_eq (i % 3) 1)) (cases_eq (i % 3) 0)

module _ (ranks n bytes : ℕ) (to from : ℕ → ℕ → ℕ) (to_rank : (r k : ℕ) → r < ranks → k < n → to r k < ranks) (from_rank : (r k : ℕ) → r < ranks → k < n → from r k < ranks) (there_and_back : (r k : ℕ) → r < ranks → k < n → from (to r k) k ≡ r) (back_and_there : (r k : ℕ) → r < ranks → k < n → to (from r k) k ≡ r) where
  abbrev pub rounds_count : ℕ → ℕ
  rounds_count r = 3 * n

  abbrev pub rounds_entry : ℕ → ℕ → Entry
  rounds_entry r i = round_in bytes (to r (i / 3)) (from r (i / 3)) (i / 3) (i % 3)

  -- what slot 0 has after a number of rounds
  unfoldable pub gained : ℕ → ℕ → Value
  gained zero r = single r 0
  gained (suc k) r = merge (gained k r) (gained k (from r k))

  pub length-gained : (k r : ℕ) → length (gained k r) ≡ 2 ^ k
  unfolding gained
  length-gained zero r = omega arith
  length-gained (suc k) r =
      let a = length-gained k r in
      let b = length-gained k (from r k) in
      let both = length_merge (gained k r) (gained k (from r k)) in
      let twice = pow-suc 2 k in
      omega (arith, a, b, both, twice)

  pub rounds_finds : ℕ → ℕ → ℕ → Value
  rounds_finds r i zero = gained (i / 3) r
  rounds_finds r i (suc s) = gained (i / 3) (from r (i / 3))

  pub rounds_leaves : ℕ → ℕ → ℕ → Value
  rounds_leaves r i zero = gained (suc (i / 3)) r
  rounds_leaves r i (suc s) = gained (i / 3) (from r (i / 3))

  abbrev pub rounds_level : ℕ → ℕ → ℕ
  rounds_level r i = 2 * (i / 3) + (i % 3) / 2

  round_entry_sends : (r k : ℕ) → rounds_entry r (3 * k) ≡ sending bytes (to r k) k (before_round k) (slot 0)
  round_entry_sends r k =
      let third : 3 * k / 3 ≡ k = omega arith in
      let rest : 3 * k % 3 ≡ 0 = omega arith in
      rw (rest, third) refl

  round_entry_receives : (r k : ℕ) → rounds_entry r (3 * k + 1) ≡ receiving bytes (from r k) k (slot (k + 1))
  round_entry_receives r k =
      let third : (3 * k + 1) / 3 ≡ k = omega arith in
      let rest : (3 * k + 1) % 3 ≡ 1 = omega arith in
      rw (rest, third) refl

  adds_up : (r k : ℕ) → rounds_entry r (3 * k + 2) ≡ summing ((3 * k) ∷ (3 * k + 1) ∷ []) (k + 1) 0
  adds_up r k =
      let third : (3 * k + 2) / 3 ≡ k = omega arith in
      let rest : (3 * k + 2) % 3 ≡ 2 = omega arith in
      rw (rest, third) refl

  -- an entry by the number of its operation
  as_send : (r i k : ℕ) → i ≡ 3 * k → rounds_entry r i ≡ sending bytes (to r k) k (before_round k) (slot 0)
  as_send r i k e = ap (λ (m : ℕ). rounds_entry r m) e ∙ round_entry_sends r k

  as_receive : (r i k : ℕ) → i ≡ 3 * k + 1 → rounds_entry r i ≡ receiving bytes (from r k) k (slot (k + 1))
  as_receive r i k e = ap (λ (m : ℕ). rounds_entry r m) e ∙ round_entry_receives r k

  as_sum : (r i k : ℕ) → i ≡ 3 * k + 2 → rounds_entry r i ≡ summing ((3 * k) ∷ (3 * k + 1) ∷ []) (k + 1) 0
  as_sum r i k e = ap (λ (m : ℕ). rounds_entry r m) e ∙ adds_up r k

  -- the messages: from a rank, in a round
  pub record Turn : Type 0 where
    pub sender : ℕ
    pub round : ℕ
    pub inside : sender < ranks
    pub early : round < n

  abbrev pub turn_send : Turn → OpId
  turn_send t = at t.sender (3 * t.round)

  abbrev pub turn_recv : Turn → OpId
  turn_recv t = at (to t.sender t.round) (3 * t.round + 1)

  turn_cases : (x : OpId) → x.rank < ranks → x.op < 3 * n → ((nanos : ℕ) × ((rounds_entry x.rank x.op).kind ≡ Calc nanos)) ⊎ (((t : Turn) × (turn_send t ≡ x)) ⊎ ((t : Turn) × (turn_recv t ≡ x)))
  turn_cases x in_rank inside =
      ⊎_elim (λ p. let f = p.1 in inr (inl (record { sender = x.rank; round = p.0; inside = in_rank; early = omega (arith, inside, f) }, at_of_equal_numbers x.rank (3 * p.0) x.rank x.op refl (sym f)))) (λ c. ⊎_elim (λ p. let f = p.1 in let early : p.0 < n = omega (arith, inside, f) in inr (inr (record { sender = from x.rank p.0; round = p.0; inside = from_rank x.rank p.0 in_rank early; early = early }, at_of_equal_numbers (to (from x.rank p.0) p.0) (3 * p.0 + 1) x.rank x.op (back_and_there x.rank p.0 in_rank early) (sym f)))) (λ p. inl (0, ap (λ (y : Entry). y.kind) (as_sum x.rank x.op p.0 p.1))) c) (cases_triple x.op)

  turn_messages : AreMessages ranks rounds_count rounds_entry Turn bytes turn_send turn_recv (λ t. t.round)
  turn_messages = record {
    send_there = λ t. let early = t.early in (t.inside, omega (arith, early));
    recv_there = λ t. let early = t.early in (to_rank t.sender t.round t.inside t.early, omega (arith, early));
    sent = λ t. ap (λ (y : Entry). y.kind) (round_entry_sends t.sender t.round);
    received = λ t. ap (λ (y : Entry). y.kind) (round_entry_receives (to t.sender t.round) t.round) ∙ ap (λ (r : ℕ). Recv bytes (Some r) (Some t.round)) (there_and_back t.sender t.round t.inside t.early);
    cases = λ x in_rank inside. turn_cases x in_rank inside;
    apart = λ t u source target tag. (
      at_of_equal_numbers t.sender (3 * t.round) u.sender (3 * u.round) source (ap (λ (k : ℕ). 3 * k) tag),
      at_of_equal_numbers (to t.sender t.round) (3 * t.round + 1) (to u.sender u.round) (3 * u.round + 1) target (ap (λ (k : ℕ). 3 * k + 1) tag),
    );
  }

  -- what an operation requires
  rounds_needs_cases : (r i k : ℕ) → Mem k (rounds_entry r i).needs → ((t : ℕ) × (i ≡ 3 * suc t) × (k ≡ 3 * t + 2)) ⊎ ((t : ℕ) × (i ≡ 3 * t + 2) × ((k ≡ 3 * t) ⊎ (k ≡ 3 * t + 1)))
  rounds_needs_cases r i k m = ⊎_elim (λ p. sent p.0 p.1 (subst (λ (x : Entry). Mem k x.needs) (as_send r i p.0 p.1) m)) (λ c. ⊎_elim (λ p. absurd (subst (λ (x : Entry). Mem k x.needs) (as_receive r i p.0 p.1) m)) (λ p. inr (p.0, p.1, two p.0 (subst (λ (x : Entry). Mem k x.needs) (as_sum r i p.0 p.1) m))) c) (cases_triple i)
    where
      sent : (t : ℕ) → i ≡ 3 * t → Mem k (before_round t) → ((t : ℕ) × (i ≡ 3 * suc t) × (k ≡ 3 * t + 2)) ⊎ ((t : ℕ) × (i ≡ 3 * t + 2) × ((k ≡ 3 * t) ⊎ (k ≡ 3 * t + 1)))
      sent zero e x = absurd x
      sent (suc t) e (inr x) = absurd x
      sent (suc t) e (inl f) = inl (t, e, sym f)

      two : (t : ℕ) → Mem k ((3 * t) ∷ (3 * t + 1) ∷ []) → (k ≡ 3 * t) ⊎ (k ≡ 3 * t + 1)
      two t (inl f) = inl (sym f)
      two t (inr (inl f)) = inr (sym f)
      two t (inr (inr x)) = absurd x

  lower : (r i k : ℕ) → IsThere ranks rounds_count rounds_entry r i → Mem k (rounds_entry r i).needs → (k < 3 * n) × (rounds_level r k < rounds_level r i)
  lower r i k there m =
      let inside = there.1 in
      ⊎_elim (λ p. let f = p.1 in let g = p.2 in (omega (arith, inside, f, g), omega (arith, f, g))) (λ p. let f = p.1 in ⊎_elim (λ g. (omega (arith, inside, f, g), omega (arith, f, g))) (λ g. (omega (arith, inside, f, g), omega (arith, f, g))) p.2) (rounds_needs_cases r i k m)

  -- which operations of a round precede which
  send_precedes_sum : (r t : ℕ) → Precedes (rounds_entry r) (3 * t) (3 * t + 2)
  send_precedes_sum r t = now (subst (λ (x : Entry). Mem (3 * t) x.needs) (sym (adds_up r t)) (inl refl))

  receive_precedes_own_sum : (r t : ℕ) → Precedes (rounds_entry r) (3 * t + 1) (3 * t + 2)
  receive_precedes_own_sum r t = now (subst (λ (x : Entry). Mem (3 * t + 1) x.needs) (sym (adds_up r t)) (inr (inl refl)))

  next_send_needs_sum : (r t : ℕ) → Mem (3 * t + 2) (rounds_entry r (3 * suc t)).needs
  next_send_needs_sum r t = subst (λ (x : Entry). Mem (3 * t + 2) x.needs) (sym (round_entry_sends r (suc t))) (inl refl)

  sum_needs_send : (r t : ℕ) → Mem (3 * t) (rounds_entry r (3 * t + 2)).needs
  sum_needs_send r t = subst (λ (x : Entry). Mem (3 * t) x.needs) (sym (adds_up r t)) (inl refl)

  -- what comes before the sum of a round comes before all later ones
  precedes_later_sums : (r j t u : ℕ) → t ≤ u → Precedes (rounds_entry r) j (3 * t + 2) → Precedes (rounds_entry r) j (3 * u + 2)
  precedes_later_sums r j t zero l p =
      let e : t ≡ 0 = omega (arith, l) in subst (λ (m : ℕ). Precedes (rounds_entry r) j (3 * m + 2)) e p
  precedes_later_sums r j t (suc u) l p =
      ⊎_elim (λ e. subst (λ (m : ℕ). Precedes (rounds_entry r) j (3 * m + 2)) e p) (λ d. after (3 * suc u) (sum_needs_send r (suc u)) (after (3 * u + 2) (next_send_needs_sum r u) (precedes_later_sums r j t u (omega (arith, l, d)) p))) (cases_eq t (suc u))

  sum_precedes_later_sum : (r t u : ℕ) → t < u → Precedes (rounds_entry r) (3 * t + 2) (3 * u + 2)
  sum_precedes_later_sum r t u l =
      precedes_later_sums r (3 * t + 2) (suc t) u (omega (arith, l)) (after (3 * suc t) (sum_needs_send r (suc t)) (now (next_send_needs_sum r t)))

  sum_precedes_later_send : (r t u : ℕ) → t < u → Precedes (rounds_entry r) (3 * t + 2) (3 * u)
  sum_precedes_later_send r t zero l = absurd (omega (arith, l))
  sum_precedes_later_send r t (suc u) l =
      ⊎_elim (λ e. now (subst (λ (m : ℕ). Mem (3 * m + 2) (rounds_entry r (3 * suc u)).needs) (sym e) (next_send_needs_sum r u))) (λ d. after (3 * u + 2) (next_send_needs_sum r u) (sum_precedes_later_sum r t u (omega (arith, l, d)))) (cases_eq t u)

  send_precedes_later_sums : (r t u : ℕ) → t ≤ u → Precedes (rounds_entry r) (3 * t) (3 * u + 2)
  send_precedes_later_sums r t u l = precedes_later_sums r (3 * t) t u l (send_precedes_sum r t)

  -- what is written: by a receive the slot of its round, by a sum slot 0
  pub rounds_writes_cases : (r i s : ℕ) → Mem s (writes (rounds_entry r i)) → ((k : ℕ) × (i ≡ 3 * k + 1) × (k + 1 ≡ s)) ⊎ ((k : ℕ) × (i ≡ 3 * k + 2) × (0 ≡ s))
  rounds_writes_cases r i s m = ⊎_elim (λ p. absurd (subst (λ (x : Entry). Mem s (writes x)) (as_send r i p.0 p.1) m)) (λ c. ⊎_elim (λ p. inl (p.0, p.1, at_slot (p.0 + 1) (subst (λ (x : Entry). Mem s (writes x)) (as_receive r i p.0 p.1) m))) (λ p. inr (p.0, p.1, one (subst (λ (x : Entry). Mem s (writes x)) (as_sum r i p.0 p.1) m))) c) (cases_triple i)
    where
      at_slot : (j : ℕ) → Mem s (flat_map slots_of_span (slot j)) → j ≡ s
      at_slot j x = ⊎_elim (λ e. e) (λ none. absurd none) (subst (λ (ks : List ℕ). Mem s ks) (slots_of_single_slot j) x)

      one : Mem s (0 ∷ []) → 0 ≡ s
      one (inl e) = e
      one (inr x) = absurd x

  pub receive_writes : (r k : ℕ) → Mem (k + 1) (writes (rounds_entry r (3 * k + 1)))
  receive_writes r k =
      subst (λ (x : Entry). Mem (k + 1) (writes x)) (sym (round_entry_receives r k)) (subst (λ (ks : List ℕ). Mem (k + 1) ks) (sym (slots_of_single_slot (k + 1))) (inl refl))

  sum_writes : (r k : ℕ) → Mem 0 (writes (rounds_entry r (3 * k + 2)))
  sum_writes r k = subst (λ (x : Entry). Mem 0 (writes x)) (sym (adds_up r k)) (inl refl)

  -- what is touched: by a send slot 0, by a receive the slot of its round, by a sum both
  rounds_touches_cases : (r i s : ℕ) → Mem s (touches (rounds_entry r i)) → ((k : ℕ) × (i ≡ 3 * k) × (0 ≡ s)) ⊎ (((k : ℕ) × (i ≡ 3 * k + 1) × (k + 1 ≡ s)) ⊎ ((k : ℕ) × (i ≡ 3 * k + 2) × ((k + 1 ≡ s) ⊎ (0 ≡ s))))
  rounds_touches_cases r i s m = ⊎_elim (λ p. inl (p.0, p.1, at_slot 0 (subst (λ (x : Entry). Mem s (touches x)) (as_send r i p.0 p.1) m))) (λ c. inr (⊎_elim (λ p. inl (p.0, p.1, at_slot (p.0 + 1) (subst (λ (x : Entry). Mem s (touches x)) (as_receive r i p.0 p.1) m))) (λ p. inr (p.0, p.1, two p.0 (subst (λ (x : Entry). Mem s (touches x)) (as_sum r i p.0 p.1) m))) c)) (cases_triple i)
    where
      at_slot : (j : ℕ) → Mem s (flat_map slots_of_span (slot j)) → j ≡ s
      at_slot j x = ⊎_elim (λ e. e) (λ none. absurd none) (subst (λ (ks : List ℕ). Mem s ks) (slots_of_single_slot j) x)

      two : (k : ℕ) → Mem s ((k + 1) ∷ 0 ∷ []) → (k + 1 ≡ s) ⊎ (0 ≡ s)
      two k (inl e) = inl e
      two k (inr (inl e)) = inr e
      two k (inr (inr x)) = absurd x

  -- the order of operations whose numbers are given by equations
  precedes_at_equal_numbers : (r i j a b : ℕ) → i ≡ a → j ≡ b → Precedes (rounds_entry r) a b → Precedes (rounds_entry r) i j
  precedes_at_equal_numbers r i j a b e f p =
      subst (λ (m : ℕ). Precedes (rounds_entry r) m j) (sym e) (subst (λ (m : ℕ). Precedes (rounds_entry r) a m) (sym f) p)

  race : (r i j s : ℕ) → (i ≡ j → ⊥) → Mem s (touches (rounds_entry r i)) → Mem s (writes (rounds_entry r j)) → Precedes (rounds_entry r) i j ⊎ Precedes (rounds_entry r) j i
  race r i j s differ t w = go (rounds_touches_cases r i s t) (rounds_writes_cases r j s w)
    where
      sums : (k u : ℕ) → i ≡ 3 * k + 2 → j ≡ 3 * u + 2 → Precedes (rounds_entry r) i j ⊎ Precedes (rounds_entry r) j i
      sums k u e f =
          ⊎_elim (λ l. inl (precedes_at_equal_numbers r i j (3 * k + 2) (3 * u + 2) e f (sum_precedes_later_sum r k u l))) (λ g. inr (precedes_at_equal_numbers r j i (3 * u + 2) (3 * k + 2) f e (sum_precedes_later_sum r u k (let d : k ≡ u → ⊥ = λ same. differ (e ∙ ap (λ (m : ℕ). 3 * m + 2) same ∙ sym f) in ⊎_elim (λ same. absurd (d same)) (λ other. omega (arith, g, other)) (cases_eq k u))))) (cases_lt k u)

      go : ((k : ℕ) × (i ≡ 3 * k) × (0 ≡ s)) ⊎ (((k : ℕ) × (i ≡ 3 * k + 1) × (k + 1 ≡ s)) ⊎ ((k : ℕ) × (i ≡ 3 * k + 2) × ((k + 1 ≡ s) ⊎ (0 ≡ s)))) → ((k : ℕ) × (j ≡ 3 * k + 1) × (k + 1 ≡ s)) ⊎ ((k : ℕ) × (j ≡ 3 * k + 2) × (0 ≡ s)) → Precedes (rounds_entry r) i j ⊎ Precedes (rounds_entry r) j i
      go (inl (k, e, f)) (inl (u, g, h)) = absurd (omega (arith, f, h))
      go (inl (k, e, f)) (inr (u, g, h)) =
          ⊎_elim (λ l. inr (precedes_at_equal_numbers r j i (3 * u + 2) (3 * k) g e (sum_precedes_later_send r u k l))) (λ l. inl (precedes_at_equal_numbers r i j (3 * k) (3 * u + 2) e g (send_precedes_later_sums r k u l))) (cases_lt u k)
      go (inr (inl (k, e, f))) (inl (u, g, h)) =
          absurd (differ (let same : k ≡ u = omega (arith, f, h) in e ∙ ap (λ (m : ℕ). 3 * m + 1) same ∙ sym g))
      go (inr (inl (k, e, f))) (inr (u, g, h)) = absurd (omega (arith, f, h))
      go (inr (inr (k, e, inl f))) (inl (u, g, h)) =
          inr (precedes_at_equal_numbers r j i (3 * k + 1) (3 * k + 2) (let same : u ≡ k = omega (arith, f, h) in g ∙ ap (λ (m : ℕ). 3 * m + 1) same) e (receive_precedes_own_sum r k))
      go (inr (inr (k, e, inl f))) (inr (u, g, h)) = absurd (omega (arith, f, h))
      go (inr (inr (k, e, inr f))) (inl (u, g, h)) = absurd (omega (arith, f, h))
      go (inr (inr (k, e, inr f))) (inr (u, g, h)) = sums k u e g

  finds_zero : (r i k : ℕ) → i / 3 ≡ k → rounds_finds r i 0 ≡ gained k r
  unfolding rounds_finds
  finds_zero r i k e = ap (λ (m : ℕ). gained m r) e

  finds_other : (r i k s : ℕ) → i / 3 ≡ k → 0 < s → rounds_finds r i s ≡ gained k (from r k)
  unfolding rounds_finds
  finds_other r i k zero e l = absurd (omega (arith, l))
  finds_other r i k (suc s) e l = ap (λ (m : ℕ). gained m (from r m)) e

  leaves_zero : (r i k : ℕ) → i / 3 ≡ k → rounds_leaves r i 0 ≡ gained (suc k) r
  unfolding rounds_leaves
  leaves_zero r i k e = ap (λ (m : ℕ). gained (suc m) r) e

  pub leaves_other : (r i k s : ℕ) → i / 3 ≡ k → 0 < s → rounds_leaves r i s ≡ gained k (from r k)
  unfolding rounds_leaves
  leaves_other r i k zero e l = absurd (omega (arith, l))
  leaves_other r i k (suc s) e l = ap (λ (m : ℕ). gained m (from r m)) e

  module _ (first : Store) (wanted : ℕ → ℕ → Value → Bool) (first_is : (r : ℕ) → r < ranks → first r 0 ≡ single r 0) (end_is : (r : ℕ) → r < ranks → wanted r 0 (gained n r) ≡ true) (others : (r s : ℕ) → r < ranks → Final ranks rounds_count rounds_entry first wanted rounds_finds rounds_leaves r (suc s)) where
    -- slot 0 before a round: as at first, or as the sum of the round before leaves it
    zero_origin : (r i k : ℕ) → r < ranks → k < n → i / 3 ≡ k → ((u : ℕ) → k ≤ u → (3 * u + 2 ≡ i) ⊎ Precedes (rounds_entry r) i (3 * u + 2)) → ((u : ℕ) → u < k → Precedes (rounds_entry r) (3 * u + 2) i) → Origin ranks rounds_count rounds_entry first wanted rounds_finds rounds_leaves r i 0
    unfolding gained
    zero_origin r i zero inside l e later earlier = inl (first_is r inside ∙ sym (finds_zero r i 0 e), λ j m w. writer j (rounds_writes_cases r j 0 w))
      where
        writer : (j : ℕ) → ((k : ℕ) × (j ≡ 3 * k + 1) × (k + 1 ≡ 0)) ⊎ ((k : ℕ) × (j ≡ 3 * k + 2) × (◌≡◌ {A = ℕ} 0 0)) → (j ≡ i) ⊎ Precedes (rounds_entry r) i j
        writer j (inl (k, f, g)) = absurd (omega (arith, g))
        writer j (inr (k, f, g)) =
            ⊎_elim (λ same. inl (f ∙ same)) (λ p. inr (precedes_at_equal_numbers r i j i (3 * k + 2) refl f p)) (later k (omega arith))
    zero_origin r i (suc t) inside l e later earlier =
        inr (3 * t + 2, omega (arith, l), sum_writes r t, earlier t (omega arith), leaves_zero r (3 * t + 2) t (omega arith) ∙ sym (finds_zero r i (suc t) e), λ j m w. writer j (rounds_writes_cases r j 0 w))
      where
        writer : (j : ℕ) → ((k : ℕ) × (j ≡ 3 * k + 1) × (k + 1 ≡ 0)) ⊎ ((k : ℕ) × (j ≡ 3 * k + 2) × (◌≡◌ {A = ℕ} 0 0)) → ((j ≡ i) ⊎ (j ≡ 3 * t + 2)) ⊎ (Precedes (rounds_entry r) j (3 * t + 2) ⊎ Precedes (rounds_entry r) i j)
        writer j (inl (k, f, g)) = absurd (omega (arith, g))
        writer j (inr (k, f, g)) =
            ⊎_elim (λ less. inr (inl (precedes_at_equal_numbers r j (3 * t + 2) (3 * k + 2) (3 * t + 2) f refl (sum_precedes_later_sum r k t less)))) (λ more. ⊎_elim (λ same. inl (inr (f ∙ ap (λ (m : ℕ). 3 * m + 2) same))) (λ other. ⊎_elim (λ same. inl (inl (f ∙ same))) (λ p. inr (inr (precedes_at_equal_numbers r i j i (3 * k + 2) refl f p))) (later k (omega (arith, more, other)))) (cases_eq k t)) (cases_lt k t)

    source : (r i s : ℕ) → IsThere ranks rounds_count rounds_entry r i → ((room : ℕ) (f t : Option ℕ) → (rounds_entry r i).kind ≡ Recv room f t → ⊥) → Mem s (touches (rounds_entry r i)) → Origin ranks rounds_count rounds_entry first wanted rounds_finds rounds_leaves r i s
    source r i s there not_receive m = go (rounds_touches_cases r i s m)
      where
        at_zero : 0 ≡ s → Origin ranks rounds_count rounds_entry first wanted rounds_finds rounds_leaves r i 0 → Origin ranks rounds_count rounds_entry first wanted rounds_finds rounds_leaves r i s
        at_zero e o =
            subst (λ (k : ℕ). Origin ranks rounds_count rounds_entry first wanted rounds_finds rounds_leaves r i k) e o

        go : ((k : ℕ) × (i ≡ 3 * k) × (0 ≡ s)) ⊎ (((k : ℕ) × (i ≡ 3 * k + 1) × (k + 1 ≡ s)) ⊎ ((k : ℕ) × (i ≡ 3 * k + 2) × ((k + 1 ≡ s) ⊎ (0 ≡ s)))) → Origin ranks rounds_count rounds_entry first wanted rounds_finds rounds_leaves r i s
        go (inl (k, e, f)) =
            let inside = there.1 in
            at_zero f (zero_origin r i k there.0 (omega (arith, inside, e)) (omega (arith, e)) (λ u l. inr (precedes_at_equal_numbers r i (3 * u + 2) (3 * k) (3 * u + 2) e refl (send_precedes_later_sums r k u l))) (λ u l. precedes_at_equal_numbers r (3 * u + 2) i (3 * u + 2) (3 * k) refl e (sum_precedes_later_send r u k l)))
        go (inr (inl (k, e, f))) = absurd (not_receive _ _ _ (ap (λ (x : Entry). x.kind) (as_receive r i k e)))
        go (inr (inr (k, e, inr f))) =
            let inside = there.1 in
            at_zero f (zero_origin r i k there.0 (omega (arith, inside, e)) (omega (arith, e)) (λ u l. ⊎_elim (λ same. inl (ap (λ (m : ℕ). 3 * m + 2) same ∙ sym e)) (λ d. inr (precedes_at_equal_numbers r i (3 * u + 2) (3 * k + 2) (3 * u + 2) e refl (sum_precedes_later_sum r k u (omega (arith, l, d))))) (cases_eq u k)) (λ u l. precedes_at_equal_numbers r (3 * u + 2) i (3 * u + 2) (3 * k + 2) refl e (sum_precedes_later_sum r u k l)))
        go (inr (inr (k, e, inl f))) =
            let inside = there.1 in
            let high : 0 < s = omega (arith, f) in
            inr (3 * k + 1, omega (arith, inside, e), subst (λ (m : ℕ). Mem m (writes (rounds_entry r (3 * k + 1)))) f (receive_writes r k), precedes_at_equal_numbers r (3 * k + 1) i (3 * k + 1) (3 * k + 2) refl e (receive_precedes_own_sum r k), leaves_other r (3 * k + 1) k s (omega arith) high ∙ sym (finds_other r i k s (omega (arith, e)) high), λ j l w. inl (inr (writer j (rounds_writes_cases r j s w))))
          where
            writer : (j : ℕ) → ((u : ℕ) × (j ≡ 3 * u + 1) × (u + 1 ≡ s)) ⊎ ((u : ℕ) × (j ≡ 3 * u + 2) × (0 ≡ s)) → j ≡ 3 * k + 1
            writer j (inl (u, g, h)) = omega (arith, f, g, h)
            writer j (inr (u, g, h)) = absurd (omega (arith, f, h))

    summed : (r i nanos : ℕ) → (rounds_entry r i).kind ≡ Calc nanos → (a : Adding) × ((rounds_entry r i).adds ≡ a ∷ []) × (merge (rounds_finds r i a.to) (rounds_finds r i a.from) ≡ rounds_leaves r i a.to)
    unfolding gained
    summed r i nanos c = go (cases_triple i)
      where
        go : ((k : ℕ) × (i ≡ 3 * k)) ⊎ (((k : ℕ) × (i ≡ 3 * k + 1)) ⊎ ((k : ℕ) × (i ≡ 3 * k + 2))) → (a : Adding) × ((rounds_entry r i).adds ≡ a ∷ []) × (merge (rounds_finds r i a.to) (rounds_finds r i a.from) ≡ rounds_leaves r i a.to)
        go (inl (k, e)) = absurd (let f = sym (ap (λ (x : Entry). x.kind) (as_send r i k e)) ∙ c in cc f)
        go (inr (inl (k, e))) = absurd (let f = sym (ap (λ (x : Entry). x.kind) (as_receive r i k e)) ∙ c in cc f)
        go (inr (inr (k, e))) =
            let third : i / 3 ≡ k = omega (arith, e) in
            (record { from = k + 1; to = 0 }, ap (λ (x : Entry). x.adds) (as_sum r i k e), (let to_is = finds_zero r i k third in let from_is = finds_other r i k (k + 1) third (omega arith) in λ j. merge (to_is j) (from_is j)) ∙ sym (leaves_zero r i k third))

    kept : (t : Turn) → map (rounds_finds t.sender (3 * t.round)) (slots_moved_by (rounds_entry t.sender (3 * t.round))) ≡ map (rounds_leaves (to t.sender t.round) (3 * t.round + 1)) (slots_moved_by (rounds_entry (to t.sender t.round) (3 * t.round + 1)))
    kept t =
        let r = to t.sender t.round in
        let k = t.round in
        ap (λ (ks : List ℕ). map (rounds_finds t.sender (3 * k)) ks) (ap slots_moved_by (round_entry_sends t.sender k) ∙ slots_of_single_slot 0) ∙ ap (λ (v : Value). v ∷ []) (finds_zero t.sender (3 * k) k (omega arith) ∙ ap (λ (q : ℕ). gained k q) (sym (there_and_back t.sender k t.inside t.early)) ∙ sym (leaves_other r (3 * k + 1) k (k + 1) (omega arith) (omega arith))) ∙ sym (ap (λ (ks : List ℕ). map (rounds_leaves r (3 * k + 1)) ks) (ap slots_moved_by (round_entry_receives r k) ∙ slots_of_single_slot (k + 1)))

    final : (m : ℕ) → n ≡ m → (r s : ℕ) → r < ranks → Final ranks rounds_count rounds_entry first wanted rounds_finds rounds_leaves r s
    unfolding gained
    final m e r (suc s) inside = others r s inside
    final zero e r zero inside =
        inr (inl (λ j l w. omega (arith, l, e), subst (λ (v : Value). wanted r 0 v ≡ true) (sym (first_is r inside ∙ sym (ap (λ (k : ℕ). gained k r) e))) (end_is r inside)))
    final (suc t) e r zero inside =
        inr (inr (3 * t + 2, omega (arith, e), sum_writes r t, λ j l w. writer j l (rounds_writes_cases r j 0 w), subst (λ (v : Value). wanted r 0 v ≡ true) (ap (λ (k : ℕ). gained k r) e ∙ sym (leaves_zero r (3 * t + 2) t (omega arith))) (end_is r inside)))
      where
        writer : (j : ℕ) → j < 3 * n → ((k : ℕ) × (j ≡ 3 * k + 1) × (k + 1 ≡ 0)) ⊎ ((k : ℕ) × (j ≡ 3 * k + 2) × (◌≡◌ {A = ℕ} 0 0)) → (j ≡ 3 * t + 2) ⊎ Precedes (rounds_entry r) j (3 * t + 2)
        writer j l (inl (k, f, g)) = absurd (omega (arith, g))
        writer j l (inr (k, f, g)) =
            ⊎_elim (λ less. inr (precedes_at_equal_numbers r j (3 * t + 2) (3 * k + 2) (3 * t + 2) f refl (sum_precedes_later_sum r k t less))) (λ more. inl (omega (arith, l, e, f, more))) (cases_lt k t)

    pub rounds_blueprint : IsBlueprint ranks rounds_count rounds_entry first wanted rounds_finds rounds_leaves Turn bytes turn_send turn_recv (λ t. t.round) rounds_level
    rounds_blueprint = record {
      messages = turn_messages;
      lower = lower;
      same_level = λ t. omega arith;
      race = λ r i j k inside l m differ t w. race r i j k differ t w;
      source = source;
      summed = λ r i nanos there k. summed r i nanos k;
      kept = kept;
      final = λ r k inside. final n refl r k inside;
    }

    -- whatever the number of ranks
    pub rounds_right : IsRightEverywhere (made_by ranks rounds_count rounds_entry) first wanted
    rounds_right =
        blueprint_right ranks rounds_count rounds_entry first wanted rounds_finds rounds_leaves Turn bytes turn_send turn_recv (λ t. t.round) rounds_level rounds_blueprint

    -- bounds: in slot 0 what is gained in the end, in the slot of a round, and in its message, what is gained before it
    abbrev cap : ℕ → ℕ → ℕ
    cap r k = doubling n k

    load : ℕ → ℕ → ℕ
    load r i = if i % 3 == 0 then 2 ^ (i / 3) else 0

    load_send : (r k : ℕ) → load r (3 * k) ≡ 2 ^ k
    unfolding load
    load_send r k =
        let third : 3 * k / 3 ≡ k = omega arith in
        let rest : 3 * k % 3 ≡ 0 = omega arith in
        rw (rest, third) refl

    load_other : (r i : ℕ) → (i % 3 ≡ 0 → ⊥) → load r i ≡ 0
    unfolding load
    load_other r i d = rw (ne_eqb (i % 3) 0 d) refl

    sum_more : (f : ℕ → ℕ) (m : ℕ) → sum_by f (range_with_len 0 (m + 1)) ≡ sum_by f (range_with_len 0 m) + f m
    sum_more f m =
        ap (λ (ks : List ℕ). sum_by f ks) (range_of_next_length m) ∙ sum_by-append f (range_with_len 0 m) (m ∷ []) ∙ ap (λ (k : ℕ). sum_by f (range_with_len 0 m) + k) (sum_by-cons f m [] ∙ (omega arith))

    loads_few : (r m : ℕ) → sum_by (load r) (range_with_len 0 (3 * m)) + 1 ≤ 2 ^ m
    loads_few r zero = omega arith
    loads_few r (suc m) =
        let three : 3 * suc m ≡ 3 * m + 1 + 1 + 1 = omega arith in
        let a = sum_more (load r) (3 * m) in
        let b = sum_more (load r) (3 * m + 1) in
        let c = sum_more (load r) (3 * m + 1 + 1) in
        let la = load_send r m in
        let lb = load_other r (3 * m + 1) (λ e. omega (arith, e)) in
        let lc = load_other r (3 * m + 1 + 1) (λ e. omega (arith, e)) in
        let rest = loads_few r m in
        let twice = pow-suc 2 m in
        subst (λ (k : ℕ). sum_by (load r) (range_with_len 0 k) + 1 ≤ 2 ^ suc m) (sym three) (omega (arith, a, b, c, la, lb, lc, rest, twice))

    module _ (first_few : (r : ℕ) → length (first r 0) ≤ 1) (first_none : (r k : ℕ) → first r (suc k) ≡ []) (few : ranks ≤ 2048) (few_gained : 2 ^ n ≤ 2048) (few_rounds : n ≤ 11) where
      first_cap : (r k : ℕ) → length (first r k) ≤ cap r k
      first_cap r zero =
          let one = first_few r in let some = pow_pos n in let room = doubling_zero n in omega (arith, one, some, room)
      first_cap r (suc k) = subst (λ (v : Value). length v ≤ cap r (suc k)) (sym (first_none r k)) (omega arith)

      leaves_cap : (r i s : ℕ) → IsThere ranks rounds_count rounds_entry r i → Mem s (writes (rounds_entry r i)) → length (rounds_leaves r i s) ≤ cap r s
      leaves_cap r i s there w = go (rounds_writes_cases r i s w)
        where
          go : ((k : ℕ) × (i ≡ 3 * k + 1) × (k + 1 ≡ s)) ⊎ ((k : ℕ) × (i ≡ 3 * k + 2) × (0 ≡ s)) → length (rounds_leaves r i s) ≤ cap r s
          go (inl (k, e, f)) =
              let inside = there.1 in
              let is = ap length (leaves_other r i k s (omega (arith, e)) (omega (arith, f))) ∙ length-gained k (from r k) in
              let room = doubling_early n k (omega (arith, inside, e)) in
              let same : suc k ≡ s = omega (arith, f) in
              subst (λ (m : ℕ). length (rounds_leaves r i s) ≤ cap r m) same (omega (arith, is, room))
          go (inr (k, e, f)) =
              let inside = there.1 in
              subst (λ (m : ℕ). length (rounds_leaves r i m) ≤ cap r m) f (let is = ap length (leaves_zero r i k (omega (arith, e))) ∙ length-gained (suc k) r in let room = doubling_zero n in let le = pow_le (suc k) n (omega (arith, inside, e)) in omega (arith, is, room, le))

      finds_load : (t : Turn) → sum_by (λ (v : Value). length v) (map (rounds_finds t.sender (3 * t.round)) (slots_moved_by (rounds_entry t.sender (3 * t.round)))) ≤ load t.sender (3 * t.round)
      finds_load t =
          let is = ap length (finds_zero t.sender (3 * t.round) t.round (omega arith)) ∙ length-gained t.round t.sender in
          let room = load_send t.sender t.round in
          subst (λ (ks : List ℕ). sum_by (λ (v : Value). length v) (map (rounds_finds t.sender (3 * t.round)) ks) ≤ load t.sender (3 * t.round)) (sym (ap slots_moved_by (round_entry_sends t.sender t.round) ∙ slots_of_single_slot 0)) (omega (arith, is, room))

      total : sum_below ranks (λ r. sum_below (2 ^ 32) (cap r)) + sum_by (λ r. sum_by (load r) (range_with_len 0 (rounds_count r))) (range_with_len 0 ranks) ≤ weight_limit
      total =
          let stores = sum_below_few ranks 4096 (λ r. sum_below (2 ^ 32) (cap r)) (λ r l. let s = doubling_high n (2 ^ 32 - 1) (omega (arith, few_rounds)) in omega (arith, s, few_gained)) in
          let loads = sum_range_few (λ r. sum_by (load r) (range_with_len 0 (rounds_count r))) ranks 2048 (λ r l. let s = loads_few r n in omega (arith, s, few_gained)) in
          omega (arith, stores, loads, few)

      bounded : IsBounded ranks rounds_count rounds_entry first wanted rounds_finds rounds_leaves Turn turn_send cap load
      bounded = record {
        first_cap = first_cap;
        leaves_cap = leaves_cap;
        finds_load = finds_load;
        total = total;
      }

      rounds_certified : IsSmall (made_by ranks rounds_count rounds_entry) → IsCertified (made_by ranks rounds_count rounds_entry) first wanted
      rounds_certified small =
          blueprint_certified ranks rounds_count rounds_entry first wanted rounds_finds rounds_leaves Turn bytes turn_send turn_recv (λ t. t.round) rounds_level rounds_blueprint cap load bounded small

      low_notes : (r i : ℕ) → i < 3 * n → All NamesLowSlots (notes_of i (rounds_entry r i)) × (sum_by moved_count (notes_of i (rounds_entry r i)) ≤ 1)
      low_notes r i l = ⊎_elim (λ p. subst (λ (x : Entry). Low x) (sym (as_send r i p.0 p.1)) (one 0 (omega arith))) (λ c. ⊎_elim (λ p. let e = p.1 in subst (λ (x : Entry). Low x) (sym (as_receive r i p.0 p.1)) (one (p.0 + 1) (omega (arith, l, e, few_rounds)))) (λ p. let e = p.1 in subst (λ (x : Entry). Low x) (sym (as_sum r i p.0 p.1)) (All_one NamesLowSlots (Adds i (p.0 + 1) 0) (omega (arith, l, e, few_rounds), omega arith), omega arith)) c) (cases_triple i)
        where
          Low : Entry → Type 0
          Low x = All NamesLowSlots (notes_of i x) × (sum_by moved_count (notes_of i x) ≤ 1)

          one : (k : ℕ) → k ≤ slot_limit → All NamesLowSlots (Moves i k k ∷ []) × (sum_by moved_count (Moves i k k ∷ []) ≤ 1)
          one k low = (All_one NamesLowSlots (Moves i k k) (low, low), omega arith)

      rounds_small : IsSmall (made_by ranks rounds_count rounds_entry)
      rounds_small =
          entries_small ranks rounds_count rounds_entry 1 (λ r l. omega (arith, few_rounds)) (λ r i l m. (low_notes r i m).0) (λ r i l m. (low_notes r i m).1) (let ops = sum_range_few rounds_count ranks 33 (λ r l. omega (arith, few_rounds)) in omega (arith, ops, few))

      pub rounds_are_certified : IsCertified (made_by ranks rounds_count rounds_entry) first wanted
      rounds_are_certified = rounds_certified rounds_small
