-- An accepted schedule without a fault is certified.
use Rattle.std.proofs.Common.{⊎_elim, ℕ, ◌+◌, ◌^◌, ◌<◌, ◌≤◌, ◌≡◌, ◌⊎◌, inl, inr, Bool, true, false, List, [], ◌∷◌, length, take, get_or, is_some, Contains, Option, Some, None, refl, sym, ap, subst, arith}
use Rattle.std.specs.List.{sum_by}
use Rattle.std.proofs.lemmas.Bool.{both_ways, cases_Bool, cases_lt, cases_eq}
use Rattle.std.proofs.lemmas.List.{take_all}
use Rattle.std.proofs.lemmas.List.Elements.{All-contains_itself}
use Rattle.std.proofs.lemmas.Option.{slice_get-get_or}
use Rattle.goal_limits.specs.Limits.{certified_op_limit, slot_limit, moved_limit, weight_limit}
use Rattle.goal_graph.specs.declared.action.OpId.{OpId}
use Rattle.goal_graph.specs.declared.plan.Kind.{Kind}
use Rattle.goal_graph.specs.declared.plan.Kind.TheVariants.{Calc, Send, Recv}
use Rattle.goal_graph.specs.declared.plan.Note.{Note}
use Rattle.goal_graph.specs.declared.plan.Note.TheVariants.{Moves, Adds}
use Rattle.goal_graph.specs.Schedule.{Plan, kind_at, operations}
use Rattle.goal_graph.specs.Action.{Act}
use Rattle.goal_graph.specs.Matching.{fits}
use Rattle.goal_graph.specs.Allowed.{has_ended}
use Rattle.goal_graph.specs.Fault.{IsOp, HasDepth, IsAccepted}
use Rattle.goal_graph.proofs.ForCallers.{kind_listed, listed_places, ops_at_some, before_cases}
use Rattle.goal_blocks.specs.declared.cert_fault.CertFault.{CertFault}
use Rattle.goal_blocks.specs.declared.cert_fault.CertFault.TheVariants.{TooLarge, Wildcard, DoubleChannel, Unpaired, Lengths, Race, Stalls, Weight, Wrong}
use Rattle.goal_blocks.specs.Channels.{HasNoWildcard, HasNoDoubleChannel, HasNoUnpaired}
use Rattle.goal_blocks.specs.Slots.{notes_at, slots, adds, touched_in, written, touched}
use Rattle.goal_blocks.specs.Race.{EndsBefore, HasNoRace}
use Rattle.goal_blocks.specs.Walk.{no_send, IsWalk, HasNoStall}
use Rattle.goal_blocks.specs.Values.{Value, Store, Held, held_after, value}
use Rattle.goal_blocks.specs.Weight.{weight, weight_within}
use Rattle.goal_blocks.specs.Certification.{NamesLowSlots, moved_count, IsSmall, HasEqualLengths, AddsAreLight, IsLight, HoldsWanted, IsCertified}
use Rattle.goal_blocks.specs.Faults.{IsLeast, rank_key, op_key, IsLarge, too_many, too_high, too_much, IsWildcard, AreDouble, IsUnpaired, HaveOtherLengths, RaceAt, race_key, IsRace, IsStalled, AddsTooMuch, IsFirstTooHeavy, slot_key, IsWrong, HasFault, fault_place, IsCertificationFault}
use Rattle.goal_blocks.proofs.Channels.{fits_channel, channel_fits}
use Rattle.goal_blocks.proofs.Effects.{mem_contains, contains_mem, written_touched}
use Rattle.goal_blocks.proofs.EndsBefore.{some_or_none_in_list, cases_before}
use Rattle.goal_blocks.proofs.Least.{strong_induction, holds_of_none_without_least}
use Rattle.goal_blocks.proofs.SomeWalk.{some_walk}
use Rattle.goal_blocks.proofs.Walk.{one_walk}

cases_low : (n : Note) → NamesLowSlots n ⊎ (NamesLowSlots n → ⊥)
cases_low (Moves op lo hi) =
    ⊎_elim (λ l. inr (λ p. let q = p.0 in omega (arith, l, q))) (λ a. ⊎_elim (λ l. inr (λ p. let q = p.1 in omega (arith, l, q))) (λ b. inl (a, b)) (cases_lt slot_limit hi)) (cases_lt slot_limit lo)
cases_low (Adds op from to) =
    ⊎_elim (λ l. inr (λ p. let q = p.0 in omega (arith, l, q))) (λ a. ⊎_elim (λ l. inr (λ p. let q = p.1 in omega (arith, l, q))) (λ b. inl (a, b)) (cases_lt slot_limit to)) (cases_lt slot_limit from)

module _ (plans : List Plan) where
  notes_of_rank : (k : ℕ) (d : Plan) → k < length plans → notes_at plans k ≡ (get_or plans k d).notes
  unfolding notes_at
  notes_of_rank k d l = rw (slice_get-get_or plans k d l) refl

  moves_small : (ps : List Plan) → ((rank : ℕ) → rank < length ps → moved_limit < sum_by (λ (p : Plan). sum_by moved_count p.notes) (take (rank + 1) ps) → ⊥) → sum_by (λ (p : Plan). sum_by moved_count p.notes) ps ≤ moved_limit
  moves_small [] none = omega arith
  moves_small (p ∷ ps) none =
      ⊎_elim (λ over. absurd (none (length ps) (omega arith) (subst (λ (qs : List Plan). moved_limit < sum_by (λ (p : Plan). sum_by moved_count p.notes) qs) (sym (take_all (length ps + 1) (p ∷ ps) (omega arith))) over))) (λ few. few) (cases_lt moved_limit (sum_by (λ (p : Plan). sum_by moved_count p.notes) (p ∷ ps)))

  pub small_if_no_rank_large : ((rank : ℕ) → IsLarge plans rank → ⊥) → IsSmall plans
  small_if_no_rank_large none = record {
    operations = λ k d l. ⊎_elim (λ over. absurd (none k (too_many (subst (λ (n : ℕ). certified_op_limit < n) (sym (ap length (ops_at_some plans k (get_or plans k d) (slice_get-get_or plans k d l)))) over)))) (λ few. few) (cases_lt certified_op_limit (length (get_or plans k d).ops));
    slots = λ k d l j e m. ⊎_elim (λ low. low) (λ high. absurd (none k (too_high (get_or (get_or plans k d).notes j e) (subst (λ (ns : List Note). Contains ns (get_or (get_or plans k d).notes j e)) (sym (notes_of_rank k d l)) (All-contains_itself (get_or plans k d).notes j e m)) high))) (cases_low (get_or (get_or plans k d).notes j e));
    moves = moves_small plans (λ rank l over. none rank (too_much l over));
  }

  pub no_wildcard_if_no_fault : ((x : OpId) → IsWildcard plans x → ⊥) → HasNoWildcard plans
  no_wildcard_if_no_fault none x room from tag e = (known (is_some from) refl, told (is_some tag) refl)
    where
      known : (b : Bool) → is_some from ≡ b → b ≡ true
      known true f = refl
      known false f = absurd (none x (record { room = room; from = from; tag = tag; kind = e; any = inl f }))

      told : (b : Bool) → is_some tag ≡ b → b ≡ true
      told true f = refl
      told false f = absurd (none x (record { room = room; from = from; tag = tag; kind = e; any = inr f }))

  pub no_double_channel_if_no_fault : ((y x : OpId) → AreDouble plans y x → ⊥) → HasNoDoubleChannel plans
  no_double_channel_if_no_fault none = record {
    sends = λ m n c p q e f. ⊎_elim (λ b. absurd (none m n (record { in_order = b; alike = inl (p, q); shared = c; of_first = e; of_second = f }))) (λ r. ⊎_elim (λ b. absurd (none n m (record { in_order = b; alike = inl (q, p); shared = c; of_first = f; of_second = e }))) (λ s. s) r) (before_cases m n);
    receives = λ m n c p q e f. ⊎_elim (λ b. absurd (none m n (record { in_order = b; alike = inr (p, q); shared = c; of_first = e; of_second = f }))) (λ r. ⊎_elim (λ b. absurd (none n m (record { in_order = b; alike = inr (q, p); shared = c; of_first = f; of_second = e }))) (λ s. s) r) (before_cases m n);
  }

  pub no_unpaired_if_no_fault : HasNoWildcard plans → ((x : OpId) → IsUnpaired plans x → ⊥) → HasNoUnpaired plans
  no_unpaired_if_no_fault known none = record {
    sends = λ m p. ⊎_elim (λ found. (found.0, fits_channel plans found.0 m known found.2)) (λ nothing. absurd (none m (inl (p, λ y one. nothing y (kind_listed plans y _ one.is_receive.kind) (channel_fits plans y m one))))) (some_or_none_in_list (λ (x : OpId). fits plans x m ≡ true) (operations plans) (λ x c. cases_fit x m));
    receives = λ x p. ⊎_elim (λ found. (found.0, fits_channel plans x found.0 known found.2)) (λ nothing. absurd (none x (inr (p, λ m one. nothing m (kind_listed plans m _ one.is_send.kind) (channel_fits plans x m one))))) (some_or_none_in_list (λ (m : OpId). fits plans x m ≡ true) (operations plans) (λ m c. cases_fit x m));
  }
    where
      cases_fit : (x m : OpId) → (fits plans x m ≡ true) ⊎ (fits plans x m ≡ true → ⊥)
      cases_fit x m = ⊎_elim (λ e. inl e) (λ e. inr (λ f. both_ways _ e f)) (cases_Bool (fits plans x m))

  pub equal_lengths_if_no_fault : ((m x : OpId) → HaveOtherLengths plans m x → ⊥) → HasEqualLengths plans
  equal_lengths_if_no_fault none m x one =
      ⊎_elim (λ e. e) (λ differ. absurd (none m x (record { one = one; differ = differ }))) (cases_eq (length (slots plans m)) (length (slots plans x)))

  touching_op : (x : OpId) (k : ℕ) → Contains (touched plans x) k → IsOp plans x
  unfolding touched
  touching_op x k c = go (kind_at plans x) refl c
    where
      go : (o : Option Kind) → kind_at plans x ≡ o → Contains (touched_in o (slots plans x) (adds plans x)) k → IsOp plans x
      go None e c = absurd (omega (arith, c.1))
      go (Some kind) e c = (listed_places plans x).0 (kind_listed plans x kind e)

  module _ (none : (a : RaceAt) → IsRace plans a → ⊥) where
    -- two operations of a rank, of which x has the lower number
    racing : (x y : OpId) (slot : ℕ) → x.rank ≡ y.rank → x.op < y.op → Contains (touched plans x) slot → Contains (touched plans y) slot → Contains (written plans x) slot ⊎ Contains (written plans y) slot → (EndsBefore plans x y → ⊥) → (EndsBefore plans y x → ⊥) → ⊥
    racing x y slot e l tx ty w nb na = none at (record { in_order = l; first_touches = tx; second_touches = subst (λ (z : OpId). Contains (touched plans z) slot) same ty; one_writes = ⊎_elim (λ p. inl p) (λ p. inr (subst (λ (z : OpId). Contains (written plans z) slot) same p)) w; not_before = λ b. nb (subst (λ (z : OpId). EndsBefore plans x z) (sym same) b); not_after = λ b. na (subst (λ (z : OpId). EndsBefore plans z x) (sym same) b) })
      where
        at : RaceAt
        at = record { rank = x.rank; first = x.op; second = y.op; slot = slot }

        same : y ≡ record { rank = x.rank; op = y.op }
        same = λ i. record { rank = sym e i; op = y.op }

    pub race_from : IsAccepted plans → HasNoRace plans
    race_from accepted x y c =
        ⊎_elim (λ b. inl b) (λ nb. ⊎_elim (λ b. inr b) (λ na. absurd (neither nb na)) (cases_before plans y (depth_x).bound x (depth_x).below)) (cases_before plans x (depth_y).bound y (depth_y).below)
      where
        touches_y : Contains (touched plans y) c.slot
        touches_y =
            mem_contains c.slot (touched plans y) (written_touched plans y c.slot (contains_mem c.slot (written plans y) c.is_written))

        depth_x : HasDepth plans x
        depth_x = accepted.depths x (touching_op x c.slot c.is_touched)

        depth_y : HasDepth plans y
        depth_y = accepted.depths y (touching_op y c.slot touches_y)

        neither : (EndsBefore plans x y → ⊥) → (EndsBefore plans y x → ⊥) → ⊥
        neither nb na =
            ⊎_elim (λ l. racing x y c.slot c.one_rank l c.is_touched touches_y (inr c.is_written) nb na) (λ g. ⊎_elim (λ l. racing y x c.slot (sym c.one_rank) l touches_y c.is_touched (inl c.is_written) na nb) (λ h. let f : x.op ≡ y.op = omega (arith, g, h) in c.two (λ k. record { rank = c.one_rank k; op = f k })) (cases_lt y.op x.op)) (cases_lt x.op y.op)

  module _ (first : Store) where
    adds_light : (h : List Act) (held : Held) (x : OpId) (k : Option Kind) → ((total : ℕ) → AddsTooMuch plans h held x k total → ⊥) → AddsAreLight plans h held x k
    adds_light h held x (Some (Calc nanos)) none = strong_induction (λ n. weight_within plans h held x n ≤ weight_limit) (λ n before. ⊎_elim (λ over. absurd (none (weight_within plans h held x n) (n, refl, over, before))) (λ few. few) (cases_lt weight_limit (weight_within plans h held x n)))
    adds_light h held x (Some (Send bytes to tag)) none = tt
    adds_light h held x (Some (Recv room from tag)) none = tt
    adds_light h held x None none = tt

    light_more : (a : Act) (h : List Act) → IsLight plans first h → ((total : ℕ) → IsFirstTooHeavy plans first (a ∷ h) total → ⊥) → IsLight plans first (a ∷ h)
    light_more a h light none =
        let adds_are = adds_light h (held_after plans no_send first h) a.op (kind_at plans a.op) (λ n much. none n (inr (light, inl much))) in
        (light, adds_are, ⊎_elim (λ over. absurd (none (weight plans (a ∷ h) (held_after plans no_send first (a ∷ h))) (inr (light, inr (adds_are, refl, over))))) (λ few. few) (cases_lt weight_limit (weight plans (a ∷ h) (held_after plans no_send first (a ∷ h)))))

    pub light_from : (h : List Act) → ((total : ℕ) → IsFirstTooHeavy plans first h total → ⊥) → IsLight plans first h
    light_from [] none =
        ⊎_elim (λ over. absurd (none (weight plans [] (held_after plans no_send first [])) (refl, over))) (λ few. few) (cases_lt weight_limit (weight plans [] (held_after plans no_send first [])))
    light_from (a ∷ h) none = light_more a h (light_from h (λ n heavy. none n (inl heavy))) none

    module _ (wanted : ℕ → ℕ → Value → Bool) (none : (fault : CertFault) → HasFault plans first wanted fault → ⊥) where
      no_wildcard : HasNoWildcard plans
      no_wildcard =
          no_wildcard_if_no_fault (holds_of_none_without_least 2 op_key (λ x. refl) (IsWildcard plans) (λ x l. none (Wildcard x) l))

      small : IsSmall plans
      small = small_if_no_rank_large (holds_of_none_without_least 1 rank_key (λ n. refl) (IsLarge plans) (λ n l. none (TooLarge n) l))

      no_double : HasNoDoubleChannel plans
      no_double = no_double_channel_if_no_fault (λ y x d. holds_of_none_without_least 2 op_key (λ x. refl) (λ x. (y : OpId) × AreDouble plans y x) (λ x l. least x l) x (y, d))
        where
          least : (x : OpId) → IsLeast op_key (λ x. (y : OpId) × AreDouble plans y x) x → ⊥
          least x l =
              holds_of_none_without_least 2 op_key (λ y. refl) (λ y. AreDouble plans y x) (λ y f. none (DoubleChannel y x) (l, f)) l.holds.0 l.holds.1

      no_unpaired : HasNoUnpaired plans
      no_unpaired =
          no_unpaired_if_no_fault no_wildcard (holds_of_none_without_least 2 op_key (λ x. refl) (IsUnpaired plans) (λ x l. none (Unpaired x) l))

      lengths : HasEqualLengths plans
      lengths = equal_lengths_if_no_fault (λ m x d. holds_of_none_without_least 2 op_key (λ m. refl) (λ m. (x : OpId) × HaveOtherLengths plans m x) (λ m l. least m l) m (x, d))
        where
          least : (m : OpId) → IsLeast op_key (λ m. (x : OpId) × HaveOtherLengths plans m x) m → ⊥
          least m l =
              holds_of_none_without_least 2 op_key (λ x. refl) (λ x. HaveOtherLengths plans m x) (λ x f. none (Lengths m x) (l, f)) l.holds.0 l.holds.1

      no_race : IsAccepted plans → HasNoRace plans
      no_race accepted =
          race_from (holds_of_none_without_least 4 race_key (λ a. refl) (IsRace plans) (λ a l. none (Race a.rank a.first a.second a.slot) l)) accepted

      abbrev walk : List Act
      walk = (some_walk plans).0

      same_walk : (w : List Act) → IsWalk plans w → walk ≡ w
      same_walk w is_walk = one_walk plans walk w (some_walk plans).1 is_walk

      no_stall : HasNoStall plans
      no_stall = record { walk = walk; is_walk = (some_walk plans).1; all_end = λ x is_op. ⊎_elim (λ e. e) (λ f. absurd (stalled x is_op f)) (cases_Bool (has_ended plans no_send x walk)) }
        where
          stalled : (x : OpId) → IsOp plans x → has_ended plans no_send x walk ≡ false → ⊥
          stalled x is_op f =
              holds_of_none_without_least 2 op_key (λ x. refl) (IsStalled plans) (λ x l. none (Stalls x) l) x (is_op, λ w is_walk. subst (λ (v : List Act). has_ended plans no_send x v ≡ false) (same_walk w is_walk) f)

      light : IsLight plans first walk
      light =
          light_from walk (λ total heavy. none (Weight total) (λ w is_walk. subst (λ (v : List Act). IsFirstTooHeavy plans first v total) (same_walk w is_walk) heavy))

      right : HoldsWanted plans wanted (value plans no_send first walk)
      right rank slot inside =
          ⊎_elim (λ e. e) (λ f. absurd (holds_of_none_without_least 2 slot_key (λ a. refl) (IsWrong plans first wanted) (λ a l. none (Wrong a.rank a.slot) l) (record { rank = rank; slot = slot }) (inside, λ w is_walk. subst (λ (v : List Act). wanted rank slot (value plans no_send first v rank slot) ≡ false) (same_walk w is_walk) f))) (cases_Bool (wanted rank slot (value plans no_send first walk rank slot)))

      certified : IsAccepted plans → IsCertified plans first wanted
      unfolding no_stall
      certified accepted = record {
        small = small;
        matched = record { no_wildcard = no_wildcard; no_double_channel = no_double; no_unpaired = no_unpaired; no_stall = no_stall };
        lengths = lengths;
        no_race = no_race accepted;
        light = light;
        right = right;
      }

pub faultless : (plans : List Plan) (first : Store) (wanted : ℕ → ℕ → Value → Bool) → IsAccepted plans → ((fault : CertFault) → IsCertificationFault plans first wanted fault → ⊥) → IsCertified plans first wanted
faultless plans first wanted accepted none =
    certified plans first wanted (λ fault has. no_place (fault_place fault) fault refl has) accepted
  where
    no_place : (n : ℕ) (fault : CertFault) → fault_place fault ≡ n → HasFault plans first wanted fault → ⊥
    no_place = strong_induction (λ n. (fault : CertFault) → fault_place fault ≡ n → HasFault plans first wanted fault → ⊥) (λ n before fault e has. none fault (record { has = has; none_before = λ other l h. before (fault_place other) (subst (λ (m : ℕ). fault_place other < m) e l) other refl h }))
