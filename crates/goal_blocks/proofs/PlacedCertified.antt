-- A certified schedule stays certified on other ranks if its walk there holds few enough contributions.
use Rattle.std.proofs.Common.{ℕ, zero, suc, ◌+◌, ◌^◌, ◌<◌, ◌≤◌, ◌≡◌, inl, inr, ⊎_elim, Bool, true, List, [], ◌∷◌, length, All, Contains, Option, Some, None, is_some, get_or, slice_get, unwrap_or, refl, sym, ap, ◌∙◌, subst, arith}
use Rattle.std.specs.Option.{option_map}
use Rattle.std.specs.List.{sum_by}
use Rattle.std.proofs.lemmas.List.{length-map}
use Rattle.std.proofs.lemmas.List.Sums.{sum_by-cons}
use Rattle.std.proofs.lemmas.Option.{slice_get-get_or}
use Rattle.goal_limits.specs.Limits.{certified_op_limit, moved_limit}
use Rattle.goal_graph.specs.declared.action.OpId.{OpId}
use Rattle.goal_graph.specs.declared.plan.Kind.{Kind}
use Rattle.goal_graph.specs.declared.plan.Kind.TheVariants.{Calc, Send, Recv}
use Rattle.goal_graph.specs.declared.plan.Need.{Need}
use Rattle.goal_graph.specs.Schedule.{Plan, kind_at, IsSend, IsReceive}
use Rattle.goal_graph.specs.Action.{Act}
use Rattle.goal_blocks.specs.Channels.{Channel, channel, AreOfOneChannel}
use Rattle.goal_blocks.specs.Slots.{slots, adds, written_in, touched_in, written, touched}
use Rattle.goal_blocks.specs.Walk.{no_send, IsWalk}
use Rattle.goal_blocks.specs.Matched.{IsMatched}
use Rattle.goal_blocks.specs.Race.{Reaches, here, through, EndsBefore, Conflict, HasNoRace}
use Rattle.goal_blocks.specs.Values.{Contribution, Value, Store}
use Rattle.goal_blocks.specs.Weight.{sum_below}
use Rattle.goal_blocks.specs.Certification.{NamesLowSlots, moved_count, IsSmall, HasEqualLengths, IsLight, IsCertified}
use Rattle.goal_blocks.specs.Placed.{IsPermutation, IsPlaced, placed_op, placed_kind, placed_of, placed_plan, plan_at, placed, relabelled, AsksNoMore}
use Rattle.goal_blocks.proofs.Matched.{ends_in_its_pairs}
use Rattle.goal_blocks.proofs.SomeWalk.{some_walk}
use Rattle.goal_blocks.proofs.Right.{certified_right}
use Rattle.goal_blocks.proofs.SumPermuted.{sum_permuted}
use Rattle.goal_blocks.proofs.SlotSums.{sum_below_of_equal_terms}
use Rattle.goal_blocks.proofs.PlacedPlans.{inverse_permutation, length_placed, plan_placed_at, placed_plans_are_placed, placed_op_after_back, placed_back}
use Rattle.goal_blocks.proofs.PlacedRight.{kinds, send_placed, receive_placed, placed_channel, channel_placed, one_channel_placed, before, complete_on_original_ranks, ends_placed, placed_right}

-- sums over plans, by rank
module _ (f : Plan → ℕ) where
  sum_below_from_first : (n : ℕ) (g : ℕ → ℕ) → sum_below (suc n) g ≡ g 0 + sum_below n (λ k. g (suc k))
  unfolding sum_below
  sum_below_from_first zero g = omega arith
  sum_below_from_first (suc n) g = let rest = sum_below_from_first n g in omega (arith, rest)

  sum_below_zero_is_zero : (g : ℕ → ℕ) → 0 ≡ sum_below 0 g
  unfolding sum_below
  sum_below_zero_is_zero g = refl

  sum_by_rank : (plans : List Plan) → sum_by f plans ≡ sum_below (length plans) (λ r. f (plan_at plans r))
  sum_by_rank [] = sum_below_zero_is_zero (λ r. f (plan_at [] r))
  sum_by_rank (p ∷ ps) =
      sum_by-cons f p ps ∙ (ap (λ (n : ℕ). f p + n) (sum_by_rank ps) ∙ sym (sum_below_from_first (length ps) (λ r. f (plan_at (p ∷ ps) r))))

  -- placing plans on other ranks keeps the sum over them
  sum_placed : (to back : ℕ → ℕ) (plans : List Plan) → IsPermutation (length plans) to back → ((p : Plan) → f (placed_plan to p) ≡ f p) → sum_by f (placed to back plans) ≡ sum_by f plans
  sum_placed to back plans perm same =
      sum_by_rank (placed to back plans)
      ∙ (ap (λ (n : ℕ). sum_below n (λ r. f (plan_at (placed to back plans) r))) (length_placed to back plans perm)
      ∙ (sum_below_of_equal_terms (length plans) (λ r. f (plan_at (placed to back plans) r)) (λ r. f (plan_at plans (back r))) each
      ∙ (sum_permuted (length plans) to back perm.back_to perm.to_back (inverse_permutation (length plans) to back perm).within perm.within (λ r. f (plan_at plans r)) ∙ sym (sum_by_rank plans))))
    where
      each : (r : ℕ) → r < length plans → f (plan_at (placed to back plans) r) ≡ f (plan_at plans (back r))
      each r low =
          let size = length_placed to back plans perm in
          let d : Plan = placed_plan to (plan_at plans (back r)) in
          ap (λ (o : Option Plan). f (unwrap_or o (record { ops = []; deps = []; notes = [] }))) (slice_get-get_or (placed to back plans) r d (omega (arith, low, size)) ∙ ap (λ (p : Plan). Some p) (plan_placed_at to back plans perm r d low)) ∙ same (plan_at plans (back r))

module _ (to back : ℕ → ℕ) (plans : List Plan) (perm : IsPermutation (length plans) to back) where
  abbrev placed_plans : List Plan
  placed_plans = placed to back plans

  abbrev placed_is_placed : IsPlaced to plans placed_plans
  placed_is_placed = placed_plans_are_placed to back plans perm

  abbrev perm_back : IsPermutation (length plans) back to
  perm_back = inverse_permutation (length plans) to back perm

  abbrev placed_is_back : IsPlaced back placed_plans plans
  placed_is_back = placed_back (length plans) to back perm plans placed_plans placed_is_placed

  -- a property that placing keeps holds of all placed plans if it holds of all plans
  all_placed : (P : Plan → Type 0) → ((p : Plan) → P p → P (placed_plan to p)) → All P plans → All P placed_plans
  all_placed P same all r d low =
      let size = length_placed to back plans perm in
      let inside : r < length plans = omega (arith, low, size) in
      let there : back r < length plans = perm_back.within r inside in
      subst P (sym (plan_placed_at to back plans perm r d inside)) (same (plan_at plans (back r)) (subst P (known (back r) there) (all (back r) (plan_at plans (back r)) there)))
    where
      known : (r : ℕ) → r < length plans → get_or plans r (plan_at plans r) ≡ plan_at plans r
      known r low = go (slice_get plans r) (slice_get-get_or plans r (plan_at plans r) low)
        where
          go : (o : Option Plan) → o ≡ Some (get_or plans r (plan_at plans r)) → get_or plans r (plan_at plans r) ≡ unwrap_or o (record { ops = []; deps = []; notes = [] })
          go None e = cc e
          go (Some p) e = cc e

  small_placed : IsSmall plans → IsSmall placed_plans
  small_placed small = record {
    operations = all_placed (λ (p : Plan). length p.ops ≤ certified_op_limit) (λ p few. subst (λ (n : ℕ). n ≤ certified_op_limit) (sym (length-map p.ops (placed_of to))) few) small.operations;
    slots = all_placed (λ (p : Plan). All NamesLowSlots p.notes) (λ p low. low) small.slots;
    moves = subst (λ (n : ℕ). n ≤ moved_limit) (sym (sum_placed (λ (p : Plan). sum_by moved_count p.notes) to back plans perm (λ p. refl))) small.moves;
  }

  placed_back_is_injective : (x y : OpId) → placed_op back x ≡ placed_op back y → x ≡ y
  placed_back_is_injective x y e =
      sym (placed_op_after_back (length plans) to back perm x) ∙ (ap (placed_op to) e ∙ placed_op_after_back (length plans) to back perm y)

  -- an operation, seen from the original ranks
  send_back : (m : OpId) → IsSend placed_plans m → IsSend plans (placed_op back m)
  send_back m s = send_placed (length plans) back to perm_back placed_plans plans placed_is_back m s

  receive_back : (x : OpId) → IsReceive placed_plans x → IsReceive plans (placed_op back x)
  receive_back x r =
      receive_placed (length plans) back to perm_back placed_plans plans placed_is_back x r

  channel_back : (x : OpId) (c : Channel) → channel placed_plans x ≡ Some c → channel plans (placed_op back x) ≡ Some (placed_channel (length plans) back to perm_back placed_plans plans placed_is_back c)
  channel_back x c e =
      channel_placed (length plans) back to perm_back placed_plans plans placed_is_back x ∙ ap (option_map (placed_channel (length plans) back to perm_back placed_plans plans placed_is_back)) e

  channel_joined_to : (m x : OpId) → AreOfOneChannel plans (placed_op back m) x → AreOfOneChannel placed_plans m (placed_op to x)
  channel_joined_to m x one =
      subst (λ (z : OpId). AreOfOneChannel placed_plans z (placed_op to x)) (placed_op_after_back (length plans) to back perm m) (one_channel_placed (length plans) to back perm plans placed_plans placed_is_placed (placed_op back m) x one)

  channel_joined_from : (m x : OpId) → AreOfOneChannel plans m (placed_op back x) → AreOfOneChannel placed_plans (placed_op to m) x
  channel_joined_from m x one =
      subst (λ (z : OpId). AreOfOneChannel placed_plans (placed_op to m) z) (placed_op_after_back (length plans) to back perm x) (one_channel_placed (length plans) to back perm plans placed_plans placed_is_placed m (placed_op back x) one)

  abbrev matched_placed : IsMatched plans → IsMatched placed_plans
  matched_placed m = record {
    no_wildcard = λ x room from tag e. wildcard from tag (m.no_wildcard (placed_op back x) room (option_map back from) tag (kinds (length plans) back to perm_back placed_plans plans placed_is_back x ∙ ap (option_map (placed_kind back)) e));
    no_double_channel = record {
      sends = λ x y c is_x is_y of_x of_y. placed_back_is_injective x y (m.no_double_channel.sends (placed_op back x) (placed_op back y) (placed_channel (length plans) back to perm_back placed_plans plans placed_is_back c) (send_back x is_x) (send_back y is_y) (channel_back x c of_x) (channel_back y c of_y));
      receives = λ x y c is_x is_y of_x of_y. placed_back_is_injective x y (m.no_double_channel.receives (placed_op back x) (placed_op back y) (placed_channel (length plans) back to perm_back placed_plans plans placed_is_back c) (receive_back x is_x) (receive_back y is_y) (channel_back x c of_x) (channel_back y c of_y));
    };
    no_unpaired = record {
      sends = λ x s. let p = m.no_unpaired.sends (placed_op back x) (send_back x s) in (placed_op to p.0, channel_joined_to x p.0 p.1);
      receives = λ x r. let p = m.no_unpaired.receives (placed_op back x) (receive_back x r) in (placed_op to p.0, channel_joined_from p.0 x p.1);
    };
    no_stall = let w = some_walk placed_plans in record {
      walk = w.0;
      is_walk = w.1;
      all_end = (ends_placed (length plans) to back perm plans placed_plans placed_is_placed no_send w.0 (ends_in_its_pairs plans no_send (before (length plans) to back perm plans placed_plans placed_is_placed no_send w.0) m (complete_on_original_ranks (length plans) to back perm plans placed_plans placed_is_placed no_send w.0 w.1.complete))).all_end;
    };
  }
    where
      wildcard : (from tag : Option ℕ) → (is_some (option_map back from) ≡ true) × (is_some tag ≡ true) → (is_some from ≡ true) × (is_some tag ≡ true)
      wildcard None tag p = p
      wildcard (Some source) tag p = (refl, p.1)

  lengths_placed : HasEqualLengths plans → HasEqualLengths placed_plans
  lengths_placed same m x one =
      ap length (sym (placed_is_back.moves m)) ∙ (same (placed_op back m) (placed_op back x) (one_channel_placed (length plans) back to perm_back placed_plans plans placed_is_back m x one) ∙ ap length (placed_is_back.moves x))

  touched_back : (x : OpId) → touched plans (placed_op back x) ≡ touched placed_plans x
  unfolding touched
  touched_back x =
      (λ i. touched_in (kinds (length plans) back to perm_back placed_plans plans placed_is_back x i) (placed_is_back.moves x i) (placed_is_back.adds x i)) ∙ go (kind_at placed_plans x)
    where
      go : (k : Option Kind) → touched_in (option_map (placed_kind back) k) (slots placed_plans x) (adds placed_plans x) ≡ touched_in k (slots placed_plans x) (adds placed_plans x)
      go None = refl
      go (Some (Calc nanos)) = refl
      go (Some (Send bytes target tag)) = refl
      go (Some (Recv room source tag)) = refl

  written_back : (x : OpId) → written plans (placed_op back x) ≡ written placed_plans x
  unfolding written
  written_back x =
      (λ i. written_in (kinds (length plans) back to perm_back placed_plans plans placed_is_back x i) (placed_is_back.moves x i) (placed_is_back.adds x i)) ∙ go (kind_at placed_plans x)
    where
      go : (k : Option Kind) → written_in (option_map (placed_kind back) k) (slots placed_plans x) (adds placed_plans x) ≡ written_in k (slots placed_plans x) (adds placed_plans x)
      go None = refl
      go (Some (Calc nanos)) = refl
      go (Some (Send bytes target tag)) = refl
      go (Some (Recv room source tag)) = refl

  reaches_placed : {y z : OpId} → Reaches plans y z → Reaches placed_plans (placed_op to y) (placed_op to z)
  reaches_placed here = here
  reaches_placed (through {y = y} d has more) =
      through d (subst (λ (ns : List Need). Contains ns d) (sym (placed_is_placed.needs y)) has) (reaches_placed more)

  ends_before_placed : (x y : OpId) → EndsBefore plans x y → EndsBefore placed_plans (placed_op to x) (placed_op to y)
  ends_before_placed x y b = record {
    by = placed_op to b.by;
    reached = reaches_placed b.reached;
    need = b.need;
    is_need = subst (λ (ns : List Need). Contains ns b.need) (sym (placed_is_placed.needs b.by)) b.is_need;
    at_end = b.at_end;
    names = ap (placed_op to) b.names;
  }

  ends_before_from_original : (x y : OpId) → EndsBefore plans (placed_op back x) (placed_op back y) → EndsBefore placed_plans x y
  ends_before_from_original x y b =
      subst (λ (z : OpId). EndsBefore placed_plans z y) (placed_op_after_back (length plans) to back perm x) (subst (λ (z : OpId). EndsBefore placed_plans (placed_op to (placed_op back x)) z) (placed_op_after_back (length plans) to back perm y) (ends_before_placed (placed_op back x) (placed_op back y) b))

  conflict_back : (x y : OpId) → Conflict placed_plans x y → Conflict plans (placed_op back x) (placed_op back y)
  conflict_back x y c = record {
    one_rank = ap back c.one_rank;
    two = λ e. c.two (placed_back_is_injective x y e);
    slot = c.slot;
    is_touched = subst (λ (ks : List ℕ). Contains ks c.slot) (sym (touched_back x)) c.is_touched;
    is_written = subst (λ (ks : List ℕ). Contains ks c.slot) (sym (written_back y)) c.is_written;
  }

  no_race_placed : HasNoRace plans → HasNoRace placed_plans
  no_race_placed none x y c =
      ⊎_elim (λ b. inl (ends_before_from_original x y b)) (λ b. inr (ends_before_from_original y x b)) (none (placed_op back x) (placed_op back y) (conflict_back x y c))

  pub placed_certified : (label : Contribution → Contribution) (first start : Store) (wanted wish : ℕ → ℕ → Value → Bool)
      → ((rank slot : ℕ) → start (to rank) slot ≡ relabelled label (first rank slot))
      → AsksNoMore to label (length plans) wanted wish
      → ((w : List Act) → IsWalk placed_plans w → IsLight placed_plans start w)
      → IsCertified plans first wanted
      → IsCertified placed_plans start wish
  placed_certified label first start wanted wish starts asks light c =
      let w = some_walk placed_plans in
      record {
        small = small_placed c.small;
        matched = matched_placed c.matched;
        lengths = lengths_placed c.lengths;
        no_race = no_race_placed c.no_race;
        light = light w.0 w.1;
        right = (placed_right to back plans placed_plans label first start wanted wish perm placed_is_placed starts asks (certified_right plans first wanted c) no_send w.0 w.1.complete).wanted_held;
      }
