-- Each fault excludes certified.
use Rattle.std.proofs.Common.{⊎_elim, ℕ, ◌+◌, ◌<◌, ◌≤◌, ◌≡◌, inl, inr, Bool, List, [], ◌∷◌, length, slice_get, unwrap_or, All, Contains, Option, Some, None, refl, sym, ap, subst, arith}
use Rattle.std.specs.List.{sum_by}
use Rattle.std.specs.Option.{option_map}
use Rattle.std.proofs.lemmas.Bool.{both_ways}
use Rattle.std.proofs.lemmas.List.Elements.{All-contains}
use Rattle.std.proofs.lemmas.List.Sums.{sum_by-take-le}
use Rattle.std.proofs.lemmas.Option.{get_or_from_slice_get, slice_get_within}
use Rattle.goal_limits.specs.Limits.{certified_op_limit}
use Rattle.goal_graph.specs.declared.action.OpId.{OpId}
use Rattle.goal_graph.specs.declared.plan.Kind.{Kind}
use Rattle.goal_graph.specs.declared.plan.Kind.TheVariants.{Calc, Send, Recv}
use Rattle.goal_graph.specs.Schedule.{Plan, kind_at, ops_at}
use Rattle.goal_graph.specs.Action.{Act}
use Rattle.goal_graph.specs.Order.{IsBefore}
use Rattle.goal_blocks.specs.declared.cert_fault.CertFault.{CertFault}
use Rattle.goal_blocks.specs.declared.cert_fault.CertFault.TheVariants.{TooLarge, Wildcard, DoubleChannel, Unpaired, Lengths, Race, Stalls, Weight, Wrong, NoMemory}
use Rattle.goal_blocks.specs.Channels.{HasNoWildcard, HasNoDoubleChannel, HasNoUnpaired}
use Rattle.goal_blocks.specs.Slots.{notes_at}
use Rattle.goal_blocks.specs.Race.{HasNoRace}
use Rattle.goal_blocks.specs.Walk.{no_send}
use Rattle.goal_blocks.specs.Values.{Value, Store, Held, held_after}
use Rattle.goal_blocks.specs.Certification.{NamesLowSlots, moved_count, IsSmall, AddsAreLight, IsLight, IsCertified}
use Rattle.goal_blocks.specs.Faults.{IsLarge, too_many, too_high, too_much, IsWildcard, AreDouble, IsUnpaired, RaceAt, first_of, second_of, IsRace, AddsTooMuch, IsFirstTooHeavy, HasFault}

module _ (plans : List Plan) where
  -- a property of all plans holds of the plan at a rank
  all_plans_hence_plan_of_rank : (P : Plan → Type 0) → All P plans → (rank : ℕ) (p : Plan) → slice_get plans rank ≡ Some p → P p
  all_plans_hence_plan_of_rank P all rank p e =
      subst P (get_or_from_slice_get plans rank p p e) (all rank p (slice_get_within plans rank p e))

  pub large_not_small : (rank : ℕ) → IsSmall plans → IsLarge plans rank → ⊥
  unfolding ops_at notes_at
  large_not_small rank small (too_many many) = go (slice_get plans rank) refl many
    where
      go : (o : Option Plan) → slice_get plans rank ≡ o → certified_op_limit < length (unwrap_or (option_map (λ (p : Plan). p.ops) o) []) → ⊥
      go None e m = omega (arith, m)
      go (Some p) e m = let few = all_plans_hence_plan_of_rank (λ (p : Plan). length p.ops ≤ certified_op_limit) small.operations rank p e in omega (arith, few, m)
  large_not_small rank small (too_high n c high) = go (slice_get plans rank) refl c
    where
      go : (o : Option Plan) → slice_get plans rank ≡ o → Contains (unwrap_or (option_map (λ (p : Plan). p.notes) o) []) n → ⊥
      go None e m = omega (arith, m.1)
      go (Some p) e m =
          high (All-contains NamesLowSlots p.notes n (all_plans_hence_plan_of_rank (λ (p : Plan). All NamesLowSlots p.notes) small.slots rank p e) m)
  large_not_small rank small (too_much inside much) =
      let all = sum_by-take-le (λ (p : Plan). sum_by moved_count p.notes) plans (rank + 1) in let few = small.moves in omega (arith, all, few, much)

  pub no_wildcard_fault : (x : OpId) → HasNoWildcard plans → IsWildcard plans x → ⊥
  no_wildcard_fault x none w =
      let both = none x w.room w.from w.tag w.kind in
      ⊎_elim (λ e. both_ways _ e both.0) (λ e. both_ways _ e both.1) w.any

  before_itself : (y x : OpId) → IsBefore y x → y ≡ x → ⊥
  before_itself y x (inl l) e = let ranks = ap (λ (z : OpId). z.rank) e in omega (arith, l, ranks)
  before_itself y x (inr l) e = let ops = ap (λ (z : OpId). z.op) e in let lower = l.1 in omega (arith, lower, ops)

  pub no_double_channel_fault : (y x : OpId) → HasNoDoubleChannel plans → AreDouble plans y x → ⊥
  no_double_channel_fault y x none d =
      before_itself y x d.in_order (⊎_elim (λ s. none.sends y x d.shared s.0 s.1 d.of_first d.of_second) (λ r. none.receives y x d.shared r.0 r.1 d.of_first d.of_second) d.alike)

  pub no_unpaired_fault : (x : OpId) → HasNoUnpaired plans → IsUnpaired plans x → ⊥
  no_unpaired_fault x none (inl u) = let found = none.sends x u.0 in u.1 found.0 found.1
  no_unpaired_fault x none (inr u) = let found = none.receives x u.0 in u.1 found.0 found.1

  pub no_race_fault : (a : RaceAt) → HasNoRace plans → IsRace plans a → ⊥
  no_race_fault a none r =
      ⊎_elim (λ w. ⊎_elim r.not_after r.not_before (none (second_of a) (first_of a) (record { one_rank = refl; two = other; slot = a.slot; is_touched = r.second_touches; is_written = w }))) (λ w. ⊎_elim r.not_before r.not_after (none (first_of a) (second_of a) (record { one_rank = refl; two = same; slot = a.slot; is_touched = r.first_touches; is_written = w }))) r.one_writes
    where
      same : first_of a ≡ second_of a → ⊥
      same e = let ops = ap (λ (z : OpId). z.op) e in let lower = r.in_order in omega (arith, lower, ops)

      other : second_of a ≡ first_of a → ⊥
      other e = same (sym e)

  module _ (first : Store) where
    pub adds_not : (h : List Act) (held : Held) (x : OpId) (k : Option Kind) (total : ℕ) → AddsAreLight plans h held x k → AddsTooMuch plans h held x k total → ⊥
    adds_not h held x (Some (Calc nanos)) total light (n, e, heavy, rest) = let few = light n in omega (arith, few, e, heavy)
    adds_not h held x (Some (Send bytes to tag)) total light much = much
    adds_not h held x (Some (Recv room from tag)) total light much = much
    adds_not h held x None total light much = much

    pub heavy_not : (h : List Act) (total : ℕ) → IsLight plans first h → IsFirstTooHeavy plans first h total → ⊥
    heavy_not [] total light heavy = let e = heavy.0 in let over = heavy.1 in omega (arith, light, e, over)
    heavy_not (a ∷ h) total light (inl heavy) = heavy_not h total light.0 heavy
    heavy_not (a ∷ h) total light (inr (l, inl adds)) =
        adds_not h (held_after plans no_send first h) a.op (kind_at plans a.op) total light.1 adds
    heavy_not (a ∷ h) total light (inr (l, inr (few, e, over))) = let last = light.2 in omega (arith, last, e, over)

    pub excludes : (wanted : ℕ → ℕ → Value → Bool) (fault : CertFault) → HasFault plans first wanted fault → IsCertified plans first wanted → ⊥
    excludes wanted (TooLarge rank) has certified = large_not_small rank certified.small has.holds
    excludes wanted (Wildcard op) has certified = no_wildcard_fault op certified.matched.no_wildcard has.holds
    excludes wanted (DoubleChannel y x) has certified = no_double_channel_fault y x certified.matched.no_double_channel has.1.holds
    excludes wanted (Unpaired op) has certified = no_unpaired_fault op certified.matched.no_unpaired has.holds
    excludes wanted (Lengths m x) has certified = has.1.holds.differ (certified.lengths m x has.1.holds.one)
    excludes wanted (Race rank lower higher slot) has certified =
        no_race_fault (record { rank = rank; first = lower; second = higher; slot = slot }) certified.no_race has.holds
    excludes wanted (Stalls op) has certified =
        let stall = certified.matched.no_stall in
        both_ways _ (has.holds.1 stall.walk stall.is_walk) (stall.all_end op has.holds.0)
    excludes wanted (Weight total) has certified =
        let stall = certified.matched.no_stall in
        heavy_not stall.walk total certified.light (has stall.walk stall.is_walk)
    excludes wanted (Wrong rank slot) has certified =
        let stall = certified.matched.no_stall in
        both_ways _ (has.holds.1 stall.walk stall.is_walk) (certified.right rank slot has.holds.0)
    excludes wanted NoMemory has certified = has
