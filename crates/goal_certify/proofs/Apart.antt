-- Segments that leave the blocks of all others empty.
use Rattle.std.proofs.Common.{ℕ, ◌+◌, ◌*◌, ◌<◌, ◌≤◌, ◌≡◌, ◌&&◌, ◌⊎◌, inl, inr, ⊎_elim, not, nat_lt, nat_le, Bool, true, false, List, [], ◌∷◌, length, Option, Some, None, IfSome, IfNone, if◌then◌else◌, refl, sym, ap, ◌∙◌, subst, arith}
use Rattle.std.proofs.Math.Bool.{not-not}
use Rattle.std.proofs.lemmas.Bool.{le-ltb, lt-ltb, lt-leb}
use Rattle.goal_graph.specs.Schedule.{Plan}
use Rattle.goal_graph.specs.Action.{Act}
use Rattle.goal_limits.specs.declared.collective.Collective.{Collective}
use Rattle.goal_blocks.specs.declared.cert_fault.CertFault.{CertFault}
use Rattle.goal_blocks.specs.declared.cert_fault.CertFault.TheVariants.{TooLarge, Wildcard, DoubleChannel, Unpaired, Lengths, Race, Stalls, Weight, Wrong, NoMemory}
use Rattle.goal_blocks.specs.Walk.{no_send, IsWalk}
use Rattle.goal_blocks.specs.Values.{Value, Store, value}
use Rattle.goal_blocks.specs.Collectives.{is_value}
use Rattle.goal_blocks.specs.Faults.{IsLeast, SlotAt, slot_key, HasFault, fault_place, IsWrong}
use Rattle.goal_blocks.specs.Laws.{FaultExcludesCertified}
use Rattle.goal_blocks.specs.Segments.{initial_in, wanted_in, IsCertifiedIn}
use Rattle.goal_blocks.specs.Joined.{is_elsewhere, keeps_out}
use Rattle.goal_blocks.proofs.ForCallers.{one_walk}
use Rattle.goal_values.specs.Kept.{Kept, values}
use Rattle.goal_certify.specs.Stages.{IsFirstOf}
use Rattle.goal_certify.specs.AtOnce.{IsCertifiedApart, IsFaultApart}
use Rattle.goal_certify.specs.Left.{IsLeft}

-- a value is nothing where it has no contribution
pub is_empty_value_iff_length_zero : (v : Value) → is_value v [] ≡ not (nat_lt 0 (length v))
unfolding is_value
is_empty_value_iff_length_zero [] = refl
is_empty_value_iff_length_zero (c ∷ v) = sym (ap not (lt-ltb 0 (length (c ∷ v)) (omega arith)))

-- a slot of one of the blocks, but not of this one, may hold nothing
pub nonempty_iff_not_keeps_out : (width count block rank slot size : ℕ) (v : Value) → size ≡ length v → slot < count * width → (slot < block * width) ⊎ (block * width + width ≤ slot) → nat_lt 0 size ≡ not (keeps_out width count block rank slot v)
nonempty_iff_not_keeps_out width count block rank slot size v same inside out =
    ap (λ (n : ℕ). nat_lt 0 n) same ∙ (sym (not-not (nat_lt 0 (length v))) ∙ ap not (sym (ap (λ (b : Bool). if b then is_value v [] else true) (⊎_elim before after out) ∙ is_empty_value_iff_length_zero v)))
  where
    within : nat_lt slot (count * width) ≡ true
    within = lt-ltb slot (count * width) inside

    before : slot < block * width → is_elsewhere width count block slot ≡ true
    before less =
        λ k. within k && not (lt-leb (block * width) slot less k && nat_lt slot (block * width + width))

    after : block * width + width ≤ slot → is_elsewhere width count block slot ≡ true
    after le =
        (λ k. within k && not (nat_le (block * width) slot && le-ltb slot (block * width + width) le k)) ∙ go (nat_le (block * width) slot)
      where
        go : (b : Bool) → (true && not (b && false)) ≡ true
        go true = refl
        go false = refl

module _ (plans : List Plan) (what : Collective) (width count block : ℕ) (excludes : FaultExcludesCertified) (good : IsCertifiedIn what width block plans) where
  abbrev first : Store
  first = initial_in what width block (length plans)

  abbrev wish : ℕ → ℕ → Value → Bool
  wish = keeps_out width count block

  -- a certified block has no fault before the wrong slots, whatever values are wanted
  certified_has_no_fault_before_wrong : (other : CertFault) → fault_place other < 8 → HasFault plans first wish other → ⊥
  certified_has_no_fault_before_wrong (TooLarge rank) less has = excludes plans first (wanted_in what width block (length plans)) (TooLarge rank) has good
  certified_has_no_fault_before_wrong (Wildcard op) less has = excludes plans first (wanted_in what width block (length plans)) (Wildcard op) has good
  certified_has_no_fault_before_wrong (DoubleChannel y x) less has = excludes plans first (wanted_in what width block (length plans)) (DoubleChannel y x) has good
  certified_has_no_fault_before_wrong (Unpaired op) less has = excludes plans first (wanted_in what width block (length plans)) (Unpaired op) has good
  certified_has_no_fault_before_wrong (Lengths m x) less has = excludes plans first (wanted_in what width block (length plans)) (Lengths m x) has good
  certified_has_no_fault_before_wrong (Race rank lower higher slot) less has = excludes plans first (wanted_in what width block (length plans)) (Race rank lower higher slot) has good
  certified_has_no_fault_before_wrong (Stalls op) less has = excludes plans first (wanted_in what width block (length plans)) (Stalls op) has good
  certified_has_no_fault_before_wrong (Weight total) less has = excludes plans first (wanted_in what width block (length plans)) (Weight total) has good
  certified_has_no_fault_before_wrong (Wrong rank slot) less has = absurd (omega (arith, less))
  certified_has_no_fault_before_wrong NoMemory less has = has

  -- so only running out of memory stops the walk
  pub certified_fault_is_no_memory : (fault : CertFault) → (fault ≡ NoMemory) ⊎ ((wanted : ℕ → ℕ → Value → Bool) → IsFirstOf plans first wanted 7 9 fault) → fault ≡ NoMemory
  certified_fault_is_no_memory fault (inl e) = e
  certified_fault_is_no_memory fault (inr is) =
      absurd (excludes plans first (wanted_in what width block (length plans)) fault (is (wanted_in what width block (length plans))).has good)

  module _ (s : Kept) (left : IsLeft plans first s) where
    -- what is kept is what each walk leaves
    read : (w : List Act) → IsWalk plans w → (rank slot : ℕ) → wish rank slot (values s rank slot) ≡ wish rank slot (value plans no_send first w rank slot)
    read w is rank slot =
        ap (λ (st : Store). wish rank slot (st rank slot)) left.values_are ∙ ap (λ (v : List Act). wish rank slot (value plans no_send first v rank slot)) (one_walk plans left.walk w left.is_walk is)

    pub all_apart : ((rank slot : ℕ) → rank < length plans → wish rank slot (values s rank slot) ≡ true) → IsCertifiedApart what width count block plans
    all_apart each = record {
      small = good.small;
      matched = good.matched;
      lengths = good.lengths;
      no_race = good.no_race;
      light = good.light;
      right = λ rank slot inside. sym (read good.matched.no_stall.walk good.matched.no_stall.is_walk rank slot) ∙ each rank slot inside;
    }

    pub least_stray : (rank slot : ℕ) → IsLeast slot_key (λ (a : SlotAt). (a.rank < length plans) × (wish a.rank a.slot (values s a.rank a.slot) ≡ false)) (record { rank = rank; slot = slot }) → IsFaultApart what width count block plans (Wrong rank slot)
    least_stray rank slot least = record { has = has; none_before = λ other less fault. certified_has_no_fault_before_wrong other less fault }
      where
        has : IsLeast slot_key (IsWrong plans first wish) (record { rank = rank; slot = slot })
        has = record {
          holds = (least.holds.0, λ w is. sym (read w is rank slot) ∙ least.holds.1);
          none_less = λ other less q. least.none_less other less (q.0, read left.walk left.is_walk other.rank other.slot ∙ q.1 left.walk left.is_walk);
        }

    -- the answers
    pub none_answer : (o : Option (ℕ × ℕ)) (ranks : ℕ) → ranks ≡ length plans → IfNone o ((rank slot : ℕ) → rank < ranks → wish rank slot (values s rank slot) ≡ true) → IfNone o (IsCertifiedApart what width count block plans)
    none_answer None ranks same all =
        all_apart (λ rank slot inside. all rank slot (omega (arith, inside, same)))
    none_answer (Some p) ranks same all = tt

    pub some_answer : (o : Option (ℕ × ℕ)) (ranks : ℕ) → ranks ≡ length plans → IfSome o (λ p. IsLeast slot_key (λ (a : SlotAt). (a.rank < ranks) × (wish a.rank a.slot (values s a.rank a.slot) ≡ false)) (record { rank = p.0; slot = p.1 })) → IfSome o (λ p. IsFaultApart what width count block plans (Wrong p.0 p.1))
    some_answer None ranks same least = tt
    some_answer (Some p) ranks same least =
        least_stray p.0 p.1 (subst (λ (n : ℕ). IsLeast slot_key (λ (a : SlotAt). (a.rank < n) × (wish a.rank a.slot (values s a.rank a.slot) ≡ false)) (record { rank = p.0; slot = p.1 })) same least)
