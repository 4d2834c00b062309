-- How the answers of stages join, what a stage without a fault says of the schedule, and what makes such an answer.
use Rattle.std.proofs.Common.{⊎_elim, ℕ, ◌+◌, ◌≤◌, ◌≡◌, inl, inr, Bool, true, List, [], Result, Ok, Err, OnOk, IfErr, refl, arith}
use Rattle.std.proofs.lemmas.Bool.{cases_lt}
use Rattle.goal_graph.specs.declared.action.OpId.{OpId}
use Rattle.goal_graph.specs.Schedule.{Plan}
use Rattle.goal_blocks.specs.declared.cert_fault.CertFault.{CertFault}
use Rattle.goal_blocks.specs.declared.cert_fault.CertFault.TheVariants.{TooLarge, Wildcard, DoubleChannel, Unpaired, Lengths, Race, Stalls, Weight, Wrong, NoMemory}
use Rattle.goal_blocks.specs.Values.{Value, Store}
use Rattle.goal_blocks.specs.Channels.{HasNoWildcard, HasNoDoubleChannel}
use Rattle.goal_blocks.specs.Certification.{IsSmall, HasEqualLengths}
use Rattle.goal_blocks.specs.Faults.{IsLeast, rank_key, op_key, IsLarge, IsWildcard, AreDouble, IsUnpaired, HaveOtherLengths, HasFault, fault_place}
use Rattle.goal_blocks.proofs.ForCallers.{holds_of_none_without_least, small_if_no_rank_large, no_wildcard_if_no_fault, no_double_channel_if_no_fault, equal_lengths_if_no_fault}
use Rattle.goal_certify.specs.Stages.{HasNone, IsFirstOf, IsFree, IsStopped}

module _ (plans : List Plan) where
  module _ (first : Store) (wanted : ℕ → ℕ → Value → Bool) where
    -- no fault of two neighbouring stages
    pub none_joined : (a b c : ℕ) → HasNone plans first wanted a b → HasNone plans first wanted b c → HasNone plans first wanted a c
    none_joined a b c lower upper fault from under has =
        ⊎_elim (λ l. lower fault from l has) (λ g. upper fault g under has) (cases_lt (fault_place fault) b)

    -- the first fault of a stage, where the one before has none
    pub first_fault_with_earlier_start : (a b c : ℕ) (fault : CertFault) → a ≤ b → HasNone plans first wanted a b → IsFirstOf plans first wanted b c fault → IsFirstOf plans first wanted a c fault
    first_fault_with_earlier_start a b c fault le lower is = record {
      has = is.has;
      not_under = omega (arith, le, is.not_under);
      under = is.under;
      none_before = none_joined a b (fault_place fault) lower is.none_before;
    }

    -- the first fault of a stage, with those that follow it
    pub first_fault_with_later_end : (a b c : ℕ) (fault : CertFault) → b ≤ c → IsFirstOf plans first wanted a b fault → IsFirstOf plans first wanted a c fault
    first_fault_with_later_end a b c fault le is = record {
      has = is.has;
      not_under = is.not_under;
      under = omega (arith, le, is.under);
      none_before = is.none_before;
    }

  pub free_joined : (a b c : ℕ) → IsFree plans a b → IsFree plans b c → IsFree plans a c
  free_joined a b c lower upper first wanted =
      none_joined first wanted a b c (lower first wanted) (upper first wanted)

  -- a part of the kinds that a stage looks for
  pub free_within : (a b c d : ℕ) → a ≤ b → c ≤ d → IsFree plans a d → IsFree plans b c
  free_within a b c d low high free first wanted fault from under has =
      free first wanted fault (omega (arith, low, from)) (omega (arith, high, under)) has

  pub stopped_with_earlier_start : (a b c : ℕ) (fault : CertFault) → a ≤ b → IsFree plans a b → IsStopped plans b c fault → IsStopped plans a c fault
  stopped_with_earlier_start a b c fault le free (inl e) = inl e
  stopped_with_earlier_start a b c fault le free (inr is) =
      inr (λ first wanted. first_fault_with_earlier_start first wanted a b c fault le (free first wanted) (is first wanted))

  pub stopped_with_later_end : (a b c : ℕ) (fault : CertFault) → b ≤ c → IsStopped plans a b fault → IsStopped plans a c fault
  stopped_with_later_end a b c fault le (inl e) = inl e
  stopped_with_later_end a b c fault le (inr is) =
      inr (λ first wanted. first_fault_with_later_end first wanted a b c fault le (is first wanted))

  -- the answer of a stage after one that has no fault
  pub free_on_ok_with_earlier_start : {T : Type 0} (r : Result T CertFault) (a b c : ℕ) → IsFree plans a b → OnOk r (IsFree plans b c) → OnOk r (IsFree plans a c)
  free_on_ok_with_earlier_start (Ok x) a b c lower upper = free_joined a b c lower upper
  free_on_ok_with_earlier_start (Err fault) a b c lower upper = tt

  pub stopped_on_err_with_earlier_start : {T : Type 0} (r : Result T CertFault) (a b c : ℕ) → a ≤ b → IsFree plans a b → IfErr r (IsStopped plans b c) → IfErr r (IsStopped plans a c)
  stopped_on_err_with_earlier_start (Ok x) a b c le free stopped = tt
  stopped_on_err_with_earlier_start (Err fault) a b c le free stopped = stopped_with_earlier_start a b c fault le free stopped

  -- a fault of the one kind that a stage looks for is its first
  pub stopped_by : (n : ℕ) (fault : CertFault) → fault_place fault ≡ n → ((first : Store) (wanted : ℕ → ℕ → Value → Bool) → HasFault plans first wanted fault) → IsStopped plans n (n + 1) fault
  stopped_by n fault at has =
      inr (λ first wanted. record { has = has first wanted; not_under = omega (arith, at); under = omega (arith, at); none_before = λ other from under h. omega (arith, at, from, under) })

  pub free_large : ((rank : ℕ) → IsLarge plans rank → ⊥) → IsFree plans 0 1
  free_large none first wanted (TooLarge rank) from under has = none rank has.holds
  free_large none first wanted (Wildcard op) from under has = omega (arith, under)
  free_large none first wanted (DoubleChannel y x) from under has = omega (arith, under)
  free_large none first wanted (Unpaired op) from under has = omega (arith, under)
  free_large none first wanted (Lengths m x) from under has = omega (arith, under)
  free_large none first wanted (Race rank lower higher slot) from under has = omega (arith, under)
  free_large none first wanted (Stalls op) from under has = omega (arith, under)
  free_large none first wanted (Weight total) from under has = omega (arith, under)
  free_large none first wanted (Wrong rank slot) from under has = omega (arith, under)
  free_large none first wanted NoMemory from under has = omega (arith, under)

  pub free_wildcard : ((x : OpId) → IsWildcard plans x → ⊥) → IsFree plans 1 2
  free_wildcard none first wanted (TooLarge rank) from under has = omega (arith, from)
  free_wildcard none first wanted (Wildcard op) from under has = none op has.holds
  free_wildcard none first wanted (DoubleChannel y x) from under has = omega (arith, under)
  free_wildcard none first wanted (Unpaired op) from under has = omega (arith, under)
  free_wildcard none first wanted (Lengths m x) from under has = omega (arith, under)
  free_wildcard none first wanted (Race rank lower higher slot) from under has = omega (arith, under)
  free_wildcard none first wanted (Stalls op) from under has = omega (arith, under)
  free_wildcard none first wanted (Weight total) from under has = omega (arith, under)
  free_wildcard none first wanted (Wrong rank slot) from under has = omega (arith, under)
  free_wildcard none first wanted NoMemory from under has = omega (arith, under)

  pub free_double : ((y x : OpId) → AreDouble plans y x → ⊥) → IsFree plans 2 3
  free_double none first wanted (TooLarge rank) from under has = omega (arith, from)
  free_double none first wanted (Wildcard op) from under has = omega (arith, from)
  free_double none first wanted (DoubleChannel y x) from under has = none y x has.1.holds
  free_double none first wanted (Unpaired op) from under has = omega (arith, under)
  free_double none first wanted (Lengths m x) from under has = omega (arith, under)
  free_double none first wanted (Race rank lower higher slot) from under has = omega (arith, under)
  free_double none first wanted (Stalls op) from under has = omega (arith, under)
  free_double none first wanted (Weight total) from under has = omega (arith, under)
  free_double none first wanted (Wrong rank slot) from under has = omega (arith, under)
  free_double none first wanted NoMemory from under has = omega (arith, under)

  pub free_unpaired : ((x : OpId) → IsUnpaired plans x → ⊥) → IsFree plans 3 4
  free_unpaired none first wanted (TooLarge rank) from under has = omega (arith, from)
  free_unpaired none first wanted (Wildcard op) from under has = omega (arith, from)
  free_unpaired none first wanted (DoubleChannel y x) from under has = omega (arith, from)
  free_unpaired none first wanted (Unpaired op) from under has = none op has.holds
  free_unpaired none first wanted (Lengths m x) from under has = omega (arith, under)
  free_unpaired none first wanted (Race rank lower higher slot) from under has = omega (arith, under)
  free_unpaired none first wanted (Stalls op) from under has = omega (arith, under)
  free_unpaired none first wanted (Weight total) from under has = omega (arith, under)
  free_unpaired none first wanted (Wrong rank slot) from under has = omega (arith, under)
  free_unpaired none first wanted NoMemory from under has = omega (arith, under)

  pub free_lengths : ((m x : OpId) → HaveOtherLengths plans m x → ⊥) → IsFree plans 4 5
  free_lengths none first wanted (TooLarge rank) from under has = omega (arith, from)
  free_lengths none first wanted (Wildcard op) from under has = omega (arith, from)
  free_lengths none first wanted (DoubleChannel y x) from under has = omega (arith, from)
  free_lengths none first wanted (Unpaired op) from under has = omega (arith, from)
  free_lengths none first wanted (Lengths m x) from under has = none m x has.1.holds
  free_lengths none first wanted (Race rank lower higher slot) from under has = omega (arith, under)
  free_lengths none first wanted (Stalls op) from under has = omega (arith, under)
  free_lengths none first wanted (Weight total) from under has = omega (arith, under)
  free_lengths none first wanted (Wrong rank slot) from under has = omega (arith, under)
  free_lengths none first wanted NoMemory from under has = omega (arith, under)

  -- some store and some wish, since the first kinds of faults say nothing of them
  no_store : Store
  no_store rank slot = []

  no_wish : ℕ → ℕ → Value → Bool
  no_wish rank slot v = true

  pub small_free : IsFree plans 0 1 → IsSmall plans
  small_free free =
      small_if_no_rank_large plans (holds_of_none_without_least 1 rank_key (λ n. refl) (IsLarge plans) (λ n l. free no_store no_wish (TooLarge n) (omega arith) (omega arith) l))

  pub wildcard_free : IsFree plans 1 2 → HasNoWildcard plans
  wildcard_free free =
      no_wildcard_if_no_fault plans (holds_of_none_without_least 2 op_key (λ x. refl) (IsWildcard plans) (λ x l. free no_store no_wish (Wildcard x) (omega arith) (omega arith) l))

  pub double_free : IsFree plans 2 3 → HasNoDoubleChannel plans
  double_free free =
      no_double_channel_if_no_fault plans (λ y x d. holds_of_none_without_least 2 op_key (λ x. refl) (λ x. (y : OpId) × AreDouble plans y x) (λ x l. least x l) x (y, d))
    where
      least : (x : OpId) → IsLeast op_key (λ x. (y : OpId) × AreDouble plans y x) x → ⊥
      least x l =
          holds_of_none_without_least 2 op_key (λ y. refl) (λ y. AreDouble plans y x) (λ y f. free no_store no_wish (DoubleChannel y x) (omega arith) (omega arith) (l, f)) l.holds.0 l.holds.1

  pub lengths_free : IsFree plans 4 5 → HasEqualLengths plans
  lengths_free free =
      equal_lengths_if_no_fault plans (λ m x d. holds_of_none_without_least 2 op_key (λ m. refl) (λ m. (x : OpId) × HaveOtherLengths plans m x) (λ m l. least m l) m (x, d))
    where
      least : (m : OpId) → IsLeast op_key (λ m. (x : OpId) × HaveOtherLengths plans m x) m → ⊥
      least m l =
          holds_of_none_without_least 2 op_key (λ x. refl) (λ x. HaveOtherLengths plans m x) (λ x f. free no_store no_wish (Lengths m x) (omega arith) (omega arith) (l, f)) l.holds.0 l.holds.1
