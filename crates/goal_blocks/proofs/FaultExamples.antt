-- Small schedules and their first faults.
use Rattle.std.proofs.Common.{⊎_elim, ℕ, zero, suc, ◌+◌, ◌^◌, ◌<◌, ◌≤◌, ◌≡◌, ◌⊎◌, inl, inr, Bool, true, false, List, [], ◌∷◌, length, slice_index_or, All, is_some, Option, Some, None, refl, sym, ap, ◌∙◌, subst, arith}
use Rattle.std.specs.List.{sum_by}
use Rattle.std.proofs.lemmas.Bool.{both_ways}
use Rattle.goal_limits.specs.Limits.{certified_op_limit, moved_limit}
use Rattle.goal_graph.specs.declared.action.OpId.{OpId}
use Rattle.goal_graph.specs.declared.plan.Kind.{Kind}
use Rattle.goal_graph.specs.declared.plan.Kind.TheVariants.{Send, Recv}
use Rattle.goal_graph.specs.declared.plan.Op.{Op}
use Rattle.goal_graph.specs.Schedule.{Plan, op_at, kind_at, places_of_rank, places_from, IsSend, IsReceive}
use Rattle.goal_graph.specs.Action.{Act, happened, oldest}
use Rattle.goal_graph.specs.Matching.{fits, pairs, partner}
use Rattle.goal_graph.specs.Order.{IsBefore, IsLess}
use Rattle.goal_limits.specs.declared.collective.Collective.TheVariants.{Bcast}
use Rattle.goal_blocks.specs.declared.cert_fault.CertFault.{CertFault}
use Rattle.goal_blocks.specs.declared.cert_fault.CertFault.TheVariants.{TooLarge, Wildcard, DoubleChannel, Unpaired, Lengths, Race, Stalls, Weight, Wrong, NoMemory}
use Rattle.goal_blocks.specs.Collectives.{initial, is_value, wanted}
use Rattle.goal_blocks.specs.Channels.{channel}
use Rattle.goal_blocks.specs.Slots.{slots_from, notes_at, slots}
use Rattle.goal_blocks.specs.Values.{Value, Store, set_slot, write, read, held_after, value}
use Rattle.goal_blocks.specs.Weight.{carried}
use Rattle.goal_blocks.specs.Walk.{no_send, IsWalk}
use Rattle.goal_blocks.specs.Certification.{NamesLowSlots, moved_count, IsSmall, IsLight, IsCertified}
use Rattle.goal_blocks.specs.Faults.{op_key, AreDouble, SlotAt, slot_key, IsWrong, HasFault, fault_place, IsCertificationFault}
use Rattle.goal_blocks.proofs.BcastOfTwo.{two, s, begun, arrived, posted, handed, served, two_is_small, matched, two_has_equal_lengths, no_race, is_walk, IsThin, thin_light, successor_slot_is_not_zero}
use Rattle.goal_blocks.proofs.Faults.{large_not_small, excludes}
use Rattle.goal_blocks.proofs.Walk.{one_walk}

-- the broadcast from rank 0, where one from rank 1 is wanted
abbrev other : Store
other = initial (Bcast 1) 2

thin_other : IsThin other
unfolding initial
thin_other = record { first = low; others = none }
  where
    low : (x : ℕ) → x < 2 → length (initial (Bcast 1) 2 x 0) ≤ 1
    low zero l = omega arith
    low (suc zero) l = omega arith
    low (suc (suc x)) l = absurd (omega (arith, l))

    none : (x k : ℕ) → x < 2 → length (initial (Bcast 1) 2 x (suc k)) ≡ 0
    none zero k l = refl
    none (suc zero) k l = rw (successor_slot_is_not_zero k) refl
    none (suc (suc x)) k l = absurd (omega (arith, l))

thin_end : IsThin (value two no_send other served)
unfolding initial held_after kind_at op_at pairs partner fits oldest read write set_slot slots notes_at slots_from
thin_end = record { first = low; others = none }
  where
    low : (x : ℕ) → x < 2 → length (value two no_send other served x 0) ≤ 1
    low zero l = omega arith
    low (suc zero) l = omega arith
    low (suc (suc x)) l = absurd (omega (arith, l))

    none : (x k : ℕ) → x < 2 → length (value two no_send other served x (suc k)) ≡ 0
    none zero k l = refl
    none (suc zero) k l = rw (successor_slot_is_not_zero k) refl
    none (suc (suc x)) k l = absurd (omega (arith, l))

served_is_light_from_other_root : IsLight two other served
unfolding initial held_after kind_at op_at pairs partner fits oldest happened read write set_slot slots notes_at slots_from carried places_from places_of_rank
served_is_light_from_other_root =
    (((((thin_light [] _ thin_other (omega arith), tt, thin_light begun _ thin_other (omega arith)), tt, thin_light arrived _ thin_other (omega arith)), tt, thin_light posted _ thin_other (omega arith)), tt, thin_light handed _ thin_other (omega arith)), tt, thin_light served _ thin_end (omega arith))

-- it is certified if any value is accepted at the end
certified_if_anything_wanted : IsCertified two other (λ r k v. true)
unfolding matched
certified_if_anything_wanted = record {
  small = two_is_small;
  matched = matched;
  lengths = two_has_equal_lengths;
  no_race = no_race;
  light = served_is_light_from_other_root;
  right = λ rank slot l. refl;
}

-- `wrong 0 slot 0`
wrong_root : IsCertificationFault two other (wanted (Bcast 1) 2) (Wrong 0 0)
unfolding initial held_after kind_at op_at pairs partner fits oldest read write set_slot slots notes_at slots_from wanted is_value
wrong_root = record { has = record { holds = (omega arith, holds); none_less = none_less }; none_before = none_before }
  where
    holds : (w : List Act) → IsWalk two w → wanted (Bcast 1) 2 0 0 (value two no_send other w 0 0) ≡ false
    holds w walk =
        subst (λ (v : List Act). wanted (Bcast 1) 2 0 0 (value two no_send other v 0 0) ≡ false) (one_walk two served w is_walk walk) refl

    none_less : (y : SlotAt) → IsLess (slot_key y) (0 ∷ 0 ∷ []) → IsWrong two other (wanted (Bcast 1) 2) y → ⊥
    none_less y (inl l) p = omega (arith, l)
    none_less y (inr (e, inl l)) p = omega (arith, l)
    none_less y (inr (e, inr (f, l))) p = l

    none_before : (f : CertFault) → fault_place f < 8 → HasFault two other (wanted (Bcast 1) 2) f → ⊥
    none_before (TooLarge rank) l has = excludes two other (λ r k v. true) (TooLarge rank) has certified_if_anything_wanted
    none_before (Wildcard op) l has = excludes two other (λ r k v. true) (Wildcard op) has certified_if_anything_wanted
    none_before (DoubleChannel y x) l has = excludes two other (λ r k v. true) (DoubleChannel y x) has certified_if_anything_wanted
    none_before (Unpaired op) l has = excludes two other (λ r k v. true) (Unpaired op) has certified_if_anything_wanted
    none_before (Lengths m x) l has = excludes two other (λ r k v. true) (Lengths m x) has certified_if_anything_wanted
    none_before (Race rank j k slot) l has = excludes two other (λ r k v. true) (Race rank j k slot) has certified_if_anything_wanted
    none_before (Stalls op) l has = excludes two other (λ r k v. true) (Stalls op) has certified_if_anything_wanted
    none_before (Weight total) l has = excludes two other (λ r k v. true) (Weight total) has certified_if_anything_wanted
    none_before (Wrong rank slot) l has = absurd (omega (arith, l))
    none_before NoMemory l has = has

-- no operation comes before operation 0 of rank 0
first_op : (y : OpId) → IsLess (op_key y) (0 ∷ 0 ∷ []) → ⊥
first_op y (inl l) = omega (arith, l)
first_op y (inr (e, inl l)) = omega (arith, l)
first_op y (inr (e, inr (f, l))) = l

abbrev send : ℕ → Op
send tag = record { kind = Send 8 1 tag; cpu = 0; nic = 0 }

abbrev recv : Op
recv = record { kind = Recv 8 (Some 0) (Some 0); cpu = 0; nic = 0 }

abbrev ranks_of : Plan → Plan → List Plan
ranks_of p q = p ∷ q ∷ []

-- of two ranks with few operations
small_two : (p q : Plan) → length p.ops ≤ certified_op_limit → length q.ops ≤ certified_op_limit → All NamesLowSlots p.notes → All NamesLowSlots q.notes → sum_by moved_count p.notes + sum_by moved_count q.notes ≤ 100 → IsSmall (ranks_of p q)
small_two p q few less low lower moved = record { operations = counts; slots = names; moves = sums }
  where
    counts : (k : ℕ) (d : Plan) → k < 2 → length (slice_index_or (ranks_of p q) k d).ops ≤ certified_op_limit
    counts zero d l = few
    counts (suc zero) d l = less
    counts (suc (suc k)) d l = absurd (omega (arith, l))

    names : (k : ℕ) (d : Plan) → k < 2 → All NamesLowSlots (slice_index_or (ranks_of p q) k d).notes
    names zero d l = low
    names (suc zero) d l = lower
    names (suc (suc k)) d l = absurd (omega (arith, l))

    sums : sum_by (λ (p : Plan). sum_by moved_count p.notes) (ranks_of p q) ≤ moved_limit
    sums = omega (arith, moved)

no_notes : All NamesLowSlots []
no_notes k d l = absurd (omega (arith, l))

-- two sends of one channel
abbrev doubled : List Plan
doubled = ranks_of (record { ops = send 0 ∷ send 0 ∷ []; deps = []; notes = [] }) (record { ops = recv ∷ []; deps = []; notes = [] })

-- `double channel 0 0 and 0 1`
two_sends : (first : Store) (wish : ℕ → ℕ → Value → Bool) → IsCertificationFault doubled first wish (DoubleChannel s (record { rank = 0; op = 1 }))
unfolding kind_at op_at channel
two_sends first wish = record { has = (record { holds = (s, pair); none_less = less }, record { holds = pair; none_less = λ y l d. first_op y l }); none_before = none_before }
  where
    pair : AreDouble doubled s (record { rank = 0; op = 1 })
    pair = record {
      in_order = inr (refl, omega arith);
      alike = inl (record { bytes = 8; to = 1; tag = 0; kind = refl }, record { bytes = 8; to = 1; tag = 0; kind = refl });
      shared = record { source = 0; target = 1; tag = 0 };
      of_first = refl;
      of_second = refl;
    }

    before : (y x : OpId) → IsBefore y x → IsLess (op_key x) (0 ∷ 1 ∷ []) → ⊥
    before y x (inl b) (inl l) = omega (arith, b, l)
    before y x (inl b) (inr (e, l)) = omega (arith, b, e)
    before y x (inr (p, b)) (inl l) = omega (arith, l)
    before y x (inr (p, b)) (inr (e, inl l)) = omega (arith, b, l)
    before y x (inr (p, b)) (inr (e, inr (f, l))) = l

    less : (x : OpId) → IsLess (op_key x) (0 ∷ 1 ∷ []) → ((y : OpId) × AreDouble doubled y x) → ⊥
    less x l d = before d.0 x d.1.in_order l

    known : (rank op room : ℕ) (from tag : Option ℕ) → kind_at doubled (record { rank = rank; op = op }) ≡ Some (Recv room from tag) → ((is_some from ≡ false) ⊎ (is_some tag ≡ false)) → ⊥
    known zero zero room from tag e w = cc e
    known zero (suc zero) room from tag e w = cc e
    known zero (suc (suc n)) room from tag e w = cc e
    known (suc zero) zero room None tag e w = cc e
    known (suc zero) zero room (Some n) None e w = cc e
    known (suc zero) zero room (Some n) (Some m) e (inl f) = both_ways _ f refl
    known (suc zero) zero room (Some n) (Some m) e (inr f) = both_ways _ f refl
    known (suc zero) (suc n) room from tag e w = cc e
    known (suc (suc n)) op room from tag e w = cc e

    none_before : (f : CertFault) → fault_place f < 2 → HasFault doubled first wish f → ⊥
    none_before (TooLarge rank) l has =
        large_not_small doubled rank (small_two _ _ (omega arith) (omega arith) no_notes no_notes (omega arith)) has.holds
    none_before (Wildcard op) l has =
        let w = has.holds in known op.rank op.op w.room w.from w.tag w.kind w.any
    none_before _ l has = absurd (omega (arith, l))

-- a send to a rank without operations
abbrev unreceived_send : List Plan
unreceived_send =
    ranks_of (record { ops = send 0 ∷ []; deps = []; notes = [] }) (record { ops = []; deps = []; notes = [] })

sole : (x : OpId) (k : Kind) → kind_at unreceived_send x ≡ Some k → (x ≡ s) × (k ≡ Send 8 1 0)
unfolding kind_at op_at
sole x k e = go x.rank x.op e
  where
    go : (rank op : ℕ) → kind_at unreceived_send (record { rank = rank; op = op }) ≡ Some k → (record { rank = rank; op = op } ≡ s) × (k ≡ Send 8 1 0)
    go zero zero e = (refl, cc e)
    go zero (suc n) e = absurd (cc e)
    go (suc zero) op e = absurd (cc e)
    go (suc (suc n)) op e = absurd (cc e)

no_receive : (x : OpId) → IsReceive unreceived_send x → ⊥
no_receive x i = let e = (sole x _ i.kind).1 in cc e

-- `unpaired 0 0`
lost_send : (first : Store) (wish : ℕ → ℕ → Value → Bool) → IsCertificationFault unreceived_send first wish (Unpaired s)
unfolding kind_at op_at
lost_send first wish = record { has = record { holds = inl (record { bytes = 8; to = 1; tag = 0; kind = refl }, λ y one. no_receive y one.is_receive); none_less = λ y l p. first_op y l }; none_before = none_before }
  where
    same : (y x : OpId) → ((IsSend unreceived_send y × IsSend unreceived_send x) ⊎ (IsReceive unreceived_send y × IsReceive unreceived_send x)) → IsBefore y x → ⊥
    same y x (inr p) b = no_receive y p.0
    same y x (inl p) b =
        let e = (sole y _ p.0.kind).0 ∙ sym (sole x _ p.1.kind).0 in
        let ranks = ap (λ (z : OpId). z.rank) e in
        let ops = ap (λ (z : OpId). z.op) e in
        ⊎_elim (λ l. omega (arith, l, ranks)) (λ l. let lower = l.1 in omega (arith, lower, ops)) b

    none_before : (f : CertFault) → fault_place f < 3 → HasFault unreceived_send first wish f → ⊥
    none_before (TooLarge rank) l has =
        large_not_small unreceived_send rank (small_two _ _ (omega arith) (omega arith) no_notes no_notes (omega arith)) has.holds
    none_before (Wildcard op) l has =
        let w = has.holds in no_receive op (record { room = w.room; from = w.from; tag = w.tag; kind = w.kind })
    none_before (DoubleChannel y x) l has = let d = has.1.holds in same y x d.alike d.in_order
    none_before _ l has = absurd (omega (arith, l))
