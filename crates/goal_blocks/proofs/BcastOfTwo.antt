-- The broadcast of two ranks is certified.
use Rattle.std.proofs.Common.{⊎_elim, ℕ, zero, suc, ◌^◌, ◌==◌, ◌<◌, ◌≤◌, ◌≡◌, ◌⊎◌, inl, inr, Bool, true, false, List, [], ◌∷◌, length, slice_index_or, All, is_some, Contains, Option, Some, None, refl, sym, ap, ◌∙◌, subst, arith}
use Rattle.std.proofs.lemmas.Bool.{both_ways, ne_eqb}
use Rattle.goal_graph.specs.declared.action.OpId.{OpId}
use Rattle.goal_graph.specs.declared.action.Class.{Class}
use Rattle.goal_graph.specs.declared.action.Class.TheVariants.{Arrive, Serve, Data, Post, Begin}
use Rattle.goal_graph.specs.declared.plan.Kind.{Kind}
use Rattle.goal_graph.specs.declared.plan.Kind.TheVariants.{Send, Recv}
use Rattle.goal_graph.specs.declared.plan.Note.{Note}
use Rattle.goal_graph.specs.declared.plan.Note.TheVariants.{Moves}
use Rattle.goal_graph.specs.Schedule.{Plan, op_at, kind_at, deps_at, needs, places_of_rank, places_from, operations, IsSend, IsReceive}
use Rattle.goal_graph.specs.Action.{Act, happened, oldest}
use Rattle.goal_graph.specs.Matching.{fits, pairs, partner}
use Rattle.goal_graph.specs.Allowed.{has_ended, is_ready, allowed}
use Rattle.goal_graph.specs.Interleaving.{IsInterleaving}
use Rattle.goal_graph.specs.Order.{IsBefore}
use Rattle.goal_graph.proofs.ForCallers.{kind_listed, listed_places}
use Rattle.goal_limits.specs.declared.collective.Collective.TheVariants.{Bcast}
use Rattle.goal_blocks.specs.Channels.{channel, AreOfOneChannel, HasNoWildcard, HasNoDoubleChannel, HasNoUnpaired}
use Rattle.goal_blocks.specs.Collectives.{initial, is_value, wanted}
use Rattle.goal_blocks.specs.Slots.{written_in, touched_in, slots_from, notes_at, slots, adds, written, touched}
use Rattle.goal_blocks.specs.Race.{HasNoRace}
use Rattle.goal_blocks.specs.Values.{Store, Held, set_slot, write, read, held_after, value}
use Rattle.goal_blocks.specs.Weight.{sum_below, stored, carried, weight}
use Rattle.goal_blocks.specs.Walk.{no_send, ComesFirst, IsWalk, TakesFirst, AllEnd}
use Rattle.goal_blocks.specs.Matched.{IsMatched}
use Rattle.goal_blocks.specs.Certification.{NamesLowSlots, IsSmall, HasEqualLengths, IsLight, HoldsWanted, IsCertified}
use Rattle.std.specs.Int.Count.{count_leading_zeros}
use Rattle.goal_limits.specs.Limits.{certified_op_limit, weight_limit}
use Rattle.goal_blocks.specs.Entries.{plan_by, made_by}
use Rattle.goal_blocks.specs.Positions.{ahead, back, digits}
use Rattle.goal_blocks.specs.Made.{bcast_in, bcast_count}
use Rattle.goal_blocks.specs.Generated.{made}
use Rattle.goal_blocks.specs.Certified.{IsCertifiedFor}
use Rattle.goal_blocks.specs.Laws.{BcastOfTwoIsCertified}
use Rattle.goal_blocks.proofs.SomeWalk.{NoneOf, takes_first, nothing_allowed_if_none_found}

abbrev pub two : List Plan
two =
    record { ops = record { kind = Send 8 1 0; cpu = 0; nic = 0 } ∷ []; deps = []; notes = Moves 0 0 0 ∷ [] }
    ∷ record { ops = record { kind = Recv 8 (Some 0) (Some 0); cpu = 0; nic = 0 } ∷ []; deps = []; notes = Moves 0 0 0 ∷ [] }
    ∷ []

abbrev pub s : OpId
s = record { rank = 0; op = 0 }

abbrev pub r : OpId
r = record { rank = 1; op = 0 }

is_send : IsSend two s
unfolding kind_at op_at
is_send = record { bytes = 8; to = 1; tag = 0; kind = refl }

is_receive : IsReceive two r
unfolding kind_at op_at
is_receive = record { room = 8; from = Some 0; tag = Some 0; kind = refl }

listed_is_send_or_receive : (x : OpId) → Contains (operations two) x → (x ≡ s) ⊎ (x ≡ r)
unfolding places_from places_of_rank
listed_is_send_or_receive x (zero, b, e) = inl (sym e)
listed_is_send_or_receive x (suc zero, b, e) = inr (sym e)
listed_is_send_or_receive x (suc (suc k), b, e) = absurd (omega (arith, b))

operation_is_send_or_receive : (x : OpId) (k : Kind) → kind_at two x ≡ Some k → (x ≡ s) ⊎ (x ≡ r)
operation_is_send_or_receive x k e = listed_is_send_or_receive x (kind_listed two x k e)

only_one_send : (x : OpId) → IsSend two x → x ≡ s
unfolding kind_at op_at
only_one_send x m =
    ⊎_elim (λ e. e) (λ e. absurd (let f = sym (ap (λ (y : OpId). kind_at two y) e) ∙ m.kind in cc f)) (operation_is_send_or_receive x _ m.kind)

only_one_receive : (x : OpId) → IsReceive two x → x ≡ r
unfolding kind_at op_at
only_one_receive x m =
    ⊎_elim (λ e. absurd (let f = sym (ap (λ (y : OpId). kind_at two y) e) ∙ m.kind in cc f)) (λ e. e) (operation_is_send_or_receive x _ m.kind)

pub two_is_small : IsSmall two
two_is_small = record { operations = counts; slots = names; moves = omega arith }
  where
    low : (k : ℕ) (d : Note) → k < 1 → NamesLowSlots (slice_index_or (Moves 0 0 0 ∷ []) k d)
    low zero d l = (omega arith, omega arith)
    low (suc k) d l = absurd (omega (arith, l))

    counts : (k : ℕ) (d : Plan) → k < 2 → length (slice_index_or two k d).ops ≤ certified_op_limit
    counts zero d l = omega arith
    counts (suc zero) d l = omega arith
    counts (suc (suc k)) d l = absurd (omega (arith, l))

    names : (k : ℕ) (d : Plan) → k < 2 → All NamesLowSlots (slice_index_or two k d).notes
    names zero d l = low
    names (suc zero) d l = low
    names (suc (suc k)) d l = absurd (omega (arith, l))

pub no_wildcard : HasNoWildcard two
unfolding kind_at op_at
no_wildcard x room from tag e =
    ⊎_elim (λ p. absurd (let f = sym (ap (λ (y : OpId). kind_at two y) p) ∙ e in cc f)) (λ p. let f : ◌≡◌ {A = Option Kind} (Some (Recv 8 (Some 0) (Some 0))) (Some (Recv room from tag)) = sym (ap (λ (y : OpId). kind_at two y) p) ∙ e in (ap (λ (k : Option Kind). is_source k) (sym f), ap (λ (k : Option Kind). is_tag k) (sym f))) (operation_is_send_or_receive x _ e)
  where
    is_source : Option Kind → Bool
    is_source (Some (Recv room from tag)) = is_some from
    is_source _ = true

    is_tag : Option Kind → Bool
    is_tag (Some (Recv room from tag)) = is_some tag
    is_tag _ = true

pub no_double_channel : HasNoDoubleChannel two
no_double_channel = record {
  sends = λ m n c p q e f. only_one_send m p ∙ sym (only_one_send n q);
  receives = λ x y c p q e f. only_one_receive x p ∙ sym (only_one_receive y q);
}

one_channel : AreOfOneChannel two s r
unfolding channel kind_at op_at
one_channel = record { is_send = is_send; is_receive = is_receive; shared = record { source = 0; target = 1; tag = 0 }; of_send = refl; of_receive = refl }

pub no_unpaired : HasNoUnpaired two
no_unpaired = record {
  sends = λ m p. (r, subst (λ (x : OpId). AreOfOneChannel two x r) (sym (only_one_send m p)) one_channel);
  receives = λ x p. (s, subst (λ (y : OpId). AreOfOneChannel two s y) (sym (only_one_receive x p)) one_channel);
}

pub two_has_equal_lengths : HasEqualLengths two
unfolding slots notes_at slots_from
two_has_equal_lengths m x one =
    ap (λ (y : OpId). length (slots two y)) (only_one_send m one.is_send) ∙ sym (ap (λ (y : OpId). length (slots two y)) (only_one_receive x one.is_receive))

-- only the two operations touch slots
touching : (x : OpId) (k : ℕ) → Contains (touched two x) k → (x ≡ s) ⊎ (x ≡ r)
unfolding touched
touching x k c = go (kind_at two x) refl c
  where
    go : (o : Option Kind) → kind_at two x ≡ o → Contains (touched_in o (slots two x) (adds two x)) k → (x ≡ s) ⊎ (x ≡ r)
    go None e c = absurd (omega (arith, c.1))
    go (Some kind) e c = operation_is_send_or_receive x kind e

writing_is_send_or_receive : (x : OpId) (k : ℕ) → Contains (written two x) k → (x ≡ s) ⊎ (x ≡ r)
unfolding written
writing_is_send_or_receive x k c = go (kind_at two x) refl c
  where
    go : (o : Option Kind) → kind_at two x ≡ o → Contains (written_in o (slots two x) (adds two x)) k → (x ≡ s) ⊎ (x ≡ r)
    go None e c = absurd (omega (arith, c.1))
    go (Some kind) e c = operation_is_send_or_receive x kind e

pub no_race : HasNoRace two
no_race x y c =
    absurd (go (touching x c.slot c.is_touched) (writing_is_send_or_receive y c.slot c.is_written))
  where
    go : ((x ≡ s) ⊎ (x ≡ r)) → ((y ≡ s) ⊎ (y ≡ r)) → ⊥
    go (inl e) (inl f) = c.two (e ∙ sym f)
    go (inr e) (inr f) = c.two (e ∙ sym f)
    go (inl e) (inr f) =
        let a = ap (λ (z : OpId). z.rank) e in let b = ap (λ (z : OpId). z.rank) f in let same = c.one_rank in omega (arith, a, b, same)
    go (inr e) (inl f) =
        let a = ap (λ (z : OpId). z.rank) e in let b = ap (λ (z : OpId). z.rank) f in let same = c.one_rank in omega (arith, a, b, same)

abbrev pub act : Class → OpId → Act
act c x = record { class = c; op = x }

abbrev pub begun : List Act
begun = act Begin s ∷ []

abbrev pub arrived : List Act
arrived = act Arrive s ∷ begun

abbrev pub posted : List Act
posted = act Post r ∷ arrived

abbrev pub handed : List Act
handed = act Data s ∷ posted

abbrev pub served : List Act
served = act Serve r ∷ handed

served_is_interleaving : IsInterleaving two no_send served
unfolding allowed happened is_ready needs deps_at kind_at op_at pairs partner fits oldest
served_is_interleaving = (((((tt, refl), refl), refl), refl), refl)

-- the receive cannot happen before the send has no action left
first : (h : List Act) (c : Class) → IsInterleaving two no_send h → allowed two no_send h c r ≡ true → ((d : Class) → allowed two no_send h d s ≡ false) → (b : Act) → allowed two no_send h b.class b.op ≡ true → ComesFirst (act c r) b
first h c run e none = takes_first two h (act c r) run (record { may = e; first = stands })
  where
    stands : (y : OpId) → Contains (operations two) y → (d : Class) → allowed two no_send h d y ≡ true → (r ≡ y) ⊎ IsBefore r y
    stands y m d a =
        ⊎_elim (λ f. absurd (both_ways _ (none d) (subst (λ (z : OpId). allowed two no_send h d z ≡ true) f a))) (λ f. inl (sym f)) (listed_is_send_or_receive y m)

send_comes_first : (h : List Act) (c : Class) → IsInterleaving two no_send h → allowed two no_send h c s ≡ true → (b : Act) → allowed two no_send h b.class b.op ≡ true → ComesFirst (act c s) b
send_comes_first h c run e = takes_first two h (act c s) run (record { may = e; first = stands })
  where
    stands : (y : OpId) → Contains (operations two) y → (d : Class) → allowed two no_send h d y ≡ true → (s ≡ y) ⊎ IsBefore s y
    stands y m d a =
        ⊎_elim (λ f. inl (sym f)) (λ f. inr (subst (λ (z : OpId). IsBefore s z) (sym f) (inl (omega arith)))) (listed_is_send_or_receive y m)

send_not_allowed_after_arrival : (d : Class) → allowed two no_send arrived d s ≡ false
unfolding allowed happened is_ready needs deps_at kind_at op_at pairs partner fits oldest
send_not_allowed_after_arrival Arrive = refl
send_not_allowed_after_arrival Serve = refl
send_not_allowed_after_arrival Data = refl
send_not_allowed_after_arrival Post = refl
send_not_allowed_after_arrival Begin = refl

send_not_allowed_after_data : (d : Class) → allowed two no_send handed d s ≡ false
unfolding allowed happened is_ready needs deps_at kind_at op_at pairs partner fits oldest
send_not_allowed_after_data Arrive = refl
send_not_allowed_after_data Serve = refl
send_not_allowed_after_data Data = refl
send_not_allowed_after_data Post = refl
send_not_allowed_after_data Begin = refl

served_takes_first : TakesFirst two served
served_takes_first =
    (((((tt, send_comes_first [] Begin tt served_is_interleaving.0.0.0.0.1), send_comes_first begun Arrive served_is_interleaving.0.0.0.0 served_is_interleaving.0.0.0.1), first arrived Post served_is_interleaving.0.0.0 served_is_interleaving.0.0.1 send_not_allowed_after_arrival), send_comes_first posted Data served_is_interleaving.0.0 served_is_interleaving.0.1), first handed Serve served_is_interleaving.0 served_is_interleaving.1 send_not_allowed_after_data)

none_left : NoneOf two served (operations two)
unfolding allowed happened is_ready needs deps_at kind_at op_at pairs partner fits oldest
none_left x m d =
    ⊎_elim (λ e. subst (λ (z : OpId). allowed two no_send served d z ≡ false) (sym e) (of_send d)) (λ e. subst (λ (z : OpId). allowed two no_send served d z ≡ false) (sym e) (of_receive d)) (listed_is_send_or_receive x m)
  where
    of_send : (d : Class) → allowed two no_send served d s ≡ false
    of_send Arrive = refl
    of_send Serve = refl
    of_send Data = refl
    of_send Post = refl
    of_send Begin = refl

    of_receive : (d : Class) → allowed two no_send served d r ≡ false
    of_receive Arrive = refl
    of_receive Serve = refl
    of_receive Data = refl
    of_receive Post = refl
    of_receive Begin = refl

pub is_walk : IsWalk two served
is_walk = record {
  complete = record { each = served_is_interleaving; none_left = nothing_allowed_if_none_found two served none_left };
  in_order = served_takes_first;
}

pub all_end : AllEnd two no_send served
unfolding happened kind_at op_at
all_end x is_op =
    ⊎_elim (λ e. subst (λ (z : OpId). has_ended two no_send z served ≡ true) (sym e) refl) (λ e. subst (λ (z : OpId). has_ended two no_send z served ≡ true) (sym e) refl) (listed_is_send_or_receive x ((listed_places two x).1 is_op))

unfoldable pub matched : IsMatched two
matched = record {
  no_wildcard = no_wildcard;
  no_double_channel = no_double_channel;
  no_unpaired = no_unpaired;
  no_stall = record { walk = served; is_walk = is_walk; all_end = all_end };
}

abbrev start : Store
start = initial (Bcast 0) 2

one_slot : (n : ℕ) (f : ℕ → ℕ) → f 0 ≤ 1 → ((k : ℕ) → f (suc k) ≡ 0) → sum_below n f ≤ 1
unfolding sum_below
one_slot zero f a b = omega arith
one_slot (suc zero) f a b = omega (arith, a)
one_slot (suc (suc n)) f a b = omega (arith, one_slot (suc n) f a b, b n)

sum_of_two_ranks_at_most_two : (f : ℕ → ℕ) → f 0 ≤ 1 → f 1 ≤ 1 → sum_below 2 f ≤ 2
unfolding sum_below
sum_of_two_ranks_at_most_two f a b = omega (arith, a, b)

-- a store with at most one contribution in slot 0 of each rank, and none in other slots
pub record IsThin (store : Store) : Type 0 where
  pub first : (x : ℕ) → x < 2 → length (store x 0) ≤ 1
  pub others : (x k : ℕ) → x < 2 → length (store x (suc k)) ≡ 0

pub thin_light : (h : List Act) (held : Held) → IsThin held.store → carried two h held ≤ 1 → weight two h held ≤ weight_limit
unfolding weight stored
thin_light h held thin few =
    let each : (x : ℕ) → x < 2 → sum_below (2 ^ 32) (λ k. length (held.store x k)) ≤ 1 = λ x l. one_slot (2 ^ 32) (λ k. length (held.store x k)) (thin.first x l) (λ k. thin.others x k l) in
    let sum = sum_of_two_ranks_at_most_two (λ x. sum_below (2 ^ 32) (λ k. length (held.store x k))) (each 0 (omega arith)) (each 1 (omega arith)) in
    omega (arith, sum, few)

pub successor_slot_is_not_zero : (k : ℕ) → (suc k == 0) ≡ false
successor_slot_is_not_zero k = ne_eqb (suc k) 0 (λ e. omega (arith, e))

thin_start : IsThin start
unfolding initial
thin_start = record { first = low; others = none }
  where
    low : (x : ℕ) → x < 2 → length (initial (Bcast 0) 2 x 0) ≤ 1
    low zero l = omega arith
    low (suc zero) l = omega arith
    low (suc (suc x)) l = absurd (omega (arith, l))

    none : (x k : ℕ) → x < 2 → length (initial (Bcast 0) 2 x (suc k)) ≡ 0
    none zero k l = rw (successor_slot_is_not_zero k) refl
    none (suc zero) k l = refl
    none (suc (suc x)) k l = absurd (omega (arith, l))

thin_end : IsThin (value two no_send start served)
unfolding initial held_after kind_at op_at pairs partner fits oldest read write set_slot slots notes_at slots_from
thin_end = record { first = low; others = none }
  where
    low : (x : ℕ) → x < 2 → length (value two no_send start served x 0) ≤ 1
    low zero l = omega arith
    low (suc zero) l = omega arith
    low (suc (suc x)) l = absurd (omega (arith, l))

    none : (x k : ℕ) → x < 2 → length (value two no_send start served x (suc k)) ≡ 0
    none zero k l = rw (successor_slot_is_not_zero k) refl
    none (suc zero) k l = rw (successor_slot_is_not_zero k) refl
    none (suc (suc x)) k l = absurd (omega (arith, l))

served_is_light : IsLight two start served
unfolding initial held_after kind_at op_at pairs partner fits oldest happened read write set_slot slots notes_at slots_from carried places_from places_of_rank
served_is_light =
    (((((thin_light [] _ thin_start (omega arith), tt, thin_light begun _ thin_start (omega arith)), tt, thin_light arrived _ thin_start (omega arith)), tt, thin_light posted _ thin_start (omega arith)), tt, thin_light handed _ thin_start (omega arith)), tt, thin_light served _ thin_end (omega arith))

served_holds_wanted : HoldsWanted two (wanted (Bcast 0) 2) (value two no_send start served)
unfolding initial held_after kind_at op_at pairs partner fits oldest read write set_slot slots notes_at slots_from wanted is_value
served_holds_wanted zero zero l = refl
served_holds_wanted zero (suc k) l = rw (successor_slot_is_not_zero k) refl
served_holds_wanted (suc zero) zero l = refl
served_holds_wanted (suc zero) (suc k) l = rw (successor_slot_is_not_zero k) refl
served_holds_wanted (suc (suc x)) k l = absurd (omega (arith, l))

two_is_certified : IsCertified two start (wanted (Bcast 0) 2)
unfolding matched
two_is_certified = record {
  small = two_is_small;
  matched = matched;
  lengths = two_has_equal_lengths;
  no_race = no_race;
  light = served_is_light;
  right = served_holds_wanted;
}

two_made : two ≡ made (Bcast 0) 2 8
unfolding digits count_leading_zeros ahead back plan_by made_by bcast_in bcast_count made
two_made = refl

pub bcast_of_two : BcastOfTwoIsCertified
bcast_of_two = subst (λ (plans : List Plan). IsCertifiedFor (Bcast 0) plans) two_made two_is_certified
