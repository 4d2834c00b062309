-- The progress entry of each operation after another action.
use Rattle.std.proofs.Common.{◌≡◌, ◌==◌, ◌⊎◌, true, false, List, ◌∷◌, map, filter, Option, Some, None, inl, inr, refl, sym, ap, ◌∙◌, subst}
use Rattle.std.specs.Option.{option_map}
use Rattle.std.proofs.lemmas.Bool.{and_left, and_right, false_from_ne_true}
use Rattle.goal_graph.specs.declared.action.OpId.{OpId}
use Rattle.goal_graph.specs.declared.action.Class.{Class}
use Rattle.goal_graph.specs.declared.action.Class.TheVariants.{Arrive, Serve, Data, Post, Begin}
use Rattle.goal_graph.specs.Schedule.{Plan, operations, IsSend, IsReceive}
use Rattle.goal_graph.specs.Action.{Act, place, same_op, happened}
use Rattle.goal_graph.specs.Matching.{Pair, partner, new_pair, add_pair, pairs}
use Rattle.goal_graph.specs.Fault.{IsOp}
use Rattle.goal_graph.specs.Interleaving.{IsInterleaving}
use Rattle.goal_graph.proofs.ForCallers.{same_or_different_op, happened_new, happened_unless_newest, is_act_from, same_op_true, not_send_receive, fits_receive, fits_send, new_pair_is_of_action, pairs_unchanged_without_new_pair, partner_of_others_unchanged, IsListed, listed_partners, send_is_op, receive_is_op, same_tables, with_entry_same, with_entry_other, entry_written, same_op_swapped}
use Rattle.goal_blocks.specs.Walk.{no_send}
use Rattle.sim_match.specs.PostsAndArrivals.{is_post_or_arrival}
use Rattle.sim_match.proofs.ForCallers.{send_for_filtered, receive_for_filtered}
use Rattle.goal_certify.specs.declared.walk.entry.OpProgress.{OpProgress}
use Rattle.goal_certify.specs.WalkSoFar.{with_class, with_entry, with_pairing, with_partner, met, entry_known}

-- an entry is written, and two entries get their partners
entries_after_pairing : (y m : OpId) (e : OpProgress) (f g : OpId → OpProgress) → same_op y m ≡ false → g y ≡ record e { paired = Some m } → g m ≡ record (f m) { paired = Some y } → ((x : OpId) → same_op y x ≡ false → same_op m x ≡ false → g x ≡ f x) → (x : OpId) → with_pairing m y (with_pairing y m (with_entry y e f)) x ≡ g x
entries_after_pairing y m e f g differ here there others = entry_written m _ first g second rest
  where
    base : OpId → OpProgress
    base = with_entry y e f

    first : OpId → OpProgress
    first = with_pairing y m base

    second : g m ≡ record (first m) { paired = Some y }
    second =
        there ∙ ap (λ (d : OpProgress). record d { paired = Some y }) (sym (with_entry_other y _ base m (same_op_swapped y m differ) ∙ with_entry_other y e f m (same_op_swapped y m differ)))

    rest : (x : OpId) → same_op m x ≡ false → g x ≡ first x
    rest x d =
        elim (same_or_different_op x y) [ inl s ↦ ap g s ∙ here ∙ ap (λ (d : OpProgress). record d { paired = Some m }) (sym (with_entry_same y e f y refl)) ∙ sym (with_entry_same y _ base x s) | inr o ↦ others x (same_op_swapped x y o) d ∙ sym (with_entry_other y _ base x o ∙ with_entry_other y e f x o) ]

-- what is known of the partner is what was known
with_class_keeps_partner : (c : Class) (e : OpProgress) → record (with_class c e) { paired = e.paired } ≡ with_class c e
with_class_keeps_partner Arrive e = refl
with_class_keeps_partner Serve e = refl
with_class_keeps_partner Data e = refl
with_class_keeps_partner Post e = refl
with_class_keeps_partner Begin e = refl

module _ (plans : List Plan) (h : List Act) (a : Act) where
  -- the pair that the action makes
  abbrev pair_made : Option Pair
  pair_made = new_pair plans (pairs plans h) h a.class a.op

  -- the operation y is paired with m now
  pub record IsMet (y m : OpId) : Type 0 where
    pub apart : same_op y m ≡ false
    pub exists : IsOp plans m
    pub this : partner (pairs plans (a ∷ h)) y ≡ Some m
    pub that : partner (pairs plans (a ∷ h)) m ≡ Some y
    pub others : (x : OpId) → same_op y x ≡ false → same_op m x ≡ false → partner (pairs plans (a ∷ h)) x ≡ partner (pairs plans h) x

  -- either no one is paired anew, or the operation of the action is
  abbrev pub AfterMet : Option OpId → Type 0
  AfterMet None = (x : OpId) → partner (pairs plans (a ∷ h)) x ≡ partner (pairs plans h) x
  AfterMet (Some m) = IsMet a.op m

  module _ (now : IsInterleaving plans no_send (a ∷ h)) where
    listed_first : (p : Pair) → pair_made ≡ Some p → IsListed p (pairs plans (a ∷ h))
    unfolding pairs
    listed_first p e = subst (λ (o : Option Pair). IsListed p (add_pair (pairs plans h) o)) (sym e) (inl refl)

    apart : (m x : OpId) → IsSend plans m → IsReceive plans x → same_op m x ≡ false
    apart m x s r =
        false_from_ne_true _ (λ t. not_send_receive plans x (subst (λ (y : OpId). IsSend plans y) (same_op_true m x t) s) r)

    send_met : (p : Pair) → pair_made ≡ Some p → IsMet p.send p.recv
    send_met p e =
        let new = new_pair_is_of_action plans a h p e in
        let both = listed_partners plans no_send (a ∷ h) p now (listed_first p e) in
        let receive = fits_receive plans p.recv p.send new.met.fit in
        record {
          apart = apart p.send p.recv (fits_send plans p.recv p.send new.met.fit) receive;
          exists = receive_is_op plans p.recv receive;
          this = both.0;
          that = both.1;
          others = λ y s r. partner_of_others_unchanged plans p a h y e s r;
        }

    receive_met : (p : Pair) → pair_made ≡ Some p → IsMet p.recv p.send
    receive_met p e =
        let met = send_met p e in
        record {
          apart = same_op_swapped p.send p.recv met.apart;
          exists = send_is_op plans p.send (fits_send plans p.recv p.send (new_pair_is_of_action plans a h p e).met.fit);
          this = met.that;
          that = met.this;
          others = λ y r s. met.others y s r;
        }

    -- the pair of a Post has its receive, the pair of an Arrive its send
    made_by : (p : Pair) → pair_made ≡ Some p → ((a.class ≡ Arrive) × (a.op ≡ p.send)) ⊎ ((a.class ≡ Post) × (a.op ≡ p.recv))
    made_by p e =
        elim (new_pair_is_of_action plans a h p e).by [ inl (f, free) ↦ inl (ap (λ (b : Act). b.class) f, ap (λ (b : Act). b.op) f) | inr (f, free) ↦ inr (ap (λ (b : Act). b.class) f, ap (λ (b : Act). b.op) f) ]

    none_made : pair_made ≡ None → (o : Option OpId) → o ≡ None → AfterMet o
    none_made e o f =
        subst AfterMet (sym f) (λ (x : OpId). ap (λ (ps : List Pair). partner ps x) (pairs_unchanged_without_new_pair plans a h e))

    arrived : a.class ≡ Arrive → (o : Option OpId) → (q : Option Pair) → pair_made ≡ q → o ≡ option_map (λ (p : Pair). p.recv) q → AfterMet o
    arrived c o None s f = none_made s o f
    arrived c o (Some p) s f =
        let send : p.send ≡ a.op = elim (made_by p s) [ inl (d, g) ↦ sym g | inr (d, g) ↦ absurd (other (sym c ∙ d)) ] in
        subst AfterMet (sym f) (subst (λ (m : OpId). IsMet m p.recv) send (send_met p s))
      where
        other : Arrive ≡ Post → ⊥
        other f = cc

    posted : a.class ≡ Post → (o : Option OpId) → (q : Option Pair) → pair_made ≡ q → o ≡ option_map (λ (p : Pair). p.send) q → AfterMet o
    posted c o None s f = none_made s o f
    posted c o (Some p) s f =
        let recv : p.recv ≡ a.op = elim (made_by p s) [ inl (d, g) ↦ absurd (other (sym c ∙ d)) | inr (d, g) ↦ sym g ] in
        subst AfterMet (sym f) (subst (λ (x : OpId). IsMet x p.send) recv (receive_met p s))
      where
        other : Post ≡ Arrive → ⊥
        other f = cc

    pub after_met : (o : Option OpId) → o ≡ met plans (filter is_post_or_arrival h) a.class a.op → AfterMet o
    after_met o e = go a.class refl e
      where
        made : (c : Class) → a.class ≡ c → pair_made ≡ new_pair plans (pairs plans h) h c a.op
        made c s = ap (λ (d : Class). new_pair plans (pairs plans h) h d a.op) s

        go : (c : Class) → a.class ≡ c → o ≡ met plans (filter is_post_or_arrival h) c a.op → AfterMet o
        go Arrive s f = arrived s o _ (made Arrive s) (f ∙ receive_for_filtered plans h a.op)
        go Post s f = posted s o _ (made Post s) (f ∙ send_for_filtered plans h a.op)
        go Serve s f = none_made (made Serve s) o f
        go Data s f = none_made (made Data s) o f
        go Begin s f = none_made (made Begin s) o f

  abbrev before : OpId → OpProgress
  before = entry_known plans h

  abbrev after : OpId → OpProgress
  after = entry_known plans (a ∷ h)

  -- an operation that another action was of
  other_entry : (x : OpId) (p : Option OpId) → same_op a.op x ≡ false → partner (pairs plans (a ∷ h)) x ≡ p → after x ≡ record (before x) { paired = p }
  other_entry x p d m =
      λ i. record { arrived = same Arrive i; served = same Serve i; sent = same Data i; posted = same Post i; begun = same Begin i; paired = m i }
    where
      same : (c : Class) → happened c x (a ∷ h) ≡ happened c x h
      same c = happened_unless_newest c x a h (and_right (place a.class == place c) (same_op a.op x) d)

  -- the operation of the action
  this_entry : (p : Option OpId) → partner (pairs plans (a ∷ h)) a.op ≡ p → after a.op ≡ record (with_class a.class (before a.op)) { paired = p }
  this_entry p m = go a.class refl
    where
      new : (c : Class) → a.class ≡ c → happened c a.op (a ∷ h) ≡ true
      new c e = happened_new c a.op a h (is_act_from c a.op a e refl)

      old : (c d : Class) → a.class ≡ c → (place c == place d) ≡ false → happened d a.op (a ∷ h) ≡ happened d a.op h
      old c d e f =
          happened_unless_newest d a.op a h (and_left (place a.class == place d) (same_op a.op a.op) (ap (λ (k : Class). place k == place d) e ∙ f))

      go : (c : Class) → a.class ≡ c → after a.op ≡ record (with_class c (before a.op)) { paired = p }
      go Arrive e =
          λ i. record { arrived = new Arrive e i; served = old Arrive Serve e refl i; sent = old Arrive Data e refl i; posted = old Arrive Post e refl i; begun = old Arrive Begin e refl i; paired = m i }
      go Serve e =
          λ i. record { arrived = old Serve Arrive e refl i; served = new Serve e i; sent = old Serve Data e refl i; posted = old Serve Post e refl i; begun = old Serve Begin e refl i; paired = m i }
      go Data e =
          λ i. record { arrived = old Data Arrive e refl i; served = old Data Serve e refl i; sent = new Data e i; posted = old Data Post e refl i; begun = old Data Begin e refl i; paired = m i }
      go Post e =
          λ i. record { arrived = old Post Arrive e refl i; served = old Post Serve e refl i; sent = old Post Data e refl i; posted = new Post e i; begun = old Post Begin e refl i; paired = m i }
      go Begin e =
          λ i. record { arrived = old Begin Arrive e refl i; served = old Begin Serve e refl i; sent = old Begin Data e refl i; posted = old Begin Post e refl i; begun = new Begin e i; paired = m i }

  -- the entries after the action
  pub written_entry_is_entry_after : (o : Option OpId) → AfterMet o → (x : OpId) → with_partner a.op o (with_entry a.op (with_class a.class (before a.op)) before) x ≡ after x
  written_entry_is_entry_after None same x =
      entry_written a.op _ before after (this_entry _ (same a.op) ∙ with_class_keeps_partner a.class (before a.op)) (λ y d. other_entry y _ d (same y)) x
  written_entry_is_entry_after (Some m) is x =
      entries_after_pairing a.op m _ before after is.apart (this_entry (Some m) is.this) (other_entry m (Some a.op) is.apart is.that) (λ y d f. other_entry y _ d (is.others y d f)) x

  pub written_table_is_table_after : (o : Option OpId) → AfterMet o → map (with_partner a.op o (with_entry a.op (with_class a.class (before a.op)) before)) (operations plans) ≡ map after (operations plans)
  written_table_is_table_after o is = same_tables _ _ (operations plans) (λ i x s. written_entry_is_entry_after o is x)

  -- the partner exists
  pub met_partner_exists : (o : Option OpId) → AfterMet o → (m : OpId) → o ≡ Some m → IsOp plans m
  met_partner_exists None same m e = absurd (cc)
  met_partner_exists (Some n) is m e = subst (λ (p : OpId). IsOp plans p) (same_some e) is.exists
    where
      same_some : Some n ≡ Some m → n ≡ m
      same_some f = cc
