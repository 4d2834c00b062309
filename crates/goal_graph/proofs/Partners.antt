-- Partners and pairs. Pairs are listed newest first.
use Rattle.std.proofs.Common.{⊎_elim, ◌≡◌, ◌==◌, Bool, true, false, not, ◌&&◌, ◌⊎◌, inl, inr, List, [], ◌∷◌, Option, Some, None, if◌then◌else◌, refl, ap, sym, ◌∙◌, subst, is_some}
use Rattle.std.specs.Option.{option_or, option_map}
use Rattle.std.proofs.lemmas.Option.{same_Some}
use Rattle.std.proofs.lemmas.Bool.{and_parts, cases_Bool, both_ways, not-true, false_from_ne_true, eqb-true}
use Rattle.goal_graph.specs.declared.action.OpId.{OpId}
use Rattle.goal_graph.specs.declared.action.Class.{Class}
use Rattle.goal_graph.specs.declared.action.Class.TheVariants.{Arrive, Serve, Data, Post, Begin}
use Rattle.goal_graph.specs.Schedule.{Plan, IsSend, IsReceive}
use Rattle.goal_graph.specs.Action.{Act, place, same_op, happened, oldest}
use Rattle.goal_graph.specs.Matching.{Pair, pair_of, partner, is_paired, add_pair, new_pair, pairs, fits, is_open_receive, is_open_send}
use Rattle.goal_graph.specs.Allowed.{allowed}
use Rattle.goal_graph.specs.Interleaving.{IsInterleaving}
use Rattle.goal_graph.specs.Laws.{HaveMet}
use Rattle.goal_graph.proofs.Actions.{act_of, is_act_true, happened_none, same_op_true, same_op_itself, place_injective, happened_stays, happened_newest, happened_new, happened_cases, is_act_from}
use Rattle.goal_graph.proofs.Rules.{allowed_fresh, not_send_receive, fits_receive, fits_send}
use Rattle.goal_graph.proofs.Persist.{is_some_from, partner_stays}

-- an action that the test passes, of that operation, has happened
pub record IsFound (test : Act → Bool) (h : List Act) (y : OpId) : Type 0 where
  pub act : Act
  pub op : act.op ≡ y
  pub passes : test act ≡ true
  pub happened : happened act.class act.op h ≡ true

found_after_action : (test : Act → Bool) (a : Act) (h : List Act) (y : OpId) → IsFound test h y → IsFound test (a ∷ h) y
found_after_action test a h y f = record {
  act = f.act;
  op = f.op;
  passes = f.passes;
  happened = happened_stays f.act.class f.act.op a h f.happened;
}

pub oldest_some : (test : Act → Bool) (h : List Act) (y : OpId) → oldest test h ≡ Some y → IsFound test h y
unfolding oldest
oldest_some test [] y e = absurd (cc e)
oldest_some test (a ∷ h) y e = go (oldest_some test h y) (oldest test h) refl (test a) refl e
  where
    go : (oldest test h ≡ Some y → IsFound test h y) → (o : Option OpId) → oldest test h ≡ o → (t : Bool) → test a ≡ t → option_or o (if t then Some a.op else None) ≡ Some y → IsFound test (a ∷ h) y
    go before (Some z) p t q e = found_after_action test a h y (before (p ∙ e))
    go before None p true q e = record { act = a; op = cc; passes = q; happened = happened_newest a h }
    go before None p false q e = absurd (cc e)

pub oldest_none : (test : Act → Bool) (h : List Act) → oldest test h ≡ None → (c : Class) (x : OpId) → happened c x h ≡ true → test (act_of c x) ≡ false
unfolding oldest
oldest_none test [] e c x p = absurd (both_ways _ (happened_none c x) p)
oldest_none test (a ∷ h) e c x p = go (λ q. oldest_none test h q c x) (oldest test h) refl (test a) refl e
  where
    go : (oldest test h ≡ None → happened c x h ≡ true → test (act_of c x) ≡ false) → (o : Option OpId) → oldest test h ≡ o → (t : Bool) → test a ≡ t → option_or o (if t then Some a.op else None) ≡ None → test (act_of c x) ≡ false
    go before (Some z) q t r e = absurd (cc e)
    go before None q true r e = absurd (cc e)
    go before None q false r e =
        elim (happened_cases c x a h p) [ inl was ↦ before q was | inr now ↦ subst (λ (b : Act). test b ≡ false) (is_act_true c x a now) r ]

-- the two operations of a new pair
pub record IsNew (plans : List Plan) (h : List Act) (a : Act) (p : Pair) : Type 0 where
  pub met : HaveMet plans (a ∷ h) p.send p.recv
  pub by : ((a ≡ act_of Arrive p.send) × (is_paired (pairs plans h) p.recv ≡ false)) ⊎ ((a ≡ act_of Post p.recv) × (is_paired (pairs plans h) p.send ≡ false))

module _ (plans : List Plan) where
  new_at_arrive : (ps : List Pair) (h : List Act) (m : OpId) (p : Pair) → new_pair plans ps h Arrive m ≡ Some p → (m ≡ p.send) × IsFound (is_open_receive plans ps m) h p.recv
  new_at_arrive ps h m p e = go (oldest (is_open_receive plans ps m) h) refl e
    where
      go : (o : Option OpId) → oldest (is_open_receive plans ps m) h ≡ o → option_map (λ (x : OpId). pair_of m x) o ≡ Some p → (m ≡ p.send) × IsFound (is_open_receive plans ps m) h p.recv
      go None q e = absurd (cc e)
      go (Some x) q e =
          let same = same_Some (pair_of m x) p e in
          (ap (λ (p : Pair). p.send) same, oldest_some _ h p.recv (q ∙ ap (λ (p : Pair). Some p.recv) same))

  new_at_post : (ps : List Pair) (h : List Act) (x : OpId) (p : Pair) → new_pair plans ps h Post x ≡ Some p → (x ≡ p.recv) × IsFound (is_open_send plans ps x) h p.send
  new_at_post ps h x p e = go (oldest (is_open_send plans ps x) h) refl e
    where
      go : (o : Option OpId) → oldest (is_open_send plans ps x) h ≡ o → option_map (λ (m : OpId). pair_of m x) o ≡ Some p → (x ≡ p.recv) × IsFound (is_open_send plans ps x) h p.send
      go None q e = absurd (cc e)
      go (Some m) q e =
          let same = same_Some (pair_of m x) p e in
          (ap (λ (p : Pair). p.recv) same, oldest_some _ h p.send (q ∙ ap (λ (p : Pair). Some p.send) same))

  open_receive_passes : (ps : List Pair) (m : OpId) (a : Act) → is_open_receive plans ps m a ≡ true → (a.class ≡ Post) × (is_paired ps a.op ≡ false) × (fits plans a.op m ≡ true)
  open_receive_passes ps m a e =
      let outer = and_parts ((place a.class == 3) && not (is_paired ps a.op)) (fits plans a.op m) e in
      let inner = and_parts (place a.class == 3) (not (is_paired ps a.op)) outer.0 in
      (place_injective a.class Post (eqb-true (place a.class) 3 inner.0), not-true (is_paired ps a.op) inner.1, outer.1)

  open_send_passes : (ps : List Pair) (x : OpId) (a : Act) → is_open_send plans ps x a ≡ true → (a.class ≡ Arrive) × (is_paired ps a.op ≡ false) × (fits plans x a.op ≡ true)
  open_send_passes ps x a e =
      let outer = and_parts ((place a.class == 0) && not (is_paired ps a.op)) (fits plans x a.op) e in
      let inner = and_parts (place a.class == 0) (not (is_paired ps a.op)) outer.0 in
      (place_injective a.class Arrive (eqb-true (place a.class) 0 inner.0), not-true (is_paired ps a.op) inner.1, outer.1)

  -- a posted receive that is open for m
  found_receive_is_open : (ps : List Pair) (h : List Act) (m x : OpId) → IsFound (is_open_receive plans ps m) h x → (happened Post x h ≡ true) × (is_paired ps x ≡ false) × (fits plans x m ≡ true)
  found_receive_is_open ps h m x f =
      let p = open_receive_passes ps m f.act f.passes in
      subst (λ (y : OpId). (happened Post y h ≡ true) × (is_paired ps y ≡ false) × (fits plans y m ≡ true)) f.op (subst (λ (c : Class). happened c f.act.op h ≡ true) p.0 f.happened, p.1, p.2)

  -- an arrived send that is open for x
  found_send_is_open : (ps : List Pair) (h : List Act) (x m : OpId) → IsFound (is_open_send plans ps x) h m → (happened Arrive m h ≡ true) × (is_paired ps m ≡ false) × (fits plans x m ≡ true)
  found_send_is_open ps h x m f =
      let p = open_send_passes ps x f.act f.passes in
      subst (λ (y : OpId). (happened Arrive y h ≡ true) × (is_paired ps y ≡ false) × (fits plans x y ≡ true)) f.op (subst (λ (c : Class). happened c f.act.op h ≡ true) p.0 f.happened, p.1, p.2)

  -- the two operations of a new pair
  pub new_pair_is_of_action : (a : Act) (h : List Act) (p : Pair) → new_pair plans (pairs plans h) h a.class a.op ≡ Some p → IsNew plans h a p
  new_pair_is_of_action a h p e = go a.class refl e
    where
      go : (c : Class) → a.class ≡ c → new_pair plans (pairs plans h) h c a.op ≡ Some p → IsNew plans h a p
      go Arrive q e =
          let new = new_at_arrive (pairs plans h) h a.op p e in
          let open_one = found_receive_is_open (pairs plans h) h a.op p.recv new.1 in
          record {
            met = record {
              arrived = happened_new Arrive p.send a h (is_act_from Arrive p.send a q new.0);
              posted = happened_stays Post p.recv a h open_one.0;
              fit = subst (λ (m : OpId). fits plans p.recv m ≡ true) new.0 open_one.2;
            };
            by = inl (is_act_true Arrive p.send a (is_act_from Arrive p.send a q new.0), open_one.1);
          }
      go Post q e =
          let new = new_at_post (pairs plans h) h a.op p e in
          let open_one = found_send_is_open (pairs plans h) h a.op p.send new.1 in
          record {
            met = record {
              arrived = happened_stays Arrive p.send a h open_one.0;
              posted = happened_new Post p.recv a h (is_act_from Post p.recv a q new.0);
              fit = subst (λ (x : OpId). fits plans x p.send ≡ true) new.0 open_one.2;
            };
            by = inr (is_act_true Post p.recv a (is_act_from Post p.recv a q new.0), open_one.1);
          }
      go Serve q e = absurd (cc e)
      go Data q e = absurd (cc e)
      go Begin q e = absurd (cc e)

abbrev pub IsListed : Pair → List Pair → Type 0
IsListed p [] = ⊥
IsListed p (q ∷ ps) = (q ≡ p) ⊎ IsListed p ps

listed_or_added : (p : Pair) (o : Option Pair) (ps : List Pair) → IsListed p (add_pair ps o) → IsListed p ps ⊎ (o ≡ Some p)
listed_or_added p None ps l = inl l
listed_or_added p (Some q) ps (inl e) = inr (ap (λ (q : Pair). Some q) e)
listed_or_added p (Some q) ps (inr l) = inl l

-- an operation and its partner are in a pair of the list
pub partner_listed : (ps : List Pair) (x y : OpId) → partner ps x ≡ Some y → IsListed (pair_of x y) ps ⊎ IsListed (pair_of y x) ps
unfolding partner
partner_listed [] x y e = absurd (cc e)
partner_listed (p ∷ ps) x y e = go (partner_listed ps x y) (partner ps x) refl (same_op p.send x) refl (same_op p.recv x) refl e
  where
    go : (partner ps x ≡ Some y → IsListed (pair_of x y) ps ⊎ IsListed (pair_of y x) ps) → (o : Option OpId) → partner ps x ≡ o → (s : Bool) → same_op p.send x ≡ s → (r : Bool) → same_op p.recv x ≡ r → option_or o (if s then Some p.recv else (if r then Some p.send else None)) ≡ Some y → IsListed (pair_of x y) (p ∷ ps) ⊎ IsListed (pair_of y x) (p ∷ ps)
    go before (Some z) q s u r v e = ⊎_elim (λ l. inl (inr l)) (λ l. inr (inr l)) (before (q ∙ e))
    go before None q true u r v e =
        let send = same_op_true p.send x u in
        let recv = same_Some p.recv y e in
        inl (inl (λ i. record { send = send i; recv = recv i }))
    go before None q false u true v e =
        let recv = same_op_true p.recv x v in
        let send = same_Some p.send y e in
        inr (inl (λ i. record { send = send i; recv = recv i }))
    go before None q false u false v e = absurd (cc e)

-- a pair leaves the partners of others unchanged
partner_outside_pair : (p : Pair) (ps : List Pair) (y : OpId) → same_op p.send y ≡ false → same_op p.recv y ≡ false → partner (p ∷ ps) y ≡ partner ps y
unfolding partner
partner_outside_pair p ps y s r = go (partner ps y) (same_op p.send y) s (same_op p.recv y) r
  where
    go : (o : Option OpId) (b : Bool) → b ≡ false → (c : Bool) → c ≡ false → option_or o (if b then Some p.recv else (if c then Some p.send else None)) ≡ o
    go (Some z) b e c f = refl
    go None false e false f = refl
    go None true e c f = absurd (both_ways true e refl)
    go None false e true f = absurd (both_ways true f refl)

module _ (plans : List Plan) where
  listed_cases : (p : Pair) (a : Act) (h : List Act) → IsListed p (pairs plans (a ∷ h)) → IsListed p (pairs plans h) ⊎ (new_pair plans (pairs plans h) h a.class a.op ≡ Some p)
  unfolding pairs
  listed_cases p a h l = listed_or_added p (new_pair plans (pairs plans h) h a.class a.op) (pairs plans h) l

  pairs_with_new : (p : Pair) (a : Act) (h : List Act) → new_pair plans (pairs plans h) h a.class a.op ≡ Some p → pairs plans (a ∷ h) ≡ p ∷ pairs plans h
  unfolding pairs
  pairs_with_new p a h e = ap (λ (o : Option Pair). add_pair (pairs plans h) o) e

  -- operations that have met have met ever after
  pub have_met_stays : (a : Act) (h : List Act) (m x : OpId) → HaveMet plans h m x → HaveMet plans (a ∷ h) m x
  have_met_stays a h m x e = record {
    arrived = happened_stays Arrive m a h e.arrived;
    posted = happened_stays Post x a h e.posted;
    fit = e.fit;
  }

  no_pair_without_actions : (p : Pair) → IsListed p (pairs plans []) → ⊥
  unfolding pairs
  no_pair_without_actions p l = l

  pub listed_met : (h : List Act) (p : Pair) → IsListed p (pairs plans h) → HaveMet plans h p.send p.recv
  listed_met [] p l = absurd (no_pair_without_actions p l)
  listed_met (a ∷ h) p l =
      elim (listed_cases p a h l) [ inl was ↦ have_met_stays a h p.send p.recv (listed_met h p was) | inr new ↦ (new_pair_is_of_action plans a h p new).met ]

  -- of two partners one is a send that has arrived, the other a posted receive, and they fit
  pub partners_met : (h : List Act) (x y : OpId) → partner (pairs plans h) x ≡ Some y → HaveMet plans h x y ⊎ HaveMet plans h y x
  partners_met h x y e =
      ⊎_elim (λ l. inl (listed_met h (pair_of x y) l)) (λ l. inr (listed_met h (pair_of y x) l)) (partner_listed (pairs plans h) x y e)

  -- a paired send has arrived
  pub partner_of_send : (h : List Act) (m x : OpId) → IsSend plans m → partner (pairs plans h) m ≡ Some x → HaveMet plans h m x
  partner_of_send h m x s e =
      elim (partners_met h m x e) [ inl met ↦ met | inr met ↦ absurd (not_send_receive plans m s (fits_receive plans m x met.fit)) ]

  -- a paired receive is posted
  pub partner_of_receive : (h : List Act) (x m : OpId) → IsReceive plans x → partner (pairs plans h) x ≡ Some m → HaveMet plans h m x
  partner_of_receive h x m r e =
      elim (partners_met h x m e) [ inl met ↦ absurd (not_send_receive plans x (fits_send plans m x met.fit) r) | inr met ↦ met ]

  -- the partner of a send is a receive, that of a receive a send
  pub partner_is_receive : (h : List Act) (m x : OpId) → IsSend plans m → partner (pairs plans h) m ≡ Some x → IsReceive plans x
  partner_is_receive h m x s e = fits_receive plans x m (partner_of_send h m x s e).fit

  pub partner_is_send : (h : List Act) (x m : OpId) → IsReceive plans x → partner (pairs plans h) x ≡ Some m → IsSend plans m
  partner_is_send h x m r e = fits_send plans x m (partner_of_receive h x m r e).fit

  -- an action that makes no pair leaves the pairs unchanged
  pub pairs_unchanged_without_new_pair : (a : Act) (h : List Act) → new_pair plans (pairs plans h) h a.class a.op ≡ None → pairs plans (a ∷ h) ≡ pairs plans h
  unfolding pairs
  pairs_unchanged_without_new_pair a h e = ap (λ (o : Option Pair). add_pair (pairs plans h) o) e

  -- a new pair leaves the partners of all others unchanged
  pub partner_of_others_unchanged : (p : Pair) (a : Act) (h : List Act) (y : OpId) → new_pair plans (pairs plans h) h a.class a.op ≡ Some p → same_op p.send y ≡ false → same_op p.recv y ≡ false → partner (pairs plans (a ∷ h)) y ≡ partner (pairs plans h) y
  partner_of_others_unchanged p a h y e s r =
      ap (λ (ps : List Pair). partner ps y) (pairs_with_new p a h e) ∙ partner_outside_pair p (pairs plans h) y s r

  -- an operation that an action pairs is in its new pair
  pub newly_paired : (a : Act) (h : List Act) (x : OpId) → is_paired (pairs plans h) x ≡ false → is_paired (pairs plans (a ∷ h)) x ≡ true → (p : Pair) × (new_pair plans (pairs plans h) h a.class a.op ≡ Some p) × ((p.send ≡ x) ⊎ (p.recv ≡ x))
  newly_paired a h x free now =
      go (new_pair plans (pairs plans h) h a.class a.op) refl
    where
      go : (o : Option Pair) → new_pair plans (pairs plans h) h a.class a.op ≡ o → (p : Pair) × (new_pair plans (pairs plans h) h a.class a.op ≡ Some p) × ((p.send ≡ x) ⊎ (p.recv ≡ x))
      go None e =
          absurd (both_ways _ free (subst (λ (ps : List Pair). is_paired ps x ≡ true) (pairs_unchanged_without_new_pair a h e) now))
      go (Some p) e =
          elim (cases_Bool (same_op p.send x)) [ inl s ↦ (p, e, inl (same_op_true p.send x s)) | inr s ↦ elim (cases_Bool (same_op p.recv x)) [ inl r ↦ (p, e, inr (same_op_true p.recv x r)) | inr r ↦ absurd (both_ways _ free (subst (λ (o : Option OpId). is_some o ≡ true) (partner_of_others_unchanged p a h x e s r) now)) ] ]

  -- an operation in no pair of the list has no partner
  partner_is_none_if_no_partner : (ps : List Pair) (x : OpId) → ((y : OpId) → partner ps x ≡ Some y → ⊥) → partner ps x ≡ None
  partner_is_none_if_no_partner ps x never = go (partner ps x) refl
    where
      go : (o : Option OpId) → partner ps x ≡ o → o ≡ None
      go None e = refl
      go (Some y) e = absurd (never y e)

  -- a send that has not arrived has no partner
  pub unarrived_send_has_no_partner : (h : List Act) (m : OpId) → IsSend plans m → happened Arrive m h ≡ false → partner (pairs plans h) m ≡ None
  unarrived_send_has_no_partner h m s e =
      partner_is_none_if_no_partner (pairs plans h) m (λ x p. both_ways _ e (partner_of_send h m x s p).arrived)

  -- a receive that is not posted has no partner
  pub unposted_receive_has_no_partner : (h : List Act) (x : OpId) → IsReceive plans x → happened Post x h ≡ false → partner (pairs plans h) x ≡ None
  unposted_receive_has_no_partner h x r e =
      partner_is_none_if_no_partner (pairs plans h) x (λ m p. both_ways _ e (partner_of_receive h x m r p).posted)

  unpaired_has_no_partner : (ps : List Pair) (x : OpId) → is_paired ps x ≡ false → partner ps x ≡ None
  unpaired_has_no_partner ps x e = partner_is_none_if_no_partner ps x (λ y p. both_ways _ e (is_some_from (partner ps x) y p))

  -- a send and a receive that fit are different operations
  fit_differ : (x m : OpId) → fits plans x m ≡ true → same_op m x ≡ false
  fit_differ x m e =
      false_from_ne_true (same_op m x) (λ t. not_send_receive plans x (subst (λ (y : OpId). IsSend plans y) (same_op_true m x t) (fits_send plans x m e)) (fits_receive plans x m e))

  partners_in_new_pair : (ps : List Pair) (p : Pair) → partner ps p.send ≡ None → partner ps p.recv ≡ None → same_op p.send p.recv ≡ false → (partner (p ∷ ps) p.send ≡ Some p.recv) × (partner (p ∷ ps) p.recv ≡ Some p.send)
  unfolding partner
  partners_in_new_pair ps p e f differ =
      (at_send (partner ps p.send) e (same_op p.send p.send) (same_op_itself p.send), at_recv (partner ps p.recv) f (same_op p.send p.recv) differ (same_op p.recv p.recv) (same_op_itself p.recv))
    where
      at_send : (o : Option OpId) → o ≡ None → (s : Bool) → s ≡ true → option_or o (if s then Some p.recv else (if same_op p.recv p.send then Some p.send else None)) ≡ Some p.recv
      at_send None e true q = refl
      at_send None e false q = absurd (both_ways false refl q)
      at_send (Some y) e s q = absurd (cc e)

      at_recv : (o : Option OpId) → o ≡ None → (s : Bool) → s ≡ false → (r : Bool) → r ≡ true → option_or o (if s then Some p.recv else (if r then Some p.send else None)) ≡ Some p.send
      at_recv None e false q true u = refl
      at_recv None e false q false u = absurd (both_ways false refl u)
      at_recv None e true q r u = absurd (both_ways true q refl)
      at_recv (Some y) e s q r u = absurd (cc e)

  module _ (eager : OpId → Bool) where
    -- the operations of a new pair had no partner before
    new_unpaired : (a : Act) (h : List Act) (p : Pair) → IsInterleaving plans eager (a ∷ h) → IsNew plans h a p → (partner (pairs plans h) p.send ≡ None) × (partner (pairs plans h) p.recv ≡ None)
    new_unpaired a h p i new = go new.by
      where
        fit : fits plans p.recv p.send ≡ true
        fit = new.met.fit

        go : ((a ≡ act_of Arrive p.send) × (is_paired (pairs plans h) p.recv ≡ false)) ⊎ ((a ≡ act_of Post p.recv) × (is_paired (pairs plans h) p.send ≡ false)) → (partner (pairs plans h) p.send ≡ None) × (partner (pairs plans h) p.recv ≡ None)
        go (inl (e, free)) =
            let fresh = allowed_fresh plans eager h Arrive p.send (subst (λ (b : Act). allowed plans eager h b.class b.op ≡ true) e i.1) in
            (unarrived_send_has_no_partner h p.send (fits_send plans p.recv p.send fit) fresh, unpaired_has_no_partner (pairs plans h) p.recv free)
        go (inr (e, free)) =
            let fresh = allowed_fresh plans eager h Post p.recv (subst (λ (b : Act). allowed plans eager h b.class b.op ≡ true) e i.1) in
            (unpaired_has_no_partner (pairs plans h) p.send free, unposted_receive_has_no_partner h p.recv (fits_receive plans p.recv p.send fit) fresh)

    -- the two of each pair are partners of each other
    pub listed_partners : (h : List Act) (p : Pair) → IsInterleaving plans eager h → IsListed p (pairs plans h) → (partner (pairs plans h) p.send ≡ Some p.recv) × (partner (pairs plans h) p.recv ≡ Some p.send)
    listed_partners [] p i l = absurd (no_pair_without_actions p l)
    listed_partners (a ∷ h) p i l =
        ⊎_elim (λ was. let before = listed_partners h p i.0 was in (partner_stays plans a h p.send p.recv before.0, partner_stays plans a h p.recv p.send before.1)) (λ made. let new = new_pair_is_of_action plans a h p made in let free = new_unpaired a h p i new in subst (λ (ps : List Pair). (partner ps p.send ≡ Some p.recv) × (partner ps p.recv ≡ Some p.send)) (sym (pairs_with_new p a h made)) (partners_in_new_pair (pairs plans h) p free.0 free.1 (fit_differ p.recv p.send new.met.fit))) (listed_cases p a h l)

    -- the partner of the partner of x is x
    pub partners_mutual : (h : List Act) (x y : OpId) → IsInterleaving plans eager h → partner (pairs plans h) x ≡ Some y → partner (pairs plans h) y ≡ Some x
    partners_mutual h x y i e =
        ⊎_elim (λ l. (listed_partners h (pair_of x y) i l).1) (λ l. (listed_partners h (pair_of y x) i l).0) (partner_listed (pairs plans h) x y e)

    -- two pairs with one send are one pair
    pub pair_of_send_unique : (h : List Act) (p q : Pair) → IsInterleaving plans eager h → IsListed p (pairs plans h) → IsListed q (pairs plans h) → p.send ≡ q.send → p ≡ q
    pair_of_send_unique h p q i l k send =
        let recv = same_Some p.recv q.recv (sym (listed_partners h p i l).0 ∙ ap (λ (x : OpId). partner (pairs plans h) x) send ∙ (listed_partners h q i k).0) in
        λ t. record { send = send t; recv = recv t }

    -- two pairs with one receive are one pair
    pub pair_of_receive_unique : (h : List Act) (p q : Pair) → IsInterleaving plans eager h → IsListed p (pairs plans h) → IsListed q (pairs plans h) → p.recv ≡ q.recv → p ≡ q
    pair_of_receive_unique h p q i l k recv =
        let send = same_Some p.send q.send (sym (listed_partners h p i l).1 ∙ ap (λ (x : OpId). partner (pairs plans h) x) recv ∙ (listed_partners h q i k).1) in
        λ t. record { send = send t; recv = recv t }
