-- Who is paired after one more action.
use Rattle.std.proofs.Common.{◌≡◌, ◌⊎◌, true, false, List, ◌∷◌, Option, Some, None, filter, inl, inr, refl, sym, ap, ◌∙◌, subst}
use Rattle.std.specs.Option.{option_map}
use Rattle.std.proofs.lemmas.Bool.{both_ways}
use Rattle.std.proofs.lemmas.Option.{same_Some}
use Rattle.goal_graph.specs.declared.action.OpId.{OpId}
use Rattle.goal_graph.specs.declared.action.Timed.{Timed}
use Rattle.goal_graph.specs.declared.action.Class.{Class}
use Rattle.goal_graph.specs.declared.action.Class.TheVariants.{Arrive, Serve, Data, Post, Begin}
use Rattle.goal_graph.specs.Schedule.{Plan, IsSend, IsReceive}
use Rattle.goal_graph.specs.Action.{Act, same_op, happened, plain, plain_act}
use Rattle.goal_graph.specs.Matching.{Pair, partner, is_paired, fits, new_pair, add_pair, pairs}
use Rattle.goal_graph.specs.Allowed.{is_served, allowed}
use Rattle.goal_graph.specs.Interleaving.{IsInterleaving}
use Rattle.goal_graph.proofs.ForCallers.{act_of, is_some_from, allowed_fresh, fits_receive, fits_send, IsNew, new_pair_is_of_action, pairs_unchanged_without_new_pair, partner_of_others_unchanged, unarrived_send_has_no_partner, unposted_receive_has_no_partner, IsListed, listed_partners}
use Rattle.sim_params.specs.Costs.{CostModel, is_eager}
use Rattle.sim_params.specs.Times.{mate, Possible}
use Rattle.sim_params.specs.Run.{IsRun}
use Rattle.sim_params.proofs.ForCallers.{run_interleaving}
use Rattle.sim_match.specs.PostsAndArrivals.{is_post_or_arrival, is_post_or_arrival_class, send_for, receive_for}
use Rattle.sim_match.proofs.ForCallers.{send_for_filtered, receive_for_filtered}

unpaired_no_partner : (ps : List Pair) (x : OpId) → is_paired ps x ≡ false → partner ps x ≡ None
unpaired_no_partner ps x e = go (partner ps x) refl
  where
    go : (o : Option OpId) → partner ps x ≡ o → o ≡ None
    go None s = refl
    go (Some y) s = absurd (both_ways _ e (is_some_from (partner ps x) y s))

module _ (plans : List Plan) (costs : CostModel) (h : List Timed) (a : Timed) where
  -- a receive whose message is there has a partner
  pub served_mate : (x : OpId) → is_served plans (is_eager plans costs) (plain h) (mate plans costs h x) ≡ true → (y : OpId) × (mate plans costs h x ≡ Some y)
  served_mate x e = go (mate plans costs h x) refl e
    where
      go : (o : Option OpId) → mate plans costs h x ≡ o → is_served plans (is_eager plans costs) (plain h) o ≡ true → (y : OpId) × (mate plans costs h x ≡ Some y)
      go None s f = absurd (both_ways false refl f)
      go (Some y) s f = (y, s)

  -- the pair that the action makes
  abbrev pub pair_made : Option Pair
  pair_made = new_pair plans (pairs plans (plain h)) (plain h) a.class a.op

  -- where it makes no pair, each operation keeps its partner
  pub mates_kept_where_no_pair_made : pair_made ≡ None → (x : OpId) → mate plans costs (a ∷ h) x ≡ mate plans costs h x
  unfolding plain
  mates_kept_where_no_pair_made e x = ap (λ (ps : List Pair). partner ps x) (pairs_unchanged_without_new_pair plans (plain_act a) (plain h) e)

  -- only a Post and an Arrive make one
  pub other_makes_none : is_post_or_arrival_class a.class ≡ false → pair_made ≡ None
  other_makes_none e = go a.class e
    where
      go : (c : Class) → is_post_or_arrival_class c ≡ false → new_pair plans (pairs plans (plain h)) (plain h) c a.op ≡ None
      go Arrive f = absurd (both_ways _ f refl)
      go Post f = absurd (both_ways _ f refl)
      go Serve f = refl
      go Data f = refl
      go Begin f = refl

  -- the send m and the receive x are the new pair
  pub record ArePaired (m x : OpId) : Type 0 where
    pub send : IsSend plans m
    pub receive : IsReceive plans x
    pub free_send : mate plans costs h m ≡ None
    pub free_receive : mate plans costs h x ≡ None
    pub send_taken : mate plans costs (a ∷ h) m ≡ Some x
    pub receive_taken : mate plans costs (a ∷ h) x ≡ Some m
    pub others : (y : OpId) → same_op m y ≡ false → same_op x y ≡ false → mate plans costs (a ∷ h) y ≡ mate plans costs h y

  module _ (run : IsRun plans costs h) (possible : Possible plans costs h a) where
    free_before : (p : Pair) → IsNew plans (plain h) (plain_act a) p → (mate plans costs h p.send ≡ None) × (mate plans costs h p.recv ≡ None)
    free_before p new = go new.by
      where
        fit : fits plans p.recv p.send ≡ true
        fit = new.met.fit

        fresh : (b : Act) → plain_act a ≡ b → happened b.class b.op (plain h) ≡ false
        fresh b e =
            allowed_fresh plans (is_eager plans costs) (plain h) b.class b.op (subst (λ (b : Act). allowed plans (is_eager plans costs) (plain h) b.class b.op ≡ true) e possible.allowed)

        go : ((plain_act a ≡ act_of Arrive p.send) × (is_paired (pairs plans (plain h)) p.recv ≡ false)) ⊎ ((plain_act a ≡ act_of Post p.recv) × (is_paired (pairs plans (plain h)) p.send ≡ false)) → (mate plans costs h p.send ≡ None) × (mate plans costs h p.recv ≡ None)
        go (inl (e, free)) =
            (unarrived_send_has_no_partner plans (plain h) p.send (fits_send plans p.recv p.send fit) (fresh _ e), unpaired_no_partner _ p.recv free)
        go (inr (e, free)) =
            (unpaired_no_partner _ p.send free, unposted_receive_has_no_partner plans (plain h) p.recv (fits_receive plans p.recv p.send fit) (fresh _ e))

    listed_first : (p : Pair) → pair_made ≡ Some p → IsListed p (pairs plans (plain (a ∷ h)))
    unfolding plain pairs
    listed_first p e = subst (λ (o : Option Pair). IsListed p (add_pair (pairs plans (plain h)) o)) (sym e) (inl refl)

    others_same : (p : Pair) → pair_made ≡ Some p → (y : OpId) → same_op p.send y ≡ false → same_op p.recv y ≡ false → mate plans costs (a ∷ h) y ≡ mate plans costs h y
    unfolding plain
    others_same p e y s r = partner_of_others_unchanged plans p (plain_act a) (plain h) y e s r

    interleaving : IsInterleaving plans (is_eager plans costs) (plain (a ∷ h))
    unfolding plain
    interleaving = (run_interleaving plans costs h run, possible.allowed)

    pub one_made : (p : Pair) → pair_made ≡ Some p → ArePaired p.send p.recv
    one_made p e =
        let new = new_pair_is_of_action plans (plain_act a) (plain h) p e in
        let free = free_before p new in
        let now = listed_partners plans (is_eager plans costs) (plain (a ∷ h)) p interleaving (listed_first p e) in
        record {
          send = fits_send plans p.recv p.send new.met.fit;
          receive = fits_receive plans p.recv p.send new.met.fit;
          free_send = free.0;
          free_receive = free.1;
          send_taken = now.0;
          receive_taken = now.1;
          others = others_same p e;
        }

    -- the pair of a Post has its receive, the pair of an Arrive its send
    made_by : (p : Pair) → pair_made ≡ Some p → ((a.class ≡ Arrive) × (a.op ≡ p.send)) ⊎ ((a.class ≡ Post) × (a.op ≡ p.recv))
    made_by p e =
        elim (new_pair_is_of_action plans (plain_act a) (plain h) p e).by [ inl (f, free) ↦ inl (ap (λ (b : Act). b.class) f, ap (λ (b : Act). b.op) f) | inr (f, free) ↦ inr (ap (λ (b : Act). b.class) f, ap (λ (b : Act). b.op) f) ]

    -- a receive that is posted takes the send that the matcher answers
    pub post_none : a.class ≡ Post → send_for plans (filter is_post_or_arrival (plain h)) a.op ≡ None → (x : OpId) → mate plans costs (a ∷ h) x ≡ mate plans costs h x
    post_none c e = mates_kept_where_no_pair_made (go pair_made (ap (λ (d : Class). option_map (λ (p : Pair). p.send) (new_pair plans (pairs plans (plain h)) (plain h) d a.op)) c ∙ sym (send_for_filtered plans (plain h) a.op) ∙ e))
      where
        go : (o : Option Pair) → option_map (λ (p : Pair). p.send) o ≡ None → o ≡ None
        go None f = refl
        go (Some p) f = absurd (cc)

    pub post_some : a.class ≡ Post → (m : OpId) → send_for plans (filter is_post_or_arrival (plain h)) a.op ≡ Some m → ArePaired m a.op
    post_some c m e = go pair_made refl (ap (λ (d : Class). option_map (λ (p : Pair). p.send) (new_pair plans (pairs plans (plain h)) (plain h) d a.op)) c ∙ sym (send_for_filtered plans (plain h) a.op) ∙ e)
      where
        other : Post ≡ Arrive → ⊥
        other f = cc

        go : (o : Option Pair) → pair_made ≡ o → option_map (λ (p : Pair). p.send) o ≡ Some m → ArePaired m a.op
        go None s f = absurd (cc)
        go (Some p) s f =
            let recv : p.recv ≡ a.op = elim (made_by p s) [ inl (d, g) ↦ absurd (other (sym c ∙ d)) | inr (d, g) ↦ sym g ] in
            subst (λ (x : OpId). ArePaired m x) recv (subst (λ (n : OpId). ArePaired n p.recv) (same_Some p.send m f) (one_made p s))

    -- a message that arrives is taken by the receive that the matcher answers
    pub arrive_none : a.class ≡ Arrive → receive_for plans (filter is_post_or_arrival (plain h)) a.op ≡ None → (x : OpId) → mate plans costs (a ∷ h) x ≡ mate plans costs h x
    arrive_none c e = mates_kept_where_no_pair_made (go pair_made (ap (λ (d : Class). option_map (λ (p : Pair). p.recv) (new_pair plans (pairs plans (plain h)) (plain h) d a.op)) c ∙ sym (receive_for_filtered plans (plain h) a.op) ∙ e))
      where
        go : (o : Option Pair) → option_map (λ (p : Pair). p.recv) o ≡ None → o ≡ None
        go None f = refl
        go (Some p) f = absurd (cc)

    pub arrive_some : a.class ≡ Arrive → (x : OpId) → receive_for plans (filter is_post_or_arrival (plain h)) a.op ≡ Some x → ArePaired a.op x
    arrive_some c x e = go pair_made refl (ap (λ (d : Class). option_map (λ (p : Pair). p.recv) (new_pair plans (pairs plans (plain h)) (plain h) d a.op)) c ∙ sym (receive_for_filtered plans (plain h) a.op) ∙ e)
      where
        other : Arrive ≡ Post → ⊥
        other f = cc

        go : (o : Option Pair) → pair_made ≡ o → option_map (λ (p : Pair). p.recv) o ≡ Some x → ArePaired a.op x
        go None s f = absurd (cc)
        go (Some p) s f =
            let send : p.send ≡ a.op = elim (made_by p s) [ inl (d, g) ↦ sym g | inr (d, g) ↦ absurd (other (sym c ∙ d)) ] in
            subst (λ (m : OpId). ArePaired m x) send (subst (λ (y : OpId). ArePaired p.send y) (same_Some p.recv x f) (one_made p s))
