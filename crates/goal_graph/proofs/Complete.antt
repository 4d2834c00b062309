-- What has happened after a complete interleaving, and why an operation has not ended by then.
use Rattle.std.proofs.Common.{⊎_elim, ◌≡◌, ◌≢◌, ◌⊎◌, inl, inr, not, Bool, true, false, List, Option, Some, None, sym, ◌∙◌, subst}
use Rattle.std.proofs.lemmas.Bool.{both_ways, cases_Bool, and_cases, and_from, or_left, or_right, not-false, not_from_false, false_from_ne_true}
use Rattle.goal_graph.specs.declared.action.OpId.{OpId}
use Rattle.goal_graph.specs.declared.action.Class.{Class}
use Rattle.goal_graph.specs.declared.action.Class.TheVariants.{Arrive, Serve, Data, Post, Begin}
use Rattle.goal_graph.specs.declared.plan.Kind.{Kind}
use Rattle.goal_graph.specs.declared.plan.When.{When}
use Rattle.goal_graph.specs.declared.plan.When.TheVariants.{AfterEnd, AfterStart}
use Rattle.goal_graph.specs.Schedule.{Plan, kind_at, IsSend, IsReceive}
use Rattle.goal_graph.specs.Action.{Act, happened}
use Rattle.goal_graph.specs.Matching.{partner, is_paired, pairs, fits}
use Rattle.goal_graph.specs.Allowed.{has_started, has_ended, is_met, is_ready, is_served, may, allowed}
use Rattle.goal_graph.specs.Interleaving.{IsInterleaving, IsCompleteInterleaving}
use Rattle.goal_graph.specs.Laws.{IsCalc, IsWaitingSend, IsWaitingReceive, IsTaken}
use Rattle.goal_graph.proofs.Actions.{act_of}
use Rattle.goal_graph.proofs.Persist.{is_some_from, value_of_is_some}
use Rattle.goal_graph.proofs.Rules.{fits_receive, fits_send}
use Rattle.goal_graph.proofs.Ever.{arrived_begun}
use Rattle.goal_graph.proofs.Partners.{partners_met, partner_of_send, partner_of_receive, partners_mutual}
use Rattle.goal_graph.proofs.Stages.{KindOf, absent, calc, send, receive, kind_cases, started_send, started_receive, ended_calc, ended_eager, ended_rendezvous, ended_receive, ended_started}
use Rattle.goal_graph.proofs.Waiting.{never_both_wait}

module _ (plans : List Plan) (eager : OpId → Bool) where
  -- what has not started has not ended
  pub unstarted_unended : (h : List Act) (x : OpId) → IsInterleaving plans eager h → has_started plans x h ≡ false → has_ended plans eager x h ≡ false
  unstarted_unended h x i e =
      false_from_ne_true _ (λ t. both_ways _ e (ended_started plans eager h x i t))

  -- an operation with an unmet need has not ended
  pub unmet_unended : (h : List Act) (w : When) (y : OpId) → IsInterleaving plans eager h → is_met plans eager h w y ≡ false → has_ended plans eager y h ≡ false
  unmet_unended h AfterEnd y i e = e
  unmet_unended h AfterStart y i e = unstarted_unended h y i e

  module _ (h : List Act) (done : IsCompleteInterleaving plans eager h) where
    -- what could happen has happened
    pub possible_has_happened : (c : Class) (x : OpId) → may plans eager h c x (kind_at plans x) ≡ true → happened c x h ≡ true
    unfolding allowed
    possible_has_happened c x e =
        elim (and_cases (not (happened c x h)) (may plans eager h c x (kind_at plans x)) (done.none_left (act_of c x))) [ inl f ↦ not-false _ f | inr f ↦ absurd (both_ways _ f e) ]

    pub ready_calc_ended : (x : OpId) → IsCalc plans x → is_ready plans eager h x ≡ true → has_ended plans eager x h ≡ true
    ready_calc_ended x k r =
        ended_calc plans eager h x k ∙ possible_has_happened Begin x (subst (λ (k : Option Kind). may plans eager h Begin x k ≡ true) (sym k.kind) r)

    pub ready_send_begun : (m : OpId) → IsSend plans m → is_ready plans eager h m ≡ true → happened Begin m h ≡ true
    ready_send_begun m k r =
        possible_has_happened Begin m (subst (λ (k : Option Kind). may plans eager h Begin m k ≡ true) (sym k.kind) r)

    pub begun_send_arrived : (m : OpId) → IsSend plans m → happened Begin m h ≡ true → happened Arrive m h ≡ true
    begun_send_arrived m k e =
        possible_has_happened Arrive m (subst (λ (k : Option Kind). may plans eager h Arrive m k ≡ true) (sym k.kind) e)

    pub ready_send_arrived : (m : OpId) → IsSend plans m → is_ready plans eager h m ≡ true → happened Arrive m h ≡ true
    ready_send_arrived m k r = begun_send_arrived m k (ready_send_begun m k r)

    pub ready_receive_posted : (x : OpId) → IsReceive plans x → is_ready plans eager h x ≡ true → happened Post x h ≡ true
    ready_receive_posted x k r =
        possible_has_happened Post x (subst (λ (k : Option Kind). may plans eager h Post x k ≡ true) (sym k.kind) r)

    -- a rendezvous send that is paired has transferred its data
    pub paired_send_data : (m : OpId) → IsSend plans m → eager m ≡ false → is_paired (pairs plans h) m ≡ true → happened Data m h ≡ true
    paired_send_data m k large p =
        possible_has_happened Data m (subst (λ (k : Option Kind). may plans eager h Data m k ≡ true) (sym k.kind) (and_from _ _ (not_from_false _ large) p))

    -- the message of a paired receive is there
    pub paired_message : (x m : OpId) → IsReceive plans x → partner (pairs plans h) x ≡ Some m → is_served plans eager h (partner (pairs plans h) x) ≡ true
    paired_message x m k p =
        let met = partner_of_receive plans h x m k p in
        let back = partners_mutual plans eager h x m done.each p in
        subst (λ (o : Option OpId). is_served plans eager h o ≡ true) (sym p) (elim (cases_Bool (eager m)) [ inl t ↦ or_left (eager m) (happened Data m h) t | inr f ↦ or_right (eager m) (happened Data m h) (paired_send_data m (fits_send plans x m met.fit) f (is_some_from (partner (pairs plans h) m) x back)) ])

    pub paired_receive_served : (x : OpId) → IsReceive plans x → is_paired (pairs plans h) x ≡ true → happened Serve x h ≡ true
    paired_receive_served x k p =
        let with = value_of_is_some (partner (pairs plans h) x) p in
        possible_has_happened Serve x (subst (λ (k : Option Kind). may plans eager h Serve x k ≡ true) (sym k.kind) (paired_message x with.0 k with.1))

    pub paired_send_ended : (m : OpId) → IsSend plans m → is_paired (pairs plans h) m ≡ true → has_ended plans eager m h ≡ true
    paired_send_ended m k p =
        let with = value_of_is_some (partner (pairs plans h) m) p in
        elim (cases_Bool (eager m)) [ inl t ↦ ended_eager plans eager h m k t ∙ arrived_begun plans eager h m done.each (partner_of_send plans h m with.0 k with.1).arrived | inr f ↦ ended_rendezvous plans eager h m k f ∙ paired_send_data m k f p ]

    -- every paired operation has ended
    pub paired_ended : (x : OpId) → is_paired (pairs plans h) x ≡ true → has_ended plans eager x h ≡ true
    paired_ended x p =
        let with = value_of_is_some (partner (pairs plans h) x) p in
        elim (partners_met plans h x with.0 with.1) [ inl met ↦ paired_send_ended x (fits_send plans with.0 x met.fit) p | inr met ↦ ended_receive plans eager h x (fits_receive plans x with.0 met.fit) ∙ paired_receive_served x (fits_receive plans x with.0 met.fit) p ]

    -- an operation that has not ended is not paired
    pub unended_unpaired : (x : OpId) → has_ended plans eager x h ≡ false → is_paired (pairs plans h) x ≡ false
    unended_unpaired x e = false_from_ne_true _ (λ t. both_ways _ e (paired_ended x t))

    -- a ready operation that has not ended is a rendezvous send or a receive that waits for a partner
    pub ready_waits : (x : OpId) → (kind_at plans x ≢ None) → is_ready plans eager h x ≡ true → has_ended plans eager x h ≡ false → IsWaitingSend plans eager h x ⊎ IsWaitingReceive plans h x
    ready_waits x present r e = go (kind_cases plans x)
      where
        free : is_paired (pairs plans h) x ≡ false
        free = unended_unpaired x e

        go : KindOf plans x → IsWaitingSend plans eager h x ⊎ IsWaitingReceive plans h x
        go (absent k) = absurd (present k)
        go (calc k) = absurd (both_ways _ e (ready_calc_ended x k r))
        go (send k) =
            elim (cases_Bool (eager x)) [ inl t ↦ absurd (both_ways _ e (ended_eager plans eager h x k t ∙ ready_send_begun x k r)) | inr f ↦ inl (record { is_send = k; is_large = f; arrived = ready_send_arrived x k r; unpaired = free }) ]
        go (receive k) =
            inr (record { is_receive = k; posted = ready_receive_posted x k r; unpaired = free })

    -- the partner of y is not x, if x is not paired
    paired_is_taken : (x y : OpId) → is_paired (pairs plans h) x ≡ false → is_paired (pairs plans h) y ≡ true → IsTaken plans h y x
    paired_is_taken x y free p =
        let with = value_of_is_some (partner (pairs plans h) y) p in
        let back = partners_mutual plans eager h y with.0 done.each with.1 in
        record {
          taker = with.0;
          pair = with.1;
          other = λ same. both_ways _ free (is_some_from (partner (pairs plans h) x) y (subst (λ (z : OpId). partner (pairs plans h) z ≡ Some y) same back));
        }

    -- each receive that fits a waiting send has not started, or has another partner
    pub receives_taken : (m x : OpId) → happened Arrive m h ≡ true → is_paired (pairs plans h) m ≡ false → fits plans x m ≡ true → (has_started plans x h ≡ false) ⊎ IsTaken plans h x m
    receives_taken m x arrived free f =
        elim (cases_Bool (has_started plans x h)) [ inr e ↦ inl e | inl e ↦ inr (paired_is_taken m x free (⊎_elim (λ p. absurd (both_ways _ free p)) (λ p. p) (never_both_wait plans h m x (record { arrived = arrived; posted = sym (started_receive plans h x (fits_receive plans x m f)) ∙ e; fit = f })))) ]

    -- each send that fits a waiting receive has not started, or has another partner
    pub sends_taken : (x m : OpId) → happened Post x h ≡ true → is_paired (pairs plans h) x ≡ false → fits plans x m ≡ true → (has_started plans m h ≡ false) ⊎ IsTaken plans h m x
    sends_taken x m posted free f =
        elim (cases_Bool (has_started plans m h)) [ inr e ↦ inl e | inl e ↦ inr (paired_is_taken x m free (⊎_elim (λ p. p) (λ p. absurd (both_ways _ free p)) (never_both_wait plans h m x (record { arrived = begun_send_arrived m (fits_send plans x m f) (sym (started_send plans h m (fits_send plans x m f)) ∙ e); posted = posted; fit = f })))) ]

    -- where x is ready and has not ended, each operation that fits it has not started, or has another partner
    pub fitting_taken : (x y : OpId) → is_ready plans eager h x ≡ true → has_ended plans eager x h ≡ false → ((fits plans x y ≡ true) ⊎ (fits plans y x ≡ true)) → (has_started plans y h ≡ false) ⊎ IsTaken plans h y x
    fitting_taken x y r e (inl f) =
        sends_taken x y (ready_receive_posted x (fits_receive plans x y f) r) (unended_unpaired x e) f
    fitting_taken x y r e (inr f) =
        receives_taken x y (ready_send_arrived x (fits_send plans y x f) r) (unended_unpaired x e) f
