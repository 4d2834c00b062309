-- Where a send fits at most one receive, and a receive at most one send: operations that have met are paired, and
-- complete interleavings start and end the same operations.
use Rattle.std.proofs.Common.{⊎_elim, ◌≡◌, ◌↔◌, ◌⊎◌, inl, inr, Bool, true, List, [], ◌∷◌, Some, refl, ap, sym, ◌∙◌, subst}
use Rattle.std.specs.List.{list_all}
use Rattle.std.proofs.lemmas.Bool.{both_ways, cases_Bool, and_parts, and_from}
use Rattle.goal_graph.specs.declared.action.OpId.{OpId}
use Rattle.goal_graph.specs.declared.action.Class.{Class}
use Rattle.goal_graph.specs.declared.action.Class.TheVariants.{Arrive, Serve, Data, Post, Begin}
use Rattle.goal_graph.specs.declared.plan.Need.{Need}
use Rattle.goal_graph.specs.declared.plan.When.{When}
use Rattle.goal_graph.specs.declared.plan.When.TheVariants.{AfterEnd, AfterStart}
use Rattle.goal_graph.specs.Schedule.{Plan, kind_at, needs, needed, IsSend}
use Rattle.goal_graph.specs.Action.{Act, happened}
use Rattle.goal_graph.specs.Matching.{partner, pairs}
use Rattle.goal_graph.specs.Allowed.{first_class, has_started, has_ended, is_met, is_ready, allowed}
use Rattle.goal_graph.specs.Interleaving.{IsInterleaving, IsCompleteInterleaving}
use Rattle.goal_graph.specs.Laws.{HaveMet, IsApart}
use Rattle.goal_graph.proofs.Actions.{happened_none, happened_cases}
use Rattle.goal_graph.proofs.Persist.{is_some_from, value_of_is_some}
use Rattle.goal_graph.proofs.Rules.{fits_send, fits_receive, allowed_begin, allowed_post, allowed_arrive, allowed_data, allowed_serve}
use Rattle.goal_graph.proofs.Ever.{newest_allowed}
use Rattle.goal_graph.proofs.Partners.{partner_of_send, partner_of_receive, partners_mutual}
use Rattle.goal_graph.proofs.Stages.{KindOf, absent, calc, send, receive, kind_cases, first_of_absent, first_of_calc, first_of_send, first_of_receive, last_of_absent, ended_calc, ended_eager, ended_rendezvous, ended_receive, served_paired}
use Rattle.goal_graph.proofs.Waiting.{never_both_wait}
use Rattle.goal_graph.proofs.Complete.{ready_send_begun, begun_send_arrived, ready_receive_posted, ready_calc_ended, paired_receive_served, paired_send_ended}

started_first_class : (plans : List Plan) {c : Class} (w : List Act) (x : OpId) → first_class (kind_at plans x) ≡ c → has_started plans x w ≡ true → happened c x w ≡ true
started_first_class plans w x k e = subst (λ (c : Class). happened c x w ≡ true) k e

first_class_started : (plans : List Plan) {c : Class} (w : List Act) (x : OpId) → first_class (kind_at plans x) ≡ c → happened c x w ≡ true → has_started plans x w ≡ true
first_class_started plans w x k e = subst (λ (c : Class). happened c x w ≡ true) (sym k) e

module _ (plans : List Plan) (apart : IsApart plans) where
  -- one of the two has the other as its partner
  met_gives_partner : (h : List Act) (m x : OpId) → HaveMet plans h m x → (partner (pairs plans h) m ≡ Some x) ⊎ (partner (pairs plans h) x ≡ Some m)
  met_gives_partner h m x met =
      ⊎_elim (λ p. let with = value_of_is_some (partner (pairs plans h) m) p in inl (with.1 ∙ ap (λ (y : OpId). Some y) (apart.one_receive m with.0 x (partner_of_send plans h m with.0 (fits_send plans x m met.fit) with.1).fit met.fit))) (λ p. let with = value_of_is_some (partner (pairs plans h) x) p in inr (with.1 ∙ ap (λ (n : OpId). Some n) (apart.one_send x with.0 m (partner_of_receive plans h x with.0 (fits_receive plans x m met.fit) with.1).fit met.fit))) (never_both_wait plans h m x met)

  -- operations that have met are paired
  pub met_partners : (eager : OpId → Bool) (h : List Act) (m x : OpId) → IsInterleaving plans eager h → HaveMet plans h m x → (partner (pairs plans h) m ≡ Some x) × (partner (pairs plans h) x ≡ Some m)
  met_partners eager h m x i met =
      ⊎_elim (λ e. (e, partners_mutual plans eager h m x i e)) (λ e. (partners_mutual plans eager h x m i e, e)) (met_gives_partner h m x met)

  pub partners_iff_met : (eager : OpId → Bool) (h : List Act) (m x : OpId) → IsInterleaving plans eager h → ((partner (pairs plans h) m ≡ Some x) × IsSend plans m) ↔ HaveMet plans h m x
  partners_iff_met eager h m x i =
      (λ p. partner_of_send plans h m x p.1 p.0, λ met. ((met_partners eager h m x i met).0, fits_send plans x m met.fit))

  module _ (eager fewer : OpId → Bool) (less : (m : OpId) → fewer m ≡ true → eager m ≡ true) (h : List Act) (done : IsCompleteInterleaving plans eager h) where
    -- that action of x has happened in h; an eager send transfers its data when it begins
    abbrev IsReached : Class → OpId → Type 0
    IsReached Data m = has_ended plans eager m h ≡ true
    IsReached Arrive m = happened Arrive m h ≡ true
    IsReached Serve m = happened Serve m h ≡ true
    IsReached Post m = happened Post m h ≡ true
    IsReached Begin m = happened Begin m h ≡ true

    abbrev AllReached : List Act → Type 0
    AllReached w = (c : Class) (x : OpId) → happened c x w ≡ true → IsReached c x

    reached_started : (w : List Act) (x : OpId) → AllReached w → has_started plans x w ≡ true → has_started plans x h ≡ true
    reached_started w x all e = go (kind_cases plans x)
      where
        go : KindOf plans x → has_started plans x h ≡ true
        go (absent k) =
            first_class_started plans h x (first_of_absent plans x k) (all Begin x (started_first_class plans w x (first_of_absent plans x k) e))
        go (calc k) =
            first_class_started plans h x (first_of_calc plans x k) (all Begin x (started_first_class plans w x (first_of_calc plans x k) e))
        go (send k) =
            first_class_started plans h x (first_of_send plans x k) (all Begin x (started_first_class plans w x (first_of_send plans x k) e))
        go (receive k) =
            first_class_started plans h x (first_of_receive plans x k) (all Post x (started_first_class plans w x (first_of_receive plans x k) e))

    reached_ended : (w : List Act) (x : OpId) → AllReached w → has_ended plans fewer x w ≡ true → has_ended plans eager x h ≡ true
    reached_ended w x all e = go (kind_cases plans x)
      where
        go : KindOf plans x → has_ended plans eager x h ≡ true
        go (absent k) =
            ap (λ (c : Class). happened c x h) (last_of_absent plans eager x k) ∙ all Begin x (sym (ap (λ (c : Class). happened c x w) (last_of_absent plans fewer x k)) ∙ e)
        go (calc k) =
            ended_calc plans eager h x k ∙ all Begin x (sym (ended_calc plans fewer w x k) ∙ e)
        go (send k) =
            elim (cases_Bool (fewer x)) [ inl t ↦ ended_eager plans eager h x k (less x t) ∙ all Begin x (sym (ended_eager plans fewer w x k t) ∙ e) | inr f ↦ all Data x (sym (ended_rendezvous plans fewer w x k f) ∙ e) ]
        go (receive k) =
            ended_receive plans eager h x k ∙ all Serve x (sym (ended_receive plans fewer w x k) ∙ e)

    reached_met : (w : List Act) (s : When) (y : OpId) → AllReached w → is_met plans fewer w s y ≡ true → is_met plans eager h s y ≡ true
    reached_met w AfterEnd y all e = reached_ended w y all e
    reached_met w AfterStart y all e = reached_started w y all e

    reached_needs : (w : List Act) (x : OpId) (ds : List Need) → AllReached w → list_all (λ (d : Need). is_met plans fewer w d.when (needed x d)) ds ≡ true → list_all (λ (d : Need). is_met plans eager h d.when (needed x d)) ds ≡ true
    reached_needs w x [] all e = refl
    reached_needs w x (d ∷ ds) all e =
        let parts = and_parts (is_met plans fewer w d.when (needed x d)) (list_all (λ (d : Need). is_met plans fewer w d.when (needed x d)) ds) e in
        and_from _ _ (reached_met w d.when (needed x d) all parts.0) (reached_needs w x ds all parts.1)

    reached_ready : (w : List Act) (x : OpId) → AllReached w → is_ready plans fewer w x ≡ true → is_ready plans eager h x ≡ true
    unfolding is_ready
    reached_ready w x all e = reached_needs w x (needs plans x) all e

    reached_have_met : (w : List Act) (m x : OpId) → AllReached w → HaveMet plans w m x → HaveMet plans h m x
    reached_have_met w m x all met = record {
      arrived = all Arrive m met.arrived;
      posted = all Post x met.posted;
      fit = met.fit;
    }

    reached_allowed : (w : List Act) (c : Class) (x : OpId) → AllReached w → allowed plans fewer w c x ≡ true → IsReached c x
    reached_allowed w Begin x all e =
        let begin = allowed_begin plans fewer w x e in
        let ready = reached_ready w x all begin.1 in
        ⊎_elim (λ k. sym (ended_calc plans eager h x k) ∙ ready_calc_ended plans eager h done x k ready) (λ k. ready_send_begun plans eager h done x k ready) begin.0
    reached_allowed w Post x all e =
        let post = allowed_post plans fewer w x e in
        ready_receive_posted plans eager h done x post.0 (reached_ready w x all post.1)
    reached_allowed w Arrive m all e =
        let arrive = allowed_arrive plans fewer w m e in
        begun_send_arrived plans eager h done m arrive.0 (all Begin m arrive.1)
    reached_allowed w Data m all e =
        let data_now = allowed_data plans fewer w m e in
        let with = value_of_is_some (partner (pairs plans w) m) data_now.2 in
        let met = reached_have_met w m with.0 all (partner_of_send plans w m with.0 data_now.0 with.1) in
        paired_send_ended plans eager h done m data_now.0 (is_some_from (partner (pairs plans h) m) with.0 (met_partners eager h m with.0 done.each met).0)
    reached_allowed w Serve x all e =
        let serve = allowed_serve plans fewer w x e in
        let with = value_of_is_some (partner (pairs plans w) x) (served_paired plans fewer w x serve.1) in
        let met = reached_have_met w with.0 x all (partner_of_receive plans w x with.0 serve.0 with.1) in
        paired_receive_served plans eager h done x serve.0 (is_some_from (partner (pairs plans h) x) with.0 (met_partners eager h with.0 x done.each met).1)

    -- all that happens in w has happened in h
    all_reached : (w : List Act) → IsInterleaving plans fewer w → AllReached w
    all_reached [] i c x e = absurd (both_ways _ (happened_none c x) e)
    all_reached (a ∷ w) i c x e =
        let before = all_reached w i.0 in
        ⊎_elim (λ was. before c x was) (λ now. reached_allowed w c x before (newest_allowed plans fewer c x a w i now)) (happened_cases c x a w e)

    pub completes_alike : (w : List Act) (x : OpId) → IsInterleaving plans fewer w → (has_started plans x w ≡ true → has_started plans x h ≡ true) × (has_ended plans fewer x w ≡ true → has_ended plans eager x h ≡ true)
    completes_alike w x i =
        let all = all_reached w i in
        (λ e. reached_started w x all e, λ e. reached_ended w x all e)
