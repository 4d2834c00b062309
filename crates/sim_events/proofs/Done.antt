-- What has no action left: a send whose message was taken, and any operation after its last.
use Rattle.std.proofs.Common.{◌≡◌, ◌≢◌, ◌⊎◌, ◌||◌, Bool, true, List, Option, Some, inl, inr, refl, sym, ap, ◌∙◌, subst, arith}
use Rattle.std.proofs.lemmas.Bool.{both_ways, or_cases}
use Rattle.goal_graph.specs.declared.action.OpId.{OpId}
use Rattle.goal_graph.specs.declared.action.Class.{Class}
use Rattle.goal_graph.specs.declared.action.Class.TheVariants.{Arrive, Serve, Data, Post, Begin}
use Rattle.goal_graph.specs.Schedule.{Plan, IsSend, IsReceive}
use Rattle.goal_graph.specs.Action.{Act, place, happened}
use Rattle.goal_graph.specs.Matching.{pairs, partner}
use Rattle.goal_graph.specs.Allowed.{is_served, allowed}
use Rattle.goal_graph.specs.Interleaving.{IsInterleaving}
use Rattle.goal_graph.specs.Laws.{IsCalc}
use Rattle.goal_graph.proofs.ForCallers.{allowed_arrive, allowed_begin, allowed_fresh, allowed_data, allowed_post, allowed_serve, arrived_begun, ended_receive, ended_started, fits_send, not_receive_calc, not_send_calc, not_send_receive, partner_of_receive, served_message, started_receive}

other_class_is_not_serve : (c : Class) → (place c ≡ place Serve → ⊥) → c ≢ Serve
other_class_is_not_serve c n e = n (ap place e)

pub serve_or_not : (c : Class) → (c ≡ Serve) ⊎ (c ≢ Serve)
serve_or_not Arrive = inr (other_class_is_not_serve Arrive (λ e. omega (arith, e)))
serve_or_not Serve = inl refl
serve_or_not Data = inr (other_class_is_not_serve Data (λ e. omega (arith, e)))
serve_or_not Post = inr (other_class_is_not_serve Post (λ e. omega (arith, e)))
serve_or_not Begin = inr (other_class_is_not_serve Begin (λ e. omega (arith, e)))

module _ (plans : List Plan) (eager : OpId → Bool) (h : List Act) (x y : OpId) (interleaving : IsInterleaving plans eager h) (receive : IsReceive plans x) (served : happened Serve x h ≡ true) (mates : partner (pairs plans h) x ≡ Some y) where
  message_is_sent : (eager y || happened Data y h) ≡ true
  message_is_sent =
      subst (λ (o : Option OpId). is_served plans eager h o ≡ true) mates (served_message plans eager h x interleaving served)

  pub served_is_done : (c : Class) → allowed plans eager h c y ≡ true → ⊥
  served_is_done Begin t =
      both_ways _ (allowed_fresh plans eager h Begin y t) (arrived_begun plans eager h y interleaving (partner_of_receive plans h x y receive mates).arrived)
  served_is_done Arrive t = both_ways _ (allowed_fresh plans eager h Arrive y t) (partner_of_receive plans h x y receive mates).arrived
  served_is_done Data t =
      elim (or_cases (eager y) (happened Data y h) message_is_sent) [ inl e ↦ both_ways _ (allowed_data plans eager h y t).1 e | inr s ↦ both_ways _ (allowed_fresh plans eager h Data y t) s ]
  served_is_done Post t =
      not_send_receive plans y (fits_send plans x y (partner_of_receive plans h x y receive mates).fit) (allowed_post plans eager h y t).0
  served_is_done Serve t =
      not_send_receive plans y (fits_send plans x y (partner_of_receive plans h x y receive mates).fit) (allowed_serve plans eager h y t).0

module _ (plans : List Plan) (eager : OpId → Bool) (h : List Act) (x : OpId) where
  pub begun_calc_is_done : IsCalc plans x → happened Begin x h ≡ true → (c : Class) → allowed plans eager h c x ≡ true → ⊥
  begun_calc_is_done calc begun Begin t = both_ways _ (allowed_fresh plans eager h Begin x t) begun
  begun_calc_is_done calc begun Arrive t = not_send_calc plans x (allowed_arrive plans eager h x t).0 calc
  begun_calc_is_done calc begun Data t = not_send_calc plans x (allowed_data plans eager h x t).0 calc
  begun_calc_is_done calc begun Post t = not_receive_calc plans x (allowed_post plans eager h x t).0 calc
  begun_calc_is_done calc begun Serve t = not_receive_calc plans x (allowed_serve plans eager h x t).0 calc

  module _ (interleaving : IsInterleaving plans eager h) where
    pub arrived_is_done : IsSend plans x → eager x ≡ true → happened Arrive x h ≡ true → (c : Class) → allowed plans eager h c x ≡ true → ⊥
    arrived_is_done send whole arrived Begin t =
        both_ways _ (allowed_fresh plans eager h Begin x t) (arrived_begun plans eager h x interleaving arrived)
    arrived_is_done send whole arrived Arrive t = both_ways _ (allowed_fresh plans eager h Arrive x t) arrived
    arrived_is_done send whole arrived Data t = both_ways _ (allowed_data plans eager h x t).1 whole
    arrived_is_done send whole arrived Post t = not_send_receive plans x send (allowed_post plans eager h x t).0
    arrived_is_done send whole arrived Serve t = not_send_receive plans x send (allowed_serve plans eager h x t).0

    pub received_is_done : IsReceive plans x → happened Serve x h ≡ true → (c : Class) → allowed plans eager h c x ≡ true → ⊥
    received_is_done receive served Begin t =
        elim (allowed_begin plans eager h x t).0 [ inl calc ↦ not_receive_calc plans x receive calc | inr send ↦ not_send_receive plans x send receive ]
    received_is_done receive served Arrive t = not_send_receive plans x (allowed_arrive plans eager h x t).0 receive
    received_is_done receive served Data t = not_send_receive plans x (allowed_data plans eager h x t).0 receive
    received_is_done receive served Post t =
        let posted : happened Post x h ≡ true = sym (started_receive plans h x receive) ∙ ended_started plans eager h x interleaving (ended_receive plans eager h x receive ∙ served) in
        both_ways _ (allowed_fresh plans eager h Post x t) posted
    received_is_done receive served Serve t = both_ways _ (allowed_fresh plans eager h Serve x t) served
