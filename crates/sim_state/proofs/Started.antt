-- What does more than its first action has started.
use Rattle.std.proofs.Common.{◌≡◌, true, List, is_some, inl, inr, ap, ◌∙◌}
use Rattle.std.proofs.lemmas.Bool.{cases_Bool, both_ways}
use Rattle.goal_graph.specs.declared.action.OpId.{OpId}
use Rattle.goal_graph.specs.declared.action.Timed.{Timed}
use Rattle.goal_graph.specs.declared.action.Class.TheVariants.{Arrive, Serve, Data, Post}
use Rattle.goal_graph.specs.Schedule.{Plan}
use Rattle.goal_graph.specs.Action.{happened, plain}
use Rattle.goal_graph.specs.Allowed.{has_started, is_served, allowed}
use Rattle.goal_graph.proofs.ForCallers.{allowed_arrive, allowed_data, allowed_serve, arrived_begun, unarrived_send_has_no_partner, unposted_receive_has_no_partner, started_receive, started_send}
use Rattle.sim_params.specs.Costs.{CostModel, is_eager}
use Rattle.sim_params.specs.Run.{IsRun}
use Rattle.sim_params.proofs.ForCallers.{run_interleaving}

module _ (plans : List Plan) (costs : CostModel) (h : List Timed) (x : OpId) where
  pub arrive_started : allowed plans (is_eager plans costs) (plain h) Arrive x ≡ true → has_started plans x (plain h) ≡ true
  arrive_started e =
      let r = allowed_arrive plans (is_eager plans costs) (plain h) x e in started_send plans (plain h) x r.0 ∙ r.1

  pub data_started : IsRun plans costs h → allowed plans (is_eager plans costs) (plain h) Data x ≡ true → has_started plans x (plain h) ≡ true
  data_started run e =
      let r = allowed_data plans (is_eager plans costs) (plain h) x e in
      elim (cases_Bool (happened Arrive x (plain h))) [ inl t ↦ started_send plans (plain h) x r.0 ∙ arrived_begun plans (is_eager plans costs) (plain h) x (run_interleaving plans costs h run) t | inr f ↦ absurd (both_ways _ (ap is_some (unarrived_send_has_no_partner plans (plain h) x r.0 f)) r.2) ]

  pub serve_started : allowed plans (is_eager plans costs) (plain h) Serve x ≡ true → has_started plans x (plain h) ≡ true
  serve_started e =
      let r = allowed_serve plans (is_eager plans costs) (plain h) x e in
      elim (cases_Bool (happened Post x (plain h))) [ inl t ↦ started_receive plans (plain h) x r.0 ∙ t | inr f ↦ absurd (both_ways _ (ap (is_served plans (is_eager plans costs) (plain h)) (unposted_receive_has_no_partner plans (plain h) x r.0 f)) r.1) ]
