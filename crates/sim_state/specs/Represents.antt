-- What an engine keeps of its history.
use Rattle.std.specs.Prelude.{ℕ, ◌∷◌, ◌≡◌, ◌<◌, ◌*◌, ◌^◌, List, filter, map, length, Option, Some, if◌then◌else◌}
use Rattle.goal_graph.specs.declared.action.OpId.{OpId}
use Rattle.goal_graph.specs.declared.action.Timed.{Timed}
use Rattle.goal_graph.specs.Schedule.{Plan, operations}
use Rattle.goal_graph.specs.Action.{plain}
use Rattle.goal_graph.specs.Entries.{with_entry}
use Rattle.goal_graph.specs.Allowed.{has_started}
use Rattle.goal_graph.specs.Fault.{IsAccepted}
use Rattle.sim_params.specs.Costs.{CostModel, is_eager}
use Rattle.sim_params.specs.Times.{mate, cpu, tx, rx}
use Rattle.sim_params.specs.Run.{IsRun}
use Rattle.sim_params.specs.Budget.{budget}
use Rattle.sim_match.specs.PostsAndArrivals.{PostsAndArrivals, is_post_or_arrival}
use Rattle.sim_resources.specs.FreeTimes.{Holds, cpu_free, tx_free, rx_free}
use Rattle.sim_state.specs.declared.entry.OpState.{OpState}
use Rattle.sim_state.specs.declared.entry.Times.{Times}
use Rattle.sim_state.specs.Engine.{start_known, end_known}
use Rattle.sim_state.specs.Links.{Linked}
use Rattle.sim_state.specs.Awaited.{unmet, awaited_known, delivered_known}
use Rattle.sim_state.specs.Tasks.{work_of}

-- the operation with which another is paired, and since when
pub record Pairing : Type 0 where
  pub with : OpId
  pub at : ℕ

module _ (plans : List Plan) (costs : CostModel) (h : List Timed) where
  -- when the message of its partner is available to a receive, once it is
  abbrev pub message_known : Pairing → Option ℕ
  message_known p = if is_eager plans costs p.with then Some p.at else delivered_known plans costs h p.with

  -- what is known of the times of x
  abbrev pub times_known : OpId → Times
  times_known x = record {
    start = start_known plans costs h x;
    end = end_known plans costs h x;
    awaited = awaited_known plans costs h x;
  }

  -- how many moments x waits for, and its partner
  abbrev pub link_known : OpId → Linked
  link_known x = record { unmet = unmet plans costs h x; partner = mate plans costs h x }

  -- what is kept of x
  abbrev pub entry_known : OpId → OpState
  entry_known x = record {
    work = work_of plans costs x;
    times = times_known x;
    link = link_known x;
  }

  -- the cpus and NICs of the schedule are free when the history says so
  pub record AreFreeTimes (res : Holds) : Type 0 where
    pub same_plans : res.plans ≡ plans
    pub cpus : (x : OpId) → cpu_free res x ≡ cpu plans costs h x
    pub senders : (x : OpId) → tx_free res x ≡ tx plans costs h x
    pub receivers : (x : OpId) → rx_free res x ≡ rx plans costs h x

  -- the matcher has the posts and arrivals of the history
  pub record KnowsPostsAndArrivals (matcher : PostsAndArrivals) : Type 0 where
    pub same_plans : matcher.plans ≡ plans
    pub events : matcher.actions ≡ filter is_post_or_arrival (plain h)

  -- there is an entry for each operation, in their order, and room for each action of a run
  pub record Represents (entries : List OpState) (matcher : PostsAndArrivals) (res : Holds) (has_room : ℕ → Type 0) : Type 0 where
    pub accepted : IsAccepted plans
    pub within : budget plans costs < 2 ^ 63
    pub run : IsRun plans costs h
    pub known : entries ≡ map entry_known (operations plans)
    pub posts_and_arrivals : KnowsPostsAndArrivals matcher
    pub free : AreFreeTimes res
    pub roomy : has_room (3 * length (operations plans))

-- The entry of x after an action, before this gives its moments to others: what is known then, but each operation
-- waits for as many moments as before, and one that has not started awaits the same as before.
module _ (plans : List Plan) (costs : CostModel) (h : List Timed) (a : Timed) where
  abbrev pub entry_then : OpId → OpState
  entry_then =
      with_entry a.op
      (record (entry_known plans costs (a ∷ h) a.op) { link = record (link_known plans costs (a ∷ h) a.op) { unmet = unmet plans costs h a.op } })
      (λ x. record (entry_known plans costs (a ∷ h) x) {
        times = record (times_known plans costs (a ∷ h) x) {
          awaited = if has_started plans x (plain h) then awaited_known plans costs (a ∷ h) x else awaited_known plans costs h x;
        };
        link = record (link_known plans costs (a ∷ h) x) { unmet = unmet plans costs h x };
      })
