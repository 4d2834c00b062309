-- Each law is a lemma.
use Rattle.std.proofs.Common.{◌≡◌, true, List}
use Rattle.goal_graph.specs.Action.{Act}
use Rattle.goal_graph.proofs.Actions.{happened_stays}
use Rattle.goal_graph.proofs.Persist.{ready_stays, served_stays, allowed_stays}
use Rattle.goal_graph.proofs.Ever.{arrived_begun}
use Rattle.goal_graph.proofs.Stages.{ended_started, started_ready}
use Rattle.goal_graph.proofs.OneEach.{one_allowed}
use Rattle.goal_graph.proofs.Once.{happens_once, at_most_three, happened_and_left, left_falls}
use Rattle.goal_graph.proofs.Exists.{allowed_listed}
use Rattle.goal_graph.proofs.Eager.{same_interleavings}
use Rattle.goal_graph.proofs.Members.{happened_member, member_happened, happened_one_more}
use Rattle.goal_graph.proofs.InTurn.{run_in_turn, in_turn_run}
use Rattle.goal_graph.specs.Allowed.{allowed}
use Rattle.goal_graph.specs.Interleaving.{IsInterleaving}
use Rattle.goal_graph.proofs.laws.laws_of_interleavings.Goals as goal

pub returns-clause-happened_is_listed : goal.returns-clause-happened_is_listed
returns-clause-happened_is_listed c = λ class x h. (happened_member class x h, member_happened class x h)

pub returns-clause-happened_cases : goal.returns-clause-happened_cases
returns-clause-happened_cases c = happened_one_more

pub returns-clause-happened_stays : goal.returns-clause-happened_stays
returns-clause-happened_stays c = happened_stays

pub returns-clause-ready_stays : goal.returns-clause-ready_stays
returns-clause-ready_stays c = ready_stays

pub returns-clause-message_stays : goal.returns-clause-message_stays
returns-clause-message_stays c = served_stays

pub returns-clause-allowed_stays : goal.returns-clause-allowed_stays
returns-clause-allowed_stays c = allowed_stays

pub returns-clause-one_allowed : goal.returns-clause-one_allowed
returns-clause-one_allowed c = one_allowed

pub returns-clause-happens_once : goal.returns-clause-happens_once
returns-clause-happens_once c = happens_once

pub returns-clause-at_most_three : goal.returns-clause-at_most_three
returns-clause-at_most_three c = at_most_three

pub returns-clause-at_most_three_each : goal.returns-clause-at_most_three_each
returns-clause-at_most_three_each c = happened_and_left

pub returns-clause-left_falls : goal.returns-clause-left_falls
returns-clause-left_falls c = left_falls

pub returns-clause-arrives_after_begin : goal.returns-clause-arrives_after_begin
returns-clause-arrives_after_begin c = arrived_begun

pub returns-clause-ends_after_start : goal.returns-clause-ends_after_start
returns-clause-ends_after_start c = ended_started

pub returns-clause-starts_when_ready : goal.returns-clause-starts_when_ready
returns-clause-starts_when_ready c = started_ready

pub returns-clause-allowed_is_listed : goal.returns-clause-allowed_is_listed
returns-clause-allowed_is_listed c = allowed_listed

pub returns-clause-interleaving_oldest_first : goal.returns-clause-interleaving_oldest_first
returns-clause-interleaving_oldest_first c = λ plans eager h.
    let Next = λ (l : List Act) (a : Act). allowed plans eager l a.class a.op ≡ true in
    let Run = IsInterleaving plans eager in
    (run_in_turn Next Run tt (λ a l r n. (r, n)) (λ a l r. r) h, in_turn_run Next Run tt (λ a l r n. (r, n)) (λ a l r. r) h)

pub returns-clause-eager_sends_alone : goal.returns-clause-eager_sends_alone
returns-clause-eager_sends_alone c = λ plans eager other h agree. same_interleavings plans eager other agree h
