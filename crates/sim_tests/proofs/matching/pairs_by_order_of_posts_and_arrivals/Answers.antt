-- The schedule has four sends and three receives.
use Rattle.std.proofs.Common.{ℕ, zero, suc, ◌<◌, ◌≡◌, List, [], ◌∷◌, Some, None, slice_get, arith, ap, ◌∙◌}
use Rattle.std.specs.Option.{option_map, option_and_then}
use Rattle.goal_graph.specs.declared.plan.Op.{Op}
use Rattle.goal_graph.specs.declared.plan.Kind.TheVariants.{Send, Recv}
use Rattle.goal_graph.specs.Schedule.{Plan, op_at, kind_at, IsSend, IsReceive}
use Rattle.sim_tests.proofs.matching.pairs_by_order_of_posts_and_arrivals.Goals as goal

abbrev sends : List Op
sends =
    record { kind = Send 8 1 5; cpu = 0; nic = 0 }
    ∷ record { kind = Send 8 1 5; cpu = 0; nic = 0 }
    ∷ record { kind = Send 8 1 6; cpu = 0; nic = 0 }
    ∷ record { kind = Send 8 1 7; cpu = 0; nic = 0 }
    ∷ []

abbrev receives : List Op
receives =
    record { kind = Recv 8 None None; cpu = 0; nic = 0 }
    ∷ record { kind = Recv 8 (Some 0) (Some 5); cpu = 0; nic = 0 }
    ∷ record { kind = Recv 8 None None; cpu = 0; nic = 0 }
    ∷ []

module _ (plans : List Plan) (p q : Plan) (two : plans ≡ p ∷ q ∷ []) where
  first_kind : p.ops ≡ sends → (i : ℕ) → kind_at plans (record { rank = 0; op = i }) ≡ option_map (λ (o : Op). o.kind) (slice_get sends i)
  unfolding kind_at op_at
  first_kind are i =
      ap (λ (ps : List Plan). option_map (λ (o : Op). o.kind) (option_and_then (λ (p : Plan). slice_get p.ops i) (slice_get ps 0))) two ∙ ap (λ (os : List Op). option_map (λ (o : Op). o.kind) (slice_get os i)) are

  second_kind : q.ops ≡ receives → (i : ℕ) → kind_at plans (record { rank = 1; op = i }) ≡ option_map (λ (o : Op). o.kind) (slice_get receives i)
  unfolding kind_at op_at
  second_kind are i =
      ap (λ (ps : List Plan). option_map (λ (o : Op). o.kind) (option_and_then (λ (p : Plan). slice_get p.ops i) (slice_get ps 1))) two ∙ ap (λ (os : List Op). option_map (λ (o : Op). o.kind) (slice_get os i)) are

  are_sends : p.ops ≡ sends → (i : ℕ) → i < 4 → IsSend plans (record { rank = 0; op = i })
  are_sends are zero b = record { bytes = 8; to = 1; tag = 5; kind = first_kind are 0 }
  are_sends are (suc zero) b = record { bytes = 8; to = 1; tag = 5; kind = first_kind are 1 }
  are_sends are (suc (suc zero)) b = record { bytes = 8; to = 1; tag = 6; kind = first_kind are 2 }
  are_sends are (suc (suc (suc zero))) b = record { bytes = 8; to = 1; tag = 7; kind = first_kind are 3 }
  are_sends are (suc (suc (suc (suc i)))) b = absurd (omega (arith, b))

  are_receives : q.ops ≡ receives → (i : ℕ) → i < 3 → IsReceive plans (record { rank = 1; op = i })
  are_receives are zero b = record { room = 8; from = None; tag = None; kind = second_kind are 0 }
  are_receives are (suc zero) b = record { room = 8; from = Some 0; tag = Some 5; kind = second_kind are 1 }
  are_receives are (suc (suc zero)) b = record { room = 8; from = None; tag = None; kind = second_kind are 2 }
  are_receives are (suc (suc (suc i))) b = absurd (omega (arith, b))

pub answers-requires-clause-sends : goal.answers-requires-clause-sends
answers-requires-clause-sends g c =
    are_sends _ _ _ (c.in_ok-sched.ensures.schedule ∙ c.in_ok-plans.ensures.items) (c.plan_of.ensures ∙ c.in_ok-sends.ensures.items ∙ (λ i. c.send.ensures i ∷ c.send-2.ensures i ∷ c.send-3.ensures i ∷ c.send-4.ensures i ∷ []))

pub answers-requires-clause-receives : goal.answers-requires-clause-receives
answers-requires-clause-receives g c =
    are_receives _ _ _ (c.in_ok-sched.ensures.schedule ∙ c.in_ok-plans.ensures.items) (c.plan_of-2.ensures ∙ c.in_ok-receives.ensures.items ∙ (λ i. c.recv.ensures i ∷ c.recv-2.ensures i ∷ c.recv-3.ensures i ∷ []))
