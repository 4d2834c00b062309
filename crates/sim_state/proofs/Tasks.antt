-- What the work of an operation says of it.
use Rattle.std.proofs.Common.{◌≡◌, ◌⊎◌, Bool, true, false, List, Option, Some, None, if◌then◌else◌, inl, inr, is_some, refl, sym, ap, ◌∙◌}
use Rattle.goal_graph.specs.declared.action.OpId.{OpId}
use Rattle.goal_graph.specs.declared.plan.Kind.{Kind}
use Rattle.goal_graph.specs.declared.plan.Kind.TheVariants.{Calc, Send, Recv}
use Rattle.goal_graph.specs.declared.plan.Op.{Op}
use Rattle.goal_graph.specs.Schedule.{Plan, op_at, kind_at, IsSend, IsReceive}
use Rattle.goal_graph.specs.Fault.{IsOp}
use Rattle.goal_graph.specs.Laws.{IsCalc}
use Rattle.goal_graph.proofs.ForCallers.{kind_from_op}
use Rattle.sim_params.specs.Costs.{CostModel, is_eager}
use Rattle.sim_eager.specs.Messages.{IsMessage}
use Rattle.sim_state.specs.declared.task.Task.{Task}
use Rattle.sim_state.specs.declared.task.Task.TheVariants as task
use Rattle.sim_state.specs.declared.work.Work.{Work}
use Rattle.sim_state.specs.Tasks.{work_by, work_of, task_of}

module _ (plans : List Plan) (costs : CostModel) (x : OpId) where
  abbrev task_by : Option Kind → Task
  task_by k = (work_by plans costs x k).task

  -- the task of a send
  pub send_task : (b : Bool) → IsSend plans x → b ≡ is_eager plans costs x → (if b then task.Eager else task.Rendezvous) ≡ task_of plans costs x
  send_task b send e =
      ap (λ (b : Bool). if b then task.Eager else task.Rendezvous) e ∙ sym (ap task_by send.kind)

  -- an operation has a kind
  has_kind : IsOp plans x → kind_at plans x ≡ None → ⊥
  has_kind is_op none = go (op_at plans x) refl is_op
    where
      go : (o : Option Op) → op_at plans x ≡ o → is_some o ≡ true → ⊥
      go None e s = cc
      go (Some o) e s = differ (sym (kind_from_op plans x o o.kind e refl) ∙ none)
        where
          differ : Some o.kind ≡ None → ⊥
          differ f = cc

  calc_not_send : (b : Bool) → task.Calc ≡ (if b then task.Eager else task.Rendezvous) → ⊥
  calc_not_send true e = cc
  calc_not_send false e = cc

  receive_not_send : (b : Bool) → task.Receive ≡ (if b then task.Eager else task.Rendezvous) → ⊥
  receive_not_send true e = cc
  receive_not_send false e = cc

  -- what is of the task of a calc, of a send, of a receive
  pub calc_task_is_of_calc : (s : Task) → s ≡ task_of plans costs x → s ≡ task.Calc → IsOp plans x → IsCalc plans x
  calc_task_is_of_calc s e f is_op = go (kind_at plans x) refl (sym f ∙ e)
    where
      go : (k : Option Kind) → kind_at plans x ≡ k → task.Calc ≡ task_by k → IsCalc plans x
      go None k s = absurd (has_kind is_op k)
      go (Some (Calc nanos)) k s = record { nanos = nanos; kind = k }
      go (Some (Send bytes to tag)) k s = absurd (calc_not_send (is_eager plans costs x) s)
      go (Some (Recv room from tag)) k s = absurd (cc)

  pub receive_task_is_of_receive : (s : Task) → s ≡ task_of plans costs x → s ≡ task.Receive → IsReceive plans x
  receive_task_is_of_receive s e f = go (kind_at plans x) refl (sym f ∙ e)
    where
      go : (k : Option Kind) → kind_at plans x ≡ k → task.Receive ≡ task_by k → IsReceive plans x
      go None k s = absurd (cc)
      go (Some (Calc nanos)) k s = absurd (cc)
      go (Some (Send bytes to tag)) k s = absurd (receive_not_send (is_eager plans costs x) s)
      go (Some (Recv room from tag)) k s = record { room = room; from = from; tag = tag; kind = k }

  pub send_task_is_of_send : (s : Task) → s ≡ task_of plans costs x → (s ≡ task.Eager) ⊎ (s ≡ task.Rendezvous) → IsSend plans x
  send_task_is_of_send s e f = go (kind_at plans x) refl f
    where
      go : (k : Option Kind) → kind_at plans x ≡ k → (s ≡ task.Eager) ⊎ (s ≡ task.Rendezvous) → IsSend plans x
      go None k (inl f) = let d = sym f ∙ e ∙ ap task_by k in absurd (cc d)
      go None k (inr f) = let d = sym f ∙ e ∙ ap task_by k in absurd (cc d)
      go (Some (Calc nanos)) k (inl f) = let d = sym f ∙ e ∙ ap task_by k in absurd (cc d)
      go (Some (Calc nanos)) k (inr f) = let d = sym f ∙ e ∙ ap task_by k in absurd (cc d)
      go (Some (Send bytes to tag)) k f = record { bytes = bytes; to = to; tag = tag; kind = k }
      go (Some (Recv room from tag)) k (inl f) = let d = sym f ∙ e ∙ ap task_by k in absurd (cc d)
      go (Some (Recv room from tag)) k (inr f) = let d = sym f ∙ e ∙ ap task_by k in absurd (cc d)

  -- sends of one task are eager, and those of the other are not
  pub eager_task_is_eager : (s : Task) → s ≡ task_of plans costs x → s ≡ task.Eager → is_eager plans costs x ≡ true
  eager_task_is_eager s e f = go (is_eager plans costs x) (send_task _ (send_task_is_of_send s e (inl f)) refl ∙ sym e ∙ f)
    where
      go : (b : Bool) → (if b then task.Eager else task.Rendezvous) ≡ task.Eager → b ≡ true
      go true d = refl
      go false d = absurd (cc)

  pub rendezvous_task_is_not_eager : (s : Task) → s ≡ task_of plans costs x → s ≡ task.Rendezvous → is_eager plans costs x ≡ false
  rendezvous_task_is_not_eager s e f = go (is_eager plans costs x) (send_task _ (send_task_is_of_send s e (inr f)) refl ∙ sym e ∙ f)
    where
      go : (b : Bool) → (if b then task.Eager else task.Rendezvous) ≡ task.Rendezvous → b ≡ false
      go true d = absurd (cc)
      go false d = refl

  -- the amount of a calc is how long it takes
  pub calc_takes : (w : Work) → w ≡ work_of plans costs x → IsCalc plans x → kind_at plans x ≡ Some (Calc w.amount)
  calc_takes w e calc =
      calc.kind ∙ ap (λ (v : Work). Some (Calc v.amount)) (sym (e ∙ ap (work_by plans costs x) calc.kind))

  -- a send is a message of this size to its target
  pub send_work_is_message : (w : Work) → w ≡ work_of plans costs x → IsSend plans x → IsMessage plans x w.to w.amount
  send_work_is_message w e send = record {
    tag = send.tag;
    kind = send.kind ∙ ap (λ (v : Work). Some (Send v.amount v.to send.tag)) (sym (e ∙ ap (work_by plans costs x) send.kind));
  }
