-- A walker over one step, said of views.
use Rattle.std.proofs.Common.{ℕ, ◌≡◌, ◌*◌, ◌-◌, ◌<◌, true, false, List, ◌∷◌, drop, length, Option, Some, None, IfSome, IfNone, is_some, refl, sym, ap, ◌∙◌, subst, arith}
use Rattle.goal_graph.specs.Action.{Act}
use Rattle.goal_graph.specs.Schedule.{operations}
use Rattle.goal_graph.proofs.ForCallers.{happened_and_left}
use Rattle.goal_graph.specs.Fault.{IsOp}
use Rattle.goal_graph.specs.Interleaving.{IsInterleaving}
use Rattle.goal_blocks.specs.Walk.{no_send, ComesFirst, TakesFirst, IsWalk}
use Rattle.goal_certify.specs.declared.walk.action.PlainAction.{PlainAction}
use Rattle.goal_certify.specs.WalkSoFar.{WalkSoFar, act_of, with_action, IsLater}
use Rattle.goal_certify.specs.WalkQueue.{may_act, IsQueue, IsQueueBut, IsMoved, AreCursors}
use Rattle.goal_certify.specs.declared.walk.cursor.Cursor.{Cursor}
use Rattle.goal_certify.proofs.Cursors.{cursors_kept}
use Rattle.goal_certify.proofs.Places.{allowed_exists}
use Rattle.goal_certify.proofs.Queue.{queue_after}

module _ (old new : WalkSoFar) (a : PlainAction) (after : new ≡ with_action old a) (may : may_act old.plans old.history a.class a.op ≡ true) where
  -- the action is one of an operation
  pub op_after : IsOp new.plans a.op
  op_after =
      subst (λ (v : WalkSoFar). IsOp v.plans a.op) (sym after) (allowed_exists old.plans old.history a.class a.op may)

  -- after it those are due that it moves
  pub due_after : (keys : List (Option ℕ)) → IsInterleaving old.plans no_send old.history → IsQueue old.plans old.history keys → IsQueueBut new.plans new.history (λ slot. IsMoved new.plans new.history a.class a.op) keys
  due_after keys each q =
      subst (λ (v : WalkSoFar). IsQueueBut v.plans v.history (λ slot. IsMoved v.plans v.history a.class a.op) keys) (sym after) (queue_after old.plans old.history (act_of a) (each, may) keys q)

  -- it is the newest
  pub newest_after : new.history ≡ act_of a ∷ drop 1 new.history
  newest_after = subst (λ (v : WalkSoFar). v.history ≡ act_of a ∷ drop 1 v.history) (sym after) refl

  -- each action was the first of those that might happen
  pub first_after : TakesFirst old.plans old.history → ((b : Act) → may_act old.plans old.history b.class b.op ≡ true → ComesFirst (act_of a) b) → TakesFirst new.plans new.history
  first_after before first = subst (λ (v : WalkSoFar). TakesFirst v.plans v.history) (sym after) (before, first)

  -- the cursors stay
  pub cursors_after : (cursors : List Cursor) → AreCursors old.plans old.history cursors → AreCursors new.plans new.history cursors
  cursors_after cursors cur =
      subst (λ (v : WalkSoFar). AreCursors v.plans v.history cursors) (sym after) (cursors_kept old.plans no_send (act_of a) old.history cursors cur)

-- with each step, fewer actions are left
pub fewer_left : (old new : WalkSoFar) (r : Option PlainAction) → is_some r ≡ true → IfSome r (λ a. new ≡ with_action old a) → IsInterleaving new.plans no_send new.history → 3 * length (operations new.plans) - length new.history < 3 * length (operations old.plans) - length old.history
fewer_left old new None t after each = absurd (cc)
fewer_left old new (Some a) t after each =
    let most = happened_and_left new.plans no_send new.history each in
    let plans = ap (λ (v : WalkSoFar). length (operations v.plans)) after in
    let history = ap (λ (v : WalkSoFar). length v.history) after in
    omega (arith, most, plans, history)

-- the history grows
pub later_after : (old new : WalkSoFar) (r : Option PlainAction) (h : List Act) → is_some r ≡ true → IfSome r (λ a. new ≡ with_action old a) → IsLater h old.history → IsLater h new.history
later_after old new None h t after later = absurd (cc)
later_after old new (Some a) h t after later =
    (act_of a ∷ later.0, ap (λ (v : WalkSoFar). v.history) after ∙ ap (λ (l : List Act). act_of a ∷ l) later.1)

pub plans_after : (old new : WalkSoFar) (r : Option PlainAction) → is_some r ≡ true → IfSome r (λ a. new ≡ with_action old a) → new.plans ≡ old.plans
plans_after old new None t after = absurd (cc)
plans_after old new (Some a) t after = ap (λ (v : WalkSoFar). v.plans) after

-- if no action is left, the walk is complete
pub walk_at : (old new : WalkSoFar) (r : Option PlainAction) → is_some r ≡ false → IfNone r (IsWalk old.plans old.history) → IfNone r (new ≡ old) → IsWalk new.plans new.history
walk_at old new (Some a) t walk same = absurd (cc)
walk_at old new None t walk same = subst (λ (v : WalkSoFar). IsWalk v.plans v.history) (sym same) walk

pub unchanged_if_none : (old new : WalkSoFar) (r : Option PlainAction) → is_some r ≡ false → IfNone r (new ≡ old) → new ≡ old
unchanged_if_none old new (Some a) t same = absurd (cc)
unchanged_if_none old new None t same = same
