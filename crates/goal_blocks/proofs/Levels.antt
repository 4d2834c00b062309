-- Where there are levels, each operation has an end in each complete interleaving.
use Rattle.std.proofs.Common.{⊎_elim, ℕ, ◌<◌, ◌≡◌, inl, inr, Bool, true, List, Option, Some, refl, sym, ◌∙◌, subst}
use Rattle.std.proofs.lemmas.Bool.{both_ways, cases_Bool}
use Rattle.goal_graph.specs.declared.action.OpId.{OpId}
use Rattle.goal_graph.specs.declared.action.Class.TheVariants.{Post, Begin}
use Rattle.goal_graph.specs.declared.plan.Kind.{Kind}
use Rattle.goal_graph.specs.declared.plan.Kind.TheVariants.{Calc, Send, Recv}
use Rattle.goal_graph.specs.declared.plan.When.{When}
use Rattle.goal_graph.specs.declared.plan.When.TheVariants.{AfterEnd, AfterStart}
use Rattle.goal_graph.specs.Schedule.{Plan, kind_at, needed, IsSend, IsReceive}
use Rattle.goal_graph.specs.Action.{Act, happened}
use Rattle.goal_graph.specs.Matching.{fits}
use Rattle.goal_graph.specs.Allowed.{has_started, has_ended, is_met, is_ready, may}
use Rattle.goal_graph.specs.Interleaving.{IsCompleteInterleaving}
use Rattle.goal_graph.specs.Fault.{IsOp}
use Rattle.goal_graph.specs.Laws.{IsApart, IsTaken}
use Rattle.goal_graph.proofs.ForCallers.{allowed_from, started_send, started_receive, ended_started, ready_calc_ended, unready_need, fitting_taken, partner_of_receive, partners_met, fits_receive, not_send_receive, op_of_kind}
use Rattle.goal_blocks.specs.Channels.{AreOfOneChannel, HasNoWildcard, HasNoDoubleChannel, HasNoUnpaired}
use Rattle.goal_blocks.specs.Walk.{AllEnd}
use Rattle.goal_blocks.specs.Levels.{AreLevels}
use Rattle.goal_blocks.proofs.Channels.{channel_fits, channels_apart}
use Rattle.goal_blocks.proofs.Least.{strong_induction}
use Rattle.goal_blocks.proofs.Matched.{op_has_kind}

module _ (plans : List Plan) (level : OpId → ℕ) (eager : OpId → Bool) (h : List Act) (known : HasNoWildcard plans) (single : HasNoDoubleChannel plans) (paired : HasNoUnpaired plans) (levels : AreLevels plans level) (done : IsCompleteInterleaving plans eager h) where
  -- all operations below a level have ended
  abbrev AllBelow : ℕ → Type 0
  AllBelow n = (y : OpId) → IsOp plans y → level y < n → has_ended plans eager y h ≡ true

  ended_is_met : (w : When) (y : OpId) → has_ended plans eager y h ≡ true → is_met plans eager h w y ≡ true
  ended_is_met AfterEnd y e = e
  ended_is_met AfterStart y e = ended_started plans eager h y done.each e

  is_ready_above : (x : OpId) → IsOp plans x → AllBelow (level x) → is_ready plans eager h x ≡ true
  is_ready_above x is_op all =
      ⊎_elim (λ r. r) (λ r. let found = unready_need plans eager h x r in let low = levels.lower x found.0 is_op found.1 in absurd (both_ways _ found.2 (ended_is_met found.0.when (needed x found.0) (all (needed x found.0) low.0 low.1)))) (cases_Bool (is_ready plans eager h x))

  ready_send_starts : (m : OpId) → IsSend plans m → is_ready plans eager h m ≡ true → has_started plans m h ≡ true
  ready_send_starts m k r =
      started_send plans h m k ∙ ⊎_elim (λ e. e) (λ e. absurd (both_ways _ (done.none_left (record { class = Begin; op = m })) (allowed_from plans eager h Begin m e (subst (λ (k : Option Kind). may plans eager h Begin m k ≡ true) (sym k.kind) r)))) (cases_Bool (happened Begin m h))

  ready_receive_starts : (x : OpId) → IsReceive plans x → is_ready plans eager h x ≡ true → has_started plans x h ≡ true
  ready_receive_starts x k r =
      started_receive plans h x k ∙ ⊎_elim (λ e. e) (λ e. absurd (both_ways _ (done.none_left (record { class = Post; op = x })) (allowed_from plans eager h Post x e (subst (λ (k : Option Kind). may plans eager h Post x k ≡ true) (sym k.kind) r)))) (cases_Bool (happened Post x h))

  channels_are_apart : IsApart plans
  channels_are_apart = channels_apart plans known single

  module _ (m x : OpId) (one : AreOfOneChannel plans m x) where
    fit : fits plans x m ≡ true
    fit = channel_fits plans x m one

    -- neither is taken by another
    free_receive : IsTaken plans h x m → ⊥
    free_receive t =
        t.other (channels_are_apart.one_send x t.taker m (partner_of_receive plans h x t.taker one.is_receive t.pair).fit fit)

    free_send : IsTaken plans h m x → ⊥
    free_send t =
        ⊎_elim (λ ended_is_met. t.other (channels_are_apart.one_receive m t.taker x ended_is_met.fit fit)) (λ ended_is_met. not_send_receive plans m one.is_send (fits_receive plans m t.taker ended_is_met.fit)) (partners_met plans h m t.taker t.pair)

    both_end : is_ready plans eager h m ≡ true → is_ready plans eager h x ≡ true → (has_ended plans eager m h ≡ true) × (has_ended plans eager x h ≡ true)
    both_end r s = (
      ⊎_elim (λ e. e) (λ e. absurd (⊎_elim (λ f. both_ways _ f (ready_receive_starts x one.is_receive s)) free_receive (fitting_taken plans eager h done m x r e (inr fit)))) (cases_Bool (has_ended plans eager m h)),
      ⊎_elim (λ e. e) (λ e. absurd (⊎_elim (λ f. both_ways _ f (ready_send_starts m one.is_send r)) free_send (fitting_taken plans eager h done x m s e (inl fit)))) (cases_Bool (has_ended plans eager x h)),
    )

  -- if all operations of lower levels have ended, then each operation of this level has ended
  operations_of_level_end : (n : ℕ) → AllBelow n → (x : OpId) → IsOp plans x → level x ≡ n → has_ended plans eager x h ≡ true
  operations_of_level_end n all x is_op e = go (op_has_kind plans x is_op).0 (op_has_kind plans x is_op).1
    where
      low : (y : OpId) → level y ≡ n → AllBelow (level y)
      low y f z z_op l = all z z_op (subst (λ (k : ℕ). level z < k) f l)

      go : (k : Kind) → kind_at plans x ≡ Some k → has_ended plans eager x h ≡ true
      go (Calc nanos) k =
          ready_calc_ended plans eager h done x (record { nanos = nanos; kind = k }) (is_ready_above x is_op (low x e))
      go (Send bytes to tag) k =
          let other = paired.sends x (record { bytes = bytes; to = to; tag = tag; kind = k }) in
          (both_end x other.0 other.1 (is_ready_above x is_op (low x e)) (is_ready_above other.0 (op_of_kind plans other.0 _ other.1.is_receive.kind) (low other.0 (sym (levels.same x other.0 other.1) ∙ e)))).0
      go (Recv room from tag) k =
          let other = paired.receives x (record { room = room; from = from; tag = tag; kind = k }) in
          (both_end other.0 x other.1 (is_ready_above other.0 (op_of_kind plans other.0 _ other.1.is_send.kind) (low other.0 (levels.same other.0 x other.1 ∙ e))) (is_ready_above x is_op (low x e))).1

  pub levels_end : AllEnd plans eager h
  levels_end x is_op =
      strong_induction (λ n. (y : OpId) → IsOp plans y → level y ≡ n → has_ended plans eager y h ≡ true) (λ n before. operations_of_level_end n (λ z z_op l. before (level z) l z z_op refl)) (level x) x is_op refl
