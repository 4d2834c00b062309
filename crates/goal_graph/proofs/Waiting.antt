-- An arrived send and a posted receive that fit never both wait.
use Rattle.std.proofs.Common.{⊎_elim, ◌≡◌, Bool, true, false, ◌⊎◌, inl, inr, List, [], ◌∷◌, Option, Some, None, refl, sym, ◌∙◌, subst, is_some, if◌then◌else◌}
use Rattle.std.specs.Option.{option_map, option_or}
use Rattle.std.proofs.lemmas.Bool.{both_ways, cases_Bool, and_from, not_from_false}
use Rattle.goal_graph.specs.declared.action.OpId.{OpId}
use Rattle.goal_graph.specs.declared.action.Class.{Class}
use Rattle.goal_graph.specs.declared.action.Class.TheVariants.{Arrive, Post}
use Rattle.goal_graph.specs.Schedule.{Plan}
use Rattle.goal_graph.specs.Action.{Act, same_op, is_act, happened, oldest}
use Rattle.goal_graph.specs.Matching.{Pair, pair_of, other_in, partner, is_paired, add_pair, pairs, fits, is_open_receive, is_open_send}
use Rattle.goal_graph.specs.Laws.{HaveMet}
use Rattle.goal_graph.proofs.Actions.{act_of, same_op_itself, happened_none, happened_cases, is_act_class, is_act_true}
use Rattle.goal_graph.proofs.Persist.{paired_stays}
use Rattle.goal_graph.proofs.Partners.{oldest_none}

-- an operation in the newest pair is paired
paired_in_newest : (ps : List Pair) (p : Pair) (x : OpId) → is_some (other_in p x) ≡ true → is_paired (p ∷ ps) x ≡ true
unfolding partner
paired_in_newest ps p x e = go (partner ps x) (other_in p x) e
  where
    go : (o n : Option OpId) → is_some n ≡ true → is_some (option_or o n) ≡ true
    go (Some y) n e = refl
    go None n e = e

send_in_pair : (m x : OpId) → is_some (other_in (pair_of m x) m) ≡ true
send_in_pair m x = go (same_op m m) (same_op_itself m)
  where
    go : (s : Bool) → s ≡ true → is_some (if s then Some x else (if same_op x m then Some m else None)) ≡ true
    go true e = refl
    go false e = absurd (both_ways false refl e)

receive_in_pair : (m x : OpId) → is_some (other_in (pair_of m x) x) ≡ true
receive_in_pair m x = go (same_op m x) (same_op x x) (same_op_itself x)
  where
    go : (r s : Bool) → s ≡ true → is_some (if r then Some x else (if s then Some m else None)) ≡ true
    go true s e = refl
    go false true e = refl
    go false false e = absurd (both_ways false refl e)

module _ (plans : List Plan) where
  -- an Arrive pairs its send, if a posted receive that fits was unpaired
  arrive_pairs : (h : List Act) (m x : OpId) → happened Post x h ≡ true → fits plans x m ≡ true → is_paired (pairs plans h) x ≡ false → is_paired (pairs plans (act_of Arrive m ∷ h)) m ≡ true
  unfolding pairs
  arrive_pairs h m x p f free = go (oldest (is_open_receive plans (pairs plans h) m) h) refl
    where
      passes : is_open_receive plans (pairs plans h) m (act_of Post x) ≡ true
      passes = and_from _ _ (not_from_false _ free) f

      go : (o : Option OpId) → oldest (is_open_receive plans (pairs plans h) m) h ≡ o → is_paired (add_pair (pairs plans h) (option_map (λ y. pair_of m y) o)) m ≡ true
      go None e =
          absurd (both_ways _ (oldest_none (is_open_receive plans (pairs plans h) m) h e Post x p) passes)
      go (Some y) e = paired_in_newest (pairs plans h) (pair_of m y) m (send_in_pair m y)

  -- a Post pairs its receive, if an arrived send that it fits was unpaired
  post_pairs : (h : List Act) (m x : OpId) → happened Arrive m h ≡ true → fits plans x m ≡ true → is_paired (pairs plans h) m ≡ false → is_paired (pairs plans (act_of Post x ∷ h)) x ≡ true
  unfolding pairs
  post_pairs h m x p f free = go (oldest (is_open_send plans (pairs plans h) x) h) refl
    where
      passes : is_open_send plans (pairs plans h) x (act_of Arrive m) ≡ true
      passes = and_from _ _ (not_from_false _ free) f

      go : (o : Option OpId) → oldest (is_open_send plans (pairs plans h) x) h ≡ o → is_paired (add_pair (pairs plans h) (option_map (λ y. pair_of y x) o)) x ≡ true
      go None e =
          absurd (both_ways _ (oldest_none (is_open_send plans (pairs plans h) x) h e Arrive m p) passes)
      go (Some y) e = paired_in_newest (pairs plans h) (pair_of y x) x (receive_in_pair y x)

  never_both_wait_after_action : (a : Act) (h : List Act) (m x : OpId) → fits plans x m ≡ true → ((happened Arrive m h ≡ true) ⊎ (is_act Arrive m a ≡ true)) → ((happened Post x h ≡ true) ⊎ (is_act Post x a ≡ true)) → (HaveMet plans h m x → (is_paired (pairs plans h) m ≡ true) ⊎ (is_paired (pairs plans h) x ≡ true)) → (is_paired (pairs plans (a ∷ h)) m ≡ true) ⊎ (is_paired (pairs plans (a ∷ h)) x ≡ true)
  never_both_wait_after_action a h m x f (inl arrived) (inl posted) before =
      ⊎_elim (λ e. inl (paired_stays plans a h m e)) (λ e. inr (paired_stays plans a h x e)) (before (record { arrived = arrived; posted = posted; fit = f }))
  never_both_wait_after_action a h m x f (inr now) (inl posted) before =
      elim (cases_Bool (is_paired (pairs plans h) x)) [ inl e ↦ inr (paired_stays plans a h x e) | inr free ↦ inl (subst (λ (b : Act). is_paired (pairs plans (b ∷ h)) m ≡ true) (sym (is_act_true Arrive m a now)) (arrive_pairs h m x posted f free)) ]
  never_both_wait_after_action a h m x f (inl arrived) (inr now) before =
      elim (cases_Bool (is_paired (pairs plans h) m)) [ inl e ↦ inl (paired_stays plans a h m e) | inr free ↦ inr (subst (λ (b : Act). is_paired (pairs plans (b ∷ h)) x ≡ true) (sym (is_act_true Post x a now)) (post_pairs h m x arrived f free)) ]
  never_both_wait_after_action a h m x f (inr now) (inr then') before =
      absurd (clash (sym (is_act_class Arrive m a now) ∙ is_act_class Post x a then'))
    where
      clash : ◌≡◌ {A = Class} Arrive Post → ⊥
      clash e = cc e

  pub never_both_wait : (h : List Act) (m x : OpId) → HaveMet plans h m x → (is_paired (pairs plans h) m ≡ true) ⊎ (is_paired (pairs plans h) x ≡ true)
  never_both_wait [] m x met = absurd (both_ways _ (happened_none Arrive m) met.arrived)
  never_both_wait (a ∷ h) m x met =
      never_both_wait_after_action a h m x met.fit (happened_cases Arrive m a h met.arrived) (happened_cases Post x a h met.posted) (never_both_wait h m x)
