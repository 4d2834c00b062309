-- Every certified schedule is right everywhere: what is held after any complete interleaving is what is held after
-- the walk.
use Rattle.std.proofs.Common.{⊎_elim, ℕ, ◌≡◌, ◌⊎◌, inl, inr, Bool, List, Option, Some, None, sym, ap, ◌∙◌, subst}
use Rattle.std.proofs.lemmas.Bool.{cases_eq}
use Rattle.goal_graph.specs.declared.action.OpId.{OpId}
use Rattle.goal_graph.specs.Schedule.{Plan}
use Rattle.goal_graph.specs.Action.{Act}
use Rattle.goal_graph.specs.Interleaving.{IsCompleteInterleaving}
use Rattle.goal_graph.proofs.ForCallers.{same_or_different_op, same_op_false}
use Rattle.goal_blocks.specs.Slots.{written, touched}
use Rattle.goal_blocks.specs.Race.{EndsBefore, Conflict, HasNoRace}
use Rattle.goal_blocks.specs.Values.{Value, Store, Held, held_after, value}
use Rattle.goal_blocks.specs.Matched.{IsMatched}
use Rattle.goal_blocks.specs.Walk.{no_send}
use Rattle.goal_blocks.specs.Certification.{HoldsWanted, IsCertified}
use Rattle.goal_blocks.specs.Right.{IsRightEverywhere}
use Rattle.goal_blocks.proofs.Matched.{ends_in_its_pairs}
use Rattle.goal_blocks.proofs.Orders.{Mem, Swaps, ordered_runs_agree}
use Rattle.goal_blocks.proofs.Effects.{mem_contains, cases_shared, ended, IsClear, swapped}
use Rattle.goal_blocks.proofs.Ends.{start, ends, ended_listed, listed_op, ends_once, sender, Before, ends_keep, held_by_ends}

is_given_op_or_not : (o : Option OpId) (x : OpId) → (o ≡ Some x) ⊎ (o ≡ Some x → ⊥)
is_given_op_or_not None x = inr (λ e. cc e)
is_given_op_or_not (Some y) x =
    ⊎_elim (λ e. inl (ap (λ (z : OpId). Some z) e)) (λ f. inr (λ e. same_op_false y x f (cc e))) (same_or_different_op y x)

module _ (plans : List Plan) (no_race : HasNoRace plans) (matched : IsMatched plans) where
  ends_before_exchanged : (x y : OpId) → EndsBefore plans y x ⊎ EndsBefore plans x y → EndsBefore plans x y ⊎ EndsBefore plans y x
  ends_before_exchanged x y (inl b) = inr b
  ends_before_exchanged x y (inr b) = inl b

  -- one of the operations ends before the other starts, or x writes no slot that y touches
  ordered_or_clear : (x y : OpId) → (x ≡ y → ⊥) → (EndsBefore plans x y ⊎ EndsBefore plans y x) ⊎ IsClear plans (sender plans matched) x y
  ordered_or_clear x y differ =
      ⊎_elim (λ e. ⊎_elim (λ s. inl (ends_before_exchanged x y (no_race y x (conflict e s.0 s.1 s.2)))) (λ none. inr (λ k p m w. none k m w)) (cases_shared (touched plans y) (written plans x))) (λ n. inr (λ k p m w. n p)) (cases_eq y.rank x.rank)
    where
      conflict : y.rank ≡ x.rank → (k : ℕ) → Mem k (touched plans y) → Mem k (written plans x) → Conflict plans y x
      conflict e k m w = record {
        one_rank = e;
        two = λ f. differ (sym f);
        slot = k;
        is_touched = mem_contains k (touched plans y) m;
        is_written = mem_contains k (written plans x) w;
      }

  swaps : Swaps (ended plans (sender plans matched)) (Before plans matched)
  swaps x y differ =
      ⊎_elim ordered (λ clear_x. ⊎_elim (λ o. ordered (ends_before_exchanged x y o)) (λ clear_y. ⊎_elim (λ e. inl (differ, inr e)) (λ not_of_x. ⊎_elim (λ e. inr (inl (other, inr e))) (λ not_of_y. inr (inr (λ s. swapped plans (sender plans matched) x y s differ clear_x clear_y not_of_y not_of_x))) (is_given_op_or_not (sender plans matched x) y)) (is_given_op_or_not (sender plans matched y) x)) (ordered_or_clear y x other)) (ordered_or_clear x y differ)
    where
      other : y ≡ x → ⊥
      other e = differ (sym e)

      ordered : EndsBefore plans x y ⊎ EndsBefore plans y x → Before plans matched x y ⊎ (Before plans matched y x ⊎ ((s : Held) → ended plans (sender plans matched) x (ended plans (sender plans matched) y s) ≡ ended plans (sender plans matched) y (ended plans (sender plans matched) x s)))
      ordered (inl b) = inl (differ, inl b)
      ordered (inr b) = inr (inl (other, inl b))

  abbrev held_after_end : OpId → Held → Held
  held_after_end = ended plans (sender plans matched)

  abbrev walk_of_matched : List Act
  walk_of_matched = matched.no_stall.walk

  walk_is_complete : IsCompleteInterleaving plans no_send walk_of_matched
  walk_is_complete = matched.no_stall.is_walk.complete

  -- every complete interleaving leaves what the walk leaves
  pub held_as_the_walk : (first : Store) (eager : OpId → Bool) (h : List Act) → IsCompleteInterleaving plans eager h → held_after plans eager first h ≡ held_after plans no_send first matched.no_stall.walk
  held_as_the_walk first eager h done =
      held_by_ends plans matched eager first h done.each ∙ (ordered_runs_agree held_after_end (start plans first) (Before plans matched) swaps (ends plans eager h) (ends plans no_send walk_of_matched) (ends_once plans eager h done.each) (ends_once plans no_send walk_of_matched walk_is_complete.each) (ends_keep plans matched eager h done.each) (ends_keep plans matched no_send walk_of_matched walk_is_complete.each) into from ∙ sym (held_by_ends plans matched no_send first walk_of_matched walk_is_complete.each))
    where
      into : (z : OpId) → Mem z (ends plans eager h) → Mem z (ends plans no_send walk_of_matched)
      into z m =
          ended_listed plans no_send walk_of_matched z (matched.no_stall.all_end z (listed_op plans eager h z done.each m))

      from : (z : OpId) → Mem z (ends plans no_send walk_of_matched) → Mem z (ends plans eager h)
      from z m =
          ended_listed plans eager h z ((ends_in_its_pairs plans eager h matched done).all_end z (listed_op plans no_send walk_of_matched z walk_is_complete.each m))

-- a matched schedule without races is right everywhere if its walk leaves what is wanted
pub matched_right : (plans : List Plan) (first : Store) (wanted : ℕ → ℕ → Value → Bool) (matched : IsMatched plans) → HasNoRace plans → HoldsWanted plans wanted (value plans no_send first matched.no_stall.walk) → IsRightEverywhere plans first wanted
matched_right plans first wanted matched no_race right eager h done = record {
  ends = ends_in_its_pairs plans eager h matched done;
  wanted_held = subst (λ (s : Held). HoldsWanted plans wanted s.store) (sym (held_as_the_walk plans no_race matched first eager h done)) right;
}

pub certified_right : (plans : List Plan) (first : Store) (wanted : ℕ → ℕ → Value → Bool) → IsCertified plans first wanted → IsRightEverywhere plans first wanted
certified_right plans first wanted certified =
    matched_right plans first wanted certified.matched certified.no_race certified.right
