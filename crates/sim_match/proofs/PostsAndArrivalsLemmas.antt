-- Matching looks at posts and arrivals alone.
use Rattle.std.proofs.Common.{◌≡◌, ◌⊎◌, ◌==◌, ◌&&◌, ◌||◌, Bool, true, false, not, if◌then◌else◌, inl, inr, List, [], ◌∷◌, Option, Some, None, filter, refl, sym, ap, ◌∙◌}
use Rattle.std.specs.Option.{option_or, option_map}
use Rattle.std.proofs.lemmas.Bool.{cases_Bool, cond-true, cond-false, both_ways, and_parts, eqb-true, false_from_ne_true}
use Rattle.goal_graph.specs.declared.action.OpId.{OpId}
use Rattle.goal_graph.specs.declared.action.Class.{Class}
use Rattle.goal_graph.specs.declared.action.Class.TheVariants.{Arrive, Serve, Data, Post, Begin}
use Rattle.goal_graph.specs.Schedule.{Plan}
use Rattle.goal_graph.specs.Action.{Act, place, is_act, happened, oldest}
use Rattle.goal_graph.specs.Matching.{Pair, pair_of, fits, is_paired, is_open_receive, is_open_send, add_pair, new_pair, pairs}
use Rattle.goal_graph.proofs.ForCallers.{place_injective, is_act_class, happened_unless_newest}
use Rattle.sim_match.specs.PostsAndArrivals.{is_post_or_arrival, is_post_or_arrival_class, send_for, receive_for}

-- the filtered history after a post or arrival, and after any other action
pub filtered_with_newest : (a : Act) (h : List Act) → is_post_or_arrival a ≡ true → filter is_post_or_arrival (a ∷ h) ≡ a ∷ filter is_post_or_arrival h
filtered_with_newest a h e = cond-true (is_post_or_arrival a) (a ∷ filter is_post_or_arrival h) (filter is_post_or_arrival h) e

pub filtered_without_newest : (a : Act) (h : List Act) → is_post_or_arrival a ≡ false → filter is_post_or_arrival (a ∷ h) ≡ filter is_post_or_arrival h
filtered_without_newest a h e = cond-false (is_post_or_arrival a) (a ∷ filter is_post_or_arrival h) (filter is_post_or_arrival h) e

-- a test that only posts and arrivals pass
pub oldest_filtered : (test : Act → Bool) → ((a : Act) → test a ≡ true → is_post_or_arrival a ≡ true) → (h : List Act) → oldest test (filter is_post_or_arrival h) ≡ oldest test h
unfolding oldest
oldest_filtered test within [] = refl
oldest_filtered test within (a ∷ h) = go (oldest_filtered test within h) (cases_Bool (is_post_or_arrival a))
  where
    none : {X : Type 0} (o : Option X) → o ≡ option_or o None
    none None = refl
    none (Some x) = refl

    go : oldest test (filter is_post_or_arrival h) ≡ oldest test h → ((is_post_or_arrival a ≡ true) ⊎ (is_post_or_arrival a ≡ false)) → oldest test (filter is_post_or_arrival (a ∷ h)) ≡ option_or (oldest test h) (if test a then Some a.op else None)
    go rest (inl t) =
        ap (oldest test) (filtered_with_newest a h t) ∙ ap (λ (o : Option OpId). option_or o (if test a then Some a.op else None)) rest
    go rest (inr f) =
        let fails = false_from_ne_true (test a) (λ p. both_ways (is_post_or_arrival a) f (within a p)) in
        ap (oldest test) (filtered_without_newest a h f) ∙ rest ∙ none (oldest test h) ∙ ap (λ (b : Bool). option_or (oldest test h) (if b then Some a.op else None)) (sym fails)

module _ (plans : List Plan) where
  pub open_receive_filtered : (ps : List Pair) (m : OpId) (a : Act) → is_open_receive plans ps m a ≡ true → is_post_or_arrival a ≡ true
  open_receive_filtered ps m a e =
      let outer = and_parts ((place a.class == 3) && not (is_paired ps a.op)) (fits plans a.op m) e in
      let inner = and_parts (place a.class == 3) (not (is_paired ps a.op)) outer.0 in
      ap is_post_or_arrival_class (place_injective a.class Post (eqb-true (place a.class) 3 inner.0))

  pub open_send_filtered : (ps : List Pair) (x : OpId) (a : Act) → is_open_send plans ps x a ≡ true → is_post_or_arrival a ≡ true
  open_send_filtered ps x a e =
      let outer = and_parts ((place a.class == 0) && not (is_paired ps a.op)) (fits plans x a.op) e in
      let inner = and_parts (place a.class == 0) (not (is_paired ps a.op)) outer.0 in
      ap is_post_or_arrival_class (place_injective a.class Arrive (eqb-true (place a.class) 0 inner.0))

  -- with the same pairs before
  new_pair_ignores_other_actions : (ps : List Pair) (h : List Act) (class : Class) (x : OpId) → new_pair plans ps (filter is_post_or_arrival h) class x ≡ new_pair plans ps h class x
  new_pair_ignores_other_actions ps h Arrive m =
      ap (option_map (λ (x : OpId). pair_of m x)) (oldest_filtered (is_open_receive plans ps m) (open_receive_filtered ps m) h)
  new_pair_ignores_other_actions ps h Post x =
      ap (option_map (λ (m : OpId). pair_of m x)) (oldest_filtered (is_open_send plans ps x) (open_send_filtered ps x) h)
  new_pair_ignores_other_actions ps h Serve x = refl
  new_pair_ignores_other_actions ps h Data x = refl
  new_pair_ignores_other_actions ps h Begin x = refl

  other_class_makes_no_pair : (ps : List Pair) (h : List Act) (class : Class) (x : OpId) → is_post_or_arrival_class class ≡ false → new_pair plans ps h class x ≡ None
  other_class_makes_no_pair ps h Arrive x e = absurd (both_ways _ e refl)
  other_class_makes_no_pair ps h Post x e = absurd (both_ways _ e refl)
  other_class_makes_no_pair ps h Serve x e = refl
  other_class_makes_no_pair ps h Data x e = refl
  other_class_makes_no_pair ps h Begin x e = refl

  -- pairs depend only on posts and arrivals
  pub pairs_filtered : (h : List Act) → pairs plans (filter is_post_or_arrival h) ≡ pairs plans h
  unfolding pairs
  pairs_filtered [] = refl
  pairs_filtered (a ∷ h) = go (pairs_filtered h) (cases_Bool (is_post_or_arrival a))
    where
      go : pairs plans (filter is_post_or_arrival h) ≡ pairs plans h → ((is_post_or_arrival a ≡ true) ⊎ (is_post_or_arrival a ≡ false)) → pairs plans (filter is_post_or_arrival (a ∷ h)) ≡ add_pair (pairs plans h) (new_pair plans (pairs plans h) h a.class a.op)
      go rest (inl t) =
          ap (pairs plans) (filtered_with_newest a h t) ∙ ap (λ (ps : List Pair). add_pair ps (new_pair plans ps (filter is_post_or_arrival h) a.class a.op)) rest ∙ ap (add_pair (pairs plans h)) (new_pair_ignores_other_actions (pairs plans h) h a.class a.op)
      go rest (inr f) =
          ap (pairs plans) (filtered_without_newest a h f) ∙ rest ∙ ap (add_pair (pairs plans h)) (sym (other_class_makes_no_pair (pairs plans h) h a.class a.op f))

  -- so do the pair that the next action makes, and the answers to a post and an arrival
  pub new_pair_filtered : (h : List Act) (class : Class) (x : OpId) → new_pair plans (pairs plans (filter is_post_or_arrival h)) (filter is_post_or_arrival h) class x ≡ new_pair plans (pairs plans h) h class x
  new_pair_filtered h class x =
      ap (λ (ps : List Pair). new_pair plans ps (filter is_post_or_arrival h) class x) (pairs_filtered h) ∙ new_pair_ignores_other_actions (pairs plans h) h class x

  pub send_for_filtered : (h : List Act) (x : OpId) → send_for plans (filter is_post_or_arrival h) x ≡ send_for plans h x
  send_for_filtered h x = ap (option_map (λ (p : Pair). p.send)) (new_pair_filtered h Post x)

  pub receive_for_filtered : (h : List Act) (m : OpId) → receive_for plans (filter is_post_or_arrival h) m ≡ receive_for plans h m
  receive_for_filtered h m = ap (option_map (λ (p : Pair). p.recv)) (new_pair_filtered h Arrive m)

-- what is posted or has arrived
pub happened_filtered : (class : Class) (x : OpId) (h : List Act) → is_post_or_arrival_class class ≡ true → happened class x (filter is_post_or_arrival h) ≡ happened class x h
unfolding happened
happened_filtered class x [] e = refl
happened_filtered class x (a ∷ h) e = go (happened_filtered class x h e) (cases_Bool (is_post_or_arrival a))
  where
    go : happened class x (filter is_post_or_arrival h) ≡ happened class x h → ((is_post_or_arrival a ≡ true) ⊎ (is_post_or_arrival a ≡ false)) → happened class x (filter is_post_or_arrival (a ∷ h)) ≡ happened class x (a ∷ h)
    go rest (inl t) =
        ap (happened class x) (filtered_with_newest a h t) ∙ ap (λ (b : Bool). b || is_act class x a) rest
    go rest (inr f) =
        let other = false_from_ne_true (is_act class x a) (λ p. both_ways (is_post_or_arrival a) f (ap is_post_or_arrival_class (is_act_class class x a p) ∙ e)) in
        ap (happened class x) (filtered_without_newest a h f) ∙ rest ∙ sym (happened_unless_newest class x a h other)
