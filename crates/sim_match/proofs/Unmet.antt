-- The arrivals that paired their send with no receive.
use Rattle.std.proofs.Common.{◌≤◌, ◌≡◌, ◌==◌, ◌&&◌, ◌||◌, not, Bool, true, false, if◌then◌else◌, cond, List, [], ◌∷◌, ◌++◌, length, All, filter, find, Option, Some, None, is_none, refl, arith, sym, ap, ◌∙◌, subst, append-nil}
use Rattle.std.specs.Option.{option_map}
use Rattle.std.proofs.Math.Bool.{and_comm, or-true}
use Rattle.std.proofs.lemmas.Bool.{both_ways}
use Rattle.std.proofs.lemmas.Option.{none-some, same_Some}
use Rattle.std.proofs.lemmas.List.{length-append, get_or_append_left, get_or_at}
use Rattle.std.proofs.lemmas.List.Elements.{All-nil, All-push, All-same, filter-append}
use Rattle.goal_graph.specs.declared.action.OpId.{OpId}
use Rattle.goal_graph.specs.declared.action.Class.{Class}
use Rattle.goal_graph.specs.declared.action.Class.TheVariants.{Arrive, Serve, Data, Post, Begin}
use Rattle.goal_graph.specs.Schedule.{Plan}
use Rattle.goal_graph.specs.Action.{Act, place, is_of, same_op, oldest}
use Rattle.goal_graph.specs.Matching.{Pair, pair_of, is_open_receive, is_paired, new_pair, pairs}
use Rattle.goal_graph.proofs.ForCallers.{paired_stays, find_agree, same_op_itself}
use Rattle.sim_match.specs.declared.match_list.MatchEntry.{MatchEntry}
use Rattle.sim_match.specs.MatchLists.{entries_of}
use Rattle.sim_match.specs.Matcher.{unmet_of}
use Rattle.sim_match.proofs.Entries.{entries_after_its_class, entries_after_other_class, entries_none}
use Rattle.sim_match.proofs.Finding.{find_filter, filter_last_fails}
use Rattle.sim_match.proofs.Pairs.{paired_with_new_pair, pairs_with_new_pair}

-- those that pass a test, from those that pass a weaker one
filter_of_weaker_filter : {X : Type 0} (f g : X → Bool) (xs : List X) → ((x : X) → f x ≡ true → g x ≡ true) → filter f (filter g xs) ≡ filter f xs
filter_of_weaker_filter f g [] narrow = refl
filter_of_weaker_filter {X} f g (x ∷ xs) narrow = go (g x) (f x) refl refl (filter_of_weaker_filter f g xs narrow)
  where
    go : (s t : Bool) → g x ≡ s → f x ≡ t → filter f (filter g xs) ≡ filter f xs → filter f (cond s (x ∷ filter g xs) (filter g xs)) ≡ cond t (x ∷ filter f xs) (filter f xs)
    go true t e d rest = ap (λ (b : Bool). cond b (x ∷ filter f (filter g xs)) (filter f (filter g xs))) d ∙ ap (λ (ys : List X). cond t (x ∷ ys) ys) rest
    go false true e d rest = absurd (both_ways (g x) e (narrow x d))
    go false false e d rest = rest

all_left : {X : Type 0} (P : X → Type 0) (xs ys : List X) → All P (xs ++ ys) → All P xs
all_left P xs ys all k d below =
    subst P (get_or_append_left xs ys d k below) (all k d (omega (arith, below, length-append xs ys)))

all_last : {X : Type 0} (P : X → Type 0) (xs : List X) (y : X) → All P (xs ++ y ∷ []) → P y
all_last P xs y all =
    subst P (get_or_at xs y [] y (length xs) refl) (all (length xs) y (omega (arith, length-append xs (y ∷ []))))

-- an arrival pairs its own send
arrival_pairs_its_send : (plans : List Plan) (ps : List Pair) (h : List Act) (class : Class) (m : OpId) → (place class == place Arrive) ≡ true → (p : Pair) → new_pair plans ps h class m ≡ Some p → same_op p.send m ≡ true
arrival_pairs_its_send plans ps h Arrive m arrives p e = go (oldest (is_open_receive plans ps m) h) e
  where
    go : (o : Option OpId) → option_map (λ (x : OpId). pair_of m x) o ≡ Some p → same_op p.send m ≡ true
    go None e = absurd (none-some p e)
    go (Some x) e =
        ap (λ (q : Pair). same_op q.send m) (sym (same_Some (pair_of m x) p e)) ∙ same_op_itself m
arrival_pairs_its_send plans ps h Serve m arrives p e = absurd (none-some p e)
arrival_pairs_its_send plans ps h Data m arrives p e = absurd (none-some p e)
arrival_pairs_its_send plans ps h Begin m arrives p e = absurd (none-some p e)
arrival_pairs_its_send plans ps h Post m arrives p e = absurd (both_ways (place Post == place Arrive) refl arrives)

module _ (plans : List Plan) where
  pub unmet_none : unmet_of plans [] ≡ []
  unfolding unmet_of
  unmet_none = refl

  -- after one action more
  module _ (a : Act) (h : List Act) where
    abbrev last : MatchEntry
    last = record { op = a.op; at = length h }

    abbrev makes : Option Pair
    makes = new_pair plans (pairs plans h) h a.class a.op

    pub unmet_other : is_of Arrive a ≡ false → unmet_of plans (a ∷ h) ≡ unmet_of plans h
    unfolding unmet_of
    unmet_other e =
        ap (λ (b : Bool). unmet_of plans h ++ (if b && is_none makes then last ∷ [] else [])) e ∙ append-nil (unmet_of plans h)

    pub unmet_arrival : is_of Arrive a ≡ true → unmet_of plans (a ∷ h) ≡ unmet_of plans h ++ (if is_none makes then last ∷ [] else [])
    unfolding unmet_of
    unmet_arrival e = ap (λ (b : Bool). unmet_of plans h ++ (if b && is_none makes then last ∷ [] else [])) e

    -- an arrival that pairs its send
    arrival_paired : is_of Arrive a ≡ true → is_none makes ≡ false → is_paired (pairs plans (a ∷ h)) a.op ≡ true
    arrival_paired arrives pairs_it = go makes refl pairs_it
      where
        go : (o : Option Pair) → makes ≡ o → is_none o ≡ false → is_paired (pairs plans (a ∷ h)) a.op ≡ true
        go None e f = absurd (both_ways true f refl)
        go (Some p) e f =
            ap (λ (ps : List Pair). is_paired ps a.op) (pairs_with_new_pair plans a h p e) ∙ paired_with_new_pair p (pairs plans h) a.op ∙ ap (λ (b : Bool). is_paired (pairs plans h) a.op || (b || same_op p.recv a.op)) (arrival_pairs_its_send plans (pairs plans h) h a.class a.op arrives p e) ∙ or-true (is_paired (pairs plans h) a.op)

  -- what is true of each arrival is true of each of these
  pub unmet_satisfy_what_arrivals_do : (P : MatchEntry → Type 0) (h : List Act) → All P (entries_of Arrive h) → All P (unmet_of plans h)
  unmet_satisfy_what_arrivals_do P [] all = All-same P (unmet_of plans []) [] unmet_none (All-nil P)
  unmet_satisfy_what_arrivals_do P (a ∷ h) all = go (is_of Arrive a) (is_none (makes a h)) refl refl (unmet_satisfy_what_arrivals_do P h)
    where
      go : (s n : Bool) → is_of Arrive a ≡ s → is_none (makes a h) ≡ n → (All P (entries_of Arrive h) → All P (unmet_of plans h)) → All P (unmet_of plans (a ∷ h))
      go false n e f rest =
          All-same P _ _ (unmet_other a h e) (rest (All-same P _ _ (sym (entries_after_other_class Arrive a h e)) all))
      go true true e f rest =
          let each = All-same P _ _ (sym (entries_after_its_class Arrive a h e)) all in
          All-same P _ _ (unmet_arrival a h e ∙ ap (λ (b : Bool). unmet_of plans h ++ (if b then last a h ∷ [] else [])) f) (All-push P (unmet_of plans h) (last a h) (rest (all_left P (entries_of Arrive h) (last a h ∷ []) each)) (all_last P (entries_of Arrive h) (last a h) each))
      go true false e f rest =
          let each = All-same P _ _ (sym (entries_after_its_class Arrive a h e)) all in
          All-same P _ _ (unmet_arrival a h e ∙ ap (λ (b : Bool). unmet_of plans h ++ (if b then last a h ∷ [] else [])) f ∙ append-nil (unmet_of plans h)) (rest (all_left P (entries_of Arrive h) (last a h ∷ []) each))

  -- they are no more than the actions
  pub unmet_within_actions : (h : List Act) → length (unmet_of plans h) ≤ length h
  unmet_within_actions [] = omega (arith, ap length unmet_none)
  unmet_within_actions (a ∷ h) = go (is_of Arrive a) (is_none (makes a h)) refl refl (unmet_within_actions h)
    where
      go : (s n : Bool) → is_of Arrive a ≡ s → is_none (makes a h) ≡ n → length (unmet_of plans h) ≤ length h → length (unmet_of plans (a ∷ h)) ≤ length (a ∷ h)
      go false n e f short = omega (arith, short, ap length (unmet_other a h e))
      go true true e f short =
          omega (arith, short, ap length (unmet_arrival a h e ∙ ap (λ (b : Bool). unmet_of plans h ++ (if b then last a h ∷ [] else [])) f), length-append (unmet_of plans h) (last a h ∷ []))
      go true false e f short =
          omega (arith, short, ap length (unmet_arrival a h e ∙ ap (λ (b : Bool). unmet_of plans h ++ (if b then last a h ∷ [] else [])) f ∙ append-nil (unmet_of plans h)))

  -- they are no more than the arrivals, and those that wait are the same
  pub unmet_no_more_than_arrivals : (p : MatchEntry → Bool) (h : List Act) → length (filter p (unmet_of plans h)) ≤ length (filter p (entries_of Arrive h))
  unmet_no_more_than_arrivals p [] = omega (arith, ap (λ (es : List MatchEntry). length (filter p es)) unmet_none)
  unmet_no_more_than_arrivals p (a ∷ h) = go (is_of Arrive a) (is_none (makes a h)) refl refl (unmet_no_more_than_arrivals p h)
    where
      go : (s n : Bool) → is_of Arrive a ≡ s → is_none (makes a h) ≡ n → length (filter p (unmet_of plans h)) ≤ length (filter p (entries_of Arrive h)) → length (filter p (unmet_of plans (a ∷ h))) ≤ length (filter p (entries_of Arrive (a ∷ h)))
      go false n e f fewer =
          omega (arith, fewer, ap (λ (es : List MatchEntry). length (filter p es)) (unmet_other a h e), ap (λ (es : List MatchEntry). length (filter p es)) (entries_after_other_class Arrive a h e))
      go true true e f fewer =
          let here = ap (λ (es : List MatchEntry). length (filter p es)) (unmet_arrival a h e ∙ ap (λ (b : Bool). unmet_of plans h ++ (if b then last a h ∷ [] else [])) f) ∙ ap length (filter-append p (unmet_of plans h) (last a h ∷ [])) ∙ length-append (filter p (unmet_of plans h)) (filter p (last a h ∷ [])) in
          let there = ap (λ (es : List MatchEntry). length (filter p es)) (entries_after_its_class Arrive a h e) ∙ ap length (filter-append p (entries_of Arrive h) (last a h ∷ [])) ∙ length-append (filter p (entries_of Arrive h)) (filter p (last a h ∷ [])) in
          omega (arith, fewer, here, there)
      go true false e f fewer =
          let here = ap (λ (es : List MatchEntry). length (filter p es)) (unmet_arrival a h e ∙ ap (λ (b : Bool). unmet_of plans h ++ (if b then last a h ∷ [] else [])) f ∙ append-nil (unmet_of plans h)) in
          let there = ap (λ (es : List MatchEntry). length (filter p es)) (entries_after_its_class Arrive a h e) ∙ ap length (filter-append p (entries_of Arrive h) (last a h ∷ [])) ∙ length-append (filter p (entries_of Arrive h)) (filter p (last a h ∷ [])) in
          omega (arith, fewer, here, there)

  abbrev entry_is_unpaired : List Act → MatchEntry → Bool
  entry_is_unpaired h e = not (is_paired (pairs plans h) e.op)

  -- what waits later has waited before
  waited_before : (a : Act) (h : List Act) (e : MatchEntry) → entry_is_unpaired (a ∷ h) e ≡ true → entry_is_unpaired h e ≡ true
  waited_before a h e now = go (is_paired (pairs plans h) e.op) refl
    where
      go : (b : Bool) → is_paired (pairs plans h) e.op ≡ b → not b ≡ true
      go false f = refl
      go true f = absurd (both_ways (entry_is_unpaired (a ∷ h) e) (ap not (paired_stays plans a h e.op f)) now)

  pub waiting_unmet_are_waiting_arrivals : (h : List Act) → filter (entry_is_unpaired h) (unmet_of plans h) ≡ filter (entry_is_unpaired h) (entries_of Arrive h)
  waiting_unmet_are_waiting_arrivals [] = ap (filter (entry_is_unpaired [])) (unmet_none ∙ sym (entries_none Arrive))
  waiting_unmet_are_waiting_arrivals (a ∷ h) = go (is_of Arrive a) (is_none (makes a h)) refl refl (before (waiting_unmet_are_waiting_arrivals h))
    where
      before : filter (entry_is_unpaired h) (unmet_of plans h) ≡ filter (entry_is_unpaired h) (entries_of Arrive h) → filter (entry_is_unpaired (a ∷ h)) (unmet_of plans h) ≡ filter (entry_is_unpaired (a ∷ h)) (entries_of Arrive h)
      before rest =
          sym (filter_of_weaker_filter (entry_is_unpaired (a ∷ h)) (entry_is_unpaired h) (unmet_of plans h) (waited_before a h)) ∙ ap (filter (entry_is_unpaired (a ∷ h))) rest ∙ filter_of_weaker_filter (entry_is_unpaired (a ∷ h)) (entry_is_unpaired h) (entries_of Arrive h) (waited_before a h)

      go : (s n : Bool) → is_of Arrive a ≡ s → is_none (makes a h) ≡ n → filter (entry_is_unpaired (a ∷ h)) (unmet_of plans h) ≡ filter (entry_is_unpaired (a ∷ h)) (entries_of Arrive h) → filter (entry_is_unpaired (a ∷ h)) (unmet_of plans (a ∷ h)) ≡ filter (entry_is_unpaired (a ∷ h)) (entries_of Arrive (a ∷ h))
      go false n e f same =
          ap (filter (entry_is_unpaired (a ∷ h))) (unmet_other a h e) ∙ same ∙ ap (filter (entry_is_unpaired (a ∷ h))) (sym (entries_after_other_class Arrive a h e))
      go true true e f same =
          ap (filter (entry_is_unpaired (a ∷ h))) (unmet_arrival a h e ∙ ap (λ (b : Bool). unmet_of plans h ++ (if b then last a h ∷ [] else [])) f) ∙ filter-append (entry_is_unpaired (a ∷ h)) (unmet_of plans h) (last a h ∷ []) ∙ ap (λ (es : List MatchEntry). es ++ filter (entry_is_unpaired (a ∷ h)) (last a h ∷ [])) same ∙ sym (filter-append (entry_is_unpaired (a ∷ h)) (entries_of Arrive h) (last a h ∷ [])) ∙ ap (filter (entry_is_unpaired (a ∷ h))) (sym (entries_after_its_class Arrive a h e))
      go true false e f same =
          ap (filter (entry_is_unpaired (a ∷ h))) (unmet_arrival a h e ∙ ap (λ (b : Bool). unmet_of plans h ++ (if b then last a h ∷ [] else [])) f ∙ append-nil (unmet_of plans h)) ∙ same ∙ sym (filter_last_fails (entry_is_unpaired (a ∷ h)) (entries_of Arrive h) (last a h) (ap not (arrival_paired a h e f))) ∙ ap (filter (entry_is_unpaired (a ∷ h))) (sym (entries_after_its_class Arrive a h e))

  -- the first of them that waits and passes a test is the first such arrival
  pub unmet_found : (h : List Act) (q : MatchEntry → Bool) → find (λ (e : MatchEntry). entry_is_unpaired h e && q e) (unmet_of plans h) ≡ find (λ (e : MatchEntry). entry_is_unpaired h e && q e) (entries_of Arrive h)
  unmet_found h q =
      find_agree (λ (e : MatchEntry). entry_is_unpaired h e && q e) (λ (e : MatchEntry). q e && entry_is_unpaired h e) (λ e. and_comm (entry_is_unpaired h e) (q e)) (unmet_of plans h) ∙ sym (find_filter (entry_is_unpaired h) q (unmet_of plans h)) ∙ ap (find q) (waiting_unmet_are_waiting_arrivals h) ∙ find_filter (entry_is_unpaired h) q (entries_of Arrive h) ∙ find_agree (λ (e : MatchEntry). q e && entry_is_unpaired h e) (λ (e : MatchEntry). entry_is_unpaired h e && q e) (λ e. and_comm (q e) (entry_is_unpaired h e)) (entries_of Arrive h)
