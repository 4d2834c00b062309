-- The operations that were posted or have arrived: each is there once, of the right kind, and there are no more than the schedule has.
use Rattle.std.proofs.Common.{◌+◌, ◌<◌, ◌≤◌, ◌≡◌, ◌==◌, ◌&&◌, ◌⊎◌, Bool, true, false, not, cond, if◌then◌else◌, inl, inr, List, [], ◌∷◌, ◌++◌, length, Option, Some, None, All, Contains, find, count_by, refl, arith, sym, ap, ap₂, ◌∙◌, subst}
use Rattle.std.specs.Option.{option_or}
use Rattle.std.proofs.lemmas.Bool.{cases_Bool, eqb-true, and_parts, and_from, and_right, both_ways, not-true, not_from_true, not_from_false}
use Rattle.std.proofs.lemmas.List.{append-nil}
use Rattle.std.proofs.lemmas.List.Sums.{sum_by_push}
use Rattle.std.proofs.lemmas.List.Folds.{find-append}
use Rattle.std.proofs.lemmas.List.Elements.{All-nil, All-push, All-weaker}
use Rattle.goal_graph.specs.declared.action.OpId.{OpId}
use Rattle.goal_graph.specs.declared.action.Class.{Class}
use Rattle.goal_graph.specs.declared.action.Class.TheVariants.{Arrive, Serve, Data, Post, Begin}
use Rattle.goal_graph.specs.declared.plan.Kind.{Kind}
use Rattle.goal_graph.specs.declared.plan.Kind.TheVariants.{Calc, Send, Recv}
use Rattle.goal_graph.specs.Schedule.{Plan, kind_at, operations, IsSend, IsReceive}
use Rattle.goal_graph.specs.Action.{Act, place, happened, oldest}
use Rattle.goal_graph.specs.Laws.{has_class}
use Rattle.goal_graph.proofs.ForCallers.{place_injective, is_act_class, is_act_op, is_act_from, happened_stays, happened_new, happened_newest, happened_none, happened_cases, not_happened_before_newest, kind_listed, count_falls, count_le}
use Rattle.sim_match.specs.PostsAndArrivals.{is_post_or_arrival_class}
use Rattle.sim_match.specs.Waiting.{ops_of, is_message, is_message_kind}
use Rattle.sim_match.specs.Matcher.{IsNew, ArePostsAndArrivals}

-- the operations after one more action, of that class and of another
pub ops_after_its_class : (class : Class) (a : Act) (h : List Act) → (place a.class == place class) ≡ true → ops_of class (a ∷ h) ≡ ops_of class h ++ a.op ∷ []
unfolding ops_of
ops_after_its_class class a h e = ap (λ (b : Bool). ops_of class h ++ (if b then a.op ∷ [] else [])) e

pub ops_after_other_class : (class : Class) (a : Act) (h : List Act) → (place a.class == place class) ≡ false → ops_of class (a ∷ h) ≡ ops_of class h
unfolding ops_of
ops_after_other_class class a h e = ap (λ (b : Bool). ops_of class h ++ (if b then a.op ∷ [] else [])) e ∙ append-nil (ops_of class h)

-- the oldest action of a class that passes two tests is the first of its operations that passes them
pub oldest_found : (class : Class) (r q : OpId → Bool) (h : List Act) → oldest (λ (a : Act). (place a.class == place class) && r a.op && q a.op) h ≡ find (λ (x : OpId). r x && q x) (ops_of class h)
unfolding oldest ops_of
oldest_found class r q [] = refl
oldest_found class r q (a ∷ h) =
    ap₂ option_or (oldest_found class r q h) (go (place a.class == place class)) ∙ sym (find-append (λ (x : OpId). r x && q x) (ops_of class h) (if place a.class == place class then a.op ∷ [] else []))
  where
    go : (b : Bool) → (if b && r a.op && q a.op then Some a.op else None) ≡ find (λ (x : OpId). r x && q x) (if b then a.op ∷ [] else [])
    go true = refl
    go false = refl

-- each of the operations has its action
pub ops_happened : (class : Class) (h : List Act) → All (λ (x : OpId). happened class x h ≡ true) (ops_of class h)
unfolding ops_of
ops_happened class [] = All-nil (λ (x : OpId). happened class x [] ≡ true)
ops_happened class (a ∷ h) =
    more (All-weaker (λ (x : OpId). happened class x h ≡ true) (λ (x : OpId). happened class x (a ∷ h) ≡ true) (λ x e. happened_stays class x a h e) (ops_of class h) (ops_happened class h)) (cases_Bool (place a.class == place class))
  where
    now : (place a.class == place class) ≡ true → happened class a.op (a ∷ h) ≡ true
    now t = happened_new class a.op a h (is_act_from class a.op a (place_injective a.class class (eqb-true _ _ t)) refl)

    more : All (λ (x : OpId). happened class x (a ∷ h) ≡ true) (ops_of class h) → (((place a.class == place class) ≡ true) ⊎ ((place a.class == place class) ≡ false)) → All (λ (x : OpId). happened class x (a ∷ h) ≡ true) (ops_of class (a ∷ h))
    more before (inl t) =
        subst (All (λ (x : OpId). happened class x (a ∷ h) ≡ true)) (sym (ops_after_its_class class a h t)) (All-push (λ (x : OpId). happened class x (a ∷ h) ≡ true) (ops_of class h) a.op before (now t))
    more before (inr f) =
        subst (All (λ (x : OpId). happened class x (a ∷ h) ≡ true)) (sym (ops_after_other_class class a h f)) before

module _ (plans : List Plan) where
  -- what suits its kind is listed among the operations
  suited_listed : (x : OpId) (c : Class) → has_class (kind_at plans x) c ≡ true → Contains (operations plans) x
  suited_listed x c e = go (kind_at plans x) refl e
    where
      go : (k : Option Kind) → kind_at plans x ≡ k → has_class k c ≡ true → Contains (operations plans) x
      go (Some k) q e = kind_listed plans x k q
      go None q e = absurd (both_ways false refl e)

  pub suited_receive : (x : OpId) → has_class (kind_at plans x) Post ≡ true → IsReceive plans x
  suited_receive x e = go (kind_at plans x) refl e
    where
      go : (k : Option Kind) → kind_at plans x ≡ k → has_class k Post ≡ true → IsReceive plans x
      go (Some (Recv room from tag)) q e = record { room = room; from = from; tag = tag; kind = q }
      go _ q e = absurd (both_ways false refl e)

  pub suited_send : (m : OpId) → has_class (kind_at plans m) Arrive ≡ true → IsSend plans m
  suited_send m e = go (kind_at plans m) refl e
    where
      go : (k : Option Kind) → kind_at plans m ≡ k → has_class k Arrive ≡ true → IsSend plans m
      go (Some (Send bytes to tag)) q e = record { bytes = bytes; to = to; tag = tag; kind = q }
      go _ q e = absurd (both_ways false refl e)

  pub post_suits : (x : OpId) → IsReceive plans x → has_class (kind_at plans x) Post ≡ true
  post_suits x r = ap (λ (k : Option Kind). has_class k Post) r.kind

  pub arrival_suits : (m : OpId) → IsSend plans m → has_class (kind_at plans m) Arrive ≡ true
  arrival_suits m s = ap (λ (k : Option Kind). has_class k Arrive) s.kind

  -- what has happened suits the kind of its operation
  pub action_suits : (h : List Act) (c : Class) (x : OpId) → ArePostsAndArrivals plans h → happened c x h ≡ true → has_class (kind_at plans x) c ≡ true
  action_suits [] c x i e = absurd (both_ways _ (happened_none c x) e)
  action_suits (a ∷ h) c x i e =
      elim (happened_cases c x a h e) [ inl was ↦ action_suits h c x i.0 was | inr now ↦ subst (λ (y : OpId). has_class (kind_at plans y) c ≡ true) (is_act_op c x a now) (subst (λ (d : Class). has_class (kind_at plans a.op) d ≡ true) (is_act_class c x a now) i.1.suited) ]

  -- an operation that passes the test and whose action of that class has not happened
  abbrev still_to_come : (OpId → Bool) → Class → List Act → OpId → Bool
  still_to_come test class h x = test x && not (happened class x h)

  still_to_come_before_newest : (test : OpId → Bool) (class : Class) (a : Act) (h : List Act) (x : OpId) → still_to_come test class (a ∷ h) x ≡ true → still_to_come test class h x ≡ true
  still_to_come_before_newest test class a h x e =
      let parts = and_parts (test x) (not (happened class x (a ∷ h))) e in
      and_from _ _ parts.0 (not_from_false _ (not_happened_before_newest class x a h (not-true _ parts.1)))

  happened_not_to_come : (test : OpId → Bool) (class : Class) (a : Act) (h : List Act) → a.class ≡ class → still_to_come test class (a ∷ h) a.op ≡ false
  happened_not_to_come test class a h e =
      and_right (test a.op) _ (not_from_true _ (happened_new class a.op a h (is_act_from class a.op a e refl)))

  -- The operations of a class that pass a test, and those that are still to come, are among those of the schedule.
  pub past_and_coming_ops_within_all : (test : OpId → Bool) (class : Class) (h : List Act) → ArePostsAndArrivals plans h → count_by test (ops_of class h) + count_by (still_to_come test class h) (operations plans) ≤ count_by test (operations plans)
  unfolding ops_of
  past_and_coming_ops_within_all test class [] i =
      let all = count_le test (still_to_come test class []) (operations plans) (λ x e. (and_parts (test x) _ e).0) in
      omega (arith, all)
  past_and_coming_ops_within_all test class (a ∷ h) i =
      more (past_and_coming_ops_within_all test class h i.0) (cases_Bool (place a.class == place class)) (cases_Bool (test a.op))
    where
      stays : count_by (still_to_come test class (a ∷ h)) (operations plans) ≤ count_by (still_to_come test class h) (operations plans)
      stays =
          count_le (still_to_come test class h) (still_to_come test class (a ∷ h)) (operations plans) (still_to_come_before_newest test class a h)

      falls : a.class ≡ class → test a.op ≡ true → count_by (still_to_come test class (a ∷ h)) (operations plans) + 1 ≤ count_by (still_to_come test class h) (operations plans)
      falls same pass =
          count_falls (still_to_come test class h) (still_to_come test class (a ∷ h)) (operations plans) a.op (suited_listed a.op a.class i.1.suited) (still_to_come_before_newest test class a h) (happened_not_to_come test class a h same) (and_from _ _ pass (not_from_false _ (subst (λ (c : Class). happened c a.op h ≡ false) same i.1.fresh)))

      one : (b : Bool) → test a.op ≡ b → count_by test (ops_of class h ++ a.op ∷ []) ≡ count_by test (ops_of class h) + cond b 1 0
      one b e =
          sum_by_push (λ (x : OpId). cond (test x) 1 0) (ops_of class h) a.op ∙ ap (λ (t : Bool). count_by test (ops_of class h) + cond t 1 0) e

      more : count_by test (ops_of class h) + count_by (still_to_come test class h) (operations plans) ≤ count_by test (operations plans) → (((place a.class == place class) ≡ true) ⊎ ((place a.class == place class) ≡ false)) → ((test a.op ≡ true) ⊎ (test a.op ≡ false)) → count_by test (ops_of class (a ∷ h)) + count_by (still_to_come test class (a ∷ h)) (operations plans) ≤ count_by test (operations plans)
      more before (inl t) (inl pass) =
          let count = ap (λ (l : List OpId). count_by test l) (ops_after_its_class class a h t) ∙ one true pass in
          let less = falls (place_injective a.class class (eqb-true _ _ t)) pass in
          omega (arith, before, count, less)
      more before (inl t) (inr fail) =
          let count = ap (λ (l : List OpId). count_by test l) (ops_after_its_class class a h t) ∙ one false fail in
          omega (arith, before, count, stays)
      more before (inr f) pass =
          let count = ap (λ (l : List OpId). count_by test l) (ops_after_other_class class a h f) in
          omega (arith, before, count, stays)

  -- an operation that is still to come finds fewer there than the schedule has
  pub past_ops_leave_room_for_new_op : (test : OpId → Bool) (class : Class) (h : List Act) (x : OpId) → ArePostsAndArrivals plans h → has_class (kind_at plans x) class ≡ true → happened class x h ≡ false → test x ≡ true → count_by test (ops_of class h) < count_by test (operations plans)
  past_ops_leave_room_for_new_op test class h x i suited fresh pass =
      let within = past_and_coming_ops_within_all test class h i in
      let one = count_falls (still_to_come test class h) (λ (y : OpId). false) (operations plans) x (suited_listed x class suited) (λ y e. absurd (both_ways false refl e)) refl (and_from _ _ pass (not_from_false _ fresh)) in
      omega (arith, within, one)

  -- a receive that is still to be posted, a send that is still to arrive
  abbrev to_come : List Act → OpId → Option Kind → Bool
  to_come h x (Some (Calc nanos)) = false
  to_come h x (Some (Send bytes to tag)) = not (happened Arrive x h)
  to_come h x (Some (Recv room from tag)) = not (happened Post x h)
  to_come h x None = false

  to_come_message : (h : List Act) (x : OpId) (k : Option Kind) → to_come h x k ≡ true → is_message_kind k ≡ true
  to_come_message h x (Some (Calc nanos)) e = e
  to_come_message h x (Some (Send bytes to tag)) e = refl
  to_come_message h x (Some (Recv room from tag)) e = refl
  to_come_message h x None e = e

  to_come_before : (a : Act) (h : List Act) (x : OpId) (k : Option Kind) → to_come (a ∷ h) x k ≡ true → to_come h x k ≡ true
  to_come_before a h x (Some (Calc nanos)) e = e
  to_come_before a h x (Some (Send bytes to tag)) e =
      not_from_false _ (not_happened_before_newest Arrive x a h (not-true _ e))
  to_come_before a h x (Some (Recv room from tag)) e =
      not_from_false _ (not_happened_before_newest Post x a h (not-true _ e))
  to_come_before a h x None e = e

  action_no_longer_to_come : (a : Act) (h : List Act) (c : Class) (k : Option Kind) → is_post_or_arrival_class c ≡ true → has_class k c ≡ true → happened c a.op h ≡ false → happened c a.op (a ∷ h) ≡ true → (to_come h a.op k ≡ true) × (to_come (a ∷ h) a.op k ≡ false)
  action_no_longer_to_come a h Arrive (Some (Send bytes to tag)) e s before now = (not_from_false _ before, not_from_true _ now)
  action_no_longer_to_come a h Post (Some (Recv room from tag)) e s before now = (not_from_false _ before, not_from_true _ now)
  action_no_longer_to_come a h Arrive None e s before now = absurd (both_ways _ refl s)
  action_no_longer_to_come a h Arrive (Some (Calc nanos)) e s before now = absurd (both_ways _ refl s)
  action_no_longer_to_come a h Arrive (Some (Recv room from tag)) e s before now = absurd (both_ways _ refl s)
  action_no_longer_to_come a h Post None e s before now = absurd (both_ways _ refl s)
  action_no_longer_to_come a h Post (Some (Calc nanos)) e s before now = absurd (both_ways _ refl s)
  action_no_longer_to_come a h Post (Some (Send bytes to tag)) e s before now = absurd (both_ways _ refl s)
  action_no_longer_to_come a h Serve k e s before now = absurd (both_ways _ refl e)
  action_no_longer_to_come a h Data k e s before now = absurd (both_ways _ refl e)
  action_no_longer_to_come a h Begin k e s before now = absurd (both_ways _ refl e)

  past_and_coming_actions_within_messages : (h : List Act) → ArePostsAndArrivals plans h → length h + count_by (λ (x : OpId). to_come h x (kind_at plans x)) (operations plans) ≤ count_by (is_message plans) (operations plans)
  past_and_coming_actions_within_messages [] i =
      let all = count_le (is_message plans) (λ (x : OpId). to_come [] x (kind_at plans x)) (operations plans) (λ x e. to_come_message [] x (kind_at plans x) e) in
      omega (arith, all)
  past_and_coming_actions_within_messages (a ∷ h) i =
      let before = past_and_coming_actions_within_messages h i.0 in
      let turn = action_no_longer_to_come a h a.class (kind_at plans a.op) i.1.class i.1.suited i.1.fresh (happened_newest a h) in
      let falls = count_falls (λ (x : OpId). to_come h x (kind_at plans x)) (λ (x : OpId). to_come (a ∷ h) x (kind_at plans x)) (operations plans) a.op (suited_listed a.op a.class i.1.suited) (λ x e. to_come_before a h x (kind_at plans x) e) turn.1 turn.0 in
      omega (arith, before, falls)

  -- the posts and arrivals are no more than the sends and receives of the schedule
  pub actions_fewer_than_messages : (a : Act) (h : List Act) → ArePostsAndArrivals plans h → IsNew plans h a → length h < count_by (is_message plans) (operations plans)
  actions_fewer_than_messages a h i new =
      let within = past_and_coming_actions_within_messages (a ∷ h) (i, new) in
      omega (arith, within)
