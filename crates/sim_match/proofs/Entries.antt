-- Entries of posts and arrivals: the order in which they stand, their operations, and the first that passes a test.
use Rattle.std.proofs.Common.{suc, ◌<◌, ◌≡◌, ◌==◌, ◌&&◌, Bool, true, false, if◌then◌else◌, List, [], ◌∷◌, ◌++◌, length, map, filter, find, count_by, ◌⊎◌, inl, inr, cond, All, refl, arith, sym, ap, ap₂, ◌∙◌, subst, append-nil}
use Rattle.std.specs.Option.{option_map}
use Rattle.std.proofs.lemmas.Bool.{cases_Bool}
use Rattle.std.proofs.lemmas.List.{map-append, get_or-map, length-map}
use Rattle.std.proofs.lemmas.List.Elements.{All-nil, All-push, All-weaker}
use Rattle.std.proofs.lemmas.List.Sums.{length-filter}
use Rattle.std.proofs.lemmas.List.Quantifiers.{all_pairs_push}
use Rattle.goal_graph.specs.declared.action.OpId.{OpId}
use Rattle.goal_graph.specs.declared.action.Class.{Class}
use Rattle.goal_graph.specs.declared.action.Class.TheVariants.{Arrive, Post}
use Rattle.goal_graph.specs.Schedule.{Plan, kind_at, operations, IsSend, IsReceive}
use Rattle.goal_graph.specs.Fault.{IsOp}
use Rattle.goal_graph.specs.Action.{Act, place, happened, oldest}
use Rattle.goal_graph.specs.Laws.{has_class}
use Rattle.sim_match.specs.declared.match_list.MatchEntry.{MatchEntry}
use Rattle.sim_match.specs.MatchLists.{entries_of}
use Rattle.sim_match.specs.Waiting.{ops_of}
use Rattle.sim_match.specs.Matcher.{ArePostsAndArrivals}
use Rattle.sim_match.proofs.Ops.{oldest_found, ops_happened, action_suits, suited_receive, suited_send, past_ops_leave_room_for_new_op}
use Rattle.sim_match.proofs.Finding.{find_map, InOrder}
use Rattle.goal_graph.proofs.ForCallers.{op_of_kind}

-- the entries after one more action, of that class and of another
pub entries_after_its_class : (class : Class) (a : Act) (h : List Act) → (place a.class == place class) ≡ true → entries_of class (a ∷ h) ≡ entries_of class h ++ record { op = a.op; at = length h } ∷ []
unfolding entries_of
entries_after_its_class class a h e =
    ap (λ (b : Bool). entries_of class h ++ (if b then record { op = a.op; at = length h } ∷ [] else [])) e

pub entries_after_other_class : (class : Class) (a : Act) (h : List Act) → (place a.class == place class) ≡ false → entries_of class (a ∷ h) ≡ entries_of class h
unfolding entries_of
entries_after_other_class class a h e =
    ap (λ (b : Bool). entries_of class h ++ (if b then record { op = a.op; at = length h } ∷ [] else [])) e ∙ append-nil (entries_of class h)

pub entries_none : (class : Class) → entries_of class [] ≡ []
unfolding entries_of
entries_none class = refl

-- their operations
pub entries_ops : (class : Class) (h : List Act) → map (λ (e : MatchEntry). e.op) (entries_of class h) ≡ ops_of class h
unfolding entries_of ops_of
entries_ops class [] = refl
entries_ops class (a ∷ h) =
    map-append (λ (e : MatchEntry). e.op) (entries_of class h) (if place a.class == place class then record { op = a.op; at = length h } ∷ [] else []) ∙ ap₂ (λ (xs ys : List OpId). xs ++ ys) (entries_ops class h) (go (place a.class == place class))
  where
    go : (b : Bool) → map (λ (e : MatchEntry). e.op) (if b then record { op = a.op; at = length h } ∷ [] else []) ≡ (if b then a.op ∷ [] else [])
    go true = refl
    go false = refl

-- they are in order, each before all that come later
pub entries_before : (class : Class) (h : List Act) → All (λ (e : MatchEntry). e.at < length h) (entries_of class h)
entries_before class [] = subst (All (λ (e : MatchEntry). e.at < 0)) (sym (entries_none class)) (All-nil (λ (e : MatchEntry). e.at < 0))
entries_before class (a ∷ h) = more (entries_before class h) (cases_Bool (place a.class == place class))
  where
    more : All (λ (e : MatchEntry). e.at < length h) (entries_of class h) → (((place a.class == place class) ≡ true) ⊎ ((place a.class == place class) ≡ false)) → All (λ (e : MatchEntry). e.at < length (a ∷ h)) (entries_of class (a ∷ h))
    more before c =
        let older : All (λ (e : MatchEntry). e.at < length (a ∷ h)) (entries_of class h) = All-weaker (λ (e : MatchEntry). e.at < length h) (λ (e : MatchEntry). e.at < length (a ∷ h)) (λ e l. omega (arith, l)) (entries_of class h) before in
        elim c [
          | inl t ↦ subst (All (λ (e : MatchEntry). e.at < length (a ∷ h))) (sym (entries_after_its_class class a h t)) (All-push (λ (e : MatchEntry). e.at < length (a ∷ h)) (entries_of class h) (record { op = a.op; at = length h }) older (omega arith))
          | inr f ↦ subst (All (λ (e : MatchEntry). e.at < length (a ∷ h))) (sym (entries_after_other_class class a h f)) older
        ]

pub entries_order : (class : Class) (h : List Act) → InOrder (entries_of class h)
entries_order class [] = subst InOrder (sym (entries_none class)) (λ i j d l b. absurd (omega arith))
entries_order class (a ∷ h) = elim (cases_Bool (place a.class == place class)) [
  | inl t ↦ subst InOrder (sym (entries_after_its_class class a h t)) (all_pairs_push (λ (e f : MatchEntry). e.at < f.at) (entries_of class h) (record { op = a.op; at = length h }) (entries_order class h) (entries_before class h))
  | inr f ↦ subst InOrder (sym (entries_after_other_class class a h f)) (entries_order class h)
]

all_from_mapped : {X Y : Type 0} (P : Y → Type 0) (f : X → Y) (xs : List X) → All P (map f xs) → All (λ x. P (f x)) xs
all_from_mapped P f xs all k d b =
    let long = length-map xs f in
    subst P (get_or-map f xs k d (f d) b) (all k (f d) (omega (arith, b, long)))

pub entries_happened : (class : Class) (h : List Act) → All (λ (e : MatchEntry). happened class e.op h ≡ true) (entries_of class h)
entries_happened class h =
    all_from_mapped (λ (x : OpId). happened class x h ≡ true) (λ (e : MatchEntry). e.op) (entries_of class h) (subst (All (λ (x : OpId). happened class x h ≡ true)) (sym (entries_ops class h)) (ops_happened class h))

-- the oldest action of a class that passes two tests is the first of its entries that passes them
pub oldest_entry : (class : Class) (r q : OpId → Bool) (h : List Act) → oldest (λ (a : Act). (place a.class == place class) && r a.op && q a.op) h ≡ option_map (λ (e : MatchEntry). e.op) (find (λ (e : MatchEntry). r e.op && q e.op) (entries_of class h))
oldest_entry class r q h =
    oldest_found class r q h ∙ ap (find (λ (x : OpId). r x && q x)) (sym (entries_ops class h)) ∙ find_map (λ (e : MatchEntry). e.op) (λ (x : OpId). r x && q x) (entries_of class h)

length_map_filter : {X Y : Type 0} (f : X → Y) (p : Y → Bool) (xs : List X) → length (filter p (map f xs)) ≡ length (filter (λ x. p (f x)) xs)
length_map_filter f p [] = refl
length_map_filter {X} {Y} f p (x ∷ xs) = go (p (f x)) (length_map_filter f p xs)
  where
    go : (b : Bool) → length (filter p (map f xs)) ≡ length (filter (λ y. p (f y)) xs) → length (cond b (f x ∷ filter p (map f xs)) (filter p (map f xs))) ≡ length (cond b (x ∷ filter (λ y. p (f y)) xs) (filter (λ y. p (f y)) xs))
    go true rest = ap suc rest
    go false rest = rest

module _ (plans : List Plan) (h : List Act) (i : ArePostsAndArrivals plans h) where
  -- what was posted are receives, what has arrived are sends, and they exist
  pub posted_receives : All (λ (e : MatchEntry). IsReceive plans e.op) (entries_of Post h)
  posted_receives = All-weaker (λ (e : MatchEntry). happened Post e.op h ≡ true) (λ (e : MatchEntry). IsReceive plans e.op) (λ e was. suited_receive plans e.op (action_suits plans h Post e.op i was)) (entries_of Post h) (entries_happened Post h)

  pub arrived_sends : All (λ (e : MatchEntry). IsSend plans e.op) (entries_of Arrive h)
  arrived_sends = All-weaker (λ (e : MatchEntry). happened Arrive e.op h ≡ true) (λ (e : MatchEntry). IsSend plans e.op) (λ e was. suited_send plans e.op (action_suits plans h Arrive e.op i was)) (entries_of Arrive h) (entries_happened Arrive h)

  pub posted_exist : All (λ (e : MatchEntry). IsOp plans e.op) (entries_of Post h)
  posted_exist = All-weaker (λ (e : MatchEntry). IsReceive plans e.op) (λ (e : MatchEntry). IsOp plans e.op) (λ e r. op_of_kind plans e.op _ r.kind) (entries_of Post h) posted_receives

  pub arrived_exist : All (λ (e : MatchEntry). IsOp plans e.op) (entries_of Arrive h)
  arrived_exist = All-weaker (λ (e : MatchEntry). IsSend plans e.op) (λ (e : MatchEntry). IsOp plans e.op) (λ e s. op_of_kind plans e.op _ s.kind) (entries_of Arrive h) arrived_sends

  -- an operation that is still to come finds room
  pub entries_leave_room_for_new_op : (test : OpId → Bool) (class : Class) (x : OpId) → has_class (kind_at plans x) class ≡ true → happened class x h ≡ false → test x ≡ true → length (filter (λ (e : MatchEntry). test e.op) (entries_of class h)) < count_by test (operations plans)
  entries_leave_room_for_new_op test class x suited fresh pass =
      let fewer = past_ops_leave_room_for_new_op plans test class h x i suited fresh pass in
      let same = sym (length_map_filter (λ (e : MatchEntry). e.op) test (entries_of class h)) ∙ length-filter test (map (λ (e : MatchEntry). e.op) (entries_of class h)) ∙ ap (λ (xs : List OpId). count_by test xs) (entries_ops class h) in
      omega (arith, fewer, same)
