-- What queues keep, after one more post or arrival.
use Rattle.std.proofs.Common.{ℕ, zero, suc, ◌<◌, ◌≤◌, ◌≡◌, ◌≢◌, ◌==◌, ◌&&◌, ◌||◌, Bool, true, false, not, cond, ◌⊎◌, inl, inr, List, [], ◌∷◌, ◌++◌, length, get_or, map, Option, Some, None, is_some, All, AllPairs, Contains, filter, find, replicate, slice_get, slice_set, refl, arith, sym, ap, ap₂, ◌∙◌, subst, eq-eqb}
use Rattle.std.specs.Option.{option_map}
use Rattle.std.specs.List.{list_any}
use Rattle.std.proofs.Math.Bool.{and-false, or-false, or-true, or_comm}
use Rattle.std.proofs.lemmas.Bool.{eqb-true, cases_Bool, cases_eq, cond-false, both_ways, and_parts, false_from_ne_true, ne_eqb}
use Rattle.std.proofs.lemmas.Option.{none-some, same_Some, slice_get-map, slice_get_within}
use Rattle.std.proofs.lemmas.List.{length-set, length-replicate}
use Rattle.std.proofs.lemmas.List.Elements.{All-head, All-tail, All-weaker, All-filter, All-contains, filter_passes}
use Rattle.std.proofs.lemmas.List.Quantifiers.{all_pairs_push}
use Rattle.goal_graph.specs.declared.action.OpId.{OpId}
use Rattle.goal_graph.specs.declared.action.Class.{Class}
use Rattle.goal_graph.specs.declared.action.Class.TheVariants.{Arrive, Post}
use Rattle.goal_graph.specs.Schedule.{Plan, kind_at, operations, IsSend, IsReceive}
use Rattle.goal_graph.specs.Fault.{IsOp}
use Rattle.goal_graph.specs.Action.{Act, place, same_op, happened}
use Rattle.goal_graph.specs.Matching.{Pair, pair_of, fits, is_paired, new_pair, pairs}
use Rattle.goal_graph.specs.Laws.{has_class}
use Rattle.goal_graph.proofs.ForCallers.{op_of_kind, pairs_unchanged_without_new_pair, place_injective, same_op_from, same_or_different_op, same_op_true, same_op_itself, same_op_swapped, not_send_receive, unarrived_send_has_no_partner, unposted_receive_has_no_partner, not_happened_before_newest}
use Rattle.sim_match.specs.declared.pattern.Pattern.{Pattern}
use Rattle.sim_match.specs.Patterns.{same_number, own_list, list_of, AreListed}
use Rattle.sim_match.specs.ListNumbers.{coded, AreNamed}
use Rattle.sim_match.specs.PostsAndArrivals.{receive_for}
use Rattle.sim_match.specs.Waiting.{ops_of}
use Rattle.sim_match.specs.Matcher.{actions_of, IsNew, ArePostsAndArrivals}
use Rattle.sim_match.specs.declared.capacities.Side.{Side}
use Rattle.sim_match.specs.declared.capacities.Side.TheVariants.{Receives, Sends}
use Rattle.sim_match.specs.declared.queues.Queue.{Queue}
use Rattle.sim_match.specs.Queues.{class_of_side, come, taken_by, waits_as, AreInLine, AreQueued, AreLeft, AreQueues, AreToCome, is_waiting, waiting}
use Rattle.sim_match.proofs.Ops.{ops_after_its_class, ops_after_other_class, ops_happened, oldest_found, action_suits, suited_receive, suited_send}
use Rattle.sim_match.proofs.Pairs.{in_pair, paired_with_new_pair, pairs_with_new_pair}
use Rattle.sim_match.proofs.Kept.{actions_of-post, actions_of-arrival, no_number}
use Rattle.sim_match.proofs.Written.{slice_get_written, slice_get_elsewhere}
use Rattle.sim_match.proofs.Lines.{last_of_line, line_of_one, line_with_new_last, line_after_outside_write}
use Rattle.sim_match.proofs.Finding.{find_by_equal_tests, find_none, filter_last_fails, filter_last_passes}
use Rattle.sim_match.proofs.PatternLemmas.{receive_fits_by_any_list_number}
use Rattle.sim_match.proofs.Numbering.{own_list_within_keys, own_of_receive, lists_where_named}

-- two tests that agree on a list keep the same of it
filter_by_equal_tests : {X : Type 0} (p q : X → Bool) (xs : List X) → All (λ x. p x ≡ q x) xs → filter p xs ≡ filter q xs
filter_by_equal_tests p q [] agree = refl
filter_by_equal_tests {X} p q (x ∷ xs) agree =
    ap (λ (b : Bool). cond b (x ∷ filter p xs) (filter p xs)) (All-head (λ x. p x ≡ q x) x xs agree) ∙ ap (λ (ys : List X). cond (q x) (x ∷ ys) ys) (filter_by_equal_tests p q xs (All-tail (λ x. p x ≡ q x) x xs agree))

-- the first of a list
abbrev head_of : {X : Type 0} → List X → Option X
head_of [] = None
head_of (x ∷ xs) = Some x

find_is_head_of_filter : {X : Type 0} (p : X → Bool) (xs : List X) → find p xs ≡ head_of (filter p xs)
find_is_head_of_filter p [] = refl
find_is_head_of_filter {X} p (x ∷ xs) = go (p x) (find_is_head_of_filter p xs)
  where
    go : (b : Bool) → find p xs ≡ head_of (filter p xs) → cond b (Some x) (find p xs) ≡ head_of (cond b (x ∷ filter p xs) (filter p xs))
    go true rest = refl
    go false rest = rest

-- a test that differs at the first that passes alone leaves the rest
filter_without_first : (p q : OpId → Bool) (y : OpId) → q y ≡ false → (xs rest : List OpId) → All (λ z. same_op y z ≡ false → q z ≡ p z) xs → AllPairs (λ (x z : OpId). x ≢ z) xs → filter p xs ≡ y ∷ rest → filter q xs ≡ rest
filter_without_first p q y out [] rest agree apart is = absurd (none-some y (ap head_of is))
filter_without_first p q y out (x ∷ xs) rest agree apart is = go (filter_without_first p q y out xs rest agree_tail apart_tail) (p x) refl is (same_or_different_op y x)
  where
    agree_tail : All (λ z. same_op y z ≡ false → q z ≡ p z) xs
    agree_tail = All-tail (λ z. same_op y z ≡ false → q z ≡ p z) x xs agree

    apart_tail : AllPairs (λ (x z : OpId). x ≢ z) xs
    apart_tail i j d l b = apart (suc i) (suc j) d (omega arith) (omega arith)

    apart_head : All (λ (z : OpId). x ≢ z) xs
    apart_head k d b = apart zero (suc k) d (omega arith) (omega arith)

    go : (filter p xs ≡ y ∷ rest → filter q xs ≡ rest) → (b : Bool) → p x ≡ b → cond b (x ∷ filter p xs) (filter p xs) ≡ y ∷ rest → ((y ≡ x) ⊎ (same_op y x ≡ false)) → cond (q x) (x ∷ filter q xs) (filter q xs) ≡ rest
    go after true e is c =
        let same : x ≡ y = same_Some x y (ap head_of is) in
        let fails : q x ≡ false = ap q same ∙ out in
        cond-false (q x) (x ∷ filter q xs) (filter q xs) fails ∙ filter_by_equal_tests q p xs (λ k d b. All-head-at k d b same) ∙ ap tail is
      where
        tail : List OpId → List OpId
        tail [] = []
        tail (z ∷ zs) = zs

        All-head-at : (k : ℕ) (d : OpId) → k < length xs → x ≡ y → q (get_or xs k d) ≡ p (get_or xs k d)
        All-head-at k d b same =
            agree_tail k d b (false_from_ne_true (same_op y (get_or xs k d)) (λ t. apart_head k d b (same ∙ same_op_true y (get_or xs k d) t)))
    go after false e is (inl same) =
        cond-false (q x) (x ∷ filter q xs) (filter q xs) (ap q (sym same) ∙ out) ∙ after is
    go after false e is (inr n) =
        cond-false (q x) (x ∷ filter q xs) (filter q xs) (All-head (λ z. same_op y z ≡ false → q z ≡ p z) x xs agree n ∙ e) ∙ after is

same_number_swapped : (o p : Option ℕ) → same_number o p ≡ same_number p o
same_number_swapped None None = refl
same_number_swapped None (Some n) = refl
same_number_swapped (Some m) None = refl
same_number_swapped (Some m) (Some n) = go (cases_eq m n)
  where
    go : ((m ≡ n) ⊎ (m ≡ n → ⊥)) → (m == n) ≡ (n == m)
    go (inl same) = ap₂ (λ (i j : ℕ). i == j) same (sym same)
    go (inr n) = ne_eqb _ _ n ∙ sym (ne_eqb _ _ (λ e. n (sym e)))

module _ (plans : List Plan) (h : List Act) (are : ArePostsAndArrivals plans h) where
  -- what has happened suits its class
  pub ops_suit : (c : Class) → All (λ (z : OpId). has_class (kind_at plans z) c ≡ true) (ops_of c h)
  ops_suit c = All-weaker (λ (z : OpId). happened c z h ≡ true) (λ (z : OpId). has_class (kind_at plans z) c ≡ true) (λ z was. action_suits plans h c z are was) (ops_of c h) (ops_happened c h)

  -- an operation that has not happened is not among them
  pub new_op_not_among_past_ops : (c : Class) (x : OpId) → happened c x h ≡ false → All (λ (z : OpId). same_op x z ≡ false) (ops_of c h)
  new_op_not_among_past_ops c x fresh = All-weaker (λ (z : OpId). happened c z h ≡ true) (λ (z : OpId). same_op x z ≡ false) (λ z was. false_from_ne_true (same_op x z) (λ t. both_ways (happened c x h) fresh (subst (λ (y : OpId). happened c y h ≡ true) (sym (same_op_true x z t)) was))) (ops_of c h) (ops_happened c h)

-- each operation comes once
pub ops_differ : (plans : List Plan) (h : List Act) (c : Class) → ArePostsAndArrivals plans h → AllPairs (λ (x z : OpId). x ≢ z) (ops_of c h)
unfolding ops_of
ops_differ plans [] c are = λ i j d l b. absurd (omega arith)
ops_differ plans (a ∷ h) c are = elim (cases_Bool (place a.class == place c)) [
  | inl t ↦
      let same : a.class ≡ c = place_injective a.class c (eqb-true _ _ t) in
      let fresh : happened c a.op h ≡ false = subst (λ (d : Class). happened d a.op h ≡ false) same are.1.fresh in
      subst (AllPairs (λ (x z : OpId). x ≢ z)) (sym (ops_after_its_class c a h t)) (all_pairs_push (λ (x z : OpId). x ≢ z) (ops_of c h) a.op (ops_differ plans h c are.0) (λ k d b e. both_ways _ (new_op_not_among_past_ops plans h are.0 c a.op fresh k d b) (same_op_from a.op _ (sym e))))
  | inr f ↦ subst (AllPairs (λ (x z : OpId). x ≢ z)) (sym (ops_after_other_class c a h f)) (ops_differ plans h c are.0)
]

module _ (plans : List Plan) (keys : List Pattern) (h : List Act) where
  abbrev act : Class → OpId → Act
  act c x = record { class = c; op = x }

  -- x comes, of the one class, and takes none
  module _ (c d : Class) (x : OpId) (mine : (place c == place c) ≡ true) (other : (place c == place d) ≡ false) (none : new_pair plans (pairs plans h) h c x ≡ None) where
    waiting_unchanged_by_coming : (l : ℕ) (z : OpId) → is_waiting plans keys (act c x ∷ h) l z ≡ is_waiting plans keys h l z
    waiting_unchanged_by_coming l z = ap (λ (ps : List Pair). not (is_paired ps z) && same_number (own_list plans keys z) (Some l)) (pairs_unchanged_without_new_pair plans (act c x) h none)

    pub other_side_waits_unchanged : (l : ℕ) → waiting plans keys (act c x ∷ h) d l ≡ waiting plans keys h d l
    other_side_waits_unchanged l =
        ap (filter (is_waiting plans keys (act c x ∷ h) l)) (ops_after_other_class d (act c x) h other) ∙ filter_by_equal_tests (is_waiting plans keys (act c x ∷ h) l) (is_waiting plans keys h l) (ops_of d h) (λ k e b. waiting_unchanged_by_coming l _)

    side_waits_with_new : (l : ℕ) → waiting plans keys (act c x ∷ h) c l ≡ filter (is_waiting plans keys h l) (ops_of c h ++ x ∷ [])
    side_waits_with_new l =
        ap (filter (is_waiting plans keys (act c x ∷ h) l)) (ops_after_its_class c (act c x) h mine) ∙ filter_by_equal_tests (is_waiting plans keys (act c x ∷ h) l) (is_waiting plans keys h l) (ops_of c h ++ x ∷ []) (λ k e b. waiting_unchanged_by_coming l _)

    pub side_waits_unchanged_in_other_list : (l : ℕ) → same_number (own_list plans keys x) (Some l) ≡ false → waiting plans keys (act c x ∷ h) c l ≡ waiting plans keys h c l
    side_waits_unchanged_in_other_list l n =
        side_waits_with_new l ∙ filter_last_fails (is_waiting plans keys h l) (ops_of c h) x (ap (λ (b : Bool). not (is_paired (pairs plans h) x) && b) n ∙ and-false (not (is_paired (pairs plans h) x)))

    pub side_waits_with_new_last : (l : ℕ) → is_paired (pairs plans h) x ≡ false → same_number (own_list plans keys x) (Some l) ≡ true → waiting plans keys (act c x ∷ h) c l ≡ waiting plans keys h c l ++ x ∷ []
    side_waits_with_new_last l free own =
        side_waits_with_new l ∙ filter_last_passes (is_waiting plans keys h l) (ops_of c h) x (ap₂ (λ (s t : Bool). not s && t) free own)

  -- x comes, and takes y
  module _ (c d : Class) (x y : OpId) (mine : (place c == place c) ≡ true) (other : (place c == place d) ≡ false) (p : Pair) (some : new_pair plans (pairs plans h) h c x ≡ Some p) (both : (z : OpId) → in_pair p z ≡ (same_op x z || same_op y z)) where
    waits_without_pair : (l : ℕ) (z : OpId) → is_waiting plans keys (act c x ∷ h) l z ≡ (not (is_paired (pairs plans h) z || (same_op x z || same_op y z)) && same_number (own_list plans keys z) (Some l))
    waits_without_pair l z =
        ap (λ (b : Bool). not b && same_number (own_list plans keys z) (Some l)) (ap (λ (ps : List Pair). is_paired ps z) (pairs_with_new_pair plans (act c x) h p some) ∙ paired_with_new_pair p (pairs plans h) z ∙ ap (λ (b : Bool). is_paired (pairs plans h) z || b) (both z))

    waits_outside_pair : (l : ℕ) (z : OpId) → same_op x z ≡ false → same_op y z ≡ false → is_waiting plans keys (act c x ∷ h) l z ≡ is_waiting plans keys h l z
    waits_outside_pair l z m n =
        waits_without_pair l z ∙ ap₂ (λ (s t : Bool). not (is_paired (pairs plans h) z || (s || t)) && same_number (own_list plans keys z) (Some l)) m n ∙ ap (λ (b : Bool). not b && same_number (own_list plans keys z) (Some l)) (or-false (is_paired (pairs plans h) z))

    pair_no_longer_waits : (l : ℕ) (z : OpId) → (same_op x z || same_op y z) ≡ true → is_waiting plans keys (act c x ∷ h) l z ≡ false
    pair_no_longer_waits l z t =
        waits_without_pair l z ∙ ap (λ (b : Bool). not (is_paired (pairs plans h) z || b) && same_number (own_list plans keys z) (Some l)) t ∙ ap (λ (b : Bool). not b && same_number (own_list plans keys z) (Some l)) (or-true (is_paired (pairs plans h) z))

    pub side_waits_unchanged_by_pair : (l : ℕ) → All (λ (z : OpId). same_op x z ≡ false) (ops_of c h) → All (λ (z : OpId). same_op y z ≡ false) (ops_of c h) → waiting plans keys (act c x ∷ h) c l ≡ waiting plans keys h c l
    side_waits_unchanged_by_pair l fresh differ =
        ap (filter (is_waiting plans keys (act c x ∷ h) l)) (ops_after_its_class c (act c x) h mine) ∙ filter_last_fails (is_waiting plans keys (act c x ∷ h) l) (ops_of c h) x (pair_no_longer_waits l x (ap (λ (b : Bool). b || same_op y x) (same_op_itself x))) ∙ filter_by_equal_tests (is_waiting plans keys (act c x ∷ h) l) (is_waiting plans keys h l) (ops_of c h) (λ k e b. waits_outside_pair l _ (fresh k e b) (differ k e b))

    pub other_list_waits_unchanged_by_pair : (l : ℕ) → All (λ (z : OpId). same_op x z ≡ false) (ops_of d h) → same_number (own_list plans keys y) (Some l) ≡ false → waiting plans keys (act c x ∷ h) d l ≡ waiting plans keys h d l
    other_list_waits_unchanged_by_pair l fresh n =
        ap (filter (is_waiting plans keys (act c x ∷ h) l)) (ops_after_other_class d (act c x) h other) ∙ filter_by_equal_tests (is_waiting plans keys (act c x ∷ h) l) (is_waiting plans keys h l) (ops_of d h) (λ k e b. same_at _ (fresh k e b))
      where
        same_at : (z : OpId) → same_op x z ≡ false → is_waiting plans keys (act c x ∷ h) l z ≡ is_waiting plans keys h l z
        same_at z f = elim (same_or_different_op y z) [
          | inl same ↦
              let out : same_number (own_list plans keys z) (Some l) ≡ false = subst (λ (w : OpId). same_number (own_list plans keys w) (Some l) ≡ false) same n in
              fails (is_paired (pairs plans (act c x ∷ h)) z) _ out ∙ sym (fails (is_paired (pairs plans h) z) _ out)
          | inr m ↦ waits_outside_pair l z f m
        ]
          where
            fails : (s t : Bool) → t ≡ false → (not s && t) ≡ false
            fails s t e = ap (λ (b : Bool). not s && b) e ∙ and-false (not s)

    pub other_side_without_first : (l : ℕ) (rest : List OpId) → ArePostsAndArrivals plans h → All (λ (z : OpId). same_op x z ≡ false) (ops_of d h) → waiting plans keys h d l ≡ y ∷ rest → waiting plans keys (act c x ∷ h) d l ≡ rest
    other_side_without_first l rest are fresh is =
        ap (filter (is_waiting plans keys (act c x ∷ h) l)) (ops_after_other_class d (act c x) h other) ∙ filter_without_first (is_waiting plans keys h l) (is_waiting plans keys (act c x ∷ h) l) y (pair_no_longer_waits l y (ap (λ (b : Bool). same_op x y || b) (same_op_itself y) ∙ or-true (same_op x y))) (ops_of d h) rest (λ k e b n. waits_outside_pair l _ (fresh k e b) n) (ops_differ plans h d are) is

abbrev pub other_side : Side → Side
other_side Receives = Sends
other_side Sends = Receives

holds_for_any_side : (P : Side → Type 0) (s : Side) → P s → P (other_side s) → (t : Side) → P t
holds_for_any_side P Receives p q Receives = p
holds_for_any_side P Receives p q Sends = q
holds_for_any_side P Sends p q Receives = q
holds_for_any_side P Sends p q Sends = p

pub waits_as_means_same_side : (s t : Side) → waits_as (Some s) t ≡ true → s ≡ t
waits_as_means_same_side Receives Receives e = refl
waits_as_means_same_side Receives Sends e = absurd (both_ways false refl e)
waits_as_means_same_side Sends Receives e = absurd (both_ways false refl e)
waits_as_means_same_side Sends Sends e = refl

pub not_waits_as_means_other_side : (s t : Side) → waits_as (Some s) t ≡ false → s ≡ other_side t
not_waits_as_means_other_side Receives Receives e = absurd (both_ways true e refl)
not_waits_as_means_other_side Receives Sends e = refl
not_waits_as_means_other_side Sends Receives e = refl
not_waits_as_means_other_side Sends Sends e = absurd (both_ways true e refl)

class_of_side_itself : (s : Side) → (place (class_of_side s) == place (class_of_side s)) ≡ true
class_of_side_itself Receives = refl
class_of_side_itself Sends = refl

class_of_side_of_other : (s : Side) → (place (class_of_side s) == place (class_of_side (other_side s))) ≡ false
class_of_side_of_other Receives = refl
class_of_side_of_other Sends = refl

pub waits_as_own_side : (s : Side) → waits_as (Some s) s ≡ true
waits_as_own_side Receives = refl
waits_as_own_side Sends = refl

pub waits_not_as_other_side : (s : Side) → waits_as (Some s) (other_side s) ≡ false
waits_not_as_other_side Receives = refl
waits_not_as_other_side Sends = refl

other_waits_as_itself : (s : Side) → waits_as (Some (other_side s)) (other_side s) ≡ true
other_waits_as_itself Receives = refl
other_waits_as_itself Sends = refl

other_waits_not_as_side : (s : Side) → waits_as (Some (other_side s)) s ≡ false
other_waits_not_as_side Receives = refl
other_waits_not_as_side Sends = refl

-- the pair of x, of that side, and y
abbrev pair_with : Side → OpId → OpId → Pair
pair_with Receives x y = pair_of y x
pair_with Sends x y = pair_of x y

in_pair_with : (s : Side) (x y z : OpId) → in_pair (pair_with s x y) z ≡ (same_op x z || same_op y z)
in_pair_with Receives x y z = or_comm (same_op y z) (same_op x z)
in_pair_with Sends x y z = refl

only_first_number_matters : (o p : Option ℕ) → (same_number o p || (same_number o None || (same_number o None || (same_number o None || false)))) ≡ same_number o p
only_first_number_matters None p = refl
only_first_number_matters (Some i) p = or-false (same_number (Some i) p)

same_number_unique : (o : Option ℕ) (k l : ℕ) → same_number o (Some k) ≡ true → same_number o (Some l) ≡ true → k ≡ l
same_number_unique None k l e f = absurd (both_ways false refl e)
same_number_unique (Some i) k l e f = sym (eqb-true i k e) ∙ eqb-true i l f

-- no operation of one side is an operation of the other
ops_of_two_sides_differ : (plans : List Plan) (s : Side) (y z : OpId) → has_class (kind_at plans y) (class_of_side (other_side s)) ≡ true → has_class (kind_at plans z) (class_of_side s) ≡ true → same_op y z ≡ false
ops_of_two_sides_differ plans Receives y z m r =
    false_from_ne_true (same_op y z) (λ t. not_send_receive plans z (subst (IsSend plans) (same_op_true y z t) (suited_send plans y m)) (suited_receive plans z r))
ops_of_two_sides_differ plans Sends y z r m =
    false_from_ne_true (same_op y z) (λ t. not_send_receive plans z (suited_send plans z m) (subst (IsReceive plans) (same_op_true y z t) (suited_receive plans y r)))

new_action_unpaired : (plans : List Plan) (h : List Act) (s : Side) (x : OpId) → IsNew plans h (come s x) → is_paired (pairs plans h) x ≡ false
new_action_unpaired plans h Receives x new =
    ap (λ (o : Option OpId). is_some o) (unposted_receive_has_no_partner plans h x (suited_receive plans x new.suited) new.fresh)
new_action_unpaired plans h Sends x new =
    ap (λ (o : Option OpId). is_some o) (unarrived_send_has_no_partner plans h x (suited_send plans x new.suited) new.fresh)

module _ (plans : List Plan) (keys : List Pattern) (named : AreNamed keys) (listed : AreListed plans keys) where
  -- a receive fits the sends of its list
  fits_by_own_list : (x m : OpId) → IsReceive plans x → IsSend plans m → fits plans x m ≡ same_number (own_list plans keys x) (own_list plans keys m)
  fits_by_own_list x m r s =
      sym (receive_fits_by_any_list_number plans keys x m r (listed x r)) ∙ ap (list_any (same_number (list_of plans keys x))) (lists_where_named plans keys m s named) ∙ only_first_number_matters (list_of plans keys x) (own_list plans keys m) ∙ ap (λ (o : Option ℕ). same_number o (own_list plans keys m)) (sym (own_of_receive plans keys x r))

  module _ (h : List Act) (are : ArePostsAndArrivals plans h) where
    -- the first that waits is what is taken
    pub pair_made_with_first_waiting : (s : Side) (x : OpId) (l : ℕ) → has_class (kind_at plans x) (class_of_side s) ≡ true → own_list plans keys x ≡ Some l → new_pair plans (pairs plans h) h (class_of_side s) x ≡ option_map (pair_with s x) (head_of (waiting plans keys h (class_of_side (other_side s)) l))
    pair_made_with_first_waiting Receives x l suited own =
        ap (option_map (λ (m : OpId). pair_of m x)) (oldest_found Arrive (λ (z : OpId). not (is_paired (pairs plans h) z)) (fits plans x) h ∙ find_by_equal_tests (λ (z : OpId). not (is_paired (pairs plans h) z) && fits plans x z) (is_waiting plans keys h l) (ops_of Arrive h) (λ k d b. ap (λ (t : Bool). not (is_paired (pairs plans h) (get_or (ops_of Arrive h) k d)) && t) (fits_by_own_list x (get_or (ops_of Arrive h) k d) (suited_receive plans x suited) (suited_send plans _ (ops_suit plans h are Arrive k d b)) ∙ ap (λ (o : Option ℕ). same_number o (own_list plans keys (get_or (ops_of Arrive h) k d))) own ∙ same_number_swapped (Some l) _)) ∙ find_is_head_of_filter (is_waiting plans keys h l) (ops_of Arrive h))
    pair_made_with_first_waiting Sends x l suited own =
        ap (option_map (λ (z : OpId). pair_of x z)) (oldest_found Post (λ (z : OpId). not (is_paired (pairs plans h) z)) (λ (z : OpId). fits plans z x) h ∙ find_by_equal_tests (λ (z : OpId). not (is_paired (pairs plans h) z) && fits plans z x) (is_waiting plans keys h l) (ops_of Post h) (λ k d b. ap (λ (t : Bool). not (is_paired (pairs plans h) (get_or (ops_of Post h) k d)) && t) (fits_by_own_list (get_or (ops_of Post h) k d) x (suited_receive plans _ (ops_suit plans h are Post k d b)) (suited_send plans x suited) ∙ ap (same_number (own_list plans keys (get_or (ops_of Post h) k d))) own)) ∙ find_is_head_of_filter (is_waiting plans keys h l) (ops_of Post h))

    made_pair_is_taken : (s : Side) (x : OpId) (o : Option OpId) → new_pair plans (pairs plans h) h (class_of_side s) x ≡ option_map (pair_with s x) o → o ≡ taken_by s plans h x
    made_pair_is_taken Receives x o e = its o ∙ sym (ap (option_map (λ (p : Pair). p.send)) e)
      where
        its : (o : Option OpId) → o ≡ option_map (λ (p : Pair). p.send) (option_map (λ (m : OpId). pair_of m x) o)
        its None = refl
        its (Some m) = refl
    made_pair_is_taken Sends x o e = its o ∙ sym (ap (option_map (λ (p : Pair). p.recv)) e)
      where
        its : (o : Option OpId) → o ≡ option_map (λ (p : Pair). p.recv) (option_map (λ (z : OpId). pair_of x z) o)
        its None = refl
        its (Some m) = refl

    -- a send whose pattern the schedule doesn't have meets none
    pub meets_none : (m : OpId) → IsSend plans m → own_list plans keys m ≡ None → new_pair plans (pairs plans h) h Arrive m ≡ None
    meets_none m s none =
        ap (option_map (λ (z : OpId). pair_of m z)) (oldest_found Post (λ (z : OpId). not (is_paired (pairs plans h) z)) (λ (z : OpId). fits plans z m) h ∙ find_none (λ (z : OpId). not (is_paired (pairs plans h) z) && fits plans z m) (ops_of Post h) (λ k d b. ap (λ (t : Bool). not (is_paired (pairs plans h) (get_or (ops_of Post h) k d)) && t) (fits_by_own_list (get_or (ops_of Post h) k d) m (suited_receive plans _ (ops_suit plans h are Post k d b)) s ∙ ap (same_number (own_list plans keys (get_or (ops_of Post h) k d))) none ∙ no_number _) ∙ and-false (not (is_paired (pairs plans h) (get_or (ops_of Post h) k d)))))

    -- what waits of a list is of it
    waiting_own_list : (c : Class) (l : ℕ) → All (λ (z : OpId). same_number (own_list plans keys z) (Some l) ≡ true) (waiting plans keys h c l)
    waiting_own_list c l = All-weaker (λ (z : OpId). is_waiting plans keys h l z ≡ true) (λ (z : OpId). same_number (own_list plans keys z) (Some l) ≡ true) (λ z t. (and_parts (not (is_paired (pairs plans h) z)) _ t).1) (waiting plans keys h c l) (filter_passes (is_waiting plans keys h l) (ops_of c h))

    waiting_suits : (c : Class) (l : ℕ) → All (λ (z : OpId). has_class (kind_at plans z) c ≡ true) (waiting plans keys h c l)
    waiting_suits c l = All-filter (is_waiting plans keys h l) (λ (z : OpId). has_class (kind_at plans z) c ≡ true) (ops_of c h) (ops_suit plans h are c)

    -- of another list
    other_list_waits_differ : (c : Class) (k l : ℕ) (z : OpId) → (k ≡ l → ⊥) → same_number (own_list plans keys z) (Some l) ≡ true → All (λ (y : OpId). y ≢ z) (waiting plans keys h c k)
    other_list_waits_differ c k l z n own = All-weaker (λ (y : OpId). same_number (own_list plans keys y) (Some k) ≡ true) (λ (y : OpId). y ≢ z) (λ y its same. n (same_number_unique (own_list plans keys z) k l (subst (λ (w : OpId). same_number (own_list plans keys w) (Some k) ≡ true) same its) own)) (waiting plans keys h c k) (waiting_own_list c k)

    not_happened_not_waiting : (c : Class) (l : ℕ) (x : OpId) → happened c x h ≡ false → All (λ (y : OpId). y ≢ x) (waiting plans keys h c l)
    not_happened_not_waiting c l x fresh = All-filter (is_waiting plans keys h l) (λ (y : OpId). y ≢ x) (ops_of c h) (All-weaker (λ (y : OpId). same_op x y ≡ false) (λ (y : OpId). y ≢ x) (λ y f same. both_ways (same_op x y) f (same_op_from x y (sym same))) (ops_of c h) (new_op_not_among_past_ops plans h are c x fresh))

    module _ (queues : List Queue) (next : List ℕ) (q : AreQueues plans keys queues next h) where
      abbrev ops : List OpId
      ops = operations plans

      queued_of_equal : (some : List ℕ) (queue : Queue) (b t : Bool) (xs ys : List OpId) → b ≡ t → xs ≡ ys → AreQueued ops some queue t ys → AreQueued ops some queue b xs
      queued_of_equal some queue b t xs ys same is queued =
          subst (λ (s : Bool). AreQueued ops some queue s xs) (sym same) (subst (AreQueued ops some queue t) (sym is) queued)

      queued_after_outside_write : (queue : Queue) (b : Bool) (xs : List OpId) (z : OpId) (k j : ℕ) → slice_get ops k ≡ Some z → All (λ (y : OpId). y ≢ z) xs → AreQueued ops next queue b xs → AreQueued ops (slice_set next k j) queue b xs
      queued_after_outside_write queue true xs z k j at all queued = line_after_outside_write ops next queue xs z k j at all queued
      queued_after_outside_write queue false xs z k j at all queued = queued

      -- an action more leaves less to come
      pub still_to_come : (a : Act) → AreToCome plans keys next h → AreToCome plans keys next (a ∷ h)
      still_to_come a to_come = record {
        each = λ some t z place there suits fresh. to_come.each some t z place there suits (not_happened_before_newest (class_of_side t) z a h fresh);
      }

      -- nobody comes: a send without a list
      pub send_without_list_comes : (m : OpId) → IsSend plans m → own_list plans keys m ≡ None → AreQueues plans keys queues next (come Sends m ∷ h) × (None ≡ receive_for plans h m)
      send_without_list_comes m s none =
          let alone = meets_none m s none in (
            record {
              one_each = q.one_each;
              links = q.links;
              each = λ k u e. holds_for_any_side (λ (t : Side). AreQueued ops next u (waits_as u.waits t) (waiting plans keys (come Sends m ∷ h) (class_of_side t) k)) Sends (queued_of_equal next u _ _ _ _ refl (side_waits_unchanged_in_other_list plans keys h Arrive Post m refl refl alone k (ap (λ (o : Option ℕ). same_number o (Some k)) none)) (q.each k u e Sends)) (queued_of_equal next u _ _ _ _ refl (other_side_waits_unchanged plans keys h Arrive Post m refl refl alone k) (q.each k u e Receives));
            },
            made_pair_is_taken Sends m None alone,
          )

      -- x comes to its list
      module _ (s : Side) (x : OpId) (new : IsNew plans h (come s x)) (l : ℕ) (own : own_list plans keys x ≡ Some l) where
        pub come_within : l < length queues
        come_within = let within = own_list_within_keys plans keys x l own in omega (arith, within, q.one_each)

        -- so there are patterns, and links
        ops_within_links : length ops ≤ length next
        ops_within_links = let within = own_list_within_keys plans keys x l own in q.links (omega (arith, within))

        in_its_own_list : same_number (own_list plans keys x) (Some l) ≡ true
        in_its_own_list = ap (λ (o : Option ℕ). same_number o (Some l)) own ∙ eq-eqb l l refl

        in_no_other_own_list : (k : ℕ) → (k ≡ l → ⊥) → same_number (own_list plans keys x) (Some k) ≡ false
        in_no_other_own_list k n =
            ap (λ (o : Option ℕ). same_number o (Some k)) own ∙ ne_eqb l k (λ e. n (sym e))

        module _ (queue : Queue) (at : slice_get queues l ≡ Some queue) where
          queued_of_side : (t : Side) (b : Bool) → waits_as queue.waits t ≡ b → AreQueued ops next queue b (waiting plans keys h (class_of_side t) l)
          queued_of_side t b is = subst (λ (b : Bool). AreQueued ops next queue b (waiting plans keys h (class_of_side t) l)) is (q.each l queue at t)

          pub last_within : waits_as queue.waits s ≡ true → queue.last < length next
          last_within some =
              let end = last_of_line ops next queue (waiting plans keys h (class_of_side s) l) (queued_of_side s true some) in
              let within = slice_get_within ops queue.last end.0 end.1 in
              omega (arith, within, ops_within_links)

          -- at the place of the last, which has come, no number of one to come is kept
          pub behind_to_come : (j : ℕ) → waits_as queue.waits s ≡ true → AreToCome plans keys next h → AreToCome plans keys (slice_set next queue.last j) (come s x ∷ h)
          behind_to_come j some to_come = record {
            each = λ many t z place there suits fresh.
                let before = not_happened_before_newest (class_of_side t) z (come s x) h fresh in
                slice_get_elsewhere next queue.last place j (λ same. apart z (same_Some end.0 z (sym end.1 ∙ ap (slice_get ops) (sym same) ∙ there)) t suits before) ∙ to_come.each many t z place there suits before;
          }
            where
              end : (y : OpId) × (slice_get ops queue.last ≡ Some y) × Contains (waiting plans keys h (class_of_side s) l) y
              end = last_of_line ops next queue (waiting plans keys h (class_of_side s) l) (queued_of_side s true some)

              has_come : happened (class_of_side s) end.0 h ≡ true
              has_come = All-contains (λ (z : OpId). happened (class_of_side s) z h ≡ true) (waiting plans keys h (class_of_side s) l) end.0 (All-filter (is_waiting plans keys h l) (λ (z : OpId). happened (class_of_side s) z h ≡ true) (ops_of (class_of_side s) h) (ops_happened (class_of_side s) h)) end.2

              its_side : has_class (kind_at plans end.0) (class_of_side s) ≡ true
              its_side = All-contains (λ (z : OpId). has_class (kind_at plans z) (class_of_side s) ≡ true) (waiting plans keys h (class_of_side s) l) end.0 (waiting_suits (class_of_side s) l) end.2

              apart : (z : OpId) → end.0 ≡ z → (t : Side) → has_class (kind_at plans z) (class_of_side t) ≡ true → happened (class_of_side t) z h ≡ false → ⊥
              apart z same = holds_for_any_side (λ (t : Side). has_class (kind_at plans z) (class_of_side t) ≡ true → happened (class_of_side t) z h ≡ false → ⊥) s (λ suits fresh. both_ways (happened (class_of_side s) z h) fresh (subst (λ (y : OpId). happened (class_of_side s) y h ≡ true) same has_come)) (λ suits fresh. both_ways (same_op z end.0) (ops_of_two_sides_differ plans s z end.0 suits its_side) (same_op_from z end.0 (sym same)))

          -- each queue after a write of that one
          queues_after_write : (after : List ℕ) (a : Act) (u : Queue) → ((t : Side) → AreQueued ops after u (waits_as u.waits t) (waiting plans keys (a ∷ h) (class_of_side t) l)) → ((k : ℕ) (v : Queue) → (k ≡ l → ⊥) → slice_get queues k ≡ Some v → (t : Side) → AreQueued ops after v (waits_as v.waits t) (waiting plans keys (a ∷ h) (class_of_side t) k)) → (k : ℕ) (v : Queue) → slice_get (slice_set queues l u) k ≡ Some v → (t : Side) → AreQueued ops after v (waits_as v.waits t) (waiting plans keys (a ∷ h) (class_of_side t) k)
          queues_after_write after a u its others k v e t = elim (cases_eq k l) [
            | inl same ↦
                let is : u ≡ v = slice_get_written queues l u v (subst (λ (k : ℕ). slice_get (slice_set queues l u) k ≡ Some v) same e) in
                subst (λ (k : ℕ). AreQueued ops after v (waits_as v.waits t) (waiting plans keys (a ∷ h) (class_of_side t) k)) (sym same) (subst (λ (w : Queue). AreQueued ops after w (waits_as w.waits t) (waiting plans keys (a ∷ h) (class_of_side t) l)) is (its t))
            | inr n ↦ others k v n (sym (slice_get_elsewhere queues l k u n) ∙ e) t
          ]

          -- none of the other side waits there, so x waits
          module _ (nobody : waits_as queue.waits (other_side s) ≡ false) where
            coming_makes_no_pair : new_pair plans (pairs plans h) h (class_of_side s) x ≡ None
            coming_makes_no_pair =
                pair_made_with_first_waiting s x l new.suited own ∙ ap (λ (xs : List OpId). option_map (pair_with s x) (head_of xs)) (queued_of_side (other_side s) false nobody)

            pub none_taken : None ≡ taken_by s plans h x
            none_taken = made_pair_is_taken s x None coming_makes_no_pair

            -- who waits there then
            its_list_after_wait : (after : List ℕ) (u : Queue) → u.waits ≡ Some s → AreInLine ops after u (waiting plans keys h (class_of_side s) l ++ x ∷ []) → (t : Side) → AreQueued ops after u (waits_as u.waits t) (waiting plans keys (come s x ∷ h) (class_of_side t) l)
            its_list_after_wait after u waits line = holds_for_any_side (λ (t : Side). AreQueued ops after u (waits_as u.waits t) (waiting plans keys (come s x ∷ h) (class_of_side t) l)) s (queued_of_equal after u _ true _ _ (ap (λ (o : Option Side). waits_as o s) waits ∙ waits_as_own_side s) (side_waits_with_new_last plans keys h (class_of_side s) (class_of_side (other_side s)) x (class_of_side_itself s) (class_of_side_of_other s) coming_makes_no_pair l (new_action_unpaired plans h s x new) in_its_own_list) line) (queued_of_equal after u _ false _ _ (ap (λ (o : Option Side). waits_as o (other_side s)) waits ∙ waits_not_as_other_side s) (other_side_waits_unchanged plans keys h (class_of_side s) (class_of_side (other_side s)) x (class_of_side_itself s) (class_of_side_of_other s) coming_makes_no_pair l) (queued_of_side (other_side s) false nobody))

            other_list_after_wait : (after : List ℕ) (k : ℕ) (v : Queue) → (k ≡ l → ⊥) → ((t : Side) → AreQueued ops after v (waits_as v.waits t) (waiting plans keys h (class_of_side t) k)) → (t : Side) → AreQueued ops after v (waits_as v.waits t) (waiting plans keys (come s x ∷ h) (class_of_side t) k)
            other_list_after_wait after k v n before = holds_for_any_side (λ (t : Side). AreQueued ops after v (waits_as v.waits t) (waiting plans keys (come s x ∷ h) (class_of_side t) k)) s (queued_of_equal after v _ _ _ _ refl (side_waits_unchanged_in_other_list plans keys h (class_of_side s) (class_of_side (other_side s)) x (class_of_side_itself s) (class_of_side_of_other s) coming_makes_no_pair k (in_no_other_own_list k n)) (before s)) (queued_of_equal after v _ _ _ _ refl (other_side_waits_unchanged plans keys h (class_of_side s) (class_of_side (other_side s)) x (class_of_side_itself s) (class_of_side_of_other s) coming_makes_no_pair k) (before (other_side s)))

            -- as the only one
            pub comes_into_empty_queue : (u : Queue) → waits_as queue.waits s ≡ false → u.waits ≡ Some s → u.first ≡ x → slice_get ops u.last ≡ Some x → AreQueues plans keys (slice_set queues l u) next (come s x ∷ h)
            comes_into_empty_queue u empty waits same last = record {
              one_each = length-set queues l u ∙ q.one_each;
              links = q.links;
              each = queues_after_write next (come s x) u (its_list_after_wait next u waits (subst (λ (xs : List OpId). AreInLine ops next u (xs ++ x ∷ [])) (sym (queued_of_side s false empty)) (line_of_one ops next u x same last))) (λ k v n e. other_list_after_wait next k v n (q.each k v e));
            }

            -- or behind those that wait
            pub comes_last_in_queue : (u : Queue) → waits_as queue.waits s ≡ true → u.waits ≡ Some s → u.first ≡ queue.first → slice_get ops u.last ≡ Some x → AreQueues plans keys (slice_set queues l u) (slice_set next queue.last u.last) (come s x ∷ h)
            comes_last_in_queue u some waits same last =
                let line = queued_of_side s true some in
                let end = last_of_line ops next queue (waiting plans keys h (class_of_side s) l) line in
                let its = All-contains (λ (z : OpId). same_number (own_list plans keys z) (Some l) ≡ true) (waiting plans keys h (class_of_side s) l) end.0 (waiting_own_list (class_of_side s) l) end.2 in
                record {
                  one_each = length-set queues l u ∙ q.one_each;
                  links = λ some. let long = length-set next queue.last u.last in omega (arith, long, ops_within_links);
                  each = queues_after_write (slice_set next queue.last u.last) (come s x) u (its_list_after_wait (slice_set next queue.last u.last) u waits (line_with_new_last ops next queue u (waiting plans keys h (class_of_side s) l) x line same last (not_happened_not_waiting (class_of_side s) l x new.fresh) ops_within_links)) (λ k v n e. other_list_after_wait (slice_set next queue.last u.last) k v n (λ t. queued_after_outside_write v (waits_as v.waits t) (waiting plans keys h (class_of_side t) k) end.0 queue.last u.last end.1 (other_list_waits_differ (class_of_side t) k l end.0 n its) (q.each k v e t)));
                }

          -- one of the other side waits there, so x takes it
          module _ (waits : queue.waits ≡ Some (other_side s)) where
            other_side_in_line : AreInLine ops next queue (waiting plans keys h (class_of_side (other_side s)) l)
            other_side_in_line = queued_of_side (other_side s) true (ap (λ (o : Option Side). waits_as o (other_side s)) waits ∙ other_waits_as_itself s)

            pub in_line : (xs : List OpId) × AreInLine ops next queue xs
            in_line = (waiting plans keys h (class_of_side (other_side s)) l, other_side_in_line)

            own_side_waits_none : waiting plans keys h (class_of_side s) l ≡ []
            own_side_waits_none = queued_of_side s false (ap (λ (o : Option Side). waits_as o s) waits ∙ other_waits_not_as_side s)

            module _ (y : OpId) (rest : List OpId) (is : waiting plans keys h (class_of_side (other_side s)) l ≡ y ∷ rest) where
              pair_made_with_first : new_pair plans (pairs plans h) h (class_of_side s) x ≡ Some (pair_with s x y)
              pair_made_with_first =
                  pair_made_with_first_waiting s x l new.suited own ∙ ap (λ (xs : List OpId). option_map (pair_with s x) (head_of xs)) is

              first_is_of_list : same_number (own_list plans keys y) (Some l) ≡ true
              first_is_of_list = All-head (λ (z : OpId). same_number (own_list plans keys z) (Some l) ≡ true) y rest (subst (All (λ (z : OpId). same_number (own_list plans keys z) (Some l) ≡ true)) is (waiting_own_list (class_of_side (other_side s)) l))

              first_suits_other_side : has_class (kind_at plans y) (class_of_side (other_side s)) ≡ true
              first_suits_other_side = All-head (λ (z : OpId). has_class (kind_at plans z) (class_of_side (other_side s)) ≡ true) y rest (subst (All (λ (z : OpId). has_class (kind_at plans z) (class_of_side (other_side s)) ≡ true)) is (waiting_suits (class_of_side (other_side s)) l))

              first_not_of_own_side : All (λ (z : OpId). same_op y z ≡ false) (ops_of (class_of_side s) h)
              first_not_of_own_side = All-weaker (λ (z : OpId). has_class (kind_at plans z) (class_of_side s) ≡ true) (λ (z : OpId). same_op y z ≡ false) (λ z suits. ops_of_two_sides_differ plans s y z first_suits_other_side suits) (ops_of (class_of_side s) h) (ops_suit plans h are (class_of_side s))

              coming_not_of_other_side : All (λ (z : OpId). same_op x z ≡ false) (ops_of (class_of_side (other_side s)) h)
              coming_not_of_other_side = All-weaker (λ (z : OpId). has_class (kind_at plans z) (class_of_side (other_side s)) ≡ true) (λ (z : OpId). same_op x z ≡ false) (λ z suits. same_op_swapped z x (ops_of_two_sides_differ plans s z x suits new.suited)) (ops_of (class_of_side (other_side s)) h) (ops_suit plans h are (class_of_side (other_side s)))

              first_in_no_other_list : (k : ℕ) → (k ≡ l → ⊥) → same_number (own_list plans keys y) (Some k) ≡ false
              first_in_no_other_list k n =
                  false_from_ne_true (same_number (own_list plans keys y) (Some k)) (λ t. n (same_number_unique (own_list plans keys y) k l t first_is_of_list))

              own_side_unchanged_by_meeting : (k : ℕ) → waiting plans keys (come s x ∷ h) (class_of_side s) k ≡ waiting plans keys h (class_of_side s) k
              own_side_unchanged_by_meeting k =
                  side_waits_unchanged_by_pair plans keys h (class_of_side s) (class_of_side (other_side s)) x y (class_of_side_itself s) (class_of_side_of_other s) (pair_with s x y) pair_made_with_first (in_pair_with s x y) k (new_op_not_among_past_ops plans h are (class_of_side s) x new.fresh) first_not_of_own_side

              rest_waits_after_meeting : waiting plans keys (come s x ∷ h) (class_of_side (other_side s)) l ≡ rest
              rest_waits_after_meeting =
                  other_side_without_first plans keys h (class_of_side s) (class_of_side (other_side s)) x y (class_of_side_itself s) (class_of_side_of_other s) (pair_with s x y) pair_made_with_first (in_pair_with s x y) l rest are coming_not_of_other_side is

              its_queue_after_meeting : (u : Queue) → (rest_is : List OpId) → rest ≡ rest_is → AreLeft ops next queue u rest_is → (t : Side) → AreQueued ops next u (waits_as u.waits t) (waiting plans keys (come s x ∷ h) (class_of_side t) l)
              its_queue_after_meeting u [] e left = holds_for_any_side (λ (t : Side). AreQueued ops next u (waits_as u.waits t) (waiting plans keys (come s x ∷ h) (class_of_side t) l)) s (queued_of_equal next u _ false _ _ (ap (λ (o : Option Side). waits_as o s) left) (own_side_unchanged_by_meeting l) own_side_waits_none) (queued_of_equal next u _ false _ _ (ap (λ (o : Option Side). waits_as o (other_side s)) left) rest_waits_after_meeting e)
              its_queue_after_meeting u (z ∷ zs) e left = holds_for_any_side (λ (t : Side). AreQueued ops next u (waits_as u.waits t) (waiting plans keys (come s x ∷ h) (class_of_side t) l)) s (queued_of_equal next u _ false _ _ (ap (λ (o : Option Side). waits_as o s) (left.0 ∙ waits) ∙ other_waits_not_as_side s) (own_side_unchanged_by_meeting l) own_side_waits_none) (queued_of_equal next u _ true _ _ (ap (λ (o : Option Side). waits_as o (other_side s)) (left.0 ∙ waits) ∙ other_waits_as_itself s) (rest_waits_after_meeting ∙ e) left.1)

              other_queue_after_meeting : (k : ℕ) (v : Queue) → (k ≡ l → ⊥) → slice_get queues k ≡ Some v → (t : Side) → AreQueued ops next v (waits_as v.waits t) (waiting plans keys (come s x ∷ h) (class_of_side t) k)
              other_queue_after_meeting k v n e = holds_for_any_side (λ (t : Side). AreQueued ops next v (waits_as v.waits t) (waiting plans keys (come s x ∷ h) (class_of_side t) k)) s (queued_of_equal next v _ _ _ _ refl (own_side_unchanged_by_meeting k) (q.each k v e s)) (queued_of_equal next v _ _ _ _ refl (other_list_waits_unchanged_by_pair plans keys h (class_of_side s) (class_of_side (other_side s)) x y (class_of_side_itself s) (class_of_side_of_other s) (pair_with s x y) pair_made_with_first (in_pair_with s x y) k coming_not_of_other_side (first_in_no_other_list k n)) (q.each k v e (other_side s)))

            pub comes_and_takes_first : (u : Queue) → ((y : OpId) (rest : List OpId) → AreInLine ops next queue (y ∷ rest) → AreLeft ops next queue u rest) → AreQueues plans keys (slice_set queues l u) next (come s x ∷ h) × (Some queue.first ≡ taken_by s plans h x)
            comes_and_takes_first u left = go (waiting plans keys h (class_of_side (other_side s)) l) refl other_side_in_line
              where
                go : (xs : List OpId) → waiting plans keys h (class_of_side (other_side s)) l ≡ xs → AreInLine ops next queue xs → AreQueues plans keys (slice_set queues l u) next (come s x ∷ h) × (Some queue.first ≡ taken_by s plans h x)
                go [] is line = absurd line
                go (y ∷ rest) is line = (
                  record {
                    one_each = length-set queues l u ∙ q.one_each;
                    links = q.links;
                    each = queues_after_write next (come s x) u (its_queue_after_meeting y rest is u rest refl (left y rest line)) (other_queue_after_meeting y rest is);
                  },
                  ap (λ (z : OpId). Some z) line.0 ∙ made_pair_is_taken s x (Some y) (pair_made_with_first y rest is),
                )

-- what comes is the next action
pub coming_op_is_next_action : (plans : List Plan) (events : List OpId) (s : Side) (x : OpId) → has_class (kind_at plans x) (class_of_side s) ≡ true → actions_of plans (events ++ x ∷ []) ≡ come s x ∷ actions_of plans events
coming_op_is_next_action plans events Receives x suited = actions_of-post plans events x (suited_receive plans x suited)
coming_op_is_next_action plans events Sends x suited = actions_of-arrival plans events x (suited_send plans x suited)

pub coming_op_exists : (plans : List Plan) (s : Side) (x : OpId) → has_class (kind_at plans x) (class_of_side s) ≡ true → IsOp plans x
coming_op_exists plans Receives x suited = op_of_kind plans x _ (suited_receive plans x suited).kind
coming_op_exists plans Sends x suited = op_of_kind plans x _ (suited_send plans x suited).kind

ops_none : (c : Class) → ops_of c [] ≡ []
unfolding ops_of
ops_none c = refl

-- before all posts and arrivals nobody waits
pub queues_before_any_action : (plans : List Plan) (keys : List Pattern) (none : Queue) (queues : List Queue) (next : List ℕ) → none.waits ≡ None → queues ≡ replicate (length keys) none → (0 < length keys → length (operations plans) ≤ length next) → AreQueues plans keys queues next []
queues_before_any_action plans keys none queues next empty are long = record {
  one_each = ap length are ∙ length-replicate (length keys) none;
  links = long;
  each = λ l u e t.
      let same : none ≡ u = same_Some none u (sym (its (length keys) l (slice_get_within (replicate (length keys) none) l u (ap (λ (qs : List Queue). slice_get qs l) (sym are) ∙ e))) ∙ ap (λ (qs : List Queue). slice_get qs l) (sym are) ∙ e) in
      let waits : u.waits ≡ None = ap (λ (q : Queue). q.waits) (sym same) ∙ empty in
      subst (λ (o : Option Side). AreQueued (operations plans) next u (waits_as o t) (waiting plans keys [] (class_of_side t) l)) (sym waits) (ap (filter (is_waiting plans keys [] l)) (ops_none (class_of_side t)));
}
  where
    its : (n l : ℕ) → l < length (replicate n none) → slice_get (replicate n none) l ≡ Some none
    its zero l b = absurd (omega arith)
    its (suc n) zero b = refl
    its (suc n) (suc l) b = its n l (omega arith)

-- before all posts and arrivals, all of them are still to come
pub to_come_before_any_action : (plans : List Plan) (keys : List Pattern) (next : List ℕ) → (0 < length keys → next ≡ map (λ (x : OpId). coded (own_list plans keys x)) (operations plans)) → AreToCome plans keys next []
to_come_before_any_action plans keys next are = record {
  each = λ some t z place there suits fresh.
      ap (λ (ns : List ℕ). slice_get ns place) (are some) ∙ slice_get-map (λ (x : OpId). coded (own_list plans keys x)) (operations plans) place ∙ ap (option_map (λ (x : OpId). coded (own_list plans keys x))) there;
}
