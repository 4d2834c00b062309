-- Patterns and their numbers.
use Rattle.std.proofs.Common.{ℕ, zero, suc, ◌<◌, ◌≤◌, ◌+◌, ◌≡◌, ◌==◌, ◌&&◌, ◌||◌, Bool, true, false, List, [], ◌∷◌, ◌++◌, length, get_or, map, Option, Some, None, is_some, inl, inr, slice_get, take, position, refl, arith, sym, ap, ap₂, ◌∙◌, subst, eq-eqb, Contains}
use Rattle.std.specs.Cmp.{tied_then}
use Rattle.std.specs.List.{list_any, list_all, position_or_len}
use Rattle.std.specs.Option.{option_cmp}
use Rattle.std.specs.Ordering.{is_eq, nat_cmp}
use Rattle.std.proofs.lemmas.Bool.{cond-true, cond-false, le-ltb, both_ways, and_parts, and_from, eqb-true, ne_eqb, lt-ltb, cases_lt, false_from_ne_true}
use Rattle.std.proofs.lemmas.Option.{none-some, same_Some, get_or_from_slice_get, slice_get_within, slice_get_read}
use Rattle.std.proofs.lemmas.List.Elements.{All-get_or, Contains-append_left, Contains-append_right}
use Rattle.std.proofs.lemmas.List.Folds.{list_any_at}
use Rattle.std.proofs.lemmas.List.Quantifiers.{position-Some}
use Rattle.std.proofs.lemmas.List.Sums.{AllPass-from_list_all, position_or_len_is, fails_before_first}
use Rattle.goal_graph.specs.declared.action.OpId.{OpId}
use Rattle.goal_graph.specs.declared.plan.Kind.{Kind}
use Rattle.goal_graph.specs.declared.plan.Kind.TheVariants.{Calc, Send, Recv}
use Rattle.goal_graph.specs.Schedule.{Plan, kind_at, operations, IsSend, IsReceive}
use Rattle.goal_graph.specs.Matching.{accepts, fits, fits_kinds}
use Rattle.goal_graph.proofs.ForCallers.{option_cmp_is_eq, nat_cmp_is_eq, kind_listed, same_choice_true, same_choice_itself}
use Rattle.sim_match.specs.declared.pattern.Pattern.{Pattern}
use Rattle.sim_match.specs.declared.pattern.Wild.{Wild}
use Rattle.sim_match.specs.declared.pattern.Wild.TheVariants.{AnyTag, AnySource, Any}
use Rattle.sim_match.specs.Patterns.{same_choice, same_pattern, pattern_cmp, pattern_of, patterns_for, same_number, number, list_number, numbers_for, list_of, lists_for, for_list, wild_pattern, is_wild, IsListed, AreListed}
use Rattle.sim_match.specs.Capacities.{AreOnce, AreWithin}

pub same_pattern_true : (p q : Pattern) → same_pattern p q ≡ true → p ≡ q
same_pattern_true p q e =
    let outer = and_parts (p.rank == q.rank) (same_choice p.from q.from && same_choice p.tag q.tag) e in
    let inner = and_parts (same_choice p.from q.from) (same_choice p.tag q.tag) outer.1 in
    let rank = eqb-true p.rank q.rank outer.0 in
    let from = same_choice_true p.from q.from inner.0 in
    let tag = same_choice_true p.tag q.tag inner.1 in
    λ i. record { rank = rank i; from = from i; tag = tag i }

-- patterns are equal by their order exactly where they are the same
pub pattern_cmp_is_eq : (p q : Pattern) → is_eq (pattern_cmp p q) ≡ same_pattern p q
pattern_cmp_is_eq p q =
    sym (tied_then (nat_cmp p.rank q.rank) _) ∙ ap₂ (λ (s t : Bool). s && t) (nat_cmp_is_eq p.rank q.rank) (sym (tied_then (option_cmp nat_cmp p.from q.from) _) ∙ ap₂ (λ (s t : Bool). s && t) (option_cmp_is_eq p.from q.from) (option_cmp_is_eq p.tag q.tag))

pub same_pattern_itself : (p : Pattern) → same_pattern p p ≡ true
same_pattern_itself p =
    and_from _ _ (eq-eqb p.rank p.rank refl) (and_from _ _ (same_choice_itself p.from) (same_choice_itself p.tag))

-- the first place that passes
pub position_at : {X : Type 0} (p : X → Bool) (xs : List X) (i : ℕ) (d : X) → i < length xs → p (get_or xs i d) ≡ true → ((k : ℕ) → k < i → p (get_or xs k d) ≡ false) → position p xs ≡ Some i
position_at p xs i d inside passes before =
    let at = position_or_len_is p xs i d (omega arith) before (λ l. passes) in
    cond-true _ (Some (position_or_len p xs)) None (lt-ltb (position_or_len p xs) (length xs) (omega (arith, at))) ∙ ap (λ (n : ℕ). Some n) at

pub position_none_if_all_fail : {X : Type 0} (p : X → Bool) (xs : List X) (d : X) → ((k : ℕ) → k < length xs → p (get_or xs k d) ≡ false) → position p xs ≡ None
position_none_if_all_fail p xs d fails =
    let at = position_or_len_is p xs (length xs) d (omega arith) fails (λ l. absurd (omega (arith, l))) in
    cond-false _ (Some (position_or_len p xs)) None (le-ltb (position_or_len p xs) (length xs) (omega (arith, at)))

-- a pattern that takes any is not among those that each name one
pub pattern_of_any_unnumbered : (field : Pattern → Option ℕ) (keys : List Pattern) (p : Pattern) → list_all (λ q. is_some (field q)) keys ≡ true → is_some (field p) ≡ false → None ≡ number keys p
pattern_of_any_unnumbered field keys p all none =
    sym (position_none_if_all_fail (same_pattern p) keys p (λ k l. false_from_ne_true (same_pattern p (get_or keys k p)) (λ e. differ k l (same_pattern_true p (get_or keys k p) e))))
  where
    differ : (k : ℕ) → k < length keys → p ≡ get_or keys k p → ⊥
    differ k l same =
        let named : is_some (field (get_or keys k p)) ≡ true = All-get_or (λ q. is_some (field q) ≡ true) keys k p l (AllPass-from_list_all (λ q. is_some (field q)) keys all) in
        both_ways (is_some (field p)) none (ap (λ q. is_some (field q)) same ∙ named)

-- a wildcard pattern of a kind that no key has is not a key
pub wild_pattern_unnumbered : (wild : Wild) (keys : List Pattern) (p : Pattern) → list_any (is_wild wild) keys ≡ false → is_wild wild p ≡ true → None ≡ number keys p
wild_pattern_unnumbered wild keys p none is =
    sym (position_none_if_all_fail (same_pattern p) keys p (λ k l. false_from_ne_true (same_pattern p (get_or keys k p)) (λ e. differ k l (same_pattern_true p (get_or keys k p) e))))
  where
    differ : (k : ℕ) → k < length keys → p ≡ get_or keys k p → ⊥
    differ k l same =
        both_ways (list_any (is_wild wild) keys) none (list_any_at (is_wild wild) keys k p l (ap (is_wild wild) (sym same) ∙ is))

pub wild_itself : (wild : Wild) (source to tag : ℕ) → is_wild wild (wild_pattern wild source to tag) ≡ true
wild_itself AnyTag source to tag = refl
wild_itself AnySource source to tag = refl
wild_itself Any source to tag = refl

pub position_or_len_if_none : {X : Type 0} (p : X → Bool) (xs : List X) → position p xs ≡ None → length xs ≤ position_or_len p xs
position_or_len_if_none p xs e =
    elim (cases_lt (position_or_len p xs) (length xs)) [ inl l ↦ absurd (none-some (position_or_len p xs) (sym e ∙ cond-true _ (Some (position_or_len p xs)) None (lt-ltb _ _ l))) | inr l ↦ l ]

-- a number is that of a pattern
pub number_within : (keys : List Pattern) (p : Pattern) (i : ℕ) → number keys p ≡ Some i → i < length keys
number_within keys p i e = (position-Some (same_pattern p) keys i p e).0

-- the pattern is at that place
pub pattern_at_its_number : (keys : List Pattern) (p : Pattern) (i : ℕ) → number keys p ≡ Some i → p ≡ get_or keys i p
pattern_at_its_number keys p i e = same_pattern_true p (get_or keys i p) (position-Some (same_pattern p) keys i p e).1

-- a pattern that is there has a number
pub listed_pattern_has_number : (keys : List Pattern) (p : Pattern) (k : ℕ) (q : Pattern) → slice_get keys k ≡ Some q → same_pattern p q ≡ true → (i : ℕ) × (number keys p ≡ Some i)
listed_pattern_has_number keys p k q there same = go (position (same_pattern p) keys) refl
  where
    go : (o : Option ℕ) → position (same_pattern p) keys ≡ o → (i : ℕ) × (number keys p ≡ Some i)
    go (Some i) e = (i, e)
    go None e =
        let far = position_or_len_if_none (same_pattern p) keys e in
        let inside = slice_get_within keys k q there in
        let fails = fails_before_first (same_pattern p) keys k q (omega (arith, far, inside)) in
        absurd (both_ways (same_pattern p q) (ap (same_pattern p) (sym (get_or_from_slice_get keys k q q there)) ∙ fails) same)

module _ (keys : List Pattern) (p : Pattern) (i : ℕ) (its : number keys p ≡ Some i) where
  same_number_is_same_pattern : (q : Pattern) → same_number (Some i) (number keys q) ≡ same_pattern p q
  same_number_is_same_pattern q = go (same_pattern p q) refl (number keys q) refl
    where
      go : (b : Bool) → same_pattern p q ≡ b → (o : Option ℕ) → number keys q ≡ o → same_number (Some i) o ≡ b
      go true e o f =
          ap (same_number (Some i)) (sym f ∙ ap (number keys) (sym (same_pattern_true p q e)) ∙ its) ∙ eq-eqb i i refl
      go false e None f = refl
      go false e (Some j) f = ne_eqb i j (λ same. both_ways (same_pattern p q) e (subst (λ (r : Pattern). same_pattern p r ≡ true) (first same ∙ sym second) (same_pattern_itself p)))
        where
          mine : Pattern
          mine = get_or keys j p

          second : q ≡ get_or keys j q
          second = same_pattern_true q (get_or keys j q) (position-Some (same_pattern q) keys j q f).1

          first : i ≡ j → p ≡ get_or keys j q
          first same = same_pattern_true p (get_or keys j q) (position-Some (same_pattern p) keys j q (its ∙ ap (λ (n : ℕ). Some n) same)).1

  -- it is among the numbers of patterns where it is among them
  pub any_number_is_any_pattern : (qs : List Pattern) → list_any (same_number (Some i)) (map (number keys) qs) ≡ list_any (same_pattern p) qs
  any_number_is_any_pattern [] = refl
  any_number_is_any_pattern (q ∷ qs) = ap₂ (λ (s t : Bool). s || t) (same_number_is_same_pattern q) (any_number_is_any_pattern qs)

-- a pattern fits a message exactly where it is one of the message's four
eqb_swapped : (m n : ℕ) → (m == n) ≡ (n == m)
eqb_swapped m n = go (n == m) refl
  where
    go : (b : Bool) → (n == m) ≡ b → (m == n) ≡ b
    go true e = eq-eqb m n (sym (eqb-true n m e))
    go false e = false_from_ne_true (m == n) (λ t. both_ways (n == m) e (eq-eqb n m (sym (eqb-true m n t))))

accepts_one_of_four : (rank : ℕ) (from tag : Option ℕ) (source to with_tag : ℕ) → ((to == rank) && accepts from source && accepts tag with_tag) ≡ list_any (same_pattern (record { rank = rank; from = from; tag = tag })) (patterns_for source to with_tag)
accepts_one_of_four rank from tag source to with_tag = ap (λ (s : Bool). s && accepts from source && accepts tag with_tag) (eqb_swapped to rank) ∙ go (rank == to) from tag
  where
    none_none : (s : Bool) → (s && true && true) ≡ ((s && (false && false)) || ((s && (false && true)) || ((s && (true && false)) || ((s && (true && true)) || false))))
    none_none true = refl
    none_none false = refl

    none_some : (s t : Bool) → (s && true && t) ≡ ((s && (false && t)) || ((s && (false && false)) || ((s && (true && t)) || ((s && (true && false)) || false))))
    none_some true true = refl
    none_some true false = refl
    none_some false t = refl

    some_none : (s t : Bool) → (s && t && true) ≡ ((s && (t && false)) || ((s && (t && true)) || ((s && (false && false)) || ((s && (false && true)) || false))))
    some_none true true = refl
    some_none true false = refl
    some_none false t = refl

    some_some : (s t u : Bool) → (s && t && u) ≡ ((s && (t && u)) || ((s && (t && false)) || ((s && (false && u)) || ((s && (false && false)) || false))))
    some_some true true true = refl
    some_some true true false = refl
    some_some true false u = refl
    some_some false t u = refl

    go : (s : Bool) (from tag : Option ℕ) → (s && accepts from source && accepts tag with_tag) ≡ ((s && (same_choice from (Some source) && same_choice tag (Some with_tag))) || ((s && (same_choice from (Some source) && same_choice tag None)) || ((s && (same_choice from None && same_choice tag (Some with_tag))) || ((s && (same_choice from None && same_choice tag None)) || false))))
    go s None None = none_none s
    go s None (Some t) = none_some s (t == with_tag)
    go s (Some f) None = some_none s (f == source)
    go s (Some f) (Some t) = some_some s (f == source) (t == with_tag)

-- a receive of a list fits exactly the sends for it
pub receive_of_list_fits_its_sends : (plans : List Plan) (keys : List Pattern) (x m : OpId) (i : ℕ) → IsReceive plans x → list_of plans keys x ≡ Some i → fits plans x m ≡ for_list plans keys i m
unfolding fits for_list
receive_of_list_fits_its_sends plans keys x m i r e =
    ap (λ (k : Option Kind). fits_kinds x k m (kind_at plans m)) r.kind ∙ at (kind_at plans m)
  where
    its : number keys (record { rank = x.rank; from = r.from; tag = r.tag }) ≡ Some i
    its = sym (ap (λ (k : Option Kind). list_number keys (pattern_of x k)) r.kind) ∙ e

    at : (k : Option Kind) → fits_kinds x (Some (Recv r.room r.from r.tag)) m k ≡ list_any (same_number (Some i)) (numbers_for keys m k)
    at (Some (Send bytes to tag)) =
        accepts_one_of_four x.rank r.from r.tag m.rank to tag ∙ sym (any_number_is_any_pattern keys (record { rank = x.rank; from = r.from; tag = r.tag }) i its (patterns_for m.rank to tag))
    at (Some (Calc nanos)) = refl
    at (Some (Recv room from tag)) = refl
    at None = refl

pub receive_fits_by_any_list_number : (plans : List Plan) (keys : List Pattern) (x m : OpId) → IsReceive plans x → (its : IsListed plans keys x) → list_any (same_number (list_of plans keys x)) (lists_for plans keys m) ≡ fits plans x m
unfolding for_list
receive_fits_by_any_list_number plans keys x m r its =
    ap (λ (o : Option ℕ). list_any (same_number o) (lists_for plans keys m)) its.is ∙ sym (receive_of_list_fits_its_sends plans keys x m its.list r its.is)

-- the numbers of a message's lists: none twice, and each that of a list
pub four_numbers_differ : (keys : List Pattern) (source to tag : ℕ) → AreOnce (map (number keys) (patterns_for source to tag))
four_numbers_differ keys source to tag k i e = go k e
  where
    go : (k : ℕ) → slice_get (map (number keys) (patterns_for source to tag)) k ≡ Some (Some i) → list_any (same_number (Some i)) (take k (map (number keys) (patterns_for source to tag))) ≡ false
    go zero e = refl
    go (suc zero) e = any_number_is_any_pattern keys (record { rank = to; from = Some source; tag = None }) i (same_Some (number keys (record { rank = to; from = Some source; tag = None })) (Some i) e) (take 1 (patterns_for source to tag)) ∙ second (to == to) (source == source)
      where
        second : (s t : Bool) → ((s && (t && false)) || false) ≡ false
        second true true = refl
        second true false = refl
        second false t = refl
    go (suc (suc zero)) e = any_number_is_any_pattern keys (record { rank = to; from = None; tag = Some tag }) i (same_Some (number keys (record { rank = to; from = None; tag = Some tag })) (Some i) e) (take 2 (patterns_for source to tag)) ∙ third (to == to) (tag == tag)
      where
        third : (s t : Bool) → ((s && (false && t)) || ((s && (false && false)) || false)) ≡ false
        third true t = refl
        third false t = refl
    go (suc (suc (suc zero))) e = any_number_is_any_pattern keys (record { rank = to; from = None; tag = None }) i (same_Some (number keys (record { rank = to; from = None; tag = None })) (Some i) e) (take 3 (patterns_for source to tag)) ∙ fourth (to == to)
      where
        fourth : (s : Bool) → ((s && (false && false)) || ((s && (false && true)) || ((s && (true && false)) || false))) ≡ false
        fourth true = refl
        fourth false = refl
    go (suc (suc (suc (suc k)))) e = absurd (none-some (Some i) e)

pub four_numbers_within : (keys : List Pattern) (source to tag : ℕ) → AreWithin (map (number keys) (patterns_for source to tag)) (length keys)
four_numbers_within keys source to tag k i e = go k e
  where
    go : (k : ℕ) → slice_get (map (number keys) (patterns_for source to tag)) k ≡ Some (Some i) → i < length keys
    go zero e = number_within keys (record { rank = to; from = Some source; tag = Some tag }) i (same_Some (number keys (record { rank = to; from = Some source; tag = Some tag })) (Some i) e)
    go (suc zero) e = number_within keys (record { rank = to; from = Some source; tag = None }) i (same_Some (number keys (record { rank = to; from = Some source; tag = None })) (Some i) e)
    go (suc (suc zero)) e = number_within keys (record { rank = to; from = None; tag = Some tag }) i (same_Some (number keys (record { rank = to; from = None; tag = Some tag })) (Some i) e)
    go (suc (suc (suc zero))) e = number_within keys (record { rank = to; from = None; tag = None }) i (same_Some (number keys (record { rank = to; from = None; tag = None })) (Some i) e)
    go (suc (suc (suc (suc k)))) e = absurd (none-some (Some i) e)

-- the same of a send
pub send_lists : (plans : List Plan) (keys : List Pattern) (m : OpId) (s : IsSend plans m) → lists_for plans keys m ≡ map (number keys) (patterns_for m.rank s.to s.tag)
send_lists plans keys m s = ap (numbers_for keys m) s.kind

pub lists_once : (plans : List Plan) (keys : List Pattern) (m : OpId) → IsSend plans m → AreOnce (lists_for plans keys m)
lists_once plans keys m s = subst AreOnce (sym (send_lists plans keys m s)) (four_numbers_differ keys m.rank s.to s.tag)

pub lists_within : (plans : List Plan) (keys : List Pattern) (m : OpId) → IsSend plans m → AreWithin (lists_for plans keys m) (length keys)
lists_within plans keys m s = subst (λ (ns : List (Option ℕ)). AreWithin ns (length keys)) (sym (send_lists plans keys m s)) (four_numbers_within keys m.rank s.to s.tag)

-- the patterns of the first n operations are among these
abbrev pub AreCollected : List Plan → List OpId → ℕ → List Pattern → Type 0
AreCollected plans ops n keys = (k : ℕ) (x : OpId) (p : Pattern) → k < n → slice_get ops k ≡ Some x → pattern_of x (kind_at plans x) ≡ Some p → Contains keys p

pub collected_none : (plans : List Plan) (ops : List OpId) (keys : List Pattern) → AreCollected plans ops 0 keys
collected_none plans ops keys k x p below at is = absurd (omega arith)

-- one more operation, which has these patterns
pub collected_with_next_op : (plans : List Plan) (ops : List OpId) (n : ℕ) (keys more : List Pattern) → AreCollected plans ops n keys → (x : OpId) → slice_get ops n ≡ Some x → ((p : Pattern) → pattern_of x (kind_at plans x) ≡ Some p → Contains more p) → AreCollected plans ops (n + 1) (keys ++ more)
collected_with_next_op plans ops n keys more before x at has k y p below read is =
    elim (cases_lt k n) [
      | inl less ↦ Contains-append_left keys more p (before k y p less read is)
      | inr no_less ↦
          let same : n ≡ k = omega arith in
          let alike : y ≡ x = same_Some y x (sym read ∙ ap (slice_get ops) (sym same) ∙ at) in
          Contains-append_right keys more p (has p (subst (λ (z : OpId). pattern_of z (kind_at plans z) ≡ Some p) alike is))
    ]

-- each receive has a list where all patterns are there
pub listed_if_all_collected : (plans : List Plan) (n : ℕ) (keys : List Pattern) → ((p : Pattern) (k : ℕ) (x : OpId) → k < n → slice_get (operations plans) k ≡ Some x → pattern_of x (kind_at plans x) ≡ Some p → Contains keys p) → length (operations plans) ≤ n → AreListed plans keys
listed_if_all_collected plans n keys there all x r =
    let place = at_place (operations plans) x (kind_listed plans x _ r.kind) in
    let p : Pattern = record { rank = x.rank; from = r.from; tag = r.tag } in
    let is : pattern_of x (kind_at plans x) ≡ Some p = ap (pattern_of x) r.kind in
    let at = at_place keys p (there p place.0 x (omega (arith, all, slice_get_within (operations plans) place.0 x place.1)) place.1 is) in
    let its = listed_pattern_has_number keys p at.0 p at.1 (same_pattern_itself p) in
    record { list = its.0; is = ap (list_number keys) is ∙ its.1; within = number_within keys p its.0 its.1 }
  where
    at_place : {X : Type 0} (xs : List X) (x : X) → Contains xs x → (k : ℕ) × (slice_get xs k ≡ Some x)
    at_place xs x c = (c.0, slice_get_read xs (length xs) c.0 x refl c.1 (sym c.2))
