-- Numbers that patterns are given in turn.
use Rattle.std.proofs.Common.{ℕ, ◌<◌, ◌+◌, ◌-◌, ◌^◌, ◌≡◌, Bool, true, false, List, [], ◌∷◌, ◌++◌, length, get_or, map, Option, Some, None, is_some, inl, inr, slice_get, slice_set, refl, arith, sym, ap, ◌∙◌, ap₂, All}
use Rattle.std.specs.List.{list_any}
use Rattle.std.specs.Option.{IfSome}
use Rattle.std.proofs.lemmas.Bool.{both_ways, cases_lt, cases_eq, false_from_ne_true}
use Rattle.std.proofs.lemmas.Option.{none-some, same_Some, slice_get_within, slice_get-get_or}
use Rattle.std.proofs.lemmas.List.{length-append, length-set, get_or_append_left, get_or_at, get_or_default}
use Rattle.std.proofs.lemmas.List.Elements.{All-head, All-tail, All-weaker, All-contains}
use Rattle.std.proofs.lemmas.List.Folds.{list_any_none, list_any_at}
use Rattle.std.proofs.lemmas.List.Quantifiers.{position-Some}
use Rattle.std.proofs.lemmas.List.Sums.{fails_before_first}
use Rattle.sim_match.specs.declared.pattern.Pattern.{Pattern}
use Rattle.sim_match.specs.declared.list_order.ListOrder.{ListOrder}
use Rattle.goal_graph.specs.declared.action.OpId.{OpId}
use Rattle.goal_graph.specs.declared.plan.Kind.{Kind}
use Rattle.goal_graph.specs.declared.plan.Kind.TheVariants.{Calc, Send, Recv}
use Rattle.goal_graph.specs.Schedule.{Plan, kind_at, operations}
use Rattle.goal_graph.proofs.ForCallers.{kind_listed}
use Rattle.sim_match.specs.declared.pattern.Wild.{Wild}
use Rattle.sim_match.specs.Patterns.{same_pattern, own_pattern, number, list_number, own_list, wild_pattern, wild_number, wild_list, IsListed, AreListed}
use Rattle.sim_match.specs.ListNumbers.{coded, IsCodable}
use Rattle.sim_match.specs.ListOrder.{AreGiven, Grows, HaveNumbers}
use Rattle.sim_match.proofs.PatternLemmas.{same_pattern_true, same_pattern_itself, position_at, position_none_if_all_fail, position_or_len_if_none, number_within, pattern_at_its_number, listed_pattern_has_number}
use Rattle.sim_match.proofs.Numbering.{number_is_codable, own_of_receive, own_list_within_keys}
use Rattle.sim_match.proofs.Written.{slice_get_written_place, slice_get_elsewhere}

-- a pattern without a number is not one of the keys
unnumbered_matches_no_key : (keys : List Pattern) (p : Pattern) → number keys p ≡ None → (k : ℕ) → k < length keys → same_pattern p (get_or keys k p) ≡ false
unnumbered_matches_no_key keys p none k below =
    let far = position_or_len_if_none (same_pattern p) keys none in
    fails_before_first (same_pattern p) keys k p (omega (arith, far, below))

module _ (keys : List Pattern) (q : Pattern) where
  key_before_new : (p : Pattern) (k : ℕ) → k < length keys → get_or (keys ++ q ∷ []) k p ≡ get_or keys k p
  key_before_new p k below = get_or_append_left keys (q ∷ []) p k below

  keys_with_new_length : length (keys ++ q ∷ []) ≡ length keys + 1
  keys_with_new_length = length-append keys (q ∷ [])

  -- a pattern keeps its number when another pattern is appended
  pub number_stays : (p : Pattern) (list : ℕ) → number keys p ≡ Some list → number (keys ++ q ∷ []) p ≡ Some list
  number_stays p list its =
      let at = position-Some (same_pattern p) keys list p its in
      position_at (same_pattern p) (keys ++ q ∷ []) list p (omega (arith, at.0, keys_with_new_length)) (ap (same_pattern p) (key_before_new p list at.0) ∙ at.1) (λ k b. ap (same_pattern p) (key_before_new p k (omega (arith, b, at.0))) ∙ at.2 k b)

  -- the appended pattern gets the next number
  pub number_of_new_key : (p : Pattern) → p ≡ q → number keys p ≡ None → number (keys ++ q ∷ []) p ≡ Some (length keys)
  number_of_new_key p same none =
      position_at (same_pattern p) (keys ++ q ∷ []) (length keys) p (omega (arith, keys_with_new_length)) (ap (same_pattern p) (get_or_at keys q [] p (length keys) refl ∙ sym same) ∙ same_pattern_itself p) (λ k b. ap (same_pattern p) (key_before_new p k b) ∙ unnumbered_matches_no_key keys p none k b)

  -- any other pattern without a number still has none
  pub number_of_other_stays_none : (p : Pattern) → same_pattern p q ≡ false → number keys p ≡ None → number (keys ++ q ∷ []) p ≡ None
  number_of_other_stays_none p other none = position_none_if_all_fail (same_pattern p) (keys ++ q ∷ []) p (λ k l. elim (cases_lt k (length keys)) [
    | inl b ↦ ap (same_pattern p) (key_before_new p k b) ∙ unnumbered_matches_no_key keys p none k b
    | inr h ↦
        let last : k ≡ length keys = omega (arith, keys_with_new_length, l, h) in
        ap (same_pattern p) (get_or_at keys q [] p k (sym last)) ∙ other
  ])

-- the code 2^32 - 1 means `None`; any other code means a number
coded_none_is_none : (o : Option ℕ) → IsCodable o → coded o ≡ 2 ^ 32 - 1 → o ≡ None
coded_none_is_none None fits e = refl
coded_none_is_none (Some list) fits e = let less = fits list refl in absurd (omega (arith, less, e))

coded_number_is_some : (o : Option ℕ) → (coded o ≡ 2 ^ 32 - 1 → ⊥) → is_some o ≡ true
coded_number_is_some None other = absurd (other refl)
coded_number_is_some (Some list) other = refl

module _ (patterns : List Pattern) (old : ListOrder) (given : AreGiven patterns old) where
  -- what is kept at the place of a pattern
  kept_is_coded_number : (p : Pattern) (place kept : ℕ) → number patterns p ≡ Some place → slice_get old.numbers.items place ≡ Some kept → kept ≡ coded (number old.keys.items p)
  kept_is_coded_number p place kept its at = same_Some _ _ (sym at ∙ given.numbers p place its)

  -- a pattern without a number gets the next one
  module _ (place : ℕ) (q : Pattern) (its : number patterns q ≡ Some place) (few : old.count + 1 < 2 ^ 32 - 1) (none : slice_get old.numbers.items place ≡ Some (2 ^ 32 - 1)) where
    pattern_had_no_number : (p : Pattern) → number patterns p ≡ Some place → number old.keys.items p ≡ None
    pattern_had_no_number p at = coded_none_is_none (number old.keys.items p) (number_is_codable old.keys.items p (omega (arith, few, given.count))) (sym (kept_is_coded_number p place (2 ^ 32 - 1) at none))

    pattern_at_place : (p : Pattern) → number patterns p ≡ Some place → p ≡ q
    pattern_at_place p at =
        pattern_at_its_number patterns p place at ∙ get_or_default patterns place p q (number_within patterns q place its) ∙ sym (pattern_at_its_number patterns q place its)

    module _ (keys : List Pattern) (keys_are : keys ≡ old.keys.items ++ q ∷ []) where
      pub number_of_new_pattern : (p : Pattern) → number patterns p ≡ Some place → number keys p ≡ Some old.count
      number_of_new_pattern p at =
          ap (λ (ks : List Pattern). number ks p) keys_are ∙ number_of_new_key old.keys.items q p (pattern_at_place p at) (pattern_had_no_number p at) ∙ ap (λ (n : ℕ). Some n) (sym given.count)

      -- another keeps what it has, a number or none
      number_of_other_pattern : (p : Pattern) → (p ≡ q → ⊥) → number keys p ≡ number old.keys.items p
      number_of_other_pattern p apart =
          ap (λ (ks : List Pattern). number ks p) keys_are ∙ go (number old.keys.items p) refl
        where
          go : (o : Option ℕ) → number old.keys.items p ≡ o → number (old.keys.items ++ q ∷ []) p ≡ o
          go None e = number_of_other_stays_none old.keys.items q p (false_from_ne_true (same_pattern p q) (λ same. apart (same_pattern_true p q same))) e
          go (Some list) e = number_stays old.keys.items q p list e

      unknown_pattern_differs : (p : Pattern) → number patterns p ≡ None → p ≡ q → ⊥
      unknown_pattern_differs p e same = none-some place (sym e ∙ ap (number patterns) same ∙ its)

      pattern_elsewhere_differs : (p : Pattern) (at : ℕ) → number patterns p ≡ Some at → (at ≡ place → ⊥) → p ≡ q → ⊥
      pattern_elsewhere_differs p at e apart same =
          apart (same_Some at place (sym e ∙ ap (number patterns) same ∙ its))

      module _ (numbers : List ℕ) (numbers_are : numbers ≡ slice_set old.numbers.items place old.count) where
        kept_after_new_number : (p : Pattern) (at : ℕ) → number patterns p ≡ Some at → slice_get numbers at ≡ Some (coded (number keys p))
        kept_after_new_number p at e = elim (cases_eq at place) [
          | inl same ↦
              let there : number patterns p ≡ Some place = e ∙ ap (λ (n : ℕ). Some n) same in
              ap (slice_get numbers) same ∙ ap (λ (ns : List ℕ). slice_get ns place) numbers_are ∙ slice_get_written_place old.numbers.items place old.count (slice_get_within old.numbers.items place (2 ^ 32 - 1) none) ∙ ap (λ (o : Option ℕ). Some (coded o)) (sym (number_of_new_pattern p there))
          | inr apart ↦
              ap (λ (ns : List ℕ). slice_get ns at) numbers_are ∙ slice_get_elsewhere old.numbers.items place at old.count apart ∙ given.numbers p at e ∙ ap (λ (o : Option ℕ). Some (coded o)) (sym (number_of_other_pattern p (pattern_elsewhere_differs p at e apart)))
        ]

    pub given_with_new_number : (now : ListOrder) → now.keys.items ≡ old.keys.items ++ q ∷ [] → now.numbers.items ≡ slice_set old.numbers.items place old.count → now.count ≡ old.count + 1 → AreGiven patterns now
    given_with_new_number now keys_are numbers_are count_is = record {
      numbers = kept_after_new_number now.keys.items keys_are now.numbers.items numbers_are;
      among = λ p e. number_of_other_pattern now.keys.items keys_are p (unknown_pattern_differs now.keys.items keys_are p e) ∙ given.among p e;
      one_each = ap length numbers_are ∙ length-set old.numbers.items place old.count ∙ given.one_each;
      count = omega (arith, count_is, given.count, ap length keys_are, length-append old.keys.items (q ∷ []));
    }

  -- what is kept at a pattern's place, where it is a number
  pub has_list_number_if_kept : (place kept : ℕ) → slice_get old.numbers.items place ≡ Some kept → (kept ≡ 2 ^ 32 - 1 → ⊥) → (p : Option Pattern) → list_number patterns p ≡ Some place → is_some (list_number old.keys.items p) ≡ true
  has_list_number_if_kept place kept at other None e = absurd (none-some place e)
  has_list_number_if_kept place kept at other (Some p) e = coded_number_is_some (number old.keys.items p) (λ is. other (kept_is_coded_number p place kept e at ∙ is))

  -- the place of a pattern is an index of the kept numbers
  pub pattern_place_within_numbers : (p : Option Pattern) (place : Option ℕ) → list_number patterns p ≡ place → IfSome place (λ (at : ℕ). at < length old.numbers.items)
  pattern_place_within_numbers p None e = tt
  pattern_place_within_numbers None (Some at) e = absurd (none-some at e)
  pattern_place_within_numbers (Some p) (Some at) e =
      let below = number_within patterns p at e in
      omega (arith, below, given.one_each)

-- two functions that agree on the elements of a list
map_by_equal_functions : {X Y : Type 0} (f g : X → Y) (xs : List X) → All (λ x. f x ≡ g x) xs → map f xs ≡ map g xs
map_by_equal_functions f g [] agree = refl
map_by_equal_functions f g (x ∷ xs) agree =
    ap₂ (λ y ys. y ∷ ys) (All-head (λ x. f x ≡ g x) x xs agree) (map_by_equal_functions f g xs (All-tail (λ x. f x ≡ g x) x xs agree))

module _ (patterns : List Pattern) (old new : ListOrder) (before : AreGiven patterns old) (now : AreGiven patterns new) (more : Grows old new) where
  -- growth changes no number of a pattern that has one exactly if it is among these
  number_unchanged_by_growth : (p : Option Pattern) → is_some (list_number old.keys.items p) ≡ is_some (list_number patterns p) → list_number new.keys.items p ≡ list_number old.keys.items p
  number_unchanged_by_growth None has = refl
  number_unchanged_by_growth (Some p) has = go (number old.keys.items p) (number patterns p) refl refl has
    where
      go : (o q : Option ℕ) → number old.keys.items p ≡ o → number patterns p ≡ q → is_some o ≡ is_some q → number new.keys.items p ≡ o
      go (Some list) q e f same = more.stays p list e
      go None None e f same = now.among p f
      go None (Some place) e f same = absurd (both_ways false refl same)

  module _ (plans : List Plan) (xs : List OpId) (each : HaveNumbers plans patterns old.keys.items xs) where
    own_lists_unchanged_by_growth : All (λ (x : OpId). own_list plans new.keys.items x ≡ own_list plans old.keys.items x) xs
    own_lists_unchanged_by_growth = All-weaker _ _ (λ x. number_unchanged_by_growth (own_pattern x (kind_at plans x))) xs each

    pub have_numbers_after_growth : HaveNumbers plans patterns new.keys.items xs
    have_numbers_after_growth = λ k d below. ap is_some (own_lists_unchanged_by_growth k d below) ∙ each k d below

    pub coded_lists_unchanged_by_growth : map (λ (x : OpId). coded (own_list plans new.keys.items x)) xs ≡ map (λ (x : OpId). coded (own_list plans old.keys.items x)) xs
    coded_lists_unchanged_by_growth = map_by_equal_functions _ _ xs (λ k d below. ap coded (own_lists_unchanged_by_growth k d below))

-- each receive has a list in turn
pub listed_by_given_numbers : (plans : List Plan) (patterns keys : List Pattern) → HaveNumbers plans patterns keys (operations plans) → AreListed plans patterns → AreListed plans keys
listed_by_given_numbers plans patterns keys each listed x r =
    let its = listed x r in
    let has = All-contains (λ (y : OpId). is_some (own_list plans keys y) ≡ is_some (own_list plans patterns y)) (operations plans) x each (kind_listed plans x _ r.kind) in
    go (own_list plans keys x) refl (has ∙ ap is_some (own_of_receive plans patterns x r ∙ its.is))
  where
    go : (o : Option ℕ) → own_list plans keys x ≡ o → is_some o ≡ true → IsListed plans keys x
    go None e has = absurd (both_ways false refl has)
    go (Some list) e has = record { list = list; is = sym (own_of_receive plans keys x r) ∙ e; within = own_list_within_keys plans keys x list e }

-- the pattern of a kind that a send takes
wild_pattern_asked : Wild → OpId → Option Kind → Option Pattern
wild_pattern_asked wild x (Some (Calc nanos)) = None
wild_pattern_asked wild x (Some (Send bytes to tag)) = Some (wild_pattern wild x.rank to tag)
wild_pattern_asked wild x (Some (Recv room from tag)) = None
wild_pattern_asked wild x None = None

wild_number_is_list_number : (keys : List Pattern) (wild : Wild) (x : OpId) (k : Option Kind) → wild_number keys wild x k ≡ list_number keys (wild_pattern_asked wild x k)
unfolding wild_pattern_asked
wild_number_is_list_number keys wild x (Some (Calc nanos)) = refl
wild_number_is_list_number keys wild x (Some (Send bytes to tag)) = refl
wild_number_is_list_number keys wild x (Some (Recv room from tag)) = refl
wild_number_is_list_number keys wild x None = refl

module _ (plans : List Plan) (patterns : List Pattern) (order : ListOrder) (given : AreGiven patterns order) (wild : Wild) (x : OpId) where
  pub wild_list_within_numbers : (place : Option ℕ) → place ≡ wild_list plans patterns wild x → IfSome place (λ (at : ℕ). at < length order.numbers.items)
  wild_list_within_numbers place is =
      pattern_place_within_numbers patterns order given (wild_pattern_asked wild x (kind_at plans x)) place (sym (is ∙ wild_number_is_list_number patterns wild x (kind_at plans x)))

  pub kept_is_coded_wild_list : (place : Option ℕ) (kept : ℕ) → place ≡ wild_list plans patterns wild x → ((ps : List Pattern) (p : Option Pattern) → AreGiven ps order → list_number ps p ≡ place → kept ≡ coded (list_number order.keys.items p)) → kept ≡ coded (wild_list plans order.keys.items wild x)
  kept_is_coded_wild_list place kept is reads =
      reads patterns (wild_pattern_asked wild x (kind_at plans x)) given (sym (is ∙ wild_number_is_list_number patterns wild x (kind_at plans x))) ∙ ap coded (sym (wild_number_is_list_number order.keys.items wild x (kind_at plans x)))

-- a test that no pattern passes is passed by none that has a number
pub none_given_passes : (patterns : List Pattern) (order : ListOrder) → AreGiven patterns order → (f : Pattern → Bool) → list_any f patterns ≡ false → list_any f order.keys.items ≡ false
none_given_passes patterns order given f none =
    list_any_none f keys (λ k d below. false_from_ne_true (f (get_or keys k d)) (λ passes. there (get_or keys k d) passes (number patterns (get_or keys k d)) refl (listed_pattern_has_number keys (get_or keys k d) k (get_or keys k d) (slice_get-get_or keys k d below) (same_pattern_itself (get_or keys k d)))))
  where
    keys : List Pattern
    keys = order.keys.items

    there : (q : Pattern) → f q ≡ true → (o : Option ℕ) → number patterns q ≡ o → (j : ℕ) × (number order.keys.items q ≡ Some j) → ⊥
    there q passes None e at = none-some at.0 (sym (given.among q e) ∙ at.1)
    there q passes (Some i) e at =
        both_ways (list_any f patterns) none (list_any_at f patterns i q (number_within patterns q i e) (ap f (sym (pattern_at_its_number patterns q i e)) ∙ passes))

-- the place of an operation's own pattern is an index of the patterns
pub own_list_within_patterns : (plans : List Plan) (patterns : List Pattern) (x : OpId) (place : Option ℕ) → place ≡ own_list plans patterns x → IfSome place (λ (at : ℕ). at < length patterns)
own_list_within_patterns plans patterns x None is = tt
own_list_within_patterns plans patterns x (Some at) is = own_list_within_keys plans patterns x at (sym is)
