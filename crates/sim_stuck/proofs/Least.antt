-- What fits an operation is found by pattern.
use Rattle.std.proofs.Common.{ℕ, suc, length, drop, get_or, ◌≤◌, ◌≡◌, ◌||◌, Bool, true, false, cond, inl, inr, List, [], ◌∷◌, Option, Some, None, All, AllPairs, find, refl, arith, sym, ap, ap₂, ◌∙◌, subst}
use Rattle.std.specs.declared.cmp.Ordering.{Ordering}
use Rattle.std.specs.declared.cmp.Ordering.TheVariants.{Less, Equal, Greater}
use Rattle.std.specs.Ordering.{nat_cmp, ordering_then, is_lt}
use Rattle.std.specs.Cmp.{nat_cmp_is}
use Rattle.std.specs.BTreeMap.{get}
use Rattle.std.proofs.Math.Seq.{drop-cons}
use Rattle.goal_graph.specs.declared.action.OpId.{OpId}
use Rattle.goal_graph.specs.declared.plan.Kind.{Kind}
use Rattle.goal_graph.specs.declared.plan.Kind.TheVariants.{Calc, Send, Recv}
use Rattle.goal_graph.specs.Schedule.{Plan, kind_at}
use Rattle.goal_graph.specs.Matching.{fits, fits_kinds}
use Rattle.goal_graph.specs.Order.{IsBefore}
use Rattle.sim_match.specs.declared.pattern.Pattern.{Pattern}
use Rattle.sim_stuck.specs.declared.partner.Firsts.{Firsts}
use Rattle.goal_graph.specs.Keys.{op_cmp}
use Rattle.sim_match.specs.Patterns.{pattern_cmp}
use Rattle.sim_match.proofs.ForCallers.{pattern_cmp_is_eq}
use Rattle.sim_stuck.specs.Patterns.{is_for, is_by, least, AreFirsts}
use Rattle.sim_stuck.proofs.PatternFacts.{accepts_iff_one_of_four_patterns, exact_of, any_tag_of, any_source_of, any_of}
use Rattle.goal_graph.proofs.ForCallers.{found_item_has_property, find_agree}

find_nothing : {X : Type 0} (xs : List X) → find (λ (x : X). false) xs ≡ None
find_nothing [] = refl
find_nothing (x ∷ xs) = find_nothing xs

before_less : (x z : OpId) → IsBefore x z → Less ≡ op_cmp x z
before_less x z (inl l) = ap (λ (o : Ordering). ordering_then o (nat_cmp x.op z.op)) (nat_cmp_is x.rank z.rank Less l)
before_less x z (inr (e, l)) =
    nat_cmp_is x.op z.op Less l ∙ ap (λ (o : Ordering). ordering_then o (nat_cmp x.op z.op)) (nat_cmp_is x.rank z.rank Equal e)

after_greater : (x z : OpId) → IsBefore x z → Greater ≡ op_cmp z x
after_greater x z (inl l) = ap (λ (o : Ordering). ordering_then o (nat_cmp z.op x.op)) (nat_cmp_is z.rank x.rank Greater l)
after_greater x z (inr (e, l)) =
    nat_cmp_is z.op x.op Greater l ∙ ap (λ (o : Ordering). ordering_then o (nat_cmp z.op x.op)) (nat_cmp_is z.rank x.rank Equal (sym e))

order_head : (e : OpId) (es : List OpId) → AllPairs IsBefore (e ∷ es) → All (IsBefore e) es
order_head e es order k d b = order 0 (suc k) d (omega arith) (omega arith)

order_tail : (e : OpId) (es : List OpId) → AllPairs IsBefore (e ∷ es) → AllPairs IsBefore es
order_tail e es order i j d l b = order (suc i) (suc j) d (omega arith) (omega arith)

-- the first element that passes one of two tests is the lesser of the first of each
find_either : (p q : OpId → Bool) (es : List OpId) → AllPairs IsBefore es → find (λ (e : OpId). p e || q e) es ≡ least (find p es) (find q es)
find_either p q [] order = refl
find_either p q (e ∷ es) order = go (p e) (q e) (find_either p q es (order_tail e es order))
  where
    itself : (b : Bool) → Some e ≡ cond b (Some e) (Some e)
    itself true = refl
    itself false = refl

    here_first : (o : Option OpId) → ((z : OpId) → o ≡ Some z → IsBefore e z) → Some e ≡ least (Some e) o
    here_first None late = refl
    here_first (Some z) late = ap (λ (r : Ordering). cond (is_lt r) (Some z) (Some e)) (after_greater e z (late z refl))

    here_second : (o : Option OpId) → ((z : OpId) → o ≡ Some z → IsBefore e z) → Some e ≡ least o (Some e)
    here_second None late = refl
    here_second (Some z) late = ap (λ (r : Ordering). cond (is_lt r) (Some e) (Some z)) (before_less e z (late z refl))

    go : (s t : Bool) → find (λ (e : OpId). p e || q e) es ≡ least (find p es) (find q es) → cond (s || t) (Some e) (find (λ (e : OpId). p e || q e) es) ≡ least (cond s (Some e) (find p es)) (cond t (Some e) (find q es))
    go true true rest = itself (is_lt (op_cmp e e))
    go true false rest = here_first (find q es) (λ z f. found_item_has_property (IsBefore e) q es z (order_head e es order) f)
    go false true rest = here_second (find p es) (λ z f. found_item_has_property (IsBefore e) p es z (order_head e es order) f)
    go false false rest = rest

module _ (plans : List Plan) (ids : List OpId) (firsts : Firsts) (are : AreFirsts plans ids firsts) (x : OpId) where
  -- the first send for a receive
  pub send_found : (room : ℕ) (from tag : Option ℕ) → kind_at plans x ≡ Some (Recv room from tag)
      → get pattern_cmp firsts.sends (record { rank = x.rank; from = from; tag = tag }) ≡ find (λ (y : OpId). fits plans x y || fits plans y x) ids
  unfolding fits
  send_found room from tag is =
      are.sends asked ∙ find_agree (λ (y : OpId). is_for asked y (kind_at plans y)) (λ (y : OpId). fits plans x y || fits plans y x) (λ y. at y (kind_at plans y) ∙ ap (λ (k : Option Kind). fits_kinds x k y (kind_at plans y) || fits_kinds y (kind_at plans y) x k) (sym is)) ids
    where
      asked : Pattern
      asked = record { rank = x.rank; from = from; tag = tag }

      or_false : (b : Bool) → b ≡ (b || false)
      or_false true = refl
      or_false false = refl

      at : (y : OpId) (k : Option Kind) → is_for (record { rank = x.rank; from = from; tag = tag }) y k ≡ (fits_kinds x (Some (Recv room from tag)) y k || fits_kinds y k x (Some (Recv room from tag)))
      at y None = refl
      at y (Some (Calc nanos)) = refl
      at y (Some (Send bytes to with_tag)) = or_false _
      at y (Some (Recv other source wanted)) = refl

  -- the first receive for a send
  pub receive_found : (bytes to tag : ℕ) → AllPairs IsBefore ids → kind_at plans x ≡ Some (Send bytes to tag)
      → least (least (get pattern_cmp firsts.receives (exact_of x.rank to tag)) (get pattern_cmp firsts.receives (any_tag_of x.rank to))) (least (get pattern_cmp firsts.receives (any_source_of to tag)) (get pattern_cmp firsts.receives (any_of to))) ≡ find (λ (y : OpId). fits plans x y || fits plans y x) ids
  unfolding fits
  receive_found bytes to tag order is =
      ap₂ least (ap₂ least (are.receives e) (are.receives t) ∙ sym (find_either (by e) (by t) ids order)) (ap₂ least (are.receives s) (are.receives a) ∙ sym (find_either (by s) (by a) ids order))
      ∙ sym (find_either (λ (y : OpId). by e y || by t y) (λ (y : OpId). by s y || by a y) ids order)
      ∙ find_agree (λ (y : OpId). (by e y || by t y) || (by s y || by a y)) (λ (y : OpId). fits plans x y || fits plans y x) (λ y. at y (kind_at plans y) ∙ ap (λ (k : Option Kind). fits_kinds x k y (kind_at plans y) || fits_kinds y (kind_at plans y) x k) (sym is)) ids
    where
      e : Pattern
      e = exact_of x.rank to tag

      t : Pattern
      t = any_tag_of x.rank to

      s : Pattern
      s = any_source_of to tag

      a : Pattern
      a = any_of to

      by : Pattern → OpId → Bool
      by p y = is_by p y (kind_at plans y)

      at : (y : OpId) (k : Option Kind) → ((is_by e y k || is_by t y k) || (is_by s y k || is_by a y k)) ≡ (fits_kinds x (Some (Send bytes to tag)) y k || fits_kinds y k x (Some (Send bytes to tag)))
      at y None = refl
      at y (Some (Calc nanos)) = refl
      at y (Some (Send other target with_tag)) = refl
      at y (Some (Recv room from wanted)) =
          ap₂ (λ (b c : Bool). b || c) (ap₂ (λ (b c : Bool). b || c) (pattern_cmp_is_eq q e) (pattern_cmp_is_eq q t)) (ap₂ (λ (b c : Bool). b || c) (pattern_cmp_is_eq q s) (pattern_cmp_is_eq q a)) ∙ sym (accepts_iff_one_of_four_patterns q x.rank to tag)
        where
          q : Pattern
          q = record { rank = y.rank; from = from; tag = wanted }

  -- no operation fits a calculation
  pub nothing_fits_calc : (nanos : ℕ) → kind_at plans x ≡ Some (Calc nanos) → None ≡ find (λ (y : OpId). fits plans x y || fits plans y x) ids
  unfolding fits
  nothing_fits_calc nanos is =
      sym (find_nothing ids) ∙ find_agree (λ (y : OpId). false) (λ (y : OpId). fits plans x y || fits plans y x) (λ y. at y (kind_at plans y) ∙ ap (λ (k : Option Kind). fits_kinds x k y (kind_at plans y) || fits_kinds y (kind_at plans y) x k) (sym is)) ids
    where
      at : (y : OpId) (k : Option Kind) → false ≡ (fits_kinds x (Some (Calc nanos)) y k || fits_kinds y k x (Some (Calc nanos)))
      at y None = refl
      at y (Some (Calc other)) = refl
      at y (Some (Send bytes to with_tag)) = refl
      at y (Some (Recv room from tag)) = refl

-- one operation before the others
pub firsts_after_put : (plans : List Plan) (ids : List OpId) (i n : ℕ) (d : OpId) (kind : Kind) (old new : Firsts) → n ≡ suc i → n ≤ length ids → AreFirsts plans (drop n ids) old
    → kind_at plans (get_or ids i d) ≡ Some kind
    → ((q : Pattern) → get pattern_cmp new.sends q ≡ cond (is_for q (get_or ids i d) (Some kind)) (Some (get_or ids i d)) (get pattern_cmp old.sends q))
    → ((q : Pattern) → get pattern_cmp new.receives q ≡ cond (is_by q (get_or ids i d) (Some kind)) (Some (get_or ids i d)) (get pattern_cmp old.receives q))
    → AreFirsts plans (drop i ids) new
firsts_after_put plans ids i n d kind old new next within were is sends receives =
    subst (λ (xs : List OpId). AreFirsts plans xs new) (sym (drop-cons ids i d (omega (arith, next, within)))) (record {
      sends = λ q. sends q ∙ ap₂ (λ (k : Option Kind) (o : Option OpId). cond (is_for q (get_or ids i d) k) (Some (get_or ids i d)) o) (sym is) (are.sends q);
      receives = λ q. receives q ∙ ap₂ (λ (k : Option Kind) (o : Option OpId). cond (is_by q (get_or ids i d) k) (Some (get_or ids i d)) o) (sym is) (are.receives q);
    })
  where
    are : AreFirsts plans (drop (suc i) ids) old
    are = subst (λ (k : ℕ). AreFirsts plans (drop k ids) old) next were
