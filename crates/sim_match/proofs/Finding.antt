-- The first element of a list that passes a test.
use Rattle.std.proofs.Common.{ℕ, zero, suc, ◌<◌, ◌≡◌, ◌&&◌, ◌||◌, Bool, true, false, cond, List, [], ◌∷◌, ◌++◌, length, get_or, map, Option, Some, None, All, AllPairs, filter, find, refl, arith, sym, ap, ◌∙◌, append-nil, nat_lt, if◌then◌else◌}
use Rattle.std.specs.Option.{option_map}
use Rattle.std.proofs.lemmas.Bool.{cond-true, cond-false, lt-ltb, le-ltb}
use Rattle.std.proofs.lemmas.List.Elements.{All-head, All-tail, filter-append}
use Rattle.sim_match.specs.declared.match_list.MatchEntry.{MatchEntry}
use Rattle.sim_match.specs.MatchLists.{earlier}
use Rattle.goal_graph.proofs.ForCallers.{found_item_has_property}

module _ {X : Type 0} (p : X → Bool) where
  pub find_at_place : (xs : List X) (i : ℕ) (d : X) → i < length xs → p (get_or xs i d) ≡ true → ((k : ℕ) → k < i → p (get_or xs k d) ≡ false) → find p xs ≡ Some (get_or xs i d)
  find_at_place [] i d l e before = absurd (omega arith)
  find_at_place (y ∷ ys) zero d l e before = cond-true (p y) (Some y) (find p ys) e
  find_at_place (y ∷ ys) (suc i) d l e before =
      cond-false (p y) (Some y) (find p ys) (before 0 (omega arith)) ∙ find_at_place ys i d (omega arith) e (λ k b. before (suc k) (omega arith))

  pub find_none : (xs : List X) → All (λ x. p x ≡ false) xs → find p xs ≡ None
  find_none [] fails = refl
  find_none (y ∷ ys) fails =
      cond-false (p y) (Some y) (find p ys) (All-head (λ x. p x ≡ false) y ys fails) ∙ find_none ys (All-tail (λ x. p x ≡ false) y ys fails)

-- two tests that agree on the elements of a list find the same
pub find_by_equal_tests : {X : Type 0} (p q : X → Bool) (xs : List X) → All (λ x. p x ≡ q x) xs → find p xs ≡ find q xs
find_by_equal_tests p q [] agree = refl
find_by_equal_tests {X} p q (y ∷ ys) agree =
    ap (λ (b : Bool). cond b (Some y) (find p ys)) (All-head (λ x. p x ≡ q x) y ys agree) ∙ ap (λ (o : Option X). cond (q y) (Some y) o) (find_by_equal_tests p q ys (All-tail (λ x. p x ≡ q x) y ys agree))

-- finding in a filtered list is finding with both tests
pub find_filter : {X : Type 0} (f g : X → Bool) (xs : List X) → find g (filter f xs) ≡ find (λ x. g x && f x) xs
find_filter f g [] = refl
find_filter {X} f g (x ∷ xs) = go (f x) (g x) refl (find_filter f g xs)
  where
    go : (s t : Bool) → g x ≡ t → find g (filter f xs) ≡ find (λ y. g y && f y) xs → find g (cond s (x ∷ filter f xs) (filter f xs)) ≡ cond (t && s) (Some x) (find (λ y. g y && f y) xs)
    go true true e rest = cond-true (g x) (Some x) (find g (filter f xs)) e
    go true false e rest = cond-false (g x) (Some x) (find g (filter f xs)) e ∙ rest
    go false true e rest = rest
    go false false e rest = rest

-- finding in a mapped list is finding by the composed test
pub find_map : {X Y : Type 0} (f : X → Y) (p : Y → Bool) (xs : List X) → find p (map f xs) ≡ option_map f (find (λ x. p (f x)) xs)
find_map f p [] = refl
find_map {X} {Y} f p (x ∷ xs) = go (p (f x)) (find_map f p xs)
  where
    go : (b : Bool) → find p (map f xs) ≡ option_map f (find (λ y. p (f y)) xs) → cond b (Some (f x)) (find p (map f xs)) ≡ option_map f (cond b (Some x) (find (λ y. p (f y)) xs))
    go true rest = refl
    go false rest = rest

-- a last element that fails
pub filter_last_fails : {X : Type 0} (f : X → Bool) (xs : List X) (x : X) → f x ≡ false → filter f (xs ++ x ∷ []) ≡ filter f xs
filter_last_fails {X} f xs x e =
    filter-append f xs (x ∷ []) ∙ ap (λ (b : Bool). filter f xs ++ cond b (x ∷ []) []) e ∙ append-nil (filter f xs)

-- a last element that passes
pub filter_last_passes : {X : Type 0} (f : X → Bool) (xs : List X) (x : X) → f x ≡ true → filter f (xs ++ x ∷ []) ≡ filter f xs ++ x ∷ []
filter_last_passes {X} f xs x e =
    filter-append f xs (x ∷ []) ∙ ap (λ (b : Bool). filter f xs ++ cond b (x ∷ []) []) e

-- entries in the order of their posts and arrivals
abbrev pub InOrder : List MatchEntry → Type 0
InOrder es = AllPairs (λ (e f : MatchEntry). e.at < f.at) es

order_head : (e : MatchEntry) (es : List MatchEntry) → InOrder (e ∷ es) → All (λ (f : MatchEntry). e.at < f.at) es
order_head e es order k d b = order 0 (suc k) d (omega arith) (omega arith)

order_tail : (e : MatchEntry) (es : List MatchEntry) → InOrder (e ∷ es) → InOrder es
order_tail e es order i j d l b = order (suc i) (suc j) d (omega arith) (omega arith)

earlier_itself : (e : MatchEntry) → earlier (Some e) (Some e) ≡ Some e
earlier_itself e = go (nat_lt e.at e.at)
  where
    go : (b : Bool) → (if b then Some e else Some e) ≡ Some e
    go true = refl
    go false = refl

-- of the first of two kinds, the earlier is the first of either kind
pub find_either : (p q : MatchEntry → Bool) (es : List MatchEntry) → InOrder es → find (λ (e : MatchEntry). p e || q e) es ≡ earlier (find p es) (find q es)
find_either p q [] order = refl
find_either p q (e ∷ es) order = go (p e) (q e) (find_either p q es (order_tail e es order))
  where
    here_first : (o : Option MatchEntry) → ((z : MatchEntry) → o ≡ Some z → e.at < z.at) → Some e ≡ earlier (Some e) o
    here_first None late = refl
    here_first (Some z) late = sym (cond-false (nat_lt z.at e.at) (Some z) (Some e) (le-ltb z.at e.at (let l = late z refl in omega (arith, l))))

    here_second : (o : Option MatchEntry) → ((z : MatchEntry) → o ≡ Some z → e.at < z.at) → Some e ≡ earlier o (Some e)
    here_second None late = refl
    here_second (Some z) late = sym (cond-true (nat_lt e.at z.at) (Some e) (Some z) (lt-ltb e.at z.at (late z refl)))

    go : (s t : Bool) → find (λ (e : MatchEntry). p e || q e) es ≡ earlier (find p es) (find q es) → cond (s || t) (Some e) (find (λ (e : MatchEntry). p e || q e) es) ≡ earlier (cond s (Some e) (find p es)) (cond t (Some e) (find q es))
    go true true rest = sym (earlier_itself e)
    go true false rest = here_first (find q es) (λ z f. found_item_has_property (λ (f : MatchEntry). e.at < f.at) q es z (order_head e es order) f)
    go false true rest = here_second (find p es) (λ z f. found_item_has_property (λ (f : MatchEntry). e.at < f.at) p es z (order_head e es order) f)
    go false false rest = rest
