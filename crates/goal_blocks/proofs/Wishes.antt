-- Values against what is wanted of them.
use Rattle.std.proofs.Common.{ℕ, zero, suc, ◌+◌, ◌<◌, ◌≤◌, ◌==◌, ◌&&◌, nat_lt, ◌≡◌, ◌⊎◌, Bool, true, false, [], ◌∷◌, length, map, get_or, if◌then◌else◌, refl, sym, ap, ◌∙◌, arith, subst, eq-eqb, ⊎_elim, ◌||◌}
use Rattle.std.specs.List.{range_with_len, list_all}
use Rattle.std.proofs.lemmas.Bool.{and_parts, eqb-true, true≢false, false_from_ne_true, le-ltb, lt-ltb, cases_eq}
use Rattle.std.proofs.lemmas.List.{same_lists, get_or_default}
use Rattle.std.proofs.lemmas.List.FromFn.{length-map-range_with_len, get_or-map-range_with_len}
use Rattle.goal_limits.specs.declared.collective.Collective.{Collective}
use Rattle.goal_blocks.specs.Values.{Contribution, Value, is_lower}
use Rattle.goal_blocks.specs.Collectives.{single, of_each, is_one, is_value, has_one, wanted, wanted_at}
use Rattle.goal_blocks.specs.Stored.{ComesFirst, IsSorted}

abbrev pub item_of : ℕ → ℕ → Contribution
item_of q item = record { rank = q; item = item }

pub is_one_means_equal : (c d : Contribution) → is_one c d ≡ true → c ≡ d
is_one_means_equal c d h =
    let parts = and_parts (c.rank == d.rank) (c.item == d.item) h in
    let ranks = eqb-true c.rank d.rank parts.0 in
    let items = eqb-true c.item d.item parts.1 in
    λ i. record { rank = ranks i; item = items i }

pub is_one_reflexive : (c : Contribution) → is_one c c ≡ true
is_one_reflexive c = go (c.rank == c.rank) (c.item == c.item) (eq-eqb c.rank c.rank refl) (eq-eqb c.item c.item refl)
  where
    go : (s t : Bool) → s ≡ true → t ≡ true → (s && t) ≡ true
    go true t e f = f
    go false t e f = e

pub value_equal : (v w : Value) → is_value v w ≡ true → v ≡ w
unfolding is_value
value_equal [] [] h = refl
value_equal [] (d ∷ w) h = absurd (true≢false (sym h))
value_equal (c ∷ v) [] h = absurd (true≢false (sym h))
value_equal (c ∷ v) (d ∷ w) h =
    let parts = and_parts (is_one c d) (is_value v w) h in
    let first = is_one_means_equal c d parts.0 in
    let rest = value_equal v w parts.1 in
    λ i. first i ∷ rest i

pub is_value_reflexive : (v : Value) → is_value v v ≡ true
unfolding is_value
is_value_reflexive [] = refl
is_value_reflexive (c ∷ v) = go (is_one c c) (is_value v v) (is_one_reflexive c) (is_value_reflexive v)
  where
    go : (s t : Bool) → s ≡ true → t ≡ true → (s && t) ≡ true
    go true t e f = f
    go false t e f = e

pub equal_is_value : (v w : Value) → v ≡ w → true ≡ is_value v w
equal_is_value v w e = subst (λ (x : Value). true ≡ is_value v x) e (sym (is_value_reflexive v))

pub different_is_not_value : (v w : Value) → (v ≡ w → ⊥) → false ≡ is_value v w
different_is_not_value v w ne = sym (false_from_ne_true (is_value v w) (λ t. ne (value_equal v w t)))

pub length_of_each : (n item : ℕ) → length (of_each n item) ≡ n
unfolding of_each
length_of_each n item = length-map-range_with_len (λ (q : ℕ). item_of q item) 0 n

pub of_each_single : of_each 1 0 ≡ single 0 0
unfolding of_each
of_each_single = refl

pub get_of_each : (n item k : ℕ) (d : Contribution) → k < n → get_or (of_each n item) k d ≡ item_of k item
unfolding of_each
get_of_each n item k d l = get_or-map-range_with_len (λ (q : ℕ). item_of q item) 0 n k k d l (omega arith)

-- a value of length n that has the contribution of rank k at each place k
pub is_of_each : (v : Value) (n item : ℕ) (e : Contribution) → length v ≡ n → ((k : ℕ) → k < n → get_or v k e ≡ item_of k item) → v ≡ of_each n item
is_of_each v n item e long each = same_lists v (of_each n item) (long ∙ sym (length_of_each n item)) (λ k d l. get_or_default v k d e l ∙ each k (omega (arith, l, long)) ∙ sym (get_of_each n item k d (omega (arith, l, long))))

-- a value that differs from it at a place
pub not_of_each : (v : Value) (n item k : ℕ) (d : Contribution) → k < n → (get_or v k d ≡ item_of k item → ⊥) → v ≡ of_each n item → ⊥
not_of_each v n item k d l ne e = ne (ap (λ (x : Value). get_or x k d) e ∙ get_of_each n item k d l)

-- tests of all of a list of contributions
pub each_item_passes : (test : Contribution → Bool) (from n : ℕ) → ((q : ℕ) → q < from + n → test (item_of q 0) ≡ true) → list_all test (map (λ (q : ℕ). item_of q 0) (range_with_len from n)) ≡ true
each_item_passes test from zero each = refl
each_item_passes test from (suc n) each = go (test (item_of from 0)) (list_all test (map (λ (q : ℕ). item_of q 0) (range_with_len (from + 1) n))) (each from (omega arith)) (each_item_passes test (from + 1) n (λ q l. each q (omega (arith, l))))
  where
    go : (s t : Bool) → s ≡ true → t ≡ true → (s && t) ≡ true
    go true t e f = f
    go false t e f = e

pub one_item_fails : (test : Contribution → Bool) (from n q : ℕ) → from ≤ q → q < from + n → test (item_of q 0) ≡ false → list_all test (map (λ (q : ℕ). item_of q 0) (range_with_len from n)) ≡ false
one_item_fails test from zero q low high lacks = absurd (omega (arith, low, high))
one_item_fails test from (suc n) q low high lacks = ⊎_elim (λ e. here (subst (λ (k : ℕ). test (item_of k 0) ≡ false) e lacks)) (λ ne. later (one_item_fails test (from + 1) n q (omega (arith, low, ne)) (omega (arith, high)) lacks)) (cases_eq q from)
  where
    here : test (item_of from 0) ≡ false → list_all test (map (λ (q : ℕ). item_of q 0) (range_with_len from (suc n))) ≡ false
    here e = ap (λ (b : Bool). b && list_all test (map (λ (q : ℕ). item_of q 0) (range_with_len (from + 1) n))) e

    later : list_all test (map (λ (q : ℕ). item_of q 0) (range_with_len (from + 1) n)) ≡ false → list_all test (map (λ (q : ℕ). item_of q 0) (range_with_len from (suc n))) ≡ false
    later e = go (test (item_of from 0)) e
      where
        go : (b : Bool) → list_all test (map (λ (q : ℕ). item_of q 0) (range_with_len (from + 1) n)) ≡ false → (b && list_all test (map (λ (q : ℕ). item_of q 0) (range_with_len (from + 1) n))) ≡ false
        go true f = f
        go false f = refl

pub has_each : (v : Value) (n : ℕ) → ((q : ℕ) → q < n → has_one v (item_of q 0) ≡ true) → true ≡ list_all (has_one v) (of_each n 0)
unfolding of_each
has_each v n each = sym (each_item_passes (has_one v) 0 n (λ q l. each q (omega (arith, l))))

pub lacks_one : (v : Value) (n q : ℕ) → q < n → has_one v (item_of q 0) ≡ false → false ≡ list_all (has_one v) (of_each n 0)
unfolding of_each
lacks_one v n q l lacks = sym (one_item_fails (has_one v) 0 n q (omega arith) (omega (arith, l)) lacks)

pub has_one_if_at_place : (v : Value) (k : ℕ) (c d : Contribution) → k < length v → get_or v k d ≡ c → has_one v c ≡ true
unfolding has_one
has_one_if_at_place [] k c d l e = absurd (omega (arith, l))
has_one_if_at_place (x ∷ v) zero c d l e = go (is_one c x) (subst (λ (y : Contribution). is_one c y ≡ true) (sym e) (is_one_reflexive c))
  where
    go : (b : Bool) → b ≡ true → (if b then true else has_one v c) ≡ true
    go true f = refl
    go false f = absurd (true≢false (sym f))
has_one_if_at_place (x ∷ v) (suc k) c d l e = go (is_one c x) (has_one_if_at_place v k c d (omega (arith, l)) e)
  where
    go : (b : Bool) → has_one v c ≡ true → (if b then true else has_one v c) ≡ true
    go true f = refl
    go false f = f

pub has_not_one_if_at_no_place : (v : Value) (c d : Contribution) → ((k : ℕ) → k < length v → get_or v k d ≡ c → ⊥) → has_one v c ≡ false
unfolding has_one
has_not_one_if_at_no_place [] c d none = refl
has_not_one_if_at_no_place (x ∷ v) c d none = go (is_one c x) refl (has_not_one_if_at_no_place v c d (λ k l e. none (suc k) (omega (arith, l)) e))
  where
    go : (b : Bool) → is_one c x ≡ b → has_one v c ≡ false → (if b then true else has_one v c) ≡ false
    go true f rest = absurd (none zero (omega arith) (sym (is_one_means_equal c x f)))
    go false f rest = rest

get_not_lower_than_first : (c : Contribution) (v : Value) (k : ℕ) (d : Contribution) → ComesFirst c v → k < length v → is_lower (get_or v k d) c ≡ false
get_not_lower_than_first c [] k d h l = absurd (omega (arith, l))
get_not_lower_than_first c (x ∷ v) zero d h l = h.0
get_not_lower_than_first c (x ∷ v) (suc k) d h l = get_not_lower_than_first c v k d h.1 (omega (arith, l))

-- of two places of a sorted value, the later is not lower
pub in_order : (v : Value) (j k : ℕ) (d : Contribution) → IsSorted v → j < k → k < length v → is_lower (get_or v k d) (get_or v j d) ≡ false
in_order [] j k d s b l = absurd (omega (arith, l))
in_order (x ∷ v) j zero d s b l = absurd (omega (arith, b))
in_order (x ∷ v) zero (suc k) d s b l = get_not_lower_than_first x v k d s.0 (omega (arith, l))
in_order (x ∷ v) (suc j) (suc k) d s b l = in_order v j k d s.1 (omega (arith, b)) (omega (arith, l))

lower_next : (q : ℕ) → is_lower (item_of q 0) (item_of (q + 1) 0) ≡ true
lower_next q = go (nat_lt q (q + 1)) (lt-ltb q (q + 1) (omega arith))
  where
    go : (b : Bool) → b ≡ true → (b || ((q == q + 1) && nat_lt 0 0)) ≡ true
    go true h = refl
    go false h = absurd (true≢false (sym h))

-- in a sorted value, the contribution of rank q + 1 is not at or before a place of that of rank q
pub next_is_later : (v : Value) (j k q : ℕ) (d : Contribution) → IsSorted v → j ≤ k → k < length v → get_or v k d ≡ item_of q 0 → get_or v j d ≡ item_of (q + 1) 0 → ⊥
next_is_later v j k q d s b l e f = ⊎_elim same earlier (cases_eq j k)
  where
    same : j ≡ k → ⊥
    same g =
        let both = ap (λ (c : Contribution). c.rank) (sym e ∙ ap (λ (n : ℕ). get_or v n d) (sym g) ∙ f) in
        omega (arith, both)

    earlier : (j ≡ k → ⊥) → ⊥
    earlier ne =
        let order = in_order v j k d s (omega (arith, b, ne)) l in
        let told : is_lower (item_of q 0) (item_of (q + 1) 0) ≡ false = subst (λ (c : Contribution). is_lower c (item_of (q + 1) 0) ≡ false) e (subst (λ (c : Contribution). is_lower (get_or v k d) c ≡ false) f order) in
        true≢false (sym (lower_next q) ∙ told)

-- nothing is wanted of ranks that do not exist
pub wanted_past : (what : Collective) (ranks r k : ℕ) (v : Value) → ranks ≤ r → wanted what ranks r k v ≡ true
unfolding wanted
wanted_past what ranks r k v l = go (nat_lt r ranks) (le-ltb r ranks l)
  where
    go : (b : Bool) → b ≡ false → (if b then wanted_at what ranks r k v else true) ≡ true
    go true e = absurd (true≢false e)
    go false e = refl

-- when `next` is found too, all ranks below next + 1 are found
pub found_up_to_next_rank : (v : Value) (next : ℕ) (i : ℕ) (c : Contribution) → i < length v → c ≡ get_or v i (item_of 0 0) → c.rank ≡ next → c.item ≡ 0 → ((q : ℕ) → q < next → has_one v (item_of q 0) ≡ true) → (q : ℕ) → q < next + 1 → has_one v (item_of q 0) ≡ true
found_up_to_next_rank v next i c l is rank item found q b = ⊎_elim here (λ ne. found q (omega (arith, b, ne))) (cases_eq q next)
  where
    here : q ≡ next → has_one v (item_of q 0) ≡ true
    here e = has_one_if_at_place v i (item_of q 0) (item_of 0 0) l (sym is ∙ (λ j. record { rank = (rank ∙ sym e) j; item = item j }))

pub place_of : (c : Contribution) (q : ℕ) → c.rank ≡ q → c.item ≡ 0 → c ≡ item_of q 0
place_of c q rank item = λ j. record { rank = rank j; item = item j }
