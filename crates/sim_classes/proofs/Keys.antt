-- The keys of the map of pairs of nodes.
use Rattle.std.proofs.Common.{ℕ, ◌≡◌, ◌==◌, ◌&&◌, ◌<◌, ◌≤◌, nat_lt, Bool, true, false, cond, Some, None, if◌then◌else◌, refl, sym, ap, ◌∙◌, subst, arith, eq-eqb}
use Rattle.std.specs.Ordering.{nat_cmp}
use Rattle.std.specs.BTreeMap.{BTreeMap, get, is_at}
use Rattle.std.proofs.lemmas.Bool.{and_parts, both_ways, eqb-true, false_from_ne_true, le-ltb, lt-ltb, ltb-true, ltb-false}
use Rattle.goal_graph.proofs.ForCallers.{nat_cmp_is_eq, eqb-swapped}
use Rattle.sim_classes.specs.Parts.{pair_key, pair_class_by}
use Rattle.sim_classes.specs.Form.{with_pair_class}

same_key : (a b x y : ℕ) → b < 4294967296 → y < 4294967296 → is_at (nat_cmp (pair_key a b)) (pair_key x y) ≡ ((x == a) && (y == b))
same_key a b x y small low = nat_cmp_is_eq (pair_key a b) (pair_key x y) ∙ eqb-swapped (pair_key a b) (pair_key x y) ∙ go (x == a) (y == b) refl refl
  where
    go : (s t : Bool) → (x == a) ≡ s → (y == b) ≡ t → (pair_key x y == pair_key a b) ≡ (s && t)
    go true true e f = eq-eqb (pair_key x y) (pair_key a b) (omega (arith, eqb-true x a e, eqb-true y b f))
    go true false e f = false_from_ne_true (pair_key x y == pair_key a b) (λ k. both_ways (y == b) f (eq-eqb y b (omega (arith, eqb-true (pair_key x y) (pair_key a b) k, small, low))))
    go false t e f = false_from_ne_true (pair_key x y == pair_key a b) (λ k. both_ways (x == a) e (eq-eqb x a (omega (arith, eqb-true (pair_key x y) (pair_key a b) k, small, low))))

-- the class that a map gives is the value at the key
pub pair_class_low : (m : BTreeMap ℕ ℕ) (x y : ℕ) → y < 4294967296 → pair_class_by m.entries x y ≡ get nat_cmp m (pair_key x y)
pair_class_low m x y low = rw (lt-ltb y 4294967296 low) refl

pair_class_high : (m : BTreeMap ℕ ℕ) (x y : ℕ) → 4294967296 ≤ y → pair_class_by m.entries x y ≡ None
pair_class_high m x y high = rw (le-ltb y 4294967296 high) refl

-- the class that a map gives after a pair was inserted
pub pair_class_after : (m n : BTreeMap ℕ ℕ) (a b key class : ℕ) → key ≡ pair_key a b → b < 4294967296 → ((q : ℕ) → get nat_cmp n q ≡ cond (is_at (nat_cmp key) q) (Some class) (get nat_cmp m q)) → (x y : ℕ) → pair_class_by n.entries x y ≡ with_pair_class (pair_class_by m.entries) a b class x y
pair_class_after m n a b key class is small updates x y = go (nat_lt y 4294967296) refl
  where
    mid : y < 4294967296 → (t : Bool) → is_at (nat_cmp key) (pair_key x y) ≡ t → cond (is_at (nat_cmp key) (pair_key x y)) (Some class) (get nat_cmp m (pair_key x y)) ≡ (if t then Some class else pair_class_by m.entries x y)
    mid low true e = rw e refl
    mid low false e = rw e (sym (pair_class_low m x y low))

    far : nat_lt y 4294967296 ≡ false → (t : Bool) → ((x == a) && (y == b)) ≡ t → None ≡ (if t then Some class else pair_class_by m.entries x y)
    far e true f = absurd (both_ways (nat_lt y 4294967296) e (lt-ltb y 4294967296 (let same = eqb-true y b (and_parts (x == a) (y == b) f).1 in omega (arith, same, small))))
    far e false f = sym (pair_class_high m x y (ltb-false y 4294967296 e))

    go : (t : Bool) → nat_lt y 4294967296 ≡ t → pair_class_by n.entries x y ≡ with_pair_class (pair_class_by m.entries) a b class x y
    go true e = let low = ltb-true y 4294967296 e in
        pair_class_low n x y low ∙ updates (pair_key x y) ∙ mid low ((x == a) && (y == b)) (ap (λ (k : ℕ). is_at (nat_cmp k) (pair_key x y)) is ∙ same_key a b x y small low)
    go false e = pair_class_high n x y (ltb-false y 4294967296 e) ∙ far e ((x == a) && (y == b)) refl

-- each class of the map exists, if the new one does
pub pair_class_within : (m n : BTreeMap ℕ ℕ) (a b class limit : ℕ) → ((x y : ℕ) → pair_class_by n.entries x y ≡ with_pair_class (pair_class_by m.entries) a b class x y) → class < limit → ((x y c : ℕ) → pair_class_by m.entries x y ≡ Some c → c < limit) → (x y c : ℕ) → pair_class_by n.entries x y ≡ Some c → c < limit
pair_class_within m n a b class limit after low before x y c is = go ((x == a) && (y == b)) (sym (after x y) ∙ is)
  where
    go : (t : Bool) → (if t then Some class else pair_class_by m.entries x y) ≡ Some c → c < limit
    go true e = subst (λ (k : ℕ). k < limit) (cc e) low
    go false e = before x y c e
