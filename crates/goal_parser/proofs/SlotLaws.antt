-- Labels that are defined and used, one after another.
use Rattle.std.proofs.Common.{◌≡◌, ℕ, ◌+◌, ◌<◌, ◌≤◌, Bool, true, false, cond, List, [], ◌∷◌, ◌++◌, Option, Some, None, length, get_or, slice_get, take, zero, suc, rules, refl, sym, ap, subst, ◌∙◌, arith, bytes_eq, is_some, if◌then◌else◌, length-append}
use Rattle.std.specs.Option.{option_or}
use Rattle.std.specs.Map.{lookup, keys_of}
use Rattle.std.proofs.lemmas.Bool.{false≢true}
use Rattle.std.proofs.lemmas.Cmp.{nat_list_eq_equiv}
use Rattle.std.proofs.lemmas.Slice.Eq.{bytes_eq-Decides}
use Rattle.std.proofs.lemmas.Option.{slice_get-map, get_or_from_slice_get, slice_get_within}
use Rattle.std.proofs.lemmas.List.{take_more, take_all}
use Rattle.std.proofs.Math.ListN.{get_or-append}
use Rattle.goal_labels.specs.Entries.{put}
use Rattle.goal_labels.specs.declared.label_map.LabelInfo.{LabelInfo}
use Rattle.goal_parser.specs.declared.head.Mention.{Mention}
use Rattle.goal_parser.specs.Items.{Definition, defined_as, is_defined, first_outside, first_unknown}
use Rattle.goal_parser.specs.Slots.{Entries, op_in, op_by, first_by, label_at, Keeps, Grows}

pub option_or-none : {A : Type 0} (a : Option A) → option_or a None ≡ a
option_or-none None = refl
option_or-none (Some x) = refl

-- another element at the end

first_by-append : (test : List ℕ → Bool) (es : Entries) (e : List ℕ × LabelInfo) → first_by test (es ++ e ∷ []) ≡ option_or (first_by test es) (if test e.0 then None else Some e.1.at)
unfolding first_by
first_by-append test [] e = refl
first_by-append test (f ∷ es) e = by (test f.0) (first_by-append test es e)
  where
    by : (b : Bool) → first_by test (es ++ e ∷ []) ≡ option_or (first_by test es) (if test e.0 then None else Some e.1.at)
        → (if b then first_by test (es ++ e ∷ []) else Some f.1.at) ≡ option_or (if b then first_by test es else Some f.1.at) (if test e.0 then None else Some e.1.at)
    by true rest = rest
    by false rest = refl

first_outside-append : (test : List ℕ → Bool) (us : List Mention) (u : Mention) → first_outside test (us ++ u ∷ []) ≡ option_or (first_outside test us) (if test u.label then None else Some u.at)
unfolding first_outside
first_outside-append test [] u = refl
first_outside-append test (f ∷ us) u = by (test f.label) (first_outside-append test us u)
  where
    by : (b : Bool) → first_outside test (us ++ u ∷ []) ≡ option_or (first_outside test us) (if test u.label then None else Some u.at)
        → (if b then first_outside test (us ++ u ∷ []) else Some f.at) ≡ option_or (if b then first_outside test us else Some f.at) (if test u.label then None else Some u.at)
    by true rest = rest
    by false rest = refl

pub defined_as-append : (ds : List Definition) (d : Definition) (q : List ℕ) → defined_as (ds ++ d ∷ []) q ≡ option_or (defined_as ds q) (if bytes_eq q d.label then Some d.op else None)
unfolding defined_as
defined_as-append [] d q = refl
defined_as-append (f ∷ ds) d q = by (bytes_eq q f.label) (defined_as-append ds d q)
  where
    by : (b : Bool) → defined_as (ds ++ d ∷ []) q ≡ option_or (defined_as ds q) (if bytes_eq q d.label then Some d.op else None)
        → (if b then Some f.op else defined_as (ds ++ d ∷ []) q) ≡ option_or (if b then Some f.op else defined_as ds q) (if bytes_eq q d.label then Some d.op else None)
    by true rest = refl
    by false rest = rest

-- an entry that is put in

module _ (x : List ℕ) (v : LabelInfo) where
  put-absent : (es : Entries) → lookup (bytes_eq x) es ≡ None → put es x v ≡ es ++ (x, v) ∷ []
  put-absent [] none = refl
  put-absent (e ∷ es) none = by (bytes_eq x e.0) none (put-absent es)
    where
      by : (b : Bool) → cond b (Some e.1) (lookup (bytes_eq x) es) ≡ None → (lookup (bytes_eq x) es ≡ None → put es x v ≡ es ++ (x, v) ∷ [])
          → (if b then (e.0, v) ∷ es else e ∷ put es x v) ≡ e ∷ (es ++ (x, v) ∷ [])
      by true h rest = cc
      by false h rest = ap (λ l. e ∷ l) (rest h)

  -- a label that passes the test does not change the first one that fails it
  first_by-present : (test : List ℕ → Bool) (es : Entries) (s : LabelInfo) → ((q : List ℕ) → bytes_eq x q ≡ true → q ≡ x) → lookup (bytes_eq x) es ≡ Some s → test x ≡ true
      → first_by test (put es x v) ≡ first_by test es
  unfolding first_by
  first_by-present test [] s exact there passes = cc
  first_by-present test (e ∷ es) s exact there passes = by (bytes_eq x e.0) refl there (λ h. first_by-present test es s exact h passes)
    where
      by : (b : Bool) → bytes_eq x e.0 ≡ b → cond b (Some e.1) (lookup (bytes_eq x) es) ≡ Some s → (lookup (bytes_eq x) es ≡ Some s → first_by test (put es x v) ≡ first_by test es)
          → first_by test (if b then (e.0, v) ∷ es else e ∷ put es x v) ≡ first_by test (e ∷ es)
      by true q h rest =
          let passed : test e.0 ≡ true = ap test (exact e.0 q) ∙ passes in
          ap (λ (b : Bool). if b then first_by test es else Some v.at) passed ∙ sym (ap (λ (b : Bool). if b then first_by test es else Some e.1.at) passed)
      by false q h rest = ap (λ r. if test e.0 then r else Some e.1.at) (rest h)

  -- where its label fails a test, some label fails it
  first_by-some : (test : List ℕ → Bool) (es : Entries) (s : LabelInfo) → ((q : List ℕ) → bytes_eq x q ≡ true → q ≡ x) → lookup (bytes_eq x) es ≡ Some s → test x ≡ false → is_some (first_by test es) ≡ true
  unfolding first_by
  first_by-some test [] s exact there fails = cc
  first_by-some test (e ∷ es) s exact there fails = by (bytes_eq x e.0) refl there (λ h. first_by-some test es s exact h fails)
    where
      at_test : (b : Bool) → (is_some (first_by test es) ≡ true) → is_some (if b then first_by test es else Some e.1.at) ≡ true
      at_test true h = h
      at_test false h = refl

      by : (b : Bool) → bytes_eq x e.0 ≡ b → cond b (Some e.1) (lookup (bytes_eq x) es) ≡ Some s → (lookup (bytes_eq x) es ≡ Some s → is_some (first_by test es) ≡ true)
          → is_some (if test e.0 then first_by test es else Some e.1.at) ≡ true
      by true q h rest = subst (λ b. is_some (if b then first_by test es else Some e.1.at) ≡ true) (sym (ap test (exact e.0 q) ∙ fails)) refl
      by false q h rest = at_test (test e.0) (rest h)

bytes_eq_exact : (x q : List ℕ) → bytes_eq x q ≡ true → q ≡ x
bytes_eq_exact x q h = sym ((bytes_eq-Decides x q).0 h)

-- labels by their slots

pub label_of_entry : (es : Entries) (i : ℕ) (k : List ℕ) (v : LabelInfo) → slice_get es i ≡ Some (k, v) → (i < length es) × (label_at es i ≡ k)
unfolding label_at
label_of_entry es i k v h =
    (slice_get_within es i (k, v) h, get_or_from_slice_get (keys_of es) i k [] (slice_get-map (λ (e : List ℕ × LabelInfo). e.0) es i ∙ ap (λ (o : Option (List ℕ × LabelInfo)). elim o [ None ↦ None | Some e ↦ Some e.0 ]) h))

length-keys : (es : Entries) → length (keys_of es) ≡ length es
length-keys [] = refl
length-keys (e ∷ es) = ap (λ n. suc n) (length-keys es)

pub Grows-same : (es : Entries) → Grows es es
Grows-same es = record { more = omega arith; labels = λ i h. refl }

Grows-by_keys : (es fs : Entries) (more : List (List ℕ)) → keys_of fs ≡ keys_of es ++ more → Grows es fs
unfolding label_at
Grows-by_keys es fs more same = record {
  more = omega (arith, length-keys es, length-keys fs, ap length same, length-append (keys_of es) more);
  labels = λ i h. ap (λ ks. get_or ks i []) same ∙ get_or-append (keys_of es) more [] i (omega (arith, length-keys es));
}

keys_put : (es : Entries) (x : List ℕ) (v : LabelInfo) → (more : List (List ℕ)) × (keys_of (put es x v) ≡ keys_of es ++ more)
keys_put [] x v = (x ∷ [], refl)
keys_put (e ∷ es) x v = by (bytes_eq x e.0) (keys_put es x v)
  where
    by : (b : Bool) → (more : List (List ℕ)) × (keys_of (put es x v) ≡ keys_of es ++ more)
        → (more : List (List ℕ)) × (keys_of (if b then (e.0, v) ∷ es else e ∷ put es x v) ≡ e.0 ∷ (keys_of es ++ more))
    by true rest = ([], search (rules))
    by false rest = (rest.0, ap (λ ks. e.0 ∷ ks) rest.1)

pub Grows-put : (es fs : Entries) (x : List ℕ) (v : LabelInfo) → fs ≡ put es x v → Grows es fs
Grows-put es fs x v same = Grows-by_keys es fs (keys_put es x v).0 (ap keys_of same ∙ (keys_put es x v).1)

-- what a lookup finds after that
pub lookup-put : (es : Entries) (x : List ℕ) (v : LabelInfo) (q : List ℕ) → lookup (bytes_eq q) (put es x v) ≡ cond (bytes_eq x q) (Some v) (lookup (bytes_eq q) es)
lookup-put [] x v q = ap (λ b. cond b (Some v) None) (nat_list_eq_equiv.symm q x)
lookup-put (e ∷ es) x v q = by (bytes_eq x e.0) refl (lookup-put es x v q)
  where
    after : (b c : Bool) (o : Option LabelInfo) → (b ≡ true → c ≡ true → ⊥) → cond c (Some e.1) (cond b (Some v) o) ≡ cond b (Some v) (cond c (Some e.1) o)
    after true true o apart = absurd (apart refl refl)
    after true false o apart = refl
    after false c o apart = refl

    twice : (b : Bool) (o : Option LabelInfo) → cond b (Some v) o ≡ cond b (Some v) (cond b (Some e.1) o)
    twice true o = refl
    twice false o = refl

    by : (b : Bool) → bytes_eq x e.0 ≡ b → lookup (bytes_eq q) (put es x v) ≡ cond (bytes_eq x q) (Some v) (lookup (bytes_eq q) es)
        → lookup (bytes_eq q) (if b then (e.0, v) ∷ es else e ∷ put es x v) ≡ cond (bytes_eq x q) (Some v) (cond (bytes_eq q e.0) (Some e.1) (lookup (bytes_eq q) es))
    by true h rest =
        let same : bytes_eq q e.0 ≡ bytes_eq x q = ap (bytes_eq q) (bytes_eq_exact x e.0 h) ∙ nat_list_eq_equiv.symm q x in
        ap (λ b. cond b (Some v) (lookup (bytes_eq q) es)) same ∙ twice (bytes_eq x q) (lookup (bytes_eq q) es)
        ∙ ap (λ b. cond (bytes_eq x q) (Some v) (cond b (Some e.1) (lookup (bytes_eq q) es))) (sym same)
    by false h rest =
        ap (cond (bytes_eq q e.0) (Some e.1)) rest
        ∙ after (bytes_eq x q) (bytes_eq q e.0) (lookup (bytes_eq q) es) (λ one two. false≢true (sym h ∙ ap (λ k. bytes_eq k e.0) (sym (bytes_eq_exact x q one)) ∙ two))

pub lookup_after_put : (es fs : Entries) (x : List ℕ) (v : LabelInfo) → fs ≡ put es x v → (q : List ℕ) → lookup (bytes_eq q) fs ≡ cond (bytes_eq x q) (Some v) (lookup (bytes_eq q) es)
lookup_after_put es fs x v same q = ap (lookup (bytes_eq q)) same ∙ lookup-put es x v q

-- what the slots know

option_or-some : {A : Type 0} (a b : Option A) → is_some a ≡ true → option_or a b ≡ a
option_or-some None b h = cc
option_or-some (Some x) b h = refl

pub Keeps-empty : (es : Entries) → es ≡ [] → Keeps es [] []
unfolding op_by first_by first_outside defined_as
Keeps-empty es none = record {
  numbers = λ q. ap (λ (l : Entries). op_in (lookup (bytes_eq q) l)) none;
  firsts = λ test all. ap (first_by test) none;
}

-- a known label is used again
pub Keeps-again : (es : Entries) (ds : List Definition) (us : List Mention) (u : Mention) (s : LabelInfo) → lookup (bytes_eq u.label) es ≡ Some s → Keeps es ds us → Keeps es ds (us ++ u ∷ [])
Keeps-again es ds us u s there k = record { numbers = k.numbers; firsts = λ test all. by test (test u.label) refl (k.firsts test all) ∙ sym (first_outside-append test us u) }
  where
    by : (test : List ℕ → Bool) (b : Bool) → test u.label ≡ b → first_by test es ≡ first_outside test us → first_by test es ≡ option_or (first_outside test us) (if b then None else Some u.at)
    by test true q h = h ∙ sym (option_or-none (first_outside test us))
    by test false q h =
        let some : is_some (first_outside test us) ≡ true = subst (λ o. is_some o ≡ true) h (first_by-some u.label s test es s (bytes_eq_exact u.label) there q) in
        h ∙ sym (option_or-some (first_outside test us) (Some u.at) some)

undefined_has_none : (ds : List Definition) (x : List ℕ) → is_defined ds x ≡ false → defined_as ds x ≡ None
undefined_has_none ds x h = by (defined_as ds x) h
  where
    by : (o : Option ℕ) → is_some o ≡ false → o ≡ None
    by None h = refl
    by (Some n) h = cc

-- a new label is used
pub Keeps-used : (es fs : Entries) (ds : List Definition) (us : List Mention) (u : Mention) → lookup (bytes_eq u.label) es ≡ None
    → fs ≡ put es u.label (record { op = None; at = u.at }) → ((q : List ℕ) → lookup (bytes_eq q) fs ≡ cond (bytes_eq u.label q) (Some (record { op = None; at = u.at })) (lookup (bytes_eq q) es))
    → Keeps es ds us → Keeps fs ds (us ++ u ∷ [])
unfolding op_by
Keeps-used es fs ds us u none is_put updated k = record {
  numbers = λ q. ap op_in (updated q) ∙ by q (bytes_eq u.label q) refl;
  firsts = λ test all. ap (first_by test) (is_put ∙ put-absent u.label (record { op = None; at = u.at }) es none)
      ∙ first_by-append test es (u.label, record { op = None; at = u.at })
      ∙ ap (λ o. option_or o (if test u.label then None else Some u.at)) (k.firsts test all)
      ∙ sym (first_outside-append test us u);
}
  where
    by : (q : List ℕ) (b : Bool) → bytes_eq u.label q ≡ b → op_in (cond b (Some (record { op = None; at = u.at })) (lookup (bytes_eq q) es)) ≡ defined_as ds q
    by q true h = subst (λ z. None ≡ defined_as ds z) (sym (bytes_eq_exact u.label q h)) (sym (ap op_in none) ∙ k.numbers u.label)
    by q false h = k.numbers q

stays_defined : (ds : List Definition) (d : Definition) (q : List ℕ) → is_defined ds q ≡ true → is_defined (ds ++ d ∷ []) q ≡ true
stays_defined ds d q h = ap is_some (defined_as-append ds d q) ∙ by (defined_as ds q) (if bytes_eq q d.label then Some d.op else None) h
  where
    by : (a b : Option ℕ) → is_some a ≡ true → is_some (option_or a b) ≡ true
    by None b h = cc
    by (Some n) b h = refl

defined_with_newest : (ds : List Definition) (x : List ℕ) (op : ℕ) → is_defined (ds ++ record { label = x; op = op } ∷ []) x ≡ true
defined_with_newest ds x op = ap is_some (defined_as-append ds (record { label = x; op = op }) x) ∙ ap (λ b. is_some (option_or (defined_as ds x) (if b then Some op else None))) (nat_list_eq_equiv.refl x) ∙ by (defined_as ds x)
  where
    by : (a : Option ℕ) → is_some (option_or a (Some op)) ≡ true
    by None = refl
    by (Some n) = refl

-- a label is defined
pub Keeps-defined : (es fs : Entries) (ds : List Definition) (us : List Mention) (x : List ℕ) (op place : ℕ)
    → fs ≡ put es x (record { op = Some op; at = place }) → ((q : List ℕ) → lookup (bytes_eq q) fs ≡ cond (bytes_eq x q) (Some (record { op = Some op; at = place })) (lookup (bytes_eq q) es))
    → Keeps es ds us → is_defined ds x ≡ false → Keeps fs (ds ++ record { label = x; op = op } ∷ []) us
unfolding op_by
Keeps-defined es fs ds us x op place is_put updated k fresh = record {
  numbers = λ q. ap op_in (updated q) ∙ by q (bytes_eq x q) refl ∙ sym (defined_as-append ds (record { label = x; op = op }) q);
  firsts = λ test all. ap (first_by test) is_put
      ∙ firsts test (lookup (bytes_eq x) es) refl (all x (defined_with_newest ds x op))
      ∙ k.firsts test (λ q h. all q (stays_defined ds (record { label = x; op = op }) q h));
}
  where
    by : (q : List ℕ) (b : Bool) → bytes_eq x q ≡ b → op_in (cond b (Some (record { op = Some op; at = place })) (lookup (bytes_eq q) es)) ≡ option_or (defined_as ds q) (if bytes_eq q x then Some op else None)
    by q true h =
        let same = bytes_eq_exact x q h in
        sym (ap (λ o. option_or o (if bytes_eq q x then Some op else None)) (ap (defined_as ds) same ∙ undefined_has_none ds x fresh)
        ∙ ap (λ b. if b then Some op else None) (nat_list_eq_equiv.symm q x ∙ h))
    by q false h =
        k.numbers q ∙ sym (ap (λ b. option_or (defined_as ds q) (if b then Some op else None)) (nat_list_eq_equiv.symm q x ∙ h) ∙ option_or-none (defined_as ds q))

    firsts : (test : List ℕ → Bool) (o : Option LabelInfo) → lookup (bytes_eq x) es ≡ o → test x ≡ true → first_by test (put es x (record { op = Some op; at = place })) ≡ first_by test es
    firsts test None h passes =
        ap (first_by test) (put-absent x (record { op = Some op; at = place }) es h)
        ∙ first_by-append test es (x, record { op = Some op; at = place })
        ∙ ap (λ b. option_or (first_by test es) (if b then None else Some place)) passes
        ∙ option_or-none (first_by test es)
    firsts test (Some s) h passes =
        first_by-present x (record { op = Some op; at = place }) test es s (bytes_eq_exact x) h passes

-- whether a label was defined, by its lookup
pub lookup_says_defined : (es : Entries) (ds : List Definition) (us : List Mention) (x : List ℕ) (o : Option LabelInfo) → Keeps es ds us → o ≡ lookup (bytes_eq x) es → is_defined ds x ≡ is_some (op_in o)
unfolding op_by
lookup_says_defined es ds us x o keeps was = ap is_some (sym (keeps.numbers x) ∙ ap op_in (sym was))

-- the first label that isn't defined

first_by-found : (test : List ℕ → Bool) (es : Entries) (i : ℕ) (e : List ℕ × LabelInfo) → first_by test (take i es) ≡ None → slice_get es i ≡ Some e → test e.0 ≡ false → first_by test es ≡ Some e.1.at
unfolding first_by
first_by-found test [] i e before at fails = cc
first_by-found test (f ∷ es) zero e before at fails =
    let same : f ≡ e = cc in
    ap (λ (g : List ℕ × LabelInfo). if test g.0 then first_by test es else Some g.1.at) same ∙ ap (λ b. if b then first_by test es else Some e.1.at) fails
first_by-found test (f ∷ es) (suc i) e before at fails = by (test f.0) before (λ h. first_by-found test es i e h at fails)
  where
    by : (b : Bool) → (if b then first_by test (take i es) else Some f.1.at) ≡ None → (first_by test (take i es) ≡ None → first_by test es ≡ Some e.1.at)
        → (if b then first_by test es else Some f.1.at) ≡ Some e.1.at
    by true h rest = rest h
    by false h rest = cc

first_by-more : (test : List ℕ → Bool) (es : Entries) (i : ℕ) (e : List ℕ × LabelInfo) → first_by test (take i es) ≡ None → slice_get es i ≡ Some e → test e.0 ≡ true → first_by test (take (i + 1) es) ≡ None
first_by-more test es i e before at passes =
    ap (first_by test) (take_more es i e (slice_get_within es i e at))
    ∙ first_by-append test (take i es) (get_or es i e)
    ∙ ap (λ (g : List ℕ × LabelInfo). option_or (first_by test (take i es)) (if test g.0 then None else Some g.1.at)) (get_or_from_slice_get es i e e at)
    ∙ ap (λ b. option_or (first_by test (take i es)) (if b then None else Some e.1.at)) passes
    ∙ ap (λ o. option_or o None) before

-- the slot of an entry says whether its label is defined
pub slot_says_defined : (es : Entries) (ds : List Definition) (us : List Mention) (k : List ℕ) (s : LabelInfo) → Keeps es ds us → lookup (bytes_eq k) es ≡ Some s → is_defined ds k ≡ is_some s.op
unfolding op_by
slot_says_defined es ds us k s keeps h = ap is_some (sym (keeps.numbers k) ∙ ap op_in h)

pub IsFrontDefined : Entries → ℕ → Type 0
IsFrontDefined es i = (ds : List Definition) (us : List Mention) → Keeps es ds us → first_by (is_defined ds) (take i es) ≡ None

pub empty_front_is_defined : (es : Entries) → IsFrontDefined es 0
unfolding first_by IsFrontDefined
empty_front_is_defined es ds us k = refl

pub longer_front_is_defined : (es : Entries) (i : ℕ) (k : List ℕ) (s : LabelInfo) → IsFrontDefined es i → slice_get es i ≡ Some (k, s) → lookup (bytes_eq k) es ≡ Some s → is_some s.op ≡ true → IsFrontDefined es (i + 1)
unfolding IsFrontDefined
longer_front_is_defined es i k s front at found defined =
    λ ds us keeps. first_by-more (is_defined ds) es i (k, s) (front ds us keeps) at (slot_says_defined es ds us k s keeps found ∙ defined)

pub first_unknown_after_defined_front : (es : Entries) (i : ℕ) (k : List ℕ) (s : LabelInfo) → IsFrontDefined es i → slice_get es i ≡ Some (k, s) → lookup (bytes_eq k) es ≡ Some s → is_some s.op ≡ false → (ds : List Definition) (us : List Mention) → Keeps es ds us → Some s.at ≡ first_unknown ds us
unfolding IsFrontDefined
first_unknown_after_defined_front es i k s front at found undefined ds us keeps =
    sym (first_by-found (is_defined ds) es i (k, s) (front ds us keeps) at (slot_says_defined es ds us k s keeps found ∙ undefined))
    ∙ keeps.firsts (is_defined ds) (λ q h. h)

pub no_unknown_if_all_defined : (es : Entries) (i : ℕ) → IsFrontDefined es i → length es ≤ i → (ds : List Definition) (us : List Mention) → Keeps es ds us → None ≡ first_unknown ds us
unfolding IsFrontDefined
no_unknown_if_all_defined es i front all ds us keeps =
    sym (front ds us keeps) ∙ ap (first_by (is_defined ds)) (take_all i es all) ∙ keeps.firsts (is_defined ds) (λ q h. h)
