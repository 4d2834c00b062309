-- Maps of files.
use Rattle.std.proofs.Common.{Less, Equal, Greater, ◌≡◌, ℕ, Bool, true, false, cond, List, [], ◌∷◌, ◌++◌, map, Option, Some, refl, sym, ap, ◌∙◌, Vec, String, Global, nat_cmp, Ordering}
use Rattle.std.specs.Option.{option_map}
use Rattle.std.specs.Ordering.{is_eq, eq_by_cmp}
use Rattle.std.specs.Map.{lookup}
use Rattle.std.specs.Str.{bytes_eq}
use Rattle.std.specs.String.{string_bytes, string_cmp}
use Rattle.std.specs.Cmp.{eq_by_cmp_equiv}
use Rattle.std.specs.Cmp.Lexicographic.{slice_cmp, nat_list_cmp_total}
use Rattle.std.specs.BTreeMap.{BTreeMap, is_at, UpdatesBy, get_by_text}
use Rattle.std.specs.FinMap.{get_tied, get, insert, empty, same_map, get-insert, get-from_entries, find, nat_cmp-IsAntisymmetric, slice_cmp-IsAntisymmetric}
use Rattle.std.proofs.lemmas.Bool.{false≢true}
use Rattle.std.proofs.lemmas.Map.Text.{btree_map_updates_text, is_eq-slice_cmp}
use Rattle.goal_base.specs.Device.{Files}
use Rattle.goal_base.specs.DeviceCalls.{grown, appended_to}
use Rattle.goal_base.specs.NamedFiles.{files_of}

abbrev Entries : Type 0
Entries = List (String Global × Vec ℕ Global)

abbrev pub Map : Type 0
Map = BTreeMap (String Global) (Vec ℕ Global)

abbrev pub bytes_of : Vec ℕ Global → List ℕ
bytes_of v = v.items

bytes_of_cond : (b : Bool) (v : Vec ℕ Global) (o : Option (Vec ℕ Global)) → cond b (Some v.items) (option_map bytes_of o) ≡ option_map bytes_of (cond b (Some v) o)
bytes_of_cond true v o = refl
bytes_of_cond false v o = refl

find_mapped_entries_is_lookup : (q : List ℕ) (es : Entries) → find (slice_cmp nat_cmp) q (map (λ (e : String Global × Vec ℕ Global). (string_bytes e.0, e.1.items)) es)
    ≡ option_map bytes_of (lookup (is_at (λ (k : String Global). slice_cmp nat_cmp q (string_bytes k))) es)
find_mapped_entries_is_lookup q [] = refl
find_mapped_entries_is_lookup q (e ∷ es) = ap (cond (eq_by_cmp (slice_cmp nat_cmp) q (string_bytes e.0)) (Some e.1.items)) (find_mapped_entries_is_lookup q es) ∙ bytes_of_cond _ e.1 _

-- the file that a lookup by name finds
pub get-files_of : (m : Map) (q : List ℕ) → get (files_of m.entries) q ≡ option_map bytes_of (get_by_text m q)
unfolding files_of
get-files_of m q = get-from_entries nat_list_cmp_total _ q ∙ find_mapped_entries_is_lookup q m.entries

-- two maps are equal if every lookup gives the same
pub files_equal_by_lookups : (m n : Files) → ((q : List ℕ) → get m q ≡ get n q) → m ≡ n
files_equal_by_lookups m n = same_map nat_list_cmp_total (slice_cmp-IsAntisymmetric nat_cmp-IsAntisymmetric) m n

-- the comparisons of the two kinds of map agree on a name
bytes_eq_agrees_with_comparison : (name q : List ℕ) → bytes_eq name q ≡ eq_by_cmp (slice_cmp nat_cmp) q name
bytes_eq_agrees_with_comparison name q = sym (is_eq-slice_cmp name q) ∙ (eq_by_cmp_equiv nat_list_cmp_total).symm name q

-- the map after one value changed
pub files_of-set : (m n : Map) (name : List ℕ) (v : Vec ℕ Global) → UpdatesBy string_cmp (λ k. slice_cmp nat_cmp name (string_bytes k)) m n (Some v)
    → files_of n.entries ≡ insert (files_of m.entries) name v.items
files_of-set m n name v updates = files_equal_by_lookups _ _ (λ q.
    get-files_of n q ∙ ap (option_map bytes_of) (btree_map_updates_text name m n (Some v) updates q)
    ∙ sym (bytes_of_cond (bytes_eq name q) v (get_by_text m q))
    ∙ ap (λ (b : Bool). cond b (Some v.items) (option_map bytes_of (get_by_text m q))) (bytes_eq_agrees_with_comparison name q)
    ∙ ap (cond (eq_by_cmp (slice_cmp nat_cmp) q name) (Some v.items)) (sym (get-files_of m q))
    ∙ sym (get-insert nat_list_cmp_total (files_of m.entries) name v.items q))

is_equal : (o : Ordering) → is_eq o ≡ true → o ≡ Equal
is_equal Less e = absurd (false≢true e)
is_equal Equal e = refl
is_equal Greater e = absurd (false≢true e)

present_value_changes_no_lookup : (m : Files) (name v q : List ℕ) → get m name ≡ Some v → (b : Bool) → eq_by_cmp (slice_cmp nat_cmp) q name ≡ b
    → cond b (Some v) (get m q) ≡ get m q
present_value_changes_no_lookup m name v q is true e = sym is ∙ get_tied nat_list_cmp_total m q name (is_equal _ e)
present_value_changes_no_lookup m name v q is false e = refl

-- inserting the value that a name has already changes nothing
pub insert_same : (m : Files) (name v : List ℕ) → get m name ≡ Some v → insert m name v ≡ m
insert_same m name v is = files_equal_by_lookups _ _ (λ q. get-insert nat_list_cmp_total m name v q ∙ present_value_changes_no_lookup m name v q is _ refl)

-- a lookup finds the value just inserted
pub get_inserted : (m : Files) (name v : List ℕ) → get (insert m name v) name ≡ Some v
get_inserted m name v =
    get-insert nat_list_cmp_total m name v name
    ∙ ap (λ (b : Bool). cond b (Some v) (get m name)) ((eq_by_cmp_equiv nat_list_cmp_total).refl name)

cond_twice : (b : Bool) (x y z : Option (List ℕ)) → cond b x (cond b y z) ≡ cond b x z
cond_twice true x y z = refl
cond_twice false x y z = refl

-- of two values inserted under one name, the later one stays
pub insert_twice : (m : Files) (name v w : List ℕ) → insert (insert m name v) name w ≡ insert m name w
insert_twice m name v w = files_equal_by_lookups _ _ (λ q.
    get-insert nat_list_cmp_total (insert m name v) name w q
    ∙ ap (cond (eq_by_cmp (slice_cmp nat_cmp) q name) (Some w)) (get-insert nat_list_cmp_total m name v q)
    ∙ cond_twice (eq_by_cmp (slice_cmp nat_cmp) q name) (Some w) (Some v) (get m q)
    ∙ sym (get-insert nat_list_cmp_total m name w q))

-- appending to an output whose file holds other bytes
pub appended_to_inserted : (m : Files) (name old bytes : List ℕ)
    → appended_to (Some name) (insert m name old) bytes ≡ insert m name (old ++ bytes)
appended_to_inserted m name old bytes =
    ap (λ (o : Option (List ℕ)). grown o (insert m name old) name bytes) (get_inserted m name old)
    ∙ insert_twice m name old (old ++ bytes)

-- the map after a value grew
pub files_of-append : (m n : Map) (name : List ℕ) (old new : Vec ℕ Global) (piece : List ℕ) → get_by_text m name ≡ Some old
    → UpdatesBy string_cmp (λ k. slice_cmp nat_cmp name (string_bytes k)) m n (Some new) → new.items ≡ old.items ++ piece
    → files_of n.entries ≡ grown (get (files_of m.entries) name) (files_of m.entries) name piece
files_of-append m n name old new piece was updates is =
    let told : get (files_of m.entries) name ≡ Some old.items = get-files_of m name ∙ ap (option_map bytes_of) was in
    files_of-set m n name new updates ∙ ap (λ (l : List ℕ). insert (files_of m.entries) name l) is
    ∙ ap (λ (o : Option (List ℕ)). grown o (files_of m.entries) name piece) (sym told)

-- the map after an append that failed
pub files_of-same : (m n : Map) (name : List ℕ) (old new : Vec ℕ Global) → get_by_text m name ≡ Some old
    → UpdatesBy string_cmp (λ k. slice_cmp nat_cmp name (string_bytes k)) m n (Some new) → new.items ≡ old.items
    → files_of n.entries ≡ files_of m.entries
files_of-same m n name old new was updates is =
    files_of-set m n name new updates ∙ ap (λ (l : List ℕ). insert (files_of m.entries) name l) is
    ∙ insert_same (files_of m.entries) name old.items (get-files_of m name ∙ ap (option_map bytes_of) was)

pub files_of-none : (m : Map) → m.entries ≡ [] → files_of m.entries ≡ empty
unfolding files_of
files_of-none m is = ap files_of is
