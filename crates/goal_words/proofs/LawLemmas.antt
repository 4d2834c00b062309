-- Options may move in a line, and be joined to their values.
use Rattle.std.proofs.Common.{◌≡◌, ◌&&◌, ◌||◌, ◌≤◌, ◌==◌, ℕ, Bool, true, false, not, List, [], ◌∷◌, ◌++◌, length, Option, Some, None, codes, bytes_eq, refl, sym, ap, subst, ◌∙◌, arith, if◌then◌else◌}
use Rattle.std.specs.List.{list_all, list_any, before_first, after_first}
use Rattle.std.proofs.lemmas.Bool.{both_ways, and_parts, not-true}
use Rattle.std.proofs.lemmas.List.{length-append}
use Rattle.std.proofs.lemmas.List.Folds.{list_all-append}
use Rattle.goal_words.specs.declared.options.OptionKey.{OptionKey}
use Rattle.goal_words.specs.declared.options.OptionKey.TheVariants.{Latency, Overhead, Gap, GapPerByte, GapPicos, OverheadPerByte, OverheadPicos, Sync, Root}
use Rattle.goal_words.specs.declared.options.AllowedOptions.{AllowedOptions}
use Rattle.goal_words.specs.declared.options.AllowedOptions.TheVariants as taken_by
use Rattle.goal_words.specs.Options.{Role, Plain, Named, Set, Wrong, run_options, root_option, is_option, begins_dash, value_of, set_to, role, roles, plain_words, values_of, first_of, is_known, at_most_one, are_right, value_at}
use Rattle.goal_words.specs.Words.{Command, options_of, line_roles, command_by, command_of}
use Rattle.goal_words.specs.Laws.{Group, Word, Apart, Joined, spelt, IsSetting, IsGroup, ends_whole}
use Rattle.goal_words.specs.Reading.{numbers_given, words_of}
use Rattle.goal_words.proofs.KeyLemmas.{word_of_key, option_word_has_key, false_unless_true, plain_no_option, empty_no_option, first_no_option, option_dash}
use Rattle.goal_words.proofs.RoleLemmas.{roles_without_before}
use Rattle.goal_words.proofs.PartsLemmas.{all_keys, of_keys, all_keys_of_equal_tests, of_keys_of_equal_values, all_keys_false_if_one_false}

-- the options that the first word allows
allowed_options_of_command : (first : List ℕ) → (taken : AllowedOptions) × (words_of taken ≡ options_of first)
allowed_options_of_command first =
    by (bytes_eq first (codes "sim") || bytes_eq first (codes "waits") || bytes_eq first (codes "knots") || bytes_eq first (codes "probe")) (bytes_eq first (codes "gen") || bytes_eq first (codes "certify"))
  where
    by : (run gen : Bool) → (taken : AllowedOptions) × (words_of taken ≡ (if run then run_options else (if gen then root_option else [])))
    by true gen = (taken_by.Run, refl)
    by false true = (taken_by.Root, refl)
    by false false = (taken_by.Nothing, refl)

-- the roles of words, whatever follows them
roles_inside : List (List ℕ) → List ℕ → List (List ℕ) → List Role
roles_inside options before [] = []
roles_inside options before (w ∷ words) = role options before w ∷ roles_inside options w words

roles_append : (options : List (List ℕ)) (before : List ℕ) (xs ys : List (List ℕ)) → is_option options [] ≡ false → ends_whole options (before ∷ xs) ≡ true
    → roles options before (xs ++ ys) ≡ roles_inside options before xs ++ roles options [] ys
unfolding roles roles_inside
roles_append options before [] ys none whole = roles_without_before options before ys (not-true (is_option options before) whole) none
roles_append options before (w ∷ xs) ys none whole = ap (λ ps. role options before w ∷ ps) (roles_append options w xs ys none whole)

-- the roles of the words of a group
roles_of_group : Group → List Role
roles_of_group (Word w) = Plain w ∷ []
roles_of_group (Apart option value) = Named ∷ set_to option (value_of value) ∷ []
roles_of_group (Joined option value) = set_to option (value_of value) ∷ []

has_equals : List ℕ → Bool
has_equals w = list_any (λ b. b == 61) w

key_word_has_no_equals : (key : OptionKey) → has_equals (word_of_key key) ≡ false
unfolding has_equals
key_word_has_no_equals Latency = refl
key_word_has_no_equals Overhead = refl
key_word_has_no_equals Gap = refl
key_word_has_no_equals GapPerByte = refl
key_word_has_no_equals GapPicos = refl
key_word_has_no_equals OverheadPerByte = refl
key_word_has_no_equals OverheadPicos = refl
key_word_has_no_equals Sync = refl
key_word_has_no_equals Root = refl

joined_option_has_equals : (key : OptionKey) (v : List ℕ) → has_equals (word_of_key key ++ (61 ∷ v)) ≡ true
unfolding has_equals
joined_option_has_equals Latency v = refl
joined_option_has_equals Overhead v = refl
joined_option_has_equals Gap v = refl
joined_option_has_equals GapPerByte v = refl
joined_option_has_equals GapPicos v = refl
joined_option_has_equals OverheadPerByte v = refl
joined_option_has_equals OverheadPicos v = refl
joined_option_has_equals Sync v = refl
joined_option_has_equals Root v = refl

name_before_equals : (key : OptionKey) (v : List ℕ) → before_first (λ b. b == 61) (word_of_key key ++ (61 ∷ v)) ≡ word_of_key key
name_before_equals Latency v = refl
name_before_equals Overhead v = refl
name_before_equals Gap v = refl
name_before_equals GapPerByte v = refl
name_before_equals GapPicos v = refl
name_before_equals OverheadPerByte v = refl
name_before_equals OverheadPicos v = refl
name_before_equals Sync v = refl
name_before_equals Root v = refl

value_after_equals : (key : OptionKey) (v : List ℕ) → after_first (λ b. b == 61) (word_of_key key ++ (61 ∷ v)) ≡ v
value_after_equals Latency v = refl
value_after_equals Overhead v = refl
value_after_equals Gap v = refl
value_after_equals GapPerByte v = refl
value_after_equals GapPicos v = refl
value_after_equals OverheadPerByte v = refl
value_after_equals OverheadPicos v = refl
value_after_equals Sync v = refl
value_after_equals Root v = refl

joined_dash : (key : OptionKey) (v : List ℕ) → begins_dash (word_of_key key ++ (61 ∷ v)) ≡ true
joined_dash Latency v = refl
joined_dash Overhead v = refl
joined_dash Gap v = refl
joined_dash GapPerByte v = refl
joined_dash GapPicos v = refl
joined_dash OverheadPerByte v = refl
joined_dash OverheadPicos v = refl
joined_dash Sync v = refl
joined_dash Root v = refl

joined_no_option : (taken : AllowedOptions) (key : OptionKey) (v : List ℕ) → is_option (words_of taken) (word_of_key key ++ (61 ∷ v)) ≡ false
joined_no_option taken key v =
    false_unless_true (is_option (words_of taken) (word_of_key key ++ (61 ∷ v)))
    (λ h.
    let found = option_word_has_key taken (word_of_key key ++ (61 ∷ v)) h in
    both_ways (has_equals (word_of_key found.0)) (key_word_has_no_equals found.0) (ap has_equals (sym found.1) ∙ joined_option_has_equals key v))

roles_of_joined_option : (taken : AllowedOptions) (option v : List ℕ) (words : List (List ℕ)) (key : OptionKey) → option ≡ word_of_key key → is_option (words_of taken) (word_of_key key) ≡ true
    → roles (words_of taken) [] ((option ++ (61 ∷ v)) ∷ words) ≡ set_to option (value_of v) ∷ roles (words_of taken) [] words
unfolding roles
roles_of_joined_option taken option v words key e is =
    rw e
    (rw (empty_no_option taken, joined_dash key v, joined_no_option taken key v, name_before_equals key v, value_after_equals key v, is, roles_without_before (words_of taken) (word_of_key key ++ (61 ∷ v)) words (joined_no_option taken key v) (empty_no_option taken))
    refl)

roles_of_apart_option : (taken : AllowedOptions) (option v : List ℕ) (words : List (List ℕ)) → is_option (words_of taken) option ≡ true → begins_dash v ≡ false
    → roles (words_of taken) [] (option ∷ v ∷ words) ≡ Named ∷ set_to option (value_of v) ∷ roles (words_of taken) [] words
unfolding roles
roles_of_apart_option taken option v words is plain =
    rw (empty_no_option taken, option_dash taken option is, is, roles_without_before (words_of taken) v words (plain_no_option taken v plain) (empty_no_option taken)) refl

roles_of_plain_word : (taken : AllowedOptions) (w : List ℕ) (words : List (List ℕ)) → begins_dash w ≡ false
    → roles (words_of taken) [] (w ∷ words) ≡ Plain w ∷ roles (words_of taken) [] words
unfolding roles
roles_of_plain_word taken w words plain =
    rw (empty_no_option taken, plain, roles_without_before (words_of taken) w words (plain_no_option taken w plain) (empty_no_option taken)) refl

roles_of_group_before_words : (taken : AllowedOptions) (g : Group) (words : List (List ℕ)) → IsGroup (words_of taken) g
    → roles (words_of taken) [] (spelt g ++ words) ≡ roles_of_group g ++ roles (words_of taken) [] words
unfolding roles_of_group
roles_of_group_before_words taken (Word w) words plain = roles_of_plain_word taken w words plain
roles_of_group_before_words taken (Apart option v) words is = roles_of_apart_option taken option v words is.0 is.1
roles_of_group_before_words taken (Joined option v) words is =
    let found = option_word_has_key taken option is.0 in
    roles_of_joined_option taken option v words found.0 found.1 (ap (is_option (words_of taken)) (sym found.1) ∙ is.0)

setting_group : (options : List (List ℕ)) (g : Group) → IsSetting options g → IsGroup options g
setting_group options (Word w) is = absurd is
setting_group options (Apart option v) is = is
setting_group options (Joined option v) is = is

-- two groups after some words
roles_of_two_groups_after_words : (taken : AllowedOptions) (before : List ℕ) (xs : List (List ℕ)) (g h : Group) (ys : List (List ℕ)) → ends_whole (words_of taken) (before ∷ xs) ≡ true
    → IsGroup (words_of taken) g → IsGroup (words_of taken) h
    → roles (words_of taken) before (xs ++ (spelt g ++ (spelt h ++ ys))) ≡ roles_inside (words_of taken) before xs ++ (roles_of_group g ++ (roles_of_group h ++ roles (words_of taken) [] ys))
roles_of_two_groups_after_words taken before xs g h ys whole one other =
    roles_append (words_of taken) before xs (spelt g ++ (spelt h ++ ys)) (empty_no_option taken) whole
    ∙ ap (λ ps. roles_inside (words_of taken) before xs ++ ps) (roles_of_group_before_words taken g (spelt h ++ ys) one ∙ ap (λ ps. roles_of_group g ++ ps) (roles_of_group_before_words taken h ys other))

roles_of_one_group_after_words : (taken : AllowedOptions) (before : List ℕ) (xs : List (List ℕ)) (g : Group) (ys : List (List ℕ)) → ends_whole (words_of taken) (before ∷ xs) ≡ true
    → IsGroup (words_of taken) g → roles (words_of taken) before (xs ++ (spelt g ++ ys)) ≡ roles_inside (words_of taken) before xs ++ (roles_of_group g ++ roles (words_of taken) [] ys)
roles_of_one_group_after_words taken before xs g ys whole one =
    roles_append (words_of taken) before xs (spelt g ++ ys) (empty_no_option taken) whole
    ∙ ap (λ ps. roles_inside (words_of taken) before xs ++ ps) (roles_of_group_before_words taken g ys one)

plain-append : (ps qs : List Role) → plain_words (ps ++ qs) ≡ plain_words ps ++ plain_words qs
unfolding plain_words
plain-append [] qs = refl
plain-append (Plain w ∷ ps) qs = ap (λ l. w ∷ l) (plain-append ps qs)
plain-append (Named ∷ ps) qs = plain-append ps qs
plain-append (Set option n ∷ ps) qs = plain-append ps qs
plain-append (Wrong ∷ ps) qs = plain-append ps qs

if_append : (b : Bool) (n : ℕ) (ns ms : List ℕ) → (if b then n ∷ (ns ++ ms) else (ns ++ ms)) ≡ (if b then n ∷ ns else ns) ++ ms
if_append true n ns ms = refl
if_append false n ns ms = refl

values-append : (o : List ℕ) (ps qs : List Role) → values_of o (ps ++ qs) ≡ values_of o ps ++ values_of o qs
unfolding values_of
values-append o [] qs = refl
values-append o (Plain w ∷ ps) qs = values-append o ps qs
values-append o (Named ∷ ps) qs = values-append o ps qs
values-append o (Set option n ∷ ps) qs = rw (values-append o ps qs) (if_append (bytes_eq option o) n (values_of o ps) (values_of o qs))
values-append o (Wrong ∷ ps) qs = values-append o ps qs

-- lists of at most one element
by_length : (ns ms : List ℕ) → length ns ≡ length ms → at_most_one ns ≡ at_most_one ms
by_length [] [] same = refl
by_length [] (m ∷ ms) same = absurd (omega arith)
by_length (n ∷ ns) [] same = absurd (omega arith)
by_length (n ∷ []) (m ∷ []) same = refl
by_length (n ∷ []) (m ∷ k ∷ ms) same = absurd (omega arith)
by_length (n ∷ k ∷ ns) (m ∷ []) same = absurd (omega arith)
by_length (n ∷ k ∷ ns) (m ∷ l ∷ ms) same = refl

at_most_one_means : (ns : List ℕ) → at_most_one ns ≡ true → length ns ≤ 1
at_most_one_means [] h = omega arith
at_most_one_means (n ∷ []) h = omega arith
at_most_one_means (n ∷ m ∷ ns) h = absurd cc

exchange_middle_lists : (a b c d : List ℕ) → length (a ++ (b ++ (c ++ d))) ≤ 1 → a ++ (b ++ (c ++ d)) ≡ a ++ (c ++ (b ++ d))
exchange_middle_lists a [] c d few = refl
exchange_middle_lists a (n ∷ b) [] d few = refl
exchange_middle_lists a (n ∷ b) (m ∷ c) d few =
    absurd (omega (arith, length-append a ((n ∷ b) ++ ((m ∷ c) ++ d)), length-append b ((m ∷ c) ++ d), few))

exchanged_length : (a b c d : List ℕ) → length (a ++ (b ++ (c ++ d))) ≡ length (a ++ (c ++ (b ++ d)))
exchanged_length a b c d =
    omega (arith, length-append a (b ++ (c ++ d)), length-append b (c ++ d), length-append c d, length-append a (c ++ (b ++ d)), length-append c (b ++ d), length-append b d)

-- roles with the same content
record HaveSameContent (ps qs : List Role) : Type 0 where
  known : list_all is_known ps ≡ list_all is_known qs
  plain : plain_words ps ≡ plain_words qs
  once : (key : OptionKey) → at_most_one (values_of (word_of_key key) ps) ≡ at_most_one (values_of (word_of_key key) qs)
  values : (key : OptionKey) → at_most_one (values_of (word_of_key key) ps) ≡ true → values_of (word_of_key key) ps ≡ values_of (word_of_key key) qs

-- the command, from the roles
abbrev command_at : List ℕ → List Role → Option Command
command_at first ps =
    if are_right ps then command_by first (plain_words ps) (numbers_given (of_keys (λ k. value_at (word_of_key k) ps))) (value_at (word_of_key Root) ps) else None

true_unless_false : (b : Bool) → (b ≡ false → ⊥) → b ≡ true
true_unless_false true h = refl
true_unless_false false h = absurd (h refl)

right_once : (ps : List Role) → are_right ps ≡ true → (key : OptionKey) → at_most_one (values_of (word_of_key key) ps) ≡ true
right_once ps right key =
    let every = (and_parts (list_all is_known ps) (all_keys (λ k. at_most_one (values_of (word_of_key k) ps))) right).1 in
    true_unless_false (at_most_one (values_of (word_of_key key) ps))
    (λ h. both_ways (all_keys (λ k. at_most_one (values_of (word_of_key k) ps))) (all_keys_false_if_one_false (λ k. at_most_one (values_of (word_of_key k) ps)) key h) every)

same_right : (ps qs : List Role) → HaveSameContent ps qs → are_right ps ≡ are_right qs
same_right ps qs alike =
    ap (λ b. b && all_keys (λ k. at_most_one (values_of (word_of_key k) ps))) alike.known
    ∙ ap (λ b. list_all is_known qs && b) (all_keys_of_equal_tests (λ k. at_most_one (values_of (word_of_key k) ps)) (λ k. at_most_one (values_of (word_of_key k) qs)) alike.once)

same_command : (first : List ℕ) (ps qs : List Role) → HaveSameContent ps qs → command_at first ps ≡ command_at first qs
same_command first ps qs alike = by (are_right ps) refl
  where
    value : are_right ps ≡ true → (key : OptionKey) → value_at (word_of_key key) ps ≡ value_at (word_of_key key) qs
    value right key = ap first_of (alike.values key (right_once ps right key))

    by : (b : Bool) → are_right ps ≡ b → command_at first ps ≡ command_at first qs
    by true right =
        rw (right, sym (same_right ps qs alike) ∙ right)
        (ap (λ plain. command_by first plain (numbers_given (of_keys (λ k. value_at (word_of_key k) ps))) (value_at (word_of_key Root) ps)) alike.plain
        ∙ (ap (λ given. command_by first (plain_words qs) (numbers_given given) (value_at (word_of_key Root) ps)) (of_keys_of_equal_values (λ k. value_at (word_of_key k) ps) (λ k. value_at (word_of_key k) qs) (value right))
        ∙ ap (λ root. command_by first (plain_words qs) (numbers_given (of_keys (λ k. value_at (word_of_key k) qs))) root) (value right Root)))
    by false wrong = rw (wrong, sym (same_right ps qs alike) ∙ wrong) refl

-- the command of a line, from its roles
command_of_line_by_roles : (first : List ℕ) (words : List (List ℕ)) → command_of (first ∷ words) ≡ command_at first (line_roles first words)
command_of_line_by_roles first words = refl

command_word_keeps_ends_whole : (options : List (List ℕ)) (first : List ℕ) (before : List (List ℕ)) → is_option options first ≡ false → ends_whole options before ≡ true
    → ends_whole options (first ∷ before) ≡ true
command_word_keeps_ends_whole options first [] none whole = ap not none
command_word_keeps_ends_whole options first (w ∷ before) none whole = whole

known_four : (i g h a : List Role) → list_all is_known (i ++ (g ++ (h ++ a))) ≡ (list_all is_known i && (list_all is_known g && (list_all is_known h && list_all is_known a)))
known_four i g h a =
    list_all-append is_known i (g ++ (h ++ a))
    ∙ ap (λ b. list_all is_known i && b) (list_all-append is_known g (h ++ a) ∙ ap (λ b. list_all is_known g && b) (list_all-append is_known h a))

plain_four : (i g h a : List Role) → plain_words (i ++ (g ++ (h ++ a))) ≡ plain_words i ++ (plain_words g ++ (plain_words h ++ plain_words a))
plain_four i g h a =
    plain-append i (g ++ (h ++ a))
    ∙ ap (λ l. plain_words i ++ l) (plain-append g (h ++ a) ∙ ap (λ l. plain_words g ++ l) (plain-append h a))

values_four : (o : List ℕ) (i g h a : List Role) → values_of o (i ++ (g ++ (h ++ a))) ≡ values_of o i ++ (values_of o g ++ (values_of o h ++ values_of o a))
values_four o i g h a =
    values-append o i (g ++ (h ++ a))
    ∙ ap (λ l. values_of o i ++ l) (values-append o g (h ++ a) ∙ ap (λ l. values_of o g ++ l) (values-append o h a))

exchange_middle_tests : (p q r s : Bool) → (p && (q && (r && s))) ≡ (p && (r && (q && s)))
exchange_middle_tests p true true s = refl
exchange_middle_tests p true false s = refl
exchange_middle_tests p false true s = refl
exchange_middle_tests p false false s = refl

exchange_groups : (i g h a : List Role) → plain_words g ≡ [] → HaveSameContent (i ++ (g ++ (h ++ a))) (i ++ (h ++ (g ++ a)))
exchange_groups i g h a none = record {
  known =
      known_four i g h a
      ∙ (exchange_middle_tests (list_all is_known i) (list_all is_known g) (list_all is_known h) (list_all is_known a) ∙ sym (known_four i h g a));
  plain = plain_four i g h a ∙ (rw none refl ∙ sym (plain_four i h g a));
  once =
      λ key.
      let o = word_of_key key in
      ap at_most_one (values_four o i g h a)
      ∙ (by_length _ _ (exchanged_length (values_of o i) (values_of o g) (values_of o h) (values_of o a)) ∙ ap at_most_one (sym (values_four o i h g a)));
  values =
      λ key few.
      let o = word_of_key key in
      values_four o i g h a
      ∙ (exchange_middle_lists (values_of o i) (values_of o g) (values_of o h) (values_of o a) (at_most_one_means _ (ap at_most_one (sym (values_four o i g h a)) ∙ few))
      ∙ sym (values_four o i h g a));
}

-- the roles of two groups in a line
line_roles_with_two_groups : (first : List ℕ) (before : List (List ℕ)) (g h : Group) (roles_without_before : List (List ℕ)) → ends_whole (options_of first) before ≡ true → IsGroup (options_of first) g
    → IsGroup (options_of first) h
    → line_roles first (before ++ (spelt g ++ (spelt h ++ roles_without_before))) ≡ roles_inside (options_of first) first before ++ (roles_of_group g ++ (roles_of_group h ++ roles (options_of first) [] roles_without_before))
line_roles_with_two_groups first before g h roles_without_before whole one other =
    let t = allowed_options_of_command first in
    let none = first_no_option t.0 first t.1 in
    subst (λ os. ends_whole os (first ∷ before) ≡ true → IsGroup os g → IsGroup os h → roles os first (before ++ (spelt g ++ (spelt h ++ roles_without_before))) ≡ roles_inside os first before ++ (roles_of_group g ++ (roles_of_group h ++ roles os [] roles_without_before))) t.1
    (λ w p q. roles_of_two_groups_after_words t.0 first before g h roles_without_before w p q) (command_word_keeps_ends_whole (options_of first) first before none whole) one other

line_roles_with_one_group : (first : List ℕ) (before : List (List ℕ)) (g : Group) (roles_without_before : List (List ℕ)) → ends_whole (options_of first) before ≡ true → IsGroup (options_of first) g
    → line_roles first (before ++ (spelt g ++ roles_without_before)) ≡ roles_inside (options_of first) first before ++ (roles_of_group g ++ roles (options_of first) [] roles_without_before)
line_roles_with_one_group first before g roles_without_before whole one =
    let t = allowed_options_of_command first in
    let none = first_no_option t.0 first t.1 in
    subst (λ os. ends_whole os (first ∷ before) ≡ true → IsGroup os g → roles os first (before ++ (spelt g ++ roles_without_before)) ≡ roles_inside os first before ++ (roles_of_group g ++ roles os [] roles_without_before)) t.1
    (λ w p. roles_of_one_group_after_words t.0 first before g roles_without_before w p) (command_word_keeps_ends_whole (options_of first) first before none whole) one

set_plain : (option : List ℕ) (o : Option ℕ) → plain_words (set_to option o ∷ []) ≡ []
unfolding plain_words
set_plain option None = refl
set_plain option (Some n) = refl

setting_plain : (options : List (List ℕ)) (g : Group) → IsSetting options g → plain_words (roles_of_group g) ≡ []
unfolding plain_words roles_of_group
setting_plain options (Word w) is = absurd is
setting_plain options (Apart option v) is = set_plain option (value_of v)
setting_plain options (Joined option v) is = set_plain option (value_of v)

pub options_move : (first : List ℕ) (before roles_without_before : List (List ℕ)) (g h : Group) → ends_whole (options_of first) before ≡ true → IsSetting (options_of first) g
    → IsGroup (options_of first) h
    → command_of (first ∷ (before ++ (spelt g ++ (spelt h ++ roles_without_before)))) ≡ command_of (first ∷ (before ++ (spelt h ++ (spelt g ++ roles_without_before))))
options_move first before roles_without_before g h whole setting group =
    let one = setting_group (options_of first) g setting in
    let a = roles (options_of first) [] roles_without_before in
    let i = roles_inside (options_of first) first before in
    command_of_line_by_roles first (before ++ (spelt g ++ (spelt h ++ roles_without_before)))
    ∙ (ap (command_at first) (line_roles_with_two_groups first before g h roles_without_before whole one group)
    ∙ (same_command first (i ++ (roles_of_group g ++ (roles_of_group h ++ a))) (i ++ (roles_of_group h ++ (roles_of_group g ++ a))) (exchange_groups i (roles_of_group g) (roles_of_group h) a (setting_plain (options_of first) g setting))
    ∙ (ap (command_at first) (sym (line_roles_with_two_groups first before h g roles_without_before whole group one)) ∙ sym (command_of_line_by_roles first (before ++ (spelt h ++ (spelt g ++ roles_without_before)))))))

without_name : (i a : List Role) → HaveSameContent (i ++ (Named ∷ a)) (i ++ a)
unfolding plain_words values_of
without_name i a =
    let values : (o : List ℕ) → values_of o (i ++ (Named ∷ a)) ≡ values_of o (i ++ a) =
    λ o. values-append o i (Named ∷ a) ∙ sym (values-append o i a) in
    record {
      known = list_all-append is_known i (Named ∷ a) ∙ sym (list_all-append is_known i a);
      plain = plain-append i (Named ∷ a) ∙ sym (plain-append i a);
      once = λ key. ap at_most_one (values (word_of_key key));
      values = λ key few. values (word_of_key key);
    }

pub options_join : (first option value : List ℕ) (before roles_without_before : List (List ℕ)) → ends_whole (options_of first) before ≡ true
    → IsSetting (options_of first) (Apart option value)
    → command_of (first ∷ (before ++ (option ∷ value ∷ roles_without_before))) ≡ command_of (first ∷ (before ++ ((option ++ (61 ∷ value)) ∷ roles_without_before)))
unfolding roles_of_group
options_join first option value before roles_without_before whole setting =
    let a = roles (options_of first) [] roles_without_before in
    let i = roles_inside (options_of first) first before in
    command_of_line_by_roles first (before ++ (option ∷ value ∷ roles_without_before))
    ∙ (ap (command_at first) (line_roles_with_one_group first before (Apart option value) roles_without_before whole setting)
    ∙ (same_command first (i ++ (Named ∷ set_to option (value_of value) ∷ a)) (i ++ (set_to option (value_of value) ∷ a)) (without_name i (set_to option (value_of value) ∷ a))
    ∙ (ap (command_at first) (sym (line_roles_with_one_group first before (Joined option value) roles_without_before whole setting)) ∙ sym (command_of_line_by_roles first (before ++ ((option ++ (61 ∷ value)) ∷ roles_without_before))))))
