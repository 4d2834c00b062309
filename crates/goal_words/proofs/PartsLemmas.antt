-- The parts of a line, from the roles of all its words.
use Rattle.std.proofs.Common.{◌≡◌, ◌&&◌, ℕ, Bool, true, false, List, [], ◌∷◌, Option, Some, None, is_some, codes, bytes_eq, refl, sym, ap, subst, ◌∙◌, inl, inr, ◌⊎◌, if◌then◌else◌}
use Rattle.std.specs.Option.{option_map, option_and_then}
use Rattle.std.specs.List.{list_all}
use Rattle.sim_params.specs.Costs.{Numbers}
use Rattle.goal_words.specs.declared.options.OptionKey.{OptionKey}
use Rattle.goal_words.specs.declared.options.OptionKey.TheVariants.{Latency, Overhead, Gap, GapPerByte, GapPicos, OverheadPerByte, OverheadPicos, Sync, Root}
use Rattle.goal_words.specs.declared.options.AllowedOptions.{AllowedOptions}
use Rattle.goal_words.specs.declared.options.OptionValues.{OptionValues}
use Rattle.goal_words.specs.Options.{Role, Plain, Named, Set, Wrong, is_option, all_options, plain_words, values_of, first_of, is_known, at_most_one, are_right, value_at, roles}
use Rattle.goal_words.specs.Reading.{Parts, key_named, words_of, none_given, given_for, set, with_set, with_plain, numbers_given, parts_of, parts_in, are_one_to_three}
use Rattle.goal_words.specs.Words.{Command, options_of, command_by, command_of}
use Rattle.goal_words.proofs.KeyLemmas.{word_of_key, IsKeyOf, named_known, non_option_differs_from_key_word, first_no_option, empty_no_option}
use Rattle.goal_words.proofs.RoleLemmas.{roles_without_before}

abbrev is_nothing : List ℕ → Bool
is_nothing [] = true
is_nothing (n ∷ ns) = false

-- whether an option stays set at most once, and its value, given its earlier value and its new ones
abbrev stays_at_most_one : Option ℕ → List ℕ → Bool
stays_at_most_one None ns = at_most_one ns
stays_at_most_one (Some m) ns = is_nothing ns

abbrev final_value : Option ℕ → List ℕ → Option ℕ
final_value None ns = first_of ns
final_value (Some m) ns = Some m

abbrev pub all_keys : (OptionKey → Bool) → Bool
all_keys f =
    list_all f (Root ∷ Latency ∷ Overhead ∷ Gap ∷ GapPerByte ∷ GapPicos ∷ OverheadPerByte ∷ OverheadPicos ∷ Sync ∷ [])

abbrev pub of_keys : (OptionKey → Option ℕ) → OptionValues
of_keys f = record {
  latency = f Latency;
  overhead = f Overhead;
  gap = f Gap;
  gap_per_byte = f GapPerByte;
  gap_picos = f GapPicos;
  overhead_per_byte = f OverheadPerByte;
  overhead_picos = f OverheadPicos;
  sync = f Sync;
  root = f Root;
}

pub all_keys_of_equal_tests : (f h : OptionKey → Bool) → ((k : OptionKey) → f k ≡ h k) → all_keys f ≡ all_keys h
all_keys_of_equal_tests f h each =
    rw (each Root, each Latency, each Overhead, each Gap, each GapPerByte, each GapPicos, each OverheadPerByte, each OverheadPicos, each Sync) refl

pub of_keys_of_equal_values : (f h : OptionKey → Option ℕ) → ((k : OptionKey) → f k ≡ h k) → of_keys f ≡ of_keys h
of_keys_of_equal_values f h each =
    rw (each Root, each Latency, each Overhead, each Gap, each GapPerByte, each GapPicos, each OverheadPerByte, each OverheadPicos, each Sync) refl

all_true : (f : OptionKey → Bool) → ((k : OptionKey) → f k ≡ true) → all_keys f ≡ true
all_true f each = all_keys_of_equal_tests f (λ k. true) each

-- the parts of a line, from all its roles
abbrev parts_if : Bool → List (List ℕ) → OptionValues → Option Parts
parts_if right plain given = if right then Some (record { plain = plain; given = given }) else None

abbrev parts_with : OptionValues → List Role → Option Parts
parts_with g ps =
    parts_if (list_all is_known ps && all_keys (λ k. stays_at_most_one (given_for g k) (values_of (word_of_key k) ps))) (plain_words ps) (of_keys (λ k. final_value (given_for g k) (values_of (word_of_key k) ps)))

with_plain_parts_if : (right : Bool) (w : List ℕ) (plain : List (List ℕ)) (given : OptionValues) → option_map (with_plain w) (parts_if right plain given) ≡ parts_if right (w ∷ plain) given
with_plain_parts_if true w plain given = refl
with_plain_parts_if false w plain given = refl

no_value_stays_at_most_one : (o : Option ℕ) → stays_at_most_one o [] ≡ true
no_value_stays_at_most_one None = refl
no_value_stays_at_most_one (Some m) = refl

final_value_without_new : (o : Option ℕ) → final_value o [] ≡ o
final_value_without_new None = refl
final_value_without_new (Some m) = refl

-- two options are the same, or have different words and fields
same_or_other_key : (key k : OptionKey) → (key ≡ k) ⊎ ((bytes_eq (word_of_key key) (word_of_key k) ≡ false) × ((g : OptionValues) (n : ℕ) → given_for (set g key n) k ≡ given_for g k))
same_or_other_key Latency Latency = inl refl
same_or_other_key Overhead Overhead = inl refl
same_or_other_key Gap Gap = inl refl
same_or_other_key GapPerByte GapPerByte = inl refl
same_or_other_key GapPicos GapPicos = inl refl
same_or_other_key OverheadPerByte OverheadPerByte = inl refl
same_or_other_key OverheadPicos OverheadPicos = inl refl
same_or_other_key Sync Sync = inl refl
same_or_other_key Root Root = inl refl
same_or_other_key _ _ = inr (refl, λ g n. refl)

same_key : (key : OptionKey) → bytes_eq (word_of_key key) (word_of_key key) ≡ true
same_key Latency = refl
same_key Overhead = refl
same_key Gap = refl
same_key GapPerByte = refl
same_key GapPicos = refl
same_key OverheadPerByte = refl
same_key OverheadPicos = refl
same_key Sync = refl
same_key Root = refl

set_is_given : (g : OptionValues) (key : OptionKey) (n : ℕ) → given_for (set g key n) key ≡ Some n
set_is_given g Latency n = refl
set_is_given g Overhead n = refl
set_is_given g Gap n = refl
set_is_given g GapPerByte n = refl
set_is_given g GapPicos n = refl
set_is_given g OverheadPerByte n = refl
set_is_given g OverheadPicos n = refl
set_is_given g Sync n = refl
set_is_given g Root n = refl

and_both_false : (b c : Bool) → c ≡ false → (b && c) ≡ false
and_both_false true c h = h
and_both_false false c h = refl

pub all_keys_false_if_one_false : (f : OptionKey → Bool) (key : OptionKey) → f key ≡ false → all_keys f ≡ false
all_keys_false_if_one_false f Root h = rw h refl
all_keys_false_if_one_false f Latency h = and_both_false (f Root) _ (rw h refl)
all_keys_false_if_one_false f Overhead h = and_both_false (f Root) _ (and_both_false (f Latency) _ (rw h refl))
all_keys_false_if_one_false f Gap h = and_both_false (f Root) _ (and_both_false (f Latency) _ (and_both_false (f Overhead) _ (rw h refl)))
all_keys_false_if_one_false f GapPerByte h =
    and_both_false (f Root) _ (and_both_false (f Latency) _ (and_both_false (f Overhead) _ (and_both_false (f Gap) _ (rw h refl))))
all_keys_false_if_one_false f GapPicos h =
    and_both_false (f Root) _
    (and_both_false (f Latency) _ (and_both_false (f Overhead) _ (and_both_false (f Gap) _ (and_both_false (f GapPerByte) _ (rw h refl)))))
all_keys_false_if_one_false f OverheadPerByte h =
    and_both_false (f Root) _
    (and_both_false (f Latency) _
    (and_both_false (f Overhead) _ (and_both_false (f Gap) _ (and_both_false (f GapPerByte) _ (and_both_false (f GapPicos) _ (rw h refl))))))
all_keys_false_if_one_false f OverheadPicos h =
    and_both_false (f Root) _
    (and_both_false (f Latency) _
    (and_both_false (f Overhead) _
    (and_both_false (f Gap) _ (and_both_false (f GapPerByte) _ (and_both_false (f GapPicos) _ (and_both_false (f OverheadPerByte) _ (rw h refl)))))))
all_keys_false_if_one_false f Sync h =
    and_both_false (f Root) _
    (and_both_false (f Latency) _
    (and_both_false (f Overhead) _
    (and_both_false (f Gap) _
    (and_both_false (f GapPerByte) _
    (and_both_false (f GapPicos) _ (and_both_false (f OverheadPerByte) _ (and_both_false (f OverheadPicos) _ (rw h refl))))))))

at_most_one-cons : (n : ℕ) (ns : List ℕ) → at_most_one (n ∷ ns) ≡ is_nothing ns
at_most_one-cons n [] = refl
at_most_one-cons n (m ∷ ns) = refl

-- one option, after an option is set
stays_at_most_one_after_set : (g : OptionValues) (key k : OptionKey) (n : ℕ) (ps : List Role) → given_for g key ≡ None
    → stays_at_most_one (given_for (set g key n) k) (values_of (word_of_key k) ps) ≡ stays_at_most_one (given_for g k) (values_of (word_of_key k) (Set (word_of_key key) n ∷ ps))
unfolding values_of
stays_at_most_one_after_set g key k n ps none = by (same_or_other_key key k)
  where
    by : (key ≡ k) ⊎ ((bytes_eq (word_of_key key) (word_of_key k) ≡ false) × ((h : OptionValues) (m : ℕ) → given_for (set h key m) k ≡ given_for h k))
        → stays_at_most_one (given_for (set g key n) k) (values_of (word_of_key k) ps) ≡ stays_at_most_one (given_for g k) (values_of (word_of_key k) (Set (word_of_key key) n ∷ ps))
    by (inl e) =
        subst (λ x. stays_at_most_one (given_for (set g key n) x) (values_of (word_of_key x) ps) ≡ stays_at_most_one (given_for g x) (values_of (word_of_key x) (Set (word_of_key key) n ∷ ps))) e
        (rw (set_is_given g key n, none, same_key key) (sym (at_most_one-cons n (values_of (word_of_key key) ps))))
    by (inr o) = rw (o.0, o.1 g n) refl

final_value_after_set : (g : OptionValues) (key k : OptionKey) (n : ℕ) (ps : List Role) → given_for g key ≡ None
    → final_value (given_for (set g key n) k) (values_of (word_of_key k) ps) ≡ final_value (given_for g k) (values_of (word_of_key k) (Set (word_of_key key) n ∷ ps))
unfolding values_of
final_value_after_set g key k n ps none = by (same_or_other_key key k)
  where
    by : (key ≡ k) ⊎ ((bytes_eq (word_of_key key) (word_of_key k) ≡ false) × ((h : OptionValues) (m : ℕ) → given_for (set h key m) k ≡ given_for h k))
        → final_value (given_for (set g key n) k) (values_of (word_of_key k) ps) ≡ final_value (given_for g k) (values_of (word_of_key k) (Set (word_of_key key) n ∷ ps))
    by (inl e) =
        subst (λ x. final_value (given_for (set g key n) x) (values_of (word_of_key x) ps) ≡ final_value (given_for g x) (values_of (word_of_key x) (Set (word_of_key key) n ∷ ps))) e
        (rw (set_is_given g key n, none, same_key key) refl)
    by (inr o) = rw (o.0, o.1 g n) refl

equal_parts_with_set_option : (g h : OptionValues) (option : List ℕ) (n : ℕ) (ps : List Role)
    → ((k : OptionKey) → stays_at_most_one (given_for h k) (values_of (word_of_key k) ps) ≡ stays_at_most_one (given_for g k) (values_of (word_of_key k) (Set option n ∷ ps)))
    → ((k : OptionKey) → final_value (given_for h k) (values_of (word_of_key k) ps) ≡ final_value (given_for g k) (values_of (word_of_key k) (Set option n ∷ ps)))
    → parts_with h ps ≡ parts_with g (Set option n ∷ ps)
unfolding plain_words
equal_parts_with_set_option g h option n ps rights values =
    ap (λ right. parts_if (list_all is_known ps && right) (plain_words ps) (of_keys (λ k. final_value (given_for h k) (values_of (word_of_key k) ps))))
    (all_keys_of_equal_tests (λ k. stays_at_most_one (given_for h k) (values_of (word_of_key k) ps)) (λ k. stays_at_most_one (given_for g k) (values_of (word_of_key k) (Set option n ∷ ps))) rights)
    ∙ ap (λ given. parts_if (list_all is_known ps && all_keys (λ k. stays_at_most_one (given_for g k) (values_of (word_of_key k) (Set option n ∷ ps)))) (plain_words ps) given)
    (of_keys_of_equal_values (λ k. final_value (given_for h k) (values_of (word_of_key k) ps)) (λ k. final_value (given_for g k) (values_of (word_of_key k) (Set option n ∷ ps))) values)

-- an option that is set twice
second_value_fails : (g : OptionValues) (key : OptionKey) (n m : ℕ) (ps : List Role) → given_for g key ≡ Some m → None ≡ parts_with g (Set (word_of_key key) n ∷ ps)
unfolding values_of
second_value_fails g key n m ps given =
    ap (λ right. parts_if right (plain_words (Set (word_of_key key) n ∷ ps)) (of_keys (λ k. final_value (given_for g k) (values_of (word_of_key k) (Set (word_of_key key) n ∷ ps)))))
    (sym (and_both_false (list_all is_known (Set (word_of_key key) n ∷ ps)) (all_keys (λ k. stays_at_most_one (given_for g k) (values_of (word_of_key k) (Set (word_of_key key) n ∷ ps))))
    (all_keys_false_if_one_false (λ k. stays_at_most_one (given_for g k) (values_of (word_of_key k) (Set (word_of_key key) n ∷ ps))) key (rw (given, same_key key) refl))))

parts_after_set_key : (g : OptionValues) (key : OptionKey) (n : ℕ) (ps : List Role) (o : Option ℕ) → given_for g key ≡ o → ((h : OptionValues) → parts_of h ps ≡ parts_with h ps)
    → option_and_then (λ h. parts_of h ps) (if is_some o then None else Some (set g key n)) ≡ parts_with g (Set (word_of_key key) n ∷ ps)
parts_after_set_key g key n ps None none next =
    next (set g key n)
    ∙ equal_parts_with_set_option g (set g key n) (word_of_key key) n ps (λ k. stays_at_most_one_after_set g key k n ps none) (λ k. final_value_after_set g key k n ps none)
parts_after_set_key g key n ps (Some m) given next = second_value_fails g key n m ps given

parts_after_set_option : (g : OptionValues) (option : List ℕ) (n : ℕ) (ps : List Role) (found : Option OptionKey) → IsKeyOf found (is_option all_options option) option
    → ((h : OptionValues) → parts_of h ps ≡ parts_with h ps) → option_and_then (λ h. parts_of h ps) (with_set g found n) ≡ parts_with g (Set option n ∷ ps)
unfolding values_of
parts_after_set_option g option n ps None none next =
    next g
    ∙ equal_parts_with_set_option g g option n ps (λ k. rw (non_option_differs_from_key_word option k none) refl) (λ k. rw (non_option_differs_from_key_word option k none) refl)
parts_after_set_option g option n ps (Some key) found next =
    subst (λ w. option_and_then (λ h. parts_of h ps) (with_set g (Some key) n) ≡ parts_with g (Set w n ∷ ps)) (sym found.1)
    (parts_after_set_key g key n ps (given_for g key) refl next)

pub parts_of_is_parts_with : (g : OptionValues) (ps : List Role) → parts_of g ps ≡ parts_with g ps
unfolding parts_of values_of plain_words
parts_of_is_parts_with g [] =
    rw (all_true (λ k. stays_at_most_one (given_for g k) []) (λ k. no_value_stays_at_most_one (given_for g k)))
    (ap (λ h. Some (record { plain = []; given = h })) (sym (of_keys_of_equal_values (λ k. final_value (given_for g k) []) (given_for g) (λ k. final_value_without_new (given_for g k)))))
parts_of_is_parts_with g (Plain w ∷ ps) =
    ap (option_map (with_plain w)) (parts_of_is_parts_with g ps)
    ∙ with_plain_parts_if (list_all is_known ps && all_keys (λ k. stays_at_most_one (given_for g k) (values_of (word_of_key k) ps))) w (plain_words ps) (of_keys (λ k. final_value (given_for g k) (values_of (word_of_key k) ps)))
parts_of_is_parts_with g (Named ∷ ps) = parts_of_is_parts_with g ps
parts_of_is_parts_with g (Wrong ∷ ps) = refl
parts_of_is_parts_with g (Set option n ∷ ps) = parts_after_set_option g option n ps (key_named option) (named_known option) (λ h. parts_of_is_parts_with h ps)

-- the command of words, from their parts
pub command_read : (taken : AllowedOptions) (first : List ℕ) (words : List (List ℕ)) → words_of taken ≡ options_of first
    → command_of (first ∷ words) ≡ option_and_then (λ parts. command_by first parts.plain (numbers_given parts.given) parts.given.root) (parts_in taken none_given words)
unfolding parts_in
command_read taken first words same =
    let ps = roles (options_of first) first words in
    let first_only : roles (words_of taken) [] words ≡ ps =
    ap (λ o. roles o [] words) same ∙ sym (roles_without_before (options_of first) first words (first_no_option taken first same) (ap (λ o. is_option o []) (sym same) ∙ empty_no_option taken)) in
    let read : parts_of none_given (roles (words_of taken) [] words) ≡ parts_with none_given ps =
    ap (parts_of none_given) first_only ∙ parts_of_is_parts_with none_given ps in
    rw read (judged (are_right ps) first (plain_words ps) (of_keys (λ k. value_at (word_of_key k) ps)))
  where
    judged : (right : Bool) (w : List ℕ) (plain : List (List ℕ)) (given : OptionValues)
        → (if right then command_by w plain (numbers_given given) given.root else None) ≡ option_and_then (λ parts. command_by w parts.plain (numbers_given parts.given) parts.given.root) (parts_if right plain given)
    judged true w plain given = refl
    judged false w plain given = refl

all_false_is_none : (a b c d e f g h i : Bool)
    → ◌≡◌ {A = Option Command} (if a then None else (if b then None else (if c then None else (if d then None else (if e then None else (if f then None else (if g then None else (if h then None else (if i then None else None))))))))) None
all_false_is_none true b c d e f g h i = refl
all_false_is_none false true c d e f g h i = refl
all_false_is_none false false true d e f g h i = refl
all_false_is_none false false false true e f g h i = refl
all_false_is_none false false false false true f g h i = refl
all_false_is_none false false false false false true g h i = refl
all_false_is_none false false false false false false true h i = refl
all_false_is_none false false false false false false false true i = refl
all_false_is_none false false false false false false false false true = refl
all_false_is_none false false false false false false false false false = refl

-- no command of these
unknown_command : (first : List ℕ)
    → ◌≡◌ {A = Option Command} (if bytes_eq first (codes "sim") then None else (if bytes_eq first (codes "waits") then None else (if bytes_eq first (codes "knots") then None else (if bytes_eq first (codes "nodes") then None else (if bytes_eq first (codes "compile") then None else (if bytes_eq first (codes "show") then None else (if bytes_eq first (codes "gen") then None else (if bytes_eq first (codes "certify") then None else (if bytes_eq first (codes "probe") then None else None))))))))) None
unknown_command first =
    all_false_is_none (bytes_eq first (codes "sim")) (bytes_eq first (codes "waits")) (bytes_eq first (codes "knots")) (bytes_eq first (codes "nodes")) (bytes_eq first (codes "compile")) (bytes_eq first (codes "show")) (bytes_eq first (codes "gen")) (bytes_eq first (codes "certify")) (bytes_eq first (codes "probe"))

-- every command has one to three plain words
pub command_needs_one_to_three_words : (first : List ℕ) (plain : List (List ℕ)) (params : Numbers) (root : Option ℕ) → are_one_to_three plain ≡ false → command_by first plain params root ≡ None
command_needs_one_to_three_words first [] params root few = unknown_command first
command_needs_one_to_three_words first (a ∷ []) params root few = absurd cc
command_needs_one_to_three_words first (a ∷ b ∷ []) params root few = absurd cc
command_needs_one_to_three_words first (a ∷ b ∷ c ∷ []) params root few = absurd cc
command_needs_one_to_three_words first (a ∷ b ∷ c ∷ d ∷ plain) params root few = unknown_command first
