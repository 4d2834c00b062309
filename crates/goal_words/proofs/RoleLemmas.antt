-- The roles of the words of a line, step by step.
use Rattle.std.proofs.Common.{◌≡◌, ◌==◌, ℕ, true, false, List, [], ◌∷◌, Option, Some, None, refl, ap, ◌∙◌}
use Rattle.std.specs.Option.{option_map, option_and_then}
use Rattle.std.specs.List.{before_first, after_first}
use Rattle.goal_words.specs.declared.options.OptionKey.{OptionKey}
use Rattle.goal_words.specs.declared.options.AllowedOptions.{AllowedOptions}
use Rattle.goal_words.specs.declared.options.OptionValues.{OptionValues}
use Rattle.goal_words.specs.Options.{Set, is_option, begins_dash, value_of, set_to, roles}
use Rattle.goal_words.specs.Reading.{key_of, words_of, with_option, with_value, with_plain, parts_of, parts_in}
use Rattle.goal_words.proofs.KeyLemmas.{word_of_key, key_named_by_own_word, key_found, key_none, option_dash, plain_no_option, number_no_option, empty_no_option}

-- after a word that is no option word
pub roles_without_before : (options : List (List ℕ)) (before : List ℕ) (words : List (List ℕ)) → is_option options before ≡ false → is_option options [] ≡ false
    → roles options before words ≡ roles options [] words
unfolding roles
roles_without_before options before [] h e = rw (h, e) refl
roles_without_before options before (w ∷ words) h e = rw (h, e) refl

pub parts_in_no_words : (taken : AllowedOptions) (g : OptionValues) → parts_in taken g [] ≡ Some (record { plain = []; given = g })
unfolding parts_in parts_of roles
parts_in_no_words taken g = rw (empty_no_option taken) refl

pub parts_in_after_plain_word : (taken : AllowedOptions) (g : OptionValues) (w : List ℕ) (words : List (List ℕ)) → begins_dash w ≡ false
    → parts_in taken g (w ∷ words) ≡ option_map (with_plain w) (parts_in taken g words)
unfolding parts_in parts_of roles
parts_in_after_plain_word taken g w words plain =
    rw (empty_no_option taken, plain, roles_without_before (words_of taken) w words (plain_no_option taken w plain) (empty_no_option taken)) refl

-- an option is set, and no option word is last
set_step : (taken : AllowedOptions) (g : OptionValues) (option : List ℕ) (key : OptionKey) (o : Option ℕ) (words : List (List ℕ)) → option ≡ word_of_key key
    → parts_of g (set_to option o ∷ roles (words_of taken) [] words)
    ≡ option_and_then (λ h. parts_in taken h words) (option_and_then (λ n. with_option g key n) o)
unfolding parts_in parts_of
set_step taken g option key None words e = refl
set_step taken g option key (Some n) words e = rw (e, key_named_by_own_word key) refl

set_apart : (taken : AllowedOptions) (g : OptionValues) (option v : List ℕ) (key : OptionKey) (o : Option ℕ) (words : List (List ℕ)) → value_of v ≡ o → option ≡ word_of_key key
    → parts_of g (set_to option o ∷ roles (words_of taken) v words)
    ≡ option_and_then (λ h. parts_in taken h words) (option_and_then (λ n. with_option g key n) o)
unfolding parts_of
set_apart taken g option v key None words number e = refl
set_apart taken g option v key (Some n) words number e =
    ap (λ ps. parts_of g (Set option n ∷ ps)) (roles_without_before (words_of taken) v words (number_no_option taken v n number) (empty_no_option taken))
    ∙ set_step taken g option key (Some n) words e

pub parts_in_option_and_value : (taken : AllowedOptions) (g : OptionValues) (w v : List ℕ) (key : OptionKey) (words : List (List ℕ)) → key_of taken w ≡ Some key
    → parts_in taken g (w ∷ v ∷ words) ≡ option_and_then (λ h. parts_in taken h words) (with_value g key v)
unfolding parts_in parts_of roles
parts_in_option_and_value taken g w v key words h =
    let found = key_found taken w key h in
    rw (empty_no_option taken, option_dash taken w found.0, found.0) (set_apart taken g w v key (value_of v) words refl found.1)

pub parts_in_option_without_value : (taken : AllowedOptions) (g : OptionValues) (w : List ℕ) (key : OptionKey) → key_of taken w ≡ Some key → parts_in taken g (w ∷ []) ≡ None
unfolding parts_in parts_of roles
parts_in_option_without_value taken g w key h =
    let found = key_found taken w key h in rw (empty_no_option taken, option_dash taken w found.0, found.0) refl

pub parts_in_joined_option : (taken : AllowedOptions) (g : OptionValues) (w : List ℕ) (key : OptionKey) (words : List (List ℕ)) → begins_dash w ≡ true → key_of taken w ≡ None
    → key_of taken (before_first (λ b. b == 61) w) ≡ Some key
    → parts_in taken g (w ∷ words) ≡ option_and_then (λ h. parts_in taken h words) (with_value g key (after_first (λ b. b == 61) w))
unfolding parts_in parts_of roles
parts_in_joined_option taken g w key words dash none h =
    let found = key_found taken (before_first (λ b. b == 61) w) key h in
    rw (empty_no_option taken, dash, key_none taken w none, found.0, roles_without_before (words_of taken) w words (key_none taken w none) (empty_no_option taken))
    (set_step taken g (before_first (λ b. b == 61) w) key (value_of (after_first (λ b. b == 61) w)) words found.1)

pub parts_in_unknown_option : (taken : AllowedOptions) (g : OptionValues) (w : List ℕ) (words : List (List ℕ)) → begins_dash w ≡ true → key_of taken w ≡ None
    → key_of taken (before_first (λ b. b == 61) w) ≡ None → parts_in taken g (w ∷ words) ≡ None
unfolding parts_in parts_of roles
parts_in_unknown_option taken g w words dash none other =
    rw (empty_no_option taken, dash, key_none taken w none, key_none taken (before_first (λ b. b == 61) w) other) refl
