-- What is left of a line after an option, a plain word or at its end.
use Rattle.std.proofs.Common.{◌≡◌, ◌≢◌, ◌<◌, ◌==◌, ℕ, true, false, List, [], ◌∷◌, length, Option, Some, None, MatchOption, IfSome, map, string_bytes, refl, ◌∙◌, arith}
use Rattle.std.specs.Option.{option_map, option_and_then}
use Rattle.std.specs.List.{before_first, after_first, position_or_len}
use Rattle.std.specs.declared.alloc.Global.{Global}
use Rattle.std.specs.declared.string.String.{String}
use Rattle.std.proofs.lemmas.List.{drop_all}
use Rattle.std.proofs.lemmas.Bool.{not-true}
use Rattle.goal_words.specs.declared.options.OptionKey.{OptionKey}
use Rattle.goal_words.specs.declared.options.AllowedOptions.{AllowedOptions}
use Rattle.goal_words.specs.declared.options.OptionValues.{OptionValues}
use Rattle.goal_words.specs.declared.words_left.WordsLeft.{WordsLeft}
use Rattle.goal_words.specs.Options.{begins_dash}
use Rattle.goal_words.specs.Reading.{Parts, key_of, with_plain, parts_in, left, begins_plain, are_one_to_three}
use Rattle.goal_words.proofs.RoleLemmas.{parts_in_no_words, parts_in_after_plain_word, parts_in_option_without_value, parts_in_joined_option, parts_in_unknown_option}

-- an option with its value, if there is one
pub parts_after_option_with_value : (r : Option WordsLeft) (o : Option OptionValues) (taken : AllowedOptions) (words : List (String Global)) (p : Option Parts)
    → p ≡ option_and_then (λ h. parts_in taken h (map string_bytes words)) o
    → MatchOption r (o ≡ None) (λ rest. (o ≡ Some rest.given) × (rest.taken ≡ taken) × (rest.words.now ≡ words))
    → MatchOption r (p ≡ None) (λ rest. p ≡ left rest)
parts_after_option_with_value None o taken words p e h = rw h at e
parts_after_option_with_value (Some rest) o taken words p e h = e ∙ rw (h.0, h.1, h.2) refl

-- an option word at the end
pub option_without_value : (taken : AllowedOptions) (g : OptionValues) (w : List ℕ) (key : OptionKey) (words : List (String Global)) → key_of taken w ≡ Some key → length words ≡ 0
    → parts_in taken g (w ∷ map string_bytes words) ≡ None
option_without_value taken g w key [] h none = parts_in_option_without_value taken g w key h
option_without_value taken g w key (x ∷ words) h none = absurd (omega arith)

-- a word that begins with `-` and has no `=`
pub unknown_option_without_equals_sign_fails : (taken : AllowedOptions) (g : OptionValues) (w : List ℕ) (words : List (List ℕ)) → begins_dash w ≡ true → key_of taken w ≡ None
    → position_or_len (λ b. b == 61) w ≡ length w → parts_in taken g (w ∷ words) ≡ None
unknown_option_without_equals_sign_fails taken g w words dash none last = by (key_of taken (before_first (λ b. b == 61) w)) refl
  where
    nothing : after_first (λ b. b == 61) w ≡ []
    nothing = drop_all _ w (omega (arith, last))

    by : (o : Option OptionKey) → key_of taken (before_first (λ b. b == 61) w) ≡ o → parts_in taken g (w ∷ words) ≡ None
    by None other = parts_in_unknown_option taken g w words dash none other
    by (Some key) other = parts_in_joined_option taken g w key words dash none other ∙ rw nothing refl

-- no more words
pub no_words_left : (taken : AllowedOptions) (g : OptionValues) (words : List (String Global)) → length words ≡ 0
    → parts_in taken g (map string_bytes words) ≡ Some (record { plain = []; given = g })
no_words_left taken g [] none = parts_in_no_words taken g
no_words_left taken g (x ∷ words) none = absurd (omega arith)

-- a plain word is next
pub plain_word_is_first_of_parts : (taken : AllowedOptions) (g : OptionValues) (x : String Global) (words : List (String Global)) → begins_plain (map string_bytes (x ∷ words)) ≡ true
    → parts_in taken g (map string_bytes (x ∷ words)) ≡ option_map (with_plain (string_bytes x)) (parts_in taken g (map string_bytes words))
plain_word_is_first_of_parts taken g x words plain = parts_in_after_plain_word taken g (string_bytes x) (map string_bytes words) (not-true (begins_dash (string_bytes x)) plain)

some_plain : (w : List ℕ) (o : Option Parts) → IfSome (option_map (with_plain w) o) (λ parts. parts.plain ≢ [])
some_plain w None = tt
some_plain w (Some parts) = λ h. cc

pub parts_begun_by_plain_word_not_empty : (taken : AllowedOptions) (g : OptionValues) (words : List (String Global)) → begins_plain (map string_bytes words) ≡ true → 0 < length words
    → IfSome (parts_in taken g (map string_bytes words)) (λ parts. parts.plain ≢ [])
parts_begun_by_plain_word_not_empty taken g [] plain some = absurd (omega arith)
parts_begun_by_plain_word_not_empty taken g (x ∷ words) plain some =
    rw (plain_word_is_first_of_parts taken g x words plain) (some_plain (string_bytes x) (parts_in taken g (map string_bytes words)))

-- more than three
pub four_plain_words_are_too_many : (a b c : List ℕ) (o : Option Parts) → IfSome o (λ parts. parts.plain ≢ [])
    → IfSome (option_map (with_plain a) (option_map (with_plain b) (option_map (with_plain c) o))) (λ parts. are_one_to_three parts.plain ≡ false)
four_plain_words_are_too_many a b c None h = tt
four_plain_words_are_too_many a b c (Some parts) h = by parts.plain h
  where
    by : (plain : List (List ℕ)) → plain ≢ [] → are_one_to_three (a ∷ b ∷ c ∷ plain) ≡ false
    by [] some = absurd (some refl)
    by (d ∷ plain) some = refl
