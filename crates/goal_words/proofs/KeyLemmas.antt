-- Which words are options.
use Rattle.std.proofs.Common.{◌≡◌, ◌||◌, ℕ, Bool, true, false, List, [], Option, Some, None, codes, bytes_eq, refl, sym, subst, ap, ◌∙◌, if◌then◌else◌}
use Rattle.std.proofs.lemmas.Bool.{both_ways}
use Rattle.std.proofs.lemmas.Slice.Eq.{bytes_eq-Decides}
use Rattle.goal_words.specs.declared.options.OptionKey.{OptionKey}
use Rattle.goal_words.specs.declared.options.OptionKey.TheVariants.{Latency, Overhead, Gap, GapPerByte, GapPicos, OverheadPerByte, OverheadPicos, Sync, Root}
use Rattle.goal_words.specs.declared.options.AllowedOptions.{AllowedOptions}
use Rattle.goal_words.specs.declared.options.AllowedOptions.TheVariants as taken_by
use Rattle.goal_words.specs.Options.{run_options, all_options, is_option, begins_dash, value_of}
use Rattle.goal_words.specs.Words.{options_of}
use Rattle.goal_words.specs.Reading.{named_or, run_key_of, key_named, key_of, words_of}

-- the word of an option
abbrev pub word_of_key : OptionKey → List ℕ
word_of_key Latency = codes "--L"
word_of_key Overhead = codes "--o"
word_of_key Gap = codes "--g"
word_of_key GapPerByte = codes "--G"
word_of_key GapPicos = codes "--Gp"
word_of_key OverheadPerByte = codes "--O"
word_of_key OverheadPicos = codes "--Op"
word_of_key Sync = codes "--S"
word_of_key Root = codes "--root"

-- the option found for a word agrees with a test of the word
abbrev pub IsKeyOf : Option OptionKey → Bool → List ℕ → Type 0
IsKeyOf None test w = test ≡ false
IsKeyOf (Some key) test w = (test ≡ true) × (w ≡ word_of_key key)

step_by : (b : Bool) (w x : List ℕ) (key : OptionKey) (others : Option OptionKey) (test : Bool) → bytes_eq w x ≡ b → x ≡ word_of_key key → IsKeyOf others test w
    → IsKeyOf (if b then Some key else others) (b || test) w
step_by true w x key others test same e h = (refl, (bytes_eq-Decides w x).0 same ∙ e)
step_by false w x key others test same e h = h

is_key_of_with_added_word : (w x : List ℕ) (key : OptionKey) (others : Option OptionKey) (test : Bool) → x ≡ word_of_key key → IsKeyOf others test w
    → IsKeyOf (named_or w x key others) (bytes_eq w x || test) w
is_key_of_with_added_word w x key others test e h = step_by (bytes_eq w x) w x key others test refl e h

run_known : (w : List ℕ) → IsKeyOf (run_key_of w) (is_option run_options w) w
run_known w =
    is_key_of_with_added_word w (codes "--L") Latency _ _ refl
    (is_key_of_with_added_word w (codes "--o") Overhead _ _ refl
    (is_key_of_with_added_word w (codes "--g") Gap _ _ refl
    (is_key_of_with_added_word w (codes "--G") GapPerByte _ _ refl
    (is_key_of_with_added_word w (codes "--Gp") GapPicos _ _ refl
    (is_key_of_with_added_word w (codes "--O") OverheadPerByte _ _ refl
    (is_key_of_with_added_word w (codes "--Op") OverheadPicos _ _ refl
    (is_key_of_with_added_word w (codes "--S") Sync None false refl refl)))))))

key_of_agrees_with_option_test : (taken : AllowedOptions) (w : List ℕ) → IsKeyOf (key_of taken w) (is_option (words_of taken) w) w
key_of_agrees_with_option_test taken_by.Run w = run_known w
key_of_agrees_with_option_test taken_by.Root w = is_key_of_with_added_word w (codes "--root") Root None false refl refl
key_of_agrees_with_option_test taken_by.Nothing w = refl

pub named_known : (w : List ℕ) → IsKeyOf (key_named w) (is_option all_options w) w
named_known w = is_key_of_with_added_word w (codes "--root") Root (run_key_of w) (is_option run_options w) refl (run_known w)

pub key_found : (taken : AllowedOptions) (w : List ℕ) (key : OptionKey) → key_of taken w ≡ Some key → (is_option (words_of taken) w ≡ true) × (w ≡ word_of_key key)
key_found taken w key h = subst (λ o. IsKeyOf o (is_option (words_of taken) w) w) h (key_of_agrees_with_option_test taken w)

pub key_none : (taken : AllowedOptions) (w : List ℕ) → key_of taken w ≡ None → is_option (words_of taken) w ≡ false
key_none taken w h = subst (λ o. IsKeyOf o (is_option (words_of taken) w) w) h (key_of_agrees_with_option_test taken w)

passed_test_finds_key : (o : Option OptionKey) (test : Bool) (w : List ℕ) → IsKeyOf o test w → test ≡ true → (key : OptionKey) × (w ≡ word_of_key key)
passed_test_finds_key None test w k t = absurd (both_ways test k t)
passed_test_finds_key (Some key) test w k t = (key, k.1)

pub option_word_has_key : (taken : AllowedOptions) (w : List ℕ) → is_option (words_of taken) w ≡ true → (key : OptionKey) × (w ≡ word_of_key key)
option_word_has_key taken w h = passed_test_finds_key (key_of taken w) (is_option (words_of taken) w) w (key_of_agrees_with_option_test taken w) h

pub false_unless_true : (test : Bool) → (test ≡ true → ⊥) → test ≡ false
false_unless_true true h = absurd (h refl)
false_unless_true false h = refl

pub key_named_by_own_word : (key : OptionKey) → key_named (word_of_key key) ≡ Some key
key_named_by_own_word Latency = refl
key_named_by_own_word Overhead = refl
key_named_by_own_word Gap = refl
key_named_by_own_word GapPerByte = refl
key_named_by_own_word GapPicos = refl
key_named_by_own_word OverheadPerByte = refl
key_named_by_own_word OverheadPicos = refl
key_named_by_own_word Sync = refl
key_named_by_own_word Root = refl

word_is_option : (key : OptionKey) → is_option all_options (word_of_key key) ≡ true
word_is_option Latency = refl
word_is_option Overhead = refl
word_is_option Gap = refl
word_is_option GapPerByte = refl
word_is_option GapPicos = refl
word_is_option OverheadPerByte = refl
word_is_option OverheadPicos = refl
word_is_option Sync = refl
word_is_option Root = refl

word_dash : (key : OptionKey) → begins_dash (word_of_key key) ≡ true
word_dash Latency = refl
word_dash Overhead = refl
word_dash Gap = refl
word_dash GapPerByte = refl
word_dash GapPicos = refl
word_dash OverheadPerByte = refl
word_dash OverheadPicos = refl
word_dash Sync = refl
word_dash Root = refl

word_no_number : (key : OptionKey) → value_of (word_of_key key) ≡ None
word_no_number Latency = refl
word_no_number Overhead = refl
word_no_number Gap = refl
word_no_number GapPerByte = refl
word_no_number GapPicos = refl
word_no_number OverheadPerByte = refl
word_no_number OverheadPicos = refl
word_no_number Sync = refl
word_no_number Root = refl

-- a word that is no option word
pub non_option_differs_from_key_word : (w : List ℕ) (key : OptionKey) → is_option all_options w ≡ false → bytes_eq w (word_of_key key) ≡ false
non_option_differs_from_key_word w key none =
    false_unless_true (bytes_eq w (word_of_key key))
    (λ same. both_ways (is_option all_options w) none (ap (is_option all_options) ((bytes_eq-Decides w (word_of_key key)).0 same) ∙ word_is_option key))

pub option_dash : (taken : AllowedOptions) (w : List ℕ) → is_option (words_of taken) w ≡ true → begins_dash w ≡ true
option_dash taken w h =
    let found = option_word_has_key taken w h in ap begins_dash found.1 ∙ word_dash found.0

pub plain_no_option : (taken : AllowedOptions) (w : List ℕ) → begins_dash w ≡ false → is_option (words_of taken) w ≡ false
plain_no_option taken w plain = false_unless_true (is_option (words_of taken) w) (λ h. both_ways (begins_dash w) plain (option_dash taken w h))

none_is_not_some : (n : ℕ) → None ≡ Some n → ⊥
none_is_not_some n h = cc

pub number_no_option : (taken : AllowedOptions) (w : List ℕ) (n : ℕ) → value_of w ≡ Some n → is_option (words_of taken) w ≡ false
number_no_option taken w n number =
    false_unless_true (is_option (words_of taken) w)
    (λ h.
    let found = option_word_has_key taken w h in
    none_is_not_some n (sym (word_no_number found.0) ∙ (sym (ap value_of found.1) ∙ number)))

pub empty_no_option : (taken : AllowedOptions) → is_option (words_of taken) [] ≡ false
empty_no_option taken_by.Run = refl
empty_no_option taken_by.Root = refl
empty_no_option taken_by.Nothing = refl

-- no command's word is one of its options
key_word_is_no_own_option : (key : OptionKey) → is_option (options_of (word_of_key key)) (word_of_key key) ≡ false
key_word_is_no_own_option Latency = refl
key_word_is_no_own_option Overhead = refl
key_word_is_no_own_option Gap = refl
key_word_is_no_own_option GapPerByte = refl
key_word_is_no_own_option GapPicos = refl
key_word_is_no_own_option OverheadPerByte = refl
key_word_is_no_own_option OverheadPicos = refl
key_word_is_no_own_option Sync = refl
key_word_is_no_own_option Root = refl

pub first_no_option : (taken : AllowedOptions) (first : List ℕ) → words_of taken ≡ options_of first → is_option (options_of first) first ≡ false
first_no_option taken first same =
    false_unless_true (is_option (options_of first) first)
    (λ h.
    let found = option_word_has_key taken first (ap (λ o. is_option o first) same ∙ h) in
    both_ways (is_option (options_of first) first) (ap (λ w. is_option (options_of w) w) found.1 ∙ key_word_is_no_own_option found.0) h)

pub bytes_eq_of_different : (w x : List ℕ) → (w ≡ x → ⊥) → bytes_eq w x ≡ false
bytes_eq_of_different w x differs = false_unless_true (bytes_eq w x) (λ same. differs ((bytes_eq-Decides w x).0 same))
