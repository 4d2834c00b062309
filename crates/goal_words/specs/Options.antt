-- The role of each word of a line after the first, and the values of its options. A command allows some options; each
-- is a word that begins with `--`.
use Rattle.std.specs.Prelude.{ℕ, ◌==◌, ◌&&◌, ◌^◌, nat_lt, Bool, true, false, List, [], ◌∷◌, Option, Some, None, is_some, unwrap_or, codes, bytes_eq, if◌then◌else◌}
use Rattle.std.specs.List.{list_all, list_any, before_first, after_first}
use Rattle.std.specs.Str.Parse.{digits_value}
use Rattle.goal_base.specs.Numerals.{is_numeral}
use Rattle.sim_params.specs.Costs.{Numbers}
use Rattle.sim_params.specs.Limits.{first_over}
use Rattle.sim_params.specs.Defaults.{default_latency, default_overhead, default_gap, default_gap_per_byte, default_overhead_per_byte, default_sync}

-- the options of a run: its eight parameters
abbrev pub run_options : List (List ℕ)
run_options =
    codes "--L" ∷ codes "--o" ∷ codes "--g" ∷ codes "--G" ∷ codes "--Gp" ∷ codes "--O" ∷ codes "--Op" ∷ codes "--S" ∷ []

-- the option of a collective
abbrev pub root_option : List (List ℕ)
root_option = codes "--root" ∷ []

abbrev pub all_options : List (List ℕ)
all_options = codes "--root" ∷ run_options

abbrev pub is_option : List (List ℕ) → List ℕ → Bool
is_option options w = list_any (bytes_eq w) options

-- a word that begins with `-`, and so is not a plain word
abbrev pub begins_dash : List ℕ → Bool
begins_dash [] = false
begins_dash (b ∷ bs) = b == 45

-- a number is 1 to 20 decimal digits, and below 2^64 (no limit is higher)
abbrev pub is_number : List ℕ → Bool
is_number w = is_numeral w && nat_lt (digits_value 10 w) (2 ^ 64)

-- the value of a number
abbrev pub value_of : List ℕ → Option ℕ
value_of w = if is_number w then Some (digits_value 10 w) else None

-- the role of a word
pub data Role : Type 0 where
  -- a plain word
  Plain : List ℕ → Role
  -- an option word, whose value is the next word
  Named : Role
  -- the value of that option: the word after the option word, or the value joined to it by `=`
  Set : List ℕ → ℕ → Role
  -- none of these
  Wrong : Role

-- the value of the option, if it is a number
abbrev pub set_to : List ℕ → Option ℕ → Role
set_to option (Some n) = Set option n
set_to option None = Wrong

-- an option, `=` and its value in one word
abbrev pub joined_option : List (List ℕ) → List ℕ → Role
joined_option options w =
    if is_option options (before_first (λ b. b == 61) w) then set_to (before_first (λ b. b == 61) w) (value_of (after_first (λ b. b == 61) w)) else Wrong

-- the role of word w after the word `before`
abbrev pub role : List (List ℕ) → List ℕ → List ℕ → Role
role options before w =
    if is_option options before then set_to before (value_of w)
    else (if begins_dash w then (if is_option options w then Named else joined_option options w) else Plain w)

-- the roles of words after the word `before`; an option word at the end has no value
unfoldable pub roles : List (List ℕ) → List ℕ → List (List ℕ) → List Role
roles options before [] = if is_option options before then Wrong ∷ [] else []
roles options before (w ∷ words) = role options before w ∷ roles options w words

-- the plain words, in their order
unfoldable pub plain_words : List Role → List (List ℕ)
plain_words [] = []
plain_words (Plain w ∷ ps) = w ∷ plain_words ps
plain_words (Named ∷ ps) = plain_words ps
plain_words (Set option n ∷ ps) = plain_words ps
plain_words (Wrong ∷ ps) = plain_words ps

-- all values that an option is given
unfoldable pub values_of : List ℕ → List Role → List ℕ
values_of o [] = []
values_of o (Plain w ∷ ps) = values_of o ps
values_of o (Named ∷ ps) = values_of o ps
values_of o (Set option n ∷ ps) = if bytes_eq option o then n ∷ values_of o ps else values_of o ps
values_of o (Wrong ∷ ps) = values_of o ps

abbrev pub is_known : Role → Bool
is_known Wrong = false
is_known _ = true

abbrev pub at_most_one : List ℕ → Bool
at_most_one [] = true
at_most_one (n ∷ []) = true
at_most_one (n ∷ m ∷ ns) = false

-- each word has a role, and each option is given at most once
abbrev pub are_right : List Role → Bool
are_right ps = list_all is_known ps && list_all (λ o. at_most_one (values_of o ps)) all_options

abbrev pub first_of : List ℕ → Option ℕ
first_of [] = None
first_of (n ∷ ns) = Some n

-- the value of an option, if it is given
abbrev pub value_at : List ℕ → List Role → Option ℕ
value_at o ps = first_of (values_of o ps)

-- the parameters of a run: those given, and otherwise the defaults
abbrev pub numbers_of : List Role → Numbers
numbers_of ps = record {
  latency = unwrap_or (value_at (codes "--L") ps) default_latency;
  overhead = unwrap_or (value_at (codes "--o") ps) default_overhead;
  gap = unwrap_or (value_at (codes "--g") ps) default_gap;
  gap_per_byte = unwrap_or (value_at (codes "--G") ps) default_gap_per_byte;
  gap_picos = unwrap_or (value_at (codes "--Gp") ps) 0;
  overhead_per_byte = unwrap_or (value_at (codes "--O") ps) default_overhead_per_byte;
  overhead_picos = unwrap_or (value_at (codes "--Op") ps) 0;
  sync = unwrap_or (value_at (codes "--S") ps) default_sync;
}

-- the parameters, if they are within their limits
abbrev pub within_limits : Numbers → Option Numbers
within_limits p = if is_some (first_over p) then None else Some p
