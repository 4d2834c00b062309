-- Reading the words of a line from the front: the options before the next plain word, and then that word.
use Rattle.std.specs.Prelude.{ℕ, Bool, true, false, List, [], ◌∷◌, not, Option, Some, None, is_some, unwrap_or, map, codes, bytes_eq, string_bytes, if◌then◌else◌}
use Rattle.std.specs.Option.{option_map, option_and_then}
use Rattle.sim_params.specs.Costs.{Numbers}
use Rattle.sim_params.specs.Defaults.{default_latency, default_overhead, default_gap, default_gap_per_byte, default_overhead_per_byte, default_sync}
use Rattle.goal_words.specs.Options.{Role, Plain, Named, Set, Wrong, run_options, root_option, begins_dash, value_of, roles}
use Rattle.goal_words.specs.declared.options.OptionKey.{OptionKey}
use Rattle.goal_words.specs.declared.options.OptionKey.TheVariants.{Latency, Overhead, Gap, GapPerByte, GapPicos, OverheadPerByte, OverheadPicos, Sync, Root}
use Rattle.goal_words.specs.declared.options.AllowedOptions.{AllowedOptions}
use Rattle.goal_words.specs.declared.options.AllowedOptions.TheVariants as taken_by
use Rattle.goal_words.specs.declared.options.OptionValues.{OptionValues}
use Rattle.goal_words.specs.declared.words_left.WordsLeft.{WordsLeft}
use Rattle.goal_words.specs.declared.words_left.PlainWords.{PlainWords}
use Rattle.goal_words.specs.declared.words_left.PlainWords.TheVariants.{One, Two, Three}

-- this option if the word is its word, and otherwise what the others say
abbrev pub named_or : List ℕ → List ℕ → OptionKey → Option OptionKey → Option OptionKey
named_or w option key others = if bytes_eq w option then Some key else others

-- the option of a run with that word
abbrev pub run_key_of : List ℕ → Option OptionKey
run_key_of w =
    named_or w (codes "--L") Latency
    (named_or w (codes "--o") Overhead
    (named_or w (codes "--g") Gap
    (named_or w (codes "--G") GapPerByte
    (named_or w (codes "--Gp") GapPicos
    (named_or w (codes "--O") OverheadPerByte
    (named_or w (codes "--Op") OverheadPicos
    (named_or w (codes "--S") Sync None)))))))

-- the option with that word
abbrev pub key_named : List ℕ → Option OptionKey
key_named w = named_or w (codes "--root") Root (run_key_of w)

-- the option with that word among those that a command allows
abbrev pub key_of : AllowedOptions → List ℕ → Option OptionKey
key_of taken_by.Run w = run_key_of w
key_of taken_by.Root w = named_or w (codes "--root") Root None
key_of taken_by.Nothing w = None

-- the words of the options that a command allows
abbrev pub words_of : AllowedOptions → List (List ℕ)
words_of taken_by.Run = run_options
words_of taken_by.Root = root_option
words_of taken_by.Nothing = []

-- no option yet
abbrev pub none_given : OptionValues
none_given = record {
  latency = None;
  overhead = None;
  gap = None;
  gap_per_byte = None;
  gap_picos = None;
  overhead_per_byte = None;
  overhead_picos = None;
  sync = None;
  root = None;
}

-- the value of an option, if it is given
abbrev pub given_for : OptionValues → OptionKey → Option ℕ
given_for g Latency = g.latency
given_for g Overhead = g.overhead
given_for g Gap = g.gap
given_for g GapPerByte = g.gap_per_byte
given_for g GapPicos = g.gap_picos
given_for g OverheadPerByte = g.overhead_per_byte
given_for g OverheadPicos = g.overhead_picos
given_for g Sync = g.sync
given_for g Root = g.root

-- the options, with one set to a number
abbrev pub set : OptionValues → OptionKey → ℕ → OptionValues
set g Latency n = record g { latency = Some n }
set g Overhead n = record g { overhead = Some n }
set g Gap n = record g { gap = Some n }
set g GapPerByte n = record g { gap_per_byte = Some n }
set g GapPicos n = record g { gap_picos = Some n }
set g OverheadPerByte n = record g { overhead_per_byte = Some n }
set g OverheadPicos n = record g { overhead_picos = Some n }
set g Sync n = record g { sync = Some n }
set g Root n = record g { root = Some n }

-- the options with another one, unless it is already given
abbrev pub with_option : OptionValues → OptionKey → ℕ → Option OptionValues
with_option g key n = if is_some (given_for g key) then None else Some (set g key n)

-- the options with another one, whose value is this word
abbrev pub with_value : OptionValues → OptionKey → List ℕ → Option OptionValues
with_value g key w = option_and_then (λ n. with_option g key n) (value_of w)

-- the options with that of this word set, if there is one
abbrev pub with_set : OptionValues → Option OptionKey → ℕ → Option OptionValues
with_set g None n = Some g
with_set g (Some key) n = with_option g key n

-- the parameters of a run: those given, and otherwise the defaults
abbrev pub numbers_given : OptionValues → Numbers
numbers_given g = record {
  latency = unwrap_or g.latency default_latency;
  overhead = unwrap_or g.overhead default_overhead;
  gap = unwrap_or g.gap default_gap;
  gap_per_byte = unwrap_or g.gap_per_byte default_gap_per_byte;
  gap_picos = unwrap_or g.gap_picos 0;
  overhead_per_byte = unwrap_or g.overhead_per_byte default_overhead_per_byte;
  overhead_picos = unwrap_or g.overhead_picos 0;
  sync = unwrap_or g.sync default_sync;
}

-- plain words, and the values of the options
pub record Parts : Type 0 where
  pub plain : List (List ℕ)
  pub given : OptionValues

-- the same after another plain word at the front
abbrev pub with_plain : List ℕ → Parts → Parts
with_plain w parts = record { plain = w ∷ parts.plain; given = parts.given }

-- the parts of a line with these roles, after the options given before
unfoldable pub parts_of : OptionValues → List Role → Option Parts
parts_of g [] = Some (record { plain = []; given = g })
parts_of g (Plain w ∷ ps) = option_map (with_plain w) (parts_of g ps)
parts_of g (Named ∷ ps) = parts_of g ps
parts_of g (Set option n ∷ ps) = option_and_then (λ h. parts_of h ps) (with_set g (key_named option) n)
parts_of g (Wrong ∷ ps) = None

-- the parts of words that do not follow an option word
unfoldable pub parts_in : AllowedOptions → OptionValues → List (List ℕ) → Option Parts
parts_in taken g words = parts_of g (roles (words_of taken) [] words)

-- the parts of what is left of a line
abbrev pub left : WordsLeft → Option Parts
left rest = parts_in rest.taken rest.given (map string_bytes rest.words.now)

-- there are no more words, or a plain word comes first
abbrev pub begins_plain : List (List ℕ) → Bool
begins_plain [] = true
begins_plain (w ∷ words) = not (begins_dash w)

-- the words, one to three of them
abbrev pub listed : PlainWords → List (List ℕ)
listed (One a) = a.now ∷ []
listed (Two a b) = a.now ∷ b.now ∷ []
listed (Three a b c) = a.now ∷ b.now ∷ c.now ∷ []

abbrev pub are_one_to_three : List (List ℕ) → Bool
are_one_to_three (a ∷ []) = true
are_one_to_three (a ∷ b ∷ []) = true
are_one_to_three (a ∷ b ∷ c ∷ []) = true
are_one_to_three _ = false
