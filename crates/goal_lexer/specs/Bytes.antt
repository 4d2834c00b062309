-- Classes of bytes.
use Rattle.std.specs.Prelude.{ℕ, Bool, ◌||◌, ◌==◌}
use Rattle.std.specs.Char.{is_ascii_alphabetic, is_ascii_digit}
pub use Rattle.goal_limits.specs.Bytes.{is_blank}

-- a letter or `_`
abbrev pub begins_word : ℕ → Bool
begins_word c = is_ascii_alphabetic c || c == 95

-- a decimal digit
abbrev pub is_digit : ℕ → Bool
is_digit c = is_ascii_digit c

-- a run byte: a letter, a digit or `_`
abbrev pub is_run_byte : ℕ → Bool
is_run_byte c = begins_word c || is_digit c

-- `{`, `}` and `:`, each of which is a token
abbrev pub left_brace : ℕ
left_brace = 123

abbrev pub right_brace : ℕ
right_brace = 125

abbrev pub colon : ℕ
colon = 58

-- `/`, `*` and the line feed, which begin and end comments
abbrev pub slash : ℕ
slash = 47

abbrev pub star : ℕ
star = 42

abbrev pub line_feed : ℕ
line_feed = 10

-- the `b` after the digits of a size
abbrev pub size_mark : ℕ
size_mark = 98
