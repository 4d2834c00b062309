-- The kinds of a text's tokens, from its end to its beginning: another piece at the front.
use Rattle.std.proofs.Common.{◌≡◌, ℕ, ◌+◌, ◌^◌, ◌<◌, ◌≤◌, Bool, true, false, List, [], ◌∷◌, ◌++◌, length, Option, Some, None, decimal, refl, sym, ap, subst, ◌∙◌, arith, append_assoc, length-append, nat_le, ◌&&◌}
use Rattle.std.proofs.lemmas.List.{append-nil, map-append}
use Rattle.std.proofs.lemmas.Bool.{and_parts}
use Rattle.std.proofs.lemmas.Bool.Decides.{nat_tests}
use Rattle.goal_lexer.specs.declared.tokens.Token.{Token}
use Rattle.goal_lexer.specs.declared.tokens.TokenKind.{TokenKind}
use Rattle.goal_lexer.specs.declared.tokens.TokenKind.TheVariants as token
use Rattle.goal_lexer.specs.declared.mode.Form.TheVariants.{Word, Digits, Sized}
use Rattle.goal_lexer.specs.Bytes.{begins_word, is_run_byte}
use Rattle.goal_lexer.specs.Runs.{run_kind}
use Rattle.goal_lexer.specs.Scan.{lexed}
use Rattle.goal_lexer.specs.Stands.{begins_run}
use Rattle.goal_lexer.specs.Pieces.{Piece, blank, run, sign, bytes_of, Each, AreWord, IsRight, spelled, AreRight, piece_tokens, tokens_of, EndsWith, NothingBegins}
use Rattle.goal_lexer.proofs.ForCallers.{cut_is_only_reading, first_in_run}
use Rattle.goal_parser.proofs.ForCallers.{kinds_of}
use Rattle.goal_print.specs.Canonical.{label}
use Rattle.goal_print.proofs.Numerals.{decimal_digits, number_value-decimal, length-decimal, label_word, length-label, label_kind, size_kind}

-- the text is pieces whose tokens have these kinds, wherever it begins
pub record Lexes (text : List ℕ) (kinds : List TokenKind) : Type 0 where
  pub pieces : List Piece
  pub spells : text ≡ spelled pieces
  pub right : AreRight pieces []
  pub tells : (place : ℕ) → kinds_of (tokens_of place pieces) ≡ kinds

pub lexes_empty : Lexes [] []
lexes_empty = record { pieces = []; spells = refl; right = tt; tells = λ place. refl }

-- another piece
lexes_piece : (p : Piece) (new : List TokenKind) (text : List ℕ) (kinds : List TokenKind) → IsRight p text
    → ((place : ℕ) → kinds_of (piece_tokens place p) ≡ new) → Lexes text kinds → Lexes (bytes_of p ++ text) (new ++ kinds)
lexes_piece p new text kinds right tells rest = record {
  pieces = p ∷ rest.pieces;
  spells = ap (λ (t : List ℕ). bytes_of p ++ t) rest.spells;
  right = (subst (IsRight p) (rest.spells ∙ sym (append-nil (spelled rest.pieces))) right, rest.right);
  tells = λ place.
      map-append (λ (t : Token). t.kind) (piece_tokens place p) (tokens_of (place + length (bytes_of p)) rest.pieces)
      ∙ ap (λ (l : List TokenKind). l ++ kinds_of (tokens_of (place + length (bytes_of p)) rest.pieces)) (tells place)
      ∙ ap (λ (l : List TokenKind). new ++ l) (rest.tells (place + length (bytes_of p)));
}

pub lexes_space : {text : List ℕ} {kinds : List TokenKind} → Lexes text kinds → Lexes (32 ∷ text) kinds
lexes_space {text} {kinds} rest = lexes_piece (blank 32) [] text kinds refl (λ place. refl) rest

pub lexes_line_feed : {text : List ℕ} {kinds : List TokenKind} → Lexes text kinds → Lexes (10 ∷ text) kinds
lexes_line_feed {text} {kinds} rest = lexes_piece (blank 10) [] text kinds refl (λ place. refl) rest

pub lexes_colon : {text : List ℕ} {kinds : List TokenKind} → Lexes text kinds → Lexes (58 ∷ text) (token.Colon ∷ kinds)
lexes_colon {text} {kinds} rest = lexes_piece (sign 58) (token.Colon ∷ []) text kinds refl (λ place. refl) rest

pub lexes_open : {text : List ℕ} {kinds : List TokenKind} → Lexes text kinds → Lexes (123 ∷ text) (token.Open ∷ kinds)
lexes_open {text} {kinds} rest = lexes_piece (sign 123) (token.Open ∷ []) text kinds refl (λ place. refl) rest

pub lexes_close : {text : List ℕ} {kinds : List TokenKind} → Lexes text kinds → Lexes (125 ∷ text) (token.Close ∷ kinds)
lexes_close {text} {kinds} rest = lexes_piece (sign 125) (token.Close ∷ []) text kinds refl (λ place. refl) rest

-- a word that no run byte follows
pub lexes_word : (word : List ℕ) (kind : TokenKind) {text : List ℕ} {kinds : List TokenKind} → AreWord word → length word ≤ 64
    → run_kind Word word ≡ kind → begins_run text ≡ false → Lexes text kinds → Lexes (word ++ text) (kind ∷ kinds)
lexes_word word kind {text} {kinds} are short is apart rest =
    lexes_piece (run Word word) (kind ∷ []) text kinds (are, short, apart) (λ place. ap (λ (k : TokenKind). k ∷ []) is) rest

pub lexes_label : (op : ℕ) {text : List ℕ} {kinds : List TokenKind} → op + 1 < 2 ^ 64 → begins_run text ≡ false
    → Lexes text kinds → Lexes (label op ++ text) (token.Label (label op) ∷ kinds)
lexes_label op small apart rest =
    lexes_word (label op) (token.Label (label op)) (label_word op small) (length-label op small) (label_kind op) apart rest

pub lexes_number : (n : ℕ) {text : List ℕ} {kinds : List TokenKind} → n < 2 ^ 64 → begins_run text ≡ false
    → Lexes text kinds → Lexes (decimal n ++ text) (token.Number n ∷ kinds)
lexes_number n {text} {kinds} small apart rest =
    let long : length (decimal n) ≤ 20 = length-decimal n small in
    lexes_piece (run Digits (decimal n)) (token.Number n ∷ []) text kinds (decimal_digits n small, omega arith, apart)
    (λ place. ap (λ (m : ℕ). token.Number m ∷ []) (number_value-decimal n small)) rest

pub lexes_size : (n : ℕ) {text : List ℕ} {kinds : List TokenKind} → n < 2 ^ 64 → begins_run text ≡ false
    → Lexes text kinds → Lexes (decimal n ++ 98 ∷ text) (token.Size n ∷ kinds)
lexes_size n {text} {kinds} small apart rest =
    let long : length (decimal n ++ 98 ∷ []) ≤ 64 = omega (arith, length-decimal n small, length-append (decimal n) (98 ∷ [])) in
    subst (λ (t : List ℕ). Lexes t (token.Size n ∷ kinds)) (append_assoc (decimal n) (98 ∷ []) text)
    (lexes_piece (run Sized (decimal n ++ 98 ∷ [])) (token.Size n ∷ []) text kinds
    ((decimal n, refl, decimal_digits n small), long, apart)
    (λ place. ap (λ (k : TokenKind). k ∷ []) (size_kind n small)) rest)

-- the test of a word of at most 64 bytes
abbrev pub all_run : List ℕ → Bool
all_run [] = true
all_run (c ∷ cs) = is_run_byte c && all_run cs

abbrev pub is_word : List ℕ → Bool
is_word [] = false
is_word (c ∷ cs) = begins_word c && (all_run cs && nat_le (length (c ∷ cs)) 64)

all_run_gives_each : (cs : List ℕ) → all_run cs ≡ true → Each is_run_byte cs
all_run_gives_each [] h = tt
all_run_gives_each (c ∷ cs) h = let parts = and_parts (is_run_byte c) (all_run cs) h in (parts.0, all_run_gives_each cs parts.1)

-- a test that passed
pub nat_le_true : (m n : ℕ) → nat_le m n ≡ true → m ≤ n
nat_le_true m n h = grind (arith, nat_tests)

is_word_gives_word : (w : List ℕ) → is_word w ≡ true → AreWord w × (length w ≤ 64)
is_word_gives_word [] h = cc
is_word_gives_word (c ∷ cs) h =
    let first = and_parts (begins_word c) (all_run cs && nat_le (length (c ∷ cs)) 64) h in
    let second = and_parts (all_run cs) (nat_le (length (c ∷ cs)) 64) first.1 in
    ((first.0, all_run_gives_each cs second.0), nat_le_true (length (c ∷ cs)) 64 second.1)

pub lexes_reserved : (word : List ℕ) (kind : TokenKind) {text : List ℕ} {kinds : List TokenKind} → is_word word ≡ true
    → run_kind Word word ≡ kind → begins_run text ≡ false → Lexes text kinds → Lexes (word ++ text) (kind ∷ kinds)
lexes_reserved word kind are is apart rest = let known = is_word_gives_word word are in lexes_word word kind known.0 known.1 is apart rest

-- the tokens of a text have these kinds, and it has no other tokens

nothing_at_end : NothingBegins []
nothing_at_end p after same right = by p same right
  where
    by : (p : Piece) → [] ≡ bytes_of p ++ after → IsRight p after → ⊥
    by (run form bytes) same right =
        let first = first_in_run form bytes right.0 in
        let whole : [] ≡ first.0 ∷ first.1 ++ after = same ∙ ap (λ (t : List ℕ). t ++ after) first.2 in
        cc
    by _ same right = cc

no_fault_at_end : (fault : Option ℕ) (place : ℕ) → EndsWith fault place [] → fault ≡ None
no_fault_at_end None place ends = refl
no_fault_at_end (Some at) place ends = absurd (ends.1 refl)

pub lexed_has_kinds : (text : List ℕ) (kinds : List TokenKind) → Lexes text kinds → (kinds_of (lexed text).0 ≡ kinds) × ((lexed text).1 ≡ None)
lexed_has_kinds text kinds is =
    let known = cut_is_only_reading text is.pieces [] (record { whole = is.spells ∙ sym (append-nil (spelled is.pieces)); right = is.right }) nothing_at_end in
    (ap kinds_of known.0 ∙ is.tells 0, no_fault_at_end (lexed text).1 (length (spelled is.pieces)) known.1)
