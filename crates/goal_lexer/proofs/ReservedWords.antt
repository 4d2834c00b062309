-- A reserved word is found among those of its length, by its last byte first.
use Rattle.std.proofs.Common.{◌≡◌, ℕ, ◌-◌, ◌&&◌, Bool, true, false, List, [], ◌∷◌, length, get_or, nat_eq, bytes_eq, if◌then◌else◌, refl, sym, ap, ◌∙◌, arith}
use Rattle.std.proofs.lemmas.Bool.{and_parts}
use Rattle.std.proofs.lemmas.Slice.Eq.{bytes_eq-Decides}
use Rattle.std.proofs.lemmas.Bool.Decides.{nat_tests}
use Rattle.goal_lexer.specs.declared.tokens.TokenKind.{TokenKind}
use Rattle.goal_lexer.specs.declared.tokens.TokenKind.TheVariants.{Label}
use Rattle.goal_lexer.specs.Reserved.{ends_reserved, words_of_length}
use Rattle.goal_lexer.specs.Words.{kind_among, reserved_words, word_kind}

-- bytes of another length are not the word
other_length_other_word : (xs ys : List ℕ) → nat_eq (length xs) (length ys) ≡ false → bytes_eq xs ys ≡ false
other_length_other_word xs ys other = differs (bytes_eq xs ys) refl
  where
    differs : (b : Bool) → bytes_eq xs ys ≡ b → bytes_eq xs ys ≡ false
    differs false is = is
    differs true is =
        let same = ap length ((bytes_eq-Decides xs ys).0 is) in
        absurd (grind (arith, nat_tests))

-- one entry: those of another length are left out
kind_of_entry : (b : Bool) (entry : List ℕ × TokenKind) (entries few : List (List ℕ × TokenKind)) (word : List ℕ) →
    nat_eq (length word) (length entry.0) ≡ b → kind_among few word ≡ kind_among entries word →
    kind_among (if b then entry ∷ few else few) word ≡ kind_among (entry ∷ entries) word
kind_of_entry true entry entries few word is below =
    ap (λ (k : TokenKind). if bytes_eq word entry.0 then entry.1 else k) below
kind_of_entry false entry entries few word is below =
    below ∙ ap (λ (b : Bool). if b then entry.1 else kind_among entries word) (sym (other_length_other_word word entry.0 is))

pub kind_among_length : (entries : List (List ℕ × TokenKind)) (word : List ℕ) →
    kind_among (words_of_length (length word) entries) word ≡ kind_among entries word
kind_among_length [] word = refl
kind_among_length (entry ∷ entries) word =
    kind_of_entry (nat_eq (length word) (length entry.0)) entry entries (words_of_length (length word) entries) word refl
    (kind_among_length entries word)

-- the last byte is that of a reserved word
abbrev pub ends_as_reserved : List ℕ → Bool
ends_as_reserved bytes = ends_reserved (get_or bytes (length bytes - 1) 0)

-- each word of the table ends with such a byte
abbrev all_end_as_reserved : List (List ℕ × TokenKind) → Bool
all_end_as_reserved [] = true
all_end_as_reserved (entry ∷ entries) = ends_as_reserved entry.0 && all_end_as_reserved entries

-- bytes with another end are not the word
other_end_other_word : (xs ys : List ℕ) → ends_as_reserved xs ≡ false → ends_as_reserved ys ≡ true → bytes_eq xs ys ≡ false
other_end_other_word xs ys free other = differs (bytes_eq xs ys) refl
  where
    differs : (b : Bool) → bytes_eq xs ys ≡ b → bytes_eq xs ys ≡ false
    differs false is = is
    differs true is =
        let same : ends_as_reserved xs ≡ ends_as_reserved ys = ap ends_as_reserved ((bytes_eq-Decides xs ys).0 is) in
        let no : false ≡ true = sym free ∙ same ∙ other in
        cc

label_among_by_end : (entries : List (List ℕ × TokenKind)) (word : List ℕ) → all_end_as_reserved entries ≡ true → ends_as_reserved word ≡ false →
    kind_among entries word ≡ Label word
label_among_by_end [] word all free = refl
label_among_by_end (entry ∷ entries) word all free =
    let parts = and_parts (ends_as_reserved entry.0) (all_end_as_reserved entries) all in
    ap (λ (b : Bool). if b then entry.1 else kind_among entries word) (other_end_other_word word entry.0 free parts.0)
    ∙ label_among_by_end entries word parts.1 free

-- a word with an end that no reserved word has is a label
pub label_by_end : (word : List ℕ) → ends_as_reserved word ≡ false → word_kind word ≡ Label word
label_by_end word free = label_among_by_end reserved_words word refl free
