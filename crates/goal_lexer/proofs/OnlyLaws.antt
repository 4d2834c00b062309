-- A text can be cut into pieces in only one way.
use Rattle.std.proofs.Common.{◌≡◌, ℕ, ◌+◌, Bool, false, List, [], ◌∷◌, ◌++◌, length, Option, Some, None, IsSome, refl, sym, ap, subst, ◌∙◌, arith, append_assoc}
use Rattle.std.proofs.lemmas.Bool.{false≢true}
use Rattle.goal_lexer.specs.declared.mode.Form.{Form}
use Rattle.goal_lexer.specs.Bytes.{is_run_byte, slash, star}
use Rattle.goal_lexer.specs.Scan.{lexed}
use Rattle.goal_lexer.specs.Stands.{begins_run}
use Rattle.goal_lexer.specs.Pieces.{Piece, blank, line_comment, block_comment, run, sign, bytes_of, Each, HasForm, has_close, EndsLine, sign_kind, IsRight, spelled, AreRight, IsCutInto, tokens_of, NothingBegins, EndsWith}
use Rattle.goal_lexer.proofs.ByteLaws.{run_byte_is_no_blank, run_byte_is_no_slash, run_byte_is_no_sign, slash_is_no_blank, slash_is_no_sign, blank_is_no_sign}
use Rattle.goal_lexer.proofs.FormLaws.{form_of, form_of_bytes_with_form, first_in_run}
use Rattle.goal_lexer.proofs.CommentLaws.{has_close-tail}
use Rattle.goal_lexer.proofs.NothingLaws.{run_in_front, bytes_with_form_are_run_bytes}
use Rattle.goal_lexer.proofs.ReadingLaws.{in_line, reading_of}

-- the first byte passes the test
abbrev first_byte_passes : (ℕ → Bool) → List ℕ → Bool
first_byte_passes test [] = false
first_byte_passes test (c ∷ cs) = test c

-- the longest prefix of bytes that pass a test is unique
longest_prefix_unique : (test : ℕ → Bool) (xs ys a b : List ℕ) → Each test xs → Each test ys → first_byte_passes test a ≡ false → first_byte_passes test b ≡ false →
    xs ++ a ≡ ys ++ b → (xs ≡ ys) × (a ≡ b)
longest_prefix_unique test [] [] a b each_x each_y stop_a stop_b same = (refl, same)
longest_prefix_unique test [] (y ∷ ys) a b each_x each_y stop_a stop_b same =
    absurd (false≢true (sym stop_a ∙ ap (first_byte_passes test) same ∙ each_y.0))
longest_prefix_unique test (x ∷ xs) [] a b each_x each_y stop_a stop_b same =
    absurd (false≢true (sym stop_b ∙ ap (first_byte_passes test) (sym same) ∙ each_x.0))
longest_prefix_unique test (x ∷ xs) (y ∷ ys) a b each_x each_y stop_a stop_b same =
    let head : x ≡ y = cc in
    let tails : xs ++ a ≡ ys ++ b = cc in
    let known = longest_prefix_unique test xs ys a b each_x.1 each_y.1 stop_a stop_b tails in
    (ap (λ (c : ℕ). c ∷ xs) head ∙ ap (λ (t : List ℕ). y ∷ t) known.0, known.1)

first_is_no_run_byte_where_no_run_begins : (after : List ℕ) → begins_run after ≡ false → first_byte_passes is_run_byte after ≡ false
first_is_no_run_byte_where_no_run_begins [] apart = refl
first_is_no_run_byte_where_no_run_begins (c ∷ cs) apart = apart

first_is_not_in_line_where_line_ends : (after : List ℕ) → EndsLine after → first_byte_passes in_line after ≡ false
first_is_not_in_line_where_line_ends [] ends = refl
first_is_not_in_line_where_line_ends (c ∷ cs) ends = ap in_line ends

-- the first `*/` is unique
first_close_unique : (xs ys a b : List ℕ) → has_close xs ≡ false → has_close ys ≡ false →
    xs ++ star ∷ slash ∷ a ≡ ys ++ star ∷ slash ∷ b → (xs ≡ ys) × (a ≡ b)
first_close_unique [] [] a b none_x none_y same = (refl, cc)
first_close_unique [] (y ∷ []) a b none_x none_y same = let no : slash ≡ star = cc in absurd (omega arith)
first_close_unique [] (y ∷ z ∷ ys) a b none_x none_y same =
    let first : y ≡ star = cc in
    let second : z ≡ slash = cc in
    absurd (false≢true (sym none_y ∙ ap (λ (c : ℕ). has_close (c ∷ z ∷ ys)) first ∙ ap (λ (d : ℕ). has_close (star ∷ d ∷ ys)) second))
first_close_unique (x ∷ []) [] a b none_x none_y same = let no : slash ≡ star = cc in absurd (omega arith)
first_close_unique (x ∷ z ∷ xs) [] a b none_x none_y same =
    let first : x ≡ star = cc in
    let second : z ≡ slash = cc in
    absurd (false≢true (sym none_x ∙ ap (λ (c : ℕ). has_close (c ∷ z ∷ xs)) first ∙ ap (λ (d : ℕ). has_close (star ∷ d ∷ xs)) second))
first_close_unique (x ∷ xs) (y ∷ ys) a b none_x none_y same =
    let head : x ≡ y = cc in
    let tails : xs ++ star ∷ slash ∷ a ≡ ys ++ star ∷ slash ∷ b = cc in
    let known = first_close_unique xs ys a b (has_close-tail x xs none_x) (has_close-tail y ys none_y) tails in
    (ap (λ (c : ℕ). c ∷ xs) head ∙ ap (λ (t : List ℕ). y ∷ t) known.0, known.1)

block_comment_unique : (xs ys a b : List ℕ) → has_close xs ≡ false → has_close ys ≡ false →
    xs ++ star ∷ slash ∷ [] ++ a ≡ ys ++ star ∷ slash ∷ [] ++ b → (xs ≡ ys) × (a ≡ b)
block_comment_unique xs ys a b none_x none_y same =
    first_close_unique xs ys a b none_x none_y
    (sym (append_assoc xs (star ∷ slash ∷ []) a) ∙ same ∙ append_assoc ys (star ∷ slash ∷ []) b)

-- two runs at the front are the same
run_unique : (f g : Form) (xs ys a b : List ℕ) → HasForm f xs → HasForm g ys → begins_run a ≡ false → begins_run b ≡ false →
    xs ++ a ≡ ys ++ b → (run f xs ≡ run g ys) × (a ≡ b)
run_unique f g xs ys a b has_f has_g apart_a apart_b same =
    let found_f = form_of_bytes_with_form f xs has_f in
    let found_g = form_of_bytes_with_form g ys has_g in
    let known = longest_prefix_unique is_run_byte xs ys a b (bytes_with_form_are_run_bytes xs f found_f) (bytes_with_form_are_run_bytes ys g found_g) (first_is_no_run_byte_where_no_run_begins a apart_a) (first_is_no_run_byte_where_no_run_begins b apart_b) same in
    let forms : Some f ≡ Some g = sym found_f ∙ ap form_of known.0 ∙ found_g in
    let form : f ≡ g = cc in
    (ap (λ (h : Form). run h xs) form ∙ ap (λ (t : List ℕ). run g t) known.0, known.1)

-- two pieces at the front of a text are the same
first_piece_unique : (p q : Piece) (a b : List ℕ) → bytes_of p ++ a ≡ bytes_of q ++ b → IsRight p a → IsRight q b → (p ≡ q) × (a ≡ b)
first_piece_unique (blank c) (blank d) a b same right_p right_q = let head : c ≡ d = cc in (ap (λ (e : ℕ). blank e) head, cc)
first_piece_unique (blank c) (line_comment j) a b same right_p right_q =
    let head : c ≡ slash = cc in absurd (slash_is_no_blank c head right_p)
first_piece_unique (blank c) (block_comment j) a b same right_p right_q =
    let head : c ≡ slash = cc in absurd (slash_is_no_blank c head right_p)
first_piece_unique (blank c) (run g ys) a b same right_p right_q =
    absurd (run_byte_is_no_blank c (run_in_front g ys b c a same right_q.0) right_p)
first_piece_unique (blank c) (sign d) a b same right_p right_q =
    let head : d ≡ c = cc in absurd (blank_is_no_sign c right_p (subst (λ (e : ℕ). IsSome (sign_kind e)) head right_q))
first_piece_unique (line_comment i) (blank d) a b same right_p right_q =
    let head : d ≡ slash = cc in absurd (slash_is_no_blank d head right_q)
first_piece_unique (line_comment i) (line_comment j) a b same right_p right_q =
    let tails : i ++ a ≡ j ++ b = cc in
    let known = longest_prefix_unique in_line i j a b right_p.0 right_q.0 (first_is_not_in_line_where_line_ends a right_p.1) (first_is_not_in_line_where_line_ends b right_q.1) tails in
    (ap (λ (t : List ℕ). line_comment t) known.0, known.1)
first_piece_unique (line_comment i) (block_comment j) a b same right_p right_q =
    let no : slash ≡ star = cc in absurd (omega arith)
first_piece_unique (line_comment i) (run g ys) a b same right_p right_q =
    absurd (run_byte_is_no_slash slash (run_in_front g ys b slash (slash ∷ i ++ a) same right_q.0) refl)
first_piece_unique (line_comment i) (sign d) a b same right_p right_q =
    let head : d ≡ slash = cc in absurd (slash_is_no_sign d head right_q)
first_piece_unique (block_comment i) (blank d) a b same right_p right_q =
    let head : d ≡ slash = cc in absurd (slash_is_no_blank d head right_q)
first_piece_unique (block_comment i) (line_comment j) a b same right_p right_q =
    let no : star ≡ slash = cc in absurd (omega arith)
first_piece_unique (block_comment i) (block_comment j) a b same right_p right_q =
    let tails : i ++ star ∷ slash ∷ [] ++ a ≡ j ++ star ∷ slash ∷ [] ++ b = cc in
    let known = block_comment_unique i j a b right_p right_q tails in
    (ap (λ (t : List ℕ). block_comment t) known.0, known.1)
first_piece_unique (block_comment i) (run g ys) a b same right_p right_q =
    absurd (run_byte_is_no_slash slash (run_in_front g ys b slash (star ∷ i ++ star ∷ slash ∷ [] ++ a) same right_q.0) refl)
first_piece_unique (block_comment i) (sign d) a b same right_p right_q =
    let head : d ≡ slash = cc in absurd (slash_is_no_sign d head right_q)
first_piece_unique (run f xs) (blank d) a b same right_p right_q =
    absurd (run_byte_is_no_blank d (run_in_front f xs a d b (sym same) right_p.0) right_q)
first_piece_unique (run f xs) (line_comment j) a b same right_p right_q =
    absurd (run_byte_is_no_slash slash (run_in_front f xs a slash (slash ∷ j ++ b) (sym same) right_p.0) refl)
first_piece_unique (run f xs) (block_comment j) a b same right_p right_q =
    absurd (run_byte_is_no_slash slash (run_in_front f xs a slash (star ∷ j ++ star ∷ slash ∷ [] ++ b) (sym same) right_p.0) refl)
first_piece_unique (run f xs) (run g ys) a b same right_p right_q =
    run_unique f g xs ys a b right_p.0 right_q.0 right_p.2 right_q.2 same
first_piece_unique (run f xs) (sign d) a b same right_p right_q =
    absurd (run_byte_is_no_sign d (run_in_front f xs a d b (sym same) right_p.0) right_q)
first_piece_unique (sign c) (blank d) a b same right_p right_q =
    let head : c ≡ d = cc in absurd (blank_is_no_sign d right_q (subst (λ (e : ℕ). IsSome (sign_kind e)) head right_p))
first_piece_unique (sign c) (line_comment j) a b same right_p right_q =
    let head : c ≡ slash = cc in absurd (slash_is_no_sign c head right_p)
first_piece_unique (sign c) (block_comment j) a b same right_p right_q =
    let head : c ≡ slash = cc in absurd (slash_is_no_sign c head right_p)
first_piece_unique (sign c) (run g ys) a b same right_p right_q =
    absurd (run_byte_is_no_sign c (run_in_front g ys b c a same right_q.0) right_p)
first_piece_unique (sign c) (sign d) a b same right_p right_q = let head : c ≡ d = cc in (ap (λ (e : ℕ). sign e) head, cc)

-- two cuts of a text are equal if nothing begins after either
cuts_equal : (ps qs : List Piece) (r s : List ℕ) → spelled ps ++ r ≡ spelled qs ++ s → AreRight ps r → AreRight qs s →
    NothingBegins r → NothingBegins s → (ps ≡ qs) × (r ≡ s)
cuts_equal [] [] r s same right_p right_q nothing_r nothing_s = (refl, same)
cuts_equal [] (q ∷ qs) r s same right_p right_q nothing_r nothing_s =
    absurd (nothing_r q (spelled qs ++ s) (same ∙ append_assoc (bytes_of q) (spelled qs) s) right_q.0)
cuts_equal (p ∷ ps) [] r s same right_p right_q nothing_r nothing_s =
    absurd (nothing_s p (spelled ps ++ r) (sym same ∙ append_assoc (bytes_of p) (spelled ps) r) right_p.0)
cuts_equal (p ∷ ps) (q ∷ qs) r s same right_p right_q nothing_r nothing_s =
    let first = first_piece_unique p q (spelled ps ++ r) (spelled qs ++ s)
    (sym (append_assoc (bytes_of p) (spelled ps) r) ∙ same ∙ append_assoc (bytes_of q) (spelled qs) s) right_p.0 right_q.0 in
    let others = cuts_equal ps qs r s first.1 right_p.1 right_q.1 nothing_r nothing_s in
    (ap (λ (x : Piece). x ∷ ps) first.0 ∙ ap (λ (xs : List Piece). q ∷ xs) others.0, others.1)

-- nothing begins at the end of a text
nothing_at_end : NothingBegins []
nothing_at_end (blank c) after same right = cc
nothing_at_end (line_comment inside) after same right = cc
nothing_at_end (block_comment inside) after same right = cc
nothing_at_end (run form bytes) after same right =
    let first = first_in_run form bytes right.0 in
    let whole : [] ≡ first.0 ∷ first.1 ++ after = same ∙ ap (λ (t : List ℕ). t ++ after) first.2 in
    cc
nothing_at_end (sign c) after same right = cc

nothing_at_rest : (fault : Option ℕ) (place : ℕ) (rest : List ℕ) → EndsWith fault place rest → NothingBegins rest
nothing_at_rest None place rest ends = subst NothingBegins (sym ends) nothing_at_end
nothing_at_rest (Some at) place rest ends = ends.2

-- however a text is cut into pieces up to where nothing begins, its tokens and its fault are those of the scan
pub cut_is_only_reading : (text : List ℕ) (pieces : List Piece) (rest : List ℕ) → IsCutInto text pieces rest → NothingBegins rest →
    ((lexed text).0 ≡ tokens_of 0 pieces) × EndsWith (lexed text).1 (length (spelled pieces)) rest
cut_is_only_reading text pieces rest cut nothing =
    let reading = reading_of text in
    let place : 0 + length (spelled reading.pieces) ≡ length (spelled reading.pieces) = omega arith in
    let known = cuts_equal reading.pieces pieces reading.rest rest (sym reading.cut.whole ∙ cut.whole) reading.cut.right cut.right
    (nothing_at_rest (lexed text).1 (0 + length (spelled reading.pieces)) reading.rest reading.end) nothing in (
      reading.tokens_are ∙ ap (tokens_of 0) known.0,
      subst (EndsWith (lexed text).1 (length (spelled pieces))) known.1
          (subst (λ (ps : List Piece). EndsWith (lexed text).1 (length (spelled ps)) reading.rest) known.0
          (subst (λ (p : ℕ). EndsWith (lexed text).1 p reading.rest) place reading.end)),
    )

-- two cuts of one text are the same
pub cut_unique : (text : List ℕ) (pieces others : List Piece) (rest left : List ℕ) → IsCutInto text pieces rest → NothingBegins rest →
    IsCutInto text others left → NothingBegins left → (pieces ≡ others) × (rest ≡ left)
cut_unique text pieces others rest left cut nothing other_cut nothing_left =
    cuts_equal pieces others rest left (sym cut.whole ∙ other_cut.whole) cut.right other_cut.right nothing nothing_left
