-- The scan of a text reads its pieces.
use Rattle.std.proofs.Common.{◌≡◌, ◌≢◌, ℕ, ◌+◌, ◌<◌, ◌≤◌, Bool, true, false, ◌&&◌, not, List, [], ◌∷◌, ◌++◌, length, Option, Some, None, IsSome, ◌==◌, nat_lt, refl, sym, ap, subst, ◌∙◌, arith, append_assoc}
use Rattle.std.proofs.lemmas.Bool.{false≢true, and_parts}
use Rattle.std.proofs.lemmas.Bool.Decides.{nat_tests}
use Rattle.std.proofs.lemmas.List.{append-nil}
use Rattle.goal_lexer.specs.declared.mode.Form.{Form}
use Rattle.goal_lexer.specs.declared.mode.Form.TheVariants.{Word, Digits}
use Rattle.goal_lexer.specs.declared.mode.Mode.TheVariants.{Between, Run, Slash, LineComment, BlockComment, Failed}
use Rattle.goal_lexer.specs.Bytes.{is_blank, begins_word, is_digit, is_run_byte, slash, star, line_feed}
use Rattle.goal_lexer.specs.Scan.{scan, closing, fault_at_end, lexed, form_with}
use Rattle.goal_lexer.specs.Runs.{run_token}
use Rattle.goal_lexer.specs.Pieces.{blank, line_comment, block_comment, run, sign, Each, has_close, sign_kind, NothingBegins, IsReading}
use Rattle.goal_lexer.specs.Open.{ends_in_star}
use Rattle.goal_lexer.proofs.FormLaws.{form_of, form_of-grown, form_of_has_form}
use Rattle.goal_lexer.proofs.CommentLaws.{has_close-push, ends_in_star-push, bytes_before_star, has_close-front}
use Rattle.goal_lexer.proofs.NothingLaws.{nothing_begins_at_other_byte, nothing_at_slash, nothing_at_last_slash, nothing_in_comment, nothing_without_form, nothing_too_long, Each-push}
use Rattle.goal_lexer.proofs.PieceLaws.{Read, ReadOn, open_takes_byte, ends_with_byte, ends_before, reading_at_fault, text_ends_open, byte_opens, byte_is_piece, tokens_to_end_from_byte_on, fault_of_rest_after_byte, tokens_past_run, fault_past_run}

-- a byte of a line comment
abbrev pub in_line : ℕ → Bool
in_line c = not (c == line_feed)

-- whatever is open, the reading continues by xs
record Going (xs : List ℕ) : Type 0 where
  at_between : (start : ℕ) → ReadOn start xs
  at_run : (start : ℕ) (bytes : List ℕ) (form : Form) → form_of bytes ≡ Some form → length bytes ≤ 64 →
      Read (Run start bytes form) start bytes xs
  at_slash : (start : ℕ) → Read (Slash start) start (slash ∷ []) xs
  at_line : (start : ℕ) (inside : List ℕ) → Each in_line inside → Read (LineComment start) start (slash ∷ slash ∷ inside) xs
  at_block : (start : ℕ) (inside : List ℕ) → has_close inside ≡ false →
      Read (BlockComment start (ends_in_star inside)) start (slash ∷ star ∷ inside) xs

-- where the text ends
reading_at_end : (start : ℕ) → ReadOn start []
unfolding scan
reading_at_end start = record {
  pieces = [];
  rest = [];
  cut = record { whole = refl; right = tt };
  tokens_are = refl;
  end = refl;
}

run_at_end : (start : ℕ) (bytes : List ℕ) (form : Form) → form_of bytes ≡ Some form → length bytes ≤ 64 →
    Read (Run start bytes form) start bytes []
unfolding scan
run_at_end start bytes form has short =
    let place : start + length bytes + 0 ≡ start + length bytes = omega arith in
    ends_before (Run start bytes form) start [] (run form bytes)
    (ap (λ (p : ℕ). run_token start bytes form p ∷ []) place) refl
    (form_of_has_form bytes form has, short, refl) reading_at_end

line_at_end : (start : ℕ) (inside : List ℕ) → Each in_line inside → Read (LineComment start) start (slash ∷ slash ∷ inside) []
unfolding scan
line_at_end start inside each = ends_before (LineComment start) start [] (line_comment inside) refl refl (each, tt) reading_at_end

continues_at_end : Going []
continues_at_end = record {
  at_between = reading_at_end;
  at_run = run_at_end;
  at_slash = λ start. text_ends_open (Slash start) start (slash ∷ []) (λ _. refl) refl (λ empty. cc) nothing_at_last_slash;
  at_line = line_at_end;
  at_block = λ start inside none.
      text_ends_open (BlockComment start (ends_in_star inside)) start (slash ∷ star ∷ inside) (λ _. refl) refl (λ empty. cc)
      (subst (λ (t : List ℕ). NothingBegins (slash ∷ star ∷ t)) (sym (append-nil inside)) (nothing_in_comment inside none));
}

-- a byte while nothing is open, by its class
module _ (xs : List ℕ) (going : Going xs) (start c : ℕ) where
  byte_fault : begins_word c ≡ false → is_digit c ≡ false → is_blank c ≡ false → (c == 123) ≡ false → (c == 125) ≡ false →
      (c == 58) ≡ false → (c == slash) ≡ false → ReadOn start (c ∷ xs)
  byte_fault no_word no_digit no_blank no_open no_close no_colon no_slash =
      let no_run : is_run_byte c ≡ false = rw (no_word, no_digit) in
      let no_kind : sign_kind c ≡ None = rw (no_open, no_close, no_colon) in
      byte_opens start c xs (Failed start) (rw (no_word, no_digit, no_blank, no_open, no_close, no_colon, no_slash))
      (reading_at_fault start (c ∷ []) xs (λ empty. cc)
      (nothing_begins_at_other_byte c xs no_run no_blank (λ some. false≢true (subst (λ o. IsSome o) no_kind some)) (λ is. grind (arith, nat_tests))))

  byte_slash : (s : Bool) → (c == slash) ≡ s → begins_word c ≡ false → is_digit c ≡ false → is_blank c ≡ false →
      (c == 123) ≡ false → (c == 125) ≡ false → (c == 58) ≡ false → ReadOn start (c ∷ xs)
  byte_slash false is_s no_word no_digit no_blank no_open no_close no_colon =
      byte_fault no_word no_digit no_blank no_open no_close no_colon is_s
  byte_slash true is_s no_word no_digit no_blank no_open no_close no_colon =
      let same : c ≡ slash = grind (arith, nat_tests) in
      byte_opens start c xs (Slash start) (rw (no_word, no_digit, no_blank, no_open, no_close, no_colon, is_s))
      (subst (λ (b : ℕ). Read (Slash start) start (b ∷ []) xs) (sym same) (going.at_slash start))

  byte_colon : (s : Bool) → (c == 58) ≡ s → begins_word c ≡ false → is_digit c ≡ false → is_blank c ≡ false →
      (c == 123) ≡ false → (c == 125) ≡ false → ReadOn start (c ∷ xs)
  byte_colon false is_s no_word no_digit no_blank no_open no_close =
      byte_slash (c == slash) refl no_word no_digit no_blank no_open no_close is_s
  byte_colon true is_s no_word no_digit no_blank no_open no_close =
      byte_is_piece start c xs (sign c) (rw (no_word, no_digit, no_blank, no_open, no_close, is_s)) refl
      (rw (no_open, no_close, is_s)) going.at_between

  byte_close : (s : Bool) → (c == 125) ≡ s → begins_word c ≡ false → is_digit c ≡ false → is_blank c ≡ false →
      (c == 123) ≡ false → ReadOn start (c ∷ xs)
  byte_close false is_s no_word no_digit no_blank no_open = byte_colon (c == 58) refl no_word no_digit no_blank no_open is_s
  byte_close true is_s no_word no_digit no_blank no_open =
      byte_is_piece start c xs (sign c) (rw (no_word, no_digit, no_blank, no_open, is_s)) refl (rw (no_open, is_s)) going.at_between

  byte_open : (s : Bool) → (c == 123) ≡ s → begins_word c ≡ false → is_digit c ≡ false → is_blank c ≡ false →
      ReadOn start (c ∷ xs)
  byte_open false is_s no_word no_digit no_blank = byte_close (c == 125) refl no_word no_digit no_blank is_s
  byte_open true is_s no_word no_digit no_blank =
      byte_is_piece start c xs (sign c) (rw (no_word, no_digit, no_blank, is_s)) refl (rw is_s) going.at_between

  byte_blank : (s : Bool) → is_blank c ≡ s → begins_word c ≡ false → is_digit c ≡ false → ReadOn start (c ∷ xs)
  byte_blank false is_s no_word no_digit = byte_open (c == 123) refl no_word no_digit is_s
  byte_blank true is_s no_word no_digit =
      byte_is_piece start c xs (blank c) (rw (no_word, no_digit, is_s)) refl is_s going.at_between

  byte_digit : (s : Bool) → is_digit c ≡ s → begins_word c ≡ false → ReadOn start (c ∷ xs)
  byte_digit false is_s no_word = byte_blank (is_blank c) refl no_word is_s
  byte_digit true is_s no_word =
      byte_opens start c xs (Run start (c ∷ []) Digits) (rw (no_word, is_s))
      (going.at_run start (c ∷ []) Digits (rw (no_word, is_s)) (omega arith))

  byte_word : (s : Bool) → begins_word c ≡ s → ReadOn start (c ∷ xs)
  byte_word false is_s = byte_digit (is_digit c) refl is_s
  byte_word true is_s =
      byte_opens start c xs (Run start (c ∷ []) Word) (rw is_s)
      (going.at_run start (c ∷ []) Word (rw is_s) (omega arith))

reading_at_byte : (xs : List ℕ) → Going xs → (c start : ℕ) → ReadOn start (c ∷ xs)
reading_at_byte xs going c start = byte_word xs going start c (begins_word c) refl

-- some bytes follow
bytes_not_empty : (bytes : List ℕ) (c : ℕ) (xs : List ℕ) → bytes ++ c ∷ [] ++ xs ≢ []
bytes_not_empty [] c xs empty = cc
bytes_not_empty (b ∷ bs) c xs empty = cc

-- a byte after a run
module _ (xs : List ℕ) (going : Going xs) (start : ℕ) (bytes : List ℕ) (form : Form) (c : ℕ) (has : form_of bytes ≡ Some form) where
  run_grown : (long : Bool) (other : Form) → is_run_byte c ≡ true → form_with form c ≡ Some other →
      nat_lt 64 (length (bytes ++ c ∷ [])) ≡ long → Read (Run start bytes form) start bytes (c ∷ xs)
  run_grown false other in_run grown is_long =
      let short : length (bytes ++ c ∷ []) ≤ 64 = grind (arith, nat_tests) in
      open_takes_byte (Run start bytes form) (Run start (bytes ++ c ∷ []) other) start bytes c xs
      (rw (in_run, grown, is_long))
      (going.at_run start (bytes ++ c ∷ []) other (form_of-grown bytes c form has in_run ∙ grown) short)
  run_grown true other in_run grown is_long =
      let long : 64 < length (bytes ++ c ∷ []) = grind (arith, nat_tests) in
      open_takes_byte (Run start bytes form) (Failed start) start bytes c xs
      (rw (in_run, grown, is_long))
      (reading_at_fault start (bytes ++ c ∷ []) xs (bytes_not_empty bytes c xs)
      (nothing_too_long bytes c xs form has in_run long))

  reading_of_run_by_new_form : (o : Option Form) → is_run_byte c ≡ true → form_with form c ≡ o → Read (Run start bytes form) start bytes (c ∷ xs)
  reading_of_run_by_new_form (Some other) in_run grown = run_grown (nat_lt 64 (length (bytes ++ c ∷ []))) other in_run grown refl
  reading_of_run_by_new_form None in_run grown =
      open_takes_byte (Run start bytes form) (Failed start) start bytes c xs
      (rw (in_run, grown))
      (reading_at_fault start (bytes ++ c ∷ []) xs (bytes_not_empty bytes c xs)
      (nothing_without_form bytes c xs form has in_run (form_of-grown bytes c form has in_run ∙ grown)))

  reading_of_run_at_next_byte : (r : Bool) → is_run_byte c ≡ r → length bytes ≤ 64 → Read (Run start bytes form) start bytes (c ∷ xs)
  reading_of_run_at_next_byte true in_run short = reading_of_run_by_new_form (form_with form c) in_run refl
  reading_of_run_at_next_byte false apart short =
      ends_before (Run start bytes form) start (c ∷ xs) (run form bytes)
      (tokens_past_run start bytes form (start + length bytes) c xs apart)
      (fault_past_run start bytes form (start + length bytes) c xs apart)
      (form_of_has_form bytes form has, short, apart) (reading_at_byte xs going c)

-- a byte after a `/`
module _ (xs : List ℕ) (going : Going xs) (start c : ℕ) where
  reading_of_lone_slash : (c == slash) ≡ false → (c == star) ≡ false → Read (Slash start) start (slash ∷ []) (c ∷ xs)
  reading_of_lone_slash no_slash no_star =
      open_takes_byte (Slash start) (Failed start) start (slash ∷ []) c xs (rw (no_slash, no_star))
      (reading_at_fault start (slash ∷ c ∷ []) xs (λ empty. cc)
      (nothing_at_slash c xs (λ is. grind (arith, nat_tests)) (λ is. grind (arith, nat_tests))))

  reading_of_slash_by_star_test : (s : Bool) → (c == star) ≡ s → (c == slash) ≡ false → Read (Slash start) start (slash ∷ []) (c ∷ xs)
  reading_of_slash_by_star_test false is_s no_slash = reading_of_lone_slash no_slash is_s
  reading_of_slash_by_star_test true is_s no_slash =
      let same : c ≡ star = grind (arith, nat_tests) in
      open_takes_byte (Slash start) (BlockComment start false) start (slash ∷ []) c xs (rw (no_slash, is_s))
      (subst (λ (b : ℕ). Read (BlockComment start false) start (slash ∷ b ∷ []) xs) (sym same) (going.at_block start [] refl))

  reading_of_slash_at_next_byte : (s : Bool) → (c == slash) ≡ s → Read (Slash start) start (slash ∷ []) (c ∷ xs)
  reading_of_slash_at_next_byte false is_s = reading_of_slash_by_star_test (c == star) refl is_s
  reading_of_slash_at_next_byte true is_s =
      let same : c ≡ slash = grind (arith, nat_tests) in
      open_takes_byte (Slash start) (LineComment start) start (slash ∷ []) c xs (rw is_s)
      (subst (λ (b : ℕ). Read (LineComment start) start (slash ∷ b ∷ []) xs) (sym same) (going.at_line start [] tt))

-- a byte in a line comment
module _ (xs : List ℕ) (going : Going xs) (start : ℕ) (inside : List ℕ) (each : Each in_line inside) where
  -- the line feed is a blank after the comment
  line_ends : Read (LineComment start) start (slash ∷ slash ∷ inside) (line_feed ∷ xs)
  line_ends =
      let at = start + length (slash ∷ slash ∷ inside) in
      ends_before (LineComment start) start (line_feed ∷ xs) (line_comment inside)
      (tokens_to_end_from_byte_on (LineComment start) at line_feed xs Between [] refl ∙ sym (tokens_to_end_from_byte_on Between at line_feed xs Between [] refl))
      (fault_of_rest_after_byte (LineComment start) at line_feed xs Between [] refl ∙ sym (fault_of_rest_after_byte Between at line_feed xs Between [] refl))
      (each, refl) (reading_at_byte xs going line_feed)

  in_line_comment : (c : ℕ) (s : Bool) → (c == line_feed) ≡ s → Read (LineComment start) start (slash ∷ slash ∷ inside) (c ∷ xs)
  in_line_comment c true is_s =
      let same : c ≡ line_feed = grind (arith, nat_tests) in
      subst (λ (b : ℕ). Read (LineComment start) start (slash ∷ slash ∷ inside) (b ∷ xs)) (sym same) line_ends
  in_line_comment c false is_s =
      open_takes_byte (LineComment start) (LineComment start) start (slash ∷ slash ∷ inside) c xs (rw is_s)
      (going.at_line start (inside ++ c ∷ []) (Each-push in_line inside c each (ap not is_s)))

-- a byte in a block comment
module _ (xs : List ℕ) (going : Going xs) (start : ℕ) (inside : List ℕ) (none : has_close inside ≡ false) where
  in_block_comment : (c : ℕ) (s : Bool) → (ends_in_star inside && c == slash) ≡ s →
      Read (BlockComment start (ends_in_star inside)) start (slash ∷ star ∷ inside) (c ∷ xs)
  in_block_comment c true is_s =
      let parts = and_parts (ends_in_star inside) (c == slash) is_s in
      let is_slash = parts.1 in
      let same : c ≡ slash = grind (arith, nat_tests) in
      let before = bytes_before_star inside parts.0 in
      let spelling : before.0 ++ star ∷ slash ∷ [] ≡ inside ++ c ∷ [] =
      sym (ap (λ (t : List ℕ). t ++ c ∷ []) before.1 ∙ append_assoc before.0 (star ∷ []) (c ∷ [])
      ∙ ap (λ (b : ℕ). before.0 ++ star ∷ b ∷ []) same) in
      ends_with_byte (BlockComment start (ends_in_star inside)) start (slash ∷ star ∷ inside) c xs (block_comment before.0)
      (rw is_s) (ap (λ (t : List ℕ). slash ∷ star ∷ t) spelling)
      (has_close-front before.0 (star ∷ []) (ap has_close (sym before.1) ∙ none)) going.at_between
  in_block_comment c false is_s =
      open_takes_byte (BlockComment start (ends_in_star inside)) (BlockComment start (c == star)) start (slash ∷ star ∷ inside) c xs (rw is_s)
      (subst (λ (b : Bool). Read (BlockComment start b) start (slash ∷ star ∷ inside ++ c ∷ []) xs) (ends_in_star-push inside c)
      (going.at_block start (inside ++ c ∷ []) (has_close-push inside c none is_s)))

continues_by_any : (xs : List ℕ) → Going xs
continues_by_any [] = continues_at_end
continues_by_any (c ∷ xs) =
    let going = continues_by_any xs in
    record {
      at_between = reading_at_byte xs going c;
      at_run = λ start bytes form has short. reading_of_run_at_next_byte xs going start bytes form c has (is_run_byte c) refl short;
      at_slash = λ start. reading_of_slash_at_next_byte xs going start c (c == slash) refl;
      at_line = λ start inside each. in_line_comment xs going start inside each c (c == line_feed) refl;
      at_block = λ start inside none. in_block_comment xs going start inside none c (ends_in_star inside && c == slash) refl;
    }

-- the tokens and the fault of a text's scan are those of the text as pieces
pub reading_of : (text : List ℕ) → IsReading 0 text (lexed text).0 (lexed text).1
reading_of text =
    let same : 0 + length text ≡ length text = omega arith in
    subst (λ (p : ℕ). IsReading 0 text ((scan Between 0 text).1 ++ closing p (scan Between 0 text).0) (fault_at_end (scan Between 0 text).0))
    same ((continues_by_any text).at_between 0)
