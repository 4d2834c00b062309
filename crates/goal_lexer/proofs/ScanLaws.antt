-- How scans of parts of a text give the scan of the text.
use Rattle.std.proofs.Common.{◌≡◌, ℕ, ◌+◌, ◌-◌, ◌<◌, ◌≤◌, List, [], ◌∷◌, ◌++◌, length, take, drop, get_or, refl, sym, ap, subst, ◌∙◌, arith, append_assoc, add-zero, take-append-drop}
use Rattle.std.proofs.lemmas.List.{append-nil, take_more, length-take-le, take_rest, length-drop}
use Rattle.std.proofs.Math.Seq.{take-add}
use Rattle.goal_lexer.specs.declared.tokens.Token.{Token}
use Rattle.goal_lexer.specs.declared.mode.Mode.{Mode}
use Rattle.goal_lexer.specs.declared.mode.Mode.TheVariants.{Failed}
use Rattle.goal_lexer.specs.Scan.{Scanned, after_tokens, next, scan}

-- the scan of two parts
pub scan-append : (mode : Mode) (place : ℕ) (xs ys : List ℕ) →
    scan mode place (xs ++ ys) ≡ after_tokens (scan mode place xs).1 (scan (scan mode place xs).0 (place + length xs) ys)
unfolding scan
scan-append mode place [] ys = ap (λ p. scan mode p ys) (sym (add-zero place))
scan-append mode place (x ∷ xs) ys =
    let made = next mode place x in
    let rest = scan made.0 (place + 1) xs in
    let same_place : place + 1 + length xs ≡ place + length (x ∷ xs) = omega arith in
    ap (after_tokens made.1) (scan-append made.0 (place + 1) xs ys)
    ∙ ap (λ (p : ℕ). after_tokens made.1 (after_tokens rest.1 (scan rest.0 p ys))) same_place
    ∙ ap (λ (ts : List Token). ((scan rest.0 (place + length (x ∷ xs)) ys).0, ts))
    (sym (append_assoc made.1 rest.1 (scan rest.0 (place + length (x ∷ xs)) ys).1))

-- after a fault nothing changes
pub scan_failed : (at place : ℕ) (xs : List ℕ) → scan (Failed at) place xs ≡ (Failed at, [])
unfolding scan
scan_failed at place [] = refl
scan_failed at place (x ∷ xs) = ap (after_tokens []) (scan_failed at (place + 1) xs)

-- the scan of one byte
pub scan_one : (mode : Mode) (place c : ℕ) → scan mode place (c ∷ []) ≡ next mode place c
unfolding scan
scan_one mode place c = ap (λ (ts : List Token). ((next mode place c).0, ts)) (append-nil (next mode place c).1)

-- the first part ended no token
pub scan_after_no_token : (mode begun_here : Mode) (place : ℕ) (xs ys : List ℕ) → scan mode place xs ≡ (begun_here, []) →
    scan mode place (xs ++ ys) ≡ scan begun_here (place + length xs) ys
scan_after_no_token mode begun_here place xs ys quiet =
    scan-append mode place xs ys
    ∙ ap (λ (r : Scanned). after_tokens r.1 (scan r.0 (place + length xs) ys)) quiet

-- after a prefix that ended no token, the scan takes the next byte
pub scan_next_byte : (mode begun_here : Mode) (place : ℕ) (xs : List ℕ) (n : ℕ) → n < length xs →
    scan mode place (take n xs) ≡ (begun_here, []) →
    scan mode place (take (n + 1) xs) ≡ next begun_here (place + n) (get_or xs n 0)
scan_next_byte mode begun_here place xs n here quiet =
    let long : length (take n xs) ≡ n = length-take-le n xs (omega arith) in
    ap (scan mode place) (take_more xs n 0 here)
    ∙ scan_after_no_token mode begun_here place (take n xs) (get_or xs n 0 ∷ []) quiet
    ∙ ap (λ (k : ℕ). scan begun_here (place + k) (get_or xs n 0 ∷ [])) long
    ∙ scan_one begun_here (place + n) (get_or xs n 0)

-- more bytes that ended no token
pub scan_stretch : (mode begun_here new : Mode) (place : ℕ) (xs : List ℕ) (n m : ℕ) → n ≤ length xs →
    scan mode place (take n xs) ≡ (begun_here, []) → scan begun_here (place + n) (take m (drop n xs)) ≡ (new, []) →
    scan mode place (take (n + m) xs) ≡ (new, [])
scan_stretch mode begun_here new place xs n m within quiet more =
    let long : length (take n xs) ≡ n = length-take-le n xs within in
    ap (scan mode place) (take-add n m xs)
    ∙ scan_after_no_token mode begun_here place (take n xs) (take m (drop n xs)) quiet
    ∙ ap (λ (k : ℕ). scan begun_here (place + k) (take m (drop n xs))) long
    ∙ more

-- the same for bytes taken from a slice of the piece
pub scan_sliced : (mode begun_here new : Mode) (place : ℕ) (xs : List ℕ) (n m : ℕ) → n ≤ length xs →
    scan mode place (take n xs) ≡ (begun_here, []) →
    ((at : ℕ) → scan begun_here at (take m (take (length xs - n) (drop n xs))) ≡ (new, [])) →
    scan mode place (take (n + m) xs) ≡ (new, [])
scan_sliced mode begun_here new place xs n m within quiet more =
    scan_stretch mode begun_here new place xs n m within quiet
    (subst (λ (ys : List ℕ). scan begun_here (place + n) (take m ys) ≡ (new, [])) (take_rest xs n) (more (place + n)))

pub sliced_within : (xs : List ℕ) (n m : ℕ) → n ≤ length xs → m ≤ length (take (length xs - n) (drop n xs)) → n + m ≤ length xs
sliced_within xs n m within inside =
    let there : m ≤ length (drop n xs) = subst (λ (ys : List ℕ). m ≤ length ys) (take_rest xs n) inside in
    omega (arith, length-drop n xs)

-- the fault of a prefix is the fault of the whole
pub scan_fault : (mode : Mode) (at place : ℕ) (xs : List ℕ) (n : ℕ) →
    scan mode place (take n xs) ≡ (Failed at, []) → scan mode place xs ≡ (Failed at, [])
scan_fault mode at place xs n failed =
    ap (scan mode place) (sym (take-append-drop n xs))
    ∙ scan_after_no_token mode (Failed at) place (take n xs) (drop n xs) failed
    ∙ scan_failed at (place + length (take n xs)) (drop n xs)
