use Rattle.std.proofs.Common.{◌≡◌, ℕ, ◌+◌, ◌<◌, Bool, true, List, get_or, arith}
use Rattle.goal_lexer.specs.Bytes.{is_run_byte}
use Rattle.goal_lexer.proofs.stretches.count_run.Goals as goal

-- each byte before place n passes the test
abbrev Before : (ℕ → Bool) → List ℕ → ℕ → Type 0
Before test bytes n = (k : ℕ) → k < n → test (get_or bytes k 0) ≡ true

-- where the byte at n passes too, each before the next place does
passing_extends_by_one : (test : ℕ → Bool) (bytes : List ℕ) (n next : ℕ) → next ≡ n + 1 → Before test bytes n →
    true ≡ test (get_or bytes n 0) → Before test bytes next
passing_extends_by_one test bytes n next is before at k below = grind (arith, before)

passing_extends_by_two : (test : ℕ → Bool) (bytes : List ℕ) (n : ℕ) → Before test bytes n → true ≡ test (get_or bytes n 0) →
    true ≡ test (get_or bytes (n + 1) 0) → Before test bytes (n + 2)
passing_extends_by_two test bytes n before first second =
    passing_extends_by_one test bytes (n + 1) (n + 2) (omega arith) (passing_extends_by_one test bytes n (n + 1) (omega arith) before first) second

passing_extends_by_three : (test : ℕ → Bool) (bytes : List ℕ) (n : ℕ) → Before test bytes n → true ≡ test (get_or bytes n 0) →
    true ≡ test (get_or bytes (n + 1) 0) → true ≡ test (get_or bytes (n + 2) 0) → Before test bytes (n + 3)
passing_extends_by_three test bytes n before first second third =
    passing_extends_by_one test bytes (n + 2) (n + 3) (omega arith) (passing_extends_by_two test bytes n before first second) third

pub returns-then-not-is_run_byte-3-clause-each : goal.returns-then-not-is_run_byte-3-clause-each
returns-then-not-is_run_byte-3-clause-each c =
    passing_extends_by_two is_run_byte c.args.bytes.now c.loop-count.count c.loop-count.invariant.each c.if-not-is_run_byte.ensures
    c.if-not-is_run_byte-2.ensures

pub returns-then-not-is_run_byte-4-clause-each : goal.returns-then-not-is_run_byte-4-clause-each
returns-then-not-is_run_byte-4-clause-each c =
    passing_extends_by_three is_run_byte c.args.bytes.now c.loop-count.count c.loop-count.invariant.each c.if-not-is_run_byte.ensures
    c.if-not-is_run_byte-2.ensures c.if-not-is_run_byte-3.ensures

pub loop-count-preserved : goal.loop-count-preserved
loop-count-preserved c =
    let bytes = c.args.bytes.now in
    let n = c.loop-count.count in
    let three =
    passing_extends_by_three is_run_byte bytes n c.loop-count.invariant.each c.if-not-is_run_byte.ensures c.if-not-is_run_byte-2.ensures
    c.if-not-is_run_byte-3.ensures in
    record {
      within = omega (arith, c.loop-count.invariant.within, c.loop-count-test.true);
      each = passing_extends_by_one is_run_byte bytes (n + 3) (n + 4) (omega arith) three c.if-not-is_run_byte-4.ensures;
    }
