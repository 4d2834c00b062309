-- What the proofs of other crates may use.
use Rattle.std.proofs.Common.{◌≡◌, ◌<◌, ℕ, true, List, ◌++◌, length, refl, sym, ap, ◌∙◌, append_assoc, length-append, arith}
use Rattle.goal_limits.specs.declared.limits.TheConstants.{MAX_INPUT}
use Rattle.goal_base.specs.Device.{HostState, Later, KeepsFiles, SameReadCounts, SameRest, Rose}
use Rattle.goal_base.specs.DeviceCalls.{Takes}

-- a line appended to lines in an array, whose earlier ones may already be written to a text
pub line_appended_after_kept_lines : (out now lines kept ended line : List ℕ) → now ++ kept ≡ out ++ lines → ended ≡ kept ++ line
    → now ++ ended ≡ (out ++ lines) ++ line
line_appended_after_kept_lines out now lines kept ended line moved more = rw (more, ← append_assoc now kept line, moved) refl

-- bytes taken from the rest, in two steps
pub takes_joined_bytes : (a b c : HostState) (xs ys : List ℕ) → Takes a b xs → b.tells ≡ a.tells
    → (b.tells ≡ true → b.rest ≡ ys ++ c.rest) → Takes a c (xs ++ ys)
takes_joined_bytes a b c xs ys first same more = record {
  told = λ t. first.told t ∙ ap (λ (l : List ℕ). xs ++ l) (more (same ∙ t)) ∙ sym (append_assoc xs ys c.rest);
}

-- bytes taken from the rest, which then stayed the same
pub takes_if_rest_unchanged : (a b c : HostState) (xs : List ℕ) → Takes a b xs → b.tells ≡ a.tells → SameRest b c → Takes a c xs
takes_if_rest_unchanged a b c xs first same more = record {
  told = λ t. first.told t ∙ ap (λ (l : List ℕ). xs ++ l) (sym (more.told (same ∙ t)));
}

-- where more was taken than an input may have, the rest was too long
pub rest_too_long_if_taken_too_long : (a b : HostState) (xs : List ℕ) → Takes a b xs → MAX_INPUT < length xs → a.tells ≡ true → MAX_INPUT < length a.rest
rest_too_long_if_taken_too_long a b xs takes long t = omega (arith, ap length (takes.told t), length-append xs b.rest)

-- properties of two successive calls of a host
module _ (a b c : HostState) (later : Later a b) where
  pub later_is_transitive : Later b c → Later a c
  later_is_transitive then = record {
    tells = then.tells ∙ later.tells;
    stops = then.stops ∙ later.stops;
    read_count = omega arith;
    absent_count = omega arith;
    write_count = omega arith;
    joined = λ joined. then.joined (later.joined joined);
  }

  pub keeps_files_is_transitive : KeepsFiles a b → KeepsFiles b c → KeepsFiles a c
  keeps_files_is_transitive kept then = record {
    files = record {
      files = λ t. then.files.files (later.tells ∙ t) ∙ kept.files.files t;
      output = λ t. then.files.output (later.tells ∙ t) ∙ kept.files.output t;
    };
    writing = then.writing ∙ kept.writing;
    write_count = then.write_count ∙ kept.write_count;
  }

  pub rose_after_same_read_counts : SameReadCounts a b → Rose b.stops b.read_count c.read_count → Rose a.stops a.read_count c.read_count
  rose_after_same_read_counts same rose = rw (later.stops, same.read_count) at rose

-- the counts after two successive calls
pub same_read_counts_is_transitive : (a b c : HostState) → SameReadCounts a b → SameReadCounts b c → SameReadCounts a c
same_read_counts_is_transitive a b c same then = record { read_count = then.read_count ∙ same.read_count; absent_count = then.absent_count ∙ same.absent_count }
