-- Successive calls of a device.
use Rattle.std.proofs.Common.{◌≡◌, ◌<◌, ℕ, ◌+◌, true, List, ◌++◌, length, take, drop, Option, Some, inl, inr, sym, ap, ◌∙◌, append_assoc, arith}
use Rattle.std.specs.FinMap.{get, insert}
use Rattle.std.proofs.Math.Seq.{take-add}
use Rattle.goal_limits.specs.declared.limits.TheConstants.{MAX_INPUT}
use Rattle.goal_base.specs.Device.{HostState, SinkState, Files, file_of, Held, Grows, Holds, ReadFaulted, IsTooLong}
use Rattle.goal_base.specs.DeviceCalls.{Writes, appended_to}
use Rattle.goal_base.proofs.FilesLemmas.{get_inserted, appended_to_inserted}

-- a prefix of a piece was appended, and then a prefix of what was left of it
pub grows_by_joined_prefixes : (a b c : SinkState) (piece left : List ℕ) (n k : ℕ) → Grows a b (take n piece) → b.tells ≡ a.tells
    → left ≡ drop n piece → Grows b c (take k left) → Grows a c (take (n + k) piece)
grows_by_joined_prefixes a b c piece left n k first same is more = record {
  told = λ t. more.told (same ∙ t) ∙ ap (λ (l : List ℕ). l ++ take k left) (first.told t)
      ∙ append_assoc a.bytes (take n piece) (take k left)
      ∙ ap (λ (l : List ℕ). a.bytes ++ (take n piece ++ take k l)) is ∙ ap (λ (l : List ℕ). a.bytes ++ l) (sym (take-add n k piece));
}

-- a prefix of a file was written, and then a prefix of what was left of it
pub holds_joined_prefixes : (a b c : HostState) (name bytes left : List ℕ) (n k : ℕ) → Holds a b name (take n bytes)
    → (a.tells ≡ true → b.output ≡ Some name) → b.tells ≡ a.tells → left ≡ drop n bytes → Writes b c (take k left)
    → Holds a c name (take (n + k) bytes)
holds_joined_prefixes a b c name bytes left n k first output same is more = record {
  told = λ t. more.files (same ∙ t) ∙ ap (λ (o : Option (List ℕ)). appended_to o b.files (take k left)) (output t)
      ∙ ap (λ (f : Files). appended_to (Some name) f (take k left)) (first.told t)
      ∙ appended_to_inserted a.files name (take n bytes) (take k left)
      ∙ ap (λ (l : List ℕ). insert a.files name (take n bytes ++ take k l)) is
      ∙ ap (λ (l : List ℕ). insert a.files name l) (sym (take-add n k bytes));
}

-- where the file exists and the host did not fail, no count of reading rose
pub no_read_fault_on_existing_file : (old new : HostState) (name text : List ℕ) → old.tells ≡ true → file_of old name ≡ Some text
    → Held old.stops old.read_count new.read_count → ReadFaulted old new name → ⊥
no_read_fault_on_existing_file old new name text told file held (inl rose) = omega arith
no_read_fault_on_existing_file old new name text told file held (inr absent) = let none = absent.1 told in cc

-- a file that is too long has more bytes than an input may have
pub too_long_file_exceeds_input_limit : (old : HostState) (name text : List ℕ) → old.tells ≡ true → file_of old name ≡ Some text
    → IsTooLong old name → MAX_INPUT < length text
too_long_file_exceeds_input_limit old name text told file long =
    let l = long.told told in
    let same : l.0 ≡ text = cc (l.1, file) in
    rw same at l.2
