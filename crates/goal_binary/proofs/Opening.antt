-- The magic number and the version, with which each file begins.
use Rattle.std.proofs.Common.{◌≡◌, ◌⊎◌, ℕ, ◌-◌, ◌<◌, ◌≤◌, Bool, true, false, ltb, List, ◌++◌, length, take, drop, Option, Some, None, Result, Ok, Err, refl, sym, ap, ◌∙◌, arith, inl, inr}
use Rattle.std.specs.Str.{bytes_eq}
use Rattle.std.specs.Bool.{Decides}
use Rattle.std.proofs.lemmas.Bool.{cases_lt, lt-ltb, le-ltb}
use Rattle.std.proofs.lemmas.List.{take-take, take-append-drop, drop-take, length-take, length-drop}
use Rattle.std.proofs.lemmas.Nat.{le_bytes_4}
use Rattle.std.proofs.lemmas.Slice.Eq.{bytes_eq-Decides}
use Rattle.goal_binary.specs.declared.fault.FileFault.{FileFault}
use Rattle.goal_binary.specs.declared.fault.FileFault.TheVariants.{Short, Magic, Version}
use Rattle.goal_binary.specs.declared.layout.TheConstants.{MAGIC}
use Rattle.goal_binary.specs.declared.layout.Layout.{Layout}
use Rattle.goal_binary.specs.declared.layout.Layout.TheVariants.{Fixed, Packed}
use Rattle.goal_binary.specs.Layouts.{version_of, layout_of}
use Rattle.goal_binary.specs.File.{spelled_u32}
use Rattle.goal_binary.specs.Fields.{◌>>=◌, named, u32_at, magic_at, layout_at, opening_at}
use Rattle.goal_binary.specs.Meaning.{plans_at}
use Rattle.goal_binary.specs.Laws.{IsOtherMagic, IsOtherVersion}
use Rattle.goal_binary.proofs.Steps.{IsBytes}
use Rattle.goal_binary.proofs.FieldsTaken.{IsBytes-drop, IsBytes-take}
use Rattle.goal_binary.proofs.FieldsRead.{value_32}
use Rattle.goal_binary.proofs.NumbersTaken.{version_of_named_layout}
use Rattle.goal_binary.proofs.RanksRead.{body}

-- both, as bytes
abbrev pub front_bytes : Layout → List ℕ
front_bytes l = MAGIC ++ spelled_u32 (version_of l)

pub plans_at_is_opening_then_body : (bytes : List ℕ) → plans_at bytes ≡ (opening_at bytes >>= λ layout. body layout.0 bytes layout.1)
unfolding plans_at
plans_at_is_opening_then_body bytes = refl

-- bytes that begin with the first twelve bytes of a file in this layout
pub record IsOpened (l : Layout) (bytes : List ℕ) : Type 0 where
  pub whole : 12 ≤ length bytes
  pub front : take 12 bytes ≡ front_bytes l

pub record Opened (bytes : List ℕ) : Type 0 where
  pub layout : Layout
  pub is : IsOpened layout bytes

-- bytes that do not
abbrev pub IsClosed : List ℕ → FileFault → Type 0
IsClosed bytes (Short n) = (n ≡ length bytes) × ((n < 8) ⊎ ((take 8 bytes ≡ MAGIC) × (8 ≤ n) × (n < 12)))
IsClosed bytes Magic = IsOtherMagic bytes
IsClosed bytes (Version found) = IsOtherVersion bytes found
IsClosed bytes _ = ⊥

pub record Closed (bytes : List ℕ) : Type 0 where
  pub fault : FileFault
  pub is : opening_at bytes ≡ Err fault
  pub why : IsClosed bytes fault

matching_magic_is_read : (bytes : List ℕ) → 8 ≤ length bytes → take 8 bytes ≡ MAGIC → magic_at bytes ≡ Ok 8
unfolding magic_at
matching_magic_is_read bytes long same =
    let there : ltb (length bytes) 8 ≡ false = le-ltb _ _ long in
    let equal : bytes_eq MAGIC (take 8 bytes) ≡ true = (bytes_eq-Decides MAGIC (take 8 bytes)).1 (sym same) in
    rw (there, equal) refl

-- the number of the version
abbrev version_in : List ℕ → ℕ
version_in bytes = value_32 (take 4 (drop 8 bytes))

layout_read_from_version : (bytes : List ℕ) → 12 ≤ length bytes → (o : Option Layout) → layout_of (version_in bytes) ≡ o → layout_at bytes 8 ≡ named (version_in bytes) o 12
unfolding layout_at u32_at
layout_read_from_version bytes long o is =
    let there : ltb (length bytes - 8) 4 ≡ false = le-ltb _ _ (omega arith) in
    rw (there, is) refl

opening_after_magic : (bytes : List ℕ) → 8 ≤ length bytes → take 8 bytes ≡ MAGIC → opening_at bytes ≡ layout_at bytes 8
unfolding opening_at
opening_after_magic bytes long magic = ap (λ (r : Result ℕ FileFault). r >>= λ m. layout_at bytes m) (matching_magic_is_read bytes long magic)

-- the first twelve bytes in two parts
front_parts : (bytes : List ℕ) → take 12 bytes ≡ take 8 bytes ++ take 4 (drop 8 bytes)
front_parts bytes =
    sym (take-append-drop 8 (take 12 bytes)) ∙ ap (λ (xs : List ℕ). xs ++ drop 8 (take 12 bytes)) (take-take 8 12 bytes (omega arith)) ∙ ap (λ (xs : List ℕ). take 8 bytes ++ xs) (drop-take 8 4 bytes)

version_value : (l : Layout) → layout_of (value_32 (spelled_u32 (version_of l))) ≡ Some l
version_value Fixed = refl
version_value Packed = refl

magic_front : (l : Layout) → take 8 (front_bytes l) ≡ MAGIC
magic_front Fixed = refl
magic_front Packed = refl

version_front : (l : Layout) → drop 8 (front_bytes l) ≡ spelled_u32 (version_of l)
version_front Fixed = refl
version_front Packed = refl

pub opening_of_opened_bytes : (l : Layout) (bytes : List ℕ) → IsOpened l bytes → opening_at bytes ≡ Ok (l, 12)
opening_of_opened_bytes l bytes open_so =
    let magic : take 8 bytes ≡ MAGIC = sym (take-take 8 12 bytes (omega arith)) ∙ ap (take 8) open_so.front ∙ magic_front l in
    let number : take 4 (drop 8 bytes) ≡ spelled_u32 (version_of l) = sym (drop-take 8 4 bytes) ∙ ap (drop 8) open_so.front ∙ version_front l in
    let layout : layout_of (version_in bytes) ≡ Some l = ap (λ (text : List ℕ). layout_of (value_32 text)) number ∙ version_value l in
    opening_after_magic bytes (omega (arith, open_so.whole)) magic ∙ layout_read_from_version bytes open_so.whole (Some l) layout

module _ (bytes : List ℕ) (fits : IsBytes bytes) where
  version_bytes_are_spelled : 12 ≤ length bytes → take 4 (drop 8 bytes) ≡ spelled_u32 (version_in bytes)
  version_bytes_are_spelled long =
      let text = take 4 (drop 8 bytes) in
      let len : length text ≡ 4 = omega (arith, length-take 4 (drop 8 bytes), length-drop 8 bytes) in
      sym (le_bytes_4 text (value_32 text) len (IsBytes-take 4 (drop 8 bytes) (IsBytes-drop 8 bytes fits)) refl)

  closed_if_too_short : length bytes < 8 → Closed bytes
  unfolding opening_at magic_at
  closed_if_too_short less =
      let short : ltb (length bytes) 8 ≡ true = lt-ltb _ _ less in
      record { fault = Short (length bytes); is = rw short refl; why = (refl, inl less) }

  closed_without_magic : 8 ≤ length bytes → bytes_eq MAGIC (take 8 bytes) ≡ false → (MAGIC ≡ take 8 bytes → ⊥) → Closed bytes
  unfolding opening_at magic_at
  closed_without_magic long is other =
      let there : ltb (length bytes) 8 ≡ false = le-ltb _ _ long in
      record { fault = Magic; is = rw (there, is) refl; why = record { whole = long; other = λ same. other (sym same) } }

  closed_without_version : 8 ≤ length bytes → take 8 bytes ≡ MAGIC → length bytes < 12 → Closed bytes
  unfolding layout_at u32_at
  closed_without_version long magic less =
      let short : ltb (length bytes - 8) 4 ≡ true = lt-ltb _ _ (omega arith) in
      record { fault = Short (length bytes); is = opening_after_magic bytes long magic ∙ rw short refl; why = (refl, inr (magic, long, less)) }

  opened_or_closed_by_version : 12 ≤ length bytes → take 8 bytes ≡ MAGIC → (o : Option Layout) → layout_of (version_in bytes) ≡ o → Opened bytes ⊎ Closed bytes
  opened_or_closed_by_version long magic (Some l) is =
      let number : take 4 (drop 8 bytes) ≡ spelled_u32 (version_of l) = version_bytes_are_spelled long ∙ ap spelled_u32 (sym (version_of_named_layout (version_in bytes) l is)) in
      inl (record {
        layout = l;
        is = record { whole = long; front = front_parts bytes ∙ ap (λ (xs : List ℕ). xs ++ take 4 (drop 8 bytes)) magic ∙ ap (λ (xs : List ℕ). MAGIC ++ xs) number };
      })
  opened_or_closed_by_version long magic None is =
      inr (record {
        fault = Version (version_in bytes);
        is = opening_after_magic bytes (omega (arith, long)) magic ∙ layout_read_from_version bytes long None is;
        why = record { magic = magic; whole = long; is = version_bytes_are_spelled long; other = is };
      })

  opened_or_closed_by_magic : 8 ≤ length bytes → (b : Bool) → bytes_eq MAGIC (take 8 bytes) ≡ b → Decides b (MAGIC ≡ take 8 bytes) → Opened bytes ⊎ Closed bytes
  opened_or_closed_by_magic long false is decides = inr (closed_without_magic long is (λ same. let e = decides.1 same in absurd cc))
  opened_or_closed_by_magic long true is decides =
      elim (cases_lt (length bytes) 12) [
        | inl less ↦ inr (closed_without_version long (sym (decides.0 refl)) less)
        | inr le ↦ opened_or_closed_by_version le (sym (decides.0 refl)) (layout_of (version_in bytes)) refl
      ]

  pub open_or_closed : Opened bytes ⊎ Closed bytes
  open_or_closed =
      elim (cases_lt (length bytes) 8) [
        | inl less ↦ inr (closed_if_too_short less)
        | inr le ↦ opened_or_closed_by_magic le (bytes_eq MAGIC (take 8 bytes)) refl (bytes_eq-Decides MAGIC (take 8 bytes))
      ]
