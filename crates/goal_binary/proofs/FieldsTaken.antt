-- A field that is read has been written so.
use Rattle.std.proofs.Common.{◌≡◌, ℕ, ◌+◌, ◌-◌, ◌≤◌, Bool, true, false, cond, ltb, leb, List, [], ◌∷◌, ◌++◌, length, take, drop, Option, Some, None, Ok, Err, refl, sym, ap, subst, ◌∙◌, arith, inl, inr}
use Rattle.std.specs.Prelude.{slice_get}
use Rattle.std.specs.Bool.{Decides}
use Rattle.std.specs.Str.{bytes_eq}
use Rattle.std.specs.Int.{Width, w32, w64, byte_len, from_le_bytes, to_le_bytes}
use Rattle.std.proofs.lemmas.Bool.{cases_lt, ltb-false}
use Rattle.std.proofs.lemmas.Bool.Decides.{nat_tests}
use Rattle.std.proofs.lemmas.List.{drop_more, drop-drop, take-append-drop, length-take, length-drop, get_or-drop, get_or-take, get_or_past}
use Rattle.std.proofs.lemmas.Nat.{le_bytes_4, le_bytes_8}
use Rattle.std.proofs.lemmas.Option.{slice_get_within, get_or_from_slice_get}
use Rattle.std.proofs.lemmas.Slice.Eq.{bytes_eq-Decides}
use Rattle.goal_binary.specs.declared.fault.FileFault.{FileFault}
use Rattle.goal_binary.specs.declared.fault.FileFault.TheVariants.{Short, Magic}
use Rattle.goal_binary.specs.declared.layout.TheConstants.{MAGIC}
use Rattle.goal_binary.specs.File.{spelled_u32, spelled_u64}
use Rattle.goal_binary.specs.Fields.{Read, ◌>>=◌, allow, byte_or_short, byte_at, word_at, u32_at, u64_at, byte_up_to, u32_up_to, u64_up_to, magic_at}
use Rattle.goal_binary.proofs.Steps.{IsBytes, bind_ok, allow_ok, ok_injective, Takes}

pub leb-le : (m n : ℕ) → leb m n ≡ true → m ≤ n
leb-le m n h = grind (arith, nat_tests)

pub IsBytes-drop : (n : ℕ) (bytes : List ℕ) → IsBytes bytes → IsBytes (drop n bytes)
IsBytes-drop n bytes h i = rw get_or-drop (h (n + i))

pub IsBytes-take : (n : ℕ) (bytes : List ℕ) → IsBytes bytes → IsBytes (take n bytes)
IsBytes-take n bytes h i =
    elim (cases_lt i n) [
      | inl lt ↦ rw (get_or-take n bytes i 0 lt) (h i)
      | inr le ↦ rw (get_or_past (take n bytes) i 0 (omega (arith, length-take n bytes))) (omega arith)
    ]

pub record RoundTripsBytes (w : Width) : Type 0 where
  pub back : (bytes : List ℕ) → length bytes ≡ byte_len w → IsBytes bytes → to_le_bytes w (from_le_bytes w bytes) ≡ bytes

w32_round_trips_bytes : RoundTripsBytes w32
w32_round_trips_bytes = record { back = λ bytes len fits. le_bytes_4 bytes _ len fits refl }

w64_round_trips_bytes : RoundTripsBytes w64
w64_round_trips_bytes = record { back = λ bytes len fits. le_bytes_8 bytes _ len fits refl }

-- a test that passed
pub guard_ok : {A : Type 0} (b : Bool) (d : FileFault) (x y : A) → cond b (Err d) (Ok x) ≡ Ok y → (b ≡ false) × (x ≡ y)
guard_ok true d x y e = absurd cc
guard_ok false d x y e = (refl, cc)

module _ (bytes : List ℕ) where
  pub byte_taken : (at : ℕ) (x : ℕ × ℕ) → byte_at bytes at ≡ Ok x → Takes bytes at (x.0 ∷ []) x.1
  unfolding byte_at
  byte_taken at x e = go (slice_get bytes at) refl e
    where
      go : (o : Option ℕ) → slice_get bytes at ≡ o → byte_or_short bytes at o ≡ Ok x → Takes bytes at (x.0 ∷ []) x.1
      go None is e = absurd cc
      go (Some b) is e =
          let inside = slice_get_within bytes at b is in
          let here = get_or_from_slice_get bytes at b 0 is in
          let front : drop at bytes ≡ b ∷ drop (at + 1) bytes = drop_more bytes at 0 inside ∙ ap (λ (n : ℕ). n ∷ drop (at + 1) bytes) here in
          subst (λ (y : ℕ × ℕ). Takes bytes at (y.0 ∷ []) y.1) (ok_injective (b, at + 1) x e) (record { parts = front })

  module _ (fits : IsBytes bytes) where
    word_taken : (w : Width) (wide : RoundTripsBytes w) (at : ℕ) (x : ℕ × ℕ) → word_at bytes w at ≡ Ok x → Takes bytes at (to_le_bytes w x.0) x.1
    word_taken w wide at x e =
        let rest = drop at bytes in
        let len = byte_len w in
        let g = guard_ok (ltb (length bytes - at) len) (Short (length bytes)) (from_le_bytes w (take len rest), at + len) x e in
        let long : len ≤ length bytes - at = ltb-false _ _ g.0 in
        let same : length (take len rest) ≡ len = omega (arith, length-take len rest, length-drop at bytes) in
        let front : to_le_bytes w (from_le_bytes w (take len rest)) ≡ take len rest = wide.back (take len rest) same (IsBytes-take len rest (IsBytes-drop at bytes fits)) in
        let later : drop len rest ≡ drop (at + len) bytes = drop-drop len at bytes in
        let whole : rest ≡ to_le_bytes w (from_le_bytes w (take len rest)) ++ drop (at + len) bytes = rw (front, ← later) (sym (take-append-drop len rest)) in
        subst (λ (y : ℕ × ℕ). Takes bytes at (to_le_bytes w y.0) y.1) g.1 (record { parts = whole })

    pub u32_taken : (at : ℕ) (x : ℕ × ℕ) → u32_at bytes at ≡ Ok x → Takes bytes at (spelled_u32 x.0) x.1
    unfolding u32_at
    u32_taken at x e = word_taken w32 w32_round_trips_bytes at x e

    pub u64_taken : (at : ℕ) (x : ℕ × ℕ) → u64_at bytes at ≡ Ok x → Takes bytes at (spelled_u64 x.0) x.1
    unfolding u64_at
    u64_taken at x e = word_taken w64 w64_round_trips_bytes at x e

  -- a field below its limit is the field
  pub up_to_ok : (read : Read ℕ) (most at : ℕ) (x : ℕ × ℕ) → (read >>= λ n. allow (leb n.0 most) at n) ≡ Ok x → (read ≡ Ok x) × (x.0 ≤ most)
  up_to_ok read most at x e =
      let a = bind_ok read (λ n. allow (leb n.0 most) at n) x e in
      let t = allow_ok (leb a.0.0 most) at a.0 x a.2 in
      (a.1 ∙ ap Ok t.1, subst (λ (y : ℕ × ℕ). y.0 ≤ most) t.1 (leb-le a.0.0 most t.0))

  pub byte_up_to_ok : (most at : ℕ) (x : ℕ × ℕ) → byte_up_to bytes most at ≡ Ok x → (byte_at bytes at ≡ Ok x) × (x.0 ≤ most)
  unfolding byte_up_to
  byte_up_to_ok most at x e = up_to_ok (byte_at bytes at) most at x e

  pub u32_up_to_ok : (most at : ℕ) (x : ℕ × ℕ) → u32_up_to bytes most at ≡ Ok x → (u32_at bytes at ≡ Ok x) × (x.0 ≤ most)
  unfolding u32_up_to
  u32_up_to_ok most at x e = up_to_ok (u32_at bytes at) most at x e

  pub u64_up_to_ok : (most at : ℕ) (x : ℕ × ℕ) → u64_up_to bytes most at ≡ Ok x → (u64_at bytes at ≡ Ok x) × (x.0 ≤ most)
  unfolding u64_up_to
  u64_up_to_ok most at x e = up_to_ok (u64_at bytes at) most at x e

  -- bytes whose magic number is read begin with it
  pub magic_taken : (after : ℕ) → magic_at bytes ≡ Ok after → Takes bytes 0 MAGIC after
  unfolding magic_at
  magic_taken after e = go (ltb (length bytes) 8) (bytes_eq MAGIC (take 8 bytes)) (bytes_eq-Decides MAGIC (take 8 bytes)) e
    where
      go : (short same : Bool) → Decides same (MAGIC ≡ take 8 bytes) → cond short (Err (Short (length bytes))) (cond same (Ok 8) (Err Magic)) ≡ Ok after → Takes bytes 0 MAGIC after
      go true same d e = absurd cc
      go false false d e = absurd cc
      go false true d e =
          let there : 8 ≡ after = ok_injective 8 after e in
          subst (λ (n : ℕ). Takes bytes 0 MAGIC n) there (record { parts = sym (take-append-drop 8 bytes) ∙ ap (λ (front : List ℕ). front ++ drop 8 bytes) (sym (d.0 refl)) })
