-- A field that is written is read back.
use Rattle.std.proofs.Common.{◌≡◌, ℕ, ◌+◌, ◌-◌, ◌^◌, ◌<◌, ◌≤◌, true, false, ltb, List, ◌∷◌, ◌++◌, length, get_or, take, drop, Some, Ok, refl, sym, ap, ◌∙◌, arith}
use Rattle.std.specs.Prelude.{slice_get}
use Rattle.std.specs.Str.{bytes_eq}
use Rattle.std.specs.Int.{Width, w32, w64, byte_len, from_le_bytes, to_le_bytes}
use Rattle.std.proofs.lemmas.Bool.{le-leb, le-ltb}
use Rattle.std.proofs.lemmas.Bool.Decides.{nat_tests}
use Rattle.std.proofs.lemmas.List.{take_at, drop_at, drop_more, drop-drop, length-append, length-drop}
use Rattle.std.proofs.lemmas.Nat.{from_le_bytes-to_le_bytes_4, from_le_bytes-to_le_bytes_8}
use Rattle.std.proofs.lemmas.Option.{slice_get-get_or}
use Rattle.std.proofs.lemmas.Slice.Eq.{bytes_eq-Decides}
use Rattle.goal_binary.specs.declared.layout.TheConstants.{MAGIC}
use Rattle.goal_binary.specs.File.{spelled_u32, spelled_u64}
use Rattle.goal_binary.specs.Fields.{Read, byte_or_short, byte_at, word_at, u32_at, u64_at, byte_up_to, u32_up_to, u64_up_to, magic_at}

pub lt-ltb-true : (m n : ℕ) → m < n → ltb m n ≡ true
lt-ltb-true m n h = grind (arith, nat_tests)

-- a reader gives this value, and the place from which on these bytes follow
pub record IsReadAs {A : Type 0} (bytes : List ℕ) (read : Read A) (x : A) (rest : List ℕ) : Type 0 where
  pub place : ℕ
  pub is : read ≡ Ok (x, place)
  pub rest_is : drop place bytes ≡ rest

record RoundTripsNumbers (w : Width) (limit : ℕ) : Type 0 where
  len : (n : ℕ) → length (to_le_bytes w n) ≡ byte_len w
  again : (n : ℕ) → n < limit → from_le_bytes w (to_le_bytes w n) ≡ n

w32_round_trips_numbers : RoundTripsNumbers w32 (2 ^ 32)
w32_round_trips_numbers = record { len = λ n. refl; again = λ n lt. from_le_bytes-to_le_bytes_4 n lt }

w64_round_trips_numbers : RoundTripsNumbers w64 (2 ^ 64)
w64_round_trips_numbers = record { len = λ n. refl; again = λ n lt. from_le_bytes-to_le_bytes_8 n lt }

module _ (bytes : List ℕ) where
  pub byte_again : (at b : ℕ) (rest : List ℕ) → drop at bytes ≡ b ∷ rest → IsReadAs bytes (byte_at bytes at) b rest
  unfolding byte_at
  byte_again at b rest h =
      let inside : at < length bytes = omega (arith, length-drop at bytes, ap length h) in
      let more = drop_more bytes at 0 inside in
      let both : get_or bytes at 0 ∷ drop (at + 1) bytes ≡ b ∷ rest = sym more ∙ h in
      let here : slice_get bytes at ≡ Some b = slice_get-get_or bytes at 0 inside ∙ ap (λ (xs : List ℕ). Some (get_or xs 0 0)) both in
      record { place = at + 1; is = ap (byte_or_short bytes at) here; rest_is = ap (drop 1) both }

  word_again : (w : Width) (limit : ℕ) (wide : RoundTripsNumbers w limit) (at n : ℕ) (rest : List ℕ) → n < limit → drop at bytes ≡ to_le_bytes w n ++ rest → IsReadAs bytes (word_at bytes w at) n rest
  word_again w limit wide at n rest lt h =
      let len = wide.len n in
      let long : ltb (length bytes - at) (byte_len w) ≡ false = le-ltb _ _ (omega (arith, length-drop at bytes, ap length h, length-append (to_le_bytes w n) rest)) in
      record {
        place = at + byte_len w;
        is = rw (long, h, take_at (to_le_bytes w n) rest (byte_len w) len, wide.again n lt) refl;
        rest_is = sym (drop-drop (byte_len w) at bytes) ∙ ap (drop (byte_len w)) h ∙ drop_at (to_le_bytes w n) rest (byte_len w) len;
      }

  pub u32_again : (at n : ℕ) (rest : List ℕ) → n < 2 ^ 32 → drop at bytes ≡ spelled_u32 n ++ rest → IsReadAs bytes (u32_at bytes at) n rest
  unfolding u32_at
  u32_again at n rest lt h = word_again w32 (2 ^ 32) w32_round_trips_numbers at n rest lt h

  pub u64_again : (at n : ℕ) (rest : List ℕ) → n < 2 ^ 64 → drop at bytes ≡ spelled_u64 n ++ rest → IsReadAs bytes (u64_at bytes at) n rest
  unfolding u64_at
  u64_again at n rest lt h = word_again w64 (2 ^ 64) w64_round_trips_numbers at n rest lt h

  pub byte_up_to_again : (most at n : ℕ) (rest : List ℕ) → n ≤ most → drop at bytes ≡ n ∷ rest → IsReadAs bytes (byte_up_to bytes most at) n rest
  unfolding byte_up_to
  byte_up_to_again most at n rest below h =
      let r = byte_again at n rest h in
      record { place = r.place; is = rw (r.is, le-leb n most below) refl; rest_is = r.rest_is }

  pub u32_up_to_again : (most at n : ℕ) (rest : List ℕ) → n < 2 ^ 32 → n ≤ most → drop at bytes ≡ spelled_u32 n ++ rest → IsReadAs bytes (u32_up_to bytes most at) n rest
  unfolding u32_up_to
  u32_up_to_again most at n rest lt below h =
      let r = u32_again at n rest lt h in
      record { place = r.place; is = rw (r.is, le-leb n most below) refl; rest_is = r.rest_is }

  pub u64_up_to_again : (most at n : ℕ) (rest : List ℕ) → n < 2 ^ 64 → n ≤ most → drop at bytes ≡ spelled_u64 n ++ rest → IsReadAs bytes (u64_up_to bytes most at) n rest
  unfolding u64_up_to
  u64_up_to_again most at n rest lt below h =
      let r = u64_again at n rest lt h in
      record { place = r.place; is = rw (r.is, le-leb n most below) refl; rest_is = r.rest_is }

  pub magic_again : (rest : List ℕ) → bytes ≡ MAGIC ++ rest → magic_at bytes ≡ Ok 8
  unfolding magic_at
  magic_again rest h =
      let long : ltb (length bytes) 8 ≡ false = le-ltb _ _ (omega (arith, ap length h)) in
      let same : bytes_eq MAGIC (take 8 bytes) ≡ true = (bytes_eq-Decides MAGIC (take 8 bytes)).1 (sym (ap (take 8) h)) in
      rw (long, same) refl
