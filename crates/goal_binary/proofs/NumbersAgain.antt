-- A number, the magic number and the version are read back as written.
use Rattle.std.proofs.Common.{◌≡◌, ℕ, ◌+◌, ◌^◌, ◌<◌, ◌≤◌, List, ◌++◌, drop, Some, Option, refl, ap, arith}
use Rattle.std.proofs.lemmas.Bool.{le-leb}
use Rattle.goal_limits.specs.declared.limits.TheConstants.{MAX_RANKS}
use Rattle.goal_binary.specs.declared.layout.TheConstants.{MAGIC}
use Rattle.goal_binary.specs.declared.layout.Layout.{Layout}
use Rattle.goal_binary.specs.declared.layout.Layout.TheVariants.{Fixed, Packed}
use Rattle.goal_binary.specs.Layouts.{version_of, layout_of}
use Rattle.goal_binary.specs.File.{packed, spelled_u32, spelled_count}
use Rattle.goal_binary.specs.Fields.{named, packed_up_to, number_at, count_at, layout_at, opening_at, rank_count_at}
use Rattle.goal_binary.proofs.FieldsAgain.{IsReadAs, lt-ltb-true, u32_again, magic_again}
use Rattle.goal_binary.proofs.Packed.{packed_again}

layout_of-version_of : (l : Layout) → layout_of (version_of l) ≡ Some l
layout_of-version_of Fixed = refl
layout_of-version_of Packed = refl

version_fits : (l : Layout) → version_of l < 2 ^ 32
version_fits Fixed = omega arith
version_fits Packed = omega arith

module _ (bytes : List ℕ) where
  pub packed_up_to_again : (most at n : ℕ) (rest : List ℕ) → n < 2 ^ 64 → n ≤ most → drop at bytes ≡ packed n ++ rest → IsReadAs bytes (packed_up_to bytes most at) n rest
  unfolding packed_up_to
  packed_up_to_again most at n rest lt below h =
      let r = packed_again bytes at n rest lt h in
      record { place = r.place; is = rw (r.is, le-leb n most below) refl; rest_is = r.rest_is }

  number_again : (l : Layout) (at n : ℕ) (rest : List ℕ) → n < 2 ^ 32 → drop at bytes ≡ spelled_count l n ++ rest → IsReadAs bytes (number_at bytes l at) n rest
  unfolding number_at spelled_count
  number_again Fixed at n rest lt h = u32_again bytes at n rest lt h
  number_again Packed at n rest lt h = packed_again bytes at n rest (omega arith) h

  pub count_again : (l : Layout) (limit before at n : ℕ) (rest : List ℕ) → n < 2 ^ 32 → before + n ≤ limit → drop at bytes ≡ spelled_count l n ++ rest → IsReadAs bytes (count_at bytes l limit before at) n rest
  unfolding count_at
  count_again l limit before at n rest lt below h =
      let r = number_again l at n rest lt h in
      record { place = r.place; is = rw (r.is, le-leb (before + n) limit below) refl; rest_is = r.rest_is }

  pub rank_count_again : (l : Layout) (at n : ℕ) (rest : List ℕ) → 0 < n → n ≤ MAX_RANKS → drop at bytes ≡ spelled_count l n ++ rest → IsReadAs bytes (rank_count_at bytes l at) n rest
  unfolding rank_count_at
  rank_count_again l at n rest some below h =
      let r = number_again l at n rest (omega arith) h in
      record { place = r.place; is = rw (r.is, le-leb n MAX_RANKS below, lt-ltb-true 0 n some) refl; rest_is = r.rest_is }

  pub opening_again : (l : Layout) (rest : List ℕ) → bytes ≡ MAGIC ++ (spelled_u32 (version_of l) ++ rest) → IsReadAs bytes (opening_at bytes) l rest
  unfolding opening_at layout_at
  opening_again l rest h =
      let v = u32_again bytes 8 (version_of l) rest (version_fits l) (ap (drop 8) h) in
      record {
        place = v.place;
        is = rw (magic_again bytes _ h, v.is) (ap (λ (o : Option Layout). named (version_of l) o v.place) (layout_of-version_of l));
        rest_is = v.rest_is;
      }
