-- The numbers of four and of eight bytes, as byteorder reads and writes them.
use Rattle.std.proofs.Common.{◌≡◌, ℕ, List, ◌++◌, length, take, drop, sym, ◌∙◌, arith}
use Rattle.std.proofs.lemmas.List.{append-nil, drop_all}
use Rattle.std.specs.Int.{w32, w64, from_le_bytes, to_le_bytes}
use Rattle.byteorder.specs.Endian.{little_bytes, little_number}
use Rattle.byteorder.specs.Numbers.{little_from-take}

-- the first bytes of a list, as a number
pub number_of_4_bytes : (bytes : List ℕ) → little_number 4 bytes ≡ from_le_bytes w32 (take 4 bytes)
number_of_4_bytes bytes =
    let same : little_number 4 (take 4 bytes) ≡ from_le_bytes w32 (take 4 bytes) = omega arith in
    sym (little_from-take 0 4 4 bytes (omega arith)) ∙ same

pub number_of_8_bytes : (bytes : List ℕ) → little_number 8 bytes ≡ from_le_bytes w64 (take 8 bytes)
number_of_8_bytes bytes =
    let same : little_number 8 (take 8 bytes) ≡ from_le_bytes w64 (take 8 bytes) = omega arith in
    sym (little_from-take 0 8 8 bytes (omega arith)) ∙ same

-- the bytes of a number, written over a field
pub bytes_of_4 : (n : ℕ) (field : List ℕ) → length field ≡ 4 → little_bytes 4 n ++ drop 4 field ≡ to_le_bytes w32 n
bytes_of_4 n field len = rw (drop_all 4 field (omega arith)) (append-nil (little_bytes 4 n))

pub bytes_of_8 : (n : ℕ) (field : List ℕ) → length field ≡ 8 → little_bytes 8 n ++ drop 8 field ≡ to_le_bytes w64 n
bytes_of_8 n field len = rw (drop_all 8 field (omega arith)) (append-nil (little_bytes 8 n))
