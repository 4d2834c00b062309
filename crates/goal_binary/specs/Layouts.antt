-- The first bytes of each compiled file, the two layouts of files, and their versions.
use Rattle.std.specs.Prelude.{ℕ, zero, suc, List, [], ◌∷◌, Option, Some, None}
use Rattle.goal_binary.specs.declared.layout.Layout.{Layout}
use Rattle.goal_binary.specs.declared.layout.Layout.TheVariants.{Fixed, Packed}

-- the first bytes of each compiled file: 89 47 4F 41 4C 0D 0A 1A in hexadecimal
abbrev pub magic_bytes : List ℕ
magic_bytes = 137 ∷ 71 ∷ 79 ∷ 65 ∷ 76 ∷ 13 ∷ 10 ∷ 26 ∷ []

abbrev pub version_of : Layout → ℕ
version_of Fixed = 1
version_of Packed = 2

abbrev pub layout_of : ℕ → Option Layout
layout_of zero = None
layout_of (suc zero) = Some Fixed
layout_of (suc (suc zero)) = Some Packed
layout_of (suc (suc (suc n))) = None
