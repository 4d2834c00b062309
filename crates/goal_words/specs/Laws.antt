-- Laws of command lines: it does not matter where options are among the plain words, or in which order.
use Rattle.std.specs.Prelude.{ℕ, ◌≡◌, ◌∷◌, ◌++◌, Bool, true, false, not, List, []}
use Rattle.goal_words.specs.Options.{is_option, begins_dash}
use Rattle.goal_words.specs.Words.{options_of, command_of}

-- words that belong together
pub data Group : Type 0 where
  -- a plain word
  Word : List ℕ → Group
  -- an option word, followed by its value
  Apart : List ℕ → List ℕ → Group
  -- an option word joined to its value by `=`
  Joined : List ℕ → List ℕ → Group

-- the words of a group
abbrev pub spelt : Group → List (List ℕ)
spelt (Word w) = w ∷ []
spelt (Apart option value) = option ∷ value ∷ []
spelt (Joined option value) = (option ++ (61 ∷ value)) ∷ []

-- an option from this list with a value that does not begin with `-`
abbrev pub IsSetting : List (List ℕ) → Group → Type 0
IsSetting options (Word w) = ⊥
IsSetting options (Apart option value) = (is_option options option ≡ true) × (begins_dash value ≡ false)
IsSetting options (Joined option value) = (is_option options option ≡ true) × (begins_dash value ≡ false)

-- an option with its value, or a plain word
abbrev pub IsGroup : List (List ℕ) → Group → Type 0
IsGroup options (Word w) = begins_dash w ≡ false
IsGroup options (Apart option value) = IsSetting options (Apart option value)
IsGroup options (Joined option value) = IsSetting options (Joined option value)

-- the words do not end with an option word, which would take the next word as its value
abbrev pub ends_whole : List (List ℕ) → List (List ℕ) → Bool
ends_whole options [] = true
ends_whole options (w ∷ []) = not (is_option options w)
ends_whole options (v ∷ w ∷ words) = ends_whole options (w ∷ words)

-- an option may be swapped with the group next to it
abbrev pub OptionsMove : Type 0
OptionsMove =
    (first : List ℕ) (before after : List (List ℕ)) (g h : Group) → ends_whole (options_of first) before ≡ true → IsSetting (options_of first) g → IsGroup (options_of first) h
    → command_of (first ∷ (before ++ (spelt g ++ (spelt h ++ after)))) ≡ command_of (first ∷ (before ++ (spelt h ++ (spelt g ++ after))))

-- an option word may be joined to its value
abbrev pub OptionsJoin : Type 0
OptionsJoin =
    (first option value : List ℕ) (before after : List (List ℕ)) → ends_whole (options_of first) before ≡ true → IsSetting (options_of first) (Apart option value)
    → command_of (first ∷ (before ++ (option ∷ value ∷ after))) ≡ command_of (first ∷ (before ++ ((option ++ (61 ∷ value)) ∷ after)))
