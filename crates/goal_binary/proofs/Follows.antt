-- Bytes that follow do not change what is read before them.
use Rattle.std.proofs.Common.{◌≡◌, ◌⊎◌, ℕ, ◌+◌, ◌≤◌, Bool, true, false, cond, ltb, List, ◌++◌, length, take, Option, Some, None, Result, Ok, Err, refl, sym, ap, subst, ◌∙◌, arith, inl, inr}
use Rattle.std.specs.Str.{bytes_eq}
use Rattle.std.proofs.lemmas.Bool.{cases_lt, lt-ltb, le-ltb}
use Rattle.std.proofs.lemmas.List.{take-append-le, length-append}
use Rattle.goal_binary.specs.declared.fault.FileFault.{FileFault}
use Rattle.goal_binary.specs.declared.fault.FileFault.TheVariants.{Short, Magic, Version, Field, Extra, Plan, NoMemory}
use Rattle.goal_binary.specs.declared.layout.TheConstants.{MAGIC}
use Rattle.goal_binary.specs.declared.layout.Layout.{Layout}
use Rattle.goal_binary.specs.Layouts.{layout_of}
use Rattle.goal_binary.specs.Fields.{Read, ◌>>=◌, named, u32_at, magic_at, layout_at, opening_at}
use Rattle.goal_binary.specs.Meaning.{plans_at}
use Rattle.goal_binary.proofs.Readers.{Reader, Reads, Halts}
use Rattle.goal_binary.proofs.FieldsRead.{u32_reads}
use Rattle.goal_binary.proofs.RanksRead.{body, body_reads}

-- a value is within the first n bytes
abbrev pub IsPlaced : {A : Type 0} → ℕ → (A → ℕ) → Result A FileFault → Type 0
IsPlaced len place (Ok x) = place x ≤ len
IsPlaced len place (Err f) = Unit {0}

abbrev pub failed : (A : Type 0) → FileFault → Result A FileFault
failed A f = Err f

-- What reading gives with and without more bytes: the bytes end first, or both are the same.
pub record Agree {A : Type 0} (len : ℕ) (place : A → ℕ) (cut whole : Result A FileFault) : Type 0 where
  pub is : (cut ≡ failed A (Short len)) ⊎ ((whole ≡ cut) × IsPlaced len place cut)

-- the place after a value
abbrev pub end_of : {A : Type 0} → A × ℕ → ℕ
end_of x = x.1

abbrev pub identity : ℕ → ℕ
identity n = n

same_fault_at_other_type : (A B : Type 0) (f g : FileFault) → failed A f ≡ failed A g → failed B f ≡ failed B g
same_fault_at_other_type A B f g e = cc

module _ (len : ℕ) where
  pub agree_then : {A B : Type 0} (place : A → ℕ) (later : B → ℕ) (cut whole : Result A FileFault) (f g : A → Result B FileFault) → Agree len place cut whole
      → ((x : A) → place x ≤ len → Agree len later (f x) (g x)) → Agree len later (cut >>= f) (whole >>= g)
  agree_then {A = A} {B = B} place later (Ok x) whole f g first each = go first.is
    where
      go : (Ok x ≡ failed A (Short len)) ⊎ ((whole ≡ Ok x) × (place x ≤ len)) → Agree len later (f x) (whole >>= g)
      go (inl e) = absurd cc
      go (inr same) = subst (λ r. Agree len later (f x) (r >>= g)) (sym same.0) (each x same.1)
  agree_then {A = A} {B = B} place later (Err d) whole f g first each = go first.is
    where
      go : (failed A d ≡ failed A (Short len)) ⊎ ((whole ≡ failed A d) × Unit {0}) → Agree len later (Err d) (whole >>= g)
      go (inl e) = record { is = inl (same_fault_at_other_type A B d (Short len) e) }
      go (inr same) = record { is = inr (ap (λ r. r >>= g) same.0, tt) }

  pub agree_ok : {A : Type 0} (place : A → ℕ) (x : A) → place x ≤ len → Agree len place (Ok x) (Ok x)
  agree_ok place x within = record { is = inr (refl, within) }

  pub agree_test : {A : Type 0} (place : A → ℕ) (b : Bool) (x : A) (f : FileFault) → place x ≤ len → Agree len place (cond b (Ok x) (Err f)) (cond b (Ok x) (Err f))
  agree_test place true x f within = agree_ok place x within
  agree_test place false x f within = record { is = inr (refl, tt) }

-- a reader gives the same for a prefix as for the whole, or finds that the prefix is short
module _ {l : Layout} {A : Type 0} {V : A → Type 0} {P : Reader A} (reads : Reads l V P) (bytes more : List ℕ) where
  halts_follow : (at place width : ℕ) (fault : FileFault) → Halts P bytes at place width fault → P bytes at ≡ Err fault → Agree (length bytes) end_of (P bytes at) (P (bytes ++ more) at)
  halts_follow at place width (Short n) how e = record { is = inl (e ∙ ap (λ (k : ℕ). Err (Short k)) how.0) }
  halts_follow at place width (Field p) how e =
      let same = how.2 (bytes ++ more) (take-append-le (place + width) bytes more how.1) in
      rw (e, same) (record { is = inr (refl, tt) })
  halts_follow at place width Magic how e = absurd how
  halts_follow at place width (Version found) how e = absurd how
  halts_follow at place width (Extra p) how e = absurd how
  halts_follow at place width (Plan rule) how e = absurd how
  halts_follow at place width NoMemory how e = absurd how

  pub reads_follow : (at : ℕ) → at ≤ length bytes → Agree (length bytes) end_of (P bytes at) (P (bytes ++ more) at)
  reads_follow at le = go (P bytes at) refl
    where
      go : (r : Read A) → P bytes at ≡ r → Agree (length bytes) end_of (P bytes at) (P (bytes ++ more) at)
      go (Ok x) e =
          let inside = reads.inside bytes at x.0 x.1 le e in
          let same = reads.same bytes (bytes ++ more) at x.0 x.1 le e (take-append-le x.1 bytes more inside.1) in
          rw (e, same) (record { is = inr (refl, inside.1) })
      go (Err fault) e =
          let s = reads.stops bytes at fault le e in
          halts_follow at s.place s.width fault s.how e

module _ (bytes more : List ℕ) where
  magic_follows : Agree (length bytes) identity (magic_at bytes) (magic_at (bytes ++ more))
  unfolding magic_at
  magic_follows = elim (cases_lt (length bytes) 8) [
    | inl short ↦ record { is = inl (rw (lt-ltb _ _ short) refl) }
    | inr long ↦
        let here : ltb (length bytes) 8 ≡ false = le-ltb _ _ long in
        let there : ltb (length (bytes ++ more)) 8 ≡ false = le-ltb _ _ (omega (arith, length-append bytes more)) in
        let front : take 8 (bytes ++ more) ≡ take 8 bytes = take-append-le 8 bytes more long in
        rw (here, there, front) (agree_test (length bytes) identity (bytes_eq MAGIC (take 8 bytes)) 8 Magic long)
  ]

  named_follows : (version : ℕ) (o : Option Layout) (after : ℕ) → after ≤ length bytes → Agree (length bytes) end_of (named version o after) (named version o after)
  named_follows version None after within = record { is = inr (refl, tt) }
  named_follows version (Some l) after within = record { is = inr (refl, within) }

  layout_follows : (at : ℕ) → at ≤ length bytes → Agree (length bytes) end_of (layout_at bytes at) (layout_at (bytes ++ more) at)
  unfolding layout_at
  layout_follows at le =
      agree_then (length bytes) end_of end_of (u32_at bytes at) (u32_at (bytes ++ more) at) (λ n. named n.0 (layout_of n.0) n.1) (λ n. named n.0 (layout_of n.0) n.1)
      (reads_follow u32_reads bytes more at le) (λ n within. named_follows n.0 (layout_of n.0) n.1 within)

  opening_follows : Agree (length bytes) end_of (opening_at bytes) (opening_at (bytes ++ more))
  unfolding opening_at
  opening_follows =
      agree_then (length bytes) identity end_of (magic_at bytes) (magic_at (bytes ++ more)) (layout_at bytes) (layout_at (bytes ++ more)) magic_follows (λ m within. layout_follows m within)

  pub plans_follow : Agree (length bytes) end_of (plans_at bytes) (plans_at (bytes ++ more))
  unfolding plans_at
  plans_follow =
      agree_then (length bytes) end_of end_of (opening_at bytes) (opening_at (bytes ++ more)) (λ layout. body layout.0 bytes layout.1) (λ layout. body layout.0 (bytes ++ more) layout.1) opening_follows
      (λ layout within. reads_follow (body_reads layout.0) bytes more layout.1 within)
