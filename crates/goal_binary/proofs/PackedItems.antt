-- The parts of an operation in version 2.
use Rattle.std.proofs.Common.{◌≡◌, ℕ, zero, suc, ◌+◌, ◌*◌, ◌/◌, ◌%◌, ◌<◌, ◌≤◌, Bool, true, false, cond, ltb, leb, eqb, ◌&&◌, ◌||◌, List, [], ◌∷◌, refl, arith}
use Rattle.std.proofs.lemmas.Bool.{ltb-true, lt-ltb, le-leb, lt-leb, eqb-true}
use Rattle.std.proofs.lemmas.Bool.Decides.{nat_tests}
use Rattle.goal_graph.proofs.ForCallers.{and_left, and_right}
use Rattle.goal_binary.specs.declared.form.OpForm.{OpForm}
use Rattle.goal_binary.specs.declared.form.OpForm.TheVariants as form
use Rattle.goal_binary.specs.File.{packed, kind_code, flags_of, peer_in, tag_in, size_of, flag_unless_zero, byte_unless_zero, packed_if_some}
use Rattle.goal_binary.specs.Reading.{most_flags, form_of, has_peer, has_tag, kind_of, is_head}
use Rattle.goal_binary.proofs.FieldsTaken.{leb-le}

-- a number that is not 0
abbrev pub is_some : ℕ → Bool
is_some n = ltb 0 n

abbrev pub flag : Bool → ℕ → ℕ
flag b n = cond b n 0

-- the head with these parts
abbrev pub joined : (kind flags : ℕ) (cpu nic : Bool) → ℕ
joined kind flags cpu nic = kind + 4 * flags + flag cpu 16 + flag nic 32

pub record HasParts (head kind flags : ℕ) (cpu nic : Bool) : Type 0 where
  pub kind_is : head % 4 ≡ kind
  pub flags_are : head / 4 % 4 ≡ flags
  pub cpu_is : eqb (head / 16 % 2) 1 ≡ cpu
  pub nic_is : leb 32 head ≡ nic
  pub small : head < 64

eqb_one_true : (n : ℕ) → n ≡ 1 → eqb n 1 ≡ true
eqb_one_true n h = grind (arith, nat_tests)

is_none : (n : ℕ) → n ≡ 0 → eqb n 1 ≡ false
is_none n h = grind (arith, nat_tests)

pub joined_head_has_parts : (kind flags : ℕ) (cpu nic : Bool) → kind < 4 → flags < 4 → HasParts (joined kind flags cpu nic) kind flags cpu nic
joined_head_has_parts kind flags false false k f = record {
  kind_is = omega (arith, k, f);
  flags_are = omega (arith, k, f);
  cpu_is = is_none _ (omega (arith, k, f));
  nic_is = lt-leb _ _ (omega (arith, k, f));
  small = omega (arith, k, f);
}
joined_head_has_parts kind flags true false k f = record {
  kind_is = omega (arith, k, f);
  flags_are = omega (arith, k, f);
  cpu_is = eqb_one_true _ (omega (arith, k, f));
  nic_is = lt-leb _ _ (omega (arith, k, f));
  small = omega (arith, k, f);
}
joined_head_has_parts kind flags false true k f = record {
  kind_is = omega (arith, k, f);
  flags_are = omega (arith, k, f);
  cpu_is = is_none _ (omega (arith, k, f));
  nic_is = le-leb _ _ (omega (arith, k, f));
  small = omega (arith, k, f);
}
joined_head_has_parts kind flags true true k f = record {
  kind_is = omega (arith, k, f);
  flags_are = omega (arith, k, f);
  cpu_is = eqb_one_true _ (omega (arith, k, f));
  nic_is = le-leb _ _ (omega (arith, k, f));
  small = omega (arith, k, f);
}

-- a head is made of its parts
pub head_joined : (head : ℕ) → head < 64 → joined (head % 4) (head / 4 % 4) (eqb (head / 16 % 2) 1) (leb 32 head) ≡ head
head_joined head small = go (eqb (head / 16 % 2) 1) (leb 32 head) refl refl
  where
    not_one : (n : ℕ) → n < 2 → eqb n 1 ≡ false → n ≡ 0
    not_one n two is = grind (arith, nat_tests)

    is_small : (m n : ℕ) → leb m n ≡ false → n < m
    is_small m n is = grind (arith, nat_tests)

    go : (cpu nic : Bool) → eqb (head / 16 % 2) 1 ≡ cpu → leb 32 head ≡ nic → joined (head % 4) (head / 4 % 4) cpu nic ≡ head
    go false false c n = omega (arith, small, not_one (head / 16 % 2) (omega arith) c, is_small 32 head n)
    go true false c n = omega (arith, small, eqb-true (head / 16 % 2) 1 c, is_small 32 head n)
    go false true c n = omega (arith, small, not_one (head / 16 % 2) (omega arith) c, leb-le 32 head n)
    go true true c n = omega (arith, small, eqb-true (head / 16 % 2) 1 c, leb-le 32 head n)

-- what holds of a head that passes the test `is_head`
pub record IsHead (head : ℕ) : Type 0 where
  pub small : head < 64
  pub kind_fits : head % 4 ≤ 2
  pub flags_fit : head / 4 % 4 ≤ most_flags (head % 4)
  pub nic_fits : (ltb head 32 || ltb 0 (head % 4)) ≡ true

pub is_head_sound : (head : ℕ) → is_head head ≡ true → IsHead head
is_head_sound head passed =
    let a = ltb head 64 in
    let b = leb (head % 4) 2 in
    let c = leb (head / 4 % 4) (most_flags (head % 4)) in
    let d = ltb head 32 || ltb 0 (head % 4) in
    let abc = and_left (a && b && c) d passed in
    let ab = and_left (a && b) c abc in
    record {
      small = ltb-true head 64 (and_left a b ab);
      kind_fits = leb-le (head % 4) 2 (and_right a b ab);
      flags_fit = leb-le (head / 4 % 4) (most_flags (head % 4)) (and_right (a && b) c abc);
      nic_fits = and_right (a && b && c) d passed;
    }

pub is_head_complete : (head : ℕ) → IsHead head → is_head head ≡ true
is_head_complete head h = rw (lt-ltb head 64 h.small, le-leb (head % 4) 2 h.kind_fits, le-leb (head / 4 % 4) (most_flags (head % 4)) h.flags_fit, h.nic_fits) refl

-- the fields of the kind that `kind_of` builds from a form, a peer, a tag and a size
pub kind_code-kind_of : (kind flags peer tag size : ℕ) → kind ≤ 2 → kind_code (kind_of (form_of kind flags) peer tag size) ≡ kind
kind_code-kind_of zero flags peer tag size h = refl
kind_code-kind_of (suc zero) flags peer tag size h = refl
kind_code-kind_of (suc (suc zero)) flags peer tag size h = refl
kind_code-kind_of (suc (suc (suc k))) flags peer tag size h = absurd (omega (arith, h))

pub flags_of-kind_of : (kind flags peer tag size : ℕ) → kind ≤ 2 → flags ≤ most_flags kind → flags_of (kind_of (form_of kind flags) peer tag size) ≡ flags
flags_of-kind_of zero flags peer tag size k h = omega (arith, h)
flags_of-kind_of (suc zero) flags peer tag size k h = omega (arith, h)
flags_of-kind_of (suc (suc zero)) zero peer tag size k h = refl
flags_of-kind_of (suc (suc zero)) (suc zero) peer tag size k h = refl
flags_of-kind_of (suc (suc zero)) (suc (suc zero)) peer tag size k h = refl
flags_of-kind_of (suc (suc zero)) (suc (suc (suc zero))) peer tag size k h = refl
flags_of-kind_of (suc (suc zero)) (suc (suc (suc (suc f)))) peer tag size k h = absurd (omega (arith, h))
flags_of-kind_of (suc (suc (suc n))) flags peer tag size k h = absurd (omega (arith, k))

-- a packed number, or nothing
abbrev pub packed_if : Bool → ℕ → List ℕ
packed_if there n = cond there (packed n) []

pub peer_in-kind_of : (f : OpForm) (peer tag size : ℕ) → packed_if_some (peer_in (kind_of f peer tag size)) ≡ packed_if (has_peer f) peer
peer_in-kind_of form.Calc peer tag size = refl
peer_in-kind_of form.Send peer tag size = refl
peer_in-kind_of (form.Recv true any_tag) peer tag size = refl
peer_in-kind_of (form.Recv false any_tag) peer tag size = refl

pub tag_in-kind_of : (f : OpForm) (peer tag size : ℕ) → packed_if_some (tag_in (kind_of f peer tag size)) ≡ packed_if (has_tag f) tag
tag_in-kind_of form.Calc peer tag size = refl
tag_in-kind_of form.Send peer tag size = refl
tag_in-kind_of (form.Recv any_source true) peer tag size = refl
tag_in-kind_of (form.Recv any_source false) peer tag size = refl

pub size_of-kind_of : (f : OpForm) (peer tag size : ℕ) → size_of (kind_of f peer tag size) ≡ size
size_of-kind_of form.Calc peer tag size = refl
size_of-kind_of form.Send peer tag size = refl
size_of-kind_of (form.Recv any_source any_tag) peer tag size = refl

-- a flag, and a byte if it is not 0
not_zero : (k : ℕ) → eqb (suc k) 0 ≡ false
not_zero k = grind (arith, nat_tests)

some_suc : (k : ℕ) → is_some (suc k) ≡ true
some_suc k = lt-ltb 0 (suc k) (omega arith)

pub flag_unless_zero_by_test : (n k : ℕ) → flag_unless_zero n k ≡ flag (is_some k) n
flag_unless_zero_by_test n zero = refl
flag_unless_zero_by_test n (suc k) = rw (not_zero k, some_suc k) refl

pub byte_unless_zero_by_test : (k : ℕ) → byte_unless_zero k ≡ cond (is_some k) (k ∷ []) []
byte_unless_zero_by_test zero = refl
byte_unless_zero_by_test (suc k) = rw (not_zero k, some_suc k) refl
