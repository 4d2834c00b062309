-- An operation, a dependency or a note read in version 2 has been written so.
use Rattle.std.proofs.Common.{◌≡◌, ℕ, zero, suc, ◌+◌, ◌*◌, ◌/◌, ◌%◌, ◌≤◌, Bool, true, false, ltb, leb, eqb, List, [], ◌∷◌, ◌++◌, Ok, refl, sym, ap, subst, ◌∙◌, arith}
use Rattle.goal_graph.specs.declared.plan.Op.{Op}
use Rattle.goal_graph.specs.declared.plan.Dep.{Dep}
use Rattle.goal_graph.specs.declared.plan.Note.{Note}
use Rattle.goal_binary.specs.declared.form.Head.{Head}
use Rattle.goal_binary.specs.File.{packed, when_code, byte_unless_zero, head_code, packed_note_bytes, packed_note_fields, packed_op, packed_dep, packed_note}
use Rattle.goal_binary.specs.Fields.{Read, ◌>>=◌, allow, byte_at, byte_up_to, packed_up_to, some_byte_at}
use Rattle.goal_binary.specs.Reading.{has_peer, has_tag, most_size, kind_of, when_of, note_of, is_head, head_of, head_byte_at, head_at, some_byte_if, packed_u32_at, packed_u32_if, packed_op_at, packed_dep_at, packed_note_at}
use Rattle.goal_binary.proofs.Steps.{IsBytes, bind_ok, allow_ok, ok_injective, Takes, Takes-then}
use Rattle.goal_binary.proofs.FieldsTaken.{byte_taken, byte_up_to_ok}
use Rattle.goal_binary.proofs.NumbersTaken.{packed_up_to_ok}
use Rattle.goal_binary.proofs.Packed.{packed_taken}
use Rattle.goal_binary.proofs.FixedTaken.{when_of-code}
use Rattle.goal_binary.proofs.PackedItems.{is_some, IsHead, is_head_sound, head_joined, kind_code-kind_of, flags_of-kind_of, packed_if, peer_in-kind_of, tag_in-kind_of, size_of-kind_of, flag_unless_zero_by_test, byte_unless_zero_by_test}

-- the operation of these fields
abbrev pub op_of : (head cpu nic peer tag size : ℕ) → Op
op_of head cpu nic peer tag size = record { kind = kind_of (head_of head).form peer tag size; cpu = cpu; nic = nic }

head_code_of_made_op : (head cpu nic peer tag size : ℕ) → IsHead head → is_some cpu ≡ eqb (head / 16 % 2) 1 → is_some nic ≡ leb 32 head → head_code (op_of head cpu nic peer tag size) ≡ head
head_code_of_made_op head cpu nic peer tag size h c n =
    let kind = kind_code-kind_of (head % 4) (head / 4 % 4) peer tag size h.kind_fits in
    let flags = flags_of-kind_of (head % 4) (head / 4 % 4) peer tag size h.kind_fits h.flags_fit in
    rw (kind, flags, flag_unless_zero_by_test 16 cpu, flag_unless_zero_by_test 32 nic, c, n) (head_joined head h.small)

op_spelled : (head cpu nic peer tag size : ℕ) → IsHead head → is_some cpu ≡ eqb (head / 16 % 2) 1 → is_some nic ≡ leb 32 head
    → packed_op (op_of head cpu nic peer tag size) ≡ (head ∷ []) ++ byte_unless_zero cpu ++ byte_unless_zero nic ++ packed_if (has_peer (head_of head).form) peer ++ packed_if (has_tag (head_of head).form) tag ++ packed size
unfolding packed_op
op_spelled head cpu nic peer tag size h c n =
    let f = (head_of head).form in
    rw (head_code_of_made_op head cpu nic peer tag size h c n, peer_in-kind_of f peer tag size, tag_in-kind_of f peer tag size, size_of-kind_of f peer tag size) refl

note_spelled : (kind op first second : ℕ) → kind ≤ 1 → packed_note_fields (note_of kind op first second) ≡ packed_note_bytes kind op first second
note_spelled zero op first second h = refl
note_spelled (suc zero) op first second h = refl
note_spelled (suc (suc k)) op first second h = absurd (omega arith)

abbrev number_pair : ℕ → ℕ → ℕ × ℕ
number_pair n at = (n, at)

module _ (bytes : List ℕ) (fits : IsBytes bytes) where
  record SomeTaken (there : Bool) (at n after : ℕ) : Type 0 where
    takes : Takes bytes at (byte_unless_zero n) after
    some_is : is_some n ≡ there

  some_byte_taken : (there : Bool) (at : ℕ) (x : ℕ × ℕ) → some_byte_if bytes there at ≡ Ok x → SomeTaken there at x.0 x.1
  unfolding some_byte_if some_byte_at
  some_byte_taken true at x e =
      let a = bind_ok (byte_at bytes at) (λ n. allow (ltb 0 n.0) at n) x e in
      let t = allow_ok (ltb 0 a.0.0) at a.0 x a.2 in
      let some : is_some x.0 ≡ true = subst (λ (y : ℕ × ℕ). is_some y.0 ≡ true) t.1 t.0 in
      let takes = byte_taken bytes at x (a.1 ∙ ap Ok t.1) in
      record { takes = rw (byte_unless_zero_by_test x.0, some) takes; some_is = some }
  some_byte_taken false at x e =
      subst (λ (y : ℕ × ℕ). SomeTaken false at y.0 y.1) (ok_injective (number_pair 0 at) x e) (record { takes = record { parts = refl }; some_is = refl })

  packed_u32_taken : (at : ℕ) (x : ℕ × ℕ) → packed_u32_at bytes at ≡ Ok x → Takes bytes at (packed x.0) x.1
  unfolding packed_u32_at
  packed_u32_taken at x e = packed_taken bytes fits at x (packed_up_to_ok bytes 4294967295 at x e).0

  packed_u32_if_taken : (there : Bool) (at : ℕ) (x : ℕ × ℕ) → packed_u32_if bytes there at ≡ Ok x → Takes bytes at (packed_if there x.0) x.1
  unfolding packed_u32_if
  packed_u32_if_taken true at x e = packed_u32_taken at x e
  packed_u32_if_taken false at x e = subst (λ (y : ℕ × ℕ). Takes bytes at [] y.1) (ok_injective (number_pair 0 at) x e) (record { parts = refl })

  record HeadTaken (at : ℕ) (h : Head) (after : ℕ) : Type 0 where
    head : ℕ
    is : IsHead head
    same : head_of head ≡ h
    takes : Takes bytes at (head ∷ []) after

  head_taken : (at : ℕ) (x : Head × ℕ) → head_at bytes at ≡ Ok x → HeadTaken at x.0 x.1
  unfolding head_at head_byte_at
  head_taken at x e =
      let a = bind_ok (byte_at bytes at >>= λ n. allow (is_head n.0) at n) (λ n. Ok (head_of n.0, n.1)) x e in
      let b = bind_ok (byte_at bytes at) (λ n. allow (is_head n.0) at n) a.0 a.1 in
      let t = allow_ok (is_head b.0.0) at b.0 a.0 b.2 in
      let made : Head × ℕ = (head_of a.0.0, a.0.1) in
      let good : is_head a.0.0 ≡ true = subst (λ (y : ℕ × ℕ). is_head y.0 ≡ true) t.1 t.0 in
      let is = ok_injective made x a.2 in
      record {
        head = a.0.0;
        is = is_head_sound a.0.0 good;
        same = ap (λ (p : Head × ℕ). p.0) is;
        takes = subst (λ (p : ℕ). Takes bytes at (a.0.0 ∷ []) p) (ap (λ (p : Head × ℕ). p.1) is) (byte_taken bytes at a.0 (b.1 ∙ ap Ok t.1));
      }

  -- what follows the head
  abbrev fields_at : Head → ℕ → Read Op
  fields_at h at = do
    cpu ← some_byte_if bytes h.has_cpu at
    nic ← some_byte_if bytes h.has_nic cpu.1
    peer ← packed_u32_if bytes (has_peer h.form) nic.1
    tag ← packed_u32_if bytes (has_tag h.form) peer.1
    size ← packed_up_to bytes (most_size h.form) tag.1
    Ok (record { kind = kind_of h.form peer.0 tag.0 size.0; cpu = cpu.0; nic = nic.0 }, size.1)

  fields_taken : (head at place : ℕ) (x : Op × ℕ) → IsHead head → Takes bytes at (head ∷ []) place → fields_at (head_of head) place ≡ Ok x → Takes bytes at (packed_op x.0) x.1
  fields_taken head at place x good takes e =
      let h = head_of head in
      let b = bind_ok (some_byte_if bytes h.has_cpu place) _ x e in
      let c = bind_ok (some_byte_if bytes h.has_nic b.0.1) _ x b.2 in
      let d = bind_ok (packed_u32_if bytes (has_peer h.form) c.0.1) _ x c.2 in
      let g = bind_ok (packed_u32_if bytes (has_tag h.form) d.0.1) _ x d.2 in
      let s = bind_ok (packed_up_to bytes (most_size h.form) g.0.1) _ x g.2 in
      let cpu = some_byte_taken h.has_cpu place b.0 b.1 in
      let nic = some_byte_taken h.has_nic b.0.1 c.0 c.1 in
      let size = packed_taken bytes fits g.0.1 s.0 (packed_up_to_ok bytes (most_size h.form) g.0.1 s.0 s.1).0 in
      let all =
      Takes-then bytes at _ g.0.1 _ s.0.1
      (Takes-then bytes at _ d.0.1 _ g.0.1
      (Takes-then bytes at _ c.0.1 _ d.0.1
      (Takes-then bytes at _ b.0.1 _ c.0.1
      (Takes-then bytes at _ place _ b.0.1 takes cpu.takes) nic.takes)
      (packed_u32_if_taken (has_peer h.form) c.0.1 d.0 d.1))
      (packed_u32_if_taken (has_tag h.form) d.0.1 g.0 g.1)) size in
      let made : Op × ℕ = (op_of head b.0.0 c.0.0 d.0.0 g.0.0 s.0.0, s.0.1) in
      let spelled = op_spelled head b.0.0 c.0.0 d.0.0 g.0.0 s.0.0 good cpu.some_is nic.some_is in
      subst (λ (y : Op × ℕ). Takes bytes at (packed_op y.0) y.1) {x = made} (ok_injective made x s.2) (subst (λ (text : List ℕ). Takes bytes at text s.0.1) (sym spelled) all)

  pub packed_op_taken : (at : ℕ) (x : Op × ℕ) → packed_op_at bytes at ≡ Ok x → Takes bytes at (packed_op x.0) x.1
  unfolding packed_op_at
  packed_op_taken at x e =
      let a = bind_ok (head_at bytes at) (λ h. fields_at h.0 h.1) x e in
      let h = head_taken at a.0 a.1 in
      fields_taken h.head at a.0.1 x h.is h.takes (subst (λ (g : Head). fields_at g a.0.1 ≡ Ok x) (sym h.same) a.2)

  pub packed_dep_taken : (at : ℕ) (x : Dep × ℕ) → packed_dep_at bytes at ≡ Ok x → Takes bytes at (packed_dep x.0) x.1
  unfolding packed_dep_at packed_dep
  packed_dep_taken at x e =
      let a = bind_ok (packed_u32_at bytes at) _ x e in
      let b = bind_ok (packed_up_to bytes 8589934591 a.0.1) _ x a.2 in
      let number = b.0.0 in
      let whole : 2 * (number / 2) + when_code (when_of (number % 2)) ≡ number = omega (arith, when_of-code (number % 2) (omega arith)) in
      let second : Takes bytes a.0.1 (packed (2 * (number / 2) + when_code (when_of (number % 2)))) b.0.1 =
      subst (λ (n : ℕ). Takes bytes a.0.1 (packed n) b.0.1) (sym whole) (packed_taken bytes fits a.0.1 b.0 (packed_up_to_ok bytes 8589934591 a.0.1 b.0 b.1).0) in
      let made : Dep × ℕ = (record { later = a.0.0; earlier = number / 2; when = when_of (number % 2) }, b.0.1) in
      subst (λ (y : Dep × ℕ). Takes bytes at (packed_dep y.0) y.1) {x = made} (ok_injective made x b.2) (Takes-then bytes at (packed a.0.0) a.0.1 _ b.0.1 (packed_u32_taken at a.0 a.1) second)

  pub packed_note_taken : (at : ℕ) (x : Note × ℕ) → packed_note_at bytes at ≡ Ok x → Takes bytes at (packed_note x.0) x.1
  unfolding packed_note_at packed_note
  packed_note_taken at x e =
      let a = bind_ok (byte_up_to bytes 1 at) _ x e in
      let b = bind_ok (packed_u32_at bytes a.0.1) _ x a.2 in
      let c = bind_ok (packed_u32_at bytes b.0.1) _ x b.2 in
      let d = bind_ok (packed_u32_at bytes c.0.1) _ x c.2 in
      let k = byte_up_to_ok bytes 1 at a.0 a.1 in
      let all : Takes bytes at (packed_note_bytes a.0.0 b.0.0 c.0.0 d.0.0) d.0.1 =
      Takes-then bytes at _ c.0.1 _ d.0.1
      (Takes-then bytes at _ b.0.1 _ c.0.1
      (Takes-then bytes at (a.0.0 ∷ []) a.0.1 _ b.0.1 (byte_taken bytes at a.0 k.0) (packed_u32_taken a.0.1 b.0 b.1))
      (packed_u32_taken b.0.1 c.0 c.1)) (packed_u32_taken c.0.1 d.0 d.1) in
      let made : Note × ℕ = (note_of a.0.0 b.0.0 c.0.0 d.0.0, d.0.1) in
      subst (λ (y : Note × ℕ). Takes bytes at (packed_note y.0) y.1) {x = made} (ok_injective made x d.2)
      (subst (λ (text : List ℕ). Takes bytes at text d.0.1) (sym (note_spelled a.0.0 b.0.0 c.0.0 d.0.0 k.1)) all)
