-- An operation, a dependency or a note read in version 1 has been written so.
use Rattle.std.proofs.Common.{◌≡◌, ℕ, zero, suc, ◌≤◌, List, [], ◌∷◌, Ok, refl, sym, ap, subst, arith}
use Rattle.goal_graph.specs.declared.plan.Op.{Op}
use Rattle.goal_graph.specs.declared.plan.Dep.{Dep}
use Rattle.goal_graph.specs.declared.plan.Note.{Note}
use Rattle.goal_binary.specs.declared.form.OpForm.{OpForm}
use Rattle.goal_binary.specs.File.{spelled_u32, spelled_u64, op_bytes, note_bytes, fixed_op, fixed_dep, fixed_note, when_code, note_fields}
use Rattle.goal_binary.specs.Fields.{◌>>=◌, byte_at, u32_at, byte_up_to, u32_up_to, u64_up_to}
use Rattle.goal_binary.specs.Reading.{most_flags, form_of, most_nic, most_peer, most_tag, most_size, kind_of, when_of, note_of, form_at, fixed_op_at, fixed_dep_at, fixed_note_at}
use Rattle.goal_binary.proofs.Steps.{IsBytes, bind_ok, ok_injective, Takes, Takes-then}
use Rattle.goal_binary.proofs.FieldsTaken.{byte_taken, u32_taken, u64_taken, byte_up_to_ok, u32_up_to_ok, u64_up_to_ok}

-- the numbers of an operation, which its fields may have
pub record AreFields (kind flags nic peer tag : ℕ) : Type 0 where
  pub kind_fits : kind ≤ 2
  pub flags_fit : flags ≤ most_flags kind
  pub nic_fits : nic ≤ most_nic (form_of kind flags)
  pub peer_fits : peer ≤ most_peer (form_of kind flags)
  pub tag_fits : tag ≤ most_tag (form_of kind flags)

abbrev pub made_op : (kind flags cpu nic peer tag size : ℕ) → Op
made_op kind flags cpu nic peer tag size = record { kind = kind_of (form_of kind flags) peer tag size; cpu = cpu; nic = nic }

zero_from_le_zero : (n : ℕ) → n ≤ 0 → n ≡ 0
zero_from_le_zero n h = omega arith

pub made_op-spelled : (kind flags cpu nic peer tag size : ℕ) → AreFields kind flags nic peer tag → fixed_op (made_op kind flags cpu nic peer tag size) ≡ op_bytes kind flags cpu nic peer tag size
unfolding fixed_op
made_op-spelled zero flags cpu nic peer tag size h =
    rw (zero_from_le_zero flags h.flags_fit, zero_from_le_zero peer h.peer_fits, zero_from_le_zero tag h.tag_fits) refl
made_op-spelled (suc zero) flags cpu nic peer tag size h = rw (zero_from_le_zero flags h.flags_fit) refl
made_op-spelled (suc (suc zero)) zero cpu nic peer tag size h = refl
made_op-spelled (suc (suc zero)) (suc zero) cpu nic peer tag size h = rw (zero_from_le_zero peer h.peer_fits) refl
made_op-spelled (suc (suc zero)) (suc (suc zero)) cpu nic peer tag size h = rw (zero_from_le_zero tag h.tag_fits) refl
made_op-spelled (suc (suc zero)) (suc (suc (suc zero))) cpu nic peer tag size h = rw (zero_from_le_zero peer h.peer_fits, zero_from_le_zero tag h.tag_fits) refl
made_op-spelled (suc (suc zero)) (suc (suc (suc (suc f)))) cpu nic peer tag size h = absurd (omega (arith, h.flags_fit))
made_op-spelled (suc (suc (suc k))) flags cpu nic peer tag size h = absurd (omega (arith, h.kind_fits))

-- a number of a dependency or of a note that is at most 1
pub when_of-code : (n : ℕ) → n ≤ 1 → when_code (when_of n) ≡ n
when_of-code zero h = refl
when_of-code (suc zero) h = refl
when_of-code (suc (suc n)) h = absurd (omega arith)

pub note_of-fields : (kind op first second : ℕ) → kind ≤ 1 → note_fields (note_of kind op first second) ≡ note_bytes kind op first second
note_of-fields zero op first second h = refl
note_of-fields (suc zero) op first second h = refl
note_of-fields (suc (suc k)) op first second h = absurd (omega arith)

module _ (bytes : List ℕ) where
  pub record FormTaken (at : ℕ) (form : OpForm) (after : ℕ) : Type 0 where
    pub kind : ℕ
    pub flags : ℕ
    pub kind_fits : kind ≤ 2
    pub flags_fit : flags ≤ most_flags kind
    pub form_is : form_of kind flags ≡ form
    pub takes : Takes bytes at (kind ∷ flags ∷ []) after

  pub form_taken : (at : ℕ) (x : OpForm × ℕ) → form_at bytes at ≡ Ok x → FormTaken at x.0 x.1
  unfolding form_at
  form_taken at x e =
      let a = bind_ok (byte_up_to bytes 2 at) (λ kind. byte_up_to bytes (most_flags kind.0) kind.1 >>= λ flags. Ok (form_of kind.0 flags.0, flags.1)) x e in
      let b = bind_ok (byte_up_to bytes (most_flags a.0.0) a.0.1) (λ flags. Ok (form_of a.0.0 flags.0, flags.1)) x a.2 in
      let k = byte_up_to_ok bytes 2 at a.0 a.1 in
      let f = byte_up_to_ok bytes (most_flags a.0.0) a.0.1 b.0 b.1 in
      let is = ok_injective (form_of a.0.0 b.0.0, b.0.1) x b.2 in
      let both = Takes-then bytes at (a.0.0 ∷ []) a.0.1 (b.0.0 ∷ []) b.0.1 (byte_taken bytes at a.0 k.0) (byte_taken bytes a.0.1 b.0 f.0) in
      record {
        kind = a.0.0;
        flags = b.0.0;
        kind_fits = k.1;
        flags_fit = f.1;
        form_is = ap (λ (p : OpForm × ℕ). p.0) is;
        takes = subst (λ (p : ℕ). Takes bytes at (a.0.0 ∷ b.0.0 ∷ []) p) (ap (λ (p : OpForm × ℕ). p.1) is) both;
      }

  module _ (fits : IsBytes bytes) where
    -- a number of four bytes below a limit
    u32_below : (most at : ℕ) (x : ℕ × ℕ) → u32_up_to bytes most at ≡ Ok x → Takes bytes at (spelled_u32 x.0) x.1 × (x.0 ≤ most)
    u32_below most at x e = let t = u32_up_to_ok bytes most at x e in (u32_taken bytes fits at x t.0, t.1)

    pub fixed_dep_taken : (at : ℕ) (x : Dep × ℕ) → fixed_dep_at bytes at ≡ Ok x → Takes bytes at (fixed_dep x.0) x.1
    unfolding fixed_dep_at fixed_dep
    fixed_dep_taken at x e =
        let a = bind_ok (u32_at bytes at) _ x e in
        let b = bind_ok (u32_at bytes a.0.1) _ x a.2 in
        let c = bind_ok (u32_up_to bytes 1 b.0.1) _ x b.2 in
        let t = u32_below 1 b.0.1 c.0 c.1 in
        let when : Takes bytes b.0.1 (spelled_u32 (when_code (when_of c.0.0))) c.0.1 = rw (when_of-code c.0.0 t.1) t.0 in
        let all = Takes-then bytes at _ a.0.1 _ c.0.1 (u32_taken bytes fits at a.0 a.1) (Takes-then bytes a.0.1 _ b.0.1 _ c.0.1 (u32_taken bytes fits a.0.1 b.0 b.1) when) in
        let made : Dep × ℕ = (record { later = a.0.0; earlier = b.0.0; when = when_of c.0.0 }, c.0.1) in
        subst (λ (y : Dep × ℕ). Takes bytes at (fixed_dep y.0) y.1) {x = made} (ok_injective made x c.2) all

    pub fixed_note_taken : (at : ℕ) (x : Note × ℕ) → fixed_note_at bytes at ≡ Ok x → Takes bytes at (fixed_note x.0) x.1
    unfolding fixed_note_at fixed_note
    fixed_note_taken at x e =
        let a = bind_ok (u32_up_to bytes 1 at) _ x e in
        let b = bind_ok (u32_at bytes a.0.1) _ x a.2 in
        let c = bind_ok (u32_at bytes b.0.1) _ x b.2 in
        let d = bind_ok (u32_at bytes c.0.1) _ x c.2 in
        let k = u32_below 1 at a.0 a.1 in
        let all : Takes bytes at (note_bytes a.0.0 b.0.0 c.0.0 d.0.0) d.0.1 =
        Takes-then bytes at _ a.0.1 _ d.0.1 k.0 (Takes-then bytes a.0.1 _ b.0.1 _ d.0.1 (u32_taken bytes fits a.0.1 b.0 b.1)
        (Takes-then bytes b.0.1 _ c.0.1 _ d.0.1 (u32_taken bytes fits b.0.1 c.0 c.1) (u32_taken bytes fits c.0.1 d.0 d.1))) in
        let made : Note × ℕ = (note_of a.0.0 b.0.0 c.0.0 d.0.0, d.0.1) in
        subst (λ (y : Note × ℕ). Takes bytes at (fixed_note y.0) y.1) {x = made} (ok_injective made x d.2) (rw (note_of-fields a.0.0 b.0.0 c.0.0 d.0.0 k.1) all)

    -- the fields of an operation, one after another
    op_taken : (at cpu_at nic_at peer_at tag_at unused_at size_at after : ℕ) (kind flags cpu nic peer tag size : ℕ) → AreFields kind flags nic peer tag → Takes bytes at (kind ∷ flags ∷ []) cpu_at → Takes bytes cpu_at (cpu ∷ []) nic_at → Takes bytes nic_at (nic ∷ []) peer_at → Takes bytes peer_at (spelled_u32 peer) tag_at → Takes bytes tag_at (spelled_u32 tag) unused_at → Takes bytes unused_at (spelled_u32 0) size_at → Takes bytes size_at (spelled_u64 size) after → Takes bytes at (fixed_op (made_op kind flags cpu nic peer tag size)) after
    op_taken at cpu_at nic_at peer_at tag_at unused_at size_at after kind flags cpu nic peer tag size fields form its_cpu its_nic its_peer its_tag none its_size =
        let all : Takes bytes at (op_bytes kind flags cpu nic peer tag size) after =
        Takes-then bytes at (kind ∷ flags ∷ []) cpu_at _ after form
        (Takes-then bytes cpu_at (cpu ∷ []) nic_at _ after its_cpu
        (Takes-then bytes nic_at (nic ∷ []) peer_at _ after its_nic
        (Takes-then bytes peer_at (spelled_u32 peer) tag_at _ after its_peer
        (Takes-then bytes tag_at (spelled_u32 tag) unused_at _ after its_tag
        (Takes-then bytes unused_at (spelled_u32 0) size_at (spelled_u64 size) after none its_size))))) in
        subst (λ (text : List ℕ). Takes bytes at text after) (sym (made_op-spelled kind flags cpu nic peer tag size fields)) all

    -- a field that has to be 0
    none_taken : (at n after : ℕ) → Takes bytes at (spelled_u32 n) after × (n ≤ 0) → Takes bytes at (spelled_u32 0) after
    none_taken at n after t = subst (λ (m : ℕ). Takes bytes at (spelled_u32 m) after) (zero_from_le_zero n t.1) t.0

    -- an operation of that form, whose other fields are within its limits
    formed : (at cpu_at nic_at peer_at tag_at unused_at size_at after : ℕ) (form : OpForm) (cpu nic peer tag size : ℕ) → FormTaken at form cpu_at → nic ≤ most_nic form → peer ≤ most_peer form → tag ≤ most_tag form → Takes bytes cpu_at (cpu ∷ []) nic_at → Takes bytes nic_at (nic ∷ []) peer_at → Takes bytes peer_at (spelled_u32 peer) tag_at → Takes bytes tag_at (spelled_u32 tag) unused_at → Takes bytes unused_at (spelled_u32 0) size_at → Takes bytes size_at (spelled_u64 size) after → Takes bytes at (fixed_op (record { kind = kind_of form peer tag size; cpu = cpu; nic = nic })) after
    formed at cpu_at nic_at peer_at tag_at unused_at size_at after form cpu nic peer tag size taken nic_fits peer_fits tag_fits its_cpu its_nic its_peer its_tag none its_size =
        let fields : AreFields taken.kind taken.flags nic peer tag = record {
          kind_fits = taken.kind_fits;
          flags_fit = taken.flags_fit;
          nic_fits = subst (λ (f : OpForm). nic ≤ most_nic f) (sym taken.form_is) nic_fits;
          peer_fits = subst (λ (f : OpForm). peer ≤ most_peer f) (sym taken.form_is) peer_fits;
          tag_fits = subst (λ (f : OpForm). tag ≤ most_tag f) (sym taken.form_is) tag_fits;
        } in
        subst (λ (f : OpForm). Takes bytes at (fixed_op (record { kind = kind_of f peer tag size; cpu = cpu; nic = nic })) after) taken.form_is (op_taken at cpu_at nic_at peer_at tag_at unused_at size_at after taken.kind taken.flags cpu nic peer tag size fields taken.takes its_cpu its_nic its_peer its_tag none its_size)

    pub fixed_op_taken : (at : ℕ) (x : Op × ℕ) → fixed_op_at bytes at ≡ Ok x → Takes bytes at (fixed_op x.0) x.1
    unfolding fixed_op_at
    fixed_op_taken at x e =
        let a = bind_ok (form_at bytes at) _ x e in
        let b = bind_ok (byte_at bytes a.0.1) _ x a.2 in
        let c = bind_ok (byte_up_to bytes (most_nic a.0.0) b.0.1) _ x b.2 in
        let d = bind_ok (u32_up_to bytes (most_peer a.0.0) c.0.1) _ x c.2 in
        let g = bind_ok (u32_up_to bytes (most_tag a.0.0) d.0.1) _ x d.2 in
        let z = bind_ok (u32_up_to bytes 0 g.0.1) _ x g.2 in
        let s = bind_ok (u64_up_to bytes (most_size a.0.0) z.0.1) _ x z.2 in
        let nic = byte_up_to_ok bytes (most_nic a.0.0) b.0.1 c.0 c.1 in
        let peer = u32_below (most_peer a.0.0) c.0.1 d.0 d.1 in
        let tag = u32_below (most_tag a.0.0) d.0.1 g.0 g.1 in
        let none = none_taken g.0.1 z.0.0 z.0.1 (u32_below 0 g.0.1 z.0 z.1) in
        let size = u64_up_to_ok bytes (most_size a.0.0) z.0.1 s.0 s.1 in
        let spelled = formed at a.0.1 b.0.1 c.0.1 d.0.1 g.0.1 z.0.1 s.0.1 a.0.0 b.0.0 c.0.0 d.0.0 g.0.0 s.0.0 (form_taken at a.0 a.1) nic.1 peer.1 tag.1 (byte_taken bytes a.0.1 b.0 b.1) (byte_taken bytes b.0.1 c.0 nic.0) peer.0 tag.0 none (u64_taken bytes fits z.0.1 s.0 size.0) in
        let made : Op × ℕ = (record { kind = kind_of a.0.0 d.0.0 g.0.0 s.0.0; cpu = b.0.0; nic = c.0.0 }, s.0.1) in
        subst (λ (y : Op × ℕ). Takes bytes at (fixed_op y.0) y.1) {x = made} (ok_injective made x s.2) spelled
