-- An operation, a dependency or a note written in version 1 is read back.
use Rattle.std.proofs.Common.{Ok, ◌≡◌, ℕ, ◌^◌, ◌<◌, ◌≤◌, leb, eqb, true, List, ◌∷◌, ◌++◌, drop, Some, None, refl, ap, subst, ◌∙◌, arith}
use Rattle.std.proofs.lemmas.Bool.Decides.{nat_tests}
use Rattle.goal_limits.specs.declared.limits.TheConstants.{MAX_BYTES, MAX_NANOS}
use Rattle.goal_graph.specs.declared.plan.Op.{Op}
use Rattle.goal_graph.specs.declared.plan.Kind.{Kind}
use Rattle.goal_graph.specs.declared.plan.Kind.TheVariants.{Calc, Send, Recv}
use Rattle.goal_graph.specs.declared.plan.Dep.{Dep}
use Rattle.goal_graph.specs.declared.plan.When.{When}
use Rattle.goal_graph.specs.declared.plan.When.TheVariants.{AfterEnd, AfterStart}
use Rattle.goal_graph.specs.declared.plan.Note.{Note}
use Rattle.goal_graph.specs.declared.plan.Note.TheVariants.{Moves, Adds}
use Rattle.goal_graph.specs.Fault.{value_fits}
use Rattle.goal_graph.specs.Widths.{IsKindInWidth, IsNoteInWidth}
use Rattle.goal_graph.proofs.ForCallers.{and_left, and_right}
use Rattle.goal_binary.specs.declared.form.OpForm.{OpForm}
use Rattle.goal_binary.specs.Fitting.{OpFits, DepFits}
use Rattle.goal_binary.specs.File.{spelled_u32, spelled_u64, kind_code, flags_of, peer_of, tag_of, size_of, op_bytes, fixed_op, fixed_dep, fixed_note, when_code}
use Rattle.goal_binary.specs.Fields.{byte_at, u32_at, byte_up_to, u32_up_to, u64_up_to}
use Rattle.goal_binary.specs.Reading.{most_flags, form_of, most_nic, most_peer, most_tag, most_size, kind_of, when_of, note_of, form_at, fixed_op_at, fixed_dep_at, fixed_note_at}
use Rattle.goal_binary.proofs.FieldsTaken.{leb-le}
use Rattle.goal_binary.proofs.FixedTaken.{AreFields, made_op}
use Rattle.goal_binary.proofs.FieldsAgain.{IsReadAs, byte_again, u32_again, byte_up_to_again, u32_up_to_again, u64_up_to_again}

-- the fields of an operation make it again
pub kind_from_own_fields : (k : Kind) → kind_of (form_of (kind_code k) (flags_of k)) (peer_of k) (tag_of k) (size_of k) ≡ k
kind_from_own_fields (Calc nanos) = refl
kind_from_own_fields (Send bytes to tag) = refl
kind_from_own_fields (Recv bytes None None) = refl
kind_from_own_fields (Recv bytes None (Some tag)) = refl
kind_from_own_fields (Recv bytes (Some from) None) = refl
kind_from_own_fields (Recv bytes (Some from) (Some tag)) = refl

pub made_op-own_fields : (o : Op) → made_op (kind_code o.kind) (flags_of o.kind) o.cpu o.nic (peer_of o.kind) (tag_of o.kind) (size_of o.kind) ≡ o
made_op-own_fields o = ap (λ (k : Kind). record { kind = k; cpu = o.cpu; nic = o.nic }) (kind_from_own_fields o.kind)

-- a file can have the fields of an operation
pub record AreFitting (kind flags nic peer tag size : ℕ) : Type 0 where
  pub fields : AreFields kind flags nic peer tag
  pub size_fits : size ≤ most_size (form_of kind flags)
  pub peer_width : peer < 2 ^ 32
  pub tag_width : tag < 2 ^ 32
  pub size_width : size < 2 ^ 64

le_zero_from_eqb : (n : ℕ) → eqb n 0 ≡ true → n ≤ 0
le_zero_from_eqb n h = grind (arith, nat_tests)

pub kind_fits : (k : Kind) (nic : ℕ) → IsKindInWidth k → nic < 2 ^ 8 → value_fits k nic ≡ true → AreFitting (kind_code k) (flags_of k) nic (peer_of k) (tag_of k) (size_of k)
kind_fits (Calc nanos) nic width nic_width value =
    let nanos_fit = leb-le nanos MAX_NANOS (and_left (leb nanos MAX_NANOS) (eqb nic 0) value) in
    let none = le_zero_from_eqb nic (and_right (leb nanos MAX_NANOS) (eqb nic 0) value) in
    record {
      fields = record { kind_fits = omega arith; flags_fit = omega arith; nic_fits = none; peer_fits = omega arith; tag_fits = omega arith };
      size_fits = nanos_fit;
      peer_width = omega arith;
      tag_width = omega arith;
      size_width = width;
    }
kind_fits (Send bytes to tag) nic width nic_width value =
    record {
      fields = record { kind_fits = omega arith; flags_fit = omega arith; nic_fits = omega arith; peer_fits = omega (arith, width.1); tag_fits = omega (arith, width.2) };
      size_fits = leb-le bytes MAX_BYTES value;
      peer_width = width.1;
      tag_width = width.2;
      size_width = width.0;
    }
kind_fits (Recv bytes None None) nic width nic_width value =
    record {
      fields = record { kind_fits = omega arith; flags_fit = omega arith; nic_fits = omega arith; peer_fits = omega arith; tag_fits = omega arith };
      size_fits = leb-le bytes MAX_BYTES value;
      peer_width = omega arith;
      tag_width = omega arith;
      size_width = width.0;
    }
kind_fits (Recv bytes None (Some tag)) nic width nic_width value =
    let tag_width : tag < 2 ^ 32 = width.2 tag refl in
    record {
      fields = record { kind_fits = omega arith; flags_fit = omega arith; nic_fits = omega arith; peer_fits = omega arith; tag_fits = omega arith };
      size_fits = leb-le bytes MAX_BYTES value;
      peer_width = omega arith;
      tag_width = tag_width;
      size_width = width.0;
    }
kind_fits (Recv bytes (Some from) None) nic width nic_width value =
    let peer_width : from < 2 ^ 32 = width.1 from refl in
    record {
      fields = record { kind_fits = omega arith; flags_fit = omega arith; nic_fits = omega arith; peer_fits = omega arith; tag_fits = omega arith };
      size_fits = leb-le bytes MAX_BYTES value;
      peer_width = peer_width;
      tag_width = omega arith;
      size_width = width.0;
    }
kind_fits (Recv bytes (Some from) (Some tag)) nic width nic_width value =
    let peer_width : from < 2 ^ 32 = width.1 from refl in
    let tag_width : tag < 2 ^ 32 = width.2 tag refl in
    record {
      fields = record { kind_fits = omega arith; flags_fit = omega arith; nic_fits = omega arith; peer_fits = omega arith; tag_fits = omega arith };
      size_fits = leb-le bytes MAX_BYTES value;
      peer_width = peer_width;
      tag_width = tag_width;
      size_width = width.0;
    }

pub when_of-when_code : (w : When) → when_of (when_code w) ≡ w
when_of-when_code AfterEnd = refl
when_of-when_code AfterStart = refl

pub when_code-le : (w : When) → when_code w ≤ 1
when_code-le AfterEnd = omega arith
when_code-le AfterStart = omega arith

module _ (bytes : List ℕ) where
  form_again : (at kind flags : ℕ) (rest : List ℕ) → kind ≤ 2 → flags ≤ most_flags kind → drop at bytes ≡ kind ∷ flags ∷ rest → IsReadAs bytes (form_at bytes at) (form_of kind flags) rest
  unfolding form_at
  form_again at kind flags rest kind_fits flags_fit h =
      let k = byte_up_to_again bytes 2 at kind (flags ∷ rest) kind_fits h in
      let f = byte_up_to_again bytes (most_flags kind) k.place flags rest flags_fit k.rest_is in
      record { place = f.place; is = rw (k.is, f.is) refl; rest_is = f.rest_is }

  fixed_op_from_fields : (at : ℕ) (form : OpForm × ℕ) (cpu nic peer tag unused size : ℕ × ℕ) → form_at bytes at ≡ Ok form → byte_at bytes form.1 ≡ Ok cpu → byte_up_to bytes (most_nic form.0) cpu.1 ≡ Ok nic
      → u32_up_to bytes (most_peer form.0) nic.1 ≡ Ok peer → u32_up_to bytes (most_tag form.0) peer.1 ≡ Ok tag → u32_up_to bytes 0 tag.1 ≡ Ok unused → u64_up_to bytes (most_size form.0) unused.1 ≡ Ok size
      → fixed_op_at bytes at ≡ Ok (record { kind = kind_of form.0 peer.0 tag.0 size.0; cpu = cpu.0; nic = nic.0 }, size.1)
  unfolding fixed_op_at
  fixed_op_from_fields at form cpu nic peer tag unused size a b c d e f g = rw (a, b, c, d, e, f, g) refl

  op_bytes_read_back : (at kind flags cpu nic peer tag size : ℕ) (rest : List ℕ) → AreFitting kind flags nic peer tag size → drop at bytes ≡ op_bytes kind flags cpu nic peer tag size ++ rest
      → IsReadAs bytes (fixed_op_at bytes at) (made_op kind flags cpu nic peer tag size) rest
  op_bytes_read_back at kind flags cpu nic peer tag size rest fits h =
      let form = form_of kind flags in
      let a = form_again at kind flags (cpu ∷ nic ∷ (spelled_u32 peer ++ (spelled_u32 tag ++ (spelled_u32 0 ++ (spelled_u64 size ++ rest))))) fits.fields.kind_fits fits.fields.flags_fit h in
      let b = byte_again bytes a.place cpu (nic ∷ (spelled_u32 peer ++ (spelled_u32 tag ++ (spelled_u32 0 ++ (spelled_u64 size ++ rest))))) a.rest_is in
      let c = byte_up_to_again bytes (most_nic form) b.place nic (spelled_u32 peer ++ (spelled_u32 tag ++ (spelled_u32 0 ++ (spelled_u64 size ++ rest)))) fits.fields.nic_fits b.rest_is in
      let d = u32_up_to_again bytes (most_peer form) c.place peer (spelled_u32 tag ++ (spelled_u32 0 ++ (spelled_u64 size ++ rest))) fits.peer_width fits.fields.peer_fits c.rest_is in
      let g = u32_up_to_again bytes (most_tag form) d.place tag (spelled_u32 0 ++ (spelled_u64 size ++ rest)) fits.tag_width fits.fields.tag_fits d.rest_is in
      let z = u32_up_to_again bytes 0 g.place 0 (spelled_u64 size ++ rest) (omega arith) (omega arith) g.rest_is in
      let s = u64_up_to_again bytes (most_size form) z.place size rest fits.size_width fits.size_fits z.rest_is in
      record {
        place = s.place;
        is = fixed_op_from_fields at (form, a.place) (cpu, b.place) (nic, c.place) (peer, d.place) (tag, g.place) (0, z.place) (size, s.place) a.is b.is c.is d.is g.is z.is s.is;
        rest_is = s.rest_is;
      }

  pub fixed_op_again : (o : Op) (at : ℕ) (rest : List ℕ) → OpFits o → drop at bytes ≡ fixed_op o ++ rest → IsReadAs bytes (fixed_op_at bytes at) o rest
  unfolding fixed_op
  fixed_op_again o at rest fits h =
      subst (λ (x : Op). IsReadAs bytes (fixed_op_at bytes at) x rest) (made_op-own_fields o)
      (op_bytes_read_back at (kind_code o.kind) (flags_of o.kind) o.cpu o.nic (peer_of o.kind) (tag_of o.kind) (size_of o.kind) rest (kind_fits o.kind o.nic fits.width.kind fits.width.nic fits.value) h)

  fixed_dep_from_fields : (at : ℕ) (later earlier when : ℕ × ℕ) → u32_at bytes at ≡ Ok later → u32_at bytes later.1 ≡ Ok earlier → u32_up_to bytes 1 earlier.1 ≡ Ok when
      → fixed_dep_at bytes at ≡ Ok (record { later = later.0; earlier = earlier.0; when = when_of when.0 }, when.1)
  unfolding fixed_dep_at
  fixed_dep_from_fields at later earlier when a b c = rw (a, b, c) refl

  pub fixed_dep_again : (d : Dep) (at : ℕ) (rest : List ℕ) → DepFits d → drop at bytes ≡ fixed_dep d ++ rest → IsReadAs bytes (fixed_dep_at bytes at) d rest
  unfolding fixed_dep
  fixed_dep_again d at rest fits h =
      let a = u32_again bytes at d.later (spelled_u32 d.earlier ++ (spelled_u32 (when_code d.when) ++ rest)) fits.later h in
      let b = u32_again bytes a.place d.earlier (spelled_u32 (when_code d.when) ++ rest) fits.earlier a.rest_is in
      let w = when_code-le d.when in
      let c = u32_up_to_again bytes 1 b.place (when_code d.when) rest (omega (arith, w)) w b.rest_is in
      record {
        place = c.place;
        is = fixed_dep_from_fields at (d.later, a.place) (d.earlier, b.place) (when_code d.when, c.place) a.is b.is c.is ∙ ap (λ (w : When). Ok (record { later = d.later; earlier = d.earlier; when = w }, c.place)) (when_of-when_code d.when);
        rest_is = c.rest_is;
      }

  fixed_note_from_fields : (at : ℕ) (kind op first second : ℕ × ℕ) → u32_up_to bytes 1 at ≡ Ok kind → u32_at bytes kind.1 ≡ Ok op → u32_at bytes op.1 ≡ Ok first → u32_at bytes first.1 ≡ Ok second
      → fixed_note_at bytes at ≡ Ok (note_of kind.0 op.0 first.0 second.0, second.1)
  unfolding fixed_note_at
  fixed_note_from_fields at kind op first second a b c d = rw (a, b, c, d) refl

  pub fixed_note_again : (n : Note) (at : ℕ) (rest : List ℕ) → IsNoteInWidth n → drop at bytes ≡ fixed_note n ++ rest → IsReadAs bytes (fixed_note_at bytes at) n rest
  unfolding fixed_note
  fixed_note_again (Moves op lo hi) at rest fits h =
      let k = u32_up_to_again bytes 1 at 0 (spelled_u32 op ++ (spelled_u32 lo ++ (spelled_u32 hi ++ rest))) (omega arith) (omega arith) h in
      let a = u32_again bytes k.place op (spelled_u32 lo ++ (spelled_u32 hi ++ rest)) fits.0 k.rest_is in
      let b = u32_again bytes a.place lo (spelled_u32 hi ++ rest) fits.1 a.rest_is in
      let c = u32_again bytes b.place hi rest fits.2 b.rest_is in
      record { place = c.place; is = fixed_note_from_fields at (0, k.place) (op, a.place) (lo, b.place) (hi, c.place) k.is a.is b.is c.is; rest_is = c.rest_is }
  fixed_note_again (Adds op from to) at rest fits h =
      let k = u32_up_to_again bytes 1 at 1 (spelled_u32 op ++ (spelled_u32 from ++ (spelled_u32 to ++ rest))) (omega arith) (omega arith) h in
      let a = u32_again bytes k.place op (spelled_u32 from ++ (spelled_u32 to ++ rest)) fits.0 k.rest_is in
      let b = u32_again bytes a.place from (spelled_u32 to ++ rest) fits.1 a.rest_is in
      let c = u32_again bytes b.place to rest fits.2 b.rest_is in
      record { place = c.place; is = fixed_note_from_fields at (1, k.place) (op, a.place) (from, b.place) (to, c.place) k.is a.is b.is c.is; rest_is = c.rest_is }
