-- An operation, a dependency or a note written in version 2 is read back.
use Rattle.std.proofs.Common.{Ok, ◌≡◌, ℕ, zero, suc, ◌+◌, ◌*◌, ◌/◌, ◌%◌, ◌^◌, ◌<◌, Bool, true, false, cond, ltb, leb, ◌||◌, List, [], ◌∷◌, ◌++◌, drop, Some, None, refl, sym, ap, subst, ◌∙◌, append_assoc, arith}
use Rattle.std.proofs.lemmas.Bool.{lt-ltb, ltb-false}
use Rattle.std.proofs.lemmas.Bool.Decides.{nat_tests}
use Rattle.goal_graph.specs.declared.plan.Op.{Op}
use Rattle.goal_graph.specs.declared.plan.Kind.{Kind}
use Rattle.goal_graph.specs.declared.plan.Kind.TheVariants.{Calc, Send, Recv}
use Rattle.goal_graph.specs.declared.plan.Dep.{Dep}
use Rattle.goal_graph.specs.declared.plan.Note.{Note}
use Rattle.goal_graph.specs.declared.plan.Note.TheVariants.{Moves, Adds}
use Rattle.goal_graph.specs.Widths.{IsNoteInWidth}
use Rattle.goal_binary.specs.declared.form.OpForm.{OpForm}
use Rattle.goal_binary.specs.declared.form.Head.{Head}
use Rattle.goal_binary.specs.Fitting.{OpFits, DepFits}
use Rattle.goal_binary.specs.File.{packed, kind_code, flags_of, peer_in, tag_in, size_of, peer_of, tag_of, when_code, byte_unless_zero, packed_if_some, head_code, packed_op, packed_dep, packed_note}
use Rattle.goal_binary.specs.Fields.{byte_up_to, packed_up_to, some_byte_at}
use Rattle.goal_binary.specs.Reading.{form_of, has_peer, has_tag, most_size, kind_of, when_of, note_of, head_of, head_byte_at, head_at, some_byte_if, packed_u32_at, packed_u32_if, packed_op_at, packed_dep_at, packed_note_at}
use Rattle.goal_binary.proofs.FieldsAgain.{IsReadAs, byte_again, byte_up_to_again}
use Rattle.goal_binary.proofs.NumbersAgain.{packed_up_to_again}
use Rattle.goal_binary.proofs.FixedAgain.{AreFitting, kind_from_own_fields, kind_fits, when_of-when_code, when_code-le}
use Rattle.goal_binary.proofs.PackedItems.{is_some, joined, IsHead, joined_head_has_parts, is_head_complete, packed_if, flag_unless_zero_by_test, byte_unless_zero_by_test}

-- the form of an operation, and the parts of its head
abbrev form_in : Kind → OpForm
form_in k = form_of (kind_code k) (flags_of k)

abbrev head_of_op : Op → Head
head_of_op o = record { form = form_in o.kind; has_cpu = is_some o.cpu; has_nic = is_some o.nic }

abbrev joined_in : Op → ℕ
joined_in o = joined (kind_code o.kind) (flags_of o.kind) (is_some o.cpu) (is_some o.nic)

head_code_is_joined : (o : Op) → head_code o ≡ joined_in o
head_code_is_joined o = rw (flag_unless_zero_by_test 16 o.cpu, flag_unless_zero_by_test 32 o.nic) refl

-- the peer and the tag, as written and as the form says
pub packed_peer_by_form : (k : Kind) → packed_if_some (peer_in k) ≡ packed_if (has_peer (form_in k)) (peer_of k)
packed_peer_by_form (Calc nanos) = refl
packed_peer_by_form (Send bytes to tag) = refl
packed_peer_by_form (Recv bytes None None) = refl
packed_peer_by_form (Recv bytes None (Some tag)) = refl
packed_peer_by_form (Recv bytes (Some from) None) = refl
packed_peer_by_form (Recv bytes (Some from) (Some tag)) = refl

pub packed_tag_by_form : (k : Kind) → packed_if_some (tag_in k) ≡ packed_if (has_tag (form_in k)) (tag_of k)
packed_tag_by_form (Calc nanos) = refl
packed_tag_by_form (Send bytes to tag) = refl
packed_tag_by_form (Recv bytes None None) = refl
packed_tag_by_form (Recv bytes None (Some tag)) = refl
packed_tag_by_form (Recv bytes (Some from) None) = refl
packed_tag_by_form (Recv bytes (Some from) (Some tag)) = refl

peer_is_zero_if_absent : (k : Kind) → has_peer (form_in k) ≡ false → peer_of k ≡ 0
peer_is_zero_if_absent (Calc nanos) e = refl
peer_is_zero_if_absent (Send bytes to tag) e = absurd cc
peer_is_zero_if_absent (Recv bytes None tag) e = refl
peer_is_zero_if_absent (Recv bytes (Some from) None) e = absurd cc
peer_is_zero_if_absent (Recv bytes (Some from) (Some tag)) e = absurd cc

tag_is_zero_if_absent : (k : Kind) → has_tag (form_in k) ≡ false → tag_of k ≡ 0
tag_is_zero_if_absent (Calc nanos) e = refl
tag_is_zero_if_absent (Send bytes to tag) e = absurd cc
tag_is_zero_if_absent (Recv bytes from None) e = refl
tag_is_zero_if_absent (Recv bytes None (Some tag)) e = absurd cc
tag_is_zero_if_absent (Recv bytes (Some from) (Some tag)) e = absurd cc

flags-lt : (k : Kind) → flags_of k < 4
flags-lt (Calc nanos) = omega arith
flags-lt (Send bytes to tag) = omega arith
flags-lt (Recv bytes None None) = omega arith
flags-lt (Recv bytes None (Some tag)) = omega arith
flags-lt (Recv bytes (Some from) None) = omega arith
flags-lt (Recv bytes (Some from) (Some tag)) = omega arith

-- the head of an operation that fits
head_passes_nic_test : (kind : ℕ) (nic : ℕ) → (kind ≡ 0 → nic ≡ 0) → (head : ℕ) → leb 32 head ≡ is_some nic → head % 4 ≡ kind → (ltb head 32 || ltb 0 (head % 4)) ≡ true
head_passes_nic_test zero nic none head is kind = go (none refl)
  where
    is_small : (m n : ℕ) → leb m n ≡ false → ltb n m ≡ true
    is_small m n h = grind (arith, nat_tests)

    go : nic ≡ 0 → (ltb head 32 || ltb 0 (head % 4)) ≡ true
    go same = let low : leb 32 head ≡ false = is ∙ ap is_some same in rw (is_small 32 head low) refl
head_passes_nic_test (suc k) nic none head is kind = go (ltb head 32)
  where
    go : (b : Bool) → (b || ltb 0 (head % 4)) ≡ true
    go true = refl
    go false = lt-ltb 0 (head % 4) (omega (arith, kind))

calc_nic_is_zero : (k : Kind) (nic peer tag size : ℕ) → AreFitting (kind_code k) (flags_of k) nic peer tag size → kind_code k ≡ 0 → nic ≡ 0
calc_nic_is_zero (Calc nanos) nic peer tag size fits e = omega (arith, fits.fields.nic_fits)
calc_nic_is_zero (Send bytes to tag) nic peer tag' size fits e = absurd (omega (arith, e))
calc_nic_is_zero (Recv bytes from tag) nic peer tag' size fits e = absurd (omega (arith, e))

pub append_of_six_regrouped : (a b c d e f rest : List ℕ) → (a ++ b ++ c ++ d ++ e ++ f) ++ rest ≡ a ++ (b ++ (c ++ (d ++ (e ++ (f ++ rest)))))
append_of_six_regrouped a b c d e f rest = simp append_assoc

append_of_four_regrouped : (a b c d rest : List ℕ) → (a ++ b ++ c ++ d) ++ rest ≡ a ++ (b ++ (c ++ (d ++ rest)))
append_of_four_regrouped a b c d rest = simp append_assoc

module _ (bytes : List ℕ) where
  some_byte_again : (at n : ℕ) (rest : List ℕ) → drop at bytes ≡ byte_unless_zero n ++ rest → IsReadAs bytes (some_byte_if bytes (is_some n) at) n rest
  unfolding some_byte_if some_byte_at
  some_byte_again at n rest h = go (is_some n) refl (h ∙ ap (λ (t : List ℕ). t ++ rest) (byte_unless_zero_by_test n))
    where
      go : (b : Bool) → is_some n ≡ b → drop at bytes ≡ cond b (n ∷ []) [] ++ rest → IsReadAs bytes (some_byte_if bytes b at) n rest
      go true is h =
          let r = byte_again bytes at n rest h in
          record { place = r.place; is = rw (r.is, is) refl; rest_is = r.rest_is }
      go false is h =
          let none : 0 ≡ n = omega (arith, ltb-false 0 n is) in
          record { place = at; is = ap (λ (k : ℕ). Ok (k, at)) none; rest_is = h }

  packed_u32_again : (at n : ℕ) (rest : List ℕ) → n < 2 ^ 32 → drop at bytes ≡ packed n ++ rest → IsReadAs bytes (packed_u32_at bytes at) n rest
  unfolding packed_u32_at
  packed_u32_again at n rest lt h = packed_up_to_again bytes 4294967295 at n rest (omega arith) (omega arith) h

  packed_u32_if_again : (there : Bool) (at n : ℕ) (rest : List ℕ) → n < 2 ^ 32 → (there ≡ false → n ≡ 0) → drop at bytes ≡ packed_if there n ++ rest → IsReadAs bytes (packed_u32_if bytes there at) n rest
  unfolding packed_u32_if
  packed_u32_if_again true at n rest lt none h = packed_u32_again at n rest lt h
  packed_u32_if_again false at n rest lt none h = record { place = at; is = ap (λ (k : ℕ). Ok (k, at)) (sym (none refl)); rest_is = h }

  head_again : (at head : ℕ) (rest : List ℕ) → IsHead head → drop at bytes ≡ head ∷ rest → IsReadAs bytes (head_at bytes at) (head_of head) rest
  unfolding head_at head_byte_at
  head_again at head rest good h =
      let b = byte_again bytes at head rest h in
      record { place = b.place; is = rw (b.is, is_head_complete head good) refl; rest_is = b.rest_is }

  packed_op_from_fields : (at : ℕ) (head : Head × ℕ) (cpu nic peer tag size : ℕ × ℕ) → head_at bytes at ≡ Ok head → some_byte_if bytes head.0.has_cpu head.1 ≡ Ok cpu → some_byte_if bytes head.0.has_nic cpu.1 ≡ Ok nic
      → packed_u32_if bytes (has_peer head.0.form) nic.1 ≡ Ok peer → packed_u32_if bytes (has_tag head.0.form) peer.1 ≡ Ok tag → packed_up_to bytes (most_size head.0.form) tag.1 ≡ Ok size
      → packed_op_at bytes at ≡ Ok (record { kind = kind_of head.0.form peer.0 tag.0 size.0; cpu = cpu.0; nic = nic.0 }, size.1)
  unfolding packed_op_at
  packed_op_from_fields at head cpu nic peer tag size a b c d e f = rw (a, b, c, d, e, f) refl

  -- the head and its parts
  head_of_op_read_back : (o : Op) (at : ℕ) (rest : List ℕ) → OpFits o → drop at bytes ≡ head_code o ∷ rest → IsReadAs bytes (head_at bytes at) (head_of_op o) rest
  head_of_op_read_back o at rest fits h =
      let k = o.kind in
      let all = kind_fits k o.nic fits.width.kind fits.width.nic fits.value in
      let few : kind_code k < 4 = omega (arith, all.fields.kind_fits) in
      let p = joined_head_has_parts (kind_code k) (flags_of k) (is_some o.cpu) (is_some o.nic) few (flags-lt k) in
      let good : IsHead (joined_in o) = record {
        small = p.small;
        kind_fits = rw p.kind_is all.fields.kind_fits;
        flags_fit = rw (p.kind_is, p.flags_are) all.fields.flags_fit;
        nic_fits = head_passes_nic_test (kind_code k) o.nic (calc_nic_is_zero k o.nic (peer_of k) (tag_of k) (size_of k) all) (joined_in o) p.nic_is p.kind_is;
      } in
      let same : head_of (joined_in o) ≡ head_of_op o = rw (p.kind_is, p.flags_are, p.cpu_is, p.nic_is) refl in
      subst (λ (t : Head). IsReadAs bytes (head_at bytes at) t rest) same (head_again at (joined_in o) rest good (h ∙ ap (λ (n : ℕ). n ∷ rest) (head_code_is_joined o)))

  pub packed_op_again : (o : Op) (at : ℕ) (rest : List ℕ) → OpFits o → drop at bytes ≡ packed_op o ++ rest → IsReadAs bytes (packed_op_at bytes at) o rest
  unfolding packed_op
  packed_op_again o at rest fits h =
      let k = o.kind in
      let f = form_in k in
      let all = kind_fits k o.nic fits.width.kind fits.width.nic fits.value in
      let cpu = byte_unless_zero o.cpu in
      let nic = byte_unless_zero o.nic in
      let peer = packed_if_some (peer_in k) in
      let tag = packed_if_some (tag_in k) in
      let size = packed (size_of k) in
      let a = head_of_op_read_back o at (cpu ++ (nic ++ (peer ++ (tag ++ (size ++ rest))))) fits (h ∙ append_of_six_regrouped (head_code o ∷ []) cpu nic peer tag size rest) in
      let b = some_byte_again a.place o.cpu (nic ++ (peer ++ (tag ++ (size ++ rest)))) a.rest_is in
      let c = some_byte_again b.place o.nic (peer ++ (tag ++ (size ++ rest))) b.rest_is in
      let d = packed_u32_if_again (has_peer f) c.place (peer_of k) (tag ++ (size ++ rest)) all.peer_width (peer_is_zero_if_absent k) (c.rest_is ∙ ap (λ (t : List ℕ). t ++ (tag ++ (size ++ rest))) (packed_peer_by_form k)) in
      let g = packed_u32_if_again (has_tag f) d.place (tag_of k) (size ++ rest) all.tag_width (tag_is_zero_if_absent k) (d.rest_is ∙ ap (λ (t : List ℕ). t ++ (size ++ rest)) (packed_tag_by_form k)) in
      let s = packed_up_to_again bytes (most_size f) g.place (size_of k) rest all.size_width all.size_fits g.rest_is in
      record {
        place = s.place;
        is = packed_op_from_fields at (head_of_op o, a.place) (o.cpu, b.place) (o.nic, c.place) (peer_of k, d.place) (tag_of k, g.place) (size_of k, s.place) a.is b.is c.is d.is g.is s.is
            ∙ ap (λ (kind : Kind). Ok (record { kind = kind; cpu = o.cpu; nic = o.nic }, s.place)) (kind_from_own_fields k);
        rest_is = s.rest_is;
      }

  packed_dep_from_fields : (at : ℕ) (later earlier : ℕ × ℕ) → packed_u32_at bytes at ≡ Ok later → packed_up_to bytes 8589934591 later.1 ≡ Ok earlier
      → packed_dep_at bytes at ≡ Ok (record { later = later.0; earlier = earlier.0 / 2; when = when_of (earlier.0 % 2) }, earlier.1)
  unfolding packed_dep_at
  packed_dep_from_fields at later earlier a b = rw (a, b) refl

  pub packed_dep_again : (d : Dep) (at : ℕ) (rest : List ℕ) → DepFits d → drop at bytes ≡ packed_dep d ++ rest → IsReadAs bytes (packed_dep_at bytes at) d rest
  unfolding packed_dep
  packed_dep_again d at rest fits h =
      let w = when_code-le d.when in
      let number = 2 * d.earlier + when_code d.when in
      let a = packed_u32_again at d.later (packed number ++ rest) fits.later (h ∙ append_assoc (packed d.later) (packed number) rest) in
      let b = packed_up_to_again bytes 8589934591 a.place number rest (omega (arith, w, fits.earlier)) (omega (arith, w, fits.earlier)) a.rest_is in
      let half : number / 2 ≡ d.earlier = omega (arith, w) in
      let odd : number % 2 ≡ when_code d.when = omega (arith, w) in
      let when : when_of (number % 2) ≡ d.when = ap when_of odd ∙ when_of-when_code d.when in
      record {
        place = b.place;
        is = packed_dep_from_fields at (d.later, a.place) (number, b.place) a.is b.is ∙ rw (half, when) refl;
        rest_is = b.rest_is;
      }

  packed_note_from_fields : (at : ℕ) (kind op first second : ℕ × ℕ) → byte_up_to bytes 1 at ≡ Ok kind → packed_u32_at bytes kind.1 ≡ Ok op → packed_u32_at bytes op.1 ≡ Ok first → packed_u32_at bytes first.1 ≡ Ok second
      → packed_note_at bytes at ≡ Ok (note_of kind.0 op.0 first.0 second.0, second.1)
  unfolding packed_note_at
  packed_note_from_fields at kind op first second a b c d = rw (a, b, c, d) refl

  pub packed_note_again : (n : Note) (at : ℕ) (rest : List ℕ) → IsNoteInWidth n → drop at bytes ≡ packed_note n ++ rest → IsReadAs bytes (packed_note_at bytes at) n rest
  unfolding packed_note
  packed_note_again (Moves op lo hi) at rest fits h =
      let k = byte_up_to_again bytes 1 at 0 (packed op ++ (packed lo ++ (packed hi ++ rest))) (omega arith) (h ∙ append_of_four_regrouped (0 ∷ []) (packed op) (packed lo) (packed hi) rest) in
      let a = packed_u32_again k.place op (packed lo ++ (packed hi ++ rest)) fits.0 k.rest_is in
      let b = packed_u32_again a.place lo (packed hi ++ rest) fits.1 a.rest_is in
      let c = packed_u32_again b.place hi rest fits.2 b.rest_is in
      record { place = c.place; is = packed_note_from_fields at (0, k.place) (op, a.place) (lo, b.place) (hi, c.place) k.is a.is b.is c.is; rest_is = c.rest_is }
  packed_note_again (Adds op from to) at rest fits h =
      let k = byte_up_to_again bytes 1 at 1 (packed op ++ (packed from ++ (packed to ++ rest))) (omega arith) (h ∙ append_of_four_regrouped (1 ∷ []) (packed op) (packed from) (packed to) rest) in
      let a = packed_u32_again k.place op (packed from ++ (packed to ++ rest)) fits.0 k.rest_is in
      let b = packed_u32_again a.place from (packed to ++ rest) fits.1 a.rest_is in
      let c = packed_u32_again b.place to rest fits.2 b.rest_is in
      record { place = c.place; is = packed_note_from_fields at (1, k.place) (op, a.place) (from, b.place) (to, c.place) k.is a.is b.is c.is; rest_is = c.rest_is }
