-- What is read of bytes has a file: its numbers fit, and its sizes and counts are within their limits.
use Rattle.std.proofs.Common.{◌≡◌, ◌⊎◌, ℕ, zero, suc, ◌/◌, ◌%◌, ◌^◌, ◌<◌, ◌≤◌, Bool, true, false, cond, eqb, ltb, ◌||◌, Some, None, List, [], ◌∷◌, ◌++◌, length, take, drop, Ok, All, refl, sym, ap, subst, ◌∙◌, arith, inl, inr}
use Rattle.std.specs.List.{AllByRecursion}
use Rattle.std.proofs.lemmas.Bool.{ltb-true, le-leb, lt-leb}
use Rattle.std.proofs.lemmas.Bool.Decides.{nat_tests}
use Rattle.std.proofs.lemmas.List.{length-take, length-drop}
use Rattle.std.proofs.lemmas.List.Elements.{All-from_recursion, All-append}
use Rattle.std.proofs.lemmas.Option.{same_Some}
use Rattle.goal_limits.specs.declared.limits.TheConstants.{MAX_OPS, MAX_DEPS, MAX_NOTES, MAX_BYTES, MAX_NANOS}
use Rattle.goal_graph.specs.Schedule.{Plan}
use Rattle.goal_graph.specs.Fault.{op_count, dep_count, note_count}
use Rattle.goal_graph.specs.Widths.{IsNoteInWidth}
use Rattle.goal_binary.specs.declared.form.OpForm.{OpForm}
use Rattle.goal_binary.specs.declared.form.OpForm.TheVariants as form
use Rattle.goal_binary.specs.declared.form.Head.{Head}
use Rattle.goal_binary.specs.declared.layout.Layout.{Layout}
use Rattle.goal_binary.specs.declared.layout.Layout.TheVariants.{Fixed, Packed}
use Rattle.goal_binary.specs.Fitting.{OpFits, DepFits, PlanFits}
use Rattle.goal_binary.specs.Fields.{Read, ◌>>=◌, allow, byte_at, u32_at, byte_up_to, u32_up_to, u64_up_to, packed_up_to, some_byte_at, count_at, rank_count_at}
use Rattle.goal_binary.specs.Reading.{form_of, most_nic, most_peer, most_tag, most_size, has_peer, has_tag, note_of, is_head, head_of, list_at, form_at, fixed_op_at, fixed_dep_at, fixed_note_at, head_byte_at, head_at, some_byte_if, packed_u32_at, packed_u32_if, packed_op_at, packed_dep_at, packed_note_at, op_at, dep_at, note_at, rank_at, ranks_at}
use Rattle.goal_binary.proofs.Steps.{IsBytes, bind_ok, ok_injective}
use Rattle.goal_binary.proofs.FieldsTaken.{IsBytes-drop, IsBytes-take, leb-le}
use Rattle.goal_binary.proofs.Readers.{Reader, then, give, field}
use Rattle.goal_binary.proofs.FieldsRead.{passes_from, first_of, value_32, value_64, passes_always, up_to, byte_at_is_field, tested_byte_is_field, u32_at_is_field, tested_u32_is_field, tested_u64_is_field}
use Rattle.goal_binary.proofs.NumbersTaken.{packed_up_to_ok}
use Rattle.goal_binary.proofs.Packed.{some_of}
use Rattle.goal_binary.proofs.PackedItems.{IsHead, is_head_sound}
use Rattle.goal_binary.proofs.ItemsRead.{made_op, made_dep, halved_dep}
use Rattle.goal_binary.proofs.RanksRead.{made_plan, list_of, body, records_are_count_then_ranks}

-- each value that the reader returns satisfies V
pub record Gives {A : Type 0} (V : A → Type 0) (P : Reader A) : Type 0 where
  pub valid : (bytes : List ℕ) → IsBytes bytes → (at : ℕ) (x : A) (after : ℕ) → P bytes at ≡ Ok (x, after) → V x

gives_any : {A : Type 0} (P : Reader A) → Gives (λ x. Unit {0}) P
gives_any P = record { valid = λ bytes fits at x after e. tt }

gives_then : {A B : Type 0} {V : A → Type 0} {W : B → Type 0} {P : Reader A} {Q : A → Reader B} → Gives V P → ((x : A) → V x → Gives W (Q x)) → Gives W (then P Q)
unfolding then
gives_then {P = P} {Q = Q} first second = record {
  valid = λ bytes fits at y end e.
      let a = bind_ok (P bytes at) (λ x. Q x.0 bytes x.1) (y, end) e in
      (second a.0.0 (first.valid bytes fits at a.0.0 a.0.1 a.1)).valid bytes fits a.0.1 y end a.2;
}

give_gives : {A : Type 0} {V : A → Type 0} (x : A) → V x → Gives V (give x)
unfolding give
give_gives {A = A} {V = V} x v = record { valid = λ bytes fits at y after e. subst V (ap (λ (p : A × ℕ). p.0) (ok_injective (x, at) (y, after) e)) v }

gives_as : {A : Type 0} {V : A → Type 0} (P R : Reader A) → ((bytes : List ℕ) (at : ℕ) → R bytes at ≡ P bytes at) → Gives V P → Gives V R
gives_as P R is gives = record { valid = λ bytes fits at x after e. gives.valid bytes fits at x after (sym (is bytes at) ∙ e) }

-- the value of a field
field_gives : {V : ℕ → Type 0} (width : ℕ) (value : List ℕ → ℕ) (test : ℕ → Bool) → 0 < width → ((text : List ℕ) → length text ≡ width → IsBytes text → test (value text) ≡ true → V (value text)) → Gives V (field width value test)
field_gives {V = V} width value test some valid = record {
  valid = λ bytes fits at x after e.
      let p = passes_from width value test some bytes at x after e in
      let len : length (take width (drop at bytes)) ≡ width = omega (arith, length-take width (drop at bytes), length-drop at bytes, p.room) in
      subst V p.value_is (valid (take width (drop at bytes)) len (IsBytes-take width (drop at bytes) (IsBytes-drop at bytes fits)) p.passed);
}

value_32-lt : (text : List ℕ) → IsBytes text → value_32 text < 2 ^ 32
value_32-lt text fits = omega (arith, fits 0, fits 1, fits 2, fits 3)

value_64-lt : (text : List ℕ) → IsBytes text → value_64 text < 2 ^ 64
value_64-lt text fits = omega (arith, fits 0, fits 1, fits 2, fits 3, fits 4, fits 5, fits 6, fits 7)

byte_gives : Gives (λ n. n < 2 ^ 8) byte_at
byte_gives = gives_as (field 1 first_of passes_always) byte_at byte_at_is_field (field_gives 1 first_of passes_always (omega arith) (λ text len fits passed. omega (arith, fits 0)))

u32_gives : Gives (λ n. n < 2 ^ 32) u32_at
u32_gives = gives_as (field 4 value_32 passes_always) u32_at u32_at_is_field (field_gives 4 value_32 passes_always (omega arith) (λ text len fits passed. value_32-lt text fits))

-- a number of this number of bits that is at most the limit
record IsUpTo (most bits n : ℕ) : Type 0 where
  below : n ≤ most
  width : n < 2 ^ bits

byte_up_to_gives : (most : ℕ) → Gives (IsUpTo most 8) (λ bytes at. byte_up_to bytes most at)
unfolding byte_up_to
byte_up_to_gives most =
    gives_as (field 1 first_of (up_to most)) (λ bytes at. byte_up_to bytes most at) (tested_byte_is_field (up_to most))
    (field_gives 1 first_of (up_to most) (omega arith) (λ text len fits passed. record { below = leb-le (first_of text) most passed; width = omega (arith, fits 0) }))

u32_up_to_gives : (most : ℕ) → Gives (IsUpTo most 32) (λ bytes at. u32_up_to bytes most at)
unfolding u32_up_to
u32_up_to_gives most =
    gives_as (field 4 value_32 (up_to most)) (λ bytes at. u32_up_to bytes most at) (tested_u32_is_field (up_to most))
    (field_gives 4 value_32 (up_to most) (omega arith) (λ text len fits passed. record { below = leb-le (value_32 text) most passed; width = value_32-lt text fits }))

u64_up_to_gives : (most : ℕ) → Gives (IsUpTo most 64) (λ bytes at. u64_up_to bytes most at)
unfolding u64_up_to
u64_up_to_gives most =
    gives_as (field 8 value_64 (up_to most)) (λ bytes at. u64_up_to bytes most at) (tested_u64_is_field (up_to most))
    (field_gives 8 value_64 (up_to most) (omega arith) (λ text len fits passed. record { below = leb-le (value_64 text) most passed; width = value_64-lt text fits }))

eqb-zero : (n : ℕ) → n ≤ 0 → eqb n 0 ≡ true
eqb-zero n h = grind (arith, nat_tests)

value_below_bound_unless_any : (any : Bool) (n bound v : ℕ) → n < bound → cond any None (some_of n) ≡ Some v → v < bound
value_below_bound_unless_any true n bound v lt e = absurd cc
value_below_bound_unless_any false n bound v lt e = omega (arith, lt, same_Some n v e)

-- numbers that an operation of this form may have
record AreNumbers (f : OpForm) (peer tag size cpu nic : ℕ) : Type 0 where
  nic_below : nic ≤ most_nic f
  nic_width : nic < 2 ^ 8
  cpu_width : cpu < 2 ^ 8
  peer_width : peer < 2 ^ 32
  tag_width : tag < 2 ^ 32
  size_below : size ≤ most_size f
  size_width : size < 2 ^ 64

op_fits : (f : OpForm) (peer tag size cpu nic : ℕ) → AreNumbers f peer tag size cpu nic → OpFits (made_op f peer tag size cpu nic)
unfolding made_op
op_fits form.Calc peer tag size cpu nic a = record {
  width = record { kind = a.size_width; cpu = a.cpu_width; nic = a.nic_width };
  value = rw (le-leb size MAX_NANOS a.size_below, eqb-zero nic a.nic_below) refl;
}
op_fits form.Send peer tag size cpu nic a = record {
  width = record { kind = (a.size_width, a.peer_width, a.tag_width); cpu = a.cpu_width; nic = a.nic_width };
  value = le-leb size MAX_BYTES a.size_below;
}
op_fits (form.Recv any_source any_tag) peer tag size cpu nic a = record {
  width = record { kind = (a.size_width, λ v e. value_below_bound_unless_any any_source peer (2 ^ 32) v a.peer_width e, λ v e. value_below_bound_unless_any any_tag tag (2 ^ 32) v a.tag_width e); cpu = a.cpu_width; nic = a.nic_width };
  value = le-leb size MAX_BYTES a.size_below;
}

fixed_op_gives : Gives OpFits fixed_op_at
unfolding fixed_op_at then give made_op
fixed_op_gives =
    gives_as _ fixed_op_at (λ bytes at. refl)
    (gives_then (gives_any form_at) (λ f _.
    gives_then byte_gives (λ cpu c.
    gives_then (byte_up_to_gives (most_nic f)) (λ nic n.
    gives_then (u32_up_to_gives (most_peer f)) (λ peer p.
    gives_then (u32_up_to_gives (most_tag f)) (λ tag t.
    gives_then (u32_up_to_gives 0) (λ unused u.
    gives_then (u64_up_to_gives (most_size f)) (λ size s.
    give_gives {V = OpFits} (made_op f peer tag size cpu nic) (op_fits f peer tag size cpu nic
    (record { nic_below = n.below; nic_width = n.width; cpu_width = c; peer_width = p.width; tag_width = t.width; size_below = s.below; size_width = s.width }))))))))))

fixed_dep_gives : Gives DepFits fixed_dep_at
unfolding fixed_dep_at then give
fixed_dep_gives =
    gives_as _ fixed_dep_at (λ bytes at. refl)
    (gives_then u32_gives (λ later l.
    gives_then u32_gives (λ earlier e.
    gives_then (u32_up_to_gives 1) (λ when w.
    give_gives {V = DepFits} (made_dep later earlier when) (record { later = l; earlier = e })))))

note_fits : (kind op first second : ℕ) → op < 2 ^ 32 → first < 2 ^ 32 → second < 2 ^ 32 → IsNoteInWidth (note_of kind op first second)
note_fits zero op first second a b c = (a, b, c)
note_fits (suc k) op first second a b c = (a, b, c)

fixed_note_gives : Gives IsNoteInWidth fixed_note_at
unfolding fixed_note_at then give
fixed_note_gives =
    gives_as _ fixed_note_at (λ bytes at. refl)
    (gives_then (u32_up_to_gives 1) (λ kind k.
    gives_then u32_gives (λ op a.
    gives_then u32_gives (λ first b.
    gives_then u32_gives (λ second c.
    give_gives {V = IsNoteInWidth} (note_of kind op first second) (note_fits kind op first second a b c))))))

-- a number that is 0 if it is missing
record IsThere (there : Bool) (bits n : ℕ) : Type 0 where
  width : n < 2 ^ bits
  none : there ≡ false → n ≡ 0

read_number_injective : (x y m n : ℕ) → ◌≡◌ {A = Read ℕ} (Ok (x, m)) (Ok (y, n)) → x ≡ y
read_number_injective x y m n e = ap (λ (p : ℕ × ℕ). p.0) (ok_injective (x, m) (y, n) e)

some_byte_gives : (there : Bool) → Gives (IsThere there 8) (λ bytes at. some_byte_if bytes there at)
unfolding some_byte_if some_byte_at
some_byte_gives true =
    gives_as (field 1 first_of (ltb 0)) (λ bytes at. some_byte_if bytes true at) (tested_byte_is_field (ltb 0))
    (field_gives 1 first_of (ltb 0) (omega arith) (λ text len fits passed. record { width = omega (arith, fits 0); none = λ e. absurd cc }))
some_byte_gives false = record {
  valid = λ bytes fits at x after e. let zero_is = read_number_injective 0 x at after e in record { width = omega (arith, zero_is); none = λ _. omega (arith, zero_is) };
}

packed_up_to_gives : (most : ℕ) → Gives (λ n. n ≤ most) (λ bytes at. packed_up_to bytes most at)
packed_up_to_gives most = record { valid = λ bytes fits at x after e. (packed_up_to_ok bytes most at (x, after) e).1 }

packed_u32_gives : Gives (λ n. n < 2 ^ 32) packed_u32_at
unfolding packed_u32_at
packed_u32_gives = record { valid = λ bytes fits at x after e. omega (arith, (packed_up_to_gives 4294967295).valid bytes fits at x after e) }

packed_u32_if_gives : (there : Bool) → Gives (λ n. n < 2 ^ 32) (λ bytes at. packed_u32_if bytes there at)
unfolding packed_u32_if
packed_u32_if_gives true = record { valid = λ bytes fits at x after e. packed_u32_gives.valid bytes fits at x after e }
packed_u32_if_gives false = record { valid = λ bytes fits at x after e. omega (arith, read_number_injective 0 x at after e) }

-- a head has a nic only if its operation may have one
abbrev HasRoom : Head → Type 0
HasRoom h = (h.has_nic ≡ false) ⊎ (most_nic h.form ≡ 255)

most_nic_of_message : (kind flags : ℕ) → 0 < kind → most_nic (form_of kind flags) ≡ 255
most_nic_of_message zero flags some = absurd (omega (arith, some))
most_nic_of_message (suc zero) flags some = refl
most_nic_of_message (suc (suc k)) flags some = refl

has_room : (head : ℕ) → IsHead head → HasRoom (head_of head)
has_room head good = go (ltb head 32) refl good.nic_fits
  where
    go : (b : Bool) → ltb head 32 ≡ b → (b || ltb 0 (head % 4)) ≡ true → HasRoom (head_of head)
    go true is e = inl (lt-leb 32 head (ltb-true head 32 is))
    go false is e = inr (most_nic_of_message (head % 4) (head / 4 % 4) (ltb-true 0 (head % 4) e))

head_gives : Gives HasRoom head_at
unfolding head_at head_byte_at then give
head_gives =
    gives_as _ head_at (λ bytes at. refl)
    (gives_then {V = λ head. is_head head ≡ true} {P = λ bytes at. byte_at bytes at >>= λ x. allow (is_head x.0) at x}
    (gives_as (field 1 first_of is_head) (λ bytes at. byte_at bytes at >>= λ x. allow (is_head x.0) at x) (tested_byte_is_field is_head) (field_gives 1 first_of is_head (omega arith) (λ text len fits passed. passed)))
    (λ head passed. give_gives {V = HasRoom} (head_of head) (has_room head (is_head_sound head passed))))

nic_within_form_of_head : (h : Head) (nic : ℕ) → HasRoom h → IsThere h.has_nic 8 nic → nic ≤ most_nic h.form
nic_within_form_of_head h nic (inl none) n = omega (arith, n.none none)
nic_within_form_of_head h nic (inr some) n = omega (arith, some, n.width)

size_of_form_below_2_64 : (f : OpForm) (size : ℕ) → size ≤ most_size f → size < 2 ^ 64
size_of_form_below_2_64 form.Calc size h = omega (arith, h)
size_of_form_below_2_64 form.Send size h = omega (arith, h)
size_of_form_below_2_64 (form.Recv any_source any_tag) size h = omega (arith, h)

packed_op_gives : Gives OpFits packed_op_at
unfolding packed_op_at then give made_op
packed_op_gives =
    gives_as _ packed_op_at (λ bytes at. refl)
    (gives_then head_gives (λ h room.
    gives_then (some_byte_gives h.has_cpu) (λ cpu c.
    gives_then (some_byte_gives h.has_nic) (λ nic n.
    gives_then (packed_u32_if_gives (has_peer h.form)) (λ peer p.
    gives_then (packed_u32_if_gives (has_tag h.form)) (λ tag t.
    gives_then (packed_up_to_gives (most_size h.form)) (λ size s.
    give_gives {V = OpFits} (made_op h.form peer tag size cpu nic) (op_fits h.form peer tag size cpu nic
    (record { nic_below = nic_within_form_of_head h nic room n; nic_width = n.width; cpu_width = c.width; peer_width = p; tag_width = t; size_below = s; size_width = size_of_form_below_2_64 h.form size s })))))))))

packed_dep_gives : Gives DepFits packed_dep_at
unfolding packed_dep_at then give
packed_dep_gives =
    gives_as _ packed_dep_at (λ bytes at. refl)
    (gives_then packed_u32_gives (λ later l.
    gives_then (packed_up_to_gives 8589934591) (λ number e.
    give_gives {V = DepFits} (halved_dep later number) (record { later = l; earlier = omega (arith, e) }))))

packed_note_gives : Gives IsNoteInWidth packed_note_at
unfolding packed_note_at then give
packed_note_gives =
    gives_as _ packed_note_at (λ bytes at. refl)
    (gives_then (byte_up_to_gives 1) (λ kind k.
    gives_then packed_u32_gives (λ op a.
    gives_then packed_u32_gives (λ first b.
    gives_then packed_u32_gives (λ second c.
    give_gives {V = IsNoteInWidth} (note_of kind op first second) (note_fits kind op first second a b c))))))

-- in each layout
op_gives : (l : Layout) → Gives OpFits (λ bytes at. op_at bytes l at)
unfolding op_at
op_gives Fixed = gives_as fixed_op_at (λ bytes at. op_at bytes Fixed at) (λ bytes at. refl) fixed_op_gives
op_gives Packed = gives_as packed_op_at (λ bytes at. op_at bytes Packed at) (λ bytes at. refl) packed_op_gives

dep_gives : (l : Layout) → Gives DepFits (λ bytes at. dep_at bytes l at)
unfolding dep_at
dep_gives Fixed = gives_as fixed_dep_at (λ bytes at. dep_at bytes Fixed at) (λ bytes at. refl) fixed_dep_gives
dep_gives Packed = gives_as packed_dep_at (λ bytes at. dep_at bytes Packed at) (λ bytes at. refl) packed_dep_gives

note_gives : (l : Layout) → Gives IsNoteInWidth (λ bytes at. note_at bytes l at)
unfolding note_at
note_gives Fixed = gives_as fixed_note_at (λ bytes at. note_at bytes Fixed at) (λ bytes at. refl) fixed_note_gives
note_gives Packed = gives_as packed_note_at (λ bytes at. note_at bytes Packed at) (λ bytes at. refl) packed_note_gives

list_gives : {A : Type 0} (V : A → Type 0) (item : Reader A) → Gives V item → (n : ℕ) → Gives (AllByRecursion V) (list_of item n)
unfolding list_at then give
list_gives {A = A} V item gives zero = gives_as _ (list_of item zero) (λ bytes at. refl) (give_gives {V = AllByRecursion V} [] tt)
list_gives {A = A} V item gives (suc n) =
    gives_as _ (list_of item (suc n)) (λ bytes at. refl)
    (gives_then gives (λ x v.
    gives_then (list_gives V item gives n) (λ xs vs.
    give_gives {V = AllByRecursion V} (x ∷ xs) (v, vs))))

rank_gives : (l : Layout) (ops deps notes : ℕ) → Gives PlanFits (λ bytes at. rank_at bytes l ops deps notes at)
unfolding rank_at then give
rank_gives l ops deps notes =
    gives_as _ (λ bytes at. rank_at bytes l ops deps notes at) (λ bytes at. refl)
    (gives_then (gives_any (λ bytes at. count_at bytes l MAX_OPS ops at)) (λ op_number _.
    gives_then (gives_any (λ bytes at. count_at bytes l MAX_DEPS deps at)) (λ dep_number _.
    gives_then (gives_any (λ bytes at. count_at bytes l MAX_NOTES notes at)) (λ note_number _.
    gives_then (list_gives OpFits (λ bytes at. op_at bytes l at) (op_gives l) op_number) (λ op_list os.
    gives_then (list_gives DepFits (λ bytes at. dep_at bytes l at) (dep_gives l) dep_number) (λ dep_list ds.
    gives_then (list_gives IsNoteInWidth (λ bytes at. note_at bytes l at) (note_gives l) note_number) (λ note_list ns.
    give_gives {V = PlanFits} (made_plan op_list dep_list note_list) (record {
      ops = All-from_recursion OpFits op_list os;
      deps = All-from_recursion DepFits dep_list ds;
      notes = All-from_recursion IsNoteInWidth note_list ns;
    }))))))))

all_plans_push : (before : List Plan) (p : Plan) → All PlanFits before → PlanFits p → All PlanFits (before ++ p ∷ [])
all_plans_push before p all fits = All-append PlanFits before (p ∷ []) all (All-from_recursion PlanFits (p ∷ []) (fits, tt))

ranks_give : (l : Layout) (n : ℕ) (before : List Plan) → All PlanFits before → Gives (All PlanFits) (λ bytes at. ranks_at bytes l n before at)
unfolding ranks_at then give
ranks_give l zero before all = gives_as _ (λ bytes at. ranks_at bytes l zero before at) (λ bytes at. refl) (give_gives {V = All PlanFits} before all)
ranks_give l (suc n) before all =
    gives_as _ (λ bytes at. ranks_at bytes l (suc n) before at) (λ bytes at. refl)
    (gives_then (rank_gives l (op_count before) (dep_count before) (note_count before)) (λ p fits. ranks_give l n (before ++ p ∷ []) (all_plans_push before p all fits)))

pub body_gives : (l : Layout) → Gives (All PlanFits) (body l)
body_gives l =
    gives_as (then (λ bytes at. rank_count_at bytes l at) (λ n bytes at. ranks_at bytes l n [] at)) (body l) (records_are_count_then_ranks l)
    (gives_then (gives_any (λ bytes at. rank_count_at bytes l at)) (λ n _. ranks_give l n [] (All-from_recursion PlanFits [] tt)))
