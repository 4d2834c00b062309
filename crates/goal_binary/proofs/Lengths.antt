-- The lengths of the files.
use Rattle.std.proofs.Common.{◌≡◌, ℕ, ◌+◌, ◌*◌, ◌^◌, ◌<◌, ◌≤◌, Bool, true, false, cond, List, [], ◌∷◌, ◌++◌, length, refl, ap, arith}
use Rattle.std.specs.List.{flat_map, AllByRecursion}
use Rattle.std.proofs.lemmas.List.{length-append}
use Rattle.std.proofs.lemmas.List.Concat.{flat_map-cons}
use Rattle.std.proofs.lemmas.List.Elements.{recursion_from_All}
use Rattle.std.proofs.lemmas.List.Sums.{sum_by-cons}
use Rattle.goal_limits.specs.declared.limits.TheConstants.{MAX_INPUT, MAX_OPS, MAX_DEPS, MAX_NOTES}
use Rattle.goal_graph.specs.declared.plan.Op.{Op}
use Rattle.goal_graph.specs.declared.plan.Dep.{Dep}
use Rattle.goal_graph.specs.declared.plan.Note.{Note}
use Rattle.goal_graph.specs.declared.plan.Note.TheVariants.{Moves, Adds}
use Rattle.goal_graph.specs.Schedule.{Plan}
use Rattle.goal_graph.specs.Fault.{op_count, dep_count, note_count}
use Rattle.goal_graph.specs.Limits.{AreCountsWithin}
use Rattle.goal_graph.specs.Widths.{IsNoteInWidth}
use Rattle.goal_binary.specs.declared.layout.TheConstants.{MAGIC}
use Rattle.goal_binary.specs.declared.layout.Layout.TheVariants.{Fixed, Packed}
use Rattle.goal_binary.specs.Layouts.{version_of}
use Rattle.goal_binary.specs.Fitting.{OpFits, DepFits, PlanFits, HaveFile}
use Rattle.goal_binary.specs.File.{spelled_u32, packed, peer_in, tag_in, size_of, peer_of, tag_of, when_code, byte_unless_zero, packed_if_some, head_code, fixed_op, fixed_dep, fixed_note, packed_op, packed_dep, packed_note, spelled_count, spelled_op, spelled_dep, spelled_note, spelled_counts, spelled_rank, header, written, file, old}
use Rattle.goal_binary.specs.Laws.{old_length}
use Rattle.goal_binary.proofs.Groups.{fits_3, fits_4, fits_5, fits_10, length-groups}
use Rattle.goal_binary.proofs.FixedAgain.{kind_fits, when_code-le}
use Rattle.goal_binary.proofs.PackedItems.{is_some, packed_if, byte_unless_zero_by_test}
use Rattle.goal_binary.proofs.PackedAgain.{packed_peer_by_form, packed_tag_by_form}

-- items that each have this number of bytes
length-items : {A : Type 0} (spelled : A → List ℕ) (size : ℕ) → ((x : A) → length (spelled x) ≡ size) → (xs : List A) → length (flat_map spelled xs) ≡ size * length xs
length-items spelled size each [] = omega arith
length-items spelled size each (x ∷ xs) = rw (flat_map-cons spelled x xs, length-append (spelled x) (flat_map spelled xs), each x, length-items spelled size each xs) (omega arith)

length-op : (o : Op) → length (spelled_op Fixed o) ≡ 24
unfolding spelled_op fixed_op
length-op o = refl

length-dep : (d : Dep) → length (spelled_dep Fixed d) ≡ 12
unfolding spelled_dep fixed_dep
length-dep d = refl

length-note : (n : Note) → length (spelled_note Fixed n) ≡ 16
unfolding spelled_note fixed_note
length-note (Moves op lo hi) = refl
length-note (Adds op from to) = refl

length-counts : (p : Plan) → length (spelled_counts Fixed p) ≡ 12
unfolding spelled_counts spelled_count
length-counts p = refl

length-rank : (p : Plan) → length (spelled_rank Fixed p) ≡ 12 + 24 * length p.ops + 12 * length p.deps + 16 * length p.notes
unfolding spelled_rank
length-rank p =
    let os = flat_map (spelled_op Fixed) p.ops in
    let ds = flat_map (spelled_dep Fixed) p.deps in
    let ns = flat_map (spelled_note Fixed) p.notes in
    omega (
      arith,
      length-append (spelled_counts Fixed p ++ os ++ ds) ns,
      length-append (spelled_counts Fixed p ++ os) ds,
      length-append (spelled_counts Fixed p) os,
      length-counts p,
      length-items (spelled_op Fixed) 24 length-op p.ops,
      length-items (spelled_dep Fixed) 12 length-dep p.deps,
      length-items (spelled_note Fixed) 16 length-note p.notes,
    )

length-ranks : (plans : List Plan) → length (flat_map (spelled_rank Fixed) plans) ≡ 12 * length plans + 24 * op_count plans + 12 * dep_count plans + 16 * note_count plans
unfolding op_count dep_count note_count
length-ranks [] = omega arith
length-ranks (p ∷ ps) =
    omega (
      arith,
      ap length (flat_map-cons (spelled_rank Fixed) p ps),
      length-append (spelled_rank Fixed p) (flat_map (spelled_rank Fixed) ps),
      length-rank p,
      length-ranks ps,
      sum_by-cons (λ (p : Plan). length p.ops) p ps,
      sum_by-cons (λ (p : Plan). length p.deps) p ps,
      sum_by-cons (λ (p : Plan). length p.notes) p ps,
    )

length-header : (plans : List Plan) → length (header Fixed plans) ≡ 16
unfolding header spelled_count
length-header plans = refl

pub length-old : (plans : List Plan) → length (old plans) ≡ old_length plans
unfolding written
length-old plans = omega (arith, length-append (header Fixed plans) (flat_map (spelled_rank Fixed) plans), length-header plans, length-ranks plans)

pub old-within : (plans : List Plan) → AreCountsWithin plans → (length (old plans) ≤ 93061136) × (length (old plans) ≤ MAX_INPUT)
old-within plans counts =
    let within : length (old plans) ≤ 93061136 = omega (arith, length-old plans, counts.ranks, counts.ops, counts.deps, counts.notes) in
    (within, omega (arith, within))

-- items that each have at most this number of bytes
length-items-le : {A : Type 0} (spelled : A → List ℕ) (size : ℕ) (P : A → Type 0) → ((x : A) → P x → length (spelled x) ≤ size) → (xs : List A) → AllByRecursion P xs → length (flat_map spelled xs) ≤ size * length xs
length-items-le spelled size P each [] all = omega arith
length-items-le spelled size P each (x ∷ xs) all =
    let first = each x all.0 in
    let others = length-items-le spelled size P each xs all.1 in
    rw (flat_map-cons spelled x xs, length-append (spelled x) (flat_map spelled xs)) (omega (arith, first, others))

length-byte_unless_zero : (n : ℕ) → length (byte_unless_zero n) ≤ 1
length-byte_unless_zero n = rw (byte_unless_zero_by_test n) (go (is_some n))
  where
    go : (b : Bool) → length (cond b (n ∷ []) []) ≤ 1
    go true = omega arith
    go false = omega arith

length-packed_if : (b : Bool) (n : ℕ) → n < 2 ^ 32 → length (packed_if b n) ≤ 5
length-packed_if true n lt = length-groups 5 10 n (fits_5 n (omega (arith, lt)))
length-packed_if false n lt = omega arith

length-packed_u32 : (n : ℕ) → n < 2 ^ 32 → length (packed n) ≤ 5
length-packed_u32 n lt = length-groups 5 10 n (fits_5 n (omega (arith, lt)))

packed-op-le : (o : Op) → OpFits o → length (spelled_op Packed o) ≤ 24
unfolding spelled_op packed_op
packed-op-le o fits =
    let k = o.kind in
    let all = kind_fits k o.nic fits.width.kind fits.width.nic fits.value in
    let head = head_code o ∷ [] in
    let cpu = byte_unless_zero o.cpu in
    let nic = byte_unless_zero o.nic in
    let peer = packed_if_some (peer_in k) in
    let tag = packed_if_some (tag_in k) in
    let size = packed (size_of k) in
    let peer_le : length peer ≤ 5 = rw (packed_peer_by_form k) (length-packed_if _ (peer_of k) all.peer_width) in
    let tag_le : length tag ≤ 5 = rw (packed_tag_by_form k) (length-packed_if _ (tag_of k) all.tag_width) in
    omega (
      arith,
      length-append (head ++ cpu ++ nic ++ peer ++ tag) size,
      length-append (head ++ cpu ++ nic ++ peer) tag,
      length-append (head ++ cpu ++ nic) peer,
      length-append (head ++ cpu) nic,
      length-append head cpu,
      length-byte_unless_zero o.cpu,
      length-byte_unless_zero o.nic,
      peer_le,
      tag_le,
      length-groups 10 10 (size_of k) (fits_10 (size_of k) all.size_width),
    )

packed-dep-le : (d : Dep) → DepFits d → length (spelled_dep Packed d) ≤ 12
unfolding spelled_dep packed_dep
packed-dep-le d fits =
    let number = 2 * d.earlier + when_code d.when in
    let w = when_code-le d.when in
    omega (arith, length-append (packed d.later) (packed number), length-packed_u32 d.later fits.later, length-groups 5 10 number (fits_5 number (omega (arith, w, fits.earlier))))

packed_note_slots-le : (kind op first second : ℕ) → op < 2 ^ 32 → first < 2 ^ 32 → second < 2 ^ 32 → length ((kind ∷ []) ++ packed op ++ packed first ++ packed second) ≤ 16
packed_note_slots-le kind op first second a b c =
    omega (
      arith,
      length-append ((kind ∷ []) ++ packed op ++ packed first) (packed second),
      length-append ((kind ∷ []) ++ packed op) (packed first),
      length-append (kind ∷ []) (packed op),
      length-packed_u32 op a,
      length-packed_u32 first b,
      length-packed_u32 second c,
    )

packed-note-le : (n : Note) → IsNoteInWidth n → length (spelled_note Packed n) ≤ 16
unfolding spelled_note packed_note
packed-note-le (Moves op lo hi) fits = packed_note_slots-le 0 op lo hi fits.0 fits.1 fits.2
packed-note-le (Adds op from to) fits = packed_note_slots-le 1 op from to fits.0 fits.1 fits.2

packed-counts-le : (p : Plan) → length p.ops ≤ MAX_OPS → length p.deps ≤ MAX_DEPS → length p.notes ≤ MAX_NOTES → length (spelled_counts Packed p) ≤ 12
unfolding spelled_counts spelled_count
packed-counts-le p ops deps notes =
    omega (
      arith,
      length-append (packed (length p.ops) ++ packed (length p.deps)) (packed (length p.notes)),
      length-append (packed (length p.ops)) (packed (length p.deps)),
      length-groups 4 10 (length p.ops) (fits_4 (length p.ops) (omega (arith, ops))),
      length-groups 4 10 (length p.deps) (fits_4 (length p.deps) (omega (arith, deps))),
      length-groups 4 10 (length p.notes) (fits_4 (length p.notes) (omega (arith, notes))),
    )

packed-rank-le : (p : Plan) → PlanFits p → length p.ops ≤ MAX_OPS → length p.deps ≤ MAX_DEPS → length p.notes ≤ MAX_NOTES
    → length (spelled_rank Packed p) ≤ 12 + 24 * length p.ops + 12 * length p.deps + 16 * length p.notes
unfolding spelled_rank
packed-rank-le p fits ops deps notes =
    let os = flat_map (spelled_op Packed) p.ops in
    let ds = flat_map (spelled_dep Packed) p.deps in
    let ns = flat_map (spelled_note Packed) p.notes in
    omega (
      arith,
      length-append (spelled_counts Packed p ++ os ++ ds) ns,
      length-append (spelled_counts Packed p ++ os) ds,
      length-append (spelled_counts Packed p) os,
      packed-counts-le p ops deps notes,
      length-items-le (spelled_op Packed) 24 OpFits packed-op-le p.ops (recursion_from_All OpFits p.ops fits.ops),
      length-items-le (spelled_dep Packed) 12 DepFits packed-dep-le p.deps (recursion_from_All DepFits p.deps fits.deps),
      length-items-le (spelled_note Packed) 16 IsNoteInWidth packed-note-le p.notes (recursion_from_All IsNoteInWidth p.notes fits.notes),
    )

packed-ranks-le : (plans : List Plan) → AllByRecursion PlanFits plans → op_count plans ≤ MAX_OPS → dep_count plans ≤ MAX_DEPS → note_count plans ≤ MAX_NOTES
    → length (flat_map (spelled_rank Packed) plans) ≤ 12 * length plans + 24 * op_count plans + 12 * dep_count plans + 16 * note_count plans
unfolding op_count dep_count note_count
packed-ranks-le [] fits ops deps notes = omega arith
packed-ranks-le (p ∷ ps) fits ops deps notes =
    let o = sum_by-cons (λ (p : Plan). length p.ops) p ps in
    let d = sum_by-cons (λ (p : Plan). length p.deps) p ps in
    let n = sum_by-cons (λ (p : Plan). length p.notes) p ps in
    omega (
      arith,
      ap length (flat_map-cons (spelled_rank Packed) p ps),
      length-append (spelled_rank Packed p) (flat_map (spelled_rank Packed) ps),
      packed-rank-le p fits.0 (omega (arith, o, ops)) (omega (arith, d, deps)) (omega (arith, n, notes)),
      packed-ranks-le ps fits.1 (omega (arith, o, ops)) (omega (arith, d, deps)) (omega (arith, n, notes)),
      o,
      d,
      n,
    )

packed-header-le : (plans : List Plan) → length plans ≤ 65536 → length (header Packed plans) ≤ 16
unfolding header spelled_count
packed-header-le plans few =
    omega (arith, length-append (MAGIC ++ spelled_u32 (version_of Packed)) (packed (length plans)), length-groups 3 10 (length plans) (fits_3 (length plans) (omega (arith, few))))

pub no_longer : (plans : List Plan) → HaveFile plans → length (file plans) ≤ length (old plans)
unfolding written
no_longer plans fits =
    let c = fits.counts in
    omega (
      arith,
      length-append (header Packed plans) (flat_map (spelled_rank Packed) plans),
      packed-header-le plans (omega (arith, c.ranks)),
      packed-ranks-le plans (recursion_from_All PlanFits plans fits.ranks) c.ops c.deps c.notes,
      length-old plans,
    )
