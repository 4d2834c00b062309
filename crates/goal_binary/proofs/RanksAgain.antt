-- The file of a schedule means the schedule.
use Rattle.std.proofs.Common.{◌≡◌, ℕ, ◌+◌, ◌≤◌, false, ltb, List, [], ◌∷◌, ◌++◌, length, get_or, drop, Ok, All, refl, sym, ap, subst, ◌∙◌, append_assoc, arith}
use Rattle.std.specs.List.{flat_map, AllByRecursion, sum_by}
use Rattle.std.proofs.lemmas.Bool.{le-ltb}
use Rattle.std.proofs.lemmas.List.{append-nil, length-drop}
use Rattle.std.proofs.lemmas.List.Concat.{flat_map-cons}
use Rattle.std.proofs.lemmas.List.Elements.{recursion_from_All}
use Rattle.std.proofs.lemmas.List.Sums.{sum_by-append, sum_by-cons}
use Rattle.goal_limits.specs.declared.limits.TheConstants.{MAX_OPS, MAX_DEPS, MAX_NOTES}
use Rattle.goal_graph.specs.declared.plan.Op.{Op}
use Rattle.goal_graph.specs.declared.plan.Dep.{Dep}
use Rattle.goal_graph.specs.declared.plan.Note.{Note}
use Rattle.goal_graph.specs.Schedule.{Plan}
use Rattle.goal_graph.specs.Fault.{op_count, dep_count, note_count, IsAccepted}
use Rattle.goal_graph.specs.Widths.{IsNoteInWidth, AreInWidth}
use Rattle.goal_graph.proofs.ForCallers.{plain-counts, plain-op, plain-dep, dep_in_range-parts, lengths-le}
use Rattle.goal_binary.specs.Fitting.{OpFits, DepFits, PlanFits, HaveFile}
use Rattle.goal_binary.specs.declared.layout.TheConstants.{MAGIC}
use Rattle.goal_binary.specs.declared.layout.Layout.{Layout}
use Rattle.goal_binary.specs.Layouts.{version_of}
use Rattle.goal_binary.specs.File.{spelled_u32, spelled_count, spelled_op, spelled_dep, spelled_note, spelled_counts, spelled_rank, header, written}
use Rattle.goal_binary.specs.Fields.{count_at}
use Rattle.goal_binary.specs.Reading.{list_at, op_at, dep_at, note_at, rank_at, ranks_at, records_at}
use Rattle.goal_binary.specs.Meaning.{plans_at, meaning}
use Rattle.goal_binary.proofs.FieldsAgain.{IsReadAs}
use Rattle.goal_binary.proofs.NumbersAgain.{count_again, rank_count_again, opening_again}
use Rattle.goal_binary.proofs.PackedAgain.{append_of_six_regrouped}
use Rattle.goal_binary.proofs.ItemsAgain.{op_again, dep_again, note_again, list_again}
use Rattle.goal_binary.proofs.RanksRead.{AreFew, AreWithin}

count_with_next_rank_le : (f : Plan → ℕ) (count : List Plan → ℕ) (sum : (ps : List Plan) → count ps ≡ sum_by f ps) (before : List Plan) (p : Plan) (ps : List Plan) → count before + f p ≤ count (before ++ p ∷ ps)
count_with_next_rank_le f count sum before p ps =
    omega (arith, sum before, sum (before ++ p ∷ ps), sum_by-append f before (p ∷ ps), sum_by-cons f p ps)

few-next : (before : List Plan) (p : Plan) (ps : List Plan) → AreWithin (before ++ p ∷ ps) → AreFew (op_count before) (dep_count before) (note_count before) p
unfolding op_count dep_count note_count
few-next before p ps few = record {
  ops_within = omega (arith, few.ops, count_with_next_rank_le (λ (p : Plan). length p.ops) op_count (λ ps. refl) before p ps);
  deps_within = omega (arith, few.deps, count_with_next_rank_le (λ (p : Plan). length p.deps) dep_count (λ ps. refl) before p ps);
  notes_within = omega (arith, few.notes, count_with_next_rank_le (λ (p : Plan). length p.notes) note_count (λ ps. refl) before p ps);
}

module _ (bytes : List ℕ) (l : Layout) where
  rank_from_fields : (ops deps notes at : ℕ) (op_number dep_number note_number : ℕ × ℕ) (op_list : List Op × ℕ) (dep_list : List Dep × ℕ) (note_list : List Note × ℕ)
      → count_at bytes l MAX_OPS ops at ≡ Ok op_number → count_at bytes l MAX_DEPS deps op_number.1 ≡ Ok dep_number → count_at bytes l MAX_NOTES notes dep_number.1 ≡ Ok note_number
      → list_at (op_at bytes l) op_number.0 note_number.1 ≡ Ok op_list → list_at (dep_at bytes l) dep_number.0 op_list.1 ≡ Ok dep_list → list_at (note_at bytes l) note_number.0 dep_list.1 ≡ Ok note_list
      → rank_at bytes l ops deps notes at ≡ Ok (record { ops = op_list.0; deps = dep_list.0; notes = note_list.0 }, note_list.1)
  unfolding rank_at
  rank_from_fields ops deps notes at op_number dep_number note_number op_list dep_list note_list a b c d e f = rw (a, b, c, d, e, f) refl

  rank_again : (p : Plan) (ops deps notes at : ℕ) (rest : List ℕ) → PlanFits p → AreFew ops deps notes p → drop at bytes ≡ spelled_rank l p ++ rest → IsReadAs bytes (rank_at bytes l ops deps notes at) p rest
  unfolding spelled_rank spelled_counts
  rank_again p ops deps notes at rest fits few h =
      let os = flat_map (spelled_op l) p.ops in
      let ds = flat_map (spelled_dep l) p.deps in
      let ns = flat_map (spelled_note l) p.notes in
      let regrouped : spelled_rank l p ++ rest ≡ spelled_count l (length p.ops) ++ (spelled_count l (length p.deps) ++ (spelled_count l (length p.notes) ++ (os ++ (ds ++ (ns ++ rest))))) =
      append_of_six_regrouped (spelled_count l (length p.ops)) (spelled_count l (length p.deps)) (spelled_count l (length p.notes)) os ds ns rest in
      let a = count_again bytes l MAX_OPS ops at (length p.ops) (spelled_count l (length p.deps) ++ (spelled_count l (length p.notes) ++ (os ++ (ds ++ (ns ++ rest))))) (omega (arith, few.ops_within)) few.ops_within (h ∙ regrouped) in
      let b = count_again bytes l MAX_DEPS deps a.place (length p.deps) (spelled_count l (length p.notes) ++ (os ++ (ds ++ (ns ++ rest)))) (omega (arith, few.deps_within)) few.deps_within a.rest_is in
      let c = count_again bytes l MAX_NOTES notes b.place (length p.notes) (os ++ (ds ++ (ns ++ rest))) (omega (arith, few.notes_within)) few.notes_within b.rest_is in
      let d = list_again bytes (op_at bytes l) (spelled_op l) OpFits (op_again bytes l) p.ops c.place (ds ++ (ns ++ rest)) (recursion_from_All OpFits p.ops fits.ops) c.rest_is in
      let f = list_again bytes (dep_at bytes l) (spelled_dep l) DepFits (dep_again bytes l) p.deps d.place (ns ++ rest) (recursion_from_All DepFits p.deps fits.deps) d.rest_is in
      let g = list_again bytes (note_at bytes l) (spelled_note l) IsNoteInWidth (note_again bytes l) p.notes f.place rest (recursion_from_All IsNoteInWidth p.notes fits.notes) f.rest_is in
      record {
        place = g.place;
        is = rank_from_fields ops deps notes at (length p.ops, a.place) (length p.deps, b.place) (length p.notes, c.place) (p.ops, d.place) (p.deps, f.place) (p.notes, g.place) a.is b.is c.is d.is f.is g.is;
        rest_is = g.rest_is;
      }

  ranks_again : (ps before : List Plan) (at : ℕ) (rest : List ℕ) → AllByRecursion PlanFits ps → AreWithin (before ++ ps) → drop at bytes ≡ flat_map (spelled_rank l) ps ++ rest → IsReadAs bytes (ranks_at bytes l (length ps) before at) (before ++ ps) rest
  unfolding ranks_at
  ranks_again [] before at rest fits few h =
      record { place = at; is = ap (λ (ps : List Plan). Ok (ps, at)) (sym (append-nil before)); rest_is = h }
  ranks_again (p ∷ ps) before at rest fits few h =
      let regrouped : flat_map (spelled_rank l) (p ∷ ps) ++ rest ≡ spelled_rank l p ++ (flat_map (spelled_rank l) ps ++ rest) = ap (λ (t : List ℕ). t ++ rest) (flat_map-cons (spelled_rank l) p ps) ∙ append_assoc (spelled_rank l p) (flat_map (spelled_rank l) ps) rest in
      let joined : (before ++ p ∷ []) ++ ps ≡ before ++ p ∷ ps = append_assoc before (p ∷ []) ps in
      let a = rank_again p (op_count before) (dep_count before) (note_count before) at (flat_map (spelled_rank l) ps ++ rest) fits.0 (few-next before p ps few) (h ∙ regrouped) in
      let r = ranks_again ps (before ++ p ∷ []) a.place rest fits.1 (subst AreWithin (sym joined) few) a.rest_is in
      record { place = r.place; is = rw a.is (r.is ∙ ap (λ (qs : List Plan). Ok (qs, r.place)) joined); rest_is = r.rest_is }

-- a schedule has a file
module _ (plans : List Plan) (accepted : IsAccepted plans) (widths : AreInWidth plans) where
  all_plans_fit : All PlanFits plans
  all_plans_fit rank p inside =
      let few = (plain-counts plans accepted.plain).ops in
      let len = (lengths-le plans rank p inside).ops in
      record {
        ops = λ k d below. record { width = (widths.ranks rank p inside).ops k d below; value = (plain-op plans accepted.plain rank p inside k d below).0 };
        deps = λ k d below.
            let both = dep_in_range-parts (length (get_or plans rank p).ops) (get_or (get_or plans rank p).deps k d) (plain-dep plans accepted.plain rank p inside k d below) in
            record { later = omega (arith, both.0, few, len); earlier = omega (arith, both.1, few, len) };
        notes = (widths.ranks rank p inside).notes;
      }

  pub schedule_fits : HaveFile plans
  schedule_fits = record { counts = plain-counts plans accepted.plain; ranks = all_plans_fit }

pub meaning_of_written_plans : (l : Layout) (plans : List Plan) → HaveFile plans → meaning (written l plans) ≡ Ok plans
unfolding meaning plans_at records_at written header
meaning_of_written_plans l plans fit =
    let counts = fit.counts in
    let bytes = written l plans in
    let records = flat_map (spelled_rank l) plans in
    let count = spelled_count l (length plans) in
    let o = opening_again bytes l (count ++ records) (append_assoc (MAGIC ++ spelled_u32 (version_of l)) count records) in
    let n = rank_count_again bytes l o.place (length plans) records counts.some_rank counts.ranks o.rest_is in
    let r = ranks_again bytes l plans [] n.place [] (recursion_from_All PlanFits plans fit.ranks) (record { ops = counts.ops; deps = counts.deps; notes = counts.notes }) (n.rest_is ∙ sym (append-nil records)) in
    let ended : ltb r.place (length bytes) ≡ false = le-ltb _ _ (omega (arith, length-drop r.place bytes, ap length r.rest_is)) in
    rw (o.is, n.is, r.is, ended) refl

pub meaning_of_written_schedule : (l : Layout) (plans : List Plan) → IsAccepted plans → AreInWidth plans → meaning (written l plans) ≡ Ok plans
meaning_of_written_schedule l plans accepted widths = meaning_of_written_plans l plans (schedule_fits plans accepted widths)
