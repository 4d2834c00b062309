-- Bytes that mean plans are the file of these plans.
use Rattle.std.proofs.Common.{◌≡◌, ℕ, zero, suc, ◌<◌, ltb, List, [], ◌∷◌, ◌++◌, length, drop, Ok, All, refl, sym, ap, subst, ◌∙◌, append_assoc, arith, inl, inr}
use Rattle.std.specs.List.{flat_map}
use Rattle.std.proofs.lemmas.Bool.{cases_lt, ltb-false}
use Rattle.std.proofs.lemmas.List.{append-nil, drop_all, get_or_past}
use Rattle.std.proofs.lemmas.List.Concat.{flat_map-cons}
use Rattle.goal_limits.specs.declared.limits.TheConstants.{MAX_OPS, MAX_DEPS, MAX_NOTES}
use Rattle.goal_graph.specs.Schedule.{Plan}
use Rattle.goal_graph.specs.Fault.{op_count, dep_count, note_count}
use Rattle.goal_binary.specs.declared.layout.TheConstants.{MAGIC}
use Rattle.goal_binary.specs.declared.layout.Layout.{Layout}
use Rattle.goal_binary.specs.Layouts.{version_of}
use Rattle.goal_binary.specs.declared.fault.FileFault.TheVariants.{Extra}
use Rattle.goal_binary.specs.File.{spelled_u32, spelled_count, spelled_op, spelled_dep, spelled_note, spelled_counts, spelled_rank, header, written}
use Rattle.goal_binary.specs.Fields.{Read, count_at, opening_at, rank_count_at}
use Rattle.goal_binary.specs.Reading.{list_at, op_at, dep_at, note_at, rank_at, ranks_at, records_at}
use Rattle.goal_binary.specs.Meaning.{plans_at, meaning}
use Rattle.goal_binary.proofs.Steps.{IsBytes, bind_ok, ok_injective, Takes, Takes-then}
use Rattle.goal_binary.proofs.FieldsTaken.{guard_ok}
use Rattle.goal_binary.proofs.NumbersTaken.{number_taken, count_ok, rank_count_taken, opening_taken}
use Rattle.goal_binary.proofs.ItemsTaken.{op_taken, dep_taken, note_taken}

pub IsBytes-All : (bytes : List ℕ) → All (λ (b : ℕ). b < 256) bytes → IsBytes bytes
IsBytes-All bytes all i =
    elim (cases_lt i (length bytes)) [
      | inl lt ↦ all i 0 lt
      | inr le ↦ rw (get_or_past bytes i 0 le) (omega arith)
    ]

module _ (bytes : List ℕ) where
  pub list_taken : {A : Type 0} (item_at : ℕ → Read A) (spelled : A → List ℕ) → ((at : ℕ) (x : A × ℕ) → item_at at ≡ Ok x → Takes bytes at (spelled x.0) x.1)
      → (n at : ℕ) (x : List A × ℕ) → list_at item_at n at ≡ Ok x → Takes bytes at (flat_map spelled x.0) x.1 × (length x.0 ≡ n)
  unfolding list_at
  list_taken {A = A} item_at spelled each zero at x e =
      subst (λ (y : List A × ℕ). Takes bytes at (flat_map spelled y.0) y.1 × (length y.0 ≡ 0)) {x = ([], at)} (ok_injective ([], at) x e) (record { parts = refl }, refl)
  list_taken {A = A} item_at spelled each (suc n) at x e =
      let a = bind_ok (item_at at) _ x e in
      let b = bind_ok (list_at item_at n a.0.1) _ x a.2 in
      let r = list_taken item_at spelled each n a.0.1 b.0 b.1 in
      let both = Takes-then bytes at (spelled a.0.0) a.0.1 (flat_map spelled b.0.0) b.0.1 (each at a.0 a.1) r.0 in
      let made : List A × ℕ = (a.0.0 ∷ b.0.0, b.0.1) in
      subst (λ (y : List A × ℕ). Takes bytes at (flat_map spelled y.0) y.1 × (length y.0 ≡ suc n)) {x = made} (ok_injective made x b.2) (rw flat_map-cons both, ap suc r.1)

module _ (bytes : List ℕ) (l : Layout) where
  pub record RanksTaken (n : ℕ) (before : List Plan) (at : ℕ) (plans : List Plan) (after : ℕ) : Type 0 where
    pub new : List Plan
    pub is : plans ≡ before ++ new
    pub count : length new ≡ n
    pub takes : Takes bytes at (flat_map (spelled_rank l) new) after

  -- the parts of a rank's record
  counts_taken : (p : Plan) (at deps notes after : ℕ) → Takes bytes at (spelled_count l (length p.ops)) deps → Takes bytes deps (spelled_count l (length p.deps)) notes
      → Takes bytes notes (spelled_count l (length p.notes)) after → Takes bytes at (spelled_counts l p) after
  unfolding spelled_counts
  counts_taken p at deps notes after o d n =
      Takes-then bytes at (spelled_count l (length p.ops) ++ spelled_count l (length p.deps)) notes (spelled_count l (length p.notes)) after
      (Takes-then bytes at (spelled_count l (length p.ops)) deps (spelled_count l (length p.deps)) notes o d) n

  parts_taken : (p : Plan) (at ops deps notes after : ℕ) → Takes bytes at (spelled_counts l p) ops → Takes bytes ops (flat_map (spelled_op l) p.ops) deps → Takes bytes deps (flat_map (spelled_dep l) p.deps) notes
      → Takes bytes notes (flat_map (spelled_note l) p.notes) after → Takes bytes at (spelled_rank l p) after
  unfolding spelled_rank
  parts_taken p at ops deps notes after c o d n =
      Takes-then bytes at _ notes (flat_map (spelled_note l) p.notes) after
      (Takes-then bytes at _ deps (flat_map (spelled_dep l) p.deps) notes (Takes-then bytes at (spelled_counts l p) ops (flat_map (spelled_op l) p.ops) deps c o) d) n

  -- the header and the records are the file
  file_taken : (ranks after : ℕ) (plans : List Plan) → Takes bytes 0 ((MAGIC ++ spelled_u32 (version_of l) ++ spelled_count l ranks) ++ flat_map (spelled_rank l) plans) after → drop after bytes ≡ [] → length plans ≡ ranks → bytes ≡ written l plans
  unfolding written header
  file_taken ranks after plans t nothing count =
      let text : ℕ → List ℕ = λ n. (MAGIC ++ spelled_u32 (version_of l) ++ spelled_count l n) ++ flat_map (spelled_rank l) plans in
      t.parts ∙ ap (λ (rest : List ℕ). text ranks ++ rest) nothing ∙ append-nil (text ranks) ∙ ap text (sym count)

  module _ (fits : IsBytes bytes) where
    count_taken : (limit before at : ℕ) (x : ℕ × ℕ) (n : ℕ) → count_at bytes l limit before at ≡ Ok x → n ≡ x.0 → Takes bytes at (spelled_count l n) x.1
    count_taken limit before at x n e same =
        subst (λ (k : ℕ). Takes bytes at (spelled_count l k) x.1) (sym same) (number_taken bytes fits l at x (count_ok bytes l limit before at x e))

    pub rank_taken : (ops deps notes at : ℕ) (x : Plan × ℕ) → rank_at bytes l ops deps notes at ≡ Ok x → Takes bytes at (spelled_rank l x.0) x.1
    unfolding rank_at
    rank_taken ops deps notes at x e =
        let a = bind_ok (count_at bytes l MAX_OPS ops at) _ x e in
        let b = bind_ok (count_at bytes l MAX_DEPS deps a.0.1) _ x a.2 in
        let c = bind_ok (count_at bytes l MAX_NOTES notes b.0.1) _ x b.2 in
        let os = bind_ok (list_at (op_at bytes l) a.0.0 c.0.1) _ x c.2 in
        let ds = bind_ok (list_at (dep_at bytes l) b.0.0 os.0.1) _ x os.2 in
        let ns = bind_ok (list_at (note_at bytes l) c.0.0 ds.0.1) _ x ds.2 in
        let ops_taken = list_taken bytes (op_at bytes l) (spelled_op l) (op_taken bytes fits l) a.0.0 c.0.1 os.0 os.1 in
        let deps_taken = list_taken bytes (dep_at bytes l) (spelled_dep l) (dep_taken bytes fits l) b.0.0 os.0.1 ds.0 ds.1 in
        let notes_taken = list_taken bytes (note_at bytes l) (spelled_note l) (note_taken bytes fits l) c.0.0 ds.0.1 ns.0 ns.1 in
        let made : Plan × ℕ = (record { ops = os.0.0; deps = ds.0.0; notes = ns.0.0 }, ns.0.1) in
        subst (λ (y : Plan × ℕ). Takes bytes at (spelled_rank l y.0) y.1) {x = made} (ok_injective made x ns.2)
        (parts_taken made.0 at c.0.1 os.0.1 ds.0.1 ns.0.1
        (counts_taken made.0 at a.0.1 b.0.1 c.0.1 (count_taken MAX_OPS ops at a.0 (length os.0.0) a.1 ops_taken.1) (count_taken MAX_DEPS deps a.0.1 b.0 (length ds.0.0) b.1 deps_taken.1)
        (count_taken MAX_NOTES notes b.0.1 c.0 (length ns.0.0) c.1 notes_taken.1)) ops_taken.0 deps_taken.0 notes_taken.0)

    pub ranks_taken : (n : ℕ) (before : List Plan) (at : ℕ) (x : List Plan × ℕ) → ranks_at bytes l n before at ≡ Ok x → RanksTaken n before at x.0 x.1
    unfolding ranks_at
    ranks_taken zero before at x e =
        let is = ok_injective (before, at) x e in
        record {
          new = [];
          is = ap (λ (y : List Plan × ℕ). y.0) (sym is) ∙ sym (append-nil before);
          count = refl;
          takes = subst (λ (p : ℕ). Takes bytes at [] p) (ap (λ (y : List Plan × ℕ). y.1) is) (record { parts = refl });
        }
    ranks_taken (suc n) before at x e =
        let a = bind_ok (rank_at bytes l (op_count before) (dep_count before) (note_count before) at) _ x e in
        let r = ranks_taken n (before ++ a.0.0 ∷ []) a.0.1 x a.2 in
        let both = Takes-then bytes at (spelled_rank l a.0.0) a.0.1 (flat_map (spelled_rank l) r.new) x.1 (rank_taken (op_count before) (dep_count before) (note_count before) at a.0 a.1) r.takes in
        record { new = a.0.0 ∷ r.new; is = r.is ∙ append_assoc before (a.0.0 ∷ []) r.new; count = ap suc r.count; takes = rw flat_map-cons both }

    pub records_taken : (at : ℕ) (x : List Plan × ℕ) → Takes bytes 0 (MAGIC ++ spelled_u32 (version_of l)) at → records_at bytes l at ≡ Ok x → drop x.1 bytes ≡ [] → bytes ≡ written l x.0
    unfolding records_at
    records_taken at x opening e nothing =
        let h = bind_ok (rank_count_at bytes l at) (λ n. ranks_at bytes l n.0 [] n.1) x e in
        let r = ranks_taken h.0.0 [] h.0.1 x h.2 in
        let front = Takes-then bytes 0 (MAGIC ++ spelled_u32 (version_of l)) at (spelled_count l h.0.0) h.0.1 opening (rank_count_taken bytes fits l at h.0 h.1) in
        let all = Takes-then bytes 0 _ h.0.1 (flat_map (spelled_rank l) r.new) x.1 front r.takes in
        subst (λ (ps : List Plan). bytes ≡ written l ps) (sym r.is) (file_taken h.0.0 x.1 r.new all nothing r.count)

-- bytes that mean plans are their file in a layout
pub record IsWritten (bytes : List ℕ) (plans : List Plan) : Type 0 where
  pub layout : Layout
  pub is : bytes ≡ written layout plans

pub meaningful_bytes_are_written : (bytes : List ℕ) → IsBytes bytes → (plans : List Plan) → meaning bytes ≡ Ok plans → IsWritten bytes plans
unfolding meaning plans_at
meaningful_bytes_are_written bytes fits plans e =
    let a = bind_ok (plans_at bytes) _ plans e in
    let g = guard_ok (ltb a.0.1 (length bytes)) (Extra a.0.1) a.0.0 plans a.2 in
    let o = bind_ok (opening_at bytes) (λ layout. records_at bytes layout.0 layout.1) a.0 a.1 in
    let nothing : drop a.0.1 bytes ≡ [] = drop_all a.0.1 bytes (ltb-false _ _ g.0) in
    let whole = records_taken bytes o.0.0 fits o.0.1 a.0 (opening_taken bytes fits o.0 o.1) o.2 nothing in
    record { layout = o.0.0; is = subst (λ (ps : List Plan). bytes ≡ written o.0.0 ps) g.1 whole }
