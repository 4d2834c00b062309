-- The file of a schedule, cut off or with more after it; and bytes with which no file begins.
use Rattle.std.proofs.Common.{◌≡◌, ℕ, ◌<◌, Bool, true, false, cond, ltb, List, ◌∷◌, ◌++◌, length, take, drop, Result, Ok, Err, refl, sym, ap, subst, ◌∙◌, arith, inl, inr}
use Rattle.std.proofs.lemmas.Bool.{lt-ltb, ltb-false}
use Rattle.std.proofs.lemmas.List.{take-append-drop, length-append, length-take}
use Rattle.goal_graph.specs.Schedule.{Plan}
use Rattle.goal_binary.specs.declared.fault.FileFault.{FileFault}
use Rattle.goal_binary.specs.declared.fault.FileFault.TheVariants.{Short, Extra}
use Rattle.goal_binary.specs.declared.layout.Layout.{Layout}
use Rattle.goal_binary.specs.File.{written}
use Rattle.goal_binary.specs.Fields.{Read, ◌>>=◌}
use Rattle.goal_binary.specs.Meaning.{plans_at, meaning}
use Rattle.goal_binary.specs.Laws.{IsSchedule, IsOfField}
use Rattle.goal_binary.proofs.RanksAgain.{meaning_of_written_schedule}
use Rattle.goal_binary.proofs.Follows.{Agree, IsPlaced, end_of, plans_follow}

-- the meaning of bytes of this length, given the plans read from a prefix
abbrev whole_or_extra : (len : ℕ) (x : List Plan × ℕ) (b : Bool) → Result (List Plan) FileFault
whole_or_extra len x b = cond b (Err (Extra x.1)) (Ok x.0)

abbrev result_of_plans : ℕ → Read (List Plan) → Result (List Plan) FileFault
result_of_plans len read = read >>= λ x. whole_or_extra len x (ltb x.1 len)

meaning_from : (bytes : List ℕ) (r : Read (List Plan)) → plans_at bytes ≡ r → meaning bytes ≡ result_of_plans (length bytes) r
unfolding meaning
meaning_from bytes r is = ap (result_of_plans (length bytes)) is

-- the plans of all bytes do not end before them
plans_end_no_earlier : (len n : ℕ) (plans : List Plan) (r : Read (List Plan)) → result_of_plans len r ≡ Ok plans → IsPlaced n end_of r → n < len → ⊥
plans_end_no_earlier len n plans (Ok x) means placed less =
    let early : ltb x.1 len ≡ true = lt-ltb x.1 len (omega arith) in
    let e = rw early at means in
    absurd cc
plans_end_no_earlier len n plans (Err f) means placed less = absurd cc

-- plans after which more bytes follow
extra_after_complete_plans : (len longer : ℕ) (plans : List Plan) (r : Read (List Plan)) → result_of_plans len r ≡ Ok plans → IsPlaced len end_of r → len < longer → result_of_plans longer r ≡ Err (Extra len)
extra_after_complete_plans len longer plans (Ok x) means placed less = go (ltb x.1 len) refl means
  where
    go : (b : Bool) → ltb x.1 len ≡ b → whole_or_extra len x b ≡ Ok plans → whole_or_extra longer x (ltb x.1 longer) ≡ Err (Extra len)
    go true is means = absurd cc
    go false is means =
        let same : x.1 ≡ len = omega (arith, ltb-false x.1 len is) in
        let early : ltb x.1 longer ≡ true = lt-ltb x.1 longer (omega arith) in
        rw (early, same) refl
extra_after_complete_plans len longer plans (Err f) means placed less = absurd cc

-- where reading fails at a field, no number of bytes gives plans
field_fault_excludes_plans : (len whole_file_is_read : ℕ) (fault : FileFault) (plans : List Plan) (r : Read (List Plan)) → result_of_plans len r ≡ Err fault → IsOfField fault → result_of_plans whole_file_is_read r ≡ Ok plans → ⊥
field_fault_excludes_plans len all fault plans (Ok x) means field whole_file_is_read = go (ltb x.1 len) means
  where
    go : (b : Bool) → whole_or_extra len x b ≡ Err fault → ⊥
    go true e = let same : Extra x.1 ≡ fault = cc in subst IsOfField (sym same) field
    go false e = absurd cc
field_fault_excludes_plans len all fault plans (Err f) means field whole_file_is_read = absurd cc

module _ (l : Layout) (plans : List Plan) (schedule : IsSchedule plans) where
  whole_file_is_read : meaning (written l plans) ≡ Ok plans
  whole_file_is_read = meaning_of_written_schedule l plans schedule.accepted schedule.widths

  pub cut_is_short : (n : ℕ) → n < length (written l plans) → meaning (take n (written l plans)) ≡ Err (Short n)
  cut_is_short n less =
      let front = take n (written l plans) in
      let joined : front ++ drop n (written l plans) ≡ written l plans = take-append-drop n (written l plans) in
      let len : length front ≡ n = omega (arith, length-take n (written l plans)) in
      let agree = subst (λ (bytes : List ℕ). Agree (length front) end_of (plans_at front) (plans_at bytes)) joined (plans_follow front (drop n (written l plans))) in
      elim agree.is [
        | inl e ↦ meaning_from front (Err (Short (length front))) e ∙ ap (λ (k : ℕ). Err (Short k)) len
        | inr same ↦ absurd (plans_end_no_earlier (length (written l plans)) n plans (plans_at front) (sym (meaning_from (written l plans) (plans_at front) same.0) ∙ whole_file_is_read) (subst (λ (k : ℕ). IsPlaced k end_of (plans_at front)) len same.1) less)
      ]

  pub more_is_extra : (b : ℕ) (more : List ℕ) → meaning (written l plans ++ b ∷ more) ≡ Err (Extra (length (written l plans)))
  more_is_extra b more =
      let agree = plans_follow (written l plans) (b ∷ more) in
      let judged_so : result_of_plans (length (written l plans)) (plans_at (written l plans)) ≡ Ok plans = sym (meaning_from (written l plans) (plans_at (written l plans)) refl) ∙ whole_file_is_read in
      elim agree.is [
        | inl e ↦ let short = sym (meaning_from (written l plans) (Err (Short (length (written l plans)))) e) ∙ whole_file_is_read in absurd cc
        | inr same ↦ meaning_from (written l plans ++ b ∷ more) (plans_at (written l plans)) same.0
            ∙ extra_after_complete_plans (length (written l plans)) (length (written l plans ++ b ∷ more)) plans (plans_at (written l plans)) judged_so same.1 (omega (arith, length-append (written l plans) (b ∷ more)))
      ]

  pub no_file_begins : (bytes more : List ℕ) (fault : FileFault) → meaning bytes ≡ Err fault → IsOfField fault → bytes ++ more ≡ written l plans → ⊥
  no_file_begins bytes more fault means field joined =
      let agree = subst (λ (all : List ℕ). Agree (length bytes) end_of (plans_at bytes) (plans_at all)) joined (plans_follow bytes more) in
      elim agree.is [
        | inl e ↦
            let said = sym means ∙ meaning_from bytes (Err (Short (length bytes))) e in
            let same : fault ≡ Short (length bytes) = cc in
            subst IsOfField same field
        | inr same ↦ field_fault_excludes_plans (length bytes) (length (written l plans)) fault plans (plans_at bytes) (sym (meaning_from bytes (plans_at bytes) refl) ∙ means) field (sym (meaning_from (written l plans) (plans_at bytes) same.0) ∙ whole_file_is_read)
      ]
