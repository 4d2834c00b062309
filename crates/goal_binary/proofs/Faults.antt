-- Plans that bytes mean have a file, and the faults of bytes describe them.
use Rattle.std.proofs.Common.{◌≡◌, ℕ, ◌+◌, ◌<◌, ◌≤◌, Bool, true, false, cond, ltb, List, [], ◌∷◌, ◌++◌, length, take, drop, Result, Ok, Err, refl, sym, ap, subst, ◌∙◌, append_assoc, arith, inl, inr}
use Rattle.std.proofs.lemmas.Bool.{le-ltb, ltb-true}
use Rattle.std.proofs.lemmas.List.{take-take, take-append-le, take-append-drop, drop_all, length-take}
use Rattle.goal_graph.specs.Schedule.{Plan}
use Rattle.goal_binary.specs.declared.fault.FileFault.{FileFault}
use Rattle.goal_binary.specs.declared.fault.FileFault.TheVariants as fault
use Rattle.goal_binary.specs.declared.layout.TheConstants.{MAGIC}
use Rattle.goal_binary.specs.declared.layout.Layout.{Layout}
use Rattle.goal_binary.specs.declared.layout.Layout.TheVariants.{Packed}
use Rattle.goal_binary.specs.Layouts.{version_of}
use Rattle.goal_binary.specs.File.{spelled_u32, written}
use Rattle.goal_binary.specs.Fitting.{HaveFile}
use Rattle.goal_binary.specs.Fields.{Read, ◌>>=◌, opening_at}
use Rattle.goal_binary.specs.Meaning.{plans_at, meaning}
use Rattle.goal_binary.specs.Laws.{BeginAFile, IsFirstBadField, IsBehindFile, IsTrueOf}
use Rattle.goal_binary.proofs.Steps.{IsBytes}
use Rattle.goal_binary.proofs.FieldsTaken.{IsBytes-take}
use Rattle.goal_binary.proofs.FieldsRead.{length_bound_from_equal_prefix}
use Rattle.goal_binary.proofs.RanksTaken.{records_taken}
use Rattle.goal_binary.proofs.RanksAgain.{meaning_of_written_plans}
use Rattle.goal_binary.proofs.Readers.{Completed, Halts, ReadStop, take-shorter, take-front, IsBytes-append}
use Rattle.goal_binary.proofs.RanksRead.{body, body_reads}
use Rattle.goal_binary.proofs.Limits.{body_gives}
use Rattle.goal_binary.proofs.Opening.{front_bytes, plans_at_is_opening_then_body, IsOpened, IsClosed, opening_of_opened_bytes, open_or_closed}

-- the meaning of plans that end at a place
abbrev whole_or_extra : ℕ → List Plan × ℕ → Result (List Plan) FileFault
whole_or_extra len x = cond (ltb x.1 len) (Err (fault.Extra x.1)) (Ok x.0)

abbrev failed : FileFault → Result (List Plan) FileFault
failed f = Err f

failed_injective : (d f : FileFault) → failed d ≡ failed f → d ≡ f
failed_injective d f e = cc

meaning_ok : (bytes : List ℕ) (x : List Plan × ℕ) → plans_at bytes ≡ Ok x → meaning bytes ≡ whole_or_extra (length bytes) x
unfolding meaning
meaning_ok bytes x e = ap (λ (r : Read (List Plan)). r >>= λ x. whole_or_extra (length bytes) x) e

meaning_err : (bytes : List ℕ) (f : FileFault) → plans_at bytes ≡ Err f → meaning bytes ≡ Err f
unfolding meaning
meaning_err bytes f e = ap (λ (r : Read (List Plan)). r >>= λ x. whole_or_extra (length bytes) x) e

opened_plans : (l : Layout) (bytes : List ℕ) → IsOpened l bytes → plans_at bytes ≡ body l bytes 12
opened_plans l bytes open_so = plans_at_is_opening_then_body bytes ∙ ap (λ (r : Read Layout). r >>= λ layout. body layout.0 bytes layout.1) (opening_of_opened_bytes l bytes open_so)

closed_plans : (bytes : List ℕ) (f : FileFault) → opening_at bytes ≡ Err f → plans_at bytes ≡ Err f
closed_plans bytes f e = plans_at_is_opening_then_body bytes ∙ ap (λ (r : Read Layout). r >>= λ layout. body layout.0 bytes layout.1) e

ok_or_extra : (len n : ℕ) (plans found : List Plan) → whole_or_extra len (plans, n) ≡ Ok found → plans ≡ found
ok_or_extra len n plans found e = go (ltb n len) e
  where
    go : (b : Bool) → cond b (Err (fault.Extra n)) (Ok plans) ≡ Ok found → plans ≡ found
    go true e = absurd cc
    go false e = cc

module _ (l : Layout) where
  -- bytes with the same prefix are opened too
  opened_by_equal_prefix : (bytes other : List ℕ) (n : ℕ) → 12 ≤ n → n ≤ length bytes → take n other ≡ take n bytes → IsOpened l bytes → IsOpened l other
  opened_by_equal_prefix bytes other n long within same open_so =
      record { whole = omega (arith, length_bound_from_equal_prefix n other bytes same within); front = take-shorter 12 n other bytes long same ∙ open_so.front }

  -- they are the file of the plans
  bytes_read_whole_are_file : (bytes : List ℕ) → IsBytes bytes → (plans : List Plan) → IsOpened l bytes → body l bytes 12 ≡ Ok (plans, length bytes) → bytes ≡ written l plans
  bytes_read_whole_are_file bytes fits plans open_so e =
      records_taken bytes l fits 12 (plans, length bytes)
      (record { parts = sym (take-append-drop 12 bytes) ∙ ap (λ (front : List ℕ). front ++ drop 12 bytes) open_so.front }) e (drop_all (length bytes) bytes (omega arith))

  have_file : (bytes : List ℕ) → IsBytes bytes → IsOpened l bytes → (plans : List Plan) (after : ℕ) → body l bytes 12 ≡ Ok (plans, after) → HaveFile plans
  have_file bytes fits open_so plans after e =
      record { counts = ((body_reads l).inside bytes 12 plans after open_so.whole e).2; ranks = (body_gives l).valid bytes fits 12 plans after e }

pub within_limits : (bytes : List ℕ) → IsBytes bytes → (plans : List Plan) → meaning bytes ≡ Ok plans → HaveFile plans
within_limits bytes fits plans means = elim (open_or_closed bytes fits) [
  | inl opened ↦ go opened.layout opened.is (body opened.layout bytes 12) refl
  | inr closed ↦ let stopped = sym (meaning_err bytes closed.fault (closed_plans bytes closed.fault closed.is)) ∙ means in absurd cc
]
  where
    go : (l : Layout) → IsOpened l bytes → (r : Read (List Plan)) → body l bytes 12 ≡ r → HaveFile plans
    go l open_so (Ok x) e =
        let same = ok_or_extra (length bytes) x.1 x.0 plans (sym (meaning_ok bytes x (opened_plans l bytes open_so ∙ e)) ∙ means) in
        subst HaveFile same (have_file l bytes fits open_so x.0 x.1 e)
    go l open_so (Err f) e = let stopped = sym (meaning_err bytes f (opened_plans l bytes open_so ∙ e)) ∙ means in absurd cc

module _ (l : Layout) where
  -- bytes after which reading can continue begin a file
  opened_begins_a_file : (front : List ℕ) → IsBytes front → IsOpened l front → Completed (body l) 12 front → BeginAFile l front
  opened_begins_a_file front fits open_so c =
      let whole = front ++ c.tail in
      let same : take 12 whole ≡ take 12 front = take-append-le 12 front c.tail open_so.whole in
      let opened = opened_by_equal_prefix l front whole 12 (omega arith) open_so.whole same open_so in
      let all = IsBytes-append front c.tail fits c.fits in
      record { plans = c.value; more = c.tail; have_file = have_file l whole all opened c.value (length whole) c.is; is = bytes_read_whole_are_file l whole all c.value opened c.is }

  prefix_begins_a_file : (xs ys : List ℕ) → BeginAFile l (xs ++ ys) → BeginAFile l xs
  prefix_begins_a_file xs ys b = record { plans = b.plans; more = ys ++ b.more; have_file = b.have_file; is = sym (append_assoc xs ys b.more) ∙ b.is }

front_fits : IsBytes (137 ∷ 71 ∷ 79 ∷ 65 ∷ 76 ∷ 13 ∷ 10 ∷ 26 ∷ 2 ∷ 0 ∷ 0 ∷ 0 ∷ [])
front_fits i = grind arith

packed_front_begins_a_file : BeginAFile Packed (front_bytes Packed)
packed_front_begins_a_file = opened_begins_a_file Packed (front_bytes Packed) front_fits (record { whole = omega arith; front = refl }) ((body_reads Packed).starts (front_bytes Packed))

module _ (bytes : List ℕ) (fits : IsBytes bytes) where
  closed_true : (f : FileFault) → IsClosed bytes f → IsTrueOf bytes f
  closed_true (fault.Short n) why = elim why.1 [
    | inl less ↦ record {
      length_is = why.0;
      layout = Packed;
      at = 0;
      width = 8;
      is_width = (omega arith, omega arith);
      begins = omega arith;
      is_cut = omega arith;
      before = prefix_begins_a_file Packed [] (front_bytes Packed) packed_front_begins_a_file;
    }
    | inr magic ↦ record {
      length_is = why.0;
      layout = Packed;
      at = 8;
      width = 4;
      is_width = (omega arith, omega arith);
      begins = magic.1;
      is_cut = magic.2;
      before = subst (BeginAFile Packed) (sym magic.0) (prefix_begins_a_file Packed MAGIC (spelled_u32 (version_of Packed)) packed_front_begins_a_file);
    }
  ]
  closed_true fault.Magic why = why
  closed_true (fault.Version found) why = why
  closed_true (fault.Field at) why = absurd why
  closed_true (fault.Extra at) why = absurd why
  closed_true (fault.Plan rule) why = absurd why
  closed_true fault.NoMemory why = absurd why

  module _ (l : Layout) (open_so : IsOpened l bytes) where
    -- no file continues with the field
    no_file : (n : ℕ) (f : FileFault) → 12 ≤ n → n ≤ length bytes → ((other : List ℕ) → take n other ≡ take n bytes → body l other 12 ≡ Err f) → BeginAFile l (take n bytes) → ⊥
    no_file n f long within stopped b =
        let other = written l b.plans in
        let same : take n other ≡ take n bytes = ap (take n) (sym b.is) ∙ take-front n n bytes b.more (omega arith) within in
        let read = opened_plans l other (opened_by_equal_prefix l bytes other n long within same open_so) ∙ stopped other same in
        let both = sym (meaning_err other f read) ∙ meaning_of_written_plans l b.plans b.have_file in
        absurd cc

    stopped_true : (f : FileFault) (s : ReadStop l (body l) bytes 12 f) → Halts (body l) bytes 12 s.place s.width f → IsTrueOf bytes f
    stopped_true f s how = go f how
      where
        before : BeginAFile l (take s.place bytes)
        before = opened_begins_a_file l (take s.place bytes) (IsBytes-take s.place bytes fits) (opened_by_equal_prefix l bytes (take s.place bytes) s.place s.from s.within (take-take s.place s.place bytes (omega arith)) open_so) s.done

        go : (f : FileFault) → Halts (body l) bytes 12 s.place s.width f → IsTrueOf bytes f
        go (fault.Short n) how = record { length_is = how.0; layout = l; at = s.place; width = s.width; is_width = s.is_width; begins = omega (arith, how.0, s.within); is_cut = how.1; before = before }
        go (fault.Field p) how =
            subst (λ (at : ℕ). IsFirstBadField bytes at) (sym how.0)
            (record { layout = l; behind = s.from; width = s.width; is_width = s.is_width; whole = how.1; before = before; none = no_file (s.place + s.width) (fault.Field p) (omega (arith, s.from)) how.1 how.2 })
        go fault.Magic how = absurd how
        go (fault.Version found) how = absurd how
        go (fault.Extra at) how = absurd how
        go (fault.Plan rule) how = absurd how
        go fault.NoMemory how = absurd how

    extra_true : (plans : List Plan) (n : ℕ) → body l bytes 12 ≡ Ok (plans, n) → n < length bytes → IsBehindFile bytes n
    extra_true plans n e inside =
        let r = (body_reads l).inside bytes 12 plans n open_so.whole e in
        let front = take n bytes in
        let len : length front ≡ n = omega (arith, length-take n bytes) in
        let same : take n front ≡ take n bytes = take-take n n bytes (omega arith) in
        let opened = opened_by_equal_prefix l bytes front n r.0 r.1 same open_so in
        let read : body l front 12 ≡ Ok (plans, n) = (body_reads l).same bytes front 12 plans n open_so.whole e same in
        let whole : body l front 12 ≡ Ok (plans, length front) = read ∙ ap (λ (k : ℕ). Ok (plans, k)) (sym len) in
        let front_fit = IsBytes-take n bytes fits in
        record { inside = inside; plans = plans; have_file = have_file l front front_fit opened plans n read; layout = l; is = bytes_read_whole_are_file l front front_fit plans opened whole }

    opened_true : (f : FileFault) (r : Read (List Plan)) → body l bytes 12 ≡ r → meaning bytes ≡ Err f → IsTrueOf bytes f
    opened_true f (Err d) e means =
        let both = sym (meaning_err bytes d (opened_plans l bytes open_so ∙ e)) ∙ means in
        let same : d ≡ f = failed_injective d f both in
        let s = (body_reads l).stops bytes 12 f open_so.whole (e ∙ ap Err same) in
        stopped_true f s s.how
    opened_true f (Ok x) e means = go (ltb x.1 (length bytes)) refl (sym (meaning_ok bytes x (opened_plans l bytes open_so ∙ e)) ∙ means)
      where
        go : (b : Bool) → ltb x.1 (length bytes) ≡ b → cond b (Err (fault.Extra x.1)) (Ok x.0) ≡ Err f → IsTrueOf bytes f
        go false is said = absurd cc
        go true is said =
            let same : fault.Extra x.1 ≡ f = failed_injective (fault.Extra x.1) f said in
            subst (λ (f : FileFault). IsTrueOf bytes f) same (extra_true x.0 x.1 e (ltb-true x.1 (length bytes) is))

  pub faults_are_true : (f : FileFault) → meaning bytes ≡ Err f → IsTrueOf bytes f
  faults_are_true f means = elim (open_or_closed bytes fits) [
    | inl opened ↦ opened_true opened.layout opened.is f (body opened.layout bytes 12) refl means
    | inr closed ↦
        let both = sym (meaning_err bytes closed.fault (closed_plans bytes closed.fault closed.is)) ∙ means in
        subst (λ (f : FileFault). IsTrueOf bytes f) (failed_injective closed.fault f both) (closed_true closed.fault closed.why)
  ]
