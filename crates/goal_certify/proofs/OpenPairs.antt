-- The open pairs of a rank are its races.
use Rattle.std.proofs.Common.{⊎_elim, ℕ, ◌≡◌, ◌<◌, ◌≤◌, ◌⊎◌, ◌&&◌, inl, inr, Bool, true, false, not, List, length, get_or, flat_map, All, Contains, Option, Some, None, slice_get, if◌then◌else◌, refl, sym, ap, ◌∙◌, subst, arith, true≢false}
use Rattle.std.specs.Option.{option_map, option_and_then}
use Rattle.std.proofs.lemmas.Bool.{cases_lt, and_parts, cases_Bool, not-true}
use Rattle.std.proofs.lemmas.Option.{slice_get_within, slice_get_read}
use Rattle.std.proofs.lemmas.List.Elements.{All-contains, Contains-get_or}
use Rattle.goal_limits.specs.Limits.{certified_op_limit, slot_limit}
use Rattle.goal_graph.specs.declared.action.OpId.{OpId}
use Rattle.goal_graph.specs.declared.plan.Op.{Op}
use Rattle.goal_graph.specs.Schedule.{Plan, op_at, kind_at, ops_at}
use Rattle.goal_graph.specs.Order.{IsLess}
use Rattle.goal_graph.proofs.ForCallers.{ops_at_some}
use Rattle.goal_blocks.specs.declared.cert_fault.CertFault.TheVariants.{TooLarge, Wildcard, DoubleChannel, Unpaired, Lengths, Race, Stalls, Weight, Wrong, NoMemory}
use Rattle.goal_blocks.specs.Certification.{NamesLowSlots, IsSmall}
use Rattle.goal_blocks.specs.Slots.{slots, adds, touched_in, touched, written}
use Rattle.goal_blocks.specs.Faults.{RaceAt, race_key, first_of, IsRace}
use Rattle.goal_certify.specs.declared.races.search.OpPair.{OpPair}
use Rattle.goal_certify.specs.declared.races.touches.Touch.{Touch}
use Rattle.goal_certify.specs.Stages.{IsFree}
use Rattle.goal_certify.specs.Rows.{has}
use Rattle.goal_graph.specs.Search.{op_id}
use Rattle.goal_certify.specs.Before.{AreRows}
use Rattle.goal_certify.specs.Touches.{touches_of, AreTouches}
use Rattle.goal_certify.proofs.Touches.{are_touches}
use Rattle.goal_certify.specs.Table.{AreMarked, meets, AreShared}
use Rattle.goal_certify.specs.Races.{is_open, IsMutual, IsOrdered, IsFirstOpen, IsLeastSlot, race_at, IsFirstOfRank}

-- what is open shares a slot
open_shared : (before shared : List ℕ) (x y : ℕ) → is_open before shared x y ≡ true → has shared x y ≡ false → ⊥
open_shared before shared x y both none =
    true≢false (sym (and_parts (has shared x y) (not (has before y x) && not (has before x y)) both).0 ∙ none)

-- no operation above x and below the next one is open with x, where none was so far and those that are skipped share none
pub none_skipped : (before shared : List ℕ) (x second next count : ℕ) → ((y : ℕ) → x < y → y < second → y < count → is_open before shared x y ≡ true → ⊥) → ((y : ℕ) → second ≤ y → y < next → has shared x y ≡ false) → (y : ℕ) → x < y → y < next → y < count → is_open before shared x y ≡ true → ⊥
none_skipped before shared x second next count so_far skipped y low high within both =
    ⊎_elim (λ passed. so_far y low passed within both) (λ from. open_shared before shared x y both (skipped y from high)) (cases_lt y second)

-- no lesser operation is open with y, where the row of y has none but those that end before y starts
pub none_open : (before shared : List ℕ) (x y : ℕ) → x < certified_op_limit → y < certified_op_limit → IsMutual shared → (has shared y x ≡ true → has before y x ≡ false → ⊥) → is_open before shared x y ≡ true → ⊥
none_open before shared x y low high both_ways ordered both =
    let a = and_parts (has shared x y) (not (has before y x) && not (has before x y)) both in
    let b = and_parts (not (has before y x)) (not (has before x y)) a.1 in
    ordered (both_ways x y low high a.0) (not-true (has before y x) b.0)

module _ (plans : List Plan) (rank : ℕ) (touches : List Touch) (touchers writers : List ℕ) (known : AreTouches plans rank touches) (marked : AreMarked false touches touchers) (written_marked : AreMarked true touches writers) where
  -- both touch the slot, and one of them writes it
  abbrev Share : ℕ → ℕ → ℕ → Type 0
  Share x y s = Contains (touched plans (op_id rank x)) s × Contains (touched plans (op_id rank y)) s × (Contains (written plans (op_id rank x)) s ⊎ Contains (written plans (op_id rank y)) s)

  meets_sound : (t : Touch) → Contains touches t → (y : ℕ) → y < certified_op_limit → meets touchers writers t y ≡ true → Share t.op y t.slot
  meets_sound t c y few h = go t.writes refl h
    where
      go : (b : Bool) → t.writes ≡ b → (if b then has touchers t.slot y else has writers t.slot y) ≡ true → Share t.op y t.slot
      go true w m =
          let u = marked.no_more t.slot y few m in
          let other : Contains (touched plans (op_id rank y)) t.slot =
          subst (λ (s : ℕ). Contains (touched plans (op_id rank y)) s) u.3 (subst (λ (k : ℕ). Contains (touched plans (op_id rank k)) u.0.slot) u.4 (known.touch u.0 u.1)) in
          (known.touch t c, other, inl (known.write t c w))
      go false w m =
          let u = written_marked.no_more t.slot y few m in
          let other : Contains (touched plans (op_id rank y)) t.slot =
          subst (λ (s : ℕ). Contains (touched plans (op_id rank y)) s) u.3 (subst (λ (k : ℕ). Contains (touched plans (op_id rank k)) u.0.slot) u.4 (known.touch u.0 u.1)) in
          let writes : Contains (written plans (op_id rank y)) t.slot =
          subst (λ (s : ℕ). Contains (written plans (op_id rank y)) s) u.3 (subst (λ (k : ℕ). Contains (written plans (op_id rank k)) u.0.slot) u.4 (known.write u.0 u.1 u.2)) in
          (known.touch t c, other, inr writes)

  -- a touch of x, of the slot s, that meets y
  abbrev Met : ℕ → ℕ → ℕ → Type 0
  Met x y s = (t : Touch) × Contains touches t × (t.op ≡ x) × (t.slot ≡ s) × (meets touchers writers t y ≡ true)

  in_touchers : (y s : ℕ) → Contains (touched plans (op_id rank y)) s → has touchers s y ≡ true
  in_touchers y s c =
      let u = known.all_touched y s c in
      subst (λ (k : ℕ). has touchers s k ≡ true) u.2 (subst (λ (r : ℕ). has touchers r u.0.op ≡ true) u.3 (marked.has_all u.0 u.1 refl))

  in_writers : (y s : ℕ) → Contains (written plans (op_id rank y)) s → has writers s y ≡ true
  in_writers y s c =
      let u = known.all_written y s c in
      subst (λ (k : ℕ). has writers s k ≡ true) u.2 (subst (λ (r : ℕ). has writers r u.0.op ≡ true) u.3 (written_marked.has_all u.0 u.1 u.4))

  met_by : (t : Touch) (y : ℕ) → has touchers t.slot y ≡ true → (t.writes ≡ true) ⊎ (has writers t.slot y ≡ true) → meets touchers writers t y ≡ true
  met_by t y there one = go t.writes refl
    where
      go : (b : Bool) → t.writes ≡ b → (if b then has touchers t.slot y else has writers t.slot y) ≡ true
      go true w = there
      go false w = ⊎_elim (λ yes. absurd (true≢false (sym yes ∙ w))) (λ m. m) one

  meets_all : (x y s : ℕ) → Share x y s → Met x y s
  meets_all x y s (a, b, inl w) =
      let t = known.all_written x s w in
      (t.0, t.1, t.2, t.3, met_by t.0 y (subst (λ (r : ℕ). has touchers r y ≡ true) (sym t.3) (in_touchers y s b)) (inl t.4))
  meets_all x y s (a, b, inr w) =
      let t = known.all_touched x s a in
      (t.0, t.1, t.2, t.3, met_by t.0 y (subst (λ (r : ℕ). has touchers r y ≡ true) (sym t.3) (in_touchers y s b)) (inr (subst (λ (r : ℕ). has writers r y ≡ true) (sym t.3) (in_writers y s w))))

  -- the rows of what operations share are mutual
  pub shared_mutual : (shared : List ℕ) → AreShared touchers writers touches shared → IsMutual shared
  shared_mutual shared sharing x y low high there =
      let t = sharing.no_more x y high there in
      let s : Share x y t.0.slot = subst (λ (k : ℕ). Share k y t.0.slot) t.2 (meets_sound t.0 t.1 y high t.3) in
      let other : Met y x t.0.slot = meets_all y x t.0.slot (s.1, s.0, ⊎_elim inr inl s.2) in
      subst (λ (k : ℕ). has shared k x ≡ true) other.2 (sharing.has_all other.0 other.1 x low other.4)

  -- where all that shares a slot is in the order of the numbers there is no race
  pub ordered_no_race : (before : List ℕ) → AreRows plans rank before (λ op. op < length (ops_at plans rank)) → length (ops_at plans rank) ≤ certified_op_limit → All (IsOrdered before touchers writers) touches → IsFirstOfRank plans rank None
  ordered_no_race before rows few ordered a e r =
      let x = a.first in
      let y = a.second in
      let here : IsRace plans (record { rank = rank; first = x; second = y; slot = a.slot }) = subst (λ (k : ℕ). IsRace plans (record { rank = k; first = x; second = y; slot = a.slot })) e r in
      let met : Met y x a.slot = meets_all y x a.slot (here.second_touches, here.first_touches, ⊎_elim inr inl here.one_writes) in
      let inside : met.0.op < length (ops_at plans rank) = known.op_below met.0 met.1 in
      let lower : x < y = here.in_order in
      let own : IsOrdered before touchers writers met.0 = All-contains (IsOrdered before touchers writers) touches met.0 ordered met.1 in
      let there : has before y x ≡ true = subst (λ (k : ℕ). has before k x ≡ true) met.2 (own x (omega (arith, lower, met.2)) met.4) in
      here.not_before (rows.sound y x (omega (arith, lower, inside, met.2, few)) there)

  module _ (before shared : List ℕ) (rows : AreRows plans rank before (λ op. op < length (ops_at plans rank))) (sharing : AreShared touchers writers touches shared) (few : length (ops_at plans rank) ≤ certified_op_limit) where
    open_parts : (x y : ℕ) → is_open before shared x y ≡ true → (has shared x y ≡ true) × (has before y x ≡ false) × (has before x y ≡ false)
    open_parts x y h =
        let a = and_parts (has shared x y) (not (has before y x) && not (has before x y)) h in
        let b = and_parts (not (has before y x)) (not (has before x y)) a.1 in
        (a.0, not-true (has before y x) b.0, not-true (has before x y) b.1)

    -- an open pair races at each slot at which it meets
    open_race : (x y s : ℕ) → x < y → y < length (ops_at plans rank) → is_open before shared x y ≡ true → Met x y s → IsRace plans (record { rank = rank; first = x; second = y; slot = s })
    open_race x y s lower inside h met =
        let parts = open_parts x y h in
        let share : Share x y s = subst (λ (r : ℕ). Share x y r) met.3 (subst (λ (k : ℕ). Share k y met.0.slot) met.2 (meets_sound met.0 met.1 y (omega arith) met.4)) in
        record {
          in_order = lower;
          first_touches = share.0;
          second_touches = share.1;
          one_writes = share.2;
          not_before = λ b. true≢false (sym (rows.complete y x (omega arith) inside b) ∙ parts.1);
          not_after = λ b. true≢false (sym (rows.complete x y (omega arith) (omega arith) b) ∙ parts.2);
        }

    -- a race is an open pair that meets at its slot
    race_open : (x y s : ℕ) → IsRace plans (record { rank = rank; first = x; second = y; slot = s }) → (y < length (ops_at plans rank)) × (is_open before shared x y ≡ true) × Met x y s
    race_open x y s r =
        let u = known.all_touched y s r.second_touches in
        let inside : y < length (ops_at plans rank) = subst (λ (k : ℕ). k < length (ops_at plans rank)) u.2 (known.op_below u.0 u.1) in
        let met : Met x y s = meets_all x y s (r.first_touches, r.second_touches, r.one_writes) in
        let there : has shared x y ≡ true = subst (λ (k : ℕ). has shared k y ≡ true) met.2 (sharing.has_all met.0 met.1 y (omega arith) met.4) in
        let lower : x < y = r.in_order in
        let one : has before y x ≡ false = ⊎_elim (λ yes. absurd (r.not_before (rows.sound y x (omega arith) yes))) (λ no. no) (cases_Bool (has before y x)) in
        let two : has before x y ≡ false = ⊎_elim (λ yes. absurd (r.not_after (rows.sound x y (omega arith) yes))) (λ no. no) (cases_Bool (has before x y)) in
        (inside, all_three there one two, met)
      where
        all_three : {a b c : Bool} → a ≡ true → b ≡ false → c ≡ false → (a && (not b && not c)) ≡ true
        all_three e f g = rw (e, f, g) refl

    pub no_open_no_race : IsFirstOpen before shared (length (ops_at plans rank)) None → IsFirstOfRank plans rank None
    no_open_no_race none a e r =
        let here : IsRace plans (record { rank = rank; first = a.first; second = a.second; slot = a.slot }) = subst (λ (k : ℕ). IsRace plans (record { rank = k; first = a.first; second = a.second; slot = a.slot })) e r in
        let o = race_open a.first a.second a.slot here in
        none a.first a.second here.in_order o.0 o.1

    pub first_race : (p : OpPair) (s : ℕ) → IsFirstOpen before shared (length (ops_at plans rank)) (Some p) → IsLeastSlot touchers writers touches p (Some s) → IsFirstOfRank plans rank (Some (record { first = p.first; second = p.second; slot = s }))
    first_race p s found least = (open_race p.first p.second s found.0 found.1 found.2 least.0, none_less)
      where
        none_less : (a : RaceAt) → a.rank ≡ rank → IsLess (race_key a) (race_key (race_at rank (record { first = p.first; second = p.second; slot = s }))) → IsRace plans a → ⊥
        none_less a e less r =
            let here : IsRace plans (record { rank = rank; first = a.first; second = a.second; slot = a.slot }) = subst (λ (k : ℕ). IsRace plans (record { rank = k; first = a.first; second = a.second; slot = a.slot })) e r in
            let o = race_open a.first a.second a.slot here in
            ⊎_elim (λ below. omega (arith, below, e)) (λ same. ⊎_elim (λ below. found.3 a.first a.second here.in_order o.0 (inl below) o.1) (λ rest. ⊎_elim (λ below. found.3 a.first a.second here.in_order o.0 (inr (rest.0, below)) o.1) (λ last. ⊎_elim (λ below. slot_below a.first a.second a.slot rest.0 last.0 below o.2) (λ none. none.1) last.1) rest.1) same.1) less
          where
            slot_below : (x y k : ℕ) → x ≡ p.first → y ≡ p.second → k < s → Met x y k → ⊥
            slot_below x y k e f below met =
                let high : s ≤ met.0.slot = least.1 met.0 met.1 (met.2 ∙ e) (subst (λ (z : ℕ). meets touchers writers met.0 z ≡ true) f met.4) in
                omega (arith, high, met.3)

-- an operation that touches a slot is one of a rank
touching_rank : (plans : List Plan) (x : OpId) (s : ℕ) → Contains (touched plans x) s → x.rank < length plans
unfolding touched kind_at op_at
touching_rank plans x s c = go (slice_get plans x.rank) refl c
  where
    go : (q : Option Plan) → slice_get plans x.rank ≡ q → Contains (touched_in (option_map (λ (o : Op). o.kind) (option_and_then (λ (p : Plan). slice_get p.ops x.op) q)) (slots plans x) (adds plans x)) s → x.rank < length plans
    go None e c = absurd (omega (arith, c.1))
    go (Some p) e c = slice_get_within plans x.rank p e

-- no race in the ranks below this one
abbrev pub NoRaceBelow : List Plan → ℕ → Type 0
NoRaceBelow plans rank = (a : RaceAt) → a.rank < rank → IsRace plans a → ⊥

pub free_of_races : (plans : List Plan) (rank : ℕ) → length plans ≤ rank → NoRaceBelow plans rank → IsFree plans 5 6
free_of_races plans rank all none first wanted (TooLarge r) low high h = absurd (omega (arith, low))
free_of_races plans rank all none first wanted (Wildcard op) low high h = absurd (omega (arith, low))
free_of_races plans rank all none first wanted (DoubleChannel y x) low high h = absurd (omega (arith, low))
free_of_races plans rank all none first wanted (Unpaired op) low high h = absurd (omega (arith, low))
free_of_races plans rank all none first wanted (Lengths m x) low high h = absurd (omega (arith, low))
free_of_races plans rank all none first wanted (Race r lower higher slot) low high h =
    let a : RaceAt = record { rank = r; first = lower; second = higher; slot = slot } in
    let inside : r < length plans = touching_rank plans (first_of a) slot h.holds.first_touches in
    none a (omega (arith, inside)) h.holds
free_of_races plans rank all none first wanted (Stalls op) low high h = absurd (omega (arith, high))
free_of_races plans rank all none first wanted (Weight total) low high h = absurd (omega (arith, high))
free_of_races plans rank all none first wanted (Wrong r slot) low high h = absurd (omega (arith, high))
free_of_races plans rank all none first wanted NoMemory low high h = absurd (omega (arith, high))

-- what is known of a rank of a small schedule
module _ (plans : List Plan) (rank : ℕ) (small : IsSmall plans) (inside : rank < length plans) (p : Plan) (read : p ≡ get_or plans rank p) where
  plan_is_at_rank : slice_get plans rank ≡ Some p
  plan_is_at_rank = slice_get_read plans (length plans) rank p refl inside read

  pub few_operations : length (ops_at plans rank) ≤ certified_op_limit
  few_operations =
      let few : length p.ops ≤ certified_op_limit = subst (λ (q : Plan). length q.ops ≤ certified_op_limit) (sym read) (small.operations rank p inside) in
      omega (arith, ap length (ops_at_some plans rank p plan_is_at_rank), few)

  pub known_touches : (touches : List Touch) → touches ≡ flat_map (touches_of p.ops) p.notes → AreTouches plans rank touches
  known_touches touches e =
      subst (AreTouches plans rank) (sym e) (are_touches plans rank p plan_is_at_rank (subst (λ (q : Plan). All NamesLowSlots q.notes) (sym read) (small.slots rank p inside)))

  pub low_ops : (touches : List Touch) → AreTouches plans rank touches → All (λ (t : Touch). t.op < certified_op_limit) touches
  low_ops touches known k d within =
      omega (arith, few_operations, known.op_below (get_or touches k d) (Contains-get_or touches k d within))

  pub low_slots : (touches : List Touch) → AreTouches plans rank touches → All (λ (t : Touch). t.slot ≤ slot_limit) touches
  low_slots touches known k d within =
      omega (arith, known.slot_low (get_or touches k d) (Contains-get_or touches k d within))
