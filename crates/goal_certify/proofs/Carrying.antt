-- Which values are held after another action, and when they are too many.
use Rattle.std.proofs.Common.{All, ◌≡◌, ◌==◌, ◌+◌, ◌^◌, ◌<◌, ◌≤◌, ℕ, false, List, [], ◌∷◌, map, set, get_or, length, take, Option, Some, None, slice_get, inl, inr, refl, sym, ap, ap₂, ◌∙◌, subst, arith}
use Rattle.std.specs.List.{sum_by}
use Rattle.std.proofs.lemmas.List.{take_all}
use Rattle.std.proofs.lemmas.List.Sums.{sum_by-set}
use Rattle.goal_limits.specs.Limits.{weight_limit}
use Rattle.goal_graph.specs.declared.action.OpId.{OpId}
use Rattle.goal_graph.specs.declared.action.Class.{Class}
use Rattle.goal_graph.specs.declared.action.Class.TheVariants.{Arrive, Serve, Data, Post, Begin}
use Rattle.goal_graph.specs.declared.plan.Kind.{Kind}
use Rattle.goal_graph.specs.declared.plan.Kind.TheVariants.{Calc, Send}
use Rattle.goal_graph.specs.Schedule.{Plan, kind_at, operations, IsSend, IsReceive}
use Rattle.goal_graph.specs.Action.{Act, place}
use Rattle.goal_graph.specs.Matching.{pairs, partner}
use Rattle.goal_graph.specs.Interleaving.{IsInterleaving}
use Rattle.goal_graph.specs.Laws.{IsCalc}
use Rattle.goal_blocks.specs.Walk.{no_send}
use Rattle.goal_blocks.specs.Slots.{slots, adds}
use Rattle.goal_blocks.specs.Values.{Value, Store, Held, change, read, add_all, write, payload_from, held_after}
use Rattle.goal_blocks.specs.Weight.{stored, carried, weight, weight_within}
use Rattle.goal_blocks.specs.Certification.{AddsAreLight, IsLight}
use Rattle.goal_blocks.specs.Faults.{IsTooHeavy, AddsTooMuch, IsFirstTooHeavy}
use Rattle.goal_values.specs.Kept.{Kept, values}
use Rattle.goal_certify.specs.Carried.{ParcelValues, size_of, parcel_size, parcel_of, parcel_under_way, IsCarrying, AddsOver, AddsWithin}
use Rattle.goal_certify.proofs.Carried.{carried_kept, parcels_stay_unless_data_or_serve, handed_before, handed_now, kept_handed, taken_before, taken_now, kept_taken}
use Rattle.goal_certify.proofs.SlotFacts.{IsLow, stored_write}
use Rattle.goal_graph.proofs.ForCallers.{get_or_mapped, index_in_table}

-- what is held, in its parts
pub weight_opened : (plans : List Plan) (h : List Act) (held : Held) → weight plans h held ≡ stored (length plans) held.store + carried plans h held
unfolding weight
weight_opened plans h held = refl

module _ (plans : List Plan) (first : Store) (h : List Act) (a : Act) (now : IsInterleaving plans no_send (a ∷ h)) where
  abbrev before : Held
  before = held_after plans no_send first h

  abbrev after : Held
  after = held_after plans no_send first (a ∷ h)

  -- the values of slots after the action
  pub store_calc : a.class ≡ Begin → (k : IsCalc plans a.op) → after.store ≡ add_all a.op.rank (adds plans a.op) before.store
  unfolding held_after
  store_calc c k =
      ap₂ (λ (d : Class) (o : Option Kind). (change plans no_send (partner (pairs plans h) a.op) d a.op o before).store) c k.kind

  pub store_receive : a.class ≡ Serve → (k : IsReceive plans a.op) → (m : OpId) → partner (pairs plans h) a.op ≡ Some m → after.store ≡ write a.op.rank (slots plans a.op) (before.payload m) before.store
  unfolding held_after
  store_receive c k m p =
      ap₂ (λ (d : Class) (o : Option Kind). (change plans no_send (partner (pairs plans h) a.op) d a.op o before).store) c k.kind ∙ ap (λ (o : Option OpId). write a.op.rank (slots plans a.op) (payload_from before o) before.store) p

  -- any action of a send leaves them, and the post of a receive
  pub store_send : (k : IsSend plans a.op) → after.store ≡ before.store
  unfolding held_after read
  store_send k =
      ap (λ (o : Option Kind). (change plans no_send (partner (pairs plans h) a.op) a.class a.op o before).store) k.kind ∙ go a.class
    where
      go : (c : Class) → (change plans no_send (partner (pairs plans h) a.op) c a.op (Some (Send k.bytes k.to k.tag)) before).store ≡ before.store
      go Begin = refl
      go Data = refl
      go Arrive = refl
      go Serve = refl
      go Post = refl

  pub store_post : a.class ≡ Post → after.store ≡ before.store
  unfolding held_after
  store_post c =
      ap (λ (d : Class). (change plans no_send (partner (pairs plans h) a.op) d a.op (kind_at plans a.op) before).store) c

  -- only calcs add
  pub send_adds : IsSend plans a.op → AddsAreLight plans h before a.op (kind_at plans a.op)
  send_adds k = subst (λ (o : Option Kind). AddsAreLight plans h before a.op o) (sym k.kind) tt

  pub receive_adds : IsReceive plans a.op → AddsAreLight plans h before a.op (kind_at plans a.op)
  receive_adds k = subst (λ (o : Option Kind). AddsAreLight plans h before a.op o) (sym k.kind) tt

  module _ (s : Kept) (parcels : List (Option ParcelValues)) (count : ℕ) (so_far : IsCarrying plans first h s parcels count) where
    -- after n notes of a calc
    within_is : (n : ℕ) → weight_within plans h before a.op n ≡ stored s.ranks (add_all a.op.rank (take n (adds plans a.op)) (values s)) + count
    unfolding weight_within
    within_is n =
        ap₂ (λ m k. m + k) (ap₂ (λ (r : ℕ) (t : Store). stored r (add_all a.op.rank (take n (adds plans a.op)) t)) (sym so_far.ranks) (sym so_far.values_are)) (sym so_far.counted)

    pub calc_adds : IsCalc plans a.op → AddsWithin s.ranks a.op.rank (adds plans a.op) (values s) count → AddsAreLight plans h before a.op (kind_at plans a.op)
    calc_adds k within =
        subst (λ (o : Option Kind). AddsAreLight plans h before a.op o) (sym k.kind) (λ n. omega (arith, within_is n, within n))

    pub calc_over : IsCalc plans a.op → (total : ℕ) → AddsOver s.ranks a.op.rank (adds plans a.op) (values s) count total → IsFirstTooHeavy plans first (a ∷ h) total
    calc_over k total over = inr (so_far.light, inl (subst (λ (o : Option Kind). AddsTooMuch plans h before a.op o total) (sym k.kind) much))
      where
        much : AddsTooMuch plans h before a.op (Some (Calc k.nanos)) total
        much =
            (over.0, within_is over.0 ∙ over.1, over.2, λ j l. omega (arith, within_is j, over.3 j l))

    -- what is held after the action
    weight_is : (t : Store) (ranks total : ℕ) → t ≡ after.store → ranks ≡ s.ranks → total ≡ carried plans (a ∷ h) after → weight plans (a ∷ h) after ≡ stored ranks t + total
    unfolding weight
    weight_is t ranks total e r c =
        ap₂ (λ m k. m + k) (ap₂ (λ (n : ℕ) (u : Store). stored n u) (sym (r ∙ so_far.ranks)) (sym e)) (sym c)

    count_is : (new_parcels : List (Option ParcelValues)) (total : ℕ) → new_parcels ≡ map (parcel_under_way plans (a ∷ h) after) (operations plans) → sum_by parcel_size new_parcels ≡ total → total ≡ carried plans (a ∷ h) after
    count_is new_parcels total are sum =
        sym sum ∙ ap (sum_by parcel_size) are ∙ sym (carried_kept plans (a ∷ h) after)

    pub carrying_after : (t : Kept) (new_parcels : List (Option ParcelValues)) (total : ℕ) → values t ≡ after.store → t.ranks ≡ s.ranks → new_parcels ≡ map (parcel_under_way plans (a ∷ h) after) (operations plans) → sum_by parcel_size new_parcels ≡ total → AddsAreLight plans h before a.op (kind_at plans a.op) → stored t.ranks (values t) + total ≤ weight_limit → IsCarrying plans first (a ∷ h) t new_parcels total
    carrying_after t new_parcels total e r are sum adds_light few = record {
      values_are = e;
      ranks = r ∙ so_far.ranks;
      parcels_are = are;
      counted = count_is new_parcels total are sum;
      light = (so_far.light, adds_light, omega (arith, weight_is (values t) t.ranks total e r (count_is new_parcels total are sum), few));
    }

    -- too much after the action
    pub heavy_after : (new_parcels : List (Option ParcelValues)) (t : Store) (total more : ℕ) → t ≡ after.store → new_parcels ≡ map (parcel_under_way plans (a ∷ h) after) (operations plans) → sum_by parcel_size new_parcels ≡ more → AddsAreLight plans h before a.op (kind_at plans a.op) → stored s.ranks t + more ≡ total → IsTooHeavy total → IsFirstTooHeavy plans first (a ∷ h) total
    heavy_after new_parcels t total more e are sum adds_light is heavy =
        inr (so_far.light, inr (adds_light, weight_is t s.ranks more e refl (count_is new_parcels more are sum) ∙ is, heavy))

    sum_before : sum_by parcel_size parcels ≡ count
    sum_before =
        ap (sum_by parcel_size) so_far.parcels_are ∙ sym (carried_kept plans h before) ∙ sym so_far.counted

    -- what was held before the action
    pub held_before : stored s.ranks (values s) + count ≤ weight_limit
    held_before = go h so_far.light so_far.values_are so_far.counted
      where
        was : (g : List Act) → weight plans g (held_after plans no_send first g) ≤ weight_limit → values s ≡ (held_after plans no_send first g).store → count ≡ carried plans g (held_after plans no_send first g) → stored s.ranks (values s) + count ≤ weight_limit
        was g few e c =
            omega (arith, few, ap₂ (λ m k. m + k) (ap₂ (λ (n : ℕ) (u : Store). stored n u) so_far.ranks e) c, weight_opened plans g (held_after plans no_send first g))

        go : (g : List Act) → IsLight plans first g → values s ≡ (held_after plans no_send first g).store → count ≡ carried plans g (held_after plans no_send first g) → stored s.ranks (values s) + count ≤ weight_limit
        go [] light e c = was [] light e c
        go (b ∷ g) light e c = was (b ∷ g) light.2 e c

    -- an action that leaves all values
    pub carrying_same : (place a.class == 2) ≡ false → (place a.class == 1) ≡ false → after.store ≡ before.store → AddsAreLight plans h before a.op (kind_at plans a.op) → IsCarrying plans first (a ∷ h) s parcels count
    carrying_same d v e adds_light =
        carrying_after s parcels count (so_far.values_are ∙ sym e) refl (so_far.parcels_are ∙ sym (parcels_stay_unless_data_or_serve plans first h a now d v)) sum_before adds_light held_before

    -- a calc has added
    pub carrying_calc : a.class ≡ Begin → IsCalc plans a.op → (t : Kept) → values t ≡ add_all a.op.rank (adds plans a.op) (values s) → t.ranks ≡ s.ranks → AddsWithin s.ranks a.op.rank (adds plans a.op) (values s) count → IsCarrying plans first (a ∷ h) t parcels count
    carrying_calc c k t e r within =
        let d = ap (λ (b : Class). place b == 2) c in
        let v = ap (λ (b : Class). place b == 1) c in
        let added = e ∙ ap (λ (u : Store). add_all a.op.rank (adds plans a.op) u) so_far.values_are ∙ sym (store_calc c k) in
        let all : stored s.ranks (add_all a.op.rank (adds plans a.op) (values s)) + count ≤ weight_limit = subst (λ (items : List _). stored s.ranks (add_all a.op.rank items (values s)) + count ≤ weight_limit) (take_all (length (adds plans a.op)) (adds plans a.op) (omega arith)) (within (length (adds plans a.op))) in
        carrying_after t parcels count added r (so_far.parcels_are ∙ sym (parcels_stay_unless_data_or_serve plans first h a now d v)) sum_before (calc_adds k within) (omega (arith, all, ap (stored t.ranks) e, ap (λ (n : ℕ). stored n (add_all a.op.rank (adds plans a.op) (values s))) r))

    -- what is kept at the place of an operation
    read_parcel : (j : ℕ) (x : OpId) → slice_get (operations plans) j ≡ Some x → get_or parcels j None ≡ parcel_under_way plans h before x
    read_parcel j x at =
        ap (λ (ps : List (Option ParcelValues)). get_or ps j None) so_far.parcels_are ∙ get_or_mapped (parcel_under_way plans h before) (operations plans) j x None at

    pub parcel_within : (j : ℕ) (x : OpId) → slice_get (operations plans) j ≡ Some x → j < length parcels
    parcel_within j x at = index_in_table (parcel_under_way plans h before) (operations plans) j x parcels so_far.parcels_are at

    -- a send hands over its values
    module _ (c : a.class ≡ Data) (k : IsSend plans a.op) (j : ℕ) (at : slice_get (operations plans) j ≡ Some a.op) where
      abbrev pub read_now : List Value
      read_now = map (values s a.op.rank) (slots plans a.op)

      handed : set parcels j (Some (parcel_of read_now)) ≡ map (parcel_under_way plans (a ∷ h) after) (operations plans)
      handed =
          ap₂ (λ (ps : List (Option ParcelValues)) (o : Option ParcelValues). set ps j o) so_far.parcels_are (ap (λ (u : Store). Some (parcel_of (map (u a.op.rank) (slots plans a.op)))) so_far.values_are ∙ sym (handed_now plans first h a now c)) ∙ kept_handed plans first h a now c j at

      sum_handed : sum_by parcel_size (set parcels j (Some (parcel_of read_now))) ≡ count + size_of read_now
      sum_handed =
          omega (arith, sum_by-set parcel_size parcels j (Some (parcel_of read_now)) None (parcel_within j a.op at), ap parcel_size (read_parcel j a.op at ∙ handed_before plans first h a now c), sum_before)

      pub carrying_handed : (new_parcels : List (Option ParcelValues)) (total : ℕ) → new_parcels ≡ set parcels j (Some (parcel_of read_now)) → total ≡ count + size_of read_now → stored s.ranks (values s) + count + size_of read_now ≤ weight_limit → IsCarrying plans first (a ∷ h) s new_parcels total
      carrying_handed new_parcels total put sum few =
          carrying_after s new_parcels total (so_far.values_are ∙ sym (store_send k)) refl (put ∙ handed) (ap (sum_by parcel_size) put ∙ sum_handed ∙ sym sum) (send_adds k) (omega (arith, few, sum))

      pub transfer_over_limit_is_first_too_heavy : (total : ℕ) → stored s.ranks (values s) + count + size_of read_now ≡ total → IsTooHeavy total → IsFirstTooHeavy plans first (a ∷ h) total
      transfer_over_limit_is_first_too_heavy total is heavy =
          heavy_after (set parcels j (Some (parcel_of read_now))) (values s) total (count + size_of read_now) (so_far.values_are ∙ sym (store_send k)) handed sum_handed (send_adds k) (omega (arith, is)) heavy

    -- a receive takes them
    module _ (c : a.class ≡ Serve) (k : IsReceive plans a.op) (m : OpId) (pair : partner (pairs plans h) a.op ≡ Some m) (j : ℕ) (at : slice_get (operations plans) j ≡ Some m) where
      pub parcel_there : get_or parcels j None ≡ Some (parcel_of (before.payload m))
      parcel_there = read_parcel j m at ∙ taken_before plans first h a now c m pair

      taken : set parcels j None ≡ map (parcel_under_way plans (a ∷ h) after) (operations plans)
      taken =
          ap₂ (λ (ps : List (Option ParcelValues)) (o : Option ParcelValues). set ps j o) so_far.parcels_are (sym (taken_now plans first h a now c m pair)) ∙ kept_taken plans first h a now c m pair j at

      pub sum_taken : sum_by parcel_size (set parcels j None) + size_of (before.payload m) ≡ count
      sum_taken =
          omega (arith, sum_by-set parcel_size parcels j None None (parcel_within j m at), ap parcel_size parcel_there, sum_before)

      pub carrying_taken : (t : Kept) (new_parcels : List (Option ParcelValues)) (total : ℕ) → a.op.rank < s.ranks → All IsLow (slots plans a.op) → values t ≡ write a.op.rank (slots plans a.op) (before.payload m) (values s) → t.ranks ≡ s.ranks → new_parcels ≡ set parcels j None → total + size_of (before.payload m) ≡ count → IsCarrying plans first (a ∷ h) t new_parcels total
      carrying_taken t new_parcels total below low e r put sum =
          let most = stored_write s.ranks a.op.rank (slots plans a.op) (before.payload m) (values s) below low in
          let written = e ∙ ap (λ (u : Store). write a.op.rank (slots plans a.op) (before.payload m) u) so_far.values_are ∙ sym (store_receive c k m pair) in
          let counted : sum_by parcel_size new_parcels ≡ total = omega (arith, ap (sum_by parcel_size) put, sum_taken, sum) in
          carrying_after t new_parcels total written r (put ∙ taken) counted (receive_adds k) (omega (arith, most, held_before, sum, ap (stored t.ranks) e, ap (λ (n : ℕ). stored n (write a.op.rank (slots plans a.op) (before.payload m) (values s))) r))
