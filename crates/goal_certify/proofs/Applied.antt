-- What the newest action of a history has changed, said of the whole history.
use Rattle.std.proofs.Common.{All, ◌≡◌, ◌==◌, ◌+◌, ◌-◌, ◌^◌, ◌<◌, ◌≤◌, ℕ, true, false, List, ◌∷◌, drop, set, get_or, length, map, Option, Some, None, slice_get, Result, Ok, Err, IfErr, OnOk, inl, inr, refl, sym, ap, ◌∙◌, subst, arith}
use Rattle.goal_graph.specs.declared.action.OpId.{OpId}
use Rattle.goal_graph.specs.declared.action.Class.{Class}
use Rattle.goal_graph.specs.declared.action.Class.TheVariants.{Arrive, Post, Begin, Data, Serve}
use Rattle.goal_graph.specs.Schedule.{Plan, operations, IsSend, IsReceive}
use Rattle.goal_graph.specs.Action.{Act, place, happened}
use Rattle.goal_graph.specs.Allowed.{allowed, is_served}
use Rattle.goal_graph.specs.Fault.{IsOp}
use Rattle.goal_graph.specs.Interleaving.{IsInterleaving}
use Rattle.goal_graph.specs.Laws.{IsCalc}
use Rattle.goal_graph.proofs.ForCallers.{allowed_listed, allowed_arrive, allowed_post, allowed_data, allowed_serve, partner_stays, partner_of_receive}
use Rattle.goal_graph.specs.Matching.{pairs, partner}
use Rattle.std.proofs.lemmas.Bool.{both_ways}
use Rattle.std.proofs.lemmas.Option.{same_Some, slice_get-get_or}
use Rattle.goal_limits.specs.Limits.{weight_limit}
use Rattle.goal_blocks.specs.Channels.{HasNoWildcard}
use Rattle.goal_blocks.specs.Certification.{HasEqualLengths}
use Rattle.goal_blocks.proofs.ForCallers.{fits_channel}
use Rattle.goal_certify.proofs.Carried.{payload_length}
use Rattle.goal_certify.proofs.SlotFacts.{IsLow}
use Rattle.goal_blocks.specs.declared.cert_fault.CertFault.{CertFault}
use Rattle.goal_blocks.specs.Walk.{no_send}
use Rattle.goal_blocks.specs.Slots.{slots, adds}
use Rattle.goal_blocks.specs.Values.{Store, add_all, write, held_after}
use Rattle.goal_blocks.specs.Weight.{stored}
use Rattle.goal_blocks.specs.Faults.{IsTooHeavy, IsFirstTooHeavy}
use Rattle.goal_values.specs.Kept.{Kept, values}
use Rattle.goal_certify.specs.Carried.{ParcelValues, size_of, parcel_of, IsCarrying, IsOver, AddsOver, AddsWithin}
use Rattle.goal_certify.proofs.Places.{allowed_exists}
use Rattle.goal_certify.proofs.Carrying.{parcel_within, store_post, receive_adds, parcel_there, sum_taken, carrying_taken, held_before, carrying_calc, calc_over, carrying_same, carrying_handed, transfer_over_limit_is_first_too_heavy, store_send, send_adds}

-- of answers
pub on_ok_combined : {T E : Type 0} (P Q R : Type 0) (r : Result T E) → (P → Q → R) → OnOk r P → OnOk r Q → OnOk r R
on_ok_combined P Q R (Ok x) f p q = f p q
on_ok_combined P Q R (Err e) f p q = tt

pub err_map : {T E : Type 0} (P Q : E → Type 0) (r : Result T E) → ((e : E) → P e → Q e) → IfErr r P → IfErr r Q
err_map P Q (Ok x) f p = tt
err_map P Q (Err e) f p = f e p

pub over_map : (P Q : ℕ → Type 0) (fault : CertFault) → ((n : ℕ) → P n → Q n) → IsOver P fault → IsOver Q fault
over_map P Q fault f (inl e) = inl e
over_map P Q fault f (inr over) = inr (over.0, over.1, f over.0 over.2)

module _ (plans : List Plan) (hist : List Act) (a : Act) (newest : hist ≡ a ∷ drop 1 hist) (each : IsInterleaving plans no_send hist) where
  pub split_history_is_interleaving : IsInterleaving plans no_send (a ∷ drop 1 hist)
  split_history_is_interleaving = subst (λ (l : List Act). IsInterleaving plans no_send l) newest each

  pub op_of_newest_exists : IsOp plans a.op
  op_of_newest_exists = allowed_exists plans (drop 1 hist) a.class a.op split_history_is_interleaving.1

  pub slot_there : (j : ℕ) × (slice_get (operations plans) j ≡ Some a.op)
  slot_there =
      let listed = allowed_listed plans no_send (drop 1 hist) a.class a.op split_history_is_interleaving.1 in
      (listed.0, slice_get-get_or (operations plans) listed.0 a.op listed.1 ∙ ap Some listed.2)

  module _ (first : Store) (s : Kept) (parcels : List (Option ParcelValues)) (count : ℕ) (so_far : IsCarrying plans first (drop 1 hist) s parcels count) where
    pub light_before : stored s.ranks (values s) + count ≤ weight_limit
    light_before = held_before plans first (drop 1 hist) a split_history_is_interleaving s parcels count so_far

    -- each operation has a place among the parcels
    pub there_within : (j : ℕ) (x : OpId) → slice_get (operations plans) j ≡ Some x → j < length parcels
    there_within = parcel_within plans first (drop 1 hist) a split_history_is_interleaving s parcels count so_far

    whole : (t : Kept) (new_parcels : List (Option ParcelValues)) (total : ℕ) → IsCarrying plans first (a ∷ drop 1 hist) t new_parcels total → IsCarrying plans first hist t new_parcels total
    whole t new_parcels total = subst (λ (l : List Act). IsCarrying plans first l t new_parcels total) (sym newest)

    heavy : (total : ℕ) → IsFirstTooHeavy plans first (a ∷ drop 1 hist) total → IsFirstTooHeavy plans first hist total
    heavy total = subst (λ (l : List Act). IsFirstTooHeavy plans first l total) (sym newest)

    pub begun_calc : a.class ≡ Begin → IsCalc plans a.op → (t : Kept) → values t ≡ add_all a.op.rank (adds plans a.op) (values s) → t.ranks ≡ s.ranks → AddsWithin s.ranks a.op.rank (adds plans a.op) (values s) count → IsCarrying plans first hist t parcels count
    begun_calc c k t e r within =
        whole t parcels count (carrying_calc plans first (drop 1 hist) a split_history_is_interleaving s parcels count so_far c k t e r within)

    pub begun_over : IsCalc plans a.op → (total : ℕ) → AddsOver s.ranks a.op.rank (adds plans a.op) (values s) count total → IsFirstTooHeavy plans first hist total
    begun_over k total over = heavy total (calc_over plans first (drop 1 hist) a split_history_is_interleaving s parcels count so_far k total over)

    pub begun_send : a.class ≡ Begin → IsSend plans a.op → IsCarrying plans first hist s parcels count
    begun_send c k =
        whole s parcels count (carrying_same plans first (drop 1 hist) a split_history_is_interleaving s parcels count so_far (ap (λ (b : Class). place b == 2) c) (ap (λ (b : Class). place b == 1) c) (store_send plans first (drop 1 hist) a split_history_is_interleaving k) (send_adds plans first (drop 1 hist) a split_history_is_interleaving k))

    pub carrying_unchanged_by_arrive : a.class ≡ Arrive → IsCarrying plans first hist s parcels count
    carrying_unchanged_by_arrive c =
        let k = (allowed_arrive plans no_send (drop 1 hist) a.op (subst (λ (b : Class). allowed plans no_send (drop 1 hist) b a.op ≡ true) c split_history_is_interleaving.1)).0 in
        whole s parcels count (carrying_same plans first (drop 1 hist) a split_history_is_interleaving s parcels count so_far (ap (λ (b : Class). place b == 2) c) (ap (λ (b : Class). place b == 1) c) (store_send plans first (drop 1 hist) a split_history_is_interleaving k) (send_adds plans first (drop 1 hist) a split_history_is_interleaving k))

    pub carrying_unchanged_by_post : a.class ≡ Post → IsCarrying plans first hist s parcels count
    carrying_unchanged_by_post c =
        let k = (allowed_post plans no_send (drop 1 hist) a.op (subst (λ (b : Class). allowed plans no_send (drop 1 hist) b a.op ≡ true) c split_history_is_interleaving.1)).0 in
        whole s parcels count (carrying_same plans first (drop 1 hist) a split_history_is_interleaving s parcels count so_far (ap (λ (b : Class). place b == 2) c) (ap (λ (b : Class). place b == 1) c) (store_post plans first (drop 1 hist) a split_history_is_interleaving c) (receive_adds plans first (drop 1 hist) a split_history_is_interleaving k))

    module _ (c : a.class ≡ Data) (j : ℕ) (at : slice_get (operations plans) j ≡ Some a.op) where
      newest_transfer_is_of_send : IsSend plans a.op
      newest_transfer_is_of_send =
          (allowed_data plans no_send (drop 1 hist) a.op (subst (λ (b : Class). allowed plans no_send (drop 1 hist) b a.op ≡ true) c split_history_is_interleaving.1)).0

      pub sent : (p : ParcelValues) (new_parcels : List (Option ParcelValues)) (total : ℕ) → p ≡ parcel_of (map (values s a.op.rank) (slots plans a.op)) → new_parcels ≡ set parcels j (Some p) → total ≡ count + p.size → stored s.ranks (values s) + count + size_of (map (values s a.op.rank) (slots plans a.op)) ≤ weight_limit → IsCarrying plans first hist s new_parcels total
      sent p new_parcels total is put sum few =
          whole s new_parcels total (carrying_handed plans first (drop 1 hist) a split_history_is_interleaving s parcels count so_far c newest_transfer_is_of_send j at new_parcels total (put ∙ ap (λ (q : ParcelValues). set parcels j (Some q)) is) (sum ∙ ap (λ (q : ParcelValues). count + q.size) is) few)

      pub sent_over : (total : ℕ) → (stored s.ranks (values s) + count + size_of (map (values s a.op.rank) (slots plans a.op)) ≡ total) × IsTooHeavy total → IsFirstTooHeavy plans first hist total
      sent_over total is =
          heavy total (transfer_over_limit_is_first_too_heavy plans first (drop 1 hist) a split_history_is_interleaving s parcels count so_far c newest_transfer_is_of_send j at total is.0 is.1)

  -- the partner of a receive that takes its message
  module _ (c : a.class ≡ Serve) where
    receives : IsReceive plans a.op × (is_served plans no_send (drop 1 hist) (partner (pairs plans (drop 1 hist)) a.op) ≡ true)
    receives =
        allowed_serve plans no_send (drop 1 hist) a.op (subst (λ (b : Class). allowed plans no_send (drop 1 hist) b a.op ≡ true) c split_history_is_interleaving.1)

    pub serve_pair : (m : OpId) × (partner (pairs plans (drop 1 hist)) a.op ≡ Some m)
    serve_pair = go (partner (pairs plans (drop 1 hist)) a.op) refl receives.1
      where
        go : (o : Option OpId) → partner (pairs plans (drop 1 hist)) a.op ≡ o → is_served plans no_send (drop 1 hist) o ≡ true → (m : OpId) × (partner (pairs plans (drop 1 hist)) a.op ≡ Some m)
        go None e t = absurd (both_ways false refl t)
        go (Some m) e t = (m, e)

    pub partner_then : partner (pairs plans hist) a.op ≡ Some serve_pair.0
    partner_then =
        ap (λ (l : List Act). partner (pairs plans l) a.op) newest ∙ partner_stays plans a (drop 1 hist) a.op serve_pair.0 serve_pair.1

    pub pair_from : (m : OpId) → partner (pairs plans hist) a.op ≡ Some m → partner (pairs plans (drop 1 hist)) a.op ≡ Some m
    pair_from m e = serve_pair.1 ∙ sym partner_then ∙ e

    module _ (m : OpId) (pair : partner (pairs plans (drop 1 hist)) a.op ≡ Some m) where
      data_there : happened Data m (drop 1 hist) ≡ true
      data_there =
          subst (λ (o : Option OpId). is_served plans no_send (drop 1 hist) o ≡ true) pair receives.1

      pub as_many : HasNoWildcard plans → HasEqualLengths plans → (first : Store) → length (slots plans a.op) ≡ length ((held_after plans no_send first (drop 1 hist)).payload m)
      as_many known equal first =
          let met = partner_of_receive plans (drop 1 hist) a.op m receives.0 pair in
          sym (payload_length plans first m (drop 1 hist) split_history_is_interleaving.0 data_there ∙ equal m a.op (fits_channel plans a.op m known met.fit))

      module _ (first : Store) (s : Kept) (parcels : List (Option ParcelValues)) (count : ℕ) (so_far : IsCarrying plans first (drop 1 hist) s parcels count) (j : ℕ) (at : slice_get (operations plans) j ≡ Some m) where
        pub parcel_is : get_or parcels j None ≡ Some (parcel_of ((held_after plans no_send first (drop 1 hist)).payload m))
        parcel_is = parcel_there plans first (drop 1 hist) a split_history_is_interleaving s parcels count so_far c receives.0 m pair j at

        pub parcel_known : (p : ParcelValues) → get_or parcels j None ≡ Some p → p ≡ parcel_of ((held_after plans no_send first (drop 1 hist)).payload m)
        parcel_known p e = same_Some _ _ (sym e ∙ parcel_is)

        pub size_within : (p : ParcelValues) → get_or parcels j None ≡ Some p → p.size ≤ count
        size_within p e =
            omega (arith, sum_taken plans first (drop 1 hist) a split_history_is_interleaving s parcels count so_far c receives.0 m pair j at, ap (λ (q : ParcelValues). q.size) (parcel_known p e))

        pub size_told : (p : ParcelValues) → get_or parcels j None ≡ Some p → p.size ≡ size_of p.payload
        size_told p e =
            ap (λ (q : ParcelValues). q.size) (parcel_known p e) ∙ sym (ap (λ (q : ParcelValues). size_of q.payload) (parcel_known p e))

        pub received : (p : ParcelValues) → get_or parcels j None ≡ Some p → (t : Kept) (new_parcels : List (Option ParcelValues)) (total : ℕ) → a.op.rank < s.ranks → All IsLow (slots plans a.op) → values t ≡ write a.op.rank (slots plans a.op) p.payload (values s) → t.ranks ≡ s.ranks → new_parcels ≡ set parcels j None → total ≡ count - p.size → IsCarrying plans first hist t new_parcels total
        received p e t new_parcels total below low put r taken left =
            let is = parcel_known p e in
            let written = put ∙ ap (λ (q : ParcelValues). write a.op.rank (slots plans a.op) q.payload (values s)) is in
            subst (λ (l : List Act). IsCarrying plans first l t new_parcels total) (sym newest) (carrying_taken plans first (drop 1 hist) a split_history_is_interleaving s parcels count so_far c receives.0 m pair j at t new_parcels total below low written r taken (omega (arith, left, size_within p e, ap (λ (q : ParcelValues). q.size) is)))
