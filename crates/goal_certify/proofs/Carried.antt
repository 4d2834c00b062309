-- What is under way after another action.
use Rattle.std.proofs.Common.{◌≡◌, ◌≢◌, ◌==◌, ◌&&◌, ◌+◌, ◌⊎◌, ℕ, Bool, true, false, not, if◌then◌else◌, List, [], ◌∷◌, map, set, length, Option, Some, None, slice_get, inl, inr, refl, sym, ap, ap₂, ◌∙◌, subst}
use Rattle.std.specs.List.{sum_by}
use Rattle.std.proofs.lemmas.Bool.{cases_Bool, cond-true, cond-false, and_left, both_ways, false_from_ne_true}
use Rattle.std.proofs.lemmas.Option.{same_Some}
use Rattle.goal_graph.specs.declared.action.OpId.{OpId}
use Rattle.goal_graph.specs.declared.action.Class.{Class}
use Rattle.goal_graph.specs.declared.action.Class.TheVariants.{Arrive, Serve, Data, Post, Begin}
use Rattle.goal_graph.specs.declared.plan.Kind.{Kind}
use Rattle.goal_graph.specs.declared.plan.Kind.TheVariants.{Calc, Send, Recv}
use Rattle.goal_graph.specs.Schedule.{Plan, operations, IsSend}
use Rattle.goal_graph.specs.Action.{Act, place, same_op, is_act, happened}
use Rattle.goal_graph.specs.Matching.{pairs, partner}
use Rattle.goal_graph.specs.Allowed.{is_served, allowed}
use Rattle.std.proofs.lemmas.List.Sums.{sum_by-cons}
use Rattle.std.proofs.lemmas.List.{length-map}
use Rattle.goal_graph.specs.Interleaving.{IsInterleaving}
use Rattle.goal_graph.proofs.ForCallers.{value_of_is_some, happened_newest, happened_unless_newest, is_act_class, is_act_op, same_op_true, same_op_itself, same_op_from, happened_none, partner_stays, partners_mutual, data_paired, served_message, allowed_data, allowed_serve, allowed_fresh, same_tables, written_table, operations_at_two_places_differ}
use Rattle.goal_blocks.specs.Walk.{no_send}
use Rattle.goal_blocks.specs.Slots.{slots}
use Rattle.goal_blocks.specs.Values.{Value, Store, Held, change, read, held_after}
use Rattle.goal_blocks.specs.Weight.{carried, has_received, is_under_way}
use Rattle.goal_certify.specs.Carried.{ParcelValues, parcel_size, parcel_of, parcel_under_way}

-- what a send has read stays, except at its Data
payload_kept_unless_handed_over : (plans : List Plan) (o : Option OpId) (c : Class) (x m : OpId) (k : Option Kind) (held : Held) → ((place c == 2) ≡ false) ⊎ (same_op m x ≡ false) → (change plans no_send o c x k held).payload m ≡ held.payload m
unfolding read
payload_kept_unless_handed_over plans o Data x m (Some (Send bytes to tag)) held (inl f) = absurd (both_ways _ f refl)
payload_kept_unless_handed_over plans o Data x m (Some (Send bytes to tag)) held (inr f) = cond-false (same_op m x) _ _ f
payload_kept_unless_handed_over plans o Data x m (Some (Calc nanos)) held d = refl
payload_kept_unless_handed_over plans o Data x m (Some (Recv room from tag)) held d = refl
payload_kept_unless_handed_over plans o Data x m None held d = refl
payload_kept_unless_handed_over plans o Begin x m (Some (Send bytes to tag)) held d = refl
payload_kept_unless_handed_over plans o Begin x m (Some (Calc nanos)) held d = refl
payload_kept_unless_handed_over plans o Begin x m (Some (Recv room from tag)) held d = refl
payload_kept_unless_handed_over plans o Begin x m None held d = refl
payload_kept_unless_handed_over plans o Serve x m (Some (Send bytes to tag)) held d = refl
payload_kept_unless_handed_over plans o Serve x m (Some (Calc nanos)) held d = refl
payload_kept_unless_handed_over plans o Serve x m (Some (Recv room from tag)) held d = refl
payload_kept_unless_handed_over plans o Serve x m None held d = refl
payload_kept_unless_handed_over plans o Post x m k held d = refl
payload_kept_unless_handed_over plans o Arrive x m k held d = refl

-- how many contributions all parcels have
sum_of_tables : {X Y : Type 0} (f : X → ℕ) (p : Y → ℕ) (g : X → Y) (xs : List X) → ((x : X) → f x ≡ p (g x)) → sum_by f xs ≡ sum_by p (map g xs)
sum_of_tables f p g [] same = refl
sum_of_tables f p g (x ∷ xs) same =
    sum_by-cons f x xs ∙ ap₂ (λ m n. m + n) (same x) (sum_of_tables f p g xs same) ∙ sym (sum_by-cons p (g x) (map g xs))

module _ (plans : List Plan) (h : List Act) (held : Held) where
  pub carried_kept : carried plans h held ≡ sum_by parcel_size (map (parcel_under_way plans h held) (operations plans))
  unfolding carried
  carried_kept = sum_of_tables _ parcel_size (parcel_under_way plans h held) (operations plans) (λ m. go (is_under_way plans h m) (held.payload m))
    where
      go : (b : Bool) (vs : List Value) → (if b then sum_by (λ (v : Value). length v) vs else 0) ≡ parcel_size (if b then Some (parcel_of vs) else None)
      go true vs = refl
      go false vs = refl

module _ (plans : List Plan) (first : Store) (h : List Act) (a : Act) (now : IsInterleaving plans no_send (a ∷ h)) where
  abbrev before : Held
  before = held_after plans no_send first h

  abbrev after : Held
  after = held_after plans no_send first (a ∷ h)

  abbrev kept_before : OpId → Option ParcelValues
  kept_before = parcel_under_way plans h before

  abbrev kept_after : OpId → Option ParcelValues
  kept_after = parcel_under_way plans (a ∷ h) after

  payload_before : (m : OpId) → ((place a.class == 2) ≡ false) ⊎ (same_op m a.op ≡ false) → after.payload m ≡ before.payload m
  unfolding held_after
  payload_before m d = payload_kept_unless_handed_over plans _ a.class a.op m _ before d

  received_same : (x : OpId) → is_act Serve x a ≡ false → happened Serve x (a ∷ h) ≡ happened Serve x h
  received_same x d = happened_unless_newest Serve x a h d

  -- a send that the action does not hand over, and whose receive it does not serve
  under_same : (m : OpId) → is_act Data m a ≡ false → ((x : OpId) → partner (pairs plans h) m ≡ Some x → is_act Serve x a ≡ false) → is_under_way plans (a ∷ h) m ≡ is_under_way plans h m
  under_same m d s = go (cases_Bool (happened Data m h))
    where
      data_same : happened Data m (a ∷ h) ≡ happened Data m h
      data_same = happened_unless_newest Data m a h d

      go : (happened Data m h ≡ true) ⊎ (happened Data m h ≡ false) → is_under_way plans (a ∷ h) m ≡ is_under_way plans h m
      go (inr f) =
          ap (λ b. b && not (has_received (a ∷ h) (partner (pairs plans (a ∷ h)) m))) (data_same ∙ f) ∙ sym (ap (λ b. b && not (has_received h (partner (pairs plans h) m))) f)
      go (inl t) =
          let x = value_of_is_some (partner (pairs plans h) m) (data_paired plans no_send h m now.0 t) in
          let stays = partner_stays plans a h m x.0 x.1 in
          let received_then : has_received (a ∷ h) (partner (pairs plans (a ∷ h)) m) ≡ happened Serve x.0 (a ∷ h) = ap (has_received (a ∷ h)) stays in
          let was : has_received h (partner (pairs plans h) m) ≡ happened Serve x.0 h = ap (has_received h) x.1 in
          ap₂ (λ b c. b && not c) data_same (received_then ∙ received_same x.0 (s x.0 x.1) ∙ sym was)

  parcel_stays : (m : OpId) → is_act Data m a ≡ false → ((place a.class == 2) ≡ false) ⊎ (same_op m a.op ≡ false) → ((x : OpId) → partner (pairs plans h) m ≡ Some x → is_act Serve x a ≡ false) → kept_after m ≡ kept_before m
  parcel_stays m d p s =
      ap₂ (λ b vs. if b then Some (parcel_of vs) else None) (under_same m d s) (payload_before m p)

  not_class : (c : Class) (x : OpId) → (place a.class == place c) ≡ false → is_act c x a ≡ false
  not_class c x e = and_left (place a.class == place c) (same_op a.op x) e

  -- any other action changes nothing
  pub parcels_stay_unless_data_or_serve : (place a.class == 2) ≡ false → (place a.class == 1) ≡ false → map kept_after (operations plans) ≡ map kept_before (operations plans)
  parcels_stay_unless_data_or_serve d s =
      same_tables _ _ (operations plans) (λ i m e. parcel_stays m (not_class Data m d) (inl d) (λ x p. not_class Serve x s))

  -- a send hands over its values
  module _ (class : a.class ≡ Data) where
    data_fresh : happened Data a.op h ≡ false
    data_fresh =
        subst (λ (c : Class). happened c a.op h ≡ false) class (allowed_fresh plans no_send h a.class a.op now.1)

    data_now : happened Data a.op (a ∷ h) ≡ true
    data_now = subst (λ (c : Class). happened c a.op (a ∷ h) ≡ true) class (happened_newest a h)

    data_pair : (x : OpId) × (partner (pairs plans h) a.op ≡ Some x)
    data_pair =
        value_of_is_some (partner (pairs plans h) a.op) (allowed_data plans no_send h a.op (subst (λ (c : Class). allowed plans no_send h c a.op ≡ true) class now.1)).2

    not_served : (place a.class == 1) ≡ false
    not_served = ap (λ (c : Class). place c == 1) class

    -- its receive has not taken it
    unserved : (x : OpId) → partner (pairs plans h) a.op ≡ Some x → happened Serve x h ≡ false
    unserved x p = false_from_ne_true _ (λ t. both_ways _ data_fresh (there t))
      where
        there : happened Serve x h ≡ true → happened Data a.op h ≡ true
        there t =
            let twin = partners_mutual plans no_send h a.op x now.0 p in
            subst (λ (o : Option OpId). is_served plans no_send h o ≡ true) twin (served_message plans no_send h x now.0 t)

    pub handed_before : kept_before a.op ≡ None
    handed_before =
        cond-false _ _ _ (ap (λ b. b && not (has_received h (partner (pairs plans h) a.op))) data_fresh)

    under_now : is_under_way plans (a ∷ h) a.op ≡ true
    under_now =
        let stays = partner_stays plans a h a.op data_pair.0 data_pair.1 in
        let received : has_received (a ∷ h) (partner (pairs plans (a ∷ h)) a.op) ≡ false = ap (has_received (a ∷ h)) stays ∙ received_same data_pair.0 (not_class Serve data_pair.0 not_served) ∙ unserved data_pair.0 data_pair.1 in
        ap₂ (λ b c. b && not c) data_now received

    payload_now : IsSend plans a.op → after.payload a.op ≡ map (before.store a.op.rank) (slots plans a.op)
    unfolding held_after read
    payload_now k =
        ap₂ (λ (c : Class) (o : Option Kind). (change plans no_send (partner (pairs plans h) a.op) c a.op o before).payload a.op) class k.kind ∙ cond-true (same_op a.op a.op) _ _ (same_op_itself a.op)

    transferring_op_is_send : IsSend plans a.op
    transferring_op_is_send = (allowed_data plans no_send h a.op (subst (λ (c : Class). allowed plans no_send h c a.op ≡ true) class now.1)).0

    pub handed_now : kept_after a.op ≡ Some (parcel_of (map (before.store a.op.rank) (slots plans a.op)))
    handed_now =
        cond-true _ _ _ under_now ∙ ap (λ vs. Some (parcel_of vs)) (payload_now transferring_op_is_send)

    pub kept_handed : (j : ℕ) → slice_get (operations plans) j ≡ Some a.op → set (map kept_before (operations plans)) j (kept_after a.op) ≡ map kept_after (operations plans)
    kept_handed j e =
        written_table kept_before kept_after (operations plans) j a.op e (λ i m s d. sym (others m (operations_at_two_places_differ plans i j m a.op s e d)))
      where
        others : (m : OpId) → m ≢ a.op → kept_after m ≡ kept_before m
        others m n =
            let apart : same_op m a.op ≡ false = false_from_ne_true _ (λ t. n (same_op_true m a.op t)) in
            let not_act : is_act Data m a ≡ false = false_from_ne_true _ (λ t. n (sym (is_act_op Data m a t))) in
            parcel_stays m not_act (inr apart) (λ x p. not_class Serve x not_served)

  -- a receive takes the values of its send
  module _ (class : a.class ≡ Serve) where
    serve_fresh : happened Serve a.op h ≡ false
    serve_fresh =
        subst (λ (c : Class). happened c a.op h ≡ false) class (allowed_fresh plans no_send h a.class a.op now.1)

    serve_now : happened Serve a.op (a ∷ h) ≡ true
    serve_now = subst (λ (c : Class). happened c a.op (a ∷ h) ≡ true) class (happened_newest a h)

    not_data : (place a.class == 2) ≡ false
    not_data = ap (λ (c : Class). place c == 2) class

    partner_of_serve_is_served : is_served plans no_send h (partner (pairs plans h) a.op) ≡ true
    partner_of_serve_is_served =
        (allowed_serve plans no_send h a.op (subst (λ (c : Class). allowed plans no_send h c a.op ≡ true) class now.1)).1

    module _ (m : OpId) (pair : partner (pairs plans h) a.op ≡ Some m) where
      back : partner (pairs plans h) m ≡ Some a.op
      back = partners_mutual plans no_send h a.op m now.0 pair

      data_there : happened Data m h ≡ true
      data_there = subst (λ (o : Option OpId). is_served plans no_send h o ≡ true) pair partner_of_serve_is_served

      pub taken_before : kept_before m ≡ Some (parcel_of (before.payload m))
      taken_before =
          cond-true _ _ _ (ap₂ (λ b c. b && not c) data_there (ap (has_received h) back ∙ serve_fresh))

      pub taken_now : kept_after m ≡ None
      taken_now =
          let received : has_received (a ∷ h) (partner (pairs plans (a ∷ h)) m) ≡ true = ap (has_received (a ∷ h)) (partner_stays plans a h m a.op back) ∙ serve_now in
          let still = happened_unless_newest Data m a h (not_class Data m not_data) ∙ data_there in
          cond-false _ _ _ (ap₂ (λ b c. b && not c) still received)

      pub kept_taken : (j : ℕ) → slice_get (operations plans) j ≡ Some m → set (map kept_before (operations plans)) j (kept_after m) ≡ map kept_after (operations plans)
      kept_taken j e =
          written_table kept_before kept_after (operations plans) j m e (λ i y s d. sym (others y (operations_at_two_places_differ plans i j y m s e d)))
        where
          others : (y : OpId) → y ≢ m → kept_after y ≡ kept_before y
          others y n =
              parcel_stays y (not_class Data y not_data) (inl not_data) (λ x p. false_from_ne_true _ (λ t. n (same y x p (is_act_op Serve x a t))))
            where
              same : (y x : OpId) → partner (pairs plans h) y ≡ Some x → a.op ≡ x → y ≡ m
              same y x p o =
                  same_Some y m (sym (partners_mutual plans no_send h y x now.0 p) ∙ ap (partner (pairs plans h)) (sym o) ∙ pair)

handed_length : (plans : List Plan) (first : Store) (h : List Act) (a : Act) (now : IsInterleaving plans no_send (a ∷ h)) → a.class ≡ Data → length ((held_after plans no_send first (a ∷ h)).payload a.op) ≡ length (slots plans a.op)
handed_length plans first h a now class =
    ap length (payload_now plans first h a now class (transferring_op_is_send plans first h a now class)) ∙ length-map (slots plans a.op) ((held_after plans no_send first h).store a.op.rank)

payload_length_after_action : (plans : List Plan) (first : Store) (m : OpId) (h : List Act) (a : Act) (now : IsInterleaving plans no_send (a ∷ h)) → happened Data m (a ∷ h) ≡ true → (happened Data m h ≡ true → length ((held_after plans no_send first h).payload m) ≡ length (slots plans m)) → length ((held_after plans no_send first (a ∷ h)).payload m) ≡ length (slots plans m)
payload_length_after_action plans first m h a now e was = go (cases_Bool (is_act Data m a))
  where
    here : is_act Data m a ≡ true → length ((held_after plans no_send first (a ∷ h)).payload m) ≡ length (slots plans m)
    here t =
        subst (λ (x : OpId). length ((held_after plans no_send first (a ∷ h)).payload x) ≡ length (slots plans x)) (is_act_op Data m a t) (handed_length plans first h a now (is_act_class Data m a t))

    not_other : is_act Data m a ≡ false → ((place a.class == 2) ≡ false) ⊎ (same_op m a.op ≡ false)
    not_other f = elim (cases_Bool (place a.class == 2)) [ inr off ↦ inl off | inl on ↦ inr (false_from_ne_true _ (λ t. both_ways _ f (ap₂ (λ b c. b && c) on (same_op_from a.op m (sym (same_op_true m a.op t)))))) ]

    go : (is_act Data m a ≡ true) ⊎ (is_act Data m a ≡ false) → length ((held_after plans no_send first (a ∷ h)).payload m) ≡ length (slots plans m)
    go (inl t) = here t
    go (inr f) = ap length (payload_before plans first h a now m (not_other f)) ∙ was (sym (happened_unless_newest Data m a h f) ∙ e)

-- what a send has read has as many values as it has slots
pub payload_length : (plans : List Plan) (first : Store) (m : OpId) (h : List Act) → IsInterleaving plans no_send h → happened Data m h ≡ true → length ((held_after plans no_send first h).payload m) ≡ length (slots plans m)
payload_length plans first m [] now e = absurd (both_ways _ (happened_none Data m) e)
payload_length plans first m (a ∷ h) now e =
    payload_length_after_action plans first m h a now e (λ f. payload_length plans first m h now.0 f)
