-- What an operation may do before the first action, and right after one of its own, and what its partner may do then.
use Rattle.std.proofs.Common.{◌≡◌, ◌==◌, ◌&&◌, true, false, not, List, [], ◌∷◌, Contains, length, drop, Option, Some, None, inl, inr, refl, sym, ap, ◌∙◌, subst, arith}
use Rattle.std.specs.List.{list_all}
use Rattle.std.proofs.lemmas.Bool.{both_ways, eqb-true, false_from_ne_true}
use Rattle.std.proofs.lemmas.Option.{same_Some}
use Rattle.goal_graph.specs.declared.action.OpId.{OpId}
use Rattle.goal_graph.specs.declared.action.Class.{Class}
use Rattle.goal_graph.specs.declared.action.Class.TheVariants.{Arrive, Serve, Data, Post, Begin}
use Rattle.goal_graph.specs.Schedule.{Plan, kind_at, needs, needed, IsSend, IsReceive}
use Rattle.goal_graph.specs.declared.plan.Need.{Need}
use Rattle.goal_graph.specs.declared.plan.When.{When}
use Rattle.goal_graph.specs.declared.plan.When.TheVariants.{AfterEnd, AfterStart}
use Rattle.goal_graph.specs.Fault.{IsOp}
use Rattle.goal_graph.specs.Action.{Act, happened}
use Rattle.goal_graph.specs.Matching.{pairs, partner, is_paired}
use Rattle.goal_graph.specs.Allowed.{first_class, last_class, is_met, is_ready, is_served}
use Rattle.goal_graph.specs.Interleaving.{IsInterleaving}
use Rattle.goal_graph.specs.Laws.{IsCalc}
use Rattle.goal_graph.proofs.ForCallers.{act_of, happened_cases, happened_none, happened_newest, happened_stays, is_act_class, is_some_from, value_of_is_some, contains_first, partner_stays, allowed_arrive, allowed_data, allowed_serve, allowed_post, allowed_begin, allowed_fresh, not_receive_calc, not_send_receive, fits_receive, fits_send, arrived_begun, data_paired, served_message, partner_is_receive, partner_of_receive, partners_met, partners_mutual, ready_need}
use Rattle.goal_blocks.specs.Walk.{no_send}
use Rattle.goal_certify.specs.WalkQueue.{may_act, moves_partner, IsIdle}
use Rattle.goal_certify.proofs.Choice.{calc_idle, send_idle, receive_idle, may_arrive_iff_fresh_and_begun, may_transfer_iff_fresh_and_paired, may_serve_iff_fresh_and_transferred, first_action_may_act_iff_fresh_and_ready}

-- what has happened may not happen again
happened_may_not_act : (plans : List Plan) (h : List Act) (c : Class) (x : OpId) → happened c x h ≡ true → may_act plans h c x ≡ false
happened_may_not_act plans h c x e = false_from_ne_true _ (λ t. both_ways _ (allowed_fresh plans no_send h c x t) e)

module _ (plans : List Plan) (rest : List Act) (x : OpId) where
  -- the action of that class of x is the newest
  abbrev after : Class → List Act
  after c = act_of c x ∷ rest

  before : (c d : Class) → happened d x rest ≡ true → may_act plans (after c) d x ≡ false
  before c d e = happened_may_not_act plans (after c) d x (happened_stays d x (act_of c x) rest e)

  newest_may_not_act : (c : Class) → may_act plans (after c) c x ≡ false
  newest_may_not_act c = happened_may_not_act plans (after c) c x (happened_newest (act_of c x) rest)

  calc_is_idle_after_begin : IsCalc plans x → IsIdle plans (after Begin) x
  calc_is_idle_after_begin k = calc_idle plans (after Begin) x k (newest_may_not_act Begin)

  begun_send : IsInterleaving plans no_send (after Begin) → IsSend plans x → may_act plans (after Begin) Arrive x ≡ true
  begun_send now k = may_arrive_iff_fresh_and_begun plans (after Begin) x k ∙ (λ i. not (not_yet i) && happened_newest (act_of Begin x) rest i)
    where
      not_yet : happened Arrive x (after Begin) ≡ false
      not_yet =
          false_from_ne_true _ (λ t. elim (happened_cases Arrive x (act_of Begin x) rest t) [ inl was ↦ both_ways _ (allowed_fresh plans no_send rest Begin x now.1) (arrived_begun plans no_send rest x now.0 was) | inr new ↦ other (is_act_class Arrive x (act_of Begin x) new) ])
        where
          other : Begin ≡ Arrive → ⊥
          other e = cc

  receive_never_begins : IsInterleaving plans no_send (after Begin) → IsReceive plans x → ⊥
  receive_never_begins now k =
      elim (allowed_begin plans no_send rest x now.1).0 [ inl calc ↦ not_receive_calc plans x k calc | inr send ↦ not_send_receive plans x send k ]

  only_sends_arrive : IsInterleaving plans no_send (after Arrive) → IsSend plans x
  only_sends_arrive now = (allowed_arrive plans no_send rest x now.1).0

  unpaired_send_is_idle_after_arrive : IsInterleaving plans no_send (after Arrive) → may_act plans (after Arrive) Data x ≡ false → IsIdle plans (after Arrive) x
  unpaired_send_is_idle_after_arrive now unpaired =
      let a = allowed_arrive plans no_send rest x now.1 in
      send_idle plans (after Arrive) x a.0 (before Arrive Begin a.1) (newest_may_not_act Arrive) unpaired

  send_is_idle_after_transfer : IsInterleaving plans no_send (after Data) → IsIdle plans (after Data) x
  send_is_idle_after_transfer now =
      let d = allowed_data plans no_send rest x now.1 in
      let y = value_of_is_some (partner (pairs plans rest) x) d.2 in
      let came : happened Arrive x rest ≡ true = elim (partners_met plans rest x y.0 y.1) [ inl met ↦ met.arrived | inr met ↦ absurd (not_send_receive plans x d.0 (fits_receive plans x y.0 met.fit)) ] in
      send_idle plans (after Data) x d.0 (before Data Begin (arrived_begun plans no_send rest x now.0 came)) (before Data Arrive came) (newest_may_not_act Data)

  receive_is_idle_after_serve : IsInterleaving plans no_send (after Serve) → IsIdle plans (after Serve) x
  receive_is_idle_after_serve now =
      let s = allowed_serve plans no_send rest x now.1 in
      receive_idle plans (after Serve) x s.0 (before Serve Post (go (partner (pairs plans rest) x) refl s.0 s.1)) (newest_may_not_act Serve)
    where
      go : (o : Option OpId) → partner (pairs plans rest) x ≡ o → IsReceive plans x → is_served plans no_send rest o ≡ true → happened Post x rest ≡ true
      go None e k t = absurd (both_ways false refl t)
      go (Some m) e k t = (partner_of_receive plans rest x m k e).posted

  -- what is posted now has no partner that had transferred its data before
  partner_at_post_has_not_transferred : IsInterleaving plans no_send (after Post) → (m : OpId) → partner (pairs plans (after Post)) x ≡ Some m → happened Data m (after Post) ≡ true → ⊥
  partner_at_post_has_not_transferred now m f t =
      elim (happened_cases Data m (act_of Post x) rest t) [ inl was ↦ early was | inr new ↦ other (is_act_class Data m (act_of Post x) new) ]
    where
      other : Post ≡ Data → ⊥
      other e = cc

      early : happened Data m rest ≡ true → ⊥
      early was =
          let y = value_of_is_some (partner (pairs plans rest) m) (data_paired plans no_send rest m now.0 was) in
          let same : y.0 ≡ x = same_Some y.0 x (sym (partner_stays plans (act_of Post x) rest m y.0 y.1) ∙ partners_mutual plans no_send (after Post) x m now f) in
          let there = partners_mutual plans no_send rest m x now.0 (y.1 ∙ ap Some same) in
          both_ways _ (allowed_fresh plans no_send rest Post x now.1) (partner_of_receive plans rest x m (allowed_post plans no_send rest x now.1).0 there).posted

  receive_is_idle_after_post : IsInterleaving plans no_send (after Post) → IsIdle plans (after Post) x
  receive_is_idle_after_post now =
      receive_idle plans (after Post) x (allowed_post plans no_send rest x now.1).0 (newest_may_not_act Post) (false_from_ne_true _ (λ t. go (partner (pairs plans (after Post)) x) refl (allowed_serve plans no_send (after Post) x t).1))
    where
      go : (o : Option OpId) → partner (pairs plans (after Post)) x ≡ o → is_served plans no_send (after Post) o ≡ true → ⊥
      go None f t = both_ways false refl t
      go (Some m) f t = partner_at_post_has_not_transferred now m f t

  -- the partner of a receive that is posted now transfers its data
  partner_may_transfer_after_post : IsInterleaving plans no_send (after Post) → (y : OpId) → partner (pairs plans (after Post)) x ≡ Some y → may_act plans (after Post) Data y ≡ true
  partner_may_transfer_after_post now y e =
      let met = partner_of_receive plans (after Post) x y (allowed_post plans no_send rest x now.1).0 e in
      let fresh : happened Data y (after Post) ≡ false = false_from_ne_true _ (partner_at_post_has_not_transferred now y e) in
      let taken = is_some_from (partner (pairs plans (after Post)) y) x (partners_mutual plans no_send (after Post) x y now e) in
      may_transfer_iff_fresh_and_paired plans (after Post) y (fits_send plans x y met.fit) ∙ (λ i. not (fresh i) && taken i)

  -- the partner of a send that transfers its data now takes them
  partner_may_serve : IsInterleaving plans no_send (after Data) → (y : OpId) → partner (pairs plans (after Data)) x ≡ Some y → may_act plans (after Data) Serve y ≡ true
  partner_may_serve now y e =
      let k = partner_is_receive plans (after Data) x y (allowed_data plans no_send rest x now.1).0 e in
      may_serve_iff_fresh_and_transferred plans (after Data) y k x back ∙ (λ i. not (fresh i) && happened_newest (act_of Data x) rest i)
    where
      back : partner (pairs plans (after Data)) y ≡ Some x
      back = partners_mutual plans no_send (after Data) x y now e

      other : Data ≡ Serve → ⊥
      other e = cc

      go : (o : Option OpId) → partner (pairs plans rest) y ≡ o → is_served plans no_send rest o ≡ true → ⊥
      go None f t = both_ways false refl t
      go (Some m) f t =
          let same : m ≡ x = same_Some m x (sym (partner_stays plans (act_of Data x) rest y m f) ∙ back) in
          both_ways _ (allowed_fresh plans no_send rest Data x now.1) (subst (λ (z : OpId). happened Data z rest ≡ true) same t)

      fresh : happened Serve y (after Data) ≡ false
      fresh =
          false_from_ne_true _ (λ t. elim (happened_cases Serve y (act_of Data x) rest t) [ inl was ↦ go (partner (pairs plans rest) y) refl (served_message plans no_send rest y now.0 was) | inr new ↦ other (is_act_class Serve y (act_of Data x) new) ])

-- the same of what has happened, where the action is the newest
module _ (plans : List Plan) (h : List Act) (x : OpId) (now : IsInterleaving plans no_send h) where
  abbrev IsNewest : Class → Type 0
  IsNewest c = h ≡ act_of c x ∷ drop 1 h

  module _ (c : Class) (newest : IsNewest c) where
    now_after : IsInterleaving plans no_send (act_of c x ∷ drop 1 h)
    now_after = subst (IsInterleaving plans no_send) newest now

    back : IsIdle plans (act_of c x ∷ drop 1 h) x → IsIdle plans h x
    back idle = subst (λ (l : List Act). IsIdle plans l x) (sym newest) idle

  pub idle_begun : IsNewest Begin → IsCalc plans x → IsIdle plans h x
  idle_begun e k = back Begin e (calc_is_idle_after_begin plans (drop 1 h) x k)

  pub arrives_next : IsNewest Begin → IsSend plans x → may_act plans h Arrive x ≡ true
  arrives_next e k =
      subst (λ (l : List Act). may_act plans l Arrive x ≡ true) (sym e) (begun_send plans (drop 1 h) x (now_after Begin e) k)

  pub newest_begin_is_not_of_receive : IsNewest Begin → IsReceive plans x → ⊥
  newest_begin_is_not_of_receive e k = receive_never_begins plans (drop 1 h) x (now_after Begin e) k

  pub newest_arrive_is_of_send : IsNewest Arrive → IsSend plans x
  newest_arrive_is_of_send e = only_sends_arrive plans (drop 1 h) x (now_after Arrive e)

  pub idle_arrived : IsNewest Arrive → may_act plans h Data x ≡ false → IsIdle plans h x
  idle_arrived e f =
      back Arrive e (unpaired_send_is_idle_after_arrive plans (drop 1 h) x (now_after Arrive e) (subst (λ (l : List Act). may_act plans l Data x ≡ false) e f))

  pub idle_handed_over : IsNewest Data → IsIdle plans h x
  idle_handed_over e = back Data e (send_is_idle_after_transfer plans (drop 1 h) x (now_after Data e))

  pub idle_served : IsNewest Serve → IsIdle plans h x
  idle_served e = back Serve e (receive_is_idle_after_serve plans (drop 1 h) x (now_after Serve e))

  pub idle_posted : IsNewest Post → IsIdle plans h x
  idle_posted e = back Post e (receive_is_idle_after_post plans (drop 1 h) x (now_after Post e))

  -- the partner that the action moves may act
  pub partner_acts : (c : Class) → IsNewest c → moves_partner c ≡ true → (y : OpId) → partner (pairs plans h) x ≡ Some y → (d : Class) × (may_act plans h d y ≡ true)
  partner_acts Data e t y p =
      let found = subst (λ (l : List Act). partner (pairs plans l) x ≡ Some y) e p in
      (Serve, subst (λ (l : List Act). may_act plans l Serve y ≡ true) (sym e) (partner_may_serve plans (drop 1 h) x (now_after Data e) y found))
  partner_acts Post e t y p =
      let found = subst (λ (l : List Act). partner (pairs plans l) x ≡ Some y) e p in
      (Data, subst (λ (l : List Act). may_act plans l Data y ≡ true) (sym e) (partner_may_transfer_after_post plans (drop 1 h) x (now_after Post e) y found))
  partner_acts Arrive e t y p = absurd (both_ways false refl t)
  partner_acts Serve e t y p = absurd (both_ways false refl t)
  partner_acts Begin e t y p = absurd (both_ways false refl t)

pub needs_empty_if_length_zero : (ns : List Need) → (length ns == 0) ≡ true → ns ≡ []
needs_empty_if_length_zero [] t = refl
needs_empty_if_length_zero (n ∷ ns) t = let e : length (n ∷ ns) ≡ 0 = eqb-true (length (n ∷ ns)) 0 t in absurd (omega (arith, e))

pub needs_not_empty_if_length_not_zero : (ns : List Need) → (length ns == 0) ≡ false → ns ≡ [] → ⊥
needs_not_empty_if_length_not_zero ns f e = both_ways _ f (ap (λ (l : List Need). length l == 0) e)

-- before the first action those may act that need none
module _ (plans : List Plan) (x : OpId) where
  none_paired : is_paired (pairs plans []) x ≡ false
  unfolding pairs partner
  none_paired = refl

  none_served : is_served plans no_send [] (partner (pairs plans []) x) ≡ true → ⊥
  unfolding pairs partner
  none_served t = both_ways false refl t

  none_met : (w : When) (y : OpId) → is_met plans no_send [] w y ≡ true → ⊥
  none_met AfterEnd y t = both_ways _ (happened_none (last_class false (kind_at plans y)) y) t
  none_met AfterStart y t = both_ways _ (happened_none (first_class (kind_at plans y)) y) t

  ready_at_once : needs plans x ≡ [] → is_ready plans no_send [] x ≡ true
  unfolding is_ready
  ready_at_once e = ap (list_all (λ (d : Need). is_met plans no_send [] d.when (needed x d))) e

  op_with_needs_is_not_ready_at_first : (d : Need) (ds : List Need) → needs plans x ≡ d ∷ ds → is_ready plans no_send [] x ≡ true → ⊥
  op_with_needs_is_not_ready_at_first d ds e r =
      none_met d.when (needed x d) (ready_need plans no_send [] x d r (subst (λ (ns : List Need). Contains ns d) (sym e) (contains_first d ds d refl)))

  op_with_needs_may_not_act_at_first : (d : Need) (ds : List Need) → needs plans x ≡ d ∷ ds → (c : Class) → may_act plans [] c x ≡ true → ⊥
  op_with_needs_may_not_act_at_first d ds e Begin t = op_with_needs_is_not_ready_at_first d ds e (allowed_begin plans no_send [] x t).1
  op_with_needs_may_not_act_at_first d ds e Post t = op_with_needs_is_not_ready_at_first d ds e (allowed_post plans no_send [] x t).1
  op_with_needs_may_not_act_at_first d ds e Arrive t = both_ways _ (happened_none Begin x) (allowed_arrive plans no_send [] x t).1
  op_with_needs_may_not_act_at_first d ds e Data t = both_ways _ none_paired (allowed_data plans no_send [] x t).2
  op_with_needs_may_not_act_at_first d ds e Serve t = none_served (allowed_serve plans no_send [] x t).1

  pub idle_at_first : (h : List Act) → h ≡ [] → (ns : List Need) → ns ≡ needs plans x → (ns ≡ [] → ⊥) → IsIdle plans h x
  idle_at_first h e [] is some = absurd (some refl)
  idle_at_first h e (d ∷ ds) is some =
      subst (λ (l : List Act). IsIdle plans l x) (sym e) (λ c. false_from_ne_true _ (op_with_needs_may_not_act_at_first d ds (sym is) c))

  pub acts_at_first : (h : List Act) → h ≡ [] → IsOp plans x → needs plans x ≡ [] → (c : Class) × (may_act plans h c x ≡ true)
  acts_at_first h e is none =
      let first : Class = first_class (kind_at plans x) in
      let may = first_action_may_act_iff_fresh_and_ready plans [] x first is refl ∙ (λ i. not (happened_none first x i) && ready_at_once none i) in
      (first, subst (λ (l : List Act). may_act plans l first x ≡ true) (sym e) may)
