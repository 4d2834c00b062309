-- If a send fits at most one receive and a receive at most one send, partners are those that have met, and they are
-- paired when the later one of the two comes.
use Rattle.std.proofs.Common.{◌≡◌, ◌⊎◌, inl, inr, ⊎_elim, max, true, false, List, [], ◌∷◌, Some, sym, ◌∙◌, subst, arith}
use Rattle.std.proofs.lemmas.Bool.{both_ways, cases_Bool, false_from_ne_true}
use Rattle.goal_graph.specs.declared.action.OpId.{OpId}
use Rattle.goal_graph.specs.declared.action.Timed.{Timed}
use Rattle.goal_graph.specs.declared.action.Class.{Class}
use Rattle.goal_graph.specs.declared.action.Class.TheVariants.{Arrive, Post}
use Rattle.goal_graph.specs.Schedule.{Plan, IsSend, IsReceive}
use Rattle.goal_graph.specs.Action.{happened, plain, plain_act}
use Rattle.goal_graph.specs.Matching.{pairs, is_paired}
use Rattle.goal_graph.specs.Interleaving.{IsInterleaving}
use Rattle.goal_graph.specs.Laws.{HaveMet, IsApart}
use Rattle.goal_graph.proofs.ForCallers.{partners_iff_met, partners_mutual, partner_of_receive, fits_receive, fits_send, is_some_from, value_of_is_some, is_act_class}
use Rattle.sim_params.specs.Costs.{CostModel, is_eager}
use Rattle.sim_params.specs.Times.{mate, paired_at, Possible}
use Rattle.sim_params.proofs.ForCallers.{since_kept, since_new}
use Rattle.sim_placed.proofs.Tails.{Below, Rises}
use Rattle.sim_placed.proofs.Local.{has_happened, time_happened, has_happened_nothing, has_happened_cases, has_happened_below, time_happened_below, time_happened_at_most}

module _ (plans : List Plan) (costs : CostModel) where
  -- each action was possible after those before it
  abbrev pub Each : List Timed → Type 0
  Each [] = Unit {0}
  Each (a ∷ h) = Each h × Possible plans costs h a

  pub each_interleaving : (h : List Timed) → Each h → IsInterleaving plans (is_eager plans costs) (plain h)
  unfolding plain
  each_interleaving [] each = tt
  each_interleaving (a ∷ h) each = (each_interleaving h each.0, each.1.allowed)

  abbrev pub Met : List Timed → OpId → OpId → Type 0
  Met p m x = HaveMet plans (plain p) m x

  pub met_below : (p q : List Timed) → Below p q → (m x : OpId) → Met p m x → Met q m x
  met_below p q below m x met = record {
    arrived = has_happened_below Arrive m p q below met.arrived;
    posted = has_happened_below Post x p q below met.posted;
    fit = met.fit;
  }

  module _ (apart : IsApart plans) where
    pub mates : (p : List Timed) → Each p → (m x : OpId) → Met p m x → (mate plans costs p m ≡ Some x) × (mate plans costs p x ≡ Some m)
    mates p each m x met =
        let i = each_interleaving p each in
        let one = ((partners_iff_met plans apart (is_eager plans costs) (plain p) m x i).1 met).0 in
        (one, partners_mutual plans (is_eager plans costs) (plain p) m x i one)

    pub met_of_receive : (p : List Timed) (m x : OpId) → IsReceive plans x → mate plans costs p x ≡ Some m → Met p m x
    met_of_receive p m x r e = partner_of_receive plans (plain p) x m r e

    pub met_of_send : (p : List Timed) → Each p → (m x : OpId) → IsSend plans m → mate plans costs p m ≡ Some x → Met p m x
    met_of_send p each m x s e =
        (partners_iff_met plans apart (is_eager plans costs) (plain p) m x (each_interleaving p each)).0 (e, s)

    -- they are paired when the later one comes
    abbrev Paired : List Timed → OpId → OpId → Type 0
    Paired p m x = (paired_at plans costs p m ≡ max (time_happened Arrive m p) (time_happened Post x p)) × (paired_at plans costs p x ≡ max (time_happened Arrive m p) (time_happened Post x p))

    pub paired_later : (p : List Timed) → Each p → Rises p → (m x : OpId) → Met p m x → Paired p m x
    paired_later [] each rises m x met = absurd (has_happened_nothing Arrive m met.arrived)
    paired_later (a ∷ p) each rises m x met =
        go (λ (before : Met p m x). paired_later p each.0 rises.0 m x before) (cases_Bool (has_happened Arrive m p)) (cases_Bool (has_happened Post x p))
      where
        now : (mate plans costs (a ∷ p) m ≡ Some x) × (mate plans costs (a ∷ p) x ≡ Some m)
        now = mates (a ∷ p) each m x met

        -- newly paired, both at the time of this action
        new : is_paired (pairs plans (plain p)) m ≡ false → is_paired (pairs plans (plain p)) x ≡ false → (paired_at plans costs (a ∷ p) m ≡ a.time) × (paired_at plans costs (a ∷ p) x ≡ a.time)
        new f g =
            (since_new (λ l. is_paired (pairs plans l) m) a p f (is_some_from (mate plans costs (a ∷ p) m) x now.0), since_new (λ l. is_paired (pairs plans l) x) a p g (is_some_from (mate plans costs (a ∷ p) x) m now.1))

        -- a receive that no send has met is not paired
        free_receive : ((n : OpId) → Met p n x → ⊥) → is_paired (pairs plans (plain p)) x ≡ false
        free_receive none =
            false_from_ne_true _ (λ t. let o = value_of_is_some (mate plans costs p x) t in none o.0 (met_of_receive p o.0 x (fits_receive plans x m met.fit) o.1))

        free_send : ((y : OpId) → Met p m y → ⊥) → is_paired (pairs plans (plain p)) m ≡ false
        free_send none =
            false_from_ne_true _ (λ t. let o = value_of_is_some (mate plans costs p m) t in none o.0 (met_of_send p each.0 m o.0 (fits_send plans x m met.fit) o.1))

        older : Met p m x → Paired p m x → Paired (a ∷ p) m x
        older before rest =
            let both = mates p each.0 m x before in
            let of_m = since_kept (λ l. is_paired (pairs plans l) m) a p (is_some_from (mate plans costs p m) x both.0) in
            let of_x = since_kept (λ l. is_paired (pairs plans l) x) a p (is_some_from (mate plans costs p x) m both.1) in
            let arrived = since_kept (happened Arrive m) a p before.arrived in
            let posted = since_kept (happened Post x) a p before.posted in
            (of_m ∙ (rest.0 ∙ λ i. max (sym arrived i) (sym posted i)), of_x ∙ (rest.1 ∙ λ i. max (sym arrived i) (sym posted i)))

        posts : has_happened Arrive m p ≡ true → has_happened Post x p ≡ false → Paired (a ∷ p) m x
        posts t f =
            let at_once = new (free_send (λ y other. both_ways _ f (subst (λ (z : OpId). has_happened Post z p ≡ true) (apart.one_receive m y x other.fit met.fit) other.posted))) (free_receive (λ n other. both_ways _ f other.posted)) in
            let arrived = since_kept (happened Arrive m) a p t in
            let posted = since_new (happened Post x) a p f met.posted in
            let le = time_happened_at_most Arrive m p a.time rises.1 t in
            (omega (arith, at_once, arrived, posted, le), omega (arith, at_once, arrived, posted, le))

        arrives : has_happened Arrive m p ≡ false → has_happened Post x p ≡ true → Paired (a ∷ p) m x
        arrives f t =
            let at_once = new (free_send (λ y other. both_ways _ f other.arrived)) (free_receive (λ n other. both_ways _ f (subst (λ (z : OpId). has_happened Arrive z p ≡ true) (apart.one_send x n m other.fit met.fit) other.arrived))) in
            let arrived = since_new (happened Arrive m) a p f met.arrived in
            let posted = since_kept (happened Post x) a p t in
            let le = time_happened_at_most Post x p a.time rises.1 t in
            (omega (arith, at_once, arrived, posted, le), omega (arith, at_once, arrived, posted, le))

        neither : has_happened Arrive m p ≡ false → has_happened Post x p ≡ false → ⊥
        neither f g =
            ⊎_elim (λ t. both_ways _ f t) (λ s. ⊎_elim (λ t. both_ways _ g t) (λ t. let one = is_act_class Arrive m (plain_act a) s in let other = is_act_class Post x (plain_act a) t in cc) (has_happened_cases Post x a p met.posted)) (has_happened_cases Arrive m a p met.arrived)

        go : (Met p m x → Paired p m x) → (has_happened Arrive m p ≡ true) ⊎ (has_happened Arrive m p ≡ false) → (has_happened Post x p ≡ true) ⊎ (has_happened Post x p ≡ false) → Paired (a ∷ p) m x
        go rest (inl t) (inl s) =
            let before : Met p m x = record { arrived = t; posted = s; fit = met.fit } in older before (rest before)
        go rest (inl t) (inr g) = posts t g
        go rest (inr f) (inl s) = arrives f s
        go rest (inr f) (inr g) = absurd (neither f g)

    -- in two parts of one history they are paired at the same time
    module _ (w : List Timed) where
      same_at : (c : Class) (y : OpId) (p q : List Timed) → Below p w → Below q w → has_happened c y p ≡ true → has_happened c y q ≡ true → time_happened c y p ≡ time_happened c y q
      same_at c y p q below_p below_q t s = sym (time_happened_below c y p w below_p t) ∙ time_happened_below c y q w below_q s

      pub same_paired : (p q : List Timed) → Each p → Each q → Rises p → Rises q → Below p w → Below q w → (m x : OpId) → Met p m x → Met q m x → (paired_at plans costs p m ≡ paired_at plans costs q m) × (paired_at plans costs p x ≡ paired_at plans costs q x)
      same_paired p q each_p each_q rises_p rises_q below_p below_q m x met_p met_q =
          let of_p = paired_later p each_p rises_p m x met_p in
          let of_q = paired_later q each_q rises_q m x met_q in
          let arrived = same_at Arrive m p q below_p below_q met_p.arrived met_q.arrived in
          let posted = same_at Post x p q below_p below_q met_p.posted met_q.posted in
          (of_p.0 ∙ ((λ i. max (arrived i) (posted i)) ∙ sym of_q.0), of_p.1 ∙ ((λ i. max (arrived i) (posted i)) ∙ sym of_q.1))
