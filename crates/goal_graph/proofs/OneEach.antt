-- At most one action of an operation is allowed at a time.
use Rattle.std.proofs.Common.{inl, inr, ◌≡◌, Bool, true, List, refl}
use Rattle.std.proofs.lemmas.Bool.{both_ways}
use Rattle.goal_graph.specs.declared.action.OpId.{OpId}
use Rattle.goal_graph.specs.declared.action.Class.{Class}
use Rattle.goal_graph.specs.declared.action.Class.TheVariants.{Arrive, Serve, Data, Post, Begin}
use Rattle.goal_graph.specs.Schedule.{Plan}
use Rattle.goal_graph.specs.Action.{Act, happened}
use Rattle.goal_graph.specs.Matching.{partner, pairs}
use Rattle.goal_graph.specs.Allowed.{allowed}
use Rattle.goal_graph.specs.Interleaving.{IsInterleaving}
use Rattle.goal_graph.proofs.Persist.{value_of_is_some}
use Rattle.goal_graph.proofs.Rules.{not_send_receive, not_receive_calc, allowed_fresh, allowed_arrive, allowed_data, allowed_serve, allowed_post, allowed_begin}
use Rattle.goal_graph.proofs.Ever.{arrived_begun}
use Rattle.goal_graph.proofs.Partners.{partner_of_send, partner_of_receive}
use Rattle.goal_graph.proofs.Stages.{served_paired}

module _ (plans : List Plan) (eager : OpId → Bool) where
  -- the stage of an operation: the class of action that may come next, and what must not have happened yet
  begin_excludes_post : (h : List Act) (x : OpId) → allowed plans eager h Begin x ≡ true → allowed plans eager h Post x ≡ true → ⊥
  begin_excludes_post h x b p =
      elim (allowed_begin plans eager h x b).0 [ inl calc ↦ not_receive_calc plans x (allowed_post plans eager h x p).0 calc | inr send ↦ not_send_receive plans x send (allowed_post plans eager h x p).0 ]

  begin_excludes_serve : (h : List Act) (x : OpId) → allowed plans eager h Begin x ≡ true → allowed plans eager h Serve x ≡ true → ⊥
  begin_excludes_serve h x b p =
      elim (allowed_begin plans eager h x b).0 [ inl calc ↦ not_receive_calc plans x (allowed_serve plans eager h x p).0 calc | inr send ↦ not_send_receive plans x send (allowed_serve plans eager h x p).0 ]

  begin_excludes_arrive : (h : List Act) (x : OpId) → allowed plans eager h Begin x ≡ true → allowed plans eager h Arrive x ≡ true → ⊥
  begin_excludes_arrive h x b p =
      both_ways _ (allowed_fresh plans eager h Begin x b) (allowed_arrive plans eager h x p).1

  -- a rendezvous send that may transfer its data has arrived
  data_after_arrive : (h : List Act) (x : OpId) → allowed plans eager h Data x ≡ true → happened Arrive x h ≡ true
  data_after_arrive h x d =
      let may_data = allowed_data plans eager h x d in
      let with = value_of_is_some (partner (pairs plans h) x) may_data.2 in
      (partner_of_send plans h x with.0 may_data.0 with.1).arrived

  begin_excludes_data : (h : List Act) (x : OpId) → IsInterleaving plans eager h → allowed plans eager h Begin x ≡ true → allowed plans eager h Data x ≡ true → ⊥
  begin_excludes_data h x i b d =
      both_ways _ (allowed_fresh plans eager h Begin x b) (arrived_begun plans eager h x i (data_after_arrive h x d))

  arrive_excludes_data : (h : List Act) (x : OpId) → allowed plans eager h Arrive x ≡ true → allowed plans eager h Data x ≡ true → ⊥
  arrive_excludes_data h x a d = both_ways _ (allowed_fresh plans eager h Arrive x a) (data_after_arrive h x d)

  arrive_excludes_post : (h : List Act) (x : OpId) → allowed plans eager h Arrive x ≡ true → allowed plans eager h Post x ≡ true → ⊥
  arrive_excludes_post h x a p =
      not_send_receive plans x (allowed_arrive plans eager h x a).0 (allowed_post plans eager h x p).0

  arrive_excludes_serve : (h : List Act) (x : OpId) → allowed plans eager h Arrive x ≡ true → allowed plans eager h Serve x ≡ true → ⊥
  arrive_excludes_serve h x a p =
      not_send_receive plans x (allowed_arrive plans eager h x a).0 (allowed_serve plans eager h x p).0

  data_excludes_post : (h : List Act) (x : OpId) → allowed plans eager h Data x ≡ true → allowed plans eager h Post x ≡ true → ⊥
  data_excludes_post h x d p =
      not_send_receive plans x (allowed_data plans eager h x d).0 (allowed_post plans eager h x p).0

  data_excludes_serve : (h : List Act) (x : OpId) → allowed plans eager h Data x ≡ true → allowed plans eager h Serve x ≡ true → ⊥
  data_excludes_serve h x d p =
      not_send_receive plans x (allowed_data plans eager h x d).0 (allowed_serve plans eager h x p).0

  post_excludes_serve : (h : List Act) (x : OpId) → allowed plans eager h Post x ≡ true → allowed plans eager h Serve x ≡ true → ⊥
  post_excludes_serve h x p s =
      let may_serve = allowed_serve plans eager h x s in
      let with = value_of_is_some (partner (pairs plans h) x) (served_paired plans eager h x may_serve.1) in
      both_ways _ (allowed_fresh plans eager h Post x p) (partner_of_receive plans h x with.0 may_serve.0 with.1).posted

  pub one_allowed : (h : List Act) (c d : Class) (x : OpId) → IsInterleaving plans eager h → allowed plans eager h c x ≡ true → allowed plans eager h d x ≡ true → c ≡ d
  one_allowed h Begin Begin x i p q = refl
  one_allowed h Arrive Arrive x i p q = refl
  one_allowed h Serve Serve x i p q = refl
  one_allowed h Data Data x i p q = refl
  one_allowed h Post Post x i p q = refl
  one_allowed h Begin Arrive x i p q = absurd (begin_excludes_arrive h x p q)
  one_allowed h Begin Data x i p q = absurd (begin_excludes_data h x i p q)
  one_allowed h Begin Post x i p q = absurd (begin_excludes_post h x p q)
  one_allowed h Begin Serve x i p q = absurd (begin_excludes_serve h x p q)
  one_allowed h Arrive Begin x i p q = absurd (begin_excludes_arrive h x q p)
  one_allowed h Arrive Data x i p q = absurd (arrive_excludes_data h x p q)
  one_allowed h Arrive Post x i p q = absurd (arrive_excludes_post h x p q)
  one_allowed h Arrive Serve x i p q = absurd (arrive_excludes_serve h x p q)
  one_allowed h Data Begin x i p q = absurd (begin_excludes_data h x i q p)
  one_allowed h Data Arrive x i p q = absurd (arrive_excludes_data h x q p)
  one_allowed h Data Post x i p q = absurd (data_excludes_post h x p q)
  one_allowed h Data Serve x i p q = absurd (data_excludes_serve h x p q)
  one_allowed h Post Begin x i p q = absurd (begin_excludes_post h x q p)
  one_allowed h Post Arrive x i p q = absurd (arrive_excludes_post h x q p)
  one_allowed h Post Data x i p q = absurd (data_excludes_post h x q p)
  one_allowed h Post Serve x i p q = absurd (post_excludes_serve h x p q)
  one_allowed h Serve Begin x i p q = absurd (begin_excludes_serve h x q p)
  one_allowed h Serve Arrive x i p q = absurd (arrive_excludes_serve h x q p)
  one_allowed h Serve Data x i p q = absurd (data_excludes_serve h x q p)
  one_allowed h Serve Post x i p q = absurd (post_excludes_serve h x q p)
