-- Listing the places of all operations, one after another.
use Rattle.std.proofs.Common.{◌≡◌, ℕ, ◌+◌, ◌<◌, ◌≤◌, ◌^◌, All, Contains, List, [], ◌∷◌, ◌++◌, length, get_or, drop, sym, ap, ◌∙◌, refl, arith, append_assoc, add-one}
use Rattle.std.proofs.Math.Seq.{drop-cons}
use Rattle.goal_graph.specs.declared.action.OpId.{OpId}
use Rattle.goal_graph.specs.declared.plan.Op.{Op}
use Rattle.goal_graph.specs.declared.plan.Kind.TheVariants.{Calc}
use Rattle.goal_graph.specs.Schedule.{Plan, places_of_rank, places_from}
use Rattle.std.proofs.Common.{subst}
use Rattle.std.proofs.lemmas.List.Elements.{Contains-get_or}
use Rattle.goal_graph.specs.Schedule.{operations}
use Rattle.goal_graph.specs.Fault.{IsOp, plain_fault, op_count}
use Rattle.std.proofs.Common.{None}
use Rattle.goal_graph.proofs.Plain.{plain-counts}
use Rattle.goal_graph.proofs.Exists.{listed_places}
use Rattle.goal_graph.proofs.Places.{no_plan, length-operations}

no_op : Op
no_op = record { kind = Calc 0; cpu = 0; nic = 0 }

-- the places of one rank, from its operation i on, begin with that one
pub places_of_rank-more : (rank i : ℕ) (ops : List Op) → i < length ops → places_of_rank rank i (drop i ops) ≡ record { rank = rank; op = i } ∷ places_of_rank rank (i + 1) (drop (i + 1) ops)
unfolding places_of_rank
places_of_rank-more rank i ops h = rw (drop-cons ops i no_op h, add-one) refl

-- listing another operation keeps the list of listed and remaining operations
pub one_more_listed : (rank i : ℕ) (ops : List Op) (ids whole : List OpId) → i < length ops → ids ++ places_of_rank rank i (drop i ops) ≡ whole → (ids ++ record { rank = rank; op = i } ∷ []) ++ places_of_rank rank (i + 1) (drop (i + 1) ops) ≡ whole
one_more_listed rank i ops ids whole h e =
    append_assoc ids (record { rank = rank; op = i } ∷ []) (places_of_rank rank (i + 1) (drop (i + 1) ops)) ∙ ap (λ (xs : List OpId). ids ++ xs) (sym (places_of_rank-more rank i ops h)) ∙ e

pub places_of_rank-nil : (rank op : ℕ) → places_of_rank rank op [] ≡ []
unfolding places_of_rank
places_of_rank-nil rank op = refl

pub places_from-nil : (rank : ℕ) → places_from rank [] ≡ []
unfolding places_from
places_from-nil rank = refl

-- the same for another rank
pub places_from-more : (i : ℕ) (plans : List Plan) → i < length plans → places_from i (drop i plans) ≡ places_of_rank i 0 (get_or plans i no_plan).ops ++ places_from (i + 1) (drop (i + 1) plans)
unfolding places_from
places_from-more i plans h = rw (drop-cons plans i no_plan h, add-one) refl

pub one_rank_listed : (i : ℕ) (plans : List Plan) (ops : List Op) (ids whole : List OpId) → i < length plans → ops ≡ (get_or plans i no_plan).ops → ids ++ places_from i (drop i plans) ≡ whole → (ids ++ places_of_rank i 0 ops) ++ places_from (i + 1) (drop (i + 1) plans) ≡ whole
one_rank_listed i plans ops ids whole h is e =
    append_assoc ids (places_of_rank i 0 ops) (places_from (i + 1) (drop (i + 1) plans)) ∙ ap (λ (os : List Op). ids ++ (places_of_rank i 0 os ++ places_from (i + 1) (drop (i + 1) plans))) is ∙ ap (λ (xs : List OpId). ids ++ xs) (sym (places_from-more i plans h)) ∙ e

-- plans without a fault have few ranks and operations
pub few_ranks : (read plans : List Plan) → read ≡ plans → plain_fault plans ≡ None → length read < 2 ^ 32
few_ranks read plans same plain =
    let counts = plain-counts plans plain in
    omega (arith, ap length same, counts.ranks)

pub few_operations : (read plans : List Plan) → read ≡ plans → plain_fault plans ≡ None → op_count read < 2 ^ 32
few_operations read plans same plain =
    let counts = plain-counts plans plain in
    omega (arith, ap op_count same, counts.ops)

-- what is listed exists
pub listed_exist : (plans tables : List Plan) (ids : List OpId) → tables ≡ plans → ids ≡ operations tables → All (λ x. IsOp plans x) ids
listed_exist plans tables ids same is =
    λ k d h.
    let among : Contains (operations plans) (get_or ids k d) =
    subst (λ (ps : List Plan). Contains (operations ps) (get_or ids k d)) same (subst (λ (xs : List OpId). Contains xs (get_or ids k d)) is (Contains-get_or ids k d h)) in
    (listed_places plans (get_or ids k d)).0 among

pub few_listed : (plans : List Plan) (count : ℕ) → plain_fault plans ≡ None → count ≡ length (operations plans) → count ≤ 2 ^ 20
few_listed plans count plain is =
    let counts = plain-counts plans plain in
    omega (arith, length-operations plans, counts.ops, is)
