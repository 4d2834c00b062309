-- The made schedules of the ten collectives are certified, those of the barrier and the allreduce up to 2,048 ranks, and so
-- right everywhere.
use Rattle.std.proofs.Common.{⊎_elim, ℕ, ◌^◌, ◌≤◌, ◌<◌, length, sym, subst, arith}
use Rattle.std.proofs.lemmas.Bool.{cases_lt}
use Rattle.goal_limits.specs.Limits.{certified_rank_limit, rank_limit}
use Rattle.goal_limits.specs.declared.limits.TheConstants.{MAX_BYTES}
use Rattle.goal_limits.specs.declared.collective.Collective.{Collective}
use Rattle.goal_limits.specs.declared.collective.Collective.TheVariants.{Bcast, Barrier, Allgather, Allreduce, Alltoall, Reduce, Gather, Scatter, ReduceScatter, Scan}
use Rattle.goal_blocks.specs.Collectives.{initial, wanted}
use Rattle.goal_blocks.specs.Certified.{IsCertifiedFor}
use Rattle.goal_blocks.specs.Right.{IsRightFor, IsCertifiedByProof}
use Rattle.goal_blocks.specs.Generated.{made, IsPossible}
use Rattle.goal_blocks.proofs.Right.{certified_right}
use Rattle.goal_blocks.proofs.BcastCertified.{bcast_certified}
use Rattle.goal_blocks.proofs.AllgatherCertified.{allgather_certified}
use Rattle.goal_blocks.proofs.AlltoallCertified.{alltoall_certified}
use Rattle.goal_blocks.proofs.BarrierCertified.{barrier_certified, barrier_right, barrier_heavy}
use Rattle.goal_blocks.proofs.AllreduceCertified.{allreduce_certified, allreduce_right, allreduce_heavy}
use Rattle.goal_blocks.proofs.ReduceCertified.{reduce_certified}
use Rattle.goal_blocks.proofs.ReduceScatterCertified.{reduce_scatter_certified}
use Rattle.goal_blocks.proofs.GatherCertified.{gather_certified}
use Rattle.goal_blocks.proofs.ScatterCertified.{scatter_certified}
use Rattle.goal_blocks.proofs.ScanCertified.{scan_certified}

power_within_limit : (ranks : ℕ) (p : IsPossible Allreduce ranks) → 2 ^ p.power.0 ≤ rank_limit
power_within_limit ranks p = let few = p.few_ranks in let is = p.power.1 in omega (arith, few, is)

pub made_certified : (what : Collective) (ranks bytes : ℕ) → IsPossible what ranks → bytes ≤ MAX_BYTES → IsCertifiedByProof what ranks → IsCertifiedFor what (made what ranks bytes)
made_certified (Bcast root) ranks bytes p small proved = bcast_certified ranks root bytes p.root p.few_ranks small
made_certified Allgather ranks bytes p small proved = allgather_certified ranks bytes p.some_rank p.few_ranks small
made_certified Scan ranks bytes p small proved = scan_certified ranks bytes p.some_rank p.few_ranks small
made_certified Barrier ranks bytes p small proved = let few = p.few_ranks in barrier_certified ranks bytes p.some_rank (omega (arith, few)) proved
made_certified Allreduce ranks bytes p small proved =
    subst (λ (n : ℕ). IsCertifiedFor Allreduce (made Allreduce n bytes)) (sym p.power.1) (allreduce_certified p.power.0 bytes (power_within_limit ranks p) (subst (λ (n : ℕ). n ≤ certified_rank_limit) p.power.1 proved))
made_certified Alltoall ranks bytes p small proved = alltoall_certified ranks bytes p.some_rank p.few_ranks small
made_certified (Reduce root) ranks bytes p small proved = reduce_certified ranks root bytes p.root p.few_ranks small
made_certified (Gather root) ranks bytes p small proved = gather_certified ranks root bytes p.root p.few_ranks
made_certified (Scatter root) ranks bytes p small proved = scatter_certified ranks root bytes p.root p.few_ranks
made_certified ReduceScatter ranks bytes p small proved = reduce_scatter_certified ranks bytes p.some_rank p.few_ranks

pub made_right : (what : Collective) (ranks bytes : ℕ) → IsPossible what ranks → bytes ≤ MAX_BYTES → IsCertifiedByProof what ranks → IsRightFor what (made what ranks bytes)
made_right what ranks bytes p small proved =
    certified_right (made what ranks bytes) (initial what (length (made what ranks bytes))) (wanted what (length (made what ranks bytes))) (made_certified what ranks bytes p small proved)

-- a barrier or an allreduce is certified only if it has few ranks: with each round it holds more
pub certified_only_by_proof : (what : Collective) (ranks bytes : ℕ) → IsPossible what ranks → IsCertifiedFor what (made what ranks bytes) → IsCertifiedByProof what ranks
certified_only_by_proof Barrier ranks bytes p c =
    let few = p.few_ranks in
    ⊎_elim (λ many. absurd (barrier_heavy ranks bytes p.some_rank (omega (arith, few)) many c)) (λ light. light) (cases_lt certified_rank_limit ranks)
certified_only_by_proof Allreduce ranks bytes p c =
    ⊎_elim (λ many. absurd (allreduce_heavy p.power.0 bytes (power_within_limit ranks p) (subst (λ (n : ℕ). certified_rank_limit < n) p.power.1 many) (subst (λ (n : ℕ). IsCertifiedFor Allreduce (made Allreduce n bytes)) p.power.1 c))) (λ light. light) (cases_lt certified_rank_limit ranks)
certified_only_by_proof (Bcast root) ranks bytes p c = tt
certified_only_by_proof Allgather ranks bytes p c = tt
certified_only_by_proof Alltoall ranks bytes p c = tt
certified_only_by_proof (Reduce root) ranks bytes p c = tt
certified_only_by_proof (Gather root) ranks bytes p c = tt
certified_only_by_proof (Scatter root) ranks bytes p c = tt
certified_only_by_proof ReduceScatter ranks bytes p c = tt
certified_only_by_proof Scan ranks bytes p c = tt

-- all generated schedules are right everywhere, whatever their weight
pub made_right_at_any_weight : (what : Collective) (ranks bytes : ℕ) → IsPossible what ranks → bytes ≤ MAX_BYTES → IsRightFor what (made what ranks bytes)
made_right_at_any_weight Barrier ranks bytes p small = let few = p.few_ranks in barrier_right ranks bytes p.some_rank (omega (arith, few))
made_right_at_any_weight Allreduce ranks bytes p small =
    subst (λ (n : ℕ). IsRightFor Allreduce (made Allreduce n bytes)) (sym p.power.1) (allreduce_right p.power.0 bytes (power_within_limit ranks p))
made_right_at_any_weight (Bcast root) ranks bytes p small = made_right (Bcast root) ranks bytes p small tt
made_right_at_any_weight Allgather ranks bytes p small = made_right Allgather ranks bytes p small tt
made_right_at_any_weight Alltoall ranks bytes p small = made_right Alltoall ranks bytes p small tt
made_right_at_any_weight (Reduce root) ranks bytes p small = made_right (Reduce root) ranks bytes p small tt
made_right_at_any_weight (Gather root) ranks bytes p small = made_right (Gather root) ranks bytes p small tt
made_right_at_any_weight (Scatter root) ranks bytes p small = made_right (Scatter root) ranks bytes p small tt
made_right_at_any_weight ReduceScatter ranks bytes p small = made_right ReduceScatter ranks bytes p small tt
made_right_at_any_weight Scan ranks bytes p small = made_right Scan ranks bytes p small tt
