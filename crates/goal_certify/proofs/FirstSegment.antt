-- In the first segment a collective is done as it is.
use Rattle.std.proofs.Common.{ℕ, ◌≡◌, ◌⊎◌, Bool, List, length, Result, OnOk, IfErr, subst}
use Rattle.goal_graph.specs.Schedule.{Plan}
use Rattle.goal_blocks.specs.declared.cert_fault.CertFault.{CertFault}
use Rattle.goal_blocks.specs.declared.cert_fault.CertFault.TheVariants.{NoMemory}
use Rattle.goal_limits.specs.declared.collective.Collective.{Collective}
use Rattle.goal_blocks.specs.declared.segment.Segment.{Segment}
use Rattle.goal_blocks.specs.Values.{Value, Store}
use Rattle.goal_blocks.specs.Collectives.{initial, wanted}
use Rattle.goal_blocks.specs.Segments.{initial_in, wanted_in}
use Rattle.goal_blocks.proofs.ForCallers.{initial_in_first_block, wanted_in_first_block}
use Rattle.goal_certify.specs.Stages.{HasNone, IsFirstOf, IsFreeIn, IsStoppedIn}

module _ (what : Collective) (plans : List Plan) (segment : Segment) (is : segment ≡ record { width = 0; block = 0 }) where
  -- what is said of its start and its end is said of those of the collective
  in_first_segment : (P : Store → (ℕ → ℕ → Value → Bool) → Type 0) → P (initial_in what segment.width segment.block (length plans)) (wanted_in what segment.width segment.block (length plans)) → P (initial what (length plans)) (wanted what (length plans))
  in_first_segment P told =
      let there = subst (λ (s : Segment). P (initial_in what s.width s.block (length plans)) (wanted_in what s.width s.block (length plans))) is told in
      subst (λ (s : Store). P s (wanted what (length plans))) (initial_in_first_block what (length plans)) (subst (λ (w : ℕ → ℕ → Value → Bool). P (initial_in what 0 0 (length plans)) w) (wanted_in_first_block what (length plans)) there)

  pub first_free : {T : Type 0} (r : Result T CertFault) → OnOk r (IsFreeIn what segment plans 6 9) → OnOk r (HasNone plans (initial what (length plans)) (wanted what (length plans)) 6 9)
  first_free r free = in_first_segment (λ (s : Store) (w : ℕ → ℕ → Value → Bool). OnOk r (HasNone plans s w 6 9)) free

  pub fault_of_first_segment : {T : Type 0} (r : Result T CertFault) → IfErr r (IsStoppedIn what segment plans 6 9) → IfErr r (λ fault. (fault ≡ NoMemory) ⊎ IsFirstOf plans (initial what (length plans)) (wanted what (length plans)) 6 9 fault)
  fault_of_first_segment r told = in_first_segment (λ (s : Store) (w : ℕ → ℕ → Value → Bool). IfErr r (λ (fault : CertFault). (fault ≡ NoMemory) ⊎ IsFirstOf plans s w 6 9 fault)) told
