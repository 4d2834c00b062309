use Rattle.std.proofs.Common.{refl}
use Rattle.std.proofs.lemmas.Bool.{both_ways}
use Rattle.goal_certify.proofs.EndLemmas.{end_read, no_end_paired}
use Rattle.goal_certify.proofs.Passes.{unpaired_iff_search_finds_none}
use Rattle.goal_certify.proofs.channels.is_unpaired.Goals as goal

pub returns-in-Some : goal.returns-in-Some
returns-in-Some c =
    unpaired_iff_search_finds_none _ _ c.requires.ends _ _ _ _ _ (end_read _ _ _ _ c.op.ensures.op c.in-Some.ensures) c.other.ensures c.is_none.ensures c.first.ensures.found c.first.ensures.none

pub returns-in-None : goal.returns-in-None
returns-in-None c =
    (λ t. absurd (both_ways _ refl t), λ un. absurd (no_end_paired c.args.sched.now c.args.ends.now c.requires.ends c.requires.no_wildcard c.args.id (end_read _ _ _ _ c.op.ensures.op c.in-None.ensures) un))
