use Rattle.std.proofs.Common.{◌≡◌, ◌∙◌, false, length, replicate, rules, arith, refl, ap, sym}
use Rattle.std.proofs.lemmas.List.{length-map}
use Rattle.sim_match.specs.declared.capacities.Side.TheVariants.{Receives, Sends}
use Rattle.sim_match.specs.Capacities.{empty_list}
use Rattle.goal_graph.specs.Schedule.{operations}
use Rattle.sim_match.proofs.Begun.{new_table_mirrors}
use Rattle.sim_match.proofs.Unseen.{unseen_empty}
use Rattle.sim_match.proofs.Unmet.{unmet_none}
use Rattle.sim_match.proofs.match_table.MatchTable.new.Goals as goal

pub returns-clause-kept : goal.returns-clause-kept
returns-clause-kept c =
    let unmarked : c.in_ok-marks.marks.items ≡ replicate (length (operations c.args.sched.now)) false = rw c.count-count.ensures.count at (c.in_ok-marks.ensures.items_if_clones_equal (search rules)) in
    let kept = new_table_mirrors _ _ _ _ c.known.ensures.accepted c.requires.listed (c.in_ok-capacities.ensures c.requires) unmarked in
    let receives = ap length (rw c.deref.ensures.value at c.in_ok-receives.ensures) ∙ length-map c.in_ok-capacities.capacities.items (empty_list Receives) in
    let sends = ap length (rw c.deref-2.ensures.value at c.in_ok-sends.ensures) ∙ length-map c.in_ok-capacities.capacities.items (empty_list Sends) in
    record {
      few = omega (arith, c.count-count.ensures.count, c.count-count.ensures.small);
      as_many = receives ∙ sym sends;
      numbered = c.requires;
      covered = rw (c.in_ok-receives.ensures, c.in_ok-sends.ensures, c.deref.ensures.value, c.deref-2.ensures.value) (omega (arith, unseen_empty Receives c.in_ok-capacities.capacities.items, unseen_empty Sends c.in_ok-capacities.capacities.items));
      bounded = omega arith;
      count = rw c.new-3.ensures refl;
      standing = rw c.new-3.ensures (sym (ap length (unmet_none c.args.sched.now)));
      mirrors = rw (c.new-3.ensures, c.in_ok-receives.ensures, c.in_ok-sends.ensures, c.deref.ensures.value, c.deref-2.ensures.value) kept;
    }
