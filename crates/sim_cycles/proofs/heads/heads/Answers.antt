use Rattle.std.proofs.Common.{List, length, refl, sym, ap, ◌∙◌, subst}
use Rattle.sim_cycles.specs.Places.{AreSettled}
use Rattle.sim_cycles.specs.declared.heads.Mark.{Mark}
use Rattle.sim_cycles.proofs.Lists.{take_of_replaced_prefix}
use Rattle.sim_cycles.proofs.Marks.{settled_none}
use Rattle.sim_cycles.proofs.heads.heads.Goals as goal

pub mark_all-requires : goal.mark_all-requires
mark_all-requires c = record {
  closed = c.requires;
  none = settled_none c.args.targets.now c.deref_mut.result.now (length c.args.targets.now) (c.deref_mut.ensures.value ∙ c.in_ok-marks.ensures.items_if_clones_equal (λ y e. e)) refl;
}

pub known-requires : goal.known-requires
known-requires c =
    let long = c.in_ok-marks.marks.ok.0 in
    let e = c.deref.ensures.value ∙ take_of_replaced_prefix c.in_ok-marks.marks.len c.mark_all.new.marks c.in_ok-marks.marks.items (c.mark_all.auto.marks ∙ ap length c.deref_mut.ensures.value ∙ sym long) (sym long) in
    subst (λ (ms : List Mark). AreSettled c.args.targets.now ms (length c.args.targets.now)) (sym e) c.in_ok-mark_all.ensures
