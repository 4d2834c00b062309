use Rattle.std.proofs.Common.{ℕ, List, [], ◌++◌, refl, sym, ap, ◌∙◌, subst, rules, append_assoc}
use Rattle.goal_cli.specs.Answer.{GrowsByPart}
use Rattle.goal_cli.specs.Pages.{text_of}
use Rattle.goal_cli.proofs.PageLemmas.{grows_none, grows_by_append, grows_by_part_of_append, part_of_first_is_part_of_append, part_then}
use Rattle.goal_cli.proofs.printing.print_output.Goals as goal

pub pages-init : goal.pages-init
pages-init g c = record {
  grown = ([], grows_none _, refl);
  count = refl;
  later = search rules;
}

pub pages-preserved : goal.pages-preserved
pages-preserved g c =
    let before = c.pages.invariant.grown in
    let page = c.fill.new.page.items in record {
      grown = (
        before.0 ++ page,
        grows_by_append _ _ _ before.0 page before.1 c.pages.invariant.later.tells (rw c.deref.ensures.value at c.in-Ok-print.ensures.whole),
        append_assoc before.0 page (text_of c.fill.new.self) ∙ ap (λ (l : List ℕ). before.0 ++ l) (sym c.in-Ok.ensures.page) ∙ before.2,
      );
      count = search rules;
      later = search rules;
    }

pub returns-in-Err-clause-part : goal.returns-in-Err-clause-part
returns-in-Err-clause-part g c =
    let before = c.pages.invariant.grown in
    subst (GrowsByPart _ _) before.2 (grows_by_part_of_append _ _ before.0 (text_of c.pages.output) before.1)

pub returns-in-Err-print-clause-part : goal.returns-in-Err-print-clause-part
returns-in-Err-print-clause-part g c =
    let before = c.pages.invariant.grown in
    let page = c.fill.new.page.items in
    let left = text_of c.fill.new.self in
    subst (GrowsByPart _ _) (ap (λ (l : List ℕ). before.0 ++ l) (sym c.in-Ok.ensures.page) ∙ before.2)
    (part_then _ _ _ before.0 (page ++ left) before.1 c.pages.invariant.later.tells
    (part_of_first_is_part_of_append _ _ page left (rw c.deref.ensures.value at c.in-Err-print.ensures.part)))
