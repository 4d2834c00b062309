use Rattle.std.proofs.Common.{refl, ◌∙◌, length}
use Rattle.goal_cli.specs.Pages.{made_of, behind}
use Rattle.goal_cli.proofs.PageLemmas.{page_appended, rest_is_shorter, not_zero}
use Rattle.goal_cli.proofs.pages.Output.fill.Goals as goal

pub returns-then-len-eq-PAGE-clause-page : goal.returns-then-len-eq-PAGE-clause-page
returns-then-len-eq-PAGE-clause-page c =
    c.pieces.invariant.text
    ∙ page_appended c.pieces.page.items c.pieces.self.piece.items (behind c.pieces.self) c.pieces.self.done c.min-count.result
    ∙ rw (c.in_ok-extend_from_slice.ensures.items, c.made-made.ensures) refl

pub pieces-smaller : goal.pieces-smaller
pieces-smaller c =
    rest_is_shorter (behind c.pieces.self) (made_of c.next_piece.new.self) (behind c.next_piece.new.self) c.in_ok-next_piece.ensures.behind
    (λ none. not_zero (length (made_of c.next_piece.new.self)) (rw c.made.ensures at c.if-is_empty.ensures) none)
