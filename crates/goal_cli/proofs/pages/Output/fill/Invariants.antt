use Rattle.std.proofs.Common.{◌≡◌, ◌≤◌, ◌++◌, length}
use Rattle.goal_cli.specs.declared.pages.TheConstants.{PAGE}
use Rattle.goal_cli.specs.Pages.{behind, text_of}
use Rattle.goal_cli.proofs.pages.Output.fill.Given as goal

-- what is on the page, followed by what is not yet written
abbrev pub invariant-pieces : goal.invariant-pieces
invariant-pieces l =
    record {
      text : text_of l.initial.self ≡ l.page.items ++ text_of l.self;
      room : length l.page.items ≤ PAGE;
    }

abbrev pub decreases-pieces : goal.decreases-pieces
decreases-pieces l = length (behind l.self)
