use Rattle.std.proofs.Common.{sym, ◌∙◌}
use Rattle.std.proofs.lemmas.Bool.{and_parts}
use Rattle.sim_match.proofs.list_numbers.ListNumbers.of.Goals as goal

pub returns : goal.returns
returns c =
    let named = and_parts _ _ (sym c.name_all.ensures ∙ c.if-not-name_all.false) in
    record {
      keys = c.in_ok-patterns.patterns;
      listed = c.in_ok-patterns.ensures.listed;
      few = c.in_ok-own.ensures.few;
      own = c.in_ok-own.ensures.numbers;
      count = c.len.ensures;
      sought = record { sources = named.0; tags = named.1 };
    }
