use Rattle.std.proofs.Common.{sym, ap, subst, List, [], reverse}
use Rattle.goal_lexer.specs.declared.tokens.Token.{Token}
use Rattle.goal_parser.specs.Reads.{first_fault}
use Rattle.goal_parser.specs.Taken.{HasTaken}
use Rattle.goal_parser.proofs.reader.Reader.new.Goals as goal

pub returns-clause-stands : goal.returns-clause-stands
unfolding first_fault
returns-clause-stands c = record {
  lexer = c.new.ensures.stands;
  passed = ap (first_fault []) c.new.ensures.handed;
  taken = subst (λ (ts : List Token). HasTaken c.new-2.result (reverse ts)) (sym c.new.ensures.handed) c.new-2.ensures;
}
