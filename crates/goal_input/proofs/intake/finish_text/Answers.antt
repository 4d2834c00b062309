use Rattle.std.proofs.Common.{◌≢◌, rules}
use Rattle.goal_parser.specs.declared.faults.TextFault.TheVariants as text
use Rattle.goal_input.proofs.FollowLemmas.{fault_at_end_is_of_text}
use Rattle.goal_input.proofs.intake.finish_text.Goals as goal

pub returns-in-Err : goal.returns-in-Err
returns-in-Err c =
    let told : c.in-Err.fault ≢ text.NoMemory = search rules in
    record {
      read = tt;
      input_fault = λ input short form follows. record {
        short = short;
        form = form;
        told = told;
        first = fault_at_end_is_of_text c.args.reader input c.in-Err.fault (c.in-Err.ensures.fault told) (λ g is. let h = c.in-Err.ensures.again g is in cc) follows;
      };
    }
