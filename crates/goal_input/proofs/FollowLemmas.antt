-- A reader of a text at the beginning and at the end.
use Rattle.std.proofs.Common.{◌≡◌, ℕ, List, [], Option, Some, None, refl, sym, ap, subst, ◌∙◌}
use Rattle.std.proofs.lemmas.List.{append-nil}
use Rattle.goal_parser.specs.declared.faults.TextFault.{TextFault}
use Rattle.goal_parser.specs.declared.pieces.TextReader.{TextReader}
use Rattle.goal_parser.specs.Reads.{reads, faulty, IsFaultOf}
use Rattle.goal_parser.specs.TextRead.{HasRead, bytes_read, fault_met}
use Rattle.goal_input.specs.Follows.{FollowsAt, Follows}

-- it has read no byte
pub fresh : (r : TextReader) → HasRead r [] → bytes_read r ≡ 0 → Follows r []
fresh r read place = subst (λ (o : Option TextFault). FollowsAt o r []) (sym read.faultless) (read, place)

-- the fault at the end is that of the text, whether it came now or before
module _ (r : TextReader) (input : List ℕ) (f : TextFault) (now : (text : List ℕ) → HasRead r text → IsFaultOf (reads text) f) (again : (g : TextFault) → fault_met r ≡ Some g → g ≡ f) where
  fails_as : (o : Option TextFault) → fault_met r ≡ o → FollowsAt o r input → IsFaultOf (reads input) f
  fails_as None is at = now input at.0
  fails_as (Some g) is at =
      let said : reads input ≡ faulty g = ap reads (sym (append-nil input)) ∙ at.1 [] in
      rw said (again g is)

  pub fault_at_end_is_of_text : Follows r input → IsFaultOf (reads input) f
  fault_at_end_is_of_text follows = fails_as (fault_met r) refl follows
