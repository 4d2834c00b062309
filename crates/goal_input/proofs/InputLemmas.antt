-- An input means one schedule, or has one fault.
use Rattle.std.proofs.Common.{◌≡◌, ℕ, ◌<◌, ◌^◌, Bool, true, false, List, length, Result, sym, arith, ◌∙◌}
use Rattle.std.specs.declared.result.Result.TheVariants.{Ok, Err}
use Rattle.goal_graph.specs.Schedule.{Plan}
use Rattle.goal_graph.specs.Fault.{IsAccepted}
use Rattle.goal_graph.proofs.ForCallers.{IsFault-unique, IsAccepted-no_fault}
use Rattle.goal_parser.specs.declared.faults.TextFault.{TextFault}
use Rattle.goal_parser.specs.declared.faults.TextFault.TheVariants as text
use Rattle.goal_parser.specs.Reads as said
use Rattle.goal_parser.specs.Reads.{Reading, plans, faulty, reads}
use Rattle.goal_binary.specs.declared.fault.FileFault.{FileFault}
use Rattle.goal_binary.specs.declared.fault.FileFault.TheVariants as file
use Rattle.goal_binary.specs.Meaning as meant
use Rattle.goal_binary.specs.Meaning.{meaning}
use Rattle.goal_input.specs.Input.{is_compiled, SaysBy, IsReadAs, IsTextFault, IsFaultOfFile}

same_text : (p q : List Plan) → plans p ≡ plans q → p ≡ q
same_text p q h = cc

same_meaning : (p q : List Plan) → ◌≡◌ {A = Result (List Plan) FileFault} (Ok p) (Ok q) → p ≡ q
same_meaning p q h = cc

same_plans_by_kind : (b : Bool) (input : List ℕ) (p q : List Plan) → SaysBy b input p → SaysBy b input q → p ≡ q
same_plans_by_kind true input p q a b = same_meaning p q (sym a ∙ b)
same_plans_by_kind false input p q a b = same_text p q (sym a ∙ b)

-- an input means at most one schedule
pub same_schedule : (input : List ℕ) (p q : List Plan) → IsReadAs input p → IsReadAs input q → p ≡ q
same_schedule input p q a b = same_plans_by_kind (is_compiled input) input p q a.says b.says

-- a text has one fault
text_fault_of_plans_unique : (p : List Plan) (f g : TextFault) → said.IsFaultOfPlans p f → said.IsFaultOfPlans p g → f ≡ g
text_fault_of_plans_unique p (text.Plan f) (text.Plan g) a b = let same = IsFault-unique p f g a b in cc
text_fault_of_plans_unique p (text.Plan f) (text.Lex at) a b = absurd b
text_fault_of_plans_unique p (text.Plan f) (text.Syntax at) a b = absurd b
text_fault_of_plans_unique p (text.Plan f) (text.Number at) a b = absurd b
text_fault_of_plans_unique p (text.Plan f) (text.Rank at) a b = absurd b
text_fault_of_plans_unique p (text.Plan f) (text.Repeat at) a b = absurd b
text_fault_of_plans_unique p (text.Plan f) (text.TooMany at) a b = absurd b
text_fault_of_plans_unique p (text.Plan f) (text.UnknownLabel at) a b = absurd b
text_fault_of_plans_unique p (text.Plan f) text.NoMemory a b = absurd b
text_fault_of_plans_unique p (text.Lex at) g a b = absurd a
text_fault_of_plans_unique p (text.Syntax at) g a b = absurd a
text_fault_of_plans_unique p (text.Number at) g a b = absurd a
text_fault_of_plans_unique p (text.Rank at) g a b = absurd a
text_fault_of_plans_unique p (text.Repeat at) g a b = absurd a
text_fault_of_plans_unique p (text.TooMany at) g a b = absurd a
text_fault_of_plans_unique p (text.UnknownLabel at) g a b = absurd a
text_fault_of_plans_unique p text.NoMemory g a b = absurd a

fault_of_reading_unique : (r : Reading) (f g : TextFault) → said.IsFaultOf r f → said.IsFaultOf r g → f ≡ g
fault_of_reading_unique (faulty first) f g a b = sym a ∙ b
fault_of_reading_unique (plans p) f g a b = text_fault_of_plans_unique p f g a b

pub same_text_fault : (input : List ℕ) (f g : TextFault) → IsTextFault input f → IsTextFault input g → f ≡ g
same_text_fault input f g a b = fault_of_reading_unique (reads input) f g a.first b.first

-- so has a compiled file
file_fault_of_plans_unique : (p : List Plan) (f g : FileFault) → meant.IsFaultOfPlans p f → meant.IsFaultOfPlans p g → f ≡ g
file_fault_of_plans_unique p (file.Plan f) (file.Plan g) a b = let same = IsFault-unique p f g a b in cc
file_fault_of_plans_unique p (file.Plan f) (file.Short at) a b = absurd b
file_fault_of_plans_unique p (file.Plan f) file.Magic a b = absurd b
file_fault_of_plans_unique p (file.Plan f) (file.Version found) a b = absurd b
file_fault_of_plans_unique p (file.Plan f) (file.Field at) a b = absurd b
file_fault_of_plans_unique p (file.Plan f) (file.Extra at) a b = absurd b
file_fault_of_plans_unique p (file.Plan f) file.NoMemory a b = absurd b
file_fault_of_plans_unique p (file.Short at) g a b = absurd a
file_fault_of_plans_unique p file.Magic g a b = absurd a
file_fault_of_plans_unique p (file.Version found) g a b = absurd a
file_fault_of_plans_unique p (file.Field at) g a b = absurd a
file_fault_of_plans_unique p (file.Extra at) g a b = absurd a
file_fault_of_plans_unique p file.NoMemory g a b = absurd a

fault_of_meaning_unique : (r : Result (List Plan) FileFault) (f g : FileFault) → meant.IsFaultOf r f → meant.IsFaultOf r g → f ≡ g
fault_of_meaning_unique (Err first) f g a b = sym a ∙ b
fault_of_meaning_unique (Ok p) f g a b = file_fault_of_plans_unique p f g a b

pub same_file_fault : (input : List ℕ) (f g : FileFault) → IsFaultOfFile input f → IsFaultOfFile input g → f ≡ g
same_file_fault input f g a b = fault_of_meaning_unique (meaning input) f g a.first b.first

-- it is a text or a compiled file
pub not_both : (input : List ℕ) (f : TextFault) (g : FileFault) → IsTextFault input f → IsFaultOfFile input g → ⊥
not_both input f g a b = let h = sym a.form ∙ b.form in cc

-- accepted plans have no fault
no_fault_of_text : (p : List Plan) (f : TextFault) → IsAccepted p → said.IsFaultOfPlans p f → ⊥
no_fault_of_text p (text.Plan f) accepted a = IsAccepted-no_fault p f accepted a
no_fault_of_text p (text.Lex at) accepted a = a
no_fault_of_text p (text.Syntax at) accepted a = a
no_fault_of_text p (text.Number at) accepted a = a
no_fault_of_text p (text.Rank at) accepted a = a
no_fault_of_text p (text.Repeat at) accepted a = a
no_fault_of_text p (text.TooMany at) accepted a = a
no_fault_of_text p (text.UnknownLabel at) accepted a = a
no_fault_of_text p text.NoMemory accepted a = a

no_fault_of_file : (p : List Plan) (f : FileFault) → IsAccepted p → meant.IsFaultOfPlans p f → ⊥
no_fault_of_file p (file.Plan f) accepted a = IsAccepted-no_fault p f accepted a
no_fault_of_file p (file.Short at) accepted a = a
no_fault_of_file p file.Magic accepted a = a
no_fault_of_file p (file.Version found) accepted a = a
no_fault_of_file p (file.Field at) accepted a = a
no_fault_of_file p (file.Extra at) accepted a = a
no_fault_of_file p file.NoMemory accepted a = a

-- an input that means a schedule has no fault, and is not too long
accepted_text_has_no_fault : (b : Bool) (input : List ℕ) (p : List Plan) (f : TextFault) → b ≡ false → said.IsFaultOf (reads input) f → IsAccepted p → SaysBy b input p → ⊥
accepted_text_has_no_fault true input p f form first accepted says = cc
accepted_text_has_no_fault false input p f form first accepted says = no_fault_of_text p f accepted (rw says at first)

pub no_text_fault : (input : List ℕ) (p : List Plan) (f : TextFault) → IsTextFault input f → IsReadAs input p → ⊥
no_text_fault input p f a b = accepted_text_has_no_fault (is_compiled input) input p f a.form a.first b.accepted b.says

accepted_file_has_no_fault : (b : Bool) (input : List ℕ) (p : List Plan) (f : FileFault) → b ≡ true → meant.IsFileFault input f → IsAccepted p → SaysBy b input p → ⊥
accepted_file_has_no_fault true input p f form first accepted says = no_fault_of_file p f accepted (rw says at first)
accepted_file_has_no_fault false input p f form first accepted says = cc

pub no_file_fault : (input : List ℕ) (p : List Plan) (f : FileFault) → IsFaultOfFile input f → IsReadAs input p → ⊥
no_file_fault input p f a b = accepted_file_has_no_fault (is_compiled input) input p f a.form a.first b.accepted b.says

pub not_too_long : (input : List ℕ) (p : List Plan) → 2 ^ 27 < length input → IsReadAs input p → ⊥
not_too_long input p long read = let h = read.short in omega arith
