-- Each fault of a text is returned, unless memory runs out.
use Rattle.std.proofs.Common.{◌≡◌, ◌≢◌, ◌⊎◌, inl, inr, List, ℕ, Result, Ok, Err, IfOk, IfErr, IsErrOf, sym, ap, subst, ◌∙◌, refl}
use Rattle.goal_graph.specs.Schedule.{Plan}
use Rattle.goal_graph.specs.Fault.{IsAccepted}
use Rattle.goal_graph.proofs.ForCallers.{IsAccepted-no_fault, IsFault-unique}
use Rattle.goal_parser.specs.declared.faults.TextFault.{TextFault}
use Rattle.goal_parser.specs.declared.faults.TextFault.TheVariants as fault
use Rattle.goal_parser.specs.Reads.{Reading, reads, plans, faulty, IsFaultOf}

-- a text has at most one fault, and none if its plans are a schedule
text_fault_unique : (r : Reading) (f g : TextFault) → IsFaultOf r f → IsFaultOf r g → f ≡ g
text_fault_unique (faulty first) f g is other = sym is ∙ other
text_fault_unique (plans ps) (fault.Plan f) (fault.Plan g) is other = ap fault.Plan (IsFault-unique ps f g is other)
text_fault_unique (plans ps) (fault.Plan f) _ is other = absurd other
text_fault_unique (plans ps) _ g is other = absurd is

accepted_text_no_fault : (ps : List Plan) (f : TextFault) → IsAccepted ps → IsFaultOf (plans ps) f → ⊥
accepted_text_no_fault ps (fault.Plan f) accepted is = IsAccepted-no_fault ps f accepted is
accepted_text_no_fault ps _ accepted is = is

is_no_memory_or_not : (f : TextFault) → (f ≡ fault.NoMemory) ⊎ (f ≢ fault.NoMemory)
is_no_memory_or_not fault.NoMemory = inl refl
is_no_memory_or_not (fault.Lex at) = inr (λ e. cc)
is_no_memory_or_not (fault.Syntax at) = inr (λ e. cc)
is_no_memory_or_not (fault.Number at) = inr (λ e. cc)
is_no_memory_or_not (fault.Rank at) = inr (λ e. cc)
is_no_memory_or_not (fault.Repeat at) = inr (λ e. cc)
is_no_memory_or_not (fault.TooMany at) = inr (λ e. cc)
is_no_memory_or_not (fault.UnknownLabel at) = inr (λ e. cc)
is_no_memory_or_not (fault.Plan rule) = inr (λ e. cc)

pub fault_is_returned : (text : List ℕ) (r : Result (List Plan) TextFault) → IfOk r (λ ps. reads text ≡ plans ps) → IfOk r (λ ps. IsAccepted ps)
    → IfErr r (λ f. f ≢ fault.NoMemory → IsFaultOf (reads text) f) → (f : TextFault) → IsFaultOf (reads text) f → IsErrOf r f ⊎ IsErrOf r fault.NoMemory
fault_is_returned text (Ok ps) says accepted told f is = absurd (accepted_text_no_fault ps f accepted (subst (λ (r : Reading). IsFaultOf r f) says is))
fault_is_returned text (Err g) says accepted told f is = either (is_no_memory_or_not g)
  where
    either : (g ≡ fault.NoMemory) ⊎ (g ≢ fault.NoMemory) → (IsErrOf {T = List Plan} (Err g) f) ⊎ (IsErrOf {T = List Plan} (Err g) fault.NoMemory)
    either (inl e) = inr (ap Err e)
    either (inr other) = inl (ap Err (text_fault_unique (reads text) g f (told other) is))
