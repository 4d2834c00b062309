-- The notions of the laws of answers and outputs.
use Rattle.std.specs.Prelude.{ℕ, ◌≡◌, List, ◌⊎◌, Option, Some, None, IsSomeAnd}
use Rattle.goal_words.specs.declared.request.View.{View}
use Rattle.goal_words.specs.Words.{Command, Pricing, ByNumbers, ByMachine, Unpriced}
use Rattle.goal_cli.specs.Output.{Input}
use Rattle.sim_classes.specs.Form as form
use Rattle.goal_words.specs.declared.request.View.TheVariants as view
use Rattle.goal_base.specs.Device.{HostState}
use Rattle.goal_cli.specs.declared.answer.Status.{Status}
use Rattle.goal_cli.specs.Answer.{ForRead, line_for}
use Rattle.goal_cli.specs.declared.answer.Answer.TheVariants as answer
use Rattle.goal_cli.specs.declared.answer.Status.TheVariants as status

-- the view is a verdict, for some collective
abbrev pub IsVerdict : View → Type 0
IsVerdict (view.Run how) = ⊥
IsVerdict view.Text = ⊥
IsVerdict (view.File name) = ⊥
IsVerdict (view.Verdict what) = Unit {0}

abbrev pub IsCertify : Command → Type 0
IsCertify c = IsVerdict c.view

-- if there is a machine, the two texts describe the same one, or have the same fault
abbrev pub SaysSame : Pricing → List ℕ → List ℕ → Type 0
SaysSame (ByNumbers numbers) one other = Unit {0}
SaysSame (ByMachine name) one other = form.machine one ≡ form.machine other
SaysSame Unpriced one other = Unit {0}

abbrev pub IsSameMachine : Command → Input → Input → Type 0
IsSameMachine c input again = SaysSame c.costs input.machine again.machine

-- the same for what the command of the words reads
abbrev pub ForInput : Option Command → HostState → (Command → Input → Type 0) → Type 0
ForInput command host P = IsSomeAnd command (λ c. ForRead host c (P c))

-- the result is this status, or NoMemory
abbrev pub Answers : Status → Status → Type 0
Answers result s = (result ≡ s) ⊎ (result ≡ status.NoMemory)

-- the statuses with which nothing is written
abbrev pub IsSilent : Status → Type 0
IsSilent s = (s ≡ status.BadLine) ⊎ (s ≡ status.ReadFault) ⊎ (s ≡ status.Refused)

-- The lines to `err` of statuses that always write one fixed line; that of Refused also has the refusal's words.
abbrev pub line_at : Status → Option (List ℕ)
line_at status.BadLine = Some (line_for answer.BadLine)
line_at status.ReadFault = Some (line_for answer.ReadFault)
line_at status.WriteFault = Some (line_for answer.WriteFault)
line_at _ = None
