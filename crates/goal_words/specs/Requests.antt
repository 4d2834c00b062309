-- The command of a line or of a request of the code, and properties of its costs and sizes.
use Rattle.std.specs.Prelude.{◌≤◌}
use Rattle.goal_limits.specs.Limits.{size_limit, round_limit}
use Rattle.sim_params.specs.Numbers.{numbers}
use Rattle.goal_words.specs.declared.line.Line.{Line}
use Rattle.goal_words.specs.declared.request.Source.{Source}
use Rattle.goal_words.specs.declared.request.Costing.{Costing}
use Rattle.goal_words.specs.declared.request.View.{View}
use Rattle.goal_words.specs.declared.request.Request.{Request}
use Rattle.goal_words.specs.Words.{Pricing, ByNumbers, ByMachine, Unpriced, Command, asks, Sim, Waits, Knots, Nodes, Compile, Show, Gen, Certify, Probe}
use Rattle.goal_words.specs.declared.line.Line.TheVariants as line
use Rattle.goal_words.specs.declared.request.Source.TheVariants as source
use Rattle.goal_words.specs.declared.request.Costing.TheVariants as costing
use Rattle.goal_words.specs.declared.request.View.TheVariants as view

-- a view of a run
abbrev pub ShowsRun : View → Type 0
ShowsRun (view.Run how) = Unit {0}
ShowsRun view.Text = ⊥
ShowsRun (view.File name) = ⊥
ShowsRun (view.Verdict what) = ⊥

abbrev pub PricedFor : Pricing → View → Type 0
PricedFor (ByNumbers numbers) v = ShowsRun v
PricedFor (ByMachine name) v = ShowsRun v
PricedFor Unpriced v = ShowsRun v → ⊥

-- a view that shows a run has costs, and no other view has
abbrev pub IsPriced : Command → Type 0
IsPriced c = PricedFor c.costs c.view

-- the messages or rounds of a source are within their limits
abbrev pub IsSizedSource : Source → Type 0
IsSizedSource (source.File name) = Unit {0}
IsSizedSource (source.Made what ranks bytes) = bytes ≤ size_limit
IsSizedSource (source.Drawn rounds seed) = rounds ≤ round_limit

abbrev pub IsSized : Command → Type 0
IsSized c = IsSizedSource c.source

-- the command of a line
abbrev pub command : Line → Command
command (line.Sim name params) = Sim name (numbers params)
command (line.Waits name params) = Waits name (numbers params)
command (line.Knots name params) = Knots name (numbers params)
command (line.Nodes name machine) = Nodes name machine
command (line.Compile name out) = Compile name out
command (line.Show name) = Show name
command (line.Gen what ranks bytes) = Gen what ranks bytes
command (line.Certify what name) = Certify what name
command (line.Probe rounds seed params) = Probe rounds seed (numbers params)

-- the same for its parts
abbrev pub pricing : Costing → Pricing
pricing (costing.Params params) = ByNumbers (numbers params)
pricing (costing.Machine name) = ByMachine name
pricing costing.None = Unpriced

abbrev pub requested : Request → Command
requested s = asks s.source (pricing s.costs) s.view
