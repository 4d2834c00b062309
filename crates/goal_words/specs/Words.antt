-- The command lines of `goal`, by the words after the program's name.
use Rattle.std.specs.Prelude.{ℕ, ◌||◌, ◌&&◌, nat_le, List, [], ◌∷◌, Option, Some, None, is_some, unwrap_or, map, codes, bytes_eq, string_bytes, if◌then◌else◌}
use Rattle.std.specs.Option.{option_map, option_and_then}
use Rattle.std.specs.declared.alloc.Global.{Global}
use Rattle.std.specs.declared.string.String.{String}
use Rattle.goal_limits.specs.Limits.{rank_limit, size_limit, round_limit}
use Rattle.goal_limits.specs.declared.collective.Collective.{Collective}
use Rattle.goal_limits.specs.declared.collective.Collective.TheVariants.{Bcast, Barrier, Allgather, Allreduce, Alltoall, Reduce, Gather, Scatter, ReduceScatter, Scan}
use Rattle.sim_params.specs.Costs.{Numbers}
use Rattle.sim_params.specs.Numbers.{numbers}
use Rattle.goal_words.specs.Limits.{root_limit}
use Rattle.goal_words.specs.declared.request.Source.{Source}
use Rattle.goal_words.specs.declared.request.Source.TheVariants as source
use Rattle.goal_words.specs.declared.request.RunView.TheVariants as run
use Rattle.goal_words.specs.declared.request.View.{View}
use Rattle.goal_words.specs.declared.request.View.TheVariants as view
use Rattle.goal_words.specs.Options.{Role, run_options, root_option, value_of, roles, plain_words, are_right, value_at, numbers_of, within_limits}

-- What the actions of a schedule cost.
pub data Pricing : Type 0 where
  -- by parameters with these numbers
  ByNumbers : Numbers → Pricing
  -- by the machine described in the file of that name
  ByMachine : List ℕ → Pricing
  -- no costs, since nothing is run
  Unpriced : Pricing

-- A command line asks for one thing: a schedule from a source, priced by costs, is shown in a view.
pub record Command : Type 0 where
  pub source : Source
  pub costs : Pricing
  pub view : View

abbrev pub asks : Source → Pricing → View → Command
asks source costs view = record { source = source; costs = costs; view = view }

-- run the schedule of the file with these parameters, and print the run
abbrev pub Sim : List ℕ → Numbers → Command
Sim name numbers = asks (source.File name) (ByNumbers numbers) (view.Run run.Printed)

-- run it in the same way, and report how long its operations waited
abbrev pub Waits : List ℕ → Numbers → Command
Waits name numbers = asks (source.File name) (ByNumbers numbers) (view.Run run.Waits)

-- run it in the same way, and print the knots of its stuck operations
abbrev pub Knots : List ℕ → Numbers → Command
Knots name numbers = asks (source.File name) (ByNumbers numbers) (view.Run run.Knots)

-- run it with the costs of the machine described in the second file, and print the run
abbrev pub Nodes : List ℕ → List ℕ → Command
Nodes name machine = asks (source.File name) (ByMachine machine) (view.Run run.Printed)

-- write its compiled file to the second file
abbrev pub Compile : List ℕ → List ℕ → Command
Compile name out = asks (source.File name) Unpriced (view.File out)

-- print its canonical text
abbrev pub Show : List ℕ → Command
Show name = asks (source.File name) Unpriced view.Text

-- print the canonical text of the schedule generated for the collective, for these ranks and bytes
abbrev pub Gen : Collective → ℕ → ℕ → Command
Gen what ranks bytes = asks (source.Made what ranks bytes) Unpriced view.Text

-- report whether the schedule of the file is right for the collective
abbrev pub Certify : Collective → List ℕ → Command
Certify what name = asks (source.File name) Unpriced (view.Verdict what)

-- run the probe of this number of rounds, drawn from a seed, with these parameters, and print a summary
abbrev pub Probe : ℕ → ℕ → Numbers → Command
Probe rounds seed numbers = asks (source.Drawn rounds seed) (ByNumbers numbers) (view.Run run.Sum)

-- the options that a command allows, by its first word
abbrev pub options_of : List ℕ → List (List ℕ)
options_of first =
    if bytes_eq first (codes "sim") || bytes_eq first (codes "waits") || bytes_eq first (codes "knots") || bytes_eq first (codes "probe") then run_options
    else (if bytes_eq first (codes "gen") || bytes_eq first (codes "certify") then root_option else [])

-- a number within these limits
abbrev pub number_from : ℕ → ℕ → List ℕ → Option ℕ
number_from least most w = option_and_then (λ n. if nat_le least n && nat_le n most then Some n else None) (value_of w)

-- the root: 0 if `--root` is not given
abbrev pub root_of : Option ℕ → Option ℕ
root_of root = if nat_le (unwrap_or root 0) root_limit then Some (unwrap_or root 0) else None

-- a collective that has a root
abbrev pub rooted : (ℕ → Collective) → Option ℕ → Option Collective
rooted what root = option_map what (root_of root)

-- a collective without a root, for which `--root` may not be given
abbrev pub rootless : Collective → Option ℕ → Option Collective
rootless what root = if is_some root then None else Some what

-- the collective of a KIND, with the value of `--root`
abbrev pub collective_of : List ℕ → Option ℕ → Option Collective
collective_of kind root =
    if bytes_eq kind (codes "bcast") then rooted Bcast root
    else (if bytes_eq kind (codes "barrier") then rootless Barrier root
    else (if bytes_eq kind (codes "allgather") then rootless Allgather root
    else (if bytes_eq kind (codes "allreduce") then rootless Allreduce root
    else (if bytes_eq kind (codes "alltoall") then rootless Alltoall root
    else (if bytes_eq kind (codes "reduce") then rooted Reduce root
    else (if bytes_eq kind (codes "gather") then rooted Gather root
    else (if bytes_eq kind (codes "scatter") then rooted Scatter root
    else (if bytes_eq kind (codes "reduce_scatter") then rootless ReduceScatter root
    else (if bytes_eq kind (codes "scan") then rootless Scan root else None)))))))))

-- `sim NAME`, with parameters
abbrev pub sim_of : List (List ℕ) → Numbers → Option Command
sim_of (name ∷ []) params = option_map (Sim name) (within_limits params)
sim_of _ params = None

-- `waits NAME`, with parameters
abbrev pub waits_of : List (List ℕ) → Numbers → Option Command
waits_of (name ∷ []) params = option_map (Waits name) (within_limits params)
waits_of _ params = None

-- `knots NAME`, with parameters
abbrev pub knots_of : List (List ℕ) → Numbers → Option Command
knots_of (name ∷ []) params = option_map (Knots name) (within_limits params)
knots_of _ params = None

-- `nodes NAME MACHINE`
abbrev pub nodes_of : List (List ℕ) → Option Command
nodes_of (name ∷ machine ∷ []) = Some (Nodes name machine)
nodes_of _ = None

-- `compile NAME OUT`
abbrev pub compile_of : List (List ℕ) → Option Command
compile_of (name ∷ out ∷ []) = Some (Compile name out)
compile_of _ = None

-- `show NAME`
abbrev pub show_of : List (List ℕ) → Option Command
show_of (name ∷ []) = Some (Show name)
show_of _ = None

-- `gen KIND RANKS BYTES`, with the value of `--root`
abbrev pub gen_of : List (List ℕ) → Option ℕ → Option Command
gen_of (kind ∷ ranks ∷ bytes ∷ []) root =
    option_and_then (λ what.
    option_and_then (λ (n : ℕ).
    option_map (Gen what n) (number_from 0 size_limit bytes)) (number_from 1 rank_limit ranks)) (collective_of kind root)
gen_of _ root = None

-- `certify KIND NAME`, with the value of `--root`
abbrev pub certify_of : List (List ℕ) → Option ℕ → Option Command
certify_of (kind ∷ name ∷ []) root = option_map (λ what. Certify what name) (collective_of kind root)
certify_of _ root = None

-- `probe ROUNDS SEED`, with parameters
abbrev pub probe_of : List (List ℕ) → Numbers → Option Command
probe_of (rounds ∷ seed ∷ []) params =
    option_and_then (λ (n : ℕ).
    option_and_then (λ (s : ℕ).
    option_map (Probe n s) (within_limits params)) (value_of seed)) (number_from 1 round_limit rounds)
probe_of _ params = None

-- the command of the first word, from the plain words, the parameters and the value of `--root`
abbrev pub command_by : List ℕ → List (List ℕ) → Numbers → Option ℕ → Option Command
command_by first plain params root =
    if bytes_eq first (codes "sim") then sim_of plain params
    else (if bytes_eq first (codes "waits") then waits_of plain params
    else (if bytes_eq first (codes "knots") then knots_of plain params
    else (if bytes_eq first (codes "nodes") then nodes_of plain
    else (if bytes_eq first (codes "compile") then compile_of plain
    else (if bytes_eq first (codes "show") then show_of plain
    else (if bytes_eq first (codes "gen") then gen_of plain root
    else (if bytes_eq first (codes "certify") then certify_of plain root
    else (if bytes_eq first (codes "probe") then probe_of plain params else None))))))))

-- the roles of the words of a line after the first
abbrev pub line_roles : List ℕ → List (List ℕ) → List Role
line_roles first words = roles (options_of first) first words

-- the command of these words
abbrev pub command_of : List (List ℕ) → Option Command
command_of [] = None
command_of (first ∷ words) =
    if are_right (line_roles first words)
    then command_by first (plain_words (line_roles first words)) (numbers_of (line_roles first words)) (value_at (codes "--root") (line_roles first words))
    else None

-- the same for words as the code has them
abbrev pub command_in : List (String Global) → Option Command
command_in words = command_of (map string_bytes words)
