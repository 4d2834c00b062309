use Rattle.std.proofs.Common.{◌≡◌, ◌∷◌, ℕ, false, List, Option, None, Some, IfOk, IfSome, IsErrOf, Result, ◌⊎◌, inl, inr, map, string_bytes, refl, sym, ap, ◌∙◌}
use Rattle.std.specs.Option.{option_and_then}
use Rattle.std.specs.declared.alloc.Global.{Global}
use Rattle.std.specs.declared.string.String.{String}
use Rattle.std.specs.declared.result.Result.TheVariants.{Ok, Err}
use Rattle.sim_params.specs.Costs.{Numbers}
use Rattle.goal_words.specs.declared.line.Line.{Line}
use Rattle.goal_words.specs.declared.line.LineFault.{LineFault}
use Rattle.goal_words.specs.declared.line.LineFault.TheVariants.{Bad, NoMemory}
use Rattle.goal_words.specs.declared.options.AllowedOptions.{AllowedOptions}
use Rattle.goal_words.specs.Words.{Command, command_by, command_in, command_of, options_of}
use Rattle.goal_words.specs.Requests.{command, IsSized}
use Rattle.goal_words.specs.Reading.{Parts, numbers_given, words_of, parts_in, none_given, left, listed, are_one_to_three}
use Rattle.goal_words.proofs.SizeLemmas.{command_by_is_sized}
use Rattle.goal_words.proofs.PartsLemmas.{command_read, command_needs_one_to_three_words}
use Rattle.goal_words.proofs.line.read_words.Goals as goal

abbrev command_by_parts : List ℕ → Option Parts → Option Command
command_by_parts first o = option_and_then (λ parts. command_by first parts.plain (numbers_given parts.given) parts.given.root) o

command_from_parts_of_words : (first : List ℕ) (s : String Global) (words all : List (String Global)) (taken : AllowedOptions) (o : Option Parts) → all ≡ s ∷ words → first ≡ string_bytes s
    → words_of taken ≡ options_of first → o ≡ parts_in taken none_given (map string_bytes words) → command_in all ≡ command_by_parts first o
command_from_parts_of_words first s words all taken o split text same is =
    ap command_in split
    ∙ (ap (λ w. command_of (w ∷ map string_bytes words)) (sym text) ∙ (command_read taken first (map string_bytes words) same ∙ ap (command_by_parts first) (sym is)))

ok_line_is_sized : (r : Result Line LineFault) (first : List ℕ) (plain : List (List ℕ)) (params : Numbers) (root : Option ℕ)
    → IfOk r (λ line. command_by first plain params root ≡ Some (command line)) → IfOk r (λ line. IsSized (command line))
ok_line_is_sized (Ok line) first plain params root is = command_by_is_sized first plain params root (command line) is
ok_line_is_sized (Err fault) first plain params root is = tt

no_command_is_bad_or_no_memory : (r : Result Line LineFault) (o : Option Command) → IfOk r (λ line. o ≡ Some (command line)) → o ≡ None → IsErrOf r Bad ⊎ IsErrOf r NoMemory
no_command_is_bad_or_no_memory (Ok line) o is none = let e : None ≡ Some (command line) = sym none ∙ is in absurd cc
no_command_is_bad_or_no_memory (Err Bad) o is none = inl refl
no_command_is_bad_or_no_memory (Err NoMemory) o is none = inr refl

no_command_unless_one_to_three_plain_words : (first : List ℕ) (o : Option Parts) → IfSome o (λ parts. are_one_to_three parts.plain ≡ false) → command_by_parts first o ≡ None
no_command_unless_one_to_three_plain_words first None few = refl
no_command_unless_one_to_three_plain_words first (Some parts) few = command_needs_one_to_three_words first parts.plain (numbers_given parts.given) parts.given.root few

pub returns-in-Some-parts-clause-line : goal.returns-in-Some-parts-clause-line
returns-in-Some-parts-clause-line c =
    let first = c.as_str-first.result.now in
    let e = command_from_parts_of_words first c.in-Some.first.now c.in-Some.words.now c.args.words.now c.taken_by.result (left c.new.result) c.in-Some.ensures.cases.0 c.as_str-first.ensures.value c.taken_by.ensures c.new.ensures in
    rw (e, c.in-Some-parts.ensures) c.read_line.ensures.line

pub returns-in-Some-parts-clause-sized : goal.returns-in-Some-parts-clause-sized
returns-in-Some-parts-clause-sized c =
    let first = c.as_str-first.result.now in
    ok_line_is_sized c.read_line.result first (listed c.in-Some-parts.plain) (numbers_given c.in-Some-parts.given) c.in-Some-parts.given.root c.read_line.ensures.line

pub returns-in-Some-parts-clause-bad : goal.returns-in-Some-parts-clause-bad
returns-in-Some-parts-clause-bad c =
    let first = c.as_str-first.result.now in
    let e = command_from_parts_of_words first c.in-Some.first.now c.in-Some.words.now c.args.words.now c.taken_by.result (left c.new.result) c.in-Some.ensures.cases.0 c.as_str-first.ensures.value c.taken_by.ensures c.new.ensures in
    rw (e, c.in-Some-parts.ensures) c.read_line.ensures.bad

pub returns-in-Some-parts-clause-bad_exact : goal.returns-in-Some-parts-clause-bad_exact
returns-in-Some-parts-clause-bad_exact c =
    let first = c.as_str-first.result.now in
    let e = command_from_parts_of_words first c.in-Some.first.now c.in-Some.words.now c.args.words.now c.taken_by.result (left c.new.result) c.in-Some.ensures.cases.0 c.as_str-first.ensures.value c.taken_by.ensures c.new.ensures in
    λ none. no_command_is_bad_or_no_memory c.read_line.result (command_in c.args.words.now) (rw (e, c.in-Some-parts.ensures) c.read_line.ensures.line) none

pub returns-in-None-clause-bad : goal.returns-in-None-clause-bad
returns-in-None-clause-bad c =
    let first = c.as_str-first.result.now in
    let e = command_from_parts_of_words first c.in-Some.first.now c.in-Some.words.now c.args.words.now c.taken_by.result (left c.new.result) c.in-Some.ensures.cases.0 c.as_str-first.ensures.value c.taken_by.ensures c.new.ensures in
    λ _. e ∙ no_command_unless_one_to_three_plain_words first (left c.new.result) c.in-None.ensures
