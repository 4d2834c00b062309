-- The sizes of a command are within their limits.
use Rattle.std.proofs.Common.{◌≡◌, ◌≤◌, ◌&&◌, ℕ, Bool, true, false, List, [], ◌∷◌, Option, Some, None, IfSome, codes, bytes_eq, nat_le, refl, subst, if◌then◌else◌}
use Rattle.std.specs.Option.{option_map, option_and_then}
use Rattle.std.proofs.lemmas.Bool.{leb-true}
use Rattle.goal_limits.specs.declared.limits.TheConstants.{MAX_RANKS, MAX_BYTES, MAX_ROUNDS}
use Rattle.sim_params.specs.Costs.{Numbers}
use Rattle.goal_words.specs.Options.{value_of, within_limits}
use Rattle.goal_words.specs.Words.{Command, Sim, Waits, Knots, Gen, Certify, Probe, sim_of, waits_of, knots_of, nodes_of, compile_of, show_of, gen_of, certify_of, probe_of, number_from, collective_of, command_by}
use Rattle.goal_words.specs.Requests.{IsSized}

number_at_most : (most n : ℕ) (low high : Bool) → nat_le n most ≡ high → IfSome (if low && high then Some n else None) (λ m. m ≤ most)
number_at_most most n true true h = leb-true n most h
number_at_most most n true false h = tt
number_at_most most n false high h = tt

number_from_at_most : (least most : ℕ) (w : List ℕ) → IfSome (number_from least most w) (λ m. m ≤ most)
number_from_at_most least most w = by (value_of w)
  where
    by : (o : Option ℕ) → IfSome (option_and_then (λ n. if nat_le least n && nat_le n most then Some n else None) o) (λ m. m ≤ most)
    by None = tt
    by (Some n) = number_at_most most n (nat_le least n) (nat_le n most) refl

map_is_sized : {X : Type 0} (f : X → Command) (o : Option X) → IfSome o (λ x. IsSized (f x)) → IfSome (option_map f o) IsSized
map_is_sized f None h = tt
map_is_sized f (Some x) h = h

and_then_is_sized : {X : Type 0} (f : X → Option Command) (o : Option X) → ((x : X) → IfSome (f x) IsSized) → IfSome (option_and_then f o) IsSized
and_then_is_sized f None h = tt
and_then_is_sized f (Some x) h = h x

if_some_always : {X : Type 0} (o : Option X) → IfSome o (λ x. Unit {0})
if_some_always None = tt
if_some_always (Some x) = tt

if_is_sized : (b : Bool) (x y : Option Command) → IfSome x IsSized → IfSome y IsSized → IfSome (if b then x else y) IsSized
if_is_sized true x y h k = h
if_is_sized false x y h k = k

sim_sized : (plain : List (List ℕ)) (params : Numbers) → IfSome (sim_of plain params) IsSized
sim_sized [] params = tt
sim_sized (name ∷ []) params = map_is_sized (Sim name) (within_limits params) (if_some_always (within_limits params))
sim_sized (name ∷ other ∷ plain) params = tt

waits_sized : (plain : List (List ℕ)) (params : Numbers) → IfSome (waits_of plain params) IsSized
waits_sized [] params = tt
waits_sized (name ∷ []) params = map_is_sized (Waits name) (within_limits params) (if_some_always (within_limits params))
waits_sized (name ∷ other ∷ plain) params = tt

knots_sized : (plain : List (List ℕ)) (params : Numbers) → IfSome (knots_of plain params) IsSized
knots_sized [] params = tt
knots_sized (name ∷ []) params = map_is_sized (Knots name) (within_limits params) (if_some_always (within_limits params))
knots_sized (name ∷ other ∷ plain) params = tt

nodes_sized : (plain : List (List ℕ)) → IfSome (nodes_of plain) IsSized
nodes_sized [] = tt
nodes_sized (name ∷ []) = tt
nodes_sized (name ∷ machine ∷ []) = tt
nodes_sized (name ∷ machine ∷ other ∷ plain) = tt

compile_sized : (plain : List (List ℕ)) → IfSome (compile_of plain) IsSized
compile_sized [] = tt
compile_sized (name ∷ []) = tt
compile_sized (name ∷ out ∷ []) = tt
compile_sized (name ∷ out ∷ other ∷ plain) = tt

show_sized : (plain : List (List ℕ)) → IfSome (show_of plain) IsSized
show_sized [] = tt
show_sized (name ∷ []) = tt
show_sized (name ∷ other ∷ plain) = tt

gen_sized : (plain : List (List ℕ)) (root : Option ℕ) → IfSome (gen_of plain root) IsSized
gen_sized [] root = tt
gen_sized (kind ∷ []) root = tt
gen_sized (kind ∷ ranks ∷ []) root = tt
gen_sized (kind ∷ ranks ∷ bytes ∷ []) root =
    and_then_is_sized _ (collective_of kind root)
    (λ what. and_then_is_sized _ (number_from 1 MAX_RANKS ranks) (λ n. map_is_sized (Gen what n) (number_from 0 MAX_BYTES bytes) (number_from_at_most 0 MAX_BYTES bytes)))
gen_sized (kind ∷ ranks ∷ bytes ∷ other ∷ plain) root = tt

certify_sized : (plain : List (List ℕ)) (root : Option ℕ) → IfSome (certify_of plain root) IsSized
certify_sized [] root = tt
certify_sized (kind ∷ []) root = tt
certify_sized (kind ∷ name ∷ []) root = map_is_sized (λ what. Certify what name) (collective_of kind root) (if_some_always (collective_of kind root))
certify_sized (kind ∷ name ∷ other ∷ plain) root = tt

probe_with_seed_is_sized : (seed : List ℕ) (params : Numbers) (n : ℕ) → n ≤ MAX_ROUNDS
    → IfSome (option_and_then (λ (s : ℕ). option_map (Probe n s) (within_limits params)) (value_of seed)) IsSized
probe_with_seed_is_sized seed params n few = and_then_is_sized _ (value_of seed) (λ s. by s (within_limits params))
  where
    by : (s : ℕ) (o : Option Numbers) → IfSome (option_map (Probe n s) o) IsSized
    by s None = tt
    by s (Some p) = few

probe_with_rounds_is_sized : (seed : List ℕ) (params : Numbers) (o : Option ℕ) → IfSome o (λ n. n ≤ MAX_ROUNDS)
    → IfSome (option_and_then (λ (n : ℕ). option_and_then (λ (s : ℕ). option_map (Probe n s) (within_limits params)) (value_of seed)) o) IsSized
probe_with_rounds_is_sized seed params None few = tt
probe_with_rounds_is_sized seed params (Some n) few = probe_with_seed_is_sized seed params n few

probe_sized : (plain : List (List ℕ)) (params : Numbers) → IfSome (probe_of plain params) IsSized
probe_sized [] params = tt
probe_sized (rounds ∷ []) params = tt
probe_sized (rounds ∷ seed ∷ []) params = probe_with_rounds_is_sized seed params (number_from 1 MAX_ROUNDS rounds) (number_from_at_most 1 MAX_ROUNDS rounds)
probe_sized (rounds ∷ seed ∷ other ∷ plain) params = tt

command_sized : (first : List ℕ) (plain : List (List ℕ)) (params : Numbers) (root : Option ℕ) → IfSome (command_by first plain params root) IsSized
command_sized first plain params root =
    if_is_sized (bytes_eq first (codes "sim")) _ _ (sim_sized plain params)
    (if_is_sized (bytes_eq first (codes "waits")) _ _ (waits_sized plain params)
    (if_is_sized (bytes_eq first (codes "knots")) _ _ (knots_sized plain params)
    (if_is_sized (bytes_eq first (codes "nodes")) _ _ (nodes_sized plain)
    (if_is_sized (bytes_eq first (codes "compile")) _ _ (compile_sized plain)
    (if_is_sized (bytes_eq first (codes "show")) _ _ (show_sized plain) (if_is_sized (bytes_eq first (codes "gen")) _ _ (gen_sized plain root)
    (if_is_sized (bytes_eq first (codes "certify")) _ _ (certify_sized plain root) (if_is_sized (bytes_eq first (codes "probe")) _ _ (probe_sized plain params) tt))))))))

pub command_by_is_sized : (first : List ℕ) (plain : List (List ℕ)) (params : Numbers) (root : Option ℕ) (c : Command) → command_by first plain params root ≡ Some c → IsSized c
command_by_is_sized first plain params root c is = subst (λ o. IfSome o IsSized) is (command_sized first plain params root)
