-- The laws of machines.
use Rattle.std.proofs.Common.{ℕ, Bool, true, false, Option, Some, None, ◌≡◌, ◌<◌, ◌==◌, length, slice_get, unwrap_or, if◌then◌else◌, refl, ap, eq-eqb}
use Rattle.sim_params.specs.Costs.{Numbers, log_gops}
use Rattle.sim_classes.specs.Machine.{MachineModel, class_between, class_by, class_of, numbers_of, costs_between, costs_of}
use Rattle.sim_classes.specs.Parts.{IsWhole}

class_between_exists : (m : MachineModel) (a b : ℕ) → IsWhole m → class_between m a b < length m.classes
class_between_exists m a b is = go (a == b) (m.pair_classes a b) refl
  where
    go : (t : Bool) (o : Option ℕ) → m.pair_classes a b ≡ o → (if t then m.inside else unwrap_or o m.usual) < length m.classes
    go true o e = is.inside
    go false None e = is.usual
    go false (Some c) e = is.pair_classes a b c e

inside_or_usual_class_exists : (m : MachineModel) (one : Bool) → IsWhole m → (if one then m.inside else m.usual) < length m.classes
inside_or_usual_class_exists m true is = is.inside
inside_or_usual_class_exists m false is = is.usual

class_by_exists : (m : MachineModel) (a b : Option ℕ) (one : Bool) → IsWhole m → class_by m a b one < length m.classes
class_by_exists m (Some a) (Some b) one is = class_between_exists m a b is
class_by_exists m (Some a) None one is = inside_or_usual_class_exists m one is
class_by_exists m None b one is = inside_or_usual_class_exists m one is

pub class_of_exists : (m : MachineModel) (from to : ℕ) → IsWhole m → class_of m from to < length m.classes
unfolding class_of
class_of_exists m from to is = class_by_exists m (slice_get m.nodes from) (slice_get m.nodes to) (from == to) is

pub alike_costs : (m : MachineModel) (n : Numbers) → IsWhole m → ((class : ℕ) → class < length m.classes → numbers_of m class ≡ n) → costs_of m ≡ log_gops n
unfolding costs_of
alike_costs m n is same = λ i. record {
  over = λ from to bytes. (each from to i).over from to bytes;
  gap = λ from to bytes. (each from to i).gap from to bytes;
  flight = λ from to bytes. (each from to i).flight from to bytes;
  latency = λ from to. (each from to i).latency from to;
  eager = λ from to bytes. (each from to i).eager from to bytes;
}
  where
    each : (from to : ℕ) → costs_between m from to ≡ log_gops n
    each from to = ap log_gops (same (class_of m from to) (class_of_exists m from to is))

class_by_within_node_is_inside : (m : MachineModel) (a : Option ℕ) (one : Bool) → one ≡ true → class_by m a a one ≡ m.inside
class_by_within_node_is_inside m (Some a) one e = rw (eq-eqb a a refl) refl
class_by_within_node_is_inside m None one e = rw e refl

pub own_inside : (m : MachineModel) (rank : ℕ) → class_of m rank rank ≡ m.inside
unfolding class_of
own_inside m rank = class_by_within_node_is_inside m (slice_get m.nodes rank) (rank == rank) (eq-eqb rank rank refl)

pub one_node_inside : (m : MachineModel) (from to node : ℕ) → slice_get m.nodes from ≡ Some node → slice_get m.nodes to ≡ Some node → class_of m from to ≡ m.inside
unfolding class_of
one_node_inside m from to node a b = rw (a, b, eq-eqb node node refl) refl
