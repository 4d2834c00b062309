-- The laws of the order of events.
use Rattle.std.specs.Prelude.{Bool, ℕ, nat_lt}
use Rattle.std.proofs.Common.{ap}
use Rattle.goal_graph.specs.declared.action.Timed.{Timed}
use Rattle.goal_graph.specs.declared.action.Class.{Class}
use Rattle.sim_order.specs.declared.key.Lex.{Lex}
use Rattle.sim_order.specs.Order.{IsOrder, lexical}
use Rattle.sim_order.specs.Events.{class_less, event_before}
use Rattle.sim_order.specs.Keys.{event_of, nest_of}
use Rattle.sim_order.specs.OrderLaws.{number_laws, class_laws, lex_laws, laws_through}

abbrev Ends : Type 0
Ends = Lex ℕ ℕ

abbrev nest_less : Lex ℕ (Lex Class Ends) → Lex ℕ (Lex Class Ends) → Bool
nest_less x y =
    lexical (nat_lt x.first y.first) (nat_lt y.first x.first)
    (lexical (class_less x.rest.first y.rest.first) (class_less y.rest.first x.rest.first)
    (lexical (nat_lt x.rest.rest.first y.rest.rest.first) (nat_lt y.rest.rest.first x.rest.rest.first)
    (nat_lt x.rest.rest.rest y.rest.rest.rest)))

nest_laws : IsOrder nest_less
nest_laws =
    lex_laws {A = ℕ} {B = Lex Class Ends} nat_lt (λ x y. lexical (class_less x.first y.first) (class_less y.first x.first) (lexical (nat_lt x.rest.first y.rest.first) (nat_lt y.rest.first x.rest.first) (nat_lt x.rest.rest y.rest.rest))) number_laws
    (lex_laws {A = Class} {B = Ends} class_less (λ x y. lexical (nat_lt x.first y.first) (nat_lt y.first x.first) (nat_lt x.rest y.rest)) class_laws
    (lex_laws {A = ℕ} {B = ℕ} nat_lt nat_lt number_laws number_laws))

pub event_laws : IsOrder event_before
event_laws = laws_through (λ (e : Timed). (nest_of e).0) nest_less (λ x y e. ap (λ n. event_of (record { 0 = n })) e) nest_laws
