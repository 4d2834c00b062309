use Rattle.std.proofs.Common.{◌≡◌, ◌<◌, ℕ, ◌+◌, ◌∷◌, [], ◌++◌, List, length, take, get_or, ap, sym, ◌∙◌, refl, arith, append_assoc}
use Rattle.std.proofs.lemmas.List.{take_more, take_all}
use Rattle.sim_resources.specs.declared.pair.Pair.{Pair}
use Rattle.sim_stations.specs.Rows.{sides}
use Rattle.sim_stations.proofs.Sides.{sides_append}
use Rattle.sim_stations.proofs.rows.sides.Goals as goal

sides_with_next_pair : (pairs : List Pair) (i : ℕ) (p d : Pair) (before half after : List ℕ) → i < length pairs → p ≡ get_or pairs i d → before ≡ sides (take i pairs) → half ≡ before ++ p.cpu ∷ [] → after ≡ half ++ p.side ∷ [] → after ≡ sides (take (i + 1) pairs)
sides_with_next_pair pairs i p d before half after l is e f g =
    g ∙ ap (λ xs. xs ++ p.side ∷ []) (f ∙ ap (λ xs. xs ++ p.cpu ∷ []) e) ∙ joined ∙ sym (sides_append (take i pairs) (p ∷ [])) ∙ ap (λ q. sides (take i pairs ++ q ∷ [])) is ∙ ap sides (sym (take_more pairs i d l))
  where
    joined : (sides (take i pairs) ++ p.cpu ∷ []) ++ p.side ∷ [] ≡ sides (take i pairs) ++ (p.cpu ∷ p.side ∷ [])
    joined = append_assoc (sides (take i pairs)) (p.cpu ∷ []) (p.side ∷ [])

pub stations-init : goal.stations-init
stations-init c = c.in_ok-numbers.ensures.items

pub stations-preserved : goal.stations-preserved
stations-preserved c =
    sides_with_next_pair c.args.pairs.now c.stations.pair-index (get_or c.args.pairs.now c.stations.pair-index (record { cpu = 0; side = 0 })) (record { cpu = 0; side = 0 }) c.stations.numbers.items c.push.new.self.items c.push-in-stations.new.self.items c.stations-test.true refl c.stations.invariant c.in_ok-push.ensures.items c.in_ok-push-2.ensures.items

pub returns : goal.returns
returns c =
    c.stations.invariant ∙ ap sides (take_all c.stations.pair-index c.args.pairs.now (omega (arith, c.stations-test.false)))
