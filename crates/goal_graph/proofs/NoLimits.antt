-- Plans within the limits of counts and values break none of the rules about these limits.
use Rattle.std.proofs.Common.{◌≡◌, ℕ, ◌+◌, ◌<◌, ◌≤◌, Bool, true, false, cond, eqb, Option, Some, None, List, [], ◌∷◌, length, get_or, refl, sym, ap, subst, arith, inl, inr}
use Rattle.std.specs.List.{AllByRecursion}
use Rattle.std.specs.Option.{option_or}
use Rattle.std.proofs.lemmas.Bool.{le-ltb}
use Rattle.std.proofs.lemmas.Bool.Decides.{nat_tests}
use Rattle.std.proofs.lemmas.List.Elements.{recursion_from_All}
use Rattle.goal_limits.specs.declared.limits.TheConstants.{MAX_RANKS, MAX_OPS, MAX_DEPS, MAX_NOTES}
use Rattle.goal_graph.specs.declared.fault.PlanFault.{PlanFault}
use Rattle.goal_graph.specs.declared.fault.PlanFault.TheVariants as plan
use Rattle.goal_graph.specs.declared.plan.Op.{Op}
use Rattle.goal_graph.specs.Schedule.{Plan}
use Rattle.goal_graph.specs.Fault.{op_count, dep_count, note_count, count_over, count_fault, has_peer, dep_in_range, note_fits, op_fault, dep_fault, note_fault, first_fault, rank_fault, plain_fault, IsFault}
use Rattle.goal_graph.specs.Limits.{HasValue, HaveValues, AreWithinLimits, IsLimitRule, AreCountsWithin}

-- no fault found in this way is about a limit
abbrev IsNoLimitRule : Option PlanFault → Type 0
IsNoLimitRule told = (f : PlanFault) → told ≡ Some f → IsLimitRule f → ⊥

abbrev some_of : PlanFault → Option PlanFault
some_of f = Some f

some_of-injective : (f g : PlanFault) → some_of f ≡ some_of g → f ≡ g
some_of-injective f g e = cc

none_is_no_limit_rule : IsNoLimitRule None
none_is_no_limit_rule f e = absurd cc

fault_is_no_limit_rule : (g : PlanFault) → (IsLimitRule g → ⊥) → IsNoLimitRule (Some g)
fault_is_no_limit_rule g not f e = subst (λ (h : PlanFault). IsLimitRule h → ⊥) (some_of-injective g f e) not

test_gives_no_limit_rule : (b : Bool) (g : PlanFault) → (IsLimitRule g → ⊥) → IsNoLimitRule (cond b None (Some g))
test_gives_no_limit_rule true g not = none_is_no_limit_rule
test_gives_no_limit_rule false g not = fault_is_no_limit_rule g not

option_or_no_limit_rule : (a b : Option PlanFault) → IsNoLimitRule a → IsNoLimitRule b → IsNoLimitRule (option_or a b)
option_or_no_limit_rule None b p q = q
option_or_no_limit_rule (Some g) b p q = p

first_fault_no_limit_rule : {A : Type 0} (fault : ℕ → A → Option PlanFault) (n : ℕ) (xs : List A) → AllByRecursion (λ x. (k : ℕ) → IsNoLimitRule (fault k x)) xs → IsNoLimitRule (first_fault fault n xs)
unfolding first_fault
first_fault_no_limit_rule fault n [] all = none_is_no_limit_rule
first_fault_no_limit_rule fault n (x ∷ xs) all = option_or_no_limit_rule (fault n x) (first_fault fault (n + 1) xs) (all.0 n) (first_fault_no_limit_rule fault (n + 1) xs all.1)

first_fault_never_limit_rule : {A : Type 0} (fault : ℕ → A → Option PlanFault) → ((k : ℕ) (x : A) → IsNoLimitRule (fault k x)) → (n : ℕ) (xs : List A) → IsNoLimitRule (first_fault fault n xs)
unfolding first_fault
first_fault_never_limit_rule fault each n [] = none_is_no_limit_rule
first_fault_never_limit_rule fault each n (x ∷ xs) = option_or_no_limit_rule (fault n x) (first_fault fault (n + 1) xs) (each n x) (first_fault_never_limit_rule fault each (n + 1) xs)

module _ (ranks rank : ℕ) where
  op_fault_no_limit_rule : (o : Op) → HasValue o → (op : ℕ) → IsNoLimitRule (op_fault ranks rank op o)
  op_fault_no_limit_rule o fits op = subst (λ (b : Bool). IsNoLimitRule (cond b (cond (has_peer ranks o.kind) None (Some (plan.Peer rank op))) (Some (plan.Value rank op)))) (sym fits)
      (test_gives_no_limit_rule (has_peer ranks o.kind) (plan.Peer rank op) (λ limit. limit))

  rank_fault_no_limit_rule : (p : Plan) → HaveValues p → IsNoLimitRule (rank_fault ranks rank p)
  unfolding rank_fault
  rank_fault_no_limit_rule p fits =
      option_or_no_limit_rule (first_fault (op_fault ranks rank) 0 p.ops) (option_or (first_fault (dep_fault (length p.ops) rank) 0 p.deps) (first_fault (note_fault p.ops rank) 0 p.notes))
      (first_fault_no_limit_rule (op_fault ranks rank) 0 p.ops (recursion_from_All (λ (o : Op). (op : ℕ) → IsNoLimitRule (op_fault ranks rank op o)) p.ops (λ k d below. op_fault_no_limit_rule (get_or p.ops k d) (fits k d below))))
      (option_or_no_limit_rule (first_fault (dep_fault (length p.ops) rank) 0 p.deps) (first_fault (note_fault p.ops rank) 0 p.notes)
      (first_fault_never_limit_rule (dep_fault (length p.ops) rank) (λ dep d. test_gives_no_limit_rule (dep_in_range (length p.ops) d) (plan.DepRange rank dep) (λ limit. limit)) 0 p.deps)
      (first_fault_never_limit_rule (note_fault p.ops rank) (λ note n. test_gives_no_limit_rule (note_fits p.ops n) (plan.NoteMisfit rank note) (λ limit. limit)) 0 p.notes))

pub count_within_limit : (limit found : ℕ) → found ≤ limit → count_over limit found ≡ None
count_within_limit limit found le = ap (λ (b : Bool). cond b (Some (plan.Count found limit)) None) (le-ltb limit found le)

positive_is_not_eqb_zero : (n : ℕ) → 0 < n → eqb n 0 ≡ false
positive_is_not_eqb_zero n h = grind (arith, nat_tests)

count_fault_none : (ps : List Plan) → AreCountsWithin ps → count_fault ps ≡ None
unfolding count_fault
count_fault_none ps counts =
    rw (
      positive_is_not_eqb_zero (length ps) counts.some_rank,
      count_within_limit MAX_RANKS (length ps) counts.ranks,
      count_within_limit MAX_OPS (op_count ps) counts.ops,
      count_within_limit MAX_DEPS (dep_count ps) counts.deps,
      count_within_limit MAX_NOTES (note_count ps) counts.notes,
    ) refl

plain_fault_no_limit_rule : (ps : List Plan) → AreWithinLimits ps → IsNoLimitRule (plain_fault ps)
unfolding plain_fault
plain_fault_no_limit_rule ps fits =
    option_or_no_limit_rule (count_fault ps) (first_fault (rank_fault (length ps)) 0 ps) (subst IsNoLimitRule (sym (count_fault_none ps fits.counts)) none_is_no_limit_rule)
    (first_fault_no_limit_rule (rank_fault (length ps)) 0 ps (recursion_from_All (λ (p : Plan). (rank : ℕ) → IsNoLimitRule (rank_fault (length ps) rank p)) ps (λ k d below rank. rank_fault_no_limit_rule (length ps) rank (get_or ps k d) (fits.values k d below))))

pub no_limit_rule : (ps : List Plan) → AreWithinLimits ps → (rule : PlanFault) → IsFault ps rule → IsLimitRule rule → ⊥
no_limit_rule ps fits rule (inl told) limit = plain_fault_no_limit_rule ps fits rule told limit
no_limit_rule ps fits rule (inr cyclic) limit = subst IsLimitRule cyclic.1.named limit
