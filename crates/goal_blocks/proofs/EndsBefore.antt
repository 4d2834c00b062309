-- In an accepted schedule it is decidable whether one operation ends before another.
use Rattle.std.proofs.Common.{⊎_elim, ℕ, zero, suc, ◌≡◌, ◌⊎◌, inl, inr, true, false, List, [], ◌∷◌, Contains, refl, sym, subst, arith}
use Rattle.std.proofs.lemmas.Bool.{both_ways}
use Rattle.std.proofs.lemmas.List.Sums.{AllPass-from_list_all}
use Rattle.std.proofs.lemmas.List.Elements.{All-contains}
use Rattle.goal_graph.specs.declared.action.OpId.{OpId}
use Rattle.goal_graph.specs.declared.plan.Need.{Need}
use Rattle.goal_graph.specs.declared.plan.When.{When}
use Rattle.goal_graph.specs.declared.plan.When.TheVariants.{AfterEnd, AfterStart}
use Rattle.goal_graph.specs.Schedule.{Plan, needs, needed}
use Rattle.goal_graph.specs.Fault.{is_below}
use Rattle.goal_graph.proofs.ForCallers.{contains_first, contains_more, same_or_different_op, same_op_false}
use Rattle.goal_blocks.specs.Race.{Reaches, here, through, EndsBefore}

-- some element of a list has a property, or none has, if the property is decidable for each
pub some_or_none_in_list : {A : Type 0} (D : A → Type 0) (xs : List A) → ((x : A) → Contains xs x → D x ⊎ (D x → ⊥)) → ((x : A) × Contains xs x × D x) ⊎ ((x : A) → Contains xs x → D x → ⊥)
some_or_none_in_list D [] cases = inr (λ x c d. omega (arith, c.1))
some_or_none_in_list {A} D (y ∷ ys) cases =
    ⊎_elim (λ d. inl (y, contains_first y ys y refl, d)) (λ not. ⊎_elim (λ found. inl (found.0, contains_more y ys found.0 found.1, found.2)) (λ none. inr (λ x c d. elsewhere not none x c d)) (some_or_none_in_list D ys (λ x c. cases x (contains_more y ys x c)))) (cases y (contains_first y ys y refl))
  where
    elsewhere : (D y → ⊥) → ((x : A) → Contains ys x → D x → ⊥) → (x : A) → Contains (y ∷ ys) x → D x → ⊥
    elsewhere not none x (zero, b, e) d = not (subst D (sym e) d)
    elsewhere not none x (suc k, b, e) d = none x (k, omega (arith, b), e) d

cases_end : (w : When) → (w ≡ AfterEnd) ⊎ (w ≡ AfterEnd → ⊥)
cases_end AfterEnd = inl refl
cases_end AfterStart = inr (λ e. cc e)

module _ (plans : List Plan) (x : OpId) where
  -- the need d of y is one for the end of x, or x is before what it names
  abbrev pub Leads : OpId → Need → Type 0
  Leads y d = ((d.when ≡ AfterEnd) × (needed y d ≡ x)) ⊎ EndsBefore plans x (needed y d)

  pub leads_to_end_before : (y : OpId) (d : Need) → Contains (needs plans y) d → Leads y d → EndsBefore plans x y
  leads_to_end_before y d c (inl (e, f)) = record { by = y; reached = here; need = d; is_need = c; at_end = e; names = f }
  leads_to_end_before y d c (inr b) = record {
    by = b.by;
    reached = through d c b.reached;
    need = b.need;
    is_need = b.is_need;
    at_end = b.at_end;
    names = b.names;
  }

  path_leads_by_first_need : (y z : OpId) → Reaches plans y z → (n : Need) → Contains (needs plans z) n → n.when ≡ AfterEnd → needed z n ≡ x → (d : Need) × Contains (needs plans y) d × Leads y d
  path_leads_by_first_need y z here n c e f = (n, c, inl (e, f))
  path_leads_by_first_need y z (through d m rest) n c e f =
      (d, m, inr (record { by = z; reached = rest; need = n; is_need = c; at_end = e; names = f }))

  pub first_need : (y : OpId) → EndsBefore plans x y → (d : Need) × Contains (needs plans y) d × Leads y d
  first_need y b = path_leads_by_first_need y b.by b.reached b.need b.is_need b.at_end b.names

  pub cases_before : (n : ℕ) (y : OpId) → is_below plans n y ≡ true → EndsBefore plans x y ⊎ (EndsBefore plans x y → ⊥)
  unfolding is_below
  cases_before zero y deep = absurd (both_ways false refl deep)
  cases_before (suc n) y deep =
      ⊎_elim (λ found. inl (leads_to_end_before y found.0 found.1 found.2)) (λ none. inr (λ b. let l = first_need y b in none l.0 l.1 l.2)) (some_or_none_in_list (Leads y) (needs plans y) (λ d c. each d (cases_before n (needed y d) (lower d c))))
    where
      lower : (d : Need) → Contains (needs plans y) d → is_below plans n (needed y d) ≡ true
      lower d c =
          All-contains (λ (d : Need). is_below plans n (needed y d) ≡ true) (needs plans y) d (AllPass-from_list_all (λ (d : Need). is_below plans n (needed y d)) (needs plans y) deep) c

      each : (d : Need) → (EndsBefore plans x (needed y d) ⊎ (EndsBefore plans x (needed y d) → ⊥)) → Leads y d ⊎ (Leads y d → ⊥)
      each d (inl b) = inl (inr b)
      each d (inr not) =
          ⊎_elim (λ e. ⊎_elim (λ f. inl (inl (e, f))) (λ g. inr (λ l. ⊎_elim (λ p. same_op_false (needed y d) x g p.1) not l)) (same_or_different_op (needed y d) x)) (λ other. inr (λ l. ⊎_elim (λ p. other p.0) not l)) (cases_end d.when)
