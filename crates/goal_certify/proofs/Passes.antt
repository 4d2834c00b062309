-- What the passes over the operations say of the channels of a schedule.
use Rattle.std.proofs.Common.{⊎_elim, ℕ, ◌≡◌, ◌==◌, ◌&&◌, ◌⊎◌, inl, inr, eq-eqb, Bool, true, false, not, IsTrue, List, length, map, get_or, slice_get, Contains, Option, Some, None, is_some, IfSome, IfNone, refl, sym, ap, ◌∙◌, subst}
use Rattle.std.specs.Option.{option_map}
use Rattle.std.proofs.lemmas.Bool.{and_from, and_parts, both_ways, eqb-true}
use Rattle.std.proofs.lemmas.Option.{slice_get-map, get_or_from_slice_get}
use Rattle.goal_graph.specs.declared.action.OpId.{OpId}
use Rattle.goal_graph.specs.declared.plan.Kind.{Kind}
use Rattle.goal_graph.specs.declared.plan.Kind.TheVariants.{Calc, Send, Recv}
use Rattle.goal_graph.specs.declared.plan.Op.{Op}
use Rattle.goal_graph.specs.Schedule.{Plan, op_at, operations}
use Rattle.goal_graph.specs.Order.{IsBefore}
use Rattle.goal_graph.specs.Fault.{IsOp}
use Rattle.goal_graph.proofs.ForCallers.{kind_from_op, kind_listed, listed_places, send_is_op, receive_is_op}
use Rattle.goal_blocks.specs.Channels.{AreOfOneChannel, HasNoDoubleChannel}
use Rattle.goal_blocks.specs.Slots.{slots}
use Rattle.goal_blocks.specs.Faults.{IsLeast, op_key, IsWildcard, AreDouble, IsUnpaired, HaveOtherLengths}
use Rattle.goal_certify.specs.declared.ends.End.{End}
use Rattle.goal_certify.specs.declared.ends.OpAtEnd.{OpAtEnd}
use Rattle.goal_certify.specs.Ends.{end_of, other_end, AreEndsOf, IsFirstAt}
use Rattle.goal_certify.proofs.InOrder.{before_from_less, not_before_itself}
use Rattle.goal_certify.proofs.EndLemmas.{unpaired_if_none_at_other_end, not_unpaired_if_first_at_other_end, receive_found, receive_nowhere, receive_of_channel_is_unique}

module _ (plans : List Plan) where
  -- an operation with a channel fault exists
  pub wildcard_exists : (x : OpId) → IsWildcard plans x → IsOp plans x
  wildcard_exists x w = (listed_places plans x).0 (kind_listed plans x _ w.kind)

  pub double_exists : (x : OpId) → (y : OpId) × AreDouble plans y x → IsOp plans x
  double_exists x d =
      ⊎_elim (λ s. send_is_op plans x s.1) (λ s. receive_is_op plans x s.1) (d.1).alike

  pub unpaired_exists : (x : OpId) → IsUnpaired plans x → IsOp plans x
  unpaired_exists x un = ⊎_elim (λ s. send_is_op plans x s.0) (λ s. receive_is_op plans x s.0) un

  pub lengths_exists : (m : OpId) → (x : OpId) × HaveOtherLengths plans m x → IsOp plans m
  lengths_exists m h = send_is_op plans m (h.1).one.is_send

  module _ (x : OpId) (o : Op) (at : op_at plans x ≡ Some o) where
    pub wildcard_read : (room : ℕ) (from tag : Option ℕ) → o.kind ≡ Recv room from tag → (is_some from ≡ false) ⊎ (is_some tag ≡ false) → IsWildcard plans x
    wildcard_read room from tag k any = record { room = room; from = from; tag = tag; kind = kind_from_op plans x o _ at k; any = any }

    pub wildcard_only : (room : ℕ) (from tag : Option ℕ) → o.kind ≡ Recv room from tag → IsWildcard plans x → (is_some from ≡ false) ⊎ (is_some tag ≡ false)
    wildcard_only room from tag k w =
        let same : ◌≡◌ {A = Option Kind} (Some (Recv w.room w.from w.tag)) (Some (Recv room from tag)) = sym w.kind ∙ kind_from_op plans x o _ at k in
        let f : w.from ≡ from = cc same in
        let t : w.tag ≡ tag = cc same in
        ⊎_elim (λ q. inl (ap is_some (sym f) ∙ q)) (λ q. inr (ap is_some (sym t) ∙ q)) w.any

    pub wildcard_nowhere : ((n : ℕ) × (o.kind ≡ Calc n)) ⊎ ((bytes : ℕ) × (to : ℕ) × (tag : ℕ) × (o.kind ≡ Send bytes to tag)) → IsWildcard plans x → ⊥
    wildcard_nowhere kinds w = ⊎_elim (λ k. calc _ (sym w.kind ∙ kind_from_op plans x o _ at k.1)) (λ k. send _ _ _ (sym w.kind ∙ kind_from_op plans x o _ at k.3)) kinds
      where
        calc : (n : ℕ) → ◌≡◌ {A = Option Kind} (Some (Recv w.room w.from w.tag)) (Some (Calc n)) → ⊥
        calc n e = cc e

        send : (bytes to tag : ℕ) → ◌≡◌ {A = Option Kind} (Some (Recv w.room w.from w.tag)) (Some (Send bytes to tag)) → ⊥
        send bytes to tag e = cc e

-- a test and its negation
pub negation_false : (s t : Bool) → s ≡ not t → t ≡ true → s ≡ false
negation_false s t e q = e ∙ ap not q

pub negation_true : (s t : Bool) → s ≡ not t → s ≡ false → t ≡ true
negation_true s true e q = refl
negation_true s false e q = absurd (both_ways s q e)

module _ (plans : List Plan) (entries : List OpAtEnd) (are : AreEndsOf plans entries) where
  pub unpaired_iff_search_finds_none : (x : OpId) (e d : End) (r : Option OpId) (t : Bool) → end_of plans x ≡ Some e → d ≡ other_end e → is_some r ≡ not t → IfSome r (IsFirstAt entries d) → IfNone r ((z : OpId) → Contains entries (record { end = d; op = z }) → ⊥) → (IsTrue t → IsUnpaired plans x) × (IsUnpaired plans x → IsTrue t)
  unpaired_iff_search_finds_none x e d (Some z) t at is told found none =
      (λ q. absurd (both_ways true (told ∙ ap not q) refl), λ un. absurd (not_unpaired_if_first_at_other_end plans entries are x z e at (subst (λ (f : End). IsFirstAt entries f z) is found) un))
  unpaired_iff_search_finds_none x e d None true at is told found none =
      (λ q. unpaired_if_none_at_other_end plans entries are x e at (subst (λ (f : End). (z : OpId) → Contains entries (record { end = f; op = z }) → ⊥) is none), λ un. refl)
  unpaired_iff_search_finds_none x e d None false at is told found none = absurd (both_ways true (sym told) refl)

  pub found_entry_is_of_channel : (m : OpId) (e d : End) (r : Option OpId) → end_of plans m ≡ Some e → e.is_send ≡ true → d ≡ other_end e → IfSome r (IsFirstAt entries d) → IfSome r (AreOfOneChannel plans m)
  found_entry_is_of_channel m e d (Some x) at b is found =
      receive_found plans entries are m x e at b (subst (λ (f : End). IsFirstAt entries f x) is found)
  found_entry_is_of_channel m e d None at b is found = tt

  pub found_receive_is_the_only_one : (m : OpId) (e d : End) (r : Option OpId) → HasNoDoubleChannel plans → end_of plans m ≡ Some e → e.is_send ≡ true → d ≡ other_end e → IfSome r (IsFirstAt entries d) → IfSome r (λ recv. (x : OpId) → AreOfOneChannel plans m x → x ≡ recv)
  found_receive_is_the_only_one m e d (Some x) single at b is found = λ y one. receive_of_channel_is_unique plans single m x y (found_entry_is_of_channel m e d (Some x) at b is found) one
  found_receive_is_the_only_one m e d None single at b is found = tt

  pub no_receive_if_none_found : (m : OpId) (e d : End) (r : Option OpId) → end_of plans m ≡ Some e → d ≡ other_end e → IfNone r ((z : OpId) → Contains entries (record { end = d; op = z }) → ⊥) → IfNone r ((x : OpId) → AreOfOneChannel plans m x → ⊥)
  no_receive_if_none_found m e d (Some x) at is none = tt
  no_receive_if_none_found m e d None at is none =
      receive_nowhere plans entries are m e at (subst (λ (f : End). (z : OpId) → Contains entries (record { end = f; op = z }) → ⊥) is none)

-- the number of slots that is read
pub count_read : (plans : List Plan) (counts : List ℕ) (i : ℕ) (x : OpId) → counts ≡ map (λ (y : OpId). length (slots plans y)) (operations plans) → slice_get (operations plans) i ≡ Some x → get_or counts i 0 ≡ length (slots plans x)
count_read plans counts i x are at =
    ap (λ (ns : List ℕ). get_or ns i 0) are ∙ get_or_from_slice_get (map (λ (y : OpId). length (slots plans y)) (operations plans)) i (length (slots plans x)) 0 (slice_get-map (λ (y : OpId). length (slots plans y)) (operations plans) i ∙ ap (option_map (λ (y : OpId). length (slots plans y))) at)

module _ (plans : List Plan) (m x : OpId) (one : AreOfOneChannel plans m x) (only : (y : OpId) → AreOfOneChannel plans m y → y ≡ x) where
  pub no_other_length_if_equal : length (slots plans m) ≡ length (slots plans x) → (y : OpId) → HaveOtherLengths plans m y → ⊥
  no_other_length_if_equal same y h = h.differ (same ∙ ap (λ (z : OpId). length (slots plans z)) (sym (only y h.one)))

  pub lengths_least : (length (slots plans m) ≡ length (slots plans x) → ⊥) → IsLeast op_key (λ (y : OpId). HaveOtherLengths plans m y) x
  lengths_least differ = record { holds = record { one = one; differ = differ }; none_less = λ y less h. not_before_itself x (subst (λ (z : OpId). IsBefore z x) (only y h.one) (before_from_less y x less)) }

-- what the test of two operations says
pub ops_differ_if_test_true : (y x : OpId) → true ≡ not ((y.rank == x.rank) && (y.op == x.op)) → y ≡ x → ⊥
ops_differ_if_test_true y x told e =
    both_ways ((x.rank == x.rank) && (x.op == x.op)) (flipped _ (subst (λ (z : OpId). true ≡ not ((z.rank == x.rank) && (z.op == x.op))) e told)) (and_from _ _ (eq-eqb x.rank x.rank refl) (eq-eqb x.op x.op refl))
  where
    flipped : (b : Bool) → true ≡ not b → b ≡ false
    flipped true q = q
    flipped false q = refl

pub same_op_told : (y x : OpId) → false ≡ not ((y.rank == x.rank) && (y.op == x.op)) → y ≡ x
same_op_told y x told =
    let parts = and_parts (y.rank == x.rank) (y.op == x.op) (flipped _ told) in
    let rank = eqb-true y.rank x.rank parts.0 in
    let op = eqb-true y.op x.op parts.1 in
    λ i. record { rank = rank i; op = op i }
  where
    flipped : (b : Bool) → false ≡ not b → b ≡ true
    flipped true q = refl
    flipped false q = absurd (both_ways true (sym q) refl)

pub holds_if_none : {P : Type 0} (r : Option OpId) → r ≡ None → IfNone r P → P
holds_if_none {P} r e p = subst (λ (s : Option OpId). IfNone s P) e p
