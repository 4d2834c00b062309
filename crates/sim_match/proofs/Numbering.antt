-- The list of an operation's own pattern: of a receive its list, of a send the first of its lists.
use Rattle.std.proofs.Common.{ℕ, ◌<◌, ◌≡◌, ◌-◌, ◌^◌, List, [], ◌∷◌, length, slice_get, Option, Some, None, Vec, refl, arith, sym, ap, ◌∙◌, subst}
use Rattle.std.proofs.lemmas.Option.{none-some, slice_get-map, slice_get_within}
use Rattle.std.proofs.lemmas.List.{length-map}
use Rattle.std.specs.Global.{Global}
use Rattle.std.specs.Option.{IfSome, option_map}
use Rattle.goal_graph.specs.declared.action.OpId.{OpId}
use Rattle.goal_graph.specs.declared.plan.Kind.{Kind}
use Rattle.goal_graph.specs.Schedule.{Plan, kind_at, operations, IsSend, IsReceive}
use Rattle.sim_match.specs.declared.pattern.Pattern.{Pattern}
use Rattle.sim_match.specs.Patterns.{pattern_of, own_pattern, number, list_number, list_of, own_list, wild_pattern, wild_number, wild_list, lists_for}
use Rattle.sim_match.specs.declared.list_numbers.ListNumbers.{ListNumbers}
use Rattle.sim_match.specs.declared.pattern.Wild.{Wild}
use Rattle.sim_match.specs.ListNumbers.{coded, IsCodable, IsWildAt, AreNamed, AreWild, AreSought, AreNumbered}
use Rattle.sim_match.proofs.PatternLemmas.{number_within, send_lists, pattern_of_any_unnumbered, wild_pattern_unnumbered, wild_itself}

-- numbers that are the same have the same patterns
unfoldable pub same_numbers : (plans : List Plan) (new old : ListNumbers) → new ≡ old → AreNumbered plans old → AreNumbered plans new
same_numbers plans new old same are = record {
  keys = are.keys;
  listed = are.listed;
  few = are.few;
  own = λ some. ap (λ (n : ListNumbers). n.own.items) same ∙ are.own some;
  count = ap (λ (n : ListNumbers). n.count) same ∙ are.count;
  sought = subst (λ (n : ListNumbers). AreSought plans are.keys n.others) (sym same) are.sought;
}

-- the number of a pattern is below that of none
pub number_is_codable : (keys : List Pattern) (p : Pattern) → length keys < 2 ^ 32 - 1 → IsCodable (number keys p)
number_is_codable keys p few list e = let within = number_within keys p list e in omega (arith, within, few)

module _ (plans : List Plan) (keys : List Pattern) (x : OpId) where
  pub own_list_within_keys : (list : ℕ) → own_list plans keys x ≡ Some list → list < length keys
  own_list_within_keys list = go (own_pattern x (kind_at plans x))
    where
      go : (p : Option Pattern) → list_number keys p ≡ Some list → list < length keys
      go None e = absurd (none-some list e)
      go (Some p) e = number_within keys p list e

  pub own_list_is_codable : length keys < 2 ^ 32 - 1 → IsCodable (own_list plans keys x)
  own_list_is_codable few list e = let within = own_list_within_keys list e in omega (arith, within, few)

  pub own_of_receive : IsReceive plans x → own_list plans keys x ≡ list_of plans keys x
  own_of_receive r =
      ap (λ (k : Option Kind). list_number keys (own_pattern x k)) r.kind ∙ sym (ap (λ (k : Option Kind). list_number keys (pattern_of x k)) r.kind)

  module _ (s : IsSend plans x) where
    own_of_send : own_list plans keys x ≡ number keys (record { rank = s.to; from = Some x.rank; tag = Some s.tag })
    own_of_send = ap (λ (k : Option Kind). list_number keys (own_pattern x k)) s.kind

    -- all lists of the send
    pub lists_of_send : lists_for plans keys x ≡ own_list plans keys x ∷ number keys (record { rank = s.to; from = Some x.rank; tag = None }) ∷ number keys (record { rank = s.to; from = None; tag = Some s.tag }) ∷ number keys (record { rank = s.to; from = None; tag = None }) ∷ []
    lists_of_send = send_lists plans keys x s ∙ ap (λ (o : Option ℕ). o ∷ number keys (record { rank = s.to; from = Some x.rank; tag = None }) ∷ number keys (record { rank = s.to; from = None; tag = Some s.tag }) ∷ number keys (record { rank = s.to; from = None; tag = None }) ∷ []) (sym own_of_send)

    -- where each pattern names a source and a tag
    pub lists_where_named : AreNamed keys → lists_for plans keys x ≡ own_list plans keys x ∷ None ∷ None ∷ None ∷ []
    lists_where_named named =
        let any_tag = pattern_of_any_unnumbered (λ (p : Pattern). p.tag) keys (record { rank = s.to; from = Some x.rank; tag = None }) named.tags refl in
        let any_source = pattern_of_any_unnumbered (λ (p : Pattern). p.from) keys (record { rank = s.to; from = None; tag = Some s.tag }) named.sources refl in
        let any = pattern_of_any_unnumbered (λ (p : Pattern). p.from) keys (record { rank = s.to; from = None; tag = None }) named.sources refl in
        lists_of_send ∙ (λ i. own_list plans keys x ∷ sym any_tag i ∷ sym any_source i ∷ sym any i ∷ [])

    -- the number that is kept of its list of that kind
    pub wild_of_send : (wild : Wild) (kept : Option (Vec ℕ Global)) (place : ℕ) (found : Option ℕ) → length keys < 2 ^ 32 - 1 → AreWild plans keys wild kept → slice_get (operations plans) place ≡ Some x → IsWildAt kept place found → found ≡ number keys (wild_pattern wild x.rank s.to s.tag)
    wild_of_send wild None place found few none at is =
        is ∙ wild_pattern_unnumbered wild keys (wild_pattern wild x.rank s.to s.tag) none (wild_itself wild x.rank s.to s.tag)
    wild_of_send wild (Some numbers) place found few all at is =
        let its : wild_list plans keys wild x ≡ number keys (wild_pattern wild x.rank s.to s.tag) = ap (wild_number keys wild x) s.kind in
        let read = ap (λ (ns : List ℕ). slice_get ns place) all ∙ slice_get-map (λ (y : OpId). coded (wild_list plans keys wild y)) (operations plans) place ∙ ap (option_map (λ (y : OpId). coded (wild_list plans keys wild y))) at in
        is (number keys (wild_pattern wild x.rank s.to s.tag)) (read ∙ ap (λ (o : Option ℕ). Some (coded o)) its) (number_is_codable keys (wild_pattern wild x.rank s.to s.tag) few)

    -- there is one at its place
    pub wild_within : (wild : Wild) (kept : Option (Vec ℕ Global)) (place : ℕ) → AreWild plans keys wild kept → slice_get (operations plans) place ≡ Some x → IfSome kept (λ (numbers : Vec ℕ Global). place < length numbers.items)
    wild_within wild None place none at = tt
    wild_within wild (Some numbers) place all at =
        let long = ap length all ∙ length-map (operations plans) (λ (y : OpId). coded (wild_list plans keys wild y)) in
        let inside = slice_get_within (operations plans) place x at in
        omega (arith, long, inside)
