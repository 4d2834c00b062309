-- A match table before all posts and arrivals.
use Rattle.std.proofs.Common.{ℕ, zero, suc, ◌≤◌, ◌≡◌, Bool, true, false, List, [], ◌∷◌, length, Some, map, take, replicate, filter, slice_get, All, refl, arith, sym, ap, ◌∙◌, subst}
use Rattle.std.proofs.lemmas.Option.{same_Some, none-some}
use Rattle.std.proofs.lemmas.List.{length-map, length-replicate}
use Rattle.std.proofs.lemmas.List.Elements.{All-nil}
use Rattle.goal_graph.specs.declared.action.OpId.{OpId}
use Rattle.goal_graph.specs.declared.action.Class.TheVariants.{Post}
use Rattle.goal_graph.specs.Schedule.{Plan, operations}
use Rattle.goal_graph.specs.Fault.{IsAccepted}
use Rattle.goal_graph.specs.Matching.{is_paired, pairs, partner}
use Rattle.sim_match.specs.declared.capacities.Capacity.{Capacity}
use Rattle.sim_match.specs.declared.capacities.Side.TheVariants.{Receives, Sends}
use Rattle.sim_match.specs.declared.match_list.MatchEntry.{MatchEntry}
use Rattle.sim_match.specs.declared.pattern.Pattern.{Pattern}
use Rattle.sim_match.specs.Patterns.{in_list, for_list, AreListed}
use Rattle.sim_match.specs.MatchLists.{is_marked}
use Rattle.sim_match.specs.Capacities.{empty_list, IsCapacity, AreCapacities}
use Rattle.sim_match.specs.Matcher.{PatternLists, side_by_side, IsMatchList, receives_of, sends_of, AreLists, Mirrors}
use Rattle.sim_match.proofs.Entries.{entries_none}
use Rattle.sim_match.proofs.Marks.{no_marks}
use Rattle.sim_match.proofs.Unmet.{unmet_none}
use Rattle.sim_match.proofs.Sides.{side_by_side_map}

all_of_take_of_empty : {X : Type 0} (P : X → Type 0) (n : ℕ) → All P (take n [])
all_of_take_of_empty P zero = All-nil P
all_of_take_of_empty P (suc n) = All-nil P

none_paired_before_actions : (plans : List Plan) (x : OpId) → is_paired (pairs plans []) x ≡ false
unfolding pairs partner
none_paired_before_actions plans x = refl

match_list_without_entries : (es : List MatchEntry) (paired : OpId → Bool) (count room : ℕ) → es ≡ [] → count ≤ room → IsMatchList es paired count (record { entries = []; head = 0; room = room })
match_list_without_entries es paired count room none roomy = record {
  entries = sym none;
  within = omega arith;
  skipped = subst (λ (xs : List MatchEntry). All (λ (e : MatchEntry). paired e.op ≡ true) (take 0 xs)) (sym none) (all_of_take_of_empty (λ (e : MatchEntry). paired e.op ≡ true) 0);
  room = roomy;
}

abbrev empty_lists : Capacity → PatternLists
empty_lists c = record { receives = empty_list Receives c; sends = empty_list Sends c }

-- what a new match table keeps
pub new_table_mirrors : (plans : List Plan) (keys : List Pattern) (capacities : List Capacity) (marks : List Bool) → IsAccepted plans → AreListed plans keys → AreCapacities plans keys (operations plans) capacities → marks ≡ replicate (length (operations plans)) false → Mirrors plans keys (side_by_side (map (empty_list Receives) capacities) (map (empty_list Sends) capacities)) marks []
new_table_mirrors plans keys capacities marks accepted listed counted unmarked = subst (λ (ws : List PatternLists). Mirrors plans keys ws marks []) (sym (side_by_side_map (empty_list Receives) (empty_list Sends) capacities)) (record {
  accepted = accepted;
  actions = tt;
  listed = listed;
  one_each = length-map capacities empty_lists ∙ counted.one_each;
  each = λ list w e. let at = source capacities list w e in subst (AreLists plans keys (is_paired (pairs plans [])) list (receives_of plans keys [] list) (sends_of plans keys [] list)) at.2 (begun list at.0 (counted.each list at.0 at.1));
  marked = λ x. ap (λ (bs : List Bool). is_marked (operations plans) bs x) unmarked ∙ no_marks (operations plans) (length (operations plans)) x ∙ sym (none_paired_before_actions plans x);
  all_marks = let long = ap length unmarked ∙ length-replicate (length (operations plans)) false in omega (arith, long);
})
  where
    source : (cs : List Capacity) (list : ℕ) (w : PatternLists) → slice_get (map empty_lists cs) list ≡ Some w → (c : Capacity) × (slice_get cs list ≡ Some c) × (empty_lists c ≡ w)
    source [] list w e = absurd (none-some w e)
    source (c ∷ cs) zero w e = (c, refl, same_Some (empty_lists c) w e)
    source (c ∷ cs) (suc list) w e = source cs list w e

    begun : (list : ℕ) (c : Capacity) → IsCapacity plans keys (operations plans) list c → AreLists plans keys (is_paired (pairs plans [])) list (receives_of plans keys [] list) (sends_of plans keys [] list) (empty_lists c)
    begun list c is = record {
      receives = match_list_without_entries _ _ _ c.receives (ap (filter (λ (e : MatchEntry). in_list plans keys list e.op)) (entries_none Post)) (omega (arith, is.receives));
      sends = match_list_without_entries _ _ _ c.sends (ap (filter (λ (e : MatchEntry). for_list plans keys list e.op)) (unmet_none plans)) (omega (arith, is.sends));
    }
