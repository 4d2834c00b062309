-- Schedules with the same operations and needs allow the same actions, whatever is eager.
use Rattle.std.proofs.Common.{◌≡◌, ◌&&◌, Bool, not, List, [], ◌∷◌, Option, Some, refl, sym, ap, ◌∙◌}
use Rattle.std.specs.Option.{option_map}
use Rattle.std.specs.List.{list_all}
use Rattle.goal_graph.specs.declared.action.OpId.{OpId}
use Rattle.goal_graph.specs.declared.action.Class.{Class}
use Rattle.goal_graph.specs.declared.action.Class.TheVariants.{Arrive, Serve, Data, Post, Begin}
use Rattle.goal_graph.specs.declared.plan.Op.{Op}
use Rattle.goal_graph.specs.declared.plan.Kind.{Kind}
use Rattle.goal_graph.specs.declared.plan.Kind.TheVariants.{Calc, Send, Recv}
use Rattle.goal_graph.specs.declared.plan.Need.{Need}
use Rattle.goal_graph.specs.declared.plan.When.{When}
use Rattle.goal_graph.specs.declared.plan.When.TheVariants.{AfterEnd, AfterStart}
use Rattle.goal_graph.specs.Schedule.{Plan, op_at, kind_at, needs, needed}
use Rattle.goal_graph.specs.Action.{Act, is_of, happened, oldest}
use Rattle.goal_graph.specs.Matching.{Pair, fits_kinds, fits, is_paired, add_pair, pair_of, new_pair, pairs, partner}
use Rattle.goal_graph.specs.Allowed.{first_class, last_class, has_started, has_ended, is_met, is_ready, is_served, may, allowed}
use Rattle.goal_graph.specs.Interleaving.{IsInterleaving, IsCompleteInterleaving}

module _ (plans other : List Plan) (ops : (x : OpId) → op_at other x ≡ op_at plans x) where
  pub kind_alike : (x : OpId) → kind_at other x ≡ kind_at plans x
  unfolding kind_at
  kind_alike x = ap (λ (o : Option Op). option_map (λ (p : Op). p.kind) o) (ops x)

  fits_alike : (x m : OpId) → fits other x m ≡ fits plans x m
  unfolding fits
  fits_alike x m = λ i. fits_kinds x (kind_alike x i) m (kind_alike m i)

  new_pair_alike : (ps : List Pair) (h : List Act) (class : Class) (x : OpId) → new_pair other ps h class x ≡ new_pair plans ps h class x
  new_pair_alike ps h Arrive m =
      λ i. option_map (λ x. pair_of m x) (oldest (λ (a : Act). is_of Post a && not (is_paired ps a.op) && fits_alike a.op m i) h)
  new_pair_alike ps h Post x =
      λ i. option_map (λ m. pair_of m x) (oldest (λ (a : Act). is_of Arrive a && not (is_paired ps a.op) && fits_alike x a.op i) h)
  new_pair_alike ps h Serve x = refl
  new_pair_alike ps h Data x = refl
  new_pair_alike ps h Begin x = refl

  pub pairs_alike : (h : List Act) → pairs other h ≡ pairs plans h
  unfolding pairs
  pairs_alike [] = refl
  pairs_alike (a ∷ h) =
      ap (λ (ps : List Pair). add_pair ps (new_pair other ps h a.class a.op)) (pairs_alike h) ∙ ap (add_pair (pairs plans h)) (new_pair_alike (pairs plans h) h a.class a.op)

  pub started_alike : (x : OpId) (h : List Act) → has_started other x h ≡ has_started plans x h
  started_alike x h = ap (λ (k : Option Kind). happened (first_class k) x h) (kind_alike x)

  pub ended_alike : (eager : OpId → Bool) (x : OpId) (h : List Act) → has_ended other eager x h ≡ has_ended plans eager x h
  ended_alike eager x h = ap (λ (k : Option Kind). happened (last_class (eager x) k) x h) (kind_alike x)

  module _ (need : (x : OpId) → needs other x ≡ needs plans x) (eager : OpId → Bool) where
    met_alike : (h : List Act) (when : When) (y : OpId) → is_met other eager h when y ≡ is_met plans eager h when y
    met_alike h AfterEnd y = ended_alike eager y h
    met_alike h AfterStart y = started_alike y h

    ready_alike : (h : List Act) (x : OpId) → is_ready other eager h x ≡ is_ready plans eager h x
    unfolding is_ready
    ready_alike h x = λ i. list_all (λ (d : Need). met_alike h d.when (needed x d) i) (need x i)

    may_alike : (h : List Act) (class : Class) (x : OpId) (kind : Option Kind) → may other eager h class x kind ≡ may plans eager h class x kind
    may_alike h Begin x (Some (Calc nanos)) = ready_alike h x
    may_alike h Begin x (Some (Send bytes to tag)) = ready_alike h x
    may_alike h Post x (Some (Recv room from tag)) = ready_alike h x
    may_alike h Data x (Some (Send bytes to tag)) =
        ap (λ (ps : List Pair). not (eager x) && is_paired ps x) (pairs_alike h)
    may_alike h Serve x (Some (Recv room from tag)) =
        ap (λ (ps : List Pair). is_served other eager h (partner ps x)) (pairs_alike h)
    may_alike h _ x _ = refl

    pub allowed_alike : (h : List Act) (class : Class) (x : OpId) → allowed other eager h class x ≡ allowed plans eager h class x
    unfolding allowed
    allowed_alike h class x =
        ap (λ (k : Option Kind). not (happened class x h) && may other eager h class x k) (kind_alike x) ∙ ap (λ (b : Bool). not (happened class x h) && b) (may_alike h class x (kind_at plans x))

    pub interleaving_from : (h : List Act) → IsInterleaving plans eager h → IsInterleaving other eager h
    interleaving_from [] run = tt
    interleaving_from (a ∷ h) run = (interleaving_from h run.0, allowed_alike h a.class a.op ∙ run.1)

    pub interleaving_into : (h : List Act) → IsInterleaving other eager h → IsInterleaving plans eager h
    interleaving_into [] run = tt
    interleaving_into (a ∷ h) run =
        (interleaving_into h run.0, sym (allowed_alike h a.class a.op) ∙ run.1)

    pub complete_from : (h : List Act) → IsCompleteInterleaving plans eager h → IsCompleteInterleaving other eager h
    complete_from h done = record {
      each = interleaving_from h done.each;
      none_left = λ a. allowed_alike h a.class a.op ∙ done.none_left a;
    }

    pub complete_into : (h : List Act) → IsCompleteInterleaving other eager h → IsCompleteInterleaving plans eager h
    complete_into h done = record {
      each = interleaving_into h done.each;
      none_left = λ a. sym (allowed_alike h a.class a.op) ∙ done.none_left a;
    }
