-- On other ranks the same actions are allowed.
use Rattle.std.proofs.Common.{ℕ, ◌≡◌, ◌==◌, ◌&&◌, ◌||◌, Bool, true, false, not, List, [], ◌∷◌, map, Option, Some, None, is_some, if◌then◌else◌, refl, sym, ap, ◌∙◌, eq-eqb}
use Rattle.std.specs.Option.{option_map, option_or}
use Rattle.std.specs.List.{list_all}
use Rattle.std.proofs.lemmas.Bool.{eqb-true, true≢false}
use Rattle.goal_graph.specs.declared.action.OpId.{OpId}
use Rattle.goal_graph.specs.declared.action.Class.{Class}
use Rattle.goal_graph.specs.declared.action.Class.TheVariants.{Arrive, Serve, Data, Post, Begin}
use Rattle.goal_graph.specs.declared.plan.Op.{Op}
use Rattle.goal_graph.specs.declared.plan.Kind.{Kind}
use Rattle.goal_graph.specs.declared.plan.Kind.TheVariants.{Calc, Send, Recv}
use Rattle.goal_graph.specs.declared.plan.Need.{Need}
use Rattle.goal_graph.specs.declared.plan.When.{When}
use Rattle.goal_graph.specs.declared.plan.When.TheVariants.{AfterEnd, AfterStart}
use Rattle.goal_graph.specs.Schedule.{Plan, op_at, kind_at, needs, needed}
use Rattle.goal_graph.specs.Action.{Act, same_op, is_of, happened, oldest}
use Rattle.goal_graph.specs.Matching.{Pair, accepts, fits_kinds, fits, other_in, is_paired, add_pair, pair_of, is_open_receive, is_open_send, new_pair, pairs, partner}
use Rattle.goal_graph.specs.Allowed.{first_class, last_class, has_started, has_ended, is_met, is_ready, is_served, may, allowed}
use Rattle.goal_graph.specs.Interleaving.{IsInterleaving, IsCompleteInterleaving}
use Rattle.goal_blocks.specs.Placed.{IsPermutation, placed_op, placed_act, placed_kind, placed_of}
use Rattle.goal_blocks.proofs.PlacedPlans.{placed_op_after_back}

module _ (ranks : ℕ) (to back : ℕ → ℕ) (perm : IsPermutation ranks to back) where
  -- numbers of ranks are the same where the renamed ones are
  pub renaming_keeps_rank_equality : (r s : ℕ) → (to r == to s) ≡ (r == s)
  renaming_keeps_rank_equality r s = go (to r == to s) (r == s) refl refl
    where
      go : (a b : Bool) → (to r == to s) ≡ a → (r == s) ≡ b → a ≡ b
      go true true e f = refl
      go false false e f = refl
      go true false e f =
          let is : r ≡ s = sym (perm.back_to r) ∙ (ap back (eqb-true (to r) (to s) e) ∙ perm.back_to s) in
          absurd (true≢false (sym (eq-eqb r s is) ∙ f))
      go false true e f =
          absurd (true≢false (sym (eq-eqb (to r) (to s) (ap to (eqb-true r s f))) ∙ e))

  pub same_place_op : (x y : OpId) → same_op (placed_op to x) (placed_op to y) ≡ same_op x y
  same_place_op x y = ap (λ (b : Bool). b && (x.op == y.op)) (renaming_keeps_rank_equality x.rank y.rank)

  pub happened_placed : (class : Class) (x : OpId) (h : List Act) → happened class (placed_op to x) (map (placed_act to) h) ≡ happened class x h
  unfolding happened
  happened_placed class x [] = refl
  happened_placed class x (a ∷ h) =
      λ i. happened_placed class x h i || (is_of class a && same_place_op a.op x i)

  accepts_placed : (source : Option ℕ) (r : ℕ) → accepts (option_map to source) (to r) ≡ accepts source r
  accepts_placed None r = refl
  accepts_placed (Some s) r = renaming_keeps_rank_equality s r

  fits_placed_kinds : (x : OpId) (k : Option Kind) (m : OpId) (l : Option Kind) → fits_kinds (placed_op to x) (option_map (placed_kind to) k) (placed_op to m) (option_map (placed_kind to) l) ≡ fits_kinds x k m l
  fits_placed_kinds x None m l = refl
  fits_placed_kinds x (Some (Calc nanos)) m l = refl
  fits_placed_kinds x (Some (Send bytes target tag)) m l = refl
  fits_placed_kinds x (Some (Recv room source tag)) m None = refl
  fits_placed_kinds x (Some (Recv room source tag)) m (Some (Calc nanos)) = refl
  fits_placed_kinds x (Some (Recv room source tag)) m (Some (Recv room2 source2 tag2)) = refl
  fits_placed_kinds x (Some (Recv room source tag)) m (Some (Send bytes target with_tag)) =
      λ i. renaming_keeps_rank_equality target x.rank i && accepts_placed source m.rank i && accepts tag with_tag

  -- the pairs of the renamed operations
  abbrev pub placed_pair : Pair → Pair
  placed_pair p = record { send = placed_op to p.send; recv = placed_op to p.recv }

  partner_placed_in : (p : Pair) (x : OpId) → other_in (placed_pair p) (placed_op to x) ≡ option_map (placed_op to) (other_in p x)
  partner_placed_in p x =
      (λ i. if same_place_op p.send x i then Some (placed_op to p.recv) else (if same_place_op p.recv x i then Some (placed_op to p.send) else None)) ∙ go (same_op p.send x) (same_op p.recv x)
    where
      go : (a b : Bool) → (if a then Some (placed_op to p.recv) else (if b then Some (placed_op to p.send) else None)) ≡ option_map (placed_op to) (if a then Some p.recv else (if b then Some p.send else None))
      go true b = refl
      go false true = refl
      go false false = refl

  or_placed : (o p : Option OpId) → option_or (option_map (placed_op to) o) (option_map (placed_op to) p) ≡ option_map (placed_op to) (option_or o p)
  or_placed None p = refl
  or_placed (Some x) p = refl

  pub partner_placed : (ps : List Pair) (x : OpId) → partner (map placed_pair ps) (placed_op to x) ≡ option_map (placed_op to) (partner ps x)
  unfolding partner
  partner_placed [] x = refl
  partner_placed (p ∷ ps) x =
      (λ i. option_or (partner_placed ps x i) (partner_placed_in p x i)) ∙ or_placed (partner ps x) (other_in p x)

  is_some_placed : (o : Option OpId) → is_some (option_map (placed_op to) o) ≡ is_some o
  is_some_placed None = refl
  is_some_placed (Some x) = refl

  pub is_paired_placed : (ps : List Pair) (x : OpId) → is_paired (map placed_pair ps) (placed_op to x) ≡ is_paired ps x
  is_paired_placed ps x = ap is_some (partner_placed ps x) ∙ is_some_placed (partner ps x)

  oldest_placed : (test tried : Act → Bool) → ((a : Act) → tried (placed_act to a) ≡ test a) → (h : List Act) → oldest tried (map (placed_act to) h) ≡ option_map (placed_op to) (oldest test h)
  unfolding oldest
  oldest_placed test tried same [] = refl
  oldest_placed test tried same (a ∷ h) =
      (λ i. option_or (oldest_placed test tried same h i) (if same a i then Some (placed_op to a.op) else None)) ∙ go (test a)
    where
      go : (b : Bool) → option_or (option_map (placed_op to) (oldest test h)) (if b then Some (placed_op to a.op) else None) ≡ option_map (placed_op to) (option_or (oldest test h) (if b then Some a.op else None))
      go true = or_placed (oldest test h) (Some a.op)
      go false = or_placed (oldest test h) None

  module _ (plans other : List Plan) (ops : (x : OpId) → op_at other (placed_op to x) ≡ option_map (placed_of to) (op_at plans x)) where
    pub kind_placed : (x : OpId) → kind_at other (placed_op to x) ≡ option_map (placed_kind to) (kind_at plans x)
    unfolding kind_at
    kind_placed x = ap (λ (o : Option Op). option_map (λ (p : Op). p.kind) o) (ops x) ∙ go (op_at plans x)
      where
        go : (o : Option Op) → option_map (λ (p : Op). p.kind) (option_map (placed_of to) o) ≡ option_map (placed_kind to) (option_map (λ (p : Op). p.kind) o)
        go None = refl
        go (Some p) = refl

    pub fits_placed : (x m : OpId) → fits other (placed_op to x) (placed_op to m) ≡ fits plans x m
    unfolding fits
    fits_placed x m =
        (λ i. fits_kinds (placed_op to x) (kind_placed x i) (placed_op to m) (kind_placed m i)) ∙ fits_placed_kinds x (kind_at plans x) m (kind_at plans m)

    some_pair : (f g : OpId → Pair) → ((x : OpId) → f (placed_op to x) ≡ placed_pair (g x)) → (o : Option OpId) → option_map f (option_map (placed_op to) o) ≡ option_map placed_pair (option_map g o)
    some_pair f g same None = refl
    some_pair f g same (Some x) = ap (λ (p : Pair). Some p) (same x)

    new_placed : (ps : List Pair) (h : List Act) (class : Class) (x : OpId) → new_pair other (map placed_pair ps) (map (placed_act to) h) class (placed_op to x) ≡ option_map placed_pair (new_pair plans ps h class x)
    new_placed ps h Arrive m =
        ap (option_map (λ x. pair_of (placed_op to m) x)) (oldest_placed (is_open_receive plans ps m) (is_open_receive other (map placed_pair ps) (placed_op to m)) (λ a i. is_of Post a && not (is_paired_placed ps a.op i) && fits_placed a.op m i) h) ∙ some_pair (λ x. pair_of (placed_op to m) x) (λ x. pair_of m x) (λ x. refl) (oldest (is_open_receive plans ps m) h)
    new_placed ps h Post x =
        ap (option_map (λ m. pair_of m (placed_op to x))) (oldest_placed (is_open_send plans ps x) (is_open_send other (map placed_pair ps) (placed_op to x)) (λ a i. is_of Arrive a && not (is_paired_placed ps a.op i) && fits_placed x a.op i) h) ∙ some_pair (λ m. pair_of m (placed_op to x)) (λ m. pair_of m x) (λ m. refl) (oldest (is_open_send plans ps x) h)
    new_placed ps h Serve x = refl
    new_placed ps h Data x = refl
    new_placed ps h Begin x = refl

    add_placed : (ps : List Pair) (o : Option Pair) → add_pair (map placed_pair ps) (option_map placed_pair o) ≡ map placed_pair (add_pair ps o)
    add_placed ps None = refl
    add_placed ps (Some p) = refl

    pub pairs_placed : (h : List Act) → pairs other (map (placed_act to) h) ≡ map placed_pair (pairs plans h)
    unfolding pairs
    pairs_placed [] = refl
    pairs_placed (a ∷ h) =
        ap (λ (ps : List Pair). add_pair ps (new_pair other ps (map (placed_act to) h) a.class (placed_op to a.op))) (pairs_placed h)
        ∙ ap (add_pair (map placed_pair (pairs plans h))) (new_placed (pairs plans h) h a.class a.op)
        ∙ add_placed (pairs plans h) (new_pair plans (pairs plans h) h a.class a.op)

    pub mate_placed : (h : List Act) (x : OpId) → partner (pairs other (map (placed_act to) h)) (placed_op to x) ≡ option_map (placed_op to) (partner (pairs plans h) x)
    mate_placed h x =
        ap (λ (ps : List Pair). partner ps (placed_op to x)) (pairs_placed h) ∙ partner_placed (pairs plans h) x

    pub paired_placed : (h : List Act) (x : OpId) → is_paired (pairs other (map (placed_act to) h)) (placed_op to x) ≡ is_paired (pairs plans h) x
    paired_placed h x =
        ap (λ (ps : List Pair). is_paired ps (placed_op to x)) (pairs_placed h) ∙ is_paired_placed (pairs plans h) x

    first_placed : (k : Option Kind) → first_class (option_map (placed_kind to) k) ≡ first_class k
    first_placed None = refl
    first_placed (Some (Calc nanos)) = refl
    first_placed (Some (Send bytes target tag)) = refl
    first_placed (Some (Recv room source tag)) = refl

    last_placed : (b : Bool) (k : Option Kind) → last_class b (option_map (placed_kind to) k) ≡ last_class b k
    last_placed b None = refl
    last_placed b (Some (Calc nanos)) = refl
    last_placed b (Some (Send bytes target tag)) = refl
    last_placed b (Some (Recv room source tag)) = refl

    pub first_of_placed : (x : OpId) → first_class (kind_at other (placed_op to x)) ≡ first_class (kind_at plans x)
    first_of_placed x = ap first_class (kind_placed x) ∙ first_placed (kind_at plans x)

    pub last_of_placed : (b : Bool) (x : OpId) → last_class b (kind_at other (placed_op to x)) ≡ last_class b (kind_at plans x)
    last_of_placed b x = ap (last_class b) (kind_placed x) ∙ last_placed b (kind_at plans x)

    pub started_placed : (x : OpId) (h : List Act) → has_started other (placed_op to x) (map (placed_act to) h) ≡ has_started plans x h
    started_placed x h =
        ap (λ (c : Class). happened c (placed_op to x) (map (placed_act to) h)) (first_of_placed x) ∙ happened_placed (first_class (kind_at plans x)) x h

    module _ (eager : OpId → Bool) where
      abbrev pub eager_back : OpId → Bool
      eager_back x = eager (placed_op to x)

      pub ended_placed : (x : OpId) (h : List Act) → has_ended other eager (placed_op to x) (map (placed_act to) h) ≡ has_ended plans eager_back x h
      ended_placed x h =
          ap (λ (c : Class). happened c (placed_op to x) (map (placed_act to) h)) (last_of_placed (eager_back x) x) ∙ happened_placed (last_class (eager_back x) (kind_at plans x)) x h

      met_placed : (h : List Act) (when : When) (y : OpId) → is_met other eager (map (placed_act to) h) when (placed_op to y) ≡ is_met plans eager_back h when y
      met_placed h AfterEnd y = ended_placed y h
      met_placed h AfterStart y = started_placed y h

      module _ (need : (x : OpId) → needs other (placed_op to x) ≡ needs plans x) where
        pub ready_placed : (h : List Act) (x : OpId) → is_ready other eager (map (placed_act to) h) (placed_op to x) ≡ is_ready plans eager_back h x
        unfolding is_ready
        ready_placed h x = λ i. list_all (λ (d : Need). met_placed h d.when (needed x d) i) (need x i)

        served_placed : (h : List Act) (o : Option OpId) → is_served other eager (map (placed_act to) h) (option_map (placed_op to) o) ≡ is_served plans eager_back h o
        served_placed h None = refl
        served_placed h (Some m) = ap (λ (b : Bool). eager (placed_op to m) || b) (happened_placed Data m h)

        may_placed : (h : List Act) (class : Class) (x : OpId) (k : Option Kind) → may other eager (map (placed_act to) h) class (placed_op to x) (option_map (placed_kind to) k) ≡ may plans eager_back h class x k
        may_placed h Begin x (Some (Calc nanos)) = ready_placed h x
        may_placed h Begin x (Some (Send bytes target tag)) = ready_placed h x
        may_placed h Begin x (Some (Recv room source tag)) = refl
        may_placed h Begin x None = refl
        may_placed h Post x (Some (Recv room source tag)) = ready_placed h x
        may_placed h Post x (Some (Calc nanos)) = refl
        may_placed h Post x (Some (Send bytes target tag)) = refl
        may_placed h Post x None = refl
        may_placed h Arrive x (Some (Send bytes target tag)) = happened_placed Begin x h
        may_placed h Arrive x (Some (Calc nanos)) = refl
        may_placed h Arrive x (Some (Recv room source tag)) = refl
        may_placed h Arrive x None = refl
        may_placed h Data x (Some (Send bytes target tag)) =
            ap (λ (b : Bool). not (eager (placed_op to x)) && b) (paired_placed h x)
        may_placed h Data x (Some (Calc nanos)) = refl
        may_placed h Data x (Some (Recv room source tag)) = refl
        may_placed h Data x None = refl
        may_placed h Serve x (Some (Recv room source tag)) =
            ap (is_served other eager (map (placed_act to) h)) (mate_placed h x) ∙ served_placed h (partner (pairs plans h) x)
        may_placed h Serve x (Some (Calc nanos)) = refl
        may_placed h Serve x (Some (Send bytes target tag)) = refl
        may_placed h Serve x None = refl

        pub allowed_placed : (h : List Act) (class : Class) (x : OpId) → allowed other eager (map (placed_act to) h) class (placed_op to x) ≡ allowed plans eager_back h class x
        unfolding allowed
        allowed_placed h class x =
            (λ i. not (happened_placed class x h i) && may other eager (map (placed_act to) h) class (placed_op to x) (kind_placed x i)) ∙ ap (λ (b : Bool). not (happened class x h) && b) (may_placed h class x (kind_at plans x))

        pub run_into : (h : List Act) → IsInterleaving other eager (map (placed_act to) h) → IsInterleaving plans eager_back h
        run_into [] run = tt
        run_into (a ∷ h) run = (run_into h run.0, sym (allowed_placed h a.class a.op) ∙ run.1)

        pub run_from : (h : List Act) → IsInterleaving plans eager_back h → IsInterleaving other eager (map (placed_act to) h)
        run_from [] run = tt
        run_from (a ∷ h) run = (run_from h run.0, allowed_placed h a.class a.op ∙ run.1)

        pub all_into : (h : List Act) → IsCompleteInterleaving other eager (map (placed_act to) h) → IsCompleteInterleaving plans eager_back h
        all_into h done = record {
          each = run_into h done.each;
          none_left = λ a. sym (allowed_placed h a.class a.op) ∙ done.none_left (placed_act to a);
        }

        pub all_from : (h : List Act) → IsCompleteInterleaving plans eager_back h → IsCompleteInterleaving other eager (map (placed_act to) h)
        all_from h done = record {
          each = run_from h done.each;
          none_left = λ b. (λ i. allowed other eager (map (placed_act to) h) b.class (sym (placed_op_after_back ranks to back perm b.op) i)) ∙ (allowed_placed h b.class (placed_op back b.op) ∙ done.none_left (record { class = b.class; op = placed_op back b.op }));
        }
