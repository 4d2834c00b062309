-- A renamed schedule is certified if and only if the original is certified, under the names.
use Rattle.std.proofs.Common.{ℕ, ◌+◌, ◌^◌, ◌≤◌, ◌≡◌, ◌↔◌, ◌&&◌, inl, inr, ⊎_elim, Bool, not, List, [], ◌∷◌, length, map, flat_map, take, Contains, Option, Some, None, if◌then◌else◌, refl, sym, ap, ◌∙◌, subst}
use Rattle.std.specs.List.{sum_by}
use Rattle.std.proofs.lemmas.List.{length-map, take-map}
use Rattle.std.proofs.lemmas.List.Concat.{flat_map-cons}
use Rattle.goal_limits.specs.Limits.{weight_limit}
use Rattle.goal_graph.specs.declared.action.OpId.{OpId}
use Rattle.goal_graph.specs.declared.action.Class.TheVariants.{Data}
use Rattle.goal_graph.specs.declared.plan.Kind.{Kind}
use Rattle.goal_graph.specs.declared.plan.Kind.TheVariants.{Calc, Send, Recv}
use Rattle.goal_graph.specs.declared.plan.Need.{Need}
use Rattle.goal_graph.specs.Schedule.{Plan, op_at, kind_at, needs, operations}
use Rattle.goal_graph.specs.Action.{Act, happened}
use Rattle.goal_graph.specs.Matching.{partner}
use Rattle.goal_graph.proofs.ForCallers.{contains_mapped}
use Rattle.goal_blocks.specs.Slots.{Adding, slots, adds, written_in, touched_in, written, touched}
use Rattle.goal_blocks.specs.Walk.{no_send, TakesFirst}
use Rattle.goal_blocks.specs.Matched.{IsMatched}
use Rattle.goal_blocks.specs.Race.{Reaches, here, through, EndsBefore, Conflict, HasNoRace}
use Rattle.goal_blocks.specs.Values.{Value, Store, Held, add_all, held_after}
use Rattle.goal_blocks.specs.Weight.{stored, has_received, carried, weight, weight_within}
use Rattle.goal_blocks.specs.Certification.{IsSmall, AddsAreLight, IsLight, IsCertified}
use Rattle.goal_blocks.specs.Renamed.{under, renamed_adding, renamed}
use Rattle.goal_blocks.specs.Laws.{IsUndoneBy, IsRenamed, KeepsSlots}
use Rattle.goal_blocks.proofs.AllowedAlike.{kind_alike, pairs_alike, allowed_alike, complete_into}
use Rattle.goal_blocks.proofs.RenamedValues.{add_under, renamed_held, held_named}
use Rattle.goal_blocks.proofs.RenamedNotes.{places_renamed, renamed_is, renamed_back}
use Rattle.goal_blocks.proofs.RenamedRight.{back, send_alike, receive_alike, channel_alike, joined_alike, all_end_alike, wanted_alike}
use Rattle.goal_blocks.proofs.RenamedSmall.{renamed_small}
use Rattle.goal_blocks.proofs.SumPermuted.{stored_permuted}

-- what certification asks of channels and of the walk
module _ (plans other : List Plan) (ops : (x : OpId) → op_at other x ≡ op_at plans x) (need : (x : OpId) → needs other x ≡ needs plans x) where
  pub takes_alike : (w : List Act) → TakesFirst other w → TakesFirst plans w
  takes_alike [] takes = tt
  takes_alike (a ∷ h) takes =
      (takes_alike h takes.0, λ b may. takes.1 b (allowed_alike plans other ops need no_send h b.class b.op ∙ may))

  abbrev pub matched_alike : IsMatched other → IsMatched plans
  matched_alike m = record {
    no_wildcard = λ x room from tag is. m.no_wildcard x room from tag (kind_alike plans other ops x ∙ is);
    no_double_channel = record {
      sends = λ x y c is_x is_y of_x of_y. m.no_double_channel.sends x y c (send_alike other plans (back plans other ops) x is_x) (send_alike other plans (back plans other ops) y is_y) (channel_alike plans other ops x ∙ of_x) (channel_alike plans other ops y ∙ of_y);
      receives = λ x y c is_x is_y of_x of_y. m.no_double_channel.receives x y c (receive_alike other plans (back plans other ops) x is_x) (receive_alike other plans (back plans other ops) y is_y) (channel_alike plans other ops x ∙ of_x) (channel_alike plans other ops y ∙ of_y);
    };
    no_unpaired = record {
      sends = λ x is. let p = m.no_unpaired.sends x (send_alike other plans (back plans other ops) x is) in (p.0, joined_alike plans other ops x p.0 p.1);
      receives = λ x is. let p = m.no_unpaired.receives x (receive_alike other plans (back plans other ops) x is) in (p.0, joined_alike plans other ops p.0 x p.1);
    };
    no_stall = record {
      walk = m.no_stall.walk;
      is_walk = record {
        complete = complete_into plans other ops need no_send m.no_stall.walk m.no_stall.is_walk.complete;
        in_order = takes_alike m.no_stall.walk m.no_stall.is_walk.in_order;
      };
      all_end = all_end_alike plans other ops no_send m.no_stall.walk m.no_stall.all_end;
    };
  }

  reaches_alike : {y z : OpId} → Reaches other y z → Reaches plans y z
  reaches_alike here = here
  reaches_alike (through {y = y} d has more) =
      through d (subst (λ (ns : List Need). Contains ns d) (need y) has) (reaches_alike more)

  before_alike : (x y : OpId) → EndsBefore other x y → EndsBefore plans x y
  before_alike x y b = record {
    by = b.by;
    reached = reaches_alike b.reached;
    need = b.need;
    is_need = subst (λ (ns : List Need). Contains ns b.need) (need b.by) b.is_need;
    at_end = b.at_end;
    names = b.names;
  }

-- the slots that operations touch
touches_named : (name : ℕ → ℕ) (added : List Adding) → flat_map (λ (a : Adding). a.from ∷ a.to ∷ []) (map (renamed_adding name) added) ≡ map name (flat_map (λ (a : Adding). a.from ∷ a.to ∷ []) added)
touches_named name [] = refl
touches_named name (a ∷ more) =
    flat_map-cons (λ (b : Adding). b.from ∷ b.to ∷ []) (renamed_adding name a) (map (renamed_adding name) more)
    ∙ ap (λ (ks : List ℕ). name a.from ∷ name a.to ∷ ks) (touches_named name more)
    ∙ ap (map name) (sym (flat_map-cons (λ (b : Adding). b.from ∷ b.to ∷ []) a more))

writes_named : (name : ℕ → ℕ) (added : List Adding) → map (λ (a : Adding). a.to) (map (renamed_adding name) added) ≡ map name (map (λ (a : Adding). a.to) added)
writes_named name [] = refl
writes_named name (a ∷ more) = ap (λ (ks : List ℕ). name a.to ∷ ks) (writes_named name more)

module _ (name old : ℕ → ℕ → ℕ) (plans other : List Plan) (undone : IsUndoneBy name old) (is : IsRenamed name plans other) where
  touched_alike : (x : OpId) → touched other x ≡ map (name x.rank) (touched plans x)
  unfolding touched
  touched_alike x =
      (λ i. touched_in (kind_alike plans other is.ops x i) (is.moves x i) (is.adds x i)) ∙ go (kind_at plans x)
    where
      go : (k : Option Kind) → touched_in k (map (name x.rank) (slots plans x)) (map (renamed_adding (name x.rank)) (adds plans x)) ≡ map (name x.rank) (touched_in k (slots plans x) (adds plans x))
      go None = refl
      go (Some (Send bytes to tag)) = refl
      go (Some (Recv room from tag)) = refl
      go (Some (Calc nanos)) = touches_named (name x.rank) (adds plans x)

  written_alike : (x : OpId) → written other x ≡ map (name x.rank) (written plans x)
  unfolding written
  written_alike x =
      (λ i. written_in (kind_alike plans other is.ops x i) (is.moves x i) (is.adds x i)) ∙ go (kind_at plans x)
    where
      go : (k : Option Kind) → written_in k (map (name x.rank) (slots plans x)) (map (renamed_adding (name x.rank)) (adds plans x)) ≡ map (name x.rank) (written_in k (slots plans x) (adds plans x))
      go None = refl
      go (Some (Send bytes to tag)) = refl
      go (Some (Recv room from tag)) = refl
      go (Some (Calc nanos)) = writes_named (name x.rank) (adds plans x)

  conflict_alike : (x y : OpId) → Conflict plans x y → Conflict other x y
  conflict_alike x y c = record {
    one_rank = c.one_rank;
    two = c.two;
    slot = name x.rank c.slot;
    is_touched = subst (λ (ks : List ℕ). Contains ks (name x.rank c.slot)) (sym (touched_alike x)) (contains_mapped (name x.rank) (touched plans x) c.slot c.is_touched);
    is_written = subst (λ (r : ℕ). Contains (written other y) (name r c.slot)) (sym c.one_rank) (subst (λ (ks : List ℕ). Contains ks (name y.rank c.slot)) (sym (written_alike y)) (contains_mapped (name y.rank) (written plans y) c.slot c.is_written));
  }

  no_race_alike : HasNoRace other → HasNoRace plans
  no_race_alike none x y c =
      ⊎_elim (λ b. inl (before_alike plans other is.ops is.needs x y b)) (λ b. inr (before_alike plans other is.ops is.needs y x b)) (none x y (conflict_alike x y c))

  length_alike : (x : OpId) → length (slots other x) ≡ length (slots plans x)
  length_alike x = ap length (is.moves x) ∙ length-map (slots plans x) (name x.rank)

  module _ (low : KeepsSlots name) (low_old : KeepsSlots old) (same_ops : operations other ≡ operations plans) where
    stored_alike : (store : Store) → stored (length other) (under old store) ≡ stored (length plans) store
    stored_alike store =
        ap (λ (n : ℕ). stored n (under old store)) is.ranks ∙ stored_permuted name old undone low.all low_old.all (length plans) store

    carried_alike : (h : List Act) (held : Held) → carried other h (renamed_held name old undone held) ≡ carried plans h held
    unfolding carried
    carried_alike h held =
        λ i. sum_by (λ m. if happened Data m h && not (has_received h (partner (pairs_alike plans other is.ops h i) m)) then sum_by (λ (v : Value). length v) (held.payload m) else 0) (same_ops i)

    weight_alike : (h : List Act) (held : Held) → weight other h (renamed_held name old undone held) ≡ weight plans h held
    unfolding weight
    weight_alike h held = λ i. stored_alike held.store i + carried_alike h held i

    within_alike : (h : List Act) (held : Held) (x : OpId) (n : ℕ) → weight_within other h (renamed_held name old undone held) x n ≡ weight_within plans h held x n
    unfolding weight_within
    within_alike h held x n =
        ap (λ (s : Store). stored (length other) s + carried other h (renamed_held name old undone held)) added ∙ (λ i. stored_alike (add_all x.rank (take n (adds plans x)) held.store) i + carried_alike h held i)
      where
        added : add_all x.rank (take n (adds other x)) (under old held.store) ≡ under old (add_all x.rank (take n (adds plans x)) held.store)
        added =
            ap (λ (added : List Adding). add_all x.rank added (under old held.store)) (ap (take n) (is.adds x) ∙ take-map (renamed_adding (name x.rank)) n (adds plans x)) ∙ add_under name old undone x.rank (take n (adds plans x)) held.store

    adds_light : (h : List Act) (held : Held) (x : OpId) (kind : Option Kind) → AddsAreLight other h (renamed_held name old undone held) x kind → AddsAreLight plans h held x kind
    adds_light h held x None light = tt
    adds_light h held x (Some (Send bytes to tag)) light = tt
    adds_light h held x (Some (Recv room from tag)) light = tt
    adds_light h held x (Some (Calc nanos)) light =
        λ n. subst (λ (w : ℕ). w ≤ weight_limit) (within_alike h held x n) (light n)

    module _ (first : Store) where
      same_held : (h : List Act) → held_after other no_send first h ≡ renamed_held name old undone (held_after plans no_send (under name first) h)
      same_held h = held_named name old undone plans other is no_send first h

      few_alike : (h : List Act) → weight other h (held_after other no_send first h) ≤ weight_limit → weight plans h (held_after plans no_send (under name first) h) ≤ weight_limit
      few_alike h few =
          subst (λ (w : ℕ). w ≤ weight_limit) (ap (weight other h) (same_held h) ∙ weight_alike h (held_after plans no_send (under name first) h)) few

      light_alike : (h : List Act) → IsLight other first h → IsLight plans (under name first) h
      light_alike [] light = few_alike [] light
      light_alike (a ∷ h) light =
          (light_alike h light.0, adds_light h (held_after plans no_send (under name first) h) a.op (kind_at plans a.op) sums, few_alike (a ∷ h) light.2)
        where
          sums : AddsAreLight other h (renamed_held name old undone (held_after plans no_send (under name first) h)) a.op (kind_at plans a.op)
          sums =
              subst (λ (k : Option Kind). AddsAreLight other h (renamed_held name old undone (held_after plans no_send (under name first) h)) a.op k) (kind_alike plans other is.ops a.op) (subst (λ (held : Held). AddsAreLight other h held a.op (kind_at other a.op)) (same_held h) light.1)

      pub certified_into : (wanted : ℕ → ℕ → Value → Bool) → IsSmall plans → IsCertified other first wanted → IsCertified plans (under name first) (under name wanted)
      certified_into wanted small c = record {
        small = small;
        matched = matched_alike plans other is.ops is.needs c.matched;
        lengths = λ m x one. sym (length_alike m) ∙ c.lengths m x (joined_alike other plans (λ y. sym (is.ops y)) m x one) ∙ length_alike x;
        no_race = no_race_alike c.no_race;
        light = light_alike c.matched.no_stall.walk c.light;
        right = wanted_alike name old plans other undone is first wanted no_send c.matched.no_stall.walk c.right;
      }

-- a small schedule with renamed slots is certified exactly if the original is, under the renaming
pub renamed_certified : (name old : ℕ → ℕ → ℕ) (plans : List Plan) (first : Store) (wanted : ℕ → ℕ → Value → Bool) → IsUndoneBy name old → KeepsSlots name → KeepsSlots old → IsSmall plans
    → IsCertified (renamed name plans) first wanted ↔ IsCertified plans (under name first) (under name wanted)
renamed_certified name old plans first wanted undone low low_old small =
    (certified_into name old plans (renamed name plans) undone (renamed_is name plans) low low_old (places_renamed name 0 0 plans) first wanted small, from)
  where
    turned : IsUndoneBy old name
    turned = record { back = undone.forth; forth = undone.back }

    twice : {A : Type 0} (f : ℕ → ℕ → A) → under old (under name f) ≡ f
    twice f = λ i r k. f r (undone.forth r k i)

    from : IsCertified plans (under name first) (under name wanted) → IsCertified (renamed name plans) first wanted
    from c =
        let there = certified_into old name (renamed name plans) plans turned (renamed_back name old plans (renamed name plans) undone (renamed_is name plans)) low_old low (sym (places_renamed name 0 0 plans)) (under name first) (under name wanted) (renamed_small name plans low small) c in
        subst (λ (s : Store). IsCertified (renamed name plans) s wanted) (twice first) (subst (λ (w : ℕ → ℕ → Value → Bool). IsCertified (renamed name plans) (under old (under name first)) w) (twice wanted) there)
