-- A blueprint: facts on the entries of a schedule alone, from which it is certified. What each entry finds in the slots that it
-- touches and what it leaves in those that it writes is told entry by entry.
use Rattle.std.proofs.Common.{⊎_elim, ℕ, zero, suc, ◌+◌, ◌<◌, ◌≤◌, ◌^◌, ◌≡◌, ◌⊎◌, inl, inr, Bool, true, List, [], ◌∷◌, map, flat_map, length, Contains, Option, Some, None, refl, sym, ap, ◌∙◌, subst, arith}
use Rattle.std.specs.List.{sum_by, range_with_len}
use Rattle.std.proofs.lemmas.List.{length-map}
use Rattle.std.proofs.lemmas.List.Sums.{sum_by-cons, sum_by-append}
use Rattle.goal_limits.specs.Limits.{weight_limit}
use Rattle.goal_graph.specs.declared.action.OpId.{OpId}
use Rattle.goal_graph.specs.declared.plan.Kind.{Kind}
use Rattle.goal_graph.specs.declared.plan.Kind.TheVariants.{Calc, Recv}
use Rattle.goal_graph.specs.declared.plan.Need.{Need}
use Rattle.goal_graph.specs.declared.plan.Op.{Op}
use Rattle.goal_graph.specs.declared.plan.When.TheVariants.{AfterEnd}
use Rattle.goal_graph.specs.Schedule.{Plan, kind_at, needs, needed, operations, places_of_rank, places_from, IsReceive}
use Rattle.goal_graph.specs.Action.{Act}
use Rattle.goal_graph.specs.Fault.{IsOp}
use Rattle.goal_graph.specs.Laws.{IsCalc}
use Rattle.goal_blocks.specs.Channels.{channel, AreOfOneChannel}
use Rattle.goal_blocks.specs.Slots.{Adding, slots, adds, written_in, touched_in, written, touched}
use Rattle.goal_blocks.specs.Race.{here, through, EndsBefore, HasNoRace}
use Rattle.goal_blocks.specs.Values.{Value, Store, Held, merge, set_slot, add_all, write, value, held_after}
use Rattle.goal_blocks.specs.Walk.{no_send, IsWalk}
use Rattle.goal_blocks.specs.Matched.{IsMatched}
use Rattle.goal_blocks.specs.Weight.{sum_below}
use Rattle.goal_blocks.specs.Certification.{IsSmall, HasEqualLengths, HoldsWanted, IsCertified}
use Rattle.goal_blocks.specs.Right.{IsRightEverywhere}
use Rattle.goal_blocks.specs.Entries.{Entry, plan_by, made_by}
use Rattle.goal_blocks.specs.Levels.{AreLevels}
use Rattle.goal_blocks.specs.Messages.{AreMessages, AreChannelsPaired}
use Rattle.goal_blocks.proofs.Orders.{Mem}
use Rattle.goal_blocks.proofs.Effects.{mem_contains, contains_mem, written_touched, set_slot_holds_value, write_map}
use Rattle.goal_blocks.proofs.EntryFacts.{slots_of_span, length_ops_by, length_plans, kind_there, needs_there, slots_there, adds_there, kind_only}
use Rattle.goal_blocks.proofs.Matched.{op_has_kind}
use Rattle.goal_blocks.proofs.MessagesPaired.{messages_paired, message_of_send, one_channel}
use Rattle.goal_blocks.proofs.Levels.{levels_end}
use Rattle.goal_blocks.proofs.Walk.{one_walk}
use Rattle.goal_blocks.proofs.SomeWalk.{some_walk}
use Rattle.goal_blocks.proofs.Flow.{IsFlow, Flows, all_flows, Source, Writes, state}
use Rattle.goal_blocks.proofs.Ends.{Before, ends, ends_keep, ends_once, ended_listed, held_by_ends}
use Rattle.goal_blocks.proofs.Light.{AreBounds, light}
use Rattle.goal_blocks.proofs.Right.{matched_right}
use Rattle.goal_graph.proofs.ForCallers.{op_of_kind}

-- the slots that an entry moves, those that it touches, and those that it writes
abbrev pub slots_moved_by : Entry → List ℕ
slots_moved_by e = flat_map slots_of_span e.moves

abbrev pub touches : Entry → List ℕ
touches e = touched_in (Some e.kind) (slots_moved_by e) e.adds

abbrev pub writes : Entry → List ℕ
writes e = written_in (Some e.kind) (slots_moved_by e) e.adds

-- entry i of a rank precedes entry j: j requires i, directly or through other entries
pub data Precedes (w : ℕ → Entry) : ℕ → ℕ → Type 0 where
  now : {i j : ℕ} → Mem i (w j).needs → Precedes w i j
  after : {i j : ℕ} → (k : ℕ) → Mem k (w j).needs → Precedes w i k → Precedes w i j

pub mem_map : {A B : Type 0} (f : A → B) (x : A) (xs : List A) → Mem x xs → Mem (f x) (map f xs)
mem_map f x [] m = absurd m
mem_map f x (y ∷ ys) (inl e) = inl (ap f e)
mem_map f x (y ∷ ys) (inr m) = inr (mem_map f x ys m)

map_mem : {A B : Type 0} (f : A → B) (y : B) (xs : List A) → Mem y (map f xs) → (x : A) × Mem x xs × (f x ≡ y)
map_mem f y [] m = absurd m
map_mem f y (x ∷ xs) (inl e) = (x, inl refl, e)
map_mem f y (x ∷ xs) (inr m) = let found = map_mem f y xs m in (found.0, inr found.1, found.2)

abbrev pub op_at : ℕ → ℕ → OpId
op_at r i = record { rank = r; op = i }

-- a sum over all operations, rank by rank
pub sum_places : (f : OpId → ℕ) (r i : ℕ) (ops : List Op) → sum_by f (places_of_rank r i ops) ≡ sum_by (λ (k : ℕ). f (op_at r k)) (range_with_len i (length ops))
unfolding places_of_rank
sum_places f r i [] = refl
sum_places f r i (o ∷ os) =
    sum_by-cons f (op_at r i) (places_of_rank r (i + 1) os) ∙ ap (λ (n : ℕ). f (op_at r i) + n) (sum_places f r (i + 1) os) ∙ sym (sum_by-cons (λ (k : ℕ). f (op_at r k)) i (range_with_len (i + 1) (length os)))

sum_from : (count : ℕ → ℕ) (e : ℕ → ℕ → Entry) (load : ℕ → ℕ → ℕ) (a n : ℕ) → sum_by (λ (x : OpId). load x.rank x.op) (places_from a (map (λ (r : ℕ). plan_by (count r) (e r)) (range_with_len a n))) ≡ sum_by (λ (r : ℕ). sum_by (load r) (range_with_len 0 (count r))) (range_with_len a n)
unfolding places_from
sum_from count e load a zero = refl
sum_from count e load a (suc n) =
    sum_by-append (λ (x : OpId). load x.rank x.op) (places_of_rank a 0 (plan_by (count a) (e a)).ops) (places_from (a + 1) (map (λ (r : ℕ). plan_by (count r) (e r)) (range_with_len (a + 1) n))) ∙ (let rest = sum_from count e load (a + 1) n in λ i. here_is i + rest i) ∙ sym (sum_by-cons (λ (r : ℕ). sum_by (load r) (range_with_len 0 (count r))) a (range_with_len (a + 1) n))
  where
    here_is : sum_by (λ (x : OpId). load x.rank x.op) (places_of_rank a 0 (plan_by (count a) (e a)).ops) ≡ sum_by (load a) (range_with_len 0 (count a))
    here_is =
        sum_places (λ (x : OpId). load x.rank x.op) a 0 (plan_by (count a) (e a)).ops ∙ ap (λ (m : ℕ). sum_by (load a) (range_with_len 0 m)) (length_ops_by (count a) (e a))

sum_operations : (ranks : ℕ) (count : ℕ → ℕ) (e : ℕ → ℕ → Entry) (load : ℕ → ℕ → ℕ) → sum_by (λ (x : OpId). load x.rank x.op) (operations (made_by ranks count e)) ≡ sum_by (λ (r : ℕ). sum_by (load r) (range_with_len 0 (count r))) (range_with_len 0 ranks)
unfolding made_by
sum_operations ranks count e load = sum_from count e load 0 ranks

module _ (ranks : ℕ) (count : ℕ → ℕ) (e : ℕ → ℕ → Entry) where
  abbrev pub made_plans : List Plan
  made_plans = made_by ranks count e

  -- the entry i is there
  abbrev pub IsThere : ℕ → ℕ → Type 0
  IsThere r i = (r < ranks) × (i < count r)

  module _ (first : Store) (wanted : ℕ → ℕ → Value → Bool) (finds leaves : ℕ → ℕ → ℕ → Value) where
    -- the first value, or what j, the last before i that writes it, leaves
    abbrev pub Origin : ℕ → ℕ → ℕ → Type 0
    Origin r i k =
        ((first r k ≡ finds r i k) × ((j : ℕ) → j < count r → Mem k (writes (e r j)) → (j ≡ i) ⊎ Precedes (e r) i j))
        ⊎ ((j : ℕ) × (j < count r) × Mem k (writes (e r j)) × Precedes (e r) j i × (leaves r j k ≡ finds r i k) × ((l : ℕ) → l < count r → Mem k (writes (e r l)) → ((l ≡ i) ⊎ (l ≡ j)) ⊎ (Precedes (e r) l j ⊎ Precedes (e r) i l)))

    -- what stands in a slot at the end is wanted: anything is, or what was there at first and no entry writes it, or what
    -- the last that writes it leaves
    abbrev pub Final : ℕ → ℕ → Type 0
    Final r k =
        ((v : Value) → wanted r k v ≡ true)
        ⊎ ((((j : ℕ) → j < count r → Mem k (writes (e r j)) → ⊥) × (wanted r k (first r k) ≡ true))
        ⊎ ((j : ℕ) × (j < count r) × Mem k (writes (e r j)) × ((l : ℕ) → l < count r → Mem k (writes (e r l)) → (l ≡ j) ⊎ Precedes (e r) l j) × (wanted r k (leaves r j k) ≡ true)))

    pub record IsBlueprint (M : Type 0) (bytes : ℕ) (send recv : M → OpId) (tag : M → ℕ) (level : ℕ → ℕ → ℕ) : Type 0 where
      pub messages : AreMessages ranks count e M bytes send recv tag
      -- what an entry needs exists, at a lower level
      pub lower : (r i k : ℕ) → IsThere r i → Mem k (e r i).needs → (k < count r) × (level r k < level r i)
      pub same_level : (m : M) → level (send m).rank (send m).op ≡ level (recv m).rank (recv m).op
      -- of two entries of which one writes a slot that the other touches, one precedes the other
      pub race : (r i j k : ℕ) → r < ranks → i < count r → j < count r → (i ≡ j → ⊥) → Mem k (touches (e r i)) → Mem k (writes (e r j)) → Precedes (e r) i j ⊎ Precedes (e r) j i
      pub source : (r i k : ℕ) → IsThere r i → ((room : ℕ) (from t : Option ℕ) → (e r i).kind ≡ Recv room from t → ⊥) → Mem k (touches (e r i)) → Origin r i k
      -- a calc adds one slot to another
      pub summed : (r i nanos : ℕ) → IsThere r i → (e r i).kind ≡ Calc nanos → (a : Adding) × ((e r i).adds ≡ a ∷ []) × (merge (finds r i a.to) (finds r i a.from) ≡ leaves r i a.to)
      -- a receive leaves what its send finds
      pub kept : (m : M) → map (finds (send m).rank (send m).op) (slots_moved_by (e (send m).rank (send m).op)) ≡ map (leaves (recv m).rank (recv m).op) (slots_moved_by (e (recv m).rank (recv m).op))
      pub final : (r k : ℕ) → r < ranks → Final r k

    -- bounds of the values in slots, and of the payloads of sends, which are together not too much
    pub record IsBounded (M : Type 0) (send : M → OpId) (cap load : ℕ → ℕ → ℕ) : Type 0 where
      pub first_cap : (r k : ℕ) → length (first r k) ≤ cap r k
      pub leaves_cap : (r i k : ℕ) → IsThere r i → Mem k (writes (e r i)) → length (leaves r i k) ≤ cap r k
      pub finds_load : (m : M) → sum_by (λ (v : Value). length v) (map (finds (send m).rank (send m).op) (slots_moved_by (e (send m).rank (send m).op))) ≤ load (send m).rank (send m).op
      pub total : sum_below ranks (λ r. sum_below (2 ^ 32) (cap r)) + sum_by (λ r. sum_by (load r) (range_with_len 0 (count r))) (range_with_len 0 ranks) ≤ weight_limit

    module _ (M : Type 0) (bytes : ℕ) (send recv : M → OpId) (tag : M → ℕ) (level : ℕ → ℕ → ℕ) (blueprint : IsBlueprint M bytes send recv tag level) where
      abbrev entry_at : OpId → Entry
      entry_at x = e x.rank x.op

      kind_is : (x : OpId) → IsThere x.rank x.op → kind_at made_plans x ≡ Some (e x.rank x.op).kind
      kind_is x there = kind_there ranks count e x.rank x.op there.0 there.1

      touched_is : (x : OpId) → IsThere x.rank x.op → touched made_plans x ≡ touches (e x.rank x.op)
      unfolding touched
      touched_is x there =
          rw (kind_is x there, slots_there ranks count e x.rank x.op there.0 there.1, adds_there ranks count e x.rank x.op there.0 there.1) refl

      written_is : (x : OpId) → IsThere x.rank x.op → written made_plans x ≡ writes (e x.rank x.op)
      unfolding written
      written_is x there =
          rw (kind_is x there, slots_there ranks count e x.rank x.op there.0 there.1, adds_there ranks count e x.rank x.op there.0 there.1) refl

      -- what touches or writes a slot is there
      touching : (x : OpId) (k : ℕ) → Mem k (touched made_plans x) → IsThere x.rank x.op × Mem k (touches (e x.rank x.op))
      unfolding touched
      touching x k m = go (kind_at made_plans x) refl m
        where
          go : (o : Option Kind) → kind_at made_plans x ≡ o → Mem k (touched_in o (slots made_plans x) (adds made_plans x)) → IsThere x.rank x.op × Mem k (touches (e x.rank x.op))
          go None f n = absurd n
          go (Some kind) f n =
              let is = kind_only ranks count e x kind f in
              ((is.in_rank, is.inside), subst (λ (ks : List ℕ). Mem k ks) (touched_is x (is.in_rank, is.inside)) m)

      writing : (x : OpId) (k : ℕ) → Mem k (written made_plans x) → IsThere x.rank x.op × Mem k (writes (e x.rank x.op))
      writing x k m =
          let there = (touching x k (written_touched made_plans x k m)).0 in
          (there, subst (λ (ks : List ℕ). Mem k ks) (written_is x there) m)

      -- needs
      need_in : (r i k : ℕ) → IsThere r i → Mem k (e r i).needs → Contains (needs made_plans (op_at r i)) (record { op = k; when = AfterEnd })
      need_in r i k there m =
          mem_contains _ _ (subst (λ (ds : List Need). Mem (record { op = k; when = AfterEnd }) ds) (sym (needs_there ranks count e r i there.0 there.1)) (mem_map (λ (n : ℕ). record { op = n; when = AfterEnd }) k (e r i).needs m))

      need_out : (x : OpId) (d : Need) → IsThere x.rank x.op → Contains (needs made_plans x) d → (k : ℕ) × Mem k (e x.rank x.op).needs × (◌≡◌ {A = Need} (record { op = k; when = AfterEnd }) d)
      need_out x d there c =
          map_mem (λ (n : ℕ). record { op = n; when = AfterEnd }) d (e x.rank x.op).needs (subst (λ (ds : List Need). Mem d ds) (needs_there ranks count e x.rank x.op there.0 there.1) (contains_mem d (needs made_plans x) c))

      precedes_ends : (r i j : ℕ) → IsThere r j → Precedes (e r) i j → EndsBefore made_plans (op_at r i) (op_at r j)
      precedes_ends r i j there (now m) = record {
        by = op_at r j;
        reached = here;
        need = record { op = i; when = AfterEnd };
        is_need = need_in r j i there m;
        at_end = refl;
        names = refl;
      }
      precedes_ends r i j there (after k m p) =
          let b = precedes_ends r i k (there.0, (blueprint.lower r j k there m).0) p in
          record {
            by = b.by;
            reached = through (record { op = k; when = AfterEnd }) (need_in r j k there m) b.reached;
            need = b.need;
            is_need = b.is_need;
            at_end = b.at_end;
            names = b.names;
          }

      precedes_lower : (r i j : ℕ) → IsThere r j → Precedes (e r) i j → level r i < level r j
      precedes_lower r i j there (now m) = (blueprint.lower r j i there m).1
      precedes_lower r i j there (after k m p) =
          let low = blueprint.lower r j k there m in
          let rest = precedes_lower r i k (there.0, low.0) p in
          let step = low.1 in
          omega (arith, rest, step)

      precedes_apart : (r i j : ℕ) → IsThere r j → Precedes (e r) i j → i ≡ j → ⊥
      precedes_apart r i j there p same =
          let low = subst (λ (n : ℕ). level r n < level r j) same (precedes_lower r i j there p) in omega (arith, low)

      -- channels
      paired : AreChannelsPaired made_plans
      paired = messages_paired ranks count e M bytes send recv tag blueprint.messages

      message_of : (m x : OpId) → AreOfOneChannel made_plans m x → (s : M) × (send s ≡ m) × (recv s ≡ x)
      message_of m x one =
          let sent = message_of_send ranks count e M bytes send recv tag blueprint.messages m one.is_send in
          let its = one_channel ranks count e M bytes send recv tag blueprint.messages sent.0 in
          (sent.0, sent.1, paired.no_double_channel.receives (recv sent.0) x one.shared its.is_receive one.is_receive (its.of_receive ∙ sym its.of_send ∙ ap (λ (y : OpId). channel made_plans y) sent.1 ∙ one.of_send) one.of_receive)

      levels : AreLevels made_plans (λ x. level x.rank x.op)
      levels = record {
        lower = lower;
        same = λ m x one. let s = message_of m x one in subst (λ (y : OpId). level m.rank m.op ≡ level y.rank y.op) s.2 (subst (λ (y : OpId). level y.rank y.op ≡ level (recv s.0).rank (recv s.0).op) s.1 (blueprint.same_level s.0));
      }
        where
          lower : (x : OpId) (d : Need) → IsOp made_plans x → Contains (needs made_plans x) d → IsOp made_plans (needed x d) × (level x.rank d.op < level x.rank x.op)
          lower x d is_op c =
              let has = op_has_kind made_plans x is_op in
              let is = kind_only ranks count e x has.0 has.1 in
              let found = need_out x d (is.in_rank, is.inside) c in
              let low = blueprint.lower x.rank x.op found.0 (is.in_rank, is.inside) found.1 in
              subst (λ (d : Need). IsOp made_plans (needed x d) × (level x.rank d.op < level x.rank x.op)) found.2 (op_of_kind made_plans (op_at x.rank found.0) _ (kind_there ranks count e x.rank found.0 is.in_rank low.0), low.1)

      matched : IsMatched made_plans
      matched = record {
        no_wildcard = paired.no_wildcard;
        no_double_channel = paired.no_double_channel;
        no_unpaired = paired.no_unpaired;
        no_stall = record {
          walk = (some_walk made_plans).0;
          is_walk = (some_walk made_plans).1;
          all_end = levels_end made_plans (λ x. level x.rank x.op) no_send (some_walk made_plans).0 paired.no_wildcard paired.no_double_channel paired.no_unpaired levels (some_walk made_plans).1.complete;
        };
      }

      -- of two entries of which one writes what the other touches one ends before the other
      ordered : (x y : OpId) → x.rank ≡ y.rank → (x ≡ y → ⊥) → (k : ℕ) → Mem k (touched made_plans x) → Mem k (written made_plans y) → EndsBefore made_plans x y ⊎ EndsBefore made_plans y x
      ordered x y e_rank differ k t w =
          let at_x = touching x k t in
          let at_y = writing y k w in
          go at_x.0 at_x.1 (subst (λ (r : ℕ). IsThere r y.op) (sym e_rank) at_y.0) (subst (λ (r : ℕ). Mem k (writes (e r y.op))) (sym e_rank) at_y.1)
        where
          same : op_at x.rank y.op ≡ y
          same = λ i. record { rank = e_rank i; op = y.op }

          go : IsThere x.rank x.op → Mem k (touches (e x.rank x.op)) → IsThere x.rank y.op → Mem k (writes (e x.rank y.op)) → EndsBefore made_plans x y ⊎ EndsBefore made_plans y x
          go there_x tx there_y wy =
              ⊎_elim (λ p. inl (subst (λ (z : OpId). EndsBefore made_plans x z) same (precedes_ends x.rank x.op y.op there_y p))) (λ p. inr (subst (λ (z : OpId). EndsBefore made_plans z x) same (precedes_ends x.rank y.op x.op there_x p))) (blueprint.race x.rank x.op y.op k there_x.0 there_x.1 there_y.1 (λ f. differ (λ i. record { rank = e_rank i; op = f i })) tx wy)

      no_race : HasNoRace made_plans
      no_race x y c =
          ordered x y c.one_rank c.two c.slot (contains_mem c.slot (touched made_plans x) c.is_touched) (contains_mem c.slot (written made_plans y) c.is_written)

      slots_are : (x : OpId) → IsThere x.rank x.op → slots made_plans x ≡ slots_moved_by (e x.rank x.op)
      slots_are x there = slots_there ranks count e x.rank x.op there.0 there.1

      send_is_there : (m : M) → IsThere (send m).rank (send m).op
      send_is_there m = blueprint.messages.send_there m

      recv_is_there : (m : M) → IsThere (recv m).rank (recv m).op
      recv_is_there m = blueprint.messages.recv_there m

      same_lengths : HasEqualLengths made_plans
      same_lengths m x one =
          let s = message_of m x one in
          subst (λ (y : OpId). length (slots made_plans m) ≡ length (slots made_plans y)) s.2 (subst (λ (y : OpId). length (slots made_plans y) ≡ length (slots made_plans (recv s.0))) s.1 (of_message s.0))
        where
          of_message : (s : M) → length (slots made_plans (send s)) ≡ length (slots made_plans (recv s))
          of_message s =
              ap length (slots_are (send s) (send_is_there s)) ∙ sym (length-map (slots_moved_by (entry_at (send s))) (finds (send s).rank (send s).op)) ∙ ap length (blueprint.kept s) ∙ length-map (slots_moved_by (entry_at (recv s))) (leaves (recv s).rank (recv s).op) ∙ sym (ap length (slots_are (recv s) (recv_is_there s)))

      -- the values of the operations, given by those of the entries
      abbrev found : OpId → ℕ → Value
      found x k = finds x.rank x.op k

      abbrev left_by : OpId → ℕ → Value
      left_by x k = leaves x.rank x.op k

      before_from : (r i j : ℕ) → IsThere r j → Precedes (e r) i j → Before made_plans matched (op_at r i) (op_at r j)
      before_from r i j there p =
          (λ same. precedes_apart r i j there p (ap (λ (x : OpId). x.op) same), inl (precedes_ends r i j there p))

      -- an operation that writes a slot of a rank is an entry of it
      record IsWriter (z : OpId) (r k : ℕ) : Type 0 where
        is : op_at r z.op ≡ z
        there : IsThere r z.op
        wrote : Mem k (writes (e r z.op))

      writer : (z : OpId) (r k : ℕ) → Writes made_plans matched first z r k → IsWriter z r k
      writer z r k w =
          let at_z = writing z k w.1 in
          record {
            is = ap (λ (q : ℕ). op_at q z.op) (sym w.0);
            there = subst (λ (q : ℕ). IsThere q z.op) w.0 at_z.0;
            wrote = subst (λ (q : ℕ). Mem k (writes (e q z.op))) w.0 at_z.1;
          }

      sources : (x : OpId) (k : ℕ) → (IsReceive made_plans x → ⊥) → Mem k (touched made_plans x) → Source made_plans matched first found left_by x k
      sources x k not_receive t =
          let at_x = touching x k t in
          go at_x.0 (blueprint.source x.rank x.op k at_x.0 (λ room from tg f. not_receive (record { room = room; from = from; tag = tg; kind = kind_is x at_x.0 ∙ ap Some f })) at_x.1)
        where
          is_after : (z : OpId) → IsWriter z x.rank k → Precedes (e x.rank) x.op z.op → Before made_plans matched x z
          is_after z w p =
              subst (λ (y : OpId). Before made_plans matched x y) w.is (before_from x.rank x.op z.op w.there p)

          go : IsThere x.rank x.op → Origin x.rank x.op k → Source made_plans matched first found left_by x k
          go there (inl (f, others)) =
              inl (f, λ z w. let is = writer z x.rank k w in ⊎_elim (λ same. inl (sym is.is ∙ ap (λ (i : ℕ). op_at x.rank i) same)) (λ p. inr (is_after z is p)) (others z.op is.there.1 is.wrote))
          go there (inr (j, inside, w, p, f, others)) =
              inr (op_at x.rank j, (refl, subst (λ (ks : List ℕ). Mem k ks) (sym (written_is (op_at x.rank j) (there.0, inside))) w), before_from x.rank j x.op there p, f, λ z v. each z (writer z x.rank k v))
            where
              each : (z : OpId) → IsWriter z x.rank k → ((z ≡ x) ⊎ (z ≡ op_at x.rank j)) ⊎ (Before made_plans matched z (op_at x.rank j) ⊎ Before made_plans matched x z)
              each z is =
                  ⊎_elim (λ s. ⊎_elim (λ same. inl (inl (sym is.is ∙ ap (λ (i : ℕ). op_at x.rank i) same))) (λ same. inl (inr (sym is.is ∙ ap (λ (i : ℕ). op_at x.rank i) same))) s) (λ s. ⊎_elim (λ q. inr (inl (subst (λ (y : OpId). Before made_plans matched y (op_at x.rank j)) is.is (before_from x.rank z.op j (there.0, inside) q)))) (λ q. inr (inr (is_after z is q))) s) (others z.op is.there.1 is.wrote)

      touches_calc : (r i nanos : ℕ) (a : Adding) → (e r i).kind ≡ Calc nanos → (e r i).adds ≡ a ∷ [] → touches (e r i) ≡ a.from ∷ a.to ∷ []
      touches_calc r i nanos a k f =
          ap (λ (kind : Kind). touched_in (Some kind) (slots_moved_by (e r i)) (e r i).adds) k ∙ ap (λ (xs : List Adding). flat_map (λ (a : Adding). a.from ∷ a.to ∷ []) xs) f

      writes_calc : (r i nanos : ℕ) (a : Adding) → (e r i).kind ≡ Calc nanos → (e r i).adds ≡ a ∷ [] → writes (e r i) ≡ a.to ∷ []
      writes_calc r i nanos a k f =
          ap (λ (kind : Kind). written_in (Some kind) (slots_moved_by (e r i)) (e r i).adds) k ∙ ap (λ (xs : List Adding). map (λ (a : Adding). a.to) xs) f

      calc_kind : (x : OpId) (calc : IsCalc made_plans x) → IsThere x.rank x.op × (entry_at x).kind ≡ Calc calc.nanos
      calc_kind x calc =
          let is = kind_only ranks count e x (Calc calc.nanos) calc.kind in ((is.in_rank, is.inside), is.is)

      sums : (x : OpId) → IsCalc made_plans x → (s : Store) → ((j : ℕ) → Mem j (touched made_plans x) → s x.rank j ≡ found x j) → (k : ℕ) → Mem k (written made_plans x) → add_all x.rank (adds made_plans x) s x.rank k ≡ left_by x k
      unfolding add_all
      sums x calc s each k w =
          let is = calc_kind x calc in
          let sum = blueprint.summed x.rank x.op calc.nanos is.0 is.1 in
          go sum.0 sum.1 sum.2 is.0 is.1
        where
          go : (a : Adding) → (entry_at x).adds ≡ a ∷ [] → merge (found x a.to) (found x a.from) ≡ left_by x a.to → IsThere x.rank x.op → (entry_at x).kind ≡ Calc calc.nanos → add_all x.rank (adds made_plans x) s x.rank k ≡ left_by x k
          go a f sum there kind =
              ap (λ (xs : List Adding). add_all x.rank xs s x.rank k) (adds_there ranks count e x.rank x.op there.0 there.1 ∙ f) ∙ at_slot (subst (λ (ks : List ℕ). Mem k ks) (written_is x there ∙ writes_calc x.rank x.op calc.nanos a kind f) w)
            where
              touched_as : touched made_plans x ≡ a.from ∷ a.to ∷ []
              touched_as = touched_is x there ∙ touches_calc x.rank x.op calc.nanos a kind f

              both : merge (s x.rank a.to) (s x.rank a.from) ≡ merge (found x a.to) (found x a.from)
              both =
                  let to = each a.to (subst (λ (ks : List ℕ). Mem a.to ks) (sym touched_as) (inr (inl refl))) in
                  let from = each a.from (subst (λ (ks : List ℕ). Mem a.from ks) (sym touched_as) (inl refl)) in
                  λ i. merge (to i) (from i)

              at_slot : Mem k (a.to ∷ []) → set_slot x.rank a.to (merge (s x.rank a.to) (s x.rank a.from)) s x.rank k ≡ left_by x k
              at_slot (inl same) =
                  subst (λ (l : ℕ). set_slot x.rank a.to (merge (s x.rank a.to) (s x.rank a.from)) s x.rank l ≡ left_by x l) same (set_slot_holds_value x.rank a.to (merge (s x.rank a.to) (s x.rank a.from)) s ∙ both ∙ sum)
              at_slot (inr none) = absurd none

      moves : (m x : OpId) → AreOfOneChannel made_plans m x → (s : Store) (k : ℕ) → Mem k (written made_plans x) → write x.rank (slots made_plans x) (map (found m) (slots made_plans m)) s x.rank k ≡ left_by x k
      moves m x one s k w =
          let u = message_of m x one in
          subst (λ (y : OpId). Mem k (written made_plans y) → write y.rank (slots made_plans y) (map (found m) (slots made_plans m)) s y.rank k ≡ left_by y k) u.2 (subst (λ (n : OpId). Mem k (written made_plans (recv u.0)) → write (recv u.0).rank (slots made_plans (recv u.0)) (map (found n) (slots made_plans n)) s (recv u.0).rank k ≡ left_by (recv u.0) k) u.1 (of_message u.0)) w
        where
          of_message : (u : M) → Mem k (written made_plans (recv u)) → write (recv u).rank (slots made_plans (recv u)) (map (found (send u)) (slots made_plans (send u))) s (recv u).rank k ≡ left_by (recv u) k
          of_message u v =
              let sent = ap (λ (ks : List ℕ). map (found (send u)) ks) (slots_are (send u) (send_is_there u)) ∙ blueprint.kept u in
              let got = slots_are (recv u) (recv_is_there u) in
              (λ i. write (recv u).rank (got i) (sent i) s (recv u).rank k) ∙ write_map (recv u).rank (slots_moved_by (entry_at (recv u))) (left_by (recv u)) s k (subst (λ (kind : Kind). Mem k (written_in (Some kind) (slots_moved_by (entry_at (recv u))) (entry_at (recv u)).adds)) (blueprint.messages.received u) (writing (recv u) k v).1)

      flow : IsFlow made_plans matched first found left_by
      flow = record { source = sources; moves = moves; sums = sums }

      abbrev walked : List OpId
      walked = ends made_plans no_send matched.no_stall.walk

      written_final : HoldsWanted made_plans wanted (value made_plans no_send first matched.no_stall.walk)
      written_final r k below = subst (λ (s : Held). wanted r k (s.store r k) ≡ true) (sym held) (go (blueprint.final r k in_rank))
        where
          in_rank : r < ranks
          in_rank = let size = length_plans ranks count e in omega (arith, below, size)

          held : held_after made_plans no_send first matched.no_stall.walk ≡ state made_plans matched first walked
          held =
              held_by_ends made_plans matched no_send first matched.no_stall.walk matched.no_stall.is_walk.complete.each

          flows : Flows made_plans matched first found left_by walked
          flows =
              all_flows made_plans matched first found left_by flow walked (ends_keep made_plans matched no_send matched.no_stall.walk matched.no_stall.is_walk.complete.each) (ends_once made_plans no_send matched.no_stall.walk matched.no_stall.is_walk.complete.each)

          has_ended_in : (j : ℕ) → j < count r → Mem (op_at r j) walked
          has_ended_in j inside =
              ended_listed made_plans no_send matched.no_stall.walk (op_at r j) (matched.no_stall.all_end (op_at r j) (op_of_kind made_plans (op_at r j) _ (kind_there ranks count e r j in_rank inside)))

          go : Final r k → wanted r k ((state made_plans matched first walked).store r k) ≡ true
          go (inl any) = any _
          go (inr (inl (none, is))) =
              subst (λ (v : Value). wanted r k v ≡ true) (sym (flows.unwritten r k (λ z m w. let is = writer z r k w in none z.op is.there.1 is.wrote))) is
          go (inr (inr (j, inside, w, last, is))) =
              subst (λ (v : Value). wanted r k v ≡ true) (sym (flows.left (op_at r j) k (has_ended_in j inside) (subst (λ (ks : List ℕ). Mem k ks) (sym (written_is (op_at r j) (in_rank, inside))) w) (λ z m v. is_last z (writer z r k v)))) is
            where
              is_last : (z : OpId) → IsWriter z r k → (z ≡ op_at r j) ⊎ Before made_plans matched z (op_at r j)
              is_last z is =
                  ⊎_elim (λ same. inl (sym is.is ∙ ap (λ (i : ℕ). op_at r i) same)) (λ p. inr (subst (λ (y : OpId). Before made_plans matched y (op_at r j)) is.is (before_from r z.op j (in_rank, inside) p))) (last z.op is.there.1 is.wrote)

      -- so it is right everywhere, whatever it weighs
      pub blueprint_right : IsRightEverywhere made_plans first wanted
      blueprint_right = matched_right made_plans first wanted matched no_race written_final

      -- at the end of the walk
      pub final_values : (w : List Act) → IsWalk made_plans w → HoldsWanted made_plans wanted (value made_plans no_send first w)
      final_values w is =
          subst (λ (v : List Act). HoldsWanted made_plans wanted (value made_plans no_send first v)) (one_walk made_plans matched.no_stall.walk w matched.no_stall.is_walk is) written_final

      module _ (cap load : ℕ → ℕ → ℕ) (bounded : IsBounded M send cap load) where
        bounds : AreBounds made_plans first found left_by cap (λ x. load x.rank x.op)
        bounds = record {
          first_cap = bounded.first_cap;
          leaves_cap = λ y k w. let is = writing y k w in bounded.leaves_cap y.rank y.op k is.0 is.1;
          finds_load = λ m is. let s = message_of_send ranks count e M bytes send recv tag blueprint.messages m is in subst (λ (y : OpId). sum_by (λ (v : Value). length v) (map (found y) (slots made_plans y)) ≤ load y.rank y.op) s.1 (few_found s.0);
          one_adding = λ x calc. let is = calc_kind x calc in let sum = blueprint.summed x.rank x.op calc.nanos is.0 is.1 in subst (λ (xs : List Adding). length xs ≤ 1) (sym (adds_there ranks count e x.rank x.op is.0.0 is.0.1 ∙ sum.1)) (omega arith);
          total = total;
        }
          where
            few_found : (s : M) → sum_by (λ (v : Value). length v) (map (found (send s)) (slots made_plans (send s))) ≤ load (send s).rank (send s).op
            few_found s =
                subst (λ (ks : List ℕ). sum_by (λ (v : Value). length v) (map (found (send s)) ks) ≤ load (send s).rank (send s).op) (sym (slots_are (send s) (send_is_there s))) (bounded.finds_load s)

            total : sum_below (length made_plans) (λ r. sum_below (2 ^ 32) (cap r)) + sum_by (λ x. load x.rank x.op) (operations made_plans) ≤ weight_limit
            total =
                subst (λ (n : ℕ). sum_below n (λ r. sum_below (2 ^ 32) (cap r)) + sum_by (λ x. load x.rank x.op) (operations made_plans) ≤ weight_limit) (sym (length_plans ranks count e)) (subst (λ (n : ℕ). sum_below ranks (λ r. sum_below (2 ^ 32) (cap r)) + n ≤ weight_limit) (sym (sum_operations ranks count e load)) bounded.total)

        pub blueprint_certified : IsSmall made_plans → IsCertified made_plans first wanted
        blueprint_certified small = record {
          small = small;
          matched = matched;
          lengths = same_lengths;
          no_race = no_race;
          light = light made_plans matched first found left_by flow cap (λ x. load x.rank x.op) bounds matched.no_stall.walk matched.no_stall.is_walk.complete.each;
          right = written_final;
        }
