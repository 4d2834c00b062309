-- The keys of the slots, after one changed.
use Rattle.std.proofs.Common.{◌≡◌, ◌≢◌, ◌⊎◌, ◌<◌, ℕ, zero, suc, true, List, [], ◌∷◌, length, set, slice_get, slice_index, slice_index_or, Option, Some, None, refl, sym, ap, ◌∙◌, arith, inl, inr}
use Rattle.std.specs.Option.{option_map}
use Rattle.std.proofs.lemmas.Bool.{cases_eq}
use Rattle.std.proofs.lemmas.List.{get_or-set_same, get_or-set_other, length-set}
use Rattle.std.proofs.lemmas.Option.{slice_get-get_or, none-some}
use Rattle.goal_graph.specs.declared.action.Timed.{Timed}
use Rattle.sim_queue.specs.Map.{either, key_at}
use Rattle.sim_queue.proofs.ForCallers.{same_maps}
use Rattle.sim_queue.specs.Groups.{Grouped}
use Rattle.sim_resources.specs.declared.pair.Pair.{Pair}
use Rattle.sim_stations.specs.declared.key_place.KeyPlace.{KeyPlace}
use Rattle.sim_stations.specs.declared.key_place.KeyPlace.TheVariants.{Nowhere}
use Rattle.sim_stations.specs.Stations.{holds_cpu, when_free, pair_at}
use Rattle.sim_stations.specs.Kept.{seen_keys, stand_of, AreMapped, AreStands}

-- what a slot has
abbrev pub merged : List (Option Timed) → Grouped Timed → ℕ → Option Timed
merged ahead waiting i = either (key_at ahead i) (key_at waiting.keys i)

-- the resources of a slot
abbrev pub pair_here : List Pair → Grouped Timed → ℕ → Pair
pair_here pairs waiting i = pair_at pairs (slice_index waiting.groups i)

pub seen_keys_length : (free : List ℕ) (pairs : List Pair) (ahead waiting : List (Option Timed)) (groups : List ℕ) → length ahead ≡ length waiting → length groups ≡ length waiting → length (seen_keys free pairs ahead waiting groups) ≡ length waiting
unfolding seen_keys
seen_keys_length free pairs [] [] [] e f = refl
seen_keys_length free pairs (a ∷ xs) (w ∷ ws) (g ∷ gs) e f = ap suc (seen_keys_length free pairs xs ws gs (omega (arith, e)) (omega (arith, f)))
seen_keys_length free pairs [] [] (g ∷ gs) e f = absurd (omega (arith, f))
seen_keys_length free pairs [] (w ∷ ws) gs e f = absurd (omega (arith, e))
seen_keys_length free pairs (a ∷ xs) [] gs e f = absurd (omega (arith, e))
seen_keys_length free pairs (a ∷ xs) (w ∷ ws) [] e f = absurd (omega (arith, f))

pub seen_key_at_slot : (free : List ℕ) (pairs : List Pair) (ahead waiting : List (Option Timed)) (groups : List ℕ) → length ahead ≡ length waiting → length groups ≡ length waiting → (i : ℕ) → key_at (seen_keys free pairs ahead waiting groups) i ≡ option_map (when_free free (pair_at pairs (slice_index groups i))) (either (key_at ahead i) (key_at waiting i))
unfolding seen_keys
seen_key_at_slot free pairs [] [] [] e f i = refl
seen_key_at_slot free pairs (a ∷ xs) (w ∷ ws) (g ∷ gs) e f zero = refl
seen_key_at_slot free pairs (a ∷ xs) (w ∷ ws) (g ∷ gs) e f (suc i) = seen_key_at_slot free pairs xs ws gs (omega (arith, e)) (omega (arith, f)) i
seen_key_at_slot free pairs [] [] (g ∷ gs) e f i = absurd (omega (arith, f))
seen_key_at_slot free pairs [] (w ∷ ws) gs e f i = absurd (omega (arith, e))
seen_key_at_slot free pairs (a ∷ xs) [] gs e f i = absurd (omega (arith, e))
seen_key_at_slot free pairs (a ∷ xs) (w ∷ ws) [] e f i = absurd (omega (arith, f))

pub merged_ahead : (ahead : List (Option Timed)) (waiting : Grouped Timed) (i : ℕ) (k : Timed) → key_at ahead i ≡ Some k → merged ahead waiting i ≡ Some k
merged_ahead ahead waiting i k e = ap (λ o. either o (key_at waiting.keys i)) e

pub merged_waiting : (ahead : List (Option Timed)) (waiting : Grouped Timed) (i : ℕ) → key_at ahead i ≡ None → merged ahead waiting i ≡ key_at waiting.keys i
merged_waiting ahead waiting i e = ap (λ o. either o (key_at waiting.keys i)) e

-- one slot is changed
pub record IsStep (slot : ℕ) (ahead new_ahead : List (Option Timed)) (waiting new_waiting : Grouped Timed) : Type 0 where
  pub each_ahead : length new_ahead ≡ length ahead
  pub each_waiting : length new_waiting.keys ≡ length waiting.keys
  pub groups : new_waiting.groups ≡ waiting.groups
  pub ahead_stays : (one : ℕ) → one ≢ slot → key_at new_ahead one ≡ key_at ahead one
  pub waiting_stays : (one : ℕ) → one ≢ slot → key_at new_waiting.keys one ≡ key_at waiting.keys one
  pub apart : (k : Timed) → key_at new_ahead slot ≡ Some k → key_at new_waiting.keys slot ≡ None
  pub waits : (k : Timed) → key_at new_waiting.keys slot ≡ Some k → (k.time ≡ 0) × (holds_cpu k.class ≡ true)

module _ (ahead : List (Option Timed)) (waiting : Grouped Timed) (pairs : List Pair) (mapped : AreMapped ahead waiting pairs) where
  pub seen_key_of_mapped_slot : (free : List ℕ) (i : ℕ) → key_at (seen_keys free pairs ahead waiting.keys waiting.groups) i ≡ option_map (when_free free (pair_here pairs waiting i)) (merged ahead waiting i)
  seen_key_of_mapped_slot free i = seen_key_at_slot free pairs ahead waiting.keys waiting.groups mapped.each mapped.grouped i

  pub seen_keys_length_of_mapped : (free : List ℕ) → length (seen_keys free pairs ahead waiting.keys waiting.groups) ≡ length waiting.keys
  seen_keys_length_of_mapped free = seen_keys_length free pairs ahead waiting.keys waiting.groups mapped.each mapped.grouped

  -- a slot that waits has nothing ahead
  pub not_ahead : (slot : ℕ) (k : Timed) → key_at waiting.keys slot ≡ Some k → key_at ahead slot ≡ None
  not_ahead slot k e = go (key_at ahead slot) refl
    where
      go : (o : Option Timed) → key_at ahead slot ≡ o → o ≡ None
      go None f = refl
      go (Some q) f = absurd (none-some k (sym (mapped.apart slot q f) ∙ e))

  pub station_of : (slot : ℕ) → slot < length waiting.keys → slice_get waiting.groups slot ≡ Some (slice_index waiting.groups slot)
  station_of slot l = slice_get-get_or waiting.groups slot 0 (omega (arith, l, mapped.grouped))

  module _ (slot : ℕ) (new_ahead : List (Option Timed)) (new_waiting : Grouped Timed) (step : IsStep slot ahead new_ahead waiting new_waiting) where
    pub still_mapped : AreMapped new_ahead new_waiting pairs
    still_mapped = record {
      each = step.each_ahead ∙ mapped.each ∙ sym step.each_waiting;
      grouped = ap length step.groups ∙ mapped.grouped ∙ sym step.each_waiting;
      within = λ one s e. mapped.within one s (ap (λ gs. slice_get gs one) (sym step.groups) ∙ e);
      apart = λ one k e. apart_now one k e (cases_eq one slot);
      waits = λ one k e. waits_now one k e (cases_eq one slot);
    }
      where
        apart_now : (one : ℕ) (k : Timed) → key_at new_ahead one ≡ Some k → (one ≡ slot) ⊎ (one ≢ slot) → key_at new_waiting.keys one ≡ None
        apart_now one k e (inl s) =
            ap (key_at new_waiting.keys) s ∙ step.apart k (ap (key_at new_ahead) (sym s) ∙ e)
        apart_now one k e (inr n) = step.waiting_stays one n ∙ mapped.apart one k (sym (step.ahead_stays one n) ∙ e)

        waits_now : (one : ℕ) (k : Timed) → key_at new_waiting.keys one ≡ Some k → (one ≡ slot) ⊎ (one ≢ slot) → (k.time ≡ 0) × (holds_cpu k.class ≡ true)
        waits_now one k e (inl s) = step.waits k (ap (key_at new_waiting.keys) (sym s) ∙ e)
        waits_now one k e (inr n) = mapped.waits one k (sym (step.waiting_stays one n) ∙ e)

    pub merged_there : (one : ℕ) → one ≢ slot → merged new_ahead new_waiting one ≡ merged ahead waiting one
    merged_there one n =
        ap (λ o. either o (key_at new_waiting.keys one)) (step.ahead_stays one n) ∙ ap (either (key_at ahead one)) (step.waiting_stays one n)

    pair_now : (one : ℕ) → pair_here pairs new_waiting one ≡ pair_here pairs waiting one
    pair_now one = ap (λ gs. pair_at pairs (slice_index gs one)) step.groups

    -- the key of another slot, at these free times
    pub seen_there : (now : List ℕ) (one : ℕ) → one ≢ slot → key_at (seen_keys now pairs new_ahead new_waiting.keys new_waiting.groups) one ≡ option_map (when_free now (pair_here pairs waiting one)) (merged ahead waiting one)
    seen_there now one n =
        seen_key_at_slot now pairs new_ahead new_waiting.keys new_waiting.groups still_mapped.each still_mapped.grouped one ∙ ap (λ p. option_map (when_free now p) (merged new_ahead new_waiting one)) (pair_now one) ∙ ap (option_map (when_free now (pair_here pairs waiting one))) (merged_there one n)

    pub seen_slot : (now : List ℕ) → key_at (seen_keys now pairs new_ahead new_waiting.keys new_waiting.groups) slot ≡ option_map (when_free now (pair_here pairs waiting slot)) (merged new_ahead new_waiting slot)
    seen_slot now =
        seen_key_at_slot now pairs new_ahead new_waiting.keys new_waiting.groups still_mapped.each still_mapped.grouped slot ∙ ap (λ p. option_map (when_free now p) (merged new_ahead new_waiting slot)) (pair_now slot)

    pub long_now : (now : List ℕ) → length (seen_keys now pairs new_ahead new_waiting.keys new_waiting.groups) ≡ length waiting.keys
    long_now now =
        seen_keys_length now pairs new_ahead new_waiting.keys new_waiting.groups still_mapped.each still_mapped.grouped ∙ step.each_waiting

    -- at the same free times one key is changed
    pub seen_changed : (free : List ℕ) → slot < length waiting.keys → (value : Option Timed) → option_map (when_free free (pair_here pairs waiting slot)) (merged new_ahead new_waiting slot) ≡ value → seen_keys free pairs new_ahead new_waiting.keys new_waiting.groups ≡ set (seen_keys free pairs ahead waiting.keys waiting.groups) slot value
    seen_changed free within value is = same_maps new (set old slot value) (long_now free ∙ sym (seen_keys_length_of_mapped free) ∙ sym (length-set old slot value)) (λ i l. each i (cases_eq i slot))
      where
        old : List (Option Timed)
        old = seen_keys free pairs ahead waiting.keys waiting.groups

        new : List (Option Timed)
        new = seen_keys free pairs new_ahead new_waiting.keys new_waiting.groups

        each : (i : ℕ) → (i ≡ slot) ⊎ (i ≢ slot) → key_at new i ≡ key_at (set old slot value) i
        each i (inl s) =
            let here : key_at (set old slot value) slot ≡ value = get_or-set_same old slot value None (omega (arith, within, seen_keys_length_of_mapped free)) in
            ap (key_at new) s ∙ seen_slot free ∙ is ∙ sym here ∙ ap (key_at (set old slot value)) (sym s)
        each i (inr n) = seen_there free i n ∙ sym (seen_key_of_mapped_slot free i) ∙ sym (get_or-set_other old slot i value None n)

    -- the place of each slot's key is known
    pub stood_now : (stands : List KeyPlace) → AreStands stands ahead waiting → slot < length waiting.keys → (stand : KeyPlace) → stand ≡ stand_of (key_at new_ahead slot) (key_at new_waiting.keys slot) → AreStands (set stands slot stand) new_ahead new_waiting
    stood_now stands stood within stand is = record {
      each = length-set stands slot stand ∙ stood.each ∙ sym step.each_waiting;
      tells = λ i. go i (cases_eq i slot);
    }
      where
        go : (i : ℕ) → (i ≡ slot) ⊎ (i ≢ slot) → slice_index_or (set stands slot stand) i Nowhere ≡ stand_of (key_at new_ahead i) (key_at new_waiting.keys i)
        go i (inl s) =
            ap (λ x. slice_index_or (set stands slot stand) x Nowhere) s ∙ get_or-set_same stands slot stand Nowhere (omega (arith, within, stood.each)) ∙ is ∙ ap (λ x. stand_of (key_at new_ahead x) (key_at new_waiting.keys x)) (sym s)
        go i (inr n) =
            get_or-set_other stands slot i stand Nowhere n ∙ stood.tells i ∙ sym (ap (λ o. stand_of o (key_at new_waiting.keys i)) (step.ahead_stays i n) ∙ ap (stand_of (key_at ahead i)) (step.waiting_stays i n))

  -- a slot has another key ahead, or none, where it does not wait
  pub step_ahead : (slot : ℕ) (value : Option Timed) → slot < length waiting.keys → key_at waiting.keys slot ≡ None → IsStep slot ahead (set ahead slot value) waiting waiting
  step_ahead slot value l idle = record {
    each_ahead = length-set ahead slot value;
    each_waiting = refl;
    groups = refl;
    ahead_stays = λ one n. get_or-set_other ahead slot one value None n;
    waiting_stays = λ one n. refl;
    apart = λ k e. idle;
    waits = λ k e. absurd (none-some k (sym idle ∙ e));
  }

  pub ahead_key_after_set : (slot : ℕ) (value : Option Timed) → slot < length waiting.keys → key_at (set ahead slot value) slot ≡ value
  ahead_key_after_set slot value l = get_or-set_same ahead slot value None (omega (arith, l, mapped.each))

  -- a waiting slot gets another key, or none, and has nothing ahead
  pub step_waiting : (slot : ℕ) (now : List (Option Timed)) (value : Option Timed) (new : Grouped Timed) → slot < length waiting.keys → length now ≡ length ahead → ((one : ℕ) → one ≢ slot → key_at now one ≡ key_at ahead one) → key_at now slot ≡ None → ((k : Timed) → value ≡ Some k → (k.time ≡ 0) × (holds_cpu k.class ≡ true)) → new ≡ record { keys = set waiting.keys slot value; groups = waiting.groups } → IsStep slot ahead now waiting new
  step_waiting slot now value new l each stays idle waits is = record {
    each_ahead = each;
    each_waiting = ap (λ (q : Grouped Timed). length q.keys) is ∙ length-set waiting.keys slot value;
    groups = ap (λ (q : Grouped Timed). q.groups) is;
    ahead_stays = stays;
    waiting_stays = λ one n. ap (λ (q : Grouped Timed). key_at q.keys one) is ∙ get_or-set_other waiting.keys slot one value None n;
    apart = λ k e. absurd (none-some k (sym idle ∙ e));
    waits = λ k e. waits k (sym here ∙ e);
  }
    where
      here : key_at new.keys slot ≡ value
      here = ap (λ (q : Grouped Timed). key_at q.keys slot) is ∙ get_or-set_same waiting.keys slot value None l

  pub waiting_key_after_set : (slot : ℕ) (value : Option Timed) (new : Grouped Timed) → slot < length waiting.keys → new ≡ record { keys = set waiting.keys slot value; groups = waiting.groups } → key_at new.keys slot ≡ value
  waiting_key_after_set slot value new l is =
      ap (λ (q : Grouped Timed). key_at q.keys slot) is ∙ get_or-set_same waiting.keys slot value None l
