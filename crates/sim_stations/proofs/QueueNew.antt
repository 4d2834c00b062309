-- A queue in which no slot has a key.
use Rattle.std.proofs.Common.{◌≡◌, ◌⊎◌, ◌*◌, ◌<◌, ◌≤◌, ℕ, All, Bool, false, List, Option, None, length, replicate, get_or, slice_index, slice_index_or, refl, sym, ap, ◌∙◌, subst, arith, inl, inr}
use Rattle.std.specs.Option.{option_map}
use Rattle.std.proofs.lemmas.Bool.{cases_lt}
use Rattle.std.proofs.lemmas.List.{length-replicate, get_or-replicate, get_or_past}
use Rattle.std.proofs.lemmas.List.Elements.{All-get_or}
use Rattle.std.proofs.lemmas.Option.{slice_get_within, get_or_from_slice_get, none-some}
use Rattle.goal_graph.specs.declared.action.Timed.{Timed}
use Rattle.sim_queue.specs.Map.{either, key_at, no_keys}
use Rattle.sim_queue.proofs.ForCallers.{key_at_no_keys, same_maps}
use Rattle.sim_queue.specs.Groups.{Grouped}
use Rattle.sim_resources.specs.declared.pair.Pair.{Pair}
use Rattle.sim_stations.specs.declared.key_place.KeyPlace.{KeyPlace}
use Rattle.sim_stations.specs.declared.key_place.KeyPlace.TheVariants.{Nowhere}
use Rattle.sim_stations.specs.Stations.{DoExist, when_free, pair_at}
use Rattle.sim_stations.specs.Moves.{one_if, HaveReturned, HasReturned}
use Rattle.sim_stations.specs.Rows.{Rowed, IsHead}
use Rattle.sim_stations.specs.Kept.{seen_of, stand_of, IsKept}
use Rattle.sim_stations.proofs.Slots.{seen_key_at_slot, seen_keys_length}
use Rattle.sim_stations.proofs.Changed.{view}

-- any entry of a replicated list is its element, if that is also the default
get_or_of_replicate : {X : Type 0} (n i : ℕ) (x : X) → get_or (replicate n x) i x ≡ x
get_or_of_replicate {X = X} n i x = go (cases_lt i n)
  where
    go : (i < n) ⊎ (n ≤ i) → get_or (replicate n x) i x ≡ x
    go (inl l) = get_or-replicate n i x x l
    go (inr l) = get_or_past (replicate n x) i x (omega (arith, l, length-replicate {A = X} n x))

module _ (numbers : List ℕ) (pairs : List Pair) (resources : ℕ) (few_stations : length pairs ≤ length numbers) (few_resources : resources ≤ 2 * length numbers) (within : All (λ s. s < length pairs) numbers) (exist : DoExist pairs resources) where
  abbrev n : ℕ
  n = length numbers

  abbrev none : List (Option Timed)
  none = no_keys n

  abbrev idle : Grouped Timed
  idle = record { keys = no_keys n; groups = numbers }

  abbrev at_first : Rowed
  at_first = record { keys = no_keys (length pairs); pairs = pairs; turned = replicate (length pairs) false; free = replicate resources 0 }

  length_of_empty_slots : length none ≡ n
  length_of_empty_slots = length-replicate {A = Option Timed} n None

  kept : IsKept none idle at_first (replicate n Nowhere)
  kept = record {
    mapped = record {
      each = refl;
      grouped = sym length_of_empty_slots;
      within =
          λ slot s e.
          let l : slot < n = slice_get_within numbers slot s e in
          omega (arith, All-get_or (λ x. x < length pairs) numbers slot 0 l within, get_or_from_slice_get numbers slot s 0 e);
      apart = λ slot k e. key_at_no_keys n slot;
      waits = λ slot k e. absurd (none-some k (sym (key_at_no_keys n slot) ∙ e));
    };
    shown = λ s l. subst (IsHead idle s 0) (sym (key_at_no_keys (length pairs) s)) (λ slot e. key_at_no_keys n slot);
    stood = record {
      each = length-replicate {A = KeyPlace} n Nowhere ∙ sym length_of_empty_slots;
      tells = λ slot. get_or_of_replicate n slot Nowhere ∙ sym (ap (λ o. stand_of o (key_at none slot)) (key_at_no_keys n slot) ∙ ap (stand_of None) (key_at_no_keys n slot));
    };
    keyed = length-replicate {A = Option Timed} (length pairs) None;
    placed = length-replicate {A = Bool} (length pairs) false;
    few_stations = omega (arith, few_stations, length_of_empty_slots);
    few_resources = omega (arith, few_resources, length_of_empty_slots, length-replicate {A = ℕ} resources 0);
  }

  no_slot_seen_at_start : seen_of none idle at_first ≡ none
  no_slot_seen_at_start = same_maps (seen_of none idle at_first) none (seen_keys_length (replicate resources 0) pairs none none numbers refl (sym length_of_empty_slots)) (λ i l. seen_key_at_slot (replicate resources 0) pairs none none numbers refl (sym length_of_empty_slots) i ∙ ap (option_map (when_free (replicate resources 0) (pair_at pairs (slice_index numbers i)))) (ap (λ o. either o (key_at none i)) (key_at_no_keys n i) ∙ key_at_no_keys n i) ∙ sym (key_at_no_keys n i))

  have_returned_at_start : HaveReturned pairs (replicate (length pairs) false) (replicate resources 0) (replicate resources 0) (replicate (length pairs) 0)
  have_returned_at_start = record {
    each = length-replicate {A = ℕ} (length pairs) 0;
    both = length-replicate {A = Bool} (length pairs) false;
    resources = refl;
    exist = λ s p e. let was = exist s p e in (omega (arith, was.0, length-replicate {A = ℕ} resources 0), omega (arith, was.1, length-replicate {A = ℕ} resources 0));
    station = λ s p e. one s p;
  }
    where
      one : (s : ℕ) (p : Pair) → HasReturned (replicate resources 0) (replicate resources 0) p (slice_index_or (replicate (length pairs) false) s false) (slice_index (replicate (length pairs) 0) s)
      one s p =
          let turned : slice_index_or (replicate (length pairs) false) s false ≡ false = get_or_of_replicate (length pairs) s false in
          let returns : slice_index (replicate (length pairs) 0) s ≡ 0 = get_or_of_replicate (length pairs) s 0 in
          let cpu : slice_index (replicate resources 0) p.cpu ≡ 0 = get_or_of_replicate resources p.cpu 0 in
          let side : slice_index (replicate resources 0) p.side ≡ 0 = get_or_of_replicate resources p.side 0 in
          record {
            to_cpu = omega (arith, returns);
            to_side = omega (arith, returns, ap one_if turned);
            may_go = λ e l. absurd (omega (arith, l, side));
            may_return = λ e l. absurd (omega (arith, l, cpu));
          }

  module _ (ahead : List (Option Timed)) (waiting : Grouped Timed) (rows : Rowed) (stands : List KeyPlace) (a : ahead ≡ none) (w : waiting ≡ idle) (r : rows ≡ at_first) (t : stands ≡ replicate n Nowhere) where
    pub new_kept : IsKept ahead waiting rows stands
    new_kept =
        subst (λ x. IsKept x waiting rows stands) (sym a) (subst (λ x. IsKept none x rows stands) (sym w) (subst (λ x. IsKept none idle x stands) (sym r) (subst (IsKept none idle at_first) (sym t) kept)))

    keys : seen_of ahead waiting rows ≡ none
    keys =
        ap (λ x. seen_of x waiting rows) a ∙ ap (λ x. seen_of none x rows) w ∙ ap (seen_of none idle) r ∙ no_slot_seen_at_start

    pub new_view : view ahead waiting rows stands None ≡ record { keys = none; stations = numbers; stands = replicate n Nowhere; pairs = pairs; turned = replicate (length pairs) false; free = replicate resources 0; found = None }
    new_view i = record { keys = keys i; stations = (w i).groups; stands = t i; pairs = (r i).pairs; turned = (r i).turned; free = (r i).free; found = None }

    pub new_returned : HaveReturned rows.pairs rows.turned rows.free (replicate resources 0) (replicate (length pairs) 0)
    new_returned =
        subst (λ (x : Rowed). HaveReturned x.pairs x.turned x.free (replicate resources 0) (replicate (length pairs) 0)) (sym r) have_returned_at_start
