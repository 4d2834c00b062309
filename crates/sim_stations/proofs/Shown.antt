-- The least keys of stations, after another key waits with one of them or one was removed.
use Rattle.std.proofs.Common.{◌≡◌, ◌≢◌, ◌⊎◌, ◌<◌, ℕ, false, List, length, set, slice_get, Option, Some, None, sym, ap, ◌∙◌, subst, inl, inr}
use Rattle.std.proofs.lemmas.Bool.{cases_eq}
use Rattle.std.proofs.lemmas.List.{get_or-set_same, get_or-set_other}
use Rattle.std.proofs.lemmas.Option.{same_Some, none-some}
use Rattle.goal_graph.specs.declared.action.Timed.{Timed}
use Rattle.sim_order.specs.Events.{event_before}
use Rattle.sim_order.specs.EventLaws.{event_laws}
use Rattle.sim_queue.specs.Map.{key_at}
use Rattle.sim_queue.proofs.ForCallers.{not_before_transitive}
use Rattle.sim_queue.specs.Groups.{Grouped}
use Rattle.sim_stations.specs.Stations.{at_time}
use Rattle.sim_stations.specs.Rows.{IsHead}
use Rattle.sim_stations.specs.Kept.{AreShown, IsBeforeAll, HasOneBefore}
use Rattle.sim_stations.proofs.Heads.{head_stays}
use Rattle.sim_stations.proofs.InRows.{with_key}

module _ (waiting : Grouped Timed) (slot station : ℕ) (member : slice_get waiting.groups slot ≡ Some station) (within : slot < length waiting.keys) (value : Option Timed) (new : Grouped Timed) (is_new : new ≡ with_key waiting slot value) where
  groups_unchanged_by_key : new.groups ≡ waiting.groups
  groups_unchanged_by_key = ap (λ (g : Grouped Timed). g.groups) is_new

  key_of_other_slot : (one : ℕ) → one ≢ slot → key_at new.keys one ≡ key_at waiting.keys one
  key_of_other_slot one n = ap (λ (g : Grouped Timed). key_at g.keys one) is_new ∙ get_or-set_other waiting.keys slot one value None n

  key_of_changed_slot : key_at new.keys slot ≡ value
  key_of_changed_slot = ap (λ (g : Grouped Timed). key_at g.keys slot) is_new ∙ get_or-set_same waiting.keys slot value None within

  member_after_change : slice_get new.groups slot ≡ Some station
  member_after_change = ap (λ gs. slice_get gs slot) groups_unchanged_by_key ∙ member

  -- other stations keep theirs
  pub head_of_other_station : (one time : ℕ) (head : Option Timed) → one ≢ station → IsHead waiting one time head → IsHead new one time head
  head_of_other_station one time head n =
      head_stays waiting new groups_unchanged_by_key one (λ s e. key_of_other_slot s (λ same. n (same_Some one station (sym e ∙ ap (slice_get waiting.groups) same ∙ member)))) time head

  -- the station gets its least key
  pub shown_after_new_head : (keys : List (Option Timed)) (stations : ℕ) → station < length keys → AreShown waiting keys stations → (head : Option Timed) → IsHead new station 0 head → AreShown new (set keys station head) stations
  shown_after_new_head keys stations exists shown head is one l = go (cases_eq one station)
    where
      go : (one ≡ station) ⊎ (one ≢ station) → IsHead new one 0 (key_at (set keys station head) one)
      go (inl e) =
          subst (λ x. IsHead new x 0 (key_at (set keys station head) x)) (sym e) (subst (IsHead new station 0) (sym (get_or-set_same keys station head None exists)) is)
      go (inr n) =
          subst (IsHead new one 0) (sym (get_or-set_other keys station one head None n)) (head_of_other_station one 0 (key_at keys one) n (shown one l))

  -- or its least key stays
  pub shown_with_kept_least : (keys : List (Option Timed)) (stations : ℕ) → AreShown waiting keys stations → IsHead new station 0 (key_at keys station) → AreShown new keys stations
  shown_with_kept_least keys stations shown is one l = go (cases_eq one station)
    where
      go : (one ≡ station) ⊎ (one ≢ station) → IsHead new one 0 (key_at keys one)
      go (inl e) = subst (λ x. IsHead new x 0 (key_at keys x)) (sym e) is
      go (inr n) = head_of_other_station one 0 (key_at keys one) n (shown one l)

  module _ (key : Timed) (is_key : value ≡ Some key) (zero : key.time ≡ 0) (idle : key_at waiting.keys slot ≡ None) where
    zero_key_at_zero : at_time 0 key ≡ key
    zero_key_at_zero i = record { time = sym zero i; class = key.class; op = key.op }

    -- a key that no other of the station is before is the least
    pub first_is_new_least : IsBeforeAll waiting station key → IsHead new station 0 (Some key)
    first_is_new_least before = (
      record {
        slot = slot;
        member = member_after_change;
        has = key_of_changed_slot ∙ is_key ∙ ap Some (sym zero_key_at_zero);
        least = λ one k e has. ap (event_before k) zero_key_at_zero ∙ go one k e has (cases_eq one slot);
      },
      zero,
    )
      where
        go : (one : ℕ) (k : Timed) → slice_get new.groups one ≡ Some station → key_at new.keys one ≡ Some k → (one ≡ slot) ⊎ (one ≢ slot) → event_before k key ≡ false
        go one k e has (inl s) =
            let same : k ≡ key = same_Some k key (sym has ∙ ap (key_at new.keys) s ∙ key_of_changed_slot ∙ is_key) in
            ap (λ x. event_before x key) same ∙ event_laws.irreflexive key
        go one k e has (inr n) =
            before one k (ap (λ gs. slice_get gs one) (sym groups_unchanged_by_key) ∙ e) (sym (key_of_other_slot one n) ∙ has)

    -- a key after another of the station is not the least
    pub later_keeps_least : HasOneBefore waiting station key → (head : Option Timed) → IsHead waiting station 0 head → IsHead new station 0 head
    later_keeps_least other None empty =
        absurd (none-some other.first (sym (empty other.least.slot other.least.member) ∙ other.least.has))
    later_keeps_least other (Some h) is = (
      record {
        slot = is.0.slot;
        member = ap (λ gs. slice_get gs is.0.slot) groups_unchanged_by_key ∙ is.0.member;
        has = key_of_other_slot is.0.slot (λ e. none-some (at_time 0 h) (sym idle ∙ ap (key_at waiting.keys) (sym e) ∙ is.0.has)) ∙ is.0.has;
        least = λ one k e has. go one k e has (cases_eq one slot);
      },
      is.1,
    )
      where
        go : (one : ℕ) (k : Timed) → slice_get new.groups one ≡ Some station → key_at new.keys one ≡ Some k → (one ≡ slot) ⊎ (one ≢ slot) → event_before k (at_time 0 h) ≡ false
        go one k e has (inl s) =
            let same : k ≡ key = same_Some k key (sym has ∙ ap (key_at new.keys) s ∙ key_of_changed_slot ∙ is_key) in
            let below : event_before other.first (at_time 0 h) ≡ false = is.0.least other.least.slot other.first other.least.member other.least.has in
            ap (λ x. event_before x (at_time 0 h)) same ∙ not_before_transitive event_before event_laws key other.first (at_time 0 h) other.before below
        go one k e has (inr n) =
            is.0.least one k (ap (λ gs. slice_get gs one) (sym groups_unchanged_by_key) ∙ e) (sym (key_of_other_slot one n) ∙ has)
