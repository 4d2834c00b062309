-- Heaps of groups in which the place of each slot is its number.
use Rattle.std.specs.Prelude.{◌≡◌, ◌==◌, ◌<◌, ℕ, List, Option, count_by, length, map, slice_index}
use Rattle.std.specs.List.{enumerate_from}
use Rattle.sim_queue.specs.declared.home.PlaceInGroup.{PlaceInGroup}
use Rattle.sim_queue.specs.Groups.{Grouped, IsHoused, key_of_home}

abbrev pub at_home : ℕ → ℕ → PlaceInGroup
at_home group place = record { group = group; place = place }

-- The homes of slots of these groups, if the heap of each group has a place for every slot, numbered as the slots.
abbrev pub homes_at_slots : List ℕ → List PlaceInGroup
homes_at_slots groups = map (λ p. at_home p.1 p.0) (enumerate_from 0 groups)

-- how often a group occurs among these numbers
abbrev pub members : ℕ → List ℕ → ℕ
members group numbers = count_by (λ number. number == group) numbers

-- the counts say how often each group occurs among these numbers
abbrev pub AreCounts : List ℕ → List ℕ → Type 0
AreCounts numbers counts = (group : ℕ) → group < length counts → slice_index counts group ≡ members group numbers

module _ {K : Type 0} where
  abbrev pub grouped_at_slots : List ℕ → List (List (Option K)) → Grouped K
  grouped_at_slots groups heaps = record { keys = map (key_of_home heaps) (homes_at_slots groups); groups = groups }

  -- each slot has its home, and there is room for the keys of all slots of a group
  pub record AreHousedAtSlots (groups : List ℕ) (heaps : List (List (Option K))) (rooms : List ℕ) : Type 0 where
    pub housed : IsHoused (homes_at_slots groups) heaps
    pub each : length rooms ≡ length heaps
    pub counted : AreCounts groups rooms
