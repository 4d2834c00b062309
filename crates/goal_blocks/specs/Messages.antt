-- Schedules given message by message: the operation that sends it, the one that receives it, and its tag.
use Rattle.std.specs.Prelude.{ℕ, ◌≡◌, ◌<◌, ◌⊎◌, List, Some}
use Rattle.goal_graph.specs.declared.action.OpId.{OpId}
use Rattle.goal_graph.specs.declared.plan.Kind.TheVariants.{Calc, Send, Recv}
use Rattle.goal_blocks.specs.Channels.{HasNoWildcard, HasNoDoubleChannel, HasNoUnpaired}
use Rattle.goal_graph.specs.Schedule.{Plan}
use Rattle.goal_limits.specs.declared.collective.Collective.TheVariants.{Bcast, Allgather, Scan}
use Rattle.goal_blocks.specs.Entries.{Entry}
use Rattle.goal_blocks.specs.Generated.{made, IsPossible}

-- each message of M is sent by one entry and received by another, with the same tag; every other entry is a calc; and
-- between two ranks there is at most one message with a tag
pub record AreMessages (ranks : ℕ) (count : ℕ → ℕ) (e : ℕ → ℕ → Entry) (M : Type 0) (bytes : ℕ) (send recv : M → OpId) (tag : M → ℕ) : Type 0 where
  pub send_there : (m : M) → ((send m).rank < ranks) × ((send m).op < count (send m).rank)
  pub recv_there : (m : M) → ((recv m).rank < ranks) × ((recv m).op < count (recv m).rank)
  pub sent : (m : M) → (e (send m).rank (send m).op).kind ≡ Send bytes (recv m).rank (tag m)
  pub received : (m : M) → (e (recv m).rank (recv m).op).kind ≡ Recv bytes (Some (send m).rank) (Some (tag m))
  pub cases : (x : OpId) → x.rank < ranks → x.op < count x.rank → ((nanos : ℕ) × ((e x.rank x.op).kind ≡ Calc nanos)) ⊎ (((m : M) × (send m ≡ x)) ⊎ ((m : M) × (recv m ≡ x)))
  pub apart : (m n : M) → (send m).rank ≡ (send n).rank → (recv m).rank ≡ (recv n).rank → tag m ≡ tag n → (send m ≡ send n) × (recv m ≡ recv n)

-- each send has exactly one receive of its channel, and each receive exactly one send
pub record AreChannelsPaired (plans : List Plan) : Type 0 where
  pub no_wildcard : HasNoWildcard plans
  pub no_double_channel : HasNoDoubleChannel plans
  pub no_unpaired : HasNoUnpaired plans

-- The laws. The function `laws_of_made_schedules` ensures each of them.

-- the channels of a broadcast are paired; so are those of an allgather and of a scan
abbrev pub BcastIsPaired : Type 0
BcastIsPaired = (root ranks bytes : ℕ) → IsPossible (Bcast root) ranks → AreChannelsPaired (made (Bcast root) ranks bytes)

abbrev pub AllgatherIsPaired : Type 0
AllgatherIsPaired = (ranks bytes : ℕ) → AreChannelsPaired (made Allgather ranks bytes)

abbrev pub ScanIsPaired : Type 0
ScanIsPaired = (ranks bytes : ℕ) → AreChannelsPaired (made Scan ranks bytes)
