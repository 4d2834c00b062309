-- Channels: source, target and tag of a message; and the conditions of certification on them.
use Rattle.std.specs.Prelude.{ℕ, ◌≡◌, true, List, Option, Some, None, is_some}
use Rattle.goal_graph.specs.declared.action.OpId.{OpId}
use Rattle.goal_graph.specs.declared.plan.Kind.{Kind}
use Rattle.goal_graph.specs.declared.plan.Kind.TheVariants.{Send, Recv}
use Rattle.goal_graph.specs.Schedule.{Plan, kind_at, IsSend, IsReceive}

pub record Channel : Type 0 where
  pub source : ℕ
  pub target : ℕ
  pub tag : ℕ

-- the channel of an operation x of that kind; a calc and a receive with a wildcard have none
abbrev pub channel_in : OpId → Option Kind → Option Channel
channel_in x (Some (Send bytes to tag)) = Some (record { source = x.rank; target = to; tag = tag })
channel_in x (Some (Recv room (Some from) (Some tag))) = Some (record { source = from; target = x.rank; tag = tag })
channel_in x _ = None

unfoldable pub channel : List Plan → OpId → Option Channel
channel plans x = channel_in x (kind_at plans x)

-- the send m and the receive x have the same channel
pub record AreOfOneChannel (plans : List Plan) (m x : OpId) : Type 0 where
  pub is_send : IsSend plans m
  pub is_receive : IsReceive plans x
  pub shared : Channel
  pub of_send : channel plans m ≡ Some shared
  pub of_receive : channel plans x ≡ Some shared

-- no receive has a wildcard
abbrev pub HasNoWildcard : List Plan → Type 0
HasNoWildcard plans =
    (x : OpId) (room : ℕ) (from tag : Option ℕ) → kind_at plans x ≡ Some (Recv room from tag) → (is_some from ≡ true) × (is_some tag ≡ true)

-- no two sends have the same channel, and no two receives
pub record HasNoDoubleChannel (plans : List Plan) : Type 0 where
  pub sends : (m n : OpId) (c : Channel) → IsSend plans m → IsSend plans n → channel plans m ≡ Some c → channel plans n ≡ Some c → m ≡ n
  pub receives : (x y : OpId) (c : Channel) → IsReceive plans x → IsReceive plans y → channel plans x ≡ Some c → channel plans y ≡ Some c → x ≡ y

-- each send has a receive of its channel, and each receive has a send
pub record HasNoUnpaired (plans : List Plan) : Type 0 where
  pub sends : (m : OpId) → IsSend plans m → (x : OpId) × AreOfOneChannel plans m x
  pub receives : (x : OpId) → IsReceive plans x → (m : OpId) × AreOfOneChannel plans m x
