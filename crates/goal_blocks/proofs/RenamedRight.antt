-- What is right of a renamed schedule is right of the original.
use Rattle.std.proofs.Common.{ℕ, ◌<◌, ◌≡◌, ◌↔◌, Bool, true, List, Some, is_some, sym, ap, ◌∙◌, subst}
use Rattle.goal_graph.specs.declared.action.OpId.{OpId}
use Rattle.goal_graph.specs.Schedule.{Plan, op_at, IsSend, IsReceive}
use Rattle.goal_graph.specs.Action.{Act}
use Rattle.goal_graph.specs.Matching.{Pair, pairs, partner}
use Rattle.goal_graph.specs.Fault.{IsOp}
use Rattle.goal_blocks.specs.Channels.{channel_in, channel, AreOfOneChannel}
use Rattle.goal_blocks.specs.Walk.{AllEnd}
use Rattle.goal_blocks.specs.Right.{EndsInItsPairs, IsRightEverywhere}
use Rattle.goal_blocks.specs.Values.{Value, Store, Held, held_after}
use Rattle.goal_blocks.specs.Certification.{HoldsWanted}
use Rattle.goal_blocks.specs.Renamed.{under}
use Rattle.goal_blocks.specs.Laws.{IsUndoneBy, IsRenamed}
use Rattle.goal_blocks.proofs.AllowedAlike.{kind_alike, pairs_alike, ended_alike, complete_from}
use Rattle.goal_blocks.proofs.RenamedValues.{held_named}
use Rattle.goal_blocks.proofs.RenamedNotes.{renamed_back}

-- the schedules with the same operations have the same sends, receives and channels
module _ (plans other : List Plan) (ops : (x : OpId) → op_at other x ≡ op_at plans x) where
  pub send_alike : (m : OpId) → IsSend other m → IsSend plans m
  send_alike m is = record {
    bytes = is.bytes;
    to = is.to;
    tag = is.tag;
    kind = sym (kind_alike plans other ops m) ∙ is.kind;
  }

  pub receive_alike : (x : OpId) → IsReceive other x → IsReceive plans x
  receive_alike x is = record {
    room = is.room;
    from = is.from;
    tag = is.tag;
    kind = sym (kind_alike plans other ops x) ∙ is.kind;
  }

  pub channel_alike : (x : OpId) → channel other x ≡ channel plans x
  unfolding channel
  channel_alike x = ap (channel_in x) (kind_alike plans other ops x)

  pub joined_alike : (m x : OpId) → AreOfOneChannel other m x → AreOfOneChannel plans m x
  joined_alike m x one = record {
    is_send = send_alike m one.is_send;
    is_receive = receive_alike x one.is_receive;
    shared = one.shared;
    of_send = sym (channel_alike m) ∙ one.of_send;
    of_receive = sym (channel_alike x) ∙ one.of_receive;
  }

  pub op_alike : (x : OpId) → IsOp plans x → IsOp other x
  op_alike x is = ap is_some (ops x) ∙ is

-- it ends in the same pairs
module _ (plans other : List Plan) (ops : (x : OpId) → op_at other x ≡ op_at plans x) where
  abbrev pub back : (x : OpId) → op_at plans x ≡ op_at other x
  back x = sym (ops x)

  pub all_end_alike : (eager : OpId → Bool) (h : List Act) → AllEnd other eager h → AllEnd plans eager h
  all_end_alike eager h all x is =
      sym (ended_alike plans other ops eager x h) ∙ all x (op_alike plans other ops x is)

  pub ends_alike : (eager : OpId → Bool) (h : List Act) → EndsInItsPairs other eager h → EndsInItsPairs plans eager h
  ends_alike eager h ends = record {
    all_end = all_end_alike eager h ends.all_end;
    pairs = λ m x. (λ (p : (partner (pairs plans h) m ≡ Some x) × IsSend plans m). joined_alike plans other ops m x ((ends.pairs m x).0 (same m ∙ p.0, send_alike other plans back m p.1)), λ (one : AreOfOneChannel plans m x). let p = (ends.pairs m x).1 (joined_alike other plans back m x one) in (sym (same m) ∙ p.0, send_alike plans other ops m p.1));
  }
    where
      same : (m : OpId) → partner (pairs other h) m ≡ partner (pairs plans h) m
      same m = ap (λ (ps : List Pair). partner ps m) (pairs_alike plans other ops h)

module _ (name old : ℕ → ℕ → ℕ) (plans other : List Plan) (undone : IsUndoneBy name old) (is : IsRenamed name plans other) (first : Store) (wanted : ℕ → ℕ → Value → Bool) where
  -- if the renamed schedule holds what is wanted, the original holds it under the renaming
  pub wanted_alike : (eager : OpId → Bool) (h : List Act) → HoldsWanted other wanted (held_after other eager first h).store → HoldsWanted plans (under name wanted) (held_after plans eager (under name first) h).store
  wanted_alike eager h holds rank slot low =
      subst (λ (v : Value). wanted rank (name rank slot) v ≡ true) same (holds rank (name rank slot) (subst (λ (n : ℕ). rank < n) (sym is.ranks) low))
    where
      same : (held_after other eager first h).store rank (name rank slot) ≡ (held_after plans eager (under name first) h).store rank slot
      same =
          ap (λ (held : Held). held.store rank (name rank slot)) (held_named name old undone plans other is eager first h)
          ∙ ap (λ (k : ℕ). (held_after plans eager (under name first) h).store rank k) (undone.back rank slot)

  pub right_under_renaming : IsRightEverywhere other first wanted → IsRightEverywhere plans (under name first) (under name wanted)
  right_under_renaming right eager h done =
      let there = right eager h (complete_from plans other is.ops is.needs eager h done) in
      record {
        ends = ends_alike plans other is.ops eager h there.ends;
        wanted_held = wanted_alike eager h there.wanted_held;
      }

-- the renamed schedule is right everywhere exactly if the original is right under the renaming
pub renamed_right : (name old : ℕ → ℕ → ℕ) (plans other : List Plan) (first : Store) (wanted : ℕ → ℕ → Value → Bool) → IsUndoneBy name old → IsRenamed name plans other
    → IsRightEverywhere other first wanted ↔ IsRightEverywhere plans (under name first) (under name wanted)
renamed_right name old plans other first wanted undone is =
    (right_under_renaming name old plans other undone is first wanted, from)
  where
    turned : IsUndoneBy old name
    turned = record { back = undone.forth; forth = undone.back }

    twice : {A : Type 0} (f : ℕ → ℕ → A) → under old (under name f) ≡ f
    twice f = λ i r k. f r (undone.forth r k i)

    from : IsRightEverywhere plans (under name first) (under name wanted) → IsRightEverywhere other first wanted
    from right =
        let there = right_under_renaming old name other plans turned (renamed_back name old plans other undone is) (under name first) (under name wanted) right in
        subst (λ (s : Store). IsRightEverywhere other s wanted) (twice first) (subst (λ (w : ℕ → ℕ → Value → Bool). IsRightEverywhere other (under old (under name first)) w) (twice wanted) there)
