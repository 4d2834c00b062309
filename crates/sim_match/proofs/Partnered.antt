-- The answer to a post or an arrival: it is the partner, and none exactly where nothing fits.
use Rattle.std.proofs.Common.{eq-eqb, ◌≡◌, ◌↔◌, ◌==◌, ◌&&◌, Bool, true, false, not, if◌then◌else◌, List, ◌∷◌, Option, Some, None, IsNone, is_some, refl, sym, ap, ◌∙◌, subst}
use Rattle.std.specs.Option.{option_or, option_map}
use Rattle.std.proofs.lemmas.Bool.{both_ways, and_parts, and_from, eqb-true, false_from_ne_true, true_from_ne_false, not-true, not_from_false}
use Rattle.goal_graph.specs.declared.action.OpId.{OpId}
use Rattle.goal_graph.specs.declared.action.Class.{Class}
use Rattle.goal_graph.specs.declared.action.Class.TheVariants.{Arrive, Post}
use Rattle.goal_graph.specs.Schedule.{Plan, IsSend, IsReceive}
use Rattle.goal_graph.specs.Action.{Act, place, same_op, happened, oldest}
use Rattle.goal_graph.specs.Matching.{Pair, pair_of, other_in, fits, is_paired, is_open_receive, is_open_send, pairs, partner}
use Rattle.goal_graph.proofs.ForCallers.{act_of, place_injective, same_op_true, same_op_itself, not_send_receive, fits_send, IsFound, oldest_some, oldest_none, pairs_unchanged_without_new_pair, unarrived_send_has_no_partner, unposted_receive_has_no_partner}
use Rattle.sim_match.specs.PostsAndArrivals.{send_for, receive_for, NoSendFits, NoReceiveFits}
use Rattle.sim_match.proofs.Pairs.{pairs_with_new_pair}

-- an action that was found open
record IsOpen (plans : List Plan) (h : List Act) (class : Class) (y : OpId) (fit : OpId → Bool) : Type 0 where
  happened : happened class y h ≡ true
  free : is_paired (pairs plans h) y ≡ false
  fits : fit y ≡ true

module _ (plans : List Plan) (h : List Act) where
  open_from : (class : Class) (fit : OpId → Bool) (y : OpId) → IsFound (λ (a : Act). (place a.class == place class) && not (is_paired (pairs plans h) a.op) && fit a.op) h y → IsOpen plans h class y fit
  open_from class fit y f =
      let outer = and_parts ((place f.act.class == place class) && not (is_paired (pairs plans h) f.act.op)) (fit f.act.op) f.passes in
      let inner = and_parts (place f.act.class == place class) (not (is_paired (pairs plans h) f.act.op)) outer.0 in
      let same = place_injective f.act.class class (eqb-true (place f.act.class) (place class) inner.0) in
      subst (λ (z : OpId). IsOpen plans h class z fit) f.op (record {
        happened = subst (λ (c : Class). happened c f.act.op h ≡ true) same f.happened;
        free = not-true (is_paired (pairs plans h) f.act.op) inner.1;
        fits = outer.1;
      })

  -- where none is found, each that fits is paired
  none_open : (class : Class) (fit : OpId → Bool) → oldest (λ (a : Act). (place a.class == place class) && not (is_paired (pairs plans h) a.op) && fit a.op) h ≡ None → (y : OpId) → happened class y h ≡ true → fit y ≡ true → is_paired (pairs plans h) y ≡ true
  none_open class fit e y was fits =
      true_from_ne_false (is_paired (pairs plans h) y) (λ free. both_ways _ (oldest_none (λ (a : Act). (place a.class == place class) && not (is_paired (pairs plans h) a.op) && fit a.op) h e class y was) (and_from _ _ (and_from _ _ (eq-eqb (place class) (place class) refl) (not_from_false _ free)) fits))

  partner_with : (p : Pair) (y : OpId) → partner (pairs plans h) y ≡ None → partner (p ∷ pairs plans h) y ≡ other_in p y
  unfolding partner
  partner_with p y e = ap (λ (o : Option OpId). option_or o (other_in p y)) e

  -- the partner of the receive that is posted
  pub post_partner : (x : OpId) → IsReceive plans x → happened Post x h ≡ false → send_for plans h x ≡ partner (pairs plans (act_of Post x ∷ h)) x
  post_partner x r fresh = go (oldest (is_open_send plans (pairs plans h) x) h) refl
    where
      free : partner (pairs plans h) x ≡ None
      free = unposted_receive_has_no_partner plans h x r fresh

      go : (o : Option OpId) → oldest (is_open_send plans (pairs plans h) x) h ≡ o → send_for plans h x ≡ partner (pairs plans (act_of Post x ∷ h)) x
      go None e =
          let none = ap (option_map (λ (m : OpId). pair_of m x)) e in
          ap (option_map (λ (p : Pair). p.send)) none ∙ sym free ∙ sym (ap (λ (ps : List Pair). partner ps x) (pairs_unchanged_without_new_pair plans (act_of Post x) h none))
      go (Some m) e =
          let made = ap (option_map (λ (m : OpId). pair_of m x)) e in
          let found = open_from Arrive (fits plans x) m (oldest_some (is_open_send plans (pairs plans h) x) h m e) in
          let other : same_op m x ≡ false = false_from_ne_true (same_op m x) (λ t. not_send_receive plans x (subst (IsSend plans) (same_op_true m x t) (fits_send plans x m found.fits)) r) in
          let its = ap (λ (b : Bool). if b then Some x else (if same_op x x then Some m else None)) other ∙ ap (λ (b : Bool). if b then Some m else None) (same_op_itself x) in
          ap (option_map (λ (p : Pair). p.send)) made ∙ sym its ∙ sym (partner_with (pair_of m x) x free) ∙ sym (ap (λ (ps : List Pair). partner ps x) (pairs_with_new_pair plans (act_of Post x) h (pair_of m x) made))

  -- the partner of the send that arrives
  pub arrival_partner : (m : OpId) → IsSend plans m → happened Arrive m h ≡ false → receive_for plans h m ≡ partner (pairs plans (act_of Arrive m ∷ h)) m
  arrival_partner m s fresh = go (oldest (is_open_receive plans (pairs plans h) m) h) refl
    where
      free : partner (pairs plans h) m ≡ None
      free = unarrived_send_has_no_partner plans h m s fresh

      go : (o : Option OpId) → oldest (is_open_receive plans (pairs plans h) m) h ≡ o → receive_for plans h m ≡ partner (pairs plans (act_of Arrive m ∷ h)) m
      go None e =
          let none = ap (option_map (λ (x : OpId). pair_of m x)) e in
          ap (option_map (λ (p : Pair). p.recv)) none ∙ sym free ∙ sym (ap (λ (ps : List Pair). partner ps m) (pairs_unchanged_without_new_pair plans (act_of Arrive m) h none))
      go (Some x) e =
          let made = ap (option_map (λ (x : OpId). pair_of m x)) e in
          let its = ap (λ (b : Bool). if b then Some x else (if same_op x m then Some m else None)) (same_op_itself m) in
          ap (option_map (λ (p : Pair). p.recv)) made ∙ sym its ∙ sym (partner_with (pair_of m x) m free) ∙ sym (ap (λ (ps : List Pair). partner ps m) (pairs_with_new_pair plans (act_of Arrive m) h (pair_of m x) made))

  pub no_send_found_iff_none_fits : (x : OpId) → IsNone (send_for plans h x) ↔ NoSendFits plans h x
  no_send_found_iff_none_fits x = go (oldest (is_open_send plans (pairs plans h) x) h) refl
    where
      go : (o : Option OpId) → oldest (is_open_send plans (pairs plans h) x) h ≡ o → IsNone (option_map (λ (p : Pair). p.send) (option_map (λ (m : OpId). pair_of m x) (oldest (is_open_send plans (pairs plans h) x) h))) ↔ NoSendFits plans h x
      go None e =
          (λ none. none_open Arrive (fits plans x) e, λ no. ap (λ (o : Option OpId). is_some (option_map (λ (p : Pair). p.send) (option_map (λ (m : OpId). pair_of m x) o))) e)
      go (Some m) e =
          let found = open_from Arrive (fits plans x) m (oldest_some (is_open_send plans (pairs plans h) x) h m e) in
          (λ none. absurd (both_ways _ none (ap (λ (o : Option OpId). is_some (option_map (λ (p : Pair). p.send) (option_map (λ (m : OpId). pair_of m x) o))) e)), λ no. absurd (both_ways _ found.free (no m found.happened found.fits)))

  pub no_receive_found_iff_none_fits : (m : OpId) → IsNone (receive_for plans h m) ↔ NoReceiveFits plans h m
  no_receive_found_iff_none_fits m = go (oldest (is_open_receive plans (pairs plans h) m) h) refl
    where
      go : (o : Option OpId) → oldest (is_open_receive plans (pairs plans h) m) h ≡ o → IsNone (option_map (λ (p : Pair). p.recv) (option_map (λ (x : OpId). pair_of m x) (oldest (is_open_receive plans (pairs plans h) m) h))) ↔ NoReceiveFits plans h m
      go None e =
          (λ none. none_open Post (λ (x : OpId). fits plans x m) e, λ no. ap (λ (o : Option OpId). is_some (option_map (λ (p : Pair). p.recv) (option_map (λ (x : OpId). pair_of m x) o))) e)
      go (Some x) e =
          let found = open_from Post (λ (x : OpId). fits plans x m) x (oldest_some (is_open_receive plans (pairs plans h) m) h x e) in
          (λ none. absurd (both_ways _ none (ap (λ (o : Option OpId). is_some (option_map (λ (p : Pair). p.recv) (option_map (λ (x : OpId). pair_of m x) o))) e)), λ no. absurd (both_ways _ found.free (no x found.happened found.fits)))
