-- The fields of an engine after the next action.
use Rattle.std.proofs.Common.{◌≡◌, ℕ, ◌<◌, ◌*◌, ◌^◌, Contains, List, ◌∷◌, ◌++◌, length, map, take, drop, get_or, Option, Some, None, inl, inr, refl, sym, ap, ◌∙◌, subst, arith}
use Rattle.std.proofs.lemmas.List.{get_or-map, length-map}
use Rattle.goal_graph.specs.declared.action.OpId.{OpId}
use Rattle.goal_graph.specs.declared.action.Timed.{Timed}
use Rattle.goal_graph.specs.declared.plan.When.{When}
use Rattle.goal_graph.specs.declared.plan.When.TheVariants.{AfterEnd, AfterStart}
use Rattle.goal_graph.specs.Schedule.{Plan, operations}
use Rattle.goal_graph.specs.Action.{plain}
use Rattle.goal_graph.specs.Fault.{IsOp}
use Rattle.goal_graph.proofs.ForCallers.{allowed_listed, with_entry_same, same_or_different_op, with_entry_other, borrowed_whole_restored}
use Rattle.sim_params.specs.Costs.{CostModel, is_eager}
use Rattle.sim_params.specs.Run.{IsNext}
use Rattle.sim_params.proofs.ForCallers.{possible_room}
use Rattle.sim_match.specs.PostsAndArrivals.{PostsAndArrivals}
use Rattle.sim_resources.specs.FreeTimes.{Holds}
use Rattle.sim_state.specs.declared.entry.Change.{Change}
use Rattle.sim_state.specs.declared.entry.OpState.{OpState}
use Rattle.sim_state.specs.declared.entry.Times.{Times}
use Rattle.sim_state.specs.Changes.{IsChange}
use Rattle.sim_state.specs.Engine.{RunSoFar}
use Rattle.sim_state.specs.Given.{moment_in}
use Rattle.sim_state.specs.Tables.{with_change, with_pairing, with_partner, with_times}
use Rattle.sim_state.specs.Represents.{Represents, times_known, entry_known, entry_then, KnowsPostsAndArrivals, AreFreeTimes}
use Rattle.sim_state.proofs.Changed.{at_fits}
use Rattle.sim_state.proofs.Entries.{own_entry_after_action}
use Rattle.sim_state.proofs.Places.{possible_exists}

-- what is next after one of two views that are equal is next after the other
pub next_in_equal_view : {C : Type 0} (model : C → CostModel) (v w : RunSoFar C) (a : Timed) → v ≡ w → IsNext w.plans (model w.costs) w.history a → IsNext v.plans (model v.costs) v.history a
next_in_equal_view {C} model v w a e = subst (λ (u : RunSoFar C). IsNext u.plans (model u.costs) u.history a) (sym e)

-- a vector whose elements were lent and written holds what was written
pub written_back : {X : Type 0} (count : ℕ) (written lent items : List X) → length written ≡ length lent → lent ≡ items → count ≡ length items → take count (written ++ drop (length written) items) ≡ written
written_back count written lent items kept same whole =
    borrowed_whole_restored count written items (kept ∙ ap length same) whole

-- what the entries of two tables of the same operations are at one of these
map_same_at : {Y : Type 0} (f g : OpId → Y) (xs : List OpId) (x : OpId) → Contains xs x → map f xs ≡ map g xs → f x ≡ g x
map_same_at f g xs x c same =
    let default = f x in
    ap f (sym c.2) ∙ sym (get_or-map f xs c.0 x default c.1) ∙ ap (λ ys. get_or ys c.0 default) same ∙ get_or-map g xs c.0 x default c.1 ∙ ap g c.2

-- what is awaited is neither a start nor an end
moment_ignores_awaited : (t : Times) (o : Option ℕ) (w : When) → moment_in (record t { awaited = o }) w ≡ moment_in t w
moment_ignores_awaited t o AfterStart = refl
moment_ignores_awaited t o AfterEnd = refl

-- a pairing leaves the start and the end of every entry, and a change writes those of its own
module _ (y : OpId) (at : ℕ) (w : When) where
  paired_moment : (x m : OpId) (f : OpId → OpState) → moment_in (with_pairing x m at f y).times w ≡ moment_in (f y).times w
  paired_moment x m f =
      elim (same_or_different_op y x) [ inl s ↦ ap moment (with_entry_same x _ f y s) ∙ moment_ignores_awaited (f x).times (Some at) w ∙ ap (λ (z : OpId). moment (f z)) (sym s) | inr d ↦ ap moment (with_entry_other x _ f y d) ]
    where
      moment : OpState → Option ℕ
      moment e = moment_in e.times w

  partnered_moment : (partner : Option OpId) (f : OpId → OpState) → moment_in (with_partner y partner at f y).times w ≡ moment_in (f y).times w
  partnered_moment None f = refl
  partnered_moment (Some m) f = paired_moment m y (with_pairing y m at f) ∙ paired_moment y m f

  written_moment : (c : Change) (f : OpId → OpState) → moment_in (with_change y c at f y).times w ≡ moment_in c.times w
  written_moment c f =
      partnered_moment c.partner (with_times y c.times f) ∙ ap (λ (e : OpState). moment_in e.times w) (with_entry_same y _ f y refl)

module _ (plans : List Plan) (costs : CostModel) (h : List Timed) (entries : List OpState) (matcher : PostsAndArrivals) (res : Holds) (has_room : ℕ → Type 0) (m : Represents plans costs h entries matcher res has_room) where
  -- each operation has its entry
  pub each_entry : (lent : List OpState) → lent ≡ entries → length lent ≡ length (operations plans)
  each_entry lent e = ap length (e ∙ m.known) ∙ length-map (operations plans) (entry_known plans costs h)

  module _ (a : Timed) (next : IsNext plans costs h a) where
    -- the next action is one of an operation of the schedule
    pub is_op : IsOp plans a.op
    is_op = possible_exists plans costs h a next.possible

    -- its time can be written
    pub time_fits : a.time < 2 ^ 63
    time_fits = at_fits plans costs h a m.run m.within next.possible

    -- there is room for it
    pub room_left : (count : ℕ) × has_room count × (length h < count)
    room_left = (3 * length (operations plans), m.roomy, omega (arith, possible_room plans costs h a m.run next.possible))

    -- its operation has the start and the end of the change since
    pub change_moments : (c : Change) → IsChange plans costs h a c → (w : When) → moment_in c.times w ≡ moment_in (times_known plans costs (a ∷ h) a.op) w
    change_moments c is w =
        let listed = allowed_listed plans (is_eager plans costs) (plain h) a.class a.op next.possible.allowed in
        sym (written_moment a.op a.time w c (entry_known plans costs h)) ∙ ap (λ (e : OpState). moment_in e.times w) (map_same_at (with_change a.op c a.time (entry_known plans costs h)) (entry_then plans costs h a) (operations plans) a.op listed is.known ∙ own_entry_after_action plans costs h a m.run next.possible)

    pub performed : (history : List Timed) → history ≡ a ∷ h → (after : List OpState) → after ≡ map (entry_known plans costs (a ∷ h)) (operations plans) → (told : PostsAndArrivals) → KnowsPostsAndArrivals plans costs (a ∷ h) told → (held : Holds) → AreFreeTimes plans costs (a ∷ h) held → (still : ℕ → Type 0) → ((count : ℕ) → has_room count → still count) → Represents plans costs history after told held still
    performed history pushed after known told knows held free still roomy =
        subst (λ (h : List Timed). Represents plans costs h after told held still) (sym pushed) (record {
          accepted = m.accepted;
          within = m.within;
          run = (m.run, next);
          known = known;
          posts_and_arrivals = knows;
          free = free;
          roomy = roomy (3 * length (operations plans)) m.roomy;
        })
