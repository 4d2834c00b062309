-- The fields of a state before the first action, and after another action.
use Rattle.std.proofs.Common.{◌≡◌, ℕ, true, false, List, [], ◌∷◌, ◌++◌, length, map, take, drop, Option, Some, None, IfSome, refl, sym, ap, ◌∙◌, subst}
use Rattle.std.proofs.lemmas.List.{reverse-append}
use Rattle.goal_graph.specs.declared.action.OpId.{OpId}
use Rattle.goal_graph.specs.declared.action.Class.{Class}
use Rattle.goal_graph.specs.declared.action.Class.TheVariants.{Arrive, Post}
use Rattle.goal_graph.specs.Schedule.{Plan, operations, IsSend, IsReceive}
use Rattle.goal_graph.specs.Action.{Act, happened}
use Rattle.goal_graph.specs.Matching.{pairs, partner}
use Rattle.goal_graph.specs.Fault.{IsOp}
use Rattle.goal_graph.proofs.ForCallers.{allowed_fresh, allowed_arrive, allowed_post, borrowed_whole_restored}
use Rattle.goal_blocks.specs.Walk.{no_send}
use Rattle.sim_match.specs.PostsAndArrivals.{PostsAndArrivals, is_post_or_arrival_class}
use Rattle.sim_match.proofs.ForCallers.{happened_filtered}
use Rattle.goal_certify.specs.declared.walk.action.PlainAction.{PlainAction}
use Rattle.goal_certify.specs.declared.walk.entry.OpProgress.{OpProgress}
use Rattle.goal_certify.specs.WalkSoFar.{WalkSoFar, act_of, acts, with_class, with_entry, with_partner, met, more_met, entry_known, Represents}
use Rattle.goal_certify.specs.WalkQueue.{may_act}
use Rattle.goal_certify.proofs.AfterAction.{AfterMet, after_met, written_table_is_table_after, met_partner_exists}

-- another action is the newest
acts_push : (items : List PlainAction) (a : PlainAction) → acts (items ++ a ∷ []) ≡ act_of a ∷ acts items
acts_push items a = ap (map act_of) (reverse-append items (a ∷ []))

-- of two views that are equal
pub may_at : (v w : WalkSoFar) (c : Class) (x : OpId) → v ≡ w → may_act w.plans w.history c x ≡ true → may_act v.plans v.history c x ≡ true
may_at v w c x e = subst (λ (u : WalkSoFar). may_act u.plans u.history c x ≡ true) (sym e)

pub entry_is : (v w : WalkSoFar) (x : OpId) (entry : OpProgress) → v ≡ w → entry ≡ entry_known w.plans w.history x → entry ≡ entry_known v.plans v.history x
entry_is v w x entry e f = f ∙ ap (λ (u : WalkSoFar). entry_known u.plans u.history x) (sym e)

-- nothing has happened
pub nothing_known : (plans : List Plan) (x : OpId) → entry_known plans [] x ≡ record { arrived = false; served = false; sent = false; posted = false; begun = false; paired = None }
unfolding happened pairs partner
nothing_known plans x = refl

module _ (plans : List Plan) (h : List Act) (entries : List OpProgress) (matcher : PostsAndArrivals) (m : Represents plans h entries matcher) where
  module _ (a : Act) (may : may_act plans h a.class a.op ≡ true) where
    -- what the matcher asks of a post and of an arrival
    pub posts : a.class ≡ Post → IsReceive matcher.plans a.op
    posts c =
        subst (λ (ps : List Plan). IsReceive ps a.op) (sym m.same_plans) (allowed_post plans no_send h a.op (subst (λ (d : Class). may_act plans h d a.op ≡ true) c may)).0

    pub arrives : a.class ≡ Arrive → IsSend matcher.plans a.op
    arrives c =
        subst (λ (ps : List Plan). IsSend ps a.op) (sym m.same_plans) (allowed_arrive plans no_send h a.op (subst (λ (d : Class). may_act plans h d a.op ≡ true) c may)).0

    pub fresh : is_post_or_arrival_class a.class ≡ true → happened a.class a.op matcher.actions ≡ false
    fresh t =
        ap (happened a.class a.op) m.events ∙ happened_filtered a.class a.op h t ∙ allowed_fresh plans no_send h a.class a.op may

    -- the operation that is met
    pub met_after : (o : Option OpId) → o ≡ met matcher.plans matcher.actions a.class a.op → AfterMet plans h a o
    met_after o e =
        after_met plans h a (m.allowed_each, may) o (e ∙ (λ i. met (m.same_plans i) (m.events i) a.class a.op))

    pub partner_exists : (o : Option OpId) → o ≡ met matcher.plans matcher.actions a.class a.op → IfSome o (IsOp plans)
    partner_exists None e = tt
    partner_exists (Some y) e = met_partner_exists plans h a (Some y) (met_after (Some y) e) y refl

    -- the fields after it
    pub represents_after : (new_entries : List OpProgress) (new_matcher : PostsAndArrivals) (o : Option OpId) (entry : OpProgress) → entry ≡ entry_known plans h a.op → o ≡ met matcher.plans matcher.actions a.class a.op → new_matcher.plans ≡ matcher.plans → new_matcher.actions ≡ more_met matcher.actions a.class a.op → new_entries ≡ map (with_partner a.op o (with_entry a.op (with_class a.class entry) (entry_known plans h))) (operations plans) → Represents plans (a ∷ h) new_entries new_matcher
    represents_after new_entries new_matcher o entry was is same more told = record {
      accepted = m.accepted;
      allowed_each = (m.allowed_each, may);
      known = told ∙ ap (λ (e : OpProgress). map (with_partner a.op o (with_entry a.op (with_class a.class e) (entry_known plans h))) (operations plans)) was ∙ written_table_is_table_after plans h a o (met_after o is);
      same_plans = same ∙ m.same_plans;
      events = more ∙ ap (λ (l : List Act). more_met l a.class a.op) m.events;
    }

-- the same for the fields as the program writes them
pub represents_after_performed : (plans : List Plan) (items : List PlainAction) (entries : List OpProgress) (matcher : PostsAndArrivals) (m : Represents plans (acts items) entries matcher) (a : PlainAction) (may : may_act plans (acts items) a.class a.op ≡ true)
    (new_items : List PlainAction) (payload written : List OpProgress) (new_matcher : PostsAndArrivals) (n : ℕ) (o : Option OpId) (entry done : OpProgress) → entry ≡ entry_known plans (acts items) a.op → done ≡ with_class a.class entry → new_items ≡ items ++ a ∷ [] → n ≡ length entries → payload ≡ entries → length written ≡ length payload → o ≡ met matcher.plans matcher.actions a.class a.op → new_matcher.plans ≡ matcher.plans → new_matcher.actions ≡ more_met matcher.actions a.class a.op → written ≡ map (with_partner a.op o (with_entry a.op done (entry_known plans (acts items)))) (operations plans) → Represents plans (acts new_items) (take n (written ++ drop (length written) entries)) new_matcher
represents_after_performed plans items entries matcher m a may new_items payload written new_matcher n o entry done was is_done pushed count same kept is plans_same more told =
    let table : take n (written ++ drop (length written) entries) ≡ written = borrowed_whole_restored n written entries (kept ∙ ap length same) count in
    let list : act_of a ∷ acts items ≡ acts new_items = sym (ap acts pushed ∙ acts_push items a) in
    let known = table ∙ told ∙ ap (λ (e : OpProgress). map (with_partner a.op o (with_entry a.op e (entry_known plans (acts items)))) (operations plans)) is_done in
    let after : Represents plans (act_of a ∷ acts items) (take n (written ++ drop (length written) entries)) new_matcher = represents_after plans (acts items) entries matcher m (act_of a) may _ new_matcher o entry was is plans_same more known in
    subst (λ (h : List Act). Represents plans h (take n (written ++ drop (length written) entries)) new_matcher) list after
