use Rattle.std.proofs.Common.{ℕ, ◌≡◌, ◌+◌, ◌-◌, ◌*◌, ◌<◌, ◌++◌, true, false, List, [], ◌∷◌, length, slice_index_or, set, ap, sym, ◌∙◌, subst, arith, length-append, get_or-set_same}
use Rattle.std.proofs.lemmas.List.{get_or_append_left, get_or_push}
use Rattle.goal_graph.specs.Search.{op_id}
use Rattle.goal_certify.proofs.Before.{op_number_below_op_count, depth_at_most_op_count, mark_stays}
use Rattle.goal_certify.proofs.Paths.{IsPath, undone, undone_falls, path_at_most_op_count, path_begins, path_longer, path_shorter, last_exists, last_left_out, rows_marked}
use Rattle.goal_certify.proofs.races.before.fill.Goals as goal

pub bounds-done-id : goal.bounds-done-id
bounds-done-id c = omega (arith, op_number_below_op_count c.args.sched.now c.args.id c.requires.exists)

pub loop-op-init : goal.loop-op-init
loop-op-init c =
    let plans = c.args.sched.now in
    let x = c.args.id in
    let e : c.push.new.self.items ≡ x.op ∷ [] = c.in_ok-push.ensures.items ∙ ap (λ (ks : List ℕ). ks ++ x.op ∷ []) c.requires.path in
    record {
      rows = c.requires.rows;
      path = subst (λ (ks : List ℕ). IsPath plans x.rank c.args.done.now ks) (sym e) (path_begins plans x.rank c.args.done.now x.op c.requires.exists (depth_at_most_op_count plans c.known.ensures.accepted x c.requires.exists) c.if-done-id.false);
      first = λ some. ap (λ (ks : List ℕ). slice_index_or ks 0 0) e;
      last = λ none. absurd (omega (arith, none, ap length e));
      kept = λ k h. h;
    }

pub loop-op-preserved : goal.loop-op-preserved
loop-op-preserved c =
    let plans = c.args.sched.now in
    let rank = c.args.id.rank in
    let done = c.loop-op.done in
    let front = c.pop.new.self.items in
    let op = c.in-Some.op in
    let inv = c.loop-op.invariant in
    let was : c.loop-op.path.items ≡ front ++ op ∷ [] = c.in-Some.ensures.items in
    let path = subst (λ (ks : List ℕ). IsPath plans rank done ks) was inv.path in
    let inside : op < length done = omega (arith, op_number_below_op_count plans (op_id rank op) (last_exists plans rank done front op path)) in
    let long = length-append front (op ∷ []) in
    let first : slice_index_or (front ++ op ∷ []) 0 0 ≡ c.args.id.op = ap (λ (ks : List ℕ). slice_index_or ks 0 0) (sym was) ∙ inv.first (omega (arith, ap length was, long)) in
    record {
      rows = rows_marked plans (op_id rank op) c.gather.new.rows done c.gather.ensures.rows c.gather.ensures.row;
      path = path_shorter plans rank done front op path c.in-None.ensures;
      first = λ some. sym (get_or_append_left front (op ∷ []) 0 0 some) ∙ first;
      last = λ none.
          let same : op ≡ c.args.id.op = sym (get_or_push front op 0 0 none) ∙ first in
          subst (λ (k : ℕ). slice_index_or (set done op true) k false ≡ true) same (get_or-set_same done op true false inside);
      kept = λ k h. mark_stays done op k inside (inv.kept k h);
    }

pub loop-op-smaller : goal.loop-op-smaller
loop-op-smaller c =
    let plans = c.args.sched.now in
    let rank = c.args.id.rank in
    let done = c.loop-op.done in
    let front = c.pop.new.self.items in
    let op = c.in-Some.op in
    let was : c.loop-op.path.items ≡ front ++ op ∷ [] = c.in-Some.ensures.items in
    let path = subst (λ (ks : List ℕ). IsPath plans rank done ks) was c.loop-op.invariant.path in
    let inside : op < length done = omega (arith, op_number_below_op_count plans (op_id rank op) (last_exists plans rank done front op path)) in
    let falls = undone_falls done op inside (last_left_out plans rank done front op path) in
    let smaller : 4096 * undone (set done op true) + (2049 - length front) < 4096 * undone done + (2049 - length c.loop-op.path.items) = omega (arith, falls, ap length was, length-append front (op ∷ [])) in
    smaller

pub bounds-done-op : goal.bounds-done-op
bounds-done-op c =
    let plans = c.args.sched.now in
    let rank = c.args.id.rank in
    let done = c.loop-op.done in
    let path = subst (λ (ks : List ℕ). IsPath plans rank done ks) c.in-Some.ensures.items c.loop-op.invariant.path in
    omega (arith, op_number_below_op_count plans (op_id rank c.in-Some.op) (last_exists plans rank done c.pop.new.self.items c.in-Some.op path))

pub loop-op-preserved-in-Continue-branch-3 : goal.loop-op-preserved-in-Continue-branch-3
loop-op-preserved-in-Continue-branch-3 c =
    let plans = c.args.sched.now in
    let rank = c.args.id.rank in
    let done = c.loop-op.done in
    let front = c.pop.new.self.items in
    let op = c.in-Some.op in
    let next = c.in-Some-first_missing.needed in
    let inv = c.loop-op.invariant in
    let was : c.loop-op.path.items ≡ front ++ op ∷ [] = c.in-Some.ensures.items in
    let path = subst (λ (ks : List ℕ). IsPath plans rank done ks) was inv.path in
    let new : c.push-in-Some-first_missing-2.new.self.items ≡ (front ++ op ∷ []) ++ next ∷ [] = c.in_ok-push-in-Some-first_missing-2.ensures.items ∙ ap (λ (ks : List ℕ). ks ++ next ∷ []) c.in_ok-push-in-Some-first_missing.ensures.items in
    let long = length-append front (op ∷ []) in
    let first : slice_index_or (front ++ op ∷ []) 0 0 ≡ c.args.id.op = ap (λ (ks : List ℕ). slice_index_or ks 0 0) (sym was) ∙ inv.first (omega (arith, ap length was, long)) in
    record {
      rows = inv.rows;
      path = subst (λ (ks : List ℕ). IsPath plans rank done ks) (sym new) (path_longer plans rank done front op path c.known.ensures.accepted next c.in-Some-first_missing.ensures);
      first = λ some. ap (λ (ks : List ℕ). slice_index_or ks 0 0) new ∙ get_or_append_left (front ++ op ∷ []) (next ∷ []) 0 0 (omega (arith, long)) ∙ first;
      last = λ none. absurd (omega (arith, none, ap length new, length-append (front ++ op ∷ []) (next ∷ [])));
      kept = inv.kept;
    }

pub loop-op-smaller-in-Continue-branch-3 : goal.loop-op-smaller-in-Continue-branch-3
loop-op-smaller-in-Continue-branch-3 c =
    let plans = c.args.sched.now in
    let rank = c.args.id.rank in
    let done = c.loop-op.done in
    let front = c.pop.new.self.items in
    let op = c.in-Some.op in
    let next = c.in-Some-first_missing.needed in
    let new : c.push-in-Some-first_missing-2.new.self.items ≡ (front ++ op ∷ []) ++ next ∷ [] = c.in_ok-push-in-Some-first_missing-2.ensures.items ∙ ap (λ (ks : List ℕ). ks ++ next ∷ []) c.in_ok-push-in-Some-first_missing.ensures.items in
    let short = path_at_most_op_count plans rank done c.loop-op.path.items c.loop-op.invariant.path in
    let smaller : 4096 * undone done + (2049 - length c.push-in-Some-first_missing-2.new.self.items) < 4096 * undone done + (2049 - length c.loop-op.path.items) = omega (arith, short, c.requires.few, ap length new, ap length c.in-Some.ensures.items, length-append front (op ∷ []), length-append (front ++ op ∷ []) (next ∷ [])) in
    smaller

pub returns-clause-done : goal.returns-clause-done
returns-clause-done c = c.loop-op.invariant.last (omega (arith, c.in_default.ensures.cases.0, c.loop-op.path.ok.0))
