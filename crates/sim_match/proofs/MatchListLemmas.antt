-- Match lists: what one keeps when its first entry is looked for, when an entry is added, and when more is paired.
use Rattle.std.proofs.Common.{ℕ, ◌≤◌, ◌≡◌, Bool, true, false, not, List, [], ◌∷◌, ◌++◌, length, take, find, get_or, Option, Some, None, ◌<◌, All, refl, arith, sym, ap, ◌∙◌, subst}
use Rattle.std.proofs.lemmas.Option.{slice_get_read, slice_get_past}
use Rattle.std.proofs.lemmas.List.{take-append-le, length-append, length-take, get_or-take, take_all}
use Rattle.std.proofs.lemmas.List.Elements.{All-weaker}
use Rattle.goal_graph.specs.declared.action.OpId.{OpId}
use Rattle.goal_graph.specs.Schedule.{Plan, operations}
use Rattle.goal_graph.specs.Fault.{IsOp}
use Rattle.sim_match.specs.declared.match_list.MatchEntry.{MatchEntry}
use Rattle.sim_match.specs.MatchLists.{MatchList, is_marked, IsReady, IsFirst, pushed}
use Rattle.sim_match.specs.Matcher.{IsMatchList}
use Rattle.sim_match.proofs.Finding.{find_at_place, find_none}
use Rattle.goal_graph.proofs.ForCallers.{find_agree}

module _ (es : List MatchEntry) (paired : OpId → Bool) (room : ℕ) (old : MatchList) (is : IsMatchList es paired room old) where
  -- its first entry may be looked for, where what is paired is marked
  module _ (plans : List Plan) (marks : List Bool) (marked : (x : OpId) → is_marked (operations plans) marks x ≡ paired x) where
    pub match_list_ready : All (λ (e : MatchEntry). IsOp plans e.op) es → length (operations plans) ≤ length marks → IsReady plans marks old
    match_list_ready exist long = record {
      exist = subst (All (λ (e : MatchEntry). IsOp plans e.op)) (sym is.entries) exist;
      long = long;
      within = subst (λ (xs : List MatchEntry). old.head ≤ length xs) (sym is.entries) is.within;
      skipped = subst (λ (xs : List MatchEntry). All (λ (e : MatchEntry). is_marked (operations plans) marks e.op ≡ true) (take old.head xs)) (sym is.entries) (All-weaker (λ (e : MatchEntry). paired e.op ≡ true) (λ (e : MatchEntry). is_marked (operations plans) marks e.op ≡ true) (λ e t. marked e.op ∙ t) (take old.head es) is.skipped);
    }

    module _ (new : MatchList) (first : Option MatchEntry) (f : IsFirst (is_marked (operations plans) marks) old new first) where
      pub match_list_kept : IsMatchList es paired room new
      match_list_kept = record {
        entries = f.entries ∙ is.entries;
        within = subst (λ (xs : List MatchEntry). new.head ≤ length xs) is.entries f.within;
        skipped = All-weaker (λ (e : MatchEntry). is_marked (operations plans) marks e.op ≡ true) (λ (e : MatchEntry). paired e.op ≡ true) (λ e t. sym (marked e.op) ∙ t) (take new.head es) (subst (λ (xs : List MatchEntry). All (λ (e : MatchEntry). is_marked (operations plans) marks e.op ≡ true) (take new.head xs)) is.entries f.skipped);
        room = omega (arith, f.room, is.room);
      }

      pub match_list_found : first ≡ find (λ (e : MatchEntry). not (paired e.op)) es
      match_list_found =
          f.found ∙ ap (find (λ (e : MatchEntry). not (is_marked (operations plans) marks e.op))) is.entries ∙ find_agree (λ (e : MatchEntry). not (is_marked (operations plans) marks e.op)) (λ (e : MatchEntry). not (paired e.op)) (λ e. ap not (marked e.op)) es

  -- the list with another entry appended
  pub match_list_pushed : (e : MatchEntry) → IsMatchList (es ++ e ∷ []) paired room (pushed old e)
  match_list_pushed e =
      let longer = length-append es (e ∷ []) in
      record {
        entries = ap (λ (xs : List MatchEntry). xs ++ e ∷ []) is.entries;
        within = omega (arith, is.within, longer);
        skipped = subst (All (λ (f : MatchEntry). paired f.op ≡ true)) (sym (take-append-le old.head es (e ∷ []) is.within)) is.skipped;
        room = is.room;
      }

  -- the list stays a match list when other operations are paired too
  pub match_list_after_pairing : (later : OpId → Bool) → ((x : OpId) → paired x ≡ true → later x ≡ true) → IsMatchList es later room old
  match_list_after_pairing later more = record {
    entries = is.entries;
    within = is.within;
    skipped = All-weaker (λ (e : MatchEntry). paired e.op ≡ true) (λ (e : MatchEntry). later e.op ≡ true) (λ e t. more e.op t) (take old.head es) is.skipped;
    room = is.room;
  }

-- the first entry that is not marked
module _ (marked : OpId → Bool) (es : List MatchEntry) (i head room : ℕ) (skipped : All (λ (e : MatchEntry). marked e.op ≡ true) (take i es)) where
  pub first_unmarked_found : (e : MatchEntry) → i < length es → e ≡ get_or es i e → marked e.op ≡ false → IsFirst marked (record { entries = es; head = head; room = room }) (record { entries = es; head = i; room = room }) (Some e)
  first_unmarked_found e inside read waits = record {
    found = ap (λ (f : MatchEntry). Some f) read ∙ sym (find_at_place (λ (f : MatchEntry). not (marked f.op)) es i e inside (ap (λ (f : MatchEntry). not (marked f.op)) (sym read) ∙ ap not waits) (λ k b. ap not (before k e b (omega (arith, inside, b)))));
    entries = refl;
    room = refl;
    within = omega (arith, inside);
    at_head = slice_get_read es (length es) i e refl inside read;
    skipped = skipped;
  }
    where
      before : (k : ℕ) (d : MatchEntry) → k < i → k < length es → marked (get_or es k d).op ≡ true
      before k d b inside =
          let short = length-take i es in
          subst (λ (f : MatchEntry). marked f.op ≡ true) (get_or-take i es k d b) (skipped k d (omega (arith, b, inside, short)))

  -- or none
  pub no_unmarked_left : i ≡ length es → IsFirst marked (record { entries = es; head = head; room = room }) (record { entries = es; head = i; room = room }) None
  no_unmarked_left at_end = record {
    found = sym (find_none (λ (f : MatchEntry). not (marked f.op)) es (All-weaker (λ (e : MatchEntry). marked e.op ≡ true) (λ (e : MatchEntry). not (marked e.op) ≡ false) (λ e t. ap not t) es (subst (All (λ (e : MatchEntry). marked e.op ≡ true)) (take_all i es (omega (arith, at_end))) skipped)));
    entries = refl;
    room = refl;
    within = omega (arith, at_end);
    at_head = slice_get_past es i (omega (arith, at_end));
    skipped = skipped;
  }
