-- What a match table keeps, after one more post or arrival.
use Rattle.std.proofs.Common.{ℕ, zero, suc, ◌+◌, ◌<◌, ◌≡◌, ◌&&◌, ◌||◌, Bool, true, false, not, if◌then◌else◌, inl, inr, List, [], ◌∷◌, ◌++◌, length, Option, Some, None, is_none, All, filter, find, map, reverse, take, get_or, slice_get, slice_set, count_by, refl, arith, sym, ap, ◌∙◌, subst, eq-eqb, append-nil}
use Rattle.std.specs.Option.{IfSome, option_map}
use Rattle.std.specs.List.{list_any}
use Rattle.std.proofs.Math.Bool.{and-false, and-or_distrib_left, or-false, or_assoc, or_comm}
use Rattle.std.proofs.lemmas.Bool.{cases_eq, ne_eqb}
use Rattle.std.proofs.lemmas.Option.{slice_get_read, same_Some}
use Rattle.std.proofs.lemmas.List.{length-append, length-set, length-map, length-reverse, map_push, reverse-append}
use Rattle.std.proofs.lemmas.List.Elements.{All-weaker, All-filter, filter-append}
use Rattle.std.proofs.lemmas.List.Folds.{list_any_more, list_any_at}
use Rattle.std.proofs.lemmas.List.Sums.{count_by-le-length}
use Rattle.goal_graph.specs.declared.action.OpId.{OpId}
use Rattle.goal_graph.specs.declared.action.Class.TheVariants.{Arrive, Post}
use Rattle.goal_graph.specs.declared.plan.Kind.{Kind}
use Rattle.goal_graph.specs.Schedule.{Plan, kind_at, operations, IsSend, IsReceive}
use Rattle.goal_graph.specs.Fault.{IsOp}
use Rattle.goal_graph.specs.Action.{Act, same_op, happened}
use Rattle.goal_graph.specs.Matching.{Pair, pair_of, fits, is_paired, new_pair, pairs}
use Rattle.goal_graph.proofs.ForCallers.{pairs_unchanged_without_new_pair, paired_stays, find_agree, found_item_has_property, op_of_kind}
use Rattle.sim_match.specs.declared.pattern.Pattern.{Pattern}
use Rattle.sim_match.specs.declared.match_list.MatchEntry.{MatchEntry}
use Rattle.sim_match.specs.PostsAndArrivals.{send_for, receive_for}
use Rattle.sim_match.specs.Waiting.{is_message}
use Rattle.sim_match.specs.Patterns.{same_number, list_of, lists_for, in_list, for_list, IsListed}
use Rattle.sim_match.specs.MatchLists.{is_marked, entries_of, earlier, IsReady, IsFirst, pushed}
use Rattle.sim_match.specs.Matcher.{unmet_of, stands_in, stood, class_of_kind, event_of, PatternLists, actions_of, IsNew, ArePaired, IsMatchList, receives_of, sends_of, AreLists, Mirrors, IsJoined}
use Rattle.sim_match.proofs.Ops.{post_suits, arrival_suits, actions_fewer_than_messages}
use Rattle.sim_match.proofs.Pairs.{in_pair, paired_with_new_pair, pairs_with_new_pair}
use Rattle.sim_match.proofs.Written.{slice_get_written, slice_get_elsewhere}
use Rattle.sim_match.proofs.Finding.{find_by_equal_tests, find_filter, find_none, find_either, filter_last_fails, filter_last_passes}
use Rattle.sim_match.proofs.PatternLemmas.{receive_of_list_fits_its_sends, receive_fits_by_any_list_number, lists_once, lists_within}
use Rattle.sim_match.proofs.Unmet.{unmet_other, unmet_arrival, unmet_satisfy_what_arrivals_do, unmet_no_more_than_arrivals, unmet_found}
use Rattle.sim_match.proofs.Entries.{entries_after_its_class, entries_after_other_class, entries_order, oldest_entry, posted_receives, posted_exist, arrived_exist, entries_leave_room_for_new_op}
use Rattle.sim_match.proofs.MatchListLemmas.{match_list_ready, match_list_kept, match_list_found, match_list_pushed, match_list_after_pairing}

module _ (plans : List Plan) (events : List OpId) where
  pub length-actions_of : length (actions_of plans events) ≡ length events
  length-actions_of = length-reverse (map (event_of plans) events) ∙ length-map events (event_of plans)

  -- another event
  module _ (x : OpId) where
    actions_of-push : actions_of plans (events ++ x ∷ []) ≡ event_of plans x ∷ actions_of plans events
    actions_of-push =
        ap reverse (map_push (event_of plans) events x) ∙ reverse-append (map (event_of plans) events) (event_of plans x ∷ [])

    actions_of-class : (k : Option Kind) → kind_at plans x ≡ k → actions_of plans (events ++ x ∷ []) ≡ record { class = class_of_kind k; op = x } ∷ actions_of plans events
    actions_of-class k is =
        actions_of-push ∙ ap (λ (k : Option Kind). record { class = class_of_kind k; op = x } ∷ actions_of plans events) is

    pub actions_of-post : IsReceive plans x → actions_of plans (events ++ x ∷ []) ≡ record { class = Post; op = x } ∷ actions_of plans events
    actions_of-post r = actions_of-class _ r.kind

    pub actions_of-arrival : IsSend plans x → actions_of plans (events ++ x ∷ []) ≡ record { class = Arrive; op = x } ∷ actions_of plans events
    actions_of-arrival s = actions_of-class _ s.kind

pub no_number : (o : Option ℕ) → same_number o None ≡ false
no_number None = refl
no_number (Some i) = refl

-- what is found exists
pub met_exists : (plans : List Plan) (es : List MatchEntry) (test : MatchEntry → Bool) (met : Option MatchEntry) → met ≡ find test es → All (λ (e : MatchEntry). IsOp plans e.op) es → IfSome met (λ (e : MatchEntry). IsOp plans e.op)
met_exists plans es test None e all = tt
met_exists plans es test (Some f) e all = found_item_has_property (λ (e : MatchEntry). IsOp plans e.op) test es f all (sym e)

-- which operations are paired after the newest action, given the entry that it met
paired_after : (plans : List Plan) (a : Act) (h : List Act) (old new : List Bool) (met : Option MatchEntry) (pairing : OpId → Pair) → ((z y : OpId) → in_pair (pairing z) y ≡ (same_op a.op y || same_op z y)) → new_pair plans (pairs plans h) h a.class a.op ≡ option_map pairing (option_map (λ (e : MatchEntry). e.op) met) → ((x : OpId) → is_marked (operations plans) old x ≡ is_paired (pairs plans h) x) → ArePaired (operations plans) a.op met old new → (y : OpId) → is_marked (operations plans) new y ≡ is_paired (pairs plans (a ∷ h)) y
paired_after plans a h old new None pairing both makes marked changes y =
    changes y ∙ marked y ∙ ap (λ (ps : List Pair). is_paired ps y) (sym (pairs_unchanged_without_new_pair plans a h makes))
paired_after plans a h old new (Some f) pairing both makes marked changes y =
    changes y ∙ ap (λ (b : Bool). (b || same_op a.op y) || same_op f.op y) (marked y) ∙ or_assoc (is_paired (pairs plans h) y) (same_op a.op y) (same_op f.op y) ∙ ap (λ (b : Bool). is_paired (pairs plans h) y || b) (sym (both f.op y)) ∙ sym (paired_with_new_pair (pairing f.op) (pairs plans h) y) ∙ ap (λ (ps : List Pair). is_paired ps y) (sym (pairs_with_new_pair plans a h (pairing f.op) makes))

send_of_pairs : (x : OpId) (o : Option OpId) → option_map (λ (p : Pair). p.send) (option_map (λ (m : OpId). pair_of m x) o) ≡ o
send_of_pairs x None = refl
send_of_pairs x (Some m) = refl

receive_of_pairs : (m : OpId) (o : Option OpId) → option_map (λ (p : Pair). p.recv) (option_map (λ (x : OpId). pair_of m x) o) ≡ o
receive_of_pairs m None = refl
receive_of_pairs m (Some x) = refl

module _ (plans : List Plan) (keys : List Pattern) (h : List Act) where
  -- the receives and the sends of a list after a post
  abbrev post_of : OpId → Act
  post_of x = record { class = Post; op = x }

  abbrev arrival_of : OpId → Act
  arrival_of m = record { class = Arrive; op = m }

  abbrev entry : OpId → MatchEntry
  entry x = record { op = x; at = length h }

  receives_after_listed_post : (x : OpId) (l : ℕ) → in_list plans keys l x ≡ true → receives_of plans keys (post_of x ∷ h) l ≡ receives_of plans keys h l ++ entry x ∷ []
  receives_after_listed_post x l pass =
      ap (filter (λ (e : MatchEntry). in_list plans keys l e.op)) (entries_after_its_class Post (post_of x) h refl) ∙ filter_last_passes (λ (e : MatchEntry). in_list plans keys l e.op) (entries_of Post h) (entry x) pass

  receives_after_unlisted_post : (x : OpId) (l : ℕ) → in_list plans keys l x ≡ false → receives_of plans keys (post_of x ∷ h) l ≡ receives_of plans keys h l
  receives_after_unlisted_post x l fails =
      ap (filter (λ (e : MatchEntry). in_list plans keys l e.op)) (entries_after_its_class Post (post_of x) h refl) ∙ filter_last_fails (λ (e : MatchEntry). in_list plans keys l e.op) (entries_of Post h) (entry x) fails

  sends_unchanged_by_post : (x : OpId) (l : ℕ) → sends_of plans keys (post_of x ∷ h) l ≡ sends_of plans keys h l
  sends_unchanged_by_post x l = ap (filter (λ (e : MatchEntry). for_list plans keys l e.op)) (unmet_other plans (post_of x) h refl)

  -- and after an arrival
  receives_unchanged_by_arrival : (m : OpId) (l : ℕ) → receives_of plans keys (arrival_of m ∷ h) l ≡ receives_of plans keys h l
  receives_unchanged_by_arrival m l = ap (filter (λ (e : MatchEntry). in_list plans keys l e.op)) (entries_after_other_class Post (arrival_of m) h refl)

  -- a send that met no receive is in its lists
  sends_after_arrival : (m : OpId) (l : ℕ) (met : Option MatchEntry) → new_pair plans (pairs plans h) h Arrive m ≡ option_map (λ (z : OpId). pair_of m z) (option_map (λ (e : MatchEntry). e.op) met) → sends_of plans keys (arrival_of m ∷ h) l ≡ sends_of plans keys h l ++ (if list_any (same_number (Some l)) (stands_in met (lists_for plans keys m)) then entry m ∷ [] else [])
  unfolding for_list
  sends_after_arrival m l None makes =
      ap (filter (λ (e : MatchEntry). for_list plans keys l e.op)) (unmet_arrival plans (arrival_of m) h refl ∙ ap (λ (o : Option Pair). unmet_of plans h ++ (if is_none o then entry m ∷ [] else [])) makes) ∙ filter-append (λ (e : MatchEntry). for_list plans keys l e.op) (unmet_of plans h) (entry m ∷ [])
  sends_after_arrival m l (Some f) makes =
      ap (filter (λ (e : MatchEntry). for_list plans keys l e.op)) (unmet_arrival plans (arrival_of m) h refl ∙ ap (λ (o : Option Pair). unmet_of plans h ++ (if is_none o then entry m ∷ [] else [])) makes ∙ append-nil (unmet_of plans h)) ∙ sym (append-nil (sends_of plans keys h l))

-- how many sends have joined lists
pub unmet_after_post : (plans : List Plan) (h : List Act) (x : OpId) → length (unmet_of plans (record { class = Post; op = x } ∷ h)) ≡ length (unmet_of plans h)
unmet_after_post plans h x = ap length (unmet_other plans (record { class = Post; op = x }) h refl)

pub no_unmet_no_sends : (plans : List Plan) (keys : List Pattern) (h : List Act) (list : ℕ) → length (unmet_of plans h) ≡ 0 → sends_of plans keys h list ≡ []
no_unmet_no_sends plans keys h list none =
    ap (filter (λ (e : MatchEntry). for_list plans keys list e.op)) (no_items (unmet_of plans h) none)
  where
    no_items : (es : List MatchEntry) → length es ≡ 0 → es ≡ []
    no_items [] e = refl
    no_items (x ∷ es) e = absurd (omega (arith, e))

module _ (plans : List Plan) (keys : List Pattern) (lists : List PatternLists) (marks : List Bool) (h : List Act) (m : Mirrors plans keys lists marks h) where
  abbrev paired : OpId → Bool
  paired = is_paired (pairs plans h)

  lists_read : (list : ℕ) (w : PatternLists) → list < length keys → w ≡ get_or lists list w → AreLists plans keys paired list (receives_of plans keys h list) (sends_of plans keys h list) w
  lists_read list w within read =
      m.each list w (slice_get_read lists (length lists) list w refl (omega (arith, within, m.one_each)) read)

  receives_exist : (list : ℕ) → All (λ (e : MatchEntry). IsOp plans e.op) (receives_of plans keys h list)
  receives_exist list = All-filter (λ (e : MatchEntry). in_list plans keys list e.op) (λ (e : MatchEntry). IsOp plans e.op) (entries_of Post h) (posted_exist plans h m.actions)

  sends_exist : (list : ℕ) → All (λ (e : MatchEntry). IsOp plans e.op) (sends_of plans keys h list)
  sends_exist list = All-filter (λ (e : MatchEntry). for_list plans keys list e.op) (λ (e : MatchEntry). IsOp plans e.op) (unmet_of plans h) (unmet_satisfy_what_arrivals_do plans (λ (e : MatchEntry). IsOp plans e.op) h (arrived_exist plans h m.actions))

  -- a receive that is still to be posted
  module _ (x : OpId) (r : IsReceive plans x) (fresh : happened Post x h ≡ false) where
    post_is_new : IsNew plans h (post_of plans keys h x)
    post_is_new = record { class = refl; suited = post_suits plans x r; fresh = fresh }

    pub post_counted : length h < length (operations plans)
    post_counted =
        let fewer = actions_fewer_than_messages plans (post_of plans keys h x) h m.actions post_is_new in
        let all = count_by-le-length (is_message plans) (operations plans) in
        omega (arith, fewer, all)

    pub post_exists : IsOp plans x
    post_exists = op_of_kind plans x _ r.kind

    pub post_listed : IsListed plans keys x
    post_listed = m.listed x r

    module _ (list : ℕ) (is : list_of plans keys x ≡ Some list) where
      post_list_within : list < length keys
      post_list_within =
          subst (λ (n : ℕ). n < length keys) (same_Some (post_listed).list list (sym (post_listed).is ∙ is)) (post_listed).within

      pub post_within : list < length lists
      post_within = let within = post_list_within in omega (arith, within, m.one_each)

      posted_in_its_list : in_list plans keys list x ≡ true
      unfolding in_list
      posted_in_its_list = ap (λ (o : Option ℕ). same_number o (Some list)) is ∙ eq-eqb list list refl

      posted_in_no_other : (l : ℕ) → (l ≡ list → ⊥) → in_list plans keys l x ≡ false
      unfolding in_list
      posted_in_no_other l n = ap (λ (o : Option ℕ). same_number o (Some l)) is ∙ ne_eqb list l (λ e. n (sym e))

      module _ (w : PatternLists) (read : w ≡ get_or lists list w) where
        post_list_before : AreLists plans keys paired list (receives_of plans keys h list) (sends_of plans keys h list) w
        post_list_before = lists_read list w post_list_within read

        pub post_ready : IsReady plans marks w.sends
        post_ready = match_list_ready _ _ _ w.sends (post_list_before).sends plans marks m.marked (sends_exist list) m.all_marks

        pub no_unmet_no_waiting_sends : length (unmet_of plans h) ≡ 0 → w.sends.entries ≡ []
        no_unmet_no_waiting_sends none = (post_list_before).sends.entries ∙ no_unmet_no_sends plans keys h list none

        pub post_room : length w.receives.entries < w.receives.room
        post_room =
            let fewer = entries_leave_room_for_new_op plans h m.actions (in_list plans keys list) Post x (post_suits plans x r) fresh posted_in_its_list in
            omega (arith, fewer, ap length (post_list_before).receives.entries, (post_list_before).receives.room)

        module _ (v : PatternLists) (met : Option MatchEntry) (first : IsFirst (is_marked (operations plans) marks) w.sends v.sends met) (grown : v.receives ≡ pushed w.receives (entry plans keys h x)) where
          post_met : met ≡ find (λ (e : MatchEntry). not (paired e.op) && fits plans x e.op) (entries_of Arrive h)
          post_met =
              match_list_found _ _ _ w.sends (post_list_before).sends plans marks m.marked v.sends met first ∙ find_filter (λ (e : MatchEntry). for_list plans keys list e.op) (λ (e : MatchEntry). not (paired e.op)) (unmet_of plans h) ∙ unmet_found plans h (λ (e : MatchEntry). for_list plans keys list e.op) ∙ find_agree (λ (e : MatchEntry). not (paired e.op) && for_list plans keys list e.op) (λ (e : MatchEntry). not (paired e.op) && fits plans x e.op) (λ e. ap (λ (b : Bool). not (paired e.op) && b) (sym (receive_of_list_fits_its_sends plans keys x e.op list r is))) (entries_of Arrive h)

          post_makes : new_pair plans (pairs plans h) h Post x ≡ option_map (λ (z : OpId). pair_of z x) (option_map (λ (e : MatchEntry). e.op) met)
          post_makes =
              ap (option_map (λ (z : OpId). pair_of z x)) (oldest_entry Arrive (λ (z : OpId). not (paired z)) (fits plans x) h ∙ ap (option_map (λ (e : MatchEntry). e.op)) (sym post_met))

          pub post_answers : option_map (λ (e : MatchEntry). e.op) met ≡ send_for plans h x
          post_answers = sym (ap (option_map (λ (p : Pair). p.send)) post_makes ∙ send_of_pairs x _)

          pub post_met_exists : IfSome met (λ (e : MatchEntry). IsOp plans e.op)
          post_met_exists = met_exists plans (entries_of Arrive h) _ met post_met (arrived_exist plans h m.actions)

          paired_stays_after_post : (y : OpId) → paired y ≡ true → is_paired (pairs plans (post_of plans keys h x ∷ h)) y ≡ true
          paired_stays_after_post y = paired_stays plans (post_of plans keys h x) h y

          post_its_list_after : AreLists plans keys (is_paired (pairs plans (post_of plans keys h x ∷ h))) list (receives_of plans keys (post_of plans keys h x ∷ h) list) (sends_of plans keys (post_of plans keys h x ∷ h) list) v
          post_its_list_after = record {
            receives = subst (λ (es : List MatchEntry). IsMatchList es (is_paired (pairs plans (post_of plans keys h x ∷ h))) (count_by (in_list plans keys list) (operations plans)) v.receives) (sym (receives_after_listed_post plans keys h x list posted_in_its_list)) (match_list_after_pairing _ _ _ v.receives (subst (IsMatchList (receives_of plans keys h list ++ entry plans keys h x ∷ []) paired (count_by (in_list plans keys list) (operations plans))) (sym grown) (match_list_pushed _ _ _ w.receives (post_list_before).receives (entry plans keys h x))) _ paired_stays_after_post);
            sends = subst (λ (es : List MatchEntry). IsMatchList es (is_paired (pairs plans (post_of plans keys h x ∷ h))) (count_by (for_list plans keys list) (operations plans)) v.sends) (sym (sends_unchanged_by_post plans keys h x list)) (match_list_after_pairing _ _ _ v.sends (match_list_kept _ _ _ w.sends (post_list_before).sends plans marks m.marked v.sends met first) _ paired_stays_after_post);
          }

          post_other_list_after : (l : ℕ) (u : PatternLists) → (l ≡ list → ⊥) → AreLists plans keys paired l (receives_of plans keys h l) (sends_of plans keys h l) u → AreLists plans keys (is_paired (pairs plans (post_of plans keys h x ∷ h))) l (receives_of plans keys (post_of plans keys h x ∷ h) l) (sends_of plans keys (post_of plans keys h x ∷ h) l) u
          post_other_list_after l u n before = record {
            receives = subst (λ (es : List MatchEntry). IsMatchList es (is_paired (pairs plans (post_of plans keys h x ∷ h))) (count_by (in_list plans keys l) (operations plans)) u.receives) (sym (receives_after_unlisted_post plans keys h x l (posted_in_no_other l n))) (match_list_after_pairing _ _ _ u.receives before.receives _ paired_stays_after_post);
            sends = subst (λ (es : List MatchEntry). IsMatchList es (is_paired (pairs plans (post_of plans keys h x ∷ h))) (count_by (for_list plans keys l) (operations plans)) u.sends) (sym (sends_unchanged_by_post plans keys h x l)) (match_list_after_pairing _ _ _ u.sends before.sends _ paired_stays_after_post);
          }

          post_every_list_after : (l : ℕ) (u : PatternLists) → slice_get (slice_set lists list v) l ≡ Some u → AreLists plans keys (is_paired (pairs plans (post_of plans keys h x ∷ h))) l (receives_of plans keys (post_of plans keys h x ∷ h) l) (sends_of plans keys (post_of plans keys h x ∷ h) l) u
          post_every_list_after l u e = elim (cases_eq l list) [
            | inl same ↦ subst (λ (k : ℕ). AreLists plans keys (is_paired (pairs plans (post_of plans keys h x ∷ h))) k (receives_of plans keys (post_of plans keys h x ∷ h) k) (sends_of plans keys (post_of plans keys h x ∷ h) k) u) (sym same) (subst (AreLists plans keys (is_paired (pairs plans (post_of plans keys h x ∷ h))) list (receives_of plans keys (post_of plans keys h x ∷ h) list) (sends_of plans keys (post_of plans keys h x ∷ h) list)) (slice_get_written lists list v u (subst (λ (k : ℕ). slice_get (slice_set lists list v) k ≡ Some u) same e)) post_its_list_after)
            | inr n ↦ post_other_list_after l u n (m.each l u (sym (slice_get_elsewhere lists list l v n) ∙ e))
          ]

          pub post_keeps : (after : List Bool) → ArePaired (operations plans) x met marks after → length after ≡ length marks → Mirrors plans keys (slice_set lists list v) after (post_of plans keys h x ∷ h)
          post_keeps after changes long = record {
            accepted = m.accepted;
            actions = (m.actions, post_is_new);
            listed = m.listed;
            one_each = length-set lists list v ∙ m.one_each;
            each = post_every_list_after;
            marked = paired_after plans (post_of plans keys h x) h marks after met (λ (z : OpId). pair_of z x) (λ z y. or_comm (same_op z y) (same_op x y)) post_makes m.marked changes;
            all_marks = omega (arith, m.all_marks, long);
          }

  -- a send that is still to arrive
  module _ (y : OpId) (s : IsSend plans y) (fresh : happened Arrive y h ≡ false) where
    arrival_is_new : IsNew plans h (arrival_of plans keys h y)
    arrival_is_new = record { class = refl; suited = arrival_suits plans y s; fresh = fresh }

    pub arrival_counted : length h < length (operations plans)
    arrival_counted =
        let fewer = actions_fewer_than_messages plans (arrival_of plans keys h y) h m.actions arrival_is_new in
        let all = count_by-le-length (is_message plans) (operations plans) in
        omega (arith, fewer, all)

    pub arrival_exists : IsOp plans y
    arrival_exists = op_of_kind plans y _ s.kind

    abbrev joins : List (Option ℕ) → ℕ → List MatchEntry
    joins numbers l = sends_of plans keys h l ++ (if list_any (same_number (Some l)) numbers then entry plans keys h y ∷ [] else [])

    abbrev meets : List (Option ℕ) → MatchEntry → Bool
    meets numbers e = not (paired e.op) && list_any (same_number (list_of plans keys e.op)) numbers

    -- before any of its lists
    pub joined_none : IsJoined plans keys h y [] [] lists None
    joined_none = record {
      one_each = m.one_each;
      each = λ l w e. let before = m.each l w e in record { receives = before.receives; sends = subst (λ (es : List MatchEntry). IsMatchList es paired (count_by (for_list plans keys l) (operations plans)) w.sends) (sym (append-nil (sends_of plans keys h l))) before.sends };
      found = sym (find_none (meets []) (entries_of Post h) (λ k d b. and-false (not (paired (get_or (entries_of Post h) k d).op))));
    }

    -- at one of them
    module _ (k : ℕ) (d : Option ℕ) (inside : k < length (lists_for plans keys y)) where
      abbrev numbers : List (Option ℕ)
      numbers = lists_for plans keys y

      list_any_next_pattern : (test : Option ℕ → Bool) → list_any test (take (k + 1) numbers) ≡ (list_any test (take k numbers) || test (get_or numbers k d))
      list_any_next_pattern test = list_any_more test numbers k d inside

      -- a pattern that the schedule doesn't have
      module _ (absent : get_or (lists_for plans keys y) k d ≡ None) where
        absent_number_changes_no_list : (o : Option ℕ) → list_any (same_number o) (take (k + 1) numbers) ≡ list_any (same_number o) (take k numbers)
        absent_number_changes_no_list o =
            list_any_next_pattern (same_number o) ∙ ap (λ (b : Bool). list_any (same_number o) (take k numbers) || b) (ap (same_number o) absent ∙ no_number o) ∙ or-false (list_any (same_number o) (take k numbers))

        pub sought_absent_pattern : (stood : List (Option ℕ)) (now : List PatternLists) (met : Option MatchEntry) → IsJoined plans keys h y stood (take k (lists_for plans keys y)) now met → IsJoined plans keys h y stood (take (k + 1) (lists_for plans keys y)) now met
        sought_absent_pattern stood now met j = record {
          one_each = j.one_each;
          each = j.each;
          found = j.found ∙ find_agree (meets (take k numbers)) (meets (take (k + 1) numbers)) (λ e. ap (λ (b : Bool). not (paired e.op) && b) (sym (absent_number_changes_no_list (list_of plans keys e.op)))) (entries_of Post h);
        }

        pub joined_absent_pattern : (looked : List (Option ℕ)) (now : List PatternLists) (met : Option MatchEntry) → IsJoined plans keys h y (take k (lists_for plans keys y)) looked now met → IsJoined plans keys h y (take (k + 1) (lists_for plans keys y)) looked now met
        joined_absent_pattern looked now met j = record {
          one_each = j.one_each;
          each = λ l w e. let before = j.each l w e in record { receives = before.receives; sends = subst (λ (b : Bool). IsMatchList (sends_of plans keys h l ++ (if b then entry plans keys h y ∷ [] else [])) paired (count_by (for_list plans keys l) (operations plans)) w.sends) (sym (absent_number_changes_no_list (Some l))) before.sends };
          found = j.found;
        }

      -- a pattern that it has
      module _ (i : ℕ) (is : get_or (lists_for plans keys y) k d ≡ Some i) where
        at : slice_get numbers k ≡ Some (Some i)
        at = slice_get_read numbers (length numbers) k (Some i) refl inside (sym (get_or_from numbers k d (Some i) inside is))
          where
            get_or_from : (xs : List (Option ℕ)) (k : ℕ) (d o : Option ℕ) → k < length xs → get_or xs k d ≡ o → get_or xs k o ≡ o
            get_or_from [] k d o b e = absurd (omega arith)
            get_or_from (z ∷ zs) zero d o b e = e
            get_or_from (z ∷ zs) (suc k) d o b e = get_or_from zs k d o (omega arith) e

        module _ (stood looked : List (Option ℕ)) (now : List PatternLists) (met : Option MatchEntry) (j : IsJoined plans keys h y stood looked now met) where
          pub join_within : i < length now
          join_within = let within = lists_within plans keys y s k i at in omega (arith, within, j.one_each)

          list_before_join : (w : PatternLists) → w ≡ get_or now i w → AreLists plans keys paired i (receives_of plans keys h i) (joins stood i) w
          list_before_join w read = j.each i w (slice_get_read now (length now) i w refl join_within read)

          pub join_ready : (w : PatternLists) → w ≡ get_or now i w → IsReady plans marks w.receives
          join_ready w read =
              match_list_ready _ _ _ w.receives (list_before_join w read).receives plans marks m.marked (receives_exist i) m.all_marks

        -- its first receive that waits is looked for
        module _ (stood : List (Option ℕ)) (now : List PatternLists) (met : Option MatchEntry) (j : IsJoined plans keys h y stood (take k (lists_for plans keys y)) now met) (w : PatternLists) (read : w ≡ get_or now i w) (v : PatternLists) (first : Option MatchEntry) (f : IsFirst (is_marked (operations plans) marks) w.receives v.receives first) (same : v.sends ≡ w.sends) where
          list_before_search : AreLists plans keys paired i (receives_of plans keys h i) (joins stood i) w
          list_before_search = list_before_join stood (take k (lists_for plans keys y)) now met j w read

          list_after_search : AreLists plans keys paired i (receives_of plans keys h i) (joins stood i) v
          list_after_search = record {
            receives = match_list_kept _ _ _ w.receives (list_before_search).receives plans marks m.marked v.receives first f;
            sends = subst (IsMatchList (joins stood i) paired (count_by (for_list plans keys i) (operations plans))) (sym same) (list_before_search).sends;
          }

          first_of_list_found : first ≡ find (λ (e : MatchEntry). not (paired e.op) && same_number (list_of plans keys e.op) (Some i)) (entries_of Post h)
          unfolding in_list
          first_of_list_found =
              match_list_found _ _ _ w.receives (list_before_search).receives plans marks m.marked v.receives first f ∙ find_filter (λ (e : MatchEntry). in_list plans keys i e.op) (λ (e : MatchEntry). not (paired e.op)) (entries_of Post h)

          meets_next_list : (e : MatchEntry) → meets (take (k + 1) (lists_for plans keys y)) e ≡ (meets (take k (lists_for plans keys y)) e || (not (paired e.op) && same_number (list_of plans keys e.op) (Some i)))
          meets_next_list e =
              ap (λ (b : Bool). not (paired e.op) && b) (list_any_next_pattern (same_number (list_of plans keys e.op)) ∙ ap (λ (o : Option ℕ). list_any (same_number (list_of plans keys e.op)) (take k numbers) || same_number (list_of plans keys e.op) o) is) ∙ and-or_distrib_left (not (paired e.op)) (list_any (same_number (list_of plans keys e.op)) (take k numbers)) (same_number (list_of plans keys e.op) (Some i))

          pub sought_next_list : IsJoined plans keys h y stood (take (k + 1) (lists_for plans keys y)) (slice_set now i v) (earlier met first)
          sought_next_list = record {
            one_each = length-set now i v ∙ j.one_each;
            each = λ l u e. elim (cases_eq l i) [
              | inl same_place ↦ subst (λ (n : ℕ). AreLists plans keys paired n (receives_of plans keys h n) (joins stood n) u) (sym same_place) (subst (AreLists plans keys paired i (receives_of plans keys h i) (joins stood i)) (slice_get_written now i v u (subst (λ (n : ℕ). slice_get (slice_set now i v) n ≡ Some u) same_place e)) list_after_search)
              | inr n ↦ j.each l u (sym (slice_get_elsewhere now i l v n) ∙ e)
            ];
            found =
                ap (λ (o : Option MatchEntry). earlier o first) j.found ∙ ap (earlier (find (meets (take k numbers)) (entries_of Post h))) first_of_list_found ∙ sym (find_agree (meets (take (k + 1) numbers)) (λ (e : MatchEntry). meets (take k numbers) e || (not (paired e.op) && same_number (list_of plans keys e.op) (Some i))) meets_next_list (entries_of Post h) ∙ find_either (meets (take k numbers)) (λ (e : MatchEntry). not (paired e.op) && same_number (list_of plans keys e.op) (Some i)) (entries_of Post h) (entries_order Post h));
          }

        -- it stands last there
        module _ (looked : List (Option ℕ)) (now : List PatternLists) (met : Option MatchEntry) (j : IsJoined plans keys h y (take k (lists_for plans keys y)) looked now met) (w : PatternLists) (read : w ≡ get_or now i w) where
          list_not_joined_yet : list_any (same_number (Some i)) (take k numbers) ≡ false
          list_not_joined_yet = lists_once plans keys y s k i at

          list_before_joining : AreLists plans keys paired i (receives_of plans keys h i) (joins (take k (lists_for plans keys y)) i) w
          list_before_joining = list_before_join (take k (lists_for plans keys y)) looked now met j w read

          sends_before_joining : IsMatchList (sends_of plans keys h i) paired (count_by (for_list plans keys i) (operations plans)) w.sends
          sends_before_joining =
              subst (λ (es : List MatchEntry). IsMatchList es paired (count_by (for_list plans keys i) (operations plans)) w.sends) (ap (λ (b : Bool). sends_of plans keys h i ++ (if b then entry plans keys h y ∷ [] else [])) list_not_joined_yet ∙ append-nil (sends_of plans keys h i)) (list_before_joining).sends

          list_is_for_send : for_list plans keys i y ≡ true
          unfolding for_list
          list_is_for_send = list_any_at (same_number (Some i)) numbers k d inside (ap (same_number (Some i)) is ∙ eq-eqb i i refl)

          pub join_room : length w.sends.entries < w.sends.room
          join_room =
              let fewer = entries_leave_room_for_new_op plans h m.actions (for_list plans keys i) Arrive y (arrival_suits plans y s) fresh list_is_for_send in
              let unmet = unmet_no_more_than_arrivals plans (λ (e : MatchEntry). for_list plans keys i e.op) h in
              let match_list = sends_before_joining in
              omega (arith, fewer, unmet, ap length match_list.entries, match_list.room)

          module _ (v : PatternLists) (same : v.receives ≡ w.receives) (grown : v.sends ≡ pushed w.sends (entry plans keys h y)) where
            joined_list_after : AreLists plans keys paired i (receives_of plans keys h i) (joins (take (k + 1) (lists_for plans keys y)) i) v
            joined_list_after = record {
              receives = subst (IsMatchList (receives_of plans keys h i) paired (count_by (in_list plans keys i) (operations plans))) (sym same) (list_before_joining).receives;
              sends = subst (λ (b : Bool). IsMatchList (sends_of plans keys h i ++ (if b then entry plans keys h y ∷ [] else [])) paired (count_by (for_list plans keys i) (operations plans)) v.sends) (sym seen) (subst (IsMatchList (sends_of plans keys h i ++ entry plans keys h y ∷ []) paired (count_by (for_list plans keys i) (operations plans))) (sym grown) (match_list_pushed _ _ _ w.sends sends_before_joining (entry plans keys h y)));
            }
              where
                seen : list_any (same_number (Some i)) (take (k + 1) numbers) ≡ true
                seen = list_any_next_pattern (same_number (Some i)) ∙ ap (λ (b : Bool). b || same_number (Some i) (get_or numbers k d)) list_not_joined_yet ∙ ap (same_number (Some i)) is ∙ eq-eqb i i refl

            other_lists_after_joining : (l : ℕ) (u : PatternLists) → (l ≡ i → ⊥) → AreLists plans keys paired l (receives_of plans keys h l) (joins (take k (lists_for plans keys y)) l) u → AreLists plans keys paired l (receives_of plans keys h l) (joins (take (k + 1) (lists_for plans keys y)) l) u
            other_lists_after_joining l u n before = record {
              receives = before.receives;
              sends = subst (λ (b : Bool). IsMatchList (sends_of plans keys h l ++ (if b then entry plans keys h y ∷ [] else [])) paired (count_by (for_list plans keys l) (operations plans)) u.sends) (sym as_was) before.sends;
            }
              where
                as_was : list_any (same_number (Some l)) (take (k + 1) numbers) ≡ list_any (same_number (Some l)) (take k numbers)
                as_was = list_any_next_pattern (same_number (Some l)) ∙ ap (λ (b : Bool). list_any (same_number (Some l)) (take k numbers) || b) (ap (same_number (Some l)) is ∙ ne_eqb l i n) ∙ or-false (list_any (same_number (Some l)) (take k numbers))

            pub joined_next_list : IsJoined plans keys h y (take (k + 1) (lists_for plans keys y)) looked (slice_set now i v) met
            joined_next_list = record {
              one_each = length-set now i v ∙ j.one_each;
              each = λ l u e. elim (cases_eq l i) [
                | inl same_place ↦ subst (λ (n : ℕ). AreLists plans keys paired n (receives_of plans keys h n) (joins (take (k + 1) numbers) n) u) (sym same_place) (subst (AreLists plans keys paired i (receives_of plans keys h i) (joins (take (k + 1) numbers) i)) (slice_get_written now i v u (subst (λ (n : ℕ). slice_get (slice_set now i v) n ≡ Some u) same_place e)) joined_list_after)
                | inr n ↦ other_lists_after_joining l u n (j.each l u (sym (slice_get_elsewhere now i l v n) ∙ e))
              ];
              found = j.found;
            }

    -- after all of them
    module _ (after : List PatternLists) (met : Option MatchEntry) (j : IsJoined plans keys h y (stands_in met (lists_for plans keys y)) (lists_for plans keys y) after met) where
      arrival_met : met ≡ find (λ (e : MatchEntry). not (paired e.op) && fits plans e.op y) (entries_of Post h)
      arrival_met =
          j.found ∙ find_by_equal_tests (meets (lists_for plans keys y)) (λ (e : MatchEntry). not (paired e.op) && fits plans e.op y) (entries_of Post h) (All-weaker (λ (e : MatchEntry). IsReceive plans e.op) (λ (e : MatchEntry). meets (lists_for plans keys y) e ≡ (not (paired e.op) && fits plans e.op y)) (λ e r. ap (λ (b : Bool). not (paired e.op) && b) (receive_fits_by_any_list_number plans keys e.op y r (m.listed e.op r))) (entries_of Post h) (posted_receives plans h m.actions))

      arrival_makes : new_pair plans (pairs plans h) h Arrive y ≡ option_map (λ (z : OpId). pair_of y z) (option_map (λ (e : MatchEntry). e.op) met)
      arrival_makes =
          ap (option_map (λ (z : OpId). pair_of y z)) (oldest_entry Post (λ (z : OpId). not (paired z)) (λ (z : OpId). fits plans z y) h ∙ ap (option_map (λ (e : MatchEntry). e.op)) (sym arrival_met))

      pub unmet_after_arrival : length (unmet_of plans (arrival_of plans keys h y ∷ h)) ≡ length (unmet_of plans h) + stood met
      unmet_after_arrival =
          ap length (unmet_arrival plans (arrival_of plans keys h y) h refl ∙ ap (λ (o : Option Pair). unmet_of plans h ++ (if is_none o then entry plans keys h y ∷ [] else [])) arrival_makes) ∙ length-append (unmet_of plans h) _ ∙ ap (λ (n : ℕ). length (unmet_of plans h) + n) (one met)
        where
          one : (o : Option MatchEntry) → length (if is_none (option_map (λ (z : OpId). pair_of y z) (option_map (λ (e : MatchEntry). e.op) o)) then entry plans keys h y ∷ [] else []) ≡ stood o
          one None = refl
          one (Some f) = refl

      pub arrival_answers : option_map (λ (e : MatchEntry). e.op) met ≡ receive_for plans h y
      arrival_answers = sym (ap (option_map (λ (p : Pair). p.recv)) arrival_makes ∙ receive_of_pairs y _)

      pub arrival_met_exists : IfSome met (λ (e : MatchEntry). IsOp plans e.op)
      arrival_met_exists = met_exists plans (entries_of Post h) _ met arrival_met (posted_exist plans h m.actions)

      pub arrival_keeps : (marks' : List Bool) → ArePaired (operations plans) y met marks marks' → length marks' ≡ length marks → Mirrors plans keys after marks' (arrival_of plans keys h y ∷ h)
      arrival_keeps marks' changes long = record {
        accepted = m.accepted;
        actions = (m.actions, arrival_is_new);
        listed = m.listed;
        one_each = j.one_each;
        each = λ l u e. let before = j.each l u e in record {
          receives = subst (λ (es : List MatchEntry). IsMatchList es (is_paired (pairs plans (arrival_of plans keys h y ∷ h))) (count_by (in_list plans keys l) (operations plans)) u.receives) (sym (receives_unchanged_by_arrival plans keys h y l)) (match_list_after_pairing _ _ _ u.receives before.receives _ (paired_stays plans (arrival_of plans keys h y) h));
          sends = subst (λ (es : List MatchEntry). IsMatchList es (is_paired (pairs plans (arrival_of plans keys h y ∷ h))) (count_by (for_list plans keys l) (operations plans)) u.sends) (sym (sends_after_arrival plans keys h y l met arrival_makes)) (match_list_after_pairing _ _ _ u.sends before.sends _ (paired_stays plans (arrival_of plans keys h y) h));
        };
        marked = paired_after plans (arrival_of plans keys h y) h marks marks' met (λ (z : OpId). pair_of y z) (λ z x. refl) arrival_makes m.marked changes;
        all_marks = omega (arith, m.all_marks, long);
      }
