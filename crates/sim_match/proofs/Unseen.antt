-- What looks at match lists have not passed, as lists change.
use Rattle.std.proofs.Common.{ℕ, zero, suc, ◌+◌, ◌≤◌, ◌≡◌, List, [], ◌∷◌, length, Some, map, slice_get, slice_set, refl, arith, ap}
use Rattle.std.proofs.lemmas.Option.{none-some, same_Some}
use Rattle.std.proofs.lemmas.List.{length-append}
use Rattle.std.proofs.lemmas.List.Sums.{sum_by-cons}
use Rattle.sim_match.specs.declared.match_list.MatchEntry.{MatchEntry}
use Rattle.sim_match.specs.declared.capacities.Capacity.{Capacity}
use Rattle.sim_match.specs.declared.capacities.Side.{Side}
use Rattle.sim_match.specs.MatchLists.{MatchList, pushed, skipped_to}
use Rattle.sim_match.specs.Capacities.{empty_list}
use Rattle.sim_match.specs.Looks.{unseen_of, unseen}

unseen_with_head : (x : MatchList) (ls : List MatchList) → unseen (x ∷ ls) ≡ unseen_of x + unseen ls
unseen_with_head x ls = sum_by-cons unseen_of x ls

pub unseen_read : (ls : List MatchList) (i : ℕ) (w : MatchList) → slice_get ls i ≡ Some w → unseen_of w ≤ unseen ls
unseen_read [] i w e = absurd (none-some w e)
unseen_read (x ∷ ls) zero w e = omega (arith, ap unseen_of (same_Some x w e), unseen_with_head x ls)
unseen_read (x ∷ ls) (suc i) w e = omega (arith, unseen_read ls i w e, unseen_with_head x ls)

pub unseen_set : (ls : List MatchList) (i : ℕ) (w v : MatchList) → slice_get ls i ≡ Some w → unseen (slice_set ls i v) + unseen_of w ≡ unseen ls + unseen_of v
unseen_set [] i w v e = absurd (none-some w e)
unseen_set (x ∷ ls) zero w v e =
    let now : unseen (slice_set (x ∷ ls) 0 v) ≡ unseen_of v + unseen ls = unseen_with_head v ls in
    omega (arith, ap unseen_of (same_Some x w e), unseen_with_head x ls, now)
unseen_set (x ∷ ls) (suc i) w v e =
    let now : unseen (slice_set (x ∷ ls) (suc i) v) ≡ unseen_of x + unseen (slice_set ls i v) = unseen_with_head x (slice_set ls i v) in
    omega (arith, unseen_set ls i w v e, unseen_with_head x ls, now)

pub unseen_empty : (side : Side) (cs : List Capacity) → unseen (map (empty_list side) cs) ≡ 0
unseen_empty side [] = refl
unseen_empty side (c ∷ cs) =
    omega (arith, unseen_empty side cs, unseen_with_head (empty_list side c) (map (empty_list side) cs))

-- An entry joins one list, and the first that waits of another is found: two looks pay for both.
pub join_and_search_covered : (ps fs : List MatchList) (i : ℕ) (p f : MatchList) (entry : MatchEntry) (n before counted after : ℕ) → slice_get ps i ≡ Some p → slice_get fs i ≡ Some f → f.head ≤ length f.entries → n ≤ length f.entries → unseen ps + unseen fs ≤ before → counted ≡ before + 2 → counted + f.head ≤ after + n + 1 → unseen (slice_set ps i (pushed p entry)) + unseen (slice_set fs i (skipped_to f n)) ≤ after
join_and_search_covered ps fs i p f entry n before counted after e d low high covered two looks =
    let joins = unseen_set ps i p (pushed p entry) e in
    let found = unseen_set fs i f (skipped_to f n) d in
    let long = length-append p.entries (entry ∷ []) in
    omega (arith, joins, found, long, low, high, covered, two, looks)

-- The first that waits of a list is found: a look pays for it.
pub search_covered : (fs : List MatchList) (i : ℕ) (f : MatchList) (n others before counted after : ℕ) → slice_get fs i ≡ Some f → f.head ≤ length f.entries → n ≤ length f.entries → unseen fs + others ≤ before → counted ≡ before + 1 → counted + f.head ≤ after + n + 1 → unseen (slice_set fs i (skipped_to f n)) + others ≤ after
search_covered fs i f n others before counted after d low high covered one looks =
    let found = unseen_set fs i f (skipped_to f n) d in
    omega (arith, found, low, high, covered, one, looks)

-- An entry joins a list: a look pays for when it is passed.
pub join_covered : (ps : List MatchList) (i : ℕ) (p : MatchList) (entry : MatchEntry) (others before counted : ℕ) → slice_get ps i ≡ Some p → others + unseen ps ≤ before → counted ≡ before + 1 → others + unseen (slice_set ps i (pushed p entry)) ≤ counted
join_covered ps i p entry others before counted e covered one =
    let joins = unseen_set ps i p (pushed p entry) e in
    let long = length-append p.entries (entry ∷ []) in
    omega (arith, joins, long, covered, one)
