use Rattle.std.proofs.Common.{◌+◌, List, length, map, slice_get, slice_set, refl, arith, ap, ◌∙◌}
use Rattle.std.proofs.lemmas.List.{length-set}
use Rattle.sim_match.specs.MatchLists.{MatchList, pushed}
use Rattle.sim_match.specs.Packed.{stretch, list_at}
use Rattle.sim_match.proofs.Packing.{list_of_number_unique, list_pushed, push_place_fits, span_within, end_of, stretch_read, stretch_written, packed_written}
use Rattle.sim_match.proofs.match_lists.MatchLists.push.Goals as goal

pub index-span-requires : goal.index-span-requires
index-span-requires c =
    let within = span_within _ _ _ c.args.list c.self.view_is c.requires.within in
    omega (arith, within, c.self.inside.spans.ok.0)

pub index_mut-requires : goal.index_mut-requires
index_mut-requires c =
    let at = stretch_read _ _ _ c.args.list _ c.self.view_is c.requires.within c.index-span.ensures in
    let below = push_place_fits _ _ _ c.args.list _ c.self.invariant at c.self.view_is c.requires.room in
    let within = c.self.invariant.within c.args.list _ at in
    omega (arith, below, within, c.self.inside.entries.ok.0)

pub index_mut-requires-2 : goal.index_mut-requires-2
index_mut-requires-2 c =
    let within = span_within _ _ _ c.args.list c.self.view_is c.requires.within in
    omega (arith, within, c.self.inside.spans.ok.0)

pub overflow_add-span : goal.overflow_add-span
overflow_add-span c =
    let at = stretch_read _ _ _ c.args.list _ c.self.view_is c.requires.within c.index-span.ensures in
    let fits = c.self.invariant.fits c.args.list _ at in
    let within = c.self.invariant.within c.args.list _ at in
    omega (arith, fits, within, c.self.invariant.few)

pub overflow_add-span-2 : goal.overflow_add-span-2
overflow_add-span-2 c =
    let at = stretch_read _ _ _ c.args.list _ c.self.view_is c.requires.within c.index-span.ensures in
    let below = push_place_fits _ _ _ c.args.list _ c.self.invariant at c.self.view_is c.requires.room in
    let within = c.self.invariant.within c.args.list _ at in
    omega (arith, below, within, c.self.invariant.few)

pub invariant_of-self : goal.invariant_of-self
invariant_of-self c =
    let at = stretch_read _ _ _ c.args.list _ c.self.view_is c.requires.within c.index-span.ensures in
    let below = push_place_fits _ _ _ c.args.list _ c.self.invariant at c.self.view_is c.requires.room in
    let long = length-set c.self.inside.entries.items (c.index-span.result.now.start + c.index-span.result.now.len) c.args.entry in
    packed_written _ _ _ c.args.list _ c.self.view_is c.requires.within c.index-span.ensures c.self.invariant _ _ refl long (omega (arith, below))

pub returns : goal.returns
returns c = λ w e.
    let its = stretch c.index-span.result.now (end_of c.self.inside.spans.items (length c.self.inside.entries.items) c.args.list) in
    let at = stretch_read _ _ _ c.args.list _ c.self.view_is c.requires.within c.index-span.ensures in
    let below = push_place_fits _ _ _ c.args.list _ c.self.invariant at c.self.view_is c.requires.room in
    let long = length-set c.self.inside.entries.items (c.index-span.result.now.start + c.index-span.result.now.len) c.args.entry in
    let written = stretch_written _ _ _ c.args.list _ c.self.view_is c.requires.within c.index-span.ensures _ _ refl long in
    let is = list_of_number_unique _ _ c.self.invariant c.args.list _ at w (ap (λ (ws : List MatchList). slice_get ws c.args.list) c.self.view_is ∙ e) in
    ap (map (list_at _)) written ∙ list_pushed _ _ c.self.invariant c.args.list _ at c.args.entry (c.index-span.result.now.start + c.index-span.result.now.len) refl below ∙ ap (λ (ws : List MatchList). slice_set ws c.args.list (pushed (list_at c.self.inside.entries.items its) c.args.entry)) c.self.view_is ∙ ap (λ (v : MatchList). slice_set c.args.self.now c.args.list (pushed v c.args.entry)) is
