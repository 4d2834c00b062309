use Rattle.std.proofs.Common.{ℕ, ◌/◌, ◌<◌, List, Option, None, slice_set, sym, ap, ◌∙◌, length, arith}
use Rattle.std.proofs.lemmas.List.{get_or_default}
use Rattle.goal_certify.proofs.Turns.{length_turns, turns_taken, emptied_sound, left_sound}
use Rattle.goal_certify.proofs.walk.turns.Turns.take.Goals as goal

pub take_bit-requires : goal.take_bit-requires
take_bit-requires c = omega (arith, c.requires, ap length c.self.view_is, length_turns c.self.inside.words.items c.self.inside.count, c.self.invariant.room)

pub index-requires : goal.index-requires
index-requires c = omega (arith, c.requires, ap length c.self.view_is, length_turns c.self.inside.words.items c.self.inside.count, c.self.invariant.room, c.take_bit.ensures.many)

pub take_bit-requires-then-index-eq0 : goal.take_bit-requires-then-index-eq0
take_bit-requires-then-index-eq0 c = omega (arith, c.requires, ap length c.self.view_is, length_turns c.self.inside.words.items c.self.inside.count, c.self.invariant.room, c.self.invariant.heads_room)

pub invariant_of-self : goal.invariant_of-self
invariant_of-self c =
    let inside : c.args.place < c.self.inside.count = omega (arith, c.requires, ap length c.self.view_is, length_turns c.self.inside.words.items c.self.inside.count) in
    let word = c.index.ensures ∙ get_or_default c.take_bit.new.words.items (c.args.place / 64) _ 0 (omega (arith, inside, c.self.invariant.room, c.take_bit.ensures.many)) in
    emptied_sound c.self.inside.words.items c.self.inside.heads.items c.self.inside.count c.self.invariant c.args.place inside c.take_bit.new.words.items c.take_bit.ensures.many c.take_bit.ensures.others c.take_bit.ensures.words c.take_bit.ensures.off c.take_bit-then-index-eq0.new.words.items c.take_bit-then-index-eq0.ensures.many (sym word ∙ c.if-index-eq0.true) c.take_bit-then-index-eq0.ensures.off c.take_bit-then-index-eq0.ensures.others

pub invariant_of-self-else-index-eq0 : goal.invariant_of-self-else-index-eq0
invariant_of-self-else-index-eq0 c =
    let inside : c.args.place < c.self.inside.count = omega (arith, c.requires, ap length c.self.view_is, length_turns c.self.inside.words.items c.self.inside.count) in
    let word = c.index.ensures ∙ get_or_default c.take_bit.new.words.items (c.args.place / 64) _ 0 (omega (arith, inside, c.self.invariant.room, c.take_bit.ensures.many)) in
    left_sound c.self.inside.words.items c.self.inside.heads.items c.self.inside.count c.self.invariant c.args.place inside c.take_bit.new.words.items c.take_bit.ensures.many c.take_bit.ensures.others c.take_bit.ensures.words c.take_bit.ensures.off (λ e. c.if-index-eq0.false (word ∙ e)) c.take_bit.ensures.less

pub returns-then-index-eq0 : goal.returns-then-index-eq0
returns-then-index-eq0 c =
    let inside : c.args.place < c.self.inside.count = omega (arith, c.requires, ap length c.self.view_is, length_turns c.self.inside.words.items c.self.inside.count) in
    turns_taken c.self.inside.words.items c.take_bit.new.words.items c.self.inside.count c.args.place inside c.take_bit.ensures.off c.take_bit.ensures.others ∙ ap (λ (ks : List (Option ℕ)). slice_set ks c.args.place None) c.self.view_is

pub returns-else-index-eq0 : goal.returns-else-index-eq0
returns-else-index-eq0 c =
    let inside : c.args.place < c.self.inside.count = omega (arith, c.requires, ap length c.self.view_is, length_turns c.self.inside.words.items c.self.inside.count) in
    turns_taken c.self.inside.words.items c.take_bit.new.words.items c.self.inside.count c.args.place inside c.take_bit.ensures.off c.take_bit.ensures.others ∙ ap (λ (ks : List (Option ℕ)). slice_set ks c.args.place None) c.self.view_is
