use Rattle.std.proofs.Common.{ℕ, ◌<◌, List, Option, Some, slice_set, ap, ◌∙◌, length, arith}
use Rattle.goal_certify.proofs.Turns.{length_turns, turns_put, put_sound}
use Rattle.goal_certify.proofs.walk.turns.Turns.put.Goals as goal

pub put_bit-requires : goal.put_bit-requires
put_bit-requires c = omega (arith, c.requires, ap length c.self.view_is, length_turns c.self.inside.words.items c.self.inside.count, c.self.invariant.room)

pub put_bit-requires-2 : goal.put_bit-requires-2
put_bit-requires-2 c = omega (arith, c.requires, ap length c.self.view_is, length_turns c.self.inside.words.items c.self.inside.count, c.self.invariant.room, c.self.invariant.heads_room)

pub invariant_of-self : goal.invariant_of-self
invariant_of-self c =
    let inside : c.args.place < c.self.inside.count = omega (arith, c.requires, ap length c.self.view_is, length_turns c.self.inside.words.items c.self.inside.count) in
    put_sound c.self.inside.words.items c.self.inside.heads.items c.self.inside.count c.self.invariant c.args.place inside c.put_bit.new.words.items c.put_bit.ensures.many c.put_bit.ensures.others c.put_bit.ensures.words c.put_bit-2.new.words.items c.put_bit-2.ensures.many c.put_bit.ensures.on c.put_bit-2.ensures.on c.put_bit-2.ensures.others

pub returns : goal.returns
returns c =
    let inside : c.args.place < c.self.inside.count = omega (arith, c.requires, ap length c.self.view_is, length_turns c.self.inside.words.items c.self.inside.count) in
    turns_put c.self.inside.words.items c.put_bit.new.words.items c.self.inside.count c.args.place inside c.put_bit.ensures.on c.put_bit.ensures.others ∙ ap (λ (ks : List (Option ℕ)). slice_set ks c.args.place (Some c.args.place)) c.self.view_is
