use Rattle.std.proofs.lemmas.Result.{on_ok_weaker}
use Rattle.goal_binary.proofs.Appended.{append_of_four_pieces}
use Rattle.goal_binary.proofs.encoding.put_slots.Goals as goal

pub returns : goal.returns
returns c =
    on_ok_weaker c.put_u32-4.result (λ last. append_of_four_pieces c.args.out.now.items _ _ _ _ _ _ _ _ c.in_ok-put_u32.ensures c.in_ok-put_u32-2.ensures c.in_ok-put_u32-3.ensures last) c.put_u32-4.ensures
