-- Each law is a lemma.
use Rattle.goal_blocks.proofs.Exchange.{exchange_of_first_block, exchange_of_slot_in_block, exchange_twice, exchange_with_first_block}
use Rattle.goal_blocks.proofs.Segments.{exchanged_certified, slot_holds, block_holds, segments_right, blocks_right}
use Rattle.goal_blocks.proofs.laws.laws_of_segments.Goals as goal

pub returns-clause-exchange_undoes_itself : goal.returns-clause-exchange_undoes_itself
returns-clause-exchange_undoes_itself c = λ width block slot. exchange_twice width block slot

pub returns-clause-blocks_are_exchanged : goal.returns-clause-blocks_are_exchanged
returns-clause-blocks_are_exchanged c = λ width block slot low. (exchange_of_first_block width block slot low, exchange_of_slot_in_block width block slot low)

pub returns-clause-exchanged_is_certified : goal.returns-clause-exchanged_is_certified
returns-clause-exchanged_is_certified c = λ what width block plans fits small. exchanged_certified what width block plans fits small

pub returns-clause-slot_holds_wanted : goal.returns-clause-slot_holds_wanted
returns-clause-slot_holds_wanted c = λ what k plans eager h certified done. slot_holds what k plans eager h certified done

pub returns-clause-block_holds_wanted : goal.returns-clause-block_holds_wanted
returns-clause-block_holds_wanted c = λ what width block plans eager h certified done. block_holds what width plans eager h done block certified

pub returns-clause-segments_in_one_run : goal.returns-clause-segments_in_one_run
returns-clause-segments_in_one_run c = λ what width count plans each. segments_right what width count plans each

pub returns-clause-blocks_in_one_run : goal.returns-clause-blocks_in_one_run
returns-clause-blocks_in_one_run c = λ what width count plans each. blocks_right what width count plans each

pub returns-clause-first_block_stays : goal.returns-clause-first_block_stays
returns-clause-first_block_stays c = λ width slot. exchange_with_first_block width slot
