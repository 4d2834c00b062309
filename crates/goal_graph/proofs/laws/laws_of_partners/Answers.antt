-- Each law is a lemma.
use Rattle.goal_graph.specs.Matching.{pairs}
use Rattle.goal_graph.proofs.Persist.{partner_stays}
use Rattle.goal_graph.proofs.Rules.{fits_receive_and_send}
use Rattle.goal_graph.proofs.Ever.{data_paired, served_message}
use Rattle.goal_graph.proofs.Partners.{partners_mutual, partners_met, listed_partners}
use Rattle.goal_graph.proofs.Stages.{data_arrived, serve_posted}
use Rattle.goal_graph.proofs.Waiting.{never_both_wait}
use Rattle.goal_graph.proofs.Oldest.{oldest_is_first_in_reverse}
use Rattle.goal_graph.proofs.Members.{member_listed, partner_member, pair_of_member_unique}
use Rattle.goal_graph.proofs.laws.laws_of_partners.Goals as goal

pub returns-clause-partner_stays : goal.returns-clause-partner_stays
returns-clause-partner_stays c = partner_stays

pub returns-clause-partners_are_mutual : goal.returns-clause-partners_are_mutual
returns-clause-partners_are_mutual c = partners_mutual

pub returns-clause-partners_have_met : goal.returns-clause-partners_have_met
returns-clause-partners_have_met c = partners_met

pub returns-clause-fits_are_receive_and_send : goal.returns-clause-fits_are_receive_and_send
returns-clause-fits_are_receive_and_send c = fits_receive_and_send

pub returns-clause-pairs_are_partners : goal.returns-clause-pairs_are_partners
returns-clause-pairs_are_partners c = λ plans eager h p i l. listed_partners plans eager h p i (member_listed p (pairs plans h) l)

pub returns-clause-partners_are_paired : goal.returns-clause-partners_are_paired
returns-clause-partners_are_paired c = λ plans h x y e. partner_member (pairs plans h) x y e

pub returns-clause-one_pair : goal.returns-clause-one_pair
returns-clause-one_pair c = pair_of_member_unique

pub returns-clause-data_after_pairing : goal.returns-clause-data_after_pairing
returns-clause-data_after_pairing c = λ plans eager h m i e. (data_paired plans eager h m i e, data_arrived plans eager h m i e)

pub returns-clause-serves_after_post : goal.returns-clause-serves_after_post
returns-clause-serves_after_post c = λ plans eager h x i e. (serve_posted plans eager h x i e, served_message plans eager h x i e)

pub returns-clause-never_both_wait : goal.returns-clause-never_both_wait
returns-clause-never_both_wait c = never_both_wait

pub returns-clause-read_oldest_first : goal.returns-clause-read_oldest_first
returns-clause-read_oldest_first c = oldest_is_first_in_reverse
