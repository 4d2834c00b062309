-- Each law is a lemma.
use Rattle.goal_blocks.proofs.AllowedAlike.{allowed_alike, interleaving_from, interleaving_into, complete_from, complete_into}
use Rattle.goal_blocks.proofs.RenamedValues.{held_under}
use Rattle.std.proofs.Common.{ap}
use Rattle.goal_blocks.specs.Values.{Held}
use Rattle.goal_blocks.proofs.RenamedNotes.{renamed_is, renamed_back}
use Rattle.goal_blocks.proofs.RenamedRight.{renamed_right}
use Rattle.goal_blocks.proofs.RenamedCertified.{renamed_certified}
use Rattle.goal_blocks.proofs.laws.laws_of_renamed_slots.Goals as goal

pub returns-clause-renamed_is_renamed : goal.returns-clause-renamed_is_renamed
returns-clause-renamed_is_renamed c = λ name plans. renamed_is name plans

pub returns-clause-renamed_back : goal.returns-clause-renamed_back
returns-clause-renamed_back c = λ name old plans other undone is. renamed_back name old plans other undone is

pub returns-clause-renamed_is_allowed_alike : goal.returns-clause-renamed_is_allowed_alike
returns-clause-renamed_is_allowed_alike c = λ name plans other eager h class x is. allowed_alike plans other is.ops is.needs eager h class x

pub returns-clause-renamed_interleaves_alike : goal.returns-clause-renamed_interleaves_alike
returns-clause-renamed_interleaves_alike c = λ name plans other eager h is. ((interleaving_into plans other is.ops is.needs eager h, interleaving_from plans other is.ops is.needs eager h), (complete_into plans other is.ops is.needs eager h, complete_from plans other is.ops is.needs eager h))

pub returns-clause-renamed_holds_alike : goal.returns-clause-renamed_holds_alike
returns-clause-renamed_holds_alike c = λ name old plans other eager first h undone is. let same = held_under name old undone plans other is eager first h in (ap (λ (held : Held). held.store) same, ap (λ (held : Held). held.payload) same)

pub returns-clause-renamed_is_right : goal.returns-clause-renamed_is_right
returns-clause-renamed_is_right c = λ name old plans other first wanted undone is. renamed_right name old plans other first wanted undone is

pub returns-clause-renamed_is_certified : goal.returns-clause-renamed_is_certified
returns-clause-renamed_is_certified c = λ name old plans first wanted undone low low_old small. renamed_certified name old plans first wanted undone low low_old small
