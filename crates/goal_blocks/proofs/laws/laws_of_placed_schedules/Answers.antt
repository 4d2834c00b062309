-- Each law is a lemma.
use Rattle.std.proofs.Common.{length}
use Rattle.goal_blocks.proofs.PlacedAlike.{allowed_placed, run_into, run_from, all_into, all_from}
use Rattle.goal_blocks.proofs.PlacedValues.{held_placed}
use Rattle.goal_blocks.proofs.PlacedPlans.{placed_plans_are_placed}
use Rattle.goal_blocks.proofs.PlacedRight.{placed_right}
use Rattle.goal_blocks.proofs.PlacedCertified.{placed_certified}
use Rattle.goal_blocks.proofs.PlacedCollectives.{placed_for_right}
use Rattle.goal_blocks.proofs.laws.laws_of_placed_schedules.Goals as goal

pub returns-clause-placed_is_allowed_alike : goal.returns-clause-placed_is_allowed_alike
returns-clause-placed_is_allowed_alike c = λ to back plans other eager h class x perm is. allowed_placed (length plans) to back perm plans other is.ops eager is.needs h class x

pub returns-clause-placed_interleaves_alike : goal.returns-clause-placed_interleaves_alike
returns-clause-placed_interleaves_alike c = λ to back plans other eager h perm is. ((run_into (length plans) to back perm plans other is.ops eager is.needs h, run_from (length plans) to back perm plans other is.ops eager is.needs h), (all_into (length plans) to back perm plans other is.ops eager is.needs h, all_from (length plans) to back perm plans other is.ops eager is.needs h))

pub returns-clause-placed_is_placed : goal.returns-clause-placed_is_placed
returns-clause-placed_is_placed c = λ to back plans perm. placed_plans_are_placed to back plans perm

pub returns-clause-placed_holds_alike : goal.returns-clause-placed_holds_alike
returns-clause-placed_holds_alike c = λ to back plans other label eager first start h perm is starts rank slot. (held_placed label (length plans) to back perm plans other is eager first start starts h).stores rank slot

pub returns-clause-placed_is_right : goal.returns-clause-placed_is_right
returns-clause-placed_is_right c = λ to back plans other label first start wanted wish perm is starts asks right. placed_right to back plans other label first start wanted wish perm is starts asks right

pub returns-clause-placed_is_certified : goal.returns-clause-placed_is_certified
returns-clause-placed_is_certified c = λ to back plans label first start wanted wish perm starts asks light certified. placed_certified to back plans perm label first start wanted wish starts asks light certified

pub returns-clause-placed_collective_is_right : goal.returns-clause-placed_collective_is_right
returns-clause-placed_collective_is_right c = λ what to back plans perm can right. placed_for_right what to back plans perm can right
