use Rattle.std.proofs.Common.{◌≡◌, ◌<◌, ◌≤◌, ◌^◌, drop, length, true}
use Rattle.std.specs.List.{list_all}
use Rattle.std.specs.Char.{is_ascii_digit}
use Rattle.std.specs.Str.Parse.{digits_value, digits_value_after}
use Rattle.goal_base.proofs.numeral.numeral_value.Given as goal

-- the value of the digits so far, which the others follow
abbrev pub invariant-loop-digit : goal.invariant-loop-digit
invariant-loop-digit l = (digits_value 10 l.word ≡ digits_value_after 10 l.value (drop l.digit-index l.word)) × (l.value < 10 ^ l.digit-index) × (list_all is_ascii_digit l.word ≡ true) × (length l.word ≤ 20)
