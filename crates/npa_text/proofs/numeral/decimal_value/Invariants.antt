use Rattle.std.proofs.Common.{◌≡◌, ◌≤◌, drop, min}
use Rattle.npa_text.specs.Numerals.{value_after}
use Rattle.npa_text.proofs.numeral.decimal_value.Given as goal

abbrev pub invariant-loop-digit : goal.invariant-loop-digit
invariant-loop-digit l =
    (min (value_after l.value (drop l.digit-index l.digits)) 4294967296 ≡ min (value_after 0 l.digits) 4294967296) ×
    (l.value ≤ 4294967296)
