-- A numeral is the decimal text of its value, and the other way round.
use Rattle.std.proofs.Common.{◌≡◌, ℕ, suc, zero, ◌<◌, ◌≤◌, ◌^◌, Bool, true, false, List, [], ◌∷◌, length, get_or, refl, ap, arith, rules}
use Rattle.std.specs.Prelude.{nat_le, ◌&&◌}
use Rattle.std.specs.List.{list_all}
use Rattle.std.specs.Fmt.{decimal}
use Rattle.std.proofs.lemmas.Bool.Decides.{nat_tests}
use Rattle.std.proofs.lemmas.Str.Parse.{IsNumeralModel, numerals_by_fold}
use Rattle.std.proofs.lemmas.Fmt.{digits_decimal, digits_value-decimal, decimal-digits_value, decimal_nonempty, first_decimal, decimal_digit}
use Rattle.npa_text.specs.Bytes.{is_digit}
use Rattle.npa_text.specs.Numerals.{value_after, decimal_value, is_plain, is_numeral}

abbrev AllDigit : List ℕ → Type 0
AllDigit ds = list_all is_digit ds ≡ true

own : IsNumeralModel AllDigit (value_after 0)
own = numerals_by_fold AllDigit (search rules) value_after (search rules)

pub decimal_digits : (n : ℕ) → n < 2 ^ 64 → list_all is_digit (decimal n) ≡ true
decimal_digits n h = digits_decimal own n h

pub decimal_value_is : (n : ℕ) → n < 2 ^ 64 → decimal_value (decimal n) ≡ n
decimal_value_is n h = digits_value-decimal own n h

plain_above : (ds : List ℕ) → 0 < length ds → 48 < get_or ds 0 0 → is_plain ds ≡ true
plain_above [] h g = absurd (omega arith)
plain_above (d ∷ []) h g = refl
plain_above (d ∷ e ∷ ds) h g = grind (arith, nat_tests)

decimal_plain : (n : ℕ) → n < 2 ^ 64 → is_plain (decimal n) ≡ true
decimal_plain zero h = ap is_plain (decimal_digit 0 (omega arith))
decimal_plain (suc n) h = plain_above (decimal (suc n)) (decimal_nonempty (suc n) h) (first_decimal (suc n) (omega arith) h)

pub decimal_is_numeral : (least most n : ℕ) → least ≤ n → n ≤ most → n < 2 ^ 64 → is_numeral least most (decimal n) ≡ true
decimal_is_numeral least most n l m h =
    rw (decimal_plain n h, decimal_value_is n h) (grind (arith, nat_tests))

plain_zero : (ds : List ℕ) → is_plain ds ≡ true → (0 < length ds) × (get_or ds 0 0 ≡ 48 → length ds ≡ 1)
plain_zero [] h = absurd (cc)
plain_zero (d ∷ []) h = (omega arith, λ e. refl)
plain_zero (d ∷ e ∷ ds) h = (omega arith, λ f. grind (arith, nat_tests))

-- the parts of a test that is true
pub both_true : (a b : Bool) → (a && b) ≡ true → (a ≡ true) × (b ≡ true)
both_true true b h = (refl, h)
both_true false b h = absurd (cc)

pub numeral_is_decimal : (least most : ℕ) (ds : List ℕ) → most < 2 ^ 64 → list_all is_digit ds ≡ true → is_numeral least most ds ≡ true
    → (least ≤ decimal_value ds) × (decimal_value ds ≤ most) × (decimal (decimal_value ds) ≡ ds)
numeral_is_decimal least most ds w a h =
    let parts = both_true (is_plain ds && nat_le least (decimal_value ds)) (nat_le (decimal_value ds) most) h in
    let front = both_true (is_plain ds) (nat_le least (decimal_value ds)) parts.0 in
    let low : least ≤ decimal_value ds = grind (arith, nat_tests) in
    let high : decimal_value ds ≤ most = grind (arith, nat_tests) in
    let zero_first = plain_zero ds front.0 in
    (low, high, decimal-digits_value own ds a zero_first.0 zero_first.1 (omega arith))
