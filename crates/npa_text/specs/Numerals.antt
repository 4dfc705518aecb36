-- Numbers in decimal digits.
use Rattle.std.specs.Prelude.{ℕ, Bool, true, false, ◌==◌, ◌&&◌, not, nat_le, ◌+◌, ◌-◌, ◌*◌, List, [], ◌∷◌, Option, None, Some, cond, length}
use Rattle.npa_text.specs.Bytes.{is_digit, run}

-- the number that digits stand for, behind digits that stand for n
abbrev pub value_after : ℕ → List ℕ → ℕ
value_after n [] = n
value_after n (d ∷ ds) = value_after (n * 10 + (d - 48)) ds

-- the number that decimal digits stand for
abbrev pub decimal_value : List ℕ → ℕ
decimal_value ds = value_after 0 ds

-- digits that are `0` alone or don't begin with `0`
abbrev pub is_plain : List ℕ → Bool
is_plain [] = false
is_plain (d ∷ []) = true
is_plain (d ∷ e ∷ ds) = not (d == 48)

-- digits without a leading zero that stand for a number from `least` to `most`
abbrev pub is_numeral : ℕ → ℕ → List ℕ → Bool
is_numeral least most ds = is_plain ds && nat_le least (decimal_value ds) && nat_le (decimal_value ds) most

-- the number of a word of digits without a leading zero, from `least` to `most`
abbrev pub numeral_in : ℕ → ℕ → List ℕ → Option ℕ
numeral_in least most word = cond (run is_digit word == length word) (cond (is_numeral least most word) (Some (decimal_value word)) None) None
