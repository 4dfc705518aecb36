-- The text and the number of a token.
use Rattle.std.specs.Prelude.{ℕ, ◌-◌, min, List, [], ◌∷◌, take, drop, if◌then◌else◌}
use Rattle.npa_text.specs.declared.token.Token.{Token}
use Rattle.npa_text.specs.Bytes.{is_digit}
use Rattle.npa_text.specs.Numerals.{decimal_value}

-- the bytes of the token's span
abbrev pub text_of : List ℕ → Token → List ℕ
text_of bytes t = take (t.end - t.start) (drop t.start bytes)

-- a numeral without the `#` or `?` in front
abbrev pub digits_in : List ℕ → List ℕ
digits_in [] = []
digits_in (b ∷ bs) = if is_digit b then b ∷ bs else bs

-- the number that the token's digits stand for; those of a token of a text stand for less than 2 ^ 32
abbrev pub number_of : List ℕ → Token → ℕ
number_of bytes t = min (decimal_value (digits_in (text_of bytes t))) 4294967295
