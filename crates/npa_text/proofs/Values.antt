-- The value of digits, read up to a bound past which only it is known that the bound was passed.
use Rattle.std.proofs.Common.{◌≡◌, ℕ, ◌+◌, ◌-◌, ◌*◌, ◌<◌, ◌≤◌, min, List, [], ◌∷◌, length, get_or, drop, ap, ◌∙◌, arith, sym, inl, inr}
use Rattle.std.proofs.lemmas.Bool.{cases_lt}
use Rattle.std.proofs.lemmas.List.{drop_more}
use Rattle.npa_text.specs.Numerals.{value_after}

-- digits behind n stand for n at least
value_after_least : (n : ℕ) (ds : List ℕ) → n ≤ value_after n ds
value_after_least n [] = omega arith
value_after_least n (d ∷ ds) = omega (arith, value_after_least (n * 10 + (d - 48)) ds)

value_after_grows : (m n : ℕ) (ds : List ℕ) → m ≤ n → value_after m ds ≤ value_after n ds
value_after_grows m n [] h = h
value_after_grows m n (d ∷ ds) h =
    let step : m * 10 + (d - 48) ≤ n * 10 + (d - 48) = omega arith in
    value_after_grows (m * 10 + (d - 48)) (n * 10 + (d - 48)) ds step

capped : (n c : ℕ) (ds : List ℕ) → min (value_after (min n c) ds) c ≡ min (value_after n ds) c
capped n c ds = elim (cases_lt n c) [
  | inl h ↦ let e : min n c ≡ n = omega arith in ap (λ m. min (value_after m ds) c) e
  | inr h ↦ let e : min n c ≡ c = omega arith in
      omega (arith, value_after_least c ds, value_after_least n ds, ap (λ m. value_after m ds) e)
]

pub capped_more : (n c : ℕ) (xs : List ℕ) (i d : ℕ) → i < length xs
    → min (value_after (min (n * 10 + (get_or xs i d - 48)) c) (drop (i + 1) xs)) c ≡ min (value_after n (drop i xs)) c
capped_more n c xs i d h =
    capped (n * 10 + (get_or xs i d - 48)) c (drop (i + 1) xs) ∙ sym (ap (λ ds. min (value_after n ds) c) (drop_more xs i d h))
