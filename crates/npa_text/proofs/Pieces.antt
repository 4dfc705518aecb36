-- The front of a text, as the code cuts it.
use Rattle.std.proofs.Common.{◌≡◌, ℕ, ◌+◌, ◌-◌, ◌≤◌, true, false, List, ◌∷◌, length, get_or, take, drop, ap, ◌∙◌, arith, sym}
use Rattle.std.proofs.lemmas.List.{take_rest, drop_more}
use Rattle.npa_text.specs.declared.token.Kind.TheVariants.{Number}
use Rattle.npa_text.specs.Bytes.{is_letter, is_digit, run}
use Rattle.npa_text.specs.Numerals.{is_numeral}
use Rattle.npa_text.specs.Scans.{token_of, token_at, numbered}

-- the first byte, and the rest as a pattern gives it
pub front : (d : ℕ) (bs : List ℕ) → 1 ≤ length bs → bs ≡ get_or bs 0 d ∷ take (length bs - 1) (drop 1 bs)
front d bs h = drop_more bs 0 d h ∙ ap (λ cs. get_or bs 0 d ∷ cs) (sym (take_rest bs 1))

pub front_more : (d n : ℕ) (bs : List ℕ) → 1 ≤ length bs → take (n + 1) bs ≡ get_or bs 0 d ∷ take n (take (length bs - 1) (drop 1 bs))
front_more d n bs h = ap (take (n + 1)) (front d bs h) ∙ grind arith

-- digits at the front of a text are a number, if they are a numeral
number_is : (b : ℕ) (rest : List ℕ) → is_letter b ≡ false → is_digit b ≡ true
    → token_of b rest ≡ numbered Number (run is_digit rest) (is_numeral 0 4294967295 (b ∷ take (run is_digit rest) rest))
number_is b rest l g = rw (l, g)

pub number_front : (d digits : ℕ) (text : List ℕ) → 1 ≤ length text
    → digits ≡ run is_digit (take (length text - 1) (drop 1 text))
    → is_letter (get_or text 0 d) ≡ false → is_digit (get_or text 0 d) ≡ true
    → numbered Number digits (is_numeral 0 4294967295 (take (digits + 1) text)) ≡ token_at text
number_front d digits text h e l g =
    let b = get_or text 0 d in
    let rest = take (length text - 1) (drop 1 text) in
    sym (ap token_at (front d text h) ∙ number_is b rest l g
    ∙ ap (λ n. numbered Number n (is_numeral 0 4294967295 (b ∷ take n rest))) (sym e)
    ∙ ap (λ ds. numbered Number digits (is_numeral 0 4294967295 ds)) (sym (front_more d digits text h)))
