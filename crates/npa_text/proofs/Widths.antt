-- Each piece of a text stands on one line: its bytes behind the first are none of them a line feed.
use Rattle.std.proofs.Common.{◌≡◌, ℕ, ◌+◌, ◌≤◌, Bool, true, false, cond, Option, Some, None, List, [], ◌∷◌, take, refl, arith, subst}
use Rattle.std.specs.Prelude.{◌==◌}
use Rattle.npa_text.specs.declared.token.Kind.{Kind}
use Rattle.npa_text.specs.declared.token.Kind.TheVariants.{Word, Number, FreshName, VariableMark, Minus, Arrow}
use Rattle.std.proofs.lemmas.Bool.Decides.{nat_tests}
use Rattle.npa_text.specs.Bytes.{is_letter, is_digit, is_word_byte, is_in_line, is_blank, run, begins_with}
use Rattle.npa_text.specs.Numerals.{is_numeral}
use Rattle.npa_text.specs.Lexing.{begins_comment}
use Rattle.npa_text.specs.Scans.{token_of, gap_of, numbered, marked, mark_of}

digit_in_line : (b : ℕ) → is_digit b ≡ true → is_in_line b ≡ true
digit_in_line b h = grind (arith, nat_tests)

word_byte_in_line : (b : ℕ) → is_word_byte b ≡ true → is_in_line b ≡ true
word_byte_in_line b h = grind (arith, nat_tests)

run_le : (p q : ℕ → Bool) → ((b : ℕ) → p b ≡ true → q b ≡ true) → (bs : List ℕ) → run p bs ≤ run q bs
run_le p q h [] = omega arith
run_le p q h (b ∷ bs) =
    elim (p b) as (λ v. p b ≡ v → cond v (run p bs + 1) 0 ≤ cond (q b) (run q bs + 1) 0) [
      | true ↦ λ e. rw (h b e) (omega (arith, run_le p q h bs))
      | false ↦ λ e. omega arith
    ] refl

-- the second part of a found pair is at most m
abbrev Within : ℕ → Option (Kind × ℕ) → Type 0
Within m (Some t) = t.1 ≤ m
Within m None = Unit {0}

either : (m : ℕ) (b : Bool) (x y : Option (Kind × ℕ)) → Within m x → Within m y → Within m (cond b x y)
either m true x y p q = p
either m false x y p q = q

numbered_within : (k : Kind) (n m : ℕ) (b : Bool) → n ≤ m → Within m (numbered k n b)
numbered_within k n m true h = h
numbered_within k n m false h = tt

marked_within : (m : ℕ) (o : Option Kind) → Within m (marked o)
marked_within m (Some k) = omega arith
marked_within m None = tt

arrow_within : (bs : List ℕ) → Within (run is_in_line bs) (cond (begins_with 62 bs) (Some (Arrow, 1)) (Some (Minus, 0)))
arrow_within [] = omega arith
arrow_within (b ∷ bs) =
    elim (b == 62) as (λ v. b == 62 ≡ v → Within (cond (is_in_line b) (run is_in_line bs + 1) 0) (cond v (Some (Arrow, 1)) (Some (Minus, 0)))) [
      | true ↦ λ e. let f : is_in_line b ≡ true = grind (arith, nat_tests) in rw f (omega arith)
      | false ↦ λ e. omega arith
    ] refl

pub token_within : (b : ℕ) (bs : List ℕ) → Within (run is_in_line bs) (token_of b bs)
token_within b bs =
    let m = run is_in_line bs in
    let n = run is_digit bs in
    let digits : n ≤ m = run_le is_digit is_in_line digit_in_line bs in
    let letters : run is_word_byte bs ≤ m = run_le is_word_byte is_in_line word_byte_in_line bs in
    let word : Option (Kind × ℕ) = Some (Word, run is_word_byte bs) in
    let plain = is_numeral 0 4294967295 (b ∷ take n bs) in
    let named = is_numeral 0 4294967295 (take n bs) in
    let counted = is_numeral 1 1000000 (take n bs) in
    let arrow : Option (Kind × ℕ) = cond (begins_with 62 bs) (Some (Arrow, 1)) (Some (Minus, 0)) in
    let mark = marked (mark_of b) in
    let from_minus = cond (b == 45) arrow mark in
    let from_query = cond (b == 63) (numbered VariableMark n counted) from_minus in
    let from_hash = cond (b == 35) (numbered FreshName n named) from_query in
    let from_digit = cond (is_digit b) (numbered Number n plain) from_hash in
    either m (is_letter b) word from_digit letters
    (either m (is_digit b) (numbered Number n plain) from_hash (numbered_within Number n m plain digits)
    (either m (b == 35) (numbered FreshName n named) from_query (numbered_within FreshName n m named digits)
    (either m (b == 63) (numbered VariableMark n counted) from_minus (numbered_within VariableMark n m counted digits)
    (either m (b == 45) arrow mark (arrow_within bs) (marked_within m (mark_of b))))))

pub gap_within : (b n : ℕ) (bs : List ℕ) → gap_of b bs ≡ Some n → n ≤ run is_in_line bs
gap_within b n bs =
    elim (is_blank b) as (λ v. cond v (Some 0) (cond (begins_comment b bs) (Some (run is_in_line bs)) None) ≡ Some n → n ≤ run is_in_line bs) [
      | true ↦ λ e. let f : 0 ≡ n = cc in omega arith
      | false ↦ elim (begins_comment b bs) as (λ v. cond v (Some (run is_in_line bs)) None ≡ Some n → n ≤ run is_in_line bs) [
        | true ↦ λ e. let f : run is_in_line bs ≡ n = cc in omega arith
        | false ↦ λ e. absurd (cc)
      ]
    ]

pub lexeme_within : (b : ℕ) (bs : List ℕ) (k : Kind) (n : ℕ) → token_of b bs ≡ Some (k, n) → n ≤ run is_in_line bs
lexeme_within b bs k n e =
    let P : Option (Kind × ℕ) → Type 0 = λ o. Within (run is_in_line bs) o in subst P e (token_within b bs)
