-- What is found at a byte is a token of the table, and each token of the table is found.
use Rattle.std.proofs.Common.{◌≡◌, ℕ, ◌<◌, ◌≤◌, ◌^◌, Bool, true, false, cond, Option, Some, None, List, [], ◌∷◌, ◌++◌, length, take, drop, refl, ap, ◌∙◌, arith, sym, subst, lit<}
use Rattle.std.specs.Prelude.{◌==◌, not, ◌||◌}
use Rattle.std.specs.List.{list_all}
use Rattle.std.specs.Fmt.{decimal}
use Rattle.std.proofs.lemmas.Bool.Decides.{nat_tests}
use Rattle.std.proofs.lemmas.Fmt.{decimal_nonempty}
use Rattle.std.proofs.lemmas.List.{take_at}
use Rattle.npa_text.specs.declared.token.Kind.{Kind}
use Rattle.npa_text.specs.declared.token.Kind.TheVariants.{Word, Number, FreshName, VariableMark, Open, Close, Comma, Colon, Semicolon, Equals, Less, Plus, Minus, Arrow}
use Rattle.npa_text.specs.Bytes.{is_blank, is_letter, is_digit, is_word_byte, is_in_line, run, begins_with}
use Rattle.npa_text.specs.Numerals.{decimal_value, is_numeral}
use Rattle.npa_text.specs.Lexemes.{Spells, word, number, fresh_name, variable_mark, mark, mark_text, goes_on, is_ended}
use Rattle.npa_text.specs.Lexing.{begins_comment}
use Rattle.npa_text.specs.Scans.{token_of, gap_of, numbered, marked, mark_of}
use Rattle.npa_text.proofs.Runs.{run_passes, run_is_past, run_of_passing, is_past}
use Rattle.npa_text.proofs.Decimals.{decimal_digits, decimal_is_numeral, numeral_is_decimal, both_true}

pub same_byte : (a b : ℕ) → a == b ≡ true → a ≡ b
same_byte a b h = grind (arith, nat_tests)

ended_is : (k : Kind) (rest : List ℕ) → is_ended k rest ≡ is_past (goes_on k) rest
ended_is k [] = refl
ended_is k (b ∷ bs) = refl

-- a found token is spelled by its bytes and ends where they end
Spelt : ℕ → List ℕ → Option (Kind × ℕ) → Type 0
Spelt b bs (Some t) = Spells t.0 (b ∷ take t.1 bs) × (is_ended t.0 (drop t.1 bs) ≡ true)
Spelt b bs None = Unit {0}

either : (b : ℕ) (bs : List ℕ) (v : Bool) (x y : Option (Kind × ℕ)) → (v ≡ true → Spelt b bs x) → (v ≡ false → Spelt b bs y) → Spelt b bs (cond v x y)
either b bs true x y p q = p refl
either b bs false x y p q = q refl

numbered_spelt : (b : ℕ) (bs : List ℕ) (k : Kind) (n : ℕ) (v : Bool) → (v ≡ true → Spells k (b ∷ take n bs)) → is_ended k (drop n bs) ≡ true
    → Spelt b bs (numbered k n v)
unfolding Spelt
numbered_spelt b bs k n true p e = (p refl, e)
numbered_spelt b bs k n false p e = tt

word_spelt : (b : ℕ) (bs : List ℕ) → is_letter b ≡ true → Spelt b bs (Some (Word, run is_word_byte bs))
unfolding Spelt
word_spelt b bs h = (
  word b (take (run is_word_byte bs) bs) h (run_passes is_word_byte bs),
  ended_is Word (drop (run is_word_byte bs) bs) ∙ run_is_past is_word_byte bs,
)

number_spelt : (b : ℕ) (bs : List ℕ) → is_digit b ≡ true
    → Spelt b bs (numbered Number (run is_digit bs) (is_numeral 0 4294967295 (b ∷ take (run is_digit bs) bs)))
number_spelt b bs h =
    let n = run is_digit bs in
    let ds = b ∷ take n bs in
    let digits : list_all is_digit ds ≡ true = rw h (run_passes is_digit bs) in
    numbered_spelt b bs Number n (is_numeral 0 4294967295 ds)
    (λ v. let d = numeral_is_decimal 0 4294967295 ds (lit< tt) digits v in
    subst (λ cs. Spells Number cs) d.2 (number (decimal_value ds) d.1))
    (ended_is Number (drop n bs) ∙ run_is_past is_digit bs)

fresh_spelt : (b : ℕ) (bs : List ℕ) → b == 35 ≡ true
    → Spelt b bs (numbered FreshName (run is_digit bs) (is_numeral 0 4294967295 (take (run is_digit bs) bs)))
fresh_spelt b bs h =
    let n = run is_digit bs in
    let ds = take n bs in
    numbered_spelt b bs FreshName n (is_numeral 0 4294967295 ds)
    (λ v. let d = numeral_is_decimal 0 4294967295 ds (lit< tt) (run_passes is_digit bs) v in
    subst (λ c. Spells FreshName (c ∷ ds)) (sym (same_byte b 35 h))
    (subst (λ cs. Spells FreshName (35 ∷ cs)) d.2 (fresh_name (decimal_value ds) d.1)))
    (ended_is FreshName (drop n bs) ∙ run_is_past is_digit bs)

variable_spelt : (b : ℕ) (bs : List ℕ) → b == 63 ≡ true
    → Spelt b bs (numbered VariableMark (run is_digit bs) (is_numeral 1 1000000 (take (run is_digit bs) bs)))
variable_spelt b bs h =
    let n = run is_digit bs in
    let ds = take n bs in
    numbered_spelt b bs VariableMark n (is_numeral 1 1000000 ds)
    (λ v. let d = numeral_is_decimal 1 1000000 ds (lit< tt) (run_passes is_digit bs) v in
    subst (λ c. Spells VariableMark (c ∷ ds)) (sym (same_byte b 63 h))
    (subst (λ cs. Spells VariableMark (63 ∷ cs)) d.2 (variable_mark (decimal_value ds) d.0 d.1)))
    (ended_is VariableMark (drop n bs) ∙ run_is_past is_digit bs)

arrow_spelt : (b : ℕ) (bs : List ℕ) → b == 45 ≡ true → Spelt b bs (cond (begins_with 62 bs) (Some (Arrow, 1)) (Some (Minus, 0)))
unfolding Spelt
arrow_spelt b [] h = (mark Minus (b ∷ []) (ap (λ c. Some (c ∷ [])) (sym (same_byte b 45 h))), refl)
arrow_spelt b (c ∷ cs) h =
    elim (c == 62) as (λ v. c == 62 ≡ v → Spelt b (c ∷ cs) (cond v (Some (Arrow, 1)) (Some (Minus, 0)))) [
      | true ↦ λ e. (
        mark Arrow (b ∷ c ∷ []) (ap (λ x. Some (x ∷ 62 ∷ [])) (sym (same_byte b 45 h)) ∙ ap (λ x. Some (b ∷ x ∷ [])) (sym (same_byte c 62 e))),
        ended_arrow cs,
      )
      | false ↦ λ e. (mark Minus (b ∷ []) (ap (λ x. Some (x ∷ [])) (sym (same_byte b 45 h))), ap not e)
    ] refl
  where
    ended_arrow : (cs : List ℕ) → is_ended Arrow cs ≡ true
    ended_arrow [] = refl
    ended_arrow (d ∷ ds) = refl

-- a mark of one byte
Marked : ℕ → Option Kind → Type 0
Marked b (Some k) = (mark_text k ≡ Some (b ∷ [])) × ((c : ℕ) → goes_on k c ≡ false)
Marked b None = Unit {0}

mark_either : (b a : ℕ) (k : Kind) (o : Option Kind) → mark_text k ≡ Some (a ∷ []) → ((c : ℕ) → goes_on k c ≡ false) → Marked b o
    → Marked b (cond (b == a) (Some k) o)
unfolding Marked
mark_either b a k o t g h =
    elim (b == a) as (λ v. b == a ≡ v → Marked b (cond v (Some k) o)) [
      | true ↦ λ e. (t ∙ ap (λ x. Some (x ∷ [])) (sym (same_byte b a e)), g)
      | false ↦ λ e. h
    ] refl

mark_of_marked : (b : ℕ) → Marked b (mark_of b)
unfolding Marked
mark_of_marked b =
    mark_either b 40 Open _ refl (λ c. refl) (mark_either b 41 Close _ refl (λ c. refl) (mark_either b 44 Comma _ refl (λ c. refl)
    (mark_either b 58 Colon _ refl (λ c. refl) (mark_either b 59 Semicolon _ refl (λ c. refl) (mark_either b 61 Equals _ refl (λ c. refl)
    (mark_either b 60 Less _ refl (λ c. refl) (mark_either b 43 Plus None refl (λ c. refl) tt)))))))

mark_spelt : (b : ℕ) (bs : List ℕ) (o : Option Kind) → Marked b o → Spelt b bs (marked o)
unfolding Spelt Marked
mark_spelt b bs (Some k) h = (mark k (b ∷ []) h.0, ended bs)
  where
    ended : (cs : List ℕ) → is_ended k cs ≡ true
    ended [] = refl
    ended (c ∷ cs) = ap not (h.1 c)
mark_spelt b bs None h = tt

token_spelt : (b : ℕ) (bs : List ℕ) → Spelt b bs (token_of b bs)
token_spelt b bs =
    let n = run is_digit bs in
    let letters : Option (Kind × ℕ) = Some (Word, run is_word_byte bs) in
    let numbers = numbered Number n (is_numeral 0 4294967295 (b ∷ take n bs)) in
    let names = numbered FreshName n (is_numeral 0 4294967295 (take n bs)) in
    let variables = numbered VariableMark n (is_numeral 1 1000000 (take n bs)) in
    let arrow : Option (Kind × ℕ) = cond (begins_with 62 bs) (Some (Arrow, 1)) (Some (Minus, 0)) in
    let marks = marked (mark_of b) in
    let from_minus = cond (b == 45) arrow marks in
    let from_query = cond (b == 63) variables from_minus in
    let from_hash = cond (b == 35) names from_query in
    let from_digit = cond (is_digit b) numbers from_hash in
    either b bs (is_letter b) letters from_digit (word_spelt b bs) (λ u.
    either b bs (is_digit b) numbers from_hash (number_spelt b bs) (λ u.
    either b bs (b == 35) names from_query (fresh_spelt b bs) (λ u.
    either b bs (b == 63) variables from_minus (variable_spelt b bs) (λ u.
    either b bs (b == 45) arrow marks (arrow_spelt b bs) (λ u. mark_spelt b bs (mark_of b) (mark_of_marked b))))))

pub lexeme_spelt : (b : ℕ) (bs : List ℕ) (k : Kind) (n : ℕ) → token_of b bs ≡ Some (k, n)
    → Spells k (b ∷ take n bs) × (is_ended k (drop n bs) ≡ true)
unfolding Spelt
lexeme_spelt b bs k n e = subst (λ o. Spelt b bs o) e (token_spelt b bs)

-- a token has a first byte
pub record Begun (text : List ℕ) : Type 0 where
  pub first : ℕ
  pub others : List ℕ
  pub is : text ≡ first ∷ others

begun_list : (text : List ℕ) → 0 < length text → Begun text
begun_list [] h = absurd (omega arith)
begun_list (b ∷ bs) h = record { first = b; others = bs; is = refl }

below : (n most : ℕ) → n ≤ most → most < 2 ^ 64 → n < 2 ^ 64
below n most h w = omega arith

begun_mark : (k : Kind) (text : List ℕ) → mark_text k ≡ Some text → Begun text
begun_mark Word text e = absurd (cc)
begun_mark Number text e = absurd (cc)
begun_mark FreshName text e = absurd (cc)
begun_mark VariableMark text e = absurd (cc)
begun_mark Open text e = record { first = 40; others = []; is = let h : 40 ∷ [] ≡ text = cc in sym h }
begun_mark Close text e = record { first = 41; others = []; is = let h : 41 ∷ [] ≡ text = cc in sym h }
begun_mark Comma text e = record { first = 44; others = []; is = let h : 44 ∷ [] ≡ text = cc in sym h }
begun_mark Colon text e = record { first = 58; others = []; is = let h : 58 ∷ [] ≡ text = cc in sym h }
begun_mark Semicolon text e = record { first = 59; others = []; is = let h : 59 ∷ [] ≡ text = cc in sym h }
begun_mark Equals text e = record { first = 61; others = []; is = let h : 61 ∷ [] ≡ text = cc in sym h }
begun_mark Less text e = record { first = 60; others = []; is = let h : 60 ∷ [] ≡ text = cc in sym h }
begun_mark Plus text e = record { first = 43; others = []; is = let h : 43 ∷ [] ≡ text = cc in sym h }
begun_mark Minus text e = record { first = 45; others = []; is = let h : 45 ∷ [] ≡ text = cc in sym h }
begun_mark Arrow text e = record { first = 45; others = 62 ∷ []; is = let h : 45 ∷ 62 ∷ [] ≡ text = cc in sym h }

pub begun : {k : Kind} {text : List ℕ} → Spells k text → Begun text
begun (word b bs l a) = record { first = b; others = bs; is = refl }
begun (number n h) = begun_list (decimal n) (decimal_nonempty n (below n 4294967295 h (lit< tt)))
begun (fresh_name n h) = record { first = 35; others = decimal n; is = refl }
begun (variable_mark n l h) = record { first = 63; others = decimal n; is = refl }
begun (mark k text e) = begun_mark k text e

-- tokens in front of a text are found there
digits_found : (k : Kind) (ds rest : List ℕ) → list_all is_digit ds ≡ true → is_past is_digit rest ≡ true
    → (run is_digit (ds ++ rest) ≡ length ds) × (take (run is_digit (ds ++ rest)) (ds ++ rest) ≡ ds)
digits_found k ds rest a e =
    let r = run_of_passing is_digit ds rest a e in
    (r, ap (λ n. take n (ds ++ rest)) r ∙ take_at ds rest (length ds) refl)

digit_no_letter : (b : ℕ) → is_digit b ≡ true → is_letter b ≡ false
digit_no_letter b h = grind (arith, nat_tests)

number_found : (b : ℕ) (ds rest : List ℕ) → list_all is_digit (b ∷ ds) ≡ true → is_numeral 0 4294967295 (b ∷ ds) ≡ true
    → is_past is_digit rest ≡ true → token_of b (ds ++ rest) ≡ Some (Number, length ds)
number_found b ds rest a v e =
    let parts = both_true (is_digit b) (list_all is_digit ds) a in
    let found = digits_found Number ds rest parts.1 e in
    rw (digit_no_letter b parts.0, parts.0)
    (ap (λ cs. numbered Number (run is_digit (ds ++ rest)) (is_numeral 0 4294967295 (b ∷ cs))) found.1
    ∙ ap (λ t. numbered Number (run is_digit (ds ++ rest)) t) v
    ∙ ap (λ n. numbered Number n true) found.0)

fresh_found : (ds rest : List ℕ) → list_all is_digit ds ≡ true → is_numeral 0 4294967295 ds ≡ true
    → is_past is_digit rest ≡ true → token_of 35 (ds ++ rest) ≡ Some (FreshName, length ds)
fresh_found ds rest a v e =
    let found = digits_found FreshName ds rest a e in
    ap (λ cs. numbered FreshName (run is_digit (ds ++ rest)) (is_numeral 0 4294967295 cs)) found.1
    ∙ ap (λ t. numbered FreshName (run is_digit (ds ++ rest)) t) v
    ∙ ap (λ n. numbered FreshName n true) found.0

variable_found : (ds rest : List ℕ) → list_all is_digit ds ≡ true → is_numeral 1 1000000 ds ≡ true
    → is_past is_digit rest ≡ true → token_of 63 (ds ++ rest) ≡ Some (VariableMark, length ds)
variable_found ds rest a v e =
    let found = digits_found VariableMark ds rest a e in
    ap (λ cs. numbered VariableMark (run is_digit (ds ++ rest)) (is_numeral 1 1000000 cs)) found.1
    ∙ ap (λ t. numbered VariableMark (run is_digit (ds ++ rest)) t) v
    ∙ ap (λ n. numbered VariableMark n true) found.0

word_found : (b : ℕ) (bs rest : List ℕ) → is_letter b ≡ true → list_all is_word_byte bs ≡ true → is_past is_word_byte rest ≡ true
    → token_of b (bs ++ rest) ≡ Some (Word, length bs)
word_found b bs rest l a e = rw l (ap (λ (n : ℕ). Some (Word, n)) (run_of_passing is_word_byte bs rest a e))

minus_found : (rest : List ℕ) → is_ended Minus rest ≡ true → token_of 45 rest ≡ Some (Minus, 0)
minus_found [] e = refl
minus_found (c ∷ cs) e =
    let arrow : Option (Kind × ℕ) = Some (Arrow, 1) in
    let minus : Option (Kind × ℕ) = Some (Minus, 0) in
    elim (c == 62) as (λ v. not v ≡ true → cond v arrow minus ≡ minus) [
      | true ↦ λ f. absurd (cc)
      | false ↦ λ f. refl
    ] e

-- the token that these bytes begin with, before the rest
Found : Kind → List ℕ → List ℕ → Type 0
Found k text rest = (b : ℕ) (more : List ℕ) → text ≡ b ∷ more → token_of b (more ++ rest) ≡ Some (k, length more)

found_as : (k : Kind) (rest : List ℕ) (a : ℕ) (cs : List ℕ) → token_of a (cs ++ rest) ≡ Some (k, length cs) → Found k (a ∷ cs) rest
unfolding Found
found_as k rest a cs h b more e =
    let f : a ≡ b = cc in
    let g : cs ≡ more = cc in
    subst (λ x. token_of x (more ++ rest) ≡ Some (k, length more)) f
    (subst (λ xs. token_of a (xs ++ rest) ≡ Some (k, length xs)) g h)

found_text : (k : Kind) (rest text us : List ℕ) → us ≡ text → Found k us rest → Found k text rest
found_text k rest text us e h = subst (λ ts. Found k ts rest) e h

mark_found : (k : Kind) (text rest : List ℕ) → mark_text k ≡ Some text → is_ended k rest ≡ true → Found k text rest
mark_found Word text rest e f = absurd (cc)
mark_found Number text rest e f = absurd (cc)
mark_found FreshName text rest e f = absurd (cc)
mark_found VariableMark text rest e f = absurd (cc)
mark_found Open text rest e f = let h : 40 ∷ [] ≡ text = cc in found_text Open rest text (40 ∷ []) h (found_as Open rest 40 [] refl)
mark_found Close text rest e f = let h : 41 ∷ [] ≡ text = cc in found_text Close rest text (41 ∷ []) h (found_as Close rest 41 [] refl)
mark_found Comma text rest e f = let h : 44 ∷ [] ≡ text = cc in found_text Comma rest text (44 ∷ []) h (found_as Comma rest 44 [] refl)
mark_found Colon text rest e f = let h : 58 ∷ [] ≡ text = cc in found_text Colon rest text (58 ∷ []) h (found_as Colon rest 58 [] refl)
mark_found Semicolon text rest e f = let h : 59 ∷ [] ≡ text = cc in found_text Semicolon rest text (59 ∷ []) h (found_as Semicolon rest 59 [] refl)
mark_found Equals text rest e f = let h : 61 ∷ [] ≡ text = cc in found_text Equals rest text (61 ∷ []) h (found_as Equals rest 61 [] refl)
mark_found Less text rest e f = let h : 60 ∷ [] ≡ text = cc in found_text Less rest text (60 ∷ []) h (found_as Less rest 60 [] refl)
mark_found Plus text rest e f = let h : 43 ∷ [] ≡ text = cc in found_text Plus rest text (43 ∷ []) h (found_as Plus rest 43 [] refl)
mark_found Minus text rest e f = let h : 45 ∷ [] ≡ text = cc in found_text Minus rest text (45 ∷ []) h (found_as Minus rest 45 [] (minus_found rest f))
mark_found Arrow text rest e f = let h : 45 ∷ 62 ∷ [] ≡ text = cc in found_text Arrow rest text (45 ∷ 62 ∷ []) h (found_as Arrow rest 45 (62 ∷ []) refl)

number_text_found : (n : ℕ) (rest : List ℕ) → n ≤ 4294967295 → is_past is_digit rest ≡ true → Found Number (decimal n) rest
unfolding Found
number_text_found n rest h e b more t =
    let w = below n 4294967295 h (lit< tt) in
    number_found b more rest (sym (ap (list_all is_digit) t) ∙ decimal_digits n w)
    (sym (ap (is_numeral 0 4294967295) t) ∙ decimal_is_numeral 0 4294967295 n (omega arith) h w) e

pub spelled_found : {k : Kind} {text : List ℕ} (rest : List ℕ) → Spells k text → is_ended k rest ≡ true
    → (b : ℕ) (more : List ℕ) → text ≡ b ∷ more → token_of b (more ++ rest) ≡ Some (k, length more)
unfolding Found
spelled_found rest (word a bs l p) e =
    found_as Word rest a bs (word_found a bs rest l p (sym (ended_is Word rest) ∙ e))
spelled_found rest (number n h) e = number_text_found n rest h (sym (ended_is Number rest) ∙ e)
spelled_found rest (fresh_name n h) e =
    let w = below n 4294967295 h (lit< tt) in
    found_as FreshName rest 35 (decimal n) (fresh_found (decimal n) rest (decimal_digits n w)
    (decimal_is_numeral 0 4294967295 n (omega arith) h w) (sym (ended_is FreshName rest) ∙ e))
spelled_found rest (variable_mark n l h) e =
    let w = below n 1000000 h (lit< tt) in
    found_as VariableMark rest 63 (decimal n) (variable_found (decimal n) rest (decimal_digits n w)
    (decimal_is_numeral 1 1000000 n l h w) (sym (ended_is VariableMark rest) ∙ e))
spelled_found rest (mark k text t) e = mark_found k text rest t e

-- where a gap begins no token does
blank_no_token : (b : ℕ) (bs : List ℕ) → is_blank b ≡ true → token_of b bs ≡ None
blank_no_token b bs h =
    elim (b == 9) as (λ v. b == 9 ≡ v → (v || b == 10 || b == 13 || b == 32) ≡ true → token_of b bs ≡ None) [
      | true ↦ λ e g. subst (λ c. token_of c bs ≡ None) (sym (same_byte b 9 e)) refl
      | false ↦ λ e. elim (b == 10) as (λ v. b == 10 ≡ v → (v || b == 13 || b == 32) ≡ true → token_of b bs ≡ None) [
        | true ↦ λ f g. subst (λ c. token_of c bs ≡ None) (sym (same_byte b 10 f)) refl
        | false ↦ λ f. elim (b == 13) as (λ v. b == 13 ≡ v → (v || b == 32) ≡ true → token_of b bs ≡ None) [
          | true ↦ λ i g. subst (λ c. token_of c bs ≡ None) (sym (same_byte b 13 i)) refl
          | false ↦ λ i g. subst (λ c. token_of c bs ≡ None) (sym (same_byte b 32 g)) refl
        ] refl
      ] refl
    ] refl h

comment_no_token : (b : ℕ) (bs : List ℕ) → begins_comment b bs ≡ true → token_of b bs ≡ None
comment_no_token b bs h =
    let slash = both_true (b == 47) (begins_with 47 bs) h in
    subst (λ c. token_of c bs ≡ None) (sym (same_byte b 47 slash.0)) refl

pub token_no_gap : (b : ℕ) (bs : List ℕ) (k : Kind) (n : ℕ) → token_of b bs ≡ Some (k, n) → gap_of b bs ≡ None
token_no_gap b bs k n e =
    elim (is_blank b) as (λ v. is_blank b ≡ v → cond v (Some 0) (cond (begins_comment b bs) (Some (run is_in_line bs)) None) ≡ None) [
      | true ↦ λ f. let g = blank_no_token b bs f in absurd (cc)
      | false ↦ λ f. elim (begins_comment b bs) as (λ v. begins_comment b bs ≡ v → cond v (Some (run is_in_line bs)) None ≡ None) [
        | true ↦ λ i. let g = comment_no_token b bs i in absurd (cc)
        | false ↦ λ i. refl
      ] refl
    ] refl
