-- A scan finds the tokens that a text has, and a text has no others.
use Rattle.std.proofs.Common.{◌≡◌, ℕ, suc, zero, ◌+◌, ◌≤◌, true, false, cond, Option, Some, None, List, [], ◌∷◌, ◌++◌, length, take, drop, refl, ap, ◌∙◌, arith, sym, subst, add-one, length-drop}
use Rattle.std.specs.Prelude.{◌==◌, not}
use Rattle.std.specs.List.{list_all}
use Rattle.std.proofs.lemmas.Bool.Decides.{nat_tests}
use Rattle.std.proofs.lemmas.List.{take-append-drop, length-take-le}
use Rattle.npa_text.specs.declared.token.Kind.{Kind}
use Rattle.npa_text.specs.declared.token.Token.{Token}
use Rattle.npa_text.specs.declared.token.Lexed.{Lexed}
use Rattle.npa_text.specs.declared.place.Place.{Place}
use Rattle.npa_text.specs.Bytes.{is_blank, is_in_line, run, begins_with}
use Rattle.npa_text.specs.Places.{moved, moved_over, first_place}
use Rattle.npa_text.specs.Lexing.{Lexes, ended, blank, comment, token, stuck, NothingBegins, begins_comment}
use Rattle.npa_text.specs.Scans.{token_of, gap_of, piece_from, met, scan, in_front, lexed}
use Rattle.npa_text.proofs.Runs.{run_passes, run_is_past, run_of_passing, is_past}
use Rattle.npa_text.proofs.Decimals.{both_true}
use Rattle.npa_text.proofs.Widths.{lexeme_within}
use Rattle.npa_text.proofs.Steps.{run_within}
use Rattle.npa_text.proofs.Spellings.{lexeme_spelt, begun, spelled_found, token_no_gap, same_byte}

-- the bytes of a piece are passed one by one
passed : (text rest : List ℕ) (at : ℕ) (p : Place) → scan (text ++ rest) (length text) at p ≡ scan rest 0 (at + length text) (moved_over text p)
passed [] rest at p = let e : at ≡ at + 0 = omega arith in ap (λ m. scan rest 0 m p) e
passed (b ∷ text) rest at p =
    let e : at + 1 + length text ≡ at + suc (length text) = omega arith in
    passed text rest (at + 1) (moved b p) ∙ ap (λ m. scan rest 0 m (moved_over text (moved b p))) e

-- a gap whose bytes behind the first are these
gap_passed : (b : ℕ) (more rest : List ℕ) (at : ℕ) (p : Place) → gap_of b (more ++ rest) ≡ Some (length more)
    → scan (b ∷ more ++ rest) 0 at p ≡ scan rest 0 (at + length (b ∷ more)) (moved_over (b ∷ more) p)
gap_passed b more rest at p e =
    let next = λ (m : ℕ). scan (more ++ rest) m (at + 1) (moved b p) in
    let f : at + 1 + length more ≡ at + suc (length more) = omega arith in
    ap (λ g. met (piece_from g (token_of b (more ++ rest))) at p next) e
    ∙ passed more rest (at + 1) (moved b p) ∙ ap (λ m. scan rest 0 m (moved_over more (moved b p))) f

abbrev token_here : Kind → List ℕ → ℕ → Place → Token
token_here k text at p = record { kind = k; start = at; end = at + length text; line = p.line; col = p.col }

token_passed : (b : ℕ) (more rest : List ℕ) (k : Kind) (at : ℕ) (p : Place) → token_of b (more ++ rest) ≡ Some (k, length more)
    → scan (b ∷ more ++ rest) 0 at p
    ≡ in_front (token_here k (b ∷ more) at p) (scan rest 0 (at + length (b ∷ more)) (moved_over (b ∷ more) p))
token_passed b more rest k at p e =
    let next = λ (m : ℕ). scan (more ++ rest) m (at + 1) (moved b p) in
    let f : at + 1 + length more ≡ at + suc (length more) = omega arith in
    let g : at + (length more + 1) ≡ at + suc (length more) = omega arith in
    ap (λ v. met (piece_from v (token_of b (more ++ rest))) at p next) (token_no_gap b (more ++ rest) k (length more) e)
    ∙ ap (λ v. met (piece_from None v) at p next) e
    ∙ ap (λ (m : ℕ). in_front (record { kind = k; start = at; end = m; line = p.line; col = p.col }) (next (length more))) g
    ∙ ap (in_front (token_here k (b ∷ more) at p))
    (passed more rest (at + 1) (moved b p) ∙ ap (λ m. scan rest 0 m (moved_over more (moved b p))) f)

blank_gap : (b : ℕ) (rest : List ℕ) → is_blank b ≡ true → gap_of b rest ≡ Some 0
blank_gap b rest h = ap (λ v. cond v (Some 0) (cond (begins_comment b rest) (Some (run is_in_line rest)) None)) h

no_gap : (b : ℕ) (rest : List ℕ) → is_blank b ≡ false → begins_comment b rest ≡ false → gap_of b rest ≡ None
no_gap b rest h g =
    ap (λ v. cond v (Some 0) (cond (begins_comment b rest) (Some (run is_in_line rest)) None)) h
    ∙ ap (λ v. cond v (Some (run is_in_line rest)) None) g

run_zero_past : (rest : List ℕ) → run is_in_line rest ≡ 0 → is_past is_in_line rest ≡ true
run_zero_past [] h = refl
run_zero_past (b ∷ bs) h =
    elim (is_in_line b) as (λ v. cond v (run is_in_line bs + 1) 0 ≡ 0 → not v ≡ true) [
      | true ↦ λ e. absurd (omega arith)
      | false ↦ λ e. refl
    ] h

past_run_zero : (rest : List ℕ) → is_past is_in_line rest ≡ true → run is_in_line rest ≡ 0
past_run_zero [] h = refl
past_run_zero (b ∷ bs) h =
    elim (is_in_line b) as (λ v. not v ≡ true → cond v (run is_in_line bs + 1) 0 ≡ 0) [
      | true ↦ λ e. absurd (cc)
      | false ↦ λ e. refl
    ] h

-- no token is found where none begins
none_found : (b : ℕ) (rest : List ℕ) → NothingBegins b rest → token_of b rest ≡ None
none_found b rest h =
    elim (token_of b rest) as (λ o. token_of b rest ≡ o → token_of b rest ≡ None) [
      | None ↦ λ e. e
      | Some t ↦ λ e.
          let s = lexeme_spelt b rest t.0 t.1 e in
          absurd (h.no_token t.0 (b ∷ take t.1 rest) (drop t.1 rest) (ap (λ cs. b ∷ cs) (sym (take-append-drop t.1 rest))) s.0 s.1)
    ] refl

-- the tokens that a text has are those of the scan
pub once : {at : ℕ} {p : Place} {bs : List ℕ} {ts : List Token} {fault : Option Place} → Lexes at p bs ts fault
    → scan bs 0 at p ≡ record { tokens = ts; fault = fault }
once (ended at p) = refl
once (blank at p b rest ts fault h d) =
    ap (λ g. met (piece_from g (token_of b rest)) at p (λ (m : ℕ). scan rest m (at + 1) (moved b p))) (blank_gap b rest h) ∙ once d
once (comment at p line rest ts fault h e d) =
    gap_passed 47 (47 ∷ line) rest at p
    (ap (λ (n : ℕ). Some n) (run_of_passing is_in_line (47 ∷ line) rest h (run_zero_past rest e)))
    ∙ once d
once (token at p k text rest ts fault s e d) =
    let first = begun s in
    let b = first.first in
    let more = first.others in
    let found = spelled_found rest s e b more first.is in
    let start : scan (text ++ rest) 0 at p ≡ scan (b ∷ more ++ rest) 0 at p = ap (λ cs. scan (cs ++ rest) 0 at p) first.is in
    let back : in_front (token_here k (b ∷ more) at p) (scan rest 0 (at + length (b ∷ more)) (moved_over (b ∷ more) p))
    ≡ in_front (token_here k text at p) (scan rest 0 (at + length text) (moved_over text p)) =
    ap (λ cs. in_front (token_here k cs at p) (scan rest 0 (at + length cs) (moved_over cs p))) (sym first.is) in
    start ∙ token_passed b more rest k at p found ∙ back ∙ ap (in_front (token_here k text at p)) (once d)
once (stuck at p b rest h) =
    let next = λ (m : ℕ). scan rest m (at + 1) (moved b p) in
    ap (λ v. met (piece_from v (token_of b rest)) at p next) (no_gap b rest h.no_blank h.no_comment)
    ∙ ap (λ v. met (piece_from None v) at p next) (none_found b rest h)

-- the scan of these bytes finds the tokens that they have
Right : ℕ → Place → List ℕ → Lexed → Type 0
Right at p bs found = Lexes at p bs found.tokens found.fault

right_same : (at : ℕ) (p : Place) (bs cs : List ℕ) (x y : Lexed) → bs ≡ cs → x ≡ y → Right at p bs x → Right at p cs y
right_same at p bs cs x y e f h = subst (λ v. Right at p cs v) f (subst (λ us. Right at p us x) e h)

-- what stands in a comment behind its first byte
comment_line : (bs : List ℕ) → begins_with 47 bs ≡ true
    → (line : List ℕ) × (bs ≡ 47 ∷ line ++ drop (run is_in_line bs) bs) × (list_all is_in_line line ≡ true) × (run is_in_line bs ≡ length (47 ∷ line))
comment_line [] h = absurd (cc)
comment_line (c ∷ cs) h =
    let e : c ≡ 47 = same_byte c 47 h in
    let n = run is_in_line cs in
    let in_line : is_in_line c ≡ true = grind (arith, nat_tests) in
    let runs : run is_in_line (c ∷ cs) ≡ suc n = ap (λ v. cond v (n + 1) 0) in_line ∙ add-one n in
    let behind : drop (run is_in_line (c ∷ cs)) (c ∷ cs) ≡ drop n cs = ap (λ m. drop m (c ∷ cs)) runs in
    let short : length (take n cs) ≡ n = length-take-le n cs (run_within is_in_line cs) in (
      take n cs,
      ap (λ x. x ∷ cs) e ∙ ap (λ xs. 47 ∷ xs) (sym (take-append-drop n cs) ∙ ap (λ ys. take n cs ++ ys) (sym behind)),
      run_passes is_in_line cs,
      runs ∙ ap suc (sym short),
    )

nothing_begins : (b : ℕ) (bs : List ℕ) → is_blank b ≡ false → begins_comment b bs ≡ false → token_of b bs ≡ None → NothingBegins b bs
nothing_begins b bs h g e = record {
  no_blank = h;
  no_comment = g;
  no_token = λ k text rest t s f.
      let first = begun s in
      let same : b ∷ bs ≡ first.first ∷ first.others ++ rest = t ∙ ap (λ cs. cs ++ rest) first.is in
      let byte : b ≡ first.first = cc in
      let others : bs ≡ first.others ++ rest = cc in
      let found = spelled_found rest s f first.first first.others first.is in
      let here : token_of b bs ≡ Some (k, length first.others) =
      ap (λ c. token_of c bs) byte ∙ ap (λ cs. token_of first.first cs) others ∙ found in
      cc;
}

abbrev Scan : ℕ → Place → List ℕ → Type 0
Scan at p bs = Right at p bs (scan bs 0 at p)

scan_blank : (b : ℕ) (bs : List ℕ) (at : ℕ) (p : Place) → is_blank b ≡ true → Scan (at + 1) (moved b p) bs → Scan at p (b ∷ bs)
unfolding Right
scan_blank b bs at p e d =
    let found = scan bs 0 (at + 1) (moved b p) in
    let s : scan (b ∷ bs) 0 at p ≡ found =
    ap (λ g. met (piece_from g (token_of b bs)) at p (λ (m : ℕ). scan bs m (at + 1) (moved b p))) (blank_gap b bs e) in
    right_same at p (b ∷ bs) (b ∷ bs) found (scan (b ∷ bs) 0 at p) refl (sym s) (blank at p b bs found.tokens found.fault e d)

scan_comment : (b : ℕ) (bs : List ℕ) (at : ℕ) (p : Place) → begins_comment b bs ≡ true
    → ((at' : ℕ) (p' : Place) → Scan at' p' (drop (run is_in_line bs) bs)) → Scan at p (b ∷ bs)
unfolding Right
scan_comment b bs at p e d =
    let parts = both_true (b == 47) (begins_with 47 bs) e in
    let c = comment_line bs parts.1 in
    let line = c.0 in
    let rest = drop (run is_in_line bs) bs in
    let whole : 47 ∷ 47 ∷ line ++ rest ≡ b ∷ bs =
    ap (λ cs. 47 ∷ cs) (sym c.1) ∙ ap (λ x. x ∷ bs) (sym (same_byte b 47 parts.0)) in
    let stops : is_past is_in_line rest ≡ true = run_is_past is_in_line bs in
    let at' = at + length (47 ∷ 47 ∷ line) in
    let p' = moved_over (47 ∷ 47 ∷ line) p in
    let found = scan rest 0 at' p' in
    let s : scan (47 ∷ 47 ∷ line ++ rest) 0 at p ≡ found =
    gap_passed 47 (47 ∷ line) rest at p (ap (λ (n : ℕ). Some n) (run_of_passing is_in_line (47 ∷ line) rest c.2 stops)) in
    right_same at p (47 ∷ 47 ∷ line ++ rest) (b ∷ bs) found (scan (b ∷ bs) 0 at p) whole
    (sym s ∙ ap (λ cs. scan cs 0 at p) whole)
    (comment at p line rest found.tokens found.fault c.2 (past_run_zero rest stops) (d at' p'))

scan_token : (b : ℕ) (bs : List ℕ) (k : Kind) (n : ℕ) (at : ℕ) (p : Place) → token_of b bs ≡ Some (k, n)
    → ((at' : ℕ) (p' : Place) → Scan at' p' (drop n bs)) → Scan at p (b ∷ bs)
unfolding Right
scan_token b bs k n at p e d =
    let spelt = lexeme_spelt b bs k n e in
    let more = take n bs in
    let rest = drop n bs in
    let in_line : n ≤ run is_in_line bs = lexeme_within b bs k n e in
    let fits : n ≤ length bs = omega (arith, run_within is_in_line bs) in
    let cut : more ++ rest ≡ bs = take-append-drop n bs in
    let found_there : token_of b (more ++ rest) ≡ Some (k, length more) =
    ap (token_of b) cut ∙ e ∙ ap (λ (m : ℕ). Some (k, m)) (sym (length-take-le n bs fits)) in
    let at' = at + length (b ∷ more) in
    let p' = moved_over (b ∷ more) p in
    let found = scan rest 0 at' p' in
    let whole = in_front (token_here k (b ∷ more) at p) found in
    right_same at p (b ∷ more ++ rest) (b ∷ bs) whole (scan (b ∷ bs) 0 at p) (ap (λ cs. b ∷ cs) cut)
    (sym (token_passed b more rest k at p found_there) ∙ ap (λ cs. scan (b ∷ cs) 0 at p) cut)
    (token at p k (b ∷ more) rest found.tokens found.fault spelt.0 spelt.1 (d at' p'))

scan_stuck : (b : ℕ) (bs : List ℕ) (at : ℕ) (p : Place) → NothingBegins b bs → Scan at p (b ∷ bs)
unfolding Right
scan_stuck b bs at p h =
    right_same at p (b ∷ bs) (b ∷ bs) (record { tokens = []; fault = Some p }) (scan (b ∷ bs) 0 at p) refl
    (sym (once (stuck at p b bs h))) (stuck at p b bs h)

right : (fuel : ℕ) (bs : List ℕ) (at : ℕ) (p : Place) → length bs ≤ fuel → Scan at p bs
unfolding Right
right fuel [] at p h = ended at p
right zero (b ∷ bs) at p h = absurd (omega arith)
right (suc fuel) (b ∷ bs) at p h =
    let shorter : (n : ℕ) → length (drop n bs) ≤ fuel = λ n. omega (arith, length-drop n bs) in
    elim (is_blank b) as (λ v. is_blank b ≡ v → Scan at p (b ∷ bs)) [
      | true ↦ λ e. scan_blank b bs at p e (right fuel bs (at + 1) (moved b p) (omega arith))
      | false ↦ λ e. elim (begins_comment b bs) as (λ v. begins_comment b bs ≡ v → Scan at p (b ∷ bs)) [
        | true ↦ λ f. scan_comment b bs at p f (λ at' p'. right fuel (drop (run is_in_line bs) bs) at' p' (shorter (run is_in_line bs)))
        | false ↦ λ f. elim (token_of b bs) as (λ o. token_of b bs ≡ o → Scan at p (b ∷ bs)) [
          | None ↦ λ g. scan_stuck b bs at p (nothing_begins b bs e f g)
          | Some t ↦ λ g. scan_token b bs t.0 t.1 at p g (λ at' p'. right fuel (drop t.1 bs) at' p' (shorter t.1))
        ] refl
      ] refl
    ] refl

pub lexed_right : (bs : List ℕ) → Lexes 0 first_place bs (lexed bs).tokens (lexed bs).fault
unfolding Right
lexed_right bs = right (length bs) bs 0 first_place (omega arith)

-- of a scan's answer: it is right, and it is the only right one
pub answer_right : (bs : List ℕ) (found : Lexed) → found ≡ lexed bs → Lexes 0 first_place bs found.tokens found.fault
answer_right bs found e = subst (λ (x : Lexed). Lexes 0 first_place bs x.tokens x.fault) (sym e) (lexed_right bs)

pub answer_only : (bs : List ℕ) (found : Lexed) (ts : List Token) (fault : Option Place) → found ≡ lexed bs
    → Lexes 0 first_place bs ts fault → found ≡ record { tokens = ts; fault = fault }
answer_only bs found ts fault e d = e ∙ once d
