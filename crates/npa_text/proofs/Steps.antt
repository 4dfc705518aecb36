-- One step of a scan, as the code takes it: from a byte to the one behind its piece.
use Rattle.std.proofs.Common.{◌≡◌, ℕ, suc, zero, ◌+◌, ◌-◌, ◌<◌, ◌≤◌, Bool, true, false, cond, Some, None, List, [], ◌∷◌, ◌++◌, length, get_or, take, drop, ap, ◌∙◌, arith, sym, subst}
use Rattle.std.specs.Prelude.{◌==◌, not}
use Rattle.std.proofs.lemmas.List.{drop_more, drop_all, drop-drop, take_rest, append_assoc, append-nil, length-drop}
use Rattle.npa_text.specs.declared.token.Kind.{Kind}
use Rattle.npa_text.specs.declared.token.Token.{Token}
use Rattle.npa_text.specs.declared.token.Lexed.{Lexed}
use Rattle.npa_text.specs.declared.place.Place.{Place}
use Rattle.npa_text.specs.Bytes.{is_in_line, run}
use Rattle.npa_text.specs.declared.scan.Cursor.{Cursor}
use Rattle.npa_text.specs.Places.{first_place, moved, along}
use Rattle.npa_text.specs.Scans.{token_of, token_at, gap_of, gap_at, piece_from, met, scan, in_front}
use Rattle.npa_text.proofs.Widths.{gap_within, lexeme_within}

-- tokens in front of what was found behind them
abbrev pub behind : List Token → Lexed → Lexed
behind ts found = record { tokens = ts ++ found.tokens; fault = found.fault }

-- the bytes that belong to a piece are passed one by one
skipped : (bs : List ℕ) (n at : ℕ) (p : Place) → n ≤ run is_in_line bs → scan bs n at p ≡ scan (drop n bs) 0 (at + n) (along n p)
skipped bs zero at p h =
    let e : at ≡ at + 0 = omega arith in
    let f : p.col ≡ p.col + 0 = omega arith in
    ap (λ m. scan bs 0 m p) e ∙ ap (λ (m : ℕ). scan bs 0 (at + 0) (record { line = p.line; col = m })) f
skipped [] (suc n) at p h = absurd (omega arith)
skipped (b ∷ bs) (suc n) at p h =
    elim (b == 10) as (λ v. suc n ≤ cond (not v) (run is_in_line bs + 1) 0
    → scan bs n (at + 1) (cond v (record { line = p.line + 1; col = 1 }) (along 1 p)) ≡ scan (drop n bs) 0 (at + suc n) (along (suc n) p)) [
      | true ↦ λ g. absurd (omega arith)
      | false ↦ λ g.
          let e : at + 1 + n ≡ at + suc n = omega arith in
          let f : p.col + 1 + n ≡ p.col + suc n = omega arith in
          let fits : n ≤ run is_in_line bs = omega arith in
          skipped bs n (at + 1) (along 1 p) fits
          ∙ ap (λ m. scan (drop n bs) 0 m (along n (along 1 p))) e
          ∙ ap (λ (m : ℕ). scan (drop n bs) 0 (at + suc n) (record { line = p.line; col = m })) f
    ] h

-- what the scan does at a byte with this gap and this token
met_gap : (b : ℕ) (bs : List ℕ) (n at : ℕ) (p : Place) → gap_of b bs ≡ Some n
    → scan (b ∷ bs) 0 at p ≡ scan (drop n bs) 0 (at + (n + 1)) (along n (moved b p))
met_gap b bs n at p e =
    let next = λ (m : ℕ). scan bs m (at + 1) (moved b p) in
    let f : at + 1 + n ≡ at + (n + 1) = omega arith in
    ap (λ g. met (piece_from g (token_of b bs)) at p next) e
    ∙ skipped bs n (at + 1) (moved b p) (gap_within b n bs e)
    ∙ ap (λ m. scan (drop n bs) 0 m (along n (moved b p))) f

met_token : (b : ℕ) (bs : List ℕ) (k : Kind) (n at : ℕ) (p : Place) → gap_of b bs ≡ None → token_of b bs ≡ Some (k, n)
    → scan (b ∷ bs) 0 at p ≡ in_front (record { kind = k; start = at; end = at + (n + 1); line = p.line; col = p.col })
    (scan (drop n bs) 0 (at + (n + 1)) (along n (moved b p)))
met_token b bs k n at p g e =
    let next = λ (m : ℕ). scan bs m (at + 1) (moved b p) in
    let t : Token = record { kind = k; start = at; end = at + (n + 1); line = p.line; col = p.col } in
    let f : at + 1 + n ≡ at + (n + 1) = omega arith in
    ap (λ v. met (piece_from v (token_of b bs)) at p next) g
    ∙ ap (λ v. met (piece_from None v) at p next) e
    ∙ ap (in_front t) (skipped bs n (at + 1) (moved b p) (lexeme_within b bs k n e)
    ∙ ap (λ m. scan (drop n bs) 0 m (along n (moved b p))) f)

met_nothing : (b : ℕ) (bs : List ℕ) (at : ℕ) (p : Place) → gap_of b bs ≡ None → token_of b bs ≡ None
    → scan (b ∷ bs) 0 at p ≡ record { tokens = []; fault = Some p }
met_nothing b bs at p g e =
    let next = λ (m : ℕ). scan bs m (at + 1) (moved b p) in
    ap (λ v. met (piece_from v (token_of b bs)) at p next) g ∙ ap (λ v. met (piece_from None v) at p next) e

-- the text from `at` on, as the code takes it
front_at : (xs : List ℕ) (at d : ℕ) → at < length xs → take (length xs - at) (drop at xs) ≡ get_or xs at d ∷ drop (at + 1) xs
front_at xs at d h = take_rest xs at ∙ drop_more xs at d h

gap_of_front : (xs : List ℕ) (at d : ℕ) → at < length xs → gap_at (take (length xs - at) (drop at xs)) ≡ gap_of (get_or xs at d) (drop (at + 1) xs)
gap_of_front xs at d h = ap gap_at (front_at xs at d h)

token_of_front : (xs : List ℕ) (at d : ℕ) → at < length xs → token_at (take (length xs - at) (drop at xs)) ≡ token_of (get_or xs at d) (drop (at + 1) xs)
token_of_front xs at d h = ap token_at (front_at xs at d h)

pub run_within : (p : ℕ → Bool) (bs : List ℕ) → run p bs ≤ length bs
run_within p [] = omega arith
run_within p (b ∷ bs) =
    elim (p b) as (λ v. cond v (run p bs + 1) 0 ≤ suc (length bs)) [
      | true ↦ omega (arith, run_within p bs)
      | false ↦ omega arith
    ]

fits : (xs : List ℕ) (at n : ℕ) → at < length xs → n ≤ run is_in_line (drop (at + 1) xs) → at + n < length xs
fits xs at n h w = omega (arith, run_within is_in_line (drop (at + 1) xs), length-drop (at + 1) xs)

pub gap_fits : (xs : List ℕ) (at n : ℕ) → at < length xs → gap_at (take (length xs - at) (drop at xs)) ≡ Some n → at + n < length xs
gap_fits xs at n h e =
    fits xs at n h (gap_within (get_or xs at 0) n (drop (at + 1) xs) (sym (gap_of_front xs at 0 h) ∙ e))

pub token_fits : (xs : List ℕ) (at n : ℕ) (k : Kind) → at < length xs → token_at (take (length xs - at) (drop at xs)) ≡ Some (k, n) → at + n < length xs
token_fits xs at n k h e =
    fits xs at n h (lexeme_within (get_or xs at 0) (drop (at + 1) xs) k n (sym (token_of_front xs at 0 h) ∙ e))

-- so far these tokens were found, and the scan from the cursor on finds the others
pub record Scanned (xs : List ℕ) (ts : List Token) (c : Cursor) : Type 0 where
  pub found : behind ts (scan (drop c.at xs) 0 c.at c.place) ≡ scan xs 0 0 first_place
  pub within : c.at ≤ length xs
  pub line : c.place.line ≤ c.at + 1
  pub col : c.place.col ≤ c.at + 1

-- the cursor behind a piece of a first byte and n more
abbrev pub past : ℕ → ℕ → Cursor → Cursor
past b n c = record { at = c.at + (n + 1); place = along n (moved b c.place) }

past_line : (b n : ℕ) (c : Cursor) → c.place.line ≤ c.at + 1 → (past b n c).place.line ≤ (past b n c).at + 1
past_line b n c h =
    elim (b == 10) as (λ v. (cond v (record { line = c.place.line + 1; col = 1 }) (along 1 c.place)).line ≤ c.at + (n + 1) + 1) [
      | true ↦ omega arith
      | false ↦ omega arith
    ]

past_col : (b n : ℕ) (c : Cursor) → c.place.col ≤ c.at + 1 → (past b n c).place.col ≤ (past b n c).at + 1
past_col b n c h =
    elim (b == 10) as (λ v. (cond v (record { line = c.place.line + 1; col = 1 }) (along 1 c.place)).col + n ≤ c.at + (n + 1) + 1) [
      | true ↦ omega arith
      | false ↦ omega arith
    ]

dropped : (xs : List ℕ) (at n : ℕ) → drop n (drop (at + 1) xs) ≡ drop (at + (n + 1)) xs
dropped xs at n =
    let e : at + 1 + n ≡ at + (n + 1) = omega arith in
    drop-drop n (at + 1) xs ∙ ap (λ m. drop m xs) e

pub scanned_gap : (xs : List ℕ) (ts : List Token) (c : Cursor) (n : ℕ) → c.at < length xs
    → gap_at (take (length xs - c.at) (drop c.at xs)) ≡ Some n → Scanned xs ts c → Scanned xs ts (past (get_or xs c.at 0) n c)
scanned_gap xs ts c n h e s =
    let b = get_or xs c.at 0 in
    let bs = drop (c.at + 1) xs in
    let room : c.at + n < length xs = gap_fits xs c.at n h e in
    let step : scan (drop c.at xs) 0 c.at c.place ≡ scan (drop (c.at + (n + 1)) xs) 0 (c.at + (n + 1)) (along n (moved b c.place)) =
    ap (λ ys. scan ys 0 c.at c.place) (drop_more xs c.at 0 h)
    ∙ met_gap b bs n c.at c.place (sym (gap_of_front xs c.at 0 h) ∙ e)
    ∙ ap (λ ys. scan ys 0 (c.at + (n + 1)) (along n (moved b c.place))) (dropped xs c.at n) in
    record {
      found = ap (behind ts) (sym step) ∙ s.found;
      within = omega arith;
      line = past_line b n c s.line;
      col = past_col b n c s.col;
    }

pub scanned_token : (xs : List ℕ) (ts : List Token) (c : Cursor) (k : Kind) (n : ℕ) → c.at < length xs
    → gap_at (take (length xs - c.at) (drop c.at xs)) ≡ None
    → token_at (take (length xs - c.at) (drop c.at xs)) ≡ Some (k, n) → Scanned xs ts c
    → Scanned xs (ts ++ record { kind = k; start = c.at; end = c.at + (n + 1); line = c.place.line; col = c.place.col } ∷ []) (past (get_or xs c.at 0) n c)
scanned_token xs ts c k n h g e s =
    let b = get_or xs c.at 0 in
    let bs = drop (c.at + 1) xs in
    let room : c.at + n < length xs = token_fits xs c.at n k h e in
    let t : Token = record { kind = k; start = c.at; end = c.at + (n + 1); line = c.place.line; col = c.place.col } in
    let rest = scan (drop (c.at + (n + 1)) xs) 0 (c.at + (n + 1)) (along n (moved b c.place)) in
    let step : scan (drop c.at xs) 0 c.at c.place ≡ in_front t rest =
    ap (λ ys. scan ys 0 c.at c.place) (drop_more xs c.at 0 h)
    ∙ met_token b bs k n c.at c.place (sym (gap_of_front xs c.at 0 h) ∙ g) (sym (token_of_front xs c.at 0 h) ∙ e)
    ∙ ap (λ ys. in_front t (scan ys 0 (c.at + (n + 1)) (along n (moved b c.place)))) (dropped xs c.at n) in
    let joined : behind (ts ++ t ∷ []) rest ≡ behind ts (in_front t rest) =
    ap (λ us. record { tokens = us; fault = rest.fault }) (append_assoc ts (t ∷ []) rest.tokens) in
    record {
      found = joined ∙ ap (behind ts) (sym step) ∙ s.found;
      within = omega arith;
      line = past_line b n c s.line;
      col = past_col b n c s.col;
    }

pub scanned_fault : (xs : List ℕ) (ts : List Token) (c : Cursor) → c.at < length xs
    → gap_at (take (length xs - c.at) (drop c.at xs)) ≡ None
    → token_at (take (length xs - c.at) (drop c.at xs)) ≡ None → Scanned xs ts c
    → record { tokens = ts; fault = Some c.place } ≡ scan xs 0 0 first_place
scanned_fault xs ts c h g e s =
    let b = get_or xs c.at 0 in
    let bs = drop (c.at + 1) xs in
    let here : Lexed = record { tokens = []; fault = Some c.place } in
    let step : scan (drop c.at xs) 0 c.at c.place ≡ here =
    ap (λ ys. scan ys 0 c.at c.place) (drop_more xs c.at 0 h)
    ∙ met_nothing b bs c.at c.place (sym (gap_of_front xs c.at 0 h) ∙ g) (sym (token_of_front xs c.at 0 h) ∙ e) in
    let joined : record { tokens = ts; fault = Some c.place } ≡ behind ts here =
    ap (λ (us : List Token). record { tokens = us; fault = Some c.place }) (sym (append-nil ts)) in
    joined ∙ ap (behind ts) (sym step) ∙ s.found

pub scanned_same : {xs : List ℕ} {ts us : List Token} {c d : Cursor} → us ≡ ts → d ≡ c → Scanned xs ts c → Scanned xs us d
scanned_same {xs} {ts} {us} {c} {d} e f s =
    subst (λ x. Scanned xs us x) (sym f) (subst (λ vs. Scanned xs vs c) (sym e) s)

pub scanned_end : (xs : List ℕ) (ts : List Token) (c : Cursor) → length xs ≤ c.at → Scanned xs ts c
    → record { tokens = ts; fault = None } ≡ scan xs 0 0 first_place
scanned_end xs ts c h s =
    let step : scan (drop c.at xs) 0 c.at c.place ≡ record { tokens = []; fault = None } =
    ap (λ ys. scan ys 0 c.at c.place) (drop_all c.at xs h) in
    let joined : record { tokens = ts; fault = None } ≡ behind ts (record { tokens = []; fault = None }) =
    ap (λ (us : List Token). record { tokens = us; fault = None }) (sym (append-nil ts)) in
    joined ∙ ap (behind ts) (sym step) ∙ s.found
