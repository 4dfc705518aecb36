-- The tokens of a text, found by one scan from its first byte on. It is proved to find those of
-- `Lexing`, and serves proofs about code.
use Rattle.std.specs.Prelude.{ℕ, zero, suc, Bool, ◌==◌, List, [], ◌∷◌, ◌+◌, Option, Some, None, take, if◌then◌else◌}
use Rattle.npa_text.specs.declared.token.Kind.{Kind}
use Rattle.npa_text.specs.declared.token.Kind.TheVariants.{Word, Number, FreshName, VariableMark, Open, Close, Comma, Colon, Semicolon, Equals, Less, Plus, Minus, Arrow}
use Rattle.npa_text.specs.declared.token.Token.{Token}
use Rattle.npa_text.specs.declared.token.Lexed.{Lexed}
use Rattle.npa_text.specs.declared.place.Place.{Place}
use Rattle.npa_text.specs.Bytes.{is_blank, is_letter, is_digit, is_word_byte, is_in_line, run, begins_with}
use Rattle.npa_text.specs.Places.{first_place, moved}
use Rattle.npa_text.specs.Numerals.{is_numeral}
use Rattle.npa_text.specs.Lexing.{begins_comment, token_between}

-- what begins at a byte, and how many bytes behind it belong to it
pub data Piece : Type 0 where
  gap : ℕ → Piece
  lexeme : Kind → ℕ → Piece
  nothing : Piece

-- the mark that is one byte
abbrev pub mark_of : ℕ → Option Kind
mark_of b =
    if b == 40 then Some Open
    else if b == 41 then Some Close
    else if b == 44 then Some Comma
    else if b == 58 then Some Colon
    else if b == 59 then Some Semicolon
    else if b == 61 then Some Equals
    else if b == 60 then Some Less
    else if b == 43 then Some Plus
    else None

-- a token of a kind and n bytes behind its first, if the digits in it are a numeral
abbrev pub numbered : Kind → ℕ → Bool → Option (Kind × ℕ)
numbered k n b = if b then Some (k, n) else None

abbrev pub marked : Option Kind → Option (Kind × ℕ)
marked (Some k) = Some (k, 0)
marked None = None

-- the token that begins at b: its kind, and how many of the bytes behind b belong to it
abbrev pub token_of : ℕ → List ℕ → Option (Kind × ℕ)
token_of b bs =
    let digits = run is_digit bs in
    if is_letter b then Some (Word, run is_word_byte bs)
    else if is_digit b then numbered Number digits (is_numeral 0 4294967295 (b ∷ take digits bs))
    else if b == 35 then numbered FreshName digits (is_numeral 0 4294967295 (take digits bs))
    else if b == 63 then numbered VariableMark digits (is_numeral 1 1000000 (take digits bs))
    else if b == 45 then (if begins_with 62 bs then Some (Arrow, 1) else Some (Minus, 0))
    else marked (mark_of b)

abbrev pub token_at : List ℕ → Option (Kind × ℕ)
token_at [] = None
token_at (b ∷ bs) = token_of b bs

-- the blank or the comment that begins at b: how many of the bytes behind b belong to it
abbrev pub gap_of : ℕ → List ℕ → Option ℕ
gap_of b bs =
    if is_blank b then Some 0
    else if begins_comment b bs then Some (run is_in_line bs)
    else None

abbrev pub gap_at : List ℕ → Option ℕ
gap_at [] = None
gap_at (b ∷ bs) = gap_of b bs

-- what begins at b: a gap goes first
abbrev pub piece_from : Option ℕ → Option (Kind × ℕ) → Piece
piece_from (Some n) t = gap n
piece_from None (Some t) = lexeme t.0 t.1
piece_from None None = nothing

abbrev pub piece : ℕ → List ℕ → Piece
piece b bs = piece_from (gap_of b bs) (token_of b bs)

-- a token in front of what was found behind it
abbrev pub in_front : Token → Lexed → Lexed
in_front t found = record { tokens = t ∷ found.tokens; fault = found.fault }

-- a piece at p, and what is found behind it, where `behind` takes how many bytes belong to the piece
abbrev pub met : Piece → ℕ → Place → (ℕ → Lexed) → Lexed
met (gap n) at p behind = behind n
met (lexeme k n) at p behind =
    in_front (token_between k at (at + (n + 1)) p) (behind n)
met nothing at p behind = record { tokens = []; fault = Some p }

-- the scan of bytes that stand from `at` and the place p on, the first `skip` of which belong to the
-- piece before them
abbrev pub scan : List ℕ → ℕ → ℕ → Place → Lexed
scan [] skip at p = record { tokens = []; fault = None }
scan (b ∷ bs) (suc skip) at p = scan bs skip (at + 1) (moved b p)
scan (b ∷ bs) zero at p = met (piece b bs) at p (λ n. scan bs n (at + 1) (moved b p))

-- the tokens of a text and the place of its first fault, as a scan finds them
abbrev pub lexed : List ℕ → Lexed
lexed bytes = scan bytes 0 0 first_place
