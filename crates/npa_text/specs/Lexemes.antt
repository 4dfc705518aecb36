-- The tokens of a text: the table of their spellings.
use Rattle.std.specs.Prelude.{ℕ, Bool, true, false, ◌==◌, not, List, [], ◌∷◌, ◌≡◌, ◌≤◌, IsTrue, Option, Some, None, codes}
use Rattle.std.specs.List.{list_all}
use Rattle.std.specs.Fmt.{decimal}
use Rattle.npa_text.specs.declared.token.Kind.{Kind}
use Rattle.npa_text.specs.declared.token.Kind.TheVariants.{Word, Number, FreshName, VariableMark, Open, Close, Comma, Colon, Semicolon, Equals, Less, Plus, Minus, Arrow}
use Rattle.npa_text.specs.Bytes.{is_letter, is_digit, is_word_byte}

-- the text of a mark
abbrev pub mark_text : Kind → Option (List ℕ)
mark_text Open = Some (codes "(")
mark_text Close = Some (codes ")")
mark_text Comma = Some (codes ",")
mark_text Colon = Some (codes ":")
mark_text Semicolon = Some (codes ";")
mark_text Equals = Some (codes "=")
mark_text Less = Some (codes "<")
mark_text Plus = Some (codes "+")
mark_text Minus = Some (codes "-")
mark_text Arrow = Some (codes "->")
mark_text _ = None

-- the bytes spell one token of the kind: a word is a letter, then letters, digits and `_`; a fresh
-- name is `#` (35) and a number, a variable mark `?` (63) and a number from 1 to 1000000
pub data Spells : Kind → List ℕ → Type 0 where
  word : (b : ℕ) (bs : List ℕ) → IsTrue (is_letter b) → IsTrue (list_all is_word_byte bs) → Spells Word (b ∷ bs)
  number : (n : ℕ) → n ≤ 4294967295 → Spells Number (decimal n)
  fresh_name : (n : ℕ) → n ≤ 4294967295 → Spells FreshName (35 ∷ decimal n)
  variable_mark : (n : ℕ) → 1 ≤ n → n ≤ 1000000 → Spells VariableMark (63 ∷ decimal n)
  mark : (k : Kind) (bs : List ℕ) → mark_text k ≡ Some bs → Spells k bs

-- a byte that belongs to the token before it, since the longest token is taken: `>` (62) behind `-`
-- makes an arrow, and digits are never cut
abbrev pub goes_on : Kind → ℕ → Bool
goes_on Word b = is_word_byte b
goes_on Number b = is_digit b
goes_on FreshName b = is_digit b
goes_on VariableMark b = is_digit b
goes_on Minus b = b == 62
goes_on _ b = false

-- the token of this kind ends before these bytes
abbrev pub is_ended : Kind → List ℕ → Bool
is_ended k [] = true
is_ended k (b ∷ bs) = not (goes_on k b)
