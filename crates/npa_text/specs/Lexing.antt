-- The tokens of a text, as a relation between bytes and tokens. The longest token is taken, as is usual
-- in lexical analysis (Aho, Sethi, Ullman 1986). Between tokens stand only blanks and comments, and a
-- comment goes from `//` (47 47) to the end of its line.
use Rattle.std.specs.Prelude.{ℕ, Bool, false, ◌==◌, ◌&&◌, List, [], ◌∷◌, ◌++◌, ◌+◌, ◌≡◌, IsTrue, Option, Some, None, length}
use Rattle.std.specs.List.{list_all}
use Rattle.npa_text.specs.declared.token.Kind.{Kind}
use Rattle.npa_text.specs.declared.token.Token.{Token}
use Rattle.npa_text.specs.declared.place.Place.{Place}
use Rattle.npa_text.specs.Bytes.{is_blank, is_in_line, run, begins_with}
use Rattle.npa_text.specs.Places.{first_place, moved, moved_over}
use Rattle.npa_text.specs.Lexemes.{Spells, is_ended}

-- a comment begins here
abbrev pub begins_comment : ℕ → List ℕ → Bool
begins_comment b bs = b == 47 && begins_with 47 bs

-- the token of a kind whose bytes stand from `start` to before `end`, and whose first byte stands at p
abbrev pub token_between : Kind → ℕ → ℕ → Place → Token
token_between k start end p = record { kind = k; start = start; end = end; line = p.line; col = p.col }

-- neither a blank nor a comment nor a token begins at b
pub record NothingBegins (b : ℕ) (bs : List ℕ) : Type 0 where
  pub no_blank : is_blank b ≡ false
  pub no_comment : begins_comment b bs ≡ false
  pub no_token : (k : Kind) (text rest : List ℕ) → b ∷ bs ≡ text ++ rest → Spells k text → IsTrue (is_ended k rest) → ⊥

-- bytes that stand from `at` and the place p on have these tokens, up to the first byte at which
-- nothing begins: the fault is that byte's place, if there is one
pub data Lexes : ℕ → Place → List ℕ → List Token → Option Place → Type 0 where
  ended : (at : ℕ) (p : Place) → Lexes at p [] [] None
  blank : (at : ℕ) (p : Place) (b : ℕ) (rest : List ℕ) (ts : List Token) (fault : Option Place)
      → IsTrue (is_blank b) → Lexes (at + 1) (moved b p) rest ts fault → Lexes at p (b ∷ rest) ts fault
  comment : (at : ℕ) (p : Place) (line rest : List ℕ) (ts : List Token) (fault : Option Place)
      → IsTrue (list_all is_in_line line) → run is_in_line rest ≡ 0
      → Lexes (at + length (47 ∷ 47 ∷ line)) (moved_over (47 ∷ 47 ∷ line) p) rest ts fault
      → Lexes at p (47 ∷ 47 ∷ line ++ rest) ts fault
  token : (at : ℕ) (p : Place) (k : Kind) (text rest : List ℕ) (ts : List Token) (fault : Option Place)
      → Spells k text → IsTrue (is_ended k rest)
      → Lexes (at + length text) (moved_over text p) rest ts fault
      → Lexes at p (text ++ rest) (token_between k at (at + length text) p ∷ ts) fault
  stuck : (at : ℕ) (p : Place) (b : ℕ) (rest : List ℕ) → NothingBegins b rest → Lexes at p (b ∷ rest) [] (Some p)

-- the tokens of a text all of which is tokens, blanks and comments
abbrev pub AreTokens : List ℕ → List Token → Type 0
AreTokens bytes ts = Lexes 0 first_place bytes ts None
