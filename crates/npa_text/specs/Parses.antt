-- The texts of a grammar as bytes: tokens throughout, whose terminals are one of its texts; and the
-- first place at which no text can go on.
use Rattle.std.specs.Prelude.{ℕ, ◌≡◌, ◌+◌, List, [], ◌∷◌, ◌++◌, Option, Some, None, Result, Ok, Err}
use Rattle.npa_syntax.specs.declared.node.Terminal.{Terminal}
use Rattle.npa_syntax.specs.declared.node.Node.{Node}
use Rattle.npa_syntax.specs.Grammars.{Begins}
use Rattle.npa_syntax.specs.Languages.{Language, rules_in, start_in, IsText}
use Rattle.npa_text.specs.declared.token.Token.{Token}
use Rattle.npa_text.specs.declared.place.Place.{Place}
use Rattle.npa_text.specs.declared.fault.TextFault.{TextFault}
use Rattle.npa_text.specs.declared.fault.TextFault.TheVariants.{Syntax, NoMemory}
use Rattle.npa_text.specs.declared.parser.Parsed.{Parsed}
use Rattle.npa_text.specs.Places.{first_place, end_place}
use Rattle.npa_text.specs.Lexing.{Lexes, AreTokens}
use Rattle.npa_text.specs.Terminals.{terminal_of}

-- the terminals of tokens the first of which stands at a place of their list
abbrev pub terminals_from : ℕ → List ℕ → List Token → List Terminal
terminals_from at bytes [] = []
terminals_from at bytes (t ∷ ts) = record { kind = terminal_of bytes t; at = at } ∷ terminals_from (at + 1) bytes ts

-- the terminals of all tokens of a text
abbrev pub terminals_of : List ℕ → List Token → List Terminal
terminals_of bytes tokens = terminals_from 0 bytes tokens

-- The bytes are a text of the language: these tokens throughout, and these trees of their terminals.
pub record IsParse (l : Language) (bytes : List ℕ) (tokens : List Token) (nodes : List Node) : Type 0 where
  pub lexes : AreTokens bytes tokens
  pub text : IsText l (terminals_of bytes tokens) nodes

-- ## The first fault

abbrev pub place_of : Token → Place
place_of t = record { line = t.line; col = t.col }

-- the place of the first of the tokens that are left, or else of the byte behind them that begins
-- no token, or else of the end of the text
abbrev pub place_at : List ℕ → List Token → Option Place → Place
place_at bytes (t ∷ left) broken = place_of t
place_at bytes [] (Some p) = p
place_at bytes [] None = end_place bytes

-- No text goes on from the tokens in front, the first of which stands at `from`, with the token that
-- follows; nothing goes on with what is no token; where nothing follows, no text ends.
abbrev pub CannotGoOn : Language → List ℕ → ℕ → List Token → List Token → Option Place → Type 0
CannotGoOn l bytes from front (t ∷ left) broken = Begins (rules_in l) (start_in l) (terminals_from from bytes (front ++ t ∷ [])) → ⊥
CannotGoOn l bytes from front [] (Some p) = Unit {0}
CannotGoOn l bytes from front [] None = (trees : List Node) → IsText l (terminals_from from bytes front) trees → ⊥

-- The tokens in front begin some text, and with what follows them none goes on: that is the place.
pub record StopsBehind (l : Language) (bytes : List ℕ) (from : ℕ) (front left : List Token) (broken : Option Place) (line col : ℕ) : Type 0 where
  pub begins : Begins (rules_in l) (start_in l) (terminals_from from bytes front)
  pub stuck : CannotGoOn l bytes from front left broken
  pub place : place_at bytes left broken ≡ record { line = line; col = col }

-- The first place of the bytes at which no text of the language can go on (the viable-prefix property:
-- Aho, Sethi, Ullman 1986): a token that can't follow those in front, a byte that begins no token, or
-- the end.
pub record IsFirstFault (l : Language) (bytes : List ℕ) (line col : ℕ) : Type 0 where
  pub front : List Token
  pub left : List Token
  pub broken : Option Place
  pub lexes : Lexes 0 first_place bytes (front ++ left) broken
  pub stops : StopsBehind l bytes 0 front left broken line col

-- ## The answers of a reader

-- the answer is this one, unless memory was wanting
abbrev pub Answers : {A : Type 0} → Result A TextFault → A → Type 0
Answers (Ok found) wanted = found ≡ wanted
Answers (Err (Syntax line col)) wanted = ⊥
Answers (Err NoMemory) wanted = Unit {0}

-- Whichever tokens and trees the bytes have are answered; so a text has one list of trees.
pub record AnswersParse (l : Language) (bytes : List ℕ) (result : Result Parsed TextFault) : Type 0 where
  pub every : (tokens : List Token) (nodes : List Node) → IsParse l bytes tokens nodes → Answers result (record { tokens = tokens; nodes = nodes })

-- a place that is answered is the first fault
abbrev pub PlacesFirstFault : {A : Type 0} → Language → List ℕ → Result A TextFault → Type 0
PlacesFirstFault l bytes (Ok found) = Unit {0}
PlacesFirstFault l bytes (Err (Syntax line col)) = IsFirstFault l bytes line col
PlacesFirstFault l bytes (Err NoMemory) = Unit {0}

-- this place is the answer, unless memory was wanting
abbrev pub Refuses : {A : Type 0} → Result A TextFault → ℕ → ℕ → Type 0
Refuses (Ok found) line col = ⊥
Refuses (Err (Syntax at_line at_col)) line col = (at_line ≡ line) × (at_col ≡ col)
Refuses (Err NoMemory) line col = Unit {0}

-- Wherever the bytes have their first fault is answered; so there is one such place, and a text of the
-- language has none.
pub record AnswersFirstFault (l : Language) (bytes : List ℕ) (result : Result Parsed TextFault) : Type 0 where
  pub every : (line col : ℕ) → IsFirstFault l bytes line col → Refuses result line col
