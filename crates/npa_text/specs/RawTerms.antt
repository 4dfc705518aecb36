-- The term that begins at a token of a text.
use Rattle.std.specs.Prelude.{ℕ, ◌≡◌, ◌+◌, List, [], ◌∷◌, ◌++◌, drop, None, Result, Ok, Err}
use Rattle.npa_syntax.specs.declared.node.Node.{Node}
use Rattle.npa_syntax.specs.Languages.{IsText, IsFront}
use Rattle.npa_text.specs.declared.token.Token.{Token}
use Rattle.npa_text.specs.declared.token.Raw.{Raw}
use Rattle.npa_text.specs.declared.fault.TextFault.{TextFault}
use Rattle.npa_text.specs.declared.fault.TextFault.TheVariants.{Syntax, NoMemory}
use Rattle.npa_text.specs.Languages.{term_language}
use Rattle.npa_text.specs.Parses.{terminals_from, StopsBehind}
use Rattle.npa_text.specs.Raws.{raw_of}

-- The tokens from one place to before another are a term, and no term goes on from them with the next
-- token: where `(` follows the name, its arguments belong to the term.
pub record IsTermAt (bytes : List ℕ) (tokens : List Token) (from : ℕ) (term : Raw) (end : ℕ) : Type 0 where
  pub tree : Node
  pub count : ℕ
  pub front : IsFront term_language (terminals_from from bytes (drop from tokens)) (tree ∷ []) count
  pub end_is : end ≡ from + count
  pub term_is : term ≡ raw_of tokens tree

-- The first place behind a token, or at it, at which no term that begins there can go on, where what
-- stands in front of that place is no term itself.
pub record IsTermFault (bytes : List ℕ) (tokens : List Token) (from line col : ℕ) : Type 0 where
  pub front : List Token
  pub left : List Token
  pub all : drop from tokens ≡ front ++ left
  pub stops : StopsBehind term_language bytes from front left None line col
  pub unfinished : (trees : List Node) → IsText term_language (terminals_from from bytes front) trees → ⊥

-- this term and this end are the answer, unless memory was wanting
abbrev pub GivesTerm : Result Raw TextFault → ℕ → Raw → ℕ → Type 0
GivesTerm (Ok found) at term end = (found ≡ term) × (at ≡ end)
GivesTerm (Err (Syntax line col)) at term end = ⊥
GivesTerm (Err NoMemory) at term end = Unit {0}

-- Whichever term begins at the token is answered with its end; so there is one.
pub record AnswersTerm (bytes : List ℕ) (tokens : List Token) (from : ℕ) (result : Result Raw TextFault) (at : ℕ) : Type 0 where
  pub every : (term : Raw) (end : ℕ) → IsTermAt bytes tokens from term end → GivesTerm result at term end

-- a place that is answered is the first at which no term can go on
abbrev pub PlacesTermFault : List ℕ → List Token → ℕ → Result Raw TextFault → Type 0
PlacesTermFault bytes tokens from (Ok found) = Unit {0}
PlacesTermFault bytes tokens from (Err (Syntax line col)) = IsTermFault bytes tokens from line col
PlacesTermFault bytes tokens from (Err NoMemory) = Unit {0}
