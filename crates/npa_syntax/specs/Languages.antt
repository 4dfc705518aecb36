-- The language of a grammar: which lists of terminals are its texts, with which trees.
use Rattle.std.specs.Prelude.{ℕ, ◌≤◌, List, [], ◌∷◌, ◌++◌, map, length, take, drop}
use Rattle.npa_syntax.specs.declared.production.Part.{Part}
use Rattle.npa_syntax.specs.declared.node.Terminal.{Terminal}
use Rattle.npa_syntax.specs.declared.node.Node.{Node}
use Rattle.npa_syntax.specs.declared.grammar.Grammar.{Grammar}
use Rattle.npa_syntax.specs.Grammars.{Piece, Rules, Spells, Begins, StopsAt}
use Rattle.npa_syntax.specs.Tables.{Rule, plain, piece, rules_of}

-- A grammar as a plain value: its productions, what a text consists of, the nonterminal that opens
-- a bracket, and how many may be open at once.
pub record Language : Type 0 where
  pub productions : List Rule
  pub start : List Part
  pub nesting : ℕ
  pub limit : ℕ

-- the plain value of a grammar of the code
abbrev pub language : Grammar → Language
language g = record { productions = map plain g.productions.now; start = g.start.now; nesting = g.nesting; limit = g.limit }

abbrev pub rules_in : Language → Rules
rules_in l = rules_of l.productions l.nesting

abbrev pub start_in : Language → List Piece
start_in l = map (piece l.limit) l.start

-- The terminals are a text of the language with these trees.
abbrev pub IsText : Language → List Terminal → List Node → Type 0
IsText l ts trees = Spells (rules_in l) (start_in l) ts trees

-- Terminal `at` is the first at which no text can go on; past the last terminal, no text ends there.
pub record FaultAt (l : Language) (ts : List Terminal) (at : ℕ) : Type 0 where
  pub within : at ≤ length ts
  pub stops : StopsAt (rules_in l) (start_in l) (take at ts) (drop at ts)

-- no text goes on from `front` with the next terminal, where there is one
abbrev pub NoneGoesOn : Language → List Terminal → List Terminal → Type 0
NoneGoesOn l front [] = Unit {0}
NoneGoesOn l front (t ∷ left) = Begins (rules_in l) (start_in l) (front ++ t ∷ []) → ⊥

-- The first `end` terminals are a text with these trees, and none goes on with the next terminal.
pub record IsFront (l : Language) (ts : List Terminal) (trees : List Node) (end : ℕ) : Type 0 where
  pub within : end ≤ length ts
  pub text : IsText l (take end ts) trees
  pub longest : NoneGoesOn l (take end ts) (drop end ts)
