-- Context-free grammars whose productions each begin with a terminal, and the texts that they have.
use Rattle.std.specs.Prelude.{◌≡◌, ℕ, Bool, true, false, cond, List, [], ◌∷◌, ◌++◌, Option, Some}
use Rattle.npa_syntax.specs.declared.production.Occurrence.{Occurrence}
use Rattle.npa_syntax.specs.declared.production.Occurrence.TheVariants.{Once, Optional, Repeated}
use Rattle.npa_syntax.specs.declared.node.Terminal.{Terminal}
use Rattle.npa_syntax.specs.declared.node.Node.{Node, roll-Node}

-- A nonterminal, and how many more brackets may open in it. It is a nonterminal indexed by a
-- number, so a limit of nesting is no more than another grammar.
pub record Nonterminal : Type 0 where
  pub symbol : ℕ
  pub room : ℕ

-- A part of a right side: a nonterminal, and how often it occurs (extended Backus-Naur form).
pub record Piece : Type 0 where
  pub nonterminal : Nonterminal
  pub occurs : Occurrence

-- whether a part can't be left out
abbrev pub is_needed : Occurrence → Bool
is_needed Once = true
is_needed Optional = false
is_needed Repeated = false

-- whether a part may occur again
abbrev pub is_repeated : Occurrence → Bool
is_repeated Once = false
is_repeated Optional = false
is_repeated Repeated = true

-- what is still to come after one occurrence of the first piece
abbrev pub leaving : Piece → List Piece → List Piece
leaving p ps = cond (is_repeated p.occurs) (p ∷ ps) ps

-- The production of a nonterminal that begins with a kind of terminal: the pieces that follow it.
-- Productions that begin with different terminals are simple grammars (Korenjak, Hopcroft 1966).
abbrev pub Rules : Type 0
Rules = Nonterminal → ℕ → Option (List Piece)

-- the tree of a production applied: its nonterminal, its first terminal, the trees of the rest
abbrev pub tree : Nonterminal → Terminal → List Node → Node
tree n t kids = roll-Node (record { symbol = n.symbol; head = t; children = kids })

-- The terminals are a text of the pieces with these trees: a piece that isn't needed is left out,
-- or a piece is a terminal and a text of what its production says.
pub data Spells (rules : Rules) : List Piece → List Terminal → List Node → Type 0 where
  nothing : Spells rules [] [] []
  without : (p : Piece) (ps : List Piece) (ts : List Terminal) (ns : List Node)
      → is_needed p.occurs ≡ false → Spells rules ps ts ns → Spells rules (p ∷ ps) ts ns
  taking : (p : Piece) (ps : List Piece) (t : Terminal) (body : List Piece) (ts us : List Terminal) (kids ns : List Node)
      → rules p.nonterminal t.kind ≡ Some body → Spells rules body ts kids → Spells rules (leaving p ps) us ns
      → Spells rules (p ∷ ps) (t ∷ ts ++ us) (tree p.nonterminal t kids ∷ ns)

-- Some text of the pieces begins with these terminals (a viable prefix).
pub record Begins (rules : Rules) (ps : List Piece) (front : List Terminal) : Type 0 where
  pub more : List Terminal
  pub trees : List Node
  pub spells : Spells rules ps (front ++ more) trees

-- A text goes on from `front` with the next terminal that is left, or ends there where none is.
abbrev pub GoesOn : Rules → List Piece → List Terminal → List Terminal → Type 0
GoesOn rules ps front [] = (trees : List Node) × Spells rules ps front trees
GoesOn rules ps front (t ∷ left) = Begins rules ps (front ++ t ∷ [])

-- The first place of `front ++ left` at which no text can go on is the beginning of `left`.
pub record StopsAt (rules : Rules) (ps : List Piece) (front left : List Terminal) : Type 0 where
  pub begins : Begins rules ps front
  pub stuck : GoesOn rules ps front left → ⊥
