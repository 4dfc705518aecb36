-- The deterministic pushdown automaton of a grammar, on kinds of terminals alone: its stack is the
-- list of pieces that are to come. What the reader keeps is said by it.
use Rattle.std.specs.Prelude.{◌≡◌, ℕ, Bool, true, false, cond, List, [], ◌∷◌, ◌++◌, Option, Some, None}
use Rattle.npa_syntax.specs.declared.production.Occurrence.{Occurrence}
use Rattle.npa_syntax.specs.declared.production.Occurrence.TheVariants.{Once, Optional, Repeated}
use Rattle.npa_syntax.specs.declared.node.Terminal.{Terminal}
use Rattle.npa_syntax.specs.declared.node.Node.{Node}
use Rattle.npa_syntax.specs.Grammars.{Piece, Rules, Spells, is_needed, leaving}

-- the first piece is taken where a production of it begins so, else left out where it may be
abbrev pub taken_or : Piece → List Piece → Option (List Piece) → Option (List Piece) → Option (List Piece)
taken_or p ps (Some body) other = Some (body ++ leaving p ps)
taken_or p ps None other = cond (is_needed p.occurs) None other

-- what is to come after a terminal of this kind
abbrev pub after : Rules → ℕ → List Piece → Option (List Piece)
after rules k [] = None
after rules k (p ∷ ps) = taken_or p ps (rules p.nonterminal k) (after rules k ps)

-- whether the text may end here
abbrev pub may_end : List Piece → Bool
may_end [] = true
may_end (p ∷ ps) = cond (is_needed p.occurs) false (may_end ps)

abbrev pub going_on : Option (List Piece) → (List Piece → Option (List Terminal)) → List Terminal → Option (List Terminal)
going_on None next left = Some left
going_on (Some ps) next left = next ps

-- what is left where the automaton can't go on, None where it accepts
abbrev pub fault : Rules → List Terminal → List Piece → Option (List Terminal)
fault rules [] ps = cond (may_end ps) None (Some [])
fault rules (t ∷ ts) ps = going_on (after rules t.kind ps) (λ qs. fault rules ts qs) (t ∷ ts)

-- `more` is empty or begins as `left` does
pub data Follows : List Terminal → List Terminal → Type 0 where
  ends : (left : List Terminal) → Follows left []
  same : (t : Terminal) (left more : List Terminal) → Follows (t ∷ left) (t ∷ more)

-- Reading the pieces takes a text of them up to `left`; whatever is to come after them, the
-- automaton then goes on from there.
pub record Reads (rules : Rules) (ps : List Piece) (ts : List Terminal) (nodes : List Node) (left : List Terminal) : Type 0 where
  pub taken : List Terminal
  pub all : ts ≡ taken ++ left
  pub spells : Spells rules ps taken nodes
  pub onward : (more : List Terminal) → Follows left more → (st : List Piece) → fault rules (taken ++ more) (ps ++ st) ≡ fault rules more st

-- Reading the pieces can't go on at `left`, whatever is to come after them.
pub record Stuck (rules : Rules) (ps : List Piece) (ts left : List Terminal) : Type 0 where
  pub front : List Terminal
  pub all : ts ≡ front ++ left
  pub stuck : (more : List Terminal) → Follows left more → (st : List Piece) → fault rules (front ++ more) (ps ++ st) ≡ Some more

-- The pieces but for the `rest` are read, with these nodes, up to `left`.
pub record Pending (rules : Rules) (ps rest : List Piece) (ts : List Terminal) (nodes : List Node) (left : List Terminal) : Type 0 where
  pub taken : List Terminal
  pub all : ts ≡ taken ++ left
  pub spells : (us : List Terminal) (ms : List Node) → Spells rules rest us ms → Spells rules ps (taken ++ us) (nodes ++ ms)
  pub onward : (more : List Terminal) → Follows left more → (st : List Piece) → fault rules (taken ++ more) (ps ++ st) ≡ fault rules more (rest ++ st)

-- a piece can't begin with the next terminal, or there is none
abbrev pub CantBegin : Rules → Piece → List Terminal → Type 0
CantBegin rules p [] = Unit {0}
CantBegin rules p (t ∷ ts) = rules p.nonterminal t.kind ≡ None

-- how many pieces are done with after one occurrence of the first
abbrev pub passed_by : Occurrence → ℕ
passed_by Once = 1
passed_by Optional = 1
passed_by Repeated = 0
