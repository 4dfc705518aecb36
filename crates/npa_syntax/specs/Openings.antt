-- How a part of a production begins at a place of the terminals.
use Rattle.std.specs.Prelude.{◌≡◌, ℕ, ◌+◌, ◌<◌, List, ◌∷◌, map, length, drop, Option, Some, None}
use Rattle.std.specs.Borrow.{Bor}
use Rattle.npa_syntax.specs.declared.production.Part.{Part}
use Rattle.npa_syntax.specs.declared.node.Terminal.{Terminal}
use Rattle.npa_syntax.specs.declared.opening.Opening.{Opening}
use Rattle.npa_syntax.specs.Grammars.{Piece, Rules}
use Rattle.npa_syntax.specs.Tables.{piece}
use Rattle.npa_syntax.specs.Automata.{CantBegin}

abbrev pub now_of : Option (Bor (List Part)) → Option (List Part)
now_of None = None
now_of (Some ps) = Some ps.now

-- the next terminal begins the piece by this production
pub record OpensBy (rules : Rules) (p : Piece) (ts : List Terminal) (at : ℕ) (o : Opening) : Type 0 where
  pub within : at < length ts
  pub next : drop at ts ≡ o.head ∷ drop (at + 1) ts
  pub begins : rules p.nonterminal o.head.kind ≡ Some (map (piece o.room) o.parts.now)

-- how the piece begins at a place, None exactly where it can't begin there
abbrev pub IsOpening : Rules → Piece → List Terminal → ℕ → Option Opening → Type 0
IsOpening rules p ts at None = CantBegin rules p (drop at ts)
IsOpening rules p ts at (Some o) = OpensBy rules p ts at o
