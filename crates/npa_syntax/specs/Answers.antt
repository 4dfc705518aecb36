-- What the readers answer.
use Rattle.std.specs.Prelude.{◌≡◌, ℕ, ◌≤◌, List, Result, Ok, Err, length, drop}
use Rattle.npa_syntax.specs.declared.node.Terminal.{Terminal}
use Rattle.npa_syntax.specs.declared.node.Node.{Node}
use Rattle.npa_syntax.specs.declared.fault.ReadFault.{ReadFault}
use Rattle.npa_syntax.specs.declared.fault.ReadFault.TheVariants.{Syntax, NoMemory}
use Rattle.npa_syntax.specs.Grammars.{Piece, Rules}
use Rattle.npa_syntax.specs.Automata.{Reads, Stuck}
use Rattle.npa_syntax.specs.Languages.{Language, IsText, IsFront, FaultAt}

-- the answer is this one, unless memory is wanting
abbrev pub Answers : {A : Type 0} → Result A ReadFault → A → Type 0
Answers (Ok found) wanted = found ≡ wanted
Answers (Err (Syntax at)) wanted = ⊥
Answers (Err NoMemory) wanted = Unit {0}

-- Whichever trees the terminals have as a text, they are answered; so a text has one list of trees.
pub record AnswersText (l : Language) (ts : List Terminal) (result : Result (List Node) ReadFault) : Type 0 where
  pub every : (trees : List Node) → IsText l ts trees → Answers result trees

-- Whichever front the terminals have, it is answered; so there is one.
pub record AnswersFront (l : Language) (ts : List Terminal) (result : Result (List Node × ℕ) ReadFault) : Type 0 where
  pub every : (trees : List Node) (end : ℕ) → IsFront l ts trees end → Answers result (trees, end)

-- a place that is answered is the first at which no text can go on
abbrev pub PlacesFault : {A : Type 0} → Language → List Terminal → Result A ReadFault → Type 0
PlacesFault l ts (Ok found) = Unit {0}
PlacesFault l ts (Err (Syntax at)) = FaultAt l ts at
PlacesFault l ts (Err NoMemory) = Unit {0}

-- the pieces are read from one place to another
pub record ReadsBetween (rules : Rules) (ps : List Piece) (ts : List Terminal) (from : ℕ) (nodes : List Node) (end : ℕ) : Type 0 where
  pub forward : from ≤ end
  pub within : end ≤ length ts
  pub reads : Reads rules ps (drop from ts) nodes (drop end ts)

-- the pieces can't be read past a place
pub record StuckAt (rules : Rules) (ps : List Piece) (ts : List Terminal) (from at : ℕ) : Type 0 where
  pub forward : from ≤ at
  pub within : at ≤ length ts
  pub stuck : Stuck rules ps (drop from ts) (drop at ts)

-- the reader of pieces answers what the automaton does
abbrev pub ReadsOrStops : Rules → List Piece → List Terminal → ℕ → Result (List Node × ℕ) ReadFault → Type 0
ReadsOrStops rules ps ts from (Ok r) = ReadsBetween rules ps ts from r.0 r.1
ReadsOrStops rules ps ts from (Err (Syntax at)) = StuckAt rules ps ts from at
ReadsOrStops rules ps ts from (Err NoMemory) = Unit {0}
